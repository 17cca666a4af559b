-- What grows: one change after another.
use Rattle.std.proofs.Common.{◌≡◌, ℕ, zero, suc, ◌+◌, ◌≤◌, ◌<◌, List, [], ◌∷◌, ◌++◌, length, length-append, Some, slice_get, refl, arith}
use Rattle.scc_elab_spec.specs.Program.{Plain}
use Rattle.scc_elab_spec.specs.Design.{Object}
use Rattle.scc_elab_spec.specs.Grown.{Grown}
use Rattle.scc_elab_growth_laws.specs.Changes.{Change, Word, Aim, New, Vector, Turn, Bind, Process, Items, Reset, Add, changed_by, IsAllowed, IsModule, Grows, Same, Then}

slice_get-front : {A : Type 0} (xs ys : List A) (n : ℕ) (o : A) → slice_get xs n ≡ Some o → slice_get (xs ++ ys) n ≡ Some o
slice_get-front [] ys n o e = cc
slice_get-front (x ∷ xs) ys zero o e = e
slice_get-front (x ∷ xs) ys (suc n) o e = slice_get-front xs ys n o e

module _ {p : Plain} {g : Grown} where
  pub grows-then : {h k : Grown} → Grows p g h → Grows p h k → Grows p g k
  grows-then a Same = a
  grows-then a (Then h b c d) = Then h (grows-then a b) c d

  pub grows-one : (c : Change) → IsAllowed p g c → Grows p g (changed_by c g)
  grows-one c d = Then g Same c d

  -- what each change keeps
  pub kept : (P : Grown → Type 0) → ((h : Grown) (c : Change) → IsAllowed p h c → P h → P (changed_by c h)) → {h : Grown} → Grows p g h → P g → P h
  kept P f Same x = x
  kept P f (Then h a c d) x = f h c d (kept P f a x)

-- each object stays
slice-step : (p : Plain) (n : ℕ) (o : Object) (h : Grown) (c : Change) → IsAllowed p h c → slice_get h.objects n ≡ Some o → slice_get (changed_by c h).objects n ≡ Some o
slice-step p n o h (Add path place node) a e = slice_get-front h.objects (record { path = path; place = place; node = node } ∷ []) n o e
slice-step p n o h (Word l w) a e = e
slice-step p n o h (Aim l t) a e = e
slice-step p n o h (New path) a e = e
slice-step p n o h (Vector path m) a e = e
slice-step p n o h Turn a e = e
slice-step p n o h (Bind b) a e = e
slice-step p n o h (Process d) a e = e
slice-step p n o h (Items k is) a e = e
slice-step p n o h (Reset k r) a e = e

pub slice-kept : {p : Plain} {g h : Grown} (n : ℕ) (o : Object) → Grows p g h → slice_get g.objects n ≡ Some o → slice_get h.objects n ≡ Some o
slice-kept {p} n o a e = kept (λ h. slice_get h.objects n ≡ Some o) (slice-step p n o) a e

-- within the limits, with so many objects and turns at least
pub record IsIn (n t : ℕ) (g : Grown) : Type 0 where
  pub low : n ≤ length g.objects
  pub high : length g.objects ≤ 65536
  pub least : t ≤ g.turns
  pub most : g.turns ≤ 65536

one_more : (n k : ℕ) (m : ℕ) → m ≡ n + 1 → n < 65536 → k ≤ n → (k ≤ m) × (m ≤ 65536)
one_more n k m e a b = (omega arith, omega arith)

in-step : (p : Plain) (n t : ℕ) (h : Grown) (c : Change) → IsAllowed p h c → IsIn n t h → IsIn n t (changed_by c h)
in-step p n t h (Add path place node) a i = let m = one_more (length h.objects) n (length (h.objects ++ record { path = path; place = place; node = node } ∷ [])) (length-append h.objects (record { path = path; place = place; node = node } ∷ [])) a.0 i.low in
    record { low = m.0; high = m.1; least = i.least; most = i.most }
in-step p n t h Turn a i = let m = one_more h.turns t (h.turns + 1) refl a i.least in record { low = i.low; high = i.high; least = m.0; most = m.1 }
in-step p n t h (Word l w) a i = record { low = i.low; high = i.high; least = i.least; most = i.most }
in-step p n t h (Aim l o) a i = record { low = i.low; high = i.high; least = i.least; most = i.most }
in-step p n t h (New path) a i = record { low = i.low; high = i.high; least = i.least; most = i.most }
in-step p n t h (Vector path m) a i = record { low = i.low; high = i.high; least = i.least; most = i.most }
in-step p n t h (Bind b) a i = record { low = i.low; high = i.high; least = i.least; most = i.most }
in-step p n t h (Process d) a i = record { low = i.low; high = i.high; least = i.least; most = i.most }
in-step p n t h (Items k is) a i = record { low = i.low; high = i.high; least = i.least; most = i.most }
in-step p n t h (Reset k r) a i = record { low = i.low; high = i.high; least = i.least; most = i.most }

pub in-kept : {p : Plain} {g h : Grown} (n t : ℕ) → Grows p g h → IsIn n t g → IsIn n t h
in-kept {p} n t a i = kept (IsIn n t) (in-step p n t) a i

pub module-kept : {p : Plain} {g h : Grown} (n : ℕ) → Grows p g h → IsModule g n → IsModule h n
module-kept n a m = record { object = m.object; there = slice-kept n m.object a m.there; is_one = m.is_one }
