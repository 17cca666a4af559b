-- Lists that go on, as those of the locals of a body do.
use Rattle.std.proofs.Common.{◌≡◌, ℕ, zero, suc, ◌+◌, ◌<◌, ◌≤◌, Bool, true, false, List, [], ◌∷◌, ◌++◌, length, Option, Some, None, option_map, unwrap_or, slice_get, refl, sym, ap, ◌∙◌, subst, arith}
use Rattle.std.specs.Prelude.{nat_lt}
use Rattle.scc_elab_spec.specs.Term.{Left, Local, Answer, This, Follow, Index}
use Rattle.scc_elab_spec.specs.Term as term
use Rattle.scc_elab_spec.specs.Program.{Reach}
use Rattle.scc_elab_spec.specs.Types.{is_reference}
use Rattle.scc_plain_bounds_laws.specs.Within.{is_object}

pub lt-true : (m n : ℕ) → m < n → nat_lt m n ≡ true
lt-true m n e = grind arith

pub lt-is : (m n : ℕ) → nat_lt m n ≡ true → m < n
lt-is m n e = grind arith

-- the second goes on behind the first
pub record Before {A : Type 0} (xs ys : List A) : Type 0 where
  pub more : List A
  pub whole : xs ++ more ≡ ys

end-is : {A : Type 0} (xs : List A) → xs ++ [] ≡ xs
end-is [] = refl
end-is (x ∷ xs) = ap (λ ys. x ∷ ys) (end-is xs)

joined-is : {A : Type 0} (xs ys zs : List A) → (xs ++ ys) ++ zs ≡ xs ++ (ys ++ zs)
joined-is [] ys zs = refl
joined-is (x ∷ xs) ys zs = ap (λ us. x ∷ us) (joined-is xs ys zs)

pub same : {A : Type 0} (xs : List A) → Before xs xs
same xs = record { more = []; whole = end-is xs }

pub on : {A : Type 0} {xs ys zs : List A} → Before xs ys → Before ys zs → Before xs zs
on {A} {xs} {ys} {zs} f g = record { more = f.more ++ g.more; whole = sym (joined-is xs f.more g.more) ∙ (ap (λ us. us ++ g.more) f.whole ∙ g.whole) }

pub next : {A : Type 0} (xs : List A) (x : A) → Before xs (xs ++ x ∷ [])
next xs x = record { more = x ∷ []; whole = refl }

length-joined : {A : Type 0} (xs ys : List A) → length (xs ++ ys) ≡ length xs + length ys
length-joined [] ys = omega arith
length-joined (x ∷ xs) ys = let h = length-joined xs ys in omega (arith, h)

pub length-next : {A : Type 0} (xs : List A) (x : A) → length (xs ++ x ∷ []) ≡ length xs + 1
length-next xs x = length-joined xs (x ∷ [])

pub longer : {A : Type 0} {xs ys : List A} → Before xs ys → length xs ≤ length ys
longer {A} {xs} {ys} f = subst (λ ys. length xs ≤ length ys) f.whole (let h = length-joined xs f.more in omega (arith, h))

pub later : {A : Type 0} (n : ℕ) (xs ys : List A) → Before xs ys → nat_lt n (length xs) ≡ true → nat_lt n (length ys) ≡ true
later n xs ys f e = lt-true n (length ys) (let h = longer f in let x = lt-is n (length xs) e in omega (arith, h, x))

get-more : {A : Type 0} (xs ys : List A) (n : ℕ) (x : A) → slice_get xs n ≡ Some x → slice_get (xs ++ ys) n ≡ Some x
get-more [] ys n x e = absurd cc
get-more (y ∷ xs) ys zero x e = e
get-more (y ∷ xs) ys (suc n) x e = get-more xs ys n x e

-- an object is one where further locals are declared
pub object-later : (xs ys : List Reach) → Before xs ys → (l : Left) → is_object xs l ≡ true → is_object ys l ≡ true
object-later xs ys f (Local p n) e = by (slice_get xs n) refl e
  where
    by : (o : Option Reach) → slice_get xs n ≡ o → unwrap_or (option_map is_reference o) false ≡ true → unwrap_or (option_map is_reference (slice_get ys n)) false ≡ true
    by None g e = absurd cc
    by (Some r) g e = ap (λ o. unwrap_or (option_map is_reference o) false) (ap (λ ys. slice_get ys n) (sym f.whole) ∙ get-more xs f.more n r g) ∙ e
object-later xs ys f (Answer p n) e = absurd cc
object-later xs ys f (This p) e = refl
object-later xs ys f (Follow p l) e = refl
object-later xs ys f (term.Member l m) e = object-later xs ys f l e
object-later xs ys f (Index l i) e = object-later xs ys f l e
