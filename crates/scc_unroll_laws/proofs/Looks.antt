-- The first loop of a walk.
use Rattle.std.proofs.Common.{◌≡◌, refl, sym, ap, ◌∙◌, arith, ℕ, ◌+◌, Bool, true, false, List, [], ◌∷◌, ◌++◌, Option, Some, None, option_map}
use Rattle.scc_base.specs.declared.refusal.Place.{Place}
use Rattle.scc_core.specs.declared.stmt.CoreStmt.{CoreStmt}
use Rattle.scc_core.specs.declared.stmt.CoreNode.TheOpen.{CoreNode-F}
use Rattle.scc_core.specs.declared.stmt.CoreNode.TheOpen as node
use Rattle.scc_core_spec.specs.Term.{Term}
use Rattle.scc_core_spec.specs.Code.{Code, Count, End, If, Block, Loop, size, holds_wait}
use Rattle.scc_core_spec.specs.Counted.{Counter, Counting, First, Elsewhere, Setting, Stand, around, counted_by, counter}
use Rattle.scc_core_view.specs.Codes.{Node, stmt_node, stmt_code}
use Rattle.scc_unroll_laws.specs.Heads.{head_size, simple, stand_behind}
use Rattle.scc_unroll_laws.proofs.Heads.{each_stmt}
use Rattle.scc_core_spec.specs.First.{or_else}
use Rattle.scc_core_spec.specs.Unrolled.{Spot, first_spot, spots_if, uncounted}
use Rattle.scc_unroll_laws.specs.Spots.{is_left, looked_into}

pub first_both : (xs ys : List Spot) → first_spot (xs ++ ys) ≡ or_else (first_spot xs) (first_spot ys)
first_both [] ys = refl
first_both (x ∷ xs) ys = refl

append_assoc : (xs ys zs : List Spot) → xs ++ (ys ++ zs) ≡ (xs ++ ys) ++ zs
append_assoc [] ys zs = refl
append_assoc (x ∷ xs) ys zs = ap (λ l. x ∷ l) (append_assoc xs ys zs)

-- the loops of a loop and of what stands in it, before those of what follows it
pub loop_looks : (s : Setting) (ns : List Counter) (w : Stand) (n : ℕ) (p : Place) (c : Option Count) (b r : Code)
    → uncounted s ns w n (Loop p c b r) ≡ looked_into s ns (counted_by s ns w c b r) (record { number = n; place = p }) b ++ uncounted s ns Elsewhere (n + (1 + size b)) r
loop_looks s ns w n p c b r = by (holds_wait b) (counted_by s ns w c b r) (record { number = n; place = p } ∷ []) (uncounted s (around ns (counted_by s ns w c b r)) Elsewhere (n + 1) b) (uncounted s ns Elsewhere (n + (1 + size b)) r)
  where
    by : (h : Bool) (g : Option Counting) (xs ys zs : List Spot) → spots_if (is_left h g) xs ++ (ys ++ zs) ≡ (spots_if (is_left h g) xs ++ ys) ++ zs
    by h g xs ys zs = append_assoc (spots_if (is_left h g) xs) ys zs

-- ---- statements in which no other stands

abbrev pub SimpleLook : (Code → Code) → Type 0
SimpleLook f = simple (f End) ≡ true → (s : Setting) (ns : List Counter) (w : Stand) (n : ℕ) (r : Code) → uncounted s ns w n (f r) ≡ uncounted s ns (stand_behind w (f End)) (n + head_size (f End)) r

simple_looks : (y : CoreNode-F Node (Code → Code)) (p : Place) → SimpleLook (stmt_node y p)
simple_looks (node.Assign l e) p h = λ s ns w n r. refl
simple_looks (node.If t a b) p h = absurd (cc h)
simple_looks (node.Block b) p h = absurd (cc h)
simple_looks (node.Loop c b) p h = absurd (cc h)
simple_looks (node.Exit d) p h = λ s ns w n r. refl
simple_looks (node.Wait d) p h = λ s ns w n r. refl
simple_looks (node.Alias to target) p h = λ s ns w n r. refl

pub simple_look : (s : CoreStmt) → SimpleLook (stmt_code s)
simple_look = each_stmt SimpleLook simple_looks

-- ---- statements in which others stand

or_assoc : (a b c : Option Spot) → or_else a (or_else b c) ≡ or_else (or_else a b) c
or_assoc None b c = refl
or_assoc (Some a) b c = refl

behind_one : (n a : ℕ) → (n + 1) + a ≡ n + (1 + a)
behind_one n a = omega arith

module _ (s : Setting) (ns : List Counter) (w : Stand) (n m : ℕ) (p : Place) (e : m ≡ n + 1) (o : Option Spot) where
  pub look_if : (t : Term) (x y r : Code) → o ≡ or_else (first_spot (uncounted s ns Elsewhere m x)) (first_spot (uncounted s ns Elsewhere (m + size x) y))
      → first_spot (uncounted s ns w n (If p t x y r)) ≡ or_else o (first_spot (uncounted s ns Elsewhere (n + (1 + (size x + size y))) r))
  look_if t x y r h =
      let a = uncounted s ns Elsewhere (n + 1) x in
      let b = uncounted s ns Elsewhere (n + (1 + size x)) y in
      let c = uncounted s ns Elsewhere (n + (1 + (size x + size y))) r in
      let k : o ≡ or_else (first_spot a) (first_spot b) =
      h ∙ ap (λ m. or_else (first_spot (uncounted s ns Elsewhere m x)) (first_spot (uncounted s ns Elsewhere (m + size x) y))) e
      ∙ ap (λ m. or_else (first_spot a) (first_spot (uncounted s ns Elsewhere m y))) (behind_one n (size x)) in
      first_both a (b ++ c) ∙ ap (or_else (first_spot a)) (first_both b c) ∙ or_assoc (first_spot a) (first_spot b) (first_spot c) ∙ ap (λ z. or_else z (first_spot c)) (sym k)

  pub look_block : (x r : Code) → o ≡ first_spot (uncounted s ns First m x) → first_spot (uncounted s ns w n (Block p x r)) ≡ or_else o (first_spot (uncounted s ns Elsewhere (n + (1 + size x)) r))
  look_block x r h =
      first_both (uncounted s ns First (n + 1) x) (uncounted s ns Elsewhere (n + (1 + size x)) r)
      ∙ ap (λ z. or_else z (first_spot (uncounted s ns Elsewhere (n + (1 + size x)) r))) (sym (h ∙ ap (λ m. first_spot (uncounted s ns First m x)) e))

pub look_loop : (s : Setting) (ns : List Counter) (w : Stand) (n : ℕ) (p : Place) (o : Option Spot) (c : Option Count) (b r : Code)
    → o ≡ first_spot (looked_into s ns (counted_by s ns w c b r) (record { number = n; place = p }) b)
    → first_spot (uncounted s ns w n (Loop p c b r)) ≡ or_else o (first_spot (uncounted s ns Elsewhere (n + (1 + size b)) r))
look_loop s ns w n p o c b r h =
    let a = looked_into s ns (counted_by s ns w c b r) (record { number = n; place = p }) b in
    let d = uncounted s ns Elsewhere (n + (1 + size b)) r in
    ap first_spot (loop_looks s ns w n p c b r) ∙ first_both a d ∙ ap (λ z. or_else z (first_spot d)) (sym h)

-- ---- a loop

some_same : {A : Type 0} {a b : A} → Some a ≡ Some b → a ≡ b
some_same {A = A} {a = a} e = ap unwrapped e
  where
    unwrapped : Option A → A
    unwrapped None = a
    unwrapped (Some x) = x

counted_is_none : (h : Bool) (g : Counting) → is_left h (Some g) ≡ false
counted_is_none true g = refl
counted_is_none false g = refl

module _ (s : Setting) (ns : List Counter) (q : Spot) (b : Code) (m : ℕ) (e : m ≡ q.number + 1) where
  abbrev left_in : Bool → Option Counting → List Spot
  left_in h g = spots_if (is_left h g) (q ∷ []) ++ uncounted s (around ns g) Elsewhere (q.number + 1) b

  pub look_counted : (g : Option Counting) (n : ℕ) (ms : List Counter) (o : Option Spot) → Some n ≡ option_map (λ x. x.cell) g → ms ≡ counter n 0 ∷ ns
      → o ≡ first_spot (uncounted s ms Elsewhere m b) → o ≡ first_spot (looked_into s ns g q b)
  look_counted None n ms o i k h = absurd (cc i)
  look_counted (Some g) n ms o i k h =
      h ∙ ap (λ z. first_spot (uncounted s z Elsewhere m b)) (k ∙ ap (λ z. counter z 0 ∷ ns) (some_same i))
      ∙ ap (λ z. first_spot (uncounted s (counter g.cell 0 ∷ ns) Elsewhere z b)) e
      ∙ sym (ap (λ z. first_spot (spots_if z (q ∷ []) ++ uncounted s (counter g.cell 0 ∷ ns) Elsewhere (q.number + 1) b)) (counted_is_none (holds_wait b) g))

  pub look_waits : (g : Option Counting) (o : Option Spot) → None ≡ option_map (λ x. x.cell) g → holds_wait b ≡ true → o ≡ first_spot (uncounted s ns Elsewhere m b) → o ≡ first_spot (looked_into s ns g q b)
  look_waits (Some g) o i w h = absurd (cc i)
  look_waits None o i w h = h ∙ ap (λ z. first_spot (uncounted s ns Elsewhere z b)) e ∙ sym (ap (λ z. first_spot (left_in z None)) w)

  pub look_left : (g : Option Counting) → None ≡ option_map (λ x. x.cell) g → holds_wait b ≡ false → Some q ≡ first_spot (looked_into s ns g q b)
  look_left (Some g) i w = absurd (cc i)
  look_left None i w = sym (ap (λ z. first_spot (left_in z None)) w)
