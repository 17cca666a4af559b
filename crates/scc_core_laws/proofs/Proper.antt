-- Words that fit at a core's cells, and that hold what no process writes, are proper.
use Rattle.std.proofs.Common.{◌≡◌, ℕ, suc, ◌+◌, ◌<◌, ◌^◌, Bool, true, false, not, ◌&&◌, List, [], ◌∷◌, find, Option, Some, None, refl, sym, ap, ◌∙◌, subst, arith, if◌then◌else◌, slice_get}
use Rattle.std.specs.Prelude.{option_and_then}
use Rattle.scc_bits_kinds.specs.Kinds.{width_of}
use Rattle.scc_semantics.specs.Location.{Location, same}
use Rattle.scc_semantics.specs.Run.{FitsThing}
use Rattle.scc_semantics.specs.Start.{IsProper, HoldsConstant}
use Rattle.scc_semantics_laws.proofs.Places.{same-is}
use Rattle.scc_core_spec.specs.Constants.{written, constant_from, constant_if, constants_of}
use Rattle.scc_core_spec.specs.Program as program
use Rattle.scc_core_spec.specs.Program.{Program, Sort, Input, Output, Signal, Variable, Local, Pointer, Port, is_held, is_pointer}
use Rattle.scc_core_spec.specs.Source.{Home, cell_location, thing_of, cell_there}
use Rattle.scc_core_spec.specs.Static.{Cells, fixed_word}
use Rattle.scc_core_spec.specs.Uses.{among}
use Rattle.scc_blocks_spec.specs.Turns.{constant_at}
use Rattle.scc_core_effect_laws.specs.Follows.{IsSoundCore, design_of}
use Rattle.scc_core_effect_laws.proofs.Names.{and-first, some-same, none-some}

-- what is found passes
found-is : {A : Type 0} (f : A → Bool) (xs : List A) (x : A) → find f xs ≡ Some x → (k : ℕ) × (slice_get xs k ≡ Some x) × (f x ≡ true)
found-is f [] x e = none-some x e
found-is f (y ∷ ys) x e = by (f y) refl e (found-is f ys x)
  where
    by : (b : Bool) → f y ≡ b → (if b then Some y else find f ys) ≡ Some x → (find f ys ≡ Some x → (k : ℕ) × (slice_get ys k ≡ Some x) × (f x ≡ true)) → (k : ℕ) × (slice_get (y ∷ ys) k ≡ Some x) × (f x ≡ true)
    by true t d more = let s = some-same y x d in (0, ap Some s, subst (λ z. f z ≡ true) s t)
    by false t d more = let u = more d in (suc u.0, u.1, u.2)

-- what no process can change is constant
pub fixed-constant : (home : Home) (p : Program) → IsSoundCore home p → (c w : ℕ) (x : program.Cell) → slice_get p.cells c ≡ Some x → fixed_word x.sort ≡ Some w → constant_at p c ≡ Some w
fixed-constant home p resolved c w x e f = ap (option_and_then (λ x. constant_if (among c (written p)) x.sort)) e ∙ ap (λ b. constant_if b x.sort) (resolved.fixed c x w e f) ∙ by x.sort f
  where
    by : (s : Sort) → fixed_word s ≡ Some w → constant_if false s ≡ Some w
    by (Variable v true) f = f
    by (Variable v false) f = none-some w f
    by Input f = none-some w f
    by Output f = none-some w f
    by Signal f = none-some w f
    by (Local j) f = none-some w f
    by (Pointer t) f = none-some w f
    by (Port t) f = none-some w f

module _ (home : Home) (p : Program) (resolved : IsSoundCore home p) where
  -- a constant that is told stands at a cell
  constant-cell : (m : ℕ) (cs : Cells) (l : Location) (v : ℕ) → constant_from home p m cs l ≡ Some v
      → (k : ℕ) × (c : program.Cell) × (slice_get cs k ≡ Some c) × (same (cell_location home p c) l ≡ true) × (constant_if (among (m + k) (written p)) c.sort ≡ Some v)
  constant-cell m [] l v e = none-some v e
  constant-cell m (c ∷ cs) l v e = by (same (cell_location home p c) l && not (is_pointer c.sort)) refl e (constant-cell (m + 1) cs l v)
    where
      first : m ≡ m + 0
      first = omega arith

      next : (k : ℕ) → (m + 1) + k ≡ m + suc k
      next k = omega arith

      by : (b : Bool) → (same (cell_location home p c) l && not (is_pointer c.sort)) ≡ b → (if b then constant_if (among m (written p)) c.sort else constant_from home p (m + 1) cs l) ≡ Some v
          → (constant_from home p (m + 1) cs l ≡ Some v → (k : ℕ) × (d : program.Cell) × (slice_get cs k ≡ Some d) × (same (cell_location home p d) l ≡ true) × (constant_if (among ((m + 1) + k) (written p)) d.sort ≡ Some v))
          → (k : ℕ) × (d : program.Cell) × (slice_get (c ∷ cs) k ≡ Some d) × (same (cell_location home p d) l ≡ true) × (constant_if (among (m + k) (written p)) d.sort ≡ Some v)
      by true t d more = (0, c, refl, and-first (same (cell_location home p c) l) (not (is_pointer c.sort)) t, subst (λ n. constant_if (among n (written p)) c.sort ≡ Some v) first d)
      by false t d more = let u = more d in (suc u.0, u.1, u.2, u.3, subst (λ n. constant_if (among n (written p)) u.1.sort ≡ Some v) (next u.0) u.4)

  module _ (words : Location → ℕ) (fits : (c : ℕ) (x : program.Cell) → slice_get p.cells c ≡ Some x → is_held x.sort ≡ true → words (cell_location home p x) < 2 ^ width_of x.kind)
      (constants : (c w : ℕ) (x : program.Cell) → slice_get p.cells c ≡ Some x → constant_at p c ≡ Some w → words (cell_location home p x) ≡ w) where
    there : (l : Location) (x : program.Cell) → cell_there home p false l ≡ Some x → (k : ℕ) × (slice_get p.cells k ≡ Some x) × (cell_location home p x ≡ l)
    there l x e = let u = found-is (λ c. same (cell_location home p c) l && not (is_pointer c.sort)) p.cells x e in (u.0, u.1, same-is (cell_location home p x) l (and-first (same (cell_location home p x) l) (not (is_pointer x.sort)) u.2))

    thing-fits : (l : Location) (o : Option program.Cell) → cell_there home p false l ≡ o → FitsThing (option_and_then (λ c. thing_of home p c c.sort) o) (words l)
    thing-fits l None e = tt
    thing-fits l (Some x) e = let t = there l x e in by t.0 t.1 t.2 x.sort refl
      where
        by : (k : ℕ) → slice_get p.cells k ≡ Some x → cell_location home p x ≡ l → (s : Sort) → x.sort ≡ s → FitsThing (thing_of home p x s) (words l)
        by k g at Input d = subst (λ l. words l < 2 ^ width_of x.kind) at (fits k x g (ap is_held d))
        by k g at Output d = subst (λ l. words l < 2 ^ width_of x.kind) at (fits k x g (ap is_held d))
        by k g at Signal d = subst (λ l. words l < 2 ^ width_of x.kind) at (fits k x g (ap is_held d))
        by k g at (Variable w f) d = subst (λ l. words l < 2 ^ width_of x.kind) at (fits k x g (ap is_held d))
        by k g at (Local j) d = subst (λ l. words l < 2 ^ width_of x.kind) at (fits k x g (ap is_held d))
        by k g at (Pointer t) d = tt
        by k g at (Port t) d = tt

    fixed-holds : (l : Location) (o : Option program.Cell) → cell_there home p false l ≡ o → HoldsConstant (option_and_then (λ c. fixed_word c.sort) o) (words l)
    fixed-holds l None e = tt
    fixed-holds l (Some x) e = by (fixed_word x.sort) refl
      where
        by : (o : Option ℕ) → fixed_word x.sort ≡ o → HoldsConstant o (words l)
        by None f = tt
        by (Some w) f = let t = there l x e in ap words (sym t.2) ∙ constants t.0 w x t.1 (fixed-constant home p resolved t.0 w x t.1 f)

    constant-holds : (l : Location) (o : Option ℕ) → constants_of home p l ≡ o → HoldsConstant o (words l)
    constant-holds l None e = tt
    constant-holds l (Some w) e =
        let u = constant-cell 0 p.cells l w e in
        let n : 0 + u.0 ≡ u.0 = omega arith in
        ap words (sym (same-is (cell_location home p u.1) l u.3))
        ∙ constants u.0 w u.1 u.2 (ap (option_and_then (λ x. constant_if (among u.0 (written p)) x.sort)) u.2 ∙ subst (λ n. constant_if (among n (written p)) u.1.sort ≡ Some w) n u.4)

    pub proper-from : IsProper (design_of home p) words
    proper-from = record {
      fits = λ l. thing-fits l (cell_there home p false l) refl;
      fixed = λ l. fixed-holds l (cell_there home p false l) refl;
      constants = λ l. constant-holds l (constants_of home p l) refl;
    }
