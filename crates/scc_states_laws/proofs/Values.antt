-- Locations and words by cells are those of the machine.
use Rattle.std.proofs.Common.{◌≡◌, ℕ, suc, ◌+◌, Bool, true, false, List, [], ◌∷◌, ◌++◌, Option, Some, None, refl, sym, ap, subst, ◌∙◌, arith}
use Rattle.std.specs.Prelude.{slice_get, option_map, option_and_then, unwrap_or, if◌then◌else◌, not, ◌&&◌}
use Rattle.scc_bits_kinds.specs.Kinds.{width_of, number_of, stored}
use Rattle.scc_bits_kinds.specs.Bits.{part, joined}
use Rattle.scc_bits.specs.Values.{applied, kind_of as operator_kind}
use Rattle.scc_semantics.specs.Location.{Location, Part, Member, Element, within}
use Rattle.scc_semantics.specs.Expressions as body
use Rattle.scc_semantics.specs.Scene.{expr_kind, kind_or, loaded, sensed, followed, index_of, chosen, bit_at, with_two}
use Rattle.scc_semantics.specs.Value.{Held, locate, value}
use Rattle.scc_semantics.specs.Value as machine
use Rattle.scc_core_spec.specs.Term.{Term, Literal, Load, Read, Convert, Unary, Binary, Choose, Bit, Range, Join, Left, Cell, Prefix, Null, Follow, Index, CellName, kind_of}
use Rattle.scc_core_spec.specs.Term as term
use Rattle.scc_core_spec.specs.Program.{Program, Process, Sort, Input, Output, Variable, Local, Pointer, Port, is_root, is_pointer}
use Rattle.scc_core_spec.specs.Program as program
use Rattle.scc_core_spec.specs.Named.{Step, Named, At, steps_of, path_steps, cell_at, names_cell, fits}
use Rattle.scc_core_spec.specs.Static.{Cells, grown}
use Rattle.scc_core_spec.specs.Uses.{root_of, root_of_sort}
use Rattle.scc_core_spec.specs.Source.{Home, location_of, cell_location, cell_left, thing_of, expr_of, left_of, at_top}
use Rattle.scc_blocks_spec.specs.Acting.{Acting, word_in, steps_in, cell_named, word_or_zero}
use Rattle.scc_states_path_laws.specs.Moved.{World, around}
use Rattle.scc_states_laws.specs.Processes.{world_of}
use Rattle.scc_states_laws.specs.Alike.{Names, base, member, element, TellsApart, Alike, IsFit, IsFitLeft, IsCellName}
use Rattle.scc_core_spec.specs.Fit.{is_read}
use Rattle.scc_core_spec.specs.Program.{is_number}

pub some_same : {A : Type 0} {x y : A} → Some x ≡ Some y → x ≡ y
some_same {A} {x} {y} e = ap (λ o. unwrap_or o x) e

pub map_is : {A B : Type 0} (o : Option A) (f : A → B) (b : B) → option_map f o ≡ Some b → (x : A) × (o ≡ Some x) × (f x ≡ b)
map_is None f b e = absurd cc
map_is (Some x) f b e = (x, refl, some_same e)

pub then_is : {A B : Type 0} (o : Option A) (f : A → Option B) (b : B) → option_and_then f o ≡ Some b → (x : A) × (o ≡ Some x) × (f x ≡ Some b)
then_is None f b e = absurd cc
then_is (Some x) f b e = (x, refl, e)

pub two_is : (o u : Option ℕ) (f : ℕ → ℕ → Option ℕ) (b : ℕ) → with_two o u f ≡ Some b → (x : ℕ) × (y : ℕ) × (o ≡ Some x) × (u ≡ Some y) × (f x y ≡ Some b)
two_is None u f b e = absurd cc
two_is (Some x) None f b e = absurd cc
two_is (Some x) (Some y) f b e = (x, y, refl, refl, e)

and_right : (a b : Bool) → (a && b) ≡ true → b ≡ true
and_right true b h = h
and_right false b h = absurd cc

not_is : (b : Bool) → not b ≡ true → b ≡ false
not_is true h = absurd cc
not_is false h = refl

nil_behind : {A : Type 0} (xs : List A) → xs ++ [] ≡ xs
nil_behind [] = refl
nil_behind (x ∷ xs) = ap (λ ys. x ∷ ys) (nil_behind xs)

no_own : {A : Type 0} (o : A) → None ≡ Some o → ⊥
no_own o e = cc

-- a cell that is found by its name stands in the list, and is no pointer
pub cell_at_is : (cs : Cells) (m n : ℕ) (s : List Step) → cell_at false m s cs ≡ Some n → (k : ℕ) × (x : program.Cell) × (m + k ≡ n) × (slice_get cs k ≡ Some x) × (is_pointer x.sort ≡ false)
cell_at_is [] m n s e = absurd cc
cell_at_is (c ∷ cs) m n s e = by (names_cell false s c) refl e (cell_at_is cs (m + 1) n s)
  where
    by : (b : Bool) → names_cell false s c ≡ b → (if b then Some m else cell_at false (m + 1) s cs) ≡ Some n → (cell_at false (m + 1) s cs ≡ Some n → (k : ℕ) × (x : program.Cell) × ((m + 1) + k ≡ n) × (slice_get cs k ≡ Some x) × (is_pointer x.sort ≡ false)) → (k : ℕ) × (x : program.Cell) × (m + k ≡ n) × (slice_get (c ∷ cs) k ≡ Some x) × (is_pointer x.sort ≡ false)
    by true t h ih = let e' = some_same h in (0, c, omega (arith, e'), refl, not_is (is_pointer c.sort) (and_right (fits s (steps_of c.name)) (not (is_pointer c.sort)) t))
    by false t h ih = let r = ih h in (suc r.0, r.1, omega (arith, r.2), r.3, r.4)

pub cell_of : (cs : Cells) (n : ℕ) (s : List Step) → cell_at false 0 s cs ≡ Some n → (x : program.Cell) × (slice_get cs n ≡ Some x) × (is_pointer x.sort ≡ false)
cell_of cs n s e = let r = cell_at_is cs 0 n s e in let k : r.0 ≡ n = omega (arith, r.2) in (r.1, subst (λ j. slice_get cs j ≡ Some r.1) k r.3, r.4)

module _ (home : Home) (constant : Location → Option ℕ) (p : Program) (i : ℕ) (q : Process) (signals : Location → ℕ) (apart : TellsApart home p i q) where
  abbrev pub w : World
  w = world_of home constant p i signals

  abbrev pub E : Term → body.Expr
  E = expr_of home p.cells i

  abbrev pub F : Left → body.Left
  F = left_of home p.cells i

  pub kind_is : (e : Term) → IsFit q p.cells e → expr_kind (E e) ≡ kind_of e
  kind_is (Literal o k x) t = refl
  kind_is (Load o k l) t = refl
  kind_is (Read o k l) t = refl
  kind_is (Convert o k e) t = refl
  kind_is (Unary o k op a) t = ap (λ j. kind_or (operator_kind op j j)) (kind_is a t.1) ∙ ap kind_or t.0
  kind_is (Binary o k op a b) t = ap (λ j. kind_or (operator_kind op j (expr_kind (E b)))) (kind_is a t.1) ∙ (ap (λ j. kind_or (operator_kind op (kind_of a) j)) (kind_is b t.2) ∙ ap kind_or t.0)
  kind_is (Choose o k n a b) t = refl
  kind_is (Bit o a e) t = refl
  kind_is (Range o k a h l) t = refl
  kind_is (Join o k a b) t = refl

  -- the thing that stands where a name leads
  pub thing_at : (l : Location) (s : List Step) (n : ℕ) (x : program.Cell) → Names home i q l s → cell_at false 0 s p.cells ≡ Some n → slice_get p.cells n ≡ Some x
      → (w.places.things l ≡ thing_of home p x x.sort) × (cell_location home p x ≡ l)
  thing_at l s n x names e g =
      let there = apart.found l s names ∙ (ap (option_and_then (slice_get p.cells)) e ∙ g) in
      (ap (option_and_then (λ c. thing_of home p c c.sort)) there, apart.stands l x there)

  pub nothing_at : (l : Location) (s : List Step) → Names home i q l s → cell_at false 0 s p.cells ≡ None → w.places.things l ≡ None
  nothing_at l s names e = ap (option_and_then (λ c. thing_of home p c c.sort)) (apart.found l s names ∙ ap (option_and_then (slice_get p.cells)) e)

  pub port_names : (r : List Part) → Names home i q (at_top r) (path_steps r)
  port_names r = subst (λ z. Names home i q (at_top r) z) (nil_behind (path_steps r)) (base (record { path = r; own = None; indices = [] }) (record { outer = λ z. refl; inner = λ o z. absurd (no_own o z) }))

  pub root_is : (n : ℕ) (x : program.Cell) → slice_get p.cells n ≡ Some x → root_of p.cells n ≡ root_of_sort p.cells x.sort n
  root_is n x g = ap (λ o. unwrap_or (option_map (λ s. root_of_sort p.cells s n) (option_map (λ c. c.sort) o)) n) g

  module _ (a : Acting) (h : Held) (alike : Alike home p signals a h) where
    load_at : (l : Location) (s : List Step) → Names home i q l s → ((n : ℕ) (x : program.Cell) → cell_at false 0 s p.cells ≡ Some n → slice_get p.cells n ≡ Some x → is_number x.sort ≡ true)
        → loaded (w.places.things l) (h.store.words l) ≡ word_or_zero a (option_map (root_of p.cells) (cell_at false 0 s p.cells))
    load_at l s names sorts = by (cell_at false 0 s p.cells) refl
      where
        by_sort : (n : ℕ) (x : program.Cell) (t : Sort) → is_number t ≡ true → h.store.words l ≡ a.now n → loaded (thing_of home p x t) (h.store.words l) ≡ a.now (root_of_sort p.cells t n)
        by_sort n x (Variable v f) e g = g
        by_sort n x (Local j) e g = g
        by_sort n x Input e g = absurd cc
        by_sort n x Output e g = absurd cc
        by_sort n x program.Signal e g = absurd cc
        by_sort n x (Pointer t) e g = absurd cc
        by_sort n x (Port r) e g = absurd cc

        by : (o : Option ℕ) → cell_at false 0 s p.cells ≡ o → loaded (w.places.things l) (h.store.words l) ≡ word_or_zero a (option_map (root_of p.cells) o)
        by None e = ap (λ t. loaded t (h.store.words l)) (nothing_at l s names e)
        by (Some n) e =
            let c = cell_of p.cells n s e in
            let t = thing_at l s n c.0 names e c.1 in
            let number = sorts n c.0 e c.1 in
            let word = ap h.store.words (sym t.1) ∙ alike.numbers n c.0 c.1 number in
            ap (λ t'. loaded t' (h.store.words l)) t.0 ∙ (by_sort n c.0 c.0.sort number word ∙ ap a.now (sym (root_is n c.0 c.1)))

    read_at : (l : Location) (s : List Step) → Names home i q l s → ((n : ℕ) (x : program.Cell) → cell_at false 0 s p.cells ≡ Some n → slice_get p.cells n ≡ Some x → is_read x.sort ≡ true)
        → sensed (w.places.things l) signals l ≡ word_or_zero a (option_map (root_of p.cells) (cell_at false 0 s p.cells))
    read_at l s names sorts = by (cell_at false 0 s p.cells) refl
      where
        by_sort : (n : ℕ) (x : program.Cell) (t : Sort) → slice_get p.cells n ≡ Some x → x.sort ≡ t → cell_location home p x ≡ l → is_read t ≡ true → sensed (thing_of home p x t) signals l ≡ a.now (root_of_sort p.cells t n)
        by_sort n x (Variable v f) g f' at e = absurd cc
        by_sort n x (Local j) g f at e = absurd cc
        by_sort n x Input g f at e = ap signals (sym at) ∙ alike.roots n x g (ap is_root f)
        by_sort n x Output g f at e = ap signals (sym at) ∙ alike.roots n x g (ap is_root f)
        by_sort n x program.Signal g f at e = ap signals (sym at) ∙ alike.roots n x g (ap is_root f)
        by_sort n x (Pointer t) g f at e = absurd cc
        by_sort n x (Port r) g f at e =
            let m = apart.ports n x r g f in
            let t = thing_at (at_top r) (path_steps r) m.0 m.1 (port_names r) m.2 m.3 in
            ap signals (sym t.1) ∙ (alike.roots m.0 m.1 m.3 m.4 ∙ ap (λ z. a.now (unwrap_or z n)) (sym m.2))

        by : (o : Option ℕ) → cell_at false 0 s p.cells ≡ o → sensed (w.places.things l) signals l ≡ word_or_zero a (option_map (root_of p.cells) o)
        by None e = ap (λ t. sensed t signals l) (nothing_at l s names e)
        by (Some n) e =
            let c = cell_of p.cells n s e in
            let t = thing_at l s n c.0 names e c.1 in
            ap (λ t'. sensed t' signals l) t.0 ∙ (by_sort n c.0 c.0.sort c.1 refl t.1 (sorts n c.0 e c.1) ∙ ap a.now (sym (root_is n c.0 c.1)))

    mutual
      pub located : (l : Left) (s : List Step) → IsFitLeft q p.cells l → steps_in p.cells a l ≡ Some s → (k : Location) × (locate (around w h) (F l) ≡ Some (Some k)) × Names home i q k s
      located (Cell o n) s t e = by (slice_get p.cells n) t e
        where
          by : (c : Option program.Cell) → IsCellName q p.cells c → option_map (λ c. steps_of c.name) c ≡ Some s → (k : Location) × (locate (around w h) (cell_left home p.cells i c) ≡ Some (Some k)) × Names home i q k s
          by None t' e' = absurd cc
          by (Some c) t' e' = (location_of home i c.name, refl, subst (λ s'. Names home i q (location_of home i c.name) s') (some_same e') (base c.name t'))
      located (Prefix o name) s t e = (location_of home i name, refl, subst (λ s'. Names home i q (location_of home i name) s') (some_same e) (base name t))
      located (Null o) s t e = absurd cc
      located (Follow o soft l) s t e = absurd cc
      located (term.Member l name) s t e =
          let m = map_is (steps_in p.cells a l) (λ z. z ++ Named name ∷ []) s e in
          let c = located l m.0 t m.1 in
          (within c.0 (Member name), ap (λ z. machine.behind z (λ k. Some (Some (within k (Member name))))) c.1, subst (λ s'. Names home i q (within c.0 (Member name)) s') m.2 (member name c.2))
      located (Index l size j) s t e =
          let m = then_is (word_in p.cells a j) (λ x. grown (steps_in p.cells a l) (At (index_of (kind_of j) x))) s e in
          let n = map_is (steps_in p.cells a l) (λ z. z ++ At (index_of (kind_of j) m.0) ∷ []) s m.2 in
          let c = located l n.0 t.0 n.1 in
          let v = valued j m.0 t.1 m.1 in (
            within c.0 (Element (index_of (kind_of j) m.0)),
            ap (λ z. machine.behind z (λ k. option_map (λ x. Some (within k (Element (index_of (expr_kind (E j)) x)))) (value (around w h) (E j)))) c.1
                ∙ (ap (option_map (λ x. Some (within c.0 (Element (index_of (expr_kind (E j)) x))))) v ∙ ap (λ u. Some (Some (within c.0 (Element (index_of u m.0))))) (kind_is j t.1)),
            subst (λ s'. Names home i q (within c.0 (Element (index_of (kind_of j) m.0))) s') n.2 (element (index_of (kind_of j) m.0) c.2),
          )

      pub valued : (e : Term) (x : ℕ) → IsFit q p.cells e → word_in p.cells a e ≡ Some x → value (around w h) (E e) ≡ Some x
      valued (Literal o k v) x t d = d
      valued (Load o k l) x t d =
          let m = map_is (steps_in p.cells a l) (λ s. word_or_zero a (cell_named p.cells (Some s))) x d in
          let c = located l m.0 t.0 m.1 in
          ap (λ z. option_map (λ k. loaded (w.places.things k) (h.store.words k)) (followed z)) c.1 ∙ ap Some (load_at c.0 m.0 c.2 (λ n y. t.1 a m.0 n y m.1) ∙ m.2)
      valued (Read o k l) x t d =
          let m = map_is (steps_in p.cells a l) (λ s. word_or_zero a (cell_named p.cells (Some s))) x d in
          let c = located l m.0 t.0 m.1 in
          ap (λ z. option_map (λ k. sensed (w.places.things k) signals k) (followed z)) c.1 ∙ ap Some (read_at c.0 m.0 c.2 (λ n y. t.1 a m.0 n y m.1) ∙ m.2)
      valued (Convert o k e) x t d =
          let m = map_is (word_in p.cells a e) (λ x. stored k (number_of (kind_of e) x)) x d in
          rw (valued e m.0 t m.1) (rw (kind_is e t) (ap Some m.2))
      valued (Unary o k op e) x t d =
          let m = then_is (word_in p.cells a e) (λ x. applied op (kind_of e) x (kind_of e) x) x d in
          rw (valued e m.0 t.1 m.1) (rw (kind_is e t.1) m.2)
      valued (Binary o k op e f) x t d =
          let m = two_is (word_in p.cells a e) (word_in p.cells a f) (λ x y. applied op (kind_of e) x (kind_of f) y) x d in
          rw (valued e m.0 t.1 m.2) (rw (valued f m.1 t.2 m.3) (rw (kind_is e t.1) (rw (kind_is f t.2) m.4)))
      valued (Choose o k n e f) x t d =
          let m = then_is (word_in p.cells a n) (λ n. with_two (word_in p.cells a e) (word_in p.cells a f) (λ x y. Some (chosen n (stored k (number_of (kind_of e) x)) (stored k (number_of (kind_of f) y))))) x d in
          let u = two_is (word_in p.cells a e) (word_in p.cells a f) (λ x y. Some (chosen m.0 (stored k (number_of (kind_of e) x)) (stored k (number_of (kind_of f) y)))) x m.2 in
          rw (valued n m.0 t.0 m.1) (rw (valued e u.0 t.1 u.2) (rw (valued f u.1 t.2 u.3) (rw (kind_is e t.1) (rw (kind_is f t.2) u.4))))
      valued (Bit o e j) x t d =
          let u = two_is (word_in p.cells a e) (word_in p.cells a j) (λ x n. Some (bit_at (width_of (kind_of e)) x (index_of (kind_of j) n))) x d in
          rw (valued e u.0 t.0 u.2) (rw (valued j u.1 t.1 u.3) (rw (kind_is e t.0) (rw (kind_is j t.1) u.4)))
      valued (Range o k e hi lo) x t d =
          let m = map_is (word_in p.cells a e) (part hi lo) x d in
          rw (valued e m.0 t m.1) (ap Some m.2)
      valued (Join o k e f) x t d =
          let u = two_is (word_in p.cells a e) (word_in p.cells a f) (λ x y. Some (joined (width_of (kind_of f)) x y)) x d in
          rw (valued e u.0 t.0 u.2) (rw (valued f u.1 t.1 u.3) (rw (kind_is f t.1) u.4))
