-- A static value is the machine's, where fixed locations hold their words.
use Rattle.std.proofs.Common.{◌≡◌, ◌⊎◌, inl, inr, ℕ, suc, ◌+◌, Bool, true, false, List, [], ◌∷◌, ◌++◌, Option, Some, None, refl, sym, ap, subst, ◌∙◌, arith}
use Rattle.std.specs.Prelude.{slice_get, option_map, option_and_then, find, if◌then◌else◌}
use Rattle.scc_bits_kinds.specs.declared.kind.Kind.{Kind}
use Rattle.scc_bits_kinds.specs.Kinds.{width_of, number_of, stored}
use Rattle.scc_bits_kinds.specs.Bits.{part, joined}
use Rattle.scc_bits.specs.Values.{applied}
use Rattle.scc_semantics.specs.Location.{Location, Member, Element, within}
use Rattle.scc_semantics.specs.Scene.{expr_kind, loaded, followed, index_of, chosen, bit_at, with_two}
use Rattle.scc_semantics.specs.Value.{Held, locate, value}
use Rattle.scc_semantics.specs.Value as machine
use Rattle.scc_core_spec.specs.Code.{Code, End, Put, Aim, If, Block, Loop, Exit, Wait}
use Rattle.scc_core_spec.specs.Term.{Term, Literal, Load, Read, Convert, Unary, Binary, Choose, Bit, Range, Join, Left, Cell, Prefix, Null, Follow, Index, kind_of}
use Rattle.scc_core_spec.specs.Term as term
use Rattle.scc_core_spec.specs.Program.{Program, Process, Sort, Input, Output, Variable, Local, Pointer, Port}
use Rattle.scc_core_spec.specs.Program as program
use Rattle.scc_core_spec.specs.Named.{Step, Named, At, Ours, Open, steps_of, is_open, names_cell, cell_at}
use Rattle.scc_core_spec.specs.Static.{Cells, static, pattern, first_of, found, held, held_at, fixed_word, index_step, is_true}
use Rattle.scc_core_spec.specs.Source.{Home, location_of, cell_left, cell_there, thing_of, source_of}
use Rattle.scc_states_path_laws.specs.Moved.{World, around}
use Rattle.scc_states_path_laws.specs.Within.{Tests, Chooses}
use Rattle.scc_states_laws.specs.Processes.{HoldsFixed, world_of}
use Rattle.scc_states_laws.specs.Alike.{Names, base, member, element, TellsApart, IsFit, IsFitLeft, IsFitCode, IsCellName}
use Rattle.scc_states_laws.proofs.Values.{some_same, map_is, then_is, two_is, E, F, kind_is}

-- the first cell of a name, by its number or itself
Hit : Option program.Cell → Option ℕ → ℕ → Cells → Type 0
Hit f g m cs = (k : ℕ) × (x : program.Cell) × (f ≡ Some x) × (g ≡ Some (m + k)) × (slice_get cs k ≡ Some x)

Miss : Option program.Cell → Option ℕ → Type 0
Miss f g = (f ≡ None) × (g ≡ None)

find_at : (cs : Cells) (m : ℕ) (s : List Step) → Hit (find (names_cell false s) cs) (cell_at false m s cs) m cs ⊎ Miss (find (names_cell false s) cs) (cell_at false m s cs)
unfolding Hit Miss
find_at [] m s = inr (refl, refl)
find_at (c ∷ cs) m s = by (names_cell false s c) (find_at cs (m + 1) s)
  where
    by : (b : Bool) → Hit (find (names_cell false s) cs) (cell_at false (m + 1) s cs) (m + 1) cs ⊎ Miss (find (names_cell false s) cs) (cell_at false (m + 1) s cs)
        → Hit (if b then Some c else find (names_cell false s) cs) (if b then Some m else cell_at false (m + 1) s cs) m (c ∷ cs) ⊎ Miss (if b then Some c else find (names_cell false s) cs) (if b then Some m else cell_at false (m + 1) s cs)
    by true ih = let e : m ≡ m + 0 = omega arith in inl (0, c, refl, ap Some e, refl)
    by false (inl r) = let e : (m + 1) + r.0 ≡ m + suc r.0 = omega arith in inl (suc r.0, r.1, r.2, r.3 ∙ ap Some e, r.4)
    by false (inr r) = inr r

pub find_cell : (cs : Cells) (s : List Step) → found cs s ≡ option_and_then (slice_get cs) (cell_at false 0 s cs)
unfolding Hit Miss
find_cell cs s = by (find_at cs 0 s)
  where
    by : Hit (find (names_cell false s) cs) (cell_at false 0 s cs) 0 cs ⊎ Miss (find (names_cell false s) cs) (cell_at false 0 s cs) → found cs s ≡ option_and_then (slice_get cs) (cell_at false 0 s cs)
    by (inl r) = let e : 0 + r.0 ≡ r.0 = omega arith in r.2 ∙ sym (ap (option_and_then (slice_get cs)) (r.3 ∙ ap Some e) ∙ r.4)
    by (inr r) = r.0 ∙ sym (ap (option_and_then (slice_get cs)) r.1)

pub open_end : (p : List Step) (n : ℕ) → is_open (p ++ Open n ∷ []) ≡ true
open_end [] n = refl
open_end (Named m ∷ p) n = open_end p n
open_end (At m ∷ p) n = open_end p n
open_end (Ours m ∷ p) n = open_end p n
open_end (Open m ∷ p) n = refl

pub index_closed : (p : List Step) (size : ℕ) (k : Kind) (o : Option ℕ) → is_open (p ++ index_step size k o ∷ []) ≡ false → (v : ℕ) × (o ≡ Some v)
index_closed p size k None h = let e = open_end p size in absurd cc
index_closed p size k (Some v) h = (v, refl)

pub open_front : (p : List Step) (s : Step) → is_open (p ++ s ∷ []) ≡ false → is_open p ≡ false
open_front [] s h = refl
open_front (Named n ∷ p) s h = open_front p s h
open_front (At n ∷ p) s h = open_front p s h
open_front (Ours n ∷ p) s h = open_front p s h
open_front (Open n ∷ p) s h = absurd cc

module _ (home : Home) (constant : Location → Option ℕ) (p : Program) (i : ℕ) (q : Process) (signals : Location → ℕ) (apart : TellsApart home p i q) (h : Held) (fixed : HoldsFixed (source_of home p constant) h) where
  abbrev W : World
  W = world_of home constant p i signals

  load_is : (l : Location) (s : List Step) (f : Option program.Cell) (v : ℕ) → Names home i q l s → held (found p.cells s) f ≡ Some v → loaded (W.places.things l) (h.store.words l) ≡ v
  load_is l s f v names e = by (found p.cells s) f (apart.found l s names ∙ sym (find_cell p.cells s)) e
    where
      by_sort : (c : program.Cell) (t : Sort) → fixed_word t ≡ Some v → h.store.words l ≡ v → loaded (thing_of home p c t) (h.store.words l) ≡ v
      by_sort c (Variable x true) d g = g
      by_sort c (Variable x false) d g = absurd cc
      by_sort c (Local j) d g = absurd cc
      by_sort c Input d g = absurd cc
      by_sort c Output d g = absurd cc
      by_sort c program.Signal d g = absurd cc
      by_sort c (Pointer t) d g = absurd cc
      by_sort c (Port r) d g = absurd cc

      by : (o u : Option program.Cell) → cell_there home p false l ≡ o → held o u ≡ Some v → loaded (W.places.things l) (h.store.words l) ≡ v
      by (Some c) u there d =
          ap (λ z. loaded (option_and_then (λ c. thing_of home p c c.sort) z) (h.store.words l)) there
          ∙ by_sort c c.sort d (fixed l v (ap (option_and_then (λ c. fixed_word c.sort)) there ∙ d))
      by None (Some c) there d = let m = map_is (fixed_word c.sort) (λ w. 0) v d in ap (λ z. loaded (option_and_then (λ c. thing_of home p c c.sort) z) (h.store.words l)) there ∙ m.2
      by None None there d = absurd cc

  mutual
    pattern_is : (l : Left) (s : List Step) → IsFitLeft q p.cells l → pattern p.cells l ≡ Some s → is_open s ≡ false → (k : Location) × (locate (around W h) (F home constant p i q signals apart l) ≡ Some (Some k)) × Names home i q k s
    pattern_is (Cell o n) s t e c = by (slice_get p.cells n) t e
      where
        by : (c : Option program.Cell) → IsCellName q p.cells c → option_map (λ c. steps_of c.name) c ≡ Some s → (k : Location) × (locate (around W h) (cell_left home p.cells i c) ≡ Some (Some k)) × Names home i q k s
        by None t' e' = absurd cc
        by (Some c) t' e' = (location_of home i c.name, refl, subst (λ s'. Names home i q (location_of home i c.name) s') (some_same e') (base c.name t'))
    pattern_is (Prefix o name) s t e c = (location_of home i name, refl, subst (λ s'. Names home i q (location_of home i name) s') (some_same e) (base name t))
    pattern_is (Null o) s t e c = absurd cc
    pattern_is (Follow o soft l) s t e c = absurd cc
    pattern_is (term.Member l name) s t e c =
        let m = map_is (pattern p.cells l) (λ z. z ++ Named name ∷ []) s e in
        let r = pattern_is l m.0 t m.1 (open_front m.0 (Named name) (ap is_open m.2 ∙ c)) in
        (within r.0 (Member name), ap (λ z. machine.behind z (λ k. Some (Some (within k (Member name))))) r.1, subst (λ s'. Names home i q (within r.0 (Member name)) s') m.2 (member name r.2))
    pattern_is (Index l size j) s t e c =
        let m = map_is (pattern p.cells l) (λ z. z ++ index_step size (kind_of j) (static p.cells j) ∷ []) s e in
        let front = pattern_is l m.0 t.0 m.1 (open_front m.0 (index_step size (kind_of j) (static p.cells j)) (ap is_open m.2 ∙ c)) in
        let v = index_closed m.0 size (kind_of j) (static p.cells j) (ap is_open m.2 ∙ c) in
        let value' = static_is j v.0 t.1 v.1 in
        let same = ap (λ o. m.0 ++ index_step size (kind_of j) o ∷ []) (sym v.1) ∙ m.2 in (
          within front.0 (Element (index_of (kind_of j) v.0)),
          ap (λ z. machine.behind z (λ k. option_map (λ x. Some (within k (Element (index_of (expr_kind (E home constant p i q signals apart j)) x)))) (value (around W h) (E home constant p i q signals apart j)))) front.1
              ∙ (ap (option_map (λ x. Some (within front.0 (Element (index_of (expr_kind (E home constant p i q signals apart j)) x))))) value' ∙ ap (λ u. Some (Some (within front.0 (Element (index_of u v.0))))) (kind_is home constant p i q signals apart j t.1)),
          subst (λ s'. Names home i q (within front.0 (Element (index_of (kind_of j) v.0))) s') same (element (index_of (kind_of j) v.0) front.2),
        )

    pub static_is : (e : Term) (x : ℕ) → IsFit q p.cells e → static p.cells e ≡ Some x → value (around W h) (E home constant p i q signals apart e) ≡ Some x
    static_is (Literal o k v) x t d = d
    static_is (Load o k l) x t d =
        let m = then_is (pattern p.cells l) (λ s. option_and_then (λ f. held_at p.cells s f) (first_of p.cells l)) x d in
        let f = then_is (first_of p.cells l) (λ f. held_at p.cells m.0 f) x m.2 in
        let g = closed (is_open m.0) refl (held (found p.cells m.0) (found p.cells f.0)) f.2 in
        let c = pattern_is l m.0 t.0 m.1 g.0 in
        ap (λ z. option_map (λ k. loaded (W.places.things k) (h.store.words k)) (followed z)) c.1 ∙ ap Some (load_is c.0 m.0 (found p.cells f.0) x c.2 g.1)
      where
        closed : {b : Bool} (o : Bool) → b ≡ o → (y : Option ℕ) → (if o then None else y) ≡ Some x → (b ≡ false) × (y ≡ Some x)
        closed true e y z = absurd cc
        closed false e y z = (e, z)
    static_is (Read o k l) x t d = absurd cc
    static_is (Convert o k e) x t d =
        let m = map_is (static p.cells e) (λ x. stored k (number_of (kind_of e) x)) x d in
        rw (static_is e m.0 t m.1) (rw (kind_is home constant p i q signals apart e t) (ap Some m.2))
    static_is (Unary o k op e) x t d =
        let m = then_is (static p.cells e) (λ x. applied op (kind_of e) x (kind_of e) x) x d in
        rw (static_is e m.0 t.1 m.1) (rw (kind_is home constant p i q signals apart e t.1) m.2)
    static_is (Binary o k op e f) x t d =
        let m = two_is (static p.cells e) (static p.cells f) (λ x y. applied op (kind_of e) x (kind_of f) y) x d in
        rw (static_is e m.0 t.1 m.2) (rw (static_is f m.1 t.2 m.3) (rw (kind_is home constant p i q signals apart e t.1) (rw (kind_is home constant p i q signals apart f t.2) m.4)))
    static_is (Choose o k n e f) x t d =
        let m = then_is (static p.cells n) (λ n. with_two (static p.cells e) (static p.cells f) (λ x y. Some (chosen n (stored k (number_of (kind_of e) x)) (stored k (number_of (kind_of f) y))))) x d in
        let u = two_is (static p.cells e) (static p.cells f) (λ x y. Some (chosen m.0 (stored k (number_of (kind_of e) x)) (stored k (number_of (kind_of f) y)))) x m.2 in
        rw (static_is n m.0 t.0 m.1) (rw (static_is e u.0 t.1 u.2) (rw (static_is f u.1 t.2 u.3) (rw (kind_is home constant p i q signals apart e t.1) (rw (kind_is home constant p i q signals apart f t.2) u.4))))
    static_is (Bit o e j) x t d =
        let u = two_is (static p.cells e) (static p.cells j) (λ x n. Some (bit_at (width_of (kind_of e)) x (index_of (kind_of j) n))) x d in
        rw (static_is e u.0 t.0 u.2) (rw (static_is j u.1 t.1 u.3) (rw (kind_is home constant p i q signals apart e t.0) (rw (kind_is home constant p i q signals apart j t.1) u.4)))
    static_is (Range o k e hi lo) x t d =
        let m = map_is (static p.cells e) (part hi lo) x d in
        rw (static_is e m.0 t m.1) (ap Some m.2)
    static_is (Join o k e f) x t d =
        let u = two_is (static p.cells e) (static p.cells f) (λ x y. Some (joined (width_of (kind_of f)) x y)) x d in
        rw (static_is e u.0 t.0 u.2) (rw (static_is f u.1 t.1 u.3) (rw (kind_is home constant p i q signals apart f t.1) u.4))

module _ (home : Home) (constant : Location → Option ℕ) (p : Program) (i : ℕ) (q : Process) (signals : Location → ℕ) (apart : TellsApart home p i q) where
  chooses : (t : Term) → IsFit q p.cells t → Chooses (world_of home constant p i signals) (HoldsFixed (source_of home p constant)) t
  chooses t fit h fixed y e =
      let m = map_is (static p.cells t) is_true y e in
      (m.0, static_is home constant p i q signals apart h fixed t m.0 fit m.1, m.2)

  pub tests_hold : (c : Code) → IsFitCode q p.cells c → Tests (world_of home constant p i signals) (HoldsFixed (source_of home p constant)) c
  tests_hold End f = tt
  tests_hold (Put o l k e r) f = tests_hold r f.3
  tests_hold (Aim o to t r) f = absurd f
  tests_hold (If o t a b r) f = (chooses t f.0, tests_hold a f.1, tests_hold b f.2, tests_hold r f.3)
  tests_hold (Block o b r) f = (tests_hold b f.0, tests_hold r f.1)
  tests_hold (Loop o n b r) f = (tests_hold b f.0, tests_hold r f.1)
  tests_hold (Exit o n r) f = tests_hold r f
  tests_hold (Wait o l n r) f = tests_hold r f
