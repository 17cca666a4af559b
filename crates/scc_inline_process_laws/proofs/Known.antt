-- A static value is the machine's, where fixed locations hold their words.
use Rattle.std.proofs.Common.{◌≡◌, ◌⊎◌, inl, inr, ℕ, Bool, true, false, not, ◌&&◌, nat_eq, nat_lt, List, [], ◌∷◌, ◌++◌, map, Option, Some, None, is_some, refl, sym, ap, subst, ◌∙◌}
use Rattle.std.specs.Prelude.{slice_get, option_map, option_and_then, find, if◌then◌else◌}
use Rattle.std.proofs.lemmas.Bool.{eqb-true, eq-eqb}
use Rattle.scc_bits_kinds.specs.declared.kind.Kind.{Kind}
use Rattle.scc_bits_kinds.specs.Kinds.{width_of, number_of, stored}
use Rattle.scc_bits_kinds.specs.Bits.{part, joined}
use Rattle.scc_bits.specs.Values.{applied, kind_of as operator_kind}
use Rattle.scc_semantics.specs.Location.{Location, Root, Top, Part, Member, Element, within, same, same_root, same_path}
use Rattle.scc_semantics.specs.Location as location
use Rattle.scc_semantics.specs.Store.{Store}
use Rattle.scc_semantics.specs.Scene.{Names, Scene, expr_kind, kind_or, loaded, followed, index_of, chosen, bit_at, with_two}
use Rattle.scc_semantics.specs.Expressions.{Expr}
use Rattle.scc_semantics.specs.Value.{locate, value}
use Rattle.scc_semantics.specs.Value as machine
use Rattle.scc_semantics.specs.Same.{is_own}
use Rattle.scc_core_spec.specs.Term.{Term, Literal, Load, Read, Convert, Unary, Binary, Choose, Bit, Range, Join, Left, Cell, Prefix, Null, Follow, Index, kind_of, CellName, Own}
use Rattle.scc_core_spec.specs.Term as term
use Rattle.scc_core_spec.specs.Program.{Program, Sort, Input, Output, Variable, Local, Pointer, Port, is_pointer}
use Rattle.scc_core_spec.specs.Program as program
use Rattle.scc_core_spec.specs.Named.{Step, Named, At, Ours, Open, part_step, own_steps, steps_of, fits, is_open, names_cell}
use Rattle.scc_core_spec.specs.Static.{Cells, static, pattern, first_of, found, held, held_at, fixed_word, index_step}
use Rattle.scc_core_spec.specs.Source.{Home, at_top, location_in, location_of, cell_left, cell_there, cell_location, thing_of, source_of, expr_of, left_of, process_named}
use Rattle.scc_states_laws.proofs.Values.{some_same, map_is, then_is, two_is}
use Rattle.scc_elab_spec.proofs.Chains.{and-first, and-second}
use Rattle.scc_core_unroll_laws.specs.Kinds.{IsKinded, IsKindedLeft}
use Rattle.scc_inline_process_laws.specs.Own.{OwnMoves}

-- steps with a local in them
abbrev has_ours : List Step → Bool
has_ours [] = false
has_ours (Ours n ∷ s) = true
has_ours (Named n ∷ s) = has_ours s
has_ours (At n ∷ s) = has_ours s
has_ours (Open n ∷ s) = has_ours s

ours_more : (s : List Step) (x : Step) → has_ours s ≡ true → has_ours (s ++ x ∷ []) ≡ true
ours_more [] x e = cc
ours_more (Ours n ∷ s) x e = refl
ours_more (Named n ∷ s) x e = ours_more s x e
ours_more (At n ∷ s) x e = ours_more s x e
ours_more (Open n ∷ s) x e = ours_more s x e

ours_same : (s t : List Step) (x y : Step) → has_ours s ≡ has_ours t → has_ours (x ∷ []) ≡ has_ours (y ∷ []) → has_ours (s ++ x ∷ []) ≡ has_ours (t ++ y ∷ [])
ours_same s t x y e f = ours_end s x ∙ (rw e (rw f refl) ∙ sym (ours_end t y))
  where
    ours_end : (s : List Step) (x : Step) → has_ours (s ++ x ∷ []) ≡ (if has_ours s then true else has_ours (x ∷ []))
    ours_end [] x = refl
    ours_end (Ours n ∷ s) x = refl
    ours_end (Named n ∷ s) x = ours_end s x
    ours_end (At n ∷ s) x = ours_end s x
    ours_end (Open n ∷ s) x = ours_end s x

steps_ours : (path : List Part) (s : List Step) → has_ours (map part_step path ++ s) ≡ has_ours s
steps_ours [] s = refl
steps_ours (Member n ∷ path) s = steps_ours path s
steps_ours (Element n ∷ path) s = steps_ours path s

fits_ours : (s t : List Step) → fits s t ≡ true → has_ours s ≡ true → has_ours t ≡ true
fits_ours [] t e f = cc
fits_ours (Named n ∷ s) [] e f = cc
fits_ours (Named n ∷ s) (Named m ∷ t) e f = fits_ours s t (and-second (nat_eq n m) (fits s t) e) f
fits_ours (Named n ∷ s) (At m ∷ t) e f = cc
fits_ours (Named n ∷ s) (Ours m ∷ t) e f = refl
fits_ours (Named n ∷ s) (Open m ∷ t) e f = cc
fits_ours (At n ∷ s) [] e f = cc
fits_ours (At n ∷ s) (Named m ∷ t) e f = cc
fits_ours (At n ∷ s) (At m ∷ t) e f = fits_ours s t (and-second (nat_eq n m) (fits s t) e) f
fits_ours (At n ∷ s) (Ours m ∷ t) e f = refl
fits_ours (At n ∷ s) (Open m ∷ t) e f = cc
fits_ours (Ours n ∷ s) [] e f = cc
fits_ours (Ours n ∷ s) (Named m ∷ t) e f = cc
fits_ours (Ours n ∷ s) (At m ∷ t) e f = cc
fits_ours (Ours n ∷ s) (Ours m ∷ t) e f = refl
fits_ours (Ours n ∷ s) (Open m ∷ t) e f = cc
fits_ours (Open n ∷ s) [] e f = cc
fits_ours (Open n ∷ s) (Named m ∷ t) e f = cc
fits_ours (Open n ∷ s) (At m ∷ t) e f = fits_ours s t (and-second (nat_lt m n) (fits s t) e) f
fits_ours (Open n ∷ s) (Ours m ∷ t) e f = refl
fits_ours (Open n ∷ s) (Open m ∷ t) e f = cc

found_moves : (s : List Step) (cs : Cells) (c : program.Cell) → has_ours s ≡ true → OwnMoves cs → found cs s ≡ Some c → fixed_word c.sort ≡ None
found_moves s [] c o m e = cc
found_moves s (x ∷ cs) c o m e = by (names_cell false s x) refl e (λ e. found_moves s cs c o m.1 e)
  where
    own : (n : CellName) → has_ours (steps_of n) ≡ true → is_some n.own ≡ true
    own n e = go n.own (sym (steps_ours n.path (own_steps n.own n.indices)) ∙ e)
      where
        go : (o : Option Own) → has_ours (own_steps o n.indices) ≡ true → is_some o ≡ true
        go None e = cc
        go (Some o) e = refl

    by : (b : Bool) → names_cell false s x ≡ b → (if b then Some x else found cs s) ≡ Some c → (found cs s ≡ Some c → fixed_word c.sort ≡ None) → fixed_word c.sort ≡ None
    by true t e ih = let z : x ≡ c = cc in subst (λ c. fixed_word c.sort ≡ None) z (m.0 (own x.name (fits_ours s (steps_of x.name) (and-first (fits s (steps_of x.name)) (not (is_pointer x.sort)) t) o)))
    by false t e ih = ih e

eq_sym : (n m : ℕ) → nat_eq n m ≡ nat_eq m n
eq_sym n m = by (nat_eq n m) refl (nat_eq m n) refl
  where
    by : (a : Bool) → nat_eq n m ≡ a → (b : Bool) → nat_eq m n ≡ b → nat_eq n m ≡ nat_eq m n
    by true e true f = e ∙ sym f
    by false e false f = e ∙ sym f
    by true e false f = e ∙ sym (eq-eqb m n (sym (eqb-true n m e)))
    by false e true f = eq-eqb n m (sym (eqb-true m n f)) ∙ sym f

-- names of the top are told apart as their locations are
fits_path : (p q : List Part) → fits (map part_step p) (map part_step q ++ []) ≡ same_path q p
fits_path [] [] = refl
fits_path [] (Member m ∷ q) = refl
fits_path [] (Element m ∷ q) = refl
fits_path (Member n ∷ p) [] = refl
fits_path (Element n ∷ p) [] = refl
fits_path (Member n ∷ p) (Member m ∷ q) = ap (λ b. b && fits (map part_step p) (map part_step q ++ [])) (eq_sym n m) ∙ ap (λ b. nat_eq m n && b) (fits_path p q)
fits_path (Element n ∷ p) (Element m ∷ q) = ap (λ b. b && fits (map part_step p) (map part_step q ++ [])) (eq_sym n m) ∙ ap (λ b. nat_eq m n && b) (fits_path p q)
fits_path (Member n ∷ p) (Element m ∷ q) = refl
fits_path (Element n ∷ p) (Member m ∷ q) = refl

fits_own : (p q : List Part) (o : Own) (is : List ℕ) → fits (map part_step p) (map part_step q ++ own_steps (Some o) is) ≡ false
fits_own [] [] o is = refl
fits_own [] (Member m ∷ q) o is = refl
fits_own [] (Element m ∷ q) o is = refl
fits_own (Member n ∷ p) [] o is = refl
fits_own (Element n ∷ p) [] o is = refl
fits_own (Member n ∷ p) (Member m ∷ q) o is = ap (λ b. nat_eq n m && b) (fits_own p q o is) ∙ off (nat_eq n m)
  where
    off : (b : Bool) → (b && false) ≡ false
    off true = refl
    off false = refl
fits_own (Element n ∷ p) (Element m ∷ q) o is = ap (λ b. nat_eq n m && b) (fits_own p q o is) ∙ off (nat_eq n m)
  where
    off : (b : Bool) → (b && false) ≡ false
    off true = refl
    off false = refl
fits_own (Member n ∷ p) (Element m ∷ q) o is = refl
fits_own (Element n ∷ p) (Member m ∷ q) o is = refl

pub no_top : (i : ℕ) (r : Root) → is_own i r ≡ true → same_root r Top ≡ false
no_top i Top e = cc
no_top i (location.Local j cs n) e = refl
no_top i (location.Answer j cs) e = refl

append_none : (s : List Step) → s ++ [] ≡ s
append_none [] = refl
append_none (x ∷ s) = ap (λ z. x ∷ z) (append_none s)

part_more : (path : List Part) (x : Part) → map part_step (path ++ x ∷ []) ≡ map part_step path ++ part_step x ∷ []
part_more [] x = refl
part_more (y ∷ path) x = ap (λ z. part_step y ∷ z) (part_more path x)

open_front : (p : List Step) (s : Step) → is_open (p ++ s ∷ []) ≡ false → is_open p ≡ false
open_front [] s h = refl
open_front (Named n ∷ p) s h = open_front p s h
open_front (At n ∷ p) s h = open_front p s h
open_front (Ours n ∷ p) s h = open_front p s h
open_front (Open n ∷ p) s h = absurd cc

open_end : (p : List Step) (n : ℕ) → is_open (p ++ Open n ∷ []) ≡ true
open_end [] n = refl
open_end (Named m ∷ p) n = open_end p n
open_end (At m ∷ p) n = open_end p n
open_end (Ours m ∷ p) n = open_end p n
open_end (Open m ∷ p) n = refl

index_closed : (p : List Step) (size : ℕ) (k : Kind) (o : Option ℕ) → is_open (p ++ index_step size k o ∷ []) ≡ false → (v : ℕ) × (o ≡ Some v)
index_closed p size k None h = let e = open_end p size in absurd cc
index_closed p size k (Some v) h = (v, refl)

first_ours : (cs : Cells) (l : Left) (s f : List Step) → pattern cs l ≡ Some s → first_of cs l ≡ Some f → has_ours s ≡ has_ours f
first_ours cs (Cell p n) s f e g = let x : s ≡ f = cc in ap has_ours x
first_ours cs (Prefix p n) s f e g = let x : s ≡ f = cc in ap has_ours x
first_ours cs (Null p) s f e g = cc
first_ours cs (Follow p t l) s f e g = cc
first_ours cs (term.Member l n) s f e g =
    let a = map_is (pattern cs l) (λ z. z ++ Named n ∷ []) s e in let b = map_is (first_of cs l) (λ z. z ++ Named n ∷ []) f g in
    sym (ap has_ours a.2) ∙ (ours_same a.0 b.0 (Named n) (Named n) (first_ours cs l a.0 b.0 a.1 b.1) refl ∙ ap has_ours b.2)
first_ours cs (Index l size j) s f e g =
    let a = map_is (pattern cs l) (λ z. z ++ index_step size (kind_of j) (static cs j) ∷ []) s e in let b = map_is (first_of cs l) (λ z. z ++ At 0 ∷ []) f g in
    sym (ap has_ours a.2) ∙ (ours_same a.0 b.0 (index_step size (kind_of j) (static cs j)) (At 0) (first_ours cs l a.0 b.0 a.1 b.1) (by (static cs j)) ∙ ap has_ours b.2)
  where
    by : (o : Option ℕ) → has_ours (index_step size (kind_of j) o ∷ []) ≡ false
    by None = refl
    by (Some w) = refl

module _ (home : Home) (p : Program) (constant : Location → Option ℕ) (i : ℕ) (own_home : (i n : ℕ) → is_own i (home i n) ≡ true) (moves : OwnMoves p.cells) where
  abbrev E : Term → Expr
  E e = expr_of home p.cells i e

  pub kind_is : (e : Term) → IsKinded e → expr_kind (E e) ≡ kind_of e
  kind_is (Literal q k w) t = refl
  kind_is (Load q k l) t = refl
  kind_is (Read q k l) t = refl
  kind_is (Convert q k e) t = refl
  kind_is (Unary q k o a) t = ap (λ j. kind_or (operator_kind o j j)) (kind_is a t.1) ∙ ap kind_or t.0
  kind_is (Binary q k o a b) t = ap (λ i. kind_or (operator_kind o i (expr_kind (E b)))) (kind_is a t.1)
      ∙ (ap (λ j. kind_or (operator_kind o (kind_of a) j)) (kind_is b t.2) ∙ ap kind_or t.0)
  kind_is (Choose q k n a b) t = refl
  kind_is (Bit q a e) t = refl
  kind_is (Range q k a h l) t = refl
  kind_is (Join q k a b) t = refl

  told : (path : List Part) (c : program.Cell) → names_cell false (map part_step path) c ≡ (same (cell_location home p c) (at_top path) && not (is_pointer c.sort))
  told path c = ap (λ b. b && not (is_pointer c.sort)) (by c.name.own)
    where
      by : (o : Option Own) → fits (map part_step path) (map part_step c.name.path ++ own_steps o c.name.indices) ≡ same (location_in home (process_named 0 c.name.path p.processes) o c.name) (at_top path)
      by None = fits_path path c.name.path
      by (Some o) = fits_own path c.name.path o c.name.indices ∙ sym (ap (λ b. b && same_path (map Element c.name.indices) path) (no_top (process_named 0 c.name.path p.processes) (home (process_named 0 c.name.path p.processes) o.number) (own_home (process_named 0 c.name.path p.processes) o.number)))

  pub there_is : (path : List Part) → cell_there home p false (at_top path) ≡ found p.cells (map part_step path)
  there_is path = λ z. find (λ c. sym (told path c) z) p.cells

  module _ (names : Names) (signals : Location → ℕ) (s : Store) (fixed : (l : Location) (w : ℕ) → (source_of home p constant).fixed l ≡ Some w → s.words l ≡ w) where
    abbrev S : Scene
    S = record { places = (source_of home p constant).places; signals = signals; names = names; store = s }

    -- what steps that aren't open name
    abbrev Stands : Location → List Step → Type 0
    Stands k t = ((path : List Part) × (k ≡ at_top path) × (map part_step path ≡ t)) ⊎ (has_ours t ≡ true)

    base : (n : CellName) → Stands (location_of home i n) (steps_of n)
    base n = by n.own
      where
        by : (o : Option Own) → Stands (location_in home i o n) (map part_step n.path ++ own_steps o n.indices)
        by None = inl (n.path, refl, sym (append_none (map part_step n.path)))
        by (Some o) = inr (steps_ours n.path (own_steps (Some o) n.indices))

    further : (k : Location) (t : List Step) (x : Part) → Stands k t → Stands (within k x) (t ++ part_step x ∷ [])
    further k t x (inl e) = inl (e.0 ++ x ∷ [], ap (λ k. within k x) e.1, part_more e.0 x ∙ ap (λ t. t ++ part_step x ∷ []) e.2)
    further k t x (inr e) = inr (ours_more t (part_step x) e)

    load_is : (k : Location) (t f : List Step) (v : ℕ) → Stands k t → has_ours t ≡ has_ours f → held (found p.cells t) (found p.cells f) ≡ Some v → loaded (S.places.things k) (s.words k) ≡ v
    load_is k t f v (inr o) same e = by (found p.cells t) refl (found p.cells f) refl e
      where
        by : (x : Option program.Cell) → found p.cells t ≡ x → (y : Option program.Cell) → found p.cells f ≡ y → held x y ≡ Some v → loaded (S.places.things k) (s.words k) ≡ v
        by (Some c) g y z e = absurd (let n = found_moves t p.cells c o moves g in cc)
        by None g (Some c) z e = absurd (let n = found_moves f p.cells c (sym same ∙ o) moves z in let m = map_is (fixed_word c.sort) (λ w. 0) v e in cc)
        by None g None z e = absurd cc
    load_is k t f v (inl r) same e = by (found p.cells t) (found p.cells f) (ap (cell_there home p false) r.1 ∙ (there_is r.0 ∙ ap (found p.cells) r.2)) e
      where
        by_sort : (c : program.Cell) (t : Sort) → fixed_word t ≡ Some v → s.words k ≡ v → loaded (thing_of home p c t) (s.words k) ≡ v
        by_sort c (Variable x true) d g = g
        by_sort c (Variable x false) d g = absurd cc
        by_sort c (Local j) d g = absurd cc
        by_sort c Input d g = absurd cc
        by_sort c Output d g = absurd cc
        by_sort c program.Signal d g = absurd cc
        by_sort c (Pointer t) d g = absurd cc
        by_sort c (Port r) d g = absurd cc

        by : (o u : Option program.Cell) → cell_there home p false k ≡ o → held o u ≡ Some v → loaded (S.places.things k) (s.words k) ≡ v
        by (Some c) u there d =
            ap (λ z. loaded (option_and_then (λ c. thing_of home p c c.sort) z) (s.words k)) there
            ∙ by_sort c c.sort d (fixed k v (ap (option_and_then (λ c. fixed_word c.sort)) there ∙ d))
        by None (Some c) there d = let m = map_is (fixed_word c.sort) (λ w. 0) v d in ap (λ z. loaded (option_and_then (λ c. thing_of home p c c.sort) z) (s.words k)) there ∙ m.2
        by None None there d = absurd cc

    mutual
      pattern_is : (l : Left) (t : List Step) → IsKindedLeft l → pattern p.cells l ≡ Some t → is_open t ≡ false → (k : Location) × (locate S (left_of home p.cells i l) ≡ Some (Some k)) × Stands k t
      pattern_is (Cell o n) t q e c = by (slice_get p.cells n) e
        where
          by : (c : Option program.Cell) → option_map (λ c. steps_of c.name) c ≡ Some t → (k : Location) × (locate S (cell_left home p.cells i c) ≡ Some (Some k)) × Stands k t
          by None e' = absurd cc
          by (Some c) e' = (location_of home i c.name, refl, subst (λ t. Stands (location_of home i c.name) t) (some_same e') (base c.name))
      pattern_is (Prefix o name) t q e c = (location_of home i name, refl, subst (λ t. Stands (location_of home i name) t) (some_same e) (base name))
      pattern_is (Null o) t q e c = absurd cc
      pattern_is (Follow o soft l) t q e c = absurd cc
      pattern_is (term.Member l name) t q e c =
          let m = map_is (pattern p.cells l) (λ z. z ++ Named name ∷ []) t e in
          let r = pattern_is l m.0 q m.1 (open_front m.0 (Named name) (ap is_open m.2 ∙ c)) in
          (within r.0 (Member name), ap (λ z. machine.behind z (λ k. Some (Some (within k (Member name))))) r.1, subst (λ t. Stands (within r.0 (Member name)) t) m.2 (further r.0 m.0 (Member name) r.2))
      pattern_is (Index l size j) t q e c =
          let m = map_is (pattern p.cells l) (λ z. z ++ index_step size (kind_of j) (static p.cells j) ∷ []) t e in
          let front = pattern_is l m.0 q.0 m.1 (open_front m.0 (index_step size (kind_of j) (static p.cells j)) (ap is_open m.2 ∙ c)) in
          let v = index_closed m.0 size (kind_of j) (static p.cells j) (ap is_open m.2 ∙ c) in
          let value' = static_is j v.0 q.1 v.1 in
          let same = ap (λ o. m.0 ++ index_step size (kind_of j) o ∷ []) (sym v.1) ∙ m.2 in (
            within front.0 (Element (index_of (kind_of j) v.0)),
            ap (λ z. machine.behind z (λ k. option_map (λ x. Some (within k (Element (index_of (expr_kind (E j)) x)))) (value S (E j)))) front.1
                ∙ (ap (option_map (λ x. Some (within front.0 (Element (index_of (expr_kind (E j)) x))))) value' ∙ ap (λ u. Some (Some (within front.0 (Element (index_of u v.0))))) (kind_is j q.1)),
            subst (λ t. Stands (within front.0 (Element (index_of (kind_of j) v.0))) t) same (further front.0 m.0 (Element (index_of (kind_of j) v.0)) front.2),
          )

      pub static_is : (e : Term) (x : ℕ) → IsKinded e → static p.cells e ≡ Some x → value S (E e) ≡ Some x
      static_is (Literal o k v) x t d = d
      static_is (Load o k l) x t d =
          let m = then_is (pattern p.cells l) (λ s. option_and_then (λ f. held_at p.cells s f) (first_of p.cells l)) x d in
          let f = then_is (first_of p.cells l) (λ f. held_at p.cells m.0 f) x m.2 in
          let g = closed (is_open m.0) refl (held (found p.cells m.0) (found p.cells f.0)) f.2 in
          let c = pattern_is l m.0 t m.1 g.0 in
          ap (λ z. option_map (λ k. loaded (S.places.things k) (s.words k)) (followed z)) c.1 ∙ ap Some (load_is c.0 m.0 f.0 x c.2 (first_ours p.cells l m.0 f.0 m.1 f.1) g.1)
        where
          closed : {b : Bool} (o : Bool) → b ≡ o → (y : Option ℕ) → (if o then None else y) ≡ Some x → (b ≡ false) × (y ≡ Some x)
          closed true e y z = absurd cc
          closed false e y z = (e, z)
      static_is (Read o k l) x t d = absurd cc
      static_is (Convert o k e) x t d =
          let m = map_is (static p.cells e) (λ x. stored k (number_of (kind_of e) x)) x d in
          rw (static_is e m.0 t m.1) (rw (kind_is e t) (ap Some m.2))
      static_is (Unary o k op e) x t d =
          let m = then_is (static p.cells e) (λ x. applied op (kind_of e) x (kind_of e) x) x d in
          rw (static_is e m.0 t.1 m.1) (rw (kind_is e t.1) m.2)
      static_is (Binary o k op e f) x t d =
          let m = two_is (static p.cells e) (static p.cells f) (λ x y. applied op (kind_of e) x (kind_of f) y) x d in
          rw (static_is e m.0 t.1 m.2) (rw (static_is f m.1 t.2 m.3) (rw (kind_is e t.1) (rw (kind_is f t.2) m.4)))
      static_is (Choose o k n e f) x t d =
          let m = then_is (static p.cells n) (λ n. with_two (static p.cells e) (static p.cells f) (λ x y. Some (chosen n (stored k (number_of (kind_of e) x)) (stored k (number_of (kind_of f) y))))) x d in
          let u = two_is (static p.cells e) (static p.cells f) (λ x y. Some (chosen m.0 (stored k (number_of (kind_of e) x)) (stored k (number_of (kind_of f) y)))) x m.2 in
          rw (static_is n m.0 t.0 m.1) (rw (static_is e u.0 t.1 u.2) (rw (static_is f u.1 t.2 u.3) (rw (kind_is e t.1) (rw (kind_is f t.2) u.4))))
      static_is (Bit o e j) x t d =
          let u = two_is (static p.cells e) (static p.cells j) (λ x n. Some (bit_at (width_of (kind_of e)) x (index_of (kind_of j) n))) x d in
          rw (static_is e u.0 t.0 u.2) (rw (static_is j u.1 t.1 u.3) (rw (kind_is e t.0) (rw (kind_is j t.1) u.4)))
      static_is (Range o k e hi lo) x t d =
          let m = map_is (static p.cells e) (part hi lo) x d in
          rw (static_is e m.0 t m.1) (ap Some m.2)
      static_is (Join o k e f) x t d =
          let u = two_is (static p.cells e) (static p.cells f) (λ x y. Some (joined (width_of (kind_of f)) x y)) x d in
          rw (static_is e u.0 t.0 u.2) (rw (static_is f u.1 t.1 u.3) (rw (kind_is f t.1) u.4))
