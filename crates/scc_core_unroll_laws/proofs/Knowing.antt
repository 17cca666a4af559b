-- A static value is what every store holds that holds the fixed words; counters are numbers.
use Rattle.std.proofs.Common.{◌≡◌, ℕ, zero, suc, Bool, true, false, List, [], ◌∷◌, ◌++◌, map, Option, Some, None, refl, sym, ap, ◌∙◌, subst, arith}
use Rattle.std.specs.Prelude.{nat_eq, not, ◌&&◌, find, slice_get, option_map, option_and_then, if◌then◌else◌}
use Rattle.scc_bits_kinds.specs.declared.kind.Kind.{Kind}
use Rattle.scc_bits_kinds.specs.Kinds.{width_of, number_of, stored}
use Rattle.scc_bits_kinds.specs.Bits.{part, joined}
use Rattle.scc_bits.specs.Values.{kind_of as operator_kind, applied}
use Rattle.scc_semantics.specs.Location.{Location, Root, Top, Local, Answer, Part, Member, Element, within, same, same_root, same_path}
use Rattle.scc_semantics.specs.Places.{Number}
use Rattle.scc_semantics.specs.Expressions as body
use Rattle.scc_semantics.specs.Expressions.{Expr}
use Rattle.scc_semantics.specs.Scene.{Scene, expr_kind, kind_or, loaded, followed, index_of, bit_at, with_two, chosen}
use Rattle.scc_semantics.specs.Same.{is_own}
use Rattle.scc_semantics.specs.Value.{Held, locate, value, behind}
use Rattle.scc_semantics_laws.proofs.Places.{same-is, same-self}
use Rattle.scc_semantics_laws.proofs.Blind.{and-first, and-second}
use Rattle.scc_core_spec.specs.Term.{Term, Literal, Load, Read, Convert, Unary, Binary, Choose, Bit, Range, Join, Left, Cell, Prefix, Null, Follow, Index, CellName, Own, kind_of}
use Rattle.scc_core_spec.specs.Term as term
use Rattle.scc_core_spec.specs.Program as program
use Rattle.scc_core_spec.specs.Program.{Program, Process, Sort, Input, Output, Variable, Pointer, Port, is_pointer, is_local}
use Rattle.scc_core_spec.specs.Named.{Step, Named, At, Ours, Open, part_step, own_steps, steps_of, fits, is_open, names_cell}
use Rattle.scc_core_spec.specs.Static.{Cells, fixed_word, found, held, held_at, index_step, static, pattern, first_of}
use Rattle.scc_core_spec.specs.Counted.{own_of, own_whole, number_of as counter_of, counter_number}
use Rattle.scc_core_spec.specs.Source.{Home, at_top, location_in, location_of, cell_left, expr_of, left_of, process_named, cell_location, cell_there, thing_of}
use Rattle.scc_blocks_spec.specs.Passed.{IsHome}
use Rattle.scc_core_unroll_laws.specs.Unrolling.{Around, scene_at, local_at, Counters, HoldsFixed, Knows}
use Rattle.scc_core_unroll_laws.specs.Kinds.{IsKinded, IsKindedLeft}
use Rattle.scc_core_unroll_laws.specs.Named.{IsLocal, AllLocal, IsNamed, around_of}
use Rattle.scc_core_unroll_laws.proofs.Counters.{some-is}

same-path-is : (p q : List Part) → same_path p q ≡ true → p ≡ q
same-path-is p q e = ap (λ l. l.path) (same-is (at_top p) (at_top q) e)

pub map-is : {A B : Type 0} (o : Option A) (f : A → B) (y : B) → option_map f o ≡ Some y → (x : A) × (o ≡ Some x) × (f x ≡ y)
map-is None f y e = absurd cc
map-is (Some x) f y e = (x, refl, some-is e)

pub then-is : {A B : Type 0} (o : Option A) (f : A → Option B) (y : B) → option_and_then f o ≡ Some y → (x : A) × (o ≡ Some x) × (f x ≡ Some y)
then-is None f y e = absurd cc
then-is (Some x) f y e = (x, refl, e)

two-is : (o u : Option ℕ) (f : ℕ → ℕ → Option ℕ) (y : ℕ) → with_two o u f ≡ Some y → (a : ℕ) × (b : ℕ) × (o ≡ Some a) × (u ≡ Some b) × (f a b ≡ Some y)
two-is None u f y e = absurd cc
two-is (Some a) None f y e = absurd cc
two-is (Some a) (Some b) f y e = (a, b, refl, refl, e)

-- steps that name no local
abbrev outer : List Step → Bool
outer [] = true
outer (Ours n ∷ s) = false
outer (s ∷ t) = outer t

outer-on : (s t : List Step) (x : Step) → outer (x ∷ []) ≡ true → outer s ≡ true → outer (s ++ x ∷ []) ≡ true
outer-on [] t x e f = e
outer-on (Ours n ∷ s) t x e f = absurd cc
outer-on (Named n ∷ s) t x e f = outer-on s t x e f
outer-on (At n ∷ s) t x e f = outer-on s t x e f
outer-on (Open n ∷ s) t x e f = outer-on s t x e f

outer-both : (s t : List Step) (x y : Step) → outer (x ∷ []) ≡ true → outer (y ∷ []) ≡ true → outer s ≡ outer t → outer (s ++ x ∷ []) ≡ outer (t ++ y ∷ [])
outer-both s t x y e f h = by (outer s) refl
  where
    front : (s : List Step) (x : Step) → outer s ≡ false → outer (s ++ x ∷ []) ≡ false
    front [] x e = absurd cc
    front (Ours n ∷ s) x e = refl
    front (Named n ∷ s) x e = front s x e
    front (At n ∷ s) x e = front s x e
    front (Open n ∷ s) x e = front s x e

    by : (b : Bool) → outer s ≡ b → outer (s ++ x ∷ []) ≡ outer (t ++ y ∷ [])
    by true g = outer-on s s x e g ∙ sym (outer-on t t y f (sym h ∙ g))
    by false g = front s x g ∙ sym (front t y (sym h ∙ g))

-- a path fits itself alone
fits-path : (p q : List Part) → fits (map part_step p) (map part_step q) ≡ same_path q p
fits-path [] [] = refl
fits-path [] (y ∷ q) = by y
  where
    by : (y : Part) → fits [] (part_step y ∷ map part_step q) ≡ false
    by (Member n) = refl
    by (Element n) = refl
fits-path (Member n ∷ p) [] = refl
fits-path (Element n ∷ p) [] = refl
fits-path (Member n ∷ p) (Member m ∷ q) = let e : nat_eq n m ≡ nat_eq m n = grind arith in λ z. e z && fits-path p q z
fits-path (Element n ∷ p) (Element m ∷ q) = let e : nat_eq n m ≡ nat_eq m n = grind arith in λ z. e z && fits-path p q z
fits-path (Member n ∷ p) (Element m ∷ q) = refl
fits-path (Element n ∷ p) (Member m ∷ q) = refl

and-false : (b : Bool) → (b && false) ≡ false
and-false true = refl
and-false false = refl

fits-ours : (p q : List Part) (o : ℕ) (s : List Step) → fits (map part_step p) (map part_step q ++ Ours o ∷ s) ≡ false
fits-ours [] [] o s = refl
fits-ours [] (Member n ∷ q) o s = refl
fits-ours [] (Element n ∷ q) o s = refl
fits-ours (Member n ∷ p) [] o s = refl
fits-ours (Element n ∷ p) [] o s = refl
fits-ours (Member n ∷ p) (Member m ∷ q) o s = ap (λ b. nat_eq n m && b) (fits-ours p q o s) ∙ and-false (nat_eq n m)
fits-ours (Element n ∷ p) (Element m ∷ q) o s = ap (λ b. nat_eq n m && b) (fits-ours p q o s) ∙ and-false (nat_eq n m)
fits-ours (Member n ∷ p) (Element m ∷ q) o s = refl
fits-ours (Element n ∷ p) (Member m ∷ q) o s = refl

-- what fits a path from the top names no local
fits-outer : (s : List Step) (q : List Part) → fits s (map part_step q) ≡ true → outer s ≡ true
fits-outer [] q e = refl
fits-outer (Named n ∷ s) (Member m ∷ q) e = fits-outer s q (and-second (nat_eq n m) (fits s (map part_step q)) e)
fits-outer (At n ∷ s) (Element m ∷ q) e = fits-outer s q (and-second (nat_eq n m) (fits s (map part_step q)) e)
fits-outer (Open n ∷ s) (Element m ∷ q) e = fits-outer s q (and-second (_) (fits s (map part_step q)) e)
fits-outer (Named n ∷ s) [] e = absurd cc
fits-outer (At n ∷ s) [] e = absurd cc
fits-outer (Ours n ∷ s) [] e = absurd cc
fits-outer (Open n ∷ s) [] e = absurd cc
fits-outer (Named n ∷ s) (Element m ∷ q) e = absurd cc
fits-outer (At n ∷ s) (Member m ∷ q) e = absurd cc
fits-outer (Ours n ∷ s) (Member m ∷ q) e = absurd cc
fits-outer (Ours n ∷ s) (Element m ∷ q) e = absurd cc
fits-outer (Open n ∷ s) (Member m ∷ q) e = absurd cc

append-map : (p : List Part) (x : Part) → map part_step p ++ part_step x ∷ [] ≡ map part_step (p ++ x ∷ [])
append-map [] x = refl
append-map (y ∷ p) x = ap (λ s. part_step y ∷ s) (append-map p x)

pub append-none : (s : List Step) → s ++ [] ≡ s
append-none [] = refl
append-none (x ∷ s) = ap (λ t. x ∷ t) (append-none s)

own-no-top : (i : ℕ) (r : Root) → is_own i r ≡ true → same_root r Top ≡ false
own-no-top i Top e = absurd cc
own-no-top i (Local j c n) e = refl
own-no-top i (Answer j c) e = refl

module _ {A : Type 0} (f : A → Bool) where
  pub find-test : (xs : List A) (x : A) → find f xs ≡ Some x → f x ≡ true
  find-test [] x e = absurd cc
  find-test (y ∷ ys) x e = by (f y) refl e (find-test ys x)
    where
      by : (b : Bool) → f y ≡ b → (if b then Some y else find f ys) ≡ Some x → (find f ys ≡ Some x → f x ≡ true) → f x ≡ true
      by true g e rest = ap f (sym (some-is e)) ∙ g
      by false g e rest = rest e

find-local : (f : program.Cell → Bool) (cs : Cells) (c : program.Cell) → AllLocal cs → find f cs ≡ Some c → IsLocal c
find-local f [] c all e = absurd cc
find-local f (y ∷ ys) c all e = by (f y) e (find-local f ys c all.1)
  where
    by : (b : Bool) → (if b then Some y else find f ys) ≡ Some c → (find f ys ≡ Some c → IsLocal c) → IsLocal c
    by true e rest = subst IsLocal (some-is e) all.0
    by false e rest = rest e

-- what stands in a list is found
find-some : (f : program.Cell → Bool) (cs : Cells) (n : ℕ) (c : program.Cell) → slice_get cs n ≡ Some c → f c ≡ true → (d : program.Cell) × (find f cs ≡ Some d)
find-some f [] n c e h = absurd cc
find-some f (y ∷ ys) zero c e h = (y, ap (λ b. if b then Some y else find f ys) (ap f (some-is e) ∙ h))
find-some f (y ∷ ys) (suc n) c e h = by (f y) refl (find-some f ys n c e h)
  where
    by : (b : Bool) → f y ≡ b → (d : program.Cell) × (find f ys ≡ Some d) → (d : program.Cell) × (find f (y ∷ ys) ≡ Some d)
    by true g r = (y, ap (λ b. if b then Some y else find f ys) g)
    by false g r = (r.0, ap (λ b. if b then Some y else find f ys) g ∙ r.1)

module _ (home : Home) (is_home : IsHome home) (p : Program) (constant : Location → Option ℕ) (i : ℕ) (q : Process) (named : IsNamed p) where
  abbrev w : Around
  w = around_of home p constant i q

  -- a path from the top names the same cells as its location
  top-same : (path : List Part) (c : program.Cell) → (names_cell false (map part_step path) c) ≡ (same (cell_location home p c) (at_top path) && not (is_pointer c.sort))
  top-same path c = by c.name.own
    where
      by : (o : Option Own) → (fits (map part_step path) (map part_step c.name.path ++ own_steps o c.name.indices) && not (is_pointer c.sort))
          ≡ (same (location_in home (process_named 0 c.name.path p.processes) o c.name) (at_top path) && not (is_pointer c.sort))
      by None = ap (λ b. b && not (is_pointer c.sort)) (ap (fits (map part_step path)) (append-none (map part_step c.name.path)) ∙ fits-path path c.name.path)
      by (Some o) = ap (λ b. b && not (is_pointer c.sort)) (fits-ours path c.name.path o.number (map At c.name.indices)
          ∙ sym (ap (λ b. b && same_path (map Element c.name.indices) path) (own-no-top (process_named 0 c.name.path p.processes) (home (process_named 0 c.name.path p.processes) o.number) (is_home.own (process_named 0 c.name.path p.processes) o.number))))

  top-found : (path : List Part) → found p.cells (map part_step path) ≡ cell_there home p false (at_top path)
  top-found path = λ z. find (λ c. top-same path c z) p.cells

  -- what a fixed cell's name fits names no local
  fixed-outer : (s : List Step) (c : program.Cell) (x : ℕ) → found p.cells s ≡ Some c → fixed_word c.sort ≡ Some x → outer s ≡ true
  fixed-outer s c x e f = by c.name.own refl
    where
      test : fits s (steps_of c.name) ≡ true
      test = and-first (fits s (steps_of c.name)) (not (is_pointer c.sort)) (find-test (names_cell false s) p.cells c e)

      sorts : (t : Sort) → fixed_word t ≡ Some x → (is_pointer t ≡ false) × (is_local t ≡ false)
      sorts (Variable y b) f = (refl, refl)
      sorts Input f = absurd cc
      sorts Output f = absurd cc
      sorts program.Signal f = absurd cc
      sorts (program.Local j) f = absurd cc
      sorts (Pointer t) f = absurd cc
      sorts (Port r) f = absurd cc

      by : (o : Option Own) → c.name.own ≡ o → outer s ≡ true
      by None g = fits-outer s c.name.path (sym (ap (fits s) (ap (λ o. map part_step c.name.path ++ own_steps o c.name.indices) g ∙ append-none (map part_step c.name.path))) ∙ test)
      by (Some o) g = let k = sorts c.sort f in let l = find-local (names_cell false s) p.cells c named.locals e o k.0 g in let m = k.1 in absurd cc

  module _ (signals : Location → ℕ) (a : Held) (fixed : HoldsFixed w a) where
    abbrev S : Scene
    S = scene_at w signals a

    abbrev E : Term → Expr
    E e = expr_of home p.cells i e

    abbrev L : Left → body.Left
    L l = left_of home p.cells i l

    -- what is loaded at a path from the top
    loaded-is : (path : List Part) (first : Option program.Cell) (x : ℕ) → held (found p.cells (map part_step path)) first ≡ Some x → loaded (w.places.things (at_top path)) (a.store.words (at_top path)) ≡ x
    loaded-is path first x e = by (found p.cells (map part_step path)) (sym (top-found path)) e
      where
        sorts : (c : program.Cell) (t : Sort) → fixed_word t ≡ Some x → a.store.words (at_top path) ≡ x → loaded (thing_of home p c t) (a.store.words (at_top path)) ≡ x
        sorts c (Variable y true) d g = g
        sorts c (Variable y false) d g = absurd cc
        sorts c (program.Local j) d g = absurd cc
        sorts c Input d g = absurd cc
        sorts c Output d g = absurd cc
        sorts c program.Signal d g = absurd cc
        sorts c (Pointer t) d g = absurd cc
        sorts c (Port r) d g = absurd cc

        by : (o : Option program.Cell) → cell_there home p false (at_top path) ≡ o → held o first ≡ Some x → loaded (w.places.things (at_top path)) (a.store.words (at_top path)) ≡ x
        by (Some c) there d = ap (λ z. loaded (option_and_then (λ c. thing_of home p c c.sort) z) (a.store.words (at_top path))) there
            ∙ sorts c c.sort d (fixed (at_top path) x (ap (option_and_then (λ c. fixed_word c.sort)) there ∙ d))
        by None there d = ap (λ z. loaded (option_and_then (λ c. thing_of home p c c.sort) z) (a.store.words (at_top path))) there ∙ first-is first d
          where
            first-is : (f : Option program.Cell) → held None f ≡ Some x → 0 ≡ x
            first-is None d = absurd cc
            first-is (Some c) d = (map-is (fixed_word c.sort) (λ w. 0) x d).2

    open-end : (s : List Step) (n : ℕ) → is_open (s ++ Open n ∷ []) ≡ true
    open-end [] n = refl
    open-end (Named m ∷ s) n = open-end s n
    open-end (At m ∷ s) n = open-end s n
    open-end (Ours m ∷ s) n = open-end s n
    open-end (Open m ∷ s) n = refl

    pub open-front : (s : List Step) (x : Step) → is_open (s ++ x ∷ []) ≡ false → is_open s ≡ false
    open-front [] x h = refl
    open-front (Named n ∷ s) x h = open-front s x h
    open-front (At n ∷ s) x h = open-front s x h
    open-front (Ours n ∷ s) x h = open-front s x h
    open-front (Open n ∷ s) x h = absurd cc

    pub index-closed : (s : List Step) (size : ℕ) (k : Kind) (o : Option ℕ) → is_open (s ++ index_step size k o ∷ []) ≡ false → (v : ℕ) × (o ≡ Some v)
    index-closed s size k None h = let e = open-end s size in absurd cc
    index-closed s size k (Some v) h = (v, refl)

    outer-front : (s : List Step) (x : Step) → outer (s ++ x ∷ []) ≡ true → outer s ≡ true
    outer-front [] x h = refl
    outer-front (Named n ∷ s) x h = outer-front s x h
    outer-front (At n ∷ s) x h = outer-front s x h
    outer-front (Ours n ∷ s) x h = absurd cc
    outer-front (Open n ∷ s) x h = outer-front s x h

    outer-ours : (p : List Part) (o : ℕ) (s : List Step) → outer (map part_step p ++ Ours o ∷ s) ≡ true → ⊥
    outer-ours [] o s e = cc
    outer-ours (Member n ∷ p) o s e = outer-ours p o s e
    outer-ours (Element n ∷ p) o s e = outer-ours p o s e

    abbrev AtTop : Left → List Step → Type 0
    AtTop l s = (path : List Part) × (locate S (L l) ≡ Some (Some (at_top path))) × (s ≡ map part_step path)

    name-top : (n : CellName) → outer (steps_of n) ≡ true → (path : List Part) × (location_of home i n ≡ at_top path) × (steps_of n ≡ map part_step path)
    name-top n e = by n.own e
      where
        by : (o : Option Own) → outer (map part_step n.path ++ own_steps o n.indices) ≡ true → (path : List Part) × (location_in home i o n ≡ at_top path) × (map part_step n.path ++ own_steps o n.indices ≡ map part_step path)
        by None e = (n.path, refl, append-none (map part_step n.path))
        by (Some o) e = absurd (outer-ours n.path o.number (map At n.indices) e)

    -- the first element names a local where the location does
    outer-first : (l : Left) (s f : List Step) → pattern p.cells l ≡ Some s → first_of p.cells l ≡ Some f → outer s ≡ outer f
    outer-first (Cell o n) s f e g = ap outer (some-is (sym e ∙ g))
    outer-first (Prefix o n) s f e g = ap outer (some-is (sym e ∙ g))
    outer-first (Null o) s f e g = absurd cc
    outer-first (Follow o t l) s f e g = absurd cc
    outer-first (term.Member l n) s f e g =
        let m = map-is (pattern p.cells l) (λ z. z ++ Named n ∷ []) s e in
        let k = map-is (first_of p.cells l) (λ z. z ++ Named n ∷ []) f g in
        sym (ap outer m.2) ∙ (outer-both m.0 k.0 (Named n) (Named n) refl refl (outer-first l m.0 k.0 m.1 k.1) ∙ ap outer k.2)
    outer-first (Index l size x) s f e g =
        let m = map-is (pattern p.cells l) (λ z. z ++ index_step size (kind_of x) (static p.cells x) ∷ []) s e in
        let k = map-is (first_of p.cells l) (λ z. z ++ At 0 ∷ []) f g in
        sym (ap outer m.2) ∙ (outer-both m.0 k.0 (index_step size (kind_of x) (static p.cells x)) (At 0) (by (static p.cells x)) refl (outer-first l m.0 k.0 m.1 k.1) ∙ ap outer k.2)
      where
        by : (o : Option ℕ) → outer (index_step size (kind_of x) o ∷ []) ≡ true
        by None = refl
        by (Some v) = refl

    pub kinds-are : (e : Term) → IsKinded e → expr_kind (E e) ≡ kind_of e
    kinds-are (Literal o k x) t = refl
    kinds-are (Load o k l) t = refl
    kinds-are (Read o k l) t = refl
    kinds-are (Convert o k e) t = refl
    kinds-are (Unary o k p e) t = ap (λ j. kind_or (operator_kind p j j)) (kinds-are e t.1) ∙ ap kind_or t.0
    kinds-are (Binary o k p e f) t = (λ z. kind_or (operator_kind p (kinds-are e t.1 z) (kinds-are f t.2 z))) ∙ ap kind_or t.0
    kinds-are (Choose o k n e f) t = refl
    kinds-are (Bit o e j) t = refl
    kinds-are (Range o k e hi lo) t = refl
    kinds-are (Join o k e f) t = refl

    closed-is : (b : Bool) (y : Option ℕ) (x : ℕ) → (if b then None else y) ≡ Some x → (b ≡ false) × (y ≡ Some x)
    closed-is true y x e = absurd cc
    closed-is false y x e = (refl, e)

    held-outer : (s f : List Step) (x : ℕ) → outer s ≡ outer f → held (found p.cells s) (found p.cells f) ≡ Some x → outer s ≡ true
    held-outer s f x same e = by (found p.cells s) refl (found p.cells f) refl e
      where
        by : (u : Option program.Cell) → found p.cells s ≡ u → (v : Option program.Cell) → found p.cells f ≡ v → held u v ≡ Some x → outer s ≡ true
        by (Some c) eu v ev d = fixed-outer s c x eu d
        by None eu (Some c) ev d = let m = map-is (fixed_word c.sort) (λ w. 0) x d in same ∙ fixed-outer f c m.0 ev m.1
        by None eu None ev d = absurd cc

    mutual
      pub static-holds : (e : Term) (x : ℕ) → IsKinded e → static p.cells e ≡ Some x → value S (E e) ≡ Some x
      static-holds (Literal o k v) x t d = d
      static-holds (Load o k l) x t d =
          let m = then-is (pattern p.cells l) (λ s. option_and_then (λ f. held_at p.cells s f) (first_of p.cells l)) x d in
          let f = then-is (first_of p.cells l) (λ f. held_at p.cells m.0 f) x m.2 in
          let g = closed-is (is_open m.0) (held (found p.cells m.0) (found p.cells f.0)) x f.2 in
          let c = pattern-top l m.0 t m.1 g.0 (held-outer m.0 f.0 x (outer-first l m.0 f.0 m.1 f.1) g.1) in
          ap (λ z. option_map (λ k. loaded (w.places.things k) (a.store.words k)) (followed z)) c.1
          ∙ ap Some (loaded-is c.0 (found p.cells f.0) x (ap (λ s. held (found p.cells s) (found p.cells f.0)) (sym c.2) ∙ g.1))
      static-holds (Read o k l) x t d = absurd cc
      static-holds (Convert o k e) x t d =
          let m = map-is (static p.cells e) (λ x. stored k (number_of (kind_of e) x)) x d in
          (λ z. option_map (λ x. stored k (number_of (kinds-are e t z) x)) (static-holds e m.0 t m.1 z)) ∙ ap Some m.2
      static-holds (Unary o k op e) x t d =
          let m = then-is (static p.cells e) (λ x. applied op (kind_of e) x (kind_of e) x) x d in
          (λ z. option_and_then (λ x. applied op (kinds-are e t.1 z) x (kinds-are e t.1 z) x) (static-holds e m.0 t.1 m.1 z)) ∙ m.2
      static-holds (Binary o k op e f) x t d =
          let m = two-is (static p.cells e) (static p.cells f) (λ x y. applied op (kind_of e) x (kind_of f) y) x d in
          (λ z. with_two (static-holds e m.0 t.1 m.2 z) (static-holds f m.1 t.2 m.3 z) (λ x y. applied op (kinds-are e t.1 z) x (kinds-are f t.2 z) y)) ∙ m.4
      static-holds (Choose o k n e f) x t d =
          let m = then-is (static p.cells n) (λ n. with_two (static p.cells e) (static p.cells f) (λ x y. Some (chosen n (stored k (number_of (kind_of e) x)) (stored k (number_of (kind_of f) y))))) x d in
          let u = two-is (static p.cells e) (static p.cells f) (λ x y. Some (chosen m.0 (stored k (number_of (kind_of e) x)) (stored k (number_of (kind_of f) y)))) x m.2 in
          (λ z. option_and_then (λ n. with_two (static-holds e u.0 t.1 u.2 z) (static-holds f u.1 t.2 u.3 z) (λ x y. Some (chosen n (stored k (number_of (kinds-are e t.1 z) x)) (stored k (number_of (kinds-are f t.2 z) y))))) (static-holds n m.0 t.0 m.1 z)) ∙ u.4
      static-holds (Bit o e j) x t d =
          let u = two-is (static p.cells e) (static p.cells j) (λ x n. Some (bit_at (width_of (kind_of e)) x (index_of (kind_of j) n))) x d in
          (λ z. with_two (static-holds e u.0 t.0 u.2 z) (static-holds j u.1 t.1 u.3 z) (λ x n. Some (bit_at (width_of (kinds-are e t.0 z)) x (index_of (kinds-are j t.1 z) n)))) ∙ u.4
      static-holds (Range o k e hi lo) x t d =
          let m = map-is (static p.cells e) (part hi lo) x d in ap (option_map (part hi lo)) (static-holds e m.0 t m.1) ∙ ap Some m.2
      static-holds (Join o k e f) x t d =
          let u = two-is (static p.cells e) (static p.cells f) (λ x y. Some (joined (width_of (kind_of f)) x y)) x d in
          (λ z. with_two (static-holds e u.0 t.0 u.2 z) (static-holds f u.1 t.1 u.3 z) (λ x y. Some (joined (width_of (kinds-are f t.1 z)) x y))) ∙ u.4

      pattern-top : (l : Left) (s : List Step) → IsKindedLeft l → pattern p.cells l ≡ Some s → is_open s ≡ false → outer s ≡ true → AtTop l s
      pattern-top (Cell o n) s h e c t = by (slice_get p.cells n) e
        where
          by : (u : Option program.Cell) → option_map (λ c. steps_of c.name) u ≡ Some s → (path : List Part) × (locate S (cell_left home p.cells i u) ≡ Some (Some (at_top path))) × (s ≡ map part_step path)
          by None e = absurd cc
          by (Some u) e = let r = name-top u.name (ap outer (some-is e) ∙ t) in (r.0, ap (λ l. Some (Some l)) r.1, sym (some-is e) ∙ r.2)
      pattern-top (Prefix o n) s h e c t = let r = name-top n (ap outer (some-is e) ∙ t) in (r.0, ap (λ l. Some (Some l)) r.1, sym (some-is e) ∙ r.2)
      pattern-top (Null o) s h e c t = absurd cc
      pattern-top (Follow o soft l) s h e c t = absurd cc
      pattern-top (term.Member l n) s h e c t =
          let m = map-is (pattern p.cells l) (λ z. z ++ Named n ∷ []) s e in
          let r = pattern-top l m.0 h m.1 (open-front m.0 (Named n) (ap is_open m.2 ∙ c)) (outer-front m.0 (Named n) (ap outer m.2 ∙ t)) in
          (r.0 ++ Member n ∷ [], ap (λ z. behind z (λ k. Some (Some (within k (Member n))))) r.1, sym m.2 ∙ (ap (λ z. z ++ Named n ∷ []) r.2 ∙ append-map r.0 (Member n)))
      pattern-top (Index l size j) s h e c t =
          let m = map-is (pattern p.cells l) (λ z. z ++ index_step size (kind_of j) (static p.cells j) ∷ []) s e in
          let r = pattern-top l m.0 h.0 m.1 (open-front m.0 (index_step size (kind_of j) (static p.cells j)) (ap is_open m.2 ∙ c)) (outer-front m.0 (index_step size (kind_of j) (static p.cells j)) (ap outer m.2 ∙ t)) in
          let v = index-closed m.0 size (kind_of j) (static p.cells j) (ap is_open m.2 ∙ c) in
          let n = index_of (kind_of j) v.0 in (
            r.0 ++ Element n ∷ [],
            (λ z. behind (r.1 z) (λ k. option_map (λ x. Some (within k (Element (index_of (kinds-are j h.1 z) x)))) (static-holds j v.0 h.1 v.1 z))),
            sym m.2 ∙ (ap (λ o. m.0 ++ index_step size (kind_of j) o ∷ []) v.1 ∙ (ap (λ z. z ++ At n ∷ []) r.2 ∙ append-map r.0 (Element n))),
          )

  pub knows : Knows w
  knows = λ signals a fixed e x t d. static-holds signals a fixed e x t d

  -- a counter stands where a number does
  counts-at : (n o : ℕ) → slice_get p.processes i ≡ Some q → counter_number w.setting n ≡ Some o → (k : Kind) × (w.places.things (local_at w o) ≡ Some (Number k))
  counts-at n o at e = by (slice_get p.cells n) refl e
    where
      f : program.Cell → Bool
      f c = same (cell_location home p c) (local_at w o) && not (is_pointer c.sort)

      thing : (c : program.Cell) → IsLocal c → f c ≡ true → (k : Kind) × (thing_of home p c c.sort ≡ Some (Number k))
      thing c local h = by c.name.own refl
        where
          plain : (b : Bool) → not b ≡ true → b ≡ false
          plain true e = cc
          plain false e = refl

          sorts : (t : Sort) → is_local t ≡ true → thing_of home p c t ≡ Some (Number c.kind)
          sorts (program.Local j) e = refl
          sorts (Variable y b) e = absurd cc
          sorts Input e = absurd cc
          sorts Output e = absurd cc
          sorts program.Signal e = absurd cc
          sorts (Pointer t) e = absurd cc
          sorts (Port r) e = absurd cc

          here : same (cell_location home p c) (local_at w o) ≡ true
          here = and-first (same (cell_location home p c) (local_at w o)) (not (is_pointer c.sort)) h

          no-pointer : is_pointer c.sort ≡ false
          no-pointer = plain (is_pointer c.sort) (and-second (same (cell_location home p c) (local_at w o)) (not (is_pointer c.sort)) h)

          top-none : (r : Root) → is_own i r ≡ true → same_root Top r ≡ false
          top-none Top e = absurd cc
          top-none (Local j cs n) e = refl
          top-none (Answer j cs) e = refl

          by : (u : Option Own) → c.name.own ≡ u → (k : Kind) × (thing_of home p c c.sort ≡ Some (Number k))
          by (Some u) e = (c.kind, sorts c.sort (local u no-pointer e))
          by None e =
              let t : same_root Top (home i o) && same_path c.name.path [] ≡ true = sym (ap (λ u. same (location_in home (process_named 0 c.name.path p.processes) u c.name) (local_at w o)) e) ∙ here in
              let g = top-none (home i o) (is_home.own i o) in
              let t1 = and-first (same_root Top (home i o)) (same_path c.name.path []) t in absurd cc

      test : (b : Bool) (c : program.Cell) → (if b then own_of c.name else None) ≡ Some o → (b ≡ true) × (own_of c.name ≡ Some o)
      test true c e = (refl, e)
      test false c e = absurd cc

      own-at : (c : program.Cell) → own_of c.name ≡ Some o → process_named 0 c.name.path p.processes ≡ i → cell_location home p c ≡ local_at w o
      own-at c e h = ap (λ j. location_of home j c.name) h ∙ by c.name.own c.name.indices e
        where
          by : (u : Option Own) (js : List ℕ) → own_whole u js ≡ Some o → location_in home i u (record { path = c.name.path; own = u; indices = js }) ≡ local_at w o
          by (Some u) [] e = ap (λ o. local_at w o) (some-is e)
          by (Some u) (j ∷ js) e = absurd cc
          by None js e = absurd cc

      by : (u : Option program.Cell) → slice_get p.cells n ≡ u → counter_of w.setting.path u ≡ Some o → (k : Kind) × (w.places.things (local_at w o) ≡ Some (Number k))
      by None e d = absurd cc
      by (Some c) e d =
          let t = test (same_path c.name.path q.name.path && not (is_pointer c.sort)) c d in
          let path : c.name.path ≡ q.name.path = same-path-is c.name.path q.name.path (and-first (same_path c.name.path q.name.path) (not (is_pointer c.sort)) t.0) in
          let l = own-at c t.1 (ap (λ u. process_named 0 u p.processes) path ∙ named.processes i q at) in
          let here : f c ≡ true = ap (λ l. same l (local_at w o) && not (is_pointer c.sort)) l ∙ (ap (λ b. b && not (is_pointer c.sort)) (same-self (local_at w o)) ∙ and-second (same_path c.name.path q.name.path) (not (is_pointer c.sort)) t.0) in
          let s = find-some f p.cells n c e here in
          let r = thing s.0 (find-local f p.cells s.0 named.locals s.1) (find-test f p.cells s.0 s.1) in
          (r.0, ap (option_and_then (λ c. thing_of home p c c.sort)) s.1 ∙ r.1)

  pub counters : slice_get p.processes i ≡ Some q → Counters w
  counters at = record { home = is_home; numbers = λ n o e. counts-at n o at e }
