-- Values and locations are the same with counters as literals.
use Rattle.std.proofs.Common.{◌≡◌, ℕ, Bool, true, false, List, [], ◌∷◌, Option, Some, None, refl, sym, ap, ◌∙◌, arith}
use Rattle.std.specs.Prelude.{nat_eq, not, ◌&&◌, find, slice_get, option_map, option_and_then, if◌then◌else◌}
use Rattle.scc_base.specs.declared.refusal.Place.{Place}
use Rattle.scc_bits_kinds.specs.declared.kind.Kind.{Kind}
use Rattle.scc_bits_kinds.specs.Kinds.{width_of, number_of, stored}
use Rattle.scc_bits_kinds.specs.Bits.{part, joined}
use Rattle.scc_bits.specs.Values.{kind_of, applied}
use Rattle.scc_semantics.specs.Location.{Location, Part, Member, Element, within, same_path}
use Rattle.scc_semantics.specs.Expressions as body
use Rattle.scc_semantics.specs.Expressions.{Expr}
use Rattle.scc_semantics.specs.Scene.{Scene, expr_kind, kind_or, loaded, sensed, pointed, index_of, bit_at, with_two, chosen, followed}
use Rattle.scc_semantics.specs.Value.{Held, locate, value, behind}
use Rattle.scc_core_spec.specs.Term.{Term, Literal, Load, Read, Convert, Unary, Binary, Choose, Bit, Range, Join, Left, Cell, Prefix, Null, Follow, Index, CellName, Own, kind_of as own_kind}
use Rattle.scc_core_spec.specs.Term as term
use Rattle.scc_core_spec.specs.Program as program
use Rattle.scc_core_spec.specs.Program.{is_pointer}
use Rattle.scc_core_spec.specs.Counted.{Counter, counter_at, loaded_as, counting, counting_left, own_of, own_whole, number_of as counter_of, counter_number}
use Rattle.scc_core_spec.specs.Source.{location_in, location_of, cell_left, expr_of, left_of}
use Rattle.scc_core_unroll_laws.specs.Kinds.{IsKinded, IsKindedLeft}
use Rattle.scc_core_unroll_laws.specs.Unrolling.{Around, scene_at, local_at, Counters, HoldsAll}

pub some-is : {A : Type 0} {x y : A} → Some x ≡ Some y → x ≡ y
some-is e = cc

-- the cell of a counter stands at its local
pub counter-left : (w : Around) (n o : ℕ) → counter_number w.setting n ≡ Some o → cell_left w.home w.setting.cells w.process (slice_get w.setting.cells n) ≡ body.At (local_at w o)
counter-left w n o e = by (slice_get w.setting.cells n) e
  where
    at : (own : Option Own) (indices : List ℕ) (path : List Part) → own_whole own indices ≡ Some o
        → body.At (location_in w.home w.process own (record { path = path; own = own; indices = indices })) ≡ body.At (local_at w o)
    at (Some x) [] path e = ap (λ o. body.At (local_at w o)) (some-is e)
    at (Some x) (j ∷ js) path e = absurd cc
    at None js path e = absurd cc

    test : (b : Bool) (c : program.Cell) → (if b then own_of c.name else None) ≡ Some o → body.At (location_of w.home w.process c.name) ≡ body.At (local_at w o)
    test true c e = at c.name.own c.name.indices c.name.path e
    test false c e = absurd cc

    by : (c : Option program.Cell) → counter_of w.setting.path c ≡ Some o → cell_left w.home w.setting.cells w.process c ≡ body.At (local_at w o)
    by None e = absurd cc
    by (Some c) e = test (same_path c.name.path w.setting.path && not (is_pointer c.sort)) c e

module _ (w : Around) (counters : Counters w) (signals : Location → ℕ) (ns : List Counter) (a : Held) where
  abbrev E : Term → Expr
  E e = expr_of w.home w.setting.cells w.process e

  abbrev L : Left → body.Left
  L l = left_of w.home w.setting.cells w.process l

  abbrev S : Scene
  S = scene_at w signals a

  kind-loaded : (c : Option Counter) (p : Place) (k : Kind) (l : Left) → expr_kind (E (loaded_as c p k l)) ≡ k
  kind-loaded None p k l = refl
  kind-loaded (Some c) p k l = refl

  pub kind-same : (e : Term) → expr_kind (E (counting ns e)) ≡ expr_kind (E e)
  kind-same (Literal p k x) = refl
  kind-same (Load p k l) = kind-loaded (counter_at ns l) p k (counting_left ns l)
  kind-same (Read p k l) = refl
  kind-same (Convert p k e) = refl
  kind-same (Unary p k o e) = ap (λ z. kind_or (kind_of o z z)) (kind-same e)
  kind-same (Binary p k o e f) = λ z. kind_or (kind_of o (kind-same e z) (kind-same f z))
  kind-same (Choose p k t e f) = refl
  kind-same (Bit p e i) = refl
  kind-same (Range p k e h l) = refl
  kind-same (Join p k e f) = refl

  load-at : (k : Kind) (n o x : ℕ) → counter_number w.setting n ≡ Some o → a.store.words (local_at w o) ≡ x → value S (body.Load k (cell_left w.home w.setting.cells w.process (slice_get w.setting.cells n))) ≡ Some x
  load-at k n o x e h =
      let m = counters.numbers n o e in
      ap (λ l. value S (body.Load k l)) (counter-left w n o e) ∙ (ap (λ t. Some (loaded t (a.store.words (local_at w o)))) m.1 ∙ ap Some h)

  -- a counter's load
  load-counter : (p : Place) (k : Kind) (q : Place) (n : ℕ) (ms : List Counter) → HoldsAll w ms a
      → value S (E (loaded_as (find (λ c. nat_eq n c.cell) ms) p k (Cell q n))) ≡ value S (E (Load p k (Cell q n)))
  load-counter p k q n [] h = refl
  load-counter p k q n (c ∷ ms) h = by (nat_eq n c.cell) refl (load-counter p k q n ms h.1)
    where
      by : (b : Bool) → nat_eq n c.cell ≡ b → value S (E (loaded_as (find (λ c. nat_eq n c.cell) ms) p k (Cell q n))) ≡ value S (E (Load p k (Cell q n))) → value S (E (loaded_as (if b then Some c else find (λ c. nat_eq n c.cell) ms) p k (Cell q n))) ≡ value S (E (Load p k (Cell q n)))
      by true e rest =
          let f : n ≡ c.cell = grind arith in
          sym (load-at k n h.0.0 c.word (ap (counter_number w.setting) f ∙ h.0.1) h.0.2)
      by false e rest = rest

  mutual
    pub value-same : (e : Term) → HoldsAll w ns a → value S (E (counting ns e)) ≡ value S (E e)
    value-same (Literal p k x) h = refl
    value-same (Load p k (Cell q n)) h = load-counter p k q n ns h
    value-same (Load p k (Prefix q n)) h = refl
    value-same (Load p k (Null q)) h = refl
    value-same (Load p k (Follow q s l)) h = ap (λ o. option_map (λ l. loaded (w.places.things l) (a.store.words l)) (followed o)) (left-same (Follow q s l) h)
    value-same (Load p k (term.Member l n)) h = ap (λ o. option_map (λ l. loaded (w.places.things l) (a.store.words l)) (followed o)) (left-same (term.Member l n) h)
    value-same (Load p k (Index l s e)) h = ap (λ o. option_map (λ l. loaded (w.places.things l) (a.store.words l)) (followed o)) (left-same (Index l s e) h)
    value-same (Read p k l) h = ap (λ o. option_map (λ l. sensed (w.places.things l) signals l) (followed o)) (left-same l h)
    value-same (Convert p k e) h = λ z. option_map (λ x. stored k (number_of (kind-same e z) x)) (value-same e h z)
    value-same (Unary p k o e) h = λ z. option_and_then (λ x. applied o (kind-same e z) x (kind-same e z) x) (value-same e h z)
    value-same (Binary p k o e f) h = λ z. with_two (value-same e h z) (value-same f h z) (λ x y. applied o (kind-same e z) x (kind-same f z) y)
    value-same (Choose p k t e f) h = λ z. option_and_then (λ n. with_two (value-same e h z) (value-same f h z) (λ x y. Some (chosen n (stored k (number_of (kind-same e z) x)) (stored k (number_of (kind-same f z) y))))) (value-same t h z)
    value-same (Bit p e i) h = λ z. with_two (value-same e h z) (value-same i h z) (λ x i'. Some (bit_at (width_of (kind-same e z)) x (index_of (kind-same i z) i')))
    value-same (Range p k e hi lo) h = ap (option_map (part hi lo)) (value-same e h)
    value-same (Join p k e f) h = λ z. with_two (value-same e h z) (value-same f h z) (λ x y. Some (joined (width_of (kind-same f z)) x y))

    pub left-same : (l : Left) → HoldsAll w ns a → locate S (L (counting_left ns l)) ≡ locate S (L l)
    left-same (Cell p n) h = refl
    left-same (Prefix p n) h = refl
    left-same (Null p) h = refl
    left-same (Follow p s l) h = ap (λ o. behind o (λ l. Some (pointed (w.places.pointers l) (a.store.targets l)))) (left-same l h)
    left-same (term.Member l n) h = ap (λ o. behind o (λ l. Some (Some (within l (Member n))))) (left-same l h)
    left-same (Index l s e) h = λ z. behind (left-same l h z) (λ l. option_map (λ i. Some (within l (Element (index_of (kind-same e z) i)))) (value-same e h z))

-- counters as literals have the kinds of what they stand for
module _ (ns : List Counter) where
  pub kind-kept : (e : Term) → own_kind (counting ns e) ≡ own_kind e
  kind-kept (Literal p k x) = refl
  kind-kept (Load p k l) = by (counter_at ns l)
    where
      by : (c : Option Counter) → own_kind (loaded_as c p k (counting_left ns l)) ≡ k
      by None = refl
      by (Some c) = refl
  kind-kept (Read p k l) = refl
  kind-kept (Convert p k e) = refl
  kind-kept (Unary p k o e) = refl
  kind-kept (Binary p k o e f) = refl
  kind-kept (Choose p k t e f) = refl
  kind-kept (Bit p e i) = refl
  kind-kept (Range p k e h l) = refl
  kind-kept (Join p k e f) = refl

  mutual
    pub kinded-counting : (e : Term) → IsKinded e → IsKinded (counting ns e)
    kinded-counting (Literal p k x) h = tt
    kinded-counting (Load p k l) h = by (counter_at ns l) (kinded-counting-left l h)
      where
        by : (c : Option Counter) → IsKindedLeft (counting_left ns l) → IsKinded (loaded_as c p k (counting_left ns l))
        by None h = h
        by (Some c) h = tt
    kinded-counting (Read p k l) h = kinded-counting-left l h
    kinded-counting (Convert p k e) h = kinded-counting e h
    kinded-counting (Unary p k o e) h = (ap (λ j. kind_of o j j) (kind-kept e) ∙ h.0, kinded-counting e h.1)
    kinded-counting (Binary p k o e f) h = ((λ z. kind_of o (kind-kept e z) (kind-kept f z)) ∙ h.0, kinded-counting e h.1, kinded-counting f h.2)
    kinded-counting (Choose p k t e f) h = (kinded-counting t h.0, kinded-counting e h.1, kinded-counting f h.2)
    kinded-counting (Bit p e i) h = (kinded-counting e h.0, kinded-counting i h.1)
    kinded-counting (Range p k e hi lo) h = kinded-counting e h
    kinded-counting (Join p k e f) h = (kinded-counting e h.0, kinded-counting f h.1)

    kinded-counting-left : (l : Left) → IsKindedLeft l → IsKindedLeft (counting_left ns l)
    kinded-counting-left (Cell p n) h = tt
    kinded-counting-left (Prefix p n) h = tt
    kinded-counting-left (Null p) h = tt
    kinded-counting-left (Follow p s l) h = kinded-counting-left l h
    kinded-counting-left (term.Member l n) h = kinded-counting-left l h
    kinded-counting-left (Index l s e) h = (kinded-counting-left l h.0, kinded-counting e h.1)
