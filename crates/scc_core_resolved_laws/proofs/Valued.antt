-- Values fit their kinds, where words and signals do.
use Rattle.std.proofs.Common.{◌≡◌, ℕ, true, false, not, ◌&&◌, List, Option, Some, None, refl, sym, ap, subst, ◌∙◌, arith}
use Rattle.std.specs.Prelude.{◌+◌, ◌-◌, ◌^◌, ◌<◌, ◌≤◌, slice_get, option_and_then, nat_eq, nat_le}
use Rattle.std.proofs.Math.Nat.{pow-le-pow_right}
use Rattle.scc_bits_kinds.specs.declared.kind.Kind.{Kind}
use Rattle.scc_bits_kinds.specs.Kinds.{width_of, number_of, stored}
use Rattle.scc_bits_kinds.specs.Bits.{part, joined}
use Rattle.scc_bits.specs.Values.{applied, kind_of as operator_kind}
use Rattle.scc_bits.proofs.Parts.{joined_fits}
use Rattle.scc_semantics.specs.Location.{Location, Part}
use Rattle.scc_semantics.specs.Places.{Number}
use Rattle.scc_semantics.specs.Scene.{expr_kind, loaded, sensed, followed, index_of, chosen, bit_at, with_two}
use Rattle.scc_semantics.specs.Value.{Held, locate, value}
use Rattle.scc_semantics.specs.Run.{FitsThing}
use Rattle.scc_core_spec.specs.Term.{Term, Literal, Load, Read, Convert, Unary, Binary, Choose, Bit, Range, Join, Left, kind_of}
use Rattle.scc_core_spec.specs.Program.{Program, Process, Sort, Input, Output, Variable, Local, Pointer, Port, is_root, is_pointer}
use Rattle.scc_core_spec.specs.Program as program
use Rattle.scc_core_spec.specs.Named.{path_steps, cell_at}
use Rattle.scc_core_spec.specs.Static.{Cells}
use Rattle.scc_core_spec.specs.Source.{Home, thing_of, source_of, left_of, expr_of, at_top}
use Rattle.scc_states_path_laws.specs.Moved.{World, around}
use Rattle.scc_states_laws.specs.Processes.{HoldsFixed, world_of}
use Rattle.scc_states_laws.specs.Alike.{TellsApart}
use Rattle.scc_core_spec.specs.Fit.{is_read}
use Rattle.scc_core_spec.specs.Program.{is_number}
use Rattle.scc_states_laws.proofs.Values.{some_same, map_is, then_is, two_is, kind_is, thing_at, nothing_at, cell_of, port_names}
use Rattle.scc_core_spec.specs.OpenNames.{all_named, is_sized}
use Rattle.scc_core_spec.specs.Fit.{same_kind, is_loaded, is_shown, bits_of, fit_term, fit_left}
use Rattle.scc_core_spec.specs.IsResolved.{IsResolved, root_is, sort_is, name_is}
use Rattle.scc_core_resolved_laws.proofs.Bools.{and-first, and-second, nat_eq-is, nat_lt-is, nat_le-is, same_kind-is}
use Rattle.scc_core_resolved_laws.proofs.Cells.{named-passes}
use Rattle.scc_core_resolved_laws.proofs.Fitting.{term-fits, left-fits}
use Rattle.scc_core_resolved_laws.proofs.Located.{Led, located}
use Rattle.scc_core_resolved_laws.proofs.Numbers.{nought, stored-fits, applied-fits, chosen-fits, part-fits, bit-fits}
use Rattle.scc_core_resolved_laws.proofs.Parts.{cells-apart, cell-fits}

-- the root of a port, of its kind
pub root-of : (p : Program) (r : IsResolved p) (n : ℕ) (x : program.Cell) (path : List Part) → slice_get p.cells n ≡ Some x → x.sort ≡ Port path
    → (m : ℕ) × (y : program.Cell) × (cell_at false 0 (path_steps path) p.cells ≡ Some m) × (slice_get p.cells m ≡ Some y) × (is_root y.sort ≡ true) × (x.kind ≡ y.kind)
root-of p r n x path g e =
    let f = and-second (not (is_pointer x.sort)) (name_is p.processes x.sort x.name && sort_is p.cells x.kind x.sort) (cell-fits p r n x g) in
    let s = and-second (name_is p.processes x.sort x.name) (sort_is p.cells x.kind x.sort) f in
    by (cell_at false 0 (path_steps path) p.cells) refl (subst (λ z. sort_is p.cells x.kind z ≡ true) e s)
  where
    stands : (m : ℕ) → cell_at false 0 (path_steps path) p.cells ≡ Some m → (o : Option program.Cell) → slice_get p.cells m ≡ o → root_is x.kind o ≡ true
        → (m : ℕ) × (y : program.Cell) × (cell_at false 0 (path_steps path) p.cells ≡ Some m) × (slice_get p.cells m ≡ Some y) × (is_root y.sort ≡ true) × (x.kind ≡ y.kind)
    stands m c None d t = absurd cc
    stands m c (Some y) d t = (m, y, c, d, and-first (is_root y.sort) (same_kind x.kind y.kind) t, same_kind-is x.kind y.kind (and-second (is_root y.sort) (same_kind x.kind y.kind) t))

    by : (o : Option ℕ) → cell_at false 0 (path_steps path) p.cells ≡ o → root_is x.kind (option_and_then (slice_get p.cells) o) ≡ true
        → (m : ℕ) × (y : program.Cell) × (cell_at false 0 (path_steps path) p.cells ≡ Some m) × (slice_get p.cells m ≡ Some y) × (is_root y.sort ≡ true) × (x.kind ≡ y.kind)
    by None c t = absurd cc
    by (Some m) c t = stands m c (slice_get p.cells m) refl t

-- a term's word fits its kind
pub narrow : (cs : Cells) (q : Process) (e : Term) (x : ℕ) → fit_term cs q e ≡ true → x < 2 ^ bits_of e → x < 2 ^ width_of (kind_of e)
narrow cs q (Join o k e f) x t less =
    let b = nat_le-is (bits_of e + width_of (kind_of f)) (width_of k) (and-first (nat_le (bits_of e + width_of (kind_of f)) (width_of k)) (fit_term cs q e && fit_term cs q f) t) in
    let w : 2 ^ (bits_of e + width_of (kind_of f)) ≤ 2 ^ width_of k = pow-le-pow_right {n = 2} (omega arith) b in
    omega arith
narrow cs q (Literal o k w) x t less = less
narrow cs q (Load o k l) x t less = less
narrow cs q (Read o k l) x t less = less
narrow cs q (Convert o k e) x t less = less
narrow cs q (Unary o k op e) x t less = less
narrow cs q (Binary o k op e f) x t less = less
narrow cs q (Choose o k n e f) x t less = less
narrow cs q (Bit o e j) x t less = less
narrow cs q (Range o k e hi lo) x t less = less

module _ (home : Home) (constant : Location → Option ℕ) (p : Program) (i : ℕ) (q : Process) (signals : Location → ℕ) (apart : TellsApart home p i q) (r : IsResolved p) where
  abbrev W : World
  W = world_of home constant p i signals

  abbrev AllFitting : (Location → ℕ) → Type 0
  AllFitting words = (l : Location) → FitsThing (W.places.things l) (words l)

  root-fits : (words : Location → ℕ) → AllFitting words → (l : Location) (x y : program.Cell) → W.places.things l ≡ thing_of home p x y.sort → is_root y.sort ≡ true → words l < 2 ^ width_of x.kind
  root-fits words f l x y e t = by y.sort e t
    where
      by : (s : Sort) → W.places.things l ≡ thing_of home p x s → is_root s ≡ true → words l < 2 ^ width_of x.kind
      by Input d u = subst (λ z. FitsThing z (words l)) d (f l)
      by Output d u = subst (λ z. FitsThing z (words l)) d (f l)
      by program.Signal d u = subst (λ z. FitsThing z (words l)) d (f l)
      by (Variable w b) d u = absurd cc
      by (Local j) d u = absurd cc
      by (Pointer t) d u = absurd cc
      by (Port path) d u = absurd cc

  number-fits : (words : Location → ℕ) → AllFitting words → (l : Location) (x : program.Cell) → W.places.things l ≡ thing_of home p x x.sort → is_number x.sort ≡ true → loaded (W.places.things l) (words l) < 2 ^ width_of x.kind
  number-fits words f l x e t = by x.sort e t
    where
      number : W.places.things l ≡ Some (Number x.kind) → loaded (W.places.things l) (words l) < 2 ^ width_of x.kind
      number d = subst (λ z. loaded z (words l) < 2 ^ width_of x.kind) (sym d) (subst (λ z. FitsThing z (words l)) d (f l))

      by : (s : Sort) → W.places.things l ≡ thing_of home p x s → is_number s ≡ true → loaded (W.places.things l) (words l) < 2 ^ width_of x.kind
      by (Variable w b) d u = number d
      by (Local j) d u = number d
      by Input d u = absurd cc
      by Output d u = absurd cc
      by program.Signal d u = absurd cc
      by (Pointer t) d u = absurd cc
      by (Port path) d u = absurd cc

  shown-fits : (words : Location → ℕ) → AllFitting words → (l : Location) (n : ℕ) (x : program.Cell) → slice_get p.cells n ≡ Some x → W.places.things l ≡ thing_of home p x x.sort → is_read x.sort ≡ true
      → sensed (W.places.things l) words l < 2 ^ width_of x.kind
  shown-fits words f l n x g e t = by x.sort refl e t
    where
      signal : (s : Sort) → x.sort ≡ s → is_root s ≡ true → (sensed (thing_of home p x s) words l ≡ words l) → W.places.things l ≡ thing_of home p x s → sensed (W.places.things l) words l < 2 ^ width_of x.kind
      signal s c u v d =
          subst (λ z. sensed z words l < 2 ^ width_of x.kind) (sym d) (subst (λ z. z < 2 ^ width_of x.kind) (sym v) (root-fits words f l x x (d ∙ ap (thing_of home p x) (sym c)) (ap is_root c ∙ u)))

      port : (path : List Part) → x.sort ≡ Port path → W.places.things l ≡ thing_of home p x (Port path) → sensed (W.places.things l) words l < 2 ^ width_of x.kind
      port path c d =
          let m = root-of p r n x path g c in
          let at = thing_at home constant p i q signals apart (at_top path) (path_steps path) m.0 m.1 (port_names home constant p i q signals apart path) m.2 m.3 in
          let less = root-fits words f (at_top path) m.1 m.1 at.0 m.4 in
          subst (λ z. sensed z words l < 2 ^ width_of x.kind) (sym d) (subst (λ k. words (at_top path) < 2 ^ width_of k) (sym m.5) less)

      by : (s : Sort) → x.sort ≡ s → W.places.things l ≡ thing_of home p x s → is_read s ≡ true → sensed (W.places.things l) words l < 2 ^ width_of x.kind
      by Input c d u = signal Input c refl refl d
      by Output c d u = signal Output c refl refl d
      by program.Signal c d u = signal program.Signal c refl refl d
      by (Port path) c d u = port path c d
      by (Variable w b) c d u = absurd cc
      by (Local j) c d u = absurd cc
      by (Pointer t) c d u = absurd cc

  module _ (h : Held) (fixed : HoldsFixed (source_of home p constant) h) (words : AllFitting h.store.words) (shown : AllFitting signals) where
    load-fits : (k : Kind) (l : Left) (m : Location) → fit_left p.cells q l ≡ true → all_named p.cells (is_loaded k) l ≡ true → followed (locate (around W h) (left_of home p.cells i l)) ≡ Some m
        → loaded (W.places.things m) (h.store.words m) < 2 ^ width_of k
    load-fits k l m fit named e =
        let led = located home p i q constant signals apart h fixed l m (left-fits p.cells q (cells-apart p r) l fit) e in
        by led (cell_at false 0 led.steps p.cells) refl
      where
        by : (led : Led home p i q m l) (o : Option ℕ) → cell_at false 0 led.steps p.cells ≡ o → loaded (W.places.things m) (h.store.words m) < 2 ^ width_of k
        by led None c = subst (λ z. loaded z (h.store.words m) < 2 ^ width_of k) (sym (nothing_at home constant p i q signals apart m led.steps led.names c)) (nought (width_of k))
        by led (Some n) c =
            let x = cell_of p.cells n led.steps c in
            let t = named-passes p.cells (is_loaded k) l led.opened led.steps n x.0 (cells-apart p r) named led.opens led.agrees_open c x.1 in
            let at = thing_at home constant p i q signals apart m led.steps n x.0 led.names c x.1 in
            let less = number-fits h.store.words words m x.0 at.0 (and-first (is_number x.0.sort) (same_kind k x.0.kind) t) in
            subst (λ j. loaded (W.places.things m) (h.store.words m) < 2 ^ width_of j) (sym (same_kind-is k x.0.kind (and-second (is_number x.0.sort) (same_kind k x.0.kind) t))) less

    read-fits : (k : Kind) (l : Left) (m : Location) → fit_left p.cells q l ≡ true → all_named p.cells (is_shown k) l ≡ true → followed (locate (around W h) (left_of home p.cells i l)) ≡ Some m
        → sensed (W.places.things m) signals m < 2 ^ width_of k
    read-fits k l m fit named e =
        let led = located home p i q constant signals apart h fixed l m (left-fits p.cells q (cells-apart p r) l fit) e in
        by led (cell_at false 0 led.steps p.cells) refl
      where
        by : (led : Led home p i q m l) (o : Option ℕ) → cell_at false 0 led.steps p.cells ≡ o → sensed (W.places.things m) signals m < 2 ^ width_of k
        by led None c = subst (λ z. sensed z signals m < 2 ^ width_of k) (sym (nothing_at home constant p i q signals apart m led.steps led.names c)) (nought (width_of k))
        by led (Some n) c =
            let x = cell_of p.cells n led.steps c in
            let t = named-passes p.cells (is_shown k) l led.opened led.steps n x.0 (cells-apart p r) named led.opens led.agrees_open c x.1 in
            let at = thing_at home constant p i q signals apart m led.steps n x.0 led.names c x.1 in
            let less = shown-fits signals shown m n x.0 x.1 at.0 (and-first (is_read x.0.sort) (same_kind k x.0.kind) t) in
            subst (λ j. sensed (W.places.things m) signals m < 2 ^ width_of j) (sym (same_kind-is k x.0.kind (and-second (is_read x.0.sort) (same_kind k x.0.kind) t))) less

    abbrev V : Term → Option ℕ
    V e = value (around W h) (expr_of home p.cells i e)

    abbrev K : Term → Kind
    K e = expr_kind (expr_of home p.cells i e)

    word-fits : (e : Term) (x : ℕ) → fit_term p.cells q e ≡ true → V e ≡ Some x → x < 2 ^ bits_of e
    word-fits (Literal o k w) x t e = subst (λ z. z < 2 ^ width_of k) (some_same e) (nat_lt-is w (2 ^ width_of k) t)
    word-fits (Load o k l) x t e =
        let more = and-second (fit_left p.cells q l) (all_named p.cells (is_loaded k) l && is_sized p.cells l) t in
        let m = map_is (followed (locate (around W h) (left_of home p.cells i l))) (λ m. loaded (W.places.things m) (h.store.words m)) x e in
        subst (λ z. z < 2 ^ width_of k) m.2 (load-fits k l m.0 (and-first (fit_left p.cells q l) (all_named p.cells (is_loaded k) l && is_sized p.cells l) t) (and-first (all_named p.cells (is_loaded k) l) (is_sized p.cells l) more) m.1)
    word-fits (Read o k l) x t e =
        let more = and-second (fit_left p.cells q l) (all_named p.cells (is_shown k) l && is_sized p.cells l) t in
        let m = map_is (followed (locate (around W h) (left_of home p.cells i l))) (λ m. sensed (W.places.things m) signals m) x e in
        subst (λ z. z < 2 ^ width_of k) m.2 (read-fits k l m.0 (and-first (fit_left p.cells q l) (all_named p.cells (is_shown k) l && is_sized p.cells l) t) (and-first (all_named p.cells (is_shown k) l) (is_sized p.cells l) more) m.1)
    word-fits (Convert o k e) x t v =
        let m = map_is (V e) (λ y. stored k (number_of (K e) y)) x v in
        subst (λ z. z < 2 ^ width_of k) m.2 (stored-fits k (number_of (K e) m.0))
    word-fits (Unary o k op e) x t v =
        let fit = term-fits p.cells q (cells-apart p r) (Unary o k op e) t in
        let m = then_is (V e) (λ y. applied op (K e) y (K e) y) x v in
        let j = kind_is home constant p i q signals apart e fit.1 in
        applied-fits op (K e) (K e) k m.0 m.0 x (subst (λ z. operator_kind op z z ≡ Some k) (sym j) fit.0) m.2
    word-fits (Binary o k op e f) x t v =
        let fit = term-fits p.cells q (cells-apart p r) (Binary o k op e f) t in
        let m = two_is (V e) (V f) (λ y z. applied op (K e) y (K f) z) x v in
        let j = kind_is home constant p i q signals apart e fit.1 in
        let n = kind_is home constant p i q signals apart f fit.2 in
        applied-fits op (K e) (K f) k m.0 m.1 x (subst (λ z. operator_kind op (K e) z ≡ Some k) (sym n) (subst (λ z. operator_kind op z (kind_of f) ≡ Some k) (sym j) fit.0)) m.4
    word-fits (Choose o k n e f) x t v =
        let m = then_is (V n) (λ n. with_two (V e) (V f) (λ y z. Some (chosen n (stored k (number_of (K e) y)) (stored k (number_of (K f) z))))) x v in
        let u = two_is (V e) (V f) (λ y z. Some (chosen m.0 (stored k (number_of (K e) y)) (stored k (number_of (K f) z)))) x m.2 in
        subst (λ z. z < 2 ^ width_of k) (some_same u.4)
        (chosen-fits m.0 (stored k (number_of (K e) u.0)) (stored k (number_of (K f) u.1)) (width_of k) (stored-fits k (number_of (K e) u.0)) (stored-fits k (number_of (K f) u.1)))
    word-fits (Bit o e j) x t v =
        let u = two_is (V e) (V j) (λ y n. Some (bit_at (width_of (K e)) y (index_of (K j) n))) x v in
        subst (λ z. z < 2 ^ 1) (some_same u.4) (bit-fits (width_of (K e)) u.0 (index_of (K j) u.1))
    word-fits (Range o k e hi lo) x t v =
        let m = map_is (V e) (part hi lo) x v in
        subst (λ z. z < 2 ^ width_of k) m.2 (part-fits hi lo m.0 (width_of k) (nat_eq-is (width_of k) (hi - lo + 1) (and-first (nat_eq (width_of k) (hi - lo + 1)) (fit_term p.cells q e) t)))
    word-fits (Join o k e f) x t v =
        let wide = nat_le (bits_of e + width_of (kind_of f)) (width_of k) in
        let more = and-second wide (fit_term p.cells q e && fit_term p.cells q f) t in
        let te = and-first (fit_term p.cells q e) (fit_term p.cells q f) more in
        let tf = and-second (fit_term p.cells q e) (fit_term p.cells q f) more in
        let u = two_is (V e) (V f) (λ y z. Some (joined (width_of (K f)) y z)) x v in
        let j : K f ≡ kind_of f = kind_is home constant p i q signals apart f (term-fits p.cells q (cells-apart p r) f tf) in
        let fits = joined_fits (bits_of e) (width_of (kind_of f)) u.0 u.1 (narrow p.cells q f u.1 tf (word-fits f u.1 tf u.3)) (word-fits e u.0 te u.2) in
        let is : joined (width_of (kind_of f)) u.0 u.1 ≡ x = ap (λ z. joined (width_of z) u.0 u.1) (sym j) ∙ some_same u.4 in
        subst (λ z. z < 2 ^ (bits_of e + width_of (kind_of f))) is fits

    pub value-fits : (e : Term) (x : ℕ) → fit_term p.cells q e ≡ true → V e ≡ Some x → x < 2 ^ width_of (kind_of e)
    value-fits e x t v = narrow p.cells q e x t (word-fits e x t v)
