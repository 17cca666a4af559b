-- Words of registers stay fit.
use Rattle.std.proofs.Common.{◌≡◌, ℕ, zero, suc, Bool, true, false, not, ◌&&◌, List, Option, Some, None, refl, sym, ap, subst, ◌∙◌}
use Rattle.std.specs.Prelude.{◌+◌, ◌-◌, ◌^◌, ◌<◌, slice_get, option_map, option_and_then, unwrap_or, nat_eq, nat_lt, nat_le, is_some, if◌then◌else◌}
use Rattle.scc_bits_kinds.specs.declared.kind.Kind.{Kind}
use Rattle.scc_bits_kinds.specs.Kinds.{width_of, number_of, stored}
use Rattle.scc_bits_kinds.specs.Bits.{part, joined}
use Rattle.scc_bits.specs.Values.{applied, kind_of as operator_kind}
use Rattle.scc_bits.proofs.Parts.{joined_fits, replaced_fits}
use Rattle.scc_semantics.specs.Scene.{index_of, chosen, bit_at, with_two, with_bit}
use Rattle.scc_core_spec.specs.Term.{Term, Literal, Load, Read, Convert, Unary, Binary, Choose, Bit, Range, Join, Left, Pick, Whole, OneBit, Bits, kind_of}
use Rattle.scc_core_spec.specs.Code.{Code, End, Put, Aim, If, Block, Loop, Exit, Wait}
use Rattle.scc_core_spec.specs.Program.{Program, Process, Sort, Input, Output, Variable, Local, Pointer, Port, is_root, is_number, is_held, is_pointer}
use Rattle.scc_core_spec.specs.Program as program
use Rattle.scc_core_spec.specs.Named.{Step, cell_at}
use Rattle.scc_core_spec.specs.Static.{fixed_word}
use Rattle.scc_core_spec.specs.Uses.{root_of, root_of_sort, has_sort, width_at}
use Rattle.scc_core_spec.specs.Segments.{Segment, Plain, Test, Halt, Finish, all_segments}
use Rattle.scc_core_spec.specs.Sizes.{live_body}
use Rattle.scc_core_spec.specs.Live.{live}
use Rattle.scc_blocks_spec.specs.Acting.{Acting, word_in, steps_in, cell_named, word_or_zero, put_in, picked, with_word, with_asked}
use Rattle.scc_blocks_spec.specs.Effect.{Effect, Fell, Left_out, Lost, then_effect, shut, or_lost, branch, assigned, effect, Ran, then_ran, or_fails, choose, run_segment}
use Rattle.scc_core_spec.specs.Fit.{is_read}
use Rattle.scc_states_laws.proofs.Values.{some_same, map_is, then_is, two_is, cell_of}
use Rattle.scc_core_effect_laws.specs.Sound.{FitWords}
use Rattle.scc_core_resolved_laws.specs.Asked.{FitsRan}
use Rattle.scc_core_resolved_laws.specs.Every.{Every, EverySegment}
use Rattle.scc_core_spec.specs.OpenNames.{all_named, is_sized}
use Rattle.scc_core_spec.specs.Fit.{same_kind, is_kind, is_loaded, is_shown, takes, bits_of, fit_term, fit_left, fit_put, fit_code}
use Rattle.scc_core_spec.specs.IsResolved.{IsResolved}
use Rattle.scc_core_resolved_laws.proofs.Bools.{and-first, and-second, nat_eq-is, nat_lt-is, nat_le-is, same_kind-is, is_kind-is}
use Rattle.scc_core_resolved_laws.proofs.Cells.{named-passes}
use Rattle.scc_core_resolved_laws.proofs.Fitting.{opens-agree, put-parts}
use Rattle.scc_core_resolved_laws.proofs.Pieces.{fit_alive, fit_all, fit_at}
use Rattle.scc_core_resolved_laws.proofs.Numbers.{nought, stored-fits, applied-fits, chosen-fits, part-fits, bit-fits, with-bit-fits}
use Rattle.scc_core_resolved_laws.proofs.Parts.{cells-apart}
use Rattle.scc_core_resolved_laws.proofs.Valued.{root-of, narrow}
use Rattle.scc_core_resolved_laws.proofs.Writes.{or-left, or-right}

module _ (p : Program) (r : IsResolved p) (q : Process) where
  root-is : (n : ℕ) (x : program.Cell) → slice_get p.cells n ≡ Some x → root_of p.cells n ≡ root_of_sort p.cells x.sort n
  root-is n x g = ap (λ o. unwrap_or (option_map (λ s. root_of_sort p.cells s n) (option_map (λ c. c.sort) o)) n) g

  -- the cell that a name stands for, with its kind
  pub record Rooted (n : ℕ) (x : program.Cell) : Type 0 where
    pub cell : program.Cell
    pub stands : slice_get p.cells (root_of p.cells n) ≡ Some cell
    pub kind : x.kind ≡ cell.kind
    pub held : is_held cell.sort ≡ true
    pub number : is_number x.sort ≡ true → (cell ≡ x)
    pub root : is_number x.sort ≡ false → is_root cell.sort ≡ true

  pub rooted : (n : ℕ) (x : program.Cell) → slice_get p.cells n ≡ Some x → is_pointer x.sort ≡ false → Rooted n x
  rooted n x g a = by x.sort refl
    where
      held-by : (s : Sort) → (is_number s ≡ false → is_root s ≡ true) → is_held s ≡ true
      held-by s t = cases (is_number s) refl
        where
          cases : (b : Bool) → is_number s ≡ b → is_held s ≡ true
          cases true n = or-right (is_root s) (is_number s) n
          cases false n = or-left (is_root s) (is_number s) (t n)

      itself : (s : Sort) → x.sort ≡ s → root_of_sort p.cells s n ≡ n → (is_number s ≡ false → is_root s ≡ true) → Rooted n x
      itself s e f t = record {
        cell = x;
        stands = ap (slice_get p.cells) (root-is n x g ∙ (ap (λ z. root_of_sort p.cells z n) e ∙ f)) ∙ g;
        kind = refl;
        held = ap is_held e ∙ held-by s t;
        number = λ h. refl;
        root = λ h. ap is_root e ∙ t (sym (ap is_number e) ∙ h);
      }

      by : (s : Sort) → x.sort ≡ s → Rooted n x
      by Input e = itself Input e refl (λ h. refl)
      by Output e = itself Output e refl (λ h. refl)
      by program.Signal e = itself program.Signal e refl (λ h. refl)
      by (Variable w f) e = itself (Variable w f) e refl (λ h. cc)
      by (Local j) e = itself (Local j) e refl (λ h. cc)
      by (Pointer t) e = let f : true ≡ false = sym (ap is_pointer e) ∙ a in absurd cc
      by (Port path) e =
          let u = root-of p r n x path g e in
          record {
            cell = u.1;
            stands = ap (slice_get p.cells) (root-is n x g ∙ (ap (λ z. root_of_sort p.cells z n) e ∙ ap (λ o. unwrap_or o n) u.2)) ∙ u.3;
            kind = u.5;
            held = or-left (is_root u.1.sort) (is_number u.1.sort) u.4;
            number = λ h. let f : false ≡ true = sym (ap is_number e) ∙ h in absurd cc;
            root = λ h. u.4;
          }

  module _ (a : Acting) (fits : FitWords p.cells a) where
    named-fits : (test : program.Cell → Bool) (k : Kind) (l : Left) (s : List Step) → all_named p.cells test l ≡ true → ((x : program.Cell) → test x ≡ true → k ≡ x.kind) → steps_in p.cells a l ≡ Some s
        → word_or_zero a (cell_named p.cells (Some s)) < 2 ^ width_of k
    named-fits test k l s named same e = by (cell_at false 0 s p.cells) refl
      where
        by : (o : Option ℕ) → cell_at false 0 s p.cells ≡ o → word_or_zero a (option_map (root_of p.cells) o) < 2 ^ width_of k
        by None c = nought (width_of k)
        by (Some n) c =
            let x = cell_of p.cells n s c in
            let u = opens-agree p.cells q (cells-apart p r) a l s e in
            let t = named-passes p.cells test l u.0 s n x.0 (cells-apart p r) named u.1 u.2 c x.1 in
            let y = rooted n x.0 x.1 x.2 in
            subst (λ z. a.now (root_of p.cells n) < 2 ^ width_of z) (sym (same x.0 t ∙ y.kind)) (fits.fits (root_of p.cells n) y.cell y.stands y.held)

    abbrev V : Term → Option ℕ
    V e = word_in p.cells a e

    word-fits : (e : Term) (x : ℕ) → fit_term p.cells q e ≡ true → V e ≡ Some x → x < 2 ^ bits_of e
    word-fits (Literal o k w) x t e = subst (λ z. z < 2 ^ width_of k) (some_same e) (nat_lt-is w (2 ^ width_of k) t)
    word-fits (Load o k l) x t e =
        let more = and-second (fit_left p.cells q l) (all_named p.cells (is_loaded k) l && is_sized p.cells l) t in
        let m = map_is (steps_in p.cells a l) (λ s. word_or_zero a (cell_named p.cells (Some s))) x e in
        subst (λ z. z < 2 ^ width_of k) m.2 (named-fits (is_loaded k) k l m.0 (and-first (all_named p.cells (is_loaded k) l) (is_sized p.cells l) more) (λ y u. same_kind-is k y.kind (and-second (is_number y.sort) (same_kind k y.kind) u)) m.1)
    word-fits (Read o k l) x t e =
        let more = and-second (fit_left p.cells q l) (all_named p.cells (is_shown k) l && is_sized p.cells l) t in
        let m = map_is (steps_in p.cells a l) (λ s. word_or_zero a (cell_named p.cells (Some s))) x e in
        subst (λ z. z < 2 ^ width_of k) m.2 (named-fits (is_shown k) k l m.0 (and-first (all_named p.cells (is_shown k) l) (is_sized p.cells l) more) (λ y u. same_kind-is k y.kind (and-second (is_read y.sort) (same_kind k y.kind) u)) m.1)
    word-fits (Convert o k e) x t v =
        let m = map_is (V e) (λ y. stored k (number_of (kind_of e) y)) x v in
        subst (λ z. z < 2 ^ width_of k) m.2 (stored-fits k (number_of (kind_of e) m.0))
    word-fits (Unary o k op e) x t v =
        let rule = is_kind (operator_kind op (kind_of e) (kind_of e)) k in
        let m = then_is (V e) (λ y. applied op (kind_of e) y (kind_of e) y) x v in
        applied-fits op (kind_of e) (kind_of e) k m.0 m.0 x (is_kind-is (operator_kind op (kind_of e) (kind_of e)) k (and-first rule (fit_term p.cells q e) t)) m.2
    word-fits (Binary o k op e f) x t v =
        let rule = is_kind (operator_kind op (kind_of e) (kind_of f)) k in
        let m = two_is (V e) (V f) (λ y z. applied op (kind_of e) y (kind_of f) z) x v in
        applied-fits op (kind_of e) (kind_of f) k m.0 m.1 x (is_kind-is (operator_kind op (kind_of e) (kind_of f)) k (and-first rule (fit_term p.cells q e && fit_term p.cells q f) t)) m.4
    word-fits (Choose o k n e f) x t v =
        let m = then_is (V n) (λ n. with_two (V e) (V f) (λ y z. Some (chosen n (stored k (number_of (kind_of e) y)) (stored k (number_of (kind_of f) z))))) x v in
        let u = two_is (V e) (V f) (λ y z. Some (chosen m.0 (stored k (number_of (kind_of e) y)) (stored k (number_of (kind_of f) z)))) x m.2 in
        subst (λ z. z < 2 ^ width_of k) (some_same u.4)
        (chosen-fits m.0 (stored k (number_of (kind_of e) u.0)) (stored k (number_of (kind_of f) u.1)) (width_of k) (stored-fits k (number_of (kind_of e) u.0)) (stored-fits k (number_of (kind_of f) u.1)))
    word-fits (Bit o e j) x t v =
        let u = two_is (V e) (V j) (λ y n. Some (bit_at (width_of (kind_of e)) y (index_of (kind_of j) n))) x v in
        subst (λ z. z < 2 ^ 1) (some_same u.4) (bit-fits (width_of (kind_of e)) u.0 (index_of (kind_of j) u.1))
    word-fits (Range o k e hi lo) x t v =
        let m = map_is (V e) (part hi lo) x v in
        subst (λ z. z < 2 ^ width_of k) m.2 (part-fits hi lo m.0 (width_of k) (nat_eq-is (width_of k) (hi - lo + 1) (and-first (nat_eq (width_of k) (hi - lo + 1)) (fit_term p.cells q e) t)))
    word-fits (Join o k e f) x t v =
        let wide = nat_le (bits_of e + width_of (kind_of f)) (width_of k) in
        let more = and-second wide (fit_term p.cells q e && fit_term p.cells q f) t in
        let te = and-first (fit_term p.cells q e) (fit_term p.cells q f) more in
        let tf = and-second (fit_term p.cells q e) (fit_term p.cells q f) more in
        let u = two_is (V e) (V f) (λ y z. Some (joined (width_of (kind_of f)) y z)) x v in
        let less = joined_fits (bits_of e) (width_of (kind_of f)) u.0 u.1 (narrow p.cells q f u.1 tf (word-fits f u.1 tf u.3)) (word-fits e u.0 te u.2) in
        subst (λ z. z < 2 ^ (bits_of e + width_of (kind_of f))) (some_same u.4) less

    pub acting-fits : (e : Term) (x : ℕ) → fit_term p.cells q e ≡ true → word_in p.cells a e ≡ Some x → x < 2 ^ width_of (kind_of e)
    acting-fits e x t v = narrow p.cells q e x t (word-fits e x t v)

    picks-fit : (k : Pick) (j : Kind) (x : program.Cell) (old new w : ℕ) → takes k j x ≡ true → old < 2 ^ width_of x.kind → new < 2 ^ width_of j → picked p.cells a (width_of x.kind) k old new ≡ Some w → w < 2 ^ width_of x.kind
    picks-fit Whole j x old new w t f g e =
        subst (λ z. z < 2 ^ width_of x.kind) (some_same e) (subst (λ w. new < 2 ^ w) (nat_eq-is (width_of j) (width_of x.kind) (and-second (not (is_some (fixed_word x.sort))) (nat_eq (width_of j) (width_of x.kind)) t)) g)
    picks-fit (OneBit b) j x old new w t f g e =
        let one = and-second (is_number x.sort) (nat_eq (width_of j) 1) (and-second (not (is_some (fixed_word x.sort))) (is_number x.sort && nat_eq (width_of j) 1) t) in
        let m = map_is (word_in p.cells a b) (λ n. with_bit (width_of x.kind) old (index_of (kind_of b) n) new) w e in
        subst (λ z. z < 2 ^ width_of x.kind) m.2 (with-bit-fits (width_of x.kind) old (index_of (kind_of b) m.0) new f (subst (λ z. new < 2 ^ z) (nat_eq-is (width_of j) 1 one) g))
    picks-fit (Bits hi lo) j x old new w t f g e =
        let a = and-second (not (is_some (fixed_word x.sort))) (is_number x.sort && (nat_le lo hi && (nat_lt hi (width_of x.kind) && nat_eq (width_of j) (hi - lo + 1)))) t in
        let b = and-second (is_number x.sort) (nat_le lo hi && (nat_lt hi (width_of x.kind) && nat_eq (width_of j) (hi - lo + 1))) a in
        let c = and-second (nat_le lo hi) (nat_lt hi (width_of x.kind) && nat_eq (width_of j) (hi - lo + 1)) b in
        let wide = nat_eq-is (width_of j) (hi - lo + 1) (and-second (nat_lt hi (width_of x.kind)) (nat_eq (width_of j) (hi - lo + 1)) c) in
        subst (λ z. z < 2 ^ width_of x.kind) (some_same e)
        (replaced_fits (width_of x.kind) hi lo old new (nat_le-is lo hi (and-first (nat_le lo hi) (nat_lt hi (width_of x.kind) && nat_eq (width_of j) (hi - lo + 1)) b))
        (nat_lt-is hi (width_of x.kind) (and-first (nat_lt hi (width_of x.kind)) (nat_eq (width_of j) (hi - lo + 1)) c)) f (subst (λ z. new < 2 ^ z) wide g))

    number-set : (c w : ℕ) (x : program.Cell) → slice_get p.cells c ≡ Some x → w < 2 ^ width_of x.kind → FitWords p.cells (with_word c w a)
    number-set c w x g less = record { fits = λ d y e h. at d y e h (nat_eq c d) refl; asked = fits.asked }
      where
        at : (d : ℕ) (y : program.Cell) → slice_get p.cells d ≡ Some y → is_held y.sort ≡ true → (b : Bool) → nat_eq c d ≡ b → (if b then w else a.now d) < 2 ^ width_of y.kind
        at d y e k true h = let s : x ≡ y = some_same (sym g ∙ (ap (slice_get p.cells) (nat_eq-is c d h) ∙ e)) in subst (λ z. w < 2 ^ width_of z.kind) s less
        at d y e k false h = fits.fits d y e k

    root-asked : (c w : ℕ) (x : program.Cell) → slice_get p.cells c ≡ Some x → has_sort is_root p.cells c ≡ true → w < 2 ^ width_of x.kind → FitWords p.cells (with_asked c w a)
    root-asked c w x g root less = record { fits = fits.fits; asked = λ d y v e k h. at d v y e k (nat_eq c d) refl h }
      where
        at : (d v : ℕ) (y : program.Cell) → slice_get p.cells d ≡ Some y → is_held y.sort ≡ true → (b : Bool) → nat_eq c d ≡ b → (if b then Some w else a.asked d) ≡ Some v → v < 2 ^ width_of y.kind
        at d v y e k true h u = let s : x ≡ y = some_same (sym g ∙ (ap (slice_get p.cells) (nat_eq-is c d h) ∙ e)) in subst (λ z. z < 2 ^ width_of y.kind) (some_same u) (subst (λ z. w < 2 ^ width_of z.kind) s less)
        at d v y e k false h u = fits.asked d y v e k u

    put-fits : (n : ℕ) (x : program.Cell) (k : Pick) (j : Kind) (new : ℕ) (b : Acting) → slice_get p.cells n ≡ Some x → is_pointer x.sort ≡ false → takes k j x ≡ true → new < 2 ^ width_of j
        → put_in p.cells a (Some (root_of p.cells n)) k new ≡ Some b → FitWords p.cells b
    put-fits n x k j new b g pt t less e = by (is_number x.sort) refl (rooted n x g pt)
      where
        width-is : (y : Rooted n x) → width_at p.cells (root_of p.cells n) ≡ width_of x.kind
        width-is y = ap (λ o. unwrap_or (option_map (λ c. width_of c.kind) o) 0) y.stands ∙ ap width_of (sym y.kind)

        has-root : (y : Rooted n x) → has_sort is_root p.cells (root_of p.cells n) ≡ is_root y.cell.sort
        has-root y = ap (λ o. unwrap_or (option_map is_root (option_map (λ c. c.sort) o)) false) y.stands

        number-no-root : (s : Sort) → is_number s ≡ true → is_root s ≡ false
        number-no-root (Variable w f) h = refl
        number-no-root (Local i) h = refl
        number-no-root Input h = absurd cc
        number-no-root Output h = absurd cc
        number-no-root program.Signal h = absurd cc
        number-no-root (Pointer t) h = absurd cc
        number-no-root (Port path) h = absurd cc

        whole : (k : Pick) → takes k j x ≡ true → is_number x.sort ≡ false → new < 2 ^ width_of x.kind
        whole Whole t h = subst (λ w. new < 2 ^ w) (nat_eq-is (width_of j) (width_of x.kind) (and-second (not (is_some (fixed_word x.sort))) (nat_eq (width_of j) (width_of x.kind)) t)) less
        whole (OneBit i) t h = let m = and-first (is_number x.sort) (nat_eq (width_of j) 1) (and-second (not (is_some (fixed_word x.sort))) (is_number x.sort && nat_eq (width_of j) 1) t) in absurd cc
        whole (Bits hi lo) t h =
            let m = and-first (is_number x.sort) (nat_le lo hi && (nat_lt hi (width_of x.kind) && nat_eq (width_of j) (hi - lo + 1)))
            (and-second (not (is_some (fixed_word x.sort))) (is_number x.sort && (nat_le lo hi && (nat_lt hi (width_of x.kind) && nat_eq (width_of j) (hi - lo + 1)))) t) in
            absurd cc

        chosen-put : (h : Bool) → has_sort is_root p.cells (root_of p.cells n) ≡ h
            → (if h then option_map (λ w. with_asked (root_of p.cells n) new a) (picked p.cells a (width_at p.cells (root_of p.cells n)) k 0 new)
            else option_map (λ w. with_word (root_of p.cells n) w a) (picked p.cells a (width_at p.cells (root_of p.cells n)) k (a.now (root_of p.cells n)) new)) ≡ Some b
        chosen-put true h = subst (λ z. (if z then option_map (λ w. with_asked (root_of p.cells n) new a) (picked p.cells a (width_at p.cells (root_of p.cells n)) k 0 new)
            else option_map (λ w. with_word (root_of p.cells n) w a) (picked p.cells a (width_at p.cells (root_of p.cells n)) k (a.now (root_of p.cells n)) new)) ≡ Some b) h e
        chosen-put false h = subst (λ z. (if z then option_map (λ w. with_asked (root_of p.cells n) new a) (picked p.cells a (width_at p.cells (root_of p.cells n)) k 0 new)
            else option_map (λ w. with_word (root_of p.cells n) w a) (picked p.cells a (width_at p.cells (root_of p.cells n)) k (a.now (root_of p.cells n)) new)) ≡ Some b) h e

        by : (m : Bool) → is_number x.sort ≡ m → Rooted n x → FitWords p.cells b
        by true m y =
            let same : y.cell ≡ x = y.number m in
            let e' = chosen-put false (has-root y ∙ (ap (λ z. is_root z.sort) same ∙ number-no-root x.sort m)) in
            let u = map_is (picked p.cells a (width_at p.cells (root_of p.cells n)) k (a.now (root_of p.cells n)) new) (λ w. with_word (root_of p.cells n) w a) b e' in
            let old : a.now (root_of p.cells n) < 2 ^ width_of x.kind = subst (λ z. a.now (root_of p.cells n) < 2 ^ width_of z) (sym y.kind) (fits.fits (root_of p.cells n) y.cell y.stands y.held) in
            let w = picks-fit k j x (a.now (root_of p.cells n)) new u.0 t old less (subst (λ z. picked p.cells a z k (a.now (root_of p.cells n)) new ≡ Some u.0) (width-is y) u.1) in
            subst (FitWords p.cells) u.2 (number-set (root_of p.cells n) u.0 y.cell y.stands (subst (λ z. u.0 < 2 ^ width_of z) y.kind w))
        by false m y =
            let rt = has-root y ∙ y.root m in
            let e' = chosen-put true rt in
            let u = map_is (picked p.cells a (width_at p.cells (root_of p.cells n)) k 0 new) (λ w. with_asked (root_of p.cells n) new a) b e' in
            subst (FitWords p.cells) u.2 (root-asked (root_of p.cells n) new y.cell y.stands rt (subst (λ z. new < 2 ^ width_of z) y.kind (whole k t m)))

    pub assigned-fits : (l : Left) (k : Pick) (e : Term) (b : Acting) → fit_term p.cells q e ≡ true → all_named p.cells (takes k (kind_of e)) l ≡ true → assigned p.cells a l k e ≡ Some b → FitWords p.cells b
    assigned-fits l k e b te named h =
        let w = then_is (word_in p.cells a e) (λ w. option_and_then (λ s. put_in p.cells a (cell_named p.cells (Some s)) k w) (steps_in p.cells a l)) b h in
        let s = then_is (steps_in p.cells a l) (λ s. put_in p.cells a (cell_named p.cells (Some s)) k w.0) b w.2 in
        by w.0 s.0 s.1 (acting-fits e w.0 te w.1) (cell_at false 0 s.0 p.cells) refl s.2
      where
        by : (w : ℕ) (s : List Step) → steps_in p.cells a l ≡ Some s → w < 2 ^ width_of (kind_of e) → (o : Option ℕ) → cell_at false 0 s p.cells ≡ o → put_in p.cells a (option_map (root_of p.cells) o) k w ≡ Some b → FitWords p.cells b
        by w s se less None c d = let m = map_is (picked p.cells a 1 k 0 w) (λ w. a) b d in subst (FitWords p.cells) m.2 fits
        by w s se less (Some n) c d =
            let x = cell_of p.cells n s c in
            let u = opens-agree p.cells q (cells-apart p r) a l s se in
            let t = named-passes p.cells (takes k (kind_of e)) l u.0 s n x.0 (cells-apart p r) named u.1 u.2 c x.1 in
            put-fits n x.0 k (kind_of e) w b x.1 x.2 t less d

  FitsEffect : Effect → Type 0
  FitsEffect (Fell a) = FitWords p.cells a
  FitsEffect (Left_out n a) = FitWords p.cells a
  FitsEffect Lost = Unit {0}

  then-fits : (x : Effect) (f : Acting → Effect) → FitsEffect x → ((a : Acting) → FitWords p.cells a → FitsEffect (f a)) → FitsEffect (then_effect x f)
  unfolding FitsEffect
  then-fits (Fell a) f t g = g a t
  then-fits (Left_out n a) f t g = t
  then-fits Lost f t g = tt

  shut-fits : (x : Effect) (f : Acting → Effect) → FitsEffect x → ((a : Acting) → FitWords p.cells a → FitsEffect (f a)) → FitsEffect (shut x f)
  unfolding FitsEffect
  shut-fits (Fell a) f t g = g a t
  shut-fits (Left_out zero a) f t g = g a t
  shut-fits (Left_out (suc n) a) f t g = t
  shut-fits Lost f t g = tt

  lost-fits : {A : Type 0} (o : Option A) (f : A → Effect) → ((x : A) → o ≡ Some x → FitsEffect (f x)) → FitsEffect (or_lost o f)
  unfolding FitsEffect
  lost-fits None f g = tt
  lost-fits (Some x) f g = g x refl

  branch-fits : (n : ℕ) (x y : Effect) → FitsEffect x → FitsEffect y → FitsEffect (branch n x y)
  branch-fits zero x y f g = g
  branch-fits (suc n) x y f g = f

  abbrev P : Left → Pick → Term → Type 0
  P l k e = fit_put p.cells q l k e ≡ true

  abbrev T : Term → Type 0
  T e = fit_term p.cells q e ≡ true

  pub every : (c : Code) → fit_code p.cells q c ≡ true → Every P T c
  every End t = tt
  every (Put o l k e c) t = (and-first (fit_put p.cells q l k e) (fit_code p.cells q c) t, every c (and-second (fit_put p.cells q l k e) (fit_code p.cells q c) t))
  every (Aim o to u c) t = absurd cc
  every (If o u b d c) t =
      let f1 = and-second (fit_term p.cells q u) (fit_code p.cells q b && (fit_code p.cells q d && fit_code p.cells q c)) t in
      let f2 = and-second (fit_code p.cells q b) (fit_code p.cells q d && fit_code p.cells q c) f1 in (
        and-first (fit_term p.cells q u) (fit_code p.cells q b && (fit_code p.cells q d && fit_code p.cells q c)) t,
        every b (and-first (fit_code p.cells q b) (fit_code p.cells q d && fit_code p.cells q c) f1),
        every d (and-first (fit_code p.cells q d) (fit_code p.cells q c) f2),
        every c (and-second (fit_code p.cells q d) (fit_code p.cells q c) f2),
      )
  every (Block o b c) t = (every b (and-first (fit_code p.cells q b) (fit_code p.cells q c) t), every c (and-second (fit_code p.cells q b) (fit_code p.cells q c) t))
  every (Loop o n b c) t = (every b (and-first (fit_code p.cells q b) (fit_code p.cells q c) t), every c (and-second (fit_code p.cells q b) (fit_code p.cells q c) t))
  every (Exit o n c) t = every c t
  every (Wait o l n c) t = every c (and-second (nat_lt 0 n) (fit_code p.cells q c) t)

  effect-fits : (c : Code) (a : Acting) → Every P T c → FitWords p.cells a → FitsEffect (effect p.cells c a)
  unfolding FitsEffect
  effect-fits End a t f = f
  effect-fits (Put o l k e c) a t f =
      let u = put-parts p.cells q (cells-apart p r) l k e t.0 in
      lost-fits (assigned p.cells a l k e) (effect p.cells c) (λ b h. effect-fits c b t.1 (assigned-fits a f l k e b u.term u.named h))
  effect-fits (If o u b d c) a t f =
      lost-fits (word_in p.cells a u) (λ n. then_effect (branch n (effect p.cells b a) (effect p.cells d a)) (effect p.cells c))
      (λ n h. then-fits (branch n (effect p.cells b a) (effect p.cells d a)) (effect p.cells c) (branch-fits n (effect p.cells b a) (effect p.cells d a) (effect-fits b a t.1 f) (effect-fits d a t.2 f)) (λ z g. effect-fits c z t.3 g))
  effect-fits (Block o b c) a t f = shut-fits (effect p.cells b a) (effect p.cells c) (effect-fits b a t.0 f) (λ z g. effect-fits c z t.1 g)
  effect-fits (Exit o n c) a t f = f
  effect-fits (Aim o to u c) a t f = tt
  effect-fits (Loop o n b c) a t f = tt
  effect-fits (Wait o l n c) a t f = tt

  pub fell-fits : (c : Code) (a b : Acting) → fit_code p.cells q c ≡ true → FitWords p.cells a → effect p.cells c a ≡ Fell b → FitWords p.cells b
  unfolding FitsEffect
  fell-fits c a b t f e = subst FitsEffect e (effect-fits c a (every c t) f)

  then-runs : (x : Effect) (f : Acting → Ran) → FitsEffect x → ((a : Acting) → FitWords p.cells a → FitsRan p.cells (f a)) → FitsRan p.cells (then_ran x f)
  unfolding FitsEffect
  then-runs (Fell a) f t g = g a t
  then-runs (Left_out n a) f t g = tt
  then-runs Lost f t g = tt

  choose-fits : (n : ℕ) (x y : Ran) → FitsRan p.cells x → FitsRan p.cells y → FitsRan p.cells (choose n x y)
  choose-fits zero x y f g = g
  choose-fits (suc n) x y f g = f

  segment-fits : (s : Segment) (a : Acting) → EverySegment P T s → FitWords p.cells a → FitsRan p.cells (run_segment p.cells s a)
  segment-fits (Plain c s) a t f = then-runs (effect p.cells c a) (run_segment p.cells s) (effect-fits c a t.0 f) (λ b g. segment-fits s b t.1 g)
  segment-fits (Test o u s v) a t f = by (word_in p.cells a u) (segment-fits s a t.1 f) (segment-fits v a t.2 f)
    where
      by : (o : Option ℕ) → FitsRan p.cells (run_segment p.cells s a) → FitsRan p.cells (run_segment p.cells v a) → FitsRan p.cells (or_fails o (λ n. choose n (run_segment p.cells s a) (run_segment p.cells v a)))
      by None x y = tt
      by (Some n) x y = choose-fits n (run_segment p.cells s a) (run_segment p.cells v a) x y
  segment-fits (Halt o l n) a t f = f
  segment-fits Finish a t f = f

  -- whatever segment of a thread runs, and a method too
  pub thread-fits : (n : ℕ) (s : Segment) (a : Acting) → fit_code p.cells q q.body ≡ true → slice_get (all_segments (live_body p.cells q.body)) n ≡ Some s → FitWords p.cells a → FitsRan p.cells (run_segment p.cells s a)
  thread-fits n s a t e f = segment-fits s a (fit_at P T p.cells (all_segments (live_body p.cells q.body)) n s (fit_all P T p.cells q.body (every q.body t)) e) f

  pub method-fits : (a b : Acting) → fit_code p.cells q q.body ≡ true → FitWords p.cells a → effect p.cells (live p.cells q.body) a ≡ Fell b → FitWords p.cells b
  unfolding FitsEffect
  method-fits a b t f e = subst FitsEffect e (effect-fits (live p.cells q.body) a (fit_alive P T p.cells q.body (every q.body t)) f)
