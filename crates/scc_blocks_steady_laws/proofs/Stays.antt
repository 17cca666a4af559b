-- What a process doesn't write stays, and a combinational method asks each root that it writes.
use Rattle.std.proofs.Common.{◌≡◌, ◌<◌, ◌^◌, ℕ, Bool, true, false, not, ◌&&◌, ◌||◌, [], Option, Some, None, refl, sym, ap, ◌∙◌, subst, slice_get, if◌then◌else◌, is_some, ◌⊎◌, inl, inr, nat_eq}
use Rattle.std.specs.Prelude.{option_map, option_and_then, unwrap_or, flat_map}
use Rattle.std.proofs.lemmas.List.Folds.{list_any-append}
use Rattle.scc_bits_kinds.specs.Kinds.{width_of}
use Rattle.scc_core_spec.specs.Clashes.{names_of, live_acts}
use Rattle.scc_core_spec.specs.Constants.{written, constant_if}
use Rattle.scc_core_spec.specs.Flow.{flow, every}
use Rattle.scc_core_spec.specs.IsResolved.{IsResolved, name_is, sort_is}
use Rattle.scc_core_spec.specs.Kept.{written_by}
use Rattle.scc_core_spec.specs.Live.{live}
use Rattle.scc_core_spec.specs.Program as program
use Rattle.scc_core_spec.specs.Program.{Program, Process, Sort, Input, Output, Variable, Local, Pointer, Port, Edge, Reset, is_combinational, is_combinational_by, is_root, is_number, is_held, is_pointer}
use Rattle.scc_core_spec.specs.Rules.{first_rule, reset_cells}
use Rattle.scc_core_spec.specs.Static.{Cells}
use Rattle.scc_core_spec.specs.Term.{Left, Pick}
use Rattle.scc_core_spec.specs.Uses.{Act, among, has_sort, width_at, cells_of, reads_of, writes_of}
use Rattle.scc_core_spec.specs.WorkedRun.{home}
use Rattle.scc_blocks_spec.specs.Acting.{Acting, latest}
use Rattle.scc_blocks_spec.specs.Effect.{Effect, Fell, Left_out, Lost, effect}
use Rattle.scc_blocks_spec.specs.Shown.{Driven, IsView, mine, view_of}
use Rattle.scc_blocks_spec.specs.Tied.{Registers}
use Rattle.scc_blocks_spec.specs.Turns.{Regs, turn, thread_turn, method_left, reset_at, found, constant_at}
use Rattle.scc_blocks_spec.specs.Turns as turns
use Rattle.scc_core_effect_laws.specs.Follows.{IsSoundCore, Obeys}
use Rattle.scc_core_effect_laws.specs.Sound.{FitWords, FixedWords}
use Rattle.scc_core_effect_laws.proofs.Latched.{ReachedBy, effect-asks}
use Rattle.scc_core_effect_laws.proofs.Moved.{Moved}
use Rattle.scc_core_effect_laws.proofs.Names.{or-left, true-false, none-some, some-same}
use Rattle.scc_core_effect_laws.proofs.Told.{obeys}
use Rattle.scc_core_effect_laws.proofs.Turning.{LeftMoved, method-moves, thread-moves}
use Rattle.scc_core_effect_laws.proofs.Unsure.{flat-in, sort-of, has-sort}
use Rattle.scc_core_laws.proofs.Proper.{fixed-constant}
use Rattle.scc_core_laws.proofs.Rules.{misses, alone}
use Rattle.scc_core_resolved_laws.proofs.Bools.{and-second, nat_eq-is, nat_lt-is}
use Rattle.scc_core_resolved_laws.proofs.Homes.{own-home}
use Rattle.scc_core_resolved_laws.proofs.Numbers.{nought}
use Rattle.scc_core_resolved_laws.proofs.Owned.{sound-core}
use Rattle.scc_core_resolved_laws.proofs.Parts.{cell-fits}
use Rattle.scc_core_resolved_laws.proofs.Sounds.{named-held}
use Rattle.scc_core_resolved_laws.proofs.Writes.{or-cases}
use Rattle.scc_blocks_run_laws.specs.Blocks.{IsProper}
use Rattle.scc_blocks_run_laws.proofs.Blockruns.{view-is, found-fits, find-constant}
use Rattle.scc_blocks_steady_laws.proofs.Effects.{fit-words}

module _ (p : Program) (core : IsResolved p) (none : first_rule p ≡ None) where
  abbrev cs : Cells
  cs = p.cells

  whole : IsSoundCore home p
  whole = sound-core home own-home p core

  rules : Obeys p
  rules = obeys p none

  pub constants : (c w : ℕ) → constant_at p c ≡ Some w → w < 2 ^ width_at cs c
  constants c w e = by (slice_get cs c) refl e
    where
      of : (x : program.Cell) → slice_get cs c ≡ Some x → (s : Sort) (b : Bool) → x.sort ≡ s → constant_if b s ≡ Some w → w < 2 ^ width_of x.kind
      of x g s true d h = none-some w h
      of x g (Variable v f) false d h =
          let t = and-second (name_is p.processes x.sort x.name) (sort_is cs x.kind x.sort) (and-second (not (is_pointer x.sort)) (name_is p.processes x.sort x.name && sort_is cs x.kind x.sort) (cell-fits p core c x g)) in
          subst (λ v. v < 2 ^ width_of x.kind) (some-same v w h) (nat_lt-is v (2 ^ width_of x.kind) (subst (λ s. sort_is cs x.kind s ≡ true) d t))
      of x g Output false d h = subst (λ v. v < 2 ^ width_of x.kind) (some-same 0 w h) (nought (width_of x.kind))
      of x g program.Signal false d h = subst (λ v. v < 2 ^ width_of x.kind) (some-same 0 w h) (nought (width_of x.kind))
      of x g Input false d h = none-some w h
      of x g (Local j) false d h = none-some w h
      of x g (Pointer t) false d h = none-some w h
      of x g (Port t) false d h = none-some w h

      by : (o : Option program.Cell) → slice_get cs c ≡ o → option_and_then (λ x. constant_if (among c (written p)) x.sort) o ≡ Some w → w < 2 ^ width_at cs c
      by None g h = none-some w h
      by (Some x) g h = subst (λ n. w < 2 ^ n) (sym (ap (λ o. unwrap_or (option_map (λ x. width_of x.kind) o) 0) g)) (of x g x.sort (among c (written p)) refl h)

  -- what is named is held
  pub named : (i c : ℕ) (q : Process) → slice_get p.processes i ≡ Some q → mine p q c ≡ true → has_sort is_held cs c ≡ true
  named i c q g h = by (or-cases (among c (reset_cells q.reset)) (among c (flat_map (names_of cs) (live_acts cs q))) (sym (list_any-append (nat_eq c) (reset_cells q.reset) (flat_map (names_of cs) (live_acts cs q))) ∙ h))
    where
      held-root : has_sort is_root cs c ≡ true → has_sort is_held cs c ≡ true
      held-root h = let x = sort-of is_root cs c h in has-sort is_held cs c x.0 x.1 ∙ or-left (is_root x.0.sort) (is_number x.0.sort) x.2

      reset : (o : Option Reset) → q.reset ≡ o → among c (reset_cells o) ≡ true → has_sort is_held cs c ≡ true
      reset None e h = true-false (sym h)
      reset (Some r) e h = held-root (ap (has_sort is_root cs) (only (nat_eq c r.cell) refl h) ∙ whole.reset_roots i q r g e)
        where
          equal : nat_eq c r.cell ≡ true → c ≡ r.cell
          equal k = nat_eq-is c r.cell k

          only : (b : Bool) → nat_eq c r.cell ≡ b → (b || false) ≡ true → c ≡ r.cell
          only true k h = equal k
          only false k h = true-false (sym h)

      writes : (o : Option (Left × Pick)) → among c (unwrap_or (option_map (λ w. cells_of cs w.0) o) []) ≡ true → has_sort is_held cs c ≡ true
      writes None h = true-false (sym h)
      writes (Some w) h = named-held p core q w.0 c h

      act : (a : Act) → (among c (reads_of cs a) ≡ true) ⊎ (among c (writes_of cs a) ≡ true) → has_sort is_held cs c ≡ true
      act a (inl e) = let u = flat-in (λ u. cells_of cs u.left) c a.reads e in named-held p core q u.1.left c u.3
      act a (inr e) = writes a.writes e

      by : (among c (reset_cells q.reset) ≡ true) ⊎ (among c (flat_map (names_of cs) (live_acts cs q)) ≡ true) → has_sort is_held cs c ≡ true
      by (inl e) = reset q.reset refl e
      by (inr e) =
          let a = flat-in (names_of cs) c (live_acts cs q) e in
          act a.1 (or-cases (among c (reads_of cs a.1)) (among c (writes_of cs a.1)) (sym (list_any-append (nat_eq c) (reads_of cs a.1) (writes_of cs a.1)) ∙ a.3))

  module _ (i : ℕ) (q : Process) (here : slice_get p.processes i ≡ Some q) (r : Registers) (g : Regs) (pr : IsProper p r g) where
    abbrev a : Acting
    a = found p i q g

    found-words : FitWords cs a
    found-words = fit-words p core i q a (found-fits p r i q g constants pr)

    found-fixed : FixedWords cs a
    found-fixed = record { holds = λ c x w e f. find-constant p r i q g c w (fixed-constant home p whole c w x e f) }

    abbrev turned : Bool → Option turns.Left
    turned b = if b then thread_turn cs q (reset_at g.word q.reset) (g.place i) a else method_left (effect cs (live cs q.body) a)

    abbrev mine' : ℕ → Bool
    mine' c = among c (written_by cs q)

    turn-moves : (l : turns.Left) → turn p i q g ≡ Some l → Moved cs mine' a l.acting
    turn-moves l e = by q.is_thread refl
      where
        moved-by : (o : Option turns.Left) → LeftMoved cs mine' a o → o ≡ Some l → Moved cs mine' a l.acting
        moved-by (Some b) h k = subst (λ l. Moved cs mine' a l.acting) (some-same b l k) h
        moved-by None h k = none-some l k

        by : (b : Bool) → q.is_thread ≡ b → Moved cs mine' a l.acting
        by true t = moved-by _ (thread-moves home p whole rules i q here (reset_at g.word q.reset) (g.place i) a found-fixed found-words) (sym (ap turned t) ∙ e)
        by false t = moved-by _ (method-moves home p whole rules i q here a found-fixed found-words) (sym (ap turned t) ∙ e)

    pub stays : (c : ℕ) (l : turns.Left) → turn p i q g ≡ Some l → among c (written_by cs q) ≡ false → latest l.acting c ≡ a.now c
    stays c l e w =
        let m = turn-moves l e in
        ap (λ o. unwrap_or o (l.acting.now c)) (m.asked c (unwritten _)) ∙ m.now c (unwritten _)
      where
        unwritten : (b : Bool) → (among c (written_by cs q) && b) ≡ false
        unwritten b = ap (λ t. t && b) w

    -- a process without an edge is a combinational method
    combines : is_some q.edge ≡ false → is_combinational q ≡ true
    combines e = by q.is_thread refl q.edge e
      where
        by : (t : Bool) → q.is_thread ≡ t → (o : Option Edge) → is_some o ≡ false → is_combinational_by t o ≡ true
        by true t o h = true-false (sym (whole.edges i q here t) ∙ e)
        by false t None h = refl
        by false t (Some d) h = true-false h

    no-thread : is_some q.edge ≡ false → q.is_thread ≡ false
    no-thread e = by q.is_thread refl
      where
        by : (t : Bool) → q.is_thread ≡ t → t ≡ false
        by true t = true-false (sym (whole.edges i q here t) ∙ e)
        by false t = refl

    pub asks : (c : ℕ) (l : turns.Left) → turn p i q g ≡ Some l → view_of p i q c ≡ Driven → (w : ℕ) × (l.acting.asked c ≡ Some w)
    asks c l e v = by (effect cs (live cs q.body) a) refl (sym (ap turned (no-thread view.3)) ∙ e)
      where
        view : IsView p i q c Driven
        view = subst (IsView p i q c) v (view-is p i q c)

        comb : is_combinational q ≡ true
        comb = combines view.3

        given : (o : Option ℕ) → is_some o ≡ true → (w : ℕ) × (o ≡ Some w)
        given None h = true-false (sym h)
        given (Some w) h = (w, refl)

        by : (o : Effect) → effect cs (live cs q.body) a ≡ o → method_left o ≡ Some l → (w : ℕ) × (l.acting.asked c ≡ Some w)
        by (Fell b) k h =
            let reached = effect-asks cs c view.1 (live cs q.body) every a (alone p none i q here (whole.sound i q here)) (record { asked = λ m. true-false m; fixed = found-fixed; fit = found-words }) in
            let at = (subst (ReachedBy cs c view.1 ((flow cs (live cs q.body) every).fall c) (λ n. (flow cs (live cs q.body) every).out n c)) k reached).asked (misses p none i c q here comb view.1 view.2) in
            subst (λ l. (w : ℕ) × (l.acting.asked c ≡ Some w)) (some-same (record { acting = b; place = None }) l h) (given (b.asked c) at)
        by (Left_out n b) k h = none-some l h
        by Lost k h = none-some l h
