-- Behind a round of methods one method more of the order stands as it says it does; so as many rounds change something as there are methods.
use Rattle.std.proofs.Common.{◌≡◌, ℕ, zero, suc, ◌+◌, ◌≤◌, Bool, true, false, not, ◌&&◌, ◌||◌, nat_eq, find, cond, List, [], ◌∷◌, ◌++◌, length, filter, Option, Some, None, refl, sym, ap, ◌∙◌, subst, arith, slice_get, ◌⊎◌, inl, inr}
use Rattle.std.specs.Prelude.{option_and_then}
use Rattle.std.proofs.lemmas.List.Folds.{list_any-append}
use Rattle.scc_semantics.specs.Location.{same}
use Rattle.scc_semantics.specs.Places.{Signal}
use Rattle.scc_semantics.specs.Design.{Design}
use Rattle.scc_semantics.specs.Process.{State, Well}
use Rattle.scc_semantics.specs.Process as process
use Rattle.scc_semantics.specs.Run as run
use Rattle.scc_semantics.specs.Schedule.{Running, Covers, round, found_after}
use Rattle.scc_semantics.specs.Rounds.{Reached, starts, settles, takes, begins, resumes, Changes, Restless, still, again}
use Rattle.scc_semantics_laws.proofs.Places.{same-is}
use Rattle.scc_core_spec.specs.Program as program
use Rattle.scc_core_spec.specs.Program.{Program, Process, is_root, is_pointer, is_combinational}
use Rattle.scc_core_spec.specs.Static.{Cells}
use Rattle.scc_core_spec.specs.Uses.{has_sort, among}
use Rattle.scc_core_spec.specs.Kept.{written_by}
use Rattle.scc_core_spec.specs.Feeding.{methods, feeds, ready, IsOrderFrom, done, next}
use Rattle.scc_core_spec.specs.Source.{Home, cell_location, cell_there, thing_of}
use Rattle.scc_blocks_spec.specs.Passed.{all_reads}
use Rattle.scc_blocks_spec.specs.Turns.{Regs, acted, is_loaded, has_clock}
use Rattle.scc_blocks_spec.specs.Turns as turns
use Rattle.scc_core_effect_laws.specs.Follows.{IsSoundCore, Obeys, Does, Tracks, design_of}
use Rattle.scc_core_effect_laws.specs.Ordering.{IsOrdered}
use Rattle.scc_core_effect_laws.proofs.Names.{and-first, and-second, or-left, some-same, none-some, true-false}
use Rattle.scc_core_effect_laws.proofs.Unsure.{is-false, has-sort}
use Rattle.scc_core_laws.specs.Given.{regs_of, regs_step_of, cells_at}
use Rattle.scc_core_laws.proofs.Settling.{same-count}
use Rattle.scc_core_laws.proofs.Ordered.{in-methods, all-at, feeds-is, writer-or}
use Rattle.scc_core_laws.proofs.Starting.{start-tied, steps-of, edges-of}
use Rattle.scc_core_order_laws.specs.Inputs.{KeepsInputs}
use Rattle.scc_core_order_laws.proofs.Taken.{says}
use Rattle.scc_core_order_laws.proofs.Asked.{Senses, after, tied-after, stays-after, has-after, ran-says, idle-stays, at-rest}
use Rattle.scc_core_order_laws.proofs.Steps.{Follows, inputs-keep, restarts-follow, edges-follow}

-- what is found is there
pub found-at : {A : Type 0} (test : A → Bool) (xs : List A) (x : A) → find test xs ≡ Some x → (n : ℕ) × (slice_get xs n ≡ Some x) × (test x ≡ true)
found-at test [] x e = none-some x e
found-at test (y ∷ xs) x e = by (test y) refl e (λ e. found-at test xs x e)
  where
    by : (b : Bool) → test y ≡ b → cond b (Some y) (find test xs) ≡ Some x → (find test xs ≡ Some x → (n : ℕ) × (slice_get xs n ≡ Some x) × (test x ≡ true)) → (n : ℕ) × (slice_get (y ∷ xs) n ≡ Some x) × (test x ≡ true)
    by true t e more = (zero, e, ap test (some-same x y (sym e)) ∙ t)
    by false t e more = let m = more e in (suc m.0, m.1, m.2)

module _ (home : Home) (p : Program) (resolved : IsSoundCore home p) (obeys : Obeys p) (bounds : ℕ → ℕ) (does : Does home p bounds) (tracks : Tracks home p bounds) (order : List ℕ) (ordered : IsOrdered p order) (senses : Senses p)
    (kept : KeepsInputs p) (b : ℕ → ℕ) where
  abbrev cs : Cells
  cs = p.cells

  abbrev D : Design
  D = design_of home p

  abbrev Following : Running → Regs → Type 0
  Following = Follows home p resolved obeys bounds does tracks order ordered senses kept b

  -- what these methods say stands
  abbrev Quiet : List ℕ → Regs → Type 0
  Quiet placed g = (i x : ℕ) (q : Process) → among i placed ≡ true → slice_get p.processes i ≡ Some q → is_combinational q ≡ true → has_sort is_root cs x ≡ true → among x (written_by cs q) ≡ true → says p i x q g ≡ g.word x

  -- what they read none but they write
  abbrev Closed : List ℕ → Type 0
  Closed placed = (i c : ℕ) (q : Process) → among i placed ≡ true → slice_get p.processes i ≡ Some q → is_combinational q ≡ true → has_sort is_root cs c ≡ true → among c (all_reads cs q) ≡ true
      → (j : ℕ) (r : Process) → slice_get p.processes j ≡ Some r → is_combinational r ≡ true → among c (written_by cs r) ≡ true → among j placed ≡ true

  equal : (j i : ℕ) → nat_eq j i ≡ true → j ≡ i
  equal j i e = grind arith

  in-last : (j i : ℕ) (placed : List ℕ) → among j (placed ++ i ∷ []) ≡ true → (among j placed ≡ true) ⊎ (j ≡ i)
  in-last j i placed a = by (among j placed) (nat_eq j i) refl refl (sym (list_any-append (nat_eq j) placed (i ∷ [])) ∙ a)
    where
      by : (x y : Bool) → among j placed ≡ x → nat_eq j i ≡ y → (x || (y || false)) ≡ true → (among j placed ≡ true) ⊎ (j ≡ i)
      by true y e f h = inl e
      by false true e f h = inr (equal j i f)
      by false false e f h = true-false (sym h)

  front : (j i : ℕ) (placed : List ℕ) → among j placed ≡ true → among j (placed ++ i ∷ []) ≡ true
  front j i placed e = list_any-append (nat_eq j) placed (i ∷ []) ∙ or-left _ _ e

  -- what feeds the next of the order stands before it
  fed-placed : (placed : List ℕ) (i : ℕ) → ready (feeds p) (methods p) placed i ≡ true → (c : ℕ) (q : Process) → slice_get p.processes i ≡ Some q → is_combinational q ≡ true → has_sort is_root cs c ≡ true → among c (all_reads cs q) ≡ true
      → (j : ℕ) (r : Process) → slice_get p.processes j ≡ Some r → is_combinational r ≡ true → among c (written_by cs r) ≡ true → among j placed ≡ true
  fed-placed placed i rdy c q here comb root v j r there comb' w =
      last (nat_eq i j) (feeds p j i) (among j placed) fed (is-false _ (λ e. self-fed e)) (all-at (λ z. nat_eq i z || (not (feeds p z i) || among z placed)) (methods p) j (and-second (not (among i placed)) _ rdy) (in-methods p j r there comb'))
    where
      fed : feeds p j i ≡ true
      fed = feeds-is home p resolved obeys bounds does tracks order ordered j i c r q there here comb' comb root w v

      self-fed : nat_eq i j ≡ true → ⊥
      self-fed e = true-false (sym (ap (λ z. feeds p z i) (equal i j e) ∙ fed) ∙ ordered.no_self i)

      last : (a b c : Bool) → b ≡ true → a ≡ false → (a || (not b || c)) ≡ true → c ≡ true
      last true b c e f h = true-false f
      last false true c e f h = h
      last false false c e f h = true-false (sym e)

  closed-next : (placed : List ℕ) (i : ℕ) → ready (feeds p) (methods p) placed i ≡ true → Closed placed → Closed (placed ++ i ∷ [])
  closed-next placed i rdy closed k c q a here comb root v j r there comb' w = by (in-last k i placed a)
    where
      by : ((among k placed ≡ true) ⊎ (k ≡ i)) → among j (placed ++ i ∷ []) ≡ true
      by (inl e) = front j i placed (closed k c q e here comb root v j r there comb' w)
      by (inr e) = front j i placed (fed-placed placed i rdy c q (ap (slice_get p.processes) (sym e) ∙ here) comb root v j r there comb' w)

  module _ (r : Running) (g : Regs) (f : Following r g) (runs : List ℕ) (covers : Covers D r runs) (s : State) (went : round b D runs r.state ≡ Well s) where
    abbrev h : Regs
    h = after home p resolved obeys bounds does tracks order ordered senses b r g f.tied f.has runs covers s went

    pub next-follows : Following (record { state = s; found = found_after b D runs r }) h
    next-follows = record {
      tied = tied-after home p resolved obeys bounds does tracks order ordered senses b r g f.tied f.has runs covers s went;
      has = has-after home p resolved obeys bounds does tracks order ordered senses b r g f.tied f.has runs covers s went;
    }

    -- the roots of those that are quiet stay
    placed-stay : (placed : List ℕ) → Quiet placed g → (i x : ℕ) (q : Process) → among i placed ≡ true → slice_get p.processes i ≡ Some q → is_combinational q ≡ true → has_sort is_root cs x ≡ true → among x (written_by cs q) ≡ true → h.word x ≡ g.word x
    placed-stay placed quiet i x q a here comb root w = by (among i runs) refl
      where
        by : (m : Bool) → among i runs ≡ m → h.word x ≡ g.word x
        by true m = ran-says home p resolved obeys bounds does tracks order ordered senses b r g f.tied f.has runs covers s went i x q here root w m ∙ quiet i x q a here comb root w
        by false m = idle-stays home p resolved obeys bounds does tracks order ordered senses b r g f.tied f.has runs covers s went i x q here root w m

    roots-stay : (placed : List ℕ) → Quiet placed g → (c : ℕ) → has_sort is_root cs c ≡ true → ((j : ℕ) (y : Process) → slice_get p.processes j ≡ Some y → is_combinational y ≡ true → among c (written_by cs y) ≡ true → among j placed ≡ true) → h.word c ≡ g.word c
    roots-stay placed quiet c root fed = by (writer-or home p resolved obeys bounds does tracks order ordered c)
      where
        by : (((z : ℕ) × (y : Process) × (slice_get p.processes z ≡ Some y) × (is_combinational y ≡ true) × (among c (written_by cs y) ≡ true))
            ⊎ ((z : ℕ) (y : Process) → slice_get p.processes z ≡ Some y → is_combinational y ≡ true → among c (written_by cs y) ≡ true → ⊥)) → h.word c ≡ g.word c
        by (inr none) = (stays-after home p resolved obeys bounds does tracks order ordered senses b r g f.tied f.has runs covers s went).roots c root none
        by (inl y) = placed-stay placed quiet y.0 c y.1 (fed y.0 y.1 y.2 y.3 y.4) y.2 y.3 root y.4

    pub quiet-next : (placed : List ℕ) (i : ℕ) → ready (feeds p) (methods p) placed i ≡ true → Quiet placed g → Closed placed → Quiet (placed ++ i ∷ []) h
    quiet-next placed i rdy quiet closed k x q a here comb root w =
        at-rest home p resolved obeys bounds does tracks order ordered senses b r g f.tied f.has runs covers s went k x q here comb root w (λ c v o. roots-stay placed quiet c o (by (in-last k i placed a) c o v))
      where
        by : ((among k placed ≡ true) ⊎ (k ≡ i)) → (c : ℕ) → has_sort is_root cs c ≡ true → among c (all_reads cs q) ≡ true → (j : ℕ) (y : Process) → slice_get p.processes j ≡ Some y → is_combinational y ≡ true → among c (written_by cs y) ≡ true → among j placed ≡ true
        by (inl e) c o v = closed k c q e here comb o v
        by (inr e) c o v = fed-placed placed i rdy c q (ap (slice_get p.processes) (sym e) ∙ here) comb o v

    -- where all are quiet, nothing changes
    pub nothing-changes : (placed : List ℕ) → Quiet placed g → ((i : ℕ) → among i (methods p) ≡ true → among i placed ≡ true) → Changes D r.state s → ⊥
    nothing-changes placed quiet all changes = by (cell_there home p false changes.signal) refl changes.stands
      where
        signal-root : (x : program.Cell) (s : program.Sort) → thing_of home p x s ≡ Some (Signal changes.kind) → is_root s ≡ true
        signal-root x program.Input e = refl
        signal-root x program.Output e = refl
        signal-root x program.Signal e = refl
        signal-root x (program.Variable w t) e = absurd cc
        signal-root x (program.Local i) e = absurd cc
        signal-root x (program.Pointer t) e = absurd cc
        signal-root x (program.Port t) e = absurd cc

        by : (o : Option program.Cell) → cell_there home p false changes.signal ≡ o → option_and_then (λ c. thing_of home p c c.sort) o ≡ Some (Signal changes.kind) → ⊥
        by None e k = none-some (Signal changes.kind) k
        by (Some x) e k =
            let z = found-at (λ c. same (cell_location home p c) changes.signal && not (is_pointer c.sort)) cs x e in
            let place = same-is (cell_location home p x) changes.signal (and-first _ _ z.2) in
            let root = has-sort is_root cs z.0 x z.1 ∙ signal-root x x.sort k in
            let stays = roots-stay placed quiet z.0 root (λ j y there comb w. all j (in-methods p j y there comb)) in
            changes.other (ap s.store.words (sym place) ∙ next-follows.tied.words z.0 x z.1 (or-left _ _ root) ∙ stays ∙ sym (f.tied.words z.0 x z.1 (or-left _ _ root)) ∙ ap r.state.store.words place)

  soon : {placed rest : List ℕ} → IsOrderFrom (feeds p) (methods p) placed rest → (n : ℕ) (r : Running) (g : Regs) → Following r g → Quiet placed g → Closed placed → Restless b D n r → n ≤ length rest
  soon (done placed all) zero r g f quiet closed (still t) = omega arith
  soon (done placed all) (suc n) r g f quiet closed (again runs t s covers went changes more) = absurd (nothing-changes t g f runs covers s went placed quiet all changes)
  soon (next placed i a rdy least rest) zero r g f quiet closed (still t) = omega arith
  soon (next placed i a rdy least rest) (suc n) r g f quiet closed (again runs t s covers went changes more) =
      let m = soon rest n (record { state = s; found = found_after b D runs t }) (after home p resolved obeys bounds does tracks order ordered senses b t g f.tied f.has runs covers s went)
      (next-follows t g f runs covers s went) (quiet-next t g f runs covers s went placed i rdy quiet closed) (closed-next placed i rdy closed) more in
      omega (arith, m)

  -- what a scheduler comes to is tied to registers
  pub reached-follows : {r : Running} → Reached b D r → (g : Regs) × Following r g
  reached-follows (starts s start) = (regs_of home p s, record { tied = start-tied home p resolved s start; has = record { ran = λ i q l here comb e. none-some l e } })
  reached-follows (settles runs r s covers went more) =
      let m = reached-follows more in
      (after home p resolved obeys bounds does tracks order ordered senses b r m.0 m.1.tied m.1.has runs covers s went, next-follows r m.0 m.1 runs covers s went)
  reached-follows (takes words r fit more) =
      let m = reached-follows more in
      let x : run.Step = record { inputs = words; edge = None } in
      let ok = (steps-of home p resolved (x ∷ []) ((fit, tt), tt)).0 in
      (turns.with_inputs (regs_step_of home p x).given m.0, inputs-keep home p resolved obeys bounds does tracks order ordered senses kept b x (regs_step_of home p x) ok r m.0 m.1)
  reached-follows (begins order' r s once went more) =
      let m = reached-follows more in
      (acted p (λ i q. q.is_thread && is_loaded m.0.word q.reset) m.0, restarts-follow home p resolved obeys bounds does tracks order ordered senses kept b order' r m.0 m.1 once s went)
  reached-follows (resumes at order' r s once went more) =
      let m = reached-follows more in
      let cells = cells_at home p at 0 p.cells in
      (acted p (λ i q. has_clock cells q.edge) m.0, edges-follow home p resolved obeys bounds does tracks order ordered senses kept b at cells (edges-of home p resolved (Some at)) order' r m.0 m.1 once s went)

  pub ends-soon : (n : ℕ) (r : Running) → Reached b D r → Restless b D n r → n ≤ length (filter process.is_combinational D.processes)
  ends-soon n r reached restless =
      let m = reached-follows reached in
      let few = soon ordered.stands n r m.0 m.1 (λ i x q a. true-false (sym a)) (λ i c q a. true-false (sym a)) restless in
      let short = ordered.short in
      subst (λ z. n ≤ z) (sym (same-count home p resolved obeys bounds does tracks p.processes 0 (λ k. ap (slice_get p.processes) (from k)))) (omega (arith, few, short))
    where
      from : (k : ℕ) → 0 + k ≡ k
      from k = omega arith
