-- A settling in any order ends where the standard one does.
use Rattle.std.proofs.Common.{◌≡◌, ℕ, zero, suc, Bool, true, false, ◌||◌, List, filter, length, Some, refl, sym, ◌∙◌, slice_get, ◌⊎◌, inl, inr}
use Rattle.scc_bits_kinds.specs.declared.kind.Kind.{Kind}
use Rattle.scc_semantics.specs.Location.{Location}
use Rattle.scc_semantics.specs.Places.{Signal}
use Rattle.scc_semantics.specs.Design.{Design}
use Rattle.scc_semantics.specs.Process.{State, Well}
use Rattle.scc_semantics.specs.Schedule.{Running, Covers, Settles, last, goes, round, found_after}
use Rattle.scc_core_spec.specs.Program as program
use Rattle.scc_core_spec.specs.Program.{Program, Process, is_root, is_number, is_held, is_combinational}
use Rattle.scc_core_spec.specs.Static.{Cells}
use Rattle.scc_core_spec.specs.Uses.{has_sort, among}
use Rattle.scc_core_spec.specs.Kept.{written_by}
use Rattle.scc_core_spec.specs.Source.{Home, cell_location, thing_of}
use Rattle.scc_blocks_spec.specs.Names.{holds_word}
use Rattle.scc_blocks_spec.specs.Turns.{Regs, acted, rounds, settled}
use Rattle.scc_blocks_spec.specs.Tied.{Tied}
use Rattle.scc_core_effect_laws.specs.Follows.{IsSoundCore, Obeys, Does, Tracks, design_of}
use Rattle.scc_core_effect_laws.specs.Ordering.{IsOrdered, IsSettled}
use Rattle.scc_core_effect_laws.proofs.Names.{or-left, true-false}
use Rattle.scc_core_effect_laws.proofs.Unsure.{has-sort, sort-of}
use Rattle.scc_core_laws.proofs.Found.{root-held}
use Rattle.scc_core_laws.proofs.Phases.{word-is-held}
use Rattle.scc_core_laws.proofs.Seeing.{thing-at}
use Rattle.scc_core_laws.proofs.Settling.{Comes, settle-comes}
use Rattle.scc_core_laws.proofs.Asking.{tied-answers}
use Rattle.scc_core_laws.proofs.Ordered.{written-next, writer-or, settled-is}
use Rattle.scc_core_laws.proofs.OnlyOne.{only-one}
use Rattle.scc_core_order_laws.proofs.Asked.{Senses, Stays, stays-self, stays-then, HasRun, methods-stay, after, tied-after, stays-after, has-after, at-rest}
use Rattle.scc_semantics.specs.Process as process

module _ (home : Home) (p : Program) (resolved : IsSoundCore home p) (obeys : Obeys p) (bounds : ℕ → ℕ) (does : Does home p bounds) (tracks : Tracks home p bounds) (order : List ℕ) (ordered : IsOrdered p order) (senses : Senses p) where
  abbrev cs : Cells
  cs = p.cells

  abbrev at : program.Cell → Location
  at x = cell_location home p x

  abbrev D : Design
  D = design_of home p

  pub two-sorts : (s : program.Sort) → is_held s ≡ true → (is_root s ≡ true) ⊎ (is_number s ≡ true)
  two-sorts s e = by (is_root s) e
    where
      by : (b : Bool) → (b || is_number s) ≡ true → (b ≡ true) ⊎ (is_number s ≡ true)
      by true e = inl refl
      by false e = inr e

  pub root-is-signal : (x : program.Cell) → is_root x.sort ≡ true → thing_of home p x x.sort ≡ Some (Signal x.kind)
  root-is-signal x r = by x.sort r
    where
      by : (s : program.Sort) → is_root s ≡ true → thing_of home p x s ≡ Some (Signal x.kind)
      by program.Input r = refl
      by program.Output r = refl
      by program.Signal r = refl
      by (program.Variable w f) r = true-false (sym r)
      by (program.Local i) r = true-false (sym r)
      by (program.Pointer t) r = true-false (sym r)
      by (program.Port t) r = true-false (sym r)

  -- where no signal changes, no root does
  pub roots-same : (s t : State) (g h : Regs) → Tied home p s g → Tied home p t h → ((l : Location) (k : Kind) → D.places.things l ≡ Some (Signal k) → t.store.words l ≡ s.store.words l) → (c : ℕ) → has_sort is_root cs c ≡ true → h.word c ≡ g.word c
  roots-same s t g h tied tied' quiet c root =
      let x = sort-of is_root cs c root in
      sym (tied'.words c x.0 x.1 (or-left _ _ root)) ∙ quiet (at x.0) x.0.kind (thing-at home p resolved c x.0 x.1 (root-held x.0.sort x.2) ∙ root-is-signal x.0 x.2) ∙ tied.words c x.0 x.1 (or-left _ _ root)

  -- what a settling comes to
  pub record SettlesTo (t : Running) (g : Regs) : Type 0 where
    pub to : Regs
    pub tied : Tied home p t.state to
    pub has : HasRun home p t to
    pub rests : IsSettled p to
    pub stays : Stays p g to

  module _ (b : ℕ → ℕ) where
    ends : (r : Running) (g : Regs) (tied : Tied home p r.state g) (has : HasRun home p r g) (runs : List ℕ) (covers : Covers D r runs) (s : State) (went : round b D runs r.state ≡ Well s)
        → ((l : Location) (k : Kind) → D.places.things l ≡ Some (Signal k) → s.store.words l ≡ r.state.store.words l) → SettlesTo (record { state = s; found = found_after b D runs r }) g
    ends r g tied has runs covers s went quiet = record {
      to = h;
      tied = there;
      has = has-after home p resolved obeys bounds does tracks order ordered senses b r g tied has runs covers s went;
      rests = λ c x e k. by c x e k (two-sorts x.sort (word-is-held p c x e k));
      stays = stays-after home p resolved obeys bounds does tracks order ordered senses b r g tied has runs covers s went;
    }
      where
        h : Regs
        h = after home p resolved obeys bounds does tracks order ordered senses b r g tied has runs covers s went

        there : Tied home p s h
        there = tied-after home p resolved obeys bounds does tracks order ordered senses b r g tied has runs covers s went

        same : (c : ℕ) → has_sort is_root cs c ≡ true → h.word c ≡ g.word c
        same = roots-same r.state s g h tied there quiet

        stay : Stays p h (acted p (λ i q. is_combinational q) h)
        stay = methods-stay home p resolved obeys bounds does tracks s h there (λ i q. is_combinational q) (λ i q e t. t) h

        by : (c : ℕ) (x : program.Cell) → slice_get cs c ≡ Some x → holds_word p c ≡ true → ((is_root x.sort ≡ true) ⊎ (is_number x.sort ≡ true)) → (acted p (λ i q. is_combinational q) h).word c ≡ h.word c
        by c x e k (inr n) = stay.numbers c x e n k
        by c x e k (inl o) = which (writer-or home p resolved obeys bounds does tracks order ordered c)
          where
            root : has_sort is_root cs c ≡ true
            root = has-sort is_root cs c x e ∙ o

            which : (((z : ℕ) × (r : Process) × (slice_get p.processes z ≡ Some r) × (is_combinational r ≡ true) × (among c (written_by cs r) ≡ true))
                ⊎ ((z : ℕ) (r : Process) → slice_get p.processes z ≡ Some r → is_combinational r ≡ true → among c (written_by cs r) ≡ true → ⊥)) → (acted p (λ i q. is_combinational q) h).word c ≡ h.word c
            which (inr none) = stay.roots c root none
            which (inl y) =
                written-next home p resolved obeys bounds does tracks order ordered h y.0 c y.1 y.2 y.3 root y.4
                ∙ at-rest home p resolved obeys bounds does tracks order ordered senses b r g tied has runs covers s went y.0 c y.1 y.2 y.3 root y.4 (λ z v o. same z o)

    settles-to : {n : ℕ} {r t : Running} → Settles b D n r t → (g : Regs) → Tied home p r.state g → HasRun home p r g → SettlesTo t g
    settles-to (last runs r s covers went quiet) g tied has = ends r g tied has runs covers s went quiet
    settles-to (goes {n = n} {r = r} {t = t} runs s covers went more) g tied has =
        let h = after home p resolved obeys bounds does tracks order ordered senses b r g tied has runs covers s went in
        let m = settles-to more h (tied-after home p resolved obeys bounds does tracks order ordered senses b r g tied has runs covers s went) (has-after home p resolved obeys bounds does tracks order ordered senses b r g tied has runs covers s went) in
        record { to = m.to; tied = m.tied; has = m.has; rests = m.rests; stays = stays-then p g h m.to (stays-after home p resolved obeys bounds does tracks order ordered senses b r g tied has runs covers s went) m.stays }

  rounds-stay : (s : State) (g0 : Regs) → Tied home p s g0 → (n : ℕ) (g : Regs) → Stays p g (rounds p n g)
  rounds-stay s g0 tied zero g = stays-self p g
  rounds-stay s g0 tied (suc n) g =
      stays-then p g (acted p (λ i q. is_combinational q) g) (rounds p (suc n) g) (methods-stay home p resolved obeys bounds does tracks s g0 tied (λ i q. is_combinational q) (λ i q e t. t) g)
      (rounds-stay s g0 tied n (acted p (λ i q. is_combinational q) g))

  pub settled-stay : (s : State) (g : Regs) → Tied home p s g → Stays p g (settled p g)
  settled-stay s g tied = rounds-stay s g tied (suc (length (filter is_combinational p.processes))) g

  -- a state that is tied to registers is tied to others that hold the same
  tied-moved : (s t : State) (g h : Regs) → Tied home p s g → Tied home p t h → ((c : ℕ) (x : program.Cell) → slice_get cs c ≡ Some x → holds_word p c ≡ true → h.word c ≡ g.word c) → ((i : ℕ) (q : Process) → slice_get p.processes i ≡ Some q → h.place i ≡ g.place i) → Tied home p t g
  tied-moved s t g h tied tied' words places = record {
    fits = tied.fits;
    proper = tied'.proper;
    words = λ c x e k. tied'.words c x e k ∙ words c x e k;
    constants = tied'.constants;
    places = λ i q place e t k. tied'.places i q place e t (places i q e ∙ k);
    begins = λ i q e t k. tied'.begins i q e t (places i q e ∙ k);
  }

  -- in any order it settles where the standard one does
  pub settles-there : (b : ℕ → ℕ) {n : ℕ} {r t : Running} → Settles b D n r t → (g : Regs) → Tied home p r.state g → HasRun home p r g → Tied home p t.state (settled p g) × HasRun home p t (settled p g)
  settles-there b {n = n} {r = r} {t = t} settles g tied has = (
    tied-moved standard.to t.state (settled p g) free.to standard.tied free.tied (λ c x e k. word c x e k (two-sorts x.sort (word-is-held p c x e k))) (λ i q e. free.stays.places i q e ∙ sym (stay.places i q e)),
    record { ran = λ i q f here comb e. let m = free.has.ran i q f here comb e in record { start = m.start; answers = m.answers; met = m.met; stands = λ x root w. sym (root-same x root) ∙ m.stands x root w } },
  )
    where
      free : SettlesTo t g
      free = settles-to b settles g tied has

      standard : Comes home p resolved obeys bounds does tracks (process.settle bounds D r.state) (settled p g)
      standard = settle-comes home p resolved obeys bounds does tracks r.state g tied

      stay : Stays p g (settled p g)
      stay = settled-stay r.state g tied

      root-same : (c : ℕ) → has_sort is_root cs c ≡ true → free.to.word c ≡ (settled p g).word c
      root-same = only-one home p resolved obeys bounds does tracks order ordered free.to (settled p g)
          (tied-answers home p resolved obeys bounds does tracks order ordered t.state free.to free.tied) (tied-answers home p resolved obeys bounds does tracks order ordered standard.to (settled p g) standard.tied)
          free.rests (settled-is home p resolved obeys bounds does tracks order ordered r.state g tied) (λ c root none. free.stays.roots c root none ∙ sym (stay.roots c root none))

      word : (c : ℕ) (x : program.Cell) → slice_get cs c ≡ Some x → holds_word p c ≡ true → ((is_root x.sort ≡ true) ⊎ (is_number x.sort ≡ true)) → free.to.word c ≡ (settled p g).word c
      word c x e k (inl o) = root-same c (has-sort is_root cs c x e ∙ o)
      word c x e k (inr n) = free.stays.numbers c x e n k ∙ sym (stay.numbers c x e n k)
