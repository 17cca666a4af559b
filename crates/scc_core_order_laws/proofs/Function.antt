-- What settles is told by inputs, registers and constants.
use Rattle.std.proofs.Common.{◌≡◌, ℕ, ◌+◌, Bool, true, false, ◌||◌, List, Option, Some, None, refl, sym, ap, ◌∙◌, arith, slice_get, is_some, ◌⊎◌, inl, inr}
use Rattle.std.specs.Prelude.{option_and_then}
use Rattle.scc_semantics.specs.Process.{State}
use Rattle.scc_core_spec.specs.Program as program
use Rattle.scc_core_spec.specs.Program.{Program, Process, Edge, is_root, is_input, is_number, is_combinational, is_combinational_by}
use Rattle.scc_core_spec.specs.Static.{Cells}
use Rattle.scc_core_spec.specs.Uses.{has_sort, among}
use Rattle.scc_core_spec.specs.Kept.{written_by}
use Rattle.scc_core_spec.specs.Constants.{written, constant_if}
use Rattle.scc_core_spec.specs.Source.{Home}
use Rattle.scc_blocks_spec.specs.Names.{holds_word, is_register, keeps}
use Rattle.scc_blocks_spec.specs.Turns.{Regs, constant_at, settled}
use Rattle.scc_blocks_spec.specs.Tied.{Tied}
use Rattle.scc_core_effect_laws.specs.Follows.{IsSoundCore, Obeys, Does, Tracks}
use Rattle.scc_core_effect_laws.specs.Ordering.{IsOrdered}
use Rattle.scc_core_effect_laws.proofs.Names.{and-both, or-left, or-right, none-some, true-false}
use Rattle.scc_core_effect_laws.proofs.Unsure.{flat-in, is-false, has-sort, sort-of, number-no-root}
use Rattle.scc_core_laws.proofs.Found.{kept-in}
use Rattle.scc_core_laws.proofs.Phases.{word-is-held}
use Rattle.scc_core_laws.proofs.Settling.{settle-comes}
use Rattle.scc_core_laws.proofs.Asking.{tied-answers}
use Rattle.scc_core_laws.proofs.Ordered.{settled-is}
use Rattle.scc_core_laws.proofs.OnlyOne.{only-one}
use Rattle.scc_core_order_laws.specs.Inputs.{SameStored}
use Rattle.scc_core_order_laws.proofs.Asked.{Senses, Stays}
use Rattle.scc_core_order_laws.proofs.Settled.{settled-stay, two-sorts}

module _ (home : Home) (p : Program) (resolved : IsSoundCore home p) (obeys : Obeys p) (bounds : ℕ → ℕ) (does : Does home p bounds) (tracks : Tracks home p bounds) (order : List ℕ) (ordered : IsOrdered p order) (senses : Senses p)
    (s t : State) (g h : Regs) (tied : Tied home p s g) (tied' : Tied home p t h) (stored : SameStored p g h) where
  abbrev cs : Cells
  cs = p.cells

  abbrev Unwritten : ℕ → Type 0
  Unwritten c = (i : ℕ) (q : Process) → slice_get p.processes i ≡ Some q → is_combinational q ≡ true → among c (written_by cs q) ≡ true → ⊥

  -- a root that a process writes that is no combinational method is a register
  written-register : (c : ℕ) → has_sort is_root cs c ≡ true → Unwritten c → among c (written p) ≡ true → is_register p c ≡ true
  written-register c root none w =
      let z = flat-in (written_by cs) c p.processes w in
      kept-in cs 0 p.processes z.0 z.1 c z.2 (ap (λ m. keeps cs m z.1 c) (from z.0) ∙ and-both (is_some z.1.edge) _ (edge z.0 z.1 z.2 (is-false _ (λ m. none z.0 z.1 z.2 m z.3))) (or-left _ _ (and-both _ _ root z.3)))
    where
      from : (j : ℕ) → 0 + j ≡ j
      from j = omega arith

      edge : (j : ℕ) (q : Process) → slice_get p.processes j ≡ Some q → is_combinational q ≡ false → is_some q.edge ≡ true
      edge j q e m = by q.is_thread q.edge m (resolved.edges j q e)
        where
          by : (b : Bool) (o : Option Edge) → is_combinational_by b o ≡ false → (b ≡ true → is_some o ≡ true) → is_some o ≡ true
          by b (Some d) m l = refl
          by true None m l = l refl
          by false None m l = true-false m

  -- the two start alike at what no combinational method writes
  start-same : (c : ℕ) → has_sort is_root cs c ≡ true → Unwritten c → g.word c ≡ h.word c
  start-same c root none = by (sort-of is_root cs c root)
    where
      by : ((x : program.Cell) × (slice_get cs c ≡ Some x) × (is_root x.sort ≡ true)) → g.word c ≡ h.word c
      by x = constants (constant_at p c) refl
        where
          holds : holds_word p c ≡ true
          holds = or-left _ _ root

          changing : constant_at p c ≡ None → (is_input x.0.sort || is_register p c) ≡ true
          changing k = cases (among c (written p)) refl
            where
              sorts : (s : program.Sort) → is_root s ≡ true → constant_if false s ≡ None → is_input s ≡ true
              sorts program.Input r e = refl
              sorts program.Output r e = none-some 0 (sym e)
              sorts program.Signal r e = none-some 0 (sym e)
              sorts (program.Variable w f) r e = true-false (sym r)
              sorts (program.Local i) r e = true-false (sym r)
              sorts (program.Pointer t) r e = true-false (sym r)
              sorts (program.Port t) r e = true-false (sym r)

              cases : (b : Bool) → among c (written p) ≡ b → (is_input x.0.sort || is_register p c) ≡ true
              cases true w = or-right _ _ (written-register c root none w)
              cases false w = or-left _ _ (sorts x.0.sort x.2 (sym (ap (option_and_then (λ x. constant_if (among c (written p)) x.sort)) x.1 ∙ ap (λ b. constant_if b x.0.sort) w) ∙ k))

          constants : (o : Option ℕ) → constant_at p c ≡ o → g.word c ≡ h.word c
          constants (Some w) k = sym (tied.words c x.0 x.1 holds) ∙ tied.constants c x.0 w x.1 k ∙ sym (tied'.constants c x.0 w x.1 k) ∙ tied'.words c x.0 x.1 holds
          constants None k = stored c x.0 x.1 (changing k)

  pub settled-same : (c : ℕ) (x : program.Cell) → slice_get cs c ≡ Some x → holds_word p c ≡ true → (settled p g).word c ≡ (settled p h).word c
  settled-same c x e k = by (two-sorts home p resolved obeys bounds does tracks order ordered senses x.sort (word-is-held p c x e k))
    where
      stay : Stays p g (settled p g)
      stay = settled-stay home p resolved obeys bounds does tracks order ordered senses s g tied

      stay' : Stays p h (settled p h)
      stay' = settled-stay home p resolved obeys bounds does tracks order ordered senses t h tied'

      register : (b : Bool) → b ≡ false → (b || is_register p c) ≡ true → is_register p c ≡ true
      register true f h = true-false f
      register false f h = h

      by : ((is_root x.sort ≡ true) ⊎ (is_number x.sort ≡ true)) → (settled p g).word c ≡ (settled p h).word c
      by (inr n) = stay.numbers c x e n k ∙ stored c x e (or-right _ _ (register (has_sort is_root cs c) (has-sort is_root cs c x e ∙ number-no-root x.sort n) k)) ∙ sym (stay'.numbers c x e n k)
      by (inl o) =
          let a = settle-comes home p resolved obeys bounds does tracks s g tied in
          let b = settle-comes home p resolved obeys bounds does tracks t h tied' in
          only-one home p resolved obeys bounds does tracks order ordered (settled p g) (settled p h)
          (tied-answers home p resolved obeys bounds does tracks order ordered a.to (settled p g) a.tied) (tied-answers home p resolved obeys bounds does tracks order ordered b.to (settled p h) b.tied)
          (settled-is home p resolved obeys bounds does tracks order ordered s g tied) (settled-is home p resolved obeys bounds does tracks order ordered t h tied')
          (λ c root none. stay.roots c root none ∙ start-same c root none ∙ sym (stay'.roots c root none)) c (has-sort is_root cs c x e ∙ o)
