-- Valuations that mirror registers are observed as these.
use Rattle.std.proofs.Common.{◌≡◌, ◌+◌, ℕ, Bool, true, false, List, [], ◌∷◌, Option, Some, None, refl, sym, ap, ◌∙◌, subst, if◌then◌else◌}
use Rattle.std.specs.Prelude.{map, option_map}
use Rattle.scc_semantics.specs.Location.{Location}
use Rattle.scc_semantics.specs.Statement.{Seen}
use Rattle.scc_svtree.specs.declared.module.SvModule.{SvModule}
use Rattle.scc_svtree.specs.declared.module.SvVar.{SvVar}
use Rattle.scc_blocks_spec.specs.Emitted.{is_output, outputs_from, register, shot, seen_of, AreSeen}
use Rattle.scc_blocks_spec.specs.Matches.{register_of, first}
use Rattle.scc_core_spec.specs.Program.{Program}
use Rattle.scc_blocks_spec.specs.Tied.{Registers}
use Rattle.scc_blocks_spec.specs.Turns.{Regs}
use Rattle.scc_blocks_run_laws.specs.Follows.{AllMirror, AllMirrorSteps}
use Rattle.scc_blocks_spec.specs.Tied.{Mirrors}
use Rattle.scc_blocks_laws.specs.Shots.{AreOutputs, AreOutputsBy, IsNamed, ShowsRegs, ShowsStep, ShowAll}

module _ (p : Program) (r : Registers) where
  outputs-are : (y : ℕ → ℕ) (g : Regs) → Mirrors p r y g → (i : ℕ) (ws : List SvVar) (cs : List ℕ) → AreOutputs r i ws cs → map g.word cs ≡ outputs_from i ws y
  outputs-are y g h i [] [] o = refl
  outputs-are y g h i [] (c ∷ cs) o = absurd o
  outputs-are y g h i (w ∷ ws) cs o = go (outputs-are y g h (i + 1) ws) (is_output w.dir) refl cs o
    where
      go : ((cs : List ℕ) → AreOutputs r (i + 1) ws cs → map g.word cs ≡ outputs_from (i + 1) ws y) → (b : Bool) → is_output w.dir ≡ b → (cs : List ℕ) → AreOutputsBy b r i cs (λ cs. AreOutputs r (i + 1) ws cs)
          → map g.word cs ≡ (if is_output w.dir then y i ∷ outputs_from (i + 1) ws y else outputs_from (i + 1) ws y)
      go next true e [] o = absurd o
      go next true e (c ∷ cs) o = (λ j. sym (h.words c i o.0) j ∷ next cs o.1 j) ∙ sym (ap (λ b. if b then y i ∷ outputs_from (i + 1) ws y else outputs_from (i + 1) ws y) e)
      go next false e cs o = next cs o ∙ sym (ap (λ b. if b then y i ∷ outputs_from (i + 1) ws y else outputs_from (i + 1) ws y) e)

  module _ (text : Location → List ℕ) (at : Location → ℕ) (m : SvModule) (outputs : List ℕ) (named : IsNamed text at r m outputs) where
    pub shot-shows : (y : ℕ → ℕ) (g : Regs) → Mirrors p r y g → ShowsRegs at outputs g (shot text m y)
    shot-shows y g h = record {
      same_outputs = outputs-are y g h 0 m.vars outputs named.outputs_stand;
      same_registers = registers;
    }
      where
        registers : (l : Location) (w : ℕ) → register text m y l ≡ Some w → g.word (at l) ≡ w
        registers l w e = go (first (register_of text m l)) refl
          where
            go : (o : Option ℕ) → first (register_of text m l) ≡ o → g.word (at l) ≡ w
            go None k = let z : None ≡ Some w = sym (ap (λ o. option_map y o) k) ∙ e in absurd (cc)
            go (Some v) k = let z : Some (y v) ≡ Some w = sym (ap (λ o. option_map y o) k) ∙ e in let u : y v ≡ w = cc in sym (h.words (at l) v (named.registers_stand l v k)) ∙ u

    step-shows : (ys : List (ℕ → ℕ)) (gs : List Regs) (s : Seen) → AllMirror p r ys gs → seen_of text m ys ≡ Some s → ShowsStep at outputs gs s
    step-shows [] [] s a e = absurd (cc)
    step-shows [] (g ∷ gs) s a e = absurd a
    step-shows (y ∷ ys) [] s a e = absurd a
    step-shows (y ∷ []) (g ∷ []) s a e =
        let z : record { before = shot text m y; after = None } ≡ s = cc in
        subst (λ s. ShowsStep at outputs (g ∷ []) s) z (shot-shows y g a.0, tt)
    step-shows (y ∷ z ∷ []) (g ∷ h ∷ []) s a e =
        let w : record { before = shot text m y; after = Some (shot text m z) } ≡ s = cc in
        subst (λ s. ShowsStep at outputs (g ∷ h ∷ []) s) w (shot-shows y g a.0, shot-shows z h a.1.0)
    step-shows (y ∷ z ∷ w ∷ ys) (g ∷ gs) s a e = absurd (cc)
    step-shows (y ∷ []) (g ∷ h ∷ gs) s a e = absurd a.1
    step-shows (y ∷ z ∷ []) (g ∷ []) s a e = absurd a.1
    step-shows (y ∷ z ∷ []) (g ∷ h ∷ k ∷ gs) s a e = absurd a.1.1

    pub steps-show : (yss : List (List (ℕ → ℕ))) (gss : List (List Regs)) (ss : List Seen) → AllMirrorSteps p r yss gss → AreSeen text m yss ss → ShowAll at outputs gss ss
    steps-show [] [] [] a e = tt
    steps-show [] [] (s ∷ ss) a e = absurd e
    steps-show [] (gs ∷ gss) ss a e = absurd a
    steps-show (ys ∷ yss) [] ss a e = absurd a
    steps-show (ys ∷ yss) (gs ∷ gss) [] a e = absurd e
    steps-show (ys ∷ yss) (gs ∷ gss) (s ∷ ss) a e = (step-shows ys gs s a.0 e.0, steps-show yss gss ss a.1 e.1)
