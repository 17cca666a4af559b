-- An accepted source has a start.
use Rattle.std.proofs.Common.{◌≡◌, ℕ, Bool, List, filter, Option, Some, None, option_map, ap, refl, sym, ◌∙◌, subst}
use Rattle.scc_base.specs.declared.refusal.Refusal.{Refusal}
use Rattle.scc_tree.specs.declared.item.FileTree.{FileTree}
use Rattle.scc_semantics.specs.Location.{Location}
use Rattle.scc_semantics.specs.Process.{State}
use Rattle.scc_semantics.specs.Start.{IsStart}
use Rattle.scc_core_spec.specs.Program as core
use Rattle.scc_core_spec.specs.Constants.{constant_from, constants_of}
use Rattle.scc_core_spec.specs.Renumbered.{is_kept_cell, resolved_program, all_unpointed}
use Rattle.scc_core_spec.specs.Resolved.{Tried, Made, Stopped, and_made, made_map}
use Rattle.scc_core_spec.specs.Rules.{first_rule}
use Rattle.scc_core_spec.specs.Split.{first_after_passes}
use Rattle.scc_core_spec.specs.Unrolled.{unrolled_program, unrolling_refuses}
use Rattle.scc_elab_spec.specs.Program.{Plain}
use Rattle.scc_elab_spec.specs.Design.{Design}
use Rattle.scc_elab_spec.specs.Elaborated.{elaborated}
use Rattle.scc_elab_spec.specs.Meant.{design_of}
use Rattle.scc_elab_growth_laws.specs.Leaves.{IsLeft}
use Rattle.scc_elab_laws.specs.Starts.{IsConstant, start_of}
use Rattle.scc_elab_growth_laws.proofs.Leaving.{left-is}
use Rattle.scc_elab_laws.proofs.Starting.{left-fits, starts, AllFitting}
use Rattle.scc_inline_spec.specs.Inlined.{copied_program, core_cells}
use Rattle.scc_inline_spec.specs.Static.{inlined, first_copied}
use Rattle.scc_core_spec.specs.First.{first_numbered}
use Rattle.scc_inline_spec.specs.Stages.{accepted, unless_refused}
use Rattle.scc_plain_spec.specs.Program.{program_of}
use Rattle.scc_templates_spec.specs.SourceView.{source_of}
use Rattle.scc_plain_spec.specs.Designs.{Compiled, staged, if_made, compiled, any_home, design_in}
use Rattle.scc_core_spec.specs.Source.{Home}
use Rattle.scc_plain_laws.proofs.Constant.{constant-fits, constant-fixed, one-constant}

some_same : {A : Type 0} {a b : A} → Some a ≡ Some b → a ≡ b
some_same e = cc

made_same : {A : Type 0} {a b : A} → Made a ≡ Made b → a ≡ b
made_same e = cc

-- what the passes leave of a core's cells
resolved-cells : (u r : core.Program) → resolved_program u ≡ Made r → r.cells ≡ filter is_kept_cell u.cells
resolved-cells u r e = by (all_unpointed u u.processes) e
  where
    by : (o : Tried (List core.Process)) → made_map (λ processes. record { top = u.top; cells = filter is_kept_cell u.cells; vectors = u.vectors; processes = processes }) o ≡ Made r → r.cells ≡ filter is_kept_cell u.cells
    by (Made ps) f = sym (ap (λ z. z.cells) (made_same f))
    by (Stopped s) f = cc

accepted-cells : (k r : core.Program) → accepted k ≡ Made r → r.cells ≡ filter is_kept_cell k.cells
accepted-cells k r e = by (unrolling_refuses k) e
  where
    checked : (x : core.Program) (o : Option Refusal) → unless_refused o x ≡ Made r → x ≡ r
    checked x None f = made_same f
    checked x (Some s) f = cc

    resolved : (o : Tried core.Program) → resolved_program (unrolled_program k) ≡ o → and_made o (λ x. unless_refused (first_after_passes first_rule x) x) ≡ Made r → r.cells ≡ filter is_kept_cell k.cells
    resolved (Made x) g f = ap (λ z. z.cells) (sym (checked x (first_after_passes first_rule x) f)) ∙ resolved-cells (unrolled_program k) x g
    resolved (Stopped s) g f = cc

    by : (o : Option Refusal) → and_made (unless_refused o (unrolled_program k)) (λ u. and_made (resolved_program u) (λ x. unless_refused (first_after_passes first_rule x) x)) ≡ Made r → r.cells ≡ filter is_kept_cell k.cells
    by None f = resolved (resolved_program (unrolled_program k)) refl f
    by (Some s) f = cc

inlined-is : (p : Plain) (d : Design) (k : core.Program) → inlined p d ≡ Made k → k ≡ copied_program p d
inlined-is p d k e = by (first_numbered (first_copied p d) 0 d.processes) refl
  where
    by : (o : Option Refusal) → first_numbered (first_copied p d) 0 d.processes ≡ o → k ≡ copied_program p d
    by None f = made_same (sym e ∙ rw f refl)
    by (Some s) f = absurd (let g : Stopped s ≡ Made k = sym (rw f refl) ∙ e in cc)

module _ (many : Bool) (p : Plain) (c : Compiled) where
  -- the parts of what a source comes to
  pub record Parts : Type 0 where
    pub plain : c.plain ≡ p
    pub built : elaborated many p ≡ Some (Made c.built)
    pub cells : c.core.cells ≡ filter is_kept_cell (core_cells p c.built)

  parts : staged many p ≡ Some (Made c) → Parts
  parts e = by (elaborated many p) refl e
    where
      core-made : (d : Design) (k : core.Program) → elaborated many p ≡ Some (Made d) → inlined p d ≡ Made k → (o : Tried core.Program) → accepted k ≡ o
          → made_map (λ r. record { plain = p; built = d; core = r }) o ≡ Made c → Parts
      core-made d k g h (Made r) i f = let same = made_same f in record {
        plain = sym (ap (λ z. z.plain) same);
        built = g ∙ ap (λ z. Some (Made z.built)) same;
        cells = sym (ap (λ z. z.core.cells) same) ∙ accepted-cells k r i ∙ ap (λ z. filter is_kept_cell z.cells) (inlined-is p d k h) ∙ ap (λ z. filter is_kept_cell (core_cells p z.built)) same;
      }
      core-made d k g h (Stopped s) i f = cc

      copied-made : (d : Design) → elaborated many p ≡ Some (Made d) → (o : Tried core.Program) → inlined p d ≡ o → and_made o (λ k. made_map (λ r. record { plain = p; built = d; core = r }) (accepted k)) ≡ Made c → Parts
      copied-made d g (Made k) h f = core-made d k g h (accepted k) refl f
      copied-made d g (Stopped s) h f = cc

      by : (o : Option (Tried Design)) → elaborated many p ≡ o → option_map (λ d. and_made d (λ d. and_made (inlined p d) (λ k. made_map (λ r. record { plain = p; built = d; core = r }) (accepted k)))) o ≡ Some (Made c) → Parts
      by None g f = cc
      by (Some (Stopped s)) g f = cc
      by (Some (Made d)) g f = copied-made d g (inlined p d) refl (some_same f)

  start-by : Parts → (s : State) × IsStart (design_of p c.built (constants_of any_home c.core)) s
  start-by q = (start_of (design_of p c.built (constants_of any_home c.core)), starts many p c.built (constants_of any_home c.core) left constants)
    where
      left : IsLeft many p c.built
      left = left-is many p c.built q.built

      fitting : AllFitting c.built.objects
      fitting = subst (λ (z : Design). AllFitting z.objects) (sym left.same) (left-fits left.grown 0 left.grown.objects)

      moved : (l : Location) → constant_from any_home c.core 0 (filter is_kept_cell (core_cells p c.built)) l ≡ constants_of any_home c.core l
      moved l = ap (λ cs. constant_from any_home c.core 0 cs l) (sym q.cells)

      constants : IsConstant p c.built (constants_of any_home c.core)
      constants = record {
        fits = λ l w e. constant-fits any_home c.core p c.built fitting l.root l.path w (moved l ∙ e);
        fixed = λ l w e. constant-fixed any_home c.core p c.built fitting l.root l.path w (moved l ∙ e);
      }

pub accepted-starts : (many : Bool) (tree : FileTree) (top : ℕ) (c : Compiled) → compiled many tree top ≡ Some (Made c) → (s : State) × IsStart (design_in c) s
accepted-starts many tree top c e = by (program_of (source_of tree) top) e
  where
    made : (p : Plain) → staged many p ≡ Some (Made c) → (s : State) × IsStart (design_in c) s
    made p f = let q = parts many p c f in subst (λ z. (s : State) × IsStart (design_of z c.built (constants_of any_home c.core)) s) (sym q.plain) (start-by many p c q)

    by : (o : Tried Plain) → if_made o (staged many) ≡ Some (Made c) → (s : State) × IsStart (design_in c) s
    by (Made p) f = made p f
    by (Stopped s) f = cc

-- an accepted source's parts, by its plain program
pub parts-of : (many : Bool) (tree : FileTree) (top : ℕ) (c : Compiled) → compiled many tree top ≡ Some (Made c) → Parts many c.plain c
parts-of many tree top c e = by (program_of (source_of tree) top) e
  where
    made : (p : Plain) → staged many p ≡ Some (Made c) → Parts many c.plain c
    made p f = let q = parts many p c f in subst (λ z. Parts many z c) (sym q.plain) q

    by : (o : Tried Plain) → if_made o (staged many) ≡ Some (Made c) → Parts many c.plain c
    by (Made p) f = made p f
    by (Stopped s) f = cc

pub any-home : (many : Bool) (tree : FileTree) (top : ℕ) (c : Compiled) → compiled many tree top ≡ Some (Made c) → (home : Home) (l : Location) → constants_of home c.core l ≡ constants_of any_home c.core l
any-home many tree top c e home l =
    let q = parts-of many tree top c e in
    ap (λ cs. constant_from home c.core 0 cs l) q.cells ∙ one-constant home any_home c.core c.plain c.built l.root l.path ∙ ap (λ cs. constant_from any_home c.core 0 cs l) (sym q.cells)
