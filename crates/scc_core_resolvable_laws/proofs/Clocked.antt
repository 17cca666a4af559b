-- Clocks, resets and exits stay as they are asked for when a core is unrolled, and what is resolved passes their tests.
use Rattle.std.proofs.Common.{◌≡◌, ℕ, suc, Bool, true, false, not, ◌&&◌, ◌||◌, List, [], ◌∷◌, Option, Some, None, option_map, is_some, slice_get, unwrap_or, refl, sym, ap, ◌∙◌, subst}
use Rattle.std.specs.Prelude.{filter}
use Rattle.std.specs.List.{list_all}
use Rattle.scc_core_spec.specs.Counted.{Elsewhere}
use Rattle.scc_core_spec.specs.Exits.{exits_within}
use Rattle.scc_core_spec.specs.Fit.{fit_code}
use Rattle.scc_core_spec.specs.IsResolved.{fit_edge, fit_reset, fit_process, is_resolved, keeps_inputs}
use Rattle.scc_core_spec.specs.Program.{Program, Process, Edge, Reset, is_pointer, is_root}
use Rattle.scc_core_spec.specs.Program as program
use Rattle.scc_core_spec.specs.Renumbered.{is_kept_cell, new_number, renamed_code, renamed_edge, renamed_reset, renamed_process, all_unpointed, resolved_program}
use Rattle.scc_core_spec.specs.Resolved.{Made}
use Rattle.scc_core_spec.specs.Static.{Cells}
use Rattle.scc_core_spec.specs.Unpointed.{at_first}
use Rattle.scc_core_spec.specs.Unrolled.{setting_of, unrolled_program}
use Rattle.scc_core_spec.specs.Uses.{has_sort}
use Rattle.scc_core_unroll_laws.specs.Named.{IsNamed}
use Rattle.scc_core_unroll_laws.proofs.Counters.{some-is}
use Rattle.scc_core_unroll_laws.proofs.Knowing.{map-is}
use Rattle.scc_core_pass_laws.specs.Renumbering.{IsKeptCell}
use Rattle.scc_core_pass_laws.proofs.Pointless.{made-map-is}
use Rattle.scc_core_pass_laws.proofs.Renumber.{Told, told, renumbered-is}
use Rattle.scc_core_resolvable_laws.specs.Clocked.{IsClocked}
use Rattle.scc_core_resolvable_laws.specs.Fitting.{statements_fit}
use Rattle.scc_core_resolvable_laws.specs.Sorted.{IsSorted}
use Rattle.scc_core_resolvable_laws.specs.Told.{IsTold}
use Rattle.scc_core_resolvable_laws.proofs.Kept.{new, was}
use Rattle.scc_core_resolvable_laws.proofs.Leaving.{unrolled-leaves, unpointed-leaves, renamed-leaves}
use Rattle.scc_core_resolvable_laws.proofs.Pointerless.{at-same, name_at, rest-of-test}
use Rattle.scc_core_resolvable_laws.proofs.Told.{root-plain}

pub clocked-unrolled : (p : Program) → IsClocked p → IsClocked (unrolled_program p)
clocked-unrolled p k = record {
  threads = λ i q at t. let x = was (new p) p.processes i q at in ap (λ (q : Process). is_some q.edge) (sym x.2) ∙ k.threads i x.0 x.1 (ap (λ (q : Process). q.is_thread) x.2 ∙ t);
  edges = λ i q e at f. let x = was (new p) p.processes i q at in k.edges i x.0 e x.1 (ap (λ (q : Process). q.edge) x.2 ∙ f);
  resets = λ i q r at f. let x = was (new p) p.processes i q at in
      let y = k.resets i x.0 r x.1 (ap (λ (q : Process). q.reset) x.2 ∙ f) in
      (ap (λ (q : Process). q.is_thread) (sym x.2) ∙ y.0, y.1);
  exits = λ i q at. let x = was (new p) p.processes i q at in
      ap (λ (q : Process). exits_within 0 q.body) (sym x.2) ∙ unrolled-leaves (setting_of p.cells x.0) [] Elsewhere 0 x.0.body (k.exits i x.0 x.1);
}

-- a signal or port of the top is found by its new number
root-kept : (cs : Cells) (n : ℕ) → has_sort is_root cs n ≡ true → has_sort is_root (filter is_kept_cell cs) (new_number cs n) ≡ true
root-kept cs n e = ap (λ (o : Option program.Cell). unwrap_or (option_map is_root (option_map (λ (c : program.Cell). c.sort) o)) false) (renumbered-is cs n (kept (slice_get cs n) e)) ∙ e
  where
    kept : (o : Option program.Cell) → unwrap_or (option_map is_root (option_map (λ (c : program.Cell). c.sort) o)) false ≡ true → IsKeptCell o
    kept None e = tt
    kept (Some c) e = root-plain c.sort e

all-same : {A : Type 0} (f g : A → Bool) (xs : List A) → ((k : ℕ) (x : A) → slice_get xs k ≡ Some x → f x ≡ g x) → list_all f xs ≡ list_all g xs
all-same f g [] h = refl
all-same f g (x ∷ xs) h = λ i. h 0 x refl i && all-same f g xs (λ k y e. h (suc k) y e) i

last-of : (a b c d e : Bool) → a ≡ true → b ≡ true → c ≡ true → d ≡ true → (a && (b && (c && (d && e)))) ≡ e
last-of true true true true e f g h i = refl
last-of false b c d e f g h i = absurd cc
last-of true false c d e f g h i = absurd cc
last-of true true false d e f g h i = absurd cc
last-of true true true false e f g h i = absurd cc

module _ (p : Program) (qs : List Process) (made : all_unpointed p p.processes ≡ Made qs) (clocked : IsClocked p) where
  abbrev cs : Cells
  cs = filter is_kept_cell p.cells

  abbrev number : ℕ → ℕ
  number = new_number p.cells

  module _ (n : ℕ) (q : Process) (at : slice_get p.processes n ≡ Some q) (t : Told p q qs n) where
    thread-fits : (not q.is_thread || is_some (option_map (renamed_edge number) q.edge)) ≡ true
    thread-fits = by q.is_thread refl
      where
        some : (o : Option Edge) → is_some o ≡ true → is_some (option_map (renamed_edge number) o) ≡ true
        some None e = absurd cc
        some (Some x) e = refl

        by : (b : Bool) → q.is_thread ≡ b → (not b || is_some (option_map (renamed_edge number) q.edge)) ≡ true
        by false e = refl
        by true e = some q.edge (clocked.threads n q at e)

    edge-fits : fit_edge cs (option_map (renamed_edge number) q.edge) ≡ true
    edge-fits = by q.edge refl
      where
        by : (o : Option Edge) → q.edge ≡ o → fit_edge cs (option_map (renamed_edge number) o) ≡ true
        by None e = refl
        by (Some x) e = root-kept p.cells x.cell (clocked.edges n q x at e)

    reset-fits : fit_reset cs q.is_thread (option_map (renamed_reset number) q.reset) ≡ true
    reset-fits = by q.reset refl
      where
        by : (o : Option Reset) → q.reset ≡ o → fit_reset cs q.is_thread (option_map (renamed_reset number) o) ≡ true
        by None e = refl
        by (Some x) e = let y = clocked.resets n q x at e in ap (λ b. b && has_sort is_root cs (number x.cell)) y.0 ∙ root-kept p.cells x.cell y.1

    exits-fit : exits_within 0 (renamed_code number t.body) ≡ true
    exits-fit = renamed-leaves number 0 t.body ∙ unpointed-leaves (at_first p) 0 q.body t.body t.made (clocked.exits n q at)

    process-is : fit_process cs (renamed_process number q t.body) ≡ fit_code cs (renamed_process number q t.body) (renamed_code number t.body)
    process-is = last-of (not q.is_thread || is_some (option_map (renamed_edge number) q.edge)) (fit_edge cs (option_map (renamed_edge number) q.edge)) (fit_reset cs q.is_thread (option_map (renamed_reset number) q.reset))
        (exits_within 0 (renamed_code number t.body)) (fit_code cs (renamed_process number q t.body) (renamed_code number t.body)) thread-fits edge-fits reset-fits exits-fit

  processes-are : list_all (fit_process cs) qs ≡ list_all (λ q. fit_code cs q q.body) qs
  processes-are = all-same (fit_process cs) (λ q. fit_code cs q q.body) qs (λ n q at.
      let x = map-is (slice_get p.processes n) (λ (q : Process). q.name) q.name (sym (at-same p p.processes qs made n) ∙ ap name_at at) in
      let t = told p p.processes qs made n x.0 x.1 in
      subst (λ q. fit_process cs q ≡ fit_code cs q q.body) (some-is (sym t.at ∙ at)) (process-is n x.0 x.1 t))

pub statements-left : (p r : Program) → resolved_program p ≡ Made r → IsNamed p → IsTold p → IsSorted p → IsClocked p → is_resolved r ≡ statements_fit r
statements-left p r e named known sorted clocked =
    let x = made-map-is _ (all_unpointed p p.processes) r e in
    rest-of-test p r e named known sorted
    ∙ subst (λ (r : Program). (list_all (fit_process r.cells) r.processes && keeps_inputs r) ≡ statements_fit r) x.2
    (let m : Program = record { top = p.top; cells = filter is_kept_cell p.cells; vectors = p.vectors; processes = x.0 } in ap (λ b. b && keeps_inputs m) (processes-are p x.0 x.1 clocked))
