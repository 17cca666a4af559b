-- Roots that a path doesn't write, by lists of what is written.
use Rattle.std.proofs.Common.{◌≡◌, refl, sym, ap, ◌∙◌, ℕ, Bool, true, false, ◌&&◌, List, [], ◌∷◌, Option, None, if◌then◌else◌}
use Rattle.std.specs.List.{list_any}
use Rattle.scc_base.specs.declared.refusal.Place.{Place}
use Rattle.scc_base.specs.declared.code.Code.TheVariants as reason
use Rattle.scc_base.specs.declared.refusal.Refusal.{Refusal}
use Rattle.scc_core_spec.specs.Clashes.{live_acts}
use Rattle.scc_core_spec.specs.First.{first_of, when, refused}
use Rattle.scc_core_spec.specs.Flow.{flow, every}
use Rattle.scc_core_spec.specs.Live.{live}
use Rattle.scc_core_spec.specs.Program.{Process, Program, is_root, is_combinational}
use Rattle.scc_core_spec.specs.Rules.{latch}
use Rattle.scc_core_spec.specs.Uses.{has_sort, writes_of}
use Rattle.scc_rules_laws.specs.Found.{first_along, is_missed, missed_put, put_found}
use Rattle.scc_rules_laws.specs.Seen.{Seen, AreSeen, AreThinned, seen_in}
use Rattle.scc_rules_laws.proofs.Sensed.{along_seen, only_if}
use Rattle.scc_rules_laws.proofs.Thinned.{thinned}
use Rattle.scc_rules_laws.proofs.Writers.{puts_ask, puts_asked}

pub latches_told : (p : Program) (thin : List (List Seen)) → AreSeen p thin → first_along (missed_put p.cells) p.processes thin ≡ latch p
latches_told p thin is = along_seen p.cells (missed_put p.cells) _ each p.processes thin is
  where
    each : (q : Process) (t : List Seen) → AreThinned (seen_in p.cells q ∷ []) (t ∷ [])
        → missed_put p.cells q t
        ≡ (if is_combinational q then first_of (λ a. when (list_any (λ n. has_sort is_root p.cells n && (flow p.cells (live p.cells q.body) every).fall n) (writes_of p.cells a)) (refused reason.Latch a.place)) (live_acts p.cells q) else None)
    each q t k =
        let h : Place → List ℕ → Option Refusal = λ at xs. when (list_any (is_missed p.cells q) xs) (refused reason.Latch at) in
        only_if (is_combinational q) (first_of (put_found reason.Latch (is_missed p.cells q)) t)
        ∙ ap (λ o. if is_combinational q then o else None)
        (sym (thinned (put_found reason.Latch (is_missed p.cells q)) (puts_asked h (λ at. refl) p.cells (λ a b xs e. none (list_any (is_missed p.cells q) xs) a b e)) [] (seen_in p.cells q) t k.0 tt)
        ∙ sym (puts_ask h (λ at. refl) p.cells 0 (live_acts p.cells q)))
      where
        none : (b : Bool) (x y : Place) → when b (refused reason.Latch y) ≡ None → when b (refused reason.Latch x) ≡ None
        none true x y e = absurd cc
        none false x y e = refl
