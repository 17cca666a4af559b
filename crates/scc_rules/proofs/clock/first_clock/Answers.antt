use Rattle.std.proofs.Common.{◌≡◌, ◌<◌, arith, sym, ap, ◌∙◌, subst, length, get_or, List, Some, None}
use Rattle.scc_core_flow.specs.declared.marks.Mark.{Mark}
use Rattle.scc_core_view.specs.Programs.{process_of}
use Rattle.scc_rules_laws.specs.Found.{clock_used}
use Rattle.scc_rules_walks.specs.Cells.{has_flag}
use Rattle.scc_rules.specs.Marks.{seen_all, seen_in}
use Rattle.scc_rules.proofs.Clocks.{seen_at, seen_below}
use Rattle.scc_rules.proofs.Firsts.{along_found, along_next}
use Rattle.scc_rules.proofs.clock.first_clock.Goals as goal

pub returns-in-Some-found-clause-first : goal.returns-in-Some-found-clause-first
returns-in-Some-found-clause-first c =
    let f = c.args.f.now in
    let h : c.loop-k.k < length c.args.processes.now = omega arith in
    let below : c.loop-k.k < length f.marks.items = subst (λ (ms : List (List Mark)). c.loop-k.k < length ms) c.deref.ensures.value c.in-Some.ensures.lookup.3.0 in
    let is : c.in-Some.marks.now ≡ get_or f.marks.items c.loop-k.k c.in-Some.marks.now = c.in-Some.ensures.lookup.1 ∙ ap (λ (ms : List (List Mark)). get_or ms c.loop-k.k c.in-Some.marks.now) c.deref.ensures.value in
    along_found (λ q. clock_used (has_flag c.args.clocks.now) (process_of q)) c.args.processes.now (seen_all f) c.loop-k.k c.index-processes-k.result (seen_in f c.in-Some.marks.now) c.in-Some-found.found _ h
    (seen_below f c.loop-k.k below) c.index-processes-k.is (seen_at f c.loop-k.k c.in-Some.marks.now is)
    (ap (λ ms. clock_used (has_flag c.args.clocks.now) (process_of c.index-processes-k.result) (seen_in f ms)) (sym c.as_slice.ensures.elements) ∙ sym c.in_ok-found.ensures.found ∙ c.in-Some-found.is)
    c.loop-k.invariant

pub loop-k-preserved : goal.loop-k-preserved
loop-k-preserved c =
    let f = c.args.f.now in
    let h : c.loop-k.k < length c.args.processes.now = omega arith in
    let below : c.loop-k.k < length f.marks.items = subst (λ (ms : List (List Mark)). c.loop-k.k < length ms) c.deref.ensures.value c.in-Some.ensures.lookup.3.0 in
    let is : c.in-Some.marks.now ≡ get_or f.marks.items c.loop-k.k c.in-Some.marks.now = c.in-Some.ensures.lookup.1 ∙ ap (λ (ms : List (List Mark)). get_or ms c.loop-k.k c.in-Some.marks.now) c.deref.ensures.value in
    along_next (λ q. clock_used (has_flag c.args.clocks.now) (process_of q)) c.args.processes.now (seen_all f) c.loop-k.k c.index-processes-k.result (seen_in f c.in-Some.marks.now) _ h
    (seen_below f c.loop-k.k below) c.index-processes-k.is (seen_at f c.loop-k.k c.in-Some.marks.now is)
    (ap (λ ms. clock_used (has_flag c.args.clocks.now) (process_of c.index-processes-k.result) (seen_in f ms)) (sym c.as_slice.ensures.elements) ∙ sym c.in_ok-found.ensures.found ∙ c.in-None.is)
    c.loop-k.invariant
