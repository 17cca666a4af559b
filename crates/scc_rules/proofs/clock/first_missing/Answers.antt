use Rattle.std.proofs.Common.{◌≡◌, ◌<◌, arith, sym, ap, ◌∙◌, subst, length, get_or, List, Some, None}
use Rattle.scc_core_flow.specs.declared.marks.Mark.{Mark}
use Rattle.scc_core_view.specs.Programs.{process_of}
use Rattle.scc_rules_walks.specs.Cells.{has_flag}
use Rattle.scc_rules.specs.Marks.{seen_in, seen_all, unlisted_by}
use Rattle.scc_rules.proofs.Clocks.{seen_at, seen_below}
use Rattle.scc_rules.proofs.Firsts.{along_found, along_next}
use Rattle.scc_rules.proofs.clock.first_missing.Goals as goal

pub returns-in-Some-found-clause-first : goal.returns-in-Some-found-clause-first
returns-in-Some-found-clause-first c = λ s.
    let f = c.args.f.now in
    let inv = c.loop-k.invariant s in
    let h : c.loop-k.k < length c.args.processes.now = omega arith in
    let below : c.loop-k.k < length f.marks.items = subst (λ (ms : List (List Mark)). c.loop-k.k < length ms) c.deref.ensures.value c.in-Some.ensures.lookup.3.0 in
    let is : c.in-Some.marks.now ≡ get_or f.marks.items c.loop-k.k c.in-Some.marks.now = c.in-Some.ensures.lookup.1 ∙ ap (λ (ms : List (List Mark)). get_or ms c.loop-k.k c.in-Some.marks.now) c.deref.ensures.value in
    along_found (λ q. unlisted_by (has_flag c.args.roots.now) (process_of q)) c.args.processes.now (seen_all f) c.loop-k.k c.index-processes-k.result (seen_in f c.in-Some.marks.now) c.in-Some-found.found _ h
    (seen_below f c.loop-k.k below) c.index-processes-k.is (seen_at f c.loop-k.k c.in-Some.marks.now is)
    (ap (λ ms. unlisted_by (has_flag c.args.roots.now) (process_of c.index-processes-k.result) (seen_in f ms)) (sym c.as_slice.ensures.elements) ∙ sym (c.in_ok-found.ensures.found inv.0) ∙ c.in-Some-found.is)
    inv.1

pub loop-k-preserved : goal.loop-k-preserved
loop-k-preserved c = λ s.
    let f = c.args.f.now in
    let inv = c.loop-k.invariant s in
    let h : c.loop-k.k < length c.args.processes.now = omega arith in
    let below : c.loop-k.k < length f.marks.items = subst (λ (ms : List (List Mark)). c.loop-k.k < length ms) c.deref.ensures.value c.in-Some.ensures.lookup.3.0 in
    let is : c.in-Some.marks.now ≡ get_or f.marks.items c.loop-k.k c.in-Some.marks.now = c.in-Some.ensures.lookup.1 ∙ ap (λ (ms : List (List Mark)). get_or ms c.loop-k.k c.in-Some.marks.now) c.deref.ensures.value in (
      c.in_ok-found.ensures.same inv.0,
      along_next (λ q. unlisted_by (has_flag c.args.roots.now) (process_of q)) c.args.processes.now (seen_all f) c.loop-k.k c.index-processes-k.result (seen_in f c.in-Some.marks.now) _ h
          (seen_below f c.loop-k.k below) c.index-processes-k.is (seen_at f c.loop-k.k c.in-Some.marks.now is)
          (ap (λ ms. unlisted_by (has_flag c.args.roots.now) (process_of c.index-processes-k.result) (seen_in f ms)) (sym c.as_slice.ensures.elements) ∙ sym (c.in_ok-found.ensures.found inv.0) ∙ c.in-None.is)
          inv.1,
    )
