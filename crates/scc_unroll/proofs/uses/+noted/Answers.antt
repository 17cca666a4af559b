use Rattle.std.proofs.Common.{sym, ap, ◌∙◌, arith, ◌+◌, ◌<◌, length, drop, map, [], ◌∷◌}
use Rattle.std.proofs.lemmas.List.{drop_all}
use Rattle.scc_core_spec.specs.Counted.{uses}
use Rattle.scc_core_view.specs.Codes.{code_of}
use Rattle.scc_core_view.specs.Programs.{cell_of}
use Rattle.scc_unroll.specs.Used.{used}
use Rattle.scc_unroll_laws.proofs.Heads.{uses_here}
use Rattle.scc_unroll_laws.proofs.Sums.{use_step, nothing_left}
use Rattle.scc_unroll.proofs.uses.+noted.Goals as goal

pub note_all-loop-s-preserved : goal.note_all-loop-s-preserved
note_all-loop-s-preserved t c = λ o.
    let i : c.loop-s.s-index < length c.args.body.now = omega arith in
    let cs = map cell_of c.args.cells.now in
    use_step (used c.loop-s.uses o) (used c.note.new.uses o) (uses cs o (code_of (c.s-item.result ∷ []))) (uses cs o (code_of (drop (c.loop-s.s-index + 1) c.args.body.now))) (uses cs o (code_of (drop c.loop-s.s-index c.args.body.now))) _
    (c.in_ok-note.ensures o) (uses_here c.args.body.now c.loop-s.s-index c.s-item.result i c.s-item.is cs o) (c.loop-s.invariant o)

pub note_all-returns : goal.note_all-returns
note_all-returns t c = λ o.
    let none = drop_all c.loop-s.s-index c.args.body.now (omega arith) in
    nothing_left (used c.loop-s.uses o) _ (ap (λ ss. used c.loop-s.uses o + uses (map cell_of c.args.cells.now) o (code_of ss)) (sym none) ∙ c.loop-s.invariant o)
