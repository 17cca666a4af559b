use Rattle.scc_elab_spec.specs.Term.{Binary}
use Rattle.scc_plain_view.specs.Terms.{term_of}
use Rattle.scc_plain_spec.specs.Drafts as spec
use Rattle.scc_plain_spec.specs.Numbers.{answered}
use Rattle.scc_plain_drafts.proofs.Known.{as_known}
use Rattle.scc_plain_drafts.proofs.draft.operated.Goals as goal

pub returns : goal.returns
returns c = λ s t is.
    let h = c.in_ok-known.ensures.is c.args.a.expr.kind c.args.b.expr.kind c.args.kind s.number t.number is in
    as_known c.binary.result (Binary c.args.place c.args.kind c.args.op (term_of c.args.a.expr) (term_of c.args.b.expr)) c.args.place c.in_ok-known.known (spec.both_known c.args.a.known c.args.b.known (answered c.args.op c.args.kind)) h.0 (c.binary.ensures h.1)
