use Rattle.std.proofs.Common.{◌∙◌, option_map}
use Rattle.scc_elab_spec.specs.Term.{Unary}
use Rattle.scc_plain_view.specs.Terms.{term_of}
use Rattle.scc_plain_spec.specs.Numbers.{answered}
use Rattle.scc_plain_drafts.proofs.Known.{as_known, once}
use Rattle.scc_plain_drafts.proofs.draft.operated_one.Goals as goal

pub returns : goal.returns
returns c = λ s is.
    let h = c.in_ok-known.ensures.is c.args.a.expr.kind c.args.a.expr.kind c.args.kind s.number s.number is in
    as_known c.unary.result (Unary c.args.place c.args.kind c.args.op (term_of c.args.a.expr)) c.args.place c.in_ok-known.known (option_map (λ n. answered c.args.op c.args.kind n n) c.args.a.known)
    (h.0 ∙ once c.args.a.known c.args.kind c.args.op) (c.unary.ensures h.1)
