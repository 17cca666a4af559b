use Rattle.std.proofs.Common.{ap}
use Rattle.std.proofs.lemmas.Result.{IfOk-weaker}
use Rattle.scc_elab_spec.specs.Term.{kind_of, place_of}
use Rattle.scc_plain_drafts.proofs.Terms.{binary_term}
use Rattle.scc_plain_drafts.proofs.draft.binary.Goals as goal

pub returns : goal.returns
returns c = λ k.
    let e = binary_term c.args.place c.args.of.kind c.args.op c.args.a c.args.b in
    IfOk-weaker c.made.result _ _ (λ x h. rw h (record { draft = ap (λ t. record { term = t; known = c.args.of.known; place = c.args.place }) e; sound = record { kind = ap kind_of e; place = ap place_of e; number = k } })) c.made.ensures
