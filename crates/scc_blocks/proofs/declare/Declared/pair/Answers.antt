use Rattle.std.proofs.Common.{ap, subst, ◌∙◌, ◌++◌, codes, true}
use Rattle.scc_blocks.specs.Declaring.{HasIf, own_name, want}
use Rattle.scc_blocks.proofs.Declaring.{any_then, has_more, pair_of}
use Rattle.scc_blocks.proofs.declare.Declared.pair.Goals as goal

pub returns-clause-adds : goal.returns-clause-adds
returns-clause-adds c = any_then c.args.self.now c.inner.new.self c.inner-2.new.self c.in_ok-now.ensures.adds c.in_ok-next.ensures.adds

pub returns-clause-pair : goal.returns-clause-pair
returns-clause-pair c =
    let name = own_name c.args.names.now c.args.process.now c.args.end.now in
    let width = c.args.width in
    pair_of c.inner-2.new.self.vars name width (record { now = c.in_ok-now.now; next = c.in_ok-next.next }) c.if-width-eq0.false
    (has_more true c.inner.new.self c.inner-2.new.self (want name width) c.in_ok-now.now c.in_ok-next.ensures.adds
    (subst (λ t. HasIf true c.inner.new.self.vars (want t width) c.in_ok-now.now) c.in_ok-name.ensures c.in_ok-now.ensures.number))
    (subst (λ t. HasIf true c.inner-2.new.self.vars (want t width) c.in_ok-next.next) (c.in_ok-push_bytes.ensures.ok ∙ ap (λ t. t ++ codes "$$n") c.in_ok-name-2.ensures) c.in_ok-next.ensures.number)
