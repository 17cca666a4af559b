use Rattle.std.proofs.Common.{◌∙◌, ◌++◌, ◌∷◌, [], ap, sym, None}
use Rattle.scc_base.specs.declared.path.PathPart.TheVariants as path_part
use Rattle.scc_inline.proofs.Titled.{name_is}
use Rattle.scc_inline.proofs.heading.name_of.Goals as goal

pub returns : goal.returns
returns c = λ i. record {
  path = name_is c.args.p.now c.args.d.now c.args.process.now c.in-Some.function.now c.in-Some-get.object.now c.push.new.self (sym c.in-Some.ensures.element) (sym c.in-Some-get.ensures.element)
      (c.in_ok-push.ensures.ok ∙ ap (λ z. z ++ path_part.Member c.in-Some.function.now.name ∷ []) (c.in_ok-path.ensures.parts ∙ c.as_slice.ensures.parts)) i;
  own = None;
  indices = c.new.ensures.empty i;
}
