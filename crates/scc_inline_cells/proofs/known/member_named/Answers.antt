use Rattle.std.proofs.Common.{◌∙◌, ap, sym, Some, None, nat_eq, option_map, option_and_then}
use Rattle.indexmap.specs.IndexMap.{get}
use Rattle.scc_elab_spec.specs.Cells.{member_named as member_with}
use Rattle.scc_plain_view.specs.Designs.{part_of}
use Rattle.scc_plain_view.specs.Plains.{plain_of}
use Rattle.scc_inline_cells.specs.Known.{of_class}
use Rattle.scc_inline_cells.proofs.Knowing.{looked_up}
use Rattle.scc_inline_cells.proofs.known.member_named.Goals as goal

pub returns-in-Some-get : goal.returns-in-Some-get
returns-in-Some-get c = λ k. ap (option_map (of_class c.args.class)) (c.in-Some-get.ensures.value ∙ ap (option_and_then (λ t. get nat_eq t c.in-Member.name.0)) c.in-Some.ensures.element
    ∙ looked_up c.args.s.now.known.now c.args.s.now.plain.now c.args.s.now.design.now c.args.class c.in-Member.name.0 k ∙ ap (λ p. member_with (plain_of c.args.s.now.plain.now) c.args.class (part_of p)) (sym c.in-Member.is))

pub returns-in-None-get : goal.returns-in-None-get
returns-in-None-get c = λ k. ap (option_map (of_class c.args.class)) (c.in-None-get.ensures.value ∙ ap (option_and_then (λ t. get nat_eq t c.in-Member.name.0)) c.in-Some.ensures.element
    ∙ looked_up c.args.s.now.known.now c.args.s.now.plain.now c.args.s.now.design.now c.args.class c.in-Member.name.0 k ∙ ap (λ p. member_with (plain_of c.args.s.now.plain.now) c.args.class (part_of p)) (sym c.in-Member.is))

pub returns-in-None : goal.returns-in-None
returns-in-None c = λ k. ap (option_map (of_class c.args.class)) (ap (option_and_then (λ t. get nat_eq t c.in-Member.name.0)) c.in-None.ensures.element
    ∙ looked_up c.args.s.now.known.now c.args.s.now.plain.now c.args.s.now.design.now c.args.class c.in-Member.name.0 k ∙ ap (λ p. member_with (plain_of c.args.s.now.plain.now) c.args.class (part_of p)) (sym c.in-Member.is))
