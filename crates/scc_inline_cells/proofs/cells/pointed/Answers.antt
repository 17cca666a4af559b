use Rattle.std.proofs.Common.{◌∙◌, ap, sym, Some, None, option_map}
use Rattle.scc_elab_spec.specs.Cells.{path_of as path_in}
use Rattle.scc_plain_view.specs.Designs.{design_of, path_of}
use Rattle.scc_inline_cells.proofs.Listing.{target_some, target_none}
use Rattle.scc_inline_cells.proofs.Views.{path_is}
use Rattle.scc_inline_cells.proofs.cells.pointed.Goals as goal

pub returns-in_ok-of-in-Some-get : goal.returns-in_ok-of-in-Some-get
returns-in_ok-of-in-Some-get c = λ k. ap Some (path_is c.in_ok-of-in-Some-get.field-0 ∙ ap path_of (c.in_ok-of-in-Some-get.ensures.parts ∙ c.as_slice.ensures.parts))
    ∙ sym (target_some c.args.s.now.design.now c.args.number c.in-Some.k.now c.in-Some-get.target.now c.args.to (sym (k.targets c.args.number) ∙ sym c.in-Some.ensures.value) (sym c.in-Some-get.ensures.element))

pub returns-in_ok-path_at-in-Some-to : goal.returns-in_ok-path_at-in-Some-to
returns-in_ok-path_at-in-Some-to c = λ k. ap Some c.in_ok-path_at-in-Some-to.ensures
    ∙ sym (target_none c.args.s.now.design.now c.args.number c.args.to (sym (k.targets c.args.number) ∙ sym c.in-None.ensures.value) ∙ ap (option_map (path_in (design_of c.args.s.now.design.now))) c.in-Some-to.is)

pub returns-in-None-to : goal.returns-in-None-to
returns-in-None-to c = λ k. sym (target_none c.args.s.now.design.now c.args.number c.args.to (sym (k.targets c.args.number) ∙ sym c.in-None.ensures.value) ∙ ap (option_map (path_in (design_of c.args.s.now.design.now))) c.in-None-to.is)
