use Rattle.std.proofs.Common.{◌∙◌, ap, sym, Some, None, option_map, option_and_then}
use Rattle.scc_elab_spec.specs.Cells.{member_named as member_with}
use Rattle.scc_plain_view.specs.Designs.{design_of, part_of}
use Rattle.scc_plain_view.specs.Plains.{plain_of}
use Rattle.scc_inline_cells.specs.Known.{of_class}
use Rattle.scc_inline_cells.proofs.Knowing.{home_is, round_some, round_none}
use Rattle.scc_inline_cells.proofs.known.member_at.Goals as goal

pub returns-in-Some-part_at : goal.returns-in-Some-part_at
returns-in-Some-part_at c = λ k. c.member_named.ensures k
    ∙ ap (λ o. option_and_then (λ part. option_map (of_class c.in-Some.home.class) (member_with (plain_of c.args.s.now.plain.now) c.in-Some.home.class part)) (option_map part_of o)) c.in-Some-part_at.ensures
    ∙ sym (round_some (plain_of c.args.s.now.plain.now) (design_of c.args.s.now.design.now) c.args.path.now c.in-Some.home
    (home_is c.args.s.now.known.now c.args.s.now.plain.now c.args.s.now.design.now c.args.path.now (Some c.in-Some.home) k (c.in-Some.ensures c.args.s.now.design.now.objects k.homes)))

pub returns-in-None-part_at : goal.returns-in-None-part_at
returns-in-None-part_at c = λ k.
    ap (λ o. option_and_then (λ part. option_map (of_class c.in-Some.home.class) (member_with (plain_of c.args.s.now.plain.now) c.in-Some.home.class part)) (option_map part_of o)) c.in-None-part_at.ensures
    ∙ sym (round_some (plain_of c.args.s.now.plain.now) (design_of c.args.s.now.design.now) c.args.path.now c.in-Some.home
    (home_is c.args.s.now.known.now c.args.s.now.plain.now c.args.s.now.design.now c.args.path.now (Some c.in-Some.home) k (c.in-Some.ensures c.args.s.now.design.now.objects k.homes)))

pub returns-in-None : goal.returns-in-None
returns-in-None c = λ k. sym (round_none (plain_of c.args.s.now.plain.now) (design_of c.args.s.now.design.now) c.args.path.now
    (home_is c.args.s.now.known.now c.args.s.now.plain.now c.args.s.now.design.now c.args.path.now None k (c.in-None.ensures c.args.s.now.design.now.objects k.homes)))
