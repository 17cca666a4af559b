use Rattle.std.proofs.Common.{Some, None}
use Rattle.scc_elab_spec.specs.Cells.{parent}
use Rattle.scc_plain_view.specs.Designs.{design_of, path_of}
use Rattle.scc_inline_cells.proofs.Knowing.{home_is, top_some, top_none}
use Rattle.scc_inline_cells.proofs.known.is_below.Goals as goal

pub returns-in-Some : goal.returns-in-Some
returns-in-Some c = λ k. top_some (parent (design_of c.args.s.now.design.now) (path_of c.args.path.now)) c.in-Some.home
    (home_is c.args.s.now.known.now c.args.s.now.plain.now c.args.s.now.design.now c.args.path.now (Some c.in-Some.home) k (c.in-Some.ensures c.args.s.now.design.now.objects k.homes))

pub returns-in-None : goal.returns-in-None
returns-in-None c = λ k. top_none (parent (design_of c.args.s.now.design.now) (path_of c.args.path.now))
    (home_is c.args.s.now.known.now c.args.s.now.plain.now c.args.s.now.design.now c.args.path.now None k (c.in-None.ensures c.args.s.now.design.now.objects k.homes))
