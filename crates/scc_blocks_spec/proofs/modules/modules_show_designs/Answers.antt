use Rattle.scc_blocks_spec.specs.Matches.{block_views, process_views}
use Rattle.scc_blocks_spec.proofs.Edges.{stands_in}
use Rattle.scc_blocks_spec.proofs.modules.modules_show_designs.Goals as goal

pub returns-clause-edges : goal.returns-clause-edges
returns-clause-edges c text own kept d m top k e p h = stands_in (process_views text d) (block_views m) k e p.edges h
