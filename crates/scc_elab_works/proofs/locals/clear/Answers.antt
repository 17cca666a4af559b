use Rattle.std.proofs.Common.{map, ap, sym, ◌∙◌, ◌&&◌, cond, if◌then◌else◌, None}
use Rattle.scc_elab_grown.specs.Grown.{grown_of}
use Rattle.scc_elab_spec.specs.Grown.{local_of, with_word, with_target}
use Rattle.scc_elab_store.specs.Locations.{part_of}
use Rattle.scc_elab_works.proofs.Clearing.{cleared_already}
use Rattle.scc_elab_works.proofs.locals.clear.Goals as goal

pub returns-then-word-eq0 : goal.returns-then-word-eq0
returns-then-word-eq0 c = cleared_already (grown_of c.args.g.now) _ c.args.direct c.args.of.object c.args.of.local (map part_of c.args.path.now) c.word.result c.if-direct.true c.in_ok-at.ensures c.word.ensures c.if-word-eq0.true
