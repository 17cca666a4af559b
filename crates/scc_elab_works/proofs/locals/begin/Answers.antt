use Rattle.std.proofs.Common.{map, ap, sym, ◌∙◌, slice_get, OnOk, subst, option_map}
use Rattle.std.proofs.lemmas.Option.{slice_get-map}
use Rattle.scc_elab_grown.specs.Grown.{grown_of}
use Rattle.scc_elab_statements.specs.Frames.{site_in}
use Rattle.scc_elab_works.specs.Paths.{begun, paths_of}
use Rattle.scc_plain_view.specs.Plains.{member_of}
use Rattle.scc_elab_works.proofs.Clearing.{begun_is}
use Rattle.scc_elab_works.proofs.locals.begin.Goals as goal

pub returns : goal.returns
returns c = begun_is c.clear_all.result (site_in c.args.f.now (grown_of c.args.g.now)) c.args.local _ c.args.f.now.function.now.locals c.in-Some.m.now c.as_slice.result.now (paths_of c.in_ok-paths.paths.items) (paths_of c.as_slice-2.result.now) c.is_direct.result (grown_of c.args.g.now) (grown_of c.clear_all.new.g) (slice_get-map member_of c.args.f.now.function.now.locals c.args.local) (sym c.in-Some.ensures.element) c.as_slice.ensures.elements c.in_ok-paths.ensures (ap paths_of c.as_slice-2.ensures.value) c.is_direct.ensures c.clear_all.ensures
