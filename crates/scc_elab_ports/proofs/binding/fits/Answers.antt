use Rattle.std.proofs.Common.{option_map}
use Rattle.scc_elab_spec.specs.Binding.{home, path_of}
use Rattle.scc_elab_store.specs.Locations.{location_of}
use Rattle.scc_elab_grown.specs.Grown.{grown_of}
use Rattle.scc_elab_ports.proofs.Around.{fits_is}
use Rattle.scc_elab_ports.proofs.binding.fits.Goals as goal

pub returns : goal.returns
returns c = fits_is (grown_of c.args.g.now) c.args.to c.args.kind c.args.output (option_map location_of c.in_ok-at.at) (home (grown_of c.args.g.now) (path_of (grown_of c.args.g.now) c.args.port)) c.is_top-top.result c.in_ok-may.may c.both.result
    c.in_ok-at.ensures c.is_top-top.ensures c.in_ok-may.ensures c.both.ensures
