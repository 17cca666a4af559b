-- The site of the definitions at which a statement of a constructor stands. This project's own.
use Rattle.std.specs.Prelude.{map}
use Rattle.scc_elab_store.specs.Locations.{part_of}
use Rattle.scc_elab_spec.specs.Grown.{Grown}
use Rattle.scc_elab_spec.specs.Worth.{Site}
use Rattle.scc_elab_worth.specs.Spots.{Around}
use Rattle.scc_plain_view.specs.Plains.{plain_of, function_of}
use Rattle.scc_elab_statements.specs.declared.frame.Frame.{Frame}

abbrev pub site_in : Frame → Grown → Site
site_in f g = record { plain = plain_of f.plain.now; function = function_of f.function.now; object = f.object; path = map part_of f.path.now; now = g }

abbrev pub around_in : Frame → Grown → Around
around_in f g = record { plain = f.plain.now; function = f.function.now; object = f.object; path = map part_of f.path.now; store = g.store }
