use Rattle.std.proofs.Common.{◌≡◌, map, drop}
use Rattle.scc_elab_spec.specs.Binding.{items_of}
use Rattle.scc_elab_grown.specs.Grown.{grown_of}
use Rattle.scc_elab_grown.specs.Records.{item_of}
use Rattle.scc_elab_statements.specs.Frames.{site_in}
use Rattle.scc_plain_view.specs.Codes.{sense_of}
use Rattle.scc_elab_statements.proofs.Items.{put_all}
use Rattle.scc_elab_statements.proofs.processes.items.Given as goal

abbrev pub invariant-loop-sense : goal.invariant-loop-sense
invariant-loop-sense l = let s = site_in l.f (grown_of l.g) in put_all (map item_of l.items.items) (items_of s (map sense_of (drop l.sense-index l.list))) ≡ items_of s (map sense_of l.list)
