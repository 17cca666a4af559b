use Rattle.std.proofs.Common.{◌≡◌, drop}
use Rattle.std.specs.List.{list_all}
use Rattle.scc_plain_look.specs.Whole.{is_whole_body}
use Rattle.scc_plain_look.proofs.whole.look_bodies.Given as goal

abbrev pub invariant-loop-f : goal.invariant-loop-f
invariant-loop-f l = list_all (is_whole_body l.p) (drop l.f-index l.list) ≡ list_all (is_whole_body l.p) l.list
