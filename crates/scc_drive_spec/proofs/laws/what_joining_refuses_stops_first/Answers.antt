use Rattle.scc_tokens_directives.specs.Steps as join
use Rattle.scc_drive_spec.specs.Comes.{in_joining}
use Rattle.scc_drive_spec.proofs.laws.what_joining_refuses_stops_first.Goals as goal

pub returns-clause-refused : goal.returns-clause-refused
returns-clause-refused c q shelf names sources code place d = in_joining names sources (join.Refuses code place) d

pub returns-clause-absent : goal.returns-clause-absent
returns-clause-absent c q shelf names sources name d = in_joining names sources (join.Absent name) d
