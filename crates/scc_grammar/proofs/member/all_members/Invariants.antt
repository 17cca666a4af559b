use Rattle.std.proofs.Common.{◌≡◌, length}
use Rattle.scc_grammar_spec.specs.Bodies.{body_of}
use Rattle.scc_grammar_spec.specs.ParseFile.{is_member}
use Rattle.scc_grammar_spec.specs.ParseFile as p
use Rattle.scc_reading.specs.Reading.{repeat_on}
use Rattle.scc_grammar.proofs.member.all_members.Given as goal

abbrev pub invariant-loop-alloc : goal.invariant-loop-alloc
invariant-loop-alloc l = repeat_on is_member (p.member l.levels) (body_of l.names l.found.items l.found.fields) l.rest ≡ repeat_on is_member (p.member l.levels) (body_of l.fn.names l.fn.found.items l.fn.found.fields) l.fn.ts

abbrev pub decreases-loop-alloc : goal.decreases-loop-alloc
decreases-loop-alloc l = length l.rest
