use Rattle.std.proofs.Common.{◌≡◌, length}
use Rattle.scc_grammar_terminals.specs.Answer.{onto_in}
use Rattle.scc_grammar_spec.specs.ParseFile as p
use Rattle.scc_grammar_spec.specs.ParseItems as i
use Rattle.scc_reading.specs.Reading.{repeat_in}
use Rattle.scc_grammar_declarations.proofs.template.more_params.Given as goal

abbrev pub invariant-loop-alloc : goal.invariant-loop-alloc
invariant-loop-alloc l = onto_in l.found (repeat_in (p.next_param l.levels) (p.one_param l.levels) (i.params_by l.names l.closed)) l.rest ≡ onto_in l.fn.found (repeat_in (p.next_param l.levels) (p.one_param l.levels) (i.params_by l.fn.names l.fn.closed)) l.fn.ts

abbrev pub decreases-loop-alloc : goal.decreases-loop-alloc
decreases-loop-alloc l = length l.rest
