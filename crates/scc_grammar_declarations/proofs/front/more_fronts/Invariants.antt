use Rattle.std.proofs.Common.{◌≡◌, length}
use Rattle.scc_grammar_terminals.specs.Answer.{onto}
use Rattle.scc_grammar_spec.specs.ParseItems as p
use Rattle.scc_grammar_terminals.specs.Text.{next_says}
use Rattle.scc_reading.specs.Reading.{repeat}
use Rattle.scc_grammar_declarations.proofs.front.more_fronts.Given as goal

abbrev pub invariant-loop-rest : goal.invariant-loop-rest
invariant-loop-rest l = onto l.found (repeat (next_says p.front) p.one_front) l.rest ≡ onto l.fn.found (repeat (next_says p.front) p.one_front) l.fn.ts

abbrev pub decreases-loop-rest : goal.decreases-loop-rest
decreases-loop-rest l = length l.rest
