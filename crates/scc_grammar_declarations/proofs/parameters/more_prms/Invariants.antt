use Rattle.std.proofs.Common.{◌≡◌, length}
use Rattle.scc_grammar_terminals.specs.Answer.{onto}
use Rattle.scc_grammar_terminals.specs.Marks as m
use Rattle.scc_grammar_spec.specs.ParseItems as p
use Rattle.scc_grammar_terminals.specs.Text.{next_is}
use Rattle.scc_reading.specs.Reading.{repeat}
use Rattle.scc_grammar_declarations.proofs.parameters.more_prms.Given as goal

abbrev pub invariant-loop-c : goal.invariant-loop-c
invariant-loop-c l = onto l.found (repeat (next_is m.comma) (p.one_prm l.c.levels l.c.names.now)) l.rest ≡ onto l.fn.found (repeat (next_is m.comma) (p.one_prm l.c.levels l.c.names.now)) l.fn.ts

abbrev pub decreases-loop-c : goal.decreases-loop-c
decreases-loop-c l = length l.rest
