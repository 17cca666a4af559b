use Rattle.std.proofs.Common.{◌≡◌, ◌+◌, ◌*◌, length}
use Rattle.scc_grammar_terminals.specs.Answer.{onto, onto_in}
use Rattle.scc_grammar_terminals.specs.Operators.{operator}
use Rattle.scc_grammar_spec.specs.ParseExpressions as e
use Rattle.scc_grammar_spec.specs.ParseStatements.{inner}
use Rattle.scc_grammar_terminals.specs.Text.{next_says}
use Rattle.scc_reading.specs.Reading.{repeat, repeat_in}
use Rattle.scc_grammar_expressions.proofs.+expression.Given as goal

abbrev pub decreases-opening::open_expr : goal.decreases-opening::open_expr
decreases-opening::open_expr l = 64 * l.c.levels + 0

abbrev pub decreases-opening::open_additive : goal.decreases-opening::open_additive
decreases-opening::open_additive l = 64 * l.c.levels + 0

abbrev pub decreases-opening::open_type : goal.decreases-opening::open_type
decreases-opening::open_type l = 64 * l.c.levels + 0

abbrev pub decreases-opening::open_ty_arg : goal.decreases-opening::open_ty_arg
decreases-opening::open_ty_arg l = 64 * l.c.levels + 0

abbrev pub decreases-opening::open_bracketed : goal.decreases-opening::open_bracketed
decreases-opening::open_bracketed l = 64 * l.c.levels + 0

abbrev pub decreases-opening::open_unary : goal.decreases-opening::open_unary
decreases-opening::open_unary l = 64 * l.c.levels + 0

abbrev pub decreases-opening::open_argument : goal.decreases-opening::open_argument
decreases-opening::open_argument l = 64 * l.c.levels + 0

abbrev pub decreases-types::one_ty_arg : goal.decreases-types::one_ty_arg
decreases-types::one_ty_arg l = 64 * l.c.levels + 1

abbrev pub decreases-types::more_ty_args : goal.decreases-types::more_ty_args
decreases-types::more_ty_args l = 64 * l.c.levels + 2

abbrev pub decreases-types::ty_args : goal.decreases-types::ty_args
decreases-types::ty_args l = 64 * l.c.levels + 3

abbrev pub decreases-types::named_by : goal.decreases-types::named_by
decreases-types::named_by l = 64 * l.c.levels + 4

abbrev pub decreases-types::sized_rest : goal.decreases-types::sized_rest
decreases-types::sized_rest l = 64 * l.c.levels + 1

abbrev pub decreases-types::holder_rest : goal.decreases-types::holder_rest
decreases-types::holder_rest l = 64 * l.c.levels + 1

abbrev pub decreases-types::base_at : goal.decreases-types::base_at
decreases-types::base_at l = 64 * l.c.levels + 5

abbrev pub decreases-types::type_at : goal.decreases-types::type_at
decreases-types::type_at l = 64 * l.c.levels + 6

abbrev pub decreases-types::after_arg_type : goal.decreases-types::after_arg_type
decreases-types::after_arg_type l = 64 * l.c.levels + 43

abbrev pub decreases-types::ty_arg : goal.decreases-types::ty_arg
decreases-types::ty_arg l = 64 * l.c.levels + 44

abbrev pub decreases-primary::make : goal.decreases-primary::make
decreases-primary::make l = 64 * l.c.levels + 1

abbrev pub decreases-primary::after_base : goal.decreases-primary::after_base
decreases-primary::after_base l = 64 * l.c.levels + 2

abbrev pub decreases-primary::cast_rest : goal.decreases-primary::cast_rest
decreases-primary::cast_rest l = 64 * l.c.levels + 2

abbrev pub decreases-primary::concat_rest : goal.decreases-primary::concat_rest
decreases-primary::concat_rest l = 64 * l.c.levels + 1

abbrev pub decreases-primary::plain : goal.decreases-primary::plain
decreases-primary::plain l = 64 * l.c.levels + 3

abbrev pub decreases-primary::primary : goal.decreases-primary::primary
decreases-primary::primary l = 64 * l.c.levels + 6

abbrev pub decreases-postfix::one_expr : goal.decreases-postfix::one_expr
decreases-postfix::one_expr l = 64 * l.c.levels + 1

abbrev pub decreases-postfix::more_exprs : goal.decreases-postfix::more_exprs
decreases-postfix::more_exprs l = 64 * l.c.levels + 2

abbrev pub decreases-postfix::carg : goal.decreases-postfix::carg
decreases-postfix::carg l = 64 * l.c.levels + 1

abbrev pub decreases-postfix::one_carg : goal.decreases-postfix::one_carg
decreases-postfix::one_carg l = 64 * l.c.levels + 2

abbrev pub decreases-postfix::more_cargs : goal.decreases-postfix::more_cargs
decreases-postfix::more_cargs l = 64 * l.c.levels + 3

abbrev pub decreases-postfix::cargs : goal.decreases-postfix::cargs
decreases-postfix::cargs l = 64 * l.c.levels + 4

abbrev pub decreases-postfix::part : goal.decreases-postfix::part
decreases-postfix::part l = 64 * l.c.levels + 5

abbrev pub decreases-postfix::parts : goal.decreases-postfix::parts
decreases-postfix::parts l = 64 * l.c.levels + 6

abbrev pub decreases-postfix::postfix_after : goal.decreases-postfix::postfix_after
decreases-postfix::postfix_after l = 64 * l.c.levels + 7

abbrev pub decreases-postfix::after_brackets : goal.decreases-postfix::after_brackets
decreases-postfix::after_brackets l = 64 * l.c.levels + 3

abbrev pub decreases-postfix::after_open : goal.decreases-postfix::after_open
decreases-postfix::after_open l = 64 * l.c.levels + 8

abbrev pub decreases-chain::unary : goal.decreases-chain::unary
decreases-chain::unary l = 64 * l.c.levels + 9

abbrev pub decreases-chain::operand : goal.decreases-chain::operand
decreases-chain::operand l = 64 * l.c.levels + 10

abbrev pub decreases-chain::choice_after : goal.decreases-chain::choice_after
decreases-chain::choice_after l = 64 * l.c.levels + 2

abbrev pub decreases-chain::choice_last : goal.decreases-chain::choice_last
decreases-chain::choice_last l = 64 * l.c.levels + 1

abbrev pub decreases-chain::expr_after : goal.decreases-chain::expr_after
decreases-chain::expr_after l = 64 * l.c.levels + 41

abbrev pub decreases-chain::expr : goal.decreases-chain::expr
decreases-chain::expr l = 64 * l.c.levels + 42

abbrev pub decreases-chain::additive : goal.decreases-chain::additive
decreases-chain::additive l = 64 * l.c.levels + 42

abbrev pub decreases-chain::postfix_of : goal.decreases-chain::postfix_of
decreases-chain::postfix_of l = 64 * l.c.levels + 8

abbrev pub decreases-chain::after_bracket_type : goal.decreases-chain::after_bracket_type
decreases-chain::after_bracket_type l = 64 * l.c.levels + 43

abbrev pub decreases-chain::bracketed : goal.decreases-chain::bracketed
decreases-chain::bracketed l = 64 * l.c.levels + 44

abbrev pub decreases-chain::new_at : goal.decreases-chain::new_at
decreases-chain::new_at l = 64 * l.c.levels + 6

abbrev pub decreases-chain::argument : goal.decreases-chain::argument
decreases-chain::argument l = 64 * l.c.levels + 43

abbrev pub decreases-chain::chain_after : goal.decreases-chain::chain_after
decreases-chain::chain_after l = 64 * l.c.levels + (10 + 3 * l.k)

abbrev pub decreases-chain::link : goal.decreases-chain::link
decreases-chain::link l = 64 * l.c.levels + (11 + 3 * l.k)

abbrev pub decreases-chain::links : goal.decreases-chain::links
decreases-chain::links l = 64 * l.c.levels + (12 + 3 * l.k)

abbrev pub invariant-chain::links-loop-c : goal.invariant-chain::links-loop-c
invariant-chain::links-loop-c l = onto l.found (repeat (next_says (operator l.k)) (e.link_of l.c.names.now (inner l.c.names.now l.c.levels) l.k)) l.rest ≡ repeat (next_says (operator l.k)) (e.link_of l.c.names.now (inner l.c.names.now l.c.levels) l.k) l.fn.ts

abbrev pub decreases-chain::links-loop-c : goal.decreases-chain::links-loop-c
decreases-chain::links-loop-c l = length l.rest

abbrev pub invariant-postfix::more_exprs-loop-c : goal.invariant-postfix::more_exprs-loop-c
invariant-postfix::more_exprs-loop-c l = onto l.found (e.more_exprs l.c.names.now (inner l.c.names.now l.c.levels)) l.rest ≡ onto l.fn.found (e.more_exprs l.c.names.now (inner l.c.names.now l.c.levels)) l.fn.ts

abbrev pub decreases-postfix::more_exprs-loop-c : goal.decreases-postfix::more_exprs-loop-c
decreases-postfix::more_exprs-loop-c l = length l.rest

abbrev pub invariant-postfix::more_cargs-loop-c : goal.invariant-postfix::more_cargs-loop-c
invariant-postfix::more_cargs-loop-c l = onto l.found (e.more_cargs l.c.names.now (inner l.c.names.now l.c.levels)) l.rest ≡ onto l.fn.found (e.more_cargs l.c.names.now (inner l.c.names.now l.c.levels)) l.fn.ts

abbrev pub decreases-postfix::more_cargs-loop-c : goal.decreases-postfix::more_cargs-loop-c
decreases-postfix::more_cargs-loop-c l = length l.rest

abbrev pub invariant-postfix::parts-loop-c : goal.invariant-postfix::parts-loop-c
invariant-postfix::parts-loop-c l = onto_in l.found (repeat_in (e.next_part l.c.names.now (inner l.c.names.now l.c.levels)) (e.one_part l.c.names.now (inner l.c.names.now l.c.levels)) l.called) l.rest ≡ e.parts l.c.names.now (inner l.c.names.now l.c.levels) l.fn.ts

abbrev pub decreases-postfix::parts-loop-c : goal.decreases-postfix::parts-loop-c
decreases-postfix::parts-loop-c l = length l.rest

abbrev pub invariant-types::more_ty_args-loop-c : goal.invariant-types::more_ty_args-loop-c
invariant-types::more_ty_args-loop-c l = onto_in l.found (e.more_ty_args l.c.names.now (inner l.c.names.now l.c.levels) l.closed) l.rest ≡ onto_in l.fn.found (e.more_ty_args l.c.names.now (inner l.c.names.now l.c.levels) l.fn.closed) l.fn.ts

abbrev pub decreases-types::more_ty_args-loop-c : goal.decreases-types::more_ty_args-loop-c
decreases-types::more_ty_args-loop-c l = length l.rest
