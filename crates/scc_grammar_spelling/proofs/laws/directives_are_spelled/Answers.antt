use Rattle.scc_grammar_spelling.proofs.Spelled.{else_is_spelled, scopes_are_spelled, scope_mark_is_spelled, parameters_are_spelled, header_is_spelled, old_header_is_spelled}
use Rattle.scc_grammar_spelling.proofs.laws.directives_are_spelled.Goals as goal

pub returns-clause-words : goal.returns-clause-words
returns-clause-words c = else_is_spelled

pub returns-clause-scopes : goal.returns-clause-scopes
returns-clause-scopes c = scopes_are_spelled

pub returns-clause-scope_mark : goal.returns-clause-scope_mark
returns-clause-scope_mark c = scope_mark_is_spelled

pub returns-clause-parameters : goal.returns-clause-parameters
returns-clause-parameters c = parameters_are_spelled

pub returns-clause-header : goal.returns-clause-header
returns-clause-header c = header_is_spelled

pub returns-clause-old_header : goal.returns-clause-old_header
returns-clause-old_header c = old_header_is_spelled
