use Rattle.std.proofs.Common.{◌≡◌, length}
use Rattle.scc_tree.specs.declared.ty.Ty.{Ty}
use Rattle.scc_grammar_spec.specs.Bodies as b
use Rattle.scc_grammar_spec.specs.Fields.{Again, fields_onto}
use Rattle.scc_grammar_terminals.specs.Marks as m
use Rattle.scc_grammar_spec.specs.ParseFile as p
use Rattle.scc_grammar_terminals.specs.Text.{next_is}
use Rattle.scc_reading.specs.Reading.{repeat}
use Rattle.scc_grammar.proofs.member.more_fields.Given as goal

abbrev pub invariant-loop-c : goal.invariant-loop-c
invariant-loop-c l = (l.members.items ≡ l.fn.members.items) × ((ty : Ty) → Again l.c.names.now l.c.levels l.typed ty
    → fields_onto (b.body_of l.c.names.now l.fn.members.items l.fn.members.fields) ty l.members.fields (repeat (next_is m.comma) (p.one_decl l.c.levels l.c.names.now)) l.rest
    ≡ fields_onto (b.body_of l.c.names.now l.fn.members.items l.fn.members.fields) ty l.fn.members.fields (repeat (next_is m.comma) (p.one_decl l.c.levels l.c.names.now)) l.fn.ts)

abbrev pub decreases-loop-c : goal.decreases-loop-c
decreases-loop-c l = length l.rest
