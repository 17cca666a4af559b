use Rattle.std.proofs.Common.{sym, ◌∙◌}
use Rattle.scc_grammar_spec.specs.Bodies.{body_of}
use Rattle.scc_grammar.proofs.FileEnd.{goes_on, ends, program_read}
use Rattle.scc_grammar.proofs.file.program.Goals as goal

pub returns-then-some_next : goal.returns-then-some_next
returns-then-some_next c = (
  c.in_ok-rest.rest.now,
  program_read c.args.ts.now (body_of c.parts.new.names c.parts.new.found.items c.parts.new.found.fields) c.in_ok-rest.rest.now (rw (c.new-names.ensures, c.new-found.ensures.items, c.new-found.ensures.fields) at c.in_ok-rest.ensures)
      ∙ goes_on c.parts.new.found.items c.in_ok-rest.rest.now (sym c.some_next.ensures ∙ c.if-some_next.true),
  c.place_of.ensures,
)

pub returns : goal.returns
returns c =
    program_read c.args.ts.now (body_of c.parts.new.names c.parts.new.found.items c.parts.new.found.fields) c.in_ok-rest.rest.now (rw (c.new-names.ensures, c.new-found.ensures.items, c.new-found.ensures.fields) at c.in_ok-rest.ensures)
    ∙ ends c.parts.new.found.items c.in_ok-rest.rest.now (sym c.some_next.ensures ∙ c.if-some_next.false)
