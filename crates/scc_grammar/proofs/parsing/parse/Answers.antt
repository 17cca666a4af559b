use Rattle.std.proofs.Common.{◌≡◌, ap, sym, subst, ◌∙◌, refl, Err}
use Rattle.scc_grammar_terminals.specs.Answer.{Fails}
use Rattle.scc_grammar.specs.Claim.{ReadsOnly, stop_of, text_of}
use Rattle.scc_grammar_spec.specs.ParseFile.{program}
use Rattle.scc_grammar_terminals.specs.View.{seen_all}
use Rattle.scc_grammar.proofs.Parsed.{read_file, fault_at, only_file, only_fault}
use Rattle.scc_grammar.proofs.parsing.parse.Goals as goal

pub returns-in-Ok-program-clause-read : goal.returns-in-Ok-program-clause-read
returns-in-Ok-program-clause-read c =
    let same : c.as_slice-2.result.now ≡ text_of c.args.tokens.now = c.as_slice-2.ensures.elements ∙ c.in-Ok.ensures ∙ ap seen_all c.as_slice.ensures.elements in
    read_file c.args.tokens.now _ (ap (program 128) (sym same) ∙ c.in-Ok-program.ensures) refl

pub returns-in-Ok-program-clause-only : goal.returns-in-Ok-program-clause-only
returns-in-Ok-program-clause-only c = λ items d.
    let same : c.as_slice-2.result.now ≡ text_of c.args.tokens.now = c.as_slice-2.ensures.elements ∙ c.in-Ok.ensures ∙ ap seen_all c.as_slice.ensures.elements in
    only_file c.args.tokens.now (record { items = c.in-Ok-program.items; end = c.args.tokens.now.end }) items d
    (read_file c.args.tokens.now _ (ap (program 128) (sym same) ∙ c.in-Ok-program.ensures) refl)

pub returns-clause-only : goal.returns-clause-only
returns-clause-only c = λ items d.
    let same : c.as_slice-2.result.now ≡ text_of c.args.tokens.now = c.as_slice-2.ensures.elements ∙ c.in-Ok.ensures ∙ ap seen_all c.as_slice.ensures.elements in
    subst (λ s. ReadsOnly items (Err s)) (sym c.fault.ensures)
    (only_fault c.args.tokens.now (stop_of c.args.tokens.now.end c.in-Err.halt) items d
    (fault_at c.args.tokens.now c.in-Err.halt (subst (λ ts. Fails c.in-Err.halt (program 128 ts)) same c.in-Err.ensures)))
