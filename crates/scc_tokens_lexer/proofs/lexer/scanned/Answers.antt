use Rattle.std.proofs.Common.{List, ◌∙◌, ap, sym, subst, refl, Err, length}
use Rattle.scc_tokens_lexer.specs.Answers.{IsScanned}
use Rattle.scc_tokens_lexer.specs.Numbering.{NamesAre, names_after}
use Rattle.scc_tokens_lexer.specs.Scan.{scan, put_front}
use Rattle.scc_tokens_lexer.specs.declared.token.Token.{Token}
use Rattle.scc_tokens_lexer.proofs.Scanning.{scans_more, scans_end, behind_fault, names_fault, names_end, positive, nothing}
use Rattle.scc_tokens_lexer.proofs.lexer.scanned.Goals as goal

pub returns-in-Fault-clause-value : goal.returns-in-Fault-clause-value
returns-in-Fault-clause-value c =
    let some = positive (length c.pieces.rest.now) (sym c.is_empty.ensures ∙ c.pieces-test.true) in
    subst (λ s. IsScanned c.pieces.names (Err s) (scan c.args.file c.args.text.now)) (sym c.refused.ensures)
    (sym c.pieces.invariant.left ∙ ap (put_front c.pieces.invariant.done) (behind_fault c.args.file c.pieces.line _ c.pieces.rest.now c.in-Fault.code c.in-Fault.at some (sym c.piece_at.ensures.value ∙ c.in-Fault.is)), refl)

pub returns-in-Fault-clause-names : goal.returns-in-Fault-clause-names
returns-in-Fault-clause-names c =
    let some = positive (length c.pieces.rest.now) (sym c.is_empty.ensures ∙ c.pieces-test.true) in
    subst (λ s. NamesAre {A = List Token} (Err s) c.pieces.names (names_after c.args.names.now c.args.text.now)) (sym c.refused.ensures)
    (sym (names_fault c.pieces.names c.pieces.line c.pieces.rest.now c.in-Fault.code c.in-Fault.at some (sym c.piece_at.ensures.value ∙ c.in-Fault.is)) ∙ c.pieces.invariant.named)

pub pieces-preserved : goal.pieces-preserved
pieces-preserved c =
    let some = positive (length c.pieces.rest.now) (sym c.is_empty.ensures ∙ c.pieces-test.true) in
    let within = c.in-Taken.ensures.within in
    scans_more c.pieces.invariant c.in-Taken.form c.in-Taken.len c.in-Taken.next some within.0 within.1 (sym c.piece_at.ensures.value ∙ c.in-Taken.is)
    _ _ c.in_ok-put_piece-in-Taken.ensures.put c.in_ok-put_piece-in-Taken.ensures.names c.in_ok-put_piece-in-Taken.ensures.keeps c.put_piece.ensures.few

pub returns-clause-value : goal.returns-clause-value
returns-clause-value c = scans_end c.pieces.invariant (nothing (length c.pieces.rest.now) (sym c.is_empty.ensures ∙ c.pieces-test.false)) _ c.in_ok-put_end.ensures.put

pub returns-clause-names : goal.returns-clause-names
returns-clause-names c = sym (names_end c.pieces.names c.pieces.line c.pieces.rest.now (nothing (length c.pieces.rest.now) (sym c.is_empty.ensures ∙ c.pieces-test.false))) ∙ c.pieces.invariant.named
