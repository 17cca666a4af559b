use Rattle.std.proofs.Common.{◌≡◌, ◌∷◌, ◌++◌, [], sym, ◌∙◌, ap}
use Rattle.std.proofs.lemmas.Result.{err_from_is_err_and}
use Rattle.scc_grammar_spec.specs.Bodies.{body_of, field_of}
use Rattle.scc_grammar.proofs.FieldLoops.{field_turn, field_fails, field_stops, decl_shorter, same_type, same_field}
use Rattle.scc_grammar.proofs.member.more_fields.Goals as goal

pub returns-in_err-next-clause-fields : goal.returns-in_err-next-clause-fields
returns-in_err-next-clause-fields c = λ ty again.
    let p = err_from_is_err_and c.from_residual.result c.from_residual.ensures.1 in
    rw (p.1, p.2) (field_fails c.args.c.names.now c.args.c.levels (body_of c.args.c.names.now c.args.members.now.items c.args.members.now.fields) ty c.in_err-next.field-0.0 c.loop-c.members.fields c.loop-c.rest.now _ (sym c.begins_comma.ensures ∙ c.loop-c-test.true) c.in_err-next.ensures (c.loop-c.invariant.1 ty again))

pub loop-c-smaller : goal.loop-c-smaller
loop-c-smaller c = decl_shorter c.args.c.names.now c.args.c.levels c.loop-c.rest.now c.in_ok-next.next c.in_ok-next.after.now c.in_ok-next.ensures

pub loop-c-preserved : goal.loop-c-preserved
loop-c-preserved c = (
  c.in_ok-push_field.ensures.items ∙ c.loop-c.invariant.0,
  λ ty again.
      let same : c.in_ok-again.again.ty ≡ ty = same_type c.args.c.names.now c.args.c.levels c.args.typed.now ty c.in_ok-again.again _ again c.in_ok-again.ensures in
      let pushed : c.push_field.new.members.fields ≡ c.loop-c.members.fields ++ field_of (body_of c.args.c.names.now c.args.members.now.items c.args.members.now.fields) ty c.in_ok-next.next ∷ []
      = c.in_ok-push_field.ensures.field ∙ ap (λ f. c.loop-c.members.fields ++ f ∷ []) (same_field c.args.c.names.now c.loop-c.members.items c.args.members.now.items c.loop-c.members.fields c.args.members.now.fields ty c.in_ok-again.again.ty c.in_ok-next.next c.loop-c.invariant.0 same) in
      rw pushed (field_turn c.args.c.names.now c.args.c.levels (body_of c.args.c.names.now c.args.members.now.items c.args.members.now.fields) ty c.loop-c.members.fields c.loop-c.rest.now c.in_ok-next.next c.in_ok-next.after.now _ (sym c.begins_comma.ensures ∙ c.loop-c-test.true) c.in_ok-next.ensures (c.loop-c.invariant.1 ty again)),
)

pub returns-clause-fields : goal.returns-clause-fields
returns-clause-fields c = λ ty again. field_stops c.args.c.names.now c.args.c.levels (body_of c.args.c.names.now c.args.members.now.items c.args.members.now.fields) ty c.loop-c.members.fields c.loop-c.rest.now _ (sym c.begins_comma.ensures ∙ c.loop-c-test.false) (c.loop-c.invariant.1 ty again)
