use Rattle.std.proofs.Common.{◌∙◌}
use Rattle.std.proofs.lemmas.Result.{err_from_is_err_and}
use Rattle.scc_grammar.proofs.FieldLoops.{rest_fails, rest_unended, rest_is}
use Rattle.scc_grammar.proofs.member.fields_rest.Goals as goal

pub returns-in_err-rest : goal.returns-in_err-rest
returns-in_err-rest c =
    let p = err_from_is_err_and c.from_residual-in_err-rest.result c.from_residual-in_err-rest.ensures.1 in
    rw (p.1, p.2) (rest_fails c.args.c.names.now c.args.c.levels c.args.members.now.items c.push_field.new.members.items c.args.members.now.fields c.push_field.new.members.fields c.args.ty c.args.first c.args.ts.now c.in_ok-push_field.ensures.items c.in_ok-push_field.ensures.field c.in_err-rest.field-0.0 (c.in_err-rest.ensures.fields c.args.ty c.requires))

pub returns-in_err-rest-2 : goal.returns-in_err-rest-2
returns-in_err-rest-2 c =
    let p = err_from_is_err_and c.from_residual-in_err-rest-2.result c.from_residual-in_err-rest-2.ensures.1 in
    rw (p.1, p.2) (rest_unended c.args.c.names.now c.args.c.levels c.args.members.now.items c.push_field.new.members.items c.args.members.now.fields c.push_field.new.members.fields c.args.ty c.args.first c.args.ts.now c.in_ok-push_field.ensures.items c.in_ok-push_field.ensures.field c.in_err-rest-2.field-0.0 c.more_fields.new.members.fields c.in_ok-rest.rest.now (c.in_ok-rest.ensures.fields c.args.ty c.requires) c.in_err-rest-2.ensures)

pub returns : goal.returns
returns c =
    rw (c.in_ok-rest.ensures.items ∙ c.in_ok-push_field.ensures.items)
    (rest_is c.args.c.names.now c.args.c.levels c.args.members.now.items c.push_field.new.members.items c.args.members.now.fields c.push_field.new.members.fields c.args.ty c.args.first c.args.ts.now c.in_ok-push_field.ensures.items c.in_ok-push_field.ensures.field c.more_fields.new.members.fields c.in_ok-rest.rest.now _ c.in_ok-rest-2.rest.now (c.in_ok-rest.ensures.fields c.args.ty c.requires) c.in_ok-rest-2.ensures)
