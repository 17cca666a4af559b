use Rattle.std.proofs.Common.{false, map, ap, sym, ◌∙◌}
use Rattle.scc_elab_spec.specs.Made.{is_name}
use Rattle.scc_elab_spec.specs.Elaborated.{other_param}
use Rattle.scc_plain_view.specs.Codes.{base_of}
use Rattle.scc_plain_view.specs.Plains.{member_of}
use Rattle.scc_elab_checks.proofs.Leading.{only_one}
use Rattle.scc_elab_checks.proofs.Parameters.{one_local}
use Rattle.scc_elab_checks.proofs.top.first_other.Goals as goal

pub returns-in-empty : goal.returns-in-empty
returns-in-empty c = sym (ap (λ z. other_param c.args.params false (map member_of z)) (only_one c.args.locals.now c.first-item.result c.in-len1-up.len_at_least c.first-item.is c.in-empty.len_below)
    ∙ one_local c.args.params (member_of c.first-item.result) (ap (λ b. is_name (base_of b)) c.in-ModuleName.is))
