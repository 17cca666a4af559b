use Rattle.std.proofs.Common.{◌∙◌}
use Rattle.scc_core_view.specs.Codes.{code_of}
use Rattle.scc_unroll.proofs.Forms.{form_found}
use Rattle.scc_unroll.proofs.counted.has_form.Goals as goal

pub returns : goal.returns
returns c = c.is_some.ensures ∙ form_found c.args.cell (code_of c.args.body.now) c.turning_in.result c.turning_in.ensures.parts
