use Rattle.std.proofs.Common.{ap, true}
use Rattle.scc_elab_spec.specs.Types.{moved}
use Rattle.scc_plain_view.specs.Codes.{code_of}
use Rattle.scc_plain_view.specs.Plains.{plain_of, function_of}
use Rattle.scc_inline_cells.proofs.Noting.{function_ok}
use Rattle.scc_inline_cells.proofs.moving.Moving.function.Goals as goal

pub returns : goal.returns
returns c = function_ok c.list-2.result c.args.self.now c.list.new.self c.list-2.new.self _ _ _ _
    (ap (λ z. moved (plain_of c.args.s.now.plain.now) (function_of c.args.s.now.function.now) true (code_of z)) c.as_slice.ensures.elements) c.in_ok-list.ensures
    (λ i. moved (plain_of c.args.s.now.plain.now) (function_of c.args.s.now.function.now) (c.is_constructor-constructor.ensures i) (code_of (c.as_slice-2.ensures.elements i))) c.list-2.ensures
