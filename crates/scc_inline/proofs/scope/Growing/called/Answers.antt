use Rattle.std.proofs.Common.{◌∷◌}
use Rattle.scc_elab_spec.specs.Numbering.{result_root}
use Rattle.scc_inline.specs.Named.{added}
use Rattle.scc_inline.proofs.Naming.{call_begins, call_stands}
use Rattle.scc_inline.proofs.scope.Growing.called.Goals as goal

pub returns-clause-names : goal.returns-clause-names
returns-clause-names c = λ p f front cs i roots is fresh st.
    c.in_ok-give_params.ensures.names p f front (c.args.call ∷ cs) i (added roots (result_root i (c.args.call ∷ cs) c.args.callee.now.result)) is
    (c.in_ok-give_answer.ensures.names p f front (c.args.call ∷ cs) i roots is fresh.answer (call_begins p f front cs c.args.call i roots c.args.self.now c.args.scope.now c.in_ok-child.child fresh c.in_ok-child.ensures st))

pub returns-clause-caller : goal.returns-clause-caller
returns-clause-caller c = λ p f front cs i roots is fresh st.
    let begun = c.in_ok-give_answer.ensures.names p f front (c.args.call ∷ cs) i roots is fresh.answer (call_begins p f front cs c.args.call i roots c.args.self.now c.args.scope.now c.in_ok-child.child fresh c.in_ok-child.ensures st) in
    call_stands p f front cs c.args.call i roots c.args.callee.now.result c.args.callee.now.params c.args.self.now c.give_answer.new.self c.give_params.new.self c.args.scope.now c.give_answer.new.scope c.give_answer.new.child c.give_params.new.child
    c.in_ok-give_answer.ensures.kept st begun
    (c.in_ok-give_params.ensures.names p f front (c.args.call ∷ cs) i (added roots (result_root i (c.args.call ∷ cs) c.args.callee.now.result)) is begun)
