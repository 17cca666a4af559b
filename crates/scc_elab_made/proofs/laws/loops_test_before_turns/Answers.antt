use Rattle.scc_elab_made.proofs.Picking.{stmt_splits}
use Rattle.scc_elab_made.proofs.laws.loops_test_before_turns.Goals as goal

pub returns : goal.returns
returns c = record { tested = λ t make s x q d r k n e. (stmt_splits t make s x).tested e q d r k n; whole = λ t make s x q d r k n e. (stmt_splits t make s x).whole e q d r k n }
