use Rattle.scc_lower_laws.proofs.Leaving.{guard-skips}
use Rattle.scc_lower_laws.proofs.Statements.{ended, guarded, put, either, known-either, exit, block}
use Rattle.scc_lower_laws.proofs.laws.statements_are_lowered.Goals as goal

pub returns : goal.returns
returns c = record {
  ends = λ s width depth to out. ended s width depth to out;
  guards = λ s width depth to out f code h. guarded s width depth to out f code h;
  skipped = λ s width code. guard-skips s width code;
  assignments = λ s width depth to out p l k e r f rest h t. put s width depth to out p l k e r f rest h t;
  branches = λ s width depth to n m out more p t first other r front y z rest o number below h hy hz u g l hr. either s width depth to n m out more p t first other r front y z rest o number below h hy hz u g l hr;
  known_tests = λ s width depth to out more p t w first other r y rest h hy u g l hr. known-either s width depth to out more p t w first other r y rest h hy u g l hr;
  exits = λ s width depth to out p n r rest number o e l skips below. exit s width depth to out p n r rest number o e l skips below;
  blocks = λ s width depth to out more p b r body rest number h u g l hr. block s width depth to out more p b r body rest number h u g l hr;
}
