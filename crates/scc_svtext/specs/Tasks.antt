-- The text that a stack of tasks stands for.
use Rattle.std.specs.Prelude.{ℕ, ◌+◌, List, [], ◌∷◌, ◌++◌}
use Rattle.scc_svtext.specs.declared.task.Task.{Task}
use Rattle.scc_svtext.specs.declared.task.Task.TheVariants as task
use Rattle.scc_svtext.specs.declared.task.Rest.{Rest}
use Rattle.scc_svtext.specs.declared.task.Rest.TheVariants as rest
use Rattle.scc_svtext.specs.declared.fixed.Fixed.TheVariants as piece
use Rattle.scc_svtext.specs.Fixed.{fixed_text}
use Rattle.scc_svtext.specs.Pieces.{blanks}
use Rattle.scc_svtext.specs.StmtText.{arms_text, otherwise_text, stmts_text}

abbrev pub task_text : List (List ℕ) → Task → List ℕ
task_text names (task.Line f n) = blanks n ++ fixed_text f
task_text names (task.Stmts list n) = stmts_text names list.now n
task_text names (task.Otherwise list n) = otherwise_text names list.now n
task_text names (task.Arms list n) = arms_text names list.now n

-- the last task comes first
abbrev pub tasks_text : List (List ℕ) → List Task → List ℕ
tasks_text names [] = []
tasks_text names (t ∷ ts) = tasks_text names ts ++ task_text names t

-- what follows the first line of a statement behind so many blanks
abbrev pub rest_text : List (List ℕ) → ℕ → Rest → List ℕ
rest_text names n rest.Nothing = []
rest_text names n (rest.If a b) = stmts_text names a.now (n + 2) ++ otherwise_text names b.now n ++ blanks n ++ fixed_text piece.End
rest_text names n (rest.Case arms) = arms_text names arms.now (n + 2) ++ blanks n ++ fixed_text piece.CaseEnd
