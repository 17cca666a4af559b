use denote.Text.{Utf8}
use denote.Shadow.{shadow}
use Rattle.scc_drive_cases.proofs.page.Page.read.Given as goal

-- the name of the open fence's file is text
abbrev pub invariant-loop-line : goal.invariant-loop-line
invariant-loop-line l =
    (goal.iterator-loop-line).can_next l.line-iterator ×
    (goal.iterator-loop-line).is_finite l.line-iterator ×
    shadow (Utf8 l.name)
