-- Walks that note nothing.
use Rattle.std.proofs.Common.{◌≡◌, ℕ, Bool, false, List, [], ◌∷◌}
use Rattle.scc_svtree.specs.Sound.{Each}
use Rattle.scc_svread_check.specs.declared.walk.Walk.{Walk}
use Rattle.scc_svread_check.specs.Walking.{Walking, ◌then◌, pass, size_if, name_if, size_of_whole}
use Rattle.scc_svread_check.specs.Lines.{Line, lines}
use Rattle.scc_svread_written.proofs.Clear.{IsClear, Asks, asks_by, asks_pass, asks_then, asks_size, asks_name, asks_whole}

-- nothing is asked, so that nothing is noted
abbrev pub Quiet : Walking → Type 0
Quiet p = Asks p (Unit {0})

pub quiet : {p : Walking} {P : Type 0} → Asks p P → P → Quiet p
quiet a h = asks_by (λ k. tt) (λ u. h) a

abbrev pub Keeps : Walking → Type 0
Keeps p = (w : Walk) → IsClear w → IsClear (p w)

pub keeps : {p : Walking} → Quiet p → Keeps p
keeps a w c = a.kept w c tt

pub quiet_pass : (n : ℕ) → Quiet (pass n)
quiet_pass n = asks_pass n

pub quiet_size : (b : Bool) → b ≡ false → Quiet (size_if b)
quiet_size b e = quiet (asks_size b) e

pub quiet_name : (b : Bool) → b ≡ false → Quiet (name_if b)
quiet_name b e = quiet (asks_name b) e

pub quiet_then : {p q : Walking} → Quiet p → Quiet q → Quiet (p then q)
quiet_then h k = quiet (asks_then h k) (tt, tt)

pub quiet_whole : (b : Bool) {p : Walking} → b ≡ false → Quiet p → Quiet (size_of_whole b p)
quiet_whole b e h = quiet (asks_whole b h) (e, tt)

-- nothing was passed
pub quiet_here : Quiet (λ w. w)
quiet_here = record { told = λ w c. (c, tt); kept = λ w c u. c }

-- ---- lines, at each depth

abbrev pub QuietLine : Line → Type 0
QuietLine l = (n : ℕ) → Quiet (l n)

pub quiet_lines : (ls : List Line) → Each QuietLine ls → QuietLine (lines ls)
quiet_lines [] k n = quiet_here
quiet_lines (l ∷ ls) k n = quiet_then (k.0 n) (quiet_lines ls k.1 n)
