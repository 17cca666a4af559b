-- A count with a limit, and what more statements add to it.
use Rattle.std.specs.Prelude.{ℕ, ◌+◌, min}
use Rattle.scc_base.specs.declared.tally.Tally.{Tally}

pub record Sum : Type 0 where
  pub count : ℕ
  pub limit : ℕ

abbrev pub sum_of : Tally → Sum
sum_of t = record { count = t.count; limit = t.limit }

-- with so many more, up to one past the limit
abbrev pub more : Sum → ℕ → Sum
more s n = record { count = min (s.count + n) (s.limit + 1); limit = s.limit }
