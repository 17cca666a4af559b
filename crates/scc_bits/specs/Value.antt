-- A number: a kind and a word of it.
use Rattle.std.specs.Prelude.{ℕ, ℤ, Bool, ◌&&◌}
use Rattle.scc_bits_kinds.specs.declared.kind.Kind.{Kind}
use Rattle.scc_bits_kinds.specs.Kinds.{number_of}
use Rattle.scc_bits_kinds.specs.Groups.{group_of, is_small, is_large}

pub record Number : Type 0 where
  pub kind : Kind
  pub word : ℕ

-- the exact whole number
abbrev pub exactly : Number → ℤ
exactly n = number_of n.kind n.word

-- whether a constant of the one kind counts by its value beside an operand of the other
abbrev pub counts_beside : Kind → Kind → Bool
counts_beside k other = is_large (group_of other) && is_small (group_of k)
