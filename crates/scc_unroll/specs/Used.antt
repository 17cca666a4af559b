-- How often locals are assigned, by the table of the code.
use Rattle.std.specs.Prelude.{ℕ, nat_eq, unwrap_or}
use Rattle.std.specs.HashMap.{get_by}
use Rattle.scc_unroll.specs.declared.uses.Uses.{Uses}

abbrev pub used : Uses → ℕ → ℕ
used u o = unwrap_or (get_by (nat_eq o) u.counts) 0
