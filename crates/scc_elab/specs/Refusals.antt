-- What construction may refuse. This project's own.
use Rattle.std.specs.Prelude.{Bool, true, ◌&&◌, ◌||◌, not, nat_eq, nat_le, is_none}
use Rattle.scc_base.specs.declared.code.Code.{Code}
use Rattle.scc_base.specs.Code.{code_number}
use Rattle.scc_base.specs.declared.refusal.Refusal.{Refusal}
use Rattle.scc_base.specs.declared.refusal.Stop.{Stop}
use Rattle.scc_base.specs.declared.refusal.Stop.TheVariants as stop

-- the codes of construction by their numbers: 401 to 412 but for 408, and 413 where there may be several clocks
abbrev pub is_construction : Bool → Code → Bool
is_construction many c = nat_le 401 (code_number c) && nat_le (code_number c) 413 && not (nat_eq (code_number c) 408) && (many || not (nat_eq (code_number c) 413))

-- the codes that speak of a second place: 402 and 407
abbrev pub has_other : Code → Bool
has_other c = nat_eq (code_number c) 402 || nat_eq (code_number c) 407

abbrev pub may_refuse : Bool → Refusal → Bool
may_refuse many r = is_construction many r.code && (has_other r.code || is_none r.other)

abbrev pub may_stop : Bool → Stop → Bool
may_stop many (stop.Refused r) = may_refuse many r
may_stop many stop.NoMemory = true
