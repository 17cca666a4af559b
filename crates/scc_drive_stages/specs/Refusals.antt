-- What the stages behind the grammar may refuse; `many` says whether there may be several clocks.
use Rattle.std.specs.Prelude.{Bool, true, ◌&&◌, ◌||◌, nat_eq, nat_le}
use Rattle.scc_base.specs.declared.code.Code.{Code}
use Rattle.scc_base.specs.Code.{code_number}
use Rattle.scc_base.specs.declared.refusal.Stop.{Stop}
use Rattle.scc_base.specs.declared.refusal.Stop.TheVariants as stop

-- names and constants; construction and the clock as data, and too many clocks where there may be several; rules of processes; sizes
abbrev pub is_later : Bool → Code → Bool
is_later many c =
    (nat_le 301 (code_number c) && nat_le (code_number c) 314) || (nat_le 401 (code_number c) && nat_le (code_number c) 412) ||
    (many && nat_eq (code_number c) 413) || (nat_le 501 (code_number c) && nat_le (code_number c) 514) ||
    (nat_le 601 (code_number c) && nat_le (code_number c) 605)

-- one of their codes, or want of memory
abbrev pub may_stop : Bool → Stop → Bool
may_stop many (stop.Refused r) = is_later many r.code
may_stop many stop.NoMemory = true
