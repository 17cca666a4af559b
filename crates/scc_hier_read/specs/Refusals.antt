-- What reading a text of modules may refuse.
use Rattle.std.specs.Prelude.{ℕ, Bool, true, List, length, ◌&&◌, nat_le, nat_eq}
use Rattle.scc_base.specs.Code.{code_number}
use Rattle.scc_base.specs.declared.refusal.Refusal.{Refusal}
use Rattle.scc_base.specs.declared.refusal.Stop.{Stop}
use Rattle.scc_base.specs.declared.refusal.Stop.TheVariants as stop

-- a code of emitted texts, at a byte of this one or at its end
abbrev pub is_of_text : List ℕ → Refusal → Bool
is_of_text bytes r =
    nat_le 701 (code_number r.code) && nat_le (code_number r.code) 708 && nat_eq r.place.file 0 && nat_le r.place.at (length bytes)

-- such a refusal, or want of memory
abbrev pub may_stop : List ℕ → Stop → Bool
may_stop bytes (stop.Refused r) = is_of_text bytes r
may_stop bytes stop.NoMemory = true
