-- What the code sees of an expression from where it stands.
use Rattle.std.specs.Prelude.{Bool}
use Rattle.scc_svread_check.specs.declared.walk.Walk.{Walk}
use Rattle.scc_svread_check.specs.declared.expr.Seen.{Seen}
use Rattle.scc_svread_check.specs.Walking.{◌orelse◌, mark}
use Rattle.scc_svread_check.specs.Parts.{Part, is_wrong_length}

abbrev pub seen : Part → Walk → Seen
seen p w = record { walk = p.walk w; bits = p.bits; zero = p.zero }

-- the end of a part that may be wrong as a whole
abbrev pub whole_behind : Bool → Walk → Walk → Walk
whole_behind wrong w v = record { at = v.at; size = w.size orelse mark wrong w.at orelse v.size; name = v.name }

-- an expression with its own length, from its first byte on
abbrev pub measured_from : Walk → Seen → Seen
measured_from w s = record { walk = whole_behind (is_wrong_length s.bits) w s.walk; bits = s.bits; zero = s.zero }
