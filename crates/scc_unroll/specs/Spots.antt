-- Loops by their places, as the code hands them on.
use Rattle.scc_core_spec.specs.Unrolled.{Spot}
use Rattle.scc_unroll.specs.declared.look.Spot.{Spot as Held}

abbrev pub spot_of : Held → Spot
spot_of s = record { number = s.number; place = s.place }
