-- A home: each local stands at its own number.
use Rattle.scc_blocks_spec.specs.Passed.{IsHome}
use Rattle.scc_core_spec.specs.WorkedRun.{home}
use Rattle.scc_core_resolved_laws.proofs.Bools.{nat_eq-self}

pub own-home : IsHome home
own-home = record { injective = λ i j m n e. (cc, cc); own = λ i n. nat_eq-self i }
