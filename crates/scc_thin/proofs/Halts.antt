-- How an error of a part is one of the whole.
use Rattle.std.proofs.Common.{◌≡◌, Option, None}
use Rattle.scc_thin.specs.declared.halt.Halt.{Halt}
use Rattle.scc_thin.specs.declared.halt.Halt.TheVariants.{Other, Memory}
use Rattle.scc_thin.specs.Gives.{Fails}

pub fails_along : {X Y : Type 0} (e : Halt) (a : Option X) (b : Option Y) → (a ≡ None → b ≡ None) → Fails e a → Fails e b
fails_along Memory a b f h = tt
fails_along Other a b f h = f h
