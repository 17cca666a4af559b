-- What is claimed of nothing holds of any answer.
use Rattle.std.proofs.Common.{List, ℕ, Result, Ok, Err}
use Rattle.std.specs.Prelude.{IfOk}
use Rattle.scc_base.specs.declared.no_memory.NoMemory.{NoMemory}

pub any : (r : Result (List ℕ) NoMemory) → IfOk r (λ t. Unit {0})
any (Ok t) = tt
any (Err e) = tt
