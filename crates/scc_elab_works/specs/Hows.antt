-- Which of some statements run: all, the initialisers of a member or of none, or those of a member that make nothing. This project's own.
use Rattle.std.specs.Prelude.{ℕ, Option}

pub data How : Type 0 where
  All : How
  Of : (member : Option ℕ) → How
  Without : (member : ℕ) → How
