-- A method at the rising edge of a clock that hands an input on to an output: ports clock, input and output, in this order. This project's own.
use Rattle.std.specs.Prelude.{ℕ, true, false, [], ◌∷◌, Option, Some, None, if◌then◌else◌}
use Rattle.std.specs.List.{list_any}
use Rattle.scc_bits_kinds.specs.declared.kind.Kind.TheVariants as kind
use Rattle.scc_semantics.specs.Location.{Location, Top, Member, same}
use Rattle.scc_semantics.specs.Places.{Thing, Signal, Clocked}
use Rattle.scc_semantics.specs.Expressions.{Read, At, Whole}
use Rattle.scc_semantics.specs.Body.{End, Assign}
use Rattle.scc_semantics.specs.Design.{Process, Design, Input, Output}

-- the port of that number
abbrev pub port : ℕ → Location
port n = record { root = Top; path = Member n ∷ [] }

abbrev pub one_port : Location → Option Thing
one_port l = if list_any (same l) (port 0 ∷ port 1 ∷ port 2 ∷ []) then Some (Signal kind.Bool) else None

abbrev pub hands_on : Process
hands_on = record { object = record { root = Top; path = [] }; sort = Clocked (record { clock = port 0; rising = true }); body = Assign (At (port 2)) Whole (Read kind.Bool (At (port 1))) End }

abbrev pub handing_on : Design
handing_on = record {
  places = record { things = one_port; pointers = λ l. false };
  functions = λ f. End;
  ports = record { location = port 0; direction = Input } ∷ record { location = port 1; direction = Input } ∷ record { location = port 2; direction = Output } ∷ [];
  fixed = λ l. None;
  constant = λ l. None;
  targets = λ l. None;
  processes = hands_on ∷ [];
}
