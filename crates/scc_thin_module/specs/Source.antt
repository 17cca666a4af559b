-- The design that a thin text denotes: its ports, and one combinational method that runs its writes.
use Rattle.std.specs.Prelude.{ℕ, ◌+◌, List, [], ◌∷◌, map, false, Option, Some, None, if◌then◌else◌, slice_get, option_map, unwrap_or}
use Rattle.scc_bits_kinds.specs.declared.kind.Kind.TheVariants as kind
use Rattle.scc_bits_kinds.specs.declared.op.Op.{Op}
use Rattle.scc_bits_kinds.specs.declared.op.Op.TheVariants as op
use Rattle.scc_semantics.specs.Location.{Location, Root, Top, Part, Member}
use Rattle.scc_semantics.specs.Expressions as body
use Rattle.scc_semantics.specs.Expressions.{Expr}
use Rattle.scc_semantics.specs.Places.{Thing, Signal, Combinational}
use Rattle.scc_semantics.specs.Body as statement
use Rattle.scc_semantics.specs.Body.{Body}
use Rattle.scc_semantics.specs.Design as running
use Rattle.scc_semantics.specs.Design.{Process, TopPort, Direction, Input, Output}
use Rattle.scc_thin.specs.declared.design.Design.{Design}
use Rattle.scc_thin.specs.declared.design.Port.{Port}
use Rattle.scc_thin.specs.declared.design.Put.{Put}
use Rattle.scc_thin.specs.declared.design.Second.{Second}
use Rattle.scc_thin.specs.declared.design.Bitwise.{Bitwise}
use Rattle.scc_thin.specs.declared.design.Bitwise.TheVariants as bitwise
use Rattle.scc_thin_module.specs.Emitted.{width_of}

-- a member of the top, by its number: the names of the ports are numbered as they are declared
abbrev pub member : ℕ → Location
member i = record { root = Top; path = Member i ∷ [] }

abbrev pub top : Location
top = record { root = Top; path = [] }

abbrev pub thing_of : Port → Thing
thing_of p = Signal (kind.Uint p.width)

-- a port stands at its member, and nothing stands elsewhere
abbrev pub thing_in : List Port → Root → List Part → Option Thing
thing_in ports Top (Member i ∷ []) = option_map thing_of (slice_get ports i)
thing_in ports _ _ = None

abbrev pub thing_at : List Port → Location → Option Thing
thing_at ports l = thing_in ports l.root l.path

-- a.read()
abbrev pub read_of : List Port → ℕ → Expr
read_of ports i = body.Read (kind.Uint (width_of ports i)) (body.Field body.This i)

abbrev pub op_of : Bitwise → Op
op_of bitwise.And = op.And
op_of bitwise.Or = op.Or
op_of bitwise.Xor = op.Xor

abbrev pub written_of : List Port → ℕ → Option Second → Expr
written_of ports first None = read_of ports first
written_of ports first (Some s) = body.Binary (op_of s.op) (read_of ports first) (read_of ports s.port)

-- y.write(..), converted to the kind of y, and what follows
abbrev pub body_of : List Port → List Put → Body
body_of ports [] = statement.End
body_of ports (p ∷ ps) =
    statement.Assign (body.Field body.This p.target) body.Whole (body.Convert (kind.Uint (width_of ports p.target)) (written_of ports p.first p.second)) (body_of ports ps)

abbrev pub direction_of : Port → Direction
direction_of p = if p.output then Output else Input

-- ports that are numbered from i on
abbrev pub ports_from : ℕ → List Port → List TopPort
ports_from i [] = []
ports_from i (p ∷ ps) = record { location = member i; direction = direction_of p } ∷ ports_from (i + 1) ps

abbrev pub method_of : Design → List ℕ → Process
method_of d senses = record { object = top; sort = Combinational (map member senses); body = body_of d.ports d.puts }

abbrev pub source_of : Design → running.Design
source_of d = record {
  places = record { things = thing_at d.ports; pointers = λ l. false };
  functions = λ n. statement.End;
  ports = ports_from 0 d.ports;
  fixed = λ l. None;
  constant = λ l. None;
  targets = λ l. None;
  processes = method_of d d.senses ∷ [];
}

-- the name of a port at its member; nothing else has a name
abbrev pub text_in : List Port → Root → List Part → List ℕ
text_in ports Top (Member i ∷ []) = unwrap_or (option_map (λ p. p.name) (slice_get ports i)) []
text_in ports _ _ = []

abbrev pub text_of : Design → Location → List ℕ
text_of d l = text_in d.ports l.root l.path
