-- What stands at a location, by the declarations (C++, [expr.ref], [expr.sub]; IEEE 1666-2011, 8.5).
use Rattle.std.specs.Prelude.{ℕ, ◌-◌, Bool, true, false, not, ◌&&◌, nat_eq, nat_lt, if◌then◌else◌, List, length, Option, Some, None, option_map, option_and_then, slice_get}
use Rattle.scc_plain_tree.specs.declared.program.Base.{Base}
use Rattle.scc_plain_tree.specs.declared.program.Base.TheVariants as base
use Rattle.scc_plain_tree.specs.declared.program.Reach.{Reach}
use Rattle.scc_plain_tree.specs.declared.program.Reach.TheVariants as reach
use Rattle.scc_plain_tree.specs.declared.program.Shape.{Shape}
use Rattle.scc_plain_tree.specs.declared.program.PlainClass.{PlainClass}
use Rattle.scc_plain_tree.specs.declared.program.PlainFunction.{PlainFunction}
use Rattle.scc_plain_tree.specs.declared.program.Plain.{Plain}
use Rattle.scc_plain_look.specs.declared.held.Held.{Held}

-- what stands round an expression: its program and function, and the functions that are called before it
pub record Around : Type 0 where
  pub plain : Plain
  pub function : PlainFunction
  pub calls : List ℕ

abbrev pub around : Plain → PlainFunction → List ℕ → Around
around p f calls = record { plain = p; function = f; calls = calls }

-- one thing by itself
abbrev pub direct : Base → Held
direct b = record { base = b; reach = reach.Direct; vector = false; dims = 0 }

abbrev pub held_by : Shape → Held
held_by s = record { base = s.base; reach = s.reach; vector = s.vector; dims = length s.sizes }

abbrev pub is_pointer : Reach → Bool
is_pointer reach.Direct = false
is_pointer reach.Pointer = true
is_pointer reach.Reference = false

abbrev pub is_direct : Reach → Bool
is_direct reach.Direct = true
is_direct reach.Pointer = false
is_direct reach.Reference = false

-- nothing of an array, vector or pointer is left to take
abbrev pub is_single : Held → Bool
is_single h = nat_eq h.dims 0 && (not h.vector && not (is_pointer h.reach))

abbrev pub is_number_base : Base → Bool
is_number_base (base.Number k) = true
is_number_base (base.Class c) = false
is_number_base (base.Input k) = false
is_number_base (base.Output k) = false
is_number_base (base.Signal k) = false
is_number_base base.ModuleName = false

abbrev pub is_port_base : Base → Bool
is_port_base (base.Number k) = false
is_port_base (base.Class c) = false
is_port_base (base.Input k) = true
is_port_base (base.Output k) = true
is_port_base (base.Signal k) = true
is_port_base base.ModuleName = false

-- a number, and a port or signal
abbrev pub is_number : Held → Bool
is_number h = is_number_base h.base && is_single h

abbrev pub is_port : Held → Bool
is_port h = is_port_base h.base && is_single h

-- a pointer or reference
abbrev pub is_leading : Held → Bool
is_leading h = not (is_direct h.reach) && nat_eq h.dims 0

-- what a pointer leads to
abbrev pub followed : Held → Option Held
followed h = if is_pointer h.reach && nat_eq h.dims 0 then Some (record { base = h.base; reach = reach.Direct; vector = h.vector; dims = 0 }) else None

-- an element of an array or vector
abbrev pub element : Held → Option Held
element h =
    if nat_lt 0 h.dims then Some (record h { dims = h.dims - 1 })
    else (if h.vector && not (is_pointer h.reach) then Some (direct h.base) else None)

abbrev pub member_of : Option PlainClass → ℕ → Option Held
member_of None n = None
member_of (Some c) n = option_map (λ m. held_by m.shape) (slice_get c.members n)

abbrev pub class_member : Plain → Base → ℕ → Option Held
class_member p (base.Number k) n = None
class_member p (base.Class c) n = member_of (slice_get p.classes c) n
class_member p (base.Input k) n = None
class_member p (base.Output k) n = None
class_member p (base.Signal k) n = None
class_member p base.ModuleName n = None

-- the member of that number
abbrev pub member : Plain → ℕ → Held → Option Held
member p n h = if is_single h then class_member p h.base n else None

abbrev pub local : PlainFunction → ℕ → Option Held
local f n = option_map (λ m. held_by m.shape) (slice_get f.locals n)

-- the object whose function it is
abbrev pub this : PlainFunction → Option Held
this f = option_map (λ c. direct (base.Class c)) f.class

abbrev pub result_of : Option PlainFunction → Option Held
result_of None = None
result_of (Some f) = option_map (λ k. direct (base.Number k)) f.result

-- the result of the call of that number
abbrev pub answer : Plain → List ℕ → ℕ → Option Held
answer p calls n = option_and_then (λ f. result_of (slice_get p.functions f)) (slice_get calls n)
