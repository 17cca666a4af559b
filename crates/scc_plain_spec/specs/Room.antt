-- What a walk over a body adds to: its local variables, and the calls that stand before the statement in work. Statements are written once it is known which numbers
-- classes and functions have. This project's own.
use Rattle.std.specs.Prelude.{ℕ, ◌+◌, nat_eq, List, [], ◌∷◌, ◌++◌, length, find, option_map, slice_get, is_some, Option}
use Rattle.scc_base.specs.declared.refusal.Place.{Place}
use Rattle.scc_bits_kinds.specs.declared.kind.Kind.{Kind}
use Rattle.scc_templates_spec.specs.Walk.{Args, Callee}
use Rattle.scc_templates_spec.specs.Walked.{Walked, pure, and_walk}
use Rattle.scc_templates_spec.specs.World.{Owner}
use Rattle.scc_elab_spec.specs.Term.{Left, Argument}
use Rattle.scc_elab_spec.specs.Program.{Code, Call}
use Rattle.scc_elab_spec.specs.Program as code
use Rattle.scc_plain_spec.specs.Types.{Base, OfNumber, OfObject, InPort, OutPort, OfSignal, OfName}
use Rattle.scc_plain_spec.specs.Names.{Naming}
use Rattle.scc_plain_spec.specs.Scope.{Scope}
use Rattle.scc_plain_spec.specs.Forms.{Form, Shape, form_of}

-- the numbers of classes with arguments and of functions in the program
pub record Numbering : Type 0 where
  pub class : ℕ → Args → ℕ
  pub function : Callee → ℕ

-- statements before what follows them
abbrev pub Writes : Type 0
Writes = Numbering → Code → Code

abbrev pub nothing : Writes
nothing n c = c

abbrev pub then_write : Writes → Writes → Writes
then_write f g n c = f n (g n c)

abbrev pub base_number : Numbering → Base → code.Base
base_number n (OfNumber k) = code.Number k
base_number n (OfObject c as_given) = code.OfClass (n.class c as_given)
base_number n (InPort k) = code.Input k
base_number n (OutPort k) = code.Output k
base_number n (OfSignal k) = code.Signal k
base_number n OfName = code.Named

-- a local variable; its number is its place
pub record Local : Type 0 where
  pub name : ℕ
  pub place : Place
  pub shape : Shape

pub record Room : Type 0 where
  pub locals : List Local
  -- how many calls there were so far
  pub calls : ℕ
  -- those of the statement in work
  pub lifted : Writes

abbrev pub no_room : Room
no_room = record { locals = []; calls = 0; lifted = nothing }

pub record With (A : Type 0) : Type 0 where
  pub it : A
  pub room : Room

abbrev pub Step : Type 0 → Type 0
Step A = Room → Walked (With A)

abbrev pub done : {A : Type 0} → A → Step A
done x r = pure (record { it = x; room = r })

-- what needs no room
abbrev pub found : {A : Type 0} → Walked A → Step A
found w r = and_walk w (λ x. pure (record { it = x; room = r }))

abbrev pub and_step : {A B : Type 0} → Step A → (A → Step B) → Step B
and_step f g r = and_walk (f r) (λ x. g x.it x.room)

-- with the room at that moment
abbrev pub in_room : {A : Type 0} → (Room → Walked A) → Step A
in_room f r = and_walk (f r) (λ x. pure (record { it = x; room = r }))

-- a further local variable: its number
abbrev pub declare : Local → Step ℕ
declare l r = pure (record { it = length r.locals; room = record { locals = r.locals ++ l ∷ []; calls = r.calls; lifted = r.lifted } })

-- a further call before the statement in work: its number
abbrev pub lift : Callee → Option Left → List Argument → Place → Step ℕ
lift f object as_given p r = pure (record { it = r.calls; room = record { locals = r.locals; calls = r.calls + 1; lifted = then_write r.lifted (λ n c. Call p r.calls (n.function f) object as_given c) } })

-- the calls of the statement in work and then the statement
abbrev pub written : Writes → Step Writes
written s r = pure (record { it = then_write r.lifted s; room = record { locals = r.locals; calls = r.calls; lifted = nothing } })

-- the name of a local variable
pub record Known : Type 0 where
  pub name : ℕ
  pub local : ℕ

abbrev pub known_as : List Known → ℕ → Option ℕ
known_as ks x = option_map (λ k. k.local) (find (λ k. nat_eq k.name x) ks)

abbrev pub local_form : Room → ℕ → Option Form
local_form r n = option_map (λ l. form_of l.shape) (slice_get r.locals n)

-- around a body: whose it is, and the kind of its result
pub record Around : Type 0 where
  pub owner : Owner
  pub own : List Naming
  pub result : Option Kind

abbrev pub scope_in : Around → List Known → Scope
scope_in a ks = record { owner = a.owner; own = a.own; is_local = λ x. is_some (known_as ks x) }
