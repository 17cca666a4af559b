-- What construction has made so far (IEEE 1666-2011, 4.1: elaboration), and its limits, which are this project's own.
use Rattle.std.specs.Prelude.{ℕ, ◌+◌, Bool, true, false, ◌&&◌, ◌||◌, nat_eq, nat_lt, nat_le, List, [], ◌∷◌, ◌++◌, length, Option, Some, None, option_map, option_and_then, slice_get, position, if◌then◌else◌}
use Rattle.scc_base.specs.declared.refusal.Place.{Place}
use Rattle.scc_base.specs.declared.code.Code.TheVariants as reason
use Rattle.scc_bits_kinds.specs.declared.kind.Kind.{Kind}
use Rattle.scc_bits_kinds.specs.Kinds.{width_of}
use Rattle.scc_semantics.specs.Location.{Location, Part, Root, Top, Local, same_path}
use Rattle.scc_semantics.specs.Store.{Store, changed}
use Rattle.scc_core_spec.specs.First.{refused}
use Rattle.scc_core_spec.specs.Resolved.{Tried, Made, Stopped}
use Rattle.scc_elab_spec.specs.Design.{Object, Node, Port, Signal, Variable, Pointer, VectorSize}

-- a port's binding: the object that it is bound to, and where
pub record Bound : Type 0 where
  pub port : ℕ
  pub to : ℕ
  pub place : Place

-- an item of a sensitivity, with the port or signal that it names, if any
pub record Item : Type 0 where
  pub place : Place
  pub signal : Option ℕ
  pub rising : Option Bool

pub record ResetItem : Type 0 where
  pub place : Place
  pub signal : Option ℕ
  pub level : Bool
  pub asynchronous : Bool

-- a process that a constructor declared
pub record Declared : Type 0 where
  pub object : ℕ
  pub function : ℕ
  pub place : Place
  pub is_thread : Bool
  pub items : List Item
  pub resets : List ResetItem

-- The words and targets of objects stand at their paths, those of a constructor's locals at locals of the object that is made. What nothing made reads as
-- 0 or null.
pub record Grown : Type 0 where
  pub objects : List Object
  pub store : Store
  -- of a port by its number
  pub bound : ℕ → Option Bound
  -- whether `new` was assigned to a path
  pub made : List Part → Bool
  pub vectors : List VectorSize
  pub declared : List Declared
  pub turns : ℕ
  pub bits : ℕ

abbrev pub nothing : Grown
nothing = record { objects = []; store = record { words = λ l. 0; targets = λ l. None }; bound = λ n. None; made = λ path. false; vectors = []; declared = []; turns = 0; bits = 0 }

abbrev pub at_path : List Part → Location
at_path path = record { root = Top; path = path }

abbrev pub local_of : ℕ → ℕ → List Part → Location
local_of object n path = record { root = Local object [] n; path = path }

abbrev pub is_pointer : Node → Bool
is_pointer (Pointer t) = true
is_pointer n = false

-- a port, signal or variable
abbrev pub is_thing : Node → Bool
is_thing (Port k o r) = true
is_thing (Signal k) = true
is_thing (Variable k w) = true
is_thing n = false

abbrev pub object_at : (Node → Bool) → Grown → List Part → Option ℕ
object_at test g path = position (λ o. test o.node && same_path o.path path) g.objects

abbrev pub node_of : Grown → ℕ → Option Node
node_of g n = option_map (λ o. o.node) (slice_get g.objects n)

abbrev pub path_if_top : Location → Option (List Part)
path_if_top l = by_root l.root
  where
    by_root : Root → Option (List Part)
    by_root Top = Some l.path
    by_root r = None

abbrev pub thing_at : Grown → Location → Option ℕ
thing_at g l = option_and_then (object_at is_thing g) (path_if_top l)

abbrev pub pointer_at : Grown → Location → Option ℕ
pointer_at g l = option_and_then (object_at is_pointer g) (path_if_top l)

abbrev pub variable_kind : Option Node → Option Kind
variable_kind (Some (Variable k w)) = Some k
variable_kind n = None

abbrev pub with_store : Grown → Store → Grown
with_store g s = record { objects = g.objects; store = s; bound = g.bound; made = g.made; vectors = g.vectors; declared = g.declared; turns = g.turns; bits = g.bits }

abbrev pub with_word : Grown → Location → ℕ → Grown
with_word g l w = with_store g (record { words = changed l w g.store.words; targets = g.store.targets })

abbrev pub with_target : Grown → Location → Option Location → Grown
with_target g l t = with_store g (record { words = g.store.words; targets = changed l t g.store.targets })

abbrev pub with_declared : Grown → List Declared → Grown
with_declared g ds = record { objects = g.objects; store = g.store; bound = g.bound; made = g.made; vectors = g.vectors; declared = ds; turns = g.turns; bits = g.bits }

abbrev pub with_bound : Grown → Bound → Grown
with_bound g b = record { objects = g.objects; store = g.store; bound = λ n. if nat_eq b.port n then Some b else g.bound n; made = g.made; vectors = g.vectors; declared = g.declared; turns = g.turns; bits = g.bits }

abbrev pub with_made : Grown → List Part → Grown
with_made g path = record { objects = g.objects; store = g.store; bound = g.bound; made = λ q. same_path path q || g.made q; vectors = g.vectors; declared = g.declared; turns = g.turns; bits = g.bits }

abbrev pub with_vector : Grown → List Part → ℕ → Grown
with_vector g path n = record { objects = g.objects; store = g.store; bound = g.bound; made = g.made; vectors = g.vectors ++ record { path = path; size = n } ∷ []; declared = g.declared; turns = g.turns; bits = g.bits }

abbrev pub with_turn : Grown → Grown
with_turn g = record { objects = g.objects; store = g.store; bound = g.bound; made = g.made; vectors = g.vectors; declared = g.declared; turns = g.turns + 1; bits = g.bits }

abbrev pub bits_of : Node → ℕ
bits_of (Signal k) = width_of k
bits_of (Variable k w) = width_of k
bits_of n = 0

-- one more object: at most 65,536, with paths of at most 64 parts (E410), and 1,048,576 bits (E411)
abbrev pub added : Grown → List Part → Place → Node → Tried Grown
added g path place node = if nat_le 65536 (length g.objects) || nat_lt 64 (length path) then Stopped (refused reason.TooManyObjects place)
    else (if nat_lt 1048576 (g.bits + bits_of node) then Stopped (refused reason.StorageTooLarge place)
    else Made (record { objects = g.objects ++ record { path = path; place = place; node = node } ∷ []; store = g.store; bound = g.bound; made = g.made; vectors = g.vectors; declared = g.declared; turns = g.turns; bits = g.bits + bits_of node }))
