-- What construction does to what is made, one change after another.
use Rattle.std.specs.Prelude.{◌≡◌, ℕ, ◌+◌, ◌<◌, ◌≤◌, Bool, true, false, List, [], ◌∷◌, ◌++◌, length, Option, Some, None, slice_get}
use Rattle.scc_base.specs.declared.refusal.Place.{Place}
use Rattle.scc_bits_kinds.specs.declared.kind.Kind.{Kind}
use Rattle.scc_semantics.specs.Location.{Location, Part, Root, Top}
use Rattle.scc_core_spec.specs.Resolved.{Tried, Made, Stopped}
use Rattle.scc_elab_spec.specs.Program.{Plain, Class}
use Rattle.scc_elab_spec.specs.Design.{Object, Node, Module, Port, Signal, Variable, Pointer, is_module}
use Rattle.scc_elab_spec.specs.Grown.{Grown, Bound, Item, ResetItem, Declared, node_of, with_word, with_target, with_made, with_vector, with_turn, with_bound, with_declared, bits_of}
use Rattle.scc_elab_spec.specs.Binding.{home, is_top, path_of, may_bind, may_run, runs_already, is_channel, changed_at, with_items, with_reset}
use Rattle.scc_elab_spec.specs.Construct.{is_local}
use Rattle.scc_elab_growth_laws.specs.Sites.{kind_in, points_in}

pub data Change : Type 0 where
  -- a location takes a word, and a pointer a target
  Word : (l : Location) (word : ℕ) → Change
  Aim : (l : Location) (target : Option Location) → Change
  -- `new` is assigned to a path
  New : (path : List Part) → Change
  Vector : (path : List Part) (size : ℕ) → Change
  Turn : Change
  Bind : (bound : Bound) → Change
  -- a process is declared, and is given items or a reset
  Process : (declared : Declared) → Change
  Items : (number : ℕ) (items : List Item) → Change
  Reset : (number : ℕ) (reset : ResetItem) → Change
  Add : (path : List Part) (place : Place) (node : Node) → Change

abbrev pub with_object : Grown → List Part → Place → Node → Grown
with_object g path place node = record { objects = g.objects ++ record { path = path; place = place; node = node } ∷ []; store = g.store; bound = g.bound; made = g.made; vectors = g.vectors; declared = g.declared; turns = g.turns; bits = g.bits + bits_of node }

abbrev pub changed_by : Change → Grown → Grown
changed_by (Word l w) g = with_word g l w
changed_by (Aim l t) g = with_target g l t
changed_by (New path) g = with_made g path
changed_by (Vector path n) g = with_vector g path n
changed_by Turn g = with_turn g
changed_by (Bind b) g = with_bound g b
changed_by (Process d) g = with_declared g (g.declared ++ d ∷ [])
changed_by (Items k is) g = with_declared g (changed_at k (with_items is) g.declared)
changed_by (Reset k r) g = with_declared g (changed_at k (with_reset r) g.declared)
changed_by (Add path place node) g = with_object g path place node

-- a pointer of an object leads to no local
abbrev pub LeadsWell : Root → Option Location → Type 0
LeadsWell Top t = is_local t ≡ false
LeadsWell r t = Unit {0}

-- what a port is bound to
pub record IsBindable (g : Grown) (b : Bound) : Type 0 where
  pub kind : Kind
  pub output : Bool
  pub root : ℕ
  pub port : node_of g b.port ≡ Some (Port kind output root)
  pub inside : is_top (home g (path_of g b.port)) ≡ false
  pub fits : may_bind g (home g (path_of g b.port)) kind output b.to (node_of g b.to) ≡ true

-- the object of that number is one of a class
pub record IsModule (g : Grown) (n : ℕ) : Type 0 where
  pub object : Object
  pub there : slice_get g.objects n ≡ Some object
  pub is_one : is_module object.node ≡ true

abbrev pub IsChannel : Grown → Option ℕ → Type 0
IsChannel g None = Unit {0}
IsChannel g (Some n) = is_channel (node_of g n) ≡ true

abbrev pub AllChannels : Grown → List Item → Type 0
AllChannels g [] = Unit {0}
AllChannels g (i ∷ is) = IsChannel g i.signal × AllChannels g is

-- what an object is when it is added
abbrev pub IsNew : Plain → Grown → Node → Type 0
IsNew p g (Module n) = (c : Class) × (slice_get p.classes n ≡ Some c)
IsNew p g (Port k output r) = r ≡ length g.objects
IsNew p g (Signal k) = Unit {0}
IsNew p g (Variable k w) = w ≡ 0
IsNew p g (Pointer t) = t ≡ None

pub record IsDeclared (p : Plain) (g : Grown) (d : Declared) : Type 0 where
  pub object : IsModule g d.object
  pub function : may_run (slice_get p.functions d.function) ≡ true
  pub once : runs_already g d.object d.function ≡ false
  pub items : AllChannels g d.items
  pub resets : d.resets ≡ []

-- the changes that construction makes; where no number stands only 0 is held, where no pointer stands only null
abbrev pub IsAllowed : Plain → Grown → Change → Type 0
IsAllowed p g (Word l w) = kind_in p g l ≡ None → w ≡ 0
IsAllowed p g (Aim l t) = LeadsWell l.root t × (points_in p g l ≡ false → t ≡ None)
IsAllowed p g (New path) = g.made path ≡ false
IsAllowed p g (Vector path n) = Unit {0}
IsAllowed p g Turn = g.turns < 65536
IsAllowed p g (Bind b) = (g.bound b.port ≡ None) × IsBindable g b
IsAllowed p g (Process d) = IsDeclared p g d
IsAllowed p g (Items k is) = AllChannels g is
IsAllowed p g (Reset k r) = IsChannel g r.signal
IsAllowed p g (Add path place node) = (length g.objects < 65536) × (length path ≤ 64) × IsNew p g node

-- one grows out of the other by such changes
pub data Grows (p : Plain) (g : Grown) : Grown → Type 0 where
  Same : Grows p g g
  Then : (h : Grown) → Grows p g h → (c : Change) → IsAllowed p h c → Grows p g (changed_by c h)

-- what is made grows, unless something is refused
abbrev pub GrowsTo : Plain → Grown → Tried Grown → Type 0
GrowsTo p g (Made h) = Grows p g h
GrowsTo p g (Stopped r) = Unit {0}

-- two that are the same, and grow
abbrev pub SameGrowth : Plain → Grown → (t u : Tried Grown) → Type 0
SameGrowth p g t u = (u ≡ t) × GrowsTo p g t
