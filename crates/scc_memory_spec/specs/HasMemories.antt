-- A module with the taken arrays of another as memories: what it keeps, and that both show the same (IEEE 1800-2017, 9.2.2.4; that arrays give way to memories is
-- this project's own).
use Rattle.std.specs.Prelude.{◌≡◌, ◌<◌, ◌≤◌, ◌^◌, ◌*◌, ◌-◌, codes, ℕ, nat_eq, true, false, List, [], ◌∷◌, length, Option, Some, None, slice_get}
use Rattle.std.specs.List.{list_any}
use Rattle.scc_semantics.specs.Location.{Location}
use Rattle.scc_semantics.specs.Run as run
use Rattle.scc_semantics.specs.Statement.{Shot, Seen}
use Rattle.scc_semantics.specs.Design.{Design}
use Rattle.scc_svtree.specs.declared.module.SvModule.{SvModule}
use Rattle.scc_svtree.specs.declared.module.SvVar.{SvVar}
use Rattle.scc_blocks_spec.specs.Emitted as plain
use Rattle.scc_memory_spec.specs.Array.{Array, element_name, with_part, is_of, var_named, width_of}
use Rattle.scc_memory_spec.specs.Taken.{IsTaken}
use Rattle.scc_memory_spec.specs.Memory.{MemModule, Memory, Valuation}
use Rattle.scc_memory_spec.specs.Steps.{Runs, register}

-- A memory stands for a taken array.
pub record StandsFor (m : SvModule) (b : Memory) (a : Array) : Type 0 where
  pub taken : IsTaken m a
  pub name : b.name ≡ a.name
  pub size : b.size ≡ length a.elements
  pub width : (v : ℕ) → list_any (nat_eq v) a.elements ≡ true → width_of m.vars v ≡ b.width

abbrev pub SameShot : Shot → Shot → Type 0
SameShot a b = (a.outputs ≡ b.outputs) × ((l : Location) → a.registers l ≡ b.registers l)

abbrev pub SameAfter : Option Shot → Option Shot → Type 0
SameAfter None None = Unit {0}
SameAfter (Some a) (Some b) = SameShot a b
SameAfter _ _ = ⊥

abbrev pub AllSame : List Seen → List Seen → Type 0
AllSame [] [] = Unit {0}
AllSame (a ∷ more) (b ∷ rest) = SameShot a.before b.before × SameAfter a.after b.after × AllSame more rest
AllSame _ _ = ⊥

-- Valuations agree in all registers: word i of a memory is that of its element i, and every other register has one word, whatever the names of locations are, so
-- that those of threads' states and counters are among them. Neither module has a register that the other has not.
abbrev pub Agree : SvModule → MemModule → (ℕ → ℕ) → Valuation → Type 0
Agree m n x y = (text : Location → List ℕ) (l : Location) → plain.register text m x l ≡ register text n y l

-- Of an array that gave way to a memory no element and no next value is left.
abbrev pub IsGone : MemModule → Array → Type 0
IsGone n a = (k : ℕ) → k < length a.elements → (var_named n.vars (element_name a.name k) ≡ None) × (var_named n.vars (with_part (element_name a.name k) (codes "n")) ≡ None)

-- What writes a memory: one bit, the fewest bits that hold the number of the last element, and an element's bits; `$$w`, `$$a` and `$$d` behind the name.
pub record HasParts (n : MemModule) (b : Memory) : Type 0 where
  pub write : var_named n.vars (with_part b.name (codes "w")) ≡ Some b.write
  pub address : var_named n.vars (with_part b.name (codes "a")) ≡ Some b.address
  pub value : var_named n.vars (with_part b.name (codes "d")) ≡ Some b.value
  pub one_bit : width_of n.vars b.write ≡ 1
  pub holds_last : b.size - 1 < 2 ^ width_of n.vars b.address
  pub fewest : 2 ^ width_of n.vars b.address ≤ 2 * (b.size - 1)
  pub element_wide : width_of n.vars b.value ≡ b.width

-- A module with its taken arrays as memories, and no other. Elements and next values are gone, every other variable stays; word i of a memory is that of its
-- element i. From valuations that agree both go through the same steps and show the same, in outputs and in all registers.
pub record HasMemories (m : SvModule) (n : MemModule) : Type 0 where
  pub only : (k : ℕ) (b : Memory) → slice_get n.memories k ≡ Some b → (a : Array) × StandsFor m b a
  pub all : (a : Array) → IsTaken m a → (k : ℕ) × (b : Memory) × (slice_get n.memories k ≡ Some b) × StandsFor m b a
  pub apart : (j k : ℕ) (b c : Memory) → slice_get n.memories j ≡ Some b → slice_get n.memories k ≡ Some c → b.name ≡ c.name → j ≡ k
  pub parts : (k : ℕ) (b : Memory) → slice_get n.memories k ≡ Some b → HasParts n b
  pub name : n.name ≡ m.name
  pub gone : (a : Array) → IsTaken m a → IsGone n a
  pub others : (v : ℕ) (x : SvVar) → slice_get m.vars v ≡ Some x → ((a : Array) → IsTaken m a → is_of a v ≡ false) → (u : ℕ) × (slice_get n.vars u ≡ Some x)
  pub words : (x : ℕ → ℕ) (y : Valuation) → Agree m n x y → (k i v : ℕ) (b : Memory) (a : Array) → slice_get n.memories k ≡ Some b → StandsFor m b a
      → slice_get a.elements i ≡ Some v → y.elements k i ≡ x v
  -- for each valuation of the one there is one of the other that agrees
  pub agrees : (x : ℕ → ℕ) → (y : Valuation) × Agree m n x y
  pub back : (y : Valuation) → (x : ℕ → ℕ) × Agree m n x y
  pub runs : (x : ℕ → ℕ) (y : Valuation) → Agree m n x y → (text : Location → List ℕ) (d : Design) (steps : List run.Step) (a : List Seen) → plain.Runs text d m x steps a
      → (b : List Seen) × Runs text d n y steps b
  pub same : (x : ℕ → ℕ) (y : Valuation) → Agree m n x y → (text : Location → List ℕ) (d : Design) (steps : List run.Step) (a b : List Seen) → plain.Runs text d m x steps a → Runs text d n y steps b
      → AllSame a b
