-- Modules with memories without wrong sizes, names, drivers and cycles (IEEE 1800-2017, 5.6, 7.4.2, 9.2.2, 11.5.1): as for any module, with memories among the
-- names, and each memory written at one edge.
use Rattle.std.specs.Prelude.{◌≡◌, ◌≢◌, ℕ, ◌<◌, ◌≤◌, ◌^◌, nat_eq, Bool, true, false, ◌||◌, List, [], ◌∷◌, map, flat_map, length, Option, Some, None, slice_get}
use Rattle.std.specs.List.{list_any}
use Rattle.scc_svtree.specs.declared.module.SvVar.{SvVar}
use Rattle.scc_svtree.specs.Variables.{width_at, IsWidth}
use Rattle.scc_svtree.specs.Sized.{IsSized}
use Rattle.scc_svtree.specs.Mentions.{reads, code_reads, assigns}
use Rattle.scc_svtree.specs.Fresh.{IsFresh}
use Rattle.scc_svtree.specs.Settled.{Order}
use Rattle.scc_svtree.specs.Steps.{input_at}
use Rattle.scc_svtree.specs.Sound.{Each, IsSizedCode, Distinct, IsPartOf, IsOneBitInput, PortsFirst, AreNamed, IsNotNamed, is_simple, is_among}
use Rattle.scc_blocks_spec.specs.Renamed.{BlockCode, Comb, Edge, Register, ResetCode, Loaded}
use Rattle.scc_memory_spec.specs.Memory as memory
use Rattle.scc_memory_spec.specs.Memory.{MemBlock, Memory, MemModule, combs_of}
use Rattle.scc_memory_spec.specs.Steps.{is_clock}
use Rattle.scc_memory_spec.specs.Likened.{block_like, code_like}

-- ---- a block without the lines that write memories

abbrev pub loads_of : Option ResetCode → List Loaded
loads_of None = []
loads_of (Some r) = r.values

abbrev pub targets : List Register → List ℕ
targets ss = map (λ s. s.target) ss

abbrev pub load_targets : Option ResetCode → List ℕ
load_targets r = map (λ l. l.target) (loads_of r)

abbrev pub IsSizedBlock : (ℕ → ℕ) → BlockCode → Type 0
IsSizedBlock width (Comb c) = IsSizedCode width c
IsSizedBlock width (Edge rising clock reset sets) = Each (λ s. IsSized width s.value) sets × Each (λ l. l.word < 2 ^ width l.target) (loads_of reset)

abbrev pub block_reads : BlockCode → ℕ → Bool
block_reads (Comb c) v = code_reads c v
block_reads (Edge rising clock reset sets) v = list_any (λ s. reads s.value v) sets

abbrev pub block_assigns : BlockCode → ℕ → Bool
block_assigns (Comb c) v = assigns c v
block_assigns (Edge rising clock reset sets) v = is_among (targets sets) v || is_among (load_targets reset) v

abbrev pub is_reset : Option ResetCode → ℕ → Bool
is_reset None v = false
is_reset (Some r) v = nat_eq r.signal v

-- its clock or its reset
abbrev pub starts_with : BlockCode → ℕ → Bool
starts_with (Comb c) v = false
starts_with (Edge rising clock reset sets) v = nat_eq clock v || is_reset reset v

abbrev pub IsFreshBlock : BlockCode → Type 0
IsFreshBlock (Comb c) = IsFresh c
IsFreshBlock (Edge rising clock reset sets) = Distinct (targets sets)

-- the same clock and edge
abbrev pub AgreesWith : Bool → ℕ → BlockCode → Type 0
AgreesWith rising clock (Comb c) = Unit {0}
AgreesWith rising clock (Edge rising' clock' reset sets) = (rising' ≡ rising) × (clock' ≡ clock)

abbrev pub AgreeOnClock : BlockCode → List BlockCode → Type 0
AgreeOnClock (Comb c) bs = Unit {0}
AgreeOnClock (Edge rising clock reset sets) bs = Each (AgreesWith rising clock) bs

-- ---- memories

-- the memories that a block writes
abbrev pub written : MemBlock → List ℕ
written (memory.Comb c) = []
written (memory.Edge rising clock reset sets ks) = ks

abbrev pub writers_of : Option Memory → List ℕ
writers_of None = []
writers_of (Some b) = b.write ∷ b.address ∷ b.value ∷ []

-- the variables by which a block writes memories
abbrev pub writers : List Memory → MemBlock → List ℕ
writers ms b = flat_map (λ k. writers_of (slice_get ms k)) (written b)

-- A memory has a width, an element at least, and declared variables that write it, the value as wide as an element.
pub record IsSoundPart (vars : List SvVar) (b : Memory) : Type 0 where
  pub width : IsWidth b.width
  pub size : 1 ≤ b.size
  pub declared : Each (λ v. v < length vars) (writers_of (Some b))
  pub value : width_at vars b.value ≡ b.width

abbrev pub IsNoMemory : List ℕ → List Memory → Type 0
IsNoMemory name [] = Unit {0}
IsNoMemory name (b ∷ bs) = (name ≢ b.name) × IsNoMemory name bs

-- a memory has a name that no variable and no other memory has
abbrev pub AreMemoriesNamed : List SvVar → List Memory → Type 0
AreMemoriesNamed vars [] = Unit {0}
AreMemoriesNamed vars (b ∷ bs) = (is_simple b.name ≡ true) × IsNotNamed b.name vars × IsNoMemory b.name bs × AreMemoriesNamed vars bs

-- they stand in the order of the variables that tell whether they are written, one for each
abbrev pub AreInOrder : List Memory → Type 0
AreInOrder [] = Unit {0}
AreInOrder (b ∷ bs) = Each (λ c. b.write < c.write) bs × AreInOrder bs

-- ---- modules

abbrev pub blocks_like : MemModule → List BlockCode
blocks_like m = map (block_like m.memories) m.blocks

abbrev pub IsSoundReset : MemModule → Option ResetCode → List Register → Type 0
IsSoundReset m None sets = Unit {0}
IsSoundReset m (Some r) sets = IsOneBitInput m.vars r.signal × (is_clock m.blocks r.signal ≡ false) × IsPartOf (load_targets (Some r)) (targets sets)

-- A clock is a one-bit input that no expression reads, and that writes no memory.
abbrev pub IsSoundEdge : MemModule → BlockCode → Type 0
IsSoundEdge m (Comb c) = Unit {0}
IsSoundEdge m (Edge rising clock reset sets) = IsOneBitInput m.vars clock × Each (λ b. block_reads b clock ≡ false) (blocks_like m)
    × Each (λ b. is_among (writers m.memories b) clock ≡ false) m.blocks × IsSoundReset m reset sets

-- A module with memories without faults, of one clock.
pub record IsSoundMemory (m : MemModule) : Type 0 where
  pub name : is_simple m.name ≡ true
  pub ports : PortsFirst m.vars
  pub widths : Each (λ v. IsWidth v.width) m.vars
  pub sizes : Each (IsSizedBlock (width_at m.vars)) (blocks_like m)
  pub names : AreNamed m.vars
  pub declared : (v : ℕ) → Each (λ b. (block_reads b v || (block_assigns b v || starts_with b v)) ≡ true → v < length m.vars) (blocks_like m)
  -- memories
  pub memories : AreMemoriesNamed m.vars m.memories
  pub parts : Each (IsSoundPart m.vars) m.memories
  pub in_order : AreInOrder m.memories
  pub one_writer : (k : ℕ) → k < length m.memories → (j : ℕ) × ((i : ℕ) (b : MemBlock) → slice_get m.blocks i ≡ Some b → is_among (written b) k ≡ nat_eq i j) × (j < length m.blocks)
  pub written_once : Each (λ b. Distinct (written b)) m.blocks
  -- drivers
  pub inputs_kept : (v : ℕ) → input_at m.vars v ≡ true → Each (λ b. block_assigns b v ≡ false) (blocks_like m)
  pub one_driver : (j k v : ℕ) (a b : BlockCode) → slice_get (blocks_like m) j ≡ Some a → slice_get (blocks_like m) k ≡ Some b → block_assigns a v ≡ true → block_assigns b v ≡ true → j ≡ k
  pub driven : (v : ℕ) → v < length m.vars → input_at m.vars v ≡ false → (k : ℕ) × (b : BlockCode) × (slice_get (blocks_like m) k ≡ Some b) × (block_assigns b v ≡ true)
  pub fresh : Each IsFreshBlock (blocks_like m)
  pub edges : Each (IsSoundEdge m) (blocks_like m)
  pub one_clock : Each (λ b. AgreeOnClock b (blocks_like m)) (blocks_like m)
  -- cycles
  pub order : Order (map (code_like m.memories) (combs_of m.blocks))
