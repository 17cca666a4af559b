-- Modules without wrong sizes, names, drivers and cycles. Each part has its refusal where a text breaks it.
use Rattle.std.specs.Prelude.{◌≡◌, ◌≢◌, ℕ, ◌<◌, ◌^◌, nat_eq, nat_le, Bool, true, false, ◌||◌, ◌&&◌, List, [], ◌∷◌, length, map, Option, Some, None, slice_index_or, ◌⊎◌}
use Rattle.std.specs.List.{list_any}
use Rattle.scc_svtree.specs.declared.module.SvModule.{SvModule}
use Rattle.scc_svtree.specs.declared.module.SvVar.{SvVar}
use Rattle.scc_svtree.specs.declared.module.Dir.TheVariants.{Inner}
use Rattle.scc_svtree.specs.declared.module.SvBlock.{SvBlock}
use Rattle.scc_svtree.specs.declared.module.SvBlock.TheVariants.{Comb, Edge}
use Rattle.scc_svtree.specs.declared.module.SvSet.{SvSet}
use Rattle.scc_svtree.specs.declared.module.SvReset.{SvReset}
use Rattle.scc_svtree.specs.declared.module.SvLoad.{SvLoad}
use Rattle.scc_svtree.specs.Variables.{width_at, IsWidth}
use Rattle.scc_svtree.specs.Term.{term_of}
use Rattle.scc_svtree.specs.Sizes.{length_of}
use Rattle.scc_svtree.specs.Sized.{IsSelect, IsSized}
use Rattle.scc_svtree.specs.Code.{Code, End, Assign, If, Case, Arms, None, Arm, code_of}
use Rattle.scc_svtree.specs.Mentions.{reads, code_reads, assigns, mentions}
use Rattle.scc_svtree.specs.Fresh.{IsFresh}
use Rattle.scc_svtree.specs.Settled.{combs_of, Order}
use Rattle.scc_svtree.specs.Concats.{block_concats}
use Rattle.scc_svtree.specs.Steps.{input_at, is_clock}

-- it holds of each element
abbrev pub Each : {A : Type 0} → (A → Type 0) → List A → Type 0
Each P [] = Unit {0}
Each P (x ∷ xs) = P x × Each P xs

-- ---- sizes

-- the numbers of the labels of a `case`
abbrev pub labels : Arms → List ℕ
labels None = []
labels (Arm w label body more) = label ∷ labels more

abbrev pub IsAbsent : ℕ → List ℕ → Type 0
IsAbsent n [] = Unit {0}
IsAbsent n (m ∷ ms) = (n ≢ m) × IsAbsent n ms

abbrev pub Distinct : List ℕ → Type 0
Distinct [] = Unit {0}
Distinct (n ∷ ns) = IsAbsent n ns × Distinct ns

abbrev mutual
  -- Selects lie within, expressions have right sizes; a label has its selector's length and stands once.
  pub IsSizedCode : (ℕ → ℕ) → Code → Type 0
  IsSizedCode width End = Unit {0}
  IsSizedCode width (Assign l e rest) = IsSelect width l × IsSized width e × IsSizedCode width rest
  IsSizedCode width (If c then_part else_part rest) = IsSized width c × IsSizedCode width then_part × IsSizedCode width else_part × IsSizedCode width rest
  IsSizedCode width (Case e arms rest) = IsSized width e × AreSizedArms width (length_of width e) arms × Distinct (labels arms) × IsSizedCode width rest

  pub AreSizedArms : (ℕ → ℕ) → ℕ → Arms → Type 0
  AreSizedArms width n None = Unit {0}
  AreSizedArms width n (Arm w label body more) = (w ≡ n) × (label < 2 ^ w) × IsSizedCode width body × AreSizedArms width n more

abbrev pub AreSizedSets : (ℕ → ℕ) → List SvSet → Type 0
AreSizedSets width [] = Unit {0}
AreSizedSets width (s ∷ ss) = IsSized width (term_of s.value) × AreSizedSets width ss

abbrev pub AreSizedLoads : (ℕ → ℕ) → List SvLoad → Type 0
AreSizedLoads width [] = Unit {0}
AreSizedLoads width (l ∷ ls) = (l.value.bits < 2 ^ width l.target.0) × AreSizedLoads width ls

abbrev pub loads_of : Option SvReset → List SvLoad
loads_of None = []
loads_of (Some r) = r.values

abbrev pub IsSizedBlock : (ℕ → ℕ) → SvBlock → Type 0
IsSizedBlock width (Comb ss) = IsSizedCode width (code_of ss)
IsSizedBlock width (Edge rising clock reset sets) = AreSizedSets width sets × AreSizedLoads width (loads_of reset)

-- ---- names

-- letters, digits, `_` and `$`, first a letter or `_` (IEEE 1800-2017, 5.6)
abbrev pub is_letter : ℕ → Bool
is_letter b = (nat_le 97 b && nat_le b 122) || (nat_le 65 b && nat_le b 90) || nat_eq b 95

abbrev pub is_word_byte : ℕ → Bool
is_word_byte b = is_letter b || (nat_le 48 b && nat_le b 57) || nat_eq b 36

abbrev pub all_word_bytes : List ℕ → Bool
all_word_bytes [] = true
all_word_bytes (b ∷ bs) = is_word_byte b && all_word_bytes bs

abbrev pub is_simple : List ℕ → Bool
is_simple [] = false
is_simple (b ∷ bs) = is_letter b && all_word_bytes bs

abbrev pub IsNotNamed : List ℕ → List SvVar → Type 0
IsNotNamed name [] = Unit {0}
IsNotNamed name (v ∷ vs) = (name ≢ v.name) × IsNotNamed name vs

abbrev pub AreNamed : List SvVar → Type 0
AreNamed [] = Unit {0}
AreNamed (v ∷ vs) = (is_simple v.name ≡ true) × IsNotNamed v.name vs × AreNamed vs

-- the targets of an edge's block, in order
abbrev pub targets : List SvSet → List ℕ
targets ss = map (λ s. s.target.0) ss

abbrev pub load_targets : List SvLoad → List ℕ
load_targets ls = map (λ l. l.target.0) ls

abbrev pub sets_read : List SvSet → ℕ → Bool
sets_read ss v = list_any (λ s. reads (term_of s.value) v) ss

abbrev pub is_among : List ℕ → ℕ → Bool
is_among ns v = list_any (λ n. nat_eq n v) ns

abbrev pub reset_names : Option SvReset → ℕ → Bool
reset_names None v = false
reset_names (Some r) v = nat_eq r.signal.0 v || is_among (load_targets r.values) v

-- every variable that a block names
abbrev pub block_names : SvBlock → ℕ → Bool
block_names (Comb ss) v = mentions (code_of ss) v
block_names (Edge rising clock reset sets) v = nat_eq clock.0 v || reset_names reset v || is_among (targets sets) v || sets_read sets v

-- ---- drivers

abbrev pub block_assigns : SvBlock → ℕ → Bool
block_assigns (Comb ss) v = assigns (code_of ss) v
block_assigns (Edge rising clock reset sets) v = is_among (targets sets) v || is_among (load_targets (loads_of reset)) v

-- the variables that a block's expressions read
abbrev pub block_reads : SvBlock → ℕ → Bool
block_reads (Comb ss) v = code_reads (code_of ss) v
block_reads (Edge rising clock reset sets) v = sets_read sets v

abbrev pub IsFreshBlock : SvBlock → Type 0
IsFreshBlock (Comb ss) = IsFresh (code_of ss)
IsFreshBlock (Edge rising clock reset sets) = Distinct (targets sets)

-- the first list is a part of the second, in its order
abbrev pub IsPartOf : List ℕ → List ℕ → Type 0
IsPartOf [] ns = Unit {0}
IsPartOf (m ∷ ms) [] = ⊥
IsPartOf (m ∷ ms) (n ∷ ns) = (m ≡ n) × IsPartOf ms ns ⊎ IsPartOf (m ∷ ms) ns

-- a one-bit input
abbrev pub IsOneBitInput : List SvVar → ℕ → Type 0
IsOneBitInput vars v = (input_at vars v ≡ true) × (width_at vars v ≡ 1)

-- A reset is a one-bit input and no clock; its branch names registers of the other branch in their order.
abbrev pub IsSoundReset : SvModule → Option SvReset → List SvSet → Type 0
IsSoundReset m None sets = Unit {0}
IsSoundReset m (Some r) sets = IsOneBitInput m.vars r.signal.0 × (is_clock m.blocks r.signal.0 ≡ false) × IsPartOf (load_targets r.values) (targets sets)

-- A clock is a one-bit input that no expression reads.
abbrev pub IsSoundEdge : SvModule → SvBlock → Type 0
IsSoundEdge m (Comb ss) = Unit {0}
IsSoundEdge m (Edge rising clock reset sets) = IsOneBitInput m.vars clock.0 × Each (λ b. block_reads b clock.0 ≡ false) m.blocks × IsSoundReset m reset sets

-- the blocks at edges have one clock and one edge; with `many`, one edge for each clock
abbrev pub AgreesWith : Bool → Bool → ℕ → SvBlock → Type 0
AgreesWith many rising clock (Comb ss) = Unit {0}
AgreesWith false rising clock (Edge rising' clock' reset sets) = (rising' ≡ rising) × (clock'.0 ≡ clock)
AgreesWith true rising clock (Edge rising' clock' reset sets) = clock'.0 ≡ clock → rising' ≡ rising

abbrev pub AgreeOnClock : Bool → SvBlock → List SvBlock → Type 0
AgreeOnClock many (Comb ss) bs = Unit {0}
AgreeOnClock many (Edge rising clock reset sets) bs = Each (AgreesWith many rising clock.0) bs

-- ports stand before the other variables
abbrev pub PortsFirst : List SvVar → Type 0
PortsFirst [] = Unit {0}
PortsFirst (v ∷ vs) = ((v.dir ≡ Inner) → Each (λ u. u.dir ≡ Inner) vs) × PortsFirst vs

-- the block at a place
abbrev pub at_block : List SvBlock → ℕ → SvBlock
at_block bs k = slice_index_or bs k (Comb [])

-- A module without faults. `many` says whether it may have several clocks.
pub record IsSound (many : Bool) (m : SvModule) : Type 0 where
  pub name : is_simple m.name ≡ true
  pub ports : PortsFirst m.vars
  -- sizes
  pub widths : Each (λ v. IsWidth v.width) m.vars
  pub sizes : Each (IsSizedBlock (width_at m.vars)) m.blocks
  -- in the trees, since a text has no concatenation of one part, while the terms above take it for that part without sign
  pub concats : Each (λ b. block_concats b ≡ true) m.blocks
  -- names
  pub names : AreNamed m.vars
  pub declared : (v : ℕ) → Each (λ b. block_names b v ≡ true → v < length m.vars) m.blocks
  -- drivers
  pub inputs_kept : (v : ℕ) → input_at m.vars v ≡ true → Each (λ b. block_assigns b v ≡ false) m.blocks
  pub one_driver : (j k v : ℕ) → j < length m.blocks → k < length m.blocks → block_assigns (at_block m.blocks j) v ≡ true → block_assigns (at_block m.blocks k) v ≡ true → j ≡ k
  pub driven : (v : ℕ) → v < length m.vars → input_at m.vars v ≡ false → (k : ℕ) × (k < length m.blocks) × (block_assigns (at_block m.blocks k) v ≡ true)
  pub fresh : Each IsFreshBlock m.blocks
  pub edges : Each (IsSoundEdge m) m.blocks
  pub one_clock : Each (λ b. AgreeOnClock many b m.blocks) m.blocks
  -- cycles
  pub order : Order (combs_of m.blocks)
