-- Steps of a module with memories, and what it shows of a design (IEEE 1800-2017, 9.2.2.4). A step is that of any module.
use Rattle.std.specs.Prelude.{◌≡◌, ℕ, ◌+◌, nat_eq, Bool, true, false, not, cond, ◌&&◌, ◌||◌, List, [], ◌∷◌, map, flat_map, Option, Some, None, option_and_then, position, bytes_eq, if◌then◌else◌}
use Rattle.std.specs.List.{list_any, range_with_len}
use Rattle.scc_semantics.specs.Location.{Location}
use Rattle.scc_semantics.specs.Run as run
use Rattle.scc_semantics.specs.Statement.{Shot, Seen}
use Rattle.scc_svtree.specs.Steps.{StepInput, input_at}
use Rattle.scc_semantics.specs.Design.{Design}
use Rattle.scc_svtree.specs.declared.module.SvVar.{SvVar}
use Rattle.scc_blocks_spec.specs.Emitted.{outputs_from, has_edge, is_clock_name}
use Rattle.scc_memory_spec.specs.Array.{element_name, var_named}
use Rattle.scc_memory_spec.specs.Taken.{name_at}
use Rattle.scc_memory_spec.specs.Memory.{MemModule, MemBlock, Comb, Edge, Memory, Valuation, IsSettled}
use Rattle.scc_memory_spec.specs.Edges.{after_resets, after_edges}

abbrev pub is_clock : List MemBlock → ℕ → Bool
is_clock [] v = false
is_clock (Comb c ∷ bs) v = is_clock bs v
is_clock (Edge rising clock reset sets memories ∷ bs) v = nat_eq clock v || is_clock bs v

abbrev pub with_inputs : MemModule → (ℕ → ℕ) → (ℕ → ℕ) → ℕ → ℕ
with_inputs m inputs x v = cond (input_at m.vars v && not (is_clock m.blocks v)) (inputs v) (x v)

-- inputs and resets, then settled
abbrev pub begun : MemModule → (ℕ → ℕ) → Valuation → Valuation
begun m inputs x = record { words = after_resets m.blocks (with_inputs m inputs x.words); elements = x.elements }

-- a step from x to z, with what is observed: once, and behind an edge again
pub data Step (m : MemModule) (s : StepInput) (x : Valuation) : Valuation → List Valuation → Type 0 where
  held : (y : Valuation) → s.has_edge ≡ false → IsSettled m (begun m s.inputs x) y → Step m s x y (y ∷ [])
  edged : (y z : Valuation) → s.has_edge ≡ true → IsSettled m (begun m s.inputs x) y → IsSettled m (after_edges m s.clocks y) z → Step m s x z (y ∷ z ∷ [])

abbrev pub Steps : MemModule → Valuation → List StepInput → List (List Valuation) → Type 0
Steps m x [] [] = Unit {0}
Steps m x (s ∷ ss) (o ∷ os) = (z : Valuation) × Step m s x z o × Steps m z ss os
Steps m x _ _ = ⊥

-- words for the inputs but the design's clocks, whose names the test tells, in order
abbrev pub first : List ℕ → ℕ
first [] = 0
first (x ∷ xs) = x

abbrev pub behind : List ℕ → List ℕ
behind [] = []
behind (x ∷ xs) = xs

abbrev pub given_from : (List ℕ → Bool) → MemModule → ℕ → List SvVar → List ℕ → ℕ → ℕ
given_from clock m i [] xs v = 0
given_from clock m i (w ∷ ws) xs v = if input_at m.vars i && not (clock w.name) then cond (nat_eq i v) (first xs) (given_from clock m (i + 1) ws (behind xs) v) else given_from clock m (i + 1) ws xs v

abbrev pub clocks_at : (Location → List ℕ) → MemModule → Option (List Location) → ℕ → Bool
clocks_at text m None v = false
clocks_at text m (Some ls) v = list_any (λ l. bytes_eq (text l) (name_at m.vars v)) ls

abbrev pub step_of : (Location → List ℕ) → Design → MemModule → run.Step → StepInput
step_of text d m s = record { inputs = given_from (is_clock_name text d) m 0 m.vars s.inputs; clocks = clocks_at text m s.edge; has_edge = has_edge s.edge }

abbrev pub set_by : MemBlock → List ℕ
set_by (Comb c) = []
set_by (Edge rising clock reset sets memories) = map (λ s. s.target) sets

-- a register of that name, and the element of a memory
abbrev pub register_named : MemModule → List ℕ → Option ℕ
register_named m name = option_and_then (λ v. cond (list_any (nat_eq v) (flat_map set_by m.blocks)) (Some v) None) (var_named m.vars name)

abbrev pub element_in : (ℕ → ℕ → ℕ) → List ℕ → ℕ → List Memory → Option ℕ
element_in elements name k [] = None
element_in elements name k (a ∷ more) = element_or (position (λ i. bytes_eq (element_name a.name i) name) (range_with_len 0 a.size)) (element_in elements name (k + 1) more)
  where
    element_or : Option ℕ → Option ℕ → Option ℕ
    element_or (Some i) more = Some (elements k i)
    element_or None more = more

abbrev pub register : (Location → List ℕ) → MemModule → Valuation → Location → Option ℕ
register text m x l = word_or (register_named m (text l)) (element_in x.elements (text l) 0 m.memories)
  where
    word_or : Option ℕ → Option ℕ → Option ℕ
    word_or (Some v) more = Some (x.words v)
    word_or None more = more

abbrev pub shot : (Location → List ℕ) → MemModule → Valuation → Shot
shot text m x = record { outputs = outputs_from 0 m.vars x.words; registers = register text m x }

abbrev pub seen_of : (Location → List ℕ) → MemModule → List Valuation → Option Seen
seen_of text m (x ∷ []) = Some (record { before = shot text m x; after = None })
seen_of text m (x ∷ y ∷ []) = Some (record { before = shot text m x; after = Some (shot text m y) })
seen_of text m xs = None

abbrev pub AreSeen : (Location → List ℕ) → MemModule → List (List Valuation) → List Seen → Type 0
AreSeen text m [] [] = Unit {0}
AreSeen text m (xs ∷ xss) (s ∷ ss) = (seen_of text m xs ≡ Some s) × AreSeen text m xss ss
AreSeen text m _ _ = ⊥

abbrev pub Runs : (Location → List ℕ) → Design → MemModule → Valuation → List run.Step → List Seen → Type 0
Runs text d m x steps seen = (xss : List (List Valuation)) × Steps m x (map (step_of text d m) steps) xss × AreSeen text m xss seen
