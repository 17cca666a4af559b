-- A module as the emitted side of the statement: its steps by the design's steps, its outputs, and its registers by locations (IEEE 1800-2017, 9.2.2.4 and
-- 9.4.2).
use Rattle.std.specs.Prelude.{◌≡◌, ℕ, ◌+◌, nat_eq, Bool, true, false, not, ◌&&◌, List, [], ◌∷◌, map, Option, Some, None, option_map, if◌then◌else◌, bytes_eq}
use Rattle.std.specs.List.{list_any}
use Rattle.scc_semantics.specs.Location.{Location}
use Rattle.scc_semantics.specs.Design.{Design, edge_of}
use Rattle.scc_semantics.specs.Run as run
use Rattle.scc_semantics.specs.Statement.{Shot, Seen, ShowsTheSame}
use Rattle.scc_svtree.specs.declared.module.SvModule.{SvModule}
use Rattle.scc_svtree.specs.declared.module.SvVar.{SvVar}
use Rattle.scc_svtree.specs.declared.module.Dir.{Dir}
use Rattle.scc_svtree.specs.declared.module.Dir.TheVariants.{Output}
use Rattle.scc_svtree.specs.Steps.{StepInput, Steps, is_input}
use Rattle.scc_blocks_spec.specs.Matches.{name_at, register_of, first}

abbrev pub is_output : Dir → Bool
is_output Output = true
is_output _ = false

abbrev pub or_zero : List ℕ → ℕ
or_zero [] = 0
or_zero (x ∷ xs) = x

abbrev pub behind : List ℕ → List ℕ
behind [] = []
behind (x ∷ xs) = xs

-- the name of a clock: some process of the design has its edge there, whether or not the module has a block for it
abbrev pub is_clock_name : (Location → List ℕ) → Design → List ℕ → Bool
is_clock_name text d n = list_any (λ p. list_any (λ e. bytes_eq (text e.clock) n) (edge_of p.sort)) d.processes

-- words for the inputs but the clocks, whose names the test tells, in order, by the numbers of the variables, of which these are numbered from i on
abbrev pub given_from : (List ℕ → Bool) → ℕ → List SvVar → List ℕ → ℕ → ℕ
given_from clock i [] xs v = 0
given_from clock i (w ∷ ws) xs v = if is_input w.dir && not (clock w.name) then (if nat_eq i v then or_zero xs else given_from clock (i + 1) ws (behind xs) v) else given_from clock (i + 1) ws xs v

abbrev pub given : (Location → List ℕ) → Design → SvModule → List ℕ → ℕ → ℕ
given text d m xs = given_from (is_clock_name text d) 0 m.vars xs

-- clocks are matched by their ports' names
abbrev pub edge_at : (Location → List ℕ) → SvModule → Option (List Location) → ℕ → Bool
edge_at text m None v = false
edge_at text m (Some ls) v = list_any (λ l. bytes_eq (text l) (name_at m v)) ls

-- an edge of no clock does nothing but settle
abbrev pub has_edge : Option (List Location) → Bool
has_edge None = false
has_edge (Some ls) = true

abbrev pub step_of : (Location → List ℕ) → Design → SvModule → run.Step → StepInput
step_of text d m s = record { inputs = given text d m s.inputs; clocks = edge_at text m s.edge; has_edge = has_edge s.edge }

abbrev pub outputs_from : ℕ → List SvVar → (ℕ → ℕ) → List ℕ
outputs_from i [] x = []
outputs_from i (w ∷ ws) x = if is_output w.dir then x i ∷ outputs_from (i + 1) ws x else outputs_from (i + 1) ws x

abbrev pub register : (Location → List ℕ) → SvModule → (ℕ → ℕ) → Location → Option ℕ
register text m x l = option_map x (first (register_of text m l))

abbrev pub shot : (Location → List ℕ) → SvModule → (ℕ → ℕ) → Shot
shot text m x = record { outputs = outputs_from 0 m.vars x; registers = register text m x }

-- a step's observations: one before its edge, and one behind it where it has one
abbrev pub seen_of : (Location → List ℕ) → SvModule → List (ℕ → ℕ) → Option Seen
seen_of text m (x ∷ []) = Some (record { before = shot text m x; after = None })
seen_of text m (x ∷ y ∷ []) = Some (record { before = shot text m x; after = Some (shot text m y) })
seen_of text m xs = None

abbrev pub AreSeen : (Location → List ℕ) → SvModule → List (List (ℕ → ℕ)) → List Seen → Type 0
AreSeen text m [] [] = Unit {0}
AreSeen text m (xs ∷ xss) (s ∷ ss) = (seen_of text m xs ≡ Some s) × AreSeen text m xss ss
AreSeen text m _ _ = ⊥

-- what a module may show over steps of a design from a valuation
abbrev pub Runs : (Location → List ℕ) → Design → SvModule → (ℕ → ℕ) → List run.Step → List Seen → Type 0
Runs text d m x steps seen = (xss : List (List (ℕ → ℕ))) × Steps m x (map (step_of text d m) steps) xss × AreSeen text m xss seen

-- the module shows what the design shows
abbrev pub ModuleShows : (Location → List ℕ) → Design → SvModule → Type 0
ModuleShows text d m = ShowsTheSame (ℕ → ℕ) (register text m) (Runs text d m) d
