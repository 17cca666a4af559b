-- What a request on source files comes to, over all stages: a file that isn't there, joining, the grammar, the stages after it, the stimulus of `sim`. The first that
-- stops it decides; where none does, the source is accepted. This project's own.
use Rattle.std.specs.Prelude.{◌≡◌, ℕ, Bool, true, false, nat_lt, List, [], ◌∷◌, ◌++◌, map, length, Option, Some, None, Result, Ok, Err, slice_get, unwrap_or}
use Rattle.scc_base.specs.Names.{fixed_names}
use Rattle.scc_base.specs.Outside.{Shelf}
use Rattle.scc_base.specs.declared.code.Code.{Code}
use Rattle.scc_base.specs.declared.code.Code.TheVariants.{FileTooLong}
use Rattle.scc_base.specs.declared.refusal.Place.{Place}
use Rattle.scc_base.specs.declared.refusal.Refusal.{Refusal}
use Rattle.scc_tokens_directives.specs.declared.file.Source.{Source}
use Rattle.scc_tokens_directives.specs.Steps as join
use Rattle.scc_tokens.specs.declared.joining.Joined.{Joined}
use Rattle.scc_tokens.specs.Files.{first_part, number_in}
use Rattle.scc_tokens_laws.specs.Joined.{JoinsTo}
use Rattle.scc_tokens_laws.specs.Faulted.{StopsAt}
use Rattle.scc_tree.specs.declared.item.FileTree.{FileTree}
use Rattle.scc_grammar.specs.Claim.{IsReadFile, IsFault}
use Rattle.scc_semantics.specs.Location.{Location}
use Rattle.scc_semantics.specs.Design.{Design, clocks}
use Rattle.scc_core_spec.specs.First.{refused}
use Rattle.scc_core_spec.specs.Resolved.{Made}
use Rattle.scc_inline_spec.specs.Inlined.{home_of}
use Rattle.scc_blocks_spec.specs.Names.{location_text}
use Rattle.scc_blocks_spec.specs.Traced.{in_ports}
use Rattle.scc_plain_spec.specs.Designs.{Compiled, compiled, design_in, first_refusal}
use Rattle.scc_trace.specs.Stimulus.{stim_of}
use Rattle.scc_trace.specs.Clocks.{clock_stim_of}

-- What a command asks for: several clocks or one, the top's name, the files that are joined, and the stimulus of `sim`.
pub record Request : Type 0 where
  pub many : Bool
  pub top : List ℕ
  pub roots : List (List ℕ)
  pub stimulus : Option (List ℕ)

-- the stimulus of `sim`: the number of its file, after those that were joined, and its bytes
pub record Stimulus : Type 0 where
  pub file : ℕ
  pub bytes : List ℕ

-- a source that no stage refuses: the names that were met, what the source comes to, and the stimulus, where one is asked for
pub record Accepted : Type 0 where
  pub names : List (List ℕ)
  pub compiled : Compiled
  pub stimulus : Option Stimulus

-- what it comes to: a refusal, with the files that were read, to which the numbers of its places belong; a file that isn't there; or an accepted source
pub data Verdict : Type 0 where
  Refuses : List Source → Refusal → Verdict
  Absent : List ℕ → Verdict
  Accepts : Accepted → Verdict

abbrev pub stopped_by : List Source → join.Stopped → Verdict
stopped_by sources (join.Refuses code place) = Refuses sources (refused code place)
stopped_by sources (join.Absent name) = Absent name

-- the files of these names join to tokens that the grammar reads as this tree
pub record IsReadAs (roots : List (List ℕ)) (shelf : Shelf) (names : List (List ℕ)) (sources : List Source) (tree : FileTree) : Type 0 where
  pub joined : Joined
  pub joins : JoinsTo (first_part shelf) fixed_names roots names sources joined
  pub reads : IsReadFile joined tree

-- a name's bytes, by its number
abbrev pub text_in : List (List ℕ) → ℕ → List ℕ
text_in names n = unwrap_or (slice_get names n) []

-- the name that emitted text has for a location
abbrev pub name_in : List (List ℕ) → Compiled → Location → List ℕ
name_in names c = location_text (home_of c.plain c.built) c.core (text_in names)

abbrev pub error_of : {A : Type 0} → Result A Refusal → Option Refusal
error_of (Ok x) = None
error_of (Err r) = Some r

-- as what the steps of a stimulus are refused
abbrev pub steps_refusal : (many : Bool) → (Location → List ℕ) → Design → (file : ℕ) → List ℕ → Option Refusal
steps_refusal true text d file bytes = error_of (clock_stim_of file (map text (clocks d)) (in_ports text d) bytes)
steps_refusal false text d file bytes = error_of (stim_of file (in_ports text d) bytes)

abbrev pub if_long : Bool → ℕ → Option Refusal → Option Refusal
if_long true file r = Some (refused FileTooLong (record { file = file; at = 0 }))
if_long false file r = r

-- as what a stimulus is refused: it has more bytes than a file may have, or its text, its ports or its values are wrong
abbrev pub stimulus_refusal : (many : Bool) → (Location → List ℕ) → Design → (file : ℕ) → List ℕ → Option Refusal
stimulus_refusal many text d file bytes = if_long (nat_lt 1048576 (length bytes)) file (steps_refusal many text d file bytes)

-- What it comes to. The stimulus is asked for once no stage refuses the source; it is read after the other files.
pub data Comes (q : Request) (shelf : Shelf) : Verdict → Type 0 where
  in_joining : (names : List (List ℕ)) (sources : List Source) (s : join.Stopped) → StopsAt (first_part shelf) fixed_names q.roots names sources s
      → Comes q shelf (stopped_by sources s)
  in_the_grammar : (names : List (List ℕ)) (sources : List Source) (j : Joined) (code : Code) (place : Place) → JoinsTo (first_part shelf) fixed_names q.roots names sources j
      → IsFault j code place → Comes q shelf (Refuses sources (refused code place))
  in_a_stage : (names : List (List ℕ)) (sources : List Source) (tree : FileTree) (r : Refusal) → IsReadAs q.roots shelf names sources tree
      → first_refusal q.many tree (number_in names q.top) ≡ Some r → Comes q shelf (Refuses sources r)
  without_stimulus : (names : List (List ℕ)) (sources : List Source) (tree : FileTree) (c : Compiled) (name : List ℕ) → IsReadAs q.roots shelf names sources tree
      → compiled q.many tree (number_in names q.top) ≡ Some (Made c) → q.stimulus ≡ Some name → first_part shelf name ≡ None → Comes q shelf (Absent name)
  in_the_stimulus : (names : List (List ℕ)) (sources : List Source) (tree : FileTree) (c : Compiled) (name bytes : List ℕ) (r : Refusal) → IsReadAs q.roots shelf names sources tree
      → compiled q.many tree (number_in names q.top) ≡ Some (Made c) → q.stimulus ≡ Some name → first_part shelf name ≡ Some bytes
      → stimulus_refusal q.many (name_in names c) (design_in c) (length sources) bytes ≡ Some r
      → Comes q shelf (Refuses (sources ++ record { name = name; bytes = bytes } ∷ []) r)
  accepted : (names : List (List ℕ)) (sources : List Source) (tree : FileTree) (c : Compiled) → IsReadAs q.roots shelf names sources tree
      → compiled q.many tree (number_in names q.top) ≡ Some (Made c) → q.stimulus ≡ None
      → Comes q shelf (Accepts (record { names = names; compiled = c; stimulus = None }))
  on_a_stimulus : (names : List (List ℕ)) (sources : List Source) (tree : FileTree) (c : Compiled) (name bytes : List ℕ) → IsReadAs q.roots shelf names sources tree
      → compiled q.many tree (number_in names q.top) ≡ Some (Made c) → q.stimulus ≡ Some name → first_part shelf name ≡ Some bytes
      → stimulus_refusal q.many (name_in names c) (design_in c) (length sources) bytes ≡ None
      → Comes q shelf (Accepts (record { names = names; compiled = c; stimulus = Some (record { file = length sources; bytes = bytes }) }))
