-- The trace of a design on a stimulus: what its steps show from storage 0, line by line. This project's own.
use Rattle.std.specs.Prelude.{◌≡◌, ℕ, ◌+◌, Bool, true, false, nat_eq, List, [], ◌∷◌, ◌++◌, map, Option, Some, None, unwrap_or, option_map, codes, Ok, if◌then◌else◌}
use Rattle.scc_bits_kinds.specs.declared.kind.Word.{Word}
use Rattle.scc_semantics.specs.Location.{Location}
use Rattle.scc_semantics.specs.Design.{Design, inputs, outputs, clocks}
use Rattle.scc_semantics.specs.Process.{State}
use Rattle.scc_semantics.specs.Run.{Step, Observation, Shown, Shows}
use Rattle.scc_semantics.specs.Start.{IsStart}
use Rattle.scc_blocks_spec.specs.Matches.{thing_width}
use Rattle.scc_trace.specs.declared.stim.StimPort.{StimPort}
use Rattle.scc_trace.specs.declared.stim.StimStep.{StimStep}
use Rattle.scc_trace.specs.declared.stim.ClockStep.{ClockStep}
use Rattle.scc_trace.specs.declared.stim.Version.{Version}
use Rattle.scc_trace.specs.declared.stim.Version.TheVariants as version
use Rattle.scc_trace.specs.Cut.{Bytes, first}
use Rattle.scc_trace.specs.Head.{version_of}
use Rattle.scc_trace.specs.Stimulus.{stim_of}
use Rattle.scc_trace.specs.Clocks.{clock_stim_of}
use Rattle.scc_trace.specs.Text.{trace_text}
use Rattle.scc_bits_kinds.specs.Bits.{part}

-- from a start whose storage is 0, but for what holds a constant
abbrev pub zero_word : Option ℕ → ℕ
zero_word c = unwrap_or c 0

pub record IsZero (d : Design) (s : State) : Type 0 where
  pub starts : IsStart d s
  pub words : (l : Location) → s.store.words l ≡ zero_word (d.constant l)

module _ (text : Location → Bytes) (d : Design) where
  abbrev pub port_of : Location → StimPort
  port_of l = record { name = text l; width = thing_width (d.places.things l) }

  abbrev pub in_ports : List StimPort
  in_ports = map port_of (inputs d)

  abbrev pub out_ports : List StimPort
  out_ports = map port_of (outputs d)

  abbrev pub line_of : ℕ → Bool → Observation → Bytes
  line_of n after o = trace_text n after out_ports (map (λ w. record { bits = w }) o.outputs)

  -- a line before the edge, and, where there is one, a line behind it
  abbrev pub lines_of : ℕ → Shown → Bytes
  lines_of n o = line_of n false o.before ++ unwrap_or (option_map (line_of n true) o.after) []

  abbrev pub trace_from : ℕ → List Shown → Bytes
  trace_from n [] = []
  trace_from n (o ∷ os) = lines_of n o ++ trace_from (n + 1) os

  abbrev pub words_of : List Word → List ℕ
  words_of ws = map (λ w. w.bits) ws

  -- a step of a stimulus has an edge of all clocks, or none
  abbrev pub step_of : StimStep → Step
  step_of s = record { inputs = words_of s.words; edge = if s.edge then Some (clocks d) else None }

  -- with several clocks bit n of the mask stands for clock n; a mask of 0 is no edge
  abbrev pub masked : ℕ → ℕ → List Location → List Location
  masked mask n [] = []
  masked mask n (c ∷ cs) = if nat_eq (part n n mask) 1 then c ∷ masked mask (n + 1) cs else masked mask (n + 1) cs

  abbrev pub edge_if : List Location → Option (List Location)
  edge_if [] = None
  edge_if (c ∷ cs) = Some (c ∷ cs)

  abbrev pub clock_step : ClockStep → Step
  clock_step s = record { inputs = words_of s.words; edge = edge_if (masked s.mask.bits 0 (clocks d)) }

  -- these lines are shown over these steps
  pub record IsShown (steps : List Step) (lines : Bytes) : Type 0 where
    pub start : State
    pub zero : IsZero d start
    pub observed : List Shown
    pub shows : Shows d start steps observed
    pub said : lines ≡ trace_from 0 observed

  abbrev pub header : Version → Bytes
  header version.One = codes "scc-trace 1\n"
  header version.Two = codes "scc-trace 2\n"

  pub record IsTrace (file : ℕ) (stimulus trace : Bytes) : Type 0 where
    pub steps : List StimStep
    pub read : stim_of file in_ports stimulus ≡ Ok steps
    pub version : Version
    pub named : version_of (first 10 stimulus) ≡ Some version
    pub lines : Bytes
    pub shown : IsShown (map step_of steps) lines
    pub whole : trace ≡ header version ++ lines

  -- with several clocks
  pub record IsClockedTrace (file : ℕ) (stimulus trace : Bytes) : Type 0 where
    pub steps : List ClockStep
    pub read : clock_stim_of file (map text (clocks d)) in_ports stimulus ≡ Ok steps
    pub lines : Bytes
    pub shown : IsShown (map clock_step steps) lines
    pub whole : trace ≡ header version.Two ++ lines
