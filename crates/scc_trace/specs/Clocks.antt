-- What a stimulus text of version 3 says, or where it is refused first. This project's own.
use Rattle.std.specs.Prelude.{ℕ, if◌then◌else◌, List, [], ◌∷◌, length, codes, bytes_eq, Option, Some, None, Ok}
use Rattle.scc_base.specs.declared.code.Code.TheVariants.{StimText, StimValue}
use Rattle.scc_bits_kinds.specs.declared.kind.Word.{Word}
use Rattle.scc_trace.specs.declared.stim.StimPort.{StimPort}
use Rattle.scc_trace.specs.declared.stim.ClockStep.{ClockStep}
use Rattle.scc_trace.specs.declared.found.Found.{Found}
use Rattle.scc_trace.specs.declared.clock_steps.Masked.{Masked}
use Rattle.scc_trace.specs.Cut.{Bytes, Piece, lines, words}
use Rattle.scc_trace.specs.Head.{Outcome, ◌>>=◌, refused, next_line, line_at, names_line}
use Rattle.scc_trace.specs.Stimulus.{word, hex_of, first_wide, found_of, widths_of, names_of, each_line}

-- a mask has a bit for each clock
abbrev pub with_mask : ℕ → ℕ → Option ℕ → Option Found → Option Masked
with_mask clocks at None f = None
with_mask clocks at (Some n) None = None
with_mask clocks at (Some n) (Some f) = Some (record { mask = word n; found = record { words = f.words; wide = first_wide clocks at n f.wide } })

-- the mask of a line and its values, and where the first of them stands that needs more bits than it may have
unfoldable pub masked_of : ℕ → List ℕ → List Piece → Option Masked
masked_of clocks widths [] = None
masked_of clocks widths (p ∷ ps) = with_mask clocks p.at (hex_of p.bytes) (found_of widths ps)

abbrev pub fitting_step : ℕ → Word → List Word → Option ℕ → Outcome ClockStep
fitting_step file m ws None = Ok (record { mask = m; words = ws })
fitting_step file m ws (Some at) = refused file StimValue at

abbrev pub formed_step : ℕ → ℕ → Option Masked → Outcome ClockStep
formed_step file at None = refused file StimText at
formed_step file at (Some s) = fitting_step file s.mask s.found.words s.found.wide

abbrev pub step_in : ℕ → ℕ → List ℕ → ℕ → List Piece → Outcome ClockStep
step_in file clocks widths at [] = refused file StimText at
step_in file clocks widths at (w ∷ ws) = if bytes_eq w.bytes (codes "step") then formed_step file at (masked_of clocks widths ws) else refused file StimText at

-- the step of a line
unfoldable pub clock_step_of : ℕ → ℕ → List ℕ → Piece → Outcome ClockStep
clock_step_of file clocks widths line = step_in file clocks widths line.at (words line.at line.bytes)

abbrev pub clock_steps_of : ℕ → ℕ → List ℕ → List Piece → Outcome (List ClockStep)
clock_steps_of file clocks widths = each_line (clock_step_of file clocks widths)

unfoldable pub clocked_at : ℕ → Piece → Outcome (Unit {0})
clocked_at file line = if bytes_eq line.bytes (codes "scc-stim 3") then Ok tt else refused file StimText line.at

-- the steps that a text says for these clocks and ports, or its first refusal
unfoldable pub clock_stim_of : ℕ → List Bytes → List StimPort → Bytes → Outcome (List ClockStep)
clock_stim_of file clocks ports text =
    next_line file (length text) (lines 0 text) >>= λ a.
    clocked_at file a.0 >>= λ _.
    next_line file (length text) a.1 >>= λ b.
    line_at file (codes "clocks") (names_line (codes "clocks") clocks) b.0 >>= λ _.
    next_line file (length text) b.1 >>= λ d.
    line_at file (codes "ports") (names_line (codes "ports") (names_of ports)) d.0 >>= λ _.
    clock_steps_of file (length clocks) (widths_of ports) d.1
