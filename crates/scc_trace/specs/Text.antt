-- The texts that are written: stimuli of version 2, and lines of traces. This project's own.
use Rattle.std.specs.Prelude.{ℕ, zero, suc, ◌+◌, ◌*◌, ◌/◌, ◌%◌, ◌^◌, nat_lt, Bool, true, false, ◌&&◌, if◌then◌else◌, List, [], ◌∷◌, ◌++◌, flat_map, codes, decimal}
use Rattle.scc_bits_kinds.specs.declared.kind.Word.{Word}
use Rattle.scc_trace.specs.declared.stim.StimPort.{StimPort}
use Rattle.scc_trace.specs.declared.stim.StimStep.{StimStep}
use Rattle.scc_trace.specs.Cut.{Bytes}
use Rattle.scc_trace.specs.Head.{names_line}
use Rattle.scc_trace.specs.Stimulus.{names_of}

-- ---- words

abbrev pub digit : ℕ → ℕ
digit d = if nat_lt d 10 then 48 + d else 87 + d

-- so many low digits of base 16, the highest first
unfoldable pub hex_text : ℕ → ℕ → Bytes
hex_text zero v = []
hex_text (suc n) v = digit (v / 2 ^ (4 * n) % 16) ∷ hex_text n v

-- how many digits a width has
abbrev pub digits_of : ℕ → ℕ
digits_of width = (width + 3) / 4

-- a word for each port, which has no more bits than the port
unfoldable pub all_fit : List StimPort → List Word → Bool
all_fit [] [] = true
all_fit [] (w ∷ ws) = false
all_fit (p ∷ ps) [] = false
all_fit (p ∷ ps) (w ∷ ws) = nat_lt w.bits (2 ^ p.width) && all_fit ps ws

-- ---- stimuli

-- a word behind a blank
abbrev pub value_text : StimPort → Word → Bytes
value_text p w = 32 ∷ hex_text (digits_of p.width) w.bits

-- the words of a step
unfoldable pub values_text : List StimPort → List Word → Bytes
values_text [] ws = []
values_text (p ∷ ps) [] = []
values_text (p ∷ ps) (w ∷ ws) = value_text p w ++ values_text ps ws

abbrev pub edge_text : Bool → Bytes
edge_text true = codes "step"
edge_text false = codes "hold"

abbrev pub step_text : List StimPort → StimStep → Bytes
step_text ports s = edge_text s.edge ++ values_text ports s.words ++ codes "\n"

unfoldable pub version_text : Bytes
version_text = codes "scc-stim 2\n"

-- a stimulus of version 2
unfoldable pub stim_text_of : List StimPort → List StimStep → Bytes
stim_text_of ports steps = version_text ++ names_line (codes "ports") (names_of ports) ++ codes "\n" ++ flat_map (step_text ports) steps

-- ---- traces

-- an output's name and its word
abbrev pub output_text : StimPort → Word → Bytes
output_text p w = 32 ∷ p.name ++ 61 ∷ hex_text (digits_of p.width) w.bits

-- the outputs of a line
unfoldable pub shown : List StimPort → List Word → Bytes
shown [] ws = []
shown (p ∷ ps) [] = []
shown (p ∷ ps) (w ∷ ws) = output_text p w ++ shown ps ws

abbrev pub sign_text : Bool → Bytes
sign_text true = codes "+"
sign_text false = codes "-"

-- the line of a step, before its edge or after it
unfoldable pub trace_text : ℕ → Bool → List StimPort → List Word → Bytes
trace_text step after ports words = decimal step ++ sign_text after ++ shown ports words ++ codes "\n"
