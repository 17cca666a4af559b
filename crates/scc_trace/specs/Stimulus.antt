-- What a stimulus text of version 1 or 2 says, or where it is refused first. This project's own.
use Rattle.std.specs.Prelude.{ℕ, ◌*◌, ◌+◌, ◌-◌, ◌^◌, nat_le, nat_lt, Bool, true, false, ◌&&◌, if◌then◌else◌, List, [], ◌∷◌, length, map, codes, bytes_eq, Option, Some, None, Ok}
use Rattle.scc_base.specs.declared.code.Code.TheVariants.{StimText, StimValue}
use Rattle.scc_bits_kinds.specs.declared.kind.Word.{Word}
use Rattle.scc_trace.specs.declared.stim.StimPort.{StimPort}
use Rattle.scc_trace.specs.declared.stim.StimStep.{StimStep}
use Rattle.scc_trace.specs.declared.stim.Version.{Version}
use Rattle.scc_trace.specs.declared.stim.Version.TheVariants.{One, Two}
use Rattle.scc_trace.specs.declared.found.Found.{Found}
use Rattle.scc_trace.specs.Cut.{Bytes, Piece, lines, words}
use Rattle.scc_trace.specs.Head.{Outcome, ◌>>=◌, refused, next_line, version_at, names_line, line_at}

-- ---- values

abbrev pub word : ℕ → Word
word n = record { bits = n }

-- what a hexadecimal digit of either case counts
abbrev pub digit_of : ℕ → Option ℕ
digit_of b = if nat_le 48 b && nat_le b 57 then Some (b - 48) else if nat_le 65 b && nat_le b 70 then Some (b - 55) else if nat_le 97 b && nat_le b 102 then Some (b - 87) else None

-- the number that digits stand for, behind those of a number before them
abbrev pub digit_more : Option ℕ → (ℕ → Option ℕ) → Option ℕ
digit_more None f = None
digit_more (Some d) f = f d

unfoldable pub number_from : ℕ → Bytes → Option ℕ
number_from n [] = Some n
number_from n (b ∷ bs) = digit_more (digit_of b) (λ d. number_from (16 * n + d) bs)

-- the number of a value, which has 1 to 32 digits
unfoldable pub hex_of : Bytes → Option ℕ
hex_of v = if nat_le 1 (length v) && nat_le (length v) 32 then number_from 0 v else None

-- the first value that needs more bits than it may have: this one, or one of those behind it
abbrev pub first_wide : ℕ → ℕ → ℕ → Option ℕ → Option ℕ
first_wide width at n behind = if nat_lt n (2 ^ width) then behind else Some at

-- where the first too wide value stands, by where one stood before, and by a further value
abbrev pub noted : Option ℕ → ℕ → ℕ → ℕ → Option ℕ
noted (Some before) width at n = Some before
noted None width at n = first_wide width at n None

abbrev pub with_value : ℕ → ℕ → Option ℕ → Option Found → Option Found
with_value width at None f = None
with_value width at (Some n) None = None
with_value width at (Some n) (Some f) = Some (record { words = word n ∷ f.words; wide = first_wide width at n f.wide })

-- the values of a line, one of each width, and where the first stands that needs more bits
unfoldable pub found_of : List ℕ → List Piece → Option Found
found_of [] [] = Some (record { words = []; wide = None })
found_of [] (p ∷ ps) = None
found_of (w ∷ ws) [] = None
found_of (w ∷ ws) (p ∷ ps) = with_value w p.at (hex_of p.bytes) (found_of ws ps)

-- ---- steps

abbrev pub widths_of : List StimPort → List ℕ
widths_of ports = map (λ p. p.width) ports

abbrev pub names_of : List StimPort → List Bytes
names_of ports = map (λ p. p.name) ports

-- without an edge is a step of version 2 alone
abbrev pub hold_of : Version → Option Bool
hold_of One = None
hold_of Two = Some false

-- whether a step has an edge, by the first word of its line
abbrev pub edge_of : Version → Bytes → Option Bool
edge_of v w = if bytes_eq w (codes "step") then Some true else if bytes_eq w (codes "hold") then hold_of v else None

abbrev pub fitting_step : ℕ → Bool → List Word → Option ℕ → Outcome StimStep
fitting_step file edge ws None = Ok (record { edge = edge; words = ws })
fitting_step file edge ws (Some at) = refused file StimValue at

abbrev pub formed_step : ℕ → ℕ → Option Bool → Option Found → Outcome StimStep
formed_step file at None f = refused file StimText at
formed_step file at (Some edge) None = refused file StimText at
formed_step file at (Some edge) (Some f) = fitting_step file edge f.words f.wide

abbrev pub step_in : ℕ → Version → List ℕ → ℕ → List Piece → Outcome StimStep
step_in file v widths at [] = refused file StimText at
step_in file v widths at (w ∷ ws) = formed_step file at (edge_of v w.bytes) (found_of widths ws)

-- the step of a line
unfoldable pub step_of : ℕ → Version → List ℕ → Piece → Outcome StimStep
step_of file v widths line = step_in file v widths line.at (words line.at line.bytes)

-- what is read of each line, or the first refusal of a line
unfoldable pub each_line : {A : Type 0} → (Piece → Outcome A) → List Piece → Outcome (List A)
each_line f [] = Ok []
each_line f (l ∷ ls) = f l >>= λ a. each_line f ls >>= λ more. Ok (a ∷ more)

abbrev pub steps_of : ℕ → Version → List ℕ → List Piece → Outcome (List StimStep)
steps_of file v widths = each_line (step_of file v widths)

-- ---- the text

-- the steps that a text says for these ports, or its first refusal
unfoldable pub stim_of : ℕ → List StimPort → Bytes → Outcome (List StimStep)
stim_of file ports text =
    next_line file (length text) (lines 0 text) >>= λ a.
    version_at file a.0 >>= λ v.
    next_line file (length text) a.1 >>= λ b.
    line_at file (codes "ports") (names_line (codes "ports") (names_of ports)) b.0 >>= λ _.
    steps_of file v (widths_of ports) b.1
