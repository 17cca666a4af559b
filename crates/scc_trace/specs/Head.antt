-- The first lines of a stimulus text, its version and its lines of names, and how a text is refused. This project's own.
use Rattle.std.specs.Prelude.{ℕ, if◌then◌else◌, List, [], ◌∷◌, ◌++◌, flat_map, codes, bytes_eq, Option, Some, None, Result, Ok, Err}
use Rattle.scc_base.specs.declared.code.Code.{Code}
use Rattle.scc_base.specs.declared.code.Code.TheVariants.{StimText, StimPort as WrongPorts}
use Rattle.scc_base.specs.declared.refusal.Refusal.{Refusal}
use Rattle.scc_base.specs.declared.refusal.Place.{Place}
use Rattle.scc_trace.specs.declared.stim.Version.{Version}
use Rattle.scc_trace.specs.declared.stim.Version.TheVariants.{One, Two}
use Rattle.scc_trace.specs.Cut.{Bytes, Piece, first}

abbrev pub Outcome : Type 0 → Type 0
Outcome A = Result A Refusal

infixl 10 ◌>>=◌
abbrev pub ◌>>=◌ : {A B : Type 0} → Outcome A → (A → Outcome B) → Outcome B
(Ok x) >>= f = f x
(Err e) >>= f = Err e

abbrev pub place_of : ℕ → ℕ → Place
place_of file at = record { file = file; at = at }

abbrev pub refusal : ℕ → Code → ℕ → Refusal
refusal file code at = record { code = code; place = place_of file at; other = None }

abbrev pub refused : {A : Type 0} → ℕ → Code → ℕ → Outcome A
refused file code at = Err (refusal file code at)

-- the next line and those behind it; where there is none, the text is refused at its end
unfoldable pub next_line : ℕ → ℕ → List Piece → Outcome (Piece × List Piece)
next_line file end [] = refused file StimText end
next_line file end (l ∷ ls) = Ok (l, ls)

abbrev pub version_of : Bytes → Option Version
version_of l = if bytes_eq l (codes "scc-stim 1") then Some One else if bytes_eq l (codes "scc-stim 2") then Some Two else None

abbrev pub some_version : ℕ → ℕ → Option Version → Outcome Version
some_version file at None = refused file StimText at
some_version file at (Some v) = Ok v

unfoldable pub version_at : ℕ → Piece → Outcome Version
version_at file line = some_version file line.at (version_of line.bytes)

-- a word and names, each name behind a blank
abbrev pub names_text : List Bytes → Bytes
names_text names = flat_map (λ n. 32 ∷ n) names

unfoldable pub names_line : Bytes → List Bytes → Bytes
names_line w names = w ++ names_text names

-- A line that is to be this one, with this first word. It is of no form where its first word is another.
unfoldable pub line_at : ℕ → Bytes → Bytes → Piece → Outcome (Unit {0})
line_at file w wanted line = if bytes_eq (first 32 line.bytes) w then (if bytes_eq line.bytes wanted then Ok tt else refused file WrongPorts line.at) else refused file StimText line.at
