-- What the program says where it does not end with status 0.
use Rattle.std.specs.Prelude.{ℕ, List, [], ◌++◌, codes, decimal, Option, Some, None}
use Rattle.scc_base.specs.declared.code.Code.{Code}
use Rattle.scc_base.specs.Code.{code_number, code_text}
use Rattle.scc_drive_errors.specs.declared.spots.Spot.{Spot}

-- a file, a line and a column
abbrev pub spot_text : Spot → List ℕ
spot_text spot = spot.file ++ codes ":" ++ decimal spot.line ++ codes ":" ++ decimal spot.column

-- the second place of a refusal, where it speaks of one
abbrev pub other_text : Option Spot → List ℕ
other_text None = []
other_text (Some spot) = codes " (see " ++ spot_text spot ++ codes ")"

-- a refusal at a place
unfoldable pub refusal_text : Code → Spot → Option Spot → List ℕ
refusal_text code spot other = spot_text spot ++ codes ": E" ++ decimal (code_number code) ++ codes " " ++ code_text code ++ other_text other ++ codes "\n"

unfoldable pub words_text : List ℕ
words_text = codes "scc: bad words\n"

unfoldable pub missing_text : List ℕ → List ℕ
missing_text name = codes "scc: missing " ++ name ++ codes "\n"

unfoldable pub failed_text : List ℕ → List ℕ
failed_text name = codes "scc: failed " ++ name ++ codes "\n"

unfoldable pub memory_text : List ℕ
memory_text = codes "scc: no memory\n"

unfoldable pub output_text : List ℕ
output_text = codes "scc: output failed\n"
