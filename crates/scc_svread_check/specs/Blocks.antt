-- Wrong sizes and names of blocks and declarations as they are written, from the blanks before them on.
use Rattle.std.specs.Prelude.{ℕ, ◌+◌, Bool, true, false, not, ◌||◌, List, length, map, Option, Some, None}
use Rattle.scc_svtree.specs.declared.module.Dir.{Dir}
use Rattle.scc_svtree.specs.declared.module.Dir.TheVariants.{Input, Output, Inner}
use Rattle.scc_svtext.specs.Pieces.{spelled}
use Rattle.scc_svread_grammar.specs.declared.raw.RawSet.{RawSet}
use Rattle.scc_svread_grammar.specs.declared.raw.RawStmt.{RawStmt}
use Rattle.scc_svread_grammar.specs.declared.raw.RawLoad.{RawLoad}
use Rattle.scc_svread_grammar.specs.declared.raw.RawReset.{RawReset}
use Rattle.scc_svread_grammar.specs.declared.raw.RawBlock.{RawBlock}
use Rattle.scc_svread_grammar.specs.declared.raw.RawBlock.TheVariants.{Comb, Edge}
use Rattle.scc_svread_grammar.specs.declared.raw.RawVar.{RawVar}
use Rattle.scc_svread_grammar.specs.Lexical.{Bytes}
use Rattle.scc_svread_check.specs.Scope.{Scope, high_of, is_width, is_wrong_literal, is_declared, once}
use Rattle.scc_svread_check.specs.Walking.{Walking, ◌then◌, pass, size_if, name_if}
use Rattle.scc_svread_check.specs.Parts.{cut, with_one, literal_bytes, name_walk, part_of}
use Rattle.scc_svread_check.specs.Lines.{Line, lines, is_other_length, line_of}

-- ---- the lines of an edge

abbrev pub set_line : Scope → RawSet → Line
set_line s x n = pass n then name_walk s x.target then pass 4 then (part_of s x.value).walk then pass 2

-- What a reset loads has the width of its variable.
abbrev pub is_wrong_load : Scope → RawLoad → Bool
is_wrong_load s x = is_wrong_literal x.value || is_other_length (with_one (λ high. cut (high + 1)) (once s x.target)) x.value

abbrev pub load_line : Scope → RawLoad → Line
load_line s x n = pass n then name_walk s x.target then pass 4 then size_if (is_wrong_load s x) then pass (literal_bytes x.value + 2)

-- ---- blocks

-- the condition under which a reset stands, and what is written behind it
abbrev pub level_walk : Scope → Bool → Bytes → Walking
level_walk s true name = pass 2 then name_walk s name then pass 9
level_walk s false name = name_walk s name then pass 8

abbrev pub reset_walk : Scope → RawReset → Walking
reset_walk s r = pass 12 then name_walk s r.signal then pass 16 then level_walk s r.negated r.level then lines (map (load_line s) r.values) 6 then pass 19

abbrev pub comb_walk : Scope → List RawStmt → Walking
comb_walk s ss = pass 20 then lines (map (line_of s) ss) 4 then pass 6

-- from behind the clock's name
abbrev pub edge_walk : Scope → Option RawReset → List RawSet → Walking
edge_walk s None sets = pass 8 then lines (map (set_line s) sets) 4 then pass 6
edge_walk s (Some r) sets = reset_walk s r then lines (map (set_line s) sets) 6 then pass 14

abbrev pub block_walk : Scope → RawBlock → Walking
block_walk s (Comb ss) = comb_walk s ss
block_walk s (Edge rising clock reset sets) = pass 22 then name_walk s clock then edge_walk s reset sets

-- ---- declarations

abbrev pub range_bytes : Option Bytes → ℕ
range_bytes None = 0
range_bytes (Some high) = length high + 5

-- A range and a name: a width outside 1 to 128, and a name that was declared before.
abbrev pub var_walk : Scope → RawVar → Walking
var_walk before v = size_if (not (is_width (high_of v + 1))) then pass (range_bytes v.high) then name_if (is_declared before v.name) then pass (length (spelled v.name))

-- `input logic `, `output logic ` or `logic `, and the blanks before it
abbrev pub dir_bytes : Dir → ℕ
dir_bytes Input = 14
dir_bytes Output = 15
dir_bytes Inner = 8
