-- The first name of a module as it is written that stands where it may not, though it be declared: a variable that nothing drives, or that
-- two blocks assign; an input that is assigned; what its block assigns, where it is mentioned before it has a whole value; what an edge
-- sets twice; what a reset loads that is no part of that; clocks, resets and their levels (IEEE 1800-2017, 9.2.2.2, 9.2.2.4, 9.4.2).
use Rattle.std.specs.Prelude.{ℕ, ◌+◌, nat_eq, Bool, true, false, not, ◌&&◌, ◌||◌, if◌then◌else◌, List, [], ◌∷◌, length, map, bytes_eq, Option, Some, None}
use Rattle.scc_svtree.specs.declared.module.Dir.{Dir}
use Rattle.scc_svtree.specs.declared.module.Dir.TheVariants.{Input, Output, Inner}
use Rattle.scc_svtext.specs.Pieces.{spelled}
use Rattle.scc_svread_grammar.specs.declared.raw.RawSet.{RawSet}
use Rattle.scc_svread_grammar.specs.declared.raw.RawStmt.{RawStmt}
use Rattle.scc_svread_grammar.specs.declared.raw.RawLoad.{RawLoad}
use Rattle.scc_svread_grammar.specs.declared.raw.RawReset.{RawReset}
use Rattle.scc_svread_grammar.specs.declared.raw.RawBlock.{RawBlock}
use Rattle.scc_svread_grammar.specs.declared.raw.RawBlock.TheVariants.{Comb, Edge}
use Rattle.scc_svread_grammar.specs.declared.raw.RawVar.{RawVar}
use Rattle.scc_svread_grammar.specs.declared.raw.RawItem.{RawItem}
use Rattle.scc_svread_grammar.specs.declared.raw.RawItem.TheVariants.{Var, Block}
use Rattle.scc_svread_grammar.specs.declared.raw.RawModule.{RawModule}
use Rattle.scc_svread_grammar.specs.Lexical.{Bytes}
use Rattle.scc_svread_check.specs.declared.facts.Facts.{Facts}
use Rattle.scc_svread_check.specs.declared.facts.Taken.{Taken}
use Rattle.scc_svread_check.specs.Scope.{high_of}
use Rattle.scc_svread_check.specs.Walking.{Walking, ◌then◌, pass, name_if, start}
use Rattle.scc_svread_check.specs.Parts.{literal_bytes}
use Rattle.scc_svread_check.specs.Lines.{Line}
use Rattle.scc_svread_check.specs.Blocks.{range_bytes, dir_bytes}
use Rattle.scc_svread_check.specs.Mentioned.{Names, Adding, each, is_among, item_read, item_assigned, block_assigned, with_name}
use Rattle.scc_svread_check.specs.Within.{Known, known, mention, expr_names, own_lines}

-- ---- what is known of a module's names

abbrev pub is_input : Dir → Bool
is_input Input = true
is_input Output = false
is_input Inner = false

abbrev pub with_name_if : Bool → Bytes → Adding
with_name_if wanted name names = if wanted then with_name names name else names

abbrev pub input_of : RawVar → Adding
input_of v = with_name_if (is_input v.dir) v.name

-- an input of one bit
abbrev pub level_of : RawVar → Adding
level_of v = with_name_if (is_input v.dir && nat_eq (high_of v) 0) v.name

-- the clocks of all blocks
abbrev pub block_clock : RawBlock → Adding
block_clock (Comb ss) names = names
block_clock (Edge rising clock reset sets) names = with_name names clock

abbrev pub item_clock : RawItem → Adding
item_clock (Var v) names = names
item_clock (Block b) names = block_clock b names

abbrev pub no_facts : Facts
no_facts = record { inputs = []; levels = []; read = []; driven = []; clocks = [] }

-- what a module adds to them
abbrev pub facts_after : RawModule → Facts → Facts
facts_after m f = record {
  inputs = each (map input_of m.ports) f.inputs;
  levels = each (map level_of m.ports) f.levels;
  read = each (map item_read m.items) f.read;
  driven = each (map item_assigned m.items) f.driven;
  clocks = each (map item_clock m.items) f.clocks;
}

abbrev pub facts_of : RawModule → Facts
facts_of m = facts_after m no_facts

-- ---- declarations

abbrev pub is_undriven : Facts → RawVar → Bool
is_undriven f v = not (is_input v.dir) && not (is_among f.driven v.name)

-- a range and a name
abbrev pub var_names : Facts → RawVar → Walking
var_names f v = pass (range_bytes v.high) then mention (is_undriven f v) v.name

abbrev pub further_names : Facts → List RawVar → Walking
further_names f [] w = w
further_names f (v ∷ vs) w = further_names f vs (var_names f v (pass (2 + dir_bytes v.dir) w))

abbrev pub ports_names : Facts → List RawVar → Walking
ports_names f [] = pass 0
ports_names f (v ∷ vs) = pass (dir_bytes v.dir) then var_names f v then further_names f vs then pass 1

-- ---- blocks at edges

-- A block at an edge assigns no input, nothing that a block before assigns (IEEE 1800-2017, 9.2.2.4), and nothing twice.
abbrev pub is_wrong_target : Facts → Names → Names → Bytes → Bool
is_wrong_target f taken before name = is_among f.inputs name || is_among taken name || is_among before name

-- In these blocks a name may be read anywhere.
abbrev pub anywhere : Known
anywhere = known [] [] [] []

abbrev pub set_names : Bool → RawSet → Line
set_names wrong u n = pass n then mention wrong u.target then pass 4 then expr_names anywhere u.value then pass 2

abbrev pub sets_names : Facts → Names → Names → List RawSet → Line
sets_names f taken before [] n w = w
sets_names f taken before (u ∷ us) n w = sets_names f taken (with_name before u.target) us n (set_names (is_wrong_target f taken before u.target) u n w)

-- what an edge sets behind the first set of this name
abbrev pub behind : Bytes → List RawSet → Option (List RawSet)
behind name [] = None
behind name (u ∷ us) = if bytes_eq name u.target then Some us else behind name us

abbrev pub is_out_of_order : Option (List RawSet) → Bool
is_out_of_order None = true
is_out_of_order (Some us) = false

abbrev pub left_over : Option (List RawSet) → List RawSet
left_over None = []
left_over (Some us) = us

abbrev pub load_names : Bool → RawLoad → Line
load_names wrong l n = pass n then mention wrong l.target then pass (4 + literal_bytes l.value + 2)

-- A reset loads what the edge sets, in its order; `us` is what is left of it.
abbrev pub loads_names : Facts → Names → Names → List RawSet → List RawLoad → Line
loads_names f taken before us [] n w = w
loads_names f taken before us (l ∷ ls) n w =
    loads_names f taken (with_name before l.target) (left_over (behind l.target us)) ls n
    (load_names (is_wrong_target f taken before l.target || is_out_of_order (behind l.target us)) l n w)

-- ---- clocks and resets

abbrev pub same : Bool → Bool → Bool
same true b = b
same false b = not b

-- the clocks of the blocks before, at this edge
abbrev pub clocks_at : Bool → Taken → Names
clocks_at true t = t.rising
clocks_at false t = t.falling

-- no block before is at an edge
abbrev pub is_first : Taken → Bool
is_first t = nat_eq (length t.rising) 0 && nat_eq (length t.falling) 0

-- A module has one clock, at one edge; with `many`, each clock has one edge.
abbrev pub is_other_clock : Bool → Taken → Bool → Bytes → Bool
is_other_clock true t rising name = is_among (clocks_at (not rising) t) name
is_other_clock false t rising name = not (is_first t) && not (is_among (clocks_at rising t) name)

-- A clock is an input of one bit that no expression reads.
abbrev pub is_wrong_clock : Bool → Facts → Taken → Bool → Bytes → Bool
is_wrong_clock many f t rising name = not (is_among f.levels name) || is_among f.read name || is_other_clock many t rising name

-- A reset is an input of one bit, and not its block's clock; with `many`, the clock of no block.
abbrev pub is_wrong_signal : Bool → Facts → Bytes → Bytes → Bool
is_wrong_signal many f own name = not (is_among f.levels name) || bytes_eq own name || (many && is_among f.clocks name)

-- A reset stands while its signal has the level to which its edge leads (IEEE 1800-2017, 9.4.2).
abbrev pub is_wrong_level : RawReset → Bool
is_wrong_level r = not (bytes_eq r.signal r.level) || same r.rising r.negated

abbrev pub level_bytes : Bool → Bytes → ℕ
level_bytes true name = length (spelled name) + 11
level_bytes false name = length (spelled name) + 8

abbrev pub reset_names : Bool → Facts → Taken → Bytes → RawReset → List RawSet → Walking
reset_names many f t own r sets =
    pass 12 then mention (is_wrong_signal many f own r.signal) r.signal then pass 16 then name_if (is_wrong_level r) then pass (level_bytes r.negated r.level)
    then loads_names f t.names [] sets r.values 6 then pass 19

-- from behind the clock's name
abbrev pub edge_names : Bool → Facts → Taken → Bytes → Option RawReset → List RawSet → Walking
edge_names many f t own None sets = pass 8 then sets_names f t.names [] sets 4 then pass 6
edge_names many f t own (Some r) sets = reset_names many f t own r sets then sets_names f t.names [] sets 6 then pass 14

-- ---- blocks

abbrev pub comb_names : Facts → Taken → List RawStmt → Names → Walking
comb_names f t ss assigned = pass 20 then own_lines f.inputs t.names assigned [] ss 4 then pass 6

abbrev pub block_names : Bool → Facts → Taken → RawBlock → Walking
block_names many f t (Comb ss) = comb_names f t ss (block_assigned (Comb ss) [])
block_names many f t (Edge rising clock reset sets) = pass 22 then mention (is_wrong_clock many f t rising clock) clock then edge_names many f t clock reset sets

-- the clock of a block at this edge
abbrev pub clock_at : Bool → RawBlock → Adding
clock_at up (Comb ss) names = names
clock_at up (Edge rising clock reset sets) names = with_name_if (same up rising) clock names

-- what is known behind a block
abbrev pub taken_after : Taken → RawBlock → Taken
taken_after t b = record { names = block_assigned b t.names; rising = clock_at true b t.rising; falling = clock_at false b t.falling }

-- ---- the module

abbrev pub item_walk : Bool → Facts → Taken → RawItem → Walking
item_walk many f t (Var v) = pass 8 then var_names f v then pass 2
item_walk many f t (Block b) = block_names many f t b

abbrev pub taken_behind : Taken → RawItem → Taken
taken_behind t (Var v) = t
taken_behind t (Block b) = taken_after t b

abbrev pub items_walk : Bool → Facts → Taken → List RawItem → Walking
items_walk many f t [] w = w
items_walk many f t (i ∷ more) w = items_walk many f (taken_behind t i) more (item_walk many f t i w)

abbrev pub nothing : Taken
nothing = record { names = []; rising = []; falling = [] }

abbrev pub names_in : Bool → Facts → RawModule → Walking
names_in many f m = pass 7 then pass (length (spelled m.name)) then pass 3 then ports_names f m.ports then pass 3 then items_walk many f nothing m.items

abbrev pub names_of : Bool → RawModule → Walking
names_of many m = names_in many (facts_of m) m

-- the place of the first name that stands where it may not
abbrev pub misplaced : Bool → RawModule → Option ℕ
misplaced many m = (names_of many m start).name
