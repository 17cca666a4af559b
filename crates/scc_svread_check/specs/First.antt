-- What is wrong first in a module as it is written: a size, a name that is undeclared or declared twice, or a driver.
use Rattle.std.specs.Prelude.{ℕ, ◌+◌, Bool, List, [], ◌∷◌, ◌++◌, length, Option, Some, None}
use Rattle.scc_svtext.specs.Pieces.{spelled}
use Rattle.scc_svread_grammar.specs.declared.raw.RawVar.{RawVar}
use Rattle.scc_svread_grammar.specs.declared.raw.RawBlock.TheVariants.{Comb, Edge}
use Rattle.scc_svread_grammar.specs.declared.raw.RawItem.{RawItem}
use Rattle.scc_svread_grammar.specs.declared.raw.RawItem.TheVariants.{Var, Block}
use Rattle.scc_svread_grammar.specs.declared.raw.RawModule.{RawModule}
use Rattle.scc_svread_check.specs.declared.walk.Walk.{Walk}
use Rattle.scc_svread_check.specs.declared.wrong.Wrong.{Wrong}
use Rattle.scc_svread_check.specs.declared.wrong.Wrong.TheVariants.{Size, Name, Driver}
use Rattle.scc_svread_check.specs.Scope.{Scope, declare, declare_all}
use Rattle.scc_svread_check.specs.Walking.{Walking, ◌then◌, pass, start}
use Rattle.scc_svread_check.specs.Blocks.{block_walk, var_walk, dir_bytes}
use Rattle.scc_svread_check.specs.Drivers.{misplaced}

-- ports behind a first one, each behind a comma and a line's end
abbrev pub further_ports : Scope → List RawVar → Walking
further_ports before [] w = w
further_ports before (v ∷ vs) w = further_ports (declare before v) vs (var_walk before v (pass (2 + dir_bytes v.dir) w))

abbrev pub ports_walk : Scope → List RawVar → Walking
ports_walk before [] = pass 0
ports_walk before (v ∷ vs) = pass (dir_bytes v.dir) then var_walk before v then further_ports (declare before v) vs then pass 1

-- a declaration or a block: the names before, and all of the module's
abbrev pub item_walk : Scope → Scope → RawItem → Walking
item_walk before s (Var v) = pass 8 then var_walk before v then pass 2
item_walk before s (Block b) = block_walk s b

abbrev pub item_names : Scope → RawItem → Scope
item_names before (Var v) = declare before v
item_names before (Block b) = before

abbrev pub items_walk : Scope → Scope → List RawItem → Walking
items_walk before s [] w = w
items_walk before s (i ∷ more) w = items_walk (item_names before i) s more (item_walk before s i w)

abbrev pub names_with : Scope → List RawItem → Scope
names_with before [] = before
names_with before (i ∷ more) = names_with (item_names before i) more

-- the names of a module
abbrev pub scope_of : RawModule → Scope
scope_of m = names_with (declare_all [] m.ports) m.items

-- up to the first line behind the ports
abbrev pub head_walk : RawModule → Walking
head_walk m = pass 7 then pass (length (spelled m.name)) then pass 3 then ports_walk [] m.ports then pass 3

abbrev pub module_walk : RawModule → Walking
module_walk m = head_walk m then items_walk (declare_all [] m.ports) (scope_of m) m.items

-- wrong sizes before names that are not declared once, and these before declared names that stand where they may not
abbrev pub first_in : Option ℕ → Option ℕ → Option ℕ → Option Wrong
first_in (Some at) name driver = Some (Size at)
first_in None (Some at) driver = Some (Name at)
first_in None None (Some at) = Some (Driver at)
first_in None None None = None

-- what is wrong first; `many` says whether the module may have several clocks
abbrev pub wrong_of : Bool → RawModule → Option Wrong
wrong_of many m = first_in (module_walk m start).size (module_walk m start).name (misplaced many m)

-- ---- where combinational blocks begin, behind the blanks before them

abbrev pub start_of : RawItem → Walk → List ℕ
start_of (Var v) w = []
start_of (Block (Comb ss)) w = (pass 2 w).at ∷ []
start_of (Block (Edge rising clock reset sets)) w = []

abbrev pub starts_behind : Scope → Scope → List RawItem → Walk → List ℕ
starts_behind before s [] w = []
starts_behind before s (i ∷ more) w = start_of i w ++ starts_behind (item_names before i) s more (item_walk before s i w)

abbrev pub starts_of : RawModule → List ℕ
starts_of m = starts_behind (declare_all [] m.ports) (scope_of m) m.items (head_walk m start)
