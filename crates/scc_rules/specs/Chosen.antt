-- Signals and ports that an index which isn't static chooses. This project's own.
use Rattle.std.specs.Prelude.{◌≡◌, ◌⊎◌, ℕ, Bool, true, false, not, ◌&&◌, nat_eq, List, [], ◌∷◌, ◌++◌, length, slice_get, Option, Some, None}
use Rattle.std.specs.List.{list_any}
use Rattle.scc_base.specs.declared.refusal.Place.{Place}
use Rattle.scc_base.specs.declared.refusal.Refusal.{Refusal}
use Rattle.scc_core.specs.declared.expr.CoreBase.{CoreBase, out-CoreBase}
use Rattle.scc_core.specs.declared.expr.CoreBase.TheOpen.{CoreBase-F}
use Rattle.scc_core.specs.declared.expr.CoreBase.TheOpen as tree
use Rattle.scc_core.specs.declared.expr.CoreExpr.{CoreExpr}
use Rattle.scc_core.specs.declared.expr.CoreExprNode.{CoreExprNode}
use Rattle.scc_core.specs.declared.expr.CoreLeft.{CoreLeft}
use Rattle.scc_core.specs.declared.expr.CorePart.{CorePart}
use Rattle.scc_core.specs.declared.expr.CorePick.{CorePick}
use Rattle.scc_core.specs.declared.named.Named.{Named}
use Rattle.scc_core.specs.declared.program.Cell.{Cell}
use Rattle.scc_core.specs.declared.program.CellSort.{CellSort}
use Rattle.scc_core.specs.declared.program.CellSort.TheVariants as sort
use Rattle.scc_core.specs.declared.program.CoreProcess.{CoreProcess}
use Rattle.scc_core.specs.declared.stmt.CoreStmt.{CoreStmt}
use Rattle.scc_core.specs.Located.{named_in}
use Rattle.scc_core_flow.specs.Live.{Each}
use Rattle.scc_core_spec.specs.First.{first_of, when}
use Rattle.scc_core_spec.specs.Kept.{OneOf}
use Rattle.scc_core_spec.specs.Program.{Program, is_root}
use Rattle.scc_core_spec.specs.Rules.{chosen_root, own_uses}
use Rattle.scc_core_spec.specs.Static.{Cells}
use Rattle.scc_core_spec.specs.Term.{Left}
use Rattle.scc_core_spec.specs.Uses.{Use, cells_of, has_sort, inside, is_single, loads, picked}
use Rattle.scc_core_view.specs.Codes.{code_of}
use Rattle.scc_core_view.specs.Terms.{taken_of, term_of}
use Rattle.scc_rules.specs.declared.facts.Facts.{Facts}
use Rattle.scc_rules_walks.specs.declared.loads.Load.{Load}

-- a signal or port, by what the code holds
abbrev pub is_shown : CellSort → Bool
is_shown sort.Input = true
is_shown sort.Output = true
is_shown sort.Signal = true
is_shown (sort.Port path) = true
is_shown _ = false

abbrev pub shown_cell : Option Cell → Bool
shown_cell None = false
shown_cell (Some c) = is_shown c.sort

abbrev pub chosen_of : Facts → Option Named → Bool
chosen_of f None = false
chosen_of f (Some n) = not (nat_eq (length n.dims) 0) && shown_cell (slice_get f.core.now.cells n.base)

abbrev pub chosen_in : Facts → CoreLeft → Bool
chosen_in f l = chosen_of f (named_in f.known l)

abbrev pub chosen_at : Facts → Load → Option Place
chosen_at f l = when (chosen_in f l.left.now) l.place

-- the same by the definitions
abbrev pub is_chosen : Cells → Left → Bool
is_chosen cs l = not (is_single cs l) && list_any (has_sort is_root cs) (cells_of cs l)

abbrev pub chosen_place : Cells → Use → Option Place
chosen_place cs u = when (is_chosen cs u.left) u.place

-- a cell by its number, and no part of it
abbrev pub alone_of : CoreBase-F CoreBase CoreExprNode CorePart CorePick CoreExpr CoreLeft → List CorePart → Bool
alone_of (tree.Cell n) [] = true
alone_of _ _ = false

abbrev pub is_alone : CoreLeft → Bool
is_alone l = alone_of (out-CoreBase l.base) l.parts

-- of the locations of these uses that aren't cells by their numbers the facts tell by the table of names what the definition says
abbrev pub AreLocated : Facts → Cells → List Use → Type 0
AreLocated f cs us = (l : CoreLeft) (u : Use) → OneOf u us → u.left ≡ (taken_of l).left → is_alone l ≡ false → chosen_in f l ≡ is_chosen cs (taken_of l).left

abbrev pub uses_in : List CoreStmt → List Use
uses_in ss = own_uses (code_of ss)

abbrev pub own_in : CoreProcess → List Use
own_in p = uses_in p.body

abbrev pub AreLocatedAll : Facts → Program → Type 0
AreLocatedAll f p = Each (λ q. AreLocated f p.cells (own_in q)) f.core.now.processes

-- what the rule says of one process
abbrev pub chosen_by : Cells → CoreProcess → Option Refusal
chosen_by cs p = first_of (chosen_root cs) (own_in p)
