-- The part of a number that an assignment writes, and the bit that it names. This project's own.
use Rattle.std.specs.Prelude.{◌≡◌, ℕ, Option, option_map, Result, Ok, Err}
use Rattle.scc_base.specs.declared.refusal.Stop.{Stop}
use Rattle.scc_base.specs.declared.refusal.Stop.TheVariants as stop
use Rattle.scc_core_spec.specs.Resolved.{Tried, Made, Stopped}
use Rattle.scc_plain_tree.specs.declared.expr.PlainPick.{PlainPick, fold-PlainPick}
use Rattle.scc_elab_spec.specs.Term.{Term, Left, Pick}
use Rattle.scc_plain_view.specs.Terms.{Base, Node, Picking, Taken, pick_of, base_node, expr_node, part_node, pick_node, expr_step, left_step}

-- the pick of a tree as the term of its left side has it
abbrev pub pick_term : PlainPick → Picking
pick_term = fold-PlainPick Base Node (Left → Left) Picking Term Taken base_node expr_node part_node pick_node expr_step left_step

-- that of a left side, whole where there is none
abbrev pub pick_meant : Option PlainPick → Pick
pick_meant o = pick_of (option_map pick_term o)

-- the answer is the bit that is named, or the refusal; or memory is wanted
abbrev pub IsIndex : Result (Option ℕ) Stop → Tried (Option ℕ) → Type 0
IsIndex (Ok o) t = t ≡ Made o
IsIndex (Err (stop.Refused r)) t = t ≡ Stopped r
IsIndex (Err stop.NoMemory) t = Unit {0}
