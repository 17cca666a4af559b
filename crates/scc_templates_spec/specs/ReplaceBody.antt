-- The statements of a body with a template's parameters replaced (ISO C++ [temp.inst], [basic.scope.block]): a declared variable hides a parameter of its name behind
-- itself, to the end of its block. In the braces of a `switch` a pointer or reference does so up to the next label (this project's own).
use Rattle.std.specs.Prelude.{ℕ, List, [], ◌∷◌, Option, Some, None, option_map, option_and_then, is_some, if◌then◌else◌}
use Rattle.scc_tree.specs.declared.local.Hold.{Hold}
use Rattle.scc_tree.specs.declared.local.Hold.TheVariants as hold
use Rattle.scc_templates_spec.specs.Replace.{Bound, hide, replace, replace_all, replace_type}
use Rattle.scc_templates_spec.specs.Statements.{Stmts, End, Brace, Declare, If, Switch, While, Do, For, Break, Continue, Return, Wait, Runs, Sensitive, Quiet, Reset, Simply, Items, NoItems, Case, Otherwise, Between, Local, Simple, Assign, Step, Calls, First, Nothing, Locals, Does, Process, Method, Thread, Clocked}

-- the type and sizes stand before the name, its value behind it
abbrev pub replace_local : Bound → Local → Local
replace_local b l = record { place = l.place; name = l.name; type = replace_type b l.type; hold = l.hold; sizes = replace_all b l.sizes; value = option_map (replace (hide l.name b)) l.value }

abbrev pub replace_simple : Bound → Simple → Simple
replace_simple b (Assign p l o at e) = Assign p (replace b l) o at (replace b e)
replace_simple b (Step p e o at) = Step p (replace b e) o at
replace_simple b (Calls p e) = Calls p (replace b e)

abbrev pub replace_process : Bound → Process → Process
replace_process b Method = Method
replace_process b Thread = Thread
replace_process b (Clocked e) = Clocked (replace b e)

abbrev pub unless_bound : Bound → Option ℕ → Option ℕ
unless_bound b x = option_and_then (λ x. if is_some (b x) then None else Some x) x

abbrev pub replace_locals : Bound → List Local → List Local
replace_locals b [] = []
replace_locals b (l ∷ ls) = replace_local b l ∷ replace_locals (hide l.name b) ls

abbrev pub hide_locals : List Local → Bound → Bound
hide_locals [] b = b
hide_locals (l ∷ ls) b = hide_locals ls (hide l.name b)

abbrev pub replace_first : Bound → First → First
replace_first b Nothing = Nothing
replace_first b (Locals ls) = Locals (replace_locals b ls)
replace_first b (Does e) = Does (replace_simple b e)

abbrev pub hide_first : First → Bound → Bound
hide_first Nothing b = b
hide_first (Locals ls) b = hide_locals ls b
hide_first (Does e) b = b

-- behind the variables that statements declare in their own block: all of them, and those of numbers alone
abbrev pub hide_declared : Stmts → Bound → Bound
hide_declared (Declare l r) b = hide_declared r (hide l.name b)
hide_declared r b = b

abbrev pub hide_if_direct : Hold → Local → Bound → Bound
hide_if_direct hold.Direct l b = hide l.name b
hide_if_direct h l b = b

abbrev pub hide_numbers : Stmts → Bound → Bound
hide_numbers (Declare l r) b = hide_numbers r (hide_if_direct l.hold l b)
hide_numbers r b = b

abbrev mutual
  pub replace_stmts : Bound → Stmts → Stmts
  replace_stmts b End = End
  replace_stmts b (Brace s r) = Brace (replace_stmts b s) (replace_stmts b r)
  replace_stmts b (Declare l r) = Declare (replace_local b l) (replace_stmts (hide l.name b) r)
  replace_stmts b (If p t x y r) = If p (replace b t) (replace_stmts b x) (replace_stmts b y) (replace_stmts b r)
  replace_stmts b (Switch p e is r) = Switch p (replace b e) (replace_items b b is) (replace_stmts b r)
  replace_stmts b (While p t s r) = While p (replace b t) (replace_stmts b s) (replace_stmts b r)
  replace_stmts b (Do p s t r) = Do p (replace_stmts b s) (replace b t) (replace_stmts b r)
  replace_stmts b (For p f t e s r) = For p (replace_first b f) (option_map (replace (hide_first f b)) t) (option_map (replace_simple (hide_first f b)) e) (replace_stmts (hide_first f b) s) (replace_stmts b r)
  replace_stmts b (Break p r) = Break p (replace_stmts b r)
  replace_stmts b (Continue p r) = Continue p (replace_stmts b r)
  replace_stmts b (Return p e r) = Return p (option_map (replace b) e) (replace_stmts b r)
  replace_stmts b (Wait p e r) = Wait p (option_map (replace b) e) (replace_stmts b r)
  replace_stmts b (Runs p at x q r) = Runs p at (unless_bound b x) (replace_process b q) (replace_stmts b r)
  replace_stmts b (Sensitive p es r) = Sensitive p (replace_all b es) (replace_stmts b r)
  replace_stmts b (Quiet p r) = Quiet p (replace_stmts b r)
  replace_stmts b (Reset p e l a r) = Reset p (replace b e) (replace b l) a (replace_stmts b r)
  replace_stmts b (Simply e r) = Simply (replace_simple b e) (replace_stmts b r)

  -- `b` has what is hidden up to the next label, `numbers` what is hidden behind it
  pub replace_items : Bound → Bound → Items → Items
  replace_items b numbers NoItems = NoItems
  replace_items b numbers (Case p e is) = Case p (replace numbers e) (replace_items numbers numbers is)
  replace_items b numbers (Otherwise p is) = Otherwise p (replace_items numbers numbers is)
  replace_items b numbers (Between s is) = Between (replace_stmts b s) (replace_items (hide_declared s b) (hide_numbers s numbers) is)
