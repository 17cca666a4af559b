-- What an asynchronous reset loads, by what is known of cells. This project's own.
use Rattle.std.specs.Prelude.{◌≡◌, ℕ, suc, zero, ◌&&◌, Bool, List, [], ◌∷◌, ◌++◌, map, Option, None, option_map, is_some, Result, Ok, Err}
use Rattle.scc_base.specs.declared.refusal.Place.{Place}
use Rattle.scc_base.specs.declared.refusal.Stop.{Stop}
use Rattle.scc_base.specs.declared.code.Code.TheVariants as reason
use Rattle.scc_core.specs.declared.expr.CoreExpr.{CoreExpr}
use Rattle.scc_core.specs.declared.expr.CoreLeft.{CoreLeft}
use Rattle.scc_core.specs.declared.statics.Known.{Known}
use Rattle.scc_core.specs.declared.stmt.CoreStmt.{CoreStmt, fold-CoreStmt}
use Rattle.scc_core.specs.declared.stmt.CoreNode.TheOpen.{CoreNode-F, CoreStmt-F}
use Rattle.scc_core.specs.declared.stmt.CoreNode.TheOpen as node
use Rattle.scc_core.specs.Known.{facts_in}
use Rattle.scc_core.specs.Located.{named_in}
use Rattle.scc_core.specs.Statics.{value_in}
use Rattle.scc_core_flow.specs.Live.{Each}
use Rattle.scc_core_spec.specs.First.{refused}
use Rattle.scc_core_spec.specs.Split.{Along, Ended, On, Out, first_along, gives_static}
use Rattle.scc_core_spec.specs.Static.{Cells}
use Rattle.scc_core_view.specs.Terms.{taken_of, term_of}
use Rattle.scc_states_cut.specs.Limits.{Stops}
use Rattle.scc_states_kept.specs.Filled.{fills}
use Rattle.scc_states.specs.declared.reset.Way.{Way}
use Rattle.scc_states.specs.declared.reset.Way.TheVariants as way

-- ---- whether an assignment gives one whole cell a static value

unfoldable pub loads_in : Known → CoreLeft → CoreExpr → Bool
loads_in known l e = fills known l (named_in known l) && is_some (value_in (facts_in known) e)

-- ---- the assignments in statements

abbrev pub Given : Type 0
Given = CoreLeft × CoreExpr

abbrev pub flat : {A : Type 0} → List (List A) → List A
flat [] = []
flat (x ∷ xs) = x ++ flat xs

abbrev pub node_assigns : CoreNode-F (List Given) (List Given) → List Given
node_assigns (node.Assign l e) = (l, e) ∷ []
node_assigns (node.If t a b) = flat a ++ flat b
node_assigns (node.Block b) = flat b
node_assigns (node.Loop n b) = flat b
node_assigns (node.Exit n) = []
node_assigns (node.Wait n) = []
node_assigns (node.Alias to target) = []

abbrev pub assigns_step : CoreStmt-F (List Given) (List Given) → List Given
assigns_step s = s.node

abbrev pub assigns_of : CoreStmt → List Given
assigns_of = fold-CoreStmt (List Given) (List Given) node_assigns assigns_step

abbrev pub assigns_in : List CoreStmt → List Given
assigns_in ss = flat (map assigns_of ss)

-- what is known tells of an assignment what the definition does
abbrev pub Loads : Known → Cells → Given → Type 0
Loads known cs g = loads_in known g.0 g.1 ≡ gives_static cs (taken_of g.0).left (taken_of g.0).pick (term_of g.1)

abbrev pub LoadsAll : Known → Cells → List CoreStmt → Type 0
LoadsAll known cs ss = Each (Loads known cs) (assigns_in ss)

-- ---- what a walk along the reset segment answers

-- nothing is refused, or the first place is this (E514)
abbrev pub IsLoaded : Option Place → Result Unit Stop → Type 0
IsLoaded o (Ok u) = o ≡ None
IsLoaded o (Err e) = Stops (option_map (refused reason.ResetValue) o) e

abbrev pub ending : Way → Along
ending way.On = On None
ending way.Ended = Ended None
ending (way.Out n) = Out n None

abbrev pub IsAlong : Along → Result Way Stop → Type 0
IsAlong x (Ok w) = x ≡ ending w
IsAlong x (Err e) = Stops (option_map (refused reason.ResetValue) (first_along x)) e

abbrev pub out_of : ℕ → Way
out_of zero = way.On
out_of (suc n) = way.Out n

-- behind a block, and behind a loop
abbrev pub shut_way : Way → Way
shut_way way.On = way.On
shut_way way.Ended = way.Ended
shut_way (way.Out n) = out_of n

abbrev pub once_way : Way → Way
once_way way.On = way.Ended
once_way way.Ended = way.Ended
once_way (way.Out n) = way.Out n
