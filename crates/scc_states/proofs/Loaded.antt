-- What is answered of statements that a reset loads, from what is answered of those in them.
use Rattle.std.proofs.Common.{◌≡◌, ℕ, zero, suc, ◌+◌, ◌<◌, ◌≤◌, true, false, List, [], ◌∷◌, get_or, length, drop, Option, Some, None, refl, sym, ap, subst, ◌∙◌}
use Rattle.std.specs.Prelude.{is_some, not, Result}
use Rattle.std.proofs.lemmas.List.{drop_all}
use Rattle.scc_base.specs.declared.refusal.Place.{Place}
use Rattle.scc_base.specs.declared.refusal.Stop.{Stop}
use Rattle.scc_base.specs.declared.code.Code.TheVariants as reason
use Rattle.scc_core.specs.declared.expr.CoreExpr.{CoreExpr}
use Rattle.scc_core.specs.declared.expr.CoreLeft.{CoreLeft}
use Rattle.scc_core.specs.declared.statics.Known.{Known}
use Rattle.scc_core.specs.declared.stmt.Count.{Count as Counting}
use Rattle.scc_core.specs.declared.stmt.CoreStmt.{CoreStmt}
use Rattle.scc_core.specs.declared.stmt.CoreNode.TheVariants as stmt
use Rattle.scc_core_spec.specs.Code.{End, If, Block, Loop}
use Rattle.scc_core_spec.specs.First.{or_else, when, refused}
use Rattle.scc_core_spec.specs.Segments.{opens}
use Rattle.scc_core_spec.specs.Split.{Along, Ended, On, Out, then_along, shut_along, one_way, plain_or, first_along, unloaded, along, before as before_along}
use Rattle.scc_core_spec.specs.Static.{Cells, goes}
use Rattle.scc_core_view.specs.Codes.{code_of, counted}
use Rattle.scc_core_view.specs.Terms.{term_of}
use Rattle.scc_core_view.proofs.Layers.{assigns, tests, blocks, loops, exits, waits}
use Rattle.scc_states_cut.specs.Limits.{Stops}
use Rattle.scc_states.specs.declared.reset.Way.{Way}
use Rattle.scc_states.specs.declared.reset.Way.TheVariants as way
use Rattle.scc_states.specs.Resets.{IsLoaded, IsAlong, Loads, LoadsAll, ending, loads_in, once_way, shut_way}
use Rattle.scc_states.proofs.Along.{told, or_none, none_along, stops_or, stops_along, stops_shut, stmt_adds, unloaded_here, along_here}
use Rattle.scc_states.proofs.Assigns.{given_assign}

is_loaded : (o p : Option Place) (r : Result Unit Stop) → o ≡ p → IsLoaded p r → IsLoaded o r
is_loaded o p r is h = subst (λ q. IsLoaded q r) (sym is) h

-- ---- lists

module _ (cs : Cells) (ss : List CoreStmt) (i : ℕ) where
  pub next_loaded : (s : CoreStmt) (total : Option Place) → i < length ss → s ≡ get_or ss i s → unloaded cs (code_of (s ∷ [])) ≡ None
      → unloaded cs (code_of (drop i ss)) ≡ total → unloaded cs (code_of (drop (i + 1) ss)) ≡ total
  next_loaded s total h is none so = ap (λ o. or_else o (unloaded cs (code_of (drop (i + 1) ss)))) (sym none) ∙ sym (unloaded_here cs ss i s h is) ∙ so

  pub stops_loaded : (s : CoreStmt) (total : Option Place) (e : Stop) → i < length ss → s ≡ get_or ss i s → Stops (told (unloaded cs (code_of (s ∷ [])))) e
      → unloaded cs (code_of (drop i ss)) ≡ total → Stops (told total) e
  stops_loaded s total e h is here so =
      subst (λ o. Stops (told o) e) (sym (unloaded_here cs ss i s h is) ∙ so) (stops_or (unloaded cs (code_of (s ∷ []))) (unloaded cs (code_of (drop (i + 1) ss))) e here)

  pub end_loaded : (total : Option Place) → length ss ≤ i → unloaded cs (code_of (drop i ss)) ≡ total → total ≡ None
  end_loaded total h so = sym so ∙ ap (λ l. unloaded cs (code_of l)) (drop_all i ss h)

  pub next_along : (s : CoreStmt) (total : Along) → i < length ss → s ≡ get_or ss i s → along cs (code_of (s ∷ [])) ≡ On None
      → along cs (code_of (drop i ss)) ≡ total → along cs (code_of (drop (i + 1) ss)) ≡ total
  next_along s total h is on so =
      sym (none_along (along cs (code_of (drop (i + 1) ss))))
      ∙ ap (λ x. then_along x (along cs (code_of (drop (i + 1) ss)))) (sym on) ∙ sym (along_here cs ss i s h is) ∙ so

  pub ended_along : (s : CoreStmt) (total : Along) → i < length ss → s ≡ get_or ss i s → along cs (code_of (s ∷ [])) ≡ Ended None
      → along cs (code_of (drop i ss)) ≡ total → total ≡ Ended None
  ended_along s total h is away so = sym so ∙ along_here cs ss i s h is ∙ ap (λ x. then_along x (along cs (code_of (drop (i + 1) ss)))) away

  pub out_along : (s : CoreStmt) (total : Along) (n : ℕ) → i < length ss → s ≡ get_or ss i s → along cs (code_of (s ∷ [])) ≡ Out n None
      → along cs (code_of (drop i ss)) ≡ total → total ≡ Out n None
  out_along s total n h is away so = sym so ∙ along_here cs ss i s h is ∙ ap (λ x. then_along x (along cs (code_of (drop (i + 1) ss)))) away

  pub stopped_along : (s : CoreStmt) (total : Along) (e : Stop) → i < length ss → s ≡ get_or ss i s → Stops (told (first_along (along cs (code_of (s ∷ []))))) e
      → along cs (code_of (drop i ss)) ≡ total → Stops (told (first_along total)) e
  stopped_along s total e h is here so =
      subst (λ x. Stops (told (first_along x)) e) (sym (along_here cs ss i s h is) ∙ so) (stops_along (along cs (code_of (s ∷ []))) (along cs (code_of (drop (i + 1) ss))) e here)

  pub end_along : (total : Along) → length ss ≤ i → along cs (code_of (drop i ss)) ≡ total → total ≡ On None
  end_along total h so = sym so ∙ ap (λ l. along cs (code_of l)) (drop_all i ss h)

-- ---- statements with all that stands in them

module _ (cs : Cells) (s : CoreStmt) where
  pub loaded_assign : (known : Known) (l : CoreLeft) (e : CoreExpr) (r : Result Unit Stop) → s.node ≡ stmt.Assign l e → LoadsAll known cs (s ∷ [])
      → IsLoaded (when (not (loads_in known l e)) s.place) r → IsLoaded (unloaded cs (code_of (s ∷ []))) r
  loaded_assign known l e r is given h =
      is_loaded _ _ r (ap (unloaded cs) (assigns s l e is End) ∙ or_none _ ∙ ap (λ b. when (not b) s.place) (sym (given_assign (Loads known cs) s l e is given))) h

  of_if : (t : CoreExpr) (a b : List CoreStmt) → s.node ≡ stmt.If t a b
      → unloaded cs (code_of (s ∷ [])) ≡ or_else (when (not (is_some (goes cs (term_of t)))) s.place) (or_else (unloaded cs (code_of a)) (unloaded cs (code_of b)))
  of_if t a b is = ap (unloaded cs) (tests s t a b is End) ∙ ap (λ o. or_else (when (not (is_some (goes cs (term_of t)))) s.place) (or_else (unloaded cs (code_of a)) o)) (or_none (unloaded cs (code_of b)))

  pub loaded_if : (t : CoreExpr) (a b : List CoreStmt) (r : Result Unit Stop) → s.node ≡ stmt.If t a b → when (not (is_some (goes cs (term_of t)))) s.place ≡ None
      → unloaded cs (code_of a) ≡ None → IsLoaded (unloaded cs (code_of b)) r → IsLoaded (unloaded cs (code_of (s ∷ []))) r
  loaded_if t a b r is w ha h =
      is_loaded _ _ r (of_if t a b is ∙ ap (λ o. or_else o (or_else (unloaded cs (code_of a)) (unloaded cs (code_of b)))) w ∙ ap (λ o. or_else o (unloaded cs (code_of b))) ha) h

  pub stops_test : (t : CoreExpr) (a b : List CoreStmt) (e : Stop) → s.node ≡ stmt.If t a b → Stops (told (when (not (is_some (goes cs (term_of t)))) s.place)) e
      → Stops (told (unloaded cs (code_of (s ∷ [])))) e
  stops_test t a b e is h = subst (λ o. Stops (told o) e) (sym (of_if t a b is)) (stops_or _ _ e h)

  pub stops_yes : (t : CoreExpr) (a b : List CoreStmt) (e : Stop) → s.node ≡ stmt.If t a b → when (not (is_some (goes cs (term_of t)))) s.place ≡ None
      → Stops (told (unloaded cs (code_of a))) e → Stops (told (unloaded cs (code_of (s ∷ [])))) e
  stops_yes t a b e is w h =
      subst (λ o. Stops (told o) e) (sym (of_if t a b is ∙ ap (λ o. or_else o (or_else (unloaded cs (code_of a)) (unloaded cs (code_of b)))) w)) (stops_or _ (unloaded cs (code_of b)) e h)

  pub loaded_block : (b : List CoreStmt) (r : Result Unit Stop) → s.node ≡ stmt.Block b → IsLoaded (unloaded cs (code_of b)) r → IsLoaded (unloaded cs (code_of (s ∷ []))) r
  loaded_block b r is h = is_loaded _ _ r (ap (unloaded cs) (blocks s b is End) ∙ or_none (unloaded cs (code_of b))) h

  pub loaded_loop : (n : Option Counting) (b : List CoreStmt) (r : Result Unit Stop) → s.node ≡ stmt.Loop n b → IsLoaded (unloaded cs (code_of b)) r → IsLoaded (unloaded cs (code_of (s ∷ []))) r
  loaded_loop n b r is h = is_loaded _ _ r (ap (unloaded cs) (loops s n b is End) ∙ or_none (unloaded cs (code_of b))) h

  -- ---- the path along one statement

  pub plain_on : opens 0 (code_of (s ∷ [])) ≡ false → unloaded cs (code_of (s ∷ [])) ≡ None → along cs (code_of (s ∷ [])) ≡ On None
  plain_on h none = (stmt_adds cs s).plain h ∙ ap On none

  pub plain_stops : (e : Stop) → opens 0 (code_of (s ∷ [])) ≡ false → Stops (told (unloaded cs (code_of (s ∷ [])))) e → Stops (told (first_along (along cs (code_of (s ∷ []))))) e
  plain_stops e h stop = subst (λ x. Stops (told (first_along x)) e) (sym ((stmt_adds cs s).plain h)) stop

  then_none : (x : Along) → then_along x (On None) ≡ x
  then_none (On f) = ap On (or_none f)
  then_none (Ended f) = refl
  then_none (Out n f) = refl

  of_test : (t : CoreExpr) (a b : List CoreStmt) → s.node ≡ stmt.If t a b → opens 0 (code_of (s ∷ [])) ≡ true
      → along cs (code_of (s ∷ [])) ≡ one_way (goes cs (term_of t)) s.place (along cs (code_of a)) (along cs (code_of b))
  of_test t a b is h =
      let same = tests s t a b is End in
      ap (along cs) same
      ∙ ap (λ q. plain_or q (then_along (one_way (goes cs (term_of t)) s.place (along cs (code_of a)) (along cs (code_of b))) (On None)) (before_along (unloaded cs (If s.place (term_of t) (code_of a) (code_of b) End)) (On None)))
      (ap (opens 0) (sym same) ∙ h)
      ∙ then_none _

  pub along_yes : (t : CoreExpr) (a b : List CoreStmt) (r : Result Way Stop) → s.node ≡ stmt.If t a b → opens 0 (code_of (s ∷ [])) ≡ true → goes cs (term_of t) ≡ Some true
      → IsAlong (along cs (code_of a)) r → IsAlong (along cs (code_of (s ∷ []))) r
  along_yes t a b r is h g k = subst (λ x. IsAlong x r) (sym (of_test t a b is h ∙ ap (λ o. one_way o s.place (along cs (code_of a)) (along cs (code_of b))) g)) k

  pub along_no : (t : CoreExpr) (a b : List CoreStmt) (r : Result Way Stop) → s.node ≡ stmt.If t a b → opens 0 (code_of (s ∷ [])) ≡ true → goes cs (term_of t) ≡ Some false
      → IsAlong (along cs (code_of b)) r → IsAlong (along cs (code_of (s ∷ []))) r
  along_no t a b r is h g k = subst (λ x. IsAlong x r) (sym (of_test t a b is h ∙ ap (λ o. one_way o s.place (along cs (code_of a)) (along cs (code_of b))) g)) k

  pub along_none : (t : CoreExpr) (a b : List CoreStmt) → s.node ≡ stmt.If t a b → opens 0 (code_of (s ∷ [])) ≡ true → goes cs (term_of t) ≡ None
      → told (first_along (along cs (code_of (s ∷ [])))) ≡ Some (refused reason.ResetValue s.place)
  along_none t a b is h g = ap (λ x. told (first_along x)) (of_test t a b is h ∙ ap (λ o. one_way o s.place (along cs (code_of a)) (along cs (code_of b))) g)

  of_block : (b : List CoreStmt) → s.node ≡ stmt.Block b → opens 0 (code_of (s ∷ [])) ≡ true → along cs (code_of (s ∷ [])) ≡ shut_along (along cs (code_of b)) (On None)
  of_block b is h =
      let same = blocks s b is End in
      ap (along cs) same
      ∙ ap (λ q. plain_or q (shut_along (along cs (code_of b)) (On None)) (before_along (unloaded cs (Block s.place (code_of b) End)) (On None))) (ap (opens 0) (sym same) ∙ h)

  shut_is : (w : Way) → shut_along (ending w) (On None) ≡ ending (shut_way w)
  shut_is way.On = refl
  shut_is way.Ended = refl
  shut_is (way.Out zero) = refl
  shut_is (way.Out (suc n)) = refl

  pub along_block : (b : List CoreStmt) (w : Way) → s.node ≡ stmt.Block b → opens 0 (code_of (s ∷ [])) ≡ true → along cs (code_of b) ≡ ending w
      → along cs (code_of (s ∷ [])) ≡ ending (shut_way w)
  along_block b w is h k = of_block b is h ∙ ap (λ x. shut_along x (On None)) k ∙ shut_is w

  pub block_stops : (b : List CoreStmt) (e : Stop) → s.node ≡ stmt.Block b → opens 0 (code_of (s ∷ [])) ≡ true → Stops (told (first_along (along cs (code_of b)))) e
      → Stops (told (first_along (along cs (code_of (s ∷ []))))) e
  block_stops b e is h k = subst (λ x. Stops (told (first_along x)) e) (sym (of_block b is h)) (stops_shut (along cs (code_of b)) e k)

  of_loop : (n : Option Counting) (b : List CoreStmt) → s.node ≡ stmt.Loop n b → opens 0 (code_of (s ∷ [])) ≡ true → along cs (code_of (s ∷ [])) ≡ then_along (along cs (code_of b)) (Ended None)
  of_loop n b is h =
      let same = loops s n b is End in
      ap (along cs) same
      ∙ ap (λ q. plain_or q (then_along (along cs (code_of b)) (Ended None)) (before_along (unloaded cs (Loop s.place (counted n) (code_of b) End)) (On None))) (ap (opens 0) (sym same) ∙ h)

  once_is : (w : Way) → then_along (ending w) (Ended None) ≡ ending (once_way w)
  once_is way.On = refl
  once_is way.Ended = refl
  once_is (way.Out n) = refl

  pub along_loop : (n : Option Counting) (b : List CoreStmt) (w : Way) → s.node ≡ stmt.Loop n b → opens 0 (code_of (s ∷ [])) ≡ true → along cs (code_of b) ≡ ending w
      → along cs (code_of (s ∷ [])) ≡ ending (once_way w)
  along_loop n b w is h k = of_loop n b is h ∙ ap (λ x. then_along x (Ended None)) k ∙ once_is w

  pub loop_stops : (n : Option Counting) (b : List CoreStmt) (e : Stop) → s.node ≡ stmt.Loop n b → opens 0 (code_of (s ∷ [])) ≡ true → Stops (told (first_along (along cs (code_of b)))) e
      → Stops (told (first_along (along cs (code_of (s ∷ []))))) e
  loop_stops n b e is h k = subst (λ x. Stops (told (first_along x)) e) (sym (of_loop n b is h)) (stops_along (along cs (code_of b)) (Ended None) e k)

  pub along_exit : (n : ℕ) → s.node ≡ stmt.Exit n → along cs (code_of (s ∷ [])) ≡ Out n None
  along_exit n is = ap (along cs) (exits s n is End)

  pub along_wait : (n : ℕ) → s.node ≡ stmt.Wait n → along cs (code_of (s ∷ [])) ≡ Ended None
  along_wait n is = ap (along cs) (waits s n is End)
