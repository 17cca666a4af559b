-- What a statement before others adds to what a reset can't load.
use Rattle.std.proofs.Common.{◌≡◌, ℕ, zero, suc, ◌+◌, ◌<◌, Bool, true, false, List, [], ◌∷◌, get_or, length, drop, Option, Some, None, refl, sym, ap, subst, ◌∙◌, arith}
use Rattle.std.specs.Prelude.{not, nat_lt, ◌||◌, option_map, Result}
use Rattle.std.proofs.lemmas.Bool.Decides.{nat_tests}
use Rattle.scc_base.specs.declared.refusal.Place.{Place}
use Rattle.scc_base.specs.declared.refusal.Refusal.{Refusal}
use Rattle.scc_base.specs.declared.refusal.Stop.{Stop}
use Rattle.scc_base.specs.declared.refusal.Stop.TheVariants as stop
use Rattle.scc_base.specs.declared.code.Code.TheVariants as reason
use Rattle.scc_core.specs.declared.stmt.CoreStmt.{CoreStmt, fold-roll-CoreStmt, ind-CoreStmt}
use Rattle.scc_core.specs.declared.stmt.CoreNode.{CoreNode, fold-CoreNode, fold-roll-CoreNode}
use Rattle.scc_core.specs.declared.stmt.CoreNode.TheOpen.{CoreNode-F}
use Rattle.scc_core.specs.declared.stmt.CoreNode.TheOpen as node
use Rattle.scc_core_spec.specs.Code.{Code, End}
use Rattle.scc_core_spec.specs.First.{or_else, refused}
use Rattle.scc_core_spec.specs.Segments.{opens}
use Rattle.scc_core_spec.specs.Split.{Along, Ended, On, Out, then_along, shut_along, plain_or, first_along, unloaded, along, before as before_along}
use Rattle.scc_core_spec.specs.Static.{Cells}
use Rattle.scc_core_view.specs.Codes.{Node, stmt_node, stmt_step, stmt_code, code_of, before}
use Rattle.scc_states_segments.proofs.Adds.{from_here}
use Rattle.scc_states_cut.specs.Limits.{Stops}
use Rattle.scc_states.specs.Resets.{IsLoaded}

pub or_none : {A : Type 0} (o : Option A) → or_else o None ≡ o
or_none None = refl
or_none (Some a) = refl

four : {A : Type 0} (w a b u : Option A) → or_else w (or_else a (or_else b (or_else u None))) ≡ or_else (or_else w (or_else a (or_else b None))) u
four (Some w) a b u = refl
four None (Some a) b u = refl
four None None (Some b) u = refl
four None None None u = or_none u

pub none_along : (y : Along) → before_along None y ≡ y
none_along (Ended f) = refl
none_along (On f) = refl
none_along (Out n f) = refl

on_then : (f : Option Place) (y : Along) → before_along f y ≡ then_along (before_along f (On None)) y
on_then f y = ap (λ o. before_along o y) (sym (or_none f))

then_on : (x y : Along) → then_along x y ≡ then_along (then_along x (On None)) y
then_on (On f) y = on_then f y
then_on (Ended f) y = refl
then_on (Out n f) y = refl

shut_on : (x y : Along) → shut_along x y ≡ then_along (shut_along x (On None)) y
shut_on (On f) y = on_then f y
shut_on (Out zero f) y = on_then f y
shut_on (Out (suc n) f) y = refl
shut_on (Ended f) y = refl

once_on : (x y : Along) → then_along x (Ended None) ≡ then_along (then_along x (Ended None)) y
once_on (On f) y = refl
once_on (Ended f) y = refl
once_on (Out n f) y = refl

test_behind : (q : Bool) (x y : Along) (u : Option Place) → plain_or q (then_along x y) (before_along u y) ≡ then_along (plain_or q (then_along x (On None)) (before_along u (On None))) y
test_behind true x y u = then_on x y
test_behind false x y u = on_then u y

block_behind : (q : Bool) (x y : Along) (u : Option Place) → plain_or q (shut_along x y) (before_along u y) ≡ then_along (plain_or q (shut_along x (On None)) (before_along u (On None))) y
block_behind true x y u = shut_on x y
block_behind false x y u = on_then u y

loop_behind : (q : Bool) (x y : Along) (u : Option Place) → plain_or q (then_along x (Ended None)) (before_along u y) ≡ then_along (plain_or q (then_along x (Ended None)) (before_along u (On None))) y
loop_behind true x y u = once_on x y
loop_behind false x y u = on_then u y

exit_opens : (n : ℕ) → (not (nat_lt n 0) || false) ≡ true
exit_opens n = grind (arith, nat_tests)

module _ (cs : Cells) where
  pub record Adds (f : Code → Code) : Type 0 where
    pub whole : (c : Code) → unloaded cs (f c) ≡ or_else (unloaded cs (f End)) (unloaded cs c)
    pub way : (c : Code) → along cs (f c) ≡ then_along (along cs (f End)) (along cs c)
    pub plain : opens 0 (f End) ≡ false → along cs (f End) ≡ On (unloaded cs (f End))

  at_end : (q : Bool) (x : Along) (u : Option Place) → q ≡ false → plain_or q x (before_along u (On None)) ≡ On u
  at_end q x u h = ap (λ b. plain_or b x (before_along u (On None))) h ∙ ap On (or_none u)

  adds : (y : CoreNode-F Node (Code → Code)) (p : Place) → Adds (stmt_node y p)
  adds (node.Assign l e) p = record {
    whole = λ c. ap (λ o. or_else o (unloaded cs c)) (sym (or_none _));
    way = λ c. on_then _ (along cs c);
    plain = λ h. ap On (or_none _);
  }
  adds (node.If t a b) p = record {
    whole = λ c. four _ (unloaded cs (before a End)) (unloaded cs (before b End)) (unloaded cs c);
    way = λ c. test_behind _ _ (along cs c) _;
    plain = λ h. at_end _ _ _ h;
  }
  adds (node.Block b) p = record {
    whole = λ c. ap (λ o. or_else o (unloaded cs c)) (sym (or_none (unloaded cs (before b End))));
    way = λ c. block_behind _ _ (along cs c) _;
    plain = λ h. at_end _ _ _ h;
  }
  adds (node.Loop n b) p = record {
    whole = λ c. ap (λ o. or_else o (unloaded cs c)) (sym (or_none (unloaded cs (before b End))));
    way = λ c. loop_behind _ _ (along cs c) _;
    plain = λ h. at_end _ _ _ h;
  }
  adds (node.Exit n) p = record { whole = λ c. refl; way = λ c. refl; plain = λ h. let e = exit_opens n in absurd cc }
  adds (node.Wait n) p = record { whole = λ c. refl; way = λ c. refl; plain = λ h. absurd cc }
  adds (node.Alias to target) p = record { whole = λ c. refl; way = λ c. sym (none_along (along cs c)); plain = λ h. refl }

  abbrev node_fold : CoreNode → Node
  node_fold = fold-CoreNode Node (Code → Code) stmt_node stmt_step

  pub stmt_adds : (s : CoreStmt) → Adds (stmt_code s)
  stmt_adds = ind-CoreStmt (λ n. (p : Place) → Adds (node_fold n p)) (λ s. Adds (stmt_code s))
      (λ x y is p. subst (λ f. Adds (f p)) (sym (fold-roll-CoreNode Node (Code → Code) stmt_node stmt_step x)) (adds _ p))
      (λ x y is. subst (λ f. Adds f) (sym (fold-roll-CoreStmt Node (Code → Code) stmt_node stmt_step x)) (subst (λ n. Adds (node_fold n x.place)) (ap (λ z. z.node) is) (y.node.1 x.place)))

  -- from one statement on
  pub unloaded_here : (ss : List CoreStmt) (i : ℕ) (s : CoreStmt) → i < length ss → s ≡ get_or ss i s
      → unloaded cs (code_of (drop i ss)) ≡ or_else (unloaded cs (code_of (s ∷ []))) (unloaded cs (code_of (drop (i + 1) ss)))
  unloaded_here ss i s h is = ap (unloaded cs) (from_here ss i s h is) ∙ (stmt_adds s).whole (code_of (drop (i + 1) ss))

  pub along_here : (ss : List CoreStmt) (i : ℕ) (s : CoreStmt) → i < length ss → s ≡ get_or ss i s
      → along cs (code_of (drop i ss)) ≡ then_along (along cs (code_of (s ∷ []))) (along cs (code_of (drop (i + 1) ss)))
  along_here ss i s h is = ap (along cs) (from_here ss i s h is) ∙ (stmt_adds s).way (code_of (drop (i + 1) ss))

-- ---- answers one behind another

abbrev pub told : Option Place → Option Refusal
told = option_map (refused reason.ResetValue)

pub first_before : (f : Option Place) (y : Along) → first_along (before_along f y) ≡ or_else f (first_along y)
first_before f (Ended g) = refl
first_before f (On g) = refl
first_before f (Out n g) = refl

pub stops_or : (o p : Option Place) (e : Stop) → Stops (told o) e → Stops (told (or_else o p)) e
stops_or (Some a) p e h = h
stops_or None p (stop.Refused r) h = absurd cc
stops_or None p stop.NoMemory h = tt

pub stops_along : (x y : Along) (e : Stop) → Stops (told (first_along x)) e → Stops (told (first_along (then_along x y))) e
stops_along (Ended f) y e h = h
stops_along (Out n f) y e h = h
stops_along (On f) y e h = subst (λ o. Stops (told o) e) (sym (first_before f y)) (stops_or f (first_along y) e h)

pub stops_shut : (x : Along) (e : Stop) → Stops (told (first_along x)) e → Stops (told (first_along (shut_along x (On None)))) e
stops_shut (On f) e h = subst (λ o. Stops (told o) e) (sym (or_none f)) h
stops_shut (Out zero f) e h = subst (λ o. Stops (told o) e) (sym (or_none f)) h
stops_shut (Out (suc n) f) e h = h
stops_shut (Ended f) e h = h

pub same_stop : (o p : Option Place) (e : Stop) → o ≡ p → Stops (told p) e → Stops (told o) e
same_stop o p e is h = subst (λ q. Stops (told q) e) (sym is) h

pub loaded_then : (o p all : Option Place) (r : Result Unit Stop) → all ≡ or_else o p → o ≡ None → IsLoaded p r → IsLoaded all r
loaded_then o p all r is h k = subst (λ q. IsLoaded q r) (sym (is ∙ ap (λ z. or_else z p) h)) k
