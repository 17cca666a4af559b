-- The initialisers of a member, and a loop's own test, statement by statement.
use Rattle.std.proofs.Common.{◌≡◌, refl, sym, ap, ◌∙◌, subst, ℕ, Bool, true, false, not, take, ◌&&◌, List, [], ◌∷◌, Option, Some, None, if◌then◌else◌}
use Rattle.scc_base.specs.declared.refusal.Place.{Place}
use Rattle.scc_core_spec.specs.Resolved.{Tried, Made, Stopped}
use Rattle.scc_plain_tree.specs.declared.stmt.PlainStmt.{PlainStmt, fold-roll-PlainStmt, ind-PlainStmt}
use Rattle.scc_plain_tree.specs.declared.stmt.PlainNode.{PlainNode, fold-PlainNode, fold-roll-PlainNode}
use Rattle.scc_plain_tree.specs.declared.stmt.PlainNode.TheOpen.{PlainNode-F, PlainStmt-F}
use Rattle.scc_plain_tree.specs.declared.stmt.PlainNode.TheOpen as node
use Rattle.scc_elab_spec.specs.Program.{Code, End, Loop, Count, Plain}
use Rattle.scc_elab_spec.specs.Inits.{belongs, owner, kept_if, inits_of, without_make}
use Rattle.scc_elab_spec.specs.Worth.{Site, at_now, worth}
use Rattle.scc_elab_spec.specs.Construct.{Making, Now, Ran, Fell, then_run, from_tried, looped, choose_of, ran_in, most_turns}
use Rattle.scc_plain_view.specs.Codes.{Node, stmt_node, stmt_step, stmt_code, code_of, before}
use Rattle.scc_plain_view.specs.Terms.{term_of}
use Rattle.scc_elab_works.specs.Hows.{How}
use Rattle.scc_elab_works.specs.Hows as how
use Rattle.scc_elab_inits.specs.Makes.{begins_make}
use Rattle.scc_elab_works.specs.Firsts.{begins_if, takes_first, IsParts}
use Rattle.scc_elab_works.specs.Works.{Stand, making_at, site_at, run_at, chosen_of}
use Rattle.scc_elab_works.proofs.Leading.{stmt_leads, same_fell}

pub record Picks (f : Code → Code) : Type 0 where
  pub inits : (m : Option ℕ) (r : Code) → inits_of m (f r) ≡ kept_if (belongs m (owner (f r))) f (inits_of m r)
  pub without : (r : Code) → without_make (f r) ≡ (if begins_make (f End) then without_make r else f (without_make r))
  pub makes : (r : Code) → begins_make (f r) ≡ begins_make (f End)

picks : (y : PlainNode-F Node (Code → Code)) (p : Place) → Picks (stmt_node y p)
picks (node.Declare k) p = record { inits = λ m r. refl; without = λ r. refl; makes = λ r. refl }
picks (node.Assign l e) p = record { inits = λ m r. refl; without = λ r. refl; makes = λ r. refl }
picks (node.Point l x) p = record { inits = λ m r. refl; without = λ r. refl; makes = λ r. refl }
picks (node.Write l e) p = record { inits = λ m r. refl; without = λ r. refl; makes = λ r. refl }
picks (node.Call k f o args) p = record { inits = λ m r. refl; without = λ r. refl; makes = λ r. refl }
picks (node.If e a b) p = record { inits = λ m r. refl; without = λ r. refl; makes = λ r. refl }
picks (node.Loop c b) p = record { inits = λ m r. refl; without = λ r. refl; makes = λ r. refl }
picks (node.Block b) p = record { inits = λ m r. refl; without = λ r. refl; makes = λ r. refl }
picks (node.Exit d) p = record { inits = λ m r. refl; without = λ r. refl; makes = λ r. refl }
picks (node.Return e) p = record { inits = λ m r. refl; without = λ r. refl; makes = λ r. refl }
picks (node.Wait k) p = record { inits = λ m r. refl; without = λ r. refl; makes = λ r. refl }
picks (node.Make l b args) p = record { inits = λ m r. refl; without = λ r. refl; makes = λ r. refl }
picks (node.Bind l to) p = record { inits = λ m r. refl; without = λ r. refl; makes = λ r. refl }
picks (node.Process x f e) p = record { inits = λ m r. refl; without = λ r. refl; makes = λ r. refl }
picks (node.Sense items) p = record { inits = λ m r. refl; without = λ r. refl; makes = λ r. refl }
picks node.Quiet p = record { inits = λ m r. refl; without = λ r. refl; makes = λ r. refl }
picks (node.Reset x e a) p = record { inits = λ m r. refl; without = λ r. refl; makes = λ r. refl }

abbrev node_fold : PlainNode → Node
node_fold = fold-PlainNode Node (Code → Code) stmt_node stmt_step

pub stmt_picks : (x : PlainStmt) → Picks (stmt_code x)
stmt_picks = ind-PlainStmt (λ n. (p : Place) → Picks (node_fold n p)) (λ s. Picks (stmt_code s))
    (λ x y is p. subst (λ f. Picks (f p)) (sym (fold-roll-PlainNode Node (Code → Code) stmt_node stmt_step x)) (picks _ p))
    (λ x y is. subst (λ f. Picks f) (sym (fold-roll-PlainStmt Node (Code → Code) stmt_node stmt_step x)) (subst (λ n. Picks (node_fold n x.place)) (ap (λ z. z.node) is) (y.node.1 x.place)))

-- what is taken runs first, the rest behind it
module _ (p : Plain) (a : Stand) (x : PlainStmt) (xs : List PlainStmt) where
  abbrev f : Code → Code
  f = stmt_code x

  abbrev goes : Code → Code → Now → Type 0
  goes c r n = run_at p a c n ≡ then_run (run_at p a (stmt_code x End) n) (run_at p a r)

  leads : (r : Code) (n : Now) → goes (f r) r n
  leads r n = (stmt_leads most_turns (making_at p a.levels) (site_at p a) x).first r n

  kept : (m : Option ℕ) (b : Bool) → belongs m (owner (f (code_of xs))) ≡ b → inits_of m (f (code_of xs)) ≡ kept_if b f (inits_of m (code_of xs))
  kept m b e = (stmt_picks x).inits m (code_of xs) ∙ ap (λ c. kept_if c f (inits_of m (code_of xs))) e

  made_not : (r : Code) (b : Bool) → begins_make (f (code_of xs)) ≡ b → without_make (f r) ≡ (if b then without_make r else f (without_make r))
  made_not r b e = (stmt_picks x).without r ∙ ap (λ c. if c then without_make r else f (without_make r)) (sym ((stmt_picks x).makes (code_of xs)) ∙ e)

  pub run_takes : (h : How) (n : Now) → takes_first h (code_of (x ∷ xs)) ≡ true → goes (chosen_of h (code_of (x ∷ xs))) (chosen_of h (code_of xs)) n
  run_takes how.All n e = leads (code_of xs) n
  run_takes (how.Of m) n e = ap (λ c. run_at p a c n) (kept m true e) ∙ leads (inits_of m (code_of xs)) n
  run_takes (how.Without k) n e = by (belongs (Some k) (owner (f (code_of xs)))) (begins_make (f (code_of xs))) refl refl e
    where
      by : (b c : Bool) → belongs (Some k) (owner (f (code_of xs))) ≡ b → begins_make (f (code_of xs)) ≡ c → (b && not c) ≡ true → goes (without_make (inits_of (Some k) (f (code_of xs)))) (without_make (inits_of (Some k) (code_of xs))) n
      by true false g h e = ap (λ c. run_at p a c n) (ap without_make (kept (Some k) true g) ∙ made_not (inits_of (Some k) (code_of xs)) false h) ∙ leads (without_make (inits_of (Some k) (code_of xs))) n
      by true true g h e = cc
      by false c g h e = cc

  pub run_passes : (h : How) (n : Now) → takes_first h (code_of (x ∷ xs)) ≡ false → run_at p a (chosen_of h (code_of (x ∷ xs))) n ≡ run_at p a (chosen_of h (code_of xs)) n
  run_passes how.All n e = cc
  run_passes (how.Of m) n e = ap (λ c. run_at p a c n) (kept m false e)
  run_passes (how.Without k) n e = by (belongs (Some k) (owner (f (code_of xs)))) (begins_make (f (code_of xs))) refl refl e
    where
      by : (b c : Bool) → belongs (Some k) (owner (f (code_of xs))) ≡ b → begins_make (f (code_of xs)) ≡ c → (b && not c) ≡ false → run_at p a (without_make (inits_of (Some k) (f (code_of xs)))) n ≡ run_at p a (without_make (inits_of (Some k) (code_of xs))) n
      by true true g h e = ap (λ c. run_at p a c n) (ap without_make (kept (Some k) true g) ∙ made_not (inits_of (Some k) (code_of xs)) true h)
      by true false g h e = cc
      by false c g h e = ap (λ c. run_at p a c n) (ap without_make (kept (Some k) false g))

-- a loop's own test comes before its turn
module _ (t : ℕ) (make : Making) (s : Site) where
  abbrev one : Code → Now → Ran
  one = ran_in t make s

  pub record Splits (f : Code → Code) : Type 0 where
    pub tested : begins_if (f End) ≡ true → (q : Place) (c : Option Count) (r k : Code) (n : Now) → one (Loop q c (f r) k) n ≡ looped t q (one (f End)) (one r) n
    pub whole : begins_if (f End) ≡ false → (q : Place) (c : Option Count) (r k : Code) (n : Now) → one (Loop q c (f r) k) n ≡ looped t q (one End) (one (f r)) n

  splits : (y : PlainNode-F Node (Code → Code)) (p : Place) → Splits (stmt_node y p)
  splits (node.If e a b) p = record {
    tested = λ h q c r k n i. looped t q (λ m. test m i) (one r) n;
    whole = λ h. cc;
  }
    where
      choice : Now → ℕ → Ran
      choice m v = choose_of v (one (before a End)) (one (before b End)) m

      by : (m : Now) (w : Tried ℕ) → from_tried w (choice m) ≡ from_tried w (λ v. then_run (choice m v) (one End))
      by m (Made v) = sym (same_fell (choice m v))
      by m (Stopped z) = refl

      test : (m : Now) → from_tried (worth (at_now s m.grown) (term_of e)) (choice m) ≡ one (stmt_node (node.If e a b) p End) m
      test m = by m (worth (at_now s m.grown) (term_of e))
  splits (node.Declare k) p = record { tested = λ h. cc; whole = λ h q c r k n. refl }
  splits (node.Assign l e) p = record { tested = λ h. cc; whole = λ h q c r k n. refl }
  splits (node.Point l x) p = record { tested = λ h. cc; whole = λ h q c r k n. refl }
  splits (node.Write l e) p = record { tested = λ h. cc; whole = λ h q c r k n. refl }
  splits (node.Call k f o args) p = record { tested = λ h. cc; whole = λ h q c r k n. refl }
  splits (node.Loop c b) p = record { tested = λ h. cc; whole = λ h q c r k n. refl }
  splits (node.Block b) p = record { tested = λ h. cc; whole = λ h q c r k n. refl }
  splits (node.Exit d) p = record { tested = λ h. cc; whole = λ h q c r k n. refl }
  splits (node.Return e) p = record { tested = λ h. cc; whole = λ h q c r k n. refl }
  splits (node.Wait k) p = record { tested = λ h. cc; whole = λ h q c r k n. refl }
  splits (node.Make l b args) p = record { tested = λ h. cc; whole = λ h q c r k n. refl }
  splits (node.Bind l to) p = record { tested = λ h. cc; whole = λ h q c r k n. refl }
  splits (node.Process x f e) p = record { tested = λ h. cc; whole = λ h q c r k n. refl }
  splits (node.Sense items) p = record { tested = λ h. cc; whole = λ h q c r k n. refl }
  splits node.Quiet p = record { tested = λ h. cc; whole = λ h q c r k n. refl }
  splits (node.Reset x e a) p = record { tested = λ h. cc; whole = λ h q c r k n. refl }

  pub stmt_splits : (x : PlainStmt) → Splits (stmt_code x)
  stmt_splits = ind-PlainStmt (λ n. (p : Place) → Splits (node_fold n p)) (λ s. Splits (stmt_code s))
      (λ x y is p. subst (λ f. Splits (f p)) (sym (fold-roll-PlainNode Node (Code → Code) stmt_node stmt_step x)) (splits _ p))
      (λ x y is. subst (λ f. Splits f) (sym (fold-roll-PlainStmt Node (Code → Code) stmt_node stmt_step x)) (subst (λ n. Splits (node_fold n x.place)) (ap (λ z. z.node) is) (y.node.1 x.place)))

-- the parts of a loop's body
take_one : {A : Type 0} (x : A) (xs all : List A) → x ∷ xs ≡ all → x ∷ [] ≡ take 1 all
take_one x xs all e = ap (take 1) e

pub parts_none : (test turn all : List PlainStmt) → test ≡ [] → turn ≡ [] → all ≡ [] → IsParts test turn all
parts_none test turn all e f g = subst (λ a. IsParts test turn a) (sym g) (subst (λ a. IsParts a turn []) (sym e) (subst (λ a. IsParts [] a []) (sym f) (λ t make s q c k n. refl)))

pub parts_tested : (x : PlainStmt) (xs test all : List PlainStmt) → x ∷ xs ≡ all → test ≡ take 1 all → begins_if (stmt_code x End) ≡ true → IsParts test xs all
parts_tested x xs test all e f h = subst (λ a. IsParts test xs a) e (subst (λ a. IsParts a xs (x ∷ xs)) (sym (f ∙ sym (take_one x xs all e))) (λ t make s q c k n. (stmt_splits t make s x).tested h q c (code_of xs) k n))

pub parts_whole : (x : PlainStmt) (xs test all : List PlainStmt) → x ∷ xs ≡ all → test ≡ [] → begins_if (stmt_code x End) ≡ false → IsParts test all all
parts_whole x xs test all e f h = subst (λ a. IsParts test a a) e (subst (λ a. IsParts a (x ∷ xs) (x ∷ xs)) (sym f) (λ t make s q c k n. (stmt_splits t make s x).whole h q c (code_of xs) k n))
