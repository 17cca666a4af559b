-- Statements without pointers, one by one, before what follows them.
use denote.Ref.{Bor}
use Rattle.std.proofs.Common.{◌≡◌, ◌⊎◌, inl, inr, refl, sym, ap, subst, ◌∙◌, ℕ, ◌+◌, ◌<◌, Bool, true, false, nat_eq, if◌then◌else◌, List, [], ◌∷◌, ◌++◌, map, drop, get_or, length, Option, Some, None, option_map, Result, Ok, Err}
use Rattle.std.specs.Prelude.{IfOk, OnOk}
use Rattle.std.specs.HashMap.{get_by}
use Rattle.std.specs.Map.{lookup}
use Rattle.scc_base.specs.declared.code.Code.TheVariants as reason
use Rattle.scc_base.specs.declared.refusal.Place.{Place}
use Rattle.scc_base.specs.declared.refusal.Refusal.{Refusal}
use Rattle.scc_base.specs.declared.refusal.Stop.{Stop}
use Rattle.scc_base.specs.declared.refusal.Stop.TheVariants as stop
use Rattle.scc_core.specs.declared.expr.CoreBase.{CoreBase}
use Rattle.scc_core.specs.declared.expr.CoreExpr.{CoreExpr}
use Rattle.scc_core.specs.declared.expr.CoreLeft.{CoreLeft}
use Rattle.scc_core.specs.declared.expr.CorePart.{CorePart, out-CorePart}
use Rattle.scc_core.specs.declared.expr.CoreBase.TheOpen as part
use Rattle.scc_core.specs.declared.program.VectorSize2.{VectorSize2}
use Rattle.scc_core.specs.declared.statics.Known.{Known}
use Rattle.scc_core.specs.declared.stmt.Count.{Count as Counting}
use Rattle.scc_core.specs.declared.stmt.CoreStmt.{CoreStmt}
use Rattle.scc_core.specs.declared.stmt.CoreNode.{CoreNode, roll-CoreNode}
use Rattle.scc_core.specs.declared.stmt.CoreNode.TheVariants as node
use Rattle.scc_core.specs.declared.stmt.CoreNode.TheOpen as tree
use Rattle.scc_core.specs.declared.stmt.Pointed.{Pointed}
use Rattle.scc_core.specs.declared.stmt.Pointed.TheVariants as pointed
use Rattle.scc_core.specs.Known.{facts_in}
use Rattle.scc_core.specs.Statics.{value_in}
use Rattle.scc_core.specs.Tables.{IsTable}
use Rattle.scc_core_spec.specs.Code.{Code, Count, Declared, Assigned, End, Put, Aim, If, Block, Loop, Exit, Wait}
use Rattle.scc_core_spec.specs.First.{refused}
use Rattle.scc_core_spec.specs.Fold.{static_index}
use Rattle.scc_core_spec.specs.Resolved.{Leads, Tried, Made, Stopped, and_made, made_map, resolved}
use Rattle.scc_core_spec.specs.Unpointed.{aimed, declares, leading, of_assigned, or_same, resolved_count}
use Rattle.scc_core_static_laws.specs.Indices.{Finds}
use Rattle.scc_core_view.specs.Codes.{code_of, counted, pointed_of, stmt_code}
use Rattle.scc_core_view.specs.Programs.{cell_of, vector_of}
use Rattle.scc_core_view.specs.Terms.{taken_of, term_of}
use Rattle.scc_pointers_spec.specs.Freed.{freed}
use Rattle.scc_pointers_walk.specs.declared.held.Resolver.{Resolver}
use Rattle.scc_pointers_walk.specs.Led.{Gives, leads_of, left_of, looks_of, target_of}
use Rattle.scc_pointers_walk.specs.Read.{AreFound}
use Rattle.scc_pointers_walk.specs.Walked.{expr_in, loaded_in, target_in, walked_in}
use Rattle.scc_pointers_laws.specs.Asked.{AreAsked, IsBeside}
use Rattle.scc_unroll_asked.specs.Items.{Item, Place as At, Value, asked_count, asked_to}
use Rattle.scc_pointers_laws.specs.Followed.{IsFollowed, IsFollowedLeft, IsKnown, IsSound}
use Rattle.scc_pointers_laws.specs.Stated.{alias_in, count_in, empty_block, put_in}
use Rattle.scc_pointers_laws.specs.Turned.{Turns}
use Rattle.scc_pointers_laws.proofs.Asked.{all_front, asked_beside, itself}
use Rattle.scc_pointers_laws.proofs.Sound.{same_made, same_some}
use Rattle.scc_pointers_laws.proofs.Walks.{expr_is, left_agrees_is, put_is, target_is, target_sound}
use Rattle.scc_unroll_laws.proofs.Heads.{from_here as code_from}
use Rattle.scc_unroll_laws.proofs.Stmts.{as_block, as_exit, as_if, as_loop, as_put, as_wait}
use Rattle.scc_unroll_laws.proofs.Writing.{set_one}
use Rattle.scc_unroll_laws.specs.Writing.{set_before}

abbrev at : Place → CoreNode → CoreStmt
at p n = record { place = p; node = n }

-- ---- answers

module _ (a b : Leads) (p : Place) (f : Code → Code) where
  pub turns_of : (res : Result CoreNode Stop) (t : Tried CoreNode) → Gives (λ n. n) res t → ((c : Code) → freed a (f c) ≡ and_made t (λ n. made_map (stmt_code (at p n)) (freed b c))) → Turns a b p f res
  turns_of (Ok n) t g h = λ c. h c ∙ ap (λ t. and_made t (λ n. made_map (stmt_code (at p n)) (freed b c))) g
  turns_of (Err (stop.Refused q)) t g h = λ c. h c ∙ ap (λ t. and_made t (λ n. made_map (stmt_code (at p n)) (freed b c))) g
  turns_of (Err stop.NoMemory) t g h = tt

  err_turns : {X Y : Type 0} (view : X → Y) (e : Stop) (t : Tried Y) → Gives view (Err e) t → ((q : Refusal) → t ≡ Stopped q → (c : Code) → freed a (f c) ≡ Stopped q) → Turns a b p f (Err e)
  err_turns view (stop.Refused q) t g h = h q g
  err_turns view stop.NoMemory t g h = tt

  -- the exit of a `?`
  pub exit_turns : {X Y : Type 0} (view : X → Y) (res : Result CoreNode Stop) (y e : Stop) → res ≡ Err y → y ≡ e → (t : Tried Y) → Gives view (Err e) t → ((q : Refusal) → t ≡ Stopped q → (c : Code) → freed a (f c) ≡ Stopped q) → Turns a b p f res
  exit_turns view res y e i j t g h = subst (Turns a b p f) (sym (i ∙ ap (λ z. Err z) j)) (err_turns view e t g h)

  pub lost_turns : (res : Result CoreNode Stop) (y : Stop) → res ≡ Err y → y ≡ stop.NoMemory → Turns a b p f res
  lost_turns res y i j = subst (Turns a b p f) (sym (i ∙ ap (λ z. Err z) j)) tt

-- by the node of a statement
pub turns_by : (a b : Leads) (s : CoreStmt) (f : Code → Code) (res : Result CoreNode Stop) → stmt_code s ≡ f → Turns a b s.place f res → Turns a b s.place (stmt_code s) res
turns_by a b s f res e h = subst (λ g. Turns a b s.place g res) (sym e) h

pub leads_behind : (a b d : Leads) (p : Place) (f : Code → Code) (res : Result CoreNode Stop) → b ≡ d → Turns a b p f res → Turns a d p f res
leads_behind a b d p f res e h = subst (λ z. Turns a z p f res) e h

-- ---- what is known stays known

module _ (a b : Resolver) (beside : IsBeside a b) where
  abbrev finds : Known → Bor (List VectorSize2) → CoreExpr → Type 0
  finds k v e = Finds (value_in (facts_in k) e) (static_index (map cell_of k.cells.now) (map vector_of v.now) (term_of e))

  found_on : (ps : List CorePart) → AreFound b ps → AreFound a ps
  found_on [] h = tt
  found_on (x ∷ ps) h = (by (out-CorePart x) h.0, found_on ps h.1)
    where
      by : (y : part.CorePart-F CoreBase _ CorePart _ CoreExpr CoreLeft) → Rattle.scc_pointers_walk.specs.Read.IsFoundPart b y → Rattle.scc_pointers_walk.specs.Read.IsFoundPart a y
      by (part.Member n) g = tt
      by (part.Index size e) g = subst (λ k. finds k a.vectors e) (sym beside.known) (subst (λ v. finds b.known v e) (sym beside.vectors) g)

  sound_on : (l : CoreLeft) → IsSound b l → IsSound a l
  sound_on l h = (h.0, found_on l.parts h.1)

  known_with : IsKnown b → ((n : ℕ) (l : CoreLeft) → get_by (nat_eq n) a.held ≡ Some (Some l) → IsSound b l) → IsKnown a
  known_with k h = record {
    table = subst (λ x. IsTable x.now a.known.cells.now a.vectors.now) (sym beside.places) (subst (λ x. IsTable b.places.now x.cells.now a.vectors.now) (sym beside.known) (subst (λ x. IsTable b.places.now b.known.cells.now x.now) (sym beside.vectors) k.table));
    cells = subst (λ x. Rattle.scc_pointers_walk.specs.Read.HaveSmallNames x.cells.now) (sym beside.known) k.cells;
    paths = subst (λ x. Rattle.scc_pointers_walk.specs.Read.HaveSmallPaths x.now) (sym beside.vectors) k.paths;
    sizes = subst (λ x. Rattle.scc_pointers_laws.specs.Followed.HaveSmallSizes x.now) (sym beside.vectors) k.sizes;
    names = subst (λ x. (n : ℕ) (c : Rattle.scc_core.specs.declared.program.Cell.Cell) → Rattle.std.specs.Prelude.slice_get x.cells.now n ≡ Some c → Rattle.scc_core_view.specs.Whole.IsName c.name) (sym beside.known) k.names;
    locals = subst (λ x. Rattle.scc_pointers_walk.specs.Read.HaveNoTargets x.cells.now) (sym beside.known) k.locals;
    held = λ n l e. sound_on l (h n l e);
  }

  pub known_on : IsKnown b → a.held.entries ≡ b.held.entries → IsKnown a
  known_on k e = known_with k (λ n l g. k.held n l (sym (ap (lookup (nat_eq n)) e) ∙ g))

  -- one more is held
  pub known_more : IsKnown b → (m : ℕ) (o : Option CoreLeft) → a.held.entries ≡ b.held.entries ++ (m, o) ∷ [] → ((l : CoreLeft) → o ≡ Some l → IsSound b l) → IsKnown a
  known_more k m o e s = known_with k (λ n l g. either n l (last n b.held.entries l (sym (ap (lookup (nat_eq n)) e) ∙ g)))
    where
      last : (n : ℕ) (xs : List (ℕ × Option CoreLeft)) (l : CoreLeft) → lookup (nat_eq n) (xs ++ (m, o) ∷ []) ≡ Some (Some l) → (lookup (nat_eq n) xs ≡ Some (Some l)) ⊎ (o ≡ Some l)
      last n [] l g = test (nat_eq n m) g
        where
          test : (c : Bool) → (if c then Some o else None) ≡ Some (Some l) → (lookup (nat_eq n) [] ≡ Some (Some l)) ⊎ (o ≡ Some l)
          test true g = inr (same_some g)
          test false g = absurd cc
      last n (x ∷ xs) l g = test (nat_eq n x.0) g (last n xs l)
        where
          test : (c : Bool) → (if c then Some x.1 else lookup (nat_eq n) (xs ++ (m, o) ∷ [])) ≡ Some (Some l) → (lookup (nat_eq n) (xs ++ (m, o) ∷ []) ≡ Some (Some l) → (lookup (nat_eq n) xs ≡ Some (Some l)) ⊎ (o ≡ Some l))
              → ((if c then Some x.1 else lookup (nat_eq n) xs) ≡ Some (Some l)) ⊎ (o ≡ Some l)
          test true g f = inl g
          test false g f = f g

      either : (n : ℕ) (l : CoreLeft) → (lookup (nat_eq n) b.held.entries ≡ Some (Some l)) ⊎ (o ≡ Some l) → IsSound b l
      either n l (inl g) = k.held n l g
      either n l (inr g) = s l g

-- ---- single statements

put_node : (p : Place) (l : CoreLeft) (e : CoreExpr) (c : Code) → stmt_code (at p (roll-CoreNode (tree.Assign l e))) c ≡ Put p (taken_of l).left (taken_of l).pick (term_of e) c
put_node p l e c = ap (λ g. g c) (as_put (at p (roll-CoreNode (tree.Assign l e))) l e (node.rolls-Assign l e))

block_node : (p : Place) (c : Code) → stmt_code (at p empty_block) c ≡ Block p End c
block_node p c = ap (λ g. g c) (as_block (at p empty_block) [] (node.rolls-Block []))

pub exit_stays : (a : Leads) (p : Place) (n : ℕ) → Turns a a p (λ c. Exit p n c) (Ok (node.Exit n))
exit_stays a p n = λ c. ap (λ g. made_map g (freed a c)) (sym (as_exit (at p (node.Exit n)) n refl))

pub wait_stays : (a : Leads) (p : Place) (n : ℕ) → Turns a a p (λ c. Wait p 0 n c) (Ok (node.Wait n))
wait_stays a p n = λ c. ap (λ g. made_map g (freed a c)) (sym (as_wait (at p (node.Wait n)) n refl))

module _ (r : Resolver) (k : IsKnown r) where
  abbrev L : Leads
  L = leads_of r

  term_is : (e : CoreExpr) → IsFollowed r e → resolved (looks_of r) (term_of e) ≡ made_map term_of (expr_in r e)
  term_is e w = sym (expr_is r k w)

  pub put_turns : (l : CoreLeft) (e : CoreExpr) → AreAsked r (At l ∷ Value e ∷ []) → (p : Place) (res : Result CoreNode Stop) → Gives (λ n. n) res (put_in r l e) → Turns L L p (λ c. Put p (taken_of l).left (taken_of l).pick (term_of e) c) res
  put_turns l e h p res g = turns_of L L p (λ c. Put p (taken_of l).left (taken_of l).pick (term_of e) c) res (put_in r l e) g (λ c. put_is r k (λ l y. and_made (resolved (looks_of r) (term_of e)) (λ z. made_map (Put p l y z) (freed L c))) (h.0 r (itself r) k) ∙ by c (loaded_in r l))
    where
      value : (m : CoreLeft) (x : Tried Code) (t : Tried CoreExpr) → and_made (made_map term_of t) (λ z. made_map (Put p (taken_of m).left (taken_of m).pick z) x) ≡ and_made (made_map (λ e. roll-CoreNode (tree.Assign m e)) t) (λ n. made_map (stmt_code (at p n)) x)
      value m x (Stopped q) = refl
      value m x (Made y) = λ i. made_map (λ c. sym (put_node p m y c) i) x

      by : (c : Code) (t : Tried CoreLeft) → and_made t (λ m. and_made (resolved (looks_of r) (term_of e)) (λ z. made_map (Put p (taken_of m).left (taken_of m).pick z) (freed L c)))
          ≡ and_made (and_made t (λ l. made_map (λ e. roll-CoreNode (tree.Assign l e)) (expr_in r e))) (λ n. made_map (stmt_code (at p n)) (freed L c))
      by c (Stopped q) = refl
      by c (Made m) = ap (λ t. and_made t (λ z. made_map (Put p (taken_of m).left (taken_of m).pick z) (freed L c))) (term_is e (h.1.0 r (itself r) k)) ∙ value m (freed L c) (expr_in r e)

  -- ---- pointers

  pub alias_turns : (r2 : Resolver) (p : Place) (to : Pointed) (of : CoreLeft) → AreAsked r (At of ∷ asked_to to) → (res : Result CoreNode Stop) → Gives (λ x. x) res (made_map (λ o. empty_block) (alias_in r p to of))
      → ((n : ℕ) (o : Option CoreLeft) → to ≡ pointed.Declared n → alias_in r p to of ≡ Made o → OnOk res (leads_of r2 ≡ leading L n (target_of o)))
      → Turns L (leads_of r2) p (λ c. Aim p (pointed_of to) (taken_of of).left c) res
  alias_turns r2 p (pointed.Assigned l) of h res g f =
      turns_of L (leads_of r2) p (λ c. Aim p (Assigned (taken_of l).left) (taken_of of).left c) res (Stopped (of_assigned p (made_map target_of (walked_in r l false)))) g
      (λ c. ap (λ w. Stopped (of_assigned p w)) (sym (left_agrees_is r k (h.1.0 r (itself r) k) false)))
  alias_turns r2 p (pointed.Declared n) of h res g f = by res g (λ o. f n o refl)
    where
      there : aimed (looks_of r) (left_of of) ≡ made_map target_of (target_in r of)
      there = sym (target_is r k (h.0 r (itself r) k))

      goes : Tried (Option CoreLeft) → Bool → Tried (Option CoreLeft)
      goes t b = and_made t (λ o. if b then Made o else Stopped (refused reason.PointerAssigned p))

      went : Tried (Option CoreLeft) → Bool → Code → Tried Code
      went t b c = and_made (made_map target_of t) (λ o. if b then made_map (Block p End) (freed (leading L n o) c) else Stopped (refused reason.PointerAssigned p))

      stopped_same : {A B : Type 0} {x y : Refusal} → ◌≡◌ {A = Tried A} (Stopped x) (Stopped y) → ◌≡◌ {A = Tried B} (Stopped x) (Stopped y)
      stopped_same {A = A} {B = B} {x = x} e = ap (λ t. Stopped (from t)) e
        where
          from : Tried A → Refusal
          from (Stopped q) = q
          from (Made z) = x

      fine : (t : Tried (Option CoreLeft)) (b : Bool) (m : CoreNode) → made_map (λ o. empty_block) (goes t b) ≡ Made m → ((o : Option CoreLeft) → goes t b ≡ Made o → leads_of r2 ≡ leading L n (target_of o))
          → (c : Code) → went t b c ≡ made_map (stmt_code (at p m)) (freed (leads_of r2) c)
      fine (Stopped q) b m e f c = absurd cc
      fine (Made o) false m e f c = absurd cc
      fine (Made o) true m e f c = λ i. made_map (λ d. (sym (block_node p d) ∙ ap (λ z. stmt_code (at p z) d) (same_made e)) i) (freed (sym (f o refl) i) c)

      stop_there : (t : Tried (Option CoreLeft)) (b : Bool) (q : Refusal) → made_map (λ o. empty_block) (goes t b) ≡ Stopped q → (c : Code) → went t b c ≡ Stopped q
      stop_there (Stopped u) b q e c = stopped_same e
      stop_there (Made o) false q e c = stopped_same e
      stop_there (Made o) true q e c = absurd cc

      by : (res : Result CoreNode Stop) → Gives (λ x. x) res (made_map (λ o. empty_block) (goes (target_in r of) (declares L n))) → ((o : Option CoreLeft) → goes (target_in r of) (declares L n) ≡ Made o → OnOk res (leads_of r2 ≡ leading L n (target_of o)))
          → Turns L (leads_of r2) p (λ c. Aim p (Declared n) (taken_of of).left c) res
      by (Ok m) g f = λ c. ap (λ t. and_made t (λ o. if declares L n then made_map (Block p End) (freed (leading L n o) c) else Stopped (refused reason.PointerAssigned p))) there ∙ fine (target_in r of) (declares L n) m g f c
      by (Err (stop.Refused q)) g f = λ c. ap (λ t. and_made t (λ o. if declares L n then made_map (Block p End) (freed (leading L n o) c) else Stopped (refused reason.PointerAssigned p))) there ∙ stop_there (target_in r of) (declares L n) q g c
      by (Err stop.NoMemory) g f = tt

  pub alias_known : (r2 : Resolver) → IsBeside r2 r → (p : Place) (to : Pointed) (of : CoreLeft) → AreAsked r (At of ∷ asked_to to) → (res : Result CoreNode Stop) → Gives (λ x. x) res (made_map (λ o. empty_block) (alias_in r p to of))
      → ((n : ℕ) (o : Option CoreLeft) → to ≡ pointed.Declared n → alias_in r p to of ≡ Made o → OnOk res (r2.held.entries ≡ r.held.entries ++ (n, o) ∷ [])) → OnOk res (IsKnown r2)
  alias_known r2 b p to of h (Err e) g f = tt
  alias_known r2 b p (pointed.Assigned l) of h (Ok m) g f = absurd cc
  alias_known r2 b p (pointed.Declared n) of h (Ok m) g f = by (target_in r of) refl (declares L n) g (λ o. f n o refl)
    where
      goes : Tried (Option CoreLeft) → Bool → Tried (Option CoreLeft)
      goes t b = and_made t (λ o. if b then Made o else Stopped (refused reason.PointerAssigned p))

      by : (t : Tried (Option CoreLeft)) → target_in r of ≡ t → (y : Bool) → made_map (λ o. empty_block) (goes t y) ≡ Made m → ((o : Option CoreLeft) → goes t y ≡ Made o → r2.held.entries ≡ r.held.entries ++ (n, o) ∷ []) → IsKnown r2
      by (Stopped q) e y g f = absurd cc
      by (Made o) e false g f = absurd cc
      by (Made o) e true g f = known_more r2 r b k n o (f o refl) (λ l i. target_sound r k (h.0 r (itself r) k) l (e ∙ ap Made i))

  -- ---- statements with statements in them

  module _ (t : CoreExpr) (xs : List Item) (h : AreAsked r (Value t ∷ xs)) (p : Place) (a b : Code) where
    test_is : resolved (looks_of r) (term_of t) ≡ made_map term_of (expr_in r t)
    test_is = term_is t (h.0 r (itself r) k)

    pub if_test : (q : Refusal) → expr_in r t ≡ Stopped q → (c : Code) → freed L (If p (term_of t) a b c) ≡ Stopped q
    if_test q e c = ap (λ z. and_made z (λ t. and_made (freed L a) (λ a. and_made (freed L b) (λ b. made_map (If p t a b) (freed L c))))) (test_is ∙ ap (made_map term_of) e)

    pub if_yes : (x : CoreExpr) → expr_in r t ≡ Made x → (q : Refusal) → freed L a ≡ Stopped q → (c : Code) → freed L (If p (term_of t) a b c) ≡ Stopped q
    if_yes x e q f c =
        ap (λ z. and_made z (λ t. and_made (freed L a) (λ a. and_made (freed L b) (λ b. made_map (If p t a b) (freed L c))))) (test_is ∙ ap (made_map term_of) e)
        ∙ ap (λ z. and_made z (λ a. and_made (freed L b) (λ b. made_map (If p (term_of x) a b) (freed L c)))) f

    pub if_no : (x : CoreExpr) → expr_in r t ≡ Made x → (ys : Code) → freed L a ≡ Made ys → (q : Refusal) → freed L b ≡ Stopped q → (c : Code) → freed L (If p (term_of t) a b c) ≡ Stopped q
    if_no x e ys f q g c =
        ap (λ z. and_made z (λ t. and_made (freed L a) (λ a. and_made (freed L b) (λ b. made_map (If p t a b) (freed L c))))) (test_is ∙ ap (made_map term_of) e)
        ∙ ap (λ z. and_made z (λ a. and_made (freed L b) (λ b. made_map (If p (term_of x) a b) (freed L c)))) f
        ∙ ap (λ z. and_made z (λ b. made_map (If p (term_of x) ys b) (freed L c))) g

    pub if_made : (x : CoreExpr) → expr_in r t ≡ Made x → (ys ns : List CoreStmt) → freed L a ≡ Made (code_of ys) → freed L b ≡ Made (code_of ns) → Turns L L p (If p (term_of t) a b) (Ok (node.If x ys ns))
    if_made x e ys ns f g = λ c.
        ap (λ z. and_made z (λ t. and_made (freed L a) (λ a. and_made (freed L b) (λ b. made_map (If p t a b) (freed L c))))) (test_is ∙ ap (made_map term_of) e)
        ∙ ap (λ z. and_made z (λ a. and_made (freed L b) (λ b. made_map (If p (term_of x) a b) (freed L c)))) f
        ∙ ap (λ z. and_made z (λ b. made_map (If p (term_of x) (code_of ys) b) (freed L c))) g
        ∙ ap (λ z. made_map z (freed L c)) (sym (as_if (at p (node.If x ys ns)) x ys ns refl))

  pub block_stops : (p : Place) (a : Code) (q : Refusal) → freed L a ≡ Stopped q → (c : Code) → freed L (Block p a c) ≡ Stopped q
  block_stops p a q f c = ap (λ z. and_made z (λ b. made_map (Block p b) (freed L c))) f

  pub block_made : (p : Place) (a : Code) (ys : List CoreStmt) → freed L a ≡ Made (code_of ys) → Turns L L p (Block p a) (Ok (node.Block ys))
  block_made p a ys f = λ c. ap (λ z. and_made z (λ b. made_map (Block p b) (freed L c))) f ∙ ap (λ z. made_map z (freed L c)) (sym (as_block (at p (node.Block ys)) ys refl))

  pub loop_stops : (p : Place) (n : Option Count) (a : Code) (q : Refusal) → freed L a ≡ Stopped q → (c : Code) → freed L (Loop p n a c) ≡ Stopped q
  loop_stops p n a q f c = ap (λ z. and_made z (λ b. made_map (Loop p (option_map (resolved_count (looks_of r)) n) b) (freed L c))) f

  -- what a count says
  same_or : (e : CoreExpr) (t : Tried CoreExpr) → term_of (or_same e t) ≡ or_same (term_of e) (made_map term_of t)
  same_or e (Made x) = refl
  same_or e (Stopped q) = refl

  value_or : (e : CoreExpr) → IsFollowed r e → term_of (or_same e (expr_in r e)) ≡ or_same (term_of e) (resolved (looks_of r) (term_of e))
  value_or e w = same_or e (expr_in r e) ∙ ap (or_same (term_of e)) (sym (term_is e w))

  counts_are : (n : Option Counting) → AreAsked r (asked_count n) → counted (option_map (count_in r) n) ≡ option_map (resolved_count (looks_of r)) (counted n)
  counts_are None h = refl
  counts_are (Some n) h = λ i. Some (record {
    cell = n.cell;
    start = value_or n.start (h.0 r (itself r) k) i;
    compare = n.compare;
    bound = value_or n.bound (h.1.0 r (itself r) k) i;
    step_op = n.step_op;
    step = value_or n.step (h.1.1.0 r (itself r) k) i;
  })

  pub loop_made : (p : Place) (n m : Option Counting) (rest : List Item) → AreAsked r (asked_count n ++ rest) → m ≡ option_map (count_in r) n → (a : Code) (ys : List CoreStmt) → freed L a ≡ Made (code_of ys) → Turns L L p (Loop p (counted n) a) (Ok (node.Loop m ys))
  loop_made p n m rest h e a ys f = λ c.
      ap (λ z. and_made z (λ b. made_map (Loop p (option_map (resolved_count (looks_of r)) (counted n)) b) (freed L c))) f
      ∙ ap (λ z. made_map (Loop p z (code_of ys)) (freed L c)) (sym (counts_are n (all_front (Rattle.scc_pointers_laws.specs.Asked.Asks r) (asked_count n) rest h)) ∙ ap counted (sym e))
      ∙ ap (λ z. made_map z (freed L c)) (sym (as_loop (at p (node.Loop m ys)) m ys refl))

-- ---- lists

-- a statement more
pub list_more : (a b : Leads) (ss : List CoreStmt) (i : ℕ) (s : CoreStmt) → i < length ss → s ≡ get_or ss i s → (out out2 : List CoreStmt) (n : CoreNode) → out2 ≡ out ++ at s.place n ∷ [] → (t : Tried Code)
    → made_map (set_before out) (freed a (code_of (drop i ss))) ≡ t → Turns a b s.place (stmt_code s) (Ok n) → made_map (set_before out2) (freed b (code_of (drop (i + 1) ss))) ≡ t
list_more a b ss i s h is out out2 n e t inv turn =
    let rest = code_of (drop (i + 1) ss) in
    (λ j. made_map (λ c. set_one out out2 (at s.place n) c e j) (freed b rest))
    ∙ by (freed b rest)
    ∙ ap (made_map (set_before out)) (sym (turn rest) ∙ sym (ap (freed a) (code_from ss i s h is)))
    ∙ inv
  where
    by : (x : Tried Code) → made_map (λ c. set_before out (stmt_code (at s.place n) c)) x ≡ made_map (set_before out) (made_map (stmt_code (at s.place n)) x)
    by (Made c) = refl
    by (Stopped q) = refl

-- a statement that is refused
pub list_stops : (a b : Leads) (ss : List CoreStmt) (i : ℕ) (s : CoreStmt) → i < length ss → s ≡ get_or ss i s → (out : List CoreStmt) (t : Tried Code)
    → made_map (set_before out) (freed a (code_of (drop i ss))) ≡ t → (e : Stop) → Turns a b s.place (stmt_code s) (Err e) → Gives code_of (Err e) t
list_stops a b ss i s h is out t inv (stop.Refused q) turn = sym inv ∙ ap (made_map (set_before out)) (ap (freed a) (code_from ss i s h is) ∙ turn (code_of (drop (i + 1) ss)))
list_stops a b ss i s h is out t inv stop.NoMemory turn = tt

pub exit_gives : (res : Result (List CoreStmt) Stop) (y e : Stop) → res ≡ Err y → y ≡ e → (t : Tried Code) → Gives code_of (Err e) t → Gives code_of res t
exit_gives res y e i j t g = subst (λ z. Gives code_of z t) (sym (i ∙ ap (λ z. Err z) j)) g

-- pointers lead as before behind a statement that leaves them
pub behind_ok : (a b : Leads) (p : Place) (f : Code → Code) (res : Result CoreNode Stop) → OnOk res (b ≡ a) → Turns a a p f res → Turns a b p f res
behind_ok a b p f (Ok n) e h = subst (λ z. Turns a z p f (Ok n)) (sym e) h
behind_ok a b p f (Err (stop.Refused q)) e h = h
behind_ok a b p f (Err stop.NoMemory) e h = tt

-- a loop behind its body, where pointers lead as before
pub loop_behind : (r s : Resolver) → IsBeside s r → IsKnown r → s.held.entries ≡ r.held.entries → leads_of s ≡ leads_of r → (p : Place) (n m : Option Counting) (rest : List Item) → AreAsked r (asked_count n ++ rest) → m ≡ option_map (count_in s) n
    → (a : Code) (ys : List CoreStmt) → freed (leads_of r) a ≡ Made (code_of ys) → Turns (leads_of r) (leads_of r) p (Loop p (counted n) a) (Ok (node.Loop m ys))
loop_behind r s b k held e p n m rest h is a ys f =
    subst (λ z. Turns z z p (Loop p (counted n) a) (Ok (node.Loop m ys))) e
    (loop_made s (known_on s r b k held) p n m rest (asked_beside s r b (asked_count n ++ rest) h) is a ys (ap (λ z. freed z a) e ∙ f))
