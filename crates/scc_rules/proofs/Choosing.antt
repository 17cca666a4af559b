-- Signals and ports that an index which isn't static chooses, statement by statement.
use Rattle.std.proofs.Common.{◌≡◌, ◌⊎◌, inl, inr, refl, sym, ap, ◌∙◌, subst, arith, ℕ, zero, suc, ◌+◌, ◌<◌, Bool, true, false, List, [], ◌∷◌, ◌++◌, map, drop, drop-cons, add-one, get_or, length, append_assoc, slice_get, not, ◌&&◌, unwrap_or, Option, Some, None, option_map}
use Rattle.scc_base.specs.declared.code.Code.TheVariants as reason
use Rattle.scc_base.specs.declared.refusal.Place.{Place}
use Rattle.scc_base.specs.declared.refusal.Refusal.{Refusal}
use Rattle.scc_core.specs.declared.expr.CoreBase.{CoreBase, out-CoreBase, map-CoreBase, fold_out-CoreBase}
use Rattle.scc_core.specs.declared.expr.CoreBase.TheOpen.{CoreBase-F, CorePart-F}
use Rattle.scc_core.specs.declared.expr.CoreBase.TheOpen as tree
use Rattle.scc_core.specs.declared.expr.CoreExpr.{CoreExpr}
use Rattle.scc_core.specs.declared.expr.CoreExprNode.{CoreExprNode}
use Rattle.scc_core.specs.declared.expr.CoreLeft.{CoreLeft}
use Rattle.scc_core.specs.declared.expr.CorePart.{CorePart, out-CorePart, map-CorePart, fold_out-CorePart}
use Rattle.scc_core.specs.declared.expr.CorePick.{CorePick}
use Rattle.scc_core.specs.declared.program.Core.{Core}
use Rattle.scc_core.specs.declared.program.CoreProcess.{CoreProcess}
use Rattle.scc_core.specs.declared.stmt.CoreStmt.{CoreStmt}
use Rattle.scc_core.specs.declared.stmt.CoreNode.TheVariants as given
use Rattle.scc_core.specs.declared.stmt.Count.{Count as Counting}
use Rattle.scc_core_flow.proofs.Alive.{code_joins}
use Rattle.scc_core_spec.specs.Code.{Code, End, Put, Aim, If, Block, Loop, Exit, Wait, append}
use Rattle.scc_core_spec.specs.First.{first_of, or_else, refused, when}
use Rattle.scc_core_spec.specs.Kept.{OneOf}
use Rattle.scc_core_spec.specs.Rules.{chosen_root, own_uses, signal_index}
use Rattle.scc_core_spec.specs.Static.{Cells}
use Rattle.scc_core_spec.specs.Named.{Step, At, cells_at, is_open, own_steps, part_step, steps_of}
use Rattle.scc_core_spec.specs.Program as program
use Rattle.scc_core_spec.specs.Program.{is_root}
use Rattle.scc_core_spec.specs.Term as term
use Rattle.scc_core_spec.specs.Term.{CellName, Own, Term, Left, place_at}
use Rattle.scc_core_spec.specs.Uses.{Use, has_sort, inside, loads, picked, root_of}
use Rattle.scc_semantics.specs.Location as location
use Rattle.scc_semantics.specs.Location.{Part}
use Rattle.std.specs.List.{list_any}
use Rattle.scc_core.specs.Located.{named_by, named_in}
use Rattle.scc_core_view.specs.Codes.{code_of}
use Rattle.scc_core_view.specs.Programs.{process_of, program_of}
use Rattle.scc_core_view.specs.Terms.{taken_of, term_of}
use Rattle.scc_core_view.specs.Terms as to
use Rattle.scc_core_view.proofs.Layers.{assigns, tests, blocks, loops, exits, waits}
use Rattle.scc_rules.specs.declared.facts.Facts.{Facts}
use Rattle.scc_rules_walks.specs.declared.loads.Load.{Load}
use Rattle.scc_rules.specs.Chosen.{AreLocated, alone_of, is_alone, chosen_in, chosen_of, chosen_at, chosen_by, chosen_place, is_chosen, own_in, uses_in}
use Rattle.scc_rules_walks.specs.Loads.{part_term, pick_term, put_uses, use_of, uses_of}
use Rattle.scc_rules_walks.proofs.Terms.{base_term, left_is, node_term, stands}
use Rattle.scc_rules.proofs.Firsts.{first_map}

-- ---- lists

or_none : {A : Type 0} (o : Option A) → or_else o None ≡ o
or_none None = refl
or_none (Some x) = refl

or_more : {A : Type 0} (a b c : Option A) → or_else (or_else a b) c ≡ or_else a (or_else b c)
or_more None b c = refl
or_more (Some x) b c = refl

first_append : {A B : Type 0} (f : A → Option B) (xs ys : List A) → first_of f (xs ++ ys) ≡ or_else (first_of f xs) (first_of f ys)
first_append f [] ys = refl
first_append f (x ∷ xs) ys = ap (or_else (f x)) (first_append f xs ys) ∙ sym (or_more (f x) (first_of f xs) (first_of f ys))

one_left : {A : Type 0} (x : A) (xs ys : List A) → OneOf x xs → OneOf x (xs ++ ys)
one_left x [] ys o = absurd o
one_left x (y ∷ xs) ys (inl e) = inl e
one_left x (y ∷ xs) ys (inr o) = inr (one_left x xs ys o)

one_right : {A : Type 0} (x : A) (xs ys : List A) → OneOf x ys → OneOf x (xs ++ ys)
one_right x [] ys o = o
one_right x (y ∷ xs) ys o = inr (one_right x xs ys o)

-- ---- what statements use

uses_append : (a b : Code) → own_uses (append a b) ≡ own_uses a ++ own_uses b
uses_append End b = refl
uses_append (Put p l k e r) b =
    ap (λ x. inside l ++ (picked k ++ (record { place = place_at l; left = l } ∷ (loads e ++ x)))) (uses_append r b)
    ∙ ap (λ x. inside l ++ (picked k ++ (record { place = place_at l; left = l } ∷ x))) (sym (append_assoc (loads e) (own_uses r) (own_uses b)))
    ∙ ap (λ x. inside l ++ x) (sym (append_assoc (picked k) (record { place = place_at l; left = l } ∷ (loads e ++ own_uses r)) (own_uses b)))
    ∙ sym (append_assoc (inside l) (picked k ++ (record { place = place_at l; left = l } ∷ (loads e ++ own_uses r))) (own_uses b))
uses_append (Aim p to t r) b = ap (λ x. inside t ++ x) (uses_append r b) ∙ sym (append_assoc (inside t) (own_uses r) (own_uses b))
uses_append (If p t x y r) b =
    ap (λ z. loads t ++ (own_uses x ++ (own_uses y ++ z))) (uses_append r b)
    ∙ ap (λ z. loads t ++ (own_uses x ++ z)) (sym (append_assoc (own_uses y) (own_uses r) (own_uses b)))
    ∙ ap (λ z. loads t ++ z) (sym (append_assoc (own_uses x) (own_uses y ++ own_uses r) (own_uses b)))
    ∙ sym (append_assoc (loads t) (own_uses x ++ (own_uses y ++ own_uses r)) (own_uses b))
uses_append (Block p x r) b = ap (λ z. own_uses x ++ z) (uses_append r b) ∙ sym (append_assoc (own_uses x) (own_uses r) (own_uses b))
uses_append (Loop p n x r) b = ap (λ z. own_uses x ++ z) (uses_append r b) ∙ sym (append_assoc (own_uses x) (own_uses r) (own_uses b))
uses_append (Exit p n r) b = uses_append r b
uses_append (Wait p l n r) b = uses_append r b

front_uses : (s : CoreStmt) (ss : List CoreStmt) → uses_in (s ∷ ss) ≡ uses_in (s ∷ []) ++ uses_in ss
front_uses s ss = ap own_uses (code_joins (s ∷ []) ss) ∙ uses_append (code_of (s ∷ [])) (code_of ss)

here_uses : (ss : List CoreStmt) (i : ℕ) (s : CoreStmt) → i < length ss → s ≡ get_or ss i s → uses_in (drop i ss) ≡ uses_in (s ∷ []) ++ uses_in (drop (i + 1) ss)
here_uses ss i s h is =
    ap uses_in (drop-cons ss i s h ∙ ap (λ x. x ∷ drop (suc i) ss) (sym is)) ∙ front_uses s (drop (suc i) ss) ∙ ap (λ n. uses_in (s ∷ []) ++ uses_in (drop n ss)) (sym (add-one i))

-- ---- of all of them the facts tell what the definition says

-- ---- a cell by its number is one cell

closed_indices : (is : List ℕ) → is_open (map At is) ≡ false
closed_indices [] = refl
closed_indices (i ∷ is) = closed_indices is

closed_own : (o : Option Own) (is : List ℕ) → is_open (own_steps o is) ≡ false
closed_own None is = refl
closed_own (Some o) is = closed_indices is

closed_path : (ps : List Part) (qs : List Step) → is_open qs ≡ false → is_open (map part_step ps ++ qs) ≡ false
closed_path [] qs h = h
closed_path (location.Member n ∷ ps) qs h = closed_path ps qs h
closed_path (location.Element i ∷ ps) qs h = closed_path ps qs h

closed_name : (n : CellName) → is_open (steps_of n) ≡ false
closed_name n = closed_path n.path (own_steps n.own n.indices) (closed_own n.own n.indices)

one_cell : (cs : Cells) (p : Place) (n : ℕ) → is_chosen cs (term.Cell p n) ≡ false
one_cell cs p n = by (slice_get cs n)
  where
    by : (o : Option program.Cell)
        → (not (unwrap_or (option_map (λ q. not (is_open q)) (option_map (λ c. steps_of c.name) o)) false)
        && list_any (has_sort is_root cs) (unwrap_or (option_map (λ q. map (root_of cs) (cells_at 0 q cs)) (option_map (λ c. steps_of c.name) o)) [])) ≡ false
    by None = refl
    by (Some c) = ap (λ b. not (not b) && list_any (has_sort is_root cs) (map (root_of cs) (cells_at 0 (steps_of c.name) cs))) (closed_name c.name)

alone_base : (b : CoreBase) (p : Place) (n : ℕ) → out-CoreBase b ≡ tree.Cell n → base_term b p ≡ term.Cell p n
alone_base b p n is =
    ap (λ g. g p) (fold_out-CoreBase to.Base to.Node (Left → Left) to.Picking Term to.Taken to.base_node to.expr_node to.part_node to.pick_node to.expr_step to.left_step b)
    ∙ ap (λ y. to.base_node (map-CoreBase CoreBase CoreExprNode CorePart CorePick CoreExpr CoreLeft to.Base to.Node (Left → Left) to.Picking Term to.Taken base_term node_term part_term pick_term term_of taken_of y) p) is

record Alone (l : CoreLeft) : Type 0 where
  number : ℕ
  is : out-CoreBase l.base ≡ tree.Cell number
  none : l.parts ≡ []

alone_is : (l : CoreLeft) → is_alone l ≡ true → Alone l
alone_is l h = by (out-CoreBase l.base) l.parts refl refl h
  where
    by : (y : CoreBase-F CoreBase CoreExprNode CorePart CorePick CoreExpr CoreLeft) (ps : List CorePart) → out-CoreBase l.base ≡ y → l.parts ≡ ps → alone_of y ps ≡ true → Alone l
    by (tree.Cell n) [] is none h = record { number = n; is = is; none = none }
    by (tree.Cell n) (p ∷ ps) is none h = absurd cc
    by (tree.Prefix name) ps is none h = absurd cc
    by (tree.Follow m soft) ps is none h = absurd cc
    by tree.Null ps is none h = absurd cc

alone_chosen : (f : Facts) (l : CoreLeft) → Alone l → chosen_in f l ≡ false
unfolding named_in
alone_chosen f l a = λ i. chosen_of f (named_by f.known (a.none i) (a.is i))

module _ (f : Facts) (cs : Cells) where
  alone_same : (l : CoreLeft) → is_alone l ≡ true → chosen_in f l ≡ is_chosen cs (taken_of l).left
  alone_same l h =
      let a = alone_is l h in
      alone_chosen f l a
      ∙ sym (ap (λ t. is_chosen cs t.left) (left_is l l.pick refl) ∙ ap (λ ps. is_chosen cs (to.extended (base_term l.base l.place) (map part_term ps))) a.none
      ∙ ap (is_chosen cs) (alone_base l.base l.place a.number a.is) ∙ one_cell cs l.place a.number)

  one_located : (l : CoreLeft) (b : Bool) → is_alone l ≡ b → (b ≡ false → chosen_in f l ≡ is_chosen cs (taken_of l).left) → chosen_in f l ≡ is_chosen cs (taken_of l).left
  one_located l true h g = alone_same l h
  one_located l false h g = g refl

  fewer : (us vs : List Use) → ((u : Use) → OneOf u us → OneOf u vs) → AreLocated f cs vs → AreLocated f cs us
  fewer us vs g h l u o e n = h l u (g u o) e n

  pub located_front : (us vs all : List Use) → all ≡ us ++ vs → AreLocated f cs all → AreLocated f cs us
  located_front us vs all is h = fewer us (us ++ vs) (λ u o. one_left u us vs o) (subst (AreLocated f cs) is h)

  pub located_back : (us vs all : List Use) → all ≡ us ++ vs → AreLocated f cs all → AreLocated f cs vs
  located_back us vs all is h = fewer vs (us ++ vs) (λ u o. one_right u us vs o) (subst (AreLocated f cs) is h)

  not_below : (i : ℕ) → i < 0 → ⊥
  not_below i h = omega arith

  less : (i : ℕ) (s : CoreStmt) (ss : List CoreStmt) → suc i < length (s ∷ ss) → i < length ss
  less i s ss h = omega arith

  pub located_here : (ss : List CoreStmt) (i : ℕ) (s : CoreStmt) → i < length ss → s ≡ get_or ss i s → AreLocated f cs (uses_in ss) → AreLocated f cs (uses_in (s ∷ []))
  located_here [] i s h is a = absurd (not_below i h)
  located_here (x ∷ xs) zero s h is a = subst (λ z. AreLocated f cs (uses_in (z ∷ []))) (sym is) (located_front (uses_in (x ∷ [])) (uses_in xs) (uses_in (x ∷ xs)) (front_uses x xs) a)
  located_here (x ∷ xs) (suc i) s h is a = located_here xs i s (less i x xs h) is (located_back (uses_in (x ∷ [])) (uses_in xs) (uses_in (x ∷ xs)) (front_uses x xs) a)

  pub located_first : (ls : List Load) → AreLocated f cs (uses_of ls) → first_of (chosen_at f) ls ≡ first_of (chosen_place cs) (uses_of ls)
  located_first [] h = refl
  located_first (l ∷ ls) h =
      ap (λ b. or_else (when b l.place) (first_of (chosen_at f) ls)) (one_located l.left.now (is_alone l.left.now) refl (λ n. h l.left.now (use_of l) (inl refl) refl n))
      ∙ ap (or_else (when (is_chosen cs (taken_of l.left.now).left) l.place)) (located_first ls (λ m u o e n. h m u (inr o) e n))

  pub uses_told : (ls : List Load) (us : List Use) (o : Option Place) → uses_of ls ≡ us → AreLocated f cs us → o ≡ first_of (chosen_at f) ls → o ≡ first_of (chosen_place cs) us
  uses_told ls us o is a h = h ∙ located_first ls (subst (AreLocated f cs) (sym is) a) ∙ ap (first_of (chosen_place cs)) is

module _ (cs : Cells) where
  abbrev pub Firsts : List Use → Option Place
  Firsts us = first_of (chosen_place cs) us

  pub choice_found : (ss : List CoreStmt) (i : ℕ) (s : CoreStmt) (p : Place) → i < length ss → s ≡ get_or ss i s → Some p ≡ Firsts (uses_in (s ∷ []))
      → Firsts (uses_in (drop i ss)) ≡ Firsts (uses_in ss) → Some p ≡ Firsts (uses_in ss)
  choice_found ss i s p h is some all =
      ap (λ o. or_else o (Firsts (uses_in (drop (i + 1) ss)))) some ∙ sym (first_append (chosen_place cs) (uses_in (s ∷ [])) (uses_in (drop (i + 1) ss)))
      ∙ ap Firsts (sym (here_uses ss i s h is)) ∙ all

  pub choice_next : (ss : List CoreStmt) (i : ℕ) (s : CoreStmt) → i < length ss → s ≡ get_or ss i s → None ≡ Firsts (uses_in (s ∷ []))
      → Firsts (uses_in (drop i ss)) ≡ Firsts (uses_in ss) → Firsts (uses_in (drop (i + 1) ss)) ≡ Firsts (uses_in ss)
  choice_next ss i s h is none all =
      ap (λ o. or_else o (Firsts (uses_in (drop (i + 1) ss)))) none ∙ sym (first_append (chosen_place cs) (uses_in (s ∷ [])) (uses_in (drop (i + 1) ss)))
      ∙ ap Firsts (sym (here_uses ss i s h is)) ∙ all

  pub choice_if : (xs ys zs all : List Use) (own a b r : Option Place) → all ≡ xs ++ (ys ++ zs) → own ≡ Firsts xs → a ≡ Firsts ys → b ≡ Firsts zs → r ≡ or_else own (or_else a b) → r ≡ Firsts all
  choice_if xs ys zs all own a b r is x y z told =
      told ∙ (λ i. or_else (x i) (or_else (y i) (z i))) ∙ ap (or_else (Firsts xs)) (sym (first_append (chosen_place cs) ys zs))
      ∙ sym (first_append (chosen_place cs) xs (ys ++ zs)) ∙ ap Firsts (sym is)

-- ---- by nodes

nothing_more : {A : Type 0} (xs : List A) → xs ++ [] ≡ xs
nothing_more [] = refl
nothing_more (x ∷ xs) = ap (λ ys. x ∷ ys) (nothing_more xs)

pub test_uses : (s : CoreStmt) (t : CoreExpr) (a b : List CoreStmt) → s.node ≡ given.If t a b → uses_in (s ∷ []) ≡ loads (term_of t) ++ (uses_in a ++ uses_in b)
test_uses s t a b is = ap own_uses (tests s t a b is End) ∙ ap (λ x. loads (term_of t) ++ (uses_in a ++ x)) (nothing_more (uses_in b))

pub block_uses : (s : CoreStmt) (b : List CoreStmt) → s.node ≡ given.Block b → uses_in (s ∷ []) ≡ uses_in b
block_uses s b is = ap own_uses (blocks s b is End) ∙ nothing_more (uses_in b)

pub loop_uses : (s : CoreStmt) (n : Option Counting) (b : List CoreStmt) → s.node ≡ given.Loop n b → uses_in (s ∷ []) ≡ uses_in b
loop_uses s n b is = ap own_uses (loops s n b is End) ∙ nothing_more (uses_in b)

pub exit_uses : (s : CoreStmt) (n : ℕ) → s.node ≡ given.Exit n → uses_in (s ∷ []) ≡ []
exit_uses s n is = ap own_uses (exits s n is End)

pub wait_uses : (s : CoreStmt) (n : ℕ) → s.node ≡ given.Wait n → uses_in (s ∷ []) ≡ []
wait_uses s n is = ap own_uses (waits s n is End)

-- the place of a location
base_place : (b : CoreBase) (p : Place) → place_at (base_term b p) ≡ p
base_place b p =
    ap (λ g. place_at (g p)) (fold_out-CoreBase to.Base to.Node (Left → Left) to.Picking Term to.Taken to.base_node to.expr_node to.part_node to.pick_node to.expr_step to.left_step b)
    ∙ by (out-CoreBase b)
  where
    by : (y : CoreBase-F CoreBase CoreExprNode CorePart CorePick CoreExpr CoreLeft)
        → place_at (to.base_node (map-CoreBase CoreBase CoreExprNode CorePart CorePick CoreExpr CoreLeft to.Base to.Node (Left → Left) to.Picking Term to.Taken base_term node_term part_term pick_term term_of taken_of y) p) ≡ p
    by (tree.Cell n) = refl
    by (tree.Prefix name) = refl
    by (tree.Follow l soft) = refl
    by tree.Null = refl

part_place : (p : CorePart) (l : Left) → place_at (part_term p l) ≡ place_at l
part_place p l =
    ap (λ g. place_at (g l)) (fold_out-CorePart to.Base to.Node (Left → Left) to.Picking Term to.Taken to.base_node to.expr_node to.part_node to.pick_node to.expr_step to.left_step p)
    ∙ by (out-CorePart p)
  where
    by : (y : CorePart-F CoreBase CoreExprNode CorePart CorePick CoreExpr CoreLeft) → place_at (stands y l) ≡ place_at l
    by (tree.Member n) = refl
    by (tree.Index size at) = refl

parts_place : (l : Left) (ps : List CorePart) → place_at (to.extended l (map part_term ps)) ≡ place_at l
parts_place l [] = refl
parts_place l (p ∷ ps) = parts_place (part_term p l) ps ∙ part_place p l

left_place : (l : CoreLeft) → place_at (taken_of l).left ≡ l.place
left_place l = ap (λ t. place_at t.left) (left_is l l.pick refl) ∙ parts_place (base_term l.base l.place) l.parts ∙ base_place l.base l.place

pub assign_uses : (s : CoreStmt) (l : CoreLeft) (e : CoreExpr) → s.node ≡ given.Assign l e → uses_in (s ∷ []) ≡ put_uses l e
assign_uses s l e is =
    let t = taken_of l in
    ap own_uses (assigns s l e is End)
    ∙ ap (λ x. inside t.left ++ (picked t.pick ++ (record { place = place_at t.left; left = t.left } ∷ x))) (nothing_more (loads (term_of e)))
    ∙ ap (λ p. inside t.left ++ (picked t.pick ++ (record { place = p; left = t.left } ∷ loads (term_of e)))) (left_place l)
    ∙ sym (append_assoc (inside t.left) (picked t.pick) (record { place = l.place; left = t.left } ∷ loads (term_of e)))

pub put_behind : (us vs ws now : List Use) (u : Use) (a b : List Use) → us ≡ [] → vs ≡ us ++ a → ws ≡ vs ++ u ∷ [] → now ≡ ws ++ b → now ≡ a ++ u ∷ b
put_behind us vs ws now u a b none x y z = z ∙ ap (λ v. v ++ b) (y ∙ ap (λ v. v ++ u ∷ []) (x ∙ ap (λ v. v ++ a) none)) ∙ append_assoc a (u ∷ []) b

-- ---- processes

refused_first : (cs : Cells) (us : List Use) → first_of (chosen_root cs) us ≡ option_map (refused reason.SignalIndex) (first_of (chosen_place cs) us)
refused_first cs [] = refl
refused_first cs (u ∷ us) = by (is_chosen cs u.left) (refused_first cs us)
  where
    by : (b : Bool) → first_of (chosen_root cs) us ≡ option_map (refused reason.SignalIndex) (first_of (chosen_place cs) us)
        → or_else (when b (refused reason.SignalIndex u.place)) (first_of (chosen_root cs) us) ≡ option_map (refused reason.SignalIndex) (or_else (when b u.place) (first_of (chosen_place cs) us))
    by true h = refl
    by false h = h

pub chosen_told : (cs : Cells) (p : CoreProcess) (body : List CoreStmt) (o : Option Place) (r : Option Refusal) → body ≡ p.body → o ≡ first_of (chosen_place cs) (uses_in body) → r ≡ option_map (refused reason.SignalIndex) o → r ≡ chosen_by cs p
chosen_told cs p body o r same h told = told ∙ ap (option_map (refused reason.SignalIndex)) (h ∙ ap (λ ss. first_of (chosen_place cs) (uses_in ss)) same) ∙ sym (refused_first cs (own_in p))

pub chosen_all : (c : Core) → first_of (chosen_by (program_of c).cells) c.processes ≡ signal_index (program_of c)
chosen_all c = sym (first_map (λ q. first_of (chosen_root (program_of c).cells) (own_uses q.body)) process_of c.processes)
