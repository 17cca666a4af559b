-- Locations of which the looks say yes fit, and each cell that they may name passes.
use Rattle.std.proofs.Common.{◌≡◌, refl, arith, ℕ, zero, suc, ◌+◌, ◌<◌, Bool, true, false, not, ◌&&◌, ◌||◌, nat_eq, List, [], ◌∷◌, ◌++◌, map, Option, Some, None, option_and_then, slice_get, ap, ◌∙◌, sym, subst}
use Rattle.std.specs.Prelude.{option_map, is_some, if◌then◌else◌}
use Rattle.std.specs.Option.{unwrap_or}
use Rattle.std.specs.List.{list_all, list_any}
use Rattle.scc_base.specs.declared.refusal.Place.{Place}
use Rattle.scc_core.specs.declared.expr.CoreBase.{CoreBase, fold-CoreBase, fold-roll-CoreBase}
use Rattle.scc_core.specs.declared.expr.CoreBase.TheVariants as base
use Rattle.scc_core.specs.declared.expr.CoreBase.TheOpen as tree
use Rattle.scc_core.specs.declared.expr.CoreExpr.{CoreExpr}
use Rattle.scc_core.specs.declared.expr.CoreExprNode.{CoreExprNode, fold-CoreExprNode}
use Rattle.scc_core.specs.declared.expr.CoreLeft.{CoreLeft, fold-roll-CoreLeft}
use Rattle.scc_core.specs.declared.expr.CorePart.{CorePart, out-CorePart, map-CorePart, fold_out-CorePart}
use Rattle.scc_core.specs.declared.expr.CorePick.{CorePick}
use Rattle.scc_core.specs.declared.places.NameStep.{NameStep}
use Rattle.scc_core.specs.declared.places.NameStep.TheVariants as step
use Rattle.scc_core.specs.declared.program.Cell.{Cell}
use Rattle.scc_core.specs.declared.program.CellName.{CellName}
use Rattle.scc_core.specs.declared.places.Spot.{Spot}
use Rattle.scc_core.specs.Names.{is_pointer as is_pointer_cell, name_spot, pointer_at}
use Rattle.scc_core.specs.Tables.{cell_in, first_cell, is_same, pointer_in, same_list, steps_of}
use Rattle.scc_core_spec.specs.Fit.{fit_left, is_name}
use Rattle.scc_core_spec.specs.IsResolved.{cells_apart}
use Rattle.scc_core_spec.specs.Named as named
use Rattle.scc_core_spec.specs.Named.{Step, Named, At, Ours, Open, fits, names_cell, cell_at, cells_at, path_steps}
use Rattle.scc_core_spec.specs.OpenNames.{agrees, all_agreeing, all_named, completes as completed, is_sized, open_name}
use Rattle.scc_core_spec.specs.Program as program
use Rattle.scc_core_spec.specs.Program.{Sort, is_input, is_pointer}
use Rattle.scc_core_spec.specs.Static.{Cells, grown, pattern}
use Rattle.scc_core_spec.specs.Term as term
use Rattle.scc_core_spec.specs.Term.{Left, Term}
use Rattle.scc_core_spec.specs.Uses.{cells_of, has_sort, root_of, root_of_sort}
use Rattle.scc_core_view.specs.Programs.{cell_of}
use Rattle.scc_core_view.specs.Steps.{step_in}
use Rattle.scc_core_view.specs.Terms as to
use Rattle.scc_core_view.specs.Terms.{name_of, taken_of, term_of}
use Rattle.scc_core_look.specs.declared.rows.Rows.{Rows}
use Rattle.scc_core_look.specs.declared.seen.Test.{Test}
use Rattle.scc_core_look.specs.declared.terms.Ground.{Ground}
use Rattle.scc_core_look.specs.Fits.{IsGround, IsLeft, begins_open, front_passes, here, index_fits, keeps_left, mine, names_none, part_fits, part_term, pick_term}
use Rattle.scc_core_look.specs.Own.{is_unnamed}
use Rattle.scc_core_look.specs.Rows.{PartLayer, cell_covered, passes}
use Rattle.scc_core_look.specs.Seen.{asks, asked, rooted_input, seen_of, writes}
use Rattle.scc_core_look.proofs.Agreeing.{Cellwise, cellwise, completes_or, open_step, opened, opens, pattern_step, patterns}
use Rattle.scc_core_look.proofs.Apart.{both, first, second, fits_same, list_turned, name_walk, steps_same}

-- ---- trees

abbrev node_term : CoreExprNode → to.Node
node_term = fold-CoreExprNode to.Base to.Node (Left → Left) to.Picking Term to.Taken to.base_node to.expr_node to.part_node to.pick_node to.expr_step to.left_step

abbrev base_term : CoreBase → to.Base
base_term = fold-CoreBase to.Base to.Node (Left → Left) to.Picking Term to.Taken to.base_node to.expr_node to.part_node to.pick_node to.expr_step to.left_step

pub left_is : (l : CoreLeft) (o : Option CorePick) → l.pick ≡ o
    → taken_of l ≡ record { left = to.extended (base_term l.base l.place) (map part_term l.parts); pick = to.pick_of (option_map pick_term o); of = option_map (λ t. t.of) (option_map pick_term o) }
left_is l None is =
    ap (λ o. taken_of (record { place = l.place; base = l.base; parts = l.parts; pick = o })) is
    ∙ fold-roll-CoreLeft to.Base to.Node (Left → Left) to.Picking Term to.Taken to.base_node to.expr_node to.part_node to.pick_node to.expr_step to.left_step (record { place = l.place; base = l.base; parts = l.parts; pick = None })
left_is l (Some q) is =
    ap (λ o. taken_of (record { place = l.place; base = l.base; parts = l.parts; pick = o })) is
    ∙ fold-roll-CoreLeft to.Base to.Node (Left → Left) to.Picking Term to.Taken to.base_node to.expr_node to.part_node to.pick_node to.expr_step to.left_step (record { place = l.place; base = l.base; parts = l.parts; pick = Some q })

pub cell_is : (l : CoreLeft) (n : ℕ) → l.base ≡ base.Cell n → l.parts ≡ [] → (taken_of l).left ≡ term.Cell l.place n
cell_is l n is none = ap (λ t. t.left) (left_is l l.pick refl) ∙ ap (λ ps. to.extended (base_term l.base l.place) (map part_term ps)) none
    ∙ ap (λ b. base_term b l.place) (is ∙ sym (base.rolls-Cell n))
    ∙ ap (λ f. f l.place) (fold-roll-CoreBase to.Base to.Node (Left → Left) to.Picking Term to.Taken to.base_node to.expr_node to.part_node to.pick_node to.expr_step to.left_step (tree.Cell n))

pub front_is : (l : CoreLeft) (name : CellName) → l.base ≡ base.Prefix name → (taken_of l).left ≡ to.extended (term.Prefix l.place (name_of name)) (map part_term l.parts)
front_is l name is = ap (λ t. t.left) (left_is l l.pick refl)
    ∙ ap (λ x. to.extended x (map part_term l.parts)) (ap (λ b. base_term b l.place) (is ∙ sym (base.rolls-Prefix name))
    ∙ ap (λ f. f l.place) (fold-roll-CoreBase to.Base to.Node (Left → Left) to.Picking Term to.Taken to.base_node to.expr_node to.part_node to.pick_node to.expr_step to.left_step (tree.Prefix name)))

abbrev stands : PartLayer → Left → Left
stands y = to.part_node (map-CorePart CoreBase CoreExprNode CorePart CorePick CoreExpr CoreLeft to.Base to.Node (Left → Left) to.Picking Term to.Taken base_term node_term part_term pick_term term_of taken_of y)

part_is : (p : CorePart) (l : Left) → part_term p l ≡ stands (out-CorePart p) l
part_is p l = ap (λ f. f l) (fold_out-CorePart to.Base to.Node (Left → Left) to.Picking Term to.Taken to.base_node to.expr_node to.part_node to.pick_node to.expr_step to.left_step p)

regroup : {A : Type 0} (xs : List A) (y : A) (ys : List A) → (xs ++ y ∷ []) ++ ys ≡ xs ++ y ∷ ys
regroup [] y ys = refl
regroup (x ∷ xs) y ys = ap (λ l. x ∷ l) (regroup xs y ys)

no-more : {A : Type 0} (xs : List A) → xs ++ [] ≡ xs
no-more [] = refl
no-more (x ∷ xs) = ap (λ l. x ∷ l) (no-more xs)

module _ (cs : Cells) where
  one_open : (y : PartLayer) (l : Left) → open_name cs (stands y l) ≡ grown (open_name cs l) (open_step y)
  one_open (tree.Member n) l = refl
  one_open (tree.Index size at) l = refl

  one_pattern : (y : PartLayer) (l : Left) → pattern cs (stands y l) ≡ grown (pattern cs l) (pattern_step cs y)
  one_pattern (tree.Member n) l = refl
  one_pattern (tree.Index size at) l = refl

  more_open : (ps : List CorePart) (l : Left) (s : List Step) → open_name cs l ≡ Some s → open_name cs (to.extended l (map part_term ps)) ≡ Some (s ++ opens ps)
  more_open [] l s e = e ∙ ap Some (sym (no-more s))
  more_open (p ∷ ps) l s e =
      more_open ps (part_term p l) (s ++ open_step (out-CorePart p) ∷ []) (ap (open_name cs) (part_is p l) ∙ one_open (out-CorePart p) l ∙ ap (λ o. grown o (open_step (out-CorePart p))) e)
      ∙ ap Some (regroup s (open_step (out-CorePart p)) (opens ps))

  more_pattern : (ps : List CorePart) (l : Left) (s : List Step) → pattern cs l ≡ Some s → pattern cs (to.extended l (map part_term ps)) ≡ Some (s ++ patterns cs ps)
  more_pattern [] l s e = e ∙ ap Some (sym (no-more s))
  more_pattern (p ∷ ps) l s e =
      more_pattern ps (part_term p l) (s ++ pattern_step cs (out-CorePart p) ∷ []) (ap (pattern cs) (part_is p l) ∙ one_pattern (out-CorePart p) l ∙ ap (λ o. grown o (pattern_step cs (out-CorePart p))) e)
      ∙ ap Some (regroup s (pattern_step cs (out-CorePart p)) (patterns cs ps))

abbrev is_cell : Left → Bool
is_cell (term.Cell p n) = true
is_cell (term.Prefix p n) = false
is_cell (term.Null p) = false
is_cell (term.Follow p s l) = false
is_cell (term.Member l n) = false
is_cell (term.Index l size e) = false

one_other : (y : PartLayer) (l : Left) → is_cell (stands y l) ≡ false
one_other (tree.Member n) l = refl
one_other (tree.Index size at) l = refl

more_other : (ps : List CorePart) (l : Left) → is_cell l ≡ false → is_cell (to.extended l (map part_term ps)) ≡ false
more_other [] l e = e
more_other (p ∷ ps) l e = more_other ps (part_term p l) (ap is_cell (part_is p l) ∙ one_other (out-CorePart p) l)

by_open : (cs : Cells) (test : program.Cell → Bool) (l : Left) → is_cell l ≡ false → all_named cs test l ≡ all_agreeing cs test (open_name cs l)
by_open cs test (term.Cell p n) e = absurd cc
by_open cs test (term.Prefix p n) e = refl
by_open cs test (term.Null p) e = refl
by_open cs test (term.Follow p s l) e = refl
by_open cs test (term.Member l n) e = refl
by_open cs test (term.Index l size x) e = refl

-- ---- names

number_self : (n : ℕ) → nat_eq n n ≡ true
number_self n = grind arith

pub behind_front : (ss : List NameStep) (p q : List Step) → fits (map step_in ss ++ p) (map step_in ss ++ q) ≡ fits p q
behind_front [] p q = refl
behind_front (step.Member n ∷ ss) p q = ap (λ b. b && fits (map step_in ss ++ p) (map step_in ss ++ q)) (number_self n.0) ∙ behind_front ss p q
behind_front (step.Index n ∷ ss) p q = ap (λ b. b && fits (map step_in ss ++ p) (map step_in ss ++ q)) (number_self n) ∙ behind_front ss p q
behind_front (step.Local n ∷ ss) p q = ap (λ b. b && fits (map step_in ss ++ p) (map step_in ss ++ q)) (number_self n) ∙ behind_front ss p q

same_front : (ss : List NameStep) (p q : List Step) → agrees (map step_in ss ++ p) (map step_in ss ++ q) ≡ agrees p q
same_front [] p q = refl
same_front (step.Member n ∷ ss) p q = ap (λ b. b && agrees (map step_in ss ++ p) (map step_in ss ++ q)) (number_self n.0) ∙ same_front ss p q
same_front (step.Index n ∷ ss) p q = ap (λ b. b && agrees (map step_in ss ++ p) (map step_in ss ++ q)) (number_self n) ∙ same_front ss p q
same_front (step.Local n ∷ ss) p q = ap (λ b. b && agrees (map step_in ss ++ p) (map step_in ss ++ q)) (number_self n) ∙ same_front ss p q

spread : (xs ys : List NameStep) → map step_in (xs ++ ys) ≡ map step_in xs ++ map step_in ys
spread [] ys = refl
spread (x ∷ xs) ys = ap (λ l. step_in x ∷ l) (spread xs ys)

-- what a pattern fits agrees with it
fit_agrees : (p q : List Step) → fits p q ≡ true → agrees p q ≡ true
fit_agrees [] [] e = refl
fit_agrees (Named n ∷ p) (Named m ∷ q) e = both (nat_eq n m) (agrees p q) (first (nat_eq n m) (fits p q) e) (fit_agrees p q (second (nat_eq n m) (fits p q) e))
fit_agrees (At n ∷ p) (At m ∷ q) e = both (nat_eq n m) (agrees p q) (first (nat_eq n m) (fits p q) e) (fit_agrees p q (second (nat_eq n m) (fits p q) e))
fit_agrees (Ours n ∷ p) (Ours m ∷ q) e = both (nat_eq n m) (agrees p q) (first (nat_eq n m) (fits p q) e) (fit_agrees p q (second (nat_eq n m) (fits p q) e))
fit_agrees (Open size ∷ p) (At m ∷ q) e = fit_agrees p q (second _ (fits p q) e)
fit_agrees _ _ e = absurd cc

-- and a whole name alone fits what agrees with it
closed : (xs ys : List NameStep) → agrees (map step_in xs) (map step_in ys) ≡ fits (map step_in xs) (map step_in ys)
closed [] [] = refl
closed [] (step.Member y ∷ ys) = refl
closed [] (step.Index y ∷ ys) = refl
closed [] (step.Local y ∷ ys) = refl
closed (step.Member x ∷ xs) [] = refl
closed (step.Index x ∷ xs) [] = refl
closed (step.Local x ∷ xs) [] = refl
closed (step.Member x ∷ xs) (step.Member y ∷ ys) = ap (λ b. nat_eq x.0 y.0 && b) (closed xs ys)
closed (step.Index x ∷ xs) (step.Index y ∷ ys) = ap (λ b. nat_eq x y && b) (closed xs ys)
closed (step.Local x ∷ xs) (step.Local y ∷ ys) = ap (λ b. nat_eq x y && b) (closed xs ys)
closed (step.Member x ∷ xs) (step.Index y ∷ ys) = refl
closed (step.Member x ∷ xs) (step.Local y ∷ ys) = refl
closed (step.Index x ∷ xs) (step.Member y ∷ ys) = refl
closed (step.Index x ∷ xs) (step.Local y ∷ ys) = refl
closed (step.Local x ∷ xs) (step.Member y ∷ ys) = refl
closed (step.Local x ∷ xs) (step.Index y ∷ ys) = refl

-- ---- lists of cells

each_one : (t : Rows) (all : List Cell) (f : program.Cell → Bool) (cells : List Cell) → list_all (cell_covered t all) cells ≡ true → ((c : Cell) → cell_covered t all c ≡ true → f (cell_of c) ≡ true) → list_all f (map cell_of cells) ≡ true
each_one t all f [] e h = refl
each_one t all f (c ∷ cells) e h = both (f (cell_of c)) (list_all f (map cell_of cells)) (h c (first (cell_covered t all c) (list_all (cell_covered t all) cells) e)) (each_one t all f cells (second (cell_covered t all c) (list_all (cell_covered t all) cells) e) h)

one_of : (f : Cell → Bool) (cells : List Cell) (n : ℕ) (c : Cell) → list_all f cells ≡ true → slice_get cells n ≡ Some c → f c ≡ true
one_of f [] n c e g = absurd cc
one_of f (x ∷ cells) zero c e g = ap f (sym (some g)) ∙ first (f x) (list_all f cells) e
  where
    some : {A : Type 0} {a b : A} → Some a ≡ Some b → a ≡ b
    some e = cc
one_of f (x ∷ cells) (suc n) c e g = one_of f cells n c (second (f x) (list_all f cells) e) g

-- where what a pattern names is no input, and what is named stands for none, no input is named
dry_root : (cs : Cells) (n : ℕ) (c : program.Cell) → slice_get cs n ≡ Some c → rooted_input cs c ≡ false → has_sort is_input cs (root_of cs n) ≡ false
dry_root cs n c e h =
    ap (λ o. has_sort is_input cs (unwrap_or (option_map (λ s. root_of_sort cs s n) (option_map (λ (d : program.Cell). d.sort) o)) n)) e
    ∙ by c.sort refl h
  where
    at : (s : Sort) → c.sort ≡ s → is_input s ≡ false → has_sort is_input cs n ≡ false
    at s is f = ap (λ o. unwrap_or (option_map is_input (option_map (λ (d : program.Cell). d.sort) o)) false) e ∙ (ap is_input is ∙ f)

    by : (s : Sort) → c.sort ≡ s → Rattle.scc_core_look.specs.Seen.input_by cs s ≡ false → has_sort is_input cs (root_of_sort cs s n) ≡ false
    by program.Input is f = absurd cc
    by (program.Port path) is f = from (cell_at false 0 (path_steps path) cs) f
      where
        from : (o : Option ℕ) → Rattle.scc_core_look.specs.Seen.is_input_at cs o ≡ false → has_sort is_input cs (unwrap_or o n) ≡ false
        from None g = at (program.Port path) is refl
        from (Some m) g = g
    by program.Output is f = at program.Output is refl
    by program.Signal is f = at program.Signal is refl
    by (program.Variable w x) is f = at (program.Variable w x) is refl
    by (program.Local j) is f = at (program.Local j) is refl
    by (program.Pointer t) is f = at (program.Pointer t) is refl

dry_cells : (cs : Cells) (p : List Step) → ((n : ℕ) (c : program.Cell) → slice_get cs n ≡ Some c → fits p (named.steps_of c.name) ≡ true → rooted_input cs c ≡ false)
    → (n : ℕ) (ds : Cells) → ((k : ℕ) (c : program.Cell) → slice_get ds k ≡ Some c → slice_get cs (n + k) ≡ Some c) → list_any (has_sort is_input cs) (map (root_of cs) (cells_at n p ds)) ≡ false
dry_cells cs p h n [] g = refl
dry_cells cs p h n (d ∷ ds) g = by (names_cell false p d) refl (dry_cells cs p h (n + 1) ds next)
  where
    next : (k : ℕ) (c : program.Cell) → slice_get ds k ≡ Some c → slice_get cs (n + 1 + k) ≡ Some c
    next k c e = let z : n + 1 + k ≡ n + suc k = omega arith in ap (slice_get cs) z ∙ g (suc k) c e

    neither : (a b : Bool) → a ≡ false → b ≡ false → (a || b) ≡ false
    neither a b e f = λ i. e i || f i

    stands-here : slice_get cs n ≡ Some d
    stands-here = let z : n ≡ n + 0 = omega arith in ap (slice_get cs) z ∙ g 0 d refl

    by : (b : Bool) → names_cell false p d ≡ b → list_any (has_sort is_input cs) (map (root_of cs) (cells_at (n + 1) p ds)) ≡ false → list_any (has_sort is_input cs) (map (root_of cs) (if b then n ∷ cells_at (n + 1) p ds else cells_at (n + 1) p ds)) ≡ false
    by true e rest = neither (has_sort is_input cs (root_of cs n)) (list_any (has_sort is_input cs) (map (root_of cs) (cells_at (n + 1) p ds)))
        (dry_root cs n d stands-here (h n d stands-here (first (fits p (named.steps_of d.name)) (not (is_pointer d.sort)) e))) rest
    by false e rest = rest

kept : (cs : Cells) (l : Left) (p : List Step) → pattern cs l ≡ Some p → ((n : ℕ) (c : program.Cell) → slice_get cs n ≡ Some c → fits p (named.steps_of c.name) ≡ true → rooted_input cs c ≡ false) → not (list_any (has_sort is_input cs) (cells_of cs l)) ≡ true
kept cs l p is h = ap (λ o. not (list_any (has_sort is_input cs) (unwrap_or (option_map (λ p. map (root_of cs) (cells_at 0 p cs)) o) []))) is
    ∙ ap not (dry_cells cs p h 0 cs (λ k c e. let z : 0 + k ≡ k = omega arith in ap (slice_get cs) z ∙ e))

view_of : (cells : List Cell) (n : ℕ) (c : program.Cell) → slice_get (map cell_of cells) n ≡ Some c → (d : Cell) × (slice_get cells n ≡ Some d) × (cell_of d ≡ c)
view_of [] n c e = absurd cc
view_of (x ∷ cells) zero c e = (x, refl, some e)
  where
    some : {A : Type 0} {a b : A} → Some a ≡ Some b → a ≡ b
    some e = cc
view_of (x ∷ cells) (suc n) c e = view_of cells n c e

-- ---- a name with parts

either : (a b : Bool) → (a ≡ true → b ≡ true) → (not a || b) ≡ true
either true b f = f refl
either false b f = refl

fit_parts : (g : Ground) (ps : List CorePart) (l : Left) → fit_left (here g) (mine g) l ≡ true → list_all (part_fits g) ps ≡ true → fit_left (here g) (mine g) (to.extended l (map part_term ps)) ≡ true
fit_parts g [] l e h = e
fit_parts g (p ∷ ps) l e h = fit_parts g ps (part_term p l)
    (ap (fit_left (here g) (mine g)) (part_is p l) ∙ by (out-CorePart p) (first (part_fits g p) (list_all (part_fits g) ps) h)) (second (part_fits g p) (list_all (part_fits g) ps) h)
  where
    by : (y : PartLayer) → index_fits g y ≡ true → fit_left (here g) (mine g) (stands y l) ≡ true
    by (tree.Member n) f = e
    by (tree.Index size at) f = both (fit_left (here g) (mine g) l) _ e f

module _ (g : Ground) (ground : IsGround g) (test : Test) where
  abbrev pub cs : Cells
  cs = here g

  abbrev pub t : Rows
  t = g.rows.now

  abbrev covers-it : Cell → Type 0
  covers-it c = cell_covered t g.cells.now c ≡ true

  module _ (place : Place) (name : CellName) (ps : List CorePart) (whole : name.local ≡ None → name.indices ≡ []) (begins : begins_open ps ≡ true) (pass : passes cs t name ps test ≡ true) where
    abbrev pub l : Left
    l = to.extended (term.Prefix place (name_of name)) (map part_term ps)

    front : named.steps_of (name_of name) ≡ map step_in (steps_of name)
    front = steps_same name

    open-is : open_name cs l ≡ Some (map step_in (steps_of name) ++ opens ps)
    open-is = more_open cs ps (term.Prefix place (name_of name)) (named.steps_of (name_of name)) refl ∙ ap (λ s. Some (s ++ opens ps)) front

    pattern-is : pattern cs l ≡ Some (map step_in (steps_of name) ++ patterns cs ps)
    pattern-is = more_pattern cs ps (term.Prefix place (name_of name)) (named.steps_of (name_of name)) refl ∙ ap (λ s. Some (s ++ patterns cs ps)) front

    tells : (c : Cell) → covers-it c → agrees (map step_in (steps_of name) ++ opens ps) (map step_in (steps_of c.name)) ≡ true → Cellwise cs t name ps test c (seen_of (cell_of c)) (rooted_input cs (cell_of c))
    tells c h e = cellwise cs t name ps test whole begins pass c (seen_of (cell_of c)) (rooted_input cs (cell_of c)) h e

    named-each : all_named cs (asks test) l ≡ true
    named-each = by_open cs (asks test) l (more_other ps (term.Prefix place (name_of name)) refl) ∙ ap (all_agreeing cs (asks test)) open-is
        ∙ each_one t g.cells.now (λ c. not (agrees (map step_in (steps_of name) ++ opens ps) (named.steps_of c.name)) || asks test c) g.cells.now ground.covered
        (λ c h. either (agrees (map step_in (steps_of name) ++ opens ps) (named.steps_of (name_of c.name))) (asks test (cell_of c)) (λ e. (tells c h (ap (agrees (map step_in (steps_of name) ++ opens ps)) (sym (steps_same c.name)) ∙ e)).told.asked))

    -- what agrees with the pattern agrees with it opened
    as-open : (xs : List NameStep) → agrees (map step_in (steps_of name) ++ patterns cs ps) (map step_in xs) ≡ true → agrees (map step_in (steps_of name) ++ opens ps) (map step_in xs) ≡ true
    as-open xs e =
        let d = Rattle.scc_core_look.proofs.Agreeing.split (steps_of name) (patterns cs ps) xs e in
        ap (λ ss. agrees (map step_in (steps_of name) ++ opens ps) ss) (ap (map step_in) d.is ∙ spread (steps_of name) d.ys)
        ∙ same_front (steps_of name) (opens ps) (map step_in d.ys)
        ∙ opened cs ps d.ys d.agree

    sized-one : (c : Cell) → covers-it c → agrees (map step_in (steps_of name) ++ patterns cs ps) (map step_in (steps_of c.name)) ≡ true → fits (map step_in (steps_of name) ++ patterns cs ps) (map step_in (steps_of c.name)) ≡ true
    sized-one c h e =
        let w = tells c h (as-open (steps_of c.name) e) in
        let there : map step_in (steps_of c.name) ≡ map step_in (steps_of name) ++ map step_in w.ys = ap (map step_in) w.is ∙ spread (steps_of name) w.ys in
        let rest : agrees (patterns cs ps) (map step_in w.ys) ≡ true = sym (same_front (steps_of name) (patterns cs ps) (map step_in w.ys)) ∙ (ap (agrees (map step_in (steps_of name) ++ patterns cs ps)) (sym there) ∙ e) in
        ap (fits (map step_in (steps_of name) ++ patterns cs ps)) there ∙ behind_front (steps_of name) (patterns cs ps) (map step_in w.ys)
        ∙ completes_or cs w.row.bounds ps w.ys rest w.told.within w.told.sized

    sized-each : is_sized cs l ≡ true
    sized-each = ap (λ o. all_agreeing cs (completed o) o) pattern-is
        ∙ each_one t g.cells.now (λ c. not (agrees (map step_in (steps_of name) ++ patterns cs ps) (named.steps_of c.name)) || fits (map step_in (steps_of name) ++ patterns cs ps) (named.steps_of c.name)) g.cells.now ground.covered
        (λ c h. either (agrees (map step_in (steps_of name) ++ patterns cs ps) (named.steps_of (name_of c.name))) _
        (λ e. ap (fits (map step_in (steps_of name) ++ patterns cs ps)) (steps_same c.name) ∙ sized-one c h (ap (agrees (map step_in (steps_of name) ++ patterns cs ps)) (sym (steps_same c.name)) ∙ e)))

    keeps-each : writes test ≡ true → keeps_left g l ≡ true
    keeps-each w = kept cs l (map step_in (steps_of name) ++ patterns cs ps) pattern-is (λ n c e f.
        let v = view_of g.cells.now n c e in
        ap (rooted_input cs) (sym v.2)
        ∙ (tells v.0 (one_of (cell_covered t g.cells.now) g.cells.now n v.0 ground.covered v.1)
        (as-open (steps_of v.0.name) (ap (agrees (map step_in (steps_of name) ++ patterns cs ps)) (sym (ap (λ (x : program.Cell). named.steps_of x.name) (sym v.2) ∙ steps_same v.0.name)) ∙ fit_agrees (map step_in (steps_of name) ++ patterns cs ps) (named.steps_of c.name) f))).told.keeps w)

    pub front_passes_all : is_name (mine g) (name_of name) ≡ true → list_all (part_fits g) ps ≡ true → IsLeft g test l
    front_passes_all n h = record { fits = fit_parts g ps (term.Prefix place (name_of name)) n h; named = named-each; sized = sized-each; keeps = keeps-each }

  -- ---- a cell by its number

  turned_fit : (a b : CellName) → fits (named.steps_of (name_of a)) (named.steps_of (name_of b)) ≡ fits (named.steps_of (name_of b)) (named.steps_of (name_of a))
  turned_fit a b = (λ i. fits (steps_same a i) (steps_same b i)) ∙ fits_same (steps_of a) (steps_of b) ∙ list_turned (steps_of a) (steps_of b) ∙ sym (fits_same (steps_of b) (steps_of a)) ∙ sym (λ i. fits (steps_same b i) (steps_same a i))

  all-at : (f : program.Cell → Bool) (ds : Cells) (k : ℕ) (d : program.Cell) → list_all f ds ≡ true → slice_get ds k ≡ Some d → f d ≡ true
  all-at f [] k d e h = absurd cc
  all-at f (x ∷ ds) zero d e h = ap f (sym (some h)) ∙ first (f x) (list_all f ds) e
    where
      some : {A : Type 0} {a b : A} → Some a ≡ Some b → a ≡ b
      some e = cc
  all-at f (x ∷ ds) (suc k) d e h = all-at f ds k d (second (f x) (list_all f ds) e) h

  -- cells that are apart, one before the other
  apart_at : (ds : Cells) (i j : ℕ) (c d : program.Cell) → cells_apart ds ≡ true → i < j → slice_get ds i ≡ Some c → slice_get ds j ≡ Some d → fits (named.steps_of c.name) (named.steps_of d.name) ≡ false
  apart_at [] i j c d e h f k = absurd cc
  apart_at (x ∷ ds) zero zero c d e h f k = absurd (let z = h in omega (arith, z))
  apart_at (x ∷ ds) zero (suc j) c d e h f k =
      let w = all-at (λ (d : program.Cell). not (fits (named.steps_of x.name) (named.steps_of d.name))) ds j d (first (list_all (λ (d : program.Cell). not (fits (named.steps_of x.name) (named.steps_of d.name))) ds) (cells_apart ds) e) k in
      ap (λ (y : program.Cell). fits (named.steps_of y.name) (named.steps_of d.name)) (sym (some f)) ∙ off (fits (named.steps_of x.name) (named.steps_of d.name)) w
    where
      some : {A : Type 0} {a b : A} → Some a ≡ Some b → a ≡ b
      some e = cc

      off : (b : Bool) → not b ≡ true → b ≡ false
      off true e = absurd cc
      off false e = refl
  apart_at (x ∷ ds) (suc i) zero c d e h f k = absurd (let z = h in omega (arith, z))
  apart_at (x ∷ ds) (suc i) (suc j) c d e h f k = apart_at ds i j c d (second (list_all (λ (d : program.Cell). not (fits (named.steps_of x.name) (named.steps_of d.name))) ds) (cells_apart ds) e) (omega (arith, h)) f k

  same_some : {A : Type 0} {a b : A} → Some a ≡ Some b → a ≡ b
  same_some e = cc

  -- a cell that has another's name is that one
  alone : (n m : ℕ) (c d : program.Cell) → slice_get cs n ≡ Some c → slice_get cs m ≡ Some d → fits (named.steps_of c.name) (named.steps_of d.name) ≡ true → d ≡ c
  alone n m c d e f h = by (nat_eq n m) refl (Rattle.std.specs.Prelude.nat_lt n m) refl
    where
      v : (x : Cell) × (slice_get g.cells.now n ≡ Some x) × (cell_of x ≡ c)
      v = view_of g.cells.now n c e

      w : (x : Cell) × (slice_get g.cells.now m ≡ Some x) × (cell_of x ≡ d)
      w = view_of g.cells.now m d f

      other : fits (named.steps_of d.name) (named.steps_of c.name) ≡ true
      other = (λ i. fits (named.steps_of (sym w.2 i).name) (named.steps_of (sym v.2 i).name)) ∙ turned_fit w.0.name v.0.name ∙ (λ i. fits (named.steps_of (v.2 i).name) (named.steps_of (w.2 i).name)) ∙ h

      by : (a : Bool) → nat_eq n m ≡ a → (b : Bool) → Rattle.std.specs.Prelude.nat_lt n m ≡ b → d ≡ c
      by true p b q = let z : n ≡ m = grind (arith, p) in same_some (sym f ∙ (ap (slice_get cs) (sym z) ∙ e))
      by false p true q = let z : n < m = grind (arith, q) in absurd (let y : true ≡ false = sym h ∙ apart_at cs n m c d ground.apart z e f in cc)
      by false p false q = let z : m < n = grind (arith, p, q) in absurd (let y : true ≡ false = sym other ∙ apart_at cs m n d c ground.apart z f e in cc)

  pub cell_passes : (place : Place) (n : ℕ) (c : Cell) → slice_get g.cells.now n ≡ Some c → is_name (mine g) (name_of c.name) ≡ true → asks test (cell_of c) ≡ true → (writes test ≡ true → rooted_input cs (cell_of c) ≡ false) → IsLeft g test (term.Cell place n)
  cell_passes place n c e name ask dry = record {
    fits = ap (Rattle.scc_core_spec.specs.Fit.is_cell cs (mine g)) there ∙ name;
    named = ap (Rattle.scc_core_spec.specs.OpenNames.passes (asks test)) there ∙ ask;
    sized = ap (λ o. all_agreeing cs (completed o) o) pattern-is
        ∙ each_one t g.cells.now (λ d. not (agrees (named.steps_of (name_of c.name)) (named.steps_of d.name)) || fits (named.steps_of (name_of c.name)) (named.steps_of d.name)) g.cells.now ground.covered
        (λ d h. either (agrees (named.steps_of (name_of c.name)) (named.steps_of (name_of d.name))) _ (λ a.
        (λ i. fits (steps_same c.name i) (steps_same d.name i)) ∙ sym (closed (steps_of c.name) (steps_of d.name)) ∙ (λ i. agrees (sym (steps_same c.name) i) (sym (steps_same d.name) i)) ∙ a));
    keeps = λ w. kept cs (term.Cell place n) (named.steps_of (name_of c.name)) pattern-is (λ m d f h. ap (rooted_input cs) (alone n m (cell_of c) d there f h) ∙ dry w);
  }
    where
      viewed : (cells : List Cell) (n : ℕ) → slice_get cells n ≡ Some c → slice_get (map cell_of cells) n ≡ Some (cell_of c)
      viewed [] n e = absurd cc
      viewed (x ∷ cells) zero e = ap (λ y. Some (cell_of y)) (same_some e)
      viewed (x ∷ cells) (suc n) e = viewed cells n e

      there : slice_get cs n ≡ Some (cell_of c)
      there = viewed g.cells.now n e

      pattern-is : pattern cs (term.Cell place n) ≡ Some (named.steps_of (name_of c.name))
      pattern-is = ap (option_map (λ (d : program.Cell). named.steps_of d.name)) there

-- ---- a name that no cell has

abbrev NoneOn : List NameStep → ℕ → List Cell → Cell → Type 0
NoneOn ss n cells c = (k : ℕ) → first_cell false ss (n + 1) cells ≡ None → first_cell true ss (n + 1) cells ≡ None → slice_get cells k ≡ Some c → same_list ss (steps_of c.name) ≡ false

-- a cell of a list has not the name of which the list has none, be it a pointer or not
none_at : (ss : List NameStep) (n : ℕ) (cells : List Cell) (k : ℕ) (c : Cell) → first_cell false ss n cells ≡ None → first_cell true ss n cells ≡ None → slice_get cells k ≡ Some c → same_list ss (steps_of c.name) ≡ false
none_at ss n [] k c a b e = absurd cc
none_at ss n (x ∷ cells) k c a b e = by (is_pointer_cell x.sort) refl (same_list ss (steps_of x.name)) refl a b k e (λ k a b e. none_at ss (n + 1) cells k c a b e)
  where
    some : {A : Type 0} {a b : A} → Some a ≡ Some b → a ≡ b
    some e = cc

    here-or-on : same_list ss (steps_of x.name) ≡ false → first_cell false ss (n + 1) cells ≡ None → first_cell true ss (n + 1) cells ≡ None → (k : ℕ) → slice_get (x ∷ cells) k ≡ Some c → NoneOn ss n cells c → same_list ss (steps_of c.name) ≡ false
    here-or-on s a b zero e on = ap (λ (d : Cell). same_list ss (steps_of d.name)) (sym (some e)) ∙ s
    here-or-on s a b (suc k) e on = on k a b e

    by : (p : Bool) → is_pointer_cell x.sort ≡ p → (s : Bool) → same_list ss (steps_of x.name) ≡ s → (if is_same false p && s then Some n else first_cell false ss (n + 1) cells) ≡ None → (if is_same true p && s then Some n else first_cell true ss (n + 1) cells) ≡ None
        → (k : ℕ) → slice_get (x ∷ cells) k ≡ Some c → NoneOn ss n cells c → same_list ss (steps_of c.name) ≡ false
    by true p true s a b k e on = absurd cc
    by false p true s a b k e on = absurd cc
    by true p false s a b k e on = here-or-on s a b k e on
    by false p false s a b k e on = here-or-on s a b k e on

each_at : (f : program.Cell → Bool) (cells : List Cell) → ((k : ℕ) (c : Cell) → slice_get cells k ≡ Some c → f (cell_of c) ≡ true) → list_all f (map cell_of cells) ≡ true
each_at f [] h = refl
each_at f (c ∷ cells) h = both (f (cell_of c)) (list_all f (map cell_of cells)) (h 0 c refl) (each_at f cells (λ k d e. h (suc k) d e))

module _ (g : Ground) (ground : IsGround g) (test : Test) (place : Place) (name : CellName) (whole : name.local ≡ None → name.indices ≡ []) (free : is_unnamed g.places.now name ≡ true) where
  is-none : (o : Option ℕ) → not (is_some o) ≡ true → o ≡ None
  is-none None e = refl
  is-none (Some n) e = absurd cc

  no-cell : first_cell false (steps_of name) 0 g.cells.now ≡ None
  no-cell = sym (ground.table.cells_by (steps_of name))
      ∙ (ap (λ o. option_and_then (λ (at : Spot). option_and_then cell_in (slice_get g.places.now.named.items at.0)) o) (name_walk g.places.now name whole)
      ∙ is-none (option_and_then (Rattle.scc_core.specs.Names.cell_at g.places.now) (name_spot g.places.now name)) (first _ (not (is_some (option_and_then (pointer_at g.places.now) (name_spot g.places.now name)))) free))

  no-pointer : first_cell true (steps_of name) 0 g.cells.now ≡ None
  no-pointer = sym (ground.table.pointers_by (steps_of name))
      ∙ (ap (λ o. option_and_then (λ (at : Spot). option_and_then pointer_in (slice_get g.places.now.named.items at.0)) o) (name_walk g.places.now name whole)
      ∙ is-none (option_and_then (pointer_at g.places.now) (name_spot g.places.now name)) (second (not (is_some (option_and_then (Rattle.scc_core.specs.Names.cell_at g.places.now) (name_spot g.places.now name)))) _ free))

  -- the name fits no cell's
  other : (k : ℕ) (c : Cell) → slice_get g.cells.now k ≡ Some c → fits (named.steps_of (name_of name)) (named.steps_of (name_of c.name)) ≡ false
  other k c e = (λ i. fits (steps_same name i) (steps_same c.name i)) ∙ fits_same (steps_of name) (steps_of c.name) ∙ none_at (steps_of name) 0 g.cells.now k c no-cell no-pointer e

  apart-from : (k : ℕ) (c : Cell) → slice_get g.cells.now k ≡ Some c → agrees (named.steps_of (name_of name)) (named.steps_of (name_of c.name)) ≡ false
  apart-from k c e = (λ i. agrees (steps_same name i) (steps_same c.name i)) ∙ closed (steps_of name) (steps_of c.name) ∙ (λ i. fits (sym (steps_same name) i) (sym (steps_same c.name) i)) ∙ other k c e

  none-agrees : (f : program.Cell → Bool) → all_agreeing (here g) f (Some (named.steps_of (name_of name))) ≡ true
  none-agrees f = each_at (λ c. not (agrees (named.steps_of (name_of name)) (named.steps_of c.name)) || f c) g.cells.now (λ k c e. ap (λ b. not b || f (cell_of c)) (apart-from k c e))

  alone_passes : is_name (mine g) (name_of name) ≡ true → IsLeft g test (term.Prefix place (name_of name))
  alone_passes n = record {
    fits = n;
    named = none-agrees (asks test);
    sized = none-agrees (completed (Some (named.steps_of (name_of name))));
    keeps = λ w. kept (here g) (term.Prefix place (name_of name)) (named.steps_of (name_of name)) refl (λ m c e f.
        let v = view_of g.cells.now m c e in
        absurd (let y : true ≡ false = sym f ∙ (ap (λ (d : program.Cell). fits (named.steps_of (name_of name)) (named.steps_of d.name)) (sym v.2) ∙ other m v.0 v.1) in cc));
  }

none_passes : (g : Ground) → IsGround g → (test : Test) (place : Place) (name : CellName) (ps : List CorePart) → (name.local ≡ None → name.indices ≡ []) → names_none g name ps ≡ true → is_name (mine g) (name_of name) ≡ true
    → IsLeft g test (to.extended (term.Prefix place (name_of name)) (map part_term ps))
none_passes g ground test place name [] whole e n = alone_passes g ground test place name whole e n
none_passes g ground test place name (p ∷ ps) whole e n = absurd cc

-- ---- what the looks say together

whole_of : (g : Ground) (name : CellName) → is_name (mine g) (name_of name) ≡ true → name.local ≡ None → name.indices ≡ []
whole_of g name e f = by name.indices (sym (ap (λ o. is_name (mine g) (record { path = map Rattle.scc_core_view.specs.Terms.part_of name.path; own = Rattle.scc_core_view.specs.Terms.own_of o; indices = name.indices })) f) ∙ e)
  where
    by : (is : List ℕ) → Rattle.scc_core_spec.specs.Fit.is_nil is ≡ true → is ≡ []
    by [] e = refl
    by (i ∷ is) e = absurd cc

module _ (g : Ground) (ground : IsGround g) (test : Test) where
  pub front_told : (place : Place) (name : CellName) (ps : List CorePart) (called pass named fit outer : Bool) → (called ≡ true → is_name (mine g) (name_of name) ≡ true) → (pass ≡ true → front_passes g name ps test ≡ true) → named ≡ (called && pass)
      → (fit ≡ true → list_all (part_fits g) ps ≡ true) → outer ≡ (named && fit) → outer ≡ true → IsLeft g test (to.extended (term.Prefix place (name_of name)) (map part_term ps))
  front_told place name ps called pass named fit outer a b c e f t =
      let t2 : (named && fit) ≡ true = sym f ∙ t in
      let t3 : (called && pass) ≡ true = sym c ∙ first named fit t2 in
      let n = a (first called pass t3) in
      by (begins_open ps) refl n (e (second named fit t2)) (b (second called pass t3))
    where
      by : (b : Bool) → begins_open ps ≡ b → is_name (mine g) (name_of name) ≡ true → list_all (part_fits g) ps ≡ true → (if b then passes (here g) g.rows.now name ps test else names_none g name ps) ≡ true → IsLeft g test (to.extended (term.Prefix place (name_of name)) (map part_term ps))
      by true is n h p = front_passes_all g ground test place name ps (whole_of g name n) is p n h
      by false is n h p = none_passes g ground test place name ps (whole_of g name n) p n

  pub cell_told : (place : Place) (n : ℕ) (c : Cell) (called ask dry told outer : Bool) → slice_get g.cells.now n ≡ Some c → (called ≡ true → is_name (mine g) (name_of c.name) ≡ true) → ask ≡ asked test (seen_of (cell_of c))
      → (dry ≡ true → writes test ≡ true → rooted_input (here g) (cell_of c) ≡ false) → told ≡ (ask && dry) → outer ≡ (called && told) → outer ≡ true → IsLeft g test (term.Cell place n)
  cell_told place n c called ask dry told outer is a b d e f t =
      let t1 : (called && told) ≡ true = sym f ∙ t in
      let t2 : (ask && dry) ≡ true = sym e ∙ second called told t1 in
      cell_passes g ground test place n c is (a (first called told t1)) (sym b ∙ first ask dry t2) (d (second ask dry t2))
