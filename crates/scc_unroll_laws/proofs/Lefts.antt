-- Locations with and without parts.
use Rattle.std.proofs.Common.{◌≡◌, refl, sym, ap, ◌∙◌, arith, ℕ, suc, Bool, true, false, nat_eq, length, List, [], ◌∷◌, map, slice_get, Option, Some, None, option_map, option_and_then}
use Rattle.std.proofs.lemmas.Bool.Decides.{nat_tests}
use Rattle.std.proofs.lemmas.Option.{slice_get-map}
use Rattle.scc_base.specs.declared.refusal.Place.{Place}
use Rattle.scc_core.specs.declared.expr.CoreExpr.{CoreExpr}
use Rattle.scc_core.specs.declared.expr.CoreExprNode.{CoreExprNode}
use Rattle.scc_core.specs.declared.expr.CoreLeft.{CoreLeft, fold_out-CoreLeft}
use Rattle.scc_core.specs.declared.expr.CoreBase.{CoreBase, roll-CoreBase, map-CoreBase, fold-roll-CoreBase}
use Rattle.scc_core.specs.declared.expr.CoreBase.TheVariants as base
use Rattle.scc_core.specs.declared.expr.CorePart.{CorePart, out-CorePart, map-CorePart, fold_out-CorePart}
use Rattle.scc_core.specs.declared.expr.CorePick.{CorePick}
use Rattle.scc_core.specs.declared.expr.CoreBase.TheOpen.{CoreBase-F, CorePart-F}
use Rattle.scc_core.specs.declared.expr.CoreBase.TheOpen as tree
use Rattle.scc_core.specs.declared.program.Cell.{Cell as Held}
use Rattle.scc_core.specs.declared.program.CellName.{CellName}
use Rattle.scc_core_view.specs.Programs.{cell_of}
use Rattle.scc_core_view.specs.Terms.{name_of, term_of, taken_of}
use Rattle.scc_core_view.specs.Terms as to
use Rattle.scc_unroll_laws.proofs.Trees.{term_node, term_base, term_part, term_pick}
use Rattle.scc_core_spec.specs.Term.{Term, Left, Cell, Prefix, Null, Follow, Member, Index}
use Rattle.scc_core_spec.specs.Static.{Cells}
use Rattle.scc_core_spec.specs.Program as program
use Rattle.scc_core_spec.specs.Counted.{own_at, own_of, is_cell}

abbrev is_part : Left → Bool
is_part (Member l n) = true
is_part (Index l size e) = true
is_part _ = false

one_part : (x : CorePart) (l : Left) → is_part (term_part x l) ≡ true
one_part x l =
    ap (λ f. is_part (f l)) (fold_out-CorePart to.Base to.Node (Left → Left) to.Picking Term to.Taken to.base_node to.expr_node to.part_node to.pick_node to.expr_step to.left_step x)
    ∙ by (out-CorePart x)
  where
    by : (y : CorePart-F CoreBase CoreExprNode CorePart CorePick CoreExpr CoreLeft)
        → is_part (to.part_node (map-CorePart CoreBase CoreExprNode CorePart CorePick CoreExpr CoreLeft to.Base to.Node (Left → Left) to.Picking Term to.Taken term_base term_node term_part term_pick term_of taken_of y) l) ≡ true
    by (tree.Member n) = refl
    by (tree.Index size i) = refl

more_parts : (ps : List CorePart) (l : Left) → is_part l ≡ true → is_part (to.extended l (map term_part ps)) ≡ true
more_parts [] l h = h
more_parts (x ∷ ps) l h = more_parts ps (term_part x l) (one_part x l)

taken : (l : CoreLeft) → (taken_of l).left ≡ to.extended (term_base l.base l.place) (map term_part l.parts)
taken l = ap (λ t. t.left) (fold_out-CoreLeft to.Base to.Node (Left → Left) to.Picking Term to.Taken to.base_node to.expr_node to.part_node to.pick_node to.expr_step to.left_step l)

parts_are : (b : CoreBase) (p : Place) (ps : List CorePart) → nat_eq (length ps) 0 ≡ false → is_part (to.extended (term_base b p) (map term_part ps)) ≡ true
parts_are b p [] h = cc h
parts_are b p (x ∷ ps) h = more_parts ps (term_part x (term_base b p)) (one_part x (term_base b p))

part_has_none : (cs : Cells) (l : Left) → is_part l ≡ true → own_at cs l ≡ None
part_has_none cs (Cell p n) h = cc h
part_has_none cs (Prefix p n) h = cc h
part_has_none cs (Null p) h = refl
part_has_none cs (Follow p s l) h = refl
part_has_none cs (Member l n) h = refl
part_has_none cs (Index l size e) h = refl

part_is_none : (n : ℕ) (l : Left) → is_part l ≡ true → is_cell n l ≡ false
part_is_none n (Cell p m) h = cc h
part_is_none n (Prefix p m) h = refl
part_is_none n (Null p) h = refl
part_is_none n (Follow p s l) h = refl
part_is_none n (Member l m) h = refl
part_is_none n (Index l size e) h = refl

-- a location with parts is no local and no cell
pub no_own : (cs : Cells) (l : CoreLeft) → nat_eq (length l.parts) 0 ≡ false → own_at cs (taken_of l).left ≡ None
no_own cs l h = part_has_none cs (taken_of l).left (ap is_part (taken l) ∙ parts_are l.base l.place l.parts h)

pub no_cell : (n : ℕ) (l : CoreLeft) → nat_eq (length l.parts) 0 ≡ false → is_cell n (taken_of l).left ≡ false
no_cell n l h = part_is_none n (taken_of l).left (ap is_part (taken l) ∙ parts_are l.base l.place l.parts h)

-- ---- a location without parts is its base

never : (n : ℕ) → false ≡ nat_eq (suc n) 0
never n = grind (arith, nat_tests)

none_behind : (l : Left) (ps : List CorePart) → nat_eq (length ps) 0 ≡ true → to.extended l (map term_part ps) ≡ l
none_behind l [] h = refl
none_behind l (x ∷ ps) h = let p : false ≡ true = never (length ps) ∙ h in absurd (cc p)

abbrev own_in : Option program.Cell → Option ℕ
own_in o = option_and_then (λ c. own_of c.name) o

held_own : (cells : List Held) (n : ℕ) → own_in (slice_get (map cell_of cells) n) ≡ option_and_then (λ c. own_of (name_of c.name)) (slice_get cells n)
held_own cells n = ap own_in (slice_get-map cell_of cells n) ∙ by (slice_get cells n)
  where
    by : (o : Option Held) → own_in (option_map cell_of o) ≡ option_and_then (λ c. own_of (name_of c.name)) o
    by None = refl
    by (Some c) = refl

module _ (l : CoreLeft) (h : nat_eq (length l.parts) 0 ≡ true) where
  whole : (x : CoreBase-F CoreBase CoreExprNode CorePart CorePick CoreExpr CoreLeft) → l.base ≡ roll-CoreBase x
      → (taken_of l).left ≡ to.base_node (map-CoreBase CoreBase CoreExprNode CorePart CorePick CoreExpr CoreLeft to.Base to.Node (Left → Left) to.Picking Term to.Taken term_base term_node term_part term_pick term_of taken_of x) l.place
  whole x is =
      taken l ∙ none_behind (term_base l.base l.place) l.parts h ∙ ap (λ b. term_base b l.place) is
      ∙ ap (λ f. f l.place) (fold-roll-CoreBase to.Base to.Node (Left → Left) to.Picking Term to.Taken to.base_node to.expr_node to.part_node to.pick_node to.expr_step to.left_step x)

  pub own_from_cell : (cells : List Held) (n : ℕ) → l.base ≡ base.Cell n → own_at (map cell_of cells) (taken_of l).left ≡ option_and_then (λ c. own_of (name_of c.name)) (slice_get cells n)
  own_from_cell cells n is = ap (own_at (map cell_of cells)) (whole (tree.Cell n) (is ∙ sym (base.rolls-Cell n))) ∙ held_own cells n

  pub own_from_front : (cs : Cells) (name : CellName) → l.base ≡ base.Prefix name → own_at cs (taken_of l).left ≡ own_of (name_of name)
  own_from_front cs name is = ap (own_at cs) (whole (tree.Prefix name) (is ∙ sym (base.rolls-Prefix name)))

  pub own_from_null : (cs : Cells) → l.base ≡ base.Null → own_at cs (taken_of l).left ≡ None
  own_from_null cs is = ap (own_at cs) (whole tree.Null (is ∙ sym base.rolls-Null))
