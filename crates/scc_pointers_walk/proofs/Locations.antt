-- Names and members of locations are those of the definitions.
use Rattle.std.proofs.Common.{◌≡◌, refl, sym, ap, ◌∙◌, arith, ℕ, suc, Bool, true, false, not, nat_eq, if◌then◌else◌, List, [], ◌∷◌, ◌++◌, map, length, slice_get, Option, Some, None, option_map, is_some, unwrap_or}
use Rattle.std.proofs.lemmas.Option.{slice_get-map}
use Rattle.std.proofs.lemmas.Bool.Decides.{nat_tests}
use Rattle.scc_base.specs.declared.names.Name.{Name}
use Rattle.scc_base.specs.declared.path.PathPart.{PathPart}
use Rattle.scc_base.specs.declared.path.PathPart.TheVariants as path_part
use Rattle.scc_base.specs.declared.refusal.Place.{Place}
use Rattle.scc_core.specs.declared.expr.CoreExpr.{CoreExpr}
use Rattle.scc_core.specs.declared.expr.CoreExprNode.{CoreExprNode}
use Rattle.scc_core.specs.declared.expr.CoreLeft.{CoreLeft, fold_out-CoreLeft}
use Rattle.scc_core.specs.declared.expr.CoreBase.{CoreBase, roll-CoreBase, out-CoreBase, map-CoreBase, fold_out-CoreBase}
use Rattle.scc_core.specs.declared.expr.CorePart.{CorePart, roll-CorePart, out-CorePart, map-CorePart, fold_out-CorePart}
use Rattle.scc_core.specs.declared.expr.CorePick.{CorePick}
use Rattle.scc_core.specs.declared.expr.CoreBase.TheOpen.{CoreBase-F, CorePart-F}
use Rattle.scc_core.specs.declared.expr.CoreBase.TheOpen as tree
use Rattle.scc_core.specs.declared.program.Cell.{Cell}
use Rattle.scc_core.specs.declared.program.CellName.{CellName}
use Rattle.scc_core_spec.specs.Fold as fold
use Rattle.scc_core_spec.specs.Program.{Vector}
use Rattle.scc_core_spec.specs.Static.{Cells}
use Rattle.scc_core_spec.specs.Term.{Term, Left}
use Rattle.scc_core_spec.specs.Term as term
use Rattle.scc_core_view.specs.Programs.{cell_of, vector_of}
use Rattle.scc_core_view.specs.Terms.{name_of, own_of, part_of, term_of, taken_of}
use Rattle.scc_core_view.specs.Terms as to
use Rattle.scc_pointers_walk.specs.declared.held.Resolver.{Resolver}
use Rattle.scc_pointers_walk.specs.Led.{left_of}
use Rattle.scc_pointers_walk.specs.Located.{BaseLayer, as_name, cell_or_name, grown, longer, longer_by, longer_in, member_behind, member_in, member_on, named_base, named_in, with_base, with_more}
use Rattle.scc_pointers_walk.proofs.Terms.{PartLayer, term_node, term_base, term_part, term_pick, base_term, part_term}

-- ---- locations with and without parts

abbrev pub is_part : Left → Bool
is_part (term.Member l n) = true
is_part (term.Index l size e) = true
is_part _ = false

abbrev pub seen_base : BaseLayer → to.Base
seen_base y = to.base_node (map-CoreBase CoreBase CoreExprNode CorePart CorePick CoreExpr CoreLeft to.Base to.Node (Left → Left) to.Picking Term to.Taken term_base term_node term_part term_pick term_of taken_of y)

abbrev pub seen_part : PartLayer → Left → Left
seen_part y = to.part_node (map-CorePart CoreBase CoreExprNode CorePart CorePick CoreExpr CoreLeft to.Base to.Node (Left → Left) to.Picking Term to.Taken term_base term_node term_part term_pick term_of taken_of y)

pub base_is : (b : CoreBase) → term_base b ≡ seen_base (out-CoreBase b)
base_is b = fold_out-CoreBase to.Base to.Node (Left → Left) to.Picking Term to.Taken to.base_node to.expr_node to.part_node to.pick_node to.expr_step to.left_step b

pub part_is : (x : CorePart) → term_part x ≡ seen_part (out-CorePart x)
part_is x = fold_out-CorePart to.Base to.Node (Left → Left) to.Picking Term to.Taken to.base_node to.expr_node to.part_node to.pick_node to.expr_step to.left_step x

pub left_is : (l : CoreLeft) → left_of l ≡ to.extended (term_base l.base l.place) (map term_part l.parts)
left_is l = ap (λ t. t.left) (fold_out-CoreLeft to.Base to.Node (Left → Left) to.Picking Term to.Taken to.base_node to.expr_node to.part_node to.pick_node to.expr_step to.left_step l)

one_part : (x : CorePart) (l : Left) → is_part (term_part x l) ≡ true
one_part x l = ap (λ f. is_part (f l)) (part_is x) ∙ by (out-CorePart x)
  where
    by : (y : PartLayer) → is_part (seen_part y l) ≡ true
    by (tree.Member n) = refl
    by (tree.Index size i) = refl

more_parts : (ps : List CorePart) (l : Left) → is_part l ≡ true → is_part (to.extended l (map term_part ps)) ≡ true
more_parts [] l h = h
more_parts (x ∷ ps) l h = more_parts ps (term_part x l) (one_part x l)

parts_are : (b : CoreBase) (p : Place) (ps : List CorePart) → nat_eq (length ps) 0 ≡ false → is_part (to.extended (term_base b p) (map term_part ps)) ≡ true
parts_are b p [] h = cc h
parts_are b p (x ∷ ps) h = more_parts ps (term_part x (term_base b p)) (one_part x (term_base b p))

not_none : (n : ℕ) → nat_eq (suc n) 0 ≡ false
not_none n = grind (arith, nat_tests)

no_parts : (ps : List CorePart) → nat_eq (length ps) 0 ≡ true → ps ≡ []
no_parts [] h = refl
no_parts (x ∷ ps) h = let e : false ≡ true = sym (not_none (length ps)) ∙ h in absurd cc

-- a location without parts is its base
pub alone : (l : CoreLeft) → nat_eq (length l.parts) 0 ≡ true → left_of l ≡ seen_base (out-CoreBase l.base) l.place
alone l h = left_is l ∙ ap (λ ps. to.extended (term_base l.base l.place) (map term_part ps)) (no_parts l.parts h) ∙ ap (λ f. f l.place) (base_is l.base)

pub parted : (l : CoreLeft) → nat_eq (length l.parts) 0 ≡ false → is_part (left_of l) ≡ true
parted l h = ap is_part (left_is l) ∙ parts_are l.base l.place l.parts h

pub out_cell : (n : ℕ) → out-CoreBase (roll-CoreBase (tree.Cell n)) ≡ tree.Cell n
unfolding out-CoreBase denote.Hole.Carrier.out roll-CoreBase denote.Hole.Carrier.roll
out_cell n = refl

pub out_prefix : (name : CellName) → out-CoreBase (roll-CoreBase (tree.Prefix name)) ≡ tree.Prefix name
unfolding out-CoreBase denote.Hole.Carrier.out roll-CoreBase denote.Hole.Carrier.roll
out_prefix name = refl

extended_more : (l : Left) (fs : List (Left → Left)) (f : Left → Left) → to.extended l (fs ++ f ∷ []) ≡ f (to.extended l fs)
extended_more l [] f = refl
extended_more l (g ∷ fs) f = extended_more (g l) fs f

map_more : {A B : Type 0} (f : A → B) (xs : List A) (x : A) → map f (xs ++ x ∷ []) ≡ map f xs ++ f x ∷ []
map_more f [] x = refl
map_more f (y ∷ xs) x = ap (λ l. f y ∷ l) (map_more f xs x)

pub more_is : (l : CoreLeft) (x : PartLayer) → left_of (with_more l (roll-CorePart x)) ≡ seen_part x (left_of l)
more_is l x =
    left_is (with_more l (roll-CorePart x))
    ∙ ap (to.extended (term_base l.base l.place)) (map_more term_part l.parts (roll-CorePart x))
    ∙ extended_more (term_base l.base l.place) (map term_part l.parts) (term_part (roll-CorePart x))
    ∙ ap (λ f. f (to.extended (term_base l.base l.place) (map term_part l.parts))) (part_term x)
    ∙ ap (seen_part x) (sym (left_is l))

-- ---- longer names

longer_path : (path : List PathPart) (p : PathPart) (own : Option term.Own) (is : List ℕ)
    → ◌≡◌ {A = term.CellName} (record { path = map part_of (path ++ p ∷ []); own = own; indices = is }) (record { path = map part_of path ++ part_of p ∷ []; own = own; indices = is })
longer_path path p own is = ap (λ z. record { path = z; own = own; indices = is }) (map_more part_of path p)

pub longer_is : (name : CellName) (p : PathPart) → name_of (longer name p) ≡ fold.extended (name_of name) (part_of p)
longer_is name p = by name.local refl p
  where
    by : (o : Option (ℕ × Name)) → name.local ≡ o → (p : PathPart) → name_of (longer_by name o p) ≡ fold.extended (record { path = map part_of name.path; own = own_of o; indices = name.indices }) (part_of p)
    by None e p = ap (λ o. record { path = map part_of (name.path ++ p ∷ []); own = own_of o; indices = name.indices }) e ∙ longer_path name.path p None name.indices
    by (Some l) e (path_part.Member m) = ap (λ o. record { path = map part_of (name.path ++ path_part.Member m ∷ []); own = own_of o; indices = name.indices }) e ∙ longer_path name.path (path_part.Member m) (own_of (Some l)) name.indices
    by (Some l) e (path_part.Index i) = ap (λ o. record { path = map part_of name.path; own = own_of o; indices = name.indices ++ i ∷ [] }) e

-- ---- names of cells, and members

module _ (r : Resolver) where
  abbrev pub cs : Cells
  cs = map cell_of r.known.cells.now

  abbrev pub vs : List Vector
  vs = map vector_of r.vectors.now

  part_name : (l : Left) → is_part l ≡ true → fold.as_name cs vs l ≡ l
  part_name (term.Cell p n) h = cc h
  part_name (term.Prefix p n) h = refl
  part_name (term.Null p) h = refl
  part_name (term.Follow p s l) h = refl
  part_name (term.Member l n) h = refl
  part_name (term.Index l size e) h = refl

  base_name : (b : CoreBase) (p : Place) → term_base (named_base r b) p ≡ fold.as_name cs vs (term_base b p)
  base_name b p = by (out-CoreBase b) ∙ ap (λ f. fold.as_name cs vs (f p)) (sym (base_is b))
    where
      cells : (n : ℕ) (o : Option Cell) → term_base (cell_or_name n (option_map (λ c. c.name) o)) p ≡ unwrap_or (option_map (λ c. term.Prefix p c.name) (option_map cell_of o)) (term.Cell p n)
      cells n None = ap (λ f. f p) (base_term (tree.Cell n))
      cells n (Some c) = ap (λ f. f p) (base_term (tree.Prefix c.name))

      by : (y : BaseLayer) → term_base (named_in r y) p ≡ fold.as_name cs vs (seen_base y p)
      by (tree.Cell n) = cells n (slice_get r.known.cells.now n) ∙ ap (λ o. unwrap_or (option_map (λ c. term.Prefix p c.name) o) (term.Cell p n)) (sym (slice_get-map cell_of r.known.cells.now n))
      by (tree.Prefix name) = ap (λ f. f p) (base_term (tree.Prefix name))
      by (tree.Follow l soft) = ap (λ f. f p) (base_term (tree.Follow l soft))
      by tree.Null = ap (λ f. f p) (base_term tree.Null)

  pub as_name_is : (l : CoreLeft) → left_of (as_name r l) ≡ fold.as_name cs vs (left_of l)
  as_name_is l = by (nat_eq (length l.parts) 0) refl
    where
      by : (t : Bool) → nat_eq (length l.parts) 0 ≡ t → left_of (if t then with_base l (named_base r l.base) else l) ≡ fold.as_name cs vs (left_of l)
      by true e =
          left_is (with_base l (named_base r l.base))
          ∙ ap (λ ps. to.extended (term_base (named_base r l.base) l.place) (map term_part ps)) (no_parts l.parts e)
          ∙ base_name l.base l.place
          ∙ ap (fold.as_name cs vs) (sym (left_is l ∙ ap (λ ps. to.extended (term_base l.base l.place) (map term_part ps)) (no_parts l.parts e)))
      by false e = sym (part_name (left_of l) (parted l e))

  part_member : (l : Left) → is_part l ≡ true → (n : ℕ) → fold.member_of cs vs l n ≡ term.Member l n
  part_member (term.Cell p m) h n = refl
  part_member (term.Prefix p m) h n = cc h
  part_member (term.Null p) h n = refl
  part_member (term.Follow p s l) h n = refl
  part_member (term.Member l m) h n = refl
  part_member (term.Index l size e) h n = refl

  -- a location of a name alone
  pub grown_is : (l : CoreLeft) (name : CellName) (p : PathPart) → nat_eq (length l.parts) 0 ≡ true → out-CoreBase l.base ≡ tree.Prefix name → left_of (grown l p) ≡ term.Prefix l.place (fold.extended (name_of name) (part_of p))
  grown_is l name p e h =
      alone (grown l p) e
      ∙ ap (λ y. seen_base (out-CoreBase (longer_in y p)) l.place) h
      ∙ ap (λ y. seen_base y l.place) (out_prefix (longer name p))
      ∙ ap (term.Prefix l.place) (longer_is name p)

  member_on_is : (l : CoreLeft) (n : Name) → left_of (member_on l n) ≡ fold.member_of cs vs (left_of l) n.0
  member_on_is l n = by (out-CoreBase l.base) refl (nat_eq (length l.parts) 0) refl
    where
      plain : left_of (with_more l (roll-CorePart (tree.Member n))) ≡ term.Member (left_of l) n.0
      plain = more_is l (tree.Member n)

      other : (y : BaseLayer) → nat_eq (length l.parts) 0 ≡ true → out-CoreBase l.base ≡ y → fold.member_of cs vs (seen_base y l.place) n.0 ≡ term.Member (seen_base y l.place) n.0
          → left_of (with_more l (roll-CorePart (tree.Member n))) ≡ fold.member_of cs vs (left_of l) n.0
      other y e h g =
          let s : left_of l ≡ seen_base y l.place = alone l e ∙ ap (λ y. seen_base y l.place) h in
          plain ∙ ap (λ z. term.Member z n.0) s ∙ sym g ∙ ap (λ z. fold.member_of cs vs z n.0) (sym s)

      named : (name : CellName) → nat_eq (length l.parts) 0 ≡ true → out-CoreBase l.base ≡ tree.Prefix name → (o : Option (ℕ × Name)) → name.local ≡ o
          → left_of (if not (is_some o) then grown l (path_part.Member n) else with_more l (roll-CorePart (tree.Member n))) ≡ fold.member_of cs vs (left_of l) n.0
      named name e h None k =
          grown_is l name (path_part.Member n) e h
          ∙ ap (λ o. fold.member_behind cs vs l.place (name_of name) (own_of o) n.0) (sym k)
          ∙ ap (λ z. fold.member_of cs vs z n.0) (sym (alone l e ∙ ap (λ y. seen_base y l.place) h))
      named name e h (Some x) k = other (tree.Prefix name) e h (ap (λ o. fold.member_behind cs vs l.place (name_of name) (own_of o) n.0) k)

      by : (y : BaseLayer) → out-CoreBase l.base ≡ y → (t : Bool) → nat_eq (length l.parts) 0 ≡ t
          → left_of (if member_behind y t then grown l (path_part.Member n) else with_more l (roll-CorePart (tree.Member n))) ≡ fold.member_of cs vs (left_of l) n.0
      by (tree.Cell m) h true e = other (tree.Cell m) e h refl
      by (tree.Cell m) h false e = plain ∙ sym (part_member (left_of l) (parted l e) n.0)
      by (tree.Prefix name) h true e = named name e h name.local refl
      by (tree.Prefix name) h false e = plain ∙ sym (part_member (left_of l) (parted l e) n.0)
      by (tree.Follow m soft) h true e = other (tree.Follow m soft) e h refl
      by (tree.Follow m soft) h false e = plain ∙ sym (part_member (left_of l) (parted l e) n.0)
      by tree.Null h true e = other tree.Null e h refl
      by tree.Null h false e = plain ∙ sym (part_member (left_of l) (parted l e) n.0)

  pub member_is : (l : CoreLeft) (n : Name) → left_of (member_in r l n) ≡ fold.member_of cs vs (fold.as_name cs vs (left_of l)) n.0
  member_is l n = member_on_is (as_name r l) n ∙ ap (λ z. fold.member_of cs vs z n.0) (as_name_is l)
