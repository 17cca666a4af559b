-- What a location may name, by what the code finds of its indices.
use Rattle.std.proofs.Common.{◌≡◌, refl, sym, ap, ◌∙◌, arith, ℕ, ◌<◌, ◌≤◌, Bool, true, false, ◌&&◌, ◌||◌, nat_eq, nat_lt, if◌then◌else◌, List, [], ◌∷◌, ◌++◌, map, length, slice_get, Option, Some, None, option_map, option_and_then, is_some, unwrap_or, append_assoc}
use Rattle.std.specs.List.{list_any}
use Rattle.std.proofs.lemmas.Option.{slice_get-map}
use Rattle.std.proofs.lemmas.Bool.Decides.{nat_tests}
use Rattle.scc_base.specs.declared.path.PathPart.TheVariants as path_part
use Rattle.scc_base.specs.declared.refusal.Place.{Place}
use Rattle.scc_bits.specs.Value.{Number}
use Rattle.scc_core.specs.declared.expr.CoreExpr.{CoreExpr}
use Rattle.scc_core.specs.declared.expr.CoreExprNode.{CoreExprNode, fold-CoreExprNode}
use Rattle.scc_core.specs.declared.expr.CorePick.{CorePick}
use Rattle.scc_core.specs.declared.expr.CoreLeft.{CoreLeft}
use Rattle.scc_core.specs.declared.expr.CoreBase.{CoreBase, out-CoreBase, fold-CoreBase}
use Rattle.scc_core.specs.declared.expr.CorePart.{CorePart, roll-CorePart, out-CorePart, map-CorePart, fold_out-CorePart}
use Rattle.scc_core.specs.declared.expr.CoreBase.TheOpen as tree
use Rattle.scc_core.specs.declared.program.Cell.{Cell}
use Rattle.scc_core.specs.declared.program.CellName.{CellName}
use Rattle.scc_core.specs.Elements.{Part, Facts}
use Rattle.scc_core.specs.Elements as part
use Rattle.scc_core.specs.Known.{facts_in}
use Rattle.scc_core.specs.Numbers.{small}
use Rattle.scc_core.specs.Statics as statics
use Rattle.scc_core.specs.Statics.{part_in, value_in}
use Rattle.scc_semantics.specs.Location as location
use Rattle.scc_semantics.specs.Scene.{index_of}
use Rattle.scc_core_spec.specs.Fold as fold
use Rattle.scc_core_spec.specs.Named.{Step, Named, At, Ours, Open, chooses_object, is_open, own_steps, part_step, steps_of}
use Rattle.scc_core_spec.specs.Static.{grown, index_step, pattern, static}
use Rattle.scc_core_spec.specs.Term.{Term, Left, CellName as Name_of, Own, kind_of, place_at}
use Rattle.scc_core_spec.specs.Term as term
use Rattle.scc_core_view.specs.Programs.{cell_of}
use Rattle.scc_core_view.specs.Terms.{name_of, term_of}
use Rattle.scc_core_view.specs.Terms as to
use Rattle.scc_pointers_walk.specs.declared.held.Resolver.{Resolver}
use Rattle.scc_pointers_walk.specs.Led.{left_of}
use Rattle.scc_pointers_walk.specs.Located.{BaseLayer, chooses, element_on, element_at, grown as longer_left, index_behind, inside, is_chosen, is_one_of, name_at, name_in, seen, with_more}
use Rattle.scc_pointers_walk.specs.Located as located
use Rattle.scc_core_static_laws.specs.Indices.{Finds, unknown, number, past}
use Rattle.scc_pointers_walk.specs.Read.{IsFound, IsFoundPart, AreFound}
use Rattle.scc_pointers_walk.proofs.Terms.{PartLayer, term_base, term_part}
use Rattle.scc_pointers_walk.proofs.Locations.{alone, base_is, part_is, left_is, seen_base, seen_part, is_part, parted, more_is, grown_is, cs, vs}

-- ---- names are closed

open_append : (a b : List Step) → is_open (a ++ b) ≡ (is_open a || is_open b)
open_append [] b = refl
open_append (Named n ∷ a) b = open_append a b
open_append (At i ∷ a) b = open_append a b
open_append (Ours n ∷ a) b = open_append a b
open_append (Open size ∷ a) b = refl

pub data Closed : List Step → Type 0 where
  closed_end : Closed []
  closed_name : {s : List Step} (n : ℕ) → Closed s → Closed (Named n ∷ s)
  closed_at : {s : List Step} (i : ℕ) → Closed s → Closed (At i ∷ s)
  closed_ours : {s : List Step} (n : ℕ) → Closed s → Closed (Ours n ∷ s)

closed_indices : (i : List ℕ) → Closed (map At i)
closed_indices [] = closed_end
closed_indices (x ∷ i) = closed_at x (closed_indices i)

closed_own : (o : Option Own) (i : List ℕ) → Closed (own_steps o i)
closed_own None i = closed_end
closed_own (Some o) i = closed_ours o.number (closed_indices i)

closed_path : (q : List location.Part) (s : List Step) → Closed s → Closed (map part_step q ++ s)
closed_path [] s h = h
closed_path (location.Member n ∷ q) s h = closed_name n (closed_path q s h)
closed_path (location.Element i ∷ q) s h = closed_at i (closed_path q s h)

pub closed_is : (n : Name_of) → Closed (steps_of n)
closed_is n = closed_path n.path (own_steps n.own n.indices) (closed_own n.own n.indices)

pub open_behind : {a : List Step} → Closed a → (b : List Step) → is_open (a ++ b) ≡ is_open b
open_behind closed_end b = refl
open_behind (closed_name n h) b = open_behind h b
open_behind (closed_at i h) b = open_behind h b
open_behind (closed_ours n h) b = open_behind h b

pub choice_behind : {a : List Step} → Closed a → (b : List Step) → chooses_object (a ++ b) ≡ chooses_object b
choice_behind closed_end b = refl
choice_behind (closed_name n h) b = choice_behind h b
choice_behind (closed_at i h) b = choice_behind h b
choice_behind (closed_ours n h) b = choice_behind h b

-- ---- places

part_place : (x : CorePart) (l : Left) → place_at (term_part x l) ≡ place_at l
part_place x l = ap (λ f. place_at (f l)) (part_is x) ∙ by (out-CorePart x)
  where
    by : (y : PartLayer) → place_at (seen_part y l) ≡ place_at l
    by (tree.Member n) = refl
    by (tree.Index size e) = refl

parts_place : (ps : List CorePart) (l : Left) → place_at (to.extended l (map term_part ps)) ≡ place_at l
parts_place [] l = refl
parts_place (x ∷ ps) l = parts_place ps (term_part x l) ∙ part_place x l

pub place_is : (l : CoreLeft) → place_at (left_of l) ≡ l.place
place_is l = ap place_at (left_is l) ∙ parts_place l.parts (term_base l.base l.place) ∙ ap (λ f. place_at (f l.place)) (base_is l.base) ∙ by (out-CoreBase l.base)
  where
    by : (y : BaseLayer) → place_at (seen_base y l.place) ≡ l.place
    by (tree.Cell n) = refl
    by (tree.Prefix name) = refl
    by (tree.Follow m soft) = refl
    by tree.Null = refl

module _ (r : Resolver) where
  -- ---- what the code sees of parts

  abbrev pub seen_of : PartLayer → Part
  seen_of (tree.Member n) = part.Member n
  seen_of (tree.Index size e) = part.Element size (value_in (facts_in r.known) e)

  abbrev pub facts : Facts
  facts = facts_in r.known

  abbrev seen_by : PartLayer → Part
  seen_by y = statics.part_node (map-CorePart CoreBase CoreExprNode CorePart CorePick CoreExpr CoreLeft statics.Base statics.Node Part statics.Pick statics.Expr statics.Left
      (fold-CoreBase statics.Base statics.Node Part statics.Pick statics.Expr statics.Left (statics.base_node facts) statics.expr_node statics.part_node statics.pick_node statics.expr_step statics.left_step)
      (fold-CoreExprNode statics.Base statics.Node Part statics.Pick statics.Expr statics.Left (statics.base_node facts) statics.expr_node statics.part_node statics.pick_node statics.expr_step statics.left_step)
      (part_in facts) (statics.pick_in facts) (value_in facts) (statics.left_value facts) y)

  pub seen_is : (x : CorePart) → part_in (facts_in r.known) x ≡ seen_of (out-CorePart x)
  seen_is x =
      fold_out-CorePart statics.Base statics.Node Part statics.Pick statics.Expr statics.Left (statics.base_node (facts_in r.known)) statics.expr_node statics.part_node statics.pick_node statics.expr_step statics.left_step x
      ∙ by (out-CorePart x)
    where
      by : (y : PartLayer) → seen_by y ≡ seen_of y
      by (tree.Member n) = refl
      by (tree.Index size e) = refl

  abbrev pub step_by : ℕ → Option ℕ → Step
  step_by size None = Open size
  step_by size (Some i) = At i

  abbrev pub step_for : PartLayer → Step
  step_for (tree.Member n) = Named n.0
  step_for (tree.Index size e) = step_by size (fold.static_index (cs r) (vs r) (term_of e))

  abbrev pub steps : List CorePart → List Step
  steps ps = map (λ x. step_for (out-CorePart x)) ps

  index_is : (size : ℕ) (t : Term) → index_step size (kind_of t) (static (cs r) t) ≡ step_by size (fold.static_index (cs r) (vs r) t)
  index_is size t = by (static (cs r) t)
    where
      by : (o : Option ℕ) → index_step size (kind_of t) o ≡ step_by size (option_map (λ w. index_of (kind_of t) w) o)
      by None = refl
      by (Some w) = refl

  pattern_part : (x : CorePart) (l : Left) → pattern (cs r) (term_part x l) ≡ grown (pattern (cs r) l) (step_for (out-CorePart x))
  pattern_part x l = ap (λ f. pattern (cs r) (f l)) (part_is x) ∙ by (out-CorePart x)
    where
      by : (y : PartLayer) → pattern (cs r) (seen_part y l) ≡ grown (pattern (cs r) l) (step_for y)
      by (tree.Member n) = refl
      by (tree.Index size e) = ap (grown (pattern (cs r) l)) (index_is size (term_of e))

  abbrev pub longer_by : Option (List Step) → List Step → Option (List Step)
  longer_by o s = option_map (λ p. p ++ s) o

  longer_twice : (o : Option (List Step)) (x : Step) (s : List Step) → longer_by (grown o x) s ≡ longer_by o (x ∷ s)
  longer_twice None x s = refl
  longer_twice (Some p) x s = ap Some (append_assoc p (x ∷ []) s)

  longer_none : (o : Option (List Step)) → o ≡ longer_by o []
  longer_none None = refl
  longer_none (Some p) = ap Some (sym (nothing p))
    where
      nothing : (p : List Step) → p ++ [] ≡ p
      nothing [] = refl
      nothing (x ∷ p) = ap (λ l. x ∷ l) (nothing p)

  pattern_parts : (ps : List CorePart) (l : Left) → pattern (cs r) (to.extended l (map term_part ps)) ≡ longer_by (pattern (cs r) l) (steps ps)
  pattern_parts [] l = longer_none (pattern (cs r) l)
  pattern_parts (x ∷ ps) l = pattern_parts ps (term_part x l) ∙ ap (λ o. longer_by o (steps ps)) (pattern_part x l) ∙ longer_twice (pattern (cs r) l) (step_for (out-CorePart x)) (steps ps)

  abbrev pub name_steps : Option CellName → Option (List Step)
  name_steps o = option_map (λ n. steps_of (name_of n)) o

  pattern_base : (b : CoreBase) (p : Place) → pattern (cs r) (term_base b p) ≡ name_steps (name_at r b)
  pattern_base b p = ap (λ f. pattern (cs r) (f p)) (base_is b) ∙ by (out-CoreBase b)
    where
      cell : (o : Option Cell) → option_map (λ c. steps_of c.name) (option_map cell_of o) ≡ name_steps (option_map (λ c. c.name) o)
      cell None = refl
      cell (Some c) = refl

      by : (y : BaseLayer) → pattern (cs r) (seen_base y p) ≡ name_steps (name_in r y)
      by (tree.Cell n) = ap (option_map (λ c. steps_of c.name)) (slice_get-map cell_of r.known.cells.now n) ∙ cell (slice_get r.known.cells.now n)
      by (tree.Prefix name) = refl
      by (tree.Follow m soft) = refl
      by tree.Null = refl

  pub pattern_is : (l : CoreLeft) → pattern (cs r) (left_of l) ≡ longer_by (name_steps (name_at r l.base)) (steps l.parts)
  pattern_is l = ap (pattern (cs r)) (left_is l) ∙ pattern_parts l.parts (term_base l.base l.place) ∙ ap (λ o. longer_by o (steps l.parts)) (pattern_base l.base l.place)

  -- ---- open indices

  pub open_parts : (ps : List CorePart) → AreFound r ps → list_any located.is_open (seen r ps) ≡ is_open (steps ps)
  open_parts [] h = refl
  open_parts (x ∷ ps) h = ap (λ p. located.is_open p || list_any located.is_open (seen r ps)) (seen_is x) ∙ by (out-CorePart x) h.0 (open_parts ps h.1)
    where
      index : (size : ℕ) (v : Option Number) (i : Option ℕ) → Finds v i → list_any located.is_open (seen r ps) ≡ is_open (steps ps) → (located.is_open (part.Element size v) || list_any located.is_open (seen r ps)) ≡ is_open (step_by size i ∷ steps ps)
      index size None None unknown g = refl
      index size (Some v) (Some i) (number e) g = g
      index size (Some v) (Some i) (past e b) g = g
      index size None (Some i) f g = elim f [ ]
      index size (Some v) None f g = elim f [ ]

      by : (y : PartLayer) → IsFoundPart r y → list_any located.is_open (seen r ps) ≡ is_open (steps ps) → (located.is_open (seen_of y) || list_any located.is_open (seen r ps)) ≡ is_open (step_for y ∷ steps ps)
      by (tree.Member n) f g = g
      by (tree.Index size e) f g = index size (value_in facts e) (fold.static_index (cs r) (vs r) (term_of e)) f g

  abbrev pub chosen_of : Bool → List Step → Bool
  chosen_of true p = chooses_object (Open 0 ∷ p)
  chosen_of false p = chooses_object p

  pub choice_parts : (b : Bool) (ps : List CorePart) → AreFound r ps → chooses b (seen r ps) ≡ chosen_of b (steps ps)
  choice_parts true [] h = refl
  choice_parts false [] h = refl
  choice_parts b (x ∷ ps) h = ap (λ p. chooses b (p ∷ seen r ps)) (seen_is x) ∙ by b (out-CorePart x) h.0 (λ b. choice_parts b ps h.1)
    where
      index : (b : Bool) (size : ℕ) (v : Option Number) (i : Option ℕ) → Finds v i → ((b : Bool) → chooses b (seen r ps) ≡ chosen_of b (steps ps)) → chooses b (part.Element size v ∷ seen r ps) ≡ chosen_of b (step_by size i ∷ steps ps)
      index true size None None unknown g = g true
      index false size None None unknown g = g true
      index true size (Some v) (Some i) (number e) g = g true
      index false size (Some v) (Some i) (number e) g = g false
      index true size (Some v) (Some i) (past e l) g = g true
      index false size (Some v) (Some i) (past e l) g = g false
      index b size None (Some i) f g = elim f [ ]
      index b size (Some v) None f g = elim f [ ]

      by : (b : Bool) (y : PartLayer) → IsFoundPart r y → ((b : Bool) → chooses b (seen r ps) ≡ chosen_of b (steps ps)) → chooses b (seen_of y ∷ seen r ps) ≡ chosen_of b (step_for y ∷ steps ps)
      by true (tree.Member n) f g = refl
      by false (tree.Member n) f g = g false
      by b (tree.Index size e) f g = index b size (value_in facts e) (fold.static_index (cs r) (vs r) (term_of e)) f g

  pub chosen_is : (l : CoreLeft) → AreFound r l.parts → is_chosen r l ≡ unwrap_or (option_map chooses_object (pattern (cs r) (left_of l))) false
  chosen_is l h = ap (λ b. is_some (name_at r l.base) && b) (choice_parts false l.parts h) ∙ by (name_at r l.base) ∙ ap (λ o. unwrap_or (option_map chooses_object o) false) (sym (pattern_is l))
    where
      by : (o : Option CellName) → (is_some o && chooses_object (steps l.parts)) ≡ unwrap_or (option_map chooses_object (longer_by (name_steps o) (steps l.parts))) false
      by None = refl
      by (Some n) = sym (choice_behind (closed_is (name_of n)) (steps l.parts))

  pub open_is : (l : CoreLeft) (other : Bool) → AreFound r l.parts → is_one_of r l other ≡ unwrap_or (option_map is_open (pattern (cs r) (left_of l))) other
  open_is l other h = ap (λ b. if is_some (name_at r l.base) then b else other) (open_parts l.parts h) ∙ by (name_at r l.base) ∙ ap (λ o. unwrap_or (option_map is_open o) other) (sym (pattern_is l))
    where
      by : (o : Option CellName) → (if is_some o then is_open (steps l.parts) else other) ≡ unwrap_or (option_map is_open (longer_by (name_steps o) (steps l.parts))) other
      by None = refl
      by (Some n) = sym (open_behind (closed_is (name_of n)) (steps l.parts))

  -- ---- elements

  -- an index inside a size that is a number of 32 bits
  inside_is : (at : CoreExpr) (size : ℕ) → size < 4294967296 → IsFound r at → inside r at size ≡ fold.in_range (cs r) (vs r) size (fold.static_index (cs r) (vs r) (term_of at))
  inside_is at size h f = by (value_in facts at) (fold.static_index (cs r) (vs r) (term_of at)) f
    where
      small_by : (o : Option ℕ) (i : ℕ) → o ≡ Some i → option_and_then (λ i. if nat_lt i size then Some i else None) o ≡ fold.in_range (cs r) (vs r) size (Some i)
      small_by o i e = ap (option_and_then (λ i. if nat_lt i size then Some i else None)) e

      large_by : (o : Option ℕ) (i : ℕ) → o ≡ None → 4294967296 ≤ i → option_and_then (λ i. if nat_lt i size then Some i else None) o ≡ fold.in_range (cs r) (vs r) size (Some i)
      large_by o i e g = ap (option_and_then (λ i. if nat_lt i size then Some i else None)) e ∙ ap (λ b. if b then Some i else None) (let q : false ≡ nat_lt i size = grind (arith, nat_tests) in q)

      by : (v : Option Number) (i : Option ℕ) → Finds v i → option_and_then (λ v. option_and_then (λ i. if nat_lt i size then Some i else None) (small v)) v ≡ fold.in_range (cs r) (vs r) size i
      by None None unknown = refl
      by (Some v) (Some i) (number e) = small_by (small v) i e
      by (Some v) (Some i) (past e g) = large_by (small v) i e g
      by None (Some i) g = elim g [ ]
      by (Some v) None g = elim g [ ]

  pub element_on_is : (l : CoreLeft) (size : ℕ) (at : CoreExpr) → size < 4294967296 → IsFound r at
      → left_of (element_on r l size at) ≡ fold.element_or (cs r) (vs r) (left_of l) (fold.in_range (cs r) (vs r) size (fold.static_index (cs r) (vs r) (term_of at))) (term.Index (left_of l) size (term_of at))
  element_on_is l size at s f = by (out-CoreBase l.base) refl (nat_eq (length l.parts) 0) refl ∙ ap (λ o. fold.element_or (cs r) (vs r) (left_of l) o (term.Index (left_of l) size (term_of at))) (inside_is at size s f)
    where
      plain : left_of (with_more l (roll-CorePart (tree.Index size at))) ≡ term.Index (left_of l) size (term_of at)
      plain = more_is l (tree.Index size at)

      part_element : (m : Left) → is_part m ≡ true → (o : Option ℕ) (x : Left) → fold.element_or (cs r) (vs r) m o x ≡ x
      part_element (term.Cell p n) h o x = refl
      part_element (term.Prefix p n) h o x = cc h
      part_element (term.Null p) h o x = refl
      part_element (term.Follow p t m) h o x = refl
      part_element (term.Member m n) h o x = refl
      part_element (term.Index m n e) h o x = refl

      other : (y : BaseLayer) → nat_eq (length l.parts) 0 ≡ true → out-CoreBase l.base ≡ y
          → ((o : Option ℕ) (x : Left) → fold.element_or (cs r) (vs r) (seen_base y l.place) o x ≡ x)
          → left_of (with_more l (roll-CorePart (tree.Index size at))) ≡ fold.element_or (cs r) (vs r) (left_of l) (inside r at size) (term.Index (left_of l) size (term_of at))
      other y e h g =
          plain ∙ sym (g (inside r at size) (term.Index (left_of l) size (term_of at)))
          ∙ ap (λ m. fold.element_or (cs r) (vs r) m (inside r at size) (term.Index (left_of l) size (term_of at))) (sym (alone l e ∙ ap (λ y. seen_base y l.place) h))

      named : (name : CellName) → nat_eq (length l.parts) 0 ≡ true → out-CoreBase l.base ≡ tree.Prefix name → (o : Option ℕ)
          → left_of (element_at l size at o) ≡ fold.element_or (cs r) (vs r) (left_of l) o (term.Index (left_of l) size (term_of at))
      named name e h None = plain ∙ ap (λ m. fold.element_or (cs r) (vs r) m None (term.Index (left_of l) size (term_of at))) (sym (alone l e ∙ ap (λ y. seen_base y l.place) h))
      named name e h (Some i) =
          grown_is r l name (path_part.Index i) e h
          ∙ ap (λ m. fold.element_or (cs r) (vs r) m (Some i) (term.Index (left_of l) size (term_of at))) (sym (alone l e ∙ ap (λ y. seen_base y l.place) h))

      by : (y : BaseLayer) → out-CoreBase l.base ≡ y → (t : Bool) → nat_eq (length l.parts) 0 ≡ t
          → left_of (if index_behind y t then element_at l size at (inside r at size) else with_more l (roll-CorePart (tree.Index size at)))
          ≡ fold.element_or (cs r) (vs r) (left_of l) (inside r at size) (term.Index (left_of l) size (term_of at))
      by (tree.Cell m) h true e = other (tree.Cell m) e h (λ o x. refl)
      by (tree.Cell m) h false e = plain ∙ sym (part_element (left_of l) (parted l e) (inside r at size) (term.Index (left_of l) size (term_of at)))
      by (tree.Prefix name) h true e = named name e h (inside r at size)
      by (tree.Prefix name) h false e = plain ∙ sym (part_element (left_of l) (parted l e) (inside r at size) (term.Index (left_of l) size (term_of at)))
      by (tree.Follow m soft) h true e = other (tree.Follow m soft) e h (λ o x. refl)
      by (tree.Follow m soft) h false e = plain ∙ sym (part_element (left_of l) (parted l e) (inside r at size) (term.Index (left_of l) size (term_of at)))
      by tree.Null h true e = other tree.Null e h (λ o x. refl)
      by tree.Null h false e = plain ∙ sym (part_element (left_of l) (parted l e) (inside r at size) (term.Index (left_of l) size (term_of at)))
