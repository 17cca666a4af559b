-- Walks stay with sound locations.
use Rattle.std.proofs.Common.{◌≡◌, refl, sym, ap, subst, ◌∙◌, ℕ, Bool, true, false, nat_eq, if◌then◌else◌, List, [], ◌∷◌, ◌++◌, length, slice_get, Option, Some, None, option_map, unwrap_or}
use Rattle.std.specs.HashMap.{get_by}
use Rattle.scc_base.specs.declared.code.Code.TheVariants as reason
use Rattle.scc_base.specs.declared.names.Name.{Name}
use Rattle.scc_base.specs.declared.path.PathPart.{PathPart}
use Rattle.scc_base.specs.declared.path.PathPart.TheVariants as path_part
use Rattle.scc_base.specs.declared.refusal.Place.{Place}
use Rattle.scc_core.specs.declared.expr.CoreBase.{out-CoreBase, out-roll-CoreBase, roll-CoreBase}
use Rattle.scc_core.specs.declared.expr.CoreBase.TheOpen as tree
use Rattle.scc_core.specs.declared.expr.CoreExpr.{CoreExpr}
use Rattle.scc_core.specs.declared.expr.CoreLeft.{CoreLeft}
use Rattle.scc_core.specs.declared.expr.CorePart.{CorePart, out-roll-CorePart, roll-CorePart}
use Rattle.scc_core.specs.declared.program.Cell.{Cell}
use Rattle.scc_core.specs.declared.program.CellName.{CellName}
use Rattle.scc_core.specs.declared.program.CellSort.{CellSort}
use Rattle.scc_core.specs.declared.program.CellSort.TheVariants as sort
use Rattle.scc_core_spec.specs.First.{refused}
use Rattle.scc_core_spec.specs.Resolved.{Tried, Made, Stopped}
use Rattle.scc_core_view.specs.Whole.{IsName}
use Rattle.scc_pointers_walk.specs.declared.held.Resolver.{Resolver}
use Rattle.scc_pointers_walk.specs.Led.{at_place, held_or, led_in, left_at, left_in}
use Rattle.scc_pointers_walk.specs.Located.{BaseLayer, as_name, cell_or_name, element_at, element_in, grown, inside, is_one_of, longer, longer_by, longer_in, member_in, name_in, named_base, named_in, pointed_in, pointer_in, size_of, takes_index, takes_member, target_at, with_base, with_more}
use Rattle.scc_pointers_walk.specs.Read.{AreFound, HasName, IsFound, IsFoundPart, IsNamed, IsNamedBase}
use Rattle.scc_pointers_walk.proofs.Terms.{PartLayer}
use Rattle.scc_pointers_laws.specs.Followed.{IsKnown, IsSound}

pub same_some : {A : Type 0} {a b : A} → Some a ≡ Some b → a ≡ b
same_some {a = a} e = ap (λ o. unwrap_or o a) e

pub same_made : {A : Type 0} {a b : A} → Made a ≡ Made b → a ≡ b
same_made {A = A} {a = a} e = ap from e
  where
    from : Tried A → A
    from (Made x) = x
    from (Stopped q) = a

pub named_base_of : (x : BaseLayer) → IsNamedBase x → IsNamedBase (out-CoreBase (roll-CoreBase x))
named_base_of x h = subst IsNamedBase (sym (out-roll-CoreBase x)) h

-- ---- longer names

longer_named : (name : CellName) (p : PathPart) → IsName name → IsName (longer name p)
longer_named name p h = by name.local refl p
  where
    by : (o : Option (ℕ × Name)) → name.local ≡ o → (p : PathPart) → IsName (longer_by name o p)
    by (Some l) e (path_part.Index i) = λ g. absurd cc
    by (Some l) e (path_part.Member m) = h
    by None e p = λ g. h e

longer_based : (x : BaseLayer) (p : PathPart) → IsNamedBase x → IsNamedBase (out-CoreBase (longer_in x p))
longer_based (tree.Prefix name) p h = named_base_of (tree.Prefix (longer name p)) (longer_named name p h)
longer_based (tree.Cell n) p h = named_base_of (tree.Cell n) tt
longer_based (tree.Follow l s) p h = named_base_of (tree.Follow l s) tt
longer_based tree.Null p h = named_base_of tree.Null tt

module _ (r : Resolver) (k : IsKnown r) where
  pub has_name : (l : CoreLeft) → IsNamed l → HasName r l
  has_name l h = by (out-CoreBase l.base) h
    where
      cell : (o : Option Cell) → ((c : Cell) → o ≡ Some c → IsName c.name) → (front : CellName) → option_map (λ c. c.name) o ≡ Some front → IsName front
      cell None f front e = absurd cc
      cell (Some c) f front e = subst IsName (same_some e) (f c refl)

      by : (x : BaseLayer) → IsNamedBase x → (front : CellName) → name_in r x ≡ Some front → IsName front
      by (tree.Cell n) g front e = cell (slice_get r.known.cells.now n) (λ c. k.names n c) front e
      by (tree.Prefix name) g front e = subst IsName (same_some e) g
      by (tree.Follow m s) g front e = absurd cc
      by tree.Null g front e = absurd cc

  found_more : (ps : List CorePart) (x : PartLayer) → AreFound r ps → IsFoundPart r x → AreFound r (ps ++ roll-CorePart x ∷ [])
  found_more [] x h g = (subst (IsFoundPart r) (sym (out-roll-CorePart x)) g, tt)
  found_more (p ∷ ps) x h g = (h.0, found_more ps x h.1 g)

  pub name_sound : (l : CoreLeft) → IsSound r l → IsSound r (as_name r l)
  name_sound l h = by (nat_eq (length l.parts) 0)
    where
      cell : (n : ℕ) (o : Option Cell) → ((c : Cell) → o ≡ Some c → IsName c.name) → IsNamedBase (out-CoreBase (cell_or_name n (option_map (λ c. c.name) o)))
      cell n None f = named_base_of (tree.Cell n) tt
      cell n (Some c) f = named_base_of (tree.Prefix c.name) (f c refl)

      base : (x : BaseLayer) → IsNamedBase x → IsNamedBase (out-CoreBase (named_in r x))
      base (tree.Cell n) g = cell n (slice_get r.known.cells.now n) (λ c. k.names n c)
      base (tree.Prefix name) g = named_base_of (tree.Prefix name) g
      base (tree.Follow m s) g = named_base_of (tree.Follow m s) tt
      base tree.Null g = named_base_of tree.Null tt

      by : (b : Bool) → IsSound r (if b then with_base l (named_base r l.base) else l)
      by true = (base (out-CoreBase l.base) h.0, h.1)
      by false = h

  grown_sound : (l : CoreLeft) (p : PathPart) → IsSound r l → IsSound r (grown l p)
  grown_sound l p h = (longer_based (out-CoreBase l.base) p h.0, h.1)

  more_sound : (l : CoreLeft) (x : PartLayer) → IsSound r l → IsFoundPart r x → IsSound r (with_more l (roll-CorePart x))
  more_sound l x h g = (h.0, found_more l.parts x h.1 g)

  pub member_sound : (l : CoreLeft) (n : Name) → IsSound r l → IsSound r (member_in r l n)
  member_sound l n h = by (as_name r l) (name_sound l h) (takes_member (as_name r l))
    where
      by : (m : CoreLeft) → IsSound r m → (b : Bool) → IsSound r (if b then grown m (path_part.Member n) else with_more m (roll-CorePart (tree.Member n)))
      by m g true = grown_sound m (path_part.Member n) g
      by m g false = more_sound m (tree.Member n) g tt

  pub element_sound : (l : CoreLeft) (size : ℕ) (e : CoreExpr) → IsSound r l → IsFound r e → IsSound r (element_in r l size e)
  element_sound l size e h f = by (as_name r l) (name_sound l h) (takes_index (as_name r l)) (size_of r (as_name r l) size)
    where
      at : (m : CoreLeft) → IsSound r m → (z : ℕ) (o : Option ℕ) → IsSound r (element_at m z e o)
      at m g z (Some i) = grown_sound m (path_part.Index i) g
      at m g z None = more_sound m (tree.Index z e) g f

      by : (m : CoreLeft) → IsSound r m → (b : Bool) (z : ℕ) → IsSound r (if b then element_at m z e (inside r e z) else with_more m (roll-CorePart (tree.Index z e)))
      by m g true z = at m g z (inside r e z)
      by m g false z = more_sound m (tree.Index z e) g f

  led_sound : (p : Place) (n : ℕ) (m : CoreLeft) → led_in r p n ≡ Some m → IsSound r m
  led_sound p n m e = by (get_by (nat_eq n) r.held) refl e
    where
      left : (s : CellSort) → left_in p s ≡ Some m → IsSound r m
      left sort.Input g = absurd cc
      left sort.Output g = absurd cc
      left sort.Signal g = absurd cc
      left (sort.Variable w f) g = absurd cc
      left (sort.Local i) g = absurd cc
      left (sort.Pointer None) g = absurd cc
      left (sort.Pointer (Some path)) g = subst (IsSound r) (same_some g) (named_base_of (tree.Prefix (record { path = path; local = None; indices = [] })) (λ h. refl), tt)
      left (sort.Port q) g = absurd cc

      cell : (o : Option Cell) → left_at p o ≡ Some m → IsSound r m
      cell None g = absurd cc
      cell (Some c) g = left c.sort g

      held : (t : Option CoreLeft) → ((l : CoreLeft) → t ≡ Some l → IsSound r l) → option_map (at_place p) t ≡ Some m → IsSound r m
      held None f g = absurd cc
      held (Some l) f g = subst (IsSound r) (same_some g) (f l refl)

      by : (o : Option (Option CoreLeft)) → get_by (nat_eq n) r.held ≡ o → held_or r p n o ≡ Some m → IsSound r m
      by (Some t) q g = held t (λ l i. k.held n l (q ∙ ap Some i)) g
      by None q g = cell (slice_get r.known.cells.now n) g

  pub pointed_sound : (l m : CoreLeft) → pointed_in r l ≡ Made (Some m) → IsSound r m
  pointed_sound l m e = by (is_one_of r l false) e
    where
      there : (o : Option ℕ) → target_at r l.place o ≡ Some m → IsSound r m
      there None g = absurd cc
      there (Some n) g = led_sound l.place n m g

      by : (b : Bool) → (if b then Stopped (refused reason.StaticIndex l.place) else Made (target_at r l.place (pointer_in r l))) ≡ Made (Some m) → IsSound r m
      by true g = absurd cc
      by false g = there (pointer_in r l) (same_made g)
