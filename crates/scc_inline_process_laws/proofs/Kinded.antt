-- Copies of typed expressions have the kinds that their operators give.
use Rattle.std.proofs.Common.{◌≡◌, ℕ, Bool, true, false, ◌&&◌, [], Option, Some, None, option_map, unwrap_or, if◌then◌else◌, slice_get, refl, ap, ◌∙◌}
use Rattle.scc_base.specs.declared.refusal.Place.{Place}
use Rattle.scc_bits.specs.Values.{kind_of as operator_kind}
use Rattle.scc_core_spec.specs.Term as core
use Rattle.scc_core_spec.specs.Term.{CellName, Own}
use Rattle.scc_core_spec.specs.Fold.{named, member_behind, member_of, element_of, element_or, in_range, static_index, size_of}
use Rattle.scc_core_spec.specs.Resolved.{placed}
use Rattle.scc_core_spec.specs.Source.{Home}
use Rattle.scc_elab_spec.specs.Term.{Term, Literal, Load, Read, Convert, Unary, Binary, Choose, Bit, Range, Join, Left, Local, Answer, This, Follow, Index, kind_of}
use Rattle.scc_elab_spec.specs.Term as term
use Rattle.scc_elab_spec.specs.Program as plain
use Rattle.scc_elab_spec.specs.Types.{declared_at, is_reference, points_at, sizes_at}
use Rattle.scc_elab_spec.specs.Worth.{member_name}
use Rattle.scc_elab_spec.specs.Copied.{Here, located, copied, refer, size_here, local_name}
use Rattle.scc_elab_spec.specs.Bodies.{result_name}
use Rattle.scc_elab_spec.specs.Typed.{IsTyped}
use Rattle.scc_core_unroll_laws.specs.Kinds.{IsKinded, IsKindedLeft}
use Rattle.scc_inline_process_laws.specs.Sound.{IsSoundTerm, IsSoundLeft}
use Rattle.scc_core_spec.specs.Named.{cell_at, steps_of}

placed-kinded : (p : Place) (l : core.Left) → IsKindedLeft l → IsKindedLeft (placed p l)
placed-kinded p (core.Cell q n) k = tt
placed-kinded p (core.Prefix q n) k = tt
placed-kinded p (core.Null q) k = tt
placed-kinded p (core.Follow q s l) k = k
placed-kinded p (core.Member l n) k = placed-kinded p l k
placed-kinded p (core.Index l size e) k = (placed-kinded p l k.0, k.1)

module _ (home : Home) (h : Here) where
  abbrev copy : Term → core.Term
  copy e = copied h (result_name h) e

  pub kind-copied : (e : Term) → core.kind_of (copy e) ≡ kind_of e
  kind-copied (Literal q k w) = refl
  kind-copied (Load q k l) = refl
  kind-copied (Read q k l) = refl
  kind-copied (Convert q k e) = refl
  kind-copied (Unary q k o a) = refl
  kind-copied (Binary q k o a b) = refl
  kind-copied (Choose q k n a b) = refl
  kind-copied (Bit q a e) = refl
  kind-copied (Range q k a m l) = refl
  kind-copied (Join q k a b) = refl

  pub named-kinded : (pointer : Bool) (l : core.Left) → IsKindedLeft l → IsKindedLeft (named h.cells h.vectors pointer l)
  named-kinded pointer (core.Cell p n) k = tt
  named-kinded pointer (core.Prefix p n) k = by (cell_at pointer 0 (steps_of n) h.cells)
    where
      by : (o : Option ℕ) → IsKindedLeft (unwrap_or (option_map (core.Cell p) o) (core.Prefix p n))
      by None = tt
      by (Some c) = tt
  named-kinded pointer (core.Null p) k = tt
  named-kinded pointer (core.Follow p s l) k = k
  named-kinded pointer (core.Member l n) k = k
  named-kinded pointer (core.Index l size e) k = k

  refer-kinded : (p : Place) (follow : Bool) (m : Option plain.Member) (l : core.Left) → IsKindedLeft l → IsKindedLeft (refer h p follow m l)
  refer-kinded p follow None l k = k
  refer-kinded p follow (Some m) l k = by (follow && is_reference m.shape.reach)
    where
      by : (c : Bool) → IsKindedLeft (if c then core.Follow p false (named h.cells h.vectors true l) else l)
      by true = named-kinded true l k
      by false = k

  member-kinded : (l : core.Left) (n : ℕ) → IsKindedLeft l → IsKindedLeft (member_of h.cells h.vectors l n)
  member-kinded (core.Cell q c) n k = k
  member-kinded (core.Prefix q name) n k = by name.own
    where
      by : (o : Option Own) → IsKindedLeft (member_behind h.cells h.vectors q name o n)
      by None = tt
      by (Some o) = tt
  member-kinded (core.Null q) n k = k
  member-kinded (core.Follow q s l) n k = k
  member-kinded (core.Member l m) n k = k
  member-kinded (core.Index l size i) n k = k

  element-kinded : (l : core.Left) (n : ℕ) (e : core.Term) → IsKindedLeft l → IsKinded e → IsKindedLeft (element_of h.cells h.vectors l n e)
  element-kinded (core.Cell q c) n e k t = (k, t)
  element-kinded (core.Prefix q c) n e k t = by (in_range h.cells h.vectors (size_of h.cells h.vectors n (core.Prefix q c)) (static_index h.cells h.vectors e))
    where
      by : (o : Option ℕ) → IsKindedLeft (element_or h.cells h.vectors (core.Prefix q c) o (core.Index (core.Prefix q c) (size_of h.cells h.vectors n (core.Prefix q c)) e))
      by None = (tt, t)
      by (Some i) = tt
  element-kinded (core.Null q) n e k t = (k, t)
  element-kinded (core.Follow q s l) n e k t = (k, t)
  element-kinded (core.Member l m) n e k t = (k, t)
  element-kinded (core.Index l m i) n e k t = (k, t)

  mutual
    pub kinded-located : (follow : Bool) (l : Left) → IsSoundLeft home h l → IsKindedLeft (located h (result_name h) follow l)
    kinded-located follow (Local p n) s = refer-kinded p follow (slice_get h.function.locals n) (core.Prefix p (local_name h n [])) tt
    kinded-located follow (Answer p n) s = tt
    kinded-located follow (This p) s = placed-kinded p h.this s
    kinded-located follow (Follow p l) s = named-kinded (points_at h.plain h.function l) (located h (result_name h) true l) (kinded-located true l s)
    kinded-located follow (term.Member l m) s =
        refer-kinded (term.place_at l) follow (declared_at h.plain h.function (term.Member l m))
        (member_of h.cells h.vectors (located h (result_name h) true l) (member_name (declared_at h.plain h.function (term.Member l m))))
        (member-kinded (located h (result_name h) true l) (member_name (declared_at h.plain h.function (term.Member l m))) (kinded-located true l s.0))
    kinded-located follow (Index l e) s = element-kinded (located h (result_name h) true l) (size_here (sizes_at h.plain h.function l)) (copy e) (kinded-located true l s.0) (kinded-copied e s.1 s.2)

    pub kinded-copied : (e : Term) → IsSoundTerm home h e → IsTyped e → IsKinded (copy e)
    kinded-copied (Literal q k w) s t = tt
    kinded-copied (Load q k l) s t = named-kinded (points_at h.plain h.function l) (located h (result_name h) true l) (kinded-located true l s)
    kinded-copied (Read q k l) s t = named-kinded (points_at h.plain h.function l) (located h (result_name h) true l) (kinded-located true l s)
    kinded-copied (Convert q k e) s t = kinded-copied e s t
    kinded-copied (Unary q k o a) s t = (ap (λ j. operator_kind o j j) (kind-copied a) ∙ t.0, kinded-copied a s t.1)
    kinded-copied (Binary q k o a b) s t = (ap (λ j. operator_kind o j (core.kind_of (copy b))) (kind-copied a) ∙ (ap (operator_kind o (kind_of a)) (kind-copied b) ∙ t.0), kinded-copied a s.0 t.1, kinded-copied b s.1 t.2)
    kinded-copied (Choose q k n a b) s t = (kinded-copied n s.0 t.0, kinded-copied a s.1 t.1, kinded-copied b s.2 t.2)
    kinded-copied (Bit q a e) s t = (kinded-copied a s.0 t.0, kinded-copied e s.1 t.1)
    kinded-copied (Range q k a m l) s t = kinded-copied a s t
    kinded-copied (Join q k a b) s t = (kinded-copied a s.0 t.0, kinded-copied b s.1 t.1)
