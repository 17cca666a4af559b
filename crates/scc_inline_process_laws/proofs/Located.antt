-- Locations and values: what the plain function finds, its copy finds.
use Rattle.std.proofs.Common.{◌≡◌, ℕ, Bool, true, false, ◌&&◌, nat_lt, List, [], ◌∷◌, ◌++◌, map, Option, Some, None, option_map, option_and_then, unwrap_or, if◌then◌else◌, slice_get, refl, sym, ap, ◌∙◌}
use Rattle.scc_base.specs.declared.refusal.Place.{Place}
use Rattle.scc_bits_kinds.specs.declared.kind.Kind.{Kind}
use Rattle.scc_bits_kinds.specs.Kinds.{width_of, number_of, stored}
use Rattle.scc_bits_kinds.specs.Bits.{part, joined}
use Rattle.scc_bits.specs.Values.{applied, kind_of as operator_kind}
use Rattle.scc_semantics.specs.Location.{Location, Member, Element, within}
use Rattle.scc_semantics.specs.Expressions as body
use Rattle.scc_semantics.specs.Expressions.{Expr}
use Rattle.scc_semantics.specs.Places.{Places}
use Rattle.scc_semantics.specs.Store.{Store}
use Rattle.scc_semantics.specs.Scene.{Names, Scene, expr_kind, kind_or, loaded, sensed, pointed, index_of, chosen, bit_at, with_two, followed}
use Rattle.scc_semantics.specs.Value.{locate, value, behind}
use Rattle.scc_core_spec.specs.Term as core
use Rattle.scc_core_spec.specs.Term.{CellName, Own}
use Rattle.scc_core_spec.specs.Static.{static}
use Rattle.scc_core_spec.specs.Fold.{named, extended, member_behind, member_of, element_of, element_or, in_range, static_index, size_of}
use Rattle.scc_core_spec.specs.Resolved.{placed}
use Rattle.scc_core_spec.specs.Source.{Home, location_of, left_of, expr_of}
use Rattle.scc_elab_spec.specs.Term.{Term, Literal, Load, Read, Convert, Unary, Binary, Choose, Bit, Range, Join, Left, Local, Answer, This, Follow, Index, kind_of}
use Rattle.scc_elab_spec.specs.Term as term
use Rattle.scc_elab_spec.specs.Program as plain
use Rattle.scc_elab_spec.specs.Types.{declared_at, is_reference, points_at, sizes_at}
use Rattle.scc_elab_spec.specs.Worth.{member_name}
use Rattle.scc_elab_spec.specs.Spoken as spoken
use Rattle.scc_elab_spec.specs.Copied.{Here, located, copied, refer, size_here, local_name, answer_name}
use Rattle.scc_elab_spec.specs.Bodies.{result_name}
use Rattle.scc_elab_spec.proofs.Valued.{kind_is}
use Rattle.scc_core_unroll_laws.specs.Kinds.{IsKinded}
use Rattle.scc_inline_process_laws.specs.Sound.{names_of, IsObject, IsSoundTerm, IsSoundLeft}
use Rattle.scc_inline_process_laws.proofs.Named.{named-same}
use Rattle.scc_inline_process_laws.proofs.Kinded.{kinded-copied, kind-copied}

same_two : {a b c d : Option ℕ} {j k m n : Kind} (f : Kind → Kind → ℕ → ℕ → Option ℕ) → a ≡ c → b ≡ d → j ≡ m → k ≡ n → with_two a b (f j k) ≡ with_two c d (f m n)
same_two f e g i l = cc

same_three : {z z' a b c d : Option ℕ} {j k m n : Kind} (f : ℕ → Kind → Kind → ℕ → ℕ → Option ℕ) → z ≡ z' → a ≡ c → b ≡ d → j ≡ m → k ≡ n
    → option_and_then (λ x. with_two a b (f x j k)) z ≡ option_and_then (λ x. with_two c d (f x m n)) z'
same_three {z' = z'} {a = a} {b = b} {c = c} {d = d} {j = j} {k = k} {m = m} {n = n} f h e g i l = ap (λ o. option_and_then (λ x. with_two a b (f x j k)) o) h
    ∙ (ap (λ o. option_and_then (λ x. with_two o b (f x j k)) z') e ∙ (ap (λ o. option_and_then (λ x. with_two c o (f x j k)) z') g
    ∙ (ap (λ j. option_and_then (λ x. with_two c d (f x j k)) z') i ∙ ap (λ k. option_and_then (λ x. with_two c d (f x m k)) z') l)))

map_more : (is : List ℕ) (i : ℕ) → map Element (is ++ i ∷ []) ≡ map Element is ++ Element i ∷ []
map_more [] i = refl
map_more (j ∷ is) i = ap (λ z. Element j ∷ z) (map_more is i)

-- the place of a location doesn't matter
pub placed-same : (home : Home) (cs : List _) (i : ℕ) (p : Place) (l : core.Left) → left_of home cs i (placed p l) ≡ left_of home cs i l
placed-same home cs i p (core.Cell q n) = refl
placed-same home cs i p (core.Prefix q n) = refl
placed-same home cs i p (core.Null q) = refl
placed-same home cs i p (core.Follow q s l) = refl
placed-same home cs i p (core.Member l n) = ap (λ b. body.Field b n) (placed-same home cs i p l)
placed-same home cs i p (core.Index l size e) = ap (λ b. body.Indexed b (expr_of home cs i e)) (placed-same home cs i p l)

module _ (home : Home) (h : Here) where
  abbrev cleft : core.Left → body.Left
  cleft l = left_of home h.cells h.process l

  abbrev cexpr : core.Term → Expr
  cexpr e = expr_of home h.cells h.process e

  abbrev copy : Term → core.Term
  copy e = copied h (result_name h) e

  abbrev pleft : Bool → Left → body.Left
  pleft follow l = spoken.left_of h.plain h.function follow l

  abbrev pexpr : Term → Expr
  pexpr e = spoken.expr_of h.plain h.function e

  -- the kinds are the same
  pub kind-same : (e : Term) → expr_kind (cexpr (copy e)) ≡ expr_kind (pexpr e)
  kind-same (Literal q k w) = refl
  kind-same (Load q k l) = refl
  kind-same (Read q k l) = refl
  kind-same (Convert q k e) = refl
  kind-same (Unary q k o a) = ap (λ j. kind_or (operator_kind o j j)) (kind-same a)
  kind-same (Binary q k o a b) = ap (λ i. kind_or (operator_kind o i (expr_kind (cexpr (copy b))))) (kind-same a)
      ∙ ap (λ j. kind_or (operator_kind o (expr_kind (pexpr a)) j)) (kind-same b)
  kind-same (Choose q k n a b) = refl
  kind-same (Bit q a e) = refl
  kind-same (Range q k a m l) = refl
  kind-same (Join q k a b) = refl

  module _ (places : Places) (signals : Location → ℕ) (store : Store) (object : Option Location) (own : Names) where
    abbrev pub plain_scene : Scene
    plain_scene = record { places = places; signals = signals; names = names_of h object; store = store }

    abbrev pub core_scene : Scene
    core_scene = record { places = places; signals = signals; names = own; store = store }

    abbrev reach : core.Left → Option (Option Location)
    reach l = locate core_scene (cleft l)

    -- what stands where a pointer leads
    abbrev led : Location → Option (Option Location)
    led l = Some (pointed (places.pointers l) (store.targets l))

    refer-same : (p : Place) (follow : Bool) (m : Option plain.Member) (l : core.Left) (b : body.Left) → reach l ≡ locate plain_scene b
        → reach (refer h p follow m l) ≡ locate plain_scene (spoken.refer follow m b)
    refer-same p follow None l b e = e
    refer-same p follow (Some m) l b e = by (follow && is_reference m.shape.reach)
      where
        by : (c : Bool) → reach (if c then core.Follow p false (named h.cells h.vectors true l) else l) ≡ locate plain_scene (if c then body.Follow b else b)
        by true = ap (λ o. behind o led) (named-same home h.cells h.vectors h.process core_scene true l ∙ e)
        by false = e

    -- a member of an object
    member-same : (l : core.Left) (n : ℕ) (b : body.Left) → IsObject home h l → reach l ≡ locate plain_scene b
        → reach (member_of h.cells h.vectors l n) ≡ locate plain_scene (body.Field b n)
    member-same (core.Cell q c) n b g e = ap (λ o. behind o (λ l. Some (Some (within l (Member n))))) e
    member-same (core.Prefix q name) n b g e = by name.own g ∙ ap (λ o. behind o (λ l. Some (Some (within l (Member n))))) e
      where
        by : (o : Option Own) → o ≡ None → reach (member_behind h.cells h.vectors q (record { path = name.path; own = o; indices = name.indices }) o n)
            ≡ Some (Some (within (location_of home h.process (record { path = name.path; own = o; indices = name.indices })) (Member n)))
        by None g = refl
        by (Some o) g = refl
    member-same (core.Null q) n b g e = ap (λ o. behind o (λ l. Some (Some (within l (Member n))))) e
    member-same (core.Follow q s l) n b g e = ap (λ o. behind o (λ l. Some (Some (within l (Member n))))) e
    member-same (core.Member l m) n b g e = ap (λ o. behind o (λ l. Some (Some (within l (Member n))))) e
    member-same (core.Index l size i) n b g e = ap (λ o. behind o (λ l. Some (Some (within l (Member n))))) e

    -- an element
    abbrev element_at : Kind → Option ℕ → Location → Option (Option Location)
    element_at k v l = option_map (λ i. Some (within l (Element (index_of k i)))) v

    extended-same : (n : CellName) (i : ℕ) → location_of home h.process (extended n (Element i)) ≡ within (location_of home h.process n) (Element i)
    extended-same n i = by n.own
      where
        by : (o : Option Own) → location_of home h.process (extended (record { path = n.path; own = o; indices = n.indices }) (Element i)) ≡ within (location_of home h.process (record { path = n.path; own = o; indices = n.indices })) (Element i)
        by None = refl
        by (Some o) = ap (λ z. let l : Location = record { root = home h.process o.number; path = z } in l) (map_more n.indices i)

    in_range-is : (size : ℕ) (o : Option ℕ) (i : ℕ) → in_range h.cells h.vectors size o ≡ Some i → o ≡ Some i
    in_range-is size None i e = cc
    in_range-is size (Some j) i e = by (nat_lt j size) e
      where
        by : (b : Bool) → (if b then Some j else None) ≡ Some i → Some j ≡ Some i
        by true e = e
        by false e = cc

    map-is : {A B : Type 0} (f : A → B) (o : Option A) (y : B) → option_map f o ≡ Some y → (x : A) × (o ≡ Some x) × (f x ≡ y)
    map-is f None y e = cc
    map-is f (Some x) y e = (x, refl, cc)

    module _ (knows : (e : core.Term) (w : ℕ) → IsKinded e → static h.cells e ≡ Some w → value core_scene (cexpr e) ≡ Some w) (this : reach h.this ≡ Some object) where
      index-same : (l : core.Left) (b : body.Left) (e : core.Term) (f : Expr) (n : ℕ) → reach l ≡ locate plain_scene b
          → value core_scene (cexpr e) ≡ value plain_scene f → expr_kind (cexpr e) ≡ expr_kind f → reach (core.Index l n e) ≡ locate plain_scene (body.Indexed b f)
      index-same l b e f n a v k = ap (λ o. behind o (element_at (expr_kind (cexpr e)) (value core_scene (cexpr e)))) a
          ∙ (ap (λ z. behind (locate plain_scene b) (element_at (expr_kind (cexpr e)) z)) v
          ∙ ap (λ k. behind (locate plain_scene b) (element_at k (value plain_scene f))) k)

      element-same : (l : core.Left) (b : body.Left) (e : core.Term) (f : Expr) (n : ℕ) → reach l ≡ locate plain_scene b
          → value core_scene (cexpr e) ≡ value plain_scene f → expr_kind (cexpr e) ≡ expr_kind f → core.kind_of e ≡ expr_kind f → IsKinded e
          → reach (element_of h.cells h.vectors l n e) ≡ locate plain_scene (body.Indexed b f)
      element-same (core.Cell q c) b e f n a v k t z = index-same (core.Cell q c) b e f n a v k
      element-same (core.Prefix q c) b e f n a v k t z = by (in_range h.cells h.vectors (size_of h.cells h.vectors n (core.Prefix q c)) (static_index h.cells h.vectors e)) refl
        where
          by : (o : Option ℕ) → in_range h.cells h.vectors (size_of h.cells h.vectors n (core.Prefix q c)) (static_index h.cells h.vectors e) ≡ o
              → reach (element_or h.cells h.vectors (core.Prefix q c) o (core.Index (core.Prefix q c) (size_of h.cells h.vectors n (core.Prefix q c)) e)) ≡ locate plain_scene (body.Indexed b f)
          by None r = index-same (core.Prefix q c) b e f n a v k
          by (Some i) r =
              let s = map-is (λ w. index_of (core.kind_of e) w) (static h.cells e) i (in_range-is (size_of h.cells h.vectors n (core.Prefix q c)) (static_index h.cells h.vectors e) i r) in
              let w : value plain_scene f ≡ Some s.0 = sym v ∙ knows e s.0 z s.1 in
              let j : index_of (expr_kind f) s.0 ≡ i = ap (λ k. index_of k s.0) (sym t) ∙ s.2 in
              ap (λ l. Some (Some l)) (extended-same c i)
              ∙ (ap (λ i. Some (Some (within (location_of home h.process c) (Element i)))) (sym j)
              ∙ (ap (λ y. element_at (expr_kind f) y (location_of home h.process c)) (sym w)
              ∙ ap (λ o. behind o (element_at (expr_kind f) (value plain_scene f))) a))
      element-same (core.Null q) b e f n a v k t z = index-same (core.Null q) b e f n a v k
      element-same (core.Follow q s l) b e f n a v k t z = index-same (core.Follow q s l) b e f n a v k
      element-same (core.Member l m) b e f n a v k t z = index-same (core.Member l m) b e f n a v k
      element-same (core.Index l m i) b e f n a v k t z = index-same (core.Index l m i) b e f n a v k

      mutual
        pub located-same : (follow : Bool) (l : Left) → IsSoundLeft home h l → reach (located h (result_name h) follow l) ≡ locate plain_scene (pleft follow l)
        located-same follow (Local p n) s = refer-same p follow (slice_get h.function.locals n) (core.Prefix p (local_name h n [])) (body.Declared n)
            (ap (λ r. let l : Location = record { root = r; path = [] } in Some (Some l)) s)
        located-same follow (Answer p n) s =
            ap (λ o. Some (Some (location_of home h.process (unwrap_or (option_map (answer_name h (n ∷ h.calls)) o) (record { path = []; own = None; indices = [] }))))) s.1
            ∙ ap (λ r. let l : Location = record { root = r; path = [] } in Some (Some l)) s.2
        located-same follow (This p) s = ap (λ b. locate core_scene b) (placed-same home h.cells h.process p h.this) ∙ this
        located-same follow (Follow p l) s =
            ap (λ o. behind o led) (named-same home h.cells h.vectors h.process core_scene (points_at h.plain h.function l) (located h (result_name h) true l) ∙ located-same true l s)
        located-same follow (term.Member l m) s =
            refer-same (term.place_at l) follow (declared_at h.plain h.function (term.Member l m))
            (member_of h.cells h.vectors (located h (result_name h) true l) (member_name (declared_at h.plain h.function (term.Member l m))))
            (body.Field (pleft true l) (member_name (declared_at h.plain h.function (term.Member l m))))
            (member-same (located h (result_name h) true l) (member_name (declared_at h.plain h.function (term.Member l m))) (pleft true l) s.1 (located-same true l s.0))
        located-same follow (Index l e) s =
            element-same (located h (result_name h) true l) (pleft true l) (copy e) (pexpr e) (size_here (sizes_at h.plain h.function l)) (located-same true l s.0)
            (copied-same e s.1) (kind-same e) (kind-copied home h e ∙ sym (kind_is h.plain h.function e s.2)) (kinded-copied home h e s.1 s.2)

        pub copied-same : (e : Term) → IsSoundTerm home h e → value core_scene (cexpr (copy e)) ≡ value plain_scene (pexpr e)
        copied-same (Literal q k w) s = refl
        copied-same (Load q k l) s = ap (λ o. option_map (λ l. loaded (places.things l) (store.words l)) (followed o))
            (named-same home h.cells h.vectors h.process core_scene (points_at h.plain h.function l) (located h (result_name h) true l) ∙ located-same true l s)
        copied-same (Read q k l) s = ap (λ o. option_map (λ l. sensed (places.things l) signals l) (followed o))
            (named-same home h.cells h.vectors h.process core_scene (points_at h.plain h.function l) (located h (result_name h) true l) ∙ located-same true l s)
        copied-same (Convert q k e) s = let v = copied-same e s in let j = kind-same e in
            ap (λ o. option_map (λ x. stored k (number_of (expr_kind (cexpr (copy e))) x)) o) v ∙ ap (λ j. option_map (λ x. stored k (number_of j x)) (value plain_scene (pexpr e))) j
        copied-same (Unary q k o a) s = let v = copied-same a s in let j = kind-same a in
            ap (λ z. option_and_then (λ x. applied o (expr_kind (cexpr (copy a))) x (expr_kind (cexpr (copy a))) x) z) v ∙ ap (λ j. option_and_then (λ x. applied o j x j x) (value plain_scene (pexpr a))) j
        copied-same (Binary q k o a b) s = same_two (λ j k x y. applied o j x k y) (copied-same a s.0) (copied-same b s.1) (kind-same a) (kind-same b)
        copied-same (Choose q m n a b) s =
            same_three (λ n j k x y. Some (chosen n (stored m (number_of j x)) (stored m (number_of k y)))) (copied-same n s.0) (copied-same a s.1) (copied-same b s.2) (kind-same a) (kind-same b)
        copied-same (Bit q a e) s = same_two (λ j k x i. Some (bit_at (width_of j) x (index_of k i))) (copied-same a s.0) (copied-same e s.1) (kind-same a) (kind-same e)
        copied-same (Range q k a m l) s = ap (λ z. option_map (part m l) z) (copied-same a s)
        copied-same (Join q k a b) s = same_two (λ j k x y. Some (joined (width_of k) x y)) (copied-same a s.0) (copied-same b s.1) (kind-same a) (kind-same b)
