-- What is asked of numbers one after the other, said of their list; and what of a list stands behind a number.
use Rattle.std.proofs.Common.{◌≡◌, ℕ, nat_eq, Bool, true, false, ◌||◌, if◌then◌else◌, List, [], ◌∷◌, Option, Some, None, inl, inr, refl, sym, subst, ◌∙◌, eq-eqb, ne_eqb}
use Rattle.std.proofs.lemmas.Bool.{both_ways, or_parts, or_from, or_cases, or_left, or_right, eqb-true, false_from_ne_true}
use Rattle.scc_svtree.specs.declared.module.SvSet.{SvSet}
use Rattle.scc_svtree.specs.Sound.{is_among, targets, IsAbsent, Distinct, IsPartOf}

abbrev pub Apart : (ℕ → Bool) → (ℕ → Bool) → Type 0
Apart a b = (v : ℕ) → a v ≡ true → b v ≡ false

pub not_both : {A : Type 0} (b : Bool) → b ≡ true → b ≡ false → A
not_both b t f = absurd (both_ways b f t)

pub self_eq : (n : ℕ) → nat_eq n n ≡ true
self_eq n = eq-eqb n n refl

-- what a test says of a number is said of one that equals it
moved_to : (q : ℕ → Bool) (m n : ℕ) (b : Bool) → nat_eq m n ≡ true → q m ≡ b → q n ≡ b
moved_to q m n b e h = subst (λ (k : ℕ). q k ≡ b) (eqb-true m n e) h

-- ---- each is outside, and none stands twice

abbrev pub Kept : (ℕ → Bool) → (ℕ → Bool) → List ℕ → Type 0
Kept a q [] = Unit {0}
Kept a q (n ∷ ns) = ((a n || q n) ≡ false) × Kept a (λ v. q v || nat_eq n v) ns

absent_from : (n : ℕ) (ns : List ℕ) → is_among ns n ≡ false → IsAbsent n ns
absent_from n [] h = tt
absent_from n (m ∷ ms) h =
    let p = or_parts (nat_eq m n) (is_among ms n) h in
    (λ e. not_both (nat_eq m n) (eq-eqb m n (sym e)) p.0, absent_from n ms p.1)

absent_is : (n : ℕ) (ns : List ℕ) → IsAbsent n ns → (v : ℕ) → is_among ns v ≡ true → nat_eq n v ≡ false
absent_is n [] h v e = cc
absent_is n (m ∷ ms) h v e = elim (or_cases (nat_eq m v) (is_among ms v) e) [
  | inl a ↦ ne_eqb n v (λ s. h.0 (s ∙ sym (eqb-true m v a)))
  | inr b ↦ absent_is n ms h.1 v b
]

pub kept_apart : (a q : ℕ → Bool) (ns : List ℕ) → Kept a q ns → Apart (is_among ns) a
kept_apart a q [] k v e = cc
kept_apart a q (n ∷ ns) k v e = elim (or_cases (nat_eq n v) (is_among ns v) e) [
  | inl s ↦ moved_to a n v false s (or_parts (a n) (q n) k.0).0
  | inr r ↦ kept_apart a (λ u. q u || nat_eq n u) ns k.1 v r
]

kept_new : (a q : ℕ → Bool) (ns : List ℕ) → Kept a q ns → Apart (is_among ns) q
kept_new a q [] k v e = cc
kept_new a q (n ∷ ns) k v e = elim (or_cases (nat_eq n v) (is_among ns v) e) [
  | inl s ↦ moved_to q n v false s (or_parts (a n) (q n) k.0).1
  | inr r ↦ (or_parts (q v) (nat_eq n v) (kept_new a (λ u. q u || nat_eq n u) ns k.1 v r)).0
]

pub kept_distinct : (a q : ℕ → Bool) (ns : List ℕ) → Kept a q ns → Distinct ns
kept_distinct a q [] k = tt
kept_distinct a q (n ∷ ns) k =
    let new = kept_new a (λ u. q u || nat_eq n u) ns k.1 in (
      absent_from n ns (false_from_ne_true (is_among ns n) (λ e. both_ways (nat_eq n n) (or_parts (q n) (nat_eq n n) (new n e)).1 (self_eq n))),
      kept_distinct a (λ u. q u || nat_eq n u) ns k.1,
    )

pub kept_from : (a q : ℕ → Bool) (ns : List ℕ) → Apart (is_among ns) a → Apart (is_among ns) q → Distinct ns → Kept a q ns
kept_from a q [] p r d = tt
kept_from a q (n ∷ ns) p r d =
    let top : is_among (n ∷ ns) n ≡ true = or_left (nat_eq n n) (is_among ns n) (self_eq n) in (
      or_from (a n) (q n) (p n top) (r n top),
      kept_from a (λ u. q u || nat_eq n u) ns (λ v e. p v (or_right (nat_eq n v) (is_among ns v) e))
          (λ v e. or_from (q v) (nat_eq n v) (r v (or_right (nat_eq n v) (is_among ns v) e)) (absent_is n ns d.0 v e)) d.1,
    )

-- ---- parts of a list

part_among : (ms ns : List ℕ) → IsPartOf ms ns → (v : ℕ) → is_among ms v ≡ true → is_among ns v ≡ true
part_among [] ns p v e = cc
part_among (m ∷ ms) [] p v e = absurd p
part_among (m ∷ ms) (n ∷ ns) p v e = elim p [
  | inl h ↦ elim (or_cases (nat_eq m v) (is_among ms v) e) [
    | inl s ↦ or_left (nat_eq n v) (is_among ns v) (subst (λ (k : ℕ). nat_eq k v ≡ true) h.0 s)
    | inr r ↦ or_right (nat_eq n v) (is_among ns v) (part_among ms ns h.1 v r)
  ]
  | inr h ↦ or_right (nat_eq n v) (is_among ns v) (part_among (m ∷ ms) ns h v e)
]

pub part_distinct : (ms ns : List ℕ) → IsPartOf ms ns → Distinct ns → Distinct ms
part_distinct [] ns p d = tt
part_distinct (m ∷ ms) [] p d = absurd p
part_distinct (m ∷ ms) (n ∷ ns) p d = elim p [
  | inl h ↦ (
    absent_from m ms (false_from_ne_true (is_among ms m) (λ e. both_ways (nat_eq n m) (absent_is n ns d.0 m (part_among ms ns h.1 m e)) (eq-eqb n m (sym h.0)))),
    part_distinct ms ns h.1 d.1,
  )
  | inr h ↦ part_distinct (m ∷ ms) ns h d.1
]

-- ---- what stands behind the first of a number

abbrev pub rest_of : ℕ → List SvSet → Option (List SvSet)
rest_of m [] = None
rest_of m (u ∷ us) = if nat_eq m u.target.0 then Some us else rest_of m us

abbrev pub is_lost : Option (List SvSet) → Bool
is_lost None = true
is_lost (Some us) = false

abbrev pub left : Option (List SvSet) → List SvSet
left None = []
left (Some us) = us

part_tail : (m : ℕ) (ms ns : List ℕ) → IsPartOf (m ∷ ms) ns → IsPartOf ms ns
part_tail m ms [] p = absurd p
part_tail m [] (n ∷ ns) p = tt
part_tail m (l ∷ ms) (n ∷ ns) p = elim p [
  | inl h ↦ inr h.1
  | inr h ↦ inr (part_tail m (l ∷ ms) ns h)
]

-- A part is found by taking the first of each number.
record Found (ms : List ℕ) (o : Option (List SvSet)) : Type 0 where
  at_all : is_lost o ≡ false
  more : IsPartOf ms (targets (left o))

find_part : (m : ℕ) (ms : List ℕ) (us : List SvSet) → IsPartOf (m ∷ ms) (targets us) → Found ms (rest_of m us)
find_part m ms [] p = absurd p
find_part m ms (u ∷ us) p = go (nat_eq m u.target.0) refl (find_part m ms us)
  where
    go : (b : Bool) → nat_eq m u.target.0 ≡ b → (IsPartOf (m ∷ ms) (targets us) → Found ms (rest_of m us)) → Found ms (if b then Some us else rest_of m us)
    go true e k = record {
      at_all = refl;
      more = elim p [
        | inl h ↦ h.1
        | inr h ↦ part_tail m ms (targets us) h
      ];
    }
    go false e k = elim p [
      | inl h ↦ not_both (nat_eq m u.target.0) (eq-eqb m u.target.0 h.0) e
      | inr h ↦ k h
    ]

part_found : (m : ℕ) (ms : List ℕ) (us : List SvSet) → is_lost (rest_of m us) ≡ false → IsPartOf ms (targets (left (rest_of m us))) → IsPartOf (m ∷ ms) (targets us)
part_found m ms [] h p = cc
part_found m ms (u ∷ us) h p = go (nat_eq m u.target.0) refl h p (part_found m ms us)
  where
    go : (b : Bool) → nat_eq m u.target.0 ≡ b → is_lost (if b then Some us else rest_of m us) ≡ false → IsPartOf ms (targets (left (if b then Some us else rest_of m us)))
        → (is_lost (rest_of m us) ≡ false → IsPartOf ms (targets (left (rest_of m us))) → IsPartOf (m ∷ ms) (targets us)) → IsPartOf (m ∷ ms) (targets (u ∷ us))
    go true e h p k = inl (eqb-true m u.target.0 e, p)
    go false e h p k = inr (k h p)

pub to_part : (m : ℕ) (ms : List ℕ) (us : List SvSet) → (is_lost (rest_of m us) ≡ false) × IsPartOf ms (targets (left (rest_of m us))) → IsPartOf (m ∷ ms) (targets us)
to_part m ms us p = part_found m ms us p.0 p.1

pub from_part : (m : ℕ) (ms : List ℕ) (us : List SvSet) → IsPartOf (m ∷ ms) (targets us) → (is_lost (rest_of m us) ≡ false) × IsPartOf ms (targets (left (rest_of m us)))
from_part m ms us p = let f : Found ms (rest_of m us) = find_part m ms us p in (f.at_all, f.more)
