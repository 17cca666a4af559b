-- How what is seen on paths goes together.
use Rattle.std.proofs.Common.{◌≡◌, ◌≢◌, refl, arith, ℕ, zero, suc, List, [], ◌∷◌, map, get_or, length, ◌+◌, ◌<◌, ◌≤◌, min, max, nat_eq, ap, ◌∙◌, sym}
use Rattle.std.proofs.Common.{subst, Bool, true, false, ◌||◌, if◌then◌else◌, ◌⊎◌, inl, inr}
use Rattle.std.proofs.Math.ListN.{set}
use Rattle.std.proofs.lemmas.List.{get_or-set_same, get_or-set_other}
use Rattle.std.proofs.lemmas.Bool.Decides.{eqb_tells}
use Rattle.scc_states_sum.specs.declared.sum.Seen.{Seen}
use Rattle.scc_states_sum.specs.Elements.{cut, most}
use Rattle.scc_states_sum.specs.Live.{Live, deepest, passed, exit, behind, either, block, endless}
use Rattle.scc_states_sum.specs.Paths.{Lives}
use Rattle.scc_states_sum.proofs.Counts.{cut_more}

abbrev seen : ℕ → Bool → Seen
seen n b = record { elements = n; ends = b }

or_nothing : (a : Bool) → a ≡ (a || false)
or_nothing true = refl
or_nothing false = refl

or_assoc : (a b c : Bool) → ((a || b) || c) ≡ (a || (b || c))
or_assoc true b c = refl
or_assoc false b c = refl

or_true : (a : Bool) → true ≡ (a || true)
or_true true = refl
or_true false = refl

-- nothing is left
pub lives_passed : (d n e : ℕ) (old : List Bool) → e ≡ cut n → Lives d old old (seen e true) (passed n)
lives_passed d n e old h = record { elements = h; ends = refl; leaves = λ p k i. or_nothing (get_or old p true) }

pub lives_endless : (d : ℕ) (old new : List Bool) (s : Seen) (l : Live) → Lives d old new s l → Lives d old new (seen s.elements false) (endless l)
lives_endless d old new s l h = record { elements = h.elements; ends = refl; leaves = h.leaves }

-- a test and both branches
either_count : (m t a b : ℕ) → min (min t m + min (min a m + min b m) m) m ≡ min (t + (a + b)) m
either_count m t a b = omega arith

pub lives_either : (d : ℕ) (old mid new : List Bool) (a b : Seen) (k l : Live) (t n : ℕ) (ends : Bool) → Lives d old mid a k → Lives d mid new b l → t ≡ cut n
    → ends ≡ (a.ends || b.ends) → (e : ℕ) → e ≡ cut (t + cut (a.elements + b.elements))
    → Lives d old new (seen e ends) (either n k l)
lives_either d old mid new a b k l t n ends h i j q e r = record {
  elements = r ∙ ap (λ x. cut (x + cut (a.elements + b.elements))) j ∙ ap (λ x. cut (cut n + cut (x + b.elements))) h.elements
      ∙ ap (λ x. cut (cut n + cut (cut k.elements + x))) i.elements ∙ either_count most n k.elements l.elements;
  ends = q ∙ ap (λ x. x || b.ends) h.ends ∙ ap (λ x. k.ends || x) i.ends;
  leaves = λ p z is. i.leaves p z is ∙ ap (λ x. x || l.leaves z) (h.leaves p z is) ∙ or_assoc (get_or old p true) (k.leaves z) (l.leaves z);
}

-- one behind another
abbrev both : Live → Live → Live
both k l = record { elements = k.elements + l.elements; ends = l.ends; leaves = λ z. k.leaves z || l.leaves z }

pub lives_behind : (d : ℕ) (old mid new : List Bool) (a b : Seen) (k l : Live) → Lives d old mid a k → k.ends ≡ true → Lives d mid new b l
    → (e : ℕ) → e ≡ cut (a.elements + b.elements) → Lives d old new (seen e b.ends) (behind k l)
lives_behind d old mid new a b k l h t i e r = subst (λ x. Lives d old new (seen e b.ends) (if x then both k l else k)) (sym t) (record {
  elements = r ∙ ap (λ x. cut (x + b.elements)) h.elements ∙ ap (λ x. cut (cut k.elements + x)) i.elements ∙ cut_more most k.elements l.elements;
  ends = i.ends;
  leaves = λ p z is. i.leaves p z is ∙ ap (λ x. x || l.leaves z) (h.leaves p z is) ∙ or_assoc (get_or old p true) (k.leaves z) (l.leaves z);
})

-- no path goes on
pub lives_stopped : (d : ℕ) (old new : List Bool) (a : Seen) (k l : Live) → Lives d old new a k → k.ends ≡ false → Lives d old new a (behind k l)
lives_stopped d old new a k l h t = subst (λ x. Lives d old new a (if x then both k l else k)) (sym t) h

-- ---- blocks

further : (p k d : ℕ) → p + suc k ≡ d → p + suc (suc k) ≡ d + 1
further p k d h = omega (arith, h)

below : (p k d : ℕ) → p + suc k ≡ d → p ≡ d → 1 ≤ 0
below p k d h i = omega (arith, h, i)

none_below : 1 ≤ 0 → (A : Type 0) → A
none_below h A = absurd (omega (arith, h))

other : (old : List Bool) (d p k : ℕ) → p + suc k ≡ d → get_or (set old d false) p true ≡ get_or old p true
other old d p k h = get_or-set_other old d p false true (λ i. none_below (below p k d h i) _)

here : (old : List Bool) (d : ℕ) → d < length old → get_or (set old d false) d true ≡ false
here old d h = get_or-set_same old d false true h

pub lives_block : (d n : ℕ) (old begun new : List Bool) (s : Seen) (l : Live) (left ends : Bool) → n ≡ d + 1 → begun ≡ set old d false → d < length old
    → Lives n begun new s l
    → left ≡ get_or new d true → ends ≡ (s.ends || left) → Lives d old new (seen s.elements ends) (block l)
lives_block d n old begun new s l left ends q b f h i j = record {
  elements = h.elements;
  ends = j ∙ ap (λ x. x || left) h.ends
      ∙ ap (λ x. l.ends || x) (i ∙ h.leaves d 0 (sym q) ∙ ap (λ xs. get_or xs d true || l.leaves 0) b ∙ ap (λ x. x || l.leaves 0) (here old d f));
  leaves = λ p k is. h.leaves p (suc k) (further p k d is ∙ sym q) ∙ ap (λ xs. get_or xs p true || l.leaves (suc k)) b
      ∙ ap (λ x. x || l.leaves (suc k)) (other old d p k is);
}

-- ---- exits

same_block : (p k n d outer : ℕ) → p + suc k ≡ d → outer + suc n ≡ d → k ≡ n → p ≡ outer
same_block p k n d outer h i j = omega (arith, h, i, j)

same_number : (p k n d outer : ℕ) → p + suc k ≡ d → outer + suc n ≡ d → p ≡ outer → k ≡ n
same_number p k n d outer h i j = omega (arith, h, i, j)

exits : (p k n outer : ℕ) (old : List Bool) → outer < length old → (k ≡ n → p ≡ outer) → (p ≡ outer → k ≡ n)
    → ((nat_eq k n ≡ true) × (k ≡ n)) ⊎ ((nat_eq k n ≡ false) × (k ≢ n))
    → get_or (set old outer true) p true ≡ (get_or old p true || nat_eq k n)
exits p k n outer old f to from (inl h) =
    ap (λ z. get_or (set old outer true) z true) (to h.1) ∙ get_or-set_same old outer true true f
    ∙ or_true (get_or old p true) ∙ ap (λ x. get_or old p true || x) (sym h.0)
exits p k n outer old f to from (inr h) =
    get_or-set_other old outer p true true (λ i. h.1 (from i))
    ∙ or_nothing (get_or old p true) ∙ ap (λ x. get_or old p true || x) (sym h.0)

pub lives_exit : (d n outer : ℕ) (old new : List Bool) → outer + suc n ≡ d → outer < length old → new ≡ set old outer true
    → Lives d old new (seen 0 false) (exit n)
lives_exit d n outer old new o f is = record {
  elements = refl;
  ends = refl;
  leaves = λ p k h. ap (λ xs. get_or xs p true) is ∙ exits p k n outer old f (same_block p k n d outer h o) (same_number p k n d outer h o) (eqb_tells k n);
}

not_so_far : (p k n d : ℕ) → p + suc k ≡ d → d ≤ n → k ≡ n → 1 ≤ 0
not_so_far p k n d h i j = omega (arith, h, i, j)

stays : (a : Bool) (k n : ℕ) → (k ≡ n → 1 ≤ 0) → ((nat_eq k n ≡ true) × (k ≡ n)) ⊎ ((nat_eq k n ≡ false) × (k ≢ n)) → a ≡ (a || nat_eq k n)
stays a k n h (inl i) = none_below (h i.1) _
stays a k n h (inr i) = or_nothing a ∙ ap (λ x. a || x) (sym i.0)

-- an exit of a block that isn't there
pub lives_lost : (d n : ℕ) (old new : List Bool) → d ≤ n → new ≡ old → Lives d old new (seen 0 false) (exit n)
lives_lost d n old new i is = record {
  elements = refl;
  ends = refl;
  leaves = λ p k h. ap (λ xs. get_or xs p true) is ∙ stays (get_or old p true) k n (not_so_far p k n d h i) (eqb_tells k n);
}

-- ---- depths

first_within : (a b m : ℕ) → max a b ≤ m → a ≤ m
first_within a b m h = omega (arith, h)

others_within : (a b m : ℕ) → max a b ≤ m → b ≤ m
others_within a b m h = omega (arith, h)

no_item : (i : ℕ) → i < 0 → 1 ≤ 0
no_item i h = omega (arith, h)

one_less : (i n : ℕ) → suc i < suc n → i < n
one_less i n h = omega (arith, h)

-- an item is no deeper than the deepest
pub within_deepest : {X : Type 0} (f : X → ℕ) (xs : List X) (i : ℕ) (x : X) (m : ℕ) → i < length xs → x ≡ get_or xs i x → deepest (map f xs) ≤ m → f x ≤ m
within_deepest f [] i x m h is k = none_below (no_item i h) _
within_deepest f (y ∷ ys) zero x m h is k = subst (λ z. f z ≤ m) (sym is) (first_within (f y) (deepest (map f ys)) m k)
within_deepest f (y ∷ ys) (suc i) x m h is k = within_deepest f ys i x m (one_less i (length ys) h) is (others_within (f y) (deepest (map f ys)) m k)
