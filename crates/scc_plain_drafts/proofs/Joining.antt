-- A concatenation with a further part, by kinds, numbers and terms.
use Rattle.std.specs.Prelude.{◌≡◌, ℕ, ◌+◌, ◌<◌, ◌≤◌, Bool, true, false, not, ◌&&◌, ◌||◌, nat_le, List, [], ◌∷◌, ◌++◌, Some, None, unwrap_or}
use Rattle.std.specs.List.{list_all}
use Rattle.std.proofs.Common.{refl, sym, ◌∙◌, ap, subst, arith}
use Rattle.scc_bits_kinds.specs.declared.kind.Kind.{Kind}
use Rattle.scc_bits_kinds.specs.Kinds.{width_of}
use Rattle.scc_bits_kinds.specs.Groups.{group_of, is_bits, is_large}
use Rattle.scc_bits_kinds.specs.Bits.{is_part, concat_of, joined_kind}
use Rattle.scc_plain_spec.specs.Numbers.{widths, joined_kinds}
use Rattle.scc_plain_drafts.specs.declared.join.Sum.{Sum}
use Rattle.scc_plain_drafts.specs.declared.join.Sum.TheVariants as sum
use Rattle.scc_plain_drafts.specs.Joins.{Together, SumStands}

-- ---- kinds

pub parts_more : (ks : List Kind) (low : Kind) → is_part low ≡ true → list_all is_part (ks ++ low ∷ []) ≡ list_all is_part ks
parts_more [] low e = rw e refl
parts_more (k ∷ ks) low e = ap (λ x. is_part k && x) (parts_more ks low e)

and_false : (b : Bool) → (b && false) ≡ false
and_false true = refl
and_false false = refl

pub parts_spoilt : (ks : List Kind) (low : Kind) → is_part low ≡ false → list_all is_part (ks ++ low ∷ []) ≡ false
parts_spoilt [] low e = rw e refl
parts_spoilt (k ∷ ks) low e = ap (λ x. is_part k && x) (parts_spoilt ks low e) ∙ and_false (is_part k)

pub widths_more : (ks : List Kind) (low : Kind) → widths (ks ++ low ∷ []) ≡ widths ks + width_of low
widths_more [] low = omega arith
widths_more (k ∷ ks) low = let e = widths_more ks low in omega arith

pub kind_more : (j : Kind) (ks : List Kind) (low : Kind) → joined_kinds j (ks ++ low ∷ []) ≡ unwrap_or (concat_of (joined_kinds j ks) low) (joined_kinds j ks)
kind_more j [] low = refl
kind_more j (k ∷ ks) low = kind_more (unwrap_or (concat_of j k) j) ks low

one_part : (j k : Kind) (n : ℕ) → (is_part (joined_kind j k n) ≡ true) × (width_of (joined_kind j k n) ≡ n)
one_part j k n = by (is_bits (group_of j) || is_bits (group_of k)) (nat_le n 64 && not (is_large (group_of j) || is_large (group_of k))) refl refl
  where
    by : (b c : Bool) → (is_bits (group_of j) || is_bits (group_of k)) ≡ b → (nat_le n 64 && not (is_large (group_of j) || is_large (group_of k))) ≡ c → (is_part (joined_kind j k n) ≡ true) × (width_of (joined_kind j k n) ≡ n)
    by true c e f = rw e (refl, refl)
    by false true e f = rw (e, f) (refl, refl)
    by false false e f = rw (e, f) (refl, refl)

pub both_parts : (a b : Bool) → (a && b) ≡ true → (a ≡ true) × (b ≡ true)
both_parts true b e = (refl, e)
both_parts false b e = absurd (cc)

all_one : (j : Kind) (ks : List Kind) → is_part j ≡ true → list_all is_part ks ≡ true → (is_part (joined_kinds j ks) ≡ true) × (width_of (joined_kinds j ks) ≡ width_of j + widths ks)
all_one j [] e f = (e, omega arith)
all_one j (k ∷ ks) e f =
    let p = both_parts (is_part k) (list_all is_part ks) f in
    let i = joined_kind j k (width_of j + width_of k) in
    let o = one_part j k (width_of j + width_of k) in
    let rest = all_one i ks o.0 p.1 in
    let is : unwrap_or (concat_of j k) j ≡ i = rw (e, p.0) refl in
    (ap (λ i. is_part (joined_kinds i ks)) is ∙ rest.0, ap (λ i. width_of (joined_kinds i ks)) is ∙ rest.1 ∙ (let w = o.1 in omega arith))

pub width_of_all : (k j : Kind) (ks : List Kind) → Together k j ks → (is_part k ≡ true) × (width_of k ≡ widths (j ∷ ks))
width_of_all k j ks h =
    let p = both_parts (is_part j) (list_all is_part ks) h.parts in
    let a = all_one j ks p.0 p.1 in
    (ap is_part h.kind ∙ a.0, ap width_of h.kind ∙ a.1)

pub with_none : (ks : List Kind) (low : Kind) (r : Sum) → (is_part low ≡ true → SumStands r (low ∷ [])) → is_part low ≡ true → SumStands sum.Nothing ks → SumStands r (ks ++ low ∷ [])
with_none ks low r f p h = subst (λ xs. SumStands r (xs ++ low ∷ [])) (sym h) (f p)

pub with_wide : (k low : Kind) (ks : List Kind) → is_part low ≡ true → 128 < width_of k + width_of low → SumStands (sum.Of k) ks → SumStands sum.TooWide (ks ++ low ∷ [])
with_wide k low [] p w h = absurd h
with_wide k low (j ∷ ks) p w h = (parts_more (j ∷ ks) low p ∙ h.parts, (let a = (width_of_all k j ks h).1 in let b = widths_more (j ∷ ks) low in omega arith))

pub with_part : (k low i : Kind) (ks : List Kind) → is_part low ≡ true → width_of k + width_of low ≤ 128 → concat_of k low ≡ Some i → SumStands (sum.Of k) ks → SumStands (sum.Of i) (ks ++ low ∷ [])
with_part k low i [] p w e h = absurd h
with_part k low i (j ∷ ks) p w e h = record {
  parts = parts_more (j ∷ ks) low p ∙ h.parts;
  narrow = let a = (width_of_all k j ks h).1 in let b = widths_more (j ∷ ks) low in omega arith;
  kind = sym (kind_more j ks low ∙ ap (λ m. unwrap_or (concat_of m low) m) (sym h.kind) ∙ ap (λ o. unwrap_or o k) e);
}

-- two parts have a concatenation
pub with_no_kind : (k low : Kind) (ks : List Kind) → is_part low ≡ true → concat_of k low ≡ None → SumStands (sum.Of k) ks → ⊥
with_no_kind k low [] p e h = h
with_no_kind k low (j ∷ ks) p e h =
    let a = (width_of_all k j ks h).0 in
    let is : concat_of k low ≡ Some (joined_kind k low (width_of k + width_of low)) = rw (a, p) refl in
    cc

pub with_spoilt : (low : Kind) (ks : List Kind) → is_part low ≡ true → SumStands sum.NoPart ks → SumStands sum.NoPart (ks ++ low ∷ [])
with_spoilt low ks p h = parts_more ks low p ∙ h

pub with_wider : (low : Kind) (ks : List Kind) → is_part low ≡ true → SumStands sum.TooWide ks → SumStands sum.TooWide (ks ++ low ∷ [])
with_wider low ks p h = (parts_more ks low p ∙ h.0, (let b = widths_more ks low in let l = h.1 in omega arith))

pub alone_stands : (low : Kind) → width_of low ≤ 128 → is_part low ≡ true → SumStands (sum.Of low) (low ∷ [])
alone_stands low w p = record { parts = rw p refl; narrow = omega arith; kind = refl }

pub alone_wide : (low : Kind) → 128 < width_of low → is_part low ≡ true → SumStands sum.TooWide (low ∷ [])
alone_wide low w p = (rw p refl, omega arith)
