-- A concatenation with a further part.
use Rattle.std.specs.Prelude.{◌≡◌, ℕ, ◌+◌, ◌<◌, ◌≤◌, Bool, true, false, not, ◌&&◌, ◌||◌, nat_le, List, [], ◌∷◌, ◌++◌, Some, None, unwrap_or}
use Rattle.std.proofs.Common.{refl, sym, ◌∙◌, ap, subst, arith}
use Rattle.scc_bits_kinds.specs.declared.kind.Kind.{Kind}
use Rattle.scc_bits_kinds.specs.declared.kind.Kind.TheVariants as kind
use Rattle.scc_bits_kinds.specs.Kinds.{IsValid, width_of}
use Rattle.scc_bits_kinds.specs.Groups.{group_of, is_bits, is_large}
use Rattle.scc_bits_kinds.specs.Bits.{is_part, concat_of, joined_kind, joined}
use Rattle.scc_bits.specs.Value.{Number}
use Rattle.scc_plain_spec.specs.Numbers.{kinds_of, widths, joined_kinds, joined_words}
use Rattle.scc_templates_scopes.specs.declared.join.Parts.TheVariants as parts
use Rattle.scc_templates_scopes.specs.Joins.{are_parts, Together, StandsBy}

and_last : (b c d : Bool) → c ≡ d → (b && c) ≡ (b && d)
and_last b c d e = ap (λ x. b && x) e

parts_more : (ns : List Number) (low : Number) → is_part low.kind ≡ true → are_parts (ns ++ low ∷ []) ≡ are_parts ns
parts_more [] low e = rw e refl
parts_more (n ∷ ns) low e = ap (λ x. is_part n.kind && x) (parts_more ns low e)

and_false : (b : Bool) → (b && false) ≡ false
and_false true = refl
and_false false = refl

parts_spoilt : (ns : List Number) (low : Number) → is_part low.kind ≡ false → are_parts (ns ++ low ∷ []) ≡ false
parts_spoilt [] low e = rw e refl
parts_spoilt (n ∷ ns) low e = ap (λ x. is_part n.kind && x) (parts_spoilt ns low e) ∙ and_false (is_part n.kind)

widths_more : (ns : List Number) (low : Number) → widths (kinds_of (ns ++ low ∷ [])) ≡ widths (kinds_of ns) + width_of low.kind
widths_more [] low = omega arith
widths_more (n ∷ ns) low = let e = widths_more ns low in omega arith

kind_more : (j : Kind) (ns : List Number) (low : Number) → joined_kinds j (kinds_of (ns ++ low ∷ [])) ≡ unwrap_or (concat_of (joined_kinds j (kinds_of ns)) low.kind) (joined_kinds j (kinds_of ns))
kind_more j [] low = refl
kind_more j (n ∷ ns) low = kind_more (unwrap_or (concat_of j n.kind) j) ns low

word_more : (x : ℕ) (ns : List Number) (low : Number) → joined_words x (ns ++ low ∷ []) ≡ joined (width_of low.kind) (joined_words x ns) low.word
word_more x [] low = refl
word_more x (n ∷ ns) low = word_more (joined (width_of n.kind) x n.word) ns low

-- two parts are one, of both widths
one_part : (j k : Kind) (n : ℕ) → (is_part (joined_kind j k n) ≡ true) × (width_of (joined_kind j k n) ≡ n)
one_part j k n = by (is_bits (group_of j) || is_bits (group_of k)) (nat_le n 64 && not (is_large (group_of j) || is_large (group_of k))) refl refl
  where
    by : (b c : Bool) → (is_bits (group_of j) || is_bits (group_of k)) ≡ b → (nat_le n 64 && not (is_large (group_of j) || is_large (group_of k))) ≡ c → (is_part (joined_kind j k n) ≡ true) × (width_of (joined_kind j k n) ≡ n)
    by true c e f = rw e (refl, refl)
    by false true e f = rw (e, f) (refl, refl)
    by false false e f = rw (e, f) (refl, refl)

both_parts : (a b : Bool) → (a && b) ≡ true → (a ≡ true) × (b ≡ true)
both_parts true b e = (refl, e)
both_parts false b e = absurd (cc)

-- parts of one kind and then others are one part, of all widths
all_one : (j : Kind) (ns : List Number) → is_part j ≡ true → are_parts ns ≡ true → (is_part (joined_kinds j (kinds_of ns)) ≡ true) × (width_of (joined_kinds j (kinds_of ns)) ≡ width_of j + widths (kinds_of ns))
all_one j [] e f = (e, omega arith)
all_one j (n ∷ ns) e f =
    let p = both_parts (is_part n.kind) (are_parts ns) f in
    let k = joined_kind j n.kind (width_of j + width_of n.kind) in
    let o = one_part j n.kind (width_of j + width_of n.kind) in
    let rest = all_one k ns o.0 p.1 in
    let is : unwrap_or (concat_of j n.kind) j ≡ k = rw (e, p.0) refl in
    (ap (λ i. is_part (joined_kinds i (kinds_of ns))) is ∙ rest.0, ap (λ i. width_of (joined_kinds i (kinds_of ns))) is ∙ rest.1 ∙ (let w = o.1 in omega arith))

-- the numbers of a valid kind have at most 128 bits
pub at_most : (k : Kind) → IsValid k → width_of k ≤ 128
at_most kind.Bool v = omega arith
at_most (kind.Native w s) v = omega arith
at_most (kind.Int w) v = omega (arith, v.1)
at_most (kind.Uint w) v = omega (arith, v.1)
at_most (kind.Big w) v = v.1
at_most (kind.BigInt w) v = v.1
at_most (kind.Bv w) v = v.1
at_most (kind.Wide b s) v = omega arith

pub with_no_part : (m low : Number) (ns : List Number) → is_part low.kind ≡ false → StandsBy parts.NoPart m (ns ++ low ∷ [])
with_no_part m low ns e = parts_spoilt ns low e

pub with_first : (m low : Number) (ns : List Number) → IsValid low.kind → is_part low.kind ≡ true → StandsBy parts.Nothing m ns → StandsBy parts.Number low (ns ++ low ∷ [])
with_first m low ns v e h = subst (λ xs. StandsBy parts.Number low (xs ++ low ∷ [])) (sym h) (record { parts = rw e refl; narrow = let k = at_most low.kind v in omega arith; kind = refl; word = omega arith })

-- the width of all parts that one number stands for
width_of_all : (m n : Number) (ns : List Number) → Together m n ns → (is_part m.kind ≡ true) × (width_of m.kind ≡ widths (kinds_of (n ∷ ns)))
width_of_all m n ns h =
    let p = both_parts (is_part n.kind) (are_parts ns) h.parts in
    let a = all_one n.kind ns p.0 p.1 in
    (ap is_part h.kind ∙ a.0, ap width_of h.kind ∙ a.1)

pub with_part : (m low v : Number) (ns : List Number) → is_part low.kind ≡ true → concat_of m.kind low.kind ≡ Some v.kind → v.word ≡ joined (width_of low.kind) m.word low.word → width_of m.kind + width_of low.kind ≤ 128 → StandsBy parts.Number m ns → StandsBy parts.Number v (ns ++ low ∷ [])
with_part m low v [] p k w u h = absurd h
with_part m low v (n ∷ ns) p k w u h = record {
  parts = parts_more (n ∷ ns) low p ∙ h.parts;
  narrow = let a = (width_of_all m n ns h).1 in let b = widths_more (n ∷ ns) low in omega arith;
  kind = sym (kind_more n.kind ns low ∙ ap (λ j. unwrap_or (concat_of j low.kind) j) (sym h.kind) ∙ ap (λ o. unwrap_or o m.kind) k);
  word = w ∙ ap (λ x. joined (width_of low.kind) x low.word) h.word ∙ sym (word_more 0 (n ∷ ns) low);
}

pub with_wide : (m low : Number) (ns : List Number) → is_part low.kind ≡ true → 128 < width_of m.kind + width_of low.kind → StandsBy parts.Number m ns → StandsBy parts.TooWide m (ns ++ low ∷ [])
with_wide m low [] p w h = absurd h
with_wide m low (n ∷ ns) p w h = (parts_more (n ∷ ns) low p ∙ h.parts, (let a = (width_of_all m n ns h).1 in let b = widths_more (n ∷ ns) low in omega arith))

-- two parts have a concatenation
pub with_none : (m low : Number) (ns : List Number) → is_part low.kind ≡ true → concat_of m.kind low.kind ≡ None → StandsBy parts.Number m ns → ⊥
with_none m low [] p e h = h
with_none m low (n ∷ ns) p e h =
    let a = (width_of_all m n ns h).0 in
    let is : concat_of m.kind low.kind ≡ Some (joined_kind m.kind low.kind (width_of m.kind + width_of low.kind)) = rw (a, p) refl in
    cc

pub with_spoilt : (m low : Number) (ns : List Number) → is_part low.kind ≡ true → StandsBy parts.NoPart m ns → StandsBy parts.NoPart m (ns ++ low ∷ [])
with_spoilt m low ns p h = parts_more ns low p ∙ h

pub with_wider : (m low : Number) (ns : List Number) → is_part low.kind ≡ true → StandsBy parts.TooWide m ns → StandsBy parts.TooWide m (ns ++ low ∷ [])
with_wider m low ns p h = (parts_more ns low p ∙ h.0, (let b = widths_more ns low in let l = h.1 in omega arith))
