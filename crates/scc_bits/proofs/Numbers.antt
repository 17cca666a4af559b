-- Exact numbers, their words and their bits in two's complement.
use Rattle.std.specs.Prelude.{◌≡◌, ℕ, ◌/◌, ◌%◌, ◌^◌, ◌≤◌, false, nat_eq, ℤ}
use Rattle.std.proofs.Common.{sym, ◌∙◌, ap, subst, arith}
use Rattle.scc_bits_kinds.specs.declared.kind.Kind.{Kind}
use Rattle.scc_bits_kinds.specs.Numbers.{low, reading, Holds}
use Rattle.scc_bits_kinds.specs.Kinds.{IsValid, Fits, width_of, is_signed, number_of, stored, converted}
use Rattle.scc_bits_kinds.proofs.Low.{low_less, holds_reading, read_low}
use Rattle.scc_bits_kinds.proofs.Alike.{holds_more}
use Rattle.scc_bits_kinds.proofs.Exactly.{far_right}
use Rattle.scc_bits.specs.Value.{Number, exactly}
use Rattle.scc_bits.proofs.Validity.{width_valid}
use Rattle.scc_bits.proofs.Parts.{within_128}
use Rattle.scc_bits.proofs.Agreement.{own, same_sign}

-- bits past 128 are 0
pub bit_past : (k : Kind) (x i : ℕ) → IsValid k → Fits k x → 128 ≤ i → nat_eq (x / 2 ^ i % 2) 1 ≡ false
bit_past k x i v h p =
    let small : 2 ^ width_of k ≤ 2 ^ 128 = within_128 (width_of k) (width_valid k v).1 in
    ap (λ n. nat_eq (n % 2) 1) (sym (far_right x i (omega arith) p))

-- a kind holds the number of a word
held : (k : Kind) (x : ℕ) → IsValid k → Fits k x → Holds (is_signed k) (width_of k) (number_of k x)
held k x v h = holds_reading (is_signed k) (width_of k) x (width_valid k v).0 h

-- the low 128 bits of a word's number stand for it
pub extended : (k : Kind) (x r : ℕ) → IsValid k → Fits k x → r ≡ low 128 (number_of k x) → reading (is_signed k) 128 r ≡ number_of k x
extended k x r v h e =
    let w = width_valid k v in
    let c = same_sign (is_signed k) (width_of k) in
    let more : Holds (is_signed k) 128 (number_of k x) = holds_more (is_signed k) (is_signed k) (width_of k) 128 (number_of k x) (omega (arith, c, w.1)) (λ t. t) (held k x v h) in
    ap (reading (is_signed k) 128) e ∙ read_low (is_signed k) 128 (number_of k x) (omega arith) more

-- a number that a kind holds is kept in it
pub kept : (k : Kind) (z : ℤ) (n : Number) → IsValid k → Holds (is_signed k) (width_of k) z → n.kind ≡ k → n.word ≡ stored k z → exactly n ≡ z
kept k z n v h d e =
    let x = low (width_of k) z in
    let same : number_of k x ≡ z = read_low (is_signed k) (width_of k) z (width_valid k v).0 h in
    let is : exactly n ≡ converted k z = ap (λ j. number_of j n.word) d ∙ ap (number_of k) e in
    is ∙ ap (converted k) (sym same) ∙ own k x (low_less (width_of k) z) ∙ same

-- a kind holds a number that stands in it
pub is_held : (k : Kind) (z : ℤ) (n : Number) → IsValid n.kind × Fits n.kind n.word → n.kind ≡ k → exactly n ≡ z → IsValid k × Holds (is_signed k) (width_of k) z
is_held k z n i d e = subst (λ (j : Kind). IsValid j × Holds (is_signed j) (width_of j) z) d (i.0, subst (Holds (is_signed n.kind) (width_of n.kind)) e (held n.kind n.word i.0 i.1))
