-- Numbers by their kinds and words.
use Rattle.std.proofs.Common.{◌≡◌, sym, ◌∙◌, arith, ℕ, ◌+◌, ◌-◌, ◌%◌, ◌^◌, ◌<◌, ◌≤◌}
use Rattle.std.proofs.Math.Nat.{mod-eq_of_lt, lt_of_lt_of_le}
use Rattle.std.proofs.Math.Pow.{pow_mono}
use Rattle.scc_bits_kinds.specs.Bits.{replaced}
use Rattle.scc_bits_kinds.specs.declared.kind.Kind.{Kind}
use Rattle.scc_bits_kinds.specs.Kinds.{stored}
use Rattle.scc_bits.specs.Value.{Number, exactly}
use Rattle.scc_elab_worth.specs.Said.{Is}
use Rattle.scc_elab_worth.specs.Numbers.{number, kept}

pub number_is : (v : Number) (k : Kind) (w : ℕ) → (v.kind ≡ k) × (v.word ≡ w) → Is (number k w) ≡ Is v
number_is v k w h = sym (λ i. Is (record { kind = h.0 i; word = h.1 i }))

pub kept_is : (v n : Number) (k : Kind) → (v.kind ≡ k) × (v.word ≡ stored k (exactly n)) → Is (kept k n) ≡ Is v
kept_is v n k h = number_is v k (stored k (exactly n)) h

-- bits that are given are those that are put
pub range_put : (v n : Number) (h l old bits : ℕ) → bits < 2 ^ (h - l + 1) → n.word ≡ old → v.word ≡ replaced h l n.word (bits % 2 ^ (h - l + 1)) → v.word ≡ replaced h l old bits
range_put v n h l old bits f a e = e ∙ (λ i. replaced h l (a i) (mod-eq_of_lt f i))

pub all_fit : (bits len : ℕ) → bits < 2 ^ 128 → 127 ≤ len → bits < 2 ^ (len + 1)
all_fit bits len h l = let p : 128 ≤ len + 1 = omega arith in let q : 2 ^ 128 ≤ 2 ^ (len + 1) = pow_mono p in lt_of_lt_of_le h q
