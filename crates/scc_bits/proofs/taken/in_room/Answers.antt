use Rattle.std.specs.Prelude.{◌≡◌, ◌+◌, true, if◌then◌else◌, ◌⊎◌, Some}
use Rattle.std.proofs.Common.{refl, ◌∙◌, ap, arith, inl, inr}
use Rattle.scc_bits_kinds.specs.declared.kind.Kind.TheVariants as kind
use Rattle.scc_bits_kinds.specs.declared.rule.Rule.TheVariants as rule
use Rattle.scc_bits_kinds.specs.Kinds.{width_of, is_signed}
use Rattle.scc_bits_kinds.specs.Counts.{room, quotient_bits, some_signed, count_of}
use Rattle.scc_bits.specs.declared.operands.Operands.{Operands}
use Rattle.scc_bits.specs.Placed.{placed_of}
use Rattle.scc_bits.specs.Standing.{Stands}
use Rattle.scc_bits.proofs.Validity.{count_some}
use Rattle.scc_bits.proofs.Agreement.{left_signed, right_signed}
use Rattle.scc_bits.proofs.Standing.{Pair, finish, finish_bits, room_is, some_is, sum_stands, both_stand, shift_stands, alone_stands, own_stand, own_shift_stands, padded_more, less_signed, own_padded, complement_padded, width_is, last, test_placed, both_placed}
use Rattle.scc_bits.proofs.taken.in_room.Goals as goal

pub returns-in-WideSum : goal.returns-in-WideSum
returns-in-WideSum c =
    let g : Pair c.args.a c.args.x.bits c.args.b c.args.y.bits c.read_number-left.result c.read_number-right.result = record { valid = c.requires.kinds; left_fits = c.requires.left; right_fits = c.requires.right; left = c.read_number-left.ensures.is; right = c.read_number-right.ensures.is } in
    let r = room_is _ _ _ _ _ _ c.room.result g c.room.ensures.is in
    finish _ rule.WideSum _ _ _ _ _ _ _ c.in-WideSum.is refl c.in_bits.ensures (sum_stands _ _ _ _ _ _ (room c.args.a c.args.b + 1) _ _ _ g c.some_signed-signed.ensures (omega arith) (omega arith))

pub returns-in-WideDifference : goal.returns-in-WideDifference
returns-in-WideDifference c =
    let g : Pair c.args.a c.args.x.bits c.args.b c.args.y.bits c.read_number-left.result c.read_number-right.result = record { valid = c.requires.kinds; left_fits = c.requires.left; right_fits = c.requires.right; left = c.read_number-left.ensures.is; right = c.read_number-right.ensures.is } in
    let r = room_is _ _ _ _ _ _ c.room-in-WideDifference.result g c.room-in-WideDifference.ensures.is in
    finish _ rule.WideDifference _ _ _ _ _ _ _ c.in-WideDifference.is refl c.in_bits-in-WideDifference.ensures (both_stand _ _ _ _ _ _ (room c.args.a c.args.b + 1) true _ _ _ g (omega (arith, padded_more c.args.a true)) (omega (arith, padded_more c.args.b true)) (λ t. refl) (λ t. refl) refl (omega arith))

pub returns-in-WideProduct : goal.returns-in-WideProduct
returns-in-WideProduct c =
    let g : Pair c.args.a c.args.x.bits c.args.b c.args.y.bits c.read_number-left.result c.read_number-right.result = record { valid = c.requires.kinds; left_fits = c.requires.left; right_fits = c.requires.right; left = c.read_number-left.ensures.is; right = c.read_number-right.ensures.is } in
    finish _ rule.WideProduct _ _ _ _ _ _ _ c.in-WideProduct.is refl c.in_bits-in-WideProduct.ensures (both_stand _ _ _ _ _ _ (count_of c.args.a + count_of c.args.b) (some_signed c.args.a c.args.b) _ _ _ g (omega (arith, padded_more c.args.a (some_signed c.args.a c.args.b), count_some c.args.b c.requires.kinds.1)) (omega (arith, padded_more c.args.b (some_signed c.args.a c.args.b), count_some c.args.a c.requires.kinds.0)) (left_signed (is_signed c.args.a) (is_signed c.args.b)) (right_signed (is_signed c.args.a) (is_signed c.args.b)) (some_is _ _ _ _ _ _ _ g c.some_signed-signed.ensures) (omega (arith, g.left.count, g.right.count)))

pub returns-in-WideQuotient : goal.returns-in-WideQuotient
returns-in-WideQuotient c =
    let g : Pair c.args.a c.args.x.bits c.args.b c.args.y.bits c.read_number-left.result c.read_number-right.result = record { valid = c.requires.kinds; left_fits = c.requires.left; right_fits = c.requires.right; left = c.read_number-left.ensures.is; right = c.read_number-right.ensures.is } in
    let r = room_is _ _ _ _ _ _ c.room-in-WideQuotient.result g c.room-in-WideQuotient.ensures.is in
    let o = c.one_if.ensures ∙ ap (λ s. if s then 1 else 0) (some_is _ _ _ _ _ _ _ g c.some_signed-signed.ensures) in
    finish _ rule.WideQuotient _ _ _ _ _ _ _ c.in-WideQuotient.is refl c.in_bits-in-WideQuotient.ensures (sum_stands _ _ _ _ _ _ (quotient_bits c.args.a c.args.b) _ (c.room-in-WideQuotient.result + c.one_if.result) _ g c.some_signed-signed.ensures (omega arith) (omega arith))

pub returns-in-WideBits : goal.returns-in-WideBits
returns-in-WideBits c =
    let g : Pair c.args.a c.args.x.bits c.args.b c.args.y.bits c.read_number-left.result c.read_number-right.result = record { valid = c.requires.kinds; left_fits = c.requires.left; right_fits = c.requires.right; left = c.read_number-left.ensures.is; right = c.read_number-right.ensures.is } in
    let r = room_is _ _ _ _ _ _ c.room-in-WideBits.result g c.room-in-WideBits.ensures.is in
    finish _ rule.WideBits _ _ _ _ _ _ _ c.in-WideBits.is refl c.in_bits-in-WideBits.ensures (sum_stands _ _ _ _ _ _ (room c.args.a c.args.b) _ _ _ g c.some_signed-signed.ensures (omega arith) (omega arith))

pub returns-in-WideTest : goal.returns-in-WideTest
returns-in-WideTest c =
    let g : Pair c.args.a c.args.x.bits c.args.b c.args.y.bits c.read_number-left.result c.read_number-right.result = record { valid = c.requires.kinds; left_fits = c.requires.left; right_fits = c.requires.right; left = c.read_number-left.ensures.is; right = c.read_number-right.ensures.is } in
    finish _ rule.WideTest _ _ _ _ _ _ _ c.in-WideTest.is refl c.in_bits-in-WideTest.ensures (sum_stands _ _ _ _ _ _ (room c.args.a c.args.b) _ 1 kind.Bool g c.some_signed-signed.ensures (omega arith) refl)

pub returns-in-WideLeft : goal.returns-in-WideLeft
returns-in-WideLeft c =
    let g : Pair c.args.a c.args.x.bits c.args.b c.args.y.bits c.read_number-left.result c.read_number-right.result = record { valid = c.requires.kinds; left_fits = c.requires.left; right_fits = c.requires.right; left = c.read_number-left.ensures.is; right = c.read_number-right.ensures.is } in
    finish _ rule.WideLeft _ _ _ _ _ _ _ c.in-WideLeft.is refl c.in_bits-in-WideLeft.ensures (shift_stands _ _ _ _ _ c.read_number-right.result 255 _ 255 g g.left.sign (omega (arith, own_padded c.args.a, g.left.count, c.read_number-left.ensures.small)) refl)

pub returns-in-WideNegation : goal.returns-in-WideNegation
returns-in-WideNegation c =
    let g : Pair c.args.a c.args.x.bits c.args.b c.args.y.bits c.read_number-left.result c.read_number-right.result = record { valid = c.requires.kinds; left_fits = c.requires.left; right_fits = c.requires.right; left = c.read_number-left.ensures.is; right = c.read_number-right.ensures.is } in
    finish _ rule.WideNegation _ _ _ _ _ _ _ c.in-WideNegation.is refl c.in_bits-in-WideNegation.ensures (alone_stands _ _ _ _ _ _ (count_of c.args.a + 1) true _ _ g refl (padded_more c.args.a true) (λ t. refl) (omega (arith, g.left.count)))

pub returns-in-WideComplement : goal.returns-in-WideComplement
returns-in-WideComplement c =
    let g : Pair c.args.a c.args.x.bits c.args.b c.args.y.bits c.read_number-left.result c.read_number-right.result = record { valid = c.requires.kinds; left_fits = c.requires.left; right_fits = c.requires.right; left = c.read_number-left.ensures.is; right = c.read_number-right.ensures.is } in
    let o = less_signed _ _ _ _ g.left c.one_if-in-WideComplement.ensures in
    finish _ rule.WideComplement _ _ _ _ _ _ _ c.in-WideComplement.is refl c.in_bits-in-WideComplement.ensures (alone_stands _ _ _ _ _ _ (count_of c.args.a + (if is_signed c.args.a then 0 else 1)) true _ _ g refl (complement_padded c.args.a) (λ t. refl) (omega (arith, g.left.count)))

pub returns-in-WideRight : goal.returns-in-WideRight
returns-in-WideRight c = by c.in-WideRight.is
  where
    by : (c.args.rule ≡ rule.WideRight) ⊎ (c.args.rule ≡ rule.BitsShift) → (p : Operands) → placed_of c.args.rule c.args.a c.args.b ≡ Some p → Stands p c.args.a c.args.x.bits c.args.b c.args.y.bits c.in_bits-in-WideRight.result
    by (inl is) =
        let g : Pair c.args.a c.args.x.bits c.args.b c.args.y.bits c.read_number-left.result c.read_number-right.result = record { valid = c.requires.kinds; left_fits = c.requires.left; right_fits = c.requires.right; left = c.read_number-left.ensures.is; right = c.read_number-right.ensures.is } in
        finish _ rule.WideRight _ _ _ _ _ _ _ is refl c.in_bits-in-WideRight.ensures (shift_stands _ _ _ _ _ c.read_number-right.result (count_of c.args.a) _ c.read_number-left.result.count g g.left.sign (own_padded c.args.a) (omega (arith, g.left.count, c.read_number-left.ensures.small)))
    by (inr is) =
        let g : Pair c.args.a c.args.x.bits c.args.b c.args.y.bits c.read_number-left.result c.read_number-right.result = record { valid = c.requires.kinds; left_fits = c.requires.left; right_fits = c.requires.right; left = c.read_number-left.ensures.is; right = c.read_number-right.ensures.is } in
        finish _ rule.BitsShift _ _ _ _ _ _ _ is refl c.in_bits-in-WideRight.ensures (own_shift_stands _ _ _ _ _ c.read_number-right.result (kind.Bv (width_of c.args.a)) _ c.read_number-left.result.count g refl (width_is _ _ _ c.requires.kinds.0 g.left))

pub returns-in-Reduction : goal.returns-in-Reduction
returns-in-Reduction c = by c.in-Reduction.is
  where
    by : (c.args.rule ≡ rule.Reduction) ⊎ (c.args.rule ≡ rule.BitsTest) → (p : Operands) → placed_of c.args.rule c.args.a c.args.b ≡ Some p → Stands p c.args.a c.args.x.bits c.args.b c.args.y.bits c.in_bits-in-Reduction.result
    by (inl is) =
        let g : Pair c.args.a c.args.x.bits c.args.b c.args.y.bits c.read_number-left.result c.read_number-right.result = record { valid = c.requires.kinds; left_fits = c.requires.left; right_fits = c.requires.right; left = c.read_number-left.ensures.is; right = c.read_number-right.ensures.is } in
        finish _ rule.Reduction _ _ _ _ _ _ _ is refl c.in_bits-in-Reduction.ensures (own_stand _ _ _ _ _ _ kind.Bool _ 1 g refl refl)
    by (inr is) =
        let g : Pair c.args.a c.args.x.bits c.args.b c.args.y.bits c.read_number-left.result c.read_number-right.result = record { valid = c.requires.kinds; left_fits = c.requires.left; right_fits = c.requires.right; left = c.read_number-left.ensures.is; right = c.read_number-right.ensures.is } in
        finish_bits _ rule.BitsTest _ _ _ _ kind.Bool _ _ is (test_placed _ _) c.in_bits-in-Reduction.ensures (own_stand _ _ _ _ _ _ kind.Bool _ 1 g refl refl)

pub returns-in_default : goal.returns-in_default
returns-in_default c = by (last c.args.rule c.requires.other c.in_default.not-Reduction c.in_default.not-WideSum c.in_default.not-WideDifference c.in_default.not-WideProduct c.in_default.not-WideQuotient c.in_default.not-WideBits c.in_default.not-WideTest c.in_default.not-WideLeft c.in_default.not-WideRight c.in_default.not-WideNegation c.in_default.not-WideComplement c.in_default.not-BitsTest c.in_default.not-BitsShift)
  where
    by : (c.args.rule ≡ rule.WideSame) ⊎ ((c.args.rule ≡ rule.BitsBoth) ⊎ (c.args.rule ≡ rule.BitsComplement)) → (p : Operands) → placed_of c.args.rule c.args.a c.args.b ≡ Some p → Stands p c.args.a c.args.x.bits c.args.b c.args.y.bits c.in_bits-in_default.result
    by (inl is) =
        let g : Pair c.args.a c.args.x.bits c.args.b c.args.y.bits c.read_number-left.result c.read_number-right.result = record { valid = c.requires.kinds; left_fits = c.requires.left; right_fits = c.requires.right; left = c.read_number-left.ensures.is; right = c.read_number-right.ensures.is } in
        finish _ rule.WideSame _ _ _ _ _ _ _ is refl c.in_bits-in_default.ensures (alone_stands _ _ _ _ _ _ (count_of c.args.a) (is_signed c.args.a) _ c.read_number-left.result.count g g.left.sign (own_padded c.args.a) (λ t. t) (omega (arith, g.left.count, c.read_number-left.ensures.small)))
    by (inr (inl is)) =
        let g : Pair c.args.a c.args.x.bits c.args.b c.args.y.bits c.read_number-left.result c.read_number-right.result = record { valid = c.requires.kinds; left_fits = c.requires.left; right_fits = c.requires.right; left = c.read_number-left.ensures.is; right = c.read_number-right.ensures.is } in
        finish_bits _ rule.BitsBoth _ _ _ _ (kind.Bv (width_of c.args.a)) _ _ is (both_placed _ _) c.in_bits-in_default.ensures (own_stand _ _ _ _ _ _ (kind.Bv (width_of c.args.a)) _ c.read_number-left.result.count g refl (width_is _ _ _ c.requires.kinds.0 g.left))
    by (inr (inr is)) =
        let g : Pair c.args.a c.args.x.bits c.args.b c.args.y.bits c.read_number-left.result c.read_number-right.result = record { valid = c.requires.kinds; left_fits = c.requires.left; right_fits = c.requires.right; left = c.read_number-left.ensures.is; right = c.read_number-right.ensures.is } in
        finish _ rule.BitsComplement _ _ _ _ _ _ _ is refl c.in_bits-in_default.ensures (own_stand _ _ _ _ _ _ (kind.Bv (width_of c.args.a)) _ c.read_number-left.result.count g refl (width_is _ _ _ c.requires.kinds.0 g.left))
