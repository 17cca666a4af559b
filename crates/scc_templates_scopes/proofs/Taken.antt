-- What the operator table refuses comes in the order of the definition: no row, then too many bits, then the divisor.
use Rattle.std.specs.Prelude.{◌≡◌, ℕ, zero, suc, ◌<◌, nat_eq, not, true, false, Option, Some, None, IsSome}
use Rattle.std.proofs.Common.{refl, subst, arith}
use Rattle.scc_base.specs.declared.refusal.Place.{Place}
use Rattle.scc_base.specs.declared.code.Code.TheVariants as reason
use Rattle.scc_bits_kinds.specs.declared.kind.Kind.{Kind}
use Rattle.scc_bits_kinds.specs.declared.op.Op.{Op}
use Rattle.scc_bits_kinds.specs.declared.op.Op.TheVariants as op
use Rattle.scc_bits_kinds.specs.Operators.{Divisor}
use Rattle.scc_bits.specs.Value.{Number}
use Rattle.scc_bits.specs.Values.{kind_of, is_too_wide}
use Rattle.scc_templates_spec.specs.Walked.{fault}
use Rattle.scc_plain_spec.specs.Numbers.{divides}
use Rattle.scc_templates_scopes.specs.Applied.{taken}

pub too_wide : (p : Place) (o : Op) (a b : Number) → (kind_of o a.kind b.kind ≡ None → ⊥) → is_too_wide o a.kind b.kind ≡ true → taken p o a b ≡ fault reason.WideLoss p
too_wide p o a b row wide = by (kind_of o a.kind b.kind) refl
  where
    by : (k : Option Kind) → kind_of o a.kind b.kind ≡ k → taken p o a b ≡ fault reason.WideLoss p
    by None e = absurd (row e)
    by (Some k) e = rw (e, wide) refl

not_above : (w : ℕ) → (0 < w → ⊥) → not (nat_eq w 0) ≡ false
not_above zero h = refl
not_above (suc n) h = absurd (h (omega arith))

-- what doesn't divide is a division by 0
no_divisor : (o : Op) (b : Number) → (Divisor o b.word → ⊥) → divides o (Some b) ≡ false
no_divisor op.Div b h = not_above b.word h
no_divisor op.Rem b h = not_above b.word h
no_divisor op.Add b h = absurd (h tt)
no_divisor op.Sub b h = absurd (h tt)
no_divisor op.Mul b h = absurd (h tt)
no_divisor op.And b h = absurd (h tt)
no_divisor op.Or b h = absurd (h tt)
no_divisor op.Xor b h = absurd (h tt)
no_divisor op.Eq b h = absurd (h tt)
no_divisor op.Ne b h = absurd (h tt)
no_divisor op.Lt b h = absurd (h tt)
no_divisor op.Le b h = absurd (h tt)
no_divisor op.Gt b h = absurd (h tt)
no_divisor op.Ge b h = absurd (h tt)
no_divisor op.Shl b h = absurd (h tt)
no_divisor op.Shr b h = absurd (h tt)
no_divisor op.LogAnd b h = absurd (h tt)
no_divisor op.LogOr b h = absurd (h tt)
no_divisor op.Plus b h = absurd (h tt)
no_divisor op.Neg b h = absurd (h tt)
no_divisor op.Not b h = absurd (h tt)
no_divisor op.LogNot b h = absurd (h tt)
no_divisor op.AndReduce b h = absurd (h tt)
no_divisor op.OrReduce b h = absurd (h tt)
no_divisor op.XorReduce b h = absurd (h tt)

pub by_zero : (p : Place) (o : Op) (a b : Number) → IsSome (kind_of o a.kind b.kind) → is_too_wide o a.kind b.kind ≡ false → (Divisor o b.word → ⊥) → taken p o a b ≡ fault reason.Divisor p
by_zero p o a b row narrow unfit = by (kind_of o a.kind b.kind) refl
  where
    by : (k : Option Kind) → kind_of o a.kind b.kind ≡ k → taken p o a b ≡ fault reason.Divisor p
    by None e = let h : IsSome {T = Kind} None = subst IsSome e row in cc
    by (Some k) e = rw (e, narrow, no_divisor o b unfit) refl
