-- The tests of kinds and words say what the definitions say.
use Rattle.std.proofs.Common.{◌≡◌, ℕ, Bool, ◌^◌, nat_lt, arith, IsTrue, ◌↔◌}
use Rattle.std.proofs.lemmas.Grind.{common_steps}
use Rattle.scc_bits_kinds.specs.declared.kind.Kind.{Kind}
use Rattle.scc_bits_kinds.specs.declared.kind.Kind.TheVariants as kind
use Rattle.scc_bits_kinds.specs.Kinds.{IsValid, Fits, width_of}
use Rattle.scc_plain_look.specs.Constant.{is_kind}

pub kind_told : (k : Kind) (b : Bool) → (IsTrue b ↔ IsValid k) → b ≡ is_kind k
kind_told kind.Bool b h = grind (arith, common_steps)
kind_told (kind.Native w s) b h = grind (arith, common_steps)
kind_told (kind.Int w) b h = grind (arith, common_steps)
kind_told (kind.Uint w) b h = grind (arith, common_steps)
kind_told (kind.Big w) b h = grind (arith, common_steps)
kind_told (kind.BigInt w) b h = grind (arith, common_steps)
kind_told (kind.Bv w) b h = grind (arith, common_steps)
kind_told (kind.Wide n s) b h = grind (arith, common_steps)

pub word_told : (k : Kind) (x : ℕ) (b : Bool) → (IsTrue b ↔ Fits k x) → b ≡ nat_lt x (2 ^ width_of k)
word_told k x b h = grind (arith, common_steps)
