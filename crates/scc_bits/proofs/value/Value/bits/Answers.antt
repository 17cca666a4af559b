use Rattle.std.specs.Prelude.{◌≡◌}
use Rattle.std.proofs.Common.{subst}
use Rattle.scc_bits_kinds.specs.Kinds.{is_signed}
use Rattle.scc_bits_kinds.specs.Numbers.{reading}
use Rattle.scc_bits.specs.Value.{Number, exactly}
use Rattle.scc_bits.proofs.Numbers.{extended}
use Rattle.scc_bits.proofs.value.Value.bits.Goals as goal

pub returns-clause-value : goal.returns-clause-value
returns-clause-value c = subst (λ (n : Number). reading (is_signed n.kind) 128 c.conv.result.bits ≡ exactly n) c.self.view_is (extended c.self.inside.kind c.self.inside.word.bits c.conv.result.bits c.self.invariant.0 c.self.invariant.1 c.conv.ensures.word)
