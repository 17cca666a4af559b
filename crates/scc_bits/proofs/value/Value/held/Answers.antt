use Rattle.std.specs.Prelude.{IsTrue}
use Rattle.std.proofs.Common.{arith, rules}
use Rattle.std.proofs.lemmas.Grind.{common_steps}
use Rattle.scc_bits_kinds.specs.Kinds.{IsValid, Fits}
use Rattle.scc_bits.specs.Value.{exactly}
use Rattle.scc_bits.proofs.Numbers.{kept, is_held}
use Rattle.scc_bits.proofs.value.Value.held.Goals as goal

pub returns-clause-is : goal.returns-clause-is
returns-clause-is c =
    let some = c.in_ok-other.ensures.some in
    let other = c.in_ok-other.other in
    let inside : IsValid other.kind × Fits other.kind other.word = search rules in (
      λ s.
          let t : IsTrue c.equals.result = grind (arith, common_steps, s, c.then_some.ensures) in
          is_held c.args.to (exactly c.args.self) other inside some.0 (c.equals.ensures.0 t),
      λ h.
          let t : IsTrue c.equals.result = c.equals.ensures.1 (kept c.args.to (exactly c.args.self) other h.0 h.1 some.0 some.1) in
          grind (arith, common_steps, c.then_some.ensures),
    )
