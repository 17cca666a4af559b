use Rattle.std.proofs.Common.{true, None, refl}
use Rattle.scc_svtree.specs.declared.expr.SvLeft.TheVariants.{Whole}
use Rattle.scc_memory_spec.specs.Text.{ends, assign, element, part, no_sets, write, comb, edge, no_blocks, block}
use Rattle.scc_memory_spec.proofs.Sound.{ports_keep_a_memory, names_are_declared_once}
use Rattle.scc_memory_spec.proofs.laws.modules_with_memories_are_right.Goals as goal

pub returns-clause-right : goal.returns-clause-right
returns-clause-right c = ports_keep_a_memory

pub returns-clause-twice : goal.returns-clause-twice
returns-clause-twice c = names_are_declared_once

pub returns-clause-read : goal.returns-clause-read
returns-clause-read c = (
  _,
  record {
    sound = ports_keep_a_memory;
    blocks = _;
    are_blocks = block (comb (assign (Whole (record { 0 = 5 })) (element 0 (part (Whole (record { 0 = 4 })))) (ends 4))) (block (edge true 0 None (write 0 refl no_sets)) no_blocks);
    whole = refl;
  },
)
