use Rattle.std.proofs.Common.{◌≡◌, map, drop}
use Rattle.std.specs.Prelude.{Some}
use Rattle.scc_svread_check.specs.Parts.{parts_bits, parts_walk, part_of}
use Rattle.scc_svread_check.proofs.expr.+part.Given as goal

abbrev pub invariant-concat-loop-e : goal.invariant-concat-loop-e
invariant-concat-loop-e l = record {
  walk : parts_walk l.lead (map (part_of l.scope) (drop l.e-index l.list)) l.walk ≡ parts_walk 1 (map (part_of l.scope) l.list) l.fn.w;
  bits : parts_bits l.bits (map (part_of l.scope) (drop l.e-index l.list)) ≡ parts_bits (Some 0) (map (part_of l.scope) l.list);
}
