use Rattle.std.proofs.Common.{◌≡◌, ◌++◌, map, drop}
use Rattle.scc_inline_cells.proofs.known.names_of.Given as goal

abbrev pub invariant-loop-member : goal.invariant-loop-member
invariant-loop-member l = l.names ++ map (λ m. m.name.0) (drop l.member-index l.member-items) ≡ map (λ m. m.name.0) l.member-items
