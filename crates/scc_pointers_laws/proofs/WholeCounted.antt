-- Whole cores meet what is asked with counters as literals.
use Rattle.std.proofs.Common.{List, [], map}
use Rattle.scc_core.specs.declared.expr.CoreExpr.{CoreExpr}
use Rattle.scc_core.specs.declared.program.Cell.{Cell}
use Rattle.scc_core.specs.declared.program.Core.{Core}
use Rattle.scc_core.specs.declared.statics.Known.{Known}
use Rattle.scc_core.specs.Known.{facts_in}
use Rattle.scc_core.specs.Statics.{value_in}
use Rattle.scc_core_spec.specs.Fold.{static_index}
use Rattle.scc_core_spec.specs.Program.{Vector}
use Rattle.scc_core_static_laws.specs.Held.{Knows}
use Rattle.scc_core_static_laws.specs.Indices.{Finds}
use Rattle.scc_core_view.specs.Programs.{cell_of}
use Rattle.scc_core_view.specs.Terms.{term_of}
use Rattle.scc_core_view.specs.Whole.{AreWholeCells, IsWhole}
use Rattle.scc_pointers_laws.specs.Counted.{IsAskedCounted, IsWholeCounted}
use Rattle.scc_pointers_laws.specs.Ready.{IsWholeCore}
use Rattle.scc_pointers_laws.proofs.Wholes.{all_items, asked_so, found_so, known_so, seen_beside}
use Rattle.scc_unroll_asked.specs.Copied.{copied}
use Rattle.scc_unroll_asked.specs.Items.{asked}

plain_core : (c : Core) → IsWholeCounted c → IsWholeCore c
plain_core c w = record {
  cells = w.cells;
  names = w.names;
  paths = w.paths;
  sizes = w.sizes;
  locals = w.locals;
  bodies = λ front back p e r o k. (w.bodies front back p e r o k).plain;
}

module _ (law : (known : Known) (cells : List Cell) (vectors : List Vector) (e : CoreExpr) → Knows known cells [] → AreWholeCells cells → IsWhole cells e → Finds (value_in (facts_in known) e) (static_index (map cell_of cells) vectors (term_of e))) where
  pub counted_core_asked : (c : Core) → IsWholeCounted c → IsAskedCounted c
  counted_core_asked c w r o = (
    known_so law c r (plain_core c w) o,
    λ front back p e. record {
      plain = asked_so r (asked p.body) (λ s b k. let seen = seen_beside c r s b o.seen in all_items s c.cells (found_so law c s w.cells seen) (asked p.body) (w.bodies front back p e s seen k).plain);
      counted = λ ns a. asked_so r (map (copied ns) (asked p.body)) (λ s b k. let seen = seen_beside c r s b o.seen in all_items s c.cells (found_so law c s w.cells seen) (map (copied ns) (asked p.body)) ((w.bodies front back p e s seen k).counted ns a));
    },
  )
