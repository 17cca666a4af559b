-- Of whole expressions the code finds the static values.
use Rattle.std.proofs.Common.{◌≡◌, sym, ap, subst, ◌∙◌, List, [], ◌∷◌, map, option_map}
use Rattle.scc_core.specs.declared.copy.Counter.{Counter as Held}
use Rattle.scc_core.specs.declared.expr.CoreExpr.{CoreExpr}
use Rattle.scc_core.specs.declared.program.Cell.{Cell}
use Rattle.scc_core.specs.declared.statics.Known.{Known}
use Rattle.scc_core.specs.Counters.{counted}
use Rattle.scc_core.specs.declared.program.Core.{Core}
use Rattle.scc_core.specs.Known.{counted as counter_number, facts_in}
use Rattle.scc_core.specs.Statics.{value_in}
use Rattle.scc_core_spec.specs.Counted.{counting}
use Rattle.scc_core_spec.specs.Static.{static}
use Rattle.scc_core_static_laws.specs.Held.{Knows}
use Rattle.scc_core_view.specs.Programs.{cell_of}
use Rattle.scc_core_view.specs.Terms.{term_of}
use Rattle.scc_core_view.specs.Whole.{AreWholeCells, IsWhole}
use Rattle.scc_unroll_asked.specs.Asked.{AreAll, AreRead, AreTaken, IsItself, asked}
use Rattle.scc_unroll_asked.specs.Cores.{IsAsked, IsKnown}
use Rattle.scc_unroll_laws.specs.Counters.{counters_of}
use Rattle.scc_unroll_asked.specs.Read.{AreCounters, IsRead}
use Rattle.scc_unroll_asked.specs.Wholes.{AreWholeCounted, IsWholeCore}
use Rattle.scc_unroll_laws.proofs.Counting.{copy_says}

module _ (known : Known) (cells : List Cell) (k : Knows known cells [])
    (law : (e : CoreExpr) → IsWhole cells e → option_map (λ v. v.word) (value_in (facts_in known) e) ≡ static (map cell_of cells) (term_of e)) where
  one_read : (e : CoreExpr) → ((ns : List Held) → AreCounters cells ns → IsWhole cells (counted ns e)) → IsRead known e
  one_read e h = λ ns a.
      law (counted ns e) (h ns (subst (λ cs. AreCounters cs ns) k.cells_are a))
      ∙ ap (static (map cell_of cells)) (copy_says ns e)
      ∙ ap (λ cs. static (map cell_of cs) (counting (counters_of ns) (term_of e))) (sym k.cells_are)

  pub all_read : (es : List CoreExpr) → AreWholeCounted cells es → AreRead known es
  all_read [] h = tt
  all_read (e ∷ es) h = (one_read e h.0, all_read es h.1)

taken_both : (k : Known) (es : List CoreExpr) → AreRead k es → AreAll IsItself es → AreTaken k es
taken_both k [] r i = tt
taken_both k (e ∷ es) r i = (record { read = r.0; itself = i.0 }, taken_both k es r.1 i.1)

-- what is known of a core knows its cells
knows_so : (known : Known) (c : Core) → AreWholeCells c.cells → IsKnown known c → Knows known c.cells []
knows_so known c w k = record {
  cells_are = k.cells;
  count = w.count;
  places = λ p e. record { vectors = c.vectors; table = k.places p e };
  counters = λ n. ap (λ o. counter_number o n) k.counters;
}

pub core_asked : (c : Core)
    → ((known : Known) (e : CoreExpr) → Knows known c.cells [] → IsWhole c.cells e → option_map (λ v. v.word) (value_in (facts_in known) e) ≡ static (map cell_of c.cells) (term_of e))
    → IsWholeCore c → IsAsked c
core_asked c law w known k front back p e =
    let knows = knows_so known c w.cells k in
    taken_both known (asked p.body) (all_read known c.cells knows (λ x. law known x knows) (asked p.body) (w.bodies front back p e)) (w.themselves front back p e)
