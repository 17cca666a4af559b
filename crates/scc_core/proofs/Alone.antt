-- What is known by the cells alone.
use Rattle.std.proofs.Common.{◌≡◌, ap, ◌∙◌, None}
use Rattle.scc_core.specs.declared.expr.CoreExpr.{CoreExpr}
use Rattle.scc_core.specs.declared.statics.Known.{Known}
use Rattle.scc_core.specs.Known.{IsAlone, facts_in}
use Rattle.scc_core.specs.Statics.{value_in, static_of}

pub alone_is : (known : Known) (e : CoreExpr) → IsAlone known → value_in (facts_in known) e ≡ static_of known.cells.now e
unfolding static_of
alone_is known e h =
    ap (λ p. value_in (facts_in (record { cells = known.cells; places = p; counters = known.counters })) e) h.0
    ∙ ap (λ q. value_in (facts_in (record { cells = known.cells; places = None; counters = q })) e) h.1
