-- What is counted where nothing is known but the cells.
use Rattle.std.proofs.Common.{◌≡◌, ap, List}
use Rattle.scc_core.specs.declared.statics.Known.{Known}
use Rattle.scc_core.specs.declared.program.Core.{Core}
use Rattle.scc_core.specs.Known.{IsAlone}
use Rattle.scc_core.specs.Statics.{static_of}
use Rattle.scc_core.proofs.Alone.{alone_is}
use Rattle.scc_states.specs.declared.types.Split.{Split}
use Rattle.scc_states_sum.specs.Live.{elements_of}
use Rattle.scc_states_sum.specs.Told.{numbers_in}

numbers_alone : (known : Known) → IsAlone known → numbers_in known ≡ static_of known.cells.now
unfolding numbers_in
numbers_alone known h = λ i e. alone_is known e h i

pub elements_alone : (known : Known) (c : Core) (ss : List Split) → IsAlone known
    → elements_of (numbers_in known) c ss ≡ elements_of (static_of known.cells.now) c ss
elements_alone known c ss h = ap (λ f. elements_of f c ss) (numbers_alone known h)
