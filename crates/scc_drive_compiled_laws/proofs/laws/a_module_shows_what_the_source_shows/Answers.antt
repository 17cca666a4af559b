use Rattle.scc_blocks_laws.proofs.Ranked.{order-ranks, rank_in}
use Rattle.scc_blocks_laws.proofs.Settles.{method-thread}
use Rattle.scc_blocks_steady_laws.proofs.Steady.{steady}
use Rattle.scc_core_laws.proofs.Orders.{order-there}
use Rattle.scc_core_resolved_laws.proofs.Owned.{no-reset}
use Rattle.scc_drive_stages_laws.specs.Written.{number_at}
use Rattle.scc_drive_stages_laws.proofs.Joined.{module-shows}
use Rattle.scc_drive_stages_laws.proofs.Written.{joined}
use Rattle.scc_inline_laws.proofs.Homes.{is-home}
use Rattle.scc_inline_spec.specs.Inlined.{home_of}
use Rattle.scc_inline_orderly_laws.proofs.Elaborated.{made-orderly, program-orderly}
use Rattle.scc_core_spec.specs.Constants.{constants_of}
use Rattle.scc_drive_compiled_laws.proofs.Joined.{source-shows}
use Rattle.scc_drive_compiled_laws.proofs.Passed.{both-passes, resolves}
use Rattle.scc_drive_compiled_laws.proofs.laws.a_module_shows_what_the_source_shows.Goals as goal

pub returns : goal.returns
returns x = λ many p d c r text own g m top built whole kinded elaborates passes made resolved fit none sound matches written.
    let orderly = made-orderly many p d elaborates whole (program-orderly p d passes) in
    let home = home_of p d in
    let law = both-passes many p d c r (constants_of home r) whole kinded elaborates orderly made resolved in
    let core = resolves many p d c r (constants_of home r) whole kinded elaborates orderly made resolved fit in
    let is = is-home p d orderly in
    let o = order-there r none in
    let names = joined home r text own g m built.clock_variable top sound.names matches written in
    source-shows p d c r 3 orderly made law core text m
    (module-shows home r text (number_at home r) many g m
    (record { sound = sound; built = built; steady = steady r core none g; rank = rank_in r o.0; ranked = order-ranks r o.0 o.1 (λ i q h k. no-reset home is r core i q h (method-thread q k)) })
    is core none names)
