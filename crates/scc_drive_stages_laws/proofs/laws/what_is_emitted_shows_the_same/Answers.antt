use Rattle.scc_blocks_laws.proofs.Ranked.{order-ranks, rank_in}
use Rattle.scc_blocks_laws.proofs.Settles.{method-thread}
use Rattle.scc_blocks_steady_laws.proofs.Steady.{steady}
use Rattle.scc_core_laws.proofs.Orders.{order-there}
use Rattle.scc_core_resolved_laws.proofs.Owned.{no-reset}
use Rattle.scc_drive_stages_laws.proofs.Joined.{module-shows}
use Rattle.scc_drive_stages_laws.proofs.laws.what_is_emitted_shows_the_same.Goals as goal

pub returns : goal.returns
returns c = λ home p text at many r m built sound is core none joined.
    let o = order-there p none in
    module-shows home p text at many r m
    (record { sound = sound; built = built; steady = steady p core none r; rank = rank_in p o.0; ranked = order-ranks p o.0 o.1 (λ i q g k. no-reset home is p core i q g (method-thread q k)) })
    is core none joined
