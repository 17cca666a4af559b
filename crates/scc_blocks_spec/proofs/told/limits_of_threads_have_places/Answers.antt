use Rattle.std.proofs.Common.{Some, option_map, ap}
use Rattle.scc_base.specs.declared.code.Code.TheVariants as reason
use Rattle.scc_core_spec.specs.First.{first_of, refused}
use Rattle.scc_blocks_spec.proofs.told.limits_of_threads_have_places.Goals as goal

pub returns-clause-states : goal.returns-clause-states
returns-clause-states c cs q p more e = ap (first_of (λ at. Some (refused reason.TooManyStates at))) e

pub returns-clause-segments : goal.returns-clause-segments
returns-clause-segments c cs q p e = ap (option_map (refused reason.SegmentsTooLarge)) e
