use Rattle.scc_inline_counter_laws.proofs.Even.{still-static}
use Rattle.scc_inline_counter_laws.proofs.laws.static_objects_stay_static.Goals as goal

pub returns : goal.returns
returns c cs ns f l even e = still-static cs ns f l even e
