use Rattle.scc_core_pass_laws.proofs.Pointless.{term-is}
use Rattle.scc_core_pass_laws.proofs.laws.objects_stand_for_pointers.Goals as goal

pub returns : goal.returns
returns c = λ home h p constant i q named apart signals a fixed local known e y own made. (term-is home h p constant i q named apart signals a fixed local known e y own made).value
