use Rattle.std.proofs.Common.{true}
use Rattle.scc_inline_process_laws.proofs.Firm.{firm}
use Rattle.scc_inline_process_laws.proofs.Chosen.{chosen-object}
use Rattle.scc_elab_spec.specs.Bodies.{result_name}
use Rattle.scc_elab_spec.specs.Copied.{left_of}
use Rattle.scc_inline_counter_laws.proofs.Even.{still-static}
use Rattle.scc_inline_laws.proofs.laws.an_object_that_is_not_refused_stays.Goals as goal

pub returns : goal.returns
returns c home places own h held ns l counters all even s t = firm home places own h held ns l counters all (chosen-object home h ns l s (λ f. still-static h.cells ns f (left_of h (result_name h) true l) even t))
