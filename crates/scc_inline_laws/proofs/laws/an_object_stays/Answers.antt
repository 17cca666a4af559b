use Rattle.scc_inline_process_laws.proofs.Firm.{firm}
use Rattle.scc_inline_laws.proofs.laws.an_object_stays.Goals as goal

pub returns : goal.returns
returns c home places own h held ns l counters all x = firm home places own h held ns l counters all x
