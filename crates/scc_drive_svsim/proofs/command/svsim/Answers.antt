use Rattle.std.proofs.Common.{◌≤◌, false, length, arith}
use Rattle.scc_drive_svsim.proofs.Taken.{sound_many, few_variables}
use Rattle.scc_drive_svsim.proofs.command.svsim.Goals as goal

pub module_trace-requires-clause-sound : goal.module_trace-requires-clause-sound
module_trace-requires-clause-sound c = sound_many c.in_ok-m.m c.in_ok-m.ensures.read.text.sound

pub module_trace-requires-clause-few : goal.module_trace-requires-clause-few
module_trace-requires-clause-few c =
    let a : length c.in_ok-m.m.vars ≤ length c.args.text.now = few_variables false c.args.text.now c.in_ok-m.m c.in_ok-m.ensures.read.text in
    omega (arith, a, c.requires.text)
