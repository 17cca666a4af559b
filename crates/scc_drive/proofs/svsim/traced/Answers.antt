use Rattle.std.proofs.Common.{◌<◌, ◌≤◌, ◌^◌, sym, subst, length, arith, false}
use Rattle.scc_svrun_trace.specs.Traced.{IsTrace, IsUntraced}
use Rattle.scc_drive_svsim.proofs.Taken.{sound_many, few_variables}
use Rattle.scc_drive.proofs.Emitting.{trace_given, trace_refused}
use Rattle.scc_drive.proofs.svsim.traced.Goals as goal

pub module_trace-requires : goal.module_trace-requires
module_trace-requires c =
    let read = c.requires.read in
    let few : length c.args.m.now.vars ≤ length read.0 = few_variables false read.0 c.args.m.now read.1.text in
    let within : length read.0 ≤ 1048576 = read.2 in
    let short : length c.args.stimulus.now.bytes ≤ 1048576 = c.requires.short in
    record {
      sound = sound_many c.args.m.now read.1.text.sound;
      few = omega (arith, few, within);
      short = subst (λ b. length b < 2 ^ 32) (sym c.bytes.ensures.bytes) (omega (arith, short));
    }

pub returns-in-Ok : goal.returns-in-Ok
returns-in-Ok c = λ top. trace_given c.args.m.now c.args.stimulus.now top c.in-Ok.text (subst (λ b. IsTrace 0 c.args.m.now b c.in-Ok.text) c.bytes.ensures.bytes c.in-Ok.ensures.trace)

pub returns-in-Err : goal.returns-in-Err
returns-in-Err c = λ top.
    trace_refused c.args.m.now c.args.stimulus.now top c.in-Err.stop c.stopped_in.result (subst (λ b. IsUntraced 0 c.args.m.now b c.in-Err.stop) c.bytes.ensures.bytes c.in-Err.ensures.refused) c.stopped_in.ensures
