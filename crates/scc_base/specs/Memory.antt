-- What the files and the outputs in memory hold, and which of their calls fail.
use Rattle.std.specs.Prelude.{◌≡◌, ℕ, List, Bool, true, false, Option, Some, None, Result, Ok, Err, take}
use Rattle.std.specs.declared.vec.Vec.{Vec}
use Rattle.std.specs.declared.alloc.Global.{Global}
use Rattle.scc_base.specs.declared.memory_files.MemFiles.{MemFiles}
use Rattle.scc_base.specs.declared.memory_files.CalmFiles.{CalmFiles}
use Rattle.scc_base.specs.declared.memory_sinks.MemSink.{MemSink}
use Rattle.scc_base.specs.declared.memory_sinks.CalmSink.{CalmSink}
use Rattle.scc_base.specs.declared.outside.FileFault.{FileFault}
use Rattle.scc_base.specs.declared.outside.FileFault.TheVariants as file_fault
use Rattle.scc_base.specs.declared.outside.SinkFault.{SinkFault}
use Rattle.scc_base.specs.declared.outside.SinkFault.TheVariants as sink_fault
use Rattle.scc_base.specs.Outside.{Shelf}
use Rattle.scc_base.specs.Shelf.{shelf_of}
use Rattle.scc_base.specs.Plan.{one_more, fails_at}

-- what each name holds
abbrev pub mem_shelf : MemFiles → Shelf
mem_shelf m = shelf_of m.entries.items

-- how many reads were made
abbrev pub mem_calls : MemFiles → ℕ
mem_calls m = m.plan.calls

-- the numbers of the reads that are to fail
abbrev pub mem_failing : MemFiles → List ℕ
mem_failing m = m.plan.failing.items

-- whether the next read is one of those that are to fail
abbrev pub mem_fails : MemFiles → Bool
mem_fails m = fails_at m.plan.failing.items (one_more m.plan.calls)

abbrev pub mem_misses : MemFiles → ℕ
mem_misses m = m.misses

abbrev pub mem_faults : MemFiles → ℕ
mem_faults m = m.faults

abbrev pub calm_shelf : CalmFiles → Shelf
calm_shelf m = shelf_of m.entries.items

abbrev pub calm_misses : CalmFiles → ℕ
calm_misses m = m.misses

-- the bytes that were taken
abbrev pub mem_bytes : MemSink → List ℕ
mem_bytes s = s.bytes.items

-- how many bytes a call takes at most
abbrev pub mem_most : MemSink → ℕ
mem_most s = s.most

abbrev pub mem_sink_calls : MemSink → ℕ
mem_sink_calls s = s.plan.calls

abbrev pub mem_sink_failing : MemSink → List ℕ
mem_sink_failing s = s.plan.failing.items

-- whether the next write is one of those that are to fail
abbrev pub mem_sink_fails : MemSink → Bool
mem_sink_fails s = fails_at s.plan.failing.items (one_more s.plan.calls)

abbrev pub mem_sink_faults : MemSink → ℕ
mem_sink_faults s = s.faults

abbrev pub calm_bytes : CalmSink → List ℕ
calm_bytes s = s.bytes.items

-- the misses after a read: one more where the name is not held, unless the read is to fail
abbrev pub misses_after : Bool → Option (List ℕ) → ℕ → ℕ
misses_after true held misses = misses
misses_after false None misses = one_more misses
misses_after false (Some all) misses = misses

-- what a read answers: whether it is to fail, what the name holds, how many bytes are wanted
abbrev pub ReadAnswer : Bool → Option (List ℕ) → ℕ → Result (Vec ℕ Global) FileFault → Type 0
ReadAnswer true held limit answer = answer ≡ Err file_fault.Failed
ReadAnswer false None limit answer = answer ≡ Err file_fault.Missing
ReadAnswer false (Some all) limit (Ok v) = v.items ≡ take limit all
ReadAnswer false (Some all) limit (Err e) = e ≡ file_fault.NoMemory

-- what a write answers: whether it is to fail, how many bytes it takes
abbrev pub WriteAnswer : Bool → ℕ → Result ℕ SinkFault → Type 0
WriteAnswer true count answer = answer ≡ Err sink_fault.Failed
WriteAnswer false count (Ok n) = n ≡ count
WriteAnswer false count (Err e) = e ≡ sink_fault.NoMemory
