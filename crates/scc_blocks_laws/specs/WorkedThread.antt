-- A worked value: a thread with an asynchronous reset that writes 0, waits for one edge, and then writes 1 at every second edge; and its block. This project's own.
use Rattle.std.specs.Prelude.{ℕ, nat_eq, true, List, [], ◌∷◌, Some, None, codes, if◌then◌else◌, false}
use Rattle.scc_bits_kinds.specs.declared.kind.Kind.TheVariants as kind
use Rattle.scc_svtree.specs.declared.module.SvModule.{SvModule}
use Rattle.scc_svtree.specs.declared.module.SvSet.{SvSet}
use Rattle.scc_svtree.specs.declared.module.SvReset.{SvReset}
use Rattle.scc_svtree.specs.declared.module.Dir.TheVariants.{Input, Output, Inner}
use Rattle.scc_svtree.specs.declared.module.SvBlock.TheVariants as block
use Rattle.scc_svtree.specs.Term as emitted
use Rattle.scc_svtree.specs.Code as emitted_code
use Rattle.scc_svtree.specs.Variables.{width_at}
use Rattle.scc_core_spec.specs.Code.{Code, End, Wait, Loop}
use Rattle.scc_core_spec.specs.Program.{Program, Process}
use Rattle.scc_core_spec.specs.Program as program
use Rattle.scc_core_spec.specs.Uses.{among}
use Rattle.scc_core_spec.specs.Worked.{here, named, cell, put, byte}
use Rattle.scc_blocks_spec.specs.Tied.{Registers}
use Rattle.scc_blocks_spec.specs.WorkedList.{var}
use Rattle.scc_blocks_spec.specs.Shown.{state_number, next_state_number, counter_number, next_counter_number}
use Rattle.scc_blocks_run_laws.specs.Pieces.{Wide, whole, firsts_code, then_code, place_code, counted, states_code, variable}
use Rattle.scc_blocks_run_laws.specs.Blocks.{Numbering}
use Rattle.scc_blocks_laws.specs.Worked.{read_of}

abbrev pub pulse_body : Code
pulse_body = put 2 (byte 0) (Wait here 0 1 (Loop here None (put 2 (byte 1) (Wait here 0 2 End)) End))

abbrev pub pulse_process : Process
pulse_process = record {
  is_thread = true;
  name = named 9;
  place = here;
  senses = [];
  edge = Some (record { cell = 0; rising = true });
  reset = Some (record { cell = 1; level = true; asynchronous = true });
  body = pulse_body;
}

abbrev pub pulse : Program
pulse = record {
  top = 8;
  cells = cell 0 kind.Bool program.Input ∷ cell 1 kind.Bool program.Input ∷ cell 2 (kind.Uint 8) program.Output ∷ [];
  vectors = [];
  processes = pulse_process ∷ [];
}

abbrev pub pulse_registers : Registers
pulse_registers = record { variable = λ c. if nat_eq c 1 then Some 1 else (if nat_eq c 2 then Some 2 else None); state = λ i. Some 4; counter = λ i. Some 6 }

abbrev pub pulse_sets : List SvSet
pulse_sets = record { target = record { 0 = 2 }; value = read_of 3 } ∷ record { target = record { 0 = 4 }; value = read_of 5 } ∷ record { target = record { 0 = 6 }; value = read_of 7 } ∷ []

abbrev pub pulse_reset : SvReset
pulse_reset = record {
  signal = record { 0 = 1 };
  rising = true;
  values = record { target = record { 0 = 2 }; value = record { bits = 0 } } ∷ record { target = record { 0 = 4 }; value = record { bits = 0 } } ∷ record { target = record { 0 = 6 }; value = record { bits = 0 } } ∷ [];
}

-- the edge alone; the block is given as code
abbrev pub pulse_module : SvModule
pulse_module = record {
  name = codes "t";
  vars = var (codes "clk") 1 Input ∷ var (codes "rst") 1 Input ∷ var (codes "q") 8 Output ∷ var (codes "q$$n") 8 Inner ∷ var (codes "t$$state") 1 Inner ∷ var (codes "t$$state$$n") 1 Inner
      ∷ var (codes "t$$wait") 1 Inner ∷ var (codes "t$$wait$$n") 1 Inner ∷ [];
  blocks = block.Edge true (record { 0 = 0 }) (Some pulse_reset) pulse_sets ∷ [];
}

abbrev pub pulse_id : ℕ → ℕ
pulse_id v = if nat_eq v 2 then 1 else (if nat_eq v 4 then 2 else (if nat_eq v 5 then 3 else (if nat_eq v state_number then 4 else (if nat_eq v next_state_number then 5
    else (if nat_eq v counter_number then 6 else (if nat_eq v next_counter_number then 7 else 0))))))

abbrev pub pulse_declared : List ℕ
pulse_declared = 2 ∷ 4 ∷ 5 ∷ state_number ∷ next_state_number ∷ counter_number ∷ next_counter_number ∷ []

abbrev pub pulse_numbers : Numbering
pulse_numbers = record {
  id = pulse_id;
  declared = λ v. among v pulse_declared;
  width = λ v. width_at pulse_module.vars (pulse_id v);
  firsts = record { target = 5; source = Some 4 } ∷ record { target = next_state_number; source = Some state_number } ∷ record { target = next_counter_number; source = Some counter_number } ∷ [];
}

abbrev pub pulse_wide : Wide
pulse_wide = record { state = 1; counter = 1 }

abbrev pub gives_one : emitted_code.Code
gives_one = emitted_code.Assign (whole 5) (emitted.Literal 8 1) emitted_code.End

abbrev pub pulse_segment : emitted_code.Code
pulse_segment = then_code gives_one (place_code pulse_wide 1 1)

abbrev pub pulse_codes : List emitted_code.Code
pulse_codes = counted pulse_wide 1 pulse_segment ∷ counted pulse_wide 2 pulse_segment ∷ []

abbrev pub pulse_states : emitted_code.Code
pulse_states = states_code 1 pulse_codes

abbrev pub pulse_block : emitted_code.Code
pulse_block = firsts_code pulse_numbers.width pulse_numbers.firsts pulse_states

-- ---- the same with a reset that isn't asynchronous

abbrev pub sync_process : Process
sync_process = record {
  is_thread = true;
  name = named 9;
  place = here;
  senses = [];
  edge = Some (record { cell = 0; rising = true });
  reset = Some (record { cell = 1; level = true; asynchronous = false });
  body = pulse_body;
}

abbrev pub sync : Program
sync = record { top = 8; cells = pulse.cells; vectors = []; processes = sync_process ∷ [] }

abbrev pub sync_reset : emitted_code.Code
sync_reset = then_code (emitted_code.Assign (whole 5) (emitted.Literal 8 0) emitted_code.End) (place_code pulse_wide 0 0)

abbrev pub sync_body : emitted_code.Code
sync_body = emitted_code.If (variable 2) sync_reset pulse_states emitted_code.End

abbrev pub sync_block : emitted_code.Code
sync_block = firsts_code pulse_numbers.width pulse_numbers.firsts sync_body
