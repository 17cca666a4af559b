-- What the law of copied bodies asks of a program whose design construction made, and which construction doesn't give by itself; and the same as a test.
use Rattle.std.specs.Prelude.{◌≡◌, ℕ, Bool, true, false, ◌&&◌, nat_eq, List, Option, Some, slice_get}
use Rattle.std.specs.List.{list_all}
use Rattle.scc_elab_spec.specs.Program.{Function, Plain}
use Rattle.scc_elab_spec.specs.Design as design
use Rattle.scc_elab_spec.specs.Design.{Design}
use Rattle.scc_elab_spec.specs.Numbering.{function_at}
use Rattle.scc_inline_counter_laws.specs.Even.{is_even_process, are_even}
use Rattle.scc_inline_laws.specs.Orderly.{IsOrderlyFunction}
use Rattle.scc_inline_orderly_laws.specs.Reached.{reached}
use Rattle.scc_inline_orderly_laws.specs.Whole.{differ, are_orderly}

pub record IsOrderlyProgram (p : Plain) (d : Design) : Type 0 where
  -- the functions that calls of processes lead to
  pub functions : (i : ℕ) (q : design.Process) → slice_get d.processes i ≡ Some q → (cs : List ℕ) (f : ℕ) (g : Function) → function_at p q.function cs ≡ Some f → slice_get p.functions f ≡ Some g → IsOrderlyFunction p g
  -- functions that run on one object have different names
  pub names : (i j : ℕ) (q r : design.Process) (f g : Function) → slice_get d.processes i ≡ Some q → slice_get d.processes j ≡ Some r → q.object ≡ r.object
      → slice_get p.functions q.function ≡ Some f → slice_get p.functions r.function ≡ Some g → f.name ≡ g.name → q.function ≡ r.function
  -- elements are alike from which counters choose for calls
  pub arrays : (i : ℕ) (q : design.Process) → slice_get d.processes i ≡ Some q → is_even_process p d i q ≡ true

abbrev pub same_name : Option Function → Option Function → Bool
same_name (Some f) (Some g) = nat_eq f.name g.name
same_name f g = false

-- on one object, of one name
abbrev pub same_run : Plain → design.Process → design.Process → Bool
same_run p q r = nat_eq q.object r.object && same_name (slice_get p.functions q.function) (slice_get p.functions r.function)

abbrev pub is_orderly_program : Plain → Design → Bool
is_orderly_program p d = list_all (λ q. are_orderly p d q.function (reached p q.function)) d.processes && (differ (same_run p) d.processes && are_even p d 0 d.processes)
