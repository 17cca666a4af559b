-- The program that a core with other bodies stands for.
use denote.Ref.{Bor}
use Rattle.std.proofs.Common.{◌≡◌, sym, ap, subst, ◌∙◌, List, map, Option, Some, None}
use Rattle.scc_core.specs.declared.places.Places.{Places}
use Rattle.scc_core.specs.declared.program.Core.{Core}
use Rattle.scc_core.specs.declared.program.CoreProcess.{CoreProcess}
use Rattle.scc_core.specs.declared.statics.Known.{Known}
use Rattle.scc_core.specs.Tables.{IsTable}
use Rattle.scc_core_spec.specs.Program.{Process, Program}
use Rattle.scc_core_spec.specs.Unrolled.{unrolled_program, with_body}
use Rattle.scc_core_view.specs.Programs.{cells_of, process_of, program_of, vector_of}
use Rattle.scc_unroll.specs.Unrolled.{body_of}
use Rattle.scc_unroll_asked.specs.Cores.{IsKnown}

pub program_is : (c : Core) (ps : List CoreProcess) → map process_of ps ≡ map (with_body (body_of (cells_of c))) (map process_of c.processes)
    → program_of (record { top = c.top; cells = c.cells; processes = ps; vectors = c.vectors }) ≡ unrolled_program (program_of c)
program_is c ps h = ap made h
  where
    made : List Process → Program
    made x = record { top = c.top.0; cells = cells_of c; vectors = map vector_of c.vectors; processes = x }

some_same : {A : Type 0} (a b : A) → Some a ≡ Some b → a ≡ b
some_same {A = A} a b e = ap unwrapped e
  where
    unwrapped : Option A → A
    unwrapped None = a
    unwrapped (Some x) = x

pub known_is : (known : Known) (c : Core) (b : Bor Places) → known.cells.now ≡ c.cells → known.places ≡ Some b → known.counters ≡ None → IsTable b.now c.cells c.vectors → IsKnown known c
known_is known c b cells places counters table = record {
  cells = cells;
  places = λ p e. subst (λ x. IsTable x.now c.cells c.vectors) (some_same b p (sym places ∙ e)) table;
  counters = counters;
}
