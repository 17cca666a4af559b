use Rattle.std.proofs.Common.{◌≡◌, map}
use Rattle.scc_core_spec.specs.Program.{Program}
use Rattle.scc_core_spec.specs.Renumbered.{new_number}
use Rattle.scc_core_spec.specs.Resolved.{Made}
use Rattle.scc_pointers_numbers.specs.Numbered.{Found}
use Rattle.scc_core_view.specs.Programs.{process_of}
use Rattle.scc_pointers.specs.Resolved.{title_in, title_of}
use Rattle.scc_pointers_laws.specs.Ready.{AreBodies, IsAccepted, IsOver}
use Rattle.scc_pointers_spec.specs.Freed.{all_freed}
use Rattle.scc_pointers.proofs.pass.all.Given as goal

abbrev pub invariant-loop-p : goal.invariant-loop-p
invariant-loop-p l =
    (map title_of l.out ≡ map (title_in l.numbers) l.yielded)
    × ((p : Program) → IsOver p l.known l.vectors → AreBodies l.known l.places l.vectors l.fn.processes → IsAccepted (all_freed p (map process_of l.yielded)))
    × ((p : Program) → IsOver p l.known l.vectors → Found l.numbers (new_number p.cells) → AreBodies l.known l.places l.vectors l.fn.processes → all_freed p (map process_of l.yielded) ≡ Made (map process_of l.out))
