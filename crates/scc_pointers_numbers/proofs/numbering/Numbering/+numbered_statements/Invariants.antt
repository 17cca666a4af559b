use Rattle.std.proofs.Common.{◌≡◌, ℕ, take}
use Rattle.scc_core_spec.specs.Code.{Code}
use Rattle.scc_core_spec.specs.Renumbered.{renamed_code}
use Rattle.scc_unroll_laws.specs.Writing.{set_before}
use Rattle.scc_pointers_numbers.specs.Numbered.{Found}
use Rattle.scc_pointers_numbers.proofs.numbering.Numbering.+numbered_statements.Given as goal

abbrev pub invariant-stmts-loop-s : goal.invariant-stmts-loop-s
invariant-stmts-loop-s l = (f : ℕ → ℕ) → Found l.self.numbers.now f → (c : Code) → set_before l.made (renamed_code f c) ≡ renamed_code f (set_before (take l.s-index l.list) c)
