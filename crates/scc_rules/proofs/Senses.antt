-- Roots that aren't in a sensitivity, process by process.
use Rattle.std.proofs.Common.{◌≡◌, refl, sym, ap, ◌∙◌, subst, ℕ, zero, suc, Bool, true, false, not, ◌&&◌, if◌then◌else◌, List, [], ◌∷◌, map, slice_get, unwrap_or, Option, Some, None}
use Rattle.std.specs.Prelude.{option_map}
use Rattle.scc_base.specs.declared.code.Code.TheVariants as reason
use Rattle.scc_base.specs.declared.refusal.Refusal.{Refusal}
use Rattle.scc_core.specs.declared.program.Cell.{Cell}
use Rattle.scc_core.specs.declared.program.CellSort.{CellSort}
use Rattle.scc_core.specs.declared.program.CellSort.TheVariants as sort
use Rattle.scc_core.specs.declared.program.CoreProcess.{CoreProcess}
use Rattle.scc_core_flow.specs.declared.marks.Mark.{Mark}
use Rattle.scc_core_spec.specs.First.{first_of}
use Rattle.scc_core_spec.specs.Program.{Program, is_combinational, is_root}
use Rattle.scc_core_spec.specs.Rules.{missing_sensitivity}
use Rattle.scc_core_spec.specs.Uses.{among, has_sort}
use Rattle.scc_core_view.specs.Programs.{cell_of, process_of, program_of, sort_of}
use Rattle.scc_rules_laws.specs.Found.{first_along, only, read_found, unlisted_read}
use Rattle.scc_rules_laws.specs.Seen.{AreSeen}
use Rattle.scc_rules_laws.proofs.Sensed.{senses_told}
use Rattle.scc_rules_walks.specs.Cells.{has_flag}
use Rattle.scc_rules.specs.declared.facts.Facts.{Facts}
use Rattle.scc_rules.specs.Marks.{HasMarks, HasSame, root_cell, seen_all, seen_in, seen_of, unlisted_by}
use Rattle.scc_rules.proofs.Clocks.{along_source}
use Rattle.scc_rules.proofs.Firsts.{first_map}

-- ---- the set of signals and of ports of the top

pub roots_are : (cells : List Cell) (n : ℕ) → has_flag (map root_cell cells) n ≡ has_sort is_root (map cell_of cells) n
roots_are [] n = refl
roots_are (c ∷ cs) zero = refl
roots_are (c ∷ cs) (suc n) = roots_are cs n

-- ---- one process

and_swap : (a b : Bool) → (a && b) ≡ (b && a)
and_swap true true = refl
and_swap true false = refl
and_swap false true = refl
and_swap false false = refl

pub unlisted_found : (f : Facts) (p : CoreProcess) (ms : List Mark) (found : Option Refusal) (cells : List ℕ) (flags now set roots : List Bool) → is_combinational (process_of p) ≡ true → cells ≡ p.senses → flags ≡ now
    → ((n : ℕ) → has_flag now n ≡ (not (among n cells) && has_flag set n)) → HasSame set roots
    → found ≡ first_of (λ m. read_found reason.MissingSensitivity (has_flag flags) (seen_of f m)) ms → found ≡ unlisted_by (has_flag roots) (process_of p) (seen_in f ms)
unlisted_found f p ms found cells flags now set roots is listed value told h found_is =
    found_is
    ∙ sym (first_map (read_found reason.MissingSensitivity (has_flag flags)) (seen_of f) ms)
    ∙ ap (λ t. first_of (read_found reason.MissingSensitivity t) (seen_in f ms)) (λ i n. same n i)
    ∙ ap (λ b. only b (first_of (read_found reason.MissingSensitivity (λ n. has_flag roots n && not (among n p.senses))) (seen_in f ms))) (sym is)
  where
    same : (n : ℕ) → has_flag flags n ≡ (has_flag roots n && not (among n p.senses))
    same n =
        ap (λ s. has_flag s n) value ∙ told n ∙ ap (λ cs. not (among n cs) && has_flag set n) listed ∙ ap (λ b. not (among n p.senses) && b) (h n)
        ∙ and_swap (not (among n p.senses)) (has_flag roots n)

-- ---- all of them

pub senses_found : (f : Facts) (p : Program) (roots : List Bool) → HasMarks f p → roots ≡ map root_cell f.core.now.cells
    → first_along (λ q. unlisted_by (has_flag roots) (process_of q)) f.core.now.processes (seen_all f) ≡ missing_sensitivity p
senses_found f p roots h is =
    let c = f.core.now in
    let q = program_of c in
    ap (λ t. first_along (λ r. unlisted_by t (process_of r)) c.processes (seen_all f)) (λ i n. (ap (λ s. has_flag s n) is ∙ roots_are c.cells n) i)
    ∙ sym (along_source (unlisted_read q.cells) process_of c.processes (seen_all f))
    ∙ senses_told q (seen_all f) (subst (λ r. AreSeen r (seen_all f)) h.core h.seen)
    ∙ ap missing_sensitivity (sym h.core)
