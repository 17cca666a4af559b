use Rattle.std.proofs.Common.{◌≡◌, drop}
use Rattle.scc_core_spec.specs.Resolved.{made_map}
use Rattle.scc_core_view.specs.Codes.{code_of}
use Rattle.scc_pointers_laws.specs.Asked.{AreAsked}
use Rattle.scc_unroll_asked.specs.Items.{asked}
use Rattle.scc_pointers_laws.specs.Followed.{IsKnown}
use Rattle.scc_pointers_laws.specs.Stated.{Begins}
use Rattle.scc_pointers_spec.specs.Freed.{freed}
use Rattle.scc_pointers_walk.specs.Led.{leads_of}
use Rattle.scc_unroll_laws.specs.Writing.{set_before}
use Rattle.scc_pointers.proofs.stmt.+resolved.Given as goal

abbrev pub invariant-resolved_stmts-loop-s : goal.invariant-resolved_stmts-loop-s
invariant-resolved_stmts-loop-s l =
    (Begins l.initial.r.held.entries l.r.held.entries)
    × (l.r.known ≡ l.initial.r.known)
    × (l.r.places ≡ l.initial.r.places)
    × (l.r.vectors ≡ l.initial.r.vectors)
    × (AreAsked l.initial.r (asked l.body) → IsKnown l.initial.r
    → AreAsked l.initial.r (asked (drop l.s-index l.body))
    × IsKnown l.r
    × (made_map (set_before l.out) (freed (leads_of l.r) (code_of (drop l.s-index l.body))) ≡ freed (leads_of l.initial.r) (code_of l.body)))
