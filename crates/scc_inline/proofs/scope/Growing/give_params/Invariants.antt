use Rattle.std.proofs.Common.{ℕ, List}
use Rattle.scc_core_spec.specs.Program.{Cell}
use Rattle.scc_elab_spec.specs.Numbering.{first_locals}
use Rattle.scc_elab_spec.specs.Program.{Plain}
use Rattle.scc_plain_view.specs.Plains.{function_of}
use Rattle.scc_semantics.specs.Location.{Root}
use Rattle.scc_inline.specs.Begun.{Keeps}
use Rattle.scc_inline.specs.Named.{IsHere, Stands, added}
use Rattle.scc_inline.proofs.scope.Growing.give_params.Given as goal

abbrev pub invariant-loop-param : goal.invariant-loop-param
invariant-loop-param l = Keeps l.initial.self l.self
    × ((p : Plain) (f : ℕ) (front : List Cell) (cs : List ℕ) (i : ℕ) (roots : List Root) → IsHere p f cs (function_of l.callee) → Stands p f front cs i l.initial.self l.initial.child roots
    → Stands p f front cs i l.self l.child (added roots (first_locals i cs l.param)))
