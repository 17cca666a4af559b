-- The first statement of construction in what a statement holds. This project's own.
use Rattle.std.specs.Prelude.{Option, Some, None}
use Rattle.scc_base.specs.declared.refusal.Place.{Place}
use Rattle.scc_core_spec.specs.First.{or_else}
use Rattle.scc_elab_spec.specs.After.{constructing}
use Rattle.scc_plain_view.specs.Codes.{code_of}
use Rattle.scc_elab_checks.specs.declared.statements.Held.{Held}
use Rattle.scc_elab_checks.specs.declared.statements.Held.TheVariants as held

abbrev pub found_in : Held → Option Place
found_in (held.Both a b) = or_else (constructing (code_of a.now)) (or_else (constructing (code_of b.now)) None)
found_in (held.One a) = or_else (constructing (code_of a.now)) None
found_in (held.Itself p) = Some p
found_in held.Nothing = None
