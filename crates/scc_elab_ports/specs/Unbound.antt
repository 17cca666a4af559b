-- What is looked for of ports once construction has run. This project's own.
use Rattle.std.specs.Prelude.{◌≡◌, ℕ, ◌&&◌, not, Option, Some, None, is_some, Result, Ok, Err}
use Rattle.scc_base.specs.declared.refusal.Refusal.{Refusal}
use Rattle.scc_base.specs.declared.refusal.Stop.{Stop}
use Rattle.scc_base.specs.declared.refusal.Stop.TheVariants as stop
use Rattle.scc_base.specs.declared.code.Code.TheVariants as reason
use Rattle.scc_core_spec.specs.First.{refused, when}
use Rattle.scc_elab_spec.specs.Design.{Object}
use Rattle.scc_elab_spec.specs.Grown.{Grown}
use Rattle.scc_elab_spec.specs.Binding.{home, is_top, bound_of}
use Rattle.scc_elab_spec.specs.After.{is_port}

-- no refusal, or just this one; or memory is wanted
abbrev pub Says : {A : Type 0} → Option Refusal → Result A Stop → Type 0
Says r (Ok a) = r ≡ None
Says r (Err (stop.Refused x)) = r ≡ Some x
Says r (Err stop.NoMemory) = Unit {0}

-- the refusal of the object of that number
abbrev pub unbound_at : Grown → ℕ → Object → Option Refusal
unbound_at g n o = when (is_port o.node && (not (is_top (home g o.path)) && not (is_some (bound_of g n)))) (refused reason.Unbound o.place)
