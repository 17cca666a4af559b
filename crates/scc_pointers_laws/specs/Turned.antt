-- What becomes of a statement before what follows it, by the definition. This project's own.
use Rattle.std.specs.Prelude.{◌≡◌, Result, Ok, Err}
use Rattle.scc_base.specs.declared.refusal.Place.{Place}
use Rattle.scc_base.specs.declared.refusal.Stop.{Stop}
use Rattle.scc_base.specs.declared.refusal.Stop.TheVariants as stop
use Rattle.scc_core.specs.declared.stmt.CoreNode.{CoreNode}
use Rattle.scc_core_spec.specs.Code.{Code}
use Rattle.scc_core_spec.specs.Resolved.{Leads, Stopped, made_map}
use Rattle.scc_core_view.specs.Codes.{stmt_code}
use Rattle.scc_pointers_spec.specs.Freed.{freed}

-- The node of the resolved statement, with what is known before it and behind it: whatever follows, the definition has that statement there, or its refusal.
abbrev pub Turns : Leads → Leads → Place → (Code → Code) → Result CoreNode Stop → Type 0
Turns a b p f (Ok n) = (c : Code) → freed a (f c) ≡ made_map (stmt_code (record { place = p; node = n })) (freed b c)
Turns a b p f (Err (stop.Refused q)) = (c : Code) → freed a (f c) ≡ Stopped q
Turns a b p f (Err stop.NoMemory) = Unit {0}
