-- Arguments that the code evaluates, as the definitions give them. This project's own.
use Rattle.std.specs.Prelude.{◌≡◌, List, map, Option, Some, None, option_map, Result, Ok, Err}
use Rattle.scc_base.specs.declared.refusal.Stop.{Stop}
use Rattle.scc_base.specs.declared.refusal.Stop.TheVariants as stop
use Rattle.scc_core_spec.specs.Resolved.{Tried, Made, Stopped, made_map}
use Rattle.scc_elab_spec.specs.Term.{Argument, Value, Leads, ModuleName}
use Rattle.scc_elab_spec.specs.Worth.{Site, Given, Word, Place_given, worth, target}
use Rattle.scc_elab_store.specs.Locations.{location_of}
use Rattle.scc_elab_worth.specs.declared.args.Given.{Given as Held}
use Rattle.scc_elab_worth.specs.declared.args.Given.TheVariants as held

abbrev pub given_in : Held → Given
given_in (held.Word w) = Word w
given_in (held.Leads t) = Place_given (option_map location_of t)

-- one argument, None for a module's name
abbrev pub one_given : Site → Argument → Tried (Option Given)
one_given s (Value e) = made_map (λ w. Some (Word w)) (worth s e)
one_given s (Leads t) = made_map (λ o. Some (Place_given o)) (target s t)
one_given s ModuleName = Made None

abbrev pub IsOne : Result (Option Held) Stop → Tried (Option Given) → Type 0
IsOne (Ok o) t = t ≡ Made (option_map given_in o)
IsOne (Err (stop.Refused r)) t = t ≡ Stopped r
IsOne (Err stop.NoMemory) t = Unit {0}

abbrev pub IsGiven : {X : Type 0} → (X → List Held) → Result X Stop → Tried (List Given) → Type 0
IsGiven view (Ok x) t = t ≡ Made (map given_in (view x))
IsGiven view (Err (stop.Refused r)) t = t ≡ Stopped r
IsGiven view (Err stop.NoMemory) t = Unit {0}
