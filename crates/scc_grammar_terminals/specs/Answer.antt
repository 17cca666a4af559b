use Rattle.std.specs.Prelude.{◌≡◌, List, [], ◌∷◌, ◌++◌, Option, Some, None, Result, Ok, Err}
use Rattle.scc_base.specs.declared.refusal.Place.{Place}
use Rattle.scc_grammar_terminals.specs.declared.halt.Halt.{Halt}
use Rattle.scc_grammar_terminals.specs.declared.halt.Halt.TheVariants as halt
use Rattle.scc_reading.specs.Reading.{unexpected, too_deep, ◌>>=◌, pure}
use Rattle.scc_grammar_terminals.specs.Text.{Text, Outcome, Parser}

abbrev pub head_place : Text → Option Place
head_place [] = None
head_place (t ∷ ts) = Some t.place

abbrev pub Fails : {A : Type 0} → Halt → Outcome A → Type 0
Fails halt.NoMemory read = Unit {0}
Fails (halt.Unexpected place) read = (r : Text) × (read ≡ Err (unexpected r)) × (place ≡ head_place r)
Fails (halt.TooDeep place) read = (r : Text) × (read ≡ Err (too_deep r)) × (place ≡ head_place r)

abbrev pub Gives : {X Y : Type 0} → (X → Y × Text) → Result X Halt → Outcome Y → Type 0
Gives view (Ok x) read = read ≡ Ok (view x)
Gives view (Err e) read = Fails e read

-- what has been read, and behind it what the rest gives
abbrev pub onto : {A : Type 0} → List A → Parser (List A) → Parser (List A)
onto found p = p >>= λ more. pure (found ++ more)

-- the same with a state
abbrev pub onto_in : {A S : Type 0} → List A → Parser (List A × S) → Parser (List A × S)
onto_in found p = p >>= λ more. pure (found ++ more.0, more.1)
