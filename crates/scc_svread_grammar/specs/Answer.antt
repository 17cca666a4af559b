-- What a function of the code answers, by what reading as a function gives.
use Rattle.std.specs.Prelude.{◌≡◌, ℕ, length, Result, Ok, Err}
use Rattle.scc_reading.specs.Reading.{unexpected, too_deep, Outcome}
use Rattle.scc_svread_grammar.specs.declared.halt.Halt.{Halt}
use Rattle.scc_svread_grammar.specs.declared.halt.Halt.TheVariants as halt
use Rattle.scc_svread_grammar.specs.Lexical.{Bytes}

abbrev pub Fails : {A : Type 0} → Halt → Outcome ℕ A → Type 0
Fails halt.NoMemory read = Unit {0}
Fails (halt.Unexpected left) read = (r : Bytes) × (read ≡ Err (unexpected r)) × (left ≡ length r)
Fails (halt.TooDeep left) read = (r : Bytes) × (read ≡ Err (too_deep r)) × (left ≡ length r)

abbrev pub Gives : {X Y : Type 0} → (X → Y × Bytes) → Result X Halt → Outcome ℕ Y → Type 0
Gives view (Ok x) read = read ≡ Ok (view x)
Gives view (Err e) read = Fails e read
