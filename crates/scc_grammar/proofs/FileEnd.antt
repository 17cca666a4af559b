-- The end of a file.
use Rattle.std.specs.Prelude.{◌≡◌, true, false, [], ◌∷◌, Ok, Err, refl}
use Rattle.std.proofs.Common.{ap}
use Rattle.scc_reading.specs.Reading.{and_then, pure, is_next, at_end, unexpected, repeat_on}
use Rattle.scc_grammar_terminals.specs.declared.terminal.Seen.{Seen}
use Rattle.scc_grammar_spec.specs.Bodies.{Body, begun}
use Rattle.scc_grammar_terminals.specs.Names.{no_names}
use Rattle.scc_grammar_spec.specs.ParseFile as f
use Rattle.scc_grammar_terminals.specs.Text.{Text}

pub goes_on : {A : Type 0} (a : A) (ts : Text) → is_next (λ _. true) ts ≡ true → at_end {T = Seen} a ts ≡ Err (unexpected ts)
goes_on a [] h = cc
goes_on a (t ∷ ts) h = refl

pub ends : {A : Type 0} (a : A) (ts : Text) → is_next (λ _. true) ts ≡ false → at_end {T = Seen} a ts ≡ Ok (a, [])
ends a [] h = refl
ends a (t ∷ ts) h = cc

pub program_read : (ts : Text) (b : Body) (r : Text) → repeat_on f.is_part (f.part 128) (begun no_names) ts ≡ Ok (b, r) → f.program 128 ts ≡ at_end b.items r
unfolding f.program f.file
program_read ts b r h = ap (λ o. and_then (and_then o (λ b. pure b.items)) at_end) h
