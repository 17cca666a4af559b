-- Tokens as the grammar sees them, and what reads them.
use Rattle.std.specs.Prelude.{Bool, true, false, List, Option, Some, None, is_some}
use Rattle.scc_base.specs.declared.names.Name.{Name}
use Rattle.scc_base.specs.declared.refusal.Place.{Place}
use Rattle.scc_grammar_terminals.specs.declared.terminal.Seen.{Seen}
use Rattle.scc_grammar_terminals.specs.declared.terminal.Terminal.{Terminal}
use Rattle.scc_grammar_terminals.specs.declared.terminal.Terminal.TheVariants as t
use Rattle.scc_reading.specs.Reading as reading
use Rattle.scc_reading.specs.Reading.{token}

abbrev pub Text : Type 0
Text = List Seen

abbrev pub Parser : Type 0 → Type 0
Parser A = reading.Parser Seen A

abbrev pub Outcome : Type 0 → Type 0
Outcome A = reading.Outcome Seen A

-- this terminal at this place
abbrev pub at : Terminal → Place → Seen
at terminal place = record { terminal = terminal; place = place }

abbrev pub kept : Bool → Place → Option Place
kept true p = Some p
kept false p = None

-- the place of a token that passes the test
abbrev pub is : (Terminal → Bool) → Seen → Option Place
is test s = kept (test s.terminal) s.place

abbrev pub next_is : (Terminal → Bool) → Seen → Bool
next_is test s = test s.terminal

abbrev pub mark : (Terminal → Bool) → Parser Place
mark test = token (is test)

abbrev pub placed_at : {A : Type 0} → Option A → Place → Option (A × Place)
placed_at (Some a) p = Some (a, p)
placed_at None p = None

-- what a token says, with its place
abbrev pub pick : {A : Type 0} → (Terminal → Option A) → Seen → Option (A × Place)
pick f s = placed_at (f s.terminal) s.place

abbrev pub next_says : {A : Type 0} → (Terminal → Option A) → Seen → Bool
next_says f s = is_some (f s.terminal)

abbrev pub identifier : Terminal → Option Name
identifier (t.Ident x) = Some x
identifier _ = None

-- an identifier, with its place
abbrev pub name_at : Parser (Name × Place)
name_at = token (pick identifier)
