-- What holds of every macro.
use Rattle.std.specs.Prelude.{◌≡◌, ℕ, List, [], ◌∷◌}
use Rattle.scc_base.specs.declared.refusal.Place.{Place}
use Rattle.scc_tokens_directives.specs.Expands.{Expands}
use Rattle.scc_tokens_directives.specs.Macros.{Table, Event, Use, take_events, expanded}
use Rattle.scc_tokens_directives.specs.declared.out.Out.{Out}
use Rattle.scc_tokens_lexer.specs.declared.token.Token.{Token}

-- what an expansion gives by derivations is what is joined for a macro use, or the refusal of too many tokens or uses
abbrev pub ExpandsWhole : Type 0
ExpandsWhole = (table : Table) (place : Place) (n : ℕ) (body : List Token) (es : List Event) (o : Out) → Expands table place (n ∷ []) body es → take_events place (Use ∷ es) o ≡ expanded table place n body o
