-- Macros (C++, "Macro replacement"): a name's tokens are replaced by those that it was last defined as, and no name is replaced
-- within its own replacement.
use Rattle.std.specs.Prelude.{ℕ, zero, suc, List, [], ◌∷◌, if◌then◌else◌, Option, Some, None, nat_eq}
use Rattle.std.specs.List.{flat_map, list_any}
use Rattle.std.specs.Map.{lookup}
use Rattle.scc_base.specs.declared.refusal.Place.{Place}
use Rattle.scc_tokens_directives.specs.declared.out.Out.{Out}
use Rattle.scc_tokens_lexer.specs.declared.token.Token.{Token}
use Rattle.scc_tokens_lexer.specs.declared.token.TokenKind.{TokenKind}
use Rattle.scc_tokens_lexer.specs.declared.token.TokenKind.TheVariants as kind
use Rattle.scc_tokens_directives.specs.Out.{put_token, counted}
use Rattle.scc_tokens_directives.specs.Steps.{Step, goes, after}

-- the names that were defined, in the order of their first definitions, with their tokens
abbrev pub Table : Type 0
Table = List (ℕ × Option (List Token))

abbrev pub flat : Option (Option (List Token)) → Option (List Token)
flat None = None
flat (Some o) = o

abbrev pub macro_of : Table → ℕ → Option (List Token)
macro_of table n = flat (lookup (nat_eq n) table)

-- what an expansion does in turn: it uses a macro, or gives a token
pub data Event : Type 0 where
  Use : Event
  Put : Token → Event

-- a token of an expansion has the place of the macro's outermost use
abbrev pub placed : Place → Token → Token
placed place t = record t { place = place }

abbrev pub use_events : (ℕ → List Token → List Event) → Place → Token → ℕ → Option (List Token) → List Event
use_events inner place t n None = Put (placed place t) ∷ []
use_events inner place t n (Some body) = Use ∷ inner n body

abbrev pub kind_events : (ℕ → List Token → List Event) → Table → List ℕ → Place → Token → TokenKind → List Event
kind_events inner table hidden place t (kind.Ident n) = use_events inner place t n.0 (if list_any (nat_eq n.0) hidden then None else macro_of table n.0)
kind_events inner table hidden place t _ = Put (placed place t) ∷ []

-- what a token gives where these names aren't replaced
abbrev pub token_events : (ℕ → List Token → List Event) → Table → List ℕ → Place → Token → List Event
token_events inner table hidden place t = kind_events inner table hidden place t t.kind

-- what tokens give, macros within macros being replaced so many levels deep
unfoldable pub events : ℕ → Table → List ℕ → Place → List Token → List Event
events zero table hidden place ts = []
events (suc k) table hidden place ts = flat_map (token_events (λ n body. events k table (n ∷ hidden) place body) table hidden place) ts

abbrev pub take_event : Place → Event → Out → Step Out
take_event place Use o = counted o place
take_event place (Put t) o = put_token o t

abbrev pub take_events : Place → List Event → Out → Step Out
take_events place [] o = goes o
take_events place (e ∷ es) o = after (take_event place e o).1 (take_event place e o).0 (λ p. take_events place es p)

-- No expansion that keeps the limit on macro uses is deeper than that limit, so this is an expansion to its full depth.
unfoldable pub expanded : Table → Place → ℕ → List Token → Out → Step Out
expanded table place n body o = take_events place (Use ∷ events 262144 table (n ∷ []) place body) o
