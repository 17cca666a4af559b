-- What directives other than inclusions do (C++, "Conditional inclusion", "Macro replacement").
use Rattle.std.specs.Prelude.{ℕ, List, [], ◌∷◌, length, Bool, true, false, not, ◌&&◌, ◌==◌, if◌then◌else◌, is_some, Option, Some, None}
use Rattle.scc_base.specs.declared.code.Code.{Code}
use Rattle.scc_base.specs.declared.code.Code.TheVariants as code
use Rattle.scc_tokens_directives.specs.declared.sides.Side.{Side}
use Rattle.scc_tokens_lexer.specs.declared.token.Token.{Token}
use Rattle.scc_tokens_lexer.specs.declared.token.TokenKind.{TokenKind}
use Rattle.scc_tokens_lexer.specs.declared.token.TokenKind.TheVariants as kind
use Rattle.scc_tokens_directives.specs.Directive.{refusal_of, is_named}
use Rattle.scc_tokens_directives.specs.Macros.{Table, macro_of}
use Rattle.scc_tokens_directives.specs.Sides.{is_live, opened, turned, closed}
use Rattle.scc_tokens_directives.specs.Steps.{Step, goes, stops}

abbrev pub is_macro : Table → TokenKind → Bool
is_macro table (kind.Ident n) = is_some (macro_of table n.0)
is_macro table _ = false

abbrev pub is_at : Option ℕ → ℕ → Bool
is_at None at = false
is_at (Some p) at = p == at

abbrev pub bool_eq : Bool → Bool → Bool
bool_eq true b = b
bool_eq false b = not b

-- a refusal of the operand comes after one of the line and of the conditional
abbrev pub opened_where : Option Code → Token → Bool → List Side → Step (List Side)
opened_where (Some c) t taken ss = stops ss c t.place
opened_where None t taken ss = goes (opened taken ss)

abbrev pub opened_for : Table → Option ℕ → Bool → Token → Token → List Side → Step (List Side)
opened_for table unclosed defined hash t ss =
    if not (is_named t.kind) then stops ss code.Directive hash.place
    else if is_at unclosed hash.place.at then stops ss code.OpenConditional hash.place
    else opened_where (refusal_of t.kind) t (bool_eq (is_macro table t.kind) defined) ss

-- `#ifdef` and `#ifndef` with what stands behind them
abbrev pub side_opened : Table → Option ℕ → Bool → Token → List Token → List Side → Step (List Side)
side_opened table unclosed defined hash [] ss = stops ss code.Directive hash.place
side_opened table unclosed defined hash (t ∷ []) ss = opened_for table unclosed defined hash t ss
side_opened table unclosed defined hash (t ∷ u ∷ us) ss = stops ss code.Directive hash.place

abbrev pub goes_where : Bool → Token → List Side → Step (List Side)
goes_where ok hash ss = if ok then goes ss else stops ss code.Directive hash.place

-- `#else`
abbrev pub side_turned : Token → List Token → List Side → Step (List Side)
side_turned hash rest ss =
    if is_live ss && not (length rest == 0) then stops ss code.Directive hash.place
    else goes_where (turned ss).0 hash (turned ss).1

-- `#endif`
abbrev pub side_closed : Token → List Token → List Side → Step (List Side)
side_closed hash rest ss =
    if is_live ss && not (length rest == 0) then stops ss code.Directive hash.place
    else goes_where (closed ss).0 hash (closed ss).1
