-- Definitions of macros, and `#pragma once` (C++, "Macro replacement").
use Rattle.std.specs.Prelude.{ℕ, ◌+◌, List, [], ◌∷◌, ◌++◌, Bool, false, ◌&&◌, ◌==◌, if◌then◌else◌, Option, Some, None, nat_eq}
use Rattle.indexmap.specs.IndexMap.{insert_entry}
use Rattle.scc_base.specs.declared.code.Code.{Code}
use Rattle.scc_base.specs.declared.code.Code.TheVariants as code
use Rattle.scc_base.specs.declared.refusal.Place.{Place}
use Rattle.scc_tokens_directives.specs.declared.directive.Words.{Words}
use Rattle.scc_tokens_lexer.specs.declared.token.Token.{Token}
use Rattle.scc_tokens_lexer.specs.declared.token.TokenKind.{TokenKind}
use Rattle.scc_tokens_lexer.specs.declared.token.TokenKind.TheVariants as kind
use Rattle.scc_tokens_directives.specs.Directive.{first_refusal}
use Rattle.scc_tokens_directives.specs.Macros.{Table}
use Rattle.scc_tokens_directives.specs.declared.numbers.TheConstants.{PAREN_OPEN}
use Rattle.scc_tokens_directives.specs.Out.{is_mark_kind}
use Rattle.scc_tokens_directives.specs.Steps.{Step, goes, stops}

-- whether a `(` stands right behind a name
abbrev pub adjoins : Token → List Token → Bool
adjoins name [] = false
adjoins name (t ∷ ts) = is_mark_kind t.kind PAREN_OPEN && t.place.at == name.place.at + name.len

-- a refusal of a token of the line comes after one of the line
abbrev pub set_where : Option (Code × Place) → ℕ → Option (List Token) → Table → Step Table
set_where (Some x) n body table = stops table x.0 x.1
set_where None n body table = goes (insert_entry nat_eq table n body)

abbrev pub defined_kind : TokenKind → Token → Token → List Token → Table → Step Table
defined_kind (kind.Ident n) hash name body table = if adjoins name body then stops table code.Directive hash.place else set_where (first_refusal (name ∷ body)) n.0 (Some body) table
defined_kind (kind.Outside n) hash name body table = if adjoins name body then stops table code.Directive hash.place else set_where (first_refusal (name ∷ body)) n.0 (Some body) table
defined_kind _ hash name body table = stops table code.Directive hash.place

-- `#define` with what stands behind it
abbrev pub defined : Token → List Token → Table → Step Table
defined hash [] table = stops table code.Directive hash.place
defined hash (name ∷ body) table = defined_kind name.kind hash name body table

abbrev pub undefined_kind : TokenKind → Token → Token → Table → Step Table
undefined_kind (kind.Ident n) hash name table = set_where (first_refusal (name ∷ [])) n.0 None table
undefined_kind (kind.Word i) hash name table = goes table
undefined_kind (kind.Outside n) hash name table = stops table code.OutsideWord name.place
undefined_kind _ hash name table = stops table code.Directive hash.place

-- `#undef` with what stands behind it
abbrev pub undefined : Token → List Token → Table → Step Table
undefined hash [] table = stops table code.Directive hash.place
undefined hash (name ∷ []) table = undefined_kind name.kind hash name table
undefined hash (name ∷ t ∷ ts) table = stops table code.Directive hash.place

abbrev pub once_kind : Words → ℕ → Token → TokenKind → List ℕ → Step (List ℕ)
once_kind w file hash (kind.Ident n) once = if n.0 == w.once.0 then goes (once ++ file ∷ []) else stops once code.Directive hash.place
once_kind w file hash _ once = stops once code.Directive hash.place

-- `#pragma` with what stands behind it
abbrev pub with_once : Words → ℕ → Token → List Token → List ℕ → Step (List ℕ)
with_once w file hash [] once = stops once code.Directive hash.place
with_once w file hash (t ∷ []) once = once_kind w file hash t.kind once
with_once w file hash (t ∷ u ∷ us) once = stops once code.Directive hash.place
