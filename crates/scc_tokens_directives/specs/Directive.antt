-- The words that begin directives (C++, "Preprocessing directives").
use Rattle.std.specs.Prelude.{◌≡◌, ℕ, List, [], ◌∷◌, Bool, true, false, not, ◌==◌, if◌then◌else◌, Option, Some, None, codes, slice_get, bytes_eq}
use Rattle.std.specs.List.{prefix_len, position_or_len}
use Rattle.scc_base.specs.Names.{with_name}
use Rattle.scc_base.specs.declared.code.Code.{Code}
use Rattle.scc_base.specs.declared.code.Code.TheVariants as code
use Rattle.scc_base.specs.declared.names.Name.{Name}
use Rattle.scc_base.specs.declared.refusal.Place.{Place}
use Rattle.scc_tokens_directives.specs.declared.directive.Words.{Words}
use Rattle.scc_tokens_directives.specs.declared.numbers.TheConstants.{ELSE}
use Rattle.scc_tokens_directives.specs.declared.directive.Directive.{Directive}
use Rattle.scc_tokens_directives.specs.declared.directive.Directive.TheVariants as directive
use Rattle.scc_tokens_lexer.specs.declared.token.Token.{Token}
use Rattle.scc_tokens_lexer.specs.declared.token.TokenKind.{TokenKind}
use Rattle.scc_tokens_lexer.specs.declared.token.TokenKind.TheVariants as kind

-- the names of the words
pub record IsWords (names : List (List ℕ)) (w : Words) : Type 0 where
  pub include : slice_get names w.include.0 ≡ Some (codes "include")
  pub define : slice_get names w.define.0 ≡ Some (codes "define")
  pub undef : slice_get names w.undef.0 ≡ Some (codes "undef")
  pub ifdef : slice_get names w.ifdef.0 ≡ Some (codes "ifdef")
  pub ifndef : slice_get names w.ifndef.0 ≡ Some (codes "ifndef")
  pub endif : slice_get names w.endif.0 ≡ Some (codes "endif")
  pub pragma : slice_get names w.pragma.0 ≡ Some (codes "pragma")
  pub once : slice_get names w.once.0 ≡ Some (codes "once")
  pub systemc : slice_get names w.systemc.0 ≡ Some (codes "systemc")
  pub h : slice_get names w.h.0 ≡ Some (codes "h")
  pub synthesis : slice_get names w.synthesis.0 ≡ Some (codes "SCC_SYNTHESIS")

-- the texts of the words
abbrev pub word_texts : List (List ℕ)
word_texts =
    codes "include" ∷ codes "define" ∷ codes "undef" ∷ codes "ifdef" ∷ codes "ifndef" ∷ codes "endif" ∷ codes "pragma" ∷ codes "once" ∷ codes "systemc"
    ∷ codes "h" ∷ codes "SCC_SYNTHESIS" ∷ []

abbrev pub with_names : List (List ℕ) → List (List ℕ) → List (List ℕ)
with_names names [] = names
with_names names (t ∷ ts) = with_names (with_name names t) ts

abbrev pub name_in : List (List ℕ) → List ℕ → Name
name_in names text = record { 0 = position_or_len (bytes_eq text) names }

-- the words by their places in a table that has them
abbrev pub words_in : List (List ℕ) → Words
words_in names = record {
  include = name_in names (codes "include");
  define = name_in names (codes "define");
  undef = name_in names (codes "undef");
  ifdef = name_in names (codes "ifdef");
  ifndef = name_in names (codes "ifndef");
  endif = name_in names (codes "endif");
  pragma = name_in names (codes "pragma");
  once = name_in names (codes "once");
  systemc = name_in names (codes "systemc");
  h = name_in names (codes "h");
  synthesis = name_in names (codes "SCC_SYNTHESIS");
}

-- three names have these texts
pub record HasThree (names : List (List ℕ)) (x : Name × Name × Name) (a b c : List ℕ) : Type 0 where
  pub first : slice_get names x.0.0 ≡ Some a
  pub second : slice_get names x.1.0 ≡ Some b
  pub third : slice_get names x.2.0 ≡ Some c

abbrev pub named_directive : Words → ℕ → Directive
named_directive w n =
    if n == w.include.0 then directive.Include
    else if n == w.define.0 then directive.Define
    else if n == w.undef.0 then directive.Undef
    else if n == w.ifdef.0 then directive.Ifdef
    else if n == w.ifndef.0 then directive.Ifndef
    else if n == w.endif.0 then directive.Endif
    else if n == w.pragma.0 then directive.Pragma
    else directive.Unknown

-- what a directive does, by its first token; `else` is a word that the subset keeps for itself
abbrev pub directive_of : Words → TokenKind → Directive
directive_of w (kind.Ident n) = named_directive w n.0
directive_of w (kind.Word i) = if i == ELSE then directive.Else else directive.Unknown
directive_of w _ = directive.Unknown

-- the refusal of a token wherever it is active: a number of no form or too large, a character literal, a word that is left out
abbrev pub refusal_of : TokenKind → Option Code
refusal_of kind.BadNumber = Some code.BadLiteral
refusal_of kind.Character = Some code.BadLiteral
refusal_of (kind.Outside n) = Some code.OutsideWord
refusal_of _ = None

abbrev pub refusal_at : Option Code → Place → Option (Code × Place) → Option (Code × Place)
refusal_at None place rest = rest
refusal_at (Some c) place rest = Some (c, place)

abbrev pub first_refusal : List Token → Option (Code × Place)
first_refusal [] = None
first_refusal (t ∷ ts) = refusal_at (refusal_of t.kind) t.place (first_refusal ts)

-- a token that is spelled as an identifier is
abbrev pub is_named : TokenKind → Bool
is_named (kind.Ident n) = true
is_named (kind.Word i) = true
is_named (kind.Outside n) = true
is_named _ = false

abbrev pub is_line_end : TokenKind → Bool
is_line_end kind.LineEnd = true
is_line_end _ = false

-- how many tokens stand before the end of the line
abbrev pub line_len : List Token → ℕ
line_len ts = prefix_len (λ t. not (is_line_end t.kind)) ts
