-- What is said of every text that is a word or a mark.
use Rattle.std.specs.Prelude.{◌≡◌, ℕ, ◌+◌, List, [], ◌∷◌, map, Some, option_map, bytes_eq, codes, ◌==◌, ◌&&◌, ◌||◌, if◌then◌else◌}
use Rattle.scc_tokens_lexer.specs.Words.{word_index, mark_index, word_text, mark_text}
use Rattle.scc_tokens_lexer.specs.declared.token.Token.{Token}
use Rattle.scc_tokens_lexer.specs.declared.token.TokenKind.TheVariants as kind
use Rattle.scc_grammar_terminals.specs.View.{word_of, mark_of}
use Rattle.scc_thin.specs.declared.thin.numbers.TheConstants.{VOID, SC_MODULE, SC_CTOR, SC_METHOD, SC_IN, SC_OUT, SC_UINT, SENSITIVE, BRACE_OPEN, BRACE_CLOSE, PAREN_OPEN, PAREN_CLOSE, LESS, GREATER, SEMICOLON, COMMA, DOT, AND, OR, XOR, SHIFT_LEFT, SHIFT_RIGHT}
use Rattle.scc_tokens_directives.specs.declared.directive.Words.{Words}
use Rattle.scc_tokens_directives.specs.declared.directive.Directive.TheVariants as directive
use Rattle.scc_tokens_directives.specs.Directive.{directive_of}
use Rattle.scc_tokens_directives.specs.declared.included.Operand.TheVariants.{Own, Other}
use Rattle.scc_tokens_directives.specs.Out.{is_scope_word, is_scope_mark}
use Rattle.scc_tokens_directives.specs.Define.{adjoins}
use Rattle.scc_tokens_directives.specs.Included.{is_ident, operand_of}
use Rattle.scc_grammar_spelling.specs.declared.thin.TheConstants.{THIN_WORDS, THIN_MARKS}
use Rattle.scc_grammar_spelling.specs.Spelling.{words, marks, keywords, puncts, named_by}

-- The grammar takes a text that is a word, or a mark, for the terminal that stands beside it in the table of spellings, and no other text.
abbrev pub WordsAreSpelled : Type 0
WordsAreSpelled = (text : List ℕ) → option_map word_of (word_index text) ≡ named_by words text

abbrev pub MarksAreSpelled : Type 0
MarksAreSpelled = (text : List ℕ) → option_map mark_of (mark_index text) ≡ named_by marks text

-- The number of a text that is a word, or a mark, is that of the name that stands beside it.
abbrev pub KeywordsAreSpelled : Type 0
KeywordsAreSpelled = (text : List ℕ) → word_index text ≡ named_by keywords text

abbrev pub PunctsAreSpelled : Type 0
PunctsAreSpelled = (text : List ℕ) → mark_index text ≡ named_by puncts text

-- a number has one spelling
abbrev pub WordsHaveOneSpelling : Type 0
WordsHaveOneSpelling = (text : List ℕ) (i : ℕ) → word_index text ≡ Some i → word_text i ≡ Some text

abbrev pub MarksHaveOneSpelling : Type 0
MarksHaveOneSpelling = (text : List ℕ) (i : ℕ) → mark_index text ≡ Some i → mark_text i ≡ Some text

-- the numbers by which thin texts are read are those of these texts
abbrev pub ThinWordsAreSpelled : Type 0
ThinWordsAreSpelled = map (λ w. word_index w.now) THIN_WORDS ≡ map Some (VOID ∷ SC_MODULE ∷ SC_CTOR ∷ SC_METHOD ∷ SC_IN ∷ SC_OUT ∷ SC_UINT ∷ SENSITIVE ∷ [])

abbrev pub ThinMarksAreSpelled : Type 0
ThinMarksAreSpelled = map (λ w. mark_index w.now) THIN_MARKS
    ≡ map Some (BRACE_OPEN ∷ BRACE_CLOSE ∷ PAREN_OPEN ∷ PAREN_CLOSE ∷ LESS ∷ GREATER ∷ SEMICOLON ∷ COMMA ∷ DOT ∷ AND ∷ OR ∷ XOR ∷ SHIFT_LEFT ∷ SHIFT_RIGHT ∷ [])

-- A word begins a directive exactly where it is `else`; `sc_core` and `sc_dt` alone are dropped before a `::`; a `(` alone makes a macro's
-- parameters of what adjoins its name.
abbrev pub ElseIsSpelled : Type 0
ElseIsSpelled = (w : Words) (text : List ℕ) (i : ℕ) → word_index text ≡ Some i
    → directive_of w (kind.Word i) ≡ (if bytes_eq text (codes "else") then directive.Else else directive.Unknown)

-- a token as the word, or as the mark, of this number
abbrev pub as_word : Token → ℕ → Token
as_word t i = record t { kind = kind.Word i }

abbrev pub as_mark : Token → ℕ → Token
as_mark t i = record t { kind = kind.Mark i }

abbrev pub ScopesAreSpelled : Type 0
ScopesAreSpelled = (t : Token) (text : List ℕ) (i : ℕ) → word_index text ≡ Some i → is_scope_word (as_word t i) ≡ (bytes_eq text (codes "sc_core") || bytes_eq text (codes "sc_dt"))

abbrev pub ScopeMarkIsSpelled : Type 0
ScopeMarkIsSpelled = (t : Token) (text : List ℕ) (i : ℕ) → mark_index text ≡ Some i → is_scope_mark (as_mark t i) ≡ bytes_eq text (codes "::")

abbrev pub ParametersAreSpelled : Type 0
ParametersAreSpelled = (name t : Token) (ts : List Token) (text : List ℕ) (i : ℕ) → mark_index text ≡ Some i
    → adjoins name (as_mark t i ∷ ts) ≡ (bytes_eq text (codes "(") && t.place.at == name.place.at + name.len)

-- `#include <systemc>` and `#include <systemc.h>`: the marks around the names are `<`, `>` and `.`, and no others.
abbrev pub HeaderIsSpelled : Type 0
HeaderIsSpelled = (w : Words) (a b c : Token) (opens closes : List ℕ) (i j : ℕ) → mark_index opens ≡ Some i → mark_index closes ≡ Some j
    → operand_of w (as_mark a i ∷ b ∷ as_mark c j ∷ []) ≡ (if bytes_eq opens (codes "<") && is_ident b w.systemc.0 && bytes_eq closes (codes ">") then Own else Other)

abbrev pub OldHeaderIsSpelled : Type 0
OldHeaderIsSpelled = (w : Words) (a b c d e : Token) (opens between closes : List ℕ) (i j k : ℕ) → mark_index opens ≡ Some i → mark_index between ≡ Some j → mark_index closes ≡ Some k
    → operand_of w (as_mark a i ∷ b ∷ as_mark c j ∷ d ∷ as_mark e k ∷ [])
    ≡ (if bytes_eq opens (codes "<") && is_ident b w.systemc.0 && bytes_eq between (codes ".") && is_ident d w.h.0 && bytes_eq closes (codes ">") then Own else Other)
