-- The laws of words and marks, computed over the whole tables.
use Rattle.std.proofs.Common.{◌≡◌, ℕ, ◌+◌, List, ◌∷◌, map, Some, bytes_eq, codes, ◌==◌, ◌&&◌, ◌||◌, if◌then◌else◌, refl, ap, ◌∙◌}
use Rattle.std.specs.List.{zip}
use Rattle.scc_tokens_lexer.specs.declared.words.TheConstants as lexer
use Rattle.scc_tokens_lexer.specs.declared.token.Token.{Token}
use Rattle.scc_tokens_lexer.specs.declared.token.TokenKind.TheVariants as kind
use Rattle.scc_tokens_lexer.specs.Words.{word_index, mark_index, word_text, mark_text}
use Rattle.scc_grammar_terminals.specs.View.{word_of, mark_of}
use Rattle.scc_tokens_directives.specs.declared.directive.Directive.TheVariants as directive
use Rattle.scc_tokens_directives.specs.declared.numbers.TheConstants.{DOT, GREATER, LESS}
use Rattle.scc_tokens_directives.specs.Directive.{directive_of}
use Rattle.scc_tokens_directives.specs.declared.included.Operand.TheVariants.{Own, Other}
use Rattle.scc_tokens_directives.specs.Out.{is_scope_word, is_scope_mark}
use Rattle.scc_tokens_directives.specs.Define.{adjoins}
use Rattle.scc_tokens_directives.specs.Included.{is_ident, is_mark}
use Rattle.scc_grammar_spelling.specs.Spelling.{words, marks, keywords, puncts, named_by}
use Rattle.scc_grammar_spelling.specs.Laws.{WordsAreSpelled, MarksAreSpelled, KeywordsAreSpelled, PunctsAreSpelled, WordsHaveOneSpelling, MarksHaveOneSpelling, ElseIsSpelled, ScopesAreSpelled, ScopeMarkIsSpelled, ParametersAreSpelled, HeaderIsSpelled, OldHeaderIsSpelled, as_word, as_mark}
use Rattle.scc_grammar_spelling.proofs.Finding.{beside, by_number, from_zero, numbered, same_number}

word_rows : zip (map (λ w. w.now) lexer.WORDS) (numbered word_of 0 lexer.WORDS) ≡ words
word_rows = refl

mark_rows : zip (map (λ w. w.now) lexer.MARKS) (numbered mark_of 0 lexer.MARKS) ≡ marks
mark_rows = refl

pub words_are_spelled : WordsAreSpelled
words_are_spelled text = from_zero word_of (word_index text) ∙ beside (λ w. w.now) word_of 0 lexer.WORDS text ∙ ap (λ rows. named_by rows text) word_rows

pub marks_are_spelled : MarksAreSpelled
marks_are_spelled text = from_zero mark_of (mark_index text) ∙ beside (λ w. w.now) mark_of 0 lexer.MARKS text ∙ ap (λ rows. named_by rows text) mark_rows

keyword_rows : zip (map (λ w. w.now) lexer.WORDS) (numbered (λ i. i) 0 lexer.WORDS) ≡ keywords
keyword_rows = refl

punct_rows : zip (map (λ w. w.now) lexer.MARKS) (numbered (λ i. i) 0 lexer.MARKS) ≡ puncts
punct_rows = refl

pub keywords_are_spelled : KeywordsAreSpelled
keywords_are_spelled text = same_number (word_index text) ∙ beside (λ w. w.now) (λ i. i) 0 lexer.WORDS text ∙ ap (λ rows. named_by rows text) keyword_rows

pub puncts_are_spelled : PunctsAreSpelled
puncts_are_spelled text = same_number (mark_index text) ∙ beside (λ w. w.now) (λ i. i) 0 lexer.MARKS text ∙ ap (λ rows. named_by rows text) punct_rows

pub words_have_one : WordsHaveOneSpelling
words_have_one text i e = by_number (λ w. w.now) word_text Some lexer.WORDS text i refl e

pub marks_have_one : MarksHaveOneSpelling
marks_have_one text i e = by_number (λ w. w.now) mark_text Some lexer.MARKS text i refl e

pub else_is_spelled : ElseIsSpelled
else_is_spelled w text i e = by_number (λ w. w.now) (λ i. directive_of w (kind.Word i)) (λ t. if bytes_eq t (codes "else") then directive.Else else directive.Unknown) lexer.WORDS text i refl e

pub scopes_are_spelled : ScopesAreSpelled
scopes_are_spelled t text i e = by_number (λ w. w.now) (λ i. is_scope_word (as_word t i)) (λ s. bytes_eq s (codes "sc_core") || bytes_eq s (codes "sc_dt")) lexer.WORDS text i refl e

pub scope_mark_is_spelled : ScopeMarkIsSpelled
scope_mark_is_spelled t text i e = by_number (λ w. w.now) (λ i. is_scope_mark (as_mark t i)) (λ s. bytes_eq s (codes "::")) lexer.MARKS text i refl e

pub parameters_are_spelled : ParametersAreSpelled
parameters_are_spelled name t ts text i e =
    by_number (λ w. w.now) (λ i. adjoins name (as_mark t i ∷ ts)) (λ s. bytes_eq s (codes "(") && t.place.at == name.place.at + name.len) lexer.MARKS text i refl e

-- the marks of headers
less : (t : Token) (text : List ℕ) (i : ℕ) → mark_index text ≡ Some i → is_mark (as_mark t i) LESS ≡ bytes_eq text (codes "<")
less t text i e = by_number (λ w. w.now) (λ i. is_mark (as_mark t i) LESS) (λ s. bytes_eq s (codes "<")) lexer.MARKS text i refl e

greater : (t : Token) (text : List ℕ) (i : ℕ) → mark_index text ≡ Some i → is_mark (as_mark t i) GREATER ≡ bytes_eq text (codes ">")
greater t text i e = by_number (λ w. w.now) (λ i. is_mark (as_mark t i) GREATER) (λ s. bytes_eq s (codes ">")) lexer.MARKS text i refl e

dot : (t : Token) (text : List ℕ) (i : ℕ) → mark_index text ≡ Some i → is_mark (as_mark t i) DOT ≡ bytes_eq text (codes ".")
dot t text i e = by_number (λ w. w.now) (λ i. is_mark (as_mark t i) DOT) (λ s. bytes_eq s (codes ".")) lexer.MARKS text i refl e

pub header_is_spelled : HeaderIsSpelled
header_is_spelled w a b c opens closes i j e f =
    ap (λ x. if x && is_ident b w.systemc.0 && is_mark (as_mark c j) GREATER then Own else Other) (less a opens i e)
    ∙ ap (λ y. if bytes_eq opens (codes "<") && is_ident b w.systemc.0 && y then Own else Other) (greater c closes j f)

pub old_header_is_spelled : OldHeaderIsSpelled
old_header_is_spelled w a b c d e opens between closes i j k p q r =
    ap (λ x. if x && is_ident b w.systemc.0 && is_mark (as_mark c j) DOT && is_ident d w.h.0 && is_mark (as_mark e k) GREATER then Own else Other) (less a opens i p)
    ∙ (ap (λ y. if bytes_eq opens (codes "<") && is_ident b w.systemc.0 && y && is_ident d w.h.0 && is_mark (as_mark e k) GREATER then Own else Other) (dot c between j q)
    ∙ ap (λ z. if bytes_eq opens (codes "<") && is_ident b w.systemc.0 && bytes_eq between (codes ".") && is_ident d w.h.0 && z then Own else Other) (greater e closes k r))
