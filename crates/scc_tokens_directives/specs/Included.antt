-- What an `#include` names (C++, "Source file inclusion").
use Rattle.std.specs.Prelude.{ℕ, ◌+◌, ◌-◌, List, [], ◌∷◌, ◌++◌, take, drop, length, Bool, true, false, not, ◌&&◌, ◌||◌, ◌==◌, nat_lt, if◌then◌else◌, Option, Some, None, codes, bytes_eq}
use Rattle.std.specs.List.{suffix_len}
use Rattle.scc_tokens_directives.specs.declared.directive.Words.{Words}
use Rattle.scc_tokens_directives.specs.declared.included.Operand.{Operand}
use Rattle.scc_tokens_directives.specs.declared.included.Operand.TheVariants.{Own, Quoted, Other}
use Rattle.scc_tokens_lexer.specs.declared.token.Token.{Token}
use Rattle.scc_tokens_lexer.specs.declared.token.TokenKind.{TokenKind}
use Rattle.scc_tokens_lexer.specs.declared.token.TokenKind.TheVariants as kind
use Rattle.scc_tokens_directives.specs.declared.numbers.TheConstants.{DOT, GREATER, LESS}
use Rattle.scc_tokens_directives.specs.Out.{is_mark_kind}

abbrev pub is_mark : Token → ℕ → Bool
is_mark t i = is_mark_kind t.kind i

abbrev pub is_ident_kind : TokenKind → ℕ → Bool
is_ident_kind (kind.Ident m) n = m.0 == n
is_ident_kind _ n = false

abbrev pub is_ident : Token → ℕ → Bool
is_ident t n = is_ident_kind t.kind n

abbrev pub is_text_kind : TokenKind → Bool
is_text_kind kind.Text = true
is_text_kind _ = false

abbrev pub is_text : Token → Bool
is_text t = is_text_kind t.kind

-- `"name"`, `<systemc>`, `<systemc.h>`, or something else
abbrev pub operand_of : Words → List Token → Operand
operand_of w [] = Other
operand_of w (a ∷ []) = if is_text a then Quoted a else Other
operand_of w (a ∷ b ∷ []) = Other
operand_of w (a ∷ b ∷ c ∷ []) = if is_mark a LESS && is_ident b w.systemc.0 && is_mark c GREATER then Own else Other
operand_of w (a ∷ b ∷ c ∷ d ∷ []) = Other
operand_of w (a ∷ b ∷ c ∷ d ∷ e ∷ []) = if is_mark a LESS && is_ident b w.systemc.0 && is_mark c DOT && is_ident d w.h.0 && is_mark e GREATER then Own else Other
operand_of w (a ∷ b ∷ c ∷ d ∷ e ∷ f ∷ fs) = Other

-- the bytes between the quotes of a text of a file
abbrev pub quoted : List ℕ → Token → Option (List ℕ)
quoted bytes t = if nat_lt t.len 2 || nat_lt (length bytes) (t.place.at + t.len) then None else Some (take (t.len - 2) (drop (t.place.at + 1) bytes))

-- all of a name up to and with its last `/`
abbrev pub folder_of : List ℕ → List ℕ
folder_of name = take (length name - suffix_len (λ b. not (b == 47)) name) name

-- the headers of SystemC's own read as nothing
abbrev pub is_own : List ℕ → Bool
is_own text = bytes_eq text (codes "systemc.h") || bytes_eq text (codes "systemc")

-- a name is asked for from the folder of the file that includes it
abbrev pub included_name : List ℕ → List ℕ → List ℕ
included_name own text = folder_of own ++ text
