-- Active tokens outside directives.
use Rattle.std.specs.Prelude.{if◌then◌else◌, is_some, Option, Some, None}
use Rattle.scc_base.specs.declared.code.Code.{Code}
use Rattle.scc_tokens_directives.specs.declared.out.Out.{Out}
use Rattle.scc_tokens_lexer.specs.declared.token.Token.{Token}
use Rattle.scc_tokens_lexer.specs.declared.token.TokenKind.{TokenKind}
use Rattle.scc_tokens_lexer.specs.declared.token.TokenKind.TheVariants as kind
use Rattle.scc_tokens_directives.specs.Directive.{refusal_of}
use Rattle.scc_tokens_directives.specs.Expand.{body_of}
use Rattle.scc_tokens_directives.specs.Macros.{Table, macro_of, expanded}
use Rattle.scc_tokens_directives.specs.Out.{put_token}
use Rattle.scc_tokens_directives.specs.Steps.{Step, stops}

abbrev pub put_where : Option Code → Token → Out → Step Out
put_where (Some c) t o = stops o c t.place
put_where None t o = put_token o t

abbrev pub kind_taken : TokenKind → Table → Token → Out → Step Out
kind_taken (kind.Ident n) table t o = if is_some (macro_of table n.0) then expanded table t.place n.0 (body_of table n.0) o else put_token o t
kind_taken k table t o = put_where (refusal_of k) t o

-- an active token: a macro is expanded, and another token stands for itself
abbrev pub token_taken : Table → Token → Out → Step Out
token_taken table t o = kind_taken t.kind table t o
