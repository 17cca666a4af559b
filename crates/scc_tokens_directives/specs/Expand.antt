-- Expansions within expansions, the innermost first.
use Rattle.std.specs.Prelude.{ℕ, ◌+◌, ◌-◌, List, [], ◌∷◌, ◌++◌, map, drop, length, Bool, ◌==◌, if◌then◌else◌, is_some, Option, Some, None, slice_get, unwrap_or}
use Rattle.std.specs.List.{list_any}
use Rattle.scc_base.specs.declared.refusal.Place.{Place}
use Rattle.scc_tokens_directives.specs.declared.frames.Frame.{Frame}
use Rattle.scc_tokens_lexer.specs.declared.token.Token.{Token}
use Rattle.scc_tokens_lexer.specs.declared.token.TokenKind.{TokenKind}
use Rattle.scc_tokens_lexer.specs.declared.token.TokenKind.TheVariants as kind
use Rattle.scc_tokens_directives.specs.declared.out.Out.{Out}
use Rattle.scc_tokens_directives.specs.Macros.{Table, macro_of, Event, events, placed}
use Rattle.scc_tokens_directives.specs.Out.{put_token, counted}
use Rattle.scc_tokens_directives.specs.Steps.{Step, goes}

abbrev pub popped : List Frame → Option Frame × List Frame
popped [] = (None, [])
popped (f ∷ fs) = (Some f, fs)

abbrev pub names_of : List Frame → List ℕ
names_of fs = map (λ f. f.name) fs

abbrev pub is_hidden : ℕ → List Frame → Bool
is_hidden n fs = list_any (λ f. n == f.name) fs

-- the tokens of a macro, none where there is none of this name
abbrev pub body_of : Table → ℕ → List Token
body_of table n = unwrap_or (macro_of table n) []

-- the macro that a token of this kind uses within these expansions
abbrev pub used_kind : Table → List Frame → TokenKind → Option ℕ
used_kind table fs (kind.Ident n) = if is_hidden n.0 fs then None else if is_some (macro_of table n.0) then Some n.0 else None
used_kind table fs _ = None

-- what is left of the expansions
unfoldable pub remaining : Table → Place → List Frame → List Event
remaining table place [] = []
remaining table place (f ∷ fs) = events (262144 - length fs) table (names_of (f ∷ fs)) place (drop f.at (body_of table f.name)) ++ remaining table place fs

abbrev pub moved : Frame → Frame
moved f = record f { at = f.at + 1 }

-- what a token of an expansion does: it uses a macro, or is given
abbrev pub frames_with : Frame → List Frame → Option ℕ → List Frame
frames_with f fs None = moved f ∷ fs
frames_with f fs (Some n) = record { name = n; at = 0 } ∷ moved f ∷ fs

abbrev pub frames_at : Table → Frame → List Frame → Option Token → List Frame
frames_at table f fs None = fs
frames_at table f fs (Some t) = frames_with f fs (used_kind table (moved f ∷ fs) t.kind)

-- the expansions behind the next token of the innermost, which ends where it has none
abbrev pub frames_behind : Table → Frame → List Frame → List Frame
frames_behind table f fs = frames_at table f fs (slice_get (body_of table f.name) f.at)

abbrev pub out_with : Place → Token → Out → Option ℕ → Step Out
out_with place t o None = put_token o (placed place t)
out_with place t o (Some n) = counted o place

abbrev pub out_at : Table → Place → Frame → List Frame → Out → Option Token → Step Out
out_at table place f fs o None = goes o
out_at table place f fs o (Some t) = out_with place t o (used_kind table (moved f ∷ fs) t.kind)

-- the joined tokens behind it
abbrev pub out_behind : Table → Place → Frame → List Frame → Out → Step Out
out_behind table place f fs o = out_at table place f fs o (slice_get (body_of table f.name) f.at)

abbrev pub uses_with : Option ℕ → ℕ
uses_with None = 0
uses_with (Some n) = 1

abbrev pub uses_at : Table → Frame → List Frame → Option Token → ℕ
uses_at table f fs None = 0
uses_at table f fs (Some t) = uses_with (used_kind table (moved f ∷ fs) t.kind)

-- how many macros it uses
abbrev pub uses_behind : Table → Frame → List Frame → ℕ
uses_behind table f fs = uses_at table f fs (slice_get (body_of table f.name) f.at)
