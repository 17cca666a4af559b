-- Each text that is left out has a derivation: up to an `#else` or `#endif` without its opening, to its end, or up to a second `#else`.
use Rattle.std.proofs.Common.{◌≡◌, ◌≤◌, ℕ, zero, suc, ◌+◌, List, [], ◌∷◌, length, Bool, true, false, refl, ap, ◌∙◌, arith}
use Rattle.std.proofs.lemmas.List.{length-drop}
use Rattle.scc_tokens_directives.specs.Directive.{line_len}
use Rattle.scc_tokens_laws.specs.Faulted.{LeftBegins, LeftStops, left_twice, left_in_first, left_in_second, Turning, by_else, by_endif, Turns}
use Rattle.scc_tokens_directives.specs.File.{is_hash, ends_open, ends_with}
use Rattle.scc_tokens_laws.specs.Joined.{behind_line, directive_at, Opening, by_ifdef, by_ifndef, Plain, plain_include, plain_define, plain_undef, plain_pragma, plain_unknown, LeftOut, left_none, left_token, left_line, left_conditional, left_with_else}
use Rattle.scc_tokens_directives.specs.declared.directive.Words.{Words}
use Rattle.scc_tokens_directives.specs.declared.directive.Directive.{Directive}
use Rattle.scc_tokens_directives.specs.declared.directive.Directive.TheVariants as directive
use Rattle.scc_tokens_lexer.specs.declared.token.Token.{Token}
use Rattle.scc_tokens_laws.proofs.Counting.{same_token, same_line, same_else, begins_orderly, left_same, same_closed}
use Rattle.scc_tokens_laws.proofs.Tidy.{Orderly, passes_hash}

-- what kind of line a directive begins
pub data Sort (d : Directive) : Type 0 where
  plain_sort : Plain d → Sort d
  opening_sort : (b : Bool) → Opening d b → Sort d
  turning_sort : Turning d → Sort d

pub sort_of : (d : Directive) → Sort d
sort_of directive.Include = plain_sort plain_include
sort_of directive.Define = plain_sort plain_define
sort_of directive.Undef = plain_sort plain_undef
sort_of directive.Pragma = plain_sort plain_pragma
sort_of directive.Unknown = plain_sort plain_unknown
sort_of directive.Ifdef = opening_sort true by_ifdef
sort_of directive.Ifndef = opening_sort false by_ifndef
sort_of directive.Else = turning_sort by_else
sort_of directive.Endif = turning_sort by_endif

pub behind_shorter : (ts : List Token) → length (behind_line ts) ≤ length ts
behind_shorter ts = omega (arith, length-drop (line_len ts) ts)

pub left_shorter : (w : Words) {from to : List Token} → LeftOut w from to → length to ≤ length from
left_shorter w left_none = omega arith
left_shorter w (left_token h after) = let r = left_shorter w after in omega arith
left_shorter w (left_line {ts = ts} h line plain after) = let r = left_shorter w after in let s = behind_shorter ts in omega arith
left_shorter w (left_conditional {ts = ts} {es = es} h line opens inner he end_line after) =
    let r = left_shorter w after in let s = behind_shorter ts in let i = left_shorter w inner in let e = behind_shorter es in omega arith
left_shorter w (left_with_else {ts = ts} {es = es} {us = us} h line opens inner he else_line other hu end_line after) =
    let r = left_shorter w after in let s = behind_shorter ts in let i = left_shorter w inner in let e = behind_shorter es in let o = left_shorter w other in let u = behind_shorter us in omega arith

pub left_then : (w : Words) {a b c : List Token} → LeftOut w a b → LeftOut w b c → LeftOut w a c
left_then w left_none q = q
left_then w (left_token h after) q = left_token h (left_then w after q)
left_then w (left_line h line plain after) q = left_line h line plain (left_then w after q)
left_then w (left_conditional h line opens inner he end_line after) q = left_conditional h line opens inner he end_line (left_then w after q)
left_then w (left_with_else h line opens inner he else_line other hu end_line after) q = left_with_else h line opens inner he else_line other hu end_line (left_then w after q)

left_stops_then : (w : Words) {a b : List Token} {u : Token} → LeftOut w a b → LeftStops w b u → LeftStops w a u
left_stops_then w p (left_twice before begins inner turns other again) = left_twice (left_then w p before) begins inner turns other again
left_stops_then w p (left_in_first before begins stop) = left_in_first (left_then w p before) begins stop
left_stops_then w p (left_in_second before begins inner turns stop) = left_in_second (left_then w p before) begins inner turns stop

-- all of a text that is left out
pub data LeftAll (w : Words) (from : List Token) : Type 0 where
  left_turns : {e : Token} {es : List Token} → LeftOut w from (e ∷ es) → Turns w e es → LeftAll w from
  left_ends : ends_open w from ≡ 0 → LeftAll w from
  left_bad : {u : Token} → LeftStops w from u → LeftAll w from

left_behind : (w : Words) {a b : List Token} → LeftOut w a b → ends_open w a ≡ ends_open w b → LeftAll w b → LeftAll w a
left_behind w p e (left_turns q turns) = left_turns (left_then w p q) turns
left_behind w p e (left_ends z) = left_ends (e ∙ z)
left_behind w p e (left_bad s) = left_bad (left_stops_then w p s)

-- an opening before what closes nothing
pub opens_none : (w : Words) (n : ℕ) (t : Token) (ts : List Token) (d : Directive) (b : Bool) (rest : List Token) → is_hash t.kind ≡ true → directive_at w ts ≡ (d, rest) → Opening d b → Orderly false n (t ∷ ts)
    → ends_open w (behind_line ts) ≡ 0 → ends_open w (t ∷ ts) ≡ 0
opens_none w n t ts d b rest h line opens o z = let p = passes_hash w n t ts d rest h line o in p.ends ∙ ap (ends_with d) z ∙ none d b opens
  where
    none : (d : Directive) (b : Bool) → Opening d b → ends_with d 0 ≡ 0
    none d b by_ifdef = refl
    none d b by_ifndef = refl

abbrev LeftDerives : Words → ℕ → Type 0
LeftDerives w k = (ts : List Token) (n : ℕ) → length ts ≤ k → Orderly false n ts → LeftAll w ts

left_line_all : (w : Words) (k : ℕ) → LeftDerives w k → (t : Token) (ts : List Token) (n : ℕ) → length ts ≤ k → Orderly false n (t ∷ ts) → is_hash t.kind ≡ true → (d : Directive) (rest : List Token)
    → directive_at w ts ≡ (d, rest) → Sort d → LeftAll w (t ∷ ts)
left_line_all w k derive t ts n short o h d rest line (plain_sort plain) =
    let p = same_line w n t ts d rest h line plain o in
    let s = behind_shorter ts in
    left_behind w (left_line h line plain left_none) p.ends (derive (behind_line ts) p.low (omega arith) p.orderly)
left_line_all w k derive t ts n short o h d rest line (turning_sort turns) = left_turns left_none (record { hash = h; d = d; rest = rest; line = line; turns = turns })
left_line_all w k derive t ts n short o h d rest line (opening_sort b opens) =
    let s = behind_shorter ts in
    inside (derive (behind_line ts) (t.place.at + 1) (omega arith) (begins_orderly w n t ts d rest h line o))
  where
    begins : LeftBegins w t ts
    begins = record { hash = h; d = d; b = b; rest = rest; line = line; opens = opens }

    second : (e : Token) (es : List Token) → LeftOut w (behind_line ts) (e ∷ es) → (x : List Token) → is_hash e.kind ≡ true → directive_at w es ≡ (directive.Else, x) → LeftAll w (behind_line es) → LeftAll w (t ∷ ts)
    second e es inner x he line2 (left_ends z) =
        let i = left_same w inner (t.place.at + 1) (begins_orderly w n t ts d rest h line o) in
        let j = same_else w i.low e es x he line2 i.orderly in
        left_ends (opens_none w n t ts d b rest h line opens o (i.ends ∙ j.ends ∙ z))
    second e es inner x he line2 (left_bad stop) = left_bad (left_in_second left_none begins inner (record { hash = he; rest = x; line = line2 }) stop)
    second e es inner x he line2 (left_turns {e = u} {es = us} other turns) = closing turns.d turns.turns turns.line
      where
        closing : (d2 : Directive) → Turning d2 → directive_at w us ≡ (d2, turns.rest) → LeftAll w (t ∷ ts)
        closing d2 by_else line3 = left_bad (left_twice left_none begins inner (record { hash = he; rest = x; line = line2 }) other (record { hash = turns.hash; rest = turns.rest; line = line3 }))
        closing d2 by_endif line3 =
            let i = left_same w inner (t.place.at + 1) (begins_orderly w n t ts d rest h line o) in
            let j = same_else w i.low e es x he line2 i.orderly in
            let m = left_same w other j.low j.orderly in
            let p = same_closed w n m.low t u ts us d b rest turns.rest h line opens o (i.ends ∙ j.ends ∙ m.ends) (i.unclosed ∙ j.unclosed ∙ m.unclosed) m.orderly turns.hash line3 in
            let a = behind_shorter ts in let c = left_shorter w inner in let f = behind_shorter es in let g = left_shorter w other in let r = behind_shorter us in
            left_behind w (left_with_else h line opens inner he line2 other turns.hash line3 left_none) p.ends (derive (behind_line us) p.low (omega arith) p.orderly)

    inside : LeftAll w (behind_line ts) → LeftAll w (t ∷ ts)
    inside (left_ends z) = left_ends (opens_none w n t ts d b rest h line opens o z)
    inside (left_bad stop) = left_bad (left_in_first left_none begins stop)
    inside (left_turns {e = e} {es = es} inner turns) = turned turns.d turns.turns turns.line
      where
        turned : (d2 : Directive) → Turning d2 → directive_at w es ≡ (d2, turns.rest) → LeftAll w (t ∷ ts)
        turned d2 by_endif line2 =
            let i = left_same w inner (t.place.at + 1) (begins_orderly w n t ts d rest h line o) in
            let p = same_closed w n i.low t e ts es d b rest turns.rest h line opens o i.ends i.unclosed i.orderly turns.hash line2 in
            let a = behind_shorter ts in let c = left_shorter w inner in let f = behind_shorter es in
            left_behind w (left_conditional h line opens inner turns.hash line2 left_none) p.ends (derive (behind_line es) p.low (omega arith) p.orderly)
        turned d2 by_else line2 =
            let i = left_same w inner (t.place.at + 1) (begins_orderly w n t ts d rest h line o) in
            let j = same_else w i.low e es turns.rest turns.hash line2 i.orderly in
            let a = behind_shorter ts in let c = left_shorter w inner in let f = behind_shorter es in
            second e es inner turns.rest turns.hash line2 (derive (behind_line es) j.low (omega arith) j.orderly)

pub derive_left : (k : ℕ) (w : Words) → LeftDerives w k
derive_left k w [] n short o = left_ends refl
derive_left zero w (t ∷ ts) n short o = absurd (omega arith)
derive_left (suc k) w (t ∷ ts) n short o = by (is_hash t.kind) refl (derive_left k w)
  where
    by : (b : Bool) → is_hash t.kind ≡ b → LeftDerives w k → LeftAll w (t ∷ ts)
    by false h derive = let p = same_token w n t ts h o in left_behind w (left_token h left_none) p.ends (derive ts p.low (omega arith) p.orderly)
    by true h derive = left_line_all w k derive t ts n (omega arith) o h (directive_at w ts).0 (directive_at w ts).1 refl (sort_of (directive_at w ts).0)
