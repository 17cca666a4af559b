-- Whole parts of a file open as many conditionals as they close.
use Rattle.std.proofs.Common.{◌≡◌, ℕ, ◌+◌, ◌-◌, List, [], ◌∷◌, Bool, true, false, cond, ◌==◌, Option, Some, refl, ap, ◌∙◌, eqb-true, arith}
use Rattle.scc_tokens_directives.specs.File.{is_hash, ends_open, ends_with, unclosed_with, first_unclosed}
use Rattle.scc_tokens_laws.specs.Joined.{behind_line, directive_at, Opening, by_ifdef, by_ifndef, Plain, plain_include, plain_define, plain_undef, plain_pragma, plain_unknown, LeftOut, left_none, left_token, left_line, left_conditional, left_with_else, Within, Changes, defines, undefines, marks_once, Joins, no_part, one_token, one_end, one_line, own_header, included_once, one_file, first_side, first_not_second, neither_side, second_side}
use Rattle.scc_tokens_directives.specs.declared.directive.Words.{Words}
use Rattle.scc_tokens_directives.specs.declared.directive.Directive.{Directive}
use Rattle.scc_tokens_directives.specs.declared.directive.Directive.TheVariants as directive
use Rattle.scc_tokens_lexer.specs.declared.token.Token.{Token}
use Rattle.scc_tokens.specs.Walk.{Full}
use Rattle.scc_tokens_laws.proofs.Tidy.{Orderly, passes_token, passes_hash}

pub record Same (w : Words) (from to : List Token) : Type 0 where
  pub ends : ends_open w from ≡ ends_open w to
  pub unclosed : first_unclosed w from ≡ first_unclosed w to
  pub low : ℕ
  pub orderly : Orderly false low to

pub same_then : (w : Words) (a b c : List Token) → Same w a b → Same w b c → Same w a c
same_then w a b c p q = record { ends = p.ends ∙ q.ends; unclosed = p.unclosed ∙ q.unclosed; low = q.low; orderly = q.orderly }

plain_ends : (d : Directive) (n : ℕ) → Plain d → ends_with d n ≡ n
plain_ends d n plain_include = refl
plain_ends d n plain_define = refl
plain_ends d n plain_undef = refl
plain_ends d n plain_pragma = refl
plain_ends d n plain_unknown = refl

plain_unclosed : (d : Directive) (n at : ℕ) (o : Option ℕ) → Plain d → unclosed_with d n at o ≡ o
plain_unclosed d n at o plain_include = refl
plain_unclosed d n at o plain_define = refl
plain_unclosed d n at o plain_undef = refl
plain_unclosed d n at o plain_pragma = refl
plain_unclosed d n at o plain_unknown = refl

opening_ends : (d : Directive) (b : Bool) (n : ℕ) → Opening d b → ends_with d n ≡ n - 1
opening_ends d b n by_ifdef = refl
opening_ends d b n by_ifndef = refl

pub opening_unclosed : (d : Directive) (b : Bool) (n at : ℕ) (o : Option ℕ) → Opening d b → unclosed_with d n at o ≡ cond (n == 0) (Some at) o
opening_unclosed d b n at o by_ifdef = refl
opening_unclosed d b n at o by_ifndef = refl

not_none : (n : ℕ) → (n + 1 == 0) ≡ false
not_none n = by (n + 1 == 0) refl
  where
    by : (b : Bool) → (n + 1 == 0) ≡ b → b ≡ false
    by false e = refl
    by true e = absurd (omega (arith, eqb-true (n + 1) 0 e))

pub same_token : (w : Words) (n : ℕ) (t : Token) (ts : List Token) → is_hash t.kind ≡ false → Orderly false n (t ∷ ts) → Same w (t ∷ ts) ts
same_token w n t ts h o = let p = passes_token w n t ts h o in record { ends = p.ends; unclosed = p.unclosed; low = n; orderly = p.orderly }

pub same_line : (w : Words) (n : ℕ) (t : Token) (ts : List Token) (d : Directive) (rest : List Token) → is_hash t.kind ≡ true → directive_at w ts ≡ (d, rest) → Plain d → Orderly false n (t ∷ ts) → Same w (t ∷ ts) (behind_line ts)
same_line w n t ts d rest h line plain o =
    let p = passes_hash w n t ts d rest h line o in
    record { ends = p.ends ∙ plain_ends d _ plain; unclosed = p.unclosed ∙ plain_unclosed d _ t.place.at _ plain; low = t.place.at + 1; orderly = p.orderly }

pub same_else : (w : Words) (n : ℕ) (t : Token) (ts : List Token) (rest : List Token) → is_hash t.kind ≡ true → directive_at w ts ≡ (directive.Else, rest) → Orderly false n (t ∷ ts) → Same w (t ∷ ts) (behind_line ts)
same_else w n t ts rest h line o = let p = passes_hash w n t ts directive.Else rest h line o in record { ends = p.ends; unclosed = p.unclosed; low = t.place.at + 1; orderly = p.orderly }

-- a conditional with its `#endif`
pub same_closed : (w : Words) (n m : ℕ) (t e : Token) (ts es : List Token) (d : Directive) (b : Bool) (rest extra : List Token) → is_hash t.kind ≡ true → directive_at w ts ≡ (d, rest) → Opening d b → Orderly false n (t ∷ ts)
    → ends_open w (behind_line ts) ≡ ends_open w (e ∷ es) → first_unclosed w (behind_line ts) ≡ first_unclosed w (e ∷ es) → Orderly false m (e ∷ es)
    → is_hash e.kind ≡ true → directive_at w es ≡ (directive.Endif, extra) → Same w (t ∷ ts) (behind_line es)
same_closed w n m t e ts es d b rest extra h line opens o same_ends same_unclosed oe he end_line =
    let p = passes_hash w n t ts d rest h line o in
    let q = passes_hash w m e es directive.Endif extra he end_line oe in
    let more : ends_open w (behind_line ts) ≡ ends_open w (behind_line es) + 1 = same_ends ∙ q.ends in
    let less : ends_open w (behind_line es) + 1 - 1 ≡ ends_open w (behind_line es) = omega arith in
    record {
      ends = p.ends ∙ opening_ends d b _ opens ∙ ap (λ k. k - 1) more ∙ less;
      unclosed = p.unclosed ∙ opening_unclosed d b _ t.place.at _ opens ∙ ap (λ k. cond (k == 0) (Some t.place.at) (first_unclosed w (behind_line ts))) more
          ∙ ap (λ v. cond v (Some t.place.at) (first_unclosed w (behind_line ts))) (not_none (ends_open w (behind_line es))) ∙ same_unclosed ∙ q.unclosed;
      low = e.place.at + 1;
      orderly = q.orderly;
    }

-- where a conditional begins
pub begins_orderly : (w : Words) (n : ℕ) (t : Token) (ts : List Token) (d : Directive) (rest : List Token) → is_hash t.kind ≡ true → directive_at w ts ≡ (d, rest) → Orderly false n (t ∷ ts) → Orderly false (t.place.at + 1) (behind_line ts)
begins_orderly w n t ts d rest h line o = let p = passes_hash w n t ts d rest h line o in p.orderly

pub left_same : (w : Words) {from to : List Token} → LeftOut w from to → (n : ℕ) → Orderly false n from → Same w from to
left_same w left_none n o = record { ends = refl; unclosed = refl; low = n; orderly = o }
left_same w (left_token {t = t} {ts = ts} h after) n o = let p = same_token w n t ts h o in same_then w _ _ _ p (left_same w after p.low p.orderly)
left_same w (left_line {t = t} {ts = ts} {d = d} {rest = rest} h line plain after) n o = let p = same_line w n t ts d rest h line plain o in same_then w _ _ _ p (left_same w after p.low p.orderly)
left_same w (left_conditional {t} {e} {ts} {es} {to} {d} {b} {rest} {extra} h line opens inner he end_line after) n o =
    let i = left_same w inner (t.place.at + 1) (begins_orderly w n t ts d rest h line o) in
    let p = same_closed w n i.low t e ts es d b rest extra h line opens o i.ends i.unclosed i.orderly he end_line in
    same_then w _ _ _ p (left_same w after p.low p.orderly)
left_same w (left_with_else {t} {e} {u} {ts} {es} {us} {to} {d} {b} {rest} {extra} {more} h line opens inner he else_line other hu end_line after) n o =
    let i = left_same w inner (t.place.at + 1) (begins_orderly w n t ts d rest h line o) in
    let j = same_else w i.low e es extra he else_line i.orderly in
    let k = left_same w other j.low j.orderly in
    let p = same_closed w n k.low t u ts us d b rest more h line opens o (i.ends ∙ j.ends ∙ k.ends) (i.unclosed ∙ j.unclosed ∙ k.unclosed) k.orderly hu end_line in
    same_then w _ _ _ p (left_same w after p.low p.orderly)

change_plain : (c : Within) (t : Token) (d : Directive) (rest : List Token) (f g : Full) → Changes c t d rest f g → Plain d
change_plain c t d rest f g (defines e) = plain_define
change_plain c t d rest f g (undefines e) = plain_undef
change_plain c t d rest f g (marks_once e) = plain_pragma

pub joins_same : {c : Within} {f g : Full} {from to : List Token} → Joins c from to f g → (n : ℕ) → Orderly false n from → Same c.words from to
joins_same no_part n o = record { ends = refl; unclosed = refl; low = n; orderly = o }
joins_same {c} (one_token {t = t} {ts = ts} h e x after) n o = let p = same_token c.words n t ts h o in same_then c.words _ _ _ p (joins_same after p.low p.orderly)
joins_same {c} (one_end {t = t} {ts = ts} h e after) n o = let p = same_token c.words n t ts h o in same_then c.words _ _ _ p (joins_same after p.low p.orderly)
joins_same {c} (one_line {t = t} {ts = ts} {rest = rest} {d = d} {f = f} {g = g} h line change after) n o =
    let p = same_line c.words n t ts d rest h line (change_plain c t d rest f g change) o in same_then c.words _ _ _ p (joins_same after p.low p.orderly)
joins_same {c} (own_header {t = t} {ts = ts} {rest = rest} h line own after) n o = let p = same_line c.words n t ts directive.Include rest h line plain_include o in same_then c.words _ _ _ p (joins_same after p.low p.orderly)
joins_same {c} (included_once {t = t} {ts = ts} {rest = rest} h line wanted x after) n o = let p = same_line c.words n t ts directive.Include rest h line plain_include o in same_then c.words _ _ _ p (joins_same after p.low p.orderly)
joins_same {c} (one_file {t = t} {ts = ts} {rest = rest} h line wanted x level is_file is_source inner after) n o = let p = same_line c.words n t ts directive.Include rest h line plain_include o in same_then c.words _ _ _ p (joins_same after p.low p.orderly)
joins_same {c} (first_side {t = t} {e = e} {ts = ts} {es = es} begins inner ends after) n o =
    let i = joins_same inner (t.place.at + 1) (begins_orderly c.words n t ts begins.d (begins.name ∷ []) begins.hash begins.line o) in
    let p = same_closed c.words n i.low t e ts es begins.d begins.asks (begins.name ∷ []) [] begins.hash begins.line begins.opens o i.ends i.unclosed i.orderly ends.hash ends.line in
    same_then c.words _ _ _ p (joins_same after p.low p.orderly)
joins_same {c} (first_not_second {t = t} {e = e} {u = u} {ts = ts} {es = es} {us = us} begins inner turns other ends after) n o =
    let i = joins_same inner (t.place.at + 1) (begins_orderly c.words n t ts begins.d (begins.name ∷ []) begins.hash begins.line o) in
    let j = same_else c.words i.low e es [] turns.hash turns.line i.orderly in
    let k = left_same c.words other j.low j.orderly in
    let p = same_closed c.words n k.low t u ts us begins.d begins.asks (begins.name ∷ []) ends.rest begins.hash begins.line begins.opens o (i.ends ∙ j.ends ∙ k.ends) (i.unclosed ∙ j.unclosed ∙ k.unclosed) k.orderly ends.hash ends.line in
    same_then c.words _ _ _ p (joins_same after p.low p.orderly)
joins_same {c} (neither_side {t = t} {e = e} {ts = ts} {es = es} begins inner ends after) n o =
    let i = left_same c.words inner (t.place.at + 1) (begins_orderly c.words n t ts begins.d (begins.name ∷ []) begins.hash begins.line o) in
    let p = same_closed c.words n i.low t e ts es begins.d begins.asks (begins.name ∷ []) ends.rest begins.hash begins.line begins.opens o i.ends i.unclosed i.orderly ends.hash ends.line in
    same_then c.words _ _ _ p (joins_same after p.low p.orderly)
joins_same {c} (second_side {t = t} {e = e} {u = u} {ts = ts} {es = es} {us = us} begins inner turns other ends after) n o =
    let i = left_same c.words inner (t.place.at + 1) (begins_orderly c.words n t ts begins.d (begins.name ∷ []) begins.hash begins.line o) in
    let j = same_else c.words i.low e es turns.rest turns.hash turns.line i.orderly in
    let k = joins_same other j.low j.orderly in
    let p = same_closed c.words n k.low t u ts us begins.d begins.asks (begins.name ∷ []) [] begins.hash begins.line begins.opens o (i.ends ∙ j.ends ∙ k.ends) (i.unclosed ∙ j.unclosed ∙ k.unclosed) k.orderly ends.hash ends.line in
    same_then c.words _ _ _ p (joins_same after p.low p.orderly)
