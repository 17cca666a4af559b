-- Each conditional has a derivation, or a first fault in it.
use Rattle.std.proofs.Common.{◌≡◌, ◌≤◌, ℕ, zero, suc, ◌+◌, List, [], ◌∷◌, length, Bool, true, false, cond, ◌==◌, Option, Some, None, refl, sym, ap, subst, ◌∙◌, eqb-true, eq-eqb, true≢false, arith}
use Rattle.scc_base.specs.declared.code.Code.{Code}
use Rattle.scc_tokens_directives.specs.Active.{token_taken}
use Rattle.scc_tokens_directives.specs.Directive.{is_line_end, is_named, refusal_of}
use Rattle.scc_tokens_laws.specs.Faulted.{no_operand, operands, no_name, not_closed, outside_word, bad_opening, Turning, by_else, by_endif, at_token, at_line, within_first, first_trails, within_left_second, second_else, within_left_first, within_second, third_side, second_trails}
use Rattle.scc_tokens_directives.specs.File.{is_hash, ends_open, first_unclosed}
use Rattle.scc_tokens_laws.specs.Joined.{behind_line, directive_at, Opening, Within, with_out, Begins, Alone, Led, no_part, one_token, one_end, first_side, first_not_second, neither_side, second_side}
use Rattle.scc_tokens_directives.specs.Lines.{is_macro, is_at, bool_eq}
use Rattle.scc_tokens_directives.specs.Steps.{Step}
use Rattle.scc_tokens.specs.Walk.{Full}
use Rattle.scc_tokens_directives.specs.declared.directive.Directive.{Directive}
use Rattle.scc_tokens_directives.specs.declared.directive.Directive.TheVariants as directive
use Rattle.scc_tokens_directives.specs.declared.out.Out.{Out}
use Rattle.scc_tokens_lexer.specs.declared.token.Token.{Token}
use Rattle.scc_tokens_laws.proofs.Counting.{Same, same_token, same_else, left_same, same_closed, joins_same, opening_unclosed}
use Rattle.scc_tokens_laws.proofs.Deriving.{Has, has_grown, grown_same}
use Rattle.scc_tokens_laws.proofs.Known.{Ready}
use Rattle.scc_tokens_laws.proofs.Live.{JoinsAll, joins_turn, joins_end, joins_stop, joins_behind, joins_shorter, Here, Derives, Deeper, plain_line}
use Rattle.scc_tokens_laws.proofs.Tidy.{Orderly, passes_hash}
use Rattle.scc_tokens_laws.proofs.Total.{Sort, plain_sort, opening_sort, turning_sort, sort_of, behind_shorter, left_shorter, LeftAll, left_turns, left_ends, left_bad, derive_left}

empty_is : {A : Type 0} (l : List A) → (length l == 0) ≡ true → l ≡ []
empty_is [] e = refl
empty_is (x ∷ xs) e = absurd (omega (arith, eqb-true (suc (length xs)) 0 e))

-- a conditional that begins, and that its file closes
record Begun (c : Within) (t : Token) (ts : List Token) (f : Full) (b : Bool) : Type 0 where
  begins : Begins c f t ts b
  here : Here c (t ∷ ts) f
  orderly : Orderly false (t.place.at + 1) (behind_line ts)
  unclosed : c.unclosed ≡ first_unclosed c.words (behind_line ts)
  closed : ends_open c.words (behind_line ts) ≡ 0 → ⊥

-- behind a conditional
closed_here : (c : Within) (t e : Token) (ts es rest extra : List Token) (f g : Full) (b : Bool) (x : Begun c t ts f b) (m : ℕ) → ends_open c.words (behind_line ts) ≡ ends_open c.words (e ∷ es)
    → first_unclosed c.words (behind_line ts) ≡ first_unclosed c.words (e ∷ es) → Orderly false m (e ∷ es) → is_hash e.kind ≡ true → directive_at c.words es ≡ (directive.Endif, extra) → Ready c.words g.asked → Has c g
    → Here c (behind_line es) g
closed_here c t e ts es rest extra f g b x m ends unclosed orderly h line ready has =
    let y = x.begins in
    let p = same_closed c.words x.here.low m t e ts es y.d y.asks (y.name ∷ []) extra y.hash y.line y.opens x.here.orderly ends unclosed orderly h line in
    record { low = p.low; orderly = p.orderly; unclosed = x.here.unclosed ∙ p.unclosed; ready = ready; has = has }

first_chosen : (b k : ℕ) → Derives b k → (c : Within) → c.below ≡ b → (t : Token) (ts : List Token) (f : Full) → length ts ≤ k → Begun c t ts f true → JoinsAll c (behind_line ts) f → JoinsAll c (t ∷ ts) f
first_chosen b k derive c level t ts f short x (joins_stop s) = joins_stop (within_first no_part x.begins s)
first_chosen b k derive c level t ts f short x (joins_end q r) = let m = joins_same q (t.place.at + 1) x.orderly in absurd (x.closed m.ends)
first_chosen b k derive c level t ts f short x (joins_turn {e = e} {es = es} {g = g} q turns ready has) = trails (length turns.rest == 0) refl
  where
    alone : (d : Directive) → turns.rest ≡ [] → directive_at c.words es ≡ (d, turns.rest) → Alone c.words d e es
    alone d z line = record { hash = turns.hash; line = line ∙ ap (λ (l : List Token). (d, l)) z }

    second : (a : Alone c.words directive.Else e es) → (i : Same c.words (behind_line ts) (e ∷ es)) (j : Same c.words (e ∷ es) (behind_line es)) → LeftAll c.words (behind_line es) → JoinsAll c (t ∷ ts) f
    second a i j (left_ends z) = absurd (x.closed (i.ends ∙ j.ends ∙ z))
    second a i j (left_bad s) = joins_stop (within_left_second no_part x.begins q a s)
    second a i j (left_turns {e = u} {es = us} o turns2) = closing turns2.d turns2.turns turns2.line
      where
        closing : (d : Directive) → Turning d → directive_at c.words us ≡ (d, turns2.rest) → JoinsAll c (t ∷ ts) f
        closing d by_else line = joins_stop (second_else no_part x.begins q a o (record { hash = turns2.hash; rest = turns2.rest; line = line }))
        closing d by_endif line =
            let m = left_same c.words o j.low j.orderly in
            let s1 = behind_shorter ts in let s2 = joins_shorter q in let s3 = behind_shorter es in let s4 = left_shorter c.words o in let s5 = behind_shorter us in
            joins_behind c f g (first_not_second x.begins q a o (record { hash = turns2.hash; rest = turns2.rest; line = line }) no_part)
            (derive c level (behind_line us) g (omega arith) (closed_here c t u ts us [] turns2.rest f g true x m.low (i.ends ∙ j.ends ∙ m.ends) (i.unclosed ∙ j.unclosed ∙ m.unclosed) m.orderly turns2.hash line ready has))

    turned : (d : Directive) → Turning d → turns.rest ≡ [] → directive_at c.words es ≡ (d, turns.rest) → JoinsAll c (t ∷ ts) f
    turned d by_endif z line =
        let i = joins_same q (t.place.at + 1) x.orderly in
        let s1 = behind_shorter ts in let s2 = joins_shorter q in let s3 = behind_shorter es in
        joins_behind c f g (first_side x.begins q (alone directive.Endif z line) no_part)
        (derive c level (behind_line es) g (omega arith) (closed_here c t e ts es [] turns.rest f g true x i.low i.ends i.unclosed i.orderly turns.hash line ready has))
    turned d by_else z line =
        let i = joins_same q (t.place.at + 1) x.orderly in
        let j = same_else c.words i.low e es turns.rest turns.hash line i.orderly in
        second (alone directive.Else z line) i j (derive_left (length (behind_line es)) c.words (behind_line es) j.low (omega arith) j.orderly)

    trails : (v : Bool) → (length turns.rest == 0) ≡ v → JoinsAll c (t ∷ ts) f
    trails true e = turned turns.d turns.turns (empty_is turns.rest e) turns.line
    trails false e = joins_stop (first_trails no_part x.begins q turns e)

second_chosen : (b k : ℕ) → Derives b k → (c : Within) → c.below ≡ b → (t : Token) (ts : List Token) (f : Full) → length ts ≤ k → Begun c t ts f false → LeftAll c.words (behind_line ts) → JoinsAll c (t ∷ ts) f
second_chosen b k derive c level t ts f short x (left_ends z) = absurd (x.closed z)
second_chosen b k derive c level t ts f short x (left_bad s) = joins_stop (within_left_first no_part x.begins s)
second_chosen b k derive c level t ts f short x (left_turns {e = e} {es = es} q turns) = turned turns.d turns.turns turns.line
  where
    second : (a : Led c.words directive.Else e es) → (i : Same c.words (behind_line ts) (e ∷ es)) (j : Same c.words (e ∷ es) (behind_line es)) → JoinsAll c (behind_line es) f → JoinsAll c (t ∷ ts) f
    second a i j (joins_stop s) = joins_stop (within_second no_part x.begins q a s)
    second a i j (joins_end o r) = let m = joins_same o j.low j.orderly in absurd (x.closed (i.ends ∙ j.ends ∙ m.ends))
    second a i j (joins_turn {e = u} {es = us} {g = g} o turns2 ready has) = closing turns2.d turns2.turns turns2.line
      where
        trails : (v : Bool) → directive_at c.words us ≡ (directive.Endif, turns2.rest) → (length turns2.rest == 0) ≡ v → JoinsAll c (t ∷ ts) f
        trails false line z = joins_stop (second_trails no_part x.begins q a o (record { hash = turns2.hash; rest = turns2.rest; line = line }) z)
        trails true line z =
            let m = joins_same o j.low j.orderly in
            let s1 = behind_shorter ts in let s2 = left_shorter c.words q in let s3 = behind_shorter es in let s4 = joins_shorter o in let s5 = behind_shorter us in
            joins_behind c f g (second_side x.begins q a o (record { hash = turns2.hash; line = line ∙ ap (λ (l : List Token). (directive.Endif, l)) (empty_is turns2.rest z) }) no_part)
            (derive c level (behind_line us) g (omega arith) (closed_here c t u ts us [] turns2.rest f g false x m.low (i.ends ∙ j.ends ∙ m.ends) (i.unclosed ∙ j.unclosed ∙ m.unclosed) m.orderly turns2.hash line ready has))

        closing : (d : Directive) → Turning d → directive_at c.words us ≡ (d, turns2.rest) → JoinsAll c (t ∷ ts) f
        closing d by_else line = joins_stop (third_side no_part x.begins q a o (record { hash = turns2.hash; rest = turns2.rest; line = line }))
        closing d by_endif line = trails (length turns2.rest == 0) line refl

    turned : (d : Directive) → Turning d → directive_at c.words es ≡ (d, turns.rest) → JoinsAll c (t ∷ ts) f
    turned d by_endif line =
        let i = left_same c.words q (t.place.at + 1) x.orderly in
        let s1 = behind_shorter ts in let s2 = left_shorter c.words q in let s3 = behind_shorter es in
        joins_behind c f f (neither_side x.begins q (record { hash = turns.hash; rest = turns.rest; line = line }) no_part)
        (derive c level (behind_line es) f (omega arith) (closed_here c t e ts es [] turns.rest f f false x i.low i.ends i.unclosed i.orderly turns.hash line x.here.ready x.here.has))
    turned d by_else line =
        let i = left_same c.words q (t.place.at + 1) x.orderly in
        let j = same_else c.words i.low e es turns.rest turns.hash line i.orderly in
        let s1 = behind_shorter ts in let s2 = left_shorter c.words q in let s3 = behind_shorter es in
        second (record { hash = turns.hash; rest = turns.rest; line = line }) i j
        (derive c level (behind_line es) f (omega arith) (record { low = j.low; orderly = j.orderly; unclosed = x.unclosed ∙ i.unclosed ∙ j.unclosed; ready = x.here.ready; has = x.here.has }))

-- a line that begins a conditional
opening_line : (b k : ℕ) → Derives b k → (c : Within) → c.below ≡ b → (t : Token) (ts : List Token) (f : Full) → length ts ≤ k → Here c (t ∷ ts) f → is_hash t.kind ≡ true
    → (d : Directive) (asks : Bool) (rest : List Token) → directive_at c.words ts ≡ (d, rest) → Opening d asks → JoinsAll c (t ∷ ts) f
opening_line b k derive c level t ts f short here h d asks [] line opens = joins_stop (at_line no_part h line (bad_opening opens no_operand))
opening_line b k derive c level t ts f short here h d asks (a ∷ u ∷ us) line opens = joins_stop (at_line no_part h line (bad_opening opens operands))
opening_line b k derive c level t ts f short here h d asks (a ∷ []) line opens = by (is_named a.kind) (is_at c.unclosed t.place.at) (refusal_of a.kind) refl refl refl
  where
    some : is_at c.unclosed t.place.at ≡ false → c.unclosed ≡ cond (ends_open c.words (behind_line ts) == 0) (Some t.place.at) (first_unclosed c.words (behind_line ts)) → (ends_open c.words (behind_line ts) == 0) ≡ false
    some closed u = pick (ends_open c.words (behind_line ts) == 0) refl
      where
        pick : (v : Bool) → (ends_open c.words (behind_line ts) == 0) ≡ v → v ≡ false
        pick false e = refl
        pick true e =
            let is : c.unclosed ≡ Some t.place.at = u ∙ ap (λ v. cond v (Some t.place.at) (first_unclosed c.words (behind_line ts))) e in
            absurd (true≢false (sym (ap (λ o. is_at o t.place.at) is ∙ eq-eqb t.place.at t.place.at refl) ∙ closed))

    begun : (named : is_named a.kind ≡ true) → is_at c.unclosed t.place.at ≡ false → refusal_of a.kind ≡ None → (v : Bool) → bool_eq (is_macro f.state.macros a.kind) asks ≡ v → Begun c t ts f v
    begun named closed allowed v chosen =
        let p = passes_hash c.words here.low t ts d (a ∷ []) h line here.orderly in
        let u = here.unclosed ∙ p.unclosed ∙ opening_unclosed d asks _ t.place.at _ opens in
        let none = some closed u in
        record {
          begins = record { hash = h; d = d; asks = asks; name = a; line = line; opens = opens; named = named; closed = closed; allowed = allowed; chosen = chosen };
          here = here;
          orderly = p.orderly;
          unclosed = u ∙ ap (λ w. cond w (Some t.place.at) (first_unclosed c.words (behind_line ts))) none;
          closed = λ z. true≢false (sym (ap (λ k. k == 0) z) ∙ none);
        }

    chosen_by : (named : is_named a.kind ≡ true) → is_at c.unclosed t.place.at ≡ false → refusal_of a.kind ≡ None → (v : Bool) → bool_eq (is_macro f.state.macros a.kind) asks ≡ v → JoinsAll c (t ∷ ts) f
    chosen_by named closed allowed true e =
        let x = begun named closed allowed true e in
        let s = behind_shorter ts in
        first_chosen b k derive c level t ts f short x
        (derive c level (behind_line ts) f (omega arith) (record { low = t.place.at + 1; orderly = x.orderly; unclosed = x.unclosed; ready = here.ready; has = here.has }))
    chosen_by named closed allowed false e =
        let x = begun named closed allowed false e in
        second_chosen b k derive c level t ts f short x (derive_left (length (behind_line ts)) c.words (behind_line ts) (t.place.at + 1) (omega arith) x.orderly)

    by : (n u : Bool) (r : Option Code) → is_named a.kind ≡ n → is_at c.unclosed t.place.at ≡ u → refusal_of a.kind ≡ r → JoinsAll c (t ∷ ts) f
    by false u r e g i = joins_stop (at_line no_part h line (bad_opening opens (no_name e)))
    by true true r e g i = joins_stop (at_line no_part h line (bad_opening opens (not_closed e g)))
    by true false (Some x) e g i = joins_stop (at_line no_part h line (bad_opening opens (outside_word e g i)))
    by true false None e g i = chosen_by e g i (bool_eq (is_macro f.state.macros a.kind) asks) refl

one_more : (b k : ℕ) → Derives b k → (c : Within) → c.below ≡ b → (t : Token) (ts : List Token) (f : Full) → length ts ≤ k → Here c (t ∷ ts) f → is_hash t.kind ≡ false → JoinsAll c (t ∷ ts) f
one_more b k derive c level t ts f short here h = by (is_line_end t.kind) refl
  where
    next : (g : Full) → Ready c.words g.asked → Has c g → JoinsAll c ts g
    next g ready has = let p = same_token c.words here.low t ts h here.orderly in derive c level ts g short (record { low = p.low; orderly = p.orderly; unclosed = here.unclosed ∙ p.unclosed; ready = ready; has = has })

    taken : (s : Step Out) → is_line_end t.kind ≡ false → token_taken f.state.macros t f.state.out ≡ s → JoinsAll c (t ∷ ts) f
    taken (o, None) e x = joins_behind c f (with_out f o) (one_token h e x no_part) (next (with_out f o) here.ready (has_grown c f (with_out f o) here.has (grown_same f (with_out f o) refl)))
    taken (o, Some z) e x = joins_stop (at_token no_part h e x)

    by : (v : Bool) → is_line_end t.kind ≡ v → JoinsAll c (t ∷ ts) f
    by true e = joins_behind c f f (one_end h e no_part) (next f here.ready here.has)
    by false e = taken (token_taken f.state.macros t f.state.out) e refl

pub derive_parts : (b k : ℕ) → Deeper b → Derives b k
derive_parts b k deeper c level [] f short here = joins_end no_part here.ready
derive_parts b zero deeper c level (t ∷ ts) f short here = absurd (omega arith)
derive_parts b (suc k) deeper c level (t ∷ ts) f short here = by (is_hash t.kind) refl (derive_parts b k deeper)
  where
    line : Derives b k → is_hash t.kind ≡ true → (d : Directive) (rest : List Token) → directive_at c.words ts ≡ (d, rest) → Sort d → JoinsAll c (t ∷ ts) f
    line derive h d rest e (plain_sort p) = plain_line b k deeper derive c level t ts f (omega arith) here h d rest e p
    line derive h d rest e (opening_sort asks o) = opening_line b k derive c level t ts f (omega arith) here h d asks rest e o
    line derive h d rest e (turning_sort x) = joins_turn no_part (record { hash = h; d = d; rest = rest; line = e; turns = x }) here.ready here.has

    by : (v : Bool) → is_hash t.kind ≡ v → Derives b k → JoinsAll c (t ∷ ts) f
    by false h derive = one_more b k derive c level t ts f (omega arith) here h
    by true h derive = line derive h (directive_at c.words ts).0 (directive_at c.words ts).1 refl (sort_of (directive_at c.words ts).0)

-- at each level of inclusion
pub derive_level : (b k : ℕ) → Derives b k
derive_level zero k = derive_parts zero k (λ b' e. absurd (omega (arith, e)))
derive_level (suc b) k = derive_parts (suc b) k (λ b' e j. let same : b ≡ b' = omega (arith, e) in subst (λ x. Derives x j) same (derive_level b j))
