-- The first fault among the parts of a file is the one at which the walk over its tokens stops.
use Rattle.std.proofs.Common.{◌≡◌, ℕ, suc, ◌+◌, ◌-◌, List, [], ◌∷◌, length, Bool, true, false, ◌==◌, Some, Result, Ok, Err, slice_get, refl, ap, ◌∙◌}
use Rattle.scc_base.specs.Outside.{Shelf}
use Rattle.scc_base.specs.declared.code.Code.TheVariants as code
use Rattle.scc_tokens_directives.specs.Active.{token_taken}
use Rattle.scc_tokens_directives.specs.Directive.{is_line_end, line_len, words_in, with_names, word_texts}
use Rattle.scc_tokens_laws.specs.Faulted.{OpensBadly, no_operand, operands, no_name, not_closed, outside_word, LineStops, no_form, bad_define, bad_undef, bad_once, bad_opening, bad_include, not_included, LeftStops, left_twice, left_in_first, left_in_second, Turning, by_else, by_endif, Turns, Trails, Stops, at_token, at_line, within_file, file_turns, within_first, first_trails, within_left_second, second_else, within_left_first, within_second, third_side, second_trails, FileStops, in_parts, unopened, RootsStop, no_root_read, within_root, behind_root, at_start, StopsAt, in_roots, at_end}
use Rattle.scc_tokens_directives.specs.File.{is_hash}
use Rattle.scc_tokens.specs.Join.{asked_walked, number_after, roots_joined, roots_finished, join_of}
use Rattle.scc_tokens_laws.specs.Joined.{behind_line, directive_at, Opening, by_ifdef, by_ifndef, Within, with_out, Begins, Led, Joins}
use Rattle.scc_tokens_directives.specs.Sides.{is_live, opened}
use Rattle.scc_tokens_directives.specs.Steps.{Stopped, Refuses}
use Rattle.scc_tokens.specs.Walk.{Full, Inside, Lines, in_file, at_file, tokens_at, idle_line, active_line, then_by, walk_on, walk_behind, file_walked, file_included, wanted_name}
use Rattle.scc_tokens_directives.specs.declared.directive.Words.{Words}
use Rattle.scc_tokens_directives.specs.declared.directive.Directive.{Directive}
use Rattle.scc_tokens_directives.specs.declared.directive.Directive.TheVariants as directive
use Rattle.scc_tokens_directives.specs.declared.file.File.{File}
use Rattle.scc_tokens_directives.specs.declared.file.Source.{Source}
use Rattle.scc_tokens_directives.specs.declared.out.Out.{Out}
use Rattle.scc_tokens_directives.specs.declared.sides.Side.{Side}
use Rattle.scc_tokens_lexer.specs.declared.token.Token.{Token}
use Rattle.scc_tokens_laws.proofs.Deriving.{walk, step, Has, walk_line, idle_step, idle_opens, idle_turns, second_of, dead_opened, dead_second, left_out, live_line, live_include, begin_active, live_first, dead_first, live_second, not_second, active_turns, has_grown, joins_walk, file_joins, roots_join}
use Rattle.scc_tokens.proofs.Walking.{Gone}

-- a step that stops
walk_stop : (c : Within) (t : Token) (ts : List Token) (x y : Inside) (h : Stopped) → step c (t ∷ ts) x ≡ (y, Err h) → walk c (t ∷ ts) x ≡ (at_file y, Err h)
unfolding walk_behind
walk_stop c t ts x y h e =
    let inner = file_walked c.shelf c.words c.below in
    ap (λ r. walk_on inner r (λ k z. walk_behind inner c.shelf c.words c.number c.below k ts z)) e

-- ---- text that is left out

idle_stop : (c : Within) (f : Full) (ss ss' : List Side) (t : Token) (ts : List Token) (d : Directive) (rest : List Token) (h : Stopped) → Has c f → is_live ss ≡ false → is_hash t.kind ≡ true
    → directive_at c.words ts ≡ (d, rest) → idle_line d t rest ss ≡ (ss', Some h) → step c (t ∷ ts) (in_file ss f) ≡ (in_file ss' f, Err h)
idle_stop c f ss ss' t ts d rest h has dead hash line idle = rw (has.is_file, has.is_source, hash, dead, line, idle) refl

idle_twice : (t : Token) (rest : List Token) (outer taken : Bool) (ss : List Side) → is_live (second_of outer taken ss) ≡ false
    → idle_line directive.Else t rest (second_of outer taken ss) ≡ (second_of outer taken ss, Some (Refuses code.Directive t.place))
idle_twice t rest outer taken ss dead = rw dead refl

left_stops : (c : Within) (f : Full) (ss : List Side) {from : List Token} {u : Token} → LeftStops c.words from u → Has c f → is_live ss ≡ false
    → walk c from (in_file ss f) ≡ (f, Err (Refuses code.Directive u.place))
left_stops c f ss (left_twice {t = t} {e = e} {u = u} {ts = ts} {es = es} {us = us} before begins inner turns other again) has dead =
    let within = dead_opened false ss dead in
    let behind = dead_second true ss dead in
    left_out c f ss before has dead
    ∙ walk_line c t ts _ _ (idle_step c f ss (opened false ss) t ts begins.d begins.rest has dead begins.hash begins.line (idle_opens begins.d begins.b t begins.rest ss begins.opens))
    ∙ left_out c f (opened false ss) inner has within
    ∙ walk_line c e es _ _ (idle_step c f (opened false ss) (second_of (is_live ss) true ss) e es directive.Else turns.rest has within turns.hash turns.line (idle_turns e turns.rest ss within))
    ∙ left_out c f (second_of (is_live ss) true ss) other has behind
    ∙ walk_stop c u us _ _ _ (idle_stop c f (second_of (is_live ss) true ss) _ u us directive.Else again.rest _ has behind again.hash again.line (idle_twice u again.rest (is_live ss) true ss behind))
left_stops c f ss (left_in_first {t = t} {ts = ts} before begins inner) has dead =
    left_out c f ss before has dead
    ∙ walk_line c t ts _ _ (idle_step c f ss (opened false ss) t ts begins.d begins.rest has dead begins.hash begins.line (idle_opens begins.d begins.b t begins.rest ss begins.opens))
    ∙ left_stops c f (opened false ss) inner has (dead_opened false ss dead)
left_stops c f ss (left_in_second {t = t} {e = e} {ts = ts} {es = es} before begins inner turns other) has dead =
    let within = dead_opened false ss dead in
    left_out c f ss before has dead
    ∙ walk_line c t ts _ _ (idle_step c f ss (opened false ss) t ts begins.d begins.rest has dead begins.hash begins.line (idle_opens begins.d begins.b t begins.rest ss begins.opens))
    ∙ left_out c f (opened false ss) inner has within
    ∙ walk_line c e es _ _ (idle_step c f (opened false ss) (second_of (is_live ss) true ss) e es directive.Else turns.rest has within turns.hash turns.line (idle_turns e turns.rest ss within))
    ∙ left_stops c f (second_of (is_live ss) true ss) other has (dead_second true ss dead)

-- ---- text that is joined

token_stop : (c : Within) (f : Full) (ss : List Side) (t : Token) (ts : List Token) (o : Out) (h : Stopped) → Has c f → is_live ss ≡ true → is_hash t.kind ≡ false → is_line_end t.kind ≡ false
    → token_taken f.state.macros t f.state.out ≡ (o, Some h) → step c (t ∷ ts) (in_file ss f) ≡ (in_file ss (with_out f o), Err h)
token_stop c f ss t ts o h has live hash end taken = rw (has.is_file, has.is_source, hash, live, end, taken) refl

line_stop : (c : Within) (f : Full) (ss : List Side) (t : Token) (ts : List Token) (d : Directive) (rest : List Token) (m : Lines) (h : Stopped) → Has c f → is_live ss ≡ true → is_hash t.kind ≡ true
    → directive_at c.words ts ≡ (d, rest) → active_line c.words c.number c.unclosed d t rest (record { state = f.state; sides = ss }) ≡ (m, Err h)
    → step c (t ∷ ts) (in_file ss f) ≡ (record { state = m.state; asked = f.asked; sides = m.sides }, Err h)
line_stop c f ss t ts d rest m h has live hash line active = rw (has.is_file, has.unclosed, has.is_source, hash, live, line, active) refl

wanted_stop : (c : Within) (f : Full) (ss : List Side) (t : Token) (ts rest : List Token) (h : Stopped) → Has c f → is_live ss ≡ true → is_hash t.kind ≡ true
    → directive_at c.words ts ≡ (directive.Include, rest) → wanted_name c.words c.source t rest ≡ Err h → step c (t ∷ ts) (in_file ss f) ≡ (in_file ss f, Err h)
wanted_stop c f ss t ts rest h has live hash line wanted = rw (has.is_file, has.is_source, hash, live, line, wanted) refl

included_stop : (c : Within) (f g : Full) (ss : List Side) (t : Token) (ts rest : List Token) (name : List ℕ) (h : Stopped) → Has c f → is_live ss ≡ true → is_hash t.kind ≡ true
    → directive_at c.words ts ≡ (directive.Include, rest) → wanted_name c.words c.source t rest ≡ Ok (Some name) → file_included c.shelf c.words c.below t.place name f ≡ (g, Err h)
    → step c (t ∷ ts) (in_file ss f) ≡ (in_file ss g, Err h)
included_stop c f g ss t ts rest name h has live hash line wanted included = rw (has.is_file, has.is_source, hash, live, line, wanted, included) refl

opens_badly : (c : Within) (f : Full) (ss : List Side) (t : Token) (d : Directive) (b : Bool) (rest : List Token) (h : Stopped) → Opening d b → OpensBadly c t rest h
    → active_line c.words c.number c.unclosed d t rest (record { state = f.state; sides = ss }) ≡ (record { state = f.state; sides = ss }, Err h)
opens_badly c f ss t d b rest h by_ifdef no_operand = refl
opens_badly c f ss t d b rest h by_ifdef operands = refl
opens_badly c f ss t d b rest h by_ifdef (no_name n) = rw n refl
opens_badly c f ss t d b rest h by_ifdef (not_closed n o) = rw (n, o) refl
opens_badly c f ss t d b rest h by_ifdef (outside_word n o r) = rw (n, o, r) refl
opens_badly c f ss t d b rest h by_ifndef no_operand = refl
opens_badly c f ss t d b rest h by_ifndef operands = refl
opens_badly c f ss t d b rest h by_ifndef (no_name n) = rw n refl
opens_badly c f ss t d b rest h by_ifndef (not_closed n o) = rw (n, o) refl
opens_badly c f ss t d b rest h by_ifndef (outside_word n o r) = rw (n, o, r) refl

pub line_stops : (c : Within) (f g : Full) (ss : List Side) (t : Token) (ts : List Token) (d : Directive) (rest : List Token) (h : Stopped) → LineStops c t d rest f g h → Has c f → is_live ss ≡ true
    → is_hash t.kind ≡ true → directive_at c.words ts ≡ (d, rest) → walk c (t ∷ ts) (in_file ss f) ≡ (g, Err h)
line_stops c f g ss t ts d rest h no_form has live hash line = walk_stop c t ts _ _ h (line_stop c f ss t ts d rest (record { state = f.state; sides = ss }) h has live hash line refl)
line_stops c f g ss t ts d rest h (bad_define {m = m} e) has live hash line =
    walk_stop c t ts _ _ h (line_stop c f ss t ts d rest (record { state = record f.state { macros = m }; sides = ss }) h has live hash line (rw e refl))
line_stops c f g ss t ts d rest h (bad_undef {m = m} e) has live hash line =
    walk_stop c t ts _ _ h (line_stop c f ss t ts d rest (record { state = record f.state { macros = m }; sides = ss }) h has live hash line (rw e refl))
line_stops c f g ss t ts d rest h (bad_once {l = l} e) has live hash line =
    walk_stop c t ts _ _ h (line_stop c f ss t ts d rest (record { state = record f.state { once = l }; sides = ss }) h has live hash line (rw e refl))
line_stops c f g ss t ts d rest h (bad_opening {b = b} o x) has live hash line =
    walk_stop c t ts _ _ h (line_stop c f ss t ts d rest (record { state = f.state; sides = ss }) h has live hash line (opens_badly c f ss t d b rest h o x))
line_stops c f g ss t ts d rest h (bad_include e) has live hash line = walk_stop c t ts _ _ h (wanted_stop c f ss t ts rest h has live hash line e)
line_stops c f g ss t ts d rest h (not_included {name = name} w e) has live hash line = walk_stop c t ts _ _ h (included_stop c f g ss t ts rest name h has live hash line w e)

-- what is known in front of a part
record Front (c : Within) (ss : List Side) (from to : List Token) (f g : Full) : Type 0 where
  walked : walk c from (in_file ss f) ≡ walk c to (in_file ss g)
  has : Has c g

front : (c : Within) (f g : Full) (ss : List Side) {from to : List Token} → Joins c from to f g → Has c f → is_live ss ≡ true → Front c ss from to f g
front c f g ss before has live = let w = joins_walk c f g ss before has live in record { walked = w.walked; has = has_grown c f g has w.grown }

begins_first : (c : Within) (f : Full) (ss : List Side) (t : Token) (ts : List Token) (b : Bool) → Begins c f t ts b → Has c f → is_live ss ≡ true
    → walk c (t ∷ ts) (in_file ss f) ≡ walk c (behind_line ts) (in_file (opened b ss) f)
begins_first c f ss t ts b x has live = walk_line c t ts _ _ (live_line c f ss t ts x.d (x.name ∷ []) _ has live x.hash x.line (begin_active c f ss t ts b x))

-- an `#else` or `#endif` of a side that is chosen, with something behind its word
trails : (c : Within) (f : Full) (ss : List Side) (t : Token) (ts : List Token) (x : Turns c.words t ts) → Trails x.rest → Has c f → is_live ss ≡ true
    → walk c (t ∷ ts) (in_file ss f) ≡ (f, Err (Refuses code.Directive t.place))
trails c f ss t ts x more has live = walk_stop c t ts _ _ _ (line_stop c f ss t ts x.d x.rest (record { state = f.state; sides = ss }) _ has live x.hash x.line (by x.d x.turns))
  where
    by : (d : Directive) → Turning d → active_line c.words c.number c.unclosed d t x.rest (record { state = f.state; sides = ss }) ≡ (record { state = f.state; sides = ss }, Err (Refuses code.Directive t.place))
    by d by_else = rw (live, more) refl
    by d by_endif = rw (live, more) refl

-- an `#else` or `#endif` without its opening
unopened_stops : (c : Within) (f : Full) (t : Token) (ts : List Token) → Turns c.words t ts → Has c f → walk c (t ∷ ts) (in_file [] f) ≡ (f, Err (Refuses code.Directive t.place))
unopened_stops c f t ts x has = walk_stop c t ts _ _ _ (line_stop c f [] t ts x.d x.rest (record { state = f.state; sides = [] }) _ has refl x.hash x.line (by x.d x.turns (length x.rest == 0) refl))
  where
    by : (d : Directive) → Turning d → (v : Bool) → (length x.rest == 0) ≡ v
        → active_line c.words c.number c.unclosed d t x.rest (record { state = f.state; sides = [] }) ≡ (record { state = f.state; sides = [] }, Err (Refuses code.Directive t.place))
    by d by_else true e = rw e refl
    by d by_else false e = rw e refl
    by d by_endif true e = rw e refl
    by d by_endif false e = rw e refl

-- the second `#else` of a conditional whose second side is chosen
again_stops : (c : Within) (f : Full) (ss : List Side) (t : Token) (ts : List Token) → Led c.words directive.Else t ts → Has c f → is_live ss ≡ true
    → walk c (t ∷ ts) (in_file (second_of (is_live ss) true ss) f) ≡ (f, Err (Refuses code.Directive t.place))
again_stops c f ss t ts x has live =
    walk_stop c t ts _ _ _ (line_stop c f (second_of (is_live ss) true ss) t ts directive.Else x.rest (record { state = f.state; sides = second_of (is_live ss) true ss }) _ has (live_second ss live) x.hash x.line (by (length x.rest == 0) refl))
  where
    by : (v : Bool) → (length x.rest == 0) ≡ v → active_line c.words c.number c.unclosed directive.Else t x.rest (record { state = f.state; sides = second_of (is_live ss) true ss })
        ≡ (record { state = f.state; sides = second_of (is_live ss) true ss }, Err (Refuses code.Directive t.place))
    by true e = rw (live, e) refl
    by false e = rw (live, e) refl

file_stop : (c : Within) (t : Token) (ts : List Token) (ss : List Side) (x : Inside) (g k : Full) (n : ℕ) (h : Stopped) → step c (t ∷ ts) x ≡ (in_file ss g, Ok (line_len ts + 1, Some n))
    → file_walked c.shelf c.words c.below n g ≡ (k, Err h) → walk c (t ∷ ts) x ≡ (k, Err h)
unfolding walk_behind
file_stop c t ts ss x g k n h e deep =
    let inner = file_walked c.shelf c.words c.below in
    ap (λ r. walk_on inner r (λ j z. walk_behind inner c.shelf c.words c.number c.below j ts z)) e
    ∙ ap (λ (r : Gone). then_by r.1 r.0 (λ u y. walk_behind inner c.shelf c.words c.number c.below (line_len ts + 1 - 1) ts (in_file ss y))) deep

whole_stops : (shelf : Shelf) (w : Words) (below n : ℕ) (g k : Full) (file : File) (source : Source) (h : Stopped) → slice_get g.asked.known n ≡ Some file
    → walk (record { shelf = shelf; words = w; number = n; source = source; unclosed = file.unclosed; below = below }) file.tokens (in_file [] g) ≡ (k, Err h)
    → file_walked shelf w (suc below) n g ≡ (k, Err h)
unfolding file_walked
whole_stops shelf w below n g k file source h is_file walked = ap (λ l. walk_behind (file_walked shelf w below) shelf w n below 0 l (in_file [] g)) (ap tokens_at is_file) ∙ walked

-- the first fault is the one at which the walk stops
pub stops_walk : (c : Within) (f g : Full) (ss : List Side) (h : Stopped) {from : List Token} → Stops c from f g h → Has c f → is_live ss ≡ true → walk c from (in_file ss f) ≡ (g, Err h)
stops_walk c f k ss h (at_token {t = t} {ts = ts} {g = g} {o = o} before hash end taken) has live =
    let x = front c f g ss before has live in x.walked ∙ walk_stop c t ts _ _ h (token_stop c g ss t ts o h x.has live hash end taken)
stops_walk c f k ss h (at_line {t = t} {ts = ts} {rest = rest} {d = d} {g = g} before hash line stop) has live =
    let x = front c f g ss before has live in x.walked ∙ line_stops c g k ss t ts d rest h stop x.has live hash line
stops_walk c f l ss h (within_file {t = t} {ts = ts} {rest = rest} {name = name} {n = n} {below = below} {file = file} {source = source} {g = g} {k = k} before hash line wanted included level is_file is_source stop) has live =
    let x = front c f g ss before has live in
    let d : Within = record { shelf = c.shelf; words = c.words; number = n; source = source; unclosed = file.unclosed; below = below } in
    let deep = stops_walk d k l [] h stop (record { file = file; is_file = is_file; unclosed = refl; is_source = is_source }) refl in
    x.walked ∙ file_stop c t ts ss _ k l n h (live_include c g k ss t ts rest name (Some n) x.has live hash line wanted included)
    (ap (λ b. file_walked c.shelf c.words b n k) level ∙ whole_stops c.shelf c.words below n k l file source h is_file deep)
stops_walk c f l ss h (file_turns {t = t} {e = e} {ts = ts} {es = es} {rest = rest} {name = name} {n = n} {below = below} {file = file} {source = source} {g = g} {k = k} before hash line wanted included level is_file is_source inner turns) has live =
    let x = front c f g ss before has live in
    let d : Within = record { shelf = c.shelf; words = c.words; number = n; source = source; unclosed = file.unclosed; below = below } in
    let y = front d k l [] inner (record { file = file; is_file = is_file; unclosed = refl; is_source = is_source }) refl in
    x.walked ∙ file_stop c t ts ss _ k l n _ (live_include c g k ss t ts rest name (Some n) x.has live hash line wanted included)
    (ap (λ b. file_walked c.shelf c.words b n k) level ∙ whole_stops c.shelf c.words below n k l file source _ is_file (y.walked ∙ unopened_stops d l e es turns y.has))
stops_walk c f k ss h (within_first {t = t} {ts = ts} {g = g} before begins stop) has live =
    let x = front c f g ss before has live in
    x.walked ∙ begins_first c g ss t ts true begins x.has live ∙ stops_walk c g k (opened true ss) h stop x.has (live_first ss live)
stops_walk c f k ss h (first_trails {t = t} {e = e} {ts = ts} {es = es} {g = g} before begins inner turns more) has live =
    let x = front c f g ss before has live in
    let y = front c g k (opened true ss) inner x.has (live_first ss live) in
    x.walked ∙ begins_first c g ss t ts true begins x.has live ∙ y.walked ∙ trails c k (opened true ss) e es turns more y.has (live_first ss live)
stops_walk c f k ss h (within_left_second {t = t} {e = e} {ts = ts} {es = es} {g = g} before begins inner turns stop) has live =
    let x = front c f g ss before has live in
    let y = front c g k (opened true ss) inner x.has (live_first ss live) in
    x.walked ∙ begins_first c g ss t ts true begins x.has live ∙ y.walked
    ∙ walk_line c e es _ _ (live_line c k (opened true ss) e es directive.Else [] _ y.has (live_first ss live) turns.hash turns.line (active_turns c e k.state ss live))
    ∙ left_stops c k (second_of (is_live ss) false ss) stop y.has (not_second ss live)
stops_walk c f k ss h (second_else {t = t} {e = e} {u = u} {ts = ts} {es = es} {us = us} {g = g} before begins inner turns other again) has live =
    let x = front c f g ss before has live in
    let y = front c g k (opened true ss) inner x.has (live_first ss live) in
    let behind = not_second ss live in
    x.walked ∙ begins_first c g ss t ts true begins x.has live ∙ y.walked
    ∙ walk_line c e es _ _ (live_line c k (opened true ss) e es directive.Else [] _ y.has (live_first ss live) turns.hash turns.line (active_turns c e k.state ss live))
    ∙ left_out c k (second_of (is_live ss) false ss) other y.has behind
    ∙ walk_stop c u us _ _ _ (idle_stop c k (second_of (is_live ss) false ss) _ u us directive.Else again.rest _ y.has behind again.hash again.line (idle_twice u again.rest (is_live ss) false ss behind))
stops_walk c f g ss h (within_left_first {t = t} {ts = ts} before begins stop) has live =
    let x = front c f g ss before has live in
    x.walked ∙ begins_first c g ss t ts false begins x.has live ∙ left_stops c g (opened false ss) stop x.has (dead_first ss live)
stops_walk c f k ss h (within_second {t = t} {e = e} {ts = ts} {es = es} {g = g} before begins inner turns stop) has live =
    let x = front c f g ss before has live in
    let within = dead_first ss live in
    x.walked ∙ begins_first c g ss t ts false begins x.has live ∙ left_out c g (opened false ss) inner x.has within
    ∙ walk_line c e es _ _ (idle_step c g (opened false ss) (second_of (is_live ss) true ss) e es directive.Else turns.rest x.has within turns.hash turns.line (idle_turns e turns.rest ss within))
    ∙ stops_walk c g k (second_of (is_live ss) true ss) h stop x.has (live_second ss live)
stops_walk c f k ss h (third_side {t = t} {e = e} {u = u} {ts = ts} {es = es} {us = us} {g = g} before begins inner turns other again) has live =
    let x = front c f g ss before has live in
    let within = dead_first ss live in
    let y = front c g k (second_of (is_live ss) true ss) other x.has (live_second ss live) in
    x.walked ∙ begins_first c g ss t ts false begins x.has live ∙ left_out c g (opened false ss) inner x.has within
    ∙ walk_line c e es _ _ (idle_step c g (opened false ss) (second_of (is_live ss) true ss) e es directive.Else turns.rest x.has within turns.hash turns.line (idle_turns e turns.rest ss within))
    ∙ y.walked ∙ again_stops c k ss u us again y.has live
stops_walk c f k ss h (second_trails {t = t} {e = e} {u = u} {ts = ts} {es = es} {us = us} {g = g} before begins inner turns other ends more) has live =
    let x = front c f g ss before has live in
    let within = dead_first ss live in
    let y = front c g k (second_of (is_live ss) true ss) other x.has (live_second ss live) in
    x.walked ∙ begins_first c g ss t ts false begins x.has live ∙ left_out c g (opened false ss) inner x.has within
    ∙ walk_line c e es _ _ (idle_step c g (opened false ss) (second_of (is_live ss) true ss) e es directive.Else turns.rest x.has within turns.hash turns.line (idle_turns e turns.rest ss within))
    ∙ y.walked ∙ trails c k (second_of (is_live ss) true ss) u us (record { hash = ends.hash; d = directive.Endif; rest = ends.rest; line = ends.line; turns = by_endif }) more y.has (live_second ss live)

file_stops : (shelf : Shelf) (w : Words) (below n : ℕ) (f g : Full) (h : Stopped) → FileStops shelf w below n f g h → file_walked shelf w (suc below) n f ≡ (g, Err h)
file_stops shelf w below n f g h (in_parts {file = file} {source = source} is_file is_source stop) =
    let c : Within = record { shelf = shelf; words = w; number = n; source = source; unclosed = file.unclosed; below = below } in
    whole_stops shelf w below n f g file source h is_file (stops_walk c f g [] h stop (record { file = file; is_file = is_file; unclosed = refl; is_source = is_source }) refl)
file_stops shelf w below n f g h (unopened {file = file} {source = source} {e = e} {es = es} is_file is_source before turns) =
    let c : Within = record { shelf = shelf; words = w; number = n; source = source; unclosed = file.unclosed; below = below } in
    let x = front c f g [] before (record { file = file; is_file = is_file; unclosed = refl; is_source = is_source }) refl in
    whole_stops shelf w below n f g file source h is_file (x.walked ∙ unopened_stops c g e es turns x.has)

roots_stop : (shelf : Shelf) (w : Words) (roots : List (List ℕ)) (last : ℕ) (f g : Full) (h : Stopped) → RootsStop shelf w roots f g h → roots_joined shelf w roots last f ≡ (g, Err h)
roots_stop shelf w [] last f g h x' = elim x' [ ]
roots_stop shelf w (name ∷ names) last f g h (no_root_read e) =
    ap (λ (r : Full × Result ℕ Stopped). then_by r.1 r.0 (λ k y. roots_joined shelf w names k y)) (ap (asked_walked shelf w f) e)
roots_stop shelf w (name ∷ names) last f g h (within_root {n = n} {a = a} e stop) =
    ap (λ (r : Full × Result ℕ Stopped). then_by r.1 r.0 (λ k y. roots_joined shelf w names k y))
    (ap (asked_walked shelf w f) e ∙ ap (number_after n) (file_stops shelf w 15 n (record f { asked = a }) g h stop))
roots_stop shelf w (name ∷ names) last f k h (behind_root {n = n} {a = a} {g = g} e file stop) =
    ap (λ (r : Full × Result ℕ Stopped). then_by r.1 r.0 (λ j y. roots_joined shelf w names j y))
    (ap (asked_walked shelf w f) e ∙ ap (number_after n) (file_joins shelf w 15 n (record f { asked = a }) g file))
    ∙ roots_stop shelf w names n g k h stop

pub stops_first : (shelf : Shelf) (before roots names : List (List ℕ)) (sources : List Source) (h : Stopped) → StopsAt shelf before roots names sources h → join_of shelf before roots ≡ (names, sources, Err h)
unfolding join_of
stops_first shelf before roots names sources h (in_roots {f = f} {h = x} stop) = ap roots_finished (roots_stop shelf (words_in (with_names before word_texts)) roots 0 (at_start before) f x stop)
stops_first shelf before roots names sources h (at_end {last = last} {f = f} joins e) =
    ap roots_finished (roots_join shelf (words_in (with_names before word_texts)) roots 0 last (at_start before) f joins) ∙ ap (λ r. (f.asked.names, f.asked.sources, r)) e
