-- What the parts of a file do is what the walk over its tokens does.
use Rattle.std.proofs.Common.{◌≡◌, ℕ, suc, ◌+◌, ◌-◌, List, [], ◌∷◌, ◌++◌, length, Bool, true, false, Option, Some, None, Result, Ok, Err, slice_get, refl, ap, subst, ◌∙◌, arith}
use Rattle.scc_base.specs.Outside.{Shelf}
use Rattle.scc_base.specs.declared.code.Code.{Code}
use Rattle.scc_base.specs.declared.refusal.Place.{Place}
use Rattle.scc_tokens_directives.specs.Active.{token_taken}
use Rattle.scc_tokens_directives.specs.Directive.{is_line_end, line_len, words_in, with_names, word_texts}
use Rattle.scc_tokens_directives.specs.File.{is_hash}
use Rattle.scc_tokens.specs.Files.{Asked, asked, asked_by, read_by, lexed_by, number_of, names_read, file_of}
use Rattle.scc_tokens_laws.specs.Joined.{behind_line, directive_at, Opening, by_ifdef, by_ifndef, Plain, plain_include, plain_define, plain_undef, plain_pragma, plain_unknown, LeftOut, left_none, left_token, left_line, left_conditional, left_with_else, Within, with_out, Changes, defines, undefines, marks_once, Begins, Joins, no_part, one_token, one_end, one_line, own_header, included_once, one_file, first_side, first_not_second, neither_side, second_side, JoinsFile, JoinsRoots, no_root, one_root, JoinsTo}
use Rattle.scc_tokens.specs.Join.{asked_walked, number_after, root_joined, roots_joined, roots_finished, join_of}
use Rattle.scc_tokens_directives.specs.Lines.{is_macro, bool_eq}
use Rattle.scc_tokens_directives.specs.Sides.{is_live, opened}
use Rattle.scc_tokens_directives.specs.Steps.{Stopped}
use Rattle.scc_tokens.specs.Walk.{Full, Inside, Lines, Stepped, in_file, tokens_at, step_taken, idle_line, active_line, then_by, walk_on, walk_behind, file_walked, file_included, admitted, admitted_asked, text_asked, text_if, number_asked, wanted_name}
use Rattle.scc_tokens_directives.specs.declared.directive.Words.{Words}
use Rattle.scc_tokens_directives.specs.declared.directive.Directive.{Directive}
use Rattle.scc_tokens_directives.specs.declared.directive.Directive.TheVariants as directive
use Rattle.scc_tokens_directives.specs.declared.file.File.{File}
use Rattle.scc_tokens_directives.specs.declared.file.Source.{Source}
use Rattle.scc_tokens.specs.declared.joining.Joined.{Joined}
use Rattle.scc_tokens_directives.specs.declared.out.Out.{Out}
use Rattle.scc_tokens_directives.specs.declared.sides.Side.{Side}
use Rattle.scc_tokens_lexer.specs.declared.token.Token.{Token}
use Rattle.scc_tokens.specs.declared.walk.Joining.{Joining}
use Rattle.scc_tokens_lexer.proofs.Spelling.{get_kept}
use Rattle.scc_tokens.proofs.Walking.{Gone, behind_drop}

-- the walk over what is left of a file
abbrev pub walk : Within → List Token → Inside → Gone
walk c ts x = walk_behind (file_walked c.shelf c.words c.below) c.shelf c.words c.number c.below 0 ts x

abbrev pub step : Within → List Token → Inside → Inside × Result Stepped Stopped
step c ts x = step_taken c.shelf c.words c.number c.below ts x

-- the file was asked for
pub record Has (c : Within) (f : Full) : Type 0 where
  pub file : File
  pub is_file : slice_get f.asked.known c.number ≡ Some file
  pub unclosed : file.unclosed ≡ c.unclosed
  pub is_source : slice_get f.asked.sources c.number ≡ Some c.source

-- a line is taken
pub walk_line : (c : Within) (t : Token) (ts : List Token) (x y : Inside) → step c (t ∷ ts) x ≡ (y, Ok (line_len ts + 1, None)) → walk c (t ∷ ts) x ≡ walk c (behind_line ts) y
unfolding walk_behind
walk_line c t ts x y e =
    let inner = file_walked c.shelf c.words c.below in
    let n : line_len ts + 1 - 1 ≡ line_len ts = omega arith in
    ap (λ r. walk_on inner r (λ k z. walk_behind inner c.shelf c.words c.number c.below k ts z)) e
    ∙ ap (λ k. walk_behind inner c.shelf c.words c.number c.below k ts y) n ∙ behind_drop inner c.shelf c.words c.number c.below (line_len ts) ts y

-- a token is taken
pub walk_token : (c : Within) (t : Token) (ts : List Token) (x y : Inside) → step c (t ∷ ts) x ≡ (y, Ok (1, None)) → walk c (t ∷ ts) x ≡ walk c ts y
unfolding walk_behind
walk_token c t ts x y e =
    let inner = file_walked c.shelf c.words c.below in
    ap (λ r. walk_on inner r (λ k z. walk_behind inner c.shelf c.words c.number c.below k ts z)) e

-- ---- text that is left out

pub idle_step : (c : Within) (f : Full) (ss ss' : List Side) (t : Token) (ts : List Token) (d : Directive) (rest : List Token) → Has c f → is_live ss ≡ false → is_hash t.kind ≡ true
    → directive_at c.words ts ≡ (d, rest) → idle_line d t rest ss ≡ (ss', None) → step c (t ∷ ts) (in_file ss f) ≡ (in_file ss' f, Ok (line_len ts + 1, None))
idle_step c f ss ss' t ts d rest has dead hash line idle = rw (has.is_file, has.is_source, hash, dead, line, idle) refl

idle_token : (c : Within) (f : Full) (ss : List Side) (t : Token) (ts : List Token) → Has c f → is_live ss ≡ false → is_hash t.kind ≡ false
    → step c (t ∷ ts) (in_file ss f) ≡ (in_file ss f, Ok (1, None))
idle_token c f ss t ts has dead hash = rw (has.is_file, has.is_source, hash, dead) refl

idle_plain : (d : Directive) (t : Token) (rest : List Token) (ss : List Side) → Plain d → idle_line d t rest ss ≡ (ss, None)
idle_plain d t rest ss plain_include = refl
idle_plain d t rest ss plain_define = refl
idle_plain d t rest ss plain_undef = refl
idle_plain d t rest ss plain_pragma = refl
idle_plain d t rest ss plain_unknown = refl

pub idle_opens : (d : Directive) (b : Bool) (t : Token) (rest : List Token) (ss : List Side) → Opening d b → idle_line d t rest ss ≡ (opened false ss, None)
idle_opens d b t rest ss by_ifdef = refl
idle_opens d b t rest ss by_ifndef = refl

-- the second side of a conditional
abbrev pub second_of : Bool → Bool → List Side → List Side
second_of outer taken ss = record { outer = outer; taken = taken; other = true } ∷ ss

pub idle_turns : (t : Token) (rest : List Token) (ss : List Side) → is_live (opened false ss) ≡ false → idle_line directive.Else t rest (opened false ss) ≡ (second_of (is_live ss) true ss, None)
idle_turns t rest ss dead = rw dead refl

pub idle_closes : (t : Token) (rest : List Token) (s : Side) (ss : List Side) → is_live (s ∷ ss) ≡ false → idle_line directive.Endif t rest (s ∷ ss) ≡ (ss, None)
idle_closes t rest s ss dead = rw dead refl

pub dead_opened : (b : Bool) (ss : List Side) → is_live ss ≡ false → is_live (opened b ss) ≡ false
dead_opened b ss dead = rw dead refl

pub dead_second : (b : Bool) (ss : List Side) → is_live ss ≡ false → is_live (second_of (is_live ss) b ss) ≡ false
dead_second b ss dead = rw dead refl

pub left_out : (c : Within) (f : Full) (ss : List Side) {from to : List Token} → LeftOut c.words from to → Has c f → is_live ss ≡ false → walk c from (in_file ss f) ≡ walk c to (in_file ss f)
left_out c f ss left_none has dead = refl
left_out c f ss (left_token {t} {ts} hash after) has dead = walk_token c t ts _ _ (idle_token c f ss t ts has dead hash) ∙ left_out c f ss after has dead
left_out c f ss (left_line {t} {ts} {to} {d} {rest} hash line plain after) has dead =
    walk_line c t ts _ _ (idle_step c f ss ss t ts d rest has dead hash line (idle_plain d t rest ss plain)) ∙ left_out c f ss after has dead
left_out c f ss (left_conditional {t} {e} {ts} {es} {to} {d} {b} {rest} {extra} hash line opens inner ends end_line after) has dead =
    let within = dead_opened false ss dead in
    walk_line c t ts _ _ (idle_step c f ss (opened false ss) t ts d rest has dead hash line (idle_opens d b t rest ss opens))
    ∙ left_out c f (opened false ss) inner has within
    ∙ walk_line c e es _ _ (idle_step c f (opened false ss) ss e es directive.Endif extra has within ends end_line (idle_closes e extra (record { outer = is_live ss; taken = false; other = false }) ss within))
    ∙ left_out c f ss after has dead
left_out c f ss (left_with_else {t} {e} {u} {ts} {es} {us} {to} {d} {b} {rest} {extra} {more} hash line opens inner turns else_line other ends end_line after) has dead =
    let within = dead_opened false ss dead in
    let behind = dead_second true ss dead in
    walk_line c t ts _ _ (idle_step c f ss (opened false ss) t ts d rest has dead hash line (idle_opens d b t rest ss opens))
    ∙ left_out c f (opened false ss) inner has within
    ∙ walk_line c e es _ _ (idle_step c f (opened false ss) (second_of (is_live ss) true ss) e es directive.Else extra has within turns else_line (idle_turns e extra ss within))
    ∙ left_out c f (second_of (is_live ss) true ss) other has behind
    ∙ walk_line c u us _ _ (idle_step c f (second_of (is_live ss) true ss) ss u us directive.Endif more has behind ends end_line (idle_closes u more (record { outer = is_live ss; taken = true; other = true }) ss behind))
    ∙ left_out c f ss after has dead

-- ---- text that is joined

pub live_token : (c : Within) (f : Full) (ss : List Side) (t : Token) (ts : List Token) (o : Out) → Has c f → is_live ss ≡ true → is_hash t.kind ≡ false → is_line_end t.kind ≡ false
    → token_taken f.state.macros t f.state.out ≡ (o, None) → step c (t ∷ ts) (in_file ss f) ≡ (in_file ss (with_out f o), Ok (1, None))
live_token c f ss t ts o has live hash end taken = rw (has.is_file, has.is_source, hash, live, end, taken) refl

live_end : (c : Within) (f : Full) (ss : List Side) (t : Token) (ts : List Token) → Has c f → is_live ss ≡ true → is_hash t.kind ≡ false → is_line_end t.kind ≡ true
    → step c (t ∷ ts) (in_file ss f) ≡ (in_file ss f, Ok (1, None))
live_end c f ss t ts has live hash end = rw (has.is_file, has.is_source, hash, live, end) refl

-- a line that includes nothing
pub live_line : (c : Within) (f : Full) (ss : List Side) (t : Token) (ts : List Token) (d : Directive) (rest : List Token) (m : Lines) → Has c f → is_live ss ≡ true → is_hash t.kind ≡ true
    → directive_at c.words ts ≡ (d, rest) → active_line c.words c.number c.unclosed d t rest (record { state = f.state; sides = ss }) ≡ (m, Ok false)
    → step c (t ∷ ts) (in_file ss f) ≡ (record { state = m.state; asked = f.asked; sides = m.sides }, Ok (line_len ts + 1, None))
live_line c f ss t ts d rest m has live hash line active = rw (has.is_file, has.unclosed, has.is_source, hash, live, line, active) refl

pub live_own : (c : Within) (f : Full) (ss : List Side) (t : Token) (ts rest : List Token) → Has c f → is_live ss ≡ true → is_hash t.kind ≡ true → directive_at c.words ts ≡ (directive.Include, rest)
    → wanted_name c.words c.source t rest ≡ Ok None → step c (t ∷ ts) (in_file ss f) ≡ (in_file ss f, Ok (line_len ts + 1, None))
live_own c f ss t ts rest has live hash line own = rw (has.is_file, has.is_source, hash, live, line, own) refl

pub live_include : (c : Within) (f g : Full) (ss : List Side) (t : Token) (ts rest : List Token) (name : List ℕ) (o : Option ℕ) → Has c f → is_live ss ≡ true → is_hash t.kind ≡ true
    → directive_at c.words ts ≡ (directive.Include, rest) → wanted_name c.words c.source t rest ≡ Ok (Some name) → file_included c.shelf c.words c.below t.place name f ≡ (g, Ok o)
    → step c (t ∷ ts) (in_file ss f) ≡ (in_file ss g, Ok (line_len ts + 1, o))
live_include c f g ss t ts rest name o has live hash line wanted included = rw (has.is_file, has.is_source, hash, live, line, wanted, included) refl

pub begin_active : (c : Within) (f : Full) (ss : List Side) (t : Token) (ts : List Token) (b : Bool) (x : Begins c f t ts b)
    → active_line c.words c.number c.unclosed x.d t (x.name ∷ []) (record { state = f.state; sides = ss }) ≡ (record { state = f.state; sides = opened b ss }, Ok false)
begin_active c f ss t ts b x = by x.d x.asks x.opens x.chosen
  where
    by : (d : Directive) (asks : Bool) → Opening d asks → bool_eq (is_macro f.state.macros x.name.kind) asks ≡ b
        → active_line c.words c.number c.unclosed d t (x.name ∷ []) (record { state = f.state; sides = ss }) ≡ (record { state = f.state; sides = opened b ss }, Ok false)
    by d asks by_ifdef chosen = rw (x.named, x.closed, x.allowed, chosen) refl
    by d asks by_ifndef chosen = rw (x.named, x.closed, x.allowed, chosen) refl

-- a file is included
walk_inside : (c : Within) (t : Token) (ts : List Token) (ss : List Side) (x : Inside) (g h : Full) (n : ℕ) → step c (t ∷ ts) x ≡ (in_file ss g, Ok (line_len ts + 1, Some n))
    → file_walked c.shelf c.words c.below n g ≡ (h, Ok tt) → walk c (t ∷ ts) x ≡ walk c (behind_line ts) (in_file ss h)
unfolding walk_behind
walk_inside c t ts ss x g h n e deep =
    let inner = file_walked c.shelf c.words c.below in
    let less : line_len ts + 1 - 1 ≡ line_len ts = omega arith in
    ap (λ r. walk_on inner r (λ k z. walk_behind inner c.shelf c.words c.number c.below k ts z)) e
    ∙ ap (λ (r : Gone). then_by r.1 r.0 (λ u y. walk_behind inner c.shelf c.words c.number c.below (line_len ts + 1 - 1) ts (in_file ss y))) deep
    ∙ ap (λ k. walk_behind inner c.shelf c.words c.number c.below k ts (in_file ss h)) less ∙ behind_drop inner c.shelf c.words c.number c.below (line_len ts) ts (in_file ss h)

-- ---- files that were asked for stay

pub record Grown (f g : Full) : Type 0 where
  pub files : (i : ℕ) (x : File) → slice_get f.asked.known i ≡ Some x → slice_get g.asked.known i ≡ Some x
  pub sources : (i : ℕ) (x : Source) → slice_get f.asked.sources i ≡ Some x → slice_get g.asked.sources i ≡ Some x

pub grown_same : (f g : Full) → f.asked ≡ g.asked → Grown f g
grown_same f g e = record { files = λ i x h. subst (λ (a : Asked). slice_get a.known i ≡ Some x) e h; sources = λ i x h. subst (λ (a : Asked). slice_get a.sources i ≡ Some x) e h }

pub grown_more : (f g h : Full) → Grown f g → Grown g h → Grown f h
grown_more f g h p q = record { files = λ i x e. q.files i x (p.files i x e); sources = λ i x e. q.sources i x (p.sources i x e) }

pub has_grown : (c : Within) (f g : Full) → Has c f → Grown f g → Has c g
has_grown c f g h p = record { file = h.file; is_file = p.files c.number h.file h.is_file; unclosed = h.unclosed; is_source = p.sources c.number c.source h.is_source }

-- what was asked for stays where another file is asked for
pub asked_grows : (shelf : Shelf) (w : Words) (name : List ℕ) (st st' : Joining) (a a' : Asked) (r : Result ℕ Stopped) → asked shelf w name a ≡ (a', r)
    → Grown (record { state = st; asked = a }) (record { state = st'; asked = a' })
asked_grows shelf w name st st' a a' r e = by (number_of a.sources name) e
  where
    longer : (bytes : List ℕ) (x : Result File (Code × Place)) (b : Asked) → b.known ≡ a.known → b.sources ≡ a.sources ++ record { name = name; bytes = bytes } ∷ []
        → lexed_by b (length a.sources) x ≡ (a', r) → Grown (record { state = st; asked = a }) (record { state = st'; asked = a' })
    longer bytes (Err y) b k s e = let same : b ≡ a' = ap (λ (p : Asked × Result ℕ Stopped). p.0) e in
        subst (λ z. Grown (record { state = st; asked = a }) (record { state = st'; asked = z })) same (record {
          files = λ i x h. ap (λ l. slice_get l i) k ∙ h;
          sources = λ i x h. ap (λ l. slice_get l i) s ∙ get_kept a.sources _ i x h;
        })
    longer bytes (Ok y) b k s e = let same : record { known = b.known ++ y ∷ []; sources = b.sources; names = b.names } ≡ a' = ap (λ (p : Asked × Result ℕ Stopped). p.0) e in
        subst (λ z. Grown (record { state = st; asked = a }) (record { state = st'; asked = z })) same (record {
          files = λ i x h. get_kept b.known (y ∷ []) i x (ap (λ l. slice_get l i) k ∙ h);
          sources = λ i x h. ap (λ l. slice_get l i) s ∙ get_kept a.sources _ i x h;
        })

    held : (o : Option (List ℕ)) → read_by shelf w name a o ≡ (a', r) → Grown (record { state = st; asked = a }) (record { state = st'; asked = a' })
    held None e = grown_same _ _ (ap (λ (p : Asked × Result ℕ Stopped). p.0) e)
    held (Some bytes) e = longer bytes (file_of (names_read a.names bytes) w (length a.sources) bytes) (record { known = a.known; sources = a.sources ++ record { name = name; bytes = bytes } ∷ []; names = names_read a.names bytes }) refl refl e

    by : (o : Option ℕ) → asked_by shelf w name a o ≡ (a', r) → Grown (record { state = st; asked = a }) (record { state = st'; asked = a' })
    by (Some n) e = grown_same _ _ (ap (λ (p : Asked × Result ℕ Stopped). p.0) e)
    by None e = held (shelf name) e

pub included_grows : (shelf : Shelf) (w : Words) (below : ℕ) (hash : Place) (name : List ℕ) (f g : Full) (r : Result (Option ℕ) Stopped) → file_included shelf w below hash name f ≡ (g, r) → Grown f g
included_grows shelf w below hash name f g r e = by (admitted f.asked.sources below hash name f.state) e
  where
    answer_of : {A : Type 0} → Full × Result A Stopped → Full
    answer_of p = p.0

    number : (st : Joining) (p : Asked × Result ℕ Stopped) (n : List ℕ) → asked shelf w n f.asked ≡ p → number_asked (record { state = st; asked = f.asked }) p ≡ (g, r) → Grown f g
    number st (a, Ok n) m q e = subst (Grown f) (ap (λ (x : Full × Result (Option ℕ) Stopped). x.0) e) (asked_grows shelf w m f.state st f.asked a (Ok n) q)
    number st (a, Err h) m q e = subst (Grown f) (ap (λ (x : Full × Result (Option ℕ) Stopped). x.0) e) (asked_grows shelf w m f.state st f.asked a (Err h) q)

    text : (st : Joining) (o : Option (List ℕ)) → text_asked shelf w hash (record { state = st; asked = f.asked }) o ≡ (g, r) → Grown f g
    text st None e = grown_same f g (ap (λ (x : Full × Result (Option ℕ) Stopped). x.0.asked) e)
    text st (Some n) e = number st (asked shelf w n f.asked) n refl e

    by : (p : Joining × Result Bool Stopped) → admitted_asked shelf w hash name (record { state = p.0; asked = f.asked }) p.1 ≡ (g, r) → Grown f g
    by (st, Err h) e = grown_same f g (ap (λ (x : Full × Result (Option ℕ) Stopped). x.0.asked) e)
    by (st, Ok false) e = grown_same f g (ap (λ (x : Full × Result (Option ℕ) Stopped). x.0.asked) e)
    by (st, Ok true) e = text st (text_if name) e

changes_asked : (c : Within) (t : Token) (d : Directive) (rest : List Token) (f g : Full) → Changes c t d rest f g → f.asked ≡ g.asked
changes_asked c t d rest f g (defines e) = refl
changes_asked c t d rest f g (undefines e) = refl
changes_asked c t d rest f g (marks_once e) = refl

changes_active : (c : Within) (t : Token) (d : Directive) (rest : List Token) (f g : Full) (ss : List Side) → Changes c t d rest f g
    → active_line c.words c.number c.unclosed d t rest (record { state = f.state; sides = ss }) ≡ (record { state = g.state; sides = ss }, Ok false)
changes_active c t d rest f g ss (defines e) = rw e refl
changes_active c t d rest f g ss (undefines e) = rw e refl
changes_active c t d rest f g ss (marks_once e) = rw e refl

pub live_first : (ss : List Side) → is_live ss ≡ true → is_live (opened true ss) ≡ true
live_first ss live = rw live refl

pub dead_first : (ss : List Side) → is_live ss ≡ true → is_live (opened false ss) ≡ false
dead_first ss live = rw live refl

pub live_second : (ss : List Side) → is_live ss ≡ true → is_live (second_of (is_live ss) true ss) ≡ true
live_second ss live = rw live refl

pub not_second : (ss : List Side) → is_live ss ≡ true → is_live (second_of (is_live ss) false ss) ≡ false
not_second ss live = rw live refl

pub active_turns : (c : Within) (t : Token) (st : Joining) (ss : List Side) → is_live ss ≡ true
    → active_line c.words c.number c.unclosed directive.Else t [] (record { state = st; sides = opened true ss }) ≡ (record { state = st; sides = second_of (is_live ss) false ss }, Ok false)
active_turns c t st ss live = rw live refl

pub active_closes : (c : Within) (t : Token) (st : Joining) (s : Side) (ss : List Side) → is_live (s ∷ ss) ≡ true
    → active_line c.words c.number c.unclosed directive.Endif t [] (record { state = st; sides = s ∷ ss }) ≡ (record { state = st; sides = ss }, Ok false)
active_closes c t st s ss live = rw live refl

-- all of a file
pub whole_file : (shelf : Shelf) (w : Words) (below n : ℕ) (g h : Full) (file : File) (source : Source) → slice_get g.asked.known n ≡ Some file
    → walk (record { shelf = shelf; words = w; number = n; source = source; unclosed = file.unclosed; below = below }) file.tokens (in_file [] g)
    ≡ walk (record { shelf = shelf; words = w; number = n; source = source; unclosed = file.unclosed; below = below }) [] (in_file [] h)
    → file_walked shelf w (suc below) n g ≡ (h, Ok tt)
unfolding file_walked walk_behind
whole_file shelf w below n g h file source is_file walked = ap (λ l. walk_behind (file_walked shelf w below) shelf w n below 0 l (in_file [] g)) (ap tokens_at is_file) ∙ walked

-- Parts that are joined are what the walk over them does.
pub record Walks (c : Within) (ss : List Side) (from to : List Token) (f g : Full) : Type 0 where
  pub grown : Grown f g
  pub walked : walk c from (in_file ss f) ≡ walk c to (in_file ss g)

pub joins_walk : (c : Within) (f g : Full) (ss : List Side) {from to : List Token} → Joins c from to f g → Has c f → is_live ss ≡ true → Walks c ss from to f g
joins_walk c f g ss no_part has live = record { grown = grown_same f f refl; walked = refl }
joins_walk c f g ss (one_token {t = t} {ts = ts} {o = o} hash end taken after) has live =
    let grown = grown_same f (with_out f o) refl in
    let rest = joins_walk c (with_out f o) g ss after (has_grown c f (with_out f o) has grown) live in
    record { grown = grown_more f (with_out f o) g grown rest.grown; walked = walk_token c t ts _ _ (live_token c f ss t ts o has live hash end taken) ∙ rest.walked }
joins_walk c f g ss (one_end {t = t} {ts = ts} hash end after) has live =
    let rest = joins_walk c f g ss after has live in
    record { grown = rest.grown; walked = walk_token c t ts _ _ (live_end c f ss t ts has live hash end) ∙ rest.walked }
joins_walk c f h ss (one_line {t = t} {ts = ts} {rest = line_rest} {d = d} {g = g} hash line change after) has live =
    let grown = grown_same f g (changes_asked c t d line_rest f g change) in
    let rest = joins_walk c g h ss after (has_grown c f g has grown) live in
    let step_is = live_line c f ss t ts d line_rest (record { state = g.state; sides = ss }) has live hash line (changes_active c t d line_rest f g ss change) in
    record {
      grown = grown_more f g h grown rest.grown;
      walked = walk_line c t ts _ _ step_is ∙ ap (λ a. walk c (behind_line ts) (record { state = g.state; asked = a; sides = ss })) (changes_asked c t d line_rest f g change) ∙ rest.walked;
    }
joins_walk c f g ss (own_header {t = t} {ts = ts} {rest = line_rest} hash line own after) has live =
    let rest = joins_walk c f g ss after has live in
    record { grown = rest.grown; walked = walk_line c t ts _ _ (live_own c f ss t ts line_rest has live hash line own) ∙ rest.walked }
joins_walk c f h ss (included_once {t = t} {ts = ts} {rest = line_rest} {name = name} {g = g} hash line wanted included after) has live =
    let grown = included_grows c.shelf c.words c.below t.place name f g (Ok None) included in
    let rest = joins_walk c g h ss after (has_grown c f g has grown) live in
    record { grown = grown_more f g h grown rest.grown; walked = walk_line c t ts _ _ (live_include c f g ss t ts line_rest name None has live hash line wanted included) ∙ rest.walked }
joins_walk c f k ss (one_file {t = t} {ts = ts} {rest = line_rest} {name = name} {n = n} {below = below} {file = file} {source = source} {g = g} {h = h} hash line wanted included level is_file is_source inner after) has live =
    let grown = included_grows c.shelf c.words c.below t.place name f g (Ok (Some n)) included in
    let d : Within = record { shelf = c.shelf; words = c.words; number = n; source = source; unclosed = file.unclosed; below = below } in
    let deep = joins_walk d g h [] inner (record { file = file; is_file = is_file; unclosed = refl; is_source = is_source }) refl in
    let grown2 = grown_more f g h grown deep.grown in
    let rest = joins_walk c h k ss after (has_grown c f h has grown2) live in
    let gone : file_walked c.shelf c.words c.below n g ≡ (h, Ok tt) = ap (λ b. file_walked c.shelf c.words b n g) level ∙ whole_file c.shelf c.words below n g h file source is_file deep.walked in
    record { grown = grown_more f h k grown2 rest.grown; walked = walk_inside c t ts ss _ g h n (live_include c f g ss t ts line_rest name (Some n) has live hash line wanted included) gone ∙ rest.walked }
joins_walk c f h ss (first_side {t = t} {e = e} {ts = ts} {es = es} {g = g} begins inner ends after) has live =
    let within = live_first ss live in
    let one = joins_walk c f g (opened true ss) inner has within in
    let has1 = has_grown c f g has one.grown in
    let rest = joins_walk c g h ss after has1 live in
    record {
      grown = grown_more f g h one.grown rest.grown;
      walked = walk_line c t ts _ _ (live_line c f ss t ts begins.d (begins.name ∷ []) _ has live begins.hash begins.line (begin_active c f ss t ts true begins))
          ∙ one.walked
          ∙ walk_line c e es _ _ (live_line c g (opened true ss) e es directive.Endif [] _ has1 within ends.hash ends.line (active_closes c e g.state (record { outer = is_live ss; taken = true; other = false }) ss within))
          ∙ rest.walked;
    }
joins_walk c f h ss (first_not_second {t = t} {e = e} {u = u} {ts = ts} {es = es} {us = us} {g = g} begins inner turns other ends after) has live =
    let within = live_first ss live in
    let behind = not_second ss live in
    let one = joins_walk c f g (opened true ss) inner has within in
    let has1 = has_grown c f g has one.grown in
    let rest = joins_walk c g h ss after has1 live in
    record {
      grown = grown_more f g h one.grown rest.grown;
      walked = walk_line c t ts _ _ (live_line c f ss t ts begins.d (begins.name ∷ []) _ has live begins.hash begins.line (begin_active c f ss t ts true begins))
          ∙ one.walked
          ∙ walk_line c e es _ _ (live_line c g (opened true ss) e es directive.Else [] _ has1 within turns.hash turns.line (active_turns c e g.state ss live))
          ∙ left_out c g (second_of (is_live ss) false ss) other has1 behind
          ∙ walk_line c u us _ _ (idle_step c g (second_of (is_live ss) false ss) ss u us directive.Endif ends.rest has1 behind ends.hash ends.line (idle_closes u ends.rest (record { outer = is_live ss; taken = false; other = true }) ss behind))
          ∙ rest.walked;
    }
joins_walk c f g ss (neither_side {t = t} {e = e} {ts = ts} {es = es} begins inner ends after) has live =
    let within = dead_first ss live in
    let rest = joins_walk c f g ss after has live in
    record {
      grown = rest.grown;
      walked = walk_line c t ts _ _ (live_line c f ss t ts begins.d (begins.name ∷ []) _ has live begins.hash begins.line (begin_active c f ss t ts false begins))
          ∙ left_out c f (opened false ss) inner has within
          ∙ walk_line c e es _ _ (idle_step c f (opened false ss) ss e es directive.Endif ends.rest has within ends.hash ends.line (idle_closes e ends.rest (record { outer = is_live ss; taken = false; other = false }) ss within))
          ∙ rest.walked;
    }
joins_walk c f h ss (second_side {t = t} {e = e} {u = u} {ts = ts} {es = es} {us = us} {g = g} begins inner turns other ends after) has live =
    let within = dead_first ss live in
    let behind = live_second ss live in
    let one = joins_walk c f g (second_of (is_live ss) true ss) other has behind in
    let has1 = has_grown c f g has one.grown in
    let rest = joins_walk c g h ss after has1 live in
    record {
      grown = grown_more f g h one.grown rest.grown;
      walked = walk_line c t ts _ _ (live_line c f ss t ts begins.d (begins.name ∷ []) _ has live begins.hash begins.line (begin_active c f ss t ts false begins))
          ∙ left_out c f (opened false ss) inner has within
          ∙ walk_line c e es _ _ (idle_step c f (opened false ss) (second_of (is_live ss) true ss) e es directive.Else turns.rest has within turns.hash turns.line (idle_turns e turns.rest ss within))
          ∙ one.walked
          ∙ walk_line c u us _ _ (live_line c g (second_of (is_live ss) true ss) u us directive.Endif [] _ has1 behind ends.hash ends.line (active_closes c u g.state (record { outer = is_live ss; taken = true; other = true }) ss behind))
          ∙ rest.walked;
    }

pub file_joins : (shelf : Shelf) (w : Words) (below n : ℕ) (f g : Full) → JoinsFile shelf w below n f g → file_walked shelf w (suc below) n f ≡ (g, Ok tt)
file_joins shelf w below n f g j =
    let c : Within = record { shelf = shelf; words = w; number = n; source = j.source; unclosed = j.file.unclosed; below = below } in
    let walked = joins_walk c f g [] j.joins (record { file = j.file; is_file = j.is_file; unclosed = refl; is_source = j.is_source }) refl in
    whole_file shelf w below n f g j.file j.source j.is_file walked.walked

pub roots_join : (shelf : Shelf) (w : Words) (roots : List (List ℕ)) (before last : ℕ) (f h : Full) → JoinsRoots shelf w roots before f last h → roots_joined shelf w roots before f ≡ (h, Ok last)
roots_join shelf w [] before last f h no_root = refl
roots_join shelf w (name ∷ names) before last f h (one_root {n = n} {a = a} {g = g} named file after) =
    let one : root_joined shelf w name f ≡ (g, Ok n) = ap (asked_walked shelf w f) named ∙ ap (number_after n) (file_joins shelf w 15 n (record f { asked = a }) g file) in
    ap (λ (r : Full × Result ℕ Stopped). then_by r.1 r.0 (λ k y. roots_joined shelf w names k y)) one ∙ roots_join shelf w names n last g h after

pub joins_whole : (shelf : Shelf) (before roots names : List (List ℕ)) (sources : List Source) (j : Joined) → JoinsTo shelf before roots names sources j → join_of shelf before roots ≡ (names, sources, Ok j)
unfolding join_of
joins_whole shelf before roots names sources j x =
    let w = words_in (with_names before word_texts) in
    ap roots_finished (roots_join shelf w roots 0 x.last _ _ x.joins) ∙ ap (λ r. (names, sources, r)) x.ends
