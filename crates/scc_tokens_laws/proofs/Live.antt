-- Each file has a derivation: its parts are joined, or there is a first fault among them.
use Rattle.std.proofs.Common.{◌≡◌, ◌<◌, ◌≤◌, ℕ, suc, ◌-◌, List, [], ◌∷◌, length, true, false, Option, Some, None, Result, Ok, Err, slice_get, refl, sym, ◌∙◌, arith}
use Rattle.scc_tokens_directives.specs.Define.{defined, undefined, with_once}
use Rattle.scc_tokens_laws.specs.Faulted.{no_form, bad_define, bad_undef, bad_once, bad_include, not_included, Turns, Stops, at_token, at_line, within_file, file_turns, within_first, first_trails, within_left_second, second_else, within_left_first, within_second, third_side, second_trails}
use Rattle.scc_tokens_directives.specs.File.{is_hash, first_unclosed}
use Rattle.scc_tokens_laws.specs.Joined.{behind_line, directive_at, Plain, plain_include, plain_define, plain_undef, plain_pragma, plain_unknown, Within, with_macros, with_onces, defines, undefines, marks_once, Joins, no_part, one_token, one_end, one_line, own_header, included_once, one_file, first_side, first_not_second, neither_side, second_side}
use Rattle.scc_tokens_directives.specs.Macros.{Table}
use Rattle.scc_tokens_directives.specs.Steps.{Stopped, Step}
use Rattle.scc_tokens.specs.Walk.{Full, file_included, wanted_name}
use Rattle.scc_tokens_directives.specs.declared.directive.Directive.{Directive}
use Rattle.scc_tokens_directives.specs.declared.directive.Directive.TheVariants as directive
use Rattle.scc_tokens_directives.specs.declared.file.File.{File}
use Rattle.scc_tokens_directives.specs.declared.file.Source.{Source}
use Rattle.scc_tokens_lexer.specs.declared.token.Token.{Token}
use Rattle.scc_tokens_laws.proofs.Counting.{same_line}
use Rattle.scc_tokens_laws.proofs.Deriving.{Has, has_grown, grown_same, grown_more, included_grows, joins_walk}
use Rattle.scc_tokens_laws.proofs.Known.{Ready, get_some, included_ready}
use Rattle.scc_tokens_laws.proofs.Tidy.{Orderly}
use Rattle.scc_tokens_laws.proofs.Total.{behind_shorter, left_shorter}

pub joins_then : {c : Within} {f g h : Full} {a b d : List Token} → Joins c a b f g → Joins c b d g h → Joins c a d f h
joins_then no_part q = q
joins_then (one_token e l x after) q = one_token e l x (joins_then after q)
joins_then (one_end e l after) q = one_end e l (joins_then after q)
joins_then (one_line e l x after) q = one_line e l x (joins_then after q)
joins_then (own_header e l x after) q = own_header e l x (joins_then after q)
joins_then (included_once e l x y after) q = included_once e l x y (joins_then after q)
joins_then (one_file e l x y z i j k after) q = one_file e l x y z i j k (joins_then after q)
joins_then (first_side x i e after) q = first_side x i e (joins_then after q)
joins_then (first_not_second x i t o e after) q = first_not_second x i t o e (joins_then after q)
joins_then (neither_side x i e after) q = neither_side x i e (joins_then after q)
joins_then (second_side x i t o e after) q = second_side x i t o e (joins_then after q)

stops_then : {c : Within} {f g k : Full} {h : Stopped} {a b : List Token} → Joins c a b f g → Stops c b g k h → Stops c a f k h
stops_then p (at_token before e l x) = at_token (joins_then p before) e l x
stops_then p (at_line before e l x) = at_line (joins_then p before) e l x
stops_then p (within_file before e l x y z i j s) = within_file (joins_then p before) e l x y z i j s
stops_then p (file_turns before e l x y z i j s t) = file_turns (joins_then p before) e l x y z i j s t
stops_then p (within_first before x s) = within_first (joins_then p before) x s
stops_then p (first_trails before x i t m) = first_trails (joins_then p before) x i t m
stops_then p (within_left_second before x i t s) = within_left_second (joins_then p before) x i t s
stops_then p (second_else before x i t o s) = second_else (joins_then p before) x i t o s
stops_then p (within_left_first before x s) = within_left_first (joins_then p before) x s
stops_then p (within_second before x i t s) = within_second (joins_then p before) x i t s
stops_then p (third_side before x i t o s) = third_side (joins_then p before) x i t o s
stops_then p (second_trails before x i t o e m) = second_trails (joins_then p before) x i t o e m

pub joins_shorter : {c : Within} {f g : Full} {from to : List Token} → Joins c from to f g → length to ≤ length from
joins_shorter no_part = omega arith
joins_shorter (one_token e l x after) = let r = joins_shorter after in omega arith
joins_shorter (one_end e l after) = let r = joins_shorter after in omega arith
joins_shorter (one_line {ts = ts} e l x after) = let r = joins_shorter after in let s = behind_shorter ts in omega arith
joins_shorter (own_header {ts = ts} e l x after) = let r = joins_shorter after in let s = behind_shorter ts in omega arith
joins_shorter (included_once {ts = ts} e l x y after) = let r = joins_shorter after in let s = behind_shorter ts in omega arith
joins_shorter (one_file {ts = ts} e l x y z i j k after) = let r = joins_shorter after in let s = behind_shorter ts in omega arith
joins_shorter (first_side {ts = ts} {es = es} x i e after) =
    let r = joins_shorter after in let s = behind_shorter ts in let a = joins_shorter i in let b = behind_shorter es in omega arith
joins_shorter {c} (first_not_second {ts = ts} {es = es} {us = us} x i t o e after) =
    let r = joins_shorter after in let s = behind_shorter ts in let a = joins_shorter i in let b = behind_shorter es in let d = left_shorter c.words o in let k = behind_shorter us in omega arith
joins_shorter {c} (neither_side {ts = ts} {es = es} x i e after) =
    let r = joins_shorter after in let s = behind_shorter ts in let a = left_shorter c.words i in let b = behind_shorter es in omega arith
joins_shorter {c} (second_side {ts = ts} {es = es} {us = us} x i t o e after) =
    let r = joins_shorter after in let s = behind_shorter ts in let a = left_shorter c.words i in let b = behind_shorter es in let d = joins_shorter o in let k = behind_shorter us in omega arith

-- all of a file, or of a side of a conditional and what stands behind it
pub data JoinsAll (c : Within) (from : List Token) (f : Full) : Type 0 where
  joins_turn : {e : Token} {es : List Token} {g : Full} → Joins c from (e ∷ es) f g → Turns c.words e es → Ready c.words g.asked → Has c g → JoinsAll c from f
  joins_end : {g : Full} → Joins c from [] f g → Ready c.words g.asked → JoinsAll c from f
  joins_stop : {g : Full} {h : Stopped} → Stops c from f g h → JoinsAll c from f

pub joins_behind : (c : Within) (f g : Full) {a b : List Token} → Joins c a b f g → JoinsAll c b g → JoinsAll c a f
joins_behind c f g p (joins_turn q t r h) = joins_turn (joins_then p q) t r h
joins_behind c f g p (joins_end q r) = joins_end (joins_then p q) r
joins_behind c f g p (joins_stop s) = joins_stop (stops_then p s)

-- what is known where parts begin
pub record Here (c : Within) (ts : List Token) (f : Full) : Type 0 where
  pub low : ℕ
  pub orderly : Orderly false low ts
  pub unclosed : c.unclosed ≡ first_unclosed c.words ts
  pub ready : Ready c.words f.asked
  pub has : Has c f

abbrev pub Derives : ℕ → ℕ → Type 0
Derives b k = (c : Within) → c.below ≡ b → (ts : List Token) (f : Full) → length ts ≤ k → Here c ts f → JoinsAll c ts f

-- the files of one level less
abbrev pub Deeper : ℕ → Type 0
Deeper b = (b' : ℕ) → b ≡ suc b' → (k : ℕ) → Derives b' k

-- a line that changes macros or says that its file is included once
pub plain_line : (b k : ℕ) → Deeper b → Derives b k → (c : Within) → c.below ≡ b → (t : Token) (ts : List Token) (f : Full) → length ts ≤ k → Here c (t ∷ ts) f → is_hash t.kind ≡ true
    → (d : Directive) (rest : List Token) → directive_at c.words ts ≡ (d, rest) → Plain d → JoinsAll c (t ∷ ts) f
plain_line b k deeper derive c level t ts f short here h d rest line plain = by d plain line
  where
    next : (d : Directive) (g : Full) → directive_at c.words ts ≡ (d, rest) → Plain d → Ready c.words g.asked → Has c g → JoinsAll c (behind_line ts) g
    next d g line plain ready has =
        let p = same_line c.words here.low t ts d rest h line plain here.orderly in
        let s = behind_shorter ts in
        derive c level (behind_line ts) g (omega arith) (record { low = p.low; orderly = p.orderly; unclosed = here.unclosed ∙ p.unclosed; ready = ready; has = has })

    define_by : (s : Step Table) → directive_at c.words ts ≡ (directive.Define, rest) → defined t rest f.state.macros ≡ s → JoinsAll c (t ∷ ts) f
    define_by (m, None) line e = joins_behind c f (with_macros f m) (one_line h line (defines e) no_part) (next directive.Define (with_macros f m) line plain_define here.ready (has_grown c f (with_macros f m) here.has (grown_same f (with_macros f m) refl)))
    define_by (m, Some x) line e = joins_stop (at_line no_part h line (bad_define e))

    undef_by : (s : Step Table) → directive_at c.words ts ≡ (directive.Undef, rest) → undefined t rest f.state.macros ≡ s → JoinsAll c (t ∷ ts) f
    undef_by (m, None) line e = joins_behind c f (with_macros f m) (one_line h line (undefines e) no_part) (next directive.Undef (with_macros f m) line plain_undef here.ready (has_grown c f (with_macros f m) here.has (grown_same f (with_macros f m) refl)))
    undef_by (m, Some x) line e = joins_stop (at_line no_part h line (bad_undef e))

    once_by : (s : Step (List ℕ)) → directive_at c.words ts ≡ (directive.Pragma, rest) → with_once c.words c.number t rest f.state.once ≡ s → JoinsAll c (t ∷ ts) f
    once_by (l, None) line e = joins_behind c f (with_onces f l) (one_line h line (marks_once e) no_part) (next directive.Pragma (with_onces f l) line plain_pragma here.ready (has_grown c f (with_onces f l) here.has (grown_same f (with_onces f l) refl)))
    once_by (l, Some x) line e = joins_stop (at_line no_part h line (bad_once e))

    inner : (name : List ℕ) (g : Full) (n : ℕ) (level_is : (0 < c.below)) → n < length g.asked.known → directive_at c.words ts ≡ (directive.Include, rest) → wanted_name c.words c.source t rest ≡ Ok (Some name)
        → file_included c.shelf c.words c.below t.place name f ≡ (g, Ok (Some n)) → Ready c.words g.asked → JoinsAll c (t ∷ ts) f
    inner name g n deep within line wanted included ready =
        let even = ready.even in
        let file = get_some g.asked.known n within in
        let source = get_some g.asked.sources n (omega arith) in
        let good = ready.good n file.item file.is in
        let one : c.below ≡ suc (c.below - 1) = omega arith in
        let d : Within = record { shelf = c.shelf; words = c.words; number = n; source = source.item; unclosed = file.item.unclosed; below = c.below - 1 } in
        let all = deeper (c.below - 1) (sym level ∙ one) (length file.item.tokens) d refl file.item.tokens g (omega arith)
        (record { low = 0; orderly = good.orderly; unclosed = good.unclosed_is; ready = ready; has = record { file = file.item; is_file = file.is; unclosed = refl; is_source = source.is } }) in
        found file.item source.item file.is source.is one all
      where
        found : (file : File) (source : Source) → slice_get g.asked.known n ≡ Some file → slice_get g.asked.sources n ≡ Some source → c.below ≡ suc (c.below - 1)
            → JoinsAll (record { shelf = c.shelf; words = c.words; number = n; source = source; unclosed = file.unclosed; below = c.below - 1 }) file.tokens g → JoinsAll c (t ∷ ts) f
        found file source is_file is_source one (joins_stop s) = joins_stop (within_file no_part h line wanted included one is_file is_source s)
        found file source is_file is_source one (joins_turn q turns r x) = joins_stop (file_turns no_part h line wanted included one is_file is_source q turns)
        found file source is_file is_source one (joins_end {g = k} q r) =
            joins_behind c f k (one_file h line wanted included one is_file is_source q no_part)
            (next directive.Include k line plain_include r (has_grown c f k here.has (grown_more f g k (included_grows c.shelf c.words c.below t.place name f g (Ok (Some n)) included)
            (joins_walk (record { shelf = c.shelf; words = c.words; number = n; source = source; unclosed = file.unclosed; below = c.below - 1 }) g k [] q
            (record { file = file; is_file = is_file; unclosed = refl; is_source = is_source }) refl).grown)))

    include_by : (r : Result (Option (List ℕ)) Stopped) → directive_at c.words ts ≡ (directive.Include, rest) → wanted_name c.words c.source t rest ≡ r → JoinsAll c (t ∷ ts) f
    include_by (Err x) line e = joins_stop (at_line no_part h line (bad_include e))
    include_by (Ok None) line e = joins_behind c f f (own_header h line e no_part) (next directive.Include f line plain_include here.ready here.has)
    include_by (Ok (Some name)) line e = ask (file_included c.shelf c.words c.below t.place name f) refl
      where
        ask : (p : Full × Result (Option ℕ) Stopped) → file_included c.shelf c.words c.below t.place name f ≡ p → JoinsAll c (t ∷ ts) f
        ask (g, Err x) q = joins_stop (at_line no_part h line (not_included e q))
        ask (g, Ok None) q =
            let r = included_ready c.shelf c.words c.below t.place name f g None q here.ready in
            joins_behind c f g (included_once h line e q no_part) (next directive.Include g line plain_include r.ready (has_grown c f g here.has (included_grows c.shelf c.words c.below t.place name f g (Ok None) q)))
        ask (g, Ok (Some n)) q =
            let r = included_ready c.shelf c.words c.below t.place name f g (Some n) q here.ready in
            let x = r.inside n refl in
            inner name g n x.1 x.0 line e q r.ready

    by : (d : Directive) → Plain d → directive_at c.words ts ≡ (d, rest) → JoinsAll c (t ∷ ts) f
    by d plain_define line = define_by (defined t rest f.state.macros) line refl
    by d plain_undef line = undef_by (undefined t rest f.state.macros) line refl
    by d plain_pragma line = once_by (with_once c.words c.number t rest f.state.once) line refl
    by d plain_include line = include_by (wanted_name c.words c.source t rest) line refl
    by d plain_unknown line = joins_stop (at_line no_part h line no_form)
