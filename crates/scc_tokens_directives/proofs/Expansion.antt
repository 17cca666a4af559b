-- What is left of the expansions, token by token.
use Rattle.std.proofs.Common.{◌≡◌, ◌<◌, ◌≤◌, ℕ, zero, suc, ◌+◌, ◌-◌, ◌*◌, List, [], ◌∷◌, ◌++◌, length, drop, reverse, Bool, true, false, cond, ◌||◌, ◌==◌, nat_eq, Option, Some, None, Err, is_some, slice_get, unwrap_or, refl, sym, ap, subst, ◌∙◌, append_assoc, append-nil, arith}
use Rattle.std.specs.List.{list_any}
use Rattle.std.proofs.Math.Nat.{suc-mul}
use Rattle.std.proofs.lemmas.List.{reverse-append}
use Rattle.std.proofs.lemmas.Option.{slice_get_within}
use Rattle.std.specs.Map.{lookup}
use Rattle.scc_base.specs.declared.refusal.Place.{Place}
use Rattle.scc_tokens_directives.specs.declared.frames.Frame.{Frame}
use Rattle.scc_tokens_directives.specs.declared.halt.Halt.{Halt}
use Rattle.scc_tokens_directives.specs.declared.halt.Halt.TheVariants as halt
use Rattle.scc_tokens_directives.specs.declared.out.Out.{Out}
use Rattle.scc_tokens_lexer.specs.declared.token.Token.{Token}
use Rattle.scc_tokens_lexer.specs.declared.token.TokenKind.{TokenKind}
use Rattle.scc_tokens_lexer.specs.declared.token.TokenKind.TheVariants as kind
use Rattle.scc_tokens_directives.specs.Expand.{names_of, is_hidden, body_of, used_kind, remaining, moved, frames_with, frames_at, frames_behind, out_with, out_at, out_behind, uses_with, uses_at, uses_behind, popped}
use Rattle.scc_tokens_directives.specs.Macros.{Table, macro_of, flat, Event, Use, Put, placed, use_events, kind_events, token_events, events, take_events, expanded}
use Rattle.scc_tokens_directives.specs.Out.{counted}
use Rattle.scc_tokens_directives.specs.Steps.{Step, after, Does}

pub any_append : {A : Type 0} (p : A → Bool) (xs ys : List A) → list_any p (xs ++ ys) ≡ (list_any p xs || list_any p ys)
any_append p [] ys = refl
any_append p (x ∷ xs) ys = ap (λ b. p x || b) (any_append p xs ys) ∙ or_assoc (p x) (list_any p xs) (list_any p ys)
  where
    or_assoc : (a b c : Bool) → (a || (b || c)) ≡ ((a || b) || c)
    or_assoc true b c = refl
    or_assoc false b c = refl

-- the tokens of all macros
abbrev pub tokens_in : Option (List Token) → ℕ
tokens_in None = 0
tokens_in (Some ts) = length ts

abbrev pub total : Table → ℕ
total [] = 0
total (e ∷ es) = tokens_in e.1 + total es

-- the tokens that are left of the expansions, and one more for each
abbrev pub work : Table → List Frame → ℕ
work table [] = 0
work table (f ∷ fs) = (length (body_of table f.name) - f.at + 1) + work table fs

pub any_reverse : {A : Type 0} (p : A → Bool) (xs : List A) → list_any p (reverse xs) ≡ list_any p xs
any_reverse p [] = refl
any_reverse p (x ∷ xs) =
    ap (list_any p) (reverse-append (x ∷ []) xs) ∙ any_append p (reverse xs) (x ∷ []) ∙ ap (λ b. b || (p x || false)) (any_reverse p xs) ∙ turn (list_any p xs) (p x)
  where
    turn : (a b : Bool) → (a || (b || false)) ≡ (b || a)
    turn true true = refl
    turn true false = refl
    turn false true = refl
    turn false false = refl

any_names : (n : ℕ) (fs : List Frame) → list_any (nat_eq n) (names_of fs) ≡ is_hidden n fs
any_names n [] = refl
any_names n (f ∷ fs) = ap (λ b. n == f.name || b) (any_names n fs)

events_nil : (k : ℕ) (table : Table) (h : List ℕ) (place : Place) → events k table h place [] ≡ []
unfolding events
events_nil zero table h place = refl
events_nil (suc k) table h place = refl

events_more : (k : ℕ) (table : Table) (h : List ℕ) (place : Place) (t : Token) (ts : List Token)
    → events (suc k) table h place (t ∷ ts) ≡ token_events (λ n body. events k table (n ∷ h) place body) table h place t ++ events (suc k) table h place ts
unfolding events
events_more k table h place t ts = refl

given_by : (ℕ → List Token → List Event) → Table → Place → Token → Option ℕ → List Event
given_by inner table place t None = Put (placed place t) ∷ []
given_by inner table place t (Some n) = Use ∷ inner n (body_of table n)

kind_given : (inner : ℕ → List Token → List Event) (table : Table) (fs : List Frame) (place : Place) (t : Token) (k : TokenKind)
    → kind_events inner table (names_of fs) place t k ≡ given_by inner table place t (used_kind table fs k)
unfolding given_by
kind_given inner table fs place t (kind.Ident n) =
    ap (λ b. use_events inner place t n.0 (cond b None (macro_of table n.0))) (any_names n.0 fs) ∙ by (is_hidden n.0 fs) (macro_of table n.0) refl
  where
    by : (h : Bool) (o : Option (List Token)) → macro_of table n.0 ≡ o
        → use_events inner place t n.0 (cond h None o) ≡ given_by inner table place t (cond h None (cond (is_some o) (Some n.0) None))
    by true o e = refl
    by false None e = refl
    by false (Some body) e = ap (λ b. Use ∷ inner n.0 (unwrap_or b [])) (sym e)
kind_given inner table fs place t (kind.Outside n) = refl
kind_given inner table fs place t (kind.Word i) = refl
kind_given inner table fs place t (kind.Mark i) = refl
kind_given inner table fs place t (kind.Number k w) = refl
kind_given inner table fs place t kind.BadNumber = refl
kind_given inner table fs place t kind.Text = refl
kind_given inner table fs place t kind.Character = refl
kind_given inner table fs place t kind.LineHash = refl
kind_given inner table fs place t kind.LineEnd = refl

drop_past : {A : Type 0} (xs : List A) (i : ℕ) → slice_get xs i ≡ None → drop i xs ≡ []
drop_past [] zero e = refl
drop_past [] (suc i) e = refl
drop_past (x ∷ xs) zero e = cc
drop_past (x ∷ xs) (suc i) e = drop_past xs i e

drop_here : {A : Type 0} (xs : List A) (i : ℕ) (x : A) → slice_get xs i ≡ Some x → drop i xs ≡ x ∷ drop (i + 1) xs
drop_here [] i x e = cc
drop_here (y ∷ ys) zero x e = let same : y ≡ x = cc in ap (λ z. z ∷ ys) same
drop_here (y ∷ ys) (suc i) x e = let n : suc i + 1 ≡ suc (i + 1) = omega arith in drop_here ys i x e ∙ ap (λ k. x ∷ drop k (y ∷ ys)) (sym n)

-- one token of the innermost expansion
pub remaining_next : (table : Table) (place : Place) (f : Frame) (fs : List Frame) (o : Out) → length fs < 262144
    → take_events place (remaining table place (f ∷ fs)) o
    ≡ after (out_behind table place f fs o).1 (out_behind table place f fs o).0 (λ p. take_events place (remaining table place (frames_behind table f fs)) p)
unfolding remaining given_by
remaining_next table place f fs o h = by (slice_get (body_of table f.name) f.at) refl
  where
    k : ℕ
    k = 262143 - length fs

    names : List ℕ
    names = names_of (f ∷ fs)

    rest : List Event
    rest = events (262144 - length fs) table names place (drop (f.at + 1) (body_of table f.name))

    inner : ℕ → List Token → List Event
    inner n body = events k table (n ∷ names) place body

    first : (t : Token) → slice_get (body_of table f.name) f.at ≡ Some t
        → events (262144 - length fs) table names place (drop f.at (body_of table f.name)) ≡ given_by inner table place t (used_kind table (moved f ∷ fs) t.kind) ++ rest
    first t e =
        let n : 262144 - length fs ≡ suc k = omega arith in
        ap (events (262144 - length fs) table names place) (drop_here (body_of table f.name) f.at t e)
        ∙ subst (λ m. events m table names place (t ∷ drop (f.at + 1) (body_of table f.name))
        ≡ given_by inner table place t (used_kind table (moved f ∷ fs) t.kind) ++ events m table names place (drop (f.at + 1) (body_of table f.name))) (sym n)
        (events_more k table names place t (drop (f.at + 1) (body_of table f.name))
        ∙ ap (λ l. l ++ events (suc k) table names place (drop (f.at + 1) (body_of table f.name))) (kind_given inner table (moved f ∷ fs) place t t.kind))

    with_use : (t : Token) (u : Option ℕ) → take_events place ((given_by inner table place t u ++ rest) ++ remaining table place fs) o
        ≡ after (out_with place t o u).1 (out_with place t o u).0 (λ p. take_events place (remaining table place (frames_with f fs u)) p)
    with_use t None = refl
    with_use t (Some n) =
        let deep : 262144 - length (moved f ∷ fs) ≡ k = omega arith in
        ap (λ l. take_events place (Use ∷ l) o) (append_assoc (inner n (body_of table n)) rest (remaining table place fs)
        ∙ ap (λ m. events m table (n ∷ names) place (body_of table n) ++ (rest ++ remaining table place fs)) (sym deep))

    by : (x : Option Token) → slice_get (body_of table f.name) f.at ≡ x
        → take_events place (remaining table place (f ∷ fs)) o
        ≡ after (out_at table place f fs o x).1 (out_at table place f fs o x).0 (λ p. take_events place (remaining table place (frames_at table f fs x)) p)
    by None e = ap (λ l. take_events place (l ++ remaining table place fs) o) (ap (events (262144 - length fs) table names place) (drop_past (body_of table f.name) f.at e) ∙ events_nil (262144 - length fs) table names place)
    by (Some t) e = ap (λ l. take_events place (l ++ remaining table place fs) o) (first t e) ∙ with_use t (used_kind table (moved f ∷ fs) t.kind)

body_within : (table : Table) (n : ℕ) → length (body_of table n) ≤ total table
body_within [] n = omega arith
body_within (e ∷ es) n = by (nat_eq n e.0) e.1 refl (body_within es n)
  where
    by : (b : Bool) (o : Option (List Token)) → e.1 ≡ o → length (body_of es n) ≤ total es → length (unwrap_or (flat (cond b (Some o) (lookup (nat_eq n) es))) []) ≤ tokens_in o + total es
    by true None h rest = omega arith
    by true (Some ts) h rest = omega arith
    by false o h rest = omega arith

-- the work that is left falls: a use of a macro is one of a number, and costs no more than all the macros' tokens
pub work_falls : (table : Table) (f : Frame) (fs frames after : List Frame) (u v : ℕ) → frames ≡ f ∷ fs → after ≡ frames_behind table f fs → v ≡ u + uses_behind table f fs → v ≤ 262144
    → (262144 - v) * (total table + 2) + work table after < (262144 - u) * (total table + 2) + work table frames
work_falls table f fs frames after u v e g h few =
    subst (λ l. (262144 - v) * (total table + 2) + work table after < (262144 - u) * (total table + 2) + work table l) (sym e)
    (subst (λ l. (262144 - v) * (total table + 2) + work table l < (262144 - u) * (total table + 2) + work table (f ∷ fs)) (sym g)
    (by (slice_get (body_of table f.name) f.at) refl h))
  where
    with_macro : (t : Token) (x : Option ℕ) → f.at < length (body_of table f.name) → v ≡ u + uses_with x
        → (262144 - v) * (total table + 2) + work table (frames_with f fs x) < (262144 - u) * (total table + 2) + work table (f ∷ fs)
    with_macro t None l k = let same : v ≡ u = omega arith in
        subst (λ w. (262144 - w) * (total table + 2) + work table (moved f ∷ fs) < (262144 - u) * (total table + 2) + work table (f ∷ fs)) (sym same) (omega arith)
    with_macro t (Some n) l k =
        let one : 262144 - u ≡ suc (262144 - v) = omega arith in
        let product = ap (λ w. w * (total table + 2)) one ∙ suc-mul (262144 - v) (total table + 2) in
        let body = body_within table n in
        omega arith

    by : (x : Option Token) → slice_get (body_of table f.name) f.at ≡ x → v ≡ u + uses_at table f fs x
        → (262144 - v) * (total table + 2) + work table (frames_at table f fs x) < (262144 - u) * (total table + 2) + work table (f ∷ fs)
    by None s k = let same : v ≡ u = omega arith in
        subst (λ w. (262144 - w) * (total table + 2) + work table fs < (262144 - u) * (total table + 2) + work table (f ∷ fs)) (sym same) (omega arith)
    by (Some t) s k = with_macro t (used_kind table (moved f ∷ fs) t.kind) (slice_get_within (body_of table f.name) f.at t s) k

pub popped_is : (frames : List Frame) (o : Option Frame) (fs : List Frame) (f : Frame) → (o, fs) ≡ popped frames → o ≡ Some f → frames ≡ f ∷ fs
popped_is [] o fs f e h = let none = ap (λ (x : Option Frame × List Frame). x.0) e in cc
popped_is (g ∷ gs) o fs f e h =
    let first = ap (λ (x : Option Frame × List Frame). x.0) e in
    let others = ap (λ (x : Option Frame × List Frame). x.1) e in
    cc

pub popped_none : (frames : List Frame) (o : Option Frame) (fs : List Frame) → (o, fs) ≡ popped frames → o ≡ None → frames ≡ []
popped_none [] o fs e h = refl
popped_none (g ∷ gs) o fs e h = let first = ap (λ (x : Option Frame × List Frame). x.0) e in cc

-- a step that stops is all that is done
pub does_after : {S : Type 0} (s : S) (e : Halt) (step : Step S) (f : S → Step S) → Does {A = Unit {0}} s (Err e) step → Does {A = Unit {0}} s (Err e) (after step.1 step.0 f)
does_after s (halt.Refused c p) step f h = ap (λ (x : Step _). after x.1 x.0 f) h
does_after s (halt.Missing n) step f h = h
does_after s (halt.Failed n) step f h = h
does_after s halt.NoMemory step f h = tt

pub begins : (table : Table) (place : Place) (n : ℕ) (o p : Out) (frames : List Frame) → counted o place ≡ (p, None) → frames ≡ record { name = n; at = 0 } ∷ []
    → take_events place (remaining table place frames) p ≡ expanded table place n (body_of table n) o
unfolding expanded remaining
begins table place n o p frames e f =
    ap (λ l. take_events place (remaining table place l) p) f
    ∙ ap (λ l. take_events place l p) (append-nil (events 262144 table (n ∷ []) place (body_of table n)))
    ∙ sym (ap (λ (x : Step Out). after x.1 x.0 (λ q. take_events place (events 262144 table (n ∷ []) place (body_of table n)) q)) e)

pub expanded_is : (table : Table) (place : Place) (n : ℕ) (o : Out)
    → expanded table place n (body_of table n) o ≡ after (counted o place).1 (counted o place).0 (λ q. take_events place (events 262144 table (n ∷ []) place (body_of table n)) q)
unfolding expanded
expanded_is table place n o = refl

pub ends : (table : Table) (place : Place) (frames : List Frame) (o : Out) (all : Step Out) → frames ≡ [] → take_events place (remaining table place frames) o ≡ all → all ≡ (o, None)
unfolding remaining
ends table place frames o all e h = sym h ∙ ap (λ l. take_events place (remaining table place l) o) e

pub goes_on : (table : Table) (place : Place) (frames after_frames : List Frame) (f : Frame) (fs : List Frame) (o p : Out) (all : Step Out) → length frames ≤ 262144 → frames ≡ f ∷ fs
    → after_frames ≡ frames_behind table f fs → out_behind table place f fs o ≡ (p, None) → take_events place (remaining table place frames) o ≡ all
    → take_events place (remaining table place after_frames) p ≡ all
goes_on table place frames after_frames f fs o p all few e g h left =
    let short : length fs < 262144 = omega (arith, ap length e) in
    ap (λ l. take_events place (remaining table place l) p) g
    ∙ sym (ap (λ (x : Step Out). after x.1 x.0 (λ q. take_events place (remaining table place (frames_behind table f fs)) q)) h)
    ∙ sym (remaining_next table place f fs o short) ∙ sym (ap (λ l. take_events place (remaining table place l) o) e) ∙ left

pub stops_at : (table : Table) (place : Place) (frames : List Frame) (f : Frame) (fs : List Frame) (o p : Out) (all : Step Out) (e : Halt) → length frames ≤ 262144 → frames ≡ f ∷ fs
    → Does {A = Unit {0}} p (Err e) (out_behind table place f fs o) → take_events place (remaining table place frames) o ≡ all → Does {A = Unit {0}} p (Err e) all
stops_at table place frames f fs o p all e few g h left =
    let short : length fs < 262144 = omega (arith, ap length g) in
    subst (Does {A = Unit {0}} p (Err e)) (sym (remaining_next table place f fs o short) ∙ sym (ap (λ l. take_events place (remaining table place l) o) g) ∙ left)
    (does_after p e (out_behind table place f fs o) (λ q. take_events place (remaining table place (frames_behind table f fs)) q) h)

pub deep_next : (table : Table) (f : Frame) (fs frames after_frames : List Frame) (u v : ℕ) → frames ≡ f ∷ fs → after_frames ≡ frames_behind table f fs → v ≡ u + uses_behind table f fs → length frames ≤ u → length after_frames ≤ v
deep_next table f fs frames after_frames u v e g h deep = by (slice_get (body_of table f.name) f.at) h g
  where
    one : length frames ≡ suc (length fs)
    one = ap length e

    with_macro : (t : Token) (x : Option ℕ) → v ≡ u + uses_with x → after_frames ≡ frames_with f fs x → length after_frames ≤ v
    with_macro t None k l = omega (arith, one, ap length l)
    with_macro t (Some n) k l = omega (arith, one, ap length l)

    by : (x : Option Token) → v ≡ u + uses_at table f fs x → after_frames ≡ frames_at table f fs x → length after_frames ≤ v
    by None k l = omega (arith, one, ap length l)
    by (Some t) k l = with_macro t (used_kind table (moved f ∷ fs) t.kind) k l
