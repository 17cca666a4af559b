-- What an expansion gives by derivations is what is joined, or where it has too many tokens or macro uses.
use Rattle.std.proofs.Common.{◌≡◌, ◌<◌, ◌≤◌, ℕ, zero, suc, ◌+◌, ◌-◌, List, [], ◌∷◌, ◌++◌, Bool, true, false, cond, Option, Some, None, option_map, nat_lt, nat_eq, length, refl, sym, ap, ◌∙◌, append_assoc, append-nil, is_some, ◌&&◌, arith}
use Rattle.std.specs.List.{list_any}
use Rattle.std.proofs.lemmas.Bool.Decides.{nat_tests}
use Rattle.scc_base.specs.declared.refusal.Place.{Place}
use Rattle.scc_tokens_directives.specs.Expands.{used_in, Expands, no_more, stays, replaced}
use Rattle.scc_tokens_directives.specs.Macros.{Table, macro_of, Event, Use, Put, placed, use_events, kind_events, token_events, events, take_events, expanded}
use Rattle.scc_tokens_directives.specs.Out.{put_token, counted, pushed, flushed, flushed_by, is_scope_word, is_scope_mark}
use Rattle.scc_tokens_directives.specs.Steps.{Step, after}
use Rattle.scc_tokens_directives.specs.declared.out.Out.{Out}
use Rattle.scc_tokens_lexer.specs.declared.token.Token.{Token}
use Rattle.scc_tokens_lexer.specs.declared.token.TokenKind.{TokenKind}
use Rattle.scc_tokens_lexer.specs.declared.token.TokenKind.TheVariants as kind

abbrev Inner : Type 0
Inner = ℕ → List Token → List Event

option_stays : (inner : Inner) (place : Place) (t : Token) (n : ℕ) (o : Option (List Token)) → option_map {U = ℕ × List Token} (λ body. (n, body)) o ≡ None → use_events inner place t n o ≡ Put (placed place t) ∷ []
option_stays inner place t n None e = refl
option_stays inner place t n (Some b) e = cc

token_stays : (inner : Inner) (table : Table) (hidden : List ℕ) (place : Place) (t : Token) (k : TokenKind) → used_in table hidden k ≡ None → kind_events inner table hidden place t k ≡ Put (placed place t) ∷ []
token_stays inner table hidden place t (kind.Ident n) e = option_stays inner place t n.0 (cond (list_any (nat_eq n.0) hidden) None (macro_of table n.0)) e
token_stays inner table hidden place t (kind.Outside n) e = refl
token_stays inner table hidden place t (kind.Word i) e = refl
token_stays inner table hidden place t (kind.Mark i) e = refl
token_stays inner table hidden place t (kind.Number a b) e = refl
token_stays inner table hidden place t kind.BadNumber e = refl
token_stays inner table hidden place t kind.Text e = refl
token_stays inner table hidden place t kind.Character e = refl
token_stays inner table hidden place t kind.LineHash e = refl
token_stays inner table hidden place t kind.LineEnd e = refl

option_uses : (inner : Inner) (place : Place) (t : Token) (n m : ℕ) (body : List Token) (o : Option (List Token)) → option_map {U = ℕ × List Token} (λ b. (n, b)) o ≡ Some (m, body)
    → use_events inner place t n o ≡ Use ∷ inner m body
option_uses inner place t n m body None e = cc
option_uses inner place t n m body (Some b) e =
    let p : ℕ × List Token = (n, b) in
    let q : ℕ × List Token = (m, body) in
    let same : p ≡ q = cc in ap (λ (x : ℕ × List Token). Use ∷ inner x.0 x.1) same

token_uses : (inner : Inner) (table : Table) (hidden : List ℕ) (place : Place) (t : Token) (m : ℕ) (body : List Token) (k : TokenKind) → used_in table hidden k ≡ Some (m, body)
    → kind_events inner table hidden place t k ≡ Use ∷ inner m body
token_uses inner table hidden place t m body (kind.Ident n) e = option_uses inner place t n.0 m body (cond (list_any (nat_eq n.0) hidden) None (macro_of table n.0)) e
token_uses inner table hidden place t m body (kind.Outside n) e = cc
token_uses inner table hidden place t m body (kind.Word i) e = cc
token_uses inner table hidden place t m body (kind.Mark i) e = cc
token_uses inner table hidden place t m body (kind.Number a b) e = cc
token_uses inner table hidden place t m body kind.BadNumber e = cc
token_uses inner table hidden place t m body kind.Text e = cc
token_uses inner table hidden place t m body kind.Character e = cc
token_uses inner table hidden place t m body kind.LineHash e = cc
token_uses inner table hidden place t m body kind.LineEnd e = cc

-- a joined token counts no macro use
pushed_uses : (o : Out) (t : Token) → (pushed o t).0.uses ≡ o.uses
pushed_uses o t = by (nat_lt (length o.tokens) 262144) refl
  where
    by : (b : Bool) → nat_lt (length o.tokens) 262144 ≡ b → (pushed o t).0.uses ≡ o.uses
    by true e = rw e refl
    by false e = rw e refl

flushed_uses : (o : Out) (s : Option Token) → (flushed_by o s).0.uses ≡ o.uses
flushed_uses o None = refl
flushed_uses o (Some t) = pushed_uses (record o { scope = None }) t

put_uses : (o : Out) (t : Token) → (put_token o t).0.uses ≡ o.uses
put_uses o t = first (is_some o.scope && is_scope_mark t) refl
  where
    last : (s : Step Out) → s.0.uses ≡ o.uses → (b : Bool) → is_scope_word t ≡ b → (after s.1 s.0 (λ p. cond b (record p { scope = Some t }, None) (pushed p t))).0.uses ≡ o.uses
    last (p, Some h) e b g = e
    last (p, None) e true g = e
    last (p, None) e false g = pushed_uses p t ∙ e

    first : (b : Bool) → (is_some o.scope && is_scope_mark t) ≡ b → (put_token o t).0.uses ≡ o.uses
    first true e = rw e refl
    first false e = rw e (last (flushed o) (flushed_uses o o.scope) (is_scope_word t) refl)

-- two ways to go on agree behind a step where they agree at its count of uses
after_same : (s : Step Out) (n : ℕ) → s.0.uses ≡ n → (f g : Out → Step Out) → ((p : Out) → p.uses ≡ n → f p ≡ g p) → after s.1 s.0 f ≡ after s.1 s.0 g
after_same (p, Some h) n e f g same = refl
after_same (p, None) n e f g same = same p e

-- one more macro use, where any is left
counted_same : (o : Out) (place : Place) (f g : Out → Step Out) → ((p : Out) → p.uses ≡ o.uses + 1 → p.uses ≤ 262144 → f p ≡ g p) → after (counted o place).1 (counted o place).0 f ≡ after (counted o place).1 (counted o place).0 g
counted_same o place f g same = by (nat_lt o.uses 262144) refl
  where
    by : (b : Bool) → nat_lt o.uses 262144 ≡ b → after (counted o place).1 (counted o place).0 f ≡ after (counted o place).1 (counted o place).0 g
    by true e = rw e (same (record o { uses = o.uses + 1 }) refl (let h : o.uses < 262144 = grind (arith, nat_tests) in omega arith))
    by false e = rw e refl

events_none : (k : ℕ) (table : Table) (hidden : List ℕ) (place : Place) → events k table hidden place [] ≡ []
unfolding events
events_none zero table hidden place = refl
events_none (suc k) table hidden place = refl

abbrev inner_at : ℕ → Table → List ℕ → Place → Inner
inner_at k table hidden place = λ n body. events (k - 1) table (n ∷ hidden) place body

events_next : (k : ℕ) (table : Table) (hidden : List ℕ) (place : Place) (t : Token) (ts : List Token) → 1 ≤ k
    → events k table hidden place (t ∷ ts) ≡ token_events (inner_at k table hidden place) table hidden place t ++ events k table hidden place ts
unfolding events
events_next zero table hidden place t ts h = absurd (omega arith)
events_next (suc k) table hidden place t ts h =
    let less : k ≡ suc k - 1 = omega arith in
    ap (λ j. token_events (λ n body. events j table (n ∷ hidden) place body) table hidden place t ++ events (suc k) table hidden place ts) less

-- Derived events and those that are found agree where the depth to which they are found is more than the macro uses that are left.
agree : {table : Table} {place : Place} {hidden : List ℕ} {ts : List Token} {es : List Event} → Expands table place hidden ts es
    → (k : ℕ) (o : Out) → o.uses ≤ 262144 → 262145 ≤ o.uses + k → (rest rest' : List Event)
    → ((p : Out) → o.uses ≤ p.uses → p.uses ≤ 262144 → take_events place rest p ≡ take_events place rest' p)
    → take_events place (es ++ rest) o ≡ take_events place (events k table hidden place ts ++ rest') o
agree {table} {place} {hidden} no_more k o few deep rest rest' same = same o (omega arith) few ∙ ap (λ l. take_events place (l ++ rest') o) (sym (events_none k table hidden place))
agree {table} {place} {hidden} (stays {t = t} {ts = ts} {es = es} used behind) k o few deep rest rest' same =
    let inner : Inner = inner_at k table hidden place in
    let more : List Event = events k table hidden place ts in
    after_same (put_token o (placed place t)) o.uses (put_uses o (placed place t)) (λ p. take_events place (es ++ rest) p) (λ p. take_events place (more ++ rest') p)
    (λ p e. agree behind k p (omega arith) (omega arith) rest rest' (λ q l m. same q (omega arith) m))
    ∙ ap (λ l. take_events place ((l ++ more) ++ rest') o) (sym (token_stays inner table hidden place t t.kind used))
    ∙ ap (λ l. take_events place (l ++ rest') o) (sym (events_next k table hidden place t ts (omega arith)))
agree {table} {place} {hidden} (replaced {t = t} {ts = ts} {body = body} {n = n} {inner = inside} {es = es} used within behind) k o few deep rest rest' same =
    let inner : Inner = inner_at k table hidden place in
    let more : List Event = events k table hidden place ts in
    ap (λ l. take_events place (Use ∷ l) o) (append_assoc inside es rest)
    ∙ counted_same o place (λ p. take_events place (inside ++ (es ++ rest)) p) (λ p. take_events place (inner n body ++ (more ++ rest')) p)
    (λ p e m. agree within (k - 1) p m (omega arith) (es ++ rest) (more ++ rest') (λ q l j. agree behind k q j (omega arith) rest rest' (λ r i z. same r (omega arith) z)))
    ∙ ap (λ l. take_events place (Use ∷ l) o) (sym (append_assoc (inner n body) more rest'))
    ∙ ap (λ l. take_events place ((l ++ more) ++ rest') o) (sym (token_uses inner table hidden place t n body t.kind used))
    ∙ ap (λ l. take_events place (l ++ rest') o) (sym (events_next k table hidden place t ts (omega arith)))

pub expands_whole : (table : Table) (place : Place) (n : ℕ) (body : List Token) (es : List Event) (o : Out) → Expands table place (n ∷ []) body es
    → take_events place (Use ∷ es) o ≡ expanded table place n body o
unfolding expanded
expands_whole table place n body es o x =
    counted_same o place (λ p. take_events place es p) (λ p. take_events place (events 262144 table (n ∷ []) place body) p)
    (λ p e m. ap (λ l. take_events place l p) (sym (append-nil es)) ∙ agree x 262144 p m (omega arith) [] [] (λ q l j. refl) ∙ ap (λ l. take_events place l p) (append-nil (events 262144 table (n ∷ []) place body)))
