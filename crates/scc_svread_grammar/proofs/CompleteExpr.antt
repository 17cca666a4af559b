-- What is of the grammar of expressions is read, up to the first part that stands too deep.
use Rattle.std.specs.Prelude.{◌≡◌, ℕ, nat_eq, Bool, true, false, if◌then◌else◌, List, ◌∷◌, ◌++◌, codes, Option, Some, None, is_some, Ok, refl}
use Rattle.std.proofs.Common.{◌∙◌, ap}
use Rattle.scc_reading.specs.Reading.{and_then, ◌>>=◌, ◌>>◌, pure, take_at, is_next}
use Rattle.scc_reading.specs.Level.{opens, ◌then◌}
use Rattle.scc_reading.proofs.Complete.{Is, vthen, vlast, same, done, picked, passed, Again, again_of, turn, last_turn}
use Rattle.scc_svtree.specs.declared.expr.SvUnary.{SvUnary}
use Rattle.scc_svtree.specs.declared.expr.SvBinary.{SvBinary}
use Rattle.scc_svtext.specs.ExprText.{binary_text}
use Rattle.scc_svread_grammar.specs.declared.raw.RawLiteral.{RawLiteral}
use Rattle.scc_svread_grammar.specs.declared.raw.RawLeft.{RawLeft}
use Rattle.scc_svread_grammar.specs.declared.raw.RawExpr.{RawExpr}
use Rattle.scc_svread_grammar.specs.declared.raw.RawExpr.TheVariants as e
use Rattle.scc_svread_grammar.specs.declared.raw.RawStmt.{RawStmt}
use Rattle.scc_svread_grammar.specs.Lexical.{Bytes, is_digit, ReadsDecimal, ReadsLiteral, ReadsLeft}
use Rattle.scc_svread_grammar.specs.Grammar.{unary_op, is_division, sign_word, ReadsDivisor, ReadsExpr, ReadsParts, ReadsStmt}
use Rattle.scc_svread_grammar.specs.Levels.{deep_divisor, deep_expr, deep_parts, deep_stmt}
use Rattle.scc_svread_grammar.specs.Leaves.{text, left}
use Rattle.scc_svread_grammar.specs.Reader.{Nested, is_h, is_s, is_comma, is_question, is_unary, is_paren, is_brace, is_dollar, inner}
use Rattle.scc_svread_grammar.specs.Reader as p
use Rattle.scc_svread_grammar.proofs.Numbers.{reads_decimal, reads_digits, reads_literal}
use Rattle.scc_svread_grammar.proofs.Names.{NoWord, NoBracket, reads_left}
use Rattle.scc_svread_grammar.proofs.Operators.{reads_operator, not_question}
use Rattle.scc_svread_grammar.proofs.SoundExpr.{sound_further}
use Rattle.scc_svread_grammar.proofs.Closed.{sound}
use Rattle.scc_svread_grammar.proofs.Firsts.{first_decimal, first_name, no_name, no_name_digit, first_expr, next_no_unary}

-- what opens a level is read where one is left, and is too deep where none is
pub record Complete (n : ℕ) : Type 0 where
  pub expr : {ts r : Bytes} {x : RawExpr} (d : ReadsExpr ts r x) → NoWord r → NoBracket r → Is ((inner n).expr ts) (opens n ts (λ m. deep_expr m d)) x r
  pub divisor : {ts r : Bytes} {x : RawExpr} (d : ReadsDivisor ts r x) → Is ((inner n).divisor ts) (opens n ts (λ m. deep_divisor m d)) x r
  pub number : (l : RawLiteral) (ts r : Bytes) → ReadsLiteral ts r l → Is ((inner n).number ts) (opens n ts (λ m. None)) (e.Literal l) r
  pub stmt : (k : ℕ) {ts r : Bytes} {x : RawStmt} (d : ReadsStmt k ts r x) → Is ((inner n).stmt k ts) (opens n ts (λ m. deep_stmt m d)) x r

pub complete_number : (l : RawLiteral) (ts r : Bytes) → ReadsLiteral ts r l → Is (p.number_at ts) None (e.Literal l) r
unfolding p.number_at
complete_number l ts r d = done (ap (λ o. and_then o (λ l. pure (e.Literal l))) (reads_literal ts r l d))

-- the first byte of a literal
literal_next : (l : RawLiteral) (ts r : Bytes) → ReadsLiteral ts r l → is_next is_digit ts ≡ true
literal_next l ts r d = rw d.0 (first_decimal l.width (codes "'h" ++ (l.digits ++ r)) d.1)

module _ (n : ℕ) (C : Complete n) where
  abbrev i : Nested
  i = inner n

  pub complete_divisor : {ts r : Bytes} {x : RawExpr} (d : ReadsDivisor ts r x) → Is (p.divisor_at i ts) (deep_divisor n d) x r
  unfolding deep_divisor p.divisor_at p.signed_number text
  complete_divisor {ts} {r} (ReadsDivisor.plain l d) = same (picked is_digit p.number_at (p.signed_number i) ts (literal_next l ts r d)) (complete_number l ts r d)
  complete_divisor {ts} {r} (ReadsDivisor.signed {a = a} l d) = vlast _ (C.number l a (codes ")" ++ r) d) refl

  complete_closed : {ts r : Bytes} {x : RawExpr} (d : ReadsExpr ts (codes ")" ++ r) x) → Is (p.closed_expr i ts) (opens n ts (λ m. deep_expr m d)) x r
  unfolding p.closed_expr text
  complete_closed d = vlast _ (C.expr d refl refl) refl

  again_parts : Again is_comma (p.further i)
  again_parts = again_of is_comma (sound_further i (sound n))

  parts_no_word : {ts r : Bytes} {xs : List RawExpr} → ReadsParts ts (codes "}" ++ r) xs → NoWord ts
  parts_no_word (ReadsParts.no_parts) = refl
  parts_no_word (ReadsParts.part d k) = refl

  parts_no_bracket : {ts r : Bytes} {xs : List RawExpr} → ReadsParts ts (codes "}" ++ r) xs → NoBracket ts
  parts_no_bracket (ReadsParts.no_parts) = refl
  parts_no_bracket (ReadsParts.part d k) = refl

  complete_further : {a r : Bytes} {x : RawExpr} (d : ReadsExpr a r x) → NoWord r → NoBracket r → Is (p.further i (codes ", " ++ a)) (opens n a (λ m. deep_expr m d)) x r
  unfolding text
  complete_further d w b = C.expr d w b

  complete_parts : {ts r : Bytes} {xs : List RawExpr} (d : ReadsParts ts (codes "}" ++ r) xs) → Is (p.parts i ts) (deep_parts n d) xs (codes "}" ++ r)
  unfolding deep_parts p.parts
  complete_parts {ts} {r} (ReadsParts.no_parts) = last_turn is_comma (p.further i) (codes "}" ++ r) again_parts refl
  complete_parts {ts} {r} (ReadsParts.part {a = a} d more) = turn is_comma (p.further i) (codes ", " ++ a) again_parts refl (complete_further d (parts_no_word more) (parts_no_bracket more)) (complete_parts more)

  complete_right : (op : SvBinary) {c r : Bytes} {x : RawExpr} (d : ReadsExpr c (codes ")" ++ r) x) → is_division op ≡ false → Is (p.right_of i op c) (opens n c (λ m. deep_expr m d)) x r
  unfolding p.right_of
  complete_right op {c} {r} {x} d h = same (ap (λ b. (if b then p.closed_divisor i else p.closed_expr i) c) h) (complete_closed d)

  complete_right_divisor : (op : SvBinary) {c r : Bytes} {x : RawExpr} (d : ReadsDivisor c (codes ")" ++ r) x) → is_division op ≡ true → Is (p.right_of i op c) (opens n c (λ m. deep_divisor m d)) x r
  unfolding p.right_of p.closed_divisor text
  complete_right_divisor op {c} {r} {x} d h = same (ap (λ b. (if b then p.closed_divisor i else p.closed_expr i) c) h) (vlast _ (C.divisor d) refl)

  -- from behind the blank after a first operand
  complete_operator : (left : RawExpr) (op : SvBinary) (c : Bytes) {v : Option Bytes} {r : Bytes} {x : RawExpr} → Is (p.right_of i op c) v x r
      → Is (p.behind_first i left (binary_text op ++ (codes " " ++ c))) v (e.Binary op left x) r
  unfolding p.behind_first p.binary_behind text
  complete_operator left op c {v} {r} {x} h =
      let q : (b : ℕ) × (w : Bytes) × (binary_text op ++ (codes " " ++ c) ≡ b ∷ w) × (nat_eq b 63 ≡ false) = not_question op (codes " " ++ c) in
      same (passed is_question (p.cond_behind i left) (p.binary_behind i left) (binary_text op ++ (codes " " ++ c)) (ap (is_next is_question) q.2 ∙ q.3)
      ∙ ap (λ o. and_then o (λ op. text (codes " ") >> (p.right_of i op >>= λ right. pure (e.Binary op left right)))) (reads_operator op c)) (vlast _ h refl)

  complete_operated : (first : RawExpr) {a mid r : Bytes} {v : Option Bytes} {x : RawExpr} (d : ReadsExpr a (codes " " ++ mid) first) → Is (p.behind_first i first mid) v x r
      → Is (p.expr i (codes "(" ++ a)) (opens n a (λ m. deep_expr m d) then v) x r
  unfolding p.expr p.bracketed p.operated text
  complete_operated first {a} {mid} {r} {v} {x} d h = same (passed is_unary (p.unary_at i) (p.operated i) a (next_no_unary a (first_expr d))) (vthen _ (C.expr d refl refl) h)

  complete_cond : (test : RawExpr) {b c r : Bytes} {first second : RawExpr} (f : ReadsExpr b (codes " : " ++ c) first) (g : ReadsExpr c (codes ")" ++ r) second)
      → Is (p.behind_first i test (codes "? " ++ b)) (opens n b (λ m. deep_expr m f) then opens n c (λ m. deep_expr m g)) (e.Cond test first second) r
  unfolding p.behind_first p.cond_behind p.cond_last text
  complete_cond test f g = vthen _ (C.expr f refl refl) (vlast _ (complete_closed g) refl)

  complete_concat : {a b m r : Bytes} {first second : RawExpr} {more : List RawExpr} (d : ReadsExpr a (codes ", " ++ b) first) (f : ReadsExpr b m second) (g : ReadsParts m (codes "}" ++ r) more)
      → Is (p.expr i (codes "{" ++ a)) (opens n a (λ m. deep_expr m d) then opens n b (λ m. deep_expr m f) then deep_parts n g) (e.Concat (first ∷ second ∷ more)) r
  unfolding p.expr p.concat p.parts_behind p.onto text
  complete_concat d f g = vthen _ (C.expr d refl refl) (vlast _ (vthen _ (complete_further f (parts_no_word g) (parts_no_bracket g)) (vlast _ (complete_parts g) refl)) refl)

  -- a number begins a literal or a cast
  sized_at : (width mid : Bytes) → (ts : Bytes) → ReadsDecimal ts (codes "'" ++ mid) width → p.expr i ts ≡ p.behind_width i width (codes "'" ++ mid)
  unfolding p.expr p.sized
  sized_at width mid ts d = picked is_digit (p.sized i) _ ts (rw d.0 (first_decimal width (codes "'" ++ mid) d.1))
      ∙ rw d.0 (ap (λ o. and_then o (p.behind_width i)) (reads_decimal width (codes "'" ++ mid) d.1 refl))

  complete_literal : (l : RawLiteral) (ts r : Bytes) → ReadsLiteral ts r l → p.expr i ts ≡ Ok (e.Literal l, r)
  unfolding p.behind_width text
  complete_literal l ts r d = sized_at l.width (codes "h" ++ (l.digits ++ r)) ts (d.0, d.1) ∙ ap (λ o. and_then o (λ l. pure (e.Literal l))) (reads_digits l r d.2 d.3)

  complete_cast : (width : Bytes) (ts : Bytes) {a r : Bytes} {of : RawExpr} → ReadsDecimal ts (codes "'(" ++ a) width → (d : ReadsExpr a (codes ")" ++ r) of)
      → Is (p.expr i ts) (opens n a (λ m. deep_expr m d)) (e.Cast width of) r
  unfolding p.behind_width text
  complete_cast width ts {a} {r} {of} h d = same (sized_at width (codes "(" ++ a) ts h) (vlast _ (complete_closed d) refl)

  complete_left : (l : RawLeft) (ts r : Bytes) → ReadsLeft ts r l → NoWord r → NoBracket r → p.expr i ts ≡ Ok (e.Left l, r)
  unfolding p.expr p.left_expr
  complete_left l ts r d w b =
      passed is_digit (p.sized i) _ ts (first_name is_digit ts d.0 l.name no_name_digit d.1)
      ∙ passed is_paren (p.bracketed i) _ ts (first_name is_paren ts d.0 l.name (no_name 40 refl refl) d.1)
      ∙ passed is_brace (p.concat i) _ ts (first_name is_brace ts d.0 l.name (no_name 123 refl refl) d.1)
      ∙ passed is_dollar (p.sign i) p.left_expr ts (first_name is_dollar ts d.0 l.name (no_name 36 refl refl) d.1)
      ∙ ap (λ o. and_then o (λ l. pure (e.Left l))) (reads_left ts r l d w b)

  complete_unary : (b : ℕ) {a r : Bytes} {op : SvUnary} {of : RawExpr} → unary_op b ≡ Some op → (d : ReadsExpr a (codes ")" ++ r) of)
      → Is (p.expr i (codes "(" ++ (b ∷ a))) (opens n a (λ m. deep_expr m d)) (e.Unary op of) r
  unfolding p.expr p.bracketed p.unary_at text
  complete_unary b {a} {r} {op} {of} h d =
      same (picked is_unary (p.unary_at i) (p.operated i) (b ∷ a) (ap is_some h) ∙ ap (λ o. and_then (take_at o b a) (λ op. p.closed_expr i >>= λ of. pure (e.Unary op of))) h)
      (vlast _ (complete_closed d) refl)

  complete_sign : (signed : Bool) {a r : Bytes} {of : RawExpr} (d : ReadsExpr a (codes ")" ++ r) of) → Is (p.expr i (sign_word signed ++ a)) (opens n a (λ m. deep_expr m d)) (e.Sign signed of) r
  unfolding p.expr p.sign text
  complete_sign true d = vlast _ (complete_closed d) refl
  complete_sign false d = vlast _ (complete_closed d) refl

  pub complete_expr : {ts r : Bytes} {x : RawExpr} (d : ReadsExpr ts r x) → NoWord r → NoBracket r → Is (p.expr i ts) (deep_expr n d) x r
  unfolding deep_expr
  complete_expr {ts} {r} (ReadsExpr.literal l d) w b = done (complete_literal l ts r d)
  complete_expr {ts} {r} (ReadsExpr.left l d) w b = done (complete_left l ts r d w b)
  complete_expr (ReadsExpr.unary {b = o} h d) w b = complete_unary o h d
  complete_expr (ReadsExpr.binary {c = c} op {left = first} d h f) w b = complete_operated first d (complete_operator first op c (complete_right op f h))
  complete_expr (ReadsExpr.division {c = c} op {left = first} d h f) w b = complete_operated first d (complete_operator first op c (complete_right_divisor op f h))
  complete_expr (ReadsExpr.cond {test = test} d f g) w b = complete_operated test d (complete_cond test f g)
  complete_expr (ReadsExpr.concat d f g) w b = complete_concat d f g
  complete_expr {ts} (ReadsExpr.cast width h d) w b = complete_cast width ts h d
  complete_expr (ReadsExpr.sign signed d) w b = complete_sign signed d
