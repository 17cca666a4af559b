-- What the reading functions of expressions read is of the grammar, each step can be completed, and none looks past the next byte.
use Rattle.std.specs.Prelude.{◌≡◌, ℕ, Bool, true, false, if◌then◌else◌, List, [], ◌∷◌, ◌++◌, codes, refl}
use Rattle.std.proofs.Common.{subst}
use Rattle.scc_reading.specs.Reading.{Parser}
use Rattle.scc_reading.proofs.Answer.{Rule, Answers}
use Rattle.scc_reading.proofs.Core.{answers_by, answers_choose}
use Rattle.scc_reading.proofs.Steps.{answers_seq, answers_head, answers_pure_at}
use Rattle.scc_reading.proofs.Repeat.{answers_repeat}
use Rattle.scc_svtree.specs.declared.expr.SvUnary.TheVariants as unary
use Rattle.scc_svtree.specs.declared.expr.SvBinary.{SvBinary}
use Rattle.scc_svtext.specs.ExprText.{binary_text}
use Rattle.scc_svread_grammar.specs.declared.raw.RawLiteral.{RawLiteral}
use Rattle.scc_svread_grammar.specs.declared.raw.RawExpr.{RawExpr}
use Rattle.scc_svread_grammar.specs.declared.raw.RawExpr.TheVariants as e
use Rattle.scc_svread_grammar.specs.declared.raw.RawStmt.{RawStmt}
use Rattle.scc_svread_grammar.specs.Lexical.{Bytes, is_digit, is_decimal, ReadsDecimal, ReadsLiteral}
use Rattle.scc_svread_grammar.specs.Grammar.{is_division, ReadsDivisor, ReadsExpr, ReadsParts, ReadsStmt}
use Rattle.scc_svread_grammar.specs.Leaves.{left}
use Rattle.scc_svread_grammar.specs.Reader.{Nested, is_h, is_s, is_comma, is_question, is_unary, is_paren, is_brace, is_dollar}
use Rattle.scc_svread_grammar.specs.Reader as p
use Rattle.scc_svread_grammar.proofs.Runs.{answers_text_0, answers_text_1}
use Rattle.scc_svread_grammar.proofs.Numbers.{sound_decimal, sound_digits, sound_literal}
use Rattle.scc_svread_grammar.proofs.Names.{sound_left}
use Rattle.scc_svread_grammar.proofs.Operators.{sound_operator}

abbrev pub RExpr : Rule ℕ RawExpr
RExpr = λ x ts r. ReadsExpr ts r x

abbrev pub RDivisor : Rule ℕ RawExpr
RDivisor = λ x ts r. ReadsDivisor ts r x

abbrev pub RNumber : Rule ℕ RawExpr
RNumber = λ x ts r. (l : RawLiteral) × (x ≡ e.Literal l) × ReadsLiteral ts r l

abbrev pub RStmt : ℕ → Rule ℕ RawStmt
RStmt n = λ x ts r. ReadsStmt n ts r x

pub record Sound (i : Nested) : Type 0 where
  pub expr : Answers 1 RExpr i.expr
  pub divisor : Answers 1 RDivisor i.divisor
  pub number : Answers 1 RNumber i.number
  pub stmt : (n : ℕ) → Answers 1 (RStmt n) (i.stmt n)

-- a list behind a front
abbrev pub ROnto : {A : Type 0} → Rule ℕ (List A) → List A → Rule ℕ (List A)
ROnto R front = λ all ts r. (more : List _) × (all ≡ front ++ more) × R more ts r

pub sound_onto : {A : Type 0} {n : ℕ} {q : Parser ℕ (List A)} (R : Rule ℕ (List A)) (front : List A) → Answers n R q → Answers n (ROnto R front) (p.onto front q)
unfolding p.onto
sound_onto R front h = answers_seq h (λ more. answers_pure_at (λ y ts d. (more, refl, d)))

pub sound_number : Answers 1 RNumber p.number_at
unfolding p.number_at
sound_number = answers_seq sound_literal (λ l. answers_pure_at (λ y ts d. (l, refl, d)))

module _ (i : Nested) (S : Sound i) where
  sound_signed_number : Answers 1 RDivisor (p.signed_number i)
  unfolding p.signed_number
  sound_signed_number = answers_text_1 36 (codes "signed(") (answers_seq S.number (λ x. answers_text_0 (41 ∷ []) (answers_pure_at (λ y ts d. rw d.1 (ReadsDivisor.signed d.0 d.2)))))

  pub sound_divisor : Answers 1 RDivisor (p.divisor_at i)
  unfolding p.divisor_at
  sound_divisor = answers_choose 1 is_digit _ _ _ (answers_by RNumber RDivisor (λ x ts r d. rw d.1 (ReadsDivisor.plain d.0 d.2)) sound_number) sound_signed_number

  abbrev RClosed : Rule ℕ RawExpr
  RClosed = λ x ts r. ReadsExpr ts (codes ")" ++ r) x

  sound_closed : Answers 1 RClosed (p.closed_expr i)
  unfolding p.closed_expr
  sound_closed = answers_seq S.expr (λ of. answers_text_0 (41 ∷ []) (answers_pure_at (λ y ts d. d)))

  abbrev RBehindWidth : Bytes → Rule ℕ RawExpr
  RBehindWidth width = λ x mid r. is_decimal width ≡ true → ReadsExpr (width ++ mid) r x

  sound_behind_width : (width : Bytes) → Answers 0 (RBehindWidth width) (p.behind_width i width)
  unfolding p.behind_width
  sound_behind_width width = answers_text_0 (39 ∷ []) (answers_choose 0 is_h _ _ _
      (answers_text_0 (104 ∷ []) (answers_seq (sound_digits width) (λ l. answers_pure_at (λ y ts d h. ReadsExpr.literal l (d h)))))
      (answers_text_0 (40 ∷ []) (answers_seq sound_closed (λ of. answers_pure_at (λ y ts d h. ReadsExpr.cast width (refl, h) d)))))

  sound_sized : Answers 1 RExpr (p.sized i)
  unfolding p.sized
  sound_sized = answers_seq sound_decimal (λ width. answers_by (RBehindWidth width) (λ x mid r. (ts : Bytes) → ReadsDecimal ts mid width → ReadsExpr ts r x) (λ x mid r f ts d. rw d.0 (f d.1)) (sound_behind_width width))

  sound_sign : Answers 1 RExpr (p.sign i)
  unfolding p.sign
  sound_sign = answers_text_1 36 [] (answers_choose 0 is_s _ _ _
      (answers_text_0 (codes "signed(") (answers_seq sound_closed (λ of. answers_pure_at (λ y ts d. ReadsExpr.sign true d))))
      (answers_text_0 (codes "unsigned(") (answers_seq sound_closed (λ of. answers_pure_at (λ y ts d. ReadsExpr.sign false d)))))

  -- a further part
  abbrev pub RFurther : Rule ℕ RawExpr
  RFurther = λ x ts r. (a : Bytes) × (ts ≡ codes ", " ++ a) × ReadsExpr a r x

  pub sound_further : Answers 1 RFurther (p.further i)
  sound_further = answers_text_1 44 (32 ∷ []) (answers_by RExpr (λ x mid r. RFurther x (44 ∷ 32 ∷ mid) r) (λ x ts r d. (ts, refl, d)) S.expr)

  sound_parts : Answers 0 (λ x ts r. ReadsParts ts r x) (p.parts i)
  unfolding p.parts
  sound_parts = answers_repeat is_comma (p.further i) 0 RFurther sound_further (λ x ts r. ReadsParts ts r x) (λ y. ReadsParts.no_parts) (λ a more ts mid r d k. rw d.1 (ReadsParts.part d.2 k))

  -- a second part and others
  record Behind (first : RawExpr) (found : List RawExpr) (ts r : Bytes) : Type 0 where
    second : RawExpr
    more : List RawExpr
    a : Bytes
    mid : Bytes
    all : found ≡ first ∷ second ∷ more
    begins : ts ≡ codes ", " ++ a
    reads : ReadsExpr a mid second
    others : ReadsParts mid r more

  sound_parts_behind : (first : RawExpr) → Answers 1 (λ all ts r. Behind first all ts r) (p.parts_behind i (first ∷ []))
  unfolding p.parts_behind
  sound_parts_behind first = answers_seq sound_further (λ second. answers_by (ROnto (λ x ts r. ReadsParts ts r x) (first ∷ second ∷ [])) (λ all mid r. (ts : Bytes) → RFurther second ts mid → Behind first all ts r)
      (λ all mid r k ts d. record { second = second; more = k.0; a = d.0; mid = mid; all = k.1; begins = d.1; reads = d.2; others = k.2 }) (sound_onto (λ x ts r. ReadsParts ts r x) (first ∷ second ∷ []) sound_parts))

  sound_concat : Answers 1 RExpr (p.concat i)
  unfolding p.concat
  sound_concat = answers_text_1 123 [] (answers_seq S.expr (λ first. answers_seq (sound_parts_behind first) (λ all. answers_text_0 (125 ∷ [])
      (answers_pure_at (λ y u k v f. rw k.all (ReadsExpr.concat (subst (λ t. ReadsExpr v t first) k.begins f) k.reads k.others))))))

  -- what follows a first operand
  abbrev RBehind : RawExpr → Rule ℕ RawExpr
  RBehind left = λ x mid r. (ts : Bytes) → ReadsExpr ts (codes " " ++ mid) left → ReadsExpr (codes "(" ++ ts) r x

  sound_cond_behind : (test : RawExpr) → Answers 1 (RBehind test) (p.cond_behind i test)
  unfolding p.cond_behind p.cond_last
  sound_cond_behind test = answers_text_1 63 (32 ∷ []) (answers_seq S.expr (λ first. answers_text_0 (codes " : ") (answers_seq sound_closed (λ second.
      answers_pure_at (λ y u b v a ts t. ReadsExpr.cond t a b)))))

  abbrev ReadsRight : Bool → Bytes → Bytes → RawExpr → Type 0
  ReadsRight true ts r x = ReadsDivisor ts r x
  ReadsRight false ts r x = ReadsExpr ts r x

  sound_right_by : (b : Bool) → Answers 1 (λ x ts r. ReadsRight b ts (codes ")" ++ r) x) (if b then p.closed_divisor i else p.closed_expr i)
  unfolding p.closed_divisor
  sound_right_by true = answers_seq S.divisor (λ right. answers_text_0 (41 ∷ []) (answers_pure_at (λ y ts d. d)))
  sound_right_by false = sound_closed

  sound_right : (op : SvBinary) → Answers 1 (λ x ts r. ReadsRight (is_division op) ts (codes ")" ++ r) x) (p.right_of i op)
  unfolding p.right_of
  sound_right op = sound_right_by (is_division op)

  binary_by : (op : SvBinary) (b : Bool) (c : Bytes) (right : RawExpr) {a r : Bytes} {left : RawExpr} → is_division op ≡ b → ReadsExpr a (codes " " ++ (binary_text op ++ (codes " " ++ c))) left
      → ReadsRight b c (codes ")" ++ r) right → ReadsExpr (codes "(" ++ a) r (e.Binary op left right)
  binary_by op true c right h d f = ReadsExpr.division op d h f
  binary_by op false c right h d f = ReadsExpr.binary op d h f

  sound_binary_behind : (left : RawExpr) → Answers 1 (RBehind left) (p.binary_behind i left)
  unfolding p.binary_behind
  sound_binary_behind left = answers_seq sound_operator (λ op. answers_text_0 (32 ∷ []) (answers_seq (sound_right op) (λ right. answers_pure_at (λ y c f u o ts d.
      binary_by op (is_division op) c right refl (subst (λ t. ReadsExpr ts (32 ∷ t) left) o d) f))))

  sound_behind_first : (left : RawExpr) → Answers 1 (RBehind left) (p.behind_first i left)
  unfolding p.behind_first
  sound_behind_first left = answers_choose 1 is_question _ _ _ (sound_cond_behind left) (sound_binary_behind left)

  -- what follows an opening bracket
  abbrev RInside : Rule ℕ RawExpr
  RInside = λ x mid r. ReadsExpr (codes "(" ++ mid) r x

  sound_operated : Answers 1 RInside (p.operated i)
  unfolding p.operated
  sound_operated = answers_seq S.expr (λ left. answers_text_0 (32 ∷ []) (answers_by (RBehind left) (λ x mid r. (ts : Bytes) → ReadsExpr ts (codes " " ++ mid) left → RInside x ts r) (λ x mid r f. f) (sound_behind_first left)))

  sound_unary_at : Answers 1 RInside (p.unary_at i)
  unfolding p.unary_at
  sound_unary_at = answers_head 126 unary.Not refl (λ op. answers_seq sound_closed (λ of. answers_pure_at (λ y ts d t h. ReadsExpr.unary h d)))

  sound_bracketed : Answers 1 RExpr (p.bracketed i)
  unfolding p.bracketed
  sound_bracketed = answers_text_1 40 [] (answers_choose 1 is_unary _ _ _ sound_unary_at sound_operated)

  sound_left_expr : Answers 1 RExpr p.left_expr
  unfolding p.left_expr
  sound_left_expr = answers_seq sound_left (λ l. answers_pure_at (λ y ts d. ReadsExpr.left l d))

  pub sound_expr : Answers 1 RExpr (p.expr i)
  unfolding p.expr
  sound_expr = answers_choose 1 is_digit _ _ _ sound_sized (answers_choose 1 is_paren _ _ _ sound_bracketed (answers_choose 1 is_brace _ _ _ sound_concat (answers_choose 1 is_dollar _ _ _ sound_sign sound_left_expr)))
