-- The first bytes of numbers, names and expressions.
use Rattle.std.specs.Prelude.{◌≡◌, ℕ, ◌≤◌, ◌<◌, nat_eq, nat_le, Bool, true, false, ◌||◌, [], ◌∷◌, ◌++◌, codes, bytes_eq, Option, Some, None, is_some, refl}
use Rattle.std.proofs.Common.{sym, ◌∙◌, ap, arith, eqb-true}
use Rattle.std.proofs.lemmas.Bool.{leb-true, le-leb}
use Rattle.std.proofs.lemmas.Slice.Eq.{bytes_eq-Decides}
use Rattle.scc_reading.specs.Reading.{is_next}
use Rattle.scc_svtree.specs.declared.expr.SvUnary.{SvUnary}
use Rattle.scc_svtree.specs.declared.expr.SvUnary.TheVariants as unary
use Rattle.scc_svtree.specs.Sound.{is_simple, is_letter}
use Rattle.scc_svtext.specs.Keyword.{is_keyword}
use Rattle.scc_svtext.specs.Pieces.{spelled}
use Rattle.scc_svread_grammar.specs.declared.raw.RawExpr.{RawExpr}
use Rattle.scc_svread_grammar.specs.Lexical.{Bytes, is_digit, is_positive, is_decimal, ReadsName}
use Rattle.scc_svread_grammar.specs.Grammar.{unary_op, ReadsExpr}
use Rattle.scc_svread_grammar.specs.Leaves.{is_positive_digit, is_back}
use Rattle.scc_svread_grammar.specs.Reader.{is_paren, is_brace, is_dollar, begins_name, begins_expr, is_unary}
use Rattle.scc_svread_grammar.proofs.Runs.{and_left, and_right}
use Rattle.scc_svread_grammar.proofs.Numbers.{positive_first}
use Rattle.scc_svread_grammar.proofs.Names.{spelled_plain, spelled_escaped}
use Rattle.scc_svread_grammar.proofs.Operators.{table_byte}

or_first : (a b : Bool) → a ≡ true → (a || b) ≡ true
or_first true b h = refl
or_first false b h = cc

or_second : (a b : Bool) → b ≡ true → (a || b) ≡ true
or_second true b h = refl
or_second false b h = h

-- ---- numbers

positive_digit : (b : ℕ) → is_positive_digit b ≡ true → is_digit b ≡ true
positive_digit b h =
    let low : 49 ≤ b = leb-true 49 b (and_left (nat_le 49 b) _ h) in
    let wide : nat_le 48 b ≡ true = le-leb 48 b (omega (arith, low)) in
    rw wide (and_right (nat_le 49 b) _ h)

pub first_decimal : (n r : Bytes) → is_decimal n ≡ true → is_next is_digit (n ++ r) ≡ true
first_decimal n r h = go n (bytes_eq n (codes "0")) refl h
  where
    go : (n : Bytes) (c : Bool) → bytes_eq n (codes "0") ≡ c → (c || is_positive n) ≡ true → is_next is_digit (n ++ r) ≡ true
    go n true e h = let same : n ≡ codes "0" = (bytes_eq-Decides n (codes "0")).0 e in rw same refl
    go [] false e h = cc
    go (b ∷ more) false e h = positive_digit b (positive_first b more h)

-- ---- names

-- a test that no letter and no backslash passes
pub record NoName (test : ℕ → Bool) : Type 0 where
  pub letter : (b : ℕ) → is_letter b ≡ true → test b ≡ false
  pub back : test 92 ≡ false

pub first_name : (test : ℕ → Bool) (ts r w : Bytes) → NoName test → ReadsName ts r w → is_next test ts ≡ false
first_name test ts r w n d = rw d.0 (go (is_keyword w) refl)
  where
    of_plain : (w : Bytes) → is_simple w ≡ true → is_next test (w ++ r) ≡ false
    of_plain [] h = cc
    of_plain (b ∷ w) h = n.letter b (and_left (is_letter b) _ h)

    go : (c : Bool) → is_keyword w ≡ c → is_next test (spelled w ++ r) ≡ false
    go true e = ap (is_next test) (spelled_escaped w r e) ∙ n.back
    go false e = ap (λ u. is_next test (u ++ r)) (spelled_plain w e) ∙ of_plain w d.1

no_letter : (k : ℕ) → is_letter k ≡ false → (b : ℕ) → is_letter b ≡ true → nat_eq b k ≡ false
no_letter k h b l = go (nat_eq b k) refl
  where
    go : (c : Bool) → nat_eq b k ≡ c → c ≡ false
    go false e = refl
    go true e = let same : b ≡ k = eqb-true b k e in let both : true ≡ false = sym l ∙ ap is_letter same ∙ h in cc

pub no_name : (k : ℕ) → is_letter k ≡ false → nat_eq 92 k ≡ false → NoName (λ b. nat_eq b k)
no_name k h j = record { letter = no_letter k h; back = j }

letter_no_digit : (b : ℕ) → is_letter b ≡ true → is_digit b ≡ false
letter_no_digit b l = go (is_digit b) refl
  where
    no_low : (k : ℕ) → b ≤ 57 → 57 < k → nat_le k b ≡ false
    no_low k u v = high (nat_le k b) refl
      where
        high : (c : Bool) → nat_le k b ≡ c → c ≡ false
        high false e = refl
        high true e = let x : k ≤ b = leb-true k b e in absurd (omega (arith, u, v, x))

    go : (c : Bool) → is_digit b ≡ c → c ≡ false
    go false e = refl
    go true e =
        let u : b ≤ 57 = leb-true b 57 (and_right (nat_le 48 b) _ e) in
        let a : nat_le 97 b ≡ false = no_low 97 u (omega arith) in
        let z : nat_le 65 b ≡ false = no_low 65 u (omega arith) in
        let n : nat_eq b 95 ≡ false = other (nat_eq b 95) refl u in
        let all : is_letter b ≡ false = rw (a, z, n) refl in
        sym l ∙ all
      where
        other : (c : Bool) → nat_eq b 95 ≡ c → b ≤ 57 → c ≡ false
        other false e u = refl
        other true e u = let same : b ≡ 95 = eqb-true b 95 e in absurd (omega (arith, u, same))

pub no_name_digit : NoName is_digit
no_name_digit = record { letter = letter_no_digit; back = refl }

-- ---- expressions

begins_by_digit : (b : ℕ) → is_digit b ≡ true → begins_expr b ≡ true
begins_by_digit b h = or_first _ (begins_name b) (or_first _ (is_dollar b) (or_first _ (is_brace b) (or_first _ (is_paren b) h)))

begins_by_letter : (b : ℕ) → is_letter b ≡ true → begins_expr b ≡ true
begins_by_letter b h = or_second (((is_digit b || is_paren b) || is_brace b) || is_dollar b) _ (or_first _ (is_back b) h)

pub next_by : (p q : ℕ → Bool) → ((b : ℕ) → p b ≡ true → q b ≡ true) → (ts : Bytes) → is_next p ts ≡ true → is_next q ts ≡ true
next_by p q f [] h = cc
next_by p q f (b ∷ ts) h = f b h

pub name_begins : (ts r w : Bytes) → ReadsName ts r w → is_next begins_name ts ≡ true
name_begins ts r w d = rw d.0 (go (is_keyword w) refl)
  where
    of_plain : (w : Bytes) → is_simple w ≡ true → is_next begins_name (w ++ r) ≡ true
    of_plain [] h = cc
    of_plain (b ∷ w) h = or_first _ (is_back b) (and_left (is_letter b) _ h)

    go : (c : Bool) → is_keyword w ≡ c → is_next begins_name (spelled w ++ r) ≡ true
    go true e = ap (is_next begins_name) (spelled_escaped w r e)
    go false e = ap (λ u. is_next begins_name (u ++ r)) (spelled_plain w e) ∙ of_plain w d.1

pub first_expr : {ts r : Bytes} {x : RawExpr} → ReadsExpr ts r x → is_next begins_expr ts ≡ true
first_expr {ts} {r} (ReadsExpr.literal l d) = rw d.0 (next_by is_digit begins_expr begins_by_digit (l.width ++ (codes "'h" ++ (l.digits ++ r))) (first_decimal l.width (codes "'h" ++ (l.digits ++ r)) d.1))
first_expr {ts} {r} (ReadsExpr.left l d) = next_by begins_name begins_expr (λ b h. or_second (((is_digit b || is_paren b) || is_brace b) || is_dollar b) _ h) ts (name_begins ts d.0 l.name d.1)
first_expr (ReadsExpr.unary h d) = refl
first_expr (ReadsExpr.binary op d h f) = refl
first_expr (ReadsExpr.division op d h f) = refl
first_expr (ReadsExpr.cond d f g) = refl
first_expr (ReadsExpr.concat d f g) = refl
first_expr {ts} {r} (ReadsExpr.cast {a = a} width h d) = rw h.0 (next_by is_digit begins_expr begins_by_digit (width ++ (codes "'(" ++ a)) (first_decimal width (codes "'(" ++ a) h.1))
first_expr (ReadsExpr.sign true d) = refl
first_expr (ReadsExpr.sign false d) = refl

abbrev IsNoExpr : ℕ → SvUnary → Type 0
IsNoExpr b o = begins_expr b ≡ false

unary_no_expr : (b : ℕ) (o : SvUnary) → unary_op b ≡ Some o → begins_expr b ≡ false
unary_no_expr b o = table_byte IsNoExpr b 126 unary.Not o _ refl (table_byte IsNoExpr b 33 unary.LogNot o _ refl (table_byte IsNoExpr b 45 unary.Neg o _ refl
    (table_byte IsNoExpr b 38 unary.And o _ refl (table_byte IsNoExpr b 124 unary.Or o _ refl (table_byte IsNoExpr b 94 unary.Xor o None refl (λ h. cc))))))

expr_no_unary : (b : ℕ) → begins_expr b ≡ true → is_unary b ≡ false
expr_no_unary b h = go (unary_op b) refl
  where
    go : (o : Option SvUnary) → unary_op b ≡ o → is_some o ≡ false
    go None e = refl
    go (Some o) e = let both : true ≡ false = sym h ∙ unary_no_expr b o e in cc

-- what begins an expression isn't an operator of one operand
pub next_no_unary : (ts : Bytes) → is_next begins_expr ts ≡ true → is_next is_unary ts ≡ false
next_no_unary [] h = refl
next_no_unary (b ∷ ts) h = expr_no_unary b h
