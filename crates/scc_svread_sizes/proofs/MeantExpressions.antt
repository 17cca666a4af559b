-- Expressions that were read, and over which the first walk notes nothing: what they stand for is printed so, and has right sizes and names.
use Rattle.std.proofs.Common.{◌≡◌, ◌<◌, ◌≤◌, ◌+◌, ℕ, Bool, true, false, ◌&&◌, ◌||◌, not, nat_eq, List, [], ◌∷◌, ◌++◌, map, length, decimal, max, Some, refl, sym, subst, ap, ◌∙◌, arith}
use Rattle.std.specs.Prelude.{codes, Option}
use Rattle.std.proofs.lemmas.Bool.{eqb-false, eqb-true}
use Rattle.scc_svtree.specs.declared.module.SvVar.{SvVar}
use Rattle.scc_svtree.specs.declared.expr.SvExpr.{SvExpr, fold-SvExpr}
use Rattle.scc_svtree.specs.declared.expr.SvExprNode.{SvExprNode, map-SvExprNode, fold-SvExprNode}
use Rattle.scc_svtree.specs.declared.expr.SvExprNode.TheOpen.{SvExprNode-F}
use Rattle.scc_svtree.specs.declared.expr.SvExprNode.TheOpen as node
use Rattle.scc_svtree.specs.declared.expr.SvUnary.{SvUnary}
use Rattle.scc_svtree.specs.declared.expr.SvBinary.{SvBinary}
use Rattle.scc_svtree.specs.Classes.{class_of}
use Rattle.scc_svtree.specs.Variables.{width_at, IsWidth}
use Rattle.scc_svtree.specs.Term.{Term, Literal, Sign, term_node, term_of}
use Rattle.scc_svtree.specs.Sizes.{length_of}
use Rattle.scc_svtree.specs.Sized.{IsDivisor, HasDivisor, total_length}
use Rattle.scc_svtree.specs.Running as running
use Rattle.scc_svtree.specs.Mentions.{reads}
use Rattle.scc_svtree.specs.Concats.{each_true, node_concats, expr_concats}
use Rattle.scc_svtree.specs.Sound.{AreNamed, Each}
use Rattle.scc_svtree.proofs.Joined.{joined_long}
use Rattle.scc_svtext.specs.Fixed.{fixed_text}
use Rattle.scc_svtext.specs.ExprText.{unary_text, binary_text, sign_text, node_text, expr_text}
use Rattle.scc_svtext.specs.ExprText as text
use Rattle.scc_svtext.specs.ModuleText.{names_of}
use Rattle.scc_svread_grammar.specs.declared.raw.RawLiteral.{RawLiteral}
use Rattle.scc_svread_grammar.specs.declared.raw.RawLeft.{RawLeft}
use Rattle.scc_svread_grammar.specs.declared.raw.RawExpr.{RawExpr}
use Rattle.scc_svread_grammar.specs.declared.raw.RawExpr.TheVariants as e
use Rattle.scc_svread_grammar.specs.Lexical.{Bytes, ReadsDecimal, ReadsLiteral, ReadsLeft}
use Rattle.scc_svread_grammar.specs.Grammar.{unary_op, is_division, sign_word, ReadsDivisor, ReadsExpr, ReadsParts}
use Rattle.scc_svread_check.specs.Numbers.{small_number, word_number}
use Rattle.scc_svread_written.specs.Resolved.{literal_of, left_of, expr_of}
use Rattle.scc_svread_check.specs.Scope.{Scope, number_in, is_width, is_wrong_literal}
use Rattle.scc_svread_check.specs.Parts as parts
use Rattle.scc_svread_check.specs.Parts.{cut, is_wrong_length, with_both, with_one, literal_bytes, literal_part, left_part, unary_bits, unary_part, class_bits, binary_part, cond_part, parts_walk, parts_bits, concat_part, cast_part, sign_bytes, sign_part, measured, node_part, part_of}
use Rattle.scc_svread_written.proofs.Decimals.{both}
use Rattle.scc_svread_written.proofs.Formed.{Declares}
use Rattle.scc_svread_written.proofs.Sums.{two, three, four, seven}
use Rattle.scc_svread_written.proofs.Leaves.{bare_names}
use Rattle.scc_svread_written.proofs.Fits.{Fits}
use Rattle.scc_svtree.proofs.Induction.{made, expr_made}
use Rattle.scc_svread_written.proofs.RawTrees as raw
use Rattle.scc_svread_written.proofs.RawFolds.{at_literal, at_left, at_unary, at_binary, at_cond, at_concat, at_cast, at_sign}
use Rattle.scc_svread_sizes.proofs.MeantDecimals.{in_is, small_back}
use Rattle.scc_svread_sizes.proofs.MeantWalks.{Demands, demands_by, demands_then, pass_first, pass_last, demands_size, demands_whole}
use Rattle.scc_svread_sizes.proofs.MeantOperators.{unary_is, unary_long, binary_long, no_divisor, has_divisor, sign_same, either, cut_is, right_length, one_more, joined_fits}
use Rattle.scc_svread_sizes.proofs.MeantLeaves.{not_false, width_is, literal_meant, left_demands}

module _ (vars : List SvVar) (named : AreNamed vars) (widths : Each (λ v. IsWidth v.width) vars) (s : Scope) (d : Declares s vars) where
  abbrev names : List Bytes
  names = names_of vars

  abbrev bare : List Bytes
  bare = bare_names vars

  abbrev width : ℕ → ℕ
  width = width_at vars

  -- what is known of an expression that was read, by its term, its text, whether its concatenations are such, and its length
  pub record Meant (ts r : Bytes) (t : Term) (u : Bytes) (c : Bool) (size : Option ℕ) : Type 0 where
    pub text : ts ≡ u ++ r
    pub fits : Fits vars t
    pub concats : c ≡ true
    pub bits : size ≡ Some (length_of (width_at vars) t)

  abbrev pub Meaning : Bytes → Bytes → SvExpr → parts.Part → Type 0
  Meaning ts r x p = Demands p.walk (Meant ts r (term_of x) (expr_text names x) (expr_concats x) p.bits)

  abbrev pub IsMeant : Bytes → Bytes → RawExpr → Type 0
  IsMeant ts r x = Meaning ts r (expr_of bare x) (part_of s x)

  -- what a definition says of a node
  abbrev At : (A : Type 0) → (SvExprNode-F A A → A) → SvExprNode-F SvExprNode SvExpr → A
  At A step y = step (map-SvExprNode SvExprNode SvExpr A A (fold-SvExprNode A A step (λ e. e.node)) (fold-SvExpr A A step (λ e. e.node)) y)

  moved : {ts r : Bytes} (y : SvExprNode-F SvExprNode SvExpr) {x : SvExpr} {p q : parts.Part} {P : Type 0} → x ≡ made y → p ≡ measured q → Demands q.walk P
      → (is_wrong_length q.bits ≡ false → P → Meant ts r (At Term term_node y) (At Bytes (node_text names) y) (At Bool node_concats y) q.bits) → Meaning ts r x p
  moved {ts} {r} y {x} {p} {q} {P} e f k g =
      rw (e, f, expr_made Term term_node y, expr_made Bytes (node_text names) y, expr_made Bool node_concats y) (demands_by (λ h. g h.0 h.1) (demands_whole (is_wrong_length q.bits) k))

  meant_literal : {ts r : Bytes} (l : RawLiteral) → ReadsLiteral ts r l → IsMeant ts r (e.Literal l)
  meant_literal {ts} {r} l k = moved {ts = ts} {r = r} (node.Literal (literal_of l)) (raw.of_literal bare l) (at_literal parts.Part (node_part s) l)
      (demands_by (literal_meant l k) (pass_last (literal_bytes l) (demands_size (is_wrong_literal l))))
      (λ h m. record {
        text = m.text;
        fits = record { sized = (m.width, m.fits); named = λ v i. cc };
        concats = refl;
        bits = ap (λ n. Some (cut n)) m.bits ∙ ap (λ n. Some n) (cut_is (small_number l.width) m.width.1);
      })

  meant_left : {ts r : Bytes} (l : RawLeft) → ReadsLeft ts r l → IsMeant ts r (e.Left l)
  meant_left {ts} {r} l k = moved {ts = ts} {r = r} (node.Left (left_of bare l)) (raw.of_left bare l) (at_left parts.Part (node_part s) l) (left_demands vars named widths s d l k)
      (λ h m. record {
        text = m.text;
        fits = record { sized = m.inside; named = λ v i. subst (λ k. k < length vars) (eqb-true (running.var_of (left_of bare l)) v i) m.within };
        concats = refl;
        bits = m.bits;
      })

  meant_unary : {a r : Bytes} (b : ℕ) (o : SvUnary) (x : RawExpr) → unary_op b ≡ Some o → IsMeant a (codes ")" ++ r) x → IsMeant (codes "(" ++ (b ∷ a)) r (e.Unary o x)
  unfolding fixed_text
  meant_unary {a} {r} b o x h k = moved {ts = codes "(" ++ (b ∷ a)} {r = r} (node.Unary o (expr_of bare x)) (raw.of_unary bare o x) (at_unary parts.Part (node_part s) o x) (pass_last 1 (pass_first 2 k))
      (λ i m.
      let u : Bytes = expr_text names (expr_of bare x) in record {
        text = ap (λ v. codes "(" ++ (b ∷ v)) m.text ∙ ap (λ v. codes "(" ++ (v ++ (u ++ (codes ")" ++ r)))) (sym (unary_is b o h)) ∙ sym (four (codes "(") (unary_text o) u (codes ")") r);
        fits = record { sized = m.fits.sized; named = m.fits.named };
        concats = m.concats;
        bits = ap (unary_bits o) m.bits ∙ unary_long width o (term_of (expr_of bare x));
      })

  meant_binary : {a c r : Bytes} (o : SvBinary) (x y : RawExpr) → IsMeant a (codes " " ++ (binary_text o ++ (codes " " ++ c))) x → IsMeant c (codes ")" ++ r) y
      → ((is_division o && (part_of s y).zero) ≡ false → HasDivisor (class_of o) (term_of (expr_of bare y))) → IsMeant (codes "(" ++ a) r (e.Binary o x y)
  unfolding fixed_text
  meant_binary {a} {c} {r} o x y k l f = moved {ts = codes "(" ++ a} {r = r} (node.Binary o (expr_of bare x) (expr_of bare y)) (raw.of_binary bare o x y) (at_binary parts.Part (node_part s) o x y)
      (pass_last 1 (demands_then (pass_last (length (binary_text o) + 2) (pass_first 1 k)) (demands_whole (is_division o && (part_of s y).zero) l)))
      (λ i h.
      let m = h.0 in
      let n = h.1.1 in
      let t : Term = term_of (expr_of bare x) in
      let u : Term = term_of (expr_of bare y) in
      let p : Bytes = expr_text names (expr_of bare x) in
      let q : Bytes = expr_text names (expr_of bare y) in record {
        text = ap (λ v. codes "(" ++ v) m.text ∙ ap (λ v. codes "(" ++ (p ++ (codes " " ++ (binary_text o ++ (codes " " ++ v))))) n.text
            ∙ sym (seven (codes "(") p (codes " ") (binary_text o) (codes " ") q (codes ")") r);
        fits = record { sized = (m.fits.sized, n.fits.sized, f h.1.0); named = λ v. either (reads t v) (reads u v) (m.fits.named v) (n.fits.named v) };
        concats = both (expr_concats (expr_of bare x)) _ m.concats n.concats;
        bits = ap (λ v. with_both (class_bits (class_of o)) v (part_of s y).bits) m.bits ∙ ap (λ v. with_both (class_bits (class_of o)) (Some (length_of width t)) v) n.bits ∙ ap (λ v. Some v) (binary_long width o t u);
      })

  meant_cond : {a b c r : Bytes} (x y z : RawExpr) → IsMeant a (codes " ? " ++ b) x → IsMeant b (codes " : " ++ c) y → IsMeant c (codes ")" ++ r) z → IsMeant (codes "(" ++ a) r (e.Cond x y z)
  unfolding fixed_text
  meant_cond {a} {b} {c} {r} x y z j k l = moved {ts = codes "(" ++ a} {r = r} (node.Cond (expr_of bare x) (expr_of bare y) (expr_of bare z)) (raw.of_cond bare x y z) (at_cond parts.Part (node_part s) x y z)
      (pass_last 1 (demands_then (pass_last 3 (demands_then (pass_last 3 (pass_first 1 j)) k)) l))
      (λ i h.
      let f = h.0.0 in
      let g = h.0.1 in
      let m = h.1 in
      let t : Term = term_of (expr_of bare x) in
      let u : Term = term_of (expr_of bare y) in
      let w : Term = term_of (expr_of bare z) in
      let o : Bytes = expr_text names (expr_of bare x) in
      let p : Bytes = expr_text names (expr_of bare y) in
      let q : Bytes = expr_text names (expr_of bare z) in record {
        text = ap (λ v. codes "(" ++ v) f.text ∙ ap (λ v. codes "(" ++ (o ++ (codes " ? " ++ v))) g.text ∙ ap (λ v. codes "(" ++ (o ++ (codes " ? " ++ (p ++ (codes " : " ++ v))))) m.text
            ∙ sym (seven (codes "(") o (codes " ? ") p (codes " : ") q (codes ")") r);
        fits = record {
          sized = (f.fits.sized, g.fits.sized, m.fits.sized);
          named = λ v. either (reads t v) (reads u v || reads w v) (f.fits.named v) (either (reads u v) (reads w v) (g.fits.named v) (m.fits.named v));
        };
        concats = both (expr_concats (expr_of bare x)) _ f.concats (both (expr_concats (expr_of bare y)) _ g.concats m.concats);
        bits = ap (λ v. with_both (λ n k. k) v (with_both max (part_of s y).bits (part_of s z).bits)) f.bits
            ∙ ap (λ v. with_both (λ n k. k) (Some (length_of width t)) (with_both max v (part_of s z).bits)) g.bits ∙ ap (λ v. with_both (λ n k. k) (Some (length_of width t)) (with_both max (Some (length_of width u)) v)) m.bits;
      })

  meant_cast : {ts a r : Bytes} (w : Bytes) (x : RawExpr) → ReadsDecimal ts (codes "'(" ++ a) w → IsMeant a (codes ")" ++ r) x → IsMeant ts r (e.Cast w x)
  unfolding fixed_text
  meant_cast {ts} {a} {r} w x f k = moved {ts = ts} {r = r} (node.Cast (small_number w) (expr_of bare x)) (raw.of_cast bare w x) (at_cast parts.Part (node_part s) w x)
      (pass_last 1 (demands_then (pass_last (length w + 2) (demands_size (not (is_width (number_in w))))) k))
      (λ i h.
      let m = h.1 in
      let n : IsWidth (number_in w) = width_is (number_in w) (not_false (is_width (number_in w)) h.0) in
      let same = in_is w n.1 in
      let u : Bytes = expr_text names (expr_of bare x) in record {
        text = f.0 ∙ ap (λ v. v ++ (codes "'(" ++ a)) (sym (small_back w f.1 n.1)) ∙ ap (λ v. decimal (small_number w) ++ (codes "'(" ++ v)) m.text ∙ sym (four (decimal (small_number w)) (codes "'(") u (codes ")") r);
        fits = record { sized = (subst IsWidth same n, m.fits.sized); named = m.fits.named };
        concats = m.concats;
        bits = ap (with_one (λ n. cut (number_in w))) m.bits ∙ ap (λ n. Some n) (cut_is (number_in w) n.1 ∙ same);
      })

  meant_sign : {a r : Bytes} (signed : Bool) (x : RawExpr) → IsMeant a (codes ")" ++ r) x → IsMeant (sign_word signed ++ a) r (e.Sign signed x)
  unfolding fixed_text
  meant_sign {a} {r} signed x k = moved {ts = sign_word signed ++ a} {r = r} (node.Sign signed (expr_of bare x)) (raw.of_sign bare signed x) (at_sign parts.Part (node_part s) signed x) (pass_last 1 (pass_first (sign_bytes signed) k))
      (λ i m.
      let u : Bytes = expr_text names (expr_of bare x) in record {
        text = ap (λ v. sign_word signed ++ v) m.text ∙ ap (λ v. v ++ (u ++ (codes ")" ++ r))) (sign_same signed) ∙ sym (three (sign_text signed) u (codes ")") r);
        fits = record { sized = m.fits.sized; named = m.fits.named };
        concats = m.concats;
        bits = m.bits;
      })

  -- ---- divisors

  -- an expression that is no divisor 0, where the walk notes none
  record Divides (ts r : Bytes) (x : RawExpr) : Type 0 where
    meant : IsMeant ts r x
    divisor : (part_of s x).zero ≡ false → IsDivisor (term_of (expr_of bare x))

  term_literal : (l : RawLiteral) → term_of (expr_of bare (e.Literal l)) ≡ Literal (small_number l.width) (word_number l.digits)
  term_literal l = ap term_of (raw.of_literal bare l) ∙ expr_made Term term_node (node.Literal (literal_of l))

  some : (n : ℕ) → nat_eq n 0 ≡ false → 0 < n
  some n h = let e = eqb-false n 0 h in omega (arith, e)

  nonzero : (l : RawLiteral) → (part_of s (e.Literal l)).zero ≡ false → 0 < word_number l.digits
  nonzero l h = some (word_number l.digits) (ap (λ p. p.zero) (sym (at_literal parts.Part (node_part s) l)) ∙ h)

  meant_divisor : {ts r : Bytes} {x : RawExpr} → ReadsDivisor ts r x → Divides ts r x
  meant_divisor {ts} {r} (ReadsDivisor.plain l k) = record {
    meant = meant_literal l k;
    divisor = λ h. rw (term_literal l) (nonzero l h);
  }
  meant_divisor (ReadsDivisor.signed {a = a} {r = r} l k) = record {
    meant = meant_sign true (e.Literal l) (meant_literal l k);
    divisor = λ h.
        let t : term_of (expr_of bare (e.Sign true (e.Literal l))) ≡ Sign true (Literal (small_number l.width) (word_number l.digits)) =
        ap term_of (raw.of_sign bare true (e.Literal l)) ∙ expr_made Term term_node (node.Sign true (expr_of bare (e.Literal l))) ∙ ap (λ u. Sign true u) (term_literal l) in
        rw t (nonzero l (ap (λ p. p.zero) (sym (at_sign parts.Part (node_part s) true (e.Literal l))) ∙ h));
  }

  -- ---- concatenations

  abbrev terms : List RawExpr → List Term
  terms xs = map term_of (map (expr_of bare) xs)

  abbrev texts : List RawExpr → List Bytes
  texts xs = map (expr_text names) (map (expr_of bare) xs)

  abbrev tests : List RawExpr → List Bool
  tests xs = map expr_concats (map (expr_of bare) xs)

  -- further parts
  record MeantParts (ts r : Bytes) (xs : List RawExpr) : Type 0 where
    text : ts ≡ text.joined false (texts xs) ++ r
    fits : Each (Fits vars) (terms xs)
    concats : each_true (tests xs) ≡ true
    bits : (n : ℕ) → parts_bits (Some (cut n)) (map (part_of s) xs) ≡ Some (cut (n + total_length (width_at vars) (terms xs)))

  abbrev AreMeant : Bytes → Bytes → List RawExpr → Type 0
  AreMeant ts r xs = Demands (parts_walk 2 (map (part_of s) xs)) (MeantParts ts r xs)

  meant_none : {r : Bytes} → AreMeant r r []
  meant_none {r} = record { told = λ w c. (c, record { text = refl; fits = tt; concats = refl; bits = λ n. ap (λ k. Some (cut k)) (plus_none n) }) }
    where
      plus_none : (n : ℕ) → n ≡ n + 0
      plus_none n = omega arith

  meant_part : {a m r : Bytes} (x : RawExpr) (xs : List RawExpr) → IsMeant a m x → AreMeant m r xs → AreMeant (codes ", " ++ a) r (x ∷ xs)
  unfolding fixed_text
  meant_part {a} {m} {r} x xs k l = demands_by put (demands_then (pass_first 2 k) l)
    where
      put : Meant a m (term_of (expr_of bare x)) (expr_text names (expr_of bare x)) (expr_concats (expr_of bare x)) (part_of s x).bits × MeantParts m r xs → MeantParts (codes ", " ++ a) r (x ∷ xs)
      put h =
          let u : Bytes = expr_text names (expr_of bare x) in
          let size : ℕ = length_of width (term_of (expr_of bare x)) in
          let more : ℕ = total_length width (terms xs) in record {
            text = ap (λ v. codes ", " ++ v) h.0.text ∙ ap (λ v. codes ", " ++ (u ++ v)) h.1.text ∙ sym (three (codes ", ") u (text.joined false (texts xs)) r);
            fits = (h.0.fits, h.1.fits);
            concats = both (expr_concats (expr_of bare x)) _ h.0.concats h.1.concats;
            bits = λ n. one_more n size (map (part_of s) xs) (part_of s x) h.0.bits ∙ h.1.bits (n + size) ∙ ap (λ k. Some (cut k)) (group n size more);
          }
        where
          group : (n m k : ℕ) → (n + m) + k ≡ n + (m + k)
          group n m k = omega arith

  meant_concat : {a b m r : Bytes} (x y : RawExpr) (xs : List RawExpr) → IsMeant a (codes ", " ++ b) x → IsMeant b m y → AreMeant m (codes "}" ++ r) xs → IsMeant (codes "{" ++ a) r (e.Concat (x ∷ y ∷ xs))
  unfolding fixed_text
  meant_concat {a} {b} {m} {r} x y xs j k l = moved {ts = codes "{" ++ a} {r = r} (node.Concat (map (expr_of bare) (x ∷ y ∷ xs))) (raw.of_concat bare (x ∷ y ∷ xs)) (at_concat parts.Part (node_part s) (x ∷ y ∷ xs))
      (pass_last 1 (demands_then (demands_then (pass_last 2 (pass_first 1 j)) k) l))
      (λ i h.
      let f = h.0.0 in
      let g = h.0.1 in
      let more = h.1 in
      let u : Bytes = expr_text names (expr_of bare x) in
      let v : Bytes = expr_text names (expr_of bare y) in
      let n : ℕ = length_of width (term_of (expr_of bare x)) in
      let o : ℕ = length_of width (term_of (expr_of bare y)) in
      let total : ℕ = total_length width (terms (x ∷ y ∷ xs)) in
      let bits : parts_bits (Some 0) (map (part_of s) (x ∷ y ∷ xs)) ≡ Some (cut total) =
      one_more 0 n (map (part_of s) (y ∷ xs)) (part_of s x) f.bits ∙ one_more (0 + n) o (map (part_of s) xs) (part_of s y) g.bits ∙ more.bits (0 + n + o) ∙ ap (λ k. Some (cut k)) (group n o (total_length width (terms xs))) in
      let short : total ≤ 128 = right_length total (ap is_wrong_length (sym bits) ∙ i) in record {
        text = ap (λ w. codes "{" ++ w) (f.text ∙ ap (λ w. u ++ (codes ", " ++ w)) (g.text ∙ ap (λ w. v ++ w) more.text))
            ∙ ap (λ w. codes "{" ++ w) (sym (two u (text.joined false (texts (y ∷ xs))) (codes "}" ++ r) ∙ ap (λ w. u ++ w) (three (codes ", ") v (text.joined false (texts xs)) (codes "}" ++ r))))
            ∙ sym (three (codes "{") (text.joined true (texts (x ∷ y ∷ xs))) (codes "}") r);
        fits = joined_fits vars (term_of (expr_of bare x)) (terms (y ∷ xs)) (f.fits, (g.fits, more.fits)) short;
        concats = both (expr_concats (expr_of bare x)) _ f.concats (both (expr_concats (expr_of bare y)) _ g.concats more.concats);
        bits = bits ∙ ap (λ k. Some k) (cut_is total short ∙ sym (joined_long width (terms (x ∷ y ∷ xs))));
      })
    where
      group : (n o k : ℕ) → (0 + n + o) + k ≡ n + (o + k)
      group n o k = omega arith

  -- ---- every expression

  mutual
    pub expr_meant : {ts r : Bytes} {x : RawExpr} → ReadsExpr ts r x → IsMeant ts r x
    expr_meant (ReadsExpr.literal l k) = meant_literal l k
    expr_meant (ReadsExpr.left l k) = meant_left l k
    expr_meant (ReadsExpr.unary {b = b} {op = op} {of = of} h k) = meant_unary b op of h (expr_meant k)
    expr_meant (ReadsExpr.binary op {left = x} {right = y} k h l) = meant_binary op x y (expr_meant k) (expr_meant l) (λ i. no_divisor op (term_of (expr_of bare y)) h)
    expr_meant (ReadsExpr.division op {left = x} {right = y} k h l) =
        let f = meant_divisor l in
        meant_binary op x y (expr_meant k) f.meant (λ i. has_divisor op (term_of (expr_of bare y)) h (f.divisor (ap (λ t. t && (part_of s y).zero) (sym h) ∙ i)))
    expr_meant (ReadsExpr.cond {test = x} {first = y} {second = z} j k l) = meant_cond x y z (expr_meant j) (expr_meant k) (expr_meant l)
    expr_meant (ReadsExpr.concat {first = x} {second = y} {more = more} j k l) = meant_concat x y more (expr_meant j) (expr_meant k) (parts_meant l)
    expr_meant (ReadsExpr.cast w {of = of} h k) = meant_cast w of h (expr_meant k)
    expr_meant (ReadsExpr.sign signed {of = of} k) = meant_sign signed of (expr_meant k)

    parts_meant : {ts r : Bytes} {xs : List RawExpr} → ReadsParts ts r xs → AreMeant ts r xs
    parts_meant (ReadsParts.no_parts) = meant_none
    parts_meant (ReadsParts.part {of = of} {more = more} k l) = meant_part of more (expr_meant k) (parts_meant l)
