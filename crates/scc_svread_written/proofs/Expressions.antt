-- Expressions: each is read as it is written, and says what it stands for.
use Rattle.std.proofs.Common.{◌≡◌, ◌≤◌, ℕ, Bool, true, false, List, [], ◌∷◌, ◌++◌, map, decimal, refl, sym, subst, ap, ◌∙◌}
use Rattle.std.specs.Prelude.{codes, Some}
use Rattle.scc_svtree.specs.declared.module.SvVar.{SvVar}
use Rattle.scc_svtree.specs.declared.expr.SvExpr.{SvExpr}
use Rattle.scc_svtree.specs.declared.expr.SvExprNode.TheOpen as node
use Rattle.scc_svtree.specs.declared.expr.SvLiteral.{SvLiteral}
use Rattle.scc_svtree.specs.declared.expr.SvLeft.{SvLeft}
use Rattle.scc_svtree.specs.declared.expr.SvUnary.{SvUnary}
use Rattle.scc_svtree.specs.declared.expr.SvUnary.TheVariants as op1
use Rattle.scc_svtree.specs.declared.expr.SvBinary.{SvBinary}
use Rattle.scc_svtree.specs.declared.expr.SvBinary.TheVariants as op2
use Rattle.scc_svtree.specs.Term.{Term, Literal, Part, Unary, Binary, Cond, Cast, Sign, joined, term_node, term_of}
use Rattle.scc_svtree.specs.Classes.{class_of}
use Rattle.scc_svtree.specs.Sized.{IsNonzero, IsDivisor, HasDivisor}
use Rattle.scc_svtree.specs.Concats.{each_true, node_concats, expr_concats}
use Rattle.scc_svtree.specs.Sound.{AreNamed, Each}
use Rattle.scc_svtext.specs.Fixed.{fixed_text}
use Rattle.scc_svtext.specs.Pieces.{literal_text, left_text}
use Rattle.scc_svtext.specs.ExprText.{unary_text, binary_text, sign_text, node_text, expr_text}
use Rattle.scc_svtext.specs.ExprText as text
use Rattle.scc_svtext.specs.ModuleText.{names_of}
use Rattle.scc_svread_grammar.specs.declared.raw.RawLiteral.{RawLiteral}
use Rattle.scc_svread_grammar.specs.declared.raw.RawExpr.{RawExpr}
use Rattle.scc_svread_grammar.specs.declared.raw.RawExpr.TheVariants as e
use Rattle.scc_svread_grammar.specs.Lexical.{Bytes, ReadsLiteral}
use Rattle.scc_svread_grammar.specs.Grammar.{unary_op, is_division, ReadsDivisor, ReadsExpr, ReadsParts}
use Rattle.scc_svread_grammar.proofs.Runs.{and_left, and_right}
use Rattle.scc_svread_written.specs.Written.{raw_literal, raw_left, raw_node, raw_expr}
use Rattle.scc_svread_written.specs.Resolved.{expr_of}
use Rattle.scc_svread_written.proofs.Decimals.{small_decimal, decimal_is}
use Rattle.scc_svread_written.proofs.Sums.{two, three, four, seven}
use Rattle.scc_svread_written.proofs.Leaves.{bare_names, reads_literal, back_literal, reads_left, back_left}
use Rattle.scc_svread_written.proofs.Fits.{Fits, of_left, of_unary, of_first, of_second, of_test, of_then, of_else, of_parts, of_cast, of_sign}
use Rattle.scc_svtree.proofs.Induction.{made, expr_made, by_expr}
use Rattle.scc_svread_written.proofs.RawTrees as raw

-- the byte of an operator of one operand
unary_byte : (o : SvUnary) → (b : ℕ) × (unary_text o ≡ b ∷ []) × (unary_op b ≡ Some o)
unary_byte op1.Not = (126, refl, refl)
unary_byte op1.LogNot = (33, refl, refl)
unary_byte op1.Neg = (45, refl, refl)
unary_byte op1.And = (38, refl, refl)
unary_byte op1.Or = (124, refl, refl)
unary_byte op1.Xor = (94, refl, refl)

divisor_of : (o : SvBinary) (t : Term) → is_division o ≡ true → HasDivisor (class_of o) t → IsDivisor t
divisor_of op2.Div t h d = d
divisor_of op2.Rem t h d = d
divisor_of op2.Add t h d = cc
divisor_of op2.Sub t h d = cc
divisor_of op2.Mul t h d = cc
divisor_of op2.And t h d = cc
divisor_of op2.Or t h d = cc
divisor_of op2.Xor t h d = cc
divisor_of op2.Shl t h d = cc
divisor_of op2.Shr t h d = cc
divisor_of op2.Sar t h d = cc
divisor_of op2.Eq t h d = cc
divisor_of op2.Ne t h d = cc
divisor_of op2.Lt t h d = cc
divisor_of op2.Le t h d = cc
divisor_of op2.Gt t h d = cc
divisor_of op2.Ge t h d = cc
divisor_of op2.LogAnd t h d = cc
divisor_of op2.LogOr t h d = cc

at_text : {ts us r : Bytes} {x : RawExpr} → ts ≡ us → ReadsExpr us r x → ReadsExpr ts r x
at_text p d = rw p d

module _ (vars : List SvVar) (named : AreNamed vars) where
  abbrev names : List Bytes
  names = names_of vars

  abbrev bare : List Bytes
  bare = bare_names vars

  -- what is to be known of an expression, by its term, its text, and how it is written
  pub record Told (x : SvExpr) (t : Term) (ts : Bytes) (w : RawExpr) : Type 0 where
    pub reads : (r : Bytes) → ReadsExpr (ts ++ r) r w
    pub literal : IsNonzero t → (l : RawLiteral) × (w ≡ e.Literal l) × ((r : Bytes) → ReadsLiteral (ts ++ r) r l)
    pub divisor : IsDivisor t → (r : Bytes) → ReadsDivisor (ts ++ r) r w
    pub back : expr_of bare w ≡ x

  abbrev pub IsTold : SvExpr → Type 0
  IsTold x = Told x (term_of x) (expr_text names x) (raw_expr vars x)

  abbrev pub Known : SvExpr → Type 0
  Known x = Fits vars (term_of x) → expr_concats x ≡ true → IsTold x

  moved : (x : SvExpr) {t t' : Term} {b b' : Bool} {ts ts' : Bytes} {w w' : RawExpr} → t ≡ t' → b ≡ b' → ts ≡ ts' → w ≡ w'
      → (Fits vars t' → b' ≡ true → Told x t' ts' w') → Fits vars t → b ≡ true → Told x t ts w
  moved x p q s u k = rw (p, q, s, u) k

  told_literal : (l : SvLiteral) → Fits vars (Literal l.width l.value.bits)
      → Told (made (node.Literal l)) (Literal l.width l.value.bits) (literal_text l.width l.value.bits) (e.Literal (raw_literal l.width l.value.bits))
  told_literal l f =
      let short : l.width ≤ 128 = f.sized.0.1 in
      let d : (r : Bytes) → ReadsLiteral (literal_text l.width l.value.bits ++ r) r (raw_literal l.width l.value.bits) = λ r. reads_literal l.width l.value.bits r short in
      record {
        reads = λ r. ReadsExpr.literal (raw_literal l.width l.value.bits) (d r);
        literal = λ h. (raw_literal l.width l.value.bits, refl, d);
        divisor = λ h r. ReadsDivisor.plain (raw_literal l.width l.value.bits) (d r);
        back = raw.of_literal bare (raw_literal l.width l.value.bits) ∙ ap (λ k. made (node.Literal k)) (back_literal l short f.sized.1);
      }

  told_left : (l : SvLeft) → Fits vars (Part l) → Told (made (node.Left l)) (Part l) (left_text names l) (e.Left (raw_left vars l))
  told_left l f = record {
    reads = λ r. ReadsExpr.left (raw_left vars l) (reads_left vars named l r f.sized (of_left vars l f));
    literal = λ h. absurd h;
    divisor = λ h. absurd h;
    back = raw.of_left bare (raw_left vars l) ∙ ap (λ k. made (node.Left k)) (back_left vars named l f.sized (of_left vars l f));
  }

  told_unary : (o : SvUnary) (a : SvExpr) {t : Term} {ts : Bytes} {w : RawExpr} → Told a t ts w
      → Told (made (node.Unary o a)) (Unary o t) (codes "(" ++ unary_text o ++ ts ++ codes ")") (e.Unary o w)
  told_unary o a {t} {ts} {w} k =
      let b = unary_byte o in
      let same : (r : Bytes) → (codes "(" ++ unary_text o ++ ts ++ codes ")") ++ r ≡ codes "(" ++ (b.0 ∷ (ts ++ (codes ")" ++ r))) =
      λ r. four (codes "(") (unary_text o) ts (codes ")") r ∙ ap (λ u. codes "(" ++ (u ++ (ts ++ (codes ")" ++ r)))) b.1 in
      record {
        reads = λ r. at_text (same r) (ReadsExpr.unary b.2 (k.reads (codes ")" ++ r)));
        literal = λ h. absurd h;
        divisor = λ h. absurd h;
        back = raw.of_unary bare o w ∙ ap (λ u. made (node.Unary o u)) k.back;
      }

  told_binary : (o : SvBinary) (a b : SvExpr) {t u : Term} {ts us : Bytes} {v w : RawExpr} → HasDivisor (class_of o) u → Told a t ts v → Told b u us w
      → Told (made (node.Binary o a b)) (Binary o t u) (codes "(" ++ ts ++ codes " " ++ binary_text o ++ codes " " ++ us ++ codes ")") (e.Binary o v w)
  told_binary o a b {t} {u} {ts} {us} {v} {w} h k l = record {
    reads = λ r. at_text (seven (codes "(") ts (codes " ") (binary_text o) (codes " ") us (codes ")") r) (go r (is_division o) refl);
    literal = λ h. absurd h;
    divisor = λ h. absurd h;
    back = raw.of_binary bare o v w ∙ ap (λ x. made (node.Binary o x (expr_of bare w))) k.back ∙ ap (λ x. made (node.Binary o a x)) l.back;
  }
    where
      go : (r : Bytes) (d : Bool) → is_division o ≡ d → ReadsExpr (codes "(" ++ (ts ++ (codes " " ++ (binary_text o ++ (codes " " ++ (us ++ (codes ")" ++ r))))))) r (e.Binary o v w)
      go r false d = ReadsExpr.binary o (k.reads (codes " " ++ (binary_text o ++ (codes " " ++ (us ++ (codes ")" ++ r)))))) d (l.reads (codes ")" ++ r))
      go r true d = ReadsExpr.division o (k.reads (codes " " ++ (binary_text o ++ (codes " " ++ (us ++ (codes ")" ++ r)))))) d (l.divisor (divisor_of o u d h) (codes ")" ++ r))

  told_cond : (c a b : SvExpr) {s t u : Term} {cs ts us : Bytes} {x v w : RawExpr} → Told c s cs x → Told a t ts v → Told b u us w
      → Told (made (node.Cond c a b)) (Cond s t u) (codes "(" ++ cs ++ codes " ? " ++ ts ++ codes " : " ++ us ++ codes ")") (e.Cond x v w)
  told_cond c a b {s} {t} {u} {cs} {ts} {us} {x} {v} {w} j k l = record {
    reads = λ r. at_text (seven (codes "(") cs (codes " ? ") ts (codes " : ") us (codes ")") r)
        (ReadsExpr.cond (j.reads (codes " ? " ++ (ts ++ (codes " : " ++ (us ++ (codes ")" ++ r)))))) (k.reads (codes " : " ++ (us ++ (codes ")" ++ r)))) (l.reads (codes ")" ++ r)));
    literal = λ h. absurd h;
    divisor = λ h. absurd h;
    back = raw.of_cond bare x v w ∙ ap (λ y. made (node.Cond y (expr_of bare v) (expr_of bare w))) j.back ∙ ap (λ y. made (node.Cond c y (expr_of bare w))) k.back ∙ ap (λ y. made (node.Cond c a y)) l.back;
  }

  told_cast : (n : ℕ) (a : SvExpr) {t : Term} {ts : Bytes} {w : RawExpr} → n ≤ 128 → Told a t ts w
      → Told (made (node.Cast n a)) (Cast n t) (decimal n ++ codes "'(" ++ ts ++ codes ")") (e.Cast (decimal n) w)
  told_cast n a {t} {ts} {w} h k = record {
    reads = λ r. at_text (four (decimal n) (codes "'(") ts (codes ")") r) (ReadsExpr.cast (decimal n) (refl, decimal_is n h) (k.reads (codes ")" ++ r)));
    literal = λ h. absurd h;
    divisor = λ h. absurd h;
    back = raw.of_cast bare (decimal n) w ∙ ap (λ i. made (node.Cast i (expr_of bare w))) (small_decimal n h) ∙ ap (λ x. made (node.Cast n x)) k.back;
  }

  signed_divisor : (ts : Bytes) (w : RawExpr) → ((l : RawLiteral) × (w ≡ e.Literal l) × ((r : Bytes) → ReadsLiteral (ts ++ r) r l))
      → (r : Bytes) → ReadsDivisor ((codes "$signed(" ++ ts ++ codes ")") ++ r) r (e.Sign true w)
  signed_divisor ts w l r = rw (three (codes "$signed(") ts (codes ")") r, l.1) (ReadsDivisor.signed l.0 (l.2 (codes ")" ++ r)))

  told_sign : (s : Bool) (a : SvExpr) {t : Term} {ts : Bytes} {w : RawExpr} → Told a t ts w
      → Told (made (node.Sign s a)) (Sign s t) (sign_text s ++ ts ++ codes ")") (e.Sign s w)
  unfolding fixed_text
  told_sign true a {t} {ts} {w} k = record {
    reads = λ r. at_text (three (codes "$signed(") ts (codes ")") r) (ReadsExpr.sign true (k.reads (codes ")" ++ r)));
    literal = λ h. absurd h;
    divisor = λ h. signed_divisor ts w (k.literal h);
    back = raw.of_sign bare true w ∙ ap (λ x. made (node.Sign true x)) k.back;
  }
  told_sign false a {t} {ts} {w} k = record {
    reads = λ r. at_text (three (codes "$unsigned(") ts (codes ")") r) (ReadsExpr.sign false (k.reads (codes ")" ++ r)));
    literal = λ h. absurd h;
    divisor = λ h. absurd h;
    back = raw.of_sign bare false w ∙ ap (λ x. made (node.Sign false x)) k.back;
  }

  -- ---- concatenations

  told_each : (ps : List SvExpr) → Each Known ps → Each (Fits vars) (map term_of ps) → each_true (map expr_concats ps) ≡ true → Each IsTold ps
  told_each [] k f h = tt
  told_each (p ∷ ps) k f h = (k.0 f.0 (and_left (expr_concats p) _ h), told_each ps k.1 f.1 (and_right (expr_concats p) _ h))

  abbrev texts : List SvExpr → List Bytes
  texts ps = map (expr_text names) ps

  abbrev raws : List SvExpr → List RawExpr
  raws ps = map (raw_expr vars) ps

  reads_parts : (ps : List SvExpr) → Each IsTold ps → (r : Bytes) → ReadsParts (text.joined false (texts ps) ++ r) r (raws ps)
  unfolding fixed_text
  reads_parts [] k r = ReadsParts.no_parts
  reads_parts (p ∷ ps) k r =
      let P : Bytes → Type 0 = λ ts. ReadsParts ts r (raws (p ∷ ps)) in
      subst P (sym (three (codes ", ") (expr_text names p) (text.joined false (texts ps)) r)) (ReadsParts.part (k.0.reads (text.joined false (texts ps) ++ r)) (reads_parts ps k.1 r))

  back_parts : (ps : List SvExpr) → Each IsTold ps → map (expr_of bare) (raws ps) ≡ ps
  back_parts [] k = refl
  back_parts (p ∷ ps) k = ap (λ x. x ∷ map (expr_of bare) (raws ps)) k.0.back ∙ ap (λ xs. p ∷ xs) (back_parts ps k.1)

  told_concat : (a b : SvExpr) (ps : List SvExpr) → Each IsTold (a ∷ b ∷ ps)
      → Told (made (node.Concat (a ∷ b ∷ ps))) (joined (map term_of (a ∷ b ∷ ps))) (codes "{" ++ text.joined true (texts (a ∷ b ∷ ps)) ++ codes "}") (e.Concat (raws (a ∷ b ∷ ps)))
  unfolding fixed_text
  told_concat a b ps k = record {
    reads = λ r.
        let m : Bytes = text.joined false (texts ps) ++ (codes "}" ++ r) in
        at_text (three (codes "{") (text.joined true (texts (a ∷ b ∷ ps))) (codes "}") r
        ∙ ap (λ u. codes "{" ++ u) (two (expr_text names a) (text.joined false (texts (b ∷ ps))) (codes "}" ++ r) ∙ ap (λ u. expr_text names a ++ u) (three (codes ", ") (expr_text names b) (text.joined false (texts ps)) (codes "}" ++ r))))
        (ReadsExpr.concat (k.0.reads (codes ", " ++ (expr_text names b ++ m))) (k.1.0.reads m) (reads_parts ps k.1.1 (codes "}" ++ r)));
    literal = λ h. absurd h;
    divisor = λ h. absurd h;
    back = raw.of_concat bare (raws (a ∷ b ∷ ps)) ∙ ap (λ xs. made (node.Concat xs)) (back_parts (a ∷ b ∷ ps) k);
  }

  -- ---- every expression

  known_literal : (l : SvLiteral) → Known (made (node.Literal l))
  known_literal l = moved (made (node.Literal l)) (expr_made Term term_node (node.Literal l)) (expr_made Bool node_concats (node.Literal l)) (expr_made Bytes (node_text names) (node.Literal l)) (expr_made RawExpr (raw_node vars) (node.Literal l))
      (λ f h. told_literal l f)

  known_left : (l : SvLeft) → Known (made (node.Left l))
  known_left l = moved (made (node.Left l)) (expr_made Term term_node (node.Left l)) (expr_made Bool node_concats (node.Left l)) (expr_made Bytes (node_text names) (node.Left l)) (expr_made RawExpr (raw_node vars) (node.Left l))
      (λ f h. told_left l f)

  known_unary : (o : SvUnary) (a : SvExpr) → Known a → Known (made (node.Unary o a))
  unfolding fixed_text
  known_unary o a k = moved (made (node.Unary o a)) (expr_made Term term_node (node.Unary o a)) (expr_made Bool node_concats (node.Unary o a)) (expr_made Bytes (node_text names) (node.Unary o a)) (expr_made RawExpr (raw_node vars) (node.Unary o a))
      (λ f h. told_unary o a (k (of_unary vars o (term_of a) f) h))

  known_binary : (o : SvBinary) (a b : SvExpr) → Known a → Known b → Known (made (node.Binary o a b))
  unfolding fixed_text
  known_binary o a b k l = moved (made (node.Binary o a b)) (expr_made Term term_node (node.Binary o a b)) (expr_made Bool node_concats (node.Binary o a b)) (expr_made Bytes (node_text names) (node.Binary o a b)) (expr_made RawExpr (raw_node vars) (node.Binary o a b))
      (λ f h. told_binary o a b f.sized.2 (k (of_first vars o (term_of a) (term_of b) f) (and_left (expr_concats a) _ h)) (l (of_second vars o (term_of a) (term_of b) f) (and_right (expr_concats a) _ h)))

  known_cond : (c a b : SvExpr) → Known c → Known a → Known b → Known (made (node.Cond c a b))
  unfolding fixed_text
  known_cond c a b j k l = moved (made (node.Cond c a b)) (expr_made Term term_node (node.Cond c a b)) (expr_made Bool node_concats (node.Cond c a b)) (expr_made Bytes (node_text names) (node.Cond c a b)) (expr_made RawExpr (raw_node vars) (node.Cond c a b))
      (λ f h. told_cond c a b (j (of_test vars (term_of c) (term_of a) (term_of b) f) (and_left (expr_concats c) _ h))
      (k (of_then vars (term_of c) (term_of a) (term_of b) f) (and_left (expr_concats a) _ (and_right (expr_concats c) _ h)))
      (l (of_else vars (term_of c) (term_of a) (term_of b) f) (and_right (expr_concats a) _ (and_right (expr_concats c) _ h))))

  known_concat : (ps : List SvExpr) → Each Known ps → Known (made (node.Concat ps))
  unfolding fixed_text
  known_concat ps k = moved (made (node.Concat ps)) (expr_made Term term_node (node.Concat ps)) (expr_made Bool node_concats (node.Concat ps)) (expr_made Bytes (node_text names) (node.Concat ps)) (expr_made RawExpr (raw_node vars) (node.Concat ps))
      (go ps k)
    where
      go : (ps : List SvExpr) → Each Known ps → Fits vars (joined (map term_of ps)) → node_concats (node.Concat (map expr_concats ps)) ≡ true
          → Told (made (node.Concat ps)) (joined (map term_of ps)) (codes "{" ++ text.joined true (texts ps) ++ codes "}") (e.Concat (raws ps))
      go [] k f h = cc
      go (a ∷ []) k f h = cc
      go (a ∷ b ∷ more) k f h = told_concat a b more (told_each (a ∷ b ∷ more) k (of_parts vars (map term_of (a ∷ b ∷ more)) f) h)

  known_cast : (n : ℕ) (a : SvExpr) → Known a → Known (made (node.Cast n a))
  unfolding fixed_text
  known_cast n a k = moved (made (node.Cast n a)) (expr_made Term term_node (node.Cast n a)) (expr_made Bool node_concats (node.Cast n a)) (expr_made Bytes (node_text names) (node.Cast n a)) (expr_made RawExpr (raw_node vars) (node.Cast n a))
      (λ f h. told_cast n a f.sized.0.1 (k (of_cast vars n (term_of a) f) h))

  known_sign : (s : Bool) (a : SvExpr) → Known a → Known (made (node.Sign s a))
  unfolding fixed_text
  known_sign s a k = moved (made (node.Sign s a)) (expr_made Term term_node (node.Sign s a)) (expr_made Bool node_concats (node.Sign s a)) (expr_made Bytes (node_text names) (node.Sign s a)) (expr_made RawExpr (raw_node vars) (node.Sign s a))
      (λ f h. told_sign s a (k (of_sign vars s (term_of a) f) h))

  pub known : (x : SvExpr) → Known x
  known = by_expr Known known_literal known_left known_unary known_binary known_cond known_concat known_cast known_sign
