-- Statements that were read, and over which the first walk notes nothing: a `case` and its arms, and every statement.
use Rattle.std.proofs.Common.{◌≡◌, ◌<◌, ◌+◌, ◌/◌, ◌^◌, ℕ, Bool, true, false, ◌||◌, nat_eq, List, [], ◌∷◌, ◌++◌, map, decimal, Some, refl, sym, subst, ap, ◌∙◌}
use Rattle.std.specs.Prelude.{codes, bytes_eq, Option, if◌then◌else◌}
use Rattle.std.specs.List.{list_any}
use Rattle.std.proofs.lemmas.Bool.{eqb-true, both_ways}
use Rattle.std.proofs.lemmas.List.Folds.{list_any-append}
use Rattle.scc_svtree.specs.declared.module.SvVar.{SvVar}
use Rattle.scc_svtree.specs.declared.stmt.SvStmt.{SvStmt, fold-SvStmt}
use Rattle.scc_svtree.specs.declared.stmt.SvStmt.TheOpen.{SvStmt-F, SvArm-F}
use Rattle.scc_svtree.specs.declared.stmt.SvStmt.TheOpen as stmt
use Rattle.scc_svtree.specs.declared.stmt.SvArm.{SvArm, roll-SvArm, map-SvArm, fold-SvArm, fold-roll-SvArm}
use Rattle.scc_svtree.specs.Variables.{width_at, IsWidth}
use Rattle.scc_svtree.specs.Term.{Term, term_of}
use Rattle.scc_svtree.specs.Sizes.{length_of}
use Rattle.scc_svtree.specs.Code.{Code, End, Case, Arms, None, Arm, before, stmt_code}
use Rattle.scc_svtree.specs.Code as code
use Rattle.scc_svtree.specs.Mentions.{reads, code_reads, arms_read, assigns, arms_assign}
use Rattle.scc_svtree.specs.Concats.{each_true, expr_concats, stmt_concats, stmt_node_concats, arm_concats}
use Rattle.scc_svtree.specs.Sound.{AreNamed, Each, labels, IsAbsent, Distinct}
use Rattle.scc_svtext.specs.Fixed.{fixed_text}
use Rattle.scc_svtext.specs.Pieces.{blanks, hex_text, literal_text}
use Rattle.scc_svtext.specs.ExprText.{expr_text}
use Rattle.scc_svtext.specs.StmtText.{Laid, all_at, stmt_node_text, arm_node_text, stmt_text, arm_text}
use Rattle.scc_svtext.specs.ModuleText.{names_of}
use Rattle.scc_svread_grammar.specs.declared.raw.RawLiteral.{RawLiteral}
use Rattle.scc_svread_grammar.specs.declared.raw.RawExpr.{RawExpr}
use Rattle.scc_svread_grammar.specs.declared.raw.RawStmt.{RawStmt}
use Rattle.scc_svread_grammar.specs.declared.raw.RawStmt.TheVariants as raw
use Rattle.scc_svread_grammar.specs.declared.raw.RawArm.{RawArm}
use Rattle.scc_svread_grammar.specs.Lexical.{Bytes, ReadsLiteral}
use Rattle.scc_svread_grammar.specs.Grammar.{arm, ReadsStmt, ReadsStmts, ReadsArms}
use Rattle.scc_svread_check.specs.Numbers.{small_number, word_number}
use Rattle.scc_svread_written.specs.Resolved.{literal_of, expr_of, stmt_of}
use Rattle.scc_svread_check.specs.Walking as walking
use Rattle.scc_svread_check.specs.Scope.{Scope, number_in, is_wrong_literal}
use Rattle.scc_svread_check.specs.Parts.{cut, literal_bytes, part_of}
use Rattle.scc_svread_check.specs.Lines.{Line, Choice, label_text, is_other_length, is_wrong_label, with_label, choices, stmt_node, arm_node, choice_of}
use Rattle.scc_svread_written.proofs.Decimals.{both}
use Rattle.scc_svread_written.proofs.Formed.{Declares}
use Rattle.scc_svread_written.proofs.Sums.{two, six, seven}
use Rattle.scc_svread_written.proofs.Leaves.{bare_names, same_bytes}
use Rattle.scc_svread_written.proofs.Fits.{Fits, FitsCode, FitsArms}
use Rattle.scc_svread_written.proofs.Statements.{deeper}
use Rattle.scc_svread_written.proofs.RawTrees.{of_case, of_arm, arm_of}
use Rattle.scc_svread_written.proofs.RawFolds.{at_case, at_arm}
use Rattle.scc_svread_sizes.proofs.MeantWalks.{Demands, demands_by, demands_then, demands_none, pass_first, pass_last, demands_size}
use Rattle.scc_svread_sizes.proofs.MeantLeaves.{or_left, or_right, not_false, MeantLiteral, literal_meant}
use Rattle.scc_svread_sizes.proofs.MeantOperators.{either, cut_is}
use Rattle.scc_svread_sizes.proofs.MeantExpressions.{IsMeant, expr_meant}
use Rattle.scc_svread_sizes.proofs.MeantLines.{end_fits, IsMeantStmt, moved, MeantStmts, AreMeantStmts, meant_no_stmts, meant_more, meant_assign, meant_if, meant_if_else}

-- ---- labels

-- a label's text, by its length and its number
abbrev label_of : ℕ → ℕ → Bytes
label_of n v = decimal n ++ codes "'" ++ hex_text ((n + 3) / 4) v

abbrev IsOutside : ℕ → List Bytes → ℕ → Type 0
IsOutside n before v = list_any (bytes_eq (label_of n v)) before ≡ false

-- numbers whose texts are none of those before nor a further one's: they differ from that one
split_off : (n v : ℕ) (before : List Bytes) (ms : List ℕ) → Each (IsOutside n (before ++ label_of n v ∷ [])) ms → IsAbsent v ms × Each (IsOutside n before) ms
split_off n v before [] h = (tt, tt)
split_off n v before (m ∷ ms) h =
    let t : Bool = bytes_eq (label_of n m) (label_of n v) in
    let neither : (list_any (bytes_eq (label_of n m)) before || (t || false)) ≡ false = sym (list_any-append (bytes_eq (label_of n m)) before (label_of n v ∷ [])) ∙ h.0 in
    let other : t ≡ false = or_left t false (or_right (list_any (bytes_eq (label_of n m)) before) (t || false) neither) in
    let more = split_off n v before ms h.1 in (
      ((λ e. both_ways t other (ap (λ k. bytes_eq (label_of n m) (label_of n k)) e ∙ same_bytes (label_of n m))), more.0),
      (or_left (list_any (bytes_eq (label_of n m)) before) (t || false) neither, more.1),
    )

-- it has the length that is asked of it
pub length_is : {ts r : Bytes} (size : Option ℕ) (l : RawLiteral) → MeantLiteral ts r l → is_other_length size l ≡ false → (n : ℕ) → size ≡ Some n → small_number l.width ≡ n
length_is size l m h n e =
    let k : cut (number_in l.width) ≡ n = eqb-true (cut (number_in l.width)) n (not_false (nat_eq (cut (number_in l.width)) n) (ap (λ o. is_other_length o l) (sym e) ∙ h)) in
    sym (cut_is (small_number l.width) m.width.1) ∙ ap cut (sym m.bits) ∙ k

-- a number of its width, whose text is none of those before, and which has the selector's length
record MeantLabel (size : Option ℕ) (before : List Bytes) (ts r : Bytes) (l : RawLiteral) : Type 0 where
  literal : MeantLiteral ts r l
  outside : list_any (bytes_eq (label_text l)) before ≡ false
  same : (n : ℕ) → size ≡ Some n → small_number l.width ≡ n

label_meant : {ts r : Bytes} (size : Option ℕ) (before : List Bytes) (l : RawLiteral) → ReadsLiteral ts r l → is_wrong_label size before l ≡ false → MeantLabel size before ts r l
label_meant size before l d h =
    let first = or_left (is_wrong_literal l || is_other_length size l) _ h in
    let m = literal_meant l d (or_left (is_wrong_literal l) _ first) in record {
      literal = m;
      outside = or_right (is_wrong_literal l || is_other_length size l) _ h;
      same = length_is size l m (or_right (is_wrong_literal l) _ first);
    }

label_written : {ts r : Bytes} (l : RawLiteral) → MeantLiteral ts r l → label_text l ≡ label_of (small_number l.width) (word_number l.digits)
label_written l m = ap (λ u. u ++ codes "'" ++ l.digits) (sym m.written) ∙ ap (λ u. decimal (small_number l.width) ++ codes "'" ++ u) (sym m.digits)

module _ (vars : List SvVar) where
  case_fits : (t : Term) (arms : Arms) (rest : Code) → Fits vars t → FitsArms vars (length_of (width_at vars) t) arms → Distinct (labels arms) → FitsCode vars rest → FitsCode vars (Case t arms rest)
  case_fits t arms rest f g h i = record {
    sized = (f.sized, g.sized, h, i.sized);
    read = λ v. either (reads t v || arms_read arms v) (code_reads rest v) (either (reads t v) (arms_read arms v) (f.named v) (g.read v)) (i.read v);
    assigned = λ v. either (arms_assign arms v) (assigns rest v) (g.assigned v) (i.assigned v);
  }

  arm_fits : (n w v : ℕ) (body : Code) (more : Arms) → w ≡ n → v < 2 ^ w → FitsCode vars body → FitsArms vars n more → FitsArms vars n (Arm w v body more)
  arm_fits n w v body more e l f g = record {
    sized = (e, l, f.sized, g.sized);
    read = λ v. either (code_reads body v) (arms_read more v) (f.read v) (g.read v);
    assigned = λ v. either (assigns body v) (arms_assign more v) (f.assigned v) (g.assigned v);
  }

  no_arms_fit : (n : ℕ) → FitsArms vars n None
  no_arms_fit n = record { sized = tt; read = λ v h. cc; assigned = λ v h. cc }

module _ (vars : List SvVar) (named : AreNamed vars) (widths : Each (λ v. IsWidth v.width) vars) (s : Scope) (d : Declares s vars) where
  abbrev names : List Bytes
  names = names_of vars

  abbrev bare : List Bytes
  bare = bare_names vars

  abbrev IsMeantLine : ℕ → Bytes → Bytes → RawStmt → Type 0
  IsMeantLine n ts r x = IsMeantStmt vars named widths s d n ts r x

  abbrev AreMeantLines : ℕ → Bytes → Bytes → List RawStmt → Type 0
  AreMeantLines n ts r xs = AreMeantStmts vars named widths s d n ts r xs

  -- ---- arms

  abbrev arm_code : SvArm → Arms → Arms
  arm_code = fold-SvArm (Code → Code) (Arms → Arms) code.stmt_node code.arm_node

  abbrev arm_test : SvArm → Bool
  arm_test = fold-SvArm Bool Bool stmt_node_concats arm_concats

  -- what is known of arms that were read, of a selector of this length behind labels with these texts
  record MeantArms (size : Option ℕ) (before : List Bytes) (n : ℕ) (ts r : Bytes) (arms : Arms) (texts : List Laid) (tests : List Bool) : Type 0 where
    text : blanks n ++ ts ≡ all_at (n + 2) texts ++ (blanks n ++ r)
    fits : (k : ℕ) → size ≡ Some k → FitsArms vars k arms
    outside : (k : ℕ) → size ≡ Some k → Each (IsOutside k before) (labels arms)
    distinct : (k : ℕ) → size ≡ Some k → Distinct (labels arms)
    concats : each_true tests ≡ true

  abbrev AreMeantArms : ℕ → Bytes → Bytes → List RawArm → Type 0
  AreMeantArms n ts r xs = (size : Option ℕ) (texts : List Bytes) (m : ℕ) → Demands (choices size texts (map (choice_of s) xs) m)
      (MeantArms size texts n ts r (before (map arm_code (map (arm_of bare) xs)) None) (map (arm_text names) (map (arm_of bare) xs)) (map arm_test (map (arm_of bare) xs)))

  meant_no_arms : {n : ℕ} {r : Bytes} → AreMeantArms n r r []
  meant_no_arms {n} {r} size texts m = demands_none (record { text = refl; fits = λ k e. no_arms_fit vars k; outside = λ k e. tt; distinct = λ k e. tt; concats = refl })

  -- what a definition says of an arm
  abbrev At : (A B : Type 0) → (SvStmt-F A B → A) → (SvArm-F A B → B) → SvArm-F SvStmt SvArm → B
  At A B step arm_step y = arm_step (map-SvArm SvStmt SvArm A B (fold-SvStmt A B step arm_step) (fold-SvArm A B step arm_step) y)

  moved_arm : {size : Option ℕ} {before : List Bytes} {n : ℕ} {ts r : Bytes} {arms : Arms} {texts : List Laid} {tests : List Bool} (y : SvArm-F SvStmt SvArm) {x : SvArm} → x ≡ roll-SvArm y
      → MeantArms size before n ts r (At (Code → Code) (Arms → Arms) code.stmt_node code.arm_node y arms) (At Laid Laid (stmt_node_text names) arm_node_text y ∷ texts) (At Bool Bool stmt_node_concats arm_concats y ∷ tests)
      → MeantArms size before n ts r (arm_code x arms) (arm_text names x ∷ texts) (arm_test x ∷ tests)
  moved_arm y e k =
      rw (e, fold-roll-SvArm (Code → Code) (Arms → Arms) code.stmt_node code.arm_node y, fold-roll-SvArm Laid Laid (stmt_node_text names) arm_node_text y, fold-roll-SvArm Bool Bool stmt_node_concats arm_concats y) k

  module _ (n : ℕ) (a b c r : Bytes) (label : RawLiteral) (body : List RawStmt) (more : List RawArm) (size : Option ℕ) (texts : List Bytes) where
    abbrev node : SvArm-F SvStmt SvArm
    node = record { label = literal_of label; body = map (stmt_of bare) body }

    abbrev later : Arms
    later = before (map arm_code (map (arm_of bare) more)) None

    abbrev later_texts : List Laid
    later_texts = map (arm_text names) (map (arm_of bare) more)

    abbrev later_tests : List Bool
    later_tests = map arm_test (map (arm_of bare) more)

    label_is : {ts q : Bytes} (k : ℕ) → small_number label.width ≡ k → MeantLiteral ts q label → label_text label ≡ label_of k (word_number label.digits)
    label_is k e f = label_written label f ∙ ap (λ j. label_of j (word_number label.digits)) e

    -- the labels of later arms are none of those before, and not this one
    apart : {ts q : Bytes} (k : ℕ) → small_number label.width ≡ k → MeantLabel size texts ts q label → Each (IsOutside k (with_label texts label)) (labels later)
        → IsAbsent (word_number label.digits) (labels later) × Each (IsOutside k texts) (labels later)
    apart k e f h =
        let with : with_label texts label ≡ texts ++ label_of k (word_number label.digits) ∷ [] =
        ap (λ t. if t then texts else texts ++ label_text label ∷ []) f.outside ∙ ap (λ t. texts ++ t ∷ []) (label_is k e f.literal) in
        split_off k (word_number label.digits) texts (labels later) (subst (λ bs. Each (IsOutside k bs) (labels later)) with h)

    put : MeantLabel size texts a (codes ": begin\n" ++ (blanks (n + 2) ++ b)) label → MeantStmts vars named widths s d (n + 2) b (codes "end\n" ++ (blanks n ++ c)) body
        → MeantArms size (with_label texts label) n c r later later_texts later_tests
        → MeantArms size texts n (codes "  " ++ a) r (At (Code → Code) (Arms → Arms) code.stmt_node code.arm_node node later) (At Laid Laid (stmt_node_text names) arm_node_text node ∷ later_texts)
        (At Bool Bool stmt_node_concats arm_concats node ∷ later_tests)
    unfolding fixed_text
    put f g h =
        let w : ℕ = small_number label.width in
        let v : ℕ = word_number label.digits in
        let u : Bytes = literal_text w v in
        let inner : Bytes = all_at (n + 2 + 2) (map (stmt_text names) (map (stmt_of bare) body)) in
        let own : Bytes = arm_node_text (record { label = literal_of label; body = map (stmt_text names) (map (stmt_of bare) body) }) (n + 2) in
        record {
          text = sym (deeper n a) ∙ ap (λ t. blanks (n + 2) ++ t) (f.literal.text ∙ ap (λ t. u ++ (codes ": begin\n" ++ t)) g.text)
              ∙ sym (six (blanks (n + 2)) u (codes ": begin\n") inner (blanks (n + 2)) (codes "end\n") (blanks n ++ c)) ∙ ap (λ t. own ++ t) h.text ∙ sym (two own (all_at (n + 2) later_texts) (blanks n ++ r));
          fits = λ k e. arm_fits vars k w v (before (map stmt_code (map (stmt_of bare) body)) End) later (f.same k e) f.literal.fits (g.fits End (end_fits vars)) (h.fits k e);
          outside = λ k e. (ap (λ t. list_any (bytes_eq t) texts) (sym (label_is k (f.same k e) f.literal)) ∙ f.outside, (apart k (f.same k e) f (h.outside k e)).1);
          distinct = λ k e. ((apart k (f.same k e) f (h.outside k e)).0, h.distinct k e);
          concats = both (each_true (map stmt_concats (map (stmt_of bare) body))) _ g.concats h.concats;
        }

  meant_arm : {n : ℕ} {a b c r : Bytes} (label : RawLiteral) (body : List RawStmt) (more : List RawArm) → ReadsLiteral a (codes ": begin\n" ++ (blanks (n + 2) ++ b)) label
      → AreMeantLines (n + 2) b (codes "end\n" ++ (blanks n ++ c)) body → AreMeantArms n c r more → AreMeantArms n (codes "  " ++ a) r (arm label body ∷ more)
  meant_arm {n} {a} {b} {c} {r} label body more q k l size texts m =
      let Q : Choice → Type 0 = λ o. Demands (choices size texts (o ∷ map (choice_of s) more) m)
      (MeantArms size texts n (codes "  " ++ a) r (arm_code (arm_of bare (arm label body)) (later n a b c r label body more size texts)) (arm_text names (arm_of bare (arm label body)) ∷ later_texts n a b c r label body more size texts)
      (arm_test (arm_of bare (arm label body)) ∷ later_tests n a b c r label body more size texts)) in
      subst Q (sym (at_arm Line Choice (stmt_node s) arm_node label body))
      (demands_by (λ h. moved_arm (node n a b c r label body more size texts) (of_arm bare label body) (put n a b c r label body more size texts (label_meant size texts label q h.0.0) h.0.1 h.1))
      (demands_then (pass_last (m + 4) (demands_then (pass_last (literal_bytes label + 8) (pass_first m (demands_size (is_wrong_label size texts label)))) (k (walking.deeper m)))) (l size (with_label texts label) m)))

  -- ---- every statement

  meant_case : {n : ℕ} {a b r : Bytes} (x : RawExpr) (arms : List RawArm) → IsMeant vars named widths s d a (codes ")\n" ++ (blanks n ++ b)) x → AreMeantArms n b (codes "endcase\n" ++ r) arms
      → IsMeantLine n (codes "case (" ++ a) r (raw.Case x arms)
  unfolding fixed_text
  meant_case {n} {a} {b} {r} x arms e k = moved vars named widths s d {n = n} {ts = codes "case (" ++ a} {r = r} (stmt.Case (expr_of bare x) (map (arm_of bare) arms)) (of_case bare x arms) (at_case Line Choice (stmt_node s) arm_node x arms)
      (λ m. demands_by (λ h.
      let f = h.0 in
      let g = h.1 in
      let u : Bytes = expr_text names (expr_of bare x) in
      let t : Term = term_of (expr_of bare x) in
      let size : ℕ = length_of (width_at vars) t in
      let inner : Bytes = all_at (n + 2) (map (arm_text names) (map (arm_of bare) arms)) in record {
        text = ap (λ w. blanks n ++ (codes "case (" ++ w)) (f.text ∙ ap (λ w. u ++ (codes ")\n" ++ w)) g.text) ∙ sym (seven (blanks n) (codes "case (") u (codes ")\n") inner (blanks n) (codes "endcase\n") r);
        fits = λ rest i. case_fits vars t (before (map arm_code (map (arm_of bare) arms)) None) rest f.fits (g.fits size f.bits) (g.distinct size f.bits) i;
        concats = both (expr_concats (expr_of bare x)) _ f.concats g.concats;
      }) (pass_last (m + 8) (demands_then (pass_last 2 (pass_first (m + 6) e)) (k (part_of s x).bits [] (walking.deeper m)))))

  mutual
    pub stmt_meant : {n : ℕ} {ts r : Bytes} {x : RawStmt} → ReadsStmt n ts r x → IsMeantLine n ts r x
    stmt_meant (ReadsStmt.assign l {value = x} k e) = meant_assign vars named widths s d l x k (expr_meant vars named widths s d e)
    stmt_meant (ReadsStmt.if_only {n = n} {a = a} {b = b} {test = x} {body = xs} e k) = meant_if vars named widths s d n a b x xs (expr_meant vars named widths s d e) (stmts_meant k)
    stmt_meant (ReadsStmt.if_else {n = n} {a = a} {b = b} {test = x} {body = xs} {first = y} {more = ys} e k l) =
        meant_if_else vars named widths s d n a b x xs (expr_meant vars named widths s d e) y ys (stmts_meant k) (stmts_meant l)
    stmt_meant (ReadsStmt.case {of = x} {arms = arms} e k) = meant_case x arms (expr_meant vars named widths s d e) (arms_meant k)

    pub stmts_meant : {n : ℕ} {ts r : Bytes} {xs : List RawStmt} → ReadsStmts n ts r xs → AreMeantLines n ts r xs
    stmts_meant (ReadsStmts.no_stmts) = meant_no_stmts vars named widths s d
    stmts_meant (ReadsStmts.stmt {first = x} {more = xs} k l) = meant_more vars named widths s d x xs (stmt_meant k) (stmts_meant l)

    arms_meant : {n : ℕ} {ts r : Bytes} {xs : List RawArm} → ReadsArms n ts r xs → AreMeantArms n ts r xs
    arms_meant (ReadsArms.no_arms) = meant_no_arms
    arms_meant (ReadsArms.one_arm label {body = body} {more = more} q k l) = meant_arm label body more q (stmts_meant k) (arms_meant l)
