-- What the walk over sizes and undeclared names has noted, it keeps.
use Rattle.std.proofs.Common.{◌≡◌, ℕ, Bool, true, false, not, ◌+◌, ◌&&◌, List, [], ◌∷◌, length, map, sym, subst}
use Rattle.std.specs.Prelude.{Option}
use Rattle.scc_svtext.specs.ExprText.{binary_text}
use Rattle.scc_svread_grammar.specs.declared.raw.RawLiteral.{RawLiteral}
use Rattle.scc_svread_grammar.specs.declared.raw.RawExpr.{RawExpr}
use Rattle.scc_svread_grammar.specs.declared.raw.RawExpr.TheVariants as e
use Rattle.scc_svread_grammar.specs.declared.raw.RawStmt.{RawStmt}
use Rattle.scc_svread_grammar.specs.declared.raw.RawArm.{RawArm}
use Rattle.scc_svread_grammar.specs.declared.raw.RawSet.{RawSet}
use Rattle.scc_svread_grammar.specs.declared.raw.RawLoad.{RawLoad}
use Rattle.scc_svread_grammar.specs.declared.raw.RawBlock.{RawBlock}
use Rattle.scc_svread_grammar.specs.Lexical.{Bytes}
use Rattle.scc_svread_grammar.specs.Grammar.{is_division, ReadsDivisor, ReadsExpr, ReadsParts, ReadsStmt, ReadsStmts, ReadsArms, ReadsSets, ReadsBlock}
use Rattle.scc_svread_check.specs.Walking.{deeper}
use Rattle.scc_svread_check.specs.Scope.{Scope, number_in, is_width, is_wrong_literal, once}
use Rattle.scc_svread_check.specs.Parts.{Part, is_wrong_length, literal_bytes, select_bytes, sign_bytes, is_wrong_part, is_missing, name_walk, parts_walk, measured, literal_part, left_part, unary_part, binary_part, cond_part, concat_part, cast_part, sign_part, node_part, part_of}
use Rattle.scc_svread_check.specs.Lines.{Line, Choice, lines, other_line, is_wrong_label, with_label, choices, stmt_node, arm_node, line_of, choice_of}
use Rattle.scc_svread_check.specs.Blocks.{set_line, is_wrong_load, load_line, level_walk, block_walk}
use Rattle.scc_svread_written.proofs.Clear.{Keeps, keeps_pass, keeps_none, keeps_name, keeps_size, keeps_whole, ◌also◌}
use Rattle.scc_svread_written.proofs.RawFolds.{at_literal, at_left, at_unary, at_binary, at_cond, at_concat, at_cast, at_sign, at_assign, at_if, at_case, at_arm}

module _ (s : Scope) where
  keeps_named : (name : Bytes) → Keeps (name_walk s name)
  keeps_named name = keeps_name (is_missing s name) also keeps_pass _

  -- ---- expressions

  abbrev KeepsPart : Part → Type 0
  KeepsPart p = Keeps p.walk

  -- a part at a node, where what it walks over is kept
  at_node : (x : RawExpr) (p : Part) → part_of s x ≡ measured p → Keeps p.walk → KeepsPart (part_of s x)
  at_node x p e k = subst KeepsPart (sym e) (keeps_whole (is_wrong_length p.bits) k)

  literal_keeps : (l : RawLiteral) → KeepsPart (part_of s (e.Literal l))
  literal_keeps l = at_node _ (literal_part l) (at_literal Part (node_part s) l) (keeps_size (is_wrong_literal l) also keeps_pass (literal_bytes l))

  divisor_keeps : {ts r : Bytes} {x : RawExpr} → ReadsDivisor ts r x → KeepsPart (part_of s x)
  divisor_keeps (ReadsDivisor.plain l d) = literal_keeps l
  divisor_keeps (ReadsDivisor.signed l d) = at_node _ (sign_part true (part_of s (e.Literal l))) (at_sign Part (node_part s) true (e.Literal l)) (keeps_pass (sign_bytes true) also literal_keeps l also keeps_pass 1)

  mutual
    pub expr_keeps : {ts r : Bytes} {x : RawExpr} → ReadsExpr ts r x → KeepsPart (part_of s x)
    expr_keeps (ReadsExpr.literal l d) = literal_keeps l
    expr_keeps (ReadsExpr.left l d) = at_node _ (left_part s l) (at_left Part (node_part s) l)
        (keeps_size (is_wrong_part l.select (once s l.name)) also keeps_named l.name also keeps_pass (select_bytes l.select))
    expr_keeps (ReadsExpr.unary {op = op} {of = of} h d) = at_node _ (unary_part op (part_of s of)) (at_unary Part (node_part s) op of) (keeps_pass 2 also expr_keeps d also keeps_pass 1)
    expr_keeps (ReadsExpr.binary op {left = a} {right = b} d h f) = at_node _ (binary_part op (part_of s a) (part_of s b)) (at_binary Part (node_part s) op a b)
        (keeps_pass 1 also expr_keeps d also keeps_pass (length (binary_text op) + 2) also keeps_whole (is_division op && (part_of s b).zero) (expr_keeps f) also keeps_pass 1)
    expr_keeps (ReadsExpr.division op {left = a} {right = b} d h f) = at_node _ (binary_part op (part_of s a) (part_of s b)) (at_binary Part (node_part s) op a b)
        (keeps_pass 1 also expr_keeps d also keeps_pass (length (binary_text op) + 2) also keeps_whole (is_division op && (part_of s b).zero) (divisor_keeps f) also keeps_pass 1)
    expr_keeps (ReadsExpr.cond {test = t} {first = a} {second = b} d f g) = at_node _ (cond_part (part_of s t) (part_of s a) (part_of s b)) (at_cond Part (node_part s) t a b)
        (keeps_pass 1 also expr_keeps d also keeps_pass 3 also expr_keeps f also keeps_pass 3 also expr_keeps g also keeps_pass 1)
    expr_keeps (ReadsExpr.concat {first = a} {second = b} {more = more} d f g) = at_node _ (concat_part (map (part_of s) (a ∷ b ∷ more))) (at_concat Part (node_part s) (a ∷ b ∷ more))
        (keeps_pass 1 also expr_keeps d also (keeps_pass 2 also expr_keeps f) also parts_keep g also keeps_pass 1)
    expr_keeps (ReadsExpr.cast width {of = of} h d) = at_node _ (cast_part width (part_of s of)) (at_cast Part (node_part s) width of)
        (keeps_size (not (is_width (number_in width))) also keeps_pass (length width + 2) also expr_keeps d also keeps_pass 1)
    expr_keeps (ReadsExpr.sign signed {of = of} d) = at_node _ (sign_part signed (part_of s of)) (at_sign Part (node_part s) signed of) (keeps_pass (sign_bytes signed) also expr_keeps d also keeps_pass 1)

    parts_keep : {ts r : Bytes} {xs : List RawExpr} → ReadsParts ts r xs → Keeps (parts_walk 2 (map (part_of s) xs))
    parts_keep (ReadsParts.no_parts) = keeps_none
    parts_keep (ReadsParts.part d more) = keeps_pass 2 also expr_keeps d also parts_keep more

  -- ---- statements

  -- whatever the blanks before its lines
  abbrev KeepsLine : Line → Type 0
  KeepsLine l = (n : ℕ) → Keeps (l n)

  same_line : {f g : Line} → f ≡ g → KeepsLine g → KeepsLine f
  same_line e h = subst KeepsLine (sym e) h

  other_keeps : (xs : List Line) → KeepsLine (lines xs) → KeepsLine (other_line xs)
  other_keeps [] h n = keeps_none
  other_keeps (x ∷ xs) h n = keeps_pass (n + 15) also h (deeper n)

  mutual
    pub stmt_keeps : {i : ℕ} {ts r : Bytes} {x : RawStmt} → ReadsStmt i ts r x → KeepsLine (line_of s x)
    stmt_keeps (ReadsStmt.assign l {value = x} h d) = same_line (at_assign Line Choice (stmt_node s) arm_node l x)
        (λ n. keeps_pass n also (keeps_size (is_wrong_part l.select (once s l.name)) also keeps_named l.name also keeps_pass (select_bytes l.select)) also keeps_pass 3 also expr_keeps d also keeps_pass 2)
    stmt_keeps (ReadsStmt.if_only {test = c} {body = a} d f) = same_line (at_if Line Choice (stmt_node s) arm_node c a [])
        (λ n. keeps_pass (n + 4) also expr_keeps d also keeps_pass 8 also stmts_keep f (deeper n) also keeps_none also keeps_pass (n + 4))
    stmt_keeps (ReadsStmt.if_else {test = c} {body = a} {first = b} {more = bs} d f g) = same_line (at_if Line Choice (stmt_node s) arm_node c a (b ∷ bs))
        (λ n. keeps_pass (n + 4) also expr_keeps d also keeps_pass 8 also stmts_keep f (deeper n) also other_keeps (map (line_of s) (b ∷ bs)) (stmts_keep g) n also keeps_pass (n + 4))
    stmt_keeps (ReadsStmt.case {of = x} {arms = arms} d f) = same_line (at_case Line Choice (stmt_node s) arm_node x arms)
        (λ n. keeps_pass (n + 6) also expr_keeps d also keeps_pass 2 also arms_keep f (part_of s x).bits [] (deeper n) also keeps_pass (n + 8))

    stmts_keep : {i : ℕ} {ts r : Bytes} {xs : List RawStmt} → ReadsStmts i ts r xs → KeepsLine (lines (map (line_of s) xs))
    stmts_keep (ReadsStmts.no_stmts) n = keeps_none
    stmts_keep (ReadsStmts.stmt d more) n = stmt_keeps d n also stmts_keep more n

    arms_keep : {i : ℕ} {ts r : Bytes} {xs : List RawArm} → ReadsArms i ts r xs → (bits : Option ℕ) (before : List Bytes) → KeepsLine (choices bits before (map (choice_of s) xs))
    arms_keep (ReadsArms.no_arms) bits before n = keeps_none
    arms_keep (ReadsArms.one_arm label {body = body} {more = more} l d rest) bits before n =
        let P : Choice → Type 0 = λ c. Keeps (choices bits before (c ∷ map (choice_of s) more) n) in
        subst P (sym (at_arm Line Choice (stmt_node s) arm_node label body))
        (keeps_pass n also keeps_size (is_wrong_label bits before label) also keeps_pass (literal_bytes label + 8) also stmts_keep d (deeper n) also keeps_pass (n + 4) also arms_keep rest bits (with_label before label) n)

  -- ---- edges

  sets_keep : {i : ℕ} {ts r : Bytes} {xs : List RawSet} → ReadsSets i ts r xs → KeepsLine (lines (map (set_line s) xs))
  sets_keep (ReadsSets.no_sets) n = keeps_none
  sets_keep (ReadsSets.set {target = target} h d more) n = keeps_pass n also keeps_named target also keeps_pass 4 also expr_keeps d also keeps_pass 2 also sets_keep more n

  loads_keep : (ls : List RawLoad) → KeepsLine (lines (map (load_line s) ls))
  loads_keep [] n = keeps_none
  loads_keep (l ∷ ls) n = keeps_pass n also keeps_named l.target also keeps_pass 4 also keeps_size (is_wrong_load s l) also keeps_pass (literal_bytes l.value + 2) also loads_keep ls n

  level_keeps : (negated : Bool) (name : Bytes) → Keeps (level_walk s negated name)
  level_keeps true name = keeps_pass 2 also keeps_named name also keeps_pass 9
  level_keeps false name = keeps_named name also keeps_pass 8

  -- ---- blocks

  pub block_keeps : {ts r : Bytes} {b : RawBlock} → ReadsBlock ts r b → Keeps (block_walk s b)
  block_keeps (ReadsBlock.comb d) = keeps_pass 20 also stmts_keep d 4 also keeps_pass 6
  block_keeps (ReadsBlock.edge {clock = clock} c d) = keeps_pass 22 also keeps_named clock also (keeps_pass 8 also sets_keep d 4 also keeps_pass 6)
  block_keeps (ReadsBlock.edge_or_reset {clock = clock} {signal = signal} {level = level} c {negated = negated} {values = values} h i l v d) =
      keeps_pass 22 also keeps_named clock
      also (keeps_pass 12 also keeps_named signal also keeps_pass 16 also level_keeps negated level also loads_keep values 6 also keeps_pass 19 also sets_keep d 6 also keeps_pass 14)
