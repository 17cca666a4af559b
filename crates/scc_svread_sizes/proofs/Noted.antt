-- What the walk over drivers has noted, it keeps; so where it notes nothing, each reset's condition is that of its edge.
use Rattle.std.proofs.Common.{◌≡◌, ℕ, Bool, true, false, ◌+◌, ◌||◌, List, [], ◌∷◌, length, map, refl, sym, subst, ◌∙◌}
use Rattle.std.specs.Prelude.{Some, None}
use Rattle.scc_svtree.specs.Sound.{Each}
use Rattle.scc_svtext.specs.ExprText.{binary_text}
use Rattle.scc_svtext.specs.Pieces.{spelled}
use Rattle.scc_svread_grammar.specs.declared.raw.RawLiteral.{RawLiteral}
use Rattle.scc_svread_grammar.specs.declared.raw.RawExpr.{RawExpr}
use Rattle.scc_svread_grammar.specs.declared.raw.RawExpr.TheVariants as e
use Rattle.scc_svread_grammar.specs.declared.raw.RawStmt.{RawStmt}
use Rattle.scc_svread_grammar.specs.declared.raw.RawArm.{RawArm}
use Rattle.scc_svread_grammar.specs.declared.raw.RawSet.{RawSet}
use Rattle.scc_svread_grammar.specs.declared.raw.RawLoad.{RawLoad}
use Rattle.scc_svread_grammar.specs.declared.raw.RawReset.{RawReset}
use Rattle.scc_svread_grammar.specs.declared.raw.RawBlock.{RawBlock}
use Rattle.scc_svread_grammar.specs.declared.raw.RawBlock.TheVariants.{Comb, Edge}
use Rattle.scc_svread_grammar.specs.declared.raw.RawVar.{RawVar}
use Rattle.scc_svread_grammar.specs.declared.raw.RawItem.{RawItem}
use Rattle.scc_svread_grammar.specs.declared.raw.RawItem.TheVariants.{Block}
use Rattle.scc_svread_grammar.specs.declared.raw.RawModule.{RawModule}
use Rattle.scc_svread_grammar.specs.Lexical.{Bytes}
use Rattle.scc_svread_grammar.specs.Grammar.{ReadsDivisor, ReadsExpr, ReadsParts, ReadsStmt, ReadsStmts, ReadsArms, ReadsSets, ReadsBlock, ReadsItems, ReadsModule, Reads}
use Rattle.scc_svread_grammar.specs.declared.raw.RawExpr.TheOpen.{RawExpr-F}
use Rattle.scc_svread_check.specs.declared.walk.Walk.{Walk}
use Rattle.scc_svread_check.specs.declared.facts.Facts.{Facts}
use Rattle.scc_svread_check.specs.declared.facts.Taken.{Taken}
use Rattle.scc_svread_check.specs.Mentioned.{with_name}
use Rattle.scc_svread_written.specs.Resolved.{blocks_in}
use Rattle.scc_svread_check.specs.Walking.{Walking, ◌then◌, mark, pass, name_if, deeper, start}
use Rattle.scc_svread_check.specs.Parts.{literal_bytes, select_bytes, sign_bytes}
use Rattle.scc_svread_check.specs.Mentioned.{Names, block_assigned}
use Rattle.scc_svread_check.specs.Within.{Known, known, mention, is_early, parts_names, expr_node_names, expr_names, Own, Chosen, inner, is_wrong_left, other_names, arms_names, stmt_node_names, arm_node_names, stmt_names, chosen_of, whole_after, own_lines}
use Rattle.scc_svread_check.specs.Blocks.{dir_bytes}
use Rattle.scc_svread_check.specs.Drivers.{anywhere, is_undriven, var_names, further_names, ports_names, is_wrong_target, sets_names, behind, is_out_of_order, left_over, loads_names, is_wrong_level, is_wrong_signal, is_wrong_clock, block_names, taken_behind, items_walk, nothing, facts_of, names_of}
use Rattle.scc_svread_written.proofs.Clear.{none_left, none_right, unmarked}
use Rattle.scc_svread_written.proofs.RawFolds.{at_literal, at_left, at_unary, at_binary, at_cond, at_concat, at_cast, at_sign, at_assign, at_if, at_case, at_arm}

-- A walk over names notes no size; where it has noted no name at its end, none was noted before it.
pub record Keeps (p : Walking) : Type 0 where
  pub keeps : (w : Walk) → (p w).name ≡ None → w.name ≡ None
  pub size : (w : Walk) → (p w).size ≡ w.size

keeps_pass : (n : ℕ) → Keeps (pass n)
keeps_pass n = record { keeps = λ w c. c; size = λ w. refl }

keeps_none : Keeps (λ w. w)
keeps_none = record { keeps = λ w c. c; size = λ w. refl }

keeps_name : (b : Bool) → Keeps (name_if b)
keeps_name b = record { keeps = λ w c. none_left w.name (mark b w.at) c; size = λ w. refl }

infixl 10 ◌also◌
◌also◌ : {p q : Walking} → Keeps p → Keeps q → Keeps (p then q)
◌also◌ {p} a b = record { keeps = λ w c. a.keeps w (b.keeps (p w) c); size = λ w. b.size (p w) ∙ a.size w }

same_walk : {p q : Walking} → p ≡ q → Keeps q → Keeps p
same_walk e k = subst Keeps (sym e) k

keeps_mention : (b : Bool) (name : Bytes) → Keeps (mention b name)
keeps_mention b name = keeps_name b also keeps_pass _

-- ---- expressions

module _ (k : Known) where
  abbrev step : RawExpr-F Walking → Walking
  step = expr_node_names k

  literal_keeps : (l : RawLiteral) → Keeps (expr_names k (e.Literal l))
  literal_keeps l = same_walk (at_literal Walking step l) (keeps_pass (literal_bytes l))

  divisor_keeps : {ts r : Bytes} {x : RawExpr} → ReadsDivisor ts r x → Keeps (expr_names k x)
  divisor_keeps (ReadsDivisor.plain l d) = literal_keeps l
  divisor_keeps (ReadsDivisor.signed l d) = same_walk (at_sign Walking step true (e.Literal l)) (keeps_pass (sign_bytes true) also literal_keeps l also keeps_pass 1)

  mutual
    pub expr_keeps : {ts r : Bytes} {x : RawExpr} → ReadsExpr ts r x → Keeps (expr_names k x)
    expr_keeps (ReadsExpr.literal l d) = literal_keeps l
    expr_keeps (ReadsExpr.left l d) = same_walk (at_left Walking step l) (keeps_mention (is_early k l.name) l.name also keeps_pass (select_bytes l.select))
    expr_keeps (ReadsExpr.unary {op = op} {of = of} h d) = same_walk (at_unary Walking step op of) (keeps_pass 2 also expr_keeps d also keeps_pass 1)
    expr_keeps (ReadsExpr.binary op {left = a} {right = b} d h f) = same_walk (at_binary Walking step op a b)
        (keeps_pass 1 also expr_keeps d also keeps_pass (length (binary_text op) + 2) also expr_keeps f also keeps_pass 1)
    expr_keeps (ReadsExpr.division op {left = a} {right = b} d h f) = same_walk (at_binary Walking step op a b)
        (keeps_pass 1 also expr_keeps d also keeps_pass (length (binary_text op) + 2) also divisor_keeps f also keeps_pass 1)
    expr_keeps (ReadsExpr.cond {test = t} {first = a} {second = b} d f g) = same_walk (at_cond Walking step t a b)
        (keeps_pass 1 also expr_keeps d also keeps_pass 3 also expr_keeps f also keeps_pass 3 also expr_keeps g also keeps_pass 1)
    expr_keeps (ReadsExpr.concat {first = a} {second = b} {more = more} d f g) = same_walk (at_concat Walking step (a ∷ b ∷ more))
        (keeps_pass 1 also expr_keeps d also (keeps_pass 2 also expr_keeps f) also parts_keep g also keeps_pass 1)
    expr_keeps (ReadsExpr.cast width {of = of} h d) = same_walk (at_cast Walking step width of) (keeps_pass (length width + 2) also expr_keeps d also keeps_pass 1)
    expr_keeps (ReadsExpr.sign signed {of = of} d) = same_walk (at_sign Walking step signed of) (keeps_pass (sign_bytes signed) also expr_keeps d also keeps_pass 1)

    parts_keep : {ts r : Bytes} {xs : List RawExpr} → ReadsParts ts r xs → Keeps (parts_names 2 (map (expr_names k) xs))
    parts_keep (ReadsParts.no_parts) = keeps_none
    parts_keep (ReadsParts.part d more) = keeps_pass 2 also expr_keeps d also parts_keep more

  -- ---- statements

  -- whatever the blanks before its lines
  abbrev KeepsLine : (ℕ → Walking) → Type 0
  KeepsLine l = (n : ℕ) → Keeps (l n)

  abbrev KeepsOwn : Own → Type 0
  KeepsOwn f = (own : Bool) → KeepsLine (f own)

  same_own : {f g : Own} → f ≡ g → KeepsOwn g → KeepsOwn f
  same_own e h = subst KeepsOwn (sym e) h

  other_keeps : (xs : List Own) → KeepsLine (inner xs) → KeepsLine (other_names xs)
  other_keeps [] h n = keeps_none
  other_keeps (x ∷ xs) h n = keeps_pass (n + 15) also h (deeper n)

  mutual
    pub stmt_keeps : {i : ℕ} {ts r : Bytes} {x : RawStmt} → ReadsStmt i ts r x → KeepsOwn (stmt_names k x)
    stmt_keeps (ReadsStmt.assign l {value = x} h d) = same_own (at_assign Own Chosen (stmt_node_names k) arm_node_names l x)
        (λ own n. keeps_pass n also (keeps_mention (is_wrong_left k own l) l.name also keeps_pass (select_bytes l.select)) also keeps_pass 3 also expr_keeps d also keeps_pass 2)
    stmt_keeps (ReadsStmt.if_only {test = c} {body = a} d f) = same_own (at_if Own Chosen (stmt_node_names k) arm_node_names c a [])
        (λ own n. keeps_pass (n + 4) also expr_keeps d also keeps_pass 8 also stmts_keep f (deeper n) also keeps_none also keeps_pass (n + 4))
    stmt_keeps (ReadsStmt.if_else {test = c} {body = a} {first = b} {more = bs} d f g) = same_own (at_if Own Chosen (stmt_node_names k) arm_node_names c a (b ∷ bs))
        (λ own n. keeps_pass (n + 4) also expr_keeps d also keeps_pass 8 also stmts_keep f (deeper n) also other_keeps (map (stmt_names k) (b ∷ bs)) (stmts_keep g) n also keeps_pass (n + 4))
    stmt_keeps (ReadsStmt.case {of = x} {arms = arms} d f) = same_own (at_case Own Chosen (stmt_node_names k) arm_node_names x arms)
        (λ own n. keeps_pass (n + 6) also expr_keeps d also keeps_pass 2 also arms_keep f (deeper n) also keeps_pass (n + 8))

    stmts_keep : {i : ℕ} {ts r : Bytes} {xs : List RawStmt} → ReadsStmts i ts r xs → KeepsLine (inner (map (stmt_names k) xs))
    stmts_keep (ReadsStmts.no_stmts) n = keeps_none
    stmts_keep (ReadsStmts.stmt d more) n = stmt_keeps d false n also stmts_keep more n

    arms_keep : {i : ℕ} {ts r : Bytes} {xs : List RawArm} → ReadsArms i ts r xs → KeepsLine (arms_names (map (chosen_of k) xs))
    arms_keep (ReadsArms.no_arms) n = keeps_none
    arms_keep (ReadsArms.one_arm label {body = body} {more = more} l d rest) n =
        let P : Chosen → Type 0 = λ c. Keeps (arms_names (c ∷ map (chosen_of k) more) n) in
        subst P (sym (at_arm Own Chosen (stmt_node_names k) arm_node_names label body))
        (keeps_pass n also keeps_pass (literal_bytes label + 8) also stmts_keep d (deeper n) also keeps_pass (n + 4) also arms_keep rest n)

own_keep : (inputs taken assigned whole : Names) {i : ℕ} {ts r : Bytes} {xs : List RawStmt} → ReadsStmts i ts r xs → (n : ℕ) → Keeps (own_lines inputs taken assigned whole xs n)
own_keep inputs taken assigned whole (ReadsStmts.no_stmts) n = keeps_none
own_keep inputs taken assigned whole (ReadsStmts.stmt {first = x} d more) n = stmt_keeps (known inputs taken assigned whole) d true n also own_keep inputs taken assigned (whole_after x whole) more n

-- ---- edges

module _ (f : Facts) (taken : Names) where
  sets_keep : {i : ℕ} {ts r : Bytes} {xs : List RawSet} → ReadsSets i ts r xs → (before : Names) (n : ℕ) → Keeps (sets_names f taken before xs n)
  sets_keep (ReadsSets.no_sets) before n = keeps_none
  sets_keep (ReadsSets.set {target = target} h d more) before n =
      keeps_pass n also keeps_mention (is_wrong_target f taken before target) target also keeps_pass 4 also expr_keeps anywhere d also keeps_pass 2 also sets_keep more (with_name before target) n

  loads_keep : (us : List RawSet) (ls : List RawLoad) (before : Names) (n : ℕ) → Keeps (loads_names f taken before us ls n)
  loads_keep us [] before n = keeps_none
  loads_keep us (l ∷ ls) before n =
      keeps_pass n also keeps_mention (is_wrong_target f taken before l.target || is_out_of_order (behind l.target us)) l.target also keeps_pass (4 + literal_bytes l.value + 2)
      also loads_keep (left_over (behind l.target us)) ls (with_name before l.target) n

-- ---- blocks

-- the reset's condition is that of its edge
abbrev pub RightLevel : RawBlock → Type 0
RightLevel (Comb ss) = Unit {0}
RightLevel (Edge rising clock None sets) = Unit {0}
RightLevel (Edge rising clock (Some r) sets) = is_wrong_level r ≡ false

-- a walk that keeps what was noted, and notes nothing only where P holds
record Finds (p : Walking) (P : Type 0) : Type 0 where
  finds : (w : Walk) → (p w).name ≡ None → (w.name ≡ None) × P
  size : (w : Walk) → (p w).size ≡ w.size

found_by : {p : Walking} {P : Type 0} → P → Keeps p → Finds p P
found_by h a = record { finds = λ w c. (a.keeps w c, h); size = a.size }

found_last : {p q : Walking} {P : Type 0} → Keeps p → Finds q P → Finds (p then q) P
found_last {p} a b = record { finds = λ w c. let d = b.finds (p w) c in (a.keeps w d.0, d.1); size = λ w. b.size (p w) ∙ a.size w }

found_first : {p q : Walking} {P : Type 0} → Finds p P → Keeps q → Finds (p then q) P
found_first {p} a b = record { finds = λ w c. a.finds w (b.keeps (p w) c); size = λ w. b.size (p w) ∙ a.size w }

found_both : {p q : Walking} {P Q : Type 0} → Finds p P → Finds q Q → Finds (p then q) (P × Q)
found_both {p} a b = record { finds = λ w c. let d = b.finds (p w) c in let e = a.finds w d.0 in (e.0, (e.1, d.1)); size = λ w. b.size (p w) ∙ a.size w }

level_found : (r : RawReset) → Finds (name_if (is_wrong_level r)) (is_wrong_level r ≡ false)
level_found r = record { finds = λ w c. (none_left w.name (mark (is_wrong_level r) w.at) c, unmarked (is_wrong_level r) w.at (none_right w.name (mark (is_wrong_level r) w.at) c)); size = λ w. refl }

module _ (many : Bool) (f : Facts) where
  block_found : (t : Taken) {ts r : Bytes} {b : RawBlock} → ReadsBlock ts r b → Finds (block_names many f t b) (RightLevel b)
  block_found t (ReadsBlock.comb {body = ss} d) = found_by tt (keeps_pass 20 also own_keep f.inputs t.names (block_assigned (Comb ss) []) [] d 4 also keeps_pass 6)
  block_found t (ReadsBlock.edge {clock = clock} {rising = rising} c d) = found_by tt
      (keeps_pass 22 also keeps_mention (is_wrong_clock many f t rising clock) clock also (keeps_pass 8 also sets_keep f t.names d [] 4 also keeps_pass 6))
  block_found t (ReadsBlock.edge_or_reset {clock = clock} {signal = signal} {level = level} c {rising = rising} {up = up} {negated = negated} {values = values} {sets = sets} h i l v d) =
      let reset : RawReset = record { rising = up; signal = signal; negated = negated; level = level; values = values } in
      found_last (keeps_pass 22 also keeps_mention (is_wrong_clock many f t rising clock) clock)
      (found_first (found_first
      (found_first (found_first (found_first (found_last (keeps_pass 12 also keeps_mention (is_wrong_signal many f clock signal) signal also keeps_pass 16) (level_found reset)) (keeps_pass _)) (loads_keep f t.names sets values [] 6)) (keeps_pass 19))
      (sets_keep f t.names d [] 6)) (keeps_pass 14))

  items_found : {begun : Bool} {ts r : Bytes} {xs : List RawItem} → ReadsItems begun ts r xs → (t : Taken) → Finds (items_walk many f t xs) (Each RightLevel (blocks_in xs))
  items_found (ReadsItems.no_items) t = found_by tt keeps_none
  items_found (ReadsItems.var {v = v} d more) t = found_last (keeps_pass 8 also (keeps_pass _ also keeps_mention (is_undriven f v) v.name) also keeps_pass 2) (items_found more t)
  items_found (ReadsItems.block {b = b} d more) t = found_both (block_found t d) (items_found more (taken_behind t (Block b)))

  var_keeps : (v : RawVar) → Keeps (var_names f v)
  var_keeps v = keeps_pass _ also keeps_mention (is_undriven f v) v.name

  further_keep : (vs : List RawVar) → Keeps (further_names f vs)
  further_keep [] = keeps_none
  further_keep (v ∷ vs) = keeps_pass (2 + dir_bytes v.dir) also var_keeps v also further_keep vs

  ports_keep : (vs : List RawVar) → Keeps (ports_names f vs)
  ports_keep [] = keeps_pass 0
  ports_keep (v ∷ vs) = keeps_pass (dir_bytes v.dir) also var_keeps v also further_keep vs also keeps_pass 1

module_found : {bytes : Bytes} {m : RawModule} → Reads bytes m → (many : Bool) → Finds (names_of many m) (Each RightLevel (blocks_in m.items))
module_found (ReadsModule.whole {name = name} {vars = vars} {items = items} h p d) many =
    let f : Facts = facts_of (record { name = name; ports = vars; items = items }) in
    found_last (keeps_pass 7 also keeps_pass (length (spelled name)) also keeps_pass 3 also ports_keep many f vars also keeps_pass 3) (items_found many f d nothing)

-- no size is noted
pub no_size : {bytes : Bytes} {m : RawModule} → Reads bytes m → (many : Bool) → (names_of many m start).size ≡ None
no_size d many = (module_found d many).size start

pub levels_right : {bytes : Bytes} {m : RawModule} → Reads bytes m → (many : Bool) → (names_of many m start).name ≡ None → Each RightLevel (blocks_in m.items)
levels_right d many c = ((module_found d many).finds start c).1
