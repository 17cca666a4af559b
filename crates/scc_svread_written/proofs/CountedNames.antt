-- The walk over drivers goes over the bytes that are there.
use Rattle.std.proofs.Common.{◌≡◌, ℕ, Bool, true, false, ◌+◌, ◌-◌, ◌^◌, ◌||◌, min, List, [], ◌∷◌, ◌++◌, length, map, codes, sym, subst, arith}
use Rattle.scc_svtree.specs.declared.module.Dir.{Dir}
use Rattle.scc_svtree.specs.declared.module.Dir.TheVariants.{Inner}
use Rattle.scc_svtext.specs.Pieces.{blanks, spelled}
use Rattle.scc_svread_grammar.specs.declared.raw.RawLiteral.{RawLiteral}
use Rattle.scc_svread_grammar.specs.declared.raw.RawLeft.{RawLeft}
use Rattle.scc_svread_grammar.specs.declared.raw.RawExpr.{RawExpr}
use Rattle.scc_svread_grammar.specs.declared.raw.RawExpr.TheVariants as e
use Rattle.scc_svread_grammar.specs.declared.raw.RawExpr.TheOpen.{RawExpr-F}
use Rattle.scc_svread_grammar.specs.declared.raw.RawStmt.{RawStmt}
use Rattle.scc_svread_grammar.specs.declared.raw.RawArm.{RawArm}
use Rattle.scc_svread_grammar.specs.declared.raw.RawSet.{RawSet}
use Rattle.scc_svread_grammar.specs.declared.raw.RawLoad.{RawLoad}
use Rattle.scc_svread_grammar.specs.declared.raw.RawReset.{RawReset}
use Rattle.scc_svread_grammar.specs.declared.raw.RawBlock.{RawBlock}
use Rattle.scc_svread_grammar.specs.declared.raw.RawBlock.TheVariants.{Comb}
use Rattle.scc_svread_grammar.specs.declared.raw.RawVar.{RawVar}
use Rattle.scc_svread_grammar.specs.declared.raw.RawItem.{RawItem}
use Rattle.scc_svread_grammar.specs.declared.raw.RawItem.TheVariants.{Block}
use Rattle.scc_svread_grammar.specs.declared.raw.RawModule.{RawModule}
use Rattle.scc_svread_grammar.specs.Lexical.{Bytes, ReadsLiteral, ReadsName, ReadsLeft}
use Rattle.scc_svread_grammar.specs.Grammar.{ReadsDivisor, ReadsExpr, ReadsParts, ReadsStmt, ReadsStmts, ReadsArms, ReadsSets, ReadsLoads, ReadsBlock, ReadsVar, ReadsPort, ReadsMorePorts, ReadsPorts, ReadsItems, ReadsModule, Reads, edge_word, dir_of}
use Rattle.scc_svread_check.specs.declared.facts.Facts.{Facts}
use Rattle.scc_svread_check.specs.declared.facts.Taken.{Taken}
use Rattle.scc_svread_check.specs.Walking.{Walking, deeper, start}
use Rattle.scc_svread_check.specs.Parts.{literal_bytes, select_bytes}
use Rattle.scc_svread_check.specs.Mentioned.{Names, block_assigned, with_name}
use Rattle.scc_svread_check.specs.Within.{Known, known, mention, left_mention, is_early, parts_names, expr_node_names, expr_names, Own, Chosen, inner, is_wrong_left, arms_names, stmt_node_names, arm_node_names, stmt_names, chosen_of, whole_after, own_lines}
use Rattle.scc_svread_check.specs.Blocks.{range_bytes}
use Rattle.scc_svread_check.specs.Drivers.{anywhere, is_undriven, var_names, further_names, ports_names, is_wrong_target, sets_names, behind, is_out_of_order, left_over, loads_names, is_wrong_level, is_wrong_signal, is_wrong_clock, level_bytes, block_names, taken_behind, items_walk, nothing, facts_of, names_of}
use Rattle.scc_svread_written.proofs.Counted.{Goes, goes_pass, goes_over, goes_none, goes_name_if, ◌also◌, goes_same, goes_from, Indent, four, six, further, further_in, goes_line, goes_blanks, literal_long, name_long, select_long, range_long, level_long, binary_over, sign_over, cast_over, literal_over, load_over, edge_over, or_over, port_over, further_over, ends_at}
use Rattle.scc_svread_written.proofs.RawFolds.{at_literal, at_left, at_unary, at_binary, at_cond, at_concat, at_cast, at_sign, at_assign, at_if, at_case, at_arm}

mentioned : (b : Bool) (ts r name : Bytes) → ReadsName ts r name → Goes (mention b name) ts r
mentioned b ts r name h = goes_name_if b also goes_pass (length (spelled name)) (name_long ts r name h)

left_mentioned : (b : Bool) (ts r : Bytes) (l : RawLeft) → ReadsLeft ts r l → Goes (left_mention b l) ts r
left_mentioned b ts r l h = mentioned b ts h.0 l.name h.1 also goes_pass (select_bytes l.select) (select_long h.0 r l.select h.2)

-- ---- expressions

module _ (k : Known) where
  abbrev step : RawExpr-F Walking → Walking
  step = expr_node_names k

  literal_goes : (ts r : Bytes) (l : RawLiteral) → ReadsLiteral ts r l → Goes (expr_names k (e.Literal l)) ts r
  literal_goes ts r l h = goes_same (at_literal Walking step l) (goes_pass (literal_bytes l) (literal_long ts r l h))

  divisor_goes : {ts r : Bytes} {x : RawExpr} → ReadsDivisor ts r x → Goes (expr_names k x) ts r
  divisor_goes (ReadsDivisor.plain {ts = ts} {r = r} l d) = literal_goes ts r l d
  divisor_goes (ReadsDivisor.signed {a = a} {r = r} l d) = goes_same (at_sign Walking step true (e.Literal l))
      (sign_over true a also literal_goes a (codes ")" ++ r) l d also goes_over (codes ")") r)

  mutual
    pub expr_goes : {ts r : Bytes} {x : RawExpr} → ReadsExpr ts r x → Goes (expr_names k x) ts r
    expr_goes (ReadsExpr.literal {ts = ts} {r = r} l d) = literal_goes ts r l d
    expr_goes (ReadsExpr.left {ts = ts} {r = r} l d) = goes_same (at_left Walking step l) (left_mentioned (is_early k l.name) ts r l d)
    expr_goes (ReadsExpr.unary {a = a} {r = r} {b = b} {op = op} {of = of} h d) = goes_same (at_unary Walking step op of)
        (goes_over (40 ∷ b ∷ []) a also expr_goes d also goes_over (codes ")") r)
    expr_goes (ReadsExpr.binary {a = a} {c = c} {r = r} op {left = x} {right = y} d h f) = goes_same (at_binary Walking step op x y)
        (goes_over (codes "(") a also expr_goes d also binary_over op c also expr_goes f also goes_over (codes ")") r)
    expr_goes (ReadsExpr.division {a = a} {c = c} {r = r} op {left = x} {right = y} d h f) = goes_same (at_binary Walking step op x y)
        (goes_over (codes "(") a also expr_goes d also binary_over op c also divisor_goes f also goes_over (codes ")") r)
    expr_goes (ReadsExpr.cond {a = a} {b = b} {c = c} {r = r} {test = t} {first = x} {second = y} d f g) = goes_same (at_cond Walking step t x y)
        (goes_over (codes "(") a also expr_goes d also goes_over (codes " ? ") b also expr_goes f also goes_over (codes " : ") c also expr_goes g also goes_over (codes ")") r)
    expr_goes (ReadsExpr.concat {a = a} {b = b} {r = r} {first = x} {second = y} {more = more} d f g) = goes_same (at_concat Walking step (x ∷ y ∷ more))
        (goes_over (codes "{") a also expr_goes d also (goes_over (codes ", ") b also expr_goes f) also parts_go g also goes_over (codes "}") r)
    expr_goes (ReadsExpr.cast {ts = ts} {a = a} {r = r} width {of = of} h d) = goes_same (at_cast Walking step width of)
        (cast_over ts a width h also expr_goes d also goes_over (codes ")") r)
    expr_goes (ReadsExpr.sign {a = a} {r = r} signed {of = of} d) = goes_same (at_sign Walking step signed of)
        (sign_over signed a also expr_goes d also goes_over (codes ")") r)

    parts_go : {ts r : Bytes} {xs : List RawExpr} → ReadsParts ts r xs → Goes (parts_names 2 (map (expr_names k) xs)) ts r
    parts_go (ReadsParts.no_parts) = goes_none
    parts_go (ReadsParts.part {a = a} d more) = goes_over (codes ", ") a also expr_goes d also parts_go more

  -- ---- statements

  -- a statement at n blanks
  abbrev GoesOwn : Own → ℕ → Bytes → Bytes → Type 0
  GoesOwn f n ts r = (own : Bool) (m : ℕ) → Indent m n → Goes (f own m) ts r

  same_own : {f g : Own} (n : ℕ) (ts r : Bytes) → f ≡ g → GoesOwn g n ts r → GoesOwn f n ts r
  same_own n ts r e h = subst (λ f. GoesOwn f n ts r) (sym e) h

  mutual
    pub stmt_goes : {n : ℕ} {ts r : Bytes} {x : RawStmt} → ReadsStmt n ts r x → GoesOwn (stmt_names k x) n (blanks n ++ ts) r
    stmt_goes (ReadsStmt.assign {n = n} {ts = ts} {a = a} {r = r} l {value = x} h d) = same_own n (blanks n ++ ts) r (at_assign Own Chosen (stmt_node_names k) arm_node_names l x)
        (λ own m i. goes_blanks i ts also left_mentioned (is_wrong_left k own l) ts (codes " = " ++ a) l h also goes_over (codes " = ") a also expr_goes d also goes_over (codes ";\n") r)
    stmt_goes (ReadsStmt.if_only {n = n} {a = a} {b = b} {r = r} {test = c} {body = x} d f) =
        same_own n (blanks n ++ (codes "if (" ++ a)) r (at_if Own Chosen (stmt_node_names k) arm_node_names c x [])
        (λ own m i. goes_line i (codes "if (") a also expr_goes d also goes_over (codes ") begin\n") (blanks n ++ b) also stmts_go f (deeper m) (further i) also goes_none also goes_line i (codes "end\n") r)
    stmt_goes (ReadsStmt.if_else {n = n} {a = a} {b = b} {c = c} {r = r} {test = t} {body = x} {first = y} {more = ys} d f g) =
        same_own n (blanks n ++ (codes "if (" ++ a)) r (at_if Own Chosen (stmt_node_names k) arm_node_names t x (y ∷ ys))
        (λ own m i. goes_line i (codes "if (") a also expr_goes d also goes_over (codes ") begin\n") (blanks n ++ b) also stmts_go f (deeper m) (further i)
        also (goes_line i (codes "end else begin\n") (blanks n ++ c) also stmts_go g (deeper m) (further i)) also goes_line i (codes "end\n") r)
    stmt_goes (ReadsStmt.case {n = n} {a = a} {b = b} {r = r} {of = x} {arms = arms} d f) =
        same_own n (blanks n ++ (codes "case (" ++ a)) r (at_case Own Chosen (stmt_node_names k) arm_node_names x arms)
        (λ own m i. goes_line i (codes "case (") a also expr_goes d also goes_over (codes ")\n") (blanks n ++ b) also arms_go f (deeper m) (further i) also goes_line i (codes "endcase\n") r)

    stmts_go : {n : ℕ} {ts r : Bytes} {xs : List RawStmt} → ReadsStmts n ts r xs
        → (m : ℕ) → Indent m (n + 2) → Goes (inner (map (stmt_names k) xs) m) (blanks n ++ ts) (blanks n ++ r)
    stmts_go (ReadsStmts.no_stmts) m i = goes_none
    stmts_go (ReadsStmts.stmt {n = n} {a = a} d more) m i = goes_from (further_in n a) (stmt_goes d false m i) also stmts_go more m i

    arms_go : {n : ℕ} {ts r : Bytes} {xs : List RawArm} → ReadsArms n ts r xs
        → (m : ℕ) → Indent m (n + 2) → Goes (arms_names (map (chosen_of k) xs) m) (blanks n ++ ts) (blanks n ++ r)
    arms_go (ReadsArms.no_arms) m i = goes_none
    arms_go (ReadsArms.one_arm {n = n} {a = a} {b = b} {c = c} {r = r} label {body = body} {more = more} l d rest) m i =
        let P : Chosen → Type 0 = λ x. Goes (arms_names (x ∷ map (chosen_of k) more) m) (blanks n ++ (codes "  " ++ a)) (blanks n ++ r) in
        subst P (sym (at_arm Own Chosen (stmt_node_names k) arm_node_names label body))
        (goes_from (further_in n a) (goes_blanks i a) also literal_over a (codes ": begin\n") (blanks (n + 2) ++ b) label l
        also stmts_go d (deeper m) (further i) also goes_line i (codes "end\n") (blanks n ++ c) also arms_go rest m i)

own_go : (inputs taken assigned whole : Names) {n : ℕ} {ts r : Bytes} {xs : List RawStmt} → ReadsStmts n ts r xs
    → (m : ℕ) → Indent m (n + 2) → Goes (own_lines inputs taken assigned whole xs m) (blanks n ++ ts) (blanks n ++ r)
own_go inputs taken assigned whole (ReadsStmts.no_stmts) m i = goes_none
own_go inputs taken assigned whole (ReadsStmts.stmt {n = n} {a = a} {first = x} d more) m i =
    goes_from (further_in n a) (stmt_goes (known inputs taken assigned whole) d true m i) also own_go inputs taken assigned (whole_after x whole) more m i

-- ---- edges

module _ (f : Facts) (taken : Names) where
  sets_go : {n : ℕ} {ts r : Bytes} {xs : List RawSet} → ReadsSets n ts r xs → (before : Names) (m : ℕ) → Indent m (n + 2) → Goes (sets_names f taken before xs m) (blanks n ++ ts) (blanks n ++ r)
  sets_go (ReadsSets.no_sets) before m i = goes_none
  sets_go {n} (ReadsSets.set {a = a} {b = b} {c = c} {target = target} h d more) before m i =
      goes_from (further_in n a) (goes_blanks i a) also mentioned (is_wrong_target f taken before target) a (codes " <= " ++ b) target h also goes_over (codes " <= ") b
      also expr_goes anywhere d also goes_over (codes ";\n") (blanks n ++ c) also sets_go more (with_name before target) m i

  loads_go : {ts r : Bytes} {xs : List RawLoad} → ReadsLoads ts r xs → (us : List RawSet) (before : Names) (m : ℕ) → Indent m 6 → Goes (loads_names f taken before us xs m) (blanks 4 ++ ts) (blanks 4 ++ r)
  loads_go (ReadsLoads.no_loads) us before m i = goes_none
  loads_go (ReadsLoads.load {a = a} {b = b} {c = c} {target = target} {value = value} h l more) us before m i =
      goes_blanks i a also mentioned (is_wrong_target f taken before target || is_out_of_order (behind target us)) a (codes " <= " ++ b) target h
      also load_over b (blanks 4 ++ c) value l also loads_go more (left_over (behind target us)) (with_name before target) m i

-- ---- blocks

module _ (many : Bool) (f : Facts) where
  block_goes : (t : Taken) {ts r : Bytes} {b : RawBlock} → ReadsBlock ts r b → Goes (block_names many f t b) (codes "  " ++ ts) r
  block_goes t (ReadsBlock.comb {a = a} {r = r} {body = ss} d) =
      goes_over (codes "  always_comb begin\n") (blanks 2 ++ a) also own_go f.inputs t.names (block_assigned (Comb ss) []) [] d 4 four also goes_over (codes "  end\n") r
  block_goes t (ReadsBlock.edge {a = a} {b = b} {r = r} {clock = clock} {rising = rising} c d) =
      edge_over rising a also mentioned (is_wrong_clock many f t rising clock) a (codes ") begin\n  " ++ b) clock c
      also (goes_over (codes ") begin\n") (blanks 2 ++ b) also sets_go f t.names d [] 4 four also goes_over (codes "  end\n") r)
  block_goes t (ReadsBlock.edge_or_reset {a = a} {b = b} {d = x} {f = y} {r = r} {clock = clock} {signal = signal} {level = level} c {rising = rising} {up = up} {negated = negated} {values = values} {sets = sets} h i l v d) =
      let reset : RawReset = record { rising = up; signal = signal; negated = negated; level = level; values = values } in
      edge_over rising a also mentioned (is_wrong_clock many f t rising clock) a (codes " or " ++ (edge_word up ++ b)) clock h
      also (or_over up b also mentioned (is_wrong_signal many f clock signal) b (codes ") begin\n    if (" ++ c) signal i also goes_over (codes ") begin\n    if (") c
      also goes_name_if (is_wrong_level reset) also goes_pass (level_bytes negated level) (level_long negated c (blanks 4 ++ x) level l)
      also loads_go f t.names v sets [] 6 six also goes_over (codes "    end else begin\n") (blanks 4 ++ y) also sets_go f t.names d [] 6 six also goes_over (codes "    end\n  end\n") r)

  -- ---- declarations

  var_goes : (dir : Dir) (ts r : Bytes) (v : RawVar) → ReadsVar dir ts r v → Goes (var_names f v) ts r
  var_goes dir ts r v h = goes_pass (range_bytes v.high) (range_long ts h.0 v.high h.1) also mentioned (is_undriven f v) h.0 r v.name h.2

  further_go : {ts r : Bytes} {vs : List RawVar} → ReadsMorePorts ts r vs → Goes (further_names f vs) ts r
  further_go (ReadsMorePorts.no_more) = goes_none
  further_go (ReadsMorePorts.more {m = m} {v = v} (ReadsPort.port input a h) rest) = further_over input v.dir a h.3 also var_goes (dir_of input) a m v h also further_go rest

  ports_go : (ts r : Bytes) (vs : List RawVar) → ReadsPorts ts r vs → Goes (ports_names f vs) ts r
  ports_go ts r vs (ReadsPorts.no_ports) = goes_pass 0 (omega arith)
  ports_go ts r vs (ReadsPorts.ports {m = m} {v = v} (ReadsPort.port input a h) rest) =
      port_over input v.dir a h.3 also var_goes (dir_of input) a m v h also further_go rest also goes_over (codes "\n") r

  -- ---- the module

  items_go : {begun : Bool} {ts r : Bytes} {xs : List RawItem} → ReadsItems begun ts r xs → (t : Taken) → Goes (items_walk many f t xs) ts r
  items_go (ReadsItems.no_items) t = goes_none
  items_go (ReadsItems.var {a = a} {m = m} {v = v} d more) t = goes_over (codes "  logic ") a also var_goes Inner a (codes ";\n" ++ m) v d also goes_over (codes ";\n") m also items_go more t
  items_go (ReadsItems.block {b = b} d more) t = block_goes t d also items_go more (taken_behind t (Block b))

module_goes : {ts r : Bytes} {m : RawModule} → ReadsModule ts r m → (many : Bool) → Goes (names_of many m) ts (codes "endmodule\n" ++ r)
module_goes (ReadsModule.whole {a = a} {b = b} {c = c} {r = r} {name = name} {vars = vars} {items = items} h p d) many =
    let f : Facts = facts_of (record { name = name; ports = vars; items = items }) in
    goes_over (codes "module ") a also goes_pass (length (spelled name)) (name_long a (codes " (\n" ++ b) name h) also goes_over (codes " (\n") b
    also ports_go many f b (codes ");\n" ++ c) vars p also goes_over (codes ");\n") c also items_go many f d nothing

-- the walk ends where the text's last line begins
pub names_counted : {bytes : Bytes} {raw : RawModule} → Reads bytes raw → (many : Bool) → (names_of many raw start).at ≡ min (length bytes - 10) (2 ^ 64 - 1)
names_counted d many = ends_at (module_goes d many)
