-- The walk over sizes and undeclared names goes over the bytes that are there.
use Rattle.std.proofs.Common.{◌≡◌, ℕ, Bool, true, false, not, ◌+◌, ◌-◌, ◌^◌, ◌&&◌, min, List, [], ◌∷◌, ◌++◌, length, map, codes, sym, subst, ap, arith}
use Rattle.std.specs.Prelude.{Option}
use Rattle.scc_svtree.specs.declared.module.Dir.{Dir}
use Rattle.scc_svtree.specs.declared.module.Dir.TheVariants.{Inner}
use Rattle.scc_svtext.specs.Pieces.{blanks, spelled}
use Rattle.scc_svread_grammar.specs.declared.raw.RawLiteral.{RawLiteral}
use Rattle.scc_svread_grammar.specs.declared.raw.RawLeft.{RawLeft}
use Rattle.scc_svread_grammar.specs.declared.raw.RawExpr.{RawExpr}
use Rattle.scc_svread_grammar.specs.declared.raw.RawExpr.TheVariants as e
use Rattle.scc_svread_grammar.specs.declared.raw.RawStmt.{RawStmt}
use Rattle.scc_svread_grammar.specs.declared.raw.RawArm.{RawArm}
use Rattle.scc_svread_grammar.specs.declared.raw.RawSet.{RawSet}
use Rattle.scc_svread_grammar.specs.declared.raw.RawLoad.{RawLoad}
use Rattle.scc_svread_grammar.specs.declared.raw.RawBlock.{RawBlock}
use Rattle.scc_svread_grammar.specs.declared.raw.RawVar.{RawVar}
use Rattle.scc_svread_grammar.specs.declared.raw.RawItem.{RawItem}
use Rattle.scc_svread_grammar.specs.declared.raw.RawModule.{RawModule}
use Rattle.scc_svread_grammar.specs.Lexical.{Bytes, ReadsLiteral, ReadsName, ReadsLeft}
use Rattle.scc_svread_grammar.specs.Grammar.{is_division, ReadsDivisor, ReadsExpr, ReadsParts, ReadsStmt, ReadsStmts, ReadsArms, ReadsSets, ReadsLoads, ReadsLevel, ReadsBlock, ReadsVar, ReadsPort, ReadsMorePorts, ReadsPorts, ReadsItems, ReadsModule, Reads, edge_word, dir_of}
use Rattle.scc_svread_check.specs.Walking.{deeper, start}
use Rattle.scc_svread_check.specs.Scope.{Scope, number_in, is_width, is_wrong_literal, once, high_of, is_declared, declare, declare_all}
use Rattle.scc_svread_check.specs.Parts.{Part, is_wrong_length, literal_bytes, select_bytes, is_wrong_part, is_missing, name_walk, left_walk, parts_walk, measured, literal_part, left_part, unary_part, binary_part, cond_part, concat_part, cast_part, sign_part, node_part, part_of}
use Rattle.scc_svread_check.specs.Lines.{Line, Choice, lines, is_wrong_label, with_label, choices, stmt_node, arm_node, line_of, choice_of}
use Rattle.scc_svread_check.specs.Blocks.{set_line, is_wrong_load, load_line, level_walk, block_walk, range_bytes, var_walk}
use Rattle.scc_svread_check.specs.First.{further_ports, ports_walk, items_walk, scope_of, module_walk}
use Rattle.scc_svread_written.proofs.Counted.{Goes, goes_pass, goes_over, goes_none, goes_size, goes_name_if, goes_whole, ◌also◌, goes_from, Indent, four, six, further, further_in, goes_line, goes_blanks, literal_long, name_long, select_long, range_long, binary_over, sign_over, cast_over, literal_over, edge_over, or_over, port_over, further_over, ends_at}
use Rattle.scc_svread_written.proofs.RawFolds.{at_literal, at_left, at_unary, at_binary, at_cond, at_concat, at_cast, at_sign, at_assign, at_if, at_case, at_arm}

module _ (s : Scope) where
  named : (ts r name : Bytes) → ReadsName ts r name → Goes (name_walk s name) ts r
  named ts r name h = goes_name_if (is_missing s name) also goes_pass (length (spelled name)) (name_long ts r name h)

  left_goes : (ts r : Bytes) (l : RawLeft) → ReadsLeft ts r l → Goes (left_walk s l) ts r
  left_goes ts r l h = goes_size (is_wrong_part l.select (once s l.name)) also named ts h.0 l.name h.1 also goes_pass (select_bytes l.select) (select_long h.0 r l.select h.2)

  -- ---- expressions

  -- a part at a node, where what it walks over is gone over
  at_node : {ts r : Bytes} (x : RawExpr) (p : Part) → part_of s x ≡ measured p → Goes p.walk ts r → Goes (part_of s x).walk ts r
  at_node {ts} {r} x p e k = subst (λ p. Goes p.walk ts r) (sym e) (goes_whole (is_wrong_length p.bits) k)

  literal_goes : (ts r : Bytes) (l : RawLiteral) → ReadsLiteral ts r l → Goes (part_of s (e.Literal l)).walk ts r
  literal_goes ts r l h = at_node _ (literal_part l) (at_literal Part (node_part s) l) (goes_size (is_wrong_literal l) also goes_pass (literal_bytes l) (literal_long ts r l h))

  divisor_goes : {ts r : Bytes} {x : RawExpr} → ReadsDivisor ts r x → Goes (part_of s x).walk ts r
  divisor_goes (ReadsDivisor.plain {ts = ts} {r = r} l d) = literal_goes ts r l d
  divisor_goes (ReadsDivisor.signed {a = a} {r = r} l d) = at_node _ (sign_part true (part_of s (e.Literal l))) (at_sign Part (node_part s) true (e.Literal l))
      (sign_over true a also literal_goes a (codes ")" ++ r) l d also goes_over (codes ")") r)

  mutual
    pub expr_goes : {ts r : Bytes} {x : RawExpr} → ReadsExpr ts r x → Goes (part_of s x).walk ts r
    expr_goes (ReadsExpr.literal {ts = ts} {r = r} l d) = literal_goes ts r l d
    expr_goes (ReadsExpr.left {ts = ts} {r = r} l d) = at_node _ (left_part s l) (at_left Part (node_part s) l) (left_goes ts r l d)
    expr_goes (ReadsExpr.unary {a = a} {r = r} {b = b} {op = op} {of = of} h d) = at_node _ (unary_part op (part_of s of)) (at_unary Part (node_part s) op of)
        (goes_over (40 ∷ b ∷ []) a also expr_goes d also goes_over (codes ")") r)
    expr_goes (ReadsExpr.binary {a = a} {c = c} {r = r} op {left = x} {right = y} d h f) = at_node _ (binary_part op (part_of s x) (part_of s y)) (at_binary Part (node_part s) op x y)
        (goes_over (codes "(") a also expr_goes d also binary_over op c also goes_whole (is_division op && (part_of s y).zero) (expr_goes f) also goes_over (codes ")") r)
    expr_goes (ReadsExpr.division {a = a} {c = c} {r = r} op {left = x} {right = y} d h f) = at_node _ (binary_part op (part_of s x) (part_of s y)) (at_binary Part (node_part s) op x y)
        (goes_over (codes "(") a also expr_goes d also binary_over op c also goes_whole (is_division op && (part_of s y).zero) (divisor_goes f) also goes_over (codes ")") r)
    expr_goes (ReadsExpr.cond {a = a} {b = b} {c = c} {r = r} {test = t} {first = x} {second = y} d f g) = at_node _ (cond_part (part_of s t) (part_of s x) (part_of s y)) (at_cond Part (node_part s) t x y)
        (goes_over (codes "(") a also expr_goes d also goes_over (codes " ? ") b also expr_goes f also goes_over (codes " : ") c also expr_goes g also goes_over (codes ")") r)
    expr_goes (ReadsExpr.concat {a = a} {b = b} {r = r} {first = x} {second = y} {more = more} d f g) = at_node _ (concat_part (map (part_of s) (x ∷ y ∷ more))) (at_concat Part (node_part s) (x ∷ y ∷ more))
        (goes_over (codes "{") a also expr_goes d also (goes_over (codes ", ") b also expr_goes f) also parts_go g also goes_over (codes "}") r)
    expr_goes (ReadsExpr.cast {ts = ts} {a = a} {r = r} width {of = of} h d) = at_node _ (cast_part width (part_of s of)) (at_cast Part (node_part s) width of)
        (goes_size (not (is_width (number_in width))) also cast_over ts a width h also expr_goes d also goes_over (codes ")") r)
    expr_goes (ReadsExpr.sign {a = a} {r = r} signed {of = of} d) = at_node _ (sign_part signed (part_of s of)) (at_sign Part (node_part s) signed of)
        (sign_over signed a also expr_goes d also goes_over (codes ")") r)

    parts_go : {ts r : Bytes} {xs : List RawExpr} → ReadsParts ts r xs → Goes (parts_walk 2 (map (part_of s) xs)) ts r
    parts_go (ReadsParts.no_parts) = goes_none
    parts_go (ReadsParts.part {a = a} d more) = goes_over (codes ", ") a also expr_goes d also parts_go more

  -- ---- statements

  -- lines at n blanks
  abbrev GoesLine : Line → ℕ → Bytes → Bytes → Type 0
  GoesLine l n ts r = (m : ℕ) → Indent m n → Goes (l m) ts r

  same_line : {f g : Line} (n : ℕ) (ts r : Bytes) → f ≡ g → GoesLine g n ts r → GoesLine f n ts r
  same_line n ts r e h = subst (λ l. GoesLine l n ts r) (sym e) h

  mutual
    pub stmt_goes : {n : ℕ} {ts r : Bytes} {x : RawStmt} → ReadsStmt n ts r x → GoesLine (line_of s x) n (blanks n ++ ts) r
    stmt_goes (ReadsStmt.assign {n = n} {ts = ts} {a = a} {r = r} l {value = x} h d) = same_line n (blanks n ++ ts) r (at_assign Line Choice (stmt_node s) arm_node l x)
        (λ m i. goes_blanks i ts also left_goes ts (codes " = " ++ a) l h also goes_over (codes " = ") a also expr_goes d also goes_over (codes ";\n") r)
    stmt_goes (ReadsStmt.if_only {n = n} {a = a} {b = b} {r = r} {test = c} {body = x} d f) = same_line n (blanks n ++ (codes "if (" ++ a)) r (at_if Line Choice (stmt_node s) arm_node c x [])
        (λ m i. goes_line i (codes "if (") a also expr_goes d also goes_over (codes ") begin\n") (blanks n ++ b) also stmts_go f (deeper m) (further i) also goes_none also goes_line i (codes "end\n") r)
    stmt_goes (ReadsStmt.if_else {n = n} {a = a} {b = b} {c = c} {r = r} {test = t} {body = x} {first = y} {more = ys} d f g) =
        same_line n (blanks n ++ (codes "if (" ++ a)) r (at_if Line Choice (stmt_node s) arm_node t x (y ∷ ys))
        (λ m i. goes_line i (codes "if (") a also expr_goes d also goes_over (codes ") begin\n") (blanks n ++ b) also stmts_go f (deeper m) (further i)
        also (goes_line i (codes "end else begin\n") (blanks n ++ c) also stmts_go g (deeper m) (further i)) also goes_line i (codes "end\n") r)
    stmt_goes (ReadsStmt.case {n = n} {a = a} {b = b} {r = r} {of = x} {arms = arms} d f) = same_line n (blanks n ++ (codes "case (" ++ a)) r (at_case Line Choice (stmt_node s) arm_node x arms)
        (λ m i. goes_line i (codes "case (") a also expr_goes d also goes_over (codes ")\n") (blanks n ++ b) also arms_go f (part_of s x).bits [] (deeper m) (further i) also goes_line i (codes "endcase\n") r)

    stmts_go : {n : ℕ} {ts r : Bytes} {xs : List RawStmt} → ReadsStmts n ts r xs → GoesLine (lines (map (line_of s) xs)) (n + 2) (blanks n ++ ts) (blanks n ++ r)
    stmts_go (ReadsStmts.no_stmts) m i = goes_none
    stmts_go (ReadsStmts.stmt {n = n} {a = a} d more) m i = goes_from (further_in n a) (stmt_goes d m i) also stmts_go more m i

    arms_go : {n : ℕ} {ts r : Bytes} {xs : List RawArm} → ReadsArms n ts r xs → (bits : Option ℕ) (before : List Bytes)
        → GoesLine (choices bits before (map (choice_of s) xs)) (n + 2) (blanks n ++ ts) (blanks n ++ r)
    arms_go (ReadsArms.no_arms) bits before m i = goes_none
    arms_go (ReadsArms.one_arm {n = n} {a = a} {b = b} {c = c} {r = r} label {body = body} {more = more} l d rest) bits before m i =
        let P : Choice → Type 0 = λ x. Goes (choices bits before (x ∷ map (choice_of s) more) m) (blanks n ++ (codes "  " ++ a)) (blanks n ++ r) in
        subst P (sym (at_arm Line Choice (stmt_node s) arm_node label body))
        (goes_from (further_in n a) (goes_blanks i a) also goes_size (is_wrong_label bits before label) also literal_over a (codes ": begin\n") (blanks (n + 2) ++ b) label l
        also stmts_go d (deeper m) (further i) also goes_line i (codes "end\n") (blanks n ++ c) also arms_go rest bits (with_label before label) m i)

  -- ---- edges

  sets_go : {n : ℕ} {ts r : Bytes} {xs : List RawSet} → ReadsSets n ts r xs → GoesLine (lines (map (set_line s) xs)) (n + 2) (blanks n ++ ts) (blanks n ++ r)
  sets_go (ReadsSets.no_sets) m i = goes_none
  sets_go {n} (ReadsSets.set {a = a} {b = b} {c = c} {target = target} h d more) m i =
      goes_from (further_in n a) (goes_blanks i a) also named a (codes " <= " ++ b) target h also goes_over (codes " <= ") b also expr_goes d also goes_over (codes ";\n") (blanks n ++ c) also sets_go more m i

  loads_go : {ts r : Bytes} {xs : List RawLoad} → ReadsLoads ts r xs → GoesLine (lines (map (load_line s) xs)) 6 (blanks 4 ++ ts) (blanks 4 ++ r)
  loads_go (ReadsLoads.no_loads) m i = goes_none
  loads_go (ReadsLoads.load {a = a} {b = b} {c = c} {target = target} {value = value} h l more) m i =
      goes_blanks i a also named a (codes " <= " ++ b) target h also goes_over (codes " <= ") b
      also goes_size (is_wrong_load s (record { target = target; value = value })) also literal_over b (codes ";\n") (blanks 4 ++ c) value l also loads_go more m i

  level_goes : (negated : Bool) (ts r name : Bytes) → ReadsLevel negated ts (codes ") begin\n" ++ r) name → Goes (level_walk s negated name) ts r
  level_goes true ts r name h = goes_from (ap length h.1) (goes_over (codes "(!") h.0) also named h.0 (codes ")) begin\n" ++ r) name h.2 also goes_over (codes ")) begin\n") r
  level_goes false ts r name h = named ts (codes ") begin\n" ++ r) name h also goes_over (codes ") begin\n") r

  -- ---- blocks

  pub block_goes : {ts r : Bytes} {b : RawBlock} → ReadsBlock ts r b → Goes (block_walk s b) (codes "  " ++ ts) r
  block_goes (ReadsBlock.comb {a = a} {r = r} d) = goes_over (codes "  always_comb begin\n") (blanks 2 ++ a) also stmts_go d 4 four also goes_over (codes "  end\n") r
  block_goes (ReadsBlock.edge {a = a} {b = b} {r = r} {clock = clock} {rising = rising} c d) =
      edge_over rising a also named a (codes ") begin\n  " ++ b) clock c also (goes_over (codes ") begin\n") (blanks 2 ++ b) also sets_go d 4 four also goes_over (codes "  end\n") r)
  block_goes (ReadsBlock.edge_or_reset {a = a} {b = b} {d = x} {f = f} {r = r} {clock = clock} {signal = signal} {level = level} c {rising = rising} {up = up} {negated = negated} {values = values} h i l v d) =
      edge_over rising a also named a (codes " or " ++ (edge_word up ++ b)) clock h
      also (or_over up b also named b (codes ") begin\n    if (" ++ c) signal i also goes_over (codes ") begin\n    if (") c also level_goes negated c (blanks 4 ++ x) level l
      also loads_go v 6 six also goes_over (codes "    end else begin\n") (blanks 4 ++ f) also sets_go d 6 six also goes_over (codes "    end\n  end\n") r)

-- ---- declarations

var_goes : (before : Scope) (dir : Dir) (ts r : Bytes) (v : RawVar) → ReadsVar dir ts r v → Goes (var_walk before v) ts r
var_goes before dir ts r v h = goes_size (not (is_width (high_of v + 1))) also goes_pass (range_bytes v.high) (range_long ts h.0 v.high h.1)
    also goes_name_if (is_declared before v.name) also goes_pass (length (spelled v.name)) (name_long h.0 r v.name h.2)

further_go : {ts r : Bytes} {vs : List RawVar} → ReadsMorePorts ts r vs → (before : Scope) → Goes (further_ports before vs) ts r
further_go (ReadsMorePorts.no_more) before = goes_none
further_go (ReadsMorePorts.more {m = m} {v = v} (ReadsPort.port input a h) rest) before =
    further_over input v.dir a h.3 also var_goes before (dir_of input) a m v h also further_go rest (declare before v)

ports_go : (ts r : Bytes) (vs : List RawVar) → ReadsPorts ts r vs → (before : Scope) → Goes (ports_walk before vs) ts r
ports_go ts r vs (ReadsPorts.no_ports) before = goes_pass 0 (omega arith)
ports_go ts r vs (ReadsPorts.ports {m = m} {v = v} {vs = more} (ReadsPort.port input a h) rest) before =
    port_over input v.dir a h.3 also var_goes before (dir_of input) a m v h also further_go rest (declare before v) also goes_over (codes "\n") r

-- ---- the module

items_go : {begun : Bool} {ts r : Bytes} {xs : List RawItem} → ReadsItems begun ts r xs → (before s : Scope) → Goes (items_walk before s xs) ts r
items_go (ReadsItems.no_items) before s = goes_none
items_go (ReadsItems.var {a = a} {m = m} {v = v} d more) before s =
    goes_over (codes "  logic ") a also var_goes before Inner a (codes ";\n" ++ m) v d also goes_over (codes ";\n") m also items_go more (declare before v) s
items_go (ReadsItems.block d more) before s = block_goes s d also items_go more before s

module_goes : {ts r : Bytes} {m : RawModule} → ReadsModule ts r m → Goes (module_walk m) ts (codes "endmodule\n" ++ r)
module_goes (ReadsModule.whole {a = a} {b = b} {c = c} {r = r} {name = name} {vars = vars} {items = items} h p d) =
    goes_over (codes "module ") a also goes_pass (length (spelled name)) (name_long a (codes " (\n" ++ b) name h) also goes_over (codes " (\n") b
    also ports_go b (codes ");\n" ++ c) vars p [] also goes_over (codes ");\n") c
    also items_go d (declare_all [] vars) (scope_of (record { name = name; ports = vars; items = items }))

-- the walk ends where the text's last line begins
pub sizes_counted : {bytes : Bytes} {raw : RawModule} → Reads bytes raw → (module_walk raw start).at ≡ min (length bytes - 10) (2 ^ 64 - 1)
sizes_counted d = ends_at (module_goes d)
