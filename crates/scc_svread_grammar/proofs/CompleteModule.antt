-- The same for blocks and modules.
use Rattle.std.specs.Prelude.{◌≡◌, ℕ, zero, suc, Bool, true, false, not, ◌&&◌, List, [], ◌∷◌, ◌++◌, codes, Option, Some, None, Ok, refl}
use Rattle.std.proofs.Common.{sym, ◌∙◌, ap}
use Rattle.scc_reading.specs.Reading.{Outcome, and_then, ◌>>=◌, ◌>>◌, pure, is_next, choose, repeat_in}
use Rattle.scc_reading.specs.Level.{opens}
use Rattle.scc_reading.proofs.Complete.{Is, vthen, vlast, same, done, picked, passed, Again, again_of, turn, last_turn, AgainIn, again_in_of, turn_in, last_turn_in}
use Rattle.scc_svtree.specs.declared.module.Dir.{Dir}
use Rattle.scc_svtree.specs.declared.module.Dir.TheVariants.{Inner}
use Rattle.scc_svtext.specs.Pieces.{blanks}
use Rattle.scc_svread_grammar.specs.declared.raw.RawLiteral.{RawLiteral}
use Rattle.scc_svread_grammar.specs.declared.raw.RawExpr.{RawExpr}
use Rattle.scc_svread_grammar.specs.declared.raw.RawStmt.{RawStmt}
use Rattle.scc_svread_grammar.specs.declared.raw.RawSet.{RawSet}
use Rattle.scc_svread_grammar.specs.declared.raw.RawLoad.{RawLoad}
use Rattle.scc_svread_grammar.specs.declared.raw.RawReset.{RawReset}
use Rattle.scc_svread_grammar.specs.declared.raw.RawBlock.{RawBlock}
use Rattle.scc_svread_grammar.specs.declared.raw.RawBlock.TheVariants.{Comb, Edge}
use Rattle.scc_svread_grammar.specs.declared.raw.RawVar.{RawVar}
use Rattle.scc_svread_grammar.specs.declared.raw.RawItem.{RawItem}
use Rattle.scc_svread_grammar.specs.declared.raw.RawItem.TheVariants.{Var, Block}
use Rattle.scc_svread_grammar.specs.declared.raw.RawModule.{RawModule}
use Rattle.scc_svread_grammar.specs.Lexical.{Bytes, ReadsLiteral, ReadsName}
use Rattle.scc_svread_grammar.specs.Grammar.{edge_word, dir_of, ReadsExpr, ReadsStmts, ReadsSets, ReadsLoads, ReadsLevel, ReadsBlock, ReadsVar, ReadsPort, ReadsMorePorts, ReadsPorts, ReadsItems, ReadsModule, Reads}
use Rattle.scc_svread_grammar.specs.Levels.{deep_expr, deep_stmts, deep_sets, deep_block, deep_items, deep_module, deep}
use Rattle.scc_svread_grammar.specs.Leaves.{text, literal, name, is_bracket}
use Rattle.scc_svread_grammar.specs.Reader.{Nested, is_blank, is_p, is_paren, is_c, is_i, is_l, is_close, is_comma, inner, number_at}
use Rattle.scc_svread_grammar.specs.Reader as p
use Rattle.scc_svread_grammar.proofs.Numbers.{reads_literal}
use Rattle.scc_svread_grammar.proofs.Names.{NoWord, reads_name, reads_range}
use Rattle.scc_svread_grammar.proofs.SoundModule.{sound_load, sound_set, sound_further_port, sound_item}
use Rattle.scc_svread_grammar.proofs.Closed.{sound}
use Rattle.scc_svread_grammar.proofs.Firsts.{first_name, no_name}
use Rattle.scc_svread_grammar.proofs.CompleteExpr.{Complete, complete_number, complete_divisor, complete_expr}
use Rattle.scc_svread_grammar.proofs.CompleteStmt.{after_text, complete_stmts, complete_stmt}
use Rattle.scc_reading.proofs.Complete.{is_deep}
use Rattle.scc_svread_grammar.specs.Reader.{begins_name, begins_expr, begins_divisor}
use Rattle.scc_svread_grammar.specs.Grammar.{ReadsDivisor, ReadsStmt}
use Rattle.scc_svread_grammar.specs.Lexical.{is_digit}
use Rattle.scc_svread_grammar.proofs.Firsts.{first_decimal, first_expr, name_begins, next_by}

-- ---- what opens a level

first_divisor : {ts r : Bytes} {x : RawExpr} → ReadsDivisor ts r x → is_next begins_divisor ts ≡ true
first_divisor {ts} {r} (ReadsDivisor.plain l d) = rw d.0 (next_by is_digit begins_divisor (λ b h. rw h refl) (l.width ++ (codes "'h" ++ (l.digits ++ r))) (first_decimal l.width (codes "'h" ++ (l.digits ++ r)) d.1))
first_divisor (ReadsDivisor.signed l d) = refl

first_stmt : {k : ℕ} {ts r : Bytes} {x : RawStmt} → ReadsStmt k ts r x → is_next begins_name ts ≡ true
first_stmt {k} {ts} (ReadsStmt.assign l h d) = name_begins ts h.0 l.name h.1
first_stmt (ReadsStmt.if_only d b) = refl
first_stmt (ReadsStmt.if_else d b f) = refl
first_stmt (ReadsStmt.case d b) = refl

pub complete : (n : ℕ) → Complete n
unfolding inner
complete zero = record {
  expr = λ d w b. record { is = is_deep begins_expr _ (first_expr d) };
  divisor = λ d. record { is = is_deep begins_divisor _ (first_divisor d) };
  number = λ l ts r d. record { is = is_deep is_digit ts (rw d.0 (first_decimal l.width (codes "'h" ++ (l.digits ++ r)) d.1)) };
  stmt = λ k d. record { is = is_deep begins_name _ (first_stmt d) };
}
complete (suc n) = record {
  expr = λ d w b. complete_expr n (complete n) d w b;
  divisor = λ d. complete_divisor n (complete n) d;
  number = λ l ts r d. complete_number l ts r d;
  stmt = λ k d. complete_stmt n (complete n) d;
}

-- ---- blocks

again_loads : Again is_blank p.load_line
again_loads = again_of is_blank sound_load

abbrev load_of : Bytes → RawLiteral → RawLoad
load_of t v = record { target = t; value = v }

complete_load : (target : Bytes) (value : RawLiteral) (a b c : Bytes) → ReadsName a (codes " <= " ++ b) target → ReadsLiteral b (codes ";\n" ++ (blanks 4 ++ c)) value
    → p.load_line (codes "  " ++ a) ≡ Ok (load_of target value, c)
unfolding p.load_behind text
complete_load target value a b c w l =
    ap (λ o. and_then o (λ target. text (codes " <= ") >> (literal >>= λ value. text (codes ";\n") >> (text (blanks 4) >> pure (load_of target value))))) (reads_name a (codes " <= " ++ b) target w refl)
    ∙ ap (λ o. and_then o (λ value. text (codes ";\n") >> (text (blanks 4) >> pure (load_of target value)))) (reads_literal b (codes ";\n" ++ (blanks 4 ++ c)) value l)
    ∙ after_text (blanks 4) c (pure (load_of target value))

complete_loads : {ts r : Bytes} {xs : List RawLoad} → ReadsLoads ts r xs → is_next is_blank r ≡ false → Is (p.loads ts) None xs r
unfolding p.loads
complete_loads {ts} {r} (ReadsLoads.no_loads) h = last_turn is_blank p.load_line r again_loads h
complete_loads {ts} {r} (ReadsLoads.load {a = a} {b = b} {c = c} {target = target} {value = value} w l more) h =
    turn is_blank p.load_line (codes "  " ++ a) again_loads refl (done (complete_load target value a b c w l)) (complete_loads more h)

reads_edge : (rising : Bool) (r : Bytes) → p.edge_at (edge_word rising ++ r) ≡ Ok (rising, r)
unfolding p.edge_at text
reads_edge true r = refl
reads_edge false r = refl

reads_level : (negated : Bool) (ts r w : Bytes) → ReadsLevel negated ts r w → NoWord r → p.level ts ≡ Ok ((negated, w), r)
unfolding p.level text
reads_level true ts r w d h = rw d.1 (ap (λ o. and_then o (λ w. text (codes ")") >> pure (true, w))) (reads_name d.0 (codes ")" ++ r) w d.2 refl))
reads_level false ts r w d h = passed is_paren (text (codes "(!") >> (name >>= λ w. text (codes ")") >> pure (true, w))) (name >>= λ w. pure (false, w)) ts (first_name is_paren ts r w (no_name 40 refl refl) d)
    ∙ ap (λ o. and_then o (λ w. pure (false, w))) (reads_name ts r w d h)

abbrev reset_of : Bool → Bytes → Bool → Bytes → List RawLoad → RawReset
reset_of up signal negated level values = record { rising = up; signal = signal; negated = negated; level = level; values = values }

loads_are : {o : Outcome ℕ (List RawLoad)} {xs : List RawLoad} {r : Bytes} → Is o None xs r → o ≡ Ok (xs, r)
loads_are h = h.is

reads_reset : (up : Bool) (signal : Bytes) (negated : Bool) (level : Bytes) (b c d r : Bytes) (values : List RawLoad)
    → ReadsName b (codes ") begin\n    if (" ++ c) signal → ReadsLevel negated c (codes ") begin\n    " ++ d) level → ReadsLoads d r values → is_next is_blank r ≡ false
    → p.reset_at (codes " or " ++ (edge_word up ++ b)) ≡ Ok (reset_of up signal negated level values, r)
unfolding p.reset_at p.reset_level p.reset_values text
reads_reset up signal negated level b c d r values w l v h =
    ap (λ o. and_then o (λ up. name >>= λ signal. p.reset_level up signal)) (reads_edge up b)
    ∙ ap (λ o. and_then o (λ signal. p.reset_level up signal)) (reads_name b (codes ") begin\n    if (" ++ c) signal w refl)
    ∙ ap (λ o. and_then o (λ l. p.reset_values up signal l)) (reads_level negated c (codes ") begin\n    " ++ d) level l refl)
    ∙ ap (λ o. and_then o (λ values. pure (reset_of up signal negated level values))) (loads_are (complete_loads v h))

module _ (n : ℕ) where
  abbrev i : Nested
  i = inner n

  abbrev C : Complete n
  C = complete n

  again_sets : (k : ℕ) → Again is_blank (p.set_line i k)
  again_sets k = again_of is_blank (sound_set i (sound n) k)

  abbrev set_of : Bytes → RawExpr → RawSet
  set_of t v = record { target = t; value = v }

  complete_set : (k : ℕ) (target : Bytes) (value : RawExpr) {a b c : Bytes} → ReadsName a (codes " <= " ++ b) target → (d : ReadsExpr b (codes ";\n" ++ (blanks k ++ c)) value)
      → Is (p.set_line i k (codes "  " ++ a)) (opens n b (λ m. deep_expr m d)) (set_of target value) c
  unfolding p.set_behind text
  complete_set k target value {a} {b} {c} w d =
      same (ap (λ o. and_then o (λ target. text (codes " <= ") >> (i.expr >>= λ value. text (codes ";\n") >> (text (blanks k) >> pure (set_of target value))))) (reads_name a (codes " <= " ++ b) target w refl))
      (vlast _ (C.expr d refl refl) (after_text (blanks k) c (pure (set_of target value))))

  complete_sets : {k : ℕ} {ts r : Bytes} {xs : List RawSet} (d : ReadsSets k ts r xs) → is_next is_blank r ≡ false → Is (p.sets i k ts) (deep_sets n d) xs r
  unfolding deep_sets p.sets
  complete_sets {k} {ts} {r} (ReadsSets.no_sets) h = last_turn is_blank (p.set_line i k) r (again_sets k) h
  complete_sets {k} {ts} {r} (ReadsSets.set {a = a} {target = target} {value = value} w d more) h = turn is_blank (p.set_line i k) (codes "  " ++ a) (again_sets k) refl (complete_set k target value w d) (complete_sets more h)

  complete_comb : {a r : Bytes} {body : List RawStmt} (d : ReadsStmts 2 a (codes "end\n" ++ r) body) → Is (p.block i (codes "always_comb begin\n  " ++ a)) (deep_stmts n d) (Comb body) r
  unfolding p.block p.comb text
  complete_comb d = vlast _ (complete_stmts n C d refl) refl

  -- from behind `always_ff @(`, up to what follows the clock
  edge_block_at : (rising : Bool) (clock a mid : Bytes) → ReadsName a mid clock → NoWord mid
      → p.block i (codes "always_ff @(" ++ (edge_word rising ++ a)) ≡ choose is_close (p.edge_behind i rising clock) (p.reset_behind i rising clock) mid
  unfolding p.block p.edge_block text
  edge_block_at rising clock a mid w h =
      ap (λ o. and_then o (λ rising. name >>= λ clock. choose is_close (p.edge_behind i rising clock) (p.reset_behind i rising clock))) (reads_edge rising a)
      ∙ ap (λ o. and_then o (λ clock. choose is_close (p.edge_behind i rising clock) (p.reset_behind i rising clock))) (reads_name a mid clock w h)

  complete_edge : (rising : Bool) (clock : Bytes) {b r : Bytes} {xs : List RawSet} (d : ReadsSets 2 b (codes "end\n" ++ r) xs)
      → Is (p.edge_behind i rising clock (codes ") begin\n  " ++ b)) (deep_sets n d) (Edge rising clock None xs) r
  unfolding p.edge_behind text
  complete_edge rising clock d = vlast _ (complete_sets d refl) refl

  complete_reset : (rising : Bool) (clock : Bytes) (up : Bool) (signal : Bytes) (negated : Bool) (level : Bytes) (b c d f r : Bytes) (values : List RawLoad) (xs : List RawSet)
      → ReadsName b (codes ") begin\n    if (" ++ c) signal → ReadsLevel negated c (codes ") begin\n    " ++ d) level
      → ReadsLoads d (codes "end else begin\n    " ++ f) values → (k : ReadsSets 4 f (codes "end\n  end\n" ++ r) xs)
      → Is (p.reset_behind i rising clock (codes " or " ++ (edge_word up ++ b))) (deep_sets n k) (Edge rising clock (Some (reset_of up signal negated level values)) xs) r
  unfolding p.reset_behind p.set_branch text
  complete_reset rising clock up signal negated level b c d f r values xs w l v k =
      same (ap (λ o. and_then o (λ reset. p.set_branch i >>= λ found. pure (Edge rising clock (Some reset) found))) (reads_reset up signal negated level b c d (codes "end else begin\n    " ++ f) values w l v refl))
      (vlast _ (vlast _ (complete_sets k refl) refl) refl)

  complete_block : {ts r : Bytes} {x : RawBlock} (d : ReadsBlock ts r x) → Is (p.block i ts) (deep_block n d) x r
  unfolding deep_block
  complete_block (ReadsBlock.comb d) = complete_comb d
  complete_block (ReadsBlock.edge {a = a} {b = b} {clock = clock} {rising = rising} w s) = same (edge_block_at rising clock a (codes ") begin\n  " ++ b) w refl) (complete_edge rising clock s)
  complete_block (ReadsBlock.edge_or_reset {a = a} {b = b} {d = d} {f = f} {r = r} {clock = clock} {signal = signal} {level = level} c {rising = rising} {up = up} {negated = negated} {values = values} {sets = xs} w v l k s) =
      same (edge_block_at rising clock a (codes " or " ++ (edge_word up ++ b)) w refl) (complete_reset rising clock up signal negated level b c d f r values xs v l k s)

-- ---- the module

abbrev var_of : Dir → Bytes → Option Bytes → RawVar
var_of dir w high = record { name = w; dir = dir; high = high }

reads_var : (dir : Dir) (v : RawVar) (ts r : Bytes) → ReadsVar dir ts r v → NoWord r → p.var dir ts ≡ Ok (v, r)
unfolding p.var
reads_var dir v ts r d h =
    ap (λ o. and_then o (λ high. name >>= λ w. pure (var_of dir w high))) (reads_range ts d.0 v.high d.1 (first_name is_bracket d.0 r v.name (no_name 91 refl refl) d.2))
    ∙ ap (λ o. and_then o (λ w. pure (var_of dir w v.high))) (reads_name d.0 r v.name d.2 h)
    ∙ ap (λ k. Ok (var_of k v.name v.high, r)) (sym d.3)

reads_port : {ts r : Bytes} {v : RawVar} → ReadsPort ts r v → NoWord r → p.port ts ≡ Ok (v, r)
unfolding p.port p.input_at p.output_at text
reads_port {ts} {r} {v} (ReadsPort.port true a d) h = reads_var (dir_of true) v a r d h
reads_port {ts} {r} {v} (ReadsPort.port false a d) h = reads_var (dir_of false) v a r d h

again_ports : Again is_comma p.further_port
again_ports = again_of is_comma sound_further_port

ports_no_word : {ts r : Bytes} {vs : List RawVar} → ReadsMorePorts ts r vs → NoWord r → NoWord ts
ports_no_word (ReadsMorePorts.no_more) h = h
ports_no_word (ReadsMorePorts.more d k) h = refl

complete_more_ports : {ts r : Bytes} {vs : List RawVar} → ReadsMorePorts ts r vs → NoWord r → is_next is_comma r ≡ false → Is (p.more_ports ts) None vs r
unfolding p.more_ports text
complete_more_ports {ts} {r} (ReadsMorePorts.no_more) h k = last_turn is_comma p.further_port r again_ports k
complete_more_ports {ts} {r} (ReadsMorePorts.more {a = a} d later) h k = turn is_comma p.further_port (codes ",\n" ++ a) again_ports refl (done (reads_port d (ports_no_word later h))) (complete_more_ports later h k)

port_blank : {ts r : Bytes} {v : RawVar} → ReadsPort ts r v → is_next is_blank ts ≡ true
port_blank (ReadsPort.port input a d) = refl

complete_ports : {ts r : Bytes} {vs : List RawVar} → ReadsPorts ts r vs → is_next is_blank r ≡ false → Is (p.ports ts) None vs r
unfolding p.ports p.ports_after p.onto text
complete_ports {ts} {r} (ReadsPorts.no_ports) h = done (passed is_blank (p.port >>= p.ports_after) (pure []) r h)
complete_ports {ts} {r} (ReadsPorts.ports d later) h =
    same (picked is_blank (p.port >>= p.ports_after) (pure []) ts (port_blank d)
    ∙ ap (λ o. and_then o (p.ports_after)) (reads_port d (ports_no_word later refl)))
    (vlast _ (vlast _ (complete_more_ports later refl refl) refl) refl)

module _ (n : ℕ) where
  abbrev j : Nested
  j = inner n

  again_items : AgainIn (λ _ b. is_blank b) (p.item j)
  again_items = again_in_of (λ _ b. is_blank b) (sound_item j (sound n))

  complete_declaration : (v : RawVar) (a m : Bytes) → ReadsVar Inner a (codes ";\n" ++ m) v → p.item j false (codes "  logic " ++ a) ≡ Ok ((Var v, false), m)
  unfolding p.item p.declaration text
  complete_declaration v a m d = ap (λ o. and_then o (λ v. text (codes ";\n") >> pure (Var v, false))) (reads_var Inner v a (codes ";\n" ++ m) d refl)

  block_first : {ts r : Bytes} {x : RawBlock} → ReadsBlock ts r x → is_next is_l ts ≡ false
  block_first (ReadsBlock.comb d) = refl
  block_first (ReadsBlock.edge w s) = refl
  block_first (ReadsBlock.edge_or_reset c w v l k s) = refl

  no_declaration : (begun : Bool) (ts : Bytes) → is_next is_l ts ≡ false → is_next (λ b. not begun && is_l b) ts ≡ false
  no_declaration true [] h = refl
  no_declaration true (b ∷ ts) h = refl
  no_declaration false [] h = refl
  no_declaration false (b ∷ ts) h = h

  complete_block_item : (begun : Bool) {a m : Bytes} {x : RawBlock} (d : ReadsBlock a m x) → Is (p.item j begun (codes "  " ++ a)) (deep_block n d) (Block x, true) m
  unfolding p.item text
  complete_block_item begun {a} {m} {x} d = same (passed (λ b. not begun && is_l b) p.declaration (p.block j >>= λ b. pure (Block b, true)) a (no_declaration begun a (block_first d)))
      (vlast _ (complete_block n d) refl)

  complete_items : {begun : Bool} {ts r : Bytes} {xs : List RawItem} (d : ReadsItems begun ts r xs) → is_next is_blank r ≡ false
      → (last : Bool) × Is (repeat_in (λ _ b. is_blank b) (p.item j) begun ts) (deep_items n d) (xs, last) r
  unfolding deep_items
  complete_items {begun} {ts} {r} (ReadsItems.no_items) h = (begun, last_turn_in (λ _ b. is_blank b) (p.item j) begun r again_items h)
  complete_items {begun} {ts} {r} (ReadsItems.var {a = a} {m = m} {v = v} d more) h =
      let k : _ = complete_items more h in
      (k.0, turn_in (λ _ b. is_blank b) (p.item j) false (codes "  logic " ++ a) again_items refl (done (complete_declaration v a m d)) k.1)
  complete_items {begun} {ts} {r} (ReadsItems.block {a = a} d more) h =
      let k : _ = complete_items more h in
      (k.0, turn_in (λ _ b. is_blank b) (p.item j) begun (codes "  " ++ a) again_items refl (complete_block_item begun d) k.1)

  abbrev module_of : Bytes → List RawVar → List RawItem → RawModule
  module_of w vars items = record { name = w; ports = vars; items = items }

  complete_module : {ts r : Bytes} {m : RawModule} (d : ReadsModule ts r m) → Is (p.module_at j ts) (deep_module n d) m r
  unfolding deep_module p.module_at p.ports_behind p.items_behind p.items text
  complete_module {ts} {r} (ReadsModule.whole {a = a} {b = b} {name = w} d vars items) =
      same (ap (λ o. and_then o (p.ports_behind j)) (reads_name a (codes " (\n" ++ b) w d refl))
      (vthen _ (complete_ports vars refl) (vlast _ (complete_items items refl).1 refl))

  pub complete_reading : {ts : Bytes} {m : RawModule} (d : Reads ts m) → Is (p.reading n ts) (deep n d) m []
  unfolding p.reading deep
  complete_reading d = vlast _ (complete_module d) refl
