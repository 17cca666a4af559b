-- The same for blocks and modules.
use Rattle.std.specs.Prelude.{◌≡◌, ℕ, Bool, true, false, not, ◌&&◌, List, [], ◌∷◌, ◌++◌, codes, refl}
use Rattle.std.proofs.Common.{ap, subst, lit≤}
use Rattle.scc_reading.specs.Reading.{◌>>=◌, pure, choose, is_next}
use Rattle.scc_reading.proofs.Answer.{Rule, Answers}
use Rattle.scc_reading.proofs.Core.{answers_by, answers_choose, answer_choose}
use Rattle.scc_reading.proofs.Steps.{answers_less, answers_seq, answers_pure_at}
use Rattle.scc_reading.proofs.Repeat.{answers_repeat, answers_repeat_in}
use Rattle.scc_svtree.specs.declared.module.Dir.{Dir}
use Rattle.scc_svtree.specs.declared.module.Dir.TheVariants.{Inner}
use Rattle.scc_svtext.specs.Pieces.{blanks}
use Rattle.scc_svread_grammar.specs.declared.raw.RawSet.{RawSet}
use Rattle.scc_svread_grammar.specs.declared.raw.RawLoad.{RawLoad}
use Rattle.scc_svread_grammar.specs.declared.raw.RawReset.{RawReset}
use Rattle.scc_svread_grammar.specs.declared.raw.RawBlock.{RawBlock}
use Rattle.scc_svread_grammar.specs.declared.raw.RawVar.{RawVar}
use Rattle.scc_svread_grammar.specs.declared.raw.RawItem.{RawItem}
use Rattle.scc_svread_grammar.specs.declared.raw.RawItem.TheVariants.{Block}
use Rattle.scc_svread_grammar.specs.declared.raw.RawModule.{RawModule}
use Rattle.scc_svread_grammar.specs.Lexical.{Bytes, ReadsName}
use Rattle.scc_svread_grammar.specs.Grammar.{edge_word, dir_of, ReadsSets, ReadsLoads, ReadsLevel, ReadsBlock, ReadsVar, ReadsPort, ReadsMorePorts, ReadsPorts, ReadsItems, ReadsModule}
use Rattle.scc_svread_grammar.specs.Reader.{Nested, is_blank, is_p, is_paren, is_c, is_i, is_l, is_close, is_comma}
use Rattle.scc_svread_grammar.specs.Reader as p
use Rattle.scc_svread_grammar.proofs.Runs.{answers_text_0, answers_text_1}
use Rattle.scc_svread_grammar.proofs.Numbers.{sound_literal}
use Rattle.scc_svread_grammar.proofs.Names.{sound_name, sound_range}
use Rattle.scc_svread_grammar.proofs.SoundExpr.{Sound, sound_onto}
use Rattle.scc_svread_grammar.proofs.SoundStmt.{sound_stmts}

abbrev pub RLoad : Rule ℕ RawLoad
RLoad = λ x ts mid. (r : Bytes) (more : List RawLoad) → ReadsLoads mid r more → ReadsLoads ts r (x ∷ more)

pub sound_load : Answers 1 RLoad p.load_line
unfolding p.load_behind
sound_load = answers_text_1 32 (32 ∷ []) (answers_seq sound_name (λ target. answers_text_0 (codes " <= ") (answers_seq sound_literal (λ value. answers_text_0 (codes ";\n") (answers_text_0 (blanks 4)
    (answers_pure_at (λ y b l a w r more k. ReadsLoads.load w l k)))))))

sound_loads : Answers 0 (λ xs ts r. ReadsLoads ts r xs) p.loads
unfolding p.loads
sound_loads = answers_repeat is_blank p.load_line 0 RLoad sound_load (λ xs ts r. ReadsLoads ts r xs) (λ y. ReadsLoads.no_loads) (λ a more ts mid r d k. d r more k)

abbrev REdge : Rule ℕ Bool
REdge = λ rising ts r. ts ≡ edge_word rising ++ r

sound_edge : Answers 1 REdge p.edge_at
unfolding p.edge_at
sound_edge = answers_choose 1 is_p _ _ _ (answers_text_1 112 (codes "osedge ") (answers_pure_at (λ y. refl))) (answers_text_1 110 (codes "egedge ") (answers_pure_at (λ y. refl)))

abbrev RLevel : Rule ℕ (Bool × Bytes)
RLevel = λ l ts r. ReadsLevel l.0 ts r l.1

sound_level : Answers 1 RLevel p.level
unfolding p.level
sound_level = answers_choose 1 is_paren _ _ _
    (answers_text_1 40 (33 ∷ []) (answers_seq sound_name (λ w. answers_text_0 (41 ∷ []) (answers_pure_at (λ y ts d. (ts, refl, d))))))
    (answers_seq sound_name (λ w. answers_pure_at (λ y ts d. d)))

record Reset (reset : RawReset) (ts r : Bytes) : Type 0 where
  b : Bytes
  c : Bytes
  d : Bytes
  begins : ts ≡ codes " or " ++ (edge_word reset.rising ++ b)
  signal : ReadsName b (codes ") begin\n    if (" ++ c) reset.signal
  level : ReadsLevel reset.negated c (codes ") begin\n    " ++ d) reset.level
  values : ReadsLoads d r reset.values

sound_reset : Answers 1 (λ reset ts r. Reset reset ts r) p.reset_at
unfolding p.reset_at p.reset_level p.reset_values
sound_reset = answers_text_1 32 (codes "or ") (answers_seq sound_edge (λ up. answers_seq sound_name (λ signal. answers_text_0 (codes ") begin\n    if (")
    (answers_seq sound_level (λ l. answers_text_0 (codes ") begin\n    ") (answers_seq sound_loads (λ values.
    answers_pure_at (λ y d v c k b g a u. record { b = b; c = c; d = d; begins = ap (λ t. codes " or " ++ t) u; signal = g; level = k; values = v }))))))))

module _ (i : Nested) (S : Sound i) where
  abbrev pub RSet : ℕ → Rule ℕ RawSet
  RSet n = λ x ts mid. (r : Bytes) (more : List RawSet) → ReadsSets n mid r more → ReadsSets n ts r (x ∷ more)

  pub sound_set : (n : ℕ) → Answers 1 (RSet n) (p.set_line i n)
  unfolding p.set_behind
  sound_set n = answers_text_1 32 (32 ∷ []) (answers_seq sound_name (λ target. answers_text_0 (codes " <= ") (answers_seq S.expr (λ value. answers_text_0 (codes ";\n") (answers_text_0 (blanks n)
      (answers_pure_at (λ y b v a w r more k. ReadsSets.set w v k)))))))

  sound_sets : (n : ℕ) → Answers 0 (λ xs ts r. ReadsSets n ts r xs) (p.sets i n)
  unfolding p.sets
  sound_sets n = answers_repeat is_blank (p.set_line i n) 0 (RSet n) (sound_set n) (λ xs ts r. ReadsSets n ts r xs) (λ y. ReadsSets.no_sets) (λ a more ts mid r d k. d r more k)

  abbrev RAlways : Rule ℕ RawBlock
  RAlways = λ x mid r. ReadsBlock (codes "always_" ++ mid) r x

  sound_comb : Answers 0 RAlways (p.comb i)
  unfolding p.comb
  sound_comb = answers_text_0 (codes "comb begin\n  ") (answers_seq (sound_stmts i S 2) (λ body. answers_text_0 (codes "end\n") (answers_pure_at (λ y ts d. ReadsBlock.comb d))))

  -- what follows the name of a clock
  abbrev RBehindClock : Bool → Bytes → Rule ℕ RawBlock
  RBehindClock rising clock = λ x mid r. (ts : Bytes) → ReadsName ts mid clock → ReadsBlock (codes "always_ff @(" ++ (edge_word rising ++ ts)) r x

  sound_edge_behind : (rising : Bool) (clock : Bytes) → Answers 0 (RBehindClock rising clock) (p.edge_behind i rising clock)
  unfolding p.edge_behind
  sound_edge_behind rising clock = answers_text_0 (codes ") begin\n  ") (answers_seq (sound_sets 2) (λ found. answers_text_0 (codes "end\n") (answers_pure_at (λ y b s ts w. ReadsBlock.edge w s))))

  abbrev RBranch : Rule ℕ (List RawSet)
  RBranch = λ xs ts r. (f : Bytes) × (ts ≡ codes "end else begin\n    " ++ f) × ReadsSets 4 f (codes "end\n  end\n" ++ r) xs

  sound_branch : Answers 1 RBranch (p.set_branch i)
  unfolding p.set_branch
  sound_branch = answers_text_1 101 (codes "nd else begin\n    ") (answers_seq (sound_sets 4) (λ found. answers_text_0 (codes "end\n  end\n") (answers_pure_at (λ y f s. (f, refl, s)))))

  sound_reset_behind : (rising : Bool) (clock : Bytes) → Answers 0 (RBehindClock rising clock) (p.reset_behind i rising clock)
  unfolding p.reset_behind
  sound_reset_behind rising clock = answers_less (lit≤ tt) (answers_seq sound_reset (λ reset. answers_seq sound_branch (λ found. answers_pure_at (λ y v s u k ts w.
      ReadsBlock.edge_or_reset k.c (subst (λ t. ReadsName ts t clock) k.begins w) k.signal k.level (subst (λ t. ReadsLoads k.d t reset.values) s.1 k.values) s.2))))

  sound_edge_block : Answers 0 RAlways (p.edge_block i)
  unfolding p.edge_block
  sound_edge_block = answers_text_0 (codes "ff @(") (answers_seq sound_edge (λ rising. answers_seq sound_name (λ clock.
      answers_by (RBehindClock rising clock) (λ x mid r. (ts : Bytes) → ReadsName ts mid clock → (us : Bytes) → REdge rising us ts → RAlways x (codes "ff @(" ++ us) r)
      (λ x mid r f ts w us u. rw u (f ts w)) (answers_choose 0 is_close _ _ _ (sound_edge_behind rising clock) (sound_reset_behind rising clock)))))

  abbrev pub RBlock : Rule ℕ RawBlock
  RBlock = λ x ts r. ReadsBlock ts r x

  sound_block : Answers 1 RBlock (p.block i)
  unfolding p.block
  sound_block = answers_text_1 97 (codes "lways_") (answers_choose 0 is_c _ _ _ sound_comb sound_edge_block)

-- ---- the module

abbrev RVar : Dir → Rule ℕ RawVar
RVar dir = λ v ts r. ReadsVar dir ts r v

sound_var : (dir : Dir) → Answers 0 (RVar dir) (p.var dir)
unfolding p.var
sound_var dir = answers_seq sound_range (λ high. answers_seq sound_name (λ w. answers_pure_at (λ y mid d ts h. (mid, h, d, refl))))

abbrev pub RPort : Rule ℕ RawVar
RPort = λ v ts r. ReadsPort ts r v

sound_port : Answers 1 RPort p.port
unfolding p.port p.input_at p.output_at
sound_port = answers_text_1 32 (32 ∷ []) (answers_choose 0 is_i _ _ _
    (answers_text_0 (codes "input logic ") (answers_by (RVar (dir_of true)) (λ v mid r. ReadsPort (codes "  input logic " ++ mid) r v) (λ v mid r d. ReadsPort.port true mid d) (sound_var (dir_of true))))
    (answers_text_0 (codes "output logic ") (answers_by (RVar (dir_of false)) (λ v mid r. ReadsPort (codes "  output logic " ++ mid) r v) (λ v mid r d. ReadsPort.port false mid d) (sound_var (dir_of false)))))

abbrev pub RMorePort : Rule ℕ RawVar
RMorePort = λ v ts mid. (r : Bytes) (vs : List RawVar) → ReadsMorePorts mid r vs → ReadsMorePorts ts r (v ∷ vs)

pub sound_further_port : Answers 1 RMorePort p.further_port
sound_further_port = answers_text_1 44 (10 ∷ []) (answers_by RPort (λ v mid r. RMorePort v (codes ",\n" ++ mid) r) (λ v ts mid d r vs k. ReadsMorePorts.more d k) sound_port)

sound_more_ports : Answers 0 (λ vs ts r. ReadsMorePorts ts r vs) p.more_ports
unfolding p.more_ports
sound_more_ports = answers_repeat is_comma p.further_port 0 RMorePort sound_further_port (λ vs ts r. ReadsMorePorts ts r vs) (λ y. ReadsMorePorts.no_more) (λ a more ts mid r d k. d r more k)

sound_ports : Answers 0 (λ vs ts r. ReadsPorts ts r vs) p.ports
unfolding p.ports p.ports_after
sound_ports = answers_choose 0 is_blank _ _ _
    (answers_less (lit≤ tt) (answers_seq sound_port (λ first. answers_seq (sound_onto (λ vs ts r. ReadsMorePorts ts r vs) (first ∷ []) sound_more_ports) (λ all. answers_text_0 (10 ∷ []) (answers_pure_at (λ y m k ts d. rw k.1 (ReadsPorts.ports d k.2)))))))
    (answers_pure_at (λ y. ReadsPorts.no_ports))

abbrev pub RItem : Bool → Rule ℕ (RawItem × Bool)
RItem begun = λ x ts mid. (r : Bytes) (more : List RawItem) → ReadsItems x.1 mid r more → ReadsItems begun ts r (x.0 ∷ more)

abbrev RItemBehind : Bool → Rule ℕ (RawItem × Bool)
RItemBehind begun = λ x mid r. RItem begun x (codes "  " ++ mid) r

sound_declaration : Answers 1 (RItemBehind false) p.declaration
unfolding p.declaration
sound_declaration = answers_text_1 108 (codes "ogic ") (answers_seq (sound_var Inner) (λ v. answers_text_0 (codes ";\n") (answers_pure_at (λ y ts d r more k. ReadsItems.var d k))))

no_next : (ts : Bytes) → is_next (λ b. not true && is_l b) ts ≡ true → ⊥
no_next [] h = cc
no_next (b ∷ ts) h = cc

module _ (i : Nested) (S : Sound i) where
  sound_block_item : (begun : Bool) → Answers 1 (RItemBehind begun) (p.block i >>= λ b. pure (Block b, true))
  sound_block_item begun = answers_seq (sound_block i S) (λ b. answers_pure_at (λ y ts d r more k. ReadsItems.block d k))

  sound_either : (begun : Bool) → Answers 1 (RItemBehind begun) (choose (λ b. not begun && is_l b) p.declaration (p.block i >>= λ b. pure (Block b, true)))
  sound_either true = record {
    some = (sound_block_item true).some;
    at = λ ts. answer_choose 1 (λ b. not true && is_l b) (RItemBehind true) p.declaration (p.block i >>= λ b. pure (Block b, true)) ts (λ h. absurd (no_next ts h)) (λ _. (sound_block_item true).at ts);
  }
  sound_either false = answers_choose 1 (λ b. not false && is_l b) _ _ _ sound_declaration (sound_block_item false)

  pub sound_item : (begun : Bool) → Answers 1 (RItem begun) (p.item i begun)
  unfolding p.item
  sound_item begun = answers_text_1 32 (32 ∷ []) (sound_either begun)

  sound_items : Answers 0 (λ x ts r. ReadsItems false ts r x.0) (p.items i)
  unfolding p.items
  sound_items = answers_repeat_in (λ _ b. is_blank b) 0 RItem (p.item i) sound_item (λ begun x ts r. ReadsItems begun ts r x.0) (λ begun y. ReadsItems.no_items) (λ begun x more ts mid r d k. d r more.0 k) false

  abbrev pub RModule : Rule ℕ RawModule
  RModule = λ m ts r. ReadsModule ts r m

  pub sound_module : Answers 1 RModule (p.module_at i)
  unfolding p.module_at p.ports_behind p.items_behind
  sound_module = answers_text_1 109 (codes "odule ") (answers_seq sound_name (λ w. answers_text_0 (codes " (\n") (answers_seq sound_ports (λ vars. answers_text_0 (codes ");\n")
      (answers_seq sound_items (λ found. answers_text_0 (codes "endmodule\n") (answers_pure_at (λ y c items b ports a n. ReadsModule.whole n ports items))))))))
