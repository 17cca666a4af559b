-- Blocks that were read, and over which the first walk notes nothing: what they stand for is printed so, and has right sizes and names.
use Rattle.std.proofs.Common.{◌≡◌, ◌<◌, ℕ, Bool, true, false, not, ◌||◌, nat_eq, List, [], ◌∷◌, ◌++◌, map, length, refl, sym, subst, ap, ◌∙◌}
use Rattle.std.specs.Prelude.{codes, bytes_eq, flat_map, Some, None}
use Rattle.std.specs.List.{list_all}
use Rattle.std.proofs.lemmas.Bool.{eqb-true}
use Rattle.std.proofs.lemmas.Slice.Eq.{bytes_eq-Decides}
use Rattle.scc_svtree.specs.declared.module.SvVar.{SvVar}
use Rattle.scc_svtree.specs.Variables.{width_at, IsWidth}
use Rattle.scc_svtree.specs.Code.{End, code_of}
use Rattle.scc_svtree.specs.Mentions.{code_reads, assigns}
use Rattle.scc_svtree.specs.Concats.{each_true, stmt_concats, block_concats}
use Rattle.scc_svtree.specs.Sound.{Each, AreNamed, IsSizedBlock, targets, load_targets, sets_read, is_among, block_names}
use Rattle.scc_svtext.specs.Fixed.{fixed_text}
use Rattle.scc_svtext.specs.Pieces.{blanks, name_at}
use Rattle.scc_svtext.specs.StmtText.{stmts_text}
use Rattle.scc_svtext.specs.ModuleText.{names_of, edge_text, level_text, set_text, load_text, signal_text, branch_text, block_text}
use Rattle.scc_svread_grammar.specs.declared.raw.RawStmt.{RawStmt}
use Rattle.scc_svread_grammar.specs.declared.raw.RawSet.{RawSet}
use Rattle.scc_svread_grammar.specs.declared.raw.RawLoad.{RawLoad}
use Rattle.scc_svread_grammar.specs.declared.raw.RawReset.{RawReset}
use Rattle.scc_svread_grammar.specs.declared.raw.RawBlock.{RawBlock}
use Rattle.scc_svread_grammar.specs.declared.raw.RawBlock.TheVariants as raw
use Rattle.scc_svread_grammar.specs.Lexical.{Bytes, ReadsName}
use Rattle.scc_svread_grammar.specs.Grammar.{edge_word, ReadsLevel, ReadsBlock}
use Rattle.scc_svread_grammar.proofs.Runs.{and_left, and_right}
use Rattle.scc_svread_check.specs.declared.walk.Walk.{Walk}
use Rattle.scc_svread_written.specs.Resolved.{number_of, stmt_of, set_of, load_of, reset_of, block_of}
use Rattle.scc_svread_check.specs.Scope.{Scope}
use Rattle.scc_svread_check.specs.Blocks.{level_walk, block_walk}
use Rattle.scc_svread_check.specs.Drivers.{same, is_wrong_level}
use Rattle.scc_svread_written.proofs.Clear.{IsClear}
use Rattle.scc_svread_sizes.proofs.Noted.{RightLevel}
use Rattle.scc_svread_written.proofs.Decimals.{both}
use Rattle.scc_svread_written.proofs.Formed.{Declares}
use Rattle.scc_svread_written.proofs.Sums.{two, three, four, five}
use Rattle.scc_svread_written.proofs.Leaves.{bare_names}
use Rattle.scc_svread_sizes.proofs.MeantWalks.{Demands, demands_by, demands_then, pass_first, pass_last}
use Rattle.scc_svread_sizes.proofs.MeantLeaves.{or_left, or_right, not_false, MeantName, name_demands, name_text}
use Rattle.scc_svread_sizes.proofs.MeantOperators.{either}
use Rattle.scc_svread_sizes.proofs.MeantLines.{end_fits, MeantStmts}
use Rattle.scc_svread_sizes.proofs.MeantStatements.{stmts_meant}
use Rattle.scc_svread_sizes.proofs.MeantSets.{MeantSets, sets_meant, MeantLoads, loads_meant}

edge_same : (rising : Bool) → edge_word rising ≡ edge_text rising
unfolding fixed_text
edge_same true = refl
edge_same false = refl

each_all : {A : Type 0} (f : A → Bool) (xs : List A) → each_true (map f xs) ≡ true → list_all f xs ≡ true
each_all f [] h = refl
each_all f (x ∷ xs) h = both (f x) _ (and_left (f x) _ h) (each_all f xs (and_right (f x) _ h))

-- the level to which an edge leads, and its signal
right_level : (up negated : Bool) → same up negated ≡ false → negated ≡ not up
right_level true b h = h
right_level false b h = not_false b h

module _ (vars : List SvVar) (named : AreNamed vars) (widths : Each (λ v. IsWidth v.width) vars) (s : Scope) (d : Declares s vars) where
  abbrev names : List Bytes
  names = names_of vars

  abbrev bare : List Bytes
  bare = bare_names vars

  abbrev IsName : Bytes → Type 0
  IsName name = MeantName vars named widths s d name

  -- a name's number as it stands in a text
  abbrev at_name : Bytes → Bytes
  at_name name = name_at names (number_of bare name)

  text_of : (ts r name : Bytes) → ReadsName ts r name → IsName name → ts ≡ at_name name ++ r
  text_of ts r name k m = name_text vars named widths s d ts r name k m

  is_within : (i v : ℕ) → i < length vars → nat_eq i v ≡ true → v < length vars
  is_within i v h e = subst (λ k. k < length vars) (eqb-true i v e) h

  -- ---- blocks

  -- what a block says
  pub record MeantBlock (a r : Bytes) (b : RawBlock) : Type 0 where
    pub text : codes "  " ++ a ≡ block_text vars names (block_of bare b) ++ r
    pub sized : IsSizedBlock (width_at vars) (block_of bare b)
    pub declared : (v : ℕ) → block_names (block_of bare b) v ≡ true → v < length vars
    pub concats : block_concats (block_of bare b) ≡ true

  abbrev BlockMeant : Bytes → Bytes → RawBlock → Type 0
  BlockMeant a r b = Demands (block_walk s b) (MeantBlock a r b)

  comb_put : (a r : Bytes) (body : List RawStmt) → MeantStmts vars named widths s d 2 a (codes "end\n" ++ r) body → MeantBlock (codes "always_comb begin\n  " ++ a) r (raw.Comb body)
  unfolding fixed_text
  comb_put a r body h =
      let f = h.fits End (end_fits vars) in record {
        text = ap (λ u. codes "  always_comb begin\n" ++ u) h.text ∙ sym (three (codes "  always_comb begin\n") (stmts_text names (map (stmt_of bare) body) 4) (codes "  end\n") r);
        sized = f.sized;
        declared = λ v. either (code_reads (code_of (map (stmt_of bare) body)) v) (assigns (code_of (map (stmt_of bare) body)) v) (f.read v) (f.assigned v);
        concats = each_all stmt_concats (map (stmt_of bare) body) h.concats;
      }

  -- from behind the word of the edge on
  abbrev opened : Bytes → Bytes → Bytes
  opened edge rest = codes "  always_ff @(" ++ (edge ++ rest)

  module _ (a b r clock : Bytes) (rising : Bool) (sets : List RawSet) where
    edge_put : ReadsName a (codes ") begin\n  " ++ b) clock → IsName clock → MeantSets vars named widths s d 2 b (codes "end\n" ++ r) sets
        → MeantBlock (codes "always_ff @(" ++ (edge_word rising ++ a)) r (raw.Edge rising clock None sets)
    unfolding fixed_text
    edge_put k f h =
        let lines : Bytes = flat_map (set_text names 4) (map (set_of bare) sets) in record {
          text = ap (λ u. opened u a) (edge_same rising)
              ∙ ap (λ u. opened (edge_text rising) u) (text_of a (codes ") begin\n  " ++ b) clock k f
              ∙ ap (λ u. at_name clock ++ u) (ap (λ u. codes ") begin\n" ++ u) h.text ∙ sym (two (codes ") begin\n") lines (codes "  end\n" ++ r))))
              ∙ sym (five (codes "  always_ff @(") (edge_text rising) (at_name clock) (codes ") begin\n" ++ lines) (codes "  end\n") r);
          sized = (h.sized, tt);
          declared = λ v. either (nat_eq (number_of bare clock) v || false || is_among (targets (map (set_of bare) sets)) v) (sets_read (map (set_of bare) sets) v)
              (either (nat_eq (number_of bare clock) v || false) (is_among (targets (map (set_of bare) sets)) v) (either (nat_eq (number_of bare clock) v) false (is_within (number_of bare clock) v f.within) (λ e. cc)) (h.assigned v))
              (h.read v);
          concats = h.concats;
        }

  -- the condition of a reset, at the level to which its edge leads
  level_demands : (negated : Bool) (name : Bytes) → Demands (level_walk s negated name) (IsName name)
  level_demands true name = pass_last 9 (pass_first 2 (name_demands vars named widths s d name))
  level_demands false name = pass_last 8 (name_demands vars named widths s d name)

  level_is : (up : Bool) (c r name : Bytes) → ReadsLevel (not up) c r name → IsName name → c ≡ level_text up (at_name name) ++ r
  unfolding fixed_text
  level_is true c r name k m = text_of c r name k m
  level_is false c r name k m = k.1 ∙ ap (λ u. codes "(!" ++ u) (text_of k.0 (codes ")" ++ r) name k.2 m) ∙ sym (three (codes "(!") (at_name name) (codes ")") r)

  level_meant : (up negated : Bool) (c r signal level : Bytes) → negated ≡ not up → signal ≡ level → ReadsLevel negated c r level → IsName signal → c ≡ level_text up (at_name signal) ++ r
  level_meant up negated c r signal level e f k m =
      level_is up c r signal (subst (λ n. ReadsLevel n c r signal) e (subst (λ u. ReadsLevel negated c r u) (sym f) k)) m

  module _ (a b c e f r clock signal level : Bytes) (rising up negated : Bool) (values : List RawLoad) (sets : List RawSet) where
    abbrev reset : RawReset
    reset = record { rising = up; signal = signal; negated = negated; level = level; values = values }

    reset_put : ReadsName a (codes " or " ++ (edge_word up ++ b)) clock → ReadsName b (codes ") begin\n    if (" ++ c) signal → ReadsLevel negated c (codes ") begin\n    " ++ e) level → is_wrong_level reset ≡ false
        → IsName clock → IsName signal → MeantLoads vars named widths s d e (codes "end else begin\n    " ++ f) values → MeantSets vars named widths s d 4 f (codes "end\n  end\n" ++ r) sets
        → MeantBlock (codes "always_ff @(" ++ (edge_word rising ++ a)) r (raw.Edge rising clock (Some reset) sets)
    unfolding fixed_text
    reset_put k l m w g h i j =
        let lines : Bytes = flat_map (set_text names 6) (map (set_of bare) sets) in
        let loads : Bytes = flat_map (load_text vars names) (map (load_of bare) values) in
        let line : Bytes = signal_text names (reset_of bare reset) in
        let branch : Bytes = branch_text vars names (reset_of bare reset) in
        let own : Bytes = at_name signal in
        let test : Bytes = level_text up own in
        let leads : signal ≡ level = (bytes_eq-Decides signal level).0 (not_false (bytes_eq signal level) (or_left (not (bytes_eq signal level)) _ w)) in
        let turned : negated ≡ not up = right_level up negated (or_right (not (bytes_eq signal level)) _ w) in record {
          text = ap (λ u. opened u a) (edge_same rising)
              ∙ ap (λ u. opened (edge_text rising) u) (text_of a (codes " or " ++ (edge_word up ++ b)) clock k g
              ∙ ap (λ u. at_name clock ++ u) (ap (λ u. codes " or " ++ (u ++ b)) (edge_same up)
              ∙ ap (λ u. codes " or " ++ (edge_text up ++ u)) (text_of b (codes ") begin\n    if (" ++ c) signal l h)
              ∙ sym (four (codes " or ") (edge_text up) own (codes ") begin\n") (codes "    if (" ++ c))
              ∙ ap (λ u. line ++ (codes "    if (" ++ u)) (level_meant up negated c (codes ") begin\n    " ++ e) signal level turned leads m h ∙ ap (λ u. test ++ (codes ") begin\n" ++ u)) i.text)
              ∙ ap (λ u. line ++ u) (sym (five (codes "    if (") test (codes ") begin\n") loads (codes "    end else begin\n") (blanks 4 ++ f)) ∙ ap (λ u. branch ++ u) j.text)
              ∙ sym (four line branch lines (codes "    end\n") (codes "  end\n" ++ r))))
              ∙ sym (five (codes "  always_ff @(") (edge_text rising) (at_name clock) (line ++ branch ++ lines ++ codes "    end\n") (codes "  end\n") r);
          sized = (j.sized, i.sized);
          declared = λ v.
              let at_clock : Bool = nat_eq (number_of bare clock) v in
              let at_signal : Bool = nat_eq (number_of bare signal) v in
              let loaded : Bool = is_among (load_targets (map (load_of bare) values)) v in
              let set : Bool = is_among (targets (map (set_of bare) sets)) v in
              either (at_clock || (at_signal || loaded) || set) (sets_read (map (set_of bare) sets) v)
              (either (at_clock || (at_signal || loaded)) set
              (either at_clock (at_signal || loaded) (is_within (number_of bare clock) v g.within) (either at_signal loaded (is_within (number_of bare signal) v h.within) (i.assigned v))) (j.assigned v))
              (j.read v);
          concats = j.concats;
        }

  -- ---- every block

  block_demands : {a r : Bytes} {b : RawBlock} → ReadsBlock a r b → RightLevel b → BlockMeant a r b
  block_demands (ReadsBlock.comb {a = a} {r = r} {body = body} k) w = demands_by (comb_put a r body) (pass_last 6 (pass_first 20 (stmts_meant vars named widths s d k 4)))
  block_demands (ReadsBlock.edge {a = a} {b = b} {r = r} {clock = clock} {rising = rising} {sets = sets} k l) w =
      demands_by (λ h. edge_put a b r clock rising sets k h.0 h.1)
      (demands_then (pass_first 22 (name_demands vars named widths s d clock)) (pass_last 6 (pass_first 8 (sets_meant vars named widths s d l 4))))
  block_demands (ReadsBlock.edge_or_reset {a = a} {b = b} {d = e} {f = f} {r = r} {clock = clock} {signal = signal} {level = level} c {rising = rising} {up = up} {negated = negated} {values = values} {sets = sets} k l m i j) w =
      demands_by (λ h. reset_put a b c e f r clock signal level rising up negated values sets k l m w h.0 h.1.0.0.0 h.1.0.1 h.1.1)
      (demands_then (pass_first 22 (name_demands vars named widths s d clock))
      (pass_last 14 (demands_then (pass_last 19 (demands_then (demands_then (pass_last 16 (pass_first 12 (name_demands vars named widths s d signal))) (level_demands negated level)) (loads_meant vars named widths s d i 6)))
      (sets_meant vars named widths s d j 6))))

  pub block_meant : {a r : Bytes} {b : RawBlock} → ReadsBlock a r b → RightLevel b → (w : Walk) → IsClear (block_walk s b w) → IsClear w × MeantBlock a r b
  block_meant k l w c = (block_demands k l).told w c
