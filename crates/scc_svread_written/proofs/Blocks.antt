-- Blocks: each is read as it is written, and says what it stands for.
use Rattle.std.proofs.Common.{◌≡◌, ◌<◌, ◌≤◌, ◌+◌, ◌/◌, ◌^◌, ℕ, zero, suc, Bool, true, false, not, nat_eq, List, [], ◌∷◌, ◌++◌, length, map, Option, Some, None, refl, eq-eqb, ap, ◌∙◌, arith}
use Rattle.std.specs.Prelude.{codes, flat_map}
use Rattle.std.specs.List.{list_all}
use Rattle.scc_svtree.specs.declared.module.SvVar.{SvVar}
use Rattle.scc_svtree.specs.declared.module.SvBlock.{SvBlock}
use Rattle.scc_svtree.specs.declared.module.SvBlock.TheVariants.{Comb, Edge}
use Rattle.scc_svtree.specs.declared.module.SvSet.{SvSet}
use Rattle.scc_svtree.specs.declared.module.SvLoad.{SvLoad}
use Rattle.scc_svtree.specs.declared.module.SvReset.{SvReset}
use Rattle.scc_svtree.specs.declared.expr.VarId.{VarId}
use Rattle.scc_svtree.specs.declared.stmt.SvStmt.{SvStmt}
use Rattle.scc_svtree.specs.Variables.{width_at, IsWidth}
use Rattle.scc_svtree.specs.Term.{term_of}
use Rattle.scc_svtree.specs.Code.{End, code_of}
use Rattle.scc_svtree.specs.Mentions.{reads, code_reads, assigns}
use Rattle.scc_svtree.specs.Concats.{each_true, expr_concats, stmt_concats, block_concats}
use Rattle.scc_svtree.specs.Sound.{Each, AreNamed, AreSizedSets, AreSizedLoads, IsSizedBlock, targets, load_targets, sets_read, is_among, reset_names, block_names}
use Rattle.scc_svtext.specs.Fixed.{fixed_text}
use Rattle.scc_svtext.specs.Pieces.{blanks, name_at, literal_text, hex_text}
use Rattle.scc_svtext.specs.ExprText.{expr_text}
use Rattle.scc_svtext.specs.StmtText.{stmts_text}
use Rattle.scc_svtext.specs.ModuleText.{names_of, edge_text, level_text, set_text, load_text, signal_text, branch_text, block_text}
use Rattle.scc_svread_grammar.specs.Lexical.{Bytes}
use Rattle.scc_svread_grammar.specs.Grammar.{edge_word, ReadsSets, ReadsLoads, ReadsLevel, ReadsBlock}
use Rattle.scc_svread_grammar.proofs.Runs.{and_left, and_right}
use Rattle.scc_svread_written.specs.Written.{name_of, raw_expr, raw_set, raw_load, raw_reset, raw_block}
use Rattle.scc_svread_check.specs.Numbers.{word_number}
use Rattle.scc_svread_written.specs.Resolved.{word_of, expr_of, set_of, load_of, reset_of, block_of}
use Rattle.scc_svread_written.proofs.Decimals.{both}
use Rattle.scc_svread_written.proofs.Digits.{number_hex}
use Rattle.scc_svread_written.proofs.Sums.{two, three, four, five}
use Rattle.scc_svread_written.proofs.Leaves.{bare_names, reads_name, back_var, reads_literal}
use Rattle.scc_svread_written.proofs.Fits.{left_true, right_true, FitsCode}
use Rattle.scc_svread_written.proofs.Expressions.{IsTold, known}
use Rattle.scc_svread_written.proofs.Statements.{deeper, IsToldStmt, KnownStmt, told_stmts, reads_stmts, back_stmts, known_stmt}

edge_same : (rising : Bool) → edge_text rising ≡ edge_word rising
unfolding fixed_text
edge_same true = refl
edge_same false = refl

each_of : {A : Type 0} (P : A → Type 0) → ((x : A) → P x) → (xs : List A) → Each P xs
each_of P k [] = tt
each_of P k (x ∷ xs) = (k x, each_of P k xs)

all_each : {A : Type 0} (f : A → Bool) (xs : List A) → list_all f xs ≡ true → each_true (map f xs) ≡ true
all_each f [] h = refl
all_each f (x ∷ xs) h = both (f x) _ (and_left (f x) _ h) (all_each f xs (and_right (f x) _ h))

-- each variable of the module has 1 to 128 bits
width_of_each : (vars : List SvVar) → Each (λ v. IsWidth v.width) vars → (i : ℕ) → width_at vars i ≤ 128
width_of_each [] h i = omega arith
width_of_each (v ∷ vs) h zero = h.0.1
width_of_each (v ∷ vs) h (suc i) = width_of_each vs h.1 i

module _ (vars : List SvVar) (named : AreNamed vars) (widths : Each (λ v. IsWidth v.width) vars) where
  abbrev names : List Bytes
  names = names_of vars

  abbrev bare : List Bytes
  bare = bare_names vars

  -- ---- the lines of an edge

  abbrev IsToldSet : SvSet → Type 0
  IsToldSet u = (u.target.0 < length vars) × IsTold vars named u.value

  abbrev FitsLoad : SvLoad → Type 0
  FitsLoad l = (l.target.0 < length vars) × (l.value.bits < 2 ^ width_at vars l.target.0)

  reads_sets : (xs : List SvSet) → Each IsToldSet xs → (n : ℕ) (r : Bytes)
      → (body : Bytes) × (flat_map (set_text names (n + 2)) xs ++ (blanks n ++ r) ≡ blanks n ++ body) × ReadsSets n body r (map (raw_set vars) xs)
  unfolding fixed_text
  reads_sets [] k n r = (r, refl, ReadsSets.no_sets)
  reads_sets (u ∷ us) k n r =
      let q = reads_sets us k.1 n r in
      let name : Bytes = name_at names u.target.0 in
      let value : Bytes = expr_text names u.value in
      let a : Bytes = name ++ (codes " <= " ++ (value ++ (codes ";\n" ++ (blanks n ++ q.0)))) in (
        codes "  " ++ a,
        two (set_text names (n + 2) u) (flat_map (set_text names (n + 2)) us) (blanks n ++ r) ∙ ap (λ b. set_text names (n + 2) u ++ b) q.1
            ∙ five (blanks (n + 2)) name (codes " <= ") value (codes ";\n") (blanks n ++ q.0) ∙ deeper n a,
        ReadsSets.set (reads_name vars named u.target.0 (codes " <= " ++ (value ++ (codes ";\n" ++ (blanks n ++ q.0)))) k.0.0) (k.0.1.reads (codes ";\n" ++ (blanks n ++ q.0))) q.2,
      )

  reads_loads : (xs : List SvLoad) → Each FitsLoad xs → (r : Bytes)
      → (body : Bytes) × (flat_map (load_text vars names) xs ++ (blanks 4 ++ r) ≡ blanks 4 ++ body) × ReadsLoads body r (map (raw_load vars) xs)
  unfolding fixed_text
  reads_loads [] k r = (r, refl, ReadsLoads.no_loads)
  reads_loads (l ∷ ls) k r =
      let q = reads_loads ls k.1 r in
      let name : Bytes = name_at names l.target.0 in
      let width : ℕ = width_at vars l.target.0 in
      let value : Bytes = literal_text width l.value.bits in
      let a : Bytes = name ++ (codes " <= " ++ (value ++ (codes ";\n" ++ (blanks 4 ++ q.0)))) in (
        codes "  " ++ a,
        two (load_text vars names l) (flat_map (load_text vars names) ls) (blanks 4 ++ r) ∙ ap (λ b. load_text vars names l ++ b) q.1
            ∙ five (blanks 6) name (codes " <= ") value (codes ";\n") (blanks 4 ++ q.0),
        ReadsLoads.load (reads_name vars named l.target.0 (codes " <= " ++ (value ++ (codes ";\n" ++ (blanks 4 ++ q.0)))) k.0.0)
            (reads_literal width l.value.bits (codes ";\n" ++ (blanks 4 ++ q.0)) (width_of_each vars widths l.target.0)) q.2,
      )

  back_sets : (xs : List SvSet) → Each IsToldSet xs → map (set_of bare) (map (raw_set vars) xs) ≡ xs
  back_sets [] k = refl
  back_sets (u ∷ us) k =
      ap (λ v. record { target = v; value = expr_of bare (raw_expr vars u.value) } ∷ map (set_of bare) (map (raw_set vars) us)) (back_var vars named u.target k.0.0)
      ∙ ap (λ v. record { target = u.target; value = v } ∷ map (set_of bare) (map (raw_set vars) us)) k.0.1.back
      ∙ ap (λ vs. u ∷ vs) (back_sets us k.1)

  back_loads : (xs : List SvLoad) → Each FitsLoad xs → map (load_of bare) (map (raw_load vars) xs) ≡ xs
  back_loads [] k = refl
  back_loads (l ∷ ls) k =
      ap (λ v. record { target = v; value = word_of (word_number (hex_text ((width_at vars l.target.0 + 3) / 4) l.value.bits)) } ∷ map (load_of bare) (map (raw_load vars) ls)) (back_var vars named l.target k.0.0)
      ∙ ap (λ v. record { target = l.target; value = word_of v } ∷ map (load_of bare) (map (raw_load vars) ls)) (number_hex (width_at vars l.target.0) l.value.bits (width_of_each vars widths l.target.0) k.0.1)
      ∙ ap (λ vs. l ∷ vs) (back_loads ls k.1)

  -- ---- one block

  pub record ToldBlock (b : SvBlock) : Type 0 where
    pub reads : (r : Bytes) → (a : Bytes) × (block_text vars names b ++ r ≡ codes "  " ++ a) × ReadsBlock a r (raw_block vars b)
    pub back : block_of bare (raw_block vars b) ≡ b

  told_comb : (xs : List SvStmt) → Each (IsToldStmt vars named) xs → ToldBlock (Comb xs)
  unfolding fixed_text
  told_comb xs k = record {
    reads = λ r.
        let q = reads_stmts vars named xs k 2 (codes "end\n" ++ r) in (
          codes "always_comb begin\n  " ++ q.0,
          three (codes "  always_comb begin\n") (stmts_text names xs 4) (codes "  end\n") r ∙ ap (λ u. codes "  always_comb begin\n" ++ u) q.1,
          ReadsBlock.comb q.2,
        );
    back = ap (λ ss. Comb ss) (back_stmts vars named xs k);
  }

  module _ (rising : Bool) (clock : VarId) (h : clock.0 < length vars) (sets : List SvSet) (k : Each IsToldSet sets) where
    abbrev clock_name : Bytes
    clock_name = name_at names clock.0

    abbrev opened : Bytes → Bytes → Bytes
    opened edge rest = codes "  always_ff @(" ++ (edge ++ (clock_name ++ rest))

    told_edge : ToldBlock (Edge rising clock None sets)
    unfolding fixed_text
    told_edge = record {
      reads = λ r.
          let q = reads_sets sets k 2 (codes "end\n" ++ r) in
          let lines : Bytes = flat_map (set_text names 4) sets in (
            codes "always_ff @(" ++ (edge_word rising ++ (clock_name ++ (codes ") begin\n  " ++ q.0))),
            five (codes "  always_ff @(") (edge_text rising) clock_name (codes ") begin\n" ++ lines) (codes "  end\n") r
                ∙ ap (λ u. opened (edge_text rising) u) (two (codes ") begin\n") lines (codes "  end\n" ++ r) ∙ ap (λ u. codes ") begin\n" ++ u) q.1)
                ∙ ap (λ u. opened u (codes ") begin\n  " ++ q.0)) (edge_same rising),
            ReadsBlock.edge (reads_name vars named clock.0 (codes ") begin\n  " ++ q.0) h) q.2,
          );
      back = ap (λ v. Edge rising v None (map (set_of bare) (map (raw_set vars) sets))) (back_var vars named clock h) ∙ ap (λ ss. Edge rising clock None ss) (back_sets sets k);
    }

    module _ (reset : SvReset) (i : reset.signal.0 < length vars) (l : Each FitsLoad reset.values) where
      abbrev signal_name : Bytes
      signal_name = name_at names reset.signal.0

      abbrev level : Bytes
      level = level_text reset.rising signal_name

      reads_level : (up : Bool) (r : Bytes) → ReadsLevel (not up) (level_text up signal_name ++ r) r (name_of vars reset.signal.0)
      unfolding fixed_text
      reads_level true r = reads_name vars named reset.signal.0 r i
      reads_level false r = (signal_name ++ (codes ")" ++ r), three (codes "(!") signal_name (codes ")") r, reads_name vars named reset.signal.0 (codes ")" ++ r) i)

      back_reset : reset_of bare (raw_reset vars reset) ≡ reset
      back_reset =
          ap (λ v. record { signal = v; rising = reset.rising; values = map (load_of bare) (map (raw_load vars) reset.values) }) (back_var vars named reset.signal i)
          ∙ ap (λ vs. record { signal = reset.signal; rising = reset.rising; values = vs }) (back_loads reset.values l)

      told_reset : ToldBlock (Edge rising clock (Some reset) sets)
      unfolding fixed_text
      told_reset = record {
        reads = λ r.
            let q = reads_sets sets k 4 (codes "end\n  end\n" ++ r) in
            let p = reads_loads reset.values l (codes "end else begin\n    " ++ q.0) in
            let lines : Bytes = flat_map (set_text names 6) sets in
            let loads : Bytes = flat_map (load_text vars names) reset.values in
            let signal : Bytes = signal_text names reset in
            let branch : Bytes = branch_text vars names reset in
            let c : Bytes = level ++ (codes ") begin\n    " ++ p.0) in
            let b : Bytes = signal_name ++ (codes ") begin\n    if (" ++ c) in (
              codes "always_ff @(" ++ (edge_word rising ++ (clock_name ++ (codes " or " ++ (edge_word reset.rising ++ b)))),
              five (codes "  always_ff @(") (edge_text rising) clock_name (signal ++ branch ++ lines ++ codes "    end\n") (codes "  end\n") r
                  ∙ ap (λ u. opened (edge_text rising) u)
                  (four signal branch lines (codes "    end\n") (codes "  end\n" ++ r)
                  ∙ ap (λ u. signal ++ (branch ++ u)) q.1
                  ∙ ap (λ u. signal ++ u) (five (codes "    if (") level (codes ") begin\n") loads (codes "    end else begin\n") (blanks 4 ++ q.0) ∙ ap (λ u. codes "    if (" ++ (level ++ (codes ") begin\n" ++ u))) p.1)
                  ∙ four (codes " or ") (edge_text reset.rising) signal_name (codes ") begin\n") (codes "    if (" ++ c)
                  ∙ ap (λ u. codes " or " ++ (u ++ b)) (edge_same reset.rising))
                  ∙ ap (λ u. opened u (codes " or " ++ (edge_word reset.rising ++ b))) (edge_same rising),
              ReadsBlock.edge_or_reset c (reads_name vars named clock.0 (codes " or " ++ (edge_word reset.rising ++ b)) h) (reads_name vars named reset.signal.0 (codes ") begin\n    if (" ++ c) i)
                  (reads_level reset.rising (codes ") begin\n    " ++ p.0)) p.2 q.2,
            );
        back = ap (λ v. Edge rising v (Some (reset_of bare (raw_reset vars reset))) (map (set_of bare) (map (raw_set vars) sets))) (back_var vars named clock h)
            ∙ ap (λ x. Edge rising clock (Some x) (map (set_of bare) (map (raw_set vars) sets))) back_reset ∙ ap (λ ss. Edge rising clock (Some reset) ss) (back_sets sets k);
      }

  -- ---- every block

  told_sets : (xs : List SvSet) → AreSizedSets (width_at vars) xs → ((v : ℕ) → is_among (targets xs) v ≡ true → v < length vars) → ((v : ℕ) → sets_read xs v ≡ true → v < length vars)
      → list_all (λ u. expr_concats u.value) xs ≡ true → Each IsToldSet xs
  told_sets [] s t f h = tt
  told_sets (u ∷ us) s t f h = (
    (
      t u.target.0 (left_true (nat_eq u.target.0 u.target.0) _ (eq-eqb u.target.0 u.target.0 refl)),
      known vars named u.value (record { sized = s.0; named = λ v e. f v (left_true (reads (term_of u.value) v) _ e) }) (and_left (expr_concats u.value) _ h),
    ),
    told_sets us s.1 (λ v e. t v (right_true (nat_eq u.target.0 v) _ e)) (λ v e. f v (right_true (reads (term_of u.value) v) _ e)) (and_right (expr_concats u.value) _ h),
  )

  fits_loads : (xs : List SvLoad) → AreSizedLoads (width_at vars) xs → ((v : ℕ) → is_among (load_targets xs) v ≡ true → v < length vars) → Each FitsLoad xs
  fits_loads [] s t = tt
  fits_loads (l ∷ ls) s t = ((t l.target.0 (left_true (nat_eq l.target.0 l.target.0) _ (eq-eqb l.target.0 l.target.0 refl)), s.0), fits_loads ls s.1 (λ v e. t v (right_true (nat_eq l.target.0 v) _ e)))

  told_edges : (rising : Bool) (clock : VarId) (reset : Option SvReset) (sets : List SvSet) → IsSizedBlock (width_at vars) (Edge rising clock reset sets)
      → ((v : ℕ) → block_names (Edge rising clock reset sets) v ≡ true → v < length vars) → clock.0 < length vars → Each IsToldSet sets → ToldBlock (Edge rising clock reset sets)
  told_edges rising clock None sets s t h k = told_edge rising clock h sets k
  told_edges rising clock (Some r) sets s t h k =
      let among : (v : ℕ) → reset_names (Some r) v ≡ true → v < length vars =
      λ v e. t v (left_true _ (sets_read sets v) (left_true _ (is_among (targets sets) v) (right_true (nat_eq clock.0 v) (reset_names (Some r) v) e))) in
      told_reset rising clock h sets k r (among r.signal.0 (left_true (nat_eq r.signal.0 r.signal.0) _ (eq-eqb r.signal.0 r.signal.0 refl)))
      (fits_loads r.values s.1 (λ v e. among v (right_true (nat_eq r.signal.0 v) _ e)))

  pub told_block : (b : SvBlock) → IsSizedBlock (width_at vars) b → ((v : ℕ) → block_names b v ≡ true → v < length vars) → block_concats b ≡ true → ToldBlock b
  told_block (Comb xs) s t h =
      let f : FitsCode vars (code_of xs) = record {
        sized = s;
        read = λ v e. t v (left_true (code_reads (code_of xs) v) (assigns (code_of xs) v) e);
        assigned = λ v e. t v (right_true (code_reads (code_of xs) v) (assigns (code_of xs) v) e);
      } in
      told_comb xs (told_stmts vars named xs (each_of (KnownStmt vars named) (known_stmt vars named) xs) End f (all_each stmt_concats xs h)).0
  told_block (Edge rising clock reset sets) s t h = told_edges rising clock reset sets s t
      (t clock.0 (left_true _ (sets_read sets clock.0) (left_true _ (is_among (targets sets) clock.0) (left_true _ (reset_names reset clock.0) (eq-eqb clock.0 clock.0 refl)))))
      (told_sets sets s.0 (λ v e. t v (left_true _ (sets_read sets v) (right_true _ (is_among (targets sets) v) e))) (λ v e. t v (right_true _ (sets_read sets v) e)) h)
