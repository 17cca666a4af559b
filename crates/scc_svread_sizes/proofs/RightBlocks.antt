-- Blocks of right sizes, and of declared names: the walk over each notes nothing.
use Rattle.std.proofs.Common.{◌≡◌, ◌<◌, ◌+◌, ◌-◌, ◌^◌, ℕ, zero, suc, Bool, true, false, not, nat_eq, List, [], ◌∷◌, length, map, option_map, Option, Some, None, refl, sym, eq-eqb, ap, ◌∙◌, arith}
use Rattle.std.proofs.lemmas.Bool.{or_from}
use Rattle.scc_svtree.specs.declared.module.SvVar.{SvVar}
use Rattle.scc_svtree.specs.declared.module.SvBlock.{SvBlock}
use Rattle.scc_svtree.specs.declared.module.SvBlock.TheVariants.{Comb, Edge}
use Rattle.scc_svtree.specs.declared.module.SvSet.{SvSet}
use Rattle.scc_svtree.specs.declared.module.SvLoad.{SvLoad}
use Rattle.scc_svtree.specs.declared.module.SvReset.{SvReset}
use Rattle.scc_svtree.specs.Variables.{width_at, IsWidth}
use Rattle.scc_svtree.specs.Term.{term_of}
use Rattle.scc_svtree.specs.Code.{End, code_of}
use Rattle.scc_svtree.specs.Mentions.{reads, code_reads, assigns}
use Rattle.scc_svtree.specs.Concats.{block_concats}
use Rattle.scc_svtree.specs.Sound.{Each, AreNamed, AreSizedSets, AreSizedLoads, IsSizedBlock, targets, load_targets, loads_of, sets_read, is_among, reset_names, block_names}
use Rattle.scc_svread_check.specs.Scope.{Scope, is_wrong_literal}
use Rattle.scc_svread_check.specs.Parts.{cut, with_one, literal_bytes, name_walk}
use Rattle.scc_svread_check.specs.Lines.{is_other_length}
use Rattle.scc_svread_check.specs.Blocks.{set_line, is_wrong_load, load_line, level_walk, reset_walk, edge_walk, block_walk}
use Rattle.scc_svread_written.specs.Written.{name_of, raw_set, raw_load, raw_reset, raw_block}
use Rattle.scc_svread_written.proofs.Formed.{Declares}
use Rattle.scc_svread_written.proofs.Fits.{left_true, right_true, FitsCode}
use Rattle.scc_svread_sizes.proofs.RightWalks.{Quiet, Keeps, keeps, quiet_pass, quiet_size, quiet_then, QuietLine, quiet_lines}
use Rattle.scc_svread_sizes.proofs.RightLeaves.{right_literal, right_length, once_at, quiet_at}
use Rattle.scc_svread_sizes.proofs.RightExpressions.{IsRight, right_expr}
use Rattle.scc_svread_sizes.proofs.RightStatements.{KnownStmt, lines_in, right_stmts, right_stmt}

each_of : {A : Type 0} (P : A → Type 0) → ((x : A) → P x) → (xs : List A) → Each P xs
each_of P k [] = tt
each_of P k (x ∷ xs) = (k x, each_of P k xs)

same_number : (n : ℕ) → nat_eq n n ≡ true
same_number n = eq-eqb n n refl

width_of_each : (vars : List SvVar) → Each (λ v. IsWidth v.width) vars → (i : ℕ) → i < length vars → IsWidth (width_at vars i)
width_of_each [] h i k = absurd (omega arith)
width_of_each (v ∷ vs) h zero k = h.0
width_of_each (v ∷ vs) h (suc i) k = width_of_each vs h.1 i (omega arith)

module _ (vars : List SvVar) (s : Scope) (d : Declares s vars) (widths : Each (λ v. IsWidth v.width) vars) where
  -- ---- the lines of an edge

  quiet_set : (u : SvSet) → u.target.0 < length vars → IsRight vars s d u.value → QuietLine (set_line s (raw_set vars u))
  quiet_set u i k n = quiet_then (quiet_then (quiet_then (quiet_then (quiet_pass n) (quiet_at vars s d u.target.0 i)) (quiet_pass 4)) k.walk) (quiet_pass 2)

  quiet_sets : (us : List SvSet) → AreSizedSets (width_at vars) us → ((v : ℕ) → is_among (targets us) v ≡ true → v < length vars) → ((v : ℕ) → sets_read us v ≡ true → v < length vars)
      → Each QuietLine (map (set_line s) (map (raw_set vars) us))
  quiet_sets [] h t f = tt
  quiet_sets (u ∷ us) h t f = (
    quiet_set u (t u.target.0 (left_true _ _ (same_number u.target.0))) (right_expr vars s d u.value (record { sized = h.0; named = λ v e. f v (left_true (reads (term_of u.value) v) _ e) })),
    quiet_sets us h.1 (λ v e. t v (right_true (nat_eq u.target.0 v) _ e)) (λ v e. f v (right_true (reads (term_of u.value) v) _ e)),
  )

  -- a number of its variable's width
  right_load : (l : SvLoad) → l.target.0 < length vars → l.value.bits < 2 ^ width_at vars l.target.0 → is_wrong_load s (raw_load vars l) ≡ false
  right_load l i h =
      let w = width_of_each vars widths l.target.0 i in
      let n : ℕ = width_at vars l.target.0 in
      let length_is : cut (n - 1 + 1) ≡ n = omega (arith, w) in
      or_from (is_wrong_literal (raw_load vars l).value) _ (right_literal n l.value.bits w h)
      (ap (λ o. is_other_length (with_one (λ high. cut (high + 1)) o) (raw_load vars l).value) (once_at vars s d l.target.0 i) ∙ right_length n l.value.bits (cut (n - 1 + 1)) w.1 (sym length_is))

  quiet_load : (l : SvLoad) → l.target.0 < length vars → l.value.bits < 2 ^ width_at vars l.target.0 → QuietLine (load_line s (raw_load vars l))
  quiet_load l i h n =
      quiet_then (quiet_then (quiet_then (quiet_then (quiet_pass n) (quiet_at vars s d l.target.0 i)) (quiet_pass 4))
      (quiet_size (is_wrong_load s (raw_load vars l)) (right_load l i h))) (quiet_pass (literal_bytes (raw_load vars l).value + 2))

  quiet_loads : (ls : List SvLoad) → AreSizedLoads (width_at vars) ls → ((v : ℕ) → is_among (load_targets ls) v ≡ true → v < length vars) → Each QuietLine (map (load_line s) (map (raw_load vars) ls))
  quiet_loads [] h t = tt
  quiet_loads (l ∷ ls) h t = (quiet_load l (t l.target.0 (left_true _ _ (same_number l.target.0))) h.0, quiet_loads ls h.1 (λ v e. t v (right_true (nat_eq l.target.0 v) _ e)))

  -- ---- blocks

  quiet_level : (i : ℕ) → i < length vars → (negated : Bool) → Quiet (level_walk s negated (name_of vars i))
  quiet_level i h true = quiet_then (quiet_then (quiet_pass 2) (quiet_at vars s d i h)) (quiet_pass 9)
  quiet_level i h false = quiet_then (quiet_at vars s d i h) (quiet_pass 8)

  quiet_reset : (r : SvReset) → r.signal.0 < length vars → Each QuietLine (map (load_line s) (map (raw_load vars) r.values)) → Quiet (reset_walk s (raw_reset vars r))
  quiet_reset r h k =
      let name : Quiet (name_walk s (name_of vars r.signal.0)) = quiet_at vars s d r.signal.0 h in
      quiet_then (quiet_then (quiet_then (quiet_then (quiet_then (quiet_pass 12) name) (quiet_pass 16)) (quiet_level r.signal.0 h (not r.rising)))
      (quiet_lines (map (load_line s) (map (raw_load vars) r.values)) k 6)) (quiet_pass 19)

  quiet_edge : (reset : Option SvReset) (sets : List SvSet) → AreSizedLoads (width_at vars) (loads_of reset) → ((v : ℕ) → reset_names reset v ≡ true → v < length vars)
      → Each QuietLine (map (set_line s) (map (raw_set vars) sets)) → Quiet (edge_walk s (option_map (raw_reset vars) reset) (map (raw_set vars) sets))
  quiet_edge None sets h t k = quiet_then (quiet_then (quiet_pass 8) (quiet_lines (map (set_line s) (map (raw_set vars) sets)) k 4)) (quiet_pass 6)
  quiet_edge (Some r) sets h t k =
      quiet_then (quiet_then (quiet_reset r (t r.signal.0 (left_true _ _ (same_number r.signal.0))) (quiet_loads r.values h (λ v e. t v (right_true (nat_eq r.signal.0 v) _ e))))
      (quiet_lines (map (set_line s) (map (raw_set vars) sets)) k 6)) (quiet_pass 14)

  quiet_block : (b : SvBlock) → IsSizedBlock (width_at vars) b → ((v : ℕ) → block_names b v ≡ true → v < length vars) → Quiet (block_walk s (raw_block vars b))
  quiet_block (Comb xs) h t =
      let f : FitsCode vars (code_of xs) = record {
        sized = h;
        read = λ v e. t v (left_true (code_reads (code_of xs) v) (assigns (code_of xs) v) e);
        assigned = λ v e. t v (right_true (code_reads (code_of xs) v) (assigns (code_of xs) v) e);
      } in
      quiet_then (quiet_then (quiet_pass 20) (quiet_lines (lines_in vars s d xs) (right_stmts vars s d xs (each_of (KnownStmt vars s d) (right_stmt vars s d) xs) End f).0 4)) (quiet_pass 6)
  quiet_block (Edge rising clock reset sets) h t =
      quiet_then (quiet_then (quiet_pass 22) (quiet_at vars s d clock.0 (t clock.0 (left_true _ (sets_read sets clock.0) (left_true _ (is_among (targets sets) clock.0) (left_true _ (reset_names reset clock.0) (same_number clock.0)))))))
      (quiet_edge reset sets h.1 (λ v e. t v (left_true _ (sets_read sets v) (left_true _ (is_among (targets sets) v) (right_true (nat_eq clock.0 v) _ e))))
      (quiet_sets sets h.0 (λ v e. t v (left_true _ (sets_read sets v) (right_true _ (is_among (targets sets) v) e))) (λ v e. t v (right_true _ (sets_read sets v) e))))

module _ (vars : List SvVar) (named : AreNamed vars) (widths : Each (λ v. IsWidth v.width) vars) (s : Scope) (d : Declares s vars) where
  pub block_keeps : (b : SvBlock) → IsSizedBlock (width_at vars) b → ((v : ℕ) → block_names b v ≡ true → v < length vars) → block_concats b ≡ true → Keeps (block_walk s (raw_block vars b))
  block_keeps b h t c = keeps (quiet_block vars s d widths b h t)
