-- What the emitted block does to a valuation.
use Rattle.std.proofs.Common.{◌≡◌, ℕ, suc, ◌+◌, ◌<◌, ◌^◌, List, [], ◌∷◌, ◌++◌, map, length, Bool, true, false, cond, nat_eq, ◌||◌, ap, refl, sym, ◌∙◌, arith, subst}
use Rattle.std.specs.Prelude.{unwrap_or}
use Rattle.std.specs.List.{list_any}
use Rattle.scc_svtree.specs.declared.expr.SvExpr.{SvExpr}
use Rattle.scc_svtree.specs.declared.stmt.SvStmt.{SvStmt}
use Rattle.scc_svtree.specs.Sizes.{assigned}
use Rattle.scc_svtree.specs.Code.{Code, End, code_of, stmt_code, before}
use Rattle.scc_svtree.specs.Running.{run, updated}
use Rattle.scc_svtree.specs.Mentions.{assigns}
use Rattle.scc_thin.specs.declared.design.Port.{Port}
use Rattle.scc_thin.specs.declared.design.Put.{Put}
use Rattle.scc_thin_module.specs.Emitted.{zero_of, assign, put_stmt, zeros_from, resized, value_width, value_of, width_of}
use Rattle.scc_thin.specs.Resolved.{is_output_at, targets_of}
use Rattle.scc_thin_module.proofs.Putting.{put_word, AllWithin}
use Rattle.scc_thin_module.proofs.Lasting.{AllSoundPuts, AgreeIn, last_word, last_same, last_input, last_any, or_some, apart_of, nat_sym}
use Rattle.scc_thin_module.proofs.Terms.{code_assign}
use Rattle.scc_thin_module.proofs.Emitting.{FitIn, FewBits, sized_of, written_word}

module _ (ports : List Port) (few : FewBits ports) where
  abbrev pub runs : Code → (ℕ → ℕ) → ℕ → ℕ
  runs c x = run (width_of ports) c x

  -- an assignment, and what follows it
  run_assign : (i : ℕ) (e : SvExpr) (rest : Code) (x : ℕ → ℕ) → runs (stmt_code (assign i e) rest) x ≡ runs rest (updated i (assigned (width_of ports i) (sized_of (width_of ports) x e)) x)
  run_assign i e rest x = ap (λ c. runs c x) (code_assign i e rest)

  fit_agree : (x y : ℕ → ℕ) → AgreeIn ports x y → FitIn ports y → FitIn ports x
  fit_agree x y same fit i h e = subst (λ n. n < 2 ^ width_of ports i) (sym (same i h e)) (fit i h e)

  agree_updated : (x : ℕ → ℕ) (t v : ℕ) → is_output_at ports t ≡ true → (i : ℕ) → is_output_at ports i ≡ false → updated t v x i ≡ x i
  agree_updated x t v e i f = ap (λ b. cond b v (x i)) (apart_of ports i t f e)

  -- the writes give each port the word of its last write
  run_puts : (puts : List Put) (x : ℕ → ℕ) (v : ℕ) → AllWithin (length ports) puts → AllSoundPuts ports puts → FitIn ports x
      → runs (before (map stmt_code (map (put_stmt ports) puts)) End) x v ≡ unwrap_or (last_word ports x puts v) (x v)
  run_puts [] x v w s fit = refl
  run_puts (p ∷ puts) x v w s fit =
      let rest : Code = before (map stmt_code (map (put_stmt ports) puts)) End in
      let e : SvExpr = resized (value_width ports p.first p.second) (width_of ports p.target) (value_of ports p.first p.second) in
      let next : ℕ → ℕ = updated p.target (put_word ports x p) x in
      let same : AgreeIn ports next x = λ i h f. agree_updated x p.target (put_word ports x p) s.0.0 i f in
      ap (λ y. y v) (run_assign p.target e rest x)
      ∙ ap (λ n. runs rest (updated p.target n x) v) (written_word ports x p few fit w.0 s.0)
      ∙ run_puts puts next v w.1 s.1 (fit_agree next x same fit)
      ∙ ap (λ o. unwrap_or o (next v)) (last_same ports next x puts v w.1 s.1 same)
      ∙ sym (or_some ports (last_word ports x puts v) (nat_eq v p.target) (put_word ports x p) (x v))

  -- the valuation after the first assignments of the outputs, numbered from i on
  abbrev zeroed : ℕ → List Port → (ℕ → ℕ) → ℕ → ℕ
  zeroed i [] x = x
  zeroed i (q ∷ qs) x = cond q.output (zeroed (i + 1) qs (updated i (assigned (width_of ports i) (sized_of (width_of ports) x (zero_of q.width))) x)) (zeroed (i + 1) qs x)

  before_append : (a b : List SvStmt) (rest : Code) → before (map stmt_code (a ++ b)) rest ≡ before (map stmt_code a) (before (map stmt_code b) rest)
  before_append [] b rest = refl
  before_append (s ∷ a) b rest = ap (stmt_code s) (before_append a b rest)

  run_zeros : (i : ℕ) (qs : List Port) (rest : Code) (x : ℕ → ℕ) → runs (before (map stmt_code (zeros_from i qs)) rest) x ≡ runs rest (zeroed i qs x)
  run_zeros i [] rest x = refl
  run_zeros i (q ∷ qs) rest x =
      elim q.output as (λ b. runs (before (map stmt_code (cond b (assign i (zero_of q.width) ∷ zeros_from (i + 1) qs) (zeros_from (i + 1) qs))) rest) x
      ≡ runs rest (cond b (zeroed (i + 1) qs (updated i (assigned (width_of ports i) (sized_of (width_of ports) x (zero_of q.width))) x)) (zeroed (i + 1) qs x))) [
        | true ↦ run_assign i (zero_of q.width) (before (map stmt_code (zeros_from (i + 1) qs)) rest) x
            ∙ run_zeros (i + 1) qs rest (updated i (assigned (width_of ports i) (sized_of (width_of ports) x (zero_of q.width))) x)
        | false ↦ run_zeros (i + 1) qs rest x
      ]

  -- the ports from a number on
  abbrev pub From : ℕ → List Port → Type 0
  From i qs = (k : ℕ) → is_output_at ports (i + k) ≡ is_output_at qs k

  from_next : (i : ℕ) (q : Port) (qs : List Port) → From i (q ∷ qs) → From (i + 1) qs
  from_next i q qs f k = ap (is_output_at ports) (omega arith) ∙ f (suc k)

  from_here : (i : ℕ) (q : Port) (qs : List Port) → From i (q ∷ qs) → is_output_at ports i ≡ q.output
  from_here i q qs f = ap (is_output_at ports) (let e : i ≡ i + 0 = omega arith in e) ∙ f 0

  zeroed_other : (i : ℕ) (qs : List Port) (x : ℕ → ℕ) (v : ℕ) → From i qs → is_output_at ports v ≡ false → zeroed i qs x v ≡ x v
  zeroed_other i [] x v f e = refl
  zeroed_other i (q ∷ qs) x v f e = by_output q.output refl (λ y. zeroed_other (i + 1) qs y v (from_next i q qs f) e)
    where
      by_output : (b : Bool) → q.output ≡ b → ((y : ℕ → ℕ) → zeroed (i + 1) qs y v ≡ y v)
          → cond b (zeroed (i + 1) qs (updated i (assigned (width_of ports i) (sized_of (width_of ports) x (zero_of q.width))) x)) (zeroed (i + 1) qs x) v ≡ x v
      by_output true p more = more _ ∙ agree_updated x i _ (from_here i q qs f ∙ p) v e
      by_output false p more = more x

  from_all : From 0 ports
  from_all k = ap (is_output_at ports) (omega arith)

  -- the emitted block
  abbrev pub the_code : List Put → Code
  the_code puts = code_of (zeros_from 0 ports ++ map (put_stmt ports) puts)

  abbrev put_codes : List Put → Code
  put_codes puts = before (map stmt_code (map (put_stmt ports) puts)) End

  -- each output is written
  abbrev pub AllOutputs : List Put → Type 0
  AllOutputs puts = (i : ℕ) → is_output_at ports i ≡ true → list_any (nat_eq i) (targets_of puts) ≡ true

  run_code : (puts : List Put) (x : ℕ → ℕ) (v : ℕ) → AllWithin (length ports) puts → AllSoundPuts ports puts → FitIn ports x
      → runs (the_code puts) x v ≡ unwrap_or (last_word ports x puts v) (zeroed 0 ports x v)
  run_code puts x v w s fit =
      let same : AgreeIn ports (zeroed 0 ports x) x = λ i h e. zeroed_other 0 ports x i from_all e in
      ap (λ c. runs c x v) (before_append (zeros_from 0 ports) (map (put_stmt ports) puts) End)
      ∙ ap (λ y. y v) (run_zeros 0 ports (put_codes puts) x)
      ∙ run_puts puts (zeroed 0 ports x) v w s (fit_agree (zeroed 0 ports x) x same fit)
      ∙ ap (λ o. unwrap_or o (zeroed 0 ports x v)) (last_same ports (zeroed 0 ports x) x puts v w s same)

  -- the block gives an output its last word, and leaves everything else
  pub run_output : (puts : List Put) (x : ℕ → ℕ) (v : ℕ) → AllWithin (length ports) puts → AllSoundPuts ports puts → FitIn ports x → AllOutputs puts → is_output_at ports v ≡ true
      → runs (the_code puts) x v ≡ unwrap_or (last_word ports x puts v) 0
  run_output puts x v w s fit all e = run_code puts x v w s fit ∙ last_any ports x puts v (zeroed 0 ports x v) 0 (all v e)

  pub run_other : (puts : List Put) (x : ℕ → ℕ) (v : ℕ) → AllWithin (length ports) puts → AllSoundPuts ports puts → FitIn ports x → is_output_at ports v ≡ false
      → runs (the_code puts) x v ≡ x v
  run_other puts x v w s fit e =
      run_code puts x v w s fit ∙ ap (λ o. unwrap_or o (zeroed 0 ports x v)) (last_input ports x puts v s e) ∙ zeroed_other 0 ports x v from_all e

  -- the block assigns the outputs, and nothing else
  assigns_puts : (puts : List Put) (v : ℕ) → AllSoundPuts ports puts → is_output_at ports v ≡ false → assigns (put_codes puts) v ≡ false
  assigns_puts [] v s e = refl
  assigns_puts (p ∷ puts) v s e =
      ap (λ c. assigns c v) (code_assign p.target _ (put_codes puts))
      ∙ ap (λ b. b || assigns (put_codes puts) v) (nat_sym p.target v ∙ apart_of ports v p.target e s.0.0) ∙ assigns_puts puts v s.1 e

  assigns_zeros : (i : ℕ) (qs : List Port) (rest : Code) (v : ℕ) → From i qs → is_output_at ports v ≡ false → assigns (before (map stmt_code (zeros_from i qs)) rest) v ≡ assigns rest v
  assigns_zeros i [] rest v f e = refl
  assigns_zeros i (q ∷ qs) rest v f e = by_output q.output refl (assigns_zeros (i + 1) qs rest v (from_next i q qs f) e)
    where
      by_output : (b : Bool) → q.output ≡ b → assigns (before (map stmt_code (zeros_from (i + 1) qs)) rest) v ≡ assigns rest v
          → assigns (before (map stmt_code (cond b (assign i (zero_of q.width) ∷ zeros_from (i + 1) qs) (zeros_from (i + 1) qs))) rest) v ≡ assigns rest v
      by_output true p more =
          ap (λ c. assigns c v) (code_assign i (zero_of q.width) (before (map stmt_code (zeros_from (i + 1) qs)) rest))
          ∙ ap (λ b. b || assigns (before (map stmt_code (zeros_from (i + 1) qs)) rest) v) (nat_sym i v ∙ apart_of ports v i e (from_here i q qs f ∙ p)) ∙ more
      by_output false p more = more

  pub assigns_other : (puts : List Put) (v : ℕ) → AllSoundPuts ports puts → is_output_at ports v ≡ false → assigns (the_code puts) v ≡ false
  assigns_other puts v s e =
      ap (λ c. assigns c v) (before_append (zeros_from 0 ports) (map (put_stmt ports) puts) End)
      ∙ assigns_zeros 0 ports (put_codes puts) v from_all e ∙ assigns_puts puts v s e

  assigns_written : (puts : List Put) (v : ℕ) → list_any (nat_eq v) (targets_of puts) ≡ true → assigns (put_codes puts) v ≡ true
  assigns_written [] v e = cc
  assigns_written (p ∷ puts) v e =
      ap (λ c. assigns c v) (code_assign p.target _ (put_codes puts)) ∙ ap (λ b. b || assigns (put_codes puts) v) (nat_sym p.target v) ∙ by_target (nat_eq v p.target) e (λ f. assigns_written puts v f)
    where
      by_target : (b : Bool) → (b || list_any (nat_eq v) (targets_of puts)) ≡ true → (list_any (nat_eq v) (targets_of puts) ≡ true → assigns (put_codes puts) v ≡ true)
          → (b || assigns (put_codes puts) v) ≡ true
      by_target true f g = refl
      by_target false f g = g f

  assigns_front : (i : ℕ) (qs : List Port) (rest : Code) (v : ℕ) → assigns rest v ≡ true → assigns (before (map stmt_code (zeros_from i qs)) rest) v ≡ true
  assigns_front i [] rest v e = e
  assigns_front i (q ∷ qs) rest v e = by_output q.output (assigns_front (i + 1) qs rest v e)
    where
      by_output : (b : Bool) → assigns (before (map stmt_code (zeros_from (i + 1) qs)) rest) v ≡ true
          → assigns (before (map stmt_code (cond b (assign i (zero_of q.width) ∷ zeros_from (i + 1) qs) (zeros_from (i + 1) qs))) rest) v ≡ true
      by_output true more =
          ap (λ c. assigns c v) (code_assign i (zero_of q.width) (before (map stmt_code (zeros_from (i + 1) qs)) rest)) ∙ ap (λ b. nat_eq i v || b) more ∙ or_true (nat_eq i v)
        where
          or_true : (b : Bool) → (b || true) ≡ true
          or_true true = refl
          or_true false = refl
      by_output false more = more

  pub assigns_output : (puts : List Put) (v : ℕ) → AllOutputs puts → is_output_at ports v ≡ true → assigns (the_code puts) v ≡ true
  assigns_output puts v all e =
      ap (λ c. assigns c v) (before_append (zeros_from 0 ports) (map (put_stmt ports) puts) End) ∙ assigns_front 0 ports (put_codes puts) v (assigns_written puts v (all v e))
