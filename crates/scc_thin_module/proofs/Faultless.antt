-- The module of a design has no wrong sizes, names, drivers or cycles.
use Rattle.std.proofs.Common.{◌≡◌, ℕ, zero, suc, ◌<◌, List, [], ◌∷◌, ◌++◌, map, length, Bool, true, false, cond, not, ◌&&◌, ◌||◌, nat_eq, bytes_eq, ap, refl, sym, ◌∙◌, arith, subst, inl, inr}
use Rattle.std.specs.List.{list_any, list_all}
use Rattle.std.proofs.lemmas.List.Folds.{list_any-append}
use Rattle.std.proofs.lemmas.Slice.Eq.{bytes_eq-Decides}
use Rattle.scc_svtree.specs.declared.expr.SvExpr.{SvExpr}
use Rattle.scc_svtree.specs.declared.expr.SvLeft.TheVariants.{Whole}
use Rattle.scc_svtree.specs.declared.module.Dir.{Dir}
use Rattle.scc_svtree.specs.declared.module.Dir.TheVariants.{Input, Output, Inner}
use Rattle.scc_svtree.specs.declared.module.SvModule.{SvModule}
use Rattle.scc_svtree.specs.declared.stmt.SvStmt.{SvStmt, fold-roll-SvStmt}
use Rattle.scc_svtree.specs.declared.stmt.SvStmt.TheOpen as stmt
use Rattle.scc_svtree.specs.Code as code
use Rattle.scc_svtree.specs.Code.{Code, stmt_code, code_of}
use Rattle.scc_svtree.specs.Concats.{expr_concats, stmt_concats, stmt_node_concats, arm_concats}
use Rattle.scc_svtree.specs.Fresh.{StartsReady, ready_after}
use Rattle.scc_svtree.specs.Mentions.{reads, code_reads, assigns, mentions}
use Rattle.scc_svtree.specs.Settled.{Order, block_at}
use Rattle.scc_svtree.specs.Sound as sv
use Rattle.scc_svtree.specs.Sound.{Each, IsSizedCode, PortsFirst, AreNamed, IsNotNamed, is_simple}
use Rattle.scc_svtree.specs.Steps.{input_at}
use Rattle.scc_svtree.specs.Term.{term_of}
use Rattle.scc_svtree.specs.Variables.{width_at, IsWidth}
use Rattle.scc_thin.specs.declared.design.Design.{Design}
use Rattle.scc_thin.specs.declared.design.Port.{Port}
use Rattle.scc_thin_module.specs.Emitted.{assign, put_stmt, zeros_from, var_of, width_of, module_of}
use Rattle.scc_thin.specs.Resolved.{is_output_at, names_of, are_new_names}
use Rattle.scc_thin_module.proofs.Chains.{and_first, and_second}
use Rattle.scc_thin_module.proofs.Emitting.{FewBits}
use Rattle.scc_thin.proofs.Mapped.{length_map}
use Rattle.scc_thin_module.proofs.Plain.{IsPlain, plain_stmts, wide_at, or_cases, eq_true}
use Rattle.scc_thin_module.proofs.Rounds.{IsSound}
use Rattle.scc_thin_module.proofs.Statements.{assigns_other, assigns_output}
use Rattle.scc_thin_module.proofs.Terms.{code_assign, width_vars}

or_true : (b : Bool) → (b || true) ≡ true
or_true true = refl
or_true false = refl

not_true : (b : Bool) → not b ≡ true → b ≡ false
not_true true e = cc
not_true false e = refl

-- ---- names

any_grows : (n m : List ℕ) (before : List (List ℕ)) → list_any (bytes_eq n) before ≡ true → list_any (bytes_eq n) (before ++ m ∷ []) ≡ true
any_grows n m before e = list_any-append (bytes_eq n) before (m ∷ []) ∙ ap (λ b. b || list_any (bytes_eq n) (m ∷ [])) e

any_last : (n : List ℕ) (before : List (List ℕ)) → list_any (bytes_eq n) (before ++ n ∷ []) ≡ true
any_last n before =
    list_any-append (bytes_eq n) before (n ∷ []) ∙ ap (λ b. list_any (bytes_eq n) before || (b || false)) ((bytes_eq-Decides n n).1 refl) ∙ or_true (list_any (bytes_eq n) before)

not_named : (before : List (List ℕ)) (ps : List Port) (n : List ℕ) → are_new_names before (names_of ps) ≡ true → list_any (bytes_eq n) before ≡ true → IsNotNamed n (map var_of ps)
not_named before [] n e h = tt
not_named before (p ∷ ps) n e h =
    let new = and_first (not (list_any (bytes_eq p.name) before)) (are_new_names (before ++ p.name ∷ []) (names_of ps)) e in
    let others = and_second (not (list_any (bytes_eq p.name) before)) (are_new_names (before ++ p.name ∷ []) (names_of ps)) e in (
      λ same. (let g : true ≡ false = sym h ∙ ap (λ m. list_any (bytes_eq m) before) same ∙ not_true (list_any (bytes_eq p.name) before) new in cc),
      not_named (before ++ p.name ∷ []) ps n others (any_grows n p.name before h),
    )

are_named : (before : List (List ℕ)) (ps : List Port) → are_new_names before (names_of ps) ≡ true → Each (λ p. is_simple p.name ≡ true) ps → AreNamed (map var_of ps)
are_named before [] e h = tt
are_named before (p ∷ ps) e h =
    let others = and_second (not (list_any (bytes_eq p.name) before)) (are_new_names (before ++ p.name ∷ []) (names_of ps)) e in
    (h.0, not_named (before ++ p.name ∷ []) ps p.name others (any_last p.name before), are_named (before ++ p.name ∷ []) ps others h.1)

-- ---- variables

ports_first : (ps : List Port) → PortsFirst (map var_of ps)
ports_first [] = tt
ports_first (p ∷ ps) = (λ e. absurd (not_inner p.output e), ports_first ps)
  where
    is_inner : Dir → Bool
    is_inner Inner = true
    is_inner _ = false

    not_inner : (b : Bool) → cond b Output Input ≡ Inner → ⊥
    not_inner true e = let f : false ≡ true = ap is_inner e in cc
    not_inner false e = let f : false ≡ true = ap is_inner e in cc

are_wide : (ps : List Port) → Each (λ p. IsWidth p.width) ps → Each (λ v. IsWidth v.width) (map var_of ps)
are_wide [] h = tt
are_wide (p ∷ ps) h = (h.0, are_wide ps h.1)

abbrev port_with : Port → Bool → Port
port_with p b = record { name = p.name; output = b; width = p.width }

input_is : (ps : List Port) (v : ℕ) → input_at (map var_of ps) v ≡ true → is_output_at ps v ≡ false
input_is [] v e = cc
input_is (p ∷ ps) zero e = by_output p.output e
  where
    by_output : (b : Bool) → input_at (var_of (port_with p b) ∷ map var_of ps) 0 ≡ true → b ≡ false
    by_output true e = cc
    by_output false e = refl
input_is (p ∷ ps) (suc v) e = input_is ps v e

output_is : (ps : List Port) (v : ℕ) → v < length ps → input_at (map var_of ps) v ≡ false → is_output_at ps v ≡ true
output_is [] v h e = absurd (omega arith)
output_is (p ∷ ps) zero h e = by_output p.output e
  where
    by_output : (b : Bool) → input_at (var_of (port_with p b) ∷ map var_of ps) 0 ≡ false → b ≡ true
    by_output true e = refl
    by_output false e = cc
output_is (p ∷ ps) (suc v) h e = output_is ps v (omega arith) e

concats_assign : (i : ℕ) (e : SvExpr) → stmt_concats (assign i e) ≡ expr_concats e
concats_assign i e = fold-roll-SvStmt Bool Bool stmt_node_concats arm_concats (stmt.Assign (Whole (record { 0 = i })) e)

-- ---- statements

module _ (ports : List Port) (wide : Each (λ p. IsWidth p.width) ports) where
  abbrev Plain : SvStmt → Type 0
  Plain = IsPlain ports wide

  plain_code : (s : SvStmt) (p : Plain s) (rest : Code) → stmt_code s rest ≡ code.Assign (Whole (record { 0 = p.target })) (term_of p.value) rest
  plain_code s p rest = ap (λ t. stmt_code t rest) p.is ∙ code_assign p.target p.value rest

  sized_code : (ss : List SvStmt) → Each Plain ss → IsSizedCode (width_of ports) (code_of ss)
  sized_code [] h = tt
  sized_code (s ∷ ss) h =
      subst (IsSizedCode (width_of ports)) (sym (plain_code s h.0 (code_of ss))) (wide_at ports wide h.0.target h.0.within, h.0.fine.sized, sized_code ss h.1)

  all_concats : (ss : List SvStmt) → Each Plain ss → list_all stmt_concats ss ≡ true
  all_concats [] h = refl
  all_concats (s ∷ ss) h =
      ap (λ b. b && list_all stmt_concats ss) (ap stmt_concats h.0.is ∙ concats_assign h.0.target h.0.value ∙ h.0.fine.concats) ∙ all_concats ss h.1

  reads_within : (ss : List SvStmt) → Each Plain ss → (v : ℕ) → code_reads (code_of ss) v ≡ true → v < length ports
  reads_within [] h v e = cc
  reads_within (s ∷ ss) h v e =
      elim (or_cases (reads (term_of h.0.value) v) (code_reads (code_of ss) v) (ap (λ c. code_reads c v) (sym (plain_code s h.0 (code_of ss))) ∙ e)) [
        | inl p ↦ (h.0.fine.inputs v p).0
        | inr p ↦ reads_within ss h.1 v p
      ]

  assigns_within : (ss : List SvStmt) → Each Plain ss → (v : ℕ) → assigns (code_of ss) v ≡ true → v < length ports
  assigns_within [] h v e = cc
  assigns_within (s ∷ ss) h v e =
      elim (or_cases (nat_eq h.0.target v) (assigns (code_of ss) v) (ap (λ c. assigns c v) (sym (plain_code s h.0 (code_of ss))) ∙ e)) [
        | inl p ↦ subst (λ n. n < length ports) (eq_true h.0.target v p) h.0.within
        | inr p ↦ assigns_within ss h.1 v p
      ]

  names_within : (ss : List SvStmt) → Each Plain ss → (v : ℕ) → mentions (code_of ss) v ≡ true → v < length ports
  names_within ss h v e = elim (or_cases (code_reads (code_of ss) v) (assigns (code_of ss) v) e) [ inl p ↦ reads_within ss h v p | inr p ↦ assigns_within ss h v p ]

  -- what reads inputs alone starts with whole values, wherever the inputs are ready
  starts_ready : (ss : List SvStmt) → Each Plain ss → (ready : ℕ → Bool) → ((v : ℕ) → is_output_at ports v ≡ false → ready v ≡ true) → StartsReady ready (code_of ss)
  starts_ready [] h ready r = tt
  starts_ready (s ∷ ss) h ready r =
      subst (StartsReady ready) (sym (plain_code s h.0 (code_of ss))) (
        λ v e. r v (h.0.fine.inputs v e).1,
        λ v e. cc,
        starts_ready ss h.1 (ready_after (Whole (record { 0 = h.0.target })) ready) (λ v e. ap (λ b. nat_eq h.0.target v || b) (r v e) ∙ or_true (nat_eq h.0.target v)),
      )

-- one block is an order
one_order : (c : Code) → Order (c ∷ [])
one_order c = record { rank = λ k. k; below = λ k h. h; ordered = ordered }
  where
    ordered : (j k v : ℕ) → j < 1 → k < 1 → assigns (block_at (c ∷ []) j) v ≡ true → code_reads (block_at (c ∷ []) k) v ≡ true → assigns (block_at (c ∷ []) k) v ≡ false → j < k
    ordered zero zero v g h a r n = absurd (let f : true ≡ false = sym a ∙ n in cc)
    ordered zero (suc k) v g h a r n = absurd (omega arith)
    ordered (suc j) k v g h a r n = absurd (omega arith)

-- what is known of the design of a thin text
pub record IsGood (d : Design) : Type 0 where
  pub sound : IsSound d
  pub few : FewBits d.ports
  pub wide : Each (λ p. IsWidth p.width) d.ports
  pub top : is_simple d.top ≡ true
  pub simple : Each (λ p. is_simple p.name ≡ true) d.ports
  pub differ : are_new_names [] (names_of d.ports) ≡ true

pub faultless : (d : Design) → IsGood d → sv.IsSound false (module_of d)
faultless d g =
    let m : SvModule = module_of d in
    let ss : List SvStmt = zeros_from 0 d.ports ++ map (put_stmt d.ports) d.puts in
    let plain = plain_stmts d.ports g.wide d.puts g.sound.within g.sound.puts in
    let kept : (v : ℕ) → is_output_at d.ports v ≡ false → assigns (code_of ss) v ≡ false =
    λ v e. assigns_other d.ports g.few d.puts v g.sound.puts e in
    let widths : width_of d.ports ≡ width_at m.vars = λ i v. sym (width_vars d.ports v) i in
    let count : length d.ports ≡ length m.vars = sym (length_map var_of d.ports) in
    record {
      name = g.top;
      ports = ports_first d.ports;
      widths = are_wide d.ports g.wide;
      sizes = (subst (λ w. IsSizedCode w (code_of ss)) widths (sized_code d.ports g.wide ss plain), tt);
      concats = (all_concats d.ports g.wide ss plain, tt);
      names = are_named [] d.ports g.differ g.simple;
      declared = λ v. (λ e. subst (λ n. v < n) count (names_within d.ports g.wide ss plain v e), tt);
      inputs_kept = λ v e. (kept v (input_is d.ports v e), tt);
      one_driver = λ j k v a b e f. omega (arith, a, b);
      driven = λ v h e. (0, omega arith, assigns_output d.ports g.few d.puts v g.sound.written (output_is d.ports v (subst (λ n. v < n) (sym count) h) e));
      fresh = (starts_ready d.ports g.wide ss plain (λ v. not (assigns (code_of ss) v)) (λ v e. ap not (kept v e)), tt);
      edges = (tt, tt);
      one_clock = (tt, tt);
      order = one_order (code_of ss);
    }
