-- The module that hands an input on is sound.
use Rattle.std.proofs.Common.{◌≡◌, ◌≢◌, ◌<◌, ℕ, zero, suc, nat_eq, Bool, true, false, not, ◌||◌, ◌&&◌, List, [], ◌∷◌, length, None, refl, sym, ap, ◌∙◌, subst, true≢false, arith}
use Rattle.scc_svtree.specs.declared.expr.SvExpr.{fold-roll-SvExpr}
use Rattle.scc_svtree.specs.declared.expr.SvExprNode.{roll-SvExprNode, fold-roll-SvExprNode}
use Rattle.scc_svtree.specs.declared.expr.SvExprNode.TheOpen as node
use Rattle.scc_svtree.specs.declared.expr.SvLeft.TheVariants.{Whole}
use Rattle.scc_svtree.specs.declared.stmt.SvStmt.{fold-roll-SvStmt}
use Rattle.scc_svtree.specs.declared.stmt.SvStmt.TheOpen as stmt
use Rattle.scc_svtree.specs.declared.module.Dir.{Dir}
use Rattle.scc_svtree.specs.declared.module.Dir.TheVariants as dir
use Rattle.scc_svtree.specs.declared.module.SvBlock.TheVariants.{Edge}
use Rattle.scc_svtree.specs.Code.{Code, End, Assign, code_of}
use Rattle.scc_svtree.specs.Concats.{expr_concats, stmt_concats, block_concats, node_concats, stmt_node_concats, arm_concats}
use Rattle.scc_svtree.specs.Fresh.{IsFresh}
use Rattle.scc_svtree.specs.Mentions.{reads, code_reads, assigns, mentions}
use Rattle.scc_svtree.specs.Settled.{Order, combs_of, block_at}
use Rattle.scc_svtree.specs.Sized.{IsSized}
use Rattle.scc_svtree.specs.Sound.{Each, IsSound, IsSizedBlock, IsSizedCode, PortsFirst, AreNamed, IsFreshBlock, IsSoundEdge, block_names, block_assigns, at_block}
use Rattle.scc_svtree.specs.Steps.{input_at}
use Rattle.scc_svtree.specs.Variables.{IsWidth, width_at}
use Rattle.scc_svtree.proofs.Agree.{same_of_eq}
use Rattle.scc_blocks_run_laws.specs.Follows.{IsModuleOf}
use Rattle.scc_blocks_run_laws.specs.Pieces.{whole, variable}
use Rattle.scc_blocks_laws.specs.Worked.{handing, handing_registers, handing_module, handing_stmts, read_of, assign_of}
use Rattle.scc_blocks_run_laws.proofs.Among.{among-all, mentions-in, code_vars, either}
use Rattle.scc_blocks_laws.proofs.Worked.{code-is, term-is, built, steady, ranked}

abbrev C : Code
C = Assign (whole 5) (variable 4) (Assign (whole 5) (variable 2) End)

abbrev head : List ℕ → ℕ
head [] = 0
head (b ∷ bs) = b

apart : {a b : List ℕ} → nat_eq (head a) (head a) ≡ true → nat_eq (head b) (head a) ≡ false → a ≢ b
apart {a} {b} same other e = true≢false (sym same ∙ ap (λ n. nat_eq (head n) (head a)) e ∙ other)

longer : {a b : List ℕ} → nat_eq (length a) (length a) ≡ true → nat_eq (length b) (length a) ≡ false → a ≢ b
longer {a} {b} same other e = true≢false (sym same ∙ ap (λ n. nat_eq (length n) (length a)) e ∙ other)

names : AreNamed handing_module.vars
names = (
  refl,
  (apart refl refl, (apart refl refl, (apart refl refl, (apart refl refl, (apart refl refl, tt))))),
  (
    refl,
    (apart refl refl, (apart refl refl, (apart refl refl, (apart refl refl, tt)))),
    (refl, (apart refl refl, (apart refl refl, (apart refl refl, tt))), (refl, (apart refl refl, (apart refl refl, tt)), (refl, (longer refl refl, tt), (refl, tt, tt)))),
  ),
)

abbrev is_inner : Dir → Bool
is_inner dir.Inner = true
is_inner d = false

no_inner : {A : Type 0} (d : Dir) → is_inner d ≡ false → d ≡ dir.Inner → A
no_inner d e i = absurd (true≢false (sym (sym e ∙ ap is_inner i)))

ports : PortsFirst handing_module.vars
ports = (no_inner dir.Input refl, (no_inner dir.Input refl, (no_inner dir.Input refl, (no_inner dir.Input refl, (no_inner dir.Output refl, ((λ e. tt), tt))))))

one : IsWidth 1
one = (omega arith, omega arith)

eight : IsWidth 8
eight = (omega arith, omega arith)

widths : Each (λ v. IsWidth v.width) handing_module.vars
widths = (one, (eight, (eight, (eight, (eight, (eight, tt))))))

sizes : Each (IsSizedBlock (width_at handing_module.vars)) handing_module.blocks
sizes = (subst (IsSizedCode (width_at handing_module.vars)) (sym code-is) (eight, eight, (eight, eight, tt)), (((subst (IsSized (width_at handing_module.vars)) (sym (term-is 5)) eight, tt), tt), tt))

concats-read : (v : ℕ) → expr_concats (read_of v) ≡ true
concats-read v =
    fold-roll-SvExpr Bool Bool node_concats (λ e. e.node) (record { node = roll-SvExprNode (node.Left (Whole (record { 0 = v }))) })
    ∙ fold-roll-SvExprNode Bool Bool node_concats (λ e. e.node) (node.Left (Whole (record { 0 = v })))

concats-assign : (v u : ℕ) → stmt_concats (assign_of v u) ≡ true
concats-assign v u = fold-roll-SvStmt Bool Bool stmt_node_concats arm_concats (stmt.Assign (Whole (record { 0 = v })) (read_of u)) ∙ concats-read u

concats : Each (λ b. block_concats b ≡ true) handing_module.blocks
concats = ((λ i. concats-assign 5 4 i && (concats-assign 5 2 i && true)), ((λ i. concats-read 5 i && true), tt))

declared : (v : ℕ) → Each (λ b. block_names b v ≡ true → v < length handing_module.vars) handing_module.blocks
declared v = (comb, (edge, tt))
  where
    comb : mentions (code_of handing_stmts) v ≡ true → v < 6
    comb h = among-all (λ v. v < 6) (code_vars C) (omega arith, (omega arith, (omega arith, (omega arith, tt)))) v (mentions-in C v (sym (ap (λ c. mentions c v) code-is) ∙ h))

    at : (n : ℕ) → n < 6 → nat_eq n v ≡ true → v < 6
    at n l e = let P : ℕ → Type 0 = λ v. v < 6 in subst P (same_of_eq n v e) l

    edge : block_names (Edge true (record { 0 = 0 }) None (record { target = record { 0 = 4 }; value = read_of 5 } ∷ [])) v ≡ true → v < 6
    edge h =
        let t : (((nat_eq 0 v || false) || (nat_eq 4 v || false)) || (nat_eq 5 v || false)) ≡ true = sym (λ i. ((nat_eq 0 v || false) || (nat_eq 4 v || false)) || (reads (term-is 5 i) v || false)) ∙ h in
        either ((nat_eq 0 v || false) || (nat_eq 4 v || false)) (nat_eq 5 v || false) t
        (λ h. either (nat_eq 0 v || false) (nat_eq 4 v || false) h (λ h. either (nat_eq 0 v) false h (at 0 (omega arith)) (λ h. absurd (cc))) (λ h. either (nat_eq 4 v) false h (at 4 (omega arith)) (λ h. absurd (cc))))
        (λ h. either (nat_eq 5 v) false h (at 5 (omega arith)) (λ h. absurd (cc)))

-- what the blocks assign
comb-assigns : (v : ℕ) → assigns (code_of handing_stmts) v ≡ true → 5 ≡ v
comb-assigns v h =
    let t : (nat_eq 5 v || (nat_eq 5 v || false)) ≡ true = sym (ap (λ c. assigns c v) code-is) ∙ h in
    either (nat_eq 5 v) (nat_eq 5 v || false) t (same_of_eq 5 v) (λ h. either (nat_eq 5 v) false h (same_of_eq 5 v) (λ h. absurd (cc)))

edge-assigns : (v : ℕ) → ((nat_eq 4 v || false) || false) ≡ true → 4 ≡ v
edge-assigns v h = either (nat_eq 4 v || false) false h (λ h. either (nat_eq 4 v) false h (same_of_eq 4 v) (λ h. absurd (cc))) (λ h. absurd (cc))

not-true : (b : Bool) → (b ≡ true → ⊥) → b ≡ false
not-true true h = absurd (h refl)
not-true false h = refl

inputs : (v : ℕ) → input_at handing_module.vars v ≡ true → Each (λ b. block_assigns b v ≡ false) handing_module.blocks
inputs v h = (
  not-true (assigns (code_of handing_stmts) v) (λ a. true≢false (sym h ∙ ap (input_at handing_module.vars) (sym (comb-assigns v a)))),
  (not-true ((nat_eq 4 v || false) || false) (λ a. true≢false (sym h ∙ ap (input_at handing_module.vars) (sym (edge-assigns v a)))), tt),
)

drivers : (j k v : ℕ) → j < 2 → k < 2 → block_assigns (at_block handing_module.blocks j) v ≡ true → block_assigns (at_block handing_module.blocks k) v ≡ true → j ≡ k
drivers zero zero v a b h k = refl
drivers zero (suc zero) v a b h k = let z : ◌≡◌ {A = ℕ} 5 4 = comb-assigns v h ∙ sym (edge-assigns v k) in absurd (omega arith)
drivers (suc zero) zero v a b h k = let z : ◌≡◌ {A = ℕ} 5 4 = comb-assigns v k ∙ sym (edge-assigns v h) in absurd (omega arith)
drivers (suc zero) (suc zero) v a b h k = refl
drivers (suc (suc j)) k v a b h l = absurd (omega arith)
drivers zero (suc (suc k)) v a b h l = absurd (omega arith)
drivers (suc zero) (suc (suc k)) v a b h l = absurd (omega arith)

driven : (v : ℕ) → v < 6 → input_at handing_module.vars v ≡ false → (k : ℕ) × (k < 2) × (block_assigns (at_block handing_module.blocks k) v ≡ true)
driven zero h e = absurd (true≢false e)
driven (suc zero) h e = absurd (true≢false e)
driven (suc (suc zero)) h e = absurd (true≢false e)
driven (suc (suc (suc zero))) h e = absurd (true≢false e)
driven (suc (suc (suc (suc zero)))) h e = (1, omega arith, refl)
driven (suc (suc (suc (suc (suc zero))))) h e = (0, omega arith, ap (λ c. assigns c 5) code-is)
driven (suc (suc (suc (suc (suc (suc v)))))) h e = absurd (omega arith)

fresh : Each IsFreshBlock handing_module.blocks
fresh = (subst IsFresh (sym code-is) (first, (λ v h. absurd (true≢false (sym h))), (second, (λ v h. absurd (true≢false (sym h))), tt)), ((tt, tt), tt))
  where
    first : (v : ℕ) → nat_eq 4 v ≡ true → not (assigns C v) ≡ true
    first v h = let P : ℕ → Type 0 = λ v. not (assigns C v) ≡ true in subst P (same_of_eq 4 v h) refl

    second : (v : ℕ) → nat_eq 2 v ≡ true → (nat_eq 5 v || not (assigns C v)) ≡ true
    second v h = let P : ℕ → Type 0 = λ v. (nat_eq 5 v || not (assigns C v)) ≡ true in subst P (same_of_eq 2 v h) refl

edges : Each (IsSoundEdge handing_module) handing_module.blocks
edges = (tt, (((refl, refl), (ap (λ c. code_reads c 0) code-is, ((λ i. reads (term-is 5 i) 0 || false), tt)), tt), tt))

order : Order (combs_of handing_module.blocks)
order = record { rank = λ k. 0; below = λ k h. omega arith; ordered = ordered }
  where
    ordered : (j k v : ℕ) → j < 1 → k < 1 → assigns (block_at (combs_of handing_module.blocks) j) v ≡ true → code_reads (block_at (combs_of handing_module.blocks) k) v ≡ true
        → assigns (block_at (combs_of handing_module.blocks) k) v ≡ false → 0 < 0
    ordered zero zero v a b h r n = absurd (true≢false (sym h ∙ n))
    ordered (suc j) k v a b h r n = absurd (omega arith)
    ordered zero (suc k) v a b h r n = absurd (omega arith)

pub sound : IsSound false handing_module
sound = record {
  name = refl;
  ports = ports;
  widths = widths;
  sizes = sizes;
  concats = concats;
  names = names;
  declared = declared;
  inputs_kept = inputs;
  one_driver = drivers;
  driven = driven;
  fresh = fresh;
  edges = edges;
  one_clock = (tt, ((tt, ((refl, refl), tt)), tt));
  order = order;
}

pub module-of : IsModuleOf false handing handing_registers handing_module
module-of = record { sound = sound; built = built; steady = steady; rank = λ i. 0; ranked = ranked }
