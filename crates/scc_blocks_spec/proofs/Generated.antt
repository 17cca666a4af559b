-- The module that hands on what stands at d shows 1 behind two edges.
use Rattle.std.proofs.Common.{◌≡◌, ℕ, true, false, [], ◌∷◌, refl, sym, ap, ◌∙◌, arith}
use Rattle.scc_svtree.specs.declared.expr.SvExpr.{fold-roll-SvExpr}
use Rattle.scc_svtree.specs.declared.expr.SvExprNode.{roll-SvExprNode, fold-roll-SvExprNode}
use Rattle.scc_svtree.specs.declared.expr.SvExprNode.TheOpen as node
use Rattle.scc_svtree.specs.declared.expr.SvLeft.TheVariants.{Whole}
use Rattle.scc_svtree.specs.Term.{Term, Part, term_node, term_of}
use Rattle.scc_svtree.specs.Sizes.{sized, assigned}
use Rattle.scc_svtree.specs.Settled.{IsSettledFor, combs_of}
use Rattle.scc_svtree.specs.Steps.{Step, after_resets, after_edges, with_inputs}
use Rattle.scc_svtree.specs.Variables.{width_at}
use Rattle.scc_core_spec.specs.WorkedRun.{counting}
use Rattle.scc_blocks_spec.specs.Generated.{IsGenerated, generated_line, given_at, step_with}
use Rattle.scc_blocks_spec.specs.WorkedGenerated.{given, passing}

given_term : term_of given ≡ Part (Whole (record { 0 = 2 }))
given_term =
    fold-roll-SvExpr Term Term term_node (λ e. e.node) (record { node = roll-SvExprNode (node.Left (Whole (record { 0 = 2 }))) })
    ∙ fold-roll-SvExprNode Term Term term_node (λ e. e.node) (node.Left (Whole (record { 0 = 2 })))

-- no block is combinational
settles : (x : ℕ → ℕ) → IsSettledFor (width_at passing.vars) (combs_of passing.blocks) x x
settles x = record { leaves = λ k h v. absurd (omega (arith, h)); alike = λ v h. refl }

abbrev before : ℕ → (ℕ → ℕ) → ℕ → ℕ
before reset x = after_resets passing.blocks (with_inputs passing (given_at passing reset) x)

abbrev behind : ℕ → (ℕ → ℕ) → ℕ → ℕ
behind reset x = after_edges (width_at passing.vars) (λ v. true) passing.blocks (before reset x)

step : (reset : ℕ) (x : ℕ → ℕ) → Step passing (step_with passing reset) x (behind reset x) (before reset x ∷ behind reset x ∷ [])
step reset x = record {
  settled = before reset x;
  first = settles (before reset x);
  later = behind reset x ∷ [];
  second = (settles (behind reset x), refl);
  observed = refl;
}

abbrev zero_all : ℕ → ℕ
zero_all v = 0

one : behind 0 (behind 1 zero_all) 3 ≡ 1
one = ap (λ t. assigned 16 (sized false (width_at passing.vars) (before 0 (behind 1 zero_all)) t)) given_term

pub one_is_handed_on : IsGenerated 1 counting passing (generated_line 1 counting passing 1)
one_is_handed_on = record {
  observed = (before 1 zero_all ∷ behind 1 zero_all ∷ []) ∷ (before 0 (behind 1 zero_all) ∷ behind 0 (behind 1 zero_all) ∷ []) ∷ [];
  ran = (behind 1 zero_all, step 1 zero_all, (behind 0 (behind 1 zero_all), step 0 (behind 1 zero_all), tt));
  output = 3;
  here = _;
  stands = refl;
  is_named = refl;
  goes_out = refl;
  said = ap (generated_line 1 counting passing) (sym one);
}
