-- What a part that stands in its segment comes to.
use Rattle.std.proofs.Common.{◌≡◌, ℕ, List, [], ◌∷◌, ap, ◌∙◌}
use Rattle.scc_core.specs.declared.expr.CoreExpr.{CoreExpr}
use Rattle.scc_core.specs.declared.stmt.CoreStmt.{CoreStmt}
use Rattle.scc_core_spec.specs.Segments.{Plain, Test, Halt}
use Rattle.scc_core_view.specs.Codes.{code_of}
use Rattle.scc_core_view.specs.Terms.{term_of}
use Rattle.scc_states_segments.specs.declared.parts.Part.{Part}
use Rattle.scc_states_segments.specs.declared.parts.PartNode.TheVariants as variant
use Rattle.scc_states_segments.specs.Parts.{part_walk, walk_of}
use Rattle.scc_states_segments.specs.Frames.{Scene, from, came, tested_scene}
use Rattle.scc_states_segments.proofs.Stands.{at, plain_stands, test_stands, wait_stands}

module _ (q : Part) (ps : List Part) (s : Scene) where
  pub came_plain : (x : CoreStmt) → q.node ≡ variant.Plain x → came q ps s ≡ Plain (code_of (x ∷ [])) (from ps s)
  came_plain x is =
      ap (λ n. (part_walk (at q.place n) (walk_of ps)).first s.next s.outer) is
      ∙ ap (λ w. w.first s.next s.outer) (plain_stands q.place (walk_of ps) x)

  pub came_test : (t : CoreExpr) (a b : List Part) → q.node ≡ variant.Test t a b → came q ps s ≡ Test q.place (term_of t) (from a (tested_scene ps s)) (from b (tested_scene ps s))
  came_test t a b is =
      ap (λ n. (part_walk (at q.place n) (walk_of ps)).first s.next s.outer) is
      ∙ ap (λ w. w.first s.next s.outer) (test_stands q.place (walk_of ps) t a b)

  pub came_wait : (n k : ℕ) → q.node ≡ variant.Wait n k → came q ps s ≡ Halt q.place n k
  came_wait n k is =
      ap (λ m. (part_walk (at q.place m) (walk_of ps)).first s.next s.outer) is
      ∙ ap (λ w. w.first s.next s.outer) (wait_stands q.place (walk_of ps) n k)
