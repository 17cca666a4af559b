-- What a statement of a segment stands for, by its node.
use Rattle.std.proofs.Common.{◌≡◌, ℕ, List, [], ◌∷◌, map, slice_get, ap, ◌∙◌}
use Rattle.std.specs.Prelude.{unwrap_or}
use Rattle.scc_base.specs.declared.refusal.Place.{Place}
use Rattle.scc_core.specs.declared.stmt.CoreStmt.{CoreStmt}
use Rattle.scc_core.specs.declared.expr.CoreExpr.{CoreExpr}
use Rattle.scc_states_cut.specs.declared.types.SegStmt.{SegStmt, fold-roll-SegStmt}
use Rattle.scc_states_cut.specs.declared.types.SegNode.{SegNode, roll-SegNode, fold-roll-SegNode}
use Rattle.scc_states_cut.specs.declared.types.SegNode.TheVariants as variant
use Rattle.scc_states_cut.specs.declared.types.SegNode.TheOpen as node
use denote.Hole.Carrier.{roll}
use Rattle.scc_core_spec.specs.Segments.{Segment, Plain, Test, Halt}
use Rattle.scc_core_view.specs.Codes.{code_of}
use Rattle.scc_core_view.specs.Terms.{term_of}
use Rattle.scc_states_cut.specs.Cut.{Node, before, segment_node, segment_step, stmt_segment}

abbrev Behind : Type 0
Behind = Segment → Segment

abbrev at : Place → SegNode → SegStmt
at p n = record { place = p; node = n }

module _ (waits : List ℕ) (p : Place) where
  pub plain_stands : (s : CoreStmt) (rest : Segment)
      → stmt_segment waits (at p (variant.Plain s)) rest ≡ Plain (code_of (s ∷ [])) rest
  unfolding roll-SegNode roll
  plain_stands s rest =
      ap (λ n. stmt_segment waits (at p n) rest) (variant.rolls-Plain s)
      ∙ ap (λ f. f rest) (fold-roll-SegStmt Node Behind (segment_node waits) segment_step (record { place = p; node = roll-SegNode (node.Plain s) }))
      ∙ ap (λ f. f p rest) (fold-roll-SegNode Node Behind (segment_node waits) segment_step (node.Plain s))

  pub test_stands : (t : CoreExpr) (a b : List SegStmt) (rest : Segment) → stmt_segment waits (at p (variant.If t a b)) rest
      ≡ Test p (term_of t) (before (map (stmt_segment waits) a) rest) (before (map (stmt_segment waits) b) rest)
  unfolding roll-SegNode roll
  test_stands t a b rest =
      ap (λ n. stmt_segment waits (at p n) rest) (variant.rolls-If t a b)
      ∙ ap (λ f. f rest) (fold-roll-SegStmt Node Behind (segment_node waits) segment_step (record { place = p; node = roll-SegNode (node.If t a b) }))
      ∙ ap (λ f. f p rest) (fold-roll-SegNode Node Behind (segment_node waits) segment_step (node.If t a b))

  pub wait_stands : (n : ℕ) (rest : Segment) → stmt_segment waits (at p (variant.Wait n)) rest ≡ Halt p n (unwrap_or (slice_get waits n) 0)
  unfolding roll-SegNode roll
  wait_stands n rest =
      ap (λ n. stmt_segment waits (at p n) rest) (variant.rolls-Wait n)
      ∙ ap (λ f. f rest) (fold-roll-SegStmt Node Behind (segment_node waits) segment_step (record { place = p; node = roll-SegNode (node.Wait n) }))
      ∙ ap (λ f. f p rest) (fold-roll-SegNode Node Behind (segment_node waits) segment_step (node.Wait n))
