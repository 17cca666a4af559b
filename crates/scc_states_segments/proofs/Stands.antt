-- What a part stands for, by its node.
use Rattle.std.proofs.Common.{◌≡◌, ℕ, List, [], ◌∷◌, map, ap, ◌∙◌}
use Rattle.scc_base.specs.declared.refusal.Place.{Place}
use Rattle.scc_core.specs.declared.stmt.CoreStmt.{CoreStmt}
use Rattle.scc_core.specs.declared.expr.CoreExpr.{CoreExpr}
use Rattle.scc_core_view.specs.Codes.{code_of}
use Rattle.scc_core_view.specs.Terms.{term_of}
use Rattle.scc_states_segments.specs.declared.parts.Part.{Part, fold-roll-Part}
use Rattle.scc_states_segments.specs.declared.parts.PartNode.{PartNode, roll-PartNode, fold-roll-PartNode}
use Rattle.scc_states_segments.specs.declared.parts.PartNode.TheVariants as variant
use Rattle.scc_states_segments.specs.declared.parts.PartNode.TheOpen as node
use denote.Hole.Carrier.{roll}
use Rattle.scc_states_segments.specs.Parts.{Walk, Node, whole, tested, blocked, looped, left, halted, part_node, part_step, part_walk, walk_of}

abbrev Before : Type 0
Before = Walk → Walk

abbrev pub at : Place → PartNode → Part
at p n = record { place = p; node = n }

module _ (p : Place) (w : Walk) where
  pub plain_stands : (s : CoreStmt) → part_walk (at p (variant.Plain s)) w ≡ whole (code_of (s ∷ [])) w
  unfolding roll-PartNode roll
  plain_stands s =
      ap (λ n. part_walk (at p n) w) (variant.rolls-Plain s)
      ∙ ap (λ f. f w) (fold-roll-Part Node Before part_node part_step (record { place = p; node = roll-PartNode (node.Plain s) }))
      ∙ ap (λ f. f p w) (fold-roll-PartNode Node Before part_node part_step (node.Plain s))

  pub test_stands : (t : CoreExpr) (a b : List Part) → part_walk (at p (variant.Test t a b)) w ≡ tested p (term_of t) (walk_of a) (walk_of b) w
  unfolding roll-PartNode roll
  test_stands t a b =
      ap (λ n. part_walk (at p n) w) (variant.rolls-Test t a b)
      ∙ ap (λ f. f w) (fold-roll-Part Node Before part_node part_step (record { place = p; node = roll-PartNode (node.Test t a b) }))
      ∙ ap (λ f. f p w) (fold-roll-PartNode Node Before part_node part_step (node.Test t a b))

  pub block_stands : (b : List Part) → part_walk (at p (variant.Block b)) w ≡ blocked (walk_of b) w
  unfolding roll-PartNode roll
  block_stands b =
      ap (λ n. part_walk (at p n) w) (variant.rolls-Block b)
      ∙ ap (λ f. f w) (fold-roll-Part Node Before part_node part_step (record { place = p; node = roll-PartNode (node.Block b) }))
      ∙ ap (λ f. f p w) (fold-roll-PartNode Node Before part_node part_step (node.Block b))

  pub loop_stands : (b : List Part) → part_walk (at p (variant.Loop b)) w ≡ looped (walk_of b) w
  unfolding roll-PartNode roll
  loop_stands b =
      ap (λ n. part_walk (at p n) w) (variant.rolls-Loop b)
      ∙ ap (λ f. f w) (fold-roll-Part Node Before part_node part_step (record { place = p; node = roll-PartNode (node.Loop b) }))
      ∙ ap (λ f. f p w) (fold-roll-PartNode Node Before part_node part_step (node.Loop b))

  pub exit_stands : (n : ℕ) → part_walk (at p (variant.Exit n)) w ≡ left n w
  unfolding roll-PartNode roll
  exit_stands n =
      ap (λ n. part_walk (at p n) w) (variant.rolls-Exit n)
      ∙ ap (λ f. f w) (fold-roll-Part Node Before part_node part_step (record { place = p; node = roll-PartNode (node.Exit n) }))
      ∙ ap (λ f. f p w) (fold-roll-PartNode Node Before part_node part_step (node.Exit n))

  pub wait_stands : (n k : ℕ) → part_walk (at p (variant.Wait n k)) w ≡ halted p n k w
  unfolding roll-PartNode roll
  wait_stands n k =
      ap (λ n. part_walk (at p n) w) (variant.rolls-Wait n k)
      ∙ ap (λ f. f w) (fold-roll-Part Node Before part_node part_step (record { place = p; node = roll-PartNode (node.Wait n k) }))
      ∙ ap (λ f. f p w) (fold-roll-PartNode Node Before part_node part_step (node.Wait n k))
