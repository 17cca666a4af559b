-- The segments behind the waits of a part, and of those behind it.
use Rattle.std.proofs.Common.{◌≡◌, ℕ, suc, ◌+◌, ◌<◌, List, [], ◌∷◌, ◌++◌, append_assoc, drop, drop-cons, add-one, get_or, length, refl, sym, ap, subst, ◌∙◌}
use Rattle.scc_base.specs.declared.refusal.Place.{Place}
use Rattle.scc_core.specs.declared.expr.CoreExpr.{CoreExpr}
use Rattle.scc_core.specs.declared.stmt.CoreStmt.{CoreStmt}
use Rattle.scc_core_spec.specs.Segments.{Segment, Finish}
use Rattle.scc_states_segments.specs.declared.parts.Part.{Part, fold-roll-Part, ind-Part}
use Rattle.scc_states_segments.specs.declared.parts.PartNode.{PartNode, fold-PartNode, fold-roll-PartNode}
use Rattle.scc_states_segments.specs.declared.parts.PartNode.TheFolds.{map-PartNode}
use Rattle.scc_states_segments.specs.declared.parts.PartNode.TheVariants as variant
use Rattle.scc_states_segments.specs.declared.parts.PartNode.TheOpen.{PartNode-F}
use Rattle.scc_states_segments.specs.declared.parts.PartNode.TheOpen as node
use Rattle.scc_states_segments.specs.declared.path.Frame.{Frame}
use Rattle.scc_states_segments.specs.declared.path.Sort.TheVariants as sort
use Rattle.scc_states_segments.specs.Parts.{Walk, Node, part_node, part_step, part_walk, walk_of, chain, ended}
use Rattle.scc_states_segments.specs.Frames.{Scene, from, framed, framed_by}
use Rattle.scc_states_segments.specs.Behind.{behind_waits, quiet, own_waits}
use Rattle.scc_states_segments.proofs.Stands.{at, plain_stands, test_stands, block_stands, loop_stands, exit_stands, wait_stands}

list_around : {A : Type 0} → (a n : List A) → a ++ n ≡ (a ++ []) ++ n
list_around a n = sym (append_assoc a [] n)

list_around_two : {A : Type 0} → (a b n : List A) → a ++ (b ++ n) ≡ (a ++ (b ++ [])) ++ n
list_around_two a b n = ap (λ x. a ++ x) (list_around b n) ∙ sym (append_assoc a (b ++ []) n)

-- what a part adds stands before what follows
record Adds (f : Walk → Walk) : Type 0 where
  pub by : (w : Walk) (x : Segment) (o : List Segment) → (f w).others x o ≡ (f (quiet w)).others x o ++ w.others x o

adds : (y : PartNode-F Node (Walk → Walk)) (p : Place) → Adds (part_node y p)
adds (node.Plain s) p = record { by = λ w x o. refl }
adds (node.Test t a b) p = record { by = λ w x o. list_around_two ((chain a ended).others (w.first x o) o) ((chain b ended).others (w.first x o) o) (w.others x o) }
adds (node.Block b) p = record { by = λ w x o. list_around ((chain b ended).others (w.first x o) (w.first x o ∷ o)) (w.others x o) }
adds (node.Loop b) p = record { by = λ w x o. list_around ((chain b ended).others ((chain b ended).first Finish o) o) (w.others x o) }
adds (node.Exit n) p = record { by = λ w x o. refl }
adds (node.Wait n k) p = record { by = λ w x o. refl }

abbrev node_fold : PartNode → Node
node_fold = fold-PartNode Node (Walk → Walk) part_node part_step

part_adds : (q : Part) → Adds (part_walk q)
part_adds = ind-Part (λ n. (p : Place) → Adds (node_fold n p)) (λ q. Adds (part_walk q))
    (λ x y is p. subst (λ f. Adds (f p)) (sym (fold-roll-PartNode Node (Walk → Walk) part_node part_step x)) (adds (map-PartNode _ _ Node (Walk → Walk) node_fold part_walk x) p))
    (λ x y is. subst (λ f. Adds f) (sym (fold-roll-Part Node (Walk → Walk) part_node part_step x)) (subst (λ n. Adds (node_fold n x.place)) (ap (λ z. z.node) is) (y.node.1 x.place)))

-- from one part on
pub waits_here : (ps : List Part) (i : ℕ) (q : Part) (s : Scene) → i < length ps → q ≡ get_or ps i q
    → behind_waits (drop i ps) s ≡ own_waits q (drop (i + 1) ps) s ++ behind_waits (drop (i + 1) ps) s
waits_here ps i q s h is =
    ap (λ l. behind_waits l s) (drop-cons ps i q h ∙ ap (λ z. z ∷ drop (suc i) ps) (sym is) ∙ ap (λ n. q ∷ drop n ps) (sym (add-one i)))
    ∙ (part_adds q).by (walk_of (drop (i + 1) ps)) s.next s.outer

module _ (q : Part) (ps : List Part) (s : Scene) where
  pub none_plain : (x : CoreStmt) → q.node ≡ variant.Plain x → own_waits q ps s ≡ []
  none_plain x is =
      ap (λ n. (part_walk (at q.place n) (quiet (walk_of ps))).others s.next s.outer) is
      ∙ ap (λ w. w.others s.next s.outer) (plain_stands q.place (quiet (walk_of ps)) x)

  pub none_exit : (n : ℕ) → q.node ≡ variant.Exit n → own_waits q ps s ≡ []
  none_exit n is =
      ap (λ m. (part_walk (at q.place m) (quiet (walk_of ps))).others s.next s.outer) is
      ∙ ap (λ w. w.others s.next s.outer) (exit_stands q.place (quiet (walk_of ps)) n)

  pub one_wait : (n k : ℕ) → q.node ≡ variant.Wait n k → own_waits q ps s ≡ from ps s ∷ []
  one_wait n k is =
      ap (λ m. (part_walk (at q.place m) (quiet (walk_of ps))).others s.next s.outer) is
      ∙ ap (λ w. w.others s.next s.outer) (wait_stands q.place (quiet (walk_of ps)) n k)

  pub test_waits : (t : CoreExpr) (a b : List Part) → q.node ≡ variant.Test t a b → (f : Frame) → f.sort ≡ sort.Rest → f.rest.now ≡ ps
      → own_waits q ps s ≡ behind_waits a (framed f s) ++ (behind_waits b (framed f s) ++ [])
  test_waits t a b is f so rest =
      ap (λ n. (part_walk (at q.place n) (quiet (walk_of ps))).others s.next s.outer) is
      ∙ ap (λ w. w.others s.next s.outer) (test_stands q.place (quiet (walk_of ps)) t a b)
      ∙ ap (λ z. behind_waits a z ++ (behind_waits b z ++ [])) (sym same)
    where
      same : framed f s ≡ record { next = from ps s; outer = s.outer }
      same = ap (λ u. framed_by u (walk_of f.rest.now) s) so ∙ ap (λ l. record { next = from l s; outer = s.outer }) rest

  pub block_waits : (b : List Part) → q.node ≡ variant.Block b → (f : Frame) → f.sort ≡ sort.Block → f.rest.now ≡ ps → own_waits q ps s ≡ behind_waits b (framed f s) ++ []
  block_waits b is f so rest =
      ap (λ n. (part_walk (at q.place n) (quiet (walk_of ps))).others s.next s.outer) is
      ∙ ap (λ w. w.others s.next s.outer) (block_stands q.place (quiet (walk_of ps)) b)
      ∙ ap (λ z. behind_waits b z ++ []) (sym same)
    where
      same : framed f s ≡ record { next = from ps s; outer = from ps s ∷ s.outer }
      same = ap (λ u. framed_by u (walk_of f.rest.now) s) so ∙ ap (λ l. record { next = from l s; outer = from l s ∷ s.outer }) rest

  pub loop_waits : (b : List Part) → q.node ≡ variant.Loop b → (f : Frame) → f.sort ≡ sort.Again → f.rest.now ≡ b → own_waits q ps s ≡ behind_waits b (framed f s) ++ []
  loop_waits b is f so rest =
      ap (λ n. (part_walk (at q.place n) (quiet (walk_of ps))).others s.next s.outer) is
      ∙ ap (λ w. w.others s.next s.outer) (loop_stands q.place (quiet (walk_of ps)) b)
      ∙ ap (λ z. behind_waits b z ++ []) (sym same)
    where
      same : framed f s ≡ record { next = (walk_of b).first Finish s.outer; outer = s.outer }
      same = ap (λ u. framed_by u (walk_of f.rest.now) s) so ∙ ap (λ l. record { next = (walk_of l).first Finish s.outer; outer = s.outer }) rest
