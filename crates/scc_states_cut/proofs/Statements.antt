-- What a statement of a segment stands for, by its node, and the last of some.
use Rattle.std.proofs.Common.{◌≡◌, ℕ, List, [], ◌∷◌, ◌++◌, map, slice_get, Some, refl, sym, ap, ◌∙◌}
use Rattle.std.specs.Prelude.{unwrap_or}
use Rattle.scc_base.specs.declared.refusal.Place.{Place}
use Rattle.scc_core.specs.declared.stmt.CoreStmt.{CoreStmt}
use Rattle.scc_core.specs.declared.expr.CoreExpr.{CoreExpr}
use Rattle.scc_states_cut.specs.declared.types.SegStmt.{SegStmt, fold-roll-SegStmt}
use Rattle.scc_states_cut.specs.declared.types.SegNode.{SegNode, roll-SegNode, fold-roll-SegNode}
use Rattle.scc_states_cut.specs.declared.types.SegNode.TheVariants as variant
use Rattle.scc_states_cut.specs.declared.types.SegNode.TheOpen as node
use denote.Hole.Carrier.{roll}
use Rattle.scc_core_spec.specs.Segments.{Segment, Plain, Test, Halt, Finish}
use Rattle.scc_core_view.specs.Codes.{code_of}
use Rattle.scc_core_view.specs.Terms.{term_of}
use Rattle.scc_states_cut.specs.Cut.{Node, before, segment_node, segment_step, stmt_segment, segment_of}

abbrev Behind : Type 0
Behind = Segment → Segment

abbrev pub at : Place → SegNode → SegStmt
at p n = record { place = p; node = n }

module _ (waits : List ℕ) (p : Place) where
  pub plain_stands : (s : CoreStmt) (rest : Segment) → stmt_segment waits (at p (variant.Plain s)) rest ≡ Plain (code_of (s ∷ [])) rest
  unfolding roll-SegNode roll
  plain_stands s rest =
      ap (λ n. stmt_segment waits (at p n) rest) (variant.rolls-Plain s)
      ∙ ap (λ f. f rest) (fold-roll-SegStmt Node Behind (segment_node waits) segment_step (record { place = p; node = roll-SegNode (node.Plain s) }))
      ∙ ap (λ f. f p rest) (fold-roll-SegNode Node Behind (segment_node waits) segment_step (node.Plain s))

  pub test_stands : (t : CoreExpr) (a b : List SegStmt) → stmt_segment waits (at p (variant.If t a b)) Finish ≡ Test p (term_of t) (segment_of waits a) (segment_of waits b)
  unfolding roll-SegNode roll
  test_stands t a b =
      ap (λ n. stmt_segment waits (at p n) Finish) (variant.rolls-If t a b)
      ∙ ap (λ f. f Finish) (fold-roll-SegStmt Node Behind (segment_node waits) segment_step (record { place = p; node = roll-SegNode (node.If t a b) }))
      ∙ ap (λ f. f p Finish) (fold-roll-SegNode Node Behind (segment_node waits) segment_step (node.If t a b))

  pub wait_stands : (n : ℕ) → stmt_segment waits (at p (variant.Wait n)) Finish ≡ Halt p n (unwrap_or (slice_get waits n) 0)
  unfolding roll-SegNode roll
  wait_stands n =
      ap (λ n. stmt_segment waits (at p n) Finish) (variant.rolls-Wait n)
      ∙ ap (λ f. f Finish) (fold-roll-SegStmt Node Behind (segment_node waits) segment_step (record { place = p; node = roll-SegNode (node.Wait n) }))
      ∙ ap (λ f. f p Finish) (fold-roll-SegNode Node Behind (segment_node waits) segment_step (node.Wait n))

  pub test_is : (t : CoreExpr) (a b : List SegStmt) (x y : Segment) → segment_of waits a ≡ x → segment_of waits b ≡ y
      → stmt_segment waits (at p (variant.If t a b)) Finish ≡ Test p (term_of t) x y
  test_is t a b x y ha hb = test_stands t a b ∙ ap (λ z. Test p (term_of t) z (segment_of waits b)) ha ∙ ap (Test p (term_of t) x) hb

  pub wait_is : (n k : ℕ) → slice_get waits n ≡ Some k → stmt_segment waits (at p (variant.Wait n)) Finish ≡ Halt p n k
  wait_is n k h = wait_stands n ∙ ap (λ o. Halt p n (unwrap_or o 0)) h

before_last : (fs : List (Segment → Segment)) (f : Segment → Segment) (x : Segment) → before (fs ++ f ∷ []) x ≡ before fs (f x)
before_last [] f x = refl
before_last (g ∷ fs) f x = ap g (before_last fs f x)

map_last : {A B : Type 0} (f : A → B) (xs : List A) (x : A) → map f (xs ++ x ∷ []) ≡ map f xs ++ f x ∷ []
map_last f [] x = refl
map_last f (y ∷ xs) x = ap (λ l. f y ∷ l) (map_last f xs x)

-- a statement behind others
pub one_more : (waits : List ℕ) (out all : List SegStmt) (s : SegStmt) (rest x now whole : Segment) → all ≡ out ++ s ∷ [] → stmt_segment waits s rest ≡ x → now ≡ x
    → before (map (stmt_segment waits) out) now ≡ whole → before (map (stmt_segment waits) all) rest ≡ whole
one_more waits out all s rest x now whole more is here so =
    ap (λ l. before (map (stmt_segment waits) l) rest) more
    ∙ ap (λ fs. before fs rest) (map_last (stmt_segment waits) out s)
    ∙ before_last (map (stmt_segment waits) out) (stmt_segment waits s) rest
    ∙ ap (before (map (stmt_segment waits) out)) (is ∙ sym here) ∙ so
