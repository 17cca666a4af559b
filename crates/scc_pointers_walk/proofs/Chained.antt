-- What is refused of a first operand or of a pointer is refused of what stands around it.
use Rattle.std.proofs.Common.{◌≡◌, refl, sym, ap, ◌∙◌, ℕ, zero, suc, Bool, true, false, not, if◌then◌else◌, List, [], ◌∷◌, map, slice_get, Option, Some, None, is_some, unwrap_or, Err}
use Rattle.scc_base.specs.declared.refusal.Place.{Place}
use Rattle.scc_base.specs.declared.refusal.Refusal.{Refusal}
use Rattle.scc_base.specs.declared.refusal.Stop.{Stop}
use Rattle.scc_base.specs.declared.refusal.Stop.TheVariants as stop
use Rattle.scc_core.specs.declared.expr.CoreBase.{CoreBase, fold_out-CoreBase, fold-CoreBase, map-CoreBase, out-CoreBase}
use Rattle.scc_core.specs.declared.expr.CoreBase.TheOpen.{CoreBase-F, CoreExprNode-F}
use Rattle.scc_core.specs.declared.expr.CoreBase.TheOpen as tree
use Rattle.scc_core.specs.declared.expr.CoreExpr.{CoreExpr, fold-roll-CoreExpr}
use Rattle.scc_core.specs.declared.expr.CoreExprNode.{CoreExprNode, fold_out-CoreExprNode, fold-CoreExprNode, map-CoreExprNode, out-CoreExprNode}
use Rattle.scc_core.specs.declared.expr.CoreLeft.{CoreLeft, fold-roll-CoreLeft, fold_out-CoreLeft}
use Rattle.scc_core.specs.declared.expr.CorePart.{CorePart}
use Rattle.scc_core.specs.declared.expr.CorePick.{CorePick}
use Rattle.scc_core.specs.Copies.{Follows, IsChain}
use Rattle.scc_core_spec.specs.Resolved.{Tried, Stopped, and_made, made_map}
use Rattle.scc_pointers_walk.specs.declared.held.Resolver.{Resolver}
use Rattle.scc_pointers_walk.specs.Led.{Gives}
use Rattle.scc_pointers_walk.specs.Walked as walked
use Rattle.scc_pointers_walk.specs.Walked.{Layer, Base, Node, Part, Pick, Shown, Gone, Loaded, beyond, bits_of, first_in, first_of, is_load, is_load_in, leads_in, pointer_in, pointer_of, reached, shown_in, gone_in, expr_in, expr_node, base_node, part_node, pick_node, expr_step, left_step}

same_some : {A : Type 0} {a b : A} → Some a ≡ Some b → a ≡ b
same_some {a = a} e = ap (λ o. unwrap_or o a) e

-- a stop within is one of the whole, where its refusal is
pub stopped_as : {X : Type 0} (s : Stop) (t u : Tried X) → Gives (λ x. x) (Err s) t → ((q : Refusal) → t ≡ Stopped q → u ≡ Stopped q) → Gives (λ x. x) (Err s) u
stopped_as (stop.Refused q) t u g f = f q g
stopped_as stop.NoMemory t u g f = tt

module _ {A X : Type 0} (next : A → Option A) (f : A → Tried X) (stops : (x y : A) (q : Refusal) → next x ≡ Some y → f y ≡ Stopped q → f x ≡ Stopped q) where
  stops_in : (o : Option A) (ys : List A) (n : ℕ) (x : A) (q : Refusal) → Follows next o ys → slice_get ys n ≡ Some x → f x ≡ Stopped q → (z : A) → o ≡ Some z → f z ≡ Stopped q
  stops_in None ys n x q h g e z p = absurd cc
  stops_in (Some w) [] n x q h g e z p = absurd h
  stops_in (Some w) (y ∷ ys) zero x q h g e z p = ap f (sym (same_some p) ∙ sym h.0 ∙ same_some g) ∙ e
  stops_in (Some w) (y ∷ ys) (suc n) x q h g e z p = ap f (sym (same_some p) ∙ sym h.0) ∙ by (next y) refl ys h.1 g (stops_in (next y) ys n x q h.1 g e)
    where
      by : (o : Option A) → next y ≡ o → (us : List A) → Follows next o us → slice_get us n ≡ Some x → ((v : A) → o ≡ Some v → f v ≡ Stopped q) → f y ≡ Stopped q
      by None i [] k s t = absurd cc
      by None i (u ∷ us) k s t = absurd k
      by (Some v) i us k s t = stops y v q i (t v refl)

  -- what is refused of an element of a chain is refused of the whole
  pub stops_from : (e : A) (xs : List A) (n : ℕ) (x : A) (q : Refusal) → IsChain next e xs → slice_get xs n ≡ Some x → f x ≡ Stopped q → f e ≡ Stopped q
  stops_from e xs n x q h g s = stops_in (Some e) xs n x q h g s e refl

module _ (r : Resolver) where
  abbrev pub base_shown : CoreBase → Base
  base_shown = fold-CoreBase Base Node Part Pick Shown Gone (base_node r) (expr_node r) (part_node r) pick_node expr_step left_step

  abbrev pub node_shown : CoreExprNode → Node
  node_shown = fold-CoreExprNode Base Node Part Pick Shown Gone (base_node r) (expr_node r) (part_node r) pick_node expr_step left_step

  abbrev pub layer_shown : Layer → CoreExprNode-F Base Node Part Pick Shown Gone
  layer_shown = map-CoreExprNode CoreBase CoreExprNode CorePart CorePick CoreExpr CoreLeft Base Node Part Pick Shown Gone base_shown node_shown (walked.part_in r) (walked.pick_in r) (shown_in r) (gone_in r)

  abbrev pub BaseLayer : Type 0
  BaseLayer = CoreBase-F CoreBase CoreExprNode CorePart CorePick CoreExpr CoreLeft

  abbrev pub base_layer : BaseLayer → CoreBase-F Base Node Part Pick Shown Gone
  base_layer = map-CoreBase CoreBase CoreExprNode CorePart CorePick CoreExpr CoreLeft Base Node Part Pick Shown Gone base_shown node_shown (walked.part_in r) (walked.pick_in r) (shown_in r) (gone_in r)

  -- an expression by its node, and a location by its base and parts
  pub shown_is : (e : CoreExpr) → shown_in r e ≡ expr_node r (layer_shown (out-CoreExprNode e.node)) e.place e.kind
  shown_is e =
      fold-roll-CoreExpr Base Node Part Pick Shown Gone (base_node r) (expr_node r) (part_node r) pick_node expr_step left_step (record { place = e.place; kind = e.kind; node = e.node })
      ∙ ap (λ n. n e.place e.kind) (fold_out-CoreExprNode Base Node Part Pick Shown Gone (base_node r) (expr_node r) (part_node r) pick_node expr_step left_step e.node)

  pub leads_is : (l : CoreLeft) (soft : Bool) → (gone_in r l).leads soft ≡ base_node r (base_layer (out-CoreBase l.base)) l.place soft (map (walked.part_in r) l.parts)
  leads_is l soft =
      ap (λ g. g.leads soft) (fold_out-CoreLeft Base Node Part Pick Shown Gone (base_node r) (expr_node r) (part_node r) pick_node expr_step left_step l)
      ∙ ap (λ b. b l.place soft (map (walked.part_in r) l.parts)) (fold_out-CoreBase Base Node Part Pick Shown Gone (base_node r) (expr_node r) (part_node r) pick_node expr_step left_step l.base)

  load_some : (b c : Bool) (x : Loaded) → b ≡ c → is_some (if b then Some x else None) ≡ c
  load_some true c x h = h
  load_some false c x h = h

  whole_by : (p : Place) (b : CoreBase) (ps : List CorePart) (o : Option CorePick) → (gone_in r (record { place = p; base = b; parts = ps; pick = o })).is_whole ≡ not (is_some o)
  whole_by p b ps None = ap (λ g. g.is_whole) (fold-roll-CoreLeft Base Node Part Pick Shown Gone (base_node r) (expr_node r) (part_node r) pick_node expr_step left_step (record { place = p; base = b; parts = ps; pick = None }))
  whole_by p b ps (Some q) = ap (λ g. g.is_whole) (fold-roll-CoreLeft Base Node Part Pick Shown Gone (base_node r) (expr_node r) (part_node r) pick_node expr_step left_step (record { place = p; base = b; parts = ps; pick = Some q }))

  pub load_is : (e : CoreExpr) → is_some (shown_in r e).load ≡ is_load e
  load_is e = ap (λ s. is_some s.load) (shown_is e) ∙ by (out-CoreExprNode e.node)
    where
      by : (x : Layer) → is_some (expr_node r (layer_shown x) e.place e.kind).load ≡ is_load_in x
      by (tree.Lit w) = refl
      by (tree.Load l) = load_some (gone_in r l).is_whole (not (is_some l.pick)) _ (whole_by l.place l.base l.parts l.pick)
      by (tree.Read l) = refl
      by (tree.Convert x) = refl
      by (tree.Operate o a b) = refl
      by (tree.Choose t a b) = refl
      by (tree.Pick x q) = refl
      by (tree.Join es) = refl

  pub no_load : (e : CoreExpr) → is_load e ≡ false → (shown_in r e).load ≡ None
  no_load e h = by (shown_in r e).load (load_is e ∙ h)
    where
      by : (o : Option Loaded) → is_some o ≡ false → o ≡ None
      by None g = refl
      by (Some x) g = absurd cc

  stopped_then : {A B : Type 0} {q : Refusal} (f : A → Tried B) {t : Tried A} → t ≡ Stopped q → and_made t f ≡ Stopped q
  stopped_then f e = ap (λ t. and_made t f) e

  pub expr_stops : (x y : CoreExpr) (q : Refusal) → first_of x ≡ Some y → expr_in r y ≡ Stopped q → expr_in r x ≡ Stopped q
  expr_stops x y q h s = ap (λ t. t.made) (shown_is x) ∙ by (out-CoreExprNode x.node) h
    where
      here : (e : CoreExpr) → Some e ≡ Some y → expr_in r e ≡ Stopped q
      here e g = ap (expr_in r) (same_some g) ∙ s

      picked : (e : CoreExpr) (t : CorePick) (b : Bool) → is_load e ≡ b → (if b then None else Some e) ≡ Some y → bits_of r x.place x.kind (expr_in r e) (walked.pick_in r t) (shown_in r e).load ≡ Stopped q
      picked e t true i g = absurd cc
      picked e t false i g = ap (bits_of r x.place x.kind (expr_in r e) (walked.pick_in r t)) (no_load e i) ∙ stopped_then _ (here e g)

      by : (z : Layer) → first_in z ≡ Some y → (expr_node r (layer_shown z) x.place x.kind).made ≡ Stopped q
      by (tree.Lit w) g = absurd cc
      by (tree.Load l) g = absurd cc
      by (tree.Read l) g = absurd cc
      by (tree.Convert e) g = ap (made_map _) (here e g)
      by (tree.Operate o a b) g = stopped_then _ (here a g)
      by (tree.Choose t a b) g = stopped_then _ (here t g)
      by (tree.Pick e t) g = picked e t (is_load e) refl g
      by (tree.Join es) g = absurd cc

  pub left_stops : (x y : CoreLeft × Bool) (q : Refusal) → pointer_of x ≡ Some y → reached r y ≡ Stopped q → reached r x ≡ Stopped q
  left_stops x y q h s = leads_is x.0 x.1 ∙ by (out-CoreBase x.0.base) h
    where
      by : (z : BaseLayer) → pointer_in z x.1 ≡ Some y → base_node r (base_layer z) x.0.place x.1 (map (walked.part_in r) x.0.parts) ≡ Stopped q
      by (tree.Cell n) g = absurd cc
      by (tree.Prefix n) g = absurd cc
      by (tree.Follow l own) g = stopped_then _ (ap (reached r) (same_some g) ∙ s)
      by tree.Null g = absurd cc
