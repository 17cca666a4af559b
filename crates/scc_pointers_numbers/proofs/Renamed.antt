-- What a copy with other numbers stands for is what the tree stands for, with these numbers.
use Rattle.std.proofs.Common.{◌≡◌, refl, sym, ap, subst, ◌∙◌, ℕ, Bool, true, false, List, [], ◌∷◌, map, Option, Some, None, option_map, unwrap_or}
use Rattle.scc_base.specs.declared.refusal.Place.{Place}
use Rattle.scc_base.specs.declared.names.Name.{Name}
use Rattle.scc_bits_kinds.specs.declared.kind.Kind.{Kind}
use Rattle.scc_core.specs.declared.expr.CoreExpr.{CoreExpr, fold-roll-CoreExpr, ind-CoreExpr}
use Rattle.scc_core.specs.declared.expr.CoreExprNode.{CoreExprNode, roll-CoreExprNode, map-CoreExprNode, fold-CoreExprNode, fold-roll-CoreExprNode}
use Rattle.scc_core.specs.declared.expr.CoreLeft.{CoreLeft, roll-CoreLeft, map-CoreLeft, fold-roll-CoreLeft, ind-CoreLeft}
use Rattle.scc_core.specs.declared.expr.CoreBase.{CoreBase, roll-CoreBase, fold-CoreBase, map-CoreBase, fold-roll-CoreBase}
use Rattle.scc_core.specs.declared.expr.CorePart.{CorePart, roll-CorePart, map-CorePart, fold-roll-CorePart}
use Rattle.scc_core.specs.declared.expr.CorePick.{CorePick, roll-CorePick, map-CorePick, fold-roll-CorePick}
use Rattle.scc_core.specs.declared.expr.CoreBase.TheOpen.{CoreBase-F, CoreExprNode-F, CorePart-F, CorePick-F, CoreExpr-F, CoreLeft-F}
use Rattle.scc_core.specs.declared.expr.CoreBase.TheOpen as tree
use Rattle.scc_core.specs.declared.program.CellName.{CellName}
use Rattle.scc_core_view.specs.Terms.{term_of, taken_of}
use Rattle.scc_core_view.specs.Terms as to
use Rattle.scc_unroll_laws.proofs.Trees.{term_node, term_base, term_part, term_pick, term_layer, term_made}
use Rattle.scc_core_spec.specs.Term.{Term, Left, Pick}
use Rattle.scc_core_spec.specs.Term as term
use Rattle.scc_core_spec.specs.Renumbered.{renamed, renamed_left, renamed_pick}
use Rattle.scc_pointers_numbers.specs.Numbered as with

abbrev Each : {A : Type 0} → (A → Type 0) → List A → Type 0
Each P [] = Unit {0}
Each P (x ∷ xs) = P x × Each P xs

each_value : {A B : Type 0} (P : A → Type 0) (value : B → A) → ((b : B) → P (value b)) → (bs : List B) → Each P (map value bs)
each_value P value holds [] = tt
each_value P value holds (b ∷ bs) = (holds b, each_value P value holds bs)

abbrev Some_has : {A : Type 0} → (A → Type 0) → Option A → Type 0
Some_has P None = Unit {0}
Some_has P (Some x) = P x

module _ (ns : ℕ → ℕ) where
  -- copies, node by node
  abbrev copied_base : CoreBase → CoreBase
  copied_base = fold-CoreBase CoreBase with.Node CorePart CorePick CoreExpr CoreLeft (with.base_node ns) with.expr_node with.part_node with.pick_node with.expr_step with.left_step

  abbrev copied_node : CoreExprNode → with.Node
  copied_node = fold-CoreExprNode CoreBase with.Node CorePart CorePick CoreExpr CoreLeft (with.base_node ns) with.expr_node with.part_node with.pick_node with.expr_step with.left_step

  base_copy : (x : CoreBase-F CoreBase CoreExprNode CorePart CorePick CoreExpr CoreLeft)
      → copied_base (roll-CoreBase x)
      ≡ with.base_node ns (map-CoreBase CoreBase CoreExprNode CorePart CorePick CoreExpr CoreLeft CoreBase with.Node CorePart CorePick CoreExpr CoreLeft copied_base copied_node (with.numbered_part ns) (with.numbered_pick ns) (with.numbered ns) (with.numbered_left ns) x)
  base_copy x = fold-roll-CoreBase CoreBase with.Node CorePart CorePick CoreExpr CoreLeft (with.base_node ns) with.expr_node with.part_node with.pick_node with.expr_step with.left_step x

  node_copy : (x : CoreExprNode-F CoreBase CoreExprNode CorePart CorePick CoreExpr CoreLeft)
      → copied_node (roll-CoreExprNode x)
      ≡ with.expr_node (map-CoreExprNode CoreBase CoreExprNode CorePart CorePick CoreExpr CoreLeft CoreBase with.Node CorePart CorePick CoreExpr CoreLeft copied_base copied_node (with.numbered_part ns) (with.numbered_pick ns) (with.numbered ns) (with.numbered_left ns) x)
  node_copy x = fold-roll-CoreExprNode CoreBase with.Node CorePart CorePick CoreExpr CoreLeft (with.base_node ns) with.expr_node with.part_node with.pick_node with.expr_step with.left_step x

  part_copy : (x : CorePart-F CoreBase CoreExprNode CorePart CorePick CoreExpr CoreLeft)
      → with.numbered_part ns (roll-CorePart x)
      ≡ with.part_node (map-CorePart CoreBase CoreExprNode CorePart CorePick CoreExpr CoreLeft CoreBase with.Node CorePart CorePick CoreExpr CoreLeft copied_base copied_node (with.numbered_part ns) (with.numbered_pick ns) (with.numbered ns) (with.numbered_left ns) x)
  part_copy x = fold-roll-CorePart CoreBase with.Node CorePart CorePick CoreExpr CoreLeft (with.base_node ns) with.expr_node with.part_node with.pick_node with.expr_step with.left_step x

  pick_copy : (x : CorePick-F CoreBase CoreExprNode CorePart CorePick CoreExpr CoreLeft)
      → with.numbered_pick ns (roll-CorePick x)
      ≡ with.pick_node (map-CorePick CoreBase CoreExprNode CorePart CorePick CoreExpr CoreLeft CoreBase with.Node CorePart CorePick CoreExpr CoreLeft copied_base copied_node (with.numbered_part ns) (with.numbered_pick ns) (with.numbered ns) (with.numbered_left ns) x)
  pick_copy x = fold-roll-CorePick CoreBase with.Node CorePart CorePick CoreExpr CoreLeft (with.base_node ns) with.expr_node with.part_node with.pick_node with.expr_step with.left_step x

  left_copy : (p : Place) (b : CoreBase) (ps : List CorePart) (q : Option CorePick)
      → with.numbered_left ns (record { place = p; base = b; parts = ps; pick = q })
      ≡ record { place = p; base = copied_base b; parts = map (with.numbered_part ns) ps; pick = option_map (with.numbered_pick ns) q }
  left_copy p b ps None = fold-roll-CoreLeft CoreBase with.Node CorePart CorePick CoreExpr CoreLeft (with.base_node ns) with.expr_node with.part_node with.pick_node with.expr_step with.left_step (record { place = p; base = b; parts = ps; pick = None })
  left_copy p b ps (Some q) = fold-roll-CoreLeft CoreBase with.Node CorePart CorePick CoreExpr CoreLeft (with.base_node ns) with.expr_node with.part_node with.pick_node with.expr_step with.left_step (record { place = p; base = b; parts = ps; pick = Some q })

  expr_copy : (p : Place) (k : Kind) (n : CoreExprNode) → with.numbered ns (record { place = p; kind = k; node = n }) ≡ copied_node n p k
  expr_copy p k n = fold-roll-CoreExpr CoreBase with.Node CorePart CorePick CoreExpr CoreLeft (with.base_node ns) with.expr_node with.part_node with.pick_node with.expr_step with.left_step (record { place = p; kind = k; node = n })

-- terms, node by node
base_term : (x : CoreBase-F CoreBase CoreExprNode CorePart CorePick CoreExpr CoreLeft)
    → term_base (roll-CoreBase x)
    ≡ to.base_node (map-CoreBase CoreBase CoreExprNode CorePart CorePick CoreExpr CoreLeft to.Base to.Node (Left → Left) to.Picking Term to.Taken term_base term_node term_part term_pick term_of taken_of x)
base_term x = fold-roll-CoreBase to.Base to.Node (Left → Left) to.Picking Term to.Taken to.base_node to.expr_node to.part_node to.pick_node to.expr_step to.left_step x

node_term : (x : CoreExprNode-F CoreBase CoreExprNode CorePart CorePick CoreExpr CoreLeft) → term_node (roll-CoreExprNode x) ≡ to.expr_node (term_layer x)
node_term x = fold-roll-CoreExprNode to.Base to.Node (Left → Left) to.Picking Term to.Taken to.base_node to.expr_node to.part_node to.pick_node to.expr_step to.left_step x

part_term : (x : CorePart-F CoreBase CoreExprNode CorePart CorePick CoreExpr CoreLeft)
    → term_part (roll-CorePart x)
    ≡ to.part_node (map-CorePart CoreBase CoreExprNode CorePart CorePick CoreExpr CoreLeft to.Base to.Node (Left → Left) to.Picking Term to.Taken term_base term_node term_part term_pick term_of taken_of x)
part_term x = fold-roll-CorePart to.Base to.Node (Left → Left) to.Picking Term to.Taken to.base_node to.expr_node to.part_node to.pick_node to.expr_step to.left_step x

pick_term : (x : CorePick-F CoreBase CoreExprNode CorePart CorePick CoreExpr CoreLeft)
    → term_pick (roll-CorePick x)
    ≡ to.pick_node (map-CorePick CoreBase CoreExprNode CorePart CorePick CoreExpr CoreLeft to.Base to.Node (Left → Left) to.Picking Term to.Taken term_base term_node term_part term_pick term_of taken_of x)
pick_term x = fold-roll-CorePick to.Base to.Node (Left → Left) to.Picking Term to.Taken to.base_node to.expr_node to.part_node to.pick_node to.expr_step to.left_step x

left_term : (p : Place) (b : CoreBase) (ps : List CorePart) (q : Option CorePick)
    → taken_of (record { place = p; base = b; parts = ps; pick = q })
    ≡ record { left = to.extended (term_base b p) (map term_part ps); pick = to.pick_of (option_map term_pick q); of = option_map (λ t. t.of) (option_map term_pick q) }
left_term p b ps None = fold-roll-CoreLeft to.Base to.Node (Left → Left) to.Picking Term to.Taken to.base_node to.expr_node to.part_node to.pick_node to.expr_step to.left_step (record { place = p; base = b; parts = ps; pick = None })
left_term p b ps (Some q) = fold-roll-CoreLeft to.Base to.Node (Left → Left) to.Picking Term to.Taken to.base_node to.expr_node to.part_node to.pick_node to.expr_step to.left_step (record { place = p; base = b; parts = ps; pick = Some q })

expr_term : (p : Place) (k : Kind) (n : CoreExprNode) → term_of (record { place = p; kind = k; node = n }) ≡ term_node n p k
expr_term p k n = fold-roll-CoreExpr to.Base to.Node (Left → Left) to.Picking Term to.Taken to.base_node to.expr_node to.part_node to.pick_node to.expr_step to.left_step (record { place = p; kind = k; node = n })

picked_made : (p : Place) (k : Kind) (e : Term) (t : Pick) (u : Term) (r : Pick) → e ≡ u → t ≡ r → to.picked p k e t ≡ to.picked p k u r
picked_made p k e t u r h i = ap (λ x. to.picked p k x t) h ∙ ap (to.picked p k u) i

counting_picked : (cs : ℕ → ℕ) (p : Place) (k : Kind) (e : Term) (t : Pick) → renamed cs (to.picked p k e t) ≡ to.picked p k (renamed cs e) (renamed_pick cs t)
counting_picked cs p k e term.Whole = refl
counting_picked cs p k e (term.OneBit i) = refl
counting_picked cs p k e (term.Bits h l) = refl

module _ (ns : ℕ → ℕ) where
  abbrev cs : ℕ → ℕ
  cs = ns

  record BaseSays (b : CoreBase) : Type 0 where
    left : (p : Place) → term_base (copied_base ns b) p ≡ renamed_left cs (term_base b p)

  abbrev NodeSays : CoreExprNode → Type 0
  NodeSays n = (p : Place) (k : Kind) → term_of (copied_node ns n p k) ≡ renamed cs (term_node n p k)

  record PartSays (x : CorePart) : Type 0 where
    left : (l : Left) → term_part (with.numbered_part ns x) (renamed_left cs l) ≡ renamed_left cs (term_part x l)

  record PickSays (q : CorePick) : Type 0 where
    pick : (term_pick (with.numbered_pick ns q)).pick ≡ renamed_pick cs (term_pick q).pick
    of : (term_pick (with.numbered_pick ns q)).of ≡ (term_pick q).of

  abbrev pub ExprSays : CoreExpr → Type 0
  ExprSays e = term_of (with.numbered ns e) ≡ renamed cs (term_of e)

  pub record LeftSays (l : CoreLeft) : Type 0 where
    pub left : (taken_of (with.numbered_left ns l)).left ≡ renamed_left cs (taken_of l).left
    pub pick : (taken_of (with.numbered_left ns l)).pick ≡ renamed_pick cs (taken_of l).pick
    pub of : (taken_of (with.numbered_left ns l)).of ≡ (taken_of l).of

  -- ---- bases

  cell_says : (n : ℕ) → BaseSays (roll-CoreBase (tree.Cell n))
  cell_says n = record { left = λ p. ap (λ b. term_base b p) (base_copy ns (tree.Cell n)) ∙ (ap (λ f. f p) (base_term (tree.Cell (ns n))) ∙ ap (λ f. renamed_left cs (f p)) (sym (base_term (tree.Cell n)))) }

  front_says : (name : CellName) → BaseSays (roll-CoreBase (tree.Prefix name))
  front_says name = record {
    left = λ p. ap (λ b. term_base b p) (base_copy ns (tree.Prefix name)) ∙ ap (λ f. f p) (base_term (tree.Prefix name)) ∙ ap (λ f. renamed_left cs (f p)) (sym (base_term (tree.Prefix name)));
  }

  null_says : BaseSays (roll-CoreBase tree.Null)
  null_says = record {
    left = λ p. ap (λ b. term_base b p) (base_copy ns tree.Null) ∙ ap (λ f. f p) (base_term tree.Null) ∙ ap (λ f. renamed_left cs (f p)) (sym (base_term tree.Null));
  }

  follow_says : (l : CoreLeft) (soft : Bool) → LeftSays l → BaseSays (roll-CoreBase (tree.Follow l soft))
  follow_says l soft h = record {
    left = λ p. ap (λ b. term_base b p) (base_copy ns (tree.Follow l soft)) ∙ ap (λ f. f p) (base_term (tree.Follow (with.numbered_left ns l) soft))
        ∙ ap (λ x. term.Follow p soft x) h.left ∙ ap (λ f. renamed_left cs (f p)) (sym (base_term (tree.Follow l soft)));
  }

  -- ---- parts and picks

  member_says : (n : Name) → PartSays (roll-CorePart (tree.Member n))
  member_says n = record {
    left = λ l. ap (λ x. term_part x (renamed_left cs l)) (part_copy ns (tree.Member n)) ∙ ap (λ f. f (renamed_left cs l)) (part_term (tree.Member n)) ∙ ap (λ f. renamed_left cs (f l)) (sym (part_term (tree.Member n)));
  }

  index_says : (size : ℕ) (e : CoreExpr) → ExprSays e → PartSays (roll-CorePart (tree.Index size e))
  index_says size e h = record {
    left = λ l. ap (λ x. term_part x (renamed_left cs l)) (part_copy ns (tree.Index size e)) ∙ ap (λ f. f (renamed_left cs l)) (part_term (tree.Index size (with.numbered ns e)))
        ∙ ap (λ x. term.Index (renamed_left cs l) size x) h ∙ ap (λ f. renamed_left cs (f l)) (sym (part_term (tree.Index size e)));
  }

  bit_says : (k : Kind) (e : CoreExpr) → ExprSays e → PickSays (roll-CorePick (tree.Bit k e))
  bit_says k e h = record {
    pick = ap (λ q. (term_pick q).pick) (pick_copy ns (tree.Bit k e)) ∙ ap (λ t. t.pick) (pick_term (tree.Bit k (with.numbered ns e))) ∙ ap term.OneBit h ∙ ap (λ t. renamed_pick cs t.pick) (sym (pick_term (tree.Bit k e)));
    of = ap (λ q. (term_pick q).of) (pick_copy ns (tree.Bit k e)) ∙ ap (λ t. t.of) (pick_term (tree.Bit k (with.numbered ns e))) ∙ ap (λ t. t.of) (sym (pick_term (tree.Bit k e)));
  }

  range_says : (k : Kind) (h l : ℕ) → PickSays (roll-CorePick (tree.Range k h l))
  range_says k h l = record {
    pick = ap (λ q. (term_pick q).pick) (pick_copy ns (tree.Range k h l)) ∙ ap (λ t. t.pick) (pick_term (tree.Range k h l)) ∙ ap (λ t. renamed_pick cs t.pick) (sym (pick_term (tree.Range k h l)));
    of = ap (λ q. (term_pick q).of) (pick_copy ns (tree.Range k h l));
  }

  -- ---- locations

  parts_left : (ps : List CorePart) → Each PartSays ps → (l x : Left) → x ≡ renamed_left cs l
      → to.extended x (map term_part (map (with.numbered_part ns) ps)) ≡ renamed_left cs (to.extended l (map term_part ps))
  parts_left [] h l x e = e
  parts_left (y ∷ ps) h l x e = parts_left ps h.1 (term_part y l) (term_part (with.numbered_part ns y) x) (ap (term_part (with.numbered_part ns y)) e ∙ h.0.left l)

  picks_same : (q : Option CorePick) → Some_has PickSays q → to.pick_of (option_map term_pick (option_map (with.numbered_pick ns) q)) ≡ renamed_pick cs (to.pick_of (option_map term_pick q))
  picks_same None h = refl
  picks_same (Some q) h = h.pick

  ofs_same : (q : Option CorePick) → Some_has PickSays q → option_map (λ t. t.of) (option_map term_pick (option_map (with.numbered_pick ns) q)) ≡ option_map (λ t. t.of) (option_map term_pick q)
  ofs_same None h = refl
  ofs_same (Some q) h = ap Some h.of

  left_says : (p : Place) (b : CoreBase) (ps : List CorePart) (q : Option CorePick) → BaseSays b → Each PartSays ps → Some_has PickSays q
      → LeftSays (record { place = p; base = b; parts = ps; pick = q })
  left_says p b ps q hb hp hq =
      let copy = left_copy ns p b ps q in
      let here = left_term p b ps q in
      let there = left_term p (copied_base ns b) (map (with.numbered_part ns) ps) (option_map (with.numbered_pick ns) q) in
      record {
        left = ap (λ l. (taken_of l).left) copy ∙ ap (λ t. t.left) there ∙ parts_left ps hp (term_base b p) (term_base (copied_base ns b) p) (hb.left p) ∙ ap (λ t. renamed_left cs t.left) (sym here);
        pick = ap (λ l. (taken_of l).pick) copy ∙ ap (λ t. t.pick) there ∙ picks_same q hq ∙ ap (λ t. renamed_pick cs t.pick) (sym here);
        of = ap (λ l. (taken_of l).of) copy ∙ ap (λ t. t.of) there ∙ ofs_same q hq ∙ ap (λ t. t.of) (sym here);
      }

  -- ---- expressions

  abbrev Layer : Type 0
  Layer = CoreExprNode-F CoreBase CoreExprNode CorePart CorePick CoreExpr CoreLeft

  abbrev copied_layer : Layer → CoreExprNode-F CoreBase with.Node CorePart CorePick CoreExpr CoreLeft
  copied_layer = map-CoreExprNode CoreBase CoreExprNode CorePart CorePick CoreExpr CoreLeft CoreBase with.Node CorePart CorePick CoreExpr CoreLeft (copied_base ns) (copied_node ns) (with.numbered_part ns) (with.numbered_pick ns) (with.numbered ns) (with.numbered_left ns)

  node_says : (x : Layer) → ((p : Place) (k : Kind) → term_of (with.expr_node (copied_layer x) p k) ≡ renamed cs (to.expr_node (term_layer x) p k)) → NodeSays (roll-CoreExprNode x)
  node_says x h p k = ap (λ f. term_of (f p k)) (node_copy ns x) ∙ h p k ∙ ap (λ f. renamed cs (f p k)) (sym (node_term x))

  load_says : (l : CoreLeft) → LeftSays l → (p : Place) (k : Kind) → term_of (with.expression p k (tree.Load (with.numbered_left ns l)))
      ≡ renamed cs (to.picked p k (term.Load p (unwrap_or (taken_of l).of k) (taken_of l).left) (taken_of l).pick)
  load_says l h p k =
      term_made p k (tree.Load (with.numbered_left ns l))
      ∙ picked_made p k _ _ _ _ (ap (λ o. term.Load p (unwrap_or o k) (taken_of (with.numbered_left ns l)).left) h.of ∙ ap (term.Load p (unwrap_or (taken_of l).of k)) h.left) h.pick
      ∙ sym (counting_picked cs p k (term.Load p (unwrap_or (taken_of l).of k) (taken_of l).left) (taken_of l).pick)

  read_says : (l : CoreLeft) → LeftSays l → (p : Place) (k : Kind) → term_of (with.expression p k (tree.Read (with.numbered_left ns l)))
      ≡ renamed cs (to.picked p k (term.Read p (unwrap_or (taken_of l).of k) (taken_of l).left) (taken_of l).pick)
  read_says l h p k =
      term_made p k (tree.Read (with.numbered_left ns l))
      ∙ picked_made p k _ _ _ _ (ap (λ o. term.Read p (unwrap_or o k) (taken_of (with.numbered_left ns l)).left) h.of ∙ ap (term.Read p (unwrap_or (taken_of l).of k)) h.left) h.pick
      ∙ sym (counting_picked cs p k (term.Read p (unwrap_or (taken_of l).of k) (taken_of l).left) (taken_of l).pick)

  joined_on : (p : Place) (k : Kind) (es : List CoreExpr) → Each ExprSays es → (t u : Term) → u ≡ renamed cs t
      → to.joined_behind p k u (map term_of (map (with.numbered ns) es)) ≡ renamed cs (to.joined_behind p k t (map term_of es))
  joined_on p k [] h t u e = e
  joined_on p k (x ∷ es) h t u e =
      joined_on p k es h.1 (term.Join p k t (term_of x)) (term.Join p k u (term_of (with.numbered ns x))) (ap (λ z. term.Join p k z (term_of (with.numbered ns x))) e ∙ ap (term.Join p k (renamed cs t)) h.0)

  join_says : (p : Place) (k : Kind) (es : List CoreExpr) → Each ExprSays es → to.joined p k (map term_of (map (with.numbered ns) es)) ≡ renamed cs (to.joined p k (map term_of es))
  join_says p k [] h = refl
  join_says p k (x ∷ es) h = joined_on p k es h.1 (term_of x) (term_of (with.numbered ns x)) h.0

  module _ (A B C D E F : Type 0) (vb : A → CoreBase) (vn : B → CoreExprNode) (vp : C → CorePart) (vk : D → CorePick) (ve : E → CoreExpr) (vl : F → CoreLeft)
      (hb : (a : A) → BaseSays (vb a)) (hn : (b : B) → NodeSays (vn b)) (hp : (c : C) → PartSays (vp c)) (hk : (d : D) → PickSays (vk d)) (he : (e : E) → ExprSays (ve e)) (hl : (f : F) → LeftSays (vl f)) where
    base_by : (y : CoreBase-F A B C D E F) → BaseSays (roll-CoreBase (map-CoreBase A B C D E F CoreBase CoreExprNode CorePart CorePick CoreExpr CoreLeft vb vn vp vk ve vl y))
    base_by (tree.Cell n) = cell_says n
    base_by (tree.Prefix name) = front_says name
    base_by (tree.Follow l soft) = follow_says (vl l) soft (hl l)
    base_by tree.Null = null_says

    part_by : (y : CorePart-F A B C D E F) → PartSays (roll-CorePart (map-CorePart A B C D E F CoreBase CoreExprNode CorePart CorePick CoreExpr CoreLeft vb vn vp vk ve vl y))
    part_by (tree.Member n) = member_says n
    part_by (tree.Index size e) = index_says size (ve e) (he e)

    pick_by : (y : CorePick-F A B C D E F) → PickSays (roll-CorePick (map-CorePick A B C D E F CoreBase CoreExprNode CorePart CorePick CoreExpr CoreLeft vb vn vp vk ve vl y))
    pick_by (tree.Bit k e) = bit_says k (ve e) (he e)
    pick_by (tree.Range k h l) = range_says k h l

    node_by : (y : CoreExprNode-F A B C D E F) → NodeSays (roll-CoreExprNode (map-CoreExprNode A B C D E F CoreBase CoreExprNode CorePart CorePick CoreExpr CoreLeft vb vn vp vk ve vl y))
    node_by (tree.Lit w) = node_says (tree.Lit w) (λ p k. term_made p k (tree.Lit w))
    node_by (tree.Load l) = node_says (tree.Load (vl l)) (load_says (vl l) (hl l))
    node_by (tree.Read l) = node_says (tree.Read (vl l)) (read_says (vl l) (hl l))
    node_by (tree.Convert e) = node_says (tree.Convert (ve e)) (λ p k. term_made p k (tree.Convert (with.numbered ns (ve e))) ∙ ap (term.Convert p k) (he e))
    node_by (tree.Operate o a None) = node_says (tree.Operate o (ve a) None) (λ p k. term_made p k (tree.Operate o (with.numbered ns (ve a)) None) ∙ ap (term.Unary p k o) (he a))
    node_by (tree.Operate o a (Some b)) = node_says (tree.Operate o (ve a) (Some (ve b))) (λ p k.
        term_made p k (tree.Operate o (with.numbered ns (ve a)) (Some (with.numbered ns (ve b))))
        ∙ ap (λ x. term.Binary p k o x (term_of (with.numbered ns (ve b)))) (he a) ∙ ap (term.Binary p k o (renamed cs (term_of (ve a)))) (he b))
    node_by (tree.Choose t a b) = node_says (tree.Choose (ve t) (ve a) (ve b)) (λ p k.
        term_made p k (tree.Choose (with.numbered ns (ve t)) (with.numbered ns (ve a)) (with.numbered ns (ve b)))
        ∙ ap (λ x. term.Choose p k x (term_of (with.numbered ns (ve a))) (term_of (with.numbered ns (ve b)))) (he t)
        ∙ ap (λ x. term.Choose p k (renamed cs (term_of (ve t))) x (term_of (with.numbered ns (ve b)))) (he a)
        ∙ ap (term.Choose p k (renamed cs (term_of (ve t))) (renamed cs (term_of (ve a)))) (he b))
    node_by (tree.Pick e q) = node_says (tree.Pick (ve e) (vk q)) (λ p k.
        term_made p k (tree.Pick (with.numbered ns (ve e)) (with.numbered_pick ns (vk q)))
        ∙ picked_made p k _ _ _ _ (he e) (hk q).pick
        ∙ sym (counting_picked cs p k (term_of (ve e)) (term_pick (vk q)).pick))
    node_by (tree.Join es) = node_says (tree.Join (map ve es)) (λ p k.
        term_made p k (tree.Join (map (with.numbered ns) (map ve es))) ∙ join_says p k (map ve es) (each_value ExprSays ve he es))

    expr_by : (y : CoreExpr-F A B C D E F) → ExprSays (record { place = y.place; kind = y.kind; node = vn y.node })
    expr_by y = ap term_of (expr_copy ns y.place y.kind (vn y.node)) ∙ hn y.node y.place y.kind ∙ ap (renamed cs) (sym (expr_term y.place y.kind (vn y.node)))

    left_of : (p : Place) (b : A) (ps : List C) (q : Option D)
        → LeftSays (roll-CoreLeft (map-CoreLeft A B C D E F CoreBase CoreExprNode CorePart CorePick CoreExpr CoreLeft vb vn vp vk ve vl (record { place = p; base = b; parts = ps; pick = q })))
    left_of p b ps None = left_says p (vb b) (map vp ps) None (hb b) (each_value PartSays vp hp ps) tt
    left_of p b ps (Some q) = left_says p (vb b) (map vp ps) (Some (vk q)) (hb b) (each_value PartSays vp hp ps) (hk q)

    left_by : (y : CoreLeft-F A B C D E F) → LeftSays (roll-CoreLeft (map-CoreLeft A B C D E F CoreBase CoreExprNode CorePart CorePick CoreExpr CoreLeft vb vn vp vk ve vl y))
    left_by y = left_of y.place y.base y.parts y.pick

  pub copy_says : (e : CoreExpr) → ExprSays e
  copy_says = ind-CoreExpr BaseSays NodeSays PartSays PickSays ExprSays LeftSays
      (λ x y is. subst (λ z. BaseSays (roll-CoreBase z)) is (base_by _ _ _ _ _ _ (λ a. a.0) (λ a. a.0) (λ a. a.0) (λ a. a.0) (λ a. a.0) (λ a. a.0) (λ a. a.1) (λ a. a.1) (λ a. a.1) (λ a. a.1) (λ a. a.1) (λ a. a.1) y))
      (λ x y is. subst (λ z. NodeSays (roll-CoreExprNode z)) is (node_by _ _ _ _ _ _ (λ a. a.0) (λ a. a.0) (λ a. a.0) (λ a. a.0) (λ a. a.0) (λ a. a.0) (λ a. a.1) (λ a. a.1) (λ a. a.1) (λ a. a.1) (λ a. a.1) (λ a. a.1) y))
      (λ x y is. subst (λ z. PartSays (roll-CorePart z)) is (part_by _ _ _ _ _ _ (λ a. a.0) (λ a. a.0) (λ a. a.0) (λ a. a.0) (λ a. a.0) (λ a. a.0) (λ a. a.1) (λ a. a.1) (λ a. a.1) (λ a. a.1) (λ a. a.1) (λ a. a.1) y))
      (λ x y is. subst (λ z. PickSays (roll-CorePick z)) is (pick_by _ _ _ _ _ _ (λ a. a.0) (λ a. a.0) (λ a. a.0) (λ a. a.0) (λ a. a.0) (λ a. a.0) (λ a. a.1) (λ a. a.1) (λ a. a.1) (λ a. a.1) (λ a. a.1) (λ a. a.1) y))
      (λ x y is. subst (λ z. ExprSays (record { place = z.place; kind = z.kind; node = z.node })) is (expr_by _ _ _ _ _ _ (λ a. a.0) (λ a. a.0) (λ a. a.0) (λ a. a.0) (λ a. a.0) (λ a. a.0) (λ a. a.1) (λ a. a.1) (λ a. a.1) (λ a. a.1) (λ a. a.1) (λ a. a.1) y))
      (λ x y is. subst (λ z. LeftSays (roll-CoreLeft z)) is (left_by _ _ _ _ _ _ (λ a. a.0) (λ a. a.0) (λ a. a.0) (λ a. a.0) (λ a. a.0) (λ a. a.0) (λ a. a.1) (λ a. a.1) (λ a. a.1) (λ a. a.1) (λ a. a.1) (λ a. a.1) y))

  pub left_copy_says : (l : CoreLeft) → LeftSays l
  left_copy_says = ind-CoreLeft BaseSays NodeSays PartSays PickSays ExprSays LeftSays
      (λ x y is. subst (λ z. BaseSays (roll-CoreBase z)) is (base_by _ _ _ _ _ _ (λ a. a.0) (λ a. a.0) (λ a. a.0) (λ a. a.0) (λ a. a.0) (λ a. a.0) (λ a. a.1) (λ a. a.1) (λ a. a.1) (λ a. a.1) (λ a. a.1) (λ a. a.1) y))
      (λ x y is. subst (λ z. NodeSays (roll-CoreExprNode z)) is (node_by _ _ _ _ _ _ (λ a. a.0) (λ a. a.0) (λ a. a.0) (λ a. a.0) (λ a. a.0) (λ a. a.0) (λ a. a.1) (λ a. a.1) (λ a. a.1) (λ a. a.1) (λ a. a.1) (λ a. a.1) y))
      (λ x y is. subst (λ z. PartSays (roll-CorePart z)) is (part_by _ _ _ _ _ _ (λ a. a.0) (λ a. a.0) (λ a. a.0) (λ a. a.0) (λ a. a.0) (λ a. a.0) (λ a. a.1) (λ a. a.1) (λ a. a.1) (λ a. a.1) (λ a. a.1) (λ a. a.1) y))
      (λ x y is. subst (λ z. PickSays (roll-CorePick z)) is (pick_by _ _ _ _ _ _ (λ a. a.0) (λ a. a.0) (λ a. a.0) (λ a. a.0) (λ a. a.0) (λ a. a.0) (λ a. a.1) (λ a. a.1) (λ a. a.1) (λ a. a.1) (λ a. a.1) (λ a. a.1) y))
      (λ x y is. subst (λ z. ExprSays (record { place = z.place; kind = z.kind; node = z.node })) is (expr_by _ _ _ _ _ _ (λ a. a.0) (λ a. a.0) (λ a. a.0) (λ a. a.0) (λ a. a.0) (λ a. a.0) (λ a. a.1) (λ a. a.1) (λ a. a.1) (λ a. a.1) (λ a. a.1) (λ a. a.1) y))
      (λ x y is. subst (λ z. LeftSays (roll-CoreLeft z)) is (left_by _ _ _ _ _ _ (λ a. a.0) (λ a. a.0) (λ a. a.0) (λ a. a.0) (λ a. a.0) (λ a. a.0) (λ a. a.1) (λ a. a.1) (λ a. a.1) (λ a. a.1) (λ a. a.1) (λ a. a.1) y))
