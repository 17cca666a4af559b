-- What a copy with counters as literals stands for is what the tree stands for, with the same.
use Rattle.std.proofs.Common.{◌≡◌, refl, sym, ap, subst, ◌∙◌, ℕ, Bool, true, false, nat_eq, List, [], ◌∷◌, map, Option, Some, None, option_map, unwrap_or}
use Rattle.std.specs.Prelude.{find, if◌then◌else◌}
use Rattle.scc_base.specs.declared.refusal.Place.{Place}
use Rattle.scc_base.specs.declared.names.Name.{Name}
use Rattle.scc_bits_kinds.specs.declared.kind.Kind.{Kind}
use Rattle.scc_bits.specs.Value.{Number}
use Rattle.scc_core.specs.declared.copy.Counter.{Counter as Held}
use Rattle.scc_core.specs.declared.expr.CoreExpr.{CoreExpr, fold-roll-CoreExpr, ind-CoreExpr}
use Rattle.scc_core.specs.declared.expr.CoreExprNode.{CoreExprNode, roll-CoreExprNode, map-CoreExprNode, fold-CoreExprNode, fold-roll-CoreExprNode}
use Rattle.scc_core.specs.declared.expr.CoreLeft.{CoreLeft, roll-CoreLeft, map-CoreLeft, fold-roll-CoreLeft, ind-CoreLeft}
use Rattle.scc_core.specs.declared.expr.CoreBase.{CoreBase, roll-CoreBase, out-CoreBase, fold-CoreBase, map-CoreBase, fold-roll-CoreBase}
use Rattle.scc_core.specs.declared.expr.CorePart.{CorePart, roll-CorePart, map-CorePart, fold-roll-CorePart}
use Rattle.scc_core.specs.declared.expr.CorePick.{CorePick, roll-CorePick, out-CorePick, map-CorePick, fold-roll-CorePick}
use Rattle.scc_core.specs.declared.expr.CoreBase.TheOpen.{CoreBase-F, CoreExprNode-F, CorePart-F, CorePick-F, CoreExpr-F, CoreLeft-F}
use Rattle.scc_core.specs.declared.expr.CoreBase.TheOpen as tree
use Rattle.scc_core.specs.declared.program.CellName.{CellName}
use Rattle.scc_core.specs.Counters as with
use Rattle.scc_core_view.specs.Terms.{term_of, taken_of}
use Rattle.scc_core_view.specs.Terms as to
use Rattle.scc_unroll_laws.proofs.Trees.{term_node, term_base, term_part, term_pick, term_layer, term_made}
use Rattle.scc_core_spec.specs.Term.{Term, Left, Pick}
use Rattle.scc_core_spec.specs.Term as term
use Rattle.scc_core_spec.specs.Counted.{Counter, counter_at, loaded_as, counting, counting_left, counting_pick}
use Rattle.scc_unroll_laws.specs.Counters.{counter_of, counters_of}

abbrev Each : {A : Type 0} → (A → Type 0) → List A → Type 0
Each P [] = Unit {0}
Each P (x ∷ xs) = P x × Each P xs

each_value : {A B : Type 0} (P : A → Type 0) (value : B → A) → ((b : B) → P (value b)) → (bs : List B) → Each P (map value bs)
each_value P value holds [] = tt
each_value P value holds (b ∷ bs) = (holds b, each_value P value holds bs)

abbrev Some_has : {A : Type 0} → (A → Type 0) → Option A → Type 0
Some_has P None = Unit {0}
Some_has P (Some x) = P x

found_word : (ns : List Held) (n : ℕ) → option_map (λ c. c.word) (find (λ c. nat_eq n c.cell) (counters_of ns)) ≡ option_map (λ v. v.word) (with.number_of ns n)
found_word [] n = refl
found_word (c ∷ ns) n = by (nat_eq n c.cell) (found_word ns n)
  where
    by : (b : Bool) → option_map (λ c. c.word) (find (λ c. nat_eq n c.cell) (counters_of ns)) ≡ option_map (λ v. v.word) (with.number_of ns n)
        → option_map (λ c. c.word) (if b then Some (counter_of c) else find (λ c. nat_eq n c.cell) (counters_of ns))
        ≡ option_map (λ v. v.word) (option_map (λ c. c.now) (if b then Some c else find (λ c. nat_eq n c.cell) ns))
    by true h = refl
    by false h = h

module _ (ns : List Held) where
  abbrev ws : List Counter
  ws = counters_of ns

  -- copies, node by node
  abbrev copied_base : CoreBase → CoreBase
  copied_base = fold-CoreBase CoreBase with.Node CorePart CorePick CoreExpr CoreLeft with.base_node (with.expr_node ns) with.part_node with.pick_node with.expr_step with.left_step

  abbrev copied_node : CoreExprNode → with.Node
  copied_node = fold-CoreExprNode CoreBase with.Node CorePart CorePick CoreExpr CoreLeft with.base_node (with.expr_node ns) with.part_node with.pick_node with.expr_step with.left_step

  base_copy : (x : CoreBase-F CoreBase CoreExprNode CorePart CorePick CoreExpr CoreLeft)
      → copied_base (roll-CoreBase x)
      ≡ with.base_node (map-CoreBase CoreBase CoreExprNode CorePart CorePick CoreExpr CoreLeft CoreBase with.Node CorePart CorePick CoreExpr CoreLeft copied_base copied_node (with.counted_part ns) (with.counted_pick ns) (with.counted ns) (with.counted_left ns) x)
  base_copy x = fold-roll-CoreBase CoreBase with.Node CorePart CorePick CoreExpr CoreLeft with.base_node (with.expr_node ns) with.part_node with.pick_node with.expr_step with.left_step x

  node_copy : (x : CoreExprNode-F CoreBase CoreExprNode CorePart CorePick CoreExpr CoreLeft)
      → copied_node (roll-CoreExprNode x)
      ≡ with.expr_node ns (map-CoreExprNode CoreBase CoreExprNode CorePart CorePick CoreExpr CoreLeft CoreBase with.Node CorePart CorePick CoreExpr CoreLeft copied_base copied_node (with.counted_part ns) (with.counted_pick ns) (with.counted ns) (with.counted_left ns) x)
  node_copy x = fold-roll-CoreExprNode CoreBase with.Node CorePart CorePick CoreExpr CoreLeft with.base_node (with.expr_node ns) with.part_node with.pick_node with.expr_step with.left_step x

  part_copy : (x : CorePart-F CoreBase CoreExprNode CorePart CorePick CoreExpr CoreLeft)
      → with.counted_part ns (roll-CorePart x)
      ≡ with.part_node (map-CorePart CoreBase CoreExprNode CorePart CorePick CoreExpr CoreLeft CoreBase with.Node CorePart CorePick CoreExpr CoreLeft copied_base copied_node (with.counted_part ns) (with.counted_pick ns) (with.counted ns) (with.counted_left ns) x)
  part_copy x = fold-roll-CorePart CoreBase with.Node CorePart CorePick CoreExpr CoreLeft with.base_node (with.expr_node ns) with.part_node with.pick_node with.expr_step with.left_step x

  pick_copy : (x : CorePick-F CoreBase CoreExprNode CorePart CorePick CoreExpr CoreLeft)
      → with.counted_pick ns (roll-CorePick x)
      ≡ with.pick_node (map-CorePick CoreBase CoreExprNode CorePart CorePick CoreExpr CoreLeft CoreBase with.Node CorePart CorePick CoreExpr CoreLeft copied_base copied_node (with.counted_part ns) (with.counted_pick ns) (with.counted ns) (with.counted_left ns) x)
  pick_copy x = fold-roll-CorePick CoreBase with.Node CorePart CorePick CoreExpr CoreLeft with.base_node (with.expr_node ns) with.part_node with.pick_node with.expr_step with.left_step x

  left_copy : (p : Place) (b : CoreBase) (ps : List CorePart) (q : Option CorePick)
      → with.counted_left ns (record { place = p; base = b; parts = ps; pick = q })
      ≡ record { place = p; base = copied_base b; parts = map (with.counted_part ns) ps; pick = option_map (with.counted_pick ns) q }
  left_copy p b ps None = fold-roll-CoreLeft CoreBase with.Node CorePart CorePick CoreExpr CoreLeft with.base_node (with.expr_node ns) with.part_node with.pick_node with.expr_step with.left_step (record { place = p; base = b; parts = ps; pick = None })
  left_copy p b ps (Some q) = fold-roll-CoreLeft CoreBase with.Node CorePart CorePick CoreExpr CoreLeft with.base_node (with.expr_node ns) with.part_node with.pick_node with.expr_step with.left_step (record { place = p; base = b; parts = ps; pick = Some q })

  expr_copy : (p : Place) (k : Kind) (n : CoreExprNode) → with.counted ns (record { place = p; kind = k; node = n }) ≡ copied_node n p k
  expr_copy p k n = fold-roll-CoreExpr CoreBase with.Node CorePart CorePick CoreExpr CoreLeft with.base_node (with.expr_node ns) with.part_node with.pick_node with.expr_step with.left_step (record { place = p; kind = k; node = n })

-- terms, node by node
base_term : (x : CoreBase-F CoreBase CoreExprNode CorePart CorePick CoreExpr CoreLeft)
    → term_base (roll-CoreBase x)
    ≡ to.base_node (map-CoreBase CoreBase CoreExprNode CorePart CorePick CoreExpr CoreLeft to.Base to.Node (Left → Left) to.Picking Term to.Taken term_base term_node term_part term_pick term_of taken_of x)
base_term x = fold-roll-CoreBase to.Base to.Node (Left → Left) to.Picking Term to.Taken to.base_node to.expr_node to.part_node to.pick_node to.expr_step to.left_step x

node_term : (x : CoreExprNode-F CoreBase CoreExprNode CorePart CorePick CoreExpr CoreLeft) → term_node (roll-CoreExprNode x) ≡ to.expr_node (term_layer x)
node_term x = fold-roll-CoreExprNode to.Base to.Node (Left → Left) to.Picking Term to.Taken to.base_node to.expr_node to.part_node to.pick_node to.expr_step to.left_step x

part_term : (x : CorePart-F CoreBase CoreExprNode CorePart CorePick CoreExpr CoreLeft)
    → term_part (roll-CorePart x)
    ≡ to.part_node (map-CorePart CoreBase CoreExprNode CorePart CorePick CoreExpr CoreLeft to.Base to.Node (Left → Left) to.Picking Term to.Taken term_base term_node term_part term_pick term_of taken_of x)
part_term x = fold-roll-CorePart to.Base to.Node (Left → Left) to.Picking Term to.Taken to.base_node to.expr_node to.part_node to.pick_node to.expr_step to.left_step x

pick_term : (x : CorePick-F CoreBase CoreExprNode CorePart CorePick CoreExpr CoreLeft)
    → term_pick (roll-CorePick x)
    ≡ to.pick_node (map-CorePick CoreBase CoreExprNode CorePart CorePick CoreExpr CoreLeft to.Base to.Node (Left → Left) to.Picking Term to.Taken term_base term_node term_part term_pick term_of taken_of x)
pick_term x = fold-roll-CorePick to.Base to.Node (Left → Left) to.Picking Term to.Taken to.base_node to.expr_node to.part_node to.pick_node to.expr_step to.left_step x

left_term : (p : Place) (b : CoreBase) (ps : List CorePart) (q : Option CorePick)
    → taken_of (record { place = p; base = b; parts = ps; pick = q })
    ≡ record { left = to.extended (term_base b p) (map term_part ps); pick = to.pick_of (option_map term_pick q); of = option_map (λ t. t.of) (option_map term_pick q) }
left_term p b ps None = fold-roll-CoreLeft to.Base to.Node (Left → Left) to.Picking Term to.Taken to.base_node to.expr_node to.part_node to.pick_node to.expr_step to.left_step (record { place = p; base = b; parts = ps; pick = None })
left_term p b ps (Some q) = fold-roll-CoreLeft to.Base to.Node (Left → Left) to.Picking Term to.Taken to.base_node to.expr_node to.part_node to.pick_node to.expr_step to.left_step (record { place = p; base = b; parts = ps; pick = Some q })

expr_term : (p : Place) (k : Kind) (n : CoreExprNode) → term_of (record { place = p; kind = k; node = n }) ≡ term_node n p k
expr_term p k n = fold-roll-CoreExpr to.Base to.Node (Left → Left) to.Picking Term to.Taken to.base_node to.expr_node to.part_node to.pick_node to.expr_step to.left_step (record { place = p; kind = k; node = n })

picked_made : (p : Place) (k : Kind) (e : Term) (t : Pick) (u : Term) (r : Pick) → e ≡ u → t ≡ r → to.picked p k e t ≡ to.picked p k u r
picked_made p k e t u r h i = ap (λ x. to.picked p k x t) h ∙ ap (to.picked p k u) i

literal_made : (p : Place) (k : Kind) (w : ℕ) → term_of (with.expression p k (tree.Lit (record { bits = w }))) ≡ term.Literal p k w
literal_made p k w = term_made p k (tree.Lit (record { bits = w }))

-- a literal, or bits of one
literal_term : (p : Place) (k : Kind) (w : ℕ) (o : Option CorePick)
    → term_of (with.literal p k w o) ≡ to.picked p k (term.Literal p (unwrap_or (option_map with.kind_of o) k) w) (to.pick_of (option_map term_pick o))
literal_term p k w None = literal_made p k w
literal_term p k w (Some q) =
    term_made p k (tree.Pick (with.expression p (with.kind_of q) (tree.Lit (record { bits = w }))) q)
    ∙ ap (λ e. to.picked p k e (term_pick q).pick) (literal_made p (with.kind_of q) w)

whole_cell : (ns : List Held) (n : ℕ) → with.whole_number ns (out-CoreBase (roll-CoreBase (tree.Cell n))) [] ≡ with.number_of ns n
unfolding out-CoreBase denote.Hole.Carrier.out roll-CoreBase denote.Hole.Carrier.roll
whole_cell ns n = refl

whole_front : (ns : List Held) (name : CellName) → with.whole_number ns (out-CoreBase (roll-CoreBase (tree.Prefix name))) [] ≡ None
unfolding out-CoreBase denote.Hole.Carrier.out roll-CoreBase denote.Hole.Carrier.roll
whole_front ns name = refl

whole_follow : (ns : List Held) (l : CoreLeft) (soft : Bool) → with.whole_number ns (out-CoreBase (roll-CoreBase (tree.Follow l soft))) [] ≡ None
unfolding out-CoreBase denote.Hole.Carrier.out roll-CoreBase denote.Hole.Carrier.roll
whole_follow ns l soft = refl

whole_null : (ns : List Held) → with.whole_number ns (out-CoreBase (roll-CoreBase tree.Null)) [] ≡ None
unfolding out-CoreBase denote.Hole.Carrier.out roll-CoreBase denote.Hole.Carrier.roll
whole_null ns = refl

bit_kind : (k : Kind) (e : CoreExpr) → with.kind_of (roll-CorePick (tree.Bit k e)) ≡ k
unfolding out-CorePick denote.Hole.Carrier.out roll-CorePick denote.Hole.Carrier.roll
bit_kind k e = refl

range_kind : (k : Kind) (h l : ℕ) → with.kind_of (roll-CorePick (tree.Range k h l)) ≡ k
unfolding out-CorePick denote.Hole.Carrier.out roll-CorePick denote.Hole.Carrier.roll
range_kind k h l = refl

no_more : (ns : List Held) (b : CoreBase-F CoreBase CoreExprNode CorePart CorePick CoreExpr CoreLeft) (x : CorePart) (xs : List CorePart) → with.whole_number ns b (x ∷ xs) ≡ None
no_more ns (tree.Cell n) x xs = refl
no_more ns (tree.Prefix name) x xs = refl
no_more ns (tree.Follow l soft) x xs = refl
no_more ns tree.Null x xs = refl

counting_picked : (cs : List Counter) (p : Place) (k : Kind) (e : Term) (t : Pick) → counting cs (to.picked p k e t) ≡ to.picked p k (counting cs e) (counting_pick cs t)
counting_picked cs p k e term.Whole = refl
counting_picked cs p k e (term.OneBit i) = refl
counting_picked cs p k e (term.Bits h l) = refl

module _ (ns : List Held) where
  abbrev cs : List Counter
  cs = counters_of ns

  abbrev word_at : Left → Option ℕ
  word_at l = option_map (λ c. c.word) (counter_at cs l)

  abbrev word_of : Option Number → Option ℕ
  word_of o = option_map (λ v. v.word) o

  record BaseSays (b : CoreBase) : Type 0 where
    left : (p : Place) → term_base (copied_base ns b) p ≡ counting_left cs (term_base b p)
    at : (p : Place) → word_at (term_base b p) ≡ word_of (with.whole_number ns (out-CoreBase (copied_base ns b)) [])

  abbrev NodeSays : CoreExprNode → Type 0
  NodeSays n = (p : Place) (k : Kind) → term_of (copied_node ns n p k) ≡ counting cs (term_node n p k)

  record PartSays (x : CorePart) : Type 0 where
    left : (l : Left) → term_part (with.counted_part ns x) (counting_left cs l) ≡ counting_left cs (term_part x l)
    at : (l : Left) → counter_at cs (term_part x l) ≡ None

  record PickSays (q : CorePick) : Type 0 where
    pick : (term_pick (with.counted_pick ns q)).pick ≡ counting_pick cs (term_pick q).pick
    of : (term_pick (with.counted_pick ns q)).of ≡ (term_pick q).of
    kind : with.kind_of (with.counted_pick ns q) ≡ (term_pick q).of

  abbrev pub ExprSays : CoreExpr → Type 0
  ExprSays e = term_of (with.counted ns e) ≡ counting cs (term_of e)

  pub record LeftSays (l : CoreLeft) : Type 0 where
    pub left : (taken_of (with.counted_left ns l)).left ≡ counting_left cs (taken_of l).left
    pub pick : (taken_of (with.counted_left ns l)).pick ≡ counting_pick cs (taken_of l).pick
    pub of : (taken_of (with.counted_left ns l)).of ≡ (taken_of l).of
    pub at : word_at (taken_of l).left ≡ word_of (with.number_at ns (with.counted_left ns l))
    pub kinds : option_map with.kind_of (with.counted_left ns l).pick ≡ (taken_of l).of
    pub picks : to.pick_of (option_map term_pick (with.counted_left ns l).pick) ≡ counting_pick cs (taken_of l).pick

  -- ---- bases

  cell_says : (n : ℕ) → BaseSays (roll-CoreBase (tree.Cell n))
  cell_says n = record {
    left = λ p. ap (λ b. term_base b p) (base_copy ns (tree.Cell n)) ∙ ap (λ f. f p) (base_term (tree.Cell n)) ∙ ap (λ f. counting_left cs (f p)) (sym (base_term (tree.Cell n)));
    at = λ p. ap (λ f. word_at (f p)) (base_term (tree.Cell n)) ∙ found_word ns n ∙ ap word_of (sym (whole_cell ns n)) ∙ ap (λ b. word_of (with.whole_number ns (out-CoreBase b) [])) (sym (base_copy ns (tree.Cell n)));
  }

  front_says : (name : CellName) → BaseSays (roll-CoreBase (tree.Prefix name))
  front_says name = record {
    left = λ p. ap (λ b. term_base b p) (base_copy ns (tree.Prefix name)) ∙ ap (λ f. f p) (base_term (tree.Prefix name)) ∙ ap (λ f. counting_left cs (f p)) (sym (base_term (tree.Prefix name)));
    at = λ p. ap (λ f. word_at (f p)) (base_term (tree.Prefix name)) ∙ ap word_of (sym (whole_front ns name)) ∙ ap (λ b. word_of (with.whole_number ns (out-CoreBase b) [])) (sym (base_copy ns (tree.Prefix name)));
  }

  null_says : BaseSays (roll-CoreBase tree.Null)
  null_says = record {
    left = λ p. ap (λ b. term_base b p) (base_copy ns tree.Null) ∙ ap (λ f. f p) (base_term tree.Null) ∙ ap (λ f. counting_left cs (f p)) (sym (base_term tree.Null));
    at = λ p. ap (λ f. word_at (f p)) (base_term tree.Null) ∙ ap word_of (sym (whole_null ns)) ∙ ap (λ b. word_of (with.whole_number ns (out-CoreBase b) [])) (sym (base_copy ns tree.Null));
  }

  follow_says : (l : CoreLeft) (soft : Bool) → LeftSays l → BaseSays (roll-CoreBase (tree.Follow l soft))
  follow_says l soft h = record {
    left = λ p. ap (λ b. term_base b p) (base_copy ns (tree.Follow l soft)) ∙ ap (λ f. f p) (base_term (tree.Follow (with.counted_left ns l) soft))
        ∙ ap (λ x. term.Follow p soft x) h.left ∙ ap (λ f. counting_left cs (f p)) (sym (base_term (tree.Follow l soft)));
    at = λ p. ap (λ f. word_at (f p)) (base_term (tree.Follow l soft)) ∙ ap word_of (sym (whole_follow ns (with.counted_left ns l) soft)) ∙ ap (λ b. word_of (with.whole_number ns (out-CoreBase b) [])) (sym (base_copy ns (tree.Follow l soft)));
  }

  -- ---- parts and picks

  member_says : (n : Name) → PartSays (roll-CorePart (tree.Member n))
  member_says n = record {
    left = λ l. ap (λ x. term_part x (counting_left cs l)) (part_copy ns (tree.Member n)) ∙ ap (λ f. f (counting_left cs l)) (part_term (tree.Member n)) ∙ ap (λ f. counting_left cs (f l)) (sym (part_term (tree.Member n)));
    at = λ l. ap (λ f. counter_at cs (f l)) (part_term (tree.Member n));
  }

  index_says : (size : ℕ) (e : CoreExpr) → ExprSays e → PartSays (roll-CorePart (tree.Index size e))
  index_says size e h = record {
    left = λ l. ap (λ x. term_part x (counting_left cs l)) (part_copy ns (tree.Index size e)) ∙ ap (λ f. f (counting_left cs l)) (part_term (tree.Index size (with.counted ns e)))
        ∙ ap (λ x. term.Index (counting_left cs l) size x) h ∙ ap (λ f. counting_left cs (f l)) (sym (part_term (tree.Index size e)));
    at = λ l. ap (λ f. counter_at cs (f l)) (part_term (tree.Index size e));
  }

  bit_says : (k : Kind) (e : CoreExpr) → ExprSays e → PickSays (roll-CorePick (tree.Bit k e))
  bit_says k e h = record {
    pick = ap (λ q. (term_pick q).pick) (pick_copy ns (tree.Bit k e)) ∙ ap (λ t. t.pick) (pick_term (tree.Bit k (with.counted ns e))) ∙ ap term.OneBit h ∙ ap (λ t. counting_pick cs t.pick) (sym (pick_term (tree.Bit k e)));
    of = ap (λ q. (term_pick q).of) (pick_copy ns (tree.Bit k e)) ∙ ap (λ t. t.of) (pick_term (tree.Bit k (with.counted ns e))) ∙ ap (λ t. t.of) (sym (pick_term (tree.Bit k e)));
    kind = ap with.kind_of (pick_copy ns (tree.Bit k e)) ∙ bit_kind k (with.counted ns e) ∙ ap (λ t. t.of) (sym (pick_term (tree.Bit k e)));
  }

  range_says : (k : Kind) (h l : ℕ) → PickSays (roll-CorePick (tree.Range k h l))
  range_says k h l = record {
    pick = ap (λ q. (term_pick q).pick) (pick_copy ns (tree.Range k h l)) ∙ ap (λ t. t.pick) (pick_term (tree.Range k h l)) ∙ ap (λ t. counting_pick cs t.pick) (sym (pick_term (tree.Range k h l)));
    of = ap (λ q. (term_pick q).of) (pick_copy ns (tree.Range k h l));
    kind = ap with.kind_of (pick_copy ns (tree.Range k h l)) ∙ range_kind k h l ∙ ap (λ t. t.of) (sym (pick_term (tree.Range k h l)));
  }

  -- ---- locations

  parts_left : (ps : List CorePart) → Each PartSays ps → (l x : Left) → x ≡ counting_left cs l
      → to.extended x (map term_part (map (with.counted_part ns) ps)) ≡ counting_left cs (to.extended l (map term_part ps))
  parts_left [] h l x e = e
  parts_left (y ∷ ps) h l x e = parts_left ps h.1 (term_part y l) (term_part (with.counted_part ns y) x) (ap (term_part (with.counted_part ns y)) e ∙ h.0.left l)

  parts_none : (ps : List CorePart) → Each PartSays ps → (l : Left) → counter_at cs l ≡ None → counter_at cs (to.extended l (map term_part ps)) ≡ None
  parts_none [] h l e = e
  parts_none (y ∷ ps) h l e = parts_none ps h.1 (term_part y l) (h.0.at l)

  parts_at : (b : CoreBase) → BaseSays b → (p : Place) (ps : List CorePart) → Each PartSays ps
      → word_at (to.extended (term_base b p) (map term_part ps)) ≡ word_of (with.whole_number ns (out-CoreBase (copied_base ns b)) (map (with.counted_part ns) ps))
  parts_at b h p [] i = h.at p
  parts_at b h p (y ∷ ps) i =
      ap (option_map (λ c. c.word)) (parts_none ps i.1 (term_part y (term_base b p)) (i.0.at (term_base b p)))
      ∙ ap word_of (sym (no_more ns (out-CoreBase (copied_base ns b)) (with.counted_part ns y) (map (with.counted_part ns) ps)))

  picks_same : (q : Option CorePick) → Some_has PickSays q → to.pick_of (option_map term_pick (option_map (with.counted_pick ns) q)) ≡ counting_pick cs (to.pick_of (option_map term_pick q))
  picks_same None h = refl
  picks_same (Some q) h = h.pick

  ofs_same : (q : Option CorePick) → Some_has PickSays q → option_map (λ t. t.of) (option_map term_pick (option_map (with.counted_pick ns) q)) ≡ option_map (λ t. t.of) (option_map term_pick q)
  ofs_same None h = refl
  ofs_same (Some q) h = ap Some h.of

  kinds_same : (q : Option CorePick) → Some_has PickSays q → option_map with.kind_of (option_map (with.counted_pick ns) q) ≡ option_map (λ t. t.of) (option_map term_pick q)
  kinds_same None h = refl
  kinds_same (Some q) h = ap Some h.kind

  left_says : (p : Place) (b : CoreBase) (ps : List CorePart) (q : Option CorePick) → BaseSays b → Each PartSays ps → Some_has PickSays q
      → LeftSays (record { place = p; base = b; parts = ps; pick = q })
  left_says p b ps q hb hp hq =
      let copy = left_copy ns p b ps q in
      let here = left_term p b ps q in
      let there = left_term p (copied_base ns b) (map (with.counted_part ns) ps) (option_map (with.counted_pick ns) q) in
      record {
        left = ap (λ l. (taken_of l).left) copy ∙ ap (λ t. t.left) there ∙ parts_left ps hp (term_base b p) (term_base (copied_base ns b) p) (hb.left p) ∙ ap (λ t. counting_left cs t.left) (sym here);
        pick = ap (λ l. (taken_of l).pick) copy ∙ ap (λ t. t.pick) there ∙ picks_same q hq ∙ ap (λ t. counting_pick cs t.pick) (sym here);
        of = ap (λ l. (taken_of l).of) copy ∙ ap (λ t. t.of) there ∙ ofs_same q hq ∙ ap (λ t. t.of) (sym here);
        at = ap (λ t. word_at t.left) here ∙ parts_at b hb p ps hp ∙ ap (λ l. word_of (with.number_at ns l)) (sym copy);
        kinds = ap (λ l. option_map with.kind_of l.pick) copy ∙ kinds_same q hq ∙ ap (λ t. t.of) (sym here);
        picks = ap (λ l. to.pick_of (option_map term_pick l.pick)) copy ∙ picks_same q hq ∙ ap (λ t. counting_pick cs t.pick) (sym here);
      }

  -- ---- expressions

  abbrev Layer : Type 0
  Layer = CoreExprNode-F CoreBase CoreExprNode CorePart CorePick CoreExpr CoreLeft

  abbrev copied_layer : Layer → CoreExprNode-F CoreBase with.Node CorePart CorePick CoreExpr CoreLeft
  copied_layer = map-CoreExprNode CoreBase CoreExprNode CorePart CorePick CoreExpr CoreLeft CoreBase with.Node CorePart CorePick CoreExpr CoreLeft (copied_base ns) (copied_node ns) (with.counted_part ns) (with.counted_pick ns) (with.counted ns) (with.counted_left ns)

  node_says : (x : Layer) → ((p : Place) (k : Kind) → term_of (with.expr_node ns (copied_layer x) p k) ≡ counting cs (to.expr_node (term_layer x) p k)) → NodeSays (roll-CoreExprNode x)
  node_says x h p k = ap (λ f. term_of (f p k)) (node_copy ns x) ∙ h p k ∙ ap (λ f. counting cs (f p k)) (sym (node_term x))

  abbrev as_word : Place → Kind → Left → Option Number → Term
  as_word p k l None = term.Load p k l
  as_word p k l (Some n) = term.Literal p k n.word

  loaded_word : (p : Place) (k : Kind) (l : Left) (o : Option Counter) (v : Option Number) → option_map (λ c. c.word) o ≡ word_of v → loaded_as o p k l ≡ as_word p k l v
  loaded_word p k l None None e = refl
  loaded_word p k l (Some c) None e = cc e
  loaded_word p k l None (Some v) e = cc e
  loaded_word p k l (Some c) (Some v) e = let q : c.word ≡ v.word = cc e in ap (term.Literal p k) q

  load_says : (l : CoreLeft) → LeftSays l → (p : Place) (k : Kind) → term_of (with.load_or p k (with.counted_left ns l) (with.number_at ns (with.counted_left ns l)))
      ≡ counting cs (to.picked p k (term.Load p (unwrap_or (taken_of l).of k) (taken_of l).left) (taken_of l).pick)
  load_says l h p k =
      by (with.number_at ns (with.counted_left ns l))
      ∙ ap (λ e. to.picked p k e (counting_pick cs (taken_of l).pick)) (sym (loaded_word p (unwrap_or (taken_of l).of k) (counting_left cs (taken_of l).left) (counter_at cs (taken_of l).left) (with.number_at ns (with.counted_left ns l)) h.at))
      ∙ sym (counting_picked cs p k (term.Load p (unwrap_or (taken_of l).of k) (taken_of l).left) (taken_of l).pick)
    where
      by : (v : Option Number) → term_of (with.load_or p k (with.counted_left ns l) v) ≡ to.picked p k (as_word p (unwrap_or (taken_of l).of k) (counting_left cs (taken_of l).left) v) (counting_pick cs (taken_of l).pick)
      by None =
          term_made p k (tree.Load (with.counted_left ns l))
          ∙ picked_made p k _ _ _ _ (ap (λ o. term.Load p (unwrap_or o k) (taken_of (with.counted_left ns l)).left) h.of ∙ ap (term.Load p (unwrap_or (taken_of l).of k)) h.left) h.pick
      by (Some v) =
          literal_term p k v.word (with.counted_left ns l).pick
          ∙ picked_made p k _ _ _ _ (ap (λ o. term.Literal p (unwrap_or o k) v.word) h.kinds) h.picks

  read_says : (l : CoreLeft) → LeftSays l → (p : Place) (k : Kind) → term_of (with.expression p k (tree.Read (with.counted_left ns l)))
      ≡ counting cs (to.picked p k (term.Read p (unwrap_or (taken_of l).of k) (taken_of l).left) (taken_of l).pick)
  read_says l h p k =
      term_made p k (tree.Read (with.counted_left ns l))
      ∙ picked_made p k _ _ _ _ (ap (λ o. term.Read p (unwrap_or o k) (taken_of (with.counted_left ns l)).left) h.of ∙ ap (term.Read p (unwrap_or (taken_of l).of k)) h.left) h.pick
      ∙ sym (counting_picked cs p k (term.Read p (unwrap_or (taken_of l).of k) (taken_of l).left) (taken_of l).pick)

  joined_on : (p : Place) (k : Kind) (es : List CoreExpr) → Each ExprSays es → (t u : Term) → u ≡ counting cs t
      → to.joined_behind p k u (map term_of (map (with.counted ns) es)) ≡ counting cs (to.joined_behind p k t (map term_of es))
  joined_on p k [] h t u e = e
  joined_on p k (x ∷ es) h t u e =
      joined_on p k es h.1 (term.Join p k t (term_of x)) (term.Join p k u (term_of (with.counted ns x))) (ap (λ z. term.Join p k z (term_of (with.counted ns x))) e ∙ ap (term.Join p k (counting cs t)) h.0)

  join_says : (p : Place) (k : Kind) (es : List CoreExpr) → Each ExprSays es → to.joined p k (map term_of (map (with.counted ns) es)) ≡ counting cs (to.joined p k (map term_of es))
  join_says p k [] h = refl
  join_says p k (x ∷ es) h = joined_on p k es h.1 (term_of x) (term_of (with.counted ns x)) h.0

  module _ (A B C D E F : Type 0) (vb : A → CoreBase) (vn : B → CoreExprNode) (vp : C → CorePart) (vk : D → CorePick) (ve : E → CoreExpr) (vl : F → CoreLeft)
      (hb : (a : A) → BaseSays (vb a)) (hn : (b : B) → NodeSays (vn b)) (hp : (c : C) → PartSays (vp c)) (hk : (d : D) → PickSays (vk d)) (he : (e : E) → ExprSays (ve e)) (hl : (f : F) → LeftSays (vl f)) where
    base_by : (y : CoreBase-F A B C D E F) → BaseSays (roll-CoreBase (map-CoreBase A B C D E F CoreBase CoreExprNode CorePart CorePick CoreExpr CoreLeft vb vn vp vk ve vl y))
    base_by (tree.Cell n) = cell_says n
    base_by (tree.Prefix name) = front_says name
    base_by (tree.Follow l soft) = follow_says (vl l) soft (hl l)
    base_by tree.Null = null_says

    part_by : (y : CorePart-F A B C D E F) → PartSays (roll-CorePart (map-CorePart A B C D E F CoreBase CoreExprNode CorePart CorePick CoreExpr CoreLeft vb vn vp vk ve vl y))
    part_by (tree.Member n) = member_says n
    part_by (tree.Index size e) = index_says size (ve e) (he e)

    pick_by : (y : CorePick-F A B C D E F) → PickSays (roll-CorePick (map-CorePick A B C D E F CoreBase CoreExprNode CorePart CorePick CoreExpr CoreLeft vb vn vp vk ve vl y))
    pick_by (tree.Bit k e) = bit_says k (ve e) (he e)
    pick_by (tree.Range k h l) = range_says k h l

    node_by : (y : CoreExprNode-F A B C D E F) → NodeSays (roll-CoreExprNode (map-CoreExprNode A B C D E F CoreBase CoreExprNode CorePart CorePick CoreExpr CoreLeft vb vn vp vk ve vl y))
    node_by (tree.Lit w) = node_says (tree.Lit w) (λ p k. term_made p k (tree.Lit w))
    node_by (tree.Load l) = node_says (tree.Load (vl l)) (load_says (vl l) (hl l))
    node_by (tree.Read l) = node_says (tree.Read (vl l)) (read_says (vl l) (hl l))
    node_by (tree.Convert e) = node_says (tree.Convert (ve e)) (λ p k. term_made p k (tree.Convert (with.counted ns (ve e))) ∙ ap (term.Convert p k) (he e))
    node_by (tree.Operate o a None) = node_says (tree.Operate o (ve a) None) (λ p k. term_made p k (tree.Operate o (with.counted ns (ve a)) None) ∙ ap (term.Unary p k o) (he a))
    node_by (tree.Operate o a (Some b)) = node_says (tree.Operate o (ve a) (Some (ve b))) (λ p k.
        term_made p k (tree.Operate o (with.counted ns (ve a)) (Some (with.counted ns (ve b))))
        ∙ ap (λ x. term.Binary p k o x (term_of (with.counted ns (ve b)))) (he a) ∙ ap (term.Binary p k o (counting cs (term_of (ve a)))) (he b))
    node_by (tree.Choose t a b) = node_says (tree.Choose (ve t) (ve a) (ve b)) (λ p k.
        term_made p k (tree.Choose (with.counted ns (ve t)) (with.counted ns (ve a)) (with.counted ns (ve b)))
        ∙ ap (λ x. term.Choose p k x (term_of (with.counted ns (ve a))) (term_of (with.counted ns (ve b)))) (he t)
        ∙ ap (λ x. term.Choose p k (counting cs (term_of (ve t))) x (term_of (with.counted ns (ve b)))) (he a)
        ∙ ap (term.Choose p k (counting cs (term_of (ve t))) (counting cs (term_of (ve a)))) (he b))
    node_by (tree.Pick e q) = node_says (tree.Pick (ve e) (vk q)) (λ p k.
        term_made p k (tree.Pick (with.counted ns (ve e)) (with.counted_pick ns (vk q)))
        ∙ picked_made p k _ _ _ _ (he e) (hk q).pick
        ∙ sym (counting_picked cs p k (term_of (ve e)) (term_pick (vk q)).pick))
    node_by (tree.Join es) = node_says (tree.Join (map ve es)) (λ p k.
        term_made p k (tree.Join (map (with.counted ns) (map ve es))) ∙ join_says p k (map ve es) (each_value ExprSays ve he es))

    expr_by : (y : CoreExpr-F A B C D E F) → ExprSays (record { place = y.place; kind = y.kind; node = vn y.node })
    expr_by y = ap term_of (expr_copy ns y.place y.kind (vn y.node)) ∙ hn y.node y.place y.kind ∙ ap (counting cs) (sym (expr_term y.place y.kind (vn y.node)))

    left_of : (p : Place) (b : A) (ps : List C) (q : Option D)
        → LeftSays (roll-CoreLeft (map-CoreLeft A B C D E F CoreBase CoreExprNode CorePart CorePick CoreExpr CoreLeft vb vn vp vk ve vl (record { place = p; base = b; parts = ps; pick = q })))
    left_of p b ps None = left_says p (vb b) (map vp ps) None (hb b) (each_value PartSays vp hp ps) tt
    left_of p b ps (Some q) = left_says p (vb b) (map vp ps) (Some (vk q)) (hb b) (each_value PartSays vp hp ps) (hk q)

    left_by : (y : CoreLeft-F A B C D E F) → LeftSays (roll-CoreLeft (map-CoreLeft A B C D E F CoreBase CoreExprNode CorePart CorePick CoreExpr CoreLeft vb vn vp vk ve vl y))
    left_by y = left_of y.place y.base y.parts y.pick

  pub copy_says : (e : CoreExpr) → ExprSays e
  copy_says = ind-CoreExpr BaseSays NodeSays PartSays PickSays ExprSays LeftSays
      (λ x y is. subst (λ z. BaseSays (roll-CoreBase z)) is (base_by _ _ _ _ _ _ (λ a. a.0) (λ a. a.0) (λ a. a.0) (λ a. a.0) (λ a. a.0) (λ a. a.0) (λ a. a.1) (λ a. a.1) (λ a. a.1) (λ a. a.1) (λ a. a.1) (λ a. a.1) y))
      (λ x y is. subst (λ z. NodeSays (roll-CoreExprNode z)) is (node_by _ _ _ _ _ _ (λ a. a.0) (λ a. a.0) (λ a. a.0) (λ a. a.0) (λ a. a.0) (λ a. a.0) (λ a. a.1) (λ a. a.1) (λ a. a.1) (λ a. a.1) (λ a. a.1) (λ a. a.1) y))
      (λ x y is. subst (λ z. PartSays (roll-CorePart z)) is (part_by _ _ _ _ _ _ (λ a. a.0) (λ a. a.0) (λ a. a.0) (λ a. a.0) (λ a. a.0) (λ a. a.0) (λ a. a.1) (λ a. a.1) (λ a. a.1) (λ a. a.1) (λ a. a.1) (λ a. a.1) y))
      (λ x y is. subst (λ z. PickSays (roll-CorePick z)) is (pick_by _ _ _ _ _ _ (λ a. a.0) (λ a. a.0) (λ a. a.0) (λ a. a.0) (λ a. a.0) (λ a. a.0) (λ a. a.1) (λ a. a.1) (λ a. a.1) (λ a. a.1) (λ a. a.1) (λ a. a.1) y))
      (λ x y is. subst (λ z. ExprSays (record { place = z.place; kind = z.kind; node = z.node })) is (expr_by _ _ _ _ _ _ (λ a. a.0) (λ a. a.0) (λ a. a.0) (λ a. a.0) (λ a. a.0) (λ a. a.0) (λ a. a.1) (λ a. a.1) (λ a. a.1) (λ a. a.1) (λ a. a.1) (λ a. a.1) y))
      (λ x y is. subst (λ z. LeftSays (roll-CoreLeft z)) is (left_by _ _ _ _ _ _ (λ a. a.0) (λ a. a.0) (λ a. a.0) (λ a. a.0) (λ a. a.0) (λ a. a.0) (λ a. a.1) (λ a. a.1) (λ a. a.1) (λ a. a.1) (λ a. a.1) (λ a. a.1) y))

  pub left_copy_says : (l : CoreLeft) → LeftSays l
  left_copy_says = ind-CoreLeft BaseSays NodeSays PartSays PickSays ExprSays LeftSays
      (λ x y is. subst (λ z. BaseSays (roll-CoreBase z)) is (base_by _ _ _ _ _ _ (λ a. a.0) (λ a. a.0) (λ a. a.0) (λ a. a.0) (λ a. a.0) (λ a. a.0) (λ a. a.1) (λ a. a.1) (λ a. a.1) (λ a. a.1) (λ a. a.1) (λ a. a.1) y))
      (λ x y is. subst (λ z. NodeSays (roll-CoreExprNode z)) is (node_by _ _ _ _ _ _ (λ a. a.0) (λ a. a.0) (λ a. a.0) (λ a. a.0) (λ a. a.0) (λ a. a.0) (λ a. a.1) (λ a. a.1) (λ a. a.1) (λ a. a.1) (λ a. a.1) (λ a. a.1) y))
      (λ x y is. subst (λ z. PartSays (roll-CorePart z)) is (part_by _ _ _ _ _ _ (λ a. a.0) (λ a. a.0) (λ a. a.0) (λ a. a.0) (λ a. a.0) (λ a. a.0) (λ a. a.1) (λ a. a.1) (λ a. a.1) (λ a. a.1) (λ a. a.1) (λ a. a.1) y))
      (λ x y is. subst (λ z. PickSays (roll-CorePick z)) is (pick_by _ _ _ _ _ _ (λ a. a.0) (λ a. a.0) (λ a. a.0) (λ a. a.0) (λ a. a.0) (λ a. a.0) (λ a. a.1) (λ a. a.1) (λ a. a.1) (λ a. a.1) (λ a. a.1) (λ a. a.1) y))
      (λ x y is. subst (λ z. ExprSays (record { place = z.place; kind = z.kind; node = z.node })) is (expr_by _ _ _ _ _ _ (λ a. a.0) (λ a. a.0) (λ a. a.0) (λ a. a.0) (λ a. a.0) (λ a. a.0) (λ a. a.1) (λ a. a.1) (λ a. a.1) (λ a. a.1) (λ a. a.1) (λ a. a.1) y))
      (λ x y is. subst (λ z. LeftSays (roll-CoreLeft z)) is (left_by _ _ _ _ _ _ (λ a. a.0) (λ a. a.0) (λ a. a.0) (λ a. a.0) (λ a. a.0) (λ a. a.0) (λ a. a.1) (λ a. a.1) (λ a. a.1) (λ a. a.1) (λ a. a.1) (λ a. a.1) y))
