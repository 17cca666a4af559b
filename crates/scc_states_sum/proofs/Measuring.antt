-- What is counted in measured expressions is what the elements of the patterns are that they use.
use Rattle.std.proofs.Common.{◌≡◌, ℕ, ◌+◌, ◌*◌, Bool, true, false, ◌||◌, List, [], ◌∷◌, ◌++◌, map, Option, Some, None, refl, sym, ap, ◌∙◌, arith}
use Rattle.std.specs.Prelude.{option_map, unwrap_or}
use Rattle.std.proofs.Math.Nat.{mul_assoc}
use Rattle.scc_base.specs.declared.refusal.Place.{Place}
use Rattle.scc_base.specs.declared.names.Name.{Name}
use Rattle.scc_bits_kinds.specs.declared.kind.Kind.{Kind}
use Rattle.scc_bits.specs.Value.{Number}
use Rattle.scc_core.specs.declared.expr.CoreExpr.{CoreExpr, fold-roll-CoreExpr}
use Rattle.scc_core.specs.declared.expr.CoreExprNode.{CoreExprNode, roll-CoreExprNode, map-CoreExprNode, fold-CoreExprNode, fold-roll-CoreExprNode}
use Rattle.scc_core.specs.declared.expr.CoreExprNode.TheVariants as node
use Rattle.scc_core.specs.declared.expr.CoreLeft.{CoreLeft, fold-roll-CoreLeft}
use Rattle.scc_core.specs.declared.expr.CoreBase.{CoreBase, roll-CoreBase, fold-CoreBase, fold-roll-CoreBase}
use Rattle.scc_core.specs.declared.expr.CorePart.{CorePart, roll-CorePart, fold-CorePart, fold-roll-CorePart}
use Rattle.scc_core.specs.declared.expr.CorePart.TheVariants as part
use Rattle.scc_core.specs.declared.expr.CorePick.{CorePick, roll-CorePick, fold-CorePick, fold-roll-CorePick}
use Rattle.scc_core.specs.declared.expr.CorePick.TheVariants as picking
use Rattle.scc_core.specs.declared.expr.CoreBase.TheOpen.{CoreExprNode-F}
use Rattle.scc_core.specs.declared.expr.CoreBase.TheOpen as tree
use Rattle.scc_core.specs.declared.program.CellName.{CellName}
use Rattle.scc_core_spec.specs.Named.{Step, Named, is_open, open_product, steps_of}
use Rattle.scc_core_spec.specs.Static.{Cells, grown, index_step, pattern, static}
use Rattle.scc_core_spec.specs.Term.{Term, Left, Pick, kind_of}
use Rattle.scc_core_spec.specs.Term as term
use Rattle.scc_core_spec.specs.Uses.{Use, loads, inside, picked}
use Rattle.scc_core_view.specs.Terms.{term_of, taken_of}
use Rattle.scc_core_view.specs.Terms as to
use Rattle.scc_core_view.specs.Whole.{location, made}
use Rattle.scc_states_sum.specs.Elements.{total, factor, product, under, unknown, expr_elements, left_elements, pick_elements, part_of}
use Rattle.scc_states_sum.specs.Elements as count
use Rattle.scc_states_sum.specs.Measured.{elements_at, used_elements, IsThere, cell, front, IsMeasured, literal, load, read, convert, unary, binary, choose, pick, join, AreMeasured, last, next, IsMeasuredPick, bit, range, IsMeasuredLeft, all, some, AreMeasuredParts, none, member, index}
use Rattle.scc_states_sum.proofs.Nodes.{of_lit, of_load, of_read, of_convert, of_unary, of_binary, of_choose, of_bits, of_join, of_member, of_index, of_bit, of_range, left_is}
use Rattle.scc_states_sum.proofs.Patterns.{Grows, open_last, product_last, same_open, same_factor, closed, grown_elements, used_both, used_three, bit_uses, joined_uses}

-- ---- what parts of trees stand for

abbrev Layer : Type 0
Layer = CoreExprNode-F CoreBase CoreExprNode CorePart CorePick CoreExpr CoreLeft

abbrev term_node : CoreExprNode → to.Node
term_node = fold-CoreExprNode to.Base to.Node (Left → Left) to.Picking Term to.Taken to.base_node to.expr_node to.part_node to.pick_node to.expr_step to.left_step

abbrev term_base : CoreBase → to.Base
term_base = fold-CoreBase to.Base to.Node (Left → Left) to.Picking Term to.Taken to.base_node to.expr_node to.part_node to.pick_node to.expr_step to.left_step

abbrev term_part : CorePart → Left → Left
term_part = fold-CorePart to.Base to.Node (Left → Left) to.Picking Term to.Taken to.base_node to.expr_node to.part_node to.pick_node to.expr_step to.left_step

abbrev term_pick : CorePick → to.Picking
term_pick = fold-CorePick to.Base to.Node (Left → Left) to.Picking Term to.Taken to.base_node to.expr_node to.part_node to.pick_node to.expr_step to.left_step

abbrev term_layer : Layer → CoreExprNode-F to.Base to.Node (Left → Left) to.Picking Term to.Taken
term_layer = map-CoreExprNode CoreBase CoreExprNode CorePart CorePick CoreExpr CoreLeft to.Base to.Node (Left → Left) to.Picking Term to.Taken term_base term_node term_part term_pick term_of taken_of

term_made : (p : Place) (k : Kind) (x : Layer) → term_of (made p k x) ≡ to.expr_node (term_layer x) p k
term_made p k x =
    fold-roll-CoreExpr to.Base to.Node (Left → Left) to.Picking Term to.Taken to.base_node to.expr_node to.part_node to.pick_node to.expr_step to.left_step (record { place = p; kind = k; node = roll-CoreExprNode x })
    ∙ ap (λ n. n p k) (fold-roll-CoreExprNode to.Base to.Node (Left → Left) to.Picking Term to.Taken to.base_node to.expr_node to.part_node to.pick_node to.expr_step to.left_step x)

taken_whole : (p : Place) (b : CoreBase) (ps : List CorePart) → taken_of (location p b ps None) ≡ record { left = to.extended (term_base b p) (map term_part ps); pick = term.Whole; of = None }
taken_whole p b ps = fold-roll-CoreLeft to.Base to.Node (Left → Left) to.Picking Term to.Taken to.base_node to.expr_node to.part_node to.pick_node to.expr_step to.left_step (record { place = p; base = b; parts = ps; pick = None })

index_term : (size : ℕ) (e : CoreExpr) → term_part (roll-CorePart (tree.Index size e)) ≡ (λ l. term.Index l size (term_of e))
index_term size e = fold-roll-CorePart to.Base to.Node (Left → Left) to.Picking Term to.Taken to.base_node to.expr_node to.part_node to.pick_node to.expr_step to.left_step (tree.Index size e)

front_term : (name : CellName) → term_base (roll-CoreBase (tree.Prefix name)) ≡ (λ p. term.Prefix p (to.name_of name))
front_term name = fold-roll-CoreBase to.Base to.Node (Left → Left) to.Picking Term to.Taken to.base_node to.expr_node to.part_node to.pick_node to.expr_step to.left_step (tree.Prefix name)

member_term : (n : Name) → term_part (roll-CorePart (tree.Member n)) ≡ (λ l. term.Member l n.0)
member_term n = fold-roll-CorePart to.Base to.Node (Left → Left) to.Picking Term to.Taken to.base_node to.expr_node to.part_node to.pick_node to.expr_step to.left_step (tree.Member n)

bit_term : (j : Kind) (e : CoreExpr) → term_pick (roll-CorePick (tree.Bit j e)) ≡ record { of = j; pick = term.OneBit (term_of e) }
bit_term j e = fold-roll-CorePick to.Base to.Node (Left → Left) to.Picking Term to.Taken to.base_node to.expr_node to.part_node to.pick_node to.expr_step to.left_step (tree.Bit j e)

range_term : (j : Kind) (h l : ℕ) → term_pick (roll-CorePick (tree.Range j h l)) ≡ record { of = j; pick = term.Bits h l }
range_term j h l = fold-roll-CorePick to.Base to.Node (Left → Left) to.Picking Term to.Taken to.base_node to.expr_node to.part_node to.pick_node to.expr_step to.left_step (tree.Range j h l)

cell_term : (n : ℕ) → term_base (roll-CoreBase (tree.Cell n)) ≡ (λ p. term.Cell p n)
cell_term n = fold-roll-CoreBase to.Base to.Node (Left → Left) to.Picking Term to.Taken to.base_node to.expr_node to.part_node to.pick_node to.expr_step to.left_step (tree.Cell n)

taken_some : (p : Place) (b : CoreBase) (ps : List CorePart) (q : CorePick) → taken_of (location p b ps (Some q)) ≡ record { left = to.extended (term_base b p) (map term_part ps); pick = (term_pick q).pick; of = Some (term_pick q).of }
taken_some p b ps q = fold-roll-CoreLeft to.Base to.Node (Left → Left) to.Picking Term to.Taken to.base_node to.expr_node to.part_node to.pick_node to.expr_step to.left_step (record { place = p; base = b; parts = ps; pick = Some q })

-- ---- sums

plus_three : (a b c : ℕ) → a + (b + c) ≡ a + b + c
plus_three a b c = omega arith

or_three : (a b c : Bool) → ((a || b) || c) ≡ (a || (b || c))
or_three true b c = refl
or_three false b c = refl

or_none : (a : Bool) → (a || false) ≡ a
or_none true = refl
or_none false = refl

times_one : (n : ℕ) → n * 1 ≡ n
times_one n = omega arith

none_plus : (n : ℕ) → 0 + n ≡ n
none_plus n = omega arith

none_more : (n : ℕ) → n + 0 ≡ n
none_more n = omega arith

around : (u i k : ℕ) → u + (i + k) ≡ i + (k + (u + 0))
around u i k = omega arith

behind : (u i : ℕ) → u + (i + 0) ≡ i + (u + 0)
behind u i = omega arith

module _ (cs : Cells) (known : CoreExpr → Option Number) where
  abbrev uses : List Use → ℕ
  uses us = used_elements cs us

  abbrev sizes_of : List CorePart → List (Option ℕ)
  sizes_of ps = map (λ q. q.size) (map (part_of known) ps)

  abbrev insides : List CorePart → ℕ
  insides ps = total (map (λ q. q.inside) (map (part_of known) ps))

  abbrev at_parts : Left → List CorePart → Left
  at_parts l ps = to.extended l (map term_part ps)

  -- what is told of parts behind a location
  record Told (l : Left) (s : List Step) (ps : List CorePart) : Type 0 where
    pub within : uses (inside (at_parts l ps)) ≡ uses (inside l) + insides ps
    pub grows : Grows cs (at_parts l ps) s (sizes_of ps)

  no_parts : (l : Left) (s : List Step) → pattern cs l ≡ Some s → Told l s []
  no_parts l s h = record {
    within = sym (none_more (uses (inside l)));
    grows = record { steps = s; there = h; opened = sym (or_none (is_open s)); times = sym (times_one (open_product s)) };
  }

  -- one step, and the parts behind it
  step_more : (l m : Left) (s : List Step) (x : Step) (f : CorePart) (ps : List CorePart) (n : ℕ) (o : Option ℕ) → term_part f l ≡ m → part_of known f ≡ record { inside = n; size = o }
      → uses (inside m) ≡ uses (inside l) + n → is_open (x ∷ []) ≡ count.is_open o → open_product (x ∷ []) ≡ factor o → Told m (s ++ x ∷ []) ps → Told l s (f ∷ ps)
  step_more l m s x f ps n o is has within opened times t = record {
    within = ap (λ z. uses (inside (at_parts z ps))) is ∙ t.within ∙ ap (λ k. k + insides ps) within
        ∙ sym (plus_three (uses (inside l)) n (insides ps)) ∙ ap (λ q. uses (inside l) + (q.inside + insides ps)) (sym has);
    grows = record {
      steps = t.grows.steps;
      there = ap (λ z. pattern cs (at_parts z ps)) is ∙ t.grows.there;
      opened = t.grows.opened ∙ ap (λ b. b || count.some_open (sizes_of ps)) (open_last s x ∙ ap (λ b. is_open s || b) opened)
          ∙ or_three (is_open s) (count.is_open o) (count.some_open (sizes_of ps)) ∙ ap (λ q. is_open s || (count.is_open q.size || count.some_open (sizes_of ps))) (sym has);
      times = t.grows.times ∙ ap (λ k. k * product (map factor (sizes_of ps))) (product_last s x ∙ ap (λ k. open_product s * k) times)
          ∙ mul_assoc (open_product s) (factor o) (product (map factor (sizes_of ps))) ∙ ap (λ q. open_product s * (factor q.size * product (map factor (sizes_of ps)))) (sym has);
    };
  }

  grown_by : (l : Left) (s : List Step) (x : Step) → pattern cs l ≡ Some s → grown (pattern cs l) x ≡ Some (s ++ x ∷ [])
  grown_by l s x h = ap (λ o. grown o x) h

  no_step : (l : Left) (n : ℕ) → uses (inside l) ≡ uses (inside l) + 0
  no_step l n = sym (none_more (uses (inside l)))

  -- what is told of an expression, and of one that a location is loaded or read by
  abbrev Tells : CoreExpr → Type 0
  Tells e = expr_elements known e ≡ uses (loads (term_of e))

  pub record Reached (l : CoreLeft) : Type 0 where
    pub loaded : (p : Place) (j k : Kind) → left_elements known l ≡ uses (loads (to.picked p k (term.Load p j (taken_of l).left) (taken_of l).pick))
    pub shown : (p : Place) (j k : Kind) → left_elements known l ≡ uses (loads (to.picked p k (term.Read p j (taken_of l).left) (taken_of l).pick))
    pub assigned : left_elements known l ≡ elements_at cs (taken_of l).left + (uses (inside (taken_of l).left) + uses (picked (taken_of l).pick))

  there_at : {b : CoreBase} → IsThere cs known b → (p : Place) → (s : List Step) × (pattern cs (term_base b p) ≡ Some s) × (is_open s ≡ false) × (inside (term_base b p) ≡ [])
  there_at (cell n c h) p =
      (steps_of c.name, ap (pattern cs) (ap (λ f. f p) (cell_term n)) ∙ ap (option_map (λ c. steps_of c.name)) h, closed c.name, ap (λ f. inside (f p)) (cell_term n))
  there_at (front name) p = (steps_of (to.name_of name), ap (λ f. pattern cs (f p)) (front_term name), closed (to.name_of name), ap (λ f. inside (f p)) (front_term name))

  -- the uses in a location and of it
  counted_at : (b : CoreBase) (p : Place) (ps : List CorePart) → IsThere cs known b → ((l : Left) (s : List Step) → pattern cs l ≡ Some s → Told l s ps)
      → (uses (inside (at_parts (term_base b p) ps)) ≡ insides ps) × (elements_at cs (at_parts (term_base b p) ps) ≡ under (sizes_of ps))
  counted_at b p ps there told =
      let t = there_at there p in
      let g = told (term_base b p) t.0 t.1 in
      (g.within ∙ ap (λ us. uses us + insides ps) t.3 ∙ none_plus (insides ps), grown_elements cs (at_parts (term_base b p) ps) t.0 (sizes_of ps) t.2 g.grows)

  use_of : (q : Place) (l : Left) → uses (inside l ++ record { place = q; left = l } ∷ []) ≡ uses (inside l) + (elements_at cs l + 0)
  use_of q l = used_both cs (inside l) (record { place = q; left = l } ∷ [])

  whole_left : (p : Place) (b : CoreBase) (ps : List CorePart) → IsThere cs known b → ((l : Left) (s : List Step) → pattern cs l ≡ Some s → Told l s ps) → Reached (location p b ps None)
  whole_left p b ps there told =
      let t = counted_at b p ps there told in
      let l = at_parts (term_base b p) ps in
      let sum : left_elements known (location p b ps None) ≡ uses (inside l) + (elements_at cs l + 0) =
      left_is known (location p b ps None) ∙ behind (under (sizes_of ps)) (insides ps)
      ∙ ap (λ i. i + (under (sizes_of ps) + 0)) (sym t.0) ∙ ap (λ u. uses (inside l) + (u + 0)) (sym t.1) in record {
        loaded = λ q j k. sum ∙ sym (use_of q l) ∙ ap (λ x. uses (loads (to.picked q k (term.Load q j x.left) x.pick))) (sym (taken_whole p b ps));
        shown = λ q j k. sum ∙ sym (use_of q l) ∙ ap (λ x. uses (loads (to.picked q k (term.Read q j x.left) x.pick))) (sym (taken_whole p b ps));
        assigned = left_is known (location p b ps None) ∙ ap (λ i. under (sizes_of ps) + (i + 0)) (sym t.0) ∙ ap (λ u. u + (uses (inside l) + 0)) (sym t.1)
            ∙ ap (λ x. elements_at cs x.left + (uses (inside x.left) + uses (picked x.pick))) (sym (taken_whole p b ps));
      }

  range_left : (p : Place) (b : CoreBase) (ps : List CorePart) (j : Kind) (h n : ℕ) → IsThere cs known b → ((l : Left) (s : List Step) → pattern cs l ≡ Some s → Told l s ps)
      → Reached (location p b ps (Some (roll-CorePick (tree.Range j h n))))
  range_left p b ps j h n there told =
      let t = counted_at b p ps there told in
      let l = at_parts (term_base b p) ps in
      let q = roll-CorePick (tree.Range j h n) in
      let taken = taken_some p b ps q ∙ ap (λ x. record { left = l; pick = x.pick; of = Some x.of }) (range_term j h n) in
      let sum : left_elements known (location p b ps (Some q)) ≡ uses (inside l) + (elements_at cs l + 0) =
      left_is known (location p b ps (Some q)) ∙ ap (λ m. under (sizes_of ps) + (insides ps + m)) (of_range known q j h n (picking.rolls-Range j h n)) ∙ behind (under (sizes_of ps)) (insides ps)
      ∙ ap (λ i. i + (under (sizes_of ps) + 0)) (sym t.0) ∙ ap (λ u. uses (inside l) + (u + 0)) (sym t.1) in record {
        loaded = λ q j k. sum ∙ sym (use_of q l) ∙ ap (λ x. uses (loads (to.picked q k (term.Load q j x.left) x.pick))) (sym taken);
        shown = λ q j k. sum ∙ sym (use_of q l) ∙ ap (λ x. uses (loads (to.picked q k (term.Read q j x.left) x.pick))) (sym taken);
        assigned = left_is known (location p b ps (Some q)) ∙ ap (λ m. under (sizes_of ps) + (insides ps + m)) (of_range known q j h n (picking.rolls-Range j h n))
            ∙ ap (λ i. under (sizes_of ps) + (i + 0)) (sym t.0) ∙ ap (λ u. u + (uses (inside l) + 0)) (sym t.1)
            ∙ ap (λ x. elements_at cs x.left + (uses (inside x.left) + uses (picked x.pick))) (sym taken);
      }

  bit_left : (p : Place) (b : CoreBase) (ps : List CorePart) (j : Kind) (e : CoreExpr) → IsThere cs known b → ((l : Left) (s : List Step) → pattern cs l ≡ Some s → Told l s ps) → Tells e
      → Reached (location p b ps (Some (roll-CorePick (tree.Bit j e))))
  bit_left p b ps j e there told tells =
      let t = counted_at b p ps there told in
      let l = at_parts (term_base b p) ps in
      let q = roll-CorePick (tree.Bit j e) in
      let taken = taken_some p b ps q ∙ ap (λ x. record { left = l; pick = x.pick; of = Some x.of }) (bit_term j e) in
      let sum : left_elements known (location p b ps (Some q)) ≡ uses (inside l) + (uses (loads (term_of e)) + (elements_at cs l + 0)) =
      left_is known (location p b ps (Some q)) ∙ ap (λ m. under (sizes_of ps) + (insides ps + m)) (of_bit known q j e (picking.rolls-Bit j e) ∙ tells)
      ∙ around (under (sizes_of ps)) (insides ps) (uses (loads (term_of e)))
      ∙ ap (λ i. i + (uses (loads (term_of e)) + (under (sizes_of ps) + 0))) (sym t.0) ∙ ap (λ u. uses (inside l) + (uses (loads (term_of e)) + (u + 0))) (sym t.1) in
      let swapped : (r : Place) → uses (inside l) + (uses (loads (term_of e)) + (elements_at cs l + 0)) ≡ uses (inside l ++ record { place = r; left = l } ∷ []) + uses (loads (term_of e)) =
      λ r. turned (uses (inside l)) (uses (loads (term_of e))) (elements_at cs l + 0) ∙ ap (λ n. n + uses (loads (term_of e))) (sym (use_of r l)) in record {
        loaded = λ r i k. sum ∙ swapped r ∙ sym (bit_uses cs r (term.Load r i l) (term_of e)) ∙ ap (λ x. uses (loads (to.picked r k (term.Load r i x.left) x.pick))) (sym taken);
        shown = λ r i k. sum ∙ swapped r ∙ sym (bit_uses cs r (term.Read r i l) (term_of e)) ∙ ap (λ x. uses (loads (to.picked r k (term.Read r i x.left) x.pick))) (sym taken);
        assigned = left_is known (location p b ps (Some q)) ∙ ap (λ m. under (sizes_of ps) + (insides ps + m)) (of_bit known q j e (picking.rolls-Bit j e) ∙ tells)
            ∙ ap (λ i. under (sizes_of ps) + (i + uses (loads (term_of e)))) (sym t.0) ∙ ap (λ u. u + (uses (inside l) + uses (loads (term_of e)))) (sym t.1)
            ∙ ap (λ x. elements_at cs x.left + (uses (inside x.left) + uses (picked x.pick))) (sym taken);
      }
    where
      turned : (a b c : ℕ) → a + (b + c) ≡ a + c + b
      turned a b c = omega arith

  -- ---- along the rules

  mutual
    pub tells : {e : CoreExpr} → IsMeasured cs known e → Tells e
    tells (literal {p = p} {k = k} w) = of_lit known (made p k (tree.Lit w)) w (node.rolls-Lit w) ∙ ap (λ t. uses (loads t)) (sym (term_made p k (tree.Lit w)))
    tells (load {p = p} {k = k} {l = l} h) = of_load known (made p k (tree.Load l)) l (node.rolls-Load l) ∙ (reached h).loaded p (unwrap_or (taken_of l).of k) k ∙ ap (λ t. uses (loads t)) (sym (term_made p k (tree.Load l)))
    tells (read {p = p} {k = k} {l = l} h) = of_read known (made p k (tree.Read l)) l (node.rolls-Read l) ∙ (reached h).shown p (unwrap_or (taken_of l).of k) k ∙ ap (λ t. uses (loads t)) (sym (term_made p k (tree.Read l)))
    tells (convert {p = p} {k = k} {e = a} h) = of_convert known (made p k (tree.Convert a)) a (node.rolls-Convert a) ∙ tells h ∙ ap (λ t. uses (loads t)) (sym (term_made p k (tree.Convert a)))
    tells (unary {p = p} {k = k} o {a = a} h) =
        of_unary known (made p k (tree.Operate o a None)) o a (node.rolls-Operate o a None) ∙ none_more (expr_elements known a) ∙ tells h ∙ ap (λ t. uses (loads t)) (sym (term_made p k (tree.Operate o a None)))
    tells (binary {p = p} {k = k} o {a = a} {b = b} h g) =
        of_binary known (made p k (tree.Operate o a (Some b))) o a b (node.rolls-Operate o a (Some b)) ∙ ap (λ n. n + expr_elements known b) (tells h) ∙ ap (λ n. uses (loads (term_of a)) + n) (tells g)
        ∙ sym (used_both cs (loads (term_of a)) (loads (term_of b))) ∙ ap (λ t. uses (loads t)) (sym (term_made p k (tree.Operate o a (Some b))))
    tells (choose {p = p} {k = k} {t = t} {a = a} {b = b} h g f) =
        of_choose known (made p k (tree.Choose t a b)) t a b (node.rolls-Choose t a b)
        ∙ ap (λ n. n + (expr_elements known a + expr_elements known b)) (tells h) ∙ ap (λ n. uses (loads (term_of t)) + (n + expr_elements known b)) (tells g)
        ∙ ap (λ n. uses (loads (term_of t)) + (uses (loads (term_of a)) + n)) (tells f)
        ∙ sym (used_three cs (loads (term_of t)) (loads (term_of a)) (loads (term_of b))) ∙ ap (λ t. uses (loads t)) (sym (term_made p k (tree.Choose t a b)))
    tells (pick {p = p} {k = k} {e = e} {q = q} h g) =
        of_bits known (made p k (tree.Pick e q)) e q (node.rolls-Pick e q) ∙ ap (λ n. n + pick_elements known q) (tells h) ∙ picks e g p k ∙ ap (λ t. uses (loads t)) (sym (term_made p k (tree.Pick e q)))
    tells (join {p = p} {k = k} {es = es} h) =
        of_join known (made p k (tree.Join es)) es (node.rolls-Join es) ∙ all_tell h ∙ sym (joined_uses cs p k (map term_of es)) ∙ ap (λ t. uses (loads t)) (sym (term_made p k (tree.Join es)))

    all_tell : {es : List CoreExpr} → AreMeasured cs known es → total (map (expr_elements known) es) ≡ total (map (λ t. uses (loads t)) (map term_of es))
    all_tell last = refl
    all_tell (next {e = e} {es = es} h g) = ap (λ n. n + total (map (expr_elements known) es)) (tells h) ∙ ap (λ n. uses (loads (term_of e)) + n) (all_tell g)

    picks : (e : CoreExpr) {q : CorePick} → IsMeasuredPick cs known q → (p : Place) (k : Kind)
        → uses (loads (term_of e)) + pick_elements known q ≡ uses (loads (to.picked p k (term_of e) (term_pick q).pick))
    picks e (bit j {e = i} g) p k =
        ap (λ n. uses (loads (term_of e)) + n) (of_bit known (roll-CorePick (tree.Bit j i)) j i (picking.rolls-Bit j i) ∙ tells g)
        ∙ sym (bit_uses cs p (term_of e) (term_of i)) ∙ ap (λ x. uses (loads (to.picked p k (term_of e) x.pick))) (sym (bit_term j i))
    picks e (range j a b) p k =
        ap (λ n. uses (loads (term_of e)) + n) (of_range known (roll-CorePick (tree.Range j a b)) j a b (picking.rolls-Range j a b)) ∙ none_more (uses (loads (term_of e)))
        ∙ ap (λ x. uses (loads (to.picked p k (term_of e) x.pick))) (sym (range_term j a b))

    pub reached : {l : CoreLeft} → IsMeasuredLeft cs known l → Reached l
    reached (all {p = p} {b = b} {ps = ps} there h) = whole_left p b ps there (λ l s at. parts h l s at)
    reached (some {p = p} {b = b} {ps = ps} there h (bit j {e = e} g)) = bit_left p b ps j e there (λ l s at. parts h l s at) (tells g)
    reached (some {p = p} {b = b} {ps = ps} there h (range j a z)) = range_left p b ps j a z there (λ l s at. parts h l s at)

    parts : {ps : List CorePart} → AreMeasuredParts cs known ps → (l : Left) (s : List Step) → pattern cs l ≡ Some s → Told l s ps
    parts none l s at = no_parts l s at
    parts (member n {ps = ps} h) l s at =
        step_more l (term.Member l n.0) s (Named n.0) (roll-CorePart (tree.Member n)) ps 0 None (ap (λ f. f l) (member_term n)) (of_member known (roll-CorePart (tree.Member n)) n (part.rolls-Member n))
        (no_step l 0) refl refl (parts h (term.Member l n.0) (s ++ Named n.0 ∷ []) (grown_by l s (Named n.0) at))
    parts (index size {e = e} {ps = ps} same g h) l s at =
        let x = index_step size (kind_of (term_of e)) (static cs (term_of e)) in
        step_more l (term.Index l size (term_of e)) s x (roll-CorePart (tree.Index size e)) ps (expr_elements known e) (unknown size (known e)) (ap (λ f. f l) (index_term size e))
        (of_index known (roll-CorePart (tree.Index size e)) size e (part.rolls-Index size e))
        (used_both cs (inside l) (loads (term_of e)) ∙ ap (λ n. uses (inside l) + n) (sym (tells g)))
        (same_open size (kind_of (term_of e)) (known e) (static cs (term_of e)) same) (same_factor size (kind_of (term_of e)) (known e) (static cs (term_of e)) same)
        (parts h (term.Index l size (term_of e)) (s ++ x ∷ []) (grown_by l s x at))

  -- what is counted of a location that is assigned
  pub written : {l : CoreLeft} → IsMeasuredLeft cs known l → left_elements known l ≡ elements_at cs (taken_of l).left + (uses (inside (taken_of l).left) + uses (picked (taken_of l).pick))
  written h = (reached h).assigned
