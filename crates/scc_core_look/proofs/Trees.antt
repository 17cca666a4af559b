-- Terms of trees fit where their parts do.
use Rattle.std.proofs.Common.{◌≡◌, refl, arith, ℕ, suc, ◌+◌, ◌-◌, ◌<◌, ◌≤◌, Bool, true, false, not, ◌&&◌, nat_eq, List, [], ◌∷◌, ◌++◌, map, take, get_or, length, min, add-one, Option, Some, None, ap, ◌∙◌, sym, subst}
use Rattle.std.specs.Prelude.{nat_le, option_map}
use Rattle.std.specs.Option.{unwrap_or}
use Rattle.std.proofs.Math.Seq.{take-suc}
use Rattle.scc_base.specs.declared.refusal.Place.{Place}
use Rattle.scc_bits_kinds.specs.declared.kind.Kind.{Kind}
use Rattle.scc_bits_kinds.specs.declared.kind.Kind.TheVariants as kind
use Rattle.scc_bits_kinds.specs.declared.op.Op.{Op}
use Rattle.scc_bits_kinds.specs.Kinds.{width_of}
use Rattle.scc_bits.specs.Values.{kind_of as operator_kind}
use Rattle.scc_core.specs.declared.expr.CoreBase.{CoreBase, fold-CoreBase}
use Rattle.scc_core.specs.declared.expr.CoreBase.TheOpen.{CoreExprNode-F, CorePick-F}
use Rattle.scc_core.specs.declared.expr.CoreBase.TheOpen as tree
use Rattle.scc_core.specs.declared.expr.CoreExpr.{CoreExpr, fold-roll-CoreExpr}
use Rattle.scc_core.specs.declared.expr.CoreExprNode.{CoreExprNode, out-CoreExprNode, out-roll-CoreExprNode, roll-CoreExprNode, fold-CoreExprNode, map-CoreExprNode, fold-roll-CoreExprNode}
use Rattle.scc_core.specs.declared.expr.CoreExprNode.TheVariants as node
use Rattle.scc_core.specs.declared.expr.CoreLeft.{CoreLeft}
use Rattle.scc_core.specs.declared.expr.CorePart.{CorePart}
use Rattle.scc_core.specs.declared.expr.CorePick.{CorePick, out-CorePick, map-CorePick, fold_out-CorePick}
use Rattle.scc_core.specs.Operands.{first_in, first_of}
use Rattle.scc_core_spec.specs.Fit.{bits_of, fit_left, fit_term, is_kind, same_kind}
use Rattle.scc_core_spec.specs.OpenNames.{all_named, is_sized}
use Rattle.scc_core_spec.specs.Term as term
use Rattle.scc_core_spec.specs.Term.{Left, Pick, Term, kind_of}
use Rattle.scc_core_view.specs.Terms as to
use Rattle.scc_core_view.specs.Terms.{Picking, joined, joined_behind, picked, taken_of, term_of}
use Rattle.scc_core_look.specs.declared.seen.Test.TheVariants as test
use Rattle.scc_core_look.specs.declared.terms.Ground.{Ground}
use Rattle.scc_core_look.specs.Fits.{AreLow, IfIn, IsIn, IsLeft, IsPick, IsRight, IsTerm, alone, here, mine, part_term, pick_term, some_pick, whole_kind}
use Rattle.scc_core_look.specs.Seen.{asks}
use Rattle.scc_core_look.proofs.Agreeing.{same-kind}
use Rattle.scc_core_look.proofs.Apart.{both, first, second}
use Rattle.scc_core_look.proofs.Lefts.{left_is}

abbrev Layer : Type 0
Layer = CoreExprNode-F CoreBase CoreExprNode CorePart CorePick CoreExpr CoreLeft

abbrev node_term : CoreExprNode → to.Node
node_term = fold-CoreExprNode to.Base to.Node (Left → Left) to.Picking Term to.Taken to.base_node to.expr_node to.part_node to.pick_node to.expr_step to.left_step

abbrev base_term : CoreBase → to.Base
base_term = fold-CoreBase to.Base to.Node (Left → Left) to.Picking Term to.Taken to.base_node to.expr_node to.part_node to.pick_node to.expr_step to.left_step

abbrev layer_term : Layer → CoreExprNode-F to.Base to.Node (Left → Left) to.Picking Term to.Taken
layer_term = map-CoreExprNode CoreBase CoreExprNode CorePart CorePick CoreExpr CoreLeft to.Base to.Node (Left → Left) to.Picking Term to.Taken base_term node_term part_term pick_term term_of taken_of

term_is : (e : CoreExpr) → term_of e ≡ node_term e.node e.place e.kind
term_is e = fold-roll-CoreExpr to.Base to.Node (Left → Left) to.Picking Term to.Taken to.base_node to.expr_node to.part_node to.pick_node to.expr_step to.left_step (record { place = e.place; kind = e.kind; node = e.node })

by_node : (e : CoreExpr) (n : CoreExprNode) (x : Layer) → e.node ≡ n → roll-CoreExprNode x ≡ n → term_of e ≡ to.expr_node (layer_term x) e.place e.kind
by_node e n x is rolls =
    term_is e
    ∙ ap (λ m. node_term m e.place e.kind) (is ∙ sym rolls)
    ∙ ap (λ f. f e.place e.kind) (fold-roll-CoreExprNode to.Base to.Node (Left → Left) to.Picking Term to.Taken to.base_node to.expr_node to.part_node to.pick_node to.expr_step to.left_step x)

first_is : (e : CoreExpr) (n : CoreExprNode) (x : Layer) → e.node ≡ n → roll-CoreExprNode x ≡ n → first_of e ≡ first_in x
first_is e n x is rolls = ap (λ m. first_in (out-CoreExprNode m)) (is ∙ sym rolls) ∙ ap first_in (out-roll-CoreExprNode x)

-- ---- bits

abbrev PickLayer : Type 0
PickLayer = CorePick-F CoreBase CoreExprNode CorePart CorePick CoreExpr CoreLeft

abbrev pick_layer : PickLayer → Picking
pick_layer y = to.pick_node (map-CorePick CoreBase CoreExprNode CorePart CorePick CoreExpr CoreLeft to.Base to.Node (Left → Left) to.Picking Term to.Taken base_term node_term part_term pick_term term_of taken_of y)

pick_is : (x : CorePick) → pick_term x ≡ pick_layer (out-CorePick x)
pick_is x = fold_out-CorePick to.Base to.Node (Left → Left) to.Picking Term to.Taken to.base_node to.expr_node to.part_node to.pick_node to.expr_step to.left_step x

module _ (g : Ground) where
  abbrev fit : Term → Bool
  fit = fit_term (here g) (mine g)

  bits_layer : (p : Place) (k : Kind) (t : Term) (y : PickLayer) → fit t ≡ true → IsPick g k (pick_layer y).pick → IsTerm g k (picked p k t (pick_layer y).pick)
  bits_layer p k t (tree.Bit of at) e h = record { fits = both (fit t) (fit (term_of at)) e h.1; kind = sym h.0 }
  bits_layer p k t (tree.Range of a b) e h = record { fits = both (nat_eq (width_of k) (a - b + 1)) (fit t) h e; kind = refl }

  bits_in : (p : Place) (k : Kind) (t : Term) (x : CorePick) → fit t ≡ true → IsPick g k (pick_term x).pick → IsTerm g k (picked p k t (pick_term x).pick)
  bits_in p k t x e h = subst (λ (q : Picking). IsTerm g k (picked p k t q.pick)) (sym (pick_is x)) (bits_layer p k t (out-CorePick x) e (subst (λ (q : Picking). IsPick g k q.pick) (pick_is x) h))

  some_bits : (p : Place) (k : Kind) (t : Kind → Term) (o : Option CorePick) → fit (t (whole_kind k o)) ≡ true → kind_of (t k) ≡ k → IsPick g k (some_pick o) → IsTerm g k (picked p k (t (whole_kind k o)) (some_pick o))
  some_bits p k t None e is h = record { fits = e; kind = is }
  some_bits p k t (Some x) e is h = bits_in p k (t (whole_kind k (Some x))) x e h

  taken : (p : Place) (k : Kind) (l : CoreLeft) (f : Kind → Left → Term) → picked p k (f (unwrap_or (taken_of l).of k) (taken_of l).left) (taken_of l).pick ≡ picked p k (f (whole_kind k l.pick) (taken_of l).left) (some_pick l.pick)
  taken p k l f = λ i. picked p k (f (unwrap_or (left_is l l.pick refl i).of k) (taken_of l).left) (left_is l l.pick refl i).pick

  pub loaded_in : (e : CoreExpr) (l : CoreLeft) → e.node ≡ node.Load l → IsLeft g (test.Load (whole_kind e.kind l.pick)) (taken_of l).left → IsPick g e.kind (some_pick l.pick) → IsIn g e
  loaded_in e l is w h =
      let there = by_node e (node.Load l) (tree.Load l) is (node.rolls-Load l) ∙ taken e.place e.kind l (λ k x. term.Load e.place k x) in
      subst (λ t. IsTerm g e.kind t) (sym there) (some_bits e.place e.kind (λ k. term.Load e.place k (taken_of l).left) l.pick
      (both (fit_left (here g) (mine g) (taken_of l).left) _ w.fits (both (all_named (here g) (asks (test.Load (whole_kind e.kind l.pick))) (taken_of l).left) (is_sized (here g) (taken_of l).left) w.named w.sized)) refl h)

  pub shown_in : (e : CoreExpr) (l : CoreLeft) → e.node ≡ node.Read l → IsLeft g (test.Read (whole_kind e.kind l.pick)) (taken_of l).left → IsPick g e.kind (some_pick l.pick) → IsIn g e
  shown_in e l is w h =
      let there = by_node e (node.Read l) (tree.Read l) is (node.rolls-Read l) ∙ taken e.place e.kind l (λ k x. term.Read e.place k x) in
      subst (λ t. IsTerm g e.kind t) (sym there) (some_bits e.place e.kind (λ k. term.Read e.place k (taken_of l).left) l.pick
      (both (fit_left (here g) (mine g) (taken_of l).left) _ w.fits (both (all_named (here g) (asks (test.Read (whole_kind e.kind l.pick))) (taken_of l).left) (is_sized (here g) (taken_of l).left) w.named w.sized)) refl h)

  operand_in : (e a : CoreExpr) (n : CoreExprNode) (x : Layer) → e.node ≡ n → roll-CoreExprNode x ≡ n → first_in x ≡ Some a → IfIn g (first_of e) → IsIn g a
  operand_in e a n x is rolls f h = subst (IfIn g) (first_is e n x is rolls ∙ f) h

  pub operated_in : (e a : CoreExpr) (o : Op) (r : Option CoreExpr) → e.node ≡ node.Operate o a r → IsRight g e.kind o a.kind r → IfIn g (first_of e) → IsIn g e
  operated_in e a o None is w h =
      let i = operand_in e a (node.Operate o a None) (tree.Operate o a None) is (node.rolls-Operate o a None) refl h in
      subst (λ t. IsTerm g e.kind t) (sym (by_node e (node.Operate o a None) (tree.Operate o a None) is (node.rolls-Operate o a None)))
      (record { fits = both _ (fit (term_of a)) ((λ z. is_kind (operator_kind o (i.kind z) (i.kind z)) e.kind) ∙ w) i.fits; kind = refl })
  operated_in e a o (Some b) is w h =
      let i = operand_in e a (node.Operate o a (Some b)) (tree.Operate o a (Some b)) is (node.rolls-Operate o a (Some b)) refl h in
      let j = w.1 in
      subst (λ t. IsTerm g e.kind t) (sym (by_node e (node.Operate o a (Some b)) (tree.Operate o a (Some b)) is (node.rolls-Operate o a (Some b))))
      (record { fits = both _ (fit (term_of a) && fit (term_of b)) ((λ z. is_kind (operator_kind o (i.kind z) (j.kind z)) e.kind) ∙ w.0) (both (fit (term_of a)) (fit (term_of b)) i.fits j.fits); kind = refl })

  pub picked_in : (e a : CoreExpr) (x : CorePick) → e.node ≡ node.Pick a x → IsPick g e.kind (pick_term x).pick → IfIn g (first_of e) → IsIn g e
  picked_in e a x is w h =
      let i = operand_in e a (node.Pick a x) (tree.Pick a x) is (node.rolls-Pick a x) refl h in
      subst (λ t. IsTerm g e.kind t) (sym (by_node e (node.Pick a x) (tree.Pick a x) is (node.rolls-Pick a x))) (bits_in e.place e.kind (term_of a) x i.fits w)

  pub joined_in : (e : CoreExpr) (es fs : List CoreExpr) → e.node ≡ node.Join es → fs ≡ es → IsTerm g e.kind (joined e.place e.kind (map term_of fs)) → IsIn g e
  joined_in e es fs is same w = subst (λ t. IsTerm g e.kind t) (ap (λ xs. joined e.place e.kind (map term_of xs)) same ∙ sym (by_node e (node.Join es) (tree.Join es) is (node.rolls-Join es))) w

  -- ---- concatenations

  -- a term that fits has no more bits than its kind
  pub few_bits : (t : Term) → fit t ≡ true → bits_of t ≤ width_of (kind_of t)
  few_bits (term.Literal p k w) e = omega arith
  few_bits (term.Load p k l) e = omega arith
  few_bits (term.Read p k l) e = omega arith
  few_bits (term.Convert p k x) e = omega arith
  few_bits (term.Unary p k o a) e = omega arith
  few_bits (term.Binary p k o a b) e = omega arith
  few_bits (term.Choose p k x a b) e = omega arith
  few_bits (term.Bit p a i) e = omega arith
  few_bits (term.Range p k a h l) e = omega arith
  few_bits (term.Join p k a b) e = at-most (bits_of a + width_of (kind_of b)) (width_of k) (first (nat_le (bits_of a + width_of (kind_of b)) (width_of k)) (fit a && fit b) e)
    where
      at-most : (m n : ℕ) → nat_le m n ≡ true → m ≤ n
      at-most m n e = grind (arith, e)

  last_joined : (p : Place) (k : Kind) (high : Term) (xs : List CoreExpr) (x : CoreExpr) → joined_behind p k high (map term_of (xs ++ x ∷ [])) ≡ term.Join p k (joined_behind p k high (map term_of xs)) (term_of x)
  last_joined p k high [] x = refl
  last_joined p k high (y ∷ xs) x = last_joined p k (term.Join p k high (term_of y)) xs x

  joined_kind : (p : Place) (k : Kind) (high t : Term) (es : List CoreExpr) → kind_of (joined_behind p k (term.Join p k high t) (map term_of es)) ≡ k
  joined_kind p k high t [] = refl
  joined_kind p k high t (e ∷ es) = joined_kind p k (term.Join p k high t) (term_of e) es

  abbrev pub LowTo : ℕ → ℕ → ℕ → List CoreExpr → Type 0
  LowTo limit from bits es = (p : Place) (k : Kind) (high : Term) → width_of k ≡ limit → fit_term (here g) (mine g) high ≡ true → bits_of high ≤ from
      → (fit_term (here g) (mine g) (joined_behind p k high (map term_of es)) ≡ true) × (bits_of (joined_behind p k high (map term_of es)) ≤ bits)

  one_lower : (limit from bits now : ℕ) (xs : List CoreExpr) (x : CoreExpr) → now ≡ min (bits + width_of x.kind) 18446744073709551615 → limit < 4294967296 → nat_le now limit ≡ true → IsIn g x → LowTo limit from bits xs → LowTo limit from now (xs ++ x ∷ [])
  one_lower limit from bits now xs x is small e i low p k high wide fits few =
      let w = low p k high wide fits few in
      let le : now ≤ limit = grind (arith, e) in
      let sum : now ≡ bits + width_of x.kind = omega (arith, is, small, le) in
      let kind-is : width_of (kind_of (term_of x)) ≡ width_of x.kind = ap width_of i.kind in
      let w1 = w.1 in
      let total : bits_of (joined_behind p k high (map term_of xs)) + width_of (kind_of (term_of x)) ≤ width_of k = omega (arith, w1, kind-is, sum, le, wide) in
      let total-is : nat_le (bits_of (joined_behind p k high (map term_of xs)) + width_of (kind_of (term_of x))) (width_of k) ≡ true = grind (arith, total) in
      let below : bits_of (joined_behind p k high (map term_of xs)) + width_of (kind_of (term_of x)) ≤ now = omega (arith, w1, kind-is, sum) in (
        ap fit (last_joined p k high xs x) ∙ both _ (fit (joined_behind p k high (map term_of xs)) && fit (term_of x)) total-is (both (fit (joined_behind p k high (map term_of xs))) (fit (term_of x)) w.0 i.fits),
        subst (λ n. n ≤ now) (sym (ap bits_of (last_joined p k high xs x))) below,
      )

  pub begin_low : (limit from : ℕ) → LowTo limit from from []
  begin_low limit from p k high wide fits few = (fits, few)

  pub low_on : (limit from bits now : ℕ) (xs : List CoreExpr) (i : ℕ) (x : CoreExpr) → i < length xs → x ≡ get_or xs i x → now ≡ min (bits + width_of x.kind) 18446744073709551615 → limit < 4294967296
      → (all one narrow new : Bool) → (all ≡ true → LowTo limit from bits (take i xs)) → (one ≡ true → IsIn g x) → narrow ≡ (nat_le now limit && one) → new ≡ (all && narrow) → new ≡ true → LowTo limit from now (take (i + 1) xs)
  low_on limit from bits now xs i x h is sum small all one narrow new k l m n t =
      let w : (all && narrow) ≡ true = sym n ∙ t in
      let v : (nat_le now limit && one) ≡ true = sym m ∙ second all narrow w in
      subst (λ ys. LowTo limit from now ys) (sym (ap (λ n. take n xs) (add-one i) ∙ take-suc xs i x h ∙ ap (λ x. take i xs ++ x ∷ []) (sym is)))
      (one_lower limit from bits now (take i xs) x sum small (first (nat_le now limit) one v) (l (second (nat_le now limit) one v)) (k (first all narrow w)))

  pub some_in : (k : Kind) (one : CoreExpr) (more : List CoreExpr) (p : Place) → alone k one.kind more ≡ true → IsIn g one → AreLow g (width_of k) (width_of one.kind) more → IsTerm g k (joined p k (map term_of (one ∷ more)))
  some_in k one [] p a i low = record { fits = i.fits; kind = i.kind ∙ same-kind one.kind k a }
  some_in k one (x ∷ more) p a i low = record {
    fits = let b = few_bits (term_of one) i.fits in low p k (term_of one) refl i.fits (subst (λ n. bits_of (term_of one) ≤ n) (ap width_of i.kind) b);
    kind = joined_kind p k (term_of one) (term_of x) more;
  }

  pub some_told : (k : Kind) (one : CoreExpr) (more : List CoreExpr) (p : Place) (limit bits : ℕ) (single fits rest inner outer : Bool) → limit ≡ width_of k → bits ≡ width_of one.kind → single ≡ alone k one.kind more → (fits ≡ true → IsIn g one)
      → (rest ≡ true → AreLow g limit bits more) → inner ≡ (fits && rest) → outer ≡ (single && inner) → outer ≡ true → IsTerm g k (joined p k (map term_of (one ∷ more)))
  some_told k one more p limit bits single fits rest inner outer w v a f r m n t =
      let t1 : (single && inner) ≡ true = sym n ∙ t in
      let t2 : (fits && rest) ≡ true = sym m ∙ second single inner t1 in
      some_in k one more p (sym a ∙ first single inner t1) (f (first fits rest t2)) (subst (λ b. AreLow g (width_of k) b more) v (subst (λ l. AreLow g l bits more) w (r (second fits rest t2))))
