-- What stands for the nodes of trees, and what they read.
use Rattle.std.proofs.Common.{◌≡◌, ◌≤◌, arith, length, slice_get, refl, sym, ap, ◌∙◌, ℕ, Bool, true, false, List, [], ◌∷◌, ◌++◌, map, append_assoc, Option, Some, None, option_map, unwrap_or}
use Rattle.std.specs.Prelude.{flat_map, Result, OnOk}
use Rattle.scc_base.specs.declared.refusal.Place.{Place}
use Rattle.scc_base.specs.declared.names.Name.{Name}
use Rattle.scc_bits_kinds.specs.declared.kind.Kind.{Kind}
use Rattle.scc_bits_kinds.specs.declared.kind.Word.{Word}
use Rattle.scc_bits_kinds.specs.declared.op.Op.{Op}
use Rattle.scc_core.specs.declared.expr.CoreBase.{CoreBase, fold-CoreBase, fold-roll-CoreBase}
use Rattle.scc_core.specs.declared.expr.CoreBase.TheVariants as base
use Rattle.scc_core.specs.declared.expr.CoreBase.TheOpen.{CoreBase-F, CoreExprNode-F, CorePart-F, CorePick-F}
use Rattle.scc_core.specs.declared.expr.CoreBase.TheOpen as tree
use Rattle.scc_core.specs.declared.expr.CoreExpr.{CoreExpr, fold-roll-CoreExpr}
use Rattle.scc_core.specs.declared.expr.CoreExprNode.{CoreExprNode, out-CoreExprNode, out-roll-CoreExprNode, roll-CoreExprNode, fold-CoreExprNode, map-CoreExprNode, fold-roll-CoreExprNode}
use Rattle.scc_core.specs.declared.expr.CoreExprNode.TheVariants as node
use Rattle.scc_core.specs.declared.expr.CoreLeft.{CoreLeft, fold-roll-CoreLeft}
use Rattle.scc_core.specs.declared.expr.CorePart.{CorePart, out-CorePart, map-CorePart, fold_out-CorePart, fold-roll-CorePart}
use Rattle.scc_core.specs.declared.expr.CorePart.TheVariants as part
use Rattle.scc_core.specs.declared.expr.CorePick.{CorePick, out-CorePick, map-CorePick, fold_out-CorePick, fold-roll-CorePick}
use Rattle.scc_core.specs.declared.expr.CorePick.TheVariants as pick
use Rattle.scc_core.specs.declared.program.CellName.{CellName}
use Rattle.scc_core.specs.Operands.{first_in, first_of}
use Rattle.scc_core_spec.specs.Term.{Term, Left, Pick}
use Rattle.scc_core_spec.specs.Term as term
use Rattle.scc_core_spec.specs.Uses.{Use, inside, loads, picked}
use Rattle.scc_core_view.specs.Terms.{term_of, taken_of}
use Rattle.scc_core_view.specs.Terms as to
use Rattle.scc_rules_walks.proofs.Firsts.{each_ok}
use Rattle.scc_rules_walks.specs.Loads.{all_loads, first_loads, index_loads, is_load, nowhere, part_term, pick_term}

abbrev pub Layer : Type 0
Layer = CoreExprNode-F CoreBase CoreExprNode CorePart CorePick CoreExpr CoreLeft

abbrev pub node_term : CoreExprNode → to.Node
node_term = fold-CoreExprNode to.Base to.Node (Left → Left) to.Picking Term to.Taken to.base_node to.expr_node to.part_node to.pick_node to.expr_step to.left_step

abbrev pub base_term : CoreBase → to.Base
base_term = fold-CoreBase to.Base to.Node (Left → Left) to.Picking Term to.Taken to.base_node to.expr_node to.part_node to.pick_node to.expr_step to.left_step

abbrev layer_term : Layer → CoreExprNode-F to.Base to.Node (Left → Left) to.Picking Term to.Taken
layer_term = map-CoreExprNode CoreBase CoreExprNode CorePart CorePick CoreExpr CoreLeft to.Base to.Node (Left → Left) to.Picking Term to.Taken base_term node_term part_term pick_term term_of taken_of

term_is : (e : CoreExpr) → term_of e ≡ node_term e.node e.place e.kind
term_is e = fold-roll-CoreExpr to.Base to.Node (Left → Left) to.Picking Term to.Taken to.base_node to.expr_node to.part_node to.pick_node to.expr_step to.left_step (record { place = e.place; kind = e.kind; node = e.node })

by_node : (e : CoreExpr) (n : CoreExprNode) (x : Layer) → e.node ≡ n → roll-CoreExprNode x ≡ n → term_of e ≡ to.expr_node (layer_term x) e.place e.kind
by_node e n x is rolls =
    term_is e
    ∙ ap (λ m. node_term m e.place e.kind) (is ∙ sym rolls)
    ∙ ap (λ f. f e.place e.kind) (fold-roll-CoreExprNode to.Base to.Node (Left → Left) to.Picking Term to.Taken to.base_node to.expr_node to.part_node to.pick_node to.expr_step to.left_step x)

first_is : (e : CoreExpr) (n : CoreExprNode) (x : Layer) → e.node ≡ n → roll-CoreExprNode x ≡ n → first_of e ≡ first_in x
first_is e n x is rolls = ap (λ m. first_in (out-CoreExprNode m)) (is ∙ sym rolls) ∙ ap first_in (out-roll-CoreExprNode x)

pub nothing_more : {A : Type 0} (xs : List A) → xs ++ [] ≡ xs
nothing_more [] = refl
nothing_more (x ∷ xs) = ap (λ ys. x ∷ ys) (nothing_more xs)

-- ---- locations

pub left_is : (l : CoreLeft) (o : Option CorePick) → l.pick ≡ o
    → taken_of l ≡ record { left = to.extended (base_term l.base l.place) (map part_term l.parts); pick = to.pick_of (option_map pick_term o); of = option_map (λ t. t.of) (option_map pick_term o) }
left_is l None is =
    ap (λ o. taken_of (record { place = l.place; base = l.base; parts = l.parts; pick = o })) is
    ∙ fold-roll-CoreLeft to.Base to.Node (Left → Left) to.Picking Term to.Taken to.base_node to.expr_node to.part_node to.pick_node to.expr_step to.left_step (record { place = l.place; base = l.base; parts = l.parts; pick = None })
left_is l (Some q) is =
    ap (λ o. taken_of (record { place = l.place; base = l.base; parts = l.parts; pick = o })) is
    ∙ fold-roll-CoreLeft to.Base to.Node (Left → Left) to.Picking Term to.Taken to.base_node to.expr_node to.part_node to.pick_node to.expr_step to.left_step (record { place = l.place; base = l.base; parts = l.parts; pick = Some q })

abbrev pub stands : CorePart-F CoreBase CoreExprNode CorePart CorePick CoreExpr CoreLeft → Left → Left
stands y = to.part_node (map-CorePart CoreBase CoreExprNode CorePart CorePick CoreExpr CoreLeft to.Base to.Node (Left → Left) to.Picking Term to.Taken base_term node_term part_term pick_term term_of taken_of y)

part_inside : (p : CorePart) (l : Left) → inside (part_term p l) ≡ inside l ++ index_loads p
part_inside p l =
    ap (λ f. inside (f l)) (fold_out-CorePart to.Base to.Node (Left → Left) to.Picking Term to.Taken to.base_node to.expr_node to.part_node to.pick_node to.expr_step to.left_step p)
    ∙ by (out-CorePart p)
    ∙ ap (λ f. inside l ++ inside (f nowhere)) (sym (fold_out-CorePart to.Base to.Node (Left → Left) to.Picking Term to.Taken to.base_node to.expr_node to.part_node to.pick_node to.expr_step to.left_step p))
  where
    by : (y : CorePart-F CoreBase CoreExprNode CorePart CorePick CoreExpr CoreLeft) → inside (stands y l) ≡ inside l ++ inside (stands y nowhere)
    by (tree.Member n) = sym (nothing_more (inside l))
    by (tree.Index size at) = refl

parts_inside : (l : Left) (ps : List CorePart) → inside (to.extended l (map part_term ps)) ≡ inside l ++ flat_map index_loads ps
parts_inside l [] = sym (nothing_more (inside l))
parts_inside l (p ∷ ps) =
    parts_inside (part_term p l) ps
    ∙ ap (λ us. us ++ flat_map index_loads ps) (part_inside p l)
    ∙ append_assoc (inside l) (index_loads p) (flat_map index_loads ps)

behind_base : (l : CoreLeft) → inside (base_term l.base l.place) ≡ [] → inside (taken_of l).left ≡ flat_map index_loads l.parts
behind_base l none = ap (λ t. inside t.left) (left_is l l.pick refl) ∙ parts_inside (base_term l.base l.place) l.parts ∙ ap (λ us. us ++ flat_map index_loads l.parts) none

pub cell_inside : (l : CoreLeft) (n : ℕ) → l.base ≡ base.Cell n → inside (taken_of l).left ≡ flat_map index_loads l.parts
cell_inside l n is = behind_base l
    (ap (λ b. inside (base_term b l.place)) (is ∙ sym (base.rolls-Cell n))
    ∙ ap (λ f. inside (f l.place)) (fold-roll-CoreBase to.Base to.Node (Left → Left) to.Picking Term to.Taken to.base_node to.expr_node to.part_node to.pick_node to.expr_step to.left_step (tree.Cell n)))

pub front_inside : (l : CoreLeft) (name : CellName) → l.base ≡ base.Prefix name → inside (taken_of l).left ≡ flat_map index_loads l.parts
front_inside l name is = behind_base l
    (ap (λ b. inside (base_term b l.place)) (is ∙ sym (base.rolls-Prefix name))
    ∙ ap (λ f. inside (f l.place)) (fold-roll-CoreBase to.Base to.Node (Left → Left) to.Picking Term to.Taken to.base_node to.expr_node to.part_node to.pick_node to.expr_step to.left_step (tree.Prefix name)))

pub null_inside : (l : CoreLeft) → l.base ≡ base.Null → inside (taken_of l).left ≡ flat_map index_loads l.parts
null_inside l is = behind_base l
    (ap (λ b. inside (base_term b l.place)) (is ∙ sym base.rolls-Null)
    ∙ ap (λ f. inside (f l.place)) (fold-roll-CoreBase to.Base to.Node (Left → Left) to.Picking Term to.Taken to.base_node to.expr_node to.part_node to.pick_node to.expr_step to.left_step tree.Null))

-- ---- expressions: what is read beside the first operand

abbrev pub Reads : CoreExpr → List Use → Type 0
Reads e rest = loads (term_of e) ≡ first_loads (first_of e) ++ rest

reads_by : (e : CoreExpr) (n : CoreExprNode) (x : Layer) (rest : List Use) → e.node ≡ n → roll-CoreExprNode x ≡ n → loads (to.expr_node (layer_term x) e.place e.kind) ≡ first_loads (first_in x) ++ rest → Reads e rest
reads_by e n x rest is rolls h = ap loads (by_node e n x is rolls) ∙ h ∙ ap (λ o. first_loads o ++ rest) (sym (first_is e n x is rolls))

abbrev use_at : Place → Left → Use
use_at p l = record { place = p; left = l }

told : (e : CoreExpr) (us old now rest : List Use) → Reads e rest → old ≡ us ++ first_loads (first_of e) → now ≡ old ++ rest → now ≡ us ++ loads (term_of e)
told e us old now rest r h k = k ∙ ap (λ x. x ++ rest) h ∙ append_assoc us (first_loads (first_of e)) rest ∙ ap (λ x. us ++ x) (sym r)

joined_loads : (p : Place) (k : Kind) (high : Term) (es : List CoreExpr) → loads (to.joined_behind p k high (map term_of es)) ≡ loads high ++ all_loads es
joined_loads p k high [] = sym (nothing_more (loads high))
joined_loads p k high (e ∷ es) = joined_loads p k (term.Join p k high (term_of e)) es ∙ append_assoc (loads high) (loads (term_of e)) (all_loads es)

join_loads : (p : Place) (k : Kind) (es : List CoreExpr) → loads (to.joined p k (map term_of es)) ≡ all_loads es
join_loads p k [] = refl
join_loads p k (e ∷ es) = joined_loads p k (term_of e) es

join_reads : (e : CoreExpr) (es : List CoreExpr) → e.node ≡ node.Join es → Reads e (all_loads es)
join_reads e es is = reads_by e (node.Join es) (tree.Join es) _ is (node.rolls-Join es) (join_loads e.place e.kind es)

-- bits of what isn't a whole variable
beside_bits : (p : Place) (k : Kind) (t : Term) (q : Pick) → is_load t ≡ false → loads (to.picked p k t q) ≡ loads t ++ picked q
beside_bits p k t term.Whole h = sym (nothing_more (loads t))
beside_bits p k t (term.Bits a b) h = sym (nothing_more (loads t))
beside_bits p k (term.Literal q j w) (term.OneBit at) h = refl
beside_bits p k (term.Load q j l) (term.OneBit at) h = absurd cc
beside_bits p k (term.Read q j l) (term.OneBit at) h = refl
beside_bits p k (term.Convert q j e) (term.OneBit at) h = refl
beside_bits p k (term.Unary q j o e) (term.OneBit at) h = refl
beside_bits p k (term.Binary q j o a b) (term.OneBit at) h = refl
beside_bits p k (term.Choose q j t a b) (term.OneBit at) h = refl
beside_bits p k (term.Bit q a e) (term.OneBit at) h = refl
beside_bits p k (term.Range q j a x y) (term.OneBit at) h = refl
beside_bits p k (term.Join q j a b) (term.OneBit at) h = refl

bits_reads : (e a : CoreExpr) (q : CorePick) → e.node ≡ node.Pick a q → is_load (term_of a) ≡ false → Reads e (picked (pick_term q).pick)
bits_reads e a q is h = reads_by e (node.Pick a q) (tree.Pick a q) _ is (node.rolls-Pick a q) (beside_bits e.place e.kind (term_of a) (pick_term q).pick h)

-- bits of a whole variable: what is read last is the variable
record Lasts (first all bits : List Use) : Type 0 where
  front : List Use
  last : Use
  is : first ≡ front ++ last ∷ []
  gives : all ≡ (front ++ bits) ++ last ∷ []

held_bits : (p : Place) (k : Kind) (t : Term) (q : Pick) → is_load t ≡ true → Lasts (loads t) (loads (to.picked p k t q)) (picked q)
held_bits p k (term.Load x j l) term.Whole h = record { front = inside l; last = use_at x l; is = refl; gives = ap (λ us. us ++ use_at x l ∷ []) (sym (nothing_more (inside l))) }
held_bits p k (term.Load x j l) (term.OneBit at) h = record { front = inside l; last = use_at x l; is = refl; gives = sym (append_assoc (inside l) (loads at) (use_at x l ∷ [])) }
held_bits p k (term.Load x j l) (term.Bits a b) h = record { front = inside l; last = use_at x l; is = refl; gives = ap (λ us. us ++ use_at x l ∷ []) (sym (nothing_more (inside l))) }
held_bits p k (term.Literal q j w) y h = absurd cc
held_bits p k (term.Read q j l) y h = absurd cc
held_bits p k (term.Convert q j e) y h = absurd cc
held_bits p k (term.Unary q j o e) y h = absurd cc
held_bits p k (term.Binary q j o a b) y h = absurd cc
held_bits p k (term.Choose q j t a b) y h = absurd cc
held_bits p k (term.Bit q a e) y h = absurd cc
held_bits p k (term.Range q j a x z) y h = absurd cc
held_bits p k (term.Join q j a b) y h = absurd cc

bits_lasts : (e a : CoreExpr) (q : CorePick) → e.node ≡ node.Pick a q → is_load (term_of a) ≡ true → Lasts (first_loads (first_of e)) (loads (term_of e)) (picked (pick_term q).pick)
bits_lasts e a q is h =
    let x = held_bits e.place e.kind (term_of a) (pick_term q).pick h in record {
      front = x.front;
      last = x.last;
      is = ap first_loads (first_is e (node.Pick a q) (tree.Pick a q) is (node.rolls-Pick a q)) ∙ x.is;
      gives = ap loads (by_node e (node.Pick a q) (tree.Pick a q) is (node.rolls-Pick a q)) ∙ x.gives;
    }

-- what bits of an expression and a concatenation read, by the walk over them
pub pick_told : {E : Type 0} (r : Result (Unit {0}) E) (e a : CoreExpr) (q : CorePick) (us old now : List Use) (whole : Bool) → e.node ≡ node.Pick a q → whole ≡ is_load (term_of a) → old ≡ us ++ first_loads (first_of e)
    → (whole ≡ false → OnOk r (now ≡ old ++ picked (pick_term q).pick))
    → (whole ≡ true → (vs : List Use) (u : Use) → old ≡ vs ++ u ∷ [] → OnOk r (now ≡ (vs ++ picked (pick_term q).pick) ++ u ∷ []))
    → OnOk r (now ≡ us ++ loads (term_of e))
pick_told r e a q us old now false is i h f g = each_ok _ _ r (f refl) (λ x k. told e us old now _ (bits_reads e a q is (sym i)) h k)
pick_told r e a q us old now true is i h f g =
    let x = bits_lasts e a q is (sym i) in
    let bits = picked (pick_term q).pick in
    each_ok _ _ r (g refl (us ++ x.front) x.last (h ∙ ap (λ v. us ++ v) x.is ∙ sym (append_assoc us x.front (x.last ∷ []))))
    (λ y k. k ∙ ap (λ v. v ++ x.last ∷ []) (append_assoc us x.front bits) ∙ append_assoc us (x.front ++ bits) (x.last ∷ []) ∙ ap (λ v. us ++ v) (sym x.gives))

pub join_told : (e : CoreExpr) (es fs : List CoreExpr) (us old now : List Use) → e.node ≡ node.Join es → fs ≡ es → old ≡ us ++ first_loads (first_of e) → now ≡ old ++ all_loads fs → now ≡ us ++ loads (term_of e)
join_told e es fs us old now is same h k = told e us old now (all_loads es) (join_reads e es is) h (k ∙ ap (λ x. old ++ all_loads x) same)

-- ---- whole variables

behind_other : (p : Place) (k : Kind) (high t : Term) (es : List CoreExpr) → is_load (to.joined_behind p k (term.Join p k high t) (map term_of es)) ≡ false
behind_other p k high t [] = refl
behind_other p k high t (e ∷ es) = behind_other p k (term.Join p k high t) (term_of e) es

more_other : (e a b : CoreExpr) (xs es : List CoreExpr) → e.node ≡ node.Join es → es ≡ a ∷ (b ∷ xs) → is_load (term_of e) ≡ false
more_other e a b xs es is more =
    ap is_load (by_node e (node.Join es) (tree.Join es) is (node.rolls-Join es)) ∙ ap (λ ys. is_load (to.joined e.place e.kind (map term_of ys))) more
    ∙ behind_other e.place e.kind (term_of a) (term_of b) xs

pub many_other : (e : CoreExpr) (es : List CoreExpr) → e.node ≡ node.Join es → 2 ≤ length es → is_load (term_of e) ≡ false
many_other e [] is h = absurd (none h)
  where
    none : 2 ≤ 0 → ⊥
    none h = omega arith
many_other e (a ∷ []) is h = absurd (one h)
  where
    one : 2 ≤ 1 → ⊥
    one h = omega arith
many_other e (a ∷ (b ∷ xs)) is h = more_other e a b xs (a ∷ (b ∷ xs)) is refl

-- ---- lists that loops make

past_all : {A B : Type 0} (f : A → B) (xs : List A) → slice_get (map f xs) (length xs) ≡ None
past_all f [] = refl
past_all f (x ∷ xs) = past_all f xs

pub past_end : {A B : Type 0} (f : A → B) (xs : List A) (n : ℕ) → n ≡ length xs → slice_get (map f xs) n ≡ None
past_end f xs n is = ap (slice_get (map f xs)) is ∙ past_all f xs

pub begins : (us : List Use) (o : Option CoreExpr) → o ≡ None → us ≡ us ++ first_loads o
begins us o is = sym (nothing_more us) ∙ ap (λ x. us ++ first_loads x) (sym is)
