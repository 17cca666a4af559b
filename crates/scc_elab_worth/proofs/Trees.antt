-- What is said of trees is what the definitions make of their terms: by induction over trees.
use Rattle.std.proofs.Common.{◌≡◌, refl, sym, ap, subst, ◌∙◌, ℕ, Bool, true, false, ◌||◌, List, [], ◌∷◌, map, Option, Some, None, option_map, unwrap_or, Ok, Err}
use Rattle.std.specs.Prelude.{Result}
use Rattle.scc_base.specs.declared.refusal.Place.{Place}
use Rattle.scc_base.specs.declared.refusal.Refusal.{Refusal}
use Rattle.scc_base.specs.declared.refusal.Stop.{Stop}
use Rattle.scc_base.specs.declared.refusal.Stop.TheVariants as stop
use Rattle.scc_base.specs.declared.code.Code.TheVariants as reason
use Rattle.scc_bits_kinds.specs.declared.kind.Kind.{Kind}
use Rattle.scc_bits.specs.Value.{Number}
use Rattle.scc_semantics.specs.Location.{Location}
use Rattle.scc_core_spec.specs.First.{refused}
use Rattle.scc_core_spec.specs.Resolved.{Made, Stopped, made_map}
use Rattle.scc_plain_tree.specs.declared.program.Base.{Base}
use Rattle.scc_plain_tree.specs.declared.expr.PlainExpr.{PlainExpr, fold-roll-PlainExpr, ind-PlainExpr}
use Rattle.scc_plain_tree.specs.declared.expr.PlainLeft.{PlainLeft, map-PlainLeft, fold-roll-PlainLeft, ind-PlainLeft}
use Rattle.scc_plain_tree.specs.declared.expr.PlainBase.{PlainBase, roll-PlainBase, map-PlainBase, fold-PlainBase, fold-roll-PlainBase}
use Rattle.scc_plain_tree.specs.declared.expr.PlainExprNode.{PlainExprNode, roll-PlainExprNode, map-PlainExprNode, fold-PlainExprNode, fold-roll-PlainExprNode}
use Rattle.scc_plain_tree.specs.declared.expr.PlainPart.{PlainPart, roll-PlainPart, map-PlainPart, fold-PlainPart, fold-roll-PlainPart}
use Rattle.scc_plain_tree.specs.declared.expr.PlainPick.{PlainPick, roll-PlainPick, map-PlainPick, fold-PlainPick, fold-roll-PlainPick}
use Rattle.scc_plain_tree.specs.declared.expr.PlainBase.TheOpen.{PlainBase-F, PlainExprNode-F, PlainPart-F, PlainPick-F, PlainLeft-F}
use Rattle.scc_plain_tree.specs.declared.expr.PlainBase.TheOpen as tree
use Rattle.scc_elab_spec.specs.Term.{Term, Left, Pick, Load, Read, Join, kind_of, place_at}
use Rattle.scc_elab_spec.specs.Term as term
use Rattle.scc_elab_spec.specs.Worth.{worth, word_at, spot as spot_at}
use Rattle.scc_plain_view.specs.Terms as to
use Rattle.scc_plain_view.specs.Terms.{term_of, taken_of}
use Rattle.scc_elab_worth.specs.Said.{Said, Is, Refuses, Nothing, and_said, Gives}
use Rattle.scc_elab_worth.specs.Numbers.{above}
use Rattle.scc_elab_worth.specs.Spots.{Around, Spot, spot, followed}
use Rattle.scc_elab_worth.specs.Spots as spots
use Rattle.scc_elab_worth.specs.Worths as seen
use Rattle.scc_elab_worth.specs.Worths.{SeenExpr, SeenPick, SeenPart, SeenBase, SeenLeft, is_more, walked, picked, kind_read, held, held_at, joined_below, joined_behind, all_joined}
use Rattle.scc_elab_worth.specs.Meant.{site_of, IsWorth, IsSpot}
use Rattle.scc_elab_worth.proofs.Words.{Means, convert_means, unary_means, binary_means, choose_means, bit_means, range_means, join_word, join_stops, join_stopped}
use Rattle.scc_elab_worth.proofs.Places.{Stands, Leads, local_leads, this_leads, follow_leads, member_leads, element_leads}

said_then : {A B C : Type 0} (x : Said A) (f : A → Said B) (h : B → Said C) → and_said x (λ a. and_said (f a) h) ≡ and_said (and_said x f) h
said_then (Is a) f h = refl
said_then (Refuses r) f h = refl
said_then Nothing f h = refl

said_is : {A : Type 0} (x : Said A) → x ≡ and_said x (λ a. Is a)
said_is (Is a) = refl
said_is (Refuses r) = refl
said_is Nothing = refl

or_true : (b : Bool) → (b || true) ≡ true
or_true true = refl
or_true false = refl

or_false : (b : Bool) → (b || false) ≡ b
or_false true = refl
or_false false = refl

module _ (g : Around) where
  -- ---- folds over the parts of trees

  abbrev term_base : PlainBase → to.Base
  term_base = fold-PlainBase to.Base to.Node (Left → Left) to.Picking Term to.Taken to.base_node to.expr_node to.part_node to.pick_node to.expr_step to.left_step

  abbrev term_node : PlainExprNode → to.Node
  term_node = fold-PlainExprNode to.Base to.Node (Left → Left) to.Picking Term to.Taken to.base_node to.expr_node to.part_node to.pick_node to.expr_step to.left_step

  abbrev term_part : PlainPart → Left → Left
  term_part = fold-PlainPart to.Base to.Node (Left → Left) to.Picking Term to.Taken to.base_node to.expr_node to.part_node to.pick_node to.expr_step to.left_step

  abbrev term_pick : PlainPick → to.Picking
  term_pick = fold-PlainPick to.Base to.Node (Left → Left) to.Picking Term to.Taken to.base_node to.expr_node to.part_node to.pick_node to.expr_step to.left_step

  abbrev seen_base : PlainBase → SeenBase
  seen_base = fold-PlainBase SeenBase seen.Node SeenPart SeenPick SeenExpr SeenLeft (seen.base_node g) (seen.expr_node g) (seen.part_node g) (seen.pick_node g) seen.expr_step seen.left_step

  abbrev seen_node : PlainExprNode → seen.Node
  seen_node = fold-PlainExprNode SeenBase seen.Node SeenPart SeenPick SeenExpr SeenLeft (seen.base_node g) (seen.expr_node g) (seen.part_node g) (seen.pick_node g) seen.expr_step seen.left_step

  -- ---- what holds of each

  record Based (b : SeenBase) (l : Left) (p : Place) (soft follow : Bool) : Type 0 where
    there : Said Spot
    first : (f : Spot → Said Spot) → b.first p soft follow f ≡ and_said there f
    leads : Leads g soft follow l there

  abbrev BaseMeans : SeenBase → to.Base → Type 0
  BaseMeans b t = (p : Place) → ((soft follow : Bool) → Based b (t p) p soft follow) × (place_at (t p) ≡ p)

  abbrev NodeMeans : seen.Node → to.Node → Type 0
  NodeMeans n t = (p : Place) (k : Kind) → Means (site_of g) (t p k) (n p k).known

  abbrev PartMeans : SeenPart → (Left → Left) → Type 0
  PartMeans q t = (p : Place) (soft follow : Bool) (l : Left) (x : Said Spot) → place_at l ≡ p → Leads g soft true l x → Leads g soft follow (t l) (and_said x (q p soft follow)) × (place_at (t l) ≡ p)

  abbrev PickMeans : SeenPick → to.Picking → Type 0
  PickMeans c t = (t.of ≡ c.of) × ((p : Place) (k : Kind) (e : Term) (x : Said Number) → Means (site_of g) e x → Means (site_of g) (to.picked p k e t.pick) (and_said x (c.bits k)))

  abbrev ExprMeans : SeenExpr → Term → Type 0
  ExprMeans e t = Means (site_of g) t e.known

  abbrev LeftMeans : SeenLeft → to.Taken → Type 0
  LeftMeans l t = ((soft follow : Bool) → Leads g soft follow t.left (l.at soft follow))
      × ((k : Kind) → unwrap_or t.of k ≡ kind_read l.pick k)
      × ((p : Place) (k : Kind) (e : Term) (x : Said Number) → Means (site_of g) e x → Means (site_of g) (to.picked p k e t.pick) (and_said x (picked l.pick k)))

  abbrev BaseHolds : PlainBase → Type 0
  BaseHolds b = BaseMeans (seen_base b) (term_base b)

  abbrev NodeHolds : PlainExprNode → Type 0
  NodeHolds n = NodeMeans (seen_node n) (term_node n)

  abbrev PartHolds : PlainPart → Type 0
  PartHolds q = PartMeans (seen.part g q) (term_part q)

  abbrev PickHolds : PlainPick → Type 0
  PickHolds c = PickMeans (seen.pick g c) (term_pick c)

  abbrev ExprHolds : PlainExpr → Type 0
  ExprHolds e = ExprMeans (seen.expr g e) (term_of e)

  abbrev LeftHolds : PlainLeft → Type 0
  LeftHolds l = LeftMeans (seen.left g l) (taken_of l)

  -- ---- loads and reads

  loaded_there : (p : Place) (k : Kind) (l : Left) (o : Option Location) (b : Base) (v : Bool) → spot_at (site_of g) false true l ≡ Made o → Stands g l o b
      → Means (site_of g) (Load p k l) (held_at g k None (spot o b v) o)
  loaded_there p k l None b v e h = tt
  loaded_there p k l (Some q) b v e h = (ap (made_map (word_at (site_of g))) e, refl)

  loaded : (p : Place) (k : Kind) (l : Left) (x : Said Spot) → Leads g false true l x → Means (site_of g) (Load p k l) (and_said x (held g k None))
  loaded p k l (Is x) h = loaded_there p k l x.at x.base x.vector h.0 h.1
  loaded p k l (Refuses r) h = ap (made_map (word_at (site_of g))) h
  loaded p k l Nothing h = tt

  held_then : (k : Kind) (c : Option SeenPick) (x : Said Spot) → and_said (and_said x (held g (kind_read c k) None)) (picked c k) ≡ and_said x (held g k c)
  held_then k c (Is x) = by x.at
    where
      by : (o : Option Location) → and_said (held_at g (kind_read c k) None x o) (picked c k) ≡ held_at g k c x o
      by None = refl
      by (Some q) = refl
  held_then k c (Refuses r) = refl
  held_then k c Nothing = refl

  load_means : (p : Place) (k : Kind) (l : SeenLeft) (t : to.Taken) → LeftMeans l t → Means (site_of g) (to.picked p k (Load p (unwrap_or t.of k) t.left) t.pick) (and_said (l.at false true) (held g k l.pick))
  load_means p k l t h =
      let j = unwrap_or t.of k in
      subst (Means (site_of g) (to.picked p k (Load p j t.left) t.pick))
      (ap (λ j. and_said (and_said (l.at false true) (held g j None)) (picked l.pick k)) (h.1 k) ∙ held_then k l.pick (l.at false true))
      (h.2 p k (Load p j t.left) (and_said (l.at false true) (held g j None)) (loaded p j t.left (l.at false true) (h.0 false true)))

  read_means : (p : Place) (k j : Kind) (l : Left) (c : Pick) → Means (site_of g) (to.picked p k (Read p j l) c) (Refuses (refused reason.Constructor p))
  read_means p k j l term.Whole = refl
  read_means p k j l (term.OneBit i) = refl
  read_means p k j l (term.Bits a b) = refl

  -- ---- concatenations

  stop_behind : (p : Place) (k : Kind) (ts : List Term) (high : Term) (r : Refusal) → worth (site_of g) high ≡ Stopped r → worth (site_of g) (to.joined_behind p k high ts) ≡ Stopped r
  stop_behind p k [] high r h = h
  stop_behind p k (t ∷ ts) high r h = stop_behind p k ts (Join p k high t) r (join_stopped (site_of g) p k high t r h)

  below_step : (p : Place) (k : Kind) (high t : Term) (ts : List Term) (w : ℕ) (es : List SeenExpr) → worth (site_of g) high ≡ Made w
      → ((v : Number) → worth (site_of g) (Join p k high t) ≡ Made (above w v) → Means (site_of g) (to.joined_behind p k (Join p k high t) ts) (joined_below k es (above w v)))
      → (x : Said Number) → Means (site_of g) t x → Means (site_of g) (to.joined_behind p k (Join p k high t) ts) (and_said x (λ v. joined_below k es (above w v)))
  below_step p k high t ts w es h f (Is v) m = f v (join_word (site_of g) p k high t w v h m)
  below_step p k high t ts w es h f (Refuses r) m = stop_behind p k ts (Join p k high t) r (join_stops (site_of g) p k high t w r h m)
  below_step p k high t ts w es h f Nothing m = tt

  module _ (B N Q C E L : Type 0) (bv : B → PlainBase) (nv : N → PlainExprNode) (qv : Q → PlainPart) (cv : C → PlainPick) (ev : E → PlainExpr) (lv : L → PlainLeft)
      (bh : (b : B) → BaseHolds (bv b)) (qh : (q : Q) → PartHolds (qv q)) (ch : (c : C) → PickHolds (cv c)) (eh : (e : E) → ExprHolds (ev e)) (lh : (l : L) → LeftHolds (lv l)) where
    tail_means : (p : Place) (k : Kind) (es : List E) (high : Term) (w : ℕ) → worth (site_of g) high ≡ Made w → kind_of high ≡ k
        → Means (site_of g) (to.joined_behind p k high (map term_of (map ev es))) (joined_below k (map (seen.expr g) (map ev es)) w)
    tail_means p k [] high w h j = (h, j)
    tail_means p k (e ∷ es) high w h j = below_step p k high (term_of (ev e)) (map term_of (map ev es)) w (map (seen.expr g) (map ev es)) h
        (λ v q. tail_means p k es (Join p k high (term_of (ev e))) (above w v) q refl) (seen.expr g (ev e)).known (eh e)

    first_means : (p : Place) (k : Kind) (es : List E) (t : Term) (v : Number) → Means (site_of g) t (Is v)
        → Means (site_of g) (to.joined_behind p k t (map term_of (map ev es))) (joined_behind k (map (seen.expr g) (map ev es)) v)
    first_means p k [] t v m = m
    first_means p k (e ∷ es) t v m = below_step p k t (term_of (ev e)) (map term_of (map ev es)) v.word (map (seen.expr g) (map ev es)) m.0
        (λ x q. tail_means p k es (Join p k t (term_of (ev e))) (above v.word x) q refl) (seen.expr g (ev e)).known (eh e)

    joined_means : (p : Place) (k : Kind) (es : List E) → Means (site_of g) (to.joined p k (map term_of (map ev es))) (all_joined k (map (seen.expr g) (map ev es)))
    joined_means p k [] = (refl, refl)
    joined_means p k (e ∷ es) = by (seen.expr g (ev e)).known (eh e) (first_means p k es (term_of (ev e)))
      where
        by : (x : Said Number) → Means (site_of g) (term_of (ev e)) x
            → ((v : Number) → Means (site_of g) (term_of (ev e)) (Is v) → Means (site_of g) (to.joined_behind p k (term_of (ev e)) (map term_of (map ev es))) (joined_behind k (map (seen.expr g) (map ev es)) v))
            → Means (site_of g) (to.joined_behind p k (term_of (ev e)) (map term_of (map ev es))) (and_said x (joined_behind k (map (seen.expr g) (map ev es))))
        by (Is v) m f = f v m
        by (Refuses r) m f = stop_behind p k (map term_of (map ev es)) (term_of (ev e)) r m
        by Nothing m f = tt

    abbrev inner_node : PlainExprNode-F B N Q C E L → PlainExprNode-F PlainBase PlainExprNode PlainPart PlainPick PlainExpr PlainLeft
    inner_node = map-PlainExprNode B N Q C E L PlainBase PlainExprNode PlainPart PlainPick PlainExpr PlainLeft bv nv qv cv ev lv

    node_by : (y : PlainExprNode-F B N Q C E L) → NodeMeans
        (seen.expr_node g (map-PlainExprNode PlainBase PlainExprNode PlainPart PlainPick PlainExpr PlainLeft SeenBase seen.Node SeenPart SeenPick SeenExpr SeenLeft seen_base seen_node (seen.part g) (seen.pick g) (seen.expr g) (seen.left g) (inner_node y)))
        (to.expr_node (map-PlainExprNode PlainBase PlainExprNode PlainPart PlainPick PlainExpr PlainLeft to.Base to.Node (Left → Left) to.Picking Term to.Taken term_base term_node term_part term_pick term_of taken_of (inner_node y)))
    node_by (tree.Lit w) p k = (refl, refl)
    node_by (tree.Load l) p k = load_means p k (seen.left g (lv l)) (taken_of (lv l)) (lh l)
    node_by (tree.Read l) p k = read_means p k (unwrap_or (taken_of (lv l)).of k) (taken_of (lv l)).left (taken_of (lv l)).pick
    node_by (tree.Convert e) p k = convert_means (site_of g) p k (term_of (ev e)) (seen.expr g (ev e)).known (eh e)
    node_by (tree.Operate o a None) p k = unary_means (site_of g) p k o (term_of (ev a)) (seen.expr g (ev a)).known (eh a)
    node_by (tree.Operate o a (Some b)) p k = binary_means (site_of g) p k o (term_of (ev a)) (term_of (ev b)) (seen.expr g (ev a)).known (seen.expr g (ev b)).known (eh a) (eh b)
    node_by (tree.Choose t a b) p k = choose_means (site_of g) p k (term_of (ev t)) (term_of (ev a)) (term_of (ev b)) (seen.expr g (ev t)).known (seen.expr g (ev a)).known (seen.expr g (ev b)).known (eh t) (eh a) (eh b)
    node_by (tree.Pick e c) p k = (ch c).1 p k (term_of (ev e)) (seen.expr g (ev e)).known (eh e)
    node_by (tree.Join es) p k = joined_means p k es

    node_holds : (y : PlainExprNode-F B N Q C E L) → NodeHolds (roll-PlainExprNode (inner_node y))
    node_holds y = subst (λ t. NodeMeans (seen_node (roll-PlainExprNode (inner_node y))) t) (sym (fold-roll-PlainExprNode to.Base to.Node (Left → Left) to.Picking Term to.Taken to.base_node to.expr_node to.part_node to.pick_node to.expr_step to.left_step (inner_node y)))
        (subst (λ n. NodeMeans n (to.expr_node (map-PlainExprNode PlainBase PlainExprNode PlainPart PlainPick PlainExpr PlainLeft to.Base to.Node (Left → Left) to.Picking Term to.Taken term_base term_node term_part term_pick term_of taken_of (inner_node y))))
        (sym (fold-roll-PlainExprNode SeenBase seen.Node SeenPart SeenPick SeenExpr SeenLeft (seen.base_node g) (seen.expr_node g) (seen.part_node g) (seen.pick_node g) seen.expr_step seen.left_step (inner_node y))) (node_by y))

    abbrev inner_base : PlainBase-F B N Q C E L → PlainBase-F PlainBase PlainExprNode PlainPart PlainPick PlainExpr PlainLeft
    inner_base = map-PlainBase B N Q C E L PlainBase PlainExprNode PlainPart PlainPick PlainExpr PlainLeft bv nv qv cv ev lv

    base_by : (y : PlainBase-F B N Q C E L) → BaseMeans
        (seen.base_node g (map-PlainBase PlainBase PlainExprNode PlainPart PlainPick PlainExpr PlainLeft SeenBase seen.Node SeenPart SeenPick SeenExpr SeenLeft seen_base seen_node (seen.part g) (seen.pick g) (seen.expr g) (seen.left g) (inner_base y)))
        (to.base_node (map-PlainBase PlainBase PlainExprNode PlainPart PlainPick PlainExpr PlainLeft to.Base to.Node (Left → Left) to.Picking Term to.Taken term_base term_node term_part term_pick term_of taken_of (inner_base y)))
    base_by (tree.Local n) p = ((λ soft follow. record { there = _; first = λ f. refl; leads = local_leads g p soft follow n }), refl)
    base_by tree.This p = ((λ soft follow. record { there = spots.this g g.function.class; first = λ f. refl; leads = this_leads g p soft follow }), refl)
    base_by (tree.Answer n) p = ((λ soft follow. record { there = Refuses (refused reason.Constructor p); first = λ f. refl; leads = refl }), refl)
    base_by (tree.Follow l) p = (
      (λ soft follow. record {
        there = and_said ((seen.left g (lv l)).at soft true) (followed g p soft);
        first = λ f. said_then ((seen.left g (lv l)).at soft true) (followed g p soft) f;
        leads = follow_leads g p soft follow (taken_of (lv l)).left ((seen.left g (lv l)).at soft true) ((lh l).0 soft true);
      }),
      refl,
    )

    base_holds : (y : PlainBase-F B N Q C E L) → BaseHolds (roll-PlainBase (inner_base y))
    base_holds y = subst (λ t. BaseMeans (seen_base (roll-PlainBase (inner_base y))) t) (sym (fold-roll-PlainBase to.Base to.Node (Left → Left) to.Picking Term to.Taken to.base_node to.expr_node to.part_node to.pick_node to.expr_step to.left_step (inner_base y)))
        (subst (λ n. BaseMeans n (to.base_node (map-PlainBase PlainBase PlainExprNode PlainPart PlainPick PlainExpr PlainLeft to.Base to.Node (Left → Left) to.Picking Term to.Taken term_base term_node term_part term_pick term_of taken_of (inner_base y))))
        (sym (fold-roll-PlainBase SeenBase seen.Node SeenPart SeenPick SeenExpr SeenLeft (seen.base_node g) (seen.expr_node g) (seen.part_node g) (seen.pick_node g) seen.expr_step seen.left_step (inner_base y))) (base_by y))

    abbrev inner_part : PlainPart-F B N Q C E L → PlainPart-F PlainBase PlainExprNode PlainPart PlainPick PlainExpr PlainLeft
    inner_part = map-PlainPart B N Q C E L PlainBase PlainExprNode PlainPart PlainPick PlainExpr PlainLeft bv nv qv cv ev lv

    part_by : (y : PlainPart-F B N Q C E L) → PartMeans
        (seen.part_node g (map-PlainPart PlainBase PlainExprNode PlainPart PlainPick PlainExpr PlainLeft SeenBase seen.Node SeenPart SeenPick SeenExpr SeenLeft seen_base seen_node (seen.part g) (seen.pick g) (seen.expr g) (seen.left g) (inner_part y)))
        (to.part_node (map-PlainPart PlainBase PlainExprNode PlainPart PlainPick PlainExpr PlainLeft to.Base to.Node (Left → Left) to.Picking Term to.Taken term_base term_node term_part term_pick term_of taken_of (inner_part y)))
    part_by (tree.Member n) p soft follow l x q h = (member_leads g p soft follow n l x q h, q)
    part_by (tree.Index e) p soft follow l x q h = (element_leads g soft follow l (term_of (ev e)) x (seen.expr g (ev e)).known h (eh e), q)

    part_holds : (y : PlainPart-F B N Q C E L) → PartHolds (roll-PlainPart (inner_part y))
    part_holds y = subst (λ t. PartMeans (seen.part g (roll-PlainPart (inner_part y))) t) (sym (fold-roll-PlainPart to.Base to.Node (Left → Left) to.Picking Term to.Taken to.base_node to.expr_node to.part_node to.pick_node to.expr_step to.left_step (inner_part y)))
        (subst (λ n. PartMeans n (to.part_node (map-PlainPart PlainBase PlainExprNode PlainPart PlainPick PlainExpr PlainLeft to.Base to.Node (Left → Left) to.Picking Term to.Taken term_base term_node term_part term_pick term_of taken_of (inner_part y))))
        (sym (fold-roll-PlainPart SeenBase seen.Node SeenPart SeenPick SeenExpr SeenLeft (seen.base_node g) (seen.expr_node g) (seen.part_node g) (seen.pick_node g) seen.expr_step seen.left_step (inner_part y))) (part_by y))

    abbrev inner_pick : PlainPick-F B N Q C E L → PlainPick-F PlainBase PlainExprNode PlainPart PlainPick PlainExpr PlainLeft
    inner_pick = map-PlainPick B N Q C E L PlainBase PlainExprNode PlainPart PlainPick PlainExpr PlainLeft bv nv qv cv ev lv

    pick_by : (y : PlainPick-F B N Q C E L) → PickMeans
        (seen.pick_node g (map-PlainPick PlainBase PlainExprNode PlainPart PlainPick PlainExpr PlainLeft SeenBase seen.Node SeenPart SeenPick SeenExpr SeenLeft seen_base seen_node (seen.part g) (seen.pick g) (seen.expr g) (seen.left g) (inner_pick y)))
        (to.pick_node (map-PlainPick PlainBase PlainExprNode PlainPart PlainPick PlainExpr PlainLeft to.Base to.Node (Left → Left) to.Picking Term to.Taken term_base term_node term_part term_pick term_of taken_of (inner_pick y)))
    pick_by (tree.Bit j e) = (refl, λ p k t x m. bit_means (site_of g) p t (term_of (ev e)) x (seen.expr g (ev e)).known m (eh e))
    pick_by (tree.Range j a b) = (refl, λ p k t x m. range_means (site_of g) p k t a b x m)

    pick_holds : (y : PlainPick-F B N Q C E L) → PickHolds (roll-PlainPick (inner_pick y))
    pick_holds y = subst (λ t. PickMeans (seen.pick g (roll-PlainPick (inner_pick y))) t) (sym (fold-roll-PlainPick to.Base to.Node (Left → Left) to.Picking Term to.Taken to.base_node to.expr_node to.part_node to.pick_node to.expr_step to.left_step (inner_pick y)))
        (subst (λ n. PickMeans n (to.pick_node (map-PlainPick PlainBase PlainExprNode PlainPart PlainPick PlainExpr PlainLeft to.Base to.Node (Left → Left) to.Picking Term to.Taken term_base term_node term_part term_pick term_of taken_of (inner_pick y))))
        (sym (fold-roll-PlainPick SeenBase seen.Node SeenPart SeenPick SeenExpr SeenLeft (seen.base_node g) (seen.expr_node g) (seen.part_node g) (seen.pick_node g) seen.expr_step seen.left_step (inner_pick y))) (pick_by y))

    -- ---- locations

    walked_leads : (qs : List Q) (p : Place) (soft follow : Bool) (l : Left) (x : Said Spot) → place_at l ≡ p → Leads g soft (follow || is_more (map (seen.part g) (map qv qs))) l x
        → Leads g soft follow (to.extended l (map term_part (map qv qs))) (and_said x (walked p soft follow (map (seen.part g) (map qv qs))))
    walked_leads [] p soft follow l x q h = subst (λ y. Leads g soft follow l y) (said_is x) (subst (λ b. Leads g soft b l x) (or_false follow) h)
    walked_leads (a ∷ qs) p soft follow l x q h =
        let parts = map (seen.part g) (map qv qs) in
        let z = qh a p soft (follow || is_more parts) l x q (subst (λ b. Leads g soft b l x) (or_true follow) h) in
        subst (λ y. Leads g soft follow (to.extended (term_part (qv a) l) (map term_part (map qv qs))) y) (sym (said_then x (seen.part g (qv a) p soft (follow || is_more parts)) (walked p soft follow parts)))
        (walked_leads qs p soft follow (term_part (qv a) l) (and_said x (seen.part g (qv a) p soft (follow || is_more parts))) z.1 z.0)

    picked_by : (c : Option C) (p : Place) (k : Kind) (e : Term) (x : Said Number) → Means (site_of g) e x
        → Means (site_of g) (to.picked p k e (to.pick_of (option_map term_pick (option_map cv c)))) (and_said x (picked (option_map (seen.pick g) (option_map cv c)) k))
    picked_by None p k e x m = subst (Means (site_of g) e) (said_is x) m
    picked_by (Some c) p k e x m = (ch c).1 p k e x m

    read_by : (c : Option C) (k : Kind) → unwrap_or (option_map (λ (t : to.Picking). t.of) (option_map term_pick (option_map cv c))) k ≡ kind_read (option_map (seen.pick g) (option_map cv c)) k
    read_by None k = refl
    read_by (Some c) k = (ch c).0

    left_by : (q : Place) (b : B) (qs : List Q) (c : Option C) → LeftMeans
        (seen.left_step (record { place = q; base = seen_base (bv b); parts = map (seen.part g) (map qv qs); pick = option_map (seen.pick g) (option_map cv c) }))
        (to.left_step (record { place = q; base = term_base (bv b); parts = map term_part (map qv qs); pick = option_map term_pick (option_map cv c) }))
    left_by q b qs c = (leads, read_by c, picked_by c)
      where
        leads : (soft follow : Bool) → Leads g soft follow (to.extended (term_base (bv b) q) (map term_part (map qv qs)))
            ((seen_base (bv b)).first q soft (follow || is_more (map (seen.part g) (map qv qs))) (walked q soft follow (map (seen.part g) (map qv qs))))
        leads soft follow =
            let parts = map (seen.part g) (map qv qs) in
            let r = (bh b q).0 soft (follow || is_more parts) in
            subst (λ y. Leads g soft follow (to.extended (term_base (bv b) q) (map term_part (map qv qs))) y) (sym (r.first (walked q soft follow parts)))
            (walked_leads qs q soft follow (term_base (bv b) q) r.there (bh b q).1 r.leads)

    abbrev as_left : PlainLeft-F PlainBase PlainExprNode PlainPart PlainPick PlainExpr PlainLeft → PlainLeft
    as_left z = record { place = z.place; base = z.base; parts = z.parts; pick = z.pick }

    abbrev inner_left : PlainLeft-F B N Q C E L → PlainLeft
    inner_left y = as_left (map-PlainLeft B N Q C E L PlainBase PlainExprNode PlainPart PlainPick PlainExpr PlainLeft bv nv qv cv ev lv y)

    left_holds : (q : Place) (b : B) (qs : List Q) (c : Option C) → LeftHolds (inner_left (record { place = q; base = b; parts = qs; pick = c }))
    left_holds q b qs None = subst (λ t. LeftMeans (seen.left g (record { place = q; base = bv b; parts = map qv qs; pick = None })) t)
        (sym (fold-roll-PlainLeft to.Base to.Node (Left → Left) to.Picking Term to.Taken to.base_node to.expr_node to.part_node to.pick_node to.expr_step to.left_step (record { place = q; base = bv b; parts = map qv qs; pick = None })))
        (subst (λ n. LeftMeans n (to.left_step (record { place = q; base = term_base (bv b); parts = map term_part (map qv qs); pick = None })))
        (sym (fold-roll-PlainLeft SeenBase seen.Node SeenPart SeenPick SeenExpr SeenLeft (seen.base_node g) (seen.expr_node g) (seen.part_node g) (seen.pick_node g) seen.expr_step seen.left_step (record { place = q; base = bv b; parts = map qv qs; pick = None })))
        (left_by q b qs None))
    left_holds q b qs (Some c) = subst (λ t. LeftMeans (seen.left g (record { place = q; base = bv b; parts = map qv qs; pick = Some (cv c) })) t)
        (sym (fold-roll-PlainLeft to.Base to.Node (Left → Left) to.Picking Term to.Taken to.base_node to.expr_node to.part_node to.pick_node to.expr_step to.left_step (record { place = q; base = bv b; parts = map qv qs; pick = Some (cv c) })))
        (subst (λ n. LeftMeans n (to.left_step (record { place = q; base = term_base (bv b); parts = map term_part (map qv qs); pick = Some (term_pick (cv c)) })))
        (sym (fold-roll-PlainLeft SeenBase seen.Node SeenPart SeenPick SeenExpr SeenLeft (seen.base_node g) (seen.expr_node g) (seen.part_node g) (seen.pick_node g) seen.expr_step seen.left_step (record { place = q; base = bv b; parts = map qv qs; pick = Some (cv c) })))
        (left_by q b qs (Some c)))

  expr_holds : (q : Place) (k : Kind) (n : PlainExprNode) → NodeHolds n → ExprHolds (record { place = q; kind = k; node = n })
  expr_holds q k n h = subst (λ t. ExprMeans (seen.expr g (record { place = q; kind = k; node = n })) t)
      (sym (fold-roll-PlainExpr to.Base to.Node (Left → Left) to.Picking Term to.Taken to.base_node to.expr_node to.part_node to.pick_node to.expr_step to.left_step (record { place = q; kind = k; node = n })))
      (subst (λ e. ExprMeans e (term_node n q k))
      (sym (fold-roll-PlainExpr SeenBase seen.Node SeenPart SeenPick SeenExpr SeenLeft (seen.base_node g) (seen.expr_node g) (seen.part_node g) (seen.pick_node g) seen.expr_step seen.left_step (record { place = q; kind = k; node = n })))
      (h q k))

  -- trees with what holds of them
  abbrev OfBase : Type 0
  OfBase = (b : PlainBase) × BaseHolds b

  abbrev OfNode : Type 0
  OfNode = (n : PlainExprNode) × NodeHolds n

  abbrev OfPart : Type 0
  OfPart = (q : PlainPart) × PartHolds q

  abbrev OfPick : Type 0
  OfPick = (c : PlainPick) × PickHolds c

  abbrev OfExpr : Type 0
  OfExpr = (e : PlainExpr) × ExprHolds e

  abbrev OfLeft : Type 0
  OfLeft = (l : PlainLeft) × LeftHolds l

  by_expr : (e : PlainExpr) → ExprHolds e
  by_expr = ind-PlainExpr BaseHolds NodeHolds PartHolds PickHolds ExprHolds LeftHolds
      (λ x y is. subst (λ z. BaseHolds (roll-PlainBase z)) is (base_holds _ _ _ _ _ _ (λ e. e.0) (λ e. e.0) (λ e. e.0) (λ e. e.0) (λ e. e.0) (λ e. e.0) (λ e. e.1) (λ e. e.1) (λ e. e.1) (λ e. e.1) (λ e. e.1) y))
      (λ x y is. subst (λ z. NodeHolds (roll-PlainExprNode z)) is (node_holds _ _ _ _ _ _ (λ e. e.0) (λ e. e.0) (λ e. e.0) (λ e. e.0) (λ e. e.0) (λ e. e.0) (λ e. e.1) (λ e. e.1) (λ e. e.1) (λ e. e.1) (λ e. e.1) y))
      (λ x y is. subst (λ z. PartHolds (roll-PlainPart z)) is (part_holds _ _ _ _ _ _ (λ e. e.0) (λ e. e.0) (λ e. e.0) (λ e. e.0) (λ e. e.0) (λ e. e.0) (λ e. e.1) (λ e. e.1) (λ e. e.1) (λ e. e.1) (λ e. e.1) y))
      (λ x y is. subst (λ z. PickHolds (roll-PlainPick z)) is (pick_holds _ _ _ _ _ _ (λ e. e.0) (λ e. e.0) (λ e. e.0) (λ e. e.0) (λ e. e.0) (λ e. e.0) (λ e. e.1) (λ e. e.1) (λ e. e.1) (λ e. e.1) (λ e. e.1) y))
      (λ x y is. subst (λ z. ExprHolds (record { place = z.place; kind = z.kind; node = z.node })) is (expr_holds y.place y.kind y.node.0 y.node.1))
      (λ x y is. subst (λ z. LeftHolds (record { place = z.place; base = z.base; parts = z.parts; pick = z.pick })) is (left_holds OfBase OfNode OfPart OfPick OfExpr OfLeft (λ e. e.0) (λ e. e.0) (λ e. e.0) (λ e. e.0) (λ e. e.0) (λ e. e.0) (λ e. e.1) (λ e. e.1) (λ e. e.1) (λ e. e.1) (λ e. e.1) y.place y.base y.parts y.pick))

  by_left : (l : PlainLeft) → LeftHolds l
  by_left = ind-PlainLeft BaseHolds NodeHolds PartHolds PickHolds ExprHolds LeftHolds
      (λ x y is. subst (λ z. BaseHolds (roll-PlainBase z)) is (base_holds _ _ _ _ _ _ (λ e. e.0) (λ e. e.0) (λ e. e.0) (λ e. e.0) (λ e. e.0) (λ e. e.0) (λ e. e.1) (λ e. e.1) (λ e. e.1) (λ e. e.1) (λ e. e.1) y))
      (λ x y is. subst (λ z. NodeHolds (roll-PlainExprNode z)) is (node_holds _ _ _ _ _ _ (λ e. e.0) (λ e. e.0) (λ e. e.0) (λ e. e.0) (λ e. e.0) (λ e. e.0) (λ e. e.1) (λ e. e.1) (λ e. e.1) (λ e. e.1) (λ e. e.1) y))
      (λ x y is. subst (λ z. PartHolds (roll-PlainPart z)) is (part_holds _ _ _ _ _ _ (λ e. e.0) (λ e. e.0) (λ e. e.0) (λ e. e.0) (λ e. e.0) (λ e. e.0) (λ e. e.1) (λ e. e.1) (λ e. e.1) (λ e. e.1) (λ e. e.1) y))
      (λ x y is. subst (λ z. PickHolds (roll-PlainPick z)) is (pick_holds _ _ _ _ _ _ (λ e. e.0) (λ e. e.0) (λ e. e.0) (λ e. e.0) (λ e. e.0) (λ e. e.0) (λ e. e.1) (λ e. e.1) (λ e. e.1) (λ e. e.1) (λ e. e.1) y))
      (λ x y is. subst (λ z. ExprHolds (record { place = z.place; kind = z.kind; node = z.node })) is (expr_holds y.place y.kind y.node.0 y.node.1))
      (λ x y is. subst (λ z. LeftHolds (record { place = z.place; base = z.base; parts = z.parts; pick = z.pick })) is (left_holds OfBase OfNode OfPart OfPick OfExpr OfLeft (λ e. e.0) (λ e. e.0) (λ e. e.0) (λ e. e.0) (λ e. e.0) (λ e. e.0) (λ e. e.1) (λ e. e.1) (λ e. e.1) (λ e. e.1) (λ e. e.1) y.place y.base y.parts y.pick))

  -- an answer that is what is said is what the definitions make
  pub worth_is : (r : Result Number Stop) (e : PlainExpr) → Gives (λ v. v) r (seen.expr g e).known → IsWorth r (site_of g) (term_of e)
  worth_is (Ok v) e h = subst (Means (site_of g) (term_of e)) h (by_expr e)
  worth_is (Err (stop.Refused r)) e h = subst (Means (site_of g) (term_of e)) h (by_expr e)
  worth_is (Err stop.NoMemory) e h = tt

  pub spot_is : {X : Type 0} (view : X → Spot) (r : Result X Stop) (l : PlainLeft) (soft follow : Bool) → Gives view r ((seen.left g l).at soft follow) → IsSpot view r (spot_at (site_of g) soft follow (to.left_of l))
  spot_is view (Ok x) l soft follow h = (subst (Leads g soft follow (taken_of l).left) h ((by_left l).0 soft follow)).0
  spot_is view (Err (stop.Refused r)) l soft follow h = subst (Leads g soft follow (taken_of l).left) h ((by_left l).0 soft follow)
  spot_is view (Err stop.NoMemory) l soft follow h = tt
