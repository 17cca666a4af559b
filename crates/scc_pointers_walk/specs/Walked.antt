-- Expressions and locations without pointers as the code makes them of trees, and what is refused of them first. This project's own.
use Rattle.std.specs.Prelude.{Bool, true, false, not, ◌||◌, if◌then◌else◌, List, [], ◌∷◌, ◌++◌, map, Option, Some, None, is_some}
use Rattle.scc_base.specs.declared.code.Code.TheVariants as reason
use Rattle.scc_base.specs.declared.refusal.Place.{Place}
use Rattle.scc_bits_kinds.specs.declared.kind.Kind.{Kind}
use Rattle.scc_core.specs.declared.expr.CoreBase.{CoreBase, roll-CoreBase, out-CoreBase}
use Rattle.scc_core.specs.declared.expr.CoreBase.TheOpen.{CoreBase-F, CoreExprNode-F, CorePart-F, CorePick-F, CoreExpr-F, CoreLeft-F}
use Rattle.scc_core.specs.declared.expr.CoreBase.TheOpen as tree
use Rattle.scc_core.specs.declared.expr.CoreExpr.{CoreExpr, fold-CoreExpr}
use Rattle.scc_core.specs.declared.expr.CoreExprNode.{CoreExprNode, roll-CoreExprNode, out-CoreExprNode}
use Rattle.scc_core.specs.declared.expr.CoreLeft.{CoreLeft, fold-CoreLeft}
use Rattle.scc_core.specs.declared.expr.CorePart.{CorePart, fold-CorePart}
use Rattle.scc_core.specs.declared.expr.CorePick.{CorePick, roll-CorePick, fold-CorePick}
use Rattle.scc_core_spec.specs.First.{refused}
use Rattle.scc_core_spec.specs.Resolved.{Tried, Made, Stopped, and_made, made_map}
use Rattle.scc_pointers_walk.specs.declared.held.Resolver.{Resolver}
use Rattle.scc_pointers_walk.specs.Led.{at_place}
use Rattle.scc_pointers_walk.specs.Located.{aimed_in, element_in, looked_in, member_in, pointed_in}

-- ---- what is resolved first

abbrev pub Layer : Type 0
Layer = CoreExprNode-F CoreBase CoreExprNode CorePart CorePick CoreExpr CoreLeft

abbrev pub is_load_in : Layer → Bool
is_load_in (tree.Load l) = not (is_some l.pick)
is_load_in _ = false

-- a variable is loaded as a whole
abbrev pub is_load : CoreExpr → Bool
is_load e = is_load_in (out-CoreExprNode e.node)

abbrev pub first_in : Layer → Option CoreExpr
first_in (tree.Convert e) = Some e
first_in (tree.Operate o a b) = Some a
first_in (tree.Choose t a b) = Some t
first_in (tree.Pick e q) = if is_load e then None else Some e
first_in _ = None

-- the operand that is resolved first; a variable is looked at behind the index of its bit
abbrev pub first_of : CoreExpr → Option CoreExpr
first_of e = first_in (out-CoreExprNode e.node)

-- the pointer by which a location is reached, and whether it or one before is soft
abbrev pub pointer_in : CoreBase-F CoreBase CoreExprNode CorePart CorePick CoreExpr CoreLeft → Bool → Option (CoreLeft × Bool)
pointer_in (tree.Follow pointer own) soft = Some (pointer, soft || own)
pointer_in _ soft = None

abbrev pub pointer_of : CoreLeft × Bool → Option (CoreLeft × Bool)
pointer_of x = pointer_in (out-CoreBase x.0.base) x.1

-- ---- what is made of parts of trees

-- of a location: where it leads, as a soft one or not, and the part of a number that is taken there
pub record Gone : Type 0 where
  pub place : Place
  pub leads : Bool → Tried (Option CoreLeft)
  pub pick : Tried (Option CorePick)
  pub is_whole : Bool

-- a variable that is loaded as a whole
pub record Loaded : Type 0 where
  pub place : Place
  pub kind : Kind
  pub from : Gone

pub record Shown : Type 0 where
  pub made : Tried CoreExpr
  pub load : Option Loaded

abbrev pub expression : Place → Kind → CoreExprNode-F CoreBase CoreExprNode CorePart CorePick CoreExpr CoreLeft → CoreExpr
expression p k x = record { place = p; kind = k; node = roll-CoreExprNode x }

abbrev pub shown : Tried CoreExpr → Shown
shown t = record { made = t; load = None }

abbrev pub with_pick : CoreLeft → Option CorePick → CoreLeft
with_pick l q = record { place = l.place; base = l.base; parts = l.parts; pick = q }

abbrev pub start : Place → CoreBase → CoreLeft
start p b = record { place = p; base = b; parts = []; pick = None }

-- outside targets no location is null by itself
abbrev pub sure_of : Place → Option CoreLeft → Tried CoreLeft
sure_of p None = Stopped (refused reason.EmptyPointer p)
sure_of p (Some l) = Made l

-- parts from left to right
abbrev pub with_parts : List (CoreLeft → Tried CoreLeft) → CoreLeft → Tried CoreLeft
with_parts [] l = Made l
with_parts (f ∷ fs) l = and_made (f l) (with_parts fs)

abbrev pub null_or_refused : Bool → Place → Tried (Option CoreLeft)
null_or_refused true p = Made None
null_or_refused false p = Stopped (refused reason.EmptyPointer p)

-- a location by where the pointer leads that it follows
abbrev pub beyond : Place → Bool → List (CoreLeft → Tried CoreLeft) → Option CoreLeft → Tried (Option CoreLeft)
beyond p soft fs (Some t) = made_map Some (with_parts fs (at_place p t))
beyond p soft fs None = null_or_refused soft p

-- a list of expressions behind those that are made
abbrev pub all_behind : List CoreExpr → List (Tried CoreExpr) → Tried (List CoreExpr)
all_behind made [] = Made made
all_behind made (t ∷ ts) = and_made t (λ x. all_behind (made ++ x ∷ []) ts)

abbrev pub some_made : Option Shown → Tried (Option CoreExpr)
some_made None = Made None
some_made (Some e) = made_map Some e.made

abbrev pub some_pick : Option (Tried CorePick) → Tried (Option CorePick)
some_pick None = Made None
some_pick (Some q) = made_map Some q

abbrev pub Base : Type 0
Base = Place → Bool → List (CoreLeft → Tried CoreLeft) → Tried (Option CoreLeft)

abbrev pub Node : Type 0
Node = Place → Kind → Shown

abbrev pub Part : Type 0
Part = CoreLeft → Tried CoreLeft

abbrev pub Pick : Type 0
Pick = Tried CorePick

abbrev pub pick_node : CorePick-F Base Node Part Pick Shown Gone → Pick
pick_node (tree.Bit of at) = made_map (λ x. roll-CorePick (tree.Bit of x)) at.made
pick_node (tree.Range of h l) = Made (roll-CorePick (tree.Range of h l))

abbrev pub expr_step : CoreExpr-F Base Node Part Pick Shown Gone → Shown
expr_step e = e.node e.place e.kind

abbrev pub left_step : CoreLeft-F Base Node Part Pick Shown Gone → Gone
left_step l = record { place = l.place; leads = λ soft. l.base l.place soft l.parts; pick = some_pick l.pick; is_whole = not (is_some l.pick) }

module _ (r : Resolver) where
  -- where the pointer leads that stands at a location
  abbrev pub leads_in : Option CoreLeft → Tried (Option CoreLeft)
  leads_in None = Made None
  leads_in (Some l) = pointed_in r l

  -- what is loaded or assigned: the location, the index of its bit, and only then whether an object is chosen
  abbrev pub loaded_of : Gone → Tried CoreLeft
  loaded_of g = and_made (g.leads false) (λ o. and_made (sure_of g.place o) (λ m. and_made g.pick (λ q. made_map (λ l. with_pick l q) (looked_in r m))))

  -- what a signal or port shows: the location as a whole, then the index of its bit
  abbrev pub read_of : Gone → Tried CoreLeft
  read_of g = and_made (g.leads false) (λ o. and_made (sure_of g.place o) (λ m. and_made (looked_in r m) (λ l. made_map (λ q. with_pick l q) g.pick)))

  -- bits of a variable, or of another expression
  abbrev pub bits_of : Place → Kind → Tried CoreExpr → Tried CorePick → Option Loaded → Tried CoreExpr
  bits_of p k of q None = and_made of (λ x. made_map (λ q. expression p k (tree.Pick x q)) q)
  bits_of p k of q (Some l) = and_made (l.from.leads false) (λ o. and_made (sure_of l.from.place o) (λ m. and_made q (λ q. made_map (λ n. expression p k (tree.Pick (expression l.place l.kind (tree.Load (with_pick n None))) q)) (looked_in r m))))

  abbrev pub base_node : CoreBase-F Base Node Part Pick Shown Gone → Base
  base_node (tree.Cell n) p soft fs = made_map Some (with_parts fs (start p (roll-CoreBase (tree.Cell n))))
  base_node (tree.Prefix name) p soft fs = made_map Some (with_parts fs (start p (roll-CoreBase (tree.Prefix name))))
  base_node (tree.Follow pointer own) p soft fs = and_made (pointer.leads (soft || own)) (λ at. and_made (leads_in at) (beyond p soft fs))
  base_node tree.Null p soft fs = Made None

  abbrev pub expr_node : CoreExprNode-F Base Node Part Pick Shown Gone → Node
  expr_node (tree.Lit w) p k = shown (Made (expression p k (tree.Lit w)))
  expr_node (tree.Load l) p k = record { made = made_map (λ l. expression p k (tree.Load l)) (loaded_of l); load = if l.is_whole then Some (record { place = p; kind = k; from = l }) else None }
  expr_node (tree.Read l) p k = shown (made_map (λ l. expression p k (tree.Read l)) (read_of l))
  expr_node (tree.Convert e) p k = shown (made_map (λ x. expression p k (tree.Convert x)) e.made)
  expr_node (tree.Operate o a b) p k = shown (and_made a.made (λ x. made_map (λ y. expression p k (tree.Operate o x y)) (some_made b)))
  expr_node (tree.Choose t a b) p k = shown (and_made t.made (λ x. and_made a.made (λ y. made_map (λ z. expression p k (tree.Choose x y z)) b.made)))
  expr_node (tree.Pick e q) p k = shown (bits_of p k e.made q e.load)
  expr_node (tree.Join es) p k = shown (made_map (λ xs. expression p k (tree.Join xs)) (all_behind [] (map (λ e. e.made) es)))

  abbrev pub part_node : CorePart-F Base Node Part Pick Shown Gone → Part
  part_node (tree.Member n) l = Made (member_in r l n)
  part_node (tree.Index size at) l = made_map (element_in r l size) at.made

  abbrev pub shown_in : CoreExpr → Shown
  shown_in = fold-CoreExpr Base Node Part Pick Shown Gone base_node expr_node part_node pick_node expr_step left_step

  abbrev pub gone_in : CoreLeft → Gone
  gone_in = fold-CoreLeft Base Node Part Pick Shown Gone base_node expr_node part_node pick_node expr_step left_step

  abbrev pub part_in : CorePart → Part
  part_in = fold-CorePart Base Node Part Pick Shown Gone base_node expr_node part_node pick_node expr_step left_step

  abbrev pub pick_in : CorePick → Pick
  pick_in = fold-CorePick Base Node Part Pick Shown Gone base_node expr_node part_node pick_node expr_step left_step

  -- an expression without pointers
  abbrev pub expr_in : CoreExpr → Tried CoreExpr
  expr_in e = (shown_in e).made

  -- a location without pointers, None for null, which a soft one alone comes to
  abbrev pub walked_in : CoreLeft → Bool → Tried (Option CoreLeft)
  walked_in l soft = (gone_in l).leads soft

  abbrev pub reached : CoreLeft × Bool → Tried (Option CoreLeft)
  reached x = walked_in x.0 x.1

  abbrev pub loaded_in : CoreLeft → Tried CoreLeft
  loaded_in l = loaded_of (gone_in l)

  abbrev pub read_in : CoreLeft → Tried CoreLeft
  read_in l = read_of (gone_in l)

  abbrev pub aimed_or : Place → Option CoreLeft → Tried (Option CoreLeft)
  aimed_or p None = Made None
  aimed_or p (Some m) = made_map Some (aimed_in r m p)

  -- a target, None where it is null or behind null
  abbrev pub target_in : CoreLeft → Tried (Option CoreLeft)
  target_in l = and_made (walked_in l true) (aimed_or l.place)
