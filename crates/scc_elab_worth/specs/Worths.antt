-- Values and locations of trees in a constructor, by those of their parts. This project's own.
use Rattle.std.specs.Prelude.{ℕ, Bool, true, false, ◌||◌, List, [], ◌∷◌, Option, Some, None, slice_get}
use Rattle.scc_base.specs.declared.refusal.Place.{Place}
use Rattle.scc_base.specs.declared.code.Code.TheVariants as reason
use Rattle.scc_bits_kinds.specs.declared.kind.Kind.{Kind}
use Rattle.scc_bits.specs.Value.{Number}
use Rattle.scc_semantics.specs.Location.{Location}
use Rattle.scc_core_spec.specs.First.{refused}
use Rattle.scc_plain_tree.specs.declared.expr.PlainExpr.{PlainExpr, fold-PlainExpr}
use Rattle.scc_plain_tree.specs.declared.expr.PlainLeft.{PlainLeft, fold-PlainLeft}
use Rattle.scc_plain_tree.specs.declared.expr.PlainPart.{PlainPart, fold-PlainPart}
use Rattle.scc_plain_tree.specs.declared.expr.PlainPick.{PlainPick, fold-PlainPick}
use Rattle.scc_plain_tree.specs.declared.expr.PlainBase.TheOpen.{PlainBase-F, PlainExprNode-F, PlainPart-F, PlainPick-F, PlainExpr-F, PlainLeft-F}
use Rattle.scc_plain_tree.specs.declared.expr.PlainBase.TheOpen as tree
use Rattle.scc_elab_worth.specs.Said.{Said, Is, Refuses, Nothing, and_said}
use Rattle.scc_elab_worth.specs.Numbers.{number, operated, kept, choice, bit, range, above}
use Rattle.scc_elab_worth.specs.Spots.{Around, Spot, local, this, followed, member, element}

-- the number of an expression, and the same by that of the operand that stands first
pub record SeenExpr : Type 0 where
  pub known : Said Number
  pub over : Number → Said Number

-- the kind of the number of which bits are taken, and those bits; a range is of a kind
pub record SeenPick : Type 0 where
  pub of : Kind
  pub bits : Kind → Number → Said Number

-- how a part leads on: the place of the location, whether it is a target, whether a reference is followed
abbrev pub SeenPart : Type 0
SeenPart = Place → Bool → Bool → Spot → Said Spot

-- what stands at a base, and then; the same by where the pointer stands that is followed
pub record SeenBase : Type 0 where
  pub first : Place → Bool → Bool → (Spot → Said Spot) → Said Spot
  pub over : Place → Bool → (Spot → Said Spot) → Spot → Said Spot

-- where a location is, and the same by where the pointer stands that is followed
pub record SeenLeft : Type 0 where
  pub at : Bool → Bool → Said Spot
  pub over : Bool → Bool → Spot → Said Spot
  pub pick : Option SeenPick

abbrev pub Node : Type 0
Node = Place → Kind → SeenExpr

abbrev pub is_more : {A : Type 0} → List A → Bool
is_more [] = false
is_more (x ∷ xs) = true

-- parts from left to right; a reference is followed where more parts come
abbrev pub walked : Place → Bool → Bool → List SeenPart → Spot → Said Spot
walked p soft follow [] s = Is s
walked p soft follow (part ∷ parts) s = and_said (part p soft (follow || is_more parts) s) (walked p soft follow parts)

abbrev pub picked : Option SeenPick → Kind → Number → Said Number
picked None k v = Is v
picked (Some pick) k v = pick.bits k v

-- the kind of the whole number that is read: that of which bits are taken, else that of the expression
abbrev pub kind_read : Option SeenPick → Kind → Kind
kind_read None k = k
kind_read (Some pick) k = pick.of

abbrev pub held_at : Around → Kind → Option SeenPick → Spot → Option Location → Said Number
held_at g k pick s None = Nothing
held_at g k pick s (Some l) = picked pick k (number (kind_read pick k) (g.store.words l))

abbrev pub held : Around → Kind → Option SeenPick → Spot → Said Number
held g k pick s = held_at g k pick s s.at

-- numbers of which the words stand below a word
abbrev pub joined_below : Kind → List SeenExpr → ℕ → Said Number
joined_below k [] w = Is (number k w)
joined_below k (e ∷ es) w = and_said e.known (λ v. joined_below k es (above w v))

abbrev pub joined_behind : Kind → List SeenExpr → Number → Said Number
joined_behind k [] v = Is v
joined_behind k (e ∷ es) v = joined_below k (e ∷ es) v.word

abbrev pub all_joined : Kind → List SeenExpr → Said Number
all_joined k [] = Is (number k 0)
all_joined k (e ∷ es) = and_said e.known (joined_behind k es)

abbrev pub base_node : Around → PlainBase-F SeenBase Node SeenPart SeenPick SeenExpr SeenLeft → SeenBase
base_node g (tree.Local n) = record { first = λ p soft follow f. and_said (local g p soft follow n (slice_get g.function.locals n)) f; over = λ p soft f s. Nothing }
base_node g tree.This = record { first = λ p soft follow f. and_said (this g g.function.class) f; over = λ p soft f s. Nothing }
base_node g (tree.Answer n) = record { first = λ p soft follow f. Refuses (refused reason.Constructor p); over = λ p soft f s. Nothing }
base_node g (tree.Follow pointer) = record {
  first = λ p soft follow f. and_said (pointer.at soft true) (λ s. and_said (followed g p soft s) f);
  over = λ p soft f s. and_said (followed g p soft s) f;
}

abbrev pub expr_node : Around → PlainExprNode-F SeenBase Node SeenPart SeenPick SeenExpr SeenLeft → Node
expr_node g (tree.Lit w) p k = record { known = Is (number k w.bits); over = λ v. Nothing }
expr_node g (tree.Load l) p k = record { known = and_said (l.at false true) (held g k l.pick); over = λ v. Nothing }
expr_node g (tree.Read l) p k = record { known = Refuses (refused reason.Constructor p); over = λ v. Nothing }
expr_node g (tree.Convert e) p k = record { known = and_said e.known (λ v. Is (kept k v)); over = λ v. Is (kept k v) }
expr_node g (tree.Operate o a None) p k = record { known = and_said a.known (λ v. operated p k o v v); over = λ v. operated p k o v v }
expr_node g (tree.Operate o a (Some b)) p k = record { known = and_said a.known (λ v. and_said b.known (operated p k o v)); over = λ v. and_said b.known (operated p k o v) }
expr_node g (tree.Choose t a b) p k = record {
  known = and_said t.known (λ v. and_said a.known (λ x. and_said b.known (λ y. Is (choice k v x y))));
  over = λ v. and_said a.known (λ x. and_said b.known (λ y. Is (choice k v x y)));
}
expr_node g (tree.Pick e pick) p k = record { known = and_said e.known (pick.bits k); over = pick.bits k }
expr_node g (tree.Join parts) p k = record { known = all_joined k parts; over = λ v. Nothing }

abbrev pub part_node : Around → PlainPart-F SeenBase Node SeenPart SeenPick SeenExpr SeenLeft → SeenPart
part_node g (tree.Member n) p soft follow s = member g p soft follow n s
part_node g (tree.Index at) p soft follow s = element at.known s

abbrev pub pick_node : Around → PlainPick-F SeenBase Node SeenPart SeenPick SeenExpr SeenLeft → SeenPick
pick_node g (tree.Bit of at) = record { of = of; bits = λ k v. and_said at.known (λ i. Is (bit v i)) }
pick_node g (tree.Range of h l) = record { of = of; bits = λ k v. Is (range k h l v) }

abbrev pub expr_step : PlainExpr-F SeenBase Node SeenPart SeenPick SeenExpr SeenLeft → SeenExpr
expr_step e = e.node e.place e.kind

abbrev pub left_step : PlainLeft-F SeenBase Node SeenPart SeenPick SeenExpr SeenLeft → SeenLeft
left_step l = record {
  at = λ soft follow. l.base.first l.place soft (follow || is_more l.parts) (walked l.place soft follow l.parts);
  over = λ soft follow. l.base.over l.place soft (walked l.place soft follow l.parts);
  pick = l.pick;
}

abbrev pub expr : Around → PlainExpr → SeenExpr
expr g = fold-PlainExpr SeenBase Node SeenPart SeenPick SeenExpr SeenLeft (base_node g) (expr_node g) (part_node g) (pick_node g) expr_step left_step

abbrev pub left : Around → PlainLeft → SeenLeft
left g = fold-PlainLeft SeenBase Node SeenPart SeenPick SeenExpr SeenLeft (base_node g) (expr_node g) (part_node g) (pick_node g) expr_step left_step

abbrev pub part : Around → PlainPart → SeenPart
part g = fold-PlainPart SeenBase Node SeenPart SeenPick SeenExpr SeenLeft (base_node g) (expr_node g) (part_node g) (pick_node g) expr_step left_step

abbrev pub pick : Around → PlainPick → SeenPick
pick g = fold-PlainPick SeenBase Node SeenPart SeenPick SeenExpr SeenLeft (base_node g) (expr_node g) (part_node g) (pick_node g) expr_step left_step
