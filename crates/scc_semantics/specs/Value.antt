-- Locations of left sides, values of expressions, and what an assignment does (IEEE 1666-2011, 7.2; ISO C++ [expr]). Values are words in the
-- expressions' kinds. None: a null pointer was followed, or an operator has no rule for its operands.
use Rattle.std.specs.Prelude.{ℕ, List, [], ◌∷◌, ◌++◌, Option, Some, None, option_map, option_and_then}
use Rattle.scc_bits_kinds.specs.declared.kind.Kind.{Kind}
use Rattle.scc_bits_kinds.specs.declared.kind.Kind.TheVariants as kind
use Rattle.scc_bits_kinds.specs.Kinds.{width_of, number_of, stored}
use Rattle.scc_bits.specs.Values.{applied}
use Rattle.scc_bits_kinds.specs.Bits.{part, replaced, joined}
use Rattle.scc_semantics.specs.Location.{Location, Member, Element, Local, Answer, within}
use Rattle.scc_semantics.specs.Places.{Thing, Number, Signal, Port}
use Rattle.scc_semantics.specs.Expressions.{Expr, Literal, Load, Read, Convert, Unary, Binary, Choose, Bit, Range, Join, Left, Declared, Result, This, At, Null, Follow, Field, Indexed, Pick, Whole, OneBit, Bits, Target, Address, Copy}
use Rattle.scc_semantics.specs.Store.{Store, Request, changed}
use Rattle.scc_semantics.specs.Scene.{Names, Scene, expr_kind, loaded, sensed, pointed, index_of, bit_at, with_two, chosen, followed, with_bit}

-- what stands behind a location; behind null stands null, and nothing behind it is looked at
abbrev pub behind : Option (Option Location) → (Location → Option (Option Location)) → Option (Option Location)
behind None f = None
behind (Some None) f = Some None
behind (Some (Some l)) f = f l

abbrev mutual
  -- the location of a left side: Some None is null
  pub locate : Scene → Left → Option (Option Location)
  locate s (Declared d) = Some (Some (record { root = Local s.names.process s.names.calls d; path = [] }))
  locate s (Result call) = Some (Some (record { root = Answer s.names.process (call ∷ s.names.calls); path = [] }))
  locate s This = Some s.names.object
  locate s (At l) = Some (Some l)
  locate s Null = Some None
  locate s (Follow p) = behind (locate s p) (λ l. Some (pointed (s.places.pointers l) (s.store.targets l)))
  locate s (Field p name) = behind (locate s p) (λ l. Some (Some (within l (Member name))))
  locate s (Indexed p e) = behind (locate s p) (λ l. option_map (λ i. Some (within l (Element (index_of (expr_kind e) i)))) (value s e))

  -- the word of an expression in its kind; each part of it is evaluated
  pub value : Scene → Expr → Option ℕ
  value s (Literal k w) = Some w
  value s (Load k left) = option_map (λ l. loaded (s.places.things l) (s.store.words l)) (followed (locate s left))
  value s (Read k left) = option_map (λ l. sensed (s.places.things l) s.signals l) (followed (locate s left))
  value s (Convert k e) = option_map (λ x. stored k (number_of (expr_kind e) x)) (value s e)
  value s (Unary o a) = option_and_then (λ x. applied o (expr_kind a) x (expr_kind a) x) (value s a)
  value s (Binary o a b) = with_two (value s a) (value s b) (λ x y. applied o (expr_kind a) x (expr_kind b) y)
  value s (Choose k t a b) = option_and_then (λ n. with_two (value s a) (value s b) (λ x y. Some (chosen n (stored k (number_of (expr_kind a) x)) (stored k (number_of (expr_kind b) y))))) (value s t)
  value s (Bit a e) = with_two (value s a) (value s e) (λ x i. Some (bit_at (width_of (expr_kind a)) x (index_of (expr_kind e) i)))
  value s (Range k a h l) = option_map (part h l) (value s a)
  value s (Join k a b) = with_two (value s a) (value s b) (λ x y. Some (joined (width_of (expr_kind b)) x y))

-- what a pointer is given
abbrev pub target_of : Scene → Target → Option (Option Location)
target_of s (Address left) = locate s left
target_of s (Copy left) = locate s (Follow left)

-- the whole word after an assignment to a part of it
abbrev pub picked : Scene → Kind → Pick → ℕ → ℕ → Option ℕ
picked s k Whole old new = Some new
picked s k (OneBit e) old new = option_map (λ i. with_bit (width_of k) old (index_of (expr_kind e) i) new) (value s e)
picked s k (Bits h l) old new = Some (replaced h l old new)

-- a store, and what was requested so far
pub record Held : Type 0 where
  pub store : Store
  pub requests : List Request

abbrev pub with_words : Held → (Location → ℕ) → Held
with_words h words = record { store = record { words = words; targets = h.store.targets }; requests = h.requests }

abbrev pub with_targets : Held → (Location → Option Location) → Held
with_targets h targets = record { store = record { words = h.store.words; targets = targets }; requests = h.requests }

abbrev pub asked : Held → Location → ℕ → Held
asked h l word = record { store = h.store; requests = h.requests ++ record { root = l; word = word } ∷ [] }

-- An assignment acts by what stands at the location: a number takes the value, a signal or port of the top is asked to, a port below the top asks its
-- root; where neither stands, nothing is written. Whole values alone are requested.
abbrev pub put_at : Option Thing → Scene → Held → Location → Pick → ℕ → Option Held
put_at (Some (Number k)) s h l p new = option_map (λ w. with_words h (changed l w h.store.words)) (picked s k p (h.store.words l) new)
put_at (Some (Signal k)) s h l p new = option_map (λ w. asked h l new) (picked s k p 0 new)
put_at (Some (Port k root)) s h l p new = option_map (λ w. asked h root new) (picked s k p 0 new)
put_at None s h l p new = option_map (λ w. h) (picked s kind.Bool p 0 new)

-- a local and the result of the function at hand
abbrev pub local : Names → ℕ → Location
local names d = record { root = Local names.process names.calls d; path = [] }

abbrev pub answer : Names → Location
answer names = record { root = Answer names.process names.calls; path = [] }

-- the names inside a call
abbrev pub called : Names → ℕ → Option Location → Names
called names number object = record { process = names.process; calls = number ∷ names.calls; object = object }

abbrev pub object_of : Scene → Option Left → Option (Option Location)
object_of s None = Some s.names.object
object_of s (Some left) = locate s left
