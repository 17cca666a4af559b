-- Of what is made, an expression meets the store alone.
use Rattle.std.proofs.Common.{◌≡◌, ℕ, Bool, true, false, List, [], ◌∷◌, map, Option, Some, None, option_map, option_and_then, ap, refl, sym, ◌∙◌, subst, slice_get}
use Rattle.std.specs.Prelude.{Result, Ok, Err}
use Rattle.scc_base.specs.declared.refusal.Stop.{Stop}
use Rattle.scc_base.specs.declared.refusal.Stop.TheVariants as stop
use Rattle.scc_bits_kinds.specs.Kinds.{width_of, number_of, stored}
use Rattle.scc_bits_kinds.specs.Bits.{part, joined}
use Rattle.scc_bits.specs.Value.{Number}
use Rattle.scc_bits.specs.Values.{applied}
use Rattle.scc_semantics.specs.Location.{Location, Member, Element, within}
use Rattle.scc_semantics.specs.Scene.{chosen, index_of, bit_at}
use Rattle.scc_core_spec.specs.Resolved.{Tried, Made, Stopped, and_made, made_map}
use Rattle.scc_elab_spec.specs.Term.{Term, Literal, Load, Read, Convert, Unary, Binary, Choose, Bit, Range, Join, Left, Local, Answer, This, Follow, Index, Pick, OneBit, Bits, Whole, Target, Null, Address, Copy, Argument, Value, Leads, ModuleName, kind_of, place_at}
use Rattle.scc_elab_spec.specs.Term as term
use Rattle.scc_elab_spec.specs.Types.{declared_at}
use Rattle.scc_elab_spec.specs.Grown.{nothing, with_store}
use Rattle.scc_elab_spec.specs.Worth.{Site, at_now, spot, worth, target, given, bit_given, behind, or_null, refer, member_name, word_at, applied_or, Given, Word, Place_given}
use Rattle.scc_elab_store.specs.declared.locations.Location.{Location as Held}
use Rattle.scc_elab_worth.specs.declared.spots.Located.{Located}
use Rattle.scc_elab_worth.specs.declared.args.Given.{Given as HeldGiven}
use Rattle.scc_elab_worth.specs.Spots.{Spot}
use Rattle.scc_elab_worth.specs.Meant.{site_of, IsWorth, IsSpot, IsTarget}
use Rattle.scc_elab_worth.specs.Arguments.{IsGiven}
use Rattle.scc_elab_worth.specs.Picks.{IsIndex}

module _ (s : Site) where
  abbrev t : Site
  t = at_now s (with_store nothing s.now.store)

  mutual
    pub spot_alone : (soft follow : Bool) (l : Left) → spot t soft follow l ≡ spot s soft follow l
    spot_alone soft follow (Local p n) = refl
    spot_alone soft follow (Answer p n) = refl
    spot_alone soft follow (This p) = refl
    spot_alone soft follow (Follow p l) = ap (λ x. and_made x (λ o. behind o (λ l. or_null soft p (s.now.store.targets l)))) (spot_alone soft true l)
    spot_alone soft follow (term.Member l m) = ap (λ x. and_made x (λ o. behind o (λ k.
        refer s (place_at l) soft follow (declared_at s.plain s.function (term.Member l m)) (within k (Member (member_name (declared_at s.plain s.function (term.Member l m)))))))) (spot_alone soft true l)
    spot_alone soft follow (Index l e) = λ i. and_made (spot_alone soft true l i) (λ o. behind o (λ k. made_map (λ x. Some (within k (Element (index_of (kind_of e) x)))) (worth_alone e i)))

    pub worth_alone : (e : Term) → worth t e ≡ worth s e
    worth_alone (Literal p k w) = refl
    worth_alone (Load p k l) = ap (made_map (word_at s)) (spot_alone false true l)
    worth_alone (Read p k l) = refl
    worth_alone (Convert p k e) = ap (made_map (λ x. stored k (number_of (kind_of e) x))) (worth_alone e)
    worth_alone (Unary p k o a) = ap (λ z. and_made z (λ x. applied_or p (applied o (kind_of a) x (kind_of a) x))) (worth_alone a)
    worth_alone (Binary p k o a b) = λ i. and_made (worth_alone a i) (λ x. and_made (worth_alone b i) (λ y. applied_or p (applied o (kind_of a) x (kind_of b) y)))
    worth_alone (Choose p k n a b) = λ i. and_made (worth_alone n i) (λ v. and_made (worth_alone a i) (λ x. made_map (λ y. chosen v (stored k (number_of (kind_of a) x)) (stored k (number_of (kind_of b) y))) (worth_alone b i)))
    worth_alone (Bit p a e) = λ i. and_made (worth_alone a i) (λ x. made_map (λ y. bit_at (width_of (kind_of a)) x (index_of (kind_of e) y)) (worth_alone e i))
    worth_alone (Range p k a h l) = ap (made_map (part h l)) (worth_alone a)
    worth_alone (Join p k a b) = λ i. and_made (worth_alone a i) (λ x. made_map (joined (width_of (kind_of b)) x) (worth_alone b i))

  pub target_alone : (x : Target) → target t x ≡ target s x
  target_alone Null = refl
  target_alone (Address l) = spot_alone true true l
  target_alone (Copy l) = ap (λ x. and_made x (λ o. Made (option_and_then s.now.store.targets o))) (spot_alone true true l)

  pub given_alone : (args : List Argument) → given t args ≡ given s args
  given_alone [] = refl
  given_alone (Value e ∷ args) = λ i. and_made (worth_alone e i) (λ w. made_map (λ gs. Word w ∷ gs) (given_alone args i))
  given_alone (Leads x ∷ args) = λ i. and_made (target_alone x i) (λ o. made_map (λ gs. Place_given o ∷ gs) (given_alone args i))
  given_alone (ModuleName ∷ args) = given_alone args

  pub bit_alone : (k : Pick) → bit_given t k ≡ bit_given s k
  bit_alone (OneBit e) = ap (made_map (λ i. Some (index_of (kind_of e) i))) (worth_alone e)
  bit_alone Whole = refl
  bit_alone (Bits h l) = refl

  pub worth_here : (r : Result Number Stop) (e : Term) → IsWorth r t e → IsWorth r s e
  worth_here (Ok v) e h = (sym (worth_alone e) ∙ h.0, h.1)
  worth_here (Err (stop.Refused r)) e h = sym (worth_alone e) ∙ h
  worth_here (Err stop.NoMemory) e h = tt

  pub target_here : (r : Result (Option Held) Stop) (x : Target) → IsTarget r (target t x) → IsTarget r (target s x)
  target_here r x h = subst (IsTarget r) (target_alone x) h

  pub given_here : {X : Type 0} (view : X → List HeldGiven) (r : Result X Stop) (args : List Argument) → IsGiven view r (given t args) → IsGiven view r (given s args)
  given_here view r args h = subst (IsGiven view r) (given_alone args) h

  pub index_here : (r : Result (Option ℕ) Stop) (k : Pick) → IsIndex r (bit_given t k) → IsIndex r (bit_given s k)
  index_here r k h = subst (IsIndex r) (bit_alone k) h

  pub spot_here : {X : Type 0} (view : X → Spot) (r : Result X Stop) (soft follow : Bool) (l : Left) → IsSpot view r (spot t soft follow l) → IsSpot view r (spot s soft follow l)
  spot_here view r soft follow l h = subst (IsSpot view r) (spot_alone soft follow l) h
