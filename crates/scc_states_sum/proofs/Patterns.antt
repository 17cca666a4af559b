-- The elements of patterns that grow step by step, and of what expressions use.
use Rattle.std.proofs.Common.{◌≡◌, ℕ, ◌+◌, ◌*◌, false, ◌||◌, if◌then◌else◌, List, [], ◌∷◌, ◌++◌, map, Option, Some, None, refl, sym, ap, ◌∙◌, arith}
use Rattle.std.specs.Prelude.{option_map, unwrap_or, is_some}
use Rattle.std.proofs.Math.Nat.{mul_assoc}
use Rattle.scc_base.specs.declared.refusal.Place.{Place}
use Rattle.scc_bits_kinds.specs.declared.kind.Kind.{Kind}
use Rattle.scc_bits.specs.Value.{Number}
use Rattle.scc_semantics.specs.Location.{Part}
use Rattle.scc_semantics.specs.Location as location
use Rattle.scc_core_spec.specs.Named.{Step, Named, At, Ours, Open, part_step, own_steps, steps_of, is_open, open_product, elements}
use Rattle.scc_core_spec.specs.Static.{Cells, index_step, pattern}
use Rattle.scc_core_spec.specs.Term.{Term, Left, Literal, Load, Read, Convert, Unary, Binary, Choose, Bit, Range, Join, Own}
use Rattle.scc_core_spec.specs.Term as term
use Rattle.scc_core_spec.specs.Uses.{Use, loads, inside}
use Rattle.scc_core_view.specs.Terms.{joined, joined_behind}
use Rattle.scc_states_sum.specs.Elements.{total, factor, product, under, unknown}
use Rattle.scc_states_sum.specs.Elements as count
use Rattle.scc_states_sum.specs.Measured.{elements_at, used_elements}

-- ---- one step more

pub open_last : (s : List Step) (x : Step) → is_open (s ++ x ∷ []) ≡ (is_open s || is_open (x ∷ []))
open_last [] x = refl
open_last (Named n ∷ s) x = open_last s x
open_last (At i ∷ s) x = open_last s x
open_last (Ours n ∷ s) x = open_last s x
open_last (Open n ∷ s) x = refl

one_times : (n : ℕ) → n ≡ 1 * n
one_times n = omega arith

pub product_last : (s : List Step) (x : Step) → open_product (s ++ x ∷ []) ≡ open_product s * open_product (x ∷ [])
product_last [] x = one_times (open_product (x ∷ []))
product_last (Named n ∷ s) x = product_last s x
product_last (At i ∷ s) x = product_last s x
product_last (Ours n ∷ s) x = product_last s x
product_last (Open n ∷ s) x = ap (λ m. n * m) (product_last s x) ∙ sym (mul_assoc n (open_product s) (open_product (x ∷ [])))

-- an index that is static by both or by none
pub same_open : (size : ℕ) (k : Kind) (o : Option Number) (x : Option ℕ) → is_some o ≡ is_some x → is_open (index_step size k x ∷ []) ≡ count.is_open (unknown size o)
same_open size k None None h = refl
same_open size k (Some v) (Some n) h = refl
same_open size k None (Some n) h = absurd cc
same_open size k (Some v) None h = absurd cc

times_one : (n : ℕ) → n * 1 ≡ n
times_one n = omega arith

pub same_factor : (size : ℕ) (k : Kind) (o : Option Number) (x : Option ℕ) → is_some o ≡ is_some x → open_product (index_step size k x ∷ []) ≡ factor (unknown size o)
same_factor size k None None h = times_one size
same_factor size k (Some v) (Some n) h = refl
same_factor size k None (Some n) h = absurd cc
same_factor size k (Some v) None h = absurd cc

-- a name has no open index
closed_indices : (is : List ℕ) → is_open (map At is) ≡ false
closed_indices [] = refl
closed_indices (i ∷ is) = closed_indices is

closed_own : (o : Option Own) (is : List ℕ) → is_open (own_steps o is) ≡ false
closed_own None is = refl
closed_own (Some o) is = closed_indices is

closed_name : (path : List Part) (rest : List Step) → is_open rest ≡ false → is_open (map part_step path ++ rest) ≡ false
closed_name [] rest h = h
closed_name (location.Member n ∷ path) rest h = closed_name path rest h
closed_name (location.Element i ∷ path) rest h = closed_name path rest h

pub closed : (n : term.CellName) → is_open (steps_of n) ≡ false
closed n = closed_name n.path (own_steps n.own n.indices) (closed_own n.own n.indices)

pub alone : (s : List Step) → is_open s ≡ false → open_product s ≡ 1
alone [] h = refl
alone (Named n ∷ s) h = alone s h
alone (At i ∷ s) h = alone s h
alone (Ours n ∷ s) h = alone s h
alone (Open n ∷ s) h = absurd cc

-- what is told of the steps of a location whose indices have these sizes, behind steps that were there
pub record Grows (cs : Cells) (l : Left) (s : List Step) (sizes : List (Option ℕ)) : Type 0 where
  pub steps : List Step
  pub there : pattern cs l ≡ Some steps
  pub opened : is_open steps ≡ (is_open s || count.some_open sizes)
  pub times : open_product steps ≡ open_product s * product (map factor sizes)

none_times : (n : ℕ) → 1 * n ≡ n
none_times n = omega arith

pub grown_elements : (cs : Cells) (l : Left) (s : List Step) (sizes : List (Option ℕ)) → is_open s ≡ false → Grows cs l s sizes → elements_at cs l ≡ under sizes
grown_elements cs l s sizes h g =
    ap (λ o. unwrap_or (option_map elements o) 0) g.there
    ∙ ap (λ b. if b then open_product g.steps else 0) (g.opened ∙ ap (λ b. b || count.some_open sizes) h)
    ∙ ap (λ n. if count.some_open sizes then n else 0) (g.times ∙ ap (λ n. n * product (map factor sizes)) (alone s h) ∙ none_times (product (map factor sizes)))

-- ---- what expressions use

plus_none : (n : ℕ) → n ≡ 0 + n
plus_none n = omega arith

plus_assoc : (a b c : ℕ) → a + (b + c) ≡ a + b + c
plus_assoc a b c = omega arith

pub used_both : (cs : Cells) (a b : List Use) → used_elements cs (a ++ b) ≡ used_elements cs a + used_elements cs b
used_both cs [] b = plus_none (used_elements cs b)
used_both cs (u ∷ a) b = ap (λ n. elements_at cs u.left + n) (used_both cs a b) ∙ plus_assoc (elements_at cs u.left) (used_elements cs a) (used_elements cs b)

pub used_three : (cs : Cells) (a b c : List Use) → used_elements cs (a ++ (b ++ c)) ≡ used_elements cs a + (used_elements cs b + used_elements cs c)
used_three cs a b c = used_both cs a (b ++ c) ∙ ap (λ n. used_elements cs a + n) (used_both cs b c)

turned : (a b c : ℕ) → a + (b + c) ≡ a + c + b
turned a b c = omega arith

module _ (cs : Cells) where
  bit_of_load : (q : Place) (l : Left) (e : Term) → used_elements cs (inside l ++ (loads e ++ record { place = q; left = l } ∷ [])) ≡ used_elements cs (inside l ++ record { place = q; left = l } ∷ []) + used_elements cs (loads e)
  bit_of_load q l e =
      let u : List Use = record { place = q; left = l } ∷ [] in
      used_three cs (inside l) (loads e) u
      ∙ turned (used_elements cs (inside l)) (used_elements cs (loads e)) (used_elements cs u)
      ∙ ap (λ n. n + used_elements cs (loads e)) (sym (used_both cs (inside l) u))

  -- a bit of an expression uses what the expression and the index use
  pub bit_uses : (p : Place) (a e : Term) → used_elements cs (loads (Bit p a e)) ≡ used_elements cs (loads a) + used_elements cs (loads e)
  bit_uses p (Load q k l) e = bit_of_load q l e
  bit_uses p (Literal q k w) e = used_both cs (loads (Literal q k w)) (loads e)
  bit_uses p (Read q k l) e = used_both cs (loads (Read q k l)) (loads e)
  bit_uses p (Convert q k a) e = used_both cs (loads (Convert q k a)) (loads e)
  bit_uses p (Unary q k o a) e = used_both cs (loads (Unary q k o a)) (loads e)
  bit_uses p (Binary q k o a b) e = used_both cs (loads (Binary q k o a b)) (loads e)
  bit_uses p (Choose q k t a b) e = used_both cs (loads (Choose q k t a b)) (loads e)
  bit_uses p (Bit q a i) e = used_both cs (loads (Bit q a i)) (loads e)
  bit_uses p (Range q k a h l) e = used_both cs (loads (Range q k a h l)) (loads e)
  bit_uses p (Join q k a b) e = used_both cs (loads (Join q k a b)) (loads e)

  behind_uses : (p : Place) (k : Kind) (t : Term) (ts : List Term) → used_elements cs (loads (joined_behind p k t ts)) ≡ used_elements cs (loads t) + total (map (λ x. used_elements cs (loads x)) ts)
  behind_uses p k t [] = let n = used_elements cs (loads t) in nothing n
    where
      nothing : (n : ℕ) → n ≡ n + 0
      nothing n = omega arith
  behind_uses p k t (x ∷ ts) =
      behind_uses p k (Join p k t x) ts
      ∙ ap (λ n. n + total (map (λ x. used_elements cs (loads x)) ts)) (used_both cs (loads t) (loads x))
      ∙ sym (plus_assoc (used_elements cs (loads t)) (used_elements cs (loads x)) (total (map (λ x. used_elements cs (loads x)) ts)))

  pub joined_uses : (p : Place) (k : Kind) (ts : List Term) → used_elements cs (loads (joined p k ts)) ≡ total (map (λ x. used_elements cs (loads x)) ts)
  joined_uses p k [] = refl
  joined_uses p k (t ∷ ts) = behind_uses p k t ts
