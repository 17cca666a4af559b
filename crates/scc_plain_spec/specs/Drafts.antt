-- Expressions of a plain program with what is known of them; conversions are written out (ISO C++ [conv], [expr.cond]; IEEE 1666-2011, 7.2).
use Rattle.std.specs.Prelude.{List, [], ◌∷◌, Option, Some, None, option_map, option_and_then, if◌then◌else◌}
use Rattle.scc_base.specs.declared.refusal.Place.{Place}
use Rattle.scc_base.specs.declared.code.Code.TheVariants as reason
use Rattle.scc_bits_kinds.specs.declared.kind.Kind.{Kind}
use Rattle.scc_bits_kinds.specs.declared.op.Op.{Op}
use Rattle.scc_bits_kinds.specs.Bits.{is_convertible}
use Rattle.scc_bits.specs.Value.{Number}
use Rattle.scc_templates_spec.specs.Walk.{same_kind}
use Rattle.scc_templates_spec.specs.Walked.{Walked, pure, fault, and_walk}
use Rattle.scc_elab_spec.specs.Term.{Term, Literal, Convert, Unary, Binary, Choose, Join, kind_of, place_of}
use Rattle.scc_plain_spec.specs.Numbers.{stored_in, kind_beside, is_shift, by_table, divides, answered, is_true, choice_of, concat_kind, concatenated}

-- an expression, its number where it is a constant, and where a conversion of it is refused
pub record Draft : Type 0 where
  pub term : Term
  pub known : Option Number
  pub place : Place

abbrev pub kind_in : Draft → Kind
kind_in x = kind_of x.term

-- an expression of no known number, at a place
abbrev pub drafted : Place → Term → Draft
drafted p e = record { term = e; known = None; place = p }

abbrev pub literal : Place → Number → Draft
literal p n = record { term = Literal p n.kind n.word; known = Some n; place = p }

-- in another kind, as an expression at a place
abbrev pub wrapped : Place → Kind → Draft → Draft
wrapped p k x = record { term = Convert p k x.term; known = option_map (stored_in k) x.known; place = p }

-- converted where the kinds differ, refused at the expression where there is no conversion (E304)
abbrev pub converted : Kind → Draft → Walked Draft
converted k x = if same_kind (kind_in x) k then pure x
    else (if is_convertible (kind_in x) k then pure (wrapped (place_of x.term) k x) else fault reason.Mismatch x.place)

-- a cast at a place; where the kinds are equal it makes no expression of its own
abbrev pub cast : Place → Kind → Draft → Walked Draft
cast p k x = if same_kind (kind_in x) k then pure (record { term = x.term; known = x.known; place = p })
    else (if is_convertible (kind_in x) k then pure (wrapped p k x) else fault reason.Mismatch p)

-- the kind by which an operand counts beside one of another kind
abbrev pub draft_beside : Draft → Kind → Kind
draft_beside x other = by_known x.known
  where
    by_known : Option Number → Kind
    by_known None = kind_in x
    by_known (Some n) = kind_beside n other

abbrev pub left_beside : Op → Draft → Draft → Kind
left_beside o a b = if is_shift o then kind_in a else draft_beside a (kind_in b)

abbrev pub right_beside : Op → Draft → Draft → Kind
right_beside o a b = if is_shift o then kind_in b else draft_beside b (kind_in a)

abbrev pub both_known : Option Number → Option Number → (Number → Number → Number) → Option Number
both_known a b f = option_and_then (λ x. option_map (λ y. f x y) b) a

-- an operator at its place, in an expression at a place
abbrev pub operate : Place → Place → Op → Draft → Draft → Walked Draft
operate p at o a b = by_table at o (left_beside o a b) (right_beside o a b) (λ k. if divides o b.known then joined k (left_beside o a b) (right_beside o a b) else fault reason.Divisor at)
  where
    joined : Kind → Kind → Kind → Walked Draft
    joined k i j = and_walk (converted i a) (λ x. and_walk (converted j b) (λ y. pure (record { term = Binary p k o x.term y.term; known = both_known x.known y.known (answered o k); place = p })))

abbrev pub operate_one : Place → Op → Draft → Walked Draft
operate_one p o a = by_table p o (kind_in a) (kind_in a) (λ k. pure (record { term = Unary p k o a.term; known = option_map (λ n. answered o k n n) a.known; place = p }))

-- `test ? yes : no`; its number is known where all three are
abbrev pub choose : Place → Draft → Draft → Draft → Walked Draft
choose p test x y = by_kind (choice_of (draft_beside x (kind_in y)) (draft_beside y (kind_in x)))
  where
    joined : Kind → Draft → Draft → Draft
    joined k a b = record { term = Choose p k test.term a.term b.term; known = option_and_then (λ t. both_known a.known b.known (λ x y. stored_in k (if is_true t then x else y))) test.known; place = p }

    by_kind : Option Kind → Walked Draft
    by_kind None = fault reason.Mismatch p
    by_kind (Some k) = and_walk (converted (draft_beside x (kind_in y)) x) (λ a. and_walk (converted (draft_beside y (kind_in x)) y) (λ b. pure (joined k a b)))

-- a concatenation, its parts joined from the left in the kind of the whole
abbrev pub kinds_of : List Draft → List Kind
kinds_of [] = []
kinds_of (x ∷ xs) = kind_in x ∷ kinds_of xs

abbrev pub joined_terms : Place → Kind → Term → List Draft → Term
joined_terms p k e [] = e
joined_terms p k e (x ∷ xs) = joined_terms p k (Join p k e x.term) xs

abbrev pub all_known : List Draft → Option (List Number)
all_known [] = Some []
all_known (x ∷ xs) = option_and_then (λ n. option_map (λ ns. n ∷ ns) (all_known xs)) x.known

abbrev pub known_of : Place → Option (List Number) → Option Number
known_of p None = None
known_of p (Some ns) = (concatenated p ns).value

abbrev pub concat : Place → List Draft → Walked Draft
concat p [] = fault reason.Mismatch p
concat p (x ∷ xs) = and_walk (concat_kind p (kinds_of (x ∷ xs))) (λ k. pure (record { term = joined_terms p k x.term xs; known = known_of p (all_known (x ∷ xs)); place = p }))
