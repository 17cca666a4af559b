-- What is known of a program and its design is what the definitions say.
use Rattle.std.proofs.Common.{◌≡◌, refl, sym, ap, subst, ◌∙◌, arith, ℕ, zero, suc, ◌+◌, ◌-◌, ◌<◌, ◌≤◌, Bool, true, false, not, cond, ◌&&◌, nat_eq, nat_lt, List, [], ◌∷◌, ◌++◌, map, drop, length, get_or, Option, Some, None, option_map, option_and_then, slice_get, append_assoc, if◌then◌else◌}
use Rattle.std.specs.List.{position, position_or_len}
use Rattle.std.proofs.lemmas.Option.{slice_get-map}
use Rattle.indexmap.specs.IndexMap.{IndexMap, get}
use Rattle.scc_base.specs.declared.path.PathPart.{PathPart}
use Rattle.scc_plain_tree.specs.declared.program.Plain.{Plain as Tree}
use Rattle.scc_plain_tree.specs.declared.program.PlainClass.{PlainClass}
use Rattle.scc_plain_tree.specs.declared.program.PlainMember.{PlainMember}
use Rattle.scc_semantics.specs.Location.{Part}
use Rattle.scc_semantics.specs.Location as location
use Rattle.scc_elab_design.specs.declared.Design.{Design as Left}
use Rattle.scc_elab_spec.specs.Program.{Plain, Class, Member}
use Rattle.scc_elab_spec.specs.Design.{Design, Object, class_of as class_at}
use Rattle.scc_elab_spec.specs.Types.{Place}
use Rattle.scc_elab_spec.specs.Cells.{is_top, member_of as member_round, member_named as member_with, parent}
use Rattle.scc_plain_view.specs.Designs.{design_of, part_of, path_of}
use Rattle.scc_plain_view.specs.Plains.{plain_of, class_of, member_of}
use Rattle.scc_inline_cells.specs.declared.homes.Home.{Home}
use Rattle.scc_inline_cells.specs.declared.known.Known.{Known}
use Rattle.scc_inline_cells.specs.Homes.{IsHome, AreHomes, deepest}
use Rattle.scc_inline_cells.specs.Known.{AreTables, IsKnown, Names, names_of, of_class}
use Rattle.scc_inline_cells.specs.Tables.{first_from}
use Rattle.scc_inline_cells.proofs.Parents.{parent_is}

-- ---- the first place

lt_next : (a n : ℕ) → nat_lt (suc a) (suc n) ≡ nat_lt a n
lt_next a n = grind arith

zero_lt : (n : ℕ) → nat_lt 0 (suc n) ≡ true
zero_lt n = grind arith

one_more : (n : ℕ) → 1 + n ≡ suc n
one_more n = omega arith

place_next : {A : Type 0} (p : A → Bool) (x : A) (xs : List A) → position p (x ∷ xs) ≡ cond (p x) (Some 0) (option_map suc (position p xs))
place_next p x xs = ap (λ k. cond (nat_lt (cond (not (p x)) k 0) (suc (length xs))) (Some (cond (not (p x)) k 0)) None) (one_more (position_or_len p xs)) ∙ by (p x)
  where
    inner : (a n : ℕ) (b : Bool) → cond b (Some (suc a)) None ≡ option_map suc (cond b (Some a) None)
    inner a n true = refl
    inner a n false = refl

    by : (b : Bool) → cond (nat_lt (cond (not b) (suc (position_or_len p xs)) 0) (suc (length xs))) (Some (cond (not b) (suc (position_or_len p xs)) 0)) None ≡ cond b (Some 0) (option_map suc (position p xs))
    by true = ap (λ c. cond c (Some 0) None) (zero_lt (length xs))
    by false = ap (λ c. cond c (Some (suc (position_or_len p xs))) None) (lt_next (position_or_len p xs) (length xs)) ∙ inner (position_or_len p xs) (length xs) (nat_lt (position_or_len p xs) (length xs))

add_next : (o : Option ℕ) (j : ℕ) → option_map (λ i. i + suc j) o ≡ option_map (λ i. i + j) (option_map suc o)
add_next None j = refl
add_next (Some i) j = let e : i + suc j ≡ suc i + j = omega arith in ap Some e

first_place : (n j : ℕ) (ms : List PlainMember) → first_from n j (map (λ (m : PlainMember). m.name.0) ms) ≡ option_map (λ i. i + j) (position (λ (m : Member). nat_eq m.name n) (map member_of ms))
first_place n j [] = refl
first_place n j (m ∷ ms) = by (nat_eq m.name.0 n) (first_place n (suc j) ms) ∙ ap (option_map (λ i. i + j)) (sym (place_next (λ (m : Member). nat_eq m.name n) (member_of m) (map member_of ms)))
  where
    none : 0 + j ≡ j
    none = omega arith

    by : (b : Bool) → first_from n (suc j) (map (λ (m : PlainMember). m.name.0) ms) ≡ option_map (λ i. i + suc j) (position (λ (m : Member). nat_eq m.name n) (map member_of ms))
        → (if b then Some j else first_from n (suc j) (map (λ (m : PlainMember). m.name.0) ms)) ≡ option_map (λ i. i + j) (cond b (Some 0) (option_map suc (position (λ (m : Member). nat_eq m.name n) (map member_of ms))))
    by true h = ap Some (sym none)
    by false h = h ∙ add_next (position (λ (m : Member). nat_eq m.name n) (map member_of ms)) j

plus_none : (o : Option ℕ) → option_map (λ i. i + 0) o ≡ o
plus_none None = refl
plus_none (Some i) = let e : i + 0 ≡ i = omega arith in ap Some e

-- ---- members by their names

in_table : {S : Type 0} (ts : List (IndexMap ℕ ℕ S)) (ks : List PlainClass) (c n : ℕ) → AreTables ts ks
    → option_and_then (λ t. get nat_eq t n) (slice_get ts c) ≡ option_and_then (λ (k : Class). position (λ m. nat_eq m.name n) k.members) (slice_get (map class_of ks) c)
in_table [] [] c n h = refl
in_table [] (k ∷ ks) c n h = absurd h
in_table (t ∷ ts) [] c n h = absurd h
in_table (t ∷ ts) (k ∷ ks) zero n h = h.0 n ∙ first_place n 0 k.members ∙ plus_none (position (λ m. nat_eq m.name n) (map member_of k.members))
in_table (t ∷ ts) (k ∷ ks) (suc c) n h = in_table ts ks c n h.1

pub looked_up : (k : Known) (p : Tree) (d : Left) (c n : ℕ) → IsKnown k p d → option_and_then (λ t. get nat_eq t n) (slice_get k.members c) ≡ member_with (plain_of p) c (location.Member n)
looked_up k p d c n known = in_table k.members p.classes c n known.members

-- ---- homes

pub home_is : (k : Known) (p : Tree) (d : Left) (q : List PathPart) (h : Option Home) → IsKnown k p d → h ≡ deepest d.objects q (length q) → IsHome (parent (design_of d) (path_of q)) h
home_is k p d q h known e = subst (λ z. IsHome (parent (design_of d) (path_of q)) z) (sym e) (parent_is q d.objects)

abbrev within : Plain → List Part → Option Object → Option Place
within p q o = option_and_then (λ (o : Object). option_and_then (λ c. option_and_then (λ part. option_map (λ m. record { class = c; member = m }) (member_with p c part)) (slice_get q (length o.path))) (class_at o.node)) o

within_home : (p : Plain) (q : List Part) (o : Option Object) (h : Home) → IsHome o (Some h) → within p q o ≡ option_and_then (λ part. option_map (of_class h.class) (member_with p h.class part)) (slice_get q h.at)
within_home p q None h is = absurd is
within_home p q (Some o) h is = (λ i. option_and_then (λ c. option_and_then (λ part. option_map (λ m. record { class = c; member = m }) (member_with p c part)) (slice_get q (is.0 i))) (is.1 i))

within_none : (p : Plain) (q : List Part) (o : Option Object) → IsHome o None → within p q o ≡ None
within_none p q None is = refl
within_none p q (Some o) is = absurd is

pub round_some : (p : Plain) (d : Design) (q : List PathPart) (h : Home) → IsHome (parent d (path_of q)) (Some h)
    → member_round p d (path_of q) ≡ option_and_then (λ part. option_map (of_class h.class) (member_with p h.class part)) (option_map part_of (slice_get q h.at))
round_some p d q h is = within_home p (path_of q) (parent d (path_of q)) h is ∙ ap (option_and_then (λ part. option_map (of_class h.class) (member_with p h.class part))) (slice_get-map part_of q h.at)

pub round_none : (p : Plain) (d : Design) (q : List PathPart) → IsHome (parent d (path_of q)) None → member_round p d (path_of q) ≡ None
round_none p d q is = within_none p (path_of q) (parent d (path_of q)) is

not_zero : (n : ℕ) → not (nat_lt 0 n) ≡ nat_eq n 0
not_zero zero = refl
not_zero (suc n) = ap not (zero_lt n) ∙ sym (other n)
  where
    other : (n : ℕ) → nat_eq (suc n) 0 ≡ false
    other n = grind arith

pub top_some : (o : Option Object) (h : Home) → IsHome o (Some h) → not (nat_lt 0 h.at) ≡ is_top o
top_some None h is = absurd is
top_some (Some o) h is = not_zero h.at ∙ ap (λ n. nat_eq n 0) (sym is.0)

pub top_none : (o : Option Object) → IsHome o None → true ≡ is_top o
top_none None is = refl
top_none (Some o) is = absurd is

-- ---- loops

map_last : {A B : Type 0} (f : A → B) (xs ys : List A) (x : A) → ys ≡ xs ++ x ∷ [] → map f ys ≡ map f xs ++ f x ∷ []
map_last f [] ys x e = ap (map f) e
map_last f (z ∷ xs) ys x e = ap (map f) e ∙ ap (λ w. f z ∷ w) (map_last f xs (xs ++ x ∷ []) x refl)

from_at : {A : Type 0} (ys : List A) (i : ℕ) (y : A) → i < length ys → y ≡ get_or ys i y → drop i ys ≡ y ∷ drop (i + 1) ys
from_at [] i y h e = absurd (omega arith)
from_at (z ∷ ys) zero y h e = let d : y ≡ z = e in λ i. sym d i ∷ ys
from_at (z ∷ ys) (suc i) y h e =
    let a : i < length ys = omega arith in
    let d : suc i + 1 ≡ suc (i + 1) = omega arith in
    from_at ys i y a e ∙ ap (λ n. y ∷ drop n (z ∷ ys)) (sym d)

abbrev pub Tabled : {S : Type 0} → List (IndexMap ℕ ℕ S) → List PlainClass → List PlainClass → Type 0
Tabled {S} made rest all = (ts : List (IndexMap ℕ ℕ S)) → AreTables ts rest → AreTables (made ++ ts) all

pub tabled_next : {S : Type 0} (made new : List (IndexMap ℕ ℕ S)) (t : IndexMap ℕ ℕ S) (ks : List PlainClass) (i : ℕ) (k : PlainClass) (all : List PlainClass) → i < length ks → k ≡ get_or ks i k
    → Tabled made (drop i ks) all → Names t k → new ≡ made ++ t ∷ [] → Tabled new (drop (i + 1) ks) all
tabled_next made new t ks i k all h e inv names n ts rest =
    subst (λ z. AreTables z all) (sym (ap (λ z. z ++ ts) n ∙ append_assoc made (t ∷ []) ts)) (inv (t ∷ ts) (subst (λ z. AreTables (t ∷ ts) z) (sym (from_at ks i k h e)) (names, rest)))

with_none : {A : Type 0} (xs : List A) → xs ++ [] ≡ xs
with_none [] = refl
with_none (x ∷ xs) = ap (λ ys. x ∷ ys) (with_none xs)

pub tabled_last : {S : Type 0} (made : List (IndexMap ℕ ℕ S)) (rest all : List PlainClass) → rest ≡ [] → Tabled made rest all → AreTables made all
tabled_last {S} made rest all e inv = subst (λ z. AreTables z all) (with_none made) (inv [] (subst (λ z. AreTables {S = S} [] z) (sym e) tt))

pub dropped : {A : Type 0} (i : ℕ) (xs : List A) → length xs ≤ i → drop i xs ≡ []
dropped zero [] h = refl
dropped zero (x ∷ xs) h = absurd (omega (arith, h))
dropped (suc i) [] h = refl
dropped (suc i) (x ∷ xs) h = let l : length xs ≤ i = omega (arith, h) in dropped i xs l
