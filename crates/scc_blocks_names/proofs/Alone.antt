-- Names whose steps are the same are the same.
use Rattle.std.proofs.Common.{◌≡◌, ℕ, List, [], ◌∷◌, ◌++◌, map, get_or, drop, Option, Some, None, refl, sym, ap, ◌∙◌, inl, inr}
use Rattle.std.specs.Prelude.{◌⊎◌}
use Rattle.std.proofs.lemmas.List.{append-nil}
use Rattle.scc_base.specs.declared.path.PathPart.{PathPart}
use Rattle.scc_base.specs.declared.path.PathPart.TheVariants as piece
use Rattle.scc_semantics.specs.Location.{Part, Member, Element}
use Rattle.scc_core_spec.specs.Term.{CellName, Own}
use Rattle.scc_blocks_names.specs.Placed.{own_places, places_of, piece_of, Objects, AreApart, Stands, IsProcess, PlacedBy, IsPlaced}

append_assoc : {A : Type 0} → (a b c : List A) → (a ++ b) ++ c ≡ a ++ (b ++ c)
append_assoc [] b c = refl
append_assoc (x ∷ a) b c = ap (λ l. x ∷ l) (append_assoc a b c)

-- ---- steps back from pieces

abbrev place_of : PathPart → Part
place_of (piece.Member n) = Member n.0
place_of (piece.Index i) = Element i

place_back : (p : Part) → place_of (piece_of p) ≡ p
place_back (Member n) = refl
place_back (Element i) = refl

places_back : (ps : List Part) → map place_of (map piece_of ps) ≡ ps
places_back [] = refl
places_back (p ∷ ps) = λ i. place_back p i ∷ places_back ps i

pub same_places : (ps qs : List Part) → map piece_of ps ≡ map piece_of qs → ps ≡ qs
same_places ps qs e = sym (places_back ps) ∙ ap (map place_of) e ∙ places_back qs

-- ---- paths

abbrev IsBelow : List Part → List Part → Type 0
IsBelow outer inner = (more : List Part) × (inner ≡ outer ++ more)

comparable : (p q a b : List Part) → p ++ a ≡ q ++ b → IsBelow p q ⊎ IsBelow q p
comparable [] q a b e = inl (q, refl)
comparable (x ∷ p) [] a b e = inr (x ∷ p, refl)
comparable (x ∷ p) (y ∷ q) a b e =
    let same : x ≡ y = ap (λ l. get_or l 0 x) e in
    elim (comparable p q a b (ap (drop 1) e)) [
      | inl r ↦ inl (r.0, λ i. sym same i ∷ r.1 i)
      | inr r ↦ inr (r.0, λ i. same i ∷ r.1 i)
    ]

cancel : (p a b : List Part) → p ++ a ≡ p ++ b → a ≡ b
cancel [] a b e = e
cancel (x ∷ p) a b e = cancel p a b (ap (drop 1) e)

-- a list is its front part and its last step
record Ended (p : Part) (ps : List Part) : Type 0 where
  front : List Part
  last : Part
  is : p ∷ ps ≡ front ++ last ∷ []

ended : (p : Part) (ps : List Part) → Ended p ps
ended p [] = record { front = []; last = p; is = refl }
ended p (q ∷ ps) = let r = ended q ps in record { front = p ∷ r.front; last = r.last; is = ap (λ l. p ∷ l) r.is }

same_last : (a b : List Part) (x y : Part) → a ++ x ∷ [] ≡ b ++ y ∷ [] → a ≡ b
same_last [] [] x y e = refl
same_last [] (z ∷ b) x y e = absurd (no_end b y (ap (drop 1) e))
  where
    no_end : (b : List Part) (y : Part) → [] ≡ b ++ y ∷ [] → ⊥
    no_end [] y e = cc
    no_end (z ∷ b) y e = cc
same_last (z ∷ a) [] x y e = absurd (no_end a x (sym (ap (drop 1) e)))
  where
    no_end : (b : List Part) (y : Part) → [] ≡ b ++ y ∷ [] → ⊥
    no_end [] y e = cc
    no_end (z ∷ b) y e = cc
same_last (z ∷ a) (w ∷ b) x y e = λ i. ap (λ l. get_or l 0 z) e i ∷ same_last a b x y (ap (drop 1) e) i

module _ (d : Objects) (apart : AreApart d) where
  -- no object stands at the path of a process or below it
  no_object : (p q : List Part) → IsProcess d p → Stands d q → IsBelow p q → ⊥
  no_object p q h s b =
      let is : q ≡ h.object ++ Member h.function ∷ b.0 = b.1 ∙ ap (λ l. l ++ b.0) h.is ∙ append_assoc h.object (Member h.function ∷ []) b.0 in
      apart h.object h.function (s h.object h.function b.0 is) h.runs

  -- and no other process
  one_process : (p q : List Part) → IsProcess d p → IsProcess d q → IsBelow p q → p ≡ q
  one_process p q h k b = by b.0 b.1
    where
      by : (more : List Part) → q ≡ p ++ more → p ≡ q
      by [] e = sym (e ∙ append-nil p)
      by (x ∷ more) e =
          let r = ended x more in
          let whole : k.object ++ Member k.function ∷ [] ≡ (p ++ r.front) ++ r.last ∷ [] =
          sym k.is ∙ e ∙ ap (λ l. p ++ l) r.is ∙ sym (append_assoc p r.front (r.last ∷ [])) in
          let inner : k.object ≡ p ++ r.front = same_last k.object (p ++ r.front) (Member k.function) r.last whole in
          absurd (no_object p k.object h k.stands (r.front, inner))

  -- ---- names

  abbrev name_with : List Part → Option Own → List ℕ → CellName
  name_with p o is = record { path = p; own = o; indices = is }

  bare : (n : CellName) → n.own ≡ None → n.indices ≡ [] → places_of n ≡ n.path
  bare n e f = (λ i. n.path ++ (own_places (e i) ++ map Element (f i))) ∙ append-nil n.path

  both_bare : (m n : CellName) → m.own ≡ None → n.own ≡ None → m.indices ≡ [] → n.indices ≡ [] → places_of m ≡ places_of n → m ≡ n
  both_bare m n a b f g e =
      let path : m.path ≡ n.path = sym (bare m a f) ∙ e ∙ bare n b g in
      λ i. name_with (path i) ((a ∙ sym b) i) ((f ∙ sym g) i)

  abbrev rest_of : Own → List ℕ → List Part
  rest_of o is = Element o.number ∷ Member o.identifier ∷ map Element is

  local_is : (n : CellName) (o : Own) → n.own ≡ Some o → places_of n ≡ n.path ++ rest_of o n.indices
  local_is n o e = ap (λ o. n.path ++ (own_places o ++ map Element n.indices)) e

  -- a local is no object or process
  mixed : (m n : CellName) (o : Own) → m.own ≡ Some o → n.own ≡ None → IsProcess d m.path → PlacedBy d n None → places_of m ≡ places_of n → ⊥
  mixed m n o a b h k e =
      let is : n.path ≡ m.path ++ rest_of o m.indices = sym (bare n b k.0) ∙ sym e ∙ local_is m o a in
      let below : IsBelow m.path n.path = (rest_of o m.indices, is) in
      elim k.1 [
        | inl s ↦ no_object m.path n.path h s below
        | inr q ↦
            let same : m.path ≡ n.path = one_process m.path n.path h q below in
            let none : [] ≡ rest_of o m.indices = cancel m.path [] (rest_of o m.indices) (append-nil m.path ∙ same ∙ is) in
            cc
      ]

  abbrev number_of : Part → ℕ
  number_of (Member n) = n
  number_of (Element i) = i

  numbers_back : (is : List ℕ) → map number_of (map Element is) ≡ is
  numbers_back [] = refl
  numbers_back (i ∷ is) = ap (λ l. i ∷ l) (numbers_back is)

  abbrev own_with : ℕ → ℕ → Own
  own_with n i = record { number = n; identifier = i }

  both_local : (m n : CellName) (k l : Own) → m.own ≡ Some k → n.own ≡ Some l → m.path ≡ n.path → places_of m ≡ places_of n → m ≡ n
  both_local m n k l a b path e =
      let rest : rest_of k m.indices ≡ rest_of l n.indices =
      cancel n.path (rest_of k m.indices) (rest_of l n.indices) (ap (λ p. p ++ rest_of k m.indices) (sym path) ∙ sym (local_is m k a) ∙ e ∙ local_is n l b) in
      let number : k.number ≡ l.number = ap (λ t. number_of (get_or t 0 (Element 0))) rest in
      let name : k.identifier ≡ l.identifier = ap (λ t. number_of (get_or t 1 (Element 0))) rest in
      let indices : m.indices ≡ n.indices = sym (numbers_back m.indices) ∙ ap (λ t. map number_of (drop 2 t)) rest ∙ numbers_back n.indices in
      ap (λ o. name_with m.path o m.indices) a ∙ (λ i. name_with (path i) (Some (own_with (number i) (name i))) (indices i)) ∙ ap (λ o. name_with n.path o n.indices) (sym b)

  pub same_name : (m n : CellName) → IsPlaced d m → IsPlaced d n → places_of m ≡ places_of n → m ≡ n
  same_name m n h k e = by m.own n.own refl refl h k
    where
      by : (a b : Option Own) → m.own ≡ a → n.own ≡ b → PlacedBy d m a → PlacedBy d n b → m ≡ n
      by None None a b h k = both_bare m n a b h.0 k.0 e
      by (Some o) None a b h k = absurd (mixed m n o a b h k e)
      by None (Some o) a b h k = absurd (mixed n m o b a k h (sym e))
      by (Some o) (Some r) a b h k =
          both_local m n o r a b
          (elim (comparable m.path n.path (rest_of o m.indices) (rest_of r n.indices) (sym (local_is m o a) ∙ e ∙ local_is n r b)) [
            | inl q ↦ one_process m.path n.path h k q
            | inr q ↦ sym (one_process n.path m.path k h q)
          ]) e
