-- The text of a name is that of its steps, joined.
use Rattle.std.proofs.Common.{◌≡◌, ℕ, List, [], ◌∷◌, ◌++◌, map, flat_map, decimal, Option, Some, None, refl, sym, ap, ◌∙◌}
use Rattle.scc_semantics.specs.Location.{Part, Member, Element}
use Rattle.scc_core_spec.specs.Term.{CellName, Own}
use Rattle.scc_core_spec.specs.Constants.{part_text, path_text, own_text, name_text}
use Rattle.scc_lower_spec.specs.Parts.{text_at, behind, joined}
use Rattle.scc_lower_spec.specs.Parts as lowered
use Rattle.scc_blocks_names.specs.Placed.{own_places, places_of, piece_of, Objects, IsPlaced, PlacedBy, IsProcess}

append_assoc : {A : Type 0} → (a b c : List A) → (a ++ b) ++ c ≡ a ++ (b ++ c)
append_assoc [] b c = refl
append_assoc (x ∷ a) b c = ap (λ l. x ∷ l) (append_assoc a b c)

part_same : (names : List (List ℕ)) (p : Part) → part_text (text_at names) p ≡ lowered.part_text names (piece_of p)
part_same names (Member n) = refl
part_same names (Element i) = refl

-- a path that isn't empty, before further steps
path_joined : (names : List (List ℕ)) (p : Part) (ps qs : List Part) → path_text (text_at names) (p ∷ ps) ++ behind names (map piece_of qs) ≡ joined names (map piece_of (p ∷ (ps ++ qs)))
path_joined names p [] qs = ap (λ t. t ++ behind names (map piece_of qs)) (part_same names p)
path_joined names p (q ∷ ps) qs =
    append_assoc (part_text (text_at names) p) (36 ∷ path_text (text_at names) (q ∷ ps)) (behind names (map piece_of qs))
    ∙ (λ i. part_same names p i ++ (36 ∷ path_joined names q ps qs i))

indices_joined : (names : List (List ℕ)) (is : List ℕ) → flat_map (λ i. 36 ∷ decimal i) is ≡ behind names (map piece_of (map Element is))
indices_joined names [] = refl
indices_joined names (i ∷ is) = ap (λ t. (36 ∷ decimal i) ++ t) (indices_joined names is)

own_joined : (names : List (List ℕ)) (o : Option Own) (is : List ℕ) → own_text (text_at names) o ++ flat_map (λ i. 36 ∷ decimal i) is ≡ behind names (map piece_of (own_places o ++ map Element is))
own_joined names None is = indices_joined names is
own_joined names (Some o) is =
    ap (λ t. 36 ∷ t) (append_assoc (decimal o.number) (36 ∷ text_at names o.identifier) (flat_map (λ i. 36 ∷ decimal i) is))
    ∙ ap (λ t. (36 ∷ decimal o.number) ++ ((36 ∷ text_at names o.identifier) ++ t)) (indices_joined names is)

text_from : (names : List (List ℕ)) (n : CellName) (p : Part) (ps : List Part) → n.path ≡ p ∷ ps → name_text (text_at names) n ≡ joined names (map piece_of (places_of n))
text_from names n p ps e =
    let rest : List Part = own_places n.own ++ map Element n.indices in
    (λ i. path_text (text_at names) (e i) ++ own_joined names n.own n.indices i)
    ∙ path_joined names p ps rest
    ∙ ap (λ l. joined names (map piece_of (l ++ rest))) (sym e)

-- a name without further steps may have the empty path
text_bare : (names : List (List ℕ)) (n : CellName) (path : List Part) → n.path ≡ path → n.own ≡ None → n.indices ≡ [] → name_text (text_at names) n ≡ joined names (map piece_of (places_of n))
text_bare names n (p ∷ ps) e f g = text_from names n p ps e
text_bare names n [] e f g =
    (λ i. path_text (text_at names) (e i) ++ (own_text (text_at names) (f i) ++ flat_map (λ i. 36 ∷ decimal i) (g i)))
    ∙ (λ i. joined names (map piece_of (sym e i ++ (own_places (sym f i) ++ map Element (sym g i)))))

below_process : (names : List (List ℕ)) (d : Objects) (n : CellName) → IsProcess d n.path → name_text (text_at names) n ≡ joined names (map piece_of (places_of n))
below_process names d n h = by h.object h.is
  where
    by : (object : List Part) → n.path ≡ object ++ Member h.function ∷ [] → name_text (text_at names) n ≡ joined names (map piece_of (places_of n))
    by [] e = text_from names n (Member h.function) [] e
    by (x ∷ object) e = text_from names n x (object ++ Member h.function ∷ []) e

pub text_joined : (names : List (List ℕ)) (d : Objects) (n : CellName) → IsPlaced d n → name_text (text_at names) n ≡ joined names (map piece_of (places_of n))
text_joined names d n h = by n.own refl h
  where
    by : (o : Option Own) → n.own ≡ o → PlacedBy d n o → name_text (text_at names) n ≡ joined names (map piece_of (places_of n))
    by None e h = text_bare names n n.path refl e h.0
    by (Some o) e h = below_process names d n h
