-- The text of a name in the code is that of the definitions.
use Rattle.std.proofs.Common.{◌≡◌, ℕ, List, [], ◌∷◌, ◌++◌, map, Option, Some, None, refl, sym, ap, ◌∙◌}
use Rattle.scc_base.specs.declared.names.Name.{Name}
use Rattle.scc_base.specs.declared.path.PathPart.{PathPart}
use Rattle.scc_base.specs.declared.path.PathPart.TheVariants.{Member, Index}
use Rattle.scc_semantics.specs.Location.{Part}
use Rattle.scc_semantics.specs.Location as location
use Rattle.scc_core.specs.declared.program.CellName.{CellName}
use Rattle.scc_core_spec.specs.Constants.{name_text}
use Rattle.scc_core_view.specs.Terms.{part_of, own_of}
use Rattle.scc_core_view.specs.Terms as view
use Rattle.scc_blocks_names.specs.Placed.{Objects, IsPlaced, own_places, piece_of, places_of}
use Rattle.scc_blocks_names.proofs.Texts.{text_joined}
use Rattle.scc_lower_spec.specs.Parts.{joined, text_at}
use Rattle.scc_lower.specs.Names.{local_parts, parts_of, name_of}

map-behind : {A : Type 0} {B : Type 0} (f : A → B) (a b : List A) → map f (a ++ b) ≡ map f a ++ map f b
map-behind f [] b = refl
map-behind f (x ∷ a) b = ap (λ l. f x ∷ l) (map-behind f a b)

group : (a b c : List PathPart) → (a ++ b) ++ c ≡ a ++ (b ++ c)
group [] b c = refl
group (x ∷ a) b c = ap (λ l. x ∷ l) (group a b c)

path-same : (path : List PathPart) → map piece_of (map part_of path) ≡ path
path-same [] = refl
path-same (Member n ∷ path) = ap (λ l. Member n ∷ l) (path-same path)
path-same (Index i ∷ path) = ap (λ l. Index i ∷ l) (path-same path)

local-same : (l : Option (ℕ × Name)) → map piece_of (own_places (own_of l)) ≡ local_parts l
local-same None = refl
local-same (Some l) = refl

indices-same : (is : List ℕ) → map piece_of (map location.Element is) ≡ map Index is
indices-same [] = refl
indices-same (i ∷ is) = ap (λ l. Index i ∷ l) (indices-same is)

parts-same : (n : CellName) → parts_of n ≡ map piece_of (places_of (view.name_of n))
parts-same n =
    let behind = own_places (own_of n.local) ++ map location.Element n.indices in
    group n.path (local_parts n.local) (map Index n.indices)
    ∙ (λ i. sym (path-same n.path) i ++ (sym (local-same n.local) i ++ sym (indices-same n.indices) i))
    ∙ ap (λ l. map piece_of (map part_of n.path) ++ l) (sym (map-behind piece_of (own_places (own_of n.local)) (map location.Element n.indices)))
    ∙ sym (map-behind piece_of (map part_of n.path) behind)

pub name-located : (names : List (List ℕ)) (d : Objects) (n : CellName) → IsPlaced d (view.name_of n) → name_of names n ≡ name_text (text_at names) (view.name_of n)
name-located names d n h = ap (joined names) (parts-same n) ∙ sym (text_joined names d (view.name_of n) h)
