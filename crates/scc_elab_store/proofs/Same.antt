-- Locations that the code compares are compared as the definitions do.
use Rattle.std.proofs.Common.{◌≡◌, refl, sym, ap, ◌∙◌, ℕ, Bool, true, false, ◌&&◌, nat_eq, if◌then◌else◌, cond, List, [], ◌∷◌, map, Option, Some, None, option_map, unwrap_or}
use Rattle.std.specs.Map.{lookup}
use Rattle.std.specs.Option.{option_eq}
use Rattle.std.specs.Cmp.Lexicographic.{pointwise}
use Rattle.scc_semantics.specs.Location.{Location, Root, Top, Local, Answer, same, same_part, same_path, same_root, same_calls}
use Rattle.scc_elab_store.specs.declared.locations.LocalOf.{LocalOf}
use Rattle.scc_elab_store.specs.declared.locations.Location.{Location as Held}
use Rattle.scc_elab_store.specs.declared.locations.Part.{Part}
use Rattle.scc_elab_store.specs.declared.locations.Part.TheVariants as part
use Rattle.scc_elab_store.specs.contracts.locations.PartPartialEq.TheImpl as part_equal
use Rattle.scc_elab_store.specs.contracts.locations.LocalOfPartialEq.TheImpl as local_equal
use Rattle.scc_elab_store.specs.contracts.locations.LocationPartialEq.TheImpl as location_equal
use Rattle.scc_elab_store.specs.Locations.{part_of, root_of, location_of}
use Rattle.scc_elab_store.specs.Stores.{entry_at, turn_of}

part_is : (a b : Part) → part_equal.eq-value.it a b ≡ same_part (part_of a) (part_of b)
part_is (part.Member a) (part.Member b) = refl
part_is (part.Member a) (part.Element b) = refl
part_is (part.Element a) (part.Member b) = refl
part_is (part.Element a) (part.Element b) = refl

path_is : (xs ys : List Part) → pointwise part_equal.eq-value.it xs ys ≡ same_path (map part_of xs) (map part_of ys)
path_is [] [] = refl
path_is [] (b ∷ ys) = refl
path_is (a ∷ xs) [] = refl
path_is (a ∷ xs) (b ∷ ys) = ap (λ x. x && pointwise part_equal.eq-value.it xs ys) (part_is a b) ∙ ap (λ x. same_part (part_of a) (part_of b) && x) (path_is xs ys)

and_true : (b c : Bool) → (b && c) ≡ (b && true && c)
and_true true c = refl
and_true false c = refl

root_is : (a b : Option LocalOf) → option_eq local_equal.eq-value.it a b ≡ same_root (root_of a) (root_of b)
root_is None None = refl
root_is None (Some b) = refl
root_is (Some a) None = refl
root_is (Some a) (Some b) = and_true (nat_eq a.object b.object) (nat_eq a.local b.local)

pub location_is : (a b : Held) → location_equal.eq-value.it a b ≡ same (location_of a) (location_of b)
location_is a b = ap (λ x. x && pointwise part_equal.eq-value.it a.path.items b.path.items) (root_is a.local b.local) ∙ ap (λ x. same_root (root_of a.local) (root_of b.local) && x) (path_is a.path.items b.path.items)

lookup_by : {K X : Type 0} (p q : K → Bool) → ((k : K) → p k ≡ q k) → (es : List (K × X)) → lookup p es ≡ lookup q es
lookup_by p q h [] = refl
lookup_by p q h (e ∷ es) = ap (λ x. cond x (Some e.1) (lookup p es)) (h e.0) ∙ ap (λ x. cond (q e.0) (Some e.1) x) (lookup_by p q h es)

pub entry_is : {X : Type 0} (a : Held) (es : List (Held × X)) → lookup (location_equal.eq-value.it a) es ≡ entry_at es (location_of a)
entry_is a = lookup_by (location_equal.eq-value.it a) (λ k. same (location_of a) (location_of k)) (location_is a)

pub turn_is : (a : LocalOf) (ds : List (LocalOf × ℕ)) → unwrap_or (lookup (local_equal.eq-value.it a) ds) 0 ≡ turn_of ds (root_of (Some a))
turn_is a ds = refl
