-- Homes by their locations are those by their paths.
use Rattle.std.proofs.Common.{◌≡◌, ℕ, Bool, true, false, not, ◌&&◌, List, Option, Some, None, option_map, option_and_then, refl, sym, ap, ◌∙◌, subst}
use Rattle.scc_semantics.specs.Location.{Location, Part, same}
use Rattle.scc_bits_kinds.specs.declared.kind.Kind.{Kind}
use Rattle.scc_elab_spec.specs.Grown.{Grown, at_path, node_of}
use Rattle.scc_elab_spec.specs.Binding.{same_home, is_top, may_bind}
use Rattle.scc_elab_store.specs.declared.locations.Location.{Location as Held}
use Rattle.scc_elab_store.specs.contracts.locations.LocationPartialEq.TheImpl as location_equal
use Rattle.scc_elab_store.specs.Locations.{location_of}
use Rattle.scc_elab_store.proofs.Same.{location_is}
use Rattle.scc_elab_ports.specs.Bound.{home_path, same_there, fits_at}

pub same_is : (a b : Held) → location_equal.eq-value.it a b ≡ same (location_of a) (location_of b)
same_is a b = location_is a b

pub path_is : (o : Option (List Part)) → home_path (option_map at_path o) ≡ o
path_is None = refl
path_is (Some p) = refl

-- what is at home
pub at_home : (h : Option Location) (o : Option (List Part)) → h ≡ option_map at_path o → home_path h ≡ o
at_home h o e = ap home_path e ∙ path_is o

pub homes_are : (a b : Option (List Part)) → same_there (option_map at_path a) (option_map at_path b) ≡ same_home a b
homes_are None None = refl
homes_are None (Some q) = refl
homes_are (Some p) None = refl
homes_are (Some p) (Some q) = refl

-- what is asked of a home by its location is asked of its path
pub fits_is : (g : Grown) (m : ℕ) (k : Kind) (output : Bool) (h : Option Location) (o : Option (List Part)) (top may b : Bool) → h ≡ option_map at_path o → top ≡ is_top (home_path h) → may ≡ may_bind g (home_path h) k output m (node_of g m) → b ≡ (not top && may)
    → b ≡ fits_at g m o k output
fits_is g m k output h o top may b e t y z = z ∙ (λ i. not (t i) && y i) ∙ ap (λ p. not (is_top p) && may_bind g p k output m (node_of g m)) (at_home h o e)
