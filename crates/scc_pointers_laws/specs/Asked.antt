-- What is asked of the expressions and locations of statements where pointers are resolved: that walks find what the definitions have, wherever pointers
-- lead. This project's own.
use Rattle.std.specs.Prelude.{◌≡◌, List}
use Rattle.scc_pointers_laws.specs.Followed.{IsFollowed, IsFollowedLeft, IsKnown}
use Rattle.scc_pointers_walk.specs.declared.held.Resolver.{Resolver}
use Rattle.scc_unroll_asked.specs.Items.{AreAll, Item, Place, Value}

abbrev pub IsItem : Resolver → Item → Type 0
IsItem r (Value e) = IsFollowed r e
IsItem r (Place l) = IsFollowedLeft r l

-- it is of the same core
pub record IsBeside (s r : Resolver) : Type 0 where
  pub known : s.known ≡ r.known
  pub places : s.places ≡ r.places
  pub vectors : s.vectors ≡ r.vectors

-- so wherever local pointers lead
abbrev pub Asks : Resolver → Item → Type 0
Asks r x = (s : Resolver) → IsBeside s r → IsKnown s → IsItem s x

abbrev pub AreAsked : Resolver → List Item → Type 0
AreAsked r = AreAll (Asks r)
