-- What is known of the first parts of a concatenation, by the list of them. This project's own.
use Rattle.std.specs.Prelude.{◌≡◌, ◌<◌, ◌≤◌, Bool, true, false, List, [], ◌∷◌}
use Rattle.std.specs.List.{list_all}
use Rattle.scc_bits_kinds.specs.declared.kind.Kind.{Kind}
use Rattle.scc_bits_kinds.specs.Bits.{is_part}
use Rattle.scc_bits.specs.Value.{Number}
use Rattle.scc_plain_spec.specs.Numbers.{kinds_of, widths, joined_kinds, joined_words}
use Rattle.scc_templates_scopes.specs.declared.join.Parts.{Parts}
use Rattle.scc_templates_scopes.specs.declared.join.Parts.TheVariants as parts
use Rattle.scc_templates_scopes.specs.declared.join.Joined.{Joined}

abbrev pub are_parts : List Number → Bool
are_parts ns = list_all is_part (kinds_of ns)

-- the kind of all together
abbrev pub kind_of_all : Number → List Number → Kind
kind_of_all n ns = joined_kinds n.kind (kinds_of ns)

-- one number for all of them
pub record Together (number n : Number) (ns : List Number) : Type 0 where
  pub parts : are_parts (n ∷ ns) ≡ true
  pub narrow : widths (kinds_of (n ∷ ns)) ≤ 128
  pub kind : number.kind ≡ kind_of_all n ns
  pub word : number.word ≡ joined_words 0 (n ∷ ns)

abbrev pub StandsBy : Parts → Number → List Number → Type 0
StandsBy parts.Nothing m ns = ns ≡ []
StandsBy parts.Number m [] = ⊥
StandsBy parts.Number m (n ∷ ns) = Together m n ns
StandsBy parts.NoPart m ns = are_parts ns ≡ false
StandsBy parts.TooWide m ns = (are_parts ns ≡ true) × (128 < widths (kinds_of ns))

abbrev pub Stands : Joined → List Number → Type 0
Stands j ns = StandsBy j.parts j.number ns
