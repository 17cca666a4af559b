-- What cells are made from. This project's own.
use Rattle.std.specs.Prelude.{◌≡◌, ℕ, nat_eq, List, [], ◌∷◌, map}
use Rattle.indexmap.specs.IndexMap.{IndexMap, get}
use Rattle.scc_plain_tree.specs.declared.program.Plain.{Plain}
use Rattle.scc_plain_tree.specs.declared.program.PlainClass.{PlainClass}
use Rattle.scc_elab_design.specs.declared.Design.{Design}
use Rattle.scc_elab_spec.specs.Types.{Place, is_moved}
use Rattle.scc_plain_view.specs.Plains.{plain_of}
use Rattle.scc_inline_cells.specs.declared.locations.MemberOf.{MemberOf}
use Rattle.scc_inline_cells.specs.declared.known.Known.{Known}
use Rattle.scc_inline_cells.specs.Homes.{AreHomes}
use Rattle.scc_inline_cells.specs.Noted.{moves}
use Rattle.scc_inline_cells.specs.Spots.{place_of}
use Rattle.scc_inline_cells.specs.Tables.{first_from}

abbrev pub of_class : ℕ → ℕ → Place
of_class c n = record { class = c; member = n }

abbrev pub names_of : PlainClass → List ℕ
names_of k = map (λ m. m.name.0) k.members

-- a table has where each name stands first among a class's members
abbrev pub Names : {S : Type 0} → IndexMap ℕ ℕ S → PlainClass → Type 0
Names t k = (n : ℕ) → get nat_eq t n ≡ first_from n 0 (names_of k)

abbrev pub AreTables : {S : Type 0} → List (IndexMap ℕ ℕ S) → List PlainClass → Type 0
AreTables [] [] = Unit {0}
AreTables (t ∷ ts) (k ∷ ks) = Names t k × AreTables ts ks
AreTables ts ks = ⊥

pub record IsKnown (k : Known) (p : Plain) (d : Design) : Type 0 where
  pub homes : AreHomes k.homes d.objects
  pub moving : (m : MemberOf) → moves k.moving m ≡ is_moved (plain_of p) (place_of m)
  pub members : AreTables k.members p.classes
  pub targets : (n : ℕ) → get nat_eq k.targets n ≡ first_from n 0 (map (λ t. t.object) d.targets)
