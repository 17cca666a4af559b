-- Lists whose locations name the same cells, in whatever order and however often. This project's own.
use Rattle.std.specs.Prelude.{◌≡◌, ℕ, List, [], ◌∷◌}
use Rattle.scc_core_spec.specs.Uses.{among}
use Rattle.scc_rules_laws.specs.Seen.{Seen}

abbrev pub HasMembers : List ℕ → List ℕ → Type 0
HasMembers xs ys = (x : ℕ) → among x xs ≡ among x ys

pub record IsAlike (s t : Seen) : Type 0 where
  pub place : s.place ≡ t.place
  pub statement : s.statement ≡ t.statement
  pub number : s.number ≡ t.number
  pub write : s.write ≡ t.write
  pub cells : HasMembers s.cells t.cells

abbrev pub AreAlike : List Seen → List Seen → Type 0
AreAlike [] [] = Unit {0}
AreAlike (s ∷ ss) (t ∷ ts) = IsAlike s t × AreAlike ss ts
AreAlike _ _ = ⊥

-- of each process
abbrev pub AreAllAlike : (all marks : List (List Seen)) → Type 0
AreAllAlike [] [] = Unit {0}
AreAllAlike (ss ∷ all) (ts ∷ marks) = AreAlike ss ts × AreAllAlike all marks
AreAllAlike _ _ = ⊥
