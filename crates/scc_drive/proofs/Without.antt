-- Names that hold the same, but nothing at one of them.
use Rattle.std.proofs.Common.{◌≡◌, ◌≢◌, ℕ, Bool, true, false, List, [], ◌∷◌, Some, None, ap, refl, sym, ◌∙◌, true≢false}
use Rattle.std.proofs.lemmas.Slice.Eq.{bytes_eq-Decides}
use Rattle.std.specs.Prelude.{take, option_map, bytes_eq, if◌then◌else◌, is_some}
use Rattle.scc_base.specs.Outside.{Shelf}
use Rattle.scc_tokens_directives.specs.declared.file.Source.{Source}
use Rattle.scc_tokens.specs.Files.{HoldsAll, first_part}
use Rattle.scc_drive.specs.Answer.{without}

pub without_none : (name : List ℕ) (shelf : Shelf) → without name shelf name ≡ None
without_none name shelf = ap (λ b. if b then None else shelf name) ((bytes_eq-Decides name name).1 refl)

-- another name holds what it held
pub still_held : (name : List ℕ) (shelf : Shelf) (other bytes : List ℕ) → other ≢ name → first_part shelf other ≡ Some bytes → first_part (without name shelf) other ≡ Some bytes
still_held name shelf other bytes n h = go (bytes_eq other name) refl
  where
    go : (b : Bool) → bytes_eq other name ≡ b → option_map (take 1048577) (if b then None else shelf other) ≡ Some bytes
    go true e = absurd (n ((bytes_eq-Decides other name).0 e))
    go false e = h

-- a name that holds nothing is another than one that holds something
other_name : (name : List ℕ) (some : Shelf) (other bytes : List ℕ) → some name ≡ None → first_part some other ≡ Some bytes → other ≢ name
other_name name some other bytes none h e =
    true≢false (ap is_some (sym h) ∙ ap (λ n. is_some (option_map (take 1048577) (some n))) e ∙ ap (λ x. is_some (option_map (take 1048577) x)) none)

-- what was read is still there, where some names hold it and nothing at this one
pub all_still : (name : List ℕ) (some shelf : Shelf) (sources : List Source) → some name ≡ None → HoldsAll (first_part some) sources → HoldsAll (first_part shelf) sources
    → HoldsAll (first_part (without name shelf)) sources
all_still name some shelf [] none h k = tt
all_still name some shelf (s ∷ ss) none h k = (still_held name shelf s.name s.bytes (other_name name some s.name s.bytes none h.0) k.0, all_still name some shelf ss none h.1 k.1)
