-- The conditionals that are open at a place of a file, the innermost first (C++, "Conditional inclusion").
use Rattle.std.specs.Prelude.{List, [], ◌∷◌, Bool, true, false, ◌&&◌, not, if◌then◌else◌}
use Rattle.scc_tokens_directives.specs.declared.sides.Side.{Side}

-- the text is active where the innermost side is chosen and stands in active text
abbrev pub is_live : List Side → Bool
is_live [] = true
is_live (s ∷ ss) = s.outer && s.taken

abbrev pub opened : Bool → List Side → List Side
opened taken ss = record { outer = is_live ss; taken = taken; other = false } ∷ ss

-- the other side of the innermost conditional, if this is its first
abbrev pub turned : List Side → Bool × List Side
turned [] = (false, [])
turned (s ∷ ss) = (not s.other, (if s.other then s else record s { taken = not s.taken; other = true }) ∷ ss)

-- what is open behind the innermost conditional
abbrev pub closed : List Side → Bool × List Side
closed [] = (false, [])
closed (s ∷ ss) = (true, ss)
