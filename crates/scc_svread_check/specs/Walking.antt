-- Walking over a text from its first byte on: the place, which is the number of bytes before it, and the first wrong size and the
-- first wrong name that stood before it.
use Rattle.std.specs.Prelude.{ℕ, ◌+◌, ◌-◌, ◌^◌, min, Bool, if◌then◌else◌, List, [], ◌∷◌, Option, Some, None}
use Rattle.scc_svread_check.specs.declared.walk.Walk.{Walk}

-- the first of two places in the order of the text
infixr 10 ◌orelse◌
abbrev pub ◌orelse◌ : Option ℕ → Option ℕ → Option ℕ
(Some at) orelse later = Some at
None orelse later = later

abbrev pub mark : Bool → ℕ → Option ℕ
mark wrong at = if wrong then Some at else None

-- a walk over a part of a text
abbrev pub Walking : Type 0
Walking = Walk → Walk

-- the start of a text
abbrev pub start : Walk
start = record { at = 0; size = None; name = None }

-- over so many bytes; places past 2^64 - 1 are not told from each other
abbrev pub pass : ℕ → Walking
pass n w = record { at = min (w.at + n) (2 ^ 64 - 1); size = w.size; name = w.name }

-- whether a wrong size stands here
abbrev pub size_if : Bool → Walking
size_if wrong w = record { at = w.at; size = w.size orelse mark wrong w.at; name = w.name }

-- whether a wrong name stands here
abbrev pub name_if : Bool → Walking
name_if wrong w = record { at = w.at; size = w.size; name = w.name orelse mark wrong w.at }

-- one after the other
infixl 10 ◌then◌
abbrev pub ◌then◌ : Walking → Walking → Walking
p then q = λ w. q (p w)

abbrev pub all : List Walking → Walking
all [] w = w
all (p ∷ ps) w = all ps (p w)

-- A part whose size may be wrong as a whole: it stands before what is in it.
abbrev pub size_of_whole : Bool → Walking → Walking
size_of_whole wrong p w = record { at = (p w).at; size = w.size orelse mark wrong w.at orelse (p w).size; name = (p w).name }

-- the blanks before a line that stands further in
abbrev pub deeper : ℕ → ℕ
deeper n = min (n + 2) (2 ^ 64 - 1)
