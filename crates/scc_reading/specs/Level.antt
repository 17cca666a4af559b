-- Levels of nesting: the first token at which a text opens more of them than are left.
use Rattle.std.specs.Prelude.{ℕ, zero, suc, List, Option, Some, None}

-- The part that begins at the tokens opens a level, of which `n` are left; what is inside it has one less.
abbrev pub opens : {T : Type 0} → ℕ → List T → (ℕ → Option (List T)) → Option (List T)
opens zero ts inside = Some ts
opens (suc n) ts inside = inside n

-- of two parts, the one after the other
infixr 10 ◌then◌
abbrev pub ◌then◌ : {T : Type 0} → Option (List T) → Option (List T) → Option (List T)
(Some ts) then later = Some ts
None then later = later
