-- Statements counted up to limits. This project's own.
use Rattle.std.specs.Prelude.{◌≡◌, ℕ, zero, suc, ◌+◌, max}
use Rattle.scc_inline_size_laws.specs.Counts.{many, deep}
use Rattle.scc_inline_facts.specs.declared.extent.Extent.{Extent}

abbrev pub nothing : Extent
nothing = record { size = 0; height = 0 }

-- how deep statements that nest so deep reach at a depth, 0 where there are none
abbrev pub reaching : ℕ → ℕ → ℕ
reaching d zero = 0
reaching d (suc h) = d + suc h

abbrev pub IsReached : ℕ → ℕ → ℕ → Type 0
IsReached d h r = deep r ≡ deep (reaching d h)

-- so many statements more, that reach so deep
pub record Grows (old new : Extent) (n h : ℕ) : Type 0 where
  pub size : many new.size ≡ many (old.size + n)
  pub height : deep new.height ≡ deep (max old.height h)
