-- The variables of a module, and valuations, which give each of them a word.
use Rattle.std.specs.Prelude.{ℕ, ◌<◌, ◌≤◌, ◌^◌, List, slice_get, unwrap_or, option_map}
use Rattle.scc_bits_kinds.specs.declared.kind.Word.{Word}
use Rattle.scc_svtree.specs.declared.module.SvVar.{SvVar}

-- the width of a variable, 0 where there is none
abbrev pub width_at : List SvVar → ℕ → ℕ
width_at vars i = unwrap_or (option_map (λ v. v.width) (slice_get vars i)) 0

-- the word of a variable
abbrev pub word_at : List Word → ℕ → ℕ
word_at x i = unwrap_or (option_map (λ w. w.bits) (slice_get x i)) 0

-- 1 to 128 bits
abbrev pub IsWidth : ℕ → Type 0
IsWidth w = (1 ≤ w) × (w ≤ 128)

-- each word fits its variable
abbrev pub Fitting : List SvVar → List Word → Type 0
Fitting vars x = (i : ℕ) → word_at x i < 2 ^ width_at vars i
