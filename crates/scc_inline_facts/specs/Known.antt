-- What is known of functions. This project's own.
use Rattle.std.specs.Prelude.{◌≡◌, ℕ, List, Option, Some, None, slice_get}
use Rattle.scc_elab_spec.specs.Program.{Function, Plain}
use Rattle.scc_inline_size_laws.specs.Counts.{StandsStill, deep, height_in, many, size_in}
use Rattle.scc_inline_facts.specs.declared.facts.Facts.{Facts}

-- counts for all functions that are those of the functions that are known
pub record Agrees (known : List (Option Facts)) (sizes heights : ℕ → ℕ) : Type 0 where
  pub size : (n : ℕ) (x : Facts) → slice_get known n ≡ Some (Some x) → sizes n ≡ x.extent.size
  pub height : (n : ℕ) (x : Facts) → slice_get known n ≡ Some (Some x) → heights n ≡ x.extent.height

-- a function's body comes to this, by what the bodies of the functions that it calls come to
pub record IsCounted (p : Plain) (f : Function) (x : Facts) (sizes heights : ℕ → ℕ) : Type 0 where
  pub size : many x.extent.size ≡ many (size_in sizes p f f.body)
  pub height : deep x.extent.height ≡ deep (height_in heights p f f.body)

abbrev pub Tells : List (Option Facts) → Plain → Function → Facts → Type 0
Tells known p f x = (sizes heights : ℕ → ℕ) → Agrees known sizes heights → IsCounted p f x sizes heights

-- all that is known is what the bodies come to
abbrev pub AreKnown : Plain → List (Option Facts) → Type 0
AreKnown p known = (n : ℕ) (x : Facts) (f : Function) → slice_get known n ≡ Some (Some x) → slice_get p.functions n ≡ Some f → Tells known p f x

abbrev pub size_of : Option (Option Facts) → ℕ
size_of (Some (Some x)) = x.extent.size
size_of (Some None) = 0
size_of None = 0

abbrev pub height_of : Option (Option Facts) → ℕ
height_of (Some (Some x)) = x.extent.height
height_of (Some None) = 0
height_of None = 0

-- each function is known, and what is known are counts that stand still
abbrev pub AreFacts : Plain → List (Option Facts) → Type 0
AreFacts p known = StandsStill p (λ n. height_of (slice_get known n)) (λ n. size_of (slice_get known n))

-- one function more is known
pub record IsSet (old new : List (Option Facts)) (n : ℕ) (x : Facts) : Type 0 where
  pub before : slice_get old n ≡ Some None
  pub here : slice_get new n ≡ Some (Some x)
  pub others : (m : ℕ) → (m ≡ n → ⊥) → slice_get new m ≡ slice_get old m

abbrev pub AreAll : List (Option Facts) → Type 0
AreAll known = (n : ℕ) → slice_get known n ≡ Some None → ⊥
