-- Clocks of the processes before one, as far as they matter. This project's own.
use Rattle.std.specs.Prelude.{◌≡◌, ℕ, Bool, true, false, not, ◌&&◌, nat_eq, nat_le, List, [], ◌∷◌, map, length, Option, None, option_map, option_and_then, unwrap_or, find, if◌then◌else◌}
use Rattle.scc_base.specs.declared.refusal.Refusal.{Refusal}
use Rattle.scc_base.specs.declared.code.Code.TheVariants as reason
use Rattle.scc_core_spec.specs.First.{first_some, refused, refused_beside, when}
use Rattle.scc_elab_spec.specs.Grown.{Declared, Grown}
use Rattle.scc_elab_spec.specs.After.{Clock, bad_asynchronous, bad_clock, clock_of, first_clock, insensitive, no_reset, roots_once, same_way}
use Rattle.scc_elab_after.specs.declared.processes.Clock.{Clock as Held}
use Rattle.scc_elab_after.specs.Processes.{clock_in}

-- a clock beside the first one, where there is one clock
abbrev pub beside_first : Option Clock → Clock → Option Refusal
beside_first o c = unwrap_or (option_map (λ b. when (not (nat_eq b.root c.root && same_way b.rising c.rising)) (refused_beside reason.ClockPort c.place b.place)) o) None

-- a clock beside the first one of its root, and so many roots, where there may be several
abbrev pub beside_known : Option Clock → ℕ → Clock → Option Refusal
beside_known o n c = unwrap_or (option_map (λ b. when (not (same_way b.rising c.rising)) (refused_beside reason.ClockPort c.place b.place)) o) (when (nat_le 128 n) (refused reason.TooManyClocks c.place))

-- of the clocks before one the first is known, or with several the first of each root
abbrev pub Knows : (many : Bool) → List Clock → List Held → Type 0
Knows false before firsts = first_clock before ≡ first_clock (map clock_in firsts)
Knows true before firsts = ((n : ℕ) → find (λ b. nat_eq b.root n) before ≡ find (λ b. nat_eq b.root n) (map clock_in firsts)) × (length (roots_once [] before) ≡ length firsts)

-- a clock beside those before
abbrev pub beside : (many : Bool) → List Clock → Clock → Option Refusal
beside many before c = if many then beside_known (find (λ b. nat_eq b.root c.root) before) (length (roots_once [] before)) c else beside_first (first_clock before) c

-- what is looked for of a process, with the clocks of those before
abbrev pub bad_one : (many : Bool) → Grown → List Clock → Declared → Option Refusal
bad_one many g before d = first_some (insensitive g d ∷ option_and_then (bad_clock many g before) (clock_of g d) ∷ bad_asynchronous g d ∷ no_reset d ∷ [])
