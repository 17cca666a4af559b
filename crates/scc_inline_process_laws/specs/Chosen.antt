-- Objects of calls that static indices choose.
use Rattle.std.specs.Prelude.{◌≡◌, ◌⊎◌, ℕ, Bool, true, slice_get, List, [], ◌∷◌, Some}
use Rattle.scc_core_spec.specs.Source.{Home}
use Rattle.scc_core_spec.specs.Static.{static}
use Rattle.scc_core_spec.specs.Counted.{Counter, counter, counting, number_of}
use Rattle.scc_elab_spec.specs.Term.{Left, Local, Answer, This, Follow, Index}
use Rattle.scc_elab_spec.specs.Term as term
use Rattle.scc_elab_spec.specs.Copied.{Here, copied}
use Rattle.scc_elab_spec.specs.Bodies.{result_name}
use Rattle.scc_core_unroll_laws.specs.Kinds.{IsKindedLeft}
use Rattle.scc_inline_process_laws.specs.Sound.{IsSoundTerm}
use Rattle.scc_elab_spec.specs.Typed.{IsTyped}

-- the same counters with other words
abbrev pub reworded : (ℕ → ℕ) → List Counter → List Counter
reworded f [] = []
reworded f (c ∷ ns) = counter c.cell (f c.cell) ∷ reworded f ns

-- the counters are among these locals
abbrev pub AreHeld : Here → (ℕ → Bool) → List Counter → Type 0
AreHeld h held [] = Unit {0}
AreHeld h held (c ∷ ns) = ((o : ℕ) × (number_of h.path (slice_get h.cells c.cell) ≡ Some o) × (held o ≡ true)) × AreHeld h held ns

-- each index of a location is static, by itself or where these counters stand as literals, whatever words they hold
abbrev pub IsChosenStatically : Home → Here → List Counter → Left → Type 0
IsChosenStatically home h ns (Local p n) = Unit {0}
IsChosenStatically home h ns (Answer p n) = Unit {0}
IsChosenStatically home h ns (This p) = IsKindedLeft h.this
IsChosenStatically home h ns (Follow p l) = IsChosenStatically home h ns l
IsChosenStatically home h ns (term.Member l m) = IsChosenStatically home h ns l
IsChosenStatically home h ns (Index l e) = IsChosenStatically home h ns l × IsSoundTerm home h e × IsTyped e
    × (((w : ℕ) × (static h.cells (copied h (result_name h) e) ≡ Some w)) ⊎ ((f : ℕ → ℕ) → (w : ℕ) × (static h.cells (counting (reworded f ns) (copied h (result_name h) e)) ≡ Some w)))
