-- The first clock of a root.
use Rattle.std.proofs.Common.{◌≡◌, refl, sym, ap, ◌∙◌, subst, ℕ, Bool, true, false, nat_eq, length, List, [], ◌∷◌, map, Option, Some, None, option_map, if◌then◌else◌, Result}
use Rattle.std.specs.Prelude.{find}
use Rattle.scc_base.specs.declared.refusal.Refusal.{Refusal}
use Rattle.scc_base.specs.declared.refusal.Stop.{Stop}
use Rattle.scc_elab_ports.specs.Unbound.{Says}
use Rattle.scc_elab_spec.specs.After.{Clock, first_clock, roots_once}
use Rattle.scc_elab_after.specs.declared.processes.Clock.{Clock as Held}
use Rattle.scc_elab_after.specs.Processes.{clock_in}
use Rattle.scc_elab_after.specs.Clocks.{beside, beside_first, beside_known, Knows}

pub one_says : {A : Type 0} (r : Result A Stop) (firsts : List Held) (first : Option Clock) (c : Clock) → first ≡ first_clock (map clock_in firsts) → Says (beside_first first c) r → (before : List Clock) → Knows false before firsts → Says (beside false before c) r
one_says r firsts first c e h before k = subst (λ o. Says (beside_first o c) r) (e ∙ sym k) h

pub many_says : {A : Type 0} (r : Result A Stop) (firsts : List Held) (known : Option Clock) (n : ℕ) (c : Clock) → known ≡ find (λ b. nat_eq b.root c.root) (map clock_in firsts) → n ≡ length firsts → Says (beside_known known n c) r
    → (before : List Clock) → Knows true before firsts → Says (beside true before c) r
many_says r firsts known n c e d h before k = subst (λ m. Says (beside_known (find (λ b. nat_eq b.root c.root) before) m c) r) (d ∙ sym k.1) (subst (λ o. Says (beside_known o n c) r) (e ∙ sym (k.0 c.root)) h)
