-- A name that is given a meaning has it, and no other has changed.
use Rattle.std.proofs.Common.{◌≡◌, refl, ap, ◌∙◌, ℕ, Bool, true, false, nat_eq, cond, if◌then◌else◌, Option, Some, option_and_then}
use Rattle.std.specs.Map.{lookup}
use Rattle.indexmap.specs.IndexMap.{IndexMap, Updates}
use Rattle.scc_base.specs.declared.names.Name.{Name}
use Rattle.scc_base.specs.contracts.names.NamePartialEq.TheImpl as name_equal

chosen : (b : Bool) (m : Option ℕ) (o : Option (Option ℕ)) → option_and_then (λ o. o) (cond b (Some m) o) ≡ (if b then m else option_and_then (λ o. o) o)
chosen true m o = refl
chosen false m o = refl

pub set_one : {S : Type 0} (old new : IndexMap Name (Option ℕ) S) (k : Name) (m : Option ℕ) → Updates name_equal.eq-value.it old new k (Some m) → (x : ℕ)
    → option_and_then (λ o. o) (lookup (λ q. nat_eq x q.0) new.entries) ≡ (if nat_eq k.0 x then m else option_and_then (λ o. o) (lookup (λ q. nat_eq x q.0) old.entries))
set_one old new k m u x = ap (λ o. option_and_then (λ o. o) o) (u.0 (record { 0 = x })) ∙ chosen (nat_eq k.0 x) m (lookup (λ q. nat_eq x q.0) old.entries)
