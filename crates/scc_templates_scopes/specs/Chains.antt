-- Chains of instances, by the list of their members, newest first: an instance by its number, a template whose defaults are worked out by none. This project's own.
use Rattle.std.specs.Prelude.{◌≡◌, ℕ, ◌+◌, ◌-◌, ◌<◌, ◌≤◌, nat_eq, Bool, false, List, [], ◌∷◌, ◌++◌, Option, Some, None, option_map, Result, Ok, Err, if◌then◌else◌}
use Rattle.scc_base.specs.declared.refusal.Place.{Place}
use Rattle.scc_base.specs.declared.refusal.Stop.{Stop}
use Rattle.scc_base.specs.declared.refusal.Stop.TheVariants as stop
use Rattle.scc_base.specs.declared.code.Code.TheVariants as reason
use Rattle.scc_templates_spec.specs.Walk.{Args}
use Rattle.scc_templates_spec.specs.World.{Member, Owned, Filled, same_member}
use Rattle.scc_templates_scopes.specs.declared.ty.InstanceId.{InstanceId}
use Rattle.scc_templates_scopes.specs.declared.chain.Chain.{Chain}
use Rattle.scc_templates_scopes.specs.declared.chain.Reach.{Reach}

abbrev pub same_held : Option ℕ → Option ℕ → Bool
same_held (Some i) (Some j) = nat_eq i j
same_held (Some i) None = false
same_held None m = false

-- a member that stands behind itself counts once
abbrev pub counted : List (Option ℕ) → ℕ
counted [] = 0
counted (m ∷ []) = 1
counted (m ∷ n ∷ ms) = if same_held m n then counted (n ∷ ms) else 1 + counted (n ∷ ms)

abbrev pub last_of : List (Option ℕ) → Option ℕ
last_of [] = None
last_of (m ∷ ms) = m

abbrev pub held : Option InstanceId → Option ℕ
held o = option_map (λ i. i.0) o

pub record IsChain (c : Chain) (ms : List (Option ℕ)) : Type 0 where
  pub length : c.length ≡ counted ms
  pub last : held c.last ≡ last_of ms
  pub short : c.length ≤ 64

-- a chain of these members, or E308 where there are too many
abbrev pub Lengthens : Result Chain Stop → List (Option ℕ) → Place → Type 0
Lengthens (Ok c) ms p = IsChain c ms
Lengthens (Err (stop.Refused r)) ms p = (64 < counted ms) × (r ≡ record { code = reason.TemplateDepth; place = p; other = None })
Lengthens (Err stop.NoMemory) ms p = ⊥

-- how many members are added behind a last one
abbrev pub adds : Reach → Option ℕ → ℕ
adds r last = if same_held (held r.first) last then r.most - 1 else r.most

-- What is added to any chain is within a reach, where that is no longer than a chain may be.
abbrev pub Within : Reach → List (Option ℕ) → Type 0
Within r xs = (ms : List (Option ℕ)) → adds r (last_of ms) ≤ 64 → counted (xs ++ ms) ≤ counted ms + adds r (last_of ms)

-- members by the numbers of their instances, which tell those apart that stand one behind the other
abbrev pub number_of : (ℕ → Args → ℕ) → Member → Option ℕ
number_of n (Owned c as_given) = Some (n c as_given)
number_of n (Filled c as_given) = None

abbrev pub Apart : (ℕ → Args → ℕ) → List Member → Type 0
Apart n [] = Unit {0}
Apart n (m ∷ []) = Unit {0}
Apart n (m ∷ k ∷ ms) = (same_held (number_of n m) (number_of n k) ≡ same_member m k) × Apart n (k ∷ ms)
