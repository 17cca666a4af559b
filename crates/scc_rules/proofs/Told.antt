-- What the rules on waits tell, behind others.
use Rattle.std.proofs.Common.{◌≡◌, refl, sym, ap, ◌∙◌, subst, ℕ, Bool, true, Option, Some, None, Result, Ok, Err}
use Rattle.std.specs.Prelude.{IfErr}
use Rattle.scc_base.specs.declared.code.Code.{Code}
use Rattle.scc_base.specs.declared.refusal.Refusal.{Refusal}
use Rattle.scc_base.specs.declared.refusal.Stop.{Stop}
use Rattle.scc_base.specs.declared.refusal.Stop.TheVariants as stop
use Rattle.scc_core_spec.specs.First.{or_else}
use Rattle.scc_core_spec.specs.Program.{Program}
use Rattle.scc_core_spec.specs.Rules.{wait_in_method, loop_may_not_wait, end_reached}
use Rattle.scc_rules.specs.Refusals.{Finds, IsOf, MayFind, is_refusal, phase}
use Rattle.scc_rules.specs.Stands.{Tells, TellsOf, stays}

some_same : {A : Type 0} {a b : A} → Some a ≡ Some b → a ≡ b
some_same {A = A} {a = a} e = ap unwrapped e
  where
    unwrapped : Option A → A
    unwrapped None = a
    unwrapped (Some x) = x

pub finds_may : (code : Code) (n : ℕ) → is_refusal code ≡ true → phase code ≡ n → (o : Option Refusal) → Finds code o → MayFind n o
finds_may code n h k None f = f
finds_may code n h k (Some r) f = record { refuses = ap is_refusal f ∙ h; phase_is = ap phase f ∙ k }

pub may_else : (n : ℕ) (a b : Option Refusal) → MayFind n a → MayFind n b → MayFind n (or_else a b)
may_else n None b f g = g
may_else n (Some r) b f g = f

pub found_of : (n : ℕ) (o : Option Refusal) (r : Refusal) → o ≡ Some r → MayFind n o → IsOf n r
found_of n o r is f = subst (MayFind n) is f

pub may_stop : (n : ℕ) (o : Option Refusal) (r : Refusal) → o ≡ Some r → MayFind n o → is_refusal r.code ≡ true
may_stop n o r is f = (found_of n o r is f).refuses

-- a rule before those on waits
pub early_tells : (p : Program) (o : Option Refusal) (r : Refusal) → o ≡ Some r → MayFind 0 o → TellsOf p (phase r.code) r
early_tells p o r is f = subst (λ n. TellsOf p n r) (sym (found_of 0 o r is f).phase_is) tt

-- the rules on waits, and the one behind them
pub waits_stop : (a b : Option Refusal) (r : Refusal) → or_else a b ≡ Some r → MayFind 1 a → MayFind 2 b → is_refusal r.code ≡ true
waits_stop None b r is f g = may_stop 2 b r is g
waits_stop (Some x) b r is f g = may_stop 1 (Some x) r is f

pub waits_tell : (p : Program) (a b : Option Refusal) (r : Refusal) → or_else a b ≡ Some r → MayFind 1 a → MayFind 2 b → a ≡ stays p → TellsOf p (phase r.code) r
waits_tell p None b r is f g h = subst (λ n. TellsOf p n r) (sym (found_of 2 b r is g).phase_is) (sym h)
waits_tell p (Some x) b r is f g h = subst (λ n. TellsOf p n r) (sym (found_of 1 (Some x) r is f).phase_is) (sym h ∙ is)

none_first : (a b : Option Refusal) → or_else a b ≡ None → a ≡ None
none_first None b is = refl
none_first (Some x) b is = absurd cc

pub waits_pass : (p : Program) (a b : Option Refusal) → or_else a b ≡ None → a ≡ stays p → stays p ≡ None
waits_pass p a b is h = sym h ∙ none_first a b is

pub all_stays : (p : Program) (a b c : Option Refusal) → a ≡ wait_in_method p → b ≡ loop_may_not_wait p → c ≡ end_reached p → or_else a (or_else b c) ≡ stays p
all_stays p a b c x y z = λ i. or_else (x i) (or_else (y i) (z i))

pub pass_tells : {A : Type 0} (p : Program) (a b : Option Refusal) (r : Result A Stop) → or_else a b ≡ None → a ≡ stays p → IfErr r (λ e. e ≡ stop.NoMemory) → Tells p r
pass_tells {A = A} p a b (Ok x) is h e = waits_pass p a b is h
pass_tells {A = A} p a b (Err x) is h e = subst (λ (y : Stop). Tells {A = A} p (Err y)) (sym e) tt
