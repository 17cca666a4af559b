-- What a walk finds, and what a step of a walk over a body gives: a predicate on it, where the room keeps another one.
use Rattle.std.proofs.Common.{◌≡◌, ℕ, Bool, true, false, Option, Some, None, option_and_then, if◌then◌else◌, refl, sym, ap, ◌∙◌, subst}
use Rattle.scc_bits_kinds.specs.declared.kind.Kind.{Kind}
use Rattle.scc_templates_spec.specs.Walk.{Args}
use Rattle.scc_templates_spec.specs.Walked.{Walked, pure, and_walk}
use Rattle.scc_elab_spec.specs.Program.{Reach, Direct, Pointer, Reference}
use Rattle.scc_plain_spec.specs.Types.{Base, OfNumber, OfObject, InPort, OutPort, OfSignal, OfName}
use Rattle.scc_plain_spec.specs.Room.{Room, With, Step, done, found, and_step, in_room}
use Rattle.scc_plain_laws.proofs.Drafted.{some-is, walk-is}

pub record Finds {A : Type 0} (P : A → Type 0) (w : Walked A) : Type 0 where
  pub holds : (x : A) → w.value ≡ Some x → P x

pub finds-pure : {A : Type 0} {P : A → Type 0} {x : A} → P x → Finds P (pure x)
finds-pure {A} {P} {x} p = record { holds = λ y e. subst P (some-is e) p }

pub finds-none : {A : Type 0} {P : A → Type 0} {w : Walked A} → w.value ≡ None → Finds P w
finds-none {A} {P} {w} n = record { holds = λ y e. absurd (let z : None ≡ Some y = sym n ∙ e in cc) }

pub finds-any : {A : Type 0} {w : Walked A} → Finds (λ x. Unit {0}) w
finds-any {A} {w} = record { holds = λ y e. tt }

pub finds-then : {A B : Type 0} {P : A → Type 0} {Q : B → Type 0} {w : Walked A} {f : A → Walked B} → Finds P w → ((x : A) → P x → Finds Q (f x)) → Finds Q (and_walk w f)
finds-then {A} {B} {P} {Q} {w} {f} h g = record { holds = λ y e. let u = walk-is w f y e in (g u.0 (h.holds u.0 u.1)).holds y u.2 }

-- whatever is found first
pub finds-behind : {A B : Type 0} {Q : B → Type 0} (w : Walked A) {f : A → Walked B} → ((x : A) → Finds Q (f x)) → Finds Q (and_walk w f)
finds-behind {A} {B} {Q} w {f} g = record { holds = λ y e. let u = walk-is w f y e in (g u.0).holds y u.2 }

pub finds-if : {A : Type 0} {P : A → Type 0} {x y : Walked A} (b : Bool) → Finds P x → Finds P y → Finds P (if b then x else y)
finds-if true f g = f
finds-if false f g = g

-- where the test is known
pub finds-when : {A : Type 0} {P : A → Type 0} {x y : Walked A} (b : Bool) → (b ≡ true → Finds P x) → Finds P y → Finds P (if b then x else y)
finds-when true f g = f refl
finds-when false f g = g

pub finds-value : {A : Type 0} {P : A → Type 0} {w : Walked A} {x : A} → w.value ≡ Some x → P x → Finds P w
finds-value {A} {P} {w} {x} v p = record { holds = λ y e. subst P (some-is (sym v ∙ e)) p }

-- by what an option is, a test, or the base of a form
pub by-option : {X : Type 0} {B : Type 0} (o : Option B) → (o ≡ None → X) → ((x : B) → o ≡ Some x → X) → X
by-option None f g = f refl
by-option (Some x) f g = g x refl

pub by-bool : {X : Type 0} (b : Bool) → (b ≡ true → X) → (b ≡ false → X) → X
by-bool true f g = f refl
by-bool false f g = g refl

pub by-reach : {X : Type 0} (r : Reach) → (r ≡ Direct → X) → (r ≡ Pointer → X) → (r ≡ Reference → X) → X
by-reach Direct f g h = f refl
by-reach Pointer f g h = g refl
by-reach Reference f g h = h refl

pub by-base : {X : Type 0} (b : Base) → ((k : Kind) → b ≡ OfNumber k → X) → ((c : ℕ) (as_given : Args) → b ≡ OfObject c as_given → X) → ((k : Kind) → b ≡ InPort k → X) → ((k : Kind) → b ≡ OutPort k → X)
    → ((k : Kind) → b ≡ OfSignal k → X) → (b ≡ OfName → X) → X
by-base (OfNumber k) f g h i j l = f k refl
by-base (OfObject c as_given) f g h i j l = g c as_given refl
by-base (InPort k) f g h i j l = h k refl
by-base (OutPort k) f g h i j l = i k refl
by-base (OfSignal k) f g h i j l = j k refl
by-base OfName f g h i j l = l refl

pub record Gives (R : Room → Type 0) {A : Type 0} (P : A → Type 0) (f : Step A) : Type 0 where
  pub holds : (r : Room) → R r → (x : With A) → (f r).value ≡ Some x → P x.it × R x.room

pub gives-done : {R : Room → Type 0} {A : Type 0} {P : A → Type 0} {x : A} → P x → Gives R P (done x)
gives-done {R} {A} {P} {x} p = record { holds = λ r k y e. subst (λ (y : With A). P y.it × R y.room) (some-is e) (p, k) }

pub gives-found : {R : Room → Type 0} {A : Type 0} {P : A → Type 0} {w : Walked A} → Finds P w → Gives R P (found w)
gives-found {R} {A} {P} {w} h = record { holds = λ r k y e. let u = walk-is w (λ x. pure (record { it = x; room = r })) y e in subst (λ (y : With A). P y.it × R y.room) (some-is u.2) (h.holds u.0 u.1, k) }

pub gives-none : {R : Room → Type 0} {A : Type 0} {P : A → Type 0} {f : Step A} → ((r : Room) → (f r).value ≡ None) → Gives R P f
gives-none {R} {A} {P} {f} n = record { holds = λ r k y e. absurd (let z : None ≡ Some y = sym (n r) ∙ e in cc) }

pub gives-then : {R : Room → Type 0} {A B : Type 0} {P : A → Type 0} {Q : B → Type 0} {f : Step A} {g : A → Step B} → Gives R P f → ((x : A) → P x → Gives R Q (g x)) → Gives R Q (and_step f g)
gives-then {R} {A} {B} {P} {Q} {f} {g} h t = record { holds = λ r k y e. let u = walk-is (f r) (λ x. g x.it x.room) y e in let v = h.holds r k u.0 u.1 in (t u.0.it v.0).holds u.0.room v.1 y u.2 }

pub gives-in : {R : Room → Type 0} {A : Type 0} {P : A → Type 0} {f : Room → Walked A} → ((r : Room) → R r → Finds P (f r)) → Gives R P (in_room f)
gives-in {R} {A} {P} {f} h = record { holds = λ r k y e. let u = walk-is (f r) (λ x. pure (record { it = x; room = r })) y e in subst (λ (y : With A). P y.it × R y.room) (some-is u.2) ((h r k).holds u.0 u.1, k) }

pub gives-if : {R : Room → Type 0} {A : Type 0} {P : A → Type 0} {f g : Step A} (b : Bool) → Gives R P f → Gives R P g → Gives R P (if b then f else g)
gives-if true f g = f
gives-if false f g = g
