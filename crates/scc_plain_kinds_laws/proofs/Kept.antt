-- Statements whose operators have the kinds that they say, before statements that have them.
use Rattle.std.proofs.Common.{◌≡◌, ℕ, Bool, true, false, ◌&&◌, nat_eq, List, [], ◌∷◌, Option, Some, None, refl, ap, ◌∙◌, subst, arith}
use Rattle.scc_base.specs.declared.refusal.Place.{Place}
use Rattle.scc_bits_kinds.specs.declared.kind.Kind.{Kind}
use Rattle.scc_bits_kinds.specs.declared.kind.Kind.TheVariants as kind
use Rattle.scc_bits.specs.Values.{kind_of as operator_kind}
use Rattle.scc_core_spec.specs.Fit.{is_kind, same_bool, same_kind}
use Rattle.scc_templates_spec.specs.Walk.{Callee}
use Rattle.scc_elab_spec.specs.Term.{Term, Literal, Load, Read, Convert, Unary, Binary, Choose, Bit, Range, Join, Left, Local, Answer, This, Follow, Index, Pick, Whole, OneBit, Bits, Target, Null, Address, Copy, Argument, Value, Leads, ModuleName, kind_of}
use Rattle.scc_elab_spec.specs.Term as term
use Rattle.scc_elab_spec.specs.Program.{Code, End, Assign, Point, Write, Call, If, Loop, Block, Return, Count}
use Rattle.scc_plain_spec.specs.Room.{Known, known_as, Numbering, Room, With, Writes, nothing, then_write, written}
use Rattle.scc_plain_laws.proofs.Drafted.{some-is}
use Rattle.scc_inline_core_laws.specs.Kinded.{kinded_term, kinded_left, kinded_pick, kinded_target, kinded_object, kinded_arguments, kinded_code}
use Rattle.scc_plain_laws.proofs.Walks.{Gives}
use Rattle.scc_plain_laws.proofs.Calls.{AreTypedArguments, LiftsKeep}
use Rattle.scc_plain_laws.proofs.Named.{Names, NamesLeft, NamesObject, NamesPick, NamesTarget, any_local}

pub both : (a b : Bool) → a ≡ true → b ≡ true → (a && b) ≡ true
both a b e f = (λ z. e z && f z)

same-number : (n : ℕ) → nat_eq n n ≡ true
same-number n = grind arith

same-bool-self : (b : Bool) → same_bool b b ≡ true
same-bool-self true = refl
same-bool-self false = refl

same-kind-self : (k : Kind) → same_kind k k ≡ true
same-kind-self kind.Bool = refl
same-kind-self (kind.Native w s) = both (nat_eq w w) (same_bool s s) (same-number w) (same-bool-self s)
same-kind-self (kind.Int w) = same-number w
same-kind-self (kind.Uint w) = same-number w
same-kind-self (kind.Big w) = same-number w
same-kind-self (kind.BigInt w) = same-number w
same-kind-self (kind.Bv w) = same-number w
same-kind-self (kind.Wide b s) = both (nat_eq b b) (same_bool s s) (same-number b) (same-bool-self s)

is-kind : (o : Option Kind) (k : Kind) → o ≡ Some k → is_kind o k ≡ true
is-kind o k e = ap (λ o. is_kind o k) e ∙ same-kind-self k

mutual
  pub typed-term : (e : Term) → Names any_local e → kinded_term e ≡ true
  typed-term (Literal p k w) t = refl
  typed-term (Load p k l) t = typed-left l t
  typed-term (Read p k l) t = typed-left l t
  typed-term (Convert p k e) t = typed-term e t
  typed-term (Unary p k o a) t = both (is_kind (operator_kind o (kind_of a) (kind_of a)) k) (kinded_term a) (is-kind (operator_kind o (kind_of a) (kind_of a)) k t.0) (typed-term a t.1)
  typed-term (Binary p k o a b) t = both (is_kind (operator_kind o (kind_of a) (kind_of b)) k) (kinded_term a && kinded_term b) (is-kind (operator_kind o (kind_of a) (kind_of b)) k t.0) (both (kinded_term a) (kinded_term b) (typed-term a t.1) (typed-term b t.2))
  typed-term (Choose p k u a b) t = both (kinded_term u) (kinded_term a && kinded_term b) (typed-term u t.0) (both (kinded_term a) (kinded_term b) (typed-term a t.1) (typed-term b t.2))
  typed-term (Bit p a e) t = both (kinded_term a) (kinded_term e) (typed-term a t.0) (typed-term e t.1)
  typed-term (Range p k a h l) t = typed-term a t
  typed-term (Join p k a b) t = both (kinded_term a) (kinded_term b) (typed-term a t.0) (typed-term b t.1)

  pub typed-left : (l : Left) → NamesLeft any_local l → kinded_left l ≡ true
  typed-left (Local p n) t = refl
  typed-left (Answer p n) t = refl
  typed-left (This p) t = refl
  typed-left (Follow p l) t = typed-left l t
  typed-left (term.Member l m) t = typed-left l t.0
  typed-left (Index l e) t = both (kinded_left l) (kinded_term e) (typed-left l t.0) (typed-term e t.1)

typed-pick : (k : Pick) → NamesPick any_local k → kinded_pick k ≡ true
typed-pick Whole t = refl
typed-pick (OneBit e) t = typed-term e t
typed-pick (Bits h l) t = refl

typed-target : (k : Target) → NamesTarget any_local k → kinded_target k ≡ true
typed-target Null t = refl
typed-target (Address l) t = typed-left l t
typed-target (Copy l) t = typed-left l t

typed-object : (o : Option Left) → NamesObject any_local o → kinded_object o ≡ true
typed-object None t = refl
typed-object (Some l) t = typed-left l t.0

typed-arguments : (xs : List Argument) → AreTypedArguments any_local xs → kinded_arguments xs ≡ true
typed-arguments [] t = refl
typed-arguments (Value e ∷ xs) t = both (kinded_term e) (kinded_arguments xs) (typed-term e t.0) (typed-arguments xs t.1)
typed-arguments (Leads k ∷ xs) t = both (kinded_target k) (kinded_arguments xs) (typed-target k t.0) (typed-arguments xs t.1)
typed-arguments (ModuleName ∷ xs) t = typed-arguments xs t.1

-- before statements whose operators have the kinds that they say, these have them too
pub record Keeps (x : Writes) : Type 0 where
  pub kept : (n : Numbering) (c : Code) → kinded_code c ≡ true → kinded_code (x n c) ≡ true

pub keeps-nothing : Keeps nothing
keeps-nothing = record { kept = λ n c h. h }

pub keeps-then : {f g : Writes} → Keeps f → Keeps g → Keeps (then_write f g)
keeps-then {f} {g} x y = record { kept = λ n c h. x.kept n (g n c) (y.kept n c h) }

-- what adds nothing that has an operator
pub keeps-plain : {x : Writes} → ((n : Numbering) (c : Code) → kinded_code (x n c) ≡ kinded_code c) → Keeps x
keeps-plain {x} e = record { kept = λ n c h. e n c ∙ h }

pub keeps-assign : (p : Place) (l : Left) (k : Pick) (e : Term) → NamesLeft any_local l → NamesPick any_local k → Names any_local e → Keeps (λ n c. Assign p l k e c)
keeps-assign p l k e t u v = record { kept = λ n c h. both (kinded_left l) (kinded_pick k && (kinded_term e && kinded_code c)) (typed-left l t) (both (kinded_pick k) (kinded_term e && kinded_code c) (typed-pick k u) (both (kinded_term e) (kinded_code c) (typed-term e v) h)) }

pub keeps-point : (p : Place) (l : Left) (t : Target) → NamesLeft any_local l → NamesTarget any_local t → Keeps (λ n c. Point p l t c)
keeps-point p l t u v = record { kept = λ n c h. both (kinded_left l) (kinded_target t && kinded_code c) (typed-left l u) (both (kinded_target t) (kinded_code c) (typed-target t v) h) }

pub keeps-write : (p : Place) (l : Left) (e : Term) → NamesLeft any_local l → Names any_local e → Keeps (λ n c. Write p l e c)
keeps-write p l e t v = record { kept = λ n c h. both (kinded_left l) (kinded_term e && kinded_code c) (typed-left l t) (both (kinded_term e) (kinded_code c) (typed-term e v) h) }

pub keeps-call : (p : Place) (k : ℕ) (f : Callee) (o : Option Left) (args : List Argument) → NamesObject any_local o → AreTypedArguments any_local args → Keeps (λ n c. Call p k (n.function f) o args c)
keeps-call p k f o args t u = record { kept = λ n c h. both (kinded_object o) (kinded_arguments args && kinded_code c) (typed-object o t) (both (kinded_arguments args) (kinded_code c) (typed-arguments args u) h) }

pub keeps-if : (p : Place) (t : Term) (y z : Writes) → Names any_local t → Keeps y → Keeps z → Keeps (λ n k. If p t (y n End) (z n End) k)
keeps-if p t y z u v w = record {
  kept = λ n c h. both (kinded_term t) (kinded_code (y n End) && (kinded_code (z n End) && kinded_code c)) (typed-term t u)
      (both (kinded_code (y n End)) (kinded_code (z n End) && kinded_code c) (v.kept n End refl) (both (kinded_code (z n End)) (kinded_code c) (w.kept n End refl) h));
}

pub typed-return : (p : Place) (e : Term) → Names any_local e → Keeps (λ n c. Return p (Some e) c)
typed-return p e t = record { kept = λ n c h. both (kinded_term e) (kinded_code c) (typed-term e t) h }

pub keeps-loop : (p : Place) (f : Numbering → Option Count) (x : Writes) → Keeps x → Keeps (λ n c. Loop p (f n) (x n End) c)
keeps-loop p f x k = record { kept = λ n c h. both (kinded_code (x n End)) (kinded_code c) (k.kept n End refl) h }

pub keeps-block : (p : Place) (x : Writes) → Keeps x → Keeps (λ n c. Block p (x n End) c)
keeps-block p x k = record { kept = λ n c h. both (kinded_code (x n End)) (kinded_code c) (k.kept n End refl) h }

-- any local may be named
pub any-known : (ks : List Known) (x n : ℕ) → known_as ks x ≡ Some n → any_local.local n ≡ true
any-known ks x n e = refl

-- the calls that stand before the statement in work
abbrev pub RoomKeeps : Room → Type 0
RoomKeeps r = Keeps r.lifted

pub lifts : LiftsKeep any_local RoomKeeps
lifts = record { lifted = λ r f o args p t u k. keeps-then k (keeps-call p r.calls f o args t u); forms = λ r k p n g e. refl }

pub written-gives : {x : Writes} → Keeps x → Gives RoomKeeps Keeps (written x)
written-gives {x} h = record { holds = λ r k y e. subst (λ (y : With Writes). Keeps y.it × Keeps y.room.lifted) (some-is e) (keeps-then k h, keeps-nothing) }
