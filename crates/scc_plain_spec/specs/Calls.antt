-- Arguments, and brackets behind what an expression names (ISO C++ [expr.call], [expr.new]; IEEE 1666-2011, 5.3).
use Rattle.std.specs.Prelude.{ℕ, nat_eq, Bool, true, false, not, ◌&&◌, List, length, Option, Some, None, if◌then◌else◌}
use Rattle.scc_base.specs.declared.refusal.Place.{Place}
use Rattle.scc_base.specs.declared.code.Code.TheVariants as reason
use Rattle.scc_bits_kinds.specs.declared.kind.Kind.{Kind}
use Rattle.scc_bits_kinds.specs.declared.op.Op.{Op}
use Rattle.scc_bits_kinds.specs.declared.op.Op.TheVariants as op
use Rattle.scc_bits.specs.Value.{Number}
use Rattle.scc_tree.specs.declared.expr.UnaryOp.{UnaryOp}
use Rattle.scc_tree.specs.declared.expr.UnaryOp.TheVariants as before
use Rattle.scc_templates_spec.specs.Walk.{Callee, Late, Calls, How, OnThis, ByClass, OnOther, same_kind}
use Rattle.scc_templates_spec.specs.Walked.{Walked, pure, fault, meets, and_walk}
use Rattle.scc_templates_spec.specs.World.{Owner, File, In, World, same_owner}
use Rattle.scc_elab_spec.specs.Term.{Term, Bit, Left, Load, Answer, Argument, Value, Leads, ModuleName, Target, Null}
use Rattle.scc_templates_spec.specs.Tree.{Tree, Trees, Nil, Cons, place_of, count}
use Rattle.scc_templates_spec.specs.Tree as tree
use Rattle.scc_plain_spec.specs.Numbers.{int, small}
use Rattle.scc_plain_spec.specs.Types.{Base, OfNumber}
use Rattle.scc_templates_spec.specs.Source.{Source}
use Rattle.scc_plain_spec.specs.Scope as scope
use Rattle.scc_plain_spec.specs.Parts.{operator_of, demanded}
use Rattle.scc_plain_spec.specs.Functions.{Routine, routine_of, callee_in}
use Rattle.scc_plain_spec.specs.Constants.{thing}
use Rattle.scc_plain_spec.specs.Drafts.{Draft, drafted, converted, operate_one}
use Rattle.scc_plain_spec.specs.Forms.{Form, is_pointer, is_direct, is_all, Subject}
use Rattle.scc_plain_spec.specs.Meant.{Meant, Valued, Stands, Done, Void, taken, is_name, is_module_name, followed, addressed, aimed}
use Rattle.scc_plain_spec.specs.Methods.{Brackets, CallsFunction, StandsAlone, TakesRange, CallsMethod, Wrong, brackets, method, ranged}
use Rattle.scc_plain_spec.specs.Room.{Around, Known, scope_in, Step, done, found, and_step, lift}
use Rattle.scc_plain_spec.specs.Shapes.{Signature, signature, owner_of}

-- a bit that an index selects, of a variable or of what a port or signal shows; no element, and not what a cast makes of a bit
abbrev pub is_bit_select : Tree → Meant → Bool
is_bit_select (tree.Index p of at) (Valued x) = is_bit x.term
  where
    is_bit : Term → Bool
    is_bit (Bit p e i) = true
    is_bit e = false
is_bit_select (tree.Index p of at) (Stands l) = not (is_all l.taken)
is_bit_select t m = false

-- `~` of a bit-select is its complement, a `bool` (IEEE 1666-2011, 7.2.5); every other `bool` is promoted (ISO C++ [expr.unary.op])
abbrev pub operator_on : Tree → Meant → UnaryOp → Option Op
operator_on t m before.Not = Some (if is_bit_select t m then op.LogNot else op.Not)
operator_on t m b = operator_of b

-- an operator before one operand: of numbers, `*` and `&`
abbrev pub unary : Place → Tree → UnaryOp → Owner → Meant → Walked Meant
unary p t before.Deref o m = and_walk (followed p o m) (λ l. pure (Stands l))
unary p t before.Address o m = addressed p m
unary p t b o m = by_operator (operator_on t m b)
  where
    by_operator : Option Op → Walked Meant
    by_operator None = fault reason.Mismatch p
    by_operator (Some o) = and_walk (and_walk (taken (place_of t) m) (operate_one p o)) (λ x. pure (Valued x))

-- the number 0 of `int` is null where a pointer is wanted
abbrev pub is_zero : Tree → Bool
is_zero (tree.Number p k v) = same_kind k int && nat_eq v 0
is_zero t = false

-- what a pointer or reference is given
abbrev pub target : Place → Owner → Form → Bool → Meant → Walked Target
target p o f zero_ m = if zero_ && is_pointer f then pure Null else aimed p o f m

-- an argument for a parameter of a form: a module's name, what a pointer or reference is given, a number
abbrev pub argument : Place → Owner → Form → Bool → Meant → Walked Argument
argument p o f zero_ m = if is_name f.base then (if is_module_name m then pure ModuleName else fault reason.Mismatch p)
    else (if is_direct f then and_walk (taken p m) (by_base f.base) else and_walk (target p o f zero_ m) (λ t. pure (Leads t)))
  where
    by_base : Base → Draft → Walked Argument
    by_base (OfNumber k) x = and_walk (converted k x) (λ y. pure (Value y.term))
    by_base b x = fault reason.Mismatch p

-- no parameter takes a `new`
abbrev pub made_argument : Place → Form → Step (Unit {0}) → Step Argument
made_argument p f any = if is_name f.base then found (fault reason.Mismatch p) else and_step any (λ u. found (fault reason.Mismatch p))

-- on which object a function is called
abbrev pub how : Around → Callee → Option Left → How
how a f (Some l) = OnOther
how a f None = by_owner (owner_of f)
  where
    by_owner : Owner → How
    by_owner File = OnOther
    by_owner (In c as_given) = if same_owner (In c as_given) a.owner then OnThis else ByClass

abbrev pub late_at : Bool → Place → Walked (Unit {0})
late_at true p = meets (Late p)
late_at false p = pure tt

-- the two ends of a range
abbrev pub two : {A : Type 0} → A → (Tree → Tree → A) → Trees → A
two other f (Cons h (Cons l Nil)) = f h l
two other f xs = other

module _ (s : Source) (w : World scope.Answer) (a : Around) (ks : List Known) (late : Bool) (p : Place) where
  abbrev pub constant : Tree → Walked Number
  constant t = demanded (place_of t) (thing s w (scope_in a ks) t)

  abbrev pub range : Subject → Trees → Walked Meant
  range of xs = two (fault reason.Mismatch p) (λ h l. and_walk (constant h) (λ x. and_walk (constant l) (λ y. ranged p of (small x) (small y)))) xs

  -- the function that is called, with its parameters (E301 at its name where it has no body)
  abbrev pub callee : Callee → Place → Walked Signature
  callee f own = and_walk (routine_of s w f own) by_routine
    where
      by_routine : Option Routine → Walked Signature
      by_routine None = fault reason.UnknownName own
      by_routine (Some r) = signature s w (owner_of f) r own

  -- the call before the statement in work: its result
  abbrev pub answer : Option Kind → ℕ → Meant
  answer None n = Void
  answer (Some k) n = Valued (drafted p (Load p k (Answer p n)))

  abbrev pub lifted : Callee → Option Left → Signature → List Argument → Step Meant
  lifted f object g as_given = and_step (found (and_walk (meets (Calls f (how a f object) p)) (λ u. late_at late p))) (λ u. and_step (lift f object as_given p) (λ n. done (answer g.result n)))

  abbrev pub called : ℕ → Callee → Option Left → Signature → List Argument → Step Meant
  called n f object g as_given = if nat_eq n (length g.params) then lifted f object g as_given else found (fault reason.Mismatch p)

  -- brackets with arguments, given the walks over these: each for a parameter of a form, and as what nothing takes
  abbrev pub in_brackets : Trees → (List Form → Step (List Argument)) → Step (Unit {0}) → Brackets → Step Meant
  in_brackets xs arguments any (CallsFunction o x object own) = and_step (found (callee (callee_in o x) own)) (λ g. and_step (arguments g.params) (called (count xs) (callee_in o x) object g))
  in_brackets xs arguments any (StandsAlone x of) = done (Done x of)
  in_brackets xs arguments any (TakesRange of) = found (range of xs)
  in_brackets xs arguments any (CallsMethod x of) = found (and_walk (method p x of) (λ d. pure (Valued d)))
  in_brackets xs arguments any Wrong = and_step any (λ u. found (fault reason.Mismatch p))

  abbrev pub behind_call : Trees → (List Form → Step (List Argument)) → Step (Unit {0}) → Meant → Step Meant
  behind_call xs arguments any m = in_brackets xs arguments any (brackets (count xs) m)
