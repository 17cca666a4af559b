-- Operators, arguments and brackets of expressions have the kinds that they say, where the calls that stand before a statement keep what is asked of a room.
use Rattle.std.specs.Prelude.{nat_lt}
use Rattle.std.proofs.Common.{◌≡◌, ℕ, ◌+◌, ◌-◌, Bool, true, false, ◌&&◌, nat_eq, List, [], ◌∷◌, length, Option, Some, None, refl, subst, if◌then◌else◌}
use Rattle.scc_base.specs.declared.refusal.Place.{Place}
use Rattle.scc_bits_kinds.specs.declared.kind.Kind.{Kind}
use Rattle.scc_bits_kinds.specs.declared.kind.Kind.TheVariants as kind
use Rattle.scc_bits_kinds.specs.declared.op.Op.{Op}
use Rattle.scc_bits_kinds.specs.declared.op.Op.TheVariants as op
use Rattle.scc_bits_kinds.specs.Groups.{group_of}
use Rattle.scc_bits_kinds.specs.Bits.{range_of}
use Rattle.scc_bits_kinds.specs.Table.{has_bits}
use Rattle.scc_tree.specs.declared.expr.UnaryOp.{UnaryOp}
use Rattle.scc_tree.specs.declared.expr.UnaryOp.TheVariants as before
use Rattle.scc_templates_spec.specs.Walk.{Callee, Calls}
use Rattle.scc_templates_spec.specs.Walked.{pure, meets, and_walk}
use Rattle.scc_templates_spec.specs.World.{Owner, World}
use Rattle.scc_templates_spec.specs.Tree.{Tree, Trees, Nil, Cons, place_of, count}
use Rattle.scc_templates_spec.specs.Source.{Source}
use Rattle.scc_elab_spec.specs.Term.{Left, Local, Argument, Value, Leads, ModuleName, Bits, Pick}
use Rattle.scc_elab_spec.specs.Program.{Call}
use Rattle.scc_plain_spec.specs.Numbers.{int, small}
use Rattle.scc_plain_spec.specs.Scope as scope
use Rattle.scc_plain_spec.specs.Functions.{callee_in}
use Rattle.scc_plain_spec.specs.Drafts.{Draft, kind_in, converted, operate_one}
use Rattle.scc_plain_spec.specs.Forms.{Form, is_pointer, is_direct, Subject, OfDraft, OfLoc, subject_value}
use Rattle.scc_plain_spec.specs.Meant.{Meant, Valued, Stands, Function, Built, Done, Void, Nothing, Own, At, Words, taken, is_name, is_module_name, bits_of, some_bits}
use Rattle.scc_plain_spec.specs.Methods.{Brackets, CallsFunction, StandsAlone, TakesRange, CallsMethod, Wrong, is_range, ranged, subject_is_port, converting, method, of_subject, brackets}
use Rattle.scc_plain_spec.specs.Room.{Around, Known, Room, With, Step, local_form, then_write, lift}
use Rattle.scc_plain_spec.specs.Shapes.{Signature}
use Rattle.scc_plain_spec.specs.Calls.{is_bit_select, unary, target, argument, made_argument, how, late_at, constant, range, callee, answer, lifted, called, in_brackets, behind_call}
use Rattle.scc_plain_laws.proofs.Drafted.{some-is, converted-is, operate-one-is}
use Rattle.scc_plain_laws.proofs.Meanings.{taken-is, subject-is, followed-is, addressed-is, some-bits-is}
use Rattle.scc_plain_laws.proofs.Walks.{Finds, finds-pure, finds-none, finds-any, finds-then, finds-behind, finds-if, by-option, by-base, Gives, gives-done, gives-found, gives-none, gives-then, gives-if}
use Rattle.scc_plain_laws.proofs.Things.{aimed-finds}
use Rattle.scc_plain_laws.proofs.Named.{Namable, Names, NamesLoc, NamesMeant, NamesObject, NamesPick, NamesSubject, NamesTarget}

abbrev pub IsAny : {A : Type 0} → A → Type 0
IsAny x = Unit {0}

module _ (some : Namable) where
  abbrev pub IsTypedDraft : Draft → Type 0
  IsTypedDraft x = Names some x.term

  abbrev pub IsTypedArgument : Argument → Type 0
  IsTypedArgument (Value e) = Names some e
  IsTypedArgument (Leads t) = NamesTarget some t
  IsTypedArgument ModuleName = Unit {0}

  abbrev pub AreTypedArguments : List Argument → Type 0
  AreTypedArguments [] = Unit {0}
  AreTypedArguments (x ∷ xs) = IsTypedArgument x × AreTypedArguments xs

  pub taken-finds : (p : Place) (m : Meant) → NamesMeant some m → Finds IsTypedDraft (taken p m)
  taken-finds p m t = record { holds = λ x e. taken-is some p m x t e }

  pub converted-finds : (k : Kind) (x : Draft) → Names some x.term → Finds IsTypedDraft (converted k x)
  converted-finds k x t = record { holds = λ y e. (converted-is some k x y t e).1 }

  operate-one-finds : (p : Place) (o : Op) (x : Draft) → Names some x.term → Finds IsTypedDraft (operate_one p o x)
  operate-one-finds p o x t = record { holds = λ y e. operate-one-is some p o x y t e }

  module _ (p : Place) (t : Tree) (m : Meant) (h : NamesMeant some m) where
    operated : (o : Op) → Finds (NamesMeant some) (and_walk (and_walk (taken (place_of t) m) (operate_one p o)) (λ x. pure (Valued x)))
    operated o = finds-then (finds-then (taken-finds (place_of t) m h) (λ x k. operate-one-finds p o x k)) (λ x k. finds-pure k)

    pub unary-finds : (b : UnaryOp) (o : Owner) → Finds (NamesMeant some) (unary p t b o m)
    unary-finds before.Deref o = finds-then {P = (NamesLoc some)} (record { holds = λ l e. followed-is some p o m l h e }) (λ l k. finds-pure k)
    unary-finds before.Address o = record { holds = λ n e. addressed-is some p m n h e }
    unary-finds before.Plus o = operated op.Plus
    unary-finds before.Neg o = operated op.Neg
    unary-finds before.LogNot o = operated op.LogNot
    unary-finds before.Not o = operated (if is_bit_select t m then op.LogNot else op.Not)

  pub target-finds : (p : Place) (o : Owner) (f : Form) (z : Bool) (m : Meant) → NamesMeant some m → Finds (NamesTarget some) (target p o f z m)
  target-finds p o f z m t = finds-if (z && is_pointer f) (finds-pure tt) (aimed-finds some p o f m t)

  pub argument-finds : (p : Place) (o : Owner) (f : Form) (z : Bool) (m : Meant) → NamesMeant some m → Finds IsTypedArgument (argument p o f z m)
  argument-finds p o f z m t = finds-if (is_name f.base) (finds-if (is_module_name m) (finds-pure tt) (finds-none refl))
      (finds-if (is_direct f) (finds-then (taken-finds p m t) (λ x h. by-base f.base (λ k g. rw g (finds-then (converted-finds k x h) (λ y u. finds-pure u))) (λ c xs g. rw g (finds-none refl)) (λ k g. rw g (finds-none refl))
      (λ k g. rw g (finds-none refl)) (λ k g. rw g (finds-none refl)) (λ g. rw g (finds-none refl))))
      (finds-then (target-finds p o f z m t) (λ y h. finds-pure h)))

  some-bits-finds : (p : Place) (k : Kind) (j : Pick) (s : Subject) → NamesPick some j → NamesSubject some s → Finds (NamesMeant some) (some_bits p k j s)
  some-bits-finds p k j s i t = record { holds = λ m e. some-bits-is some p k j s m i t e }

  pub ranged-finds : (p : Place) (s : Subject) (h l : Option ℕ) → NamesSubject some s → Finds (NamesMeant some) (ranged p s h l)
  ranged-finds p s (Some h) (Some l) t = by-option (bits_of s) (λ g. rw g (finds-none refl)) (λ k g. rw g (finds-if (is_range k h l)
      (by-option (range_of k (h - l + 1)) (λ q. rw q (finds-none refl)) (λ j q. rw q (some-bits-finds p j (Bits h l) s tt t))) (finds-none refl)))
  ranged-finds p s (Some h) None t = by-option (bits_of s) (λ g. rw g (finds-none refl)) (λ k g. rw g (finds-none refl))
  ranged-finds p s None l t = by-option (bits_of s) (λ g. rw g (finds-none refl)) (λ k g. rw g (finds-none refl))

  converting-finds : (p : Place) (x : ℕ) (d : Draft) → Names some d.term → Finds IsTypedDraft (converting p x d)
  converting-finds p x d t = finds-if (nat_eq x 6) (operate-one-finds p op.AndReduce d t) (finds-if (nat_eq x 7) (operate-one-finds p op.OrReduce d t) (finds-if (nat_eq x 8) (operate-one-finds p op.XorReduce d t)
      (finds-if (nat_eq x 9) (converted-finds int d t) (finds-if (nat_eq x 10) (converted-finds (kind.Native 32 false) d t) (finds-if (nat_eq x 11) (converted-finds (kind.Native 64 true) d t)
      (finds-if (nat_eq x 12) (converted-finds (kind.Native 64 false) d t) (finds-none refl)))))))

  subject-finds : (p : Place) (s : Subject) → NamesSubject some s → Finds IsTypedDraft (subject_value p s)
  subject-finds p s t = record { holds = λ x e. subject-is some p s x t e }

  method-finds : (p : Place) (x : ℕ) (s : Subject) → NamesSubject some s → Finds IsTypedDraft (method p x s)
  method-finds p x s t = finds-then (subject-finds p s t) (λ d h. finds-if (nat_eq x 0) (finds-if (subject_is_port s) (finds-pure h) (finds-none refl)) (finds-if (has_bits (group_of (kind_in d))) (converting-finds p x d h) (finds-none refl)))

  abbrev IsTypedBrackets : Brackets → Type 0
  IsTypedBrackets (CallsFunction o x object p) = NamesObject some object
  IsTypedBrackets (StandsAlone x s) = NamesSubject some s
  IsTypedBrackets (TakesRange s) = NamesSubject some s
  IsTypedBrackets (CallsMethod x s) = NamesSubject some s
  IsTypedBrackets Wrong = Unit {0}

  by-if : {A : Type 0} (P : A → Type 0) (b : Bool) (x y : A) → P x → P y → P (if b then x else y)
  by-if P true x y f g = f
  by-if P false x y f g = g

  subject-brackets : (n : ℕ) (s : Subject) → NamesSubject some s → IsTypedBrackets (of_subject n s)
  subject-brackets n s t = by-if IsTypedBrackets (subject_is_port s && nat_eq n 1) (StandsAlone 2 s) (if nat_eq n 2 then TakesRange s else Wrong) t (by-if IsTypedBrackets (nat_eq n 2) (TakesRange s) Wrong t tt)

  brackets-typed : (n : ℕ) (m : Meant) → NamesMeant some m → IsTypedBrackets (brackets n m)
  brackets-typed n (Function o x object p) t = t
  brackets-typed n (Built x s) t = by-if IsTypedBrackets (nat_lt 0 x && nat_lt x 5) (StandsAlone x s) (if nat_eq x 5 then (if nat_eq n 2 then TakesRange s else Wrong) else (if nat_eq n 0 then CallsMethod x s else Wrong)) t
      (by-if IsTypedBrackets (nat_eq x 5) (if nat_eq n 2 then TakesRange s else Wrong) (if nat_eq n 0 then CallsMethod x s else Wrong) (by-if IsTypedBrackets (nat_eq n 2) (TakesRange s) Wrong t tt) (by-if IsTypedBrackets (nat_eq n 0) (CallsMethod x s) Wrong t tt))
  brackets-typed n (Stands l) t = subject-brackets n (OfLoc l) t
  brackets-typed n (Valued x) t = subject-brackets n (OfDraft x) t
  brackets-typed n (Done x s) t = tt
  brackets-typed n Void t = tt
  brackets-typed n Nothing t = tt
  brackets-typed n Own t = tt
  brackets-typed n (At l) t = tt
  brackets-typed n Words t = tt

  module _ (R : Room → Type 0) where
    -- a call that stands before a statement keeps what is asked of a room, and each local of the room may have its form
    pub record LiftsKeep : Type 0 where
      pub lifted : (r : Room) (f : Callee) (o : Option Left) (args : List Argument) (p : Place) → NamesObject some o → AreTypedArguments args → R r
          → R (record { locals = r.locals; calls = r.calls + 1; lifted = then_write r.lifted (λ n c. Call p r.calls (n.function f) o args c) })
      pub forms : (r : Room) → R r → (p : Place) (n : ℕ) (g : Form) → local_form r n ≡ Some g → some.stands (Local p n) g ≡ true

  module _ {R : Room → Type 0} (lifts : LiftsKeep R) where
    lift-gives : (f : Callee) (o : Option Left) (args : List Argument) (p : Place) → NamesObject some o → AreTypedArguments args → Gives R (λ (n : ℕ). Unit {0}) (lift f o args p)
    lift-gives f o args p t u = record { holds = λ r k y e. subst (λ (y : With ℕ). Unit {0} × R y.room) (some-is e) (tt, lifts.lifted r f o args p t u k) }

    pub made-argument-gives : (p : Place) (f : Form) (any : Step (Unit {0})) → Gives R (λ (u : Unit {0}). Unit {0}) any → Gives R IsTypedArgument (made_argument p f any)
    made-argument-gives p f any h = gives-if (is_name f.base) (gives-none (λ r. refl)) (gives-then h (λ u t. gives-none (λ r. refl)))

    module _ (s : Source) (w : World scope.Answer) (a : Around) (ks : List Known) (late : Bool) (p : Place) where
      range-finds : (of : Subject) (xs : Trees) → NamesSubject some of → Finds (NamesMeant some) (range s w a ks late p of xs)
      range-finds of Nil t = finds-none refl
      range-finds of (Cons h Nil) t = finds-none refl
      range-finds of (Cons h (Cons l Nil)) t = finds-behind (constant s w a ks late p h) (λ x. finds-behind (constant s w a ks late p l) (λ y. ranged-finds p of (small x) (small y) t))
      range-finds of (Cons h (Cons l (Cons m xs))) t = finds-none refl

      answer-typed : (k : Option Kind) (n : ℕ) → NamesMeant some (answer s w a ks late p k n)
      answer-typed None n = tt
      answer-typed (Some k) n = tt

      lifted-gives : (f : Callee) (o : Option Left) (g : Signature) (args : List Argument) → NamesObject some o → AreTypedArguments args → Gives R (NamesMeant some) (lifted s w a ks late p f o g args)
      lifted-gives f o g args t u = gives-then (gives-found {P = IsAny} {w = and_walk (meets (Calls f (how a f o) p)) (λ u. late_at late p)} finds-any) (λ x y. gives-then (lift-gives f o args p t u) (λ n z. gives-done {x = answer s w a ks late p g.result n} (answer-typed g.result n)))

      called-gives : (n : ℕ) (f : Callee) (o : Option Left) (g : Signature) (args : List Argument) → NamesObject some o → AreTypedArguments args → Gives R (NamesMeant some) (called s w a ks late p n f o g args)
      called-gives n f o g args t u = gives-if (nat_eq n (length g.params)) (lifted-gives f o g args t u) (gives-none (λ r. refl))

      module _ (xs : Trees) (arguments : List Form → Step (List Argument)) (any : Step (Unit {0})) (given : (fs : List Form) → Gives R AreTypedArguments (arguments fs)) (anything : Gives R (λ (u : Unit {0}). Unit {0}) any) where
        brackets-gives : (b : Brackets) → IsTypedBrackets b → Gives R (NamesMeant some) (in_brackets s w a ks late p xs arguments any b)
        brackets-gives (CallsFunction o x object own) t = gives-then (gives-found {P = IsAny} {w = callee s w a ks late p (callee_in o x) own} finds-any) (λ g u. gives-then (given g.params) (λ args z. called-gives (count xs) (callee_in o x) object g args t z))
        brackets-gives (StandsAlone x of) t = gives-done t
        brackets-gives (TakesRange of) t = gives-found (range-finds of xs t)
        brackets-gives (CallsMethod x of) t = gives-found (finds-then (method-finds p x of t) (λ d h. finds-pure h))
        brackets-gives Wrong t = gives-then anything (λ u t. gives-none (λ r. refl))

        pub behind-gives : (m : Meant) → NamesMeant some m → Gives R (NamesMeant some) (behind_call s w a ks late p xs arguments any m)
        behind-gives m t = brackets-gives (brackets (count xs) m) (brackets-typed (count xs) m t)
