-- What names mean has operators of the kinds that they say, and so have targets and arguments.
use Rattle.std.proofs.Common.{◌≡◌, ℕ, Bool, true, not, ◌&&◌, nat_eq, Option, Some, None, refl, if◌then◌else◌}
use Rattle.scc_base.specs.declared.refusal.Place.{Place}
use Rattle.scc_base.specs.declared.code.Code.TheVariants as reason
use Rattle.scc_bits.specs.Value.{Number}
use Rattle.scc_templates_spec.specs.Walk.{Arg, Args}
use Rattle.scc_templates_spec.specs.Walked.{Walked, pure, fault, and_walk}
use Rattle.scc_templates_spec.specs.World.{Owner, File, In, World, same_owner}
use Rattle.scc_templates_spec.specs.Source.{Source}
use Rattle.scc_elab_spec.specs.Term.{Left}
use Rattle.scc_elab_spec.specs.Term as left
use Rattle.scc_plain_spec.specs.Types.{Base, OfNumber, OfObject, InPort, OutPort, OfSignal, OfName, Object}
use Rattle.scc_plain_spec.specs.Names.{Entry, IsClass, IsAlias, IsNumbers, IsEnumerator, IsConstant, IsFunction, IsField, meaning_in, names_of_members}
use Rattle.scc_plain_spec.specs.Scope.{Answer, Found, Local, Found_, class_body}
use Rattle.scc_plain_spec.specs.Parts.{demanded, given_thing, is_call}
use Rattle.scc_plain_spec.specs.Uses.{entry_meant}
use Rattle.scc_plain_spec.specs.Forms.{Form, direct, Subject, OfDraft, OfLoc, is_whole, is_pointer, is_all, is_like}
use Rattle.scc_plain_spec.specs.Meant.{Meant, Valued, Stands, Function, Built, Done, Void, Nothing, Own, At, Words, is_name, followed, own_object, aimed}
use Rattle.scc_plain_spec.specs.Room.{Around, Room, local_form}
use Rattle.scc_plain_spec.specs.Things.{a_number, given, this, local_at, object_of, field, declared, named, scoped, member, dot, arrow}
use Rattle.scc_plain_spec.specs.Shapes.{field_form}
use Rattle.scc_plain_laws.proofs.Meanings.{followed-is}
use Rattle.scc_plain_laws.proofs.Walks.{Finds, finds-pure, finds-none, finds-then, finds-behind, finds-value, finds-if, finds-when, by-bool, by-option, by-reach}
use Rattle.scc_plain_laws.proofs.Named.{Namable, NamesLeft, NamesLoc, NamesMeant, NamesObject, NamesSubject, NamesTarget}

module _ (some : Namable) where
  pub number-finds : (p : Place) (n : Walked Number) → Finds (NamesMeant some) (a_number p n)
  number-finds p n = finds-behind n (λ x. finds-pure tt)

  pub given-finds : (p : Place) (a : Arg) → Finds (NamesMeant some) (given p a)
  given-finds p a = number-finds p (demanded p (given_thing p a))

  pub this-finds : (p : Place) (o : Owner) → Finds (NamesMeant some) (this p o)
  this-finds p File = finds-none refl
  this-finds p (In c as_given) = finds-value refl tt

  -- a local that may be named, where what it holds may stand there
  pub local-finds : (p : Place) (n : ℕ) (f : Option Form) → some.local n ≡ true → ((g : Form) → f ≡ Some g → some.stands (left.Local p n) g ≡ true) → Finds (NamesMeant some) (local_at p n f)
  local-finds p n None h i = finds-none refl
  local-finds p n (Some f) h i = finds-pure (h, tt, i f refl)

  module _ (s : Source) (w : World Answer) (a : Around) where
    object-finds : (p : Place) (o : Owner) (l : Option Left) → NamesObject some l → Finds (λ l. NamesLeft some l × (some.object l ≡ true)) (object_of s w a p o l)
    object-finds p o (Some l) t = finds-pure t
    object-finds p o None t = finds-if (same_owner o a.owner) (finds-value refl (tt, some.this_object p)) (finds-none refl)

    field-finds : (p : Place) (o : Owner) (n : ℕ) (l : Option Left) → NamesObject some l → Finds (NamesMeant some) (field s w a p o n l)
    field-finds p File n l t = finds-none refl
    field-finds p (In c as_given) n l t = finds-behind (field_form s w c as_given n p) (λ f. finds-then (object-finds p (In c as_given) l t) (λ m h. finds-pure (h, tt, some.member m n f h.1)))

    pub declared-finds : (p : Place) (x : ℕ) (l : Option Left) (o : Owner) (e : Entry) → NamesObject some l → Finds (NamesMeant some) (declared s w a p x l o e)
    declared-finds p x l o (IsField n) t = field-finds p o n l t
    declared-finds p x l o IsFunction t = finds-pure t
    declared-finds p x l o (IsClass i) t = finds-none refl
    declared-finds p x l o (IsAlias i) t = finds-none refl
    declared-finds p x l o IsNumbers t = finds-none refl
    declared-finds p x l o (IsEnumerator i j) t = number-finds p (demanded p (entry_meant s w p x o (IsEnumerator i j)))
    declared-finds p x l o (IsConstant i) t = number-finds p (demanded p (entry_meant s w p x o (IsConstant i)))

    pub named-finds : (p : Place) (x : ℕ) (n : Option ℕ) → ((i : ℕ) → n ≡ Some i → some.local i ≡ true) → (r : Room) → ((i : ℕ) (g : Form) → local_form r i ≡ Some g → some.stands (left.Local p i) g ≡ true) → (f : Option Found)
        → Finds (NamesMeant some) (named s w a p x n r f)
    named-finds p x (Some n) h r i f = local-finds p n (local_form r n) (h n refl) (i n)
    named-finds p x None h r i None = finds-none refl
    named-finds p x None h r i (Some Local) = finds-none refl
    named-finds p x None h r i (Some (Found_ o e)) = declared-finds p x None o e tt

    pub scoped-finds : (p : Place) (x : ℕ) (o : Option Object) → Finds (NamesMeant some) (scoped s w a p x o)
    scoped-finds p x None = finds-none refl
    scoped-finds p x (Some o) = finds-behind (class_body s w o.class o.args p) (λ b. by-option (meaning_in (names_of_members b.class.members) x)
        (λ g. rw g (by-option (b.bound x) (λ h. rw h (finds-none refl)) (λ y h. rw h (given-finds p y))))
        (λ e g. rw g (declared-finds p x None (In o.class o.args) e tt)))

    built-finds : (own : Place) (x : ℕ) (s_ : Subject) → NamesSubject some s_ → Finds (NamesMeant some) (if is_call x then pure (Built x s_) else fault reason.UnknownName own)
    built-finds own x s_ t = finds-if (is_call x) (finds-pure t) (finds-none refl)

    member-finds : (own : Place) (x : ℕ) (l : Left) (b : Base) (s_ : Subject) → NamesLeft some l → ((c : ℕ) (as_given : Args) → b ≡ OfObject c as_given → some.object l ≡ true) → NamesSubject some s_ → Finds (NamesMeant some) (member s w a own x l b s_)
    member-finds own x l (OfObject c as_given) s_ h o t = finds-behind (class_body s w c as_given own) (λ b. by-option (meaning_in (names_of_members b.class.members) x) (λ g. rw g (finds-none refl)) (λ e g. rw g (declared-finds own x (Some l) (In c as_given) e (h, o c as_given refl))))
    member-finds own x l (OfNumber k) s_ h o t = built-finds own x s_ t
    member-finds own x l (InPort k) s_ h o t = built-finds own x s_ t
    member-finds own x l (OutPort k) s_ h o t = built-finds own x s_ t
    member-finds own x l (OfSignal k) s_ h o t = built-finds own x s_ t
    member-finds own x l OfName s_ h o t = built-finds own x s_ t

    pub dot-finds : (p own : Place) (x : ℕ) (m : Meant) → NamesMeant some m → Finds (NamesMeant some) (dot s w a p own x m)
    dot-finds p own x (Valued d) t = built-finds own x (OfDraft d) t
    dot-finds p own x (Stands l) t = finds-when (is_whole l.form) (λ g. finds-if (is_name l.form.base) (finds-none refl) (member-finds own x l.left l.form.base (OfLoc l) t.0 (λ c as_given e. some.whole l.left l.form c as_given t.2 g e) t)) (finds-none refl)
    dot-finds p own x (Function owner name object place) t = finds-none refl
    dot-finds p own x (Built method of) t = finds-none refl
    dot-finds p own x (Done method of) t = finds-none refl
    dot-finds p own x Void t = finds-none refl
    dot-finds p own x Nothing t = finds-none refl
    dot-finds p own x Own t = finds-none refl
    dot-finds p own x (At l) t = finds-none refl
    dot-finds p own x Words t = finds-none refl

    followed-dot : (p own : Place) (x : ℕ) (m : Meant) → NamesMeant some m → Finds (NamesMeant some) (and_walk (followed p a.owner m) (λ l. dot s w a p own x (Stands l)))
    followed-dot p own x m t = finds-then (record { holds = λ l e. followed-is some p a.owner m l t e }) (λ l h. dot-finds p own x (Stands l) h)

    pub arrow-finds : (p own : Place) (x : ℕ) (m : Meant) → NamesMeant some m → Finds (NamesMeant some) (arrow s w a p own x m)
    arrow-finds p own x (At l) t = finds-none refl
    arrow-finds p own x (Valued d) t = followed-dot p own x (Valued d) t
    arrow-finds p own x (Stands l) t = followed-dot p own x (Stands l) t
    arrow-finds p own x (Function owner name object place) t = followed-dot p own x (Function owner name object place) t
    arrow-finds p own x (Built method of) t = followed-dot p own x (Built method of) t
    arrow-finds p own x (Done method of) t = followed-dot p own x (Done method of) t
    arrow-finds p own x Void t = followed-dot p own x Void t
    arrow-finds p own x Nothing t = followed-dot p own x Nothing t
    arrow-finds p own x Own t = followed-dot p own x Own t
    arrow-finds p own x Words t = followed-dot p own x Words t

  -- what a pointer or reference is given
  own-finds : (p : Place) (o : Owner) → Finds (NamesLoc some) (own_object p o)
  own-finds p File = finds-none refl
  own-finds p (In c as_given) = finds-pure (tt, tt, some.this p (direct (OfObject c as_given)))

  pub aimed-finds : (p : Place) (o : Owner) (f : Form) (m : Meant) → NamesMeant some m → Finds (NamesTarget some) (aimed p o f m)
  aimed-finds p o f (Stands l) t = finds-if (nat_eq l.form.dims 0 && (is_all l.taken && is_like l.form f)) (by-reach f.reach (λ g. rw g (finds-none refl)) (λ g. rw g (by-bool (is_pointer l.form) (λ h. rw h (finds-pure t.0)) (λ h. rw h (finds-none refl)))) (λ g. rw g (by-bool (is_pointer l.form) (λ h. rw h (finds-none refl)) (λ h. rw h (finds-pure t.0))))) (finds-none refl)
  aimed-finds p o f (At l) t = finds-if (is_pointer f && (not (is_pointer l.form) && is_like l.form f)) (finds-pure t.0) (finds-none refl)
  aimed-finds p o f Nothing t = finds-if (is_pointer f) (finds-pure tt) (finds-none refl)
  aimed-finds p o f Own t = finds-if (is_pointer f) (finds-then (own-finds p o) (λ l h. finds-if (is_like f l.form) (finds-pure h.0) (finds-none refl))) (finds-none refl)
  aimed-finds p o f (Valued d) t = finds-none refl
  aimed-finds p o f (Function owner name object place) t = finds-none refl
  aimed-finds p o f (Built method of) t = finds-none refl
  aimed-finds p o f (Done method of) t = finds-none refl
  aimed-finds p o f Void t = finds-none refl
  aimed-finds p o f Words t = finds-none refl
