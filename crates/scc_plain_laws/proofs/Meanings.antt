-- Values, elements, bits and targets of what expressions mean have operators of the kinds that they say.
use Rattle.std.proofs.Common.{◌≡◌, ℕ, Bool, true, false, ◌&&◌, nat_eq, Option, Some, None, refl, subst, if◌then◌else◌}
use Rattle.scc_base.specs.declared.refusal.Place.{Place}
use Rattle.scc_base.specs.declared.code.Code.TheVariants as reason
use Rattle.scc_bits_kinds.specs.declared.kind.Kind.{Kind}
use Rattle.scc_bits_kinds.specs.declared.kind.Kind.TheVariants as kind
use Rattle.scc_bits_kinds.specs.Groups.{group_of, is_small}
use Rattle.scc_templates_spec.specs.Walked.{pure, fault, and_walk}
use Rattle.scc_elab_spec.specs.Term.{Term, Load, Left, Follow, Index, Pick, Whole, OneBit, Bits}
use Rattle.scc_elab_spec.specs.Program.{Direct}
use Rattle.scc_plain_spec.specs.Types.{Base, OfNumber, OfObject, InPort, OutPort, OfSignal}
use Rattle.scc_plain_spec.specs.Drafts.{Draft, kind_in, drafted}
use Rattle.scc_plain_spec.specs.Forms.{Form, direct, is_all, is_pointer, Loc, Taken, AllOf, BitsOf, located, is_whole, picked, loaded, value_at, Subject, OfDraft, OfLoc, subject_value}
use Rattle.scc_templates_spec.specs.World.{Owner, File, In}
use Rattle.scc_plain_spec.specs.Meant.{behind, own_object, followed, addressed, Meant, Valued, Stands, Function, Built, Done, Void, Nothing, Own, At, Words, taken, bits_of, some_bits, bit, has_elements, inner_form, at_index, indexed}
use Rattle.scc_plain_laws.proofs.Drafted.{some-is, walk-is}
use Rattle.scc_plain_laws.proofs.Named.{Namable, Names, NamesLeft, NamesLoc, NamesMeant, NamesPick, NamesSubject, NamesTaken}

module _ (some : Namable) where
  picked-is : (p : Place) (k : Kind) (e : Term) (j : Pick) → Names some e → NamesPick some j → Names some (picked p k e j)
  picked-is p k e Whole t s = t
  picked-is p k e (OneBit i) t s = (t, s)
  picked-is p k e (Bits h l) t s = t

  loaded-is : (p : Place) (k : Kind) (l : Left) (t : Taken) → NamesLeft some l → NamesTaken some t → Names some (loaded p k l t)
  loaded-is p k l AllOf s t = s
  loaded-is p k l (BitsOf pick j) s t = picked-is p j (Load p k l) pick s t

  pub value-at-is : (p : Place) (l : Loc) (x : Draft) → NamesLoc some l → (value_at p l).value ≡ Some x → Names some x.term
  value-at-is p l x t e = by (is_whole l.form) refl
    where
      draft : (e : Term) → Names some e → Some (drafted p e) ≡ Some x → Names some x.term
      draft e h z = subst (λ (x : Draft). Names some x.term) (some-is z) h

      base : is_whole l.form ≡ true → (b : Base) → l.form.base ≡ b → Names some x.term
      base h (OfNumber k) g = draft (loaded p k l.left l.taken) (loaded-is p k l.left l.taken t.0 t.1) (let z = rw h at e in rw g at z)
      base h (InPort k) g = draft _ t.0 (let z = rw h at e in rw g at z)
      base h (OutPort k) g = draft _ t.0 (let z = rw h at e in rw g at z)
      base h (OfSignal k) g = draft _ t.0 (let z = rw h at e in rw g at z)
      base h b g = absurd (let z = rw h at e in let y = rw g at z in cc)

      by : (b : Bool) → is_whole l.form ≡ b → Names some x.term
      by false h = absurd (let z = rw h at e in cc)
      by true h = base h l.form.base refl

  pub subject-is : (p : Place) (s : Subject) (x : Draft) → NamesSubject some s → (subject_value p s).value ≡ Some x → Names some x.term
  subject-is p (OfDraft y) x t e = subst (λ (x : Draft). Names some x.term) (some-is e) t
  subject-is p (OfLoc l) x t e = value-at-is p l x t e

  pub taken-is : (p : Place) (m : Meant) (x : Draft) → NamesMeant some m → (taken p m).value ≡ Some x → Names some x.term
  taken-is p (Valued y) x t e = subst (λ (x : Draft). Names some x.term) (some-is e) t
  taken-is p (Stands l) x t e = value-at-is p l x t e
  taken-is p (Function owner name object place) x t e = absurd cc
  taken-is p (Built method of) x t e = absurd cc
  taken-is p (Done method of) x t e = absurd cc
  taken-is p Void x t e = absurd cc
  taken-is p Nothing x t e = absurd cc
  taken-is p Own x t e = absurd cc
  taken-is p (At l) x t e = absurd cc
  taken-is p Words x t e = absurd cc

  meant-is : (m n : Meant) → NamesMeant some m → Some m ≡ Some n → NamesMeant some n
  meant-is m n t e = subst (NamesMeant some) (some-is e) t

  pub some-bits-is : (p : Place) (k : Kind) (j : Pick) (s : Subject) (m : Meant) → NamesPick some j → NamesSubject some s → (some_bits p k j s).value ≡ Some m → NamesMeant some m
  some-bits-is p k j (OfDraft x) m i t e = meant-is (Valued (drafted p (picked p k x.term j))) m (picked-is p k x.term j t i) e
  some-bits-is p k j (OfLoc l) m i t e = by l.form.base t.2 e
    where
      -- the location with another base
      based : Base → Loc
      based b = record { left = l.left; form = record { base = b; reach = l.form.reach; vector = l.form.vector; dims = l.form.dims }; taken = l.taken }

      shown : (b : Base) → some.stands l.left (based b).form ≡ true → (and_walk (value_at p (based b)) (λ x. pure (Valued (drafted p (picked p k x.term j))))).value ≡ Some m → NamesMeant some m
      shown b h e = let u = walk-is (value_at p (based b)) (λ x. pure (Valued (drafted p (picked p k x.term j)))) m e in
          meant-is (Valued (drafted p (picked p k u.0.term j))) m (picked-is p k u.0.term j (value-at-is p (based b) u.0 (t.0, t.1, h) u.1) i) u.2

      by : (b : Base) → some.stands l.left (based b).form ≡ true → (some_bits p k j (OfLoc (based b))).value ≡ Some m → NamesMeant some m
      by (OfNumber n) h e = meant-is (Stands (record { left = l.left; form = (based (OfNumber n)).form; taken = BitsOf j k })) m (t.0, i, h) e
      by b h e = shown b h e

  bit-is : (p : Place) (i : Draft) (s : Subject) (m : Meant) → Names some i.term → NamesSubject some s → (bit p i s).value ≡ Some m → NamesMeant some m
  bit-is p i s m h t e = by (bits_of s) refl
    where
      by : (k : Option Kind) → bits_of s ≡ k → NamesMeant some m
      by None g = absurd (let z = rw g at e in cc)
      by (Some k) g = some-bits-is p kind.Bool (OneBit i.term) s m h t (rw g at e)

  pub indexed-is : (p : Place) (m : Meant) (i : Draft) (n : Meant) → NamesMeant some m → Names some i.term → (indexed p m i).value ≡ Some n → NamesMeant some n
  indexed-is p m i n t h e = by (is_small (group_of (kind_in i))) e
    where
      at : (m : Meant) → NamesMeant some m → (at_index p i m).value ≡ Some n → NamesMeant some n
      at (Stands l) t e = element (has_elements l.form) refl e
        where
          element : (b : Bool) → has_elements l.form ≡ b → (if b then pure (Stands (located (Index l.left i.term) (inner_form l.form))) else bit p i (OfLoc l)).value ≡ Some n → NamesMeant some n
          element true g e = meant-is (Stands (located (Index l.left i.term) (inner_form l.form))) n ((t.0, h), tt, some.element l.left i.term l.form t.2 g) e
          element false g e = bit-is p i (OfLoc l) n h t e
      at (Valued x) t e = bit-is p i (OfDraft x) n h t e
      at (Function owner name object place) t e = absurd cc
      at (Built method of) t e = absurd cc
      at (Done method of) t e = absurd cc
      at Void t e = absurd cc
      at Nothing t e = absurd cc
      at Own t e = absurd cc
      at (At l) t e = absurd cc
      at Words t e = absurd cc

      by : (b : Bool) → (if b then at_index p i m else fault reason.Mismatch p).value ≡ Some n → NamesMeant some n
      by true e = at m t e
      by false e = absurd cc

  behind-is : (p : Place) (l m : Loc) → NamesLoc some l → (behind p l).value ≡ Some m → NamesLoc some m
  behind-is p l m t e = by (is_pointer l.form && nat_eq l.form.dims 0) e
    where
      at : Form → Loc
      at f = located (Follow p l.left) f

      by : (b : Bool) → (if b then pure (at (record { base = l.form.base; reach = Direct; vector = l.form.vector; dims = 0 })) else fault reason.Mismatch p).value ≡ Some m → NamesLoc some m
      by true e = subst (NamesLoc some) (some-is e) (t.0, tt, some.follow p l.left (record { base = l.form.base; reach = Direct; vector = l.form.vector; dims = 0 }))
      by false e = absurd cc

  own-object-is : (p : Place) (o : Owner) (m : Loc) → (own_object p o).value ≡ Some m → NamesLoc some m
  own-object-is p File m e = absurd cc
  own-object-is p (In c as_given) m e = subst (NamesLoc some) (some-is e) (tt, tt, some.this p (direct (OfObject c as_given)))

  -- what a pointer leads to
  pub followed-is : (p : Place) (o : Owner) (m : Meant) (l : Loc) → NamesMeant some m → (followed p o m).value ≡ Some l → NamesLoc some l
  followed-is p o (Valued x) l t e = absurd cc
  followed-is p o (Stands k) l t e = behind-is p k l t e
  followed-is p o (Function owner name object place) l t e = absurd cc
  followed-is p o (Built method of) l t e = absurd cc
  followed-is p o (Done method of) l t e = absurd cc
  followed-is p o Void l t e = absurd cc
  followed-is p o Nothing l t e = absurd cc
  followed-is p o Own l t e = own-object-is p o l e
  followed-is p o (At k) l t e = subst (NamesLoc some) (some-is e) t
  followed-is p o Words l t e = absurd cc

  pub addressed-is : (p : Place) (m n : Meant) → NamesMeant some m → (addressed p m).value ≡ Some n → NamesMeant some n
  addressed-is p (Stands l) n t e = by (nat_eq l.form.dims 0 && is_all l.taken) e
    where
      by : (b : Bool) → (if b then pure (At l) else fault reason.Mismatch p).value ≡ Some n → NamesMeant some n
      by true e = meant-is (At l) n t e
      by false e = absurd cc
  addressed-is p (Valued x) n t e = absurd cc
  addressed-is p (Function owner name object place) n t e = absurd cc
  addressed-is p (Built method of) n t e = absurd cc
  addressed-is p (Done method of) n t e = absurd cc
  addressed-is p Void n t e = absurd cc
  addressed-is p Nothing n t e = absurd cc
  addressed-is p Own n t e = absurd cc
  addressed-is p (At l) n t e = absurd cc
  addressed-is p Words n t e = absurd cc
