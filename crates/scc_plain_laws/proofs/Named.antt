-- Expressions whose operators have the kinds that they say, and which name no locals but some (ISO C++ [expr.prim.id]), and members of objects alone ([expr.ref]).
use Rattle.std.proofs.Common.{◌≡◌, ℕ, Bool, true, List, [], ◌∷◌, Option, Some, None, refl}
use Rattle.scc_base.specs.declared.refusal.Place.{Place}
use Rattle.scc_templates_spec.specs.Walk.{Args}
use Rattle.scc_bits.specs.Values.{kind_of as operator_kind}
use Rattle.scc_elab_spec.specs.Term.{Term, Literal, Load, Read, Convert, Unary, Binary, Choose, Bit, Range, Join, Left, Local, Answer, This, Follow, Member, Index, Pick, OneBit, Target, Null, Address, Copy, kind_of}
use Rattle.scc_plain_spec.specs.Drafts.{Draft}
use Rattle.scc_plain_spec.specs.Types.{OfObject}
use Rattle.scc_plain_spec.specs.Forms.{Form, Loc, Taken, AllOf, BitsOf, Subject, OfDraft, OfLoc, is_whole}
use Rattle.scc_plain_spec.specs.Meant.{Meant, Valued, Stands, Function, Built, Done, Void, Nothing, Own, At, Words, has_elements, inner_form}

-- Which locals may be named, which locations may have a form, and which are objects: the object of a function, what a pointer leads to, members of objects; and a
-- location of a class's form is an object.
pub record Namable : Type 0 where
  pub local : ℕ → Bool
  pub stands : Left → Form → Bool
  pub object : Left → Bool
  pub this : (p : Place) (f : Form) → stands (This p) f ≡ true
  pub this_object : (p : Place) → object (This p) ≡ true
  pub follow : (p : Place) (l : Left) (f : Form) → stands (Follow p l) f ≡ true
  pub member : (l : Left) (m : ℕ) (f : Form) → object l ≡ true → stands (Member l m) f ≡ true
  pub element : (l : Left) (e : Term) (f : Form) → stands l f ≡ true → has_elements f ≡ true → stands (Index l e) (inner_form f) ≡ true
  pub whole : (l : Left) (f : Form) (c : ℕ) (as_given : Args) → stands l f ≡ true → is_whole f ≡ true → f.base ≡ OfObject c as_given → object l ≡ true

module _ (some : Namable) where
  abbrev mutual
    pub Names : Term → Type 0
    Names (Literal p k w) = Unit {0}
    Names (Load p k l) = NamesLeft l
    Names (Read p k l) = NamesLeft l
    Names (Convert p k e) = Names e
    Names (Unary p k o a) = (operator_kind o (kind_of a) (kind_of a) ≡ Some k) × Names a
    Names (Binary p k o a b) = (operator_kind o (kind_of a) (kind_of b) ≡ Some k) × Names a × Names b
    Names (Choose p k t a b) = Names t × Names a × Names b
    Names (Bit p a e) = Names a × Names e
    Names (Range p k a h l) = Names a
    Names (Join p k a b) = Names a × Names b

    pub NamesLeft : Left → Type 0
    NamesLeft (Local p n) = some.local n ≡ true
    NamesLeft (Answer p n) = Unit {0}
    NamesLeft (This p) = Unit {0}
    NamesLeft (Follow p l) = NamesLeft l
    NamesLeft (Member l m) = NamesLeft l × (some.object l ≡ true)
    NamesLeft (Index l e) = NamesLeft l × Names e

  abbrev pub NamesPick : Pick → Type 0
  NamesPick (OneBit e) = Names e
  NamesPick k = Unit {0}

  abbrev pub NamesTarget : Target → Type 0
  NamesTarget Null = Unit {0}
  NamesTarget (Address l) = NamesLeft l
  NamesTarget (Copy l) = NamesLeft l

  abbrev pub AllNames : List Draft → Type 0
  AllNames [] = Unit {0}
  AllNames (x ∷ xs) = Names x.term × AllNames xs

  abbrev pub NamesTaken : Taken → Type 0
  NamesTaken AllOf = Unit {0}
  NamesTaken (BitsOf pick k) = NamesPick pick

  abbrev pub NamesLoc : Loc → Type 0
  NamesLoc l = NamesLeft l.left × NamesTaken l.taken × (some.stands l.left l.form ≡ true)

  abbrev pub NamesSubject : Subject → Type 0
  NamesSubject (OfDraft x) = Names x.term
  NamesSubject (OfLoc l) = NamesLoc l

  abbrev pub NamesObject : Option Left → Type 0
  NamesObject None = Unit {0}
  NamesObject (Some l) = NamesLeft l × (some.object l ≡ true)

  abbrev pub NamesMeant : Meant → Type 0
  NamesMeant (Valued x) = Names x.term
  NamesMeant (Stands l) = NamesLoc l
  NamesMeant (Function owner name object place) = NamesObject object
  NamesMeant (Built method of) = NamesSubject of
  NamesMeant (Done method of) = NamesSubject of
  NamesMeant Void = Unit {0}
  NamesMeant Nothing = Unit {0}
  NamesMeant Own = Unit {0}
  NamesMeant (At l) = NamesLoc l
  NamesMeant Words = Unit {0}

-- any local, and any location as an object
abbrev pub any_local : Namable
any_local = record {
  local = λ n. true;
  stands = λ l f. true;
  object = λ l. true;
  this = λ p f. refl;
  this_object = λ p. refl;
  follow = λ p l f. refl;
  member = λ l m f h. refl;
  element = λ l e f h i. refl;
  whole = λ l f c as_given h i e. refl;
}
