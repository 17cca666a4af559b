-- Where any local may be named, only the kinds of operators are asked for.
use Rattle.std.proofs.Common.{List, [], ◌∷◌, Option, Some, None, refl}
use Rattle.scc_elab_spec.specs.Term.{Term, Literal, Load, Read, Convert, Unary, Binary, Choose, Bit, Range, Join, Left, Local, Answer, This, Follow, Member, Index, Pick, Whole, OneBit, Bits}
use Rattle.scc_elab_spec.specs.Typed.{IsTyped, IsTypedLeft, IsTypedPick}
use Rattle.scc_plain_spec.specs.Drafts.{Draft}
use Rattle.scc_plain_spec.specs.Forms.{Loc, Taken, AllOf, BitsOf, Subject, OfDraft, OfLoc}
use Rattle.scc_plain_spec.specs.Meant.{Meant, Valued, Stands, Function, Built, Done, Void, Nothing, Own, At, Words}
use Rattle.scc_plain_laws.specs.DraftsTyped.{AllTyped}
use Rattle.scc_plain_laws.specs.MeantTyped.{IsTypedTaken, IsTypedLoc, IsTypedSubject, IsTypedObject, IsTypedMeant}
use Rattle.scc_plain_laws.proofs.Named.{any_local, AllNames, Names, NamesLeft, NamesLoc, NamesMeant, NamesObject, NamesPick, NamesSubject, NamesTaken}

mutual
  pub named-term : (e : Term) → IsTyped e → Names any_local e
  named-term (Literal p k w) t = tt
  named-term (Load p k l) t = named-left l t
  named-term (Read p k l) t = named-left l t
  named-term (Convert p k e) t = named-term e t
  named-term (Unary p k o a) t = (t.0, named-term a t.1)
  named-term (Binary p k o a b) t = (t.0, named-term a t.1, named-term b t.2)
  named-term (Choose p k e a b) t = (named-term e t.0, named-term a t.1, named-term b t.2)
  named-term (Bit p a e) t = (named-term a t.0, named-term e t.1)
  named-term (Range p k a h l) t = named-term a t
  named-term (Join p k a b) t = (named-term a t.0, named-term b t.1)

  named-left : (l : Left) → IsTypedLeft l → NamesLeft any_local l
  named-left (Local p n) t = refl
  named-left (Answer p n) t = tt
  named-left (This p) t = tt
  named-left (Follow p l) t = named-left l t
  named-left (Member l m) t = (named-left l t, refl)
  named-left (Index l e) t = (named-left l t.0, named-term e t.1)

mutual
  pub typed-term : (e : Term) → Names any_local e → IsTyped e
  typed-term (Literal p k w) t = tt
  typed-term (Load p k l) t = typed-left l t
  typed-term (Read p k l) t = typed-left l t
  typed-term (Convert p k e) t = typed-term e t
  typed-term (Unary p k o a) t = (t.0, typed-term a t.1)
  typed-term (Binary p k o a b) t = (t.0, typed-term a t.1, typed-term b t.2)
  typed-term (Choose p k e a b) t = (typed-term e t.0, typed-term a t.1, typed-term b t.2)
  typed-term (Bit p a e) t = (typed-term a t.0, typed-term e t.1)
  typed-term (Range p k a h l) t = typed-term a t
  typed-term (Join p k a b) t = (typed-term a t.0, typed-term b t.1)

  typed-left : (l : Left) → NamesLeft any_local l → IsTypedLeft l
  typed-left (Local p n) t = tt
  typed-left (Answer p n) t = tt
  typed-left (This p) t = tt
  typed-left (Follow p l) t = typed-left l t
  typed-left (Member l m) t = typed-left l t.0
  typed-left (Index l e) t = (typed-left l t.0, typed-term e t.1)

pub all-named : (xs : List Draft) → AllTyped xs → AllNames any_local xs
all-named [] t = tt
all-named (x ∷ xs) t = (named-term x.term t.0, all-named xs t.1)

named-pick : (k : Pick) → IsTypedPick k → NamesPick any_local k
named-pick Whole t = tt
named-pick (OneBit e) t = named-term e t
named-pick (Bits h l) t = tt

typed-pick : (k : Pick) → NamesPick any_local k → IsTypedPick k
typed-pick Whole t = tt
typed-pick (OneBit e) t = typed-term e t
typed-pick (Bits h l) t = tt

named-taken : (k : Taken) → IsTypedTaken k → NamesTaken any_local k
named-taken AllOf t = tt
named-taken (BitsOf k j) t = named-pick k t

typed-taken : (k : Taken) → NamesTaken any_local k → IsTypedTaken k
typed-taken AllOf t = tt
typed-taken (BitsOf k j) t = typed-pick k t

named-loc : (l : Loc) → IsTypedLoc l → NamesLoc any_local l
named-loc l t = (named-left l.left t.0, named-taken l.taken t.1, refl)

pub typed-loc : (l : Loc) → NamesLoc any_local l → IsTypedLoc l
typed-loc l t = (typed-left l.left t.0, typed-taken l.taken t.1)

named-subject : (s : Subject) → IsTypedSubject s → NamesSubject any_local s
named-subject (OfDraft x) t = named-term x.term t
named-subject (OfLoc l) t = named-loc l t

typed-subject : (s : Subject) → NamesSubject any_local s → IsTypedSubject s
typed-subject (OfDraft x) t = typed-term x.term t
typed-subject (OfLoc l) t = typed-loc l t

named-object : (o : Option Left) → IsTypedObject o → NamesObject any_local o
named-object None t = tt
named-object (Some l) t = (named-left l t, refl)

typed-object : (o : Option Left) → NamesObject any_local o → IsTypedObject o
typed-object None t = tt
typed-object (Some l) t = typed-left l t.0

pub named-meant : (m : Meant) → IsTypedMeant m → NamesMeant any_local m
named-meant (Valued x) t = named-term x.term t
named-meant (Stands l) t = named-loc l t
named-meant (Function owner name object place) t = named-object object t
named-meant (Built method of) t = named-subject of t
named-meant (Done method of) t = named-subject of t
named-meant Void t = tt
named-meant Nothing t = tt
named-meant Own t = tt
named-meant (At l) t = named-loc l t
named-meant Words t = tt

pub typed-meant : (m : Meant) → NamesMeant any_local m → IsTypedMeant m
typed-meant (Valued x) t = typed-term x.term t
typed-meant (Stands l) t = typed-loc l t
typed-meant (Function owner name object place) t = typed-object object t
typed-meant (Built method of) t = typed-subject of t
typed-meant (Done method of) t = typed-subject of t
typed-meant Void t = tt
typed-meant Nothing t = tt
typed-meant Own t = tt
typed-meant (At l) t = typed-loc l t
typed-meant Words t = tt
