-- What expressions of bodies mean, where the operators in it have the kinds that they say.
use Rattle.std.specs.Prelude.{Option, Some, None}
use Rattle.scc_elab_spec.specs.Term.{Left}
use Rattle.scc_elab_spec.specs.Typed.{IsTyped, IsTypedLeft, IsTypedPick}
use Rattle.scc_plain_spec.specs.Forms.{Loc, Taken, AllOf, BitsOf, Subject, OfDraft, OfLoc}
use Rattle.scc_plain_spec.specs.Meant.{Meant, Valued, Stands, Function, Built, Done, Void, Nothing, Own, At, Words}

abbrev pub IsTypedTaken : Taken → Type 0
IsTypedTaken AllOf = Unit {0}
IsTypedTaken (BitsOf pick k) = IsTypedPick pick

abbrev pub IsTypedLoc : Loc → Type 0
IsTypedLoc l = IsTypedLeft l.left × IsTypedTaken l.taken

abbrev pub IsTypedSubject : Subject → Type 0
IsTypedSubject (OfDraft x) = IsTyped x.term
IsTypedSubject (OfLoc l) = IsTypedLoc l

abbrev pub IsTypedObject : Option Left → Type 0
IsTypedObject None = Unit {0}
IsTypedObject (Some l) = IsTypedLeft l

abbrev pub IsTypedMeant : Meant → Type 0
IsTypedMeant (Valued x) = IsTyped x.term
IsTypedMeant (Stands l) = IsTypedLoc l
IsTypedMeant (Function owner name object place) = IsTypedObject object
IsTypedMeant (Built method of) = IsTypedSubject of
IsTypedMeant (Done method of) = IsTypedSubject of
IsTypedMeant Void = Unit {0}
IsTypedMeant Nothing = Unit {0}
IsTypedMeant Own = Unit {0}
IsTypedMeant (At l) = IsTypedLoc l
IsTypedMeant Words = Unit {0}
