-- Expressions whose operators have the kinds that they say. This project's own.
use Rattle.std.specs.Prelude.{◌≡◌, Some}
use Rattle.scc_bits.specs.Values.{kind_of as operator_kind}
use Rattle.scc_core_spec.specs.Term.{Term, Literal, Load, Read, Convert, Unary, Binary, Choose, Bit, Range, Join, Left, Cell, Prefix, Null, Follow, Member, Index, Pick, Whole, OneBit, Bits, kind_of}
use Rattle.scc_core_spec.specs.Code.{Code, Pointed, Declared, Assigned, End, Put, Aim, If, Block, Loop, Exit, Wait}

abbrev mutual
  pub IsKinded : Term → Type 0
  IsKinded (Literal p k w) = Unit {0}
  IsKinded (Load p k l) = IsKindedLeft l
  IsKinded (Read p k l) = IsKindedLeft l
  IsKinded (Convert p k e) = IsKinded e
  IsKinded (Unary p k o a) = (operator_kind o (kind_of a) (kind_of a) ≡ Some k) × IsKinded a
  IsKinded (Binary p k o a b) = (operator_kind o (kind_of a) (kind_of b) ≡ Some k) × IsKinded a × IsKinded b
  IsKinded (Choose p k t a b) = IsKinded t × IsKinded a × IsKinded b
  IsKinded (Bit p a e) = IsKinded a × IsKinded e
  IsKinded (Range p k a h l) = IsKinded a
  IsKinded (Join p k a b) = IsKinded a × IsKinded b

  pub IsKindedLeft : Left → Type 0
  IsKindedLeft (Cell p n) = Unit {0}
  IsKindedLeft (Prefix p n) = Unit {0}
  IsKindedLeft (Null p) = Unit {0}
  IsKindedLeft (Follow p s l) = IsKindedLeft l
  IsKindedLeft (Member l n) = IsKindedLeft l
  IsKindedLeft (Index l size e) = IsKindedLeft l × IsKinded e

abbrev pub IsKindedPick : Pick → Type 0
IsKindedPick Whole = Unit {0}
IsKindedPick (OneBit e) = IsKinded e
IsKindedPick (Bits h l) = Unit {0}

abbrev pub IsKindedTo : Pointed → Type 0
IsKindedTo (Declared n) = Unit {0}
IsKindedTo (Assigned l) = IsKindedLeft l

abbrev pub IsKindedCode : Code → Type 0
IsKindedCode End = Unit {0}
IsKindedCode (Put p l k e r) = IsKindedLeft l × IsKindedPick k × IsKinded e × IsKindedCode r
IsKindedCode (Aim p to t r) = IsKindedTo to × IsKindedLeft t × IsKindedCode r
IsKindedCode (If p t a b r) = IsKinded t × IsKindedCode a × IsKindedCode b × IsKindedCode r
IsKindedCode (Block p b r) = IsKindedCode b × IsKindedCode r
IsKindedCode (Loop p n b r) = IsKindedCode b × IsKindedCode r
IsKindedCode (Exit p n r) = IsKindedCode r
IsKindedCode (Wait p l n r) = IsKindedCode r
