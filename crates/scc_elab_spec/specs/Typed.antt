-- Expressions whose operations have the kinds that their operators give (ISO C++ [expr]; IEEE 1666-2011, 7.2): all of a program that the static stage makes.
use Rattle.std.specs.Prelude.{◌≡◌, Some}
use Rattle.scc_bits.specs.Values.{kind_of as operator_kind}
use Rattle.scc_elab_spec.specs.Term.{Term, Literal, Load, Read, Convert, Unary, Binary, Choose, Bit, Range, Join, Left, Local, Answer, This, Follow, Member, Index, Pick, OneBit, Target, Null, Address, Copy, kind_of}
use Rattle.scc_elab_spec.specs.Program.{Code, Declare, Assign, Point, If, Loop, Block, Exit}

abbrev mutual
  pub IsTyped : Term → Type 0
  IsTyped (Literal p k w) = Unit {0}
  IsTyped (Load p k l) = IsTypedLeft l
  IsTyped (Read p k l) = IsTypedLeft l
  IsTyped (Convert p k e) = IsTyped e
  IsTyped (Unary p k o a) = (operator_kind o (kind_of a) (kind_of a) ≡ Some k) × IsTyped a
  IsTyped (Binary p k o a b) = (operator_kind o (kind_of a) (kind_of b) ≡ Some k) × IsTyped a × IsTyped b
  IsTyped (Choose p k t a b) = IsTyped t × IsTyped a × IsTyped b
  IsTyped (Bit p a e) = IsTyped a × IsTyped e
  IsTyped (Range p k a h l) = IsTyped a
  IsTyped (Join p k a b) = IsTyped a × IsTyped b

  pub IsTypedLeft : Left → Type 0
  IsTypedLeft (Local p n) = Unit {0}
  IsTypedLeft (Answer p n) = Unit {0}
  IsTypedLeft (This p) = Unit {0}
  IsTypedLeft (Follow p l) = IsTypedLeft l
  IsTypedLeft (Member l m) = IsTypedLeft l
  IsTypedLeft (Index l e) = IsTypedLeft l × IsTyped e

abbrev pub IsTypedPick : Pick → Type 0
IsTypedPick (OneBit e) = IsTyped e
IsTypedPick k = Unit {0}

abbrev pub IsTypedTarget : Target → Type 0
IsTypedTarget Null = Unit {0}
IsTypedTarget (Address l) = IsTypedLeft l
IsTypedTarget (Copy l) = IsTypedLeft l

-- the statements that constructors and processes both have
abbrev pub IsTypedCode : Code → Type 0
IsTypedCode (Declare p n r) = IsTypedCode r
IsTypedCode (Assign p l k e r) = IsTypedLeft l × IsTypedPick k × IsTyped e × IsTypedCode r
IsTypedCode (Point p l t r) = IsTypedLeft l × IsTypedTarget t × IsTypedCode r
IsTypedCode (If p t a b r) = IsTyped t × IsTypedCode a × IsTypedCode b × IsTypedCode r
IsTypedCode (Loop p c b r) = IsTypedCode b × IsTypedCode r
IsTypedCode (Block p b r) = IsTypedCode b × IsTypedCode r
IsTypedCode (Exit p d r) = IsTypedCode r
IsTypedCode c = Unit {0}
