-- What holds of each assignment and each test, at every depth, where no pointer is assigned. This project's own.
use Rattle.scc_core_spec.specs.Term.{Term, Left, Pick}
use Rattle.scc_core_spec.specs.Code.{Code, End, Put, Aim, If, Block, Loop, Exit, Wait}
use Rattle.scc_core_spec.specs.Segments.{Segment, Plain, Test, Halt, Finish}

module _ (P : Left → Pick → Term → Type 0) (T : Term → Type 0) where
  abbrev pub Every : Code → Type 0
  Every End = Unit {0}
  Every (Put p l k e r) = P l k e × Every r
  Every (Aim p to t r) = ⊥
  Every (If p t a b r) = T t × Every a × Every b × Every r
  Every (Block p b r) = Every b × Every r
  Every (Loop p n b r) = Every b × Every r
  Every (Exit p n r) = Every r
  Every (Wait p l n r) = Every r

  abbrev pub EverySegment : Segment → Type 0
  EverySegment (Plain c s) = Every c × EverySegment s
  EverySegment (Test p t s u) = T t × EverySegment s × EverySegment u
  EverySegment (Halt p l n) = Unit {0}
  EverySegment Finish = Unit {0}
