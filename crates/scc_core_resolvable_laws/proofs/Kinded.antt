-- Statements that name a process's own cells have operators of the kinds that they say.
use Rattle.scc_core_spec.specs.Term.{Term, Literal, Load, Read, Convert, Unary, Binary, Choose, Bit, Range, Join, Left, Cell, Prefix, Null, Follow, Index, Pick, Whole, OneBit, Bits}
use Rattle.scc_core_spec.specs.Term as term
use Rattle.scc_core_spec.specs.Code.{Code, Declared, Assigned, End, Put, Aim, If, Block, Loop, Exit, Wait}
use Rattle.scc_core_spec.specs.Program.{Process, Program}
use Rattle.scc_core_spec.specs.Static.{Cells}
use Rattle.scc_core_unroll_laws.specs.Kinds.{IsKinded, IsKindedLeft, IsKindedPick, IsKindedCode}
use Rattle.scc_core_unroll_laws.specs.Named.{AreKinded}
use Rattle.scc_core_pass_laws.specs.Pointing.{OwnNames, OwnLeft, OwnPick, OwnCode}
use Rattle.scc_core_resolvable_laws.specs.Resolvable.{AreOwn}

module _ (q : Process) (cs : Cells) where
  mutual
    kinded : (e : Term) → OwnNames q cs e → IsKinded e
    kinded (Literal p k x) h = tt
    kinded (Load p k l) h = kinded-left l h
    kinded (Read p k l) h = kinded-left l h
    kinded (Convert p k e) h = kinded e h
    kinded (Unary p k o e) h = (h.0, kinded e h.1)
    kinded (Binary p k o e f) h = (h.0, kinded e h.1, kinded f h.2)
    kinded (Choose p k t e f) h = (kinded t h.0, kinded e h.1, kinded f h.2)
    kinded (Bit p e i) h = (kinded e h.0, kinded i h.1)
    kinded (Range p k e a b) h = kinded e h
    kinded (Join p k e f) h = (kinded e h.0, kinded f h.1)

    kinded-left : (l : Left) → OwnLeft q cs l → IsKindedLeft l
    kinded-left (Cell p n) h = tt
    kinded-left (Prefix p n) h = tt
    kinded-left (Null p) h = tt
    kinded-left (Follow p s l) h = kinded-left l h
    kinded-left (term.Member l n) h = kinded-left l h
    kinded-left (Index l s e) h = (kinded-left l h.0, kinded e h.1)

  kinded-pick : (k : Pick) → OwnPick q cs k → IsKindedPick k
  kinded-pick Whole h = tt
  kinded-pick (OneBit e) h = kinded e h
  kinded-pick (Bits a b) h = tt

  pub kinded-code : (c : Code) → OwnCode q cs c → IsKindedCode c
  kinded-code End h = tt
  kinded-code (Put p l k e r) h = (kinded-left l h.0, kinded-pick k h.1, kinded e h.2, kinded-code r h.3)
  kinded-code (Aim p (Declared n) t r) h = (tt, kinded-left t h.1, kinded-code r h.2)
  kinded-code (Aim p (Assigned l) t r) h = (kinded-left l h.0, kinded-left t h.1, kinded-code r h.2)
  kinded-code (If p t a b r) h = (kinded t h.0, kinded-code a h.1, kinded-code b h.2, kinded-code r h.3)
  kinded-code (Block p b r) h = (kinded-code b h.0, kinded-code r h.1)
  kinded-code (Loop p n b r) h = (kinded-code b h.0, kinded-code r h.1)
  kinded-code (Exit p n r) h = kinded-code r h
  kinded-code (Wait p l n r) h = kinded-code r h

pub are-kinded : (p : Program) → AreOwn p → AreKinded p
are-kinded p own i q at = kinded-code q p.cells q.body (own i q at)
