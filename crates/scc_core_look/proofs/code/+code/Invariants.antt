use Rattle.std.proofs.Common.{◌≡◌, true, take}
use Rattle.scc_core_view.specs.Codes.{code_of}
use Rattle.scc_core_look.specs.Fits.{IsGround, good_code}
use Rattle.scc_core_look.proofs.code.+code.Given as goal

abbrev pub invariant-code_fits-loop-s : goal.invariant-code_fits-loop-s
invariant-code_fits-loop-s l = l.fit ≡ true → IsGround l.g → good_code l.g (code_of (take l.s-index l.list)) ≡ true
