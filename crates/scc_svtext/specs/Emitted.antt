-- Emitted text: which bytes are the text of which module. A module has exactly one text.
use Rattle.std.specs.Prelude.{◌≡◌, ℕ, Bool, List}
use Rattle.scc_svtree.specs.declared.module.SvModule.{SvModule}
use Rattle.scc_svtree.specs.Sound.{IsSound}
use Rattle.scc_svtext.specs.ModuleText.{module_text}

-- The bytes are the text of a module without faults; `many` says whether it may have several clocks.
pub record SvReads (many : Bool) (bytes : List ℕ) (m : SvModule) : Type 0 where
  pub sound : IsSound many m
  pub text : bytes ≡ module_text m
