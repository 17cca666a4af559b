-- What the text of a module says.
use Rattle.std.proofs.Common.{◌≡◌, ℕ, Bool, List}
use Rattle.scc_svtree.specs.declared.module.SvModule.{SvModule}
use Rattle.scc_svtree.specs.Sound.{IsSound}
use Rattle.scc_svtext.specs.Emitted.{SvReads}
use Rattle.scc_svtext.specs.ModuleText.{module_text}
use Rattle.scc_svread_grammar.specs.Grammar.{Reads}
use Rattle.scc_svread_written.specs.Written.{raw_of}
use Rattle.scc_svread_written.proofs.Modules as written

pub reads_module : (many : Bool) (m : SvModule) → IsSound many m → Reads (module_text m) (raw_of m)
reads_module = written.reads_module

pub one_module : (many : Bool) (bytes : List ℕ) (m n : SvModule) → SvReads many bytes m → SvReads many bytes n → m ≡ n
one_module = written.one_module
