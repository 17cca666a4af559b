-- What a text is that was looked at before it was given.
use Rattle.std.specs.Prelude.{◌≡◌, ℕ, List, Bool, false, nat_eq}
use Rattle.scc_base.specs.Code.{code_number}
use Rattle.scc_base.specs.declared.refusal.Stop.{Stop}
use Rattle.scc_base.specs.declared.refusal.Stop.TheVariants as stop
use Rattle.scc_svtree.specs.declared.module.SvModule.{SvModule}
use Rattle.scc_svread_grammar.specs.Lexical.{Bytes}
use Rattle.scc_svread_grammar.specs.Claim.{PassesLimitAt}
use Rattle.scc_svtext.specs.Emitted.{SvReads}
use Rattle.scc_svtext.specs.ModuleText.{module_text}

-- a statement or an expression stands deeper than the reader's 8,192 levels
abbrev pub StandsDeep : Bytes → Type 0
StandsDeep bytes = (rest : Bytes) × PassesLimitAt 8192 bytes rest

-- The bytes are the text of a module of this name, which may have several clocks where `many` says so: of the one module without
-- wrong sizes, names, drivers or cycles that has this text; or a part of the module stands too deep for the reader.
pub data IsEmitted (many : Bool) (top bytes : List ℕ) : Type 0 where
  sound : (m : SvModule) → SvReads many bytes m → m.name ≡ top → IsEmitted many top bytes
  deep : (m : SvModule) → bytes ≡ module_text m → m.name ≡ top → StandsDeep bytes → IsEmitted many top bytes

-- a refusal because a part stands too deep
abbrev pub is_too_deep : Stop → Bool
is_too_deep (stop.Refused r) = nat_eq (code_number r.code) 706
is_too_deep stop.NoMemory = false
