-- What the reader's answer says of a text.
use Rattle.std.proofs.Common.{◌≡◌, inl, inr, ℕ, List, Bool, false, true, ap, sym, ◌∙◌}
use Rattle.scc_base.specs.declared.refusal.Stop.{Stop}
use Rattle.scc_svtree.specs.declared.module.SvModule.{SvModule}
use Rattle.scc_svread_grammar.specs.declared.halt.Halt.{Halt}
use Rattle.scc_svread_grammar.specs.declared.halt.Halt.TheVariants as halt
use Rattle.scc_svread_grammar.specs.declared.raw.RawModule.{RawModule}
use Rattle.scc_svread_grammar.specs.Lexical.{Bytes}
use Rattle.scc_svread_grammar.specs.Claim.{FaultAt}
use Rattle.scc_svread_check.specs.declared.wrong.Wrong.{Wrong}
use Rattle.scc_svread_check.specs.declared.wrong.Wrong.TheVariants.{Size, Name, Driver}
use Rattle.scc_svread.specs.Read.{ReadAs, RefusedAs, IsFaulty, stop_at, stop_of}
use Rattle.scc_svtext.specs.ModuleText.{module_text}
use Rattle.scc_drive_stages.specs.Emitted.{IsEmitted, sound, deep, StandsDeep, is_too_deep}

of_fault : (bytes : Bytes) (f : Halt) → FaultAt 8192 bytes f → is_too_deep (stop_at bytes f) ≡ true → StandsDeep bytes
of_fault bytes halt.NoMemory s n = absurd (let q : false ≡ true = n in cc)
of_fault bytes (halt.Unexpected left) s n = absurd (let q : false ≡ true = n in cc)
of_fault bytes (halt.TooDeep left) s n = (s.0, s.1)

of_wrong : (w : Wrong) → is_too_deep (stop_of w) ≡ true → ⊥
of_wrong (Size at) n = let q : false ≡ true = n in cc
of_wrong (Name at) n = let q : false ≡ true = n in cc
of_wrong (Driver at) n = let q : false ≡ true = n in cc

-- nothing that is wrong with a text is a refusal because of depth
of_faulty : (many : Bool) (raw : RawModule) (e : Stop) → IsFaulty many raw e → is_too_deep e ≡ true → ⊥
of_faulty many raw e (inl p) n = let q : false ≡ true = sym (ap is_too_deep p) ∙ n in cc
of_faulty many raw e (inr (inl w)) n = of_wrong w.first (sym (ap is_too_deep w.said) ∙ n)
of_faulty many raw e (inr (inr l)) n = let q : false ≡ true = sym (ap is_too_deep l.loops.said) ∙ n in cc

stands_deep : (many : Bool) (bytes : Bytes) (e : Stop) → RefusedAs many bytes e → is_too_deep e ≡ true → StandsDeep bytes
stands_deep many bytes e (inl s) n = of_fault bytes s.fault s.stands (sym (ap is_too_deep s.said) ∙ n)
stands_deep many bytes e (inr t) n = absurd (of_faulty many t.raw e t.holds n)

pub is_sound : (many : Bool) (top bytes : List ℕ) (m : SvModule) → ReadAs many bytes m → m.name ≡ top → IsEmitted many top bytes
is_sound many top bytes m read named = sound m read.text named

pub is_deep : (many : Bool) (top bytes : List ℕ) (m : SvModule) (e : Stop) → bytes ≡ module_text m → m.name ≡ top → RefusedAs many bytes e → is_too_deep e ≡ true
    → IsEmitted many top bytes
is_deep many top bytes m e text named refused n = deep m text named (stands_deep many bytes e refused n)
