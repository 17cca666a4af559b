use Rattle.std.proofs.Common.{◌≡◌, ap, sym, ◌∙◌, cond, Bool, true, false, Some, None, refl, List, ℕ}
use Rattle.std.specs.Str.{is_utf8, IsUtf8}
use Rattle.std.proofs.lemmas.Str.{is_utf8-from_IsUtf8, IsUtf8-from_is_utf8}
use Rattle.scc_tokens.proofs.walk.as_text.Goals as goal

pub returns-in-Ok : goal.returns-in-Ok
returns-in-Ok c =
    ap Some c.in-Ok.ensures.cases.0 ∙ sym (ap (λ b. cond b (Some c.args.bytes.now) None) (is_utf8-from_IsUtf8 c.args.bytes.now c.in-Ok.ensures.cases.1))

no_text : (bytes : List ℕ) → (IsUtf8 bytes → ⊥) → is_utf8 bytes ≡ false
no_text bytes bad = by (is_utf8 bytes) refl
  where
    by : (b : Bool) → is_utf8 bytes ≡ b → b ≡ false
    by false e = refl
    by true e = absurd (bad (IsUtf8-from_is_utf8 bytes e))

pub returns-in-Err : goal.returns-in-Err
returns-in-Err c = sym (ap (λ b. cond b (Some c.args.bytes.now) None) (no_text c.args.bytes.now c.in-Err.ensures.cases.0))
