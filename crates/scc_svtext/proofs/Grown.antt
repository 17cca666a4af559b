-- A text that something was appended to.
use Rattle.std.proofs.Common.{◌≡◌, ◌<◌, ◌≤◌, ℕ, List, ◌++◌, length, length-append, ap, ◌∙◌, arith}
use Rattle.scc_svtext.specs.declared.fixed.Fixed.{Fixed}
use Rattle.scc_svtext.specs.Fixed.{fixed_text}
use Rattle.scc_svtext.proofs.FixedTexts.{some_text}

pub grown : (a b t : List ℕ) → b ≡ a ++ t → length a ≤ length b
grown a b t h = omega (arith, ap length h ∙ length-append a t)

pub grown_by : (a b : List ℕ) (f : Fixed) → b ≡ a ++ fixed_text f → length a < length b
grown_by a b f h = omega (arith, ap length h ∙ length-append a (fixed_text f), some_text f)

pub grown_some : (a b t : List ℕ) (f : Fixed) → b ≡ a ++ (t ++ fixed_text f) → length a < length b
grown_some a b t f h = omega (arith, ap length h ∙ length-append a (t ++ fixed_text f), length-append t (fixed_text f), some_text f)
