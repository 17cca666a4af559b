-- The core of the program in which a counter chooses the object of a call means what the program means.
use Rattle.std.proofs.Common.{◌≡◌, ℕ, zero, suc, Bool, true, false, [], ◌∷◌, Option, Some, None, option_and_then, slice_get, if◌then◌else◌, refl, subst}
use Rattle.std.specs.Prelude.{find}
use Rattle.scc_semantics.specs.Location.{Location}
use Rattle.scc_semantics.specs.Design.{Process}
use Rattle.scc_semantics.specs.Same.{SameDesign}
use Rattle.scc_semantics.specs.Steady.{plain_body}
use Rattle.scc_core_spec.specs.Static.{Cells, fixed_word}
use Rattle.scc_core_spec.specs.Program as prog
use Rattle.scc_core_spec.specs.Source.{source_of}
use Rattle.scc_elab_spec.specs.Design as design
use Rattle.scc_elab_spec.specs.Meant.{design_of}
use Rattle.scc_elab_spec.specs.Worked.{here}
use Rattle.scc_inline_spec.specs.Inlined.{home_of, copied_program}
use Rattle.scc_inline_laws.proofs.All.{inlined-same}
use Rattle.scc_inline_laws.proofs.Plain.{plain-keeps}
use Rattle.scc_inline_laws.proofs.Found.{test}
use Rattle.scc_inline_orderly_laws.specs.Worked.{counted, counting}
use Rattle.scc_inline_orderly_laws.proofs.Whole.{orderly}

abbrev process : design.Process
process = record { object = 0; function = 1; place = here; is_thread = false; senses = []; edge = Some (record { root = 5; rising = true }); reset = None }

some-same : {A : Type 0} {x y : A} → Some x ≡ Some y → x ≡ y
some-same e = cc

abbrev NoneFixed : Cells → Type 0
NoneFixed [] = Unit {0}
NoneFixed (c ∷ cs) = (fixed_word c.sort ≡ None) × NoneFixed cs

none-fixed : (t : prog.Cell → Bool) (xs : Cells) → NoneFixed xs → option_and_then (λ c. fixed_word c.sort) (find t xs) ≡ None
none-fixed t [] x = refl
none-fixed t (c ∷ xs) x = by (t c) (none-fixed t xs x.1)
  where
    by : (b : Bool) → option_and_then (λ c. fixed_word c.sort) (find t xs) ≡ None → option_and_then (λ c. fixed_word c.sort) (if b then Some c else find t xs) ≡ None
    by true ih = x.0
    by false ih = ih

module _ (constant : Location → Option ℕ) where
  process-plain : (i : ℕ) (p : Process) → slice_get (source_of (home_of counted counting) (copied_program counted counting) constant).processes i ≡ Some p → plain_body p.body ≡ true
  process-plain zero p e = subst (λ p. plain_body p.body ≡ true) (some-same e) refl
  process-plain (suc n) p e = cc

  pub counted-same : SameDesign 1 (design_of counted counting constant) (source_of (home_of counted counting) (copied_program counted counting) constant)
  counted-same = inlined-same counted counting (copied_program counted counting) constant (orderly counted counting refl) refl
      (plain-keeps (source_of (home_of counted counting) (copied_program counted counting) constant) process-plain (λ l. none-fixed (test counted counting false l) (copied_program counted counting).cells (refl, (refl, (refl, (refl, tt))))))
