-- The program `m = pick(1) + pick(0)` is orderly, and its core means the same.
use Rattle.std.proofs.Common.{◌≡◌, ℕ, zero, suc, Bool, true, false, [], ◌∷◌, Option, Some, None, option_and_then, slice_get, if◌then◌else◌, refl, ap, subst}
use Rattle.std.specs.Prelude.{find}
use Rattle.scc_semantics.specs.Location.{Location}
use Rattle.scc_semantics.specs.Design.{Process}
use Rattle.scc_semantics.specs.Same.{SameDesign}
use Rattle.scc_semantics.specs.Steady.{plain_body}
use Rattle.scc_core_spec.specs.Static.{Cells, fixed_word}
use Rattle.scc_core_spec.specs.Program as prog
use Rattle.scc_core_spec.specs.Source.{source_of}
use Rattle.scc_elab_spec.specs.Program.{Function, Member, Number}
use Rattle.scc_elab_spec.specs.Design as design
use Rattle.scc_elab_spec.specs.Design.{Object, Pointer}
use Rattle.scc_elab_spec.specs.Meant.{design_of, is_pointer}
use Rattle.scc_inline_spec.specs.Inlined.{home_of, copied_program}
use Rattle.scc_elab_spec.specs.Worked.{program, made, method, pick, int, member}
use Rattle.scc_inline_counter_laws.specs.Even.{is_even_process}
use Rattle.scc_inline_laws.specs.Orderly.{IsOrderlyFunction, IsOrderlyLocal}
use Rattle.scc_inline_laws.specs.OrderlyDesign.{IsOrderly, IsOrderlyProcess}
use Rattle.scc_inline_laws.specs.WorkedProcess.{process}
use Rattle.scc_inline_process_laws.specs.Whole.{copied_as_process}
use Rattle.scc_inline_laws.proofs.Elements.{Each}
use Rattle.scc_inline_laws.proofs.All.{inlined-same}
use Rattle.scc_inline_laws.proofs.Plain.{plain-keeps}
use Rattle.scc_inline_laws.proofs.Found.{test}

local-orderly : (n : ℕ) (m : Member) → slice_get pick.locals n ≡ Some m → IsOrderlyLocal m
local-orderly zero m e = let z : member 21 (Number int) ≡ m = cc in subst IsOrderlyLocal z (record { number = λ z. (int, refl); small = tt })
local-orderly (suc n) m e = cc

function-orderly : (f : ℕ) (g : Function) → slice_get program.functions f ≡ Some g → IsOrderlyFunction program g
function-orderly zero g e = let z : method ≡ g = cc in subst (IsOrderlyFunction program) z (record {
  locals = λ n m e. cc;
  body = (pick, (refl, refl), tt, (tt, (member 21 (Number int), refl, refl, refl), tt), (pick, (refl, refl), tt, (tt, (member 21 (Number int), refl, refl, refl), tt), ((tt, refl), tt, ((1, pick, int, (refl, refl), refl), (1, pick, int, (refl, refl), refl)), tt)));
})
function-orderly (suc zero) g e = let z : pick ≡ g = cc in subst (IsOrderlyFunction program) z (record { locals = local-orderly; body = (((member 21 (Number int), refl), int, refl), tt) })
function-orderly (suc (suc n)) g e = cc

process-orderly : (i : ℕ) (q : design.Process) → slice_get made.processes i ≡ Some q → IsOrderlyProcess program made i q
process-orderly zero q e = let z : process ≡ q = cc in subst (IsOrderlyProcess program made 0) z (record {
  function = method;
  stands = refl;
  silent = refl;
  functions = λ cs f g c e. function-orderly f g e;
  senses = tt;
  edge = tt;
  reset = tt;
})
process-orderly (suc n) q e = cc

no-pointer : (i : ℕ) (o : Object) → slice_get made.objects i ≡ Some o → is_pointer program made o.node ≡ true → ⊥
no-pointer zero o e z = absurd (let w = ap (λ o. option_and_then (λ o. Some (is_pointer program made o.node)) o) e in cc)
no-pointer (suc zero) o e z = absurd (let w = ap (λ o. option_and_then (λ o. Some (is_pointer program made o.node)) o) e in cc)
no-pointer (suc (suc n)) o e z = cc

one : (i j : ℕ) (q r : design.Process) → slice_get made.processes i ≡ Some q → slice_get made.processes j ≡ Some r → i ≡ j
one zero zero q r e f = refl
one zero (suc n) q r e f = cc
one (suc n) j q r e f = cc

arrays : (i : ℕ) (q : design.Process) → slice_get made.processes i ≡ Some q → is_even_process program made i q ≡ true
arrays zero q e = let z : process ≡ q = cc in subst (λ q. is_even_process program made 0 q ≡ true) z refl
arrays (suc n) q e = cc

pub worked-orderly : IsOrderly program made
worked-orderly = record {
  processes = process-orderly;
  names = λ i j q r e f z. one i j q r e f;
  pointers = λ i j o u e f z w v. absurd (no-pointer i o e z);
  arrays = arrays;
  targets = λ n r o e z. absurd (no-pointer n o e (ap (is_pointer program made) z));
}

none-fixed : (t : prog.Cell → Bool) (xs : Cells) → Each (λ c. fixed_word c.sort ≡ None) xs → option_and_then (λ c. fixed_word c.sort) (find t xs) ≡ None
none-fixed t [] x = refl
none-fixed t (c ∷ xs) x = by (t c) (none-fixed t xs x.1)
  where
    by : (b : Bool) → option_and_then (λ c. fixed_word c.sort) (find t xs) ≡ None → option_and_then (λ c. fixed_word c.sort) (if b then Some c else find t xs) ≡ None
    by true ih = x.0
    by false ih = ih

module _ (constant : Location → Option ℕ) where
  process-plain : (i : ℕ) (p : Process) → slice_get (source_of (home_of program made) (copied_program program made) constant).processes i ≡ Some p → plain_body p.body ≡ true
  process-plain zero p e = let z : copied_as_process program made constant 0 process ≡ p = cc in subst (λ p. plain_body p.body ≡ true) z refl
  process-plain (suc n) p e = cc

  pub worked-same : SameDesign 1 (design_of program made constant) (source_of (home_of program made) (copied_program program made) constant)
  worked-same = inlined-same program made (copied_program program made) constant worked-orderly refl
      (plain-keeps (source_of (home_of program made) (copied_program program made) constant) process-plain (λ l. none-fixed (test program made false l) (copied_program program made).cells (refl, (refl, (refl, (refl, (refl, tt)))))))
