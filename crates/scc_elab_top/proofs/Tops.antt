-- From the class of the top on.
use Rattle.std.proofs.Common.{◌≡◌, refl, sym, ap, ◌∙◌, subst, ℕ, Bool, List, map, Option, Some, None, option_map, slice_get, Result, Ok, Err}
use Rattle.std.specs.Prelude.{option_and_then}
use Rattle.std.proofs.lemmas.Option.{slice_get-map}
use Rattle.scc_base.specs.declared.refusal.Refusal.{Refusal}
use Rattle.scc_base.specs.declared.refusal.Stop.{Stop}
use Rattle.scc_base.specs.declared.refusal.Stop.TheVariants as stop
use Rattle.scc_elab_design.specs.declared.Design.{Design as Left}
use Rattle.scc_elab_checks.specs.Open.{Tells}
use Rattle.scc_elab_spec.specs.Program.{Class, Plain}
use Rattle.scc_elab_spec.specs.Elaborated.{bad_top, elaborated, run_top}
use Rattle.scc_plain_tree.specs.declared.program.PlainClass.{PlainClass}
use Rattle.scc_plain_tree.specs.declared.program.Plain.{Plain as Tree}
use Rattle.scc_plain_view.specs.Plains.{class_of, plain_of}
use Rattle.scc_elab_top.specs.Elaborates.{Comes}

top_is : (p : Plain) (cs : List PlainClass) (n : ℕ) (c : PlainClass) → slice_get cs n ≡ Some c → option_and_then (bad_top p) (slice_get (map class_of cs) n) ≡ bad_top p (class_of c)
top_is p cs n c e = ap (option_and_then (bad_top p)) (slice_get-map class_of cs n ∙ ap (option_map class_of) e)

pub top_goes : (many : Bool) (p : Plain) (cs : List PlainClass) (n : ℕ) (c : PlainClass) (r : Result Left Stop) → slice_get cs n ≡ Some c → option_and_then (bad_top p) (slice_get (map class_of cs) n) ≡ None
    → Comes (Some (run_top many p (class_of c) None)) r → Comes (Some (run_top many p (class_of c) (bad_top p (class_of c)))) r
top_goes many p cs n c r e h w = subst (λ o. Comes (Some (run_top many p (class_of c) o)) r) (sym h ∙ top_is p cs n c e) w

pub top_stops : (many : Bool) (p : Plain) (cs : List PlainClass) (n : ℕ) (c : PlainClass) (z : Stop) → slice_get cs n ≡ Some c → Tells {A = Unit {0}} (option_and_then (bad_top p) (slice_get (map class_of cs) n)) (Err z)
    → Comes (Some (run_top many p (class_of c) (bad_top p (class_of c)))) (Err z)
top_stops many p cs n c (stop.Refused r) e h = ap (λ o. Some (run_top many p (class_of c) o)) (sym (top_is p cs n c e) ∙ h)
top_stops many p cs n c stop.NoMemory e h = tt

pub elaborated_is : (many : Bool) (t : Tree) (c : PlainClass) (r : Result Left Stop) → slice_get t.classes t.top ≡ Some c → Comes (Some (run_top many (plain_of t) (class_of c) (bad_top (plain_of t) (class_of c)))) r → Comes (elaborated many (plain_of t)) r
elaborated_is many t c r e h = subst (λ o. Comes o r) (sym (ap (option_map (λ c. run_top many (plain_of t) c (bad_top (plain_of t) c))) (slice_get-map class_of t.classes t.top ∙ ap (option_map class_of) e))) h
