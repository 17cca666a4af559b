-- Parameters are the first locals.
use Rattle.std.proofs.Common.{◌≡◌, ℕ, zero, suc, ◌-◌, ◌≢◌, Bool, true, false, not, ◌&&◌, List, [], ◌∷◌, Option, Some, None, option_map, option_and_then, slice_get, unwrap_or, map, ap, if◌then◌else◌, refl, ◌∙◌, arith}
use Rattle.scc_base.specs.declared.refusal.Place.{Place}
use Rattle.std.proofs.lemmas.Option.{slice_get-map}
use Rattle.scc_base.specs.declared.refusal.Refusal.{Refusal}
use Rattle.scc_base.specs.declared.code.Code.TheVariants as reason
use Rattle.scc_core_spec.specs.First.{refused}
use Rattle.scc_plain_tree.specs.declared.program.Plain.{Plain as Tree}
use Rattle.scc_plain_tree.specs.declared.program.PlainClass.{PlainClass}
use Rattle.scc_plain_tree.specs.declared.program.PlainFunction.{PlainFunction}
use Rattle.scc_plain_view.specs.Plains.{plain_of, class_of, function_of, member_of}
use Rattle.scc_elab_spec.specs.Program.{Function, Member}
use Rattle.scc_elab_spec.specs.Made.{is_name, nowhere}
use Rattle.scc_elab_spec.specs.Elaborated.{other_param, bad_top}

pub no_locals : (n : ℕ) (named : Bool) → other_param n named [] ≡ None
no_locals zero named = refl
no_locals (suc n) named = refl

pub one_param : (m : Member) (ms : List Member) → is_name m.shape.base ≡ true → other_param 1 false (m ∷ ms) ≡ None
one_param m ms f = λ i. if f i && true then None else Some m.place

pub one_local : (n : ℕ) (m : Member) → is_name m.shape.base ≡ true → other_param n false (m ∷ []) ≡ None
one_local zero m f = refl
one_local (suc n) m f = (λ i. if f i && true then other_param n true [] else Some m.place) ∙ no_locals n true

pub second : (n : ℕ) (m k : Member) (ms : List Member) → n ≢ 0 → n ≢ 1 → is_name m.shape.base ≡ true → other_param n false (m ∷ k ∷ ms) ≡ Some k.place
second zero m k ms a b f = absurd (omega arith)
second (suc zero) m k ms a b f = absurd (omega arith)
second (suc (suc n)) m k ms a b f = (λ i. if f i && true then (if is_name k.shape.base && false then other_param n true ms else Some k.place) else Some m.place) ∙ by (is_name k.shape.base)
  where
    by : (c : Bool) → (if c && false then other_param n true ms else Some k.place) ≡ Some k.place
    by true = refl
    by false = refl

pub other_first : (n : ℕ) (m : Member) (ms : List Member) → n ≢ 0 → is_name m.shape.base ≡ false → other_param n false (m ∷ ms) ≡ Some m.place
other_first zero m ms a f = absurd (omega arith)
other_first (suc n) m ms a f = λ i. if f i && true then other_param n true ms else Some m.place

-- what the top's constructor has among its parameters
pub top_says : (t : Tree) (k : PlainClass) (f : PlainFunction) (number : ℕ) → slice_get t.classes t.top ≡ Some k → k.constructor ≡ Some number → slice_get t.functions number ≡ Some f
    → option_and_then (bad_top (plain_of t)) (slice_get (plain_of t).classes t.top) ≡ option_map (refused reason.Constructor) (other_param f.params false (map member_of f.locals))
top_says t k f number a b d = ap (option_and_then (bad_top (plain_of t))) (slice_get-map class_of t.classes t.top ∙ ap (option_map class_of) a) ∙ ap of (ap (option_and_then (slice_get (plain_of t).functions)) b ∙ slice_get-map function_of t.functions number ∙ ap (option_map function_of) d)
  where
    of : Option Function → Option Refusal
    of o = option_map (refused reason.Constructor) (other_param (unwrap_or o nowhere).params false (unwrap_or o nowhere).locals)
