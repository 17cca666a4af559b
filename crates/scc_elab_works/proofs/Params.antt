-- Parameters take their arguments in the store alone.
use Rattle.std.proofs.Common.{◌≡◌, refl, sym, ap, ◌∙◌, subst, ℕ, zero, suc, ◌+◌, Bool, true, false, not, ◌&&◌, length, List, [], ◌∷◌, map, Option, Some, None, OnOk, Result, Ok, Err, is_some, if◌then◌else◌}
use Rattle.std.specs.Borrow.{Bor}
use Rattle.scc_base.specs.declared.refusal.Stop.{Stop}
use Rattle.scc_plain_tree.specs.declared.program.PlainFunction.{PlainFunction}
use Rattle.scc_semantics.specs.Store.{Store}
use Rattle.scc_core_spec.specs.Resolved.{Tried}
use Rattle.scc_elab_spec.specs.Term.{Argument}
use Rattle.scc_elab_spec.specs.Program.{Member, Plain}
use Rattle.scc_elab_spec.specs.Grown.{Grown, nothing, with_store, with_word, with_target, local_of}
use Rattle.scc_elab_spec.specs.Types.{is_direct}
use Rattle.scc_elab_spec.specs.Worth.{Given, Word, Place_given, given, is_inside, direct_kind}
use Rattle.scc_elab_spec.specs.Made.{is_name, param_given, params_given}
use Rattle.scc_elab_store.specs.declared.locations.Part.{Part}
use Rattle.scc_elab_store.specs.Locations.{part_of}
use Rattle.scc_elab_worth.specs.declared.args.Given.{Given as Held}
use Rattle.scc_elab_worth.specs.Arguments.{IsGiven}
use Rattle.scc_elab_works.specs.Works.{function_there}

param_whole : (object n : ℕ) (m : Member) (x : Given) (g h : Grown) → param_given (with_store g h.store) object n m x ≡ with_store g (param_given h object n m x).store
param_whole object n m (Word w) g h = by (is_inside m.shape.sizes [] && is_some (direct_kind m))
  where
    by : (b : Bool) → (if b then with_word (with_store g h.store) (local_of object n []) w else with_store g h.store) ≡ with_store g (if b then with_word h (local_of object n []) w else h).store
    by true = refl
    by false = refl
param_whole object n m (Place_given t) g h = by (is_inside m.shape.sizes [] && not (is_direct m.shape.reach))
  where
    by : (b : Bool) → (if b then with_target (with_store g h.store) (local_of object n []) t else with_store g h.store) ≡ with_store g (if b then with_target h (local_of object n []) t else h).store
    by true = refl
    by false = refl

all_whole : (object n left : ℕ) (ms : List Member) (xs : List Given) (g h : Grown) → params_given object n left ms xs (with_store g h.store) ≡ with_store g (params_given object n left ms xs h).store
all_whole object n zero ms xs g h = refl
all_whole object n (suc left) [] xs g h = refl
all_whole object n (suc left) (m ∷ ms) [] g h = refl
all_whole object n (suc left) (m ∷ ms) (x ∷ xs) g h = by (is_name m.shape.base)
    (all_whole object (n + 1) left ms (x ∷ xs) g h)
    (ap (params_given object (n + 1) left ms xs) (param_whole object n m x g h) ∙ all_whole object (n + 1) left ms xs g (param_given h object n m x))
  where
    by : (b : Bool) → params_given object (n + 1) left ms (x ∷ xs) (with_store g h.store) ≡ with_store g (params_given object (n + 1) left ms (x ∷ xs) h).store
        → params_given object (n + 1) left ms xs (param_given (with_store g h.store) object n m x) ≡ with_store g (params_given object (n + 1) left ms xs (param_given h object n m x)).store
        → (if b then params_given object (n + 1) left ms (x ∷ xs) (with_store g h.store) else params_given object (n + 1) left ms xs (param_given (with_store g h.store) object n m x))
        ≡ with_store g (if b then params_given object (n + 1) left ms (x ∷ xs) h else params_given object (n + 1) left ms xs (param_given h object n m x)).store
    by true e f = e
    by false e f = f

pub params_whole : {A E : Type 0} (r : Result A E) (object params : ℕ) (ms : List Member) (xs : List Given) (g : Grown) (new : Store) → OnOk r (with_store nothing new ≡ params_given object 0 params ms xs (with_store nothing g.store))
    → OnOk r (with_store g new ≡ params_given object 0 params ms xs g)
params_whole (Ok a) object params ms xs g new e = ap (λ h. with_store g h.store) e ∙ sym (all_whole object 0 params ms xs g (with_store nothing g.store))
params_whole (Err a) object params ms xs g new e = tt

pub map_length : {A B : Type 0} (f : A → B) (xs : List A) → length (map f xs) ≡ length xs
map_length f [] = refl
map_length f (x ∷ xs) = ap suc (map_length f xs)
