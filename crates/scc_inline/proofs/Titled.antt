-- Processes without their bodies are those of the definition.
use Rattle.std.proofs.Common.{Result, Ok, Err, ◌≡◌, refl, sym, ap, ◌∙◌, arith, ℕ, zero, suc, ◌+◌, List, [], ◌∷◌, ◌++◌, map, drop, Option, Some, option_map, slice_get, unwrap_or, append_assoc}
use Rattle.std.proofs.lemmas.Option.{slice_get-map}
use Rattle.scc_base.specs.declared.path.PathPart.{PathPart}
use Rattle.scc_base.specs.declared.path.PathPart.TheVariants as path_part
use Rattle.scc_semantics.specs.Location as location
use Rattle.scc_semantics.specs.Location.{Part}
use Rattle.scc_core_view.specs.Terms.{part_of as core_part}
use Rattle.scc_plain_tree.specs.declared.program.Plain.{Plain as Tree}
use Rattle.scc_plain_tree.specs.declared.program.PlainFunction.{PlainFunction}
use Rattle.scc_elab_design.specs.declared.Design.{Design as Left}
use Rattle.scc_elab_design.specs.declared.Object.{Object as Standing}
use Rattle.scc_elab_design.specs.declared.Process.{Process as Running}
use Rattle.scc_elab_spec.specs.Program.{Function}
use Rattle.std.specs.Prelude.{IfOk}
use Rattle.scc_elab_spec.specs.Design.{Design, Object}
use Rattle.scc_elab_spec.specs.Cells.{cell_number}
use Rattle.scc_inline_cells.specs.Listed.{counted}
use Rattle.scc_inline_cells.proofs.Numbers.{number_is}
use Rattle.scc_plain_view.specs.Designs.{design_of, object_of, process_of, part_of}
use Rattle.scc_plain_view.specs.Plains.{plain_of, function_of}
use Rattle.scc_inline_cells.proofs.Views.{path_is}
use Rattle.scc_inline_spec.specs.Inlined.{process_path}

pub drop_at : {A : Type 0} (xs : List A) (i : ℕ) (x : A) → slice_get xs i ≡ Some x → drop i xs ≡ x ∷ drop (suc i) xs
drop_at [] i x e = cc
drop_at (y ∷ ys) zero x e = let same : y ≡ x = cc in ap (λ z. z ∷ ys) same
drop_at (y ∷ ys) (suc i) x e = drop_at ys i x e

pub senses_next : (f : ℕ → ℕ) (made new senses : List ℕ) (n root x : ℕ) → made ++ map f (drop n senses) ≡ map f senses → slice_get senses n ≡ Some root → x ≡ f root → new ≡ made ++ x ∷ []
    → new ++ map f (drop (n + 1) senses) ≡ map f senses
senses_next f made new senses n root x inv there is added =
    let k : n + 1 ≡ suc n = omega arith in
    let rest = map f (drop (suc n) senses) in
    ap (λ i. new ++ map f (drop i senses)) k ∙ ap (λ z. z ++ rest) (added ∙ ap (λ z. made ++ z ∷ []) is) ∙ append_assoc made (f root ∷ []) rest
    ∙ ap (λ z. made ++ map f z) (sym (drop_at senses n root there)) ∙ inv

pub map_both : {A B : Type 0} (f : A → B) (xs ys : List A) → map f (xs ++ ys) ≡ map f xs ++ map f ys
map_both f [] ys = refl
map_both f (x ∷ xs) ys = ap (λ zs. f x ∷ zs) (map_both f xs ys)

pub name_is : (p : Tree) (d : Left) (process : Running) (function : PlainFunction) (object : Standing) (path : List PathPart)
    → slice_get p.functions process.function ≡ Some function → slice_get d.objects process.object ≡ Some object → path ≡ object.path ++ path_part.Member function.name ∷ []
    → map core_part path ≡ process_path (plain_of p) (design_of d) (process_of process)
name_is p d process function object path f o e =
    path_is path ∙ ap (map part_of) e ∙ map_both part_of object.path (path_part.Member function.name ∷ [])
    ∙ sym (λ i. unwrap_or (option_map (λ (o : Object). o.path) ((slice_get-map object_of d.objects process.object ∙ ap (option_map object_of) o) i)) []
    ++ location.Member (unwrap_or (option_map (λ (f : Function). f.name) ((slice_get-map function_of p.functions process.function ∙ ap (option_map function_of) f) i)) 0) ∷ [])

pub if_ok : {A X : Type 0} (r : Result A X) (P Q : A → Type 0) → ((a : A) → P a → Q a) → IfOk r P → IfOk r Q
if_ok (Ok a) P Q f h = f a h
if_ok (Err e) P Q f h = tt

pub cell_ok : {X : Type 0} (r : Result ℕ X) (d : Design) (of : List (Option ℕ)) (n : ℕ) (o : Option ℕ) → of ≡ counted 0 d.objects → slice_get of n ≡ Some o → IfOk r (λ c. o ≡ Some c) → IfOk r (λ c. c ≡ cell_number d n)
cell_ok r d of n o e g = if_ok r (λ c. o ≡ Some c) (λ c. c ≡ cell_number d n) (λ c h. number_is d of n c e (g ∙ ap Some h))
