-- What stands first in lists stays, and the headings of processes in order.
use Rattle.std.proofs.Common.{◌≡◌, refl, sym, ap, subst, ◌∙◌, arith, ℕ, suc, ◌+◌, List, [], ◌∷◌, ◌++◌, map, drop, take, length, Option, Some, option_map, slice_get, unwrap_or, append_assoc}
use Rattle.std.proofs.lemmas.Option.{slice_get-map}
use Rattle.scc_core.specs.declared.program.Cell.{Cell}
use Rattle.scc_core.specs.declared.program.CoreProcess.{CoreProcess}
use Rattle.scc_core.specs.declared.program.VectorSize2.{VectorSize2}
use Rattle.scc_core_spec.specs.Program.{Process}
use Rattle.scc_core_view.specs.Programs.{cell_of, vector_of, process_of as core_process}
use Rattle.scc_elab_design.specs.declared.Design.{Design as Left}
use Rattle.scc_inline_cells.specs.declared.cells.ObjectCells.{ObjectCells}
use Rattle.scc_inline_cells.specs.Listed.{AreCells, counted}
use Rattle.scc_plain_view.specs.Designs.{design_of}
use Rattle.scc_inline_spec.specs.Inlined.{core_vectors}
use Rattle.scc_inline.specs.declared.scope.Growing.{Growing}
use Rattle.scc_elab_design.specs.declared.Process.{Process as Running}
use Rattle.scc_elab_spec.specs.Design.{Design}
use Rattle.scc_elab_spec.specs.Program.{Plain}
use Rattle.scc_plain_tree.specs.declared.program.Plain.{Plain as Tree}
use Rattle.scc_plain_tree.specs.declared.program.PlainClass.{PlainClass}
use Rattle.scc_plain_view.specs.Designs.{process_of}
use Rattle.scc_plain_view.specs.Plains.{plain_of, class_of}
use Rattle.scc_inline_spec.specs.Inlined.{copied_from, copied_process}
use Rattle.scc_inline.specs.Headings.{without_body}
use Rattle.scc_inline.specs.Begun.{IsBegun, IsHeading, Keeps, are_headings, copied_headings, heading_of, top_in}
use Rattle.scc_inline.proofs.Titled.{drop_at, map_both}

pub first_stays : {A : Type 0} (front cells more : List A) → take (length front) cells ≡ front → take (length front) (cells ++ more) ≡ front
first_stays [] cells more e = refl
first_stays (f ∷ fs) [] more e = cc
first_stays (f ∷ fs) (c ∷ cs) more e =
    let head : c ≡ f = cc in
    let tail : take (length fs) cs ≡ fs = cc in
    (λ i. head i ∷ first_stays fs cs more tail i)

pub first_mapped : {A B : Type 0} (f : A → B) (front cells : List A) → take (length front) cells ≡ front → take (length (map f front)) (map f cells) ≡ map f front
first_mapped f [] cells e = refl
first_mapped f (x ∷ xs) [] e = cc
first_mapped f (x ∷ xs) (c ∷ cs) e =
    let head : c ≡ x = cc in
    let tail : take (length xs) cs ≡ xs = cc in
    (λ i. f (head i) ∷ first_mapped f xs cs tail i)

pub take_whole : {A : Type 0} (xs : List A) → take (length xs) xs ≡ xs
take_whole [] = refl
take_whole (x ∷ xs) = ap (λ ys. x ∷ ys) (take_whole xs)

module _ (p : Plain) (d : Design) where
  abbrev pub from : ℕ → List Running → List Process
  from n ps = map without_body (copied_from p d n (map process_of ps))

  pub heading_next : (made new : List CoreProcess) (q : CoreProcess) (total : List Process) (ps : List Running) (n : ℕ) (x : Running) → slice_get ps n ≡ Some x
      → IsHeading p d (process_of x) q → new ≡ made ++ q ∷ [] → are_headings made ++ from n (drop n ps) ≡ total → are_headings new ++ from (n + 1) (drop (n + 1) ps) ≡ total
  heading_next made new q total ps n x there is added inv =
      let k : n + 1 ≡ suc n = omega arith in
      let rest = from (suc n) (drop (suc n) ps) in
      ap (λ i. are_headings new ++ from i (drop i ps)) k
      ∙ ap (λ z. z ++ rest) (ap are_headings added ∙ map_both heading_of made (q ∷ []) ∙ ap (λ z. are_headings made ++ z ∷ []) (is n))
      ∙ append_assoc (are_headings made) (without_body (copied_process p d n (process_of x)) ∷ []) rest
      ∙ ap (λ z. are_headings made ++ from n z) (sym (drop_at ps n x there)) ∙ inv

  nil_right : {A : Type 0} (xs : List A) → xs ++ [] ≡ xs
  nil_right [] = refl
  nil_right (x ∷ xs) = ap (λ ys. x ∷ ys) (nil_right xs)

  drop_whole : {A : Type 0} (xs : List A) → drop (length xs) xs ≡ []
  drop_whole [] = refl
  drop_whole (x ∷ xs) = drop_whole xs

  pub heading_end : (made : List CoreProcess) (total : List Process) (ps : List Running) → are_headings made ++ from (length ps) (drop (length ps) ps) ≡ total → are_headings made ≡ total
  heading_end made total ps inv = sym (nil_right (are_headings made)) ∙ ap (λ z. are_headings made ++ from (length ps) z) (sym (drop_whole ps)) ∙ inv

pub top_is : (p : Tree) (k : PlainClass) → slice_get p.classes p.top ≡ Some k → k.name.0 ≡ top_in (plain_of p)
top_is p k e = sym (λ i. unwrap_or (option_map (λ c. c.name) ((slice_get-map class_of p.classes p.top ∙ ap (option_map class_of) e) i)) 0)

map_twice : {A B C : Type 0} (g : B → C) (f : A → B) (xs : List A) → map g (map f xs) ≡ map (λ x. g (f x)) xs
map_twice g f [] = refl
map_twice g f (x ∷ xs) = ap (λ ys. g (f x) ∷ ys) (map_twice g f xs)

pub begun_is : (p : Tree) (d : Left) (r : ObjectCells) (of : List (Option ℕ)) (top : ℕ) (vs : List VectorSize2) (old new : Growing) (all : List Cell) (qs : List CoreProcess) → all ≡ new.cells → AreCells (plain_of p) (design_of d) r → of ≡ r.of
    → top ≡ top_in (plain_of p) → map vector_of vs ≡ core_vectors (design_of d) → old.cells ≡ r.cells → Keeps old new
    → (of ≡ counted 0 (design_of d).objects → are_headings qs ≡ copied_headings (plain_of p) (design_of d))
    → IsBegun (plain_of p) (design_of d) (record { top = top; cells = map cell_of all; vectors = map vector_of vs; processes = map core_process qs })
begun_is p d r of top vs old new all qs every are same t v began keeps headings = record {
  top = t;
  vectors = v;
  cells = subst (λ cs. take (length cs) (map cell_of all) ≡ cs) are.cells (first_mapped cell_of r.cells all (ap (take (length r.cells)) every ∙ keeps r.cells (ap (take (length r.cells)) began ∙ take_whole r.cells)));
  headings = map_twice without_body core_process qs ∙ headings (same ∙ are.of);
}
