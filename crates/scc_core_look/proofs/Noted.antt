-- Paths that are noted one after another, each where it wasn't before, differ.
use Rattle.std.proofs.Common.{◌≡◌, refl, arith, ℕ, suc, ◌+◌, ◌<◌, Bool, true, false, not, ◌&&◌, nat_eq, List, [], ◌∷◌, ◌++◌, map, take, get_or, length, add-one, Option, Some, None, is_some, option_and_then, slice_get, ap, ◌∙◌, sym, subst}
use Rattle.std.specs.List.{list_all}
use Rattle.std.proofs.Math.Seq.{take-suc}
use Rattle.scc_base.specs.declared.names.Name.{Name}
use Rattle.scc_base.specs.declared.path.PathPart.{PathPart}
use Rattle.scc_base.specs.declared.path.PathPart.TheVariants as path_part
use Rattle.scc_core.specs.declared.places.NameStep.{NameStep}
use Rattle.scc_core.specs.declared.places.NameStep.TheVariants as step
use Rattle.scc_core.specs.declared.places.Places.{Places}
use Rattle.scc_core.specs.declared.program.CoreProcess.{CoreProcess}
use Rattle.scc_core.specs.Names.{of_path, same_step, size_at, step_of, walk}
use Rattle.scc_core.specs.Tables.{AddsVector, IsTree, or_else, same_list, size_in, under, when}
use Rattle.scc_core_spec.specs.IsResolved.{processes_apart}
use Rattle.scc_core_spec.specs.Program as program
use Rattle.scc_core_view.specs.Programs.{path_of, process_of}
use Rattle.scc_core_view.specs.Terms.{part_of}
use Rattle.scc_semantics.specs.Location.{same_part, same_path}
use Rattle.scc_core_look.proofs.Apart.{both, first, second, known_path}

-- noted in a table
abbrev noted : Places → List PathPart → Bool
noted p path = is_some (under size_in p (map step_of path))

abbrev path_in : CoreProcess → List PathPart
path_in q = q.name.path

pub noted-is : (p : Places) (path : List PathPart) → is_some (option_and_then (size_at p) (walk p (record { 0 = 0 }) (of_path path))) ≡ noted p path
noted-is p path = ap (λ ss. is_some (option_and_then (size_at p) (walk p (record { 0 = 0 }) ss))) (sym (known_path path))

-- the same paths
number-is : (m n : ℕ) → nat_eq m n ≡ true → m ≡ n
number-is m n e = grind (arith, e)

path-is : (a b : List PathPart) → same_path (path_of a) (path_of b) ≡ true → a ≡ b
path-is [] [] e = refl
path-is [] (y ∷ b) e = absurd cc
path-is (x ∷ a) [] e = absurd cc
path-is (x ∷ a) (y ∷ b) e = λ i. part-is x y (first (same_part (part_of x) (part_of y)) (same_path (path_of a) (path_of b)) e) i ∷ path-is a b (second (same_part (part_of x) (part_of y)) (same_path (path_of a) (path_of b)) e) i
  where
    part-is : (x y : PathPart) → same_part (part_of x) (part_of y) ≡ true → x ≡ y
    part-is (path_part.Member m) (path_part.Member n) e = ap (λ k. path_part.Member (record { 0 = k })) (number-is m.0 n.0 e)
    part-is (path_part.Index m) (path_part.Index n) e = ap path_part.Index (number-is m n e)
    part-is (path_part.Member m) (path_part.Index n) e = absurd cc
    part-is (path_part.Index m) (path_part.Member n) e = absurd cc

step-self : (s : NameStep) → same_step s s ≡ true
step-self (step.Member n) = grind arith
step-self (step.Index n) = grind arith
step-self (step.Local n) = grind arith

list-self : (ss : List NameStep) → same_list ss ss ≡ true
list-self [] = refl
list-self (s ∷ ss) = both (same_step s s) (same_list ss ss) (step-self s) (list-self ss)

module _ (p q : Places) (path : List PathPart) (n : ℕ) (a : AddsVector p q (map step_of path) n) where
  -- what was noted stays so, and the path is
  stays : (other : List PathPart) → noted p other ≡ true → noted q other ≡ true
  stays other e = ap is_some (a.sizes (map step_of other)) ∙ by (under size_in p (map step_of other)) e
    where
      by : (o : Option ℕ) → is_some o ≡ true → is_some (or_else o (when (same_list (map step_of other) (map step_of path)) n)) ≡ true
      by None e = absurd cc
      by (Some m) e = refl

  now : noted q path ≡ true
  now = ap is_some (a.sizes (map step_of path)) ∙ (ap (λ b. is_some (or_else (under size_in p (map step_of path)) (when b n))) (list-self (map step_of path)) ∙ by (under size_in p (map step_of path)))
    where
      by : (o : Option ℕ) → is_some (or_else o (Some n)) ≡ true
      by None = refl
      by (Some m) = refl

  all-stay : (qs : List CoreProcess) → list_all (λ q. noted p (path_in q)) qs ≡ true → list_all (λ r. noted q (path_in r)) qs ≡ true
  all-stay [] e = refl
  all-stay (r ∷ qs) e = both (noted q (path_in r)) (list_all (λ r. noted q (path_in r)) qs) (stays (path_in r) (first (noted p (path_in r)) (list_all (λ q. noted p (path_in q)) qs) e)) (all-stay qs (second (noted p (path_in r)) (list_all (λ q. noted p (path_in q)) qs) e))

  all-more : (qs : List CoreProcess) (x : CoreProcess) → path_in x ≡ path → list_all (λ q. noted p (path_in q)) qs ≡ true → list_all (λ r. noted q (path_in r)) (qs ++ x ∷ []) ≡ true
  all-more [] x is e = both (noted q (path_in x)) true (ap (noted q) is ∙ now) refl
  all-more (r ∷ qs) x is e = both (noted q (path_in r)) (list_all (λ r. noted q (path_in r)) (qs ++ x ∷ [])) (stays (path_in r) (first (noted p (path_in r)) (list_all (λ q. noted p (path_in q)) qs) e)) (all-more qs x is (second (noted p (path_in r)) (list_all (λ q. noted p (path_in q)) qs) e))

-- one that wasn't noted differs from those that were
differs : (p : Places) (y x : CoreProcess) → noted p (path_in y) ≡ true → noted p (path_in x) ≡ false → not (same_path (process_of y).name.path (process_of x).name.path) ≡ true
differs p y x e f = by (same_path (path_of (path_in y)) (path_of (path_in x))) refl
  where
    by : (b : Bool) → same_path (path_of (path_in y)) (path_of (path_in x)) ≡ b → not b ≡ true
    by false g = refl
    by true g = absurd (let z : true ≡ false = sym e ∙ (ap (noted p) (path-is (path_in y) (path_in x) g) ∙ f) in cc)

apart-more : (p : Places) (qs : List CoreProcess) (x : CoreProcess) → list_all (λ q. noted p (path_in q)) qs ≡ true → noted p (path_in x) ≡ false → processes_apart (map process_of qs) ≡ true → processes_apart (map process_of (qs ++ x ∷ [])) ≡ true
apart-more p [] x e f g = refl
apart-more p (y ∷ qs) x e f g =
    both (list_all (λ (r : program.Process). not (same_path (process_of y).name.path r.name.path)) (map process_of (qs ++ x ∷ []))) (processes_apart (map process_of (qs ++ x ∷ [])))
    (others qs (first (list_all (λ (r : program.Process). not (same_path (process_of y).name.path r.name.path)) (map process_of qs)) (processes_apart (map process_of qs)) g))
    (apart-more p qs x (second (noted p (path_in y)) (list_all (λ q. noted p (path_in q)) qs) e) f (second (list_all (λ (r : program.Process). not (same_path (process_of y).name.path r.name.path)) (map process_of qs)) (processes_apart (map process_of qs)) g))
  where
    others : (rs : List CoreProcess) → list_all (λ (r : program.Process). not (same_path (process_of y).name.path r.name.path)) (map process_of rs) ≡ true → list_all (λ (r : program.Process). not (same_path (process_of y).name.path r.name.path)) (map process_of (rs ++ x ∷ [])) ≡ true
    others [] h = both (not (same_path (process_of y).name.path (process_of x).name.path)) true (differs p y x (first (noted p (path_in y)) (list_all (λ q. noted p (path_in q)) qs) e) f) refl
    others (r ∷ rs) h = both (not (same_path (process_of y).name.path (process_of r).name.path)) (list_all (λ (r : program.Process). not (same_path (process_of y).name.path r.name.path)) (map process_of (rs ++ x ∷ [])))
        (first (not (same_path (process_of y).name.path (process_of r).name.path)) (list_all (λ (r : program.Process). not (same_path (process_of y).name.path r.name.path)) (map process_of rs)) h)
        (others rs (second (not (same_path (process_of y).name.path (process_of r).name.path)) (list_all (λ (r : program.Process). not (same_path (process_of y).name.path r.name.path)) (map process_of rs)) h))

-- what is kept by a walk along the processes
pub record IsNoted (p : Places) (qs : List CoreProcess) (differ : Bool) : Type 0 where
  pub tree : IsTree p
  pub all : list_all (λ q. noted p (path_in q)) qs ≡ true
  pub apart : differ ≡ true → processes_apart (map process_of qs) ≡ true

pub noted-on : (p q : Places) (qs : List CoreProcess) (i : ℕ) (x : CoreProcess) (path : List PathPart) (n : ℕ) → i < length qs → x ≡ get_or qs i x → path ≡ x.name.path → (differ seen now : Bool) → IsNoted p (take i qs) differ
    → seen ≡ is_some (option_and_then (size_at p) (walk p (record { 0 = 0 }) (of_path path))) → now ≡ (differ && not seen) → AddsVector p q (map step_of path) n → IsNoted q (take (i + 1) qs) now
noted-on p q qs i x path n h is there differ seen now k l m a = record {
  tree = a.tree;
  all = ap (list_all (λ r. noted q (path_in r))) next ∙ all-more p q path n a (take i qs) x (sym there) k.all;
  apart = λ t. let w : (differ && not seen) ≡ true = sym m ∙ t in
      ap (λ rs. processes_apart (map process_of rs)) next
      ∙ apart-more p (take i qs) x k.all (ap (noted p) (sym there) ∙ (sym (noted-is p path) ∙ (sym l ∙ unseen seen (second differ (not seen) w)))) (k.apart (first differ (not seen) w));
}
  where
    next : take (i + 1) qs ≡ take i qs ++ x ∷ []
    next = ap (λ n. take n qs) (add-one i) ∙ take-suc qs i x h ∙ ap (λ x. take i qs ++ x ∷ []) (sym is)

    unseen : (b : Bool) → not b ≡ true → b ≡ false
    unseen true e = absurd cc
    unseen false e = refl
