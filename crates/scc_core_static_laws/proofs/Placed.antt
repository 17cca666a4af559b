-- A table of names has under the steps of a name what is sought by the name.
use Rattle.std.proofs.Common.{◌≡◌, refl, sym, ap, subst, ◌∙◌, arith, ℕ, zero, suc, ◌+◌, ◌<◌, ◌≤◌, ◌^◌, Bool, true, false, not, ◌&&◌, nat_lt, if◌then◌else◌, List, [], ◌∷◌, ◌++◌, map, length, slice_get, Option, Some, None, option_map, option_and_then}
use Rattle.std.proofs.lemmas.Grind.{common_steps}
use Rattle.std.proofs.lemmas.Bool.Decides.{nat_tests}
use Rattle.scc_base.specs.declared.names.Name.{Name}
use Rattle.scc_base.specs.declared.path.PathPart.{PathPart}
use Rattle.scc_base.specs.declared.path.PathPart.TheVariants as path_part
use Rattle.scc_bits.specs.Value.{Number}
use Rattle.scc_core.specs.declared.places.NameStep.{NameStep}
use Rattle.scc_core.specs.declared.places.NameStep.TheVariants as step
use Rattle.scc_core.specs.declared.places.Places.{Places}
use Rattle.scc_core.specs.declared.places.Spot.{Spot}
use Rattle.scc_core.specs.declared.program.Cell.{Cell}
use Rattle.scc_core.specs.declared.program.CellName.{CellName}
use Rattle.scc_core.specs.declared.program.VectorSize2.{VectorSize2}
use Rattle.scc_core.specs.Elements.{Part, Member, Element, step_at}
use Rattle.scc_core.specs.Names.{are_rest, are_steps, behind, cell_at, first_place, is_pointer, leads, name_spot, numbered, of_indices, of_path, past_local, placed, same_step, sought, stands, step_of, walk}
use Rattle.scc_core.specs.Numbers.{small}
use Rattle.scc_core.specs.Tables.{IsTable, cell_in, first_cell, known, own_steps, same_list, steps_of, top, under}
use Rattle.scc_core_view.specs.Whole.{IsName}
use Rattle.scc_core_static_laws.proofs.Fronts.{name_is}

-- ---- walks along a table

walk_on : (p : Places) (at : Spot) (xs ys : List (Option NameStep)) → walk p at (xs ++ ys) ≡ option_and_then (λ to. walk p to ys) (walk p at xs)
walk_on p at [] ys = refl
walk_on p at (x ∷ xs) ys = by (option_and_then (leads p at) x) (λ to. walk_on p to xs ys)
  where
    by : (o : Option Spot) → ((to : Spot) → walk p to (xs ++ ys) ≡ option_and_then (λ to. walk p to ys) (walk p to xs))
        → option_and_then (λ to. walk p to (xs ++ ys)) o ≡ option_and_then (λ to. walk p to ys) (option_and_then (λ to. walk p to xs) o)
    by None h = refl
    by (Some to) h = h to

known_path : (path : List PathPart) → known (map step_of path) ≡ of_path path
known_path [] = refl
known_path (x ∷ path) = ap (λ l. Some (step_of x) ∷ l) (known_path path)

known_indices : (is : List ℕ) → known (map step.Index is) ≡ of_indices is
known_indices [] = refl
known_indices (i ∷ is) = ap (λ l. Some (step.Index i) ∷ l) (known_indices is)

known_on : (xs ys : List NameStep) → known (xs ++ ys) ≡ known xs ++ known ys
known_on [] ys = refl
known_on (x ∷ xs) ys = ap (λ l. Some x ∷ l) (known_on xs ys)

-- past a path stand a local and its indices
own_spot : (p : Places) (local : Option (ℕ × Name)) (is : List ℕ) → (local ≡ None → is ≡ []) → (at : Spot)
    → walk p at (known (own_steps local is)) ≡ option_and_then (λ at. walk p at (of_indices is)) (past_local p local at)
own_spot p None is h at = ap (λ is. walk p at (of_indices is)) (sym (h refl))
own_spot p (Some l) is h at = ap (λ ss. option_and_then (λ to. walk p to ss) (leads p at (step.Local l.0))) (known_indices is)

name_walk : (p : Places) (name : CellName) → IsName name → walk p top (known (steps_of name)) ≡ name_spot p name
name_walk p name h =
    ap (walk p top) (known_on (map step_of name.path) (own_steps name.local name.indices))
    ∙ walk_on p top (known (map step_of name.path)) (known (own_steps name.local name.indices))
    ∙ ap (λ ss. option_and_then (λ to. walk p to (known (own_steps name.local name.indices))) (walk p top ss)) (known_path name.path)
    ∙ by (walk p top (of_path name.path))
  where
    by : (o : Option Spot) → option_and_then (λ to. walk p to (known (own_steps name.local name.indices))) o ≡ option_and_then (λ at. walk p at (of_indices name.indices)) (option_and_then (past_local p name.local) o)
    by None = refl
    by (Some at) = own_spot p name.local name.indices h at

placed_under : (p : Places) (name : CellName) (q : List PathPart) → IsName name → placed p (of_path q) name ≡ under cell_in p (steps_of name ++ map step_of q)
unfolding placed
placed_under p name q h =
    ap (λ o. option_and_then (cell_at p) (option_and_then (λ at. walk p at (of_path q)) o)) (sym (name_walk p name h))
    ∙ ap (option_and_then (cell_at p)) (sym (walk_on p top (known (steps_of name)) (of_path q)))
    ∙ ap (λ ss. option_and_then (cell_at p) (walk p top (known (steps_of name) ++ ss))) (sym (known_path q))
    ∙ ap (λ ss. option_and_then (cell_at p) (walk p top ss)) (sym (known_on (steps_of name) (map step_of q)))

-- ---- the first cell of a name

first_is : (name : CellName) (q : List PathPart) (n : ℕ) (cells : List Cell)
    → first_cell false (steps_of name ++ map step_of q) n cells ≡ option_map (λ k. k + n) (first_place (stands (of_path q) name) cells)
first_is name q n [] = refl
first_is name q n (c ∷ cs) =
    ap (λ b. if not (is_pointer c.sort) && b then Some n else first_cell false (steps_of name ++ map step_of q) (n + 1) cs) (name_is name q c.name)
    ∙ by (stands (of_path q) name c) (first_place (stands (of_path q) name) cs) (first_is name q (n + 1) cs)
  where
    next : (o : Option ℕ) → option_map (λ k. k + (n + 1)) o ≡ option_map (λ k. k + n) (option_map suc o)
    next None = refl
    next (Some k) = let p : k + (n + 1) ≡ suc k + n = omega arith in ap Some p

    by : (b : Bool) (o : Option ℕ) → first_cell false (steps_of name ++ map step_of q) (n + 1) cs ≡ option_map (λ k. k + (n + 1)) o
        → (if b then Some n else first_cell false (steps_of name ++ map step_of q) (n + 1) cs) ≡ option_map (λ k. k + n) (if b then Some 0 else option_map suc o)
    by true o e = let p : n ≡ 0 + n = omega arith in ap Some p
    by false o e = e ∙ next o

same_place : (o : Option ℕ) → option_map (λ k. k + 0) o ≡ o
same_place None = refl
same_place (Some k) = let p : k + 0 ≡ k = omega arith in ap Some p

place_less : {A : Type 0} (p : A → Bool) (xs : List A) (n : ℕ) → first_place p xs ≡ Some n → n < length xs
place_less p [] n e = cc e
place_less p (x ∷ xs) n e = by (p x) (first_place p xs) (place_less p xs) e
  where
    by : (b : Bool) (o : Option ℕ) → ((m : ℕ) → o ≡ Some m → m < length xs) → (if b then Some 0 else option_map suc o) ≡ Some n → n < suc (length xs)
    by true o h e = let p : 0 ≡ n = cc e in omega arith
    by false None h e = cc e
    by false (Some m) h e = let p : suc m ≡ n = cc e in let l : m < length xs = h m refl in omega arith

sought_first : (ss : List (Option NameStep)) (name : CellName) (cells : List Cell) → length cells ≤ 2 ^ 32 → sought ss name cells ≡ first_place (stands ss name) cells
sought_first ss name cells h = by (first_place (stands ss name) cells) (place_less (stands ss name) cells)
  where
    test : (b : Bool) (n : ℕ) → b ≡ true → (if b then Some n else None) ≡ Some n
    test true n e = refl
    test false n e = cc e

    by : (o : Option ℕ) → ((n : ℕ) → o ≡ Some n → n < length cells) → option_and_then numbered o ≡ o
    by None g = refl
    by (Some n) g = let l : n < length cells = g n refl in test (nat_lt n 4294967296) n (grind (arith, common_steps))

module _ (p : Places) (cells : List Cell) (vectors : List VectorSize2) (t : IsTable p cells vectors) (count : length cells ≤ 2 ^ 32) (name : CellName) (n : IsName name) where
  told : (q : List PathPart) → placed p (of_path q) name ≡ sought (of_path q) name cells
  told q =
      placed_under p name q n
      ∙ t.cells_by (steps_of name ++ map step_of q)
      ∙ first_is name q 0 cells
      ∙ same_place (first_place (stands (of_path q) name) cells)
      ∙ sym (sought_first (of_path q) name cells count)

  -- steps of which one isn't known lead nowhere
  record IsOpen (ss : List (Option NameStep)) : Type 0 where
    walks : (at : Spot) → walk p at ss ≡ None
    fits : (r : List NameStep) → are_steps ss r ≡ false

  data Steps : List (Option NameStep) → Type 0 where
    all_known : (q : List PathPart) → Steps (of_path q)
    unknown : {ss : List (Option NameStep)} → IsOpen ss → Steps ss

  open_first : (ss : List (Option NameStep)) → IsOpen (None ∷ ss)
  open_first ss = record { walks = λ at. refl; fits = λ r. none r }
    where
      none : (r : List NameStep) → are_steps (None ∷ ss) r ≡ false
      none [] = refl
      none (x ∷ r) = refl

  open_next : (s : NameStep) (ss : List (Option NameStep)) → IsOpen ss → IsOpen (Some s ∷ ss)
  open_next s ss h = record { walks = λ at. walked (leads p at s); fits = λ r. fit r }
    where
      walked : (o : Option Spot) → option_and_then (λ to. walk p to ss) o ≡ None
      walked None = refl
      walked (Some to) = h.walks to

      none : (b : Bool) → (b && false) ≡ false
      none true = refl
      none false = refl

      fit : (r : List NameStep) → are_steps (Some s ∷ ss) r ≡ false
      fit [] = refl
      fit (x ∷ r) = ap (λ b. same_step s x && b) (h.fits r) ∙ none (same_step s x)

  steps_are : (first : Bool) (ps : List Part) → Steps (map (step_at first) ps)
  steps_are first [] = all_known []
  steps_are first (Member m ∷ ps) = by (map (step_at first) ps) (steps_are first ps)
    where
      by : (ss : List (Option NameStep)) → Steps ss → Steps (Some (step.Member m) ∷ ss)
      by ss (all_known q) = all_known (path_part.Member m ∷ q)
      by ss (unknown h) = unknown (open_next (step.Member m) ss h)
  steps_are true (Element size i ∷ ps) = by (map (step_at true) ps) (steps_are true ps)
    where
      by : (ss : List (Option NameStep)) → Steps ss → Steps (Some (step.Index 0) ∷ ss)
      by ss (all_known q) = all_known (path_part.Index 0 ∷ q)
      by ss (unknown h) = unknown (open_next (step.Index 0) ss h)
  steps_are false (Element size i ∷ ps) = by (option_and_then small i) (map (step_at false) ps) (steps_are false ps)
    where
      by : (o : Option ℕ) (ss : List (Option NameStep)) → Steps ss → Steps (option_map step.Index o ∷ ss)
      by None ss s = unknown (open_first ss)
      by (Some k) ss (all_known q) = all_known (path_part.Index k ∷ q)
      by (Some k) ss (unknown h) = unknown (open_next (step.Index k) ss h)

  steps_same : (ss : List (Option NameStep)) → Steps ss → placed p ss name ≡ sought ss name cells
  unfolding placed
  steps_same ss (all_known q) = told q
  steps_same ss (unknown h) = nowhere ∙ sym (ap (option_and_then numbered) (nothing cells))
    where
      walked : (o : Option Spot) → option_and_then (λ at. walk p at ss) o ≡ None
      walked None = refl
      walked (Some at) = h.walks at

      nowhere : placed p ss name ≡ None
      nowhere = ap (option_and_then (cell_at p)) (walked (name_spot p name))

      rest : (o : Option (List NameStep)) → are_rest ss o ≡ false
      rest None = refl
      rest (Some r) = h.fits r

      turned : (b : Bool) → (b && false) ≡ false
      turned true = refl
      turned false = refl

      nothing : (cells : List Cell) → first_place (stands ss name) cells ≡ None
      nothing [] = refl
      nothing (c ∷ cs) =
          ap (λ b. if not (is_pointer c.sort) && b then Some 0 else option_map suc (first_place (stands ss name) cs)) (rest (behind c.name name))
          ∙ ap (λ b. if b then Some 0 else option_map suc (first_place (stands ss name) cs)) (turned (not (is_pointer c.sort)))
          ∙ ap (option_map suc) (nothing cs)

  -- what parts lead to behind a name
  pub parts_placed : (first : Bool) (ps : List Part) → placed p (map (step_at first) ps) name ≡ sought (map (step_at first) ps) name cells
  parts_placed first ps = steps_same (map (step_at first) ps) (steps_are first ps)
