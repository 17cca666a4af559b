-- Arrays of registers by their names, and the choice of an element by a variable. This project's own.
use Rattle.std.specs.Prelude.{◌≡◌, ℕ, zero, suc, ◌+◌, ◌-◌, ◌/◌, nat_eq, Bool, true, false, not, ◌||◌, List, [], ◌∷◌, ◌++◌, map, length, Option, Some, None, option_map, slice_get, unwrap_or, position, is_some, bytes_eq, codes, decimal, if◌then◌else◌}
use Rattle.std.specs.List.{list_any, list_all, range_with_len}
use Rattle.scc_svtree.specs.declared.module.SvVar.{SvVar}
use Rattle.scc_svtree.specs.declared.module.Dir.{Dir}
use Rattle.scc_svtree.specs.declared.module.Dir.TheVariants as dir
use Rattle.scc_svtree.specs.declared.expr.SvLeft.TheVariants.{Whole}
use Rattle.scc_svtree.specs.declared.expr.SvBinary.TheVariants as binary
use Rattle.scc_svtree.specs.Term.{Term, Literal, Part, Binary, Cond}

-- An array: its name, and the numbers of its elements and of their next values.
pub record Array : Type 0 where
  pub name : List ℕ
  pub elements : List ℕ
  pub nexts : List ℕ

abbrev pub var_named : List SvVar → List ℕ → Option ℕ
var_named vars name = position (λ v. bytes_eq v.name name) vars

-- `NAME$k`, and a name with its part behind `$$`
abbrev pub element_name : List ℕ → ℕ → List ℕ
element_name name k = name ++ (36 ∷ decimal k)

abbrev pub with_part : List ℕ → List ℕ → List ℕ
with_part name part = name ++ (36 ∷ 36 ∷ part)

-- the numbers of `NAME$k` from k on, as far as they are declared without a gap; there are at most as many as variables
abbrev pub elements_from : List SvVar → List ℕ → ℕ → ℕ → List ℕ
elements_from vars name zero k = []
elements_from vars name (suc left) k = element_or (var_named vars (element_name name k)) (elements_from vars name left (k + 1))
  where
    element_or : Option ℕ → List ℕ → List ℕ
    element_or None more = []
    element_or (Some v) more = v ∷ more

-- the numbers of `NAME$k$$n`, for each k below n
abbrev pub nexts_of : List SvVar → List ℕ → ℕ → List (Option ℕ)
nexts_of vars name n = map (λ k. var_named vars (with_part (element_name name k) (codes "n"))) (range_with_len 0 n)

abbrev pub is_inner : Option SvVar → Bool
is_inner None = false
is_inner (Some v) = by_dir v.dir
  where
    by_dir : Dir → Bool
    by_dir dir.Inner = true
    by_dir _ = false

abbrev pub width_of : List SvVar → ℕ → ℕ
width_of vars v = unwrap_or (option_map (λ x. x.width) (slice_get vars v)) 0

-- By its names and widths it may be an array: two elements or more, no ports, all of one width, and the names of a memory are free.
pub record IsNamed (vars : List SvVar) (a : Array) : Type 0 where
  pub elements : a.elements ≡ elements_from vars a.name (length vars) 0
  pub nexts : map Some a.nexts ≡ nexts_of vars a.name (length a.elements)
  pub some : list_all (λ n. not (nat_eq (length a.elements) n)) (0 ∷ 1 ∷ []) ≡ true
  pub inner : list_all (λ v. is_inner (slice_get vars v)) (a.elements ++ a.nexts) ≡ true
  pub width : ℕ
  pub widths : list_all (λ v. nat_eq (width_of vars v) width) (a.elements ++ a.nexts) ≡ true
  pub free : list_all (λ n. not (is_some (var_named vars n))) (a.name ∷ with_part a.name (codes "w") ∷ with_part a.name (codes "a") ∷ with_part a.name (codes "d") ∷ []) ≡ true

abbrev pub among : ℕ → List ℕ → Bool
among n ns = list_any (nat_eq n) ns

-- an element or a next value
abbrev pub is_of : Array → ℕ → Bool
is_of a v = among v a.elements || among v a.nexts

abbrev pub whole : ℕ → Term
whole v = Part (Whole (record { 0 = v }))

abbrev pub next_at : Array → ℕ → ℕ
next_at a k = unwrap_or (slice_get a.nexts k) 0

-- The choice of the elements from lo to hi - 1 by a variable i of w bits, halved at each step; so many steps at most.
abbrev pub tree_in : Array → (i w : ℕ) → ℕ → (lo hi : ℕ) → Term
tree_in a i w zero lo hi = whole (next_at a lo)
tree_in a i w (suc steps) lo hi = if nat_eq hi (lo + 1) then whole (next_at a lo)
    else (let mid = lo + (hi - lo) / 2 in Cond (Binary binary.Lt (whole i) (Literal w mid)) (tree_in a i w steps lo mid) (tree_in a i w steps mid hi))

-- of the first j elements
abbrev pub tree : Array → (i w j : ℕ) → Term
tree a i w j = tree_in a i w j 0 j
