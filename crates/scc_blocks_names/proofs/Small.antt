-- The names of a small core.
use Rattle.std.proofs.Common.{◌≡◌, ℕ, zero, suc, Bool, true, false, ◌&&◌, nat_eq, List, [], ◌∷◌, ◌++◌, get_or, slice_get, codes, Some, is_some, refl, sym, ap, ◌∙◌, subst, inl, arith, true≢false}
use Rattle.scc_base.specs.Names.{AllDiffer}
use Rattle.scc_semantics.specs.Location.{Part, Member, Element}
use Rattle.scc_core_spec.specs.Program.{Process, Cell, is_pointer}
use Rattle.scc_blocks_names.specs.Placed.{AreApart, Stands, IsProcess, IsName, IsProcessName, AreNamed}
use Rattle.scc_blocks_names.specs.Worked.{two_names, small, small_objects, variable, local, process, is_top}
use Rattle.scc_blocks_names.proofs.Named.{same_some}

abbrev number_of : Part → ℕ
number_of (Member n) = n
number_of (Element i) = i

first_differs : codes "n" ≡ codes "run" → ⊥
first_differs e = true≢false (ap (λ t. nat_eq (get_or t 0 0) 110) e)

differ : AllDiffer two_names
differ zero zero text a b = refl
differ zero (suc zero) text a b = absurd (first_differs (same_some (codes "n") (codes "run") (a ∙ sym b)))
differ zero (suc (suc j)) text a b = absurd (cc)
differ (suc zero) zero text a b = absurd (first_differs (same_some (codes "n") (codes "run") (b ∙ sym a)))
differ (suc zero) (suc zero) text a b = refl
differ (suc zero) (suc (suc j)) text a b = absurd (cc)
differ (suc (suc i)) j text a b = absurd (cc)

number_is : (m n : ℕ) → nat_eq m n ≡ true → m ≡ n
number_is m n d = grind arith

both : (n : ℕ) → nat_eq n 0 ≡ true → nat_eq n 1 ≡ true → ⊥
both n h r = true≢false (ap (λ m. nat_eq m 0) (sym (number_is n 0 h) ∙ number_is n 1 r))

objects_apart : AreApart small_objects
objects_apart path n h r = by (is_top path) h r
  where
    by : (t : Bool) → (t && nat_eq n 0) ≡ true → (t && nat_eq n 1) ≡ true → ⊥
    by true h r = both n h r
    by false h r = true≢false (sym h)

-- a path of one member is a member of the top
one_member : (front : List Part) (n : ℕ) (back : List Part) → Member 0 ∷ [] ≡ front ++ Member n ∷ back → small_objects.has front n ≡ true
one_member [] n back e = ap (λ l. nat_eq (number_of (get_or l 0 (Member 0))) 0) (sym e)
one_member (p ∷ []) n back e = absurd (cc)
one_member (p ∷ q ∷ front) n back e = absurd (cc)

top_stands : Stands small_objects []
top_stands [] n back e = absurd (cc)
top_stands (p ∷ front) n back e = absurd (cc)

run_is_process : IsProcess small_objects (Member 1 ∷ [])
run_is_process = record { object = []; function = 1; is = refl; stands = top_stands; runs = refl }

variable_named : IsName two_names small_objects variable.name
variable_named = (((codes "n", refl, refl), tt), (refl, inl one_member))

local_named : IsName two_names small_objects local.name
local_named = (((codes "run", refl, refl), (omega arith, ((codes "n", refl, refl), tt))), run_is_process)

process_named : IsProcessName two_names small_objects process.name
process_named = record { spelled = ((codes "run", refl, refl), tt); own = refl; indices = refl; process = run_is_process }

named : (c : ℕ) (x : Cell) → slice_get small.cells c ≡ Some x → is_pointer x.sort ≡ false → IsName two_names small_objects x.name
named zero x e f = subst (λ y. IsName two_names small_objects y.name) (same_some variable x e) variable_named
named (suc zero) x e f = subst (λ y. IsName two_names small_objects y.name) (same_some local x e) local_named
named (suc (suc c)) x e f = absurd (cc)

apart_names : variable.name ≡ local.name → ⊥
apart_names e = true≢false (sym (ap (λ n. is_some n.own) e))

differ_cells : (b c : ℕ) (x y : Cell) → slice_get small.cells b ≡ Some x → slice_get small.cells c ≡ Some y → is_pointer x.sort ≡ false → is_pointer y.sort ≡ false → x.name ≡ y.name → b ≡ c
differ_cells zero zero x y e f g h t = refl
differ_cells zero (suc zero) x y e f g h t = absurd (apart_names (ap (λ z. z.name) (same_some variable x e) ∙ t ∙ ap (λ z. z.name) (sym (same_some local y f))))
differ_cells zero (suc (suc c)) x y e f g h t = absurd (cc)
differ_cells (suc zero) zero x y e f g h t = absurd (apart_names (ap (λ z. z.name) (same_some variable y f) ∙ sym t ∙ ap (λ z. z.name) (sym (same_some local x e))))
differ_cells (suc zero) (suc zero) x y e f g h t = refl
differ_cells (suc zero) (suc (suc c)) x y e f g h t = absurd (cc)
differ_cells (suc (suc b)) c x y e f g h t = absurd (cc)

named_processes : (i : ℕ) (q : Process) → slice_get small.processes i ≡ Some q → IsProcessName two_names small_objects q.name
named_processes zero q e = subst (λ y. IsProcessName two_names small_objects y.name) (same_some process q e) process_named
named_processes (suc i) q e = absurd (cc)

differ_processes : (i j : ℕ) (q r : Process) → slice_get small.processes i ≡ Some q → slice_get small.processes j ≡ Some r → q.name ≡ r.name → i ≡ j
differ_processes zero zero q r e f t = refl
differ_processes zero (suc j) q r e f t = absurd (cc)
differ_processes (suc i) j q r e f t = absurd (cc)

pub small_named : AreNamed two_names small_objects small
small_named = record {
  table = differ;
  apart = objects_apart;
  cells = named;
  cells_differ = differ_cells;
  processes = named_processes;
  processes_differ = differ_processes;
}
