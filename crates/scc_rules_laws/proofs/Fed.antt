-- Which method feeds which, by lists of what is read and written.
use Rattle.std.proofs.Common.{◌≡◌, refl, sym, ap, ◌∙◌, ℕ, zero, suc, Bool, true, false, ◌&&◌, ◌||◌, nat_eq, List, [], ◌∷◌, ◌++◌, map, Option, Some, None, option_map, slice_get, unwrap_or, if◌then◌else◌}
use Rattle.std.specs.Prelude.{flat_map}
use Rattle.std.specs.List.{list_any}
use Rattle.std.proofs.lemmas.List.{append-nil}
use Rattle.std.proofs.lemmas.List.Folds.{list_any-append}
use Rattle.std.proofs.lemmas.Grind.{flat_map-append}
use Rattle.scc_base.specs.declared.refusal.Place.{Place}
use Rattle.scc_core_spec.specs.Clashes.{live_acts}
use Rattle.scc_core_spec.specs.Feeding.{feeds, is_method, writes_in}
use Rattle.scc_core_spec.specs.Program.{Process, Program, is_root}
use Rattle.scc_core_spec.specs.Static.{Cells}
use Rattle.scc_core_spec.specs.Term.{Left, Pick}
use Rattle.scc_core_spec.specs.Uses.{Use, Act, among, cells_of, has_sort, reads_of, writes_of}
use Rattle.scc_rules_laws.specs.Feeds.{all_read, feeds_by, list_at, read_cells}
use Rattle.scc_rules_laws.specs.Found.{all_put, put_cells}
use Rattle.scc_rules_laws.specs.Seen.{Seen, AreSeen, AreThinned, IsThinned, put_at, read_at, seen_at, seen_from, seen_in}
use Rattle.scc_rules_laws.proofs.Names.{all_writes_put}
use Rattle.scc_rules_laws.proofs.Thinned.{IsTested, thin_any}

-- a test of cells that are picked from each mark
any_flat : (g : Seen → List ℕ) (q : ℕ → Bool) (ss : List Seen) → list_any q (flat_map g ss) ≡ list_any (λ s. list_any q (g s)) ss
any_flat g q [] = refl
any_flat g q (s ∷ ss) = list_any-append q (g s) (flat_map g ss) ∙ ap (λ b. list_any q (g s) || b) (any_flat g q ss)

none_picked : (q : ℕ → Bool) (b : Bool) → list_any q (if b then [] else []) ≡ false
none_picked q true = refl
none_picked q false = refl

reads_tested : (q : ℕ → Bool) → IsTested (λ s. list_any q (read_cells s))
reads_tested q = record {
  blank = λ s e. ap (λ ys. list_any q (if s.write then [] else ys)) e ∙ none_picked q s.write;
  alike = λ s t e f. λ i. list_any q (if f i then [] else e i);
}

puts_tested : (q : ℕ → Bool) → IsTested (λ s. list_any q (put_cells s))
puts_tested q = record {
  blank = λ s e. ap (λ ys. list_any q (if s.write then ys else [])) e ∙ none_picked q s.write;
  alike = λ s t e f. λ i. list_any q (if f i then e i else []);
}

map_reads : (cs : Cells) (n : ℕ) (at : Place) (us : List Use) → all_read (map (read_at cs n at) us) ≡ flat_map (λ u. cells_of cs u.left) us
map_reads cs n at [] = refl
map_reads cs n at (u ∷ us) = ap (λ ys. cells_of cs u.left ++ ys) (map_reads cs n at us)

put_reads : (cs : Cells) (n : ℕ) (at : Place) (w : Option (Left × Pick)) → all_read (put_at cs n at w) ≡ []
put_reads cs n at None = refl
put_reads cs n at (Some w) = refl

all_reads : (cs : Cells) (n : ℕ) (said : List Act) → all_read (seen_from cs n said) ≡ flat_map (reads_of cs) said
all_reads cs n [] = refl
all_reads cs n (a ∷ said) =
    flat_map-append read_cells (seen_at cs n a) (seen_from cs (suc n) said)
    ∙ ap (λ ys. ys ++ all_read (seen_from cs (suc n) said)) (flat_map-append read_cells (map (read_at cs n a.place) a.reads) (put_at cs n a.place a.writes)
    ∙ (λ i. map_reads cs n a.place a.reads i ++ put_reads cs n a.place a.writes i) ∙ append-nil (reads_of cs a))
    ∙ ap (λ ys. reads_of cs a ++ ys) (all_reads cs (suc n) said)

-- of one process
reads_left : (cs : Cells) (q : ℕ → Bool) (said : List Act) (t : List Seen) → IsThinned [] (seen_from cs 0 said) t → list_any q (flat_map (reads_of cs) said) ≡ list_any q (all_read t)
reads_left cs q said t is =
    ap (list_any q) (sym (all_reads cs 0 said)) ∙ any_flat read_cells q (seen_from cs 0 said)
    ∙ thin_any (λ s. list_any q (read_cells s)) (reads_tested q) false [] (seen_from cs 0 said) t is tt ∙ sym (any_flat read_cells q t)

writes_left : (cs : Cells) (q : ℕ → Bool) (said : List Act) (t : List Seen) → IsThinned [] (seen_from cs 0 said) t → list_any q (flat_map (writes_of cs) said) ≡ list_any q (all_put t)
writes_left cs q said t is =
    ap (list_any q) (sym (all_writes_put cs 0 said)) ∙ any_flat put_cells q (seen_from cs 0 said)
    ∙ thin_any (λ s. list_any q (put_cells s)) (puts_tested q) false [] (seen_from cs 0 said) t is tt ∙ sym (any_flat put_cells q t)

-- of the process of that number
module _ (cs : Cells) (g : Act → List ℕ) (h : List Seen → List ℕ) (q : ℕ → Bool)
    (one : (said : List Act) (t : List Seen) → IsThinned [] (seen_from cs 0 said) t → list_any q (flat_map g said) ≡ list_any q (h t)) (none : h [] ≡ []) where
  at_number : (qs : List Process) (thin : List (List Seen)) → AreThinned (map (seen_in cs) qs) thin → (i : ℕ)
      → list_any q (unwrap_or (option_map (λ r. flat_map g (live_acts cs r)) (slice_get qs i)) []) ≡ list_any q (h (list_at thin i))
  at_number [] [] is i = ap (list_any q) (sym none)
  at_number [] (t ∷ thin) is i = absurd is
  at_number (r ∷ qs) [] is i = absurd is
  at_number (r ∷ qs) (t ∷ thin) is zero = one (live_acts cs r) t is.0
  at_number (r ∷ qs) (t ∷ thin) is (suc i) = at_number qs thin is.1 i

pub feeds_told : (p : Program) (thin : List (List Seen)) → AreSeen p thin → (i j : ℕ) → feeds p i j ≡ feeds_by p thin i j
feeds_told p thin is i j =
    ap (λ (t : ℕ → Bool). is_method p i && (is_method p j && list_any (λ x. has_sort is_root p.cells x && t x) (writes_in p i)))
    (λ k x. at_number p.cells (reads_of p.cells) all_read (nat_eq x) (reads_left p.cells (nat_eq x)) refl p.processes thin is j k)
    ∙ ap (λ b. is_method p i && (is_method p j && b))
    (at_number p.cells (writes_of p.cells) all_put (λ x. has_sort is_root p.cells x && among x (all_read (list_at thin j)))
    (writes_left p.cells (λ x. has_sort is_root p.cells x && among x (all_read (list_at thin j)))) refl p.processes thin is i)
