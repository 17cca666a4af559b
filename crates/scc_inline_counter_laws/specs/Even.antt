-- Locations of which the elements that counters choose are alike: of the array from which an index chooses all elements are fixed, and the first is there. This project's own.
use Rattle.std.specs.Prelude.{ℕ, suc, Bool, true, false, not, ◌&&◌, ◌||◌, nat_eq, List, [], ◌∷◌, Option, Some, None, is_some, option_map, slice_get, unwrap_or, if◌then◌else◌}
use Rattle.std.specs.List.{list_all}
use Rattle.scc_core_spec.specs.Term.{Term, Literal, Load, Read, Convert, Unary, Binary, Choose, Bit, Range, Join, Left, Cell, Prefix, Null, Follow, Member, Index}
use Rattle.scc_core_spec.specs.Program as program
use Rattle.scc_core_spec.specs.Program.{is_pointer}
use Rattle.scc_core_spec.specs.Named.{Step, Named, At, Ours, Open, steps_of}
use Rattle.scc_core_spec.specs.Static.{Cells, fixed_word, found, first_of}
use Rattle.scc_core_spec.specs.Counted.{Counter, First, counter_at}
use Rattle.scc_elab_spec.specs.Program.{Plain}
use Rattle.scc_elab_spec.specs.Design as design
use Rattle.scc_elab_spec.specs.Design.{Design}
use Rattle.scc_elab_spec.specs.Numbering.{levels}
use Rattle.scc_inline_spec.specs.Inlined.{call_of, core_cells, here_of}
use Rattle.scc_inline_spec.specs.Static.{Chosen, chosen_by, chosen_in, setting_in}

-- names that differ in their indices alone
abbrev pub alike : List Step → List Step → Bool
alike [] [] = true
alike (Named n ∷ p) (Named m ∷ q) = nat_eq n m && alike p q
alike (At i ∷ p) (At j ∷ q) = alike p q
alike (Ours n ∷ p) (Ours m ∷ q) = nat_eq n m && alike p q
alike _ _ = false

-- one with a name like that is fixed
abbrev pub is_fixed_alike : List Step → program.Cell → Bool
is_fixed_alike p c = if alike p (steps_of c.name) && not (is_pointer c.sort) then is_some (fixed_word c.sort) else true

-- the elements of an array, by its first one
abbrev pub is_row : Cells → Option (List Step) → Bool
is_row cs None = true
is_row cs (Some first) = is_some (found cs first) && list_all (is_fixed_alike first) cs

-- whether one of these counters stands in an expression, or in an index of a location
abbrev mutual
  pub counts_on : List Counter → Term → Bool
  counts_on ns (Literal p k w) = false
  counts_on ns (Load p k l) = is_some (counter_at ns l) || counts_in ns l
  counts_on ns (Read p k l) = counts_in ns l
  counts_on ns (Convert p k e) = counts_on ns e
  counts_on ns (Unary p k o a) = counts_on ns a
  counts_on ns (Binary p k o a b) = counts_on ns a || counts_on ns b
  counts_on ns (Choose p k t a b) = counts_on ns t || (counts_on ns a || counts_on ns b)
  counts_on ns (Bit p a e) = counts_on ns a || counts_on ns e
  counts_on ns (Range p k a h l) = counts_on ns a
  counts_on ns (Join p k a b) = counts_on ns a || counts_on ns b

  pub counts_in : List Counter → Left → Bool
  counts_in ns (Cell p n) = false
  counts_in ns (Prefix p n) = false
  counts_in ns (Null p) = false
  counts_in ns (Follow p s l) = counts_in ns l
  counts_in ns (Member l n) = counts_in ns l
  counts_in ns (Index l size e) = counts_in ns l || counts_on ns e

-- what is loaded where a counter chooses an element is of such an array
abbrev mutual
  pub is_even_term : Cells → List Counter → Term → Bool
  is_even_term cs ns (Literal p k w) = true
  is_even_term cs ns (Load p k l) = (if counts_in ns l then is_row cs (first_of cs l) else true) && is_even cs ns l
  is_even_term cs ns (Read p k l) = true
  is_even_term cs ns (Convert p k e) = is_even_term cs ns e
  is_even_term cs ns (Unary p k o a) = is_even_term cs ns a
  is_even_term cs ns (Binary p k o a b) = is_even_term cs ns a && is_even_term cs ns b
  is_even_term cs ns (Choose p k t a b) = is_even_term cs ns t && (is_even_term cs ns a && is_even_term cs ns b)
  is_even_term cs ns (Bit p a e) = is_even_term cs ns a && is_even_term cs ns e
  is_even_term cs ns (Range p k a h l) = is_even_term cs ns a
  is_even_term cs ns (Join p k a b) = is_even_term cs ns a && is_even_term cs ns b

  pub is_even : Cells → List Counter → Left → Bool
  is_even cs ns (Cell p n) = true
  is_even cs ns (Prefix p n) = true
  is_even cs ns (Null p) = true
  is_even cs ns (Follow p s l) = is_even cs ns l
  is_even cs ns (Member l n) = is_even cs ns l
  is_even cs ns (Index l size e) = is_even cs ns l && is_even_term cs ns e

-- the locations that the calls of a process have to choose statically
abbrev pub choices : Plain → Design → ℕ → design.Process → List Chosen
choices p d i q = unwrap_or (option_map (λ f. let h = here_of p d i q f in let s = setting_in p d i q in chosen_in (chosen_by s h levels) (call_of h levels) s h [] 0 First f.body) (slice_get p.functions q.function)) []

abbrev pub is_even_process : Plain → Design → ℕ → design.Process → Bool
is_even_process p d i q = list_all (λ (c : Chosen). is_even (core_cells p d) c.counters c.left) (choices p d i q)

-- of these processes, counted from i on
abbrev pub are_even : Plain → Design → ℕ → List design.Process → Bool
are_even p d i [] = true
are_even p d i (q ∷ qs) = is_even_process p d i q && are_even p d (suc i) qs
