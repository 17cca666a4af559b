-- A local or a variable is no root, and no port stands for it.
use Rattle.std.proofs.Common.{◌≡◌, ℕ, zero, suc, Bool, true, false, List, [], ◌∷◌, map, slice_get, Option, Some, None, refl, sym, ap, subst, ◌∙◌, arith}
use Rattle.std.specs.Prelude.{not, ◌||◌, nat_eq, option_map, option_and_then, unwrap_or}
use Rattle.std.specs.List.{list_all}
use Rattle.scc_bits_kinds.specs.declared.kind.Kind.{Kind}
use Rattle.scc_bits_kinds.specs.declared.kind.Kind.TheVariants as kind
use Rattle.scc_bits_kinds.specs.Kinds.{width_of}
use Rattle.scc_semantics.specs.Location.{Part}
use Rattle.scc_core_spec.specs.Fit.{same_bool, same_kind}
use Rattle.scc_core_spec.specs.IsResolved.{fit_cell, name_is, root_is, sort_is}
use Rattle.scc_core_spec.specs.Kept.{is_local_of}
use Rattle.scc_core_spec.specs.Named.{cell_at, path_steps}
use Rattle.scc_core_spec.specs.Program as program
use Rattle.scc_core_spec.specs.Program.{Process, Sort, Input, Output, Signal, Variable, Local, Pointer, Port, is_pointer, is_root, is_variable}
use Rattle.scc_core_spec.specs.Static.{Cells}
use Rattle.scc_core_spec.specs.Uses.{among, has_sort, root_of, root_of_sort, sort_at, width_at}
use Rattle.scc_states_kept.specs.Owned.{is_number}
use Rattle.scc_states_named_laws.proofs.Closed.{and_first, and_second, never}

same_number : (a b : ℕ) → nat_eq a b ≡ true → a ≡ b
same_number a b e = grind (arith, e)

some_same : {A : Type 0} (a b : A) → Some a ≡ Some b → a ≡ b
some_same a b h = ap (from a) h
  where
    from : {A : Type 0} → A → Option A → A
    from d None = d
    from d (Some x) = x

pub fit_at : (test : program.Cell → Bool) (cs : List program.Cell) (n : ℕ) (c : program.Cell) → list_all test cs ≡ true → slice_get cs n ≡ Some c → test c ≡ true
fit_at test [] n c h e = absurd cc
fit_at test (d ∷ cs) zero c h e = subst (λ z. test z ≡ true) (some_same d c e) (and_first (test d) _ h)
fit_at test (d ∷ cs) (suc n) c h e = fit_at test cs n c (and_second (test d) _ h) e

no_number : (cs : Cells) (i n : ℕ) → slice_get cs n ≡ None → is_number cs i n ≡ false
no_number cs i n e = ap (λ o. unwrap_or (option_map (is_local_of i) (option_map (λ c. c.sort) o)) false || unwrap_or (option_map is_variable (option_map (λ c. c.sort) o)) false) e

-- a cell past the end isn't one
pub past_number : (cs : Cells) (i x n : ℕ) → is_number cs i x ≡ true → slice_get cs n ≡ None → nat_eq x n ≡ false
past_number cs i x n h e = by (nat_eq x n) refl
  where
    by : (b : Bool) → nat_eq x n ≡ b → nat_eq x n ≡ false
    by true d = absurd (never (is_number cs i x) (ap (is_number cs i) (same_number x n d) ∙ no_number cs i n e) h)
    by false d = d

same_bool-is : (a b : Bool) → same_bool a b ≡ true → a ≡ b
same_bool-is true true e = refl
same_bool-is true false e = absurd cc
same_bool-is false true e = absurd cc
same_bool-is false false e = refl

same_kind-is : (j k : Kind) → same_kind j k ≡ true → j ≡ k
same_kind-is kind.Bool kind.Bool e = refl
same_kind-is (kind.Native w s) (kind.Native v t) e =
    λ i. kind.Native (same_number w v (and_first (nat_eq w v) (same_bool s t) e) i) (same_bool-is s t (and_second (nat_eq w v) (same_bool s t) e) i)
same_kind-is (kind.Int w) (kind.Int v) e = ap kind.Int (same_number w v e)
same_kind-is (kind.Uint w) (kind.Uint v) e = ap kind.Uint (same_number w v e)
same_kind-is (kind.Big w) (kind.Big v) e = ap kind.Big (same_number w v e)
same_kind-is (kind.BigInt w) (kind.BigInt v) e = ap kind.BigInt (same_number w v e)
same_kind-is (kind.Bv w) (kind.Bv v) e = ap kind.Bv (same_number w v e)
same_kind-is (kind.Wide b s) (kind.Wide c t) e =
    λ i. kind.Wide (same_number b c (and_first (nat_eq b c) (same_bool s t) e) i) (same_bool-is s t (and_second (nat_eq b c) (same_bool s t) e) i)
same_kind-is j k e = absurd cc

kinds_at : (k : Kind) (o : Option program.Cell) → root_is k o ≡ true → unwrap_or (option_map (λ z. width_of z.kind) o) 0 ≡ width_of k
kinds_at k None h = absurd cc
kinds_at k (Some c) h = ap width_of (sym (same_kind-is k c.kind (and_second (is_root c.sort) _ h)))

-- a cell is as wide as what it stands for
module _ (cs : Cells) (ps : List Process) (fit : list_all (fit_cell ps cs) cs ≡ true) where
  pub root_width : (n : ℕ) (c : program.Cell) → slice_get cs n ≡ Some c → width_at cs (root_of cs n) ≡ width_of c.kind
  root_width n c d = by c.sort refl
    where
      to_root : (s : Sort) → c.sort ≡ s → root_of cs n ≡ root_of_sort cs s n
      to_root s e = ap (λ o. unwrap_or (option_map (λ t. root_of_sort cs t n) (option_map (λ z. z.sort) o)) n) d ∙ ap (λ t. root_of_sort cs t n) e

      own : root_of cs n ≡ n → width_at cs (root_of cs n) ≡ width_of c.kind
      own h = ap (width_at cs) h ∙ ap (λ o. unwrap_or (option_map (λ z. width_of z.kind) o) 0) d

      rooted : (path : List Part) → c.sort ≡ Port path → (o : Option ℕ) → cell_at false 0 (path_steps path) cs ≡ o → root_is c.kind (option_and_then (slice_get cs) o) ≡ true
          → width_at cs (root_of cs n) ≡ width_of c.kind
      rooted path e None q h = absurd cc
      rooted path e (Some r) q h = ap (width_at cs) (to_root (Port path) e ∙ ap (λ z. unwrap_or z n) q) ∙ kinds_at c.kind (slice_get cs r) h

      by : (s : Sort) → c.sort ≡ s → width_at cs (root_of cs n) ≡ width_of c.kind
      by Input e = own (to_root Input e)
      by Output e = own (to_root Output e)
      by Signal e = own (to_root Signal e)
      by (Variable w f) e = own (to_root (Variable w f) e)
      by (Local j) e = own (to_root (Local j) e)
      by (Pointer t) e = own (to_root (Pointer t) e)
      by (Port path) e =
          let f = and_second (name_is ps c.sort c.name) (sort_is cs c.kind c.sort) (and_second (not (is_pointer c.sort)) _ (fit_at (fit_cell ps cs) cs n c fit d)) in
          rooted path e (cell_at false 0 (path_steps path) cs) refl (subst (λ z. sort_is cs c.kind z ≡ true) e f)

module _ (cs : Cells) (ps : List Process) (fit : list_all (fit_cell ps cs) cs ≡ true) (i x : ℕ) (number : is_number cs i x ≡ true) where
  pub not_root : has_sort is_root cs x ≡ false
  not_root = by (sort_at cs x) number
    where
      by : (o : Option Sort) → (unwrap_or (option_map (is_local_of i) o) false || unwrap_or (option_map is_variable o) false) ≡ true → unwrap_or (option_map is_root o) false ≡ false
      by None h = refl
      by (Some Input) h = absurd cc
      by (Some Output) h = absurd cc
      by (Some Signal) h = absurd cc
      by (Some (Variable w f)) h = refl
      by (Some (Local j)) h = refl
      by (Some (Pointer t)) h = refl
      by (Some (Port p)) h = refl

  not_port : (path : List Part) → sort_at cs x ≡ Some (Port path) → ⊥
  not_port path e = never (is_number cs i x) (ap (λ o. unwrap_or (option_map (is_local_of i) o) false || unwrap_or (option_map is_variable o) false) e) number

  -- a port's root is a root
  is_rooted : (k : Kind) (r : ℕ) → root_is k (slice_get cs r) ≡ true → has_sort is_root cs r ≡ true
  is_rooted k r h = by (slice_get cs r) h
    where
      by : (o : Option program.Cell) → root_is k o ≡ true → unwrap_or (option_map is_root (option_map (λ c. c.sort) o)) false ≡ true
      by None h = absurd cc
      by (Some c) h = and_first (is_root c.sort) (same_kind k c.kind) h

  port_root : (n : ℕ) (path : List Part) → sort_at cs n ≡ Some (Port path) → (r : ℕ) × ((root_of cs n ≡ r) × (has_sort is_root cs r ≡ true))
  port_root n path e = at (slice_get cs n) refl e
    where
      root_by : (o : Option ℕ) → cell_at false 0 (path_steps path) cs ≡ o → root_of cs n ≡ unwrap_or o n
      root_by o q = ap (λ z. unwrap_or (option_map (λ s. root_of_sort cs s n) z) n) e ∙ ap (λ z. unwrap_or z n) q

      rooted : (k : Kind) (o : Option ℕ) → cell_at false 0 (path_steps path) cs ≡ o → root_is k (option_and_then (slice_get cs) o) ≡ true → (r : ℕ) × ((root_of cs n ≡ r) × (has_sort is_root cs r ≡ true))
      rooted k None q h = absurd cc
      rooted k (Some r) q h = (r, (root_by (Some r) q, is_rooted k r h))

      at : (o : Option program.Cell) → slice_get cs n ≡ o → option_map (λ c. c.sort) o ≡ Some (Port path) → (r : ℕ) × ((root_of cs n ≡ r) × (has_sort is_root cs r ≡ true))
      at None d s = absurd cc
      at (Some c) d s =
          let f = and_second (name_is ps c.sort c.name) (sort_is cs c.kind c.sort) (and_second (not (is_pointer c.sort)) _ (fit_at (fit_cell ps cs) cs n c fit d)) in
          rooted c.kind (cell_at false 0 (path_steps path) cs) refl (subst (λ z. sort_is cs c.kind z ≡ true) (some_same c.sort (Port path) s) f)

  away : (r : ℕ) → has_sort is_root cs r ≡ true → nat_eq x r ≡ false
  away r h = by (nat_eq x r) refl
    where
      by : (b : Bool) → nat_eq x r ≡ b → nat_eq x r ≡ false
      by true d = absurd (never (has_sort is_root cs x) not_root (subst (λ z. has_sort is_root cs z ≡ true) (sym (same_number x r d)) h))
      by false d = d

  port_apart : (n : ℕ) (path : List Part) → sort_at cs n ≡ Some (Port path) → nat_eq x n ≡ false
  port_apart n path e = by (nat_eq x n) refl
    where
      by : (b : Bool) → nat_eq x n ≡ b → nat_eq x n ≡ false
      by true d = absurd (not_port path (subst (λ z. sort_at cs z ≡ Some (Port path)) (sym (same_number x n d)) e))
      by false d = d

  pub same_root : (n : ℕ) → nat_eq x (root_of cs n) ≡ nat_eq x n
  same_root n = by (sort_at cs n) refl
    where
      own : (o : Option Sort) → sort_at cs n ≡ o → unwrap_or (option_map (λ s. root_of_sort cs s n) o) n ≡ n → nat_eq x (root_of cs n) ≡ nat_eq x n
      own o e h = ap (λ z. nat_eq x (unwrap_or (option_map (λ s. root_of_sort cs s n) z) n)) e ∙ ap (nat_eq x) h

      by : (o : Option Sort) → sort_at cs n ≡ o → nat_eq x (root_of cs n) ≡ nat_eq x n
      by None e = own None e refl
      by (Some Input) e = own (Some Input) e refl
      by (Some Output) e = own (Some Output) e refl
      by (Some Signal) e = own (Some Signal) e refl
      by (Some (Variable w f)) e = own (Some (Variable w f)) e refl
      by (Some (Local j)) e = own (Some (Local j)) e refl
      by (Some (Pointer t)) e = own (Some (Pointer t)) e refl
      by (Some (Port path)) e = let p = port_root n path e in ap (nat_eq x) p.1.0 ∙ away p.0 p.1.1 ∙ sym (port_apart n path e)

  pub among_roots : (ns : List ℕ) → among x (map (root_of cs) ns) ≡ among x ns
  among_roots [] = refl
  among_roots (n ∷ ns) = ap (λ b. b || among x (map (root_of cs) ns)) (same_root n) ∙ ap (λ b. nat_eq x n || b) (among_roots ns)

  -- where it is met, it stands for itself
  pub root_here : (n : ℕ) → nat_eq x (root_of cs n) ≡ true → (root_of cs n ≡ n) × (x ≡ n)
  root_here n h =
      let at_root = same_number x (root_of cs n) h in
      let at_cell = same_number x n (sym (same_root n) ∙ h) in
      (sym at_root ∙ at_cell, at_cell)
