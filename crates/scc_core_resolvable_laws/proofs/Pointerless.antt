-- What the test of resolved cores asks of names and cells holds of a core whose pointers' cells are gone.
use Rattle.std.proofs.Common.{◌≡◌, ℕ, zero, suc, Bool, true, false, not, ◌&&◌, List, [], ◌∷◌, Option, Some, None, option_map, option_and_then, slice_get, refl, sym, ap, ◌∙◌, subst, arith}
use Rattle.std.specs.Prelude.{filter, cond}
use Rattle.std.specs.List.{list_all}
use Rattle.scc_semantics.specs.Location.{Part, same_path}
use Rattle.scc_core_spec.specs.Term.{CellName, Own}
use Rattle.scc_core_spec.specs.Program.{Program, Process, Cell, Sort, Input, Output, Signal, Variable, Local, Pointer, Port, is_pointer, is_root}
use Rattle.scc_core_spec.specs.Static.{Cells}
use Rattle.scc_core_spec.specs.Named.{steps_of, path_steps, fits, cell_at}
use Rattle.scc_core_spec.specs.Resolved.{Made, made_map}
use Rattle.scc_core_spec.specs.Unpointed.{unpointed, at_first}
use Rattle.scc_core_spec.specs.Renumbered.{is_kept_cell, new_number, renamed_process, all_unpointed, resolved_program}
use Rattle.scc_core_spec.specs.Source.{process_named}
use Rattle.scc_core_spec.specs.IsResolved.{processes_apart, cells_apart, has_path, own_is, name_is, root_is, sort_is, fit_cell, fit_process, keeps_inputs, is_resolved}
use Rattle.scc_core_unroll_laws.specs.Named.{AllLocal, IsNamed}
use Rattle.scc_core_unroll_laws.proofs.Counters.{some-is}
use Rattle.scc_core_unroll_laws.proofs.Knowing.{map-is}
use Rattle.scc_core_pass_laws.proofs.Pointless.{made-is, and-is, made-map-is}
use Rattle.scc_core_pass_laws.proofs.Renumber.{named-same, find-kept}
use Rattle.scc_core_resolved_laws.proofs.Agreeing.{fits-is, name-closed, path-closed}
use Rattle.scc_core_resolved_laws.proofs.Bools.{and-both}
use Rattle.scc_core_resolved_laws.proofs.Fitting.{path-is}
use Rattle.scc_core_resolvable_laws.specs.Told.{IsTold}
use Rattle.scc_core_resolvable_laws.specs.Sorted.{IsSorted}
use Rattle.scc_core_resolvable_laws.proofs.Told.{find-at, one-at, root-plain}

all-by : {A : Type 0} (test : A → Bool) (xs : List A) → ((k : ℕ) (x : A) → slice_get xs k ≡ Some x → test x ≡ true) → list_all test xs ≡ true
all-by test [] f = refl
all-by test (x ∷ xs) f = and-both (test x) (list_all test xs) (f 0 x refl) (all-by test xs (λ k y e. f (suc k) y e))

-- each cell that stays passes
all-kept : (test : Cell → Bool) (cs : Cells) → ((k : ℕ) (x : Cell) → slice_get cs k ≡ Some x → is_pointer x.sort ≡ false → test x ≡ true) → list_all test (filter is_kept_cell cs) ≡ true
all-kept test [] f = refl
all-kept test (c ∷ cs) f = by (is_pointer c.sort) refl (all-kept test cs (λ k x e h. f (suc k) x e h))
  where
    by : (b : Bool) → is_pointer c.sort ≡ b → list_all test (filter is_kept_cell cs) ≡ true → list_all test (cond (not b) (c ∷ filter is_kept_cell cs) (filter is_kept_cell cs)) ≡ true
    by true e ih = ih
    by false e ih = and-both (test c) (list_all test (filter is_kept_cell cs)) (f 0 c refl e) ih

processes-differ : (ps : List Process) → ((i j : ℕ) (x y : Process) → slice_get ps i ≡ Some x → slice_get ps j ≡ Some y → same_path x.name.path y.name.path ≡ true → i ≡ j) → processes_apart ps ≡ true
processes-differ [] f = refl
processes-differ (x ∷ ps) f = and-both (list_all (λ r. not (same_path x.name.path r.name.path)) ps) (processes_apart ps)
    (all-by (λ r. not (same_path x.name.path r.name.path)) ps (λ k y e. by k (same_path x.name.path y.name.path) (f 0 (suc k) x y refl e)))
    (processes-differ ps (λ i j y z e g s. let w : suc i ≡ suc j = f (suc i) (suc j) y z e g s in omega (arith, w)))
  where
    by : (k : ℕ) (b : Bool) → (b ≡ true → 0 ≡ suc k) → not b ≡ true
    by k true h = absurd (let w = h refl in omega (arith, w))
    by k false h = refl

pub named-apart : (p : Program) → IsNamed p → processes_apart p.processes ≡ true
named-apart p named = processes-differ p.processes (λ i j x y e g s. sym (named.processes i x e) ∙ (ap (λ a. process_named 0 a p.processes) (path-is x.name.path y.name.path s) ∙ named.processes j y g))

cells-differ : (cs : Cells) → ((n m : ℕ) (x y : Cell) → slice_get cs n ≡ Some x → slice_get cs m ≡ Some y → is_pointer x.sort ≡ is_pointer y.sort → steps_of x.name ≡ steps_of y.name → n ≡ m) → cells_apart (filter is_kept_cell cs) ≡ true
cells-differ [] f = refl
cells-differ (c ∷ cs) f = by (is_pointer c.sort) refl (cells-differ cs (λ n m x y e g s t. let w : suc n ≡ suc m = f (suc n) (suc m) x y e g s t in omega (arith, w)))
  where
    differs : (k : ℕ) (d : Cell) → slice_get cs k ≡ Some d → is_pointer c.sort ≡ is_pointer d.sort → (b : Bool) → fits (steps_of c.name) (steps_of d.name) ≡ b → not b ≡ true
    differs k d e s true t = absurd (let w : 0 ≡ suc k = f 0 (suc k) c d refl e s (fits-is (steps_of c.name) (steps_of d.name) (name-closed c.name) t) in omega (arith, w))
    differs k d e s false t = refl

    by : (b : Bool) → is_pointer c.sort ≡ b → cells_apart (filter is_kept_cell cs) ≡ true → cells_apart (cond (not b) (c ∷ filter is_kept_cell cs) (filter is_kept_cell cs)) ≡ true
    by true h ih = ih
    by false h ih = and-both (list_all (λ d. not (fits (steps_of c.name) (steps_of d.name))) (filter is_kept_cell cs)) (cells_apart (filter is_kept_cell cs))
        (all-kept (λ d. not (fits (steps_of c.name) (steps_of d.name))) cs (λ k d e plain. differs k d e (h ∙ sym plain) (fits (steps_of c.name) (steps_of d.name)) refl)) ih

local-kept : (cs : Cells) → AllLocal cs → AllLocal (filter is_kept_cell cs)
local-kept [] h = tt
local-kept (c ∷ cs) h = by (not (is_pointer c.sort)) (local-kept cs h.1)
  where
    by : (b : Bool) → AllLocal (filter is_kept_cell cs) → AllLocal (cond b (c ∷ filter is_kept_cell cs) (filter is_kept_cell cs))
    by true ih = (h.0, ih)
    by false ih = ih

abbrev pub name_at : Option Process → Option CellName
name_at o = option_map (λ (q : Process). q.name) o

module _ (p : Program) where
  -- processes keep their names
  pub at-same : (rs qs : List Process) → all_unpointed p rs ≡ Made qs → (n : ℕ) → name_at (slice_get qs n) ≡ name_at (slice_get rs n)
  at-same [] qs e n = ap (λ qs. name_at (slice_get qs n)) (sym (made-is e))
  at-same (r ∷ rs) qs e n =
      let a = and-is (unpointed (at_first p) r.body) (λ body. made_map (λ more. renamed_process (new_number p.cells) r body ∷ more) (all_unpointed p rs)) qs e in
      let b = made-map-is (λ more. renamed_process (new_number p.cells) r a.0 ∷ more) (all_unpointed p rs) qs a.2 in
      ap (λ qs. name_at (slice_get qs n)) (sym b.2) ∙ by a.0 b.0 n (λ n. at-same rs b.0 b.1 n)
    where
      by : (body : _) (more : List Process) (n : ℕ) → ((n : ℕ) → name_at (slice_get more n) ≡ name_at (slice_get rs n)) → name_at (slice_get (renamed_process (new_number p.cells) r body ∷ more) n) ≡ name_at (slice_get (r ∷ rs) n)
      by body more zero ih = refl
      by body more (suc n) ih = ih n

  module _ (qs : List Process) (made : all_unpointed p p.processes ≡ Made qs) where
    abbrev m : Program
    m = record { top = p.top; cells = filter is_kept_cell p.cells; vectors = p.vectors; processes = qs }

    named-resolved : IsNamed p → IsNamed m
    named-resolved named = record {
      processes = λ i q at.
          let x = map-is (slice_get p.processes i) (λ (q : Process). q.name) q.name (sym (at-same p.processes qs made i) ∙ ap name_at at) in
          named-same p p.processes qs made 0 q.name.path ∙ (ap (λ (n : CellName). process_named 0 n.path p.processes) (sym x.2) ∙ named.processes i x.0 x.1);
      locals = local-kept p.cells named.locals;
    }

    path-at : (path : List Part) (a b : Option Process) → name_at a ≡ name_at b → has_path path a ≡ has_path path b
    path-at path None None e = refl
    path-at path None (Some y) e = absurd cc
    path-at path (Some x) None e = absurd cc
    path-at path (Some x) (Some y) e = ap (λ (n : CellName). same_path path n.path) (some-is e)

    own-same : (s : Sort) (path : List Part) → own_is qs s path ≡ own_is p.processes s path
    own-same (Local j) path = path-at path (slice_get qs j) (slice_get p.processes j) (at-same p.processes qs made j)
    own-same Input path = refl
    own-same Output path = refl
    own-same Signal path = refl
    own-same (Variable w f) path = refl
    own-same (Pointer t) path = refl
    own-same (Port t) path = refl

    name-same : (s : Sort) (n : CellName) → name_is qs s n ≡ name_is p.processes s n
    name-same s n = by n.own
      where
        by : (u : Option Own) → name_is qs s (record { path = n.path; own = u; indices = n.indices }) ≡ name_is p.processes s (record { path = n.path; own = u; indices = n.indices })
        by None = refl
        by (Some o) = own-same s n.path

    module _ (told : IsTold p) (sorted : IsSorted p) where
      -- a port's root is found
      root-found : (n : ℕ) (x : Cell) (path : List Part) → slice_get p.cells n ≡ Some x → x.sort ≡ Port path → root_is x.kind (option_and_then (slice_get m.cells) (cell_at false 0 (path_steps path) m.cells)) ≡ true
      root-found n x path at e =
          let u = told.ports n x path at e in
          let found = one-at p told false (path_steps path) u.0 u.1 u.2 (root-plain u.1.sort u.4) (path-closed path) u.3 in
          ap (root_is x.kind) (sym (find-at false (path_steps path) m.cells) ∙ (find-kept (λ c. fits (path_steps path) (steps_of c.name)) p.cells ∙ (find-at false (path_steps path) p.cells ∙ (ap (option_and_then (slice_get p.cells)) found ∙ u.2))))
          ∙ and-both (is_root u.1.sort) _ u.4 u.5

      sort-fits : (n : ℕ) (x : Cell) → slice_get p.cells n ≡ Some x → sort_is m.cells x.kind x.sort ≡ true
      sort-fits n x at = by x.sort refl
        where
          by : (s : Sort) → x.sort ≡ s → sort_is m.cells x.kind s ≡ true
          by Input e = refl
          by Output e = refl
          by Signal e = refl
          by (Local j) e = refl
          by (Pointer t) e = refl
          by (Variable w f) e = sorted.words n x w f at e
          by (Port path) e = root-found n x path at e

      cells-fit : list_all (fit_cell qs m.cells) m.cells ≡ true
      cells-fit = all-kept (fit_cell qs m.cells) p.cells (λ k x at plain. and-both (not (is_pointer x.sort)) (name_is qs x.sort x.name && sort_is m.cells x.kind x.sort) (ap not plain)
          (and-both (name_is qs x.sort x.name) (sort_is m.cells x.kind x.sort) (name-same x.sort x.name ∙ sorted.names k x at plain) (sort-fits k x at)))

      rest-is : IsNamed p → is_resolved m ≡ (list_all (fit_process m.cells) m.processes && keeps_inputs m)
      rest-is named = by (processes_apart qs) (cells_apart m.cells) (list_all (fit_cell qs m.cells) m.cells) (named-apart m (named-resolved named)) (cells-differ p.cells told.names) cells-fit
        where
          by : (a b c : Bool) → a ≡ true → b ≡ true → c ≡ true → (a && (b && (c && (list_all (fit_process m.cells) m.processes && keeps_inputs m)))) ≡ (list_all (fit_process m.cells) m.processes && keeps_inputs m)
          by true true true e f g = refl
          by false b c e f g = absurd cc
          by true false c e f g = absurd cc
          by true true false e f g = absurd cc

-- what is resolved is the core without its pointers' cells
pub named-too : (p r : Program) → resolved_program p ≡ Made r → IsNamed p → IsNamed r
named-too p r e named = let x = made-map-is _ (all_unpointed p p.processes) r e in subst IsNamed x.2 (named-resolved p x.0 x.1 named)

pub rest-of-test : (p r : Program) → resolved_program p ≡ Made r → IsNamed p → IsTold p → IsSorted p → is_resolved r ≡ (list_all (fit_process r.cells) r.processes && keeps_inputs r)
rest-of-test p r e named told sorted = let x = made-map-is _ (all_unpointed p p.processes) r e in
    subst (λ r. is_resolved r ≡ (list_all (fit_process r.cells) r.processes && keeps_inputs r)) x.2 (rest-is p x.0 x.1 told sorted named)
