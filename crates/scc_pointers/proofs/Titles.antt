-- The processes of a core with new numbers are those of the definition in all but their bodies.
use Rattle.std.proofs.Common.{◌≡◌, refl, sym, ap, ◌∙◌, arith, ℕ, zero, suc, ◌+◌, min, Bool, true, false, not, nat_eq, List, [], ◌∷◌, ◌++◌, map, take, length, Option, Some, None, option_map, if◌then◌else◌}
use Rattle.std.specs.Prelude.{filter}
use Rattle.std.proofs.lemmas.Bool.Decides.{nat_tests}
use Rattle.scc_core.specs.declared.program.Cell.{Cell}
use Rattle.scc_core.specs.declared.program.CellSort.{CellSort}
use Rattle.scc_core.specs.declared.program.CellSort.TheVariants as sort
use Rattle.scc_core.specs.declared.program.CoreProcess.{CoreProcess}
use Rattle.scc_core.specs.declared.program.Edge2.{Edge2}
use Rattle.scc_core.specs.declared.program.Reset2.{Reset2}
use Rattle.scc_core_spec.specs.Program as program
use Rattle.scc_core_spec.specs.Code.{Code, End}
use Rattle.scc_core_spec.specs.Resolved.{Tried, Made, Stopped, and_made, made_map}
use Rattle.scc_core_spec.specs.Unpointed.{at_first}
use Rattle.scc_core_view.specs.Codes.{code_of}
use Rattle.scc_pointers_spec.specs.Freed.{all_freed, freed, freed_program}
use Rattle.scc_pointers_laws.proofs.Sound.{same_made}
use Rattle.scc_core_spec.specs.Renumbered.{is_kept_cell, new_number, renamed_code, renamed_edge, renamed_process, renamed_reset}
use Rattle.scc_core.specs.declared.program.Core.{Core}
use Rattle.scc_core_view.specs.Terms.{name_of}
use Rattle.scc_core_view.specs.Programs.{cell_of, cells_of, edge_of, is_thread, process_of, program_of, reset_of, sort_of, vector_of}
use Rattle.scc_pointers.specs.Resolved.{IsRenumbered, KeepsObjects, Title, edge_by, gone, new_numbers, number_in, reset_by, title_in, title_of, without_body}
use Rattle.scc_pointers_walk.specs.Pointers.{is_of_pointer, is_pointer}

sort_is : (s : CellSort) → program.is_pointer (sort_of s) ≡ is_of_pointer s
sort_is sort.Input = refl
sort_is sort.Output = refl
sort_is sort.Signal = refl
sort_is (sort.Variable w f) = refl
sort_is (sort.Local n) = refl
sort_is (sort.Pointer t) = refl
sort_is (sort.Port p) = refl

pub kept_is : (c : Cell) → is_kept_cell (cell_of c) ≡ not (is_pointer c)
kept_is c = ap not (sort_is c.sort)

-- ---- numbers

some_same : {A : Type 0} {a b : A} → Some a ≡ Some b → a ≡ b
some_same {A = A} {a = a} e = ap (λ o. unwrapped o) e
  where
    unwrapped : Option A → A
    unwrapped None = a
    unwrapped (Some x) = x

first_number : (n k : ℕ) → (if nat_eq (min n gone) gone then None else Some (min n gone)) ≡ Some k → k ≡ n + 0
first_number n k e = by (nat_eq (min n gone) gone) refl e
  where
    by : (b : Bool) → nat_eq (min n gone) gone ≡ b → (if b then None else Some (min n gone)) ≡ Some k → k ≡ n + 0
    by true h e = absurd cc
    by false h e = let f : min n gone ≡ k = some_same e in grind (arith, nat_tests)

pub numbered_from : (cells : List Cell) (n i k : ℕ) → number_in (new_numbers n cells) i ≡ Some k → k ≡ n + new_number (map cell_of cells) i
numbered_from [] n i k e = absurd cc
numbered_from (c ∷ cs) n zero k e = by (is_pointer c) e
  where
    by : (b : Bool) → number_in (if b then gone ∷ new_numbers n cs else min n gone ∷ new_numbers (n + 1) cs) zero ≡ Some k → k ≡ n + 0
    by true e = absurd cc
    by false e = first_number n k e
numbered_from (c ∷ cs) n (suc i) k e = by (is_pointer c) refl e (numbered_from cs n i k) (numbered_from cs (n + 1) i k)
  where
    by : (b : Bool) → is_pointer c ≡ b → number_in (if b then gone ∷ new_numbers n cs else min n gone ∷ new_numbers (n + 1) cs) (suc i) ≡ Some k
        → (number_in (new_numbers n cs) i ≡ Some k → k ≡ n + new_number (map cell_of cs) i)
        → (number_in (new_numbers (n + 1) cs) i ≡ Some k → k ≡ (n + 1) + new_number (map cell_of cs) i)
        → k ≡ n + new_number (map cell_of (c ∷ cs)) (suc i)
    by true p e f g = f e ∙ ap (λ b. n + length (if b then cell_of c ∷ filter is_kept_cell (take i (map cell_of cs)) else filter is_kept_cell (take i (map cell_of cs)))) (sym (kept_is c ∙ ap not p))
    by false p e f g =
        g e ∙ (let h : (n + 1) + new_number (map cell_of cs) i ≡ n + suc (new_number (map cell_of cs) i) = omega arith in h)
        ∙ ap (λ b. n + length (if b then cell_of c ∷ filter is_kept_cell (take i (map cell_of cs)) else filter is_kept_cell (take i (map cell_of cs)))) (sym (kept_is c ∙ ap not p))

pub numbered : (cells : List Cell) (i k : ℕ) → number_in (new_numbers 0 cells) i ≡ Some k → new_number (map cell_of cells) i ≡ k
numbered cells i k e = let f : k ≡ 0 + new_number (map cell_of cells) i = numbered_from cells 0 i k e in omega (arith, f)

-- ---- cells

pub cells_kept : (cells : List Cell) → map cell_of (filter (λ x. not (is_pointer x)) cells) ≡ filter is_kept_cell (map cell_of cells)
cells_kept [] = refl
cells_kept (c ∷ cs) = by (is_pointer c) (kept_is c) (cells_kept cs)
  where
    by : (b : Bool) → is_kept_cell (cell_of c) ≡ not b → map cell_of (filter (λ x. not (is_pointer x)) cs) ≡ filter is_kept_cell (map cell_of cs)
        → map cell_of (if not b then c ∷ filter (λ x. not (is_pointer x)) cs else filter (λ x. not (is_pointer x)) cs) ≡ (if is_kept_cell (cell_of c) then cell_of c ∷ filter is_kept_cell (map cell_of cs) else filter is_kept_cell (map cell_of cs))
    by true h r = r ∙ ap (λ b. if b then cell_of c ∷ filter is_kept_cell (map cell_of cs) else filter is_kept_cell (map cell_of cs)) (sym h)
    by false h r = ap (λ l. cell_of c ∷ l) r ∙ ap (λ b. if b then cell_of c ∷ filter is_kept_cell (map cell_of cs) else filter is_kept_cell (map cell_of cs)) (sym h)

-- ---- processes

-- the numbers that are found are these
abbrev pub Found : List ℕ → (ℕ → ℕ) → Type 0
Found ns f = (i k : ℕ) → number_in ns i ≡ Some k → f i ≡ k

senses_are : (ns : List ℕ) (f : ℕ → ℕ) → Found ns f → (xs ys : List ℕ) → map Some xs ≡ map (number_in ns) ys → xs ≡ map f ys
senses_are ns f h [] [] e = refl
senses_are ns f h [] (y ∷ ys) e = absurd cc
senses_are ns f h (x ∷ xs) [] e = absurd cc
senses_are ns f h (x ∷ xs) (y ∷ ys) e = (λ i. sym (h y x (sym (head_is e))) i ∷ senses_are ns f h xs ys (tail_is e) i)
  where
    head_or : List (Option ℕ) → Option ℕ
    head_or [] = None
    head_or (o ∷ os) = o

    tail_of : List (Option ℕ) → List (Option ℕ)
    tail_of [] = []
    tail_of (o ∷ os) = os

    head_is : (Some x ∷ map Some xs) ≡ (number_in ns y ∷ map (number_in ns) ys) → Some x ≡ number_in ns y
    head_is e = ap head_or e

    tail_is : (Some x ∷ map Some xs) ≡ (number_in ns y ∷ map (number_in ns) ys) → map Some xs ≡ map (number_in ns) ys
    tail_is e = ap tail_of e

edge_is : (ns : List ℕ) (f : ℕ → ℕ) → Found ns f → (a b : Option Edge2) → option_map (edge_by Some) a ≡ option_map (edge_by (number_in ns)) b → option_map edge_of a ≡ option_map (renamed_edge f) (option_map edge_of b)
edge_is ns f h None None e = refl
edge_is ns f h None (Some y) e = absurd cc
edge_is ns f h (Some x) None e = absurd cc
edge_is ns f h (Some x) (Some y) e =
    let g : (Some x.cell, x.rising) ≡ (number_in ns y.cell, y.rising) = some_same e in
    λ i. Some (record { cell = sym (h y.cell x.cell (sym (ap (λ q. q.0) g))) i; rising = ap (λ q. q.1) g i })

reset_is : (ns : List ℕ) (f : ℕ → ℕ) → Found ns f → (a b : Option Reset2) → option_map (reset_by Some) a ≡ option_map (reset_by (number_in ns)) b → option_map reset_of a ≡ option_map (renamed_reset f) (option_map reset_of b)
reset_is ns f h None None e = refl
reset_is ns f h None (Some y) e = absurd cc
reset_is ns f h (Some x) None e = absurd cc
reset_is ns f h (Some x) (Some y) e =
    let g : (Some x.cell, x.level, x.asynchronous) ≡ (number_in ns y.cell, y.level, y.asynchronous) = some_same e in
    λ i. Some (record { cell = sym (h y.cell x.cell (sym (ap (λ q. q.0) g))) i; level = ap (λ q. q.1) g i; asynchronous = ap (λ q. q.2) g i })

process_is : (ns : List ℕ) (f : ℕ → ℕ) → Found ns f → (q p : CoreProcess) → title_of q ≡ title_in ns p
    → without_body (process_of q) ≡ renamed_process f (process_of p) End
process_is ns f h q p e = λ i. record {
  is_thread = is_thread (ap (λ t. t.sort) e i);
  name = name_of (ap (λ t. t.name) e i);
  place = ap (λ t. t.place) e i;
  senses = senses_are ns f h q.senses p.senses (ap (λ t. t.senses) e) i;
  edge = edge_is ns f h q.edge p.edge (ap (λ t. t.edge) e) i;
  reset = reset_is ns f h q.reset p.reset (ap (λ t. t.reset) e) i;
  body = End;
}

processes_are : (ns : List ℕ) (f : ℕ → ℕ) → Found ns f → (qs ps : List CoreProcess) → map title_of qs ≡ map (title_in ns) ps
    → map without_body (map process_of qs) ≡ map (λ q. renamed_process f q End) (map process_of ps)
processes_are ns f h [] [] e = refl
processes_are ns f h [] (p ∷ ps) e = absurd cc
processes_are ns f h (q ∷ qs) [] e = absurd cc
processes_are ns f h (q ∷ qs) (p ∷ ps) e = λ i. process_is ns f h q p (ap head_or e) i ∷ processes_are ns f h qs ps (ap tail_of e) i
  where
    head_or : List Title → Title
    head_or [] = title_of q
    head_or (t ∷ ts) = t

    tail_of : List Title → List Title
    tail_of [] = []
    tail_of (t ∷ ts) = ts

-- a core whose parts are so is renumbered
pub renumbered_is : (c m : Core) → m.top ≡ c.top → m.cells ≡ filter (λ x. not (is_pointer x)) c.cells → m.vectors ≡ c.vectors
    → map title_of m.processes ≡ map (title_in (new_numbers 0 c.cells)) c.processes → IsRenumbered (program_of c) (program_of m)
renumbered_is c m top cells vectors processes = record {
  top = ap (λ t. t.0) top;
  cells = ap (map cell_of) cells ∙ cells_kept c.cells;
  vectors = ap (map vector_of) vectors;
  processes = processes_are (new_numbers 0 c.cells) (new_number (cells_of c)) (numbered c.cells) m.processes c.processes processes;
}

pub keeps_objects : (c m : Core) → m.top ≡ c.top → m.cells ≡ filter (λ x. not (is_pointer x)) c.cells → m.vectors ≡ c.vectors
    → map title_of m.processes ≡ map (title_in (new_numbers 0 c.cells)) c.processes → KeepsObjects c m
keeps_objects c m top cells vectors processes = record { program = renumbered_is c m top cells vectors processes }

-- ---- processes with their bodies

full_is : (ns : List ℕ) (f : ℕ → ℕ) → Found ns f → (q p : CoreProcess) (b : Code) → title_of q ≡ title_in ns p → code_of q.body ≡ renamed_code f b → process_of q ≡ renamed_process f (process_of p) b
full_is ns f h q p b e g =
    let w = process_is ns f h q p e in
    λ i. record { is_thread = (w i).is_thread; name = (w i).name; place = (w i).place; senses = (w i).senses; edge = (w i).edge; reset = (w i).reset; body = g i }

map_one : {A B : Type 0} (f : A → B) (ys : List A) (p : A) → map f (ys ++ p ∷ []) ≡ map f ys ++ f p ∷ []
map_one f [] p = refl
map_one f (y ∷ ys) p = ap (λ l. f y ∷ l) (map_one f ys p)

module _ (p : program.Program) where
  abbrev with : program.Process → Code → List program.Process → List program.Process
  with q body more = renamed_process (new_number p.cells) q body ∷ more

  made_more : (xs : List CoreProcess) (q : CoreProcess) (ms : List program.Process) → all_freed p (map process_of xs) ≡ Made ms → (b : Code) → freed (at_first p) (code_of q.body) ≡ Made b
      → all_freed p (map process_of (xs ++ q ∷ [])) ≡ Made (ms ++ renamed_process (new_number p.cells) (process_of q) b ∷ [])
  made_more [] q ms e b g = ap (λ t. and_made t (λ body. made_map (with (process_of q) body) (Made []))) g ∙ ap (λ l. Made (l ++ renamed_process (new_number p.cells) (process_of q) b ∷ [])) (same_made e)
  made_more (x ∷ xs) q ms e b g = by (freed (at_first p) (code_of x.body)) (all_freed p (map process_of xs)) (all_freed p (map process_of (xs ++ q ∷ []))) e (λ ns h. made_more xs q ns h b g)
    where
      by : (t : Tried Code) (u w : Tried (List program.Process)) → and_made t (λ body. made_map (with (process_of x) body) u) ≡ Made ms
          → ((ns : List program.Process) → u ≡ Made ns → w ≡ Made (ns ++ renamed_process (new_number p.cells) (process_of q) b ∷ []))
          → and_made t (λ body. made_map (with (process_of x) body) w) ≡ Made (ms ++ renamed_process (new_number p.cells) (process_of q) b ∷ [])
      by (Made c) (Made ns) w e f = ap (made_map (with (process_of x) c)) (f ns refl) ∙ ap (λ l. Made (l ++ renamed_process (new_number p.cells) (process_of q) b ∷ [])) (same_made e)
      by (Made c) (Stopped r) w e f = absurd cc
      by (Stopped r) u w e f = absurd cc

  pub given_more : (ns : List ℕ) → Found ns (new_number p.cells) → (os us ys : List CoreProcess) (n q : CoreProcess) → us ≡ os ++ n ∷ [] → all_freed p (map process_of ys) ≡ Made (map process_of os) → (b : Code) → freed (at_first p) (code_of q.body) ≡ Made b
      → title_of n ≡ title_in ns q → code_of n.body ≡ renamed_code (new_number p.cells) b → all_freed p (map process_of (ys ++ q ∷ [])) ≡ Made (map process_of us)
  given_more ns h os us ys n q e inv b g t k =
      made_more ys q (map process_of os) inv b g
      ∙ ap Made ((λ i. map process_of os ++ sym (full_is ns (new_number p.cells) h n q b t k) i ∷ []) ∙ (sym (map_one process_of os n) ∙ ap (map process_of) (sym e)))

-- the program of the core that is given
pub program_is : (c m : Core) → m.top ≡ c.top → m.cells ≡ filter (λ x. not (is_pointer x)) c.cells → m.vectors ≡ c.vectors → all_freed (program_of c) (map process_of c.processes) ≡ Made (map process_of m.processes) → freed_program (program_of c) ≡ Made (program_of m)
program_is c m top cells vectors e =
    ap (made_map (λ processes. record { top = c.top.0; cells = filter is_kept_cell (cells_of c); vectors = map vector_of c.vectors; processes = processes })) e
    ∙ (λ i. Made (record { top = (sym top i).0; cells = (sym (cells_kept c.cells) ∙ ap (map cell_of) (sym cells)) i; vectors = map vector_of (sym vectors i); processes = map process_of m.processes }))
