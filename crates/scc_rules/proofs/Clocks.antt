-- Clocks as data, process by process.
use Rattle.std.proofs.Common.{◌≡◌, refl, sym, ap, ◌∙◌, subst, ℕ, zero, suc, Bool, true, false, ◌||◌, List, [], ◌∷◌, ◌++◌, map, get_or, length, ◌<◌, Option, Some, None}
use Rattle.std.specs.Prelude.{flat_map}
use Rattle.std.specs.List.{list_any}
use Rattle.std.proofs.lemmas.List.Folds.{flat_map-map}
use Rattle.scc_base.specs.declared.code.Code.TheVariants as reason
use Rattle.scc_base.specs.declared.refusal.Refusal.{Refusal}
use Rattle.scc_core.specs.declared.program.CoreProcess.{CoreProcess}
use Rattle.scc_core_flow.specs.declared.marks.Mark.{Mark}
use Rattle.scc_core_spec.specs.First.{first_of, or_else, refused, when}
use Rattle.scc_core_spec.specs.Program.{Program}
use Rattle.scc_core_spec.specs.Rules.{clock_as_data, clocks, edge_cells, reset_cells}
use Rattle.scc_core_spec.specs.Uses.{among}
use Rattle.scc_core_view.specs.Programs.{process_of, program_of}
use Rattle.scc_rules_laws.specs.Found.{clock_used, first_along, read_found}
use Rattle.scc_rules_laws.specs.Seen.{AreSeen}
use Rattle.scc_rules_laws.proofs.Sensed.{clocks_told}
use Rattle.scc_rules_walks.specs.Cells.{has_flag}
use Rattle.scc_rules.specs.declared.facts.Facts.{Facts}
use Rattle.scc_rules.specs.Marks.{HasMarks, clocks_in, seen_all, seen_in, seen_of}
use Rattle.scc_rules.proofs.Firsts.{first_map}

pub clock_unsensed : (f : Facts) (p : CoreProcess) (ms : List Mark) (test : ℕ → Bool) (found : Option Refusal) → list_any test (reset_cells (process_of p).reset ++ p.senses) ≡ false
    → found ≡ first_of (λ m. read_found reason.ClockAsData test (seen_of f m)) ms → found ≡ clock_used test (process_of p) (seen_in f ms)
clock_unsensed f p ms test found none h =
    h ∙ sym (first_map (read_found reason.ClockAsData test) (seen_of f) ms)
    ∙ ap (λ b. or_else (when b (refused reason.ClockAsData p.place)) (first_of (read_found reason.ClockAsData test) (seen_in f ms))) (sym none)

pub along_source : {A B C D : Type 0} (f : B → C → Option D) (g : A → B) (xs : List A) (ys : List C) → first_along f (map g xs) ys ≡ first_along (λ x. f (g x)) xs ys
along_source f g [] ys = refl
along_source f g (x ∷ xs) [] = refl
along_source f g (x ∷ xs) (y ∷ ys) = ap (or_else (f (g x) y)) (along_source f g xs ys)

pub or_nothing : (b : Bool) → (b || false) ≡ b
or_nothing true = refl
or_nothing false = refl

pub clocks_found : (f : Facts) (p : Program) (set : List Bool) → HasMarks f p → ((n : ℕ) → has_flag set n ≡ among n (clocks_in f.core.now.processes))
    → first_along (λ q. clock_used (has_flag set) (process_of q)) f.core.now.processes (seen_all f) ≡ clock_as_data p
clocks_found f p set h told =
    let c = f.core.now in
    let q = program_of c in
    ap (λ t. first_along (λ r. clock_used t (process_of r)) c.processes (seen_all f)) (λ i n. (told n ∙ ap (among n) (sym (flat_map-map (λ r. edge_cells r.edge) process_of c.processes))) i)
    ∙ sym (along_source (clock_used (λ n. among n (clocks q))) process_of c.processes (seen_all f))
    ∙ clocks_told q (seen_all f) (subst (λ r. AreSeen r (seen_all f)) h.core h.seen)
    ∙ ap clock_as_data (sym h.core)

-- the marks of one process
map_long : {A B : Type 0} (f : A → B) (xs : List A) → length (map f xs) ≡ length xs
map_long f [] = refl
map_long f (x ∷ xs) = ap (λ n. suc n) (map_long f xs)

pub seen_below : (f : Facts) (k : ℕ) → k < length f.marks.items → k < length (seen_all f)
seen_below f k h = subst (λ n. k < n) (sym (map_long (seen_in f) f.marks.items)) h

map_at : {A B : Type 0} (f : A → B) (xs : List A) (k : ℕ) (x : A) → x ≡ get_or xs k x → f x ≡ get_or (map f xs) k (f x)
map_at f [] k x is = refl
map_at f (y ∷ xs) zero x is = ap f is
map_at f (y ∷ xs) (suc k) x is = map_at f xs k x is

pub seen_at : (f : Facts) (k : ℕ) (ms : List Mark) → ms ≡ get_or f.marks.items k ms → seen_in f ms ≡ get_or (seen_all f) k (seen_in f ms)
seen_at f k ms is = map_at (seen_in f) f.marks.items k ms is
