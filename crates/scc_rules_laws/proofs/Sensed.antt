-- Rules on reads and on writes by lists of them.
use Rattle.std.proofs.Common.{◌≡◌, refl, sym, ap, ◌∙◌, ℕ, suc, Bool, true, false, not, ◌&&◌, List, [], ◌∷◌, ◌++◌, map, Option, Some, None, if◌then◌else◌}
use Rattle.std.specs.Prelude.{flat_map}
use Rattle.std.specs.List.{list_any}
use Rattle.scc_base.specs.declared.refusal.Place.{Place}
use Rattle.scc_base.specs.declared.code.Code.{Code as Reason}
use Rattle.scc_base.specs.declared.code.Code.TheVariants as reason
use Rattle.scc_core_spec.specs.Clashes.{live_acts}
use Rattle.scc_core_spec.specs.First.{or_else, first_of, when, refused}
use Rattle.scc_core_spec.specs.Program.{Process, Program, is_root, is_combinational}
use Rattle.scc_core_spec.specs.Rules.{first_read, clock_as_data, clocks, missing_sensitivity, reset_cells}
use Rattle.scc_core_spec.specs.Static.{Cells}
use Rattle.scc_core_spec.specs.Term.{Left, Pick}
use Rattle.scc_core_spec.specs.Uses.{Act, among, cells_of, has_sort}
use Rattle.scc_rules_laws.specs.Found.{clock_used, first_along, is_unlisted, only, read_found, unlisted_read}
use Rattle.scc_rules_laws.specs.Seen.{Seen, AreSeen, AreThinned, put_at, read_at, seen_at, seen_from, seen_in}
use Rattle.scc_rules_laws.proofs.Firsts.{first_append, first_map, or_none, only_none}
use Rattle.scc_rules_laws.proofs.Thinned.{IsAsked, thinned}

-- ---- reads

put_unread : (code : Reason) (test : ℕ → Bool) (cs : Cells) (n : ℕ) (at : Place) (w : Option (Left × Pick)) → first_of (read_found code test) (put_at cs n at w) ≡ None
put_unread code test cs n at None = refl
put_unread code test cs n at (Some w) = refl

act_reads : (code : Reason) (test : ℕ → Bool) (cs : Cells) (n : ℕ) (a : Act)
    → first_of (λ u. when (list_any test (cells_of cs u.left)) (refused code u.place)) a.reads ≡ first_of (read_found code test) (seen_at cs n a)
act_reads code test cs n a =
    sym (or_none _)
    ∙ ap (or_else (first_of (λ u. when (list_any test (cells_of cs u.left)) (refused code u.place)) a.reads)) (sym (put_unread code test cs n a.place a.writes))
    ∙ ap (λ o. or_else o (first_of (read_found code test) (put_at cs n a.place a.writes))) (sym (first_map (read_found code test) (read_at cs n a.place) a.reads))
    ∙ sym (first_append (read_found code test) (map (read_at cs n a.place) a.reads) (put_at cs n a.place a.writes))

pub reads_seen : (code : Reason) (test : ℕ → Bool) (cs : Cells) (n : ℕ) (said : List Act) → first_read code test cs said ≡ first_of (read_found code test) (seen_from cs n said)
reads_seen code test cs n [] = refl
reads_seen code test cs n (a ∷ said) =
    first_append (λ u. when (list_any test (cells_of cs u.left)) (refused code u.place)) a.reads (flat_map (λ b. b.reads) said)
    ∙ ap (λ o. or_else o (first_read code test cs said)) (act_reads code test cs n a)
    ∙ ap (or_else (first_of (read_found code test) (seen_at cs n a))) (reads_seen code test cs (suc n) said)
    ∙ sym (first_append (read_found code test) (seen_at cs n a) (seen_from cs (suc n) said))

when_none : {A B : Type 0} (b c : Bool) (x : A) (y : B) → b ≡ c → when c y ≡ None → when b x ≡ None
when_none true true x y e h = absurd cc
when_none true false x y e h = absurd cc
when_none false c x y e h = refl

only_when : {A : Type 0} (w v : Bool) (b c : Bool) (x y : A) → w ≡ v → b ≡ c → only v (when c y) ≡ None → only w (when b x) ≡ None
only_when true true b c x y e f h = when_none b c x y f h
only_when true false b c x y e f h = absurd cc
only_when false v b c x y e f h = refl

pub read_asked : (code : Reason) (test : ℕ → Bool) → IsAsked (read_found code test)
read_asked code test = record {
  blank = λ s e. ap (λ xs. only (not s.write) (when (list_any test xs) (refused code s.place))) e ∙ only_none (not s.write);
  alike = λ s t e f h. only_when (not s.write) (not t.write) (list_any test s.cells) (list_any test t.cells) (refused code s.place) (refused code t.place) (ap not f) (ap (list_any test) e) h;
}

-- ---- process by process

pub along_seen : {R : Type 0} (cs : Cells) (f : Process → List Seen → Option R) (g : Process → Option R)
    → ((q : Process) (t : List Seen) → AreThinned (seen_in cs q ∷ []) (t ∷ []) → f q t ≡ g q)
    → (qs : List Process) (thin : List (List Seen)) → AreThinned (map (seen_in cs) qs) thin → first_along f qs thin ≡ first_of g qs
along_seen cs f g h [] thin is = refl
along_seen cs f g h (q ∷ qs) [] is = absurd is
along_seen cs f g h (q ∷ qs) (t ∷ thin) is = ap (λ o. or_else o (first_along f qs thin)) (h q t (is.0, tt)) ∙ ap (or_else (g q)) (along_seen cs f g h qs thin is.1)

pub clocks_told : (p : Program) (thin : List (List Seen)) → AreSeen p thin → first_along (clock_used (λ n. among n (clocks p))) p.processes thin ≡ clock_as_data p
clocks_told p thin is = along_seen p.cells (clock_used (λ n. among n (clocks p))) _ each p.processes thin is
  where
    each : (q : Process) (t : List Seen) → AreThinned (seen_in p.cells q ∷ []) (t ∷ [])
        → clock_used (λ n. among n (clocks p)) q t
        ≡ or_else (when (list_any (λ n. among n (clocks p)) (reset_cells q.reset ++ q.senses)) (refused reason.ClockAsData q.place)) (first_read reason.ClockAsData (λ n. among n (clocks p)) p.cells (live_acts p.cells q))
    each q t k = ap (or_else (when (list_any (λ n. among n (clocks p)) (reset_cells q.reset ++ q.senses)) (refused reason.ClockAsData q.place)))
        (sym (thinned (read_found reason.ClockAsData (λ n. among n (clocks p))) (read_asked reason.ClockAsData (λ n. among n (clocks p))) [] (seen_in p.cells q) t k.0 tt)
        ∙ sym (reads_seen reason.ClockAsData (λ n. among n (clocks p)) p.cells 0 (live_acts p.cells q)))

pub only_if : {A : Type 0} (b : Bool) (o : Option A) → only b o ≡ (if b then o else None)
only_if true o = refl
only_if false o = refl

pub senses_told : (p : Program) (thin : List (List Seen)) → AreSeen p thin → first_along (unlisted_read p.cells) p.processes thin ≡ missing_sensitivity p
senses_told p thin is = along_seen p.cells (unlisted_read p.cells) _ each p.processes thin is
  where
    each : (q : Process) (t : List Seen) → AreThinned (seen_in p.cells q ∷ []) (t ∷ [])
        → unlisted_read p.cells q t
        ≡ (if is_combinational q then first_read reason.MissingSensitivity (λ n. has_sort is_root p.cells n && not (among n q.senses)) p.cells (live_acts p.cells q) else None)
    each q t k =
        only_if (is_combinational q) (first_of (read_found reason.MissingSensitivity (is_unlisted p.cells q.senses)) t)
        ∙ ap (λ o. if is_combinational q then o else None)
        (sym (thinned (read_found reason.MissingSensitivity (is_unlisted p.cells q.senses)) (read_asked reason.MissingSensitivity (is_unlisted p.cells q.senses)) [] (seen_in p.cells q) t k.0 tt)
        ∙ sym (reads_seen reason.MissingSensitivity (is_unlisted p.cells q.senses) p.cells 0 (live_acts p.cells q)))
