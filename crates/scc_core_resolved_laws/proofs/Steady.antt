-- A resolved core is steady: over its resumes words stay proper.
use Rattle.std.proofs.Common.{◌≡◌, ℕ, suc, ◌+◌, Bool, true, false, ◌&&◌, List, [], ◌∷◌, Option, Some, None, refl, sym, subst, arith}
use Rattle.std.specs.Prelude.{slice_get, if◌then◌else◌}
use Rattle.scc_semantics.specs.Location.{Location}
use Rattle.scc_semantics.specs.Design as running
use Rattle.scc_semantics.specs.Design.{TopPort, Direction, inputs, locations, is_clock}
use Rattle.scc_semantics.specs.Machine.{Frames, Outcome, Suspended, Ended, Stuck, Unfinished}
use Rattle.scc_semantics.specs.Process.{first_frames}
use Rattle.scc_semantics.specs.Start.{IsProper}
use Rattle.scc_semantics.specs.Same.{Turn, Seen, Middle, Plays, AllProper, at_first, seen_of, left_in, leading, resumed}
use Rattle.scc_semantics.specs.Steady.{plain_expr, plain_left, plain_pick, plain_body, AllProperRequests, AllProperSeen, IsSteadyProcess, AllSteady}
use Rattle.scc_core_spec.specs.Term.{Term, Literal, Load, Read, Convert, Unary, Binary, Choose, Bit, Range, Join, Left, Cell, Prefix, Null, Follow, Member, Index, Pick, Whole, OneBit, Bits}
use Rattle.scc_core_spec.specs.Code.{Code, End, Put, Aim, If, Block, Loop, Exit, Wait}
use Rattle.scc_core_spec.specs.Program.{Program, Process, is_input, is_output}
use Rattle.scc_core_spec.specs.Program as program
use Rattle.scc_core_spec.specs.Constants.{constants_of}
use Rattle.scc_core_spec.specs.Source.{Home, source_of, processes_from, cell_left, expr_of, left_of, pick_of, body_of}
use Rattle.scc_blocks_spec.specs.Passed.{IsHome}
use Rattle.scc_states_laws.specs.Processes.{running_of}
use Rattle.scc_states_laws.specs.Alike.{IsFit, IsFitLeft, IsFitPick, IsFitCode}
use Rattle.scc_states_laws.proofs.Values.{some_same}
use Rattle.scc_core_spec.specs.IsResolved.{IsResolved}
use Rattle.scc_core_resolved_laws.proofs.Bools.{and-both}
use Rattle.scc_core_resolved_laws.proofs.Parts.{fits}
use Rattle.scc_core_resolved_laws.proofs.Assigned.{Proper}
use Rattle.scc_core_resolved_laws.proofs.Standing.{Stands, stops, Fine, run-fine}
use Rattle.scc_core_resolved_laws.proofs.Coming.{first-stands}
use Rattle.scc_core_resolved_laws.proofs.Apart.{tells-apart}
use Rattle.scc_core_resolved_laws.proofs.Freed.{written-free}

module _ (home : Home) (cs : List program.Cell) (i : ℕ) (q : Process) where
  plain-cell : (o : Option program.Cell) → plain_left (cell_left home cs i o) ≡ true
  plain-cell None = refl
  plain-cell (Some c) = refl

  mutual
    plain-term : (e : Term) → IsFit q cs e → plain_expr (expr_of home cs i e) ≡ true
    plain-term (Literal p k w) f = refl
    plain-term (Load p k l) f = plain-at l f.0
    plain-term (Read p k l) f = plain-at l f.0
    plain-term (Convert p k e) f = plain-term e f
    plain-term (Unary p k o e) f = plain-term e f.1
    plain-term (Binary p k o a b) f = and-both (plain_expr (expr_of home cs i a)) (plain_expr (expr_of home cs i b)) (plain-term a f.1) (plain-term b f.2)
    plain-term (Choose p k t a b) f =
        and-both (plain_expr (expr_of home cs i t)) (plain_expr (expr_of home cs i a) && plain_expr (expr_of home cs i b)) (plain-term t f.0)
        (and-both (plain_expr (expr_of home cs i a)) (plain_expr (expr_of home cs i b)) (plain-term a f.1) (plain-term b f.2))
    plain-term (Bit p a e) f = and-both (plain_expr (expr_of home cs i a)) (plain_expr (expr_of home cs i e)) (plain-term a f.0) (plain-term e f.1)
    plain-term (Range p k a h l) f = plain-term a f
    plain-term (Join p k a b) f = and-both (plain_expr (expr_of home cs i a)) (plain_expr (expr_of home cs i b)) (plain-term a f.0) (plain-term b f.1)

    plain-at : (l : Left) → IsFitLeft q cs l → plain_left (left_of home cs i l) ≡ true
    plain-at (Cell p n) f = plain-cell (slice_get cs n)
    plain-at (Prefix p name) f = refl
    plain-at (Null p) f = absurd f
    plain-at (Follow p soft l) f = absurd f
    plain-at (Member l name) f = plain-at l f
    plain-at (Index l size e) f = and-both (plain_left (left_of home cs i l)) (plain_expr (expr_of home cs i e)) (plain-at l f.0) (plain-term e f.1)

  plain-part : (k : Pick) → IsFitPick q cs k → plain_pick (pick_of home cs i k) ≡ true
  plain-part Whole f = refl
  plain-part (OneBit e) f = plain-term e f
  plain-part (Bits h l) f = refl

  pub plain-code : (c : Code) → IsFitCode q cs c → plain_body (body_of home cs i c) ≡ true
  plain-code End f = refl
  plain-code (Put p l k e r) f =
      and-both (plain_left (left_of home cs i l)) (plain_pick (pick_of home cs i k) && (plain_expr (expr_of home cs i e) && plain_body (body_of home cs i r))) (plain-at l f.0)
      (and-both (plain_pick (pick_of home cs i k)) (plain_expr (expr_of home cs i e) && plain_body (body_of home cs i r)) (plain-part k f.1)
      (and-both (plain_expr (expr_of home cs i e)) (plain_body (body_of home cs i r)) (plain-term e f.2) (plain-code r f.3)))
  plain-code (Aim p to t r) f = absurd f
  plain-code (If p t a b r) f =
      and-both (plain_expr (expr_of home cs i t)) (plain_body (body_of home cs i a) && (plain_body (body_of home cs i b) && plain_body (body_of home cs i r))) (plain-term t f.0)
      (and-both (plain_body (body_of home cs i a)) (plain_body (body_of home cs i b) && plain_body (body_of home cs i r)) (plain-code a f.1)
      (and-both (plain_body (body_of home cs i b)) (plain_body (body_of home cs i r)) (plain-code b f.2) (plain-code r f.3)))
  plain-code (Block p b r) f = and-both (plain_body (body_of home cs i b)) (plain_body (body_of home cs i r)) (plain-code b f.0) (plain-code r f.1)
  plain-code (Loop p n b r) f = and-both (plain_body (body_of home cs i b)) (plain_body (body_of home cs i r)) (plain-code b f.0) (plain-code r f.1)
  plain-code (Exit p n r) f = plain-code r f
  plain-code (Wait p l n r) f = plain-code r f

module _ (home : Home) (is : IsHome home) (p : Program) (r : IsResolved p) where
  abbrev D : running.Design
  D = source_of home p (constants_of home p)

  module _ (i : ℕ) (q : Process) (g : slice_get p.processes i ≡ Some q) where
    abbrev P : running.Process
    P = running_of home p i q

    abbrev F : Outcome → Type 0
    F = Fine home (constants_of home p) p i q

    abbrev S : Frames → Type 0
    S = Stands home (constants_of home p) p i q

    begins-there : S (first_frames i P)
    begins-there = first-stands home (constants_of home p) p i q (tells-apart home is p r i q g) r g (λ n w. written-free home is p r i n q g w)

    seen-fine : (before : Location → Option Location) (o : Outcome) (s : Seen) → F o → seen_of i before o ≡ Some s → IsProper D s.words × AllProperRequests D s.requests
    unfolding Fine Proper
    seen-fine before (Suspended f h) s t e = subst (λ s. IsProper D s.words × AllProperRequests D s.requests) (some_same e) t.1
    seen-fine before (Ended h) s t e = subst (λ s. IsProper D s.words × AllProperRequests D s.requests) (some_same e) t
    seen-fine before (Stuck h) s t e = subst (λ s. IsProper D s.words × AllProperRequests D s.requests) (some_same e) t
    seen-fine before Unfinished s t e = absurd cc

    left-stands : (o : Outcome) (m : Middle) → F o → S m.frames → S (left_in o m).frames
    unfolding Fine
    left-stands (Suspended f h) m t s = t.0
    left-stands (Ended h) m t s = stops
    left-stands (Stuck h) m t s = s
    left-stands Unfinished m t s = s

    goes : (b : Bool) (f : Frames) → S f → S (if b then first_frames i P else f)
    goes true f s = begins-there
    goes false f s = s

    fresh-proper : (words : Location → ℕ) (targets : Location → Option Location) → IsProper D words → Proper D (record { store = record { words = words; targets = targets }; requests = [] })
    unfolding Proper
    fresh-proper words targets w = (w, tt)

    turn-fine : (n : ℕ) (t : Turn) (m : Middle) → IsProper D t.words → IsProper D t.signals → S m.frames → F (resumed D i P n t m)
    turn-fine n t m words signals s =
        run-fine home (constants_of home p) p i q t.signals (tells-apart home is p r i q g) r signals n (if t.restarts then first_frames i P else m.frames)
        (record { store = record { words = t.words; targets = leading i t m }; requests = [] }) (goes t.restarts m.frames s) (fresh-proper t.words (leading i t m) words)

    plays-proper : (ns : List ℕ) (ts : List Turn) (os : List Seen) (m : Middle) → S m.frames → AllProper D ts → Plays D i P m ns ts os → AllProperSeen D os
    plays-proper [] [] [] m s a e = tt
    plays-proper (n ∷ ns) (t ∷ ts) (o ∷ os) m s a e =
        let f = turn-fine n t m a.0 a.1 s in
        let w = seen-fine (leading i t m) (resumed D i P n t m) o f e.0 in
        (w.0, w.1, plays-proper ns ts os (left_in (resumed D i P n t m) m) (left-stands (resumed D i P n t m) m f s) a.2 e.1)
    plays-proper [] [] (o ∷ os) m s a e = absurd e
    plays-proper [] (t ∷ ts) os m s a e = absurd e
    plays-proper (n ∷ ns) [] os m s a e = absurd e
    plays-proper (n ∷ ns) (t ∷ ts) [] m s a e = absurd e

    steady-process : IsSteadyProcess D i P
    steady-process = record {
      plain = plain-code home p.cells i q q.body (fits p i q r g);
      proper = λ ns ts os a e. plays-proper ns ts os (at_first D i P) begins-there a e;
    }

  pub all-steady : (m j : ℕ) (qs : List Process) → j ≡ m → ((k : ℕ) (q : Process) → slice_get qs k ≡ Some q → slice_get p.processes (m + k) ≡ Some q) → AllSteady D j (processes_from home p m qs)
  all-steady m j [] e h = tt
  all-steady m j (q ∷ qs) e h =
      let n : m + 0 ≡ m = omega arith in
      let one = steady-process m q (subst (λ n. slice_get p.processes n ≡ Some q) n (h 0 q refl)) in
      let last : j + 1 ≡ suc m = omega (arith, e) in
      (subst (λ z. IsSteadyProcess D z (running_of home p m q)) (sym e) one, all-steady (suc m) (j + 1) qs last (λ k s d. let u : m + suc k ≡ suc m + k = omega arith in subst (λ n. slice_get p.processes n ≡ Some s) u (h (suc k) s d)))
