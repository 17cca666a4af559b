-- A resolved core means what the core means: all its processes.
use Rattle.std.proofs.Common.{◌≡◌, ℕ, zero, suc, ◌+◌, Bool, true, false, List, [], ◌∷◌, Option, Some, None, refl, sym, ap, ◌∙◌, subst, arith}
use Rattle.std.specs.Prelude.{slice_get, filter, cond, not, map, nat_eq, option_map}
use Rattle.scc_semantics.specs.Location.{Location, Local}
use Rattle.scc_semantics.specs.Value.{Held}
use Rattle.scc_semantics.specs.Machine.{Frames}
use Rattle.scc_semantics.specs.Design as running
use Rattle.scc_semantics.specs.Design.{Design}
use Rattle.scc_semantics.specs.Same.{MeansTheSame, AllTheSame, SameDesign}
use Rattle.scc_core_spec.specs.Code.{Code}
use Rattle.scc_core_spec.specs.Program.{Program, Process, Edge, Reset, is_pointer}
use Rattle.scc_core_spec.specs.Term.{CellName}
use Rattle.scc_core_spec.specs.Static.{Cells}
use Rattle.scc_core_spec.specs.Resolved.{Made, made_map}
use Rattle.scc_core_spec.specs.Unpointed.{unpointed, at_first}
use Rattle.scc_core_spec.specs.Renumbered.{is_kept_cell, renamed_edge, renamed_reset, renamed_process, new_number, all_unpointed, resolved_program}
use Rattle.scc_core_spec.specs.Source.{Home, at_top, body_of, sort_of, source_of, processes_from}
use Rattle.scc_blocks_spec.specs.Passed.{IsHome, SameShape, Law, heading, name_at}
use Rattle.scc_blocks_spec.specs.Comes.{Comes, Keeps as KeepsDesign, next_points}
use Rattle.scc_core_unroll_laws.specs.Named.{IsNamed}
use Rattle.scc_core_unroll_laws.proofs.Counters.{some-is}
use Rattle.scc_core_pass_laws.specs.Renumbering.{IsKeptCell, AreKept, IsKeptEdge, IsKeptReset, IsSensed, IsResolvable}
use Rattle.scc_core_pass_laws.proofs.Pointless.{made-is, and-is, made-map-is}
use Rattle.scc_core_pass_laws.proofs.Clean.{code-clean}
use Rattle.scc_core_pass_laws.proofs.Renumber.{m, renumbered-is, Told, told, places-same, fixed-same, ports-same, body-same, sort-same}
use Rattle.scc_core_pass_laws.proofs.Resumed.{means}
use Rattle.scc_core_pass_laws.proofs.Back.{fixed-back, points-back}
use Rattle.scc_core_unroll_laws.proofs.Back.{found-at}

module _ (home : Home) where
  abbrev run-of : Program → ℕ → Process → running.Process
  run-of r i q = record { object = at_top []; sort = sort_of home r q q.is_thread q.edge; body = body_of home r.cells i q.body }

  running-at : (r : Program) (i n : ℕ) (qs : List Process) (q : Process) → slice_get qs n ≡ Some q → slice_get (processes_from home r i qs) n ≡ Some (run-of r (i + n) q)
  running-at r i n [] q g = absurd cc
  running-at r i zero (x ∷ qs) q g = let z : i ≡ i + 0 = omega arith in λ k. Some (run-of r (z k) (some-is g k))
  running-at r i (suc n) (x ∷ qs) q g =
      let z : suc i + n ≡ i + suc n = omega arith in
      subst (λ j. slice_get (processes_from home r (suc i) qs) n ≡ Some (run-of r j q)) z (running-at r (suc i) n qs q g)

  module _ (is_home : IsHome home) (p : Program) (constant : Location → Option ℕ) (named : IsNamed p) (able : (i : ℕ) (q : Process) → slice_get p.processes i ≡ Some q → IsResolvable home p i q)
      (qs : List Process) (made : all_unpointed p p.processes ≡ Made qs) (keeps : KeepsDesign (source_of home (m home p qs made constant) constant)) where
    abbrev M : Program
    M = m home p qs made constant

    abbrev d : Design
    d = source_of home p constant

    abbrev e : Design
    e = source_of home M constant

    abbrev num : ℕ → ℕ
    num = new_number p.cells

    abbrev MeansHere : ℕ → Process → Code → Type 0
    MeansHere j r c = MeansTheSame 1 d e j (run-of p j r) (run-of M j (renamed_process num r c))

    -- a process and its resolved one
    one : (j : ℕ) (r : Process) (c : Code) → slice_get p.processes j ≡ Some r → slice_get qs j ≡ Some (renamed_process num r c) → unpointed (at_first p) r.body ≡ Made c
        → ((run-of p j r).sort ≡ (run-of M j (renamed_process num r c)).sort) × MeansHere j r c
    one j r c here there new =
        let a = able j r here in (
          sym (sort-same home p qs made constant r c r.is_thread r.edge a.sensed.senses a.sensed.edge a.sensed.reset),
          means home is_home p constant named qs made keeps j r here a c new (run-of p j r) (run-of M j (renamed_process num r c)) refl refl refl
              (body-same home p qs made constant j c (code-clean p.cells p.vectors (λ n. None) (λ n t z. absurd cc) r.body c new))
              (let y : 0 + j ≡ j = omega arith in subst (λ i. slice_get e.processes j ≡ Some (run-of M i (renamed_process num r c))) y (running-at M 0 j qs (renamed_process num r c) there)),
        )

    all-same : (j : ℕ) (rs ms : List Process) → all_unpointed p rs ≡ Made ms → ((n : ℕ) (q : Process) → slice_get rs n ≡ Some q → slice_get p.processes (j + n) ≡ Some q)
        → ((n : ℕ) (q : Process) → slice_get ms n ≡ Some q → slice_get qs (j + n) ≡ Some q) → AllTheSame 1 d e j (processes_from home p j rs) (processes_from home M j ms)
    all-same j [] ms new here there = subst (λ ms. AllTheSame 1 d e j [] (processes_from home M j ms)) (made-is new) tt
    all-same j (r ∷ rs) ms new here there = subst (λ ms. AllTheSame 1 d e j (processes_from home p j (r ∷ rs)) (processes_from home M j ms)) b.2 (
      o.0,
      o.1,
      subst (λ k. AllTheSame 1 d e k (processes_from home p (suc j) rs) (processes_from home M (suc j) b.0)) next
          (all-same (suc j) rs b.0 b.1 (λ n q g. let y : j + suc n ≡ suc j + n = omega arith in subst (λ i. slice_get p.processes i ≡ Some q) y (here (suc n) q g))
          (λ n q g. let y : j + suc n ≡ suc j + n = omega arith in subst (λ i. slice_get qs i ≡ Some q) y (there (suc n) q (ap (λ ms. slice_get ms (suc n)) (sym b.2) ∙ g)))),
    )
      where
        a : (c : Code) × (unpointed (at_first p) r.body ≡ Made c) × (made_map (λ more. renamed_process num r c ∷ more) (all_unpointed p rs) ≡ Made ms)
        a = and-is (unpointed (at_first p) r.body) (λ body. made_map (λ more. renamed_process num r body ∷ more) (all_unpointed p rs)) ms new

        b : (more : List Process) × (all_unpointed p rs ≡ Made more) × (renamed_process num r a.0 ∷ more ≡ ms)
        b = made-map-is (λ more. renamed_process num r a.0 ∷ more) (all_unpointed p rs) ms a.2

        next : suc j ≡ j + 1
        next = omega arith

        o : ((run-of p j r).sort ≡ (run-of M j (renamed_process num r a.0)).sort) × MeansHere j r a.0
        o = let z : j + 0 ≡ j = omega arith in one j r a.0 (subst (λ i. slice_get p.processes i ≡ Some r) z (here 0 r refl))
            (subst (λ i. slice_get qs i ≡ Some (renamed_process num r a.0)) z (there 0 (renamed_process num r a.0) (ap (λ ms. slice_get ms 0) (sym b.2)))) a.1

    resolved-same : SameDesign 1 d e
    resolved-same = record {
      things = λ l. ap (λ x. x.things l) (sym (places-same home p qs made constant));
      ports = sym (ports-same home p qs made constant);
      fixed = λ l. ap (λ x. x l) (sym (fixed-same home p qs made constant));
      constants = λ l. refl;
      processes = all-same 0 p.processes qs made (λ n q g. let y : n ≡ 0 + n = omega arith in subst (λ i. slice_get p.processes i ≡ Some q) y g) (λ n q g. let y : n ≡ 0 + n = omega arith in subst (λ i. slice_get qs i ≡ Some q) y g);
    }

    -- a process of the core's design with that of the resolved core
    module _ (j : ℕ) (x : running.Process) (at_x : slice_get d.processes j ≡ Some x) where
      record Both : Type 0 where
        pub old : Process
        pub at : slice_get p.processes j ≡ Some old
        pub is : run-of p j old ≡ x
        pub new : Told p old qs j

      both : Both
      both =
          let u = found-at home p 0 j p.processes x at_x in
          let z : 0 + j ≡ j = omega arith in
          record {
            old = u.0;
            at = u.1;
            is = (λ k. record { object = at_top []; sort = sort_of home p u.0 u.0.is_thread u.0.edge; body = body_of home p.cells (sym z k) u.0.body }) ∙ u.2;
            new = told p p.processes qs made j u.0 u.1;
          }

      abbrev it : running.Process
      it = run-of M j (renamed_process num both.old both.new.body)

      there : slice_get e.processes j ≡ Some it
      there = let y : 0 + j ≡ j = omega arith in subst (λ i. slice_get e.processes j ≡ Some (run-of M i (renamed_process num both.old both.new.body))) y (running-at M 0 j qs (renamed_process num both.old both.new.body) both.new.at)

      same-body : it.body ≡ body_of home p.cells j both.new.body
      same-body = body-same home p qs made constant j both.new.body (code-clean p.cells p.vectors (λ n. None) (λ n t z. absurd cc) both.old.body both.new.body both.new.made)

      fixed-here : (signals : Location → ℕ) (g : Frames) (h : Held) (l : Location) (v : ℕ) → Comes d j x signals g h → d.fixed l ≡ Some v → h.store.words l ≡ v
      fixed-here signals g h l v c fx = fixed-back home is_home p constant named qs made keeps j both.old both.at (able j both.old both.at) both.new.body both.new.made (run-of p j both.old) it refl refl refl same-body there
          (subst (λ x. Comes d j x signals g h) (sym both.is) c) l v fx

      points-here : (signals : Location → ℕ) (g : Frames) (h : Held) → Comes d j x signals g h → next_points g ≡ false
      points-here signals g h c = points-back home is_home p constant named qs made keeps j both.old both.at (able j both.old both.at) both.new.body both.new.made (run-of p j both.old) it refl refl refl same-body there
          (subst (λ x. Comes d j x signals g h) (sym both.is) c)

    kept-back : KeepsDesign d
    kept-back = record {
      fixed = λ j x signals g h l v at_x c fx. fixed-here j x at_x signals g h l v c fx;
      pointers = λ j x signals g h at_x c. points-here j x at_x signals g h c;
    }

  pub same-resolved : IsHome home → (p new : Program) (constant : Location → Option ℕ) → IsNamed p → ((i : ℕ) (q : Process) → slice_get p.processes i ≡ Some q → IsResolvable home p i q) → resolved_program p ≡ Made new
      → KeepsDesign (source_of home new constant) → SameDesign 1 (source_of home p constant) (source_of home new constant)
  same-resolved is_home p new constant named able e keeps =
      let a = made-map-is (λ processes. made-of processes) (all_unpointed p p.processes) new e in
      subst (λ n. SameDesign 1 (source_of home p constant) (source_of home n constant)) a.2
      (resolved-same is_home p constant named able a.0 a.1 (subst (λ n. KeepsDesign (source_of home n constant)) (sym a.2) keeps))
    where
      made-of : List Process → Program
      made-of processes = record { top = p.top; cells = filter is_kept_cell p.cells; vectors = p.vectors; processes = processes }

  pub kept-resolved : IsHome home → (p new : Program) (constant : Location → Option ℕ) → IsNamed p → ((i : ℕ) (q : Process) → slice_get p.processes i ≡ Some q → IsResolvable home p i q) → resolved_program p ≡ Made new
      → KeepsDesign (source_of home new constant) → KeepsDesign (source_of home p constant)
  kept-resolved is_home p new constant named able e keeps =
      let a = made-map-is (λ processes. made-of processes) (all_unpointed p p.processes) new e in
      kept-back is_home p constant named able a.0 a.1 (subst (λ n. KeepsDesign (source_of home n constant)) (sym a.2) keeps)
    where
      made-of : List Process → Program
      made-of processes = record { top = p.top; cells = filter is_kept_cell p.cells; vectors = p.vectors; processes = processes }

-- the shape of a resolved core
filter-twice : (cs : Cells) → filter is_kept_cell cs ≡ filter (λ c. not (is_pointer c.sort)) (filter is_kept_cell cs)
filter-twice [] = refl
filter-twice (c ∷ cs) = by (not (is_pointer c.sort)) refl (filter-twice cs)
  where
    by : (b : Bool) → not (is_pointer c.sort) ≡ b → filter is_kept_cell cs ≡ filter (λ c. not (is_pointer c.sort)) (filter is_kept_cell cs)
        → cond b (c ∷ filter is_kept_cell cs) (filter is_kept_cell cs) ≡ filter (λ c. not (is_pointer c.sort)) (cond b (c ∷ filter is_kept_cell cs) (filter is_kept_cell cs))
    by true e ih = ap (λ z. c ∷ z) ih ∙ sym (ap (λ b. cond b (c ∷ filter (λ c. not (is_pointer c.sort)) (filter is_kept_cell cs)) (filter (λ c. not (is_pointer c.sort)) (filter is_kept_cell cs))) e)
    by false e ih = ih

module _ (p : Program) where
  abbrev numbers : ℕ → ℕ
  numbers = new_number p.cells

  abbrev kept_cells : Cells
  kept_cells = filter is_kept_cell p.cells

  name-same : (n : ℕ) → IsKeptCell (slice_get p.cells n) → name_at p.cells n ≡ name_at kept_cells (numbers n)
  name-same n h = ap (option_map (λ c. c.name)) (sym (renumbered-is p.cells n h))

  names-same : (ns : List ℕ) → AreKept p.cells ns → map (name_at p.cells) ns ≡ map (name_at kept_cells) (map numbers ns)
  names-same [] h = refl
  names-same (n ∷ ns) h = λ z. name-same n h.0 z ∷ names-same ns h.1 z

  abbrev edge_name : Cells → Edge → Option CellName × Bool
  edge_name cs x = (name_at cs x.cell, x.rising)

  abbrev reset_name : Cells → Reset → Option CellName × Bool × Bool
  reset_name cs x = (name_at cs x.cell, x.level, x.asynchronous)

  edge-name : (o : Option Edge) → IsKeptEdge p.cells o → option_map (edge_name p.cells) o ≡ option_map (edge_name kept_cells) (option_map (renamed_edge numbers) o)
  edge-name None h = refl
  edge-name (Some x) h = ap (λ n. let u : Option CellName × Bool = (n, x.rising) in Some u) (name-same x.cell h)

  reset-name : (o : Option Reset) → IsKeptReset p.cells o → option_map (reset_name p.cells) o ≡ option_map (reset_name kept_cells) (option_map (renamed_reset numbers) o)
  reset-name None h = refl
  reset-name (Some x) h = ap (λ n. let u : Option CellName × Bool × Bool = (n, x.level, x.asynchronous) in Some u) (name-same x.cell h)

  heading-same : (r : Process) (c : Code) → IsSensed p.cells r → heading p.cells r ≡ heading kept_cells (renamed_process numbers r c)
  heading-same r c h = λ z. record {
    is_thread = r.is_thread;
    name = r.name;
    place = r.place;
    senses = names-same r.senses h.senses z;
    edge = edge-name r.edge h.edge z;
    reset = reset-name r.reset h.reset z;
  }

  headings-same : (rs ms : List Process) → all_unpointed p rs ≡ Made ms → ((n : ℕ) (q : Process) → slice_get rs n ≡ Some q → IsSensed p.cells q) → map (heading p.cells) rs ≡ map (heading kept_cells) ms
  headings-same [] ms e h = ap (map (heading kept_cells)) (made-is e)
  headings-same (r ∷ rs) ms e h =
      let a = and-is (unpointed (at_first p) r.body) (λ body. made_map (λ more. renamed_process numbers r body ∷ more) (all_unpointed p rs)) ms e in
      let b = made-map-is (λ more. renamed_process numbers r a.0 ∷ more) (all_unpointed p rs) ms a.2 in
      (λ z. heading-same r a.0 (h 0 r refl) z ∷ headings-same rs b.0 b.1 (λ n q g. h (suc n) q g) z) ∙ ap (map (heading kept_cells)) b.2

-- each local of each process in a place of its own
plain-home : Home
plain-home i n = Local i [] n

plain-is-home : IsHome plain-home
unfolding plain-home
plain-is-home = record { injective = λ i j n k e. (cc, cc); own = λ i n. let h : nat_eq i i ≡ true = grind arith in h }

pub law : (p new : Program) (constant : Location → Option ℕ) → IsNamed p → ((home : Home) → IsHome home → (i : ℕ) (q : Process) → slice_get p.processes i ≡ Some q → IsResolvable home p i q) → resolved_program p ≡ Made new → Law 1 constant p new
law p new constant named able e = record {
  shape = let a = made-map-is (λ processes. made-of processes) (all_unpointed p p.processes) new e in
      subst (SameShape p) a.2 (record { top = refl; cells = filter-twice p.cells; vectors = refl; processes = headings-same p p.processes a.0 a.1 (λ n q g. (able plain-home plain-is-home n q g).sensed) });
  keeps = λ home is_home keeps. kept-resolved home is_home p new constant named (able home is_home) e keeps;
  same = λ home is_home keeps. same-resolved home is_home p new constant named (able home is_home) e keeps;
}
  where
    made-of : List Process → Program
    made-of processes = record { top = p.top; cells = filter is_kept_cell p.cells; vectors = p.vectors; processes = processes }
