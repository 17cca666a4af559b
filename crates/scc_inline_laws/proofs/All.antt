-- A design and its copy mean the same.
use Rattle.std.proofs.Common.{◌≡◌, ℕ, zero, suc, ◌+◌, true, List, [], ◌∷◌, map, Option, Some, None, option_map, unwrap_or, slice_get, refl, sym, ap, ◌∙◌, subst, arith}
use Rattle.scc_base.specs.declared.refusal.Refusal.{Refusal}
use Rattle.scc_semantics.specs.Location.{Location}
use Rattle.scc_semantics.specs.Design as running
use Rattle.scc_semantics.specs.Run.{FitsThing}
use Rattle.scc_semantics.specs.Start.{IsProper, HoldsConstant}
use Rattle.scc_semantics.specs.Same.{Turn, AllProper, AllTheSame, SameDesign, at_first}
use Rattle.scc_core_spec.specs.Program as prog
use Rattle.scc_core_spec.specs.First.{or_else, first_numbered}
use Rattle.scc_core_spec.specs.Resolved.{Made, Stopped}
use Rattle.scc_core_spec.specs.Source as source
use Rattle.scc_core_spec.specs.Source.{at_top, source_of, processes_from}
use Rattle.scc_blocks_spec.specs.Comes.{Keeps}
use Rattle.scc_elab_spec.specs.Program.{Plain}
use Rattle.scc_elab_spec.specs.Design as design
use Rattle.scc_elab_spec.specs.Design.{Design}
use Rattle.scc_elab_spec.specs.Meant as meant
use Rattle.scc_elab_spec.specs.Meant.{design_of}
use Rattle.scc_elab_spec.specs.Numbering.{levels}
use Rattle.scc_inline_spec.specs.Inlined.{home_of, here_of, copied_program, copied_process, copied_from, too_large}
use Rattle.scc_inline_spec.specs.Static.{inlined, first_copied}
use Rattle.scc_inline_laws.specs.OrderlyDesign.{IsOrderly, IsOrderlyProcess}
use Rattle.scc_elab_spec.specs.Cells.{path_of}
use Rattle.scc_elab_spec.specs.Spoken.{function_body}
use Rattle.scc_inline_process_laws.specs.Standing.{KeepsOver}
use Rattle.scc_inline_process_laws.specs.Whole.{IsReady, own_names, spoken_design, copied_design, copied_as_process}
use Rattle.scc_inline_process_laws.proofs.Kept.{kept_always}
use Rattle.scc_semantics.specs.Location.{Top}
use Rattle.scc_semantics.specs.Machine.{Frames, Go, Inner, Stop}
use Rattle.scc_semantics.specs.Value.{Held}
use Rattle.scc_core_spec.specs.Code as stmt
use Rattle.scc_blocks_spec.specs.Comes.{Comes}
use Rattle.scc_core_unroll_laws.specs.Unrolling.{Counters, LeadsWell}
use Rattle.scc_core_unroll_laws.specs.Unrolling as unrolling
use Rattle.scc_core_unroll_laws.proofs.Knowing.{counters}
use Rattle.scc_inline_spec.specs.Inlined.{body_of, call_of}
use Rattle.scc_inline_process_laws.specs.Relation.{around}
use Rattle.scc_inline_process_laws.proofs.Leading.{comes-well, top-well}
use Rattle.scc_inline_laws.proofs.Homes.{is-home}
use Rattle.scc_inline_laws.proofs.Naming.{is-named}
use Rattle.scc_inline_laws.proofs.Owned.{own-home}
use Rattle.scc_inline_laws.proofs.Ordered.{sound-body}
use Rattle.scc_inline_laws.proofs.Chained.{first-stands}
use Rattle.scc_inline_laws.proofs.PlacesSame.{places-same, targets-same, fixed-same}
use Rattle.scc_inline_laws.proofs.Headings.{ports-same, sort-same, core-moves}
use Rattle.scc_inline_process_laws.proofs.Whole.{process-same}
use Rattle.scc_inline_counter_laws.proofs.Objects.{objects-chosen}

-- a walk that finds nothing
none-numbered : {A B : Type 0} (f : ℕ → A → Option B) (n : ℕ) (xs : List A) → first_numbered f n xs ≡ None → (a : ℕ) (x : A) → slice_get xs a ≡ Some x → f (n + a) x ≡ None
none-numbered f n [] e a x g = cc
none-numbered f n (y ∷ xs) e a x g = by (f n y) refl e a g (λ e a g. none-numbered f (suc n) xs e a x g)
  where
    by : (o : Option _) → f n y ≡ o → or_else o (first_numbered f (suc n) xs) ≡ None → (a : ℕ) → slice_get (y ∷ xs) a ≡ Some x
        → (first_numbered f (suc n) xs ≡ None → (a : ℕ) → slice_get xs a ≡ Some x → f (suc n + a) x ≡ None) → f (n + a) x ≡ None
    by (Some r) h e a g ih = cc
    by None h e zero g ih = let z : y ≡ x = cc in let w : n ≡ n + 0 = omega arith in subst (λ n. f n x ≡ None) w (subst (λ x. f n x ≡ None) z h)
    by None h e (suc a) g ih = let w : suc n + a ≡ n + suc a = omega arith in subst (λ n. f n x ≡ None) w (ih e a g)

or-first : {A : Type 0} (a b : Option A) → or_else a b ≡ None → a ≡ None
or-first None b e = refl
or-first (Some x) b e = cc

-- what is inlined is the copy, and nothing is refused
pub inlined-is : (p : Plain) (d : Design) (c : prog.Program) → inlined p d ≡ Made c → (copied_program p d ≡ c) × ((i : ℕ) (q : design.Process) → slice_get d.processes i ≡ Some q → first_copied p d i q ≡ None)
inlined-is p d c e = by (first_numbered (first_copied p d) 0 d.processes) refl
  where
    stopped : (r : Refusal) → first_numbered (first_copied p d) 0 d.processes ≡ Some r → inlined p d ≡ Stopped r
    stopped r h = rw h refl

    made : first_numbered (first_copied p d) 0 d.processes ≡ None → inlined p d ≡ Made (copied_program p d)
    made h = rw h refl

    by : (o : Option Refusal) → first_numbered (first_copied p d) 0 d.processes ≡ o → (copied_program p d ≡ c) × ((i : ℕ) (q : design.Process) → slice_get d.processes i ≡ Some q → first_copied p d i q ≡ None)
    by (Some r) h = absurd (let z = stopped r h in cc)
    by None h = ((let z = made h in cc), λ i q g. let w : 0 + i ≡ i = omega arith in subst (λ n. first_copied p d n q ≡ None) w (none-numbered (first_copied p d) 0 d.processes h i q g))

module _ (p : Plain) (d : Design) (constant : Location → Option ℕ) (ord : IsOrderly p d) (unrefused : (i : ℕ) (q : design.Process) → slice_get d.processes i ≡ Some q → first_copied p d i q ≡ None) (keeps : Keeps (copied_design p d constant)) where
  small : (i : ℕ) (q : design.Process) → slice_get d.processes i ≡ Some q → too_large p d i q ≡ None
  small i q there = or-first (too_large p d i q) _ (unrefused i q there)

  abbrev D : running.Design
  D = spoken_design p d constant

  abbrev E : running.Design
  E = copied_design p d constant

  process-there : (k : ℕ) (qs : List design.Process) (a : ℕ) (q : design.Process) → slice_get qs a ≡ Some q
      → slice_get (processes_from (home_of p d) (copied_program p d) k (copied_from p d k qs)) a ≡ Some (copied_as_process p d constant (k + a) q)
  process-there k [] a q e = cc
  process-there k (x ∷ qs) zero q e = let z : x ≡ q = cc in let w : k ≡ k + 0 = omega arith in ap (λ k. Some (copied_as_process p d constant k x)) w ∙ ap (λ x. Some (copied_as_process p d constant (k + 0) x)) z
  process-there k (x ∷ qs) (suc a) q e = let w : suc k + a ≡ k + suc a = omega arith in process-there (suc k) qs a q e ∙ ap (λ k. Some (copied_as_process p d constant k q)) w

  proper : (w : Location → ℕ) → IsProper D w → IsProper E w
  proper w x = record {
    fits = λ l. subst (λ z. FitsThing (z.things l) (w l)) (sym (places-same p d constant ord small)) (x.fits l);
    fixed = λ l. subst (λ z. HoldsConstant z (w l)) (sym (fixed-same p d constant ord small l.root l.path)) (x.fixed l);
    constants = λ l. x.constants l;
  }

  all-proper : (ts : List Turn) → AllProper D ts → AllProper E ts
  all-proper [] x = tt
  all-proper (t ∷ ts) x = (proper t.words x.0, proper t.signals x.1, all-proper ts x.2)

  copied-there : (k : ℕ) (qs : List design.Process) (a : ℕ) (q : design.Process) → slice_get qs a ≡ Some q → slice_get (copied_from p d k qs) a ≡ Some (copied_process p d (k + a) q)
  copied-there k [] a q e = cc
  copied-there k (x ∷ qs) zero q e = let z : x ≡ q = cc in let w : k ≡ k + 0 = omega arith in ap (λ k. Some (copied_process p d k x)) w ∙ ap (λ x. Some (copied_process p d (k + 0) x)) z
  copied-there k (x ∷ qs) (suc a) q e = let w : suc k + a ≡ k + suc a = omega arith in copied-there (suc k) qs a q e ∙ ap (λ k. Some (copied_process p d k q)) w

  -- the counters of a process's copy
  copy-counters : (i : ℕ) (q : design.Process) (there : slice_get d.processes i ≡ Some q) → Counters (around (home_of p d) E.places (own_names p d constant i q) (here_of p d i q (ord.processes i q there).function))
  copy-counters i q there =
      let c = counters (home_of p d) (is-home p d ord) (copied_program p d) constant i (copied_process p d i q) (is-named p d ord) (let w : 0 + i ≡ i = omega arith in copied-there 0 d.processes i q there ∙ ap (λ k. Some (copied_process p d k q)) w) in
      record { home = c.home; numbers = c.numbers }

  -- no pointer leads to them
  copy-well : (i : ℕ) (q : design.Process) (there : slice_get d.processes i ≡ Some q) (signals : Location → ℕ) (f : Frames) (a : Held) → Comes E i (copied_as_process p d constant i q) signals f a
      → LeadsWell (around (home_of p d) E.places (own_names p d constant i q) (here_of p d i q (ord.processes i q there).function)) a.store.targets
  copy-well i q there signals f a x =
      let w = around (home_of p d) E.places (own_names p d constant i q) (here_of p d i q (ord.processes i q there).function) in
      (comes-well w (copy-counters i q there) E refl refl (copied_as_process p d constant i q)
      (ap (λ o. Go Inner (unrolling.own w) (source.body_of (home_of p d) (copied_program p d).cells i (unwrap_or (option_map (λ f. let h = here_of p d i q f in stmt.Block q.place (body_of (call_of h levels) h 0 [] f.body) stmt.End) o) stmt.End)) Stop) (ord.processes i q there).stands)
      (top-well w (copy-counters i q there) E.targets (λ l m e. top (source.cell_there (home_of p d) (copied_program p d) true l) m e)) x).1
    where
      sorts : (c : prog.Cell) (u : prog.Sort) (m : Location) → source.target_there (home_of p d) (copied_program p d) (Some (record c { sort = u })) ≡ Some m → m.root ≡ Top
      sorts c (prog.Pointer (Some path)) m e = let z : at_top path ≡ m = cc in ap (λ l. l.root) (sym z)
      sorts c (prog.Pointer None) m e = cc
      sorts c prog.Input m e = cc
      sorts c prog.Output m e = cc
      sorts c prog.Signal m e = cc
      sorts c (prog.Variable x b) m e = cc
      sorts c (prog.Local j) m e = cc
      sorts c (prog.Port r) m e = cc

      top : (c : Option prog.Cell) (m : Location) → source.target_there (home_of p d) (copied_program p d) c ≡ Some m → m.root ≡ Top
      top None m e = cc
      top (Some c) m e = sorts c c.sort m e

  pub ready : (i : ℕ) (q : design.Process) → slice_get d.processes i ≡ Some q → IsReady p d constant i q
  ready i q there = let ok = ord.processes i q there in
      let c = subst (λ z. Counters (around (home_of p d) z (own_names p d constant i q) (here_of p d i q ok.function))) (places-same p d constant ord small) (copy-counters i q there) in
      record {
        function = ok.function;
        stands = ok.stands;
        places = places-same p d constant ord small;
        targets = targets-same p d constant ord small;
        counters = c;
        sound = sound-body p d constant i q there ok c levels [] q.function ok.function (first-stands p d constant i q there ok (small i q there)) (here_of p d i q ok.function).this tt refl []
            (objects-chosen p d i q ok.function ok.stands (ord.arrays i q there) (unrefused i q there)) (λ o e. cc);
        keeps = λ ns ts x. subst (λ z. KeepsOver (home_of p d) z (own_names p d constant i q) (here_of p d i q ok.function) E i (copied_as_process p d constant i q) (at_first E i (copied_as_process p d constant i q)) ns ts) (places-same p d constant ord small)
            (kept_always (home_of p d) (copied_program p d) constant (own-home p d) (core-moves p d) keeps i (copied_as_process p d constant i q)
            (let w : 0 + i ≡ i = omega arith in process-there 0 d.processes i q there ∙ ap (λ k. Some (copied_as_process p d constant k q)) w)
            (own_names p d constant i q) (here_of p d i q ok.function) refl refl (copy-well i q there) ns ts (all-proper ts x));
      }

  all-same : (k : ℕ) (qs : List design.Process) → ((a : ℕ) (q : design.Process) → slice_get qs a ≡ Some q → slice_get d.processes (k + a) ≡ Some q)
      → AllTheSame 1 D E k (map (λ q. record { object = meant.at_path p d (path_of d q.object); sort = meant.sort_of p d q q.is_thread q.edge; body = function_body p q.function }) qs) (processes_from (home_of p d) (copied_program p d) k (copied_from p d k qs))
  all-same k [] f = tt
  all-same k (q ∷ qs) f = (
    sort-same p d k q ok.senses ok.edge ok.reset,
    process-same p d constant k q (ready k q at),
    (let w : suc k ≡ k + 1 = omega arith in subst (λ n. AllTheSame 1 D E n (map (λ q. record { object = meant.at_path p d (path_of d q.object); sort = meant.sort_of p d q q.is_thread q.edge; body = function_body p q.function }) qs) (processes_from (home_of p d) (copied_program p d) (suc k) (copied_from p d (suc k) qs))) w
        (all-same (suc k) qs (λ a u e. let z : k + suc a ≡ suc k + a = omega arith in subst (λ n. slice_get d.processes n ≡ Some u) z (f (suc a) u e)))),
  )
    where
      at : slice_get d.processes k ≡ Some q
      at = let z : k + 0 ≡ k = omega arith in subst (λ n. slice_get d.processes n ≡ Some q) z (f 0 q refl)

      ok : IsOrderlyProcess p d k q
      ok = ord.processes k q at

  pub same-design : SameDesign 1 D E
  same-design = record {
    things = λ l. ap (λ z. z.things l) (sym (places-same p d constant ord small));
    ports = ports-same p d constant;
    fixed = λ l. sym (fixed-same p d constant ord small l.root l.path);
    constants = λ l. refl;
    processes = all-same 0 d.processes (λ a q e. let z : a ≡ 0 + a = omega arith in subst (λ n. slice_get d.processes n ≡ Some q) z e);
  }

-- the law of copied bodies
pub inlined-same : (p : Plain) (d : Design) (c : prog.Program) (constant : Location → Option ℕ) → IsOrderly p d → inlined p d ≡ Made c → Keeps (source_of (home_of p d) c constant)
    → SameDesign 1 (design_of p d constant) (source_of (home_of p d) c constant)
inlined-same p d c constant ord e keeps =
    let m = inlined-is p d c e in
    subst (λ c. SameDesign 1 (design_of p d constant) (source_of (home_of p d) c constant)) m.0
    (same-design p d constant ord m.1 (subst (λ c. Keeps (source_of (home_of p d) c constant)) (sym m.0) keeps))
