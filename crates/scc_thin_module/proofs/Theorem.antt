-- The module of a sound design shows what the design shows.
use Rattle.std.proofs.Common.{◌≡◌, ℕ, zero, suc, ◌<◌, ◌^◌, List, [], ◌∷◌, ◌++◌, map, length, Bool, true, false, cond, ◌&&◌, Option, Some, None, ap, refl, sym, ◌∙◌, arith, subst}
use Rattle.std.specs.Prelude.{unwrap_or}
use Rattle.scc_semantics.specs.Location.{Location}
use Rattle.scc_semantics.specs.Process.{State}
use Rattle.scc_semantics.specs.Run as run
use Rattle.scc_semantics.specs.Run.{Shown, AllFit, FitSteps, FitsStep, set_inputs, observed, word_at}
use Rattle.scc_semantics.specs.Statement.{Seen, SameShot, SameAfter, AllSame}
use Rattle.scc_blocks_spec.specs.Emitted.{given, step_of, has_edge, edge_at, outputs_from, register, shot, seen_of, AreSeen, Runs}
use Rattle.scc_svtree.specs.declared.stmt.SvStmt.{SvStmt}
use Rattle.scc_svtree.specs.declared.module.SvModule.{SvModule}
use Rattle.scc_svtree.specs.Variables.{width_at}
use Rattle.scc_svtree.specs.Code.{Code}
use Rattle.scc_svtree.specs.Running as running
use Rattle.scc_svtree.specs.Mentions.{assigns}
use Rattle.scc_svtree.specs.Settled.{combs_of, block_at, IsSettledFor}
use Rattle.scc_svtree.specs.Steps.{Step, Steps, EdgePart, input_at, with_inputs, after_resets, after_edges}
use Rattle.scc_thin.specs.declared.design.Design.{Design}
use Rattle.scc_thin.specs.declared.design.Port.{Port}
use Rattle.scc_thin_module.specs.Emitted.{var_of, width_of, module_of, zeros_from, put_stmt}
use Rattle.scc_thin.specs.Resolved.{is_output_at}
use Rattle.scc_thin_module.specs.Same.{ShowsTheSame}
use Rattle.scc_thin_module.specs.Source.{member, source_of, text_of, thing_at}
use Rattle.scc_thin_module.proofs.Chains.{some_same}
use Rattle.scc_thin_module.proofs.Starts.{thin_starts}
use Rattle.scc_thin_module.proofs.Lasting.{AgreeIn, last_word, last_same}
use Rattle.scc_thin_module.proofs.Rounds.{IsSound, words_in, ran, ran_shows, ShowsFor, settled_by, seen, seen_after, all_seen, shows_all, shows_only}
use Rattle.scc_thin_module.proofs.Rounds as rounds
use Rattle.scc_thin_module.proofs.Terms.{width_vars}
use Rattle.scc_thin_module.proofs.Emitting.{FitIn, FewBits}
use Rattle.scc_thin_module.proofs.Statements.{the_code, runs, run_output, run_other, assigns_other, assigns_output}
use Rattle.scc_thin_module.proofs.Inputs.{inputs_are, members_from, outputs_alike, outputs_are, set_right, words_of_outputs}

input_var : (ps : List Port) (v : ℕ) → v < length ps → is_output_at ps v ≡ false → input_at (map var_of ps) v ≡ true
input_var [] v h e = absurd (omega arith)
input_var (p ∷ ps) zero h e = by_output p.output e
  where
    by_output : (b : Bool) → b ≡ false → input_at (var_of (record { name = p.name; output = b; width = p.width }) ∷ map var_of ps) 0 ≡ true
    by_output true e = cc
    by_output false e = refl
input_var (p ∷ ps) (suc v) h e = input_var ps v (omega arith) e

module _ (d : Design) (sound : IsSound d) (few : FewBits d.ports) where
  abbrev m : SvModule
  m = module_of d

  abbrev code : Code
  code = the_code d.ports few d.puts

  widths : width_at m.vars ≡ width_of d.ports
  widths = λ i v. width_vars d.ports v i

  abbrev Settles : (ℕ → ℕ) → (ℕ → ℕ) → Type 0
  Settles g y = IsSettledFor (width_at m.vars) (combs_of m.blocks) g y

  run_is : (y : ℕ → ℕ) (v : ℕ) → running.run (width_at m.vars) code y v ≡ runs d.ports few code y v
  run_is y v = ap (λ w. running.run w code y v) widths

  -- a valuation that shows these inputs, and the outputs that the method gives for them
  record Emitted (x y : ℕ → ℕ) : Type 0 where
    inputs : AgreeIn d.ports y x
    outputs : (v : ℕ) → is_output_at d.ports v ≡ true → y v ≡ unwrap_or (last_word d.ports x d.puts v) 0

  -- what isn't assigned stays
  unassigned : (v : ℕ) → is_output_at d.ports v ≡ false → (k : ℕ) → k < length (combs_of m.blocks) → assigns (block_at (combs_of m.blocks) k) v ≡ false
  unassigned v e zero h = assigns_other d.ports few d.puts v sound.puts e
  unassigned v e (suc k) h = absurd (omega arith)

  fit_same : (x y : ℕ → ℕ) → AgreeIn d.ports y x → FitIn d.ports x → FitIn d.ports y
  fit_same x y same fit v h e = subst (λ n. n < 2 ^ width_of d.ports v) (sym (same v h e)) (fit v h e)

  emitted_of : (x g y : ℕ → ℕ) → FitIn d.ports x → AgreeIn d.ports g x → Settles g y → Emitted x y
  emitted_of x g y fit same settled =
      let agree : AgreeIn d.ports y x = λ v h e. sym (settled.alike v (unassigned v e)) ∙ same v h e in
      record {
        inputs = agree;
        outputs = λ v e.
            sym (settled.leaves 0 (omega arith) v) ∙ run_is y v
            ∙ run_output d.ports few d.puts y v sound.within sound.puts (fit_same x y agree fit) sound.written e
            ∙ ap (λ o. unwrap_or o 0) (last_same d.ports y x d.puts v sound.within sound.puts agree);
      }

  -- there is a settled valuation
  abbrev found : (ℕ → ℕ) → ℕ → ℕ
  found g v = cond (is_output_at d.ports v) (unwrap_or (last_word d.ports g d.puts v) 0) (g v)

  found_other : (g : ℕ → ℕ) (v : ℕ) → is_output_at d.ports v ≡ false → found g v ≡ g v
  found_other g v e = ap (λ b. cond b (unwrap_or (last_word d.ports g d.puts v) 0) (g v)) e

  found_agrees : (g : ℕ → ℕ) → AgreeIn d.ports (found g) g
  found_agrees g v h e = found_other g v e

  found_runs : (g : ℕ → ℕ) → FitIn d.ports g → (v : ℕ) (b : Bool) → is_output_at d.ports v ≡ b → runs d.ports few code (found g) v ≡ found g v
  found_runs g fit v true e =
      run_output d.ports few d.puts (found g) v sound.within sound.puts (fit_same g (found g) (found_agrees g) fit) sound.written e
      ∙ ap (λ o. unwrap_or o 0) (last_same d.ports (found g) g d.puts v sound.within sound.puts (found_agrees g))
      ∙ sym (ap (λ b. cond b (unwrap_or (last_word d.ports g d.puts v) 0) (g v)) e)
  found_runs g fit v false e = run_other d.ports few d.puts (found g) v sound.within sound.puts (fit_same g (found g) (found_agrees g) fit) e

  found_leaves : (g : ℕ → ℕ) → FitIn d.ports g → (k : ℕ) → k < length (combs_of m.blocks) → (v : ℕ) → running.run (width_at m.vars) (block_at (combs_of m.blocks) k) (found g) v ≡ found g v
  found_leaves g fit zero h v = run_is (found g) v ∙ found_runs g fit v (is_output_at d.ports v) refl
  found_leaves g fit (suc k) h v = absurd (omega arith)

  found_alike : (g : ℕ → ℕ) (v : ℕ) (b : Bool) → is_output_at d.ports v ≡ b → ((k : ℕ) → k < length (combs_of m.blocks) → assigns (block_at (combs_of m.blocks) k) v ≡ false) → g v ≡ found g v
  found_alike g v true e none = absurd (let f : true ≡ false = sym (assigns_output d.ports few d.puts v sound.written e) ∙ none 0 (omega arith) in cc)
  found_alike g v false e none = sym (found_other g v e)

  finds : (g : ℕ → ℕ) → FitIn d.ports g → Settles g (found g)
  finds g fit = record { leaves = found_leaves g fit; alike = λ v none. found_alike g v (is_output_at d.ports v) refl none }

  -- the inputs of a step, on both sides
  abbrev inputs_of : run.Step → ℕ → ℕ
  inputs_of s = given (text_of d) (source_of d) m s.inputs

  abbrev statements : List SvStmt
  statements = zeros_from 0 d.ports ++ map (put_stmt d.ports) d.puts

  fit_members : (s : run.Step) → FitsStep (source_of d) s → AllFit (source_of d) (members_from false 0 d.ports) s.inputs
  fit_members s fit = subst (λ ls. AllFit (source_of d) ls s.inputs) (inputs_are d) fit.0

  fits_step : (s : run.Step) → FitsStep (source_of d) s → FitIn d.ports (inputs_of s)
  fits_step s fit v h e = (set_right d 0 d.ports s.inputs (λ l. 0) v (λ k. ap (is_output_at d.ports) (omega arith)) (omega arith) (omega arith) h e (fit_members s fit)).1

  source_given : (s : run.Step) (st : State) → FitsStep (source_of d) s → AgreeIn d.ports (words_in d.ports (rounds.given d sound s st)) (inputs_of s)
  source_given s st fit v h e =
      ap (λ ls. set_inputs ls s.inputs st.store.words (member v)) (inputs_are d)
      ∙ (set_right d 0 d.ports s.inputs st.store.words v (λ k. ap (is_output_at d.ports) (omega arith)) (omega arith) (omega arith) h e (fit_members s fit)).0

  abbrev set_for : run.Step → (ℕ → ℕ) → ℕ → ℕ
  set_for s x = after_resets m.blocks (with_inputs m (inputs_of s) x)

  emitted_given : (s : run.Step) (x : ℕ → ℕ) → AgreeIn d.ports (set_for s x) (inputs_of s)
  emitted_given s x v h e = ap (λ b. cond (b && true) (inputs_of s v) (x v)) (input_var d.ports v h e)

  -- states and valuations that show the same inputs show the same outputs
  outputs_same : (x y : ℕ → ℕ) (t : State) → ShowsFor d sound x t → Emitted x y → (observed (source_of d) t).outputs ≡ outputs_from 0 m.vars y
  outputs_same x y t a b =
      ap (map (λ l. word_at (thing_at d.ports l) t.store.words l)) (outputs_are d)
      ∙ outputs_alike d.ports (λ l. word_at (thing_at d.ports l) t.store.words l) y
      (λ v h e. words_of_outputs d t.store.words v h ∙ a.outputs v h e ∙ sym (b.outputs v e))

  -- the module has no register
  no_register : (y : ℕ → ℕ) (l : Location) (w : ℕ) → register (text_of d) m y l ≡ Some w → ⊥
  no_register y l w e = let f : None ≡ Some w = e in cc

  same_shot : (x y : ℕ → ℕ) (t : State) → ShowsFor d sound x t → Emitted x y → SameShot (observed (source_of d) t) (shot (text_of d) m y)
  same_shot x y t a b = record { outputs = outputs_same x y t a b; registers = λ l w e. absurd (no_register y l w e) }

  abbrev SameSeen : Shown → Seen → Type 0
  SameSeen o s = SameShot o.before s.before × SameAfter o.after s.after

  -- a step on both sides
  one_step : (s : run.Step) → FitsStep (source_of d) s → (st : State) (x z : ℕ → ℕ) (y : List (ℕ → ℕ)) (o : Seen) → Step m (step_of (text_of d) (source_of d) m s) x z y → seen_of (text_of d) m y ≡ Some o
      → SameSeen (seen d sound s st) o
  one_step s fit st x z y o p e = at_edge s.edge p.later p.second (ap (seen_of (text_of d) m) (sym p.observed) ∙ e)
    where
      t : State
      t = ran d sound (ran d sound (rounds.given d sound s st))

      shows : ShowsFor d sound (inputs_of s) t
      shows = ran_shows d sound (rounds.given d sound s st) (inputs_of s) (source_given s st fit)

      first : Emitted (inputs_of s) p.settled
      first = emitted_of (inputs_of s) (set_for s x) p.settled (fits_step s fit) (emitted_given s x) p.first

      at_edge : (edge : Option (List Location)) (later : List (ℕ → ℕ)) → EdgePart (has_edge edge) m (edge_at (text_of d) m edge) p.settled z later
          → seen_of (text_of d) m (p.settled ∷ later) ≡ Some o → SameSeen (record { before = observed (source_of d) t; after = seen_after d sound edge t }) o
      at_edge None later q f =
          subst (SameSeen (record { before = observed (source_of d) t; after = None })) (some_same (ap (λ l. seen_of (text_of d) m (p.settled ∷ l)) (sym q.1) ∙ f))
          (same_shot (inputs_of s) p.settled t shows first, tt)
      at_edge (Some at) later q f =
          subst (SameSeen (record { before = observed (source_of d) t; after = seen_after d sound (Some at) t })) (some_same (ap (λ l. seen_of (text_of d) m (p.settled ∷ l)) (sym q.1) ∙ f)) (
            same_shot (inputs_of s) p.settled t shows first,
            same_shot (inputs_of s) z (ran d sound (ran d sound t)) (ran_shows d sound t (inputs_of s) shows.inputs)
                (emitted_of (inputs_of s) (after_edges (width_at m.vars) (edge_at (text_of d) m (Some at)) m.blocks p.settled) z (fits_step s fit) first.inputs q.0),
          )

  all_alike : (ss : List run.Step) → FitSteps (source_of d) ss → (st : State) (x : ℕ → ℕ) (ys : List (List (ℕ → ℕ))) (os : List Seen) → Steps m x (map (step_of (text_of d) (source_of d) m) ss) ys
      → AreSeen (text_of d) m ys os → AllSame (all_seen d sound ss st) os
  all_alike [] fit st x [] [] p q = tt
  all_alike [] fit st x [] (o ∷ os) p q = absurd q
  all_alike [] fit st x (y ∷ ys) os p q = absurd p
  all_alike (s ∷ ss) fit st x [] os p q = absurd p
  all_alike (s ∷ ss) fit st x (y ∷ ys) [] p q = absurd q
  all_alike (s ∷ ss) fit st x (y ∷ ys) (o ∷ os) p q =
      let one = one_step s fit.0 st x p.0 y o p.1 q.0 in
      (one.0, one.1, all_alike ss fit.1 (settled_by d sound s.edge (ran d sound (ran d sound (rounds.given d sound s st)))) p.0 ys os p.2 q.1)

  -- the module can take a step
  abbrev Taken : run.Step → (ℕ → ℕ) → Type 0
  Taken s x = (z : ℕ → ℕ) × (y : List (ℕ → ℕ)) × (o : Seen) × Step m (step_of (text_of d) (source_of d) m s) x z y × (seen_of (text_of d) m y ≡ Some o)

  takes : (s : run.Step) → FitsStep (source_of d) s → (x : ℕ → ℕ) → Taken s x
  takes s fit x = at_edge s.edge refl
    where
      g : ℕ → ℕ
      g = set_for s x

      fits : FitIn d.ports g
      fits = fit_same (inputs_of s) g (emitted_given s x) (fits_step s fit)

      y : ℕ → ℕ
      y = found g

      y_fits : FitIn d.ports y
      y_fits = fit_same g y (found_agrees g) fits

      at_edge : (edge : Option (List Location)) → s.edge ≡ edge → Taken s x
      at_edge None e = (
        y,
        y ∷ [],
        record { before = shot (text_of d) m y; after = None },
        record { settled = y; first = finds g fits; later = []; second = subst (λ o. EdgePart (has_edge o) m (edge_at (text_of d) m o) y y []) (sym e) (λ v. refl, refl); observed = refl },
        refl,
      )
      at_edge (Some at) e =
          let h : ℕ → ℕ = after_edges (width_at m.vars) (edge_at (text_of d) m (Some at)) m.blocks y in (
            found h,
            y ∷ found h ∷ [],
            record { before = shot (text_of d) m y; after = Some (shot (text_of d) m (found h)) },
            record {
              settled = y;
              first = finds g fits;
              later = found h ∷ [];
              second = subst (λ o. EdgePart (has_edge o) m (edge_at (text_of d) m o) y (found h) (found h ∷ [])) (sym e) (finds h y_fits, refl);
              observed = refl;
            },
            refl,
          )

  takes_all : (ss : List run.Step) → FitSteps (source_of d) ss → (x : ℕ → ℕ) → (os : List Seen) × Runs (text_of d) (source_of d) m x ss os
  takes_all [] fit x = ([], ([], tt, tt))
  takes_all (s ∷ ss) fit x =
      let p = takes s fit.0 x in
      let q = takes_all ss fit.1 p.0 in
      (p.2 ∷ q.0, (p.1 ∷ q.1.0, (p.0, p.3, q.1.1), (p.4, q.1.2)))

  pub shows_the_same : ShowsTheSame d m
  shows_the_same = record {
    source_shows = λ start is_start ss fit. (all_seen d sound ss start, (length d.puts, shows_all d sound (length d.puts) (omega arith) ss start));
    text_runs = λ x ss fit. takes_all ss fit x;
    same = λ start x is_start alike ss fit os shows resets seen runs.
        subst (λ l. AllSame l seen) (shows_only d sound shows.0 ss start os shows.1) (all_alike ss fit start x runs.0 seen runs.1 runs.2);
    starts = thin_starts d;
    alike = λ start is_start. ((λ v. 0), λ l w e. absurd (let f : None ≡ Some w = e in cc));
  }
