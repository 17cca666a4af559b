-- A design of one combinational method settles in its first round.
use Rattle.std.proofs.Common.{◌≡◌, ℕ, ◌<◌, ◌≤◌, List, [], ◌∷◌, map, length, true, false, nat_eq, Option, Some, None, ap, refl, sym, ◌∙◌, inl, inr}
use Rattle.std.specs.Prelude.{unwrap_or}
use Rattle.std.proofs.lemmas.Bool.{cases_lt}
use Rattle.std.specs.List.{list_any}
use Rattle.scc_semantics.specs.Location.{Location, same}
use Rattle.scc_semantics.specs.Places.{Combinational}
use Rattle.scc_semantics.specs.Store.{updated}
use Rattle.scc_semantics.specs.Machine.{Stop}
use Rattle.scc_semantics.specs.Body.{End}
use Rattle.scc_semantics.specs.Process.{State, Well, Failed, and_then, framed, left_by, phase, update, settle, is_combinational}
use Rattle.scc_semantics.specs.Run.{Step, Observation, Shown, observed, with_inputs, step, finished, shown}
use Rattle.scc_thin.specs.declared.design.Design.{Design}
use Rattle.scc_thin.specs.declared.design.Port.{Port}
use Rattle.scc_thin.specs.Resolved.{is_output_at, targets_of}
use Rattle.scc_thin_module.specs.Source.{member, source_of}
use Rattle.scc_thin_module.proofs.Putting.{request, method_runs, method_stops, AllWithin}
use Rattle.scc_thin_module.proofs.Lasting.{AllSoundPuts, AgreeIn, last_word, updated_last, last_same, last_input, last_any}

-- what a design of a thin text keeps to
pub record IsSound (d : Design) : Type 0 where
  pub within : AllWithin (length d.ports) d.puts
  pub puts : AllSoundPuts d.ports d.puts
  pub written : (i : ℕ) → is_output_at d.ports i ≡ true → list_any (nat_eq i) (targets_of d.puts) ≡ true

-- the words of the ports in a state
abbrev pub words_in : List Port → State → ℕ → ℕ
words_in ports s i = s.store.words (member i)

module _ (d : Design) (sound : IsSound d) where
  -- a state after the method ran once
  abbrev pub ran : State → State
  ran s = record {
    store = record { words = updated (map (request d.ports (words_in d.ports s)) d.puts) s.store.words; targets = s.store.targets };
    frames = framed 0 Stop s.frames;
  }

  one_round : (n : ℕ) → length d.puts ≤ n → (s : State) → phase (λ _. n) (source_of d) is_combinational s ≡ Well (ran s)
  one_round n enough s =
      ap (λ o. and_then (and_then (left_by (Combinational (map member d.senses)) 0 s.frames o) (λ t. Well t)) (λ t. Well (update (λ _. n) (source_of d) t)))
      (method_runs d.ports (λ n. End) s.store.words n d.puts (record { store = s.store; requests = [] }) sound.within enough)

  pub settles : (n : ℕ) → length d.puts ≤ n → (s : State) → settle (λ _. n) (source_of d) s ≡ Well (ran (ran s))
  settles n enough s =
      ap (λ o. and_then o (λ t. and_then (phase (λ _. n) (source_of d) is_combinational t) (λ u. Well u))) (one_round n enough s)
      ∙ ap (λ o. and_then o (λ u. Well u)) (one_round n enough (ran s))

  -- the inputs stay
  ran_input : (s : State) (i : ℕ) → i < length d.ports → is_output_at d.ports i ≡ false → words_in d.ports (ran s) i ≡ words_in d.ports s i
  ran_input s i h e =
      updated_last d.ports (words_in d.ports s) d.puts s.store.words i
      ∙ ap (λ o. unwrap_or o (words_in d.ports s i)) (last_input d.ports (words_in d.ports s) d.puts i sound.puts e)

  -- an output holds what its last write gives it, by the words of the inputs
  ran_output : (s : State) (x : ℕ → ℕ) (i : ℕ) → AgreeIn d.ports (words_in d.ports s) x → i < length d.ports → is_output_at d.ports i ≡ true
      → words_in d.ports (ran s) i ≡ unwrap_or (last_word d.ports x d.puts i) 0
  ran_output s x i same h e =
      updated_last d.ports (words_in d.ports s) d.puts s.store.words i
      ∙ last_any d.ports (words_in d.ports s) d.puts i (words_in d.ports s i) 0 (sound.written i e)
      ∙ ap (λ o. unwrap_or o 0) (last_same d.ports (words_in d.ports s) x d.puts i sound.within sound.puts same)

  -- a state that shows these inputs, and the outputs that the method gives for them
  pub record ShowsFor (x : ℕ → ℕ) (s : State) : Type 0 where
    pub inputs : AgreeIn d.ports (words_in d.ports s) x
    pub outputs : (i : ℕ) → i < length d.ports → is_output_at d.ports i ≡ true → words_in d.ports s i ≡ unwrap_or (last_word d.ports x d.puts i) 0

  ran_agrees : (s : State) (x : ℕ → ℕ) → AgreeIn d.ports (words_in d.ports s) x → AgreeIn d.ports (words_in d.ports (ran s)) x
  ran_agrees s x same i h e = ran_input s i h e ∙ same i h e

  pub ran_shows : (s : State) (x : ℕ → ℕ) → AgreeIn d.ports (words_in d.ports s) x → ShowsFor x (ran (ran s))
  ran_shows s x same = record {
    inputs = ran_agrees (ran s) x (ran_agrees s x same);
    outputs = λ i h e. ran_output (ran s) x i (ran_agrees s x same) h e;
  }

  -- the state after a step: once settled, and settled again where the step has an edge
  abbrev pub settled_by : Option (List Location) → State → State
  settled_by None s = s
  settled_by (Some clocks) s = ran (ran s)

  abbrev pub given : Step → State → State
  given x s = with_inputs (source_of d) x.inputs s

  abbrev pub seen_after : Option (List Location) → State → Option Observation
  seen_after None s = None
  seen_after (Some clocks) s = Some (observed (source_of d) (ran (ran s)))

  abbrev pub seen : Step → State → Shown
  seen x s = record { before = observed (source_of d) (ran (ran (given x s))); after = seen_after x.edge (ran (ran (given x s))) }

  finishes : (n : ℕ) → length d.puts ≤ n → (edge : Option (List Location)) (s : State)
      → finished (λ _. n) (source_of d) edge s ≡ Well (settled_by edge s, record { before = observed (source_of d) s; after = seen_after edge s })
  finishes n enough None s = refl
  finishes n enough (Some clocks) s = ap (λ o. and_then o (λ t. Well (t, record { before = observed (source_of d) s; after = Some (observed (source_of d) t) }))) (settles n enough s)

  pub steps : (n : ℕ) → length d.puts ≤ n → (x : Step) (s : State) → step (λ _. n) (source_of d) x s ≡ Well (settled_by x.edge (ran (ran (given x s))), seen x s)
  steps n enough x s =
      ap (λ o. and_then o (finished (λ _. n) (source_of d) x.edge)) (settles n enough (given x s)) ∙ finishes n enough x.edge (ran (ran (given x s)))

  -- what the steps show, one after another
  abbrev pub all_seen : List Step → State → List Shown
  all_seen [] s = []
  all_seen (x ∷ xs) s = seen x s ∷ all_seen xs (settled_by x.edge (ran (ran (given x s))))

  pub shows_all : (n : ℕ) → length d.puts ≤ n → (xs : List Step) (s : State) → shown (λ _. n) (source_of d) xs s ≡ Well (all_seen xs s)
  shows_all n enough [] s = refl
  shows_all n enough (x ∷ xs) s =
      ap (λ o. and_then o (λ r. and_then (shown (λ _. n) (source_of d) xs r.0) (λ more. Well (r.1 ∷ more)))) (steps n enough x s)
      ∙ ap (λ o. and_then o (λ more. Well (seen x s ∷ more))) (shows_all n enough xs (settled_by x.edge (ran (ran (given x s)))))

  -- with fewer statements allowed than the method has, no step is finished
  no_step : (n : ℕ) → n < length d.puts → (x : Step) (s : State) → step (λ _. n) (source_of d) x s ≡ Failed 0
  no_step n few x s =
      ap (λ o. and_then (and_then (and_then (and_then (left_by (Combinational (map member d.senses)) 0 (given x s).frames o) (λ t. Well t)) (λ t. Well (update (λ _. n) (source_of d) t)))
      (λ t. and_then (phase (λ _. n) (source_of d) is_combinational t) (λ u. Well u))) (finished (λ _. n) (source_of d) x.edge))
      (method_stops d.ports (λ n. End) (given x s).store.words n d.puts (record { store = (given x s).store; requests = [] }) sound.within few)

  -- so it shows this, or nothing
  pub shows_only : (n : ℕ) (xs : List Step) (s : State) (os : List Shown) → shown (λ _. n) (source_of d) xs s ≡ Well os → all_seen xs s ≡ os
  shows_only n xs s os e = elim (cases_lt n (length d.puts)) [
    | inl few ↦ by_steps few xs e
    | inr enough ↦ well_same (sym (shows_all n enough xs s) ∙ e)
  ]
    where
      well_same : {a b : List Shown} → Well a ≡ Well b → a ≡ b
      well_same e = cc

      by_steps : n < length d.puts → (xs : List Step) → shown (λ _. n) (source_of d) xs s ≡ Well os → all_seen xs s ≡ os
      by_steps few [] e = well_same e
      by_steps few (x ∷ xs) e =
          absurd (let f : Failed 0 ≡ Well os = sym (ap (λ o. and_then o (λ r. and_then (shown (λ _. n) (source_of d) xs r.0) (λ more. Well (r.1 ∷ more)))) (no_step n few x s)) ∙ e in cc)
