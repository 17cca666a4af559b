-- The schedule of the reader and the writer of a signal.
use Rattle.std.proofs.Common.{◌≡◌, ℕ, zero, suc, true, false, ◌||◌, ◌⊎◌, inl, inr, ◌≢◌, nat_eq, List, [], ◌∷◌, Option, Some, None, refl, sym, ap, ◌∙◌, arith, true≢false}
use Rattle.std.proofs.lemmas.Bool.Decides.{eqb_tells}
use Rattle.scc_semantics.specs.Design.{Process}
use Rattle.scc_semantics.specs.Process.{State}
use Rattle.scc_semantics.specs.Run.{Shown, observed, restarts}
use Rattle.scc_semantics.specs.Schedule.{Running, Covers, Begins, EachOnce, Settles, last, goes, Scheduled, done, held, among, fresh, found_after, given, is_method, must_run, process_at, round}
use Rattle.scc_blocks_spec.specs.WorkedSchedule.{chain, allowed, at_zero, one_step, outputs_before, state_of}

abbrev or_this : {X : Type 0} → X → Option X → X
or_this y None = y
or_this y (Some x) = x

abbrev inputs_set : State
inputs_set = given allowed chain (5 ∷ []) (fresh at_zero)

abbrev reset : State
reset = state_of (round allowed chain [] inputs_set)

abbrev at_first : Running
at_first = record { state = reset; found = λ i. None }

-- behind a round of these methods
abbrev behind : List ℕ → Running → Running
behind runs r = record { state = state_of (round allowed chain runs r.state); found = found_after allowed chain runs r }

abbrev both_ran : Running
both_ran = behind (0 ∷ 1 ∷ []) at_first

abbrev reader_ran : Running
reader_ran = behind (0 ∷ []) both_ran

abbrev at_rest : Running
at_rest = behind [] reader_ran

apart : (n m : ℕ) → (n ≡ m → ⊥) → nat_eq n m ≡ false
apart n m h = by (eqb_tells n m)
  where
    by : ((nat_eq n m ≡ true) × (n ≡ m)) ⊎ ((nat_eq n m ≡ false) × (n ≢ m)) → nat_eq n m ≡ false
    by (inl t) = absurd (h t.1)
    by (inr t) = t.0

past_zero : (i : ℕ) → among (suc i) (0 ∷ []) ≡ false
past_zero i = ap (λ b. b || false) (apart (suc i) 0 (λ e. omega (arith, e)))

past_one : (i : ℕ) → among (suc (suc i)) (0 ∷ 1 ∷ []) ≡ false
past_one i = ap (λ b. b || (nat_eq (suc (suc i)) 1 || false)) (apart (suc (suc i)) 0 (λ e. omega (arith, e))) ∙ ap (λ b. false || (b || false)) (apart (suc (suc i)) 1 (λ e. omega (arith, e)))

no_thread : (i : ℕ) (p : Process) → process_at chain i ≡ Some p → restarts inputs_set p ≡ true → among i [] ≡ true
no_thread zero p e r = ap (restarts inputs_set) (ap (or_this p) e) ∙ r
no_thread (suc zero) p e r = ap (restarts inputs_set) (ap (or_this p) e) ∙ r
no_thread (suc (suc i)) p e r = cc

none_restarts : EachOnce allowed chain (restarts inputs_set) []
none_restarts = record { all = no_thread; only = λ i e. absurd (true≢false (sym e)); once = refl }

both_cover : Covers chain at_first (0 ∷ 1 ∷ [])
both_cover = record { methods = methods; all = all }
  where
    methods : (i : ℕ) → among i (0 ∷ 1 ∷ []) ≡ true → is_method chain i ≡ true
    methods zero e = refl
    methods (suc zero) e = refl
    methods (suc (suc i)) e = absurd (true≢false (sym e ∙ past_one i))

    all : (i : ℕ) → must_run chain at_first i ≡ true → among i (0 ∷ 1 ∷ []) ≡ true
    all zero e = refl
    all (suc zero) e = refl
    all (suc (suc i)) e = absurd (true≢false (sym e))

reader_covers : Covers chain both_ran (0 ∷ [])
reader_covers = record { methods = methods; all = all }
  where
    methods : (i : ℕ) → among i (0 ∷ []) ≡ true → is_method chain i ≡ true
    methods zero e = refl
    methods (suc i) e = absurd (true≢false (sym e ∙ past_zero i))

    all : (i : ℕ) → must_run chain both_ran i ≡ true → among i (0 ∷ []) ≡ true
    all zero e = refl
    all (suc zero) e = absurd (true≢false (sym e))
    all (suc (suc i)) e = absurd (true≢false (sym e))

none_covers : Covers chain reader_ran []
none_covers = record { methods = λ i e. absurd (true≢false (sym e)); all = all }
  where
    all : (i : ℕ) → must_run chain reader_ran i ≡ true → among i [] ≡ true
    all zero e = absurd (true≢false (sym e))
    all (suc zero) e = absurd (true≢false (sym e))
    all (suc (suc i)) e = absurd (true≢false (sym e))

settles : Settles allowed chain 3 at_first at_rest
settles = goes (0 ∷ 1 ∷ []) both_ran.state both_cover refl (goes (0 ∷ []) reader_ran.state reader_covers refl (last [] reader_ran at_rest.state none_covers refl (λ l k e. refl)))

begins : Begins allowed chain (5 ∷ []) (fresh at_zero) at_rest
begins = record { order = []; once = none_restarts; state = reset; runs = refl; rounds = 3; settles = settles }

pub scheduled : (os : List Shown) × Scheduled allowed chain (fresh at_zero) one_step os × (outputs_before os ≡ (5 ∷ []) ∷ [])
scheduled = (record { before = observed chain at_rest.state; after = None } ∷ [], held (5 ∷ []) (fresh at_zero) begins (done at_rest), refl)
