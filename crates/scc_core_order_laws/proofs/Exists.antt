-- There is a schedule of all steps that fit, from each start.
use Rattle.std.proofs.Common.{◌≡◌, ℕ, Bool, List, [], ◌∷◌, Option, Some, None}
use Rattle.scc_semantics.specs.Location.{Location}
use Rattle.scc_semantics.specs.Design.{Design}
use Rattle.scc_semantics.specs.Design as running
use Rattle.scc_semantics.specs.Process.{State, Well}
use Rattle.scc_semantics.specs.Run.{Step, Shown, FitSteps, observed, restarts, resumes_at, with_inputs}
use Rattle.scc_semantics.specs.Start.{IsStart}
use Rattle.scc_semantics.specs.Schedule.{Running, Covers, Settles, last, goes, Begins, Edged, Scheduled, done, held, edged, EachOnce, fresh, round}
use Rattle.scc_semantics.specs.Rounds.{Reached, starts, settles, takes, begins, resumes}
use Rattle.scc_core_spec.specs.Program.{Program}
use Rattle.scc_core_spec.specs.Source.{Home}
use Rattle.scc_core_effect_laws.specs.Follows.{IsSoundCore, Obeys, Does, Tracks, design_of}
use Rattle.scc_core_effect_laws.specs.Ordering.{IsOrdered}
use Rattle.scc_core_order_laws.specs.Inputs.{KeepsInputs}
use Rattle.scc_core_order_laws.proofs.Asked.{Senses}
use Rattle.scc_core_order_laws.proofs.Rounds.{once-fresh, round-goes-well}
use Rattle.scc_core_order_laws.proofs.Soon.{reached-follows}
use Rattle.scc_core_order_laws.proofs.Within.{ends-within}
use Rattle.scc_core_order_laws.proofs.Passing.{passing, passing-once}

module _ (home : Home) (p : Program) (resolved : IsSoundCore home p) (obeys : Obeys p) (bounds : ℕ → ℕ) (does : Does home p bounds) (tracks : Tracks home p bounds) (order : List ℕ) (ordered : IsOrdered p order) (senses : Senses p)
    (kept : KeepsInputs p) (choose : Running → List ℕ) (covers : (r : Running) → Covers (design_of home p) r (choose r)) where
  abbrev D : Design
  D = design_of home p

  settled-reached : {n : ℕ} {r t : Running} → Settles bounds D n r t → Reached bounds D r → Reached bounds D t
  settled-reached (last runs r s cov went quiet) reached = settles runs r s cov went reached
  settled-reached (goes {r = r} runs s cov went more) reached = settled-reached more (settles runs r s cov went reached)

  -- processes of a test, in the order of their numbers
  others-go : (test : running.Process → Bool) (r : Running) → Reached bounds D r → (s : State) × (round bounds D (passing test D.processes 0) r.state ≡ Well s)
  others-go test r reached =
      let m = reached-follows home p resolved obeys bounds does tracks order ordered senses kept bounds reached in
      round-goes-well home p resolved obeys bounds does tracks r.state m.0 m.1.tied (passing test D.processes 0) (once-fresh home p bounds test (passing test D.processes 0) (passing-once test bounds D))

  settled-to : (r : Running) → Reached bounds D r → (n : ℕ) × (t : Running) × Settles bounds D n r t × Reached bounds D t
  settled-to r reached =
      let m = ends-within home p resolved obeys bounds does tracks order ordered senses kept choose covers r reached in
      (m.0, m.1, m.2, settled-reached m.2 reached)

  begin : (words : List ℕ) (r : Running) → Reached bounds D (record { state = with_inputs D words r.state; found = r.found }) → (t : Running) × Begins bounds D words r t × Reached bounds D t
  begin words r reached =
      let test = restarts (with_inputs D words r.state) in
      let list = passing test D.processes 0 in
      let once : EachOnce bounds D test list = passing-once test bounds D in
      let m = others-go test (record { state = with_inputs D words r.state; found = r.found }) reached in
      let z = settled-to (record { state = m.0; found = r.found }) (begins list (record { state = with_inputs D words r.state; found = r.found }) m.0 once m.1 reached) in
      (z.1, record { order = list; once = once; state = m.0; runs = m.1; rounds = z.0; settles = z.2 }, z.3)

  edge : (at : List Location) (r : Running) → Reached bounds D r → (t : Running) × Edged bounds D at r t × Reached bounds D t
  edge at r reached =
      let list = passing (resumes_at at) D.processes 0 in
      let once : EachOnce bounds D (resumes_at at) list = passing-once (resumes_at at) bounds D in
      let m = others-go (resumes_at at) r reached in
      let z = settled-to (record { state = m.0; found = r.found }) (resumes at list r m.0 once m.1 reached) in
      (z.1, record { order = list; once = once; state = m.0; runs = m.1; rounds = z.0; settles = z.2 }, z.3)

  exists-from : (xs : List Step) → FitSteps D xs → (r : Running) → Reached bounds D r → (ps : List Shown) × Scheduled bounds D r xs ps
  exists-from [] fit r reached = ([], done r)
  exists-from (x ∷ xs) fit r reached = by x.edge (begin x.inputs r (takes x.inputs r fit.0.0 reached)) (λ t k. exists-from xs fit.1 t k)
    where
      by : (o : Option (List Location)) → ((t : Running) × Begins bounds D x.inputs r t × Reached bounds D t) → ((t : Running) → Reached bounds D t → (ps : List Shown) × Scheduled bounds D t xs ps)
          → (ps : List Shown) × Scheduled bounds D r (record { inputs = x.inputs; edge = o } ∷ xs) ps
      by None b more = let m = more b.0 b.2 in (record { before = observed D b.0.state; after = None } ∷ m.0, held x.inputs r b.1 m.1)
      by (Some at) b more =
          let e = edge at b.0 b.2 in
          let m = more e.0 e.2 in
          (record { before = observed D b.0.state; after = Some (observed D e.0.state) } ∷ m.0, edged x.inputs at r b.1 e.1 m.1)

  pub exists : (s : State) → IsStart D s → (xs : List Step) → FitSteps D xs → (ps : List Shown) × Scheduled bounds D (fresh s) xs ps
  exists s start xs fit = exists-from xs fit (fresh s) (starts s start)
