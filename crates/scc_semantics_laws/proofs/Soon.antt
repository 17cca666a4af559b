-- What means the same as a steady design whose settling ends soon has one that ends as soon.
use Rattle.std.proofs.Common.{ℕ, ◌≤◌, max, [], ◌∷◌, None, refl, sym, ap, ◌∙◌, subst, arith}
use Rattle.scc_semantics.specs.Design.{Design, inputs}
use Rattle.scc_semantics.specs.Process.{is_levels}
use Rattle.scc_semantics.specs.Run.{AllFit, with_inputs, restarts_by, has_edge}
use Rattle.scc_semantics.specs.Same.{SameDesign}
use Rattle.scc_semantics.specs.Schedule.{Running, EachOnce, starting, fresh, found_after}
use Rattle.scc_semantics.specs.Rounds.{Reached, starts, settles, takes, begins, resumes, Restless, still, again, EndsSoon}
use Rattle.scc_semantics.specs.Steady.{IsSteady}
use Rattle.scc_semantics_laws.proofs.Sim.{inputs-alike}
use Rattle.scc_semantics_laws.proofs.Step.{Tie}
use Rattle.scc_semantics_laws.proofs.Runs.{fast-lets, same-inputs, same-outputs, given, held, ties}
use Rattle.scc_semantics_laws.proofs.Carried.{starting_with, start-too, steps-fit}
use Rattle.scc_semantics_laws.proofs.Orders.{Free, AlikeR, Comes, round-goes, covers-too, found-same, as-many, once-too}

module _ (k : ℕ) (d e : Design) (s : SameDesign k d e) (steady : IsSteady e) (b : ℕ → ℕ) where
  abbrev Same : Running → Running → Type 0
  Same = AlikeR k d e s steady b

  abbrev ReachedToo : Running → Type 0
  ReachedToo r = Comes k d e s steady b r (λ c v. Reached c e v)

  -- what a scheduler of one comes to, one of the other does
  reached-too : {r : Running} → Reached b d r → ReachedToo r
  reached-too (starts x is) =
      let t = starting_with e x in
      let is_too = start-too k d e s x is in
      record {
        most = 0;
        to = fresh t;
        alike = record { states = record { held = held k d e s steady x t is is_too (λ l. refl); ties = ties k d e s steady x t is is_too (λ l. refl) b }; found = λ i. refl };
        runs = λ c h. starts t is_too;
      }
  reached-too (settles runs r x cov rd more) =
      let m = reached-too more in
      let g = round-goes k d e s steady b runs r.state m.to.state m.alike.states x rd in
      record {
        most = max m.most g.most;
        to = record { state = g.to; found = found_after b e runs m.to };
        alike = record { states = g.related; found = found-same k d e s steady b runs r m.to m.alike };
        runs = λ c h. settles runs m.to g.to (covers-too k d e s steady b r m.to runs m.alike cov) (g.runs c (λ i. let hi = h i in let wi = g.within i in omega arith)) (m.runs c (λ i. let hi = h i in omega arith));
      }
  reached-too (takes words r fit more) =
      let m = reached-too more in
      let al = inputs-alike d d e b Free (Tie k d e) (fast-lets k d e b) (λ z l. s.things l z) (same-inputs k d e s) (same-outputs k d e s) (AllFit d (inputs d)) (given k d e s steady) words r.state m.to.state fit m.alike.states in
      record {
        most = m.most;
        to = record { state = with_inputs e words m.to.state; found = m.to.found };
        alike = record { states = al; found = m.alike.found };
        runs = λ c h. takes words m.to (steps-fit k d e s (record { inputs = words; edge = None } ∷ []) ((fit, tt), tt)).0.0 (m.runs c h);
      }
  reached-too (begins order r x once rd more) =
      let m = reached-too more in
      let g = round-goes k d e s steady b order r.state m.to.state m.alike.states x rd in
      record {
        most = max m.most g.most;
        to = record { state = g.to; found = m.to.found };
        alike = record { states = g.related; found = m.alike.found };
        runs = λ c h. begins order m.to g.to
            (subst (λ w. EachOnce c e (λ p. restarts_by w p.sort) order) m.alike.states.held.words (once-too k d e s steady b (restarts_by r.state.store.words) order c (starting r.state) (starting m.to.state) m.alike.states.ties once))
            (g.runs c (λ i. let hi = h i in let wi = g.within i in omega arith)) (m.runs c (λ i. let hi = h i in omega arith));
      }
  reached-too (resumes at order r x once rd more) =
      let m = reached-too more in
      let g = round-goes k d e s steady b order r.state m.to.state m.alike.states x rd in
      record {
        most = max m.most g.most;
        to = record { state = g.to; found = m.to.found };
        alike = record { states = g.related; found = m.alike.found };
        runs = λ c h. resumes at order m.to g.to (once-too k d e s steady b (has_edge at) order c (starting r.state) (starting m.to.state) m.alike.states.ties once)
            (g.runs c (λ i. let hi = h i in let wi = g.within i in omega arith)) (m.runs c (λ i. let hi = h i in omega arith));
      }

  restless-too : {n : ℕ} {r : Running} → Restless b d n r → (u : Running) → Same r u → (most : ℕ) × ((c : ℕ → ℕ) → ((i : ℕ) → most ≤ c i) → Restless c e n u)
  restless-too (still r) u a = (0, λ c h. still u)
  restless-too (again runs r x cov rd changes more) u a =
      let g = round-goes k d e s steady b runs r.state u.state a.states x rd in
      let next : Running = record { state = g.to; found = found_after b e runs u } in
      let m = restless-too more next (record { states = g.related; found = found-same k d e s steady b runs r u a }) in (
        max g.most m.0,
        λ c h. again runs u g.to (covers-too k d e s steady b r u runs a cov) (g.runs c (λ i. let hi = h i in let wi = g.within i in omega arith))
            (record {
              signal = changes.signal;
              kind = changes.kind;
              stands = sym (s.things changes.signal) ∙ changes.stands;
              other = λ q. changes.other (ap (λ w. w changes.signal) g.related.held.words ∙ q ∙ sym (ap (λ w. w changes.signal) a.states.held.words));
            })
            (m.1 c (λ i. let hi = h i in omega arith)),
      )

pub ends-too : (k : ℕ) (d e : Design) → SameDesign k d e → IsSteady e → EndsSoon e → EndsSoon d
ends-too k d e s steady soon bounds n r reached restless =
    let a = reached-too k d e s steady bounds reached in
    let m = restless-too k d e s steady bounds restless a.to a.alike in
    let c : ℕ → ℕ = λ i. max a.most m.0 in
    let many = as-many k d e s steady bounds is_levels d.processes e.processes 0 (starting r.state) (starting a.to.state) a.alike.states.ties in
    subst (λ z. n ≤ z) (sym many) (soon c n a.to (a.runs c (λ i. omega arith)) (m.1 c (λ i. omega arith)))
