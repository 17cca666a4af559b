-- What holds of the design that hands an input on.
use Rattle.std.proofs.Common.{◌≡◌, ℕ, zero, suc, ◌*◌, ◌≤◌, Bool, true, false, nat_eq, ◌||◌, cond, if◌then◌else◌, List, [], ◌∷◌, map, length, Option, Some, None, refl, sym, ap, ◌∙◌, subst, arith, one-mul}
use Rattle.scc_semantics.specs.Location.{Location}
use Rattle.scc_semantics.specs.Design.{Process}
use Rattle.scc_semantics.specs.Value.{asked}
use Rattle.scc_semantics.specs.Machine.{Stop}
use Rattle.scc_semantics.specs.Process.{State, Phase, Went, Well, Failed, and_then, framed, resume, update}
use Rattle.scc_semantics.specs.Run.{Step, Shown, Observation, observed, shown, with_inputs, resumes_at}
use Rattle.scc_semantics.specs.Run as run
use Rattle.scc_semantics.specs.Same.{Plays, SameDesign, at_first}
use Rattle.scc_semantics.specs.Schedule.{Running, Covers, Settles, last, goes, Begins, Edged, Scheduled, done, held, edged, SameAfter, SameShown, AnyOrder, among, is_method, process_at, round, starting}
use Rattle.scc_semantics.specs.Rounds.{Restless, still, again, EndsSoon}
use Rattle.scc_semantics.specs.Worked.{port, hands_on, handing_on}

true-false : {A : Type 0} → true ≡ false → A
true-false e = absurd cc

-- ---- it means what it means
once : (ns : List ℕ) → ns ≡ map (λ n. 1 * n) ns
once [] = refl
once (n ∷ ns) = λ i. sym (one-mul n) i ∷ once ns i

pub same-as-itself : SameDesign 1 handing_on handing_on
same-as-itself = record {
  things = λ l. refl;
  ports = refl;
  fixed = λ l. refl;
  constants = λ l. refl;
  processes = (refl, record { plays = λ ns ts os h a. (ns, a); only = λ ns ts os h a. subst (λ ms. Plays handing_on 0 hands_on (at_first handing_on 0 hands_on) ms ts os) (once ns) a }, tt);
}

-- ---- it has no combinational methods
none-at : (i : ℕ) → is_method handing_on i ≡ false
none-at zero = refl
none-at (suc i) = refl

self : (i : ℕ) → nat_eq i i ≡ true
self i = grind arith

or-left : (a b : Bool) → a ≡ true → (a || b) ≡ true
or-left true b e = refl
or-left false b e = true-false (sym e)

no-runs : (r : Running) (runs : List ℕ) → Covers handing_on r runs → runs ≡ []
no-runs r [] c = refl
no-runs r (i ∷ is) c = true-false (sym (c.methods i (or-left (nat_eq i i) _ (self i))) ∙ none-at i)

well-same : {A : Type 0} (x y : A) → Well x ≡ Well y → x ≡ y
well-same x y e = cc

module _ (b : ℕ → ℕ) where
  round-stays : (r : Running) (runs : List ℕ) (s : State) → Covers handing_on r runs → round b handing_on runs r.state ≡ Well s → s ≡ r.state
  round-stays r runs s c e = sym (well-same r.state s (ap (λ is. round b handing_on is r.state) (sym (no-runs r runs c)) ∙ e))

  settled-stays : {n : ℕ} {r t : Running} → Settles b handing_on n r t → t.state ≡ r.state
  settled-stays (last runs r s c e q) = round-stays r runs s c e
  settled-stays (goes {r = r} runs s c e more) = settled-stays more ∙ round-stays r runs s c e

  restless-none : (n : ℕ) (r : Running) → Restless b handing_on n r → n ≤ 0
  restless-none zero r (still s) = omega arith
  restless-none (suc n) r (again runs q s c e x more) = absurd (x.other (ap (λ t. t.store.words x.signal) (round-stays r runs s c e)))

pub ends-soon : EndsSoon handing_on
ends-soon b n r reached restless = restless-none b n r restless

-- ---- a resume, whatever its bound
-- what the method leaves
abbrev handed : (Location → ℕ) → Phase → Phase
handed signals s = record { held = asked s.held (port 2) (signals (port 1)); frames = framed 0 Stop s.frames }

resumed : (b : ℕ → ℕ) (signals : Location → ℕ) (s t : Phase) → resume b handing_on signals 0 hands_on s ≡ Well t → t ≡ handed signals s
resumed b signals s t e = by (b 0) refl
  where
    by : (n : ℕ) → b 0 ≡ n → t ≡ handed signals s
    by n k = cases n (ap (λ m. resume (λ i. m) handing_on signals 0 hands_on s) (sym k) ∙ e)
      where
        cases : (n : ℕ) → resume (λ i. n) handing_on signals 0 hands_on s ≡ Well t → t ≡ handed signals s
        cases zero e = absurd cc
        cases (suc zero) e = sym (well-same (handed signals s) t e)
        cases (suc (suc n)) e = sym (well-same (handed signals s) t e)

-- ---- any order
well-is : {A B : Type 0} (w : Went A) (f : A → Went B) (y : B) → and_then w f ≡ Well y → (x : A) × (w ≡ Well x) × (f x ≡ Well y)
well-is (Well x) f y e = (x, refl, e)
well-is (Failed i) f y e = absurd cc

no-order : (order : List ℕ) → length order ≡ 0 → order ≡ []
no-order [] e = refl
no-order (i ∷ is) e = absurd (let q = e in grind (arith, q))

one-order : (order : List ℕ) → length order ≡ 1 → ((i : ℕ) → among i order ≡ true → (p : Process) × (process_at handing_on i ≡ Some p)) → order ≡ 0 ∷ []
one-order [] e h = absurd (let q = e in grind (arith, q))
one-order (zero ∷ []) e h = refl
one-order (suc i ∷ []) e h = let m = h (suc i) (or-left (nat_eq (suc i) (suc i)) _ (self (suc i))) in let q = m.1 in absurd cc
one-order (i ∷ j ∷ is) e h = absurd (let q = e in grind (arith, q))

-- behind an edge at which the method runs or doesn't
abbrev behind : (ℕ → ℕ) → Bool → State → State
behind b true s = update b handing_on (handed s.store.words (starting s))
behind b false s = s

abbrev runs_at : List Location → Bool
runs_at at = resumes_at at hands_on

module _ (b : ℕ → ℕ) where
  begins-same : (words : List ℕ) (r t : Running) → Begins b handing_on words r t → t.state ≡ with_inputs handing_on words r.state
  begins-same words r t g =
      settled-stays b g.settles
      ∙ sym (well-same (with_inputs handing_on words r.state) g.state (ap (λ is. round b handing_on is (with_inputs handing_on words r.state)) (sym (no-order g.order g.once.once)) ∙ g.runs))

  edge-goes : (t : Bool) (s u : State) → and_then (and_then (if t then resume b handing_on s.store.words 0 hands_on (starting s) else Well (starting s)) (λ x. Well x)) (λ x. Well (update b handing_on x)) ≡ Well u → u ≡ behind b t s
  edge-goes true s u e =
      let w = well-is (and_then (resume b handing_on s.store.words 0 hands_on (starting s)) (λ x. Well x)) (λ x. Well (update b handing_on x)) u e in
      let v = well-is (resume b handing_on s.store.words 0 hands_on (starting s)) (λ x. Well x) w.0 w.1 in
      sym (well-same (update b handing_on w.0) u w.2) ∙ ap (update b handing_on) (sym (well-same v.0 w.0 v.2) ∙ resumed b s.store.words (starting s) v.0 v.1)
  edge-goes false s u e = sym (well-same s u e)

  edged-same : (at : List Location) (r t : Running) → Edged b handing_on at r t → t.state ≡ behind b (runs_at at) r.state
  edged-same at r t g = settled-stays b g.settles ∙ by (runs_at at) refl
    where
      by : (m : Bool) → runs_at at ≡ m → g.state ≡ behind b m r.state
      by false m =
          edge-goes false r.state g.state (ap (λ is. round b handing_on is r.state) (sym (no-order g.order (g.once.once ∙ ap (λ m. length (cond m (hands_on ∷ []) [])) m))) ∙ g.runs)
      by true m =
          edge-goes true r.state g.state
          (ap (λ is. round b handing_on is r.state) (sym (one-order g.order (g.once.once ∙ ap (λ m. length (cond m (hands_on ∷ []) [])) m) (λ i a. let o = g.once.only i a in (o.0, o.1)))) ∙ g.runs)

-- in the standard order
edge-standard : (b : ℕ → ℕ) (at : List Location) (s u : State) → run.edged b handing_on at s ≡ Well u → u ≡ behind b (runs_at at) s
edge-standard b at s u e =
    let w = well-is (and_then (and_then (if runs_at at then resume b handing_on s.store.words 0 hands_on (starting s) else Well (starting s)) (λ x. Well x)) (λ x. Well (update b handing_on x))) (λ x. Well x) u e in
    sym (well-same w.0 u w.2) ∙ edge-goes b (runs_at at) s w.0 w.1

scheduled-same : (b c : ℕ → ℕ) {r : Running} {xs : List Step} {ps : List Shown} → Scheduled b handing_on r xs ps → (os : List Shown) → shown c handing_on xs r.state ≡ Well os → os ≡ ps
scheduled-same b c (done r) os e = sym (well-same [] os e)
scheduled-same b c (held {t = t} {xs = xs} {os = ps} words r begins more) os e =
    let given = with_inputs handing_on words r.state in
    let same = begins-same b words r t begins in
    let w = well-is (shown c handing_on xs given) (λ more. Well (record { before = observed handing_on given; after = None } ∷ more)) os e in
    let rest = scheduled-same b c more w.0 (subst (λ s. shown c handing_on xs s ≡ Well w.0) (sym same) w.1) in
    sym (well-same (record { before = observed handing_on given; after = None } ∷ w.0) os w.2) ∙ (λ i. record { before = observed handing_on (sym same i); after = None } ∷ rest i)
scheduled-same b c (edged {t = t} {u = u} {xs = xs} {os = ps} words at r begins edges more) os e =
    let given = with_inputs handing_on words r.state in
    let same = begins-same b words r t begins in
    let w = well-is (and_then (run.edged c handing_on at given) (λ t. Well (t, record { before = observed handing_on given; after = Some (observed handing_on t) })))
    (λ r. and_then (shown c handing_on xs r.0) (λ more. Well (r.1 ∷ more))) os e in
    let v = well-is (run.edged c handing_on at given) (λ t. Well (t, record { before = observed handing_on given; after = Some (observed handing_on t) })) w.0 w.1 in
    let pair = well-same (v.0, record { before = observed handing_on given; after = Some (observed handing_on v.0) }) w.0 v.2 in
    let z = well-is (shown c handing_on xs w.0.0) (λ more. Well (w.0.1 ∷ more)) os w.2 in
    let there : u.state ≡ w.0.0 = edged-same b at t u edges ∙ ap (behind b (runs_at at)) same ∙ sym (edge-standard c at given v.0 v.1) ∙ ap (λ r. r.0) pair in
    let rest = scheduled-same b c more z.0 (subst (λ s. shown c handing_on xs s ≡ Well z.0) (sym there) z.1) in
    let first : w.0.1 ≡ record { before = observed handing_on t.state; after = Some (observed handing_on u.state) } =
    sym (ap (λ r. r.1) pair) ∙ (λ i. record { before = observed handing_on (sym same i); after = Some (observed handing_on ((ap (λ r. r.0) pair ∙ sym there) i)) }) in
    sym (well-same (w.0.1 ∷ z.0) os z.2) ∙ (λ i. first i ∷ rest i)

same-after : (o : Option Observation) → SameAfter (λ l. true) o o
same-after None = tt
same-after (Some a) = record { outputs = refl; words = λ l r. refl }

same-shown : (os : List Shown) → SameShown (λ l. true) os os
same-shown [] = tt
same-shown (o ∷ os) = (record { outputs = refl; words = λ l r. refl }, same-after o.after, same-shown os)

pub any-order : AnyOrder (λ l. true) handing_on
any-order s start xs fit os ps bound shows scheduled = subst (λ ps. SameShown (λ l. true) os ps) (scheduled-same (λ i. bound) (λ i. shows.0) scheduled os shows.1) (same-shown os)
