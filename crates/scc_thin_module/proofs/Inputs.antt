-- The words of the inputs are the same on both sides.
use Rattle.std.proofs.Common.{◌≡◌, ◌≢◌, ℕ, suc, ◌+◌, ◌<◌, ◌≤◌, ◌^◌, List, [], ◌∷◌, map, length, Bool, true, false, cond, nat_eq, ◌&&◌, ap, refl, sym, ◌∙◌, arith, subst, inl, inr}
use Rattle.std.proofs.lemmas.Bool.{ne_eqb}
use Rattle.std.proofs.lemmas.Bool.Decides.{eqb_tells}
use Rattle.scc_semantics.specs.Location.{Location}
use Rattle.scc_semantics.specs.Store.{changed}
use Rattle.std.specs.Prelude.{filter, not}
use Rattle.scc_semantics.specs.Design.{inputs, outputs, is_input, locations}
use Rattle.scc_semantics.specs.Design as direction
use Rattle.scc_semantics.specs.Run.{set_inputs, AllFit, FitsThing, word_at}
use Rattle.scc_blocks_spec.specs.Emitted.{given_from, outputs_from}
use Rattle.scc_svtree.specs.declared.module.SvVar.{SvVar}
use Rattle.scc_svtree.specs.declared.module.Dir.TheVariants.{Input, Output}
use Rattle.scc_thin.specs.declared.design.Design as thin
use Rattle.scc_thin.specs.declared.design.Port.{Port}
use Rattle.scc_thin_module.specs.Emitted.{var_of, width_of}
use Rattle.scc_thin.specs.Resolved.{is_output_at}
use Rattle.scc_thin_module.specs.Source.{member, ports_from, thing_at, source_of}
use Rattle.scc_thin_module.proofs.Putting.{thing_is}
use Rattle.scc_thin_module.proofs.Lasting.{and_true}

abbrev same_bool : Bool → Bool → Bool
same_bool true b = b
same_bool false true = false
same_bool false false = true

-- the inputs, or the outputs, among ports that are numbered from i on
abbrev pub members_from : Bool → ℕ → List Port → List Location
members_from output i [] = []
members_from output i (p ∷ ps) = cond (same_bool p.output output) (member i ∷ members_from output (i + 1) ps) (members_from output (i + 1) ps)

all_stay : (xs : List Location) → filter (λ l. true) xs ≡ xs
all_stay [] = refl
all_stay (x ∷ xs) = ap (λ l. x ∷ l) (all_stay xs)

the_inputs : (i : ℕ) (ps : List Port) → locations (filter (λ p. is_input p.direction) (ports_from i ps)) ≡ members_from false i ps
the_inputs i [] = refl
the_inputs i (p ∷ ps) = by_output p.output (the_inputs (i + 1) ps)
  where
    by_output : (b : Bool) → locations (filter (λ p. is_input p.direction) (ports_from (i + 1) ps)) ≡ members_from false (i + 1) ps
        → locations (filter (λ p. is_input p.direction) (record { location = member i; direction = cond b direction.Output direction.Input } ∷ ports_from (i + 1) ps))
        ≡ cond (same_bool b false) (member i ∷ members_from false (i + 1) ps) (members_from false (i + 1) ps)
    by_output true e = e
    by_output false e = ap (λ l. member i ∷ l) e

the_outputs : (i : ℕ) (ps : List Port) → locations (filter (λ p. not (is_input p.direction)) (ports_from i ps)) ≡ members_from true i ps
the_outputs i [] = refl
the_outputs i (p ∷ ps) = by_output p.output (the_outputs (i + 1) ps)
  where
    by_output : (b : Bool) → locations (filter (λ p. not (is_input p.direction)) (ports_from (i + 1) ps)) ≡ members_from true (i + 1) ps
        → locations (filter (λ p. not (is_input p.direction)) (record { location = member i; direction = cond b direction.Output direction.Input } ∷ ports_from (i + 1) ps))
        ≡ cond (same_bool b true) (member i ∷ members_from true (i + 1) ps) (members_from true (i + 1) ps)
    by_output true e = ap (λ l. member i ∷ l) e
    by_output false e = e

-- no port is a clock
pub inputs_are : (d : thin.Design) → inputs (source_of d) ≡ members_from false 0 d.ports
inputs_are d = all_stay (locations (filter (λ p. is_input p.direction) (ports_from 0 d.ports))) ∙ the_inputs 0 d.ports

pub outputs_are : (d : thin.Design) → outputs (source_of d) ≡ members_from true 0 d.ports
outputs_are d = the_outputs 0 d.ports

-- the words of the outputs among the ports, numbered from i on
abbrev outs : ℕ → List Port → (ℕ → ℕ) → List ℕ
outs i [] f = []
outs i (q ∷ qs) f = cond q.output (f i ∷ outs (i + 1) qs f) (outs (i + 1) qs f)

outs_emitted : (i : ℕ) (qs : List Port) (f : ℕ → ℕ) → outputs_from i (map var_of qs) f ≡ outs i qs f
outs_emitted i [] f = refl
outs_emitted i (q ∷ qs) f = by_output q.output (outs_emitted (i + 1) qs f)
  where
    by_output : (b : Bool) → outputs_from (i + 1) (map var_of qs) f ≡ outs (i + 1) qs f
        → outputs_from i (record { name = q.name; width = q.width; dir = cond b Output Input } ∷ map var_of qs) f ≡ cond b (f i ∷ outs (i + 1) qs f) (outs (i + 1) qs f)
    by_output true e = ap (λ l. f i ∷ l) e
    by_output false e = e

outs_source : (i : ℕ) (qs : List Port) (g : Location → ℕ) → map g (members_from true i qs) ≡ outs i qs (λ v. g (member v))
outs_source i [] g = refl
outs_source i (q ∷ qs) g = by_output q.output (outs_source (i + 1) qs g)
  where
    by_output : (b : Bool) → map g (members_from true (i + 1) qs) ≡ outs (i + 1) qs (λ v. g (member v))
        → map g (members_from true i (record { name = q.name; output = b; width = q.width } ∷ qs)) ≡ cond b (g (member i) ∷ outs (i + 1) qs (λ v. g (member v))) (outs (i + 1) qs (λ v. g (member v)))
    by_output true e = ap (λ l. g (member i) ∷ l) e
    by_output false e = e

-- the ports from a number on
abbrev From : List Port → ℕ → List Port → Type 0
From ports i qs = (k : ℕ) → is_output_at ports (i + k) ≡ is_output_at qs k

module _ (ports : List Port) where
  next : (i : ℕ) (q : Port) (qs : List Port) → From ports i (q ∷ qs) → From ports (i + 1) qs
  next i q qs f k = ap (is_output_at ports) (omega arith) ∙ f (suc k)

  here : (i : ℕ) (q : Port) (qs : List Port) → From ports i (q ∷ qs) → is_output_at ports i ≡ q.output
  here i q qs f = ap (is_output_at ports) (let e : i ≡ i + 0 = omega arith in e) ∙ f 0

  -- the outputs depend on the words of the outputs alone
  outs_same : (i : ℕ) (qs : List Port) (f g : ℕ → ℕ) → From ports i qs → i + length qs ≡ length ports
      → ((v : ℕ) → v < length ports → is_output_at ports v ≡ true → f v ≡ g v) → outs i qs f ≡ outs i qs g
  outs_same i [] f g from all agree = refl
  outs_same i (q ∷ qs) f g from all agree = by_output q.output refl (outs_same (i + 1) qs f g (next i q qs from) (omega arith) agree)
    where
      by_output : (b : Bool) → q.output ≡ b → outs (i + 1) qs f ≡ outs (i + 1) qs g → cond b (f i ∷ outs (i + 1) qs f) (outs (i + 1) qs f) ≡ cond b (g i ∷ outs (i + 1) qs g) (outs (i + 1) qs g)
      by_output true p e = ap (λ x. x ∷ outs (i + 1) qs f) (agree i (omega arith) (here i q qs from ∙ p)) ∙ ap (λ l. g i ∷ l) e
      by_output false p e = e

  pub outputs_alike : (g : Location → ℕ) (f : ℕ → ℕ) → ((v : ℕ) → v < length ports → is_output_at ports v ≡ true → g (member v) ≡ f v)
      → map g (members_from true 0 ports) ≡ outputs_from 0 (map var_of ports) f
  outputs_alike g f agree =
      outs_source 0 ports g ∙ outs_same 0 ports (λ v. g (member v)) f (λ k. ap (is_output_at ports) (omega arith)) (omega arith) agree ∙ sym (outs_emitted 0 ports f)

  -- inputs behind a member leave it
  set_before : (i : ℕ) (qs : List Port) (xs : List ℕ) (words : Location → ℕ) (v : ℕ) → v < i → set_inputs (members_from false i qs) xs words (member v) ≡ words (member v)
  set_before i [] xs words v h = refl
  set_before i (q ∷ qs) xs words v h = by_output q.output xs (λ xs words. set_before (i + 1) qs xs words v (omega arith))
    where
      by_output : (b : Bool) (xs : List ℕ) → ((xs : List ℕ) (words : Location → ℕ) → set_inputs (members_from false (i + 1) qs) xs words (member v) ≡ words (member v))
          → set_inputs (members_from false i (record { name = q.name; output = b; width = q.width } ∷ qs)) xs words (member v) ≡ words (member v)
      by_output true xs more = more xs words
      by_output false [] more = refl
      by_output false (x ∷ xs) more =
          more xs (changed (member i) x words) ∙ ap (λ b. cond b x (words (member v))) (and_true (nat_eq i v) ∙ ne_eqb i v (λ e. omega (arith, e, h)))

-- The words that the inputs are set to are those that the module is given, and they fit. No process has a clock.
module _ (d : thin.Design) where
  abbrev handed : ℕ → List SvVar → List ℕ → ℕ → ℕ
  handed = given_from (λ n. false)

  abbrev SetRight : ℕ → List Port → List ℕ → (Location → ℕ) → ℕ → Type 0
  SetRight i qs xs words v =
      (set_inputs (members_from false i qs) xs words (member v) ≡ handed i (map var_of qs) xs v) × (handed i (map var_of qs) xs v < 2 ^ width_of d.ports v)

  abbrev port_with : Port → Bool → Port
  port_with q b = record { name = q.name; output = b; width = q.width }

  pub set_right : (i : ℕ) (qs : List Port) (xs : List ℕ) (words : Location → ℕ) (v : ℕ) → From d.ports i qs → i + length qs ≡ length d.ports → i ≤ v → v < length d.ports
      → is_output_at d.ports v ≡ false → AllFit (source_of d) (members_from false i qs) xs → SetRight i qs xs words v
  set_right i [] xs words v from all low high e fit = absurd (omega arith)
  set_right i (q ∷ qs) xs words v from all low high e fit =
      by_output q.output refl xs fit
      (λ xs words above fit. set_right (i + 1) qs xs words v (next d.ports i q qs from) (omega arith) above high e fit)
    where
      Behind : Type 0
      Behind = (xs : List ℕ) (words : Location → ℕ) → i + 1 ≤ v → AllFit (source_of d) (members_from false (i + 1) qs) xs → SetRight (i + 1) qs xs words v

      apart : q.output ≡ true → i + 1 ≤ v
      apart p = ne_above (λ f. let g : true ≡ false = sym p ∙ sym (here d.ports i q qs from) ∙ ap (is_output_at d.ports) f ∙ e in cc)
        where
          ne_above : i ≢ v → i + 1 ≤ v
          ne_above n = omega (arith, n, low)

      at_input : (x : ℕ) (xs : List ℕ) → FitsThing (thing_at d.ports (member i)) x → AllFit (source_of d) (members_from false (i + 1) qs) xs → Behind
          → SetRight i (port_with q false ∷ qs) (x ∷ xs) words v
      at_input x xs one rest more = elim (eqb_tells i v) [
        | inl p ↦ (
          set_before d.ports (i + 1) qs xs (changed (member i) x words) v (omega (arith, p.1)) ∙ ap (λ b. cond (b && true) x (words (member v))) p.0
              ∙ sym (ap (λ b. cond b x (handed (i + 1) (map var_of qs) xs v)) p.0),
          subst (λ n. n < 2 ^ width_of d.ports v) (sym (ap (λ b. cond b x (handed (i + 1) (map var_of qs) xs v)) p.0))
              (subst (λ j. x < 2 ^ width_of d.ports j) p.1 (subst (λ t. FitsThing t x) (thing_is d.ports i (omega arith)) one)),
        )
        | inr p ↦ (let m = more xs (changed (member i) x words) (let n : i ≢ v = p.1 in omega (arith, n, low)) rest in (
          m.0 ∙ sym (ap (λ b. cond b x (handed (i + 1) (map var_of qs) xs v)) p.0),
          subst (λ n. n < 2 ^ width_of d.ports v) (sym (ap (λ b. cond b x (handed (i + 1) (map var_of qs) xs v)) p.0)) m.1,
        ))
      ]

      by_output : (b : Bool) → q.output ≡ b → (xs : List ℕ) → AllFit (source_of d) (members_from false i (port_with q b ∷ qs)) xs → Behind → SetRight i (port_with q b ∷ qs) xs words v
      by_output true p xs fit more = more xs words (apart p) fit
      by_output false p [] fit more = absurd fit
      by_output false p (x ∷ xs) fit more = at_input x xs fit.0 fit.1 more

pub words_of_outputs : (d : thin.Design) (words : Location → ℕ) (v : ℕ) → v < length d.ports → word_at (thing_at d.ports (member v)) words (member v) ≡ words (member v)
words_of_outputs d words v h = ap (λ t. word_at t words (member v)) (thing_is d.ports v h)
