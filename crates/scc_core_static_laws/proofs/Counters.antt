-- The number of a counter is one of its cell's kind.
use Rattle.std.proofs.Common.{◌≡◌, refl, sym, ap, subst, ◌∙◌, arith, ℕ, ◌<◌, ◌^◌, Bool, true, false, ◌&&◌, nat_eq, nat_lt, if◌then◌else◌, List, [], ◌∷◌, slice_get, Option, Some, None, option_map}
use Rattle.std.specs.Prelude.{find}
use Rattle.std.proofs.lemmas.Bool.{eqb-true}
use Rattle.std.proofs.lemmas.Grind.{common_steps}
use Rattle.scc_bits_kinds.specs.declared.kind.Kind.{Kind}
use Rattle.scc_bits_kinds.specs.Kinds.{IsValid, Fits, width_of}
use Rattle.scc_bits.specs.Value.{Number}
use Rattle.scc_core.specs.declared.copy.Counter.{Counter}
use Rattle.scc_core.specs.declared.program.Cell.{Cell}
use Rattle.scc_core.specs.Counters.{number_of}
use Rattle.scc_core.specs.Numbers.{is_valid, valued}
use Rattle.scc_core.proofs.Numbers.{valid_is}
use Rattle.scc_core_static_laws.specs.Held.{AreCounters, IsCounter}

fits_test : (k : Kind) (x : ℕ) → Fits k x → nat_lt x (2 ^ width_of k) ≡ true
fits_test k x h = grind (arith, common_steps, h)

abbrev num : Kind → ℕ → Number
num k x = record { kind = k; word = x }

pub valued_some : (k : Kind) (x : ℕ) → IsValid k → Fits k x → valued k x ≡ Some (num k x)
unfolding valued
valued_some k x h f = by (is_valid k) (nat_lt x (2 ^ width_of k)) (valid_is k h) (fits_test k x f)
  where
    by : (a b : Bool) → a ≡ true → b ≡ true → (if a && b then Some (num k x) else None) ≡ Some (num k x)
    by true true p q = refl
    by true false p q = cc q
    by false b p q = cc p

some_same : {A : Type 0} {a b : A} → Some a ≡ Some b → a ≡ b
some_same {A = A} {a = a} e = ap unwrapped e
  where
    unwrapped : Option A → A
    unwrapped None = a
    unwrapped (Some x) = x

-- the counter that a cell is
pub record Counts (cells : List Cell) (n : ℕ) (v : Number) : Type 0 where
  pub cell : Cell
  pub there : slice_get cells n ≡ Some cell
  pub kind : v.kind ≡ cell.kind
  pub is_valid : IsValid v.kind
  pub fits : Fits v.kind v.word

pub counter_at : (cells : List Cell) (ns : List Counter) → AreCounters cells ns → (n : ℕ) (v : Number) → number_of ns n ≡ Some v → Counts cells n v
counter_at cells [] h n v e = absurd cc
counter_at cells (c ∷ ns) h n v e = by (nat_eq n c.cell) refl e (counter_at cells ns h.1 n v)
  where
    by : (b : Bool) → nat_eq n c.cell ≡ b → option_map (λ c. c.now) (if b then Some c else find (λ c. nat_eq n c.cell) ns) ≡ Some v → (number_of ns n ≡ Some v → Counts cells n v) → Counts cells n v
    by true t e r =
        subst (Counts cells n) (some_same e)
        (record { cell = h.0.cell; there = ap (slice_get cells) (eqb-true n c.cell t) ∙ h.0.there; kind = h.0.kind; is_valid = h.0.is_valid; fits = h.0.fits })
    by false t e r = r e

pub counter_valued : (cells : List Cell) (ns : List Counter) → AreCounters cells ns → (n : ℕ) (c : Cell) (v : Number) → slice_get cells n ≡ Some c → number_of ns n ≡ Some v → valued c.kind v.word ≡ Some v
counter_valued cells ns h n c v e g =
    let x = counter_at cells ns h n v g in
    let same : x.cell ≡ c = some_same (sym x.there ∙ e) in
    ap (λ k. valued k v.word) (sym (x.kind ∙ ap (λ c. c.kind) same)) ∙ valued_some v.kind v.word x.is_valid x.fits
