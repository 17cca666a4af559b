-- Processes one after another, with what is known of the clocks before.
use Rattle.std.proofs.Common.{◌≡◌, refl, sym, ap, ◌∙◌, arith, ℕ, zero, suc, ◌+◌, ◌<◌, Bool, true, false, length, drop, get_or, List, [], ◌∷◌, map, Option, Some, None, Err}
use Rattle.scc_base.specs.declared.refusal.Refusal.{Refusal}
use Rattle.scc_base.specs.declared.refusal.Stop.{Stop}
use Rattle.scc_base.specs.declared.refusal.Stop.TheVariants as stop
use Rattle.scc_core_spec.specs.First.{or_else}
use Rattle.scc_elab_grown.specs.declared.records.Record.{Record}
use Rattle.scc_elab_grown.specs.Records.{record_of}
use Rattle.scc_elab_ports.specs.Unbound.{Says}
use Rattle.scc_elab_spec.specs.Grown.{Declared, Grown}
use Rattle.scc_elab_spec.specs.After.{Clock, bad_process, clock_of, clocks_if}
use Rattle.scc_elab_after.specs.declared.processes.Clock.{Clock as Held}
use Rattle.scc_elab_after.specs.Clocks.{bad_one, Knows}

-- what is looked for of all is what is looked for of the rest, with the clocks that are met till then
abbrev pub Walks : Bool → Grown → List Held → List Held → List Declared → List Declared → Type 0
Walks many g old now all rest = (before : List Clock) → Knows many before old → (seen : List Clock) × Knows many seen now × (bad_process many g before all ≡ bad_process many g seen rest)

-- from the place of one on
drop_at : {A : Type 0} (xs : List A) (i : ℕ) (x : A) → i < length xs → x ≡ get_or xs i x → drop i xs ≡ x ∷ drop (i + 1) xs
drop_at [] i x h e = absurd (omega arith)
drop_at (y ∷ ys) zero x h e = ap (λ z. z ∷ ys) (sym e)
drop_at (y ∷ ys) (suc i) x h e =
    let a : i < length ys = omega arith in
    let d : suc i + 1 ≡ suc (i + 1) = omega arith in
    drop_at ys i x a e ∙ ap (λ n. x ∷ drop n (y ∷ ys)) (sym d)

module _ (many : Bool) (g : Grown) (old now : List Held) (all : List Declared) (list : List Record) (i : ℕ) (r : Record) (h : i < length list) (e : r ≡ get_or list i r) (inv : Walks many g old now all (map record_of (drop i list))) where
  here : map record_of (drop i list) ≡ record_of r ∷ map record_of (drop (i + 1) list)
  here = ap (map record_of) (drop_at list i r h e)

  pub walk_goes : (new : List Held) → ((before : List Clock) → Knows many before now → bad_one many g before (record_of r) ≡ None) → ((before : List Clock) → Knows many before now → Knows many (clocks_if (clock_of g (record_of r)) before) new)
      → Walks many g old new all (map record_of (drop (i + 1) list))
  walk_goes new ok note = λ before k. let w = inv before k in (
    clocks_if (clock_of g (record_of r)) w.0,
    note w.0 w.1,
    w.2 ∙ ap (bad_process many g w.0) here ∙ ap (λ o. or_else o (bad_process many g (clocks_if (clock_of g (record_of r)) w.0) (map record_of (drop (i + 1) list)))) (ok w.0 w.1),
  )

  pub walk_stops : (z : Stop) → ((before : List Clock) → Knows many before now → Says {A = Unit {0}} (bad_one many g before (record_of r)) (Err z)) → (before : List Clock) → Knows many before old → Says {A = Unit {0}} (bad_process many g before all) (Err z)
  walk_stops (stop.Refused x) bad before k = let w = inv before k in w.2 ∙ ap (bad_process many g w.0) here ∙ ap (λ o. or_else o (bad_process many g (clocks_if (clock_of g (record_of r)) w.0) (map record_of (drop (i + 1) list)))) (bad w.0 w.1)
  walk_stops stop.NoMemory bad before k = tt

-- before the first process nothing is known
pub none_known : (many : Bool) → Knows many [] []
none_known true = ((λ n. refl), refl)
none_known false = refl
