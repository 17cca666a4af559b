-- The first edge of a process, and its first reset.
use Rattle.std.proofs.Common.{◌≡◌, refl, sym, ap, ◌∙◌, subst, ℕ, Bool, true, false, not, ◌&&◌, List, [], ◌∷◌, map, Option, Some, None, option_map, is_some, slice_get, unwrap_or, Result, Ok, Err}
use Rattle.std.specs.Prelude.{filter}
use Rattle.scc_base.specs.declared.refusal.Refusal.{Refusal}
use Rattle.scc_base.specs.declared.refusal.Stop.{Stop}
use Rattle.scc_base.specs.declared.refusal.Stop.TheVariants as stop
use Rattle.scc_base.specs.declared.code.Code.TheVariants as reason
use Rattle.scc_core_spec.specs.First.{refused, when}
use Rattle.scc_elab_grown.specs.declared.records.Item.{Item}
use Rattle.scc_elab_grown.specs.declared.records.Record.{Record}
use Rattle.scc_elab_grown.specs.declared.records.ResetItem.{ResetItem}
use Rattle.scc_elab_grown.specs.Records.{item_of, record_of, reset_of}
use Rattle.scc_elab_ports.specs.Unbound.{Says}
use Rattle.scc_elab_spec.specs.Grown.{Grown, Declared}
use Rattle.scc_elab_spec.specs.Grown as grown
use Rattle.scc_elab_spec.specs.After.{Clock, clock_by, clock_of, edges, first_reset, bad_asynchronous, is_top_input, root}
use Rattle.scc_elab_after.proofs.Filters.{filter_map_of}

abbrev pub clock_at : Grown → Declared → Item → Option Clock
clock_at g d x = option_map (λ n. record { root = root g n; rising = unwrap_or x.rising true; place = d.place }) x.signal

by_first : (g : Grown) (d : Declared) (ys : List Item) (x : Item) → slice_get ys 0 ≡ Some x → clock_by g d (map item_of ys) ≡ clock_at g d x
by_first g d [] x e = cc
by_first g d (y ∷ ys) x e = let s : y ≡ x = cc in ap (clock_at g d) s

by_none : (g : Grown) (d : Declared) (ys : List Item) → slice_get ys 0 ≡ None → clock_by g d (map item_of ys) ≡ None
by_none g d [] e = refl
by_none g d (y ∷ ys) e = cc

edges_of : (r : Record) → edges (record_of r) ≡ map item_of (filter (λ i. is_some i.rising) r.items.items)
edges_of r = filter_map_of item_of (λ i. is_some i.rising) r.items.items

pub clock_first : (g : Grown) (r : Record) (x : Item) → slice_get (filter (λ i. is_some i.rising) r.items.items) 0 ≡ Some x → clock_of g (record_of r) ≡ clock_at g (record_of r) x
clock_first g r x e = ap (clock_by g (record_of r)) (edges_of r) ∙ by_first g (record_of r) (filter (λ i. is_some i.rising) r.items.items) x e

pub clock_none : (g : Grown) (r : Record) → slice_get (filter (λ i. is_some i.rising) r.items.items) 0 ≡ None → clock_of g (record_of r) ≡ None
clock_none g r e = ap (clock_by g (record_of r)) (edges_of r) ∙ by_none g (record_of r) (filter (λ i. is_some i.rising) r.items.items) e

-- ---- resets

first_is : (xs : List ResetItem) → first_reset (map reset_of xs) ≡ option_map reset_of (slice_get xs 0)
first_is [] = refl
first_is (x ∷ xs) = refl

abbrev pub roots_in : Grown → Option ℕ → Bool
roots_in g o = unwrap_or (option_map (λ n. is_top_input g (root g n)) o) true

abbrev by_reset : Grown → Record → (asynchronous input : Bool) → Option Refusal
by_reset g r a b = when (a && not b) (refused reason.ClockPort r.place)

abbrev by_option : Grown → Record → Option grown.ResetItem → Option Refusal
by_option g r o = unwrap_or (option_map (λ x. by_reset g r x.asynchronous (roots_in g x.signal)) o) None

module _ (g : Grown) (r : Record) where
  at_first : (x : ResetItem) → slice_get r.resets.items 0 ≡ Some x → bad_asynchronous g (record_of r) ≡ by_reset g r x.asynchronous (roots_in g x.signal)
  at_first x e = ap (by_option g r) (first_is r.resets.items ∙ ap (option_map reset_of) e)

  pub no_first : slice_get r.resets.items 0 ≡ None → bad_asynchronous g (record_of r) ≡ None
  no_first e = ap (by_option g r) (first_is r.resets.items ∙ ap (option_map reset_of) e)

  pub synchronous : (x : ResetItem) → slice_get r.resets.items 0 ≡ Some x → x.asynchronous ≡ false → bad_asynchronous g (record_of r) ≡ None
  synchronous x e a = at_first x e ∙ ap (λ b. by_reset g r b (roots_in g x.signal)) a

  pub led_in : (x : ResetItem) (b : Bool) → slice_get r.resets.items 0 ≡ Some x → x.asynchronous ≡ true → b ≡ roots_in g x.signal → b ≡ true → bad_asynchronous g (record_of r) ≡ None
  led_in x b e a i t = at_first x e ∙ (λ j. by_reset g r (a j) ((sym i ∙ t) j))

  pub led_out : (x : ResetItem) (b : Bool) (z : Stop) → slice_get r.resets.items 0 ≡ Some x → x.asynchronous ≡ true → b ≡ roots_in g x.signal → b ≡ false → z ≡ stop.Refused (refused reason.ClockPort r.place) → Says {A = Unit {0}} (bad_asynchronous g (record_of r)) (Err z)
  led_out x b z e a i f s = subst (λ z. Says {A = Unit {0}} (bad_asynchronous g (record_of r)) (Err z)) (sym s) (at_first x e ∙ (λ j. by_reset g r (a j) ((sym i ∙ f) j)))
