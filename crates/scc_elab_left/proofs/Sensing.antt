-- The roots whose levels count, item by item.
use Rattle.std.proofs.Common.{◌≡◌, refl, ap, ◌∙◌, ℕ, Bool, true, false, not, List, [], ◌∷◌, ◌++◌, Option, Some, None, option_map, is_some, if◌then◌else◌}
use Rattle.std.specs.Prelude.{filter, filter_map}
use Rattle.std.specs.List.{cons_option}
use Rattle.scc_elab_spec.specs.Grown.{Grown, Item}
use Rattle.scc_elab_spec.specs.After.{root}
use Rattle.scc_elab_left.specs.Lefts.{all_sensed, at_most_one, sensed}

module _ (g : Grown) where
  abbrev named : Item → Option ℕ
  named i = option_map (root g) i.signal

  one : (o : Option ℕ) (ns : List ℕ) → cons_option o ns ≡ at_most_one o ++ ns
  one (Some n) ns = refl
  one None ns = refl

  pub sensed_is : (is : List Item) → filter_map named (filter (λ i. not (is_some i.rising)) is) ≡ all_sensed g is
  sensed_is [] = refl
  sensed_is (i ∷ is) = by (not (is_some i.rising)) (sensed_is is)
    where
      by : (b : Bool) → filter_map named (filter (λ i. not (is_some i.rising)) is) ≡ all_sensed g is
          → filter_map named (if b then i ∷ filter (λ i. not (is_some i.rising)) is else filter (λ i. not (is_some i.rising)) is) ≡ (if b then at_most_one (named i) else []) ++ all_sensed g is
      by true h = one (named i) (filter_map named (filter (λ i. not (is_some i.rising)) is)) ∙ ap (λ ns. at_most_one (named i) ++ ns) h
      by false h = h
