-- What is counted of the parts of a location, one behind another.
use Rattle.std.specs.Prelude.{ℕ, ◌+◌, ◌*◌, List, map, ◌||◌, Option, Some, None, if◌then◌else◌}
use Rattle.scc_states_sum.specs.declared.elements.Counted.{Counted}
use Rattle.scc_states_sum.specs.Elements.{Part, cut, total, factor, product, is_open, some_open}

abbrev pub times : ℕ → Option ℕ → ℕ
times p None = p
times p (Some n) = cut (p * n)

abbrev pub with_part : Counted → ℕ → Option ℕ → Counted
with_part c inside size = record { inside = cut (c.inside + inside); product = times c.product size; is_open = c.is_open || is_open size }

abbrev pub whole_part : Counted → ℕ → ℕ
whole_part c pick = if c.is_open then cut (c.product + cut (c.inside + pick)) else cut (c.inside + pick)

abbrev pub counted : List Part → Counted
counted ps = record {
  inside = cut (total (map (λ p. p.inside) ps));
  product = cut (product (map (λ p. factor p.size) ps));
  is_open = some_open (map (λ p. p.size) ps);
}
