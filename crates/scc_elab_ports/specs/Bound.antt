-- Homes by their locations. This project's own.
use Rattle.std.specs.Prelude.{ℕ, Bool, true, false, not, ◌&&◌, List, Option, Some, None, option_map, if◌then◌else◌}
use Rattle.scc_base.specs.declared.refusal.Place.{Place}
use Rattle.scc_base.specs.declared.code.Code.TheVariants as reason
use Rattle.scc_bits_kinds.specs.declared.kind.Kind.{Kind}
use Rattle.scc_semantics.specs.Location.{Location, Part, same}
use Rattle.scc_core_spec.specs.First.{refused}
use Rattle.scc_core_spec.specs.Resolved.{Tried, Made, Stopped}
use Rattle.scc_elab_spec.specs.Grown.{Grown, node_of, with_bound}
use Rattle.scc_elab_spec.specs.Binding.{is_top, may_bind}

abbrev pub home_path : Option Location → Option (List Part)
home_path o = option_map (λ l. l.path) o

abbrev pub same_there : Option Location → Option Location → Bool
same_there (Some l) (Some m) = same l m
same_there (Some l) None = false
same_there None (Some m) = false
same_there None None = true

-- whether a port at a home may be bound to an object, and what is made then
abbrev pub fits_at : Grown → ℕ → Option (List Part) → Kind → Bool → Bool
fits_at g m at k output = not (is_top at) && may_bind g at k output m (node_of g m)

abbrev pub bound_if : Grown → Place → ℕ → ℕ → Option (List Part) → Kind → Bool → Tried Grown
bound_if g p n m at k output = if fits_at g m at k output then Made (with_bound g (record { port = n; to = m; place = p })) else Stopped (refused reason.BindKind p)
