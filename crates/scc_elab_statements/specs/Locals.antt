-- The constructor of a class, by its number. This project's own.
use Rattle.std.specs.Prelude.{ℕ, Bool, false, not, Option, option_map, option_and_then, slice_get, unwrap_or}
use Rattle.scc_elab_spec.specs.Program.{Plain, Function, Member}
use Rattle.scc_elab_spec.specs.Types.{is_direct}

abbrev pub class_constructor : Plain → ℕ → Option Function
class_constructor p c = option_and_then (λ k. option_and_then (slice_get p.functions) k.constructor) (slice_get p.classes c)

-- whether what is declared there is a pointer or reference
abbrev pub leads : Option Member → Bool
leads m = unwrap_or (option_map (λ m. not (is_direct m.shape.reach)) m) false
