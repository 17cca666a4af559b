-- A statement at a constructor that stands somewhere.
use Rattle.std.proofs.Common.{◌≡◌, sym, subst, ℕ, List, map, Option, Some, Result}
use Rattle.std.specs.Borrow.{Bor}
use Rattle.scc_base.specs.declared.refusal.Stop.{Stop}
use Rattle.scc_plain_tree.specs.declared.program.PlainFunction.{PlainFunction}
use Rattle.scc_elab_spec.specs.Program.{Code, Plain}
use Rattle.scc_elab_spec.specs.Grown.{nothing}
use Rattle.scc_elab_spec.specs.Construct.{Now, ran_in}
use Rattle.scc_elab_store.specs.declared.locations.Part.{Part}
use Rattle.scc_elab_store.specs.Locations.{part_of}
use Rattle.scc_elab_works.specs.Runs.{Ends}
use Rattle.scc_elab_works.specs.Works.{function_there, making_at}

pub ends_there : {A : Type 0} (r : Result A Stop) (n m : Now) (turns levels object : ℕ) (p : Plain) (seen path : List Part) (o : Option (Bor PlainFunction)) (b : Bor PlainFunction) (c : Code) → o ≡ Some b → seen ≡ path
    → Ends r n (ran_in turns (making_at p levels) (record { plain = p; function = function_there (Some b); object = object; path = map part_of seen; now = nothing }) c m)
    → Ends r n (ran_in turns (making_at p levels) (record { plain = p; function = function_there o; object = object; path = map part_of path; now = nothing }) c m)
ends_there r n m turns levels object p seen path o b c e f h =
    subst (λ (z : List Part). Ends r n (ran_in turns (making_at p levels) (record { plain = p; function = function_there o; object = object; path = map part_of z; now = nothing }) c m)) f
    (subst (λ (z : Option (Bor PlainFunction)). Ends r n (ran_in turns (making_at p levels) (record { plain = p; function = function_there z; object = object; path = map part_of seen; now = nothing }) c m)) (sym e) h)
