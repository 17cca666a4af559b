-- What is made with one field changed.
use Rattle.std.proofs.Common.{◌≡◌, ℕ, Bool, List, Option, OnOk, Result, Ok, Err}
use Rattle.scc_semantics.specs.Location.{Part}
use Rattle.scc_elab_spec.specs.Grown.{Grown, Bound, with_bound, with_made}
use Rattle.scc_elab_grown.specs.Bounds.{IsPut, IsMarked}

bound_is : (g : Grown) (b : Bound) (f : ℕ → Option Bound) → IsPut g.bound b f
    → record { objects = g.objects; store = g.store; bound = f; made = g.made; vectors = g.vectors; declared = g.declared; turns = g.turns; bits = g.bits } ≡ with_bound g b
bound_is g b f e = λ i. record { objects = g.objects; store = g.store; bound = e i; made = g.made; vectors = g.vectors; declared = g.declared; turns = g.turns; bits = g.bits }

made_is : (g : Grown) (path : List Part) (f : List Part → Bool) → IsMarked g.made path f
    → record { objects = g.objects; store = g.store; bound = g.bound; made = f; vectors = g.vectors; declared = g.declared; turns = g.turns; bits = g.bits } ≡ with_made g path
made_is g path f e = λ i. record { objects = g.objects; store = g.store; bound = g.bound; made = e i; vectors = g.vectors; declared = g.declared; turns = g.turns; bits = g.bits }

pub bound_ok : {A E : Type 0} (r : Result A E) (g : Grown) (b : Bound) (f : ℕ → Option Bound) → OnOk r (IsPut g.bound b f)
    → OnOk r (record { objects = g.objects; store = g.store; bound = f; made = g.made; vectors = g.vectors; declared = g.declared; turns = g.turns; bits = g.bits } ≡ with_bound g b)
bound_ok (Ok a) g b f e = bound_is g b f e
bound_ok (Err a) g b f e = tt

pub made_ok : {A E : Type 0} (r : Result A E) (g : Grown) (path : List Part) (f : List Part → Bool) → OnOk r (IsMarked g.made path f)
    → OnOk r (record { objects = g.objects; store = g.store; bound = g.bound; made = f; vectors = g.vectors; declared = g.declared; turns = g.turns; bits = g.bits } ≡ with_made g path)
made_ok (Ok a) g path f e = made_is g path f e
made_ok (Err a) g path f e = tt
