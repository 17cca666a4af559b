-- What is copied of a pointer.
use Rattle.std.proofs.Common.{◌≡◌, sym, ap, subst, true, Option}
use Rattle.std.specs.Prelude.{Result, option_and_then}
use Rattle.scc_base.specs.declared.refusal.Refusal.{Refusal}
use Rattle.scc_base.specs.declared.refusal.Stop.{Stop}
use Rattle.scc_semantics.specs.Location.{Location}
use Rattle.scc_core_spec.specs.Resolved.{Made, Stopped, and_made}
use Rattle.scc_elab_spec.specs.Term.{Left, Copy}
use Rattle.scc_elab_spec.specs.Worth.{Site, spot, target}
use Rattle.scc_elab_store.specs.declared.locations.Location.{Location as Held}
use Rattle.scc_elab_worth.specs.Meant.{IsTarget}

pub copied_is : (s : Site) (l : Left) (o : Option Location) (r : Result (Option Held) Stop) → spot s true true l ≡ Made o → IsTarget r (Made (option_and_then s.now.store.targets o)) → IsTarget r (target s (Copy l))
copied_is s l o r e h = subst (IsTarget r) (sym (ap (λ t. and_made t (λ o. Made (option_and_then s.now.store.targets o))) e)) h

pub copied_stops : (s : Site) (l : Left) (r : Refusal) → spot s true true l ≡ Stopped r → target s (Copy l) ≡ Stopped r
copied_stops s l r e = ap (λ t. and_made t (λ o. Made (option_and_then s.now.store.targets o))) e
