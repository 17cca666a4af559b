-- Numbers that are known of operations.
use Rattle.std.specs.Prelude.{◌≡◌, Option, Some, None, option_map, Result, IfOk}
use Rattle.std.proofs.Common.{refl, subst}
use Rattle.scc_base.specs.declared.no_memory.NoMemory.{NoMemory}
use Rattle.scc_base.specs.declared.refusal.Place.{Place}
use Rattle.scc_bits_kinds.specs.declared.kind.Kind.{Kind}
use Rattle.scc_bits_kinds.specs.declared.op.Op.{Op}
use Rattle.scc_bits.specs.Value.{Number}
use Rattle.scc_elab_spec.specs.Term.{Term}
use Rattle.scc_plain_spec.specs.Drafts as spec
use Rattle.scc_plain_spec.specs.Numbers.{answered}
use Rattle.scc_plain_drafts.specs.declared.draft.Draft.{Draft}
use Rattle.scc_plain_drafts.specs.Views.{Is}

-- a draft with a number that is known otherwise
pub as_known : (r : Result Draft NoMemory) (t : Term) (p : Place) (known m : Option Number) → known ≡ m → IfOk r (λ x. Is x (record { term = t; known = known; place = p })) → IfOk r (λ x. Is x (record { term = t; known = m; place = p }))
as_known r t p known m e h = subst (λ n. IfOk r (λ x. Is x (record { term = t; known = n; place = p }))) e h

pub once : (m : Option Number) (k : Kind) (o : Op) → spec.both_known m m (answered o k) ≡ option_map (λ n. answered o k n n) m
once None k o = refl
once (Some n) k o = refl
