-- Concatenations of many parts. This project's own.
use Rattle.std.specs.Prelude.{ℕ, ◌+◌, List, [], ◌∷◌}
use Rattle.scc_base.specs.declared.refusal.Place.{Place}
use Rattle.scc_bits_kinds.specs.declared.kind.Kind.{Kind}
use Rattle.scc_bits_kinds.specs.Kinds.{width_of}
use Rattle.scc_svtree.specs.Term as emitted
use Rattle.scc_svtree.specs.Code as emitted_code
use Rattle.scc_core_spec.specs.Term.{Term, Join, kind_of}
use Rattle.scc_blocks_spec.specs.Shown.{Sight}
use Rattle.scc_lower_laws.specs.Outcome.{Outcome, text_of}
use Rattle.scc_lower_laws.specs.Lowers.{Lowers}

-- parts behind the first
abbrev pub joins : Place → Kind → Term → List Term → Term
joins p k high [] = high
joins p k high (e ∷ es) = joins p k (Join p k high e) es

abbrev pub widths : List Term → ℕ
widths [] = 0
widths (e ∷ es) = width_of (kind_of e) + widths es

-- one front serves all parts
abbrev pub LowersAll : Sight → (ℕ → ℕ) → (from to : ℕ) → List Term → emitted_code.Code → List Outcome → Type 0
LowersAll s width from to [] front [] = Unit {0}
LowersAll s width from to (e ∷ es) front (o ∷ os) = Lowers s width from to e front o × LowersAll s width from to es front os
LowersAll s width from to _ front _ = ⊥

abbrev pub texts : List Outcome → List emitted.Term
texts [] = []
texts (o ∷ os) = text_of o ∷ texts os

abbrev pub joined_text : List Outcome → emitted.Term
joined_text os = emitted.joined (texts os)
