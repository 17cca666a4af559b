-- Drafts whose operators have the kinds that they say.
use Rattle.std.specs.Prelude.{List, [], ◌∷◌}
use Rattle.scc_elab_spec.specs.Typed.{IsTyped}
use Rattle.scc_plain_spec.specs.Drafts.{Draft}

abbrev pub AllTyped : List Draft → Type 0
AllTyped [] = Unit {0}
AllTyped (x ∷ xs) = IsTyped x.term × AllTyped xs
