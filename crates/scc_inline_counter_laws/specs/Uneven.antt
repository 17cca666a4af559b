-- Elements of an array of which one is fixed and the other needn't be: which of them an index names decides whether it is static, so the counters' words matter.
use Rattle.std.specs.Prelude.{ℕ, Bool, true, List, [], ◌∷◌, Some, None}
use Rattle.scc_base.specs.declared.refusal.Place.{Place}
use Rattle.scc_bits_kinds.specs.declared.kind.Kind.{Kind}
use Rattle.scc_bits_kinds.specs.declared.kind.Kind.TheVariants as kind
use Rattle.scc_semantics.specs.Location.{Part, Member, Element}
use Rattle.scc_core_spec.specs.Term.{Left, Load, Cell, Prefix, Index, CellName}
use Rattle.scc_core_spec.specs.Program as program
use Rattle.scc_core_spec.specs.Counted.{Counter, counter}

abbrev pub here : Place
here = record { file = 0; at = 0 }

abbrev pub int : Kind
int = kind.Native 32 true

abbrev pub at_path : List Part → CellName
at_path path = record { path = path; own = None; indices = [] }

abbrev pub element : ℕ → Bool → program.Cell
element n fixed = record { name = at_path (Member 1 ∷ Element n ∷ []); kind = int; sort = program.Variable n fixed; place = here }

-- `t[0]` and `t[1]`, and a local
abbrev pub table : Bool → List program.Cell
table fixed = element 0 true ∷ element 1 fixed
    ∷ record { name = record { path = Member 2 ∷ []; own = Some (record { number = 0; identifier = 3 }); indices = [] }; kind = int; sort = program.Local 0; place = here } ∷ []

-- `a[t[i]]`
abbrev pub chosen : Left
chosen = Index (Prefix here (at_path (Member 4 ∷ []))) 2 (Load here int (Index (Prefix here (at_path (Member 1 ∷ []))) 2 (Load here int (Cell here 2))))

abbrev pub holding : ℕ → List Counter
holding w = counter 2 w ∷ []
