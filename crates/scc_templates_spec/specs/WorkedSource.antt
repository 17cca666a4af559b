-- Classes that are declared twice, the second one as a template too, and a body in which a variable has the name of a parameter.
use Rattle.std.specs.Prelude.{ℕ, nat_eq, true, false, [], ◌∷◌, Some, None, if◌then◌else◌}
use Rattle.scc_base.specs.declared.refusal.Place.{Place}
use Rattle.scc_bits_kinds.specs.declared.kind.Kind.TheVariants as kind
use Rattle.scc_tree.specs.declared.local.Hold.TheVariants as hold
use Rattle.scc_tree.specs.declared.item.ParamSort.TheVariants as sort
use Rattle.scc_templates_spec.specs.Walk.{Arg, Value}
use Rattle.scc_templates_spec.specs.Tree.{Tree, Nil, OfKind, NoArgs}
use Rattle.scc_templates_spec.specs.Statements.{Stmts, End, Declare, Return}
use Rattle.scc_templates_spec.specs.Replace.{Bound}
use Rattle.scc_templates_spec.specs.Source.{Source, OfClass, Class, Param}

abbrev pub at : ℕ → Place
at n = record { file = 0; at = n }

-- `struct T {}; struct T {};`, with the name 20
abbrev pub empty_class : Class
empty_class = record { params = []; special = None; is_module = false; members = [] }

abbrev pub both : Source
both = record { items = OfClass (at 2) (Some 20) empty_class ∷ OfClass (at 4) (Some 20) empty_class ∷ []; end = at 9 }

-- `struct T {}; template<int A, int A> struct T {};`, with the names 20 and 21
abbrev pub param : ℕ → Param
param n = record { place = at n; name = 21; sort = sort.Int; preset = NoArgs }

abbrev pub same_params : Source
same_params = record {
  items = OfClass (at 2) (Some 20) empty_class ∷ OfClass (at 8) (Some 20) (record { params = param 4 ∷ param 6 ∷ []; special = None; is_module = false; members = [] }) ∷ [];
  end = at 9;
}

-- the parameter 22 is 8
abbrev pub eight : Arg
eight = Value (kind.Native 32 true) 8

abbrev pub bound : Bound
bound x = if nat_eq x 22 then Some eight else None

-- `bool N = e; return f;`
abbrev pub body : Tree → Tree → Stmts
body e f = Declare (record { place = at 1; name = 22; type = OfKind (at 1) kind.Bool; hold = hold.Direct; sizes = Nil; value = Some e }) (Return (at 3) (Some f) End)
