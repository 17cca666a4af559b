-- Bodies of a function `void f()` of `struct T { int x; bool m[2]; sc_uint<4> y; sc_in<sc_uint<4> > p; .. };` that give x a value.
use Rattle.std.specs.Prelude.{ℕ, [], ◌∷◌, None}
use Rattle.scc_bits_kinds.specs.declared.kind.Kind.TheVariants as kind
use Rattle.scc_bits_kinds.specs.declared.op.Op.TheVariants as op
use Rattle.scc_tree.specs.declared.expr.UnaryOp.TheVariants as before
use Rattle.scc_tree.specs.declared.local.Hold.TheVariants as hold
use Rattle.scc_tree.specs.declared.ty.Family.TheVariants as family
use Rattle.scc_elab_spec.specs.Term as term
use Rattle.scc_elab_spec.specs.Program as code
use Rattle.scc_plain_spec.specs.Numbers.{int}
use Rattle.scc_templates_spec.specs.Tree.{Tree, Before, Cast, Index, Dot, Call, Nil, Ty, Sized, Input}
use Rattle.scc_templates_spec.specs.Statements.{End}
use Rattle.scc_templates_spec.specs.Source.{Source, Variable}
use Rattle.scc_plain_spec.specs.Worked.{here}
use Rattle.scc_plain_spec.specs.WorkedTemplates.{named, literal, int_type, field, method}
use Rattle.scc_plain_spec.specs.WorkedBodies.{declares, set, put, number}
use Rattle.scc_plain_spec.specs.WorkedConstructors.{bool, one}
use Rattle.scc_plain_worked.specs.WorkedMaking.{class}

-- T, x, m, f, y, p are the names 20 to 25; `read` is 0
abbrev pub four : Ty
four = Sized here family.Uint (literal 4)

abbrev pub gives : Tree → Source
gives e = record {
  items = class 20 (Variable 0 (field 21 int_type) ∷ Variable 1 (record { place = here; name = 22; type = bool; hold = hold.Direct; sizes = one (literal 2) })
      ∷ Variable 2 (field 24 four) ∷ Variable 3 (field 25 (Input here four)) ∷ declares 0 23 (method 23 (set e End)) ∷ []) ∷ [];
  end = here;
}

abbrev pub complement : Tree → Tree
complement e = Before here before.Not e

-- `y[0]`, `p.read()[0]`, `m[0]`, `(bool) y[0]`
abbrev pub bit : Tree
bit = Index here (named 24) (literal 0)

abbrev pub bit_read : Tree
bit_read = Index here (Call here (Dot here here (named 25) 0) Nil) (literal 0)

abbrev pub element : Tree
element = Index here (named 22) (literal 0)

abbrev pub cast : Tree
cast = Cast here bool bit

abbrev pub member : ℕ → term.Left
member n = term.Member (term.This here) n

abbrev pub bit_term : term.Term
bit_term = term.Bit here (term.Load here (kind.Uint 4) (member 2)) (number 0)

abbrev pub read_term : term.Term
read_term = term.Bit here (term.Read here (kind.Uint 4) (member 3)) (number 0)

abbrev pub element_term : term.Term
element_term = term.Load here kind.Bool (term.Index (member 1) (number 0))

-- the complement as a `bool`, which is converted to `int`; the number with all bits turned of what was promoted
abbrev pub complemented : term.Term → code.Code
complemented e = put (term.Convert here int (term.Unary here kind.Bool op.LogNot e)) code.End

abbrev pub promoted : term.Term → code.Code
promoted e = put (term.Unary here int op.Not e) code.End
