-- Reads of cells, by how a block views them.
use Rattle.std.specs.Prelude.{◌≡◌, ℕ, ◌+◌, ◌-◌, ◌*◌, min, List, Option, Some, None, option_map, option_and_then, slice_get}
use Rattle.scc_bits_kinds.specs.declared.kind.Kind.{Kind}
use Rattle.scc_bits_kinds.specs.declared.kind.Word.{Word}
use Rattle.scc_bits_kinds.specs.Bits.{part}
use Rattle.scc_bits_kinds.specs.Kinds.{width_of}
use Rattle.scc_core.specs.declared.program.Cell.{Cell}
use Rattle.scc_svtree.specs.Term.{Term, Literal, Part}
use Rattle.scc_lower_spec.specs.Selected.{part_left}
use Rattle.scc_lower_expressions.specs.declared.lowering.View.{View}
use Rattle.scc_lower_expressions.specs.declared.lowering.View.TheVariants.{Constant, Plain, Next, Delayed}

-- bits h down to l of a word
abbrev pub part_of : (h l y : ℕ) → ℕ
part_of h l y = part h l y

-- the variable from which a cell is read: the cell's own, or its next value
abbrev pub var_read : View → ℕ → ℕ
var_read (Constant w) c = c * 2 + 0
var_read Plain c = c * 2 + 0
var_read Next c = c * 2 + 1
var_read Delayed c = c * 2 + 0

abbrev pub constant_of : View → Option Word
constant_of (Constant w) = Some w
constant_of Plain = None
constant_of Next = None
constant_of Delayed = None

abbrev pub read_by : Option Word → View → Kind → (c h l : ℕ) → Term
read_by (Some w) v k c h l = Literal (min (h - l + 1) 4294967295) (part h l w.bits)
read_by None v k c h l = Part (part_left (record { 0 = var_read v c }) (width_of k) h l)

-- bits h down to l of a cell of a kind
abbrev pub read_term : View → Kind → (c h l : ℕ) → Term
read_term v k c h l = read_by (constant_of v) v k c h l

-- the same by the cell's number
abbrev pub read_text : List Cell → List View → (c h l : ℕ) → Option Term
read_text cells views c h l = option_and_then (λ cell. option_map (λ v. read_term v cell.kind c h l) (slice_get views c)) (slice_get cells c)

-- variables show the word of a cell in its view
abbrev pub Shown : View → ℕ → (ℕ → ℕ) → ℕ → Type 0
Shown (Constant w) c x word = w.bits ≡ word
Shown Plain c x word = x (var_read Plain c) ≡ word
Shown Next c x word = x (var_read Next c) ≡ word
Shown Delayed c x word = x (var_read Delayed c) ≡ word
