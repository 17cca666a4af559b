-- The text of operators on lowered operands.
use Rattle.std.specs.Prelude.{◌≡◌, nat_eq, not, if◌then◌else◌, Option, Some, None, option_map, option_and_then}
use Rattle.scc_bits_kinds.specs.declared.kind.Kind.{Kind}
use Rattle.scc_bits_kinds.specs.declared.kind.Kind.TheVariants as kind
use Rattle.scc_bits_kinds.specs.declared.op.Op.{Op}
use Rattle.scc_bits_kinds.specs.Kinds.{is_signed}
use Rattle.scc_bits.specs.Placed.{operands_of}
use Rattle.scc_bits.specs.Value.{Number}
use Rattle.scc_bits.specs.Values.{applied, kind_of}
use Rattle.scc_svtree.specs.Term.{Term, Cond, term_of}
use Rattle.scc_lower_spec.specs.Operating.{is_shift}
use Rattle.scc_lower_laws.specs.Outcome.{alone_text, joined_text}
use Rattle.scc_lower_expressions.specs.declared.convert.Lowered.{Lowered}
use Rattle.scc_lower_expressions.specs.declared.convert.Lowered.TheVariants.{Known, Made}
use Rattle.scc_lower_expressions.specs.declared.operator.Operand.{Operand}
use Rattle.scc_lower_expressions.specs.Lowered.{text_of, text_in, number_in, IsStored, IsText}

-- the number that an operator answers
abbrev pub IsAnswer : Op → Number → Number → Lowered → Type 0
IsAnswer o a b (Known n) = (kind_of o a.kind b.kind ≡ Some n.kind) × (applied o a.kind a.word b.kind b.word ≡ Some n.word)
IsAnswer o a b (Made e) = ⊥

-- what is made has the term
abbrev pub Makes : Option Term → Lowered → Type 0
Makes t (Known n) = ⊥
Makes t (Made e) = t ≡ Some (term_of e)

-- the right operand: the amount of a shift stands as it is
abbrev pub right_text : Op → Kind → Operand → Term
right_text o to r = if is_shift o then text_of r.of else text_in r.kind to r.of

abbrev pub between_text : Op → Operand → Operand → Option Term
between_text o l r = option_and_then (λ p. joined_text o (is_signed p.left) (text_in l.kind p.left l.of) (right_text o p.right r)) (operands_of o l.kind r.kind)

abbrev pub before_text : Op → Operand → Option Term
before_text o l = option_and_then (λ p. alone_text o (text_in l.kind p.left l.of)) (operands_of o l.kind l.kind)

-- both numbers, where both operands are numbers
abbrev pub both_known : Lowered → Lowered → Option (Number × Number)
both_known (Known a) (Known b) = Some (a, b)
both_known _ _ = None

abbrev pub OperatedBy : Option (Number × Number) → Op → Operand → Operand → Lowered → Type 0
OperatedBy (Some p) o l r out = IsAnswer o p.0 p.1 out
OperatedBy None o l r out = Makes (between_text o l r) out

-- what becomes of an operator between two operands
abbrev pub Operated : Op → Operand → Operand → Lowered → Type 0
Operated o l r out = OperatedBy (both_known l.of r.of) o l r out

abbrev pub AloneBy : Option Number → Op → Operand → Lowered → Type 0
AloneBy (Some n) o l out = IsAnswer o n n out
AloneBy None o l out = Makes (before_text o l) out

-- and of one before its operand
abbrev pub OperatedAlone : Op → Operand → Lowered → Type 0
OperatedAlone o l out = AloneBy (number_in l.of) o l out

abbrev pub choice_text : Operand → Operand → Operand → Kind → Term
choice_text t a b k = Cond (text_in t.kind kind.Bool t.of) (text_in a.kind k a.of) (text_in b.kind k b.of)

-- the number that is chosen, where all is known
abbrev pub picked : Lowered → Lowered → Lowered → Option Number
picked t a b = option_and_then (λ n. option_map (λ p. if not (nat_eq n.word 0) then p.0 else p.1) (both_known a b)) (number_in t)

abbrev pub ChosenBy : Option Number → Operand → Operand → Operand → Kind → Lowered → Type 0
ChosenBy (Some n) t a b k out = IsStored k n out
ChosenBy None t a b k out = IsText (choice_text t a b k) out

-- and of a choice
abbrev pub Chosen : Operand → Operand → Operand → Kind → Lowered → Type 0
Chosen t a b k out = ChosenBy (picked t.of a.of b.of) t a b k out
