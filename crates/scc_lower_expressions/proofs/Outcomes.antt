-- What is lowered is what the laws of lowering speak of.
use Rattle.std.specs.Prelude.{◌≡◌, if◌then◌else◌, nat_eq, not, Option, Some, option_map, option_and_then}
use Rattle.std.proofs.Common.{refl, sym, ◌∙◌, ap}
use Rattle.scc_bits_kinds.specs.declared.kind.Kind.{Kind}
use Rattle.scc_bits_kinds.specs.declared.kind.Kind.TheVariants as kind
use Rattle.scc_bits_kinds.specs.declared.op.Op.{Op}
use Rattle.scc_bits.specs.Placed.{operands_of}
use Rattle.scc_bits.specs.Value.{Number, exactly}
use Rattle.scc_bits_kinds.specs.Kinds.{is_signed, stored}
use Rattle.scc_svtree.specs.Term.{Term, Cond}
use Rattle.scc_lower_spec.specs.Operating.{is_shift}
use Rattle.scc_lower_laws.specs.Outcome as outcome
use Rattle.scc_lower_laws.specs.Outcome.{Outcome, number}
use Rattle.scc_lower_expressions.specs.declared.convert.Lowered.{Lowered}
use Rattle.scc_lower_expressions.specs.declared.convert.Lowered.TheVariants.{Known, Made}
use Rattle.scc_lower_expressions.specs.declared.operator.Operand.{Operand}
use Rattle.scc_lower_expressions.specs.Lowered.{text_of, text_in, Converts, IsStored, IsText}
use Rattle.scc_lower_expressions.specs.Operated.{IsAnswer, Makes, right_text, between_text, Operated, OperatedAlone, choice_text, Chosen}
use Rattle.scc_lower_expressions.specs.Becoming.{outcome_of}

pub text-same : (x : Lowered) → outcome.text_of (outcome_of x) ≡ text_of x
text-same (Known n) = refl
text-same (Made e) = refl

text-in-same : (from to : Kind) (x : Lowered) → outcome.text_in from to (outcome_of x) ≡ text_in from to x
text-in-same from to (Known n) = refl
text-in-same from to (Made e) = refl

number-same : (m : Number) (k : Kind) (w : _) → m.kind ≡ k → m.word ≡ w → ◌≡◌ {A = Outcome} (outcome.Known m) (outcome.Known (number k w))
number-same m k w p q = λ i. outcome.Known (number (p i) (q i))

-- ---- conversions

pub converts-is : (from to : Kind) (x out : Lowered) → Converts from to x out → outcome_of out ≡ outcome.converted from to (outcome_of x)
converts-is from to (Known n) (Known m) h = number-same m to (stored to (exactly n)) h.0 h.1
converts-is from to (Known n) (Made e) h = absurd h
converts-is from to (Made e) (Known m) h = absurd h
converts-is from to (Made e) (Made f) h = ap outcome.Made h

-- ---- operators

abbrev pub operand : Lowered → Kind → Operand
operand a k = record { of = a; kind = k }

answer-is : (o : Op) (a b : Number) (out : Lowered) → IsAnswer o a b out → outcome.answered o a b ≡ Some (outcome_of out)
answer-is o a b (Known n) h = (λ i. option_and_then (λ k. option_map (λ w. outcome.Known (number k w)) (h.1 i)) (h.0 i))
answer-is o a b (Made e) h = absurd h

makes-is : (t : Option Term) (out : Lowered) → Makes t out → option_map outcome.Made t ≡ Some (outcome_of out)
makes-is t (Known n) h = absurd h
makes-is t (Made e) h = ap (option_map outcome.Made) h

right-same : (o : Op) (to k : Kind) (b : Lowered) → outcome.right_text o to k (outcome_of b) ≡ right_text o to (operand b k)
right-same o to k b = λ i. (if is_shift o then text-same b i else text-in-same k to b i)

between-same : (o : Op) (j k : Kind) (a b : Lowered) → outcome.between_text o j (outcome_of a) k (outcome_of b) ≡ between_text o (operand a j) (operand b k)
between-same o j k a b = λ i. option_and_then (λ p. outcome.joined_text o (is_signed p.left) (text-in-same j p.left a i) (right-same o p.right k b i)) (operands_of o j k)

pub operated-is : (o : Op) (j k : Kind) (a b out : Lowered) → Operated o (operand a j) (operand b k) out → outcome.operated o j (outcome_of a) k (outcome_of b) ≡ Some (outcome_of out)
operated-is o j k (Known a) (Known b) out h = answer-is o a b out h
operated-is o j k (Known a) (Made e) out h = ap (option_map outcome.Made) (between-same o j k (Known a) (Made e)) ∙ makes-is _ out h
operated-is o j k (Made e) (Known b) out h = ap (option_map outcome.Made) (between-same o j k (Made e) (Known b)) ∙ makes-is _ out h
operated-is o j k (Made e) (Made f) out h = ap (option_map outcome.Made) (between-same o j k (Made e) (Made f)) ∙ makes-is _ out h

pub alone-is : (o : Op) (j : Kind) (a out : Lowered) → OperatedAlone o (operand a j) out → outcome.operated_alone o j (outcome_of a) ≡ Some (outcome_of out)
alone-is o j (Known a) out h = answer-is o a a out h
alone-is o j (Made e) out h = makes-is _ out h

-- ---- choices

choice-same : (i j k to : Kind) (t a b : Lowered) → choice_text (operand t i) (operand a j) (operand b k) to ≡ outcome.choice_text i (outcome_of t) j (outcome_of a) k (outcome_of b) to
choice-same i j k to t a b = λ n. Cond (sym (text-in-same i kind.Bool t) n) (sym (text-in-same j to a) n) (sym (text-in-same k to b) n)

text-is : (t : Term) (out : Lowered) → IsText t out → outcome_of out ≡ outcome.Made t
text-is t (Known n) h = absurd h
text-is t (Made e) h = ap outcome.Made h

stored-is : (k : Kind) (n : Number) (out : Lowered) → IsStored k n out → outcome_of out ≡ outcome.Known (number k (stored k (exactly n)))
stored-is k n (Known m) h = number-same m k (stored k (exactly n)) h.0 h.1
stored-is k n (Made e) h = absurd h

pub chosen-is : (i j k to : Kind) (t a b out : Lowered) → Chosen (operand t i) (operand a j) (operand b k) to out → outcome_of out ≡ outcome.chosen i (outcome_of t) j (outcome_of a) k (outcome_of b) to
chosen-is i j k to (Known n) (Known a) (Known b) out h = stored-is to (if not (nat_eq n.word 0) then a else b) out h
chosen-is i j k to (Known n) (Known a) (Made b) out h = text-is _ out h ∙ ap outcome.Made (choice-same i j k to (Known n) (Known a) (Made b))
chosen-is i j k to (Known n) (Made a) (Known b) out h = text-is _ out h ∙ ap outcome.Made (choice-same i j k to (Known n) (Made a) (Known b))
chosen-is i j k to (Known n) (Made a) (Made b) out h = text-is _ out h ∙ ap outcome.Made (choice-same i j k to (Known n) (Made a) (Made b))
chosen-is i j k to (Made t) (Known a) (Known b) out h = text-is _ out h ∙ ap outcome.Made (choice-same i j k to (Made t) (Known a) (Known b))
chosen-is i j k to (Made t) (Known a) (Made b) out h = text-is _ out h ∙ ap outcome.Made (choice-same i j k to (Made t) (Known a) (Made b))
chosen-is i j k to (Made t) (Made a) (Known b) out h = text-is _ out h ∙ ap outcome.Made (choice-same i j k to (Made t) (Made a) (Known b))
chosen-is i j k to (Made t) (Made a) (Made b) out h = text-is _ out h ∙ ap outcome.Made (choice-same i j k to (Made t) (Made a) (Made b))
