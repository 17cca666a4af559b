-- Reading operators.
use Rattle.std.specs.Prelude.{◌≡◌, ℕ, nat_eq, Bool, true, false, if◌then◌else◌, [], ◌∷◌, ◌++◌, codes, Option, Some, None, Ok, refl}
use Rattle.std.proofs.Common.{sym, ◌∙◌, ap, subst, eqb-true}
use Rattle.scc_reading.proofs.Answer.{Rule, Answers}
use Rattle.scc_reading.proofs.Core.{answers_by, answers_choose}
use Rattle.scc_reading.proofs.Steps.{answers_head, answers_pure_at}
use Rattle.scc_svtree.specs.declared.expr.SvBinary.{SvBinary}
use Rattle.scc_svtree.specs.declared.expr.SvBinary.TheVariants as binary
use Rattle.scc_svtext.specs.ExprText.{binary_text}
use Rattle.scc_svread_grammar.specs.Lexical.{Bytes}
use Rattle.scc_svread_grammar.specs.Leaves.{text}
use Rattle.scc_svread_grammar.specs.Reader.{is_equal, is_and, is_or, is_less, is_greater, OperatorStart, alone, and_start, or_start, less_start, greater_start, equal_start, not_start, operator_start, greater_behind, operator_behind, operator}
use Rattle.scc_svread_grammar.proofs.Runs.{answers_text_0}

-- what holds of each byte of a table holds of the byte that is found in it
pub table_byte : {A : Type 0} (P : ℕ → A → Type 0) (b k : ℕ) (x a : A) (rest : Option A) → P k x → (rest ≡ Some a → P b a) → (if nat_eq b k then Some x else rest) ≡ Some a → P b a
table_byte {A} P b k x a rest h later = go (nat_eq b k) refl
  where
    go : (c : Bool) → nat_eq b k ≡ c → (if c then Some x else rest) ≡ Some a → P b a
    go true e f = let same : b ≡ k = eqb-true b k e in let known : x ≡ a = cc in subst (λ c. P c a) (sym same) (subst (λ y. P k y) known h)
    go false e f = later f

abbrev start_text : OperatorStart → Bytes
start_text (alone o) = binary_text o
start_text and_start = codes "&"
start_text or_start = codes "|"
start_text less_start = codes "<"
start_text greater_start = codes ">"
start_text equal_start = codes "="
start_text not_start = codes "!"

abbrev Starts : ℕ → OperatorStart → Type 0
Starts b a = b ∷ [] ≡ start_text a

start_is : (b : ℕ) (a : OperatorStart) → operator_start b ≡ Some a → Starts b a
start_is b a =
    table_byte Starts b 43 (alone binary.Add) a _ refl (table_byte Starts b 45 (alone binary.Sub) a _ refl (table_byte Starts b 42 (alone binary.Mul) a _ refl
    (table_byte Starts b 47 (alone binary.Div) a _ refl (table_byte Starts b 37 (alone binary.Rem) a _ refl (table_byte Starts b 94 (alone binary.Xor) a _ refl
    (table_byte Starts b 38 and_start a _ refl (table_byte Starts b 124 or_start a _ refl (table_byte Starts b 60 less_start a _ refl (table_byte Starts b 62 greater_start a _ refl
    (table_byte Starts b 61 equal_start a _ refl (table_byte Starts b 33 not_start a None refl (λ h. cc))))))))))))

abbrev Behind : OperatorStart → Rule ℕ SvBinary
Behind a = λ o mid r. start_text a ++ mid ≡ binary_text o ++ r

sound_behind : (a : OperatorStart) → Answers 0 (Behind a) (operator_behind a)
unfolding operator_behind greater_behind
sound_behind (alone o) = answers_pure_at (λ y. refl)
sound_behind and_start = answers_choose 0 is_and _ _ _ (answers_text_0 (38 ∷ []) (answers_pure_at (λ y. refl))) (answers_pure_at (λ y. refl))
sound_behind or_start = answers_choose 0 is_or _ _ _ (answers_text_0 (124 ∷ []) (answers_pure_at (λ y. refl))) (answers_pure_at (λ y. refl))
sound_behind less_start = answers_choose 0 is_equal _ _ _ (answers_text_0 (61 ∷ []) (answers_pure_at (λ y. refl)))
    (answers_choose 0 is_less _ _ _ (answers_text_0 (60 ∷ []) (answers_pure_at (λ y. refl))) (answers_pure_at (λ y. refl)))
sound_behind greater_start = answers_choose 0 is_equal _ _ _ (answers_text_0 (61 ∷ []) (answers_pure_at (λ y. refl)))
    (answers_choose 0 is_greater _ _ _ (answers_text_0 (62 ∷ []) (answers_choose 0 is_greater _ _ _ (answers_text_0 (62 ∷ []) (answers_pure_at (λ y. refl))) (answers_pure_at (λ y. refl)))) (answers_pure_at (λ y. refl)))
sound_behind equal_start = answers_text_0 (61 ∷ []) (answers_pure_at (λ y. refl))
sound_behind not_start = answers_text_0 (61 ∷ []) (answers_pure_at (λ y. refl))

abbrev pub ROperator : Rule ℕ SvBinary
ROperator = λ o ts r. ts ≡ binary_text o ++ r

pub sound_operator : Answers 1 ROperator operator
unfolding operator
sound_operator = answers_head 43 (alone binary.Add) refl (λ a. answers_by (Behind a) (λ o mid r. (t : ℕ) → operator_start t ≡ Some a → t ∷ mid ≡ binary_text o ++ r)
    (λ o mid r d t h. ap (λ w. w ++ mid) (start_is t a h) ∙ d) (sound_behind a))

-- an operator is read up to the blank behind it
pub reads_operator : (o : SvBinary) (c : Bytes) → operator (binary_text o ++ (32 ∷ c)) ≡ Ok (o, 32 ∷ c)
unfolding operator operator_behind greater_behind text
reads_operator binary.Add c = refl
reads_operator binary.Sub c = refl
reads_operator binary.Mul c = refl
reads_operator binary.Div c = refl
reads_operator binary.Rem c = refl
reads_operator binary.And c = refl
reads_operator binary.Or c = refl
reads_operator binary.Xor c = refl
reads_operator binary.Shl c = refl
reads_operator binary.Shr c = refl
reads_operator binary.Sar c = refl
reads_operator binary.Eq c = refl
reads_operator binary.Ne c = refl
reads_operator binary.Lt c = refl
reads_operator binary.Le c = refl
reads_operator binary.Gt c = refl
reads_operator binary.Ge c = refl
reads_operator binary.LogAnd c = refl
reads_operator binary.LogOr c = refl

pub not_question : (o : SvBinary) (c : Bytes) → (b : ℕ) × (w : Bytes) × (binary_text o ++ c ≡ b ∷ w) × (nat_eq b 63 ≡ false)
not_question binary.Add c = (_, _, refl, refl)
not_question binary.Sub c = (_, _, refl, refl)
not_question binary.Mul c = (_, _, refl, refl)
not_question binary.Div c = (_, _, refl, refl)
not_question binary.Rem c = (_, _, refl, refl)
not_question binary.And c = (_, _, refl, refl)
not_question binary.Or c = (_, _, refl, refl)
not_question binary.Xor c = (_, _, refl, refl)
not_question binary.Shl c = (_, _, refl, refl)
not_question binary.Shr c = (_, _, refl, refl)
not_question binary.Sar c = (_, _, refl, refl)
not_question binary.Eq c = (_, _, refl, refl)
not_question binary.Ne c = (_, _, refl, refl)
not_question binary.Lt c = (_, _, refl, refl)
not_question binary.Le c = (_, _, refl, refl)
not_question binary.Gt c = (_, _, refl, refl)
not_question binary.Ge c = (_, _, refl, refl)
not_question binary.LogAnd c = (_, _, refl, refl)
not_question binary.LogOr c = (_, _, refl, refl)
