-- An operator's text gives the operator's word.
use Rattle.std.specs.Prelude.{◌≡◌, ℕ, ◌-◌, ◌%◌, ◌^◌, ◌<◌, Bool, true, false, not, ◌&&◌, nat_eq, ℤ, pos, Option, Some, count_ones}
use Rattle.std.specs.Ordering.{int_eq}
use Rattle.std.proofs.Common.{refl, sym, ◌∙◌, ap, subst, arith}
use Rattle.std.proofs.lemmas.Int.{ints}
use Rattle.scc_bits_kinds.specs.declared.op.Op.{Op}
use Rattle.scc_bits_kinds.specs.declared.op.Op.TheVariants as op
use Rattle.scc_bits_kinds.specs.declared.kind.Kind.{Kind}
use Rattle.scc_bits_kinds.specs.Numbers.{low, reading, bit}
use Rattle.scc_bits_kinds.specs.Operators.{exact, Signs}
use Rattle.scc_bits_kinds.specs.Kinds.{width_of, is_signed, number_of}
use Rattle.scc_bits_kinds.proofs.Low.{low_less, low_reading, low_word, low_mul}
use Rattle.scc_bits_kinds.proofs.Alike.{IsLow, low_only_add, low_only_sub, low_only_mul, low_only_and, low_only_or, low_only_xor, low_only_neg, low_only_not}
use Rattle.scc_bits.specs.declared.operands.Operands.{Operands}
use Rattle.scc_svtree.specs.Term.{Term, Unary, Binary, Sign}
use Rattle.scc_svtree.specs.declared.expr.SvUnary.{SvUnary}
use Rattle.scc_svtree.specs.declared.expr.SvUnary.TheVariants as unary
use Rattle.scc_svtree.specs.declared.expr.SvBinary.{SvBinary}
use Rattle.scc_svtree.specs.declared.expr.SvBinary.TheVariants as binary
use Rattle.scc_svtree.specs.Sizes.{Sized, sized, sized_context, sized_compare, sized_shift, sized_logical, sized_sign, sized_bit, sized_inner}
use Rattle.scc_lower_spec.specs.Gives.{Gives}
use Rattle.scc_lower_spec.specs.Operating.{binary_of, operated_term, unary_of}
use Rattle.scc_lower_spec.proofs.Gives.{gives_sign, gives_context, gives_inner, gives_shift, gives_compare, gives_logical, gives_bit}
use Rattle.scc_lower_spec.proofs.Shapes.{Alike, Compared, Logical, OnLeft, Reduced, Shape}

at_text : (P : SvBinary → Type 0) (m k : SvBinary) → P m → ◌≡◌ {A = Option SvBinary} (Some m) (Some k) → P k
at_text P m k p e = subst P (cc) p

-- what an operator's number is, by the words of its operands in their kinds
abbrev pub answer : Op → Operands → ℕ → ℕ → ℕ
answer o p a b = low (width_of p.answer) (exact o (width_of p.left) (number_of p.left a) (number_of p.right b))

module _ (wide : Bool) (width x : ℕ → ℕ) where
  abbrev of : Term → Sized
  of t = sized wide width x t

  abbrev Given : Operands → Term → Term → ℕ → ℕ → Type 0
  Given p t u a b = (a < 2 ^ width_of p.left) × (b < 2 ^ width_of p.right) × Gives false (of t) (width_of p.left) a × Gives false (of u) (width_of p.right) b

  -- ---- operators of the context whose low bits depend on low bits alone

  low_context : (o : Op) → IsLow o → (p : Operands) (t u : Term) (a b : ℕ) → Alike p → Given p t u a b → Gives false (sized_context o (of t) (of u)) (width_of p.answer) (answer o p a b)
  low_context o f p t u a b h g =
      let n = width_of p.answer in
      let k = gives_context false o (of t) (of u) n a b (subst (λ w. Gives false (of t) w a) h.0 g.2) (subst (λ w. Gives false (of u) w b) h.1 g.3) in
      let l : low n (number_of p.left a) ≡ a = ap (λ w. low w (number_of p.left a)) (sym h.0) ∙ low_reading (is_signed p.left) (width_of p.left) a g.0 in
      let r : low n (number_of p.right b) ≡ b = ap (λ w. low w (number_of p.right b)) (sym h.1) ∙ low_reading (is_signed p.right) (width_of p.right) b g.1 in
      (k.0, k.1, k.2 ∙ (λ i. low n (exact o n (pos (sym l i)) (pos (sym r i)))) ∙ f n (width_of p.left) n (number_of p.left a) (number_of p.right b))

  -- ---- operators of the context that are taken on exact numbers

  abbrev IsWhole : Op → Type 0
  IsWhole o = (v w : ℕ) (y z : ℤ) → exact o v y z ≡ exact o w y z

  whole_context : (o : Op) → IsWhole o → (s : Bool) (p : Operands) (t u : Term) (a b : ℕ) → is_signed p.left ≡ s → is_signed p.right ≡ s → Alike p → Gives s (of t) (width_of p.left) a → Gives s (of u) (width_of p.right) b → Gives s (sized_context o (of t) (of u)) (width_of p.answer) (answer o p a b)
  whole_context o f s p t u a b q r h g m =
      let n = width_of p.answer in
      let k = gives_context s o (of t) (of u) n a b (subst (λ w. Gives s (of t) w a) h.0 g) (subst (λ w. Gives s (of u) w b) h.1 m) in
      (k.0, k.1, k.2 ∙ (λ i. low n (exact o n (reading (sym q i) (sym h.0 i) a) (reading (sym r i) (sym h.1 i) b))) ∙ ap (low n) (f n (width_of p.left) (number_of p.left a) (number_of p.right b)))

  -- the operands read with a sign, the answer without one
  signed_context : (o : Op) → IsWhole o → (p : Operands) (t u : Term) (a b : ℕ) → is_signed p.left ≡ true → is_signed p.right ≡ true → Alike p → Given p t u a b
      → Gives false (sized_sign false (sized_context o (of (Sign true t)) (of (Sign true u)))) (width_of p.answer) (answer o p a b)
  signed_context o f p t u a b q r h g =
      let m = whole_context o f true p (Sign true t) (Sign true u) a b q r h (gives_sign false true (of t) (width_of p.left) a g.0 g.2) (gives_sign false true (of u) (width_of p.right) b g.1 g.3) in
      gives_sign true false (sized_context o (of (Sign true t)) (of (Sign true u))) (width_of p.answer) (answer o p a b) (low_less (width_of p.answer) _) m

  -- ---- comparisons

  compares : (o : Op) (s : Bool) (p : Operands) (t u : Term) (a b : ℕ) → is_signed p.left ≡ s → is_signed p.right ≡ s → Compared p → Gives s (of t) (width_of p.left) a → Gives s (of u) (width_of p.right) b → Gives false (sized_compare o (of t) (of u)) (width_of p.answer) (answer o p a b)
  compares o s p t u a b q r h g m =
      let n = width_of p.left in
      let k = gives_compare s o (of t) (of u) n a b g (subst (λ w. Gives s (of u) w b) h.0 m) in
      (k.0 ∙ sym h.1, k.1, ap (λ w. (sized_compare o (of t) (of u)).word w false) h.1 ∙ k.2 ∙ (λ i. low (sym h.1 i) (exact o n (reading (sym q i) n a) (reading (sym r i) (sym h.0 i) b))))

  compares_signed : (o : Op) (p : Operands) (t u : Term) (a b : ℕ) → is_signed p.left ≡ true → is_signed p.right ≡ true → Compared p → Given p t u a b → Gives false (sized_compare o (of (Sign true t)) (of (Sign true u))) (width_of p.answer) (answer o p a b)
  compares_signed o p t u a b q r h g =
      compares o true p (Sign true t) (Sign true u) a b q r h (gives_sign false true (of t) (width_of p.left) a g.0 g.2) (gives_sign false true (of u) (width_of p.right) b g.1 g.3)

  -- equal words are equal numbers
  same_test : (m n : ℕ) (y z : ℤ) → (m ≡ n → y ≡ z) → (y ≡ z → m ≡ n) → int_eq (pos m) (pos n) ≡ int_eq y z
  same_test m n y z f g = grind (arith, ints)

  same_numbers : (s : Bool) (n a b : ℕ) → a < 2 ^ n → b < 2 ^ n → int_eq (pos a) (pos b) ≡ int_eq (reading s n a) (reading s n b)
  same_numbers s n a b p q = same_test a b (reading s n a) (reading s n b) (ap (reading s n)) (λ e. sym (low_reading s n a p) ∙ ap (low n) e ∙ low_reading s n b q)

  abbrev IsOfWords : Op → Type 0
  IsOfWords o = (s : Bool) (n a b : ℕ) → a < 2 ^ n → b < 2 ^ n → exact o n (pos a) (pos b) ≡ exact o n (reading s n a) (reading s n b)

  words_Eq : IsOfWords op.Eq
  words_Eq s n a b p q = ap bit (same_numbers s n a b p q)

  words_Ne : IsOfWords op.Ne
  words_Ne s n a b p q = ap (λ t. bit (not t)) (same_numbers s n a b p q)

  compares_words : (o : Op) → IsOfWords o → (p : Operands) (t u : Term) (a b : ℕ) → is_signed p.left ≡ is_signed p.right → Compared p → Given p t u a b → Gives false (sized_compare o (of t) (of u)) (width_of p.answer) (answer o p a b)
  compares_words o f p t u a b r h g =
      let n = width_of p.left in
      let k = gives_compare false o (of t) (of u) n a b g.2 (subst (λ w. Gives false (of u) w b) h.0 g.3) in
      let small : b < 2 ^ n = subst (λ w. b < 2 ^ w) h.0 g.1 in (
        k.0 ∙ sym h.1,
        k.1,
        ap (λ w. (sized_compare o (of t) (of u)).word w false) h.1 ∙ k.2 ∙ ap (low 1) (f (is_signed p.left) n a b g.0 small)
            ∙ (λ i. low (sym h.1 i) (exact o n (number_of p.left a) (reading (r i) (sym h.0 i) b))),
      )

  -- ---- shifts

  shifts_left : (p : Operands) (t u : Term) (a b : ℕ) → is_signed p.right ≡ false → OnLeft p → Given p t u a b → Gives false (sized_shift false op.Shl (of t) (of u)) (width_of p.answer) (answer op.Shl p a b)
  shifts_left p t u a b r h g =
      let n = width_of p.left in
      let k = gives_shift false false false op.Shl (of t) (of u) n (width_of p.right) a b g.2 g.3 in
      let l : low n (number_of p.left a) ≡ a = low_reading (is_signed p.left) n a g.0 in
      let word : low n (exact op.Shl n (pos a) (pos b)) ≡ low n (exact op.Shl n (number_of p.left a) (pos b)) =
      ap (λ y. low n (exact op.Shl n (pos y) (pos b))) (sym l) ∙ low_mul n (number_of p.left a) (pos (2 ^ b)) in
      subst (λ w. Gives false (sized_shift false op.Shl (of t) (of u)) w (low w (exact op.Shl n (number_of p.left a) (number_of p.right b)))) h
      (k.0, k.1, k.2 ∙ word ∙ ap (λ s. low n (exact op.Shl n (number_of p.left a) (reading s (width_of p.right) b))) (sym r))

  shifts_right : (s : Bool) (p : Operands) (t u : Term) (a b : ℕ) → is_signed p.left ≡ s → is_signed p.right ≡ false → OnLeft p → Gives s (of t) (width_of p.left) a → Gives false (of u) (width_of p.right) b → Gives s (sized_shift s op.Shr (of t) (of u)) (width_of p.answer) (answer op.Shr p a b)
  shifts_right s p t u a b q r h g m =
      let n = width_of p.left in
      let k = gives_shift s false s op.Shr (of t) (of u) n (width_of p.right) a b g m in
      subst (λ w. Gives s (sized_shift s op.Shr (of t) (of u)) w (low w (exact op.Shr n (number_of p.left a) (number_of p.right b)))) h
      (k.0, k.1, k.2 ∙ (λ i. low n (exact op.Shr n (reading ((same s ∙ sym q) i) n a) (reading (sym r i) (width_of p.right) b))))
    where
      same : (s : Bool) → (s && s) ≡ s
      same true = refl
      same false = refl

  -- ---- logical operators

  both_bool : (o : Op) (p : Operands) (t u : Term) (a b : ℕ) → Logical p → Given p t u a b → Gives false (sized_logical o (of t) (of u)) (width_of p.answer) (answer o p a b)
  both_bool o p t u a b h g =
      let k = gives_logical false false o (of t) (of u) (width_of p.left) (width_of p.right) a b g.2 g.3 in
      subst (λ q. Gives false (sized_logical o (of t) (of u)) (width_of q) (low (width_of q) (exact o (width_of p.left) (number_of p.left a) (number_of p.right b)))) (sym h.2)
      (k.0, k.1, k.2 ∙ (λ i. low 1 (exact o (width_of p.left) (number_of (sym h.0 i) a) (number_of (sym h.1 i) b))))

  -- ---- every operator between two operands

  pub operates : (o : Op) (s : Bool) (k : Kind) (p : Operands) (text : SvBinary) → binary_of o s ≡ Some text → is_signed p.left ≡ s → Shape o k p → Signs o (is_signed p.left) (is_signed p.right) → (t u : Term) (a b : ℕ) → Given p t u a b
      → Gives false (of (operated_term o s text t u)) (width_of p.answer) (answer o p a b)
  operates op.Add false k p text e q h m t u a b g = at_text (λ c. Gives false (of (Binary c t u)) (width_of p.answer) (answer op.Add p a b)) binary.Add text (low_context op.Add low_only_add p t u a b h g) e
  operates op.Add true k p text e q h m t u a b g = at_text (λ c. Gives false (of (Binary c t u)) (width_of p.answer) (answer op.Add p a b)) binary.Add text (low_context op.Add low_only_add p t u a b h g) e
  operates op.Sub false k p text e q h m t u a b g = at_text (λ c. Gives false (of (Binary c t u)) (width_of p.answer) (answer op.Sub p a b)) binary.Sub text (low_context op.Sub low_only_sub p t u a b h g) e
  operates op.Sub true k p text e q h m t u a b g = at_text (λ c. Gives false (of (Binary c t u)) (width_of p.answer) (answer op.Sub p a b)) binary.Sub text (low_context op.Sub low_only_sub p t u a b h g) e
  operates op.Mul false k p text e q h m t u a b g = at_text (λ c. Gives false (of (Binary c t u)) (width_of p.answer) (answer op.Mul p a b)) binary.Mul text (low_context op.Mul low_only_mul p t u a b h g) e
  operates op.Mul true k p text e q h m t u a b g = at_text (λ c. Gives false (of (Binary c t u)) (width_of p.answer) (answer op.Mul p a b)) binary.Mul text (low_context op.Mul low_only_mul p t u a b h g) e
  operates op.And false k p text e q h m t u a b g = at_text (λ c. Gives false (of (Binary c t u)) (width_of p.answer) (answer op.And p a b)) binary.And text (low_context op.And low_only_and p t u a b h g) e
  operates op.And true k p text e q h m t u a b g = at_text (λ c. Gives false (of (Binary c t u)) (width_of p.answer) (answer op.And p a b)) binary.And text (low_context op.And low_only_and p t u a b h g) e
  operates op.Or false k p text e q h m t u a b g = at_text (λ c. Gives false (of (Binary c t u)) (width_of p.answer) (answer op.Or p a b)) binary.Or text (low_context op.Or low_only_or p t u a b h g) e
  operates op.Or true k p text e q h m t u a b g = at_text (λ c. Gives false (of (Binary c t u)) (width_of p.answer) (answer op.Or p a b)) binary.Or text (low_context op.Or low_only_or p t u a b h g) e
  operates op.Xor false k p text e q h m t u a b g = at_text (λ c. Gives false (of (Binary c t u)) (width_of p.answer) (answer op.Xor p a b)) binary.Xor text (low_context op.Xor low_only_xor p t u a b h g) e
  operates op.Xor true k p text e q h m t u a b g = at_text (λ c. Gives false (of (Binary c t u)) (width_of p.answer) (answer op.Xor p a b)) binary.Xor text (low_context op.Xor low_only_xor p t u a b h g) e
  operates op.Div false k p text e q h m t u a b g = at_text (λ c. Gives false (of (Binary c t u)) (width_of p.answer) (answer op.Div p a b)) binary.Div text (whole_context op.Div (λ v w y z. refl) false p t u a b q (sym m ∙ q) h g.2 g.3) e
  operates op.Div true k p text e q h m t u a b g = at_text (λ c. Gives false (of (Sign false (Binary c (Sign true t) (Sign true u)))) (width_of p.answer) (answer op.Div p a b)) binary.Div text (signed_context op.Div (λ v w y z. refl) p t u a b q (sym m ∙ q) h g) e
  operates op.Rem false k p text e q h m t u a b g = at_text (λ c. Gives false (of (Binary c t u)) (width_of p.answer) (answer op.Rem p a b)) binary.Rem text (whole_context op.Rem (λ v w y z. refl) false p t u a b q (sym m ∙ q) h g.2 g.3) e
  operates op.Rem true k p text e q h m t u a b g = at_text (λ c. Gives false (of (Sign false (Binary c (Sign true t) (Sign true u)))) (width_of p.answer) (answer op.Rem p a b)) binary.Rem text (signed_context op.Rem (λ v w y z. refl) p t u a b q (sym m ∙ q) h g) e
  operates op.Eq false k p text e q h m t u a b g = at_text (λ c. Gives false (of (Binary c t u)) (width_of p.answer) (answer op.Eq p a b)) binary.Eq text (compares_words op.Eq words_Eq p t u a b m h g) e
  operates op.Eq true k p text e q h m t u a b g = at_text (λ c. Gives false (of (Binary c t u)) (width_of p.answer) (answer op.Eq p a b)) binary.Eq text (compares_words op.Eq words_Eq p t u a b m h g) e
  operates op.Ne false k p text e q h m t u a b g = at_text (λ c. Gives false (of (Binary c t u)) (width_of p.answer) (answer op.Ne p a b)) binary.Ne text (compares_words op.Ne words_Ne p t u a b m h g) e
  operates op.Ne true k p text e q h m t u a b g = at_text (λ c. Gives false (of (Binary c t u)) (width_of p.answer) (answer op.Ne p a b)) binary.Ne text (compares_words op.Ne words_Ne p t u a b m h g) e
  operates op.Lt false k p text e q h m t u a b g = at_text (λ c. Gives false (of (Binary c t u)) (width_of p.answer) (answer op.Lt p a b)) binary.Lt text (compares op.Lt false p t u a b q (sym m ∙ q) h g.2 g.3) e
  operates op.Lt true k p text e q h m t u a b g = at_text (λ c. Gives false (of (Binary c (Sign true t) (Sign true u))) (width_of p.answer) (answer op.Lt p a b)) binary.Lt text (compares_signed op.Lt p t u a b q (sym m ∙ q) h g) e
  operates op.Le false k p text e q h m t u a b g = at_text (λ c. Gives false (of (Binary c t u)) (width_of p.answer) (answer op.Le p a b)) binary.Le text (compares op.Le false p t u a b q (sym m ∙ q) h g.2 g.3) e
  operates op.Le true k p text e q h m t u a b g = at_text (λ c. Gives false (of (Binary c (Sign true t) (Sign true u))) (width_of p.answer) (answer op.Le p a b)) binary.Le text (compares_signed op.Le p t u a b q (sym m ∙ q) h g) e
  operates op.Gt false k p text e q h m t u a b g = at_text (λ c. Gives false (of (Binary c t u)) (width_of p.answer) (answer op.Gt p a b)) binary.Gt text (compares op.Gt false p t u a b q (sym m ∙ q) h g.2 g.3) e
  operates op.Gt true k p text e q h m t u a b g = at_text (λ c. Gives false (of (Binary c (Sign true t) (Sign true u))) (width_of p.answer) (answer op.Gt p a b)) binary.Gt text (compares_signed op.Gt p t u a b q (sym m ∙ q) h g) e
  operates op.Ge false k p text e q h m t u a b g = at_text (λ c. Gives false (of (Binary c t u)) (width_of p.answer) (answer op.Ge p a b)) binary.Ge text (compares op.Ge false p t u a b q (sym m ∙ q) h g.2 g.3) e
  operates op.Ge true k p text e q h m t u a b g = at_text (λ c. Gives false (of (Binary c (Sign true t) (Sign true u))) (width_of p.answer) (answer op.Ge p a b)) binary.Ge text (compares_signed op.Ge p t u a b q (sym m ∙ q) h g) e
  operates op.Shl false k p text e q h m t u a b g = at_text (λ c. Gives false (of (Binary c t u)) (width_of p.answer) (answer op.Shl p a b)) binary.Shl text (shifts_left p t u a b m h.0 g) e
  operates op.Shl true k p text e q h m t u a b g = at_text (λ c. Gives false (of (Binary c t u)) (width_of p.answer) (answer op.Shl p a b)) binary.Shl text (shifts_left p t u a b m h.0 g) e
  operates op.Shr false k p text e q h m t u a b g = at_text (λ c. Gives false (of (Binary c t u)) (width_of p.answer) (answer op.Shr p a b)) binary.Shr text (shifts_right false p t u a b q m h.0 g.2 g.3) e
  operates op.Shr true k p text e q h m t u a b g = at_text (λ c. Gives false (of (Sign false (Binary c (Sign true t) u))) (width_of p.answer) (answer op.Shr p a b)) binary.Sar text (gives_sign true false (sized_shift true op.Shr (of (Sign true t)) (of u)) (width_of p.answer) (answer op.Shr p a b) (low_less (width_of p.answer) _) (shifts_right true p (Sign true t) u a b q m h.0 (gives_sign false true (of t) (width_of p.left) a g.0 g.2) g.3)) e
  operates op.LogAnd false k p text e q h m t u a b g = at_text (λ c. Gives false (of (Binary c t u)) (width_of p.answer) (answer op.LogAnd p a b)) binary.LogAnd text (both_bool op.LogAnd p t u a b h g) e
  operates op.LogAnd true k p text e q h m t u a b g = at_text (λ c. Gives false (of (Binary c t u)) (width_of p.answer) (answer op.LogAnd p a b)) binary.LogAnd text (both_bool op.LogAnd p t u a b h g) e
  operates op.LogOr false k p text e q h m t u a b g = at_text (λ c. Gives false (of (Binary c t u)) (width_of p.answer) (answer op.LogOr p a b)) binary.LogOr text (both_bool op.LogOr p t u a b h g) e
  operates op.LogOr true k p text e q h m t u a b g = at_text (λ c. Gives false (of (Binary c t u)) (width_of p.answer) (answer op.LogOr p a b)) binary.LogOr text (both_bool op.LogOr p t u a b h g) e
  operates op.Plus s k p text e q h m t u a b g = absurd (cc)
  operates op.Neg s k p text e q h m t u a b g = absurd (cc)
  operates op.Not s k p text e q h m t u a b g = absurd (cc)
  operates op.LogNot s k p text e q h m t u a b g = absurd (cc)
  operates op.AndReduce s k p text e q h m t u a b g = absurd (cc)
  operates op.OrReduce s k p text e q h m t u a b g = absurd (cc)
  operates op.XorReduce s k p text e q h m t u a b g = absurd (cc)

  -- ---- operators of one operand

  low_inner : (o : Op) → IsLow o → ((v : ℕ) (y z z' : ℤ) → exact o v y z ≡ exact o v y z') → (p : Operands) (t : Term) (a b : ℕ) → OnLeft p → a < 2 ^ width_of p.left → Gives false (of t) (width_of p.left) a → Gives false (sized_inner o (of t)) (width_of p.answer) (answer o p a b)
  low_inner o f one p t a b h small g =
      let n = width_of p.left in
      let k = gives_inner false o (of t) n a g in
      let l : low n (number_of p.left a) ≡ a = low_reading (is_signed p.left) n a small in
      subst (λ w. Gives false (sized_inner o (of t)) w (low w (exact o n (number_of p.left a) (number_of p.right b)))) h
      (k.0, k.1, k.2 ∙ ap (low n) (one n (pos a) (pos 0) (pos (low n (number_of p.right b)))) ∙ ap (λ y. low n (exact o n (pos y) (pos (low n (number_of p.right b))))) (sym l) ∙ f n n n (number_of p.left a) (number_of p.right b))

  not_bool : (p : Operands) (t : Term) (a b : ℕ) → Logical p → Gives false (of t) (width_of p.left) a → Gives false (sized_bit op.LogNot (of t)) (width_of p.answer) (answer op.LogNot p a b)
  not_bool p t a b h g =
      let k = gives_bit false op.LogNot (of t) (width_of p.left) a g in
      subst (λ q. Gives false (sized_bit op.LogNot (of t)) (width_of q) (low (width_of q) (exact op.LogNot (width_of p.left) (number_of p.left a) (number_of p.right b)))) (sym h.2)
      (k.0, k.1, k.2 ∙ (λ i. low 1 (exact op.LogNot (width_of p.left) (number_of (sym h.0 i) a) (number_of p.right b))))

  abbrev IsReduction : Op → Type 0
  IsReduction o = (w : ℕ) (y y' z z' : ℤ) → low w y ≡ low w y' → exact o w y z ≡ exact o w y' z'

  reduces : (o : Op) → IsReduction o → (p : Operands) (t : Term) (a b : ℕ) → Reduced p → a < 2 ^ width_of p.left → Gives false (of t) (width_of p.left) a → Gives false (sized_bit o (of t)) (width_of p.answer) (answer o p a b)
  reduces o f p t a b h small g =
      let n = width_of p.left in
      let k = gives_bit false o (of t) n a g in
      let l : low n (pos a) ≡ low n (number_of p.left a) = low_word n a small ∙ sym (low_reading (is_signed p.left) n a small) in
      (k.0 ∙ sym h, k.1, ap (λ w. (sized_bit o (of t)).word w false) h ∙ k.2 ∙ ap (low 1) (f n (pos a) (number_of p.left a) (pos 0) (number_of p.right b) l) ∙ ap (λ w. low w (exact o n (number_of p.left a) (number_of p.right b))) (sym h))

  at_alone : (P : SvUnary → Type 0) (m k : SvUnary) → P m → ◌≡◌ {A = Option SvUnary} (Some m) (Some k) → P k
  at_alone P m k p e = subst P (cc) p

  pub operates_alone : (o : Op) (k : Kind) (p : Operands) (text : SvUnary) → unary_of o ≡ Some text → Shape o k p → (t : Term) (a b : ℕ) → a < 2 ^ width_of p.left → Gives false (of t) (width_of p.left) a → Gives false (of (Unary text t)) (width_of p.answer) (answer o p a b)
  operates_alone op.Neg k p text e h t a b small g = at_alone (λ c. Gives false (of (Unary c t)) (width_of p.answer) (answer op.Neg p a b)) unary.Neg text (low_inner op.Neg low_only_neg (λ v y z z'. refl) p t a b h small g) e
  operates_alone op.Not k p text e h t a b small g = at_alone (λ c. Gives false (of (Unary c t)) (width_of p.answer) (answer op.Not p a b)) unary.Not text (low_inner op.Not low_only_not (λ v y z z'. refl) p t a b h small g) e
  operates_alone op.LogNot k p text e h t a b small g = at_alone (λ c. Gives false (of (Unary c t)) (width_of p.answer) (answer op.LogNot p a b)) unary.LogNot text (not_bool p t a b h g) e
  operates_alone op.AndReduce k p text e h t a b small g = at_alone (λ c. Gives false (of (Unary c t)) (width_of p.answer) (answer op.AndReduce p a b)) unary.And text (reduces op.AndReduce (λ w y y' z z' e. ap (λ n. bit (nat_eq n (2 ^ w - 1))) e) p t a b h small g) e
  operates_alone op.OrReduce k p text e h t a b small g = at_alone (λ c. Gives false (of (Unary c t)) (width_of p.answer) (answer op.OrReduce p a b)) unary.Or text (reduces op.OrReduce (λ w y y' z z' e. ap (λ n. bit (not (nat_eq n 0))) e) p t a b h small g) e
  operates_alone op.XorReduce k p text e h t a b small g = at_alone (λ c. Gives false (of (Unary c t)) (width_of p.answer) (answer op.XorReduce p a b)) unary.Xor text (reduces op.XorReduce (λ w y y' z z' e. ap (λ n. bit (nat_eq (count_ones n % 2) 1)) e) p t a b h small g) e
  operates_alone op.Add k p text e h t a b small g = absurd (cc)
  operates_alone op.Sub k p text e h t a b small g = absurd (cc)
  operates_alone op.Mul k p text e h t a b small g = absurd (cc)
  operates_alone op.Div k p text e h t a b small g = absurd (cc)
  operates_alone op.Rem k p text e h t a b small g = absurd (cc)
  operates_alone op.And k p text e h t a b small g = absurd (cc)
  operates_alone op.Or k p text e h t a b small g = absurd (cc)
  operates_alone op.Xor k p text e h t a b small g = absurd (cc)
  operates_alone op.Eq k p text e h t a b small g = absurd (cc)
  operates_alone op.Ne k p text e h t a b small g = absurd (cc)
  operates_alone op.Lt k p text e h t a b small g = absurd (cc)
  operates_alone op.Le k p text e h t a b small g = absurd (cc)
  operates_alone op.Gt k p text e h t a b small g = absurd (cc)
  operates_alone op.Ge k p text e h t a b small g = absurd (cc)
  operates_alone op.Shl k p text e h t a b small g = absurd (cc)
  operates_alone op.Shr k p text e h t a b small g = absurd (cc)
  operates_alone op.LogAnd k p text e h t a b small g = absurd (cc)
  operates_alone op.LogOr k p text e h t a b small g = absurd (cc)
  operates_alone op.Plus k p text e h t a b small g = absurd (cc)

  -- `+` keeps its operand
  pub keeps_alone : (p : Operands) (t : Term) (a b : ℕ) → OnLeft p → a < 2 ^ width_of p.left → Gives false (of t) (width_of p.left) a → Gives false (of t) (width_of p.answer) (answer op.Plus p a b)
  keeps_alone p t a b h small g =
      subst (λ w. Gives false (of t) w (low w (number_of p.left a))) h (g.0, g.1, g.2 ∙ sym (low_reading (is_signed p.left) (width_of p.left) a small))
