-- The text of a conversion, an operator or a choice reads what its operands' texts read.
use Rattle.std.specs.Prelude.{◌≡◌, ℕ, nat_eq, nat_lt, Bool, true, false, not, ◌&&◌, ◌||◌, if◌then◌else◌, Some, option_map, option_and_then}
use Rattle.std.proofs.Common.{refl, sym, ◌∙◌, ap}
use Rattle.scc_bits_kinds.specs.declared.op.Op.{Op}
use Rattle.scc_bits_kinds.specs.declared.op.Op.TheVariants as op
use Rattle.scc_bits_kinds.specs.declared.kind.Kind.{Kind}
use Rattle.scc_bits_kinds.specs.declared.kind.Kind.TheVariants as sorts
use Rattle.scc_bits_kinds.specs.Kinds.{width_of, is_signed, is_bool}
use Rattle.scc_bits.specs.Placed.{operands_of}
use Rattle.scc_bits.specs.Value.{Number}
use Rattle.scc_bits.specs.Values.{applied, kind_of}
use Rattle.scc_svtree.specs.declared.expr.SvBinary.{SvBinary}
use Rattle.scc_svtree.specs.declared.expr.SvBinary.TheVariants as binary
use Rattle.scc_svtree.specs.Term.{Term, Literal, Unary, Binary, Cast, Sign}
use Rattle.scc_svtree.specs.Mentions.{reads}
use Rattle.scc_lower_spec.specs.Conversion.{converted_term, resized, widened, takes_own_size}
use Rattle.scc_lower_spec.specs.Operating.{binary_of, is_shift, operated_term, with_signs, unary_of}
use Rattle.scc_lower_laws.specs.Outcome.{Outcome, Known, Made, text_of, text_in, number, converted, answered, joined_text, right_text, between_text, operated, is_plus, alone_text, operated_alone, choice_text, chosen}
use Rattle.scc_lower_laws.proofs.Options.{some_same, map_is, then_is}

or_none : (b : Bool) → (b || false) ≡ b
or_none true = refl
or_none false = refl

module _ (v : ℕ) where
  either : (b : Bool) (t u : Term) (r : Bool) → reads t v ≡ r → reads u v ≡ r → reads (if b then t else u) v ≡ r
  either true t u r e f = e
  either false t u r e f = f

  widened-reads : (w : ℕ) (t : Term) → reads (widened w t) v ≡ reads t v
  widened-reads w t = either (takes_own_size t) (Cast w t) (Cast w (Sign false t)) (reads t v) refl refl

  longer-reads : (from to : Kind) (t : Term) → reads (if is_signed from then Sign false (Cast (width_of to) (Sign true t)) else widened (width_of to) t) v ≡ reads t v
  longer-reads from to t = either (is_signed from) (Sign false (Cast (width_of to) (Sign true t))) (widened (width_of to) t) (reads t v) refl (widened-reads (width_of to) t)

  other-reads : (from to : Kind) (t : Term) → reads (if nat_lt (width_of to) (width_of from) then Cast (width_of to) t else (if is_signed from then Sign false (Cast (width_of to) (Sign true t)) else widened (width_of to) t)) v ≡ reads t v
  other-reads from to t = either (nat_lt (width_of to) (width_of from)) (Cast (width_of to) t) (if is_signed from then Sign false (Cast (width_of to) (Sign true t)) else widened (width_of to) t) (reads t v) refl (longer-reads from to t)

  resized-reads : (from to : Kind) (t : Term) → reads (resized from to t) v ≡ reads t v
  resized-reads from to t = either (nat_eq (width_of to) (width_of from)) t (if nat_lt (width_of to) (width_of from) then Cast (width_of to) t else (if is_signed from then Sign false (Cast (width_of to) (Sign true t)) else widened (width_of to) t)) (reads t v) refl (other-reads from to t)

  pub converted-reads : (from to : Kind) (t : Term) → reads (converted_term from to t) v ≡ reads t v
  converted-reads from to t = either (is_bool to && not (is_bool from)) (Binary binary.Ne t (Literal (width_of from) 0)) (resized from to t) (reads t v) (or_none (reads t v)) (resized-reads from to t)

  pub in-reads : (from to : Kind) (o : Outcome) → reads (text_in from to o) v ≡ reads (text_of o) v
  in-reads from to (Known n) = refl
  in-reads from to (Made t) = converted-reads from to t

  pub outcome-reads : (from to : Kind) (o : Outcome) → reads (text_of (converted from to o)) v ≡ reads (text_of o) v
  outcome-reads from to (Known n) = refl
  outcome-reads from to (Made t) = converted-reads from to t

  signs-reads : (o : Op) (text : SvBinary) (t u : Term) → reads (with_signs o text t u) v ≡ (reads t v || reads u v)
  signs-reads op.Lt text t u = refl
  signs-reads op.Le text t u = refl
  signs-reads op.Gt text t u = refl
  signs-reads op.Ge text t u = refl
  signs-reads op.Div text t u = refl
  signs-reads op.Rem text t u = refl
  signs-reads op.Shr text t u = refl
  signs-reads _ text t u = refl

  operated-term-reads : (o : Op) (s : Bool) (text : SvBinary) (t u : Term) → reads (operated_term o s text t u) v ≡ (reads t v || reads u v)
  operated-term-reads o false text t u = refl
  operated-term-reads o true text t u = signs-reads o text t u

  right-reads : (o : Op) (to k : Kind) (b : Outcome) → reads (right_text o to k b) v ≡ reads (text_of b) v
  right-reads o to k b = either (is_shift o) (text_of b) (text_in k to b) (reads (text_of b) v) refl (in-reads k to b)

  -- a number reads nothing
  answered-reads : (o : Op) (n m : Number) (out : Outcome) → answered o n m ≡ Some out → reads (text_of out) v ≡ false
  answered-reads o n m out e =
      let k = then_is (kind_of o n.kind m.kind) (λ k. option_map (λ w. Known (number k w)) (applied o n.kind n.word m.kind m.word)) out e in
      let w = map_is (applied o n.kind n.word m.kind m.word) (λ w. Known (number k.0 w)) out k.2 in
      ap (λ u. reads (text_of u) v) (sym w.2)

  no-read : {P : Type 0} (b : Bool) → b ≡ false → b ≡ true → P
  no-read b e f = absurd (cc)

  between-reads : (o : Op) (j k : Kind) (a b out : Outcome) → option_map Made (between_text o j a k b) ≡ Some out → reads (text_of out) v ≡ (reads (text_of a) v || reads (text_of b) v)
  between-reads o j k a b out e =
      let m = map_is (between_text o j a k b) Made out e in
      let p = then_is (operands_of o j k) (λ p. joined_text o (is_signed p.left) (text_in j p.left a) (right_text o p.right k b)) m.0 m.1 in
      let t = map_is (binary_of o (is_signed p.0.left)) (λ t. operated_term o (is_signed p.0.left) t (text_in j p.0.left a) (right_text o p.0.right k b)) m.0 p.2 in
      ap (λ u. reads (text_of u) v) (sym m.2) ∙ ap (λ u. reads u v) (sym t.2) ∙ operated-term-reads o (is_signed p.0.left) t.0 (text_in j p.0.left a) (right_text o p.0.right k b)
      ∙ (λ i. in-reads j p.0.left a i || right-reads o p.0.right k b i)

  pub operated-reads : (o : Op) (j k : Kind) (a b out : Outcome) → operated o j a k b ≡ Some out → reads (text_of out) v ≡ true → (reads (text_of a) v || reads (text_of b) v) ≡ true
  operated-reads o j k (Known n) (Known m) out e f = no-read (reads (text_of out) v) (answered-reads o n m out e) f
  operated-reads o j k (Known n) (Made u) out e f = sym (between-reads o j k (Known n) (Made u) out e) ∙ f
  operated-reads o j k (Made t) (Known m) out e f = sym (between-reads o j k (Made t) (Known m) out e) ∙ f
  operated-reads o j k (Made t) (Made u) out e f = sym (between-reads o j k (Made t) (Made u) out e) ∙ f

  alone-text-reads : (o : Op) (t u : Term) → alone_text o t ≡ Some u → reads u v ≡ reads t v
  alone-text-reads o t u = by (is_plus o)
    where
      by : (b : Bool) → (if b then Some t else option_map (λ text. Unary text t) (unary_of o)) ≡ Some u → reads u v ≡ reads t v
      by true e = ap (λ z. reads z v) (sym (some_same e))
      by false e = let m = map_is (unary_of o) (λ text. Unary text t) u e in ap (λ z. reads z v) (sym m.2)

  pub alone-reads : (o : Op) (j : Kind) (a out : Outcome) → operated_alone o j a ≡ Some out → reads (text_of out) v ≡ true → reads (text_of a) v ≡ true
  alone-reads o j (Known n) out e f = no-read (reads (text_of out) v) (answered-reads o n n out e) f
  alone-reads o j (Made t) out e f =
      let m = map_is (option_and_then (λ p. alone_text o (converted_term j p.left t)) (operands_of o j j)) Made out e in
      let p = then_is (operands_of o j j) (λ p. alone_text o (converted_term j p.left t)) m.0 m.1 in
      sym (ap (λ u. reads (text_of u) v) (sym m.2) ∙ alone-text-reads o (converted_term j p.0.left t) m.0 p.2 ∙ converted-reads j p.0.left t) ∙ f

  choice-reads : (i j k to : Kind) (t a b : Outcome) → reads (choice_text i t j a k b to) v ≡ (reads (text_of t) v || (reads (text_of a) v || reads (text_of b) v))
  choice-reads i j k to t a b = λ d. in-reads i sorts.Bool t d || (in-reads j to a d || in-reads k to b d)

  pub chosen-reads : (i j k to : Kind) (t a b : Outcome) → reads (text_of (chosen i t j a k b to)) v ≡ true → (reads (text_of t) v || (reads (text_of a) v || reads (text_of b) v)) ≡ true
  chosen-reads i j k to (Known n) (Known p) (Known q) f = f
  chosen-reads i j k to (Known n) (Known p) (Made u) f = sym (choice-reads i j k to (Known n) (Known p) (Made u)) ∙ f
  chosen-reads i j k to (Known n) (Made u) b f = sym (choice-reads i j k to (Known n) (Made u) b) ∙ f
  chosen-reads i j k to (Made u) a b f = sym (choice-reads i j k to (Made u) a b) ∙ f
