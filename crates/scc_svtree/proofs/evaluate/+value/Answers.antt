use Rattle.std.proofs.Common.{rules, ◌≡◌, ◌<◌, ◌≤◌, ◌+◌, ◌*◌, ◌^◌, ℕ, suc, max, map, drop, drop-cons, add-one, get_or, length, false, List, ◌∷◌, ap, sym, subst, ◌∙◌, arith}
use Rattle.scc_svtree.specs.declared.expr.SvExprNode.TheViews.{the_lemmas}
use Rattle.std.specs.Prelude.{pos}
use Rattle.scc_bits_kinds.specs.Numbers.{low, reading}
use Rattle.scc_bits_kinds.specs.Operators.{Divisor}
use Rattle.scc_svtree.specs.Joined.{joined_word}
use Rattle.scc_svtree.specs.Sized.{AllSized, HasDivisor, IsSized, TakesDivisor, total_length}
use Rattle.scc_svtree.specs.Sizes.{length_of, sized, sized_class, value_of}
use Rattle.scc_svtree.specs.Term as term
use Rattle.scc_svtree.specs.Term.{Term, term_of, joined}
use Rattle.scc_svtree.specs.Classes.{IsContext, IsOfClass, class_of}
use Rattle.scc_svtree.specs.declared.class.Class.{Class}
use Rattle.scc_svtree.specs.declared.class.Class.TheVariants.{Context}
use Rattle.scc_svtree.specs.declared.expr.SvExpr.{SvExpr}
use Rattle.scc_svtree.specs.Variables.{IsWidth, width_at, word_at}
use Rattle.scc_svtree.proofs.Trees.{term_binary, term_concat}
use Rattle.scc_svtree.proofs.Joined.{joined_parts, joined_short, joined_long, width_of_sized}
use Rattle.scc_svtree.proofs.Concats.{joined_is, joined_fits, joined_room, joined_step}
use Rattle.scc_svtree.proofs.Divisors.{divisor_word}
use Rattle.scc_svtree.proofs.Again.{term_cast, term_sign, cast_word, sign_word}
use Rattle.scc_svtree.proofs.evaluate.+value.Goals as goal

-- the parts from here on are this one and those behind it
front : (parts : List SvExpr) (i : ℕ) (e : SvExpr) → i < length parts → e ≡ get_or parts i e → map term_of (drop i parts) ≡ term_of e ∷ map term_of (drop (i + 1) parts)
front parts i e h is = ap (λ p. map term_of p) (drop-cons parts i e h) ∙ ap (λ d. map term_of (d ∷ drop (suc i) parts)) (sym is) ∙ ap (λ k. term_of e ∷ map term_of (drop k parts)) (sym (add-one i))

module _ (width x : ℕ → ℕ) (parts : List SvExpr) (i : ℕ) (e : SvExpr) (h : i < length parts) (is : e ≡ get_or parts i e) where
  one_more : (bits len word j : ℕ) → len ≡ (sized false width x (term_of e)).len → word ≡ value_of width x (term_of e)
      → bits * 2 ^ total_length width (map term_of (drop i parts)) + joined_word width x (map term_of (drop i parts)) ≡ j
      → (bits * 2 ^ len + word) * 2 ^ total_length width (map term_of (drop (i + 1) parts)) + joined_word width x (map term_of (drop (i + 1) parts)) ≡ j
  one_more bits len word j l w e₁ =
      joined_step width x bits len word j (term_of e) (map term_of (drop (i + 1) parts)) l w
      (ap (λ ts. bits * 2 ^ total_length width ts + joined_word width x ts) (sym (front parts i e h is)) ∙ e₁)

  room_for : (bits len word : ℕ) → len ≡ (sized false width x (term_of e)).len → word ≡ value_of width x (term_of e)
      → bits * 2 ^ total_length width (map term_of (drop i parts)) + joined_word width x (map term_of (drop i parts)) ≡ joined_word width x (map term_of parts)
      → total_length width (map term_of parts) ≤ 128 → bits * 2 ^ len + word < 2 ^ 128
  room_for bits len word l w e₁ short = joined_room width x bits len word (map term_of (drop (i + 1) parts)) (map term_of parts) (one_more bits len word (joined_word width x (map term_of parts)) l w e₁) short

  sized_behind : AllSized width (map term_of (drop i parts)) → AllSized width (map term_of (drop (i + 1) parts))
  sized_behind a = let P : List Term → Type 0 = λ ts. AllSized width ts in let b : AllSized width (term_of e ∷ map term_of (drop (i + 1) parts)) = subst P (front parts i e h is) a in b.1

pub joined-above-requires-clause-room : goal.joined-above-requires-clause-room
joined-above-requires-clause-room t c =
    let width = width_at c.args.m.now.vars in
    let x = word_at c.args.x.now in
    let i = c.loop-e.e-index in
    let h : i < length c.args.parts.now = omega arith in
    let r = room_for width x c.args.parts.now i c.e-item.result h c.e-item.is c.loop-e.bits c.alone-part.result.len c.alone-part.result.word.bits c.alone-part.ensures.len c.alone-part.ensures.word c.loop-e.invariant.word c.requires.short in
    omega (arith, r)

pub joined-overflow_add-bits : goal.joined-overflow_add-bits
joined-overflow_add-bits t c =
    let width = width_at c.args.m.now.vars in
    let x = word_at c.args.x.now in
    let i = c.loop-e.e-index in
    let h : i < length c.args.parts.now = omega arith in
    let r = room_for width x c.args.parts.now i c.e-item.result h c.e-item.is c.loop-e.bits c.alone-part.result.len c.alone-part.result.word.bits c.alone-part.ensures.len c.alone-part.ensures.word c.loop-e.invariant.word c.requires.short in
    let a : c.above.result ≡ c.loop-e.bits * 2 ^ c.alone-part.result.len = c.above.ensures in
    let P : ℕ → Type 0 = λ n. n + c.alone-part.result.word.bits < 2 ^ 128 in
    let f : c.above.result + c.alone-part.result.word.bits < 2 ^ 128 = subst P (sym a) r in
    omega (arith, f)

pub joined-loop-e-preserved : goal.joined-loop-e-preserved
joined-loop-e-preserved t c =
    let width = width_at c.args.m.now.vars in
    let x = word_at c.args.x.now in
    let i = c.loop-e.e-index in
    let h : i < length c.args.parts.now = omega arith in
    let rest : List Term = map term_of (drop (i + 1) c.args.parts.now) in
    let w = one_more width x c.args.parts.now i c.e-item.result h c.e-item.is c.loop-e.bits c.alone-part.result.len c.alone-part.result.word.bits (joined_word width x (map term_of c.args.parts.now)) c.alone-part.ensures.len c.alone-part.ensures.word c.loop-e.invariant.word in
    record {
      sized = sized_behind width x c.args.parts.now i c.e-item.result h c.e-item.is c.loop-e.invariant.sized;
      word = ap (λ n. (n + c.alone-part.result.word.bits) * 2 ^ total_length width rest + joined_word width x rest) c.above.ensures ∙ w;
    }

pub word-apply-requires-clause-divisor : goal.word-apply-requires-clause-divisor
word-apply-requires-clause-divisor t c =
    let width = width_at c.args.m.now.vars in
    let x = word_at c.args.x.now in
    let l : Term = term_of c.in-Binary.left in
    let r : Term = term_of c.in-Binary.right in
    let o = c.in-Binary.op in
    let is : term_of c.args.e.now ≡ term.Binary o l r = term_binary c.args.e.now o c.in-Binary.left c.in-Binary.right (sym c.get.ensures.value ∙ c.in-Binary.is) in
    let k : class_of o ≡ Context c.in-Context.o = sym c.kind_of.ensures.is ∙ c.in-Context.is in
    let P : Term → Type 0 = λ y. IsSized width y in
    let h : IsSized width (term.Binary o l r) = subst P is c.requires.sized in
    let Q : Class → Type 0 = λ y. HasDivisor y r in
    let d : TakesDivisor c.in-Context.o r = subst Q k h.2 in
    let R : Class → Type 0 = λ y. IsOfClass y in
    let i : IsContext c.in-Context.o = subst R c.in-Context.is c.kind_of.ensures.kind in
    let S : Term → Type 0 = λ y. (sized false width x y).len ≤ c.args.n in
    let g : (sized_class (class_of o) (sized false width x l) (sized false width x r)).len ≤ c.args.n = subst S is c.requires.length in
    let T : Class → Type 0 = λ y. (sized_class y (sized false width x l) (sized false width x r)).len ≤ c.args.n in
    let f : max (sized false width x l).len (sized false width x r).len ≤ c.args.n = subst T k g in
    let v : Divisor c.in-Context.o ((sized false width x r).word c.args.n c.args.s) = divisor_word width x c.in-Context.o r c.args.n c.args.s i h.1 d (omega (arith, f)) in
    let U : ℕ → Type 0 = λ y. Divisor c.in-Context.o y in
    subst U (sym c.word-b.ensures.value) v

pub word-extended-requires-in-Concat-clause-fits : goal.word-extended-requires-in-Concat-clause-fits
word-extended-requires-in-Concat-clause-fits t c =
    let width = width_at c.args.m.now.vars in
    let x = word_at c.args.x.now in
    let ts : List Term = map term_of c.as_slice-parts.result.now in
    let P : ℕ → Type 0 = λ n. c.joined.result.bits < 2 ^ n in
    let Q : ℕ → Type 0 = λ v. v < 2 ^ total_length width ts in
    subst P (sym c.lengths.ensures.length) (subst Q (sym c.joined.ensures.word) (joined_fits width x ts))

pub word-lengths-requires-clause-sized : goal.word-lengths-requires-clause-sized
word-lengths-requires-clause-sized t c =
    let width = width_at c.args.m.now.vars in
    let is : term_of c.args.e.now ≡ joined (map term_of c.as_slice-parts.result.now) =
    term_concat c.args.e.now c.in-Concat.list (sym c.get.ensures.value ∙ c.in-Concat.is) ∙ ap (λ p. joined (map term_of p)) (sym c.as_slice-parts.ensures.elements) in
    let h : IsSized width (joined (map term_of c.as_slice-parts.result.now)) = let P : Term → Type 0 = λ y. IsSized width y in subst P is c.requires.sized in
    joined_parts width (map term_of c.as_slice-parts.result.now) h

pub word-lengths-requires-clause-short : goal.word-lengths-requires-clause-short
word-lengths-requires-clause-short t c =
    let width = width_at c.args.m.now.vars in
    let is : term_of c.args.e.now ≡ joined (map term_of c.as_slice-parts.result.now) =
    term_concat c.args.e.now c.in-Concat.list (sym c.get.ensures.value ∙ c.in-Concat.is) ∙ ap (λ p. joined (map term_of p)) (sym c.as_slice-parts.ensures.elements) in
    let h : IsSized width (joined (map term_of c.as_slice-parts.result.now)) = let P : Term → Type 0 = λ y. IsSized width y in subst P is c.requires.sized in
    joined_short width (map term_of c.as_slice-parts.result.now) h

pub word-joined-requires : goal.word-joined-requires
word-joined-requires t c =
    let width = width_at c.args.m.now.vars in
    let is : term_of c.args.e.now ≡ joined (map term_of c.as_slice-parts.result.now) =
    term_concat c.args.e.now c.in-Concat.list (sym c.get.ensures.value ∙ c.in-Concat.is) ∙ ap (λ p. joined (map term_of p)) (sym c.as_slice-parts.ensures.elements) in
    let h : IsSized width (joined (map term_of c.as_slice-parts.result.now)) = let P : Term → Type 0 = λ y. IsSized width y in subst P is c.requires.sized in
    (search (rules, the_lemmas), (joined_parts width (map term_of c.as_slice-parts.result.now) h, (joined_short width (map term_of c.as_slice-parts.result.now) h, c.requires.fits)))

pub word-extended-requires-in-Concat-clause-widths : goal.word-extended-requires-in-Concat-clause-widths
word-extended-requires-in-Concat-clause-widths t c =
    let width = width_at c.args.m.now.vars in
    let is : term_of c.args.e.now ≡ joined (map term_of c.as_slice-parts.result.now) =
    term_concat c.args.e.now c.in-Concat.list (sym c.get.ensures.value ∙ c.in-Concat.is) ∙ ap (λ p. joined (map term_of p)) (sym c.as_slice-parts.ensures.elements) in
    let h : IsSized width (joined (map term_of c.as_slice-parts.result.now)) = let P : Term → Type 0 = λ y. IsSized width y in subst P is c.requires.sized in
    let w = width_of_sized width (joined (map term_of c.as_slice-parts.result.now)) h in
    let l : c.lengths.result ≡ length_of width (joined (map term_of c.as_slice-parts.result.now)) = c.lengths.ensures.length ∙ sym (joined_long width (map term_of c.as_slice-parts.result.now)) in
    let P : ℕ → Type 0 = λ n. IsWidth n in
    (subst P (sym l) w, c.requires.context)

pub word-returns-in-Concat-clause-value : goal.word-returns-in-Concat-clause-value
word-returns-in-Concat-clause-value t c =
    let width = width_at c.args.m.now.vars in
    let x = word_at c.args.x.now in
    let n = c.args.n in
    let s = c.args.s in
    let ts : List Term = map term_of c.as_slice-parts.result.now in
    let is : term_of c.args.e.now ≡ joined ts =
    term_concat c.args.e.now c.in-Concat.list (sym c.get.ensures.value ∙ c.in-Concat.is) ∙ ap (λ p. joined (map term_of p)) (sym c.as_slice-parts.ensures.elements) in
    let whole : c.extended-in-Concat.result.bits ≡ low n (reading s c.lengths.result (low c.lengths.result (pos c.joined.result.bits))) = c.extended-in-Concat.ensures.value in
    whole ∙ ap (λ l. low n (reading s l (low l (pos c.joined.result.bits)))) c.lengths.ensures.length
    ∙ ap (λ v. low n (reading s (total_length width ts) (low (total_length width ts) (pos v)))) c.joined.ensures.word
    ∙ ap (λ r. r.word n s) (sym (joined_is width x ts)) ∙ ap (λ y. (sized false width x y).word n s) (sym is)

pub alone-returns-in-Cast-clause-word : goal.alone-returns-in-Cast-clause-word
alone-returns-in-Cast-clause-word t c =
    let width = width_at c.args.m.now.vars in
    let x = word_at c.args.x.now in
    let a = c.alone-a in
    let of : Term = term_of c.in-Cast.of in
    let is : term_of c.args.e.now ≡ term.Cast c.in-Cast.width of = term_cast c.args.e.now c.in-Cast.width c.in-Cast.of (sym c.get.ensures.value ∙ c.in-Cast.is) in
    cast_word width x of c.in-Cast.width c.resize.result.bits a.result.len a.result.word.bits a.result.signed c.resize.ensures.fits c.resize.ensures.word a.ensures.len a.ensures.signed a.ensures.word
    ∙ ap (λ y. value_of width x y) (sym is)

pub alone-returns-in-Sign-clause-word : goal.alone-returns-in-Sign-clause-word
alone-returns-in-Sign-clause-word t c =
    let width = width_at c.args.m.now.vars in
    let x = word_at c.args.x.now in
    let a = c.alone-a-in-Sign in
    let of : Term = term_of c.in-Sign.of in
    let is : term_of c.args.e.now ≡ term.Sign c.in-Sign.signed of = term_sign c.args.e.now c.in-Sign.signed c.in-Sign.of (sym c.get.ensures.value ∙ c.in-Sign.is) in
    sign_word width x of c.in-Sign.signed a.result.word.bits a.result.len a.ensures.fits a.ensures.len a.ensures.word ∙ ap (λ y. value_of width x y) (sym is)
