-- What the emitted statements do.
use Rattle.std.proofs.Common.{◌≡◌, ℕ, ◌<◌, ◌≤◌, ◌^◌, max, List, length, false, cond, ◌&&◌, Option, Some, None, ap, refl, sym, ◌∙◌, arith, pos, subst, inl, inr}
use Rattle.std.proofs.Math.Nat.{pow-le-pow_right, le-max_right}
use Rattle.std.proofs.lemmas.Bool.Decides.{eqb_tells}
use Rattle.scc_bits_kinds.specs.Numbers.{low, reading}
use Rattle.scc_bits_kinds.specs.Operators.{exact}
use Rattle.scc_bits_kinds.specs.declared.op.Op.{Op}
use Rattle.scc_bits_kinds.specs.declared.op.Op.TheVariants as op
use Rattle.scc_bits_kinds.proofs.Low.{low_low, low_word, low_less}
use Rattle.scc_svtree.specs.declared.expr.SvExpr.{SvExpr}
use Rattle.scc_svtree.specs.Term.{term_of}
use Rattle.scc_svtree.specs.Sizes.{Sized, sized, fixed, sized_binary, sized_context, sized_cast, assigned}
use Rattle.scc_thin.specs.declared.design.Port.{Port}
use Rattle.scc_thin.specs.declared.design.Put.{Put}
use Rattle.scc_thin.specs.declared.design.Second.{Second}
use Rattle.scc_thin.specs.declared.design.Bitwise.{Bitwise}
use Rattle.scc_thin.specs.declared.design.Bitwise.TheVariants as bitwise
use Rattle.scc_thin_module.specs.Emitted.{variable, cast, both, binary_of, resized, operand, value_of, value_width, width_of}
use Rattle.scc_thin.specs.Resolved.{is_output_at}
use Rattle.scc_thin_module.proofs.Putting.{joint, word_of, put_word, Within, SecondWithin}
use Rattle.scc_thin_module.proofs.Lasting.{IsSoundPut, SecondIsInput}
use Rattle.scc_thin_module.proofs.Terms.{term_variable, term_cast, term_both}

-- an expression without sign has this length and, in a context of a length, this word
abbrev Has : Sized → ℕ → ℕ → ℕ → Type 0
Has e len n v = (e.len ≡ len) × (e.signed ≡ false) × (e.word n false ≡ v)

-- what an assignment writes of an expression of this length and word
assigned_has : (e : Sized) (w len v : ℕ) → Has e len (max w len) v → assigned w e ≡ low w (pos v)
assigned_has e w len v h =
    ap (λ n. low w (pos (e.word (max w n) e.signed))) h.0 ∙ ap (λ s. low w (pos (e.word (max w len) s))) h.1 ∙ ap (λ n. low w (pos n)) h.2

-- what a size cast makes of it
cast_has : (e : Sized) (w len v : ℕ) → Has e len len v → sized_cast false w e ≡ fixed w false (low w (pos v))
cast_has e w len v h =
    ap (λ s. fixed w s (low w (reading s e.len (e.word e.len s)))) h.1
    ∙ ap (λ n. fixed w false (low w (pos (e.word n false)))) h.0 ∙ ap (λ n. fixed w false (low w (pos n))) h.2

fixed_has : (w n x : ℕ) → w ≤ n → Has (fixed w false x) w n (low w (pos x))
fixed_has w n x h = (refl, refl, low_word n (low w (pos x)) (let p : 2 ^ w ≤ 2 ^ n = pow-le-pow_right (omega arith) h in omega (arith, low_less w (pos x), p)))

-- what an assignment writes of a word that no context reaches into
assigned_fixed : (w v x : ℕ) → assigned w (fixed v false x) ≡ low w (pos (low v (pos x)))
assigned_fixed w v x = assigned_has (fixed v false x) w v (low v (pos x)) (fixed_has v (max w v) x (le-max_right w v))

module _ (width x : ℕ → ℕ) where
  abbrev pub sized_of : SvExpr → Sized
  sized_of e = sized false width x (term_of e)

  sized_variable : (i : ℕ) → sized_of (variable i) ≡ fixed (width i) false (x i)
  sized_variable i = ap (sized false width x) (term_variable i)

  sized_is_cast : (w : ℕ) (e : SvExpr) → sized_of (cast w e) ≡ sized_cast false w (sized_of e)
  sized_is_cast w e = ap (sized false width x) (term_cast w e)

  -- an assignment of a resized expression cuts its word
  pub assigned_resized : (from to v : ℕ) (e : SvExpr) → Has (sized_of e) from from v → (from ≡ to → Has (sized_of e) from (max to from) v) → v < 2 ^ from
      → assigned to (sized_of (resized from to e)) ≡ low to (pos v)
  assigned_resized from to v e h g b = elim (eqb_tells from to) [
    | inl p ↦ ap (λ t. assigned to (sized_of (cond t e (cast to e)))) p.0 ∙ assigned_has (sized_of e) to from v (g p.1)
    | inr p ↦ ap (λ t. assigned to (sized_of (cond t e (cast to e)))) p.0 ∙ ap (assigned to) (sized_is_cast to e ∙ cast_has (sized_of e) to from v h)
        ∙ assigned_fixed to to (low to (pos v)) ∙ low_low to to (pos (low to (pos v))) (omega arith) ∙ low_low to to (pos v) (omega arith)
  ]

  has_variable : (i n : ℕ) → width i ≤ n → x i < 2 ^ width i → Has (sized_of (variable i)) (width i) n (x i)
  has_variable i n h b = subst (λ s. Has s (width i) n (x i)) (sym (sized_variable i)) (has_word (fixed_has (width i) n (x i) h) (low_word (width i) (x i) b))
    where
      has_word : Has (fixed (width i) false (x i)) (width i) n (low (width i) (pos (x i))) → low (width i) (pos (x i)) ≡ x i → Has (fixed (width i) false (x i)) (width i) n (x i)
      has_word h e = (h.0, h.1, h.2 ∙ e)

  -- an operand of an operator has 64 bits
  has_operand : (ports : List Port) (i : ℕ) → width i ≡ width_of ports i → width i ≤ 64 → x i < 2 ^ width i → Has (sized_of (operand ports i)) 64 64 (low 64 (pos (x i)))
  has_operand ports i e h b = elim (eqb_tells (width_of ports i) 64) [
    | inl p ↦ subst (λ s. Has s 64 64 (low 64 (pos (x i)))) (sym (ap (λ t. sized_of (cond t (variable i) (cast 64 (variable i)))) p.0 ∙ sized_variable i ∙ ap (λ w. fixed w false (x i)) (e ∙ p.1)))
        (fixed_has 64 64 (x i) (omega arith))
    | inr p ↦ subst (λ s. Has s 64 64 (low 64 (pos (x i)))) (sym (ap (λ t. sized_of (cond t (variable i) (cast 64 (variable i)))) p.0 ∙ sized_is_cast 64 (variable i)
        ∙ cast_has (sized_of (variable i)) 64 (width i) (x i) (has_variable i (width i) (omega arith) b)))
        (has_low (fixed_has 64 64 (low 64 (pos (x i))) (omega arith)))
  ]
    where
      has_low : Has (fixed 64 false (low 64 (pos (x i)))) 64 64 (low 64 (pos (low 64 (pos (x i))))) → Has (fixed 64 false (low 64 (pos (x i)))) 64 64 (low 64 (pos (x i)))
      has_low h = (h.0, h.1, h.2 ∙ low_low 64 64 (pos (x i)) (omega arith))

  has_both : (o : Bitwise) (a b : SvExpr) (v w : ℕ) → Has (sized_of a) 64 64 (low 64 (pos v)) → Has (sized_of b) 64 64 (low 64 (pos w)) → Has (sized_of (both o a b)) 64 64 (joint o v w)
  has_both o a b v w g h = subst (λ s. Has s 64 64 (joint o v w)) (sym (ap (sized false width x) (term_both o a b))) (has_operator o (sized_of a) (sized_of b) g h)
    where
      context : (p : Op) (a b : Sized) → Has a 64 64 (low 64 (pos v)) → Has b 64 64 (low 64 (pos w)) → Has (sized_context p a b) 64 64 (low 64 (exact p 64 (pos (low 64 (pos v))) (pos (low 64 (pos w)))))
      context p a b g h = (
        ap (λ n. max n b.len) g.0 ∙ ap (max 64) h.0,
        ap (λ t. t && b.signed) g.1,
        ap (λ n. low 64 (exact p 64 (pos n) (pos (b.word 64 false)))) g.2 ∙ ap (λ n. low 64 (exact p 64 (pos (low 64 (pos v))) (pos n))) h.2,
      )

      has_operator : (o : Bitwise) (a b : Sized) → Has a 64 64 (low 64 (pos v)) → Has b 64 64 (low 64 (pos w)) → Has (sized_binary (binary_of o) a b) 64 64 (joint o v w)
      has_operator bitwise.And a b g h = context op.And a b g h
      has_operator bitwise.Or a b g h = context op.Or a b g h
      has_operator bitwise.Xor a b g h = context op.Xor a b g h

-- the words of the inputs fit
abbrev pub FitIn : List Port → (ℕ → ℕ) → Type 0
FitIn ports x = (i : ℕ) → i < length ports → is_output_at ports i ≡ false → x i < 2 ^ width_of ports i

abbrev pub FewBits : List Port → Type 0
FewBits ports = (i : ℕ) → width_of ports i ≤ 64

-- what the statement of a write gives its output
pub written_word : (ports : List Port) (x : ℕ → ℕ) (p : Put) → FewBits ports → FitIn ports x → Within (length ports) p → IsSoundPut ports p
    → assigned (width_of ports p.target) (sized_of (width_of ports) x (resized (value_width ports p.first p.second) (width_of ports p.target) (value_of ports p.first p.second))) ≡ put_word ports x p
written_word ports x p few fit w s = by_second p.second w.2 s.2
  where
    by_second : (r : Option Second) → SecondWithin (length ports) r → SecondIsInput ports r
        → assigned (width_of ports p.target) (sized_of (width_of ports) x (resized (value_width ports p.first r) (width_of ports p.target) (value_of ports p.first r)))
        ≡ low (width_of ports p.target) (pos (word_of x p.first r))
    by_second None v i =
        let b : x p.first < 2 ^ width_of ports p.first = fit p.first w.1 s.1 in
        assigned_resized (width_of ports) x (width_of ports p.first) (width_of ports p.target) (x p.first) (variable p.first)
        (has_variable (width_of ports) x p.first (width_of ports p.first) (omega arith) b)
        (λ e. has_variable (width_of ports) x p.first (max (width_of ports p.target) (width_of ports p.first)) (le-max_right _ _) b) b
    by_second (Some r) v i =
        let h = has_both (width_of ports) x r.op (operand ports p.first) (operand ports r.port) (x p.first) (x r.port)
        (has_operand (width_of ports) x ports p.first refl (few p.first) (fit p.first w.1 s.1))
        (has_operand (width_of ports) x ports r.port refl (few r.port) (fit r.port v i)) in
        assigned_resized (width_of ports) x 64 (width_of ports p.target) (joint r.op (x p.first) (x r.port)) (both r.op (operand ports p.first) (operand ports r.port))
        h (λ e. subst (λ t. Has (sized_of (width_of ports) x (both r.op (operand ports p.first) (operand ports r.port))) 64 (max t 64) (joint r.op (x p.first) (x r.port))) e h)
        (low_less 64 _)
