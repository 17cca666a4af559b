-- The statements of an emitted module: each assigns an output a value of inputs, with right sizes.
use Rattle.std.proofs.Common.{◌≡◌, ℕ, zero, suc, ◌+◌, ◌<◌, ◌^◌, List, [], ◌∷◌, ◌++◌, map, length, Bool, true, false, cond, ◌&&◌, ◌||◌, nat_eq, Option, Some, None, ap, refl, sym, ◌∙◌, arith, pos, subst, inl, inr, ◌⊎◌}
use Rattle.std.proofs.lemmas.Bool.Decides.{eqb_tells}
use Rattle.scc_bits_kinds.proofs.Low.{low_less}
use Rattle.scc_svtree.specs.declared.expr.SvExpr.{SvExpr, fold-roll-SvExpr}
use Rattle.scc_svtree.specs.declared.expr.SvExprNode.{roll-SvExprNode, fold-roll-SvExprNode}
use Rattle.scc_svtree.specs.declared.expr.SvExprNode.TheOpen as node
use Rattle.scc_svtree.specs.declared.expr.SvLeft.TheVariants.{Whole}
use Rattle.scc_svtree.specs.declared.stmt.SvStmt.{SvStmt}
use Rattle.scc_svtree.specs.Concats.{expr_concats, node_concats}
use Rattle.scc_svtree.specs.Mentions.{reads}
use Rattle.scc_svtree.specs.Sized.{IsSized, HasDivisor}
use Rattle.scc_svtree.specs.Sound.{Each}
use Rattle.scc_svtree.specs.Classes.{class_of}
use Rattle.scc_svtree.specs.Term.{Term, term_of}
use Rattle.scc_svtree.specs.Variables.{IsWidth}
use Rattle.scc_thin.specs.declared.design.Bitwise.{Bitwise}
use Rattle.scc_thin.specs.declared.design.Bitwise.TheVariants as bitwise
use Rattle.scc_thin.specs.declared.design.Port.{Port}
use Rattle.scc_thin.specs.declared.design.Put.{Put}
use Rattle.scc_thin.specs.declared.design.Second.{Second}
use Rattle.scc_thin_module.specs.Emitted.{variable, cast, zero_of, both, binary_of, resized, operand, value_of, value_width, width_of, assign, put_stmt, zeros_from}
use Rattle.scc_thin.specs.Resolved.{is_output_at}
use Rattle.scc_thin_module.proofs.Lasting.{SecondIsInput, AllSoundPuts}
use Rattle.scc_thin_module.proofs.Putting.{SecondWithin, AllWithin}
use Rattle.scc_thin_module.proofs.Terms.{term_zero, term_variable, term_cast, term_both}

pub each_append : {A : Type 0} (P : A → Type 0) (xs ys : List A) → Each P xs → Each P ys → Each P (xs ++ ys)
each_append P [] ys h g = g
each_append P (x ∷ xs) ys h g = (h.0, each_append P xs ys h.1 g)

pub or_cases : (a b : Bool) → (a || b) ≡ true → (a ≡ true) ⊎ (b ≡ true)
or_cases true b e = inl refl
or_cases false b e = inr e

pub eq_true : (a b : ℕ) → nat_eq a b ≡ true → a ≡ b
eq_true a b e = elim (eqb_tells a b) [ inl p ↦ p.1 | inr p ↦ absurd (let f : true ≡ false = sym e ∙ p.0 in cc) ]

some_bits : (w : ℕ) → 0 < 2 ^ w
some_bits w = omega (arith, low_less w (pos 0))

-- the concatenations of an emitted expression, of which there are none
concats_zero : (w : ℕ) → expr_concats (zero_of w) ≡ true
concats_zero w =
    fold-roll-SvExpr Bool Bool node_concats (λ e. e.node) (record { node = roll-SvExprNode (node.Literal (record { width = w; value = record { bits = 0 } })) })
    ∙ fold-roll-SvExprNode Bool Bool node_concats (λ e. e.node) (node.Literal (record { width = w; value = record { bits = 0 } }))

concats_variable : (i : ℕ) → expr_concats (variable i) ≡ true
concats_variable i =
    fold-roll-SvExpr Bool Bool node_concats (λ e. e.node) (record { node = roll-SvExprNode (node.Left (Whole (record { 0 = i }))) })
    ∙ fold-roll-SvExprNode Bool Bool node_concats (λ e. e.node) (node.Left (Whole (record { 0 = i })))

concats_cast : (w : ℕ) (e : SvExpr) → expr_concats (cast w e) ≡ expr_concats e
concats_cast w e =
    fold-roll-SvExpr Bool Bool node_concats (λ e. e.node) (record { node = roll-SvExprNode (node.Cast w e) }) ∙ fold-roll-SvExprNode Bool Bool node_concats (λ e. e.node) (node.Cast w e)

concats_both : (o : Bitwise) (a b : SvExpr) → expr_concats (both o a b) ≡ (expr_concats a && expr_concats b)
concats_both o a b =
    fold-roll-SvExpr Bool Bool node_concats (λ e. e.node) (record { node = roll-SvExprNode (node.Binary (binary_of o) a b) })
    ∙ fold-roll-SvExprNode Bool Bool node_concats (λ e. e.node) (node.Binary (binary_of o) a b)

no_divisor : (o : Bitwise) (t : Term) → HasDivisor (class_of (binary_of o)) t
no_divisor bitwise.And t = tt
no_divisor bitwise.Or t = tt
no_divisor bitwise.Xor t = tt

pub wide_at : (ps : List Port) → Each (λ p. IsWidth p.width) ps → (i : ℕ) → i < length ps → IsWidth (width_of ps i)
wide_at [] h i b = absurd (omega arith)
wide_at (p ∷ ps) h zero b = h.0
wide_at (p ∷ ps) h (suc i) b = wide_at ps h.1 i (omega arith)

module _ (ports : List Port) (wide : Each (λ p. IsWidth p.width) ports) where
  -- inputs alone are read
  abbrev pub ReadsInputs : Term → Type 0
  ReadsInputs t = (v : ℕ) → reads t v ≡ true → (v < length ports) × (is_output_at ports v ≡ false)

  pub record IsFine (e : SvExpr) : Type 0 where
    pub sized : IsSized (width_of ports) (term_of e)
    pub concats : expr_concats e ≡ true
    pub inputs : ReadsInputs (term_of e)

  fine_zero : (w : ℕ) → IsWidth w → IsFine (zero_of w)
  fine_zero w h = record {
    sized = subst (IsSized (width_of ports)) (sym (term_zero w)) (h, some_bits w);
    concats = concats_zero w;
    inputs = subst ReadsInputs (sym (term_zero w)) (λ v e. cc);
  }

  fine_variable : (i : ℕ) → i < length ports → is_output_at ports i ≡ false → IsFine (variable i)
  fine_variable i h e = record {
    sized = subst (IsSized (width_of ports)) (sym (term_variable i)) (wide_at ports wide i h);
    concats = concats_variable i;
    inputs = subst ReadsInputs (sym (term_variable i)) (λ v f. let g = eq_true i v f in (subst (λ n. n < length ports) g h, subst (λ n. is_output_at ports n ≡ false) g e));
  }

  fine_cast : (w : ℕ) (e : SvExpr) → IsWidth w → IsFine e → IsFine (cast w e)
  fine_cast w e h f = record {
    sized = subst (IsSized (width_of ports)) (sym (term_cast w e)) (h, f.sized);
    concats = concats_cast w e ∙ f.concats;
    inputs = subst ReadsInputs (sym (term_cast w e)) f.inputs;
  }

  fine_both : (o : Bitwise) (a b : SvExpr) → IsFine a → IsFine b → IsFine (both o a b)
  fine_both o a b f g = record {
    sized = subst (IsSized (width_of ports)) (sym (term_both o a b)) (f.sized, g.sized, no_divisor o (term_of b));
    concats = concats_both o a b ∙ ap (λ c. c && expr_concats b) f.concats ∙ g.concats;
    inputs = subst ReadsInputs (sym (term_both o a b)) (λ v e. elim (or_cases (reads (term_of a) v) (reads (term_of b) v) e) [ inl p ↦ f.inputs v p | inr p ↦ g.inputs v p ]);
  }

  fine_resized : (from to : ℕ) (e : SvExpr) → IsWidth to → IsFine e → IsFine (resized from to e)
  fine_resized from to e h f = by _
    where
      by : (b : Bool) → IsFine (cond b e (cast to e))
      by true = f
      by false = fine_cast to e h f

  fine_operand : (i : ℕ) → i < length ports → is_output_at ports i ≡ false → IsFine (operand ports i)
  fine_operand i h e = fine_resized (width_of ports i) 64 (variable i) (omega arith, omega arith) (fine_variable i h e)

  fine_value : (i : ℕ) (s : Option Second) → i < length ports → is_output_at ports i ≡ false → SecondWithin (length ports) s → SecondIsInput ports s → IsFine (value_of ports i s)
  fine_value i None h e w r = fine_variable i h e
  fine_value i (Some s) h e w r = fine_both s.op (operand ports i) (operand ports s.port) (fine_operand i h e) (fine_operand s.port w r)

  -- an assignment of a value to an output
  pub record IsPlain (s : SvStmt) : Type 0 where
    pub target : ℕ
    pub value : SvExpr
    pub is : s ≡ assign target value
    pub output : is_output_at ports target ≡ true
    pub within : target < length ports
    pub fine : IsFine value

  plain_puts : (puts : List Put) → AllWithin (length ports) puts → AllSoundPuts ports puts → Each IsPlain (map (put_stmt ports) puts)
  plain_puts [] w s = tt
  plain_puts (p ∷ puts) w s = (
    record {
      target = p.target;
      value = resized (value_width ports p.first p.second) (width_of ports p.target) (value_of ports p.first p.second);
      is = refl;
      output = s.0.0;
      within = w.0.0;
      fine = fine_resized (value_width ports p.first p.second) (width_of ports p.target) (value_of ports p.first p.second) (wide_at ports wide p.target w.0.0)
          (fine_value p.first p.second w.0.1 s.0.1 w.0.2 s.0.2);
    },
    plain_puts puts w.1 s.1,
  )

  -- the ports from a number on
  abbrev From : ℕ → List Port → Type 0
  From i qs = (k : ℕ) → is_output_at ports (i + k) ≡ is_output_at qs k

  plain_zeros : (i : ℕ) (qs : List Port) → From i qs → i + length qs ≡ length ports → Each (λ p. IsWidth p.width) qs → Each IsPlain (zeros_from i qs)
  plain_zeros i [] f n h = tt
  plain_zeros i (q ∷ qs) f n h = by_output q.output refl (plain_zeros (i + 1) qs (λ k. ap (is_output_at ports) (omega arith) ∙ f (suc k)) (omega arith) h.1)
    where
      here : is_output_at ports i ≡ q.output
      here = ap (is_output_at ports) (let e : i ≡ i + 0 = omega arith in e) ∙ f 0

      by_output : (b : Bool) → q.output ≡ b → Each IsPlain (zeros_from (i + 1) qs) → Each IsPlain (cond b (assign i (zero_of q.width) ∷ zeros_from (i + 1) qs) (zeros_from (i + 1) qs))
      by_output false e more = more
      by_output true e more =
          (record { target = i; value = zero_of q.width; is = refl; output = here ∙ e; within = omega (arith, n); fine = fine_zero q.width h.0 }, more)

  -- the statements of the block
  pub plain_stmts : (puts : List Put) → AllWithin (length ports) puts → AllSoundPuts ports puts → Each IsPlain (zeros_from 0 ports ++ map (put_stmt ports) puts)
  plain_stmts puts w s =
      each_append IsPlain (zeros_from 0 ports) (map (put_stmt ports) puts) (plain_zeros 0 ports (λ k. ap (is_output_at ports) (omega arith)) (omega arith) wide) (plain_puts puts w s)
