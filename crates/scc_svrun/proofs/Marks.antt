-- Marks of the variables that are clocks.
use Rattle.std.proofs.Common.{◌≡◌, ◌<◌, ◌+◌, ℕ, zero, suc, nat_eq, Bool, true, false, ◌||◌, List, [], ◌∷◌, length, drop, drop-cons, add-one, get_or, refl, sym, ap, ◌∙◌, arith}
use Rattle.std.specs.Prelude.{Option}
use Rattle.scc_svtree.specs.declared.expr.VarId.{VarId}
use Rattle.scc_svtree.specs.declared.module.SvBlock.{SvBlock}
use Rattle.scc_svtree.specs.declared.module.SvBlock.TheVariants.{Comb, Edge}
use Rattle.scc_svtree.specs.declared.module.SvReset.{SvReset}
use Rattle.scc_svtree.specs.declared.module.SvSet.{SvSet}
use Rattle.scc_svtree.specs.declared.stmt.SvStmt.{SvStmt}
use Rattle.scc_svtree.specs.Steps.{is_clock}
use Rattle.scc_svtree.proofs.Agree.{eq_flip}

-- the blocks from here on are this one and those behind it
front : (bs : List SvBlock) (i : ℕ) (b : SvBlock) → i < length bs → b ≡ get_or bs i b → drop i bs ≡ b ∷ drop (i + 1) bs
front bs i b h is = drop-cons bs i b h ∙ ap (λ d. d ∷ drop (suc i) bs) (sym is) ∙ ap (λ k. b ∷ drop k bs) (sym (add-one i))

same_both : (u v : ℕ) → nat_eq u v ≡ nat_eq v u
same_both u v = go (nat_eq u v) refl (nat_eq v u) refl
  where
    go : (a : Bool) → nat_eq u v ≡ a → (b : Bool) → nat_eq v u ≡ b → nat_eq u v ≡ nat_eq v u
    go true e true f = e ∙ sym f
    go false e false f = e ∙ sym f
    go true e false f = let g : nat_eq v u ≡ true = eq_flip u v e in absurd (cc)
    go false e true f = let g : nat_eq u v ≡ true = eq_flip v u f in absurd (cc)

moved : (a s r : Bool) → ((a || s) || r) ≡ (s || (a || r))
moved true true r = refl
moved true false r = refl
moved false s r = refl

module _ (bs : List SvBlock) (i : ℕ) (b : SvBlock) (h : i < length bs) (is : b ≡ get_or bs i b) (v : ℕ) (old all : Bool) (e : (old || is_clock (drop i bs) v) ≡ all) where
  pub no_mark : (ss : List SvStmt) → b ≡ Comb ss → (old || is_clock (drop (i + 1) bs) v) ≡ all
  no_mark ss c = ap (λ x. old || is_clock (x ∷ drop (i + 1) bs) v) (sym c) ∙ ap (λ l. old || is_clock l v) (sym (front bs i b h is)) ∙ e

  pub one_mark : (rising : Bool) (clock : VarId) (reset : Option SvReset) (sets : List SvSet) (new : Bool) → b ≡ Edge rising clock reset sets → new ≡ (nat_eq v clock.0 || old) → (new || is_clock (drop (i + 1) bs) v) ≡ all
  one_mark rising clock reset sets new c m =
      ap (λ n. n || is_clock (drop (i + 1) bs) v) m ∙ moved (nat_eq v clock.0) old (is_clock (drop (i + 1) bs) v)
      ∙ ap (λ n. old || (n || is_clock (drop (i + 1) bs) v)) (same_both v clock.0)
      ∙ ap (λ x. old || is_clock (x ∷ drop (i + 1) bs) v) (sym c) ∙ ap (λ l. old || is_clock l v) (sym (front bs i b h is)) ∙ e

pub none_more : (bs : List SvBlock) (n v : ℕ) (old all : Bool) → length bs ≡ n → (old || is_clock (drop n bs) v) ≡ all → old ≡ all
none_more bs n v old all l e = sym (or_false old) ∙ ap (λ q. old || is_clock q v) (sym (gone bs n l)) ∙ e
  where
    or_false : (b : Bool) → (b || false) ≡ b
    or_false true = refl
    or_false false = refl

    gone : (bs : List SvBlock) (n : ℕ) → length bs ≡ n → drop n bs ≡ []
    gone [] zero l = refl
    gone [] (suc n) l = refl
    gone (b ∷ bs) zero l = absurd (omega arith)
    gone (b ∷ bs) (suc n) l = gone bs n (omega arith)
