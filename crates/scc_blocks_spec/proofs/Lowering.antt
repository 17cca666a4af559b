-- A variable that is read and written as itself is lowered by the variable of its cell.
use Rattle.std.proofs.Common.{◌≡◌, ℕ, zero, suc, nat_eq, ◌<◌, ◌^◌, ◌||◌, Bool, false, true, Some, refl, sym, ap, ◌∙◌, subst, arith}
use Rattle.scc_bits_kinds.specs.Numbers.{low}
use Rattle.scc_bits_kinds.proofs.Low.{low_reading, low_less, low_word}
use Rattle.std.specs.Prelude.{pos}
use Rattle.scc_svtree.specs.Code as emitted_code
use Rattle.scc_svtree.specs.Sizes.{sized}
use Rattle.scc_svtree.specs.Running.{run}
use Rattle.scc_svtree.specs.Mentions.{assigns}
use Rattle.scc_svtree.proofs.Agree.{same_of_eq}
use Rattle.scc_core_spec.specs.Worked.{load}
use Rattle.scc_blocks_spec.specs.Acting.{Acting, with_word}
use Rattle.scc_blocks_spec.specs.Effect.{Effect, Fell, Left_out, Lost, effect}
use Rattle.scc_blocks_spec.specs.Lowered.{Gives, Fits, IsLoweredTerm, IsLoweredCode}
use Rattle.scc_blocks_spec.specs.Shown.{ShowsCell, Shows, top_number}
use Rattle.scc_blocks_spec.specs.WorkedLowered.{as_itself, eight, its_text, gives_three, three}

-- the one cell that is named
only : (P : ℕ → Type 0) → P 0 → (c : ℕ) → as_itself.mine c ≡ true → P c
only P a zero h = a
only P a (suc c) h = let z : nat_eq (suc c) 0 ≡ false = grind arith in let y : as_itself.mine (suc c) ≡ false = ap (λ b. b || false) z in absurd (cc)

pub term_is_lowered : IsLoweredTerm as_itself eight (load 0) emitted_code.End its_text
term_is_lowered = record { shows = λ a x f s. s; gives = gives; framed = λ v h. absurd (cc) }
  where
    gives : (a : Acting) (x : ℕ → ℕ) (w : ℕ) → Fits as_itself a → Shows as_itself a x → Some (a.now 0) ≡ Some w → Gives (sized false eight x its_text) 8 (Some w)
    gives a x w f s e = record { length = refl; unsigned = refl; value = ap Some word ∙ e }
      where
        small : x 0 < 2 ^ 8
        small = let P : ℕ → Type 0 = λ n. n < 2 ^ 8 in subst P (sym (s.cells 0 refl)) (f.words 0 refl)

        word : low 8 (pos (low 8 (pos (x 0)))) ≡ a.now 0
        word = low_reading false 8 (low 8 (pos (x 0))) (low_less 8 (pos (x 0))) ∙ low_word 8 (x 0) small ∙ s.cells 0 refl

pub code_is_lowered : IsLoweredCode as_itself eight three gives_three
code_is_lowered = record { shows = shows; framed = framed }
  where
    framed : (v : ℕ) → assigns gives_three v ≡ true → v < top_number
    framed v h = go (nat_eq 0 v) refl
      where
        go : (x : Bool) → nat_eq 0 v ≡ x → v < top_number
        go true x = let P : ℕ → Type 0 = λ v. v < top_number in subst P (same_of_eq 0 v x) (omega arith)
        go false x = let t : assigns gives_three v ≡ false = ap (λ x. x || false) x in absurd (cc)

    shows : (a b : Acting) (x : ℕ → ℕ) → Fits as_itself a → Shows as_itself a x → effect as_itself.cells three a ≡ Fell b → Shows as_itself b (run eight gives_three x)
    shows a b x f s e =
        let z : with_word 0 3 a ≡ b = ap of e in
        subst (λ b. Shows as_itself b (run eight gives_three x)) z (record { cells = only (λ c. ShowsCell (as_itself.view c) c (with_word 0 3 a) (run eight gives_three x)) refl; leaving = s.leaving })
      where
        of : Effect → Acting
        of (Fell b) = b
        of (Left_out n b) = b
        of Lost = a
