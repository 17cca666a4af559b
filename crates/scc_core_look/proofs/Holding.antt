-- Cells that hold what they may.
use Rattle.std.proofs.Common.{◌≡◌, refl, arith, ℕ, zero, suc, ◌+◌, ◌<◌, ◌≤◌, ◌^◌, Bool, true, false, ◌&&◌, List, [], ◌∷◌, ◌++◌, take, get_or, length, add-one, Option, Some, None, slice_get, ap, ◌∙◌, sym, subst}
use Rattle.std.proofs.Math.Seq.{take-suc}
use Rattle.scc_core.specs.declared.program.Cell.{Cell}
use Rattle.scc_core_view.specs.Whole.{AreWholeCells}
use Rattle.scc_core_look.specs.Own.{is_name}
use Rattle.scc_core_look.specs.Wholes.{AreHeld, IsHeld}
use Rattle.scc_core_look.proofs.Apart.{first, second, nil-is}

same-some : {A : Type 0} {a b : A} → Some a ≡ Some b → a ≡ b
same-some e = cc

one-more : (xs : List Cell) (x : Cell) → AreHeld xs → IsHeld x → AreHeld (xs ++ x ∷ [])
one-more [] x h held zero c e = subst IsHeld (same-some e) held
one-more [] x h held (suc n) c e = absurd cc
one-more (y ∷ xs) x h held zero c e = h 0 c e
one-more (y ∷ xs) x h held (suc n) c e = one-more xs x (λ m d f. h (suc m) d f) held n c e

pub none-held : AreHeld []
none-held n c e = absurd cc

pub held-on : (xs : List Cell) (i : ℕ) (x : Cell) → i < length xs → x ≡ get_or xs i x → (all one now : Bool) → (all ≡ true → AreHeld (take i xs)) → (one ≡ true → IsHeld x) → now ≡ (all && one) → now ≡ true → AreHeld (take (i + 1) xs)
held-on xs i x h is all one now k l m t =
    let w : (all && one) ≡ true = sym m ∙ t in
    subst AreHeld (sym (ap (λ n. take n xs) (add-one i) ∙ take-suc xs i x h ∙ ap (λ x. take i xs ++ x ∷ []) (sym is))) (one-more (take i xs) x (k (first all one w)) (l (second all one w)))

pub named : (c : Cell) → is_name c.name ≡ true → c.name.local ≡ None → c.name.indices ≡ []
named c e f = nil-is c.name.indices c.name f refl e

pub whole-cells : (xs ys zs : List Cell) (few held both : Bool) → ys ≡ xs → zs ≡ xs → (few ≡ true → length ys ≤ 2 ^ 32) → (held ≡ true → AreHeld zs) → both ≡ (few && held) → both ≡ true → AreWholeCells xs
whole-cells xs ys zs few held both is same f h m t =
    let w : (few && held) ≡ true = sym m ∙ t in
    let all = subst AreHeld same (h (second few held w)) in
    record { count = subst (λ cs. length cs ≤ 2 ^ 32) is (f (first few held w)); names = λ n c e. (all n c e).name; words = λ n c e. (all n c e).word }
