-- Locations that are the same are equal; whose a root is; words that stay proper.
use Rattle.std.proofs.Common.{◌≡◌, ℕ, ◌+◌, ◌<◌, List, [], ◌∷◌, ◌++◌, Bool, true, false, ◌&&◌, nat_eq, Option, Some, None, ap, refl, sym, subst, arith, if◌then◌else◌}
use Rattle.scc_semantics.specs.Location.{Location, Part, Member, Element, Root, Top, Local, Answer, same_part, same_path, same_calls, same_root, same}
use Rattle.scc_semantics.specs.Store.{Request, changed, updated}
use Rattle.scc_semantics.specs.Design.{Design}
use Rattle.scc_semantics.specs.Run.{AllFit, set_inputs}
use Rattle.scc_semantics.specs.Start.{IsProper, HoldsConstant}
use Rattle.scc_semantics.specs.Same.{is_own, is_others, same_target}
use Rattle.scc_semantics.specs.Steady.{IsProperAt, AllProperRequests}
use Rattle.scc_semantics_laws.proofs.Blind.{and-first, and-second}

nat_eq-is : (m n : ℕ) → nat_eq m n ≡ true → m ≡ n
nat_eq-is m n e = grind arith

same_part-is : (a b : Part) → same_part a b ≡ true → a ≡ b
same_part-is (Member a) (Member b) e = ap Member (nat_eq-is a b e)
same_part-is (Element a) (Element b) e = ap Element (nat_eq-is a b e)
same_part-is (Member a) (Element b) e = cc
same_part-is (Element a) (Member b) e = cc

same_path-is : (p q : List Part) → same_path p q ≡ true → p ≡ q
same_path-is [] [] e = refl
same_path-is (a ∷ p) (b ∷ q) e = λ i. same_part-is a b (and-first (same_part a b) (same_path p q) e) i ∷ same_path-is p q (and-second (same_part a b) (same_path p q) e) i
same_path-is [] (b ∷ q) e = cc
same_path-is (a ∷ p) [] e = cc

same_calls-is : (p q : List ℕ) → same_calls p q ≡ true → p ≡ q
same_calls-is [] [] e = refl
same_calls-is (a ∷ p) (b ∷ q) e = λ i. nat_eq-is a b (and-first (nat_eq a b) (same_calls p q) e) i ∷ same_calls-is p q (and-second (nat_eq a b) (same_calls p q) e) i
same_calls-is [] (b ∷ q) e = cc
same_calls-is (a ∷ p) [] e = cc

same_root-is : (r q : Root) → same_root r q ≡ true → r ≡ q
same_root-is Top Top e = refl
same_root-is (Local p c d) (Local q k f) e =
    let h = and-first (nat_eq p q && same_calls c k) (nat_eq d f) e in
    λ i. Local (nat_eq-is p q (and-first (nat_eq p q) (same_calls c k) h) i) (same_calls-is c k (and-second (nat_eq p q) (same_calls c k) h) i)
    (nat_eq-is d f (and-second (nat_eq p q && same_calls c k) (nat_eq d f) e) i)
same_root-is (Answer p c) (Answer q k) e = λ i. Answer (nat_eq-is p q (and-first (nat_eq p q) (same_calls c k) e) i) (same_calls-is c k (and-second (nat_eq p q) (same_calls c k) e) i)
same_root-is Top (Local q k f) e = cc
same_root-is Top (Answer q k) e = cc
same_root-is (Local p c d) Top e = cc
same_root-is (Local p c d) (Answer q k) e = cc
same_root-is (Answer p c) Top e = cc
same_root-is (Answer p c) (Local q k f) e = cc

pub same-is : (l m : Location) → same l m ≡ true → l ≡ m
same-is l m e = λ i. record {
  root = same_root-is l.root m.root (and-first (same_root l.root m.root) (same_path l.path m.path) e) i;
  path = same_path-is l.path m.path (and-second (same_root l.root m.root) (same_path l.path m.path) e) i;
}

nat_eq-self : (n : ℕ) → nat_eq n n ≡ true
nat_eq-self n = grind arith

same_part-self : (p : Part) → same_part p p ≡ true
same_part-self (Member n) = nat_eq-self n
same_part-self (Element n) = nat_eq-self n

both : (a b : Bool) → a ≡ true → b ≡ true → (a && b) ≡ true
both true b e f = f
both false b e f = e

same_path-self : (p : List Part) → same_path p p ≡ true
same_path-self [] = refl
same_path-self (a ∷ p) = both (same_part a a) (same_path p p) (same_part-self a) (same_path-self p)

same_calls-self : (p : List ℕ) → same_calls p p ≡ true
same_calls-self [] = refl
same_calls-self (a ∷ p) = both (nat_eq a a) (same_calls p p) (nat_eq-self a) (same_calls-self p)

same_root-self : (r : Root) → same_root r r ≡ true
same_root-self Top = refl
same_root-self (Local p c d) = both (nat_eq p p && same_calls c c) (nat_eq d d) (both (nat_eq p p) (same_calls c c) (nat_eq-self p) (same_calls-self c)) (nat_eq-self d)
same_root-self (Answer p c) = both (nat_eq p p) (same_calls c c) (nat_eq-self p) (same_calls-self c)

pub same-self : (l : Location) → same l l ≡ true
same-self l = both (same_root l.root l.root) (same_path l.path l.path) (same_root-self l.root) (same_path-self l.path)

pub target-is : (o q : Option Location) → same_target o q ≡ true → o ≡ q
target-is None None e = refl
target-is (Some l) (Some m) e = ap Some (same-is l m e)
target-is None (Some m) e = cc
target-is (Some l) None e = cc

pub target-self : (o : Option Location) → same_target o o ≡ true
target-self None = refl
target-self (Some l) = same-self l

-- the root is the top's or a process's below this one
abbrev pub Below : ℕ → Root → Type 0
Below i Top = Unit {0}
Below i (Local j calls n) = j < i
Below i (Answer j calls) = j < i

pub below-not-own : (i : ℕ) (r : Root) → Below i r → is_own i r ≡ false
below-not-own i Top h = refl
below-not-own i (Local j calls n) h = grind arith
below-not-own i (Answer j calls) h = grind arith

pub below-next : (i : ℕ) (r : Root) → Below i r → Below (i + 1) r
below-next i Top h = tt
below-next i (Local j calls n) h = omega arith
below-next i (Answer j calls) h = omega arith

pub seen-below : (i : ℕ) (r : Root) → is_others i r ≡ false → Below (i + 1) r
seen-below i Top h = tt
seen-below i (Local j calls n) h = grind arith
seen-below i (Answer j calls) h = grind arith

pub seen-not-own : (i j : ℕ) (r : Root) → i < j → is_others j r ≡ false → is_own i r ≡ false
seen-not-own i j Top l h = refl
seen-not-own i j (Local n calls m) l h = grind arith
seen-not-own i j (Answer n calls) l h = grind arith

pub proper-at : (d : Design) (w : Location → ℕ) → IsProper d w → (l : Location) → IsProperAt d l (w l)
proper-at d w h l = record { fits = h.fits l; fixed = h.fixed l; constants = h.constants l }

pub proper-by : (d : Design) (w : Location → ℕ) → ((l : Location) → IsProperAt d l (w l)) → IsProper d w
proper-by d w h = record { fits = λ l. (h l).fits; fixed = λ l. (h l).fixed; constants = λ l. (h l).constants }

pub changed-proper : (d : Design) (w : Location → ℕ) (l : Location) (x : ℕ) → IsProper d w → IsProperAt d l x → IsProper d (changed l x w)
changed-proper d w l x h p = proper-by d (changed l x w) (λ m. at m (same l m) refl)
  where
    at : (m : Location) (b : Bool) → same l m ≡ b → IsProperAt d m (if b then x else w m)
    at m true e = subst (λ n. IsProperAt d n x) (same-is l m e) p
    at m false e = proper-at d w h m

pub updated-proper : (d : Design) (rs : List Request) (w : Location → ℕ) → IsProper d w → AllProperRequests d rs → IsProper d (updated rs w)
updated-proper d [] w h p = h
updated-proper d (r ∷ rs) w h p = updated-proper d rs (changed r.root r.word w) (changed-proper d w r.root r.word h p.0) p.1

pub append-proper : (d : Design) (rs qs : List Request) → AllProperRequests d rs → AllProperRequests d qs → AllProperRequests d (rs ++ qs)
append-proper d [] qs h p = p
append-proper d (r ∷ rs) qs h p = (h.0, append-proper d rs qs h.1 p)

-- locations without constants
abbrev pub AllFree : Design → List Location → Type 0
AllFree d [] = Unit {0}
AllFree d (l ∷ ls) = (d.fixed l ≡ None) × (d.constant l ≡ None) × AllFree d ls

pub inputs-proper : (d : Design) (ls : List Location) (xs : List ℕ) (w : Location → ℕ) → AllFree d ls → AllFit d ls xs → IsProper d w → IsProper d (set_inputs ls xs w)
inputs-proper d [] [] w free fit h = h
inputs-proper d [] (x ∷ xs) w free fit h = absurd fit
inputs-proper d (l ∷ ls) [] w free fit h = absurd fit
inputs-proper d (l ∷ ls) (x ∷ xs) w free fit h = inputs-proper d ls xs (changed l x w) free.2 fit.1 (changed-proper d w l x h
    (record { fits = fit.0; fixed = subst (λ o. HoldsConstant o x) (sym free.0) tt; constants = subst (λ o. HoldsConstant o x) (sym free.1) tt }))
