-- New numbers of cells, one cell after another.
use Rattle.std.proofs.Common.{◌≡◌, refl, arith, ℕ, ◌+◌, ◌<◌, min, Bool, true, false, List, [], ◌∷◌, ◌++◌, take, get_or, length, add-one, ap, ◌∙◌, sym, if◌then◌else◌}
use Rattle.std.proofs.Math.Seq.{take-suc}
use Rattle.scc_core.specs.declared.program.Cell.{Cell}
use Rattle.scc_pointers.specs.Resolved.{gone, new_numbers}
use Rattle.scc_pointers_walk.specs.Pointers.{is_pointer}

-- how many cells stay
abbrev pub stays : List Cell → ℕ
stays [] = 0
stays (c ∷ cs) = (if is_pointer c then 0 else 1) + stays cs

abbrev pub number_at : ℕ → Cell → ℕ
number_at n c = if is_pointer c then gone else min n gone

numbers_more : (n : ℕ) (cs : List Cell) (c : Cell) → new_numbers n (cs ++ c ∷ []) ≡ new_numbers n cs ++ number_at (n + stays cs) c ∷ []
numbers_more n [] c = by_pointer (is_pointer c)
  where
    by_pointer : (b : Bool) → ◌≡◌ {A = List ℕ} (if b then gone ∷ [] else min n gone ∷ []) ((if b then gone else min (n + 0) gone) ∷ [])
    by_pointer true = refl
    by_pointer false = ap (λ k. min k gone ∷ []) (let e : n ≡ n + 0 = omega arith in e)
numbers_more n (x ∷ xs) c = by_pointer (is_pointer x) (numbers_more n xs c) (numbers_more (n + 1) xs c)
  where
    by_pointer : (b : Bool) → new_numbers n (xs ++ c ∷ []) ≡ new_numbers n xs ++ number_at (n + stays xs) c ∷ []
        → new_numbers (n + 1) (xs ++ c ∷ []) ≡ new_numbers (n + 1) xs ++ number_at (n + 1 + stays xs) c ∷ []
        → ◌≡◌ {A = List ℕ} (if b then gone ∷ new_numbers n (xs ++ c ∷ []) else min n gone ∷ new_numbers (n + 1) (xs ++ c ∷ []))
        ((if b then gone ∷ new_numbers n xs else min n gone ∷ new_numbers (n + 1) xs) ++ number_at (n + ((if b then 0 else 1) + stays xs)) c ∷ [])
    by_pointer true e f = ap (λ l. gone ∷ l) e ∙ ap (λ k. gone ∷ (new_numbers n xs ++ number_at k c ∷ [])) (let g : n + stays xs ≡ n + (0 + stays xs) = omega arith in g)
    by_pointer false e f =
        ap (λ l. min n gone ∷ l) f
        ∙ ap (λ k. min n gone ∷ (new_numbers (n + 1) xs ++ number_at k c ∷ [])) (let g : n + 1 + stays xs ≡ n + (1 + stays xs) = omega arith in g)

stays_more : (cs : List Cell) (c : Cell) → stays (cs ++ c ∷ []) ≡ stays cs + (if is_pointer c then 0 else 1)
stays_more [] c = let e : (if is_pointer c then 0 else 1) + 0 ≡ 0 + (if is_pointer c then 0 else 1) = omega arith in e
stays_more (x ∷ xs) c =
    ap (λ n. (if is_pointer x then 0 else 1) + n) (stays_more xs c)
    ∙ (let e : (if is_pointer x then 0 else 1) + (stays xs + (if is_pointer c then 0 else 1)) ≡ ((if is_pointer x then 0 else 1) + stays xs) + (if is_pointer c then 0 else 1) = omega arith in e)

-- the numbers of so many cells, of which this is the next
pub with_next : (cs : List Cell) (i : ℕ) (c : Cell) → i < length cs → c ≡ get_or cs i c → new_numbers 0 (take (i + 1) cs) ≡ new_numbers 0 (take i cs) ++ number_at (stays (take i cs)) c ∷ []
with_next cs i c h is =
    ap (λ k. new_numbers 0 (take k cs)) (add-one i)
    ∙ ap (new_numbers 0) (take-suc cs i c h)
    ∙ ap (λ d. new_numbers 0 (take i cs ++ d ∷ [])) (sym is)
    ∙ numbers_more 0 (take i cs) c
    ∙ ap (λ k. new_numbers 0 (take i cs) ++ number_at k c ∷ []) (let e : 0 + stays (take i cs) ≡ stays (take i cs) = omega arith in e)

pub stays_next : (cs : List Cell) (i : ℕ) (c : Cell) → i < length cs → c ≡ get_or cs i c → stays (take (i + 1) cs) ≡ stays (take i cs) + (if is_pointer c then 0 else 1)
stays_next cs i c h is =
    ap (λ k. stays (take k cs)) (add-one i)
    ∙ ap stays (take-suc cs i c h)
    ∙ ap (λ d. stays (take i cs ++ d ∷ [])) (sym is)
    ∙ stays_more (take i cs) c

-- a count that stands still at its end
pub next_cut : (a n m : ℕ) → n ≡ min a gone → m ≡ min (n + 1) 4294967295 → m ≡ min (a + 1) gone
next_cut a n m e f = omega (arith, e, f)
