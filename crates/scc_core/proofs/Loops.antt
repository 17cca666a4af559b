-- What loops over parts keep.
use Rattle.std.proofs.Common.{◌≡◌, refl, ap, sym, ◌∙◌, ℕ, zero, suc, ◌+◌, ◌<◌, ◌≤◌, arith, Bool, true, false, ◌&&◌, List, [], ◌∷◌, map, drop, length, get_or, slice_get, add-one, Option, Some, None, option_map, option_and_then, if◌then◌else◌}
use Rattle.scc_core.specs.declared.places.NameStep.{NameStep}
use Rattle.scc_core.specs.declared.program.Cell.{Cell}
use Rattle.scc_core.specs.declared.program.CellName.{CellName}
use Rattle.scc_core.specs.Names.{are_steps, first_place, numbered, same_step, same_steps, sought, stands}
use Rattle.scc_bits.specs.Value.{Number}
use Rattle.scc_core.specs.Numbers.{above_all, all_joined}

-- numbers behind those that are joined already
abbrev pub joined_on : Option Number → List (Option Number) → Option Number
joined_on None ns = all_joined ns
joined_on (Some v) ns = above_all v ns

-- the first cell that stands there, counted from a number
abbrev pub sought_from : ℕ → List (Option NameStep) → CellName → List Cell → Option ℕ
sought_from n ss name [] = None
sought_from n ss name (c ∷ cs) = if stands ss name c then numbered n else sought_from (n + 1) ss name cs

one_on : (n : ℕ) (o : Option ℕ) → option_and_then (λ k. numbered (n + 1 + k)) o ≡ option_and_then (λ k. numbered (n + k)) (option_map suc o)
one_on n None = refl
one_on n (Some k) = let p : n + 1 + k ≡ n + suc k = omega arith in ap numbered p

if_here : (b : Bool) (n : ℕ) (later : Option ℕ) (o : Option ℕ) → later ≡ option_and_then (λ k. numbered (n + 1 + k)) o
    → (if b then numbered n else later) ≡ option_and_then (λ k. numbered (n + k)) (if b then Some 0 else option_map suc o)
if_here true n later o h = let p : n ≡ n + 0 = omega arith in ap numbered p
if_here false n later o h = h ∙ one_on n o

from_number : (n : ℕ) (ss : List (Option NameStep)) (name : CellName) (cells : List Cell)
    → sought_from n ss name cells ≡ option_and_then (λ k. numbered (n + k)) (first_place (stands ss name) cells)
from_number n ss name [] = refl
from_number n ss name (c ∷ cs) = if_here (stands ss name c) n (sought_from (n + 1) ss name cs) (first_place (stands ss name) cs) (from_number (n + 1) ss name cs)

from_none : (o : Option ℕ) → option_and_then (λ k. numbered (0 + k)) o ≡ option_and_then numbered o
from_none None = refl
from_none (Some k) = let p : 0 + k ≡ k = omega arith in ap numbered p

pub from_first : (ss : List (Option NameStep)) (name : CellName) (cells : List Cell) → sought_from 0 ss name cells ≡ sought ss name cells
from_first ss name cells = from_number 0 ss name cells ∙ from_none (first_place (stands ss name) cells)

-- steps of another number are others
unlike_long : (ss : List (Option NameStep)) (bs : List NameStep) → (length ss ≡ length bs → ⊥) → false ≡ are_steps ss bs
unlike_long [] [] h = absurd (h refl)
unlike_long [] (b ∷ bs) h = refl
unlike_long (None ∷ ss) [] h = refl
unlike_long (Some s ∷ ss) [] h = refl
unlike_long (None ∷ ss) (b ∷ bs) h = refl
unlike_long (Some s ∷ ss) (b ∷ bs) h = and_false (same_step s b) ∙ ap (λ x. same_step s b && x) (unlike_long ss bs (λ e. h (ap suc e)))
  where
    and_false : (x : Bool) → false ≡ (x && false)
    and_false true = refl
    and_false false = refl

-- from a place on, steps are compared one by one
steps_at : (k : ℕ) (ss : List (Option NameStep)) (bs : List NameStep) → k < length ss → length ss ≡ length bs
    → are_steps (drop k ss) (drop k bs) ≡ (same_steps (get_or ss k None) (slice_get bs k) && are_steps (drop (suc k) ss) (drop (suc k) bs))
steps_at k [] bs h l = absurd (omega arith)
steps_at k (s ∷ ss) [] h l = let p : suc (length ss) ≡ 0 = l in absurd (omega arith)
steps_at zero (None ∷ ss) (b ∷ bs) h l = refl
steps_at zero (Some s ∷ ss) (b ∷ bs) h l = refl
steps_at (suc k) (s ∷ ss) (b ∷ bs) h l =
    let p : k < length ss = omega arith in
    let q : suc (length ss) ≡ suc (length bs) = l in
    let r : length ss ≡ length bs = omega arith in
    steps_at k ss bs p r

steps_end : (k : ℕ) (ss : List (Option NameStep)) (bs : List NameStep) → length ss ≤ k → length ss ≡ length bs → are_steps (drop k ss) (drop k bs) ≡ true
steps_end zero [] [] h l = refl
steps_end (suc k) [] [] h l = refl
steps_end k [] (b ∷ bs) h l = let p : 0 ≡ suc (length bs) = l in absurd (omega arith)
steps_end k (s ∷ ss) [] h l = let p : suc (length ss) ≡ 0 = l in absurd (omega arith)
steps_end zero (s ∷ ss) (b ∷ bs) h l = absurd (omega arith)
steps_end (suc k) (s ∷ ss) (b ∷ bs) h l =
    let p : length ss ≤ k = omega arith in
    let q : suc (length ss) ≡ suc (length bs) = l in
    let r : length ss ≡ length bs = omega arith in
    steps_end k ss bs p r

mapped_long : {A B : Type 0} (f : A → B) (xs : List A) → length (map f xs) ≡ length xs
mapped_long f [] = refl
mapped_long f (x ∷ xs) = ap suc (mapped_long f xs)

mapped_at : {A B : Type 0} (f : A → B) (k : ℕ) (xs : List A) (x : A) (d : B) → k < length xs → x ≡ get_or xs k x → get_or (map f xs) k d ≡ f x
mapped_at f k [] x d h e = absurd (omega arith)
mapped_at f zero (y ∷ xs) x d h e = ap f (sym e)
mapped_at f (suc k) (y ∷ xs) x d h e = let p : k < length xs = omega arith in mapped_at f k xs x d p e

module _ {A B : Type 0} (p : B → Option NameStep) (q : A → B) (parts : List A) (bs : List NameStep) where
  abbrev steps : List (Option NameStep)
  steps = map p (map q parts)

  steps_long : length steps ≡ length parts
  steps_long = mapped_long p (map q parts) ∙ mapped_long q parts

  pub others : (length bs ≡ length parts → ⊥) → false ≡ are_steps steps bs
  others h = unlike_long steps bs (λ e. h (sym e ∙ steps_long))

  part_at : (k : ℕ) (x : A) → length bs ≡ length parts → k < length parts → x ≡ get_or parts k x
      → are_steps (drop k steps) (drop k bs) ≡ (same_steps (p (q x)) (slice_get bs k) && are_steps (drop (k + 1) steps) (drop (k + 1) bs))
  part_at k x long h e =
      let a : length steps ≡ length parts = steps_long in
      let b : k < length steps = omega arith in
      let m : k < length (map q parts) = let n : length (map q parts) ≡ length parts = mapped_long q parts in omega arith in
      steps_at k steps bs b (a ∙ sym long)
      ∙ ap (λ y. same_steps y (slice_get bs k) && are_steps (drop (suc k) steps) (drop (suc k) bs)) (mapped_at p k (map q parts) (q x) None m (sym (mapped_at q k parts x (q x) h e)))
      ∙ ap (λ n. same_steps (p (q x)) (slice_get bs k) && are_steps (drop n steps) (drop n bs)) (sym (add-one k))

  pub no_part : (k : ℕ) → length bs ≡ length parts → length parts ≤ k → are_steps (drop k steps) (drop k bs) ≡ true
  no_part k long h =
      let a : length steps ≡ length parts = steps_long in
      let b : length steps ≤ k = omega arith in
      steps_end k steps bs b (a ∙ sym long)

  module _ (k : ℕ) (x : A) (s o : Option NameStep) (long : length bs ≡ length parts) (h : k < length parts) (e : x ≡ get_or parts k x) (is : s ≡ p (q x)) (stands : o ≡ slice_get bs k) where
    one_step : are_steps (drop k steps) (drop k bs) ≡ (same_steps s o && are_steps (drop (k + 1) steps) (drop (k + 1) bs))
    one_step =
        part_at k x long h e ∙ ap (λ y. same_steps y (slice_get bs k) && are_steps (drop (k + 1) steps) (drop (k + 1) bs)) (sym is)
        ∙ ap (λ y. same_steps s y && are_steps (drop (k + 1) steps) (drop (k + 1) bs)) (sym stands)

    pub other_step : false ≡ same_steps s o → false ≡ are_steps (drop k steps) (drop k bs)
    other_step f = ap (λ b. b && are_steps (drop (k + 1) steps) (drop (k + 1) bs)) f ∙ sym one_step

    pub same_step_on : true ≡ same_steps s o → are_steps (drop (k + 1) steps) (drop (k + 1) bs) ≡ are_steps (drop k steps) (drop k bs)
    same_step_on f = ap (λ b. b && are_steps (drop (k + 1) steps) (drop (k + 1) bs)) f ∙ sym one_step
