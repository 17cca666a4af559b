-- What is known of functions stays, and in the end stands still.
use Rattle.std.proofs.Common.{◌≡◌, refl, sym, ap, subst, ◌∙◌, arith, ℕ, zero, suc, ◌≤◌, Bool, true, false, nat_eq, List, [], ◌∷◌, ◌++◌, map, length, Option, Some, None, slice_get, Result, OnOk}
use Rattle.scc_elab_spec.specs.Program.{Function, Plain}
use Rattle.scc_plain_tree.specs.declared.program.Plain.{Plain as Tree}
use Rattle.scc_plain_view.specs.Plains.{plain_of, function_of}
use Rattle.scc_inline_size_laws.specs.Counts.{deep, height_in, many, size_in}
use Rattle.scc_inline_facts.specs.declared.facts.Facts.{Facts}
use Rattle.scc_inline_facts.specs.Known.{Agrees, AreAll, AreFacts, AreKnown, IsCounted, IsSet, Tells, size_of, height_of}
use Rattle.scc_inline_facts.proofs.Walking.{on_ok}

agrees_before : (old new : List (Option Facts)) (n : ℕ) (x : Facts) (sizes heights : ℕ → ℕ) → IsSet old new n x → Agrees new sizes heights → Agrees old sizes heights
agrees_before old new n x sizes heights s a = record { size = λ m y e. a.size m y (kept m y e); height = λ m y e. a.height m y (kept m y e) }
  where
    other : (m : ℕ) (y : Facts) → slice_get old m ≡ Some (Some y) → m ≡ n → ⊥
    other m y e q = let z : Some (Some y) ≡ Some None = sym e ∙ ap (slice_get old) q ∙ s.before in absurd cc

    kept : (m : ℕ) (y : Facts) → slice_get old m ≡ Some (Some y) → slice_get new m ≡ Some (Some y)
    kept m y e = s.others m (other m y e) ∙ e

pub known_next : (p : Plain) (old new : List (Option Facts)) (n : ℕ) (x : Facts) (f : Function) → slice_get p.functions n ≡ Some f → Tells old p f x → IsSet old new n x → AreKnown p old → AreKnown p new
known_next p old new n x f there tells s known m y g here at = by (nat_eq m n) refl
  where
    same_facts : {x y : Facts} → Some (Some x) ≡ Some (Some y) → x ≡ y
    same_facts e = cc

    same_function : {f g : Function} → Some f ≡ Some g → f ≡ g
    same_function e = cc

    equal : nat_eq m n ≡ true → m ≡ n
    equal e = grind (arith, e)

    apart : nat_eq m n ≡ false → m ≡ n → ⊥
    apart e q = let z : nat_eq n n ≡ false = subst (λ k. nat_eq k n ≡ false) q e in let t : nat_eq n n ≡ true = grind arith in let w : true ≡ false = sym t ∙ z in absurd cc

    by : (b : Bool) → nat_eq m n ≡ b → Tells new p g y
    by true e sizes heights a =
        let q = equal e in
        let is_x : x ≡ y = same_facts (sym s.here ∙ ap (slice_get new) (sym q) ∙ here) in
        let is_f : f ≡ g = same_function (sym there ∙ ap (slice_get p.functions) (sym q) ∙ at) in
        subst (λ z. IsCounted p g z sizes heights) is_x (subst (λ k. IsCounted p k x sizes heights) is_f (tells sizes heights (agrees_before old new n x sizes heights s a)))
    by false e sizes heights a = known m y g (sym (s.others m (apart e)) ∙ here) at sizes heights (agrees_before old new n x sizes heights s a)

pub set_ok : {A X : Type 0} (r : Result A X) (t : Tree) (old new : List (Option Facts)) (n : ℕ) (x : Facts) (f : Function) → slice_get (plain_of t).functions n ≡ Some f → Tells old (plain_of t) f x
    → OnOk r (IsSet old new n x) → OnOk r (AreKnown (plain_of t) old → AreKnown (plain_of t) new)
set_ok r t old new n x f there tells = on_ok r _ _ (λ s. known_next (plain_of t) old new n x f there tells s)

-- ---- nothing is known at first

pub none_more : (known new : List (Option Facts)) → new ≡ known ++ None ∷ [] → ((n : ℕ) (x : Facts) → slice_get known n ≡ Some (Some x) → ⊥) → (n : ℕ) (x : Facts) → slice_get new n ≡ Some (Some x) → ⊥
none_more known new e h n x g = last known n h (ap (λ l. slice_get l n) (sym e) ∙ g)
  where
    last : (known : List (Option Facts)) (n : ℕ) → ((n : ℕ) (x : Facts) → slice_get known n ≡ Some (Some x) → ⊥) → slice_get (known ++ None ∷ []) n ≡ Some (Some x) → ⊥
    last [] zero h g = let z : Some None ≡ Some (Some x) = g in absurd cc
    last [] (suc n) h g = absurd cc
    last (y ∷ ys) zero h g = h 0 x g
    last (y ∷ ys) (suc n) h g = last ys n (λ m z e. h (suc m) z e) g

-- ---- all is known at last

past : {A : Type 0} (xs : List A) (n : ℕ) → slice_get xs n ≡ None → length xs ≤ n
past [] n e = omega arith
past (x ∷ xs) zero e = absurd cc
past (x ∷ xs) (suc n) e = let h : length xs ≤ n = past xs n e in omega (arith, h)

none_past : {A : Type 0} (xs : List A) (n : ℕ) → length xs ≤ n → slice_get xs n ≡ None
none_past [] n h = refl
none_past (x ∷ xs) zero h = absurd (omega (arith, h))
none_past (x ∷ xs) (suc n) h = let g : length xs ≤ n = omega (arith, h) in none_past xs n g

map_long : {A B : Type 0} (f : A → B) (xs : List A) → length (map f xs) ≡ length xs
map_long f [] = refl
map_long f (x ∷ xs) = ap suc (map_long f xs)

pub stands : (p : Plain) (known : List (Option Facts)) → length known ≡ length p.functions → AreAll known → AreKnown p known → AreFacts p known
stands p known long all are = record {
  size = λ n f e. told_size n f e (slice_get known n) refl;
  height = λ n f e. told_height n f e (slice_get known n) refl;
  no_size = λ n e. ap size_of (none n e);
  no_height = λ n e. ap height_of (none n e);
}
  where
    sizes : ℕ → ℕ
    sizes n = size_of (slice_get known n)

    heights : ℕ → ℕ
    heights n = height_of (slice_get known n)

    none : (n : ℕ) → slice_get p.functions n ≡ None → slice_get known n ≡ None
    none n e = let h : length p.functions ≤ n = past p.functions n e in let g : length known ≤ n = omega (arith, h, long) in none_past known n g

    agrees : Agrees known sizes heights
    agrees = record { size = λ n x e. ap size_of e; height = λ n x e. ap height_of e }

    short : (n : ℕ) (f : Function) → slice_get p.functions n ≡ Some f → slice_get known n ≡ None → ⊥
    short n f e g =
        let h : length known ≤ n = past known n g in
        let k : length p.functions ≤ n = omega (arith, h, long) in
        let z : None ≡ Some f = sym (none_past p.functions n k) ∙ e in absurd cc

    told_size : (n : ℕ) (f : Function) → slice_get p.functions n ≡ Some f → (o : Option (Option Facts)) → slice_get known n ≡ o → many (sizes n) ≡ many (size_in sizes p f f.body)
    told_size n f e None g = absurd (short n f e g)
    told_size n f e (Some None) g = absurd (all n g)
    told_size n f e (Some (Some x)) g = ap (λ o. many (size_of o)) g ∙ (are n x f g e sizes heights agrees).size

    told_height : (n : ℕ) (f : Function) → slice_get p.functions n ≡ Some f → (o : Option (Option Facts)) → slice_get known n ≡ o → deep (heights n) ≡ deep (height_in heights p f f.body)
    told_height n f e None g = absurd (short n f e g)
    told_height n f e (Some None) g = absurd (all n g)
    told_height n f e (Some (Some x)) g = ap (λ o. deep (height_of o)) g ∙ (are n x f g e sizes heights agrees).height

pub tree_long : (t : Tree) (n : ℕ) → n ≡ length t.functions → n ≡ length (plain_of t).functions
tree_long t n e = e ∙ sym (map_long function_of t.functions)
