-- One more clock: what is known of the clocks before stays known.
use Rattle.std.proofs.Common.{◌≡◌, refl, sym, ap, ◌∙◌, subst, ℕ, zero, suc, ◌+◌, Bool, true, false, ◌||◌, nat_eq, length, arith, List, [], ◌∷◌, ◌++◌, map, Option, Some, None, option_map, is_some, if◌then◌else◌, Result, Ok, Err, OnOk}
use Rattle.std.specs.Prelude.{find}
use Rattle.std.specs.List.{list_any}
use Rattle.scc_core_spec.specs.First.{or_else}
use Rattle.scc_elab_spec.specs.After.{Clock, first_clock, roots_once}
use Rattle.scc_elab_after.specs.declared.processes.Clock.{Clock as Held}
use Rattle.scc_elab_after.specs.Processes.{clock_in}
use Rattle.scc_elab_after.specs.Clocks.{Knows}

eq_is : (a b : ℕ) → nat_eq a b ≡ true → a ≡ b
eq_is a b e = grind (arith, e)

eq_flip : (a b : ℕ) → nat_eq a b ≡ nat_eq b a
eq_flip a b = grind arith

eq_same : (a : ℕ) → nat_eq a a ≡ true
eq_same a = grind arith

or_true : (b : Bool) → (b || true) ≡ true
or_true true = refl
or_true false = refl

or_false : (b : Bool) → (b || false) ≡ b
or_false true = refl
or_false false = refl

or_none : {A : Type 0} (o : Option A) → or_else o None ≡ o
or_none None = refl
or_none (Some a) = refl

find_snoc : {A : Type 0} (p : A → Bool) (xs : List A) (x : A) → find p (xs ++ x ∷ []) ≡ or_else (find p xs) (if p x then Some x else None)
find_snoc p [] x = refl
find_snoc p (y ∷ ys) x = by (p y) (find_snoc p ys x)
  where
    by : (b : Bool) → find p (ys ++ x ∷ []) ≡ or_else (find p ys) (if p x then Some x else None) → (if b then Some y else find p (ys ++ x ∷ [])) ≡ or_else (if b then Some y else find p ys) (if p x then Some x else None)
    by true h = refl
    by false h = h

map_snoc : {A B : Type 0} (f : A → B) (xs : List A) (x : A) → map f (xs ++ x ∷ []) ≡ map f xs ++ f x ∷ []
map_snoc f [] x = refl
map_snoc f (y ∷ ys) x = ap (λ zs. f y ∷ zs) (map_snoc f ys x)

length_snoc : {A : Type 0} (xs : List A) (x : A) → length (xs ++ x ∷ []) ≡ suc (length xs)
length_snoc [] x = refl
length_snoc (y ∷ ys) x = ap suc (length_snoc ys x)

abbrev at_root : ℕ → Clock → Bool
at_root r b = nat_eq b.root r

-- a root is among the roots of clocks where one of them has it
module _ (r : ℕ) where
  abbrev among : List ℕ → Bool
  among seen = list_any (nat_eq r) seen

  old_root : (c : Clock) (cs : List Clock) (seen : List ℕ) (q : Bool) → nat_eq c.root r ≡ q → list_any (nat_eq c.root) seen ≡ true → (among seen || is_some (find (at_root r) cs)) ≡ (among seen || is_some (if q then Some c else find (at_root r) cs))
  old_root c cs seen false e h = refl
  old_root c cs seen true e h = let s : among seen ≡ true = ap (λ n. list_any (nat_eq n) seen) (sym (eq_is c.root r e)) ∙ h in ap (λ b. b || is_some (find (at_root r) cs)) s ∙ sym (or_true (among seen))

  new_root : (c : Clock) (cs : List Clock) (seen : List ℕ) (q : Bool) → nat_eq c.root r ≡ q → ((nat_eq r c.root || among seen) || is_some (find (at_root r) cs)) ≡ (among seen || is_some (if q then Some c else find (at_root r) cs))
  new_root c cs seen false e = ap (λ b. (b || among seen) || is_some (find (at_root r) cs)) (eq_flip r c.root ∙ e)
  new_root c cs seen true e = ap (λ b. (b || among seen) || is_some (find (at_root r) cs)) (eq_flip r c.root ∙ e) ∙ sym (or_true (among seen))

  once_any : (cs : List Clock) (seen : List ℕ) → among (roots_once seen cs) ≡ (among seen || is_some (find (at_root r) cs))
  once_any [] seen = sym (or_false (among seen))
  once_any (c ∷ cs) seen = by (list_any (nat_eq c.root) seen) refl (once_any cs seen) (once_any cs (c.root ∷ seen))
    where
      by : (b : Bool) → list_any (nat_eq c.root) seen ≡ b → among (roots_once seen cs) ≡ (among seen || is_some (find (at_root r) cs)) → among (roots_once (c.root ∷ seen) cs) ≡ (among (c.root ∷ seen) || is_some (find (at_root r) cs))
          → among (if b then roots_once seen cs else roots_once (c.root ∷ seen) cs) ≡ (among seen || is_some (if nat_eq c.root r then Some c else find (at_root r) cs))
      by true e h k = h ∙ old_root c cs seen (nat_eq c.root r) refl e
      by false e h k = k ∙ new_root c cs seen (nat_eq c.root r) refl

once_snoc : (cs : List Clock) (seen : List ℕ) (c : Clock) → length (roots_once seen (cs ++ c ∷ [])) ≡ (if list_any (nat_eq c.root) (roots_once seen cs) then length (roots_once seen cs) else suc (length (roots_once seen cs)))
once_snoc [] seen c = by (list_any (nat_eq c.root) seen)
  where
    by : (b : Bool) → length (if b then seen else c.root ∷ seen) ≡ (if b then length seen else suc (length seen))
    by true = refl
    by false = refl
once_snoc (y ∷ ys) seen c = by (list_any (nat_eq y.root) seen) (once_snoc ys seen c) (once_snoc ys (y.root ∷ seen) c)
  where
    abbrev_of : List ℕ → ℕ
    abbrev_of s = if list_any (nat_eq c.root) s then length s else suc (length s)

    by : (b : Bool) → length (roots_once seen (ys ++ c ∷ [])) ≡ abbrev_of (roots_once seen ys) → length (roots_once (y.root ∷ seen) (ys ++ c ∷ [])) ≡ abbrev_of (roots_once (y.root ∷ seen) ys)
        → length (if b then roots_once seen (ys ++ c ∷ []) else roots_once (y.root ∷ seen) (ys ++ c ∷ [])) ≡ abbrev_of (if b then roots_once seen ys else roots_once (y.root ∷ seen) ys)
    by true h k = h
    by false h k = k

-- one clock: the first stays the first
pub first_kept : (before : List Clock) (firsts : List Held) (h k : Held) → option_map clock_in (Some k) ≡ first_clock (map clock_in firsts) → Knows false before firsts → Knows false (before ++ clock_in h ∷ []) firsts
first_kept [] firsts h k e n = cc
first_kept (b ∷ bs) firsts h k e n = n

pub first_added : (before : List Clock) (firsts : List Held) (h : Held) → None ≡ first_clock (map clock_in firsts) → Knows false before firsts → Knows false (before ++ clock_in h ∷ []) (firsts ++ h ∷ [])
first_added [] [] h e n = refl
first_added [] (f ∷ fs) h e n = cc
first_added (b ∷ bs) firsts h e n = cc

-- several: those of their roots
module _ (before : List Clock) (firsts : List Held) (h : Held) (n : Knows true before firsts) where
  abbrev c : Clock
  c = clock_in h

  has : is_some (find (at_root c.root) before) ≡ list_any (nat_eq c.root) (roots_once [] before)
  has = sym (once_any c.root before [])

  pub known_kept : (k : Held) → Some (clock_in k) ≡ find (at_root c.root) (map clock_in firsts) → Knows true (before ++ c ∷ []) firsts
  known_kept k e = (
    (λ m. find_snoc (at_root m) before c ∙ by m (nat_eq c.root m) refl ∙ n.0 m),
    once_snoc before [] c ∙ ap (λ b. if b then length (roots_once [] before) else suc (length (roots_once [] before))) (sym has ∙ ap is_some (n.0 c.root ∙ sym e)) ∙ n.1,
  )
    where
      by : (m : ℕ) (q : Bool) → nat_eq c.root m ≡ q → or_else (find (at_root m) before) (if q then Some c else None) ≡ find (at_root m) before
      by m false d = or_none (find (at_root m) before)
      by m true d = let s : find (at_root m) before ≡ Some (clock_in k) = ap (λ r. find (at_root r) before) (sym (eq_is c.root m d)) ∙ n.0 c.root ∙ sym e in
          ap (λ o. or_else o (Some c)) s ∙ sym s

  pub known_added : None ≡ find (at_root c.root) (map clock_in firsts) → Knows true (before ++ c ∷ []) (firsts ++ h ∷ [])
  known_added e = (
    (λ m. find_snoc (at_root m) before c ∙ ap (λ o. or_else o (if nat_eq c.root m then Some c else None)) (n.0 m) ∙ sym (find_snoc (at_root m) (map clock_in firsts) c) ∙ ap (find (at_root m)) (sym (map_snoc clock_in firsts h))),
    once_snoc before [] c ∙ ap (λ b. if b then length (roots_once [] before) else suc (length (roots_once [] before))) (sym has ∙ ap is_some (n.0 c.root ∙ sym e)) ∙ ap suc n.1 ∙ sym (length_snoc firsts h),
  )

pub pushed : {A E : Type 0} (r : Result A E) (many : Bool) (old new : List Held) (h : Held) → OnOk r (new ≡ old ++ h ∷ []) → ((before : List Clock) → Knows many before old → Knows many (before ++ clock_in h ∷ []) (old ++ h ∷ []))
    → OnOk r ((before : List Clock) → Knows many before old → Knows many (before ++ clock_in h ∷ []) new)
pushed (Ok v) many old new h e k = λ before n. subst (Knows many (before ++ clock_in h ∷ [])) (sym e) (k before n)
pushed (Err v) many old new h e k = tt
