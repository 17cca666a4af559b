-- Initialisers are grouped one after another, from the last to the first.
use Rattle.std.proofs.Common.{◌≡◌, refl, sym, ap, ◌∙◌, subst, arith, ℕ, zero, suc, ◌+◌, ◌-◌, ◌<◌, ◌≤◌, nat_eq, length, drop, take, set, get_or, Bool, true, false, List, [], ◌∷◌, ◌++◌, map, Option, Some, None, slice_get, if◌then◌else◌, OnOk, Result, Ok, Err}
use Rattle.std.specs.Borrow.{Bor}
use Rattle.scc_plain_tree.specs.declared.stmt.PlainStmt.{PlainStmt}
use Rattle.scc_plain_view.specs.Codes.{code_of, stmt_code}
use Rattle.scc_elab_spec.specs.Program.{End}
use Rattle.scc_elab_spec.specs.Inits.{belongs, either, owner}
use Rattle.scc_elab_inits.proofs.Owning.{own_is, drop_more, drop_all}
use Rattle.scc_elab_groups.specs.Groups.{AreEmpty, Grouped, Noted, Tails, backward, tails_of, with_at}
use Rattle.scc_elab_groups.specs.declared.groups.Group.{Group}
use Rattle.scc_elab_groups.specs.declared.groups.Groups.{Groups}

same_is : (a b : ℕ) → nat_eq a b ≡ true → a ≡ b
same_is a b e = grind (arith, e)

same_self : (a : ℕ) → nat_eq a a ≡ true
same_self a = grind arith

differs : (a b : ℕ) → (a ≡ b → ⊥) → nat_eq a b ≡ false
differs a b apart = by (nat_eq a b) refl
  where
    by : (c : Bool) → nat_eq a b ≡ c → nat_eq a b ≡ false
    by true e = absurd (apart (same_is a b e))
    by false e = e

empties : (tss : List Tails) → AreEmpty tss → (n : ℕ) (ts : Tails) → slice_get tss n ≡ Some ts → ts ≡ []
empties [] e n ts h = cc
empties (t ∷ tss) e zero ts h = let s : t ≡ ts = cc in sym s ∙ e.0
empties (t ∷ tss) e (suc n) ts h = empties tss e.1 n ts h

pub more_empty : (gs : List Group) (g : Group) → tails_of g ≡ [] → AreEmpty (map tails_of gs) → AreEmpty (map tails_of (gs ++ g ∷ []))
more_empty [] g h e = (h, tt)
more_empty (x ∷ gs) g h e = (e.0, more_empty gs g h e.1)

-- what stands there when one is changed
got : {P : Type 0} (f : Tails → Tails) (tss : List Tails) (k n : ℕ) (ts : Tails) → slice_get (with_at k f tss) n ≡ Some ts → ((old : Tails) → n ≡ k → slice_get tss n ≡ Some old → ts ≡ f old → P) → ((n ≡ k → ⊥) → slice_get tss n ≡ Some ts → P) → P
got f [] k n ts e hit miss = cc
got f (t ∷ tss) zero zero ts e hit miss = let s : f t ≡ ts = cc in hit t refl refl (sym s)
got f (t ∷ tss) zero (suc n) ts e hit miss = miss (λ h. absurd (omega (arith, h))) e
got f (t ∷ tss) (suc k) zero ts e hit miss = miss (λ h. absurd (omega (arith, h))) e
got f (t ∷ tss) (suc k) (suc n) ts e hit miss = got f tss k n ts e (λ old s g h. hit old (ap suc s) g h) (λ h. miss (λ s. h (let d : n ≡ k = omega (arith, s) in d)))

set_is : (xs : List Group) (k : ℕ) (r new : Group) (f : Tails → Tails) → k < length xs → r ≡ get_or xs k r → tails_of new ≡ f (tails_of r) → map tails_of (set xs k new) ≡ with_at k f (map tails_of xs)
set_is [] k r new f l e h = absurd (omega arith)
set_is (x ∷ xs) zero r new f l e h = let same : r ≡ x = e in λ i. (h ∙ ap (λ z. f (tails_of z)) same) i ∷ map tails_of xs
set_is (x ∷ xs) (suc k) r new f l e h = let m : k < length xs = omega arith in ap (λ z. tails_of x ∷ z) (set_is xs k r new f m e h)

map_last : {A B : Type 0} (f : A → B) (xs : List A) (x : A) → map f (xs ++ x ∷ []) ≡ map f xs ++ f x ∷ []
map_last f [] x = refl
map_last f (y ∷ xs) x = ap (λ zs. f y ∷ zs) (map_last f xs x)

pub tails_last : (g : Group) (old : List (Bor (List PlainStmt))) (t : Bor (List PlainStmt)) → g.tails.items ≡ old ++ t ∷ [] → tails_of g ≡ map (λ t. t.now) old ++ t.now ∷ []
tails_last g old t e = ap (map (λ t. t.now)) e ∙ map_last (λ t. t.now) old t

pub member_noted : {A E : Type 0} (res : Result A E) (xs : List Group) (k : ℕ) (r new : Group) (t : Bor (List PlainStmt)) → k < length xs → r ≡ get_or xs k r → OnOk res (new.tails.items ≡ r.tails.items ++ t ∷ [])
    → OnOk res (map tails_of (set xs k new) ≡ with_at k (λ ts. ts ++ t.now ∷ []) (map tails_of xs))
member_noted (Ok a) xs k r new t l e h = set_is xs k r new (λ ts. ts ++ t.now ∷ []) l e (tails_last new r.tails.items t h)
member_noted (Err a) xs k r new t l e h = tt

beyond : (f : Tails → Tails) (tss : List Tails) (k : ℕ) → slice_get tss k ≡ None → with_at k f tss ≡ tss
beyond f [] k e = refl
beyond f (t ∷ tss) zero e = cc
beyond f (t ∷ tss) (suc k) e = ap (λ z. t ∷ z) (beyond f tss k e)

none_there : (gs : List Group) (k : ℕ) → length gs ≤ k → slice_get (map tails_of gs) k ≡ None
none_there [] k l = refl
none_there (g ∷ gs) zero l = absurd (omega arith)
none_there (g ∷ gs) (suc k) l = let m : length gs ≤ k = omega arith in none_there gs k m

pub none_noted : (gs : List Group) (k : ℕ) (t : List PlainStmt) → length gs ≤ k → map tails_of gs ≡ with_at k (λ ts. ts ++ t ∷ []) (map tails_of gs)
none_noted gs k t l = sym (beyond (λ ts. ts ++ t ∷ []) (map tails_of gs) k (none_there gs k l))

module _ (x : PlainStmt) (xs : List PlainStmt) where
  abbrev all : List PlainStmt
  all = x ∷ xs

  takes : (m : Option ℕ) → belongs m (owner (code_of all)) ≡ true → backward m all ≡ backward m xs ++ all ∷ []
  takes m e = ap (λ b. if b then backward m xs ++ all ∷ [] else backward m xs) e

  passes : (m : Option ℕ) → belongs m (owner (code_of all)) ≡ false → backward m all ≡ backward m xs
  passes m e = ap (λ b. if b then backward m xs ++ all ∷ [] else backward m xs) e

  one_noted : (k : ℕ) → owner (code_of all) ≡ Some k → (tss : List Tails) → ((n : ℕ) (ts : Tails) → slice_get tss n ≡ Some ts → ts ≡ backward (Some n) xs)
      → (n : ℕ) (ts : Tails) → slice_get (with_at k (λ ts. ts ++ all ∷ []) tss) n ≡ Some ts → ts ≡ backward (Some n) all
  one_noted k e tss h n ts g = got (λ ts. ts ++ all ∷ []) tss k n ts g
      (λ old s f w. w ∙ ap (λ z. z ++ all ∷ []) (h n old f) ∙ sym (takes (Some n) (ap (belongs (Some n)) e ∙ ap (λ z. nat_eq n z) (sym s) ∙ same_self n)))
      (λ apart f. h n ts f ∙ sym (passes (Some n) (ap (belongs (Some n)) e ∙ differs n k apart)))

  grouped_next : (old new : Groups) (m : Option ℕ) → m ≡ owner (code_of all) → Grouped xs old → Noted m all old new → Grouped all new
  grouped_next old new (Some k) e g h = record {
    members = λ n ts f. one_noted k (sym e) (map tails_of old.members.items) g.members n ts (ap (λ z. slice_get z n) (sym h.0) ∙ f);
    none = h.1 ∙ g.none ∙ sym (passes None (ap (belongs None) (sym e)));
  }
  grouped_next old new None e g h = record {
    members = λ n ts f. g.members n ts (ap (λ z. slice_get z n) (sym h.0) ∙ f) ∙ sym (passes (Some n) (ap (belongs (Some n)) (sym e)));
    none = h.1 ∙ ap (λ z. z ++ all ∷ []) g.none ∙ sym (takes None (ap (belongs None) (sym e)));
  }

cut_at : {A P : Type 0} (j : ℕ) (xs : List A) → j < length xs → ((x : A) → drop j xs ≡ x ∷ drop (j + 1) xs → P) → P
cut_at j [] l f = absurd (omega arith)
cut_at zero (x ∷ xs) l f = f x refl
cut_at (suc j) (x ∷ xs) l f = let m : j < length xs = omega arith in let e : suc j + 1 ≡ suc (j + 1) = omega arith in cut_at j xs m (λ y s. f y (s ∙ ap (λ k. y ∷ drop k (x ∷ xs)) (sym e)))

module _ (list : List PlainStmt) (i : ℕ) (below : i < length list) where
  abbrev j : ℕ
  j = length list - 1 - i

  after : j + 1 ≡ length list - i
  after = omega (arith, below)

  here : j ≡ length list - (i + 1)
  here = omega (arith, below)

  inside : j < length list
  inside = omega (arith, below)

  pub behind_is : (tail : List PlainStmt) (m : Option ℕ) → tail ≡ drop j list → m ≡ owner (code_of (drop (length list - i) list)) → m ≡ owner (code_of (drop 1 tail))
  behind_is tail m e f = f ∙ ap (λ z. owner (code_of z)) (ap (λ k. drop k list) (sym after) ∙ sym (drop_more j list) ∙ ap (drop 1) (sym e))

  pub owner_next : (tail : List PlainStmt) (m : Option ℕ) → tail ≡ drop j list → m ≡ owner (code_of tail) → m ≡ owner (code_of (drop (length list - (i + 1)) list))
  owner_next tail m e f = f ∙ ap (λ z. owner (code_of z)) (e ∙ ap (λ k. drop k list) here)

  pub grouped_step : (tail : List PlainStmt) (old new : Groups) (m : Option ℕ) → tail ≡ drop j list → m ≡ owner (code_of tail) → Grouped (drop (length list - i) list) old → Noted m tail old new → Grouped (drop (length list - (i + 1)) list) new
  grouped_step tail old new m e f g h = cut_at j list inside (λ x s.
      let t : tail ≡ x ∷ drop (j + 1) list = e ∙ s in
      let front : Grouped (drop (j + 1) list) old = subst (λ k. Grouped (drop k list) old) (sym after) g in
      let noted : Noted m (x ∷ drop (j + 1) list) old new = subst (λ z. Noted m z old new) t h in
      let whole : Grouped (x ∷ drop (j + 1) list) new = grouped_next x (drop (j + 1) list) old new m (f ∙ ap (λ z. owner (code_of z)) t) front noted in
      subst (λ z. Grouped z new) (sym s ∙ ap (λ k. drop k list) here) whole)

pub grouped_first : (list : List PlainStmt) (g : Groups) → AreEmpty (map tails_of g.members.items) → tails_of g.none ≡ [] → Grouped (drop (length list - 0) list) g
grouped_first list g e h =
    let whole : length list - 0 ≡ length list = omega arith in
    let n : drop (length list - 0) list ≡ [] = ap (λ k. drop k list) whole ∙ drop_all list in
    subst (λ z. Grouped z g) (sym n) (record { members = λ n ts f. empties (map tails_of g.members.items) e n ts f; none = h })

pub owner_first : (list : List PlainStmt) → None ≡ owner (code_of (drop (length list - 0) list))
owner_first list = let whole : length list - 0 ≡ length list = omega arith in sym (ap (λ z. owner (code_of z)) (ap (λ k. drop k list) whole ∙ drop_all list))

pub grouped_all : (list : List PlainStmt) (i : ℕ) (g : Groups) → length list ≤ i → Grouped (drop (length list - i) list) g → Grouped list g
grouped_all list i g l h = let e : length list - i ≡ 0 = omega (arith, l) in subst (λ k. Grouped (drop k list) g) e h

-- ---- the member of the first, or of those behind it

first_is : (x : PlainStmt) (xs all tail : List PlainStmt) (m behind : Option ℕ) → x ∷ xs ≡ all → m ≡ owner (stmt_code x End) → behind ≡ owner (code_of (drop 1 all)) → either m behind ≡ owner (code_of all)
first_is x xs all tail m behind e f h = ap (either m) h ∙ own_is x xs all e m f

pub owner_some : (x : PlainStmt) (xs all alone : List PlainStmt) (m behind : Option ℕ) (k : ℕ) → x ∷ xs ≡ all → alone ≡ take 1 all → m ≡ owner (code_of alone) → behind ≡ owner (code_of (drop 1 all)) → m ≡ Some k → Some k ≡ owner (code_of all)
owner_some x xs all alone m behind k e a f h s = ap (λ z. either z behind) (sym s) ∙ first_is x xs all alone m behind e (f ∙ ap (λ z. owner (code_of z)) (a ∙ ap (take 1) (sym e))) h

pub owner_none : (x : PlainStmt) (xs all alone : List PlainStmt) (m behind : Option ℕ) → x ∷ xs ≡ all → alone ≡ take 1 all → m ≡ owner (code_of alone) → behind ≡ owner (code_of (drop 1 all)) → m ≡ None → behind ≡ owner (code_of all)
owner_none x xs all alone m behind e a f h s = ap (λ z. either z behind) (sym s) ∙ first_is x xs all alone m behind e (f ∙ ap (λ z. owner (code_of z)) (a ∙ ap (take 1) (sym e))) h
