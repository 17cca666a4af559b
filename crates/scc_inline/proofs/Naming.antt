-- Locals get their numbers one by one.
use Rattle.std.proofs.Common.{Result, Ok, Err, OnOk, ◌≡◌, refl, sym, ap, subst, ◌∙◌, arith, ℕ, zero, suc, ◌+◌, ◌<◌, Bool, true, false, ◌&&◌, ◌||◌, nat_eq, List, [], ◌∷◌, ◌++◌, map, length, Option, Some, None, option_map, option_and_then, slice_get, unwrap_or, append_assoc, if◌then◌else◌}
use Rattle.std.specs.List.{list_any, range_with_len}
use Rattle.std.proofs.lemmas.List.Folds.{list_any-append}
use Rattle.std.proofs.lemmas.Option.{slice_get-map}
use Rattle.scc_semantics.specs.Location.{Part, Root, same_calls, same_root}
use Rattle.scc_semantics.specs.Location as location
use Rattle.scc_core_spec.specs.Program as prog
use Rattle.scc_core_view.specs.Programs.{path_of}
use Rattle.scc_elab_spec.specs.Bodies.{elements}
use Rattle.scc_bits_kinds.specs.declared.kind.Kind.{Kind}
use Rattle.scc_elab_spec.specs.Numbering.{first_locals, once, result_root}
use Rattle.scc_elab_spec.specs.Program.{Function, Member, Plain}
use Rattle.scc_plain_tree.specs.declared.program.PlainFunction.{PlainFunction}
use Rattle.scc_plain_tree.specs.declared.program.PlainMember.{PlainMember}
use Rattle.scc_plain_view.specs.Plains.{function_of, member_of}
use Rattle.scc_inline_spec.specs.Inlined.{answer_member, member_of_root, own_cell, own_cells}
use Rattle.scc_inline.specs.declared.scope.Growing.{Growing}
use Rattle.scc_inline.specs.declared.scope.Scope.{Scope}
use Rattle.scc_inline.specs.Locals.{IsOneMore}
use Rattle.scc_inline.specs.Named.{IsFresh, IsHere, IsKept, IsNew, IsNumbered, Stands, added, has_cell, is_given, one_more}

-- ---- roots

calls_self : (cs : List ℕ) → same_calls cs cs ≡ true
calls_self [] = refl
calls_self (c ∷ cs) = (λ i. eq_self c i && calls_self cs i)
  where
    eq_self : (n : ℕ) → nat_eq n n ≡ true
    eq_self n = grind arith

eq_self : (n : ℕ) → nat_eq n n ≡ true
eq_self n = grind arith

local_self : (i : ℕ) (cs : List ℕ) (n : ℕ) → same_root (location.Local i cs n) (location.Local i cs n) ≡ true
local_self i cs n = λ j. (eq_self i j && calls_self cs j) && eq_self n j

and_false : (b : Bool) → (b && false) ≡ false
and_false true = refl
and_false false = refl

or_true : (b : Bool) → (b || true) ≡ true
or_true true = refl
or_true false = refl

or_false : (b : Bool) → (b || false) ≡ b
or_false true = refl
or_false false = refl

local_other : (i : ℕ) (cs : List ℕ) (m n : ℕ) → nat_eq m n ≡ false → same_root (location.Local i cs m) (location.Local i cs n) ≡ false
local_other i cs m n e = ap (λ b. (nat_eq i i && same_calls cs cs) && b) e ∙ and_false (nat_eq i i && same_calls cs cs)

last_any : (r x : Root) (rs : List Root) → list_any (same_root r) (rs ++ x ∷ []) ≡ (list_any (same_root r) rs || same_root r x)
last_any r x rs = list_any-append (same_root r) rs (x ∷ []) ∙ ap (λ b. list_any (same_root r) rs || b) (or_false (same_root r x))

eq_is : (a b : ℕ) → nat_eq a b ≡ true → a ≡ b
eq_is a b e = grind (arith, e)

eq_apart : (a b : ℕ) → nat_eq a b ≡ false → a ≡ b → ⊥
eq_apart a b e q = let z : true ≡ false = sym (eq_self b) ∙ ap (λ k. nat_eq k b) (sym q) ∙ e in absurd cc

-- ---- cells

cells_last : (p : Plain) (i f : ℕ) (path : List Part) (n : ℕ) (rs : List Root) (r : Root) (m : Member) → member_of_root p f r ≡ Some m
    → own_cells p i f path n (rs ++ r ∷ []) ≡ own_cells p i f path n rs ++ map (own_cell path i (n + length rs) m) (elements m.shape.sizes)
cells_last p i f path n [] r m is =
    ap (λ o. unwrap_or (option_map (λ m. map (own_cell path i n m) (elements m.shape.sizes)) o) [] ++ []) is ∙ nil_right (map (own_cell path i n m) (elements m.shape.sizes))
    ∙ ap (λ k. map (own_cell path i k m) (elements m.shape.sizes)) (none n)
  where
    nil_right : {A : Type 0} (xs : List A) → xs ++ [] ≡ xs
    nil_right [] = refl
    nil_right (x ∷ xs) = ap (λ ys. x ∷ ys) (nil_right xs)

    none : (n : ℕ) → n ≡ n + 0
    none n = omega arith
cells_last p i f path n (x ∷ rs) r m is =
    let head = unwrap_or (option_map (λ m. map (own_cell path i n m) (elements m.shape.sizes)) (member_of_root p f x)) [] in
    ap (λ cs. head ++ cs) (cells_last p i f path (suc n) rs r m is ∙ ap (λ k. own_cells p i f path (suc n) rs ++ map (own_cell path i k m) (elements m.shape.sizes)) (next n (length rs)))
    ∙ sym (append_assoc head (own_cells p i f path (suc n) rs) (map (own_cell path i (n + suc (length rs)) m) (elements m.shape.sizes)))
  where
    next : (a b : ℕ) → suc a + b ≡ a + suc b
    next a b = omega arith

local_member : (p : Plain) (f i n : ℕ) (cs : List ℕ) (g : PlainFunction) (m : PlainMember) → IsHere p f cs (function_of g) → slice_get g.locals n ≡ Some m → member_of_root p f (location.Local i cs n) ≡ Some (member_of m)
local_member p f i n cs g m h there =
    ap (λ o. option_and_then (λ g. option_and_then (λ h. slice_get h.locals n) (slice_get p.functions g)) o) h.leads ∙ ap (λ o. option_and_then (λ h. slice_get h.locals n) o) h.is
    ∙ slice_get-map member_of g.locals n ∙ ap (option_map member_of) there

length_last : {A : Type 0} (xs : List A) (x : A) → suc (length xs) ≡ length (xs ++ x ∷ [])
length_last [] x = refl
length_last (y ∷ ys) x = ap suc (length_last ys x)

get_first : {A : Type 0} (xs : List A) (x y : A) (k : ℕ) → slice_get xs k ≡ Some y → slice_get (xs ++ x ∷ []) k ≡ Some y
get_first [] x y k e = absurd cc
get_first (z ∷ zs) x y zero e = e
get_first (z ∷ zs) x y (suc k) e = get_first zs x y k e

get_last : {A : Type 0} (xs : List A) (x : A) → slice_get (xs ++ x ∷ []) (length xs) ≡ Some x
get_last [] x = refl
get_last (y ∷ ys) x = get_last ys x

-- ---- one local

module _ (p : Plain) (f : ℕ) (front : List prog.Cell) (cs : List ℕ) (i : ℕ) (roots : List Root) where
  stands_given : (g : Growing) (s : Scope) (n : ℕ) → is_given s n ≡ true → Stands p f front cs i g s roots → Stands p f front cs i g s (one_more roots (location.Local i cs n))
  stands_given g s n has h = subst (λ rs. Stands p f front cs i g s rs) (sym (ap (λ b. if b then roots else roots ++ location.Local i cs n ∷ []) (h.given n has))) h

  stands_more : (g h : Growing) (s t : Scope) (n c : ℕ) (m : Member) → is_given s n ≡ false → member_of_root p f (location.Local i cs n) ≡ Some m → Stands p f front cs i g s roots → IsOneMore g h m (elements m.shape.sizes) → IsNumbered s t n c g.next
      → Stands p f front cs i h t (one_more roots (location.Local i cs n))
  stands_more g h s t n c m none is st more put = subst (λ rs. Stands p f front cs i h t rs) (sym (ap (λ b. if b then roots else roots ++ location.Local i cs n ∷ []) (st.free n none))) (record {
    number = more.number ∙ st.number;
    cells = more.cells ∙ (λ j. st.cells j ++ map (own_cell (path_of g.process) (st.number j) (st.next j) m) (elements m.shape.sizes))
        ∙ append_assoc front (own_cells p i f (path_of g.process) 0 roots) (map (own_cell (path_of g.process) i (length roots) m) (elements m.shape.sizes))
        ∙ ap (λ xs. front ++ xs) (ap (λ k. own_cells p i f (path_of g.process) 0 roots ++ map (own_cell (path_of g.process) i k m) (elements m.shape.sizes)) (from_none (length roots)) ∙ sym (cells_last p i f (path_of g.process) 0 roots (location.Local i cs n) m is))
        ∙ ap (λ q. front ++ own_cells p i f (path_of q) 0 (roots ++ location.Local i cs n ∷ [])) (sym more.process);
    next = more.next ∙ ap suc st.next ∙ length_last roots (location.Local i cs n);
    given = λ k e. is_there k (nat_eq k n) refl e;
    free = λ k e. not_there k (nat_eq k n) refl e;
    numbers = λ k j e l. numbered k j (nat_eq k n) refl e l;
  })
    where
      from_none : (n : ℕ) → n ≡ 0 + n
      from_none n = omega arith

      here : is_given t n ≡ true
      here = ap has_cell put.cell_here

      other : (k : ℕ) → nat_eq k n ≡ false → is_given t k ≡ is_given s k
      other k e = ap has_cell (put.cells k (eq_apart k n e))

      is_there : (k : ℕ) (b : Bool) → nat_eq k n ≡ b → is_given t k ≡ true → list_any (same_root (location.Local i cs k)) (roots ++ location.Local i cs n ∷ []) ≡ true
      is_there k true q e = last_any (location.Local i cs k) (location.Local i cs n) roots ∙ ap (λ b. list_any (same_root (location.Local i cs k)) roots || b) (ap (λ z. same_root (location.Local i cs k) (location.Local i cs z)) (sym (eq_is k n q)) ∙ local_self i cs k) ∙ or_true (list_any (same_root (location.Local i cs k)) roots)
      is_there k false q e = last_any (location.Local i cs k) (location.Local i cs n) roots ∙ ap (λ b. b || same_root (location.Local i cs k) (location.Local i cs n)) (st.given k (sym (other k q) ∙ e))

      not_there : (k : ℕ) (b : Bool) → nat_eq k n ≡ b → is_given t k ≡ false → list_any (same_root (location.Local i cs k)) (roots ++ location.Local i cs n ∷ []) ≡ false
      not_there k true q e = let z : true ≡ false = sym here ∙ ap (is_given t) (sym (eq_is k n q)) ∙ e in absurd cc
      not_there k false q e = last_any (location.Local i cs k) (location.Local i cs n) roots ∙ (λ j. st.free k (sym (other k q) ∙ e) j || local_other i cs k n q j)

      same_number : {a b : ℕ} → Some a ≡ Some b → a ≡ b
      same_number e = cc

      numbered : (k j : ℕ) (b : Bool) → nat_eq k n ≡ b → is_given t k ≡ true → slice_get t.numbers.items k ≡ Some j → slice_get (roots ++ location.Local i cs n ∷ []) j ≡ Some (location.Local i cs k)
      numbered k j true q e l =
          let is_n : k ≡ n = eq_is k n q in
          let is_j : j ≡ length roots = same_number (sym l ∙ ap (slice_get t.numbers.items) is_n ∙ put.number_here) ∙ st.next in
          ap (slice_get (roots ++ location.Local i cs n ∷ [])) is_j ∙ get_last roots (location.Local i cs n) ∙ ap (λ z. Some (location.Local i cs z)) (sym is_n)
      numbered k j false q e l = get_first roots (location.Local i cs n) (location.Local i cs k) j (st.numbers k j (sym (other k q) ∙ e) (sym (put.numbers k (eq_apart k n q)) ∙ l))

on_ok : {A X : Type 0} (r : Result A X) (P Q : Type 0) → (P → Q) → OnOk r P → OnOk r Q
on_ok (Ok a) P Q f h = f h
on_ok (Err e) P Q f h = tt

pub give_ok : {A X : Type 0} (r : Result A X) (g h : Growing) (s t : Scope) (fn : PlainFunction) (n c : ℕ) (m : PlainMember) → slice_get fn.locals n ≡ Some m → is_given s n ≡ false → IsOneMore g h (member_of m) (elements (member_of m).shape.sizes)
    → OnOk r (IsNumbered s t n c g.next) → (p : Plain) (f : ℕ) (front : List prog.Cell) (cs : List ℕ) (i : ℕ) (roots : List Root) → IsHere p f cs (function_of fn) → Stands p f front cs i g s roots
    → OnOk r (Stands p f front cs i h t (one_more roots (location.Local i cs n)))
give_ok r g h s t fn n c m there none more put p f front cs i roots is st = on_ok r _ _ (λ q. stands_more p f front cs i roots g h s t n c (member_of m) none (local_member p f i n cs fn m is there) st more q) put

pub given_ok : (g : Growing) (s : Scope) (n : ℕ) → is_given s n ≡ true → (p : Plain) (f : ℕ) (front : List prog.Cell) (cs : List ℕ) (i : ℕ) (roots : List Root) → Stands p f front cs i g s roots
    → Stands p f front cs i g s (one_more roots (location.Local i cs n))
given_ok g s n has p f front cs i roots = stands_given p f front cs i roots g s n has

-- ---- all locals of a function

added_last : (rs xs : List Root) (x : Root) → added rs (xs ++ x ∷ []) ≡ one_more (added rs xs) x
added_last rs [] x = refl
added_last rs (y ∷ ys) x = added_last (one_more rs y) ys x

range_last : (from n : ℕ) → range_with_len from (n + 1) ≡ range_with_len from n ++ (from + n) ∷ []
range_last from zero = first from
  where
    first : (from : ℕ) → from ∷ [] ≡ (from + 0) ∷ []
    first from = let e : from ≡ from + 0 = omega arith in ap (λ k. k ∷ []) e
range_last from (suc n) = let e : suc n + 1 ≡ suc (n + 1) = omega arith in let k : from + 1 + n ≡ from + suc n = omega arith in
    ap (range_with_len from) e ∙ ap (λ l. from ∷ l) (range_last (from + 1) n ∙ ap (λ j. range_with_len (from + 1) n ++ j ∷ []) k)

map_last : {A B : Type 0} (f : A → B) (xs : List A) (x : A) → map f (xs ++ x ∷ []) ≡ map f xs ++ f x ∷ []
map_last f [] x = refl
map_last f (y ∷ ys) x = ap (λ l. f y ∷ l) (map_last f ys x)

pub rest_next : (p : Plain) (f : ℕ) (front : List prog.Cell) (cs : List ℕ) (i : ℕ) (roots : List Root) (g : Growing) (s : Scope) (n : ℕ) → Stands p f front cs i g s (one_more (added roots (first_locals i cs n)) (location.Local i cs n))
    → Stands p f front cs i g s (added roots (first_locals i cs (n + 1)))
rest_next p f front cs i roots g s n h = subst (λ rs. Stands p f front cs i g s rs) (sym (ap (λ l. added roots (map (location.Local i cs) l)) (range_last 0 n ∙ ap (λ k. range_with_len 0 n ++ k ∷ []) (none n)) ∙ ap (added roots) (map_last (location.Local i cs) (range_with_len 0 n) n) ∙ added_last roots (first_locals i cs n) (location.Local i cs n))) h
  where
    none : (n : ℕ) → 0 + n ≡ n
    none n = omega arith

-- ---- the definition's numbering

once_is : (xs seen rs : List Root) → ((r : Root) → list_any (same_root r) xs ≡ list_any (same_root r) seen) → added xs rs ≡ xs ++ once seen rs
once_is xs seen [] same = nil_right xs
  where
    nil_right : {A : Type 0} (xs : List A) → xs ≡ xs ++ []
    nil_right [] = refl
    nil_right (x ∷ xs) = ap (λ ys. x ∷ ys) (nil_right xs)
once_is xs seen (r ∷ rs) same = by (list_any (same_root r) seen) (same r) (once_is xs seen rs same) (once_is (xs ++ r ∷ []) (r ∷ seen) rs (λ q. last_any q r xs ∙ (λ j. same q j || same_root q r) ∙ turn (list_any (same_root q) seen) (same_root q r)))
  where
    turn : (a b : Bool) → (a || b) ≡ (b || a)
    turn true true = refl
    turn true false = refl
    turn false true = refl
    turn false false = refl

    by : (b : Bool) → list_any (same_root r) xs ≡ b → added xs rs ≡ xs ++ once seen rs → added (xs ++ r ∷ []) rs ≡ (xs ++ r ∷ []) ++ once (r ∷ seen) rs
        → added (if list_any (same_root r) xs then xs else xs ++ r ∷ []) rs ≡ xs ++ (if b then once seen rs else r ∷ once (r ∷ seen) rs)
    by true e h k = ap (λ c. added (if c then xs else xs ++ r ∷ []) rs) e ∙ h
    by false e h k = ap (λ c. added (if c then xs else xs ++ r ∷ []) rs) e ∙ k ∙ append_assoc xs (r ∷ []) (once (r ∷ seen) rs)

pub numbered_is : (rs : List Root) → added [] rs ≡ once [] rs
numbered_is rs = once_is [] [] rs (λ r. refl)

pub rest_goes : (p : Plain) (f : ℕ) (front : List prog.Cell) (cs : List ℕ) (i : ℕ) (roots : List Root) (g : Growing) (s : Scope) (n k : ℕ) → k ≡ n → Stands p f front cs i g s (one_more (added roots (first_locals i cs n)) (location.Local i cs k))
    → Stands p f front cs i g s (added roots (first_locals i cs (n + 1)))
rest_goes p f front cs i roots g s n k e h = rest_next p f front cs i roots g s n (subst (λ k. Stands p f front cs i g s (one_more (added roots (first_locals i cs n)) (location.Local i cs k))) e h)

map_long : {A B : Type 0} (f : A → B) (xs : List A) → length (map f xs) ≡ length xs
map_long f [] = refl
map_long f (x ∷ xs) = ap suc (map_long f xs)

pub rest_ends : (p : Plain) (f : ℕ) (front : List prog.Cell) (cs : List ℕ) (i : ℕ) (roots : List Root) (g : Growing) (s : Scope) (n : ℕ) (ms : List PlainMember) → n ≡ length ms → Stands p f front cs i g s (added roots (first_locals i cs n))
    → Stands p f front cs i g s (added roots (first_locals i cs (length (map member_of ms))))
rest_ends p f front cs i roots g s n ms e h = subst (λ k. Stands p f front cs i g s (added roots (first_locals i cs k))) (e ∙ sym (map_long member_of ms)) h

-- ---- what a location names, and what a scope keeps

pub whole_ok : {A X : Type 0} (r : Result A X) (p : Plain) (f : ℕ) (front : List prog.Cell) (cs : List ℕ) (i : ℕ) (roots whole : List Root) (g : Growing) (s : Scope) (n : ℕ) → location.Local i cs n ∷ [] ≡ whole
    → OnOk r (Stands p f front cs i g s (one_more roots (location.Local i cs n))) → OnOk r (Stands p f front cs i g s (added roots whole))
whole_ok r p f front cs i roots whole g s n e = on_ok r _ _ (λ h. subst (λ w. Stands p f front cs i g s (added roots w)) e h)

pub whole_none : (p : Plain) (f : ℕ) (front : List prog.Cell) (cs : List ℕ) (i : ℕ) (roots whole : List Root) (g : Growing) (s : Scope) → [] ≡ whole → Stands p f front cs i g s roots → Stands p f front cs i g s (added roots whole)
whole_none p f front cs i roots whole g s e h = subst (λ w. Stands p f front cs i g s (added roots w)) e h

pub stands_kept : (p : Plain) (f : ℕ) (front : List prog.Cell) (cs : List ℕ) (i : ℕ) (roots : List Root) (g : Growing) (s t : Scope) → IsKept s t → Stands p f front cs i g s roots → Stands p f front cs i g t roots
stands_kept p f front cs i roots g s t k h = record {
  number = h.number;
  cells = h.cells;
  next = h.next;
  given = λ n e. h.given n (sym (same n) ∙ e);
  free = λ n e. h.free n (sym (same n) ∙ e);
  numbers = λ n j e l. h.numbers n j (sym (same n) ∙ e) (ap (λ ns. slice_get ns n) (sym k.numbers) ∙ l);
}
  where
    same : (n : ℕ) → is_given t n ≡ is_given s n
    same n = ap (λ ls. has_cell (slice_get ls n)) k.cells

-- ---- a call's result and parameters

module _ (p : Plain) (f : ℕ) (front : List prog.Cell) (cs : List ℕ) (i : ℕ) (roots : List Root) where
  stands_answer : (g h : Growing) (s : Scope) (m : Member) → member_of_root p f (location.Answer i cs) ≡ Some m → list_any (same_root (location.Answer i cs)) roots ≡ false → Stands p f front cs i g s roots → IsOneMore g h m (elements m.shape.sizes)
      → Stands p f front cs i h s (added roots (location.Answer i cs ∷ []))
  stands_answer g h s m is fresh st more = subst (λ rs. Stands p f front cs i h s rs) (sym (ap (λ b. if b then roots else roots ++ location.Answer i cs ∷ []) fresh)) (record {
    number = more.number ∙ st.number;
    cells = more.cells ∙ (λ j. st.cells j ++ map (own_cell (path_of g.process) (st.number j) (st.next j) m) (elements m.shape.sizes))
        ∙ append_assoc front (own_cells p i f (path_of g.process) 0 roots) (map (own_cell (path_of g.process) i (length roots) m) (elements m.shape.sizes))
        ∙ ap (λ xs. front ++ xs) (ap (λ k. own_cells p i f (path_of g.process) 0 roots ++ map (own_cell (path_of g.process) i k m) (elements m.shape.sizes)) (from_none (length roots)) ∙ sym (cells_last p i f (path_of g.process) 0 roots (location.Answer i cs) m is))
        ∙ ap (λ q. front ++ own_cells p i f (path_of q) 0 (roots ++ location.Answer i cs ∷ [])) (sym more.process);
    next = more.next ∙ ap suc st.next ∙ length_last roots (location.Answer i cs);
    given = λ k e. last_any (location.Local i cs k) (location.Answer i cs) roots ∙ or_false (list_any (same_root (location.Local i cs k)) roots) ∙ st.given k e;
    free = λ k e. last_any (location.Local i cs k) (location.Answer i cs) roots ∙ or_false (list_any (same_root (location.Local i cs k)) roots) ∙ st.free k e;
    numbers = λ k j e l. get_first roots (location.Answer i cs) (location.Local i cs k) j (st.numbers k j e l);
  })
    where
      from_none : (n : ℕ) → n ≡ 0 + n
      from_none n = omega arith

answer_is : (p : Plain) (f i : ℕ) (cs : List ℕ) (g : Function) (k : Kind) → IsHere p f cs g → g.result ≡ Some k → member_of_root p f (location.Answer i cs) ≡ Some (answer_member g k)
answer_is p f i cs g k h e =
    ap (λ o. option_and_then (λ g. option_and_then (λ h. option_map (answer_member h) h.result) (slice_get p.functions g)) o) h.leads ∙ ap (λ o. option_and_then (λ h. option_map (answer_member h) h.result) o) h.is
    ∙ ap (option_map (answer_member g)) e

pub answer_ok : {A X : Type 0} (r : Result A X) (g h : Growing) (s : Scope) (fn : PlainFunction) (k : Kind) → fn.result ≡ Some k → IsOneMore g h (answer_member (function_of fn) k) ([] ∷ [])
    → (p : Plain) (f : ℕ) (front : List prog.Cell) (cs : List ℕ) (i : ℕ) (roots : List Root) → IsHere p f cs (function_of fn) → list_any (same_root (location.Answer i cs)) roots ≡ false → Stands p f front cs i g s roots
    → OnOk r (Stands p f front cs i h s (added roots (result_root i cs fn.result)))
answer_ok r g h s fn k e more p f front cs i roots is fresh st =
    always r (subst (λ o. Stands p f front cs i h s (added roots (result_root i cs o))) (sym e) (stands_answer p f front cs i roots g h s (answer_member (function_of fn) k) (answer_is p f i cs (function_of fn) k is e) fresh st more))
  where
    always : {A X P : Type 0} (r : Result A X) → P → OnOk r P
    always (Ok a) h = h
    always (Err e) h = tt

pub call_begins : (p : Plain) (f : ℕ) (front : List prog.Cell) (cs : List ℕ) (n i : ℕ) (roots : List Root) (g : Growing) (s t : Scope) → IsFresh i (n ∷ cs) roots → IsNew t → Stands p f front cs i g s roots → Stands p f front (n ∷ cs) i g t roots
call_begins p f front cs n i roots g s t fresh none st = record {
  number = st.number;
  cells = st.cells;
  next = st.next;
  given = λ k e. never k (list_any (same_root (location.Local i (n ∷ cs) k)) roots) e;
  free = λ k e. fresh.locals k;
  numbers = λ k j e l. nowhere k j e;
}
  where
    never : (k : ℕ) (b : Bool) → is_given t k ≡ true → b ≡ true
    never k b e = let z : false ≡ true = sym (none k) ∙ e in absurd cc

    nowhere : (k j : ℕ) → is_given t k ≡ true → slice_get roots j ≡ Some (location.Local i (n ∷ cs) k)
    nowhere k j e = let z : false ≡ true = sym (none k) ∙ e in absurd cc

pub params_next : (p : Plain) (f : ℕ) (front : List prog.Cell) (cs : List ℕ) (i : ℕ) (roots : List Root) (g : Growing) (s : Scope) (n : ℕ) → Stands p f front cs i g s (one_more (added roots (first_locals i cs n)) (location.Local i cs n))
    → Stands p f front cs i g s (added roots (first_locals i cs (n + 1)))
params_next = rest_next

-- one slot more without a cell
pub new_more : (old new : List (Option ℕ)) → new ≡ old ++ None ∷ [] → ((n : ℕ) → has_cell (slice_get old n) ≡ false) → (n : ℕ) → has_cell (slice_get new n) ≡ false
new_more old new e h n = ap (λ ls. has_cell (slice_get ls n)) e ∙ last old n h
  where
    last : (old : List (Option ℕ)) (n : ℕ) → ((n : ℕ) → has_cell (slice_get old n) ≡ false) → has_cell (slice_get (old ++ None ∷ []) n) ≡ false
    last [] zero h = refl
    last [] (suc n) h = refl
    last (x ∷ xs) zero h = h 0
    last (x ∷ xs) (suc n) h = last xs n (λ k. h (suc k))

-- ---- the caller's own locals, where a call names others

record Apart (i : ℕ) (cs : List ℕ) (x : Root) : Type 0 where
  apart : (k : ℕ) → same_root (location.Local i cs k) x ≡ false

abbrev AllApart : ℕ → List ℕ → List Root → Type 0
AllApart i cs [] = Unit {0}
AllApart i cs (x ∷ xs) = Apart i cs x × AllApart i cs xs

longer : (cs ds : List ℕ) → length cs < length ds → same_calls cs ds ≡ false
longer cs [] h = absurd (omega (arith, h))
longer [] (d ∷ ds) h = refl
longer (c ∷ cs) (d ∷ ds) h = let g : length cs < length ds = omega (arith, h) in ap (λ b. nat_eq c d && b) (longer cs ds g) ∙ and_false (nat_eq c d)

one_longer : (n : ℕ) (cs : List ℕ) → same_calls cs (n ∷ cs) ≡ false
one_longer n cs = longer cs (n ∷ cs) (next (length cs))
  where
    next : (k : ℕ) → k < suc k
    next k = omega arith

inner_local : (i n m : ℕ) (cs : List ℕ) → Apart i cs (location.Local i (n ∷ cs) m)
inner_local i n m cs = record { apart = λ k. ap (λ b. (nat_eq i i && b) && nat_eq k m) (one_longer n cs) ∙ ap (λ b. b && nat_eq k m) (and_false (nat_eq i i)) }

inner_answer : (i n : ℕ) (cs : List ℕ) → Apart i cs (location.Answer i (n ∷ cs))
inner_answer i n cs = record { apart = λ k. refl }

inner_result : (i n : ℕ) (cs : List ℕ) (o : Option Kind) → AllApart i cs (result_root i (n ∷ cs) o)
inner_result i n cs None = tt
inner_result i n cs (Some k) = (inner_answer i n cs, tt)

inner_locals : (i n : ℕ) (cs : List ℕ) (ms : List ℕ) → AllApart i cs (map (location.Local i (n ∷ cs)) ms)
inner_locals i n cs [] = tt
inner_locals i n cs (m ∷ ms) = (inner_local i n m cs, inner_locals i n cs ms)

apart_any : (i k : ℕ) (cs : List ℕ) (xs roots : List Root) → AllApart i cs xs → list_any (same_root (location.Local i cs k)) (added roots xs) ≡ list_any (same_root (location.Local i cs k)) roots
apart_any i k cs [] roots h = refl
apart_any i k cs (x ∷ xs) roots h = apart_any i k cs xs (one_more roots x) h.1 ∙ by (list_any (same_root x) roots)
  where
    by : (b : Bool) → list_any (same_root (location.Local i cs k)) (if b then roots else roots ++ x ∷ []) ≡ list_any (same_root (location.Local i cs k)) roots
    by true = refl
    by false = last_any (location.Local i cs k) x roots ∙ ap (λ b. list_any (same_root (location.Local i cs k)) roots || b) (h.0.apart k) ∙ or_false (list_any (same_root (location.Local i cs k)) roots)

added_get : (xs roots : List Root) (r : Root) (k : ℕ) → slice_get roots k ≡ Some r → slice_get (added roots xs) k ≡ Some r
added_get [] roots r k e = e
added_get (x ∷ xs) roots r k e = added_get xs (one_more roots x) r k (by (list_any (same_root x) roots))
  where
    by : (b : Bool) → slice_get (if b then roots else roots ++ x ∷ []) k ≡ Some r
    by true = e
    by false = get_first roots x r k e

caller_stands : (p : Plain) (f : ℕ) (front : List prog.Cell) (cs ds : List ℕ) (i : ℕ) (roots xs : List Root) (g h : Growing) (s t : Scope) → AllApart i cs xs → Stands p f front cs i g s roots → Stands p f front ds i h t (added roots xs)
    → Stands p f front cs i h s (added roots xs)
caller_stands p f front cs ds i roots xs g h s t apart st inner = record {
  number = inner.number;
  cells = inner.cells;
  next = inner.next;
  given = λ k e. apart_any i k cs xs roots apart ∙ st.given k e;
  free = λ k e. apart_any i k cs xs roots apart ∙ st.free k e;
  numbers = λ k j e l. added_get xs roots (location.Local i cs k) j (st.numbers k j e l);
}

pub call_stands : (p : Plain) (f : ℕ) (front : List prog.Cell) (cs : List ℕ) (n i : ℕ) (roots : List Root) (o : Option Kind) (m : ℕ) (g mid h : Growing) (s t begun child : Scope) → IsKept s t → Stands p f front cs i g s roots
    → Stands p f front (n ∷ cs) i mid begun (added roots (result_root i (n ∷ cs) o)) → Stands p f front (n ∷ cs) i h child (added (added roots (result_root i (n ∷ cs) o)) (first_locals i (n ∷ cs) m))
    → Stands p f front cs i h t (added (added roots (result_root i (n ∷ cs) o)) (first_locals i (n ∷ cs) m))
call_stands p f front cs n i roots o m g mid h s t begun child kept st one two =
    let result = result_root i (n ∷ cs) o in
    let begins = caller_stands p f front cs (n ∷ cs) i roots result g mid s begun (inner_result i n cs o) st one in
    stands_kept p f front cs i (added (added roots result) (first_locals i (n ∷ cs) m)) h s t kept
    (caller_stands p f front cs (n ∷ cs) i (added roots result) (first_locals i (n ∷ cs) m) mid h s child (inner_locals i n cs (range_with_len 0 m)) begins two)
