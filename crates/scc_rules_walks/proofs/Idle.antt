-- Loops through whose bodies a path goes without a wait, of a statement before others.
use Rattle.std.proofs.Common.{◌≡◌, refl, arith, ℕ, zero, suc, Bool, true, false, ◌+◌, ◌≤◌, ◌<◌, ◌||◌, min, nat_le, if◌then◌else◌, nat_eq, set, get_or, subst, ap, sym, ◌∙◌, List, [], ◌∷◌, ◌++◌, length, append_assoc, Option, Some, None}
use Rattle.std.proofs.lemmas.Bool.Decides.{nat_tests}
use Rattle.scc_base.specs.declared.refusal.Place.{Place}
use Rattle.scc_core_spec.specs.Code.{Code, Count, End, Put, Aim, If, Block, Loop, Exit, Wait}
use Rattle.scc_core_spec.specs.First.{or_else, first_of}
use Rattle.scc_core_spec.specs.Flow.{Idle, idle, then_idle, idle_loops}
use Rattle.scc_rules_walks.specs.declared.ways.Out.{Out}
use Rattle.scc_rules_walks.specs.Ways.{Way, least, pass, cut, start, marked, within, AreWithin, Passed, first_loop}

pub or_false : (b : Bool) → (b || false) ≡ b
or_false true = refl
or_false false = refl

abbrev pub made : Bool → (ℕ → Bool) → Idle
made e f = record { ends = e; leaves = f }

-- code before what follows
pub record Adds (f : Code → Code) : Type 0 where
  pub idles : (c : Code) → idle (f c) ≡ then_idle (idle (f End)).ends (idle (f End)).leaves (idle c)
  pub places : (c : Code) → idle_loops (f c) ≡ idle_loops (f End) ++ idle_loops c

twice : (e : Bool) (l : ℕ → Bool) (y : Idle) → then_idle e l y ≡ then_idle (then_idle e l (made true (λ n. false))).ends (then_idle e l (made true (λ n. false))).leaves y
twice true l y = ap (λ f. then_idle true f y) (λ i n. sym (or_false (l n)) i)
twice false l y = refl

list_around : {A : Type 0} → (a n : List A) → a ++ n ≡ (a ++ []) ++ n
list_around a n = sym (append_assoc a [] n)

list_around_two : {A : Type 0} → (a b n : List A) → a ++ (b ++ n) ≡ (a ++ (b ++ [])) ++ n
list_around_two a b n = ap (λ x. a ++ x) (list_around b n) ∙ sym (append_assoc a (b ++ []) n)

pub put_adds : (f : Code → Code) → ((c : Code) → idle (f c) ≡ idle c) → ((c : Code) → idle_loops (f c) ≡ idle_loops c) → Adds f
put_adds f i l = record {
  idles = λ c. i c ∙ ap (λ x. then_idle x.ends x.leaves (idle c)) (sym (i End));
  places = λ c. l c ∙ ap (λ xs. xs ++ idle_loops c) (sym (l End));
}

pub if_adds : (f : Code → Code) (a b : Code) → ((c : Code) → idle (f c) ≡ then_idle ((idle a).ends || (idle b).ends) (λ n. (idle a).leaves n || (idle b).leaves n) (idle c))
    → ((c : Code) → idle_loops (f c) ≡ idle_loops a ++ (idle_loops b ++ idle_loops c)) → Adds f
if_adds f a b i l = record {
  idles = λ c. i c ∙ twice ((idle a).ends || (idle b).ends) (λ n. (idle a).leaves n || (idle b).leaves n) (idle c) ∙ ap (λ x. then_idle x.ends x.leaves (idle c)) (sym (i End));
  places = λ c. l c ∙ list_around_two (idle_loops a) (idle_loops b) (idle_loops c) ∙ ap (λ xs. xs ++ idle_loops c) (sym (l End));
}

pub block_adds : (f : Code → Code) (b : Code) → ((c : Code) → idle (f c) ≡ then_idle ((idle b).ends || (idle b).leaves 0) (λ n. (idle b).leaves (suc n)) (idle c))
    → ((c : Code) → idle_loops (f c) ≡ idle_loops b ++ idle_loops c) → Adds f
block_adds f b i l = record {
  idles = λ c. i c ∙ twice ((idle b).ends || (idle b).leaves 0) (λ n. (idle b).leaves (suc n)) (idle c) ∙ ap (λ x. then_idle x.ends x.leaves (idle c)) (sym (i End));
  places = λ c. l c ∙ list_around (idle_loops b) (idle_loops c) ∙ ap (λ xs. xs ++ idle_loops c) (sym (l End));
}

-- ways
least_none : (w : Way) → least w None ≡ w
least_none None = refl
least_none (Some a) = refl

pub least_self : (w : Way) → least w w ≡ w
least_self None = refl
least_self (Some a) = ap Some (same_min a)
  where
    same_min : (n : ℕ) → min n n ≡ n
    same_min n = omega arith

min_again : (a b : ℕ) → min (min a b) b ≡ min a b
min_again a b = omega arith

least_again : (w c : Way) → least (least w c) c ≡ least w c
least_again None c = least_self c
least_again (Some a) None = refl
least_again (Some a) (Some b) = ap Some (min_again a b)

two_marks : (x y : Bool) (w c : Way) → least (least w (pass x c)) (pass y c) ≡ least w (pass (x || y) c)
two_marks true true w c = least_again w c
two_marks true false w c = least_none (least w c)
two_marks false true w c = ap (λ z. least z c) (least_none w)
two_marks false false w c = ap (λ z. least z None) (least_none w)

marked_length : (f : ℕ → Bool) (h : Way) (os : List Out) → length (marked f h os) ≡ length os
marked_length f h [] = refl
marked_length f h (o ∷ os) = ap suc (marked_length f h os)

abbrev pub out_of : Way → ℕ → Out
out_of w d = record { way = w; depth = d }

pub marked_none : (h : Way) (os : List Out) → marked (λ n. false) h os ≡ os
marked_none h [] = refl
marked_none h (o ∷ os) = ap (λ w. out_of w o.depth ∷ marked (λ n. false) h os) (least_none o.way) ∙ ap (λ xs. o ∷ xs) (marked_none h os)

pass_none : (b : Bool) → pass b None ≡ None
pass_none true = refl
pass_none false = refl

pub marked_waited : (f : ℕ → Bool) (os : List Out) → marked f None os ≡ os
marked_waited f [] = refl
marked_waited f (o ∷ os) =
    ap (λ w. out_of (least o.way w) o.depth ∷ marked f None os) (pass_none (f (length os)))
    ∙ ap (λ w. out_of w o.depth ∷ marked f None os) (least_none o.way)
    ∙ ap (λ xs. o ∷ xs) (marked_waited f os)

pub marked_more : (f g : ℕ → Bool) (h : Way) (os : List Out) → marked g h (marked f h os) ≡ marked (λ n. f n || g n) h os
marked_more f g h [] = refl
marked_more f g h (o ∷ os) =
    ap (λ n. out_of (least (least o.way (pass (f (length os)) (cut o.depth h))) (pass (g n) (cut o.depth h))) o.depth ∷ marked g h (marked f h os)) (marked_length f h os)
    ∙ ap (λ w. out_of w o.depth ∷ marked g h (marked f h os)) (two_marks (f (length os)) (g (length os)) o.way (cut o.depth h))
    ∙ ap (λ xs. out_of (least o.way (pass (f (length os) || g (length os)) (cut o.depth h))) o.depth ∷ xs) (marked_more f g h os)

one_longer : (os : List Out) (o : Out) → length (os ++ o ∷ []) ≡ suc (length os)
one_longer [] o = refl
one_longer (x ∷ os) o = ap suc (one_longer os o)

-- the innermost block apart
pub marked_last : (f : ℕ → Bool) (h : Way) (os : List Out) (o : Out)
    → marked f h (os ++ o ∷ []) ≡ marked (λ n. f (suc n)) h os ++ out_of (least o.way (pass (f 0) (cut o.depth h))) o.depth ∷ []
marked_last f h [] o = refl
marked_last f h (x ∷ os) o =
    ap (λ n. out_of (least x.way (pass (f n) (cut x.depth h))) x.depth ∷ marked f h (os ++ o ∷ [])) (one_longer os o)
    ∙ ap (λ xs. out_of (least x.way (pass (f (suc (length os))) (cut x.depth h))) x.depth ∷ xs) (marked_last f h os o)

cut_within : (d h : ℕ) → h ≤ d → cut d (Some h) ≡ Some h
cut_within d h le = ap (λ b. if b then Some h else None) (is_le h d le)
  where
    is_le : (a b : ℕ) → a ≤ b → nat_le a b ≡ true
    is_le a b l = grind (arith, nat_tests)

pub cut_same : (d : ℕ) (w : Way) → within d w → cut d w ≡ w
cut_same d None i = refl
cut_same d (Some h) i = cut_within d h i

le_min : (h d e : ℕ) → e ≤ d → nat_le (min h (d + 1)) e ≡ nat_le h e
le_min h d e l = grind (arith, nat_tests)

min_below : (h d e : ℕ) → e ≤ d → nat_le h e ≡ true → min h (d + 1) ≡ h
min_below h d e l t = grind (arith, nat_tests)

not_below : (d e : ℕ) → e ≤ d → nat_le (d + 1) e ≡ false
not_below d e l = grind (arith, nat_tests)

start_some : (h d e : ℕ) (b : Bool) → e ≤ d → nat_le h e ≡ b → (if b then Some (min h (d + 1)) else None) ≡ (if b then Some h else None)
start_some h d e true l t = ap Some (min_below h d e l t)
start_some h d e false l t = refl

-- from a loop's body a block around it is left as from the loop
cut_start : (d e : ℕ) (w : Way) → e ≤ d → cut e (Some (start (d + 1) w)) ≡ cut e w
cut_start d e None l = ap (λ b. if b then Some (d + 1) else None) (not_below d e l)
cut_start d e (Some h) l = ap (λ b. if b then Some (min h (d + 1)) else None) (le_min h d e l) ∙ start_some h d e (nat_le h e) l refl

pub marked_start : (f : ℕ → Bool) (d : ℕ) (w : Way) (os : List Out) → AreWithin d os → marked f (Some (start (d + 1) w)) os ≡ marked f w os
marked_start f d w [] i = refl
marked_start f d w (o ∷ os) i =
    ap (λ c. out_of (least o.way (pass (f (length os)) c)) o.depth ∷ marked f (Some (start (d + 1) w)) os) (cut_start d o.depth w i.0)
    ∙ ap (λ xs. out_of (least o.way (pass (f (length os)) (cut o.depth w))) o.depth ∷ xs) (marked_start f d w os i.1)

min_within : (h d : ℕ) → min h d ≤ d
min_within h d = omega arith

self_within : (d : ℕ) → d ≤ d
self_within d = omega arith

pub start_within : (d : ℕ) (w : Way) → start d w ≤ d
start_within d None = self_within d
start_within d (Some h) = min_within h d

one_above : (d e : ℕ) → e ≤ d → e ≤ d + 1
one_above d e l = omega arith

pub are_above : (d : ℕ) (os : List Out) → AreWithin d os → AreWithin (d + 1) os
are_above d [] i = tt
are_above d (o ∷ os) i = (one_above d o.depth i.0, are_above d os i.1)

pub one_more_within : (d : ℕ) (w : Way) (os : List Out) → AreWithin d os → AreWithin d (os ++ out_of w d ∷ [])
one_more_within d w [] i = (self_within d, tt)
one_more_within d w (o ∷ os) i = (i.0, one_more_within d w os i.1)

pub marked_within : (d : ℕ) (f : ℕ → Bool) (h : Way) (os : List Out) → AreWithin d os → AreWithin d (marked f h os)
marked_within d f h [] i = tt
marked_within d f h (o ∷ os) i = (i.0, marked_within d f h os i.1)

pub pass_within : (d : ℕ) (b : Bool) (h : Way) → within d h → within d (pass b h)
pass_within d true h i = i
pass_within d false h i = tt

pub pass_both : (x y : Bool) (h : Way) → least (pass x h) (pass y h) ≡ pass (x || y) h
pass_both true true h = least_self h
pass_both true false h = least_none h
pass_both false true h = refl
pass_both false false h = refl

-- what is left of a list gives the whole
pub record Along (x y : Idle) (xs ys : List Place) (here way : Way) (outs now : List Out) (first found : Option Place) : Type 0 where
  pub ends : pass y.ends way ≡ pass x.ends here
  pub marks : marked y.leaves way now ≡ marked x.leaves here outs
  pub places : or_else found (first_of Some ys) ≡ or_else first (first_of Some xs)

pub or_else_both : (xs ys : List Place) → first_of Some (xs ++ ys) ≡ or_else (first_of Some xs) (first_of Some ys)
or_else_both [] ys = refl
or_else_both (x ∷ xs) ys = refl

pub or_else_more : {A : Type 0} (a b c : Option A) → or_else (or_else a b) c ≡ or_else a (or_else b c)
or_else_more None b c = refl
or_else_more (Some a) b c = refl

pub or_else_none : {A : Type 0} (a : Option A) → or_else a None ≡ a
or_else_none None = refl
or_else_none (Some a) = refl

pub along_first : (x : Idle) (xs : List Place) (here : Way) (outs : List Out) (first : Option Place) → Along x x xs xs here here outs outs first first
along_first x xs here outs first = record { ends = refl; marks = refl; places = refl }

ends_on : (b : Bool) (l : ℕ → Bool) (w : Idle) (h : Way) → pass w.ends (pass b h) ≡ pass (then_idle b l w).ends h
ends_on true l w h = refl
ends_on false l w h = pass_none w.ends

marks_on : (b : Bool) (l : ℕ → Bool) (w : Idle) (h : Way) (os : List Out) → marked w.leaves (pass b h) (marked l h os) ≡ marked (then_idle b l w).leaves h os
marks_on true l w h os = marked_more l w.leaves h os
marks_on false l w h os = marked_waited w.leaves (marked l h os)

pub along_next : (x y z w : Idle) (xs ys zs ws : List Place) (here way next : Way) (outs now more : List Out) (first found later : Option Place)
    → y ≡ then_idle z.ends z.leaves w → ys ≡ zs ++ ws → Along x y xs ys here way outs now first found → Passed z zs way next now more found later
    → Along x w xs ws here next outs more first later
along_next x y z w xs ys zs ws here way next outs now more first found later is are a d = record {
  ends = ap (pass w.ends) d.ends ∙ ends_on z.ends z.leaves w way ∙ ap (λ v. pass v.ends way) (sym is) ∙ a.ends;
  marks = ap (λ h. marked w.leaves h more) d.ends ∙ ap (marked w.leaves (pass z.ends way)) d.marks ∙ marks_on z.ends z.leaves w way now ∙ ap (λ v. marked v.leaves way now) (sym is) ∙ a.marks;
  places = ap (λ o. or_else o (first_of Some ws)) d.places ∙ or_else_more found (first_of Some zs) (first_of Some ws) ∙ ap (or_else found) (sym (or_else_both zs ws)) ∙ ap (λ v. or_else found (first_of Some v)) (sym are) ∙ a.places;
}

pub along_ends : (x : Idle) (xs : List Place) (c : Code) (here way : Way) (outs now : List Out) (first found : Option Place) → c ≡ End
    → Along x (idle c) xs (idle_loops c) here way outs now first found → Passed x xs here way outs now first found
along_ends x xs c here way outs now first found none a =
    let b : Along x (idle End) xs (idle_loops End) here way outs now first found = subst (λ d. Along x (idle d) xs (idle_loops d) here way outs now first found) none a in
    record { ends = b.ends; marks = sym (marked_none way now) ∙ b.marks; places = sym (or_else_none found) ∙ b.places }

-- one block is left
no_change : (w : Way) → least w (pass false None) ≡ w
no_change w = least_none w

unmarked : (w c : Way) (b : Bool) → b ≡ false → least w (pass b c) ≡ w
unmarked w c b e = ap (λ x. least w (pass x c)) e ∙ least_none w

now_marked : (w c : Way) (b : Bool) → b ≡ true → least w (pass b c) ≡ least w c
now_marked w c b e = ap (λ x. least w (pass x c)) e

one_less : (n : ℕ) (o : Out) (os : List Out) → length (o ∷ os) ≤ n → length os < n
one_less n o os l = omega arith

less_in : (n : ℕ) (o : Out) (os : List Out) → length (o ∷ os) ≤ n → length os ≤ n
less_in n o os l = omega arith

differ : (a b : ℕ) → a < b → nat_eq a b ≡ false
differ a b l = grind (arith, nat_tests)

differ_too : (a b : ℕ) → b < a → nat_eq a b ≡ false
differ_too a b l = grind (arith, nat_tests)

same_number : (a b : ℕ) → a ≡ b → nat_eq a b ≡ true
same_number a b e = grind (arith, nat_tests)

beyond : (n : ℕ) (h : Way) (os : List Out) → length os ≤ n → marked (λ m. nat_eq m n) h os ≡ os
beyond n h [] l = refl
beyond n h (o ∷ os) l =
    ap (λ w. out_of w o.depth ∷ marked (λ m. nat_eq m n) h os) (unmarked o.way (cut o.depth h) (nat_eq (length os) n) (differ (length os) n (one_less n o os l)))
    ∙ ap (λ xs. o ∷ xs) (beyond n h os (less_in n o os l))

none_at : (at n : ℕ) → at + (n + 1) ≡ 0 → ⊥
none_at at n e = omega arith

here_zero : (n : ℕ) (o : Out) (os : List Out) → 0 + (n + 1) ≡ length (o ∷ os) → length os ≡ n
here_zero n o os e = omega arith

below : (n : ℕ) (o : Out) (os : List Out) → 0 + (n + 1) ≡ length (o ∷ os) → length os ≤ n
below n o os e = omega arith

inner_at : (at n : ℕ) (o : Out) (os : List Out) → suc at + (n + 1) ≡ length (o ∷ os) → at + (n + 1) ≡ length os
inner_at at n o os e = omega arith

inner_less : (at n : ℕ) (o : Out) (os : List Out) → suc at + (n + 1) ≡ length (o ∷ os) → n < length os
inner_less at n o os e = omega arith

abbrev pub leaves_by : Way → Out → Out
leaves_by h o = out_of (least o.way (cut o.depth h)) o.depth

pub marked_at : (os : List Out) (at n : ℕ) (h : Way) (d o : Out) → at + (n + 1) ≡ length os → o ≡ get_or os at d → set os at (leaves_by h o) ≡ marked (λ m. nat_eq m n) h os
marked_at [] at n h d o e is = absurd (none_at at n e)
marked_at (x ∷ os) zero n h d o e is =
    ap (λ y. leaves_by h y ∷ os) is
    ∙ ap (λ xs. leaves_by h x ∷ xs) (sym (beyond n h os (below n x os e)))
    ∙ ap (λ w. out_of w x.depth ∷ marked (λ m. nat_eq m n) h os) (sym (now_marked x.way (cut x.depth h) (nat_eq (length os) n) (same_number (length os) n (here_zero n x os e))))
marked_at (x ∷ os) (suc at) n h d o e is =
    ap (λ xs. x ∷ xs) (marked_at os at n h d o (inner_at at n x os e) is)
    ∙ ap (λ w. out_of w x.depth ∷ marked (λ m. nat_eq m n) h os) (sym (unmarked x.way (cut x.depth h) (nat_eq (length os) n) (differ_too (length os) n (inner_less at n x os e))))
