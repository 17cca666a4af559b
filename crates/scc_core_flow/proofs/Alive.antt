-- The live part of a statement before others, and of a list from one of its statements on.
use Rattle.std.proofs.Common.{◌≡◌, refl, arith, ℕ, zero, suc, Bool, true, false, ◌+◌, ◌<◌, ◌||◌, nat_eq, set, slice_set, ◌≤◌, subst, ap, sym, ◌∙◌, List, [], ◌∷◌, ◌++◌, drop, get_or, length, drop-cons, add-one, Option}
use Rattle.std.proofs.lemmas.Bool.Decides.{nat_tests}
use Rattle.scc_base.specs.declared.refusal.Place.{Place}
use Rattle.scc_core.specs.declared.stmt.CoreStmt.{CoreStmt, fold-roll-CoreStmt, ind-CoreStmt}
use Rattle.scc_core.specs.declared.stmt.CoreNode.{CoreNode, fold-CoreNode, fold-roll-CoreNode}
use Rattle.scc_core.specs.declared.stmt.CoreNode.TheOpen.{CoreNode-F}
use Rattle.scc_core.specs.declared.stmt.CoreNode.TheOpen as node
use Rattle.scc_core_spec.specs.Code.{Code, Count, End, Put, Aim, If, Block, Loop, Exit, Wait, append}
use Rattle.scc_core_spec.specs.Static.{Cells, goes}
use Rattle.scc_core_spec.specs.Live.{Alive, alive, then_alive, by_test, looped, shut}
use Rattle.scc_core_view.specs.Codes.{Node, stmt_node, stmt_step, stmt_code, code_of, before, counted}
use Rattle.scc_core_view.specs.Terms.{term_of}
use Rattle.scc_core_flow.specs.Live.{left_by, Walked}

pub nothing_behind : (c : Code) → append c End ≡ c
nothing_behind End = refl
nothing_behind (Put p l k e r) = ap (Put p l k e) (nothing_behind r)
nothing_behind (Aim p to t r) = ap (Aim p to t) (nothing_behind r)
nothing_behind (If p t a b r) = ap (If p t a b) (nothing_behind r)
nothing_behind (Block p b r) = ap (Block p b) (nothing_behind r)
nothing_behind (Loop p n b r) = ap (Loop p n b) (nothing_behind r)
nothing_behind (Exit p n r) = ap (Exit p n) (nothing_behind r)
nothing_behind (Wait p l n r) = ap (Wait p l n) (nothing_behind r)

pub regrouped : (a b c : Code) → append (append a b) c ≡ append a (append b c)
regrouped End b c = refl
regrouped (Put p l k e r) b c = ap (Put p l k e) (regrouped r b c)
regrouped (Aim p to t r) b c = ap (Aim p to t) (regrouped r b c)
regrouped (If p t x y r) b c = ap (If p t x y) (regrouped r b c)
regrouped (Block p x r) b c = ap (Block p x) (regrouped r b c)
regrouped (Loop p n x r) b c = ap (Loop p n x) (regrouped r b c)
regrouped (Exit p n r) b c = ap (Exit p n) (regrouped r b c)
regrouped (Wait p l n r) b c = ap (Wait p l n) (regrouped r b c)

or_false : (b : Bool) → (b || false) ≡ b
or_false true = refl
or_false false = refl

or_or : (a b c : Bool) → ((a || b) || c) ≡ (a || (b || c))
or_or true b c = refl
or_or false b c = refl

abbrev pub made : Code → Bool → (ℕ → Bool) → Alive
made c e f = record { code = c; ends = e; leaves = f }

none_then : (cs : Cells) (x : Alive) (b : Bool) → x.ends ≡ b → then_alive b x (alive cs End) ≡ x
none_then cs x true h =
    ap (λ c. made c true (λ n. x.leaves n || false)) (nothing_behind x.code)
    ∙ ap (λ f. made x.code true f) (λ i n. or_false (x.leaves n) i)
    ∙ ap (λ e. made x.code e x.leaves) (sym h)
none_then cs x false h = refl

pub then_none : (cs : Cells) (x : Alive) → then_alive x.ends x (alive cs End) ≡ x
then_none cs x = none_then cs x x.ends refl

loop_stays : (p : Place) (n : Option Count) (x y : Alive) (b : Bool) → x.ends ≡ b → looped b p n x ≡ then_alive (looped b p n x).ends (looped b p n x) y
loop_stays p n x y true h = refl
loop_stays p n x y false h = ap (λ b. then_alive b x y) (sym h)

-- a statement before others
pub record Adds (cs : Cells) (f : Code → Code) : Type 0 where
  pub appends : (c : Code) → f c ≡ append (f End) c
  pub lives : (c : Code) → alive cs (f c) ≡ then_alive (alive cs (f End)).ends (alive cs (f End)) (alive cs c)

adds : (cs : Cells) (y : CoreNode-F Node (Code → Code)) (p : Place) → Adds cs (stmt_node y p)
adds cs (node.Assign l e) p = record { appends = λ c. refl; lives = λ c. refl }
adds cs (node.If t a b) p = record {
  appends = λ c. refl;
  lives = λ c. ap (λ z. then_alive z.ends z (alive cs c)) (sym (then_none cs (by_test (goes cs (term_of t)) p (term_of t) (alive cs (before a End)) (alive cs (before b End)))));
}
adds cs (node.Block b) p = record {
  appends = λ c. refl;
  lives = λ c. ap (λ z. then_alive z.ends z (alive cs c)) (sym (then_none cs (shut p (alive cs (before b End)))));
}
adds cs (node.Loop n b) p = record {
  appends = λ c. refl;
  lives = λ c. loop_stays p (counted n) (alive cs (before b End)) (alive cs c) (alive cs (before b End)).ends refl;
}
adds cs (node.Exit n) p = record { appends = λ c. refl; lives = λ c. refl }
adds cs (node.Wait n) p = record { appends = λ c. refl; lives = λ c. refl }
adds cs (node.Alias to target) p = record { appends = λ c. refl; lives = λ c. refl }

abbrev node_fold : CoreNode → Node
node_fold = fold-CoreNode Node (Code → Code) stmt_node stmt_step

pub stmt_adds : (cs : Cells) (s : CoreStmt) → Adds cs (stmt_code s)
stmt_adds cs = ind-CoreStmt (λ n. (p : Place) → Adds cs (node_fold n p)) (λ s. Adds cs (stmt_code s))
    (λ x y is p. subst (λ f. Adds cs (f p)) (sym (fold-roll-CoreNode Node (Code → Code) stmt_node stmt_step x)) (adds cs _ p))
    (λ x y is. subst (λ f. Adds cs f) (sym (fold-roll-CoreStmt Node (Code → Code) stmt_node stmt_step x)) (subst (λ n. Adds cs (node_fold n x.place)) (ap (λ z. z.node) is) (y.node.1 x.place)))

-- a statement and those behind it
pub from_here : (ss : List CoreStmt) (i : ℕ) (s : CoreStmt) → i < length ss → s ≡ get_or ss i s → code_of (drop i ss) ≡ stmt_code s (code_of (drop (i + 1) ss))
from_here ss i s h is =
    ap code_of (drop-cons ss i s h)
    ∙ ap (λ x. stmt_code x (code_of (drop (suc i) ss))) (sym is)
    ∙ ap (λ n. stmt_code s (code_of (drop n ss))) (sym (add-one i))

pub code_joins : (ss ts : List CoreStmt) → code_of (ss ++ ts) ≡ append (code_of ss) (code_of ts)
code_joins [] ts = refl
code_joins (s ∷ ss) ts =
    ap (stmt_code s) (code_joins ss ts)
    ∙ (stmt_adds [] s).appends (append (code_of ss) (code_of ts))
    ∙ sym (regrouped (stmt_code s End) (code_of ss) (code_of ts))
    ∙ ap (λ c. append c (code_of ts)) (sym ((stmt_adds [] s).appends (code_of ss)))

-- flags of open blocks
pub left_length : (f : ℕ → Bool) (xs : List Bool) → length (left_by f xs) ≡ length xs
left_length f [] = refl
left_length f (x ∷ xs) = ap suc (left_length f xs)

pub left_none : (xs : List Bool) → left_by (λ n. false) xs ≡ xs
left_none [] = refl
left_none (x ∷ xs) = ap (λ b. b ∷ left_by (λ n. false) xs) (or_false x) ∙ ap (λ ys. x ∷ ys) (left_none xs)

pub left_more : (f g : ℕ → Bool) (xs : List Bool) → left_by g (left_by f xs) ≡ left_by (λ n. f n || g n) xs
left_more f g [] = refl
left_more f g (x ∷ xs) =
    ap (λ n. ((x || f (length xs)) || g n) ∷ left_by g (left_by f xs)) (left_length f xs)
    ∙ ap (λ b. b ∷ left_by g (left_by f xs)) (or_or x (f (length xs)) (g (length xs)))
    ∙ ap (λ ys. (x || (f (length xs) || g (length xs))) ∷ ys) (left_more f g xs)

one_longer : (xs : List Bool) (b : Bool) → length (xs ++ b ∷ []) ≡ suc (length xs)
one_longer [] b = refl
one_longer (x ∷ xs) b = ap suc (one_longer xs b)

-- the innermost block apart
pub left_last : (f : ℕ → Bool) (xs : List Bool) (b : Bool) → left_by f (xs ++ b ∷ []) ≡ left_by (λ n. f (suc n)) xs ++ (b || f 0) ∷ []
left_last f [] b = refl
left_last f (x ∷ xs) b = ap (λ n. (x || f n) ∷ left_by f (xs ++ b ∷ [])) (one_longer xs b) ∙ ap (λ ys. (x || f (suc (length xs))) ∷ ys) (left_last f xs b)

-- one block is left
beyond : (n : ℕ) (xs : List Bool) → length xs ≤ n → left_by (λ m. nat_eq m n) xs ≡ xs
beyond n [] l = refl
beyond n (x ∷ xs) l =
    ap (λ b. (x || b) ∷ left_by (λ m. nat_eq m n) xs) (differ (length xs) n (one_less n x xs l))
    ∙ ap (λ b. b ∷ left_by (λ m. nat_eq m n) xs) (or_false x)
    ∙ ap (λ ys. x ∷ ys) (beyond n xs (within n x xs l))
  where
    one_less : (n : ℕ) (x : Bool) (xs : List Bool) → length (x ∷ xs) ≤ n → length xs < n
    one_less n x xs l = omega arith

    within : (n : ℕ) (x : Bool) (xs : List Bool) → length (x ∷ xs) ≤ n → length xs ≤ n
    within n x xs l = omega arith

    differ : (a b : ℕ) → a < b → nat_eq a b ≡ false
    differ a b l = grind (arith, nat_tests)

or_true : (b : Bool) → (b || true) ≡ true
or_true true = refl
or_true false = refl

same_number : (a b : ℕ) → a ≡ b → nat_eq a b ≡ true
same_number a b e = grind (arith, nat_tests)

other_number : (a b : ℕ) → b < a → nat_eq a b ≡ false
other_number a b l = grind (arith, nat_tests)

here_zero : (n : ℕ) (x : Bool) (xs : List Bool) → 0 + (n + 1) ≡ length (x ∷ xs) → length xs ≡ n
here_zero n x xs e = omega arith

below : (n : ℕ) (x : Bool) (xs : List Bool) → 0 + (n + 1) ≡ length (x ∷ xs) → length xs ≤ n
below n x xs e = omega arith

inner_at : (at n : ℕ) (x : Bool) (xs : List Bool) → suc at + (n + 1) ≡ length (x ∷ xs) → at + (n + 1) ≡ length xs
inner_at at n x xs e = omega arith

inner_less : (at n : ℕ) (x : Bool) (xs : List Bool) → suc at + (n + 1) ≡ length (x ∷ xs) → n < length xs
inner_less at n x xs e = omega arith

pub left_at : (xs : List Bool) (at n : ℕ) → at + (n + 1) ≡ length xs → set xs at true ≡ left_by (λ m. nat_eq m n) xs
left_at [] at n e = absurd (none at n e)
  where
    none : (at n : ℕ) → at + (n + 1) ≡ 0 → ⊥
    none at n e = omega arith
left_at (x ∷ xs) zero n e =
    ap (λ ys. true ∷ ys) (sym (beyond n xs (below n x xs e)))
    ∙ ap (λ b. b ∷ left_by (λ m. nat_eq m n) xs) (sym (or_true x))
    ∙ ap (λ b. (x || b) ∷ left_by (λ m. nat_eq m n) xs) (sym (same_number (length xs) n (here_zero n x xs e)))
left_at (x ∷ xs) (suc at) n e =
    ap (λ ys. x ∷ ys) (left_at xs at n (inner_at at n x xs e))
    ∙ ap (λ b. b ∷ left_by (λ m. nat_eq m n) xs) (sym (or_false x))
    ∙ ap (λ b. (x || b) ∷ left_by (λ m. nat_eq m n) xs) (sym (other_number (length xs) n (inner_less at n x xs e)))

pub left_one : (xs now : List Bool) (at n : ℕ) → at + (n + 1) ≡ length xs → now ≡ slice_set xs at true → now ≡ left_by (λ m. nat_eq m n) xs
left_one xs now at n e h = h ∙ left_at xs at n e

-- what is left of a list gives the whole
pub record Along (x y : Alive) (out now : List CoreStmt) (left flags : List Bool) : Type 0 where
  pub code : append (code_of now) y.code ≡ append (code_of out) x.code
  pub told : y.ends ≡ x.ends
  pub marks : left_by y.leaves flags ≡ left_by x.leaves left

pub along_first : (x : Alive) (out : List CoreStmt) (left : List Bool) → Along x x out out left left
along_first x out left = record { code = refl; told = refl; marks = refl }

behind_all : (cs : Cells) (ss : List CoreStmt) (i : ℕ) (s : CoreStmt) → i < length ss → s ≡ get_or ss i s
    → alive cs (code_of (drop i ss)) ≡ then_alive (alive cs (code_of (s ∷ []))).ends (alive cs (code_of (s ∷ []))) (alive cs (code_of (drop (i + 1) ss)))
behind_all cs ss i s h is = ap (alive cs) (from_here ss i s h is) ∙ (stmt_adds cs s).lives (code_of (drop (i + 1) ss))

go_on : (x y z w : Alive) (out now next : List CoreStmt) (left flags more : List Bool) → y ≡ then_alive z.ends z w → Along x y out now left flags → Walked z true now next flags more
    → Along x w out next left more
go_on x y z w out now next left flags more is a d =
    let e : y ≡ then_alive true z w = is ∙ ap (λ b. then_alive b z w) (sym d.told) in
    record {
      code = ap (λ c. append c w.code) d.code ∙ regrouped (code_of now) z.code w.code ∙ ap (λ v. append (code_of now) v.code) (sym e) ∙ a.code;
      told = ap (λ v. v.ends) (sym e) ∙ a.told;
      marks = ap (left_by w.leaves) d.marks ∙ left_more z.leaves w.leaves flags ∙ ap (λ v. left_by v.leaves flags) (sym e) ∙ a.marks;
    }

stop : (x y z w : Alive) (out now next : List CoreStmt) (left flags more : List Bool) → y ≡ then_alive z.ends z w → Along x y out now left flags → Walked z false now next flags more
    → Walked x false out next left more
stop x y z w out now next left flags more is a d =
    let e : z ≡ y = ap (λ b. then_alive b z w) d.told ∙ sym is in
    record {
      code = d.code ∙ ap (λ v. append (code_of now) v.code) e ∙ a.code;
      told = d.told ∙ ap (λ v. v.ends) e ∙ a.told;
      marks = d.marks ∙ ap (λ v. left_by v.leaves flags) e ∙ a.marks;
    }

pub along_next : (cs : Cells) (ss : List CoreStmt) (i : ℕ) (s : CoreStmt) (out now next : List CoreStmt) (left flags more : List Bool) → i < length ss → s ≡ get_or ss i s
    → Along (alive cs (code_of ss)) (alive cs (code_of (drop i ss))) out now left flags → Walked (alive cs (code_of (s ∷ []))) true now next flags more
    → Along (alive cs (code_of ss)) (alive cs (code_of (drop (i + 1) ss))) out next left more
along_next cs ss i s out now next left flags more h is = go_on _ _ _ _ out now next left flags more (behind_all cs ss i s h is)

pub along_stops : (cs : Cells) (ss : List CoreStmt) (i : ℕ) (s : CoreStmt) (out now next : List CoreStmt) (left flags more : List Bool) → i < length ss → s ≡ get_or ss i s
    → Along (alive cs (code_of ss)) (alive cs (code_of (drop i ss))) out now left flags → Walked (alive cs (code_of (s ∷ []))) false now next flags more
    → Walked (alive cs (code_of ss)) false out next left more
along_stops cs ss i s out now next left flags more h is = stop _ _ _ _ out now next left flags more (behind_all cs ss i s h is)

pub along_ends : (cs : Cells) (x : Alive) (ss out now : List CoreStmt) (left flags : List Bool) → ss ≡ [] → Along x (alive cs (code_of ss)) out now left flags → Walked x true out now left flags
along_ends cs x ss out now left flags none a =
    let b : Along x (alive cs End) out now left flags = subst (λ ts. Along x (alive cs (code_of ts)) out now left flags) none a in
    record { code = sym (nothing_behind (code_of now)) ∙ b.code; told = b.told; marks = sym (left_none flags) ∙ b.marks }
