-- Turns that are counted one after another.
use Rattle.std.proofs.Common.{◌≡◌, refl, sym, ap, ◌∙◌, arith, ℕ, zero, suc, ◌+◌, ◌-◌, ◌<◌, add-one, Bool, true, false, ◌||◌, nat_eq, if◌then◌else◌, List, [], ◌∷◌, ◌++◌, map, length, drop, drop-cons, get_or, slice_get, Option, Some, None}
use Rattle.std.specs.Prelude.{flat_map, is_some}
use Rattle.std.proofs.lemmas.Bool.Decides.{nat_tests}
use Rattle.scc_base.specs.declared.refusal.Place.{Place}
use Rattle.scc_core.specs.declared.stmt.CoreStmt.{CoreStmt}
use Rattle.scc_core.specs.declared.stmt.CoreNode.TheOpen.{CoreNode-F}
use Rattle.scc_core.specs.declared.stmt.CoreNode.TheOpen as node
use Rattle.scc_core_spec.specs.Term.{Term}
use Rattle.scc_core_spec.specs.Code.{Code, Count, End, Put, Aim, If, Block, Loop, Exit, Wait, size}
use Rattle.scc_core_spec.specs.Counted.{Counter, Counting, First, Elsewhere, Setting, Stand, Turn, behind, counted_by, counter}
use Rattle.scc_core_spec.specs.Unrolled.{Spot, looped_or, run_turns}
use Rattle.scc_core_view.specs.Codes.{Node, stmt_node, stmt_code}
use Rattle.scc_unroll.specs.Budgets.{Left, after, took, turn_spots}
use Rattle.scc_unroll.specs.declared.turns.Turn.{Turn as HeldTurn}
use Rattle.scc_unroll.specs.Turns.{turn_of}
use Rattle.scc_unroll_laws.specs.Heads.{has_loops, head_size, simple, stand_behind}
use Rattle.scc_unroll_laws.proofs.Heads.{each_stmt}

after_both : (b : Left) (xs ys : List Spot) → after b (xs ++ ys) ≡ after (after b xs) ys
after_both b [] ys = refl
after_both b (x ∷ xs) ys = after_both (took b x) xs ys

past : (o : Spot) (n : ℕ) (ss : List Spot) → after (record { left = n; over = Some o }) ss ≡ record { left = n; over = Some o }
past o n [] = refl
past o n (s ∷ ss) = past o n ss

-- behind the first one too many nothing changes
pub stays_over : (b : Left) (ss : List Spot) → is_some b.over ≡ true → after b ss ≡ b
stays_over b ss h = by b.over b.left h
  where
    by : (o : Option Spot) (n : ℕ) → is_some o ≡ true → after (record { left = n; over = o }) ss ≡ record { left = n; over = o }
    by None n h = absurd (cc h)
    by (Some o) n h = past o n ss

never : (n : ℕ) → nat_eq (suc n) 0 ≡ false
never n = grind (arith, nat_tests)

one_less : (n : ℕ) → suc n - 1 ≡ n
one_less n = omega arith

-- it is the one behind as many as there may be
pub first_over : (n : ℕ) (ss : List Spot) → (after (record { left = n; over = None }) ss).over ≡ slice_get ss n
first_over n [] = refl
first_over zero (s ∷ ss) = ap (λ b. b.over) (past s 0 ss)
first_over (suc n) (s ∷ ss) =
    ap (λ t. (after (if t then record { left = suc n; over = Some s } else record { left = suc n - 1; over = None }) ss).over) (never n)
    ∙ ap (λ k. (after (record { left = k; over = None }) ss).over) (one_less n)
    ∙ first_over n ss

-- ---- code without loops has no turns

first_no : (a b : Bool) → (a || b) ≡ false → a ≡ false
first_no true b h = h
first_no false b h = refl

other_no : (a b : Bool) → (a || b) ≡ false → b ≡ false
other_no true b h = absurd (cc h)
other_no false b h = h

none_both : (xs ys : List Spot) → xs ≡ [] → ys ≡ [] → xs ++ ys ≡ []
none_both xs ys h k = ap (λ z. z ++ ys) h ∙ k

pub no_turns : (c : Code) → has_loops c ≡ false → (s : Setting) (ns : List Counter) (w : Stand) (n : ℕ) → run_turns s ns w n c ≡ []
no_turns End h s ns w n = refl
no_turns (Put p l k e r) h s ns w n = no_turns r h s ns (behind w (record { left = l; pick = k; value = e })) (n + 1)
no_turns (Aim p to l r) h s ns w n = no_turns r h s ns Elsewhere (n + 1)
no_turns (If p t a b r) h s ns w n =
    let k = other_no (has_loops a) (has_loops b || has_loops r) h in
    none_both _ _ (no_turns a (first_no (has_loops a) (has_loops b || has_loops r) h) s ns Elsewhere (n + 1))
    (none_both _ _ (no_turns b (first_no (has_loops b) (has_loops r) k) s ns Elsewhere (n + (1 + size a))) (no_turns r (other_no (has_loops b) (has_loops r) k) s ns Elsewhere (n + (1 + (size a + size b)))))
no_turns (Block p b r) h s ns w n =
    none_both _ _ (no_turns b (first_no (has_loops b) (has_loops r) h) s ns First (n + 1)) (no_turns r (other_no (has_loops b) (has_loops r) h) s ns Elsewhere (n + (1 + size b)))
no_turns (Loop p c b r) h s ns w n = absurd (cc h)
no_turns (Exit p d r) h s ns w n = no_turns r h s ns Elsewhere (n + 1)
no_turns (Wait p l d r) h s ns w n = no_turns r h s ns Elsewhere (n + 1)

-- ---- statements

abbrev pub SimpleTurns : (Code → Code) → Type 0
SimpleTurns f = simple (f End) ≡ true → (s : Setting) (ns : List Counter) (w : Stand) (n : ℕ) (r : Code) → run_turns s ns w n (f r) ≡ run_turns s ns (stand_behind w (f End)) (n + head_size (f End)) r

simple_nodes : (y : CoreNode-F Node (Code → Code)) (p : Place) → SimpleTurns (stmt_node y p)
simple_nodes (node.Assign l e) p h = λ s ns w n r. refl
simple_nodes (node.If t a b) p h = absurd (cc h)
simple_nodes (node.Block b) p h = absurd (cc h)
simple_nodes (node.Loop c b) p h = absurd (cc h)
simple_nodes (node.Exit d) p h = λ s ns w n r. refl
simple_nodes (node.Wait d) p h = λ s ns w n r. refl
simple_nodes (node.Alias to target) p h = λ s ns w n r. refl

pub simple_turns : (s : CoreStmt) → SimpleTurns (stmt_code s)
simple_turns = each_stmt SimpleTurns simple_nodes

behind_one : (n a : ℕ) → (n + 1) + a ≡ n + (1 + a)
behind_one n a = omega arith

module _ (s : Setting) (ns : List Counter) (w : Stand) (n m : ℕ) (p : Place) (e : m ≡ n + 1) (o a : Left) where
  pub turns_if : (z : Left) (t : Term) (x y r : Code) → z ≡ after o (run_turns s ns Elsewhere m x) → a ≡ after z (run_turns s ns Elsewhere (m + size x) y)
      → after o (run_turns s ns w n (If p t x y r)) ≡ after a (run_turns s ns Elsewhere (n + (1 + (size x + size y))) r)
  turns_if z t x y r h k =
      let c = run_turns s ns Elsewhere (n + (1 + (size x + size y))) r in
      let d = run_turns s ns Elsewhere (n + (1 + size x)) y in
      after_both o (run_turns s ns Elsewhere (n + 1) x) (d ++ c)
      ∙ ap (λ i. after i (d ++ c)) (sym (h ∙ ap (λ i. after o (run_turns s ns Elsewhere i x)) e))
      ∙ after_both z d c ∙ ap (λ i. after i c) (sym (k ∙ ap (λ i. after z (run_turns s ns Elsewhere (i + size x) y)) e ∙ ap (λ i. after z (run_turns s ns Elsewhere i y)) (behind_one n (size x))))

  pub turns_block : (x r : Code) → a ≡ after o (run_turns s ns First m x) → after o (run_turns s ns w n (Block p x r)) ≡ after a (run_turns s ns Elsewhere (n + (1 + size x)) r)
  turns_block x r h =
      after_both o (run_turns s ns First (n + 1) x) (run_turns s ns Elsewhere (n + (1 + size x)) r)
      ∙ ap (λ i. after i (run_turns s ns Elsewhere (n + (1 + size x)) r)) (sym (h ∙ ap (λ i. after o (run_turns s ns First i x)) e))

  abbrev in_loop : Code → Option Counting → List Spot
  in_loop x g = looped_or g (λ g. flat_map (λ t. record { number = n; place = p } ∷ run_turns s (counter g.cell t.now ∷ ns) Elsewhere (n + 1) x) g.turns.list) (run_turns s ns Elsewhere (n + 1) x)

  pub turns_loop : (c : Option Count) (x r : Code) → counted_by s ns w c x r ≡ None → a ≡ after o (run_turns s ns Elsewhere m x)
      → after o (run_turns s ns w n (Loop p c x r)) ≡ after a (run_turns s ns Elsewhere (n + (1 + size x)) r)
  turns_loop c x r k h =
      let d = run_turns s ns Elsewhere (n + (1 + size x)) r in
      after_both o (in_loop x (counted_by s ns w c x r)) d
      ∙ ap (λ i. after i d) (ap (λ g. after o (in_loop x g)) k ∙ sym (h ∙ ap (λ i. after o (run_turns s ns Elsewhere i x)) e))

  pub turns_counted : (c : Option Count) (x r : Code) (g : Counting) (ts : List Turn) → counted_by s ns w c x r ≡ Some g → ts ≡ g.turns.list
      → a ≡ after o (flat_map (turn_spots s ns g.cell (record { number = n; place = p }) x) ts)
      → after o (run_turns s ns w n (Loop p c x r)) ≡ after a (run_turns s ns Elsewhere (n + (1 + size x)) r)
  turns_counted c x r g ts k l h =
      let d = run_turns s ns Elsewhere (n + (1 + size x)) r in
      after_both o (in_loop x (counted_by s ns w c x r)) d
      ∙ ap (λ i. after i d) (ap (λ g. after o (in_loop x g)) k ∙ sym (h ∙ ap (λ i. after o (flat_map (turn_spots s ns g.cell (record { number = n; place = p }) x) i)) l))

-- the turns from one on
turns_here : (f : Turn → List Spot) (ts : List HeldTurn) (i : ℕ) (t : HeldTurn) → i < length ts → t ≡ get_or ts i t
    → flat_map f (map turn_of (drop i ts)) ≡ f (turn_of t) ++ flat_map f (map turn_of (drop (i + 1) ts))
turns_here f ts i t h is =
    ap (λ l. flat_map f (map turn_of l)) (drop-cons ts i t h)
    ∙ ap (λ x. f (turn_of x) ++ flat_map f (map turn_of (drop (suc i) ts))) (sym is)
    ∙ ap (λ n. f (turn_of t) ++ flat_map f (map turn_of (drop n ts))) (sym (add-one i))

pub turns_more : (f : Turn → List Spot) (ts : List HeldTurn) (i : ℕ) (t : HeldTurn) (o z : Left) → i < length ts → t ≡ get_or ts i t → z ≡ after o (f (turn_of t))
    → after z (flat_map f (map turn_of (drop (i + 1) ts))) ≡ after o (flat_map f (map turn_of (drop i ts)))
turns_more f ts i t o z h is e =
    let rest = flat_map f (map turn_of (drop (i + 1) ts)) in
    ap (λ z. after z rest) e ∙ sym (after_both o (f (turn_of t)) rest) ∙ sym (ap (after o) (turns_here f ts i t h is))
