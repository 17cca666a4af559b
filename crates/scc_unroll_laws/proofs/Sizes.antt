-- Sizes of unrolled statements, added one after another.
use Rattle.std.proofs.Common.{◌≡◌, refl, sym, ap, ◌∙◌, arith, ℕ, ◌+◌, ◌<◌, ◌≤◌, ◌↔◌, min, nat_lt, Bool, true, false, List, ◌∷◌, map, Option, Some, None, option_map}
use Rattle.std.proofs.lemmas.Bool.Decides.{nat_tests}
use Rattle.std.specs.Bool.{IsTrue}
use Rattle.scc_base.specs.declared.refusal.Place.{Place}
use Rattle.scc_base.specs.declared.tally.Tally.{Tally}
use Rattle.scc_core.specs.declared.stmt.CoreStmt.{CoreStmt}
use Rattle.scc_core.specs.declared.stmt.CoreNode.TheOpen.{CoreNode-F}
use Rattle.scc_core.specs.declared.stmt.CoreNode.TheOpen as node
use Rattle.scc_core_spec.specs.Term.{Term}
use Rattle.scc_core_spec.specs.Code.{Code, Count, End, If, Block, Loop, size}
use Rattle.scc_core_spec.specs.Counted.{Counter, Counting, First, Elsewhere, Setting, Stand, Turn, Turning, counted_by, counter, ended, turning_of}
use Rattle.scc_core_spec.specs.Unrolled.{counting_count, looped_or, unrolled, written_out}
use Rattle.scc_core_view.specs.Codes.{Node, stmt_node, stmt_code}
use Rattle.scc_unroll_laws.specs.Heads.{simple, stand_behind}
use Rattle.scc_unroll_laws.specs.Sizes.{Sum, sum_of, more}
use Rattle.scc_unroll_laws.specs.Writing.{each_turn}
use Rattle.scc_unroll_laws.proofs.Heads.{each_stmt}

-- ---- sums with a limit

abbrev sum_by : ℕ → ℕ → Sum
sum_by c l = record { count = c; limit = l }

sum_with : (l a b : ℕ) → a ≡ b → sum_by a l ≡ sum_by b l
sum_with l a b e = ap (λ n. sum_by n l) e

twice : (c l a b : ℕ) → min (min (c + a) (l + 1) + b) (l + 1) ≡ min (c + (a + b)) (l + 1)
twice c l a b = omega arith

pub more_more : (s : Sum) (a b : ℕ) → more (more s a) b ≡ more s (a + b)
more_more s a b = sum_with s.limit _ _ (twice s.count s.limit a b)

full : (c l n : ℕ) → l < c → c ≤ l + 1 → min (c + n) (l + 1) ≡ c
full c l n h k = omega arith

none : (c l : ℕ) → c ≤ l + 1 → min (c + 0) (l + 1) ≡ c
none c l k = omega arith

-- past the limit nothing changes
pub stays_full : (t : Tally) (n : ℕ) → t.limit < t.count → t.count ≤ t.limit + 1 → more (sum_of t) n ≡ sum_of t
stays_full t n h k = sum_with t.limit _ _ (full t.count t.limit n h k)

pub no_more : (t : Tally) → t.count ≤ t.limit + 1 → more (sum_of t) 0 ≡ sum_of t
no_more t k = sum_with t.limit _ _ (none t.count t.limit k)

pub sum_is : (t u : Tally) (n : ℕ) → u.count ≡ min (t.count + n) (t.limit + 1) → u.limit ≡ t.limit → sum_of u ≡ more (sum_of t) n
sum_is t u n c l = ap (sum_by u.count) l ∙ sum_with t.limit _ _ c

-- ---- statements in which no other stands

abbrev pub SimpleSize : (Code → Code) → Type 0
SimpleSize f = simple (f End) ≡ true → (s : Setting) (ns : List Counter) (w : Stand) (r : Code) → size (unrolled s ns w (f r)) ≡ 1 + size (unrolled s ns (stand_behind w (f End)) r)

simple_sizes : (y : CoreNode-F Node (Code → Code)) (p : Place) → SimpleSize (stmt_node y p)
simple_sizes (node.Assign l e) p h = λ s ns w r. refl
simple_sizes (node.If t a b) p h = absurd (cc h)
simple_sizes (node.Block b) p h = absurd (cc h)
simple_sizes (node.Loop c b) p h = absurd (cc h)
simple_sizes (node.Exit d) p h = λ s ns w r. refl
simple_sizes (node.Wait d) p h = λ s ns w r. refl
simple_sizes (node.Alias to target) p h = λ s ns w r. refl

simple_size : (s : CoreStmt) → SimpleSize (stmt_code s)
simple_size = each_stmt SimpleSize simple_sizes

pub size_simple : (x : CoreStmt) → simple (stmt_code x End) ≡ true → (s : Setting) (ns : List Counter) (w : Stand) (r : Code) (o a : Sum) → a ≡ more o 1
    → more o (size (unrolled s ns w (stmt_code x r))) ≡ more a (size (unrolled s ns (stand_behind w (stmt_code x End)) r))
size_simple x h s ns w r o a e =
    let n = size (unrolled s ns (stand_behind w (stmt_code x End)) r) in
    ap (more o) (simple_size x h s ns w r) ∙ sym (more_more o 1 n) ∙ ap (λ z. more z n) (sym e)

-- ---- statements in which others stand

module _ (s : Setting) (ns : List Counter) (w : Stand) (p : Place) (o m a : Sum) where
  abbrev here : Stand → Code → ℕ
  here v c = size (unrolled s ns v c)

  nested : (n k : ℕ) → m ≡ more o 1 → a ≡ more m n → more o (1 + (n + k)) ≡ more a k
  nested n k e h = sym (more_more o 1 (n + k)) ∙ ap (λ z. more z (n + k)) (sym e) ∙ sym (more_more m n k) ∙ ap (λ z. more z k) (sym h)

  pub size_if : (z : Sum) (t : Term) (x y r : Code) → m ≡ more o 1 → z ≡ more m (here Elsewhere x) → a ≡ more z (here Elsewhere y) → more o (here w (If p t x y r)) ≡ more a (here Elsewhere r)
  size_if z t x y r e h k =
      let n = here Elsewhere x in
      let i = here Elsewhere y in
      let j = here Elsewhere r in
      sym (more_more o 1 (n + (i + j))) ∙ ap (λ z. more z (n + (i + j))) (sym e) ∙ sym (more_more m n (i + j)) ∙ ap (λ z. more z (i + j)) (sym h)
      ∙ sym (more_more z i j) ∙ ap (λ z. more z j) (sym k)

  pub size_block : (x r : Code) → m ≡ more o 1 → a ≡ more m (here First x) → more o (here w (Block p x r)) ≡ more a (here Elsewhere r)
  size_block x r e h = nested (here First x) (here Elsewhere r) e h

  abbrev loop_by : Option Count → Code → Code → Option Counting → Code
  loop_by c b r g = looped_or g (λ g. written_out (turning_of b) (map (λ x. (x, unrolled s (counter g.cell x.now ∷ ns) Elsewhere b)) g.turns.list) (unrolled s ns Elsewhere r))
      (Loop p (option_map (counting_count ns) c) (unrolled s ns Elsewhere b) (unrolled s ns Elsewhere r))

  -- a loop that stays
  pub size_kept : (c : Option Count) (b r : Code) → ended (counted_by s ns w c b r) ≡ None → m ≡ more o 1 → a ≡ more m (here Elsewhere b) → more o (here w (Loop p c b r)) ≡ more a (here Elsewhere r)
  size_kept c b r is e h = ap (λ g. more o (size (loop_by c b r g))) is ∙ nested (here Elsewhere b) (here Elsewhere r) e h

  -- one that is written out
  pub size_turned : (c : Option Count) (b r : Code) (g : Counting) → ended (counted_by s ns w c b r) ≡ Some g
      → ((rest : Code) → more o (size (written_out (turning_of b) (map (λ x. (x, unrolled s (counter g.cell x.now ∷ ns) Elsewhere b)) g.turns.list) rest)) ≡ more a (size rest))
      → more o (here w (Loop p c b r)) ≡ more a (here Elsewhere r)
  size_turned c b r g is h = ap (λ g. more o (size (loop_by c b r g))) is ∙ h (unrolled s ns Elsewhere r)

-- ---- turns

two : (a k : ℕ) → 1 + (a + (1 + k)) ≡ 2 + (a + k)
two a k = omega arith

-- with the block and the step of one more
pub size_turn : (s : Setting) (ns : List Counter) (n : ℕ) (p : Place) (b : Code) (t : Turning) (x : Turn) (xs : List Turn) (rest : Code) (o m a : Sum)
    → m ≡ more o 2 → a ≡ more m (size (unrolled s (counter n x.now ∷ ns) First b))
    → more o (size (each_turn s ns n p b t (x ∷ xs) rest)) ≡ more a (size (each_turn s ns n p b t xs rest))
size_turn s ns n p b t x xs rest o m a e h =
    let i = size (unrolled s (counter n x.now ∷ ns) First b) in
    let k = size (each_turn s ns n p b t xs rest) in
    ap (more o) (two i k) ∙ sym (more_more o 2 (i + k)) ∙ ap (λ z. more z (i + k)) (sym e) ∙ sym (more_more m i k) ∙ ap (λ z. more z k) (sym h)

-- ---- a sum from 0 on is past its limit just where what was added is

lower : (c l n : ℕ) → l < c → c ≡ min (0 + n) (l + 1) → l < n
lower c l n h e = omega arith

higher : (c l n : ℕ) → l < n → c ≡ min (0 + n) (l + 1) → l < c
higher c l n h e = omega arith

tests_so : (l n : ℕ) → l < n → true ≡ nat_lt l n
tests_so l n h = grind (arith, nat_tests, h)

under : (l n : ℕ) → true ≡ nat_lt l n → l < n
under l n e = grind (arith, nat_tests, e)

not_so : (b : Bool) → (true ≡ b → false ≡ true) → false ≡ b
not_so true h = h refl
not_so false h = refl

pub past_is : (r : Bool) (u : Tally) (n : ℕ) → (IsTrue r ↔ (u.limit < u.count)) → u.count ≡ min (0 + n) (u.limit + 1) → r ≡ nat_lt u.limit n
past_is true u n h e = tests_so u.limit n (lower u.count u.limit n (h.0 refl) e)
past_is false u n h e = not_so (nat_lt u.limit n) (λ p. h.1 (higher u.count u.limit n (under u.limit n p) e))

-- from none on
pub past_all : (r : Bool) (t u : Tally) (l n : ℕ) → (IsTrue r ↔ (u.limit < u.count)) → t.count ≡ 0 → t.limit ≡ l → sum_of u ≡ more (sum_of t) n → r ≡ nat_lt l n
past_all r t u l n h c k e =
    let limit : u.limit ≡ t.limit = ap (λ s. s.limit) e in
    let count : u.count ≡ min (0 + n) (u.limit + 1) = ap (λ s. s.count) e ∙ ap (λ x. min (x + n) (t.limit + 1)) c ∙ ap (λ x. min (0 + n) (x + 1)) (sym limit) in
    past_is r u n h count ∙ ap (λ x. nat_lt x n) (limit ∙ k)
