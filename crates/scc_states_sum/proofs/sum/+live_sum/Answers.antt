use Rattle.std.proofs.Common.{◌≡◌, refl, sym, ap, ◌∙◌, subst, ℕ, ◌+◌, ◌-◌, ◌^◌, min, ◌<◌, ◌≤◌, max, drop, length, Bool, true, false, not, nat_eq, if◌then◌else◌, Option, Some, None, arith}
use Rattle.std.proofs.lemmas.List.{drop_all}
use Rattle.scc_bits.specs.Value.{Number}
use Rattle.scc_core.specs.declared.expr.CoreExpr.{CoreExpr}
use Rattle.scc_states_sum.specs.Told.{numbers_in}
use Rattle.scc_states_sum.specs.declared.sum.Seen.{Seen}
use Rattle.scc_states_sum.specs.Elements.{cut, most, expr_elements}
use Rattle.scc_states_sum.specs.Live.{tested, live_statement, live_body, blocks_deep, body_deep}
use Rattle.scc_states_sum.specs.Paths.{Lives}
use Rattle.scc_states_sum.proofs.Paths.{lives_passed, lives_either, lives_block, lives_behind, lives_stopped, within_deepest}
use Rattle.scc_states_sum.proofs.Statements.{live_test, deep_test, live_block, deep_block, branch, from_here}
use Rattle.scc_states_sum.proofs.sum.+live_sum.Goals as goal

abbrev seen : ℕ → Bool → Seen
seen n b = record { elements = n; ends = b }

was_true : (b : Bool) → not b ≡ false → b ≡ true
was_true true h = refl
was_true false h = sym h

was_false : (b : Bool) → not b ≡ true → b ≡ false
was_false true h = sym h
was_false false h = refl

-- the count so far, what a statement adds, and the rest
in_order : (m e s r p : ℕ) → p ≡ cut (e + s) → cut (e + cut (s + r)) ≡ cut (p + r)
in_order m e s r p h = omega (arith, h)

cut_within : (p n : ℕ) → p ≡ cut n → p ≤ most
cut_within p n h = omega (arith, h)

within_cut : (e : ℕ) → e ≤ most → cut (e + 0) ≡ e
within_cut e h = omega (arith, h)

enough : (d a b l m : ℕ) → d + b ≤ m → a ≤ b → l ≡ m → d + a ≤ l
enough d a b l m h i j = omega (arith, h, i, j)

itself : (n : ℕ) → n ≤ n
itself n = omega arith

pub live-loop-s-preserved : goal.live-loop-s-preserved
live-loop-s-preserved t c = (
  cut_within c.plus-elements.result _ c.plus-elements.ensures,
  λ k last new l.
      let known : CoreExpr → Option Number = numbers_in c.args.known in
      let i : c.loop-s.s-index < length c.args.body.now = omega arith in
      let d : blocks_deep c.s-item.result ≤ body_deep c.args.body.now =
      within_deepest blocks_deep c.args.body.now c.loop-s.s-index c.s-item.result (body_deep c.args.body.now) i c.s-item.is (itself _) in
      let one : Lives c.args.depth c.loop-s.left c.live_stmt-seen.new.left c.live_stmt-seen.result (live_statement known c.s-item.result) =
      c.live_stmt-seen.ensures (enough _ _ _ _ _ k d c.loop-s.auto.left) in
      let goes : (live_statement known c.s-item.result).ends ≡ true = sym one.ends ∙ was_true _ c.if-not-seen.false in
      let two = lives_behind c.args.depth c.loop-s.left c.live_stmt-seen.new.left new c.live_stmt-seen.result last
      (live_statement known c.s-item.result) (live_body known (drop (c.loop-s.s-index + 1) c.args.body.now)) one goes l
      (cut (c.live_stmt-seen.result.elements + last.elements)) refl in
      let three = c.loop-s.invariant.1 k (seen (cut (c.live_stmt-seen.result.elements + last.elements)) last.ends) new
      (subst (λ x. Lives c.args.depth c.loop-s.left new (seen (cut (c.live_stmt-seen.result.elements + last.elements)) last.ends) x)
      (sym (from_here known c.args.body.now c.loop-s.s-index c.s-item.result i c.s-item.is)) two) in
      subst (λ n. Lives c.args.depth c.args.left.now new (seen n last.ends) (live_body known c.args.body.now))
      (in_order most c.loop-s.elements c.live_stmt-seen.result.elements last.elements c.plus-elements.result c.plus-elements.ensures) three,
)

pub live-returns-then-not-seen : goal.live-returns-then-not-seen
live-returns-then-not-seen t c = λ k.
    let known : CoreExpr → Option Number = numbers_in c.args.known in
    let i : c.loop-s.s-index < length c.args.body.now = omega arith in
    let d : blocks_deep c.s-item.result ≤ body_deep c.args.body.now =
    within_deepest blocks_deep c.args.body.now c.loop-s.s-index c.s-item.result (body_deep c.args.body.now) i c.s-item.is (itself _) in
    let one : Lives c.args.depth c.loop-s.left c.live_stmt-seen.new.left c.live_stmt-seen.result (live_statement known c.s-item.result) =
    c.live_stmt-seen.ensures (enough _ _ _ _ _ k d c.loop-s.auto.left) in
    let stops : (live_statement known c.s-item.result).ends ≡ false = sym one.ends ∙ was_false _ c.if-not-seen.true in
    let two = lives_stopped c.args.depth c.loop-s.left c.live_stmt-seen.new.left c.live_stmt-seen.result
    (live_statement known c.s-item.result) (live_body known (drop (c.loop-s.s-index + 1) c.args.body.now)) one stops in
    let three = c.loop-s.invariant.1 k c.live_stmt-seen.result c.live_stmt-seen.new.left
    (subst (λ x. Lives c.args.depth c.loop-s.left c.live_stmt-seen.new.left c.live_stmt-seen.result x)
    (sym (from_here known c.args.body.now c.loop-s.s-index c.s-item.result i c.s-item.is)) two) in
    subst (λ n. Lives c.args.depth c.args.left.now c.live_stmt-seen.new.left (seen n false) (live_body known c.args.body.now)) (sym c.plus-elements.ensures)
    (subst (λ b. Lives c.args.depth c.args.left.now c.live_stmt-seen.new.left (seen (cut (c.loop-s.elements + c.live_stmt-seen.result.elements)) b)
    (live_body known c.args.body.now))
    (was_false _ c.if-not-seen.true) three)

pub live-returns : goal.live-returns
live-returns t c = λ k.
    let known : CoreExpr → Option Number = numbers_in c.args.known in
    let none = drop_all c.loop-s.s-index c.args.body.now (omega arith) in
    let three = c.loop-s.invariant.1 k (seen 0 true) c.loop-s.left
    (subst (λ ss. Lives c.args.depth c.loop-s.left c.loop-s.left (seen 0 true) (live_body known ss)) (sym none) (lives_passed c.args.depth 0 0 c.loop-s.left
    refl)) in
    subst (λ n. Lives c.args.depth c.args.left.now c.loop-s.left (seen n true) (live_body known c.args.body.now)) (within_cut c.loop-s.elements
    c.loop-s.invariant.0) three

first_fits : (d a b s m : ℕ) → d + s ≤ m → s ≡ max a b → d + a ≤ m
first_fits d a b s m h i = omega (arith, h, i)

second_fits : (d a b s m n : ℕ) → d + s ≤ m → s ≡ max a b → n ≡ m → d + b ≤ n
second_fits d a b s m n h i j = omega (arith, h, i, j)

not-back : (a b : Bool) → not a ≡ b → a ≡ not b
not-back true b e = ap not e
not-back false b e = ap not e

pub live_stmt-returns-then-is_true : goal.live_stmt-returns-then-is_true
live_stmt-returns-then-is_true t c = λ k.
    let known : CoreExpr → Option Number = numbers_in c.args.known in
    let deep = deep_test c.args.s.now c.in-If.test c.in-If.yes c.in-If.no c.in-If.is in
    let some : known c.in-If.test ≡ Some c.in-Some.value = sym c.number_of.ensures ∙ c.in-Some.is in
    let goes : nat_eq c.in-Some.value.word 0 ≡ false = not-back _ _ (sym c.is_true.ensures ∙ c.if-is_true.true) in
    subst (λ x. Lives c.args.depth c.args.left.now c.live.new.left c.live.result x)
    (sym (live_test known c.args.s.now c.in-If.test c.in-If.yes c.in-If.no c.in-If.is
    ∙ ap (λ o. tested o (expr_elements known c.in-If.test) (live_body known c.in-If.yes) (live_body known c.in-If.no)) some
    ∙ ap (λ b. if b then live_body known c.in-If.no else live_body known c.in-If.yes) goes))
    (branch known c.args.depth (length c.args.left.now) c.args.left.now c.live.new.left c.live.result c.in-If.yes c.as_slice.result.now c.as_slice.ensures.elements c.live.ensures (first_fits _ _ _ _ _ k deep))

pub live_stmt-returns-else-is_true : goal.live_stmt-returns-else-is_true
live_stmt-returns-else-is_true t c = λ k.
    let known : CoreExpr → Option Number = numbers_in c.args.known in
    let deep = deep_test c.args.s.now c.in-If.test c.in-If.yes c.in-If.no c.in-If.is in
    let some : known c.in-If.test ≡ Some c.in-Some.value = sym c.number_of.ensures ∙ c.in-Some.is in
    let goes : nat_eq c.in-Some.value.word 0 ≡ true = not-back _ _ (sym c.is_true.ensures ∙ c.if-is_true.false) in
    subst (λ x. Lives c.args.depth c.args.left.now c.live-else-is_true.new.left c.live-else-is_true.result x)
    (sym (live_test known c.args.s.now c.in-If.test c.in-If.yes c.in-If.no c.in-If.is
    ∙ ap (λ o. tested o (expr_elements known c.in-If.test) (live_body known c.in-If.yes) (live_body known c.in-If.no)) some
    ∙ ap (λ b. if b then live_body known c.in-If.no else live_body known c.in-If.yes) goes))
    (branch known c.args.depth (length c.args.left.now) c.args.left.now c.live-else-is_true.new.left c.live-else-is_true.result c.in-If.no c.as_slice-else-is_true.result.now c.as_slice-else-is_true.ensures.elements c.live-else-is_true.ensures (second_fits _ _ _ _ _ _ k deep refl))

pub live_stmt-returns-in-None : goal.live_stmt-returns-in-None
live_stmt-returns-in-None t c = λ k.
    let known : CoreExpr → Option Number = numbers_in c.args.known in
    let deep = deep_test c.args.s.now c.in-If.test c.in-If.yes c.in-If.no c.in-If.is in
    let unknown : known c.in-If.test ≡ None = sym c.number_of.ensures ∙ c.in-None.is in
    let a = branch known c.args.depth (length c.args.left.now) c.args.left.now c.live-a.new.left c.live-a.result c.in-If.yes c.as_slice-in-None.result.now
    c.as_slice-in-None.ensures.elements c.live-a.ensures (first_fits _ _ _ _ _ k deep) in
    let b = branch known c.args.depth (length c.live-a.new.left) c.live-a.new.left c.live-b.new.left c.live-b.result c.in-If.no c.as_slice-in-None-2.result.now
    c.as_slice-in-None-2.ensures.elements c.live-b.ensures (second_fits _ _ _ _ _ _ k deep c.live-a.auto.left) in
    subst (λ x. Lives c.args.depth c.args.left.now c.live-b.new.left (seen c.plus-in-None.result c.either.result) x)
    (sym (live_test known c.args.s.now c.in-If.test c.in-If.yes c.in-If.no c.in-If.is
    ∙ ap (λ o. tested o (expr_elements known c.in-If.test) (live_body known c.in-If.yes) (live_body known c.in-If.no)) unknown))
    (lives_either c.args.depth c.args.left.now c.live-a.new.left c.live-b.new.left c.live-a.result c.live-b.result (live_body known c.in-If.yes) (live_body
    known c.in-If.no)
    c.of_expr-count.result (expr_elements known c.in-If.test) c.either.result a b c.of_expr-count.ensures c.either.ensures c.plus-in-None.result
    (c.plus-in-None.ensures ∙ ap (λ n. cut (c.of_expr-count.result + n)) c.plus.ensures))

inside_fits : (d b s m n z : ℕ) → d + s ≤ m → s ≡ 1 + b → n ≡ d + 1 → z ≡ m → n + b ≤ z
inside_fits d b s m n z h i j k = omega (arith, h, i, j, k)

is_open : (d b s m : ℕ) → d + s ≤ m → s ≡ 1 + b → d < m
is_open d b s m h i = omega (arith, h, i)

one_deeper : (d m n : ℕ) → d < m → m < 2 ^ 64 → n ≡ min (d + 1) (2 ^ 64 - 1) → n ≡ d + 1
one_deeper d m n h i j = omega (arith, h, i, j)

pub live_stmt-returns-in-Block : goal.live_stmt-returns-in-Block
live_stmt-returns-in-Block t c = λ k.
    let known : CoreExpr → Option Number = numbers_in c.args.known in
    let deep = deep_block c.args.s.now c.in-Block.body c.in-Block.is in
    let f : c.args.depth < length c.args.left.now = is_open _ _ _ _ k deep in
    let n : c.saturating_add.result ≡ c.args.depth + 1 = one_deeper c.args.depth (length c.args.left.now) c.saturating_add.result f c.mark.ensures.fits
    c.saturating_add.ensures in
    let inside = branch known c.saturating_add.result (length c.mark.new.left) c.mark.new.left c.live-inside.new.left c.live-inside.result c.in-Block.body
    c.as_slice-in-Block.result.now
    c.as_slice-in-Block.ensures.elements c.live-inside.ensures (inside_fits _ _ _ _ _ _ k deep n c.mark.auto.left) in
    subst (λ x. Lives c.args.depth c.args.left.now c.live-inside.new.left (seen c.live-inside.result.elements c.either-in-Block.result) x)
    (sym (live_block known c.args.s.now c.in-Block.body c.in-Block.is))
    (lives_block c.args.depth c.saturating_add.result c.args.left.now c.mark.new.left c.live-inside.new.left c.live-inside.result (live_body known
    c.in-Block.body)
    c.is_left-is_left.result c.either-in-Block.result n (c.mark.ensures.marks f) f inside c.is_left-is_left.ensures c.either-in-Block.ensures)
