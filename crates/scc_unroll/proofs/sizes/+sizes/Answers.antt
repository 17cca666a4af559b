use Rattle.std.proofs.Common.{◌≡◌, sym, ap, subst, ◌∙◌, arith, ◌+◌, ◌<◌, nat_eq, length, drop, ◌∷◌, map, Some, None, option_map}
use Rattle.std.specs.Prelude.{IfSome}
use Rattle.std.proofs.lemmas.Result.{IfOk-weaker}
use Rattle.scc_core_spec.specs.Code.{Code, End, size}
use Rattle.scc_core_spec.specs.Counted as spec
use Rattle.scc_core_spec.specs.Unrolled.{unrolled, written_out}
use Rattle.scc_core_view.specs.Codes.{code_of, counted}
use Rattle.scc_core_view.specs.Terms.{term_of}
use Rattle.scc_unroll_asked.specs.Asked.{AreRead, asked}
use Rattle.scc_unroll.specs.Shape.{HasParts, setting_of, stand_of, turned}
use Rattle.scc_unroll.specs.Turns.{ended_of, turn_of}
use Rattle.scc_unroll_asked.proofs.Asked.{first_read, rest_read, yes_read, no_read, block_read, count_read, loop_read, middle_read}
use Rattle.scc_unroll_laws.specs.Counters.{counters_of}
use Rattle.scc_unroll_laws.specs.Heads.{stand_behind}
use Rattle.scc_unroll_laws.specs.Sizes.{more, sum_of}
use Rattle.scc_unroll_laws.specs.Writing.{each_turn}
use Rattle.scc_unroll_laws.proofs.Heads.{from_here, last_is}
use Rattle.scc_unroll_laws.proofs.Sizes.{size_if, size_kept, size_turned, sum_is}
use Rattle.scc_unroll_laws.proofs.Stmts.{as_if, as_block, as_loop}
use Rattle.scc_unroll_laws.proofs.Writing.{turns_in}
use Rattle.scc_unroll.proofs.sizes.+sizes.Goals as goal

-- ---- statements

pub unrolled_size-loop-s-preserved : goal.unrolled_size-loop-s-preserved
unrolled_size-loop-s-preserved t c = (
  ap (λ n. n + 1) c.loop-s.invariant.0,
  λ b a reads st.
      let i : c.loop-s.s-index < length c.args.body.now = omega arith in
      let inv = c.loop-s.invariant.1 b a reads st in
      let s = c.s-item.result in
      let k = c.args.at.now.known in
      let rest = code_of (drop (c.loop-s.s-index + 1) c.args.body.now) in
      let last : spec.is_end rest ≡ c.are_all-last.result = last_is c.args.body.now c.loop-s.s-index i ∙ ap (λ n. nat_eq (n + 1) (length c.args.body.now)) (sym c.loop-s.invariant.0) ∙ sym c.are_all-last.ensures in
      let first = first_read k c.args.body.now c.loop-s.s-index s i c.s-item.is inv.0 in
      let here = c.in_ok-sum.ensures b rest a first inv.1 last in
      let S = setting_of c.args.at.now b in
      let ns = counters_of c.args.counters.now in
      let w = stand_of c.loop-s.stand in
      let z = sum_of c.in_ok-sum.sum in (
        rest_read k c.args.body.now c.loop-s.s-index s i c.s-item.is inv.0,
        c.behind-stand.ensures.read k first,
        ap (λ v. more z (size (unrolled S ns v rest))) c.behind-stand.ensures.stands
            ∙ sym here ∙ sym (ap (λ x. more (sum_of c.loop-s.sum) (size (unrolled S ns w x))) (from_here c.args.body.now c.loop-s.s-index s i c.s-item.is)) ∙ inv.2,
      ),
)

-- ---- a statement

pub size_at-returns-in_ok-both-in-If : goal.size_at-returns-in_ok-both-in-If
size_at-returns-in_ok-both-in-If t c = λ b r a reads st e.
    let S = setting_of c.args.at.now b in
    let ns = counters_of c.args.counters.now in
    let w = stand_of c.args.stand in
    let s = c.args.s.now in
    let k = c.args.at.now.known in
    let test = c.in-If.test in
    let yes = c.in-If.yes in
    let no = c.in-If.no in
    let o = sum_of c.args.sum in
    let m = sum_of c.plus-more.result in
    let z = sum_of c.in_ok-first-in-If.first in
    let d = sum_of c.in_ok-both-in-If.both in
    let one : c.as_slice.result.now ≡ yes = c.as_slice.ensures.elements in
    let two : c.as_slice-in-If.result.now ≡ no = c.as_slice-in-If.ensures.elements in
    let h : z ≡ more m (size (unrolled S ns spec.Elsewhere (code_of yes))) =
    c.in_ok-first-in-If.ensures b a (subst (λ x. AreRead k (asked x)) (sym one) (yes_read k s reads test yes no c.in-If.is)) tt
    ∙ ap (λ x. more m (size (unrolled S ns spec.Elsewhere (code_of x)))) one in
    let j : d ≡ more z (size (unrolled S ns spec.Elsewhere (code_of no))) =
    c.in_ok-both-in-If.ensures b a (subst (λ x. AreRead k (asked x)) (sym two) (no_read k s reads test yes no c.in-If.is)) tt
    ∙ ap (λ x. more z (size (unrolled S ns spec.Elsewhere (code_of x)))) two in
    let P : (Code → Code) → Type 0 = λ f. more o (size (unrolled S ns w (f r))) ≡ more d (size (unrolled S ns (stand_behind w (f End)) r)) in
    subst P (sym (as_if s test yes no c.in-If.is))
    (size_if S ns w s.place o m d z (term_of test) (code_of yes) (code_of no) r (sum_is c.args.sum c.plus-more.result 1 c.plus-more.ensures.count c.plus-more.ensures.limit) h j)

pub size_at-returns-in_ok-turned-in-Some : goal.size_at-returns-in_ok-turned-in-Some
size_at-returns-in_ok-turned-in-Some t c = λ b r a reads st e.
    let S = setting_of c.args.at.now b in
    let ns = counters_of c.args.counters.now in
    let w = stand_of c.args.stand in
    let s = c.args.s.now in
    let k = c.args.at.now.known in
    let body = c.in-Loop.body in
    let count = counted c.in-Loop.count in
    let o = sum_of c.args.sum in
    let m = sum_of c.plus-more.result in
    let d = sum_of c.in_ok-turned-in-Some.turned in
    let of = c.in-Some.of in
    let one : c.as_slice-list.result.now ≡ body = c.as_slice-list.ensures.elements in
    let inside : AreRead k (asked c.as_slice-list.result.now) = subst (λ x. AreRead k (asked x)) (sym one) (loop_read k s reads c.in-Loop.count body c.in-Loop.is) in
    let g = ended_of of in
    let is : spec.ended (spec.counted_by S ns w count (code_of body) r) ≡ Some g =
    ap (λ x. spec.ended (spec.counted_by S ns w count (code_of x) r)) (sym one)
    ∙ sym (ap (option_map ended_of) (sym c.in-Some.is) ∙ c.in_ok-ended-in-Loop.ensures.ended b r a (count_read k s reads c.in-Loop.count body c.in-Loop.is) inside st e) in
    let parts = subst (λ o. IfSome o (λ g. HasParts g.turning (code_of c.as_slice-list.result.now))) c.in-Some.is c.in_ok-ended-in-Loop.ensures.parts in
    let h : (rest : Code) → more o (size (written_out (spec.turning_of (code_of body)) (map (λ x. (x, unrolled S (spec.counter g.cell x.now ∷ ns) spec.Elsewhere (code_of body))) g.turns.list) rest)) ≡ more d (size rest) =
    λ rest. ap (λ x. more o (size (written_out (spec.turning_of (code_of x)) (map (λ y. (y, unrolled S (spec.counter g.cell y.now ∷ ns) spec.Elsewhere (code_of x))) g.turns.list) rest))) (sym one)
    ∙ c.in_ok-turned-in-Some.ensures b (turned of.turning) a inside parts.turning rest in
    let P : (Code → Code) → Type 0 = λ f. more o (size (unrolled S ns w (f r))) ≡ more d (size (unrolled S ns (stand_behind w (f End)) r)) in
    subst P (sym (as_loop s c.in-Loop.count body c.in-Loop.is)) (size_turned S ns w s.place o m d count (code_of body) r g is h)

pub size_at-returns-in-None : goal.size_at-returns-in-None
size_at-returns-in-None t c = λ b r a reads st e.
    let S = setting_of c.args.at.now b in
    let ns = counters_of c.args.counters.now in
    let w = stand_of c.args.stand in
    let s = c.args.s.now in
    let k = c.args.at.now.known in
    let body = c.in-Loop.body in
    let count = counted c.in-Loop.count in
    let o = sum_of c.args.sum in
    let m = sum_of c.plus-more.result in
    let one : c.as_slice-list.result.now ≡ body = c.as_slice-list.ensures.elements in
    let inside : AreRead k (asked c.as_slice-list.result.now) = subst (λ x. AreRead k (asked x)) (sym one) (loop_read k s reads c.in-Loop.count body c.in-Loop.is) in
    let is : spec.ended (spec.counted_by S ns w count (code_of body) r) ≡ None =
    ap (λ x. spec.ended (spec.counted_by S ns w count (code_of x) r)) (sym one)
    ∙ sym (ap (option_map ended_of) (sym c.in-None.is) ∙ c.in_ok-ended-in-Loop.ensures.ended b r a (count_read k s reads c.in-Loop.count body c.in-Loop.is) inside st e) in
    IfOk-weaker c.unrolled_size-in-None.result _ _
    (λ d h.
    let P : (Code → Code) → Type 0 = λ f. more o (size (unrolled S ns w (f r))) ≡ more (sum_of d) (size (unrolled S ns (stand_behind w (f End)) r)) in
    subst P (sym (as_loop s c.in-Loop.count body c.in-Loop.is))
    (size_kept S ns w s.place o m (sum_of d) count (code_of body) r is (sum_is c.args.sum c.plus-more.result 1 c.plus-more.ensures.count c.plus-more.ensures.limit)
    (h ∙ ap (λ x. more m (size (unrolled S ns spec.Elsewhere (code_of x)))) one)))
    (c.unrolled_size-in-None.ensures b a inside tt)

-- ---- the turns of a loop

pub size_of_loop-returns-in_ok-turned-in-Block : goal.size_of_loop-returns-in_ok-turned-in-Block
size_of_loop-returns-in_ok-turned-in-Block t c = λ b u a reads parts rest.
    let S = setting_of c.args.at.now b in
    let ns = counters_of c.args.counters.now in
    let k = c.args.at.now.known in
    let body = c.args.body.now in
    let y = c.block-item.result in
    let inner = c.in-Block.inner in
    let ts = map turn_of c.args.of.now.list in
    let n = c.args.of.now.cell in
    let o = sum_of c.args.sum in
    let h : 1 < length body = omega (arith, c.in-len3.len_at_least) in
    let one : c.as_slice.result.now ≡ inner = c.as_slice.ensures.elements in
    let two : c.as_slice-list.result.now ≡ c.args.of.now.list = c.as_slice-list.ensures.elements in
    let inside : AreRead k (asked c.as_slice.result.now) = subst (λ x. AreRead k (asked x)) (sym one) (block_read k y (middle_read k body y h c.block-item.is reads) inner c.in-Block.is) in
    ap (λ x. more o (size x)) (turns_in body y (code_of inner) u h c.block-item.is (as_block y inner c.in-Block.is) parts S ns n ts rest)
    ∙ ap (λ x. more o (size (each_turn S ns n y.place (code_of x) u ts rest))) (sym one)
    ∙ ap (λ l. more o (size (each_turn S ns n y.place (code_of c.as_slice.result.now) u (map turn_of l) rest))) (sym two)
    ∙ c.in_ok-turned-in-Block.ensures b rest y.place u a inside
