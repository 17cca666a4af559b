use Rattle.std.proofs.Common.{◌≡◌, refl, sym, ap, subst, ◌∙◌, arith, ℕ, ◌+◌, ◌<◌, length, drop, List, [], ◌∷◌, Option, Some, None, option_map}
use Rattle.std.proofs.lemmas.List.{drop_all}
use Rattle.scc_core_spec.specs.Code.{Code, End, size}
use Rattle.scc_core_spec.specs.Counted as spec
use Rattle.scc_core_spec.specs.First.{or_else}
use Rattle.scc_core_spec.specs.Unrolled.{Spot, first_spot, uncounted}
use Rattle.scc_core_view.specs.Codes.{code_of, counted}
use Rattle.scc_core_view.specs.Terms.{term_of}
use Rattle.scc_unroll_asked.specs.Asked.{AreRead, asked}
use Rattle.scc_unroll_laws.specs.Counters.{counters_of}
use Rattle.scc_unroll_laws.specs.Heads.{head_size, stand_behind}
use Rattle.scc_unroll.specs.Shape.{setting_of, stand_of}
use Rattle.scc_unroll.specs.Spots.{spot_of}
use Rattle.scc_unroll_laws.specs.Spots.{looked_into}
use Rattle.scc_unroll_asked.proofs.Asked.{first_read, rest_read, yes_read, no_read, count_read, loop_read}
use Rattle.scc_unroll_laws.proofs.Heads.{from_here, head_sized, last_is}
use Rattle.scc_unroll_laws.proofs.Looks.{simple_look, look_if, look_loop}
use Rattle.scc_unroll_laws.proofs.Stmts.{as_if, as_loop}
use Rattle.scc_unroll.proofs.look.+looked.Goals as goal

-- ---- statements

pub first_uncounted-loop-s-init : goal.first_uncounted-loop-s-init
first_uncounted-loop-s-init t c = (refl, λ b a reads. (reads, refl))

pub first_uncounted-returns-in-Some : goal.first_uncounted-returns-in-Some
first_uncounted-returns-in-Some t c = λ b a reads.
    let i : c.loop-s.s-index < length c.args.body.now = omega arith in
    let inv = c.loop-s.invariant.1 b a reads in
    let s = c.s-item.result in
    let rest = code_of (drop (c.loop-s.s-index + 1) c.args.body.now) in
    let last : spec.is_end rest ≡ c.are_all-last.result = last_is c.args.body.now c.loop-s.s-index i ∙ ap (λ n. Rattle.std.proofs.Common.nat_eq (n + 1) (length c.args.body.now)) (sym c.loop-s.invariant.0) ∙ sym c.are_all-last.ensures in
    let here = c.in_ok-found.ensures b rest a (first_read c.args.at.now.known c.args.body.now c.loop-s.s-index s i c.s-item.is inv.0) last in
    let S = setting_of c.args.at.now b in
    let ns = counters_of c.args.counters.now in
    let w = stand_of c.loop-s.stand in
    sym (ap (λ o. or_else (option_map spot_of o) (first_spot (uncounted S ns (stand_behind w (code_of (s ∷ []))) (c.loop-s.number + head_size (code_of (s ∷ []))) rest))) c.in-Some.is)
    ∙ sym here ∙ sym (ap (λ z. first_spot (uncounted S ns w c.loop-s.number z)) (from_here c.args.body.now c.loop-s.s-index s i c.s-item.is)) ∙ inv.1

pub first_uncounted-loop-s-preserved : goal.first_uncounted-loop-s-preserved
first_uncounted-loop-s-preserved t c = (
  ap (λ n. n + 1) c.loop-s.invariant.0,
  λ b a reads.
      let i : c.loop-s.s-index < length c.args.body.now = omega arith in
      let inv = c.loop-s.invariant.1 b a reads in
      let s = c.s-item.result in
      let rest = code_of (drop (c.loop-s.s-index + 1) c.args.body.now) in
      let last : spec.is_end rest ≡ c.are_all-last.result = last_is c.args.body.now c.loop-s.s-index i ∙ ap (λ n. Rattle.std.proofs.Common.nat_eq (n + 1) (length c.args.body.now)) (sym c.loop-s.invariant.0) ∙ sym c.are_all-last.ensures in
      let here = c.in_ok-found.ensures b rest a (first_read c.args.at.now.known c.args.body.now c.loop-s.s-index s i c.s-item.is inv.0) last in
      let S = setting_of c.args.at.now b in
      let ns = counters_of c.args.counters.now in
      let w = stand_of c.loop-s.stand in
      let there = stand_behind w (code_of (s ∷ [])) in
      let number = c.loop-s.number + head_size (code_of (s ∷ [])) in (
        rest_read c.args.at.now.known c.args.body.now c.loop-s.s-index s i c.s-item.is inv.0,
        ap (λ z. first_spot (uncounted S ns z c.in_ok-number.number rest)) c.behind-stand.ensures.stands
            ∙ ap (λ z. first_spot (uncounted S ns there z rest)) (c.in_ok-number.ensures ∙ ap (λ z. c.loop-s.number + z) (c.in_ok-size.ensures ∙ sym (head_sized s)))
            ∙ sym (ap (λ o. or_else (option_map spot_of o) (first_spot (uncounted S ns there number rest))) c.in-None.is)
            ∙ sym here ∙ sym (ap (λ z. first_spot (uncounted S ns w c.loop-s.number z)) (from_here c.args.body.now c.loop-s.s-index s i c.s-item.is)) ∙ inv.1,
      ),
)

pub first_uncounted-returns : goal.first_uncounted-returns
first_uncounted-returns t c = λ b a reads.
    let none = drop_all c.loop-s.s-index c.args.body.now (omega arith) in
    let inv = c.loop-s.invariant.1 b a reads in
    ap (λ ss. first_spot (uncounted (setting_of c.args.at.now b) (counters_of c.args.counters.now) (stand_of c.loop-s.stand) c.loop-s.number (code_of ss))) (sym none) ∙ inv.1

-- ---- a statement

pub look_at-returns-then-is_simple : goal.look_at-returns-then-is_simple
look_at-returns-then-is_simple t c = λ b r a reads e.
    ap first_spot (simple_look c.args.s.now (sym c.is_simple.ensures ∙ c.if-is_simple.true) (setting_of c.args.at.now b) (counters_of c.args.counters.now) (stand_of c.args.stand) c.args.number r)

pub look_at-returns-in_ok-within-in-Loop : goal.look_at-returns-in_ok-within-in-Loop
look_at-returns-in_ok-within-in-Loop t c = λ b r a reads e.
    let S = setting_of c.args.at.now b in
    let ns = counters_of c.args.counters.now in
    let w = stand_of c.args.stand in
    let n = c.args.number in
    let s = c.args.s.now in
    let k = c.args.at.now.known in
    let body = c.in-Loop.body in
    let count = counted c.in-Loop.count in
    let o = option_map spot_of c.in_ok-within-in-Loop.within in
    let q : Spot = record { number = n; place = s.place } in
    let one : c.as_slice-in-Loop.result.now ≡ body = c.as_slice-in-Loop.ensures.elements in
    let two : c.as_slice-in-Loop-2.result.now ≡ body = c.as_slice-in-Loop-2.ensures.elements in
    let g = spec.counted_by S ns w count (code_of body) r in
    let cell = c.in_ok-cell-in-Loop.ensures b r a (count_read k s reads c.in-Loop.count body c.in-Loop.is) e ∙ ap (λ x. option_map (λ g. g.cell) (spec.counted_by S ns w count (code_of x) r)) one in
    let found = c.in_ok-within-in-Loop.ensures b g a (subst (λ x. AreRead k (asked x)) (sym two) (loop_read k s reads c.in-Loop.count body c.in-Loop.is)) cell ∙ ap (λ x. first_spot (looked_into S ns g q (code_of x))) two in
    let P : (Code → Code) → Type 0 = λ f. first_spot (uncounted S ns w n (f r)) ≡ or_else o (first_spot (uncounted S ns (stand_behind w (f End)) (n + head_size (f End)) r)) in
    subst P (sym (as_loop s c.in-Loop.count body c.in-Loop.is)) (look_loop S ns w n s.place o count (code_of body) r found)

-- the branches of an `if`
pub look_at-returns-in-Some : goal.look_at-returns-in-Some
look_at-returns-in-Some t c = λ b r a reads e.
    let S = setting_of c.args.at.now b in
    let ns = counters_of c.args.counters.now in
    let w = stand_of c.args.stand in
    let n = c.args.number in
    let m = c.in_ok-inner.inner in
    let s = c.args.s.now in
    let k = c.args.at.now.known in
    let o = Some (spot_of c.in-Some.spot) in
    let test = c.in-If.test in
    let yes = c.in-If.yes in
    let no = c.in-If.no in
    let one : c.as_slice.result.now ≡ yes = c.as_slice.ensures.elements in
    let here : o ≡ first_spot (uncounted S ns spec.Elsewhere m (code_of yes)) =
    ap (option_map spot_of) (sym c.in-Some.is)
    ∙ c.in_ok-first-in-If.ensures b a (subst (λ x. AreRead k (asked x)) (sym one) (yes_read k s reads test yes no c.in-If.is))
    ∙ ap (λ x. first_spot (uncounted S ns spec.Elsewhere m (code_of x))) one in
    let P : (Code → Code) → Type 0 = λ f. first_spot (uncounted S ns w n (f r)) ≡ or_else o (first_spot (uncounted S ns (stand_behind w (f End)) (n + head_size (f End)) r)) in
    subst P (sym (as_if s test yes no c.in-If.is))
    (look_if S ns w n m s.place c.in_ok-inner.ensures o (term_of test) (code_of yes) (code_of no) r (ap (λ z. or_else z (first_spot (uncounted S ns spec.Elsewhere (m + size (code_of yes)) (code_of no)))) here))

pub look_at-returns-in_ok-other-in-None : goal.look_at-returns-in_ok-other-in-None
look_at-returns-in_ok-other-in-None t c = λ b r a reads e.
    let S = setting_of c.args.at.now b in
    let ns = counters_of c.args.counters.now in
    let w = stand_of c.args.stand in
    let n = c.args.number in
    let m = c.in_ok-inner.inner in
    let s = c.args.s.now in
    let k = c.args.at.now.known in
    let test = c.in-If.test in
    let yes = c.in-If.yes in
    let no = c.in-If.no in
    let o = option_map spot_of c.in_ok-other-in-None.other in
    let one : c.as_slice.result.now ≡ yes = c.as_slice.ensures.elements in
    let two : c.as_slice-in-None.result.now ≡ yes = c.as_slice-in-None.ensures.elements in
    let three : c.as_slice-in-None-2.result.now ≡ no = c.as_slice-in-None-2.ensures.elements in
    let here : None ≡ first_spot (uncounted S ns spec.Elsewhere m (code_of yes)) =
    ap (option_map spot_of) (sym c.in-None.is)
    ∙ c.in_ok-first-in-If.ensures b a (subst (λ x. AreRead k (asked x)) (sym one) (yes_read k s reads test yes no c.in-If.is))
    ∙ ap (λ x. first_spot (uncounted S ns spec.Elsewhere m (code_of x))) one in
    let there : o ≡ first_spot (uncounted S ns spec.Elsewhere (m + size (code_of yes)) (code_of no)) =
    c.in_ok-other-in-None.ensures b a (subst (λ x. AreRead k (asked x)) (sym three) (no_read k s reads test yes no c.in-If.is))
    ∙ ap (λ x. first_spot (uncounted S ns spec.Elsewhere c.in_ok-second-in-None.second (code_of x))) three
    ∙ ap (λ z. first_spot (uncounted S ns spec.Elsewhere z (code_of no))) (c.in_ok-second-in-None.ensures ∙ ap (λ z. m + z) (c.in_ok-size-in-None.ensures ∙ ap (λ x. size (code_of x)) two)) in
    let P : (Code → Code) → Type 0 = λ f. first_spot (uncounted S ns w n (f r)) ≡ or_else o (first_spot (uncounted S ns (stand_behind w (f End)) (n + head_size (f End)) r)) in
    subst P (sym (as_if s test yes no c.in-If.is))
    (look_if S ns w n m s.place c.in_ok-inner.ensures o (term_of test) (code_of yes) (code_of no) r (there ∙ ap (λ z. or_else z (first_spot (uncounted S ns spec.Elsewhere (m + size (code_of yes)) (code_of no)))) here))
