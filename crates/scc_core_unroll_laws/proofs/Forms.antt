-- The form of a loop that is written out.
use Rattle.std.proofs.Common.{◌≡◌, ◌⊎◌, inl, inr, ℕ, ◌+◌, ◌≤◌, Bool, true, false, List, ◌∷◌, map, Option, Some, None, option_map, refl, sym, ap, ◌∙◌, subst, arith}
use Rattle.std.specs.Prelude.{nat_eq, nat_le, not, ◌&&◌, ◌||◌, slice_get, option_and_then, if◌then◌else◌}
use Rattle.scc_base.specs.declared.refusal.Place.{Place}
use Rattle.scc_semantics.specs.Location.{same_path}
use Rattle.scc_semantics_laws.proofs.Blind.{and-first, and-second}
use Rattle.scc_core_spec.specs.Term.{Term, Left, Cell, Prefix, Null, Follow, Index, Pick, Whole, OneBit, Bits}
use Rattle.scc_core_spec.specs.Term as term
use Rattle.scc_core_spec.specs.Program as program
use Rattle.scc_core_spec.specs.Program.{is_pointer}
use Rattle.scc_core_spec.specs.Code.{Code, Count, End, Put, Aim, If, Block, Loop, Exit, Wait, holds_wait}
use Rattle.scc_core_spec.specs.Static.{static}
use Rattle.scc_core_spec.specs.Counted.{Counter, Start, Counting, Elsewhere, Behind as BehindStart, counter, counting, counting_left, counting_pick, uses, times, is_it, own_of, own_at, number_of, counter_number, is_seldom, is_end, leaves_block, is_cell, is_whole, is_step, is_turn, is_turning, is_static, counts, turning_of, turns_by, enough_turns, counted_by, ended}
use Rattle.scc_core_spec.specs.Unrolled.{unrolled, written_out, looped_or, counting_count}
use Rattle.scc_core_unroll_laws.specs.Unrolling.{Around, Sound, Form, IsForm, U, loop_code, loop_body, step_code, turns, written}
use Rattle.scc_core_unroll_laws.proofs.Counters.{some-is}
use Rattle.scc_core_unroll_laws.proofs.Keeping.{PartOf, sound-part, or-left}

end-is : (c : Code) → is_end c ≡ true → c ≡ End
end-is End e = refl
end-is (Put p l k x r) e = absurd cc
end-is (Aim p to t r) e = absurd cc
end-is (If p t a b r) e = absurd cc
end-is (Block p b r) e = absurd cc
end-is (Loop p n b r) e = absurd cc
end-is (Exit p n r) e = absurd cc
end-is (Wait p l n r) e = absurd cc

leaves-is : (c : Code) → leaves_block c ≡ true → (p : Place) × (c ≡ Exit p 0 End)
leaves-is End e = absurd cc
leaves-is (Put p l k x r) e = absurd cc
leaves-is (Aim p to t r) e = absurd cc
leaves-is (If p t a b r) e = absurd cc
leaves-is (Block p b r) e = absurd cc
leaves-is (Loop p n b r) e = absurd cc
leaves-is (Exit p n r) e =
    let f : n ≡ 0 = let g = and-first (nat_eq n 0) (is_end r) e in grind arith in
    (p, λ z. Exit p (f z) (end-is r (and-second (nat_eq n 0) (is_end r) e) z))
leaves-is (Wait p l n r) e = absurd cc

cell-is : (n : ℕ) (l : Left) → is_cell n l ≡ true → (p : Place) × (l ≡ Cell p n)
cell-is n (Cell p m) e = (p, ap (Cell p) (let f : m ≡ n = grind arith in f))
cell-is n (Prefix p m) e = absurd cc
cell-is n (Null p) e = absurd cc
cell-is n (Follow p s l) e = absurd cc
cell-is n (term.Member l m) e = absurd cc
cell-is n (Index l s x) e = absurd cc

whole-is : (k : Pick) → is_whole k ≡ true → k ≡ Whole
whole-is Whole e = refl
whole-is (OneBit x) e = absurd cc
whole-is (Bits h l) e = absurd cc

abbrev IsStep : ℕ → Code → Type 0
IsStep n c = (p : Place) × (q : Place) × (x : Term) × (c ≡ Put p (Cell q n) Whole x End)

step-is : (n : ℕ) (c : Code) → is_step n c ≡ true → IsStep n c
step-is n End e = absurd cc
step-is n (Put p l k x r) e =
    let a = cell-is n l (and-first (is_cell n l) (is_whole k && is_end r) e) in
    let b = and-second (is_cell n l) (is_whole k && is_end r) e in
    (p, a.0, x, λ z. Put p (a.1 z) (whole-is k (and-first (is_whole k) (is_end r) b) z) x (end-is r (and-second (is_whole k) (is_end r) b) z))
step-is n (Aim p to t r) e = absurd cc
step-is n (If p t a b r) e = absurd cc
step-is n (Block p b r) e = absurd cc
step-is n (Loop p m b r) e = absurd cc
step-is n (Exit p m r) e = absurd cc
step-is n (Wait p l m r) e = absurd cc

abbrev IsTurn : ℕ → Code → Type 0
IsTurn n c = (o : Place) × (b : Code) × (p : Place) × (q : Place) × (x : Term) × (c ≡ Block o b (Put p (Cell q n) Whole x End))

turn-is : (n : ℕ) (c : Code) → is_turn n c ≡ true → IsTurn n c
turn-is n End e = absurd cc
turn-is n (Put p l k x r) e = absurd cc
turn-is n (Aim p to t r) e = absurd cc
turn-is n (If p t a b r) e = absurd cc
turn-is n (Block p b r) e = let s = step-is n r e in (p, b, s.0, s.1, s.2, ap (Block p b) s.3)
turn-is n (Loop p m b r) e = absurd cc
turn-is n (Exit p m r) e = absurd cc
turn-is n (Wait p l m r) e = absurd cc

module _ (w : Around) where
  turning-is : (o : Place) (count : Option Count) (n : ℕ) (c : Code) → is_turning n c ≡ true → (g : Form w) × (g.place ≡ o) × (g.count ≡ count) × (g.cell ≡ n) × (c ≡ loop_body w g)
  turning-is o count n End e = absurd cc
  turning-is o count n (Put p l k x r) e = absurd cc
  turning-is o count n (Aim p to t r) e = absurd cc
  turning-is o count n (If p t a b r) e =
      let f = and-second (is_end a) (leaves_block b && is_turn n r) e in
      let l = leaves-is b (and-first (leaves_block b) (is_turn n r) f) in
      let u = turn-is n r (and-second (leaves_block b) (is_turn n r) f) in (
        record { place = o; count = count; cell = n; test_place = p; test = t; exit_place = l.0; turn_place = u.0; turn = u.1; step_place = u.2; cell_place = u.3; step = u.4 },
        refl,
        refl,
        refl,
        λ z. If p t (end-is a (and-first (is_end a) (leaves_block b && is_turn n r) e) z) (l.1 z) (u.5 z),
      )
  turning-is o count n (Block p b r) e = absurd cc
  turning-is o count n (Loop p m b r) e = absurd cc
  turning-is o count n (Exit p m r) e = absurd cc
  turning-is o count n (Wait p l m r) e = absurd cc

  -- a loop that is written out, behind the assignment that begins it
  pub record Behind (ns : List Counter) (c : Code) (p : Place) (e : Term) : Type 0 where
    pub g : Form w
    pub q : Place
    pub code : c ≡ Put p (Cell q g.cell) Whole e (loop_code w g)
    pub unrolled : U w ns true c ≡ Put p (Cell q g.cell) Whole (counting ns e) (written w ns g (turns w ns g enough_turns (static w.setting.cells (counting ns e))).list)
    pub ends : (turns w ns g enough_turns (static w.setting.cells (counting ns e))).ends ≡ true
    pub waits : holds_wait (loop_body w g) ≡ false
    pub seldom : is_seldom w.setting (counter_number w.setting g.cell) ≡ true

  not-true : (b : Bool) → not b ≡ true → b ≡ false
  not-true true e = cc
  not-true false e = refl

  module _ (ns : List Counter) (p : Place) (l : Left) (k : Pick) (e : Term) (o : Place) where
    abbrev z : Start
    z = record { left = l; pick = k; value = e }

    behind-counted : (c : Count) (body r : Code) → counts w.setting ns z c body r ≡ true → (turns_by w.setting.cells ns c.cell e (turning_of body)).ends ≡ true
        → ended (counted_by w.setting ns (BehindStart z) (Some c) body r) ≡ Some (record { cell = c.cell; turns = turns_by w.setting.cells ns c.cell e (turning_of body) })
        → Behind ns (Put p l k e (Loop o (Some c) body r)) p e
    behind-counted c body r all ends h =
        let s = w.setting in
        let c9 = is_seldom s (counter_number s c.cell) in
        let c8 = is_turning c.cell body && c9 in
        let c7 = is_end r && c8 in
        let c6 = is_whole k && c7 in
        let c5 = is_cell c.cell l && c6 in
        let c4 = is_static s.cells ns c.step && c5 in
        let c3 = is_static s.cells ns c.bound && c4 in
        let c2 = is_static s.cells ns c.start && c3 in
        let t2 = and-second (not (holds_wait body)) c2 all in
        let t3 = and-second (is_static s.cells ns c.start) c3 t2 in
        let t4 = and-second (is_static s.cells ns c.bound) c4 t3 in
        let t5 = and-second (is_static s.cells ns c.step) c5 t4 in
        let t6 = and-second (is_cell c.cell l) c6 t5 in
        let t7 = and-second (is_whole k) c7 t6 in
        let t8 = and-second (is_end r) c8 t7 in
        formed (turning-is o (Some c) c.cell body (and-first (is_turning c.cell body) c9 t8)) (cell-is c.cell l (and-first (is_cell c.cell l) c6 t5)) (whole-is k (and-first (is_whole k) c7 t6)) (end-is r (and-first (is_end r) c8 t7))
        (not-true (holds_wait body) (and-first (not (holds_wait body)) c2 all)) (and-second (is_turning c.cell body) c9 t8)
      where
        formed : (g : Form w) × (g.place ≡ o) × (g.count ≡ Some c) × (g.cell ≡ c.cell) × (body ≡ loop_body w g) → (q : Place) × (l ≡ Cell q c.cell) → k ≡ Whole → r ≡ End → holds_wait body ≡ false
            → is_seldom w.setting (counter_number w.setting c.cell) ≡ true → Behind ns (Put p l k e (Loop o (Some c) body r)) p e
        formed g el ek er waits few = record {
          g = g.0;
          q = el.0;
          code = λ z. Put p ((el.1 ∙ ap (Cell el.0) (sym g.3)) z) (ek z) e (Loop (sym g.1 z) (sym g.2 z) (g.4 z) (er z));
          unrolled = ap (λ u. Put p (counting_left ns l) (counting_pick ns k) (counting ns e) (looped_or u
              (λ g. written_out (turning_of body) (map (λ x. (x, unrolled w.setting (counter g.cell x.now ∷ ns) Elsewhere body)) g.turns.list) (unrolled w.setting ns Elsewhere r))
              (Loop o (Some (counting_count ns c)) (unrolled w.setting ns Elsewhere body) (unrolled w.setting ns Elsewhere r)))) h
              ∙ (λ z. Put p (counting_left ns ((el.1 ∙ ap (Cell el.0) (sym g.3)) z)) (counting_pick ns (ek z)) (counting ns e)
              (written_out (turning_of (g.4 z)) (map (λ x. (x, unrolled w.setting (counter (sym g.3 z) x.now ∷ ns) Elsewhere (g.4 z))) (turns_by w.setting.cells ns (sym g.3 z) e (turning_of (g.4 z))).list) (unrolled w.setting ns Elsewhere (er z))));
          ends = (λ z. (turns_by w.setting.cells ns (g.3 z) e (turning_of (sym g.4 z))).ends) ∙ ends;
          waits = ap holds_wait (sym g.4) ∙ waits;
          seldom = ap (λ n. is_seldom w.setting (counter_number w.setting n)) g.3 ∙ few;
        }

    ended-is : (x : Counting) (y : Counting) → ended (Some x) ≡ Some y → (x.turns.ends ≡ true) × (ended (Some x) ≡ Some x)
    ended-is x y e = by x.turns.ends refl e
      where
        by : (u : Bool) → x.turns.ends ≡ u → (if u then Some x else None) ≡ Some y → (x.turns.ends ≡ true) × (ended (Some x) ≡ Some x)
        by true f e = (f, ap (λ u. if u then Some x else None) f)
        by false f e = absurd cc

    behind-loop : (n : Option Count) (body r : Code) (y : Counting) → ended (counted_by w.setting ns (BehindStart z) n body r) ≡ Some y → Behind ns (Put p l k e (Loop o n body r)) p e
    behind-loop None body r y h = absurd cc
    behind-loop (Some c) body r y h = by (counts w.setting ns z c body r) refl h
      where
        g : Counting
        g = record { cell = c.cell; turns = turns_by w.setting.cells ns c.cell e (turning_of body) }

        by : (u : Bool) → counts w.setting ns z c body r ≡ u → ended (if u then Some g else None) ≡ Some y → Behind ns (Put p l k e (Loop o (Some c) body r)) p e
        by true f h = let x = ended-is g y h in behind-counted c body r f x.0 (ap (λ u. ended (if u then Some g else None)) f ∙ x.1)
        by false f h = absurd cc

  abbrev pub Begins : List Counter → Code → Type 0
  Begins ns c = (p : Place) × (e : Term) × Behind ns c p e

  -- a block's statements are unrolled as others, or are a loop behind the assignment that begins it
  pub first-is : (ns : List Counter) (x : Code) → (U w ns true x ≡ U w ns false x) ⊎ Begins ns x
  first-is ns End = inl refl
  first-is ns (Put p l k e r) = by r
    where
      z : Start
      z = record { left = l; pick = k; value = e }

      by : (r : Code) → (U w ns true (Put p l k e r) ≡ U w ns false (Put p l k e r)) ⊎ Begins ns (Put p l k e r)
      by End = inl refl
      by (Put q m j x r) = inl refl
      by (Aim q to t r) = inl refl
      by (If q t x y r) = inl refl
      by (Block q x r) = inl refl
      by (Loop o n x r) = cases (ended (counted_by w.setting ns (BehindStart z) n x r)) refl
        where
          cases : (u : Option Counting) → ended (counted_by w.setting ns (BehindStart z) n x r) ≡ u → (U w ns true (Put p l k e (Loop o n x r)) ≡ U w ns false (Put p l k e (Loop o n x r))) ⊎ Begins ns (Put p l k e (Loop o n x r))
          cases None f = inl (ap (λ u. Put p (counting_left ns l) (counting_pick ns k) (counting ns e) (looped_or u
              (λ g. written_out (turning_of x) (map (λ t. (t, unrolled w.setting (counter g.cell t.now ∷ ns) Elsewhere x)) g.turns.list) (unrolled w.setting ns Elsewhere r))
              (Loop o (option_map (counting_count ns) n) (unrolled w.setting ns Elsewhere x) (unrolled w.setting ns Elsewhere r)))) f)
          cases (Some y) f = inr (p, e, behind-loop ns p l k e o n x r y f)
      by (Exit q n r) = inl refl
      by (Wait q m n r) = inl refl
  first-is ns (Aim q to t r) = inl refl
  first-is ns (If q t x y r) = inl refl
  first-is ns (Block q x r) = inl refl
  first-is ns (Loop o n x r) = inl refl
  first-is ns (Exit q n r) = inl refl
  first-is ns (Wait q m n r) = inl refl

  -- the number of a counter, and its soundness
  own-is : (q : Place) (n o : ℕ) → counter_number w.setting n ≡ Some o → own_at w.setting.cells (Cell q n) ≡ Some o
  own-is q n o e = by (slice_get w.setting.cells n) e
    where
      test : (b : Bool) (c : program.Cell) → (if b then own_of c.name else None) ≡ Some o → own_of c.name ≡ Some o
      test true c e = e
      test false c e = absurd cc

      by : (c : Option program.Cell) → number_of w.setting.path c ≡ Some o → option_and_then (λ c. own_of c.name) c ≡ Some o
      by None e = absurd cc
      by (Some c) e = test (same_path c.name.path w.setting.path && not (is_pointer c.sort)) c e

  it-is : (q : Place) (n o : ℕ) → counter_number w.setting n ≡ Some o → times 1 (is_it o (own_at w.setting.cells (Cell q n))) ≡ 1
  it-is q n o e = ap (λ u. times 1 (is_it o u)) (own-is q n o e) ∙ ap (times 1) (let f : nat_eq o o ≡ true = grind arith in f)

  few-turn : (a b t body o : ℕ) → a ≡ 1 → b ≡ 1 → a + ((0 + (0 + (t + (b + 0)))) + 0) ≤ body → nat_le body 2 ≡ true → t ≡ 0
  few-turn a b t body o ea eb le few = let h : body ≤ 2 = grind arith in omega (arith, ea, eb, le, h)

  pub form-is : (ns : List Counter) (p : Place) (e : Term) (q : Place) (g : Form w) → holds_wait (loop_body w g) ≡ false → is_seldom w.setting (counter_number w.setting g.cell) ≡ true
      → Sound w ns (Put p (Cell q g.cell) Whole e (loop_code w g)) → IsForm w ns g
  form-is ns p e q g waits few s = by (counter_number w.setting g.cell) refl few
    where
      turn-part : PartOf w g.turn (Put p (Cell q g.cell) Whole e (loop_code w g))
      turn-part = record { uses = λ o. omega arith; waits = λ e. or-left (holds_wait g.turn) false (or-left (holds_wait g.turn || false) false e); kinds = λ h. h.3.0.3.0 }

      step-part : PartOf w (step_code w g) (Put p (Cell q g.cell) Whole e (loop_code w g))
      step-part = record { uses = λ o. omega arith; waits = λ e. refl; kinds = λ h. h.3.0.3.1 }

      by : (u : Option ℕ) → counter_number w.setting g.cell ≡ u → is_seldom w.setting u ≡ true → IsForm w ns g
      by None f few = absurd cc
      by (Some o) f few = record {
        number = o;
        numbered = f;
        seldom = few;
        sound = λ x. record {
          seldom = ((λ n h. subst (λ n. nat_le (uses w.setting.cells n w.setting.body) 2 ≡ true) (some-is (sym f ∙ h)) few), s.seldom);
          untouched = (
            (λ n h. subst (λ n. uses w.setting.cells n g.turn ≡ 0) (some-is (sym f ∙ h))
                (few-turn (times 1 (is_it o (own_at w.setting.cells (Cell q g.cell)))) (times 1 (is_it o (own_at w.setting.cells (Cell g.cell_place g.cell)))) (uses w.setting.cells o g.turn) (uses w.setting.cells o w.setting.body) o
                (it-is q g.cell o f) (it-is g.cell_place g.cell o f) (s.part o) few)),
            (sound-part w ns g.turn (Put p (Cell q g.cell) Whole e (loop_code w g)) turn-part s).untouched,
          );
          part = λ n. (sound-part w ns g.turn (Put p (Cell q g.cell) Whole e (loop_code w g)) turn-part s).part n;
          waits = or-left (holds_wait g.turn) false waits;
          kinds = s.kinds.3.0.3.0;
        };
        step = sound-part w ns (step_code w g) (Put p (Cell q g.cell) Whole e (loop_code w g)) step-part s;
        tested = s.kinds.3.0.0;
      }
