-- Frames that are left, and the head of a loop that is written out.
use Rattle.std.proofs.Common.{◌≡◌, ℕ, zero, suc, ◌+◌, ◌≤◌, Bool, true, false, List, [], ◌∷◌, Option, Some, None, option_map, refl, sym, ap, ◌∙◌, arith}
use Rattle.scc_base.specs.declared.refusal.Place.{Place}
use Rattle.scc_semantics.specs.Location.{Location}
use Rattle.scc_semantics.specs.Scene.{Scene}
use Rattle.scc_semantics.specs.Body as machine
use Rattle.scc_semantics.specs.Value.{Held, value}
use Rattle.scc_semantics.specs.Machine.{Frames, Go, Mark, Inner, BehindBlock, leave, pick, waiting, unless_stuck}
use Rattle.scc_core_spec.specs.Code.{Code, Block, Wait}
use Rattle.scc_core_spec.specs.Static.{static, is_true}
use Rattle.scc_core_spec.specs.Counted.{Counter, Turn, counter, counting, if_goes, one_more}
use Rattle.scc_core_spec.specs.Source.{expr_of}
use Rattle.scc_core_unroll_laws.specs.Unrolling.{Around, own, scene_at, local_at, Counters, HoldsAll, Sound, B, U, Form, IsForm, turn_code, loop_code, stepped_code, next_word, turns, written, Below, below_stop, below_inner, below_block, below_turn, Alike, alike_stop, alike_on, alike_turn, alike_step, depth, HoldsFixed, Knows, go, Keeps}
use Rattle.scc_core_unroll_laws.proofs.Counters.{value-same, kinded-counting}
use Rattle.scc_core_unroll_laws.proofs.Keeping.{sound-part}
use Rattle.scc_core_unroll_laws.proofs.Steps.{plus}

module _ (w : Around) where
  pub record Goes (ns : List Counter) (f f' : Frames) : Type 0 where
    pub inner : List Counter
    pub fewer : (a : Held) → HoldsAll w ns a → HoldsAll w inner a
    pub saved : ℕ
    pub alike : Alike w saved inner f f'
    pub less : saved ≤ depth ns

  behind-turn : (ns : List Counter) (c : Counter) (f f' : Frames) → Goes ns f f' → Goes (c ∷ ns) f f'
  behind-turn ns c f f' g = record { inner = g.inner; fewer = λ a h. g.fewer a h.1; saved = g.saved; alike = g.alike; less = let l = g.less in omega (arith, l) }

  pub leave-below : (j : ℕ) {ns : List Counter} {b : Bool} {k k' : Frames} → Below w ns b k k' → Goes ns (leave j k) (leave j k')
  leave-below j below_stop = record { inner = []; fewer = λ a h. tt; saved = 0; alike = alike_stop; less = omega arith }
  leave-below j (below_inner c s r) = leave-below j r
  leave-below zero {ns = ns} (below_block c s r) = record { inner = ns; fewer = λ a h. h; saved = depth ns; less = omega arith; alike = alike_on Inner Inner c s r }
  leave-below (suc j) (below_block c s r) = leave-below j r
  leave-below zero {ns = ns} (below_turn {ns = ms} g n x f e r) = record { inner = ns; fewer = λ a h. h; saved = suc (depth ms); less = omega arith; alike = alike_step Inner Inner g n x f e r }
  leave-below (suc j) (below_turn {ns = ns} {k = k} {k' = k'} g n x f e r) = behind-turn ns (counter g.cell x) (leave j k) (leave j k') (leave-below j r)

  -- where a block's list ends
  pub fall-below : {ns : List Counter} {k k' : Frames} → Below w ns true k k' → Goes ns (leave 0 k) k'
  fall-below {ns = ns} (below_block c s r) = record { inner = ns; fewer = λ a h. h; saved = depth ns; less = omega arith; alike = alike_on Inner BehindBlock c s r }
  fall-below {ns = ns} (below_turn {ns = ms} g n x f e r) = record { inner = ns; fewer = λ a h. h; saved = suc (depth ms); less = omega arith; alike = alike_step Inner BehindBlock g n x f e r }

  pub alike-waiting : {b : Bool} {k k' : Frames} (p : Place) (l n count : ℕ) (r : Code) → Sound w [] (Wait p l count r) → Below w [] b k k'
      → Alike w 0 [] (waiting l n (Go Inner (own w) (B w r) k)) (waiting l n (Go Inner (own w) (B w (U w [] false r)) k'))
  alike-waiting p l zero count r s below = alike_on Inner Inner r (sound-part w [] r (Wait p l count r) (record { uses = λ o. omega arith; waits = λ e. cc; kinds = λ h. h }) s) below
  alike-waiting p l (suc n) count r s below = alike_on Inner Inner (Wait p l (suc n) r) (sound-part w [] (Wait p l (suc n) r) (Wait p l count r) (record { uses = λ o. omega arith; waits = λ e. cc; kinds = λ h. h }) s) below

  module _ (signals : Location → ℕ) where
    pub pop : (mark : Mark) (k : Frames) (a : Held) (n : ℕ) → go w signals n (Go mark (own w) machine.End k) a ≡ go w signals n k a
    pop mark k a zero = refl
    pop mark k a (suc n) = refl

    pub keeps-pop : (mark : Mark) (k : Frames) (a : Held) → Keeps w signals (Go mark (own w) machine.End k) a → Keeps w signals k a
    keeps-pop mark k a keep zero = keep zero
    keeps-pop mark k a keep (suc j) = keep (suc j)

    -- at the head of a loop that is written out: a turn is entered, or the block is left
    pub record Headed (ns : List Counter) (g : Form w) (ts : List Turn) (k k' : Frames) (a : Held) : Type 0 where
      pub taken : ℕ
      pub front : Frames
      pub front' : Frames
      pub inner : List Counter
      pub there : (m : ℕ) → go w signals (plus taken m) (Go Inner (own w) (B w (loop_code w g)) k) a ≡ go w signals m front a
      pub here : (m : ℕ) → go w signals m (Go Inner (own w) (B w (written w ns g ts)) k') a ≡ go w signals m front' a
      pub keeps : Keeps w signals (Go Inner (own w) (B w (written w ns g ts)) k') a → Keeps w signals front' a
      pub saved : ℕ
      pub alike : Alike w saved inner front front'
      pub holds : HoldsAll w inner a
      pub bound : taken + saved ≤ 3 + depth ns

    module _ (counters : Counters w) (knows : Knows w) (ns : List Counter) (g : Form w) (k k' : Frames) (a : Held) (form : IsForm w ns g) (below : Below w ns true k k')
        (holds : HoldsAll w ns a) (fixed : HoldsFixed w a) where
      abbrev S : Scene
      S = scene_at w signals a

      pub head : (n : ℕ) (o : Option ℕ) (x : ℕ) → o ≡ Some x → a.store.words (local_at w form.number) ≡ x → (turns w ns g n o).ends ≡ true → Headed ns g (turns w ns g n o).list k k' a
      head zero o x e f ends = absurd cc
      head (suc left) None x e f ends = absurd cc
      head (suc left) (Some y) x e f ends = by (static w.setting.cells (counting (counter g.cell y ∷ ns) g.test)) refl ends
        where
          inside : HoldsAll w (counter g.cell y ∷ ns) a
          inside = let z : x ≡ y = cc in ((form.number, form.numbered, f ∙ z), holds)

          tested : (v : ℕ) → static w.setting.cells (counting (counter g.cell y ∷ ns) g.test) ≡ Some v → value S (expr_of w.home w.setting.cells w.process g.test) ≡ Some v
          tested v e = sym (value-same w counters signals (counter g.cell y ∷ ns) a g.test inside) ∙ knows signals a fixed (counting (counter g.cell y ∷ ns) g.test) v (kinded-counting (counter g.cell y ∷ ns) g.test form.tested) e

          loops : Frames
          loops = Go Inner (own w) (B w (loop_code w g)) k

          by : (v : Option ℕ) → static w.setting.cells (counting (counter g.cell y ∷ ns) g.test) ≡ v
              → (if_goes (option_map is_true v) (λ u. one_more y (next_word w ns g y) (turns w ns g left (next_word w ns g y)))).ends ≡ true
              → Headed ns g (if_goes (option_map is_true v) (λ u. one_more y (next_word w ns g y) (turns w ns g left (next_word w ns g y)))).list k k' a
          by None e ends = absurd cc
          by (Some zero) e ends =
              let fall = fall-below below in
              let few = fall.less in
              record {
                taken = 3;
                front = leave 0 k;
                front' = k';
                inner = fall.inner;
                there = λ m. ap (λ v. unless_stuck a v (λ x. go w signals (suc m) (Go Inner (own w) (pick x machine.End (machine.Exit 0 machine.End)) (Go Inner (own w) (B w (turn_code w g)) loops)) a)) (tested zero e);
                here = λ m. pop Inner k' a m;
                keeps = λ keep. keeps-pop Inner k' a keep;
                saved = fall.saved;
                alike = fall.alike;
                holds = fall.fewer a holds;
                bound = omega (arith, few);
              }
          by (Some (suc v)) e ends = record {
            taken = 2;
            front = Go Inner (own w) (B w (turn_code w g)) loops;
            front' = Go Inner (own w) (B w (Block g.turn_place (U w (counter g.cell y ∷ ns) true g.turn) (stepped_code w ns g left y))) k';
            inner = counter g.cell y ∷ ns;
            there = λ m. ap (λ v. unless_stuck a v (λ x. go w signals m (Go Inner (own w) (pick x machine.End (machine.Exit 0 machine.End)) (Go Inner (own w) (B w (turn_code w g)) loops)) a)) (tested (suc v) e)
                ∙ pop Inner (Go Inner (own w) (B w (turn_code w g)) loops) a m;
            here = λ m. refl;
            keeps = λ keep. keep;
            saved = suc (depth ns);
            alike = alike_turn Inner Inner g left y form ends below;
            holds = inside;
            bound = omega arith;
          }
