-- Where a process stands amid the statements of a loop that is written out: each statement of its body leads on beside the unrolled body.
use Rattle.std.proofs.Common.{◌≡◌, ◌⊎◌, inl, inr, ℕ, zero, suc, Bool, true, false, List, [], ◌∷◌, Option, Some, None, option_map, refl, sym, ap, ◌∙◌, subst, arith}
use Rattle.std.specs.Prelude.{unwrap_or, option_and_then}
use Rattle.scc_base.specs.declared.refusal.Place.{Place}
use Rattle.scc_semantics.specs.Location.{Location}
use Rattle.scc_semantics.specs.Expressions as body
use Rattle.scc_semantics.specs.Store.{changed}
use Rattle.scc_semantics.specs.Scene.{Scene, followed}
use Rattle.scc_semantics.specs.Body as machine
use Rattle.scc_semantics.specs.Value.{Held, locate, value, with_words}
use Rattle.scc_semantics.specs.Machine.{Frames, Go, Mark, Inner, BehindBlock, Outcome, Suspended, Ended, Stuck, Unfinished, pick, leave, one_less, waiting, unless_stuck}
use Rattle.scc_core_spec.specs.Term.{Term, Literal, Left, Cell, Pick, Whole, kind_of, place_of}
use Rattle.scc_core_spec.specs.Code.{Code, Declared, Assigned, End, Put, Aim, If, Block, Loop, Exit, Wait}
use Rattle.scc_core_spec.specs.Static.{static, is_true}
use Rattle.scc_core_spec.specs.Counted.{Counter, counter, counting, counting_left, counting_pick, enough_turns, if_goes, one_more}
use Rattle.scc_core_spec.specs.Source.{expr_of, left_of, pick_of}
use Rattle.scc_blocks_spec.specs.Comes.{next_points, next_waits}
use Rattle.scc_core_unroll_laws.specs.Unrolling.{Around, own, scene_at, local_at, Counters, HoldsAll, LeadsWell, Sound, B, U, Form, IsForm, turn_code, loop_code, loop_body, step_code, stepped_code, next_word, turns, written, Below, below_stop, below_inner, below_block, below_turn, Alike, alike_stop, alike_on, alike_begin, alike_turn, alike_step, HoldsFixed, Knows, along}
use Rattle.scc_core_unroll_laws.proofs.Counters.{value-same, kinded-counting, left-same, counter-left}
use Rattle.scc_core_unroll_laws.proofs.Untouched.{led-well, reach}
use Rattle.scc_core_unroll_laws.proofs.Keeping.{sound-part, of-put, of-aim, of-if, of-block, of-loop, put-holds, others-hold}
use Rattle.scc_core_unroll_laws.proofs.Steps.{putting, unless-put, aiming, unless-aim}
use Rattle.scc_core_unroll_laws.proofs.Frames.{leave-below, fall-below, alike-waiting}
use Rattle.scc_core_unroll_laws.proofs.Follow.{puts-counter, changed-there, word-is, put-same, entered, led-targets, led-words, aim-is, no-wait}

module _ (w : Around) where
  -- The unrolled body stands beside it, or waits for it: a loop that is written out has its head to go through still, and either side may have an empty
  -- list before it.
  pub data Near : Frames → Frames → Held → Type 0 where
    near_on : {v : ℕ} {ns : List Counter} {f f' : Frames} {a : Held} → Alike w v ns f f' → HoldsAll w ns a → Near f f' a
    near_loop : {ns : List Counter} {k k' : Frames} {a : Held} → (mark mark' : Mark) (g : Form w) (left x : ℕ) → IsForm w ns g → (turns w ns g left (Some x)).ends ≡ true → Below w ns true k k' → HoldsAll w (counter g.cell x ∷ ns) a
        → Near (Go mark (own w) (B w (loop_code w g)) k) (Go mark' (own w) (B w (written w ns g (turns w ns g left (Some x)).list)) k') a
    near_test : {ns : List Counter} {k k' : Frames} {a : Held} → (mark' : Mark) (g : Form w) (left x : ℕ) → IsForm w ns g → (turns w ns g left (Some x)).ends ≡ true → Below w ns true k k' → HoldsAll w (counter g.cell x ∷ ns) a
        → Near (Go Inner (own w) (B w (loop_body w g)) (Go Inner (own w) (B w (loop_code w g)) k)) (Go mark' (own w) (B w (written w ns g (turns w ns g left (Some x)).list)) k') a
    near_leaves : {ns : List Counter} {k k' : Frames} {a : Held} → (mark' : Mark) (g : Form w) → Below w ns true k k' → HoldsAll w ns a
        → Near (Go Inner (own w) (machine.Exit 0 machine.End) (Go Inner (own w) (B w (turn_code w g)) (Go Inner (own w) (B w (loop_code w g)) k))) (Go mark' (own w) machine.End k') a
    near_behind : {f f' : Frames} {a : Held} → (mark : Mark) → Near f f' a → Near (Go mark (own w) machine.End f) f' a
    near_before : {f f' : Frames} {a : Held} → (mark : Mark) → Near f f' a → Near f (Go mark (own w) machine.End f') a

  -- other processes' pointers don't show
  holds-moved : (ns : List Counter) (a b : Held) → a.store.words ≡ b.store.words → HoldsAll w ns a → HoldsAll w ns b
  holds-moved [] a b e h = tt
  holds-moved (c ∷ ns) a b e h = ((h.0.0, h.0.1, subst (λ u. u (local_at w h.0.0) ≡ c.word) e h.0.2), holds-moved ns a b e h.1)

  pub near-moved : {f f' : Frames} {a : Held} (b : Held) → a.store.words ≡ b.store.words → Near f f' a → Near f f' b
  near-moved b e (near_on {ns = ns} {a = a} l h) = near_on l (holds-moved ns a b e h)
  near-moved b e (near_loop {ns = ns} {a = a} mark mark' g left x form ends below h) = near_loop mark mark' g left x form ends below (holds-moved (counter g.cell x ∷ ns) a b e h)
  near-moved b e (near_test {ns = ns} {a = a} mark' g left x form ends below h) = near_test mark' g left x form ends below (holds-moved (counter g.cell x ∷ ns) a b e h)
  near-moved b e (near_leaves {ns = ns} {a = a} mark' g below h) = near_leaves mark' g below (holds-moved ns a b e h)
  near-moved b e (near_behind mark n) = near_behind mark (near-moved b e n)
  near-moved b e (near_before mark n) = near_before mark (near-moved b e n)

  module _ (signals : Location → ℕ) where
    abbrev one : Frames → Held → Outcome
    one f a = along w signals 1 f a

    pub record Going (f' : Frames) (a : Held) (g : Frames) (b : Held) : Type 0 where
      pub front : Frames
      pub near : Near g front b
      pub leads : LeadsWell w b.store.targets
      pub reached : ((f' ≡ front) × (a ≡ b)) ⊎ ((next_waits f' ≡ false) × (along w signals 1 f' a ≡ Suspended front b))

    -- at a wait no counter stands around, so any words may follow
    pub record Waiting (f' : Frames) (a : Held) (g : Frames) (b : Held) : Type 0 where
      pub front : Frames
      pub near : (c : Held) → Near g front c
      pub leads : LeadsWell w b.store.targets
      pub reached : along w signals 1 f' a ≡ Suspended front b

    -- what a statement comes to, and a wait
    abbrev pub Leads : Frames → Held → Outcome → Type 0
    Leads f' a (Suspended g b) = Going f' a g b
    Leads f' a (Ended b) = (along w signals 1 f' a ≡ Ended b) × LeadsWell w b.store.targets
    Leads f' a _ = Unit {0}

    abbrev pub Waits : Frames → Held → Outcome → Type 0
    Waits f' a (Suspended g b) = Waiting f' a g b
    Waits f' a _ = ⊥

    pub record Step (f f' : Frames) (a : Held) : Type 0 where
      pub points : next_points f ≡ false
      pub stays : next_waits f ≡ true → next_waits f' ≡ true
      pub goes : next_waits f ≡ false → Leads f' a (along w signals 1 f a)
      pub waits : next_waits f ≡ true → Waits f' a (along w signals 1 f a)

    -- an empty list before the unrolled body
    before-leads : (mark : Mark) (f' : Frames) (a : Held) (o : Outcome) → Leads f' a o → Leads (Go mark (own w) machine.End f') a o
    before-leads mark f' a (Suspended g b) l = by l.reached
      where
        by : ((f' ≡ l.front) × (a ≡ b)) ⊎ ((next_waits f' ≡ false) × (one f' a ≡ Suspended l.front b)) → Going (Go mark (own w) machine.End f') a g b
        by (inl e) = record { front = Go mark (own w) machine.End l.front; near = near_before mark l.near; leads = l.leads; reached = inl (ap (Go mark (own w) machine.End) e.0, e.1) }
        by (inr e) = record { front = l.front; near = l.near; leads = l.leads; reached = inr e }
    before-leads mark f' a (Ended b) l = l
    before-leads mark f' a (Stuck b) l = l
    before-leads mark f' a Unfinished l = l

    before-waits : (mark : Mark) (f' : Frames) (a : Held) (o : Outcome) → Waits f' a o → Waits (Go mark (own w) machine.End f') a o
    before-waits mark f' a (Suspended g b) l = record { front = l.front; near = l.near; leads = l.leads; reached = l.reached }
    before-waits mark f' a (Ended b) l = l
    before-waits mark f' a (Stuck b) l = l
    before-waits mark f' a Unfinished l = l

    before : (mark : Mark) (f f' : Frames) (a : Held) → Step f f' a → Step f (Go mark (own w) machine.End f') a
    before mark f f' a s = record { points = s.points; stays = s.stays; goes = λ t. before-leads mark f' a (one f a) (s.goes t); waits = λ t. before-waits mark f' a (one f a) (s.waits t) }

    ahead : (mark : Mark) (f f' : Frames) (a : Held) → Step f f' a → Step (Go mark (own w) machine.End f) f' a
    ahead mark f f' a s = record { points = s.points; stays = s.stays; goes = s.goes; waits = s.waits }

    no-waits : {A : Type 0} (f : Frames) → next_waits f ≡ false → next_waits f ≡ true → A
    no-waits f free t = absurd (let z : true ≡ false = sym t ∙ free in not-so z)
      where
        not-so : true ≡ false → ⊥
        not-so z = cc

    -- a statement that may be stuck, on both sides
    by-both : {A : Type 0} (od oe : Option A) → oe ≡ od → (g g' : A → Frames) (b : A → Held) (f f' : Frames) (a : Held)
        → one f a ≡ unless_stuck a od (λ x. Suspended (g x) (b x)) → one f' a ≡ unless_stuck a oe (λ x. Suspended (g' x) (b x))
        → next_points f ≡ false → next_waits f ≡ false → next_waits f' ≡ false → ((x : A) → od ≡ Some x → Near (g x) (g' x) (b x) × LeadsWell w (b x).store.targets) → Step f f' a
    by-both {A} od oe same g g' b f f' a ed ee points free free' next = record {
      points = points;
      stays = no-waits f free;
      goes = λ t. subst (Leads f' a) (sym ed) (by od refl);
      waits = no-waits f free;
    }
      where
        by : (o : Option A) → od ≡ o → Leads f' a (unless_stuck a o (λ x. Suspended (g x) (b x)))
        by None e = tt
        by (Some x) e = let n = next x e in record { front = g' x; near = n.0; leads = n.1; reached = inr (free', ee ∙ ap (λ o. unless_stuck a o (λ x. Suspended (g' x) (b x))) (same ∙ e)) }

    -- a statement that goes on, on both sides
    going-on : (g g' f f' : Frames) (a : Held) → one f a ≡ Suspended g a → one f' a ≡ Suspended g' a → next_points f ≡ false → next_waits f ≡ false → next_waits f' ≡ false
        → Near g g' a → LeadsWell w a.store.targets → Step f f' a
    going-on g g' f f' a ed ee points free free' near leads = record {
      points = points;
      stays = no-waits f free;
      goes = λ t. subst (Leads f' a) (sym ed) (record { front = g'; near = near; leads = leads; reached = inr (free', ee) });
      waits = no-waits f free;
    }

    -- a statement of the head of a loop, for which the unrolled body waits
    behind-head : (g f f' : Frames) (a : Held) → one f a ≡ Suspended g a → next_points f ≡ false → next_waits f ≡ false → Near g f' a → LeadsWell w a.store.targets → Step f f' a
    behind-head g f f' a ed points free near leads = record {
      points = points;
      stays = no-waits f free;
      goes = λ t. subst (Leads f' a) (sym ed) (record { front = f'; near = near; leads = leads; reached = inl (refl, refl) });
      waits = no-waits f free;
    }

    module _ (counters : Counters w) (knows : Knows w) where
      abbrev S : Held → Scene
      S a = scene_at w signals a

      abbrev E : Term → body.Expr
      E e = expr_of w.home w.setting.cells w.process e

      abbrev L : Left → body.Left
      L l = left_of w.home w.setting.cells w.process l

      abbrev P : Pick → body.Pick
      P k = pick_of w.home w.setting.cells w.process k

      -- a counter takes its word
      counted : (mark mark' : Mark) {ns : List Counter} {k' : Frames} (g : Form w) (form : IsForm w ns g) → (a : Held) → HoldsAll w ns a → LeadsWell w a.store.targets
          → (p q : Place) (ed eu : Term) (x : ℕ) → value (S a) (E ed) ≡ Some x → value (S a) (E eu) ≡ Some x → (r u : Code) (kd : Frames) → Sound w ns (Put p (Cell q g.cell) Whole ed r)
          → ((b : Held) → HoldsAll w (counter g.cell x ∷ ns) b → Near (Go Inner (own w) (B w r) kd) (Go Inner (own w) (B w u) k') b)
          → Step (Go mark (own w) (B w (Put p (Cell q g.cell) Whole ed r)) kd) (Go mark' (own w) (B w (Put p (Cell q g.cell) Whole eu u)) k') a
      counted mark mark' {ns = ns} {k' = k'} g form a holds leads p q ed eu x vd vu r u kd sound near =
          let l = local_at w form.number in
          let b = with_words a (changed l x a.store.words) in
          let holds1 : HoldsAll w ns b = others-hold w counters signals a leads ns p (Cell q g.cell) Whole ed r l x sound holds (ap (locate (S a)) (counter-left w g.cell form.number form.numbered)) in
          by-both (putting w.places (S a) a (value (S a) (E ed)) (locate (S a) (L (Cell q g.cell))) body.Whole) (putting w.places (S a) a (value (S a) (E eu)) (locate (S a) (L (Cell q g.cell))) body.Whole)
          (puts-counter w counters knows signals a q g.cell form.number x (value (S a) (E eu)) form.numbered vu ∙ sym (puts-counter w counters knows signals a q g.cell form.number x (value (S a) (E ed)) form.numbered vd))
          (λ c. Go Inner (own w) (B w r) kd) (λ c. Go Inner (own w) (B w u) k') (λ c. c) (Go mark (own w) (B w (Put p (Cell q g.cell) Whole ed r)) kd) (Go mark' (own w) (B w (Put p (Cell q g.cell) Whole eu u)) k') a
          (unless-put w.places (S a) a (value (S a) (E ed)) (locate (S a) (L (Cell q g.cell))) body.Whole (λ c. Suspended (Go Inner (own w) (B w r) kd) c))
          (unless-put w.places (S a) a (value (S a) (E eu)) (locate (S a) (L (Cell q g.cell))) body.Whole (λ c. Suspended (Go Inner (own w) (B w u) k') c))
          refl refl refl
          (λ c ec.
          let same : Some b ≡ Some c = sym (puts-counter w counters knows signals a q g.cell form.number x (value (S a) (E ed)) form.numbered vd) ∙ ec in
          let here : b ≡ c = let z = same in cc in
          subst (λ c. Near (Go Inner (own w) (B w r) kd) (Go Inner (own w) (B w u) k') c × LeadsWell w c.store.targets) here
          (near b ((form.number, form.numbered, changed-there w counters knows signals l x a.store.words), holds1), leads))

      stepping : (mark mark' : Mark) {ns : List Counter} {k k' : Frames} (g : Form w) (left x : ℕ) → IsForm w ns g → (turns w ns g left (next_word w ns g x)).ends ≡ true → Below w ns true k k' → (a : Held)
          → HoldsAll w (counter g.cell x ∷ ns) a → LeadsWell w a.store.targets → HoldsFixed w a
          → Step (Go mark (own w) (B w (step_code w g)) (Go Inner (own w) (B w (loop_code w g)) k)) (Go mark' (own w) (B w (stepped_code w ns g left x)) k') a
      stepping mark mark' {ns} {k} {k'} g left x form ends below a holds leads fixed =
          let o = next_word w ns g x in
          let y = unwrap_or o 0 in
          let oe : o ≡ Some y = word-is w counters knows signals ns g left o ends in
          counted mark mark' {ns = ns} {k' = k'} g form a holds.1 leads g.step_place g.cell_place g.step (Literal (place_of g.step) (kind_of g.step) y) y
          (sym (value-same w counters signals (counter g.cell x ∷ ns) a g.step holds) ∙ knows signals a fixed (counting (counter g.cell x ∷ ns) g.step) y (kinded-counting (counter g.cell x ∷ ns) g.step form.step.kinds.2) oe) refl
          End (written w ns g (turns w ns g left o).list) (Go Inner (own w) (B w (loop_code w g)) k) form.step
          (λ b h. near_behind Inner (subst (λ u. Near (Go Inner (own w) (B w (loop_code w g)) k) (Go Inner (own w) (B w (written w ns g (turns w ns g left u).list)) k') b) (sym oe)
          (near_loop Inner Inner g left y form (subst (λ u. (turns w ns g left u).ends ≡ true) oe ends) below h)))

      beginning : (mark mark' : Mark) {ns : List Counter} {k k' : Frames} (g : Form w) (p q : Place) (e : Term) → IsForm w ns g → Sound w ns (Put p (Cell q g.cell) Whole e (loop_code w g))
          → (turns w ns g enough_turns (static w.setting.cells (counting ns e))).ends ≡ true → Below w ns true k k' → (a : Held) → HoldsAll w ns a → LeadsWell w a.store.targets → HoldsFixed w a
          → Step (Go mark (own w) (B w (Put p (Cell q g.cell) Whole e (loop_code w g))) k)
          (Go mark' (own w) (B w (Put p (Cell q g.cell) Whole (counting ns e) (written w ns g (turns w ns g enough_turns (static w.setting.cells (counting ns e))).list))) k') a
      beginning mark mark' {ns} {k} {k'} g p q e form sound ends below a holds leads fixed =
          let o = static w.setting.cells (counting ns e) in
          let y = unwrap_or o 0 in
          let oe : o ≡ Some y = word-is w counters knows signals ns g enough_turns o ends in
          let known = knows signals a fixed (counting ns e) y (kinded-counting ns e sound.kinds.2) oe in
          counted mark mark' {ns = ns} {k' = k'} g form a holds leads p q e (counting ns e) y (sym (value-same w counters signals ns a e holds) ∙ known) known
          (loop_code w g) (written w ns g (turns w ns g enough_turns o).list) k sound
          (λ b h. subst (λ u. Near (Go Inner (own w) (B w (loop_code w g)) k) (Go Inner (own w) (B w (written w ns g (turns w ns g enough_turns u).list)) k') b) (sym oe)
          (near_loop Inner Inner g enough_turns y form (subst (λ u. (turns w ns g enough_turns u).ends ≡ true) oe ends) below h))

      -- the test of a loop: a turn begins, or the block is left
      testing : (mark' : Mark) {ns : List Counter} {k k' : Frames} (g : Form w) (left x : ℕ) → IsForm w ns g → (turns w ns g left (Some x)).ends ≡ true → Below w ns true k k' → (a : Held)
          → HoldsAll w (counter g.cell x ∷ ns) a → LeadsWell w a.store.targets → HoldsFixed w a
          → Step (Go Inner (own w) (B w (loop_body w g)) (Go Inner (own w) (B w (loop_code w g)) k)) (Go mark' (own w) (B w (written w ns g (turns w ns g left (Some x)).list)) k') a
      testing mark' g zero x form ends below a holds leads fixed = absurd cc
      testing mark' {ns} {k} {k'} g (suc left) x form ends below a holds leads fixed = by (static w.setting.cells (counting (counter g.cell x ∷ ns) g.test)) refl ends
        where
          tested : (v : ℕ) → static w.setting.cells (counting (counter g.cell x ∷ ns) g.test) ≡ Some v → value (S a) (E g.test) ≡ Some v
          tested v e = sym (value-same w counters signals (counter g.cell x ∷ ns) a g.test holds) ∙ knows signals a fixed (counting (counter g.cell x ∷ ns) g.test) v (kinded-counting (counter g.cell x ∷ ns) g.test form.tested) e

          loops : Frames
          loops = Go Inner (own w) (B w (loop_code w g)) k

          tests : Frames
          tests = Go Inner (own w) (B w (loop_body w g)) loops

          found : (v : ℕ) → value (S a) (E g.test) ≡ Some v → one tests a ≡ Suspended (Go Inner (own w) (pick v machine.End (machine.Exit 0 machine.End)) (Go Inner (own w) (B w (turn_code w g)) loops)) a
          found v e = ap (λ v. unless_stuck a v (λ x. Suspended (Go Inner (own w) (pick x machine.End (machine.Exit 0 machine.End)) (Go Inner (own w) (B w (turn_code w g)) loops)) a)) e

          by : (v : Option ℕ) → static w.setting.cells (counting (counter g.cell x ∷ ns) g.test) ≡ v
              → (if_goes (option_map is_true v) (λ u. one_more x (next_word w ns g x) (turns w ns g left (next_word w ns g x)))).ends ≡ true
              → Step tests (Go mark' (own w) (B w (written w ns g (if_goes (option_map is_true v) (λ u. one_more x (next_word w ns g x) (turns w ns g left (next_word w ns g x)))).list)) k') a
          by None e ends = absurd cc
          by (Some zero) e ends = behind-head (Go Inner (own w) (machine.Exit 0 machine.End) (Go Inner (own w) (B w (turn_code w g)) loops)) tests (Go mark' (own w) machine.End k') a (found zero (tested zero e)) refl refl
              (near_leaves mark' g below holds.1) leads
          by (Some (suc v)) e ends = behind-head (Go Inner (own w) machine.End (Go Inner (own w) (B w (turn_code w g)) loops)) tests
              (Go mark' (own w) (B w (Block g.turn_place (U w (counter g.cell x ∷ ns) true g.turn) (stepped_code w ns g left x))) k') a (found (suc v) (tested (suc v) e)) refl refl
              (near_behind Inner (near_on (alike_turn Inner mark' g left x form ends below) holds)) leads

      -- one statement of a list
      on : (mark mark' : Mark) {ns : List Counter} {b : Bool} {k k' : Frames} (c : Code) (a : Held) → Sound w ns c → Below w ns b k k' → HoldsAll w ns a → LeadsWell w a.store.targets
          → next_points (Go mark' (own w) (B w (U w ns false c)) k') ≡ false → (next_points k' ≡ false → Step k k' a)
          → Step (Go mark (own w) (B w c) k) (Go mark' (own w) (B w (U w ns false c)) k') a
      on mark mark' {k = k} {k' = k'} End a sound below holds leads kept popped = ahead mark k (Go mark' (own w) machine.End k') a (before mark' k k' a (popped kept))
      on mark mark' {ns = ns} {b = b} {k = k} {k' = k'} (Put p l j e r) a sound below holds leads kept popped =
          let V = value (S a) (E e) in
          let V' = value (S a) (E (counting ns e)) in
          let W = locate (S a) (L l) in
          let W' = locate (S a) (L (counting_left ns l)) in
          let K = P (counting_pick ns j) in
          let r' = U w ns false r in
          let same : putting w.places (S a) a V' W' K ≡ putting w.places (S a) a V W (P j) =
          λ z. option_and_then (λ x. option_and_then (λ m. put-same w counters knows signals ns a holds j (w.places.things m) m x z) (followed (left-same w counters signals ns a l holds z))) (value-same w counters signals ns a e holds z) in
          by-both (putting w.places (S a) a V W (P j)) (putting w.places (S a) a V' W' K) same (λ c. Go Inner (own w) (B w r) k) (λ c. Go Inner (own w) (B w r') k') (λ c. c)
          (Go mark (own w) (B w (Put p l j e r)) k) (Go mark' (own w) (B w (U w ns false (Put p l j e r))) k') a
          (unless-put w.places (S a) a V W (P j) (λ c. Suspended (Go Inner (own w) (B w r) k) c))
          (unless-put w.places (S a) a V' W' K (λ c. Suspended (Go Inner (own w) (B w r') k') c)) refl refl refl
          (λ c ec.
          let h = put-holds w counters signals a leads ns p l j e r V (P j) c sound holds ec in
          (near_on (alike_on Inner Inner r (sound-part w ns r (Put p l j e r) (of-put w p l j e r) sound) below) h.0, subst (λ t. LeadsWell w t) (sym h.1) leads))
      on mark mark' {ns = ns} {b = b} {k = k} {k' = k'} (Aim p (Declared i) t r) a sound below holds leads kept popped =
          let T = locate (S a) (L t) in
          let T' = locate (S a) (L (counting_left ns t)) in
          let W = locate (S a) (L (Cell p i)) in
          by-both (aiming w.places a T W) (aiming w.places a T' W) (ap (λ t. aiming w.places a t W) (left-same w counters signals ns a t holds)) (λ c. Go Inner (own w) (B w r) k) (λ c. Go Inner (own w) (B w (U w ns false r)) k') (λ c. c)
          (Go mark (own w) (B w (Aim p (Declared i) t r)) k) (Go mark' (own w) (B w (U w ns false (Aim p (Declared i) t r))) k') a
          (unless-aim w.places a T W (λ c. Suspended (Go Inner (own w) (B w r) k) c))
          (unless-aim w.places a T' W (λ c. Suspended (Go Inner (own w) (B w (U w ns false r)) k') c)) refl refl refl
          (λ c ec.
          let x = aim-is w counters knows signals a T W c ec in
          let near = reach w counters signals a leads (Cell p i) x.1 x.3 in
          let well = led-well w counters signals a leads t (λ o. let s = sound.part o in omega (arith, s)) (w.places.pointers x.1) x.1 near x.0 x.2 in
          let leads1 : LeadsWell w c.store.targets = subst (λ t. LeadsWell w t) (sym (led-targets w counters knows signals (w.places.pointers x.1) a x.1 x.0) ∙ ap (λ c. c.store.targets) x.4) well in
          let holds1 : HoldsAll w ns c = subst (HoldsAll w ns) x.4 (led-words w counters knows signals ns (w.places.pointers x.1) a x.1 x.0 holds) in
          (near_on (alike_on Inner Inner r (sound-part w ns r (Aim p (Declared i) t r) (of-aim w p (Declared i) t r) sound) below) holds1, leads1))
      on mark mark' (Aim p (Assigned l) t r) a sound below holds leads kept popped = absurd cc
      on mark mark' {ns = ns} {b = b} {k = k} {k' = k'} (If p t x y r) a sound below holds leads kept popped =
          let parts = of-if w p t x y r in
          let K = Go Inner (own w) (B w r) k in
          let K' = Go Inner (own w) (B w (U w ns false r)) k' in
          by-both (value (S a) (E t)) (value (S a) (E (counting ns t))) (value-same w counters signals ns a t holds) (λ v. Go Inner (own w) (pick v (B w x) (B w y)) K) (λ v. Go Inner (own w) (pick v (B w (U w ns false x)) (B w (U w ns false y))) K') (λ v. a)
          (Go mark (own w) (B w (If p t x y r)) k) (Go mark' (own w) (B w (U w ns false (If p t x y r))) k') a refl refl refl refl refl
          (λ v ev. (branch v (sound-part w ns x (If p t x y r) parts.0 sound) (sound-part w ns y (If p t x y r) parts.1 sound) (below_inner r (sound-part w ns r (If p t x y r) parts.2 sound) below), leads))
        where
          branch : (v : ℕ) → Sound w ns x → Sound w ns y → {K K' : Frames} → Below w ns false K K' → Near (Go Inner (own w) (pick v (B w x) (B w y)) K) (Go Inner (own w) (pick v (B w (U w ns false x)) (B w (U w ns false y))) K') a
          branch zero sx sy below = near_on (alike_on Inner Inner y sy below) holds
          branch (suc v) sx sy below = near_on (alike_on Inner Inner x sx below) holds
      on mark mark' {ns = ns} {b = b} {k = k} {k' = k'} (Block p x r) a sound below holds leads kept popped =
          let parts = of-block w p x r in
          let e = entered w counters knows signals x (sound-part w ns x (Block p x r) parts.0 sound) (below_block r (sound-part w ns r (Block p x r) parts.1 sound) below) in
          going-on (Go Inner (own w) (B w x) (Go BehindBlock (own w) (B w r) k)) (Go Inner (own w) (B w (U w ns true x)) (Go BehindBlock (own w) (B w (U w ns false r)) k'))
          (Go mark (own w) (B w (Block p x r)) k) (Go mark' (own w) (B w (U w ns false (Block p x r))) k') a refl refl refl refl refl (near_on e.alike holds) leads
      on mark mark' {ns = ns} {b = b} {k = k} {k' = k'} (Loop p c x r) a sound below holds leads kept popped =
          let parts = of-loop w p c x r in
          going-on (Go Inner (own w) (B w x) (Go Inner (own w) (B w (Loop p c x r)) k)) (Go Inner (own w) (B w (U w ns false x)) (Go Inner (own w) (B w (U w ns false (Loop p c x r))) k'))
          (Go mark (own w) (B w (Loop p c x r)) k) (Go mark' (own w) (B w (U w ns false (Loop p c x r))) k') a refl refl refl refl refl
          (near_on (alike_on Inner Inner x (sound-part w ns x (Loop p c x r) parts.0 sound) (below_inner (Loop p c x r) sound below)) holds) leads
      on mark mark' {ns = ns} {b = b} {k = k} {k' = k'} (Exit p i r) a sound below holds leads kept popped =
          let g = leave-below w i below in
          going-on (leave i k) (leave i k') (Go mark (own w) (B w (Exit p i r)) k) (Go mark' (own w) (B w (U w ns false (Exit p i r))) k') a refl refl refl refl refl (near_on g.alike (g.fewer a holds)) leads
      on mark mark' {ns = ns} {b = b} {k = k} {k' = k'} (Wait p l c r) a sound below holds leads kept popped = record {
        points = refl;
        stays = λ t. refl;
        goes = λ t. absurd (not-so t);
        waits = λ t. record { front = waiting l (one_less c) (Go Inner (own w) (B w (U w ns false r)) k'); near = λ u. near_on (by ns (no-wait w counters knows signals p l c r sound) sound below) tt; leads = leads; reached = refl };
      }
        where
          not-so : true ≡ false → ⊥
          not-so z = cc

          by : (ms : List Counter) → ms ≡ [] → Sound w ms (Wait p l c r) → Below w ms b k k' → Alike w 0 [] (waiting l (one_less c) (Go Inner (own w) (B w r) k)) (waiting l (one_less c) (Go Inner (own w) (B w (U w ms false r)) k'))
          by [] e s below = alike-waiting w p l (one_less c) c r s below
          by (m ∷ ms) e s below = absurd cc

      below-on : {ns : List Counter} {b : Bool} {k k' : Frames} (a : Held) → Below w ns b k k' → HoldsAll w ns a → LeadsWell w a.store.targets → HoldsFixed w a → next_points k' ≡ false → Step k k' a
      below-on a below_stop holds leads fixed kept = record { points = refl; stays = λ t. t; goes = λ t. (refl, leads); waits = λ t. absurd (not-so t) }
        where
          not-so : false ≡ true → ⊥
          not-so z = cc
      below-on a (below_inner c s r) holds leads fixed kept = on Inner Inner c a s r holds leads kept (below-on a r holds leads fixed)
      below-on a (below_block c s r) holds leads fixed kept = on BehindBlock BehindBlock c a s r holds leads kept (below-on a r holds leads fixed)
      below-on a (below_turn g left x f e r) holds leads fixed kept = stepping BehindBlock BehindBlock g left x f e r a holds leads fixed

      pub step : (f f' : Frames) (a : Held) → Near f f' a → LeadsWell w a.store.targets → HoldsFixed w a → next_points f' ≡ false → Step f f' a
      step f f' a (near_on alike_stop holds) leads fixed kept = below-on a below_stop tt leads fixed kept
      step f f' a (near_on (alike_on mark mark' c s r) holds) leads fixed kept = on mark mark' c a s r holds leads kept (below-on a r holds leads fixed)
      step f f' a (near_on (alike_begin mark mark' g p q e form s d r) holds) leads fixed kept = beginning mark mark' g p q e form s d r a holds leads fixed
      step f f' a (near_on (alike_turn {ns = ns} {k = k} {k' = k'} mark mark' g left x form e r) holds) leads fixed kept =
          let K = Go Inner (own w) (B w (loop_code w g)) k in
          let u = entered w counters knows signals g.turn (form.sound x) (below_turn g left x form e r) in
          going-on (Go Inner (own w) (B w g.turn) (Go BehindBlock (own w) (B w (step_code w g)) K)) (Go Inner (own w) (B w (U w (counter g.cell x ∷ ns) true g.turn)) (Go BehindBlock (own w) (B w (stepped_code w ns g left x)) k'))
          (Go mark (own w) (B w (turn_code w g)) K) (Go mark' (own w) (B w (Block g.turn_place (U w (counter g.cell x ∷ ns) true g.turn) (stepped_code w ns g left x))) k') a refl refl refl refl refl (near_on u.alike holds) leads
      step f f' a (near_on (alike_step mark mark' g left x form e r) holds) leads fixed kept = stepping mark mark' g left x form e r a holds leads fixed
      step f f' a (near_loop {k = k} mark mark' g left x form ends below holds) leads fixed kept =
          behind-head (Go Inner (own w) (B w (loop_body w g)) (Go Inner (own w) (B w (loop_code w g)) k)) f f' a refl refl refl (near_test mark' g left x form ends below holds) leads
      step f f' a (near_test mark' g left x form ends below holds) leads fixed kept = testing mark' g left x form ends below a holds leads fixed
      step f f' a (near_leaves {k = k} {k' = k'} mark' g below holds) leads fixed kept =
          let u = fall-below w below in
          behind-head (leave 0 k) f f' a refl refl refl (near_before mark' (near_on u.alike (u.fewer a holds))) leads
      step f f' a (near_behind {f = g} mark n) leads fixed kept = ahead mark g f' a (step g f' a n leads fixed kept)
      step f f' a (near_before {f' = g} mark n) leads fixed kept = before mark f g a (step f g a n leads fixed kept)
