-- The unrolled body follows the body with its loops.
use Rattle.std.proofs.Common.{◌≡◌, ◌⊎◌, inl, inr, ℕ, zero, suc, ◌≤◌, Bool, true, false, List, [], ◌∷◌, Option, Some, None, option_map, refl, sym, ap, ◌∙◌, subst, arith}
use Rattle.std.specs.Prelude.{unwrap_or, option_and_then, if◌then◌else◌}
use Rattle.scc_base.specs.declared.refusal.Place.{Place}
use Rattle.scc_bits_kinds.specs.declared.kind.Kind.{Kind}
use Rattle.scc_bits_kinds.specs.declared.kind.Kind.TheVariants as kind
use Rattle.scc_bits_kinds.specs.Kinds.{width_of}
use Rattle.scc_semantics.specs.Location.{Location}
use Rattle.scc_semantics.specs.Expressions as body
use Rattle.scc_semantics.specs.Places.{Thing, Number, Signal, Port}
use Rattle.scc_semantics.specs.Store.{changed}
use Rattle.scc_semantics.specs.Scene.{Scene, followed, index_of, with_bit}
use Rattle.scc_semantics.specs.Body as machine
use Rattle.scc_semantics.specs.Value.{Held, locate, value, put_at, picked, with_words, asked}
use Rattle.scc_semantics.specs.Machine.{Frames, Stop, Go, Mark, Inner, BehindBlock, Outcome, pick, leave, one_less, waiting, unless_stuck, pointed_at}
use Rattle.scc_semantics_laws.proofs.Places.{same-self}
use Rattle.scc_core_spec.specs.Term.{Term, Literal, Left, Cell, Pick, Whole, OneBit, Bits, kind_of, place_of}
use Rattle.scc_core_spec.specs.Code.{Code, Pointed, Declared, Assigned, End, Put, Aim, If, Block, Loop, Exit, Wait}
use Rattle.scc_core_spec.specs.Static.{static}
use Rattle.scc_core_spec.specs.Counted.{Counter, counter, counting, counting_left, counting_pick, enough_turns, counter_number}
use Rattle.scc_core_spec.specs.Source.{expr_of, left_of, pick_of}
use Rattle.scc_core_unroll_laws.specs.Unrolling.{Around, own, scene_at, local_at, Counters, HoldsAll, LeadsWell, Sound, B, U, Form, IsForm, turn_code, loop_code, step_code, stepped_code, next_word, turns, written, Below, below_stop, below_inner, below_block, below_turn, Alike, alike_stop, alike_on, alike_begin, alike_turn, alike_step, Tells, depth, thrice, IsKept, Knows, go, along, Keeps, Sim}
use Rattle.scc_core_unroll_laws.proofs.Counters.{value-same, kinded-counting, left-same, kind-same, counter-left, some-is}
use Rattle.scc_core_unroll_laws.proofs.Untouched.{led-well, reach}
use Rattle.scc_core_unroll_laws.proofs.Keeping.{PartOf, sound-part, of-put, of-aim, of-if, of-block, of-loop, put-holds, others-hold}
use Rattle.scc_core_unroll_laws.proofs.Steps.{putting, unless-put, aiming, unless-aim, plus, tells-more, onward, by-option}
use Rattle.scc_core_unroll_laws.proofs.Frames.{leave-below, alike-waiting, pop, keeps-pop, head}
use Rattle.scc_core_unroll_laws.proofs.Forms.{Begins, first-is, form-is}

module _ (w : Around) (counters : Counters w) (knows : Knows w) (signals : Location → ℕ) where
  abbrev S : Held → Scene
  S a = scene_at w signals a

  abbrev E : Term → body.Expr
  E e = expr_of w.home w.setting.cells w.process e

  abbrev L : Left → body.Left
  L l = left_of w.home w.setting.cells w.process l

  abbrev P : Pick → body.Pick
  P k = pick_of w.home w.setting.cells w.process k

  abbrev All : ℕ → Type 0
  All n = (v : ℕ) (ns : List Counter) (f f' : Frames) (a : Held) → Alike w v ns f f' → HoldsAll w ns a → LeadsWell w a.store.targets → Keeps w signals f' a → Sim w signals n v f f' a

  -- an empty list has come to its end
  sim-pop : (n v : ℕ) (mark mark' : Mark) (k k' : Frames) (a : Held) → Sim w signals n v k k' a → Sim w signals n v (Go mark (own w) machine.End k) (Go mark' (own w) machine.End k') a
  sim-pop n v mark mark' k k' a s =
      let N = thrice n v in
      subst (λ x. Tells w x (go w signals n (Go mark (own w) machine.End k) a) (go w signals N (Go mark (own w) machine.End k) a)) (sym (pop w signals mark' k' a n))
      (tells-more w (go w signals n k' a) (go w signals n k a) (go w signals N k a) (go w signals n (Go mark (own w) machine.End k) a) (go w signals N (Go mark (own w) machine.End k) a) s
      (λ over. pop w signals mark k a N) (λ un. pop w signals mark k a n ∙ un))

  -- no statement
  still-on : (ns : List Counter) (v : ℕ) (mark mark' : Mark) (k k' : Frames) (a : Held) (c : Code) → Sim w signals 0 v k k' a → Sim w signals 0 v (Go mark (own w) (B w c) k) (Go mark' (own w) (B w (U w ns false c)) k') a
  still-on ns v mark mark' k k' a End s = sim-pop 0 v mark mark' k k' a s
  still-on ns v mark mark' k k' a (Put p l x e r) s = refl
  still-on ns v mark mark' k k' a (Aim p (Declared n) t r) s = refl
  still-on ns v mark mark' k k' a (Aim p (Assigned l) t r) s = refl
  still-on ns v mark mark' k k' a (If p t x y r) s = refl
  still-on ns v mark mark' k k' a (Block p x r) s = refl
  still-on ns v mark mark' k k' a (Loop p n x r) s = refl
  still-on ns v mark mark' k k' a (Exit p n r) s = refl
  still-on ns v mark mark' k k' a (Wait p l n r) s = refl

  ended-still : (v : ℕ) (a : Held) → LeadsWell w a.store.targets → Sim w signals 0 v Stop Stop a
  ended-still zero a leads = (refl, leads)
  ended-still (suc v) a leads = (refl, leads)

  still-below : (v : ℕ) {ns : List Counter} {b : Bool} {k k' : Frames} (a : Held) → LeadsWell w a.store.targets → Below w ns b k k' → Sim w signals 0 v k k' a
  still-below v a leads below_stop = ended-still v a leads
  still-below v a leads (below_inner {ns = ns} {k = k} {k' = k'} c s r) = still-on ns v Inner Inner k k' a c (still-below v a leads r)
  still-below v a leads (below_block {ns = ns} {k = k} {k' = k'} c s r) = still-on ns v BehindBlock BehindBlock k k' a c (still-below v a leads r)
  still-below v a leads (below_turn g n x f e r) = refl

  still : All 0
  still v ms fd fe a alike_stop h leads keep = (refl, leads)
  still v ms fd fe a (alike_on {ns = ns} {k = k} {k' = k'} mark mark' c s r) h leads keep = still-on ns (depth ns) mark mark' k k' a c (still-below (depth ns) a leads r)
  still v ms fd fe a (alike_begin mark mark' g p q e f s d r) h leads keep = refl
  still v ms fd fe a (alike_turn mark mark' g n x f e r) h leads keep = refl
  still v ms fd fe a (alike_step mark mark' g n x f e r) h leads keep = refl

  -- a counter takes a word
  pub puts-counter : (a : Held) (q : Place) (n o x : ℕ) (v : Option ℕ) → counter_number w.setting n ≡ Some o → v ≡ Some x
      → putting w.places (S a) a v (locate (S a) (L (Cell q n))) body.Whole ≡ Some (with_words a (changed (local_at w o) x a.store.words))
  puts-counter a q n o x v e f =
      let m = counters.numbers n o e in
      (λ z. putting w.places (S a) a (f z) (locate (S a) (counter-left w n o e z)) body.Whole) ∙ ap (λ t. put_at t (S a) a (local_at w o) body.Whole x) m.1

  pub changed-there : (l : Location) (x : ℕ) (words : Location → ℕ) → changed l x words l ≡ x
  changed-there l x words = ap (λ b. if b then x else words l) (same-self l)

  -- a loop that is written out begins, or goes on behind a step
  begin-loop : (n : ℕ) → All n → (mark mark' : Mark) {ns : List Counter} {k k' : Frames} (g : Form w) (form : IsForm w ns g) → Below w ns true k k' → (a : Held) → HoldsAll w ns a → LeadsWell w a.store.targets
      → (p q : Place) (ed eu : Term) (left x : ℕ) (o : Option ℕ) → value (S a) (E ed) ≡ Some x → value (S a) (E eu) ≡ Some x → (r : Code) (kd : Frames) → Sound w ns (Put p (Cell q g.cell) Whole ed r) → o ≡ Some x
      → (turns w ns g left o).ends ≡ true
      → ((m : ℕ) (b : Held) → go w signals m (Go Inner (own w) (B w r) kd) b ≡ go w signals m (Go Inner (own w) (B w (loop_code w g)) k) b)
      → Keeps w signals (Go mark' (own w) (B w (Put p (Cell q g.cell) Whole eu (written w ns g (turns w ns g left o).list))) k') a
      → Sim w signals (suc n) (suc (depth ns)) (Go mark (own w) (B w (Put p (Cell q g.cell) Whole ed r)) kd) (Go mark' (own w) (B w (Put p (Cell q g.cell) Whole eu (written w ns g (turns w ns g left o).list))) k') a
  begin-loop n ih mark mark' {ns} {k} {k'} g form below a holds leads p q ed eu left x o vd vu r kd sound oe ends rest keep =
      let l = local_at w form.number in
      let b = with_words a (changed l x a.store.words) in
      let f = Go mark (own w) (B w (Put p (Cell q g.cell) Whole ed r)) kd in
      let W = B w (written w ns g (turns w ns g left o).list) in
      let f' = Go mark' (own w) (B w (Put p (Cell q g.cell) Whole eu (written w ns g (turns w ns g left o).list))) k' in
      let step : Option ℕ → (Held → Outcome) → Outcome = λ v next. unless_stuck a (putting w.places (S a) a v (locate (S a) (L (Cell q g.cell))) body.Whole) next in
      let there : (m : ℕ) → go w signals (suc m) f a ≡ go w signals m (Go Inner (own w) (B w (loop_code w g)) k) b =
      λ m. unless-put w.places (S a) a (value (S a) (E ed)) (locate (S a) (L (Cell q g.cell))) body.Whole (go w signals m (Go Inner (own w) (B w r) kd))
      ∙ (ap (λ u. unless_stuck a u (go w signals m (Go Inner (own w) (B w r) kd))) (puts-counter a q g.cell form.number x (value (S a) (E ed)) form.numbered vd) ∙ rest m b) in
      let here : (m : ℕ) → go w signals (suc m) f' a ≡ go w signals m (Go Inner (own w) W k') b =
      λ m. unless-put w.places (S a) a (value (S a) (E eu)) (locate (S a) (L (Cell q g.cell))) body.Whole (go w signals m (Go Inner (own w) W k'))
      ∙ ap (λ u. unless_stuck a u (go w signals m (Go Inner (own w) W k'))) (puts-counter a q g.cell form.number x (value (S a) (E eu)) form.numbered vu) in
      let goes : (m : ℕ) → along w signals (suc m) f' a ≡ along w signals m (Go Inner (own w) W k') b =
      λ m. unless-put w.places (S a) a (value (S a) (E eu)) (locate (S a) (L (Cell q g.cell))) body.Whole (along w signals m (Go Inner (own w) W k'))
      ∙ ap (λ u. unless_stuck a u (along w signals m (Go Inner (own w) W k'))) (puts-counter a q g.cell form.number x (value (S a) (E eu)) form.numbered vu) in
      let keep1 : Keeps w signals (Go Inner (own w) W k') b = λ j. subst (λ u. IsKept w u) (goes j) (keep (suc j)) in
      let holds1 : HoldsAll w ns b = others-hold w counters signals a leads ns p (Cell q g.cell) Whole ed r l x sound holds (ap (locate (S a)) (counter-left w g.cell form.number form.numbered)) in
      let h = head w signals counters knows ns g k k' b form below holds1 (keep1 0).0 left o x oe (changed-there l x a.store.words) ends in
      let bound = h.bound in
      onward w signals (suc h.taken) n (suc (depth ns)) h.saved f f' h.front h.front' a b (λ m. there (plus h.taken m) ∙ h.there m) (omega arith) (omega (arith, bound)) (here n ∙ h.here n)
      (ih _ _ _ _ b h.alike h.holds leads (h.keeps keep1))

  pub word-is : (ns : List Counter) (g : Form w) (n : ℕ) (o : Option ℕ) → (turns w ns g n o).ends ≡ true → o ≡ Some (unwrap_or o 0)
  word-is ns g zero o e = absurd cc
  word-is ns g (suc n) None e = absurd cc
  word-is ns g (suc n) (Some x) e = refl

  stepping : (n : ℕ) → All n → (mark mark' : Mark) {ns : List Counter} {k k' : Frames} (g : Form w) (left x : ℕ) → IsForm w ns g → (turns w ns g left (next_word w ns g x)).ends ≡ true → Below w ns true k k' → (a : Held)
      → HoldsAll w (counter g.cell x ∷ ns) a → LeadsWell w a.store.targets → Keeps w signals (Go mark' (own w) (B w (stepped_code w ns g left x)) k') a
      → Sim w signals (suc n) (suc (depth ns)) (Go mark (own w) (B w (step_code w g)) (Go Inner (own w) (B w (loop_code w g)) k)) (Go mark' (own w) (B w (stepped_code w ns g left x)) k') a
  stepping n ih mark mark' {ns} {k} {k'} g left x form ends below a holds leads keep =
      let o = next_word w ns g x in
      let oe = word-is ns g left o ends in
      begin-loop n ih mark mark' g form below a holds.1 leads g.step_place g.cell_place g.step (Literal (place_of g.step) (kind_of g.step) (unwrap_or o 0)) left (unwrap_or o 0) o
      (sym (value-same w counters signals (counter g.cell x ∷ ns) a g.step holds) ∙ knows signals a (keep 0).0 (counting (counter g.cell x ∷ ns) g.step) (unwrap_or o 0) (kinded-counting (counter g.cell x ∷ ns) g.step form.step.kinds.2) oe) refl
      End (Go Inner (own w) (B w (loop_code w g)) k) form.step oe ends (λ m b. pop w signals Inner (Go Inner (own w) (B w (loop_code w g)) k) b m) keep

  -- the part of a number that is written
  pick-same : (ns : List Counter) (a : Held) → HoldsAll w ns a → (k : Pick) (j : Kind) (old new : ℕ) → picked (S a) j (P (counting_pick ns k)) old new ≡ picked (S a) j (P k) old new
  pick-same ns a h Whole j old new = refl
  pick-same ns a h (OneBit e) j old new = λ z. option_map (λ i. with_bit (width_of j) old (index_of (kind-same w counters signals ns a e z) i) new) (value-same w counters signals ns a e h z)
  pick-same ns a h (Bits hi lo) j old new = refl

  pub put-same : (ns : List Counter) (a : Held) → HoldsAll w ns a → (k : Pick) (t : Option Thing) (l : Location) (x : ℕ) → put_at t (S a) a l (P (counting_pick ns k)) x ≡ put_at t (S a) a l (P k) x
  put-same ns a h k (Some (Number j)) l x = ap (option_map (λ y. with_words a (changed l y a.store.words))) (pick-same ns a h k j (a.store.words l) x)
  put-same ns a h k (Some (Signal j)) l x = ap (option_map (λ y. asked a l x)) (pick-same ns a h k j 0 x)
  put-same ns a h k (Some (Port j r)) l x = ap (option_map (λ y. asked a r x)) (pick-same ns a h k j 0 x)
  put-same ns a h k None l x = ap (option_map (λ y. a)) (pick-same ns a h k kind.Bool 0 x)

  -- an assignment that begins no loop
  assigning : (n : ℕ) → All n → (mark mark' : Mark) {ns : List Counter} {b : Bool} {k k' : Frames} (p : Place) (l : Left) (j : Pick) (e : Term) (r : Code) (a : Held)
      → Sound w ns (Put p l j e r) → Below w ns b k k' → HoldsAll w ns a → LeadsWell w a.store.targets
      → Keeps w signals (Go mark' (own w) (B w (U w ns false (Put p l j e r))) k') a
      → Sim w signals (suc n) (depth ns) (Go mark (own w) (B w (Put p l j e r)) k) (Go mark' (own w) (B w (U w ns false (Put p l j e r))) k') a
  assigning n ih mark mark' {ns} {b} {k} {k'} p l j e r a sound below holds leads keep =
      let V = value (S a) (E e) in
      let V' = value (S a) (E (counting ns e)) in
      let W = locate (S a) (L l) in
      let W' = locate (S a) (L (counting_left ns l)) in
      let K = P (counting_pick ns j) in
      let r' = U w ns false r in
      let same : putting w.places (S a) a V' W' K ≡ putting w.places (S a) a V W (P j) =
      λ z. option_and_then (λ x. option_and_then (λ m. put-same ns a holds j (w.places.things m) m x z) (followed (left-same w counters signals ns a l holds z))) (value-same w counters signals ns a e holds z) in
      by-option w signals (putting w.places (S a) a V W (P j)) (putting w.places (S a) a V' W' K) same (λ c. Go Inner (own w) (B w r) k) (λ c. Go Inner (own w) (B w r') k') (λ c. c) n (depth ns)
      (Go mark (own w) (B w (Put p l j e r)) k) (Go mark' (own w) (B w (U w ns false (Put p l j e r))) k') a
      (λ m. unless-put w.places (S a) a V W (P j) (go w signals m (Go Inner (own w) (B w r) k)))
      (λ m. unless-put w.places (S a) a V' W' K (go w signals m (Go Inner (own w) (B w r') k')))
      (λ m. unless-put w.places (S a) a V' W' K (along w signals m (Go Inner (own w) (B w r') k'))) keep
      (λ c ec keep1.
      let h = put-holds w counters signals a leads ns p l j e r V (P j) c sound holds ec in
      ih _ _ _ _ c (alike_on Inner Inner r (sound-part w ns r (Put p l j e r) (of-put w p l j e r) sound) below) h.0 (subst (λ t. LeadsWell w t) (sym h.1) leads) keep1)

  -- a loop behind the assignment that begins it
  beginning : (n : ℕ) → All n → (mark mark' : Mark) {ns : List Counter} {k k' : Frames} (g : Form w) (p q : Place) (e : Term) (a : Held) → IsForm w ns g → Sound w ns (Put p (Cell q g.cell) Whole e (loop_code w g))
      → (turns w ns g enough_turns (static w.setting.cells (counting ns e))).ends ≡ true → Below w ns true k k' → HoldsAll w ns a → LeadsWell w a.store.targets
      → Keeps w signals (Go mark' (own w) (B w (Put p (Cell q g.cell) Whole (counting ns e) (written w ns g (turns w ns g enough_turns (static w.setting.cells (counting ns e))).list))) k') a
      → Sim w signals (suc n) (suc (depth ns)) (Go mark (own w) (B w (Put p (Cell q g.cell) Whole e (loop_code w g))) k)
      (Go mark' (own w) (B w (Put p (Cell q g.cell) Whole (counting ns e) (written w ns g (turns w ns g enough_turns (static w.setting.cells (counting ns e))).list))) k') a
  beginning n ih mark mark' {ns} {k} {k'} g p q e a form sound ends below holds leads keep =
      let o = static w.setting.cells (counting ns e) in
      let oe = word-is ns g enough_turns o ends in
      let known = knows signals a (keep 0).0 (counting ns e) (unwrap_or o 0) (kinded-counting ns e sound.kinds.2) oe in
      begin-loop n ih mark mark' g form below a holds leads p q e (counting ns e) enough_turns (unwrap_or o 0) o
      (sym (value-same w counters signals ns a e holds) ∙ known) known (loop_code w g) k sound oe ends (λ m b. refl) keep

  -- a block is entered
  pub record Entered (ns : List Counter) (x : Code) (k k' : Frames) : Type 0 where
    pub saved : ℕ
    pub less : saved ≤ suc (depth ns)
    pub alike : Alike w saved ns (Go Inner (own w) (B w x) k) (Go Inner (own w) (B w (U w ns true x)) k')

  pub entered : {ns : List Counter} {k k' : Frames} (x : Code) → Sound w ns x → Below w ns true k k' → Entered ns x k k'
  entered {ns} {k} {k'} x sound below = by (first-is w ns x)
    where
      by : (U w ns true x ≡ U w ns false x) ⊎ Begins w ns x → Entered ns x k k'
      by (inl e) = record { saved = depth ns; less = omega arith; alike = subst (λ u. Alike w (depth ns) ns (Go Inner (own w) (B w x) k) (Go Inner (own w) (B w u) k')) (sym e) (alike_on Inner Inner x sound below) }
      by (inr b) =
          let h = b.2 in
          let sound0 : Sound w ns (Put b.0 (Cell h.q h.g.cell) Whole b.1 (loop_code w h.g)) = subst (Sound w ns) h.code sound in
          record {
            saved = suc (depth ns);
            less = omega arith;
            alike = subst (λ u. Alike w (suc (depth ns)) ns (Go Inner (own w) (B w x) k) (Go Inner (own w) (B w u) k')) (sym h.unrolled)
                (subst (λ c. Alike w (suc (depth ns)) ns (Go Inner (own w) (B w c) k) (Go Inner (own w) (B w (Put b.0 (Cell h.q h.g.cell) Whole (counting ns b.1) (written w ns h.g (turns w ns h.g enough_turns (static w.setting.cells (counting ns b.1))).list))) k')) (sym h.code)
                (alike_begin Inner Inner h.g b.0 h.q b.1 (form-is w ns b.0 b.1 h.q h.g h.waits h.seldom sound0) sound0 h.ends below));
          }

  -- a pointer's declaration
  pub led-targets : (c : Bool) (a : Held) (l : Location) (o : Option Location) → (pointed_at c a l o).store.targets ≡ (if c then changed l o a.store.targets else a.store.targets)
  led-targets true a l o = refl
  led-targets false a l o = refl

  pub led-words : (ns : List Counter) (c : Bool) (a : Held) (l : Location) (o : Option Location) → HoldsAll w ns a → HoldsAll w ns (pointed_at c a l o)
  led-words ns true a l o h = holds-alike ns h
    where
      holds-alike : (ms : List Counter) → HoldsAll w ms a → HoldsAll w ms (pointed_at true a l o)
      holds-alike [] h = tt
      holds-alike (c ∷ ms) h = (h.0, holds-alike ms h.1)
  led-words ns false a l o h = h

  pub aim-is : (a : Held) (t l : Option (Option Location)) (b : Held) → aiming w.places a t l ≡ Some b → (o : Option Location) × (m : Location) × (t ≡ Some o) × (l ≡ Some (Some m)) × (pointed_at (w.places.pointers m) a m o ≡ b)
  aim-is a None l b e = absurd cc
  aim-is a (Some o) None b e = absurd cc
  aim-is a (Some o) (Some None) b e = absurd cc
  aim-is a (Some o) (Some (Some m)) b e = (o, m, refl, refl, some-is e)

  aimed-part : (ns : List Counter) (p : Place) (to : Pointed) (t : Left) (r : Code) → Sound w ns (Aim p to t r) → PartOf w r (Aim p to t r)
  aimed-part ns p to t r s = of-aim w p to t r

  leading : (n : ℕ) → All n → (mark mark' : Mark) {ns : List Counter} {b : Bool} {k k' : Frames} (p : Place) (i : ℕ) (t : Left) (r : Code) (a : Held)
      → Sound w ns (Aim p (Declared i) t r) → Below w ns b k k' → HoldsAll w ns a → LeadsWell w a.store.targets
      → Keeps w signals (Go mark' (own w) (B w (U w ns false (Aim p (Declared i) t r))) k') a
      → Sim w signals (suc n) (depth ns) (Go mark (own w) (B w (Aim p (Declared i) t r)) k) (Go mark' (own w) (B w (U w ns false (Aim p (Declared i) t r))) k') a
  leading n ih mark mark' {ns} {b} {k} {k'} p i t r a sound below holds leads keep =
      let T = locate (S a) (L t) in
      let T' = locate (S a) (L (counting_left ns t)) in
      let W = locate (S a) (L (Cell p i)) in
      by-option w signals (aiming w.places a T W) (aiming w.places a T' W) (ap (λ t. aiming w.places a t W) (left-same w counters signals ns a t holds)) (λ c. Go Inner (own w) (B w r) k) (λ c. Go Inner (own w) (B w (U w ns false r)) k') (λ c. c) n (depth ns)
      (Go mark (own w) (B w (Aim p (Declared i) t r)) k) (Go mark' (own w) (B w (U w ns false (Aim p (Declared i) t r))) k') a
      (λ m. unless-aim w.places a T W (go w signals m (Go Inner (own w) (B w r) k)))
      (λ m. unless-aim w.places a T' W (go w signals m (Go Inner (own w) (B w (U w ns false r)) k')))
      (λ m. unless-aim w.places a T' W (along w signals m (Go Inner (own w) (B w (U w ns false r)) k')))
      keep
      (λ c ec keep1.
      let x = aim-is a T W c ec in
      let near = reach w counters signals a leads (Cell p i) x.1 x.3 in
      let well = led-well w counters signals a leads t (λ o. let s = sound.part o in omega (arith, s)) (w.places.pointers x.1) x.1 near x.0 x.2 in
      let leads1 : LeadsWell w c.store.targets = subst (λ t. LeadsWell w t) (sym (led-targets (w.places.pointers x.1) a x.1 x.0) ∙ ap (λ c. c.store.targets) x.4) well in
      let holds1 : HoldsAll w ns c = subst (HoldsAll w ns) x.4 (led-words ns (w.places.pointers x.1) a x.1 x.0 holds) in
      ih _ _ _ _ c (alike_on Inner Inner r (sound-part w ns r (Aim p (Declared i) t r) (of-aim w p (Declared i) t r) sound) below) holds1 leads1 keep1)

  -- a branch
  branched : (n : ℕ) → All n → {ns : List Counter} {k k' : Frames} (v : ℕ) (x y : Code) (a : Held) → Sound w ns x → Sound w ns y → Below w ns false k k' → HoldsAll w ns a → LeadsWell w a.store.targets
      → Keeps w signals (Go Inner (own w) (pick v (B w (U w ns false x)) (B w (U w ns false y))) k') a
      → Sim w signals n (depth ns) (Go Inner (own w) (pick v (B w x) (B w y)) k) (Go Inner (own w) (pick v (B w (U w ns false x)) (B w (U w ns false y))) k') a
  branched n ih zero x y a sx sy below holds leads keep = ih _ _ _ _ a (alike_on Inner Inner y sy below) holds leads keep
  branched n ih (suc v) x y a sx sy below holds leads keep = ih _ _ _ _ a (alike_on Inner Inner x sx below) holds leads keep

  pub no-wait : {ns : List Counter} (p : Place) (l c : ℕ) (r : Code) → Sound w ns (Wait p l c r) → ns ≡ []
  no-wait {ns = []} p l c r s = refl
  no-wait {ns = n ∷ ns} p l c r s = let e = s.waits in absurd cc

  -- one statement more
  turn : (n : ℕ) → All n → (mark mark' : Mark) {ns : List Counter} {b : Bool} {k k' : Frames} (c : Code) (a : Held) → Sound w ns c → Below w ns b k k' → HoldsAll w ns a → LeadsWell w a.store.targets
      → (Keeps w signals k' a → Sim w signals (suc n) (depth ns) k k' a) → Keeps w signals (Go mark' (own w) (B w (U w ns false c)) k') a
      → Sim w signals (suc n) (depth ns) (Go mark (own w) (B w c) k) (Go mark' (own w) (B w (U w ns false c)) k') a
  turn n ih mark mark' {ns = ns} {k = k} {k' = k'} End a sound below holds leads popped keep = sim-pop (suc n) (depth ns) mark mark' k k' a (popped (keeps-pop w signals mark' k' a keep))
  turn n ih mark mark' (Put p l j e r) a sound below holds leads popped keep = assigning n ih mark mark' p l j e r a sound below holds leads keep
  turn n ih mark mark' (Aim p (Declared i) t r) a sound below holds leads popped keep = leading n ih mark mark' p i t r a sound below holds leads keep
  turn n ih mark mark' (Aim p (Assigned l) t r) a sound below holds leads popped keep = let e = (keep 0).1 in absurd cc
  turn n ih mark mark' {ns = ns} {b = b} {k = k} {k' = k'} (If p t x y r) a sound below holds leads popped keep =
      let parts = of-if w p t x y r in
      let K = Go Inner (own w) (B w r) k in
      let K' = Go Inner (own w) (B w (U w ns false r)) k' in
      by-option w signals (value (S a) (E t)) (value (S a) (E (counting ns t))) (value-same w counters signals ns a t holds) (λ v. Go Inner (own w) (pick v (B w x) (B w y)) K) (λ v. Go Inner (own w) (pick v (B w (U w ns false x)) (B w (U w ns false y))) K') (λ v. a) n (depth ns)
      (Go mark (own w) (B w (If p t x y r)) k) (Go mark' (own w) (B w (U w ns false (If p t x y r))) k') a (λ m. refl) (λ m. refl) (λ m. refl)
      keep
      (λ v ev keep1. branched n ih v x y a (sound-part w ns x (If p t x y r) parts.0 sound) (sound-part w ns y (If p t x y r) parts.1 sound) (below_inner r (sound-part w ns r (If p t x y r) parts.2 sound) below) holds leads keep1)
  turn n ih mark mark' {ns = ns} {b = b} {k = k} {k' = k'} (Block p x r) a sound below holds leads popped keep =
      let parts = of-block w p x r in
      let e = entered x (sound-part w ns x (Block p x r) parts.0 sound) (below_block r (sound-part w ns r (Block p x r) parts.1 sound) below) in
      let less = e.less in
      onward w signals 1 n (depth ns) e.saved (Go mark (own w) (B w (Block p x r)) k) (Go mark' (own w) (B w (U w ns false (Block p x r))) k') (Go Inner (own w) (B w x) (Go BehindBlock (own w) (B w r) k)) (Go Inner (own w) (B w (U w ns true x)) (Go BehindBlock (own w) (B w (U w ns false r)) k')) a a
      (λ m. refl) (omega arith) (omega (arith, less)) refl
      (ih _ _ _ _ a e.alike holds leads (λ j. keep (suc j)))
  turn n ih mark mark' {ns = ns} {b = b} {k = k} {k' = k'} (Loop p c x r) a sound below holds leads popped keep =
      let parts = of-loop w p c x r in
      onward w signals 1 n (depth ns) (depth ns) (Go mark (own w) (B w (Loop p c x r)) k) (Go mark' (own w) (B w (U w ns false (Loop p c x r))) k') (Go Inner (own w) (B w x) (Go Inner (own w) (B w (Loop p c x r)) k)) (Go Inner (own w) (B w (U w ns false x)) (Go Inner (own w) (B w (U w ns false (Loop p c x r))) k')) a a
      (λ m. refl) (omega arith) (omega arith) refl
      (ih _ _ _ _ a (alike_on Inner Inner x (sound-part w ns x (Loop p c x r) parts.0 sound) (below_inner (Loop p c x r) sound below)) holds leads (λ j. keep (suc j)))
  turn n ih mark mark' {ns = ns} {b = b} {k = k} {k' = k'} (Exit p i r) a sound below holds leads popped keep =
      let g = leave-below w i below in
      let less = g.less in
      onward w signals 1 n (depth ns) g.saved (Go mark (own w) (B w (Exit p i r)) k) (Go mark' (own w) (B w (U w ns false (Exit p i r))) k') (leave i k) (leave i k') a a (λ m. refl) (omega arith) (omega (arith, less)) refl
      (ih _ _ _ _ a g.alike (g.fewer a holds) leads (λ j. keep (suc j)))
  turn n ih mark mark' {ns = ns} {b = b} {k = k} {k' = k'} (Wait p l c r) a sound below holds leads popped keep =
      let e : ns ≡ [] = no-wait p l c r sound in
      (refl, by ns e sound below, leads)
    where
      by : (ms : List Counter) → ms ≡ [] → Sound w ms (Wait p l c r) → Below w ms b k k' → Alike w 0 [] (waiting l (one_less c) (Go Inner (own w) (B w r) k)) (waiting l (one_less c) (Go Inner (own w) (B w (U w ms false r)) k'))
      by [] e s below = alike-waiting w p l (one_less c) c r s below
      by (m ∷ ms) e s below = absurd cc

  entering : (n : ℕ) → All n → (mark mark' : Mark) {ns : List Counter} {k k' : Frames} (g : Form w) (left x : ℕ) (a : Held) → IsForm w ns g → (turns w ns g left (next_word w ns g x)).ends ≡ true → Below w ns true k k'
      → HoldsAll w (counter g.cell x ∷ ns) a → LeadsWell w a.store.targets
      → Keeps w signals (Go mark' (own w) (B w (Block g.turn_place (U w (counter g.cell x ∷ ns) true g.turn) (stepped_code w ns g left x))) k') a
      → Sim w signals (suc n) (suc (depth ns)) (Go mark (own w) (B w (turn_code w g)) (Go Inner (own w) (B w (loop_code w g)) k)) (Go mark' (own w) (B w (Block g.turn_place (U w (counter g.cell x ∷ ns) true g.turn) (stepped_code w ns g left x))) k') a
  entering n ih mark mark' {ns} {k} {k'} g left x a form ends below holds leads keep =
      let K = Go Inner (own w) (B w (loop_code w g)) k in
      let e = entered g.turn (form.sound x) (below_turn g left x form ends below) in
      let less = e.less in
      onward w signals 1 n (suc (depth ns)) e.saved (Go mark (own w) (B w (turn_code w g)) K) (Go mark' (own w) (B w (Block g.turn_place (U w (counter g.cell x ∷ ns) true g.turn) (stepped_code w ns g left x))) k')
      (Go Inner (own w) (B w g.turn) (Go BehindBlock (own w) (B w (step_code w g)) K)) (Go Inner (own w) (B w (U w (counter g.cell x ∷ ns) true g.turn)) (Go BehindBlock (own w) (B w (stepped_code w ns g left x)) k')) a a
      (λ m. refl) (omega arith) (omega (arith, less)) refl
      (ih _ _ _ _ a e.alike holds leads (λ j. keep (suc j)))

  below-on : (n : ℕ) → All n → {ns : List Counter} {b : Bool} {k k' : Frames} (a : Held) → Below w ns b k k' → HoldsAll w ns a → LeadsWell w a.store.targets → Keeps w signals k' a → Sim w signals (suc n) (depth ns) k k' a
  below-on n ih a below_stop holds leads keep = (refl, leads)
  below-on n ih a (below_inner c s r) holds leads keep = turn n ih Inner Inner c a s r holds leads (below-on n ih a r holds leads) keep
  below-on n ih a (below_block c s r) holds leads keep = turn n ih BehindBlock BehindBlock c a s r holds leads (below-on n ih a r holds leads) keep
  below-on n ih a (below_turn g left x f e r) holds leads keep = stepping n ih BehindBlock BehindBlock g left x f e r a holds leads keep

  on : (n : ℕ) → All n → All (suc n)
  on n ih v ms fd fe a alike_stop holds leads keep = (refl, leads)
  on n ih v ms fd fe a (alike_on mark mark' c s r) holds leads keep = turn n ih mark mark' c a s r holds leads (below-on n ih a r holds leads) keep
  on n ih v ms fd fe a (alike_begin mark mark' g p q e f s d r) holds leads keep = beginning n ih mark mark' g p q e a f s d r holds leads keep
  on n ih v ms fd fe a (alike_turn mark mark' g left x f e r) holds leads keep = entering n ih mark mark' g left x a f e r holds leads keep
  on n ih v ms fd fe a (alike_step mark mark' g left x f e r) holds leads keep = stepping n ih mark mark' g left x f e r a holds leads keep

  pub follows : (n : ℕ) → All n
  follows zero = still
  follows (suc n) = on n (follows n)
