-- The statements of a body write what is bounded.
use Rattle.std.proofs.Common.{◌≡◌, ℕ, suc, ◌+◌, ◌<◌, ◌≤◌, Bool, true, ◌&&◌, List, [], ◌∷◌, length, Option, Some, None, is_some, refl, ap, ◌∙◌, if◌then◌else◌, arith}
use Rattle.std.specs.Prelude.{nat_lt}
use Rattle.scc_base.specs.declared.refusal.Place.{Place}
use Rattle.scc_templates_spec.specs.Walked.{pure}
use Rattle.scc_templates_spec.specs.World.{World}
use Rattle.scc_templates_spec.specs.Tree.{Tree, place_of, count}
use Rattle.scc_templates_spec.specs.Statements.{Stmts, End, Brace, Declare, If, Switch, While, Do, For, Break, Continue, Return, Wait, Runs, Reset, Simply, Items, NoItems, Case, Otherwise, Between, Local, Simple, First, Nothing, Locals, Does}
use Rattle.scc_templates_spec.specs.Statements as stmts
use Rattle.scc_templates_spec.specs.Source.{Source}
use Rattle.scc_elab_spec.specs.Term.{Term}
use Rattle.scc_elab_spec.specs.Program as code
use Rattle.scc_plain_spec.specs.Scope.{Answer}
use Rattle.scc_plain_spec.specs.Room.{Around, Known, Writes, nothing, then_write, Step}
use Rattle.scc_plain_spec.specs.Single.{local}
use Rattle.scc_plain_laws.proofs.Walks.{Gives, gives-in, finds-pure}
use Rattle.scc_plain_laws.proofs.Named.{Names}
use Rattle.scc_plain_laws.proofs.Expressions.{condition-gives}
use Rattle.scc_plain_bounds_laws.specs.Bounds.{leaves, one}
use Rattle.scc_plain_bounds_laws.specs.Within.{within_code, within_term}
use Rattle.scc_plain_bounds_laws.proofs.Before.{Before, longer, lt-true, on}
use Rattle.scc_plain_bounds_laws.proofs.Bounded.{Bounded, Mark, both, plain, none, in-turn, branch, exit, block, loop}
use Rattle.scc_plain_bounds_laws.proofs.Flushes.{IsRoom, length-held, lifts, Flushes, flush-done, flush-none, flush-keep, flush-then, flush-map, Wrote, written-flushes, plain-flushes}
use Rattle.scc_plain_bounds_laws.proofs.Within.{below, term-within, Knows, knows-more, knows-later}
use Rattle.scc_plain_spec.specs.Loops.{counted, loop_test, turn, looped, for_loop}
use Rattle.scc_plain_spec.specs.Switch.{Flow, in_turn, in_cases, Cases, no_cases, labels_in, behind_stmts, switched}
use Rattle.scc_plain_spec.specs.Bodies.{in_order, before, leave, declared_so_far, Headed, one_name, Selected, head_locals, head, tested, tested_if, changed, body, items}
use Rattle.scc_plain_bounds_laws.proofs.Single.{local-flushes, simple-flushes, give-flushes, wait-flushes, process-flushes, reset-flushes, senses-flush}
use Rattle.scc_plain_bounds_laws.proofs.Switch.{Under, Fits, IsCases, leads, cases-begin, stmts-cases, switched-bounded, case-finds, otherwise-finds, selected-flushes}

abbrev Positive : ℕ → Type 0
Positive d = 0 < d

module _ (v : Bool) where
  pub order-flushes : (D : ℕ → Type 0) (lo : Mark) {f g : Step Writes} → Flushes v lo lo.locals (Wrote v D lo lo.locals) f → ((mid : Mark) → Before lo.locals mid.locals → Flushes v mid mid.locals (Wrote v D mid mid.locals) g) → Flushes v lo lo.locals (Wrote v D lo lo.locals) (in_order f g)
  order-flushes D lo h k = flush-then h (λ x mid a. flush-then (k mid a.grows) (λ y hi b. flush-done {x = then_write x y} (in-turn v D a b)))

  before-flushes : (D : ℕ → Type 0) (lo mid : Mark) (x : Writes) {g : Step Writes} → Bounded v D lo mid x → Flushes v mid mid.locals (Wrote v D mid mid.locals) g → Flushes v mid mid.locals (Wrote v D lo lo.locals) (before x g)
  before-flushes D lo mid x a k = flush-then k (λ y hi b. flush-done {x = then_write x y} (in-turn v D a b))

  leave-flushes : (D : ℕ → Type 0) (lo : Mark) (p : Place) (n : Option ℕ) → ((d : ℕ) → D d → Under n d) → Flushes v lo lo.locals (Wrote v D lo lo.locals) (leave p n)
  leave-flushes D lo p None u = flush-none (λ r. refl)
  leave-flushes D lo p (Some n) u = written-flushes v D lo lo.locals (λ k. exit v D (record { calls = k; locals = lo.locals }) p n u)

  test-bounded : (lo : Mark) (p : Place) (t : Term) → Names (below lo.locals) t → Bounded v Positive lo lo (loop_test p t)
  test-bounded lo p t h = plain v Positive lo (λ j c k. omega arith) (λ j c d w e. both (nat_lt 0 d && true) (leaves v d c) (both (nat_lt 0 d) true (lt-true 0 d w) refl) e)
      (λ j c b z w. both (within_term b t) (true && (true && within_code b c)) (term-within lo.locals b z t h) w)

  turn-fits : (f : Flow) (d : ℕ) → Positive d → Fits (in_turn f) (suc d)
  turn-fits f d w = (omega (arith, w), omega arith)

  -- a turn is a block
  turn-bounded : (f : Flow) {lo hi : Mark} (p : Place) (x : Writes) → Bounded v (Fits (in_turn f)) lo hi x → Bounded v Positive lo hi (turn p x)
  turn-bounded f p x a = block v Positive (Fits (in_turn f)) (turn-fits f) p x a

  loop-bounded : (D : ℕ → Type 0) {lo hi : Mark} (p : Place) (x : Writes) → Bounded v Positive lo hi x → Bounded v D lo hi (looped p None x)
  loop-bounded D p x a = loop v D Positive (λ d w. omega arith) p (λ n. None) x a

  -- the step of a `for` is numbered before its turn, and stands behind it
  for-bounded : (D : ℕ → Type 0) (p : Place) (single : Bool) (counter : ℕ) (lo m1 m2 m3 hi : Mark) (before test step turn : Writes) → Bounded v Positive lo m1 before → Bounded v Positive m1 m2 test → Bounded v Positive m2 m3 step → Bounded v Positive m3 hi turn
      → Bounded v D lo hi (for_loop p single counter before test turn step)
  for-bounded D p single counter lo m1 m2 m3 hi before test step turn a b c e = record {
    calls = λ n r k.
        let inner = test n (turn n (step n code.End)) in
        let g1 = a.calls n (code.Loop p (if single then counted counter (before n code.End) (test n code.End) (step n code.End) else None) inner code.End) k in
        let g2 = b.calls n (turn n (step n code.End)) k in
        let g3 = e.calls n (step n code.End) k in
        let g4 = c.calls n code.End k in omega (arith, g1, g2, g3, g4);
    stays = λ n r d w h.
        let count = if single then counted counter (before n code.End) (test n code.End) (step n code.End) else None in
        let inner = test n (turn n (step n code.End)) in
        let one : Positive (suc d) = omega arith in
        let i = b.stays n (turn n (step n code.End)) (suc d) one (e.stays n (step n code.End) (suc d) one (c.stays n code.End (suc d) one refl)) in
        both (leaves v (suc d) (before n (code.Loop p count inner code.End))) (leaves v d r) (a.stays n (code.Loop p count inner code.End) (suc d) one (both (leaves v (suc d) inner) true i refl)) h;
    grows = on a.grows (on b.grows (on c.grows e.grows));
    within = λ n r k w h.
        let count = if single then counted counter (before n code.End) (test n code.End) (step n code.End) else None in
        let inner = test n (turn n (step n code.End)) in
        let i = b.within n (turn n (step n code.End)) k (on c.grows (on e.grows w)) (e.within n (step n code.End) k w (c.within n code.End k (on e.grows w) refl)) in
        both (within_code k (before n (code.Loop p count inner code.End))) (within_code k r) (a.within n (code.Loop p count inner code.End) k (on b.grows (on c.grows (on e.grows w))) (both (within_code k inner) true i refl)) h;
  }

  so-far : (lo : Mark) → Gives (IsRoom v lo lo.locals) (λ (n : ℕ). n ≡ length lo.locals) declared_so_far
  so-far lo = gives-in {f = λ r. pure (length r.locals)} (λ r k. finds-pure (length-held r.locals ∙ ap length k.held))

  -- what a body writes, with at least the locals that it begins with
  abbrev WroteBody : Flow → Mark → Stmts → Mark → Writes → Type 0
  WroteBody f lo b hi x = Bounded v (Fits f) lo hi x × (length lo.locals + leads b ≤ length hi.locals)

  flat : (f : Flow) (lo : Mark) {g : Step Writes} → Flushes v lo lo.locals (Wrote v (Fits f) lo lo.locals) g → Flushes v lo lo.locals (λ hi x. Bounded v (Fits f) lo hi x × (length lo.locals + 0 ≤ length hi.locals)) g
  flat f lo h = flush-map (λ hi x a. (a, (let g = longer a.grows in omega (arith, g)))) h

  module _ (s : Source) (w : World Answer) (a : Around) (is : is_some a.result ≡ v) where
    abbrev IsHeaded : Mark → Mark → Headed → Type 0
    IsHeaded lo hi h = Bounded v Positive lo hi h.writes × Knows hi.locals h.known

    locals-flush : (lo : Mark) (ks : List Known) → Knows lo.locals ks → (ls : List Local) → Flushes v lo lo.locals (IsHeaded lo) (head_locals s w a ks ls)
    locals-flush lo ks known [] = flush-done {x = record { writes = nothing; known = ks }} (none v Positive lo, known)
    locals-flush lo ks known (l ∷ ls) = flush-then (local-flushes v Positive lo s w a ks known true l) (λ d mid x. flush-then (locals-flush mid (d.known ∷ ks) (knows-more mid.locals d.known ks x.1 (knows-later lo.locals mid.locals ks x.0.grows known)) ls)
        (λ h hi y. flush-done {x = record { writes = then_write d.writes h.writes; known = h.known }} (in-turn v Positive x.0 y.0, y.1)))

    head-flushes : (lo : Mark) (ks : List Known) → Knows lo.locals ks → (f : First) → Flushes v lo lo.locals (IsHeaded lo) (head s w a ks f)
    head-flushes lo ks known Nothing = flush-done {x = record { writes = nothing; known = ks }} (none v Positive lo, known)
    head-flushes lo ks known (Locals ls) = locals-flush lo ks known ls
    head-flushes lo ks known (Does e) = flush-then (simple-flushes v Positive lo s w a ks known true e) (λ x hi b. flush-done {x = record { writes = x; known = ks }} (b, knows-later lo.locals hi.locals ks b.grows known))

    tested-flushes : (lo : Mark) (ks : List Known) → Knows lo.locals ks → (t : Tree) → Flushes v lo lo.locals (Wrote v Positive lo lo.locals) (tested s w a ks t)
    tested-flushes lo ks known t = flush-keep (condition-gives (below lo.locals) (lifts v lo lo.locals) s w a ks known true t) (λ x h. flush-done {x = loop_test (place_of t) x.term} (test-bounded lo (place_of t) x.term h))

    tested-if-flushes : (lo : Mark) (ks : List Known) → Knows lo.locals ks → (t : Option Tree) → Flushes v lo lo.locals (Wrote v Positive lo lo.locals) (tested_if s w a ks t)
    tested-if-flushes lo ks known None = flush-done {x = nothing} (none v Positive lo)
    tested-if-flushes lo ks known (Some t) = tested-flushes lo ks known t

    changed-flushes : (lo : Mark) (ks : List Known) → Knows lo.locals ks → (e : Option Simple) → Flushes v lo lo.locals (Wrote v Positive lo lo.locals) (changed s w a ks e)
    changed-flushes lo ks known None = flush-done {x = nothing} (none v Positive lo)
    changed-flushes lo ks known (Some e) = simple-flushes v Positive lo s w a ks known true e

    first : (f : Flow) (lo : Mark) (b : Stmts) {g : Step Writes} → Flushes v lo lo.locals (WroteBody f lo b) g → Flushes v lo lo.locals (Wrote v (Fits f) lo lo.locals) g
    first f lo b h = flush-map (λ hi x t. t.0) h

    -- what stands behind, with the names known before
    rest : (lo mid : Mark) (f : Flow) (ks : List Known) → Knows lo.locals ks → (b : Stmts) → Before lo.locals mid.locals → (Knows mid.locals ks → Flushes v mid mid.locals (WroteBody f mid b) (body s w a f ks b))
        → Flushes v mid mid.locals (Wrote v (Fits f) mid mid.locals) (body s w a f ks b)
    rest lo mid f ks known b g h = first f mid b (h (knows-later lo.locals mid.locals ks g known))

    mutual
      pub body-flushes : (lo : Mark) (f : Flow) (ks : List Known) → Knows lo.locals ks → (b : Stmts) → Flushes v lo lo.locals (WroteBody f lo b) (body s w a f ks b)
      body-flushes lo f ks known End = flat f lo (flush-done {x = nothing} (none v (Fits f) lo))
      body-flushes lo f ks known (Brace b r) = flat f lo (order-flushes (Fits f) lo (first f lo b (body-flushes lo f ks known b)) (λ m g. rest lo m f ks known r g (λ z. body-flushes m f ks z r)))
      body-flushes lo f ks known (Declare l r) = flush-then (local-flushes v (Fits f) lo s w a ks known f.late l) (λ d mid x.
          flush-then (body-flushes mid f (d.known ∷ ks) (knows-more mid.locals d.known ks x.1 (knows-later lo.locals mid.locals ks x.0.grows known)) r) (λ y hi b.
          flush-done {x = then_write d.writes y} (in-turn v (Fits f) x.0 b.0, (let i = x.2 in let j = b.1 in omega (arith, i, j)))))
      body-flushes lo f ks known (If p t b c r) = flat f lo (flush-keep (condition-gives (below lo.locals) (lifts v lo lo.locals) s w a ks known f.late t) (λ x h. flush-then (written-flushes v (Fits f) lo lo.locals (λ k. none v (Fits f) (record { calls = k; locals = lo.locals }))) (λ calls m1 k.
          flush-then (rest lo m1 f ks known b k.grows (λ z. body-flushes m1 f ks z b)) (λ y m2 i. flush-then (rest m1 m2 f ks (knows-later lo.locals m1.locals ks k.grows known) c i.grows (λ z. body-flushes m2 f ks z c)) (λ z m3 j.
          before-flushes (Fits f) lo m3 (then_write calls (λ n k. code.If p x.term (y n code.End) (z n code.End) k)) (in-turn v (Fits f) k (branch v (Fits f) p x.term y z (λ b g. term-within lo.locals b (on k.grows g) x.term h) i j))
          (rest m2 m3 f ks (knows-later lo.locals m2.locals ks (on k.grows i.grows) known) r j.grows (λ z. body-flushes m3 f ks z r)))))))
      body-flushes lo f ks known (Switch p e is r) = flat f lo (flush-then (selected-flushes v s w a f lo ks known f.late p e) (λ x m1 k.
          let g = k.0.grows in
          flush-then (items-flush m1 m1 f x k.1 (no_cases ks is) is (cases-begin v f m1 ks is (knows-later lo.locals m1.locals ks g known))) (λ c m2 h.
          let b = switched-bounded v f m1 m2 p c h in
          before-flushes (Fits f) lo m2 (then_write x.writes (switched p c)) (in-turn v (Fits f) k.0 b) (rest m1 m2 f ks (knows-later lo.locals m1.locals ks g known) r b.grows (λ z. body-flushes m2 f ks z r)))))
      body-flushes lo f ks known (While p t b r) = flat f lo (flush-then (tested-flushes lo ks known t) (λ x m1 h. flush-then (rest lo m1 (in_turn f) ks known b h.grows (λ z. body-flushes m1 (in_turn f) ks z b)) (λ y m2 i.
          before-flushes (Fits f) lo m2 (looped p None (then_write x (turn p y))) (loop-bounded (Fits f) p (then_write x (turn p y)) (in-turn v Positive h (turn-bounded f p y i))) (rest m1 m2 f ks (knows-later lo.locals m1.locals ks h.grows known) r i.grows (λ z. body-flushes m2 f ks z r)))))
      body-flushes lo f ks known (Do p b t r) = flat f lo (flush-then (first (in_turn f) lo b (body-flushes lo (in_turn f) ks known b)) (λ y m1 i. flush-then (tested-flushes m1 ks (knows-later lo.locals m1.locals ks i.grows known) t) (λ x m2 h.
          before-flushes (Fits f) lo m2 (looped p None (then_write (turn p y) x)) (loop-bounded (Fits f) p (then_write (turn p y) x) (in-turn v Positive (turn-bounded f p y i) h)) (rest m1 m2 f ks (knows-later lo.locals m1.locals ks i.grows known) r h.grows (λ z. body-flushes m2 f ks z r)))))
      body-flushes lo f ks known (For p h t e b r) = flat f lo (flush-keep (so-far lo) (λ n u. flush-then (head-flushes lo ks known h) (λ x m1 i. flush-then (tested-if-flushes m1 x.known i.1 t) (λ y m2 j.
          flush-then (changed-flushes m2 x.known (knows-later m1.locals m2.locals x.known j.grows i.1) e) (λ z m3 k. flush-then (rest m2 m3 (in_turn f) x.known (knows-later m1.locals m2.locals x.known j.grows i.1) b k.grows (λ z. body-flushes m3 (in_turn f) x.known z b)) (λ u m4 l.
          let g : Before lo.locals m4.locals = on i.0.grows (on j.grows (on k.grows l.grows)) in
          before-flushes (Fits f) lo m4 (for_loop p (one_name h) n x.writes y (turn p u) z) (for-bounded (Fits f) p (one_name h) n lo m1 m2 m3 m4 x.writes y z (turn p u) i.0 j k (turn-bounded f p u l)) (rest lo m4 f ks known r g (λ z. body-flushes m4 f ks z r))))))))
      body-flushes lo f ks known (Break p r) = flat f lo (order-flushes (Fits f) lo (leave-flushes (Fits f) lo p f.leave (λ d u. u.0)) (λ m g. rest lo m f ks known r g (λ z. body-flushes m f ks z r)))
      body-flushes lo f ks known (Continue p r) = flat f lo (order-flushes (Fits f) lo (leave-flushes (Fits f) lo p f.next (λ d u. u.1)) (λ m g. rest lo m f ks known r g (λ z. body-flushes m f ks z r)))
      body-flushes lo f ks known (Return p e r) = flat f lo (order-flushes (Fits f) lo (give-flushes v (Fits f) lo s w a ks known f.late p e a.result is) (λ m g. rest lo m f ks known r g (λ z. body-flushes m f ks z r)))
      body-flushes lo f ks known (Wait p e r) = flat f lo (order-flushes (Fits f) lo (wait-flushes v (Fits f) lo s w a ks known f.late p e) (λ m g. rest lo m f ks known r g (λ z. body-flushes m f ks z r)))
      body-flushes lo f ks known (Runs p at x q r) = flat f lo (order-flushes (Fits f) lo (process-flushes v (Fits f) lo s w a ks known f.late p at x q) (λ m g. rest lo m f ks known r g (λ z. body-flushes m f ks z r)))
      body-flushes lo f ks known (stmts.Sensitive p es r) = flat f lo (order-flushes (Fits f) lo (senses-flush v (Fits f) lo s w a ks known f.late p es) (λ m g. rest lo m f ks known r g (λ z. body-flushes m f ks z r)))
      body-flushes lo f ks known (stmts.Quiet p r) = flat f lo (order-flushes (Fits f) lo (plain-flushes v (Fits f) lo lo.locals {x = λ n c. code.Quiet p c} (λ n c k. refl) (λ n c d h. h) (λ n c b h. h)) (λ m g. rest lo m f ks known r g (λ z. body-flushes m f ks z r)))
      body-flushes lo f ks known (Reset p e l asynchronous r) = flat f lo (order-flushes (Fits f) lo (reset-flushes v (Fits f) lo s w a ks known f.late p e l asynchronous) (λ m g. rest lo m f ks known r g (λ z. body-flushes m f ks z r)))
      body-flushes lo f ks known (Simply e r) = flat f lo (order-flushes (Fits f) lo (simple-flushes v (Fits f) lo s w a ks known f.late e) (λ m g. rest lo m f ks known r g (λ z. body-flushes m f ks z r)))

      items-flush : (lo hi : Mark) (f : Flow) (x : Selected) → nat_lt x.local (length lo.locals) ≡ true → (c : Cases) (is : Items) → IsCases v f lo hi (labels_in is) c → Flushes v hi hi.locals (λ m c. IsCases v f lo m 0 c) (items s w a f x c is)
      items-flush lo hi f x there c NoItems k = flush-done {x = c} k
      items-flush lo hi f x there c (Case p e is) k = flush-keep (case-finds v s w a f lo hi (labels_in is) c x p e there k) (λ d h. items-flush lo hi f x there d is h)
      items-flush lo hi f x there c (Otherwise p is) k = flush-keep (otherwise-finds v s w a f lo hi (labels_in is) c p k) (λ d h. items-flush lo hi f x there d is h)
      items-flush lo hi f x there c (Between b is) k = flush-keep (so-far hi) (λ n e. flush-then (body-flushes hi (in_cases c.left f) c.known k.known b) (λ y m h.
          items-flush lo m f x there (behind_stmts c n b y) is (stmts-cases v f lo hi m (labels_in is) c n b y e k h.0 h.1)))
