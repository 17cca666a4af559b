-- Behind each wait of a body the machine comes to the next one as the segment does.
use Rattle.std.proofs.Common.{◌≡◌, ℕ, zero, suc, ◌+◌, ◌*◌, ◌≤◌, max, Bool, true, false, List, [], ◌∷◌, ◌++◌, length, Option, Some, None, refl, sym, subst, arith}
use Rattle.std.specs.Prelude.{slice_get, if◌then◌else◌}
use Rattle.scc_base.specs.declared.refusal.Place.{Place}
use Rattle.scc_semantics.specs.Machine.{Frames, Stop, Go, Mark, Inner, BehindBlock, leave}
use Rattle.scc_core_spec.specs.Term.{Term}
use Rattle.scc_core_spec.specs.Code.{Code, Count, End, Put, Aim, If, Block, Loop, Exit, Wait, size, waits_in, numbered, holds_wait}
use Rattle.scc_core_spec.specs.Static.{goes}
use Rattle.scc_core_spec.specs.Live.{Alive, alive, then_alive, by_test, looped, shut}
use Rattle.scc_core_spec.specs.Segments.{Segment, behind, segment, segments}
use Rattle.scc_core_spec.specs.Sizes.{loops_deep}
use Rattle.scc_blocks_spec.specs.Places.{live_ways, if_ends}
use Rattle.scc_states_path_laws.specs.Moved.{World}
use Rattle.scc_states_path_laws.specs.Within.{Along, Tests}
use Rattle.scc_states_path_laws.proofs.Codes.{MustWait, must_wait-append, or_left, or_right}
use Rattle.scc_states_path_laws.proofs.Alive.{among}
use Rattle.scc_states_path_laws.proofs.Appended.{cuts-append}
use Rattle.scc_states_path_laws.proofs.Does.{B, L, Cut}
use Rattle.scc_states_path_laws.proofs.Tables.{Point, P, rest, blocked, looping, points_if, points_block, points_loop, length-points, if_length, shut_length, no_points, HasAt, has_front, has_back}
use Rattle.scc_states_path_laws.proofs.Reach.{Good, more, good_code, leaves_block}

fit_loop : (D sb sr m : ℕ) → (D + 1) * sb + ((1 + (sb + sr)) + m) ≤ (suc D + 1) * (1 + (sb + sr)) + m
fit_loop D sb sr m = omega arith

loop_leaves : (e : Bool) (p : Place) (n : Option Count) (x : Alive) (j : ℕ) → x.leaves j ≡ true → (looped e p n x).leaves j ≡ true
loop_leaves true p n x j h = h
loop_leaves false p n x j h = h

-- frames that begin with statements still to do
abbrev pub Starts : Frames → Type 0
Starts Stop = ⊥
Starts (Go Inner names c k) = Unit {0}
Starts (Go mark names c k) = ⊥

module _ (w : World) (a : Along w) (E : Type 0) (table : List Point) where
  abbrev pub G : ℕ → Frames → Segment → Type 0
  G b f s = Good w a E table b f s

  pub record GoodPoint (b : ℕ) (q : Point) (s : Segment) : Type 0 where
    pub starts : Starts q.1
    pub good : G b q.1 s

  -- each of these points halts as its segment does
  abbrev pub Goods : ℕ → List Point → List Segment → Type 0
  Goods b [] [] = Unit {0}
  Goods b (q ∷ qs) (s ∷ ss) = GoodPoint b q s × Goods b qs ss
  Goods b [] (s ∷ ss) = ⊥
  Goods b (q ∷ qs) [] = ⊥

  goods_within : (b b' : ℕ) (qs : List Point) (ss : List Segment) → b ≤ b' → Goods b qs ss → Goods b' qs ss
  goods_within b b' [] [] le h = tt
  goods_within b b' (q ∷ qs) (s ∷ ss) le h = (record { starts = h.0.starts; good = more w a E table b b' q.1 s le h.0.good }, goods_within b b' qs ss le h.1)
  goods_within b b' [] (s ∷ ss) le h = h
  goods_within b b' (q ∷ qs) [] le h = h

  goods_append : (b bx by' : ℕ) (ps qs : List Point) (ss us : List Segment) → bx ≤ b → by' ≤ b → Goods bx ps ss → Goods by' qs us → Goods b (ps ++ qs) (ss ++ us)
  goods_append b bx by' [] qs [] us lx ly h i = goods_within by' b qs us ly i
  goods_append b bx by' (p ∷ ps) qs (s ∷ ss) us lx ly h i = (record { starts = h.0.starts; good = more w a E table bx b p.1 s lx h.0.good }, goods_append b bx by' ps qs ss us lx ly h.1 i)
  goods_append b bx by' [] qs (s ∷ ss) us lx ly h i = absurd h
  goods_append b bx by' (p ∷ ps) qs [] us lx ly h i = absurd h

  goods_nil : (b b' : ℕ) (ps : List Point) (ss : List Segment) → b ≤ b' → Goods b ps ss → Goods b' (ps ++ []) ss
  goods_nil b b' [] [] le h = tt
  goods_nil b b' (q ∷ qs) (s ∷ ss) le h = (record { starts = h.0.starts; good = more w a E table b b' q.1 s le h.0.good }, goods_nil b b' qs ss le h.1)
  goods_nil b b' [] (s ∷ ss) le h = h
  goods_nil b b' (q ∷ qs) [] le h = h

  goods_none : (b b' : ℕ) (ps : List Point) (ss : List Segment) → ps ≡ [] → Goods b ps ss → Goods b' (ps ++ []) ss
  goods_none b b' [] [] e h = tt
  goods_none b b' (q ∷ qs) ss e h = absurd cc
  goods_none b b' [] (s ∷ ss) e h = absurd h

  pub goods_at : (b : ℕ) (qs : List Point) (ss : List Segment) (n : ℕ) (q : Point) → slice_get qs n ≡ Some q → Goods b qs ss → (s : Segment) × (slice_get ss n ≡ Some s) × GoodPoint b q s
  goods_at b [] ss n q e h = absurd cc
  goods_at b (x ∷ qs) [] n q e h = absurd h
  goods_at b (x ∷ qs) (s ∷ ss) zero q e h = (s, refl, subst (λ y. GoodPoint b y s) (some_same e) h.0)
    where
      some_same : Some x ≡ Some q → x ≡ q
      some_same e' = cc
  goods_at b (x ∷ qs) (s ∷ ss) (suc n) q e h = goods_at b qs ss n q e h.1

  -- a list and the rest behind it
  seq_points : (x : Alive) (e : Bool) (r : Code) (n : ℕ) (k : Frames) (next : Segment) (outer : List Segment) (m b c : ℕ) (ws : List Point) → Tests w a.Holds r
      → b ≤ c → x.ends ≡ e → length ws ≡ waits_in x.code → MustWait (then_alive e x (alive w.cells r)).code → HasAt table n (ws ++ if_ends e (P w r k))
      → ((then_alive e x (alive w.cells r)).ends ≡ true → G m k next)
      → ((j : ℕ) → (then_alive e x (alive w.cells r)).leaves j ≡ true → G m (leave j k) (behind j outer))
      → ((n' : ℕ) → MustWait (L w a r) → HasAt table n' (P w r k) → ((alive w.cells r).ends ≡ true → G m k next) → ((j : ℕ) → (alive w.cells r).leaves j ≡ true → G m (leave j k) (behind j outer))
      → Goods c (P w r k) (segments (Cut w a n' r) next outer))
      → ((next' : Segment) → MustWait x.code → HasAt table n ws → ((mark : Mark) → x.ends ≡ true → G (size r + m) (Go mark w.names (B w a r) k) next')
      → ((j : ℕ) → x.leaves j ≡ true → G m (leave j k) (behind j outer)) → Goods b ws (segments (numbered n x.code) next' outer))
      → Goods c (ws ++ if_ends e (P w r k)) (segments (numbered n (then_alive e x (alive w.cells r)).code) next outer)
  seq_points x true r n k next outer m b c ws tr le is len must at g l ih front =
      let y = L w a r in
      let n' = n + waits_in x.code in
      let must' = must_wait-append x.code y must in
      let atr = has_back table n n' ws (P w r k) (omega (arith, len)) at in
      let lr : (j : ℕ) → (alive w.cells r).leaves j ≡ true → G m (leave j k) (behind j outer) = λ j i. l j (or_right (x.leaves j) ((alive w.cells r).leaves j) i) in
      let rest' : (mark : Mark) → x.ends ≡ true → G (size r + m) (Go mark w.names (B w a r) k) (segment (Cut w a n' r) next outer) =
      λ mark i. good_code w a E table r tr n' mark k next outer m must'.1 atr (λ i'. g ((among w.cells r).ends i')) (λ j i'. lr j ((among w.cells r).leaves j i')) in
      subst (λ ss. Goods c (ws ++ P w r k) ss) (sym (cuts-append x.code y n next outer))
      (goods_append c b c ws (P w r k) (segments (numbered n x.code) (segment (Cut w a n' r) next outer) outer) (segments (Cut w a n' r) next outer) le (omega arith)
      (front (segment (Cut w a n' r) next outer) must'.0 (has_front table n ws (P w r k) at) rest' (λ j i. l j (or_left (x.leaves j) ((alive w.cells r).leaves j) i)))
      (ih n' must'.1 atr g lr))
  seq_points x false r n k next outer m b c ws tr le is len must at g l ih front =
      goods_nil b c ws (segments (numbered n x.code) next outer) le
      (front next must (has_front table n ws [] at) (λ mark i. absurd (never i)) l)
    where
      never : x.ends ≡ true → ⊥
      never i = absurd cc

  points_front_if : (p : Place) (t : Term) (x z r : Code) (g : Option Bool) (n : ℕ) (k : Frames) (next : Segment) (outer : List Segment) (m m' bx bz b : ℕ) → m' ≤ m → bx ≤ b → bz ≤ b
      → MustWait (by_test g p t (alive w.cells x) (alive w.cells z)).code → HasAt table n (live_ways g (P w x (rest w r k)) (P w z (rest w r k)))
      → ((mark' : Mark) → (by_test g p t (alive w.cells x) (alive w.cells z)).ends ≡ true → G m (Go mark' w.names (B w a r) k) next)
      → ((j : ℕ) → (by_test g p t (alive w.cells x) (alive w.cells z)).leaves j ≡ true → G m' (leave j k) (behind j outer))
      → ((n' : ℕ) → MustWait (L w a x) → HasAt table n' (P w x (rest w r k)) → ((alive w.cells x).ends ≡ true → G m (rest w r k) next) → ((j : ℕ) → (alive w.cells x).leaves j ≡ true → G m (leave j (rest w r k)) (behind j outer))
      → Goods bx (P w x (rest w r k)) (segments (Cut w a n' x) next outer))
      → ((n' : ℕ) → MustWait (L w a z) → HasAt table n' (P w z (rest w r k)) → ((alive w.cells z).ends ≡ true → G m (rest w r k) next) → ((j : ℕ) → (alive w.cells z).leaves j ≡ true → G m (leave j (rest w r k)) (behind j outer))
      → Goods bz (P w z (rest w r k)) (segments (Cut w a n' z) next outer))
      → Goods b (live_ways g (P w x (rest w r k)) (P w z (rest w r k))) (segments (numbered n (by_test g p t (alive w.cells x) (alive w.cells z)).code) next outer)
  points_front_if p t x z r (Some true) n k next outer m m' bx bz b le lx lz must at g l ix iz =
      goods_within bx b _ _ lx (ix n must at (λ i. g Inner i) (λ j i. more w a E table m' m _ _ le (l j i)))
  points_front_if p t x z r (Some false) n k next outer m m' bx bz b le lx lz must at g l ix iz =
      goods_within bz b _ _ lz (iz n must at (λ i. g Inner i) (λ j i. more w a E table m' m _ _ le (l j i)))
  points_front_if p t x z r None n k next outer m m' bx bz b le lx lz must at g l ix iz =
      let n' = n + waits_in (L w a x) in
      let len = length-points w x (rest w r k) in
      let gx = ix n must.0 (has_front table n (P w x (rest w r k)) (P w z (rest w r k)) at) (λ i. g Inner (or_left (alive w.cells x).ends (alive w.cells z).ends i))
      (λ j i. more w a E table m' m _ _ le (l j (or_left ((alive w.cells x).leaves j) ((alive w.cells z).leaves j) i))) in
      let gz = iz n' must.1 (has_back table n n' (P w x (rest w r k)) (P w z (rest w r k)) (omega (arith, len)) at) (λ i. g Inner (or_right (alive w.cells x).ends (alive w.cells z).ends i))
      (λ j i. more w a E table m' m _ _ le (l j (or_right ((alive w.cells x).leaves j) ((alive w.cells z).leaves j) i))) in
      goods_append b bx b (P w x (rest w r k)) (P w z (rest w r k)) (segments (Cut w a n x) next outer) (segments (Cut w a n' z) next outer ++ []) lx (omega arith) gx
      (no_tail (P w z (rest w r k)) (segments (Cut w a n' z) next outer) lz gz)
    where
      no_tail : (qs : List Point) (ss : List Segment) → bz ≤ b → Goods bz qs ss → Goods b qs (ss ++ [])
      no_tail [] [] le' h = tt
      no_tail (q ∷ qs) (s ∷ ss) le' h = (record { starts = h.0.starts; good = more w a E table bz b q.1 s le' h.0.good }, no_tail qs ss le' h.1)
      no_tail [] (s ∷ ss) le' h = h
      no_tail (q ∷ qs) [] le' h = h

  tail_nil : (b : ℕ) (qs : List Point) (ss : List Segment) → Goods b qs ss → Goods b qs (ss ++ [])
  tail_nil b [] [] h = tt
  tail_nil b (q ∷ qs) (s ∷ ss) h = (h.0, tail_nil b qs ss h.1)
  tail_nil b [] (s ∷ ss) h = h
  tail_nil b (q ∷ qs) [] h = h

  around_loop : (p : Place) (c : Option Count) (b r : Code) (e : Bool) (n : ℕ) (k : Frames) (next : Segment) (outer : List Segment) (m' full : ℕ) → (alive w.cells b).ends ≡ e
      → MustWait (looped e p c (alive w.cells b)).code
      → G m' (looping w b r k) (segment (numbered n (looped e p c (alive w.cells b)).code) next outer)
      → ((next' : Segment) → MustWait (L w a b) → ((alive w.cells b).ends ≡ true → G m' (looping w b r k) next') → Goods full (P w b (looping w b r k) ++ []) (segments (Cut w a n b) next' outer))
      → Goods full (P w b (looping w b r k) ++ []) (segments (numbered n (looped e p c (alive w.cells b)).code) next outer)
  around_loop p c b r true n k next outer m' full is must again pb =
      tail_nil full (P w b (looping w b r k) ++ []) (segments (Cut w a n b) (segment (Loop p c (Cut w a n b) End) next outer) outer)
      (pb (segment (Loop p c (Cut w a n b) End) next outer) must.1 (λ i. again))
  around_loop p c b r false n k next outer m' full is must again pb = pb next must (λ i. absurd (never i))
    where
      never : (alive w.cells b).ends ≡ true → ⊥
      never i = absurd cc

  loop_bound : (b r : Code) (hw : Bool) (k : Frames) (ss : List Segment) (D sb m' full : ℕ) → holds_wait b ≡ hw → max ((if hw then 1 else 0) + loops_deep b) (loops_deep r) ≤ D
      → ((D' : ℕ) → suc D' ≡ D → (D' + 1) * sb + m' ≤ full)
      → ((D' : ℕ) → loops_deep b ≤ D' → Goods ((D' + 1) * sb + m') (P w b (looping w b r k)) ss) → Goods full (P w b (looping w b r k) ++ []) ss
  loop_bound b r true k ss zero sb m' full is le fit pb = absurd (omega arith)
  loop_bound b r true k ss (suc D) sb m' full is le fit pb = goods_nil ((D + 1) * sb + m') full (P w b (looping w b r k)) ss (fit D refl) (pb D (omega arith))
  loop_bound b r false k ss D sb m' full is le fit pb = goods_none ((D + 1) * sb + m') full (P w b (looping w b r k)) ss (no_points w b (looping w b r k) is) (pb D (omega arith))

  pub good_points : (c : Code) → Tests w a.Holds c → (n : ℕ) (k : Frames) (next : Segment) (outer : List Segment) (D m : ℕ) → loops_deep c ≤ D → MustWait (L w a c) → HasAt table n (P w c k)
      → ((alive w.cells c).ends ≡ true → G m k next) → ((j : ℕ) → (alive w.cells c).leaves j ≡ true → G m (leave j k) (behind j outer))
      → Goods ((D + 1) * size c + m) (P w c k) (segments (Cut w a n c) next outer)
  good_points End ts n k next outer D m d must at g l = tt
  good_points (Put p left e v r) ts n k next outer D m d must at g l = goods_within ((D + 1) * size r + m) _ (P w r k) _ (omega arith) (good_points r ts n k next outer D m d must at g l)
  good_points (Aim p to t r) ts n k next outer D m d must at g l = goods_within ((D + 1) * size r + m) _ (P w r k) _ (omega arith) (good_points r ts n k next outer D m d must at g l)
  good_points (If p t x z r) ts n k next outer D m d must at g l =
      let i = goes w.cells t in
      let u = by_test i p t (alive w.cells x) (alive w.cells z) in
      let ws = live_ways i (P w x (rest w r k)) (P w z (rest w r k)) in
      let at' = subst (λ ps. HasAt table n ps) (points_if w p t x z r k) at in
      let m' = size r + m in
      let full = (D + 1) * size (If p t x z r) + m in
      let half = (D + 1) * (size x + size z) + m' in
      subst (λ ps. Goods full ps (segments (Cut w a n (If p t x z r)) next outer)) (sym (points_if w p t x z r k))
      (seq_points u u.ends r n k next outer m half full ws ts.3 (omega arith) refl
      (if_length i p t (alive w.cells x) (alive w.cells z) (P w x (rest w r k)) (P w z (rest w r k)) (length-points w x (rest w r k)) (length-points w z (rest w r k)))
      must at' g l
      (λ n' mr atr gr lr. goods_within ((D + 1) * size r + m) full (P w r k) _ (omega arith) (good_points r ts.3 n' k next outer D m (omega arith) mr atr gr lr))
      (λ next' mu atw gu lu. points_front_if p t x z r i n k next' outer m' m ((D + 1) * size x + m') ((D + 1) * size z + m') half (omega arith) (omega arith) (omega arith) mu atw gu lu
      (λ n' mx atx gx lx. good_points x ts.1 n' (rest w r k) next' outer D m' (omega arith) mx atx gx lx)
      (λ n' mz atz gz lz. good_points z ts.2 n' (rest w r k) next' outer D m' (omega arith) mz atz gz lz)))
  good_points (Block p b r) ts n k next outer D m d must at g l =
      let u = shut p (alive w.cells b) in
      let at' = subst (λ ps. HasAt table n ps) (points_block w p b r k) at in
      let m' = size r + m in
      let full = (D + 1) * size (Block p b r) + m in
      let half = (D + 1) * size b + m' in
      subst (λ ps. Goods full ps (segments (Cut w a n (Block p b r)) next outer)) (sym (points_block w p b r k))
      (seq_points u u.ends r n k next outer m half full (P w b (blocked w r k)) ts.1 (omega arith) refl (shut_length p (alive w.cells b) (P w b (blocked w r k)) (length-points w b (blocked w r k)))
      must at' g l
      (λ n' mr atr gr lr. goods_within ((D + 1) * size r + m) full (P w r k) _ (omega arith) (good_points r ts.1 n' k next outer D m (omega arith) mr atr gr lr))
      (λ next' mu atw gu lu. tail_nil half (P w b (blocked w r k)) (segments (Cut w a n b) next' (next' ∷ outer))
      (good_points b ts.0 n (blocked w r k) next' (next' ∷ outer) D m' (omega arith) mu.0 atw (λ i. gu BehindBlock (or_left (alive w.cells b).ends ((alive w.cells b).leaves 0) i))
      (leaves_block w a E table m' m (B w a r) k next' outer (λ j. (alive w.cells b).leaves j ≡ true) (omega arith) (λ mark' i. gu mark' (or_right (alive w.cells b).ends ((alive w.cells b).leaves 0) i)) lu))))
  good_points (Loop p c b r) ts n k next outer D m d must at g l =
      let at' = subst (λ ps. HasAt table n ps) (points_loop w p c b r k) at in
      let atb = has_front table n (P w b (looping w b r k)) [] at' in
      let m' = size (Loop p c b r) + m in
      let full = (D + 1) * size (Loop p c b r) + m in
      let again = good_code w a E table (Loop p c b r) ts n Inner k next outer m must at (λ i. g ((among w.cells (Loop p c b r)).ends i)) (λ j i. l j ((among w.cells (Loop p c b r)).leaves j i)) in
      subst (λ ps. Goods full ps (segments (Cut w a n (Loop p c b r)) next outer)) (sym (points_loop w p c b r k))
      (around_loop p c b r (alive w.cells b).ends n k next outer m' full refl must again
      (λ next' mb ag. loop_bound b r (holds_wait b) k (segments (Cut w a n b) next' outer) D (size b) m' full refl d (λ D' e. subst (λ z. (D' + 1) * size b + m' ≤ (z + 1) * size (Loop p c b r) + m) e (fit_loop D' (size b) (size r) m))
      (λ D' d'. good_points b ts.0 n (looping w b r k) next' outer D' m' d' mb atb ag (λ j i. more w a E table m m' _ _ (omega arith) (l j (loop_leaves (alive w.cells b).ends p c (alive w.cells b) j i))))))
  good_points (Exit p j r) ts n k next outer D m d must at g l = tt
  good_points (Wait p number count r) ts n k next outer D m d must at g l =
      let here = good_code w a E table r ts (n + 1) Inner k next outer m must at.1 (λ i. g ((among w.cells r).ends i)) (λ j i. l j ((among w.cells r).leaves j i)) in
      let more' = good_points r ts (n + 1) k next outer D m d must at.1 g l in
      let full = (D + 1) * size (Wait p number count r) + m in
      (record { starts = tt; good = more w a E table (size r + m) full _ _ (omega arith) here }, goods_within ((D + 1) * size r + m) full (P w r k) _ (omega arith) more')
