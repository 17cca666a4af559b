-- What the rules tell of combinational methods: no root is missed, none feeds itself, and roots are named alone.
use Rattle.std.proofs.Common.{◌≡◌, ℕ, zero, suc, Bool, true, false, not, ◌&&◌, ◌||◌, nat_eq, List, [], ◌∷◌, ◌++◌, length, flat_map, Option, Some, None, refl, sym, ap, ◌∙◌, subst, arith, if◌then◌else◌, slice_get, inl, inr}
use Rattle.std.specs.Prelude.{option_map, unwrap_or}
use Rattle.std.specs.List.{list_any}
use Rattle.scc_base.specs.declared.refusal.Place.{Place}
use Rattle.scc_base.specs.declared.refusal.Refusal.{Refusal}
use Rattle.scc_base.specs.declared.code.Code.TheVariants as reason
use Rattle.scc_core_spec.specs.Term.{Term, Left, Pick, place_at}
use Rattle.scc_core_spec.specs.Code.{Code, End, Put, Aim, If, Block, Loop, Exit, Wait, append}
use Rattle.scc_core_spec.specs.Program.{Program, Process, is_root, is_combinational}
use Rattle.scc_core_spec.specs.Static.{Cells, goes}
use Rattle.scc_core_spec.specs.Live.{Alive, alive, live, then_alive, by_test, looped}
use Rattle.scc_core_spec.specs.Flow.{flow, every}
use Rattle.scc_core_spec.specs.Uses.{Use, Act, loads, inside, picked, reads_of, writes_of, cells_of, is_single, has_sort, among}
use Rattle.scc_core_spec.specs.Clashes.{live_acts, two_writers, shared_variable}
use Rattle.scc_core_spec.specs.Feeding.{is_method, methods, feeds, reaches, reaches_in}
use Rattle.scc_core_spec.specs.First.{or_else, first_some, first_of, when, refused, refused_beside}
use Rattle.scc_core_spec.specs.Kept.{OneOf, written_by}
use Rattle.scc_core_spec.specs.Rules.{first_rule, first_read, clock_as_data, missing_sensitivity, latch, comb_loop, place_in, comb_state, wait_in_method, loop_may_not_wait, end_reached, chosen_root, own_uses, signal_index}
use Rattle.scc_core_spec.specs.Source.{Home}
use Rattle.scc_blocks_spec.specs.Passed.{all_reads}
use Rattle.scc_core_effect_laws.specs.Sound.{Each, SoundPut, SoundTest}
use Rattle.scc_core_effect_laws.specs.Follows.{IsSoundCore}
use Rattle.scc_core_effect_laws.specs.Ordering.{Alone, AnyTest, HasOrder, IsOrdered}
use Rattle.scc_core_effect_laws.proofs.Names.{and-first, and-second, and-both, or-left, some-same, none-some, true-false}
use Rattle.scc_core_effect_laws.proofs.Unsure.{flat-in, is-false, is-true}
use Rattle.scc_core_effect_laws.proofs.Told.{or-none, first-none, one-at, when-none, any-true}
use Rattle.scc_core_effect_laws.proofs.Counted.{short}
use Rattle.scc_core_laws.proofs.Ordered.{in-methods}

module _ (P : Left → Pick → Term → Type 0) where
  append-each : (c d : Code) → Each P AnyTest c → Each P AnyTest d → Each P AnyTest (append c d)
  append-each End d h k = k
  append-each (Put p l n e r) d h k = (h.0, append-each r d h.1 k)
  append-each (Aim p to t r) d h k = append-each r d h k
  append-each (If p t a b r) d h k = (tt, h.1, h.2, append-each r d h.3 k)
  append-each (Block p b r) d h k = (h.0, append-each r d h.1 k)
  append-each (Loop p n b r) d h k = (h.0, append-each r d h.1 k)
  append-each (Exit p n r) d h k = append-each r d h k
  append-each (Wait p l n r) d h k = append-each r d h k

  then-each : (b : Bool) (x y : Alive) → Each P AnyTest x.code → Each P AnyTest y.code → Each P AnyTest (then_alive b x y).code
  then-each true x y h k = append-each x.code y.code h k
  then-each false x y h k = h

  test-each : (o : Option Bool) (p : Place) (t : Term) (x y : Alive) → Each P AnyTest x.code → Each P AnyTest y.code → Each P AnyTest (by_test o p t x y).code
  test-each (Some true) p t x y h k = h
  test-each (Some false) p t x y h k = k
  test-each None p t x y h k = (tt, h, k, tt)

  -- the live part has no other assignments
  pub live-each : (cs : Cells) (c : Code) → Each P AnyTest c → Each P AnyTest (alive cs c).code
  live-each cs End h = tt
  live-each cs (Put p l k e r) h = (h.0, live-each cs r h.1)
  live-each cs (Aim p to t r) h = live-each cs r h
  live-each cs (If p t a b r) h =
      then-each (by_test (goes cs t) p t (alive cs a) (alive cs b)).ends (by_test (goes cs t) p t (alive cs a) (alive cs b)) (alive cs r) (test-each (goes cs t) p t (alive cs a) (alive cs b) (live-each cs a h.1) (live-each cs b h.2)) (live-each cs r h.3)
  live-each cs (Block p b r) h = then-each _ (Rattle.scc_core_spec.specs.Live.shut p (alive cs b)) (alive cs r) (live-each cs b h.0, tt) (live-each cs r h.1)
  live-each cs (Loop p n b r) h = by (alive cs b).ends (live-each cs b h.0)
    where
      by : (t : Bool) → Each P AnyTest (alive cs b).code → Each P AnyTest (looped t p n (alive cs b)).code
      by true k = (k, tt)
      by false k = k
  live-each cs (Exit p n r) h = tt
  live-each cs (Wait p l n r) h = live-each cs r h

-- a root is named alone
abbrev SingleRoots : Cells → Left → Pick → Term → Type 0
SingleRoots cs l k e = (c : ℕ) → among c (cells_of cs l) ≡ true → has_sort is_root cs c ≡ true → is_single cs l ≡ true

one-right : {A : Type 0} (x : A) (xs ys : List A) → OneOf x ys → OneOf x (xs ++ ys)
one-right x [] ys o = o
one-right x (y ∷ xs) ys o = inr (one-right x xs ys o)

one-left : {A : Type 0} (x : A) (xs ys : List A) → OneOf x xs → OneOf x (xs ++ ys)
one-left x [] ys o = absurd o
one-left x (y ∷ xs) ys (inl e) = inl e
one-left x (y ∷ xs) ys (inr o) = inr (one-left x xs ys o)

single-each : (cs : Cells) (c : Code) → ((u : Use) → OneOf u (own_uses c) → chosen_root cs u ≡ None) → Each (SingleRoots cs) AnyTest c
single-each cs End h = tt
single-each cs (Put p l k e r) h = (
  λ c there root. is-true _ (λ n. true-false (sym (and-both _ _ (ap not n) (any-true (has_sort is_root cs) c (cells_of cs l) there root)) ∙ when-none _ _ (h here (one-right here (inside l) _ (one-right here (picked k) _ (inl refl)))))),
  single-each cs r (λ u o. h u (one-right u (inside l) _ (one-right u (picked k) _ (inr (one-right u (loads e) _ o))))),
)
  where
    here : Use
    here = record { place = place_at l; left = l }
single-each cs (Aim p to t r) h = single-each cs r (λ u o. h u (one-right u (inside t) _ o))
single-each cs (If p t a b r) h = (
  tt,
  single-each cs a (λ u o. h u (one-right u (loads t) _ (one-left u (own_uses a) _ o))),
  single-each cs b (λ u o. h u (one-right u (loads t) _ (one-right u (own_uses a) _ (one-left u (own_uses b) _ o)))),
  single-each cs r (λ u o. h u (one-right u (loads t) _ (one-right u (own_uses a) _ (one-right u (own_uses b) _ o)))),
)
single-each cs (Block p b r) h = (single-each cs b (λ u o. h u (one-left u (own_uses b) _ o)), single-each cs r (λ u o. h u (one-right u (own_uses b) _ o)))
single-each cs (Loop p n b r) h = (single-each cs b (λ u o. h u (one-left u (own_uses b) _ o)), single-each cs r (λ u o. h u (one-right u (own_uses b) _ o)))
single-each cs (Exit p n r) h = single-each cs r h
single-each cs (Wait p l n r) h = single-each cs r h

alone-each : (cs : Cells) (c : Code) → Each (SoundPut cs) (SoundTest cs) c → Each (SingleRoots cs) AnyTest c → Each (Alone cs) AnyTest c
alone-each cs End s h = tt
alone-each cs (Put p l k e r) s h = (record { sound = s.0; single = h.0 }, alone-each cs r s.1 h.1)
alone-each cs (Aim p to t r) s h = alone-each cs r s h
alone-each cs (If p t a b r) s h = (tt, alone-each cs a s.1 h.1, alone-each cs b s.2 h.2, alone-each cs r s.3 h.3)
alone-each cs (Block p b r) s h = (alone-each cs b s.0 h.0, alone-each cs r s.1 h.1)
alone-each cs (Loop p n b r) s h = (alone-each cs b s.0 h.0, alone-each cs r s.1 h.1)
alone-each cs (Exit p n r) s h = alone-each cs r s h
alone-each cs (Wait p l n r) s h = alone-each cs r s h

module _ (p : Program) (none : first_rule p ≡ None) where
  abbrev cs : Cells
  cs = p.cells

  after-shared : first_some (missing_sensitivity p ∷ latch p ∷ comb_loop p ∷ comb_state p ∷ wait_in_method p ∷ loop_may_not_wait p ∷ end_reached p ∷ signal_index p ∷ []) ≡ None
  after-shared = (or-none (shared_variable p) _ (or-none (two_writers p) _ (or-none (clock_as_data p) _ none).1).1).1

  after-sensitivity : or_else (latch p) (first_some (comb_loop p ∷ comb_state p ∷ wait_in_method p ∷ loop_may_not_wait p ∷ end_reached p ∷ signal_index p ∷ [])) ≡ None
  after-sensitivity = (or-none (missing_sensitivity p) _ after-shared).1

  after-latch : or_else (comb_loop p) (first_some (comb_state p ∷ wait_in_method p ∷ loop_may_not_wait p ∷ end_reached p ∷ signal_index p ∷ [])) ≡ None
  after-latch = (or-none (latch p) _ after-sensitivity).1

  index-none : signal_index p ≡ None
  index-none =
      let a = (or-none (comb_loop p) _ after-latch).1 in
      let b = (or-none (comb_state p) _ a).1 in
      let c = (or-none (wait_in_method p) _ b).1 in
      let d = (or-none (loop_may_not_wait p) _ c).1 in
      let e = (or-none (end_reached p) _ d).1 in
      (or-none (signal_index p) _ e).0

  pub misses : (i x : ℕ) (q : Process) → slice_get p.processes i ≡ Some q → is_combinational q ≡ true → has_sort is_root cs x ≡ true → among x (written_by cs q) ≡ true → (flow cs (live cs q.body) every).fall x ≡ false
  misses i x q here comb root w =
      let said : Process → Option Refusal = λ q. if is_combinational q then first_of (λ a. when (list_any (λ n. has_sort is_root cs n && (flow cs (live cs q.body) every).fall n) (writes_of cs a)) (refused reason.Latch a.place)) (live_acts cs q) else None in
      let mine = ap (λ b. if b then first_of (λ a. when (list_any (λ n. has_sort is_root cs n && (flow cs (live cs q.body) every).fall n) (writes_of cs a)) (refused reason.Latch a.place)) (live_acts cs q) else None) (sym comb)
      ∙ first-none said p.processes q (or-none (latch p) _ after-sensitivity).0 (one-at p.processes i q here) in
      let a = flat-in (writes_of cs) x (live_acts cs q) w in
      let act = first-none (λ a. when (list_any (λ n. has_sort is_root cs n && (flow cs (live cs q.body) every).fall n) (writes_of cs a)) (refused reason.Latch a.place)) (live_acts cs q) a.1 mine (one-at (live_acts cs q) a.0 a.1 a.2) in
      is-false _ (λ m. true-false (sym (any-true (λ n. has_sort is_root cs n && (flow cs (live cs q.body) every).fall n) x (writes_of cs a.1) a.3 (and-both _ _ root m)) ∙ when-none _ _ act))

  pub alone : (i : ℕ) (q : Process) → slice_get p.processes i ≡ Some q → Each (SoundPut cs) (SoundTest cs) (live cs q.body) → Each (Alone cs) AnyTest (live cs q.body)
  alone i q here s =
      let mine = first-none (λ q. first_of (chosen_root cs) (own_uses q.body)) p.processes q index-none (one-at p.processes i q here) in
      alone-each cs (live cs q.body) s (live-each (SingleRoots cs) cs q.body (single-each cs q.body (λ u o. first-none (chosen_root cs) (own_uses q.body) u mine o)))

  -- a combinational method is sensitive to each root that it reads
  pub senses : (i x : ℕ) (q : Process) → slice_get p.processes i ≡ Some q → is_combinational q ≡ true → has_sort is_root cs x ≡ true → among x (all_reads cs q) ≡ true → among x q.senses ≡ true
  senses i x q here comb root v =
      let test : ℕ → Bool = λ n. has_sort is_root cs n && not (among n q.senses) in
      let tell : Use → Option Refusal = λ u. when (list_any test (cells_of cs u.left)) (refused reason.MissingSensitivity u.place) in
      let mine : first_of tell (flat_map (λ a. a.reads) (live_acts cs q)) ≡ None = ap (λ b. if b then first_of tell (flat_map (λ a. a.reads) (live_acts cs q)) else None) (sym comb)
      ∙ first-none (λ q. if is_combinational q then first_read reason.MissingSensitivity (λ n. has_sort is_root cs n && not (among n q.senses)) cs (live_acts cs q) else None) p.processes q (or-none (missing_sensitivity p) _ after-shared).0 (one-at p.processes i q here) in
      let a = flat-in (reads_of cs) x (live_acts cs q) v in
      let u = flat-in (λ u. cells_of cs u.left) x a.1.reads a.3 in
      let said = first-none tell (flat_map (λ a. a.reads) (live_acts cs q)) u.1 mine (one-in (live_acts cs q) a.0 a.1 u.1 a.2 (one-at a.1.reads u.0 u.1 u.2)) in
      is-true _ (λ n. true-false (sym (any-true test x (cells_of cs u.1.left) u.3 (and-both _ _ root (ap not n))) ∙ when-none _ _ said))
    where
      one-in : (xs : List Act) (n : ℕ) (a : Act) (u : Use) → slice_get xs n ≡ Some a → OneOf u a.reads → OneOf u (flat_map (λ a. a.reads) xs)
      one-in [] n a u e o = none-some a e
      one-in (b ∷ xs) zero a u e o = one-left u b.reads _ (subst (λ a. OneOf u a.reads) (sym (some-same b a e)) o)
      one-in (b ∷ xs) (suc n) a u e o = one-right u b.reads _ (one-in xs n a u e o)

  reaches-self : (n i : ℕ) → feeds p i i ≡ true → reaches (feeds p) n i i ≡ true
  reaches-self zero i e = e
  reaches-self (suc n) i e = or-left _ _ (reaches-self n i e)

  pub one-among : (x : ℕ) (xs : List ℕ) → among x xs ≡ true → OneOf x xs
  one-among x [] e = true-false (sym e)
  one-among x (y ∷ xs) e = by (nat_eq x y) refl e (λ h. one-among x xs h)
    where
      equal : nat_eq x y ≡ true → x ≡ y
      equal h = grind arith

      by : (b : Bool) → nat_eq x y ≡ b → (b || among x xs) ≡ true → (among x xs ≡ true → OneOf x xs) → OneOf x (y ∷ xs)
      by true q e more = inl (equal q)
      by false q e more = inr (more e)

  pub method-at : (i : ℕ) → is_method p i ≡ true → (q : Process) × (slice_get p.processes i ≡ Some q) × (is_combinational q ≡ true)
  method-at i e = by (slice_get p.processes i) refl
    where
      by : (o : Option Process) → slice_get p.processes i ≡ o → (q : Process) × (slice_get p.processes i ≡ Some q) × (is_combinational q ≡ true)
      by None h = true-false (sym e ∙ ap (λ o. unwrap_or (option_map is_combinational o) false) h)
      by (Some q) h = (q, h, sym (ap (λ o. unwrap_or (option_map is_combinational o) false) h) ∙ e)

  -- none stands on a cycle
  pub no-loop : (i j : ℕ) → feeds p i j ≡ true → reaches_in p i i ≡ true → (nat_eq j i || reaches_in p j i) ≡ true → ⊥
  no-loop i j f around back = fed (method-at i (and-first (is_method p i) _ f)) (method-at j (and-first (is_method p j) _ (and-second (is_method p i) _ f)))
    where
      inner : ℕ → Option Refusal
      inner j = if feeds p i j && (nat_eq j i || reaches_in p j i) then first_of (λ a. first_of (λ b. Some (refused_beside reason.CombLoop a b)) (place_in p j)) (place_in p i) else None

      outer : ℕ → Option Refusal
      outer i = if reaches_in p i i then first_of (λ j. if feeds p i j && (nat_eq j i || reaches_in p j i) then first_of (λ a. first_of (λ b. Some (refused_beside reason.CombLoop a b)) (place_in p j)) (place_in p i) else None) (methods p) else None

      fed : ((q : Process) × (slice_get p.processes i ≡ Some q) × (is_combinational q ≡ true)) → ((q : Process) × (slice_get p.processes j ≡ Some q) × (is_combinational q ≡ true)) → ⊥
      fed m n =
          let out = first-none outer (methods p) i (or-none (comb_loop p) _ after-latch).0 (one-among i (methods p) (in-methods p i m.0 m.1 m.2)) in
          let all = ap (λ b. if b then first_of inner (methods p) else None) (sym around) ∙ out in
          let here = first-none inner (methods p) j all (one-among j (methods p) (in-methods p j n.0 n.1 n.2)) in
          let places = ap (λ b. if b then first_of (λ a. first_of (λ b. Some (refused_beside reason.CombLoop a b)) (place_in p j)) (place_in p i) else None) (sym (and-both _ _ f back)) ∙ here in
          let at : place_in p i ≡ m.0.place ∷ [] = ap (λ o. unwrap_or (option_map (λ q. q.place ∷ []) o) []) m.1 in
          let to : place_in p j ≡ n.0.place ∷ [] = ap (λ o. unwrap_or (option_map (λ q. q.place ∷ []) o) []) n.1 in
          none-some (refused_beside reason.CombLoop m.0.place n.0.place) (sym (ap (λ ps. first_of (λ a. first_of (λ b. Some (refused_beside reason.CombLoop a b)) ps) (place_in p i)) (sym to) ∙ places) ∙ ap (λ ps. first_of (λ a. first_of (λ b. Some (refused_beside reason.CombLoop a b)) (n.0.place ∷ [])) ps) at)

  pub no-self : (i : ℕ) → feeds p i i ≡ false
  no-self i = is-false _ (λ f. fed f (method-at i (and-first (is_method p i) _ f)))
    where
      inner : ℕ → Option Refusal
      inner j = if feeds p i j && (nat_eq j i || reaches_in p j i) then first_of (λ a. first_of (λ b. Some (refused_beside reason.CombLoop a b)) (place_in p j)) (place_in p i) else None

      outer : ℕ → Option Refusal
      outer i = if reaches_in p i i then first_of (λ j. if feeds p i j && (nat_eq j i || reaches_in p j i) then first_of (λ a. first_of (λ b. Some (refused_beside reason.CombLoop a b)) (place_in p j)) (place_in p i) else None) (methods p) else None

      self : nat_eq i i ≡ true
      self = grind arith

      fed : feeds p i i ≡ true → ((q : Process) × (slice_get p.processes i ≡ Some q) × (is_combinational q ≡ true)) → ⊥
      fed f m =
          let mine = one-among i (methods p) (in-methods p i m.0 m.1 m.2) in
          let out = first-none outer (methods p) i (or-none (comb_loop p) _ after-latch).0 mine in
          let all = ap (λ b. if b then first_of inner (methods p) else None) (sym (reaches-self (length p.processes) i f)) ∙ out in
          let here = first-none inner (methods p) i all mine in
          let places = ap (λ b. if b then first_of (λ a. first_of (λ b. Some (refused_beside reason.CombLoop a b)) (place_in p i)) (place_in p i) else None) (sym (and-both _ _ f (or-left _ (reaches_in p i i) self))) ∙ here in
          let at : place_in p i ≡ m.0.place ∷ [] = ap (λ o. unwrap_or (option_map (λ q. q.place ∷ []) o) []) m.1 in
          none-some (refused_beside reason.CombLoop m.0.place m.0.place) (sym (ap (λ ps. first_of (λ a. first_of (λ b. Some (refused_beside reason.CombLoop a b)) ps) ps) (sym at) ∙ places))

  -- an order of its methods, with the rules, is one in which they settle
  pub is-ordered : (home : Home) → IsSoundCore home p → (order : List ℕ) → HasOrder p order → IsOrdered p order
  is-ordered home resolved order has = record {
    stands = has.stands;
    short = short p order has.stands;
    no_self = no-self;
    alone = λ i q here comb. alone i q here (resolved.sound i q here);
    misses = misses;
    reads_held = has.reads_held;
  }
