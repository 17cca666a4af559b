-- Parts of statements in which a counter is left alone but for the step of its loop.
use Rattle.std.proofs.Common.{◌≡◌, ◌⊎◌, inl, inr, ℕ, ◌+◌, ◌≤◌, Bool, true, false, ◌&&◌, ◌||◌, nat_eq, List, [], ◌∷◌, Option, Some, None, refl, sym, ap, ◌∙◌, subst, arith}
use Rattle.std.proofs.lemmas.Bool.{eqb-true}
use Rattle.std.specs.Prelude.{slice_get, option_and_then, if◌then◌else◌, not}
use Rattle.scc_base.specs.declared.refusal.Place.{Place}
use Rattle.scc_semantics.specs.Location.{same_path}
use Rattle.scc_core_spec.specs.Term as core
use Rattle.scc_core_spec.specs.Program as program
use Rattle.scc_core_spec.specs.Program.{is_pointer}
use Rattle.scc_core_spec.specs.Code.{Code, Count, Pointed, End, Put, Aim, If, Block, Loop, Exit, Wait, holds_wait}
use Rattle.scc_core_spec.specs.Counted.{Counter, Setting, uses, times, is_it, own_at, own_of, counter_number, number_of, is_cell, is_whole, is_end, leaves_block, is_step, is_turn, is_turning}
use Rattle.scc_elab_spec.proofs.Chains.{and-first, and-second}
use Rattle.scc_core_unroll_laws.proofs.Keeping.{or-left, or-right}

module _ (s : Setting) where
  abbrev pub N : ℕ → Code → ℕ
  N o c = uses s.cells o c

  -- of the loop of a counter
  abbrev pub is_part : ℕ → Code → Bool
  is_part n c = is_turning n c || (is_turn n c || is_step n c)

  -- what doesn't wait, and uses a counter not at all, or as its step does
  pub record Calm (n o : ℕ) (c : Code) : Type 0 where
    pub waits : holds_wait c ≡ false
    pub touches : (N o c ≡ 0) ⊎ ((N o c ≤ 1) × (is_part n c ≡ true))

  -- the cell of a counter is its local
  own-cell : (n o : ℕ) → counter_number s n ≡ Some o → option_and_then (λ c. own_of c.name) (slice_get s.cells n) ≡ Some o
  own-cell n o e = by (slice_get s.cells n) e
    where
      test : (b : Bool) (c : program.Cell) → (if b then own_of c.name else None) ≡ Some o → own_of c.name ≡ Some o
      test true c e = e
      test false c e = absurd cc

      by : (c : Option program.Cell) → number_of s.path c ≡ Some o → option_and_then (λ c. own_of c.name) c ≡ Some o
      by None e = absurd cc
      by (Some c) e = test (same_path c.name.path s.path && not (is_pointer c.sort)) c e

  same-number : (o : ℕ) → nat_eq o o ≡ true
  same-number o = grind arith

  pub is-own : (n o : ℕ) (l : core.Left) → counter_number s n ≡ Some o → is_cell n l ≡ true → is_it o (own_at s.cells l) ≡ true
  is-own n o (core.Cell p m) e c = let x : n ≡ m = eqb-true n m c in ap (is_it o) (ap (λ m. option_and_then (λ c. own_of c.name) (slice_get s.cells m)) (sym x) ∙ own-cell n o e) ∙ same-number o
  is-own n o (core.Prefix p m) e c = cc
  is-own n o (core.Null p) e c = cc
  is-own n o (core.Follow p z l) e c = cc
  is-own n o (core.Member l m) e c = cc
  is-own n o (core.Index l z i) e c = cc

  end-uses : (o : ℕ) (c : Code) → is_end c ≡ true → (N o c ≡ 0) × (holds_wait c ≡ false)
  end-uses o End e = (refl, refl)
  end-uses o (Put p l k e r) x = cc
  end-uses o (Aim p to t r) x = cc
  end-uses o (If p t a b r) x = cc
  end-uses o (Block p b r) x = cc
  end-uses o (Loop p n b r) x = cc
  end-uses o (Exit p n r) x = cc
  end-uses o (Wait p l n r) x = cc

  leaves-uses : (o : ℕ) (c : Code) → leaves_block c ≡ true → N o c ≡ 0
  leaves-uses o End e = cc
  leaves-uses o (Put p l k e r) x = cc
  leaves-uses o (Aim p to t r) x = cc
  leaves-uses o (If p t a b r) x = cc
  leaves-uses o (Block p b r) x = cc
  leaves-uses o (Loop p n b r) x = cc
  leaves-uses o (Exit p n r) x = (end-uses o r (and-second (nat_eq n 0) (is_end r) x)).0
  leaves-uses o (Wait p l n r) x = cc

  step-uses : (n o : ℕ) (c : Code) → counter_number s n ≡ Some o → is_step n c ≡ true → 1 ≤ N o c
  step-uses n o End e x = cc
  step-uses n o (Put p l k v r) e x = let y = is-own n o l e (and-first (is_cell n l) (is_whole k && is_end r) x) in subst (λ b. 1 ≤ times 1 b + N o r) (sym y) (omega arith)
  step-uses n o (Aim p to t r) e x = cc
  step-uses n o (If p t a b r) e x = cc
  step-uses n o (Block p b r) e x = cc
  step-uses n o (Loop p m b r) e x = cc
  step-uses n o (Exit p m r) e x = cc
  step-uses n o (Wait p l m r) e x = cc

  none : (n o : ℕ) (c : Code) → holds_wait c ≡ false → N o c ≡ 0 → Calm n o c
  none n o c w e = record { waits = w; touches = inl e }

  module _ (n o : ℕ) (at : counter_number s n ≡ Some o) where
    pub calm-put : (p : Place) (l : core.Left) (k : core.Pick) (e : core.Term) (r : Code) → Calm n o (Put p l k e r) → Calm n o r
    calm-put p l k e r c = by c.touches
      where
        by : (N o (Put p l k e r) ≡ 0) ⊎ ((N o (Put p l k e r) ≤ 1) × (is_part n (Put p l k e r) ≡ true)) → Calm n o r
        by (inl z) = let t = times 1 (is_it o (own_at s.cells l)) in none n o r c.waits (omega (arith, z))
        by (inr z) = none n o r c.waits (end-uses o r (and-second (is_whole k) (is_end r) (and-second (is_cell n l) (is_whole k && is_end r) z.1))).0

    pub calm-aim : (p : Place) (to : Pointed) (t : core.Left) (r : Code) → Calm n o (Aim p to t r) → Calm n o r
    calm-aim p to t r c = by c.touches
      where
        by : (N o (Aim p to t r) ≡ 0) ⊎ ((N o (Aim p to t r) ≤ 1) × (is_part n (Aim p to t r) ≡ true)) → Calm n o r
        by (inl z) = let y = times 3 (is_it o (own_at s.cells t)) in none n o r c.waits (omega (arith, z))
        by (inr z) = absurd (let x = z.1 in cc)

    pub calm-if : (p : Place) (t : core.Term) (a b r : Code) → Calm n o (If p t a b r) → Calm n o a × Calm n o b × Calm n o r
    calm-if p t a b r c = by c.touches
      where
        wa : holds_wait a ≡ false
        wa = or-left (holds_wait a) (holds_wait b || holds_wait r) c.waits

        wb : holds_wait b ≡ false
        wb = or-left (holds_wait b) (holds_wait r) (or-right (holds_wait a) (holds_wait b || holds_wait r) c.waits)

        wr : holds_wait r ≡ false
        wr = or-right (holds_wait b) (holds_wait r) (or-right (holds_wait a) (holds_wait b || holds_wait r) c.waits)

        shape : (x : Bool) → (x || (false || false)) ≡ true → x ≡ true
        shape true e = refl
        shape false e = cc

        turn : (x y : Bool) → x ≡ true → (y || (x || false)) ≡ true
        turn x true e = refl
        turn true false e = refl
        turn false false e = cc

        any : (x y z : Bool) → y ≡ true → (x || (y || z)) ≡ true
        any true y z e = refl
        any false true z e = refl
        any false false z e = cc

        by : (N o (If p t a b r) ≡ 0) ⊎ ((N o (If p t a b r) ≤ 1) × (is_part n (If p t a b r) ≡ true)) → Calm n o a × Calm n o b × Calm n o r
        by (inl z) = (none n o a wa (omega (arith, z)), none n o b wb (omega (arith, z)), none n o r wr (omega (arith, z)))
        by (inr z) =
            let x = shape (is_end a && (leaves_block b && is_turn n r)) z.1 in
            let y = and-second (is_end a) (leaves_block b && is_turn n r) x in (
              none n o a wa (end-uses o a (and-first (is_end a) (leaves_block b && is_turn n r) x)).0,
              none n o b wb (leaves-uses o b (and-first (leaves_block b) (is_turn n r) y)),
              record { waits = wr; touches = inr ((let u = z.0 in omega (arith, u)), any (is_turning n r) (is_turn n r) (is_step n r) (and-second (leaves_block b) (is_turn n r) y)) },
            )

    -- a block inside is left alone
    pub calm-block : (p : Place) (b r : Code) → Calm n o (Block p b r) → (N o b ≡ 0) × (holds_wait b ≡ false) × Calm n o r
    calm-block p b r c = by c.touches
      where
        wb : holds_wait b ≡ false
        wb = or-left (holds_wait b) (holds_wait r) c.waits

        wr : holds_wait r ≡ false
        wr = or-right (holds_wait b) (holds_wait r) c.waits

        shape : (x : Bool) → (false || (x || false)) ≡ true → x ≡ true
        shape true e = refl
        shape false e = cc

        any : (x y z : Bool) → z ≡ true → (x || (y || z)) ≡ true
        any true y z e = refl
        any false true z e = refl
        any false false z e = e

        by : (N o (Block p b r) ≡ 0) ⊎ ((N o (Block p b r) ≤ 1) × (is_part n (Block p b r) ≡ true)) → (N o b ≡ 0) × (holds_wait b ≡ false) × Calm n o r
        by (inl z) = (omega (arith, z), wb, none n o r wr (omega (arith, z)))
        by (inr z) =
            let x = shape (is_step n r) z.1 in let y = step-uses n o r at x in let u = z.0 in
            (omega (arith, y, u), wb, record { waits = wr; touches = inr (omega (arith, u), any (is_turning n r) (is_turn n r) (is_step n r) x) })

    pub calm-loop : (p : Place) (m : Option Count) (b r : Code) → Calm n o (Loop p m b r) → Calm n o b × Calm n o r
    calm-loop p m b r c = by c.touches
      where
        by : (N o (Loop p m b r) ≡ 0) ⊎ ((N o (Loop p m b r) ≤ 1) × (is_part n (Loop p m b r) ≡ true)) → Calm n o b × Calm n o r
        by (inl z) = (none n o b (or-left (holds_wait b) (holds_wait r) c.waits) (omega (arith, z)), none n o r (or-right (holds_wait b) (holds_wait r) c.waits) (omega (arith, z)))
        by (inr z) = absurd (let x = z.1 in cc)

    pub calm-exit : (p : Place) (m : ℕ) (r : Code) → Calm n o (Exit p m r) → Calm n o r
    calm-exit p m r c = by c.touches
      where
        by : (N o (Exit p m r) ≡ 0) ⊎ ((N o (Exit p m r) ≤ 1) × (is_part n (Exit p m r) ≡ true)) → Calm n o r
        by (inl z) = none n o r c.waits z
        by (inr z) = absurd (let x = z.1 in cc)

    pub calm-wait : (p : Place) (l m : ℕ) (r : Code) → Calm n o (Wait p l m r) → Calm n o r
    calm-wait p l m r c = absurd (let x = c.waits in cc)

  -- the body of a loop whose counter it is
  pub calm-body : (n o : ℕ) (c : Code) → holds_wait c ≡ false → is_turning n c ≡ true → N o c ≤ 1 → Calm n o c
  calm-body n o c w t u = record { waits = w; touches = inr (u, ap (λ b. b || (is_turn n c || is_step n c)) t) }

  -- of all these counters
  abbrev pub AllCalm : List Counter → Code → Type 0
  AllCalm [] c = Unit {0}
  AllCalm (x ∷ ns) c = ((o : ℕ) → counter_number s x.cell ≡ Some o → Calm x.cell o c) × AllCalm ns c

  pub all-calm : (ns : List Counter) (c d : Code) → ((n o : ℕ) → counter_number s n ≡ Some o → Calm n o c → Calm n o d) → AllCalm ns c → AllCalm ns d
  all-calm [] c d f a = tt
  all-calm (x ∷ ns) c d f a = ((λ o e. f x.cell o e (a.0 o e)), all-calm ns c d f a.1)

  -- statements of a body in which these counters are left alone
  pub record Fine (ns : List Counter) (c : Code) : Type 0 where
    pub calm : AllCalm ns c
    pub part : (o : ℕ) → N o c ≤ N o s.body

  pub fine-by : (ns : List Counter) (c d : Code) → ((n o : ℕ) → counter_number s n ≡ Some o → Calm n o c → Calm n o d) → ((o : ℕ) → N o d ≤ N o c) → Fine ns c → Fine ns d
  fine-by ns c d f g a = record { calm = all-calm ns c d f a.calm; part = λ o. let x = g o in let y = a.part o in omega (arith, x, y) }
