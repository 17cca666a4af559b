-- The resolved body follows the body with its pointers, statement by statement.
use Rattle.std.proofs.Common.{◌≡◌, inl, inr, ℕ, zero, suc, Bool, true, false, not, List, Option, Some, None, refl, sym, ap, ◌∙◌, subst, arith}
use Rattle.std.specs.Prelude.{nat_eq, ◌&&◌, is_some, slice_get, unwrap_or, option_map, option_and_then, if◌then◌else◌}
use Rattle.scc_base.specs.declared.refusal.Place.{Place}
use Rattle.scc_base.specs.declared.refusal.Refusal.{Refusal}
use Rattle.scc_base.specs.declared.code.Code.TheVariants as reason
use Rattle.scc_bits_kinds.specs.declared.kind.Kind.{Kind}
use Rattle.scc_bits_kinds.specs.declared.kind.Kind.TheVariants as kind
use Rattle.scc_bits_kinds.specs.Kinds.{width_of}
use Rattle.scc_semantics.specs.Location.{Location, same}
use Rattle.scc_semantics.specs.Expressions as body
use Rattle.scc_semantics.specs.Places.{Places, Thing, Number, Signal, Port}
use Rattle.scc_semantics.specs.Store.{changed}
use Rattle.scc_semantics.specs.Scene.{Scene, followed, index_of, with_bit}
use Rattle.scc_semantics.specs.Body as machine
use Rattle.scc_semantics.specs.Body.{Body}
use Rattle.scc_semantics.specs.Same.{is_own}
use Rattle.scc_semantics.specs.Steady.{plain_expr, plain_left, plain_pick, plain_body}
use Rattle.scc_semantics.specs.Value.{Held, locate, value, put_at, picked, with_words, with_targets, asked}
use Rattle.scc_semantics.specs.Machine.{Frames, Stop, Go, Mark, Inner, BehindBlock, BehindCall, Outcome, Suspended, Ended, Stuck, Unfinished, pick, leave, one_less, waiting, unless_stuck, pointed_at, Next, act}
use Rattle.scc_semantics_laws.specs.Words.{PlainFrames, aimed as all-aimed-held, all_aimed}
use Rattle.scc_semantics_laws.proofs.Blind.{IsBlind, act-blind, and-first, and-second}
use Rattle.scc_semantics_laws.proofs.Places.{same-is, same-self}
use Rattle.scc_core_spec.specs.Term.{Term, Left, Own, Pick, Whole, OneBit, Bits, place_at}
use Rattle.scc_core_spec.specs.Code.{Code, Count, Declared, Assigned, End, Put, Aim, If, Block, Loop, Exit, Wait}
use Rattle.scc_core_spec.specs.Program.{Program, Process, Cell, is_pointer}
use Rattle.scc_core_spec.specs.First.{refused}
use Rattle.scc_core_spec.specs.Resolved.{Leads, Tried, Made, Stopped, and_made, made_map, sure, behind, resolved, walked, looked}
use Rattle.scc_core_spec.specs.Named.{Step, steps_of, is_open, chooses_object}
use Rattle.scc_core_spec.specs.Static.{pattern}
use Rattle.scc_core_spec.specs.Unpointed.{unpointed, aimed, declares, is_local_pointer, resolved_pick, resolved_count, of_assigned}
use Rattle.scc_core_spec.specs.Source.{Home, expr_of, left_of, pick_of, location_in, location_of, cell_left, cell_location, process_named}
use Rattle.scc_blocks_spec.specs.Passed.{IsHome}
use Rattle.scc_core_unroll_laws.specs.Unrolling.{Around, own, scene_at, HoldsFixed, IsKept, along, Keeps}
use Rattle.scc_core_unroll_laws.specs.Named.{IsNamed}
use Rattle.scc_core_pass_laws.specs.Pointing.{base, IsCellName, Apart, OwnNames, OwnLeft, OwnPick, LeadsTo, Known, leads_of, w_of}
use Rattle.scc_core_pass_laws.specs.Resolving.{Locals, Sub, Code-body, Resolves, Beneath, beneath_stop, beneath_go, Matching, matching_stop, matching_go, Stayed, Beside}
use Rattle.scc_core_unroll_laws.proofs.Counters.{some-is}
use Rattle.scc_core_unroll_laws.proofs.Steps.{putting, unless-put}
use Rattle.scc_core_pass_laws.proofs.Placed.{after-blind}
use Rattle.scc_core_pass_laws.proofs.Pointless.{made-is, stopped-not, and-is, made-map-is, sure-is, Looks, Reads, SameTerm, WalkTo, unless-stopped, pattern-stays, term-is, walk-is, looked-is}

-- an assignment leaves the pointers
put-targets : (th : Option Thing) (s : Scene) (a b : Held) (l : Location) (p : body.Pick) (x : ℕ) → put_at th s a l p x ≡ Some b → b.store.targets ≡ a.store.targets
put-targets (Some (Number k)) s a b l p x e = by (picked s k p (a.store.words l) x) e
  where
    by : (o : Option ℕ) → option_map (λ w. with_words a (changed l w a.store.words)) o ≡ Some b → b.store.targets ≡ a.store.targets
    by None e = absurd cc
    by (Some w) e = let f : with_words a (changed l w a.store.words) ≡ b = cc in sym (ap (λ z. z.store.targets) f)
put-targets (Some (Signal k)) s a b l p x e = by (picked s k p 0 x) e
  where
    by : (o : Option ℕ) → option_map (λ w. asked a l x) o ≡ Some b → b.store.targets ≡ a.store.targets
    by None e = absurd cc
    by (Some w) e = let f : asked a l x ≡ b = cc in sym (ap (λ z. z.store.targets) f)
put-targets (Some (Port k r)) s a b l p x e = by (picked s k p 0 x) e
  where
    by : (o : Option ℕ) → option_map (λ w. asked a r x) o ≡ Some b → b.store.targets ≡ a.store.targets
    by None e = absurd cc
    by (Some w) e = let f : asked a r x ≡ b = cc in sym (ap (λ z. z.store.targets) f)
put-targets None s a b l p x e = by (picked s kind.Bool p 0 x) e
  where
    by : (o : Option ℕ) → option_map (λ w. a) o ≡ Some b → b.store.targets ≡ a.store.targets
    by None e = absurd cc
    by (Some w) e = let f : a ≡ b = cc in sym (ap (λ z. z.store.targets) f)

putting-targets : (places : Places) (s : Scene) (a b : Held) (v : Option ℕ) (l : Option (Option Location)) (p : body.Pick) → putting places s a v l p ≡ Some b → b.store.targets ≡ a.store.targets
putting-targets places s a b None l p e = absurd cc
putting-targets places s a b (Some x) None p e = absurd cc
putting-targets places s a b (Some x) (Some None) p e = absurd cc
putting-targets places s a b (Some x) (Some (Some l)) p e = put-targets (places.things l) s a b l p x e

module _ (home : Home) (is_home : IsHome home) (p : Program) (constant : Location → Option ℕ) (i : ℕ) (q : Process) (named : IsNamed p) (apart : Apart home p i q) (signals : Location → ℕ) (start : Location → Option Location)
    (bottom : Next) (pops : (mark : Mark) (k : Frames) (a : Held) → bottom (Go mark (own (w_of home p constant i q)) machine.End k) a ≡ bottom k a)
    (blind : (t : Location → Option Location) (g : Frames) (h : Held) → PlainFrames g → IsBlind (w_of home p constant i q).places (λ f. machine.End) signals t (bottom g h) (bottom g (all-aimed-held t h))) where
  abbrev w : Around
  w = w_of home p constant i q

  abbrev B : Code → Body
  B c = Code-body home p constant i q c

  abbrev Knows : Locals → Held → Type 0
  Knows local a = Known home p constant i q local a.store.targets

  -- so many statements, and then what stands at the bottom
  abbrev pub iter : ℕ → Next
  iter zero f a = bottom f a
  iter (suc n) f a = act w.places (λ f. machine.End) signals (iter n) f a

  iter-blind : (t : Location → Option Location) (n : ℕ) (g : Frames) (h : Held) → PlainFrames g → IsBlind w.places (λ f. machine.End) signals t (iter n g h) (iter n g (all-aimed-held t h))
  iter-blind t zero = λ g h x. blind t g h x
  iter-blind t (suc n) = act-blind w.places (λ f. machine.End) signals t (iter n) (iter-blind t n)

  abbrev Side : ℕ → Frames → Frames → Held → Type 0
  Side n f f' a = Beside home p constant i q start (iter n f a) (iter n f' a)

  abbrev pub All : ℕ → Type 0
  All n = (local : Locals) (f f' : Frames) (a : Held) → Matching home p constant i q local f f' → Knows local a → Stayed home p constant i q start a.store.targets → Keeps w signals f' a → Side n f f' a

  sub-same : (local : Locals) → Sub local local
  sub-same local n x e = e

  pub sub-known : (old local : Locals) (a : Held) → Sub old local → Knows local a → Knows old a
  sub-known old local a sub k = record { here = λ n c t at ptr e. k.here n c t at ptr (sub n t e); ours = λ n c t at e. k.ours n c t at (sub n t e); top = k.top }

  deeper : (old local : Locals) {k k' : Frames} → Sub old local → Beneath home p constant i q old k k' → Beneath home p constant i q local k k'
  deeper old local sub beneath_stop = beneath_stop
  deeper old local sub (beneath_go mark older c d s r b) = beneath_go mark older c d (λ n x e. sub n x (s n x e)) r b

  record Leaves (local : Locals) (f f' : Frames) : Type 0 where
    pub old : Locals
    pub sub : Sub old local
    pub matching : Matching home p constant i q old f f'

  leave-both : (j : ℕ) (local : Locals) {k k' : Frames} → Beneath home p constant i q local k k' → Leaves local (leave j k) (leave j k')
  leave-both j local beneath_stop = record { old = local; sub = sub-same local; matching = matching_stop }
  leave-both j local (beneath_go Inner old c d s r b) = let l = leave-both j old b in record { old = l.old; sub = λ n x e. s n x (l.sub n x e); matching = l.matching }
  leave-both zero local (beneath_go BehindBlock old c d s r b) = record { old = old; sub = s; matching = matching_go Inner Inner c d r b }
  leave-both (suc j) local (beneath_go BehindBlock old c d s r b) = let l = leave-both j old b in record { old = l.old; sub = λ n x e. s n x (l.sub n x e); matching = l.matching }
  leave-both j local (beneath_go BehindCall old c d s r b) = record { old = old; sub = s; matching = matching_go BehindCall BehindCall c d r b }

  pop : (mark : Mark) (k : Frames) (a : Held) (n : ℕ) → iter n (Go mark (own w) machine.End k) a ≡ iter n k a
  pop mark k a zero = pops mark k a
  pop mark k a (suc n) = refl

  -- both are stuck, or both go on
  pub by-one : {A : Type 0} (od oe : Option A) → oe ≡ od → (g g' : A → Frames) (b : A → Held) (n : ℕ) (f f' : Frames) (a : Held) → Stayed home p constant i q start a.store.targets
      → iter (suc n) f a ≡ unless_stuck a od (λ x. iter n (g x) (b x)) → iter (suc n) f' a ≡ unless_stuck a oe (λ x. iter n (g' x) (b x))
      → ((m : ℕ) → along w signals (suc m) f' a ≡ unless_stuck a oe (λ x. along w signals m (g' x) (b x))) → Keeps w signals f' a
      → ((x : A) → od ≡ Some x → Keeps w signals (g' x) (b x) → Side n (g x) (g' x) (b x)) → Side (suc n) f f' a
  by-one {A} None oe e g g' b n f f' a st dn en ea keep next =
      subst (λ x. Beside home p constant i q start x (iter (suc n) f' a)) (sym dn)
      (subst (λ z. Beside home p constant i q start (Stuck a) z) (sym (en ∙ ap (λ o. unless_stuck a o (λ x. iter n (g' x) (b x))) e)) ((refl, refl), st))
  by-one {A} (Some x) oe e g g' b n f f' a st dn en ea keep next =
      subst (λ y. Beside home p constant i q start y (iter (suc n) f' a)) (sym dn)
      (subst (λ z. Beside home p constant i q start (iter n (g x) (b x)) z) (sym (en ∙ ap (λ o. unless_stuck a o (λ x. iter n (g' x) (b x))) e))
      (next x refl (λ j. subst (λ o. IsKept w o) (ea j ∙ ap (λ o. unless_stuck a o (λ x. along w signals j (g' x) (b x))) e) (keep (suc j)))))

  -- the e side's pointers don't matter
  beside-aimed : (t : Location → Option Location) (x z : Outcome) → Beside home p constant i q start x (all_aimed t z) → Beside home p constant i q start x z
  beside-aimed t (Suspended f a) (Suspended g b) r = r
  beside-aimed t (Ended a) (Ended b) r = r
  beside-aimed t (Stuck a) (Stuck b) r = r
  beside-aimed t Unfinished Unfinished r = r
  beside-aimed t (Suspended f a) (Ended b) r = absurd r
  beside-aimed t (Suspended f a) (Stuck b) r = absurd r
  beside-aimed t (Suspended f a) Unfinished r = absurd r
  beside-aimed t (Ended a) (Suspended g b) r = absurd r
  beside-aimed t (Ended a) (Stuck b) r = absurd r
  beside-aimed t (Ended a) Unfinished r = absurd r
  beside-aimed t (Stuck a) (Suspended g b) r = absurd r
  beside-aimed t (Stuck a) (Ended b) r = absurd r
  beside-aimed t (Stuck a) Unfinished r = absurd r
  beside-aimed t Unfinished (Suspended g b) r = absurd r
  beside-aimed t Unfinished (Ended b) r = absurd r
  beside-aimed t Unfinished (Stuck b) r = absurd r

  pub kept-aimed : (t : Location → Option Location) (z : Outcome) → IsKept w z → IsKept w (all_aimed t z)
  kept-aimed t (Suspended g b) k = k
  kept-aimed t (Ended b) k = tt
  kept-aimed t (Stuck b) k = tt
  kept-aimed t Unfinished k = tt

  pub plain-beneath : (local : Locals) {k k' : Frames} → Beneath home p constant i q local k k' → PlainFrames k'
  plain-beneath local beneath_stop = tt
  plain-beneath local (beneath_go mark old c d s r b) = (r.plain, plain-beneath old b)

  abbrev E : Term → body.Expr
  E e = expr_of home p.cells i e

  abbrev L : Left → body.Left
  L l = left_of home p.cells i l

  abbrev P : Pick → body.Pick
  P k = pick_of home p.cells i k

  abbrev S : Held → Scene
  S a = scene_at w signals a

  abbrev lead : Locals → Leads
  lead local = leads_of home p constant i q local

  module _ (local : Locals) (a : Held) (fixed : HoldsFixed w a) (known : Knows local a) where
    abbrev Term-is : (e y : Term) → OwnNames q p.cells e → resolved (lead local) e ≡ Made y → SameTerm home is_home p constant i q named apart signals a fixed local known e y
    Term-is e y own h = term-is home is_home p constant i q named apart signals a fixed local known e y own h

    pick-is : (k j : Pick) → OwnPick q p.cells k → resolved_pick (lead local) k ≡ Made j → (d : Kind) (old new : ℕ) → picked (S a) d (P k) old new ≡ picked (S a) d (P j) old new
    pick-is Whole j own h d old new = ap (λ j. picked (S a) d (P j) old new) (made-is h)
    pick-is (Bits hi lo) j own h d old new = ap (λ j. picked (S a) d (P j) old new) (made-is h)
    pick-is (OneBit e) j own h d old new =
        let m = made-map-is OneBit (resolved (lead local) e) j h in
        let u = Term-is e m.0 own m.1 in
        (λ z. option_map (λ n. with_bit (width_of d) old (index_of (u.kind z) n) new) (u.value z)) ∙ ap (λ j. picked (S a) d (P j) old new) m.2

    put-is : (k j : Pick) → OwnPick q p.cells k → resolved_pick (lead local) k ≡ Made j → (t : Option Thing) (l : Location) (x : ℕ) → put_at t (S a) a l (P k) x ≡ put_at t (S a) a l (P j) x
    put-is k j own h (Some (Number d)) l x = ap (option_map (λ y. with_words a (changed l y a.store.words))) (pick-is k j own h d (a.store.words l) x)
    put-is k j own h (Some (Signal d)) l x = ap (option_map (λ y. asked a l x)) (pick-is k j own h d 0 x)
    put-is k j own h (Some (Port d r)) l x = ap (option_map (λ y. asked a r x)) (pick-is k j own h d 0 x)
    put-is k j own h None l x = ap (option_map (λ y. a)) (pick-is k j own h kind.Bool 0 x)

    -- an assignment comes to the same
    putting-is : (V V' : Option ℕ) → V ≡ V' → (l m n : Left) → locate (S a) (L l) ≡ locate (S a) (L m) → Looks home is_home p constant i q named apart signals a fixed local known m n
        → (k j : Pick) → OwnPick q p.cells k → resolved_pick (lead local) k ≡ Made j → putting w.places (S a) a V (locate (S a) (L l)) (P k) ≡ putting w.places (S a) a V' (locate (S a) (L n)) (P j)
    putting-is V V' e l m n g looks k j own h =
        (λ z. option_and_then (λ x. option_and_then (λ y. put-is k j own h (w.places.things y) y x z) (followed (g z))) (e z)) ∙ by looks
      where
        by : Looks home is_home p constant i q named apart signals a fixed local known m n → putting w.places (S a) a V' (locate (S a) (L m)) (P j) ≡ putting w.places (S a) a V' (locate (S a) (L n)) (P j)
        by (inl x) = ap (λ z. putting w.places (S a) a V' z (P j)) x
        by (inr x) = ap (λ z. putting w.places (S a) a V' z (P j)) x.2 ∙ (each V' x.4 ∙ sym (ap (λ z. putting w.places (S a) a V' z (P j)) x.3))
          where
            each : (V : Option ℕ) → Reads home is_home p constant i q named apart signals a fixed local known x.0 x.1 → putting w.places (S a) a V (Some (Some x.0)) (P j) ≡ putting w.places (S a) a V (Some (Some x.1)) (P j)
            each None r = refl
            each (Some v) r = r.puts (P j) v

  assigning : (n : ℕ) → All n → (local : Locals) (mark mark' : Mark) {k k' : Frames} (o : Place) (l : Left) (j : Pick) (e : Term) (r d : Code) (a : Held)
      → Resolves home p constant i q local (Put o l j e r) d → Beneath home p constant i q local k k' → Knows local a → Stayed home p constant i q start a.store.targets
      → Keeps w signals (Go mark' (own w) (B d) k') a → Side (suc n) (Go mark (own w) (B (Put o l j e r)) k) (Go mark' (own w) (B d) k') a
  assigning n ih local mark mark' {k} {k'} o l j e r d a res below known stayed keep =
      let s = lead local in
      let fixed = (keep 0).0 in
      let f : Left → Pick → Tried Code = λ l k. and_made (resolved s e) (λ e. made_map (Put o l k e) (unpointed s r)) in
      let a1 = and-is (walked s false l) (λ u. sure (place_at l) u (λ m. and_made (resolved_pick s j) (λ k. and_made (looked s m) (λ m. f m k)))) d res.made in
      let b1 = sure-is (place_at l) a1.0 (λ m. and_made (resolved_pick s j) (λ k. and_made (looked s m) (λ m. f m k))) d a1.2 in
      let c1 = and-is (resolved_pick s j) (λ k. and_made (looked s b1.0) (λ m. f m k)) d b1.2 in
      let d1 = and-is (looked s b1.0) (λ m. f m c1.0) d c1.2 in
      let e1 = and-is (resolved s e) (λ e. made_map (Put o d1.0 c1.0 e) (unpointed s r)) d d1.2 in
      let f1 = made-map-is (Put o d1.0 c1.0 e1.0) (unpointed s r) d e1.2 in
      let x = walk-is home is_home p constant i q named apart signals a fixed local known false l (Some b1.0) res.own.0 (a1.1 ∙ ap Made b1.1) in
      let looks = looked-is home is_home p constant i q named apart signals a fixed local known b1.0 d1.0 x.1 x.2 d1.1 in
      let u = term-is home is_home p constant i q named apart signals a fixed local known e e1.0 res.own.2 e1.1 in
      let same = putting-is local a fixed known (value (S a) (E e)) (value (S a) (E e1.0)) u.value l b1.0 d1.0 x.0 looks.0 j c1.0 res.own.1 c1.1 in
      let D = Put o d1.0 c1.0 e1.0 f1.0 in
      let plain : plain_body (B D) ≡ true = ap (λ d. plain_body (B d)) f1.2 ∙ res.plain in
      let rest = and-second (plain_expr (E e1.0)) (plain_body (B f1.0)) (and-second (plain_pick (P c1.0)) (plain_expr (E e1.0) && plain_body (B f1.0)) (and-second (plain_left (L d1.0)) (plain_pick (P c1.0) && (plain_expr (E e1.0) && plain_body (B f1.0))) plain)) in
      let keep1 : Keeps w signals (Go mark' (own w) (B D) k') a = subst (λ d. Keeps w signals (Go mark' (own w) (B d) k') a) (sym f1.2) keep in
      let V = value (S a) (E e) in
      let V' = value (S a) (E e1.0) in
      let W = locate (S a) (L l) in
      let W' = locate (S a) (L d1.0) in
      subst (λ d. Side (suc n) (Go mark (own w) (B (Put o l j e r)) k) (Go mark' (own w) (B d) k') a) f1.2
      (by-one (putting w.places (S a) a V W (P j)) (putting w.places (S a) a V' W' (P c1.0)) (sym same) (λ c. Go Inner (own w) (B r) k) (λ c. Go Inner (own w) (B f1.0) k') (λ c. c) n
      (Go mark (own w) (B (Put o l j e r)) k) (Go mark' (own w) (B D) k') a stayed
      (unless-put w.places (S a) a V W (P j) (iter n (Go Inner (own w) (B r) k)))
      (unless-put w.places (S a) a V' W' (P c1.0) (iter n (Go Inner (own w) (B f1.0) k')))
      (λ m. unless-put w.places (S a) a V' W' (P c1.0) (along w signals m (Go Inner (own w) (B f1.0) k'))) keep1
      (λ c ec keep2.
      let t = putting-targets w.places (S a) a c V W (P j) ec in
      ih local _ _ c (matching_go Inner Inner r f1.0 (record { own = res.own.3; made = f1.1; plain = rest }) below)
      (subst (λ t. Known home p constant i q local t) (sym t) known) (subst (λ t. Stayed home p constant i q start t) (sym t) stayed) keep2))

  branched : (n : ℕ) → All n → (local : Locals) (v : ℕ) {k k' : Frames} (x y x' y' : Code) (a : Held) → Resolves home p constant i q local x x' → Resolves home p constant i q local y y' → Beneath home p constant i q local k k'
      → Knows local a → Stayed home p constant i q start a.store.targets → Keeps w signals (Go Inner (own w) (pick v (B x') (B y')) k') a
      → Side n (Go Inner (own w) (pick v (B x) (B y)) k) (Go Inner (own w) (pick v (B x') (B y')) k') a
  branched n ih local zero x y x' y' a rx ry below known stayed keep = ih local _ _ a (matching_go Inner Inner y y' ry below) known stayed keep
  branched n ih local (suc v) x y x' y' a rx ry below known stayed keep = ih local _ _ a (matching_go Inner Inner x x' rx below) known stayed keep

  testing : (n : ℕ) → All n → (local : Locals) (mark mark' : Mark) {k k' : Frames} (o : Place) (t : Term) (x y r d : Code) (a : Held)
      → Resolves home p constant i q local (If o t x y r) d → Beneath home p constant i q local k k' → Knows local a → Stayed home p constant i q start a.store.targets
      → Keeps w signals (Go mark' (own w) (B d) k') a → Side (suc n) (Go mark (own w) (B (If o t x y r)) k) (Go mark' (own w) (B d) k') a
  testing n ih local mark mark' {k} {k'} o t x y r d a res below known stayed keep =
      let s = lead local in
      let a1 = and-is (resolved s t) (λ t. and_made (unpointed s x) (λ a. and_made (unpointed s y) (λ b. made_map (If o t a b) (unpointed s r)))) d res.made in
      let b1 = and-is (unpointed s x) (λ a. and_made (unpointed s y) (λ b. made_map (If o a1.0 a b) (unpointed s r))) d a1.2 in
      let c1 = and-is (unpointed s y) (λ b. made_map (If o a1.0 b1.0 b) (unpointed s r)) d b1.2 in
      let d1 = made-map-is (If o a1.0 b1.0 c1.0) (unpointed s r) d c1.2 in
      let D = If o a1.0 b1.0 c1.0 d1.0 in
      let u = term-is home is_home p constant i q named apart signals a (keep 0).0 local known t a1.0 res.own.0 a1.1 in
      let plain : plain_body (B D) ≡ true = ap (λ d. plain_body (B d)) d1.2 ∙ res.plain in
      let p1 = and-second (plain_expr (E a1.0)) (plain_body (B b1.0) && (plain_body (B c1.0) && plain_body (B d1.0))) plain in
      let p2 = and-second (plain_body (B b1.0)) (plain_body (B c1.0) && plain_body (B d1.0)) p1 in
      let keep1 : Keeps w signals (Go mark' (own w) (B D) k') a = subst (λ d. Keeps w signals (Go mark' (own w) (B d) k') a) (sym d1.2) keep in
      let K = Go Inner (own w) (B r) k in
      let K' = Go Inner (own w) (B d1.0) k' in
      subst (λ d. Side (suc n) (Go mark (own w) (B (If o t x y r)) k) (Go mark' (own w) (B d) k') a) d1.2
      (by-one (value (S a) (E t)) (value (S a) (E a1.0)) (sym u.value) (λ v. Go Inner (own w) (pick v (B x) (B y)) K) (λ v. Go Inner (own w) (pick v (B b1.0) (B c1.0)) K') (λ v. a) n
      (Go mark (own w) (B (If o t x y r)) k) (Go mark' (own w) (B D) k') a stayed refl refl (λ m. refl) keep1
      (λ v ev keep2. branched n ih local v x y b1.0 c1.0 a (record { own = res.own.1; made = b1.1; plain = and-first (plain_body (B b1.0)) (plain_body (B c1.0) && plain_body (B d1.0)) p1 })
      (record { own = res.own.2; made = c1.1; plain = and-first (plain_body (B c1.0)) (plain_body (B d1.0)) p2 })
      (beneath_go Inner local r d1.0 (sub-same local) (record { own = res.own.3; made = d1.1; plain = and-second (plain_body (B c1.0)) (plain_body (B d1.0)) p2 }) below) known stayed keep2))

  -- one statement on both sides that is never stuck
  blocking : (n : ℕ) → All n → (local : Locals) (mark mark' : Mark) {k k' : Frames} (o : Place) (x r d : Code) (a : Held)
      → Resolves home p constant i q local (Block o x r) d → Beneath home p constant i q local k k' → Knows local a → Stayed home p constant i q start a.store.targets
      → Keeps w signals (Go mark' (own w) (B d) k') a → Side (suc n) (Go mark (own w) (B (Block o x r)) k) (Go mark' (own w) (B d) k') a
  blocking n ih local mark mark' {k} {k'} o x r d a res below known stayed keep =
      let s = lead local in
      let a1 = and-is (unpointed s x) (λ b. made_map (Block o b) (unpointed s r)) d res.made in
      let d1 = made-map-is (Block o a1.0) (unpointed s r) d a1.2 in
      let D = Block o a1.0 d1.0 in
      let plain : plain_body (B D) ≡ true = ap (λ d. plain_body (B d)) d1.2 ∙ res.plain in
      let keep1 : Keeps w signals (Go mark' (own w) (B D) k') a = subst (λ d. Keeps w signals (Go mark' (own w) (B d) k') a) (sym d1.2) keep in
      subst (λ d. Side (suc n) (Go mark (own w) (B (Block o x r)) k) (Go mark' (own w) (B d) k') a) d1.2
      (ih local _ _ a (matching_go Inner Inner x a1.0 (record { own = res.own.0; made = a1.1; plain = and-first (plain_body (B a1.0)) (plain_body (B d1.0)) plain })
      (beneath_go BehindBlock local r d1.0 (sub-same local) (record { own = res.own.1; made = d1.1; plain = and-second (plain_body (B a1.0)) (plain_body (B d1.0)) plain }) below)) known stayed (λ j. keep1 (suc j)))

  looping : (n : ℕ) → All n → (local : Locals) (mark mark' : Mark) {k k' : Frames} (o : Place) (c : Option Count) (x r d : Code) (a : Held)
      → Resolves home p constant i q local (Loop o c x r) d → Beneath home p constant i q local k k' → Knows local a → Stayed home p constant i q start a.store.targets
      → Keeps w signals (Go mark' (own w) (B d) k') a → Side (suc n) (Go mark (own w) (B (Loop o c x r)) k) (Go mark' (own w) (B d) k') a
  looping n ih local mark mark' {k} {k'} o c x r d a res below known stayed keep =
      let s = lead local in
      let count = option_map (resolved_count s) c in
      let a1 = and-is (unpointed s x) (λ b. made_map (Loop o count b) (unpointed s r)) d res.made in
      let d1 = made-map-is (Loop o count a1.0) (unpointed s r) d a1.2 in
      let D = Loop o count a1.0 d1.0 in
      let plain : plain_body (B D) ≡ true = ap (λ d. plain_body (B d)) d1.2 ∙ res.plain in
      let keep1 : Keeps w signals (Go mark' (own w) (B D) k') a = subst (λ d. Keeps w signals (Go mark' (own w) (B d) k') a) (sym d1.2) keep in
      let made1 : unpointed s (Loop o c x r) ≡ Made D = res.made ∙ ap Made (sym d1.2) in
      subst (λ d. Side (suc n) (Go mark (own w) (B (Loop o c x r)) k) (Go mark' (own w) (B d) k') a) d1.2
      (ih local _ _ a (matching_go Inner Inner x a1.0 (record { own = res.own.0; made = a1.1; plain = and-first (plain_body (B a1.0)) (plain_body (B d1.0)) plain })
      (beneath_go Inner local (Loop o c x r) D (sub-same local) (record { own = res.own; made = made1; plain = plain }) below)) known stayed (λ j. keep1 (suc j)))

  exiting : (n : ℕ) → All n → (local : Locals) (mark mark' : Mark) {k k' : Frames} (o : Place) (j : ℕ) (r d : Code) (a : Held)
      → Resolves home p constant i q local (Exit o j r) d → Beneath home p constant i q local k k' → Knows local a → Stayed home p constant i q start a.store.targets
      → Keeps w signals (Go mark' (own w) (B d) k') a → Side (suc n) (Go mark (own w) (B (Exit o j r)) k) (Go mark' (own w) (B d) k') a
  exiting n ih local mark mark' {k} {k'} o j r d a res below known stayed keep =
      let d1 = made-map-is (Exit o j) (unpointed (lead local) r) d res.made in
      let l = leave-both j local below in
      let keep1 : Keeps w signals (Go mark' (own w) (B (Exit o j d1.0)) k') a = subst (λ d. Keeps w signals (Go mark' (own w) (B d) k') a) (sym d1.2) keep in
      subst (λ d. Side (suc n) (Go mark (own w) (B (Exit o j r)) k) (Go mark' (own w) (B d) k') a) d1.2
      (ih l.old _ _ a l.matching (sub-known l.old local a l.sub known) stayed (λ j. keep1 (suc j)))

  waiting-both : (local : Locals) {k k' : Frames} (o : Place) (l n : ℕ) (r d : Code) → Resolves home p constant i q local r d → Beneath home p constant i q local k k'
      → Matching home p constant i q local (waiting l n (Go Inner (own w) (B r) k)) (waiting l n (Go Inner (own w) (B d) k'))
  waiting-both local o l zero r d res below = matching_go Inner Inner r d res below
  waiting-both local o l (suc n) r d res below = matching_go Inner Inner (Wait o l (suc n) r) (Wait o l (suc n) d) (record { own = res.own; made = ap (made_map (Wait o l (suc n))) res.made; plain = res.plain }) below

  halting : (n : ℕ) (local : Locals) (mark mark' : Mark) {k k' : Frames} (o : Place) (l c : ℕ) (r d : Code) (a : Held)
      → Resolves home p constant i q local (Wait o l c r) d → Beneath home p constant i q local k k' → Knows local a → Stayed home p constant i q start a.store.targets
      → Side (suc n) (Go mark (own w) (B (Wait o l c r)) k) (Go mark' (own w) (B d) k') a
  halting n local mark mark' {k} {k'} o l c r d a res below known stayed =
      let d1 = made-map-is (Wait o l c) (unpointed (lead local) r) d res.made in
      let plain : plain_body (B d1.0) ≡ true = ap (λ d. plain_body (B d)) d1.2 ∙ res.plain in
      subst (λ d. Side (suc n) (Go mark (own w) (B (Wait o l c r)) k) (Go mark' (own w) (B d) k') a) d1.2
      (local, (refl, refl), waiting-both local o l (one_less c) r d1.0 (record { own = res.own; made = d1.1; plain = plain }) below, known, stayed)

  abbrev lead-more : Locals → ℕ → Option Left → Locals
  lead-more local j o m = if nat_eq m j then Some o else local m

  record Target (local : Locals) (a : Held) (t : Left) (o : Option Left) : Type 0 where
    pub there : Option Location
    pub located : locate (S a) (L t) ≡ Some there
    pub leads : LeadsTo home p constant i q o there

  target-is : (local : Locals) (a : Held) → HoldsFixed w a → Knows local a → (t : Left) (o : Option Left) → OwnLeft q p.cells t → aimed (lead local) t ≡ Made o → Target local a t o
  target-is local a fixed known t o own h =
      let s = lead local in
      let f : Left → Tried (Option Left) = λ m. if unwrap_or (option_map chooses_object (pattern p.cells m)) false then Stopped (refused reason.StaticIndex (place_at m))
      else (if unwrap_or (option_map is_open (pattern p.cells m)) true then Stopped (refused reason.StaticIndex (place_at t)) else Made (Some m)) in
      let x = and-is (walked s true t) (λ u. behind u f) o h in
      by x.0 (walk-is home is_home p constant i q named apart signals a fixed local known true t x.0 own x.1) x.2
    where
      by : (u : Option Left) → WalkTo home is_home p constant i q named apart signals a fixed local known u t
          → behind u (λ m. if unwrap_or (option_map chooses_object (pattern p.cells m)) false then Stopped (refused reason.StaticIndex (place_at m))
          else (if unwrap_or (option_map is_open (pattern p.cells m)) true then Stopped (refused reason.StaticIndex (place_at t)) else Made (Some m))) ≡ Made o → Target local a t o
      by None x h = subst (Target local a t) (made-is h) (record { there = None; located = x; leads = refl })
      by (Some m) x h =
          let g = unless-stopped (unwrap_or (option_map chooses_object (pattern p.cells m)) false) (refused reason.StaticIndex (place_at m)) (if unwrap_or (option_map is_open (pattern p.cells m)) true then Stopped (refused reason.StaticIndex (place_at t)) else Made (Some m)) o h in
          let k = unless-stopped (unwrap_or (option_map is_open (pattern p.cells m)) true) (refused reason.StaticIndex (place_at t)) (Made (Some m)) o g.1 in
          named-to (pattern p.cells m) refl k.0 (made-is k.1)
        where
          named-to : (u : Option (List Step)) → pattern p.cells m ≡ u → unwrap_or (option_map is_open u) true ≡ false → Some m ≡ o → Target local a t o
          named-to None e cl eo = absurd cc
          named-to (Some r) e cl eo =
              let z = pattern-stays home is_home p constant i q named apart m r x.1 e cl in
              subst (Target local a t) eo (record { there = Some z.0; located = x.0 ∙ z.1 signals a fixed; leads = (z.0, refl, z.1, x.1, x.2) })

  changed-other : (l m : Location) (v : Option Location) (t : Location → Option Location) → (l ≡ m → ⊥) → changed l v t m ≡ t m
  changed-other l m v t ne = by (same l m) refl
    where
      by : (b : Bool) → same l m ≡ b → (if b then v else t m) ≡ t m
      by true e = absurd (ne (same-is l m e))
      by false e = refl

  changed-there : (l : Location) (v : Option Location) (t : Location → Option Location) → changed l v t l ≡ v
  changed-there l v t = ap (λ b. if b then v else t l) (same-self l)

  own-root : (c : Cell) (j : ℕ) (o : Own) → c.name.own ≡ Some o → is_own j (location_of home j c.name).root ≡ true
  own-root c j o e = ap (λ u. is_own j (location_in home j u c.name).root) e ∙ is_home.own j o.number

  known-more : (local : Locals) (a : Held) → Knows local a → (j : ℕ) (c : Cell) (u : Own) (o : Option Left) (v : Option Location) → slice_get p.cells j ≡ Some c → is_pointer c.sort ≡ true → c.name.own ≡ Some u → cell_location home p c ≡ location_of home i c.name
      → LeadsTo home p constant i q o v → Known home p constant i q (lead-more local j o) (changed (location_of home i c.name) v a.store.targets)
  known-more local a known j c u o v at ptr eu here leads = record {
    here = λ n d t atn ptrn e. by n d t atn ptrn (nat_eq n j) refl e;
    ours = λ n d t atn e. mine n d t atn (nat_eq n j) refl e;
    top = λ n d t atn none sort.
        let ne : location_of home i c.name ≡ cell_location home p d → ⊥ = λ z.
        let r : is_own i (cell_location home p d).root ≡ true = sym (ap (λ l. is_own i l.root) z) ∙ own-root c i u eu in
        let f : is_own i (cell_location home p d).root ≡ false = ap (λ o. is_own i (location_in home (process_named 0 d.name.path p.processes) o d.name).root) none in cc in
        changed-other (location_of home i c.name) (cell_location home p d) v a.store.targets ne ∙ known.top n d t atn none sort;
  }
    where
      mine : (n : ℕ) (d : Cell) (t : Option Left) → slice_get p.cells n ≡ Some d → (b : Bool) → nat_eq n j ≡ b → (if b then Some o else local n) ≡ Some t → is_own i (cell_location home p d).root ≡ true
      mine n d t atn true e f =
          let k : n ≡ j = grind arith in
          let dc : d ≡ c = some-is (sym atn ∙ (ap (slice_get p.cells) k ∙ at)) in
          ap (λ c. is_own i (cell_location home p c).root) dc ∙ (ap (λ l. is_own i l.root) here ∙ own-root c i u eu)
      mine n d t atn false e f = known.ours n d t atn f

      by : (n : ℕ) (d : Cell) (t : Option Left) → slice_get p.cells n ≡ Some d → is_pointer d.sort ≡ true → (b : Bool) → nat_eq n j ≡ b → (if b then Some o else local n) ≡ Some t
          → LeadsTo home p constant i q t (changed (location_of home i c.name) v a.store.targets (cell_location home p d))
      by n d t atn ptrn true e f =
          let k : n ≡ j = grind arith in
          let dc : d ≡ c = some-is (sym atn ∙ (ap (slice_get p.cells) k ∙ at)) in
          subst (λ t. LeadsTo home p constant i q t (changed (location_of home i c.name) v a.store.targets (cell_location home p d))) (some-is f)
          (subst (LeadsTo home p constant i q o) (sym (ap (changed (location_of home i c.name) v a.store.targets) (ap (cell_location home p) dc ∙ here) ∙ changed-there (location_of home i c.name) v a.store.targets)) leads)
      by n d t atn ptrn false e f =
          let ne : location_of home i c.name ≡ cell_location home p d → ⊥ = λ z. let k : n ≡ j = apart.pointers n j d c atn at ptrn ptr (sym z ∙ sym here) in let y : nat_eq n j ≡ true = grind arith in cc in
          subst (LeadsTo home p constant i q t) (sym (changed-other (location_of home i c.name) (cell_location home p d) v a.store.targets ne)) (known.here n d t atn ptrn f)

  -- a declaration: an empty block stands in its place
  declaring : slice_get p.processes i ≡ Some q → (n : ℕ) → All n → (local : Locals) (mark mark' : Mark) {k k' : Frames} (o : Place) (j : ℕ) (t : Left) (r d : Code) (a : Held)
      → Resolves home p constant i q local (Aim o (Declared j) t r) d → Beneath home p constant i q local k k' → Knows local a → Stayed home p constant i q start a.store.targets
      → Keeps w signals (Go mark' (own w) (B d) k') a → Side (suc n) (Go mark (own w) (B (Aim o (Declared j) t r)) k) (Go mark' (own w) (B d) k') a
  declaring at_q n ih local mark mark' {k} {k'} o j t r d a res below known stayed keep =
      let s = lead local in
      let x = and-is (aimed s t) (λ u. if declares s j then made_map (Block o End) (unpointed (lead (lead-more local j u)) r) else Stopped (refused reason.PointerAssigned o)) d res.made in
      let y = declared-is (declares s j) (refused reason.PointerAssigned o) (made_map (Block o End) (unpointed (lead (lead-more local j x.0)) r)) d x.2 in
      let z = made-map-is (Block o End) (unpointed (lead (lead-more local j x.0)) r) d y.1 in
      let g = target-is local a (keep 0).0 known t x.0 res.own.1 x.1 in
      by (slice_get p.cells j) refl res.own.0 (and-first (is_local_pointer (slice_get p.cells j)) (not (is_some (local j))) y.0) (none (local j) (and-second (is_local_pointer (slice_get p.cells j)) (not (is_some (local j))) y.0)) x.0 z.0 z.1 z.2 g
    where
      declared-is : (b : Bool) (r : Refusal) (t : Tried Code) (y : Code) → (if b then t else Stopped r) ≡ Made y → (b ≡ true) × (t ≡ Made y)
      declared-is true r t y e = (refl, e)
      declared-is false r t y e = absurd (stopped-not r y e)

      none : (u : Option (Option Left)) → not (is_some u) ≡ true → u ≡ None
      none None e = refl
      none (Some x) e = absurd cc

      owned : (u : Option Own) → is_some u ≡ true → (x : Own) × (u ≡ Some x)
      owned None e = absurd cc
      owned (Some x) e = (x, refl)

      by : (u : Option Cell) → slice_get p.cells j ≡ u → IsCellName q p.cells u → is_local_pointer u ≡ true → local j ≡ None → (to : Option Left) (r' : Code) → unpointed (lead (lead-more local j to)) r ≡ Made r' → Block o End r' ≡ d
          → Target local a t to → Side (suc n) (Go mark (own w) (B (Aim o (Declared j) t r)) k) (Go mark' (own w) (B d) k') a
      by None e name h free to r' made ed g = absurd cc
      by (Some c) e name h free to r' made ed g =
          let u = owned c.name.own (and-first (is_some c.name.own) (is_pointer c.sort) h) in
          let ptr = and-second (is_some c.name.own) (is_pointer c.sort) h in
          let l = location_of home i c.name in
          let here : cell_location home p c ≡ l = ap (λ m. location_of home m c.name) (ap (λ path. process_named 0 path p.processes) (name u.0 u.1) ∙ named.processes i q at_q) in
          let points : w.places.pointers l ≡ true = ap is_some (apart.found true l (steps_of c.name) (base c.name name) ∙ (ap (option_and_then (slice_get p.cells)) (apart.whole true j c e ptr) ∙ e)) in
          let targets = changed l g.there a.store.targets in
          let a1 = with_targets a targets in
          let K' = Go BehindBlock (own w) (B r') k' in
          let plain : plain_body (B r') ≡ true = ap (λ d. plain_body (B d)) ed ∙ res.plain in
          let keep1 : Keeps w signals (Go mark' (own w) (B (Block o End r')) k') a = subst (λ d. Keeps w signals (Go mark' (own w) (B d) k') a) (sym ed) keep in
          let keep2 : Keeps w signals K' a1 = λ m. subst (IsKept w) (sym (after-blind w.places (λ f. machine.End) signals targets m K' a (plain, plain-beneath local below)).same)
          (kept-aimed targets (along w signals m K' a) (under-pop K' m (keep1 (suc m)))) in
          let dn : iter (suc n) (Go mark (own w) (B (Aim o (Declared j) t r)) k) a ≡ iter n (Go Inner (own w) (B r) k) a1 =
          (λ z. unless_stuck a (g.located z) (λ o. unless_stuck a (followed (locate (S a) (cell_left home p.cells i (e z)))) (λ l. iter n (Go Inner (own w) (B r) k) (pointed_at (w.places.pointers l) a l o))))
          ∙ ap (λ b. iter n (Go Inner (own w) (B r) k) (pointed_at b a l g.there)) points in
          let more : Sub local (lead-more local j to) = λ m x em. free-sub free to m x em in
          let stay : Stayed home p constant i q start targets = λ m em.
          changed-other l m g.there a.store.targets (λ z. let y : is_own i m.root ≡ true = sym (ap (λ l. is_own i l.root) z) ∙ own-root c i u.0 u.1 in cc) ∙ stayed m em in
          let side = ih (lead-more local j to) (Go Inner (own w) (B r) k) K' a1
          (matching_go Inner BehindBlock r r' (record { own = res.own.2; made = made; plain = plain }) (deeper local (lead-more local j to) more below))
          (known-more local a known j c u.0 to g.there e ptr u.1 here g.leads) stay keep2 in
          subst (λ d. Side (suc n) (Go mark (own w) (B (Aim o (Declared j) t r)) k) (Go mark' (own w) (B d) k') a) ed
          (subst (λ x. Beside home p constant i q start x (iter (suc n) (Go mark' (own w) (B (Block o End r')) k') a)) (sym dn)
          (subst (λ z. Beside home p constant i q start (iter n (Go Inner (own w) (B r) k) a1) z) (sym (pop Inner K' a n))
          (beside-aimed targets (iter n (Go Inner (own w) (B r) k) a1) (iter n K' a)
          (subst (λ z. Beside home p constant i q start (iter n (Go Inner (own w) (B r) k) a1) z) (iter-blind targets n K' a (plain, plain-beneath local below)).same side))))
        where
          under-pop : (K : Frames) (m : ℕ) → IsKept w (along w signals m (Go Inner (own w) machine.End K) a) → IsKept w (along w signals m K a)
          under-pop K zero k = k
          under-pop K (suc m) k = k

          free-sub : local j ≡ None → (to : Option Left) (n : ℕ) (x : Option Left) → local n ≡ Some x → (if nat_eq n j then Some to else local n) ≡ Some x
          free-sub free to n x en = test (nat_eq n j) refl
            where
              test : (b : Bool) → nat_eq n j ≡ b → (if b then Some to else local n) ≡ Some x
              test true f = let k : n ≡ j = grind arith in let y : None ≡ Some x = sym free ∙ (ap local (sym k) ∙ en) in absurd cc
              test false f = en

  -- an empty list on both sides
  popping : (n : ℕ) (mark mark' : Mark) (k k' : Frames) (a : Held) → Side n k k' a → Side n (Go mark (own w) machine.End k) (Go mark' (own w) machine.End k') a
  popping n mark mark' k k' a r = subst (λ x. Beside home p constant i q start x (iter n (Go mark' (own w) machine.End k') a)) (sym (pop mark k a n))
      (subst (λ z. Beside home p constant i q start (iter n k a) z) (sym (pop mark' k' a n)) r)

  keeps-pop : (mark : Mark) (k : Frames) (a : Held) → Keeps w signals (Go mark (own w) machine.End k) a → Keeps w signals k a
  keeps-pop mark k a keep zero = keep zero
  keeps-pop mark k a keep (suc j) = keep (suc j)

  module _ (at_q : slice_get p.processes i ≡ Some q) where
    turn : (n : ℕ) → All n → (local : Locals) (mark mark' : Mark) {k k' : Frames} (c d : Code) (a : Held) → Resolves home p constant i q local c d → Beneath home p constant i q local k k' → Knows local a
        → Stayed home p constant i q start a.store.targets → (Keeps w signals k' a → Side (suc n) k k' a) → Keeps w signals (Go mark' (own w) (B d) k') a → Side (suc n) (Go mark (own w) (B c) k) (Go mark' (own w) (B d) k') a
    turn n ih local mark mark' {k} {k'} End d a res below known stayed popped keep =
        let e : End ≡ d = made-is res.made in
        let keep1 : Keeps w signals (Go mark' (own w) machine.End k') a = subst (λ d. Keeps w signals (Go mark' (own w) (B d) k') a) (sym e) keep in
        subst (λ d. Side (suc n) (Go mark (own w) machine.End k) (Go mark' (own w) (B d) k') a) e (popping (suc n) mark mark' k k' a (popped (keeps-pop mark' k' a keep1)))
    turn n ih local mark mark' (Put o l j e r) d a res below known stayed popped keep = assigning n ih local mark mark' o l j e r d a res below known stayed keep
    turn n ih local mark mark' (Aim o (Declared j) t r) d a res below known stayed popped keep = declaring at_q n ih local mark mark' o j t r d a res below known stayed keep
    turn n ih local mark mark' (Aim o (Assigned l) t r) d a res below known stayed popped keep = absurd (stopped-not (of_assigned o (walked (lead local) false l)) d res.made)
    turn n ih local mark mark' (If o t x y r) d a res below known stayed popped keep = testing n ih local mark mark' o t x y r d a res below known stayed keep
    turn n ih local mark mark' (Block o x r) d a res below known stayed popped keep = blocking n ih local mark mark' o x r d a res below known stayed keep
    turn n ih local mark mark' (Loop o c x r) d a res below known stayed popped keep = looping n ih local mark mark' o c x r d a res below known stayed keep
    turn n ih local mark mark' (Exit o j r) d a res below known stayed popped keep = exiting n ih local mark mark' o j r d a res below known stayed keep
    turn n ih local mark mark' (Wait o l c r) d a res below known stayed popped keep = halting n local mark mark' o l c r d a res below known stayed

    ended : (n : ℕ) (local : Locals) (a : Held) → Knows local a → Stayed home p constant i q start a.store.targets → Side (suc n) Stop Stop a
    ended n local a known stayed = (local, (refl, refl), known, stayed)

    below-on : (n : ℕ) → All n → (local : Locals) {k k' : Frames} (a : Held) → Beneath home p constant i q local k k' → Knows local a → Stayed home p constant i q start a.store.targets → Keeps w signals k' a → Side (suc n) k k' a
    below-on n ih local a beneath_stop known stayed keep = ended n local a known stayed
    below-on n ih local a (beneath_go mark old c d sub r b) known stayed keep =
        let k = sub-known old local a sub known in turn n ih old mark mark c d a r b k stayed (below-on n ih old a b k stayed) keep

    pub follows : All 0 → (n : ℕ) → All n
    follows none zero local f f' a m known stayed keep = none local f f' a m known stayed keep
    follows none (suc n) local f f' a matching_stop known stayed keep = ended n local a known stayed
    follows none (suc n) local f f' a (matching_go mark mark' c d r b) known stayed keep = turn n (follows none n) local mark mark' c d a r b known stayed (below-on n (follows none n) local a b known stayed) keep
