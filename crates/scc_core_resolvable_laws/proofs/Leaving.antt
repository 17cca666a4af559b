-- Exits leave blocks that stand around them, also in what is unrolled and in what is resolved.
use Rattle.std.proofs.Common.{◌≡◌, ℕ, suc, Bool, true, false, ◌&&◌, nat_lt, List, [], ◌∷◌, map, Option, Some, None, option_map, refl, ap, ◌∙◌, subst, if◌then◌else◌}
use Rattle.scc_base.specs.declared.code.Code.TheVariants as reason
use Rattle.scc_core_spec.specs.Term.{Left, Pick, place_at}
use Rattle.scc_core_spec.specs.Code.{Code, Declared, Assigned, End, Put, Aim, If, Block, Loop, Exit, Wait}
use Rattle.scc_core_spec.specs.Counted.{Counter, Setting, Stand, First, Elsewhere, Counting, Turn, Turning, counter, counted_by, ended, behind, turning_of}
use Rattle.scc_core_spec.specs.Exits.{exits_within}
use Rattle.scc_core_spec.specs.First.{refused}
use Rattle.scc_core_spec.specs.Resolved.{Leads, Tried, Made, Stopped, and_made, made_map, resolved, walked, looked, sure}
use Rattle.scc_core_spec.specs.Unrolled.{counting_count, block_of, stepped, written_out, looped_or, unrolled}
use Rattle.scc_core_spec.specs.Unpointed.{resolved_pick, resolved_count, aimed, declares, leading, of_assigned, unpointed}
use Rattle.scc_core_spec.specs.Renumbered.{renamed_code}
use Rattle.scc_core_pass_laws.proofs.Pointless.{made-is, stopped-not, and-is, made-map-is, sure-is}
use Rattle.scc_core_resolved_laws.proofs.Bools.{and-first, and-second, and-both}

block-leaves : (d : ℕ) (c rest : Code) → exits_within d c ≡ true → exits_within d rest ≡ true → exits_within d (block_of c rest) ≡ true
block-leaves d End rest h r = r
block-leaves d (Put p l k e c) rest h r = r
block-leaves d (Aim p to t c) rest h r = r
block-leaves d (If p t a b c) rest h r = block-leaves d c rest (and-second (exits_within d b) (exits_within d c) (and-second (exits_within d a) (exits_within d b && exits_within d c) h)) r
block-leaves d (Block p b c) rest h r = and-both (exits_within (suc d) b) (exits_within d rest) (and-first (exits_within (suc d) b) (exits_within d c) h) r
block-leaves d (Loop p n b c) rest h r = r
block-leaves d (Exit p n c) rest h r = r
block-leaves d (Wait p l n c) rest h r = r

step-leaves : (d : ℕ) (t : Option Turning) (next : ℕ) (rest : Code) → exits_within d (stepped t next rest) ≡ exits_within d rest
step-leaves d None next rest = refl
step-leaves d (Some t) next rest = refl

turns-leave : (d : ℕ) (t : Option Turning) (f : Turn → Code) → ((x : Turn) → exits_within d (f x) ≡ true) → (ts : List Turn) (rest : Code) → exits_within d rest ≡ true → exits_within d (written_out t (map (λ x. (x, f x)) ts) rest) ≡ true
turns-leave d t f h [] rest r = r
turns-leave d t f h (x ∷ ts) rest r =
    let more = written_out t (map (λ x. (x, f x)) ts) rest in
    block-leaves d (f x) (stepped t x.next more) (h x) (step-leaves d t x.next more ∙ turns-leave d t f h ts rest r)

pub unrolled-leaves : (s : Setting) (ns : List Counter) (w : Stand) (d : ℕ) (c : Code) → exits_within d c ≡ true → exits_within d (unrolled s ns w c) ≡ true
unrolled-leaves s ns w d End h = refl
unrolled-leaves s ns w d (Put p l k e r) h = unrolled-leaves s ns (behind w (record { left = l; pick = k; value = e })) d r h
unrolled-leaves s ns w d (Aim p to t r) h = unrolled-leaves s ns Elsewhere d r h
unrolled-leaves s ns w d (If p t a b r) h =
    let u = and-second (exits_within d a) (exits_within d b && exits_within d r) h in
    and-both (exits_within d (unrolled s ns Elsewhere a)) (exits_within d (unrolled s ns Elsewhere b) && exits_within d (unrolled s ns Elsewhere r))
    (unrolled-leaves s ns Elsewhere d a (and-first (exits_within d a) (exits_within d b && exits_within d r) h))
    (and-both (exits_within d (unrolled s ns Elsewhere b)) (exits_within d (unrolled s ns Elsewhere r))
    (unrolled-leaves s ns Elsewhere d b (and-first (exits_within d b) (exits_within d r) u)) (unrolled-leaves s ns Elsewhere d r (and-second (exits_within d b) (exits_within d r) u)))
unrolled-leaves s ns w d (Block p b r) h = and-both (exits_within (suc d) (unrolled s ns First b)) (exits_within d (unrolled s ns Elsewhere r))
    (unrolled-leaves s ns First (suc d) b (and-first (exits_within (suc d) b) (exits_within d r) h)) (unrolled-leaves s ns Elsewhere d r (and-second (exits_within (suc d) b) (exits_within d r) h))
unrolled-leaves s ns w d (Loop p c b r) h = by (ended (counted_by s ns w c b r)) (λ ns. unrolled-leaves s ns Elsewhere d b (and-first (exits_within d b) (exits_within d r) h)) (unrolled-leaves s ns Elsewhere d r (and-second (exits_within d b) (exits_within d r) h))
  where
    by : (o : Option Counting) → ((ns : List Counter) → exits_within d (unrolled s ns Elsewhere b) ≡ true) → exits_within d (unrolled s ns Elsewhere r) ≡ true → exits_within d (looped_or o
        (λ g. written_out (turning_of b) (map (λ x. (x, unrolled s (counter g.cell x.now ∷ ns) Elsewhere b)) g.turns.list) (unrolled s ns Elsewhere r))
        (Loop p (option_map (counting_count ns) c) (unrolled s ns Elsewhere b) (unrolled s ns Elsewhere r))) ≡ true
    by None body rest = and-both (exits_within d (unrolled s ns Elsewhere b)) (exits_within d (unrolled s ns Elsewhere r)) (body ns) rest
    by (Some g) body rest = turns-leave d (turning_of b) (λ x. unrolled s (counter g.cell x.now ∷ ns) Elsewhere b) (λ x. body (counter g.cell x.now ∷ ns)) g.turns.list (unrolled s ns Elsewhere r) rest
unrolled-leaves s ns w d (Exit p n r) h = and-both (nat_lt n d) (exits_within d (unrolled s ns Elsewhere r)) (and-first (nat_lt n d) (exits_within d r) h) (unrolled-leaves s ns Elsewhere d r (and-second (nat_lt n d) (exits_within d r) h))
unrolled-leaves s ns w d (Wait p l n r) h = unrolled-leaves s ns Elsewhere d r h

-- what is resolved leaves what was left
module _ where
  abbrev Leaves : ℕ → Code → Type 0
  Leaves n d = exits_within n d ≡ true

  pub unpointed-leaves : (s : Leads) (n : ℕ) (c d : Code) → unpointed s c ≡ Made d → exits_within n c ≡ true → Leaves n d
  unpointed-leaves s n End d e h = subst (Leaves n) (made-is e) refl
  unpointed-leaves s n (Put o l j e r) d g h =
      let f : Left → Pick → Tried Code = λ l k. and_made (resolved s e) (λ e. made_map (Put o l k e) (unpointed s r)) in
      let a1 = and-is (walked s false l) (λ u. sure (place_at l) u (λ m. and_made (resolved_pick s j) (λ k. and_made (looked s m) (λ m. f m k)))) d g in
      let b1 = sure-is (place_at l) a1.0 (λ m. and_made (resolved_pick s j) (λ k. and_made (looked s m) (λ m. f m k))) d a1.2 in
      let c1 = and-is (resolved_pick s j) (λ k. and_made (looked s b1.0) (λ m. f m k)) d b1.2 in
      let d1 = and-is (looked s b1.0) (λ m. f m c1.0) d c1.2 in
      let e1 = and-is (resolved s e) (λ e. made_map (Put o d1.0 c1.0 e) (unpointed s r)) d d1.2 in
      let f1 = made-map-is (Put o d1.0 c1.0 e1.0) (unpointed s r) d e1.2 in
      subst (Leaves n) f1.2 (unpointed-leaves s n r f1.0 f1.1 h)
  unpointed-leaves s n (Aim o (Declared j) t r) d g h =
      let y = and-is (aimed s t) (λ u. if declares s j then made_map (Block o End) (unpointed (leading s j u) r) else Stopped (refused reason.PointerAssigned o)) d g in
      by y.0 (declares s j) y.2 (λ u d e. unpointed-leaves (leading s j u) n r d e h)
    where
      by : (u : Option Left) (b : Bool) → (if b then made_map (Block o End) (unpointed (leading s j u) r) else Stopped (refused reason.PointerAssigned o)) ≡ Made d
          → ((u : Option Left) (d : Code) → unpointed (leading s j u) r ≡ Made d → Leaves n d) → Leaves n d
      by u true e ih = let z = made-map-is (Block o End) (unpointed (leading s j u) r) d e in subst (Leaves n) z.2 (ih u z.0 z.1)
      by u false e ih = absurd (stopped-not (refused reason.PointerAssigned o) d e)
  unpointed-leaves s n (Aim o (Assigned l) t r) d g h = absurd (stopped-not (of_assigned o (walked s false l)) d g)
  unpointed-leaves s n (If o t x y r) d g h =
      let a1 = and-is (resolved s t) (λ t. and_made (unpointed s x) (λ a. and_made (unpointed s y) (λ b. made_map (If o t a b) (unpointed s r)))) d g in
      let b1 = and-is (unpointed s x) (λ a. and_made (unpointed s y) (λ b. made_map (If o a1.0 a b) (unpointed s r))) d a1.2 in
      let c1 = and-is (unpointed s y) (λ b. made_map (If o a1.0 b1.0 b) (unpointed s r)) d b1.2 in
      let d1 = made-map-is (If o a1.0 b1.0 c1.0) (unpointed s r) d c1.2 in
      let u = and-second (exits_within n x) (exits_within n y && exits_within n r) h in
      subst (Leaves n) d1.2 (and-both (exits_within n b1.0) (exits_within n c1.0 && exits_within n d1.0) (unpointed-leaves s n x b1.0 b1.1 (and-first (exits_within n x) (exits_within n y && exits_within n r) h))
      (and-both (exits_within n c1.0) (exits_within n d1.0) (unpointed-leaves s n y c1.0 c1.1 (and-first (exits_within n y) (exits_within n r) u)) (unpointed-leaves s n r d1.0 d1.1 (and-second (exits_within n y) (exits_within n r) u))))
  unpointed-leaves s n (Block o x r) d g h =
      let a1 = and-is (unpointed s x) (λ b. made_map (Block o b) (unpointed s r)) d g in
      let d1 = made-map-is (Block o a1.0) (unpointed s r) d a1.2 in
      subst (Leaves n) d1.2 (and-both (exits_within (suc n) a1.0) (exits_within n d1.0) (unpointed-leaves s (suc n) x a1.0 a1.1 (and-first (exits_within (suc n) x) (exits_within n r) h)) (unpointed-leaves s n r d1.0 d1.1 (and-second (exits_within (suc n) x) (exits_within n r) h)))
  unpointed-leaves s n (Loop o c x r) d g h =
      let a1 = and-is (unpointed s x) (λ b. made_map (Loop o (option_map (resolved_count s) c) b) (unpointed s r)) d g in
      let d1 = made-map-is (Loop o (option_map (resolved_count s) c) a1.0) (unpointed s r) d a1.2 in
      subst (Leaves n) d1.2 (and-both (exits_within n a1.0) (exits_within n d1.0) (unpointed-leaves s n x a1.0 a1.1 (and-first (exits_within n x) (exits_within n r) h)) (unpointed-leaves s n r d1.0 d1.1 (and-second (exits_within n x) (exits_within n r) h)))
  unpointed-leaves s n (Exit o j r) d g h =
      let d1 = made-map-is (Exit o j) (unpointed s r) d g in
      subst (Leaves n) d1.2 (and-both (nat_lt j n) (exits_within n d1.0) (and-first (nat_lt j n) (exits_within n r) h) (unpointed-leaves s n r d1.0 d1.1 (and-second (nat_lt j n) (exits_within n r) h)))
  unpointed-leaves s n (Wait o l c r) d g h = let d1 = made-map-is (Wait o l c) (unpointed s r) d g in subst (Leaves n) d1.2 (unpointed-leaves s n r d1.0 d1.1 h)

-- other numbers of cells leave exits as they are
pub renamed-leaves : (f : ℕ → ℕ) (n : ℕ) (c : Code) → exits_within n (renamed_code f c) ≡ exits_within n c
renamed-leaves f n End = refl
renamed-leaves f n (Put p l k e r) = renamed-leaves f n r
renamed-leaves f n (Aim p to t r) = renamed-leaves f n r
renamed-leaves f n (If p t a b r) = λ z. renamed-leaves f n a z && (renamed-leaves f n b z && renamed-leaves f n r z)
renamed-leaves f n (Block p b r) = λ z. renamed-leaves f (suc n) b z && renamed-leaves f n r z
renamed-leaves f n (Loop p c b r) = λ z. renamed-leaves f n b z && renamed-leaves f n r z
renamed-leaves f n (Exit p j r) = ap (λ b. nat_lt j n && b) (renamed-leaves f n r)
renamed-leaves f n (Wait p l c r) = renamed-leaves f n r
