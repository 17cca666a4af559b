-- Where nothing opens there is no wait, and statements stand in a segment as they are.
use Rattle.std.proofs.Common.{◌≡◌, ℕ, suc, ◌+◌, Bool, true, false, ◌||◌, List, [], ◌∷◌, ◌++◌, refl, sym, ap, ◌∙◌, arith}
use Rattle.std.specs.Prelude.{not, nat_lt, Option}
use Rattle.scc_base.specs.declared.refusal.Place.{Place}
use Rattle.scc_core_spec.specs.Term.{Term}
use Rattle.scc_core_spec.specs.Code.{Code, Count, End, Put, Aim, If, Block, Loop, Exit, Wait, waits_in, numbered}
use Rattle.scc_core_spec.specs.Segments.{Segment, Plain, Test, Finish, opens, opened, segment, segments}

pub or_parts : (a b : Bool) → (a || b) ≡ false → (a ≡ false) × (b ≡ false)
or_parts true b h = absurd cc
or_parts false b h = (refl, h)

pub opens-numbered : (c : Code) (d n : ℕ) → opens d (numbered n c) ≡ opens d c
opens-numbered End d n = refl
opens-numbered (Put p l k e r) d n = opens-numbered r d n
opens-numbered (Aim p to t r) d n = opens-numbered r d n
opens-numbered (If p t a b r) d n =
    let ea = opens-numbered a d n in
    let eb = opens-numbered b d (n + waits_in a) in
    let er = opens-numbered r d (n + (waits_in a + waits_in b)) in
    cc
opens-numbered (Block p b r) d n = let eb = opens-numbered b (suc d) n in let er = opens-numbered r d (n + waits_in b) in cc
opens-numbered (Loop p c b r) d n = let eb = opens-numbered b d n in let er = opens-numbered r d (n + waits_in b) in cc
opens-numbered (Exit p e r) d n = let er = opens-numbered r d n in cc
opens-numbered (Wait p l c r) d n = refl

-- no wait stands where nothing opens
pub no_waits : (c : Code) (d : ℕ) → opens d c ≡ false → waits_in c ≡ 0
no_waits End d h = refl
no_waits (Put p l k e r) d h = no_waits r d h
no_waits (Aim p to t r) d h = no_waits r d h
no_waits (If p t a b r) d h =
    let ha = or_parts (opens d a) (opens d b || opens d r) h in
    let hb = or_parts (opens d b) (opens d r) ha.1 in
    omega (arith, no_waits a d ha.0, no_waits b d hb.0, no_waits r d hb.1)
no_waits (Block p b r) d h =
    let hb = or_parts (opens (suc d) b) (opens d r) h in
    omega (arith, no_waits b (suc d) hb.0, no_waits r d hb.1)
no_waits (Loop p n b r) d h =
    let hb = or_parts (opens d b) (opens d r) h in
    omega (arith, no_waits b d hb.0, no_waits r d hb.1)
no_waits (Exit p n r) d h = no_waits r d (or_parts (not (nat_lt n d)) (opens d r) h).1
no_waits (Wait p l n r) d h = absurd cc

pub unnumbered : (c : Code) (d n : ℕ) → opens d c ≡ false → numbered n c ≡ c
unnumbered End d n h = refl
unnumbered (Put p l k e r) d n h = ap (Put p l k e) (unnumbered r d n h)
unnumbered (Aim p to t r) d n h = ap (Aim p to t) (unnumbered r d n h)
unnumbered (If p t a b r) d n h =
    let ha = or_parts (opens d a) (opens d b || opens d r) h in
    let hb = or_parts (opens d b) (opens d r) ha.1 in
    ap (λ x. If p t x (numbered (n + waits_in a) b) (numbered (n + (waits_in a + waits_in b)) r)) (unnumbered a d n ha.0)
    ∙ ap (λ x. If p t a x (numbered (n + (waits_in a + waits_in b)) r)) (unnumbered b d (n + waits_in a) hb.0)
    ∙ ap (If p t a b) (unnumbered r d (n + (waits_in a + waits_in b)) hb.1)
unnumbered (Block p b r) d n h =
    let hb = or_parts (opens (suc d) b) (opens d r) h in
    ap (λ x. Block p x (numbered (n + waits_in b) r)) (unnumbered b (suc d) n hb.0)
    ∙ ap (Block p b) (unnumbered r d (n + waits_in b) hb.1)
unnumbered (Loop p c b r) d n h =
    let hb = or_parts (opens d b) (opens d r) h in
    ap (λ x. Loop p c x (numbered (n + waits_in b) r)) (unnumbered b d n hb.0)
    ∙ ap (Loop p c b) (unnumbered r d (n + waits_in b) hb.1)
unnumbered (Exit p e r) d n h = ap (Exit p e) (unnumbered r d n (or_parts (not (nat_lt e d)) (opens d r) h).1)
unnumbered (Wait p l c r) d n h = absurd cc

-- nothing stands behind a wait where there is none
pub none_behind : (c : Code) (d : ℕ) (x : Segment) (o : List Segment) → opens d c ≡ false → segments c x o ≡ []
none_behind End d x o h = refl
none_behind (Put p l k e r) d x o h = none_behind r d x o h
none_behind (Aim p to t r) d x o h = none_behind r d x o h
none_behind (If p t a b r) d x o h =
    let ha = or_parts (opens d a) (opens d b || opens d r) h in
    let hb = or_parts (opens d b) (opens d r) ha.1 in
    let rest = segment r x o in
    ap (λ l. l ++ (segments b rest o ++ segments r x o)) (none_behind a d rest o ha.0)
    ∙ ap (λ l. l ++ segments r x o) (none_behind b d rest o hb.0)
    ∙ none_behind r d x o hb.1
none_behind (Block p b r) d x o h =
    let hb = or_parts (opens (suc d) b) (opens d r) h in
    let rest = segment r x o in
    ap (λ l. l ++ segments r x o) (none_behind b (suc d) rest (rest ∷ o) hb.0) ∙ none_behind r d x o hb.1
none_behind (Loop p n b r) d x o h =
    let hb = or_parts (opens d b) (opens d r) h in
    ap (λ l. l ++ segments r x o) (none_behind b d (segment (Loop p n b r) x o) o hb.0) ∙ none_behind r d x o hb.1
none_behind (Exit p n r) d x o h = none_behind r d x o (or_parts (not (nat_lt n d)) (opens d r) h).1
none_behind (Wait p l n r) d x o h = absurd cc

-- a statement's code that opens nothing: its numbers, its segment and what stands behind its waits
same_number : (n a b : ℕ) → a ≡ 0 → b ≡ 0 → n + (a + b) ≡ n
same_number n a b h i = omega (arith, h, i)

one_number : (n a : ℕ) → a ≡ 0 → n + a ≡ n
one_number n a h = omega (arith, h)

pub if_alone : (p : Place) (t : Term) (a b c : Code) (n : ℕ) (x : Segment) (o : List Segment) → opens 0 (If p t a b End) ≡ false
    → segment (numbered n (If p t a b c)) x o ≡ Plain (If p t a b End) (segment (numbered n c) x o)
if_alone p t a b c n x o h =
    let ha = or_parts (opens 0 a) (opens 0 b || false) h in
    let hb = or_parts (opens 0 b) false ha.1 in
    ap (λ m. segment (If p t (numbered n a) (numbered (n + waits_in a) b) (numbered m c)) x o) (same_number n (waits_in a) (waits_in b) (no_waits a 0 ha.0) (no_waits b 0 hb.0))
    ∙ ap (λ y. segment (If p t y (numbered (n + waits_in a) b) (numbered n c)) x o) (unnumbered a 0 n ha.0)
    ∙ ap (λ y. segment (If p t a y (numbered n c)) x o) (unnumbered b 0 (n + waits_in a) hb.0)
    ∙ ap (λ q. opened q (Test p t (segment a (segment (numbered n c) x o) o) (segment b (segment (numbered n c) x o) o)) (Plain (If p t a b End) (segment (numbered n c) x o))) h

pub if_behind : (p : Place) (t : Term) (a b c : Code) (n : ℕ) (x : Segment) (o : List Segment) → opens 0 (If p t a b End) ≡ false
    → segments (numbered n (If p t a b c)) x o ≡ segments (numbered n c) x o
if_behind p t a b c n x o h =
    let ha = or_parts (opens 0 a) (opens 0 b || false) h in
    let hb = or_parts (opens 0 b) false ha.1 in
    let m = n + (waits_in a + waits_in b) in
    let rest = segment (numbered m c) x o in
    ap (λ l. l ++ (segments (numbered (n + waits_in a) b) rest o ++ segments (numbered m c) x o)) (none_behind (numbered n a) 0 rest o (opens-numbered a 0 n ∙ ha.0))
    ∙ ap (λ l. l ++ segments (numbered m c) x o) (none_behind (numbered (n + waits_in a) b) 0 rest o (opens-numbered b 0 (n + waits_in a) ∙ hb.0))
    ∙ ap (λ k. segments (numbered k c) x o) (same_number n (waits_in a) (waits_in b) (no_waits a 0 ha.0) (no_waits b 0 hb.0))

pub block_alone : (p : Place) (b c : Code) (n : ℕ) (x : Segment) (o : List Segment) → opens 0 (Block p b End) ≡ false
    → segment (numbered n (Block p b c)) x o ≡ Plain (Block p b End) (segment (numbered n c) x o)
block_alone p b c n x o h =
    let hb = or_parts (opens 1 b) false h in
    ap (λ m. segment (Block p (numbered n b) (numbered m c)) x o) (one_number n (waits_in b) (no_waits b 1 hb.0))
    ∙ ap (λ y. segment (Block p y (numbered n c)) x o) (unnumbered b 1 n hb.0)
    ∙ ap (λ q. opened q (segment b (segment (numbered n c) x o) (segment (numbered n c) x o ∷ o)) (Plain (Block p b End) (segment (numbered n c) x o))) h

pub block_behind : (p : Place) (b c : Code) (n : ℕ) (x : Segment) (o : List Segment) → opens 0 (Block p b End) ≡ false
    → segments (numbered n (Block p b c)) x o ≡ segments (numbered n c) x o
block_behind p b c n x o h =
    let hb = or_parts (opens 1 b) false h in
    let m = n + waits_in b in
    let rest = segment (numbered m c) x o in
    ap (λ l. l ++ segments (numbered m c) x o) (none_behind (numbered n b) 1 rest (rest ∷ o) (opens-numbered b 1 n ∙ hb.0))
    ∙ ap (λ k. segments (numbered k c) x o) (one_number n (waits_in b) (no_waits b 1 hb.0))

pub loop_alone : (p : Place) (k : Option Count) (b c : Code) (n : ℕ) (x : Segment) (o : List Segment) → opens 0 (Loop p k b End) ≡ false
    → segment (numbered n (Loop p k b c)) x o ≡ Plain (Loop p k b End) (segment (numbered n c) x o)
loop_alone p k b c n x o h =
    let hb = or_parts (opens 0 b) false h in
    ap (λ m. segment (Loop p k (numbered n b) (numbered m c)) x o) (one_number n (waits_in b) (no_waits b 0 hb.0))
    ∙ ap (λ y. segment (Loop p k y (numbered n c)) x o) (unnumbered b 0 n hb.0)
    ∙ ap (λ q. opened q (segment b Finish o) (Plain (Loop p k b End) (segment (numbered n c) x o))) h

pub loop_behind : (p : Place) (k : Option Count) (b c : Code) (n : ℕ) (x : Segment) (o : List Segment) → opens 0 (Loop p k b End) ≡ false
    → segments (numbered n (Loop p k b c)) x o ≡ segments (numbered n c) x o
loop_behind p k b c n x o h =
    let hb = or_parts (opens 0 b) false h in
    let m = n + waits_in b in
    ap (λ l. l ++ segments (numbered m c) x o) (none_behind (numbered n b) 0 (segment (numbered n (Loop p k b c)) x o) o (opens-numbered b 0 n ∙ hb.0))
    ∙ ap (λ j. segments (numbered j c) x o) (one_number n (waits_in b) (no_waits b 0 hb.0))

-- one that opens
pub if_open : (p : Place) (t : Term) (a b : Code) (n : ℕ) → opens 0 (If p t a b End) ≡ true
    → opens 0 (If p t (numbered n a) (numbered (n + waits_in a) b) End) ≡ true
if_open p t a b n h =
    ap (λ q. q || (opens 0 (numbered (n + waits_in a) b) || false)) (opens-numbered a 0 n)
    ∙ ap (λ q. opens 0 a || (q || false)) (opens-numbered b 0 (n + waits_in a)) ∙ h

pub block_open : (p : Place) (b : Code) (n : ℕ) → opens 0 (Block p b End) ≡ true → opens 0 (Block p (numbered n b) End) ≡ true
block_open p b n h = ap (λ q. q || false) (opens-numbered b 1 n) ∙ h

pub loop_open : (p : Place) (k : Option Count) (b : Code) (n : ℕ) → opens 0 (Loop p k b End) ≡ true → opens 0 (Loop p k (numbered n b) End) ≡ true
loop_open p k b n h = ap (λ q. q || false) (opens-numbered b 0 n) ∙ h
