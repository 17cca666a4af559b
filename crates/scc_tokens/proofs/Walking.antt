-- The walk over a file, step by step.
use Rattle.std.proofs.Common.{◌≡◌, ◌<◌, ◌≤◌, ℕ, zero, suc, ◌+◌, ◌-◌, List, [], ◌∷◌, ◌++◌, length, drop, Option, Some, None, Result, Ok, Err, slice_get, refl, sym, ap, ◌∙◌, append_assoc, append-nil, length-append, arith}
use Rattle.std.proofs.lemmas.List.{drop-drop, length-drop}
use Rattle.scc_base.specs.Outside.{Shelf}
use Rattle.scc_tokens.specs.Files.{HoldsAll, FilesSay, HasRoom, Gains, Moves, AnswersIn}
use Rattle.scc_tokens_directives.specs.Steps.{Stopped, Refuses, Absent}
use Rattle.scc_tokens.specs.Walk.{Full, Inside, in_file, at_file, tokens_of, tokens_at, step_taken, Stepped, walk_on, walk_behind, file_walked, then_by}
use Rattle.scc_tokens_directives.specs.declared.directive.Words.{Words}
use Rattle.scc_tokens_directives.specs.declared.file.File.{File}
use Rattle.scc_tokens_directives.specs.declared.file.Source.{Source}
use Rattle.scc_tokens_directives.specs.declared.halt.Halt.{Halt}
use Rattle.scc_tokens_directives.specs.declared.halt.Halt.TheVariants as halt
use Rattle.scc_tokens_directives.specs.declared.sides.Side.{Side}
use Rattle.scc_tokens_lexer.specs.declared.token.Token.{Token}
use Rattle.scc_tokens.specs.declared.walk.Joining.{Joining}
use Rattle.scc_tokens_lexer.proofs.Scanning.{keeps_same, keeps_more}
use Rattle.scc_tokens.proofs.Shelving.{reads_same, reads_then}
use Rattle.scc_tokens_lexer.proofs.Spelling.{get_kept}

abbrev pub Gone : Type 0
Gone = Full × Result (Unit {0}) Stopped

-- ---- what the files say, over calls one after another

pub says_then : (a b c : Option Shelf) (m n k f g h : ℕ) (e : Option Halt) → FilesSay a b m n f g None → FilesSay b c n k g h e → FilesSay a c m k f h e
says_then a b c m n k f g h e p q =
    let pm = p.misses in let pf = p.faults in let qm = q.misses in let qf = q.faults in
    record {
      kept = q.kept ∙ p.kept;
      misses = omega arith;
      faults = omega arith;
      missing = λ x y. let r = q.missing x y in omega arith;
      absent = λ x y shelf is. q.absent x y shelf (p.kept ∙ is);
      failed = λ x y. let r = q.failed x y in omega arith;
    }

pub moves_then : (a b c : Option Shelf) (m n k f g h : ℕ) (n0 n1 n2 : List (List ℕ)) (s0 s1 s2 : List Source) (k0 k1 k2 : List File) (e : Option Halt)
    → Moves a b m n f g n0 n1 s0 s1 k0 k1 None → Moves b c n k g h n1 n2 s1 s2 k1 k2 e → Moves a c m k f h n0 n2 s0 s2 k0 k2 e
moves_then a b c m n k f g h n0 n1 n2 s0 s1 s2 k0 k1 k2 e p q =
    let pm = p.more in let qm = q.more in
    record {
      keeps = keeps_more n0 n1 n2 p.keeps q.keeps;
      reads = reads_then s0 s1 s2 p.reads q.reads;
      grows = (p.grows.0 ++ q.grows.0, q.grows.1 ∙ ap (λ l. l ++ q.grows.0) p.grows.1 ∙ append_assoc k0 p.grows.0 q.grows.0);
      more = omega arith;
      told = λ t. q.told (p.told t);
      says = says_then a b c m n k f g h e p.says q.says;
      unread = q.unread;
    }

pub moves_none : (a : Option Shelf) (m f : ℕ) (names : List (List ℕ)) (src : List Source) (known : List File) → Moves a a m m f f names names src src known known None
moves_none a m f names src known = record {
  keeps = keeps_same names;
  reads = reads_same src;
  grows = ([], sym (append-nil known));
  more = omega arith;
  told = λ t. t;
  says = record { kept = refl; misses = omega arith; faults = omega arith; missing = λ n e. cc; absent = λ n e. cc; failed = λ n e. cc };
  unread = tt;
}

-- ---- the walk

pub behind_drop : (inner : ℕ → Full → Gone) (shelf : Shelf) (w : Words) (number below n : ℕ) (ts : List Token) (x : Inside)
    → walk_behind inner shelf w number below n ts x ≡ walk_behind inner shelf w number below 0 (drop n ts) x
unfolding walk_behind
behind_drop inner shelf w number below zero ts x = refl
behind_drop inner shelf w number below (suc n) [] x = refl
behind_drop inner shelf w number below (suc n) (t ∷ ts) x = behind_drop inner shelf w number below n ts x

pub walked_is : (shelf : Shelf) (w : Words) (below number : ℕ) (f : Full)
    → file_walked shelf w (below + 1) number f ≡ walk_behind (file_walked shelf w below) shelf w number below 0 (tokens_of f.asked.known number) (in_file [] f)
unfolding file_walked
walked_is shelf w below number f = let n : below + 1 ≡ suc below = omega arith in ap (λ k. file_walked shelf w k number f) n

pub walk_ends : (inner : ℕ → Full → Gone) (shelf : Shelf) (w : Words) (number below i : ℕ) (ts : List Token) (x : Inside) → length ts ≤ i → walk_behind inner shelf w number below 0 (drop i ts) x ≡ (at_file x, Ok tt)
unfolding walk_behind
walk_ends inner shelf w number below i ts x h = by (drop i ts) (omega (arith, length-drop i ts))
  where
    by : (rest : List Token) → length rest ≡ 0 → walk_behind inner shelf w number below 0 rest x ≡ (at_file x, Ok tt)
    by [] e = refl
    by (t ∷ rest) e = absurd (omega arith)

-- a step, and the walk behind it
pub walk_step : (inner : ℕ → Full → Gone) (shelf : Shelf) (w : Words) (number below i : ℕ) (ts : List Token) (x : Inside) → i < length ts
    → walk_behind inner shelf w number below 0 (drop i ts) x
    ≡ walk_on inner (step_taken shelf w number below (drop i ts) x) (λ n y. walk_behind inner shelf w number below 0 (drop (i + 1 + n) ts) y)
unfolding walk_behind
walk_step inner shelf w number below i ts x h = by (drop i ts) refl
  where
    step_of : List Token → Inside × Result Stepped Stopped
    step_of rest = step_taken shelf w number below rest x

    by : (rest : List Token) → drop i ts ≡ rest
        → walk_behind inner shelf w number below 0 rest x ≡ walk_on inner (step_of rest) (λ n y. walk_behind inner shelf w number below 0 (drop (i + 1 + n) ts) y)
    by [] e = absurd (omega (arith, length-drop i ts, ap length e))
    by (t ∷ rest) e = same (step_of (t ∷ rest))
      where
        tail : (n : ℕ) → drop n rest ≡ drop (i + 1 + n) ts
        tail n =
            let one : drop 1 (drop i ts) ≡ rest = ap (drop 1) e in
            ap (drop n) (sym one ∙ drop-drop 1 i ts) ∙ drop-drop n (i + 1) ts

        tails : (n : ℕ) (y : Inside) → walk_behind inner shelf w number below n rest y ≡ walk_behind inner shelf w number below 0 (drop (i + 1 + n) ts) y
        tails n y = behind_drop inner shelf w number below n rest y ∙ ap (λ l. walk_behind inner shelf w number below 0 l y) (tail n)

        same : (r : Inside × Result Stepped Stopped) → walk_on inner r (λ n y. walk_behind inner shelf w number below n rest y) ≡ walk_on inner r (λ n y. walk_behind inner shelf w number below 0 (drop (i + 1 + n) ts) y)
        same r = ap (walk_on inner r) (λ j n y. tails n y j)

tokens_stay : (known known' : List File) (number : ℕ) → Gains known known' → number < length known → tokens_of known' number ≡ tokens_of known number
tokens_stay known known' number g h = by (slice_get known number) refl
  where
    by : (o : Option File) → slice_get known number ≡ o → tokens_at (slice_get known' number) ≡ tokens_at (slice_get known number)
    by None e = absurd (omega (arith, past known number e))
      where
        past : (xs : List File) (k : ℕ) → slice_get xs k ≡ None → length xs ≤ k
        past [] k e = omega arith
        past (x ∷ xs) zero e = cc
        past (x ∷ xs) (suc k) e = let r = past xs k e in omega arith
    by (Some f) e = ap tokens_at (ap (λ l. slice_get l number) g.1 ∙ get_kept known g.0 number f e ∙ sym e)

abbrev pub full : Joining → List File → List Source → List (List ℕ) → Full
full st known src names = record { state = st; asked = record { known = known; sources = src; names = names } }

abbrev pub inside : Joining → List File → List Source → List (List ℕ) → List Side → Inside
inside st known src names sides = record { state = st; asked = record { known = known; sources = src; names = names }; sides = sides }

-- the walk so far
pub record Going (w : Words) (number below count i : ℕ) (o0 o : Option Shelf) (m0 m f0 f : ℕ) (n0 n : List (List ℕ)) (s0 s : List Source) (k0 k : List File) (t0 t : Joining) (sides : List Side) : Type 0 where
  pub moves : Moves o0 o m0 m f0 f n0 n s0 s k0 k None
  pub room : HasRoom n s k
  pub few : length s < 130
  pub known : number < length k0
  pub count_is : count ≡ length (tokens_of k0 number)
  pub left : (shelf : Shelf) → HoldsAll shelf s → walk_behind (file_walked shelf w below) shelf w number below 0 (drop i (tokens_of k0 number)) (inside t k s n sides) ≡ file_walked shelf w (below + 1) number (full t0 k0 s0 n0)

pub going_begins : (w : Words) (number below count : ℕ) (o : Option Shelf) (m f : ℕ) (n : List (List ℕ)) (s : List Source) (k : List File) (t : Joining) (sides : List Side)
    → HasRoom n s k → length s < 130 → number < length k → count ≡ length (tokens_of k number) → sides ≡ [] → Going w number below count 0 o o m m f f n n s s k k t t sides
going_begins w number below count o m f n s k t sides room few known count_is e = record {
  moves = moves_none o m f n s k;
  room = room;
  few = few;
  known = known;
  count_is = count_is;
  left = λ shelf holds. ap (λ x. walk_behind (file_walked shelf w below) shelf w number below 0 (tokens_of k number) (inside t k s n x)) e ∙ sym (walked_is shelf w below number (full t k s n));
}

-- what a step needs
pub record Ready (s : List Source) (n : List (List ℕ)) (k : List File) (number i : ℕ) : Type 0 where
  pub room : HasRoom n s k
  pub few : length s < 130
  pub number_is : number < length k
  pub token_is : i < length (tokens_of k number)

pub going_ready : {w : Words} {number below count i : ℕ} {o0 o : Option Shelf} {m0 m f0 f : ℕ} {n0 n : List (List ℕ)} {s0 s : List Source} {k0 k : List File} {t0 t : Joining} {sides : List Side}
    → Going w number below count i o0 o m0 m f0 f n0 n s0 s k0 k t0 t sides → i < count → Ready s n k number i
going_ready {number = number} {count = count} {i = i} {k0 = k0} {k = k} g h =
    let gains = g.moves.grows in
    let longer : length k ≡ length k0 + length gains.0 = ap length gains.1 ∙ length-append k0 gains.0 in
    let same = tokens_stay k0 k number g.moves.grows g.known in
    let inside_known = g.known in
    let count_is = g.count_is in
    record { room = g.room; few = g.few; number_is = omega arith; token_is = omega (arith, ap length same) }

-- the step at this place, in the tokens that the file has
step_here : {w : Words} {number below count i : ℕ} {o0 o : Option Shelf} {m0 m f0 f : ℕ} {n0 n : List (List ℕ)} {s0 s : List Source} {k0 k : List File} {t0 t : Joining} {sides : List Side}
    → (g : Going w number below count i o0 o m0 m f0 f n0 n s0 s k0 k t0 t sides) → i < count → (shelf : Shelf) → HoldsAll shelf s → (r : Inside × Result Stepped Stopped)
    → step_taken shelf w number below (drop i (tokens_of k number)) (inside t k s n sides) ≡ r
    → walk_on (file_walked shelf w below) r (λ j y. walk_behind (file_walked shelf w below) shelf w number below 0 (drop (i + 1 + j) (tokens_of k0 number)) y) ≡ file_walked shelf w (below + 1) number (full t0 k0 s0 n0)
step_here {w} {number} {below} {count} {i} {n = n} {s = s} {k0 = k0} {k = k} {t = t} {sides = sides} g h shelf holds r e =
    let same = tokens_stay k0 k number g.moves.grows g.known in
    let count_is = g.count_is in
    let here : step_taken shelf w number below (drop i (tokens_of k0 number)) (inside t k s n sides) ≡ r =
    ap (λ l. step_taken shelf w number below (drop i l) (inside t k s n sides)) (sym same) ∙ e in
    ap (λ x. walk_on (file_walked shelf w below) x (λ j y. walk_behind (file_walked shelf w below) shelf w number below 0 (drop (i + 1 + j) (tokens_of k0 number)) y)) (sym here)
    ∙ sym (walk_step (file_walked shelf w below) shelf w number below i (tokens_of k0 number) (inside t k s n sides) (omega arith)) ∙ g.left shelf holds

-- a step that includes nothing
pub going_next : {w : Words} {number below count i : ℕ} {o0 o : Option Shelf} {m0 m f0 f : ℕ} {n0 n : List (List ℕ)} {s0 s : List Source} {k0 k : List File} {t0 t : Joining} {sides : List Side}
    → Going w number below count i o0 o m0 m f0 f n0 n s0 s k0 k t0 t sides → i < count
    → (o1 : Option Shelf) (m1 f1 : ℕ) (n1 : List (List ℕ)) (s1 : List Source) (k1 : List File) (t1 : Joining) (sides1 : List Side) (taken : ℕ)
    → Moves o o1 m m1 f f1 n n1 s s1 k k1 None → HasRoom n1 s1 k1 → 0 < taken
    → ((shelf : Shelf) → HoldsAll shelf s1 → step_taken shelf w number below (drop i (tokens_of k number)) (inside t k s n sides) ≡ (inside t1 k1 s1 n1 sides1, Ok (taken, None)))
    → Going w number below count (i + taken) o0 o1 m0 m1 f0 f1 n0 n1 s0 s1 k0 k1 t0 t1 sides1
going_next {w} {number} {below} {count} {i} {o0} {o} {m0} {m} {f0} {f} {n0} {n} {s0} {s} {k0} {k} {t0} {t} {sides} g h o1 m1 f1 n1 s1 k1 t1 sides1 taken moves room some value =
    let few = g.few in let more = moves.more in
    record {
      moves = moves_then o0 o o1 m0 m m1 f0 f f1 n0 n n1 s0 s s1 k0 k k1 None g.moves moves;
      room = room;
      few = omega arith;
      known = g.known;
      count_is = g.count_is;
      left = λ shelf holds.
          ap (λ j. walk_behind (file_walked shelf w below) shelf w number below 0 (drop j (tokens_of k0 number)) (inside t1 k1 s1 n1 sides1)) (at i taken some)
          ∙ step_here g h shelf (moves.reads.earlier shelf holds) (inside t1 k1 s1 n1 sides1, Ok (taken, None)) (value shelf holds);
    }
  where
    at : (a b : ℕ) → 0 < b → a + b ≡ a + 1 + (b - 1)
    at a b h = omega arith

-- a step that includes a file
pub going_inside : {w : Words} {number below count i : ℕ} {o0 o : Option Shelf} {m0 m f0 f : ℕ} {n0 n : List (List ℕ)} {s0 s : List Source} {k0 k : List File} {t0 t : Joining} {sides : List Side}
    → Going w number below count i o0 o m0 m f0 f n0 n s0 s k0 k t0 t sides → i < count
    → (o1 o2 : Option Shelf) (m1 m2 f1 f2 : ℕ) (n1 n2 : List (List ℕ)) (s1 s2 : List Source) (k1 k2 : List File) (t1 t2 : Joining) (sides1 : List Side) (taken inner : ℕ)
    → Moves o o1 m m1 f f1 n n1 s s1 k k1 None → Moves o1 o2 m1 m2 f1 f2 n1 n2 s1 s2 k1 k2 None → HasRoom n2 s2 k2 → 0 < taken → 0 < below
    → ((shelf : Shelf) → HoldsAll shelf s1 → step_taken shelf w number below (drop i (tokens_of k number)) (inside t k s n sides) ≡ (inside t1 k1 s1 n1 sides1, Ok (taken, Some inner)))
    → ((shelf : Shelf) → HoldsAll shelf s2 → file_walked shelf w (below - 1 + 1) inner (full t1 k1 s1 n1) ≡ (full t2 k2 s2 n2, Ok tt))
    → Going w number below count (i + taken) o0 o2 m0 m2 f0 f2 n0 n2 s0 s2 k0 k2 t0 t2 sides1
going_inside {w} {number} {below} {count} {i} {o0} {o} {m0} {m} {f0} {f} {n0} {n} {s0} {s} {k0} {k} {t0} {t} {sides} g h o1 o2 m1 m2 f1 f2 n1 n2 s1 s2 k1 k2 t1 t2 sides1 taken inner moves moves2 room some deep value walked =
    let few = g.few in let more = moves.more in let more2 = moves2.more in
    record {
      moves = moves_then o0 o o2 m0 m m2 f0 f f2 n0 n n2 s0 s s2 k0 k k2 None g.moves (moves_then o o1 o2 m m1 m2 f f1 f2 n n1 n2 s s1 s2 k k1 k2 None moves moves2);
      room = room;
      few = omega arith;
      known = g.known;
      count_is = g.count_is;
      left = λ shelf holds.
          let level : below - 1 + 1 ≡ below = omega arith in
          let gone : file_walked shelf w below inner (full t1 k1 s1 n1) ≡ (full t2 k2 s2 n2, Ok tt) = ap (λ b. file_walked shelf w b inner (full t1 k1 s1 n1)) (sym level) ∙ walked shelf holds in
          ap (λ j. walk_behind (file_walked shelf w below) shelf w number below 0 (drop j (tokens_of k0 number)) (inside t2 k2 s2 n2 sides1)) (at i taken some)
          ∙ ap (λ (x : Gone). then_by x.1 x.0 (λ u y. walk_behind (file_walked shelf w below) shelf w number below 0 (drop (i + 1 + (taken - 1)) (tokens_of k0 number)) (in_file sides1 y))) (sym gone)
          ∙ step_here g h shelf (moves.reads.earlier shelf (moves2.reads.earlier shelf holds)) (inside t1 k1 s1 n1 sides1, Ok (taken, Some inner)) (value shelf (moves2.reads.earlier shelf holds));
    }
  where
    at : (a b : ℕ) → 0 < b → a + b ≡ a + 1 + (b - 1)
    at a b h = omega arith

pub step_stops : {w : Words} {number below count i : ℕ} {o0 o : Option Shelf} {m0 m f0 f : ℕ} {n0 n : List (List ℕ)} {s0 s : List Source} {k0 k : List File} {t0 t : Joining} {sides : List Side}
    → Going w number below count i o0 o m0 m f0 f n0 n s0 s k0 k t0 t sides → i < count → (shelf : Shelf) → HoldsAll shelf s → (n1 : List (List ℕ)) (s1 : List Source) (k1 : List File) (t1 : Joining) (sides1 : List Side) (e : Halt)
    → AnswersIn {A = Stepped} (λ x. x) shelf (inside t1 k1 s1 n1 sides1) (Err e) (step_taken shelf w number below (drop i (tokens_of k number)) (inside t k s n sides))
    → AnswersIn {A = Unit {0}} (λ x. x) shelf (full t1 k1 s1 n1) (Err e) (file_walked shelf w (below + 1) number (full t0 k0 s0 n0))
step_stops g h shelf holds n1 s1 k1 t1 sides1 (halt.Refused c p) a = sym (step_here g h shelf holds _ a)
step_stops g h shelf holds n1 s1 k1 t1 sides1 (halt.Missing x) a = λ none. sym (step_here g h shelf holds _ (a none))
step_stops g h shelf holds n1 s1 k1 t1 sides1 (halt.Failed x) a = λ none. sym (step_here g h shelf holds _ (a none))
step_stops g h shelf holds n1 s1 k1 t1 sides1 halt.NoMemory a = tt

pub inside_stops : {w : Words} {number below count i : ℕ} {o0 o : Option Shelf} {m0 m f0 f : ℕ} {n0 n : List (List ℕ)} {s0 s : List Source} {k0 k : List File} {t0 t : Joining} {sides : List Side}
    → Going w number below count i o0 o m0 m f0 f n0 n s0 s k0 k t0 t sides → i < count → 0 < below → (shelf : Shelf) → HoldsAll shelf s
    → (n1 n2 : List (List ℕ)) (s1 s2 : List Source) (k1 k2 : List File) (t1 t2 : Joining) (sides1 : List Side) (taken inner : ℕ) (e : Halt)
    → step_taken shelf w number below (drop i (tokens_of k number)) (inside t k s n sides) ≡ (inside t1 k1 s1 n1 sides1, Ok (taken, Some inner))
    → AnswersIn {A = Unit {0}} (λ x. x) shelf (full t2 k2 s2 n2) (Err e) (file_walked shelf w (below - 1 + 1) inner (full t1 k1 s1 n1))
    → AnswersIn {A = Unit {0}} (λ x. x) shelf (full t2 k2 s2 n2) (Err e) (file_walked shelf w (below + 1) number (full t0 k0 s0 n0))
inside_stops {w} {number} {below} {count} {i} {n0 = n0} {s0 = s0} {k0 = k0} {k = k} {t0 = t0} g h deep shelf holds n1 n2 s1 s2 k1 k2 t1 t2 sides1 taken inner e step a = by e a
  where
    here : (r : Gone) → file_walked shelf w (below - 1 + 1) inner (full t1 k1 s1 n1) ≡ r
        → then_by r.1 r.0 (λ u y. walk_behind (file_walked shelf w below) shelf w number below 0 (drop (i + 1 + (taken - 1)) (tokens_of k0 number)) (in_file sides1 y))
        ≡ file_walked shelf w (below + 1) number (full t0 k0 s0 n0)
    here r walked =
        let level : below - 1 + 1 ≡ below = omega arith in
        ap (λ (x : Gone). then_by x.1 x.0 (λ u y. walk_behind (file_walked shelf w below) shelf w number below 0 (drop (i + 1 + (taken - 1)) (tokens_of k0 number)) (in_file sides1 y)))
        (sym walked ∙ ap (λ b. file_walked shelf w b inner (full t1 k1 s1 n1)) level)
        ∙ step_here g h shelf holds (inside t1 k1 s1 n1 sides1, Ok (taken, Some inner)) step

    by : (e : Halt) → AnswersIn {A = Unit {0}} (λ x. x) shelf (full t2 k2 s2 n2) (Err e) (file_walked shelf w (below - 1 + 1) inner (full t1 k1 s1 n1))
        → AnswersIn {A = Unit {0}} (λ x. x) shelf (full t2 k2 s2 n2) (Err e) (file_walked shelf w (below + 1) number (full t0 k0 s0 n0))
    by (halt.Refused c p) a = sym (here (full t2 k2 s2 n2, Err (Refuses c p)) a)
    by (halt.Missing x) a = λ none. sym (here (full t2 k2 s2 n2, Err (Absent x)) (a none))
    by (halt.Failed x) a = λ none. sym (here (full t2 k2 s2 n2, Err (Absent x)) (a none))
    by halt.NoMemory a = tt

pub here_count : {w : Words} {number below count i : ℕ} {o0 o : Option Shelf} {m0 m f0 f : ℕ} {n0 n : List (List ℕ)} {s0 s : List Source} {k0 k : List File} {t0 t : Joining} {sides : List Side}
    → Going w number below count i o0 o m0 m f0 f n0 n s0 s k0 k t0 t sides → length (tokens_of k number) ≡ count
here_count {number = number} {k0 = k0} {k = k} g = ap length (tokens_stay k0 k number g.moves.grows g.known) ∙ sym g.count_is
