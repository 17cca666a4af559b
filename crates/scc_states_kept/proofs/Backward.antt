-- What is needed, told backward, is what a walk forward finds read early.
use Rattle.std.proofs.Common.{◌≡◌, ℕ, zero, suc, arith, Bool, true, false, List, [], ◌∷◌, ◌++◌, map, cond, refl, sym, ap, subst, ◌∙◌}
use Rattle.std.specs.Prelude.{◌||◌, ◌&&◌, not, nat_eq, filter}
use Rattle.std.specs.List.{list_any}
use Rattle.std.proofs.lemmas.Bool.Decides.{nat_tests}
use Rattle.scc_base.specs.declared.refusal.Place.{Place}
use Rattle.scc_core_spec.specs.Code.{Code, End, Put, Aim, If, Block, Loop, Exit, Wait}
use Rattle.scc_core_spec.specs.Flow.{CellSet, Flow, early_in, either, flow, nowhere, without}
use Rattle.scc_core_spec.specs.Kept.{has_any, is_kept, is_own}
use Rattle.scc_core_spec.specs.Program.{Process}
use Rattle.scc_core_spec.specs.Segments.{Segment, all_segments, segment_code}
use Rattle.scc_core_spec.specs.Sizes.{live_body}
use Rattle.scc_core_spec.specs.Static.{Cells}
use Rattle.scc_core_spec.specs.Uses.{Use, among, cells_of, inside, loads, picked, whole_writes}
use Rattle.scc_states_kept.specs.Needs.{behind, needed, reads_cell}
use Rattle.scc_states_kept.proofs.Bools.{and_false, aim_told, at_end, block_told, if_told, none_of, or_false, put_told}

pub has_both : {A : Type 0} (xs ys : List A) → has_any (xs ++ ys) ≡ (has_any xs || has_any ys)
has_both [] ys = refl
has_both (x ∷ xs) ys = refl

self : (n : ℕ) → nat_eq n n ≡ true
self n = grind (arith, nat_tests)

same : (m n : ℕ) → nat_eq m n ≡ true → m ≡ n
same m n h = grind (arith, h)

further : (m n : ℕ) → nat_eq (suc m) (suc n) ≡ nat_eq m n
further m n = grind (arith, nat_tests)

first_further : (n : ℕ) → nat_eq 0 (suc n) ≡ false
first_further n = grind (arith, nat_tests)

further_first : (n : ℕ) → nat_eq (suc n) 0 ≡ false
further_first n = grind (arith, nat_tests)

-- whether the cell is needed behind a block around that a path leaves
abbrev pub leaves : (ℕ → Bool) → List Bool → Bool
leaves f [] = false
leaves f (o ∷ os) = (f 0 && o) || leaves (λ n. f (suc n)) os

leaves_none : (f : ℕ → Bool) → ((n : ℕ) → f n ≡ false) → (os : List Bool) → leaves f os ≡ false
leaves_none f h [] = refl
leaves_none f h (o ∷ os) = ap (λ b. (b && o) || leaves (λ n. f (suc n)) os) (h 0) ∙ leaves_none (λ n. f (suc n)) (λ n. h (suc n)) os

both : (a b o l m : Bool) → (((a || b) && o) || (l || m)) ≡ (((a && o) || l) || ((b && o) || m))
both true b true l m = refl
both true true false l m = refl
both true false false l m = refl
both false true true true m = refl
both false true true false m = refl
both false true false l m = refl
both false false o l m = refl

leaves_both : (f g : ℕ → Bool) (os : List Bool) → leaves (λ n. f n || g n) os ≡ (leaves f os || leaves g os)
leaves_both f g [] = refl
leaves_both f g (o ∷ os) =
    ap (λ b. ((f 0 || g 0) && o) || b) (leaves_both (λ n. f (suc n)) (λ n. g (suc n)) os)
    ∙ both (f 0) (g 0) o (leaves (λ n. f (suc n)) os) (leaves (λ n. g (suc n)) os)

leaves_same : (f g : ℕ → Bool) → ((n : ℕ) → f n ≡ g n) → (os : List Bool) → leaves f os ≡ leaves g os
leaves_same f g h [] = refl
leaves_same f g h (o ∷ os) = ap (λ b. (b && o) || leaves (λ n. f (suc n)) os) (h 0) ∙ ap (λ b. (g 0 && o) || b) (leaves_same (λ n. f (suc n)) (λ n. g (suc n)) (λ n. h (suc n)) os)

leaves_exit : (b : Bool) (n : ℕ) (os : List Bool) → leaves (λ m. nat_eq m n && b) os ≡ (b && behind n os)
leaves_exit b n [] = sym (and_false b)
leaves_exit b zero (o ∷ os) =
    ap (λ z. ((z && b) && o) || leaves (λ m. nat_eq (suc m) 0 && b) os) (self 0)
    ∙ ap (λ z. (b && o) || z) (leaves_none (λ m. nat_eq (suc m) 0 && b) (λ m. ap (λ z. z && b) (further_first m)) os)
    ∙ or_false (b && o)
leaves_exit b (suc n) (o ∷ os) =
    ap (λ z. ((z && b) && o) || leaves (λ m. nat_eq (suc m) (suc n) && b) os) (first_further n)
    ∙ leaves_same (λ m. nat_eq (suc m) (suc n) && b) (λ m. nat_eq m n && b) (λ m. ap (λ z. z && b) (further m n)) os
    ∙ leaves_exit b n os

module _ (cs : Cells) (x : ℕ) where
  -- a set with no other cell
  abbrev pub Only : CellSet → Type 0
  Only u = (y : ℕ) → nat_eq x y ≡ false → u y ≡ false

  -- the walk forward adds none
  mutual
    fall_only : (c : Code) (u : CellSet) → Only u → Only (flow cs c u).fall
    fall_only End u h = h
    fall_only (Put p l k e r) u h = fall_only r (without (whole_writes cs l k) u) (λ y i. ap (λ b. b && not (among y (whole_writes cs l k))) (h y i))
    fall_only (Aim p to t r) u h = fall_only r u h
    fall_only (If p t a b r) u h =
        fall_only r (either (flow cs a u).fall (flow cs b u).fall) (λ y i. none_of ((flow cs a u).fall y) ((flow cs b u).fall y) (fall_only a u h y i) (fall_only b u h y i))
    fall_only (Block p b r) u h =
        fall_only r (either (flow cs b u).fall ((flow cs b u).out 0)) (λ y i. none_of ((flow cs b u).fall y) ((flow cs b u).out 0 y) (fall_only b u h y i) (out_only b u h 0 y i))
    fall_only (Loop p n b r) u h = λ y i. refl
    fall_only (Exit p n r) u h = λ y i. refl
    fall_only (Wait p l n r) u h = fall_only r u h

    out_only : (c : Code) (u : CellSet) → Only u → (n : ℕ) → Only ((flow cs c u).out n)
    out_only End u h n = λ y i. refl
    out_only (Put p l k e r) u h n = out_only r (without (whole_writes cs l k) u) (λ y i. ap (λ b. b && not (among y (whole_writes cs l k))) (h y i)) n
    out_only (Aim p to t r) u h n = out_only r u h n
    out_only (If p t a b r) u h n = λ y i.
        none_of ((flow cs a u).out n y || (flow cs b u).out n y) _ (none_of ((flow cs a u).out n y) ((flow cs b u).out n y) (out_only a u h n y i) (out_only b u h n y i))
        (out_only r (either (flow cs a u).fall (flow cs b u).fall) (λ z j. none_of ((flow cs a u).fall z) ((flow cs b u).fall z) (fall_only a u h z j) (fall_only b u h z j)) n y i)
    out_only (Block p b r) u h n = λ y i.
        none_of ((flow cs b u).out (suc n) y) _ (out_only b u h (suc n) y i)
        (out_only r (either (flow cs b u).fall ((flow cs b u).out 0)) (λ z j. none_of ((flow cs b u).fall z) ((flow cs b u).out 0 z) (fall_only b u h z j) (out_only b u h 0 z j)) n y i)
    out_only (Loop p m b r) u h n = out_only b u h n
    out_only (Exit p m r) u h n = λ y i. ap (λ b. nat_eq n m && b) (h y i) ∙ and_false (nat_eq n m)
    out_only (Wait p l m r) u h n = out_only r u h n

  or_self : (a l m : Bool) → l ≡ (a && m) → (a || l) ≡ (a && (true || m))
  or_self true l m k = refl
  or_self false l m k = k

  any_only : (u : CellSet) → Only u → (ns : List ℕ) → list_any u ns ≡ (u x && among x ns)
  any_only u h [] = sym (and_false (u x))
  any_only u h (n ∷ ns) = by (any_only u h ns) (nat_eq x n) refl
    where
      by : list_any u ns ≡ (u x && among x ns) → (b : Bool) → nat_eq x n ≡ b → (u n || list_any u ns) ≡ (u x && (nat_eq x n || among x ns))
      by more true e =
          ap (λ m. u m || list_any u ns) (sym (same x n e)) ∙ or_self (u x) (list_any u ns) (among x ns) more
          ∙ ap (λ b. u x && (b || among x ns)) (sym e)
      by more false e = ap (λ b. b || list_any u ns) (h n e) ∙ more ∙ ap (λ b. u x && (b || among x ns)) (sym e)

  shared_or : (a b c : Bool) → ((a && b) || (a && c)) ≡ (a && (b || c))
  shared_or true b c = refl
  shared_or false b c = refl

  early_only : (u : CellSet) → Only u → (us : List Use) → has_any (early_in cs us u) ≡ (u x && reads_cell cs x us)
  early_only u h [] = sym (and_false (u x))
  early_only u h (w ∷ ws) =
      found (list_any u (cells_of cs w.left))
      ∙ ap (λ b. b || has_any (early_in cs ws u)) (any_only u h (cells_of cs w.left))
      ∙ ap (λ b. (u x && among x (cells_of cs w.left)) || b) (early_only u h ws)
      ∙ shared_or (u x) (among x (cells_of cs w.left)) (reads_cell cs x ws)
    where
      found : (b : Bool) → has_any {A = Place × List ℕ} (map (λ v. (v.place, filter u (cells_of cs v.left))) (cond b (w ∷ filter (λ v. list_any u (cells_of cs v.left)) ws) (filter (λ v. list_any u (cells_of cs v.left)) ws)))
          ≡ (b || has_any (early_in cs ws u))
      found true = refl
      found false = refl

  -- a read on some path, or a path to where the cell is needed
  abbrev pub told : Flow → Bool → List Bool → Bool
  told f next outs = has_any f.early || ((f.fall x && next) || leaves (λ n. f.out n x) outs)

  abbrev pub Tells : Code → CellSet → Bool → List Bool → Type 0
  Tells c u next outs = told (flow cs c u) next outs ≡ (u x && needed cs x c next outs)

  pub tells : (c : Code) (u : CellSet) → Only u → (next : Bool) (outs : List Bool) → Tells c u next outs
  tells End u h next outs = at_end (u x) next _ (leaves_none (λ n. false) (λ n. refl) outs)
  tells (Put p l k e r) u h next outs =
      let ws = whole_writes cs l k in
      let us = inside l ++ (picked k ++ loads e) in
      let f = flow cs r (without ws u) in
      let rest = (f.fall x && next) || leaves (λ n. f.out n x) outs in
      ap (λ b. b || rest) (has_both (early_in cs us u) f.early ∙ ap (λ b. b || has_any f.early) (early_only u h us))
      ∙ put_told (u x) (reads_cell cs x us) (among x ws) (needed cs x r next outs) (has_any f.early) rest (tells r (without ws u) (λ y i. ap (λ b. b && not (among y ws)) (h y i)) next outs)
  tells (Aim p to t r) u h next outs =
      let f = flow cs r u in
      let rest = (f.fall x && next) || leaves (λ n. f.out n x) outs in
      ap (λ b. b || rest) (has_both (early_in cs (inside t) u) f.early ∙ ap (λ b. b || has_any f.early) (early_only u h (inside t)))
      ∙ aim_told (u x) (reads_cell cs x (inside t)) (needed cs x r next outs) (has_any f.early) rest (tells r u h next outs)
  tells (If p t a b r) u h next outs =
      let fa = flow cs a u in
      let fb = flow cs b u in
      let f = flow cs r (either fa.fall fb.fall) in
      let n = needed cs x r next outs in
      let la = leaves (λ m. fa.out m x) outs in
      let lb = leaves (λ m. fb.out m x) outs in
      let l = leaves (λ m. f.out m x) outs in
      let g = f.fall x && next in
      ap (λ z. z || (g || leaves (λ m. (fa.out m x || fb.out m x) || f.out m x) outs))
      (has_both (early_in cs (loads t) u) (fa.early ++ (fb.early ++ f.early))
      ∙ ap (λ z. z || has_any (fa.early ++ (fb.early ++ f.early))) (early_only u h (loads t))
      ∙ ap (λ z. (u x && reads_cell cs x (loads t)) || z) (has_both fa.early (fb.early ++ f.early) ∙ ap (λ z. has_any fa.early || z) (has_both fb.early f.early)))
      ∙ ap (λ z. ((u x && reads_cell cs x (loads t)) || (has_any fa.early || (has_any fb.early || has_any f.early))) || (g || z))
      (leaves_both (λ m. fa.out m x || fb.out m x) (λ m. f.out m x) outs ∙ ap (λ z. z || l) (leaves_both (λ m. fa.out m x) (λ m. fb.out m x) outs))
      ∙ if_told (u x) (reads_cell cs x (loads t)) (fa.fall x) (fb.fall x) n (needed cs x a n outs) (needed cs x b n outs) (has_any fa.early) la (has_any fb.early) lb (has_any f.early) g l
      (tells r (either fa.fall fb.fall) (λ y i. none_of (fa.fall y) (fb.fall y) (fall_only a u h y i) (fall_only b u h y i)) next outs)
      (tells a u h n outs) (tells b u h n outs)
  tells (Block p b r) u h next outs =
      let fb = flow cs b u in
      let f = flow cs r (either fb.fall (fb.out 0)) in
      let n = needed cs x r next outs in
      let lb = leaves (λ m. fb.out (suc m) x) outs in
      let l = leaves (λ m. f.out m x) outs in
      let g = f.fall x && next in
      ap (λ z. z || (g || leaves (λ m. fb.out (suc m) x || f.out m x) outs)) (has_both fb.early f.early)
      ∙ ap (λ z. (has_any fb.early || has_any f.early) || (g || z)) (leaves_both (λ m. fb.out (suc m) x) (λ m. f.out m x) outs)
      ∙ block_told (u x && needed cs x b n (n ∷ outs)) (fb.fall x) (fb.out 0 x) n (has_any fb.early) lb (has_any f.early) g l
      (tells r (either fb.fall (fb.out 0)) (λ y i. none_of (fb.fall y) (fb.out 0 y) (fall_only b u h y i) (out_only b u h 0 y i)) next outs)
      (tells b u h n (n ∷ outs))
  tells (Loop p m b r) u h next outs =
      let fb = flow cs b u in
      ap (λ z. has_any fb.early || (z || leaves (λ n. fb.out n x) outs)) (sym (and_false (fb.fall x))) ∙ tells b u h false outs
  tells (Exit p n r) u h next outs = leaves_exit (u x) n outs
  tells (Wait p l n r) u h next outs = tells r u h next outs

  -- where nothing is needed behind it
  alone : (e f : Bool) → ((e || ((f && false) || false))) ≡ e
  alone e f = ap (λ z. e || (z || false)) (and_false f) ∙ or_false e

  pub early_needed : (c : Code) → has_any (flow cs c (nat_eq x)).early ≡ needed cs x c false []
  early_needed c =
      sym (alone (has_any (flow cs c (nat_eq x)).early) ((flow cs c (nat_eq x)).fall x)) ∙ tells c (nat_eq x) (λ y i. i) false []
      ∙ ap (λ b. b && needed cs x c false []) (self x)

  any_same : (p q : Segment → Bool) → ((s : Segment) → p s ≡ q s) → (ss : List Segment) → list_any p ss ≡ list_any q ss
  any_same p q h [] = refl
  any_same p q h (s ∷ ss) = ap (λ b. b || list_any p ss) (h s) ∙ ap (λ b. q s || b) (any_same p q h ss)

  pub kept_needed : (i : ℕ) (p : Process) → is_kept cs i p x ≡ (is_own cs i p x && list_any (λ s. needed cs x (segment_code s) false []) (all_segments (live_body cs p.body)))
  kept_needed i p = ap (λ b. is_own cs i p x && b) (any_same (λ s. has_any (flow cs (segment_code s) (nat_eq x)).early) (λ s. needed cs x (segment_code s) false []) (λ s. early_needed (segment_code s)) (all_segments (live_body cs p.body)))
