-- What holds of each statement of a body holds of each statement of its live part, and of its segments.
use Rattle.std.proofs.Common.{◌≡◌, ℕ, zero, suc, ◌+◌, Bool, true, false, List, [], ◌∷◌, ◌++◌, append_assoc, Option, Some, None, refl, sym, ap, subst, ◌∙◌}
use Rattle.scc_base.specs.declared.refusal.Place.{Place}
use Rattle.scc_core_flow.specs.Live.{Each}
use Rattle.scc_core_flow.proofs.Tests.{each_both, each_first, each_second}
use Rattle.scc_core_spec.specs.Code.{Code, Count, End, Put, Aim, If, Block, Loop, Exit, Wait, append, numbered, waits_in}
use Rattle.scc_core_spec.specs.Live.{Alive, alive, by_test, live, looped, shut, then_alive}
use Rattle.scc_core_spec.specs.Segments.{Segment, Plain, Test, Halt, Finish, all_segments, behind, opened, opens, segment, segments, segment_code}
use Rattle.scc_core_spec.specs.Sizes.{live_body}
use Rattle.scc_core_spec.specs.Static.{Cells, goes}
use Rattle.scc_core_spec.specs.Term.{Left, Pick, Term}
use Rattle.scc_core_spec.specs.Uses.{Act, acts, inside, loads, picked}

-- ---- code behind code

abbrev put_act : Place → Left → Pick → Term → Act
put_act p l k e = record { place = p; reads = inside l ++ (picked k ++ loads e); writes = Some (l, k) }

abbrev aim_act : Place → Left → Act
aim_act p t = record { place = p; reads = inside t; writes = None }

abbrev test_act : Place → Term → Act
test_act p t = record { place = p; reads = loads t; writes = None }

no_more : {A : Type 0} (xs : List A) → xs ++ [] ≡ xs
no_more [] = refl
no_more (x ∷ xs) = ap (λ ys. x ∷ ys) (no_more xs)

two_then : (a b r : List Act) → a ++ (b ++ r) ≡ (a ++ b) ++ r
two_then a b r = sym (append_assoc a b r)

pub acts_both : (c d : Code) → acts (append c d) ≡ acts c ++ acts d
acts_both End d = refl
acts_both (Put p l k e r) d = ap (λ xs. put_act p l k e ∷ xs) (acts_both r d)
acts_both (Aim p to t r) d = ap (λ xs. aim_act p t ∷ xs) (acts_both r d)
acts_both (If p t a b r) d =
    ap (λ xs. test_act p t ∷ (acts a ++ (acts b ++ xs))) (acts_both r d)
    ∙ ap (λ xs. test_act p t ∷ (acts a ++ xs)) (two_then (acts b) (acts r) (acts d)) ∙ ap (λ xs. test_act p t ∷ xs) (two_then (acts a) (acts b ++ acts r) (acts d))
acts_both (Block p b r) d = ap (λ xs. acts b ++ xs) (acts_both r d) ∙ two_then (acts b) (acts r) (acts d)
acts_both (Loop p n b r) d = ap (λ xs. acts b ++ xs) (acts_both r d) ∙ two_then (acts b) (acts r) (acts d)
acts_both (Exit p n r) d = acts_both r d
acts_both (Wait p l n r) d = acts_both r d

-- the numbers of waits tell nothing of statements
pub acts_numbered : (n : ℕ) (c : Code) → acts (numbered n c) ≡ acts c
acts_numbered n End = refl
acts_numbered n (Put p l k e r) = ap (λ xs. put_act p l k e ∷ xs) (acts_numbered n r)
acts_numbered n (Aim p to t r) = ap (λ xs. aim_act p t ∷ xs) (acts_numbered n r)
acts_numbered n (If p t a b r) =
    ap (λ xs. test_act p t ∷ (xs ++ (acts (numbered (n + waits_in a) b) ++ acts (numbered (n + (waits_in a + waits_in b)) r)))) (acts_numbered n a)
    ∙ ap (λ xs. test_act p t ∷ (acts a ++ (xs ++ acts (numbered (n + (waits_in a + waits_in b)) r)))) (acts_numbered (n + waits_in a) b)
    ∙ ap (λ xs. test_act p t ∷ (acts a ++ (acts b ++ xs))) (acts_numbered (n + (waits_in a + waits_in b)) r)
acts_numbered n (Block p b r) = ap (λ xs. xs ++ acts (numbered (n + waits_in b) r)) (acts_numbered n b) ∙ ap (λ xs. acts b ++ xs) (acts_numbered (n + waits_in b) r)
acts_numbered n (Loop p c b r) = ap (λ xs. xs ++ acts (numbered (n + waits_in b) r)) (acts_numbered n b) ∙ ap (λ xs. acts b ++ xs) (acts_numbered (n + waits_in b) r)
acts_numbered n (Exit p d r) = acts_numbered n r
acts_numbered n (Wait p l c r) = acts_numbered (n + 1) r

module _ (P : Act → Type 0) where
  abbrev pub All : Code → Type 0
  All c = Each P (acts c)

  abbrev pub AllOf : Segment → Type 0
  AllOf s = All (segment_code s)

  abbrev first : (c : Code) (xs : List Act) → Each P (acts c ++ xs) → All c
  first c xs h = each_first P (acts c) xs h

  abbrev second : (c : Code) (xs : List Act) → Each P (acts c ++ xs) → Each P xs
  second c xs h = each_second P (acts c) xs h

  -- ---- the live part

  then_all : (b : Bool) (x y : Alive) → All x.code → All y.code → All (then_alive b x y).code
  then_all true x y h k = subst (Each P) (sym (acts_both x.code y.code)) (each_both P (acts x.code) (acts y.code) h k)
  then_all false x y h k = h

  loop_all : (b : Bool) (p : Place) (n : Option Count) (x : Alive) → All x.code → All (looped b p n x).code
  loop_all true p n x h = each_both P (acts x.code) [] h tt
  loop_all false p n x h = h

  pub live_all : (cs : Cells) (c : Code) → All c → All (live cs c)
  live_all cs End h = tt
  live_all cs (Put p l k e r) h = (h.0, live_all cs r h.1)
  live_all cs (Aim p to t r) h = (h.0, live_all cs r h.1)
  live_all cs (If p t a b r) h =
      let ha = live_all cs a (first a (acts b ++ acts r) h.1) in
      let hb = live_all cs b (first b (acts r) (second a (acts b ++ acts r) h.1)) in
      then_all (by_test (goes cs t) p t (alive cs a) (alive cs b)).ends (by_test (goes cs t) p t (alive cs a) (alive cs b)) (alive cs r)
      (by (goes cs t) ha hb)
      (live_all cs r (second b (acts r) (second a (acts b ++ acts r) h.1)))
    where
      by : (o : Option Bool) → All (live cs a) → All (live cs b) → All (by_test o p t (alive cs a) (alive cs b)).code
      by (Some true) ha hb = ha
      by (Some false) ha hb = hb
      by None ha hb = (h.0, each_both P (acts (live cs a)) (acts (live cs b) ++ []) ha (each_both P (acts (live cs b)) [] hb tt))
  live_all cs (Block p b r) h =
      then_all (shut p (alive cs b)).ends (shut p (alive cs b)) (alive cs r) (each_both P (acts (live cs b)) [] (live_all cs b (first b (acts r) h)) tt) (live_all cs r (second b (acts r) h))
  live_all cs (Loop p n b r) h = loop_all (alive cs b).ends p n (alive cs b) (live_all cs b (first b (acts r) h))
  live_all cs (Exit p n r) h = tt
  live_all cs (Wait p l n r) h = live_all cs r h

  -- ---- segments

  pub behind_all : (n : ℕ) (outer : List Segment) → Each AllOf outer → AllOf (behind n outer)
  behind_all n [] h = tt
  behind_all zero (s ∷ ss) h = h.0
  behind_all (suc n) (s ∷ ss) h = behind_all n ss h.1

  opened_all : (b : Bool) (s t : Segment) → AllOf s → AllOf t → AllOf (opened b s t)
  opened_all true s t h k = h
  opened_all false s t h k = k

  pub segment_all : (c : Code) (next : Segment) (outer : List Segment) → All c → AllOf next → Each AllOf outer → AllOf (segment c next outer)
  segment_all End next outer h k o = k
  segment_all (Put p l v e r) next outer h k o = (h.0, segment_all r next outer h.1 k o)
  segment_all (Aim p to t r) next outer h k o = (h.0, segment_all r next outer h.1 k o)
  segment_all (If p t a b r) next outer h k o =
      let ha = first a (acts b ++ acts r) h.1 in
      let hb = first b (acts r) (second a (acts b ++ acts r) h.1) in
      let rest = segment r next outer in
      let hr = segment_all r next outer (second b (acts r) (second a (acts b ++ acts r) h.1)) k o in
      opened_all (opens 0 (If p t a b End)) (Test p t (segment a rest outer) (segment b rest outer)) (Plain (If p t a b End) rest)
      (h.0, each_both P _ _ (segment_all a rest outer ha hr o) (each_both P _ [] (segment_all b rest outer hb hr o) tt))
      (h.0, each_both P (acts a) _ ha (each_both P (acts b) _ hb hr))
  segment_all (Block p b r) next outer h k o =
      let rest = segment r next outer in
      let hr = segment_all r next outer (second b (acts r) h) k o in
      opened_all (opens 0 (Block p b End)) (segment b rest (rest ∷ outer)) (Plain (Block p b End) rest)
      (segment_all b rest (rest ∷ outer) (first b (acts r) h) hr (hr, o))
      (each_both P (acts b) _ (first b (acts r) h) hr)
  segment_all (Loop p n b r) next outer h k o =
      let hr = segment_all r next outer (second b (acts r) h) k o in
      opened_all (opens 0 (Loop p n b End)) (segment b Finish outer) (Plain (Loop p n b End) (segment r next outer))
      (segment_all b Finish outer (first b (acts r) h) tt o)
      (each_both P (acts b) _ (first b (acts r) h) hr)
  segment_all (Exit p n r) next outer h k o = behind_all n outer o
  segment_all (Wait p l n r) next outer h k o = tt

  pub segments_all : (c : Code) (next : Segment) (outer : List Segment) → All c → AllOf next → Each AllOf outer → Each AllOf (segments c next outer)
  segments_all End next outer h k o = tt
  segments_all (Put p l v e r) next outer h k o = segments_all r next outer h.1 k o
  segments_all (Aim p to t r) next outer h k o = segments_all r next outer h.1 k o
  segments_all (If p t a b r) next outer h k o =
      let ha = first a (acts b ++ acts r) h.1 in
      let hb = first b (acts r) (second a (acts b ++ acts r) h.1) in
      let hc = second b (acts r) (second a (acts b ++ acts r) h.1) in
      let rest = segment r next outer in
      let hr = segment_all r next outer hc k o in
      each_both AllOf (segments a rest outer) _ (segments_all a rest outer ha hr o)
      (each_both AllOf (segments b rest outer) _ (segments_all b rest outer hb hr o) (segments_all r next outer hc k o))
  segments_all (Block p b r) next outer h k o =
      let rest = segment r next outer in
      let hr = segment_all r next outer (second b (acts r) h) k o in
      each_both AllOf (segments b rest (rest ∷ outer)) _ (segments_all b rest (rest ∷ outer) (first b (acts r) h) hr (hr, o)) (segments_all r next outer (second b (acts r) h) k o)
  segments_all (Loop p n b r) next outer h k o =
      each_both AllOf (segments b (segment (Loop p n b r) next outer) outer) _
      (segments_all b (segment (Loop p n b r) next outer) outer (first b (acts r) h) (segment_all (Loop p n b r) next outer h k o) o)
      (segments_all r next outer (second b (acts r) h) k o)
  segments_all (Exit p n r) next outer h k o = segments_all r next outer h k o
  segments_all (Wait p l n r) next outer h k o = (segment_all r next outer h k o, segments_all r next outer h k o)

  -- of the segments of a live body
  pub all_segments_all : (cs : Cells) (c : Code) → All (live cs c) → Each AllOf (all_segments (live_body cs c))
  all_segments_all cs c h =
      let n = subst (Each P) (sym (acts_numbered 0 (live cs c))) h in
      (segment_all (live_body cs c) Finish [] n tt tt, segments_all (live_body cs c) Finish [] n tt tt)
