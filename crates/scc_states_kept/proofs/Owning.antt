-- What is needed is read; so a cell that is kept is one that a statement makes the thread's own.
use Rattle.std.proofs.Common.{◌≡◌, ℕ, zero, suc, Bool, true, false, List, [], ◌∷◌, ◌++◌, refl, sym, ap, subst, ◌∙◌}
use Rattle.std.specs.Prelude.{◌||◌, ◌&&◌, not, flat_map}
use Rattle.std.specs.List.{list_any}
use Rattle.std.proofs.lemmas.List.Folds.{list_any-append}
use Rattle.scc_core_flow.specs.Live.{Each}
use Rattle.scc_core_flow.proofs.Tests.{each_first, each_second}
use Rattle.scc_core_spec.specs.Code.{Code, End, Put, Aim, If, Block, Loop, Exit, Wait}
use Rattle.scc_core_spec.specs.Kept.{is_kept, is_local_of, is_own, written_by}
use Rattle.scc_core_spec.specs.Live.{live}
use Rattle.scc_core_spec.specs.Program.{Process, is_variable}
use Rattle.scc_core_spec.specs.Segments.{Segment, all_segments, segment_code}
use Rattle.scc_core_spec.specs.Sizes.{live_body}
use Rattle.scc_core_spec.specs.Static.{Cells}
use Rattle.scc_core_spec.specs.Uses.{Act, acts, among, has_sort, whole_writes, writes_of}
use Rattle.scc_states_kept.specs.Needs.{behind, needed, reads_cell}
use Rattle.scc_states_kept.specs.Owned.{owned, owns}
use Rattle.scc_states_kept.proofs.Acts.{AllOf, all_segments_all}
use Rattle.scc_states_kept.proofs.Backward.{kept_needed}
use Rattle.scc_states_kept.proofs.Bools.{and_false, none_of}

either_false : (a b : Bool) → (a || b) ≡ false → (a ≡ false) × (b ≡ false)
either_false true b h = absurd cc
either_false false b h = (refl, h)

module _ (cs : Cells) (x : ℕ) where
  abbrev Silent : Act → Type 0
  Silent a = reads_cell cs x a.reads ≡ false

  abbrev reads : Act → Bool
  reads a = reads_cell cs x a.reads

  all_silent : (rest : List Act) → list_any (λ a. reads_cell cs x a.reads) rest ≡ false → Each Silent rest
  all_silent [] h = tt
  all_silent (a ∷ rest) h = let p = either_false (reads_cell cs x a.reads) _ h in (p.0, all_silent rest p.1)

  more : (outs : List Bool) (b : Bool) → b ≡ false → ((n : ℕ) → behind n outs ≡ false) → (n : ℕ) → behind n (b ∷ outs) ≡ false
  more outs b h k zero = h
  more outs b h k (suc n) = k n

  unread : (c : Code) (outs : List Bool) → Each Silent (acts c) → ((n : ℕ) → behind n outs ≡ false) → needed cs x c false outs ≡ false
  unread End outs h k = refl
  unread (Put p l v e r) outs h k = none_of _ _ h.0 (ap (λ b. not (among x (whole_writes cs l v)) && b) (unread r outs h.1 k) ∙ and_false (not (among x (whole_writes cs l v))))
  unread (Aim p to t r) outs h k = none_of _ _ h.0 (unread r outs h.1 k)
  unread (If p t a b r) outs h k =
      let ha = each_first Silent (acts a) (acts b ++ acts r) h.1 in
      let hb = each_second Silent (acts a) (acts b ++ acts r) h.1 in
      let rest = unread r outs (each_second Silent (acts b) (acts r) hb) k in
      none_of _ _ h.0 (none_of _ _ (ap (λ n. needed cs x a n outs) rest ∙ unread a outs ha k) (ap (λ n. needed cs x b n outs) rest ∙ unread b outs (each_first Silent (acts b) (acts r) hb) k))
  unread (Block p b r) outs h k =
      let rest = unread r outs (each_second Silent (acts b) (acts r) h) k in
      ap (λ n. needed cs x b n (needed cs x r false outs ∷ outs)) rest
      ∙ unread b (needed cs x r false outs ∷ outs) (each_first Silent (acts b) (acts r) h) (more outs _ rest k)
  unread (Loop p n b r) outs h k = unread b outs (each_first Silent (acts b) (acts r) h) k
  unread (Exit p n r) outs h k = k n
  unread (Wait p l n r) outs h k = unread r outs h k

  nowhere : (n : ℕ) → behind n [] ≡ false
  nowhere n = refl

  unread_all : (ss : List Segment) → Each (AllOf Silent) ss → list_any (λ s. needed cs x (segment_code s) false []) ss ≡ false
  unread_all [] h = refl
  unread_all (s ∷ ss) h = none_of _ _ (unread (segment_code s) [] h.0 nowhere) (unread_all ss h.1)

  abbrev somewhere : Process → Bool
  somewhere p = list_any (λ s. needed cs x (segment_code s) false []) (all_segments (live_body cs p.body))

  -- what is needed is read in the live body
  needs_read : (p : Process) → somewhere p ≡ (list_any (λ a. reads_cell cs x a.reads) (acts (live cs p.body)) && somewhere p)
  needs_read p = by (list_any (λ a. reads_cell cs x a.reads) (acts (live cs p.body))) refl
    where
      by : (b : Bool) → list_any (λ a. reads_cell cs x a.reads) (acts (live cs p.body)) ≡ b → somewhere p ≡ (list_any (λ a. reads_cell cs x a.reads) (acts (live cs p.body)) && somewhere p)
      by true e = ap (λ b. b && somewhere p) (sym e)
      by false e = unread_all (all_segments (live_body cs p.body)) (all_segments_all Silent cs p.body (all_silent (acts (live cs p.body)) e)) ∙ ap (λ b. b && somewhere p) (sym e)

  among_all : (rest : List Act) → among x (flat_map (writes_of cs) rest) ≡ list_any (λ a. among x (writes_of cs a)) rest
  among_all [] = refl
  among_all (a ∷ rest) = list_any-append _ (writes_of cs a) (flat_map (writes_of cs) rest) ∙ ap (λ b. among x (writes_of cs a) || b) (among_all rest)

  spread : (l v r w s t : Bool) → (((l && r) || ((l || v) && w)) || ((l && s) || ((l || v) && t))) ≡ ((l && (r || s)) || ((l || v) && (w || t)))
  spread true v true w s t = refl
  spread true v false true true t = refl
  spread true v false true false t = refl
  spread true v false false s t = refl
  spread false true r true s t = refl
  spread false true r false s t = refl
  spread false false r w s t = refl

  owned_is : (i : ℕ) (rest : List Act) → list_any (owns cs i x) rest
      ≡ ((has_sort (is_local_of i) cs x && list_any (λ a. reads_cell cs x a.reads) rest) || ((has_sort (is_local_of i) cs x || has_sort is_variable cs x) && list_any (λ a. among x (writes_of cs a)) rest))
  owned_is i [] = none (has_sort (is_local_of i) cs x) (has_sort is_variable cs x)
    where
      none : (l v : Bool) → false ≡ ((l && false) || ((l || v) && false))
      none true v = refl
      none false true = refl
      none false false = refl
  owned_is i (a ∷ rest) =
      ap (λ b. owns cs i x a || b) (owned_is i rest)
      ∙ spread (has_sort (is_local_of i) cs x) (has_sort is_variable cs x) (reads_cell cs x a.reads) (among x (writes_of cs a)) (list_any (λ a. reads_cell cs x a.reads) rest) (list_any (λ a. among x (writes_of cs a)) rest)

  own_needs : (l v w r n : Bool) → n ≡ (r && n) → ((l || (v && w)) && n) ≡ (((l && r) || ((l || v) && w)) && n)
  own_needs true v w true n h = refl
  own_needs false v w true n h = refl
  own_needs l v w false true h = absurd cc
  own_needs l v w false false h = and_false (l || (v && w)) ∙ sym (and_false ((l && false) || ((l || v) && w)))

  pub kept_owned : (i : ℕ) (p : Process) → is_kept cs i p x ≡ (owned cs i x (live cs p.body) && somewhere p)
  kept_owned i p =
      kept_needed cs x i p
      ∙ ap (λ b. (has_sort (is_local_of i) cs x || (has_sort is_variable cs x && b)) && somewhere p) (among_all (acts (live cs p.body)))
      ∙ own_needs (has_sort (is_local_of i) cs x) (has_sort is_variable cs x) (list_any (λ a. among x (writes_of cs a)) (acts (live cs p.body)))
      (list_any (λ a. reads_cell cs x a.reads) (acts (live cs p.body))) (somewhere p) (needs_read p)
      ∙ ap (λ b. b && somewhere p) (sym (owned_is i (acts (live cs p.body))))
