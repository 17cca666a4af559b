-- What a table of names tells of an assignment to a location without indices, and of a thread in which there are no others.
use Rattle.std.proofs.Common.{◌≡◌, ◌<◌, ◌+◌, ℕ, zero, suc, Bool, true, false, List, [], ◌∷◌, length, map, slice_get, Option, Some, None, refl, sym, ap, subst, ◌∙◌, arith, inl, inr, if◌then◌else◌}
use Rattle.std.specs.Prelude.{not, ◌&&◌, ◌||◌, nat_eq, min, option_map, unwrap_or}
use Rattle.std.specs.List.{list_all}
use Rattle.std.proofs.lemmas.Bool.Decides.{nat_tests}
use Rattle.std.proofs.lemmas.Option.{slice_get-map}
use Rattle.scc_bits_kinds.specs.declared.kind.Kind.{Kind}
use Rattle.scc_bits_kinds.specs.Kinds.{width_of}
use Rattle.scc_core.specs.declared.expr.CoreExpr.{CoreExpr}
use Rattle.scc_core.specs.declared.expr.CoreExprNode.{CoreExprNode}
use Rattle.scc_core.specs.declared.expr.CoreLeft.{CoreLeft}
use Rattle.scc_core.specs.declared.expr.CoreBase.{CoreBase}
use Rattle.scc_core.specs.declared.expr.CorePart.{CorePart}
use Rattle.scc_core.specs.declared.expr.CorePick.{CorePick, out-CorePick}
use Rattle.scc_core.specs.declared.expr.CoreBase.TheOpen.{CorePick-F}
use Rattle.scc_core.specs.declared.expr.CoreBase.TheOpen as tree
use Rattle.scc_core.specs.declared.program.Cell.{Cell}
use Rattle.scc_core.specs.declared.program.CellName.{CellName}
use Rattle.scc_core.specs.declared.statics.Known.{Known}
use Rattle.scc_core.specs.Elements.{Part, found}
use Rattle.scc_core.specs.Known.{facts_in}
use Rattle.scc_core.specs.Located.{single}
use Rattle.scc_core.specs.Statics.{facts_of}
use Rattle.scc_core_flow.specs.Live.{Each}
use Rattle.scc_core_spec.specs.IsResolved.{cells_apart, fit_cell}
use Rattle.scc_core_spec.specs.Kept.{OneOf}
use Rattle.scc_core_spec.specs.Program.{Process, is_root}
use Rattle.scc_core_spec.specs.Split.{one_cell}
use Rattle.scc_core_spec.specs.Static.{Cells, static}
use Rattle.scc_core_spec.specs.Term as term
use Rattle.scc_core_spec.specs.Term.{Left, Pick}
use Rattle.scc_core_spec.specs.Uses.{Act, Use, among, cells_of, has_sort, is_all, is_single, is_zero, root_of, whole_of, whole_writes, width_at}
use Rattle.scc_core_static_laws.specs.Held.{Knows}
use Rattle.scc_core_view.specs.Programs.{cell_of}
use Rattle.scc_core_view.specs.Terms.{taken_of, term_of}
use Rattle.scc_core_view.specs.Whole.{IsName}
use Rattle.scc_states.specs.Wholes.{FillsOne}
use Rattle.scc_states_kept.specs.Filled.{all_by, all_in, fills, fills_cell, filled_by, filled_in, pick_all}
use Rattle.scc_states_kept.specs.Owned.{is_number}
use Rattle.scc_states_kept.specs.Rows.{cells_in}
use Rattle.scc_states_kept.specs.Slots.{TellsUses, is_at}
use Rattle.scc_states_kept.specs.Walks.{TellsAct, TellsWrites}
use Rattle.scc_states_named_laws.specs.Plain.{AreNarrow, is_plain, is_plain_act, is_plain_pick, is_plain_write}
use Rattle.scc_states_named_laws.proofs.Closed.{and_first, and_second, never}
use Rattle.scc_states_named_laws.proofs.Roots.{not_root, past_number, root_here, root_width, same_root}
use Rattle.scc_states_named_laws.proofs.Shapes.{pick_by, some_pick, term_pick, whole_pick}
use Rattle.scc_states_named_laws.proofs.Told.{Names, one, past, names, names_same}

abbrev ThePick : Type 0
ThePick = CorePick-F CoreBase CoreExprNode CorePart CorePick CoreExpr CoreLeft

or_false : (b : Bool) → b ≡ (b || false)
or_false true = refl
or_false false = refl

-- an end of a range that is cut to 2^32 - 1
ends_same : (h w : ℕ) → w < 4294967295 → nat_eq (min (h + 1) 4294967295) w ≡ nat_eq (h + 1) w
ends_same h w n = by (nat_eq (h + 1) w) refl
  where
    by : (b : Bool) → nat_eq (h + 1) w ≡ b → nat_eq (min (h + 1) 4294967295) w ≡ nat_eq (h + 1) w
    by true e = grind (arith, nat_tests, n, e)
    by false e = grind (arith, nat_tests, n, e)

not_one : (b : Bool) → not b ≡ true → b ≡ false
not_one true h = absurd cc
not_one false h = refl

neither : (a x y : Bool) → a ≡ false → (a && x) ≡ (a && y)
neither a x y h = ap (λ z. z && x) h ∙ sym (ap (λ z. z && y) h)

same_answer : (x m : ℕ) (b : Bool) → is_at x (if b then Some m else None) ≡ among x (if b then m ∷ [] else [])
same_answer x m true = or_false (nat_eq x m)
same_answer x m false = refl

no_answer : (x m : ℕ) (b : Bool) → nat_eq x m ≡ false → is_at x (if b then Some m else None) ≡ false
no_answer x m true h = h
no_answer x m false h = refl

no_cell : (x m : ℕ) (b : Bool) → nat_eq x m ≡ false → among x (if b then m ∷ [] else []) ≡ false
no_cell x m true h = ap (λ z. z || false) h
no_cell x m false h = refl

same_test : (m : ℕ) → nat_eq m m ≡ true
same_test m = grind (arith, nat_tests)

abbrev if_all : Bool → ℕ → List ℕ
if_all b r = if b then r ∷ [] else []

module _ (known : Known) (cells : List Cell) (knows : Knows known cells []) (ps : List Process)
    (apart : cells_apart (map cell_of cells) ≡ true) (fit : list_all (fit_cell ps (map cell_of cells)) (map cell_of cells) ≡ true) (narrow : AreNarrow cells)
    (same : (first : Bool) (qs : List Part) (name : CellName) → IsName name → found (facts_in known) first qs name ≡ found (facts_of cells) first qs name) where
  abbrev cs : Cells
  cs = map cell_of cells

  width_here : (m : ℕ) (c : Cell) → slice_get cells m ≡ Some c → width_at cs m ≡ width_of c.kind
  width_here m c e = ap (λ o. unwrap_or (option_map (λ z. width_of z.kind) o) 0) (slice_get-map cell_of cells m ∙ ap (option_map cell_of) e)

  -- all of a number is taken, by what is known and by the definition
  all_same : (l : CoreLeft) (r : ℕ) (k : Kind) (q : Pick) → width_at cs r ≡ width_of k → width_of k < 4294967295 → q ≡ (taken_of l).pick → cells_of cs (taken_of l).left ≡ r ∷ []
      → is_plain_pick cs (taken_of l).left q ≡ true → all_in known l.pick k ≡ is_all cs (width_at cs r) q
  unfolding pick_all
  all_same l r k q wide below is named plain = by l.pick refl
    where
      more : (t : term.Term) → q ≡ term.OneBit t → nat_eq (width_of k) 1 ≡ false
      more t p =
          let w = ap (λ ns. list_all (λ n. not (nat_eq (width_at cs n) 1)) ns) (sym named) ∙ ap (is_plain_pick cs (taken_of l).left) (sym p) ∙ plain in
          ap (λ n. nat_eq n 1) (sym wide) ∙ not_one (nat_eq (width_at cs r) 1) (and_first (not (nat_eq (width_at cs r) 1)) true w)

      at : (g : CorePick) (y : ThePick) → out-CorePick g ≡ y → q ≡ (term_pick g).pick → all_by known k y ≡ is_all cs (width_at cs r) q
      at g (tree.Bit of f) o s =
          let p = s ∙ ap (λ z. z.pick) (pick_by g (tree.Bit of f) o) in
          neither (nat_eq (width_of k) 1) _ (is_zero (static cs (term_of f))) (more (term_of f) p)
          ∙ ap (λ n. nat_eq n 1 && is_zero (static cs (term_of f))) (sym wide) ∙ ap (is_all cs (width_at cs r)) (sym p)
      at g (tree.Range of h lo) o s =
          let p = s ∙ ap (λ z. z.pick) (pick_by g (tree.Range of h lo) o) in
          ap (λ b. nat_eq lo 0 && b) (ends_same h (width_of k) below)
          ∙ ap (λ n. nat_eq lo 0 && nat_eq (h + 1) n) (sym wide) ∙ ap (is_all cs (width_at cs r)) (sym p)

      by : (o : Option CorePick) → l.pick ≡ o → all_in known o k ≡ is_all cs (width_at cs r) q
      by None o = ap (is_all cs (width_at cs r)) (sym (is ∙ whole_pick l o))
      by (Some g) o = at g (out-CorePick g) refl (is ∙ some_pick l g o)

  -- ---- one whole cell

  abbrev whole_one : CoreLeft → Bool → List ℕ → Bool
  whole_one l b ns = b && unwrap_or (option_map (λ n. is_all cs (width_at cs n) (taken_of l).pick) (one_cell ns)) false

  and_none : (b : Bool) → (b && false) ≡ false
  and_none true = refl
  and_none false = refl

  not_below : (m : ℕ) → slice_get cells m ≡ None → m < length cells → ⊥
  not_below m e h = no_place cells m e h
    where
      no_place : (xs : List Cell) (n : ℕ) → slice_get xs n ≡ None → n < length xs → ⊥
      no_place [] n e h = omega (arith, h)
      no_place (x ∷ xs) zero e h = absurd cc
      no_place (x ∷ xs) (suc n) e h = no_place xs n e (omega (arith, h))

  pub put_same : (l : CoreLeft) → is_plain_pick cs (taken_of l).left (taken_of l).pick ≡ true → Names known cells l → FillsOne known cs l (taken_of l)
  put_same l plain (one None named cells_are alone below) =
      ap (fills known l) named ∙ sym (ap (whole_one l (is_single cs (taken_of l).left)) cells_are ∙ and_none (is_single cs (taken_of l).left))
  put_same l plain (past n named e cells_are) =
      ap (fills known l) named
      ∙ ap (λ z. fills_cell known l (record { base = n; dims = [] }) (slice_get z n)) knows.cells_are
      ∙ ap (fills_cell known l (record { base = n; dims = [] })) (gone (slice_get cells n) (sym (slice_get-map cell_of cells n) ∙ e))
      ∙ sym (ap (whole_one l (is_single cs (taken_of l).left)) cells_are ∙ and_none (is_single cs (taken_of l).left))
    where
      gone : (o : Option Cell) → option_map cell_of o ≡ None → o ≡ None
      gone None h = refl
      gone (Some c) h = absurd cc
  put_same l plain (one (Some m) named cells_are alone below) = ap (fills known l) named ∙ ap (λ z. fills_cell known l (record { base = m; dims = [] }) (slice_get z m)) knows.cells_are ∙ by (slice_get cells m) refl
    where
      by : (o : Option Cell) → slice_get cells m ≡ o
          → fills_cell known l (record { base = m; dims = [] }) o ≡ (is_single cs (taken_of l).left && unwrap_or (option_map (λ n. is_all cs (width_at cs n) (taken_of l).pick) (one_cell (cells_of cs (taken_of l).left))) false)
      by None e = absurd (not_below m e (below m refl))
      by (Some c) e =
          all_same l (root_of cs m) c.kind (taken_of l).pick (root_width cs ps fit m (cell_of c) (slice_get-map cell_of cells m ∙ ap (option_map cell_of) e)) (narrow m c e) refl cells_are plain
          ∙ sym (ap (whole_one l (is_single cs (taken_of l).left)) cells_are ∙ ap (λ b. whole_one l b (root_of cs m ∷ [])) alone)

  module _ (i x : ℕ) (number : is_number cs i x ≡ true) where
    -- one cell that is named, or none
    filled_one : (l : CoreLeft) (k : Pick) (m : ℕ) → k ≡ (taken_of l).pick → cells_of cs (taken_of l).left ≡ root_of cs m ∷ [] → is_single cs (taken_of l).left ≡ true
        → is_plain_pick cs (taken_of l).left k ≡ true → is_at x (filled_by known l (single (Some m))) ≡ among x (whole_writes cs (taken_of l).left k)
    filled_one l k m is cells_are alone plain = by (nat_eq x m) refl
      where
        written : whole_writes cs (taken_of l).left k ≡ if_all (has_sort is_root cs (root_of cs m) || (is_single cs (taken_of l).left && is_all cs (width_at cs (root_of cs m)) k)) (root_of cs m)
        written = ap (whole_of cs (taken_of l).left k) cells_are

        met : (root_of cs m ≡ m) × (x ≡ m) → (o : Option Cell) → slice_get cells m ≡ o → is_at x (if fills_cell known l (record { base = m; dims = [] }) o then Some m else None) ≡ among x (whole_writes cs (taken_of l).left k)
        met h None e = absurd (never (nat_eq x m) (past_number cs i x m number (slice_get-map cell_of cells m ∙ ap (option_map cell_of) e)) (ap (λ z. nat_eq z m) h.1 ∙ same_test m))
        met h (Some c) e =
            let here = cells_are ∙ ap (λ r. r ∷ []) h.0 in
            let root = subst (λ z. has_sort is_root cs z ≡ false) h.1 (not_root cs ps fit i x number) in
            ap (λ b. is_at x (if b then Some m else None)) (all_same l m c.kind k (width_here m c e) (narrow m c e) is here plain)
            ∙ same_answer x m (is_all cs (width_at cs m) k)
            ∙ ap (λ b. among x (if_all b m)) (ap (λ b. b && is_all cs (width_at cs m) k) (sym alone) ∙ ap (λ b. b || (is_single cs (taken_of l).left && is_all cs (width_at cs m) k)) (sym root))
            ∙ ap (λ r. among x (if_all (has_sort is_root cs r || (is_single cs (taken_of l).left && is_all cs (width_at cs r) k)) r)) (sym h.0)
            ∙ ap (among x) (sym written)

        by : (b : Bool) → nat_eq x m ≡ b → is_at x (filled_by known l (single (Some m))) ≡ among x (whole_writes cs (taken_of l).left k)
        by true e = ap (λ o. is_at x (if fills_cell known l (record { base = m; dims = [] }) o then Some m else None)) (ap (λ z. slice_get z m) knows.cells_are)
            ∙ met (root_here cs ps fit i x number m (same_root cs ps fit i x number m ∙ e)) (slice_get cells m) refl
        by false e =
            no_answer x m (fills known l (Some (record { base = m; dims = [] }))) e
            ∙ sym (ap (among x) written ∙ no_cell x (root_of cs m) (has_sort is_root cs (root_of cs m) || (is_single cs (taken_of l).left && is_all cs (width_at cs (root_of cs m)) k)) (same_root cs ps fit i x number m ∙ e))

    fills_same : (l : CoreLeft) (k : Pick) → k ≡ (taken_of l).pick → is_plain_pick cs (taken_of l).left k ≡ true → Names known cells l → is_at x (filled_in known l) ≡ among x (whole_writes cs (taken_of l).left k)
    unfolding filled_in
    fills_same l k is plain (one None named cells_are alone below) = ap (λ o. is_at x (filled_by known l o)) named ∙ ap (λ ns. among x (whole_of cs (taken_of l).left k ns)) (sym cells_are)
    fills_same l k is plain (one (Some m) named cells_are alone below) = ap (λ o. is_at x (filled_by known l o)) named ∙ filled_one l k m is cells_are alone plain
    fills_same l k is plain (past n named e cells_are) =
        ap (λ o. is_at x (filled_by known l o)) named
        ∙ no_answer x n (fills known l (Some (record { base = n; dims = [] }))) (past_number cs i x n number e)
        ∙ ap (λ ns. among x (whole_of cs (taken_of l).left k ns)) (sym cells_are)

  -- ---- statements

  plain_use : (us : List Use) (u : Use) → list_all (λ v. is_plain v.left) us ≡ true → OneOf u us → is_plain u.left ≡ true
  plain_use [] u h o = absurd o
  plain_use (v ∷ us) u h (inl e) = ap (λ z. is_plain z.left) e ∙ and_first (is_plain v.left) _ h
  plain_use (v ∷ us) u h (inr o) = plain_use us u (and_second (is_plain v.left) _ h) o

  told_left : (i : ℕ) (left : Left) (l : CoreLeft) → is_plain left ≡ true → left ≡ (taken_of l).left → (x : ℕ) → is_number cs i x ≡ true → among x (cells_in known l) ≡ among x (cells_of cs left)
  told_left i left l plain is x number =
      names_same known cells knows ps apart fit same i x number l (names known cells knows ps apart fit same l (ap is_plain (sym is) ∙ plain)) ∙ ap (λ z. among x (cells_of cs z)) (sym is)

  told_uses : (i : ℕ) (us : List Use) → list_all (λ v. is_plain v.left) us ≡ true → TellsUses known cs (is_number cs i) us
  told_uses i us h l u o is x number = told_left i u.left l (plain_use us u h o) is x number

  told_writes : (i : ℕ) (w : Option (Left × Pick)) → is_plain_write cs w ≡ true → TellsWrites known cs (is_number cs i) w
  told_writes i None h = tt
  told_writes i (Some w) h =
      let plain = and_first (is_plain w.0) _ h in
      let pick = and_second (is_plain w.0) _ h in
      record {
        names = λ l is x number. told_left i w.0 l plain is x number;
        fills = λ l is k x number.
            fills_same i x number l w.1 k (ap (λ z. is_plain_pick cs z w.1) (sym is) ∙ pick) (names known cells knows ps apart fit same l (ap is_plain (sym is) ∙ plain))
            ∙ ap (λ z. among x (whole_writes cs z w.1)) (sym is);
      }

  pub told_acts : (i : ℕ) (rest : List Act) → list_all (is_plain_act cs) rest ≡ true → Each (TellsAct known cs (is_number cs i)) rest
  told_acts i [] h = tt
  told_acts i (a ∷ rest) h =
      let here = and_first (is_plain_act cs a) _ h in (
        record {
          reads = told_uses i a.reads (and_first (list_all (λ v. is_plain v.left) a.reads) _ here);
          writes = told_writes i a.writes (and_second (list_all (λ v. is_plain v.left) a.reads) _ here);
        },
        told_acts i rest (and_second (is_plain_act cs a) _ h),
      )
