-- What a combinational method asks depends only on the roots that it reads.
use Rattle.std.proofs.Common.{◌≡◌, ℕ, Bool, true, false, not, ◌&&◌, ◌||◌, nat_eq, List, [], ◌∷◌, ◌++◌, flat_map, Option, Some, None, refl, sym, ap, ◌∙◌, subst, subst₂, if◌then◌else◌, slice_get, is_some, ◌⊎◌, inl, inr}
use Rattle.std.specs.Prelude.{option_map, unwrap_or}
use Rattle.std.proofs.lemmas.List.Folds.{list_any-append}
use Rattle.scc_semantics.specs.Process.{State, Phase}
use Rattle.scc_core_spec.specs.Code.{Code, End, Put, Aim, If, Block, Loop, Exit, Wait}
use Rattle.scc_core_spec.specs.Program as program
use Rattle.scc_core_spec.specs.Program.{Program, Process, Edge, is_root, is_variable, is_local, is_number, is_held, is_combinational, is_combinational_by}
use Rattle.scc_core_spec.specs.Static.{Cells}
use Rattle.scc_core_spec.specs.Live.{live}
use Rattle.scc_core_spec.specs.Flow.{CellSet, flow, every}
use Rattle.scc_core_spec.specs.Uses.{Use, Act, acts, loads, inside, cells_of, reads_of, writes_of, has_sort, among}
use Rattle.scc_core_spec.specs.Uses as uses
use Rattle.scc_core_spec.specs.Clashes.{names_of}
use Rattle.scc_core_spec.specs.Kept.{written_by, is_kept}
use Rattle.scc_core_spec.specs.Source.{Home}
use Rattle.scc_blocks_spec.specs.Acting.{Acting, latest}
use Rattle.scc_blocks_spec.specs.Effect.{Effect, Fell, Left_out, Lost, effect}
use Rattle.scc_blocks_spec.specs.Passed.{all_reads, all_named}
use Rattle.scc_blocks_spec.specs.Turns.{Regs, Taking, Left as Leaving, constant_at, lasts, found, is_clocked, method_left, thread_turn, turn, reset_at}
use Rattle.scc_blocks_spec.specs.Tied.{Tied}
use Rattle.scc_core_effect_laws.specs.Sound.{SoundPut, SoundTest, Each, FitWords, FixedWords}
use Rattle.scc_core_effect_laws.specs.Alike.{Both, Alike, Unseen}
use Rattle.scc_core_effect_laws.specs.Follows.{IsSoundCore, Obeys, Does, Tracks}
use Rattle.scc_core_effect_laws.specs.Ordering.{IsOrdered, Answers}
use Rattle.scc_core_effect_laws.proofs.Names.{and-second, or-left, some-same, none-some, true-false}
use Rattle.scc_core_effect_laws.proofs.Lateness.{any-false}
use Rattle.scc_core_effect_laws.proofs.Unsure.{flat-in, sort-of, has-sort, number-two, number-no-root, variable-written, written-named, flat-more}
use Rattle.scc_core_laws.proofs.Found.{HaveRun, Middle, both, number-held}
use Rattle.scc_core_laws.proofs.Resumes.{resumes}
use Rattle.scc_core_effect_laws.proofs.Framed.{AllBlind, framed-effect}
use Rattle.scc_core_effect_laws.proofs.Latched.{ReachedBy, effect-asks}
use Rattle.scc_core_effect_laws.proofs.Moved.{among-first, among-second, split-reads, Within, all-within, AnyTest}

module _ (cs : Cells) (z : CellSet) where
  -- reads of which none is in the set
  no-use : (us : List Use) → ((x : ℕ) → among x (flat_map (λ u. cells_of cs u.left) us) ≡ true → z x ≡ false) → Unseen cs z us
  no-use [] h = tt
  no-use (u ∷ us) h = (any-false z (cells_of cs u.left) (λ n e. h n (among-first n (cells_of cs u.left) _ e)), no-use us (λ x e. h x (among-second x (cells_of cs u.left) _ e)))

  abbrev reads : List Act → List ℕ
  reads xs = flat_map (reads_of cs) xs

  -- sound code that reads none of these, and writes within w
  pub all-blind : (c : Code) (w : ℕ → Bool) → Each (SoundPut cs) (SoundTest cs) c → Each (Within cs w) AnyTest c → ((x : ℕ) → w x ≡ true → z x ≡ true → has_sort is_held cs x ≡ true → has_sort is_root cs x ≡ true)
      → ((x : ℕ) → among x (reads (acts c)) ≡ true → z x ≡ false) → AllBlind cs z c
  all-blind End w s v r h = tt
  all-blind (Put p l k e c) w s v r h =
      let us = inside l ++ (uses.picked k ++ loads e) in (
        record { sound = s.0; unseen = no-use us (λ x q. h x (among-first x (flat_map (λ u. cells_of cs u.left) us) _ q)); roots = λ x q m. r x (v.0.within x q) m (s.0.held x q) },
        all-blind c w s.1 v.1 r (λ x q. h x (among-second x (flat_map (λ u. cells_of cs u.left) us) _ q)),
      )
  all-blind (Aim p to t c) w s v r h = all-blind c w s v r (λ x q. h x (among-second x (flat_map (λ u. cells_of cs u.left) (inside t)) _ q))
  all-blind (If p t a b c) w s v r h =
      let us = flat_map (λ u. cells_of cs u.left) (loads t) in
      let more : (x : ℕ) → among x (reads (acts a) ++ reads (acts b ++ acts c)) ≡ true → z x ≡ false = λ x q. h x (among-second x us _ (split-reads cs x (acts a) (acts b ++ acts c) q)) in
      let last : (x : ℕ) → among x (reads (acts b) ++ reads (acts c)) ≡ true → z x ≡ false = λ x q. more x (among-second x (reads (acts a)) _ (split-reads cs x (acts b) (acts c) q)) in (
        (s.0, no-use (loads t) (λ x q. h x (among-first x us _ q))),
        all-blind a w s.1 v.1 r (λ x q. more x (among-first x (reads (acts a)) _ q)),
        all-blind b w s.2 v.2 r (λ x q. last x (among-first x (reads (acts b)) _ q)),
        all-blind c w s.3 v.3 r (λ x q. last x (among-second x (reads (acts b)) _ q)),
      )
  all-blind (Block p b c) w s v r h =
      let last : (x : ℕ) → among x (reads (acts b) ++ reads (acts c)) ≡ true → z x ≡ false = λ x q. h x (split-reads cs x (acts b) (acts c) q) in
      (all-blind b w s.0 v.0 r (λ x q. last x (among-first x (reads (acts b)) _ q)), all-blind c w s.1 v.1 r (λ x q. last x (among-second x (reads (acts b)) _ q)))
  all-blind (Loop p n b c) w s v r h =
      let last : (x : ℕ) → among x (reads (acts b) ++ reads (acts c)) ≡ true → z x ≡ false = λ x q. h x (split-reads cs x (acts b) (acts c) q) in
      (all-blind b w s.0 v.0 r (λ x q. last x (among-first x (reads (acts b)) _ q)), all-blind c w s.1 v.1 r (λ x q. last x (among-second x (reads (acts b)) _ q)))
  all-blind (Exit p n c) w s v r h = all-blind c w s v r h
  all-blind (Wait p l n c) w s v r h = all-blind c w s v r h

module _ (home : Home) (p : Program) (resolved : IsSoundCore home p) (obeys : Obeys p) (bounds : ℕ → ℕ) (does : Does home p bounds) (tracks : Tracks home p bounds) (order : List ℕ) (ordered : IsOrdered p order) where
  abbrev cs : Cells
  cs = p.cells

  abbrev combs : Taking
  combs i q = is_combinational q

  -- what the method doesn't read, but for the numbers that it names
  abbrev hidden : Process → CellSet
  hidden q c = not (among c (all_reads cs q)) && not (has_sort is_number cs c && among c (all_named cs q))

  first-at : (s : State) → Phase
  first-at s = record { held = record { store = s.store; requests = [] }; frames = s.frames }

  none-ran : HaveRun
  none-ran j r = ⊥

  middle-at : (s : State) (g : Regs) (tied : Tied home p s g) → Middle home p resolved obeys none-ran s g tied (first-at s)
  unfolding first-at
  middle-at s g tied = record {
    numbers = λ c x e n u. refl;
    roots = λ c x e r. refl;
    asked = λ c x w e r u. refl;
    unasked = λ c x w e n. refl;
    fit = λ c x e n. tied.proper c x e (number-held x.sort n);
    fit_asked = λ c x w e r f. f;
    frames = λ j r e n. refl;
  }

  anew : (i : ℕ) (q : Process) → is_some q.edge ≡ true → none-ran i q → ⊥
  unfolding none-ran
  anew i q e b = b

  -- a tied turn of a method falls through
  falls : (s : State) (g : Regs) → Tied home p s g → (i : ℕ) (q : Process) → slice_get p.processes i ≡ Some q → q.is_thread ≡ false
      → (b : Acting) × (effect cs (live cs q.body) (found p i q g) ≡ Fell b) × (turn p i q g ≡ Some (record { acting = b; place = None }))
  falls s g tied i q here m =
      let z = resumes home p resolved obeys bounds does tracks none-ran s g tied i q here (first-at s) (middle-at s g tied) (anew i q) in
      let turned : turn p i q g ≡ method_left (effect cs (live cs q.body) (found p i q g)) =
      ap (λ b. if b then thread_turn cs q (reset_at g.word q.reset) (g.place i) (found p i q g) else method_left (effect cs (live cs q.body) (found p i q g))) m in
      let e = by (effect cs (live cs q.body) (found p i q g)) z.left (sym turned ∙ z.resumed.turned) in
      (e.0, e.1, turned ∙ ap method_left e.1)
    where
      by : (o : Effect) (l : Leaving) → method_left o ≡ Some l → (b : Acting) × (o ≡ Fell b)
      by (Fell b) l e = (b, refl)
      by (Left_out n b) l e = none-some l e
      by Lost l e = none-some l e

  comb-two : (t : Bool) (o : Option Edge) → is_combinational_by t o ≡ true → (t ≡ false) × (o ≡ None)
  comb-two true o e = true-false (sym e)
  comb-two false (Some d) e = true-false (sym e)
  comb-two false None e = (refl, refl)

  read-named : (q : Process) (c : ℕ) → among c (all_reads cs q) ≡ true → among c (all_named cs q) ≡ true
  read-named q c e = flat-more (reads_of cs) (names_of cs) c (acts (live cs q.body)) (λ a m. list_any-append (nat_eq c) (reads_of cs a) (writes_of cs a) ∙ or-left _ _ m) e

  no-local : (i c : ℕ) (q : Process) → has_sort is_local cs c ≡ true → has_sort is_root cs c ≡ false → q.is_thread ≡ false → lasts cs i q c ≡ false
  no-local i c q l r t = (λ j. r j || (if l j then t j && is_kept cs i q c else not (among c (written_by cs q)) || (if t j then is_kept cs i q c else is_clocked q.edge)))

  no-variable : (i c : ℕ) (q : Process) → has_sort is_local cs c ≡ false → has_sort is_root cs c ≡ false → q.is_thread ≡ false → q.edge ≡ None → among c (written_by cs q) ≡ true → lasts cs i q c ≡ false
  no-variable i c q l r t e w = (λ j. r j || (if l j then t j && is_kept cs i q c else not (w j) || (if t j then is_kept cs i q c else is_clocked (e j))))

  variable-no-local : (s : program.Sort) → is_variable s ≡ true → is_local s ≡ false
  variable-no-local (program.Variable w f) e = refl
  variable-no-local program.Input e = refl
  variable-no-local program.Output e = refl
  variable-no-local program.Signal e = refl
  variable-no-local (program.Local j) e = true-false (sym e)
  variable-no-local (program.Pointer t) e = refl
  variable-no-local (program.Port r) e = refl

  held-root : (s : program.Sort) → is_held s ≡ true → is_number s ≡ false → is_root s ≡ true
  held-root s h n = by (is_root s) h
    where
      by : (b : Bool) → (b || is_number s) ≡ true → b ≡ true
      by true h = refl
      by false h = true-false (sym h ∙ n)

  agree-found : (g h : Regs) (i : ℕ) (q : Process) → slice_get p.processes i ≡ Some q → is_combinational q ≡ true → ((c : ℕ) → among c (all_reads cs q) ≡ true → has_sort is_root cs c ≡ true → g.word c ≡ h.word c)
      → (c : ℕ) → hidden q c ≡ false → (found p i q g).now c ≡ (found p i q h).now c
  agree-found g h i q here comb agree c e = by (has_sort is_number cs c) refl (constant_at p c) refl
    where
      two : (q.is_thread ≡ false) × (q.edge ≡ None)
      two = comb-two q.is_thread q.edge comb

      split : (a b n : Bool) → n ≡ true → (not a && not (n && b)) ≡ false → (a ≡ true) ⊎ (b ≡ true)
      split true b n m e = inl refl
      split false true n m e = inr refl
      split false false true m e = true-false e
      split false false false m e = true-false (sym m)

      split-read : (a b n : Bool) → n ≡ false → (not a && not (n && b)) ≡ false → a ≡ true
      split-read true b n m e = refl
      split-read false b true m e = true-false m
      split-read false b false m e = true-false e

      named : has_sort is_number cs c ≡ true → among c (all_named cs q) ≡ true
      named n = ways (split (among c (all_reads cs q)) (among c (all_named cs q)) (has_sort is_number cs c) n e)
        where
          ways : ((among c (all_reads cs q) ≡ true) ⊎ (among c (all_named cs q) ≡ true)) → among c (all_named cs q) ≡ true
          ways (inl r) = read-named q c r
          ways (inr m) = m

      read : has_sort is_number cs c ≡ false → among c (all_reads cs q) ≡ true
      read n = split-read (among c (all_reads cs q)) (among c (all_named cs q)) (has_sort is_number cs c) n e

      root : has_sort is_number cs c ≡ false → has_sort is_root cs c ≡ true
      root n =
          let x = sort-of is_held cs c (ordered.reads_held i c q here (read n)) in
          has-sort is_root cs c x.0 x.1 ∙ held-root x.0.sort x.2 (sym (has-sort is_number cs c x.0 x.1) ∙ n)

      none-lasts : has_sort is_number cs c ≡ true → constant_at p c ≡ None → lasts cs i q c ≡ false
      none-lasts n k = sorts (sort-of is_number cs c n)
        where
          sorts : ((x : program.Cell) × (slice_get cs c ≡ Some x) × (is_number x.sort ≡ true)) → lasts cs i q c ≡ false
          sorts x = ways (number-two x.0.sort x.2)
            where
              no-root : has_sort is_root cs c ≡ false
              no-root = has-sort is_root cs c x.0 x.1 ∙ number-no-root x.0.sort x.2

              ways : ((is_variable x.0.sort ≡ true) ⊎ (is_local x.0.sort ≡ true)) → lasts cs i q c ≡ false
              ways (inr l) = no-local i c q (has-sort is_local cs c x.0 x.1 ∙ l) no-root two.0
              ways (inl v) =
                  let r = flat-in (written_by cs) c p.processes (variable-written p c x.0 x.1 v (ap is_some k)) in
                  let same : i ≡ r.0 = obeys.shared i r.0 c q r.1 here r.2 (has-sort is_variable cs c x.0 x.1 ∙ v) (named n) r.3 in
                  let equal : q ≡ r.1 = some-same q r.1 (sym here ∙ ap (slice_get p.processes) same ∙ r.2) in
                  no-variable i c q (has-sort is_local cs c x.0 x.1 ∙ variable-no-local x.0.sort v) no-root two.0 two.1 (ap (λ r. among c (written_by cs r)) equal ∙ r.3)

      by : (n : Bool) → has_sort is_number cs c ≡ n → (o : Option ℕ) → constant_at p c ≡ o → (found p i q g).now c ≡ (found p i q h).now c
      by n m (Some w) k = ap (λ o. unwrap_or o (if lasts cs i q c then g.word c else 0)) k ∙ sym (ap (λ o. unwrap_or o (if lasts cs i q c then h.word c else 0)) k)
      by false m None k = ap (λ w. unwrap_or (constant_at p c) (if lasts cs i q c then w else 0)) (agree c (read m) (root m))
      by true m None k =
          ap (λ b. unwrap_or (constant_at p c) (if b then g.word c else 0)) (none-lasts m k) ∙ sym (ap (λ b. unwrap_or (constant_at p c) (if b then h.word c else 0)) (none-lasts m k))

  pub tied-answers : (s : State) (g : Regs) → Tied home p s g → Answers p g
  tied-answers s g tied = record {
    fit = λ i q here comb. (both home p resolved obeys none-ran s g tied i q here (first-at s) (middle-at s g tied) (anew i q)).fit_too;
    fixed = λ i q here comb. (both home p resolved obeys none-ran s g tied i q here (first-at s) (middle-at s g tied) (anew i q)).fixed_too;
    falls = λ i q here comb. let f = falls s g tied i q here (comb-two q.is_thread q.edge comb).0 in (f.0, f.1);
  }

  answer-turn : (g : Regs) → Answers p g → (i : ℕ) (q : Process) → slice_get p.processes i ≡ Some q → is_combinational q ≡ true
      → (b : Acting) × (effect cs (live cs q.body) (found p i q g) ≡ Fell b) × (turn p i q g ≡ Some (record { acting = b; place = None }))
  answer-turn g known i q here comb =
      let f = known.falls i q here comb in
      (f.0, f.1, ap (λ b. if b then thread_turn cs q (reset_at g.word q.reset) (g.place i) (found p i q g) else method_left (effect cs (live cs q.body) (found p i q g))) (comb-two q.is_thread q.edge comb).0 ∙ ap method_left f.1)

  -- the word that a method gives a root that it writes
  pub same-asked : (g h : Regs) → Answers p g → Answers p h → (i x : ℕ) (q : Process) → slice_get p.processes i ≡ Some q → is_combinational q ≡ true → has_sort is_root cs x ≡ true → among x (written_by cs q) ≡ true
      → ((c : ℕ) → among c (all_reads cs q) ≡ true → has_sort is_root cs c ≡ true → g.word c ≡ h.word c)
      → unwrap_or (option_map (λ l. latest l.acting x) (turn p i q g)) (g.word x) ≡ unwrap_or (option_map (λ l. latest l.acting x) (turn p i q h)) (h.word x)
  same-asked g h known known' i x q here comb root mine agree =
      ap (λ o. unwrap_or (option_map (λ l. latest l.acting x) o) (g.word x)) fg.2 ∙ same fg.0 fh.0 (subst₂ (Alike cs (hidden q) (λ n. hidden q)) fg.1 fh.1 framed) (asked-by g fg.0 fg.1 bg) (asked-by h fh.0 fh.1 bh)
      ∙ sym (ap (λ o. unwrap_or (option_map (λ l. latest l.acting x) o) (h.word x)) fh.2)
    where
      two : (q.is_thread ≡ false) × (q.edge ≡ None)
      two = comb-two q.is_thread q.edge comb

      c : Code
      c = live cs q.body

      fg : (b : Acting) × (effect cs (live cs q.body) (found p i q g) ≡ Fell b) × (turn p i q g ≡ Some (record { acting = b; place = None }))
      fg = answer-turn g known i q here comb

      fh : (b : Acting) × (effect cs (live cs q.body) (found p i q h) ≡ Fell b) × (turn p i q h ≡ Some (record { acting = b; place = None }))
      fh = answer-turn h known' i q here comb

      bg : FitWords cs (found p i q g) × FixedWords cs (found p i q g)
      bg = (known.fit i q here comb, known.fixed i q here comb)

      bh : FitWords cs (found p i q h) × FixedWords cs (found p i q h)
      bh = (known'.fit i q here comb, known'.fixed i q here comb)

      hidden-root : (y : ℕ) → among y (written_by cs q) ≡ true → hidden q y ≡ true → has_sort is_held cs y ≡ true → has_sort is_root cs y ≡ true
      hidden-root y w e k =
          let x = sort-of is_held cs y k in
          has-sort is_root cs y x.0 x.1 ∙ held-root x.0.sort x.2 (sym (has-sort is_number cs y x.0 x.1) ∙ no-number (has_sort is_number cs y) (among y (all_named cs q)) (written-named home p resolved obeys q y w) (and-second (not (among y (all_reads cs q))) _ e))
        where
          no-number : (n b : Bool) → b ≡ true → not (n && b) ≡ true → n ≡ false
          no-number true true m e = true-false (sym e)
          no-number true false m e = true-false (sym m)
          no-number false b m e = refl

      blind : AllBlind cs (hidden q) (live cs q.body)
      blind = all-blind cs (hidden q) (live cs q.body) (λ y. among y (written_by cs q)) (resolved.sound i q here) (all-within cs (live cs q.body) (λ y. among y (written_by cs q)) (resolved.sound i q here) (λ y e. e)) hidden-root
          (λ y r. ap (λ b. not b && not (has_sort is_number cs y && among y (all_named cs q))) r)

      framed : Alike cs (hidden q) (λ n. hidden q) (effect cs (live cs q.body) (found p i q g)) (effect cs (live cs q.body) (found p i q h))
      framed = framed-effect cs (hidden q) (live cs q.body) (found p i q g) (found p i q h) blind
          (record { asked = λ y. refl; now = agree-found g h i q here comb agree; fit = bg.0; fit_too = bh.0; fixed = bg.1; fixed_too = bh.1 })

      asked-by : (g : Regs) (b : Acting) → effect cs (live cs q.body) (found p i q g) ≡ Fell b → FitWords cs (found p i q g) × FixedWords cs (found p i q g) → is_some (b.asked x) ≡ true
      asked-by g b e w =
          let r = effect-asks cs x root (live cs q.body) every (found p i q g) (ordered.alone i q here comb) (record { asked = λ m. true-false m; fixed = w.1; fit = w.0 }) in
          (subst (ReachedBy cs x root ((flow cs (live cs q.body) every).fall x) (λ n. (flow cs (live cs q.body) every).out n x)) e r).asked (ordered.misses i x q here comb root mine)

      same : (b d : Acting) → Both cs (hidden q) b d → is_some (b.asked x) ≡ true → is_some (d.asked x) ≡ true → latest b x ≡ latest d x
      same b d k m n = by (b.asked x) refl
        where
          by : (o : Option ℕ) → b.asked x ≡ o → latest b x ≡ latest d x
          by None e = true-false (sym m ∙ ap is_some e)
          by (Some w) e = ap (λ o. unwrap_or o (b.now x)) e ∙ sym (ap (λ o. unwrap_or o (d.now x)) (sym (k.asked x) ∙ e))
