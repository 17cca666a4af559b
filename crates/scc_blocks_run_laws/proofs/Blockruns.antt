-- A run of a process's block leaves what its turn leaves.
use Rattle.std.proofs.Common.{◌≡◌, ◌<◌, ◌*◌, ◌+◌, ◌-◌, ◌^◌, ◌||◌, ℕ, zero, suc, nat_eq, Bool, true, false, cond, length, List, [], ◌∷◌, Option, Some, None, slice_get, refl, sym, ap, ◌∙◌, subst, arith, if◌then◌else◌}
use Rattle.std.specs.Prelude.{not, is_some, unwrap_or}
use Rattle.std.proofs.lemmas.Nat.{pow_pos}
use Rattle.scc_svtree.specs.declared.module.SvModule.{SvModule}
use Rattle.scc_svtree.specs.Code.{Code, End, If}
use Rattle.scc_svtree.specs.Running.{run}
use Rattle.scc_svtree.specs.Sizes.{sized, value_of}
use Rattle.scc_svtree.specs.Term.{Term, Literal}
use Rattle.scc_svtree.specs.Mentions.{assigns, code_reads}
use Rattle.scc_svtree.specs.Variables.{width_at as width_of_variable}
use Rattle.scc_svtree.proofs.Agree.{or_first, or_second, or_both_false}
use Rattle.scc_svtree.proofs.Kept.{run_keeps}
use Rattle.scc_lower_spec.specs.Gives.{Gives}
use Rattle.scc_lower_spec.proofs.Gives.{gives_own}
use Rattle.scc_core_spec.specs.Program.{Program, Process, is_root, is_held}
use Rattle.scc_core_spec.specs.Kept.{written_by}
use Rattle.scc_core_spec.specs.Live.{live}
use Rattle.scc_core_spec.specs.Uses.{among, has_sort, width_at}
use Rattle.scc_blocks_spec.specs.Acting.{Acting}
use Rattle.scc_blocks_spec.specs.Effect.{Place, Effect, Fell, Left_out, Lost, effect}
use Rattle.scc_blocks_spec.specs.Tied.{Registers, HoldsNumber}
use Rattle.scc_blocks_spec.specs.Turns.{Regs, Left, turn, found, constant_at, lasts, reset_at, method_left, thread_turn, behind_wait, ran_segment, segment_at}
use Rattle.scc_blocks_spec.specs.Shown.{View, Constant, Read, Driven, Delayed, Plain, Next, view_by, view_of, IsView, sight_of, Shows, ShowsCell, IsAsked, state_number, next_state_number, counter_number, next_counter_number}
use Rattle.scc_blocks_spec.specs.Lowered.{Fits}
use Rattle.scc_blocks_run_laws.specs.Pieces.{First, firsts_code, first_at, read_cell, at_level, reset_term, states_code, IsThreadCode, BodyBy}
use Rattle.scc_blocks_run_laws.specs.Blocks.{IsProper, IsPlaceOf, Numbering, IsHere, Stays, Copies, HasVariables, HasOwn, if_wide, IsBlock}
use Rattle.scc_blocks_run_laws.specs.Follows.{IsSteady}
use Rattle.scc_blocks_run_laws.specs.Leaves.{SeesCell, LeavesCell, LeavesOwn, Sees, IsReady, LeavesTurn}
use Rattle.scc_blocks_run_laws.proofs.Renaming.{run_renamed}
use Rattle.scc_blocks_run_laws.proofs.Firsts.{firsts_run, firsts-then, first-keeps, first-zero, first-copies}
use Rattle.scc_blocks_run_laws.proofs.Words.{variable-gives, literal-gives, not-test}
use Rattle.scc_blocks_run_laws.proofs.Segments.{Holds, HasWidth, Comes}
use Rattle.scc_blocks_run_laws.proofs.Threads.{Begins, segment-left, states-come}

pub view-is : (p : Program) (i : ℕ) (q : Process) (c : ℕ) → IsView p i q c (view_of p i q c)
view-is p i q c = go (constant_at p c) refl (has_sort is_root p.cells c) refl (among c (written_by p.cells q)) refl (is_some q.edge) refl (lasts p.cells i q c) refl
  where
    go : (o : Option ℕ) → constant_at p c ≡ o → (s : Bool) → has_sort is_root p.cells c ≡ s → (w : Bool) → among c (written_by p.cells q) ≡ w → (k : Bool) → is_some q.edge ≡ k → (l : Bool) → lasts p.cells i q c ≡ l
        → IsView p i q c (view_by o s w k l)
    go (Some n) a s b w d k e l f = a
    go None a true b false d k e l f = (a, b, d)
    go None a true b true d false e l f = (a, b, d, e)
    go None a true b true d true e l f = (a, b, d, e)
    go None a false b w d k e true f = (a, b, f)
    go None a false b w d k e false f = (a, b, f)

module _ (p : Program) (r : Registers) (i : ℕ) (q : Process) (g : Regs) where
  -- what a process finds in a cell
  pub find-kept : (c : ℕ) → constant_at p c ≡ None → lasts p.cells i q c ≡ true → (found p i q g).now c ≡ g.word c
  find-kept c a l = λ j. unwrap_or (a j) (if l j then g.word c else 0)

  find-root : (c : ℕ) → constant_at p c ≡ None → has_sort is_root p.cells c ≡ true → (found p i q g).now c ≡ g.word c
  find-root c a s = find-kept c a (or_first (has_sort is_root p.cells c) _ s)

  pub find-constant : (c w : ℕ) → constant_at p c ≡ Some w → (found p i q g).now c ≡ w
  find-constant c w a = ap (λ o. unwrap_or o (if lasts p.cells i q c then g.word c else 0)) a

  find-none : (c : ℕ) → constant_at p c ≡ None → lasts p.cells i q c ≡ false → (found p i q g).now c ≡ 0
  find-none c a l = λ j. unwrap_or (a j) (if l j then g.word c else 0)

  word-fits : ((c w : ℕ) → constant_at p c ≡ Some w → w < 2 ^ width_at p.cells c) → IsProper p r g → (c : ℕ) → has_sort is_held p.cells c ≡ true → (o : Option ℕ) → constant_at p c ≡ o → (b : Bool) → lasts p.cells i q c ≡ b → (found p i q g).now c < 2 ^ width_at p.cells c
  word-fits known pr c h (Some w) a b e = let P : ℕ → Type 0 = λ x. x < 2 ^ width_at p.cells c in subst P (sym (find-constant c w a)) (known c w a)
  word-fits known pr c h None a true e = let P : ℕ → Type 0 = λ x. x < 2 ^ width_at p.cells c in subst P (sym (find-kept c a e)) (pr.held c h)
  word-fits known pr c h None a false e = let P : ℕ → Type 0 = λ x. x < 2 ^ width_at p.cells c in subst P (sym (find-none c a e)) (pow_pos (width_at p.cells c))

  pub found-fits : ((c w : ℕ) → constant_at p c ≡ Some w → w < 2 ^ width_at p.cells c) → IsProper p r g → Fits (sight_of p i q) (found p i q g)
  found-fits known pr = record {
    words = λ c h. word-fits known pr c h (constant_at p c) refl (lasts p.cells i q c) refl;
    asks = λ c w e a. absurd (cc);
    roots = λ c e. refl;
  }

first-or-assigned : (width : ℕ → ℕ) (fs : List First) (rest : Code) (y : ℕ → ℕ) (v : ℕ) → assigns (firsts_code width fs rest) v ≡ false → firsts_run width fs y v ≡ y v
first-or-assigned width fs rest y v h = run_keeps width (firsts_code width fs End) y v (end fs h)
  where
    end : (fs : List First) → assigns (firsts_code width fs rest) v ≡ false → assigns (firsts_code width fs End) v ≡ false
    end [] h = refl
    end (f ∷ fs) h = let t = or_both_false (nat_eq f.target v) (assigns (firsts_code width fs rest) v) h in λ j. t.0 j || end fs t.1 j

module _ (p : Program) (r : Registers) (m : SvModule) (i : ℕ) (q : Process) (code : Code) (b : IsBlock p r m i q code) (g : Regs) (st : IsSteady p r) (pr : IsProper p r g) (x : ℕ → ℕ) (sees : Sees p r i q x g) where
  abbrev n : Numbering
  n = b.numbers

  -- the module's valuation by the numbers of the lowering; 0 at what isn't declared
  abbrev as_lowered : ℕ → ℕ
  as_lowered v = cond (n.declared v) (x (n.id v)) 0

  lowered-is : (v : ℕ) → n.declared v ≡ true → as_lowered v ≡ x (n.id v)
  lowered-is v h = ap (λ b. cond b (x (n.id v)) 0) h

  abbrev behind_firsts : ℕ → ℕ
  behind_firsts = firsts_run n.width n.firsts as_lowered

  renamed : (v : ℕ) → n.declared v ≡ true → run (width_of_variable m.vars) code x (n.id v) ≡ run n.width b.body behind_firsts v
  renamed v h =
      let whole : Code = firsts_code n.width n.firsts b.body in
      ap (λ c. run (width_of_variable m.vars) c x (n.id v)) b.is_code
      ∙ run_renamed n.id n.declared b.injective (width_of_variable m.vars) n.width b.widths whole x as_lowered
      (λ u e. b.mentioned u (or_first (code_reads whole u) (assigns whole u) e)) (λ u e. b.mentioned u (or_second (code_reads whole u) (assigns whole u) e)) (λ u e. sym (lowered-is u e)) v h
      ∙ ap (λ f. f v) (firsts-then n.width n.firsts b.body as_lowered)

  zero-at : (v : ℕ) → (n.declared v ≡ true → first_at n.firsts v ≡ Some None) → behind_firsts v ≡ 0
  zero-at v h = go (n.declared v) refl
    where
      go : (d : Bool) → n.declared v ≡ d → behind_firsts v ≡ 0
      go true e = first-zero n.width n.firsts as_lowered v (h e)
      go false e = first-or-assigned n.width n.firsts b.body as_lowered v none ∙ ap (λ b. cond b (x (n.id v)) 0) e
        where
          whole : Code
          whole = firsts_code n.width n.firsts b.body

          none : assigns whole v ≡ false
          none = by (assigns whole v) refl
            where
              by : (a : Bool) → assigns whole v ≡ a → assigns whole v ≡ false
              by false f = f
              by true f = let t : n.declared v ≡ true = b.mentioned v (or_second (code_reads whole v) (assigns whole v) f) in absurd (cc)

  kept-at : (c w v word : ℕ) → IsHere r n w c v → Stays n v → ((u : ℕ) → r.variable c ≡ Some u → x u ≡ word) → behind_firsts v ≡ word
  kept-at c w v word h s k = first-keeps n.width n.firsts as_lowered v s ∙ lowered-is v h.0 ∙ k (n.id v) h.1

  copied-at : (c w v u word : ℕ) → IsHere r n w c v → Copies n w u v → word < 2 ^ w → ((u : ℕ) → r.variable c ≡ Some u → x u ≡ word) → behind_firsts u ≡ word
  copied-at c w v u word h k l s =
      let e : as_lowered v ≡ word = lowered-is v h.0 ∙ s (n.id v) h.1 in
      let P : ℕ → Type 0 = λ y. word < 2 ^ y in
      let Q : ℕ → Type 0 = λ y. y < 2 ^ n.width v in
      first-copies n.width n.firsts b.sources as_lowered u v k.1 (k.2 ∙ sym h.2) (subst Q (sym e) (subst P (sym h.2) l)) ∙ e

  cell-shows : (c : ℕ) (v : View) → IsView p i q c v → HasVariables r n (width_at p.cells c) v c → SeesCell r x g v c → ShowsCell v c (found p i q g) behind_firsts
  cell-shows c (Constant w) a h s = find-constant p r i q g c w a
  cell-shows c Read a h s = kept-at c (width_at p.cells c) (2 * c) (g.word c) h.0 h.1 s ∙ sym (find-root p r i q g c a.0 a.1)
  cell-shows c Driven a h s = tt
  cell-shows c Delayed a h s =
      let f : (found p i q g).now c ≡ g.word c = find-root p r i q g c a.0 a.1 in
      (kept-at c (width_at p.cells c) (2 * c) (g.word c) h.0 h.1 s ∙ sym f, copied-at c (width_at p.cells c) (2 * c) (2 * c + 1) (g.word c) h.0 h.2 (pr.fits c (n.id (2 * c)) h.0.1) s ∙ sym f)
  cell-shows c Plain a h s = zero-at (2 * c) h ∙ sym (find-none p r i q g c a.0 a.2)
  cell-shows c Next a h s = copied-at c (width_at p.cells c) (2 * c) (2 * c + 1) (g.word c) h.0 h.2 (pr.fits c (n.id (2 * c)) h.0.1) s ∙ sym (find-kept p r i q g c a.0 a.2)

  found-shows : Shows (sight_of p i q) (found p i q g) behind_firsts
  found-shows = record {
    cells = λ c e. cell-shows c (view_of p i q c) (view-is p i q c) (b.cells c e) (sees.cells c e);
    leaving = zero-at (2 * length p.cells) b.leaving;
  }

  abbrev fit : Fits (sight_of p i q) (found p i q g)
  fit = found-fits p r i q g st.constants pr

  abbrev finally : ℕ → ℕ
  finally = run (width_of_variable m.vars) code x

  cell-leaves : (c : ℕ) (v : View) (a : Acting) → HasVariables r n (width_at p.cells c) v c → ShowsCell v c a (run n.width b.body behind_firsts) → LeavesCell n finally a v c
  cell-leaves c (Constant w) a h s = tt
  cell-leaves c Read a h s = tt
  cell-leaves c Driven a h s = let P : ℕ → Type 0 = λ y. IsAsked (a.asked c) y in subst P (sym (renamed (2 * c) h.0)) s
  cell-leaves c Delayed a h s = renamed (2 * c + 1) h.2.0 ∙ s.1
  cell-leaves c Plain a h s = tt
  cell-leaves c Next a h s = renamed (2 * c + 1) h.2.0 ∙ s

  own-leaves : (w v u number : ℕ) → HasOwn n w v u → Holds w u number (run n.width b.body behind_firsts) → LeavesOwn n finally w u number
  own-leaves zero v u number h s = tt
  own-leaves (suc w) v u number h s = renamed u h.3.0 ∙ s

  -- widths of a thread's own variables, and what they hold behind the first assignments
  now-wide : (w v u : ℕ) → HasOwn n w v u → HasWidth n.width w v
  now-wide zero v u h = tt
  now-wide (suc w) v u h = h.1

  next-wide : (w v u : ℕ) → HasOwn n w v u → HasWidth n.width w u
  next-wide zero v u h = tt
  next-wide (suc w) v u h = h.3.2

  now-holds : (w v u number : ℕ) → HasOwn n w v u → HoldsNumber x (if_wide w (n.id v)) number → Holds w v number behind_firsts
  now-holds zero v u number h s = s
  now-holds (suc w) v u number h s = first-keeps n.width n.firsts as_lowered v h.2 ∙ lowered-is v h.0 ∙ s

  next-holds : (w v u number : ℕ) → HasOwn n w v u → number < 2 ^ w → HoldsNumber x (if_wide w (n.id v)) number → Holds w u number behind_firsts
  next-holds zero v u number h l s = s
  next-holds (suc w) v u number h l s =
      let e : as_lowered v ≡ number = lowered-is v h.0 ∙ s in
      let P : ℕ → Type 0 = λ y. number < 2 ^ y in
      let Q : ℕ → Type 0 = λ y. y < 2 ^ n.width v in
      first-copies n.width n.firsts b.sources as_lowered u v h.3.1 (h.3.2 ∙ sym h.1) (subst Q (sym e) (subst P (sym h.1) l)) ∙ e

  fell-is : (e : Effect) (l : Left) → method_left e ≡ Some l → e ≡ Fell l.acting
  fell-is (Fell a) l h = let s : record { acting = a; place = None } ≡ l = cc in ap (λ l. Fell l.acting) s
  fell-is (Left_out k a) l h = absurd (cc)
  fell-is Lost l h = absurd (cc)

  method-body : q.is_thread ≡ false → BodyBy false (sight_of p i q) n.width b.wide q b.body
  method-body h = let P : Bool → Type 0 = λ t. BodyBy t (sight_of p i q) n.width b.wide q b.body in subst P h b.is_body

  thread-body : q.is_thread ≡ true → IsThreadCode (sight_of p i q) n.width b.wide q b.body
  thread-body h = let P : Bool → Type 0 = λ t. BodyBy t (sight_of p i q) n.width b.wide q b.body in subst P h b.is_body

  pub method-leaves : (l : Left) → q.is_thread ≡ false → turn p i q g ≡ Some l → LeavesTurn p i q b.wide n l finally
  method-leaves l h t =
      let e : effect p.cells (live p.cells q.body) (found p i q g) ≡ Fell l.acting =
      fell-is (effect p.cells (live p.cells q.body) (found p i q g)) l
      (sym (ap (λ k. if k then thread_turn p.cells q (reset_at g.word q.reset) (g.place i) (found p i q g) else method_left (effect p.cells (live p.cells q.body) (found p i q g))) h) ∙ t) in
      let s : Shows (sight_of p i q) l.acting (run n.width b.body behind_firsts) = (method-body h).shows (found p i q g) l.acting behind_firsts fit found-shows e in
      record {
        cells = λ c k. cell-leaves c (view_of p i q c) l.acting (b.cells c k) (s.cells c k);
        state = λ place k e. absurd (cc);
        counter = λ place k e. absurd (cc);
      }

  module _ (th : q.is_thread ≡ true) where
    abbrev t : IsThreadCode (sight_of p i q) n.width b.wide q b.body
    t = thread-body th

    thread-turns : (l : Left) → turn p i q g ≡ Some l → thread_turn p.cells q (reset_at g.word q.reset) (g.place i) (found p i q g) ≡ Some l
    thread-turns l e = sym (ap (λ k. if k then thread_turn p.cells q (reset_at g.word q.reset) (g.place i) (found p i q g) else method_left (effect p.cells (live p.cells q.body) (found p i q g))) th) ∙ e

    ended : (l : Left) (place : Place) → l.place ≡ Some place → Comes n.width (sight_of p i q) b.wide q l.acting place (run n.width b.body behind_firsts) → LeavesTurn p i q b.wide n l finally
    ended l place e c =
        record {
          cells = λ k h. cell-leaves k (view_of p i q k) l.acting (b.cells k h) (c.shows.cells k h);
          state = λ to k f. let s : place ≡ to = cc in let P : Place → Type 0 = λ a. LeavesOwn n finally b.wide.state next_state_number a.number in
              subst P s (own-leaves b.wide.state state_number next_state_number place.number b.state c.holds.state);
          counter = λ to k f. let s : place ≡ to = cc in let P : Place → Type 0 = λ a. LeavesOwn n finally b.wide.counter next_counter_number a.left in
              subst P s (own-leaves b.wide.counter counter_number next_counter_number place.left b.counter c.holds.counter);
        }

    es : HasWidth n.width b.wide.state state_number
    es = now-wide b.wide.state state_number next_state_number b.state

    en : HasWidth n.width b.wide.state next_state_number
    en = next-wide b.wide.state state_number next_state_number b.state

    fs : HasWidth n.width b.wide.counter counter_number
    fs = now-wide b.wide.counter counter_number next_counter_number b.counter

    fn : HasWidth n.width b.wide.counter next_counter_number
    fn = next-wide b.wide.counter counter_number next_counter_number b.counter

    begins : (place : Place) → g.place i ≡ Some place → IsPlaceOf p.cells q place → Begins n.width (sight_of p i q) b.wide q b.small t.codes t.states es en fs fn place behind_firsts
    begins place e o =
        let hs : HoldsNumber x (if_wide b.wide.state (n.id state_number)) place.number = let P : Option ℕ → Type 0 = λ v. HoldsNumber x v place.number in subst P b.is_state (sees.state place th e) in
        let hc : HoldsNumber x (if_wide b.wide.counter (n.id counter_number)) place.left = let P : Option ℕ → Type 0 = λ v. HoldsNumber x v place.left in subst P b.is_counter (sees.counter place th e) in
        let ls : place.number < 2 ^ b.wide.state = t.states.number_fits place.number o.0 o.1 in
        let top : o.0 - 1 < 2 ^ b.wide.counter = t.states.count_fits place.number o.0 o.1 in
        let less : place.left < o.0 = o.2 in
        let lc : place.left < 2 ^ b.wide.counter = omega arith in
        record {
          state = now-holds b.wide.state state_number next_state_number place.number b.state hs;
          counter = now-holds b.wide.counter counter_number next_counter_number place.left b.counter hc;
          next = record {
            state = next-holds b.wide.state state_number next_state_number place.number b.state ls hs;
            counter = next-holds b.wide.counter counter_number next_counter_number place.left b.counter lc hc;
          };
        }

    -- where no reset is active, the code of the states runs
    goes-on : (l : Left) (to place : Place) (w : reset_at g.word q.reset ≡ false) → slice_get p.processes i ≡ Some q → turn p i q g ≡ Some l → l.place ≡ Some to → g.place i ≡ Some place
        → Comes n.width (sight_of p i q) b.wide q l.acting to (run n.width (states_code b.wide.state t.codes) behind_firsts)
    goes-on l to place w s e f h =
        let o : IsPlaceOf p.cells q place = pr.places i q place s h in
        let bw : behind_wait p.cells q place (found p i q g) ≡ Some l = sym (λ j. thread_turn p.cells q (w j) (h j) (found p i q g)) ∙ thread-turns l e in
        states-come n.width (sight_of p i q) b.wide q b.small t.codes t.states es en fs fn place (found p i q g) l to behind_firsts o (λ k seg a. st.threads i k q seg s th a) fit found-shows (begins place h o) bw f

    -- under a reset the reset segment runs
    resets : (l : Left) (to : Place) (w : reset_at g.word q.reset ≡ true) → t.reset.asynchronous ≡ false → slice_get p.processes i ≡ Some q → turn p i q g ≡ Some l → l.place ≡ Some to
        → Comes n.width (sight_of p i q) b.wide q l.acting to (run n.width t.reset_code behind_firsts)
    resets l to w a s e f =
        let rs : ran_segment p.cells (segment_at p.cells q 0) (found p i q g) ≡ Some l = sym (ap (λ k. thread_turn p.cells q k (g.place i) (found p i q g)) w) ∙ thread-turns l e in
        segment-left n.width (sight_of p i q) b.wide q b.small t.codes t.states es en fs fn t.segment t.reset_code (t.is_reset a) (st.threads i 0 q t.segment s th t.is_first) (found p i q g) l to behind_firsts fit found-shows
        (sym (ap (λ o. ran_segment p.cells o (found p i q g)) t.is_first) ∙ rs) f

    -- the reset's cell as the block reads it
    reset-gives : (c : ℕ) (v : View) → IsView p i q c v → ShowsCell v c (found p i q g) behind_firsts → HasVariables r n (width_at p.cells c) v c → has_sort is_root p.cells c ≡ true → width_at p.cells c ≡ 1
        → (k : ℕ) → g.word c ≡ k → k < 2 → Gives false (sized false n.width behind_firsts (read_cell v c)) 1 k
    reset-gives c (Constant u) a s h o w k e l =
        let f : u ≡ k = sym (pr.constants c u o a) ∙ e in
        let P : ℕ → Type 0 = λ y. Gives false (sized false n.width behind_firsts (Literal 1 y)) 1 k in
        subst P (sym f) (literal-gives n.width behind_firsts 1 k l)
    reset-gives c Read a s h o w k e l = variable-gives n.width behind_firsts (2 * c) 1 k (h.0.2 ∙ w) (s ∙ find-root p r i q g c a.0 a.1 ∙ e) l
    reset-gives c Driven a s h o w k e l = let f : is_some q.edge ≡ true = t.clocked in let f' : is_some q.edge ≡ false = a.3 in absurd (cc)
    reset-gives c Delayed a s h o w k e l = variable-gives n.width behind_firsts (2 * c) 1 k (h.0.2 ∙ w) (s.0 ∙ find-root p r i q g c a.0 a.1 ∙ e) l
    reset-gives c Plain a s h o w k e l = let f : has_sort is_root p.cells c ≡ false = a.1 in absurd (cc)
    reset-gives c Next a s h o w k e l = let f : has_sort is_root p.cells c ≡ false = a.1 in absurd (cc)

    level-tests : (up : Bool) (e : Term) (k : ℕ) → k < 2 → Gives false (sized false n.width behind_firsts e) 1 k → nat_eq (value_of n.width behind_firsts (at_level up e)) 0 ≡ not (nat_eq k (if up then 1 else 0))
    level-tests true e k l h = ap (λ y. nat_eq y 0) (gives_own false (sized false n.width behind_firsts e) 1 k h) ∙ by k l
      where
        by : (k : ℕ) → k < 2 → nat_eq k 0 ≡ not (nat_eq k 1)
        by zero l = refl
        by (suc zero) l = refl
        by (suc (suc k)) l = absurd (omega arith)
    level-tests false e k l h = not-test n.width behind_firsts e k h ∙ by (nat_eq k 0)
      where
        by : (a : Bool) → cond a false true ≡ not a
        by true = refl
        by false = refl

    -- the word of one bit
    small-word : (c : ℕ) (v : View) → IsView p i q c v → HasVariables r n (width_at p.cells c) v c → has_sort is_root p.cells c ≡ true → width_at p.cells c ≡ 1 → g.word c < 2
    small-word c (Constant u) a h o w = let P : ℕ → Type 0 = λ y. y < 2 in let Q : ℕ → Type 0 = λ y. u < 2 ^ y in let z : u < 2 ^ 1 = subst Q w (st.constants c u a) in subst P (sym (pr.constants c u o a)) z
    small-word c Read a h o w = let Q : ℕ → Type 0 = λ y. g.word c < 2 ^ y in subst Q w (pr.fits c (n.id (2 * c)) h.0.1)
    small-word c Driven a h o w = let Q : ℕ → Type 0 = λ y. g.word c < 2 ^ y in subst Q w (pr.fits c (n.id (2 * c)) h.1)
    small-word c Delayed a h o w = let Q : ℕ → Type 0 = λ y. g.word c < 2 ^ y in subst Q w (pr.fits c (n.id (2 * c)) h.0.1)
    small-word c Plain a h o w = let f : has_sort is_root p.cells c ≡ false = a.1 in absurd (cc)
    small-word c Next a h o w = let f : has_sort is_root p.cells c ≡ false = a.1 in absurd (cc)

    reset-tests : t.reset.asynchronous ≡ false → nat_eq (value_of n.width behind_firsts (reset_term (sight_of p i q) t.reset)) 0 ≡ not (reset_at g.word (Some t.reset))
    reset-tests a =
        let c = t.reset.cell in
        let z = t.sees_reset a in
        let v = view_of p i q c in
        let l : g.word c < 2 = small-word c v (view-is p i q c) (b.cells c z.0) z.1 z.2 in
        level-tests t.reset.level (read_cell v c) (g.word c) l (reset-gives c v (view-is p i q c) (found-shows.cells c z.0) (b.cells c z.0) z.1 z.2 (g.word c) refl l)

    abbrev states : Code
    states = states_code b.wide.state t.codes

    body-runs : (k : Bool) → t.reset.asynchronous ≡ k → run n.width b.body behind_firsts ≡ run n.width (if k then states else If (reset_term (sight_of p i q) t.reset) t.reset_code states End) behind_firsts
    body-runs k e = ap (λ c. run n.width c behind_firsts) t.is_code ∙ ap (λ k. run n.width (if k then states else If (reset_term (sight_of p i q) t.reset) t.reset_code states End) behind_firsts) e

    thread-comes : (l : Left) (to : Place) → IsReady i q g → slice_get p.processes i ≡ Some q → turn p i q g ≡ Some l → l.place ≡ Some to → Comes n.width (sight_of p i q) b.wide q l.acting to (run n.width b.body behind_firsts)
    thread-comes l to ready s e f = go (reset_at g.word q.reset) refl (t.reset.asynchronous) refl
      where
        P : (ℕ → ℕ) → Type 0
        P = λ y. Comes n.width (sight_of p i q) b.wide q l.acting to y

        same-reset : reset_at g.word q.reset ≡ reset_at g.word (Some t.reset)
        same-reset = ap (λ o. reset_at g.word o) t.has_reset

        go : (w : Bool) → reset_at g.word q.reset ≡ w → (a : Bool) → t.reset.asynchronous ≡ a → Comes n.width (sight_of p i q) b.wide q l.acting to (run n.width b.body behind_firsts)
        go true w true a = let z : t.reset.asynchronous ≡ false = ready.reset t.reset t.has_reset w in absurd (cc)
        go true w false a =
            subst P (sym (body-runs false a ∙ ap (λ k. cond k (run n.width states behind_firsts) (run n.width t.reset_code behind_firsts)) (reset-tests a ∙ ap not (sym same-reset ∙ w)))) (resets l to w a s e f)
        go false w true a = let pl = ready.place w in subst P (sym (body-runs true a)) (goes-on l to pl.0 w s e f pl.1)
        go false w false a =
            let pl = ready.place w in
            subst P (sym (body-runs false a ∙ ap (λ k. cond k (run n.width states behind_firsts) (run n.width t.reset_code behind_firsts)) (reset-tests a ∙ ap not (sym same-reset ∙ w)))) (goes-on l to pl.0 w s e f pl.1)

    pub thread-leaves : (l : Left) → IsReady i q g → slice_get p.processes i ≡ Some q → turn p i q g ≡ Some l → LeavesTurn p i q b.wide n l finally
    thread-leaves l ready s e = let pl = st.waits i q g l pr s e th in ended l pl.0 pl.1 (thread-comes l pl.0 ready s e pl.1)

  -- a run of the block leaves what the process's turn leaves
  pub block-leaves : (l : Left) → (q.is_thread ≡ true → IsReady i q g) → slice_get p.processes i ≡ Some q → turn p i q g ≡ Some l → LeavesTurn p i q b.wide n l finally
  block-leaves l ready s e = go q.is_thread refl
    where
      go : (k : Bool) → q.is_thread ≡ k → LeavesTurn p i q b.wide n l finally
      go true h = thread-leaves h l (ready h) s e
      go false h = method-leaves l h e
