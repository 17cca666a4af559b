-- Objects of calls that are not refused are chosen by static indices, or by counters that their calls leave alone.
use Rattle.std.proofs.Common.{◌≡◌, inl, ℕ, zero, suc, ◌+◌, ◌≤◌, Bool, true, false, not, ◌&&◌, ◌||◌, List, [], ◌∷◌, ◌++◌, Option, Some, None, option_map, option_and_then, unwrap_or, slice_get, if◌then◌else◌, refl, sym, ap, ◌∙◌, subst, arith}
use Rattle.std.proofs.lemmas.Bool.{eqb-true}
use Rattle.std.specs.Prelude.{nat_le}
use Rattle.std.specs.List.{list_all}
use Rattle.scc_base.specs.declared.refusal.Place.{Place}
use Rattle.scc_base.specs.declared.refusal.Refusal.{Refusal}
use Rattle.scc_base.specs.declared.code.Code.TheVariants as reason
use Rattle.scc_bits_kinds.specs.declared.kind.Kind.{Kind}
use Rattle.scc_core_spec.specs.Term as core
use Rattle.scc_core_spec.specs.First.{or_else, first_of, when, refused}
use Rattle.scc_core_spec.specs.Code as stmt
use Rattle.scc_core_spec.specs.Code.{holds_wait}
use Rattle.scc_core_spec.specs.Counted.{Counter, Setting, Start, Stand, First, Behind, Elsewhere, Counting, behind, counts, counted_by, counter, counter_number, around, uses, times, is_it, own_at, is_cell, is_whole, is_end, is_turning, is_seldom, turns_by, turning_of}
use Rattle.scc_core_spec.specs.Counted as counted
use Rattle.scc_elab_spec.specs.Term.{Left, Argument, Value, Leads, ModuleName}
use Rattle.scc_elab_spec.specs.Program.{Code, End, Declare, Assign, Point, Write, Call, If, Loop, Block, Exit, Return, Wait, Make, Bind, Process, Sensitive, Quiet, Reset, Function, Plain, Member}
use Rattle.scc_elab_spec.specs.Design as design
use Rattle.scc_elab_spec.specs.Design.{Design}
use Rattle.scc_elab_spec.specs.Types.{is_direct}
use Rattle.scc_elab_spec.specs.Numbering.{levels}
use Rattle.scc_elab_spec.specs.Copied.{Here, copied, count_of, left_of, pick_of, target_of, answer_name, local_name}
use Rattle.scc_elab_spec.specs.Bodies.{inside, object_of, result_name, cleared, elements, sizes_of, zeroed, passed, cell_of, pointed, number_kind, aimed, is_first, local_as_whole}
use Rattle.scc_elab_spec.proofs.Chains.{and-first, and-second}
use Rattle.scc_inline_spec.specs.Static.{Chosen, is_static, by_object, by_arguments, begun, chosen_in, chosen_by, setting_in, not_static, first_copied}
use Rattle.scc_inline_spec.specs.Inlined.{body_of, call_of, core_cells, here_of, too_large}
use Rattle.scc_inline_process_laws.specs.SoundCode.{IsWider}
use Rattle.scc_inline_process_laws.specs.Chosen.{reworded}
use Rattle.scc_inline_counter_laws.specs.Even.{is_even, is_even_process}
use Rattle.scc_inline_counter_laws.specs.Choosing.{call_block, AreCounters, guards, IsStill, IsChosenObject, ChoosesCode, ChoosesCall}
use Rattle.scc_inline_counter_laws.proofs.Even.{still-static}
use Rattle.scc_inline_counter_laws.proofs.Bare.{turning-same, waits-same}
use Rattle.scc_inline_counter_laws.proofs.Calm.{N, Calm, is-own, calm-put, calm-aim, calm-if, calm-block, calm-loop, calm-exit, calm-wait, calm-body, AllCalm, Fine, fine-by}

or-none : {A : Type 0} (a b : Option A) → or_else a b ≡ None → (a ≡ None) × (b ≡ None)
or-none None b e = (refl, e)
or-none (Some x) b e = cc

both : (a b : Bool) → a ≡ true → b ≡ true → (a && b) ≡ true
both a b e f = λ z. e z && f z

it-is : (o : ℕ) (m : Option ℕ) → is_it o m ≡ true → m ≡ Some o
it-is o None e = cc
it-is o (Some n) e = ap Some (sym (eqb-true o n e))

-- what a loop is that counts
counted-is : (s : Setting) (ns : List Counter) (w : Stand) (c : Option stmt.Count) (b r : stmt.Code) (g : Counting) → counted_by s ns w c b r ≡ Some g
    → (z : Start) × (k : stmt.Count) × (w ≡ Behind z) × (g.cell ≡ k.cell) × (counts s ns z k b r ≡ true)
counted-is s ns First None b r g e = cc
counted-is s ns First (Some k) b r g e = cc
counted-is s ns Elsewhere None b r g e = cc
counted-is s ns Elsewhere (Some k) b r g e = cc
counted-is s ns (Behind z) None b r g e = cc
counted-is s ns (Behind z) (Some k) b r g e = by (counts s ns z k b r) refl e
  where
    by : (x : Bool) → counts s ns z k b r ≡ x → (if x then Some (record { cell = k.cell; turns = turns_by s.cells ns k.cell z.value (turning_of b) }) else None) ≡ Some g
        → (z' : Start) × (k' : stmt.Count) × (Behind z ≡ Behind z') × (g.cell ≡ k'.cell) × (counts s ns z' k' b r ≡ true)
    by true x e = (z, k, refl, cells e, x)
      where
        cells : Some (record { cell = k.cell; turns = turns_by s.cells ns k.cell z.value (turning_of b) }) ≡ Some g → g.cell ≡ k.cell
        cells e = let same : record { cell = k.cell; turns = turns_by s.cells ns k.cell z.value (turning_of b) } ≡ g = cc in sym (ap (λ g. g.cell) same)
    by false x e = cc

-- its parts
pub record Loops (s : Setting) (z : Start) (k : stmt.Count) (b : stmt.Code) : Type 0 where
  pub waits : holds_wait b ≡ false
  pub begins : is_cell k.cell z.left ≡ true
  pub turns : is_turning k.cell b ≡ true
  pub number : ℕ
  pub numbered : counter_number s k.cell ≡ Some number
  pub few : nat_le (uses s.cells number s.body) 2 ≡ true

counts-is : (s : Setting) (ns : List Counter) (z : Start) (k : stmt.Count) (b r : stmt.Code) → counts s ns z k b r ≡ true → Loops s z k b
counts-is s ns z k b r e =
    let x7 = is_turning k.cell b && is_seldom s (counter_number s k.cell) in
    let x6 = is_end r && x7 in
    let x5 = is_whole z.pick && x6 in
    let x4 = is_cell k.cell z.left && x5 in
    let x3 = counted.is_static s.cells ns k.step && x4 in
    let x2 = counted.is_static s.cells ns k.bound && x3 in
    let x1 = counted.is_static s.cells ns k.start && x2 in
    let e1 = and-second (not (holds_wait b)) x1 e in
    let e2 = and-second (counted.is_static s.cells ns k.start) x2 e1 in
    let e3 = and-second (counted.is_static s.cells ns k.bound) x3 e2 in
    let e4 = and-second (counted.is_static s.cells ns k.step) x4 e3 in
    let e5 = and-second (is_cell k.cell z.left) x5 e4 in
    let e6 = and-second (is_whole z.pick) x6 e5 in
    let e7 = and-second (is_end r) x7 e6 in
    let n = seldom (counter_number s k.cell) (and-second (is_turning k.cell b) (is_seldom s (counter_number s k.cell)) e7) in
    record { waits = no (holds_wait b) (and-first (not (holds_wait b)) x1 e); begins = and-first (is_cell k.cell z.left) x5 e4; turns = and-first (is_turning k.cell b) (is_seldom s (counter_number s k.cell)) e7; number = n.0; numbered = n.1; few = n.2 }
  where
    no : (b : Bool) → not b ≡ true → b ≡ false
    no true e = cc
    no false e = refl

    seldom : (o : Option ℕ) → is_seldom s o ≡ true → (n : ℕ) × (o ≡ Some n) × (nat_le (uses s.cells n s.body) 2 ≡ true)
    seldom None e = cc
    seldom (Some n) e = (n, refl, e)

module _ (s : Setting) (h : Here) where
  -- each of these is static, with elements alike that counters choose
  abbrev is_fit : Chosen → Bool
  is_fit c = is_static h.cells c.counters c.left && is_even h.cells c.counters c.left

  abbrev Passes : List Chosen → Type 0
  Passes xs = list_all is_fit xs ≡ true

  pass-both : (xs ys : List Chosen) → Passes (xs ++ ys) → Passes xs × Passes ys
  pass-both [] ys e = (refl, e)
  pass-both (x ∷ xs) ys e = let r = pass-both xs ys (and-second (is_fit x) (list_all is_fit (xs ++ ys)) e) in (both (is_fit x) (list_all is_fit xs) (and-first (is_fit x) (list_all is_fit (xs ++ ys)) e) r.0, r.1)

  object-chosen : (to : Here) → to.cells ≡ h.cells → (ns : List Counter) (o : Option Left) → Passes (by_object to ns o) → IsChosenObject s to ns o
  object-chosen to c ns None e = tt
  object-chosen to c ns (Some l) e =
      let m = left_of to (result_name to) true l in
      let x = and-first (is_static h.cells ns m && is_even h.cells ns m) true e in
      λ f. ap (λ cs. is_static cs (reworded f ns) m) c ∙ still-static h.cells ns f m (and-second (is_static h.cells ns m) (is_even h.cells ns m) x) (and-first (is_static h.cells ns m) (is_even h.cells ns m) x)

  -- an assignment that stands before these statements is of the body too
  abbrev Since : Stand → stmt.Code → Type 0
  Since w c = (z : Start) → w ≡ Behind z → (o : ℕ) → times 1 (is_it o (own_at s.cells z.left)) + N s o c ≤ N s o s.body

  since-behind : (w : Stand) (z : Start) (p : Place) (k : core.Pick) (e : core.Term) (r : stmt.Code) → ((o : ℕ) → N s o (stmt.Put p z.left k e r) ≤ N s o s.body) → Since (behind w z) r
  since-behind First z p k e r part y g o = let x : z ≡ y = cc in subst (λ z. times 1 (is_it o (own_at s.cells z.left)) + N s o r ≤ N s o s.body) x (part o)
  since-behind (Behind x) z p k e r part y g o = cc
  since-behind Elsewhere z p k e r part y g o = cc

  -- statements in a block are left alone
  all-still : (ns : List Counter) (p : Place) (b r : stmt.Code) → AllCalm s ns (stmt.Block p b r) → IsStill s (guards s ns) b
  all-still [] p b r a o e = cc
  all-still (x ∷ ns) p b r a o e = by (is_it o (counter_number s x.cell)) refl e (λ e. all-still ns p b r a.1 o e)
    where
      by : (t : Bool) → is_it o (counter_number s x.cell) ≡ t → (t || guards s ns o) ≡ true → (guards s ns o ≡ true → (N s o b ≡ 0) × (holds_wait b ≡ false)) → (N s o b ≡ 0) × (holds_wait b ≡ false)
      by true g e ih = let at = it-is o (counter_number s x.cell) g in let c = calm-block s x.cell o at p b r (a.0 o at) in (c.0, c.1)
      by false g e ih = ih e

  fine-put : (ns : List Counter) (p : Place) (l : core.Left) (k : core.Pick) (e : core.Term) (r : stmt.Code) → Fine s ns (stmt.Put p l k e r) → Fine s ns r
  fine-put ns p l k e r = fine-by s ns (stmt.Put p l k e r) r (λ n o at. calm-put s n o at p l k e r) (λ o. let t = times 1 (is_it o (own_at s.cells l)) in omega arith)

  fine-aim : (ns : List Counter) (p : Place) (to : stmt.Pointed) (t : core.Left) (r : stmt.Code) → Fine s ns (stmt.Aim p to t r) → Fine s ns r
  fine-aim ns p to t r = fine-by s ns (stmt.Aim p to t r) r (λ n o at. calm-aim s n o at p to t r) (λ o. let t = times 3 (is_it o (own_at s.cells t)) in omega arith)

  fine-if : (ns : List Counter) (p : Place) (t : core.Term) (a b r : stmt.Code) → Fine s ns (stmt.If p t a b r) → Fine s ns a × Fine s ns b × Fine s ns r
  fine-if ns p t a b r f = (
    fine-by s ns (stmt.If p t a b r) a (λ n o at c. (calm-if s n o at p t a b r c).0) (λ o. omega arith) f,
    fine-by s ns (stmt.If p t a b r) b (λ n o at c. (calm-if s n o at p t a b r c).1) (λ o. omega arith) f,
    fine-by s ns (stmt.If p t a b r) r (λ n o at c. (calm-if s n o at p t a b r c).2) (λ o. omega arith) f,
  )

  fine-block : (ns : List Counter) (p : Place) (b r : stmt.Code) → Fine s ns (stmt.Block p b r) → Fine s ns b × Fine s ns r
  fine-block ns p b r f = (
    fine-by s ns (stmt.Block p b r) b (λ n o at c. let x = calm-block s n o at p b r c in record { waits = x.1; touches = inl x.0 }) (λ o. omega arith) f,
    fine-by s ns (stmt.Block p b r) r (λ n o at c. (calm-block s n o at p b r c).2) (λ o. omega arith) f,
  )

  fine-loop : (ns : List Counter) (p : Place) (m : Option stmt.Count) (b r : stmt.Code) → Fine s ns (stmt.Loop p m b r) → Fine s ns b × Fine s ns r
  fine-loop ns p m b r f = (
    fine-by s ns (stmt.Loop p m b r) b (λ n o at c. (calm-loop s n o at p m b r c).0) (λ o. omega arith) f,
    fine-by s ns (stmt.Loop p m b r) r (λ n o at c. (calm-loop s n o at p m b r c).1) (λ o. omega arith) f,
  )

  fine-exit : (ns : List Counter) (p : Place) (m : ℕ) (r : stmt.Code) → Fine s ns (stmt.Exit p m r) → Fine s ns r
  fine-exit ns p m r = fine-by s ns (stmt.Exit p m r) r (λ n o at. calm-exit s n o at p m r) (λ o. omega arith)

  fine-wait : (ns : List Counter) (p : Place) (l m : ℕ) (r : stmt.Code) → Fine s ns (stmt.Wait p l m r) → Fine s ns r
  fine-wait ns p l m r = fine-by s ns (stmt.Wait p l m r) r (λ n o at. calm-wait s n o at p l m r) (λ o. omega arith)

  fine-cleared : (ns : List Counter) (to : Here) (p : Place) (n : ℕ) (m : Option Member) (all : List (List ℕ)) (r : stmt.Code) → Fine s ns (cleared to p n m all r) → Fine s ns r
  fine-cleared ns to p n None all r f = f
  fine-cleared ns to p n (Some m) [] r f = f
  fine-cleared ns to p n (Some m) (is ∷ all) r f = by (is_direct m.shape.reach) f (λ f. fine-cleared ns to p n (Some m) all r f)
    where
      by : (b : Bool) → Fine s ns (if b then stmt.Put p (cell_of to p false (local_name to n is)) core.Whole (core.Literal p (number_kind m.shape.base) 0) (cleared to p n (Some m) all r)
          else stmt.Aim p (pointed true (cell_of to p true (local_name to n is))) (core.Null p) (cleared to p n (Some m) all r)) → (Fine s ns (cleared to p n (Some m) all r) → Fine s ns r) → Fine s ns r
      by true f ih = ih (fine-put ns p (cell_of to p false (local_name to n is)) core.Whole (core.Literal p (number_kind m.shape.base) 0) (cleared to p n (Some m) all r) f)
      by false f ih = ih (fine-aim ns p (pointed true (cell_of to p true (local_name to n is))) (core.Null p) (cleared to p n (Some m) all r) f)

  fine-zeroed : (ns : List Counter) (to : Here) (p : Place) (cs : List ℕ) (f : Function) (k : Option Kind) (r : stmt.Code) → Fine s ns (zeroed to p cs f k r) → Fine s ns r
  fine-zeroed ns to p cs f None r x = x
  fine-zeroed ns to p cs f (Some k) r x = fine-put ns p (cell_of to p false (answer_name to cs f)) core.Whole (core.Literal p k 0) r x

  fine-passed : (ns : List Counter) (from to : Here) (p : Place) (j : ℕ) (args : List Argument) (r : stmt.Code) → Fine s ns (passed from (result_name from) to p j args r) → Fine s ns r
  fine-passed ns from to p j [] r x = x
  fine-passed ns from to p j (Value e ∷ args) r x = fine-passed ns from to p (suc j) args r (fine-put ns p (cell_of to p false (local_name to j [])) core.Whole (copied from (result_name from) e) (passed from (result_name from) to p (suc j) args r) x)
  fine-passed ns from to p j (Leads t ∷ args) r x = fine-passed ns from to p (suc j) args r (fine-aim ns p (pointed true (cell_of to p true (local_name to j []))) (target_of from (result_name from) p t) (passed from (result_name from) to p (suc j) args r) x)
  fine-passed ns from to p j (ModuleName ∷ args) r x = fine-passed ns from to p (suc j) args r x

  -- what the walk of a called function gives
  abbrev Inside : ℕ → Type 0
  Inside left = (cs : List ℕ) (f : ℕ) (g : Function) (this : core.Left) (ns : List Counter) → slice_get h.plain.functions f ≡ Some g → AreCounters s ns → Fine s ns (call_of h left cs f this) → Passes (chosen_by s h left cs f this ns)
      → ChoosesCall s h left (inside h cs g this) ns

  module _ (left : ℕ) (ih : Inside left) (cs : List ℕ) (g : Function) (this : core.Left) where
    abbrev to : Here
    to = inside h cs g this

    abbrev code : ℕ → List ℕ → Code → stmt.Code
    code d before b = body_of (call_of h left) to d before b

    abbrev chosen : List Counter → ℕ → Stand → Code → List Chosen
    chosen ns d w b = chosen_in (chosen_by s h left) (call_of h left) s to ns d w b

    elsewhere : (c : stmt.Code) → Since Elsewhere c
    elsewhere c z e = cc

    abbrev Walk : List Counter → List Counter → ℕ → List ℕ → Stand → Code → Type 0
    Walk fs ns d before w b = AreCounters s ns → IsWider (guards s ns) (guards s fs) → Fine s ns (code d before b) → Since w (code d before b) → Passes (chosen ns d w b) → ChoosesCode s (call_of h left) (ChoosesCall s h left) to fs b

    called : (d : ℕ) (before : List ℕ) (p : Place) (n f : ℕ) (o : Option Left) (args : List Argument) (r : Code) (g' : Function) → slice_get h.plain.functions f ≡ Some g'
        → code d before (Call p n f o args r) ≡ stmt.Block p (call_block (call_of h left) to p n f o args g') (code d before r)
    called d before p n f o args r g' u = ap (λ o'. unwrap_or (option_map (λ g. stmt.Block p (call_block (call_of h left) to p n f o args g) (code d before r)) o') (code d before r)) u

    -- behind a call
    fine-behind : (ns : List Counter) (d : ℕ) (before : List ℕ) (p : Place) (n f : ℕ) (o : Option Left) (args : List Argument) (r : Code) → Fine s ns (code d before (Call p n f o args r)) → Fine s ns (code d before r)
    fine-behind ns d before p n f o args r x = by (slice_get h.plain.functions f) x
      where
        by : (o' : Option Function) → Fine s ns (unwrap_or (option_map (λ g. stmt.Block p (call_block (call_of h left) to p n f o args g) (code d before r)) o') (code d before r)) → Fine s ns (code d before r)
        by None x = x
        by (Some g') x = (fine-block ns p (call_block (call_of h left) to p n f o args g') (code d before r) x).1

    walk : (fs ns : List Counter) (d : ℕ) (before : List ℕ) (w : Stand) (b : Code) → Walk fs ns d before w b
    walk fs ns d before w End are wide fine since e = tt
    walk fs ns d before w (Declare p n r) are wide fine since e =
        walk fs ns d before Elsewhere r are wide (fine-cleared ns to p n (slice_get g.locals n) (elements (sizes_of (slice_get g.locals n))) (code d before r) fine) (elsewhere (code d before r)) e
    walk fs ns d before w (Assign p l k x r) are wide fine since e =
        walk fs ns d before (behind w (begun to l k x)) r are wide (fine-put ns p (left_of to (result_name to) true l) (pick_of to (result_name to) k) (copied to (result_name to) x) (code d before r) fine)
        (since-behind w (begun to l k x) p (pick_of to (result_name to) k) (copied to (result_name to) x) (code d before r) fine.part) e
    walk fs ns d before w (Point p l t r) are wide fine since e =
        walk fs ns d (local_as_whole l ++ before) Elsewhere r are wide (fine-aim ns p (pointed (is_first to before l) (left_of to (result_name to) false l)) (target_of to (result_name to) p t) (code d (local_as_whole l ++ before) r) fine)
        (elsewhere (code d (local_as_whole l ++ before) r)) e
    walk fs ns d before w (Write p l x r) are wide fine since e =
        walk fs ns d before Elsewhere r are wide (fine-put ns p (left_of to (result_name to) true l) core.Whole (copied to (result_name to) x) (code d before r) fine) (elsewhere (code d before r)) e
    walk fs ns d before w (Call p n f o args r) are wide fine since e =
        let this' = object_of to (result_name to) o in
        let A = by_object to ns o in
        let B = unwrap_or (option_map (λ g. by_arguments to ns p g.locals args) (slice_get to.plain.functions f)) [] in
        let C = chosen_by s h left (n ∷ cs) f this' ns in
        let x = pass-both A (B ++ (C ++ chosen ns d Elsewhere r)) e in
        let y = pass-both B (C ++ chosen ns d Elsewhere r) x.1 in
        let z = pass-both C (chosen ns d Elsewhere r) y.1 in (
          (λ g' u.
              let block = call_block (call_of h left) to p n f o args g' in
              let at : Fine s ns (stmt.Block p block (code d before r)) = subst (Fine s ns) (called d before p n f o args r g' u) fine in
              let inner = (fine-block ns p block (code d before r) at).0 in
              let body = fine-passed ns to (inside to (n ∷ cs) g' this') p 0 args (call_of h left (n ∷ cs) f this') (fine-zeroed ns to p (n ∷ cs) g' g'.result (passed to (result_name to) (inside to (n ∷ cs) g' this') p 0 args (call_of h left (n ∷ cs) f this')) inner) in
              (ns, are, wide, object-chosen to refl ns o x.0, all-still ns p block (code d before r) at.calm, ih (n ∷ cs) f g' this' ns u are body z.0)),
          walk fs ns d before Elsewhere r are wide (fine-behind ns d before p n f o args r fine) (elsewhere (code d before r)) z.1,
        )
    walk fs ns d before w (If p t a b r) are wide fine since e =
        let x = pass-both (chosen ns d Elsewhere a) (chosen ns d Elsewhere b ++ chosen ns d Elsewhere r) e in let y = pass-both (chosen ns d Elsewhere b) (chosen ns d Elsewhere r) x.1 in
        let b2 = aimed a ++ before in let b3 = aimed a ++ (aimed b ++ before) in
        let f = fine-if ns p (copied to (result_name to) t) (code d before a) (code d b2 b) (code d b3 r) fine in
        (walk fs ns d before Elsewhere a are wide f.0 (elsewhere (code d before a)) x.0, walk fs ns d b2 Elsewhere b are wide f.1 (elsewhere (code d b2 b)) y.0, walk fs ns d b3 Elsewhere r are wide f.2 (elsewhere (code d b3 r)) y.1)
    walk fs ns d before w (Loop p c b r) are wide fine since e =
        let k = option_and_then (count_of to (result_name to)) c in
        let f = fine-loop ns p k (code d before b) (code d (aimed b ++ before) r) fine in
        by (counted_by s ns w k (code d [] b) (code d [] r)) refl e
        (λ ms are wide fine e. walk fs ms d before Elsewhere b are wide fine (elsewhere (code d before b)) e)
        (λ e. walk fs ns d (aimed b ++ before) Elsewhere r are wide f.1 (elsewhere (code d (aimed b ++ before) r)) e)
      where
        few-one : (o : ℕ) (t : Bool) (x y m : ℕ) → t ≡ true → times 1 t + (x + y) ≤ m → nat_le m 2 ≡ true → x ≤ 1
        few-one o true x y m e le few = let h : m ≤ 2 = grind arith in omega (arith, le, h)
        few-one o false x y m e le few = cc

        by : (G : Option Counting) → counted_by s ns w (option_and_then (count_of to (result_name to)) c) (code d [] b) (code d [] r) ≡ G → Passes (chosen (around ns G) d Elsewhere b ++ chosen ns d Elsewhere r)
            → ((ms : List Counter) → AreCounters s ms → IsWider (guards s ms) (guards s fs) → Fine s ms (code d before b) → Passes (chosen ms d Elsewhere b) → ChoosesCode s (call_of h left) (ChoosesCall s h left) to fs b)
            → (Passes (chosen ns d Elsewhere r) → ChoosesCode s (call_of h left) (ChoosesCall s h left) to fs r)
            → ChoosesCode s (call_of h left) (ChoosesCall s h left) to fs b × ChoosesCode s (call_of h left) (ChoosesCall s h left) to fs r
        by None q e inner rest =
            let x = pass-both (chosen ns d Elsewhere b) (chosen ns d Elsewhere r) e in
            (inner ns are wide (fine-loop ns p (option_and_then (count_of to (result_name to)) c) (code d before b) (code d (aimed b ++ before) r) fine).0 x.0, rest x.1)
        by (Some G) q e inner rest =
            let f = (fine-loop ns p (option_and_then (count_of to (result_name to)) c) (code d before b) (code d (aimed b ++ before) r) fine).0 in
            let u = counted-is s ns w (option_and_then (count_of to (result_name to)) c) (code d [] b) (code d [] r) G q in
            let l = counts-is s ns u.0 u.1 (code d [] b) (code d [] r) u.4 in
            let ms = counter G.cell 0 ∷ ns in
            let x = pass-both (chosen ms d Elsewhere b) (chosen ns d Elsewhere r) e in
            let at : counter_number s G.cell ≡ Some l.number = ap (counter_number s) u.3 ∙ l.numbered in
            let turns : is_turning G.cell (code d before b) ≡ true = turning-same (call_of h left) to G.cell d before [] b ∙ (ap (λ n. is_turning n (code d [] b)) u.3 ∙ l.turns) in
            let waits : holds_wait (code d before b) ≡ false = waits-same (call_of h left) to d before [] b ∙ l.waits in
            let calm : (o : ℕ) → counter_number s G.cell ≡ Some o → Calm s G.cell o (code d before b) = λ o at'.
            let same : l.number ≡ o = let z : Some l.number ≡ Some o = sym at ∙ at' in cc in
            let few : nat_le (uses s.cells o s.body) 2 ≡ true = subst (λ o. nat_le (uses s.cells o s.body) 2 ≡ true) same l.few in
            calm-body s G.cell o (code d before b) waits turns
            (few-one o (is_it o (own_at s.cells u.0.left)) (N s o (code d before b)) (N s o (code d (aimed b ++ before) r)) (N s o s.body) (is-own s G.cell o u.0.left at' (ap (λ n. is_cell n u.0.left) u.3 ∙ l.begins)) (since u.0 u.2 o) few) in
            let made : Fine s ms (code d before b) = record { calm = (calm, f.calm); part = f.part } in
            (inner ms ((l.number, at, l.few), are) (λ o t. or-true (is_it o (counter_number s G.cell)) (guards s ns o) (wide o t)) made x.0, rest x.1)
          where
            or-true : (x y : Bool) → y ≡ true → (x || y) ≡ true
            or-true true y e = refl
            or-true false y e = e
    walk fs ns d before w (Block p b r) are wide fine since e =
        let x = pass-both (chosen ns (suc d) First b) (chosen ns d Elsewhere r) e in
        let f = fine-block ns p (code (suc d) before b) (code d (aimed b ++ before) r) fine in
        (walk fs ns (suc d) before First b are wide f.0 (λ z g. cc) x.0, walk fs ns d (aimed b ++ before) Elsewhere r are wide f.1 (elsewhere (code d (aimed b ++ before) r)) x.1)
    walk fs ns d before w (Exit p n r) are wide fine since e = walk fs ns d before Elsewhere r are wide (fine-exit ns p n (code d before r) fine) (elsewhere (code d before r)) e
    walk fs ns d before w (Return p None r) are wide fine since e = walk fs ns d before Elsewhere r are wide (fine-exit ns p d (code d before r) fine) (elsewhere (code d before r)) e
    walk fs ns d before w (Return p (Some x) r) are wide fine since e =
        walk fs ns d before Elsewhere r are wide (fine-exit ns p d (code d before r) (fine-put ns p (cell_of to p false (answer_name to cs g)) core.Whole (copied to (result_name to) x) (stmt.Exit p d (code d before r)) fine)) (elsewhere (code d before r)) e
    walk fs ns d before w (Wait p n r) are wide fine since e = walk fs ns d before Elsewhere r are wide (fine-wait ns p 0 n (code d before r) fine) (elsewhere (code d before r)) e
    walk fs ns d before w (Make p l b args r) are wide fine since e = walk fs ns d before Elsewhere r are wide fine (elsewhere (code d before r)) e
    walk fs ns d before w (Bind p l t r) are wide fine since e = walk fs ns d before Elsewhere r are wide fine (elsewhere (code d before r)) e
    walk fs ns d before w (Process p t f x r) are wide fine since e = walk fs ns d before Elsewhere r are wide fine (elsewhere (code d before r)) e
    walk fs ns d before w (Sensitive p items r) are wide fine since e = walk fs ns d before Elsewhere r are wide fine (elsewhere (code d before r)) e
    walk fs ns d before w (Quiet p r) are wide fine since e = walk fs ns d before Elsewhere r are wide fine (elsewhere (code d before r)) e
    walk fs ns d before w (Reset p u x a r) are wide fine since e = walk fs ns d before Elsewhere r are wide fine (elsewhere (code d before r)) e

  inner : (left : ℕ) → Inside left
  inner zero cs f g this ns u are fine e = tt
  inner (suc left) cs f g this ns u are fine e =
      let copy = body_of (call_of h left) (inside h cs g this) 0 [] g.body in
      walk left (inner left) cs g this ns ns 0 [] Elsewhere g.body are (λ o t. t)
      (subst (Fine s ns) (ap (λ o. unwrap_or (option_map (λ f. body_of (call_of h left) (inside h cs f this) 0 [] f.body) o) stmt.End) u) fine) (λ z x. cc)
      (subst (λ o. Passes (unwrap_or (option_map (λ g. chosen_in (chosen_by s h left) (call_of h left) s (inside h cs g this) ns 0 Elsewhere g.body) o) [])) u e)

  pub chosen-body : (left : ℕ) (cs : List ℕ) (g : Function) (this : core.Left) → ((o : ℕ) → N s o (body_of (call_of h left) (inside h cs g this) 0 [] g.body) ≤ N s o s.body)
      → Passes (chosen_in (chosen_by s h left) (call_of h left) s (inside h cs g this) [] 0 First g.body) → ChoosesCode s (call_of h left) (ChoosesCall s h left) (inside h cs g this) [] g.body
  chosen-body left cs g this part e = walk left (inner left) cs g this [] [] 0 [] First g.body tt (λ o t. t) (record { calm = tt; part = part }) (λ z x. cc) e

-- what isn't refused, and is even, passes
all-fit : (h : Here) (xs : List Chosen) → first_of (not_static h) xs ≡ None → list_all (λ (c : Chosen). is_even h.cells c.counters c.left) xs ≡ true → list_all (λ (c : Chosen). is_static h.cells c.counters c.left && is_even h.cells c.counters c.left) xs ≡ true
all-fit h [] e a = refl
all-fit h (x ∷ xs) e a =
    let E = is_even h.cells x.counters x.left in let A = list_all (λ (c : Chosen). is_even h.cells c.counters c.left) xs in
    let r = or-none (not_static h x) (first_of (not_static h) xs) e in
    both (is_static h.cells x.counters x.left && E) (list_all (λ (c : Chosen). is_static h.cells c.counters c.left && is_even h.cells c.counters c.left) xs)
    (both (is_static h.cells x.counters x.left) E (static-is (is_static h.cells x.counters x.left) (refused reason.StaticIndex (core.place_at x.left)) r.0) (and-first E A a)) (all-fit h xs r.1 (and-second E A a))
  where
    static-is : (b : Bool) (r : Refusal) → when (not b) r ≡ None → b ≡ true
    static-is true r e = refl
    static-is false r e = cc

-- the objects of a process that isn't refused
pub objects-chosen : (p : Plain) (d : Design) (i : ℕ) (q : design.Process) (f : Function) → slice_get p.functions q.function ≡ Some f → is_even_process p d i q ≡ true → first_copied p d i q ≡ None
    → ChoosesCode (setting_in p d i q) (call_of (here_of p d i q f) levels) (ChoosesCall (setting_in p d i q) (here_of p d i q f) levels) (here_of p d i q f) [] f.body
objects-chosen p d i q f stands even e =
    let h = here_of p d i q f in
    let s = setting_in p d i q in
    let x = (or-none (too_large p d i q) (option_and_then (λ f. let h = here_of p d i q f in first_of (not_static h) (chosen_in (chosen_by (setting_in p d i q) h levels) (call_of h levels) (setting_in p d i q) h [] 0 First f.body)) (slice_get p.functions q.function)) e).1 in
    let y = subst (λ o. option_and_then (λ f. let h = here_of p d i q f in first_of (not_static h) (chosen_in (chosen_by (setting_in p d i q) h levels) (call_of h levels) (setting_in p d i q) h [] 0 First f.body)) o ≡ None) stands x in
    let all = chosen_in (chosen_by s h levels) (call_of h levels) s h [] 0 First f.body in
    let a = subst (λ o. list_all (λ (c : Chosen). is_even (core_cells p d) c.counters c.left) (unwrap_or (option_map (λ f. let h = here_of p d i q f in chosen_in (chosen_by (setting_in p d i q) h levels) (call_of h levels) (setting_in p d i q) h [] 0 First f.body) o) []) ≡ true) stands even in
    chosen-body s h levels [] f h.this (λ o.
    subst (λ c. uses h.cells o (body_of (call_of h levels) h 0 [] f.body) ≤ uses h.cells o c) (sym (ap (λ o. unwrap_or (option_map (λ f. let h = here_of p d i q f in stmt.Block q.place (body_of (call_of h levels) h 0 [] f.body) stmt.End) o) stmt.End) stands)) (omega arith)) (all-fit h all y a)
