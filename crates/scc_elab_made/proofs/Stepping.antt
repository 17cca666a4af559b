-- What is still to be done, when more is put on top of it.
use Rattle.std.proofs.Common.{◌≡◌, refl, sym, ap, ◌∙◌, subst, arith, ℕ, zero, suc, ◌-◌, nat_le, not, Bool, true, false, if◌then◌else◌, List, [], ◌∷◌, ◌++◌, Option, Some, None, option_map}
use Rattle.std.specs.Prelude.{Result, Ok, Err, OnOk, IsOk}
use Rattle.std.specs.Borrow.{Bor}
use Rattle.scc_plain_tree.specs.declared.stmt.PlainStmt.{PlainStmt}
use Rattle.scc_plain_view.specs.Codes.{code_of, stmt_code, count_of}
use Rattle.scc_plain_view.specs.Terms.{term_of}
use Rattle.scc_plain_tree.specs.declared.expr.PlainExpr.{PlainExpr}
use Rattle.scc_plain_tree.specs.declared.stmt.PlainCount.{PlainCount}
use Rattle.scc_plain_tree.specs.declared.stmt.PlainNode.TheVariants as node
use Rattle.scc_elab_works.proofs.Nodes.{if_is, block_is, loop_is, exit_is}
use Rattle.scc_elab_made.proofs.Picking.{run_takes}
use Rattle.scc_elab_works.specs.Hows.{How}
use Rattle.scc_elab_works.specs.declared.works.At.{At}
use Rattle.scc_elab_works.specs.Hows as how
use Rattle.scc_base.specs.declared.refusal.Refusal.{Refusal}
use Rattle.scc_base.specs.declared.refusal.Stop.{Stop}
use Rattle.scc_base.specs.declared.refusal.Stop.TheVariants as stop
use Rattle.scc_core_spec.specs.Resolved.{Tried, Made, Stopped, and_made}
use Rattle.scc_base.specs.declared.refusal.Place.{Place}
use Rattle.scc_elab_spec.specs.Term.{Term}
use Rattle.scc_elab_spec.specs.Worth.{Site, at_now, worth}
use Rattle.scc_elab_worth.specs.Meant.{IsWorth}
use Rattle.scc_elab_spec.specs.Program.{Plain, Loop, End, Count}
use Rattle.scc_elab_works.specs.declared.works.LoopOf.{LoopOf}
use Rattle.scc_elab_works.specs.Firsts.{IsParts}
use Rattle.scc_elab_made.specs.Passings.{passing_of}
use Rattle.scc_elab_made.specs.declared.running.Passing.{Passing}
use Rattle.scc_elab_made.specs.declared.running.Passing.TheVariants as passing
use Rattle.scc_base.specs.declared.code.Code.TheVariants as reason
use Rattle.scc_core_spec.specs.First.{refused}
use Rattle.scc_elab_spec.specs.Grown.{Grown, with_turn}
use Rattle.scc_elab_spec.specs.Construct.{Now, Ran, Fell, Left_out, Halted, then_run, shut, from_tried, looped, turned, choose_of, most_turns}
use Rattle.scc_elab_spec.specs.Made.{grown_by}
use Rattle.scc_elab_works.specs.declared.works.Work.{Work}
use Rattle.scc_elab_works.specs.declared.works.Work.TheVariants as work
use Rattle.scc_elab_works.specs.Runs.{Ends}
use Rattle.scc_elab_works.specs.Works.{through, pass, outcome, anew, at_in, run_at, turns_of, turn_of, making_at, site_at, Stand, chosen_of, tested_in, Steps, Puts, Leaves}

pub pass_last : (p : Plain) (ws : List Work) (w : Work) (x : Ran) → pass p (ws ++ w ∷ []) x ≡ pass p ws (through p w x)
pass_last p [] w x = refl
pass_last p (v ∷ ws) w x = ap (through p v) (pass_last p ws w x)

through_halts : (p : Plain) (w : Work) (z : Refusal) → through p w (Halted z) ≡ Halted z
through_halts p (work.Run r) z = refl
through_halts p work.Shut z = refl
through_halts p (work.Again l) z = refl
through_halts p (work.Turn l) z = refl
through_halts p (work.Lead l) z = refl
through_halts p (work.Array a) z = refl
through_halts p (work.Elements e) z = refl
through_halts p (work.Vector v) z = refl
through_halts p work.Made z = refl

pub pass_halts : (p : Plain) (ws : List Work) (z : Refusal) → pass p ws (Halted z) ≡ Halted z
pass_halts p [] z = refl
pass_halts p (w ∷ ws) z = ap (through p w) (pass_halts p ws z) ∙ through_halts p w z

-- nothing more is to be done
pub steps_none : {A : Type 0} (p : Plain) (r : Result A Stop) (ws : List Work) (n : Now) (x : Ran) → Ends r n x → Steps p r ws n (outcome p ws x)
steps_none p (Ok a) ws n x e = ap (outcome p ws) e
steps_none p (Err (stop.Refused z)) ws n x e = ap (outcome p ws) e ∙ ap grown_by (pass_halts p ws z)
steps_none p (Err stop.NoMemory) ws n x e = tt

-- one more is to be done, and two
pub outcome_one : (p : Plain) (ws new : List Work) (w : Work) (x : Ran) → new ≡ ws ++ w ∷ [] → outcome p new x ≡ outcome p ws (through p w x)
outcome_one p ws new w x e = ap (λ z. outcome p z x) e ∙ ap grown_by (pass_last p ws w x)

pub outcome_two : (p : Plain) (ws new newer : List Work) (v w : Work) (x : Ran) → new ≡ ws ++ v ∷ [] → newer ≡ new ++ w ∷ [] → outcome p newer x ≡ outcome p ws (through p v (through p w x))
outcome_two p ws new newer v w x e f = outcome_one p new newer w x f ∙ outcome_one p ws new v (through p w x) e

pub steps_to : {A : Type 0} (p : Plain) (r : Result A Stop) (ws : List Work) (n : Now) (t u : Tried Grown) → u ≡ t → Steps p r ws n t → Steps p r ws n u
steps_to p (Ok a) ws n t u e s = e ∙ s
steps_to p (Err (stop.Refused z)) ws n t u e s = e ∙ s
steps_to p (Err stop.NoMemory) ws n t u e s = tt

pub puts_run : {A E : Type 0} (r : Result A E) (old new : List Work) (a b : At) (list : Bor (List PlainStmt)) → OnOk r (new ≡ old ++ work.Run (record { at = a; list = list }) ∷ []) → at_in a ≡ at_in b
    → Puts r old new (λ p x. then_run x (run_at p (at_in b) (code_of list.now)))
puts_run (Ok v) old new a b list e h = λ p x. outcome_one p old new (work.Run (record { at = a; list = list })) x e ∙ ap (λ s. outcome p old (then_run x (run_at p s (code_of list.now)))) h
puts_run (Err v) old new a b list e h = tt

pub puts_one : {A E : Type 0} (r : Result A E) (old new : List Work) (w : Work) → OnOk r (new ≡ old ++ w ∷ []) → Puts r old new (λ p x. through p w x)
puts_one (Ok v) old new w e = λ p x. outcome_one p old new w x e
puts_one (Err v) old new w e = tt

pub puts_over : {A E : Type 0} (r : Result A E) (old mid new : List Work) (w : Work) (f : Plain → Ran → Ran) → mid ≡ old ++ w ∷ [] → Puts r mid new f → Puts r old new (λ p x. through p w (f p x))
puts_over (Ok v) old mid new w f e h = λ p x. h p x ∙ outcome_one p old mid w (f p x) e
puts_over (Err v) old mid new w f e h = tt

pub puts_as : {A E : Type 0} (r : Result A E) (old new : List Work) (f g : Plain → Ran → Ran) → ((p : Plain) (x : Ran) → f p x ≡ g p x) → Puts r old new f → Puts r old new g
puts_as (Ok v) old new f g e h = λ p x. h p x ∙ ap (outcome p old) (e p x)
puts_as (Err v) old new f g e h = tt

-- a value that stops a statement
pub worth_stops : (A : Type 0) (p : Plain) (z : Stop) (ws : List Work) (n : Now) (s : Site) (t : Term) (f : ℕ → Ran) → IsWorth (Err z) s t → Steps {A = A} p (Err z) ws n (outcome p ws (from_tried (worth s t) f))
worth_stops A p (stop.Refused r) ws n s t f h = ap (λ w. outcome p ws (from_tried w f)) h ∙ ap grown_by (pass_halts p ws r)
worth_stops A p stop.NoMemory ws n s t f h = tt

-- ---- loops

pub puts_loop : {A E : Type 0} (r : Result A E) (old new : List Work) (l : LoopOf) (b : At) (place : Place) (c : Option Count) (list : List PlainStmt) → OnOk r (new ≡ old ++ work.Again l ∷ []) → at_in l.at ≡ at_in b → l.left ≡ most_turns → l.place ≡ place
    → IsParts l.test.now l.body.now list → Puts r old new (λ p x. then_run x (run_at p (at_in b) (Loop place c (code_of list) End)))
puts_loop (Ok v) old new l b place c list e h k q d = λ p x. outcome_one p old new (work.Again l) x e ∙ ap (λ z. outcome p old (then_run x z)) (λ i n. looped_is p n i)
  where
    looped_is : (p : Plain) (n : Now) → turns_of p l n ≡ run_at p (at_in b) (Loop place c (code_of list) End) n
    looped_is p n = (λ i. looped (k i) (q i) (run_at p (h i) (code_of l.test.now)) (run_at p (h i) (code_of l.body.now)) n) ∙ sym (d most_turns (making_at p b.levels) (site_at p (at_in b)) place c End n)
puts_loop (Err v) old new l b place c list e h k q d = tt

-- a loop with turns left tests, and then a turn begins
pub again_goes : (p : Plain) (l k : LoopOf) (ws mid new : List Work) (n : Now) (left : ℕ) → l.left ≡ suc left → k.left ≡ left → at_in k.at ≡ at_in l.at → k.place ≡ l.place → k.test ≡ l.test → k.body ≡ l.body → mid ≡ ws ++ work.Turn k ∷ []
    → ((q : Plain) (x : Ran) → outcome q new x ≡ outcome q mid (then_run x (run_at q (at_in l.at) (code_of l.test.now)))) → outcome p ws (turns_of p l n) ≡ outcome p new (Fell n)
again_goes p l k ws mid new n left e f a b c d g h = ap (outcome p ws) (turns_are p l k n left e f a b c d) ∙ sym (outcome_one p ws mid (work.Turn k) (run_at p (at_in l.at) (code_of l.test.now) n) g) ∙ sym (h p (Fell n))
  where
    turns_are : (p : Plain) (l k : LoopOf) (n : Now) (left : ℕ) → l.left ≡ suc left → k.left ≡ left → at_in k.at ≡ at_in l.at → k.place ≡ l.place → k.test ≡ l.test → k.body ≡ l.body → turns_of p l n ≡ then_run (run_at p (at_in l.at) (code_of l.test.now) n) (turn_of p k)
    turns_are p l k n left e f a b c d = ap (λ z. looped z l.place (run_at p (at_in l.at) (code_of l.test.now)) (run_at p (at_in l.at) (code_of l.body.now)) n) e
        ∙ (λ i. then_run (run_at p (at_in l.at) (code_of l.test.now) n) (λ m. turned (sym b i) m (λ m. then_run (run_at p (sym a i) (code_of (sym d i).now) m) (looped (sym f i) (sym b i) (run_at p (sym a i) (code_of (sym c i).now)) (run_at p (sym a i) (code_of (sym d i).now))))))

pub again_none : (p : Plain) (l : LoopOf) (ws : List Work) (n : Now) → l.left ≡ 0 → outcome p ws (turns_of p l n) ≡ Stopped (refused reason.ConstructionTurns l.place)
again_none p l ws n e = ap (λ z. outcome p ws (looped z l.place (run_at p (at_in l.at) (code_of l.test.now)) (run_at p (at_in l.at) (code_of l.body.now)) n)) e ∙ ap grown_by (pass_halts p ws (refused reason.ConstructionTurns l.place))

-- a turn begins, or none may
pub turn_goes : (p : Plain) (l k : LoopOf) (ws mid new : List Work) (n m : Now) → nat_le 65536 n.grown.turns ≡ false → m ≡ record { grown = with_turn n.grown; last = n.last } → k.left ≡ l.left → at_in k.at ≡ at_in l.at → k.place ≡ l.place → k.test ≡ l.test → k.body ≡ l.body → mid ≡ ws ++ work.Again k ∷ []
    → ((q : Plain) (x : Ran) → outcome q new x ≡ outcome q mid (then_run x (run_at q (at_in l.at) (code_of l.body.now)))) → outcome p ws (turn_of p l n) ≡ outcome p new (Fell m)
turn_goes p l k ws mid new n m e u f a b c d g h = ap (outcome p ws) (ap (λ z. if z then Halted (refused reason.ConstructionTurns l.place) else next p l (record { grown = with_turn n.grown; last = n.last })) e ∙ ap (next p l) (sym u) ∙ next_is p l k m f a b c d)
    ∙ sym (outcome_one p ws mid (work.Again k) (run_at p (at_in l.at) (code_of l.body.now) m) g) ∙ sym (h p (Fell m))
  where
    next : Plain → LoopOf → Now → Ran
    next p l n = then_run (run_at p (at_in l.at) (code_of l.body.now) n) (turns_of p l)

    next_is : (p : Plain) (l k : LoopOf) (m : Now) → k.left ≡ l.left → at_in k.at ≡ at_in l.at → k.place ≡ l.place → k.test ≡ l.test → k.body ≡ l.body → next p l m ≡ then_run (run_at p (at_in l.at) (code_of l.body.now) m) (turns_of p k)
    next_is p l k m f a b c d = λ i. then_run (run_at p (at_in l.at) (code_of l.body.now) m) (looped (sym f i) (sym b i) (run_at p (sym a i) (code_of (sym c i).now)) (run_at p (sym a i) (code_of (sym d i).now)))

pub turn_none : (p : Plain) (l : LoopOf) (ws : List Work) (n : Now) → nat_le 65536 n.grown.turns ≡ true → outcome p ws (turn_of p l n) ≡ Stopped (refused reason.ConstructionTurns l.place)
turn_none p l ws n e = ap (λ z. outcome p ws (if z then Halted (refused reason.ConstructionTurns l.place) else then_run (run_at p (at_in l.at) (code_of l.body.now) (record { grown = with_turn n.grown; last = n.last })) (turns_of p l))) e ∙ ap grown_by (pass_halts p ws (refused reason.ConstructionTurns l.place))

pub steps_refused : (A : Type 0) (p : Plain) (s : Stop) (z : Refusal) (ws : List Work) (n : Now) (t : Tried Grown) → s ≡ stop.Refused z → t ≡ Stopped z → Steps {A = A} p (Err s) ws n t
steps_refused A p s z ws n t e f = subst (λ v. Steps {A = A} p (Err v) ws n t) (sym e) f

pub may_not : (r c : Bool) → r ≡ not c → r ≡ false → c ≡ true
may_not r true e f = refl
may_not r false e f = cc

pub may_so : (r c : Bool) → r ≡ not c → r ≡ true → c ≡ false
may_so r false e f = refl
may_so r true e f = cc

abbrev now_at : Grown → Option ℕ → Now
now_at g last = record { grown = g; last = last }

pub turned_now : (b : Bool) (g h k : Grown) (last : Option ℕ) → b ≡ false → k ≡ (if b then g else h) → now_at k last ≡ now_at h last
turned_now true g h k last e f = cc
turned_now false g h k last e f = ap (λ z. now_at z last) f

pub one_less : (n : ℕ) → (n ≡ 0 → ⊥) → n ≡ suc (n - 1)
one_less zero h = absurd (h refl)
one_less (suc n) h = grind arith

-- ---- blocks are left

left_through : (p : Plain) (w : Work) (d : ℕ) (n : Now) → passing_of w ≡ passing.Left → through p w (Left_out d n) ≡ Left_out d n
left_through p (work.Run r) d n e = refl
left_through p (work.Again l) d n e = refl
left_through p (work.Turn l) d n e = refl
left_through p work.Shut d n e = cc
left_through p (work.Lead l) d n e = cc
left_through p (work.Array a) d n e = cc
left_through p (work.Elements x) d n e = cc
left_through p (work.Vector v) d n e = cc
left_through p work.Made d n e = cc

shut_through : (p : Plain) (w : Work) (x : Ran) → passing_of w ≡ passing.Shut → through p w x ≡ shut x Fell
shut_through p (work.Run r) x e = cc
shut_through p (work.Again l) x e = cc
shut_through p (work.Turn l) x e = cc
shut_through p work.Shut x e = refl
shut_through p (work.Lead l) x e = cc
shut_through p (work.Array a) x e = cc
shut_through p (work.Elements y) x e = cc
shut_through p (work.Vector v) x e = cc
shut_through p work.Made x e = cc

stays_through : (p : Plain) (w : Work) (d : ℕ) (n : Now) → passing_of w ≡ passing.Stays → through p w (Left_out d n) ≡ through p w (Fell n)
stays_through p (work.Run r) d n e = cc
stays_through p (work.Again l) d n e = cc
stays_through p (work.Turn l) d n e = cc
stays_through p work.Shut d n e = cc
stays_through p (work.Lead l) d n e = refl
stays_through p (work.Array a) d n e = refl
stays_through p (work.Elements x) d n e = refl
stays_through p (work.Vector v) d n e = refl
stays_through p work.Made d n e = refl

module _ (p : Plain) (t : Tried Grown) (ws rest : List Work) (w : Work) (left : ℕ) (n : Now) (k : Passing) (inv : t ≡ outcome p ws (Left_out left n)) (popped : ws ≡ rest ++ w ∷ []) (kind : k ≡ passing_of w) where
  pub leave_left : (to : ℕ) → k ≡ passing.Left → to ≡ left → t ≡ outcome p rest (Left_out to n)
  leave_left to e f = inv ∙ outcome_one p rest ws w (Left_out left n) popped ∙ ap (outcome p rest) (left_through p w left n (sym kind ∙ e)) ∙ ap (λ d. outcome p rest (Left_out d n)) (sym f)

  pub leave_shut : k ≡ passing.Shut → left ≡ 0 → t ≡ outcome p rest (Fell n)
  leave_shut e f = inv ∙ outcome_one p rest ws w (Left_out left n) popped ∙ ap (outcome p rest) (shut_through p w (Left_out left n) (sym kind ∙ e) ∙ ap (λ d. shut (Left_out d n) Fell) f)

  pub leave_on : (to : ℕ) → k ≡ passing.Shut → (left ≡ 0 → ⊥) → to ≡ left - 1 → t ≡ outcome p rest (Left_out to n)
  leave_on to e f g = inv ∙ outcome_one p rest ws w (Left_out left n) popped
      ∙ ap (outcome p rest) (shut_through p w (Left_out left n) (sym kind ∙ e) ∙ ap (λ d. shut (Left_out d n) Fell) (one_less left f)) ∙ ap (λ d. outcome p rest (Left_out d n)) (sym g)

  pub leave_stays : (new : List Work) → k ≡ passing.Stays → new ≡ rest ++ w ∷ [] → t ≡ outcome p new (Fell n)
  leave_stays new e f = inv ∙ outcome_one p rest ws w (Left_out left n) popped ∙ ap (outcome p rest) (stays_through p w left n (sym kind ∙ e)) ∙ sym (outcome_one p rest new w (Fell n) f)

-- ---- statements

tested_end : (n : Now) (a b k : Now → Ran) (w : Tried ℕ) → ((m : Now) → k m ≡ Fell m) → from_tried w (λ v. then_run (choose_of v a b n) k) ≡ from_tried w (λ v. choose_of v a b n)
tested_end n a b k (Made v) h = by (choose_of v a b n)
  where
    by : (q : Ran) → then_run q k ≡ q
    by (Fell m) = h m
    by (Left_out d m) = refl
    by (Halted z) = refl
tested_end n a b k (Stopped z) h = refl

pub if_goes : (p : Plain) (a : Stand) (s : PlainStmt) (t : PlainExpr) (one other x y : List PlainStmt) (ws : List Work) (n : Now) → s.node ≡ node.If t one other → x ≡ one → y ≡ other
    → outcome p ws (run_at p a (stmt_code s End) n) ≡ outcome p ws (tested_in p a (term_of t) (code_of x) (code_of y) n)
if_goes p a s t one other x y ws n is e f = ap (λ c. outcome p ws (run_at p a c n)) (if_is s t one other End is)
    ∙ ap (outcome p ws) (tested_end n (run_at p a (code_of one)) (run_at p a (code_of other)) (run_at p a End) (worth (at_now (site_at p a) n.grown) (term_of t)) (λ m. refl))
    ∙ (λ i. outcome p ws (tested_in p a (term_of t) (code_of (sym e i)) (code_of (sym f i)) n))

pub block_goes : (p : Plain) (a : Stand) (s : PlainStmt) (body x : List PlainStmt) (ws new : List Work) (n : Now) → s.node ≡ node.Block body → x ≡ body
    → ((q : Plain) (z : Ran) → outcome q new z ≡ outcome q ws (shut (then_run z (run_at q a (code_of x))) Fell)) → outcome p ws (run_at p a (stmt_code s End) n) ≡ outcome p new (Fell n)
block_goes p a s body x ws new n is e h = ap (λ c. outcome p ws (run_at p a c n)) (block_is s body End is) ∙ ap (λ c. outcome p ws (shut (run_at p a (code_of c) n) Fell)) (sym e) ∙ sym (h p (Fell n))

pub loop_goes : (p : Plain) (a : Stand) (s : PlainStmt) (c : Option PlainCount) (body x : List PlainStmt) (ws new : List Work) (n : Now) → s.node ≡ node.Loop c body → x ≡ body
    → ((c : Option Count) (q : Plain) (z : Ran) → outcome q new z ≡ outcome q ws (then_run z (run_at q a (Loop s.place c (code_of x) End)))) → outcome p ws (run_at p a (stmt_code s End) n) ≡ outcome p new (Fell n)
loop_goes p a s c body x ws new n is e h = ap (λ c. outcome p ws (run_at p a c n)) (loop_is s c body End is) ∙ ap (λ z. outcome p ws (run_at p a (Loop s.place (option_map count_of c) (code_of z) End) n)) (sym e) ∙ sym (h (option_map count_of c) p (Fell n))

pub exit_goes : (p : Plain) (a : Stand) (s : PlainStmt) (d : ℕ) (ws : List Work) (n : Now) → s.node ≡ node.Exit d → outcome p ws (run_at p a (stmt_code s End) n) ≡ outcome p ws (Left_out d n)
exit_goes p a s d ws n is = ap (λ c. outcome p ws (run_at p a c n)) (exit_is s d End is)

-- ---- lists of statements

pub empty_runs : (p : Plain) (a : Stand) (list : List PlainStmt) (ws : List Work) (n : Now) → list ≡ [] → outcome p ws (run_at p a (code_of list) n) ≡ outcome p ws (Fell n)
empty_runs p a list ws n e = ap (λ z. outcome p ws (run_at p a (code_of z) n)) e

pub first_goes : (p : Plain) (a : Stand) (x : PlainStmt) (xs all : List PlainStmt) (ws new : List Work) (n : Now) → x ∷ xs ≡ all → ((q : Plain) (z : Ran) → outcome q new z ≡ outcome q ws (then_run z (run_at q a (code_of xs))))
    → outcome p ws (run_at p a (code_of all) n) ≡ outcome p new (run_at p a (stmt_code x End) n)
first_goes p a x xs all ws new n is put = ap (λ z. outcome p ws (run_at p a (code_of z) n)) (sym is) ∙ ap (outcome p ws) (run_takes p a x xs how.All n refl) ∙ sym (put p (run_at p a (stmt_code x End) n))

-- ---- all of it

pub popped : (p : Plain) (t : Tried Grown) (ws rest : List Work) (w : Work) (n : Now) → t ≡ outcome p ws (Fell n) → ws ≡ rest ++ w ∷ [] → t ≡ outcome p rest (through p w (Fell n))
popped p t ws rest w n inv e = inv ∙ outcome_one p rest ws w (Fell n) e

pub left_by : (A : Type 0) (p : Plain) (z : Stop) (ws : List Work) (n : Now) (g : Grown) (t u : Tried Grown) → t ≡ u → Steps {A = A} p (Err z) ws n u → Leaves {A = A} (Err z) g t
left_by A p (stop.Refused r) ws n g t u e s = e ∙ s
left_by A p stop.NoMemory ws n g t u e s = tt
