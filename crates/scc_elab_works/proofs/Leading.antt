-- A statement before others runs before them.
use Rattle.std.proofs.Common.{◌≡◌, refl, sym, ap, ◌∙◌, subst, ℕ, zero, suc, Bool, true, false, not, ◌&&◌, nat_le, length, List, [], ◌∷◌, Option, Some, None, unwrap_or, option_map, if◌then◌else◌}
use Rattle.scc_base.specs.declared.refusal.Place.{Place}
use Rattle.scc_base.specs.declared.code.Code.TheVariants as reason
use Rattle.scc_core_spec.specs.First.{refused}
use Rattle.scc_core_spec.specs.Resolved.{Tried, Made, Stopped, and_made}
use Rattle.scc_plain_tree.specs.declared.stmt.PlainStmt.{PlainStmt, fold-roll-PlainStmt, ind-PlainStmt}
use Rattle.scc_plain_tree.specs.declared.stmt.PlainNode.{PlainNode, fold-PlainNode, fold-roll-PlainNode}
use Rattle.scc_plain_tree.specs.declared.stmt.PlainNode.TheOpen.{PlainNode-F, PlainStmt-F}
use Rattle.scc_plain_tree.specs.declared.stmt.PlainNode.TheOpen as node
use Rattle.scc_elab_spec.specs.Program.{Code, End, Declare, Assign, Point, Write, Call, If, Loop, Block, Exit, Return, Wait, Make, Bind, Process, Sensitive, Quiet, Reset, Count}
use Rattle.scc_elab_spec.specs.Inits.{belongs, owner, either, kept_if, inits_of, without_make}
use Rattle.scc_elab_spec.specs.Grown.{Grown, with_turn}
use Rattle.scc_elab_spec.specs.Worth.{Site, at_now, worth}
use Rattle.scc_elab_spec.specs.Construct.{Making, Now, Ran, Fell, Left_out, Halted, then_run, shut, from_tried, grow, of_last, turned, looped, choose_of, ran_in}
use Rattle.scc_plain_view.specs.Codes.{Node, stmt_node, stmt_step, stmt_code, code_of, before, count_of, sense_of}
use Rattle.scc_plain_view.specs.Terms.{term_of}
use Rattle.scc_elab_spec.specs.Binding.{declare}

-- what a run that may not fall is, whatever follows
then_stays : (q : Ran) (f k : Now → Ran) → ((m : Now) → f m ≡ then_run (f m) k) → then_run q f ≡ then_run (then_run q f) k
then_stays (Fell m) f k h = h m
then_stays (Left_out d m) f k h = refl
then_stays (Halted r) f k h = refl

turned_stays : (p : Place) (n : Now) (f k : Now → Ran) → ((m : Now) → f m ≡ then_run (f m) k) → turned p n f ≡ then_run (turned p n f) k
turned_stays p n f k h = by (nat_le 65536 n.grown.turns)
  where
    by : (b : Bool) → (if b then Halted (refused reason.ConstructionTurns p) else f (record { grown = with_turn n.grown; last = n.last })) ≡ then_run (if b then Halted (refused reason.ConstructionTurns p) else f (record { grown = with_turn n.grown; last = n.last })) k
    by true = refl
    by false = h (record { grown = with_turn n.grown; last = n.last })

looped_stays : (left : ℕ) (p : Place) (test turn k : Now → Ran) (n : Now) → looped left p test turn n ≡ then_run (looped left p test turn n) k
looped_stays zero p test turn k n = refl
looped_stays (suc left) p test turn k n = then_stays (test n) (λ n. turned p n (λ n. then_run (turn n) (looped left p test turn))) k
    (λ m. turned_stays p m (λ n. then_run (turn n) (looped left p test turn)) k (λ m. then_stays (turn m) (looped left p test turn) k (looped_stays left p test turn k)))

then_fell : (q : Ran) (k : Now → Ran) → then_run q k ≡ then_run (then_run q Fell) k
then_fell (Fell m) k = refl
then_fell (Left_out d m) k = refl
then_fell (Halted r) k = refl

pub same_fell : (q : Ran) → then_run q Fell ≡ q
same_fell (Fell m) = refl
same_fell (Left_out d m) = refl
same_fell (Halted r) = refl

shut_fell : (q : Ran) (k : Now → Ran) → shut q k ≡ then_run (shut q Fell) k
shut_fell (Fell m) k = refl
shut_fell (Left_out zero m) k = refl
shut_fell (Left_out (suc d) m) k = refl
shut_fell (Halted r) k = refl

tried_then : {A : Type 0} (t : Tried A) (f g : A → Ran) (h : Now → Ran) → ((a : A) → f a ≡ then_run (g a) h) → from_tried t f ≡ then_run (from_tried t g) h
tried_then (Made a) f g h e = e a
tried_then (Stopped r) f g h e = refl

last_then : (p : Place) (n : Now) (f g : ℕ → Ran) (h : Now → Ran) (o : Option ℕ) → ((k : ℕ) → f k ≡ then_run (g k) h) → unwrap_or (option_map f o) (Halted (refused reason.Sensitivity p)) ≡ then_run (unwrap_or (option_map g o) (Halted (refused reason.Sensitivity p))) h
last_then p n f g h None e = refl
last_then p n f g h (Some k) e = e k

module _ (t : ℕ) (make : Making) (s : Site) where
  abbrev one : Code → Now → Ran
  one = ran_in t make s

  -- what stands before runs first
  pub record Leads (f : Code → Code) : Type 0 where
    pub first : (r : Code) (n : Now) → ran_in t make s (f r) n ≡ then_run (ran_in t make s (f End) n) (ran_in t make s r)

  grow_then : (n : Now) (x : Tried Grown) (r : Code) → grow n x (one r) ≡ then_run (grow n x (one End)) (one r)
  grow_then n (Made g) r = refl
  grow_then n (Stopped z) r = refl

  loop_then : (p : Place) (c : Option Count) (b : Code) (r : Code) (n : Now) → one (Loop p c b r) n ≡ then_run (one (Loop p c b End) n) (one r)
  loop_then p c (If q e x y z) r n = looped_stays t p (λ n. from_tried (worth (at_now s n.grown) e) (λ v. choose_of v (one x) (one y) n)) (one z) (one r) n
  loop_then p c End r n = looped_stays t p Fell (one End) (one r) n
  loop_then p c (Declare q k b) r n = looped_stays t p Fell (one (Declare q k b)) (one r) n
  loop_then p c (Assign q l k e b) r n = looped_stays t p Fell (one (Assign q l k e b)) (one r) n
  loop_then p c (Point q l x b) r n = looped_stays t p Fell (one (Point q l x b)) (one r) n
  loop_then p c (Write q l e b) r n = looped_stays t p Fell (one (Write q l e b)) (one r) n
  loop_then p c (Call q k f o args b) r n = looped_stays t p Fell (one (Call q k f o args b)) (one r) n
  loop_then p c (Loop q d x b) r n = looped_stays t p Fell (one (Loop q d x b)) (one r) n
  loop_then p c (Block q x b) r n = looped_stays t p Fell (one (Block q x b)) (one r) n
  loop_then p c (Exit q d b) r n = looped_stays t p Fell (one (Exit q d b)) (one r) n
  loop_then p c (Return q v b) r n = looped_stays t p Fell (one (Return q v b)) (one r) n
  loop_then p c (Wait q k b) r n = looped_stays t p Fell (one (Wait q k b)) (one r) n
  loop_then p c (Make q l base args b) r n = looped_stays t p Fell (one (Make q l base args b)) (one r) n
  loop_then p c (Bind q port to b) r n = looped_stays t p Fell (one (Bind q port to b)) (one r) n
  loop_then p c (Process q x f e b) r n = looped_stays t p Fell (one (Process q x f e b)) (one r) n
  loop_then p c (Sensitive q items b) r n = looped_stays t p Fell (one (Sensitive q items b)) (one r) n
  loop_then p c (Quiet q b) r n = looped_stays t p Fell (one (Quiet q b)) (one r) n
  loop_then p c (Reset q x e a b) r n = looped_stays t p Fell (one (Reset q x e a b)) (one r) n

  abbrev with_last : Now → Grown → Now
  with_last n g = record { grown = g; last = Some (length n.grown.declared) }

  leads : (y : PlainNode-F Node (Code → Code)) (p : Place) → Leads (stmt_node y p)
  leads (node.Declare k) p = record { first = λ r n. refl }
  leads (node.Assign l e) p = record { first = λ r n. grow_then n _ r }
  leads (node.Point l x) p = record { first = λ r n. grow_then n _ r }
  leads (node.Write l e) p = record { first = λ r n. refl }
  leads (node.Call k f o args) p = record { first = λ r n. refl }
  leads (node.If e a b) p = record { first = λ r n. tried_then (worth (at_now s n.grown) (term_of e)) (λ v. then_run (choose_of v (one (before a End)) (one (before b End)) n) (one r)) (λ v. then_run (choose_of v (one (before a End)) (one (before b End)) n) (one End)) (one r) (λ v. then_fell (choose_of v (one (before a End)) (one (before b End)) n) (one r)) }
  leads (node.Loop c b) p = record { first = λ r n. loop_then p (option_map count_of c) (before b End) r n }
  leads (node.Block b) p = record { first = λ r n. shut_fell (one (before b End) n) (one r) }
  leads (node.Exit d) p = record { first = λ r n. refl }
  leads (node.Return e) p = record { first = λ r n. refl }
  leads (node.Wait k) p = record { first = λ r n. refl }
  leads (node.Make l b args) p = record { first = λ r n. grow_then n _ r }
  leads (node.Bind l to) p = record { first = λ r n. grow_then n _ r }
  leads (node.Process x f e) p = record { first = λ r n. tried_then (declare (at_now s n.grown) p x f (option_map sense_of e)) (λ g. one r (with_last n g)) (λ g. one End (with_last n g)) (one r) (λ g. refl) }
  leads (node.Sense items) p = record { first = λ r n. last_then p n _ _ (one r) n.last (λ k. grow_then n _ r) }
  leads node.Quiet p = record { first = λ r n. last_then p n _ _ (one r) n.last (λ k. refl) }
  leads (node.Reset x e a) p = record { first = λ r n. last_then p n _ _ (one r) n.last (λ k. grow_then n _ r) }

  abbrev node_fold : PlainNode → Node
  node_fold = fold-PlainNode Node (Code → Code) stmt_node stmt_step

  pub stmt_leads : (x : PlainStmt) → Leads (stmt_code x)
  stmt_leads = ind-PlainStmt (λ n. (p : Place) → Leads (node_fold n p)) (λ s. Leads (stmt_code s))
      (λ x y is p. subst (λ f. Leads (f p)) (sym (fold-roll-PlainNode Node (Code → Code) stmt_node stmt_step x)) (leads _ p))
      (λ x y is. subst (λ f. Leads f) (sym (fold-roll-PlainStmt Node (Code → Code) stmt_node stmt_step x)) (subst (λ n. Leads (node_fold n x.place)) (ap (λ z. z.node) is) (y.node.1 x.place)))
