-- Copied bodies mean the same as functions with their calls.
use Rattle.std.proofs.Common.{◌≡◌, ℕ, zero, suc, Bool, true, false, List, [], ◌∷◌, ◌++◌, Some, None, option_map, unwrap_or, if◌then◌else◌, refl, sym, subst, arith}
use Rattle.scc_base.specs.declared.refusal.Place.{Place}
use Rattle.scc_semantics.specs.Location.{Location}
use Rattle.scc_semantics.specs.Expressions as body
use Rattle.scc_semantics.specs.Places.{Places}
use Rattle.scc_semantics.specs.Scene.{Names}
use Rattle.scc_semantics.specs.Body as machine
use Rattle.scc_semantics.specs.Value.{Held}
use Rattle.scc_semantics.specs.Machine.{Frames, Go, Mark, Inner, BehindBlock, BehindCall, Outcome, Unfinished, idle}
use Rattle.scc_core_spec.specs.Term as core
use Rattle.scc_core_spec.specs.Code as stmt
use Rattle.scc_core_spec.specs.Source.{Home, aimed}
use Rattle.scc_elab_spec.specs.Term.{Argument, Value, Leads, ModuleName}
use Rattle.scc_elab_spec.specs.Program.{Code, End, Declare, Assign, Point, Write, Call, If, Loop, Block, Exit, Return, Wait, Make, Bind, Process, Sensitive, Quiet, Reset, Function, Member}
use Rattle.scc_elab_spec.specs.Types.{is_direct}
use Rattle.scc_elab_spec.specs.Copied as copied
use Rattle.scc_elab_spec.specs.Copied.{Here, local_name}
use Rattle.scc_elab_spec.specs.Bodies.{result_name, object_of, pointed, cell_of, inside, passed, zeroed, elements, sizes_of, is_first, number_kind}
use Rattle.scc_elab_spec.specs.Bodies as bodies
use Rattle.scc_inline_spec.specs.Inlined.{body_of, call_of}
use Rattle.scc_elab_spec.specs.Spoken as spoken
use Rattle.scc_inline_process_laws.specs.SoundCode.{LeadsUp}
use Rattle.scc_inline_process_laws.specs.Relation.{around, below_halt, below_inner, below_block, below_call, alike_stop, alike_end, alike_on, alike_clear, alike_enter, alike_begin}
use Rattle.scc_core_unroll_laws.specs.Unrolling.{Counters}
use Rattle.scc_semantics.specs.Store.{Store}
use Rattle.scc_inline_process_laws.proofs.Same.{cleft, aim-is}
use Rattle.scc_inline_process_laws.proofs.Follow.{at, spoke, code, copy, names, Alikes, Belows, Sound, go, went, Out, All, stepping}

module _ (home : Home) (places : Places) (signals : Location → ℕ) (own : Names) (h : Here) (counters : Counters (around home places own h)) where
  abbrev here_at : List ℕ → Function → core.Left → Here
  here_at cs g this = at home places signals own h counters cs g this

  abbrev said : Function → List ℕ → Code → machine.Body
  said g before b = spoke home places signals own h counters g before b

  abbrev cod : stmt.Code → machine.Body
  cod c = code home places signals own h counters c

  abbrev copies : ℕ → Here → ℕ → List ℕ → Code → machine.Body
  copies left to d before b = copy home places signals own h counters left to d before b

  abbrev ends : Frames → Held → Outcome
  ends f a = go home places signals own h counters 0 f a

  abbrev ended : Frames → Held → Outcome
  ended f a = went home places signals own h counters 0 f a

  abbrev Both : Outcome → Outcome → Type 0
  Both x y = Out home places signals own h counters x y

  -- a pointer that is aimed is a statement
  aim-still : (mark' : Mark) (b : Bool) (c : core.Left) (t : body.Left) (r : machine.Body) (k' : Frames) (a : Held) → Both Unfinished (ended (Go mark' own (aimed home h.cells h.process (pointed b c) t r) k') a)
  aim-still mark' b c t r k' a = let e = aim-is home places signals own h b c t r in subst (λ z. Both Unfinished (ended (Go mark' own z k') a)) (sym e.1) tt

  clear-still : (mark mark' : Mark) (n : Names) (g : Function) (to : Here) (p : Place) (i : ℕ) (m : Member) (all : List (List ℕ)) (rest : machine.Body) (r : stmt.Code) (k k' : Frames) (a : Held)
      → Both (ends (Go mark n rest k) a) (ended (Go mark' own (cod r) k') a) → Both (ends (Go mark n (spoken.cleared h.plain g i all rest) k) a) (ended (Go mark' own (cod (bodies.cleared to p i (Some m) all r)) k') a)
  clear-still mark mark' n g to p i m [] rest r k k' a x = x
  clear-still mark mark' n g to p i m (is ∷ more) rest r k k' a x = by (is_direct m.shape.reach) (bodies.cleared to p i (Some m) more r)
    where
      by : (c : Bool) (r : stmt.Code) → Both Unfinished (ended (Go mark' own (cod (if c then stmt.Put p (cell_of to p false (local_name to i is)) core.Whole (core.Literal p (number_kind m.shape.base) 0) r
          else stmt.Aim p (pointed true (cell_of to p true (local_name to i is))) (core.Null p) r)) k') a)
      by true r = tt
      by false r = aim-still mark' true (cell_of to p true (local_name to i is)) body.Null (cod r) k' a

  still : (d : ℕ) (cs : List ℕ) (mark mark' : Mark) (n : Names) (left : ℕ) (g : Function) (this : core.Left) (before : List ℕ) (b : Code) (k k' : Frames) (a : Held) (held : ℕ → Bool) → Sound home places signals own h counters left (here_at cs g this) held d b
      → Both (ends k a) (ended k' a) → Both (ends (Go mark n (said g before b) k) a) (ended (Go mark' own (copies left (here_at cs g this) d before b) k') a)
  still d cs mark mark' n left g this before End k k' a held s x = x
  still d cs mark mark' n left g this before (Declare p i b) k k' a held s x =
      subst (λ z. Both (ends (Go mark n (spoken.cleared h.plain g i (elements (sizes_of z)) (said g before b)) k) a) (ended (Go mark' own (cod (bodies.cleared (here_at cs g this) p i z (elements (sizes_of z)) (body_of (call_of h left) (here_at cs g this) d before b))) k') a))
      (sym s.1) (clear-still mark mark' n g (here_at cs g this) p i s.0 (elements s.0.shape.sizes) (said g before b) (body_of (call_of h left) (here_at cs g this) d before b) k k' a (still d cs mark mark' n left g this before b k k' a held s.5 x))
  still d cs mark mark' n left g this before (Assign p l w e b) k k' a held s x = tt
  still d cs mark mark' n left g this before (Point p l t b) k k' a held s x =
      aim-still mark' (is_first (here_at cs g this) before l) (copied.left_of (here_at cs g this) (result_name (here_at cs g this)) false l)
      (cleft home places signals own h (copied.target_of (here_at cs g this) (result_name (here_at cs g this)) p t)) (copies left (here_at cs g this) d (bodies.local_as_whole l ++ before) b) k' a
  still d cs mark mark' n left g this before (Write p l e b) k k' a held s x = tt
  still d cs mark mark' n left g this before (Call p i f l args b) k k' a held s x =
      subst (λ z. Both Unfinished (ended (Go mark' own (cod (unwrap_or (option_map (λ c. stmt.Block p (zeroed (here_at cs g this) p (i ∷ cs) c c.result (passed (here_at cs g this) (result_name (here_at cs g this)) (inside (here_at cs g this) (i ∷ cs) c (object_of (here_at cs g this) (result_name (here_at cs g this)) l)) p 0 args
      (call_of h left (i ∷ cs) f (object_of (here_at cs g this) (result_name (here_at cs g this)) l)))) (body_of (call_of h left) (here_at cs g this) d before b)) z) (body_of (call_of h left) (here_at cs g this) d before b))) k') a)) (sym s.1) tt
  still d cs mark mark' n left g this before (If p t y z b) k k' a held s x = tt
  still d cs mark mark' n left g this before (Loop p c y b) k k' a held s x = tt
  still d cs mark mark' n left g this before (Block p y b) k k' a held s x = tt
  still d cs mark mark' n left g this before (Exit p i b) k k' a held s x = tt
  still d cs mark mark' n left g this before (Return p None b) k k' a held s x = tt
  still d cs mark mark' n left g this before (Return p (Some e) b) k k' a held s x = tt
  still d cs mark mark' n left g this before (Wait p i b) k k' a held s x = tt
  still d cs mark mark' n left g this before (Make p l y args b) k k' a held s x = still d cs mark mark' n left g this before b k k' a held s x
  still d cs mark mark' n left g this before (Bind p l t b) k k' a held s x = still d cs mark mark' n left g this before b k k' a held s x
  still d cs mark mark' n left g this before (Process p t f e b) k k' a held s x = still d cs mark mark' n left g this before b k k' a held s x
  still d cs mark mark' n left g this before (Sensitive p items b) k k' a held s x = still d cs mark mark' n left g this before b k k' a held s x
  still d cs mark mark' n left g this before (Quiet p b) k k' a held s x = still d cs mark mark' n left g this before b k k' a held s x
  still d cs mark mark' n left g this before (Reset p y e z b) k k' a held s x = still d cs mark mark' n left g this before b k k' a held s x

  below-still : {cs : List ℕ} {held : ℕ → Bool} {d : ℕ} {t : Store} {k k' : Frames} (a : Held) → a.store ≡ t → Belows home places signals own h counters cs held d t k k' → Both (ends k a) (ended k' a)
  below-still a e (below_halt idle x) = (refl, subst (λ t. LeadsUp h.process t.targets) (sym e) x)
  below-still a e (below_inner {d = d} {cs = cs} {w = w} {k = k} {k' = k'} left g this o before b s st r) = still d cs Inner Inner (names home places signals own h counters cs g this o) left g this before b k k' a w s (below-still a e r)
  below-still a e (below_block {d = d} {cs = cs} {w = w} {k = k} {k' = k'} left g this o before b s st r) = still d cs BehindBlock BehindBlock (names home places signals own h counters cs g this o) left g this before b k k' a w s (below-still a e r)
  below-still a e (below_call {d = d} {cs = cs} {w = w} {k = k} {k' = k'} wider i left g this o before b s st r) = still d cs BehindCall BehindBlock (names home places signals own h counters cs g this o) left g this before b k k' a w s (below-still a e r)

  enter-still : (k k' : Frames) (mark mark' : Mark) (n : Names) (left : ℕ) (cs ds : List ℕ) (from f : Function) (this object : core.Left) (p : Place) (j : ℕ) (args : List Argument) (a : Held) (inner : ℕ → Bool)
      → Sound home places signals own h counters left (here_at ds f object) inner 0 f.body → Both (ends k a) (ended k' a)
      → Both (ends (Go mark n (spoken.passed h.plain from j args) (Go Inner n (said f [] f.body) k)) a)
      (ended (Go mark' own (cod (passed (here_at cs from this) (result_name (here_at cs from this)) (here_at ds f object) p j args (body_of (call_of h left) (here_at ds f object) 0 [] f.body))) k') a)
  enter-still k k' mark mark' n left cs ds from f this object p j [] a inner s x = still 0 ds Inner mark' n left f object [] f.body k k' a inner s x
  enter-still k k' mark mark' n left cs ds from f this object p j (Value e ∷ args) a inner s x = tt
  enter-still k k' mark mark' n left cs ds from f this object p j (Leads t ∷ args) a inner s x =
      aim-still mark' true (cell_of (here_at ds f object) p true (local_name (here_at ds f object) j [])) (cleft home places signals own h (copied.target_of (here_at cs from this) (result_name (here_at cs from this)) p t))
      (cod (passed (here_at cs from this) (result_name (here_at cs from this)) (here_at ds f object) p (suc j) args (body_of (call_of h left) (here_at ds f object) 0 [] f.body))) k' a
  enter-still k k' mark mark' n left cs ds from f this object p j (ModuleName ∷ args) a inner s x = enter-still k k' mark mark' n left cs ds from f this object p (suc j) args a inner s x

  all-still : {t : Store} {f f' : Frames} (a : Held) → a.store ≡ t → Alikes home places signals own h counters t f f' → Both (ends f a) (ended f' a)
  all-still a e (alike_stop x) = (refl, subst (λ t. LeadsUp h.process t.targets) (sym e) x)
  all-still a e (alike_end x) = (refl, subst (λ t. LeadsUp h.process t.targets) (sym e) x)
  all-still a e (alike_on {d = d} {cs = cs} {w = w} {k = k} {k' = k'} mark mark' left g this o before b s st r) = still d cs mark mark' (names home places signals own h counters cs g this o) left g this before b k k' a w s (below-still a e r)
  all-still a e (alike_clear {d = d} {cs = cs} {w = w} {k = k} {k' = k'} mark mark' left g this o before b p i m all homed placed spared s st r) =
      clear-still mark mark' (names home places signals own h counters cs g this o) g (here_at cs g this) p i m all (said g before b) (body_of (call_of h left) (here_at cs g this) d before b) k k' a (still d cs mark mark' (names home places signals own h counters cs g this o) left g this before b k k' a w s (below-still a e r))
  all-still a e (alike_enter {inner = inner} {k = k} {k' = k'} wider mark mark' i left cs from f this object o q p j args before b d left' sf sq sa sb so r) =
      enter-still (Go BehindCall (names home places signals own h counters cs from this o) (said from before b) _) (Go BehindBlock own (copies left' (here_at cs from this) d before b) _) mark mark' (names home places signals own h counters (i ∷ cs) f object q) left cs (i ∷ cs) from f this object p j args a inner sf (below-still a e (below_call wider i left' from this o before b sb so r))
  all-still a e (alike_begin wider mark mark' i left cs from f this object o q p z args before b d left' sf sq sa sr sp sb so r) = tt

  -- for so many statements of the function there are no fewer of the copy that come to the same
  pub follows : (n : ℕ) → All home places signals own h counters n
  follows zero f f' a x keep = (0, omega arith, all-still a refl x)
  follows (suc n) f f' a x keep = stepping home places signals own h counters n (follows n) a refl x keep
