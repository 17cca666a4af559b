-- The statements of a constructor: what they make grows, and greater bounds change nothing.
use Rattle.std.proofs.Common.{◌≡◌, ℕ, zero, suc, ◌+◌, ◌≤◌, ◌<◌, Bool, true, false, not, nat_le, List, length, Option, Some, None, option_map, slice_get, is_some, unwrap_or, if◌then◌else◌, ap, refl, sym, ◌∙◌, ◌||◌, arith}
use Rattle.scc_base.specs.declared.refusal.Place.{Place}
use Rattle.scc_base.specs.declared.code.Code.TheVariants as reason
use Rattle.scc_semantics.specs.Location.{Location, Part, Root, Top, Local, Answer}
use Rattle.scc_core_spec.specs.First.{refused}
use Rattle.scc_core_spec.specs.Resolved.{Tried, Made, Stopped, and_made, made_map}
use Rattle.scc_elab_spec.specs.Term.{Term, Argument}
use Rattle.scc_elab_spec.specs.Program.{Base, Code, End, Declare, Assign, Point, Write, Call, If, Loop, Block, Exit, Return, Wait, Make, Bind, Process, Sensitive, Quiet, Reset}
use Rattle.scc_elab_spec.specs.Bodies.{elements}
use Rattle.scc_elab_spec.specs.Grown.{Grown, Item, pointer_at, with_target, with_made, with_turn, with_declared}
use Rattle.scc_elab_spec.specs.Worth.{Site, at_now, spot, worth, target, assigned, Given, given}
use Rattle.scc_elab_spec.specs.Construct.{Now, Ran, Fell, Halted, Making, then_run, from_tried, grow, declared_from, sizes_of, point_at, made_at, make_at, ends_in_vector, is_true, turned, looped, choose_of, ran_in}
use Rattle.scc_elab_spec.specs.Binding.{bind, items_of, declare, channel, changed_at, with_items, with_reset}
use Rattle.scc_elab_growth_laws.specs.Changes.{New, Turn, Items, Grows}
use Rattle.scc_elab_growth_laws.specs.Changes as change
use Rattle.scc_elab_growth_laws.specs.Sites.{IsOf}
use Rattle.scc_elab_growth_laws.proofs.Sites.{pointer-kept, of-kept, module-of}
use Rattle.scc_elab_growth_laws.proofs.Growth.{grows-then, grows-one, IsIn, in-kept}
use Rattle.scc_elab_growth_laws.proofs.Keeping.{Nothing, SameKeeps, Calm, CalmTo, SameCalm, calm, calm-same, calm-and, calm-map, same-and, SameRun, run-then, run-shut, run-tried, run-grow, run-behind}
use Rattle.scc_elab_growth_laws.proofs.Placing.{IsPlace, Solid}
use Rattle.scc_elab_growth_laws.proofs.Newly.{find-pointer, made-new}
use Rattle.scc_elab_growth_laws.proofs.Parts.{declared-grows, assigned-grows, point-grows, bind-grows, channel-is, items-are, declare-grows}

below : (n : ℕ) → nat_le 65536 n ≡ false → n < 65536
below n e = grind arith

over : {A : Type 0} (n : ℕ) → n ≤ 65536 → 65537 ≤ 0 + n → A
over n a b = absurd (omega arith)

fewer : (left n m : ℕ) → 65537 ≤ suc left + n → n + 1 ≤ m → 65537 ≤ left + m
fewer left n m a b = omega arith

enough : (t n : ℕ) → 65537 ≤ t → 65537 ≤ t + n
enough t n a = omega arith

zero_least : (n : ℕ) → 0 ≤ n
zero_least n = omega arith

itself : (n : ℕ) → n ≤ n
itself n = omega arith

module _ (s : Site) (low t u : ℕ) (at_least : 65537 ≤ t) (at_least_too : 65537 ≤ u) (make other : Making)
    (making : (g : Grown) (path : List Part) (q : Place) (base : Base) (v : Bool) (args : Grown → Tried (List Given)) → IsIn low 0 g → SameKeeps s.plain (IsPlace g path) (Solid path) g (make g path q base v args) (other g path q base v args)) where
  -- the object at hand is one of a class, and the limits hold
  abbrev pub IsHere : Grown → Type 0
  IsHere g = IsOf s.plain s.function s.object g × IsIn low 0 g

  pub here-kept : {g h : Grown} → Grows s.plain g h → IsHere g → IsHere h
  here-kept a i = (of-kept a s.function s.object i.0, in-kept low 0 a i.1)

  made-at-same : (g : Grown) → IsHere g → (q : Place) (base : Base) (v : Bool) (args : List Argument) (r : Root) (path : List Part)
      → SameCalm s.plain g (made_at make (at_now s g) q base v args (record { root = r; path = path }) r) (made_at other (at_now s g) q base v args (record { root = r; path = path }) r)
  made-at-same g i q base v args (Local j cs n) path = (refl, tt)
  made-at-same g i q base v args (Answer j cs) path = (refl, tt)
  made-at-same g i q base v args Top path = by (is_some (pointer_at g l)) refl
    where
      l : Location
      l = record { root = Top; path = path }

      aimed : Grown → Grown
      aimed h = with_target h l (Some l)

      by_making : Making → Tried Grown
      by_making m = made_map aimed (m (with_made g path) path q base v (λ h. given (at_now s h) args))

      inner : is_some (pointer_at g l) ≡ true → (c : Bool) → g.made path ≡ c → SameCalm s.plain g (if c then Stopped (refused reason.Constructor q) else by_making make) (if c then Stopped (refused reason.Constructor q) else by_making other)
      inner there true e = (refl, tt)
      inner there false e = made-new s.plain g path e (find-pointer g path there) (make (with_made g path) path q base v (λ h. given (at_now s h) args)) (other (with_made g path) path q base v (λ h. given (at_now s h) args))
          (making (with_made g path) path q base v (λ h. given (at_now s h) args) (let begun : Grows s.plain g (with_made g path) = grows-one (New path) e in in-kept low 0 begun i.1))
          (λ h a. (refl, λ d. let begun : Grows s.plain g (with_made g path) = grows-one (New path) e in let z : true ≡ false = sym (ap (λ b. b || false) (pointer-kept (grows-then begun a) path there)) ∙ d in absurd cc))

      by : (c : Bool) → is_some (pointer_at g l) ≡ c → SameCalm s.plain g (if not c then Made g else (if g.made path then Stopped (refused reason.Constructor q) else by_making make)) (if not c then Made g else (if g.made path then Stopped (refused reason.Constructor q) else by_making other))
      by false e = (refl, calm-same s.plain _)
      by true e = inner e (g.made path) refl

  make-at-same : (g : Grown) → IsHere g → (q : Place) (base : Base) (v : Bool) (args : List Argument) (o : Option Location)
      → SameCalm s.plain g (make_at make (at_now s g) q base v args o) (make_at other (at_now s g) q base v args o)
  make-at-same g i q base v args None = (refl, calm-same s.plain _)
  make-at-same g i q base v args (Some l) = made-at-same g i q base v args l.root l.path

  choose-same : (x : ℕ) (fa fb ea eb : Now → Ran) (n : Now) → SameRun s.plain n.grown (fa n) (ea n) → SameRun s.plain n.grown (fb n) (eb n) → SameRun s.plain n.grown (choose_of x fa fb n) (choose_of x ea eb n)
  choose-same zero fa fb ea eb n a b = b
  choose-same (suc x) fa fb ea eb n a b = a

  last-same : (q : Place) (n : Now) (o : Option ℕ) (f e : ℕ → Ran) → ((k : ℕ) → SameRun s.plain n.grown (f k) (e k))
      → SameRun s.plain n.grown (unwrap_or (option_map f o) (Halted (refused reason.Sensitivity q))) (unwrap_or (option_map e o) (Halted (refused reason.Sensitivity q)))
  last-same q n None f e h = (refl, tt)
  last-same q n (Some k) f e h = h k

  turned-same : (q : Place) (n : Now) (f e : Now → Ran) → ((m : Now) → Grows s.plain n.grown m.grown → m.grown.turns ≡ n.grown.turns + 1 → SameRun s.plain m.grown (f m) (e m)) → SameRun s.plain n.grown (turned q n f) (turned q n e)
  turned-same q n f e h = by (nat_le 65536 n.grown.turns) refl
    where
      m : Now
      m = record { grown = with_turn n.grown; last = n.last }

      by : (c : Bool) → nat_le 65536 n.grown.turns ≡ c → SameRun s.plain n.grown (if c then Halted (refused reason.ConstructionTurns q) else f m) (if c then Halted (refused reason.ConstructionTurns q) else e m)
      by true d = (refl, tt)
      by false d = let a : Calm s.plain n.grown m.grown = calm s.plain n.grown Turn tt (below n.grown.turns d) in run-behind s.plain n.grown m.grown (f m) (e m) a (h m a.0 refl)

  later : (m k : Now) → Grows s.plain m.grown k.grown → IsHere m.grown → m.grown.turns ≤ k.grown.turns
  later m k a i = let j : IsIn low m.grown.turns m.grown = record { low = i.1.low; high = i.1.high; least = itself m.grown.turns; most = i.1.most } in (in-kept low m.grown.turns a j).least

  -- a loop whose test and turn are the same
  looped-same : (left right : ℕ) (q : Place) (test turn test' turn' : Now → Ran)
      → ((n : Now) → IsHere n.grown → SameRun s.plain n.grown (test n) (test' n)) → ((n : Now) → IsHere n.grown → SameRun s.plain n.grown (turn n) (turn' n))
      → (n : Now) → IsHere n.grown → 65537 ≤ left + n.grown.turns → 65537 ≤ right + n.grown.turns → SameRun s.plain n.grown (looped left q test turn n) (looped right q test' turn' n)
  looped-same zero right q test turn test' turn' a b n i x y = over n.grown.turns i.1.most x
  looped-same (suc left) zero q test turn test' turn' a b n i x y = over n.grown.turns i.1.most y
  looped-same (suc left) (suc right) q test turn test' turn' a b n i x y =
      run-then s.plain n.grown (test n) (test' n) (λ n. turned q n (λ n. then_run (turn n) (looped left q test turn))) (λ n. turned q n (λ n. then_run (turn' n) (looped right q test' turn'))) (a n i) (λ m g.
      let im = here-kept g i in
      turned-same q m (λ n. then_run (turn n) (looped left q test turn)) (λ n. then_run (turn' n) (looped right q test' turn')) (λ k h e.
      let ik = here-kept h im in
      run-then s.plain k.grown (turn k) (turn' k) (looped left q test turn) (looped right q test' turn') (b k ik) (λ l j.
      let il = here-kept j ik in let more = behind n m k l g h j i im ik e in
      looped-same left right q test turn test' turn' a b l il (fewer left n.grown.turns l.grown.turns x more) (fewer right n.grown.turns l.grown.turns y more))))
    where
      sum : (n m k l : ℕ) → n ≤ m → k ≡ m + 1 → k ≤ l → n + 1 ≤ l
      sum n m k l a b c = omega arith

      behind : (n m k l : Now) → Grows s.plain n.grown m.grown → Grows s.plain m.grown k.grown → Grows s.plain k.grown l.grown → IsHere n.grown → IsHere m.grown → IsHere k.grown → k.grown.turns ≡ m.grown.turns + 1 → n.grown.turns + 1 ≤ l.grown.turns
      behind n m k l g h j i im ik e = sum n.grown.turns m.grown.turns k.grown.turns l.grown.turns (later n m g i) e (later k l j ik)

  abbrev one : Code → Now → Ran
  one c = ran_in t make s c

  abbrev two : Code → Now → Ran
  two c = ran_in u other s c

  test-same : (e : Term) (fa fb ea eb : Now → Ran) (n : Now) → SameRun s.plain n.grown (fa n) (ea n) → SameRun s.plain n.grown (fb n) (eb n)
      → SameRun s.plain n.grown (from_tried (worth (at_now s n.grown) e) (λ x. choose_of x fa fb n)) (from_tried (worth (at_now s n.grown) e) (λ x. choose_of x ea eb n))
  test-same e fa fb ea eb n a b = run-tried s.plain n.grown (worth (at_now s n.grown) e) (λ x. choose_of x fa fb n) (λ x. choose_of x ea eb n) (λ x d. choose-same x fa fb ea eb n a b)

  then-tried : {A : Type 0} (t : Tried A) (f : A → Ran) (next : Now → Ran) → then_run (from_tried t f) next ≡ from_tried t (λ x. then_run (f x) next)
  then-tried (Made a) f next = refl
  then-tried (Stopped r) f next = refl

  -- a statement that changes what is made, the same on both sides
  plainly : (n : Now) (x : Tried Grown) (r : Code) → CalmTo s.plain n.grown x → ((m : Now) → Grows s.plain n.grown m.grown → SameRun s.plain m.grown (one r m) (two r m)) → SameRun s.plain n.grown (grow n x (one r)) (grow n x (two r))
  plainly n x r a b = run-grow s.plain n x x (one r) (two r) (refl, a) b

  pub ran-same : (c : Code) (n : Now) → IsHere n.grown → SameRun s.plain n.grown (one c n) (two c n)
  ran-same End n i = (refl, calm-same s.plain _)
  ran-same (Declare q k r) n i = plainly n (Made (declared_from s k (slice_get s.function.locals k) (elements (sizes_of (slice_get s.function.locals k))) n.grown)) r
      (declared-grows s.plain s k (slice_get s.function.locals k) (elements (sizes_of (slice_get s.function.locals k))) n.grown) (λ m a. ran-same r m (here-kept a i))
  ran-same (Assign q l k e r) n i = plainly n (assigned (at_now s n.grown) l k e) r (assigned-grows (at_now s n.grown) i.0 l k e) (λ m a. ran-same r m (here-kept a i))
  ran-same (Point q l x r) n i = plainly n (and_made (spot (at_now s n.grown) false false l) (λ o. and_made (target (at_now s n.grown) x) (point_at (at_now s n.grown) q o))) r
      (point-grows (at_now s n.grown) i.0 q l x) (λ m a. ran-same r m (here-kept a i))
  ran-same (If q e a b r) n i = run-tried s.plain n.grown (worth (at_now s n.grown) e) (λ x. then_run (choose_of x (one a) (one b) n) (one r)) (λ x. then_run (choose_of x (two a) (two b) n) (two r)) (λ x d.
      run-then s.plain n.grown (choose_of x (one a) (one b) n) (choose_of x (two a) (two b) n) (one r) (two r)
      (choose-same x (one a) (one b) (two a) (two b) n (ran-same a n i) (ran-same b n i)) (λ m g. ran-same r m (here-kept g i)))
  ran-same (Block q b r) n i = run-shut s.plain n.grown (one b n) (two b n) (one r) (two r) (ran-same b n i) (λ m g. ran-same r m (here-kept g i))
  ran-same (Exit q d r) n i = (refl, calm-same s.plain _)
  ran-same (Make q l base args r) n i = run-grow s.plain n (and_made (spot (at_now s n.grown) false false l) (make_at make (at_now s n.grown) q base (ends_in_vector s l) args)) (and_made (spot (at_now s n.grown) false false l) (make_at other (at_now s n.grown) q base (ends_in_vector s l) args)) (one r) (two r)
      (same-and s.plain (Unit {0}) Nothing n.grown (spot (at_now s n.grown) false false l) (make_at make (at_now s n.grown) q base (ends_in_vector s l) args) (make_at other (at_now s n.grown) q base (ends_in_vector s l) args) (λ o d. make-at-same n.grown i q base (ends_in_vector s l) args o))
      (λ m g. ran-same r m (here-kept g i))
  ran-same (Bind q port to r) n i = plainly n (bind (at_now s n.grown) q port to) r (bind-grows s.plain (at_now s n.grown) q port to) (λ m a. ran-same r m (here-kept a i))
  ran-same (Process q thread f edge r) n i = let declared : Tried Grown = declare (at_now s n.grown) q thread f edge in let with_last : Grown → Now = λ g. record { grown = g; last = Some (length n.grown.declared) } in
      by declared (declare-grows (at_now s n.grown) q thread f edge (module-of i.0)) with_last (λ m a. ran-same r m (here-kept a i))
    where
      by : (x : Tried Grown) → CalmTo s.plain n.grown x → (w : Grown → Now) → ((m : Now) → Grows s.plain n.grown m.grown → SameRun s.plain m.grown (one r m) (two r m))
          → SameRun s.plain n.grown (from_tried x (λ g. one r (record { grown = g; last = Some (length n.grown.declared) }))) (from_tried x (λ g. two r (record { grown = g; last = Some (length n.grown.declared) })))
      by (Made g) a w b = let m : Now = record { grown = g; last = Some (length n.grown.declared) } in run-behind s.plain n.grown g (one r m) (two r m) a (b m a.0)
      by (Stopped z) a w b = (refl, tt)
  ran-same (Sensitive q items r) n i = last-same q n n.last (λ k. grow n (x k) (one r)) (λ k. grow n (x k) (two r)) (λ k. plainly n (x k) r
      (calm-map s.plain n.grown (items_of (at_now s n.grown) items) (f k) (λ is d. calm s.plain n.grown (Items k is) tt (items-are (at_now s n.grown) items is d))) (λ m a. ran-same r m (here-kept a i)))
    where
      f : ℕ → List Item → Grown
      f k is = with_declared n.grown (changed_at k (with_items is) n.grown.declared)

      x : ℕ → Tried Grown
      x k = made_map (f k) (items_of (at_now s n.grown) items)
  ran-same (Quiet q r) n i = last-same q n n.last (λ k. one r n) (λ k. two r n) (λ k. ran-same r n i)
  ran-same (Reset q signal level asynchronous r) n i = last-same q n n.last (λ k. grow n (x k) (one r)) (λ k. grow n (x k) (two r)) (λ k. plainly n (x k) r
      (calm-and s.plain n.grown (channel (at_now s n.grown) signal) (λ c. made_map (f k c) (worth (at_now s n.grown) level)) (λ c d.
      calm-map s.plain n.grown (worth (at_now s n.grown) level) (f k c) (λ w e. calm s.plain n.grown (change.Reset k (record { place = q; signal = c; level = is_true w; asynchronous = asynchronous })) tt (channel-is (at_now s n.grown) signal c d))))
      (λ m a. ran-same r m (here-kept a i)))
    where
      f : ℕ → Option ℕ → ℕ → Grown
      f k c w = with_declared n.grown (changed_at k (with_reset (record { place = q; signal = c; level = is_true w; asynchronous = asynchronous })) n.grown.declared)

      x : ℕ → Tried Grown
      x k = and_made (channel (at_now s n.grown) signal) (λ c. made_map (f k c) (worth (at_now s n.grown) level))
  ran-same (Loop q c (If y e a b turn) r) n i = looped-same t u q (λ n. from_tried (worth (at_now s n.grown) e) (λ x. choose_of x (one a) (one b) n)) (one turn) (λ n. from_tried (worth (at_now s n.grown) e) (λ x. choose_of x (two a) (two b) n)) (two turn)
      (λ n i. test-same e (one a) (one b) (two a) (two b) n (ran-same a n i) (ran-same b n i)) (λ n i. ran-same turn n i) n i (enough t n.grown.turns at_least) (enough u n.grown.turns at_least_too)
  ran-same (Loop q c b r) n i = looped-same t u q Fell (one b) Fell (two b) (λ n i. (refl, calm-same s.plain _)) (λ n i. ran-same b n i) n i (enough t n.grown.turns at_least) (enough u n.grown.turns at_least_too)
  ran-same (Write q l e r) n i = (refl, tt)
  ran-same (Call q k f o args r) n i = (refl, tt)
  ran-same (Return q v r) n i = (refl, tt)
  ran-same (Wait q k r) n i = (refl, tt)
