-- What construction keeps apart, step by step.
use Rattle.std.proofs.Common.{◌≡◌, ℕ, zero, suc, Bool, true, false, ◌||◌, nat_eq, if◌then◌else◌, List, [], Some, slice_get, ap, refl, sym, ◌∙◌, subst}
use Rattle.scc_semantics.specs.Location.{Part}
use Rattle.scc_core_spec.specs.Resolved.{Tried, Made, Stopped, and_made, made_map}
use Rattle.scc_elab_spec.specs.Program.{Plain}
use Rattle.scc_elab_spec.specs.Design.{Object}
use Rattle.scc_elab_spec.specs.Grown.{Grown, Bound, is_pointer, with_bound}
use Rattle.scc_elab_spec.proofs.Regular.{nat_eq-is}
use Rattle.scc_elab_spec.specs.Construct.{Now, Ran, Fell, Left_out, Halted, then_run, shut, from_tried, grow}
use Rattle.scc_elab_growth_laws.specs.Changes.{Change, Word, Aim, New, Vector, Turn, Bind, Process, Items, Reset, Add, changed_by, IsAllowed, Grows, Same, GrowsTo, IsBindable}
use Rattle.scc_elab_growth_laws.specs.Apart.{Or, First, Second, Stem, stem, is_whole_plain, Behind, IsModuleAt, IsMember, IsSpread, IsApart}
use Rattle.scc_elab_growth_laws.proofs.Paths.{some_same}
use Rattle.scc_elab_growth_laws.proofs.Homes.{module-stays, member-stays, bindable-kept}
use Rattle.scc_elab_growth_laws.proofs.Growth.{grows-then, grows-one, kept}

-- what `new` made for a pointer for which nothing was made
pub record IsMadeFor (g : Grown) (o : Object) : Type 0 where
  pub solid : is_pointer o.node ≡ false
  pub number : ℕ
  pub pointer : Object
  pub there : slice_get g.objects number ≡ Some pointer
  pub is_one : is_pointer pointer.node ≡ true
  pub unmade : g.made pointer.path ≡ false
  pub behind : Behind pointer.path o.path

-- what is added to objects that are there: these alone, or what is made for pointers
abbrev pub Adds : (Object → Type 0) → Grown → Grown → Type 0
Adds A g h = (i : ℕ) (o : Object) (s : Stem) → slice_get h.objects i ≡ Some o → stem o.path ≡ Some s → IsModuleAt g s.around → Or (slice_get g.objects i ≡ Some o) (Or (A o) (IsMadeFor g o))

-- with a pointer what is made for it
abbrev pub Closed : (Object → Type 0) → Type 0
Closed A = (q o : Object) → A q → is_pointer q.node ≡ true → is_pointer o.node ≡ false → Behind q.path o.path → A o

abbrev pub Nothing : Object → Type 0
Nothing o = ⊥

pub nothing-closed : Closed Nothing
nothing-closed q o a b c d = a

abbrev pub IsWhole : Plain → Type 0
IsWhole p = is_whole_plain p ≡ true

abbrev pub Keeps : Plain → Type 0 → (Object → Type 0) → Grown → Grown → Type 0
Keeps p Pre A g h = Grows p g h × (IsWhole p → IsApart g → Pre → IsApart h × Adds A g h)

abbrev pub Calm : Plain → Grown → Grown → Type 0
Calm p g h = Keeps p (Unit {0}) Nothing g h

-- what is made stays
made-step : (path : List Part) (p : Plain) (h : Grown) (c : Change) → IsAllowed p h c → h.made path ≡ true → (changed_by c h).made path ≡ true
made-step path p h (New other) a e = or_true _ (h.made path) e
  where
    or_true : (b c : Bool) → c ≡ true → (b || c) ≡ true
    or_true true c e = refl
    or_true false c e = e
made-step path p h (Add other place node) a e = e
made-step path p h (Word l w) a e = e
made-step path p h (Aim l t) a e = e
made-step path p h (Vector other m) a e = e
made-step path p h Turn a e = e
made-step path p h (Bind b) a e = e
made-step path p h (Process d) a e = e
made-step path p h (Items k is) a e = e
made-step path p h (Reset k r) a e = e

pub unmade-before : {p : Plain} {g h : Grown} → Grows p g h → (path : List Part) → h.made path ≡ false → g.made path ≡ false
unmade-before {p} {g} {h} grows path e = by (g.made path) refl
  where
    by : (b : Bool) → g.made path ≡ b → g.made path ≡ false
    by false d = d
    by true d = let z : true ≡ false = sym (kept (λ h. h.made path ≡ true) (made-step path p) grows d) ∙ e in absurd cc

pub adds-more : (A B : Object → Type 0) (g h : Grown) → ((o : Object) → A o → B o) → Adds A g h → Adds B g h
adds-more A B g h f a i o s e d m = by (a i o s e d m)
  where
    by_more : Or (A o) (IsMadeFor g o) → Or (slice_get g.objects i ≡ Some o) (Or (B o) (IsMadeFor g o))
    by_more (First x) = Second (First (f o x))
    by_more (Second x) = Second (Second x)

    by : Or (slice_get g.objects i ≡ Some o) (Or (A o) (IsMadeFor g o)) → Or (slice_get g.objects i ≡ Some o) (Or (B o) (IsMadeFor g o))
    by (First x) = First x
    by (Second x) = by_more x

pub adds-then : (p : Plain) (A : Object → Type 0) → Closed A → (g h k : Grown) → Grows p g h → Adds A g h → Adds A h k → Adds A g k
adds-then p A closed g h k grows a b i o s e d m = by (b i o s e d (module-stays grows m))
  where
    Wanted : Type 0
    Wanted = Or (slice_get g.objects i ≡ Some o) (Or (A o) (IsMadeFor g o))

    for_new : (x : IsMadeFor h o) → Or (A x.pointer) (IsMadeFor g x.pointer) → Wanted
    for_new x (First y) = Second (First (closed x.pointer o y x.is_one x.solid x.behind))
    for_new x (Second y) = let z : true ≡ false = sym x.is_one ∙ y.solid in absurd cc

    for_pointer : (x : IsMadeFor h o) → Or (slice_get g.objects x.number ≡ Some x.pointer) (Or (A x.pointer) (IsMadeFor g x.pointer)) → Wanted
    for_pointer x (First y) = Second (Second (record { solid = x.solid; number = x.number; pointer = x.pointer; there = y; is_one = x.is_one; unmade = unmade-before grows x.pointer.path x.unmade; behind = x.behind }))
    for_pointer x (Second y) = for_new x y

    by_more : Or (A o) (IsMadeFor h o) → Wanted
    by_more (First x) = Second (First x)
    by_more (Second x) = for_pointer x (a x.number x.pointer s x.there (x.behind.0 ∙ d) m)

    by : Or (slice_get h.objects i ≡ Some o) (Or (A o) (IsMadeFor h o)) → Wanted
    by (First x) = a i o s x d m
    by (Second x) = by_more x

module _ (p : Plain) where
  pub keeps-same : (A : Object → Type 0) (Pre : Type 0) (g : Grown) → Keeps p Pre A g g
  keeps-same A Pre g = (Same, λ whole apart pre. (apart, λ i o s e d m. First e))

  pub keeps-more : (A B : Object → Type 0) (Pre Pre' : Type 0) (g h : Grown) → ((o : Object) → A o → B o) → (Pre' → Pre) → Keeps p Pre A g h → Keeps p Pre' B g h
  keeps-more A B Pre Pre' g h f k a = (a.0, λ whole apart pre. let z = a.1 whole apart (k pre) in (z.0, adds-more A B g h f z.1))

  pub keeps-then : (A B : Object → Type 0) → Closed A → ((o : Object) → B o → A o) → (Pre Pre' : Type 0) (g h k : Grown) → Keeps p Pre B g h → (IsWhole p → IsApart g → IsApart h → Adds B g h → Pre → Pre') → Keeps p Pre' A h k → Keeps p Pre A g k
  keeps-then A B closed more Pre Pre' g h k a link b = (
    grows-then a.0 b.0,
    λ whole apart pre. let y = a.1 whole apart pre in let z = b.1 whole y.0 (link whole apart y.0 y.1 pre) in (z.0, adds-then p A closed g h k a.0 (adds-more B A g h more y.1) z.1),
  )

  pub calm-then : {g h k : Grown} → Calm p g h → Calm p h k → Calm p g k
  calm-then {g} {h} {k} a b = keeps-then Nothing Nothing nothing-closed (λ o x. x) (Unit {0}) (Unit {0}) g h k a (λ whole apart more adds pre. tt) b

  -- what adds no object and unmakes nothing
  same-objects : (g h : Grown) → h.objects ≡ g.objects → Grows p g h → IsSpread g → IsSpread h × Adds Nothing g h
  same-objects g h e grows apart = (
    record {
      solids = λ i j o q a b. apart.solids i j o q (there i o a) (there j q b);
      pointers = λ i j o q a b. apart.pointers i j o q (there i o a) (there j q b);
      unmade = λ i j o q a b c d f. apart.unmade i j o q (there i o a) (there j q b) c d (unmade-before grows o.path f);
      members = λ i o a. by o (apart.members i o (there i o a));
    },
    λ i o s a d m. First (there i o a),
  )
    where
      there : (i : ℕ) (o : Object) → slice_get h.objects i ≡ Some o → slice_get g.objects i ≡ Some o
      there i o a = ap (λ os. slice_get os i) (sym e) ∙ a

      by : (o : Object) → Or ((o.path ≡ []) × (is_pointer o.node ≡ false)) (IsMember g o.path) → Or ((o.path ≡ []) × (is_pointer o.node ≡ false)) (IsMember h o.path)
      by o (First x) = First x
      by o (Second x) = Second (member-stays grows x)

  -- bindings stay, where none is added
  pub apart-more : (g h : Grown) → Grows p g h → h.bound ≡ g.bound → IsApart g → IsSpread h → IsApart h
  apart-more g h grows e apart spread = record { spread = spread; bindings = λ n b a. let x = apart.bindings n b (ap (λ f. f n) (sym e) ∙ a) in (x.0, bindable-kept grows apart.spread spread b x.1) }

  calm-by : (g : Grown) (c : Change) → IsAllowed p g c → (changed_by c g).objects ≡ g.objects → (changed_by c g).bound ≡ g.bound → Calm p g (changed_by c g)
  calm-by g c a e f = let h : Grown = changed_by c g in let grows : Grows p g h = grows-one c a in (grows, λ whole apart pre. let z = same-objects g h e grows apart.spread in (apart-more g h grows f apart z.0, z.1))

  calm-bound : (g : Grown) (b : Bound) → IsAllowed p g (Bind b) → Calm p g (changed_by (Bind b) g)
  calm-bound g b a = let h : Grown = with_bound g b in let grows : Grows p g h = grows-one (Bind b) a in (
    grows,
    λ whole apart pre. let z = same-objects g h refl grows apart.spread in (
      record { spread = z.0; bindings = λ n x e. let y = by apart n x (nat_eq b.port n) refl e in (y.0, bindable-kept grows apart.spread z.0 x y.1) },
      z.1,
    ),
  )
    where
      by : IsApart g → (n : ℕ) (x : Bound) (c : Bool) → nat_eq b.port n ≡ c → (if c then Some b else g.bound n) ≡ Some x → (x.port ≡ n) × IsBindable g x
      by apart n x false d e = apart.bindings n x e
      by apart n x true d e = subst (λ (z : Bound). (z.port ≡ n) × IsBindable g z) (some_same e) (nat_eq-is b.port n d, a.1)

  -- a change that adds nothing
  abbrev pub AddsNothing : Change → Type 0
  AddsNothing (Add path place node) = ⊥
  AddsNothing c = Unit {0}

  pub calm : (g : Grown) (c : Change) → AddsNothing c → IsAllowed p g c → Calm p g (changed_by c g)
  calm g (Add path place node) q a = absurd q
  calm g (Word l w) q a = calm-by g (Word l w) a refl refl
  calm g (Aim l t) q a = calm-by g (Aim l t) a refl refl
  calm g (New path) q a = calm-by g (New path) a refl refl
  calm g (Vector path n) q a = calm-by g (Vector path n) a refl refl
  calm g Turn q a = calm-by g Turn a refl refl
  calm g (Bind b) q a = calm-bound g b a
  calm g (Process d) q a = calm-by g (Process d) a refl refl
  calm g (Items k is) q a = calm-by g (Items k is) a refl refl
  calm g (Reset k r) q a = calm-by g (Reset k r) a refl refl

-- unless something is refused
abbrev pub KeepsTo : Plain → Type 0 → (Object → Type 0) → Grown → Tried Grown → Type 0
KeepsTo p Pre A g (Made h) = Keeps p Pre A g h
KeepsTo p Pre A g (Stopped r) = Unit {0}

abbrev pub CalmTo : Plain → Grown → Tried Grown → Type 0
CalmTo p g t = KeepsTo p (Unit {0}) Nothing g t

abbrev pub SameKeeps : Plain → Type 0 → (Object → Type 0) → Grown → (t u : Tried Grown) → Type 0
SameKeeps p Pre A g t u = (u ≡ t) × KeepsTo p Pre A g t

abbrev pub SameCalm : Plain → Grown → (t u : Tried Grown) → Type 0
SameCalm p g t u = SameKeeps p (Unit {0}) Nothing g t u

pub calm-same : (p : Plain) (g : Grown) → Calm p g g
calm-same p g = keeps-same p Nothing (Unit {0}) g

pub to-growth : (p : Plain) (Pre : Type 0) (A : Object → Type 0) (g : Grown) (t : Tried Grown) → KeepsTo p Pre A g t → GrowsTo p g t
to-growth p Pre A g (Made h) a = a.0
to-growth p Pre A g (Stopped r) a = tt

module _ (p : Plain) (Pre : Type 0) (A : Object → Type 0) (g : Grown) where
  pub to-and : {X : Type 0} (t : Tried X) (f : X → Tried Grown) → ((x : X) → t ≡ Made x → KeepsTo p Pre A g (f x)) → KeepsTo p Pre A g (and_made t f)
  to-and (Made x) f h = h x refl
  to-and (Stopped r) f h = tt

  pub to-map : {X : Type 0} (t : Tried X) (f : X → Grown) → ((x : X) → t ≡ Made x → Keeps p Pre A g (f x)) → KeepsTo p Pre A g (made_map f t)
  to-map (Made x) f h = h x refl
  to-map (Stopped r) f h = tt

  pub same-and : {X : Type 0} (t : Tried X) (f e : X → Tried Grown) → ((x : X) → t ≡ Made x → SameKeeps p Pre A g (f x) (e x)) → SameKeeps p Pre A g (and_made t f) (and_made t e)
  same-and (Made x) f e h = h x refl
  same-and (Stopped r) f e h = (refl, tt)

  pub to-more : (B : Object → Type 0) (Pre' : Type 0) → ((o : Object) → A o → B o) → (Pre' → Pre) → (t : Tried Grown) → KeepsTo p Pre A g t → KeepsTo p Pre' B g t
  to-more B Pre' f k (Made h) a = keeps-more p A B Pre Pre' g h f k a
  to-more B Pre' f k (Stopped r) a = tt

  -- something, and what is made behind it
  module _ (B : Object → Type 0) (closed : Closed A) (more : (o : Object) → B o → A o) where
    pub keeps-from : (Pre' : Type 0) (h : Grown) (t : Tried Grown) → Keeps p Pre B g h → (IsWhole p → IsApart g → IsApart h → Adds B g h → Pre → Pre') → KeepsTo p Pre' A h t → KeepsTo p Pre A g t
    keeps-from Pre' h (Made k) a link b = keeps-then p A B closed more Pre Pre' g h k a link b
    keeps-from Pre' h (Stopped r) a link b = tt

    pub same-from : (Pre' : Type 0) (h : Grown) (t u : Tried Grown) → Keeps p Pre B g h → (IsWhole p → IsApart g → IsApart h → Adds B g h → Pre → Pre') → SameKeeps p Pre' A h t u → SameKeeps p Pre A g t u
    same-from Pre' h t u a link b = (b.0, keeps-from Pre' h t a link b.1)

    pub same-then : (Pre' : Grown → Type 0) (t u : Tried Grown) (f e : Grown → Tried Grown) → SameKeeps p Pre B g t u → ((h : Grown) → Grows p g h → IsWhole p → IsApart g → IsApart h → Adds B g h → Pre → Pre' h)
        → ((h : Grown) → Grows p g h → SameKeeps p (Pre' h) A h (f h) (e h)) → SameKeeps p Pre A g (and_made t f) (and_made u e)
    same-then Pre' (Made h) u f e a link b = let c = b h a.1.0 in (ap (λ z. and_made z e) a.0 ∙ c.0, keeps-from (Pre' h) h (f h) a.1 (link h a.1.0) c.1)
    same-then Pre' (Stopped r) u f e a link b = (ap (λ z. and_made z e) a.0, tt)

pub calm-and : (p : Plain) (g : Grown) {X : Type 0} (t : Tried X) (f : X → Tried Grown) → ((x : X) → t ≡ Made x → CalmTo p g (f x)) → CalmTo p g (and_made t f)
calm-and p g t f h = to-and p (Unit {0}) Nothing g t f h

pub calm-map : (p : Plain) (g : Grown) {X : Type 0} (t : Tried X) (f : X → Grown) → ((x : X) → t ≡ Made x → Calm p g (f x)) → CalmTo p g (made_map f t)
calm-map p g t f h = to-map p (Unit {0}) Nothing g t f h

-- something calm is one of any sort
pub calm-to : (p : Plain) (Pre : Type 0) (A : Object → Type 0) (g : Grown) (t : Tried Grown) → CalmTo p g t → KeepsTo p Pre A g t
calm-to p Pre A g t a = to-more p (Unit {0}) Nothing g A Pre (λ o x. absurd x) (λ pre. tt) t a

-- runs of statements
module _ (p : Plain) where
  abbrev pub RanCalm : Grown → Ran → Type 0
  RanCalm g (Fell n) = Calm p g n.grown
  RanCalm g (Left_out d n) = Calm p g n.grown
  RanCalm g (Halted r) = Unit {0}

  abbrev pub SameRun : Grown → Ran → Ran → Type 0
  SameRun g r q = (q ≡ r) × RanCalm g r

  ran-from : (g h : Grown) (r : Ran) → Calm p g h → RanCalm h r → RanCalm g r
  ran-from g h (Fell n) a b = calm-then p a b
  ran-from g h (Left_out d n) a b = calm-then p a b
  ran-from g h (Halted r) a b = tt

  pub run-then : (g : Grown) (r q : Ran) (f e : Now → Ran) → SameRun g r q → ((n : Now) → Grows p g n.grown → SameRun n.grown (f n) (e n)) → SameRun g (then_run r f) (then_run q e)
  run-then g (Fell n) q f e a b = let c = b n a.1.0 in (ap (λ z. then_run z e) a.0 ∙ c.0, ran-from g n.grown (f n) a.1 c.1)
  run-then g (Left_out d n) q f e a b = (ap (λ z. then_run z e) a.0, a.1)
  run-then g (Halted r) q f e a b = (ap (λ z. then_run z e) a.0, tt)

  pub run-shut : (g : Grown) (r q : Ran) (f e : Now → Ran) → SameRun g r q → ((n : Now) → Grows p g n.grown → SameRun n.grown (f n) (e n)) → SameRun g (shut r f) (shut q e)
  run-shut g (Fell n) q f e a b = let c = b n a.1.0 in (ap (λ z. shut z e) a.0 ∙ c.0, ran-from g n.grown (f n) a.1 c.1)
  run-shut g (Left_out zero n) q f e a b = let c = b n a.1.0 in (ap (λ z. shut z e) a.0 ∙ c.0, ran-from g n.grown (f n) a.1 c.1)
  run-shut g (Left_out (suc d) n) q f e a b = (ap (λ z. shut z e) a.0, a.1)
  run-shut g (Halted r) q f e a b = (ap (λ z. shut z e) a.0, tt)

  pub run-tried : {A : Type 0} (g : Grown) (t : Tried A) (f e : A → Ran) → ((a : A) → t ≡ Made a → SameRun g (f a) (e a)) → SameRun g (from_tried t f) (from_tried t e)
  run-tried g (Made a) f e b = b a refl
  run-tried g (Stopped r) f e b = (refl, tt)

  pub run-grow : (n : Now) (t u : Tried Grown) (f e : Now → Ran) → SameCalm p n.grown t u → ((m : Now) → Grows p n.grown m.grown → SameRun m.grown (f m) (e m)) → SameRun n.grown (grow n t f) (grow n u e)
  run-grow n (Made g) u f e a b = let m : Now = record { grown = g; last = n.last } in let c = b m a.1.0 in (ap (λ z. grow n z e) a.0 ∙ c.0, ran-from n.grown g (f m) a.1 c.1)
  run-grow n (Stopped r) u f e a b = (ap (λ z. grow n z e) a.0, tt)

  -- something calm, and then a run
  pub run-behind : (g h : Grown) (r q : Ran) → Calm p g h → SameRun h r q → SameRun g r q
  run-behind g h r q a b = (b.0, ran-from g h r a b.1)
