-- Each design that is elaborated is laid out, where the members of each class have different names.
use Rattle.std.proofs.Common.{◌≡◌, ℕ, zero, suc, ◌+◌, ◌<◌, ◌^◌, Bool, true, false, not, ◌&&◌, ◌||◌, nat_eq, nat_lt, cond, List, [], ◌∷◌, length, filter, Option, Some, None, option_map, option_and_then, is_some, unwrap_or, slice_get, if◌then◌else◌, refl, sym, ap, ◌∙◌, subst, arith}
use Rattle.std.specs.Prelude.{pos}
use Rattle.scc_base.specs.declared.code.Code.TheVariants as reason
use Rattle.scc_bits_kinds.specs.declared.kind.Kind.{Kind}
use Rattle.scc_bits_kinds.specs.Kinds.{width_of}
use Rattle.scc_bits_kinds.proofs.Low.{low_less}
use Rattle.scc_semantics.specs.Location.{Part}
use Rattle.scc_core_spec.specs.First.{or_else, first_some, first_of, first_numbered, when, refused}
use Rattle.scc_core_spec.specs.Resolved.{Made}
use Rattle.scc_elab_spec.specs.Program.{Plain}
use Rattle.scc_elab_spec.specs.Design as design
use Rattle.scc_elab_spec.specs.Design.{Design, Object, Process, Node, Module, Port, Signal, Variable, Pointer, is_module}
use Rattle.scc_elab_spec.specs.Cells as cells
use Rattle.scc_elab_spec.specs.Cells.{is_front, longer, parent_among, parent}
use Rattle.scc_elab_spec.specs.Binding as binding
use Rattle.scc_elab_spec.specs.Binding.{home}
use Rattle.scc_elab_spec.specs.Grown.{Grown, Declared, Item, ResetItem, node_of, at_path}
use Rattle.scc_elab_spec.specs.After.{Clock, root, misplaced, unbound, bad_process, bad_reset, insensitive, is_sensitive, edges, levels, clock_by, clock_of, clocks_if, first_reset}
use Rattle.scc_elab_spec.specs.Elaborated.{elaborated, left_node, objects_left, process_left, reset_left, design_left}
use Rattle.scc_elab_growth_laws.specs.Leaves.{IsLeft}
use Rattle.scc_elab_growth_laws.specs.Apart.{is_whole_plain, StandApart}
use Rattle.scc_elab_growth_laws.proofs.Leaving.{left-is}
use Rattle.scc_elab_laws.specs.Rooted as rooted
use Rattle.scc_elab_laws.specs.Rooted.{AllRoots, IsOfKind, MeetsRoots}
use Rattle.scc_elab_laws.proofs.Leading.{objects-left-at}
use Rattle.scc_elab_laws.proofs.Housing.{housed, stand-apart}
use Rattle.scc_elab_laws.proofs.Rooting.{port-root, second-none}
use Rattle.scc_elab_laws.proofs.Meeting.{process-meets, meetings}
use Rattle.scc_elab_laws.proofs.RootKinds.{port-kind}
use Rattle.scc_elab_laws.proofs.Runs.{declared-at}
use Rattle.scc_core_unroll_laws.proofs.Counters.{some-is}
use Rattle.scc_core_resolved_laws.proofs.Bools.{and-first}
use Rattle.scc_inline_core_laws.specs.LaidOut.{is_root_node, is_root_object, IsRootAt, AllRootsAt, kind_of_node, kind_at, IsLaidOut}

abbrev path_at : Option Object → Option (List Part)
path_at o = option_map (λ (o : Object). o.path) o

longer-same : (a b : Option Object) (o u : Object) → path_at a ≡ path_at b → o.path ≡ u.path → path_at (longer a o) ≡ path_at (longer b u)
longer-same None None o u e f = ap Some f
longer-same None (Some y) o u e f = absurd cc
longer-same (Some x) None o u e f = absurd cc
longer-same (Some x) (Some y) o u e f = by (nat_lt (length x.path) (length o.path)) (nat_lt (length y.path) (length u.path)) (λ i. nat_lt (length (same i)) (length (f i)))
  where
    same : x.path ≡ y.path
    same = some-is e

    by : (s t : Bool) → s ≡ t → path_at (if s then Some o else Some x) ≡ path_at (if t then Some u else Some y)
    by true true z = ap Some f
    by false false z = ap Some same
    by true false z = absurd cc
    by false true z = absurd cc

-- nothing is refused of any part
first-none : {A : Type 0} (a b : Option A) → or_else a b ≡ None → a ≡ None
first-none None b e = refl
first-none (Some x) b e = absurd cc

rest-none : {A : Type 0} (a b : Option A) → or_else a b ≡ None → b ≡ None
rest-none None b e = e
rest-none (Some x) b e = absurd cc

third-none : {A : Type 0} (a b c : Option A) → first_some (a ∷ b ∷ c ∷ []) ≡ None → c ≡ None
third-none None None None e = refl
third-none None None (Some x) e = absurd cc
third-none None (Some x) c e = absurd cc
third-none (Some x) b c e = absurd cc

when-none : {A : Type 0} (b : Bool) (x : A) → when b x ≡ None → b ≡ false
when-none true x e = absurd cc
when-none false x e = refl

not-not : (b : Bool) → not b ≡ false → b ≡ true
not-not true e = refl
not-not false e = absurd cc

or-thread : (t b : Bool) → (not t || b) ≡ false → t ≡ true
or-thread true b e = refl
or-thread false b e = absurd cc

abbrev to-edge : Clock → design.Edge
to-edge c = record { root = c.root; rising = c.rising }

top-path : (path : List Part) → binding.is_top (Some path) ≡ true → nat_eq (length path) 0 ≡ true
top-path [] e = refl
top-path (x ∷ path) e = absurd cc

top-same : (o : Option Object) → binding.is_top (path_at o) ≡ true → cells.is_top o ≡ true
top-same None e = refl
top-same (Some o) e = top-path o.path e

module _ (g : Grown) where
  module-left : (n : ℕ) (o : Object) (v : Node) → is_module (left_node g n o v) ≡ is_module v
  module-left n o (Module c) = refl
  module-left n o (Port k output r) = refl
  module-left n o (Signal k) = refl
  module-left n o (Variable k w) = refl
  module-left n o (Pointer t) = refl

  parent-left : (path : List Part) (n : ℕ) (a b : Option Object) (os : List Object) → path_at a ≡ path_at b → path_at (parent_among path a (objects_left g n os)) ≡ path_at (parent_among path b os)
  parent-left path n a b [] e = e
  parent-left path n a b (o ∷ os) e =
      parent-left path (suc n) (if is_module (left_node g n o o.node) && inside then longer a left else a) (if is_module o.node && inside then longer b o else b) os (by (is_module (left_node g n o o.node)) (is_module o.node) (module-left n o o.node) inside)
    where
      inside : Bool
      inside = is_front o.path path && nat_lt (length o.path) (length path)

      left : Object
      left = record { path = o.path; place = o.place; node = left_node g n o o.node }

      by : (s t : Bool) → s ≡ t → (c : Bool) → path_at (if s && c then longer a left else a) ≡ path_at (if t && c then longer b o else b)
      by true true z true = longer-same a b left o e refl
      by true true z false = e
      by false false z c = e
      by true false z c = absurd cc
      by false true z c = absurd cc

  abbrev d : Design
  d = design_left g

  root-left : (r : ℕ) → rooted.is_root g r ≡ true → IsRootAt d r
  root-left r e = ap (is_root_object d) (objects-left-at g 0 r g.objects) ∙ by (slice_get g.objects r) refl e
    where
      leave : Object → Object
      leave o = record { path = o.path; place = o.place; node = left_node g (0 + r) o o.node }

      node : (o : Object) (v : Node) → slice_get g.objects r ≡ Some o → rooted.is_root_node g r (Some v) ≡ true → is_root_node d o.path (left_node g (0 + r) o v) ≡ true
      node o (Module c) at e = absurd cc
      node o (Signal k) at e = refl
      node o (Variable k w) at e = absurd cc
      node o (Pointer t) at e = absurd cc
      node o (Port k output s) at e = top-same (parent d o.path)
          (ap binding.is_top (parent-left o.path 0 None None g.objects refl ∙ ap (λ u. home g (unwrap_or (option_map (λ (o : Object). o.path) u) [])) (sym at)) ∙ e)

      by : (u : Option Object) → slice_get g.objects r ≡ u → rooted.is_root g r ≡ true → is_root_object d (option_map leave u) ≡ true
      by None at e = absurd (let z : rooted.is_root_node g r (option_map (λ (o : Object). o.node) None) ≡ true = ap (λ u. rooted.is_root_node g r (option_map (λ (o : Object). o.node) u)) (sym at) ∙ e in cc)
      by (Some o) at e = node o o.node at (ap (λ u. rooted.is_root_node g r (option_map (λ (o : Object). o.node) u)) (sym at) ∙ e)

  roots-left : (rs : List ℕ) → AllRoots g rs → AllRootsAt d rs
  roots-left [] h = tt
  roots-left (r ∷ rs) h = (root-left r h.0, roots-left rs h.1)

  -- a port that is left was one
  port-left : (n : ℕ) (o : Object) (k : Kind) (output : Bool) (r : ℕ) → slice_get d.objects n ≡ Some o → o.node ≡ Port k output r → (s : ℕ) × (node_of g n ≡ Some (Port k output s)) × (r ≡ root g n)
  port-left n o k output r at e = by (slice_get g.objects n) refl (sym (objects-left-at g 0 n g.objects) ∙ at)
    where
      leave : Object → Object
      leave u = record { path = u.path; place = u.place; node = left_node g (0 + n) u u.node }

      node : (u : Object) (v : Node) → left_node g (0 + n) u v ≡ Port k output r → (s : ℕ) × (v ≡ Port k output s) × (r ≡ root g n)
      node u (Module c) e = absurd cc
      node u (Signal j) e = absurd cc
      node u (Variable j w) e = absurd cc
      node u (Pointer t) e = absurd cc
      node u (Port j out s) e = (s, λ i. Port (kind-of (e i)) (output-of (e i)) s, sym (ap root-of e) ∙ ap (root g) (let z : 0 + n ≡ n = omega arith in z))
        where
          kind-of : Node → Kind
          kind-of (Port a b c) = a
          kind-of v = j

          output-of : Node → Bool
          output-of (Port a b c) = b
          output-of v = out

          root-of : Node → ℕ
          root-of (Port a b c) = c
          root-of v = 0

      by : (u : Option Object) → slice_get g.objects n ≡ u → option_map leave u ≡ Some o → (s : ℕ) × (node_of g n ≡ Some (Port k output s)) × (r ≡ root g n)
      by None f z = absurd cc
      by (Some u) f z =
          let w : leave u ≡ o = some-is z in
          let x = node u u.node (ap (λ (o : Object). o.node) w ∙ e) in
          (x.0, ap (option_map (λ (o : Object). o.node)) f ∙ ap Some x.1, x.2)

  -- a variable keeps the bits of its kind
  word-left : (n : ℕ) (o : Object) (k : Kind) (w : ℕ) → slice_get d.objects n ≡ Some o → o.node ≡ Variable k w → w < 2 ^ width_of k
  word-left n o k w at e = by (slice_get g.objects n) refl (sym (objects-left-at g 0 n g.objects) ∙ at)
    where
      leave : Object → Object
      leave u = record { path = u.path; place = u.place; node = left_node g (0 + n) u u.node }

      node : (u : Object) (v : Node) → left_node g (0 + n) u v ≡ Variable k w → w < 2 ^ width_of k
      node u (Module c) e = absurd cc
      node u (Port j output s) e = absurd cc
      node u (Signal j) e = absurd cc
      node u (Pointer t) e = absurd cc
      node u (Variable j x) e = subst (λ v. word-of v < 2 ^ width_of (kind-of v)) e (low_less (width_of j) (pos (g.store.words (at_path u.path))))
        where
          kind-of : Node → Kind
          kind-of (Variable a b) = a
          kind-of v = j

          word-of : Node → ℕ
          word-of (Variable a b) = b
          word-of v = 0

      by : (u : Option Object) → slice_get g.objects n ≡ u → option_map leave u ≡ Some o → w < 2 ^ width_of k
      by None f z = absurd cc
      by (Some u) f z = let y : leave u ≡ o = some-is z in node u u.node (ap (λ (o : Object). o.node) y ∙ e)

  -- the kind of what is left at a root
  kind-left : (r : ℕ) (k : Kind) → IsOfKind k (node_of g r) → kind_at d r ≡ Some k
  kind-left r k e = ap (option_and_then (λ (o : Object). kind_of_node d o.node)) (objects-left-at g 0 r g.objects) ∙ by (slice_get g.objects r) e
    where
      leave : Object → Object
      leave o = record { path = o.path; place = o.place; node = left_node g (0 + r) o o.node }

      node : (o : Object) (v : Node) → IsOfKind k (Some v) → kind_of_node d (left_node g (0 + r) o v) ≡ Some k
      node o (Module c) e = absurd e
      node o (Signal j) e = ap Some e
      node o (Port j output s) e = ap Some e
      node o (Variable j w) e = absurd e
      node o (Pointer t) e = absurd e

      by : (u : Option Object) → IsOfKind k (option_map (λ (o : Object). o.node) u) → option_and_then (λ (o : Object). kind_of_node d o.node) (option_map leave u) ≡ Some k
      by None e = absurd e
      by (Some o) e = node o o.node e

  -- nothing is refused of a process
  sensitive-at : (many : Bool) (before : List Clock) (ds : List Declared) (i : ℕ) (x : Declared) → bad_process many g before ds ≡ None → slice_get ds i ≡ Some x → insensitive g x ≡ None
  sensitive-at many before [] i x e at = absurd cc
  sensitive-at many before (y ∷ ds) zero x e at = subst (λ x. insensitive g x ≡ None) (some-is at) (first-none (insensitive g y) _ (first-none _ _ e))
  sensitive-at many before (y ∷ ds) (suc i) x e at = sensitive-at many (clocks_if (clock_of g y) before) ds i x (rest-none _ _ e) at

  edge-there : (x : Declared) (test : Item → Bool) (is : List Item) → first_of (λ i. when (not (is_some i.signal)) (refused reason.Sensitivity i.place)) is ≡ None → nat_eq (length (filter test is)) 1 ≡ true
      → is_some (option_map to-edge (clock_by g x (filter test is))) ≡ true
  edge-there x test [] e h = absurd cc
  edge-there x test (i ∷ is) e h = by (test i) h (edge-there x test is (rest-none _ _ e))
    where
      named : (o : Option ℕ) → when (not (is_some o)) (refused reason.Sensitivity i.place) ≡ None → is_some (option_map to-edge (option_map (λ n. record { root = root g n; rising = unwrap_or i.rising true; place = x.place }) o)) ≡ true
      named None f = absurd cc
      named (Some n) f = refl

      by : (b : Bool) → nat_eq (length (cond b (i ∷ filter test is) (filter test is))) 1 ≡ true → (nat_eq (length (filter test is)) 1 ≡ true → is_some (option_map to-edge (clock_by g x (filter test is))) ≡ true)
          → is_some (option_map to-edge (clock_by g x (cond b (i ∷ filter test is) (filter test is)))) ≡ true
      by true h ih = named i.signal (first-none _ _ e)
      by false h ih = ih h

  -- a thread has a clock, and a method no reset
  thread-edge : (x : Declared) → insensitive g x ≡ None → x.is_thread ≡ true → is_some (process_left g x).edge ≡ true
  thread-edge x e t =
      let a = when-none (not (is_sensitive x)) _ (first-none _ _ e) in
      let b = first-none _ _ (rest-none _ _ e) in
      let s : (nat_eq (length (edges x)) 1 && nat_eq (length (levels x)) 0) ≡ true = sym (ap (λ b. if b then nat_eq (length (edges x)) 1 && nat_eq (length (levels x)) 0
      else not (nat_eq (length x.items) 0) && (nat_eq (length (edges x)) 0 || nat_eq (length x.items) 1)) t) ∙ not-not (is_sensitive x) a in
      edge-there x (λ i. is_some i.rising) x.items b (and-first (nat_eq (length (edges x)) 1) (nat_eq (length (levels x)) 0) s)

  thread-reset : (x : Declared) (r : design.Reset) → insensitive g x ≡ None → (process_left g x).reset ≡ Some r → x.is_thread ≡ true
  thread-reset x r e f = by x.resets (first-none _ _ (rest-none _ _ (rest-none _ _ e))) f
    where
      by : (rs : List ResetItem) → first_numbered (bad_reset g x) 0 rs ≡ None → option_and_then (reset_left g) (first_reset rs) ≡ Some r → x.is_thread ≡ true
      by [] a f = absurd cc
      by (y ∷ rs) a f = or-thread x.is_thread _ (when-none _ _ (first-none _ _ a))

module _ (many : Bool) (p : Plain) (d : Design) (is : elaborated many p ≡ Some (Made d)) (whole : is_whole_plain p ≡ true) where
  left : IsLeft many p d
  left = left-is many p d is

  abbrev g : Grown
  g = left.grown

  accepted : unbound g ≡ None
  accepted = second-none (misplaced p) (unbound g) (bad_process many g [] g.declared ∷ []) left.accepted

  processes-accepted : bad_process many g [] g.declared ≡ None
  processes-accepted = third-none (misplaced p) (unbound g) (bad_process many g [] g.declared) left.accepted

  there : IsLaidOut (design_left g)
  there = record {
    apart = subst (λ d. StandApart d) left.same (stand-apart many p d left whole);
    ports = λ n o k output r at e. let x = port-left g n o k output r at e in (
      subst (IsRootAt (design_left g)) (sym x.2) (root-left g (root g n) (port-root g (housed many p d left whole) accepted n k output x.0 x.1)),
      subst (λ r. kind_at (design_left g) r ≡ Some k) (sym x.2) (kind-left g (root g n) k (port-kind g left.grows n k output x.0 x.1)),
    );
    words = word-left g;
    senses = λ i q at. roots-left g q.senses (meets i q at).senses;
    edges = λ i q e at is. root-left g e.root ((meets i q at).edge e is);
    resets = λ i q r at is. let x = declared-at g i q at in
        (root-left g r.root ((meets i q at).reset r is), sym (ap (λ (q : Process). q.is_thread) x.2) ∙ thread-reset g x.0 r (sensitive i x.0 x.1) (ap (λ (q : Process). q.reset) x.2 ∙ is));
    threads = λ i q at t. let x = declared-at g i q at in
        ap (λ (q : Process). is_some q.edge) (sym x.2) ∙ thread-edge g x.0 (sensitive i x.0 x.1) (ap (λ (q : Process). q.is_thread) x.2 ∙ t);
  }
    where
      meets : (i : ℕ) (q : Process) → slice_get (design_left g).processes i ≡ Some q → MeetsRoots g q
      meets i q at = process-meets g (housed many p d left whole) accepted (meetings left.grows) i q at

      sensitive : (i : ℕ) (x : Declared) → slice_get g.declared i ≡ Some x → insensitive g x ≡ None
      sensitive i x at = sensitive-at g many [] g.declared i x processes-accepted at

  pub laid-out : IsLaidOut d
  laid-out = subst IsLaidOut (sym left.same) there
