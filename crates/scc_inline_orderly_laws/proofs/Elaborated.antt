-- What construction gives of an orderly program.
use Rattle.std.proofs.Common.{◌≡◌, ℕ, zero, suc, ◌+◌, Bool, true, false, ◌&&◌, nat_eq, List, [], ◌∷◌, ◌++◌, map, find, Option, Some, None, is_some, option_map, option_and_then, unwrap_or, slice_get, if◌then◌else◌, refl, sym, ap, ◌∙◌, subst, arith}
use Rattle.std.specs.List.{list_all}
use Rattle.scc_semantics.specs.Location.{Location, Member, Part, same_path}
use Rattle.scc_core_spec.specs.Resolved.{Made}
use Rattle.scc_elab_spec.specs.Program.{Function, Plain}
use Rattle.scc_elab_spec.specs.Design as design
use Rattle.scc_elab_spec.specs.Design.{Design, Object, Node, Module, Port, Signal, Variable, Pointer, Edge, Reset, Target, is_module}
use Rattle.scc_elab_spec.specs.Grown.{Grown, node_of, object_at, path_if_top}
use Rattle.scc_elab_spec.specs.Grown as grown
use Rattle.scc_elab_spec.specs.Cells.{path_of}
use Rattle.scc_elab_spec.specs.Meant.{is_pointer}
use Rattle.scc_elab_spec.specs.Elaborated.{elaborated, design_left, kept_part, led_to, left_node, is_reached, target_if, targets_left}
use Rattle.scc_elab_spec.specs.After.{misplaced, unbound, bad_process}
use Rattle.scc_elab_spec.proofs.Regular.{same_path-is}
use Rattle.scc_elab_growth_laws.specs.Apart.{is_whole_plain}
use Rattle.scc_elab_growth_laws.specs.Leaves.{IsLeft}
use Rattle.scc_elab_growth_laws.proofs.Leaving.{left-is}
use Rattle.scc_elab_laws.specs.Rooted.{is_root, is_root_node, AllRoots, MeetsRoots}
use Rattle.scc_elab_laws.proofs.Housing.{housed, stand-apart}
use Rattle.scc_elab_laws.proofs.Rooting.{second-none}
use Rattle.scc_elab_laws.proofs.Meeting.{process-meets, meetings}
use Rattle.scc_elab_laws.proofs.Leading.{objects-left-at}
use Rattle.scc_elab_laws.proofs.Runs.{process-once, process-runs}
use Rattle.scc_inline_spec.specs.Inlined.{process_path}
use Rattle.scc_inline_counter_laws.specs.Even.{are_even}
use Rattle.scc_inline_laws.specs.OrderlyDesign.{IsThing, AreThings, IsEdge, IsReset, IsOrderly}
use Rattle.scc_inline_orderly_laws.specs.Program.{IsOrderlyProgram, is_orderly_program, same_name, same_run}
use Rattle.scc_inline_orderly_laws.specs.Reached.{reached}
use Rattle.scc_inline_orderly_laws.specs.Whole.{differ, are_orderly}
use Rattle.scc_inline_orderly_laws.proofs.Bools.{and-first, and-second, all-at, differ-at}
use Rattle.scc_inline_orderly_laws.proofs.Whole.{even-at, functions-are}

some-same : {A : Type 0} {x y : A} → Some x ≡ Some y → x ≡ y
some-same e = cc

-- what passes the test
pub program-orderly : (p : Plain) (d : Design) → is_orderly_program p d ≡ true → IsOrderlyProgram p d
program-orderly p d x =
    let A = list_all (λ q. are_orderly p d q.function (reached p q.function)) d.processes in let B = differ (same_run p) d.processes in let E = are_even p d 0 d.processes in
    let y = and-second A (B && E) x in
    record {
      functions = λ i q e. functions-are p d q.function (reached p q.function) (all-at (λ q. are_orderly p d q.function (reached p q.function)) d.processes i q (and-first A (B && E) x) e);
      names = λ i j q r f g e h o u v n.
          let clash : same_run p q r ≡ true = (λ z. nat_eq (o z) r.object && same_name (u z) (v z)) ∙ ((λ z. nat_eq r.object r.object && nat_eq (n z) g.name) ∙ both r.object g.name) in
          let same : i ≡ j = differ-at (same_run p) d.processes i j q r (and-first B E y) e h clash in
          let z : q ≡ r = some-same (sym e ∙ (ap (slice_get d.processes) same ∙ h)) in ap (λ (q : design.Process). q.function) z;
      arrays = even-at p d d.processes (and-second B E y);
    }
  where
    self : (n : ℕ) → nat_eq n n ≡ true
    self n = grind arith

    both : (m n : ℕ) → (nat_eq m m && nat_eq n n) ≡ true
    both m n = λ z. self m z && self n z

module _ (p : Plain) (g : Grown) where
  abbrev D : Design
  D = design_left g

  root-thing : (n m : ℕ) (o : Object) (v : Node) → is_root_node g n (Some v) ≡ true → is_module (left_node g m o v) ≡ false
  root-thing n m o (Module c) x = cc
  root-thing n m o (Port k output r) x = refl
  root-thing n m o (Signal k) x = refl
  root-thing n m o (Variable k w) x = cc
  root-thing n m o (Pointer t) x = cc

  thing-of : (n : ℕ) → is_root g n ≡ true → IsThing p D n
  thing-of n x = by (slice_get g.objects n) refl x
    where
      by : (o : Option Object) → slice_get g.objects n ≡ o → is_root_node g n (option_map (λ o. o.node) o) ≡ true → IsThing p D n
      by None e x = cc
      by (Some o) e x = (
        record { path = o.path; place = o.place; node = left_node g (0 + n) o o.node },
        objects-left-at g 0 n g.objects ∙ ap (option_map (λ (o : Object). record { path = o.path; place = o.place; node = left_node g (0 + n) o o.node })) e,
        root-thing n (0 + n) o o.node x,
      )

  things-of : (ns : List ℕ) → AllRoots g ns → AreThings p D ns
  things-of [] x = tt
  things-of (n ∷ ns) x = (thing-of n x.0, things-of ns x.1)

  edge-of : (e : Option Edge) → ((x : Edge) → e ≡ Some x → is_root g x.root ≡ true) → IsEdge p D e
  edge-of None f = tt
  edge-of (Some x) f = thing-of x.root (f x refl)

  reset-of : (r : Option Reset) → ((x : Reset) → r ≡ Some x → is_root g x.root ≡ true) → IsReset p D r
  reset-of None f = tt
  reset-of (Some x) f = thing-of x.root (f x refl)

  find-behind : (t : Target → Bool) (xs ys : List Target) → is_some (find t ys) ≡ true → is_some (find t (xs ++ ys)) ≡ true
  find-behind t [] ys e = e
  find-behind t (x ∷ xs) ys e = by (t x) (find-behind t xs ys e)
    where
      by : (b : Bool) → is_some (find t (xs ++ ys)) ≡ true → is_some (if b then Some x else find t (xs ++ ys)) ≡ true
      by true e = refl
      by false e = e

  -- where a pointer isn't null its path is among the targets
  aimed-at : (k n : ℕ) (os : List Object) (o : Object) (t : Option ℕ) (path : List Part) → slice_get os n ≡ Some o → o.node ≡ Pointer t → option_and_then path_if_top (led_to g o.path) ≡ Some path
      → is_some (find (λ t. nat_eq t.object (k + n)) (targets_left g k os)) ≡ true
  aimed-at k n [] o t path e u a = cc
  aimed-at k zero (y ∷ os) o t path e u a =
      let same : y ≡ o = some-same e in
      let is : target_if g k y y.node ≡ record { object = k; path = map kept_part path } ∷ [] = (λ z. target_if g k (same z) ((ap (λ (o : Object). o.node) same ∙ u) z)) ∙ ap (λ q. unwrap_or (option_map (λ path. record { object = k; path = map kept_part path } ∷ []) q) []) a in
      let here : nat_eq k (k + 0) ≡ true = grind arith in
      ap (λ ts. is_some (find (λ t. nat_eq t.object (k + 0)) (ts ++ targets_left g (suc k) os))) is ∙ ap (λ b. is_some (if b then Some (record { object = k; path = map kept_part path }) else find (λ t. nat_eq t.object (k + 0)) (targets_left g (suc k) os))) here
  aimed-at k (suc n) (y ∷ os) o t path e u a =
      let w : suc k + n ≡ k + suc n = omega arith in
      find-behind (λ t. nat_eq t.object (k + suc n)) (target_if g k y y.node) (targets_left g (suc k) os) (subst (λ m. is_some (find (λ t. nat_eq t.object m) (targets_left g (suc k) os)) ≡ true) w (aimed-at (suc k) n os o t path e u a))

  target-of : (n r : ℕ) (o : Object) → slice_get D.objects n ≡ Some o → o.node ≡ Pointer (Some r) → is_some (find (λ t. nat_eq t.object n) D.targets) ≡ true
  target-of n r o e u = by (slice_get g.objects n) refl (sym (objects-left-at g 0 n g.objects) ∙ e)
    where
      leads : (l : Option Location) → option_and_then (λ l. option_and_then (object_at is_reached g) (path_if_top l)) l ≡ Some r → (path : List Part) × (option_and_then path_if_top l ≡ Some path)
      leads None x = cc
      leads (Some l) x = inner (path_if_top l) x
        where
          inner : (q : Option (List Part)) → option_and_then (object_at is_reached g) q ≡ Some r → (path : List Part) × (q ≡ Some path)
          inner None x = cc
          inner (Some path) x = (path, refl)

      pointer : (x : Object) (v : Node) → left_node g (0 + n) x v ≡ Pointer (Some r) → (t : Option ℕ) × (path : List Part) × (v ≡ Pointer t) × (option_and_then path_if_top (led_to g x.path) ≡ Some path)
      pointer x (Module c) z = cc
      pointer x (Port k output q) z = cc
      pointer x (Signal k) z = cc
      pointer x (Variable k w) z = cc
      pointer x (Pointer t) z =
          let y : option_and_then (λ l. option_and_then (object_at is_reached g) (path_if_top l)) (led_to g x.path) ≡ Some r = cc in
          let l = leads (led_to g x.path) y in (t, l.0, refl, l.1)

      by : (x : Option Object) → slice_get g.objects n ≡ x → option_map (λ (o : Object). record { path = o.path; place = o.place; node = left_node g (0 + n) o o.node }) x ≡ Some o → is_some (find (λ t. nat_eq t.object n) D.targets) ≡ true
      by None f z = cc
      by (Some x) f z =
          let same : record { path = x.path; place = x.place; node = left_node g (0 + n) x x.node } ≡ o = some-same z in
          let y = pointer x x.node (ap (λ (o : Object). o.node) same ∙ u) in
          let w : 0 + n ≡ n = omega arith in
          subst (λ m. is_some (find (λ t. nat_eq t.object m) D.targets) ≡ true) w (aimed-at 0 n g.objects x y.0 y.1 f y.2 y.3)

module _ (many : Bool) (p : Plain) (d : Design) (made : elaborated many p ≡ Some (Made d)) (whole : is_whole_plain p ≡ true) where
  left : IsLeft many p d
  left = left-is many p d made

  meets : (i : ℕ) (q : design.Process) → slice_get d.processes i ≡ Some q → MeetsRoots left.grown q
  meets i q e = process-meets left.grown (housed many p d left whole) (second-none (misplaced p) (unbound left.grown) (bad_process many left.grown [] left.grown.declared ∷ []) left.accepted) (meetings left.grows) i q
      (subst (λ (z : Design). slice_get z.processes i ≡ Some q) left.same e)

  pointers-same : (v : Node) → is_pointer p d v ≡ grown.is_pointer v
  pointers-same (Module c) = refl
  pointers-same (Port k output r) = refl
  pointers-same (Signal k) = refl
  pointers-same (Variable k w) = refl
  pointers-same (Pointer t) = refl

  snoc-same : (a b : List Part) (x y : Part) → a ++ x ∷ [] ≡ b ++ y ∷ [] → (a ≡ b) × (x ≡ y)
  snoc-same [] [] x y e = (refl, cc)
  snoc-same [] (z ∷ b) x y e = absurd (longer b y (let t : b ++ y ∷ [] ≡ [] = cc in t))
    where
      longer : (b : List Part) (y : Part) → b ++ y ∷ [] ≡ [] → ⊥
      longer [] y e = cc
      longer (z ∷ b) y e = cc
  snoc-same (z ∷ a) [] x y e = absurd (longer a x (let t : a ++ x ∷ [] ≡ [] = cc in t))
    where
      longer : (b : List Part) (y : Part) → b ++ y ∷ [] ≡ [] → ⊥
      longer [] y e = cc
      longer (z ∷ b) y e = cc
  snoc-same (z ∷ a) (w ∷ b) x y e = let r = snoc-same a b x y (cc) in let h : z ≡ w = cc in ((λ i. h i ∷ r.0 i), r.1)

  member-same : (m n : ℕ) → Member m ≡ Member n → m ≡ n
  member-same m n e = cc

  no-pointer : (v : Node) → is_module v ≡ true → grown.is_pointer v ≡ false
  no-pointer (Module c) e = refl
  no-pointer (Port k output r) e = refl
  no-pointer (Signal k) e = refl
  no-pointer (Variable k w) e = refl
  no-pointer (Pointer t) e = cc

  -- processes of one name run one function on one object
  names-differ : IsOrderlyProgram p d → (i j : ℕ) (q r : design.Process) → slice_get d.processes i ≡ Some q → slice_get d.processes j ≡ Some r → same_path (process_path p d q) (process_path p d r) ≡ true → i ≡ j
  names-differ x i j q r e f z =
      let u = process-runs many p d left i q e in
      let v = process-runs many p d left j r f in
      let s = snoc-same (path_of d q.object) (path_of d r.object) (Member (unwrap_or (option_map (λ f. f.name) (slice_get p.functions q.function)) 0)) (Member (unwrap_or (option_map (λ f. f.name) (slice_get p.functions r.function)) 0)) (same_path-is (process_path p d q) (process_path p d r) z) in
      let paths : u.object.path ≡ v.object.path = sym (ap (λ o. unwrap_or (option_map (λ (o : Object). o.path) o) []) u.there) ∙ (s.0 ∙ ap (λ o. unwrap_or (option_map (λ (o : Object). o.path) o) []) v.there) in
      let objects : q.object ≡ r.object = stand-apart many p d left whole q.object r.object u.object v.object u.there v.there (no-pointer u.object.node u.is_one ∙ sym (no-pointer v.object.node v.is_one)) paths in
      let named : u.function.name ≡ v.function.name = sym (ap (λ o. unwrap_or (option_map (λ (f : Function). f.name) o) 0) u.found) ∙ (member-same _ _ s.1 ∙ ap (λ o. unwrap_or (option_map (λ (f : Function). f.name) o) 0) v.found) in
      process-once many p d left i j q r e f objects (x.names i j q r u.function v.function e f objects u.found v.found named)

  -- a program that construction made is orderly as a whole
  pub made-orderly : IsOrderlyProgram p d → IsOrderly p d
  made-orderly x = record {
    processes = λ i q e.
        let r = process-runs many p d left i q e in
        let m = meets i q e in
        record {
          function = r.function;
          stands = r.found;
          silent = r.result;
          functions = x.functions i q e;
          senses = subst (λ z. AreThings p z q.senses) (sym left.same) (things-of p left.grown q.senses m.senses);
          edge = subst (λ z. IsEdge p z q.edge) (sym left.same) (edge-of p left.grown q.edge m.edge);
          reset = subst (λ z. IsReset p z q.reset) (sym left.same) (reset-of p left.grown q.reset m.reset);
        };
    names = names-differ x;
    pointers = λ i j o u e f z w v. stand-apart many p d left whole i j o u e f (sym (pointers-same o.node) ∙ z ∙ sym w ∙ pointers-same u.node) (same_path-is o.path u.path v);
    arrays = x.arrays;
    targets = subst (λ (z : Design). (n r : ℕ) (o : Object) → slice_get z.objects n ≡ Some o → o.node ≡ Pointer (Some r) → is_some (find (λ t. nat_eq t.object n) z.targets) ≡ true) (sym left.same) (target-of p left.grown);
  }
