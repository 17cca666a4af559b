-- Each port of a design stands in a module, and no two objects stand at one path.
use Rattle.std.proofs.Common.{◌≡◌, ℕ, ◌+◌, Bool, true, false, List, [], Option, Some, None, option_map, slice_get, unwrap_or, ap, refl, sym, ◌∙◌, subst}
use Rattle.scc_bits_kinds.specs.declared.kind.Kind.{Kind}
use Rattle.scc_semantics.specs.Location.{Part}
use Rattle.scc_elab_spec.specs.Program.{Plain}
use Rattle.scc_elab_spec.specs.Design.{Design, Object, Node, Module, Port, Signal, Variable, Pointer, is_module}
use Rattle.scc_elab_spec.specs.Grown.{Grown, is_pointer, node_of}
use Rattle.scc_elab_spec.specs.Binding.{home, path_of}
use Rattle.scc_elab_spec.specs.Elaborated.{left_node, design_left}
use Rattle.scc_elab_growth_laws.specs.Leaves.{IsLeft}
use Rattle.scc_elab_growth_laws.specs.Apart.{Or, First, Second, is_whole_plain, Near, IsMember, IsSpread, StandApart}
use Rattle.scc_elab_growth_laws.proofs.Paths.{some_same, near-refl}
use Rattle.scc_elab_growth_laws.proofs.Homes.{home-of}
use Rattle.scc_elab_laws.proofs.Leading.{objects-left-at}
use Rattle.scc_elab_laws.proofs.Rooting.{IsHoused}

no_pointer : (v : Node) → is_module v ≡ true → is_pointer v ≡ false
no_pointer (Module c) e = refl
no_pointer (Port k output r) e = refl
no_pointer (Signal k) e = refl
no_pointer (Variable k w) e = refl
no_pointer (Pointer t) e = cc

module _ (many : Bool) (p : Plain) (d : Design) (left : IsLeft many p d) (whole : is_whole_plain p ≡ true) where
  abbrev g : Grown
  g = left.grown

  spread : IsSpread g
  spread = (left.apart whole).spread

  -- nothing but the top has the top's path
  not_top : (n : ℕ) (o : Object) → slice_get g.objects n ≡ Some o → is_module o.node ≡ false → is_pointer o.node ≡ false → o.path ≡ [] → true ≡ false
  not_top n o there no_module solid path =
      let same : 0 ≡ n = spread.solids 0 n left.top o left.top_there there (no_pointer left.top.node left.top_is) solid (subst (Near left.top.path) (left.top_path ∙ sym path) (near-refl left.top.path)) in
      let is_top : left.top ≡ o = some_same (sym left.top_there ∙ ap (slice_get g.objects) same ∙ there) in
      sym left.top_is ∙ ap (λ (z : Object). is_module z.node) is_top ∙ no_module

  around-port : (n : ℕ) (k : Kind) (output : Bool) (r : ℕ) → node_of g n ≡ Some (Port k output r) → (h : List Part) × (home g (path_of g n) ≡ Some h)
  around-port n k output r e = by (slice_get g.objects n) refl e
    where
      member : (o : Object) → slice_get g.objects n ≡ Some o → o.node ≡ Port k output r → Or ((o.path ≡ []) × (is_pointer o.node ≡ false)) (IsMember g o.path) → (h : List Part) × (home g o.path ≡ Some h)
      member o f e (First x) = let z : true ≡ false = not_top n o f (ap is_module e) x.1 x.0 in absurd cc
      member o f e (Second m) = (m.member.around, home-of g spread n o f (ap is_pointer e) m)

      by : (o : Option Object) → slice_get g.objects n ≡ o → option_map (λ (o : Object). o.node) o ≡ Some (Port k output r) → (h : List Part) × (home g (path_of g n) ≡ Some h)
      by None f e = cc
      by (Some o) f e = let z = member o f (some_same e) (spread.members n o f) in (z.0, ap (λ q. home g (unwrap_or (option_map (λ (o : Object). o.path) q) [])) f ∙ z.1)

  pub housed : IsHoused g
  housed = record { around = around-port; bindings = (left.apart whole).bindings }

  pointer-left : (n : ℕ) (o : Object) (v : Node) → is_pointer (left_node g n o v) ≡ is_pointer v
  pointer-left n o (Module c) = refl
  pointer-left n o (Port k output r) = refl
  pointer-left n o (Signal k) = refl
  pointer-left n o (Variable k w) = refl
  pointer-left n o (Pointer t) = refl

  abbrev Origin : ℕ → Object → Type 0
  Origin i o = (x : Object) × (slice_get g.objects i ≡ Some x) × (x.path ≡ o.path) × (is_pointer x.node ≡ is_pointer o.node)

  -- the object that an object of the design was
  origin : (i : ℕ) (o : Object) → slice_get (design_left g).objects i ≡ Some o → Origin i o
  origin i o e = by (slice_get g.objects i) refl (sym (objects-left-at g 0 i g.objects) ∙ e)
    where
      by : (x : Option Object) → slice_get g.objects i ≡ x → option_map (λ (o : Object). record { path = o.path; place = o.place; node = left_node g (0 + i) o o.node }) x ≡ Some o → Origin i o
      by None f e = cc
      by (Some x) f e = let same : record { path = x.path; place = x.place; node = left_node g (0 + i) x x.node } ≡ o = some_same e in
          (x, f, ap (λ (z : Object). z.path) same, sym (pointer-left (0 + i) x x.node) ∙ ap (λ (z : Object). is_pointer z.node) same)

  stand : StandApart (design_left g)
  stand i j o q a b c e = let x = origin i o a in let y = origin j q b in by (is_pointer x.0.node) x y refl
    where
      near : (x : Origin i o) (y : Origin j q) → Near x.0.path y.0.path
      near x y = subst (Near x.0.path) (x.2 ∙ e ∙ sym y.2) (near-refl x.0.path)

      by : (t : Bool) → (x : Origin i o) (y : Origin j q) → is_pointer x.0.node ≡ t → i ≡ j
      by true x y f = spread.pointers i j x.0 y.0 x.1 y.1 f (y.3 ∙ sym c ∙ sym x.3 ∙ f) (near x y)
      by false x y f = spread.solids i j x.0 y.0 x.1 y.1 f (y.3 ∙ sym c ∙ sym x.3 ∙ f) (near x y)

  pub stand-apart : StandApart d
  stand-apart = subst StandApart (sym left.same) stand
