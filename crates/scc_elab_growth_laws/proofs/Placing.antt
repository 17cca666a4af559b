-- Where objects may be added: near nothing that is there.
use Rattle.std.proofs.Common.{◌≡◌, ℕ, true, false, List, [], length, Some, slice_get, ap, sym, ◌∙◌, subst}
use Rattle.scc_base.specs.declared.refusal.Place.{Place}
use Rattle.scc_semantics.specs.Location.{Part}
use Rattle.scc_elab_spec.specs.Program.{Plain}
use Rattle.scc_elab_spec.specs.Design.{Object, Node}
use Rattle.scc_elab_spec.specs.Grown.{Grown, is_pointer}
use Rattle.scc_elab_growth_laws.specs.Changes.{with_object, Grows}
use Rattle.scc_elab_growth_laws.specs.Apart.{Or, First, Second, Behind, Near, IsMember, IsSpread}
use Rattle.scc_elab_growth_laws.proofs.Paths.{snoc-at, near-sym, near-stem, near-behind, behind-refl, behind-trans}
use Rattle.scc_elab_growth_laws.proofs.Keeping.{IsMadeFor, Adds, Closed, unmade-before}
use Rattle.scc_elab_growth_laws.proofs.Homes.{member-stays}

-- no object but a pointer stands near, and none for which nothing was made
pub record IsPlace (g : Grown) (y : List Part) : Type 0 where
  pub member : IsMember g y
  pub solids : (i : ℕ) (o : Object) → slice_get g.objects i ≡ Some o → is_pointer o.node ≡ false → Near y o.path → true ≡ false
  pub pointers : (i : ℕ) (o : Object) → slice_get g.objects i ≡ Some o → is_pointer o.node ≡ true → g.made o.path ≡ false → Near y o.path → true ≡ false

-- nothing at all stands near
pub record IsEmpty (g : Grown) (y : List Part) : Type 0 where
  pub member : IsMember g y
  pub nothing : (i : ℕ) (o : Object) → slice_get g.objects i ≡ Some o → Near y o.path → true ≡ false

-- objects behind a path, and those that are no pointers
abbrev pub Within : List Part → Object → Type 0
Within y o = Behind y o.path

abbrev pub Solid : List Part → Object → Type 0
Solid y o = (is_pointer o.node ≡ false) × Behind y o.path

pub within-closed : (y : List Part) → Closed (Within y)
within-closed y q o a b c d = behind-trans y q.path o.path a d

pub solid-closed : (y : List Part) → Closed (Solid y)
solid-closed y q o a b c d = (c, behind-trans y q.path o.path a.1 d)

pub within-inside : (x y : List Part) → Behind x y → (o : Object) → Within y o → Within x o
within-inside x y a o b = behind-trans x y o.path a b

pub solid-inside : (x y : List Part) → Behind x y → (o : Object) → Solid y o → Solid x o
solid-inside x y a o b = (b.0, behind-trans x y o.path a b.1)

member-behind : (g : Grown) (x y : List Part) → Behind x y → IsMember g x → IsMember g y
member-behind g x y b m = record { member = m.member; leads = sym b.0 ∙ m.leads; around = m.around }

pub place-behind : (g : Grown) (x y : List Part) → Behind x y → IsPlace g x → IsPlace g y
place-behind g x y b m = record {
  member = member-behind g x y b m.member;
  solids = λ i o a c n. m.solids i o a c (near-behind x y o.path b n);
  pointers = λ i o a c d n. m.pointers i o a c d (near-behind x y o.path b n);
}

pub empty-behind : (g : Grown) (x y : List Part) → Behind x y → IsEmpty g x → IsEmpty g y
empty-behind g x y b m = record { member = member-behind g x y b m.member; nothing = λ i o a n. m.nothing i o a (near-behind x y o.path b n) }

pub empty-place : (g : Grown) (y : List Part) → IsEmpty g y → IsPlace g y
empty-place g y m = record { member = m.member; solids = λ i o a b n. m.nothing i o a n; pointers = λ i o a b c n. m.nothing i o a n }

module _ {p : Plain} (A : Object → Type 0) (g h : Grown) (grows : Grows p g h) (adds : Adds A g h) (y : List Part) (apart : (o : Object) → A o → Near y o.path → true ≡ false) where
  made-near : (o : Object) → Near y o.path → (m : IsMadeFor g o) → Near y m.pointer.path
  made-near o n m = near-sym m.pointer.path y (near-behind m.pointer.path o.path y m.behind (near-sym y o.path n))

  -- a place stays one
  pub place-kept : IsPlace g y → IsPlace h y
  place-kept place = record {
    member = member-stays grows place.member;
    solids = λ i o a b n. by_solid i o b n (adds i o place.member.member a (sym (near-stem y o.path n) ∙ place.member.leads) place.member.around);
    pointers = λ i o a b c n. by_pointer i o b c n (adds i o place.member.member a (sym (near-stem y o.path n) ∙ place.member.leads) place.member.around);
  }
    where
      new_solid : (o : Object) → Near y o.path → Or (A o) (IsMadeFor g o) → true ≡ false
      new_solid o n (First a) = apart o a n
      new_solid o n (Second m) = place.pointers m.number m.pointer m.there m.is_one m.unmade (made-near o n m)

      by_solid : (i : ℕ) (o : Object) → is_pointer o.node ≡ false → Near y o.path → Or (slice_get g.objects i ≡ Some o) (Or (A o) (IsMadeFor g o)) → true ≡ false
      by_solid i o b n (First a) = place.solids i o a b n
      by_solid i o b n (Second a) = new_solid o n a

      by_pointer : (i : ℕ) (o : Object) → is_pointer o.node ≡ true → h.made o.path ≡ false → Near y o.path → Or (slice_get g.objects i ≡ Some o) (Or (A o) (IsMadeFor g o)) → true ≡ false
      by_pointer i o b c n (First a) = place.pointers i o a b (unmade-before grows o.path c) n
      by_pointer i o b c n (Second a) = new_solid o n a

  pub empty-kept : IsEmpty g y → IsEmpty h y
  empty-kept place = record { member = member-stays grows place.member; nothing = λ i o a n. by i o n (adds i o place.member.member a (sym (near-stem y o.path n) ∙ place.member.leads) place.member.around) }
    where
      new : (o : Object) → Near y o.path → Or (A o) (IsMadeFor g o) → true ≡ false
      new o n (First a) = apart o a n
      new o n (Second m) = place.nothing m.number m.pointer m.there (made-near o n m)

      by : (i : ℕ) (o : Object) → Near y o.path → Or (slice_get g.objects i ≡ Some o) (Or (A o) (IsMadeFor g o)) → true ≡ false
      by i o n (First a) = place.nothing i o a n
      by i o n (Second a) = new o n a

-- One more object.
module _ {p : Plain} (g : Grown) (y : List Part) (q : Place) (node : Node) (apart : IsSpread g) (grows : Grows p g (with_object g y q node)) where
  abbrev h : Grown
  h = with_object g y q node

  abbrev new : Object
  new = record { path = y; place = q; node = node }

  abbrev Entry : ℕ → Object → Type 0
  Entry i o = Or (slice_get g.objects i ≡ Some o) ((i ≡ length g.objects) × (new ≡ o))

  entry : (i : ℕ) (o : Object) → slice_get h.objects i ≡ Some o → Entry i o
  entry i o a = snoc-at g.objects new i o a

  same-node : {o : Object} → new ≡ o → node ≡ o.node
  same-node e = ap (λ (z : Object). z.node) e

  same-path : {o : Object} → new ≡ o → y ≡ o.path
  same-path e = ap (λ (z : Object). z.path) e

  members-more : IsMember g y → (i : ℕ) (o : Object) → Entry i o → Or ((o.path ≡ []) × (is_pointer o.node ≡ false)) (IsMember h o.path)
  members-more m i o (Second e) = Second (subst (IsMember h) (same-path e.1) (member-stays grows m))
  members-more m i o (First e) = by (apart.members i o e)
    where
      by : Or ((o.path ≡ []) × (is_pointer o.node ≡ false)) (IsMember g o.path) → Or ((o.path ≡ []) × (is_pointer o.node ≡ false)) (IsMember h o.path)
      by (First a) = First a
      by (Second a) = Second (member-stays grows a)

  pub solid-added : IsPlace g y → is_pointer node ≡ false → IsSpread h × Adds (Solid y) g h
  solid-added place solid = (
    record {
      solids = λ i j o z a b c d n. two i j o z c d n (entry i o a) (entry j z b);
      pointers = λ i j o z a b c d n. pointers i j o z c d n (entry i o a) (entry j z b);
      unmade = λ i j o z a b c d m n. unmade i j o z c d m n (entry i o a) (entry j z b);
      members = λ i o a. members-more place.member i o (entry i o a);
    },
    λ i o s a d m. adds i o (entry i o a),
  )
    where
      no_pointer : (o : Object) → new ≡ o → is_pointer o.node ≡ true → true ≡ false
      no_pointer o e c = sym c ∙ (ap is_pointer (sym (same-node e)) ∙ solid)

      near_new : (o z : Object) → new ≡ z → Near o.path z.path → Near y o.path
      near_new o z e n = near-sym o.path y (subst (Near o.path) (sym (same-path e)) n)

      two : (i j : ℕ) (o z : Object) → is_pointer o.node ≡ false → is_pointer z.node ≡ false → Near o.path z.path → Entry i o → Entry j z → i ≡ j
      two i j o z c d n (First a) (First b) = apart.solids i j o z a b c d n
      two i j o z c d n (First a) (Second b) = let e : true ≡ false = place.solids i o a c (near_new o z b.1 n) in absurd cc
      two i j o z c d n (Second a) (First b) = let e : true ≡ false = place.solids j z b d (near_new z o a.1 (near-sym o.path z.path n)) in absurd cc
      two i j o z c d n (Second a) (Second b) = a.0 ∙ sym b.0

      pointers : (i j : ℕ) (o z : Object) → is_pointer o.node ≡ true → is_pointer z.node ≡ true → Near o.path z.path → Entry i o → Entry j z → i ≡ j
      pointers i j o z c d n (First a) (First b) = apart.pointers i j o z a b c d n
      pointers i j o z c d n (Second a) b = let e : true ≡ false = no_pointer o a.1 c in absurd cc
      pointers i j o z c d n (First a) (Second b) = let e : true ≡ false = no_pointer z b.1 d in absurd cc

      unmade : (i j : ℕ) (o z : Object) → is_pointer o.node ≡ true → is_pointer z.node ≡ false → g.made o.path ≡ false → Near o.path z.path → Entry i o → Entry j z → true ≡ false
      unmade i j o z c d m n (First a) (First b) = apart.unmade i j o z a b c d m n
      unmade i j o z c d m n (First a) (Second b) = place.pointers i o a c m (near_new o z b.1 n)
      unmade i j o z c d m n (Second a) b = no_pointer o a.1 c

      adds : (i : ℕ) (o : Object) → Entry i o → Or (slice_get g.objects i ≡ Some o) (Or (Solid y o) (IsMadeFor g o))
      adds i o (First a) = First a
      adds i o (Second a) = Second (First (subst (Solid y) a.1 (solid, behind-refl y)))

  pub pointer-added : IsEmpty g y → is_pointer node ≡ true → IsSpread h × Adds (Within y) g h
  pointer-added place is_one = (
    record {
      solids = λ i j o z a b c d n. solids i j o z c d n (entry i o a) (entry j z b);
      pointers = λ i j o z a b c d n. two i j o z c d n (entry i o a) (entry j z b);
      unmade = λ i j o z a b c d m n. unmade i j o z c d m n (entry i o a) (entry j z b);
      members = λ i o a. members-more place.member i o (entry i o a);
    },
    λ i o s a d m. adds i o (entry i o a),
  )
    where
      no_solid : (o : Object) → new ≡ o → is_pointer o.node ≡ false → true ≡ false
      no_solid o e c = sym is_one ∙ (ap is_pointer (same-node e) ∙ c)

      near_new : (o z : Object) → new ≡ z → Near o.path z.path → Near y o.path
      near_new o z e n = near-sym o.path y (subst (Near o.path) (sym (same-path e)) n)

      two : (i j : ℕ) (o z : Object) → is_pointer o.node ≡ true → is_pointer z.node ≡ true → Near o.path z.path → Entry i o → Entry j z → i ≡ j
      two i j o z c d n (First a) (First b) = apart.pointers i j o z a b c d n
      two i j o z c d n (First a) (Second b) = let e : true ≡ false = place.nothing i o a (near_new o z b.1 n) in absurd cc
      two i j o z c d n (Second a) (First b) = let e : true ≡ false = place.nothing j z b (near_new z o a.1 (near-sym o.path z.path n)) in absurd cc
      two i j o z c d n (Second a) (Second b) = a.0 ∙ sym b.0

      solids : (i j : ℕ) (o z : Object) → is_pointer o.node ≡ false → is_pointer z.node ≡ false → Near o.path z.path → Entry i o → Entry j z → i ≡ j
      solids i j o z c d n (First a) (First b) = apart.solids i j o z a b c d n
      solids i j o z c d n (Second a) b = let e : true ≡ false = no_solid o a.1 c in absurd cc
      solids i j o z c d n (First a) (Second b) = let e : true ≡ false = no_solid z b.1 d in absurd cc

      unmade : (i j : ℕ) (o z : Object) → is_pointer o.node ≡ true → is_pointer z.node ≡ false → g.made o.path ≡ false → Near o.path z.path → Entry i o → Entry j z → true ≡ false
      unmade i j o z c d m n (First a) (First b) = apart.unmade i j o z a b c d m n
      unmade i j o z c d m n (Second a) (First b) = place.nothing j z b (near_new z o a.1 (near-sym o.path z.path n))
      unmade i j o z c d m n a (Second b) = no_solid z b.1 d

      adds : (i : ℕ) (o : Object) → Entry i o → Or (slice_get g.objects i ≡ Some o) (Or (Within y o) (IsMadeFor g o))
      adds i o (First a) = First a
      adds i o (Second a) = Second (First (subst (Within y) a.1 (behind-refl y)))
