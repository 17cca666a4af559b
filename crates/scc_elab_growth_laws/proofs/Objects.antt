-- Objects with their members and all that their constructors make.
use Rattle.std.proofs.Common.{◌≡◌, ℕ, zero, suc, ◌+◌, ◌-◌, ◌≤◌, ◌<◌, true, false, List, [], ◌∷◌, ◌++◌, length, length-append, Option, Some, None, option_map, slice_get, unwrap_or, ap, refl, sym, ◌∙◌, subst, arith}
use Rattle.std.specs.List.{list_all}
use Rattle.scc_base.specs.declared.refusal.Place.{Place}
use Rattle.scc_semantics.specs.Location.{Part}
use Rattle.scc_semantics.specs.Location as location
use Rattle.scc_core_spec.specs.Resolved.{Tried, Made, Stopped, and_made}
use Rattle.scc_elab_spec.specs.Inits.{inits_of}
use Rattle.scc_elab_spec.specs.Program.{Class, Member, Plain}
use Rattle.scc_elab_spec.specs.Design as design
use Rattle.scc_elab_spec.specs.Design.{Object, Node, is_module}
use Rattle.scc_elab_spec.specs.Grown.{Grown, is_pointer, added}
use Rattle.scc_elab_spec.specs.Worth.{Given}
use Rattle.scc_elab_spec.specs.Made.{params_given, Building, making, made_members, run_rest, function_of, site_of, built_in, built}
use Rattle.scc_elab_spec.proofs.Chains.{and-first, and-second}
use Rattle.scc_elab_growth_laws.specs.Changes.{Add, Grows, with_object}
use Rattle.scc_elab_growth_laws.specs.Apart.{Or, First, Second, Stem, stem, names_differ, Near, IsModuleAt, IsMember, IsApart}
use Rattle.scc_elab_growth_laws.proofs.Paths.{some_same, stem-member, stem-front, near-stem, near-refl, snoc-at}
use Rattle.scc_elab_growth_laws.proofs.Growth.{grows-one, IsIn}
use Rattle.scc_elab_growth_laws.proofs.Keeping.{IsMadeFor, Adds, Closed, KeepsTo, SameKeeps, apart-more, keeps-same, keeps-from, to-more, same-and}
use Rattle.scc_elab_growth_laws.proofs.Placing.{IsPlace, IsEmpty, Solid, solid-closed, solid-added}
use Rattle.scc_elab_growth_laws.proofs.Parts.{added-is}
use Rattle.scc_elab_growth_laws.proofs.Building.{slice_get-end, slice_get-last, Inside, inside-closed, AllEmpty, object-same}

module _ (p : Plain) where
  fewer_levels : (n low here : ℕ) → 65537 ≤ suc n + low → low ≤ here → 65537 ≤ n + (here + 1)
  fewer_levels n low here a b = omega arith

  none_left : {A : Type 0} (low here : ℕ) → 65537 ≤ 0 + low → low ≤ here → here ≤ 65536 → A
  none_left low here a b c = absurd (omega arith)

  one_more : (n : ℕ) → n < 65536 → n + 1 ≤ 65536
  one_more n a = omega arith

  grown_by_one : (g : Grown) (path : List Part) (q : Place) (node : Node) → length (with_object g path q node).objects ≡ length g.objects + 1
  grown_by_one g path q node = length-append g.objects (record { path = path; place = q; node = node } ∷ [])

  equal_least : (n m : ℕ) → m ≡ n → n ≤ m
  equal_least n m e = omega arith

  equal_most : (n m k : ℕ) → m ≡ n → n ≤ k → m ≤ k
  equal_most n m k e a = omega arith

  abbrev pub behind_args : Building → Class → List Part → Grown → List Given → Tried Grown
  behind_args b c path h gs = and_made (made_members b (site_of p (function_of p c) (length h.objects - 1) path h) 0 c.members (function_of p c).inits (params_given (length h.objects - 1) 0 (function_of p c).params (function_of p c).locals gs h))
      (run_rest (making b) (site_of p (function_of p c) (length h.objects - 1) path h) (inits_of None (function_of p c).inits) (function_of p c).body)

  -- an object of a class stands there, without members
  pub record IsBare (g : Grown) (path : List Part) : Type 0 where
    pub there : IsModuleAt g path
    pub bare : (n i : ℕ) (o : Object) → slice_get g.objects i ≡ Some o → stem o.path ≡ Some (record { around = path; name = n }) → true ≡ false

  bare-empty : (g : Grown) (path : List Part) → IsBare g path → (n : ℕ) → IsEmpty g (path ++ location.Member n ∷ [])
  bare-empty g path b n = record {
    member = record { member = record { around = path; name = n }; leads = stem-member path n; around = b.there };
    nothing = λ i o a near. b.bare n i o a (sym (near-stem (path ++ location.Member n ∷ []) o.path near) ∙ stem-member path n);
  }

  all-bare : (path : List Part) (g : Grown) → IsBare g path → (ms : List Member) → AllEmpty p path g ms
  all-bare path g b [] = tt
  all-bare path g b (m ∷ ms) = (bare-empty g path b m.name, all-bare path g b ms)

  -- each class has members of different names
  pub class-differs : (cs : List Class) (k : ℕ) (c : Class) → list_all (λ (c : Class). names_differ c.members) cs ≡ true → slice_get cs k ≡ Some c → names_differ c.members ≡ true
  class-differs [] k c e d = cc
  class-differs (x ∷ xs) zero c e d = ap (λ (z : Class). names_differ z.members) (sym (some_same d)) ∙ and-first (names_differ x.members) (list_all (λ (c : Class). names_differ c.members) xs) e
  class-differs (x ∷ xs) (suc k) c e d = class-differs xs k c (and-second (names_differ x.members) (list_all (λ (c : Class). names_differ c.members) xs) e) d

  abbrev pub IsReady : Class → Grown → List Part → Type 0
  IsReady c g path = (names_differ c.members ≡ true) × IsBare g path

  -- behind the object of a class itself
  pub behind-same : (build other : Building) (c : Class) (k : ℕ) → slice_get p.classes k ≡ Some c → (g : Grown) (path : List Part) (q : Place) (args : Grown → Tried (List Given)) → g.turns ≤ 65536 → length g.objects < 65536
      → ((h : Grown) (path : List Part) (q : Place) (c : ℕ) (args : Grown → Tried (List Given)) → IsIn (length g.objects + 1) 0 h → SameKeeps p (IsPlace h path) (Solid path) h (build h path q c args) (other h path q c args))
      → SameKeeps p (IsReady c (with_object g path q (design.Module k)) path) (Inside p path) (with_object g path q (design.Module k)) (and_made (args (with_object g path q (design.Module k))) (behind_args build c path (with_object g path q (design.Module k))))
      (and_made (args (with_object g path q (design.Module k))) (behind_args other c path (with_object g path q (design.Module k))))
  behind-same build other c k known g path q args turns room building =
      let h : Grown = with_object g path q (design.Module k) in
      let o : Object = record { path = path; place = q; node = design.Module k } in
      let size : length h.objects ≡ length g.objects + 1 = grown_by_one g path q (design.Module k) in
      let within : IsIn (length g.objects + 1) 0 h = record {
        low = equal_least (length g.objects + 1) (length h.objects) size;
        high = equal_most (length g.objects + 1) (length h.objects) 65536 size (one_more (length g.objects) room);
        least = omega arith;
        most = turns;
      } in
      let f = function_of p c in let object : ℕ = length h.objects - 1 in
      same-and p (IsReady c h path) (Inside p path) h (args h) (behind_args build c path h) (behind_args other c path h) (λ gs b.
      let z = object-same p (length g.objects + 1) build other building f object path h c gs (record { object = o; number = k; class = c; there = slice_get-last g.objects o; node = refl; known = known; function = refl }, within) in
      (z.0, to-more p ((names_differ c.members ≡ true) × AllEmpty p path h c.members) (Inside p path) h (Inside p path) (IsReady c h path) (λ o x. x) (λ ready. (ready.0, all-bare path h ready.1 c.members)) (behind_args build c path h gs) z.1))

  -- in a place no object of a class stands, so nothing is a member of it
  no-module : (g : Grown) (path : List Part) → IsPlace g path → IsModuleAt g path → true ≡ false
  no-module g path place m = place.solids m.number m.object m.there (solid m.object.node m.is_one) (subst (Near path) (sym m.at) (near-refl path))
    where
      solid : (v : Node) → is_module v ≡ true → is_pointer v ≡ false
      solid (design.Module c) e = refl
      solid (design.Port j output r) e = refl
      solid (design.Signal j) e = refl
      solid (design.Variable j w) e = refl
      solid (design.Pointer t) e = cc

  not_shorter : (n : ℕ) → n < n → true ≡ false
  not_shorter n a = absurd (omega arith)

  module _ (g : Grown) (path : List Part) (q : Place) (k : ℕ) where
    abbrev with_module : Grown
    with_module = with_object g path q (design.Module k)

    bare : IsApart g → IsPlace g path → IsBare with_module path
    bare apart place = record {
      there = record { number = length g.objects; object = record { path = path; place = q; node = design.Module k }; there = slice_get-end g.objects (record { path = path; place = q; node = design.Module k }); is_one = refl; at = refl };
      bare = λ n i o a e. by n i o e (snoc-at g.objects (record { path = path; place = q; node = design.Module k }) i o a);
    }
      where
        impossible : (s : Stem) → Some s ≡ None → true ≡ false
        impossible s e = cc

        old : (n i : ℕ) (o : Object) → stem o.path ≡ Some (record { around = path; name = n }) → Or ((o.path ≡ []) × (is_pointer o.node ≡ false)) (IsMember g o.path) → true ≡ false
        old n i o e (First x) = impossible (record { around = path; name = n }) (sym e ∙ ap stem x.0)
        old n i o e (Second m) = no-module g path place (subst (IsModuleAt g) (ap (λ (z : Stem). z.around) (some_same (sym m.leads ∙ e))) m.around)

        by : (n i : ℕ) (o : Object) → stem o.path ≡ Some (record { around = path; name = n }) → Or (slice_get g.objects i ≡ Some o) ((i ≡ length g.objects) × (record { path = path; place = q; node = design.Module k } ≡ o)) → true ≡ false
        by n i o e (First a) = old n i o e (apart.spread.members i o a)
        by n i o e (Second a) = not_shorter (length path) (stem-front path (record { around = path; name = n }) (ap stem (ap (λ (z : Object). z.path) a.1) ∙ e)).1

    abbrev Both : Object → Type 0
    Both o = Or (Solid path o) (Inside p path o)

    both-closed : Closed Both
    both-closed q o (First a) b c d = First (solid-closed path q o a b c d)
    both-closed q o (Second a) b c d = Second (inside-closed p path q o a b c d)

    -- what is added to objects that were there is no member of the new one
    outside : IsPlace g path → (h : Grown) → Adds Both g h → Adds (Solid path) g h
    outside place h adds i o s a d m = by (adds i o s a d m)
      where
        more : Or (Solid path o) (Inside p path o) → Or (slice_get g.objects i ≡ Some o) (Or (Solid path o) (IsMadeFor g o))
        more (First x) = Second (First x)
        more (Second x) = let z : true ≡ false = no-module g path place (subst (IsModuleAt g) (ap (λ (z : Stem). z.around) (some_same (sym d ∙ x.1))) m) in absurd cc

        by_new : Or (Both o) (IsMadeFor g o) → Or (slice_get g.objects i ≡ Some o) (Or (Solid path o) (IsMadeFor g o))
        by_new (First x) = more x
        by_new (Second x) = Second (Second x)

        by : Or (slice_get g.objects i ≡ Some o) (Or (Both o) (IsMadeFor g o)) → Or (slice_get g.objects i ≡ Some o) (Or (Solid path o) (IsMadeFor g o))
        by (First x) = First x
        by (Second x) = by_new x

    all-outside : (t : Tried Grown) → KeepsTo p (IsPlace g path) Both g t → KeepsTo p (IsPlace g path) (Solid path) g t
    all-outside (Made h) a = (a.0, λ whole apart place. let z = a.1 whole apart place in (z.0, outside place h z.1))
    all-outside (Stopped r) a = tt

    in-module : (c : Class) → slice_get p.classes k ≡ Some c → Grows p g with_module → (t u : Tried Grown) → SameKeeps p (IsReady c with_module path) (Inside p path) with_module t u → SameKeeps p (IsPlace g path) (Solid path) g t u
    in-module c known grows t u a = (
      a.0,
      all-outside t (keeps-from p (IsPlace g path) Both g (Solid path) both-closed (λ o x. First x) (IsReady c with_module path) with_module t
          (grows, λ whole apart place. let z = solid-added g path q (design.Module k) apart.spread grows place refl in (apart-more p g with_module grows refl apart z.0, z.1)) (λ whole apart more adds place. (class-differs p.classes k c whole known, bare apart place))
          (to-more p (IsReady c with_module path) (Inside p path) with_module Both (IsReady c with_module path) (λ o x. Second x) (λ x. x) t a.1)),
    )

  in-same : (build other : Building) (c : Class) (k : ℕ) → slice_get p.classes k ≡ Some c → (g : Grown) (path : List Part) (q : Place) (args : Grown → Tried (List Given)) → g.turns ≤ 65536
      → ((h : Grown) (path : List Part) (q : Place) (c : ℕ) (args : Grown → Tried (List Given)) → IsIn (length g.objects + 1) 0 h → SameKeeps p (IsPlace h path) (Solid path) h (build h path q c args) (other h path q c args))
      → SameKeeps p (IsPlace g path) (Solid path) g (built_in p build c k g path q k args) (built_in p other c k g path q k args)
  in-same build other c k e g path q args turns building = by (added g path q (design.Module k)) refl
    where
      by : (t : Tried Grown) → added g path q (design.Module k) ≡ t → SameKeeps p (IsPlace g path) (Solid path) g (and_made t (λ h. and_made (args h) (behind_args build c path h))) (and_made t (λ h. and_made (args h) (behind_args other c path h)))
      by (Stopped r) d = (refl, tt)
      by (Made h) d =
          let a = added-is p g path q (design.Module k) (c, e) h d in
          let m : Grown = with_object g path q (design.Module k) in
          subst (λ (z : Grown). SameKeeps p (IsPlace g path) (Solid path) g (and_made (args z) (behind_args build c path z)) (and_made (args z) (behind_args other c path z))) (sym a.0)
          (in-module g path q k c e (grows-one (Add path q (design.Module k)) a.1) (and_made (args m) (behind_args build c path m)) (and_made (args m) (behind_args other c path m))
          (behind-same build other c k e g path q args turns a.1.0 building))

  pub built-same : (n m low : ℕ) → 65537 ≤ n + low → 65537 ≤ m + low → (g : Grown) (path : List Part) (q : Place) (k : ℕ) (args : Grown → Tried (List Given)) → IsIn low 0 g
      → SameKeeps p (IsPlace g path) (Solid path) g (built p n g path q k args) (built p m g path q k args)
  built-same zero m low a b g path q k args i = none_left low (length g.objects) a i.low i.high
  built-same (suc n) zero low a b g path q k args i = none_left low (length g.objects) b i.low i.high
  built-same (suc n) (suc m) low a b g path q k args i = by (slice_get p.classes k) refl (λ h path q c args j. built-same n m (length g.objects + 1) (fewer_levels n low (length g.objects) a i.low) (fewer_levels m low (length g.objects) b i.low) h path q c args j)
    where
      by : (o : Option Class) → slice_get p.classes k ≡ o
          → ((h : Grown) (path : List Part) (q : Place) (c : ℕ) (args : Grown → Tried (List Given)) → IsIn (length g.objects + 1) 0 h → SameKeeps p (IsPlace h path) (Solid path) h (built p n h path q c args) (built p m h path q c args))
          → SameKeeps p (IsPlace g path) (Solid path) g (unwrap_or (option_map (λ c. built_in p (built p n) c k g path q k args) o) (Made g)) (unwrap_or (option_map (λ c. built_in p (built p m) c k g path q k args) o) (Made g))
      by None e inner = (refl, keeps-same p (Solid path) (IsPlace g path) g)
      by (Some c) e inner = in-same (built p n) (built p m) c k e g path q args i.most inner
