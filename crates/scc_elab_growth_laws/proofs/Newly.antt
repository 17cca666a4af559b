-- What `new` makes for a pointer.
use Rattle.std.proofs.Common.{◌≡◌, ℕ, Bool, true, false, ◌&&◌, ◌||◌, List, [], Option, Some, None, slice_get, get_or, position, is_some, ap, refl, sym, ◌∙◌, subst}
use Rattle.std.proofs.lemmas.List.Quantifiers.{position-Some}
use Rattle.std.proofs.lemmas.Option.{slice_get-get_or}
use Rattle.scc_semantics.specs.Location.{Location, Part, same_path}
use Rattle.scc_core_spec.specs.Resolved.{Tried, Made, Stopped, made_map}
use Rattle.scc_elab_spec.specs.Program.{Plain}
use Rattle.scc_elab_spec.specs.Design.{Object, Pointer}
use Rattle.scc_elab_spec.specs.Grown.{Grown, at_path, is_pointer, object_at, with_target, with_made}
use Rattle.scc_elab_spec.proofs.Chains.{and-first, and-second}
use Rattle.scc_elab_spec.proofs.Regular.{same_path-is}
use Rattle.scc_elab_growth_laws.specs.Changes.{Aim, New, IsAllowed, Grows}
use Rattle.scc_elab_growth_laws.specs.Apart.{Or, First, Second, stem, Front, Near, IsMember, IsApart}
use Rattle.scc_elab_growth_laws.proofs.Paths.{same_path-refl}
use Rattle.scc_elab_growth_laws.proofs.Growth.{grows-then}
use Rattle.scc_elab_growth_laws.proofs.Keeping.{IsMadeFor, Adds, Keeps, SameKeeps, Calm, SameCalm, Nothing, calm, calm-then}
use Rattle.scc_elab_growth_laws.proofs.Placing.{IsPlace, Solid}

pub record IsPointerAt (g : Grown) (path : List Part) : Type 0 where
  pub number : ℕ
  pub object : Object
  pub there : slice_get g.objects number ≡ Some object
  pub is_one : is_pointer object.node ≡ true
  pub at : object.path ≡ path

pub find-pointer : (g : Grown) (path : List Part) → is_some (object_at is_pointer g path) ≡ true → IsPointerAt g path
find-pointer g path e = by (object_at is_pointer g path) refl e
  where
    test : Object → Bool
    test o = is_pointer o.node && same_path o.path path

    none : Object
    none = record { path = path; place = record { file = 0; at = 0 }; node = Pointer None }

    by : (n : Option ℕ) → position test g.objects ≡ n → is_some n ≡ true → IsPointerAt g path
    by None f e = cc
    by (Some n) f e = let found = position-Some test g.objects n none f in let o : Object = get_or g.objects n none in record {
      number = n;
      object = o;
      there = slice_get-get_or g.objects n none found.0;
      is_one = and-first (is_pointer o.node) (same_path o.path path) found.1;
      at = same_path-is o.path path (and-second (is_pointer o.node) (same_path o.path path) found.1);
    }

module _ (p : Plain) (g : Grown) (path : List Part) (unmade : g.made path ≡ false) (pointer : IsPointerAt g path) where
  abbrev begun : Grown
  begun = with_made g path

  made-now : begun.made path ≡ true
  made-now = ap (λ b. b || g.made path) (same_path-refl path)

  unmade-still : (q : List Part) → begun.made q ≡ false → g.made q ≡ false
  unmade-still q e = or-second (same_path path q) (g.made q) e
    where
      or-second : (a b : Bool) → (a || b) ≡ false → b ≡ false
      or-second true b e = cc
      or-second false b e = e

  -- the pointer's path is a place, once something is made for the pointer
  place : IsApart g → IsApart begun → IsPlace begun path
  place before apart = record {
    member = by pointer.object pointer.at pointer.is_one (apart.spread.members pointer.number pointer.object pointer.there);
    solids = λ i o a b n. before.spread.unmade pointer.number i pointer.object o pointer.there a pointer.is_one b (ap g.made pointer.at ∙ unmade) (subst (λ q. Near q o.path) (sym pointer.at) n);
    pointers = λ i o a b c n. itself i o a c (before.spread.pointers pointer.number i pointer.object o pointer.there a pointer.is_one b (subst (λ q. Near q o.path) (sym pointer.at) n));
  }
    where
      by : (o : Object) → o.path ≡ path → is_pointer o.node ≡ true → Or ((o.path ≡ []) × (is_pointer o.node ≡ false)) (IsMember begun o.path) → IsMember begun path
      by o e f (First a) = let z : true ≡ false = sym f ∙ a.1 in absurd cc
      by o e f (Second m) = subst (IsMember begun) e m

      itself : (i : ℕ) (o : Object) → slice_get begun.objects i ≡ Some o → begun.made o.path ≡ false → pointer.number ≡ i → true ≡ false
      itself i o a c e = let same : pointer.object ≡ o = some_same (sym pointer.there ∙ ap (slice_get g.objects) e ∙ a) in
          sym made-now ∙ ap begun.made (sym pointer.at ∙ ap (λ (z : Object). z.path) same) ∙ c
        where
          some_same : {A : Type 0} {a b : A} → Some a ≡ Some b → a ≡ b
          some_same e = cc

  -- what is made for it
  adds-new : (h : Grown) → Adds (Solid path) begun h → Adds Nothing g h
  adds-new h adds i o s a d m = by (adds i o s a d (record { number = m.number; object = m.object; there = m.there; is_one = m.is_one; at = m.at }))
    where
      more : Or (Solid path o) (IsMadeFor begun o) → Or (slice_get g.objects i ≡ Some o) (Or ⊥ (IsMadeFor g o))
      more (First x) = Second (Second (record {
        solid = x.0;
        number = pointer.number;
        pointer = pointer.object;
        there = pointer.there;
        is_one = pointer.is_one;
        unmade = ap g.made pointer.at ∙ unmade;
        behind = (ap stem pointer.at ∙ x.1.0, subst (λ q. Front q o.path) (sym pointer.at) x.1.1);
      }))
      more (Second x) = Second (Second (record { solid = x.solid; number = x.number; pointer = x.pointer; there = x.there; is_one = x.is_one; unmade = unmade-still x.pointer.path x.unmade; behind = x.behind }))

      by : Or (slice_get begun.objects i ≡ Some o) (Or (Solid path o) (IsMadeFor begun o)) → Or (slice_get g.objects i ≡ Some o) (Or ⊥ (IsMadeFor g o))
      by (First x) = First x
      by (Second x) = more x

  abbrev here : Location
  here = at_path path

  made-calm : (h : Grown) → Keeps p (IsPlace begun path) (Solid path) begun h → Calm p g h
  made-calm h a = let first : Calm p g begun = calm p g (New path) tt unmade in (
    grows-then first.0 a.0,
    λ whole apart pre. let b = first.1 whole apart tt in let c = a.1 whole b.0 (place apart b.0) in (c.0, adds-new h c.1),
  )

  pub made-new : (t u : Tried Grown) → SameKeeps p (IsPlace begun path) (Solid path) begun t u → ((h : Grown) → Grows p begun h → IsAllowed p h (Aim here (Some here)))
      → SameCalm p g (made_map (λ h. with_target h here (Some here)) t) (made_map (λ h. with_target h here (Some here)) u)
  made-new (Made h) u a f = (ap (made_map (λ h. with_target h here (Some here))) a.0, calm-then p (made-calm h a.1) (calm p h (Aim here (Some here)) tt (f h a.1.0)))
  made-new (Stopped r) u a f = (ap (made_map (λ h. with_target h here (Some here))) a.0, tt)
