-- Where the parts of a left side lead is where the definition has them lead.
use Rattle.std.proofs.Common.{◌≡◌, refl, ap, ◌∙◌, ℕ, Bool, true, false, ◌&&◌, if◌then◌else◌, [], map, Option, Some, None, option_map, option_and_then, slice_get}
use Rattle.std.proofs.lemmas.Option.{slice_get-map}
use Rattle.scc_base.specs.declared.refusal.Place.{Place}
use Rattle.scc_bits.specs.Value.{Number}
use Rattle.scc_semantics.specs.Location.{Location, within}
use Rattle.scc_semantics.specs.Location as location
use Rattle.scc_semantics.specs.Scene.{index_of}
use Rattle.scc_core_spec.specs.Resolved.{Tried, Made, Stopped, and_made, made_map}
use Rattle.scc_plain_tree.specs.declared.program.PlainClass.{PlainClass}
use Rattle.scc_plain_tree.specs.declared.program.PlainMember.{PlainMember}
use Rattle.scc_plain_tree.specs.declared.program.Base.{Base}
use Rattle.scc_plain_tree.specs.declared.program.Base.TheVariants as base
use Rattle.scc_plain_tree.specs.declared.program.Reach.{Reach}
use Rattle.scc_plain_tree.specs.declared.program.Reach.TheVariants as way
use Rattle.scc_elab_spec.specs.Term.{Term, Left, Local, Answer, This, Follow, Index, kind_of, place_at}
use Rattle.scc_elab_spec.specs.Term as term
use Rattle.scc_elab_spec.specs.Program.{Member, Class}
use Rattle.scc_elab_spec.specs.Program as plain
use Rattle.scc_elab_spec.specs.Types.{base_at, base_of_member, class_in, member_at, declared_at, is_reference as refers}
use Rattle.scc_elab_spec.specs.Worth.{worth, spot as spot_at, behind, or_null, refer, member_name}
use Rattle.scc_plain_view.specs.Codes.{base_of}
use Rattle.scc_plain_view.specs.Plains.{plain_of, function_of, class_of, member_of, reach_of}
use Rattle.scc_elab_worth.specs.Said.{Said, Is, Refuses, Nothing, and_said}
use Rattle.scc_elab_worth.specs.Spots.{Around, Spot, spot, is_reference, led, declared, local, followed_at, followed, member_in, member_to, member, element_at, element}
use Rattle.scc_elab_worth.specs.Spots as spots
use Rattle.scc_elab_worth.specs.Meant.{site_of}
use Rattle.scc_elab_worth.proofs.Words.{Means}

reach_is : (r : Reach) → refers (reach_of r) ≡ is_reference r
reach_is way.Direct = refl
reach_is way.Pointer = refl
reach_is way.Reference = refl

module _ (g : Around) where
  abbrev pub declares : Left → Option plain.Base
  declares = base_at (plain_of g.plain) (function_of g.function)

  -- what is declared at a location that isn't behind null
  abbrev pub Stands : Left → Option Location → Base → Type 0
  Stands l None b = Unit {0}
  Stands l (Some k) b = declares l ≡ Some (base_of b)

  -- what is said of a left side is where the definition has it lead
  abbrev pub Leads : Bool → Bool → Left → Said Spot → Type 0
  Leads soft follow l (Is x) = (spot_at (site_of g) soft follow l ≡ Made x.at) × Stands l x.at x.base
  Leads soft follow l (Refuses r) = spot_at (site_of g) soft follow l ≡ Stopped r
  Leads soft follow l Nothing = Unit {0}

  led_leads : (soft follow : Bool) (p : Place) (b : Base) (v : Bool) (l : Left) (o : Option Location) → declares l ≡ Some (base_of b) → spot_at (site_of g) soft follow l ≡ or_null soft p o → Leads soft follow l (led soft p b v o)
  led_leads true follow p b v l (Some k) h e = (e, h)
  led_leads false follow p b v l (Some k) h e = (e, h)
  led_leads true follow p b v l None h e = (e, tt)
  led_leads false follow p b v l None h e = e

  declared_leads : (p : Place) (soft follow : Bool) (m : PlainMember) (k : Location) (l : Left) → declares l ≡ Some (base_of m.shape.base) → spot_at (site_of g) soft follow l ≡ refer (site_of g) p soft follow (Some (member_of m)) k
      → Leads soft follow l (declared g p soft follow m k)
  declared_leads p soft follow m k l h e = by (follow && is_reference m.shape.reach) (e ∙ ap (λ b. if follow && b then or_null soft p (g.store.targets k) else Made (Some k)) (reach_is m.shape.reach))
    where
      by : (c : Bool) → spot_at (site_of g) soft follow l ≡ (if c then or_null soft p (g.store.targets k) else Made (Some k))
          → Leads soft follow l (if c then led soft p m.shape.base m.shape.vector (g.store.targets k) else Is (spot (Some k) m.shape.base m.shape.vector))
      by true e = led_leads soft follow p m.shape.base m.shape.vector l (g.store.targets k) h e
      by false e = (e, h)

  pub local_leads : (p : Place) (soft follow : Bool) (n : ℕ) → Leads soft follow (Local p n) (local g p soft follow n (slice_get g.function.locals n))
  local_leads p soft follow n = by (slice_get g.function.locals n) (slice_get-map member_of g.function.locals n)
    where
      by : (o : Option PlainMember) → slice_get (map member_of g.function.locals) n ≡ option_map member_of o → Leads soft follow (Local p n) (local g p soft follow n o)
      by None e = tt
      by (Some m) e = declared_leads p soft follow m (record { root = location.Local g.object [] n; path = [] }) (Local p n) (ap base_of_member e)
          (ap (λ d. refer (site_of g) p soft follow d (record { root = location.Local g.object [] n; path = [] })) e)

  pub this_leads : (p : Place) (soft follow : Bool) → Leads soft follow (This p) (spots.this g g.function.class)
  this_leads p soft follow = by g.function.class refl
    where
      by : (o : Option ℕ) → g.function.class ≡ o → Leads soft follow (This p) (spots.this g o)
      by None e = tt
      by (Some c) e = (refl, ap (option_map plain.OfClass) e)

  -- ---- pointers

  abbrev then_follow : Place → Bool → Option Location → Tried (Option Location)
  then_follow p soft o = behind o (λ l. or_null soft p (g.store.targets l))

  follow_there : (p : Place) (soft follow : Bool) (l : Left) (o : Option Location) (b : Base) (v : Bool) → spot_at (site_of g) soft true l ≡ Made o → Stands l o b
      → Leads soft follow (Follow p l) (followed_at g p soft (spot o b v) o)
  follow_there p soft follow l None b v e h = (ap (λ z. and_made z (then_follow p soft)) e, tt)
  follow_there p soft follow l (Some k) b v e h = led_leads soft follow p b v (Follow p l) (g.store.targets k) h (ap (λ z. and_made z (then_follow p soft)) e)

  pub follow_leads : (p : Place) (soft follow : Bool) (l : Left) (x : Said Spot) → Leads soft true l x → Leads soft follow (Follow p l) (and_said x (followed g p soft))
  follow_leads p soft follow l (Is x) h = follow_there p soft follow l x.at x.base x.vector h.0 h.1
  follow_leads p soft follow l (Refuses r) h = ap (λ z. and_made z (then_follow p soft)) h
  follow_leads p soft follow l Nothing h = tt

  -- ---- members

  member_is : (b : Base) (n : ℕ) → member_at (plain_of g.plain) (class_in (Some (base_of b))) n ≡ option_map member_of (member_in g.plain b n)
  member_is (base.Number k) n = refl
  member_is (base.Class c) n = ap (option_and_then (λ k. slice_get k.members n)) (slice_get-map class_of g.plain.classes c) ∙ by (slice_get g.plain.classes c)
    where
      by : (o : Option PlainClass) → option_and_then (λ (k : Class). slice_get k.members n) (option_map class_of o) ≡ option_map member_of (option_and_then (λ k. slice_get k.members n) o)
      by None = refl
      by (Some k) = slice_get-map member_of k.members n
  member_is (base.Input k) n = refl
  member_is (base.Output k) n = refl
  member_is (base.Signal k) n = refl
  member_is base.ModuleName n = refl

  abbrev found : Left → ℕ → Option Member
  found l n = declared_at (site_of g).plain (site_of g).function (term.Member l n)

  abbrev then_member : Bool → Bool → Left → ℕ → Option Location → Tried (Option Location)
  then_member soft follow l n o = behind o (λ k. refer (site_of g) (place_at l) soft follow (found l n) (within k (location.Member (member_name (found l n)))))

  member_there : (p : Place) (soft follow : Bool) (n : ℕ) (l : Left) (o : Option Location) (b : Base) (v : Bool) → place_at l ≡ p → spot_at (site_of g) soft true l ≡ Made o → Stands l o b
      → Leads soft follow (term.Member l n) (spots.member_at g p soft follow n (spot o b v) o)
  member_there p soft follow n l None b v q e h = (ap (λ z. and_made z (then_member soft follow l n)) e, tt)
  member_there p soft follow n l (Some k) b v q e h = by (member_in g.plain b n) (member_is b n)
    where
      by : (m : Option PlainMember) → member_at (plain_of g.plain) (class_in (Some (base_of b))) n ≡ option_map member_of m → Leads soft follow (term.Member l n) (member_to g p soft follow k m)
      by None u = tt
      by (Some m) u =
          let d : found l n ≡ Some (member_of m) = ap (λ c. member_at (plain_of g.plain) (class_in c) n) h ∙ u in
          declared_leads p soft follow m (within k (location.Member m.name.0)) (term.Member l n) (ap (λ c. base_of_member (member_at (plain_of g.plain) (class_in c) n)) h ∙ ap base_of_member u)
          (ap (λ z. and_made z (then_member soft follow l n)) e ∙ (λ i. refer (site_of g) (q i) soft follow (d i) (within k (location.Member (member_name (d i))))))

  pub member_leads : (p : Place) (soft follow : Bool) (n : ℕ) (l : Left) (x : Said Spot) → place_at l ≡ p → Leads soft true l x → Leads soft follow (term.Member l n) (and_said x (member g p soft follow n))
  member_leads p soft follow n l (Is x) q h = member_there p soft follow n l x.at x.base x.vector q h.0 h.1
  member_leads p soft follow n l (Refuses r) q h = ap (λ z. and_made z (then_member soft follow l n)) h
  member_leads p soft follow n l Nothing q h = tt

  -- ---- elements

  abbrev then_element : Term → Option Location → Tried (Option Location)
  then_element t o = behind o (λ k. made_map (λ i. Some (within k (location.Element (index_of (kind_of t) i)))) (worth (site_of g) t))

  element_there : (soft follow : Bool) (l : Left) (t : Term) (y : Said Number) (o : Option Location) (b : Base) (v : Bool) → spot_at (site_of g) soft true l ≡ Made o → Stands l o b → Means (site_of g) t y
      → Leads soft follow (Index l t) (element_at y (spot o b v) o)
  element_there soft follow l t y None b v e h m = (ap (λ z. and_made z (then_element t)) e, tt)
  element_there soft follow l t (Is w) (Some k) b v e h m = (ap (λ z. and_made z (then_element t)) e ∙ (λ i. made_map (λ x. Some (within k (location.Element (index_of (m.1 i) x)))) (m.0 i)), h)
  element_there soft follow l t (Refuses r) (Some k) b v e h m = ap (λ z. and_made z (then_element t)) e ∙ ap (made_map (λ x. Some (within k (location.Element (index_of (kind_of t) x))))) m
  element_there soft follow l t Nothing (Some k) b v e h m = tt

  pub element_leads : (soft follow : Bool) (l : Left) (t : Term) (x : Said Spot) (y : Said Number) → Leads soft true l x → Means (site_of g) t y → Leads soft follow (Index l t) (and_said x (element y))
  element_leads soft follow l t (Is x) y h m = element_there soft follow l t y x.at x.base x.vector h.0 h.1 m
  element_leads soft follow l t (Refuses r) y h m = ap (λ z. and_made z (then_element t)) h
  element_leads soft follow l t Nothing y h m = tt
