-- `new`, step by step.
use Rattle.std.proofs.Common.{◌≡◌, refl, sym, ap, ◌∙◌, subst, ℕ, not, Bool, true, false, if◌then◌else◌, List, [], ◌∷◌, map, Option, Some, None, option_map, is_some, Result, Ok, Err}
use Rattle.scc_base.specs.declared.refusal.Place.{Place}
use Rattle.scc_base.specs.declared.refusal.Stop.{Stop}
use Rattle.scc_base.specs.declared.refusal.Stop.TheVariants as stop
use Rattle.scc_base.specs.declared.code.Code.TheVariants as reason
use Rattle.scc_semantics.specs.Location.{Location, Part, Root, Top}
use Rattle.scc_core_spec.specs.First.{refused}
use Rattle.scc_core_spec.specs.Resolved.{Tried, Made, Stopped, and_made, made_map}
use Rattle.scc_plain_view.specs.Codes.{base_of}
use Rattle.scc_elab_spec.specs.Term.{Argument, Left}
use Rattle.scc_elab_spec.specs.Design as design
use Rattle.scc_elab_spec.specs.Program.{Base, Code, End, Make, Plain}
use Rattle.scc_elab_spec.specs.Grown.{Grown, added, at_path, pointer_at, with_made, with_target}
use Rattle.scc_elab_spec.specs.Worth.{at_now, given, spot}
use Rattle.scc_elab_spec.specs.Construct.{Now, Ran, Fell, Halted, ends_in_vector, from_tried, grow, make_at, made_at}
use Rattle.scc_elab_spec.specs.Made.{grown_by}
use Rattle.scc_elab_store.specs.declared.locations.Location.{Location as Held}
use Rattle.scc_elab_store.specs.declared.locations.LocalOf.{LocalOf}
use Rattle.scc_elab_store.specs.Locations.{location_of, part_of, root_of}
use Rattle.scc_elab_worth.specs.Meant.{IsTarget}
use Rattle.scc_elab_works.specs.declared.works.Form.{Form}
use Rattle.scc_elab_works.specs.declared.works.Work.{Work}
use Rattle.scc_elab_works.specs.Works.{Stand, Passed, Steps, anew, each_made, led, making_at, outcome, run_at, site_at}
use Rattle.scc_elab_made.specs.Objects.{new_made}
use Rattle.scc_elab_made.proofs.Stepping.{pass_halts}
use Rattle.scc_elab_made.proofs.Making.{anew_grown}

-- the pointer leads to what is made, once it is
pub new_goes : (p : Plain) (old mid : List Work) (a b : Stand) (f : Form) (list : List Argument) (path seen : List Part) (g h : Grown) (last : Option ℕ) → b ≡ a → seen ≡ path → h ≡ with_made g path
    → ((q : Plain) (x : Ran) → outcome q mid x ≡ outcome q old (from_tried (grown_by x) (λ k. Fell (led k seen last))))
    → outcome p old (from_tried (new_made p a f list path g) (λ k. Fell (led k path last))) ≡ outcome p mid (anew (each_made p f (record { at = b; list = list }) h path))
new_goes p old mid a b f list path seen g h last e s d put =
    let t = each_made p f (record { at = b; list = list }) h path in
    (λ i. outcome p old (from_tried (each_made p f (record { at = sym e i; list = list }) (sym d i) path) (λ k. Fell (led k (sym s i) last))))
    ∙ ap (λ u. outcome p old (from_tried u (λ k. Fell (led k seen last)))) (sym (anew_grown t)) ∙ sym (put p (anew t))

module _ (p : Plain) (ws : List Work) (a : Stand) (f : Form) (list : List Argument) (n : Now) where
  abbrev made_here : Location → Root → Tried Grown
  made_here l r = made_at (making_at p a.levels) (at_now (site_at p a) n.grown) f.place (base_of f.base) f.is_vector list l r

  abbrev path_there : Held → List Part
  path_there there = map part_of there.path.items

  -- a local variable takes none
  pub local_new : (there : Held) → is_some there.local ≡ true → outcome p ws (grow n (made_here (location_of there) (location_of there).root) Fell) ≡ Stopped (refused reason.Constructor f.place)
  local_new there e = by there.local e ∙ ap grown_by (pass_halts p ws (refused reason.Constructor f.place))
    where
      by : (o : Option LocalOf) → is_some o ≡ true → outcome p ws (grow n (made_here (location_of there) (root_of o)) Fell) ≡ outcome p ws (Halted (refused reason.Constructor f.place))
      by (Some o) e = refl
      by None e = cc

  top_is : (there : Held) → is_some there.local ≡ false → location_of there ≡ at_path (map part_of there.path.items)
  top_is there e = by there.local e
    where
      by : (o : Option LocalOf) → is_some o ≡ false → record { root = root_of o; path = map part_of there.path.items } ≡ at_path (map part_of there.path.items)
      by None e = refl
      by (Some o) e = cc

  abbrev new_at : (pointer made : Bool) → List Part → Tried Grown
  new_at b c path = if not b then Made n.grown else (if c then Stopped (refused reason.Constructor f.place)
      else made_map (λ g. with_target g (at_path path) (Some (at_path path))) (making_at p a.levels (with_made n.grown path) path f.place (base_of f.base) f.is_vector (λ g. given (at_now (site_at p a) g) list)))

  at_top : (there : Held) (b c : Bool) → is_some there.local ≡ false → is_some (pointer_at n.grown (location_of there)) ≡ b → n.grown.made (location_of there).path ≡ c
      → outcome p ws (grow n (made_here (location_of there) (location_of there).root) Fell) ≡ outcome p ws (grow n (new_at b c (map part_of there.path.items)) Fell)
  at_top there b c e d k = ap (λ l. outcome p ws (grow n (made_here l l.root) Fell)) (top_is there e)
      ∙ (λ i. outcome p ws (grow n (new_at ((ap (λ l. is_some (pointer_at n.grown l)) (sym (top_is there e)) ∙ d) i) (k i) (map part_of there.path.items)) Fell))

  -- no pointer stands there
  pub no_pointer : (there : Held) → is_some there.local ≡ false → is_some (pointer_at n.grown (location_of there)) ≡ false → outcome p ws (grow n (made_here (location_of there) (location_of there).root) Fell) ≡ outcome p ws (Fell n)
  no_pointer there e d = at_top there false (n.grown.made (location_of there).path) e d refl

  -- something was made there before
  pub new_twice : (there : Held) → is_some there.local ≡ false → is_some (pointer_at n.grown (location_of there)) ≡ true → n.grown.made (location_of there).path ≡ true
      → outcome p ws (grow n (made_here (location_of there) (location_of there).root) Fell) ≡ Stopped (refused reason.Constructor f.place)
  new_twice there e d k = at_top there true true e d k ∙ ap grown_by (pass_halts p ws (refused reason.Constructor f.place))

  pub new_begins : (there : Held) → is_some there.local ≡ false → is_some (pointer_at n.grown (location_of there)) ≡ true → n.grown.made (location_of there).path ≡ false → f.is_pointer ≡ false
      → outcome p ws (grow n (made_here (location_of there) (location_of there).root) Fell) ≡ outcome p ws (from_tried (new_made p a f list (map part_of there.path.items) n.grown) (λ g. Fell (led g (map part_of there.path.items) n.last)))
  new_begins there e d k o = at_top there true false e d k ∙ ap (outcome p ws) (by (making_at p a.levels (with_made n.grown (path_there there)) (path_there there) f.place (base_of f.base) f.is_vector (λ g. given (at_now (site_at p a) g) list)))
      ∙ ap (λ b. outcome p ws (from_tried (if b then added (with_made n.grown (path_there there)) (path_there there) f.place (design.Pointer None) else making_at p a.levels (with_made n.grown (path_there there)) (path_there there) f.place (base_of f.base) f.is_vector (λ g. given (at_now (site_at p a) g) list)) (λ g. Fell (led g (path_there there) n.last)))) (sym o)
    where
      by : (t : Tried Grown) → grow n (made_map (λ g. with_target g (at_path (path_there there)) (Some (at_path (path_there there)))) t) Fell ≡ from_tried t (λ g. Fell (led g (path_there there) n.last))
      by (Made g) = refl
      by (Stopped r) = refl

  -- the whole statement
  pub made_new : (l : Left) (o : Option Held) → spot (at_now (site_at p a) n.grown) false false l ≡ Made (option_map location_of o) → f.is_vector ≡ ends_in_vector (site_at p a) l
      → outcome p ws (run_at p a (Make f.place l (base_of f.base) list End) n) ≡ outcome p ws (grow n (make_at (making_at p a.levels) (at_now (site_at p a) n.grown) f.place (base_of f.base) f.is_vector list (option_map location_of o)) Fell)
  made_new l o e d = (λ i. outcome p ws (grow n (and_made (e i) (make_at (making_at p a.levels) (at_now (site_at p a) n.grown) f.place (base_of f.base) (sym d i) list)) (run_at p a End))) ∙ refl

pub new_stops : (A : Type 0) (p : Plain) (z : Stop) (ws : List Work) (a : Stand) (n : Now) (place : Place) (l : Left) (base : Base) (list : List Argument) → IsTarget (Err z) (spot (at_now (site_at p a) n.grown) false false l)
    → Steps {A = A} p (Err z) ws n (outcome p ws (run_at p a (Make place l base list End) n))
new_stops A p (stop.Refused r) ws a n place l base list e = ap (λ t. outcome p ws (grow n (and_made t (make_at (making_at p a.levels) (at_now (site_at p a) n.grown) place base (ends_in_vector (site_at p a) l) list)) (run_at p a End))) e ∙ ap grown_by (pass_halts p ws r)
new_stops A p stop.NoMemory ws a n place l base list e = tt

pub no_new : (p : Plain) (ws : List Work) (a : Stand) (n : Now) (place : Place) (l : Left) (base : Base) (list : List Argument) → spot (at_now (site_at p a) n.grown) false false l ≡ Made None → outcome p ws (run_at p a (Make place l base list End) n) ≡ outcome p ws (Fell n)
no_new p ws a n place l base list e = ap (λ t. outcome p ws (grow n (and_made t (make_at (making_at p a.levels) (at_now (site_at p a) n.grown) place base (ends_in_vector (site_at p a) l) list)) (run_at p a End))) e
