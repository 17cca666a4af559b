-- A design and its copy have the same at locals.
use Rattle.std.proofs.Common.{◌≡◌, ◌⊎◌, inl, inr, ℕ, Bool, true, false, not, ◌&&◌, List, Option, Some, None, option_map, option_and_then, unwrap_or, is_some, slice_get, if◌then◌else◌, refl, sym, ap, ◌∙◌}
use Rattle.std.specs.List.{list_any}
use Rattle.std.proofs.lemmas.Bool.{eq-eqb}
use Rattle.scc_semantics.specs.Location.{Location, Root, Part, same_root, same_path, same_part}
use Rattle.scc_semantics.specs.Location as location
use Rattle.scc_semantics.specs.Places.{Thing, Places}
use Rattle.scc_semantics.specs.Places as thing
use Rattle.scc_semantics.specs.Same.{is_own}
use Rattle.scc_core_spec.specs.Program as prog
use Rattle.scc_core_spec.specs.Static.{fixed_word}
use Rattle.scc_core_spec.specs.Source as source
use Rattle.scc_core_spec.specs.Source.{at_top, cell_there, target_there}
use Rattle.scc_elab_spec.specs.Program.{Base, Number, Function, Plain, Member}
use Rattle.scc_elab_spec.specs.Program as plain
use Rattle.scc_elab_spec.specs.Design as design
use Rattle.scc_elab_spec.specs.Design.{Design, Object, Node, Module, Port, Signal, Variable, Pointer}
use Rattle.scc_elab_spec.specs.Types.{is_direct}
use Rattle.scc_elab_spec.specs.Meant.{function_of, local_of, number_there, thing_at, pointer_at}
use Rattle.scc_elab_spec.specs.Worth.{is_inside}
use Rattle.scc_elab_spec.specs.Numbering.{numbered, function_at}
use Rattle.scc_elab_spec.specs.Bodies.{number_kind}
use Rattle.scc_inline_spec.specs.Inlined.{member_of_root, too_large}
use Rattle.scc_states_laws.proofs.Values.{then_is}
use Rattle.scc_elab_spec.proofs.Chains.{and-first, and-second}
use Rattle.scc_inline_laws.specs.Orderly.{IsOrderlyLocal}
use Rattle.scc_inline_laws.specs.OrderlyDesign.{IsOrderly}
use Rattle.scc_inline_laws.proofs.Listed.{IsIn}
use Rattle.scc_inline_laws.proofs.Ordered.{fine, local-listed}
use Rattle.scc_inline_laws.proofs.Chained.{chain-stands}
use Rattle.scc_inline_laws.proofs.Found.{home, core}
use Rattle.scc_inline_laws.proofs.FoundOwn.{wants, hits, IsOwnCell}
use Rattle.scc_inline_laws.proofs.FoundAll.{Finds, find-own}

module _ (p : Plain) (d : Design) (constant : Location → Option ℕ) (ord : IsOrderly p d) (small : (i : ℕ) (q : design.Process) → slice_get d.processes i ≡ Some q → too_large p d i q ≡ None) where
  -- at a local
  module _ (i : ℕ) (cs : List ℕ) (n : ℕ) (ps : List Part) where
    abbrev r : Root
    r = location.Local i cs n

    abbrev at : Location
    at = record { root = r; path = ps }

    inside-of : Member → Option Member
    inside-of m = if is_inside m.shape.sizes ps then Some m else None

    local-root : (q : design.Process) → slice_get d.processes i ≡ Some q → option_and_then (λ f. slice_get f.locals n) (function_of p d i cs) ≡ member_of_root p q.function r
    local-root q e = ap (λ o. option_and_then (λ f. slice_get f.locals n) (option_and_then (λ q. option_and_then (slice_get p.functions) (function_at p q.function cs)) o)) e ∙ by (function_at p q.function cs)
      where
        by : (o : Option ℕ) → option_and_then (λ f. slice_get f.locals n) (option_and_then (slice_get p.functions) o) ≡ option_and_then (λ g. option_and_then (λ h. slice_get h.locals n) (slice_get p.functions g)) o
        by None = refl
        by (Some g) = refl

    no-process : slice_get d.processes i ≡ None → option_and_then (λ f. slice_get f.locals n) (function_of p d i cs) ≡ None
    no-process e = ap (λ o. option_and_then (λ f. slice_get f.locals n) (option_and_then (λ q. option_and_then (slice_get p.functions) (function_at p q.function cs)) o)) e

    declared : (q : design.Process) → slice_get d.processes i ≡ Some q → (m : Member) → member_of_root p q.function r ≡ Some m → IsIn (numbered p i q.function) r × IsOrderlyLocal m
    declared q e m g =
        let a = then_is (function_at p q.function cs) (λ g. option_and_then (λ h. slice_get h.locals n) (slice_get p.functions g)) m g in
        let b = then_is (slice_get p.functions a.0) (λ h. slice_get h.locals n) m a.2 in
        let s = chain-stands p d constant i q e (ord.processes i q e) (small i q e) cs a.0 b.0 a.1 b.1 in
        (local-listed p d constant i q e (ord.processes i q e) s.0 cs a.0 b.0 s.1 n m b.2, (fine p d constant i q e (ord.processes i q e) s.0 cs a.0 b.0 s.1).locals n m b.2)

    -- what the local declares, if anything: and where nothing is found nothing is declared that is wanted
    undeclared : (pointer : Bool) → ((q : design.Process) → slice_get d.processes i ≡ Some q → list_any (same_root r) (numbered p i q.function) ≡ true → (m : Member) → member_of_root p q.function r ≡ Some m → hits pointer m ps ≡ false)
        → (local_of p d i cs n ps ≡ None) ⊎ ((m : Member) × (local_of p d i cs n ps ≡ Some m) × (wants pointer m ≡ false))
    undeclared pointer f = by (slice_get d.processes i) refl
      where
        inner : (q : design.Process) → slice_get d.processes i ≡ Some q → (o : Option Member) → member_of_root p q.function r ≡ o
            → (local_of p d i cs n ps ≡ None) ⊎ ((m : Member) × (local_of p d i cs n ps ≡ Some m) × (wants pointer m ≡ false))
        inner q e None g = inl (ap (option_and_then (λ m. if is_inside m.shape.sizes ps then Some m else None)) (local-root q e ∙ g))
        inner q e (Some m) g = go (is_inside m.shape.sizes ps) refl (f q e (declared q e m g).0 m g)
          where
            is : local_of p d i cs n ps ≡ (if is_inside m.shape.sizes ps then Some m else None)
            is = ap (option_and_then (λ m. if is_inside m.shape.sizes ps then Some m else None)) (local-root q e ∙ g)

            go : (b : Bool) → is_inside m.shape.sizes ps ≡ b → (is_inside m.shape.sizes ps && wants pointer m) ≡ false → (local_of p d i cs n ps ≡ None) ⊎ ((m : Member) × (local_of p d i cs n ps ≡ Some m) × (wants pointer m ≡ false))
            go true u x = inr (m, is ∙ ap (λ b. if b then Some m else None) u, sym (ap (λ b. b && wants pointer m) u) ∙ x)
            go false u x = inl (is ∙ ap (λ b. if b then Some m else None) u)

        by : (o : Option design.Process) → slice_get d.processes i ≡ o → (local_of p d i cs n ps ≡ None) ⊎ ((m : Member) × (local_of p d i cs n ps ≡ Some m) × (wants pointer m ≡ false))
        by None e = inl (ap (option_and_then (λ m. if is_inside m.shape.sizes ps then Some m else None)) (no-process e))
        by (Some q) e = inner q e (member_of_root p q.function r) refl

    found-local : (pointer : Bool) (q : design.Process) → slice_get d.processes i ≡ Some q → (c : prog.Cell) (o : IsOwnCell p d pointer i q.function r ps c) → local_of p d i cs n ps ≡ Some o.member
    found-local pointer q e c o = ap (option_and_then (λ m. if is_inside m.shape.sizes ps then Some m else None)) (local-root q e ∙ o.declared)
        ∙ ap (λ b. if b then Some o.member else None) (and-first (is_inside o.member.shape.sizes ps) (wants pointer o.member) o.hit)

    not-number : (m : Member) (b : Base) → is_direct m.shape.reach ≡ false → number_there p d m b ≡ None
    not-number m (Number k) z = ap (λ b. if b then Some (thing.Number k) else None) z
    not-number m (plain.OfClass c) z = refl
    not-number m (plain.Input k) z = refl
    not-number m (plain.Output k) z = refl
    not-number m (plain.Signal k) z = refl
    not-number m plain.Named z = refl

    self-own : is_own i r ≡ true
    self-own = eq-eqb i i refl

    sort-thing : (c : prog.Cell) (t : prog.Sort) → c.sort ≡ t → source.thing_of (home p d) (core p d) c c.sort ≡ source.thing_of (home p d) (core p d) c t
    sort-thing c t e = ap (source.thing_of (home p d) (core p d) c) e

    pub local-thing : option_and_then (λ c. source.thing_of (home p d) (core p d) c c.sort) (cell_there (home p d) (core p d) false at) ≡ thing_at p d r ps
    local-thing = by (find-own p d ord false i r ps self-own refl)
      where
        none : (local_of p d i cs n ps ≡ None) ⊎ ((m : Member) × (local_of p d i cs n ps ≡ Some m) × (wants false m ≡ false)) → thing_at p d r ps ≡ None
        none (inl x) = ap (option_and_then (λ m. number_there p d m m.shape.base)) x
        none (inr x) = ap (option_and_then (λ m. number_there p d m m.shape.base)) x.1 ∙ not-number x.0 x.0.shape.base x.2

        by : ((cell_there (home p d) (core p d) false at ≡ None) × ((q : design.Process) → slice_get d.processes i ≡ Some q → list_any (same_root r) (numbered p i q.function) ≡ true → (m : Member) → member_of_root p q.function r ≡ Some m → hits false m ps ≡ false))
            ⊎ Finds p d ord false i r ps self-own (cell_there (home p d) (core p d) false at)
            → option_and_then (λ c. source.thing_of (home p d) (core p d) c c.sort) (cell_there (home p d) (core p d) false at) ≡ thing_at p d r ps
        by (inl x) = ap (option_and_then (λ c. source.thing_of (home p d) (core p d) c c.sort)) x.0 ∙ sym (none (undeclared false x.1))
        by (inr x) =
            let m = x.4.member in
            let direct : is_direct m.shape.reach ≡ true = and-second (is_inside m.shape.sizes ps) (wants false m) x.4.hit in
            let k = (declared x.1 x.3 m x.4.declared).1.number direct in
            ap (option_and_then (λ c. source.thing_of (home p d) (core p d) c c.sort)) x.2
            ∙ (sort-thing x.0 (prog.Local i) (x.4.sort ∙ ap (λ b. if b then prog.Local i else prog.Pointer None) direct)
            ∙ (ap (λ k. Some (thing.Number k)) (x.4.kind ∙ ap number_kind k.1)
            ∙ sym (ap (option_and_then (λ m. number_there p d m m.shape.base)) (found-local false x.1 x.3 x.0 x.4) ∙ (ap (number_there p d m) k.1 ∙ ap (λ b. if b then Some (thing.Number k.0) else None) direct))))

    pub local-fixed : option_and_then (λ c. fixed_word c.sort) (cell_there (home p d) (core p d) false at) ≡ None
    local-fixed = by (find-own p d ord false i r ps self-own refl)
      where
        own-word : (b : Bool) → fixed_word (if b then prog.Local i else prog.Pointer None) ≡ None
        own-word true = refl
        own-word false = refl

        by : ((cell_there (home p d) (core p d) false at ≡ None) × ((q : design.Process) → slice_get d.processes i ≡ Some q → list_any (same_root r) (numbered p i q.function) ≡ true → (m : Member) → member_of_root p q.function r ≡ Some m → hits false m ps ≡ false))
            ⊎ Finds p d ord false i r ps self-own (cell_there (home p d) (core p d) false at)
            → option_and_then (λ c. fixed_word c.sort) (cell_there (home p d) (core p d) false at) ≡ None
        by (inl x) = ap (option_and_then (λ c. fixed_word c.sort)) x.0
        by (inr x) = ap (option_and_then (λ c. fixed_word c.sort)) x.2 ∙ (ap fixed_word x.4.sort ∙ own-word (is_direct x.4.member.shape.reach))

    pub local-pointer : is_some (cell_there (home p d) (core p d) true at) ≡ pointer_at p d r ps
    local-pointer = by (find-own p d ord true i r ps self-own refl)
      where
        none : (local_of p d i cs n ps ≡ None) ⊎ ((m : Member) × (local_of p d i cs n ps ≡ Some m) × (wants true m ≡ false)) → pointer_at p d r ps ≡ false
        none (inl x) = ap (λ o. unwrap_or (option_map (λ m. not (is_direct m.shape.reach)) o) false) x
        none (inr x) = ap (λ o. unwrap_or (option_map (λ m. not (is_direct m.shape.reach)) o) false) x.1 ∙ x.2

        by : ((cell_there (home p d) (core p d) true at ≡ None) × ((q : design.Process) → slice_get d.processes i ≡ Some q → list_any (same_root r) (numbered p i q.function) ≡ true → (m : Member) → member_of_root p q.function r ≡ Some m → hits true m ps ≡ false))
            ⊎ Finds p d ord true i r ps self-own (cell_there (home p d) (core p d) true at)
            → is_some (cell_there (home p d) (core p d) true at) ≡ pointer_at p d r ps
        by (inl x) = ap is_some x.0 ∙ sym (none (undeclared true x.1))
        by (inr x) = ap is_some x.2 ∙ sym (ap (λ o. unwrap_or (option_map (λ m. not (is_direct m.shape.reach)) o) false) (found-local true x.1 x.3 x.0 x.4) ∙ and-second (is_inside x.4.member.shape.sizes ps) (wants true x.4.member) x.4.hit)

    pub local-target : target_there (home p d) (core p d) (cell_there (home p d) (core p d) true at) ≡ None
    local-target = by (find-own p d ord true i r ps self-own refl)
      where
        own-target : (c : prog.Cell) (b : Bool) → c.sort ≡ (if b then prog.Local i else prog.Pointer None) → target_there (home p d) (core p d) (Some c) ≡ None
        own-target c true e = rw e refl
        own-target c false e = rw e refl

        by : ((cell_there (home p d) (core p d) true at ≡ None) × ((q : design.Process) → slice_get d.processes i ≡ Some q → list_any (same_root r) (numbered p i q.function) ≡ true → (m : Member) → member_of_root p q.function r ≡ Some m → hits true m ps ≡ false))
            ⊎ Finds p d ord true i r ps self-own (cell_there (home p d) (core p d) true at)
            → target_there (home p d) (core p d) (cell_there (home p d) (core p d) true at) ≡ None
        by (inl x) = ap (target_there (home p d) (core p d)) x.0
        by (inr x) = ap (target_there (home p d) (core p d)) x.2 ∙ own-target x.0 (is_direct x.4.member.shape.reach) x.4.sort
