-- A design and its copy have the same at results.
use Rattle.std.proofs.Common.{◌≡◌, ◌⊎◌, inl, inr, ℕ, Bool, true, false, ◌&&◌, List, [], ◌∷◌, Option, Some, None, option_map, option_and_then, slice_get, if◌then◌else◌, refl, sym, ap, ◌∙◌}
use Rattle.std.specs.List.{list_any}
use Rattle.std.proofs.lemmas.Bool.{eq-eqb}
use Rattle.scc_bits_kinds.specs.declared.kind.Kind.{Kind}
use Rattle.scc_semantics.specs.Location.{Location, Root, Part, same_root, same_path, same_part}
use Rattle.scc_semantics.specs.Location as location
use Rattle.scc_semantics.specs.Places.{Thing, Places}
use Rattle.scc_semantics.specs.Places as thing
use Rattle.scc_semantics.specs.Same.{is_own}
use Rattle.scc_core_spec.specs.Program as prog
use Rattle.scc_core_spec.specs.Static.{fixed_word}
use Rattle.scc_core_spec.specs.Source as source
use Rattle.scc_core_spec.specs.Source.{at_top, cell_there, target_there}
use Rattle.scc_elab_spec.specs.Program.{Base, Number, Function, Plain, Member}
use Rattle.scc_elab_spec.specs.Program as plain
use Rattle.scc_elab_spec.specs.Design as design
use Rattle.scc_elab_spec.specs.Design.{Design, Object, Node, Module, Port, Signal, Variable, Pointer}
use Rattle.scc_elab_spec.specs.Types.{is_direct}
use Rattle.scc_elab_spec.specs.Meant.{function_of, thing_at}
use Rattle.scc_elab_spec.specs.Worth.{is_inside}
use Rattle.scc_elab_spec.specs.Numbering.{numbered, function_at}
use Rattle.scc_elab_spec.specs.Bodies.{number_kind}
use Rattle.scc_inline_spec.specs.Inlined.{member_of_root, answer_member, too_large}
use Rattle.scc_states_laws.proofs.Values.{map_is, then_is}
use Rattle.scc_elab_spec.proofs.Chains.{and-first, and-second}
use Rattle.scc_inline_laws.specs.OrderlyDesign.{IsOrderly}
use Rattle.scc_inline_laws.proofs.Listed.{IsIn}
use Rattle.scc_inline_laws.proofs.Chained.{chain-stands}
use Rattle.scc_inline_laws.proofs.Found.{home, core}
use Rattle.scc_inline_laws.proofs.FoundOwn.{wants, hits}
use Rattle.scc_inline_laws.proofs.FoundAll.{Finds, find-own}

module _ (p : Plain) (d : Design) (constant : Location → Option ℕ) (ord : IsOrderly p d) (small : (i : ℕ) (q : design.Process) → slice_get d.processes i ≡ Some q → too_large p d i q ≡ None) where
  -- at a result
  module _ (i : ℕ) (cs : List ℕ) (ps : List Part) where
    abbrev r : Root
    r = location.Answer i cs

    abbrev at : Location
    at = record { root = r; path = ps }

    abbrev result_of : Option Kind
    result_of = option_and_then (λ f. f.result) (function_of p d i cs)

    no-process : slice_get d.processes i ≡ None → result_of ≡ None
    no-process e = ap (λ o. option_and_then (λ f. f.result) (option_and_then (λ q. option_and_then (slice_get p.functions) (function_at p q.function cs)) o)) e

    -- a result is declared where its function has one
    none-declared : (q : design.Process) → slice_get d.processes i ≡ Some q → member_of_root p q.function r ≡ None → result_of ≡ None
    none-declared q e g = ap (λ o. option_and_then (λ f. f.result) (option_and_then (λ q. option_and_then (slice_get p.functions) (function_at p q.function cs)) o)) e ∙ by (function_at p q.function cs) g
      where
        result : (f : Function) (o : Option Kind) → option_map (answer_member f) o ≡ None → o ≡ None
        result f None e = refl
        result f (Some k) e = cc

        inner : (o : Option Function) → option_and_then (λ h. option_map (answer_member h) h.result) o ≡ None → option_and_then (λ f. f.result) o ≡ None
        inner None e = refl
        inner (Some f) e = result f f.result e

        by : (o : Option ℕ) → option_and_then (λ g. option_and_then (λ h. option_map (answer_member h) h.result) (slice_get p.functions g)) o ≡ None → option_and_then (λ f. f.result) (option_and_then (slice_get p.functions) o) ≡ None
        by None e = refl
        by (Some f) e = inner (slice_get p.functions f) e

    declared : (q : design.Process) → slice_get d.processes i ≡ Some q → (m : Member) → member_of_root p q.function r ≡ Some m
        → IsIn (numbered p i q.function) r × (k : Kind) × (result_of ≡ Some k) × (m.shape ≡ record { base = Number k; reach = plain.Direct; vector = false; sizes = [] })
    declared q e m g =
        let a = then_is (function_at p q.function cs) (λ g. option_and_then (λ h. option_map (answer_member h) h.result) (slice_get p.functions g)) m g in
        let b = then_is (slice_get p.functions a.0) (λ h. option_map (answer_member h) h.result) m a.2 in
        let k = map_is b.0.result (answer_member b.0) m b.2 in
        let s = chain-stands p d constant i q e (ord.processes i q e) (small i q e) cs a.0 b.0 a.1 b.1 in (
          s.1.answer k.0 k.1,
          k.0,
          ap (λ o. option_and_then (λ f. f.result) (option_and_then (λ q. option_and_then (slice_get p.functions) (function_at p q.function cs)) o)) e
              ∙ (ap (λ o. option_and_then (λ f. f.result) (option_and_then (slice_get p.functions) o)) a.1 ∙ (ap (option_and_then (λ f. f.result)) b.1 ∙ k.1)),
          sym (ap (λ m. m.shape) k.2),
        )

    self-own : is_own i r ≡ true
    self-own = eq-eqb i i refl

    thing-none : (ps : List Part) → result_of ≡ None → thing_at p d r ps ≡ None
    thing-none [] e = ap (option_map thing.Number) e
    thing-none (x ∷ ps) e = refl

    thing-some : (ps : List Part) (k : Kind) → result_of ≡ Some k → is_inside [] ps ≡ true → thing_at p d r ps ≡ Some (thing.Number k)
    thing-some [] k e w = ap (option_map thing.Number) e
    thing-some (x ∷ ps) k e w = cc

    thing-past : (ps : List Part) → is_inside [] ps ≡ false → thing_at p d r ps ≡ None
    thing-past [] e = cc
    thing-past (x ∷ ps) e = refl

    never-pointer : (q : design.Process) → slice_get d.processes i ≡ Some q → (m : Member) → member_of_root p q.function r ≡ Some m → hits true m ps ≡ true → ⊥
    never-pointer q e m g w = let s = (declared q e m g).3 in let z : is_direct m.shape.reach ≡ true = ap (λ s. is_direct s.reach) s in
        let y = and-second (is_inside m.shape.sizes ps) (wants true m) w in cc

    pub answer-thing : option_and_then (λ c. source.thing_of (home p d) (core p d) c c.sort) (cell_there (home p d) (core p d) false at) ≡ thing_at p d r ps
    answer-thing = by (find-own p d ord false i r ps self-own refl)
      where
        inner : (q : design.Process) → slice_get d.processes i ≡ Some q → (list_any (same_root r) (numbered p i q.function) ≡ true → (m : Member) → member_of_root p q.function r ≡ Some m → hits false m ps ≡ false)
            → (o : Option Member) → member_of_root p q.function r ≡ o → thing_at p d r ps ≡ None
        inner q e f None g = thing-none ps (none-declared q e g)
        inner q e f (Some m) g = let s = declared q e m g in
            thing-past ps (sym (ap (λ s. is_inside s.sizes ps && is_direct s.reach) s.3 ∙ all (is_inside [] ps)) ∙ f s.0 m g)
          where
            all : (b : Bool) → (b && true) ≡ b
            all true = refl
            all false = refl

        outer : ((q : design.Process) → slice_get d.processes i ≡ Some q → list_any (same_root r) (numbered p i q.function) ≡ true → (m : Member) → member_of_root p q.function r ≡ Some m → hits false m ps ≡ false)
            → (o : Option design.Process) → slice_get d.processes i ≡ o → thing_at p d r ps ≡ None
        outer f None e = thing-none ps (no-process e)
        outer f (Some q) e = inner q e (f q e) (member_of_root p q.function r) refl

        by : ((cell_there (home p d) (core p d) false at ≡ None) × ((q : design.Process) → slice_get d.processes i ≡ Some q → list_any (same_root r) (numbered p i q.function) ≡ true → (m : Member) → member_of_root p q.function r ≡ Some m → hits false m ps ≡ false))
            ⊎ Finds p d ord false i r ps self-own (cell_there (home p d) (core p d) false at)
            → option_and_then (λ c. source.thing_of (home p d) (core p d) c c.sort) (cell_there (home p d) (core p d) false at) ≡ thing_at p d r ps
        by (inl x) = ap (option_and_then (λ c. source.thing_of (home p d) (core p d) c c.sort)) x.0 ∙ sym (outer x.1 (slice_get d.processes i) refl)
        by (inr x) =
            let m = x.4.member in
            let s = declared x.1 x.3 m x.4.declared in
            let inside : is_inside [] ps ≡ true = sym (ap (λ s. is_inside s.sizes ps) s.3) ∙ and-first (is_inside m.shape.sizes ps) (wants false m) x.4.hit in
            ap (option_and_then (λ c. source.thing_of (home p d) (core p d) c c.sort)) x.2
            ∙ (ap (source.thing_of (home p d) (core p d) x.0) (x.4.sort ∙ ap (λ s. if is_direct s.reach then prog.Local i else prog.Pointer None) s.3)
            ∙ (ap (λ k. Some (thing.Number k)) (x.4.kind ∙ ap (λ s. number_kind s.base) s.3) ∙ sym (thing-some ps s.1 s.2 inside)))

    pub answer-fixed : option_and_then (λ c. fixed_word c.sort) (cell_there (home p d) (core p d) false at) ≡ None
    answer-fixed = by (find-own p d ord false i r ps self-own refl)
      where
        own-word : (b : Bool) → fixed_word (if b then prog.Local i else prog.Pointer None) ≡ None
        own-word true = refl
        own-word false = refl

        by : ((cell_there (home p d) (core p d) false at ≡ None) × ((q : design.Process) → slice_get d.processes i ≡ Some q → list_any (same_root r) (numbered p i q.function) ≡ true → (m : Member) → member_of_root p q.function r ≡ Some m → hits false m ps ≡ false))
            ⊎ Finds p d ord false i r ps self-own (cell_there (home p d) (core p d) false at)
            → option_and_then (λ c. fixed_word c.sort) (cell_there (home p d) (core p d) false at) ≡ None
        by (inl x) = ap (option_and_then (λ c. fixed_word c.sort)) x.0
        by (inr x) = ap (option_and_then (λ c. fixed_word c.sort)) x.2 ∙ (ap fixed_word x.4.sort ∙ own-word (is_direct x.4.member.shape.reach))

    pub no-pointer : cell_there (home p d) (core p d) true at ≡ None
    no-pointer = by (find-own p d ord true i r ps self-own refl)
      where
        by : ((cell_there (home p d) (core p d) true at ≡ None) × ((q : design.Process) → slice_get d.processes i ≡ Some q → list_any (same_root r) (numbered p i q.function) ≡ true → (m : Member) → member_of_root p q.function r ≡ Some m → hits true m ps ≡ false))
            ⊎ Finds p d ord true i r ps self-own (cell_there (home p d) (core p d) true at)
            → cell_there (home p d) (core p d) true at ≡ None
        by (inl x) = x.0
        by (inr x) = absurd (never-pointer x.1 x.3 x.4.member x.4.declared x.4.hit)
