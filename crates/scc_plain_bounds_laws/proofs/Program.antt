-- The functions of a plain program are bounded.
use Rattle.std.proofs.Common.{◌≡◌, ℕ, suc, ◌+◌, ◌≤◌, Bool, true, false, ◌&&◌, List, [], ◌∷◌, filter_map, length, map, Option, Some, None, is_some, option_map, refl, sym, ap, subst, arith}
use Rattle.std.specs.Prelude.{nat_lt}
use Rattle.std.specs.List.{list_all, cons_option}
use Rattle.scc_base.specs.declared.refusal.Place.{Place}
use Rattle.scc_base.specs.declared.refusal.Refusal.{Refusal}
use Rattle.scc_core_spec.specs.Resolved.{Made}
use Rattle.scc_templates_spec.specs.Walk.{Callee}
use Rattle.scc_templates_spec.specs.World.{World}
use Rattle.scc_templates_spec.specs.Replace.{Bound, replace_all}
use Rattle.scc_templates_spec.specs.ReplaceBody.{replace_stmts}
use Rattle.scc_templates_spec.specs.Source.{Source, Function, Init}
use Rattle.scc_elab_spec.specs.Program as code
use Rattle.scc_elab_spec.specs.Program.{Reach}
use Rattle.scc_elab_spec.specs.Numbering.{callee}
use Rattle.scc_plain_first.specs.Static.{staged, refusal_of}
use Rattle.scc_plain_spec.specs.Scope.{Answer}
use Rattle.scc_plain_spec.specs.Functions.{Routine}
use Rattle.scc_plain_spec.specs.Meaning.{site_of}
use Rattle.scc_plain_spec.specs.Keys.{outermost}
use Rattle.scc_plain_spec.specs.Room.{Around, Known, Local, Numbering, Writes, nothing}
use Rattle.scc_plain_spec.specs.Shapes.{owner_of}
use Rattle.scc_plain_spec.specs.Switch.{start}
use Rattle.scc_plain_spec.specs.ClassWalk.{Met}
use Rattle.scc_plain_spec.specs.Stage.{functions_in}
use Rattle.scc_plain_spec.specs.Whole.{param_locals, param_names, hide_params, stmts_in, Routed, Parts, inits_of, parts_of, room_of, routed, function_in, member_in}
use Rattle.scc_plain_spec.specs.Program.{numbering, function_of, walks, plain_of, unless_refused, program_in, program_of}
use Rattle.scc_plain_laws.proofs.Drafted.{some-is}
use Rattle.scc_plain_laws.proofs.Walks.{Finds, finds-pure, finds-then, finds-behind}
use Rattle.scc_plain_bounds_laws.specs.Bounds.{finds, is_bounded, is_bounded_function, is_bounded_local, leaves, one, times}
use Rattle.scc_plain_bounds_laws.proofs.Before.{same}
use Rattle.scc_plain_bounds_laws.proofs.Bounded.{Bounded, Mark, Anywhere, both, none}
use Rattle.scc_plain_bounds_laws.proofs.Found.{finds-own}
use Rattle.scc_plain_bounds_laws.proofs.Shapes.{AllLocals, reaches, locals-bounded, params-are, signature-finds}
use Rattle.scc_plain_bounds_laws.proofs.Flushes.{Flushes, length-held, flush-done, flush-then, Wrote}
use Rattle.scc_plain_bounds_laws.proofs.Inits.{init-flushes}
use Rattle.scc_plain_bounds_laws.proofs.Switch.{Fits}
use Rattle.scc_plain_bounds_laws.proofs.Within.{Knows, knows-later, knows-more, knows-none}
use Rattle.scc_plain_bounds_laws.specs.Within.{within_code}
use Rattle.scc_templates_spec.specs.Source as source
use Rattle.scc_plain_spec.specs.Forms.{Form}
use Rattle.scc_plain_bounds_laws.proofs.Bodies.{order-flushes, body-flushes}

-- what is written of a function
record IsWithin (x : Routed) : Type 0 where
  stays : (n : Numbering) → leaves (is_some x.result) 0 (x.body n code.End) ≡ true
  calls : (n : Numbering) (k : ℕ) → times k (x.body n code.End) ≤ 1
  locals : AllLocals x.locals
  names : (n : Numbering) → within_code (reaches x.locals) (x.body n code.End) ≡ true

made-is : {A : Type 0} {x y : A} → Made x ≡ Made y → x ≡ y
made-is e = cc

kept-all : (o : Option code.Function) (fs : List code.Function) → ((f : code.Function) → o ≡ Some f → is_bounded_function f ≡ true) → list_all is_bounded_function fs ≡ true → list_all is_bounded_function (cons_option o fs) ≡ true
kept-all None fs h k = k
kept-all (Some f) fs h k = both (is_bounded_function f) (list_all is_bounded_function fs) (h f refl) k

-- in the program locals hold what they hold here
reaches-in : (n : Numbering) (ls : List Local) → map (λ (m : code.Member). m.shape.reach) (map (member_in n) ls) ≡ reaches ls
reaches-in n [] = refl
reaches-in n (l ∷ ls) = ap (λ rs. l.shape.reach ∷ rs) (reaches-in n ls)

few : (b : Bool) (i : ℕ) → i ≤ 0 + one b → i ≤ 1
few true i e = omega (arith, e)
few false i e = omega (arith, e)

module _ (s : Source) (w : World Answer) where
  module _ (v : Bool) (a : Around) (is : is_some a.result ≡ v) (ks : List Known) (b : Bound) where
    inits-flush : (lo : Mark) → Knows lo.locals ks → (is : List Init) → Flushes v lo lo.locals (Wrote v Anywhere lo lo.locals) (inits_of s w a ks b is)
    inits-flush lo known [] = flush-done {x = nothing} (none v Anywhere lo)
    inits-flush lo known (i ∷ is) = order-flushes v Anywhere lo (init-flushes v Anywhere lo s w a ks known i.place i.name (replace_all b i.args)) (λ m g. inits-flush m (knows-later lo.locals m.locals ks g known) is)

    abbrev HasParts : Mark → Parts → Type 0
    HasParts hi x = (lo : Mark) × Bounded v (Fits start) lo hi x.body

    parts-flush : (lo : Mark) → Knows lo.locals ks → (f : Function) → Flushes v lo lo.locals HasParts (parts_of s w a ks b f)
    parts-flush lo known f = flush-then (inits-flush lo known f.inits) (λ x mid t. flush-then (body-flushes v s w a is mid start ks (knows-later lo.locals mid.locals ks t.grows known) (replace_stmts b (stmts_in f.body)))
        (λ y hi u. flush-done {x = record { inits = x; body = y }} (mid, u.0)))

  written-within : (v : Bool) (x : Writes) (lo hi : Mark) → Bounded v (Fits start) lo hi x → ((n : Numbering) → leaves v 0 (x n code.End) ≡ true) × ((n : Numbering) (k : ℕ) → times k (x n code.End) ≤ 1) × ((n : Numbering) → within_code hi.locals (x n code.End) ≡ true)
  written-within v x lo hi b = (
    (λ n. b.stays n code.End 0 (tt, tt) refl),
    (λ n k. few (nat_lt k hi.calls) (times k (x n code.End)) (let z : times k (x n code.End) + one (nat_lt k lo.calls) ≤ 0 + one (nat_lt k hi.calls) = b.calls n code.End k in omega (arith, z))),
    (λ n. b.within n code.End hi.locals (same hi.locals) refl),
  )

  -- the names of parameters mean the first locals
  params-know : (n : ℕ) (m : List Reach) (qs : List source.Taken) (ks : List Known) → n + length qs ≤ length m → Knows m ks → Knows m (param_names n qs ks)
  params-know n m [] ks h f = f
  params-know n m (q ∷ qs) ks h f = params-know (suc n) m qs (record { name = q.name; local = n } ∷ ks) (omega (arith, h)) (knows-more m (record { name = q.name; local = n }) ks (omega (arith, h)) f)

  params-many : (qs : List source.Taken) (fs : List Form) → length fs ≡ length qs → length (param_locals qs fs) ≡ length qs
  params-many [] [] e = refl
  params-many [] (f ∷ fs) e = refl
  params-many (q ∷ qs) [] e = e
  params-many (q ∷ qs) (f ∷ fs) e = ap suc (params-many qs fs (down (length fs) (length qs) e))
    where
      down : (m n : ℕ) → suc m ≡ suc n → m ≡ n
      down m n e = omega (arith, e)

  routed-finds : (f : Callee) (r : Routine) (p : Place) → Finds IsWithin (routed s w f r p)
  routed-finds f r p = finds-then (signature-finds s w (owner_of f) r p) (λ g h. finds-behind (site_of s w (owner_of f) p) (λ at. finds-then {P = λ x. ((n : Numbering) → leaves (is_some g.result) 0 (x.it.body n code.End) ≡ true) × ((n : Numbering) (k : ℕ) → times k (x.it.body n code.End) ≤ 1) × AllLocals x.room.locals × ((n : Numbering) → within_code (reaches x.room.locals) (x.it.body n code.End) ≡ true)}
      (record {
        holds = λ x e.
            let a : Around = record { owner = owner_of f; own = at.scope.own; result = g.result } in
            let qs = r.function.params in
            let many = params-many qs g.params h.1 in
            let ms = reaches (param_locals qs g.params) in
            let lo : Mark = record { calls = 0; locals = ms } in
            let z = (parts-flush (is_some g.result) a refl (param_names 0 qs []) (hide_params qs r.bound) lo (params-know 0 ms qs [] (let held = length-held (param_locals qs g.params) in omega (arith, many, held)) (knows-none ms)) r.function).holds (room_of s w g r.function)
            (record { lifted = none (is_some g.result) Anywhere lo; held = refl; locals = params-are qs g.params h.0 }) x e in
            let u = written-within (is_some g.result) x.it.body z.1.0 z.0 z.1.1 in (u.0, u.1, z.2.locals, (λ n. subst (λ m. within_code m (x.it.body n code.End) ≡ true) (sym z.2.held) (u.2 n)));
      })
      (λ x t. finds-pure {x = record { routine = r; owner = owner_of f; result = g.result; locals = x.room.locals; inits = x.it.inits; body = x.it.body }} (record { stays = t.0; calls = t.1; locals = t.2; names = t.3 }))))

  function-bounded : (n : Numbering) (o : Option Routed) → ((x : Routed) → o ≡ Some x → IsWithin x) → (f : code.Function) → option_map (function_in n) o ≡ Some f → is_bounded_function f ≡ true
  function-bounded n None h f e = absurd (cc)
  function-bounded n (Some x) h f e =
      let i = h x refl in
      let b = x.body n code.End in
      let ms = map (member_in n) x.locals in
      let rs = map (λ (m : code.Member). m.shape.reach) ms in
      subst (λ f. is_bounded_function f ≡ true) (some-is e)
      (both (leaves (is_some x.result) 0 b) (finds (callee b) b && (within_code rs b && list_all is_bounded_local ms)) (i.stays n)
      (both (finds (callee b) b) (within_code rs b && list_all is_bounded_local ms) (finds-own b (i.calls n))
      (both (within_code rs b) (list_all is_bounded_local ms) (subst (λ m. within_code m b ≡ true) (sym (reaches-in n x.locals)) (i.names n)) (locals-bounded n x.locals i.locals))))

  functions-bounded : (n : Numbering) (ms : List Met) → list_all is_bounded_function (filter_map (function_of s w n) ms) ≡ true
  functions-bounded n [] = refl
  functions-bounded n (m ∷ ms) = kept-all (function_of s w n m) (filter_map (function_of s w n) ms) (function-bounded n (routed s w m.callee m.routine m.place).value (routed-finds m.callee m.routine m.place).holds) (functions-bounded n ms)

  program-bounded : (top : ℕ) (p : code.Plain) → program_in s w top ≡ Made p → is_bounded p ≡ true
  program-bounded top p e = by (refusal_of (walks s w top)) e
    where
      by : (o : Option Refusal) → unless_refused s w o (plain_of s w (staged (walks s w top)).tally.queue) ≡ Made p → is_bounded p ≡ true
      by None e = subst (λ p. is_bounded p ≡ true) (made-is e) (functions-bounded (numbering s w (staged (walks s w top)).tally.queue) (functions_in s w (staged (walks s w top)).tally.queue))
      by (Some r) e = absurd cc

pub what-is-bounded : (s : Source) (top : ℕ) (p : code.Plain) → program_of s top ≡ Made p → is_bounded p ≡ true
what-is-bounded s top p e = program-bounded s (outermost s) top p e
