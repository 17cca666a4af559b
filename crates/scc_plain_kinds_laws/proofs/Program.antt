-- The functions of a plain program have operators of the kinds that they say.
use Rattle.std.proofs.Common.{◌≡◌, ℕ, true, List, [], ◌∷◌, filter_map, Option, Some, None, option_map, refl, subst}
use Rattle.std.specs.List.{list_all, cons_option}
use Rattle.scc_base.specs.declared.refusal.Place.{Place}
use Rattle.scc_base.specs.declared.refusal.Refusal.{Refusal}
use Rattle.scc_core_spec.specs.Resolved.{Made}
use Rattle.scc_templates_spec.specs.Walk.{Callee}
use Rattle.scc_templates_spec.specs.World.{World}
use Rattle.scc_templates_spec.specs.Replace.{Bound, replace_all}
use Rattle.scc_templates_spec.specs.ReplaceBody.{replace_stmts}
use Rattle.scc_templates_spec.specs.Source.{Source, Function, Init}
use Rattle.scc_elab_spec.specs.Program as code
use Rattle.scc_plain_first.specs.Static.{staged, refusal_of}
use Rattle.scc_plain_spec.specs.Scope.{Answer}
use Rattle.scc_plain_spec.specs.Functions.{Routine}
use Rattle.scc_plain_spec.specs.Meaning.{site_of}
use Rattle.scc_plain_spec.specs.Keys.{outermost}
use Rattle.scc_plain_spec.specs.Room.{Around, Known, Numbering}
use Rattle.scc_plain_spec.specs.Shapes.{signature, owner_of}
use Rattle.scc_plain_spec.specs.Switch.{start}
use Rattle.scc_plain_spec.specs.ClassWalk.{Met}
use Rattle.scc_plain_spec.specs.Stage.{functions_in}
use Rattle.scc_plain_spec.specs.Whole.{param_names, hide_params, stmts_in, Routed, Parts, inits_of, parts_of, room_of, routed, function_in}
use Rattle.scc_plain_spec.specs.Program.{numbering, function_of, walks, plain_of, unless_refused, program_in, program_of}
use Rattle.scc_plain_laws.proofs.Drafted.{some-is}
use Rattle.scc_inline_core_laws.specs.Kinded.{kinded_code, is_kinded}
use Rattle.scc_plain_laws.proofs.Walks.{Finds, finds-pure, finds-then, finds-behind, Gives, gives-done, gives-then}
use Rattle.scc_plain_kinds_laws.proofs.Kept.{Keeps, RoomKeeps, keeps-nothing, both}
use Rattle.scc_plain_kinds_laws.proofs.Bodies.{order-gives, body-gives}
use Rattle.scc_plain_kinds_laws.proofs.Inits.{init-gives}

abbrev PartsKeep : Parts → Type 0
PartsKeep x = Keeps x.body

abbrev RoutedKeeps : Routed → Type 0
RoutedKeeps x = Keeps x.body

pub made-is : {A : Type 0} {x y : A} → Made x ≡ Made y → x ≡ y
made-is e = cc

kept-all : (o : Option code.Function) (fs : List code.Function) → ((f : code.Function) → o ≡ Some f → kinded_code f.body ≡ true) → list_all (λ (f : code.Function). kinded_code f.body) fs ≡ true
    → list_all (λ (f : code.Function). kinded_code f.body) (cons_option o fs) ≡ true
kept-all None fs h k = k
kept-all (Some f) fs h k = both (kinded_code f.body) (list_all (λ (f : code.Function). kinded_code f.body) fs) (h f refl) k

module _ (s : Source) (w : World Answer) where
  inits-give : (a : Around) (ks : List Known) (b : Bound) (is : List Init) → Gives RoomKeeps Keeps (inits_of s w a ks b is)
  inits-give a ks b [] = gives-done keeps-nothing
  inits-give a ks b (i ∷ is) = order-gives (init-gives s w a ks i.place i.name (replace_all b i.args)) (inits-give a ks b is)

  parts-give : (a : Around) (ks : List Known) (b : Bound) (f : Function) → Gives RoomKeeps PartsKeep (parts_of s w a ks b f)
  parts-give a ks b f = gives-then (inits-give a ks b f.inits) (λ x t. gives-then (body-gives s w a start ks (replace_stmts b (stmts_in f.body))) (λ y u. gives-done {x = record { inits = x; body = y }} u))

  pub routed-finds : (f : Callee) (r : Routine) (p : Place) → Finds RoutedKeeps (routed s w f r p)
  routed-finds f r p = finds-behind (signature s w (owner_of f) r p) (λ g. finds-behind (site_of s w (owner_of f) p) (λ at. finds-then {P = λ x. Keeps x.it.body}
      (record { holds = λ x e. ((parts-give (record { owner = owner_of f; own = at.scope.own; result = g.result }) (param_names 0 r.function.params []) (hide_params r.function.params r.bound) r.function).holds (room_of s w g r.function) keeps-nothing x e).0 })
      (λ x t. finds-pure {x = record { routine = r; owner = owner_of f; result = g.result; locals = x.room.locals; inits = x.it.inits; body = x.it.body }} t)))

  function-kinded : (n : Numbering) (o : Option Routed) → ((x : Routed) → o ≡ Some x → Keeps x.body) → (f : code.Function) → option_map (function_in n) o ≡ Some f → kinded_code f.body ≡ true
  function-kinded n None h f e = absurd (cc)
  function-kinded n (Some x) h f e = subst (λ (f : code.Function). kinded_code f.body ≡ true) (some-is e) ((h x refl).kept n code.End refl)

  functions-kinded : (n : Numbering) (ms : List Met) → list_all (λ (f : code.Function). kinded_code f.body) (filter_map (function_of s w n) ms) ≡ true
  functions-kinded n [] = refl
  functions-kinded n (m ∷ ms) = kept-all (function_of s w n m) (filter_map (function_of s w n) ms) (function-kinded n (routed s w m.callee m.routine m.place).value (routed-finds m.callee m.routine m.place).holds) (functions-kinded n ms)

  program-kinded : (top : ℕ) (p : code.Plain) → program_in s w top ≡ Made p → is_kinded p ≡ true
  program-kinded top p e = by (refusal_of (walks s w top)) e
    where
      by : (o : Option Refusal) → unless_refused s w o (plain_of s w (staged (walks s w top)).tally.queue) ≡ Made p → is_kinded p ≡ true
      by None e = subst (λ p. is_kinded p ≡ true) (made-is e) (functions-kinded (numbering s w (staged (walks s w top)).tally.queue) (functions_in s w (staged (walks s w top)).tally.queue))
      by (Some r) e = absurd cc

pub what-is-kinded : (s : Source) (top : ℕ) (p : code.Plain) → program_of s top ≡ Made p → is_kinded p ≡ true
what-is-kinded s top p e = program-kinded s (outermost s) top p e
