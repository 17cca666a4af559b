-- Exits of copied bodies leave blocks that stand around them: those of their function, or the block of its call.
use Rattle.std.proofs.Common.{◌≡◌, ℕ, zero, suc, ◌+◌, Bool, true, false, ◌&&◌, nat_lt, List, [], ◌∷◌, ◌++◌, Option, Some, None, option_map, option_and_then, slice_get, unwrap_or, refl, ap, ◌∙◌, subst, arith, if◌then◌else◌}
use Rattle.std.proofs.lemmas.Bool.{lt-ltb}
use Rattle.scc_base.specs.declared.refusal.Place.{Place}
use Rattle.scc_bits_kinds.specs.declared.kind.Kind.{Kind}
use Rattle.scc_core_spec.specs.Term as core
use Rattle.scc_core_spec.specs.Term.{CellName}
use Rattle.scc_core_spec.specs.Code as stmt
use Rattle.scc_core_spec.specs.Exits.{exits_within}
use Rattle.scc_elab_spec.specs.Term.{Argument, Value, Leads, ModuleName}
use Rattle.scc_elab_spec.specs.Program.{Code, End, Declare, Assign, Point, Write, Call, If, Loop, Block, Exit, Return, Wait, Make, Bind, Process, Sensitive, Quiet, Reset, Function, Plain, Member}
use Rattle.scc_elab_spec.specs.Design as design
use Rattle.scc_elab_spec.specs.Design.{Design}
use Rattle.scc_elab_spec.specs.Types.{is_direct}
use Rattle.scc_elab_spec.specs.Numbering.{callee, function_at, levels}
use Rattle.scc_elab_spec.specs.Copied.{Here, local_name}
use Rattle.scc_elab_spec.specs.Bodies.{Calling, aimed, cell_of, cleared, elements, inside, local_as_whole, number_kind, object_of, passed, pointed, result_name, sizes_of, zeroed}
use Rattle.scc_inline_spec.specs.Inlined.{body_of, call_of, copied_body, here_of}
use Rattle.scc_core_resolved_laws.proofs.Bools.{and-both}
use Rattle.scc_inline_laws.specs.Orderly.{IsOrderlyCode}
use Rattle.scc_inline_laws.specs.OrderlyDesign.{IsOrderlyProcess}

cleared-leaves : (h : Here) (p : Place) (n : ℕ) (m : Option Member) (all : List (List ℕ)) (d : ℕ) (rest : stmt.Code) → exits_within d (cleared h p n m all rest) ≡ exits_within d rest
cleared-leaves h p n None all d rest = refl
cleared-leaves h p n (Some m) [] d rest = refl
cleared-leaves h p n (Some m) (i ∷ is) d rest = by (is_direct m.shape.reach) ∙ cleared-leaves h p n (Some m) is d rest
  where
    by : (b : Bool) → exits_within d (if b
        then stmt.Put p (cell_of h p false (local_name h n i)) core.Whole (core.Literal p (number_kind m.shape.base) 0) (cleared h p n (Some m) is rest)
        else stmt.Aim p (pointed true (cell_of h p true (local_name h n i))) (core.Null p) (cleared h p n (Some m) is rest)) ≡ exits_within d (cleared h p n (Some m) is rest)
    by true = refl
    by false = refl

zeroed-leaves : (h : Here) (p : Place) (cs : List ℕ) (g : Function) (k : Option Kind) (d : ℕ) (rest : stmt.Code) → exits_within d (zeroed h p cs g k rest) ≡ exits_within d rest
zeroed-leaves h p cs g None d rest = refl
zeroed-leaves h p cs g (Some k) d rest = refl

passed-leaves : (h : Here) (results : ℕ → CellName) (to : Here) (p : Place) (n : ℕ) (args : List Argument) (d : ℕ) (rest : stmt.Code) → exits_within d (passed h results to p n args rest) ≡ exits_within d rest
passed-leaves h results to p n [] d rest = refl
passed-leaves h results to p n (Value e ∷ args) d rest = passed-leaves h results to p (suc n) args d rest
passed-leaves h results to p n (Leads t ∷ args) d rest = passed-leaves h results to p (suc n) args d rest
passed-leaves h results to p n (ModuleName ∷ args) d rest = passed-leaves h results to p (suc n) args d rest

module _ (p : Plain) (d : Design) (i : ℕ) (q : design.Process) (ok : IsOrderlyProcess p d i q) where
  abbrev h : Here
  h = here_of p d i q ok.function

  -- so many blocks of the function stand around, and so many around its call's
  abbrev around : ℕ → ℕ → ℕ
  around n outer = suc (n + outer)

  module _ (call : Calling) (cs : List ℕ) (g : Function) (this : core.Left)
      (calls : (n f : ℕ) (k : Function) (this : core.Left) (outer : ℕ) → callee g.body n ≡ Some f → slice_get p.functions f ≡ Some k → exits_within (suc outer) (call (n ∷ cs) f this) ≡ true) where
    abbrev here : Here
    here = inside h cs g this

    abbrev copy : ℕ → List ℕ → Code → stmt.Code
    copy n before c = body_of call here n before c

    body-leaves : (n outer : ℕ) (before : List ℕ) (c : Code) → IsOrderlyCode p g n c → exits_within (around n outer) (copy n before c) ≡ true
    body-leaves n outer before End o = refl
    body-leaves n outer before (Declare a m r) o = cleared-leaves here a m (slice_get g.locals m) (elements (sizes_of (slice_get g.locals m))) (around n outer) (copy n before r) ∙ body-leaves n outer before r o.1
    body-leaves n outer before (Assign a l k e r) o = body-leaves n outer before r o.3
    body-leaves n outer before (Point a l t r) o = body-leaves n outer (local_as_whole l ++ before) r o.2
    body-leaves n outer before (Write a l e r) o = body-leaves n outer before r o.2
    body-leaves n outer before (Call a m f x args r) o =
        let object = object_of here (result_name here) x in
        let rest = copy n before r in
        let inner = call (m ∷ cs) f object in
        let given = passed here (result_name here) (inside here (m ∷ cs) o.0 object) a 0 args inner in
        ap (λ (u : Option Function). exits_within (around n outer) (unwrap_or (option_map (λ k. stmt.Block a (zeroed here a (m ∷ cs) k k.result (passed here (result_name here) (inside here (m ∷ cs) k object) a 0 args inner)) rest) u) rest)) o.1.1
        ∙ and-both (exits_within (suc (around n outer)) (zeroed here a (m ∷ cs) o.0 o.0.result given)) (exits_within (around n outer) rest)
        (zeroed-leaves here a (m ∷ cs) o.0 o.0.result (suc (around n outer)) given
        ∙ (passed-leaves here (result_name here) (inside here (m ∷ cs) o.0 object) a 0 args (suc (around n outer)) inner ∙ calls m f o.0 object (around n outer) o.1.0 o.1.1))
        (body-leaves n outer before r o.4)
    body-leaves n outer before (If a t x y r) o = and-both (exits_within (around n outer) (copy n before x)) (exits_within (around n outer) (copy n (aimed x ++ before) y) && exits_within (around n outer) (copy n (aimed x ++ (aimed y ++ before)) r))
        (body-leaves n outer before x o.1)
        (and-both (exits_within (around n outer) (copy n (aimed x ++ before) y)) (exits_within (around n outer) (copy n (aimed x ++ (aimed y ++ before)) r)) (body-leaves n outer (aimed x ++ before) y o.2) (body-leaves n outer (aimed x ++ (aimed y ++ before)) r o.3))
    body-leaves n outer before (Loop a c b r) o = and-both (exits_within (around n outer) (copy n before b)) (exits_within (around n outer) (copy n (aimed b ++ before) r)) (body-leaves n outer before b o.0) (body-leaves n outer (aimed b ++ before) r o.1)
    body-leaves n outer before (Block a b r) o =
        let z : around (suc n) outer ≡ suc (around n outer) = omega arith in
        and-both (exits_within (suc (around n outer)) (copy (suc n) before b)) (exits_within (around n outer) (copy n (aimed b ++ before) r))
        (subst (λ k. exits_within k (copy (suc n) before b) ≡ true) z (body-leaves (suc n) outer before b o.0)) (body-leaves n outer (aimed b ++ before) r o.1)
    body-leaves n outer before (Exit a m r) o =
        let w = o.0 in
        and-both (nat_lt m (around n outer)) (exits_within (around n outer) (copy n before r)) (lt-ltb m (around n outer) (omega (arith, w))) (body-leaves n outer before r o.1)
    body-leaves n outer before (Return a None r) o = and-both (nat_lt n (around n outer)) (exits_within (around n outer) (copy n before r)) (lt-ltb n (around n outer) (omega arith)) (body-leaves n outer before r o.1)
    body-leaves n outer before (Return a (Some e) r) o = and-both (nat_lt n (around n outer)) (exits_within (around n outer) (copy n before r)) (lt-ltb n (around n outer) (omega arith)) (body-leaves n outer before r o.1)
    body-leaves n outer before (Wait a m r) o = body-leaves n outer before r o
    body-leaves n outer before (Make a l b args r) o = body-leaves n outer before r o
    body-leaves n outer before (Bind a l t r) o = body-leaves n outer before r o
    body-leaves n outer before (Process a t f e r) o = body-leaves n outer before r o
    body-leaves n outer before (Sensitive a items r) o = body-leaves n outer before r o
    body-leaves n outer before (Quiet a r) o = body-leaves n outer before r o
    body-leaves n outer before (Reset a s e y r) o = body-leaves n outer before r o

  call-at : (cs : List ℕ) (f : ℕ) (g : Function) → function_at p q.function cs ≡ Some f → slice_get p.functions f ≡ Some g → (n k : ℕ) → callee g.body n ≡ Some k → function_at p q.function (n ∷ cs) ≡ Some k
  call-at cs f g chain found n k e = ap (option_and_then (λ g. option_and_then (λ h. callee h.body n) (slice_get p.functions g))) chain ∙ (ap (option_and_then (λ h. callee h.body n)) found ∙ e)

  call-leaves : (left : ℕ) (cs : List ℕ) (f : ℕ) (g : Function) (this : core.Left) (outer : ℕ) → function_at p q.function cs ≡ Some f → slice_get p.functions f ≡ Some g → exits_within (suc outer) (call_of h left cs f this) ≡ true
  call-leaves zero cs f g this outer chain found = refl
  call-leaves (suc left) cs f g this outer chain found =
      let z : suc (0 + outer) ≡ suc outer = omega arith in
      ap (λ (u : Option Function). exits_within (suc outer) (unwrap_or (option_map (λ k. body_of (call_of h left) (inside h cs k this) 0 [] k.body) u) stmt.End)) found
      ∙ subst (λ n. exits_within n (body_of (call_of h left) (inside h cs g this) 0 [] g.body) ≡ true) z
      (body-leaves (call_of h left) cs g this (λ n k x this outer e at. call-leaves left (n ∷ cs) k x this outer (call-at cs f g chain found n k e) at) 0 outer [] g.body (ok.functions cs f g chain found).body)

  pub process-leaves : exits_within 0 (copied_body p d i q) ≡ true
  process-leaves =
      ap (λ (u : Option Function). exits_within 0 (unwrap_or (option_map (λ f. let h = here_of p d i q f in stmt.Block q.place (body_of (call_of h levels) h 0 [] f.body) stmt.End) u) stmt.End)) ok.stands
      ∙ and-both (exits_within 1 (body_of (call_of h levels) h 0 [] ok.function.body)) true
      (body-leaves (call_of h levels) [] ok.function h.this (λ n k x this outer e at. call-leaves levels (n ∷ []) k x this outer (call-at [] q.function ok.function refl ok.stands n k e) at) 0 0 [] ok.function.body (ok.functions [] q.function ok.function refl ok.stands).body) refl
