-- The stages of a program that all of them accept.
use Rattle.std.proofs.Common.{◌≡◌, Bool, Option, Some, None, List, [], ◌∷◌, option_map, refl, sym, ap, ◌∙◌}
use Rattle.scc_base.specs.declared.refusal.Refusal.{Refusal}
use Rattle.scc_core_spec.specs.First.{first_some, first_of}
use Rattle.scc_core_spec.specs.Program.{Program}
use Rattle.scc_core_spec.specs.Renumbered.{resolved_program}
use Rattle.scc_core_spec.specs.Resolved.{Tried, Made, Stopped, and_made}
use Rattle.scc_core_spec.specs.Rules.{first_rule}
use Rattle.scc_core_spec.specs.Split.{first_after_passes, first_split, index_too_wide}
use Rattle.scc_core_spec.specs.Unrolled.{unrolled_program, unrolling_refuses}
use Rattle.scc_elab_spec.specs.Design.{Design}
use Rattle.scc_elab_spec.specs.Elaborated.{elaborated}
use Rattle.scc_elab_spec.specs.Program.{Plain}
use Rattle.scc_inline_spec.specs.Stages.{accepted, compiled, unless_refused, unrolled}
use Rattle.scc_inline_spec.specs.Static.{inlined}

made-is : {A : Type 0} {x y : A} → Made x ≡ Made y → x ≡ y
made-is e = cc

mapped-is : {A B : Type 0} (f : A → B) (o : Option A) (y : B) → option_map f o ≡ Some y → (x : A) × (o ≡ Some x) × (f x ≡ y)
mapped-is f None y e = absurd cc
mapped-is f (Some x) y e = (x, refl, some e)
  where
    some : {B : Type 0} {a b : B} → Some a ≡ Some b → a ≡ b
    some e = cc

then-is : {A B : Type 0} (f : A → Tried B) (t : Tried A) (y : B) → and_made t f ≡ Made y → (x : A) × (t ≡ Made x) × (f x ≡ Made y)
then-is f (Made x) y e = (x, refl, e)
then-is f (Stopped r) y e = absurd cc

unless-is : {A : Type 0} (o : Option Refusal) (x y : A) → unless_refused o x ≡ Made y → (o ≡ None) × (x ≡ y)
unless-is None x y e = (refl, made-is e)
unless-is (Some r) x y e = absurd cc

first-none : (o : Option Refusal) (os : List (Option Refusal)) → first_some (o ∷ os) ≡ None → o ≡ None
first-none None os e = refl
first-none (Some r) os e = absurd cc

-- the design, the copied core, and what is known of the resolved one
pub record Stages (many : Bool) (p : Plain) (r : Program) : Type 0 where
  pub design : Design
  pub core : Program
  pub elaborates : elaborated many p ≡ Some (Made design)
  pub copies : inlined p design ≡ Made core
  pub resolves : resolved_program (unrolled_program core) ≡ Made r
  pub none : first_rule r ≡ None

pub stages-of : (many : Bool) (p : Plain) (r : Program) → compiled many p ≡ Some (Made r) → Stages many p r
stages-of many p r e =
    let a = mapped-is (λ t. and_made t (λ d. and_made (inlined p d) accepted)) (elaborated many p) (Made r) e in
    let b = then-is (λ d. and_made (inlined p d) accepted) a.0 r a.2 in
    let c = then-is accepted (inlined p b.0) r b.2 in
    let u = then-is (λ u. and_made (resolved_program u) (λ r. unless_refused (first_after_passes first_rule r) r)) (unrolled c.0) r c.2 in
    let v = unless-is (unrolling_refuses c.0) (unrolled_program c.0) u.0 u.1 in
    let w = then-is (λ r. unless_refused (first_after_passes first_rule r) r) (resolved_program u.0) r u.2 in
    let z = unless-is (first_after_passes first_rule w.0) w.0 r w.2 in
    record {
      design = b.0;
      core = c.0;
      elaborates = a.1 ∙ ap Some b.1;
      copies = c.1;
      resolves = ap resolved_program v.1 ∙ (w.1 ∙ ap Made z.1);
      none = sym (ap first_rule z.1) ∙ rule w.0 z.0;
    }
  where
    rule : (r : Program) → first_after_passes first_rule r ≡ None → first_rule r ≡ None
    rule r e = first-none (first_rule r) (first_of (first_split r) r.processes ∷ index_too_wide r ∷ []) e
