-- Each chain of calls is numbered.
use Rattle.std.proofs.Common.{◌≡◌, ℕ, ◌+◌, ◌≤◌, ◌<◌, max, Bool, true, false, ◌||◌, nat_lt, List, [], ◌∷◌, Option, Some, None, option_map, option_and_then, unwrap_or, slice_get, refl, sym, ap, ◌∙◌, subst, arith}
use Rattle.std.proofs.lemmas.Bool.{lt-ltb, ltb-true, ltb-false}
use Rattle.std.proofs.Math.Nat.{le-max_left}
use Rattle.scc_base.specs.declared.refusal.Refusal.{Refusal}
use Rattle.scc_base.specs.declared.code.Code.TheVariants as reason
use Rattle.scc_semantics.specs.Location.{Location}
use Rattle.scc_core_spec.specs.Code as stmt
use Rattle.scc_core_spec.specs.First.{when, refused}
use Rattle.scc_elab_spec.specs.Program.{Function, Plain}
use Rattle.scc_elab_spec.specs.Design as design
use Rattle.scc_elab_spec.specs.Design.{Design}
use Rattle.scc_elab_spec.specs.Numbering.{body_declares, call_declares, callee, function_at, numbered, levels}
use Rattle.scc_inline_spec.specs.Inlined.{here_of, body_of, call_of, copied_body, too_large}
use Rattle.scc_states_laws.proofs.Values.{some_same, then_is}
use Rattle.scc_inline_laws.specs.OrderlyDesign.{IsOrderlyProcess}
use Rattle.scc_inline_laws.proofs.Listed.{Lists, lists-once}
use Rattle.scc_inline_laws.proofs.Deep.{deep, call_deep, deep-high}
use Rattle.scc_inline_laws.proofs.Ordered.{Stands, callee-stands}

module _ (p : Plain) (d : Design) (constant : Location → Option ℕ) (i : ℕ) (q : design.Process) (there : slice_get d.processes i ≡ Some q) (ok : IsOrderlyProcess p d i q) (small : too_large p d i q ≡ None) where
  high : (a b : Bool) (r : Refusal) → when (a || b) r ≡ None → b ≡ false
  high true b r e = cc
  high false true r e = cc
  high false false r e = refl

  shallow : deep (call_deep p levels) ok.function.body < levels
  shallow =
      let h = here_of p d i q ok.function in
      let a = deep-high h levels 0 [] ok.function.body in
      let b = high (nat_lt 65536 (stmt.size (copied_body p d i q))) (nat_lt 1024 (stmt.height (copied_body p d i q))) (refused reason.TooLarge q.place) small in
      let c : copied_body p d i q ≡ stmt.Block q.place (body_of (call_of h levels) h 0 [] ok.function.body) stmt.End
      = ap (λ o. unwrap_or (option_map (λ f. let h = here_of p d i q f in stmt.Block q.place (body_of (call_of h levels) h 0 [] f.body) stmt.End) o) stmt.End) ok.stands in
      below (stmt.height (body_of (call_of h levels) h 0 [] ok.function.body)) (deep (call_deep p levels) ok.function.body) a (subst (λ c. nat_lt 1024 (stmt.height c) ≡ false) c b)
    where
      below : (x y : ℕ) → y ≤ x → nat_lt 1024 (max (1 + x) 0) ≡ false → y < 1025
      below x y l e = by (nat_lt 1024 (max (1 + x) 0)) refl e
        where
          by : (b : Bool) → nat_lt 1024 (max (1 + x) 0) ≡ b → b ≡ false → y < 1025
          by true e f = cc
          by false e f = not-less (λ z. let w = lt-ltb 1024 (max (1 + x) 0) z in cc)
            where
              not-less : ((1024 < max (1 + x) 0) → ⊥) → y < 1025
              not-less n = decide (nat_lt y 1025) refl
                where
                  decide : (b : Bool) → nat_lt y 1025 ≡ b → y < 1025
                  decide true u = ltb-true y 1025 u
                  decide false u = absurd (n (let m = le-max_left (1 + x) 0 in let v = ltb-false y 1025 u in omega (arith, l, m, v)))

  pub first-stands : Stands p d constant i q there ok levels [] q.function ok.function
  first-stands = record {
    chain = refl;
    found = ok.stands;
    lists = subst (λ xs. Lists (numbered p i q.function) xs) (ap (λ o. unwrap_or (option_map (body_declares (call_declares p i levels) i []) o) []) ok.stands)
        (lists-once (unwrap_or (option_map (body_declares (call_declares p i levels) i []) (slice_get p.functions q.function)) []));
    answer = λ k e. absurd (let z = ok.silent in cc);
    shallow = shallow;
  }

  pub chain-stands : (cs : List ℕ) (f : ℕ) (g : Function) → function_at p q.function cs ≡ Some f → slice_get p.functions f ≡ Some g → (left : ℕ) × Stands p d constant i q there ok left cs f g
  chain-stands [] f g e e' =
      let x : q.function ≡ f = some_same e in let y : ok.function ≡ g = some_same (sym ok.stands ∙ (ap (slice_get p.functions) x ∙ e')) in
      (levels, subst (λ g. Stands p d constant i q there ok levels [] f g) y (subst (λ f. Stands p d constant i q there ok levels [] f ok.function) x first-stands))
  chain-stands (n ∷ cs) f g e e' =
      let a = then_is (function_at p q.function cs) (λ g. option_and_then (λ h. callee h.body n) (slice_get p.functions g)) f e in
      let b = then_is (slice_get p.functions a.0) (λ h. callee h.body n) f a.2 in
      let s = chain-stands cs a.0 b.0 a.1 b.1 in
      let t = callee-stands p d constant i q there ok s.0 cs a.0 b.0 s.1 n f g b.2 e' in
      (t.0, t.2)
