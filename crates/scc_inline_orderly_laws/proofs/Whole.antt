-- A program and its design that pass the test are orderly.
use Rattle.std.proofs.Common.{◌≡◌, ℕ, zero, suc, ◌+◌, Bool, true, false, not, ◌&&◌, nat_eq, List, [], ◌∷◌, Option, Some, None, is_some, find, option_map, unwrap_or, slice_get, refl, sym, ap, ◌∙◌, subst, arith}
use Rattle.std.specs.List.{list_all}
use Rattle.scc_bits_kinds.specs.declared.kind.Kind.{Kind}
use Rattle.scc_semantics.specs.Location.{same_path}
use Rattle.scc_elab_spec.specs.Program.{Function, Plain}
use Rattle.scc_elab_spec.specs.Design as design
use Rattle.scc_elab_spec.specs.Design.{Design, Object, Node, Pointer, Edge, Reset, is_module}
use Rattle.scc_elab_spec.specs.Meant.{is_pointer}
use Rattle.scc_elab_spec.specs.Numbering.{function_at}
use Rattle.scc_inline_counter_laws.specs.Even.{is_even_process, are_even}
use Rattle.scc_inline_laws.specs.Orderly.{IsOrderlyFunction}
use Rattle.scc_inline_laws.specs.OrderlyDesign.{IsThing, AreThings, IsEdge, IsReset, IsOrderlyProcess, IsOrderly}
use Rattle.scc_inline_orderly_laws.specs.Test.{is_orderly_function}
use Rattle.scc_inline_orderly_laws.specs.Reached.{among, reached, is_closed}
use Rattle.scc_inline_orderly_laws.specs.Whole.{differ, is_thing, is_edge, is_reset, is_none, is_silent, is_orderly_at, are_orderly, is_orderly_process, same_process, same_pointer, has_target, have_targets, is_orderly}
use Rattle.scc_inline_orderly_laws.proofs.Bools.{and-first, and-second, not-false, all-at, differ-at}
use Rattle.scc_inline_orderly_laws.proofs.Test.{function-orderly}
use Rattle.scc_inline_orderly_laws.proofs.Reached.{all-among, leads-inside}

-- each of these processes is even
even-from : (p : Plain) (d : Design) (k : ℕ) (qs : List design.Process) → are_even p d k qs ≡ true → (i : ℕ) (q : design.Process) → slice_get qs i ≡ Some q → is_even_process p d (k + i) q ≡ true
even-from p d k [] x i q e = cc
even-from p d k (y ∷ qs) x zero q e = let same : y ≡ q = cc in let w : k ≡ k + 0 = omega arith in
    subst (λ k. is_even_process p d k q ≡ true) w (subst (λ q. is_even_process p d k q ≡ true) same (and-first (is_even_process p d k y) (are_even p d (suc k) qs) x))
even-from p d k (y ∷ qs) x (suc i) q e = let w : suc k + i ≡ k + suc i = omega arith in
    subst (λ k. is_even_process p d k q ≡ true) w (even-from p d (suc k) qs (and-second (is_even_process p d k y) (are_even p d (suc k) qs) x) i q e)

pub even-at : (p : Plain) (d : Design) (qs : List design.Process) → are_even p d 0 qs ≡ true → (i : ℕ) (q : design.Process) → slice_get qs i ≡ Some q → is_even_process p d i q ≡ true
even-at p d qs x i q e = let w : 0 + i ≡ i = omega arith in subst (λ k. is_even_process p d k q ≡ true) w (even-from p d 0 qs x i q e)

module _ (p : Plain) (d : Design) where
  thing-is : (n : ℕ) → is_thing p d n ≡ true → IsThing p d n
  thing-is n x = by (slice_get d.objects n) refl x
    where
      by : (o : Option Object) → slice_get d.objects n ≡ o → unwrap_or (option_map (λ o. not (is_module o.node)) o) false ≡ true → IsThing p d n
      by None e x = cc
      by (Some o) e x = (o, e, not-false (is_module o.node) x)

  things-are : (ns : List ℕ) → list_all (is_thing p d) ns ≡ true → AreThings p d ns
  things-are [] x = tt
  things-are (n ∷ ns) x = (thing-is n (and-first (is_thing p d n) (list_all (is_thing p d) ns) x), things-are ns (and-second (is_thing p d n) (list_all (is_thing p d) ns) x))

  edge-is : (e : Option Edge) → is_edge p d e ≡ true → IsEdge p d e
  edge-is None x = tt
  edge-is (Some e) x = thing-is e.root x

  reset-is : (r : Option Reset) → is_reset p d r ≡ true → IsReset p d r
  reset-is None x = tt
  reset-is (Some r) x = thing-is r.root x

  silent-is : (o : Option Function) → is_silent p d o ≡ true → (f : Function) × (o ≡ Some f) × (f.result ≡ None)
  silent-is None x = cc
  silent-is (Some f) x = (f, refl, none f.result x)
    where
      none : (r : Option Kind) → is_none p d r ≡ true → r ≡ None
      none None x = refl
      none (Some k) x = cc

  pub functions-are : (f : ℕ) (fs : List ℕ) → are_orderly p d f fs ≡ true → (cs : List ℕ) (n : ℕ) (g : Function) → function_at p f cs ≡ Some n → slice_get p.functions n ≡ Some g → IsOrderlyFunction p g
  functions-are f fs x cs n g e u =
      let A = among f fs in let C = is_closed p fs in let O = list_all (is_orderly_at p d) fs in
      let y = and-second A (C && O) x in
      let at = leads-inside p fs (and-first C O y) f (and-first A (C && O) x) cs n e in
      let t = all-among (is_orderly_at p d) fs n (and-second C O y) at in
      function-orderly p g (sym (ap (λ o. unwrap_or (option_map (is_orderly_function p) o) true) u) ∙ t)

  process-orderly : (i : ℕ) (q : design.Process) → is_orderly_process p d q ≡ true → IsOrderlyProcess p d i q
  process-orderly i q x =
      let S = is_silent p d (slice_get p.functions q.function) in
      let F = are_orderly p d q.function (reached p q.function) in
      let L = list_all (is_thing p d) q.senses in let E = is_edge p d q.edge in let R = is_reset p d q.reset in
      let x1 = and-second S (F && (L && (E && R))) x in let x2 = and-second F (L && (E && R)) x1 in let x3 = and-second L (E && R) x2 in
      let f = silent-is (slice_get p.functions q.function) (and-first S (F && (L && (E && R))) x) in
      record {
        function = f.0;
        stands = f.1;
        silent = f.2;
        functions = functions-are q.function (reached p q.function) (and-first F (L && (E && R)) x1);
        senses = things-are q.senses (and-first L (E && R) x2);
        edge = edge-is q.edge (and-first E R x3);
        reset = reset-is q.reset (and-second E R x3);
      }

  targets-are : (k : ℕ) (os : List Object) → have_targets p d k os ≡ true → (n r : ℕ) (o : Object) → slice_get os n ≡ Some o → o.node ≡ Pointer (Some r) → is_some (find (λ t. nat_eq t.object (k + n)) d.targets) ≡ true
  targets-are k [] x n r o e u = cc
  targets-are k (y ∷ os) x zero r o e u =
      let same : y ≡ o = cc in let w : k ≡ k + 0 = omega arith in
      subst (λ k. is_some (find (λ t. nat_eq t.object k) d.targets) ≡ true) w (sym (ap (has_target p d k) (ap (λ o. o.node) same ∙ u)) ∙ and-first (has_target p d k y.node) (have_targets p d (suc k) os) x)
  targets-are k (y ∷ os) x (suc n) r o e u = let w : suc k + n ≡ k + suc n = omega arith in
      subst (λ k. is_some (find (λ t. nat_eq t.object k) d.targets) ≡ true) w (targets-are (suc k) os (and-second (has_target p d k y.node) (have_targets p d (suc k) os) x) n r o e u)

  pub orderly : is_orderly p d ≡ true → IsOrderly p d
  orderly x =
      let A = list_all (is_orderly_process p d) d.processes in let B = differ (same_process p d) d.processes in let C = differ (same_pointer p d) d.objects in let E = are_even p d 0 d.processes in let T = have_targets p d 0 d.objects in
      let x1 = and-second A (B && (C && (E && T))) x in let x2 = and-second B (C && (E && T)) x1 in let x3 = and-second C (E && T) x2 in
      record {
        processes = λ i q e. process-orderly i q (all-at (is_orderly_process p d) d.processes i q (and-first A (B && (C && (E && T))) x) e);
        names = λ i j q r e f z. differ-at (same_process p d) d.processes i j q r (and-first B (C && (E && T)) x1) e f z;
        pointers = λ i j o u e f z w v. differ-at (same_pointer p d) d.objects i j o u (and-first C (E && T) x2) e f (both (is_pointer p d o.node) (is_pointer p d u.node) (same_path o.path u.path) z w v);
        arrays = even-at p d d.processes (and-first E T x3);
        targets = λ n r o e u. let w : 0 + n ≡ n = omega arith in subst (λ k. is_some (find (λ t. nat_eq t.object k) d.targets) ≡ true) w (targets-are 0 d.objects (and-second E T x3) n r o e u);
      }
    where
      both : (a b c : Bool) → a ≡ true → b ≡ true → c ≡ true → (a && (b && c)) ≡ true
      both true true true e f g = refl
      both true true false e f g = cc
      both true false c e f g = cc
      both false b c e f g = cc
