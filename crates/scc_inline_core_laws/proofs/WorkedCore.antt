-- The design of `m = pick(1) + pick(0)` is laid out.
use Rattle.std.proofs.Common.{◌≡◌, ℕ, zero, suc, Bool, true, false, length, Some, None, slice_get, refl, ap, ◌∙◌, subst, arith}
use Rattle.std.specs.Prelude.{◌<◌, ◌^◌}
use Rattle.scc_bits_kinds.specs.declared.kind.Kind.{Kind}
use Rattle.scc_bits_kinds.specs.Kinds.{width_of}
use Rattle.scc_elab_spec.specs.Design.{Object, Process, Node, Module, Port, Variable}
use Rattle.scc_elab_spec.specs.Worked.{made, int}
use Rattle.scc_core_unroll_laws.proofs.Counters.{some-is}
use Rattle.scc_inline_laws.specs.WorkedProcess.{process}
use Rattle.scc_inline_core_laws.specs.LaidOut.{AllRootsAt, IsLaidOut}

-- how long an object's path is
abbrev parts : Object → ℕ
parts o = length o.path

apart : (i j : ℕ) (o u : Object) → slice_get made.objects i ≡ Some o → slice_get made.objects j ≡ Some u → parts o ≡ parts u → i ≡ j
apart zero zero o u e f z = refl
apart (suc zero) (suc zero) o u e f z = refl
apart zero (suc zero) o u e f z = absurd (let x : 0 ≡ parts o = ap parts (some-is e) in let y : 1 ≡ parts u = ap parts (some-is f) in omega (arith, x, y, z))
apart (suc zero) zero o u e f z = absurd (let x : 1 ≡ parts o = ap parts (some-is e) in let y : 0 ≡ parts u = ap parts (some-is f) in omega (arith, x, y, z))
apart (suc (suc i)) j o u e f z = absurd cc
apart zero (suc (suc j)) o u e f z = absurd cc
apart (suc zero) (suc (suc j)) o u e f z = absurd cc

no-port : (n : ℕ) (o : Object) (k : Kind) (output : Bool) (r : ℕ) → slice_get made.objects n ≡ Some o → o.node ≡ Port k output r → ⊥
no-port zero o k output r e f = let z : Module 0 ≡ Port k output r = ap (λ (o : Object). o.node) (some-is e) ∙ f in cc
no-port (suc zero) o k output r e f = let z : Variable int 0 ≡ Port k output r = ap (λ (o : Object). o.node) (some-is e) ∙ f in cc
no-port (suc (suc n)) o k output r e f = cc

word-in : Node → ℕ
word-in (Variable k w) = w
word-in v = 0

kind-in : Node → Kind
kind-in (Variable k w) = k
kind-in v = int

word-fits : (n : ℕ) (o : Object) (k : Kind) (w : ℕ) → slice_get made.objects n ≡ Some o → o.node ≡ Variable k w → w < 2 ^ width_of k
unfolding word-in kind-in
word-fits zero o k w e f = absurd (let z : Module 0 ≡ Variable k w = ap (λ (o : Object). o.node) (some-is e) ∙ f in cc)
word-fits (suc zero) o k w e f =
    let z : Variable int 0 ≡ Variable k w = ap (λ (o : Object). o.node) (some-is e) ∙ f in
    let h : 0 < 2 ^ width_of int = omega arith in
    subst (λ v. word-in v < 2 ^ width_of (kind-in v)) z h
word-fits (suc (suc n)) o k w e f = absurd cc

-- a method that is sensitive to nothing
the-process : (i : ℕ) (q : Process) → slice_get made.processes i ≡ Some q → process ≡ q
the-process zero q e = some-is e
the-process (suc i) q e = absurd cc

pub worked-laid : IsLaidOut made
worked-laid = record {
  apart = λ i j o u e f same z. apart i j o u e f (ap length z);
  ports = λ n o k output r e f. absurd (no-port n o k output r e f);
  words = word-fits;
  senses = λ i q e. subst (λ (q : Process). AllRootsAt made q.senses) (the-process i q e) tt;
  edges = λ i q x e f. absurd (let z : None ≡ Some x = ap (λ (q : Process). q.edge) (the-process i q e) ∙ f in cc);
  resets = λ i q x e f. absurd (let z : None ≡ Some x = ap (λ (q : Process). q.reset) (the-process i q e) ∙ f in cc);
  threads = λ i q e t. absurd (let z : false ≡ true = ap (λ (q : Process). q.is_thread) (the-process i q e) ∙ t in cc);
}
