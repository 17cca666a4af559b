-- The design that construction leaves.
use Rattle.std.proofs.Common.{◌≡◌, ℕ, zero, suc, ◌+◌, ◌≤◌, Bool, true, false, [], Option, Some, None, option_map, slice_get, unwrap_or, ap, refl, sym, ◌∙◌, subst, arith}
use Rattle.scc_base.specs.declared.refusal.Refusal.{Refusal}
use Rattle.scc_core_spec.specs.Resolved.{Made, and_made}
use Rattle.scc_elab_spec.specs.Program.{Plain, Class}
use Rattle.scc_elab_spec.specs.Design.{Design, Object, Module}
use Rattle.scc_elab_spec.specs.Grown.{Grown, nothing, is_pointer}
use Rattle.scc_elab_spec.specs.Made.{built, built_in, object_levels, none_given}
use Rattle.scc_elab_spec.specs.After.{refused_after}
use Rattle.scc_elab_spec.specs.Elaborated.{left_unless, checked, bad_top, run_top, elaborated}
use Rattle.scc_elab_spec.proofs.Chains.{and_made-is, made_same}
use Rattle.scc_elab_growth_laws.specs.Changes.{Add, Grows, with_object}
use Rattle.scc_elab_growth_laws.specs.Apart.{First, Stem, stem, is_whole_plain, IsSpread, IsApart}
use Rattle.scc_elab_growth_laws.proofs.Keeping.{Keeps, KeepsTo}
use Rattle.scc_elab_growth_laws.proofs.Growth.{grows-then, grows-one, slice-kept}
use Rattle.scc_elab_growth_laws.specs.Leaves.{IsLeft}
use Rattle.scc_elab_growth_laws.proofs.Building.{Inside}
use Rattle.scc_elab_growth_laws.proofs.Objects.{IsBare, IsReady, class-differs, built-same, behind-same, behind_args}

levels_enough : 65537 ≤ object_levels + 0
levels_enough = omega arith

some_same : {A : Type 0} {a b : A} → Some a ≡ Some b → a ≡ b
some_same e = cc

module _ (many : Bool) (p : Plain) (d : Design) where
  grown-is : (c : Class) → slice_get p.classes p.top ≡ Some c → (g : Grown) → checked many p g ≡ Made d → Grows p (with_object nothing [] c.place (Module p.top)) g → (is_whole_plain p ≡ true → IsApart g) → IsLeft many p d
  grown-is c there g e a apart = by_refusal (refused_after many p g) refl e
    where
      by_refusal : (r : Option Refusal) → refused_after many p g ≡ r → left_unless r g ≡ Made d → IsLeft many p d
      by_refusal None f e = record {
        grown = g;
        grows = grows-then (grows-one (Add [] c.place (Module p.top)) (omega arith, omega arith, (c, there))) a;
        top = record { path = []; place = c.place; node = Module p.top };
        top_there = slice-kept 0 (record { path = []; place = c.place; node = Module p.top }) a refl;
        top_is = refl;
        top_path = refl;
        apart = apart;
        accepted = f;
        same = sym (made_same e);
      }
      by_refusal (Some r) f e = cc

  -- what is built behind the top
  levelled : (c : Class) → slice_get p.classes p.top ≡ Some c → (levels n : ℕ) → levels ≡ suc n → built p levels nothing [] c.place p.top none_given
      ≡ and_made (none_given (with_object nothing [] c.place (Module p.top))) (behind_args p (built p n) c [] (with_object nothing [] c.place (Module p.top)))
  levelled c there levels n e = ap (λ m. built p m nothing [] c.place p.top none_given) e ∙ ap (λ o. unwrap_or (option_map (λ x. built_in p (built p n) x p.top nothing [] c.place p.top none_given) o) (Made nothing)) there

  -- the top alone
  top-spread : (c : Class) → IsSpread (with_object nothing [] c.place (Module p.top))
  top-spread c = record {
    solids = λ i j o q a b f h n. first i o a ∙ sym (first j q b);
    pointers = λ i j o q a b f h n. first i o a ∙ sym (first j q b);
    unmade = λ i j o q a b f h m n. no_pointer i o a f;
    members = λ i o a. First (top i o a);
  }
    where
      first : (i : ℕ) (o : Object) → slice_get (with_object nothing [] c.place (Module p.top)).objects i ≡ Some o → i ≡ 0
      first zero o e = refl
      first (suc i) o e = cc

      no_pointer : (i : ℕ) (o : Object) → slice_get (with_object nothing [] c.place (Module p.top)).objects i ≡ Some o → is_pointer o.node ≡ true → true ≡ false
      no_pointer zero o e f = let same : Module p.top ≡ o.node = ap (λ (z : Object). z.node) (some_same e) in sym f ∙ ap is_pointer (sym same)
      no_pointer (suc i) o e f = cc

      top : (i : ℕ) (o : Object) → slice_get (with_object nothing [] c.place (Module p.top)).objects i ≡ Some o → (o.path ≡ []) × (is_pointer o.node ≡ false)
      top zero o e = (ap (λ (z : Object). z.path) (sym (some_same e)), ap (λ (z : Object). is_pointer z.node) (sym (some_same e)))
      top (suc i) o e = cc

  top-apart : (c : Class) → IsApart (with_object nothing [] c.place (Module p.top))
  top-apart c = record {
    spread = top-spread c;
    bindings = λ n b e. cc;
  }

  top-bare : (c : Class) → IsBare p (with_object nothing [] c.place (Module p.top)) []
  top-bare c = record {
    there = record { number = 0; object = record { path = []; place = c.place; node = Module p.top }; there = refl; is_one = refl; at = refl };
    bare = none;
  }
    where
      impossible : (s : Stem) → None ≡ Some s → true ≡ false
      impossible s e = cc

      none : (n i : ℕ) (o : Object) → slice_get (with_object nothing [] c.place (Module p.top)).objects i ≡ Some o → stem o.path ≡ Some (record { around = []; name = n }) → true ≡ false
      none n zero o e f = impossible (record { around = []; name = n }) (ap stem (ap (λ (z : Object). z.path) (some_same e)) ∙ f)
      none n (suc i) o e f = cc

  run-is : (c : Class) → slice_get p.classes p.top ≡ Some c → (r : Option Refusal) → run_top many p c r ≡ Made d → IsLeft many p d
  run-is c there None e =
      let top : Grown = with_object nothing [] c.place (Module p.top) in
      let a = and_made-is (built p object_levels nothing [] c.place p.top none_given) (checked many p) d e in
      let b = behind-same p (built p 65536) (built p 65536) c p.top there nothing [] c.place none_given (omega arith) (omega arith) (λ h path q k args i. built-same p 65536 65536 1 (omega arith) (omega arith) h path q k args i) in
      let k : Keeps p (IsReady p c top []) (Inside p []) top a.0 = subst (KeepsTo p (IsReady p c top []) (Inside p []) top) (sym (levelled c there object_levels 65536 refl) ∙ a.1) b.1 in
      grown-is c there a.0 a.2 k.0 (λ whole. (k.1 whole (top-apart c) (class-differs p p.classes p.top c whole there, top-bare c)).0)
  run-is c there (Some r) e = cc

  pub left-is : elaborated many p ≡ Some (Made d) → IsLeft many p d
  left-is e = by (slice_get p.classes p.top) refl e
    where
      by : (o : Option Class) → slice_get p.classes p.top ≡ o → option_map (λ c. run_top many p c (bad_top p c)) o ≡ Some (Made d) → IsLeft many p d
      by None f e = cc
      by (Some c) f e = run-is c f (bad_top p c) (some_same e)
