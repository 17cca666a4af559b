-- What is given to parameters and variables.
use Rattle.std.proofs.Common.{◌≡◌, ℕ, zero, suc, ◌+◌, Bool, true, false, not, ◌&&◌, ◌||◌, List, [], ◌∷◌, Option, Some, None, option_and_then, slice_get, is_some, if◌then◌else◌, ap, refl, sym, ◌∙◌, arith}
use Rattle.scc_bits_kinds.specs.declared.kind.Kind.{Kind}
use Rattle.scc_semantics.specs.Location.{Location, Part}
use Rattle.scc_elab_spec.specs.Program.{Member, Function, Plain}
use Rattle.scc_elab_spec.specs.Types.{is_direct}
use Rattle.scc_elab_spec.specs.Grown.{Grown, local_of, thing_at, node_of, variable_kind, with_word, with_target}
use Rattle.scc_elab_spec.specs.Worth.{Site, at_now, is_inside, direct_kind, or_kind, Given, given}
use Rattle.scc_elab_spec.specs.Worth as worth
use Rattle.scc_elab_spec.specs.Made.{is_name, param_given, params_given, last_word, word_if}
use Rattle.scc_elab_growth_laws.specs.Changes.{Word, Aim}
use Rattle.scc_elab_growth_laws.specs.Sites.{if_inside, local_in, points, IsOf}
use Rattle.scc_elab_growth_laws.proofs.Sites.{of-kept, ours}
use Rattle.scc_elab_growth_laws.proofs.Keeping.{Calm, calm, calm-same, calm-then}

module _ (p : Plain) where
  some-kind : (a : Option Kind) (k : Kind) → or_kind a (Some k) ≡ None → true ≡ false
  some-kind None k e = cc
  some-kind (Some j) k e = cc

  pub word-if-grows : (gs : List Given) (l : Location) (g : Grown) → Calm p g (word_if gs l g)
  word-if-grows [] l g = calm-same p g
  word-if-grows (x ∷ xs) l g = by (variable_kind (option_and_then (node_of g) (thing_at g l))) refl
    where
      by : (v : Option Kind) → variable_kind (option_and_then (node_of g) (thing_at g l)) ≡ v → Calm p g (if is_some v then with_word g l (last_word (x ∷ xs)) else g)
      by None e = calm-same p g
      by (Some k) e = calm p g (Word l (last_word (x ∷ xs))) tt (λ d. let z : true ≡ false = some-kind (option_and_then direct_kind (local_in p g l l.root)) k (ap (or_kind (option_and_then direct_kind (local_in p g l l.root))) (sym e) ∙ d) in absurd cc)

  module _ (object : ℕ) (f : Function) where
    -- a parameter is a local of the object's constructor
    abbrev IsParam : Grown → ℕ → Member → Type 0
    IsParam g n m = local_in p g (local_of object n []) (local_of object n []).root ≡ if_inside [] m

    inside : (path : List Part) (m : Member) → is_inside m.shape.sizes path ≡ true → if_inside path m ≡ Some m
    inside path m e = ap (λ b. if b then Some m else None) e

    param-grows : (g : Grown) (n : ℕ) (m : Member) → IsParam g n m → (x : Given) → Calm p g (param_given g object n m x)
    param-grows g n m a (worth.Word w) = by (is_inside m.shape.sizes []) (direct_kind m) refl refl
      where
        l : Location
        l = local_of object n []

        by : (b : Bool) (k : Option Kind) → is_inside m.shape.sizes [] ≡ b → direct_kind m ≡ k → Calm p g (if b && is_some k then with_word g l w else g)
        by false k e d = calm-same p g
        by true None e d = calm-same p g
        by true (Some k) e d = calm p g (Word l w) tt (λ z. let y : Some k ≡ None = sym (ap (λ q. or_kind (option_and_then direct_kind q) None) (a ∙ inside [] m e) ∙ ap (λ q. or_kind q None) d) ∙ z in absurd cc)
    param-grows g n m a (worth.Place_given t) = by (is_inside m.shape.sizes []) (is_direct m.shape.reach) refl refl
      where
        l : Location
        l = local_of object n []

        by : (b c : Bool) → is_inside m.shape.sizes [] ≡ b → is_direct m.shape.reach ≡ c → Calm p g (if b && not c then with_target g l t else g)
        by false c e d = calm-same p g
        by true true e d = calm-same p g
        by true false e d = calm p g (Aim l t) tt (tt, λ z. let y : true ≡ false = sym (ap (λ q. false || points q) (a ∙ inside [] m e) ∙ ap (λ c. false || not c) d) ∙ z in absurd cc)

    pub params-grow : (n left : ℕ) (ms : List Member) (gs : List Given) (g : Grown) → ((k : ℕ) (m : Member) → slice_get ms k ≡ Some m → slice_get f.locals (n + k) ≡ Some m) → IsOf p f object g → Calm p g (params_given object n left ms gs g)
    params-grow n zero ms gs g a i = calm-same p g
    params-grow n (suc left) [] gs g a i = calm-same p g
    params-grow n (suc left) (m ∷ ms) [] g a i = calm-same p g
    params-grow n (suc left) (m ∷ ms) (x ∷ xs) g a i = by (is_name m.shape.base) (λ gs h j. params-grow (n + 1) left ms gs h (λ k m e. ap (slice_get f.locals) (next n k) ∙ a (suc k) m e) j)
      where
        next : (n k : ℕ) → n + 1 + k ≡ n + suc k
        next n k = omega arith

        this : IsParam g n m
        this = ap (option_and_then (if_inside [])) (ours p f object g i n ∙ ap (slice_get f.locals) (plus_zero n) ∙ a 0 m refl)
          where
            plus_zero : (n : ℕ) → n ≡ n + 0
            plus_zero n = omega arith

        by : (c : Bool) → ((gs : List Given) (h : Grown) → IsOf p f object h → Calm p h (params_given object (n + 1) left ms gs h))
            → Calm p g (if c then params_given object (n + 1) left ms (x ∷ xs) g else params_given object (n + 1) left ms xs (param_given g object n m x))
        by true rest = rest (x ∷ xs) g i
        by false rest = let one : Calm p g (param_given g object n m x) = param-grows g n m this x in calm-then p one (rest xs (param_given g object n m x) (of-kept one.0 f object i))
