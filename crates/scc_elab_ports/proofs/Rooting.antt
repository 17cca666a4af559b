-- One step along a chain of bindings.
use Rattle.std.proofs.Common.{◌≡◌, ℕ, zero, suc, ◌+◌, ◌-◌, ◌<◌, List, [], ◌∷◌, map, length, subst, Option, Some, None, option_map, refl, sym, ap, ◌∙◌, arith}
use Rattle.scc_elab_spec.specs.Grown.{Grown, Bound}
use Rattle.scc_elab_spec.specs.Binding.{bound_of}
use Rattle.scc_elab_spec.specs.After.{root_from}
use Rattle.std.specs.Prelude.{unwrap_or}

pub ends : (g : Grown) (left n : ℕ) → bound_of g n ≡ None → root_from g left n ≡ n
ends g zero n e = refl
ends g (suc left) n e = ap (λ o. unwrap_or (option_map (λ b. root_from g left b.to) o) n) e

step : (g : Grown) (left : ℕ) (n : ℕ) (b : Bound) → bound_of g n ≡ Some b → root_from g (suc left) n ≡ root_from g left b.to
step g left n b e = ap (λ o. unwrap_or (option_map (λ b. root_from g left b.to) o) n) e

pub goes_on : (g : Grown) (len i n : ℕ) (b : Bound) (r : ℕ) → i < len → bound_of g n ≡ Some b → root_from g (len - i) n ≡ r → root_from g (len - (i + 1)) b.to ≡ r
goes_on g len i n b r h e inv =
    let k : len - i ≡ suc (len - (i + 1)) = omega arith in
    sym (ap (λ z. root_from g z n) k ∙ step g (len - (i + 1)) n b e) ∙ inv

map_long : {A B : Type 0} (f : A → B) (xs : List A) → length xs ≡ length (map f xs)
map_long f [] = refl
map_long f (x ∷ xs) = ap suc (map_long f xs)

pub goes_at : {A B : Type 0} (f : A → B) (xs : List A) (ys : List B) (g : Grown) (i n : ℕ) (b : Bound) (r : ℕ) → map f xs ≡ ys → i < length xs → Some b ≡ bound_of g n → root_from g (length ys - i) n ≡ r → root_from g (length ys - (i + 1)) b.to ≡ r
goes_at f xs ys g i n b r e h o inv = goes_on g (length ys) i n b r (subst (λ z. i < z) (map_long f xs ∙ ap length e) h) (sym o) inv
