-- Steps of a trace, one after the other.
use Rattle.std.proofs.Common.{◌≡◌, ℕ, suc, ◌<◌, ◌+◌, Bool, true, false, List, [], ◌∷◌, ◌++◌, map, length, drop, drop-cons, add-one, get_or, append_assoc, refl, sym, ap, ◌∙◌, subst}
use Rattle.scc_svtree.specs.declared.module.SvModule.{SvModule}
use Rattle.scc_svtree.specs.Steps.{StepInput, IsSettledStep, IsEdgeStep, EdgePart}
use Rattle.scc_trace.specs.Cut.{Bytes}
use Rattle.scc_svrun_trace.specs.Trace.{line_of, lines_of, Turned, Appended}

append_nil : (xs : Bytes) → xs ++ [] ≡ xs
append_nil [] = refl
append_nil (x ∷ xs) = ap (λ l. x ∷ l) (append_nil xs)

pub nothing_more : (m : SvModule) (x : ℕ → ℕ) (n : ℕ) (old : Bytes) → Appended m x n [] old old
nothing_more m x n old = record { text = []; shown = record { observed = []; ran = tt; lines = refl }; behind = sym (append_nil old) }

turn_more : (m : SvModule) (x z : ℕ → ℕ) (n : ℕ) (s : StepInput) (rest : List StepInput) (old mid new : Bytes) → Turned m n s x z old mid → Appended m z (n + 1) rest mid new → Appended m x n (s ∷ rest) old new
turn_more m x z n s rest old mid new t a = record {
  text = lines_of m n t.observed ++ a.text;
  shown = record { observed = t.observed ∷ a.shown.observed; ran = (z, t.step, a.shown.ran); lines = ap (λ l. lines_of m n t.observed ++ l) a.shown.lines };
  behind = a.behind ∙ ap (λ o. o ++ a.text) t.lines ∙ append_assoc old (lines_of m n t.observed) a.text;
}

module _ (m : SvModule) (n : ℕ) (s : StepInput) (x y : ℕ → ℕ) (settled : IsSettledStep m s.inputs x y) where
  -- a step without an edge
  pub held : (m₁ : SvModule) (old new : Bytes) → s.has_edge ≡ false → m₁ ≡ m → new ≡ old ++ line_of m₁ n false y → Turned m n s x y old new
  held m₁ old new e f g =
      let P : Bool → Type 0 = λ b. EdgePart b m s.clocks y y [] in
      record {
        observed = y ∷ [];
        step = record { settled = y; first = settled; later = []; second = subst P (sym e) ((λ v. refl), refl); observed = refl };
        lines = g ∙ ap (λ k. old ++ line_of k n false y) f;
      }

  -- one with an edge
  pub edged : (m₁ m₂ : SvModule) (z : ℕ → ℕ) (old mid new : Bytes) → s.has_edge ≡ true → m₁ ≡ m → mid ≡ old ++ line_of m₁ n false y → IsEdgeStep m₁ s.clocks y z → m₂ ≡ m₁
      → new ≡ mid ++ line_of m₂ n true z → Turned m n s x z old new
  edged m₁ m₂ z old mid new e f g h i j =
      let P : Bool → Type 0 = λ b. EdgePart b m s.clocks y z (z ∷ []) in
      let Q : SvModule → Type 0 = λ k. IsEdgeStep k s.clocks y z in
      record {
        observed = y ∷ z ∷ [];
        step = record { settled = y; first = settled; later = z ∷ []; second = subst P (sym e) (subst Q f h, refl); observed = refl };
        lines =
            j ∙ ap (λ k. mid ++ line_of k n true z) (i ∙ f) ∙ ap (λ o. o ++ line_of m n true z) (g ∙ ap (λ k. old ++ line_of k n false y) f)
            ∙ append_assoc old (line_of m n false y) (line_of m n true z);
      }

-- the elements from one on are it and those behind it
pub front : (A : Type 0) (ss : List A) (n : ℕ) (s : A) → n < length ss → s ≡ get_or ss n s → drop n ss ≡ s ∷ drop (n + 1) ss
front A ss n s h is = drop-cons ss n s h ∙ ap (λ d. d ∷ drop (suc n) ss) (sym is) ∙ ap (λ k. s ∷ drop k ss) (sym (add-one n))

-- steps of some form, which for a module are these inputs
module _ (A : Type 0) (input : SvModule → A → StepInput) (ss : List A) (n : ℕ) (s : A) (h : n < length ss) (is : s ≡ get_or ss n s) where
  pub turn_at : (m m₁ : SvModule) (x z : ℕ → ℕ) (old mid new : Bytes) → m₁ ≡ m → Turned m₁ n (input m₁ s) x z old mid → Appended m z (n + 1) (map (input m) (drop (n + 1) ss)) mid new
      → Appended m x n (map (input m) (drop n ss)) old new
  turn_at m m₁ x z old mid new e t a =
      let P : SvModule → Type 0 = λ k. Turned k n (input k s) x z old mid in
      let Q : List A → Type 0 = λ l. Appended m x n (map (input m) l) old new in
      subst Q (sym (front A ss n s h is)) (turn_more m x z n (input m s) (map (input m) (drop (n + 1) ss)) old mid new (subst P e t) a)

-- what is shown of a module whose words are all 0
pub shown_from_zero : (A : Type 0) (input : SvModule → A → StepInput) (m m₁ : SvModule) (x : ℕ → ℕ) (ss ss₁ : List A) (old new : Bytes) → m₁ ≡ m → ((v : ℕ) → x v ≡ 0) → ss₁ ≡ ss
    → Appended m₁ x 0 (map (input m₁) ss₁) old new → Appended m (λ v. 0) 0 (map (input m) ss) old new
shown_from_zero A input m m₁ x ss ss₁ old new e z f a =
    let same : x ≡ (λ v. 0) = λ i v. z v i in
    let P : SvModule → Type 0 = λ k. Appended k x 0 (map (input k) ss₁) old new in
    let Q : (ℕ → ℕ) → Type 0 = λ y. Appended m y 0 (map (input m) ss₁) old new in
    let R : List A → Type 0 = λ l. Appended m (λ v. 0) 0 (map (input m) l) old new in
    subst R f (subst Q same (subst P e a))
