-- One part of a stack is printed, or replaced by the parts that it consists of.
use Rattle.std.proofs.Common.{◌≡◌, ◌<◌, ◌+◌, ◌*◌, ℕ, List, [], ◌∷◌, ◌++◌, length, length-append, append_assoc, sym, ap, ◌∙◌, arith}
use Rattle.std.proofs.lemmas.List.{append-nil}
use Rattle.scc_svtext.specs.declared.part.Part.{Part}
use Rattle.scc_svtext.specs.Pending.{pending, part_text}

pending_append : (names : List (List ℕ)) (ps qs : List Part) → pending names (ps ++ qs) ≡ pending names qs ++ pending names ps
pending_append names [] qs = sym (append-nil (pending names qs))
pending_append names (p ∷ ps) qs = ap (λ t. t ++ part_text names p) (pending_append names ps qs) ∙ append_assoc (pending names qs) (pending names ps) (part_text names p)

abbrev pub work : List (List ℕ) → List Part → ℕ
work names ps = 8 * length (pending names ps) + length ps

pub record Moved (names : List (List ℕ)) (items : List Part) (start out' : List ℕ) (items' : List Part) : Type 0 where
  pub text : out' ++ pending names items' ≡ start
  pub less : work names items' < work names items

pub moved : (names : List (List ℕ)) (out printed out' start : List ℕ) (items items0 l items' : List Part) (p : Part)
    → out ++ pending names items ≡ start → items ≡ items0 ++ p ∷ [] → out' ≡ out ++ printed → items' ≡ items0 ++ l
    → printed ++ pending names l ≡ part_text names p → length l < 1 + 8 * length printed → Moved names items start out' items'
moved names out printed out' start items items0 l items' p inv top o i t fewer =
    let a : pending names items ≡ part_text names p ++ pending names items0 = ap (pending names) top ∙ pending_append names items0 (p ∷ []) in
    let b : pending names items' ≡ pending names l ++ pending names items0 = ap (pending names) i ∙ pending_append names items0 l in
    let n : length (pending names items) ≡ length printed + length (pending names l) + length (pending names items0) =
    ap length a ∙ length-append (part_text names p) (pending names items0) ∙ ap (λ k. k + length (pending names items0)) (ap length (sym t) ∙ length-append printed (pending names l)) in
    let m : length (pending names items') ≡ length (pending names l) + length (pending names items0) = ap length b ∙ length-append (pending names l) (pending names items0) in
    let q : length items ≡ length items0 + 1 = ap length top ∙ length-append items0 (p ∷ []) in
    let r : length items' ≡ length items0 + length l = ap length i ∙ length-append items0 l in
    record {
      text = ap (λ x. x ++ pending names items') o ∙ ap (λ x. (out ++ printed) ++ x) b ∙ append_assoc out printed (pending names l ++ pending names items0)
          ∙ ap (λ x. out ++ x) (sym (append_assoc printed (pending names l) (pending names items0)) ∙ ap (λ x. x ++ pending names items0) t ∙ sym a) ∙ inv;
      less = omega (arith, n, m, q, r, fewer);
    }

pub regrouped : (o a s p t b c : List ℕ) → o ++ (((((a ++ s) ++ p) ++ t) ++ b) ++ c) ≡ (((((o ++ a) ++ s) ++ p) ++ t) ++ b) ++ c
regrouped o a s p t b c = simp append_assoc

pub pushed_twice : {A : Type 0} (items' s items0 k l : List A) → items' ≡ s ++ l → s ≡ items0 ++ k → items' ≡ items0 ++ (k ++ l)
pushed_twice items' s items0 k l e f = e ∙ ap (λ x. x ++ l) f ∙ append_assoc items0 k l
