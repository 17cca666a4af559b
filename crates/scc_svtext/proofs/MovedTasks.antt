-- One task of a stack is done, or replaced by the tasks that it consists of.
use Rattle.std.proofs.Common.{◌≡◌, ◌<◌, ◌+◌, ◌*◌, ℕ, List, [], ◌∷◌, ◌++◌, length, length-append, append_assoc, sym, ap, ◌∙◌, arith}
use Rattle.std.proofs.lemmas.List.{append-nil}
use Rattle.scc_svtext.specs.declared.task.Task.{Task}
use Rattle.scc_svtext.specs.Tasks.{tasks_text, task_text}

tasks_append : (names : List (List ℕ)) (ps qs : List Task) → tasks_text names (ps ++ qs) ≡ tasks_text names qs ++ tasks_text names ps
tasks_append names [] qs = sym (append-nil (tasks_text names qs))
tasks_append names (p ∷ ps) qs = ap (λ t. t ++ task_text names p) (tasks_append names ps qs) ∙ append_assoc (tasks_text names qs) (tasks_text names ps) (task_text names p)

abbrev pub work : List (List ℕ) → List Task → ℕ
work names ps = 8 * length (tasks_text names ps) + length ps

pub record Moved (names : List (List ℕ)) (items : List Task) (start out' : List ℕ) (items' : List Task) : Type 0 where
  pub text : out' ++ tasks_text names items' ≡ start
  pub less : work names items' < work names items

pub moved : (names : List (List ℕ)) (out out' start : List ℕ) (items items0 l items' : List Task) (p : Task)
    → out ++ tasks_text names items ≡ start → items ≡ items0 ++ p ∷ [] → items' ≡ items0 ++ l
    → out' ++ tasks_text names l ≡ out ++ task_text names p → length l + 8 * length out < 1 + 8 * length out' → Moved names items start out' items'
moved names out out' start items items0 l items' p inv top i t fewer =
    let a : tasks_text names items ≡ task_text names p ++ tasks_text names items0 = ap (tasks_text names) top ∙ tasks_append names items0 (p ∷ []) in
    let b : tasks_text names items' ≡ tasks_text names l ++ tasks_text names items0 = ap (tasks_text names) i ∙ tasks_append names items0 l in
    let n : length (tasks_text names items) ≡ length (task_text names p) + length (tasks_text names items0) = ap length a ∙ length-append (task_text names p) (tasks_text names items0) in
    let m : length (tasks_text names items') ≡ length (tasks_text names l) + length (tasks_text names items0) = ap length b ∙ length-append (tasks_text names l) (tasks_text names items0) in
    let z : length out' + length (tasks_text names l) ≡ length out + length (task_text names p) = sym (length-append out' (tasks_text names l)) ∙ ap length t ∙ length-append out (task_text names p) in
    let q : length items ≡ length items0 + 1 = ap length top ∙ length-append items0 (p ∷ []) in
    let r : length items' ≡ length items0 + length l = ap length i ∙ length-append items0 l in
    record {
      text = ap (λ x. out' ++ x) b ∙ sym (append_assoc out' (tasks_text names l) (tasks_text names items0)) ∙ ap (λ x. x ++ tasks_text names items0) t
          ∙ append_assoc out (task_text names p) (tasks_text names items0) ∙ ap (λ x. out ++ x) (sym a) ∙ inv;
      less = omega (arith, n, m, z, q, r, fewer);
    }

-- the first of several parts is begun: what is left of it comes before the others
pub begun : (out out' first rest more : List ℕ) → out' ++ rest ≡ out ++ first → out' ++ (rest ++ more) ≡ out ++ (first ++ more)
begun out out' first rest more h = sym (append_assoc out' rest more) ∙ ap (λ x. x ++ more) h ∙ append_assoc out first more

pub done : (out out' t : List ℕ) → out' ≡ out ++ t → out' ++ [] ≡ out ++ t
done out out' t h = append-nil out' ∙ h
