-- What a turn does to the stack of statements.
use Rattle.std.proofs.Common.{◌≡◌, ◌∙◌, ℕ, List, [], ◌∷◌, ◌++◌, Option, Some, None, refl, ap, sym, map, option_and_then}
use Rattle.scc_plain_tree.specs.declared.stmt.PlainStmt.{PlainStmt}
use Rattle.scc_plain_tree.specs.declared.program.Plain.{Plain}
use Rattle.scc_plain_tree.specs.declared.program.PlainFunction.{PlainFunction}
use Rattle.scc_plain_look.specs.Pending.{Later, pending}
use Rattle.scc_plain_look.specs.Steps.{seen, seen_each, here}

one_by_one : (o : Option (List ℕ)) (g h : List ℕ → Option (List ℕ)) → option_and_then h (option_and_then g o) ≡ option_and_then (λ c. option_and_then h (g c)) o
one_by_one None g h = refl
one_by_one (Some c) g h = refl

pub stays : (o : Option (List ℕ)) → option_and_then (λ c. Some c) o ≡ o
stays None = refl
stays (Some c) = refl

two : (o : Option (List ℕ)) (f g h : List ℕ → Option (List ℕ)) → ((c : List ℕ) → f c ≡ option_and_then h (g c)) → option_and_then f o ≡ option_and_then (λ c. option_and_then h (g c)) o
two None f g h e = refl
two (Some c) f g h e = e c

three : (o : Option (List ℕ)) (f g h k : List ℕ → Option (List ℕ)) → ((c : List ℕ) → f c ≡ option_and_then (λ c. option_and_then k (h c)) (g c))
    → option_and_then f o ≡ option_and_then k (option_and_then h (option_and_then g o))
three None f g h k e = refl
three (Some c) f g h k e = e c ∙ sym (one_by_one (g c) h k)

pub push_by : {A : Type 0} (g : A → Later) (p : Plain) (f : PlainFunction) (ts : List A) (t : A) (calls : List ℕ)
    → pending p f (map g (ts ++ t ∷ [])) calls ≡ option_and_then (pending p f (map g ts)) (seen_each p f (g t).list (g t).depth calls)
push_by g p f [] t calls = sym (stays (seen_each p f (g t).list (g t).depth calls))
push_by g p f (u ∷ ts) t calls =
    ap (option_and_then (seen_each p f (g u).list (g u).depth)) (push_by g p f ts t calls)
    ∙ one_by_one (seen_each p f (g t).list (g t).depth calls) (pending p f (map g ts)) (seen_each p f (g u).list (g u).depth)

-- a statement is gone through: those behind it, and those in it, are still to come
pub turned_by : {A : Type 0} (g : A → Later) (p : Plain) (f : PlainFunction) (ts : List A) (task a b d : A) (s : PlainStmt) (calls calls' : List ℕ)
    → (g task).list ≡ s ∷ (g a).list → (g a).depth ≡ (g task).depth
    → here p f (seen p f s) (g task).depth calls ≡ Some calls'
    → (seen p f s).inner (g task).depth calls' ≡ option_and_then (seen_each p f (g b).list (g b).depth) (seen_each p f (g d).list (g d).depth calls')
    → pending p f (map g (((ts ++ a ∷ []) ++ b ∷ []) ++ d ∷ [])) calls' ≡ pending p f (map g (ts ++ task ∷ [])) calls
turned_by g p f ts task a b d s calls calls' l i h k =
    let after : List ℕ → Option (List ℕ) = seen_each p f (g a).list (g task).depth in
    let inner : List ℕ → Option (List ℕ) = (seen p f s).inner (g task).depth in
    let left :
    pending p f (map g (((ts ++ a ∷ []) ++ b ∷ []) ++ d ∷ [])) calls'
    ≡ option_and_then (pending p f (map g ts)) (option_and_then (seen_each p f (g a).list (g a).depth) (option_and_then (seen_each p f (g b).list (g b).depth) (seen_each p f (g d).list (g d).depth calls'))) =
    push_by g p f ((ts ++ a ∷ []) ++ b ∷ []) d calls'
    ∙ three (seen_each p f (g d).list (g d).depth calls') (pending p f (map g ((ts ++ a ∷ []) ++ b ∷ []))) (seen_each p f (g b).list (g b).depth) (seen_each p f (g a).list (g a).depth) (pending p f (map g ts))
    (λ c. push_by g p f (ts ++ a ∷ []) b c ∙ two (seen_each p f (g b).list (g b).depth c) (pending p f (map g (ts ++ a ∷ []))) (seen_each p f (g a).list (g a).depth) (pending p f (map g ts)) (λ c. push_by g p f ts a c)) in
    let same : seen_each p f (g task).list (g task).depth calls ≡ option_and_then (seen_each p f (g a).list (g a).depth) (option_and_then (seen_each p f (g b).list (g b).depth) (seen_each p f (g d).list (g d).depth calls')) =
    ap (λ x. seen_each p f x (g task).depth calls) l
    ∙ ap (λ o. option_and_then after (option_and_then inner o)) h
    ∙ ap (option_and_then after) k
    ∙ ap (λ n. option_and_then (seen_each p f (g a).list n) (option_and_then (seen_each p f (g b).list (g b).depth) (seen_each p f (g d).list (g d).depth calls'))) (sym i) in
    left ∙ sym (push_by g p f ts task calls ∙ ap (option_and_then (pending p f (map g ts))) same)
