-- What a walk does at each statement.
use Rattle.std.proofs.Common.{◌≡◌, refl, arith, ℕ, suc, Bool, true, false, ◌||◌, nat_eq, subst, ap, sym, ◌∙◌, List, [], ◌∷◌, ◌++◌, length, Option, Some, None, Result, Ok, Err}
use Rattle.std.specs.Prelude.{IfOk}
use Rattle.scc_base.specs.declared.refusal.Place.{Place}
use Rattle.scc_core.specs.declared.expr.CoreExpr.{CoreExpr}
use Rattle.scc_core.specs.declared.expr.CoreLeft.{CoreLeft}
use Rattle.scc_core.specs.declared.stmt.CoreStmt.{CoreStmt}
use Rattle.scc_core.specs.declared.stmt.CoreNode.TheVariants as node
use Rattle.scc_core.specs.declared.stmt.Count.{Count as Counting}
use Rattle.scc_core.specs.declared.stmt.Pointed.{Pointed as Aimed}
use Rattle.scc_core_spec.specs.Code.{Code, Count, End, If, Block, Loop, append}
use Rattle.scc_core_spec.specs.Static.{Cells, goes}
use Rattle.scc_core_spec.specs.Live.{Alive, alive, by_test, looped, shut}
use Rattle.scc_core_view.specs.Codes.{code_of, counted}
use Rattle.scc_core_view.specs.Terms.{term_of}
use Rattle.scc_core_view.proofs.Layers.{assigns, tests, blocks, loops, exits, waits, aims}
use Rattle.scc_core_flow.specs.Live.{left_by, Walked, loop_code}
use Rattle.scc_core_flow.proofs.Alive.{made, then_none, code_joins, left_more, left_last, left_none}

-- a statement behind others
more : (out now : List CoreStmt) (s : CoreStmt) (c : Code) → code_of (s ∷ []) ≡ c → now ≡ out ++ s ∷ [] → code_of now ≡ append (code_of out) c
more out now s c is h = ap code_of h ∙ code_joins out (s ∷ []) ∙ ap (append (code_of out)) is

pub adds_if : (p : Place) (t : CoreExpr) (a b out now : List CoreStmt) → now ≡ out ++ record { place = p; node = node.If t a b } ∷ []
    → code_of now ≡ append (code_of out) (If p (term_of t) (code_of a) (code_of b) End)
adds_if p t a b out now h = more out now _ _ (tests (record { place = p; node = node.If t a b }) t a b refl End) h

pub adds_block : (p : Place) (b out now : List CoreStmt) → now ≡ out ++ record { place = p; node = node.Block b } ∷ [] → code_of now ≡ append (code_of out) (Block p (code_of b) End)
adds_block p b out now h = more out now _ _ (blocks (record { place = p; node = node.Block b }) b refl End) h

pub adds_loop : (p : Place) (n : Option Counting) (b out now : List CoreStmt) → now ≡ out ++ record { place = p; node = node.Loop n b } ∷ []
    → code_of now ≡ append (code_of out) (Loop p (counted n) (code_of b) End)
adds_loop p n b out now h = more out now _ _ (loops (record { place = p; node = node.Loop n b }) n b refl End) h

pub adds_body : (b out now : List CoreStmt) → now ≡ out ++ b → code_of now ≡ append (code_of out) (code_of b)
adds_body b out now h = ap code_of h ∙ code_joins out b

alive_if : (cs : Cells) (s : CoreStmt) (t : CoreExpr) (a b : List CoreStmt) (way : Option Bool) → s.node ≡ node.If t a b → way ≡ goes cs (term_of t)
    → alive cs (code_of (s ∷ [])) ≡ by_test way s.place (term_of t) (alive cs (code_of a)) (alive cs (code_of b))
alive_if cs s t a b way is g =
    ap (alive cs) (tests s t a b is End)
    ∙ then_none cs (by_test (goes cs (term_of t)) s.place (term_of t) (alive cs (code_of a)) (alive cs (code_of b)))
    ∙ ap (λ o. by_test o s.place (term_of t) (alive cs (code_of a)) (alive cs (code_of b))) (sym g)

alive_block : (cs : Cells) (s : CoreStmt) (b : List CoreStmt) → s.node ≡ node.Block b → alive cs (code_of (s ∷ [])) ≡ shut s.place (alive cs (code_of b))
alive_block cs s b is = ap (alive cs) (blocks s b is End) ∙ then_none cs (shut s.place (alive cs (code_of b)))

alive_loop : (cs : Cells) (s : CoreStmt) (n : Option Counting) (b : List CoreStmt) → s.node ≡ node.Loop n b
    → alive cs (code_of (s ∷ [])) ≡ looped (alive cs (code_of b)).ends s.place (counted n) (alive cs (code_of b))
alive_loop cs s n b is = ap (alive cs) (loops s n b is End)

-- what holds of each answer
pub each_ok : {A E : Type 0} (P Q : A → Type 0) (r : Result A E) → IfOk r P → ((a : A) → P a → Q a) → IfOk r Q
each_ok P Q (Ok a) p f = f a p
each_ok P Q (Err e) p f = p

pub both_ok : {A E : Type 0} (P Q R : A → Type 0) (r : Result A E) → IfOk r P → IfOk r Q → ((a : A) → P a → Q a → R a) → IfOk r R
both_ok P Q R (Ok a) p q f = f a p q
both_ok P Q R (Err e) p q f = p

-- one of the branches
pub walks_yes : (cs : Cells) (s : CoreStmt) (t : CoreExpr) (a b ys : List CoreStmt) (e : Bool) (out now : List CoreStmt) (left flags : List Bool) → s.node ≡ node.If t a b → Some true ≡ goes cs (term_of t)
    → ys ≡ a → Walked (alive cs (code_of ys)) e out now left flags → Walked (alive cs (code_of (s ∷ []))) e out now left flags
walks_yes cs s t a b ys e out now left flags is g same w = subst (λ x. Walked x e out now left flags) (ap (λ zs. alive cs (code_of zs)) same ∙ sym (alive_if cs s t a b (Some true) is g)) w

pub walks_no : (cs : Cells) (s : CoreStmt) (t : CoreExpr) (a b ys : List CoreStmt) (e : Bool) (out now : List CoreStmt) (left flags : List Bool) → s.node ≡ node.If t a b → Some false ≡ goes cs (term_of t)
    → ys ≡ b → Walked (alive cs (code_of ys)) e out now left flags → Walked (alive cs (code_of (s ∷ []))) e out now left flags
walks_no cs s t a b ys e out now left flags is g same w = subst (λ x. Walked x e out now left flags) (ap (λ zs. alive cs (code_of zs)) same ∙ sym (alive_if cs s t a b (Some false) is g)) w

two_parts : (p : Place) (t : CoreExpr) (x y : Alive) (d e r : Bool) (xs ys out now : List CoreStmt) (left half flags : List Bool)
    → Walked x d [] xs left half → Walked y e [] ys half flags → code_of now ≡ append (code_of out) (If p (term_of t) (code_of xs) (code_of ys) End) → r ≡ (d || e)
    → Walked (by_test None p (term_of t) x y) r out now left flags
two_parts p t x y d e r xs ys out now left half flags v w is told = record {
  code = is ∙ ap (λ c. append (code_of out) (If p (term_of t) c (code_of ys) End)) v.code ∙ ap (λ c. append (code_of out) (If p (term_of t) x.code c End)) w.code;
  told = told ∙ ap (λ b. b || e) v.told ∙ ap (λ b. x.ends || b) w.told;
  marks = w.marks ∙ ap (left_by y.leaves) v.marks ∙ left_more x.leaves y.leaves left;
}

pub walks_both : (cs : Cells) (s : CoreStmt) (t u : CoreExpr) (a b ys zs : List CoreStmt) (d e r : Bool) (xs vs out now : List CoreStmt) (left half flags : List Bool) → s.node ≡ node.If t a b → None ≡ goes cs (term_of t)
    → u ≡ t → ys ≡ a → zs ≡ b
    → Walked (alive cs (code_of ys)) d [] xs left half → Walked (alive cs (code_of zs)) e [] vs half flags
    → code_of now ≡ append (code_of out) (If s.place (term_of u) (code_of xs) (code_of vs) End) → r ≡ (d || e)
    → Walked (alive cs (code_of (s ∷ []))) r out now left flags
walks_both cs s t u a b ys zs d e r xs vs out now left half flags is g copied same other v w c told =
    subst (λ x. Walked x r out now left flags) (sym (alive_if cs s t a b None is g))
    (two_parts s.place t _ _ d e r xs vs out now left half flags
    (subst (λ q. Walked (alive cs (code_of q)) d [] xs left half) same v)
    (subst (λ q. Walked (alive cs (code_of q)) e [] vs half flags) other w)
    (c ∙ ap (λ q. append (code_of out) (If s.place (term_of q) (code_of xs) (code_of vs) End)) copied) told)

abbrev tail : {A : Type 0} → List A → List A
tail [] = []
tail (x ∷ xs) = xs

abbrev head : {A : Type 0} → A → List A → A
head d [] = d
head d (x ∷ xs) = x

not_none : (n : ℕ) → 0 ≡ suc n → ⊥
not_none n h = omega arith

never_empty : {A : Type 0} (xs : List A) (x : A) → [] ≡ xs ++ x ∷ [] → ⊥
never_empty [] x h = not_none 0 (ap length h)
never_empty (y ∷ ys) x h = not_none (length (ys ++ x ∷ [])) (ap length h)

same_front : {A : Type 0} (xs ys : List A) (x y : A) → xs ++ x ∷ [] ≡ ys ++ y ∷ [] → (xs ≡ ys) × (x ≡ y)
same_front [] [] x y h = (refl, ap (head x) h)
same_front [] (z ∷ zs) x y h = absurd (never_empty zs y (ap tail h))
same_front (w ∷ ws) [] x y h = absurd (never_empty ws x (sym (ap tail h)))
same_front (w ∷ ws) (z ∷ zs) x y h =
    let rest = same_front ws zs x y (ap tail h) in
    (ap (λ v. v ∷ ws) (ap (head w) h) ∙ ap (λ vs. z ∷ vs) rest.0, rest.1)

in_block : (p : Place) (x : Alive) (e b r : Bool) (xs out now : List CoreStmt) (left pushed popped flags : List Bool)
    → pushed ≡ left ++ false ∷ [] → Walked x e [] xs pushed popped → popped ≡ flags ++ b ∷ []
    → code_of now ≡ append (code_of out) (Block p (code_of xs) End) → r ≡ (e || b) → Walked (shut p x) r out now left flags
in_block p x e b r xs out now left pushed popped flags is w pops c told =
    let q = same_front flags (left_by (λ n. x.leaves (suc n)) left) b (x.leaves 0) (sym pops ∙ w.marks ∙ ap (left_by x.leaves) is ∙ left_last x.leaves left false) in
    record {
      code = c ∙ ap (λ d. append (code_of out) (Block p d End)) w.code;
      told = told ∙ ap (λ d. d || b) w.told ∙ ap (λ d. x.ends || d) q.1;
      marks = q.0;
    }

pub walks_block : (cs : Cells) (s : CoreStmt) (inner ys : List CoreStmt) (e b r : Bool) (xs out now : List CoreStmt) (left pushed popped flags : List Bool) → s.node ≡ node.Block inner
    → ys ≡ inner → pushed ≡ left ++ false ∷ [] → Walked (alive cs (code_of ys)) e [] xs pushed popped → popped ≡ flags ++ b ∷ []
    → code_of now ≡ append (code_of out) (Block s.place (code_of xs) End) → r ≡ (e || b) → Walked (alive cs (code_of (s ∷ []))) r out now left flags
walks_block cs s inner ys e b r xs out now left pushed popped flags is same h w pops c told =
    subst (λ x. Walked x r out now left flags) (sym (alive_block cs s inner is))
    (in_block s.place _ e b r xs out now left pushed popped flags h (subst (λ q. Walked (alive cs (code_of q)) e [] xs pushed popped) same w) pops c told)

in_loop : (p : Place) (n : Option Count) (x : Alive) (e : Bool) (xs out now : List CoreStmt) (left flags : List Bool) → Walked x e [] xs left flags → code_of now ≡ append (code_of out) (loop_code e p n (code_of xs))
    → Walked (looped e p n x) false out now left flags
in_loop p n x true xs out now left flags w c = record { code = c ∙ ap (λ d. append (code_of out) (Loop p n d End)) w.code; told = refl; marks = w.marks }
in_loop p n x false xs out now left flags w c = record { code = c ∙ ap (append (code_of out)) w.code; told = w.told; marks = w.marks }

pub walks_loop : (cs : Cells) (s : CoreStmt) (n : Option Counting) (inner ys : List CoreStmt) (e r : Bool) (xs out now : List CoreStmt) (left flags : List Bool) → s.node ≡ node.Loop n inner
    → ys ≡ inner → Walked (alive cs (code_of ys)) e [] xs left flags → code_of now ≡ append (code_of out) (loop_code e s.place (counted n) (code_of xs)) → r ≡ false → Walked (alive cs (code_of (s ∷ []))) r out now left flags
walks_loop cs s n inner ys e r xs out now left flags is same walked c stays_out =
    let w : Walked (alive cs (code_of inner)) e [] xs left flags = subst (λ q. Walked (alive cs (code_of q)) e [] xs left flags) same walked in
    let h = sym (alive_loop cs s n inner is) in
    subst (λ x. Walked x r out now left flags) h
    (subst (λ b. Walked (looped b s.place (counted n) (alive cs (code_of inner))) r out now left flags) w.told
    (subst (λ b. Walked (looped e s.place (counted n) (alive cs (code_of inner))) b out now left flags) (sym stays_out) (in_loop s.place (counted n) _ e xs out now left flags w c)))

-- a statement that stays
stays : (s : CoreStmt) (x : Alive) (e : Bool) (f : ℕ → Bool) (out now : List CoreStmt) (left flags : List Bool) → x ≡ made (code_of (s ∷ [])) e f → now ≡ out ++ s ∷ [] → flags ≡ left_by f left → Walked x e out now left flags
stays s x e f out now left flags is more marks = record {
  code = ap code_of more ∙ code_joins out (s ∷ []) ∙ ap (λ y. append (code_of out) y.code) (sym is);
  told = ap (λ y. y.ends) (sym is);
  marks = marks ∙ ap (λ y. left_by y.leaves left) (sym is);
}

pub walks_exit : (cs : Cells) (s : CoreStmt) (n : ℕ) (out now : List CoreStmt) (left flags : List Bool) → s.node ≡ node.Exit n → now ≡ out ++ s ∷ [] → flags ≡ left_by (λ m. nat_eq m n) left
    → Walked (alive cs (code_of (s ∷ []))) false out now left flags
walks_exit cs s n out now left flags is more marks =
    stays s _ false (λ m. nat_eq m n) out now left flags (ap (alive cs) (exits s n is End) ∙ ap (λ c. made c false (λ m. nat_eq m n)) (sym (exits s n is End))) more marks

stays_put : (cs : Cells) (s : CoreStmt) (l : CoreLeft) (e : CoreExpr) → s.node ≡ node.Assign l e → alive cs (code_of (s ∷ [])) ≡ made (code_of (s ∷ [])) true (λ n. false)
stays_put cs s l e is = ap (alive cs) (assigns s l e is End) ∙ ap (λ c. made c true (λ n. false)) (sym (assigns s l e is End))

stays_wait : (cs : Cells) (s : CoreStmt) (n : ℕ) → s.node ≡ node.Wait n → alive cs (code_of (s ∷ [])) ≡ made (code_of (s ∷ [])) true (λ n. false)
stays_wait cs s n is = ap (alive cs) (waits s n is End) ∙ ap (λ c. made c true (λ n. false)) (sym (waits s n is End))

stays_aim : (cs : Cells) (s : CoreStmt) (to : Aimed) (l : CoreLeft) → s.node ≡ node.Alias to l → alive cs (code_of (s ∷ [])) ≡ made (code_of (s ∷ [])) true (λ n. false)
stays_aim cs s to l is = ap (alive cs) (aims s to l is End) ∙ ap (λ c. made c true (λ n. false)) (sym (aims s to l is End))

pub walks_put : (cs : Cells) (s : CoreStmt) (l : CoreLeft) (e : CoreExpr) (out now : List CoreStmt) (left flags : List Bool) → s.node ≡ node.Assign l e → now ≡ out ++ s ∷ [] → flags ≡ left
    → Walked (alive cs (code_of (s ∷ []))) true out now left flags
walks_put cs s l e out now left flags is more same = stays s _ true (λ n. false) out now left flags (stays_put cs s l e is) more (same ∙ sym (left_none left))

pub walks_wait : (cs : Cells) (s : CoreStmt) (n : ℕ) (out now : List CoreStmt) (left flags : List Bool) → s.node ≡ node.Wait n → now ≡ out ++ s ∷ [] → flags ≡ left
    → Walked (alive cs (code_of (s ∷ []))) true out now left flags
walks_wait cs s n out now left flags is more same = stays s _ true (λ n. false) out now left flags (stays_wait cs s n is) more (same ∙ sym (left_none left))

pub walks_aim : (cs : Cells) (s : CoreStmt) (to : Aimed) (l : CoreLeft) (out now : List CoreStmt) (left flags : List Bool) → s.node ≡ node.Alias to l → now ≡ out ++ s ∷ [] → flags ≡ left
    → Walked (alive cs (code_of (s ∷ []))) true out now left flags
walks_aim cs s to l out now left flags is more same = stays s _ true (λ n. false) out now left flags (stays_aim cs s to l is) more (same ∙ sym (left_none left))

-- a copy of a statement that stays
pub puts_copy : (s x : CoreStmt) (out now : List CoreStmt) → now ≡ out ++ x ∷ [] → x ≡ s → now ≡ out ++ s ∷ []
puts_copy s x out now h same = h ∙ ap (λ y. out ++ y ∷ []) same
