-- Initialisers, statement by statement: whose each is, and which makes it in place.
use Rattle.std.proofs.Common.{◌≡◌, refl, sym, ap, ◌∙◌, subst, arith, ℕ, zero, suc, ◌+◌, ◌-◌, ◌≤◌, drop, take, length, Bool, true, false, List, [], ◌∷◌, map, Option, Some, None, is_some}
use Rattle.scc_base.specs.declared.refusal.Place.{Place}
use Rattle.std.specs.Borrow.{Bor}
use Rattle.scc_plain_tree.specs.declared.stmt.PlainArg.{PlainArg}
use Rattle.scc_plain_tree.specs.declared.stmt.PlainStmt.{PlainStmt, fold-roll-PlainStmt, ind-PlainStmt}
use Rattle.scc_plain_tree.specs.declared.stmt.PlainNode.{PlainNode, fold-PlainNode, fold-roll-PlainNode}
use Rattle.scc_plain_tree.specs.declared.stmt.PlainNode.TheOpen.{PlainNode-F, PlainStmt-F}
use Rattle.scc_plain_tree.specs.declared.stmt.PlainNode.TheOpen as node
use Rattle.scc_elab_spec.specs.Term.{Argument, Left}
use Rattle.scc_elab_spec.specs.Program.{Code, End}
use Rattle.scc_elab_spec.specs.Inits.{belongs, either, first_member, owner, kept_if, inits_of, first_make}
use Rattle.scc_plain_view.specs.Codes.{Node, stmt_node, stmt_step, stmt_code, code_of}
use Rattle.scc_plain_view.specs.Terms.{left_of, taken_of}
use Rattle.scc_elab_inits.specs.Makes.{args_in, or_args}

pub alone : (m : Option ℕ) → m ≡ either m None
alone None = refl
alone (Some n) = refl

either_then : (m n : Option ℕ) → either m n ≡ either (either m None) n
either_then None n = refl
either_then (Some k) n = refl

record Owns (f : Code → Code) : Type 0 where
  own : (r : Code) → owner (f r) ≡ either (owner (f End)) (owner r)
  inits : (m : Option ℕ) (r : Code) → inits_of m (f r) ≡ kept_if (belongs m (owner (f r))) f (inits_of m r)
  made : (r : Code) → first_make (f r) ≡ or_args (first_make (f End)) (first_make r)

owns : (y : PlainNode-F Node (Code → Code)) (p : Place) → Owns (stmt_node y p)
owns (node.Declare k) p = record { own = λ r. refl; inits = λ m r. refl; made = λ r. refl }
owns (node.Assign l e) p = record { own = λ r. either_then (first_member (taken_of l).left) (owner r); inits = λ m r. refl; made = λ r. refl }
owns (node.Point l x) p = record { own = λ r. either_then (first_member (left_of l)) (owner r); inits = λ m r. refl; made = λ r. refl }
owns (node.Write l e) p = record { own = λ r. refl; inits = λ m r. refl; made = λ r. refl }
owns (node.Call k f o args) p = record { own = λ r. refl; inits = λ m r. refl; made = λ r. refl }
owns (node.If e a b) p = record { own = λ r. refl; inits = λ m r. refl; made = λ r. refl }
owns (node.Loop c b) p = record { own = λ r. refl; inits = λ m r. refl; made = λ r. refl }
owns (node.Block b) p = record { own = λ r. refl; inits = λ m r. refl; made = λ r. refl }
owns (node.Exit d) p = record { own = λ r. refl; inits = λ m r. refl; made = λ r. refl }
owns (node.Return e) p = record { own = λ r. refl; inits = λ m r. refl; made = λ r. refl }
owns (node.Wait k) p = record { own = λ r. refl; inits = λ m r. refl; made = λ r. refl }
owns (node.Make l b args) p = record { own = λ r. either_then (first_member (left_of l)) (owner r); inits = λ m r. refl; made = λ r. refl }
owns (node.Bind l to) p = record { own = λ r. either_then (first_member (left_of l)) (owner r); inits = λ m r. refl; made = λ r. refl }
owns (node.Process x f e) p = record { own = λ r. refl; inits = λ m r. refl; made = λ r. refl }
owns (node.Sense items) p = record { own = λ r. refl; inits = λ m r. refl; made = λ r. refl }
owns node.Quiet p = record { own = λ r. refl; inits = λ m r. refl; made = λ r. refl }
owns (node.Reset x e a) p = record { own = λ r. refl; inits = λ m r. refl; made = λ r. refl }

abbrev node_fold : PlainNode → Node
node_fold = fold-PlainNode Node (Code → Code) stmt_node stmt_step

stmt_owns : (x : PlainStmt) → Owns (stmt_code x)
stmt_owns = ind-PlainStmt (λ n. (p : Place) → Owns (node_fold n p)) (λ s. Owns (stmt_code s))
    (λ x y is p. subst (λ f. Owns (f p)) (sym (fold-roll-PlainNode Node (Code → Code) stmt_node stmt_step x)) (owns _ p))
    (λ x y is. subst (λ f. Owns f) (sym (fold-roll-PlainStmt Node (Code → Code) stmt_node stmt_step x)) (subst (λ n. Owns (node_fold n x.place)) (ap (λ z. z.node) is) (y.node.1 x.place)))

abbrev pub makes_in : ℕ → List PlainStmt → Option (List Argument)
makes_in n z = first_make (inits_of (Some n) (code_of z))

-- the first statement of a list, and those behind it
module _ (x : PlainStmt) (xs all : List PlainStmt) (is : x ∷ xs ≡ all) where
  behind : xs ≡ drop 1 all
  behind = ap (drop 1) is

  pub own_is : (m : Option ℕ) → m ≡ owner (stmt_code x End) → either m (owner (code_of (drop 1 all))) ≡ owner (code_of all)
  own_is m e = ap (λ z. either z (owner (code_of (drop 1 all)))) e ∙ ap (λ z. either (owner (stmt_code x End)) (owner (code_of z))) (sym behind) ∙ sym ((stmt_owns x).own (code_of xs)) ∙ ap (λ z. owner (code_of z)) is

  pub make_is : (n : ℕ) (b : Bool) (o : Option (List Argument)) → b ≡ belongs (Some n) (owner (code_of all)) → b ≡ true → o ≡ first_make (stmt_code x End) → or_args o (makes_in n (drop 1 all)) ≡ makes_in n all
  make_is n b o e t d = ap (λ z. or_args z (makes_in n (drop 1 all))) d ∙ ap (λ z. or_args (first_make (stmt_code x End)) (makes_in n z)) (sym behind) ∙ sym ((stmt_owns x).made (inits_of (Some n) (code_of xs)))
      ∙ ap (λ c. first_make (kept_if c (stmt_code x) (inits_of (Some n) (code_of xs)))) (sym t ∙ e ∙ ap (λ z. belongs (Some n) (owner (code_of z))) (sym is)) ∙ ap first_make (sym ((stmt_owns x).inits (Some n) (code_of xs))) ∙ ap (makes_in n) is

  pub make_not : (n : ℕ) (b : Bool) → b ≡ belongs (Some n) (owner (code_of all)) → b ≡ false → makes_in n (drop 1 all) ≡ makes_in n all
  make_not n b e t = ap (makes_in n) (sym behind)
      ∙ ap (λ c. first_make (kept_if c (stmt_code x) (inits_of (Some n) (code_of xs)))) (sym t ∙ e ∙ ap (λ z. belongs (Some n) (owner (code_of z))) (sym is)) ∙ ap first_make (sym ((stmt_owns x).inits (Some n) (code_of xs))) ∙ ap (makes_in n) is

drop_none : {A : Type 0} (n : ℕ) → drop {A = A} n [] ≡ []
drop_none zero = refl
drop_none (suc n) = refl

pub drop_more : {A : Type 0} (n : ℕ) (xs : List A) → drop 1 (drop n xs) ≡ drop (n + 1) xs
drop_more zero xs = refl
drop_more (suc n) [] = sym (drop_none (suc n + 1))
drop_more (suc n) (x ∷ xs) = let e : suc n + 1 ≡ suc (n + 1) = omega arith in drop_more n xs ∙ ap (λ k. drop k (x ∷ xs)) (sym e)

pub drop_all : {A : Type 0} (xs : List A) → drop (length xs) xs ≡ []
drop_all [] = refl
drop_all (x ∷ xs) = drop_all xs

pub some_is : {A : Type 0} (o : Option A) → is_some o ≡ true → {P : Type 0} → ((a : A) → o ≡ Some a → P) → P
some_is (Some a) e f = f a refl
some_is None e f = cc

pub none_is : {A : Type 0} (o : Option A) → is_some o ≡ false → o ≡ None
none_is None e = refl
none_is (Some a) e = cc

module _ (w : Option ℕ) (i : ℕ) (here all : List PlainStmt) (m : Option ℕ) (e : either m (owner (code_of (drop 1 here))) ≡ owner (code_of here)) (h : here ≡ drop i all) (inv : owner (code_of (drop i all)) ≡ w) where
  pub own_goes : is_some m ≡ false → owner (code_of (drop (i + 1) all)) ≡ w
  own_goes f = ap (λ z. owner (code_of z)) (sym (drop_more i all) ∙ ap (drop 1) (sym h)) ∙ ap (λ z. either z (owner (code_of (drop 1 here)))) (sym (none_is m f)) ∙ e ∙ ap (λ z. owner (code_of z)) h ∙ inv

  pub own_ends : is_some m ≡ true → m ≡ w
  own_ends t = some_is m t (λ k s. s ∙ ap (λ z. either z (owner (code_of (drop 1 here)))) (sym s) ∙ e ∙ ap (λ z. owner (code_of z)) h ∙ inv)
