-- The first statement of construction among statements, and among lists of them.
use Rattle.std.proofs.Common.{◌≡◌, ℕ, suc, ◌-◌, ◌≤◌, ◌<◌, length, take, drop, get_or, arith, Ok, Err, List, [], ◌∷◌, ◌++◌, Option, Some, None, ap, refl, sym, ◌∙◌, subst, Bor}
use Rattle.std.specs.Prelude.{Result, IfOk}
use Rattle.scc_base.specs.declared.no_memory.NoMemory.{NoMemory}
use Rattle.scc_base.specs.declared.refusal.Place.{Place}
use Rattle.scc_core_spec.specs.First.{or_else, first_some}
use Rattle.scc_plain_tree.specs.declared.stmt.PlainStmt.{PlainStmt, fold-roll-PlainStmt, ind-PlainStmt}
use Rattle.scc_plain_tree.specs.declared.stmt.PlainNode.{PlainNode, fold-PlainNode, fold-roll-PlainNode}
use Rattle.scc_plain_tree.specs.declared.stmt.PlainNode.TheOpen.{PlainNode-F, PlainStmt-F}
use Rattle.scc_plain_tree.specs.declared.stmt.PlainNode.TheOpen as node
use Rattle.scc_elab_spec.specs.Term.{Term}
use Rattle.scc_elab_spec.specs.Program.{Code, End, Declare, Assign, Point, Write, Call, If, Loop, Block, Exit, Return, Wait, Make, Bind, Process, Sensitive, Quiet, Reset, Count, Function, Plain}
use Rattle.scc_elab_spec.specs.After.{constructing}
use Rattle.scc_plain_view.specs.Codes.{Node, stmt_node, stmt_step, stmt_code, code_of, before}
use Rattle.scc_elab_checks.specs.Open.{waiting}

-- what stands before is looked at first
pub record Leads (f : Code → Code) : Type 0 where
  pub first : (c : Code) → constructing (f c) ≡ or_else (constructing (f End)) (constructing c)

or_none : (a c : Option Place) → or_else a c ≡ or_else (or_else a None) c
or_none None c = refl
or_none (Some x) c = refl

or_both : (a b c : Option Place) → first_some (a ∷ b ∷ c ∷ []) ≡ or_else (first_some (a ∷ b ∷ None ∷ [])) c
or_both None None None = refl
or_both None None (Some x) = refl
or_both None (Some x) c = refl
or_both (Some x) b c = refl

leads : (y : PlainNode-F Node (Code → Code)) (p : Place) → Leads (stmt_node y p)
leads (node.Declare n) p = record { first = λ c. refl }
leads (node.Assign l e) p = record { first = λ c. refl }
leads (node.Point l t) p = record { first = λ c. refl }
leads (node.Write l e) p = record { first = λ c. refl }
leads (node.Call n f o args) p = record { first = λ c. refl }
leads (node.If t a b) p = record { first = λ c. or_both (constructing (before a End)) (constructing (before b End)) (constructing c) }
leads (node.Loop n b) p = record { first = λ c. or_none (constructing (before b End)) (constructing c) }
leads (node.Block b) p = record { first = λ c. or_none (constructing (before b End)) (constructing c) }
leads (node.Exit n) p = record { first = λ c. refl }
leads (node.Return e) p = record { first = λ c. refl }
leads (node.Wait n) p = record { first = λ c. refl }
leads (node.Make l b args) p = record { first = λ c. refl }
leads (node.Bind l to) p = record { first = λ c. refl }
leads (node.Process t f e) p = record { first = λ c. refl }
leads (node.Sense items) p = record { first = λ c. refl }
leads node.Quiet p = record { first = λ c. refl }
leads (node.Reset s e a) p = record { first = λ c. refl }

abbrev node_fold : PlainNode → Node
node_fold = fold-PlainNode Node (Code → Code) stmt_node stmt_step

pub stmt_leads : (s : PlainStmt) → Leads (stmt_code s)
stmt_leads = ind-PlainStmt (λ n. (p : Place) → Leads (node_fold n p)) (λ s. Leads (stmt_code s))
    (λ x y is p. subst (λ f. Leads (f p)) (sym (fold-roll-PlainNode Node (Code → Code) stmt_node stmt_step x)) (leads _ p))
    (λ x y is. subst (λ f. Leads f) (sym (fold-roll-PlainStmt Node (Code → Code) stmt_node stmt_step x)) (subst (λ n. Leads (node_fold n x.place)) (ap (λ z. z.node) is) (y.node.1 x.place)))

pub first_of_list : (s : PlainStmt) (ss : List PlainStmt) → constructing (code_of (s ∷ ss)) ≡ or_else (constructing (stmt_code s End)) (constructing (code_of ss))
first_of_list s ss = (stmt_leads s).first (code_of ss)

-- the last list comes first
pub waiting_snoc : (ls : List (Bor (List PlainStmt))) (l : Bor (List PlainStmt)) (other : Option Place) → waiting (ls ++ l ∷ []) other ≡ or_else (constructing (code_of l.now)) (waiting ls other)
waiting_snoc [] l other = refl
waiting_snoc (x ∷ ls) l other = waiting_snoc ls l (or_else (constructing (code_of x.now)) other)

or_assoc : (a b c : Option Place) → or_else (or_else a b) c ≡ or_else a (or_else b c)
or_assoc None b c = refl
or_assoc (Some x) b c = refl

or_two : (a b c : Option Place) → or_else a (or_else b c) ≡ or_else (or_else a (or_else b None)) c
or_two None None c = refl
or_two None (Some x) c = refl
or_two (Some x) b c = refl

-- both branches of an `if`, the body of a loop or a block, and a statement with what stands behind it
pub two_lists : (ls : List (Bor (List PlainStmt))) (other one : Bor (List PlainStmt)) → waiting ((ls ++ other ∷ []) ++ one ∷ []) None ≡ or_else (or_else (constructing (code_of one.now)) (or_else (constructing (code_of other.now)) None)) (waiting ls None)
two_lists ls other one = waiting_snoc (ls ++ other ∷ []) one None ∙ ap (or_else (constructing (code_of one.now))) (waiting_snoc ls other None) ∙ or_two (constructing (code_of one.now)) (constructing (code_of other.now)) (waiting ls None)

pub one_list : (ls : List (Bor (List PlainStmt))) (b : Bor (List PlainStmt)) → waiting (ls ++ b ∷ []) None ≡ or_else (or_else (constructing (code_of b.now)) None) (waiting ls None)
one_list ls b = waiting_snoc ls b None ∙ or_none (constructing (code_of b.now)) (waiting ls None)

pub entered : (ls : List (Bor (List PlainStmt))) (r : Bor (List PlainStmt)) (s : PlainStmt) → or_else (constructing (stmt_code s End)) (waiting (ls ++ r ∷ []) None) ≡ or_else (constructing (code_of (s ∷ r.now))) (waiting ls None)
entered ls r s = ap (or_else (constructing (stmt_code s End))) (waiting_snoc ls r None) ∙ sym (or_assoc (constructing (stmt_code s End)) (constructing (code_of r.now)) (waiting ls None))
    ∙ ap (λ z. or_else z (waiting ls None)) (sym (first_of_list s r.now))

pub if_lists : (s : PlainStmt) (one other : List PlainStmt) (ls new : List (Bor (List PlainStmt))) (o y : Bor (List PlainStmt)) → constructing (stmt_code s End) ≡ or_else (constructing (code_of one)) (or_else (constructing (code_of other)) None) → o.now ≡ other → y.now ≡ one
    → new ≡ (ls ++ o ∷ []) ++ y ∷ [] → waiting new None ≡ or_else (constructing (stmt_code s End)) (waiting ls None)
if_lists s one other ls new o y d e f g = ap (λ z. waiting z None) g ∙ two_lists ls o y
    ∙ (λ i. or_else (or_else (constructing (code_of (f i))) (or_else (constructing (code_of (e i))) None)) (waiting ls None)) ∙ ap (λ z. or_else z (waiting ls None)) (sym d)

pub body_lists : (s : PlainStmt) (b : List PlainStmt) (ls new : List (Bor (List PlainStmt))) (o : Bor (List PlainStmt)) → constructing (stmt_code s End) ≡ or_else (constructing (code_of b)) None → o.now ≡ b → new ≡ ls ++ o ∷ []
    → waiting new None ≡ or_else (constructing (stmt_code s End)) (waiting ls None)
body_lists s b ls new o d e g = ap (λ z. waiting z None) g ∙ one_list ls o ∙ ap (λ z. or_else (or_else (constructing (code_of z)) None) (waiting ls None)) e ∙ ap (λ z. or_else z (waiting ls None)) (sym d)

-- a list by its first and the others
take_all : {A : Type 0} (xs : List A) → take (length xs) xs ≡ xs
take_all [] = refl
take_all (x ∷ xs) = ap (λ ys. x ∷ ys) (take_all xs)

pub slice_is : {A : Type 0} (xs : List A) (s : A) → 1 ≤ length xs → s ≡ get_or xs 0 s → s ∷ take (length xs - 1) (drop 1 xs) ≡ xs
slice_is [] s a e = absurd (omega arith)
slice_is (x ∷ xs) s a e = λ i. e i ∷ (ap (λ n. take n xs) (less (length xs)) ∙ take_all xs) i
  where
    less : (n : ℕ) → suc n - 1 ≡ n
    less n = omega arith

empty_list : {A : Type 0} (xs : List A) → length xs < 1 → xs ≡ []
empty_list [] a = refl
empty_list (x ∷ xs) a = absurd (omega arith)

pub only_one : {A : Type 0} (xs : List A) (s : A) → 1 ≤ length xs → s ≡ get_or xs 0 s → length (take (length xs - 1) (drop 1 xs)) < 1 → xs ≡ s ∷ []
only_one xs s a e b = sym (slice_is xs s a e) ∙ ap (λ ys. s ∷ ys) (empty_list (take (length xs - 1) (drop 1 xs)) b)

pub entered_behind : (ls new : List (Bor (List PlainStmt))) (r : Bor (List PlainStmt)) (s : PlainStmt) (list : List PlainStmt) → new ≡ ls ++ r ∷ [] → s ∷ r.now ≡ list
    → or_else (constructing (stmt_code s End)) (waiting new None) ≡ or_else (constructing (code_of list)) (waiting ls None)
entered_behind ls new r s list a e = ap (λ z. or_else (constructing (stmt_code s End)) (waiting z None)) a ∙ entered ls r s ∙ ap (λ z. or_else (constructing (code_of z)) (waiting ls None)) e

pub next_ok : (r : Result (Option Place) NoMemory) (w x y : Option Place) → x ≡ y → IfOk r (λ found. or_else found w ≡ x) → IfOk r (λ found. or_else found w ≡ y)
next_ok (Ok f) w x y e a = a ∙ e
next_ok (Err z) w x y e a = tt
