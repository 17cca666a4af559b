-- Statements are the first of them and the others.
use Rattle.std.proofs.Common.{◌≡◌, refl, sym, ap, subst, ◌∙◌, arith, add-one, ℕ, suc, ◌+◌, ◌-◌, ◌<◌, nat_eq, Bool, true, false, ◌||◌, List, [], ◌∷◌, drop, drop-cons, get_or, length}
use Rattle.std.proofs.lemmas.Bool.Decides.{nat_tests}
use Rattle.std.proofs.lemmas.List.{length-drop}
use Rattle.scc_base.specs.declared.refusal.Place.{Place}
use Rattle.scc_core.specs.declared.stmt.CoreStmt.{CoreStmt, fold-roll-CoreStmt, ind-CoreStmt}
use Rattle.scc_core.specs.declared.stmt.CoreNode.{CoreNode, fold-CoreNode, fold-roll-CoreNode}
use Rattle.scc_core.specs.declared.stmt.CoreNode.TheOpen.{CoreNode-F}
use Rattle.scc_core.specs.declared.stmt.CoreNode.TheOpen as node
use Rattle.scc_core_spec.specs.Code.{Code, End, size, holds_wait}
use Rattle.scc_core_spec.specs.Counted.{is_end, is_it, own_at, times, uses}
use Rattle.scc_core_spec.specs.Static.{Cells}
use Rattle.scc_core_view.specs.Terms.{taken_of}
use Rattle.scc_core_view.specs.Codes.{Node, stmt_node, stmt_step, stmt_code, code_of, before}
use Rattle.scc_unroll_laws.specs.Heads.{has_loops, head_size}

pub record Heads (f : Code → Code) : Type 0 where
  pub sizes : (c : Code) → size (f c) ≡ head_size (f End) + size c
  pub waiting : (c : Code) → holds_wait (f c) ≡ (holds_wait (f End) || holds_wait c)
  pub looping : (c : Code) → has_loops (f c) ≡ (has_loops (f End) || has_loops c)
  pub goes_on : (c : Code) → is_end (f c) ≡ false
  pub using : (cs : Cells) (o : ℕ) (c : Code) → uses cs o (f c) ≡ uses cs o (f End) + uses cs o c

around_one : (a n : ℕ) → 1 + (a + n) ≡ (1 + a) + n
around_one a n = omega arith

around_two : (a b n : ℕ) → 1 + (a + (b + n)) ≡ (1 + (a + b)) + n
around_two a b n = omega arith

or_behind : (a c : Bool) → (a || c) ≡ ((a || false) || c)
or_behind true c = refl
or_behind false c = refl

or_behind_two : (a b c : Bool) → (a || (b || c)) ≡ ((a || (b || false)) || c)
or_behind_two true b c = refl
or_behind_two false true c = refl
or_behind_two false false c = refl

beside_none : (a n : ℕ) → a + n ≡ (a + 0) + n
beside_none a n = omega arith

alone : (n : ℕ) → n ≡ 0 + n
alone n = omega arith

beside_two : (a b n : ℕ) → a + (b + n) ≡ (a + (b + 0)) + n
beside_two a b n = omega arith

heads : (y : CoreNode-F Node (Code → Code)) (p : Place) → Heads (stmt_node y p)
heads (node.Assign l e) p = record { sizes = λ c. refl; waiting = λ c. refl; looping = λ c. refl; goes_on = λ c. refl; using = λ cs o c. beside_none (times 1 (is_it o (own_at cs (taken_of l).left))) (uses cs o c) }
heads (node.If t a b) p = record {
  sizes = λ c. around_two (size (before a End)) (size (before b End)) (size c);
  waiting = λ c. or_behind_two (holds_wait (before a End)) (holds_wait (before b End)) (holds_wait c);
  looping = λ c. or_behind_two (has_loops (before a End)) (has_loops (before b End)) (has_loops c);
  goes_on = λ c. refl;
  using = λ cs o c. beside_two (uses cs o (before a End)) (uses cs o (before b End)) (uses cs o c);
}
heads (node.Block b) p = record {
  sizes = λ c. around_one (size (before b End)) (size c);
  waiting = λ c. or_behind (holds_wait (before b End)) (holds_wait c);
  looping = λ c. or_behind (has_loops (before b End)) (has_loops c);
  goes_on = λ c. refl;
  using = λ cs o c. beside_none (uses cs o (before b End)) (uses cs o c);
}
heads (node.Loop n b) p = record {
  sizes = λ c. around_one (size (before b End)) (size c);
  waiting = λ c. or_behind (holds_wait (before b End)) (holds_wait c);
  looping = λ c. refl;
  goes_on = λ c. refl;
  using = λ cs o c. beside_none (uses cs o (before b End)) (uses cs o c);
}
heads (node.Exit n) p = record { sizes = λ c. refl; waiting = λ c. refl; looping = λ c. refl; goes_on = λ c. refl; using = λ cs o c. alone (uses cs o c) }
heads (node.Wait n) p = record { sizes = λ c. refl; waiting = λ c. refl; looping = λ c. refl; goes_on = λ c. refl; using = λ cs o c. alone (uses cs o c) }
heads (node.Alias to target) p = record { sizes = λ c. refl; waiting = λ c. refl; looping = λ c. refl; goes_on = λ c. refl; using = λ cs o c. beside_none (times 3 (is_it o (own_at cs (taken_of target).left))) (uses cs o c) }

abbrev node_fold : CoreNode → Node
node_fold = fold-CoreNode Node (Code → Code) stmt_node stmt_step

-- what holds of each node before what follows holds of each statement
pub each_stmt : (P : (Code → Code) → Type 0) → ((y : CoreNode-F Node (Code → Code)) (p : Place) → P (stmt_node y p)) → (s : CoreStmt) → P (stmt_code s)
each_stmt P h = ind-CoreStmt (λ n. (p : Place) → P (node_fold n p)) (λ s. P (stmt_code s))
    (λ x y is p. subst (λ f. P (f p)) (sym (fold-roll-CoreNode Node (Code → Code) stmt_node stmt_step x)) (h _ p))
    (λ x y is. subst (λ f. P f) (sym (fold-roll-CoreStmt Node (Code → Code) stmt_node stmt_step x)) (subst (λ n. P (node_fold n x.place)) (ap (λ z. z.node) is) (y.node.1 x.place)))

pub stmt_heads : (s : CoreStmt) → Heads (stmt_code s)
stmt_heads = each_stmt Heads heads

-- ---- from one statement of a list on

pub from_here : (ss : List CoreStmt) (i : ℕ) (s : CoreStmt) → i < length ss → s ≡ get_or ss i s → code_of (drop i ss) ≡ stmt_code s (code_of (drop (i + 1) ss))
from_here ss i s h is =
    ap code_of (drop-cons ss i s h)
    ∙ ap (λ x. stmt_code x (code_of (drop (suc i) ss))) (sym is)
    ∙ ap (λ n. stmt_code s (code_of (drop n ss))) (sym (add-one i))

zero_behind : (n : ℕ) → n + 0 ≡ n
zero_behind n = omega arith

pub head_sized : (s : CoreStmt) → head_size (code_of (s ∷ [])) ≡ size (code_of (s ∷ []))
head_sized s = sym ((stmt_heads s).sizes End ∙ zero_behind (head_size (code_of (s ∷ []))))

never : (n : ℕ) → false ≡ nat_eq (suc n) 0
never n = grind (arith, nat_tests)

pub end_of : (ss : List CoreStmt) → is_end (code_of ss) ≡ nat_eq (length ss) 0
end_of [] = refl
end_of (s ∷ ss) = (stmt_heads s).goes_on (code_of ss) ∙ never (length ss)

module _ (ss : List CoreStmt) (i : ℕ) (s : CoreStmt) (h : i < length ss) (is : s ≡ get_or ss i s) where
  pub size_here : size (code_of (drop i ss)) ≡ size (code_of (s ∷ [])) + size (code_of (drop (i + 1) ss))
  size_here = ap size (from_here ss i s h is) ∙ (stmt_heads s).sizes (code_of (drop (i + 1) ss)) ∙ ap (λ n. n + size (code_of (drop (i + 1) ss))) (head_sized s)

  pub waits_here : holds_wait (code_of (drop i ss)) ≡ (holds_wait (code_of (s ∷ [])) || holds_wait (code_of (drop (i + 1) ss)))
  waits_here = ap holds_wait (from_here ss i s h is) ∙ (stmt_heads s).waiting (code_of (drop (i + 1) ss))

  pub loops_here : has_loops (code_of (drop i ss)) ≡ (has_loops (code_of (s ∷ [])) || has_loops (code_of (drop (i + 1) ss)))
  loops_here = ap has_loops (from_here ss i s h is) ∙ (stmt_heads s).looping (code_of (drop (i + 1) ss))

  pub uses_here : (cs : Cells) (o : ℕ) → uses cs o (code_of (drop i ss)) ≡ uses cs o (code_of (s ∷ [])) + uses cs o (code_of (drop (i + 1) ss))
  uses_here cs o = ap (uses cs o) (from_here ss i s h is) ∙ (stmt_heads s).using cs o (code_of (drop (i + 1) ss))

gone : (i n : ℕ) → i < n → nat_eq (n - (i + 1)) 0 ≡ nat_eq (i + 1) n
gone i n h = grind (arith, nat_tests, h)

-- so many are all of them just where nothing is behind
pub last_is : (ss : List CoreStmt) (i : ℕ) → i < length ss → is_end (code_of (drop (i + 1) ss)) ≡ nat_eq (i + 1) (length ss)
last_is ss i h = end_of (drop (i + 1) ss) ∙ ap (λ n. nat_eq n 0) (length-drop (i + 1) ss) ∙ gone i (length ss) h
