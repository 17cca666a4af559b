-- Chains of operators and whole expressions are read, and what stands between brackets.
use Rattle.std.specs.Prelude.{◌≡◌, ℕ, suc, ◌<◌, ◌≤◌, true, false, List, ◌∷◌, is_some, Ok, Err, refl}
use Rattle.std.proofs.Common.{◌∙◌, ap, arith, lit≤}
use Rattle.scc_base.specs.declared.refusal.Place.{Place}
use Rattle.scc_tree.specs.declared.expr.Expr.{Expr}
use Rattle.scc_tree.specs.declared.expr.Link.{Link}
use Rattle.scc_reading.specs.Reading.{and_then, ◌>>=◌, pure, take_at, repeat}
use Rattle.scc_reading.proofs.Complete.{Is, vthen, vlast, same, passed, turn, last_turn}
use Rattle.scc_grammar_terminals.specs.declared.part.Placed.{Placed}
use Rattle.scc_grammar_spec.specs.Expressions.{ReadsChain, ReadsLinks, ReadsExpr, ReadsNew}
use Rattle.scc_grammar_terminals.specs.First.{begins_expr}
use Rattle.scc_grammar_terminals.specs.Inner.{Inner}
use Rattle.scc_grammar_spec.specs.LevelsOfExpressions.{deep_chain, deep_links, deep_expr, deep_new}
use Rattle.scc_grammar_terminals.specs.Marks as m
use Rattle.scc_grammar_terminals.specs.Names.{Names}
use Rattle.scc_grammar_terminals.specs.Nodes.{link, chain_of}
use Rattle.scc_grammar_terminals.specs.Operators.{sum, every, operator}
use Rattle.scc_grammar_spec.specs.ParseExpressions as e
use Rattle.scc_grammar_terminals.specs.Text.{Text, Parser, Outcome, at, placed_at, next_is, next_says}
use Rattle.scc_grammar_complete.proofs.Follows.{ends, expr_ends, and_left, and_right, not_true, next_not}
use Rattle.scc_grammar_complete.proofs.Firsts.{expr_not_new}
use Rattle.scc_grammar_complete.proofs.OperatorEnds.{operator_ends}
use Rattle.scc_grammar_complete.proofs.CompleteTypes.{Opened, Agains, first_expr, complete_base}
use Rattle.scc_grammar_complete.proofs.CompleteExpressions.{complete_cargs, complete_unary}

ends_links : (names : Names) {k : ℕ} {ts r : Text} {ls : List Link} → ReadsLinks names k ts r ls → ends (suc k) r ≡ true → ends k ts ≡ true
ends_links names (ReadsLinks.no_links) h = and_left _ _ h
ends_links names (ReadsLinks.links {k = k} {w = w} {o = o} {p = p} {a = a} h d ls) g = operator_ends k w o p a h

module _ (names : Names) (i : Inner) (n : ℕ) (C : Opened names i n) (A : Agains names i) where
  -- ---- chains

  abbrev pub chain : ℕ → Parser Placed
  chain k = e.unary names i >>= λ u. e.chain_after names i k u.place u.of >>= λ of. pure (e.placed u.place of)

  -- what goes on behind a chain
  behind_chain : {B : Type 0} (k : ℕ) (f : Place → Expr → Parser B) (ts : Text) → and_then (e.unary names i ts) (λ u. e.chain_after names i k u.place u.of >>= f u.place) ≡ and_then (chain k ts) (λ q. f q.place q.of)
  behind_chain {B} k f ts = go (e.unary names i ts)
    where
      at_end : (u : Placed) (o : Outcome Expr) → and_then o (f u.place) ≡ and_then (and_then o (λ of. pure (e.placed u.place of))) (λ q. f q.place q.of)
      at_end u (Ok x) = refl
      at_end u (Err x) = refl

      go : (o : Outcome Placed) → and_then o (λ u. e.chain_after names i k u.place u.of >>= f u.place) ≡ and_then (and_then o (λ u. e.chain_after names i k u.place u.of >>= λ of. pure (e.placed u.place of))) (λ q. f q.place q.of)
      go (Ok u) = at_end u.0 (e.chain_after names i k u.0.place u.0.of u.1)
      go (Err x) = refl

  abbrev linked : (k : ℕ) → Place → Expr → Parser Expr
  linked k p low = repeat (next_says (operator k)) (e.link_of names i k) >>= λ ls. pure (chain_of p low ls)

  abbrev linked_placed : (k : ℕ) → Placed → Parser Placed
  linked_placed k q = repeat (next_says (operator k)) (e.link_of names i k) >>= λ ls. pure (e.placed q.place (chain_of q.place q.of ls))

  chain_suc : (k : ℕ) (ts : Text) → chain (suc k) ts ≡ and_then (chain k ts) (linked_placed k)
  unfolding e.chain_after
  chain_suc k ts = go (e.unary names i ts)
    where
      last : (p : Place) (low : Expr) (o : Outcome (List Link)) → and_then (and_then o (λ ls. pure (chain_of p low ls))) (λ of. pure (e.placed p of)) ≡ and_then o (λ ls. pure (e.placed p (chain_of p low ls)))
      last p low (Ok x) = refl
      last p low (Err x) = refl

      middle : (u : Placed) (o : Outcome Expr) → and_then (and_then o (linked k u.place)) (λ of. pure (e.placed u.place of)) ≡ and_then (and_then o (λ of. pure (e.placed u.place of))) (linked_placed k)
      middle u (Ok x) = last u.place x.0 (repeat (next_says (operator k)) (e.link_of names i k) x.1)
      middle u (Err x) = refl

      go : (o : Outcome Placed) → and_then o (λ u. (e.chain_after names i k u.place u.of >>= linked k u.place) >>= λ of. pure (e.placed u.place of)) ≡ and_then (and_then o (λ u. e.chain_after names i k u.place u.of >>= λ of. pure (e.placed u.place of))) (linked_placed k)
      go (Ok u) = middle u.0 (e.chain_after names i k u.0.place u.0.of u.1)
      go (Err x) = refl

  mutual
    unfolding deep_chain deep_links e.chain_after

    pub complete_chain : {k : ℕ} {p : Place} {ts r : Text} {of : Expr} (d : ReadsChain names k p ts r of) → k ≤ every → ends k r ≡ true → Is (chain k ts) (deep_chain names n d) (e.placed p of) r
    complete_chain (ReadsChain.operand d) l h = vlast _ (complete_unary names i n C A d h) refl
    complete_chain (ReadsChain.chain {k = k} {ts = ts} d ls) l h = same (chain_suc k ts) (vthen _ (complete_chain d (omega arith) (ends_links names ls h)) (vlast _ (complete_links ls (omega arith) h) refl))

    complete_links : {k : ℕ} {ts r : Text} {ls : List Link} (d : ReadsLinks names k ts r ls) → k < every → ends (suc k) r ≡ true → Is (repeat (next_says (operator k)) (e.link_of names i k) ts) (deep_links names n d) ls r
    complete_links (ReadsLinks.no_links {k = k} {r = r}) l h = last_turn _ _ r (A.links k l) (not_true _ (and_right _ _ h))
    complete_links (ReadsLinks.links {k = k} {w = w} {o = o} {p = p} {a = a} g d ls) l h =
        turn _ _ (at w p ∷ a) (A.links k l) (ap is_some g)
        (same (ap (λ q. and_then (take_at (placed_at q p) (at w p) a) (λ o. e.unary names i >>= λ u. e.chain_after names i k u.place u.of >>= λ of. pure (link o.0 o.1 of))) g ∙ behind_chain k (λ _ of. pure (link o p of)) a) (vlast _ (complete_chain d (omega arith) (ends_links names ls h)) refl))
        (complete_links ls l h)

  additive_of : (ts : Text) → e.additive names i ts ≡ and_then (chain sum ts) (λ q. pure q.of)
  unfolding e.additive
  additive_of ts = go (e.unary names i ts)
    where
      at_end : (u : Placed) (o : Outcome Expr) → o ≡ and_then (and_then o (λ of. pure (e.placed u.place of))) (λ q. pure q.of)
      at_end u (Ok x) = refl
      at_end u (Err x) = refl

      go : (o : Outcome Placed) → and_then o (λ u. e.chain_after names i sum u.place u.of) ≡ and_then (and_then o (λ u. e.chain_after names i sum u.place u.of >>= λ of. pure (e.placed u.place of))) (λ q. pure q.of)
      go (Ok u) = at_end u.0 (e.chain_after names i sum u.0.place u.0.of u.1)
      go (Err x) = refl

  pub complete_additive : {p : Place} {ts r : Text} {of : Expr} (d : ReadsChain names sum p ts r of) → ends sum r ≡ true → Is (e.additive names i ts) (deep_chain names n d) of r
  complete_additive {ts = ts} d h = same (additive_of ts) (vlast _ (complete_chain d (lit≤ tt) h) refl)

  expr_of_chain : (ts : Text) → e.expr names i ts ≡ and_then (chain every ts) (λ q. e.choice_after names i q.place q.of)
  unfolding e.expr e.expr_after
  expr_of_chain ts = behind_chain every (e.choice_after names i) ts

  pub complete_expr : {p : Place} {ts r : Text} {of : Expr} (d : ReadsExpr names p ts r of) → expr_ends r ≡ true → Is (e.expr names i ts) (deep_expr names n d) of r
  unfolding deep_expr e.choice_after
  complete_expr (ReadsExpr.binary {ts = ts} {r = r} d) h = same (expr_of_chain ts) (vlast _ (complete_chain d (lit≤ tt) (and_left _ _ h)) (passed (next_is m.question) _ _ r (not_true _ (and_right _ _ h))))
  complete_expr (ReadsExpr.choice {ts = ts} d f g) h = same (expr_of_chain ts) (vthen _ (complete_chain d (lit≤ tt) refl) (vthen _ (C.expr f refl) (vlast _ (C.expr g h) refl)))

  pub complete_new : {p : Place} {ts r : Text} {of : Expr} (d : ReadsNew names p ts r of) → Is (e.new_at names i ts) (deep_new names n d) of r
  unfolding deep_new e.new_at
  complete_new (ReadsNew.new d ds) = vthen _ (complete_base names i n C A false d (λ h. h) (λ _. refl)) (vlast _ (complete_cargs names i n C A ds) refl)

  pub complete_argument_new : {p : Place} {ts r : Text} {of : Expr} (d : ReadsNew names p ts r of) → Is (e.argument names i ts) (deep_new names n d) of r
  unfolding e.argument
  complete_argument_new (ReadsNew.new d ds) = complete_new (ReadsNew.new d ds)

  pub complete_argument_expr : {p : Place} {ts r : Text} {of : Expr} (d : ReadsExpr names p ts r of) → expr_ends r ≡ true → Is (e.argument names i ts) (deep_expr names n d) of r
  unfolding e.argument
  complete_argument_expr {ts = ts} d h = same (passed (next_is m.new_word) _ _ ts (next_not (begins_expr names) m.new_word (expr_not_new names) ts (first_expr names d))) (complete_expr d h)
