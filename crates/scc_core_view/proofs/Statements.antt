-- What a statement before others adds to them.
use Rattle.std.proofs.Common.{◌≡◌, refl, arith, ℕ, Bool, true, false, ◌+◌, ◌||◌, max, subst, ap, sym, if◌then◌else◌}
use Rattle.std.proofs.Math.Nat.{zero-max}
use Rattle.scc_base.specs.declared.refusal.Place.{Place}
use Rattle.scc_core.specs.declared.stmt.CoreStmt.{CoreStmt, fold-roll-CoreStmt, ind-CoreStmt}
use Rattle.scc_core.specs.declared.stmt.CoreNode.{CoreNode, fold-CoreNode, fold-roll-CoreNode}
use Rattle.scc_core.specs.declared.stmt.CoreNode.TheOpen.{CoreNode-F, CoreStmt-F}
use Rattle.scc_core.specs.declared.stmt.CoreNode.TheOpen as node
use Rattle.scc_core_spec.specs.Code.{Code, End, size, holds_wait}
use Rattle.scc_core_spec.specs.Sizes.{loops_deep}
use Rattle.scc_core_view.specs.Codes.{Node, stmt_node, stmt_step, stmt_code, before}

-- sizes of what stands before add up
pub record Adds (f : Code → Code) : Type 0 where
  pub statements : (c : Code) → size (f c) ≡ size (f End) + size c
  pub loops : (c : Code) → loops_deep (f c) ≡ max (loops_deep (f End)) (loops_deep c)
  pub waits : (c : Code) → holds_wait (f c) ≡ (holds_wait (f End) || holds_wait c)

or_behind : (a c : Bool) → (a || c) ≡ ((a || false) || c)
or_behind true c = refl
or_behind false c = refl

or_behind_two : (a b c : Bool) → (a || (b || c)) ≡ ((a || (b || false)) || c)
or_behind_two true b c = refl
or_behind_two false true c = refl
or_behind_two false false c = refl

one_more : (n : ℕ) → 1 + n ≡ (1 + 0) + n
one_more n = omega arith

around : (a n : ℕ) → 1 + (a + n) ≡ (1 + (a + 0)) + n
around a n = omega arith

around_two : (a b n : ℕ) → 1 + (a + (b + n)) ≡ (1 + (a + (b + 0))) + n
around_two a b n = omega arith

deepest : (a n : ℕ) → max a n ≡ max (max a 0) n
deepest a n = omega arith

deepest_two : (a b n : ℕ) → max a (max b n) ≡ max (max a (max b 0)) n
deepest_two a b n = omega arith

adds : (y : CoreNode-F Node (Code → Code)) (p : Place) → Adds (stmt_node y p)
adds (node.Assign l e) p = record { statements = λ c. one_more (size c); loops = λ c. sym (zero-max (loops_deep c)); waits = λ c. refl }
adds (node.If t a b) p = record {
  statements = λ c. around_two (size (before a End)) (size (before b End)) (size c);
  loops = λ c. deepest_two (loops_deep (before a End)) (loops_deep (before b End)) (loops_deep c);
  waits = λ c. or_behind_two (holds_wait (before a End)) (holds_wait (before b End)) (holds_wait c);
}
adds (node.Block b) p = record {
  statements = λ c. around (size (before b End)) (size c);
  loops = λ c. deepest (loops_deep (before b End)) (loops_deep c);
  waits = λ c. or_behind (holds_wait (before b End)) (holds_wait c);
}
adds (node.Loop n b) p = record {
  statements = λ c. around (size (before b End)) (size c);
  loops = λ c. deepest ((if holds_wait (before b End) then 1 else 0) + loops_deep (before b End)) (loops_deep c);
  waits = λ c. or_behind (holds_wait (before b End)) (holds_wait c);
}
adds (node.Exit n) p = record { statements = λ c. one_more (size c); loops = λ c. sym (zero-max (loops_deep c)); waits = λ c. refl }
adds (node.Wait n) p = record { statements = λ c. one_more (size c); loops = λ c. sym (zero-max (loops_deep c)); waits = λ c. refl }
adds (node.Alias to target) p = record { statements = λ c. one_more (size c); loops = λ c. sym (zero-max (loops_deep c)); waits = λ c. refl }

abbrev node_fold : CoreNode → Node
node_fold = fold-CoreNode Node (Code → Code) stmt_node stmt_step

pub stmt_adds : (s : CoreStmt) → Adds (stmt_code s)
stmt_adds = ind-CoreStmt (λ n. (p : Place) → Adds (node_fold n p)) (λ s. Adds (stmt_code s))
    (λ x y is p. subst (λ f. Adds (f p)) (sym (fold-roll-CoreNode Node (Code → Code) stmt_node stmt_step x)) (adds _ p))
    (λ x y is. subst (λ f. Adds f) (sym (fold-roll-CoreStmt Node (Code → Code) stmt_node stmt_step x)) (subst (λ n. Adds (node_fold n x.place)) (ap (λ z. z.node) is) (y.node.1 x.place)))
