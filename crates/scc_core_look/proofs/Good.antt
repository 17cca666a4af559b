-- Statements that fit and write no input: one by one, and in a list.
use Rattle.std.proofs.Common.{◌≡◌, refl, arith, ℕ, ◌+◌, ◌<◌, Bool, true, false, not, ◌&&◌, List, [], ◌∷◌, ◌++◌, map, take, get_or, length, add-one, Option, Some, None, ap, ◌∙◌, sym, subst}
use Rattle.std.specs.Prelude.{nat_lt}
use Rattle.std.proofs.Math.Seq.{take-suc}
use Rattle.scc_base.specs.declared.refusal.Place.{Place}
use Rattle.scc_core.specs.declared.expr.CoreExpr.{CoreExpr}
use Rattle.scc_core.specs.declared.expr.CoreLeft.{CoreLeft}
use Rattle.scc_core.specs.declared.expr.CorePick.{CorePick}
use Rattle.scc_core.specs.declared.stmt.CoreStmt.{CoreStmt, fold-roll-CoreStmt, ind-CoreStmt}
use Rattle.scc_core.specs.declared.stmt.CoreNode.{CoreNode, fold-CoreNode, fold-roll-CoreNode}
use Rattle.scc_core.specs.declared.stmt.CoreNode.TheVariants as variant
use Rattle.scc_core.specs.declared.stmt.CoreNode.TheOpen.{CoreNode-F, CoreStmt-F}
use Rattle.scc_core.specs.declared.stmt.CoreNode.TheOpen as node
use Rattle.scc_core_spec.specs.Code.{Code, Count, End, Put, Aim, If, Block, Loop, Exit, Wait}
use Rattle.scc_core_spec.specs.Fit.{fit_left, fit_pick, fit_term, takes}
use Rattle.scc_core_spec.specs.OpenNames.{all_named, is_sized}
use Rattle.scc_core_spec.specs.Term.{Left, Pick, Term, Whole, OneBit, Bits, kind_of}
use Rattle.scc_core_view.specs.Codes.{Node, stmt_node, stmt_step, stmt_code, before, code_of}
use Rattle.scc_core_view.specs.Terms.{taken_of, term_of}
use Rattle.scc_core_look.specs.declared.seen.Test.{Test}
use Rattle.scc_core_look.specs.declared.terms.Ground.{Ground}
use Rattle.scc_core_look.specs.Fits.{IsIn, IsLeft, good_code, good_put, here, keeps_left, mine, put_test, some_pick}
use Rattle.scc_core_look.specs.Seen.{asks, writes}
use Rattle.scc_core_look.proofs.Apart.{both, first, second}
use Rattle.scc_core_look.proofs.Lefts.{left_is}

module _ (g : Ground) where
  asks-takes : (k : Pick) (j : Rattle.scc_bits_kinds.specs.declared.kind.Kind.Kind) (l : Left) → all_named (here g) (asks (put_test j k)) l ≡ true → all_named (here g) (takes k j) l ≡ true
  asks-takes Whole j l e = e
  asks-takes (OneBit x) j l e = e
  asks-takes (Bits a b) j l e = e

  put-writes : (k : Pick) (j : Rattle.scc_bits_kinds.specs.declared.kind.Kind.Kind) → writes (put_test j k) ≡ true
  put-writes Whole j = refl
  put-writes (OneBit x) j = refl
  put-writes (Bits a b) j = refl

  put_in : (l : Left) (k : Pick) (e : CoreExpr) → IsLeft g (put_test e.kind k) l → fit_pick (here g) (mine g) k ≡ true → IsIn g e → good_put g l k (term_of e) ≡ true
  put_in l k e w p i =
      both _ (keeps_left g l)
      (both (fit_left (here g) (mine g) l) _ w.fits (both (fit_pick (here g) (mine g) k) _ p (both (fit_term (here g) (mine g) (term_of e)) _ i.fits
      (both (all_named (here g) (takes k (kind_of (term_of e))) l) (is_sized (here g) l) (ap (λ j. all_named (here g) (takes k j) l) i.kind ∙ asks-takes k e.kind l w.named) w.sized))))
      (w.keeps (put-writes k e.kind))

  pub put_told : (l : CoreLeft) (e : CoreExpr) (test : Test) (to at put inner outer : Bool) → test ≡ put_test e.kind (some_pick l.pick) → (to ≡ true → IsLeft g test (taken_of l).left) → (at ≡ true → fit_pick (here g) (mine g) (some_pick l.pick) ≡ true)
      → (put ≡ true → IsIn g e) → inner ≡ (at && put) → outer ≡ (to && inner) → outer ≡ true → good_put g (taken_of l).left (taken_of l).pick (term_of e) ≡ true
  put_told l e test to at put inner outer is a b d m n t =
      let t1 : (to && inner) ≡ true = sym n ∙ t in
      let t2 : (at && put) ≡ true = sym m ∙ second to inner t1 in
      ap (λ k. good_put g (taken_of l).left k (term_of e)) (ap (λ x. x.pick) (left_is l l.pick refl))
      ∙ put_in (taken_of l).left (some_pick l.pick) e (subst (λ x. IsLeft g x (taken_of l).left) is (a (first to inner t1))) (b (first at put t2)) (d (second at put t2))

  and-behind : (a c : Bool) → (a && c) ≡ ((a && true) && c)
  and-behind true c = refl
  and-behind false c = refl

  and-behind-two : (a b x c : Bool) → (a && (b && (x && c))) ≡ ((a && (b && (x && true))) && c)
  and-behind-two true true true c = refl
  and-behind-two true true false c = refl
  and-behind-two true false x c = refl
  and-behind-two false b x c = refl

  -- what stands before others is good by itself
  record Parts (f : Code → Code) : Type 0 where
    holds : (c : Code) → good_code g (f c) ≡ (good_code g (f End) && good_code g c)

  parts : (y : CoreNode-F Node (Code → Code)) (p : Place) → Parts (stmt_node y p)
  parts (node.Assign l e) p = record { holds = λ c. and-behind (good_put g (taken_of l).left (taken_of l).pick (term_of e)) (good_code g c) }
  parts (node.If t a b) p = record { holds = λ c. and-behind-two (fit_term (here g) (mine g) (term_of t)) (good_code g (before a End)) (good_code g (before b End)) (good_code g c) }
  parts (node.Block b) p = record { holds = λ c. and-behind (good_code g (before b End)) (good_code g c) }
  parts (node.Loop n b) p = record { holds = λ c. and-behind (good_code g (before b End)) (good_code g c) }
  parts (node.Exit n) p = record { holds = λ c. refl }
  parts (node.Wait n) p = record { holds = λ c. and-behind (nat_lt 0 n) (good_code g c) }
  parts (node.Alias to target) p = record { holds = λ c. refl }

  abbrev node_fold : CoreNode → Node
  node_fold = fold-CoreNode Node (Code → Code) stmt_node stmt_step

  stmt_parts : (s : CoreStmt) → Parts (stmt_code s)
  stmt_parts = ind-CoreStmt (λ n. (p : Place) → Parts (node_fold n p)) (λ s. Parts (stmt_code s))
      (λ x y is p. subst (λ f. Parts (f p)) (sym (fold-roll-CoreNode Node (Code → Code) stmt_node stmt_step x)) (parts _ p))
      (λ x y is. subst (λ f. Parts f) (sym (fold-roll-CoreStmt Node (Code → Code) stmt_node stmt_step x)) (subst (λ n. Parts (node_fold n x.place)) (ap (λ z. z.node) is) (y.node.1 x.place)))

  more : (ss : List CoreStmt) (s : CoreStmt) → good_code g (code_of ss) ≡ true → good_code g (stmt_code s End) ≡ true → good_code g (code_of (ss ++ s ∷ [])) ≡ true
  more [] s e h = h
  more (x ∷ xs) s e h =
      let w : (good_code g (stmt_code x End) && good_code g (code_of xs)) ≡ true = sym ((stmt_parts x).holds (code_of xs)) ∙ e in
      (stmt_parts x).holds (code_of (xs ++ s ∷ []))
      ∙ both (good_code g (stmt_code x End)) (good_code g (code_of (xs ++ s ∷ []))) (first (good_code g (stmt_code x End)) (good_code g (code_of xs)) w)
      (more xs s (second (good_code g (stmt_code x End)) (good_code g (code_of xs)) w) h)

  pub goes_on : (ss : List CoreStmt) (i : ℕ) (s : CoreStmt) → i < length ss → s ≡ get_or ss i s → (all one now : Bool) → (all ≡ true → good_code g (code_of (take i ss)) ≡ true) → (one ≡ true → good_code g (stmt_code s End) ≡ true)
      → now ≡ (all && one) → now ≡ true → good_code g (code_of (take (i + 1) ss)) ≡ true
  goes_on ss i s h is all one now k l m t =
      let w : (all && one) ≡ true = sym m ∙ t in
      ap (λ n. good_code g (code_of (take n ss))) (add-one i)
      ∙ ap (λ x. good_code g (code_of x)) (take-suc ss i s h)
      ∙ ap (λ x. good_code g (code_of (take i ss ++ x ∷ []))) (sym is)
      ∙ more (take i ss) s (k (first all one w)) (l (second all one w))

  pub if_good : (p : Place) (t : Term) (a b : Code) → (fit_term (here g) (mine g) t && (good_code g a && good_code g b)) ≡ true → good_code g (If p t a b End) ≡ true
  if_good p t a b e =
      let r = second (fit_term (here g) (mine g) t) (good_code g a && good_code g b) e in
      both (fit_term (here g) (mine g) t) _ (first (fit_term (here g) (mine g) t) (good_code g a && good_code g b) e) (both (good_code g a) _ (first (good_code g a) (good_code g b) r) (both (good_code g b) true (second (good_code g a) (good_code g b) r) refl))

  pub put_good : (p : Place) (l : Left) (k : Pick) (t : Term) → good_put g l k t ≡ true → good_code g (Put p l k t End) ≡ true
  put_good p l k t e = both (good_put g l k t) true e refl

  pub block_good : (p : Place) (b : Code) → good_code g b ≡ true → good_code g (Block p b End) ≡ true
  block_good p b e = both (good_code g b) true e refl

  pub loop_good : (p : Place) (n : Option Count) (b : Code) → good_code g b ≡ true → good_code g (Loop p n b End) ≡ true
  loop_good p n b e = both (good_code g b) true e refl

  pub wait_good : (p : Place) (l n : ℕ) → 0 < n → good_code g (Wait p l n End) ≡ true
  wait_good p l n h = let lt : nat_lt 0 n ≡ true = grind (arith, h) in both (nat_lt 0 n) true lt refl

  if_is : (s : CoreStmt) (t : CoreExpr) (a b : List CoreStmt) → s.node ≡ variant.If t a b → stmt_code s End ≡ If s.place (term_of t) (code_of a) (code_of b) End
  if_is s t a b is =
      ap (λ f. f End) (fold-roll-CoreStmt Node (Code → Code) stmt_node stmt_step (record { place = s.place; node = s.node }))
      ∙ ap (λ n. node_fold n s.place End) (is ∙ sym (variant.rolls-If t a b))
      ∙ ap (λ f. f s.place End) (fold-roll-CoreNode Node (Code → Code) stmt_node stmt_step (node.If t a b))

  pub if_told : (s : CoreStmt) (t : CoreExpr) (a b xs ys : List CoreStmt) (fit one other inner outer : Bool) → s.node ≡ variant.If t a b → xs ≡ a → ys ≡ b → (fit ≡ true → IsIn g t) → (one ≡ true → good_code g (code_of xs) ≡ true) → (other ≡ true → good_code g (code_of ys) ≡ true)
      → inner ≡ (one && other) → outer ≡ (fit && inner) → outer ≡ true → good_code g (stmt_code s End) ≡ true
  if_told s t a b xs ys fit one other inner outer is xs-is ys-is f x y m n h =
      let t1 : (fit && inner) ≡ true = sym n ∙ h in
      let t2 : (one && other) ≡ true = sym m ∙ second fit inner t1 in
      let i = f (first fit inner t1) in
      ap (good_code g) (if_is s t a b is)
      ∙ if_good s.place (term_of t) (code_of a) (code_of b) (both (fit_term (here g) (mine g) (term_of t)) (good_code g (code_of a) && good_code g (code_of b)) i.fits
      (both (good_code g (code_of a)) (good_code g (code_of b)) (ap (λ zs. good_code g (code_of zs)) (sym xs-is) ∙ x (first one other t2)) (ap (λ zs. good_code g (code_of zs)) (sym ys-is) ∙ y (second one other t2))))
