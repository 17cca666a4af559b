-- What is counted in measured statements, all of them or along paths, is what their code uses, or its live part.
use Rattle.std.proofs.Common.{◌≡◌, ℕ, suc, ◌+◌, Bool, true, false, ◌||◌, if◌then◌else◌, List, [], ◌∷◌, ◌++◌, map, Option, Some, None, refl, sym, ap, subst, ◌∙◌, arith}
use Rattle.std.specs.Prelude.{not, nat_eq, option_map}
use Rattle.scc_base.specs.declared.refusal.Place.{Place}
use Rattle.scc_bits.specs.Value.{Number}
use Rattle.scc_core.specs.declared.expr.CoreExpr.{CoreExpr}
use Rattle.scc_core.specs.declared.expr.CoreLeft.{CoreLeft}
use Rattle.scc_core.specs.declared.stmt.CoreStmt.{CoreStmt, fold-CoreStmt, fold-roll-CoreStmt}
use Rattle.scc_core.specs.declared.stmt.CoreNode.{CoreNode, roll-CoreNode, map-CoreNode, fold-CoreNode, fold-roll-CoreNode}
use Rattle.scc_core.specs.declared.stmt.CoreNode.TheOpen.{CoreNode-F}
use Rattle.scc_core.specs.declared.stmt.CoreNode.TheOpen as node
use Rattle.scc_core_spec.specs.Code.{Code, Count, End, Put, Aim, If, Block, Loop, Exit, Wait, append}
use Rattle.scc_core_spec.specs.Live.{Alive, alive, by_test, looped, shut, then_alive}
use Rattle.scc_core_spec.specs.Static.{Cells, goes}
use Rattle.scc_core_spec.specs.Term.{Term}
use Rattle.scc_core_spec.specs.Uses.{Act, acts, inside, loads, picked}
use Rattle.scc_core_view.specs.Codes.{stmt_node, stmt_step, stmt_code, code_of, counted}
use Rattle.scc_core_view.specs.Codes as to
use Rattle.scc_core_view.specs.Terms.{taken_of, term_of}
use Rattle.scc_states_sum.specs.Bodies.{act_elements, acts_elements, code_elements, stated, IsMeasuredStmt, assign, test, block, loop, exit, wait, AreMeasuredStmts, no_stmt, more_stmt, Agrees}
use Rattle.scc_states_sum.specs.Elements.{total, expr_elements, left_elements}
use Rattle.scc_states_sum.specs.Live.{Live, behind, along, tested, endless, passed, in_statement, statement_elements, live_node, live_statement, live_body}
use Rattle.scc_states_sum.specs.Live as count
use Rattle.scc_states_sum.specs.Measured.{elements_at, used_elements, IsMeasured}
use Rattle.scc_states_sum.proofs.Measuring.{tells, written}
use Rattle.scc_states_sum.proofs.Patterns.{used_three}

-- ---- folds over a statement

module _ (A : Type 0) (step : CoreNode-F A A → A) where
  abbrev folded : CoreStmt → A
  folded = fold-CoreStmt A A step (λ s. s.node)

  pub folded_made : (p : Place) (x : CoreNode-F CoreNode CoreStmt) → folded (stated p x) ≡ step (map-CoreNode CoreNode CoreStmt A A (fold-CoreNode A A step (λ s. s.node)) folded x)
  folded_made p x = fold-roll-CoreStmt A A step (λ s. s.node) (record { place = p; node = roll-CoreNode x }) ∙ fold-roll-CoreNode A A step (λ s. s.node) x

pub code_made : (p : Place) (x : CoreNode-F CoreNode CoreStmt) (c : Code) → stmt_code (stated p x) c
    ≡ stmt_node (map-CoreNode CoreNode CoreStmt to.Node (Code → Code) (fold-CoreNode to.Node (Code → Code) stmt_node stmt_step) stmt_code x) p c
code_made p x c =
    ap (λ f. f c) (fold-roll-CoreStmt to.Node (Code → Code) stmt_node stmt_step (record { place = p; node = roll-CoreNode x }))
    ∙ ap (λ f. f p c) (fold-roll-CoreNode to.Node (Code → Code) stmt_node stmt_step x)

-- ---- sums

plus_three : (a b c : ℕ) → a + (b + c) ≡ a + b + c
plus_three a b c = omega arith

plus_none : (n : ℕ) → n ≡ 0 + n
plus_none n = omega arith

none_more : (n : ℕ) → n ≡ n + 0
none_more n = omega arith

within : (a b : ℕ) → a + b ≡ a + (b + 0)
within a b = omega arith

assigned : (w i k e rest : ℕ) → w + (i + k) + e + rest ≡ w + 0 + (i + (k + e)) + rest
assigned w i k e rest = omega arith

if_sum : (t a b c : ℕ) → t + (a + b) + c ≡ t + (a + (b + c))
if_sum t a b c = omega arith

module _ (cs : Cells) where
  acts_both : (a b : List Act) → acts_elements cs (a ++ b) ≡ acts_elements cs a + acts_elements cs b
  acts_both [] b = plus_none (acts_elements cs b)
  acts_both (x ∷ a) b = ap (λ n. act_elements cs x + n) (acts_both a b) ∙ plus_three (act_elements cs x) (acts_elements cs a) (acts_elements cs b)

  pub acts_two : (a b r : List Act) → acts_elements cs (a ++ (b ++ r)) ≡ acts_elements cs a + (acts_elements cs b + acts_elements cs r)
  acts_two a b r = acts_both a (b ++ r) ∙ ap (λ n. acts_elements cs a + n) (acts_both b r)

  -- code behind code uses what both do
  pub code_both : (c d : Code) → code_elements cs (append c d) ≡ code_elements cs c + code_elements cs d
  code_both End d = plus_none (code_elements cs d)
  code_both (Put p l k e r) d =
      let n = act_elements cs (record { place = p; reads = inside l ++ (picked k ++ loads e); writes = Some (l, k) }) in
      ap (λ m. n + m) (code_both r d) ∙ plus_three n (code_elements cs r) (code_elements cs d)
  code_both (Aim p to t r) d =
      let n = act_elements cs (record { place = p; reads = inside t; writes = None }) in
      ap (λ m. n + m) (code_both r d) ∙ plus_three n (code_elements cs r) (code_elements cs d)
  code_both (If p t a b r) d =
      let n = act_elements cs (record { place = p; reads = loads t; writes = None }) in
      ap (λ m. n + m) (acts_two (acts a) (acts b) (acts (append r d)) ∙ ap (λ m. code_elements cs a + (code_elements cs b + m)) (code_both r d))
      ∙ far n (code_elements cs a) (code_elements cs b) (code_elements cs r) (code_elements cs d) ∙ ap (λ m. n + m + code_elements cs d) (sym (acts_two (acts a) (acts b) (acts r)))
    where
      far : (n a b r d : ℕ) → n + (a + (b + (r + d))) ≡ n + (a + (b + r)) + d
      far n a b r d = omega arith
  code_both (Block p b r) d =
      acts_both (acts b) (acts (append r d)) ∙ ap (λ m. code_elements cs b + m) (code_both r d) ∙ plus_three (code_elements cs b) (code_elements cs r) (code_elements cs d)
      ∙ ap (λ m. m + code_elements cs d) (sym (acts_both (acts b) (acts r)))
  code_both (Loop p n b r) d =
      acts_both (acts b) (acts (append r d)) ∙ ap (λ m. code_elements cs b + m) (code_both r d) ∙ plus_three (code_elements cs b) (code_elements cs r) (code_elements cs d)
      ∙ ap (λ m. m + code_elements cs d) (sym (acts_both (acts b) (acts r)))
  code_both (Exit p n r) d = code_both r d
  code_both (Wait p l n r) d = code_both r d

  -- ---- paths

  from_first : (n : ℕ) (y : Live) (x : Alive) (code : Code) → n + code_elements cs x.code ≡ code_elements cs code → Agrees cs y x
      → Agrees cs (behind (passed n) y) (record { code = code; ends = x.ends; leaves = x.leaves })
  from_first n y x code h g = record { elements = ap (λ m. n + m) g.elements ∙ h; ends = g.ends; leaves = g.leaves }

  then_by : (m y : Live) (x z : Alive) (b : Bool) → m.ends ≡ b → x.ends ≡ b → Agrees cs m x → Agrees cs y z → Agrees cs (behind m y) (then_alive x.ends x z)
  then_by m y x z true h i f g =
      subst (λ b. Agrees cs (if b then record { elements = m.elements + y.elements; ends = y.ends; leaves = λ k. m.leaves k || y.leaves k } else m) (then_alive x.ends x z)) (sym h)
      (subst (λ b. Agrees cs (record { elements = m.elements + y.elements; ends = y.ends; leaves = λ k. m.leaves k || y.leaves k }) (then_alive b x z)) (sym i) (record {
        elements = ap (λ n. n + y.elements) f.elements ∙ ap (λ n. code_elements cs x.code + n) g.elements ∙ sym (code_both x.code z.code);
        ends = g.ends;
        leaves = λ n. ap (λ b. b || y.leaves n) (f.leaves n) ∙ ap (λ b. x.leaves n || b) (g.leaves n);
      }))
  then_by m y x z false h i f g =
      subst (λ b. Agrees cs (if b then record { elements = m.elements + y.elements; ends = y.ends; leaves = λ k. m.leaves k || y.leaves k } else m) (then_alive x.ends x z)) (sym h)
      (subst (λ b. Agrees cs m (then_alive b x z)) (sym i) f)

  then_agrees : (m y : Live) (x z : Alive) → Agrees cs m x → Agrees cs y z → Agrees cs (behind m y) (then_alive x.ends x z)
  then_agrees m y x z f g = then_by m y x z x.ends f.ends refl f g

  chosen : (b : Bool) (p : Place) (t : Term) (l m : Live) (x y : Alive) → Agrees cs l x → Agrees cs m y → Agrees cs (if b then m else l) (by_test (Some (not b)) p t x y)
  chosen true p t l m x y f g = g
  chosen false p t l m x y f g = f

  test_agrees : (o : Option Number) (w : Option Bool) (n : ℕ) (p : Place) (t : Term) (l m : Live) (x y : Alive) → option_map (λ v. not (nat_eq v.word 0)) o ≡ w → n ≡ used_elements cs (loads t)
      → Agrees cs l x → Agrees cs m y → Agrees cs (tested o n l m) (by_test w p t x y)
  test_agrees (Some v) w n p t l m x y h k f g = subst (λ z. Agrees cs (tested (Some v) n l m) (by_test z p t x y)) h (chosen (nat_eq v.word 0) p t l m x y f g)
  test_agrees None w n p t l m x y h k f g = subst (λ z. Agrees cs (tested None n l m) (by_test z p t x y)) h (record {
    elements = ap (λ i. i + (l.elements + m.elements)) k ∙ ap (λ i. used_elements cs (loads t) + (i + m.elements)) f.elements ∙ ap (λ i. used_elements cs (loads t) + (code_elements cs x.code + i)) g.elements
        ∙ ap (λ i. i + (code_elements cs x.code + code_elements cs y.code)) (plus_none (used_elements cs (loads t)))
        ∙ ap (λ i. 0 + used_elements cs (loads t) + i) (within (code_elements cs x.code) (code_elements cs y.code) ∙ sym (acts_two (acts x.code) (acts y.code) []));
    ends = ap (λ b. b || m.ends) f.ends ∙ ap (λ b. x.ends || b) g.ends;
    leaves = λ i. ap (λ b. b || m.leaves i) (f.leaves i) ∙ ap (λ b. x.leaves i || b) (g.leaves i);
  })

  block_agrees : (p : Place) (l : Live) (x : Alive) → Agrees cs l x → Agrees cs (count.block l) (shut p x)
  block_agrees p l x f = record {
    elements = f.elements ∙ none_more (code_elements cs x.code) ∙ sym (acts_both (acts x.code) []);
    ends = ap (λ b. b || l.leaves 0) f.ends ∙ ap (λ b. x.ends || b) (f.leaves 0);
    leaves = λ n. f.leaves (suc n);
  }

  loop_by : (p : Place) (n : Option Count) (l : Live) (x : Alive) (b : Bool) → x.ends ≡ b → Agrees cs l x → Agrees cs (endless l) (looped b p n x)
  loop_by p n l x true h f = record { elements = f.elements ∙ none_more (code_elements cs x.code) ∙ sym (acts_both (acts x.code) []); ends = refl; leaves = f.leaves }
  loop_by p n l x false h f = record { elements = f.elements; ends = sym h; leaves = f.leaves }

  -- ---- along the rules

  module _ (known : CoreExpr → Option Number) where
    pub record Says (s : CoreStmt) : Type 0 where
      pub whole : (c : Code) → statement_elements known s + code_elements cs c ≡ code_elements cs (stmt_code s c)
      pub paths : (c : Code) (y : Live) → Agrees cs y (alive cs c) → Agrees cs (behind (live_statement known s) y) (alive cs (stmt_code s c))

    put_uses : (p : Place) (l : CoreLeft) (e : CoreExpr) (c : Code) → IsMeasured cs known e
        → elements_at cs (taken_of l).left + (used_elements cs (inside (taken_of l).left) + used_elements cs (picked (taken_of l).pick)) + expr_elements known e + code_elements cs c
        ≡ code_elements cs (Put p (taken_of l).left (taken_of l).pick (term_of e) c)
    put_uses p l e c g =
        let t = taken_of l in
        ap (λ n. elements_at cs t.left + (used_elements cs (inside t.left) + used_elements cs (picked t.pick)) + n + code_elements cs c) (tells cs known g)
        ∙ assigned (elements_at cs t.left) (used_elements cs (inside t.left)) (used_elements cs (picked t.pick)) (used_elements cs (loads (term_of e))) (code_elements cs c)
        ∙ ap (λ n. elements_at cs t.left + 0 + n + code_elements cs c) (sym (used_three cs (inside t.left) (picked t.pick) (loads (term_of e))))

    if_uses : (p : Place) (t : CoreExpr) (a b : List CoreStmt) (c : Code) → IsMeasured cs known t → total (map (statement_elements known) a) ≡ code_elements cs (code_of a) → total (map (statement_elements known) b) ≡ code_elements cs (code_of b)
        → expr_elements known t + (total (map (statement_elements known) a) + total (map (statement_elements known) b)) + code_elements cs c
        ≡ code_elements cs (If p (term_of t) (code_of a) (code_of b) c)
    if_uses p t a b c h f g =
        ap (λ n. n + (total (map (statement_elements known) a) + total (map (statement_elements known) b)) + code_elements cs c) (tells cs known h)
        ∙ ap (λ n. used_elements cs (loads (term_of t)) + (n + total (map (statement_elements known) b)) + code_elements cs c) f
        ∙ ap (λ n. used_elements cs (loads (term_of t)) + (code_elements cs (code_of a) + n) + code_elements cs c) g
        ∙ if_sum (used_elements cs (loads (term_of t))) (code_elements cs (code_of a)) (code_elements cs (code_of b)) (code_elements cs c)
        ∙ ap (λ n. n + (code_elements cs (code_of a) + (code_elements cs (code_of b) + code_elements cs c))) (plus_none (used_elements cs (loads (term_of t))))
        ∙ ap (λ n. 0 + used_elements cs (loads (term_of t)) + n) (sym (acts_two (acts (code_of a)) (acts (code_of b)) (acts c)))

    mutual
      pub says : {s : CoreStmt} → IsMeasuredStmt cs known s → Says s
      says (assign {p = p} {l = l} {e = e} h g) =
          let a = left_elements known l + expr_elements known e in
          let is : (c : Code) → a + code_elements cs c ≡ code_elements cs (Put p (taken_of l).left (taken_of l).pick (term_of e) c) =
          λ c. ap (λ n. n + expr_elements known e + code_elements cs c) (written cs known h) ∙ put_uses p l e c g in record {
            whole = λ c. ap (λ n. n + code_elements cs c) (folded_made ℕ (in_statement known) p (node.Assign l e)) ∙ is c ∙ ap (code_elements cs) (sym (code_made p (node.Assign l e) c));
            paths = λ c y f.
                subst (λ d. Agrees cs (behind (live_statement known (stated p (node.Assign l e))) y) (alive cs d)) (sym (code_made p (node.Assign l e) c))
                (subst (λ m. Agrees cs (behind m y) (alive cs (Put p (taken_of l).left (taken_of l).pick (term_of e) c))) (sym (folded_made Live (live_node known) p (node.Assign l e)))
                (from_first a y (alive cs c) (Put p (taken_of l).left (taken_of l).pick (term_of e) (alive cs c).code) (is (alive cs c).code) f));
          }
      says (test {p = p} {t = t} {a = a} {b = b} way h f g) = record {
        whole = λ c. ap (λ n. n + code_elements cs c) (folded_made ℕ (in_statement known) p (node.If t a b)) ∙ if_uses p t a b c h (all_whole f) (all_whole g) ∙ ap (code_elements cs) (sym (code_made p (node.If t a b) c));
        paths = λ c y k.
            subst (λ d. Agrees cs (behind (live_statement known (stated p (node.If t a b))) y) (alive cs d)) (sym (code_made p (node.If t a b) c))
            (subst (λ m. Agrees cs (behind m y) (alive cs (If p (term_of t) (code_of a) (code_of b) c))) (sym (folded_made Live (live_node known) p (node.If t a b)))
            (then_agrees (tested (known t) (expr_elements known t) (live_body known a) (live_body known b)) y (by_test (goes cs (term_of t)) p (term_of t) (alive cs (code_of a)) (alive cs (code_of b))) (alive cs c)
            (test_agrees (known t) (goes cs (term_of t)) (expr_elements known t) p (term_of t) (live_body known a) (live_body known b) (alive cs (code_of a)) (alive cs (code_of b)) way (tells cs known h) (all_paths f) (all_paths g)) k));
      }
      says (block {p = p} {b = b} f) = record {
        whole = λ c. ap (λ n. n + code_elements cs c) (folded_made ℕ (in_statement known) p (node.Block b) ∙ all_whole f) ∙ sym (acts_both (acts (code_of b)) (acts c)) ∙ ap (code_elements cs) (sym (code_made p (node.Block b) c));
        paths = λ c y k.
            subst (λ d. Agrees cs (behind (live_statement known (stated p (node.Block b))) y) (alive cs d)) (sym (code_made p (node.Block b) c))
            (subst (λ m. Agrees cs (behind m y) (alive cs (Block p (code_of b) c))) (sym (folded_made Live (live_node known) p (node.Block b)))
            (then_agrees (count.block (live_body known b)) y (shut p (alive cs (code_of b))) (alive cs c) (block_agrees p (live_body known b) (alive cs (code_of b)) (all_paths f)) k));
      }
      says (loop {p = p} n {b = b} f) = record {
        whole = λ c. ap (λ n. n + code_elements cs c) (folded_made ℕ (in_statement known) p (node.Loop n b) ∙ all_whole f) ∙ sym (acts_both (acts (code_of b)) (acts c)) ∙ ap (code_elements cs) (sym (code_made p (node.Loop n b) c));
        paths = λ c y k.
            subst (λ d. Agrees cs (behind (live_statement known (stated p (node.Loop n b))) y) (alive cs d)) (sym (code_made p (node.Loop n b) c))
            (subst (λ m. Agrees cs (behind m y) (alive cs (Loop p (counted n) (code_of b) c))) (sym (folded_made Live (live_node known) p (node.Loop n b)))
            (loop_by p (counted n) (live_body known b) (alive cs (code_of b)) (alive cs (code_of b)).ends refl (all_paths f)));
      }
      says (exit {p = p} n) = record {
        whole = λ c. ap (λ m. m + code_elements cs c) (folded_made ℕ (in_statement known) p (node.Exit n)) ∙ sym (plus_none (code_elements cs c)) ∙ ap (code_elements cs) (sym (code_made p (node.Exit n) c));
        paths = λ c y k.
            subst (λ d. Agrees cs (behind (live_statement known (stated p (node.Exit n))) y) (alive cs d)) (sym (code_made p (node.Exit n) c))
            (subst (λ m. Agrees cs (behind m y) (alive cs (Exit p n c))) (sym (folded_made Live (live_node known) p (node.Exit n))) (record { elements = refl; ends = refl; leaves = λ n. refl }));
      }
      says (wait {p = p} n) = record {
        whole = λ c. ap (λ m. m + code_elements cs c) (folded_made ℕ (in_statement known) p (node.Wait n)) ∙ sym (plus_none (code_elements cs c)) ∙ ap (code_elements cs) (sym (code_made p (node.Wait n) c));
        paths = λ c y k.
            subst (λ d. Agrees cs (behind (live_statement known (stated p (node.Wait n))) y) (alive cs d)) (sym (code_made p (node.Wait n) c))
            (subst (λ m. Agrees cs (behind m y) (alive cs (Wait p 0 n c))) (sym (folded_made Live (live_node known) p (node.Wait n)))
            (from_first 0 y (alive cs c) (Wait p 0 n (alive cs c).code) (sym (plus_none (code_elements cs (alive cs c).code))) k));
      }

      pub all_whole : {ss : List CoreStmt} → AreMeasuredStmts cs known ss → total (map (statement_elements known) ss) ≡ code_elements cs (code_of ss)
      all_whole no_stmt = refl
      all_whole (more_stmt {s = s} {ss = ss} h f) = ap (λ n. statement_elements known s + n) (all_whole f) ∙ (says h).whole (code_of ss)

      pub all_paths : {ss : List CoreStmt} → AreMeasuredStmts cs known ss → Agrees cs (live_body known ss) (alive cs (code_of ss))
      all_paths no_stmt = record { elements = refl; ends = refl; leaves = λ n. refl }
      all_paths (more_stmt {s = s} {ss = ss} h f) = (says h).paths (code_of ss) (live_body known ss) (all_paths f)
