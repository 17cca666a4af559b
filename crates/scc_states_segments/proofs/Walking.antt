-- Parts are the statements that they are made of.
use Rattle.std.proofs.Common.{◌≡◌, ℕ, zero, suc, ◌+◌, ◌<◌, ◌≤◌, Bool, true, false, ◌||◌, List, [], ◌∷◌, ◌++◌, map, drop, length, get_or, Option, Some, None, refl, sym, ap, subst, ◌∙◌, arith}
use Rattle.std.specs.Prelude.{not, nat_lt}
use Rattle.std.proofs.lemmas.List.{drop_all}
use Rattle.std.proofs.lemmas.Bool.Decides.{nat_tests}
use Rattle.scc_base.specs.declared.refusal.Place.{Place}
use Rattle.scc_core.specs.declared.expr.CoreExpr.{CoreExpr}
use Rattle.scc_core.specs.declared.stmt.Count.{Count as Counting}
use Rattle.scc_core.specs.declared.stmt.CoreStmt.{CoreStmt, fold-roll-CoreStmt, ind-CoreStmt}
use Rattle.scc_core.specs.declared.stmt.CoreNode.{CoreNode, fold-CoreNode, fold-roll-CoreNode}
use Rattle.scc_core.specs.declared.stmt.CoreNode.TheVariants as stmt
use Rattle.scc_core.specs.declared.stmt.CoreNode.TheOpen.{CoreNode-F}
use Rattle.scc_core.specs.declared.stmt.CoreNode.TheOpen as node
use Rattle.scc_core_spec.specs.Term.{Term}
use Rattle.scc_core_spec.specs.Code.{Code, Count, End, If, Block, Loop, Exit, Wait, waits_in, numbered}
use Rattle.scc_core_spec.specs.Segments.{Segment, Plain, Test, Halt, Finish, behind, opens, opened, segment, segments}
use Rattle.scc_core_view.specs.Codes.{Node, stmt_node, stmt_step, stmt_code, code_of, before, counted}
use Rattle.scc_core_view.specs.Terms.{term_of}
use Rattle.scc_core_view.proofs.Layers.{tests, blocks, loops, exits, waits}
use Rattle.scc_states_segments.specs.declared.parts.Part.{Part}
use Rattle.scc_states_segments.specs.declared.parts.PartNode.TheVariants as variant
use Rattle.scc_states_segments.specs.Parts.{Walk, Walks, ended, chain, whole, tested, blocked, looped, left, halted, part_walk, walk_of, IsPart, AreParts}
use Rattle.scc_states_segments.proofs.Adds.{from_here, waits_here}
use Rattle.scc_states_segments.proofs.Single.{no_waits, if_alone, if_behind, block_alone, block_behind, loop_alone, loop_behind, if_open, block_open, loop_open}
use Rattle.scc_states_segments.proofs.Stands.{at, plain_stands, test_stands, block_stands, loop_stands, exit_stands, wait_stands}

-- a statement that opens nothing stands in its segment as it is
record Alone (f : Code → Code) : Type 0 where
  pub first : (n : ℕ) → opens 0 (f End) ≡ false → (c : Code) (x : Segment) (o : List Segment) → segment (numbered n (f c)) x o ≡ Plain (f End) (segment (numbered n c) x o)
  pub others : (n : ℕ) → opens 0 (f End) ≡ false → (c : Code) (x : Segment) (o : List Segment) → segments (numbered n (f c)) x o ≡ segments (numbered n c) x o

exit_opens : (n : ℕ) → (not (nat_lt n 0) || false) ≡ true
exit_opens n = grind (arith, nat_tests)

alone : (y : CoreNode-F Node (Code → Code)) (p : Place) → Alone (stmt_node y p)
alone (node.Assign l e) p = record { first = λ n h c x o. refl; others = λ n h c x o. refl }
alone (node.If t a b) p = record {
  first = λ n h c x o. if_alone p (term_of t) (before a End) (before b End) c n x o h;
  others = λ n h c x o. if_behind p (term_of t) (before a End) (before b End) c n x o h;
}
alone (node.Block b) p = record {
  first = λ n h c x o. block_alone p (before b End) c n x o h;
  others = λ n h c x o. block_behind p (before b End) c n x o h;
}
alone (node.Loop k b) p = record {
  first = λ n h c x o. loop_alone p (counted k) (before b End) c n x o h;
  others = λ n h c x o. loop_behind p (counted k) (before b End) c n x o h;
}
alone (node.Exit k) p = record {
  first = λ n h c x o. let e = exit_opens k in absurd cc;
  others = λ n h c x o. refl;
}
alone (node.Wait k) p = record { first = λ n h c x o. absurd cc; others = λ n h c x o. absurd cc }
alone (node.Alias to target) p = record { first = λ n h c x o. refl; others = λ n h c x o. refl }

abbrev node_fold : CoreNode → Node
node_fold = fold-CoreNode Node (Code → Code) stmt_node stmt_step

stmt_alone : (s : CoreStmt) → Alone (stmt_code s)
stmt_alone = ind-CoreStmt (λ n. (p : Place) → Alone (node_fold n p)) (λ s. Alone (stmt_code s))
    (λ x y is p. subst (λ f. Alone (f p)) (sym (fold-roll-CoreNode Node (Code → Code) stmt_node stmt_step x)) (alone _ p))
    (λ x y is. subst (λ f. Alone f) (sym (fold-roll-CoreStmt Node (Code → Code) stmt_node stmt_step x)) (subst (λ n. Alone (node_fold n x.place)) (ap (λ z. z.node) is) (y.node.1 x.place)))

pub is_plain : (s : CoreStmt) (n : ℕ) → opens 0 (code_of (s ∷ [])) ≡ false → IsPart n n s (at s.place (variant.Plain s))
is_plain s n h c w r = subst (λ v. Walks v (numbered n (stmt_code s c))) (sym (plain_stands s.place w s)) (record {
  first = λ x o. ap (Plain (code_of (s ∷ []))) (r.first x o) ∙ sym ((stmt_alone s).first n h c x o);
  others = λ x o. r.others x o ∙ sym ((stmt_alone s).others n h c x o);
})

pub plain_waits : (s : CoreStmt) → opens 0 (code_of (s ∷ [])) ≡ false → waits_in (code_of (s ∷ [])) ≡ 0
plain_waits s h = no_waits (code_of (s ∷ [])) 0 h

test_walks : (p : Place) (t : Term) (va vb w : Walk) (a b c : Code) → Walks va a → Walks vb b → Walks w c → opens 0 (If p t a b End) ≡ true → Walks (tested p t va vb w) (If p t a b c)
test_walks p t va vb w a b c ra rb r h = record {
  first = λ x o. ap (λ y. Test p t (va.first y o) (vb.first y o)) (r.first x o)
      ∙ ap (λ y. Test p t y (vb.first (segment c x o) o)) (ra.first (segment c x o) o)
      ∙ ap (Test p t (segment a (segment c x o) o)) (rb.first (segment c x o) o)
      ∙ ap (λ q. opened q (Test p t (segment a (segment c x o) o) (segment b (segment c x o) o)) (Plain (If p t a b End) (segment c x o))) (sym h);
  others = λ x o. ap (λ y. va.others y o ++ (vb.others y o ++ w.others x o)) (r.first x o)
      ∙ ap (λ l. l ++ (vb.others (segment c x o) o ++ w.others x o)) (ra.others (segment c x o) o)
      ∙ ap (λ l. segments a (segment c x o) o ++ (l ++ w.others x o)) (rb.others (segment c x o) o)
      ∙ ap (λ l. segments a (segment c x o) o ++ (segments b (segment c x o) o ++ l)) (r.others x o);
}

block_walks : (p : Place) (v w : Walk) (b c : Code) → Walks v b → Walks w c → opens 0 (Block p b End) ≡ true → Walks (blocked v w) (Block p b c)
block_walks p v w b c rb r h = record {
  first = λ x o. ap (λ y. v.first y (y ∷ o)) (r.first x o)
      ∙ rb.first (segment c x o) (segment c x o ∷ o)
      ∙ ap (λ q. opened q (segment b (segment c x o) (segment c x o ∷ o)) (Plain (Block p b End) (segment c x o))) (sym h);
  others = λ x o. ap (λ y. v.others y (y ∷ o) ++ w.others x o) (r.first x o)
      ∙ ap (λ l. l ++ w.others x o) (rb.others (segment c x o) (segment c x o ∷ o))
      ∙ ap (λ l. segments b (segment c x o) (segment c x o ∷ o) ++ l) (r.others x o);
}

loop_walks : (p : Place) (k : Option Count) (v w : Walk) (b c : Code) → Walks v b → Walks w c → opens 0 (Loop p k b End) ≡ true → Walks (looped v w) (Loop p k b c)
loop_walks p k v w b c rb r h = record { first = again; others = λ x o. by x o }
  where
    again : (x : Segment) (o : List Segment) → v.first Finish o ≡ segment (Loop p k b c) x o
    again x o = rb.first Finish o ∙ ap (λ q. opened q (segment b Finish o) (Plain (Loop p k b End) (segment c x o))) (sym h)

    by : (x : Segment) (o : List Segment) → v.others (v.first Finish o) o ++ w.others x o ≡ segments (Loop p k b c) x o
    by x o = ap (λ y. v.others y o ++ w.others x o) (again x o)
        ∙ ap (λ l. l ++ w.others x o) (rb.others (segment (Loop p k b c) x o) o)
        ∙ ap (λ l. segments b (segment (Loop p k b c) x o) o ++ l) (r.others x o)

behind_both : (n a b n' m : ℕ) → n' ≡ n + a → m ≡ n' + b → m ≡ n + (a + b)
behind_both n a b n' m h i = omega (arith, h, i)

pub is_test : (s : CoreStmt) (t : CoreExpr) (a b : List CoreStmt) (n n' m : ℕ) (pa pb : List Part) → s.node ≡ stmt.If t a b → opens 0 (code_of (s ∷ [])) ≡ true
    → n' ≡ n + waits_in (code_of a) → m ≡ n' + waits_in (code_of b) → AreParts n a pa → AreParts n' b pb → IsPart n m s (at s.place (variant.Test t pa pb))
is_test s t a b n n' m pa pb is h na nb ra rb c w r =
    let o = if_open s.place (term_of t) (code_of a) (code_of b) n (ap (opens 0) (sym (tests s t a b is End)) ∙ h) in
    subst (λ v. Walks v (numbered n (stmt_code s c))) (sym (test_stands s.place w t pa pb))
    (subst (λ d. Walks (tested s.place (term_of t) (walk_of pa) (walk_of pb) w) (numbered n d)) (sym (tests s t a b is c))
    (test_walks s.place (term_of t) (walk_of pa) (walk_of pb) w (numbered n (code_of a)) (numbered (n + waits_in (code_of a)) (code_of b)) (numbered (n + (waits_in (code_of a) + waits_in (code_of b))) c)
    ra (subst (λ k. Walks (walk_of pb) (numbered k (code_of b))) na rb)
    (subst (λ k. Walks w (numbered k c)) (behind_both n (waits_in (code_of a)) (waits_in (code_of b)) n' m na nb) r) o))

pub is_block : (s : CoreStmt) (b : List CoreStmt) (n m : ℕ) (pb : List Part) → s.node ≡ stmt.Block b → opens 0 (code_of (s ∷ [])) ≡ true
    → m ≡ n + waits_in (code_of b) → AreParts n b pb → IsPart n m s (at s.place (variant.Block pb))
is_block s b n m pb is h nb rb c w r =
    let o = block_open s.place (code_of b) n (ap (opens 0) (sym (blocks s b is End)) ∙ h) in
    subst (λ v. Walks v (numbered n (stmt_code s c))) (sym (block_stands s.place w pb))
    (subst (λ d. Walks (blocked (walk_of pb) w) (numbered n d)) (sym (blocks s b is c))
    (block_walks s.place (walk_of pb) w (numbered n (code_of b)) (numbered (n + waits_in (code_of b)) c) rb (subst (λ k. Walks w (numbered k c)) nb r) o))

pub is_loop : (s : CoreStmt) (k : Option Counting) (b : List CoreStmt) (n m : ℕ) (pb : List Part) → s.node ≡ stmt.Loop k b → opens 0 (code_of (s ∷ [])) ≡ true
    → m ≡ n + waits_in (code_of b) → AreParts n b pb → IsPart n m s (at s.place (variant.Loop pb))
is_loop s k b n m pb is h nb rb c w r =
    let o = loop_open s.place (counted k) (code_of b) n (ap (opens 0) (sym (loops s k b is End)) ∙ h) in
    subst (λ v. Walks v (numbered n (stmt_code s c))) (sym (loop_stands s.place w pb))
    (subst (λ d. Walks (looped (walk_of pb) w) (numbered n d)) (sym (loops s k b is c))
    (loop_walks s.place (counted k) (walk_of pb) w (numbered n (code_of b)) (numbered (n + waits_in (code_of b)) c) rb (subst (λ j. Walks w (numbered j c)) nb r) o))

pub is_exit : (s : CoreStmt) (k n : ℕ) → s.node ≡ stmt.Exit k → IsPart n n s (at s.place (variant.Exit k))
is_exit s k n is c w r =
    subst (λ v. Walks v (numbered n (stmt_code s c))) (sym (exit_stands s.place w k))
    (subst (λ d. Walks (left k w) (numbered n d)) (sym (exits s k is c)) (record { first = λ x o. refl; others = r.others }))

pub is_wait : (s : CoreStmt) (k n : ℕ) → s.node ≡ stmt.Wait k → IsPart n (n + 1) s (at s.place (variant.Wait n k))
is_wait s k n is c w r =
    subst (λ v. Walks v (numbered n (stmt_code s c))) (sym (wait_stands s.place w n k))
    (subst (λ d. Walks (halted s.place n k w) (numbered n d)) (sym (waits s k is c))
    (record { first = λ x o. refl; others = λ x o. ap (λ y. y ∷ w.others x o) (r.first x o) ∙ ap (λ l. segment (numbered (n + 1) c) x o ∷ l) (r.others x o) }))

-- how many waits each adds
pub test_waits : (s : CoreStmt) (t : CoreExpr) (a b : List CoreStmt) → s.node ≡ stmt.If t a b → waits_in (code_of (s ∷ [])) ≡ waits_in (code_of a) + (waits_in (code_of b) + 0)
test_waits s t a b is = ap waits_in (tests s t a b is End)

pub block_waits : (s : CoreStmt) (b : List CoreStmt) → s.node ≡ stmt.Block b → waits_in (code_of (s ∷ [])) ≡ waits_in (code_of b) + 0
block_waits s b is = ap waits_in (blocks s b is End)

pub loop_waits : (s : CoreStmt) (k : Option Counting) (b : List CoreStmt) → s.node ≡ stmt.Loop k b → waits_in (code_of (s ∷ [])) ≡ waits_in (code_of b) + 0
loop_waits s k b is = ap waits_in (loops s k b is End)

pub exit_waits : (s : CoreStmt) (k : ℕ) → s.node ≡ stmt.Exit k → waits_in (code_of (s ∷ [])) ≡ 0
exit_waits s k is = ap waits_in (exits s k is End)

pub wait_waits : (s : CoreStmt) (k : ℕ) → s.node ≡ stmt.Wait k → waits_in (code_of (s ∷ [])) ≡ 1
wait_waits s k is = ap waits_in (waits s k is End)

-- one part more behind others
chain_last : (fs : List (Walk → Walk)) (f : Walk → Walk) (w : Walk) → chain (fs ++ f ∷ []) w ≡ chain fs (f w)
chain_last [] f w = refl
chain_last (g ∷ fs) f w = ap g (chain_last fs f w)

map_last : (ps : List Part) (p : Part) → map part_walk (ps ++ p ∷ []) ≡ map part_walk ps ++ part_walk p ∷ []
map_last [] p = refl
map_last (q ∷ ps) p = ap (λ l. part_walk q ∷ l) (map_last ps p)

pub one_part : (ss : List CoreStmt) (i : ℕ) (s : CoreStmt) (ps : List Part) (p : Part) (n m m' : ℕ) → i < length ss → s ≡ get_or ss i s → IsPart m m' s p
    → ((w : Walk) → Walks w (numbered m (code_of (drop i ss))) → Walks (chain (map part_walk ps) w) (numbered n (code_of ss)))
    → (w : Walk) → Walks w (numbered m' (code_of (drop (i + 1) ss))) → Walks (chain (map part_walk (ps ++ p ∷ [])) w) (numbered n (code_of ss))
one_part ss i s ps p n m m' h is part so w r =
    let here = subst (λ c. Walks (part_walk p w) (numbered m c)) (sym (from_here ss i s h is)) (part (code_of (drop (i + 1) ss)) w r) in
    subst (λ v. Walks v (numbered n (code_of ss))) (sym (ap (λ fs. chain fs w) (map_last ps p) ∙ chain_last (map part_walk ps) (part_walk p) w)) (so (part_walk p w) here)

pub all_parts : (ss : List CoreStmt) (i : ℕ) (ps : List Part) (n m : ℕ) → length ss ≤ i
    → ((w : Walk) → Walks w (numbered m (code_of (drop i ss))) → Walks (chain (map part_walk ps) w) (numbered n (code_of ss))) → AreParts n ss ps
all_parts ss i ps n m h so = so ended (subst (λ xs. Walks ended (numbered m (code_of xs))) (sym (drop_all i ss h)) (record { first = λ x o. refl; others = λ x o. refl }))
