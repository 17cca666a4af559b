-- Statements of an unrolled body, one by one.
use Rattle.std.proofs.Common.{◌≡◌, refl, sym, ap, subst, ◌∙◌, ℕ, true, List, ◌∷◌, map, Option, Some, None, option_map}
use Rattle.scc_base.specs.declared.refusal.Place.{Place}
use Rattle.scc_bits_kinds.specs.declared.kind.Word.{Word}
use Rattle.scc_core.specs.declared.copy.Counter.{Counter as Held}
use Rattle.scc_core.specs.declared.expr.CoreExpr.{CoreExpr}
use Rattle.scc_core.specs.declared.expr.CoreExprNode.{roll-CoreExprNode}
use Rattle.scc_core.specs.declared.expr.CoreBase.TheOpen as tree
use Rattle.scc_core.specs.declared.expr.CoreLeft.{CoreLeft}
use Rattle.scc_core.specs.declared.stmt.Count.{Count as HeldCount}
use Rattle.scc_core.specs.declared.stmt.CoreStmt.{CoreStmt}
use Rattle.scc_core.specs.declared.stmt.CoreNode.TheVariants as node
use Rattle.scc_core.specs.declared.stmt.Pointed.{Pointed as Aimed}
use Rattle.scc_core.specs.declared.stmt.Pointed.TheVariants as aimed
use Rattle.scc_core.specs.Counters as with
use Rattle.scc_core_spec.specs.Term.{Literal, Pick, Term, Whole, OneBit, Bits, kind_of, place_of}
use Rattle.scc_core_spec.specs.Code.{Code, Count, Pointed, End, Put, Aim, If, Block, Loop, Exit, Wait}
use Rattle.scc_core_spec.specs.Counted.{Counter, Counting, First, Elsewhere, Setting, Stand, Turning, counted_by, counter, counting, counting_left, counting_pick, ended, is_whole, turning_of}
use Rattle.scc_core_spec.specs.Unrolled.{counting_count, counting_to, looped_or, stepped, unrolled, written_out}
use Rattle.scc_core_view.specs.Codes.{code_of, count_of, counted, pointed_of, stmt_code}
use Rattle.scc_core_view.specs.Terms.{taken_of, term_of}
use Rattle.scc_unroll_laws.specs.Counters.{counters_of}
use Rattle.scc_unroll_laws.specs.Heads.{stand_behind}
use Rattle.scc_unroll_laws.specs.Writing.{set_before}
use Rattle.scc_unroll_laws.proofs.Counting.{copy_says, left_copy_says}
use Rattle.scc_unroll_laws.proofs.Stmts.{as_put, as_aim, as_if, as_block, as_loop, as_exit, as_wait}
use Rattle.scc_unroll_laws.proofs.Trees.{term_made}

-- ---- what copies of parts stand for

module _ (ns : List Held) where
  abbrev cs : List Counter
  cs = counters_of ns

  term_is : (e f : CoreExpr) → f ≡ with.counted ns e → term_of f ≡ counting cs (term_of e)
  term_is e f h = ap term_of h ∙ copy_says ns e

  left_is : (l m : CoreLeft) → m ≡ with.counted_left ns l → (taken_of m).left ≡ counting_left cs (taken_of l).left
  left_is l m h = ap (λ x. (taken_of x).left) h ∙ (left_copy_says ns l).left

  pick_is : (l m : CoreLeft) → m ≡ with.counted_left ns l → (taken_of m).pick ≡ counting_pick cs (taken_of l).pick
  pick_is l m h = ap (λ x. (taken_of x).pick) h ∙ (left_copy_says ns l).pick

  pub count_is : (c d : HeldCount) → d ≡ with.counted_count ns c → count_of d ≡ counting_count cs (count_of c)
  count_is c d h =
      let made : Term → Term → Term → Count = λ a b s. record { cell = c.cell; start = a; compare = c.compare; bound = b; step_op = c.step_op; step = s } in
      ap count_of h
      ∙ ap (λ a. made a (term_of (with.counted ns c.bound)) (term_of (with.counted ns c.step))) (copy_says ns c.start)
      ∙ ap (λ b. made (counting cs (term_of c.start)) b (term_of (with.counted ns c.step))) (copy_says ns c.bound)
      ∙ ap (λ s. made (counting cs (term_of c.start)) (counting cs (term_of c.bound)) s) (copy_says ns c.step)

  pointed_is : (to up : Aimed) → up ≡ with.counted_pointed ns to → pointed_of up ≡ counting_to cs (pointed_of to)
  pointed_is to up h = ap pointed_of h ∙ by to
    where
      by : (to : Aimed) → pointed_of (with.counted_pointed ns to) ≡ counting_to cs (pointed_of to)
      by (aimed.Declared n) = refl
      by (aimed.Assigned l) = ap Rattle.scc_core_spec.specs.Code.Assigned (left_copy_says ns l).left

  -- ---- what is made of them

  pub put_made : (p : Place) (l m : CoreLeft) (e f : CoreExpr) → m ≡ with.counted_left ns l → f ≡ with.counted ns e → (r : Code)
      → stmt_code (record { place = p; node = node.Assign m f }) r ≡ Put p (counting_left cs (taken_of l).left) (counting_pick cs (taken_of l).pick) (counting cs (term_of e)) r
  put_made p l m e f h k r =
      ap (λ g. g r) (as_put (record { place = p; node = node.Assign m f }) m f refl)
      ∙ ap (λ x. Put p x (taken_of m).pick (term_of f) r) (left_is l m h)
      ∙ ap (λ x. Put p (counting_left cs (taken_of l).left) x (term_of f) r) (pick_is l m h)
      ∙ ap (λ x. Put p (counting_left cs (taken_of l).left) (counting_pick cs (taken_of l).pick) x r) (term_is e f k)

  pub aim_made : (p : Place) (to up : Aimed) (l m : CoreLeft) → up ≡ with.counted_pointed ns to → m ≡ with.counted_left ns l → (r : Code)
      → stmt_code (record { place = p; node = node.Alias up m }) r ≡ Aim p (counting_to cs (pointed_of to)) (counting_left cs (taken_of l).left) r
  aim_made p to up l m h k r =
      ap (λ g. g r) (as_aim (record { place = p; node = node.Alias up m }) up m refl)
      ∙ ap (λ x. Aim p x (taken_of m).left r) (pointed_is to up h)
      ∙ ap (λ x. Aim p (counting_to cs (pointed_of to)) x r) (left_is l m k)

  pub if_made : (p : Place) (e f : CoreExpr) (a b : List CoreStmt) → f ≡ with.counted ns e → (r : Code)
      → stmt_code (record { place = p; node = node.If f a b }) r ≡ If p (counting cs (term_of e)) (code_of a) (code_of b) r
  if_made p e f a b h r = ap (λ g. g r) (as_if (record { place = p; node = node.If f a b }) f a b refl) ∙ ap (λ x. If p x (code_of a) (code_of b) r) (term_is e f h)

  pub loop_made : (p : Place) (c d : Option HeldCount) (b : List CoreStmt) → counted d ≡ option_map (counting_count cs) (counted c) → (r : Code)
      → stmt_code (record { place = p; node = node.Loop d b }) r ≡ Loop p (option_map (counting_count cs) (counted c)) (code_of b) r
  loop_made p c d b h r = ap (λ g. g r) (as_loop (record { place = p; node = node.Loop d b }) d b refl) ∙ ap (λ x. Loop p x (code_of b) r) h

pub block_made : (p : Place) (b : List CoreStmt) (c r : Code) → code_of b ≡ c → stmt_code (record { place = p; node = node.Block b }) r ≡ Block p c r
block_made p b c r h = ap (λ g. g r) (as_block (record { place = p; node = node.Block b }) b refl) ∙ ap (λ x. Block p x r) h

-- ---- the step of a turn

whole_is : (k : Pick) → is_whole k ≡ true → k ≡ Whole
whole_is Whole h = refl
whole_is (OneBit i) h = absurd (cc h)
whole_is (Bits a b) h = absurd (cc h)

pub step_made : (t : Turning) (p : Place) (l m : CoreLeft) (e f : CoreExpr) (w : Word) → p ≡ t.step_place → (taken_of l).left ≡ t.step_left → is_whole (taken_of l).pick ≡ true → m ≡ l
    → e.place ≡ place_of t.step → e.kind ≡ kind_of t.step → f ≡ record { place = e.place; kind = e.kind; node = roll-CoreExprNode (tree.Lit w) } → (r : Code)
    → stmt_code (record { place = p; node = node.Assign m f }) r ≡ stepped (Some t) w.bits r
step_made t p l m e f w hp hl hw hm he hk hf r =
    ap (λ g. g r) (as_put (record { place = p; node = node.Assign m f }) m f refl)
    ∙ ap (λ x. Put x (taken_of m).left (taken_of m).pick (term_of f) r) hp
    ∙ ap (λ x. Put t.step_place x (taken_of m).pick (term_of f) r) (ap (λ x. (taken_of x).left) hm ∙ hl)
    ∙ ap (λ x. Put t.step_place t.step_left x (term_of f) r) (ap (λ x. (taken_of x).pick) hm ∙ whole_is (taken_of l).pick hw)
    ∙ ap (λ x. Put t.step_place t.step_left Whole x r) (ap term_of hf ∙ term_made e.place e.kind (tree.Lit w) ∙ ap (λ x. Literal x e.kind w.bits) he ∙ ap (λ x. Literal (place_of t.step) x w.bits) hk)

-- ---- a statement, as unrolling has it

module _ (s : Setting) (ns : List Counter) (x z : CoreStmt) (w : Stand) (r : Code) where
  abbrev IsCopied : (Code → Code) → Type 0
  IsCopied f = unrolled s ns w (f r) ≡ stmt_code z (unrolled s ns (stand_behind w (f End)) r)

  pub put_copied : (l : CoreLeft) (e : CoreExpr) → x.node ≡ node.Assign l e
      → ((q : Code) → stmt_code z q ≡ Put x.place (counting_left ns (taken_of l).left) (counting_pick ns (taken_of l).pick) (counting ns (term_of e)) q) → IsCopied (stmt_code x)
  put_copied l e is h = subst IsCopied (sym (as_put x l e is)) (sym (h _))

  pub aim_copied : (to : Aimed) (l : CoreLeft) → x.node ≡ node.Alias to l
      → ((q : Code) → stmt_code z q ≡ Aim x.place (counting_to ns (pointed_of to)) (counting_left ns (taken_of l).left) q) → IsCopied (stmt_code x)
  aim_copied to l is h = subst IsCopied (sym (as_aim x to l is)) (sym (h _))

  pub if_copied : (t : CoreExpr) (a b : List CoreStmt) (c d : List CoreStmt) → x.node ≡ node.If t a b → code_of c ≡ unrolled s ns Elsewhere (code_of a) → code_of d ≡ unrolled s ns Elsewhere (code_of b)
      → ((q : Code) → stmt_code z q ≡ If x.place (counting ns (term_of t)) (code_of c) (code_of d) q) → IsCopied (stmt_code x)
  if_copied t a b c d is f g h =
      subst IsCopied (sym (as_if x t a b is))
      (sym (h _ ∙ ap (λ y. If x.place (counting ns (term_of t)) y (code_of d) (unrolled s ns Elsewhere r)) f ∙ ap (λ y. If x.place (counting ns (term_of t)) (unrolled s ns Elsewhere (code_of a)) y (unrolled s ns Elsewhere r)) g))

  pub block_copied : (b : List CoreStmt) → x.node ≡ node.Block b → ((q : Code) → stmt_code z q ≡ Block x.place (unrolled s ns First (code_of b)) q) → IsCopied (stmt_code x)
  block_copied b is h = subst IsCopied (sym (as_block x b is)) (sym (h _))

  pub exit_copied : (n : ℕ) → x.node ≡ node.Exit n → z ≡ record { place = x.place; node = node.Exit n } → IsCopied (stmt_code x)
  exit_copied n is h = subst IsCopied (sym (as_exit x n is)) (sym (ap (λ y. stmt_code y (unrolled s ns Elsewhere r)) h ∙ ap (λ g. g (unrolled s ns Elsewhere r)) (as_exit (record { place = x.place; node = node.Exit n }) n refl)))

  pub wait_copied : (n : ℕ) → x.node ≡ node.Wait n → z ≡ record { place = x.place; node = node.Wait n } → IsCopied (stmt_code x)
  wait_copied n is h = subst IsCopied (sym (as_wait x n is)) (sym (ap (λ y. stmt_code y (unrolled s ns Elsewhere r)) h ∙ ap (λ g. g (unrolled s ns Elsewhere r)) (as_wait (record { place = x.place; node = node.Wait n }) n refl)))

  -- a loop that stays
  pub loop_copied : (c : Option HeldCount) (b : List CoreStmt) → x.node ≡ node.Loop c b → ended (counted_by s ns w (counted c) (code_of b) r) ≡ None
      → ((q : Code) → stmt_code z q ≡ Loop x.place (option_map (counting_count ns) (counted c)) (unrolled s ns Elsewhere (code_of b)) q) → IsCopied (stmt_code x)
  loop_copied c b is e h =
      subst IsCopied (sym (as_loop x c b is)) (ap by e ∙ sym (h _))
    where
      by : Option Counting → Code
      by g = looped_or g (λ g. written_out (turning_of (code_of b)) (map (λ x. (x, unrolled s (counter g.cell x.now ∷ ns) Elsewhere (code_of b))) g.turns.list) (unrolled s ns Elsewhere r))
          (Loop x.place (option_map (counting_count ns) (counted c)) (unrolled s ns Elsewhere (code_of b)) (unrolled s ns Elsewhere r))

-- one that is written out
pub loop_written : (s : Setting) (ns : List Counter) (x : CoreStmt) (w : Stand) (r : Code) (os us : List CoreStmt) (c : Option HeldCount) (b : List CoreStmt) (g : Counting)
    → x.node ≡ node.Loop c b → ended (counted_by s ns w (counted c) (code_of b) r) ≡ Some g
    → ((q : Code) → set_before us q ≡ set_before os (written_out (turning_of (code_of b)) (map (λ x. (x, unrolled s (counter g.cell x.now ∷ ns) Elsewhere (code_of b))) g.turns.list) q))
    → set_before os (unrolled s ns w (stmt_code x r)) ≡ set_before us (unrolled s ns (stand_behind w (stmt_code x End)) r)
loop_written s ns x w r os us c b g is e h =
    let P : (Code → Code) → Type 0 = λ f. set_before os (unrolled s ns w (f r)) ≡ set_before us (unrolled s ns (stand_behind w (f End)) r) in
    subst P (sym (as_loop x c b is)) (ap (λ g. set_before os (by g)) e ∙ sym (h (unrolled s ns Elsewhere r)))
  where
    by : Option Counting → Code
    by g = looped_or g (λ g. written_out (turning_of (code_of b)) (map (λ x. (x, unrolled s (counter g.cell x.now ∷ ns) Elsewhere (code_of b))) g.turns.list) (unrolled s ns Elsewhere r))
        (Loop x.place (option_map (counting_count ns) (counted c)) (unrolled s ns Elsewhere (code_of b)) (unrolled s ns Elsewhere r))
