-- Statements become code that does what they do, one behind the other.
use Rattle.std.proofs.Common.{◌≡◌, ℕ, zero, suc, ◌+◌, ◌-◌, ◌*◌, ◌<◌, ◌≤◌, ◌^◌, max, nat_eq, nat_lt, not, Bool, true, false, ◌&&◌, ◌||◌, if◌then◌else◌, List, [], ◌∷◌, ◌++◌, map, length, slice_get, Option, Some, None, refl, sym, ◌∙◌, ap, subst, arith}
use Rattle.std.proofs.lemmas.List.{append_assoc, append-nil, length-append, length-map}
use Rattle.scc_base.specs.declared.refusal.Place.{Place}
use Rattle.scc_bits_kinds.specs.Kinds.{width_of}
use Rattle.scc_bits.specs.Value.{Number}
use Rattle.scc_core.specs.declared.expr.CoreExpr.{CoreExpr}
use Rattle.scc_core.specs.declared.expr.CoreLeft.{CoreLeft}
use Rattle.scc_core.specs.declared.program.Cell.{Cell as Held}
use Rattle.scc_core.specs.declared.stmt.CoreStmt.{CoreStmt, fold-roll-CoreStmt, ind-CoreStmt}
use Rattle.scc_core.specs.declared.stmt.CoreNode.{CoreNode, fold-CoreNode, fold-roll-CoreNode}
use Rattle.scc_core.specs.declared.stmt.CoreNode.TheOpen.{CoreNode-F}
use Rattle.scc_core.specs.declared.stmt.CoreNode.TheOpen as tree
use Rattle.scc_core.specs.declared.stmt.CoreNode.TheVariants as node
use Rattle.scc_core_spec.specs.Code as core
use Rattle.scc_core_spec.specs.Code.{append}
use Rattle.scc_core_spec.specs.Static.{Cells}
use Rattle.scc_core_spec.specs.Term.{Term, kind_of}
use Rattle.scc_core_view.specs.Codes.{Node, stmt_node, stmt_step, stmt_code, before, code_of}
use Rattle.scc_core_view.specs.Programs.{cell_of}
use Rattle.scc_core_view.specs.Terms.{term_of, taken_of}
use Rattle.scc_core_view.proofs.Layers.{assigns, tests, blocks, exits}
use Rattle.scc_svtree.specs.declared.expr.SvBinary.TheVariants as binary
use Rattle.scc_svtree.specs.Code.{Code, End, Assign, If}
use Rattle.scc_svtree.specs.Term as emitted
use Rattle.scc_svtree.specs.Running.{run}
use Rattle.scc_blocks_spec.specs.Acting.{Acting, word_in}
use Rattle.scc_blocks_spec.specs.Effect.{Effect, Fell, Left_out, Lost, assigned, branch, effect, or_lost, shut, then_effect}
use Rattle.scc_blocks_spec.specs.Shown.{Shows, Sight, top_number}
use Rattle.scc_blocks_spec.specs.Lowered.{Fits, IsLoweredCode}
use Rattle.scc_lower_laws.specs.Elements.{variable_of}
use Rattle.scc_lower_laws.specs.Lowers.{IsNumbered, Knows, Lowers, Makes, temporary}
use Rattle.scc_lower_laws.specs.Outcome.{Known, Made, Outcome, text_of}
use Rattle.scc_lower_laws.specs.Puts.{AssignsBelow}
use Rattle.scc_lower_laws.specs.Sequence.{then_code, whole}
use Rattle.scc_lower_laws.specs.Statements.{FitLeaving, Guarded, LowersCode, ShowsEffect, Skips, back_code, block_code, guard_code, leave_code, leaving}
use Rattle.scc_lower_laws.proofs.Frames.{either_assigns, shows-stays}
use Rattle.scc_lower_laws.proofs.Leaving.{guard-skips}
use Rattle.scc_lower_laws.proofs.Sequence.{then-run}
use Rattle.scc_lower_laws.proofs.Statements.{block, code-is, effect-then, either, ended, exit, guarded, known-either, put, skips-end, wider}
use Rattle.scc_lower_tree_laws.specs.Assigning.{Assigning}
use Rattle.scc_lower_tree_laws.specs.Becoming.{Becomes}
use Rattle.scc_lower_tree_laws.specs.Sound.{IsSound}
use Rattle.scc_lower_tree_laws.specs.States.{Agrees, Given, Leaves, Seen, Sees, State}
use Rattle.scc_lower_tree_laws.specs.Stating.{AreFine, IsFine, Keeps, Stating, Under, Within, around, back, cleared, deeper, either_left, greatest, guard, inside, is_leaving, itself, leave, no_part, none_left, one_left, yes_part}
use Rattle.scc_lower_tree_laws.proofs.Leaving.{agrees-before, sees-on, then-end}

-- ---- code of lists

append-append : (a b c : core.Code) → append (append a b) c ≡ append a (append b c)
append-append core.End b c = refl
append-append (core.Put p l k e r) b c = ap (λ z. core.Put p l k e z) (append-append r b c)
append-append (core.Aim p to t r) b c = ap (λ z. core.Aim p to t z) (append-append r b c)
append-append (core.If p t x y r) b c = ap (λ z. core.If p t x y z) (append-append r b c)
append-append (core.Block p x r) b c = ap (λ z. core.Block p x z) (append-append r b c)
append-append (core.Loop p n x r) b c = ap (λ z. core.Loop p n x z) (append-append r b c)
append-append (core.Exit p n r) b c = ap (λ z. core.Exit p n z) (append-append r b c)
append-append (core.Wait p l n r) b c = ap (λ z. core.Wait p l n z) (append-append r b c)

adds : (y : CoreNode-F Node (core.Code → core.Code)) (p : Place) (c : core.Code) → stmt_node y p c ≡ append (stmt_node y p core.End) c
adds (tree.Assign l e) p c = refl
adds (tree.If t a b) p c = refl
adds (tree.Block b) p c = refl
adds (tree.Loop n b) p c = refl
adds (tree.Exit n) p c = refl
adds (tree.Wait n) p c = refl
adds (tree.Alias to target) p c = refl

abbrev node_fold : CoreNode → Node
node_fold = fold-CoreNode Node (core.Code → core.Code) stmt_node stmt_step

stmt-adds : (s : CoreStmt) (c : core.Code) → stmt_code s c ≡ append (stmt_code s core.End) c
stmt-adds = ind-CoreStmt (λ n. (p : Place) (c : core.Code) → node_fold n p c ≡ append (node_fold n p core.End) c) (λ s. (c : core.Code) → stmt_code s c ≡ append (stmt_code s core.End) c)
    (λ x y is p. subst (λ f. (c : core.Code) → f p c ≡ append (f p core.End) c) (sym (fold-roll-CoreNode Node (core.Code → core.Code) stmt_node stmt_step x)) (adds _ p))
    (λ x y is. subst (λ f. (c : core.Code) → f c ≡ append (f core.End) c) (sym (fold-roll-CoreStmt Node (core.Code → core.Code) stmt_node stmt_step x))
    (subst (λ n. (c : core.Code) → node_fold n x.place c ≡ append (node_fold n x.place core.End) c) (ap (λ z. z.node) is) (y.node.1 x.place)))

pub code-more : (ss : List CoreStmt) (x : CoreStmt) → code_of (ss ++ x ∷ []) ≡ append (code_of ss) (stmt_code x core.End)
code-more [] x = refl
code-more (s ∷ ss) x =
    ap (stmt_code s) (code-more ss x)
    ∙ stmt-adds s (append (code_of ss) (stmt_code x core.End))
    ∙ sym (append-append (stmt_code s core.End) (code_of ss) (stmt_code x core.End))
    ∙ ap (λ c. append c (stmt_code x core.End)) (sym (stmt-adds s (code_of ss)))

-- ---- what a part leaves, and then the rest

effect-append : (cs : Cells) (c d : core.Code) (a : Acting) → effect cs (append c d) a ≡ then_effect (effect cs c a) (effect cs d)
effect-append cs core.End d a = refl
effect-append cs (core.Put p l k e r) d a = by (effect-append cs r d) (assigned cs a l k e)
  where
    by : ((b : Acting) → effect cs (append r d) b ≡ then_effect (effect cs r b) (effect cs d)) → (o : Option Acting) → or_lost o (effect cs (append r d)) ≡ then_effect (or_lost o (effect cs r)) (effect cs d)
    by h None = refl
    by h (Some b) = h b
effect-append cs (core.Aim p to t r) d a = refl
effect-append cs (core.If p t x y r) d a = by (effect-append cs r d) (word_in cs a t)
  where
    behind : ((b : Acting) → effect cs (append r d) b ≡ then_effect (effect cs r b) (effect cs d)) → (z : Effect) → then_effect z (effect cs (append r d)) ≡ then_effect (then_effect z (effect cs r)) (effect cs d)
    behind h (Fell b) = h b
    behind h (Left_out n b) = refl
    behind h Lost = refl

    by : ((b : Acting) → effect cs (append r d) b ≡ then_effect (effect cs r b) (effect cs d)) → (o : Option ℕ)
        → or_lost o (λ n. then_effect (branch n (effect cs x a) (effect cs y a)) (effect cs (append r d))) ≡ then_effect (or_lost o (λ n. then_effect (branch n (effect cs x a) (effect cs y a)) (effect cs r))) (effect cs d)
    by h None = refl
    by h (Some n) = behind h (branch n (effect cs x a) (effect cs y a))
effect-append cs (core.Block p x r) d a = by (effect-append cs r d) (effect cs x a)
  where
    by : ((b : Acting) → effect cs (append r d) b ≡ then_effect (effect cs r b) (effect cs d)) → (z : Effect) → shut z (effect cs (append r d)) ≡ then_effect (shut z (effect cs r)) (effect cs d)
    by h (Fell b) = h b
    by h (Left_out zero b) = h b
    by h (Left_out (suc n) b) = refl
    by h Lost = refl
effect-append cs (core.Loop p n x r) d a = refl
effect-append cs (core.Exit p n r) d a = refl
effect-append cs (core.Wait p l n r) d a = refl

greatest-first : (k : ℕ) (c d : core.Code) → greatest k c ≤ greatest k (append c d)
greatest-first k core.End d = omega arith
greatest-first k (core.Put p l j e r) d = greatest-first k r d
greatest-first k (core.Aim p to t r) d = greatest-first k r d
greatest-first k (core.If p t x y r) d = omega (arith, greatest-first k r d)
greatest-first k (core.Block p x r) d = omega (arith, greatest-first k r d)
greatest-first k (core.Loop p n x r) d = omega (arith, greatest-first k r d)
greatest-first k (core.Exit p n r) d = omega (arith, greatest-first k r d)
greatest-first k (core.Wait p l n r) d = greatest-first k r d

greatest-then : (k : ℕ) (c d : core.Code) → greatest k d ≤ greatest k (append c d)
greatest-then k core.End d = omega arith
greatest-then k (core.Put p l j e r) d = greatest-then k r d
greatest-then k (core.Aim p to t r) d = greatest-then k r d
greatest-then k (core.If p t x y r) d = omega (arith, greatest-then k r d)
greatest-then k (core.Block p x r) d = omega (arith, greatest-then k r d)
greatest-then k (core.Loop p n x r) d = omega (arith, greatest-then k r d)
greatest-then k (core.Exit p n r) d = omega (arith, greatest-then k r d)
greatest-then k (core.Wait p l n r) d = greatest-then k r d

-- of two parts the greater number
pub greatest-append : (k : ℕ) (c d : core.Code) → greatest k (append c d) ≡ max (greatest k c) (greatest k d)
greatest-append k core.End d = omega arith
greatest-append k (core.Put p l j e r) d = greatest-append k r d
greatest-append k (core.Aim p to t r) d = greatest-append k r d
greatest-append k (core.If p t x y r) d = omega (arith, greatest-append k r d)
greatest-append k (core.Block p x r) d = omega (arith, greatest-append k r d)
greatest-append k (core.Loop p n x r) d = omega (arith, greatest-append k r d)
greatest-append k (core.Exit p n r) d = omega (arith, greatest-append k r d)
greatest-append k (core.Wait p l n r) d = greatest-append k r d

or-left : (a b : Bool) → a ≡ true → (a || b) ≡ true
or-left true b e = refl
or-left false b e = absurd (cc)

or-right : (a b : Bool) → b ≡ true → (a || b) ≡ true
or-right true b e = refl
or-right false b e = e

or-case : (P : Type 0) (a b : Bool) → (a || b) ≡ true → (a ≡ true → P) → (b ≡ true → P) → P
or-case P true b e f h = f refl
or-case P false b e f h = h e

and-first : (a b : Bool) → (a && b) ≡ true → a ≡ true
and-first true b e = refl
and-first false b e = e

and-second : (a b : Bool) → (a && b) ≡ true → b ≡ true
and-second true b e = e
and-second false b e = absurd (cc)

-- ---- code behind code

module _ (s : Sight) (width : ℕ → ℕ) (depth to : ℕ) where
  below-both : (c d : Code) → AssignsBelow s to c → AssignsBelow s to d → AssignsBelow s to (then_code c d)
  below-both c d p q v e = either_assigns (v < temporary s to) c d v e (p v) (q v)

  joins : (out more : ℕ → Bool) (c d : core.Code) (code rest : Code) → ((k : ℕ) → out k ≡ true → more k ≡ true) → Guarded s width out rest → FitLeaving s width out → LowersCode s width depth to out c code → LowersCode s width depth to more d rest
      → LowersCode s width depth to more (append c d) (then_code code rest)
  joins out more c d code rest u g l h k = record {
    shows = λ a x f q. (
        let P : Effect → Type 0 = λ z. ShowsEffect s depth more z (run width (then_code code rest) x) in
        let Q : (ℕ → ℕ) → Type 0 = λ y. ShowsEffect s depth more (then_effect (effect s.cells c a) (effect s.cells d)) y in
        subst P (sym (effect-append s.cells c d a)) (subst Q (sym (then-run width code rest x)) (effect-then s width depth to out more (effect s.cells c a) d rest (run width code x) u g l (h.shows a x f q) k)));
    framed = below-both code rest h.framed k.framed;
  }

  -- what makes temporaries stands in front
  in-front : (n m : ℕ) (out : ℕ → Bool) (c : core.Code) (front code : Code) → IsNumbered s → m ≤ to → Makes s n m front → LowersCode s width depth to out c code → LowersCode s width depth to out c (then_code front code)
  in-front n m out c front code number few makes h = record {
    shows = λ a x f q. (
        let Q : (ℕ → ℕ) → Type 0 = λ y. ShowsEffect s depth out (effect s.cells c a) y in
        subst Q (sym (then-run width front code x)) (h.shows a (run width front x) f (shows-stays s width n m front a x number makes q)));
    framed = below-both front code (λ v e. let d = makes v e in omega (arith, d.1, few)) h.framed;
  }

  -- a test that came to a number takes one branch
  known-takes : (n m : ℕ) (out : ℕ → Bool) (p : Place) (t : Term) (v : Number) (front : Code) (first other : core.Code) (y : Code) → IsNumbered s → m ≤ to → FitLeaving s width out → Lowers s width n m t front (Known v)
      → LowersCode s width depth to out (if nat_eq v.word 0 then other else first) y → LowersCode s width depth to out (core.If p t first other core.End) (then_code front y)
  known-takes n m out p t v front first other y number few fit h hy = in-front n m out (core.If p t first other core.End) front y number few h.makes (record { shows = λ a x f q. shows a x f q (word_in s.cells a t) refl; framed = hy.framed })
    where
      shows : (a : Acting) (x : ℕ → ℕ) → Fits s a → Shows s a x → (w : Option ℕ) → word_in s.cells a t ≡ w
          → ShowsEffect s depth out (or_lost w (λ n. then_effect (branch n (effect s.cells first a) (effect s.cells other a)) (effect s.cells core.End))) (run width y x)
      shows a x f q None d = tt
      shows a x f q (Some w) d =
          let same : v.word ≡ w = (h.gives a x w f q d).1 in
          let P : ℕ → Type 0 = λ z. z < 2 ^ width_of (kind_of t) in
          let known : Knows s t v.word = record { fits = subst P (sym same) (h.fits a x w f q d); is = λ b z u i j e. sym (h.gives b z u i j e).1 } in
          let r = known-either s width depth to out out p t v.word first other core.End y End known hy (λ k e. e) (λ k e. skips-end s width) fit (ended s width depth to out) in
          let Q : Code → Type 0 = λ z. ShowsEffect s depth out (or_lost (word_in s.cells a t) (λ n. then_effect (branch n (effect s.cells first a) (effect s.cells other a)) (effect s.cells core.End))) (run width z x) in
          let T : Option ℕ → Type 0 = λ o. ShowsEffect s depth out (or_lost o (λ n. then_effect (branch n (effect s.cells first a) (effect s.cells other a)) (effect s.cells core.End))) (run width y x) in
          subst T d (subst Q (then-end y) (r.shows a x f q))

-- ---- states

cells-many : (held : List Held) (views : List Seen) (s : Sight) (width : ℕ → ℕ) → Sees held views s width → leaving s ≡ 2 * length held
cells-many held views s width sees = ap (λ cs. 2 * length cs) sees.cells ∙ ap (λ n. 2 * n) (length-map held cell_of)

abbrev pub keeps-none : (a : State) → a.before ≡ End → Keeps a a
keeps-none a e = record { more = []; views = refl; exit = refl; temporaries = sym (append-nil a.temporaries); before = e }

abbrev pub keeps-both : (a b c : State) → Keeps a b → Keeps b c → Keeps a c
keeps-both a b c h k = record {
  more = h.more ++ k.more;
  views = k.views ∙ h.views;
  exit = k.exit ∙ h.exit;
  temporaries = k.temporaries ∙ ap (λ ts. ts ++ k.more) h.temporaries ∙ append_assoc a.temporaries h.more k.more;
  before = k.before;
}

-- what stands before is taken
abbrev pub keeps-cleared : (a b : State) → Leaves a b → Keeps a (cleared b)
keeps-cleared a b h = record { more = h.more; views = h.views; exit = h.exit; temporaries = h.temporaries; before = refl }

-- as if nothing were taken
abbrev as-left : (a b : State) → Keeps a b → Leaves (cleared a) b
as-left a b h = record { more = h.more; front = End; views = h.views; exit = h.exit; temporaries = h.temporaries; before = h.before }

agrees-kept : (s : Sight) (width : ℕ → ℕ) (a b : State) → Keeps a b → Agrees s width b.temporaries → Agrees s width a.temporaries
agrees-kept s width a b h f = agrees-before s width (cleared a) b (as-left a b h) f

sees-kept : (held : List Held) (s : Sight) (width : ℕ → ℕ) (a b : State) → Keeps a b → Sees held a.views s width → Sees held b.views s width
sees-kept held s width a b h f = sees-on held s width (cleared a) b (as-left a b h) f

fewer : (a b : State) → Keeps a b → length a.temporaries ≤ length b.temporaries
fewer a b h = let e : length b.temporaries ≡ length a.temporaries + length h.more = ap length h.temporaries ∙ length-append a.temporaries h.more in omega (arith, e)

-- ---- what stands in statements

fine-first : (g : Given) (s : Sight) (ss : List CoreStmt) (x : CoreStmt) → AreFine g s (ss ++ x ∷ []) → AreFine g s ss
fine-first g s ss x h n y z e w = h n y z (on ss n y e) w
  where
    on : (ss : List CoreStmt) (n : ℕ) (y : CoreStmt) → slice_get ss n ≡ Some y → slice_get (ss ++ x ∷ []) n ≡ Some y
    on [] n y e = absurd (cc)
    on (t ∷ ss) zero y e = e
    on (t ∷ ss) (suc n) y e = on ss n y e

fine-last : (g : Given) (s : Sight) (ss : List CoreStmt) (x : CoreStmt) → AreFine g s (ss ++ x ∷ []) → AreFine g s (x ∷ [])
fine-last g s ss x h zero y z e w = h (length ss) y z (at ss ∙ e) w
  where
    at : (ss : List CoreStmt) → slice_get (ss ++ x ∷ []) (length ss) ≡ Some x
    at [] = refl
    at (t ∷ ss) = at ss
fine-last g s ss x h (suc n) y z e w = absurd (cc)

fine-under : (g : Given) (s : Sight) (x : CoreStmt) (ys : List CoreStmt) → ((n : ℕ) (y : CoreStmt) → slice_get ys n ≡ Some y → Under x y) → AreFine g s (x ∷ []) → AreFine g s ys
fine-under g s x ys u h n y z e w = h 0 x z refl (deeper x y z (u n y e) w)

fine-here : (g : Given) (s : Sight) (x : CoreStmt) → AreFine g s (x ∷ []) → IsFine g s x
fine-here g s x h = h 0 x x refl (itself x)

-- the texts by the numbers of cells and bits
module _ (g : Given) (s : Sight) (width : ℕ → ℕ) (views : List Seen) (bits : ℕ) where
  abbrev test_at : ℕ → ℕ → ℕ → emitted.Term
  test_at v w k = emitted.Binary binary.Eq (variable_of v) (emitted.Literal w k)

  guard-same : (code : Code) → Sees g.cells views s width → width (leaving s) ≡ bits → guard_code s width code ≡ guard (length g.cells) bits code
  guard-same code sees e = let n = cells-many g.cells views s width sees in λ i. If (test_at (n i) (e i) 0) code End End

  leave-same : (k : ℕ) → Sees g.cells views s width → width (leaving s) ≡ bits → leave_code s width k End ≡ leave (length g.cells) bits k
  leave-same k sees e = let n = cells-many g.cells views s width sees in λ i. Assign (whole (n i)) (emitted.Literal (e i) k) End

  back-same : (k : ℕ) → Sees g.cells views s width → width (leaving s) ≡ bits → back_code s width k ≡ back (length g.cells) bits k
  back-same k sees e = let n = cells-many g.cells views s width sees in λ i. If (test_at (n i) (e i) k) (Assign (whole (n i)) (emitted.Literal (e i) 0) End) End End

-- ---- the rules

fit-of : (s : Sight) (width : ℕ → ℕ) (bits top : ℕ) (out : ℕ → Bool) → ((k : ℕ) → out k ≡ true → k ≤ top) → width (leaving s) ≡ bits → top < 2 ^ bits → FitLeaving s width out
fit-of s width bits top out h e f k o = let P : ℕ → Type 0 = λ n. k < 2 ^ n in let t = h k o in let d : k < 2 ^ bits = omega (arith, t, f) in subst P (sym e) d

module _ (g : Given) (depth : ℕ) where
  pub stating-none : (a : State) → a.before ≡ End → Stating g depth [] a End none_left a
  stating-none a e = record {
    keeps = keeps-none a e;
    least = λ k d. absurd (cc);
    lowers = λ s width sees agrees exit small fine. ended s width depth (length a.temporaries) none_left;
  }

  -- a statement behind others, whose code stands in other code that does the same and is skipped while a block is being left
  more-by : (ss : List CoreStmt) (x : CoreStmt) (a b c : State) (code next rest : Code) (out new : ℕ → Bool) → Stating g depth ss a code out b → Stating g depth (x ∷ []) b next new c
      → ((s : Sight) (width : ℕ → ℕ) → Sees g.cells b.views s width → width (leaving s) ≡ a.exit → (to : ℕ) (o : ℕ → Bool) → LowersCode s width depth to o (stmt_code x core.End) next → LowersCode s width depth to o (stmt_code x core.End) rest)
      → ((s : Sight) (width : ℕ → ℕ) → Sees g.cells b.views s width → width (leaving s) ≡ a.exit → Guarded s width out rest)
      → Stating g depth (ss ++ x ∷ []) a (then_code code rest) (either_left out new) c
  more-by ss x a b c code next rest out new h k turns guards = record {
    keeps = keeps-both a b c h.keeps k.keeps;
    least = λ n e. (
        let P : core.Code → Type 0 = λ z. n ≤ greatest depth z in
        let f = greatest-first depth (code_of ss) (stmt_code x core.End) in
        let t = greatest-then depth (code_of ss) (stmt_code x core.End) in
        subst P (sym (code-more ss x)) (or-case (n ≤ greatest depth (append (code_of ss) (stmt_code x core.End))) (out n) (new n) e (λ d. (let z = h.least n d in omega (arith, z, f))) (λ d. (let z = k.least n d in omega (arith, z, t)))));
    lowers = λ s width sees agrees exit small fine. (
        let m = length b.temporaries in
        let p = length c.temporaries in
        let sees-b = sees-kept g.cells s width a b h.keeps sees in
        let agrees-b = agrees-kept s width b c k.keeps agrees in
        let exit-b = exit ∙ sym h.keeps.exit in
        let S : core.Code → Type 0 = λ z. greatest depth z < 2 ^ a.exit in
        let all : greatest depth (append (code_of ss) (stmt_code x core.End)) < 2 ^ a.exit = subst S (code-more ss x) small in
        let f = greatest-first depth (code_of ss) (stmt_code x core.End) in
        let t = greatest-then depth (code_of ss) (stmt_code x core.End) in
        let small-first : greatest depth (code_of ss) < 2 ^ a.exit = omega (arith, all, f) in
        let small-a : greatest depth (stmt_code x core.End) < 2 ^ a.exit = omega (arith, all, t) in
        let B : ℕ → Type 0 = λ n. greatest depth (stmt_code x core.End) < 2 ^ n in
        let small-last = subst B (sym h.keeps.exit) small-a in
        let more = either_left out new in
        let first = wider s width depth m p out out (code_of ss) code (fewer b c k.keeps) (λ n e. e) (h.lowers s width sees agrees-b exit small-first (fine-first g s ss x fine)) in
        let last = wider s width depth p p new more (stmt_code x core.End) rest (omega arith) (λ n e. or-right (out n) (new n) e) (turns s width sees-b exit p new (k.lowers s width sees-b agrees exit-b small-last (fine-last g s ss x fine))) in
        let Q : core.Code → Type 0 = λ z. LowersCode s width depth p more z (then_code code rest) in
        subst Q (sym (code-more ss x))
        (joins s width depth p out more (code_of ss) (stmt_code x core.End) code rest (λ n e. or-left (out n) (new n) e) (guards s width sees-b exit) (fit-of s width a.exit (greatest depth (code_of ss)) out h.least exit small-first) first last));
  }

  -- where no block may have been left, it stands as it is
  pub stating-more : (ss : List CoreStmt) (x : CoreStmt) (a b c : State) (code next : Code) (out new : ℕ → Bool) → Stating g depth ss a code out b → Stating g depth (x ∷ []) b next new c → ((k : ℕ) → out k ≡ false)
      → Stating g depth (ss ++ x ∷ []) a (then_code code next) (either_left out new) c
  stating-more ss x a b c code next out new h k none =
      more-by ss x a b c code next next out new h k (λ s width sees exit to o l. l) (λ s width sees exit n e. (let f = none n in absurd (cc)))

  -- else under the test that none is being left
  pub stating-guarded : (ss : List CoreStmt) (x : CoreStmt) (a b c : State) (code next : Code) (out new : ℕ → Bool) → Stating g depth ss a code out b → Stating g depth (x ∷ []) b next new c
      → Stating g depth (ss ++ x ∷ []) a (then_code code (guard (length g.cells) a.exit next)) (either_left out new) c
  stating-guarded ss x a b c code next out new h k =
      more-by ss x a b c code next (guard (length g.cells) a.exit next) out new h k
      (λ s width sees exit to o l. (let P : Code → Type 0 = λ z. LowersCode s width depth to o (stmt_code x core.End) z in subst P (guard-same g s width b.views a.exit next sees exit) (guarded s width depth to o (stmt_code x core.End) next l)))
      (λ s width sees exit n e. (let P : Code → Type 0 = λ z. Skips s width z in subst P (guard-same g s width b.views a.exit next sees exit) (guard-skips s width next)))

  -- nothing is guarded by nothing
  pub stating-nothing : (ss : List CoreStmt) (x : CoreStmt) (a b c : State) (code : Code) (out new : ℕ → Bool) → Stating g depth ss a code out b → Stating g depth (x ∷ []) b End new c → Stating g depth (ss ++ x ∷ []) a code (either_left out new) c
  stating-nothing ss x a b c code out new h k =
      let r = more-by ss x a b c code End End out new h k (λ s width sees exit to o l. l) (λ s width sees exit n e. skips-end s width) in
      let P : Code → Type 0 = λ z. Stating g depth (ss ++ x ∷ []) a z (either_left out new) c in
      subst P (then-end code) r

  pub stating-put : (x : CoreStmt) (l : CoreLeft) (e : CoreExpr) (a b : State) (code : Code) → x.node ≡ node.Assign l e → a.before ≡ End → Assigning g l e a code b → Stating g depth (x ∷ []) a (then_code b.before code) none_left (cleared b)
  stating-put x l e a b code is empty h = record {
    keeps = keeps-cleared a b h.leaves;
    least = λ k d. absurd (cc);
    lowers = λ s width sees agrees exit small fine. (
        let to = length b.temporaries in
        let front : b.before ≡ h.leaves.front = h.leaves.before ∙ ap (λ z. then_code z h.leaves.front) empty in
        let y = h.assigns s width sees agrees ((fine-here g s x fine).put l e is) in
        let z = put s width depth to none_left x.place (taken_of l).left (taken_of l).pick (term_of e) core.End (then_code h.leaves.front code) End y (ended s width depth to none_left) in
        let P : Code → Type 0 = λ w. LowersCode s width depth to none_left (core.Put x.place (taken_of l).left (taken_of l).pick (term_of e) core.End) w in
        let Q : core.Code → Type 0 = λ w. LowersCode s width depth to none_left w (then_code b.before code) in
        subst Q (sym (assigns x l e is core.End)) (subst P (then-end (then_code h.leaves.front code) ∙ ap (λ w. then_code w code) (sym front)) z));
  }

  pub stating-if : (x : CoreStmt) (t : CoreExpr) (ys ns : List CoreStmt) (a b c d : State) (u : emitted.Term) (yes-code no-code : Code) (out new : ℕ → Bool) → x.node ≡ node.If t ys ns → a.before ≡ End → Becomes g t a (Made u) b
      → Stating g depth ys (cleared b) yes-code out c → Stating g depth ns c no-code new d → Stating g depth (x ∷ []) a (then_code b.before (If u yes-code no-code End)) (either_left out new) d
  stating-if x t ys ns a b c d u yes-code no-code out new is empty h hy hn = record {
    keeps = keeps-both a (cleared b) d (keeps-cleared a b h.leaves) (keeps-both (cleared b) c d hy.keeps hn.keeps);
    least = λ k e. (
        let P : core.Code → Type 0 = λ z. k ≤ greatest depth z in
        subst P (sym (tests x t ys ns is core.End)) (or-case (k ≤ max (max (greatest depth (code_of ys)) (greatest depth (code_of ns))) 0) (out k) (new k) e (λ f. (let z = hy.least k f in omega (arith, z))) (λ f. (let z = hn.least k f in omega (arith, z)))));
    lowers = λ s width sees agrees exit small fine. (
        let from = length a.temporaries in
        let middle = length b.temporaries in
        let p = length c.temporaries in
        let to = length d.temporaries in
        let rest = keeps-both (cleared b) c d hy.keeps hn.keeps in
        let S : core.Code → Type 0 = λ z. greatest depth z < 2 ^ a.exit in
        let all : max (max (greatest depth (code_of ys)) (greatest depth (code_of ns))) 0 < 2 ^ a.exit = subst S (tests x t ys ns is core.End) small in
        let agrees-c = agrees-kept s width c d hn.keeps agrees in
        let agrees-b = agrees-kept s width (cleared b) d rest agrees in
        let sees-b = sees-kept g.cells s width a (cleared b) (keeps-cleared a b h.leaves) sees in
        let sees-c = sees-kept g.cells s width (cleared b) c hy.keeps sees-b in
        let exit-b : width (leaving s) ≡ b.exit = exit ∙ sym h.leaves.exit in
        let exit-c : width (leaving s) ≡ c.exit = exit-b ∙ sym hy.keeps.exit in
        let small-y : greatest depth (code_of ys) < 2 ^ a.exit = omega (arith, all) in
        let small-n : greatest depth (code_of ns) < 2 ^ a.exit = omega (arith, all) in
        let Y : ℕ → Type 0 = λ n. greatest depth (code_of ys) < 2 ^ n in
        let N : ℕ → Type 0 = λ n. greatest depth (code_of ns) < 2 ^ n in
        let test = h.lowers s width sees agrees-b ((fine-here g s x fine).test t ys ns is) in
        let first = hy.lowers s width sees-b agrees-c exit-b (subst Y (sym h.leaves.exit) small-y) (fine-under g s x ys (λ n y e. yes_part t ys ns n y is e) fine) in
        let other = hn.lowers s width sees-c agrees exit-c (subst N (sym (hy.keeps.exit ∙ h.leaves.exit)) small-n) (fine-under g s x ns (λ n y e. no_part t ys ns n y is e) fine) in
        let more = either_left out new in
        let first-wide = wider s width depth p to out more (code_of ys) yes-code (fewer c d hn.keeps) (λ n e. or-left (out n) (new n) e) first in
        let other-wide = wider s width depth to to new more (code_of ns) no-code (omega arith) (λ n e. or-right (out n) (new n) e) other in
        let fits : FitLeaving s width more = fit-of s width a.exit (max (greatest depth (code_of ys)) (greatest depth (code_of ns))) more
        (λ k e. or-case (k ≤ max (greatest depth (code_of ys)) (greatest depth (code_of ns))) (out k) (new k) e (λ f. (let z = hy.least k f in omega (arith, z))) (λ f. (let z = hn.least k f in omega (arith, z)))) exit (omega (arith, all)) in
        let z = either s width depth to from middle more more x.place (term_of t) (code_of ys) (code_of ns) core.End h.leaves.front yes-code no-code End (Made u) sees.number (fewer (cleared b) d rest) test first-wide other-wide (λ k e. e) (λ k e. skips-end s width) fits (ended s width depth to more) in
        let front : b.before ≡ h.leaves.front = h.leaves.before ∙ ap (λ z. then_code z h.leaves.front) empty in
        let P : Code → Type 0 = λ w. LowersCode s width depth to more (core.If x.place (term_of t) (code_of ys) (code_of ns) core.End) (then_code w (If u yes-code no-code End)) in
        let Q : core.Code → Type 0 = λ w. LowersCode s width depth to more w (then_code b.before (If u yes-code no-code End)) in
        subst Q (sym (tests x t ys ns is core.End)) (subst P (sym front) z));
  }

  pub stating-known : (x : CoreStmt) (t : CoreExpr) (ys ns zs : List CoreStmt) (a b c : State) (v : Number) (code : Code) (out : ℕ → Bool) → x.node ≡ node.If t ys ns → a.before ≡ End → Becomes g t a (Known v) b
      → zs ≡ (if nat_eq v.word 0 then ns else ys) → Stating g depth zs (cleared b) code out c → Stating g depth (x ∷ []) a (then_code b.before code) out c
  stating-known x t ys ns zs a b c v code out is empty h which k = record {
    keeps = keeps-both a (cleared b) c (keeps-cleared a b h.leaves) k.keeps;
    least = λ n e. (
        let P : core.Code → Type 0 = λ z. n ≤ greatest depth z in
        let z = k.least n e in
        let w = taken-less (nat_eq v.word 0) in
        let same : greatest depth (code_of zs) ≡ greatest depth (code_of (if nat_eq v.word 0 then ns else ys)) = ap (λ l. greatest depth (code_of l)) which in
        let t : n ≤ max (max (greatest depth (code_of ys)) (greatest depth (code_of ns))) 0 = omega (arith, z, w, same) in
        subst P (sym (tests x _ ys ns is core.End)) t);
    lowers = λ s width sees agrees exit small fine. (
        let from = length a.temporaries in
        let middle = length b.temporaries in
        let to = length c.temporaries in
        let S : core.Code → Type 0 = λ z. greatest depth z < 2 ^ a.exit in
        let all : max (max (greatest depth (code_of ys)) (greatest depth (code_of ns))) 0 < 2 ^ a.exit = subst S (tests x t ys ns is core.End) small in
        let w = taken-less (nat_eq v.word 0) in
        let same : greatest depth (code_of zs) ≡ greatest depth (code_of (if nat_eq v.word 0 then ns else ys)) = ap (λ l. greatest depth (code_of l)) which in
        let small-z : greatest depth (code_of zs) < 2 ^ a.exit = omega (arith, all, w, same) in
        let Z : ℕ → Type 0 = λ n. greatest depth (code_of zs) < 2 ^ n in
        let agrees-b = agrees-kept s width (cleared b) c k.keeps agrees in
        let sees-b = sees-kept g.cells s width a (cleared b) (keeps-cleared a b h.leaves) sees in
        let exit-b : width (leaving s) ≡ b.exit = exit ∙ sym h.leaves.exit in
        let test = h.lowers s width sees agrees-b ((fine-here g s x fine).test t ys ns is) in
        let fine-z = (let P : List CoreStmt → Type 0 = λ l. AreFine g s l in subst P (sym which) (taken-fine s (nat_eq v.word 0) fine)) in
        let body = k.lowers s width sees-b agrees exit-b (subst Z (sym h.leaves.exit) small-z) fine-z in
        let W : core.Code → Type 0 = λ z. LowersCode s width depth to out z code in
        let branch-is : code_of zs ≡ (if nat_eq v.word 0 then code_of ns else code_of ys) = ap code_of which ∙ code-if (nat_eq v.word 0) in
        let fits = fit-of s width a.exit (greatest depth (code_of zs)) out k.least exit small-z in
        let z = known-takes s width depth to from middle out x.place (term_of t) v h.leaves.front (code_of ys) (code_of ns) code sees.number (fewer (cleared b) c k.keeps) fits test (subst W branch-is body) in
        let front : b.before ≡ h.leaves.front = h.leaves.before ∙ ap (λ z. then_code z h.leaves.front) empty in
        let P : Code → Type 0 = λ w. LowersCode s width depth to out (core.If x.place (term_of t) (code_of ys) (code_of ns) core.End) (then_code w code) in
        let Q : core.Code → Type 0 = λ w. LowersCode s width depth to out w (then_code b.before code) in
        subst Q (sym (tests x t ys ns is core.End)) (subst P (sym front) z));
  }
    where
      code-if : (q : Bool) → code_of (if q then ns else ys) ≡ (if q then code_of ns else code_of ys)
      code-if true = refl
      code-if false = refl

      taken-less : (q : Bool) → greatest depth (code_of (if q then ns else ys)) ≤ max (greatest depth (code_of ys)) (greatest depth (code_of ns))
      taken-less true = omega arith
      taken-less false = omega arith

      taken-fine : (s : Sight) (q : Bool) → AreFine g s (x ∷ []) → AreFine g s (if q then ns else ys)
      taken-fine s true fine = fine-under g s x ns (λ n y e. no_part t ys ns n y is e) fine
      taken-fine s false fine = fine-under g s x ys (λ n y e. yes_part t ys ns n y is e) fine

  pub stating-exit : (x : CoreStmt) (n : ℕ) (a : State) → x.node ≡ node.Exit n → a.before ≡ End → n < depth → Stating g depth (x ∷ []) a (leave (length g.cells) a.exit (depth - n)) (one_left (depth - n)) a
  stating-exit x n a is empty inner = record {
    keeps = keeps-none a empty;
    least = λ k e. (
        let P : core.Code → Type 0 = λ z. k ≤ greatest depth z in
        let same : k ≡ depth - n = grind (arith, e) in
        let t : k ≤ max (depth - n) 0 = omega (arith, same) in
        subst P (sym (exits x n is core.End)) t);
    lowers = λ s width sees agrees bits small fine. (
        let to = length a.temporaries in
        let S : core.Code → Type 0 = λ z. greatest depth z < 2 ^ a.exit in
        let all : max (depth - n) 0 < 2 ^ a.exit = subst S (exits x n is core.End) small in
        let fits = fit-of s width a.exit (depth - n) (one_left (depth - n)) (λ k e. (let same : k ≡ depth - n = grind (arith, e) in omega (arith, same))) bits (omega (arith, all)) in
        let itself : one_left (depth - n) (depth - n) ≡ true = grind arith in
        let z = exit s width depth to (one_left (depth - n)) x.place n core.End End sees.number inner itself fits (skips-end s width) (λ v e. absurd (cc)) in
        let P : Code → Type 0 = λ w. LowersCode s width depth to (one_left (depth - n)) (core.Exit x.place n core.End) w in
        let Q : core.Code → Type 0 = λ w. LowersCode s width depth to (one_left (depth - n)) w (leave (length g.cells) a.exit (depth - n)) in
        subst Q (sym (exits x n is core.End)) (subst P (leave-same g s width a.views a.exit (depth - n) sees bits) z));
  }

  pub stating-block : (x : CoreStmt) (body : List CoreStmt) (a b : State) (code : Code) (out : ℕ → Bool) → x.node ≡ node.Block body → Stating g (suc depth) body a code out b
      → Stating g depth (x ∷ []) a (if out (suc depth) then then_code code (back (length g.cells) a.exit (suc depth)) else code) (around depth out) b
  stating-block x body a b code out is h = record {
    keeps = h.keeps;
    least = λ k e. (
        let P : core.Code → Type 0 = λ z. k ≤ greatest depth z in
        let d = h.least k (and-second (nat_lt k (suc depth)) (out k) e) in
        let t : k ≤ max (greatest (suc depth) (code_of body)) 0 = omega (arith, d) in
        subst P (sym (blocks x body is core.End)) t);
    lowers = λ s width sees agrees bits small fine. (
        let to = length b.temporaries in
        let S : core.Code → Type 0 = λ z. greatest depth z < 2 ^ a.exit in
        let all : max (greatest (suc depth) (code_of body)) 0 < 2 ^ a.exit = subst S (blocks x body is core.End) small in
        let inner : greatest (suc depth) (code_of body) < 2 ^ a.exit = omega (arith, all) in
        let y = h.lowers s width sees agrees bits inner (fine-under g s x body (λ n z e. inside body n z is e) fine) in
        let fits = fit-of s width a.exit (greatest (suc depth) (code_of body)) out h.least bits inner in
        let z = block s width depth to out (around depth out) x.place (code_of body) core.End code End sees.number y (λ k l e. within-both k l e) (λ k l e. skips-end s width) fits (ended s width depth to (around depth out)) in
        let P : Code → Type 0 = λ w. LowersCode s width depth to (around depth out) (core.Block x.place (code_of body) core.End) w in
        let same : block_code s width depth out code ≡ (if out (suc depth) then then_code code (back (length g.cells) a.exit (suc depth)) else code) =
        ap (λ w. if out (suc depth) then then_code code w else code) (back-same g s width a.views a.exit (suc depth) sees bits) in
        let Q : core.Code → Type 0 = λ w. LowersCode s width depth to (around depth out) w (if out (suc depth) then then_code code (back (length g.cells) a.exit (suc depth)) else code) in
        subst Q (sym (blocks x body is core.End)) (subst P (then-end (block_code s width depth out code) ∙ same) z));
  }
    where
      within-both : (k : ℕ) → k < suc depth → out k ≡ true → around depth out k ≡ true
      within-both k l e = let t : nat_lt k (suc depth) ≡ true = grind (arith, l) in ap (λ q. q && out k) t ∙ e

-- statements that leave no block around them are shown by their code
pub stating-shown : (g : Given) (ss : List CoreStmt) (a b : State) (code : Code) (out : ℕ → Bool) → Stating g 0 ss a code out b → (s : Sight) (width : ℕ → ℕ) → Sees g.cells a.views s width → Agrees s width b.temporaries → width (leaving s) ≡ a.exit → greatest 0 (code_of ss) < 2 ^ a.exit → AreFine g s ss
    → temporary s (length b.temporaries) ≤ top_number → IsLoweredCode s width (code_of ss) code
stating-shown g ss a b code out h s width sees agrees exit small fine few = code-is s width 0 (length b.temporaries) out (code_of ss) code few (h.lowers s width sees agrees exit small fine)
