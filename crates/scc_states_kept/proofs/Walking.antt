-- What sets of cells hold before statements, from what they hold behind them.
use Rattle.std.proofs.Common.{◌≡◌, ◌<◌, ◌+◌, ℕ, zero, suc, arith, Bool, true, false, List, [], ◌∷◌, ◌++◌, drop, length, get_or, Option, refl, sym, ap, subst, ◌∙◌}
use Rattle.std.specs.Prelude.{◌||◌, ◌&&◌, not, map}
use Rattle.scc_core.specs.declared.expr.CoreExpr.{CoreExpr}
use Rattle.scc_core.specs.declared.expr.CoreLeft.{CoreLeft}
use Rattle.scc_core.specs.declared.stmt.Count.{Count as Counting}
use Rattle.scc_core.specs.declared.stmt.Pointed.{Pointed as Aimed}
use Rattle.scc_core.specs.declared.stmt.CoreStmt.{CoreStmt}
use Rattle.scc_core.specs.declared.stmt.CoreNode.TheVariants as node
use Rattle.scc_core.specs.declared.statics.Known.{Known}
use Rattle.scc_core_flow.specs.declared.set.CellSet.{CellSet}
use Rattle.scc_core_flow.specs.Live.{Each}
use Rattle.scc_core_flow.specs.Sets.{holds}
use Rattle.scc_core_flow.proofs.Alive.{code_joins}
use Rattle.scc_core_flow.proofs.Tests.{each_first, each_second}
use Rattle.scc_core_spec.specs.Code.{Code, End, Put, If, Block, Exit, append}
use Rattle.scc_core_spec.specs.Segments.{Plain, Segment, segment_code}
use Rattle.scc_core_spec.specs.Static.{Cells}
use Rattle.scc_core_spec.specs.Uses.{Act, acts, among, loads, whole_writes}
use Rattle.scc_core_view.specs.Codes.{code_of}
use Rattle.scc_core_view.specs.Terms.{taken_of, term_of}
use Rattle.scc_core_view.proofs.Layers.{assigns, tests, blocks, loops, exits, aims}
use Rattle.scc_states_segments.proofs.Adds.{from_here}
use Rattle.scc_states_kept.specs.declared.own.Own.{Own}
use Rattle.scc_states_kept.specs.Needs.{behind, needed, reads_cell}
use Rattle.scc_states_kept.specs.Slots.{Keeps, TellsPut, TellsUses, put_reads}
use Rattle.scc_states_kept.specs.Walks.{Around, Meets, Outs, TellsAct, TellsCode, left_at, needs, nothing, nowhere}
use Rattle.scc_states_kept.proofs.Acts.{acts_both}
use Rattle.scc_states_kept.proofs.Parts.{needed_two}

-- ---- sets

module _ (only : ℕ → Bool) (own : Own) where
  pub keeps_alike : (old new : CellSet) (f : ℕ → Bool) → ((n : ℕ) → holds new n ≡ holds old n) → Keeps only own old f → Keeps only own new f
  keeps_alike old new f h k = record { told = λ x s o i. h s ∙ k.told x s o i }

  pub keeps_joined : (old other new : CellSet) (f g : ℕ → Bool) → ((n : ℕ) → holds new n ≡ (holds old n || holds other n)) → Keeps only own old f → Keeps only own other g
      → Keeps only own new (λ x. f x || g x)
  keeps_joined old other new f g h k m = record { told = λ x s o i. h s ∙ ap (λ b. b || holds other s) (k.told x s o i) ∙ ap (λ b. f x || b) (m.told x s o i) }

  pub keeps_none : (set : CellSet) → ((n : ℕ) → holds set n ≡ false) → Keeps only own set nothing
  keeps_none set h = record { told = λ x s o i. h s }

  -- ---- open blocks

  longer : (ss : List CellSet) (s : CellSet) → length (ss ++ s ∷ []) ≡ suc (length ss)
  longer [] s = refl
  longer (t ∷ ss) s = ap suc (longer ss s)

  pub around_more : (ss : List CellSet) (s : CellSet) (f : ℕ → Bool) (outs : Outs) → Keeps only own s f → Around only own ss outs → Around only own (ss ++ s ∷ []) (λ x. f x ∷ outs x)
  around_more [] s f outs k a = (k, tt)
  around_more (t ∷ ss) s f outs k a = (subst (λ n. Keeps only own t (left_at n (λ x. f x ∷ outs x))) (sym (longer ss s)) a.0, around_more ss s f outs k a.1)

  no_place : (at n : ℕ) → at + (n + 1) ≡ 0 → ⊥
  no_place at n h = omega arith

  first_place : (n m : ℕ) → 0 + (n + 1) ≡ suc m → m ≡ n
  first_place n m h = omega arith

  next_place : (at n m : ℕ) → suc at + (n + 1) ≡ suc m → at + (n + 1) ≡ m
  next_place at n m h = omega arith

  pub around_at : (ss : List CellSet) (at n : ℕ) (s : CellSet) (outs : Outs) → at + (n + 1) ≡ length ss → s ≡ get_or ss at s → Around only own ss outs → Keeps only own s (left_at n outs)
  around_at [] at n s outs h is a = absurd (no_place at n h)
  around_at (t ∷ ss) zero n s outs h is a = subst (λ z. Keeps only own z (left_at n outs)) (sym is) (subst (λ m. Keeps only own t (left_at m outs)) (first_place n (length ss) h) a.0)
  around_at (t ∷ ss) (suc at) n s outs h is a = around_at ss at n s outs (next_place at n (length ss) h) is a.1

abbrev front : {A : Type 0} → List A → List A
front [] = []
front (x ∷ []) = []
front (x ∷ y ∷ ys) = x ∷ front (y ∷ ys)

front_of : {A : Type 0} (xs : List A) (x : A) → front (xs ++ x ∷ []) ≡ xs
front_of [] x = refl
front_of (y ∷ []) x = refl
front_of (y ∷ z ∷ ys) x = ap (λ l. y ∷ l) (front_of (z ∷ ys) x)

-- what was put behind is taken off again
pub taken_off : {A : Type 0} (xs ys all : List A) (x y : A) → all ≡ xs ++ x ∷ [] → all ≡ ys ++ y ∷ [] → ys ≡ xs
taken_off xs ys all x y h k = sym (front_of ys y) ∙ ap front (sym k ∙ h) ∙ front_of xs x

-- ---- code

pub code_here : (ss : List CoreStmt) (i : ℕ) (s : CoreStmt) → i < length ss → s ≡ get_or ss i s → code_of (drop i ss) ≡ append (code_of (s ∷ [])) (code_of (drop (i + 1) ss))
code_here ss i s h is = from_here ss i s h is ∙ code_joins (s ∷ []) (drop (i + 1) ss)

module _ (P : Act → Type 0) where
  acts_first : (x : CoreStmt) (xs : List CoreStmt) → Each P (acts (code_of (x ∷ xs))) → Each P (acts (code_of (x ∷ [])) ++ acts (code_of xs))
  acts_first x xs e = subst (Each P) (ap acts (code_joins (x ∷ []) xs) ∙ acts_both (code_of (x ∷ [])) (code_of xs)) e

  not_below : (i : ℕ) → i < 0 → ⊥
  not_below i h = omega arith

  less : (i : ℕ) (s : CoreStmt) (ss : List CoreStmt) → suc i < length (s ∷ ss) → i < length ss
  less i s ss h = omega arith

  pub acts_here : (ss : List CoreStmt) (i : ℕ) (s : CoreStmt) → i < length ss → s ≡ get_or ss i s → Each P (acts (code_of ss)) → Each P (acts (code_of (s ∷ [])))
  acts_here [] i s h is e = absurd (not_below i h)
  acts_here (x ∷ xs) zero s h is e = subst (λ z. Each P (acts (code_of (z ∷ [])))) (sym is) (each_first P (acts (code_of (x ∷ []))) (acts (code_of xs)) (acts_first x xs e))
  acts_here (x ∷ xs) (suc i) s h is e = acts_here xs i s (less i x xs h) is (each_second P (acts (code_of (x ∷ []))) (acts (code_of xs)) (acts_first x xs e))

module _ (known : Known) (cs : Cells) (only : ℕ → Bool) where
  pub told_put : (s : CoreStmt) (l : CoreLeft) (e : CoreExpr) → s.node ≡ node.Assign l e → TellsCode known cs only (code_of (s ∷ [])) → TellsPut known cs only l e
  told_put s l e is d =
      let a = (subst (TellsCode known cs only) (assigns s l e is End) d).0 in
      record { reads = a.reads; fills = a.writes.fills l refl refl }

  pub told_if : (s : CoreStmt) (t : CoreExpr) (a b : List CoreStmt) → s.node ≡ node.If t a b → TellsCode known cs only (code_of (s ∷ []))
      → TellsUses known cs only (loads (term_of t)) × TellsCode known cs only (code_of a) × TellsCode known cs only (code_of b)
  told_if s t a b is d =
      let e = subst (TellsCode known cs only) (tests s t a b is End) d in
      let P = TellsAct known cs only in
      let rest = each_second P (acts (code_of a)) (acts (code_of b) ++ []) e.1 in
      (e.0.reads, each_first P (acts (code_of a)) (acts (code_of b) ++ []) e.1, each_first P (acts (code_of b)) [] rest)

  pub told_block : (s : CoreStmt) (b : List CoreStmt) → s.node ≡ node.Block b → TellsCode known cs only (code_of (s ∷ [])) → TellsCode known cs only (code_of b)
  told_block s b is d = each_first (TellsAct known cs only) (acts (code_of b)) [] (subst (TellsCode known cs only) (blocks s b is End) d)

  pub told_both : (c d : Code) → TellsCode known cs only (append c d) → TellsCode known cs only c × TellsCode known cs only d
  told_both c d h =
      let e = subst (Each (TellsAct known cs only)) (acts_both c d) h in
      (each_first (TellsAct known cs only) (acts c) (acts d) e, each_second (TellsAct known cs only) (acts c) (acts d) e)

-- ---- statements

module _ (only : ℕ → Bool) (own : Own) (cs : Cells) (set : CellSet) where
  pub keeps_as : (c d : Code) (f : ℕ → Bool) (outs : Outs) → c ≡ d → Keeps only own set (needs cs d f outs) → Keeps only own set (needs cs c f outs)
  keeps_as c d f outs is k = subst (λ z. Keeps only own set (needs cs z f outs)) (sym is) k

  pub keeps_told_of : (f g : ℕ → Bool) → ((x : ℕ) → f x ≡ g x) → Keeps only own set f → Keeps only own set g
  keeps_told_of f g h k = record { told = λ x s o i. k.told x s o i ∙ h x }

  -- code before code
  pub keeps_both : (c d all : Code) (f : ℕ → Bool) (outs : Outs) → all ≡ append c d → Keeps only own set (needs cs c (needs cs d f outs) outs) → Keeps only own set (needs cs all f outs)
  keeps_both c d all f outs is k = keeps_as all (append c d) f outs is (keeps_told_of _ _ (λ x. sym (needed_two cs x c d (f x) (outs x))) k)

  pub keeps_put : (s : CoreStmt) (l : CoreLeft) (e : CoreExpr) (f : ℕ → Bool) (outs : Outs) → s.node ≡ node.Assign l e
      → Keeps only own set (λ x. reads_cell cs x (put_reads l e) || (not (among x (whole_writes cs (taken_of l).left (taken_of l).pick)) && f x))
      → Keeps only own set (needs cs (code_of (s ∷ [])) f outs)
  keeps_put s l e f outs is k = keeps_as _ _ f outs (assigns s l e is End) k

  pub keeps_if : (s : CoreStmt) (t : CoreExpr) (a b : List CoreStmt) (f : ℕ → Bool) (outs : Outs) → s.node ≡ node.If t a b
      → Keeps only own set (λ x. reads_cell cs x (loads (term_of t)) || (needs cs (code_of a) f outs x || needs cs (code_of b) f outs x))
      → Keeps only own set (needs cs (code_of (s ∷ [])) f outs)
  keeps_if s t a b f outs is k = keeps_as _ _ f outs (tests s t a b is End) k

  pub keeps_block : (s : CoreStmt) (b : List CoreStmt) (f : ℕ → Bool) (outs : Outs) → s.node ≡ node.Block b → Keeps only own set (needs cs (code_of b) f (λ x. f x ∷ outs x))
      → Keeps only own set (needs cs (code_of (s ∷ [])) f outs)
  keeps_block s b f outs is k = keeps_as _ _ f outs (blocks s b is End) k

  pub keeps_exit : (s : CoreStmt) (n : ℕ) (f : ℕ → Bool) (outs : Outs) → s.node ≡ node.Exit n → Keeps only own set (left_at n outs) → Keeps only own set (needs cs (code_of (s ∷ [])) f outs)
  keeps_exit s n f outs is k = keeps_as _ _ f outs (exits s n is End) k

-- ---- a statement that stands in its segment whole

whole : (s : CoreStmt) (c : Code) → code_of (s ∷ []) ≡ c → (rest : Segment) → segment_code (Plain c rest) ≡ append c (segment_code rest)
    → segment_code (Plain (code_of (s ∷ [])) rest) ≡ append (code_of (s ∷ [])) (segment_code rest)
whole s c is rest h = ap (λ d. segment_code (Plain d rest)) is ∙ h ∙ ap (λ d. append d (segment_code rest)) (sym is)

pub whole_put : (s : CoreStmt) (l : CoreLeft) (e : CoreExpr) → s.node ≡ node.Assign l e → (rest : Segment)
    → segment_code (Plain (code_of (s ∷ [])) rest) ≡ append (code_of (s ∷ [])) (segment_code rest)
whole_put s l e is rest = whole s _ (assigns s l e is End) rest refl

pub whole_if : (s : CoreStmt) (t : CoreExpr) (a b : List CoreStmt) → s.node ≡ node.If t a b → (rest : Segment)
    → segment_code (Plain (code_of (s ∷ [])) rest) ≡ append (code_of (s ∷ [])) (segment_code rest)
whole_if s t a b is rest = whole s _ (tests s t a b is End) rest refl

pub whole_block : (s : CoreStmt) (b : List CoreStmt) → s.node ≡ node.Block b → (rest : Segment)
    → segment_code (Plain (code_of (s ∷ [])) rest) ≡ append (code_of (s ∷ [])) (segment_code rest)
whole_block s b is rest = whole s _ (blocks s b is End) rest refl

pub whole_loop : (s : CoreStmt) (n : Option Counting) (b : List CoreStmt) → s.node ≡ node.Loop n b → (rest : Segment)
    → segment_code (Plain (code_of (s ∷ [])) rest) ≡ append (code_of (s ∷ [])) (segment_code rest)
whole_loop s n b is rest = whole s _ (loops s n b is End) rest refl

pub whole_aim : (s : CoreStmt) (to : Aimed) (l : CoreLeft) → s.node ≡ node.Alias to l → (rest : Segment)
    → segment_code (Plain (code_of (s ∷ [])) rest) ≡ append (code_of (s ∷ [])) (segment_code rest)
whole_aim s to l is rest = whole s _ (aims s to l is End) rest refl

module _ (only : ℕ → Bool) (own : Own) (cs : Cells) where
  pub meets_plain : (old new : CellSet) (c : Code) (rest : Segment) → segment_code (Plain c rest) ≡ append c (segment_code rest) → Meets only own cs old rest
      → (TellsCode own.known cs only c → Keeps only own old (needs cs (segment_code rest) nothing nowhere) → Keeps only own new (needs cs c (needs cs (segment_code rest) nothing nowhere) nowhere))
      → Meets only own cs new (Plain c rest)
  meets_plain old new c rest is m step d =
      let e = told_both own.known cs only c (segment_code rest) (subst (TellsCode own.known cs only) is d) in
      keeps_both only own cs new c (segment_code rest) (segment_code (Plain c rest)) nothing nowhere is (step e.0 (m e.1))
