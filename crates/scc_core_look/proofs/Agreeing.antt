-- Cells whose names agree with an open name are cells of one array, and the array tells what they are.
use Rattle.std.proofs.Common.{◌≡◌, refl, arith, ℕ, ◌+◌, ◌<◌, Bool, true, false, not, ◌&&◌, ◌||◌, nat_eq, List, [], ◌∷◌, ◌++◌, map, Option, Some, None, option_and_then, slice_get, ap, ◌∙◌, sym, subst}
use Rattle.std.specs.Prelude.{nat_lt, nat_le, option_map}
use Rattle.std.specs.Option.{unwrap_or}
use Rattle.scc_bits_kinds.specs.declared.kind.Kind.{Kind}
use Rattle.scc_bits_kinds.specs.declared.kind.Kind.TheVariants as kind
use Rattle.scc_core.specs.declared.expr.CorePart.{CorePart, out-CorePart}
use Rattle.scc_core.specs.declared.expr.CoreBase.TheOpen as tree
use Rattle.scc_core.specs.declared.places.NameStep.{NameStep}
use Rattle.scc_core.specs.declared.places.NameStep.TheVariants as step
use Rattle.scc_core.specs.declared.places.Spot.{Spot}
use Rattle.scc_core.specs.declared.program.Cell.{Cell}
use Rattle.scc_core.specs.declared.program.CellName.{CellName}
use Rattle.scc_core.specs.Names.{leads, name_spot, walk}
use Rattle.scc_core.specs.Tables.{known, steps_of, top}
use Rattle.scc_core_spec.specs.Fit.{same_bool, same_kind}
use Rattle.scc_core_spec.specs.Named.{Step, Named, At, Ours, Open, fits}
use Rattle.scc_core_spec.specs.OpenNames.{agrees}
use Rattle.scc_core_spec.specs.Static.{Cells, index_step, static}
use Rattle.scc_core_spec.specs.Term.{kind_of}
use Rattle.scc_core_view.specs.Steps.{step_in}
use Rattle.scc_core_view.specs.Terms.{term_of}
use Rattle.scc_core_look.specs.declared.rows.Row.{Row}
use Rattle.scc_core_look.specs.declared.rows.Rows.{Rows}
use Rattle.scc_core_look.specs.declared.seen.Seen.{Seen}
use Rattle.scc_core_look.specs.declared.seen.Test.{Test}
use Rattle.scc_core_look.specs.Fits.{begins_open, is_open}
use Rattle.scc_core_look.specs.Rows.{PartLayer, bounded, covered, covering, covers, goes_past, index_at, is_index, key_of, key_part, keyed, no_index, one_past, passes, passing, row_covers, row_from, row_of, row_passes, size_at, size_of, sized, within}
use Rattle.scc_core_look.specs.Rows as rows
use Rattle.scc_core_look.specs.Seen.{asked, same_seen, writes}
use Rattle.scc_core_whole.specs.Parts.{is_past}
use Rattle.scc_semantics.specs.Scene.{index_of}
use Rattle.scc_core_look.proofs.Apart.{first, second, both, name_walk}

-- ---- kinds and what is seen of cells

same-bool : (a b : Bool) → same_bool a b ≡ true → a ≡ b
same-bool true true e = refl
same-bool true false e = absurd cc
same-bool false true e = absurd cc
same-bool false false e = refl

same-number : (a b : ℕ) → nat_eq a b ≡ true → a ≡ b
same-number a b e = grind (arith, e)

pub same-kind : (j k : Kind) → same_kind j k ≡ true → j ≡ k
same-kind kind.Bool kind.Bool e = refl
same-kind (kind.Native w s) (kind.Native v t) e = λ i. kind.Native (same-number w v (first (nat_eq w v) (same_bool s t) e) i) (same-bool s t (second (nat_eq w v) (same_bool s t) e) i)
same-kind (kind.Int w) (kind.Int v) e = ap kind.Int (same-number w v e)
same-kind (kind.Uint w) (kind.Uint v) e = ap kind.Uint (same-number w v e)
same-kind (kind.Big w) (kind.Big v) e = ap kind.Big (same-number w v e)
same-kind (kind.BigInt w) (kind.BigInt v) e = ap kind.BigInt (same-number w v e)
same-kind (kind.Bv w) (kind.Bv v) e = ap kind.Bv (same-number w v e)
same-kind (kind.Wide w s) (kind.Wide v t) e = λ i. kind.Wide (same-number w v (first (nat_eq w v) (same_bool s t) e) i) (same-bool s t (second (nat_eq w v) (same_bool s t) e) i)
same-kind _ _ e = absurd cc

same-seen : (a b : Seen) → same_seen a b ≡ true → a ≡ b
same-seen a b e =
    let k = first (same_kind a.kind b.kind) (same_bool a.number b.number && (same_bool a.read b.read && same_bool a.fixed b.fixed)) e in
    let r = second (same_kind a.kind b.kind) (same_bool a.number b.number && (same_bool a.read b.read && same_bool a.fixed b.fixed)) e in
    let n = first (same_bool a.number b.number) (same_bool a.read b.read && same_bool a.fixed b.fixed) r in
    let s = second (same_bool a.number b.number) (same_bool a.read b.read && same_bool a.fixed b.fixed) r in
    λ i. record {
      kind = same-kind a.kind b.kind k i;
      number = same-bool a.number b.number n i;
      read = same-bool a.read b.read (first (same_bool a.read b.read) (same_bool a.fixed b.fixed) s) i;
      fixed = same-bool a.fixed b.fixed (second (same_bool a.read b.read) (same_bool a.fixed b.fixed) s) i;
    }

-- ---- patterns

abbrev pub open_step : PartLayer → Step
open_step (tree.Member n) = Named n.0
open_step (tree.Index size at) = Open size

abbrev pub opens : List CorePart → List Step
opens ps = map (λ p. open_step (out-CorePart p)) ps

abbrev pub pattern_step : Cells → PartLayer → Step
pattern_step cs (tree.Member n) = Named n.0
pattern_step cs (tree.Index size at) = index_step size (kind_of (term_of at)) (static cs (term_of at))

abbrev pub patterns : Cells → List CorePart → List Step
patterns cs ps = map (λ p. pattern_step cs (out-CorePart p)) ps

pub record Split (ss : List NameStep) (rest : List Step) (xs : List NameStep) : Type 0 where
  pub ys : List NameStep
  pub is : xs ≡ ss ++ ys
  pub agree : agrees rest (map step_in ys) ≡ true

longer : {s : NameStep} {ss : List NameStep} {rest : List Step} {x : NameStep} {xs : List NameStep} → x ≡ s → Split ss rest xs → Split (s ∷ ss) rest (x ∷ xs)
longer e d = record { ys = d.ys; is = λ i. e i ∷ d.is i; agree = d.agree }

-- what agrees with a front part of a name and more begins with that front part
pub split : (ss : List NameStep) (rest : List Step) (xs : List NameStep) → agrees (map step_in ss ++ rest) (map step_in xs) ≡ true → Split ss rest xs
split [] rest xs e = record { ys = xs; is = refl; agree = e }
split (step.Member n ∷ ss) rest (step.Member m ∷ xs) e =
    let q = same-number n.0 m.0 (first (nat_eq n.0 m.0) (agrees (map step_in ss ++ rest) (map step_in xs)) e) in
    longer (λ i. step.Member (record { 0 = sym q i })) (split ss rest xs (second (nat_eq n.0 m.0) (agrees (map step_in ss ++ rest) (map step_in xs)) e))
split (step.Index n ∷ ss) rest (step.Index m ∷ xs) e =
    let q = same-number n m (first (nat_eq n m) (agrees (map step_in ss ++ rest) (map step_in xs)) e) in
    longer (ap step.Index (sym q)) (split ss rest xs (second (nat_eq n m) (agrees (map step_in ss ++ rest) (map step_in xs)) e))
split (step.Local n ∷ ss) rest (step.Local m ∷ xs) e =
    let q = same-number n m (first (nat_eq n m) (agrees (map step_in ss ++ rest) (map step_in xs)) e) in
    longer (ap step.Local (sym q)) (split ss rest xs (second (nat_eq n m) (agrees (map step_in ss ++ rest) (map step_in xs)) e))
split (step.Member n ∷ ss) rest [] e = absurd cc
split (step.Member n ∷ ss) rest (step.Index m ∷ xs) e = absurd cc
split (step.Member n ∷ ss) rest (step.Local m ∷ xs) e = absurd cc
split (step.Index n ∷ ss) rest [] e = absurd cc
split (step.Index n ∷ ss) rest (step.Member m ∷ xs) e = absurd cc
split (step.Index n ∷ ss) rest (step.Local m ∷ xs) e = absurd cc
split (step.Local n ∷ ss) rest [] e = absurd cc
split (step.Local n ∷ ss) rest (step.Member m ∷ xs) e = absurd cc
split (step.Local n ∷ ss) rest (step.Index m ∷ xs) e = absurd cc

-- what agrees with open parts has their key
pub one_key : (ps : List CorePart) (ys : List NameStep) → agrees (opens ps) (map step_in ys) ≡ true → map keyed ys ≡ map key_part ps
one_key [] [] e = refl
one_key [] (step.Member m ∷ ys) e = absurd cc
one_key [] (step.Index m ∷ ys) e = absurd cc
one_key [] (step.Local m ∷ ys) e = absurd cc
one_key (p ∷ ps) ys e = by (out-CorePart p) ys e (one_key ps)
  where
    by : (o : PartLayer) (ys : List NameStep) → agrees (open_step o ∷ opens ps) (map step_in ys) ≡ true → ((zs : List NameStep) → agrees (opens ps) (map step_in zs) ≡ true → map keyed zs ≡ map key_part ps) → map keyed ys ≡ key_of o ∷ map key_part ps
    by (tree.Member n) (step.Member m ∷ ys) e f =
        let q = same-number n.0 m.0 (first (nat_eq n.0 m.0) (agrees (opens ps) (map step_in ys)) e) in
        λ i. step.Member (record { 0 = sym q i }) ∷ f ys (second (nat_eq n.0 m.0) (agrees (opens ps) (map step_in ys)) e) i
    by (tree.Index size at) (step.Index m ∷ ys) e f = ap (λ l. step.Index 4294967295 ∷ l) (f ys e)
    by (tree.Member n) [] e f = absurd cc
    by (tree.Member n) (step.Index m ∷ ys) e f = absurd cc
    by (tree.Member n) (step.Local m ∷ ys) e f = absurd cc
    by (tree.Index size at) [] e f = absurd cc
    by (tree.Index size at) (step.Member m ∷ ys) e f = absurd cc
    by (tree.Index size at) (step.Local m ∷ ys) e f = absurd cc

module _ (cs : Cells) where
  -- what agrees with a pattern agrees with it where all its indices are open
  pub opened : (ps : List CorePart) (ys : List NameStep) → agrees (patterns cs ps) (map step_in ys) ≡ true → agrees (opens ps) (map step_in ys) ≡ true
  opened [] ys e = e
  opened (p ∷ ps) ys e = by (out-CorePart p) ys e (opened ps)
    where
      stands : (size : ℕ) (k : Kind) (o : Option ℕ) (m : ℕ) (zs : List NameStep) → agrees (index_step size k o ∷ patterns cs ps) (At m ∷ map step_in zs) ≡ true → agrees (patterns cs ps) (map step_in zs) ≡ true
      stands size k None m zs e = e
      stands size k (Some w) m zs e = second (nat_eq _ m) (agrees (patterns cs ps) (map step_in zs)) e

      no-member : (size : ℕ) (k : Kind) (o : Option ℕ) (m : ℕ) (zs : List Step) → agrees (index_step size k o ∷ patterns cs ps) (Named m ∷ zs) ≡ true → ⊥
      no-member size k None m zs e = cc
      no-member size k (Some w) m zs e = cc

      no-local : (size : ℕ) (k : Kind) (o : Option ℕ) (m : ℕ) (zs : List Step) → agrees (index_step size k o ∷ patterns cs ps) (Ours m ∷ zs) ≡ true → ⊥
      no-local size k None m zs e = cc
      no-local size k (Some w) m zs e = cc

      no-end : (size : ℕ) (k : Kind) (o : Option ℕ) → agrees (index_step size k o ∷ patterns cs ps) [] ≡ true → ⊥
      no-end size k None e = cc
      no-end size k (Some w) e = cc

      by : (o : PartLayer) (ys : List NameStep) → agrees (pattern_step cs o ∷ patterns cs ps) (map step_in ys) ≡ true → ((zs : List NameStep) → agrees (patterns cs ps) (map step_in zs) ≡ true → agrees (opens ps) (map step_in zs) ≡ true) → agrees (open_step o ∷ opens ps) (map step_in ys) ≡ true
      by (tree.Member n) (step.Member m ∷ ys) e f = both (nat_eq n.0 m.0) (agrees (opens ps) (map step_in ys)) (first (nat_eq n.0 m.0) (agrees (patterns cs ps) (map step_in ys)) e) (f ys (second (nat_eq n.0 m.0) (agrees (patterns cs ps) (map step_in ys)) e))
      by (tree.Index size at) (step.Index m ∷ ys) e f = f ys (stands size (kind_of (term_of at)) (static cs (term_of at)) m ys e)
      by (tree.Member n) [] e f = absurd cc
      by (tree.Member n) (step.Index m ∷ ys) e f = absurd cc
      by (tree.Member n) (step.Local m ∷ ys) e f = absurd cc
      by (tree.Index size at) [] e f = absurd (no-end size (kind_of (term_of at)) (static cs (term_of at)) e)
      by (tree.Index size at) (step.Member m ∷ ys) e f = absurd (no-member size (kind_of (term_of at)) (static cs (term_of at)) m.0 (map step_in ys) e)
      by (tree.Index size at) (step.Local m ∷ ys) e f = absurd (no-local size (kind_of (term_of at)) (static cs (term_of at)) m (map step_in ys) e)

  below : (m b size : ℕ) → nat_lt m b ≡ true → nat_le b size ≡ true → nat_lt m size ≡ true
  below m b size e f = grind (arith, e, f)

  -- and completes it, where its indices are below bounds that no size passes
  pub completes : (bs : List ℕ) (ps : List CorePart) (ys : List NameStep) → agrees (patterns cs ps) (map step_in ys) ≡ true → within bs ys ≡ true → bounded bs ps ≡ true → fits (patterns cs ps) (map step_in ys) ≡ true
  completes bs [] [] e w b = refl
  completes bs [] (step.Member m ∷ ys) e w b = absurd cc
  completes bs [] (step.Index m ∷ ys) e w b = absurd cc
  completes bs [] (step.Local m ∷ ys) e w b = absurd cc
  completes bs (p ∷ ps) ys e w b = by (out-CorePart p) bs ys e w b (λ ds. completes ds ps)
    where
      Rest : List ℕ → Type 0
      Rest ds = (zs : List NameStep) → agrees (patterns cs ps) (map step_in zs) ≡ true → within ds zs ≡ true → bounded ds ps ≡ true → fits (patterns cs ps) (map step_in zs) ≡ true

      at-index : (size : ℕ) (k : Kind) (o : Option ℕ) (c : ℕ) (ds : List ℕ) (m : ℕ) (zs : List NameStep) → agrees (index_step size k o ∷ patterns cs ps) (At m ∷ map step_in zs) ≡ true → (nat_lt m c && within ds zs) ≡ true → (nat_le c size && bounded ds ps) ≡ true → Rest ds → fits (index_step size k o ∷ patterns cs ps) (At m ∷ map step_in zs) ≡ true
      at-index size k None c ds m zs e w b f = both (nat_lt m size) (fits (patterns cs ps) (map step_in zs)) (below m c size (first (nat_lt m c) (within ds zs) w) (first (nat_le c size) (bounded ds ps) b)) (f zs e (second (nat_lt m c) (within ds zs) w) (second (nat_le c size) (bounded ds ps) b))
      at-index size k (Some x) c ds m zs e w b f = both (nat_eq _ m) (fits (patterns cs ps) (map step_in zs)) (first (nat_eq _ m) (agrees (patterns cs ps) (map step_in zs)) e) (f zs (second (nat_eq _ m) (agrees (patterns cs ps) (map step_in zs)) e) (second (nat_lt m c) (within ds zs) w) (second (nat_le c size) (bounded ds ps) b))

      no-member : (size : ℕ) (k : Kind) (o : Option ℕ) (m : ℕ) (zs : List Step) → agrees (index_step size k o ∷ patterns cs ps) (Named m ∷ zs) ≡ true → ⊥
      no-member size k None m zs e = cc
      no-member size k (Some w) m zs e = cc

      no-local : (size : ℕ) (k : Kind) (o : Option ℕ) (m : ℕ) (zs : List Step) → agrees (index_step size k o ∷ patterns cs ps) (Ours m ∷ zs) ≡ true → ⊥
      no-local size k None m zs e = cc
      no-local size k (Some w) m zs e = cc

      no-end : (size : ℕ) (k : Kind) (o : Option ℕ) → agrees (index_step size k o ∷ patterns cs ps) [] ≡ true → ⊥
      no-end size k None e = cc
      no-end size k (Some w) e = cc

      by : (o : PartLayer) (bs : List ℕ) (ys : List NameStep) → agrees (pattern_step cs o ∷ patterns cs ps) (map step_in ys) ≡ true → within bs ys ≡ true → sized bs (size_of o ∷ map size_at ps) ≡ true → ((ds : List ℕ) → Rest ds) → fits (pattern_step cs o ∷ patterns cs ps) (map step_in ys) ≡ true
      by (tree.Member n) bs (step.Member m ∷ ys) e w b f = both (nat_eq n.0 m.0) (fits (patterns cs ps) (map step_in ys)) (first (nat_eq n.0 m.0) (agrees (patterns cs ps) (map step_in ys)) e) (f bs ys (second (nat_eq n.0 m.0) (agrees (patterns cs ps) (map step_in ys)) e) w b)
      by (tree.Index size at) [] (step.Index m ∷ ys) e w b f = absurd cc
      by (tree.Index size at) (c ∷ ds) (step.Index m ∷ ys) e w b f = at-index size (kind_of (term_of at)) (static cs (term_of at)) c ds m ys e w b (f ds)
      by (tree.Member n) bs [] e w b f = absurd cc
      by (tree.Member n) bs (step.Index m ∷ ys) e w b f = absurd cc
      by (tree.Member n) bs (step.Local m ∷ ys) e w b f = absurd cc
      by (tree.Index size at) bs [] e w b f = absurd (no-end size (kind_of (term_of at)) (static cs (term_of at)) e)
      by (tree.Index size at) bs (step.Member m ∷ ys) e w b f = absurd (no-member size (kind_of (term_of at)) (static cs (term_of at)) m.0 (map step_in ys) e)
      by (tree.Index size at) bs (step.Local m ∷ ys) e w b f = absurd (no-local size (kind_of (term_of at)) (static cs (term_of at)) m (map step_in ys) e)

  -- and where an index that is known lies past its bound, nothing agrees
  never : (bs : List ℕ) (ps : List CorePart) (ys : List NameStep) → agrees (patterns cs ps) (map step_in ys) ≡ true → within bs ys ≡ true → goes_past cs bs ps ≡ true → ⊥
  never bs [] ys e w b = cc
  never bs (p ∷ ps) ys e w b = by (out-CorePart p) bs ys e w b (λ ds. never ds ps)
    where
      Rest : List ℕ → Type 0
      Rest ds = (zs : List NameStep) → agrees (patterns cs ps) (map step_in zs) ≡ true → within ds zs ≡ true → goes_past cs ds ps ≡ true → ⊥

      over : (m c i : ℕ) → nat_lt m c ≡ true → nat_eq i m ≡ true → nat_le c i ≡ true → ⊥
      over m c i e f g = let z : nat_lt m c ≡ false = grind (arith, f, g) in let y : true ≡ false = sym e ∙ z in cc

      at-some : (i c : ℕ) (ds : List ℕ) (m : ℕ) (zs : List NameStep) → (nat_eq i m && agrees (patterns cs ps) (map step_in zs)) ≡ true → (nat_lt m c && within ds zs) ≡ true → (x : Bool) → nat_le c i ≡ x → (x || goes_past cs ds ps) ≡ true → Rest ds → ⊥
      at-some i c ds m zs e w true is b f = over m c i (first (nat_lt m c) (within ds zs) w) (first (nat_eq i m) (agrees (patterns cs ps) (map step_in zs)) e) is
      at-some i c ds m zs e w false is b f = f zs (second (nat_eq i m) (agrees (patterns cs ps) (map step_in zs)) e) (second (nat_lt m c) (within ds zs) w) b

      at-index : (size : ℕ) (k : Kind) (o : Option ℕ) (c : ℕ) (ds : List ℕ) (m : ℕ) (zs : List NameStep) → agrees (index_step size k o ∷ patterns cs ps) (At m ∷ map step_in zs) ≡ true → (nat_lt m c && within ds zs) ≡ true → (is_past c (option_map (λ w. index_of k w) o) || goes_past cs ds ps) ≡ true → Rest ds → ⊥
      at-index size k None c ds m zs e w b f = f zs e (second (nat_lt m c) (within ds zs) w) b
      at-index size k (Some x) c ds m zs e w b f = at-some (index_of k x) c ds m zs e w (nat_le c (index_of k x)) refl b f

      no-member : (size : ℕ) (k : Kind) (o : Option ℕ) (m : ℕ) (zs : List Step) → agrees (index_step size k o ∷ patterns cs ps) (Named m ∷ zs) ≡ true → ⊥
      no-member size k None m zs e = cc
      no-member size k (Some w) m zs e = cc

      no-local : (size : ℕ) (k : Kind) (o : Option ℕ) (m : ℕ) (zs : List Step) → agrees (index_step size k o ∷ patterns cs ps) (Ours m ∷ zs) ≡ true → ⊥
      no-local size k None m zs e = cc
      no-local size k (Some w) m zs e = cc

      no-end : (size : ℕ) (k : Kind) (o : Option ℕ) → agrees (index_step size k o ∷ patterns cs ps) [] ≡ true → ⊥
      no-end size k None e = cc
      no-end size k (Some w) e = cc

      by : (o : PartLayer) (bs : List ℕ) (ys : List NameStep) → agrees (pattern_step cs o ∷ patterns cs ps) (map step_in ys) ≡ true → within bs ys ≡ true → one_past bs (rows.index_of cs o ∷ map (index_at cs) ps) ≡ true → ((ds : List ℕ) → Rest ds) → ⊥
      by (tree.Member n) bs (step.Member m ∷ ys) e w b f = f bs ys (second (nat_eq n.0 m.0) (agrees (patterns cs ps) (map step_in ys)) e) w b
      by (tree.Member n) bs [] e w b f = cc
      by (tree.Member n) bs (step.Index m ∷ ys) e w b f = cc
      by (tree.Member n) bs (step.Local m ∷ ys) e w b f = cc
      by (tree.Index size at) [] (step.Index m ∷ ys) e w b f = cc
      by (tree.Index size at) (c ∷ ds) (step.Index m ∷ ys) e w b f = at-index size (kind_of (term_of at)) (static cs (term_of at)) c ds m ys e w b (f ds)
      by (tree.Index size at) bs [] e w b f = no-end size (kind_of (term_of at)) (static cs (term_of at)) e
      by (tree.Index size at) bs (step.Member m ∷ ys) e w b f = no-member size (kind_of (term_of at)) (static cs (term_of at)) m.0 (map step_in ys) e
      by (tree.Index size at) bs (step.Local m ∷ ys) e w b f = no-local size (kind_of (term_of at)) (static cs (term_of at)) m (map step_in ys) e

  pub completes_or : (bs : List ℕ) (ps : List CorePart) (ys : List NameStep) → agrees (patterns cs ps) (map step_in ys) ≡ true → within bs ys ≡ true → (bounded bs ps || goes_past cs bs ps) ≡ true → fits (patterns cs ps) (map step_in ys) ≡ true
  completes_or bs ps ys e w b = by (bounded bs ps) refl b
    where
      by : (x : Bool) → bounded bs ps ≡ x → (x || goes_past cs bs ps) ≡ true → fits (patterns cs ps) (map step_in ys) ≡ true
      by true is b = completes bs ps ys e w is
      by false is b = absurd (never bs ps ys e w b)

-- ---- the array of a cell

pub record Met (t : Rows) (at : Spot) (ss ys : List NameStep) (x : Seen) (input : Bool) : Type 0 where
  pub to : Spot
  pub walks : walk t.names at (known ss) ≡ Some to
  pub row : row_covers t to ys x input ≡ true

some-index : (ss : List NameStep) (i : ℕ) (ys : List NameStep) → no_index (ss ++ step.Index i ∷ ys) ≡ true → ⊥
some-index [] i ys e = cc
some-index (s ∷ ss) i ys e = some-index ss i ys (second (not (is_index s)) (no_index (ss ++ step.Index i ∷ ys)) e)

pub met : (t : Rows) (at : Spot) (ss : List NameStep) (i : ℕ) (ys : List NameStep) (x : Seen) (input : Bool) → covered t at (ss ++ step.Index i ∷ ys) x input ≡ true → Met t at ss (step.Index i ∷ ys) x input
met t at [] i ys x input e = record { to = at; walks = refl; row = first (row_covers t at (step.Index i ∷ ys) x input) _ e }
met t at (s ∷ ss) i ys x input e = by (leads t.names at s) refl (second _ _ e) (λ to. met t to ss i ys x input)
  where
    by : (o : Option Spot) → leads t.names at s ≡ o → unwrap_or (option_map (λ to. covered t to (ss ++ step.Index i ∷ ys) x input) o) (no_index (ss ++ step.Index i ∷ ys)) ≡ true
        → ((to : Spot) → covered t to (ss ++ step.Index i ∷ ys) x input ≡ true → Met t to ss (step.Index i ∷ ys) x input) → Met t at (s ∷ ss) (step.Index i ∷ ys) x input
    by None is e f = absurd (some-index ss i ys e)
    by (Some to) is e f =
        let m = f to e in
        record { to = m.to; walks = ap (λ o. option_and_then (λ to. walk t.names to (known ss)) o) is ∙ m.walks; row = m.row }

pub record Told (cs : Cells) (r : Row) (ys : List NameStep) (ps : List CorePart) (test : Test) (x : Seen) (input : Bool) : Type 0 where
  pub asked : asked test x ≡ true
  pub within : within r.bounds ys ≡ true
  pub sized : (bounded r.bounds ps || goes_past cs r.bounds ps) ≡ true
  pub keeps : writes test ≡ true → input ≡ false

told : (cs : Cells) (r : Row) (ys : List NameStep) (ps : List CorePart) (test : Test) (x : Seen) (input : Bool) → row_passes cs r ps test ≡ true → covers r ys x input ≡ true → Told cs r ys ps test x input
told cs r ys ps test x input e f =
    let e1 = second (not r.mixed) _ e in
    let e2 = second (asked test r.seen) _ e1 in
    let f1 = second (r.mixed || same_seen r.seen x) _ f in
    let alike = same-seen r.seen x (plain r.mixed (same_seen r.seen x) (first (not r.mixed) _ e) (first (r.mixed || same_seen r.seen x) _ f)) in
    record {
      asked = ap (asked test) (sym alike) ∙ first (asked test r.seen) _ e1;
      within = second (not input || r.input) (within r.bounds ys) f1;
      sized = second (not (writes test) || not r.input) (bounded r.bounds ps || goes_past cs r.bounds ps) e2;
      keeps = dry (writes test) r.input input (first (not (writes test) || not r.input) (bounded r.bounds ps || goes_past cs r.bounds ps) e2) (first (not input || r.input) (within r.bounds ys) f1);
    }
  where
    plain : (a b : Bool) → not a ≡ true → (a || b) ≡ true → b ≡ true
    plain true b e f = absurd cc
    plain false b e f = f

    dry : (w a i : Bool) → (not w || not a) ≡ true → (not i || a) ≡ true → w ≡ true → i ≡ false
    dry true true i e f h = absurd cc
    dry true false true e f h = absurd cc
    dry true false false e f h = refl
    dry false a i e f h = absurd cc

-- what an array tells of a cell whose name agrees
pub record Cellwise (cs : Cells) (t : Rows) (name : CellName) (ps : List CorePart) (test : Test) (c : Cell) (x : Seen) (input : Bool) : Type 0 where
  pub row : Row
  pub ys : List NameStep
  pub is : steps_of c.name ≡ steps_of name ++ ys
  pub agree : agrees (opens ps) (map step_in ys) ≡ true
  pub told : Told cs row ys ps test x input

module _ (cs : Cells) (t : Rows) (name : CellName) (ps : List CorePart) (test : Test) (whole : name.local ≡ None → name.indices ≡ []) (begins : begins_open ps ≡ true) (pass : passes cs t name ps test ≡ true) where
  begins-index : (qs : List CorePart) (ys : List NameStep) → begins_open qs ≡ true → agrees (opens qs) (map step_in ys) ≡ true → (i : ℕ) × (zs : List NameStep) × (ys ≡ step.Index i ∷ zs)
  begins-index [] ys b e = absurd cc
  begins-index (q ∷ qs) ys b e = by (out-CorePart q) ys b e
    where
      by : (o : PartLayer) (ys : List NameStep) → is_open o ≡ true → agrees (open_step o ∷ opens qs) (map step_in ys) ≡ true → (i : ℕ) × (zs : List NameStep) × (ys ≡ step.Index i ∷ zs)
      by (tree.Member n) ys b e = absurd cc
      by (tree.Index size at) [] b e = absurd cc
      by (tree.Index size at) (step.Member m ∷ ys) b e = absurd cc
      by (tree.Index size at) (step.Local m ∷ ys) b e = absurd cc
      by (tree.Index size at) (step.Index m ∷ ys) b e = (m, ys, refl)

  pub cellwise : (c : Cell) (x : Seen) (input : Bool) → covered t top (steps_of c.name) x input ≡ true → agrees (map step_in (steps_of name) ++ opens ps) (map step_in (steps_of c.name)) ≡ true → Cellwise cs t name ps test c x input
  cellwise c x input e f =
      let d = split (steps_of name) (opens ps) (steps_of c.name) f in
      let b = begins-index ps d.ys begins d.agree in
      let m = met t top (steps_of name) b.0 b.1 x input (ap (λ ss. covered t top ss x input) (sym (d.is ∙ ap (λ ys. steps_of name ++ ys) b.2)) ∙ e) in
      let there : name_spot t.names name ≡ Some m.to = sym (name_walk t.names name whole) ∙ m.walks in
      let key : map keyed (step.Index b.0 ∷ b.1) ≡ map key_part ps = ap (map keyed) (sym b.2) ∙ one_key ps d.ys d.agree in
      by d.ys d.is d.agree (row_from t m.to (map key_part ps))
      (ap (passing cs ps test) (sym (ap (λ o. option_and_then (λ at. row_from t at (map key_part ps)) o) there)) ∙ pass)
      ((λ i. covering (b.2 i) x input (row_from t m.to (sym key i))) ∙ m.row)
    where
      by : (ys : List NameStep) → steps_of c.name ≡ steps_of name ++ ys → agrees (opens ps) (map step_in ys) ≡ true → (o : Option Row) → passing cs ps test o ≡ true → covering ys x input o ≡ true → Cellwise cs t name ps test c x input
      by ys is agree None e f = absurd cc
      by ys is agree (Some r) e f = record { row = r; ys = ys; is = is; agree = agree; told = told cs r ys ps test x input e f }
