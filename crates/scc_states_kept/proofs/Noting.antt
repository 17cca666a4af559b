-- What is among some cells behind one more statement.
use Rattle.std.proofs.Common.{◌≡◌, ◌<◌, ◌≤◌, ◌+◌, ℕ, zero, suc, arith, Bool, true, false, List, [], ◌∷◌, ◌++◌, take, length, get_or, map, slice_get, Option, Some, None, refl, sym, ap, subst, ◌∙◌, if◌then◌else◌}
use Rattle.std.specs.Prelude.{◌||◌, ◌&&◌, nat_eq, option_map, unwrap_or}
use Rattle.std.specs.List.{list_any}
use Rattle.std.proofs.lemmas.List.{take_all, take_more}
use Rattle.std.proofs.lemmas.List.Folds.{list_any-append, list_any_more}
use Rattle.std.proofs.lemmas.Option.{slice_get-map}
use Rattle.indexmap.specs.IndexSet.{insert_key}
use Rattle.scc_core.specs.declared.expr.CoreExpr.{CoreExpr}
use Rattle.scc_core.specs.declared.expr.CoreLeft.{CoreLeft}
use Rattle.scc_core.specs.declared.program.Cell.{Cell}
use Rattle.scc_core.specs.declared.statics.Known.{Known}
use Rattle.scc_core.specs.declared.stmt.Count.{Count as Counting}
use Rattle.scc_core.specs.declared.stmt.CoreStmt.{CoreStmt}
use Rattle.scc_core.specs.declared.stmt.CoreNode.TheVariants as node
use Rattle.scc_core_flow.specs.Live.{Each}
use Rattle.scc_core_flow.proofs.Alive.{code_joins}
use Rattle.scc_core_flow.proofs.Tests.{each_first, each_second}
use Rattle.scc_core_spec.specs.Code.{Code, End, append}
use Rattle.scc_core_spec.specs.Kept.{is_local_of}
use Rattle.scc_core_spec.specs.Program as Program
use Rattle.scc_core_spec.specs.Static.{Cells}
use Rattle.scc_core_spec.specs.Program.{Sort, Input, Output, Signal, Variable, Local, Pointer, Port, is_variable}
use Rattle.scc_core_spec.specs.Uses.{Act, acts, among, has_sort, loads, writes_of}
use Rattle.scc_core_view.specs.Codes.{code_of}
use Rattle.scc_core_view.specs.Programs.{cell_of, sort_of}
use Rattle.scc_core_view.specs.Terms.{taken_of, term_of}
use Rattle.scc_core_view.proofs.Layers.{assigns, tests, blocks, loops, exits, waits}
use Rattle.scc_rules_walks.specs.Loads.{uses_of}
use Rattle.scc_rules_walks.specs.declared.loads.Load.{Load}
use Rattle.scc_states_kept.specs.Needs.{reads_cell}
use Rattle.scc_states_kept.specs.Noted.{Notes, Spot, TellsHere, TellsOne, asks, cells_here, own_list, owned_sort, owns_any, owns_at, owns_cell, owns_one, put_of, test_of}
use Rattle.scc_states_kept.specs.Owned.{is_number, owned, owns}
use Rattle.scc_states_kept.specs.Rows.{cells_in}
use Rattle.scc_states_kept.specs.Slots.{put_reads}
use Rattle.scc_states_kept.specs.Walks.{TellsAct}
use Rattle.scc_states_kept.proofs.Acts.{acts_both}
use Rattle.scc_states_kept.proofs.Bools.{and_false, or_false, or_true}
use Rattle.scc_states_kept.proofs.Standing.{loads_as, same_number}

pub notes_as : (ks : List ℕ) (f g : ℕ → Bool) → ((x : ℕ) → f x ≡ g x) → Notes ks f → Notes ks g
notes_as ks f g h n = record { told = λ x. n.told x ∙ h x }

pub notes_start : (ks : List ℕ) (f o : ℕ → Bool) → Notes ks f → Notes ks (λ x. f x || (o x && false))
notes_start ks f o n = notes_as ks _ _ (λ x. sym (ap (λ b. f x || b) (and_false (o x)) ∙ or_false (f x))) n

regrouped : (f o a b : Bool) → ((f || (o && a)) || (o && b)) ≡ (f || (o && (a || b)))
regrouped true o a b = refl
regrouped false true a b = refl
regrouped false false a b = refl

pub or_assoc : (a b c : Bool) → ((a || b) || c) ≡ (a || (b || c))
or_assoc true b c = refl
or_assoc false b c = refl

-- behind one more of a list, and at its end
pub notes_next : {A : Type 0} (o : ℕ → Bool) (p : ℕ → A → Bool) (xs : List A) (i : ℕ) (y : A) (ks : List ℕ) (f : ℕ → Bool) → i < length xs → y ≡ get_or xs i y
    → Notes ks (λ x. (f x || (o x && list_any (p x) (take i xs))) || (o x && p x y)) → Notes ks (λ x. f x || (o x && list_any (p x) (take (i + 1) xs)))
notes_next o p xs i y ks f h is n =
    notes_as ks _ _ (λ x. regrouped (f x) (o x) (list_any (p x) (take i xs)) (p x y)
    ∙ ap (λ z. f x || (o x && (list_any (p x) (take i xs) || p x z))) is
    ∙ ap (λ b. f x || (o x && b)) (sym (list_any_more (p x) xs i y h))) n

pub notes_more : (o : ℕ → Bool) (xs : List ℕ) (i : ℕ) (ks : List ℕ) (f : ℕ → Bool) → i < length xs
    → Notes ks (λ x. (f x || (o x && among x (take i xs))) || (o x && nat_eq x (get_or xs i 0))) → Notes ks (λ x. f x || (o x && among x (take (i + 1) xs)))
notes_more o xs i ks f h n =
    notes_as ks _ _ (λ x. regrouped (f x) (o x) (among x (take i xs)) (nat_eq x (get_or xs i 0)) ∙ ap (λ b. f x || (o x && b)) (sym (list_any_more (nat_eq x) xs i 0 h))) n

pub notes_all : {A : Type 0} (o : ℕ → Bool) (p : ℕ → A → Bool) (xs : List A) (i : ℕ) (ks : List ℕ) (f : ℕ → Bool) → length xs ≤ i
    → Notes ks (λ x. f x || (o x && list_any (p x) (take i xs))) → Notes ks (λ x. f x || (o x && list_any (p x) xs))
notes_all o p xs i ks f h n = notes_as ks _ _ (λ x. ap (λ ys. f x || (o x && list_any (p x) ys)) (take_all i xs h)) n

-- ---- one cell

inserted_among : (ks : List ℕ) (v x : ℕ) → among x (insert_key nat_eq ks v) ≡ (among x ks || nat_eq x v)
inserted_among ks v x = by (among v ks) refl (nat_eq x v) refl
  where
    by : (b : Bool) → among v ks ≡ b → (t : Bool) → nat_eq x v ≡ t → among x (if b then ks else ks ++ v ∷ []) ≡ (among x ks || t)
    by true e true d = ap (λ y. among y ks) (same_number x v d) ∙ e ∙ sym (or_true (among x ks))
    by true e false d = sym (or_false (among x ks))
    by false e t d = list_any-append (nat_eq x) ks (v ∷ []) ∙ ap (λ b. among x ks || b) (or_false (nat_eq x v) ∙ d)

pub inserted : (old new : List ℕ) (v : ℕ) (f : ℕ → Bool) → new ≡ insert_key nat_eq old v → Notes old f → Notes new (λ x. f x || nat_eq x v)
inserted old new v f is n = record { told = λ x. ap (among x) is ∙ inserted_among old v x ∙ ap (λ b. b || nat_eq x v) (n.told x) }

at_cell : (o : ℕ → Bool) (c : ℕ) (b : Bool) → b ≡ o c → (x : ℕ) → (b && nat_eq x c) ≡ (o x && nat_eq x c)
at_cell o c b is x = by (nat_eq x c) refl
  where
    by : (t : Bool) → nat_eq x c ≡ t → (b && t) ≡ (o x && t)
    by true e = ap (λ z. z && true) (is ∙ ap o (sym (same_number x c e)))
    by false e = and_false b ∙ sym (and_false (o x))

pub notes_taken : (o : ℕ → Bool) (c : ℕ) (ks : List ℕ) (f : ℕ → Bool) → true ≡ o c → Notes ks (λ x. f x || nat_eq x c) → Notes ks (λ x. f x || (o x && nat_eq x c))
notes_taken o c ks f is n = notes_as ks _ _ (λ x. ap (λ b. f x || b) (at_cell o c true is x)) n

pub notes_passed : (o : ℕ → Bool) (c : ℕ) (ks : List ℕ) (f : ℕ → Bool) → false ≡ o c → Notes ks f → Notes ks (λ x. f x || (o x && nat_eq x c))
notes_passed o c ks f is n = notes_as ks _ _ (λ x. sym (or_false (f x)) ∙ ap (λ b. f x || b) (at_cell o c false is x)) n

-- ---- whose cell it is

read_sort : (i : ℕ) (s : Sort) → owned_sort i false s ≡ is_local_of i s
read_sort i Input = refl
read_sort i Output = refl
read_sort i Signal = refl
read_sort i (Variable w fixed) = refl
read_sort i (Local j) = refl
read_sort i (Pointer t) = refl
read_sort i (Port p) = refl

written_sort : (i : ℕ) (s : Sort) → owned_sort i true s ≡ (is_local_of i s || is_variable s)
written_sort i Input = refl
written_sort i Output = refl
written_sort i Signal = refl
written_sort i (Variable w fixed) = refl
written_sort i (Local j) = sym (or_false (nat_eq i j))
written_sort i (Pointer t) = refl
written_sort i (Port p) = refl

module _ (known : Known) (i x : ℕ) where
  pub read_here : owns_at known i false x ≡ has_sort (is_local_of i) (cells_here known) x
  read_here = by (slice_get known.cells.now x) ∙ ap (λ o. unwrap_or (option_map (is_local_of i) (option_map (λ c. c.sort) o)) false) (sym (slice_get-map cell_of known.cells.now x))
    where
      by : (o : Option Cell) → owns_cell i false o ≡ unwrap_or (option_map (is_local_of i) (option_map (λ c. c.sort) (option_map cell_of o))) false
      by None = refl
      by (Some c) = read_sort i (sort_of c.sort)

  pub written_here : owns_at known i true x ≡ asks known i x
  written_here = by (slice_get known.cells.now x)
      ∙ ap (λ o. unwrap_or (option_map (is_local_of i) (option_map (λ c. c.sort) o)) false || unwrap_or (option_map is_variable (option_map (λ c. c.sort) o)) false) (sym (slice_get-map cell_of known.cells.now x))
    where
      by : (o : Option Cell) → owns_cell i true o
          ≡ (unwrap_or (option_map (is_local_of i) (option_map (λ c. c.sort) (option_map cell_of o))) false || unwrap_or (option_map is_variable (option_map (λ c. c.sort) (option_map cell_of o))) false)
      by None = refl
      by (Some c) = written_sort i (sort_of c.sort)

guarded : (o a b : Bool) → (o ≡ true → a ≡ b) → (o && a) ≡ (o && b)
guarded true a b h = h refl
guarded false a b h = refl

pub local_asked : (l v : Bool) → l ≡ true → (l || v) ≡ true
local_asked l v h = ap (λ b. b || v) h

-- ---- statements by themselves

module _ (known : Known) (i : ℕ) where
  reads_noted : (ls : List Load) (a : Act) → uses_of ls ≡ a.reads → TellsOne known i a → (x : ℕ)
      → (owns_at known i false x && list_any (λ m. among x (cells_in known m.left.now)) ls) ≡ (has_sort (is_local_of i) (cells_here known) x && reads_cell (cells_here known) x a.reads)
  reads_noted ls a is t x =
      ap (λ b. b && list_any (λ m. among x (cells_in known m.left.now)) ls) (read_here known i x)
      ∙ guarded (has_sort (is_local_of i) (cells_here known) x) _ _ (λ o. loads_as known (cells_here known) (asks known i) ls a.reads is t.reads x (local_asked _ _ o))

  pub put_noted : (p : Spot) (l : CoreLeft) (e : CoreExpr) (ls : List Load) (ks : List ℕ) (f : ℕ → Bool) → uses_of ls ≡ put_reads l e → TellsOne known i (put_of p l e)
      → Notes ks (λ x. (f x || (owns_at known i false x && list_any (λ m. among x (cells_in known m.left.now)) ls)) || (owns_at known i true x && among x (cells_in known l)))
      → Notes ks (λ x. f x || owns_one known i (put_of p l e) x)
  put_noted p l e ls ks f is t n =
      notes_as ks _ _ (λ x. or_assoc (f x) (owns_at known i false x && list_any (λ m. among x (cells_in known m.left.now)) ls) (owns_at known i true x && among x (cells_in known l))
      ∙ ap (λ b. f x || (b || (owns_at known i true x && among x (cells_in known l)))) (reads_noted ls (put_of p l e) is t x)
      ∙ ap (λ b. f x || ((has_sort (is_local_of i) (cells_here known) x && reads_cell (cells_here known) x (put_reads l e)) || (b && among x (cells_in known l)))) (written_here known i x)
      ∙ ap (λ b. f x || ((has_sort (is_local_of i) (cells_here known) x && reads_cell (cells_here known) x (put_reads l e)) || b)) (guarded (asks known i x) _ _ (λ o. t.writes.names l refl x o))) n

  no_write : (a n : Bool) → a ≡ (a || (n && false))
  no_write a n = sym (ap (λ b. a || b) (and_false n) ∙ or_false a)

  pub test_noted : (p : Spot) (e : CoreExpr) (ls : List Load) (ks : List ℕ) (f : ℕ → Bool) → uses_of ls ≡ loads (term_of e) → TellsOne known i (test_of p e)
      → Notes ks (λ x. f x || (owns_at known i false x && list_any (λ m. among x (cells_in known m.left.now)) ls)) → Notes ks (λ x. f x || owns_one known i (test_of p e) x)
  test_noted p e ls ks f is t n =
      notes_as ks _ _ (λ x. ap (λ b. f x || b) (reads_noted ls (test_of p e) is t x
      ∙ no_write (has_sort (is_local_of i) (cells_here known) x && reads_cell (cells_here known) x (loads (term_of e))) (asks known i x))) n

  -- ---- code

  any_code : (c d : Code) (x : ℕ) → owns_any known i (append c d) x ≡ (owns_any known i c x || owns_any known i d x)
  any_code c d x = ap (list_any (owns (cells_here known) i x)) (acts_both c d) ∙ list_any-append (owns (cells_here known) i x) (acts c) (acts d)

  code_more : (ss : List CoreStmt) (n : ℕ) (s : CoreStmt) → n < length ss → s ≡ get_or ss n s → code_of (take (n + 1) ss) ≡ append (code_of (take n ss)) (code_of (s ∷ []))
  code_more ss n s h is = ap code_of (taken ss n s h is) ∙ code_joins (take n ss) (s ∷ [])
    where
      taken : (xs : List CoreStmt) (k : ℕ) (y : CoreStmt) → k < length xs → y ≡ get_or xs k y → take (k + 1) xs ≡ take k xs ++ y ∷ []
      taken xs k y h is = take_more xs k y h ∙ ap (λ z. take k xs ++ z ∷ []) (sym is)

  pub notes_code : (ss : List CoreStmt) (n : ℕ) (s : CoreStmt) (ks : List ℕ) (f : ℕ → Bool) → n < length ss → s ≡ get_or ss n s
      → Notes ks (λ x. (f x || owns_any known i (code_of (take n ss)) x) || owns_any known i (code_of (s ∷ [])) x) → Notes ks (λ x. f x || owns_any known i (code_of (take (n + 1) ss)) x)
  notes_code ss n s ks f h is m =
      notes_as ks _ _ (λ x. or_assoc (f x) (owns_any known i (code_of (take n ss)) x) (owns_any known i (code_of (s ∷ [])) x)
      ∙ ap (λ b. f x || b) (sym (any_code (code_of (take n ss)) (code_of (s ∷ [])) x) ∙ ap (λ c. owns_any known i c x) (sym (code_more ss n s h is)))) m

  pub notes_done : (ss : List CoreStmt) (n : ℕ) (ks : List ℕ) (f : ℕ → Bool) → length ss ≤ n
      → Notes ks (λ x. f x || owns_any known i (code_of (take n ss)) x) → Notes ks (λ x. f x || owns_any known i (code_of ss) x)
  notes_done ss n ks f h m = notes_as ks _ _ (λ x. ap (λ ys. f x || owns_any known i (code_of ys) x) (take_all n ss h)) m

  pub notes_none : (ks : List ℕ) (f : ℕ → Bool) → Notes ks f → Notes ks (λ x. f x || false)
  notes_none ks f m = notes_as ks _ _ (λ x. sym (or_false (f x))) m

  pub notes_of : (c d : Code) (ks : List ℕ) (f : ℕ → Bool) → c ≡ d → Notes ks (λ x. f x || owns_any known i d x) → Notes ks (λ x. f x || owns_any known i c x)
  notes_of c d ks f is m = subst (λ z. Notes ks (λ x. f x || owns_any known i z x)) (sym is) m

  -- what is told of a statement, taken apart
  pub one_put : (s : CoreStmt) (l : CoreLeft) (e : CoreExpr) → s.node ≡ node.Assign l e → TellsHere known i (code_of (s ∷ [])) → TellsOne known i (put_of s.place l e)
  one_put s l e is d = (subst (TellsHere known i) (assigns s l e is End) d).0

  pub one_if : (s : CoreStmt) (t : CoreExpr) (a b : List CoreStmt) → s.node ≡ node.If t a b → TellsHere known i (code_of (s ∷ []))
      → TellsOne known i (test_of s.place t) × TellsHere known i (code_of a) × TellsHere known i (code_of b)
  one_if s t a b is d =
      let e = subst (TellsHere known i) (tests s t a b is End) d in
      let P = TellsOne known i in
      let rest = each_second P (acts (code_of a)) (acts (code_of b) ++ []) e.1 in
      (e.0, each_first P (acts (code_of a)) (acts (code_of b) ++ []) e.1, each_first P (acts (code_of b)) [] rest)

  pub one_block : (s : CoreStmt) (b : List CoreStmt) → s.node ≡ node.Block b → TellsHere known i (code_of (s ∷ [])) → TellsHere known i (code_of b)
  one_block s b is d = each_first (TellsOne known i) (acts (code_of b)) [] (subst (TellsHere known i) (blocks s b is End) d)

  pub one_loop : (s : CoreStmt) (n : Option Counting) (b : List CoreStmt) → s.node ≡ node.Loop n b → TellsHere known i (code_of (s ∷ [])) → TellsHere known i (code_of b)
  one_loop s n b is d = each_first (TellsOne known i) (acts (code_of b)) [] (subst (TellsHere known i) (loops s n b is End) d)

  -- and what is noted of it, put together
  pub noted_put : (s : CoreStmt) (l : CoreLeft) (e : CoreExpr) (ks : List ℕ) (f : ℕ → Bool) → s.node ≡ node.Assign l e → Notes ks (λ x. f x || owns_one known i (put_of s.place l e) x)
      → Notes ks (λ x. f x || owns_any known i (code_of (s ∷ [])) x)
  noted_put s l e ks f is m = notes_of _ _ ks f (assigns s l e is End) (notes_as ks _ _ (λ x. ap (λ b. f x || b) (sym (or_false (owns_one known i (put_of s.place l e) x)))) m)

  four : (f t a b : Bool) → (((f || t) || a) || b) ≡ (f || (t || (a || b)))
  four true t a b = refl
  four false true a b = refl
  four false false a b = refl

  both_any : (a b : Code) (x : ℕ) → (owns_any known i a x || owns_any known i b x) ≡ list_any (owns (cells_here known) i x) (acts a ++ (acts b ++ []))
  both_any a b x =
      ap (λ z. owns_any known i a x || z) (sym (list_any-append (owns (cells_here known) i x) (acts b) [] ∙ or_false (owns_any known i b x)))
      ∙ sym (list_any-append (owns (cells_here known) i x) (acts a) (acts b ++ []))

  pub noted_if : (s : CoreStmt) (t : CoreExpr) (a b : List CoreStmt) (ks : List ℕ) (f : ℕ → Bool) → s.node ≡ node.If t a b
      → Notes ks (λ x. ((f x || owns_one known i (test_of s.place t) x) || owns_any known i (code_of a) x) || owns_any known i (code_of b) x)
      → Notes ks (λ x. f x || owns_any known i (code_of (s ∷ [])) x)
  noted_if s t a b ks f is m =
      notes_of _ _ ks f (tests s t a b is End)
      (notes_as ks _ _ (λ x. four (f x) (owns_one known i (test_of s.place t) x) (owns_any known i (code_of a) x) (owns_any known i (code_of b) x)
      ∙ ap (λ z. f x || (owns_one known i (test_of s.place t) x || z)) (both_any (code_of a) (code_of b) x)) m)

  alone : (b : Code) (x : ℕ) → owns_any known i b x ≡ list_any (owns (cells_here known) i x) (acts b ++ [])
  alone b x = sym (list_any-append (owns (cells_here known) i x) (acts b) [] ∙ or_false (owns_any known i b x))

  pub noted_block : (s : CoreStmt) (b : List CoreStmt) (ks : List ℕ) (f : ℕ → Bool) → s.node ≡ node.Block b → Notes ks (λ x. f x || owns_any known i (code_of b) x)
      → Notes ks (λ x. f x || owns_any known i (code_of (s ∷ [])) x)
  noted_block s b ks f is m = notes_of _ _ ks f (blocks s b is End) (notes_as ks _ _ (λ x. ap (λ z. f x || z) (alone (code_of b) x)) m)

  pub noted_loop : (s : CoreStmt) (n : Option Counting) (b : List CoreStmt) (ks : List ℕ) (f : ℕ → Bool) → s.node ≡ node.Loop n b → Notes ks (λ x. f x || owns_any known i (code_of b) x)
      → Notes ks (λ x. f x || owns_any known i (code_of (s ∷ [])) x)
  noted_loop s n b ks f is m = notes_of _ _ ks f (loops s n b is End) (notes_as ks _ _ (λ x. ap (λ z. f x || z) (alone (code_of b) x)) m)

  pub noted_exit : (s : CoreStmt) (n : ℕ) (ks : List ℕ) (f : ℕ → Bool) → s.node ≡ node.Exit n → Notes ks f → Notes ks (λ x. f x || owns_any known i (code_of (s ∷ [])) x)
  noted_exit s n ks f is m = notes_of _ _ ks f (exits s n is End) (notes_none ks f m)

  pub noted_wait : (s : CoreStmt) (n : ℕ) (ks : List ℕ) (f : ℕ → Bool) → s.node ≡ node.Wait n → Notes ks f → Notes ks (λ x. f x || owns_any known i (code_of (s ∷ [])) x)
  noted_wait s n ks f is m = notes_of _ _ ks f (waits s n is End) (notes_none ks f m)

-- ---- what is noted is a cell

pub notes_empty : (ks : List ℕ) → ks ≡ [] → Notes ks (λ x. false)
notes_empty ks is = record { told = λ x. ap (among x) is }

within : {A : Type 0} (xs : List A) (k : ℕ) (x : A) → slice_get xs k ≡ Some x → k < length xs
within [] k x h = absurd cc
within (y ∷ ys) zero x h = omega arith
within (y ∷ ys) (suc k) x h = let r : k < length ys = within ys k x h in omega (arith, r)

module _ (cs : Cells) (i x : ℕ) where
  not_here : (a : Bool) → a ≡ false → a ≡ true → ⊥
  not_here a h k = absurd cc

  number_below : is_number cs i x ≡ true → x < length cs
  number_below h = by (slice_get cs x) refl
    where
      lost : slice_get cs x ≡ None → is_number cs i x ≡ false
      lost e = ap (λ o. unwrap_or (option_map (is_local_of i) (option_map (λ c. c.sort) o)) false || unwrap_or (option_map is_variable (option_map (λ c. c.sort) o)) false) e

      by : (o : Option Program.Cell) → slice_get cs x ≡ o → x < length cs
      by None e = absurd (not_here _ (lost e) h)
      by (Some c) e = within cs x c e

  neither : (l v : Bool) → (l || v) ≡ false → l ≡ false
  neither true v h = absurd cc
  neither false v h = refl

  unowned : is_number cs i x ≡ false → (rest : List Act) → list_any (owns cs i x) rest ≡ false
  unowned h [] = refl
  unowned h (a ∷ rest) =
      ap (λ l. ((l && reads_cell cs x a.reads) || (is_number cs i x && among x (writes_of cs a))) || list_any (owns cs i x) rest) (neither (has_sort (is_local_of i) cs x) (has_sort is_variable cs x) h)
      ∙ ap (λ n. (n && among x (writes_of cs a)) || list_any (owns cs i x) rest) h ∙ unowned h rest

  pub owned_number : (c : Code) → owned cs i x c ≡ true → is_number cs i x ≡ true
  owned_number c h = by (is_number cs i x) refl
    where
      by : (b : Bool) → is_number cs i x ≡ b → is_number cs i x ≡ true
      by true e = e
      by false e = absurd (not_here _ (unowned e (acts c)) h)

  pub owned_below : (c : Code) → owned cs i x c ≡ true → x < length cs
  owned_below c h = number_below (owned_number c h)
