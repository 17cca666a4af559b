-- The kept cells of a thread, from what is needed before each of its segments.
use Rattle.std.proofs.Common.{◌≡◌, ◌<◌, ◌≤◌, ◌+◌, ℕ, zero, suc, arith, Bool, true, false, List, [], ◌∷◌, ◌++◌, take, length, get_or, map, Option, Some, None, refl, sym, ap, subst, ◌∙◌, if◌then◌else◌}
use Rattle.std.specs.Prelude.{◌||◌, ◌&&◌, filter}
use Rattle.std.specs.List.{list_any, range_with_len}
use Rattle.std.proofs.lemmas.List.{take_all, take_more}
use Rattle.std.proofs.lemmas.List.Elements.{filter-append}
use Rattle.scc_core.specs.declared.statics.Known.{Known}
use Rattle.scc_core.specs.declared.stmt.CoreStmt.{CoreStmt}
use Rattle.scc_core_flow.specs.declared.set.CellSet.{CellSet}
use Rattle.scc_core_flow.specs.Live.{Each}
use Rattle.scc_core_flow.specs.Sets.{holds}
use Rattle.scc_core_spec.specs.Kept.{is_kept, kept}
use Rattle.scc_core_spec.specs.Live.{live}
use Rattle.scc_core_spec.specs.Program.{Process}
use Rattle.scc_core_spec.specs.Segments.{Segment, all_segments, segment_code}
use Rattle.scc_core_spec.specs.Sizes.{live_body}
use Rattle.scc_core_spec.specs.Static.{Cells}
use Rattle.scc_core_spec.specs.Uses.{acts, among}
use Rattle.scc_core_view.specs.Codes.{code_of}
use Rattle.scc_states_cut.specs.declared.types.SegStmt.{SegStmt}
use Rattle.scc_states_cut.specs.Cut.{segment_of}
use Rattle.scc_states_kept.specs.declared.own.Own.{Own}
use Rattle.scc_states_kept.specs.Gathered.{AreAsked, IsCutThread, TellsAll, before_all, before_one, needed_in, segments_of}
use Rattle.scc_states_kept.specs.Noted.{IsOwn, TellsHere, asks, cells_here, own_list}
use Rattle.scc_states_kept.specs.Owned.{owned}
use Rattle.scc_states_kept.specs.Slots.{Keeps, slot_in}
use Rattle.scc_states_kept.specs.Walks.{Counts, TellsAct, TellsCode}
use Rattle.scc_states_kept.proofs.Acts.{AllOf, all_segments_all}
use Rattle.scc_states_kept.proofs.Ascending.{filter_as, filter_two}
use Rattle.scc_states_kept.proofs.Noting.{owned_number}
use Rattle.scc_states_kept.proofs.Owning.{kept_owned}
use Rattle.scc_states_kept.proofs.Standing.{keeps_same}

or_turned : (a b : Bool) → (a || b) ≡ (b || a)
or_turned true true = refl
or_turned true false = refl
or_turned false true = refl
or_turned false false = refl

-- ---- one segment more

module _ (only : ℕ → Bool) (own : Own) where
  pub keeps_more_first : (old other new : CellSet) (f g : ℕ → Bool) → ((n : ℕ) → holds new n ≡ (holds old n || holds other n)) → Keeps only own old f → Keeps only own other g
      → Keeps only own new (λ x. g x || f x)
  keeps_more_first old other new f g h k m =
      record { told = λ x s o i. h s ∙ ap (λ b. b || holds other s) (k.told x s o i) ∙ ap (λ b. f x || b) (m.told x s o i) ∙ or_turned (f x) (g x) }

  less : {A : Type 0} (i : ℕ) (s : A) (ss : List A) → suc i < length (s ∷ ss) → i < length ss
  less i s ss h = omega arith

  not_below : (i : ℕ) → i < 0 → ⊥
  not_below i h = omega arith

-- what is told of each is told of the one at a place
pub told_at : {A B : Type 0} (P : B → Type 0) (g : A → B) (xs : List A) (i : ℕ) (x : A) → i < length xs → x ≡ get_or xs i x → Each P (map g xs) → P (g x)
told_at P g [] i x h is e = absurd (none i h)
  where
    none : (i : ℕ) → i < 0 → ⊥
    none i h = omega arith
told_at P g (y ∷ ys) zero x h is e = subst (λ z. P (g z)) (sym is) e.0
told_at P g (y ∷ ys) (suc i) x h is e = told_at P g ys i x (lower i (length ys) h) is e.1
  where
    lower : (i n : ℕ) → suc i < suc n → i < n
    lower i n h = omega arith

any_map : {A B : Type 0} (p : B → Bool) (g : A → B) (xs : List A) → list_any (λ x. p (g x)) xs ≡ list_any p (map g xs)
any_map p g [] = refl
any_map p g (x ∷ xs) = ap (λ b. p (g x) || b) (any_map p g xs)

pub keeps_gathered : (only : ℕ → Bool) (own : Own) (cs : Cells) (set : CellSet) (waits : Counts) (reset : List SegStmt) (lists : List (List SegStmt))
    → Keeps only own set (λ x. list_any (λ l. before_all cs waits l x) lists || before_all cs waits reset x)
    → Keeps only own set (needed_in cs (segment_of waits reset ∷ segments_of waits lists))
keeps_gathered only own cs set waits reset lists k =
    keeps_same only own set _ _ (λ x. or_turned (list_any (λ l. before_all cs waits l x) lists) (before_all cs waits reset x)
    ∙ ap (λ b. before_all cs waits reset x || b) (any_map (λ s. before_one cs s x) (segment_of waits) lists)) k

-- ---- the cells of a set

if_same : (b c : Bool) (x : ℕ) → b ≡ c → (if b then x ∷ [] else []) ≡ (if c then x ∷ [] else [])
if_same b c x h = ap (λ t. if t then x ∷ [] else []) h

one_filtered : (f : ℕ → Bool) (x : ℕ) → filter f (x ∷ []) ≡ (if f x then x ∷ [] else [])
one_filtered f x = refl

pub filtered_more : (f : ℕ → Bool) (xs : List ℕ) (i : ℕ) (out now : List ℕ) → i < length xs → now ≡ out ++ (if f (get_or xs i 0) then get_or xs i 0 ∷ [] else []) → out ≡ filter f (take i xs)
    → now ≡ filter f (take (i + 1) xs)
filtered_more f xs i out now h is so =
    is ∙ ap (λ l. l ++ (if f (get_or xs i 0) then get_or xs i 0 ∷ [] else [])) so ∙ sym (filter-append f (take i xs) (get_or xs i 0 ∷ [])) ∙ ap (filter f) (sym (take_more xs i 0 h))

pub filtered_all : (f : ℕ → Bool) (xs : List ℕ) (i : ℕ) (out : List ℕ) → length xs ≤ i → out ≡ filter f (take i xs) → out ≡ filter f xs
filtered_all f xs i out h so = so ∙ ap (filter f) (take_all i xs h)

pub asked_at : (only : ℕ → Bool) (xs : List ℕ) (i : ℕ) → i < length xs → AreAsked only xs → only (get_or xs i 0) ≡ true
asked_at only [] i h a = absurd (none i h)
  where
    none : (i : ℕ) → i < 0 → ⊥
    none i h = omega arith
asked_at only (x ∷ xs) zero h a = a.0
asked_at only (x ∷ xs) (suc i) h a = asked_at only xs i (lower i (length xs) h) a.1
  where
    lower : (i n : ℕ) → suc i < suc n → i < n
    lower i n h = omega arith

pub kept_told : (only : ℕ → Bool) (own : Own) (set : CellSet) (f : ℕ → Bool) (cell slot : ℕ) → Keeps only own set f → only cell ≡ true → slot_in own cell ≡ Some slot → holds set slot ≡ f cell
kept_told only own set f cell slot k o i = k.told cell slot o i

-- ---- the kept cells

-- of those that are left by a test what holds where it does
filtered_each : (P : ℕ → Type 0) (f : ℕ → Bool) → ((x : ℕ) → f x ≡ true → P x) → (xs : List ℕ) → Each P (filter f xs)
filtered_each P f h [] = tt
filtered_each P f h (x ∷ xs) = by (filtered_each P f h xs) (f x) refl
  where
    by : Each P (filter f xs) → (b : Bool) → f x ≡ b → Each P (if b then x ∷ filter f xs else filter f xs)
    by e true t = (h x t, e)
    by e false t = e

module _ (known : Known) (i : ℕ) (p : Process) (body : List CoreStmt) (ss : List Segment) (cut : IsCutThread known p body ss) where
  pub told_segments : TellsHere known i (code_of body) → TellsAll known (cells_here known) (asks known i) ss
  told_segments d =
      subst (Each (AllOf (TellsAct known (cells_here known) (asks known i)))) (sym cut.segments)
      (all_segments_all (TellsAct known (cells_here known) (asks known i)) (cells_here known) p.body (subst (λ c. Each (TellsAct known (cells_here known) (asks known i)) (acts c)) cut.live d))

  pub own_asked : (own : Own) → IsOwn known i (code_of body) own → AreAsked (asks known i) own.cells.keys
  own_asked own o =
      subst (AreAsked (asks known i)) (sym o.cells)
      (filtered_each (λ x. asks known i x ≡ true) (λ x. owned (cells_here known) i x (code_of body)) (λ x h. owned_number (cells_here known) i x (code_of body) h) (range_with_len 0 (length (cells_here known))))

  pub kept_is : (ks keys : List ℕ) → keys ≡ own_list (cells_here known) i (code_of body) → ks ≡ filter (needed_in (cells_here known) ss) keys → ks ≡ kept (cells_here known) i p
  kept_is ks keys own is =
      is ∙ ap (filter (needed_in (cells_here known) ss)) own
      ∙ filter_two (λ x. owned (cells_here known) i x (code_of body)) (needed_in (cells_here known) ss) (range_with_len 0 (length (cells_here known)))
      ∙ filter_as _ (is_kept (cells_here known) i p) (range_with_len 0 (length (cells_here known))) (λ x.
      ap (λ c. owned (cells_here known) i x c && needed_in (cells_here known) ss x) cut.live
      ∙ ap (λ l. owned (cells_here known) i x (live (cells_here known) p.body) && needed_in (cells_here known) l x) cut.segments
      ∙ sym (kept_owned (cells_here known) x i p))
