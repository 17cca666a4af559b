-- What a process can't be sure to find it reads late.
use Rattle.std.proofs.Common.{◌≡◌, ℕ, zero, suc, Bool, true, false, not, ◌&&◌, ◌||◌, nat_eq, List, [], ◌∷◌, ◌++◌, flat_map, Option, Some, None, refl, sym, ap, ◌∙◌, subst, arith, if◌then◌else◌, slice_get, is_some, ◌⊎◌, inl, inr}
use Rattle.std.specs.Prelude.{option_map, option_and_then, unwrap_or}
use Rattle.std.specs.List.{list_any}
use Rattle.std.proofs.lemmas.List.Folds.{list_any-append}
use Rattle.scc_core_spec.specs.Program as program
use Rattle.scc_core_spec.specs.Program.{Program, Process, Sort, Input, Output, Signal, Variable, Local, Pointer, Port, Edge, is_root, is_variable, is_local, is_number, is_combinational, is_combinational_by}
use Rattle.scc_core_spec.specs.Term.{Term, Left, Pick}
use Rattle.scc_core_spec.specs.Static.{Cells}
use Rattle.scc_core_spec.specs.Live.{live}
use Rattle.scc_core_spec.specs.Sizes.{live_body}
use Rattle.scc_core_spec.specs.Segments.{Segment, all_segments, segment_code}
use Rattle.scc_core_spec.specs.Flow.{flow}
use Rattle.scc_core_spec.specs.Uses.{acts, loads, inside, picked, reads_of, writes_of, has_sort, among}
use Rattle.scc_core_spec.specs.Clashes.{names_of}
use Rattle.scc_core_spec.specs.Kept.{written_by, is_local_of, is_own, is_kept, has_any}
use Rattle.scc_core_spec.specs.Constants.{written, constant_if}
use Rattle.scc_core_spec.specs.Rules.{watched}
use Rattle.scc_core_spec.specs.Source.{Home}
use Rattle.scc_blocks_spec.specs.Names.{keeps}
use Rattle.scc_blocks_spec.specs.Passed.{all_named}
use Rattle.scc_blocks_spec.specs.Turns.{constant_at, segment_at}
use Rattle.scc_core_effect_laws.specs.Alike.{Late, Unread, UnreadUses}
use Rattle.scc_core_effect_laws.specs.Follows.{IsSoundCore, Obeys}
use Rattle.scc_core_effect_laws.proofs.Names.{and-first, and-second, and-both, or-first, or-second, or-left, or-right, some-same, none-some, true-false, not-true}
use Rattle.scc_core_effect_laws.proofs.Lateness.{told, unread-late}
use Rattle.scc_core_effect_laws.proofs.Parts.{GoodSegment, GoodSegments, numbered-each, all-good}
use Rattle.scc_core_effect_laws.proofs.Moved.{all-unread}

-- ---- lists

pub flat-in : {A : Type 0} (f : A → List ℕ) (x : ℕ) (ps : List A) → among x (flat_map f ps) ≡ true → (j : ℕ) × (r : A) × (slice_get ps j ≡ Some r) × (among x (f r) ≡ true)
flat-in f x [] e = true-false (sym e)
flat-in {A = A} f x (p ∷ ps) e = by (among x (f p)) refl (λ h. flat-in f x ps h)
  where
    by : (b : Bool) → among x (f p) ≡ b → (among x (flat_map f ps) ≡ true → (j : ℕ) × (r : A) × (slice_get ps j ≡ Some r) × (among x (f r) ≡ true)) → (j : ℕ) × (r : A) × (slice_get (p ∷ ps) j ≡ Some r) × (among x (f r) ≡ true)
    by true h more = (zero, p, refl, h)
    by false h more =
        let m = more (ap (λ b. b || among x (flat_map f ps)) (sym h) ∙ sym (list_any-append (nat_eq x) (f p) (flat_map f ps)) ∙ e) in
        (suc m.0, m.1, m.2, m.3)

pub flat-has : {A : Type 0} (f : A → List ℕ) (x : ℕ) (ps : List A) (j : ℕ) (r : A) → slice_get ps j ≡ Some r → among x (f r) ≡ true → among x (flat_map f ps) ≡ true
flat-has f x [] j r e h = none-some r e
flat-has f x (p ∷ ps) zero r e h = list_any-append (nat_eq x) (f p) (flat_map f ps) ∙ or-left _ _ (ap (λ q. among x (f q)) (some-same p r e) ∙ h)
flat-has f x (p ∷ ps) (suc j) r e h = list_any-append (nat_eq x) (f p) (flat_map f ps) ∙ or-right _ _ (flat-has f x ps j r e h)

-- f gives no less than g
pub flat-more : {A : Type 0} (f g : A → List ℕ) (x : ℕ) (ps : List A) → ((p : A) → among x (f p) ≡ true → among x (g p) ≡ true) → among x (flat_map f ps) ≡ true → among x (flat_map g ps) ≡ true
flat-more f g x ps l e = let m = flat-in f x ps e in flat-has g x ps m.0 m.1 m.2 (l m.1 m.3)

pub any-at : {A : Type 0} (test : A → Bool) (xs : List A) (n : ℕ) (x : A) → list_any test xs ≡ false → slice_get xs n ≡ Some x → test x ≡ false
any-at test [] n x e f = none-some x f
any-at test (y ∷ xs) zero x e f = ap test (sym (some-same y x f)) ∙ or-first (test y) (list_any test xs) e
any-at test (y ∷ xs) (suc n) x e f = any-at test xs n x (or-second (test y) (list_any test xs) e) f

pub is-false : (b : Bool) → (b ≡ true → ⊥) → b ≡ false
is-false true h = absurd (h refl)
is-false false h = refl

pub is-true : (b : Bool) → (b ≡ false → ⊥) → b ≡ true
is-true true h = refl
is-true false h = absurd (h refl)

-- ---- sorts

pub sort-of : (test : Sort → Bool) (cs : Cells) (c : ℕ) → has_sort test cs c ≡ true → (x : program.Cell) × (slice_get cs c ≡ Some x) × (test x.sort ≡ true)
sort-of test cs c e = by (slice_get cs c) refl
  where
    by : (o : Option program.Cell) → slice_get cs c ≡ o → (x : program.Cell) × (slice_get cs c ≡ Some x) × (test x.sort ≡ true)
    by None h = true-false (sym e ∙ ap (λ o. unwrap_or (option_map test (option_map (λ c. c.sort) o)) false) h)
    by (Some x) h = (x, h, sym (ap (λ o. unwrap_or (option_map test (option_map (λ c. c.sort) o)) false) h) ∙ e)

pub has-sort : (test : Sort → Bool) (cs : Cells) (c : ℕ) (x : program.Cell) → slice_get cs c ≡ Some x → has_sort test cs c ≡ test x.sort
has-sort test cs c x h = ap (λ o. unwrap_or (option_map test (option_map (λ c. c.sort) o)) false) h

pub number-no-root : (s : Sort) → is_number s ≡ true → is_root s ≡ false
number-no-root Input e = true-false (sym e)
number-no-root Output e = true-false (sym e)
number-no-root Signal e = true-false (sym e)
number-no-root (Variable w f) e = refl
number-no-root (Local i) e = refl
number-no-root (Pointer t) e = refl
number-no-root (Port r) e = refl

pub number-two : (s : Sort) → is_number s ≡ true → (is_variable s ≡ true) ⊎ (is_local s ≡ true)
number-two Input e = true-false (sym e)
number-two Output e = true-false (sym e)
number-two Signal e = true-false (sym e)
number-two (Variable w f) e = inl refl
number-two (Local i) e = inr refl
number-two (Pointer t) e = true-false (sym e)
number-two (Port r) e = true-false (sym e)

-- of a process, the numbers that aren't constant and that it doesn't keep
abbrev pub unsure : Program → ℕ → Process → ℕ → Bool
unsure p i q c = has_sort is_number p.cells c && (not (is_some (constant_at p c)) && not (keeps p.cells i q c))

-- a variable that isn't constant is written
pub variable-written : (p : Program) (c : ℕ) (x : program.Cell) → slice_get p.cells c ≡ Some x → is_variable x.sort ≡ true → is_some (constant_at p c) ≡ false → among c (written p) ≡ true
variable-written p c x e v n = is-true (among c (written p)) (λ h. by x.sort v (sym (ap is_some (ap (option_and_then (λ x. constant_if (among c (written p)) x.sort)) e ∙ ap (λ b. constant_if b x.sort) h)) ∙ n))
  where
    by : (s : Sort) → is_variable s ≡ true → is_some (constant_if false s) ≡ false → ⊥
    by (Variable w f) e h = true-false h
    by Input e h = true-false (sym e)
    by Output e h = true-false (sym e)
    by Signal e h = true-false (sym e)
    by (Local i) e h = true-false (sym e)
    by (Pointer t) e h = true-false (sym e)
    by (Port r) e h = true-false (sym e)

pub good-at : (P : Left → Pick → Term → Type 0) (T : Term → Type 0) (ss : List Segment) (n : ℕ) (s : Segment) → GoodSegments P T ss → slice_get ss n ≡ Some s → GoodSegment P T s
good-at P T [] n s g e = none-some s e
good-at P T (x ∷ ss) zero s g e = subst (GoodSegment P T) (some-same x s e) g.0
good-at P T (x ∷ ss) (suc n) s g e = good-at P T ss n s g.1 e

module _ (home : Home) (p : Program) (resolved : IsSoundCore home p) (obeys : Obeys p) where
  abbrev cs : Cells
  cs = p.cells

  pub written-named : (q : Process) (c : ℕ) → among c (written_by cs q) ≡ true → among c (all_named cs q) ≡ true
  written-named q c e = flat-more (writes_of cs) (names_of cs) c (acts (live cs q.body)) (λ a h. list_any-append (nat_eq c) (reads_of cs a) (writes_of cs a) ∙ or-right _ _ h) e

  unnamed-unread : (q : Process) (c : ℕ) → among c (all_named cs q) ≡ false → Unread cs c (live cs q.body)
  unnamed-unread q c e = all-unread cs (live cs q.body) c
      (is-false _ (λ h. true-false (sym (flat-more (reads_of cs) (names_of cs) c (acts (live cs q.body)) (λ a m. list_any-append (nat_eq c) (reads_of cs a) (writes_of cs a) ∙ or-left _ _ m) h) ∙ e)))

  module _ (i : ℕ) (q : Process) (at : slice_get p.processes i ≡ Some q) where
    -- either it is named by no statement, or it is this process's own
    pub unnamed-or-own : (c : ℕ) → unsure p i q c ≡ true → (among c (all_named cs q) ≡ false) ⊎ (is_own cs i q c ≡ true)
    unnamed-or-own c e =
        let s = sort-of is_number cs c (and-first (has_sort is_number cs c) _ e) in
        at-cell s.0 s.1 (number-two s.0.sort s.2) (not-true _ (and-first (not (is_some (constant_at p c))) (not (keeps cs i q c)) (and-second (has_sort is_number cs c) _ e)))
      where
        at-cell : (x : program.Cell) → slice_get cs c ≡ Some x → ((is_variable x.sort ≡ true) ⊎ (is_local x.sort ≡ true)) → is_some (constant_at p c) ≡ false → (among c (all_named cs q) ≡ false) ⊎ (is_own cs i q c ≡ true)
        at-cell x here (inl v) changing = cases (among c (written_by cs q)) refl
          where
            there : (j : ℕ) × (r : Process) × (slice_get p.processes j ≡ Some r) × (among c (written_by cs r) ≡ true)
            there = flat-in (written_by cs) c p.processes (variable-written p c x here v changing)

            cases : (b : Bool) → among c (written_by cs q) ≡ b → (among c (all_named cs q) ≡ false) ⊎ (is_own cs i q c ≡ true)
            cases true w = inr (or-right _ _ (and-both _ _ (has-sort is_variable cs c x here ∙ v) w))
            cases false w = inl (is-false _ (λ n.
                let same : i ≡ there.0 = obeys.shared i there.0 c q there.1 at there.2 (has-sort is_variable cs c x here ∙ v) n there.3 in
                let equal : q ≡ there.1 = some-same q there.1 (sym at ∙ ap (slice_get p.processes) same ∙ there.2) in
                true-false (sym (ap (λ r. among c (written_by cs r)) equal ∙ there.3) ∙ w)))
        at-cell x here (inr l) changing = cases (among c (all_named cs q)) refl
          where
            cases : (b : Bool) → among c (all_named cs q) ≡ b → (among c (all_named cs q) ≡ false) ⊎ (is_own cs i q c ≡ true)
            cases true n = inr (or-left _ _ (resolved.own_locals i c q at (has-sort is_local cs c x here ∙ l) n))
            cases false n = inl n

    eq-is : (c y : ℕ) → nat_eq c y ≡ true → y ≡ c
    eq-is c y e = grind arith

    pub method-late : q.is_thread ≡ false → (c : ℕ) → unsure p i q c ≡ true → Late cs (nat_eq c) (live cs q.body)
    method-late m c e = by (unnamed-or-own c e)
      where
        kept : keeps cs i q c ≡ false
        kept = not-true _ (and-second (not (is_some (constant_at p c))) (not (keeps cs i q c)) (and-second (has_sort is_number cs c) _ e))

        by : ((among c (all_named cs q) ≡ false) ⊎ (is_own cs i q c ≡ true)) → Late cs (nat_eq c) (live cs q.body)
        by (inl n) = unread-late cs (live cs q.body) (nat_eq c) c (eq-is c) (unnamed-unread q c n)
        by (inr o) = obeys.late i c q at m (seen (has_sort (is_local_of i) cs c) (has_sort is_variable cs c && among c (written_by cs q)) (λ h. or-left _ _ (own-local h))
            (λ h. or-right _ _ (let v = and-first (has_sort is_variable cs c) _ h in let w = and-second (has_sort is_variable cs c) _ h in
            and-both _ _ (free v w) (and-both _ _ v (flat-has (written_by cs) c p.processes i q at w)))) o)
          where
            own-local : has_sort (is_local_of i) cs c ≡ true → has_sort is_local cs c ≡ true
            own-local h = let s = sort-of (is_local_of i) cs c h in has-sort is_local cs c s.0 s.1 ∙ local s.0.sort s.2
              where
                local : (s : Sort) → is_local_of i s ≡ true → is_local s ≡ true
                local (Local j) e = refl
                local Input e = e
                local Output e = e
                local Signal e = e
                local (Variable w f) e = e
                local (Pointer t) e = e
                local (Port r) e = e

            free : has_sort is_variable cs c ≡ true → among c (written_by cs q) ≡ true → is_combinational q ≡ true
            free v w = by-edge q.edge refl
              where
                by-edge : (o : Option Edge) → q.edge ≡ o → is_combinational q ≡ true
                by-edge None h = λ j. is_combinational_by (m j) (h j)
                by-edge (Some d) h = true-false (sym ((λ j. is_some (h j) && ((has_sort is_root cs c && among c (written_by cs q)) || (if m j then is_kept cs i q c else has_sort is_variable cs c && among c (written_by cs q))))
                    ∙ or-right _ _ (and-both _ _ v w)) ∙ kept)

            seen : (a b : Bool) → (a ≡ true → watched p q c ≡ true) → (b ≡ true → watched p q c ≡ true) → (a || b) ≡ true → watched p q c ≡ true
            seen true b f g h = f refl
            seen false b f g h = g h

    pub thread-late : q.is_thread ≡ true → (c n : ℕ) (s : Segment) → unsure p i q c ≡ true → segment_at cs q n ≡ Some s → Late cs (nat_eq c) (segment_code s)
    thread-late t c n s e f = by (unnamed-or-own c e)
      where
        kept : keeps cs i q c ≡ false
        kept = not-true _ (and-second (not (is_some (constant_at p c))) (not (keeps cs i q c)) (and-second (has_sort is_number cs c) _ e))

        by : ((among c (all_named cs q) ≡ false) ⊎ (is_own cs i q c ≡ true)) → Late cs (nat_eq c) (segment_code s)
        by (inl m) =
            let P : Left → Pick → Term → Type 0 = λ l k e. UnreadUses cs c (inside l ++ (picked k ++ loads e)) in
            let T : Term → Type 0 = λ t. UnreadUses cs c (loads t) in
            unread-late cs (segment_code s) (nat_eq c) c (eq-is c) (good-at P T (all_segments (live_body cs q.body)) n s (all-good P T (live_body cs q.body) (numbered-each P T (live cs q.body) 0 (unnamed-unread q c m))) f).0
        by (inr o) = told cs (segment_code s) (nat_eq c) (empty _ (any-at (λ s. has_any (flow cs (segment_code s) (nat_eq c)).early) (all_segments (live_body cs q.body)) n s no-kept f))
          where
            no-kept : list_any (λ s. has_any (flow cs (segment_code s) (nat_eq c)).early) (all_segments (live_body cs q.body)) ≡ false
            no-kept = is-false _ (λ h. true-false (sym ((λ j. resolved.edges i q at t j && ((has_sort is_root cs c && among c (written_by cs q)) || (if t j then is_kept cs i q c else has_sort is_variable cs c && among c (written_by cs q))))
                ∙ or-right _ _ (and-both _ _ o h)) ∙ kept))

            empty : {A : Type 0} (xs : List A) → has_any xs ≡ false → xs ≡ []
            empty [] h = refl
            empty (x ∷ xs) h = true-false h
