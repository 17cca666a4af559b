-- A resolved core has a start.
use Rattle.std.proofs.Common.{◌≡◌, ℕ, zero, suc, ◌+◌, Bool, true, false, not, ◌&&◌, List, [], ◌∷◌, Option, Some, None, refl, sym, ap, subst, ◌∙◌, arith}
use Rattle.std.specs.Prelude.{◌^◌, slice_get, option_map, option_and_then, unwrap_or, find, if◌then◌else◌}
use Rattle.scc_bits_kinds.specs.Kinds.{width_of}
use Rattle.scc_semantics.specs.Location.{Location, same}
use Rattle.scc_semantics_laws.proofs.Places.{same-is, same-self}
use Rattle.scc_semantics.specs.Design as running
use Rattle.scc_semantics.specs.Machine.{Frames, Stop}
use Rattle.scc_semantics.specs.Process.{State, first_frames}
use Rattle.scc_semantics.specs.Run.{FitsThing}
use Rattle.scc_semantics.specs.Start.{IsProper, IsStart, HoldsConstant, AllFirst}
use Rattle.scc_core_spec.specs.Program.{Program, Process, Sort, Input, Output, Variable, Local, Pointer, Port, is_pointer}
use Rattle.scc_core_spec.specs.Program as program
use Rattle.scc_core_spec.specs.Static.{Cells, fixed_word}
use Rattle.scc_core_spec.specs.Uses.{among}
use Rattle.scc_core_spec.specs.Constants.{written, constant_from, constant_if, constants_of}
use Rattle.scc_core_spec.specs.Source.{Home, source_of, thing_of, cell_location, cell_there}
use Rattle.scc_blocks_spec.specs.Passed.{IsHome}
use Rattle.scc_states_laws.proofs.Values.{some_same}
use Rattle.scc_core_spec.specs.IsResolved.{IsResolved, name_is, sort_is}
use Rattle.scc_core_resolved_laws.proofs.Bools.{and-first, and-second, and-both, not-false, nat_eq-is, nat_lt-is}
use Rattle.scc_core_resolved_laws.proofs.Numbers.{nought}
use Rattle.scc_core_resolved_laws.proofs.Parts.{cell-fits}
use Rattle.scc_core_resolved_laws.proofs.Apart.{locations-apart, find-is}

-- the word with which construction leaves a cell
first_word : Sort → ℕ
first_word (Variable w f) = w
first_word s = 0

word_there : Option program.Cell → ℕ
word_there None = 0
word_there (Some c) = first_word c.sort

find-none : {A : Type 0} (f : A → Bool) (xs : List A) (k : ℕ) (x : A) → find f xs ≡ None → slice_get xs k ≡ Some x → f x ≡ true → ⊥
find-none f [] k x e g h = cc
find-none f (y ∷ ys) zero x e g h = by (f y) (ap f (some_same g) ∙ h) e
  where
    by : (b : Bool) → b ≡ true → (if b then Some y else find f ys) ≡ None → ⊥
    by true t d = cc
    by false t d = cc
find-none f (y ∷ ys) (suc k) x e g h = by (f y) e (λ d. find-none f ys k x d g h)
  where
    by : (b : Bool) → (if b then Some y else find f ys) ≡ None → (find f ys ≡ None → ⊥) → ⊥
    by true d i = absurd cc
    by false d i = i d

module _ (home : Home) (is : IsHome home) (p : Program) (r : IsResolved p) where
  abbrev D : running.Design
  D = source_of home p (constants_of home p)

  words : Location → ℕ
  words l = word_there (cell_there home p false l)

  some-from : (m : ℕ) (cs : Cells) (l : Location) (v : ℕ) → constant_from home p m cs l ≡ Some v
      → (k : ℕ) × (c : program.Cell) × (slice_get cs k ≡ Some c) × (same (cell_location home p c) l ≡ true) × (constant_if (among (m + k) (written p)) c.sort ≡ Some v)
  some-from m [] l v e = absurd cc
  some-from m (c ∷ cs) l v e = by (same (cell_location home p c) l && not (is_pointer c.sort)) refl e (some-from (m + 1) cs l v)
    where
      by : (b : Bool) → (same (cell_location home p c) l && not (is_pointer c.sort)) ≡ b → constant_from home p m (c ∷ cs) l ≡ Some v
          → (constant_from home p (m + 1) cs l ≡ Some v → (k : ℕ) × (d : program.Cell) × (slice_get cs k ≡ Some d) × (same (cell_location home p d) l ≡ true) × (constant_if (among ((m + 1) + k) (written p)) d.sort ≡ Some v))
          → (k : ℕ) × (d : program.Cell) × (slice_get (c ∷ cs) k ≡ Some d) × (same (cell_location home p d) l ≡ true) × (constant_if (among (m + k) (written p)) d.sort ≡ Some v)
      by true t d i = let n : m ≡ m + 0 = omega arith in let d' : constant_if (among m (written p)) c.sort ≡ Some v = rw t at d in (0, c, refl, and-first (same (cell_location home p c) l) (not (is_pointer c.sort)) t, subst (λ n. constant_if (among n (written p)) c.sort ≡ Some v) n d')
      by false t d i =
          let d' : constant_from home p (m + 1) cs l ≡ Some v = rw t at d in
          let u = i d' in
          let n : (m + 1) + u.0 ≡ m + suc u.0 = omega arith in
          (suc u.0, u.1, u.2, u.3, subst (λ n. constant_if (among n (written p)) u.1.sort ≡ Some v) n u.4)

  constant-word : (b : Bool) (s : Sort) (v : ℕ) → constant_if b s ≡ Some v → first_word s ≡ v
  unfolding first_word
  constant-word true s v e = absurd cc
  constant-word false (Variable w f) v e = some_same e
  constant-word false program.Signal v e = some_same e
  constant-word false Output v e = some_same e
  constant-word false Input v e = absurd cc
  constant-word false (Local i) v e = absurd cc
  constant-word false (Pointer t) v e = absurd cc
  constant-word false (Port t) v e = absurd cc

  pub there-is : (l : Location) (k : ℕ) (c : program.Cell) → slice_get p.cells k ≡ Some c → same (cell_location home p c) l ≡ true → cell_there home p false l ≡ Some c
  there-is l k c g e = by (cell_there home p false l) refl
    where
      plain : is_pointer c.sort ≡ false
      plain = not-false (is_pointer c.sort) (and-first (not (is_pointer c.sort)) (name_is p.processes c.sort c.name && sort_is p.cells c.kind c.sort) (cell-fits p r k c g))

      by : (o : Option program.Cell) → cell_there home p false l ≡ o → o ≡ Some c
      by None d = absurd (find-none (λ c. same (cell_location home p c) l && not (is_pointer c.sort)) p.cells k c d g (and-both (same (cell_location home p c) l) (not (is_pointer c.sort)) e (ap not plain)))
      by (Some x) d =
          let u = find-is (λ c. same (cell_location home p c) l && not (is_pointer c.sort)) p.cells x d in
          let at : cell_location home p x ≡ cell_location home p c = same-is (cell_location home p x) l (and-first (same (cell_location home p x) l) (not (is_pointer x.sort)) u.2) ∙ sym (same-is (cell_location home p c) l e) in
          let n : u.0 ≡ k = nat_eq-is u.0 k (sym (locations-apart home is p r u.0 k x c u.1 g) ∙ subst (λ z. same (cell_location home p x) z ≡ true) at (same-self (cell_location home p x))) in
          sym u.1 ∙ (ap (slice_get p.cells) n ∙ g)

  fits-there : (l : Location) (o : Option program.Cell) → cell_there home p false l ≡ o → FitsThing (option_and_then (λ c. thing_of home p c c.sort) o) (word_there o)
  unfolding first_word word_there
  fits-there l None e = tt
  fits-there l (Some c) e =
      let u = find-is (λ c. same (cell_location home p c) l && not (is_pointer c.sort)) p.cells c e in
      let f = and-second (not (is_pointer c.sort)) (name_is p.processes c.sort c.name && sort_is p.cells c.kind c.sort) (cell-fits p r u.0 c u.1) in
      by c.sort (and-second (name_is p.processes c.sort c.name) (sort_is p.cells c.kind c.sort) f)
    where
      by : (s : Sort) → sort_is p.cells c.kind s ≡ true → FitsThing (thing_of home p c s) (first_word s)
      by (Variable w f) t = nat_lt-is w (2 ^ width_of c.kind) t
      by (Local i) t = nought (width_of c.kind)
      by Input t = nought (width_of c.kind)
      by Output t = nought (width_of c.kind)
      by program.Signal t = nought (width_of c.kind)
      by (Pointer o) t = tt
      by (Port o) t = tt

  fixed-there : (o : Option program.Cell) → HoldsConstant (option_and_then (λ c. fixed_word c.sort) o) (word_there o)
  unfolding first_word word_there
  fixed-there None = tt
  fixed-there (Some c) = by c.sort
    where
      by : (s : Sort) → HoldsConstant (fixed_word s) (first_word s)
      by (Variable w true) = refl
      by (Variable w false) = tt
      by (Local i) = tt
      by Input = tt
      by Output = tt
      by program.Signal = tt
      by (Pointer o) = tt
      by (Port o) = tt

  constants-there : (l : Location) (o : Option ℕ) → constants_of home p l ≡ o → HoldsConstant o (words l)
  unfolding words word_there
  constants-there l None e = tt
  constants-there l (Some v) e =
      let u = some-from 0 p.cells l v e in
      ap word_there (there-is l u.0 u.1 u.2 u.3) ∙ constant-word (among (0 + u.0) (written p)) u.1.sort v u.4

  words-proper : IsProper D words
  unfolding words
  words-proper = record {
    fits = λ l. fits-there l (cell_there home p false l) refl;
    fixed = λ l. fixed-there (cell_there home p false l);
    constants = λ l. constants-there l (constants_of home p l) refl;
  }

  all-first : (frames : ℕ → Frames) (m : ℕ) (ps : List running.Process) → ((k : ℕ) (q : running.Process) → slice_get ps k ≡ Some q → frames (m + k) ≡ first_frames (m + k) q) → AllFirst m ps frames
  all-first frames m [] h = tt
  all-first frames m (q ∷ qs) h =
      let n : m + 0 ≡ m = omega arith in
      (subst (λ n. frames n ≡ first_frames n q) n (h 0 q refl), all-first frames (m + 1) qs (λ k s e. let u : m + suc k ≡ (m + 1) + k = omega arith in subst (λ n. frames n ≡ first_frames n s) u (h (suc k) s e)))

  pub start : (s : State) × IsStart D s
  start = (
    record { store = record { words = words; targets = D.targets }; frames = λ i. unwrap_or (option_map (first_frames i) (slice_get D.processes i)) Stop },
    record {
      words = words-proper;
      targets = λ l. refl;
      frames = all-first (λ i. unwrap_or (option_map (first_frames i) (slice_get D.processes i)) Stop) 0 D.processes
          (λ k q e. let n : k ≡ 0 + k = omega arith in subst (λ n. unwrap_or (option_map (first_frames n) (slice_get D.processes n)) Stop ≡ first_frames n q) n (ap (λ o. unwrap_or (option_map (first_frames k) o) Stop) e));
    },
  )
