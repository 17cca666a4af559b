-- Static values of elements: what the code finds behind a front part of a name, and what the definitions hold there.
use Rattle.std.proofs.Common.{◌≡◌, refl, sym, ap, subst, ◌∙◌, arith, ℕ, zero, suc, ◌<◌, ◌≤◌, Bool, true, false, ◌&&◌, ◌||◌, ◌⊎◌, inl, inr, if◌then◌else◌, List, [], ◌∷◌, ◌++◌, map, length, slice_get, Option, Some, None, option_map, option_and_then, unwrap_or, append_assoc, append-nil}
use Rattle.std.proofs.Math.Pow.{pow_pos}
use Rattle.scc_base.specs.declared.names.Name.{Name}
use Rattle.scc_base.specs.declared.refusal.Place.{Place}
use Rattle.scc_bits_kinds.specs.declared.kind.Kind.{Kind}
use Rattle.scc_bits_kinds.specs.Kinds.{IsValid, Fits, width_of}
use Rattle.scc_bits.specs.Value.{Number}
use Rattle.scc_core.specs.declared.places.NameStep.{NameStep}
use Rattle.scc_core.specs.declared.places.NameStep.TheVariants as step
use Rattle.scc_core.specs.declared.program.Cell.{Cell}
use Rattle.scc_core.specs.declared.program.CellName.{CellName}
use Rattle.scc_core.specs.declared.program.CellSort.{CellSort}
use Rattle.scc_core.specs.declared.program.CellSort.TheVariants as sort
use Rattle.scc_core.specs.Elements.{Part, Member, Element, step_at, is_below, inside, left_in, fixed, past, at_cell, element}
use Rattle.scc_core.specs.Names.{sought}
use Rattle.scc_core.specs.Numbers.{valued, small}
use Rattle.scc_core.specs.Statics.{facts_of}
use Rattle.scc_semantics.specs.Location as location
use Rattle.scc_semantics.specs.Scene.{index_of}
use Rattle.scc_core_spec.specs.Program as program
use Rattle.scc_core_spec.specs.Term.{Term, Left, CellName as Name_of, Own, kind_of}
use Rattle.scc_core_spec.specs.Term as term
use Rattle.scc_core_spec.specs.Named.{Step, Named, At, Ours, Open, is_open, own_steps, part_step, steps_of}
use Rattle.scc_core_spec.specs.Static.{first_of, fixed_word, found, grown, held, held_at, index_step, pattern, static}
use Rattle.scc_core_view.specs.Terms.{extended, name_of}
use Rattle.scc_core_view.specs.Programs.{cell_of, sort_of}
use Rattle.scc_core_view.specs.Whole.{AreWholeCells, HoldsFixed, IsName}
use Rattle.scc_core_view.proofs.StaticNumbers.{Says, nothing, number, num, literal_says, index_told}
use Rattle.scc_core_view.proofs.StaticNames.{codes, steps_behind, found_cell, sought_less}

-- ---- steps of parts

-- steps that are all known, with whether they are inside their sizes; or one isn't known
pub data Steps (xs : List Part) (ys : List Step) : Type 0 where
  open_steps : inside xs ≡ None → is_open ys ≡ true → Steps xs ys
  known_steps : (q : List location.Part) (b : Bool) → inside xs ≡ Some b → ys ≡ map part_step q → (b ≡ true → map (step_at false) xs ≡ codes q) → Steps xs ys

member_steps : (n : Name) (xs : List Part) (ys : List Step) → Steps xs ys → Steps (Member n ∷ xs) (Named n.0 ∷ ys)
member_steps n xs ys (open_steps e o) = open_steps e o
member_steps n xs ys (known_steps q b e m s) = known_steps (location.Member n.0 ∷ q) b e (ap (λ z. Named n.0 ∷ z) m) (λ t. ap (λ z. Some (step.Member n) ∷ z) (s t))

both_first : (a b : Bool) → (a && b) ≡ true → a ≡ true
both_first true b h = refl
both_first false b h = h

both_second : (a b : Bool) → (a && b) ≡ true → b ≡ true
both_second true b h = h
both_second false b h = cc h

index_code : (size : ℕ) (k : Kind) (w : ℕ) → IsValid k → Fits k w → is_below size (small (num k w)) ≡ true → option_map step.Index (small (num k w)) ≡ Some (step.Index (index_of k w))
index_code size k w h f e = by (small (num k w)) (index_told k w h f) e
  where
    by : (o : Option ℕ) → ((m : ℕ) × (o ≡ Some m) × (index_of k w ≡ m)) ⊎ ((o ≡ None) × (4294967296 ≤ index_of k w)) → is_below size o ≡ true → option_map step.Index o ≡ Some (step.Index (index_of k w))
    by o (inl (m, s, i)) e = ap (option_map step.Index) s ∙ ap (λ n. Some (step.Index n)) (sym i)
    by o (inr (s, l)) e = let p : is_below size None ≡ true = ap (is_below size) (sym s) ∙ e in cc p

index_steps : (size : ℕ) {k t : Kind} {v : Option Number} {s : Option ℕ} → Says k t v s → (xs : List Part) (ys : List Step) → Steps xs ys → Steps (Element size v ∷ xs) (index_step size t s ∷ ys)
index_steps size nothing xs ys h = open_steps refl refl
index_steps size {k = k} (number {w = w} u f) xs ys (open_steps e o) = open_steps (ap (option_map (λ b. is_below size (small (num k w)) && b)) e) o
index_steps size {k = k} (number {w = w} u f) xs ys (known_steps q b e m s) =
    let below = is_below size (small (num k w)) in
    known_steps (location.Element (index_of k w) ∷ q) (below && b) (ap (option_map (λ b. is_below size (small (num k w)) && b)) e) (ap (λ z. At (index_of k w) ∷ z) m)
    (λ t. ap (λ z. z ∷ map (step_at false) xs) (index_code size k w u f (both_first below b t)) ∙ ap (λ z. Some (step.Index (index_of k w)) ∷ z) (s (both_second below b t)))

-- ---- steps that aren't open

or_true : (b : Bool) → (b || true) ≡ true
or_true true = refl
or_true false = refl

open_append : (a b : List Step) → is_open (a ++ b) ≡ (is_open a || is_open b)
open_append [] b = refl
open_append (Named n ∷ a) b = open_append a b
open_append (At i ∷ a) b = open_append a b
open_append (Ours n ∷ a) b = open_append a b
open_append (Open size ∷ a) b = refl

closed_parts : (q : List location.Part) → is_open (map part_step q) ≡ false
closed_parts [] = refl
closed_parts (location.Member n ∷ q) = closed_parts q
closed_parts (location.Element i ∷ q) = closed_parts q

closed_indices : (i : List ℕ) → is_open (map At i) ≡ false
closed_indices [] = refl
closed_indices (x ∷ i) = closed_indices i

closed_own : (o : Option Own) (i : List ℕ) → is_open (own_steps o i) ≡ false
closed_own None i = refl
closed_own (Some o) i = closed_indices i

closed_name : (n : Name_of) → is_open (steps_of n) ≡ false
closed_name n =
    open_append (map part_step n.path) (own_steps n.own n.indices)
    ∙ ap (λ b. b || is_open (own_steps n.own n.indices)) (closed_parts n.path)
    ∙ closed_own n.own n.indices

closed_behind : (name : CellName) (q : List location.Part) → is_open (steps_behind name q) ≡ false
closed_behind name q = open_append (steps_of (name_of name)) (map part_step q) ∙ ap (λ b. b || is_open (map part_step q)) (closed_name (name_of name)) ∙ closed_parts q

open_behind : (a b : List Step) → is_open b ≡ true → is_open (a ++ b) ≡ true
open_behind a b h = open_append a b ∙ ap (λ t. is_open a || t) h ∙ or_true (is_open a)

-- ---- fixed cells

fixed_says : (k : Kind) (s : CellSort) → HoldsFixed k s → Says k k (left_in k s) (fixed_word (sort_of s))
fixed_says k sort.Input h = nothing
fixed_says k sort.Output h = nothing
fixed_says k sort.Signal h = nothing
fixed_says k (sort.Variable w true) h = literal_says k w.bits h.0 h.1
fixed_says k (sort.Variable w false) h = nothing
fixed_says k (sort.Local n) h = nothing
fixed_says k (sort.Pointer t) h = nothing
fixed_says k (sort.Port r) h = nothing

zero_says : {k t : Kind} {v : Option Number} {s : Option ℕ} → Says k t v s → Says k t (option_and_then (λ v. valued v.kind 0) v) (option_map (λ w. 0) s)
zero_says nothing = nothing
zero_says {k = k} (number u f) = literal_says k 0 u (pow_pos (width_of k))

get_some : {A : Type 0} (xs : List A) (n : ℕ) → n < length xs → (x : A) × (slice_get xs n ≡ Some x)
get_some [] n h = absurd (omega arith)
get_some (x ∷ xs) zero h = (x, refl)
get_some (x ∷ xs) (suc n) h = get_some xs n (omega arith)

module _ (cells : List Cell) (h : AreWholeCells cells) where
  cell_says : (n : ℕ) (c : Cell) → slice_get cells n ≡ Some c → Says c.kind c.kind (fixed cells n) (fixed_word (cell_of c).sort)
  unfolding fixed
  cell_says n c e = subst (λ o. Says c.kind c.kind (option_and_then (λ c. left_in c.kind c.sort) o) (fixed_word (sort_of c.sort))) (sym e) (fixed_says c.kind c.sort (h.words n c e))

  -- the cell of a number
  abbrev numbered_cell : Option ℕ → Option program.Cell
  numbered_cell o = option_map cell_of (option_and_then (slice_get cells) o)

  abbrev kind_or : Kind → Option program.Cell → Kind
  kind_or k c = unwrap_or (option_map (λ c. c.kind) c) k

  -- what the code takes past an end, by the first elements
  abbrev past_by : Option ℕ → Option Number
  past_by first = option_and_then (λ v. valued v.kind 0) (option_and_then (fixed cells) first)

  abbrev taken_by : Option ℕ → Option ℕ → Option Number
  taken_by None first = past_by first
  taken_by (Some n) first = fixed cells n

  AreNumbers : Option ℕ → Type 0
  AreNumbers o = (n : ℕ) → o ≡ Some n → n < length cells

  past_says : (k : Kind) (first : Option ℕ) → AreNumbers first → Says (kind_or k (numbered_cell first)) (kind_or k (numbered_cell first)) (past_by first) (held None (numbered_cell first))
  unfolding AreNumbers
  past_says k None g = nothing
  past_says k (Some n) g = by (get_some cells n (g n refl))
    where
      by : (c : Cell) × (slice_get cells n ≡ Some c) → Says (kind_or k (numbered_cell (Some n))) (kind_or k (numbered_cell (Some n))) (past_by (Some n)) (held None (numbered_cell (Some n)))
      by (c, e) = subst (λ o. Says (kind_or k (option_map cell_of o)) (kind_or k (option_map cell_of o)) (past_by (Some n)) (held None (option_map cell_of o))) (sym e) (zero_says (cell_says n c e))

  taken_says : (k : Kind) (o first : Option ℕ) → AreNumbers o → AreNumbers first → ((c : program.Cell) → numbered_cell o ≡ Some c → c.kind ≡ kind_or k (numbered_cell first))
      → Says (kind_or k (numbered_cell first)) (kind_or k (numbered_cell first)) (taken_by o first) (held (numbered_cell o) (numbered_cell first))
  unfolding AreNumbers
  taken_says k None first a b g = past_says k first b
  taken_says k (Some n) first a b g = by (get_some cells n (a n refl))
    where
      by : (c : Cell) × (slice_get cells n ≡ Some c) → Says (kind_or k (numbered_cell first)) (kind_or k (numbered_cell first)) (fixed cells n) (held (numbered_cell (Some n)) (numbered_cell first))
      by (c, e) =
          let p : c.kind ≡ kind_or k (numbered_cell first) = g (cell_of c) (ap (option_map cell_of) e) in
          subst (λ o. Says (kind_or k (numbered_cell first)) (kind_or k (numbered_cell first)) (fixed cells n) (held (option_map cell_of o) (numbered_cell first))) (sym e)
          (subst (λ j. Says j j (fixed cells n) (fixed_word (cell_of c).sort)) p (cell_says n c e))

  -- ---- elements

  -- what the code takes of elements, where their steps are known
  element_by : (xs : List Part) (name : CellName) (o first : Option ℕ) → sought (map (step_at false) xs) name cells ≡ o → sought (map (step_at true) xs) name cells ≡ first
      → inside xs ≡ Some true → element (facts_of cells) xs name ≡ taken_by o first
  element_by xs name o first p q e =
      ap (λ z. option_and_then (λ b. at_inside b) z) e
      ∙ ap (λ z. at_cell (facts_of cells) xs name z) p
      ∙ by o
    where
      at_inside : Bool → Option Number
      at_inside true = at_cell (facts_of cells) xs name (sought (map (step_at false) xs) name cells)
      at_inside false = past (facts_of cells) xs name

      by : (o : Option ℕ) → at_cell (facts_of cells) xs name o ≡ taken_by o first
      by None = ap past_by q
      by (Some n) = refl

  past_element : (xs : List Part) (name : CellName) (first : Option ℕ) → sought (map (step_at true) xs) name cells ≡ first → inside xs ≡ Some false
      → element (facts_of cells) xs name ≡ past_by first
  past_element xs name first q e = ap (λ z. option_and_then (λ b. at_inside b) z) e ∙ ap past_by q
    where
      at_inside : Bool → Option Number
      at_inside true = at_cell (facts_of cells) xs name (sought (map (step_at false) xs) name cells)
      at_inside false = past (facts_of cells) xs name

  open_element : (xs : List Part) (name : CellName) → inside xs ≡ None → element (facts_of cells) xs name ≡ None
  open_element xs name e = ap (λ z. option_and_then (λ b. at_inside b) z) e
    where
      at_inside : Bool → Option Number
      at_inside true = at_cell (facts_of cells) xs name (sought (map (step_at false) xs) name cells)
      at_inside false = past (facts_of cells) xs name

  sought_numbers : (ss : List (Option NameStep)) (name : CellName) → AreNumbers (sought ss name cells)
  unfolding AreNumbers
  sought_numbers ss name = sought_less ss name cells h.count

  -- what an array's elements have in common, by the steps of what is named and of the first elements
  record Common (k : Kind) (name : CellName) (xs : List Part) (ys zs : List Step) : Type 0 where
    is_name : IsName name
    kinds : (c : program.Cell) → found (map cell_of cells) (steps_of (name_of name) ++ ys) ≡ Some c → c.kind ≡ kind_or k (found (map cell_of cells) (steps_of (name_of name) ++ zs))
    ends : inside xs ≡ Some false → found (map cell_of cells) (steps_of (name_of name) ++ ys) ≡ None

  abbrev ElementSays : Kind → CellName → List Part → List Step → List Step → Type 0
  ElementSays k name xs ys zs = Says (kind_or k (found (map cell_of cells) (steps_of (name_of name) ++ zs))) (kind_or k (found (map cell_of cells) (steps_of (name_of name) ++ zs)))
      (element (facts_of cells) xs name) (held_at (map cell_of cells) (steps_of (name_of name) ++ ys) (steps_of (name_of name) ++ zs))

  -- the cells of what is named and of the first elements, by their numbers
  inside_says : (k : Kind) (name : CellName) (xs : List Part) (q f : List location.Part) (o first : Option ℕ) → Common k name xs (map part_step q) (map part_step f)
      → sought (codes q) name cells ≡ o → sought (codes f) name cells ≡ first → inside xs ≡ Some true → map (step_at false) xs ≡ codes q → map (step_at true) xs ≡ codes f
      → AreNumbers o → AreNumbers first → found (map cell_of cells) (steps_behind name q) ≡ numbered_cell o → found (map cell_of cells) (steps_behind name f) ≡ numbered_cell first
      → Says (kind_or k (numbered_cell first)) (kind_or k (numbered_cell first)) (element (facts_of cells) xs name) (held (found (map cell_of cells) (steps_behind name q)) (numbered_cell first))
  inside_says k name xs q f o first a p r e s t m n x y =
      subst (λ z. Says (kind_or k (numbered_cell first)) (kind_or k (numbered_cell first)) (element (facts_of cells) xs name) (held z (numbered_cell first))) (sym x)
      (subst (λ z. Says (kind_or k (numbered_cell first)) (kind_or k (numbered_cell first)) z (held (numbered_cell o) (numbered_cell first)))
      (sym (element_by xs name o first (ap (λ z. sought z name cells) s ∙ p) (ap (λ z. sought z name cells) t ∙ r) e))
      (taken_says k o first m n (λ c g. a.kinds c (x ∙ g) ∙ ap (kind_or k) y)))

  outside_says : (k : Kind) (name : CellName) (xs : List Part) (q f : List location.Part) (first : Option ℕ) → Common k name xs (map part_step q) (map part_step f)
      → sought (codes f) name cells ≡ first → inside xs ≡ Some false → map (step_at true) xs ≡ codes f → AreNumbers first
      → Says (kind_or k (numbered_cell first)) (kind_or k (numbered_cell first)) (element (facts_of cells) xs name) (held (found (map cell_of cells) (steps_behind name q)) (numbered_cell first))
  outside_says k name xs q f first a r e t n =
      subst (λ z. Says (kind_or k (numbered_cell first)) (kind_or k (numbered_cell first)) (element (facts_of cells) xs name) (held z (numbered_cell first))) (sym (a.ends e))
      (subst (λ z. Says (kind_or k (numbered_cell first)) (kind_or k (numbered_cell first)) z (held None (numbered_cell first)))
      (sym (past_element xs name first (ap (λ z. sought z name cells) t ∙ r) e))
      (past_says k first n))

  known_says : (k : Kind) (name : CellName) (xs : List Part) (q f : List location.Part) (b : Bool) → Common k name xs (map part_step q) (map part_step f)
      → inside xs ≡ Some b → (b ≡ true → map (step_at false) xs ≡ codes q) → map (step_at true) xs ≡ codes f → ElementSays k name xs (map part_step q) (map part_step f)
  known_says k name xs q f b a e s t =
      let first = sought (codes f) name cells in
      let y : found (map cell_of cells) (steps_behind name f) ≡ numbered_cell (sought (codes f) name cells) = found_cell cells name f h a.is_name in
      subst (λ z. Says (kind_or k z) (kind_or k z) (element (facts_of cells) xs name) (if is_open (steps_behind name q) then None else held (found (map cell_of cells) (steps_behind name q)) z)) (sym y)
      (subst (λ w. Says (kind_or k (numbered_cell first)) (kind_or k (numbered_cell first)) (element (facts_of cells) xs name) (if w then None else held (found (map cell_of cells) (steps_behind name q)) (numbered_cell first))) (sym (closed_behind name q))
      (by b e s y))
    where
      by : (b : Bool) → inside xs ≡ Some b → (b ≡ true → map (step_at false) xs ≡ codes q) → found (map cell_of cells) (steps_behind name f) ≡ numbered_cell (sought (codes f) name cells)
          → Says (kind_or k (numbered_cell (sought (codes f) name cells))) (kind_or k (numbered_cell (sought (codes f) name cells))) (element (facts_of cells) xs name)
          (held (found (map cell_of cells) (steps_behind name q)) (numbered_cell (sought (codes f) name cells)))
      by true e s y = inside_says k name xs q f (sought (codes q) name cells) (sought (codes f) name cells) a refl refl e (s refl) t (sought_numbers (codes q) name) (sought_numbers (codes f) name) (found_cell cells name q h a.is_name) y
      by false e s y = outside_says k name xs q f (sought (codes f) name cells) a refl e t (sought_numbers (codes f) name)

  open_says : (k : Kind) (name : CellName) (xs : List Part) (ys zs : List Step) → inside xs ≡ None → is_open ys ≡ true → ElementSays k name xs ys zs
  open_says k name xs ys zs e o =
      let kind = kind_or k (found (map cell_of cells) (steps_of (name_of name) ++ zs)) in
      subst (λ v. Says kind kind v (held_at (map cell_of cells) (steps_of (name_of name) ++ ys) (steps_of (name_of name) ++ zs))) (sym (open_element xs name e))
      (subst (λ w. Says kind kind None (if w then None else held (found (map cell_of cells) (steps_of (name_of name) ++ ys)) (found (map cell_of cells) (steps_of (name_of name) ++ zs)))) (sym (open_behind (steps_of (name_of name)) ys o)) nothing)

  array_says : (k : Kind) (name : CellName) (xs : List Part) (ys : List Step) (f : List location.Part) → Steps xs ys → Common k name xs ys (map part_step f)
      → map (step_at true) xs ≡ codes f → ElementSays k name xs ys (map part_step f)
  array_says k name xs ys f (open_steps e o) a t = open_says k name xs ys (map part_step f) e o
  array_says k name xs ys f (known_steps q b e m s) a t =
      subst (λ ys. ElementSays k name xs ys (map part_step f)) (sym m) (known_says k name xs q f b (subst (λ ys. Common k name xs ys (map part_step f)) m a) e s t)

  -- ---- parts

  -- a part of a location: a member, or an index with its size, its kind, its value and its term
  pub data Piece : Type 0 where
    named : (n : Name) → Piece
    indexed : (size : ℕ) (k : Kind) (v : Option Number) (t : Term) → Says k (kind_of t) v (static (map cell_of cells) t) → Piece

  abbrev pub part_of : Piece → Part
  part_of (named n) = Member n
  part_of (indexed size k v t s) = Element size v

  abbrev pub left_by : Piece → Left → Left
  left_by (named n) l = term.Member l n.0
  left_by (indexed size k v t s) l = term.Index l size t

  abbrev step_by : Piece → Step
  step_by (named n) = Named n.0
  step_by (indexed size k v t s) = index_step size (kind_of t) (static (map cell_of cells) t)

  abbrev first_by : Piece → Step
  first_by (named n) = Named n.0
  first_by (indexed size k v t s) = At 0

  abbrev zeroed : Piece → location.Part
  zeroed (named n) = location.Member n.0
  zeroed (indexed size k v t s) = location.Element 0

  first_steps : (ps : List Piece) → map first_by ps ≡ map part_step (map zeroed ps)
  first_steps [] = refl
  first_steps (named n ∷ ps) = ap (λ z. Named n.0 ∷ z) (first_steps ps)
  first_steps (indexed size k v t s ∷ ps) = ap (λ z. At 0 ∷ z) (first_steps ps)

  first_codes : (ps : List Piece) → map (step_at true) (map part_of ps) ≡ codes (map zeroed ps)
  first_codes [] = refl
  first_codes (named n ∷ ps) = ap (λ z. Some (step.Member n) ∷ z) (first_codes ps)
  first_codes (indexed size k v t s ∷ ps) = ap (λ z. Some (step.Index 0) ∷ z) (first_codes ps)

  piece_steps : (ps : List Piece) → Steps (map part_of ps) (map step_by ps)
  piece_steps [] = known_steps [] true refl refl (λ t. refl)
  piece_steps (named n ∷ ps) = member_steps n (map part_of ps) (map step_by ps) (piece_steps ps)
  piece_steps (indexed size k v t s ∷ ps) = index_steps size s (map part_of ps) (map step_by ps) (piece_steps ps)

  pattern_on : (ps : List Piece) (l : Left) (b : List Step) → pattern (map cell_of cells) l ≡ Some b
      → pattern (map cell_of cells) (extended l (map left_by ps)) ≡ Some (b ++ map step_by ps)
  pattern_on [] l b e = e ∙ ap Some (sym (append-nil b))
  pattern_on (named n ∷ ps) l b e = pattern_on ps (term.Member l n.0) (b ++ Named n.0 ∷ []) (ap (λ z. grown z (Named n.0)) e) ∙ ap Some (append_assoc b (Named n.0 ∷ []) (map step_by ps))
  pattern_on (indexed size k v t s ∷ ps) l b e =
      let x = index_step size (kind_of t) (static (map cell_of cells) t) in
      pattern_on ps (term.Index l size t) (b ++ x ∷ []) (ap (λ z. grown z x) e) ∙ ap Some (append_assoc b (x ∷ []) (map step_by ps))

  first_on : (ps : List Piece) (l : Left) (b : List Step) → first_of (map cell_of cells) l ≡ Some b
      → first_of (map cell_of cells) (extended l (map left_by ps)) ≡ Some (b ++ map first_by ps)
  first_on [] l b e = e ∙ ap Some (sym (append-nil b))
  first_on (named n ∷ ps) l b e = first_on ps (term.Member l n.0) (b ++ Named n.0 ∷ []) (ap (λ z. grown z (Named n.0)) e) ∙ ap Some (append_assoc b (Named n.0 ∷ []) (map first_by ps))
  first_on (indexed size k v t s ∷ ps) l b e = first_on ps (term.Index l size t) (b ++ At 0 ∷ []) (ap (λ z. grown z (At 0)) e) ∙ ap Some (append_assoc b (At 0 ∷ []) (map first_by ps))

  -- ---- loads

  -- the kind that a load has by where the first elements stand, and its word
  abbrev kind_by : Kind → Option (List Step) → Kind
  kind_by k first = unwrap_or (option_map (λ c. c.kind) (option_and_then (found (map cell_of cells)) first)) k

  abbrev word_by : Option (List Step) → Option (List Step) → Option ℕ
  word_by which first = option_and_then (λ s. option_and_then (λ f. held_at (map cell_of cells) s f) first) which

  abbrev pub front_at : Place → CellName → List Piece → Left
  front_at p name ps = extended (term.Prefix p (name_of name)) (map left_by ps)

  -- the first element's kind, where that is the kind of all
  kind_told : (k : Kind) (o : Option program.Cell) → ((c : program.Cell) → o ≡ Some c → c.kind ≡ k) → unwrap_or (option_map (λ c. c.kind) o) k ≡ k
  kind_told k None f = refl
  kind_told k (Some c) f = f c refl

  pub front_says : (k : Kind) (p : Place) (name : CellName) (ps : List Piece) → IsName name
      → ((steps : List Step) (c : program.Cell) → pattern (map cell_of cells) (front_at p name ps) ≡ Some steps → found (map cell_of cells) steps ≡ Some c → c.kind ≡ k)
      → ((c : program.Cell) → option_and_then (found (map cell_of cells)) (first_of (map cell_of cells) (front_at p name ps)) ≡ Some c → c.kind ≡ k)
      → ((steps : List Step) → pattern (map cell_of cells) (front_at p name ps) ≡ Some steps → inside (map part_of ps) ≡ Some false → found (map cell_of cells) steps ≡ None)
      → Says k k (element (facts_of cells) (map part_of ps) name)
      (word_by (pattern (map cell_of cells) (front_at p name ps)) (first_of (map cell_of cells) (front_at p name ps)))
  front_says k p name ps n kinds first ends =
      let steps = steps_of (name_of name) in
      let value = element (facts_of cells) (map part_of ps) name in
      let x = pattern_on ps (term.Prefix p (name_of name)) (steps_of (name_of name)) refl in
      let y = first_on ps (term.Prefix p (name_of name)) (steps_of (name_of name)) refl ∙ ap (λ z. Some (steps_of (name_of name) ++ z)) (first_steps ps) in
      let told : kind_by k (first_of (map cell_of cells) (front_at p name ps)) ≡ k = kind_told k (option_and_then (found (map cell_of cells)) (first_of (map cell_of cells) (front_at p name ps))) first in
      subst (λ j. Says j j value (word_by (pattern (map cell_of cells) (front_at p name ps)) (first_of (map cell_of cells) (front_at p name ps)))) told
      (subst (λ o. Says (kind_by k (first_of (map cell_of cells) (front_at p name ps))) (kind_by k (first_of (map cell_of cells) (front_at p name ps))) value (word_by o (first_of (map cell_of cells) (front_at p name ps)))) (sym x)
      (subst (λ o. Says (kind_by k o) (kind_by k o) value (word_by (Some (steps ++ map step_by ps)) o)) (sym y)
      (array_says k name (map part_of ps) (map step_by ps) (map zeroed ps) (piece_steps ps)
      (record {
        is_name = n;
        kinds = λ c e. kinds (steps ++ map step_by ps) c x e ∙ sym told ∙ ap (kind_by k) y;
        ends = λ e. ends (steps ++ map step_by ps) x e;
      })
      (first_codes ps))))

  get_mapped : {A B : Type 0} (f : A → B) (xs : List A) (n : ℕ) (x : A) → slice_get xs n ≡ Some x → slice_get (map f xs) n ≡ Some (f x)
  get_mapped f [] n x e = cc e
  get_mapped f (y ∷ xs) zero x e = ap (option_map f) e
  get_mapped f (y ∷ xs) (suc n) x e = get_mapped f xs n x e

  pub whole_cell_says : (p : Place) (n : ℕ) (c : Cell) → slice_get cells n ≡ Some c → found (map cell_of cells) (steps_of (name_of c.name)) ≡ Some (cell_of c)
      → Says c.kind c.kind (fixed cells n) (word_by (pattern (map cell_of cells) (term.Cell p n)) (first_of (map cell_of cells) (term.Cell p n)))
  whole_cell_says p n c e f =
      let x : pattern (map cell_of cells) (term.Cell p n) ≡ Some (steps_of (name_of c.name)) = ap (option_map (λ c. steps_of c.name)) (get_mapped cell_of cells n c e) in
      subst (λ o. Says c.kind c.kind (fixed cells n) (word_by o o)) (sym x)
      (subst (λ o. Says c.kind c.kind (fixed cells n) (if is_open (steps_of (name_of c.name)) then None else held o o)) (sym f)
      (subst (λ b. Says c.kind c.kind (fixed cells n) (if b then None else held (Some (cell_of c)) (Some (cell_of c)))) (sym (closed_name (name_of c.name))) (cell_says n c e)))
