-- A number and a word behind the name of a process make the name of a local.
use Rattle.std.proofs.Common.{◌≡◌, ℕ, zero, suc, ◌^◌, ◌<◌, Bool, true, false, List, [], ◌∷◌, ◌++◌, map, length, slice_get, bytes_eq, codes, decimal, Option, Some, None, refl, sym, ap, ◌∙◌, subst, inl, inr, true≢false}
use Rattle.std.specs.Prelude.{◌⊎◌}
use Rattle.std.proofs.lemmas.List.{append-nil}
use Rattle.std.proofs.lemmas.Slice.Eq.{bytes_eq-Decides}
use Rattle.scc_base.specs.Names.{AllDiffer}
use Rattle.scc_base.specs.declared.path.PathPart.{PathPart}
use Rattle.scc_base.specs.declared.path.PathPart.TheVariants as piece
use Rattle.scc_semantics.specs.Location.{Part, Member, Element}
use Rattle.scc_core_spec.specs.Term.{CellName, Own}
use Rattle.scc_core_spec.specs.Constants.{name_text}
use Rattle.scc_lower_spec.specs.Parts.{text_at, part_text, behind, joined, IsPart, AreParts}
use Rattle.scc_lower_spec.proofs.Pieces.{text_is}
use Rattle.scc_blocks_names.specs.Placed.{own_places, places_of, piece_of, Objects, AreApart, IsProcess, IsName, IsProcessName, IsLocalOf, PlacedBy}
use Rattle.scc_blocks_names.proofs.Texts.{text_joined}
use Rattle.scc_blocks_names.proofs.Marks.{is_whole, no_double}
use Rattle.scc_blocks_names.proofs.Named.{same_text, whole}

append_assoc : {A : Type 0} → (a b c : List A) → (a ++ b) ++ c ≡ a ++ (b ++ c)
append_assoc [] b c = refl
append_assoc (x ∷ a) b c = ap (λ l. x ∷ l) (append_assoc a b c)

-- ---- tables

abbrev Texts : Type 0
Texts = List (List ℕ)

abbrev Stands : Texts → List ℕ → Type 0
Stands names word = (i : ℕ) × (slice_get names i ≡ Some word)

abbrev Misses : Texts → List ℕ → Type 0
Misses names word = (i : ℕ) → slice_get names i ≡ Some word → ⊥

found : (names : Texts) (word : List ℕ) → Stands names word ⊎ Misses names word
found [] word = inr (λ i e. cc)
found (t ∷ ts) word = by (bytes_eq t word) refl (found ts word)
  where
    misses : bytes_eq t word ≡ false → Misses ts word → Misses (t ∷ ts) word
    misses f m zero e = let same : t ≡ word = cc in true≢false (sym ((bytes_eq-Decides t word).1 same) ∙ f)
    misses f m (suc i) e = m i e

    by : (b : Bool) → bytes_eq t word ≡ b → Stands ts word ⊎ Misses ts word → Stands (t ∷ ts) word ⊎ Misses (t ∷ ts) word
    by true e s = inl (0, ap (λ u. Some u) ((bytes_eq-Decides t word).0 e))
    by false e s = elim s [
      | inl r ↦ inl (suc r.0, r.1)
      | inr m ↦ inr (misses e m)
    ]

get_kept : (xs ys : Texts) (i : ℕ) (x : List ℕ) → slice_get xs i ≡ Some x → slice_get (xs ++ ys) i ≡ Some x
get_kept [] ys i x e = cc
get_kept (a ∷ xs) ys zero x e = e
get_kept (a ∷ xs) ys (suc i) x e = get_kept xs ys i x e

get_last : (xs : Texts) (w : List ℕ) → slice_get (xs ++ w ∷ []) (length xs) ≡ Some w
get_last [] w = refl
get_last (x ∷ xs) w = get_last xs w

record IsLast (xs : Texts) (w : List ℕ) (i : ℕ) (x : List ℕ) : Type 0 where
  at : i ≡ length xs
  is : w ≡ x

before_or_last : (xs : Texts) (w : List ℕ) (i : ℕ) (x : List ℕ) → slice_get (xs ++ w ∷ []) i ≡ Some x → (slice_get xs i ≡ Some x) ⊎ IsLast xs w i x
before_or_last [] w zero x e = inr (record { at = refl; is = cc })
before_or_last [] w (suc i) x e = absurd (cc)
before_or_last (y ∷ xs) w zero x e = inl e
before_or_last (y ∷ xs) w (suc i) x e = elim (before_or_last xs w i x e) [
  | inl r ↦ inl r
  | inr r ↦ inr (record { at = ap suc r.at; is = r.is })
]

differ_with : (names : Texts) → AllDiffer names → (w : List ℕ) → Misses names w → AllDiffer (names ++ w ∷ [])
differ_with names u w m i j text a b = elim (before_or_last names w i text a) [
  | inl p ↦ elim (before_or_last names w j text b) [
    | inl q ↦ u i j text p q
    | inr q ↦ absurd (m i (p ∙ ap (λ t. Some t) (sym q.is)))
  ]
  | inr p ↦ elim (before_or_last names w j text b) [
    | inl q ↦ absurd (m j (q ∙ ap (λ t. Some t) (sym p.is)))
    | inr q ↦ p.at ∙ sym q.at
  ]
]

-- a table that goes on and has the word
record With (names : Texts) (word : List ℕ) : Type 0 where
  table : Texts
  differ : AllDiffer table
  more : Texts
  goes_on : table ≡ names ++ more
  number : ℕ
  is : slice_get table number ≡ Some word

with_word : (names : Texts) → AllDiffer names → (word : List ℕ) → With names word
with_word names u word = elim (found names word) [
  | inl r ↦ record { table = names; differ = u; more = []; goes_on = sym (append-nil names); number = r.0; is = r.1 }
  | inr m ↦ record { table = names ++ word ∷ []; differ = differ_with names u word m; more = word ∷ []; goes_on = refl; number = length names; is = get_last names word }
]

module _ (names table more : Texts) (goes_on : table ≡ names ++ more) where
  get_on : (i : ℕ) (t : List ℕ) → slice_get names i ≡ Some t → slice_get table i ≡ Some t
  get_on i t e = ap (λ l. slice_get l i) goes_on ∙ get_kept names more i t e

  part_on : (p : PathPart) → IsPart names p → IsPart table p
  part_on (piece.Member n) h = (h.0, get_on n.0 h.0 h.1, h.2)
  part_on (piece.Index i) h = h

  parts_on : (ps : List PathPart) → AreParts names ps → AreParts table ps
  parts_on [] h = h
  parts_on (p ∷ ps) h = (part_on p h.0, parts_on ps h.1)

  text_on : (p : PathPart) → IsPart names p → part_text names p ≡ part_text table p
  text_on (piece.Member n) h = text_is names n.0 h.0 h.1 ∙ sym (text_is table n.0 h.0 (get_on n.0 h.0 h.1))
  text_on (piece.Index i) h = refl

  behind_on : (ps : List PathPart) → AreParts names ps → behind names ps ≡ behind table ps
  behind_on [] h = refl
  behind_on (p ∷ ps) h = λ i. (36 ∷ text_on p h.0 i) ++ behind_on ps h.1 i

  joined_on : (ps : List PathPart) → AreParts names ps → joined names ps ≡ joined table ps
  joined_on [] h = refl
  joined_on (p ∷ ps) h = λ i. text_on p h.0 i ++ behind_on ps h.1 i

  name_on : (d : Objects) (n : CellName) → IsName names d n → IsName table d n
  name_on d n h = (parts_on (map piece_of (places_of n)) h.0, h.1)

  name_text_on : (d : Objects) (n : CellName) → IsName names d n → name_text (text_at names) n ≡ name_text (text_at table) n
  name_text_on d n h = text_joined names d n h.1 ∙ joined_on (map piece_of (places_of n)) h.0 ∙ sym (text_joined table d n h.1)

-- ---- steps behind a path

behind_more : (t : Texts) (ps qs : List Part) → behind t (map piece_of (ps ++ qs)) ≡ behind t (map piece_of ps) ++ behind t (map piece_of qs)
behind_more t [] qs = refl
behind_more t (p ∷ ps) qs =
    ap (λ r. (36 ∷ part_text t (piece_of p)) ++ r) (behind_more t ps qs)
    ∙ sym (append_assoc (36 ∷ part_text t (piece_of p)) (behind t (map piece_of ps)) (behind t (map piece_of qs)))

joined_more : (t : Texts) (p : Part) (ps qs : List Part) → joined t (map piece_of ((p ∷ ps) ++ qs)) ≡ joined t (map piece_of (p ∷ ps)) ++ behind t (map piece_of qs)
joined_more t p ps qs =
    ap (λ r. part_text t (piece_of p) ++ r) (behind_more t ps qs)
    ∙ sym (append_assoc (part_text t (piece_of p)) (behind t (map piece_of ps)) (behind t (map piece_of qs)))

joined_behind : (t : Texts) (d : Objects) (path qs : List Part) → IsProcess d path → joined t (map piece_of (path ++ qs)) ≡ joined t (map piece_of path) ++ behind t (map piece_of qs)
joined_behind t d path qs h = by h.object h.is
  where
    with_front : (p : Part) (ps : List Part) → path ≡ p ∷ ps → joined t (map piece_of (path ++ qs)) ≡ joined t (map piece_of path) ++ behind t (map piece_of qs)
    with_front p ps e =
        ap (λ l. joined t (map piece_of (l ++ qs))) e
        ∙ joined_more t p ps qs
        ∙ ap (λ l. joined t (map piece_of l) ++ behind t (map piece_of qs)) (sym e)

    by : (object : List Part) → path ≡ object ++ Member h.function ∷ [] → joined t (map piece_of (path ++ qs)) ≡ joined t (map piece_of path) ++ behind t (map piece_of qs)
    by [] e = with_front (Member h.function) [] e
    by (x ∷ object) e = with_front x (object ++ Member h.function ∷ []) e

spelled_more : (t : Texts) (ps qs : List Part) → AreParts t (map piece_of ps) → AreParts t (map piece_of qs) → AreParts t (map piece_of (ps ++ qs))
spelled_more t [] qs h k = k
spelled_more t (p ∷ ps) qs h k = (h.0, spelled_more t ps qs h.1 k)

-- ---- a number and a word

process_places : (q : CellName) → q.own ≡ None → q.indices ≡ [] → places_of q ≡ q.path
process_places q e f = (λ i. q.path ++ (own_places (e i) ++ map Element (f i))) ∙ append-nil q.path

pub process_name : (names : Texts) (d : Objects) (q : CellName) → IsProcessName names d q → IsName names d q
process_name names d q h = (h.spelled, subst (PlacedBy d q) (sym h.own) (h.indices, inr h.process))

abbrev pub index_word : List ℕ
index_word = codes "index"

-- the name that a temporary would have as a local
abbrev local_with : CellName → (number identifier : ℕ) → CellName
local_with q k i = record { path = q.path; own = Some (record { number = k; identifier = i }); indices = [] }

abbrev pub behind_text : ℕ → List ℕ
behind_text k = codes "$" ++ (decimal k ++ codes "$index")

module _ (names : Texts) (u : AllDiffer names) (d : Objects) (a : AreApart d) where
  w : With names index_word
  w = with_word names u index_word

  local_named : (q : CellName) → IsProcessName names d q → (k : ℕ) → k < 2 ^ 32 → IsName w.table d (local_with q k w.number)
  local_named q h k b =
      let path : AreParts names (map piece_of q.path) = subst (λ l. AreParts names (map piece_of l)) (process_places q h.own h.indices) h.spelled in
      let more : AreParts w.table (map piece_of (Element k ∷ Member w.number ∷ [])) = (b, ((index_word, w.is, refl), tt)) in
      (spelled_more w.table q.path (Element k ∷ Member w.number ∷ []) (parts_on names w.table w.more w.goes_on (map piece_of q.path) path) more, h.process)

  local_text : (q : CellName) → IsProcessName names d q → (k : ℕ) → name_text (text_at names) q ++ behind_text k ≡ name_text (text_at w.table) (local_with q k w.number)
  local_text q h k =
      let name = process_name names d q h in
      let word : behind w.table (map piece_of (Element k ∷ Member w.number ∷ [])) ≡ behind_text k =
      ap (λ t. 36 ∷ (decimal k ++ (36 ∷ t))) (append-nil (text_at w.table w.number) ∙ text_is w.table w.number index_word w.is) in
      ap (λ t. t ++ behind_text k) (name_text_on names w.table w.more w.goes_on d q name ∙ text_joined w.table d q name.1 ∙ ap (λ l. joined w.table (map piece_of l)) (process_places q h.own h.indices))
      ∙ ap (λ t. joined w.table (map piece_of q.path) ++ t) (sym word)
      ∙ sym (joined_behind w.table d q.path (Element k ∷ Member w.number ∷ []) h.process)
      ∙ sym (text_joined w.table d (local_with q k w.number) h.process)

  -- a cell of that text is the process's local of that number
  pub cell_is_local : (q : CellName) → IsProcessName names d q → (k : ℕ) → k < 2 ^ 32 → (n : CellName) → IsName names d n → name_text (text_at names) n ≡ name_text (text_at names) q ++ behind_text k → IsLocalOf q n k
  cell_is_local q h k b n g e =
      let same : n ≡ local_with q k w.number =
      same_text w.table w.differ d a n (local_with q k w.number) (name_on names w.table w.more w.goes_on d n g) (local_named q h k b)
      (sym (name_text_on names w.table w.more w.goes_on d n g) ∙ e ∙ local_text q h k) in
      record { path = ap (λ m. m.path) same; own = record { number = k; identifier = w.number }; is_own = ap (λ m. m.own) same; is_number = refl }

  abbrev number_of : Option Own → ℕ
  number_of None = 0
  number_of (Some o) = o.number

  abbrev process_with : List Part → Option Own → List ℕ → CellName
  process_with path own indices = record { path = path; own = own; indices = indices }

  -- two such texts are of one process and one number
  pub same_locals : (q r : CellName) → IsProcessName names d q → IsProcessName names d r → (k l : ℕ) → k < 2 ^ 32 → l < 2 ^ 32 → name_text (text_at names) q ++ behind_text k ≡ name_text (text_at names) r ++ behind_text l → (q ≡ r) × (k ≡ l)
  same_locals q r h g k l b c e =
      let same : local_with q k w.number ≡ local_with r l w.number =
      same_text w.table w.differ d a (local_with q k w.number) (local_with r l w.number) (local_named q h k b) (local_named r g l c) (sym (local_text q h k) ∙ e ∙ local_text r g l) in
      let path : q.path ≡ r.path = ap (λ m. m.path) same in
      (λ i. process_with (path i) ((h.own ∙ sym g.own) i) ((h.indices ∙ sym g.indices) i), ap (λ m. number_of m.own) same)

  -- and none holds `$$`
  pub no_mark_behind : (q : CellName) → IsProcessName names d q → (k : ℕ) → k < 2 ^ 32 → (s t : List ℕ) → name_text (text_at names) q ++ behind_text k ≡ s ++ 36 ∷ 36 ∷ t → ⊥
  no_mark_behind q h k b s t e =
      let name = local_named q h k b in
      no_double false s t (subst (λ x. is_whole false x ≡ true) (sym (local_text q h k) ∙ e) (whole w.table d (local_with q k w.number) name))
