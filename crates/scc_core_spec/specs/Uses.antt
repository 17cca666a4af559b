-- What a statement reads and writes, in the order of the walk: operands before operators, left before right, the indices of a
-- location before it, that of a bit of a variable too. This project's own order of refusals.
use Rattle.std.specs.Prelude.{ℕ, Bool, true, false, ◌&&◌, ◌||◌, not, nat_eq, List, [], ◌∷◌, ◌++◌, ◌+◌, map, flat_map, Option, Some, None, option_map, slice_get, unwrap_or, if◌then◌else◌}
use Rattle.std.specs.List.{list_any}
use Rattle.scc_base.specs.declared.refusal.Place.{Place}
use Rattle.scc_bits_kinds.specs.Kinds.{width_of}
use Rattle.scc_core_spec.specs.Term.{Term, Literal, Load, Read, Convert, Unary, Binary, Choose, Bit, Range, Join, Left, Cell, Prefix, Null, Follow, Member, Index, Pick, Whole, OneBit, Bits}
use Rattle.scc_core_spec.specs.Code.{Code, End, Put, Aim, If, Block, Loop, Exit, Wait}
use Rattle.scc_core_spec.specs.Program.{Sort, Port, is_root}
use Rattle.scc_core_spec.specs.Named.{cell_at, cells_at, path_steps, is_open}
use Rattle.scc_core_spec.specs.Static.{Cells, static, pattern}

-- a location that is read, at the place of the expression
pub record Use : Type 0 where
  pub place : Place
  pub left : Left

abbrev mutual
  pub loads : Term → List Use
  loads (Literal p k w) = []
  loads (Load p k l) = inside l ++ record { place = p; left = l } ∷ []
  loads (Read p k l) = inside l ++ record { place = p; left = l } ∷ []
  loads (Convert p k e) = loads e
  loads (Unary p k o a) = loads a
  loads (Binary p k o a b) = loads a ++ loads b
  loads (Choose p k t a b) = loads t ++ (loads a ++ loads b)
  loads (Bit p (Load q k l) e) = inside l ++ (loads e ++ record { place = q; left = l } ∷ [])
  loads (Bit p a e) = loads a ++ loads e
  loads (Range p k a h l) = loads a
  loads (Join p k a b) = loads a ++ loads b

  -- what the indices of a location read
  pub inside : Left → List Use
  inside (Cell p c) = []
  inside (Prefix p n) = []
  inside (Null p) = []
  inside (Follow p s l) = inside l
  inside (Member l n) = inside l
  inside (Index l size e) = inside l ++ loads e

abbrev pub picked : Pick → List Use
picked Whole = []
picked (OneBit e) = loads e
picked (Bits h l) = []

-- what one statement by itself reads, and what it assigns
pub record Act : Type 0 where
  pub place : Place
  pub reads : List Use
  pub writes : Option (Left × Pick)

-- the assignments and tests of a body, in text order
abbrev pub acts : Code → List Act
acts End = []
acts (Put p l k e r) = record { place = p; reads = inside l ++ (picked k ++ loads e); writes = Some (l, k) } ∷ acts r
acts (Aim p to t r) = record { place = p; reads = inside t; writes = None } ∷ acts r
acts (If p t a b r) = record { place = p; reads = loads t; writes = None } ∷ (acts a ++ (acts b ++ acts r))
acts (Block p b r) = acts b ++ acts r
acts (Loop p n b r) = acts b ++ acts r
acts (Exit p n r) = acts r
acts (Wait p l n r) = acts r

-- a port below the top stands for its root
abbrev pub root_of_sort : Cells → Sort → ℕ → ℕ
root_of_sort cs (Port path) n = unwrap_or (cell_at false 0 (path_steps path) cs) n
root_of_sort cs _ n = n

abbrev pub sort_at : Cells → ℕ → Option Sort
sort_at cs n = option_map (λ c. c.sort) (slice_get cs n)

abbrev pub has_sort : (Sort → Bool) → Cells → ℕ → Bool
has_sort test cs n = unwrap_or (option_map test (sort_at cs n)) false

abbrev pub root_of : Cells → ℕ → ℕ
root_of cs n = unwrap_or (option_map (λ s. root_of_sort cs s n) (sort_at cs n)) n

-- The roots, variables and locals that a location names. Under an index that isn't static it names every element which that index
-- ranges over, whether or not the index's kind can reach it.
abbrev pub cells_of : Cells → Left → List ℕ
cells_of cs l = unwrap_or (option_map (λ p. map (root_of cs) (cells_at 0 p cs)) (pattern cs l)) []

abbrev pub is_single : Cells → Left → Bool
is_single cs l = unwrap_or (option_map (λ p. not (is_open p)) (pattern cs l)) false

abbrev pub is_zero : Option ℕ → Bool
is_zero (Some n) = nat_eq n 0
is_zero None = false

-- a part that is all of a number of so many bits
abbrev pub is_all : Cells → ℕ → Pick → Bool
is_all cs width Whole = true
is_all cs width (OneBit e) = nat_eq width 1 && is_zero (static cs e)
is_all cs width (Bits h l) = nat_eq l 0 && nat_eq (h + 1) width

abbrev pub width_at : Cells → ℕ → ℕ
width_at cs n = unwrap_or (option_map (λ c. width_of c.kind) (slice_get cs n)) 0

abbrev pub reads_of : Cells → Act → List ℕ
reads_of cs a = flat_map (λ u. cells_of cs u.left) a.reads

abbrev pub writes_of : Cells → Act → List ℕ
writes_of cs a = unwrap_or (option_map (λ w. cells_of cs w.0) a.writes) []

-- of these cells, those that an assignment gives a whole value
abbrev pub whole_of : Cells → Left → Pick → List ℕ → List ℕ
whole_of cs l k [] = []
whole_of cs l k (n ∷ ns) = if has_sort is_root cs n || (is_single cs l && is_all cs (width_at cs n) k) then n ∷ whole_of cs l k ns else whole_of cs l k ns

-- The cells that an assignment gives a whole value. A part isn't one, nor is an element under an index that isn't static; of a root
-- every element under such an index counts (such a design is refused).
abbrev pub whole_writes : Cells → Left → Pick → List ℕ
whole_writes cs l k = whole_of cs l k (cells_of cs l)

abbrev pub among : ℕ → List ℕ → Bool
among n ns = list_any (nat_eq n) ns
