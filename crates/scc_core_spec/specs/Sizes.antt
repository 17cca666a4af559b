-- Sizes of bodies and the bound on steps: this project's own.
use Rattle.std.specs.Prelude.{ℕ, ◌+◌, ◌*◌, max, List, [], ◌∷◌, ◌++◌, map, sum, flat_map, Option, Some, None, option_map, unwrap_or, if◌then◌else◌}
use Rattle.scc_core_spec.specs.Term.{Term, Literal, Load, Read, Convert, Unary, Binary, Choose, Bit, Range, Join, Left, Cell, Prefix, Null, Follow, Member, Index, Pick, Whole, OneBit, Bits}
use Rattle.scc_core_spec.specs.Code.{Code, End, Put, Aim, If, Block, Loop, Exit, Wait, size, waits_in, holds_wait, numbered}
use Rattle.scc_core_spec.specs.Program.{Process, Program}
use Rattle.scc_core_spec.specs.Named.{Step, elements, open_count}
use Rattle.scc_core_spec.specs.Static.{Cells, pattern, static}
use Rattle.scc_core_spec.specs.Live.{live}
use Rattle.scc_core_spec.specs.Segments.{all_segments, segment_code, statements}
use Rattle.scc_core_spec.specs.Uses.{Act, acts}

-- the greatest depth of loops that hold a wait, inside each other
abbrev pub loops_deep : Code → ℕ
loops_deep End = 0
loops_deep (Put p l k e r) = loops_deep r
loops_deep (Aim p to t r) = loops_deep r
loops_deep (If p t a b r) = max (loops_deep a) (max (loops_deep b) (loops_deep r))
loops_deep (Block p b r) = max (loops_deep b) (loops_deep r)
loops_deep (Loop p n b r) = max ((if holds_wait b then 1 else 0) + loops_deep b) (loops_deep r)
loops_deep (Exit p n r) = loops_deep r
loops_deep (Wait p l n r) = loops_deep r

-- the bound on the steps from a wait, or from the first statement, to the next wait, for an unrolled body
abbrev pub bound : Code → ℕ
bound c = 3 * (loops_deep c + 1) * size c

-- the live part of a process's resolved body, its waits numbered
abbrev pub live_body : Cells → Code → Code
live_body cs c = numbered 0 (live cs c)

-- the states of a thread
abbrev pub states : Cells → Code → ℕ
states cs c = waits_in (live cs c)

-- the statements of its reset segment and its numbered segments, a wait counting 1
abbrev pub thread_statements : Cells → Code → ℕ
thread_statements cs c = statements (all_segments (live_body cs c))

-- the code of which places count: a method's live body, a thread's segments
abbrev pub parts_of : Cells → Process → List Code
parts_of cs p = if p.is_thread then map segment_code (all_segments (live_body cs p.body)) else live cs p.body ∷ []

abbrev pub written_left : Option (Left × Pick) → List Left
written_left None = []
written_left (Some w) = w.0 ∷ []

-- the places of a statement: what it assigns, and what it reads
abbrev pub places_of : Act → List Left
places_of a = written_left a.writes ++ map (λ u. u.left) a.reads

abbrev pub patterns_of : Cells → Code → List (List Step)
patterns_of cs c = flat_map (λ l. unwrap_or (option_map (λ p. p ∷ []) (pattern cs l)) []) (flat_map places_of (acts c))

abbrev pub all_patterns : Program → List (List Step)
all_patterns p = flat_map (λ q. flat_map (patterns_of p.cells) (parts_of p.cells q)) p.processes

-- the elements of all arrays under indices that aren't static
abbrev pub index_sum : Program → ℕ
index_sum p = sum (map elements (all_patterns p))

-- the statements of one process that are written: of a method's live body, or of a thread's segments
abbrev pub written_size : Cells → Process → ℕ
written_size cs p = if p.is_thread then thread_statements cs p.body else size (live cs p.body)

-- an index that isn't static counts 1
abbrev pub by_static : Option ℕ → ℕ
by_static None = 1
by_static (Some w) = 0

abbrev mutual
  -- the bit indices that aren't static, those in the indices of locations too
  pub bit_indices : Cells → Term → ℕ
  bit_indices cs (Literal p k w) = 0
  bit_indices cs (Load p k l) = bits_inside cs l
  bit_indices cs (Read p k l) = bits_inside cs l
  bit_indices cs (Convert p k e) = bit_indices cs e
  bit_indices cs (Unary p k o a) = bit_indices cs a
  bit_indices cs (Binary p k o a b) = bit_indices cs a + bit_indices cs b
  bit_indices cs (Choose p k t a b) = bit_indices cs t + (bit_indices cs a + bit_indices cs b)
  bit_indices cs (Bit p a e) = by_static (static cs e) + (bit_indices cs a + bit_indices cs e)
  bit_indices cs (Range p k a h l) = bit_indices cs a
  bit_indices cs (Join p k a b) = bit_indices cs a + bit_indices cs b

  pub bits_inside : Cells → Left → ℕ
  bits_inside cs (Cell p c) = 0
  bits_inside cs (Prefix p n) = 0
  bits_inside cs (Null p) = 0
  bits_inside cs (Follow p s l) = bits_inside cs l
  bits_inside cs (Member l n) = bits_inside cs l
  bits_inside cs (Index l size e) = bits_inside cs l + bit_indices cs e

abbrev pub picked_bits : Cells → Pick → ℕ
picked_bits cs Whole = 0
picked_bits cs (OneBit e) = by_static (static cs e) + bit_indices cs e
picked_bits cs (Bits h l) = 0

abbrev pub bits_in : Cells → Code → ℕ
bits_in cs End = 0
bits_in cs (Put p l k e r) = bits_inside cs l + (picked_bits cs k + (bit_indices cs e + bits_in cs r))
bits_in cs (Aim p to t r) = bits_inside cs t + bits_in cs r
bits_in cs (If p t a b r) = bit_indices cs t + (bits_in cs a + (bits_in cs b + bits_in cs r))
bits_in cs (Block p b r) = bits_in cs b + bits_in cs r
bits_in cs (Loop p n b r) = bits_in cs b + bits_in cs r
bits_in cs (Exit p n r) = bits_in cs r
bits_in cs (Wait p l n r) = bits_in cs r

abbrev pub all_bits : Program → ℕ
all_bits p = sum (flat_map (λ q. map (bits_in p.cells) (parts_of p.cells q)) p.processes)

-- the measure of an emitted text: statements, indices that aren't static, of arrays and of bits, and elements times such indices of arrays
abbrev pub measure : Program → ℕ
measure p = sum (map (written_size p.cells) p.processes) + (all_bits p + (sum (map open_count (all_patterns p)) + sum (map (λ s. elements s * open_count s) (all_patterns p))))
