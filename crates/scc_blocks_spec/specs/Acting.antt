-- What the code of a resolved core finds and leaves, by cells, where no pointer is left (IEEE 1666-2011, 6.4: a signal shows its present value
-- until its requests take effect; 7.2 the values).
use Rattle.std.specs.Prelude.{ℕ, nat_eq, false, List, Option, Some, None, option_map, option_and_then, slice_get, unwrap_or, if◌then◌else◌}
use Rattle.scc_bits_kinds.specs.Kinds.{width_of, number_of, stored}
use Rattle.scc_bits_kinds.specs.Bits.{part, joined, replaced}
use Rattle.scc_bits.specs.Values.{applied}
use Rattle.scc_semantics.specs.Scene.{with_two, chosen, index_of, bit_at, with_bit}
use Rattle.scc_core_spec.specs.Term.{Term, Literal, Load, Read, Convert, Unary, Binary, Choose, Bit, Range, Join, Left, Cell, Prefix, Null, Follow, Member, Index, Pick, Whole, OneBit, Bits, kind_of}
use Rattle.scc_core_spec.specs.Program.{is_root}
use Rattle.scc_core_spec.specs.Named.{Step, Named, At, steps_of, cell_at}
use Rattle.scc_core_spec.specs.Static.{Cells, grown}
use Rattle.scc_core_spec.specs.Uses.{root_of, has_sort, width_at}

-- the present word of each cell, and the word that was last asked of a signal or port
pub record Acting : Type 0 where
  pub now : ℕ → ℕ
  pub asked : ℕ → Option ℕ

abbrev pub latest : Acting → ℕ → ℕ
latest a c = unwrap_or (a.asked c) (a.now c)

-- nothing is asked yet
abbrev pub calm : (ℕ → ℕ) → Acting
calm words = record { now = words; asked = λ c. None }

abbrev pub with_word : ℕ → ℕ → Acting → Acting
with_word c w a = record { now = λ d. if nat_eq c d then w else a.now d; asked = a.asked }

abbrev pub with_asked : ℕ → ℕ → Acting → Acting
with_asked c w a = record { now = a.now; asked = λ d. if nat_eq c d then Some w else a.asked d }

-- the root, variable or local of that name; None where the name names none
abbrev pub cell_named : Cells → Option (List Step) → Option ℕ
cell_named cs p = option_map (root_of cs) (option_and_then (λ p. cell_at false 0 p cs) p)

abbrev pub word_or_zero : Acting → Option ℕ → ℕ
word_or_zero a None = 0
word_or_zero a (Some c) = a.now c

-- None: a pointer is followed, or an operator has no rule for its operands
abbrev mutual
  pub word_in : Cells → Acting → Term → Option ℕ
  word_in cs a (Literal p k w) = Some w
  word_in cs a (Load p k l) = option_map (λ s. word_or_zero a (cell_named cs (Some s))) (steps_in cs a l)
  word_in cs a (Read p k l) = option_map (λ s. word_or_zero a (cell_named cs (Some s))) (steps_in cs a l)
  word_in cs a (Convert p k e) = option_map (λ x. stored k (number_of (kind_of e) x)) (word_in cs a e)
  word_in cs a (Unary p k o e) = option_and_then (λ x. applied o (kind_of e) x (kind_of e) x) (word_in cs a e)
  word_in cs a (Binary p k o e f) = with_two (word_in cs a e) (word_in cs a f) (λ x y. applied o (kind_of e) x (kind_of f) y)
  word_in cs a (Choose p k t e f) = option_and_then (λ n. with_two (word_in cs a e) (word_in cs a f) (λ x y. Some (chosen n (stored k (number_of (kind_of e) x)) (stored k (number_of (kind_of f) y))))) (word_in cs a t)
  word_in cs a (Bit p e i) = with_two (word_in cs a e) (word_in cs a i) (λ x n. Some (bit_at (width_of (kind_of e)) x (index_of (kind_of i) n)))
  word_in cs a (Range p k e h l) = option_map (part h l) (word_in cs a e)
  word_in cs a (Join p k e f) = with_two (word_in cs a e) (word_in cs a f) (λ x y. Some (joined (width_of (kind_of f)) x y))

  -- the name of a location, its indices as they are now
  pub steps_in : Cells → Acting → Left → Option (List Step)
  steps_in cs a (Cell p n) = option_map (λ c. steps_of c.name) (slice_get cs n)
  steps_in cs a (Prefix p name) = Some (steps_of name)
  steps_in cs a (Null p) = None
  steps_in cs a (Follow p soft l) = None
  steps_in cs a (Member l name) = grown (steps_in cs a l) (Named name)
  steps_in cs a (Index l size e) = option_and_then (λ i. grown (steps_in cs a l) (At (index_of (kind_of e) i))) (word_in cs a e)

-- the whole word after an assignment to a part
abbrev pub picked : Cells → Acting → ℕ → Pick → ℕ → ℕ → Option ℕ
picked cs a width Whole old new = Some new
picked cs a width (OneBit e) old new = option_map (λ i. with_bit width old (index_of (kind_of e) i) new) (word_in cs a e)
picked cs a width (Bits h l) old new = Some (replaced h l old new)

-- a root is asked to take the word, a variable or local takes it; where no cell is named, nothing is written
abbrev pub put_in : Cells → Acting → Option ℕ → Pick → ℕ → Option Acting
put_in cs a None k new = option_map (λ w. a) (picked cs a 1 k 0 new)
put_in cs a (Some c) k new = if has_sort is_root cs c then option_map (λ w. with_asked c new a) (picked cs a (width_at cs c) k 0 new)
    else option_map (λ w. with_word c w a) (picked cs a (width_at cs c) k (a.now c) new)
