-- Static values: of literals and of variables that no process can change. This project's own rule; C++ has constant expressions
-- ([expr.const]) alone.
use Rattle.std.specs.Prelude.{ℕ, zero, suc, Bool, true, false, List, [], ◌∷◌, ◌++◌, Option, Some, None, option_map, option_and_then, slice_get, find, if◌then◌else◌}
use Rattle.scc_bits_kinds.specs.declared.kind.Kind.{Kind}
use Rattle.scc_bits_kinds.specs.Kinds.{width_of, number_of, stored}
use Rattle.scc_bits.specs.Values.{applied}
use Rattle.scc_bits_kinds.specs.Bits.{part, joined}
use Rattle.scc_semantics.specs.Scene.{with_two, chosen, index_of, bit_at}
use Rattle.scc_core_spec.specs.Term.{Term, Literal, Load, Read, Convert, Unary, Binary, Choose, Bit, Range, Join, Left, Cell, Prefix, Null, Follow, Member, Index, kind_of}
use Rattle.scc_core_spec.specs.Program as program
use Rattle.scc_core_spec.specs.Program.{Sort, Variable}
use Rattle.scc_core_spec.specs.Named.{Step, Named, At, Open, steps_of, is_open, names_cell}

abbrev pub Cells : Type 0
Cells = List program.Cell

-- what a variable holds that no process can change
abbrev pub fixed_word : Sort → Option ℕ
fixed_word (Variable word true) = Some word
fixed_word _ = None

abbrev pub found : Cells → List Step → Option program.Cell
found cs p = find (names_cell false p) cs

-- what a fixed variable holds; past the end of an array that is fixed stands 0
abbrev pub held : Option program.Cell → Option program.Cell → Option ℕ
held (Some c) first = fixed_word c.sort
held None (Some first) = option_map (λ w. 0) (fixed_word first.sort)
held None None = None

abbrev pub held_at : Cells → List Step → List Step → Option ℕ
held_at cs p first = if is_open p then None else held (found cs p) (found cs first)

-- a static index names one element, another one of so many
abbrev pub index_step : ℕ → Kind → Option ℕ → Step
index_step size k None = Open size
index_step size k (Some word) = At (index_of k word)

abbrev pub grown : Option (List Step) → Step → Option (List Step)
grown p s = option_map (λ p. p ++ s ∷ []) p

-- a location with the first element in place of each of its own indices: it tells whether an array is fixed
abbrev pub first_of : Cells → Left → Option (List Step)
first_of cs (Cell p n) = option_map (λ c. steps_of c.name) (slice_get cs n)
first_of cs (Prefix p name) = Some (steps_of name)
first_of cs (Null p) = None
first_of cs (Follow p soft l) = None
first_of cs (Member l name) = grown (first_of cs l) (Named name)
first_of cs (Index l size e) = grown (first_of cs l) (At 0)

abbrev mutual
  -- the word of a static expression in its kind; each part of it is static
  pub static : Cells → Term → Option ℕ
  static cs (Literal p k w) = Some w
  static cs (Load p k l) = option_and_then (λ s. option_and_then (λ f. held_at cs s f) (first_of cs l)) (pattern cs l)
  static cs (Read p k l) = None
  static cs (Convert p k e) = option_map (λ x. stored k (number_of (kind_of e) x)) (static cs e)
  static cs (Unary p k o a) = option_and_then (λ x. applied o (kind_of a) x (kind_of a) x) (static cs a)
  static cs (Binary p k o a b) = with_two (static cs a) (static cs b) (λ x y. applied o (kind_of a) x (kind_of b) y)
  static cs (Choose p k t a b) = option_and_then (λ n. with_two (static cs a) (static cs b) (λ x y. Some (chosen n (stored k (number_of (kind_of a) x)) (stored k (number_of (kind_of b) y))))) (static cs t)
  static cs (Bit p a e) = with_two (static cs a) (static cs e) (λ x i. Some (bit_at (width_of (kind_of a)) x (index_of (kind_of e) i)))
  static cs (Range p k a h l) = option_map (part h l) (static cs a)
  static cs (Join p k a b) = with_two (static cs a) (static cs b) (λ x y. Some (joined (width_of (kind_of b)) x y))

  -- the names that a location may have; None behind a pointer
  pub pattern : Cells → Left → Option (List Step)
  pattern cs (Cell p n) = option_map (λ c. steps_of c.name) (slice_get cs n)
  pattern cs (Prefix p name) = Some (steps_of name)
  pattern cs (Null p) = None
  pattern cs (Follow p soft l) = None
  pattern cs (Member l name) = grown (pattern cs l) (Named name)
  pattern cs (Index l size e) = grown (pattern cs l) (index_step size (kind_of e) (static cs e))

abbrev pub is_true : ℕ → Bool
is_true zero = false
is_true (suc n) = true

-- the one way that an `if` with a static condition goes
abbrev pub goes : Cells → Term → Option Bool
goes cs t = option_map is_true (static cs t)
