-- Elements under indices that aren't static, worked by hand: an array of vectors, and a method that reads an element of an array.
use Rattle.std.specs.Prelude.{ℕ, false, List, [], ◌∷◌, Option, None, option_map}
use Rattle.scc_bits_kinds.specs.declared.kind.Kind.TheVariants as kind
use Rattle.scc_semantics.specs.Location.{Part}
use Rattle.scc_semantics.specs.Location as location
use Rattle.scc_core_spec.specs.Term.{Term, Load, Read, Left, Index}
use Rattle.scc_core_spec.specs.Term as term
use Rattle.scc_core_spec.specs.Code.{End, Block}
use Rattle.scc_core_spec.specs.Program.{Cell, Vector, Input, Output, Variable, Process, Program}
use Rattle.scc_core_spec.specs.Named.{elements}
use Rattle.scc_core_spec.specs.Static.{pattern}
use Rattle.scc_core_spec.specs.Fold.{element_of, unknown}
use Rattle.scc_core_spec.specs.Worked.{here, named, cell, put}

-- a variable that stands at a path
abbrev pub stands_at : List Part → Cell
stands_at path = record { name = record { path = path; own = None; indices = [] }; kind = kind.Uint 8; sort = Variable 0 false; place = here }

abbrev pub in_vector : ℕ → ℕ → Cell
in_vector i j = stands_at (location.Member 5 ∷ location.Element i ∷ location.Element j ∷ [])

-- `sc_in<sc_uint<2> > i; sc_in<sc_uint<2> > j; sc_vector<sc_uint<8> > v[2];`, each vector with 4 elements
abbrev pub vector_cells : List Cell
vector_cells = cell 0 (kind.Uint 2) Input ∷ cell 1 (kind.Uint 2) Input
    ∷ in_vector 0 0 ∷ in_vector 0 1 ∷ in_vector 0 2 ∷ in_vector 0 3 ∷ in_vector 1 0 ∷ in_vector 1 1 ∷ in_vector 1 2 ∷ in_vector 1 3 ∷ []

abbrev pub both_vectors : List Vector
both_vectors = record { path = location.Member 5 ∷ location.Element 0 ∷ []; size = 4 } ∷ record { path = location.Member 5 ∷ location.Element 1 ∷ []; size = 4 } ∷ []

abbrev pub input : ℕ → Term
input n = Read here (kind.Uint 2) (term.Cell here n)

-- an element of the vector at an index of v
abbrev pub element_behind : Term → Term → Left
element_behind i j = element_of vector_cells both_vectors (element_of vector_cells both_vectors (term.Prefix here (named 5)) 2 i) unknown j

abbrev pub elements_at : Left → Option ℕ
elements_at l = option_map elements (pattern vector_cells l)

-- `sc_in<sc_uint<2> > i; sc_out<sc_uint<8> > q; sc_uint<8> m[4];` and a method `q.write(m[i]);`
abbrev pub in_array : ℕ → Cell
in_array i = stands_at (location.Member 6 ∷ location.Element i ∷ [])

abbrev pub array_cells : List Cell
array_cells = cell 0 (kind.Uint 2) Input ∷ cell 1 (kind.Uint 8) Output ∷ in_array 0 ∷ in_array 1 ∷ in_array 2 ∷ in_array 3 ∷ []

-- a method that reads an element of m, of so many
abbrev pub choosing : ℕ → Process
choosing size = record {
  is_thread = false;
  name = named 9;
  place = record { file = 0; at = 7 };
  senses = 0 ∷ [];
  edge = None;
  reset = None;
  body = Block here (put 1 (Load here (kind.Uint 8) (Index (term.Prefix here (named 6)) size (input 0))) End) End;
}

abbrev pub choosing_of : ℕ → Program
choosing_of size = record { top = 8; cells = array_cells; vectors = []; processes = choosing size ∷ [] }
