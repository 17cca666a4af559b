-- A core without pointers: the cells that are no pointers keep their order and are numbered anew. This project's own.
use Rattle.std.specs.Prelude.{ℕ, Bool, not, List, [], ◌∷◌, map, filter, length, take, option_map}
use Rattle.scc_core_spec.specs.Term.{Term, Literal, Load, Read, Convert, Unary, Binary, Choose, Bit, Range, Join, Left, Cell, Prefix, Null, Follow, Member, Index, Pick, Whole, OneBit, Bits}
use Rattle.scc_core_spec.specs.Code.{Code, Count, Pointed, Declared, Assigned, End, Put, Aim, If, Block, Loop, Exit, Wait}
use Rattle.scc_core_spec.specs.Program.{Process, Program, Edge, Reset, is_pointer}
use Rattle.scc_core_spec.specs.Program as program
use Rattle.scc_core_spec.specs.Static.{Cells}
use Rattle.scc_core_spec.specs.Resolved.{Tried, Made, and_made, made_map}
use Rattle.scc_core_spec.specs.Unpointed.{unpointed, at_first}

abbrev pub is_kept_cell : program.Cell → Bool
is_kept_cell c = not (is_pointer c.sort)

-- so many cells before it are no pointers
abbrev pub new_number : Cells → ℕ → ℕ
new_number cs n = length (filter is_kept_cell (take n cs))

abbrev mutual
  pub renamed : (ℕ → ℕ) → Term → Term
  renamed f (Literal p k w) = Literal p k w
  renamed f (Load p k l) = Load p k (renamed_left f l)
  renamed f (Read p k l) = Read p k (renamed_left f l)
  renamed f (Convert p k e) = Convert p k (renamed f e)
  renamed f (Unary p k o a) = Unary p k o (renamed f a)
  renamed f (Binary p k o a b) = Binary p k o (renamed f a) (renamed f b)
  renamed f (Choose p k t a b) = Choose p k (renamed f t) (renamed f a) (renamed f b)
  renamed f (Bit p a e) = Bit p (renamed f a) (renamed f e)
  renamed f (Range p k a h l) = Range p k (renamed f a) h l
  renamed f (Join p k a b) = Join p k (renamed f a) (renamed f b)

  pub renamed_left : (ℕ → ℕ) → Left → Left
  renamed_left f (Cell p n) = Cell p (f n)
  renamed_left f (Prefix p n) = Prefix p n
  renamed_left f (Null p) = Null p
  renamed_left f (Follow p s l) = Follow p s (renamed_left f l)
  renamed_left f (Member l n) = Member (renamed_left f l) n
  renamed_left f (Index l size e) = Index (renamed_left f l) size (renamed f e)

abbrev pub renamed_pick : (ℕ → ℕ) → Pick → Pick
renamed_pick f Whole = Whole
renamed_pick f (OneBit e) = OneBit (renamed f e)
renamed_pick f (Bits h l) = Bits h l

abbrev pub renamed_count : (ℕ → ℕ) → Count → Count
renamed_count f c = record { cell = f c.cell; start = renamed f c.start; compare = c.compare; bound = renamed f c.bound; step_op = c.step_op; step = renamed f c.step }

abbrev pub renamed_to : (ℕ → ℕ) → Pointed → Pointed
renamed_to f (Declared n) = Declared (f n)
renamed_to f (Assigned l) = Assigned (renamed_left f l)

abbrev pub renamed_code : (ℕ → ℕ) → Code → Code
renamed_code f End = End
renamed_code f (Put p l k e r) = Put p (renamed_left f l) (renamed_pick f k) (renamed f e) (renamed_code f r)
renamed_code f (Aim p to t r) = Aim p (renamed_to f to) (renamed_left f t) (renamed_code f r)
renamed_code f (If p t a b r) = If p (renamed f t) (renamed_code f a) (renamed_code f b) (renamed_code f r)
renamed_code f (Block p b r) = Block p (renamed_code f b) (renamed_code f r)
renamed_code f (Loop p c b r) = Loop p (option_map (renamed_count f) c) (renamed_code f b) (renamed_code f r)
renamed_code f (Exit p n r) = Exit p n (renamed_code f r)
renamed_code f (Wait p l n r) = Wait p l n (renamed_code f r)

abbrev pub renamed_edge : (ℕ → ℕ) → Edge → Edge
renamed_edge f e = record { cell = f e.cell; rising = e.rising }

abbrev pub renamed_reset : (ℕ → ℕ) → Reset → Reset
renamed_reset f r = record { cell = f r.cell; level = r.level; asynchronous = r.asynchronous }

abbrev pub renamed_process : (ℕ → ℕ) → Process → Code → Process
renamed_process f p body = record { is_thread = p.is_thread; name = p.name; place = p.place; senses = map f p.senses; edge = option_map (renamed_edge f) p.edge; reset = option_map (renamed_reset f) p.reset; body = renamed_code f body }

-- the processes in order, or what is refused of the first that is refused
abbrev pub all_unpointed : Program → List Process → Tried (List Process)
all_unpointed p [] = Made []
all_unpointed p (q ∷ qs) = and_made (unpointed (at_first p) q.body) (λ body. made_map (λ more. renamed_process (new_number p.cells) q body ∷ more) (all_unpointed p qs))

abbrev pub resolved_program : Program → Tried Program
resolved_program p = made_map (λ processes. record { top = p.top; cells = filter is_kept_cell p.cells; vectors = p.vectors; processes = processes }) (all_unpointed p p.processes)
