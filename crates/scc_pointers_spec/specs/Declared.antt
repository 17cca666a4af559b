-- Local pointers that are looked at behind their declaration alone. Where each of a body is, what `Freed` and `Unpointed` say of the body is one. This
-- project's own.
use Rattle.std.specs.Prelude.{ℕ, Bool, true, false, ◌&&◌, ◌||◌, not, List, [], ◌∷◌, Option, Some, None, option_and_then, is_some, slice_get}
use Rattle.scc_core_spec.specs.Term.{Term, Literal, Load, Read, Convert, Unary, Binary, Choose, Bit, Range, Join, Left, Cell, Prefix, Null, Follow, Member, Index, Pick, Whole, OneBit, Bits}
use Rattle.scc_core_spec.specs.Code.{Code, Declared, Assigned, End, Put, Aim, If, Block, Loop, Exit, Wait}
use Rattle.scc_core_spec.specs.Named.{cell_at}
use Rattle.scc_core_spec.specs.Program.{Program, Process}
use Rattle.scc_core_spec.specs.Resolved.{Leads, Tried, Made, Stopped, is_local_name, walked}
use Rattle.scc_core_spec.specs.Static.{pattern}
use Rattle.scc_core_spec.specs.Unpointed.{aimed, at_first, leading}

-- a cell that is no local, or is declared
abbrev pub is_known : Leads → Option ℕ → Bool
is_known s None = true
is_known s (Some n) = not (is_local_name (slice_get s.cells n)) || is_some (s.local n)

-- the pointer at a location without pointers
abbrev pub is_known_at : Leads → Left → Bool
is_known_at s l = is_known s (option_and_then (λ q. cell_at true 0 q s.cells) (pattern s.cells l))

abbrev pub is_known_behind : Leads → Tried (Option Left) → Bool
is_known_behind s (Made (Some l)) = is_known_at s l
is_known_behind s _ = true

abbrev mutual
  -- each pointer that an expression follows is known
  pub follows_known : Leads → Term → Bool
  follows_known s (Literal p k w) = true
  follows_known s (Load p k l) = walks_known s false l
  follows_known s (Read p k l) = walks_known s false l
  follows_known s (Convert p k e) = follows_known s e
  follows_known s (Unary p k o a) = follows_known s a
  follows_known s (Binary p k o a b) = follows_known s a && follows_known s b
  follows_known s (Choose p k t a b) = follows_known s t && (follows_known s a && follows_known s b)
  follows_known s (Bit p a e) = follows_known s a && follows_known s e
  follows_known s (Range p k a h l) = follows_known s a
  follows_known s (Join p k a b) = follows_known s a && follows_known s b

  -- so of a location, in a target or outside one
  pub walks_known : Leads → Bool → Left → Bool
  walks_known s soft (Cell p n) = true
  walks_known s soft (Prefix p n) = true
  walks_known s soft (Null p) = true
  walks_known s soft (Follow p own l) = walks_known s (soft || own) l && is_known_behind s (walked s (soft || own) l)
  walks_known s soft (Member l n) = walks_known s soft l
  walks_known s soft (Index l size e) = walks_known s soft l && follows_known s e

abbrev pub picks_known : Leads → Pick → Bool
picks_known s Whole = true
picks_known s (OneBit e) = follows_known s e
picks_known s (Bits h l) = true

-- where a target is refused nothing is looked at behind it
abbrev pub behind_target : Tried (Option Left) → (Option Left → Bool) → Bool
behind_target (Made o) f = f o
behind_target (Stopped r) f = true

-- each local pointer that a body looks at was declared before
abbrev pub is_declared_first : Leads → Code → Bool
is_declared_first s End = true
is_declared_first s (Put p l k e r) = walks_known s false l && (picks_known s k && (follows_known s e && is_declared_first s r))
is_declared_first s (Aim p (Declared n) t r) = walks_known s true t && behind_target (aimed s t) (λ o. is_declared_first (leading s n o) r)
is_declared_first s (Aim p (Assigned l) t r) = walks_known s false l
is_declared_first s (If p t a b r) = follows_known s t && (is_declared_first s a && (is_declared_first s b && is_declared_first s r))
is_declared_first s (Block p b r) = is_declared_first s b && is_declared_first s r
is_declared_first s (Loop p c b r) = is_declared_first s b && is_declared_first s r
is_declared_first s (Exit p n r) = is_declared_first s r
is_declared_first s (Wait p l n r) = is_declared_first s r

abbrev pub all_declared_first : Program → List Process → Bool
all_declared_first p [] = true
all_declared_first p (q ∷ qs) = is_declared_first (at_first p) q.body && all_declared_first p qs

-- so of each process
abbrev pub declares_first : Program → Bool
declares_first p = all_declared_first p p.processes
