-- Locations without indices, and code in which there are no others. This project's own.
use Rattle.std.specs.Prelude.{◌≡◌, ℕ, ◌<◌, Bool, true, false, not, ◌&&◌, ◌||◌, nat_eq, List, slice_get, Option, Some, None, is_some}
use Rattle.std.specs.List.{list_all}
use Rattle.scc_bits_kinds.specs.Kinds.{width_of}
use Rattle.scc_core.specs.declared.program.Cell.{Cell as Held}
use Rattle.scc_core_spec.specs.Code.{Code}
use Rattle.scc_core_spec.specs.Fit.{is_nil}
use Rattle.scc_core_spec.specs.Static.{Cells}
use Rattle.scc_core_spec.specs.Term.{Left, Cell, Prefix, Null, Follow, Member, Index, Pick, Whole, OneBit, Bits}
use Rattle.scc_core_spec.specs.Uses.{Act, acts, cells_of, width_at}

-- a front part of a name with members behind it; without a local it has no indices
abbrev pub is_front : Left → Bool
is_front (Cell p n) = false
is_front (Prefix p name) = is_nil name.indices || is_some name.own
is_front (Null p) = false
is_front (Follow p s l) = false
is_front (Member l n) = is_front l
is_front (Index l size e) = false

-- one such, or a cell by its number
abbrev pub is_plain : Left → Bool
is_plain (Cell p n) = true
is_plain (Prefix p name) = is_nil name.indices || is_some name.own
is_plain (Null p) = false
is_plain (Follow p s l) = false
is_plain (Member l n) = is_front l
is_plain (Index l size e) = false

-- all of a number, a range, or a bit of one that has more
abbrev pub is_plain_pick : Cells → Left → Pick → Bool
is_plain_pick cs l Whole = true
is_plain_pick cs l (OneBit e) = list_all (λ n. not (nat_eq (width_at cs n) 1)) (cells_of cs l)
is_plain_pick cs l (Bits h lo) = true

abbrev pub is_plain_write : Cells → Option (Left × Pick) → Bool
is_plain_write cs None = true
is_plain_write cs (Some w) = is_plain w.0 && is_plain_pick cs w.0 w.1

abbrev pub is_plain_act : Cells → Act → Bool
is_plain_act cs a = list_all (λ u. is_plain u.left) a.reads && is_plain_write cs a.writes

abbrev pub is_plain_code : Cells → Code → Bool
is_plain_code cs c = list_all (is_plain_act cs) (acts c)

-- widths stay below what ends of ranges are cut to
abbrev pub AreNarrow : List Held → Type 0
AreNarrow cells = (n : ℕ) (c : Held) → slice_get cells n ≡ Some c → width_of c.kind < 4294967295
