-- What is noted of members that statements may move. This project's own.
use Rattle.std.specs.Prelude.{◌≡◌, Bool, ◌&&◌, ◌||◌, nat_eq, List, is_some}
use Rattle.std.specs.Map.{lookup}
use Rattle.scc_elab_spec.specs.Types.{Place}
use Rattle.scc_inline_cells.specs.declared.locations.MemberOf.{MemberOf}
use Rattle.scc_inline_cells.specs.declared.moving.Moving.{Moving}
use Rattle.scc_inline_cells.specs.Moved.{among}

abbrev pub same_key : MemberOf → MemberOf → Bool
same_key m k = nat_eq m.class k.class && nat_eq m.member k.member

abbrev pub moves : Moving → MemberOf → Bool
moves t m = is_some (lookup (same_key m) t.members.entries)

-- what is noted, and what is still to be
abbrev pub noted : Moving → List Place → MemberOf → Bool
noted t ps m = moves t m || among m ps

-- just these are noted further
abbrev pub Adds : Moving → Moving → List Place → Type 0
Adds old new ps = (m : MemberOf) → moves new m ≡ noted old ps m
