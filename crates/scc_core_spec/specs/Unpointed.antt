-- Resolved processes: statements in their order, each with its left side before its value. A pointer that is declared leads where it is given,
-- and an empty block stands in its place. This project's own.
use Rattle.std.specs.Prelude.{ℕ, Bool, true, false, ◌&&◌, nat_eq, Option, Some, None, option_map, unwrap_or, is_some, not, slice_get, if◌then◌else◌}
use Rattle.scc_base.specs.declared.refusal.Place.{Place}
use Rattle.scc_base.specs.declared.refusal.Refusal.{Refusal}
use Rattle.scc_base.specs.declared.code.Code.{Code as Reason}
use Rattle.scc_base.specs.declared.code.Code.TheVariants as reason
use Rattle.scc_core_spec.specs.Term.{Left, Pick, Whole, OneBit, Bits, place_at}
use Rattle.scc_core_spec.specs.Code.{Code, Count, Declared, Assigned, End, Put, Aim, If, Block, Loop, Exit, Wait}
use Rattle.scc_core_spec.specs.Program.{Program, is_pointer}
use Rattle.scc_core_spec.specs.Program as program
use Rattle.scc_core_spec.specs.Named.{is_open, chooses_object}
use Rattle.scc_core_spec.specs.Static.{pattern}
use Rattle.scc_core_spec.specs.First.{refused}
use Rattle.scc_core_spec.specs.Resolved.{Leads, Tried, Made, Stopped, and_made, made_map, resolved, walked, looked, sure, behind}

abbrev pub resolved_pick : Leads → Pick → Tried Pick
resolved_pick s Whole = Made Whole
resolved_pick s (OneBit e) = made_map OneBit (resolved s e)
resolved_pick s (Bits h l) = Made (Bits h l)

abbrev pub resolved_left : Leads → Left → Pick → (Left → Pick → Tried Code) → Tried Code
resolved_left s l k f = and_made (walked s false l) (λ o. sure (place_at l) o (λ m. and_made (resolved_pick s k) (λ k. and_made (looked s m) (λ m. f m k))))

-- a target: every index of it is static
abbrev pub aimed : Leads → Left → Tried (Option Left)
aimed s l = and_made (walked s true l) (λ o. behind o (λ m.
    if unwrap_or (option_map chooses_object (pattern s.cells m)) false then Stopped (refused reason.StaticIndex (place_at m))
    else (if unwrap_or (option_map is_open (pattern s.cells m)) true then Stopped (refused reason.StaticIndex (place_at l)) else Made (Some m))))

abbrev pub is_local_pointer : Option program.Cell → Bool
is_local_pointer None = false
is_local_pointer (Some c) = is_some c.name.own && is_pointer c.sort

-- a declaration is the first of its pointer, which is a local
abbrev pub declares : Leads → ℕ → Bool
declares s n = is_local_pointer (slice_get s.cells n) && not (is_some (s.local n))

abbrev pub leading : Leads → ℕ → Option Left → Leads
leading s n t = record { cells = s.cells; vectors = s.vectors; local = λ m. if nat_eq m n then Some t else s.local m }

-- a pointer that is assigned (E511); null that is followed at the same place, by the pointer's own location, comes first
abbrev pub same_place : Place → Place → Bool
same_place p q = nat_eq p.file q.file && nat_eq p.at q.at

abbrev pub is_null_there : Place → Refusal → Bool
is_null_there p r = is_empty_pointer r.code && same_place r.place p
  where
    is_empty_pointer : Reason → Bool
    is_empty_pointer reason.EmptyPointer = true
    is_empty_pointer _ = false

abbrev pub of_assigned : Place → Tried (Option Left) → Refusal
of_assigned p (Stopped r) = if is_null_there p r then r else refused reason.PointerAssigned p
of_assigned p (Made o) = refused reason.PointerAssigned p

-- What a count says stands in statements too, where it is looked at.
abbrev pub or_same : {A : Type 0} → A → Tried A → A
or_same a (Made b) = b
or_same a (Stopped r) = a

abbrev pub resolved_count : Leads → Count → Count
resolved_count s c = record { cell = c.cell; start = or_same c.start (resolved s c.start); compare = c.compare; bound = or_same c.bound (resolved s c.bound); step_op = c.step_op; step = or_same c.step (resolved s c.step) }

abbrev pub unpointed : Leads → Code → Tried Code
unpointed s End = Made End
unpointed s (Put p l k e r) = resolved_left s l k (λ l k. and_made (resolved s e) (λ e. made_map (Put p l k e) (unpointed s r)))
unpointed s (Aim p (Declared n) t r) = and_made (aimed s t) (λ o. if declares s n then made_map (Block p End) (unpointed (leading s n o) r) else Stopped (refused reason.PointerAssigned p))
unpointed s (Aim p (Assigned l) t r) = Stopped (of_assigned p (walked s false l))
unpointed s (If p t a b r) = and_made (resolved s t) (λ t. and_made (unpointed s a) (λ a. and_made (unpointed s b) (λ b. made_map (If p t a b) (unpointed s r))))
unpointed s (Block p b r) = and_made (unpointed s b) (λ b. made_map (Block p b) (unpointed s r))
unpointed s (Loop p c b r) = and_made (unpointed s b) (λ b. made_map (Loop p (option_map (resolved_count s) c) b) (unpointed s r))
unpointed s (Exit p n r) = made_map (Exit p n) (unpointed s r)
unpointed s (Wait p l n r) = made_map (Wait p l n) (unpointed s r)

-- at the beginning of a process no local pointer leads anywhere yet
abbrev pub at_first : Program → Leads
at_first p = record { cells = p.cells; vectors = p.vectors; local = λ n. None }
