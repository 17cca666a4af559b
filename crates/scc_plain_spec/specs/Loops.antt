-- Loops, and the loops that count (ISO C++ [stmt.iter]): each is a block with what stands before it and the loop, whose turns are blocks.
use Rattle.std.specs.Prelude.{ℕ, nat_eq, Bool, true, false, Option, Some, None, option_and_then, option_map, if◌then◌else◌}
use Rattle.scc_base.specs.declared.refusal.Place.{Place}
use Rattle.scc_bits_kinds.specs.declared.op.Op.{Op}
use Rattle.scc_bits_kinds.specs.declared.op.Op.TheVariants as op
use Rattle.scc_elab_spec.specs.Term.{Term, Load, Convert, Binary, Left, Local, Whole}
use Rattle.scc_elab_spec.specs.Program.{Code, End, Assign, If, Loop, Block, Exit, Count}
use Rattle.scc_plain_spec.specs.Room.{Writes, then_write}

abbrev pub is_compare : Op → Bool
is_compare op.Lt = true
is_compare op.Le = true
is_compare op.Gt = true
is_compare op.Ge = true
is_compare op.Ne = true
is_compare o = false

abbrev pub is_local : ℕ → Left → Bool
is_local n (Local p m) = nat_eq m n
is_local n l = false

abbrev pub is_counter : ℕ → Term → Bool
is_counter n (Load p k l) = is_local n l
is_counter n e = false

-- an operator with its right operand, the counter on the left
pub record By : Type 0 where
  pub op : Op
  pub right : Term

abbrev pub counter_by : ℕ → Term → Option By
counter_by n (Binary p k o a b) = if is_counter n a then Some (record { op = o; right = b }) else None
counter_by n e = None

-- The start: nothing but the counter's first value stands before the loop.
abbrev pub start_of : ℕ → Code → Option Term
start_of n (Assign p l Whole e End) = if is_local n l then Some e else None
start_of n c = None

abbrev pub comparing : By → Option By
comparing b = if is_compare b.op then Some b else None

-- the comparison in the loop's test
abbrev pub compare_of : ℕ → Code → Option By
compare_of n (If p t a b End) = option_and_then comparing (counter_by n t)
compare_of n c = None

-- the change behind a turn, converted or not
abbrev pub change_in : ℕ → Term → Option By
change_in n (Convert p k e) = counter_by n e
change_in n e = counter_by n e

abbrev pub change_of : ℕ → Code → Option By
change_of n (Assign p l Whole e End) = if is_local n l then change_in n e else None
change_of n c = None

abbrev pub counted : ℕ → Code → Code → Code → Option Count
counted n before test step = option_and_then (λ start. option_and_then (λ c. option_map (λ t. record { counter = n; start = start; compare = c.op; bound = c.right; step_op = t.op; step = t.right }) (change_of n step)) (compare_of n test)) (start_of n before)

-- leaves a loop where its condition doesn't hold
abbrev pub loop_test : Place → Term → Writes
loop_test p t n c = If p t End (Exit p 0 End) c

abbrev pub turn : Place → Writes → Writes
turn p s n c = Block p (s n End) c

abbrev pub looped : Place → Option Count → Writes → Writes
looped p count body n c = Block p (Loop p count (body n End) End) c

-- a `for`: `one` is whether its head declares one variable
abbrev pub for_loop : Place → Bool → ℕ → Writes → Writes → Writes → Writes → Writes
for_loop p one counter before test body step n c = Block p (before n (Loop p (if one then counted counter (before n End) (test n End) (step n End) else None) (then_write test (then_write body step) n End) End)) c
