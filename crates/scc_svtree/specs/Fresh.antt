-- A combinational block gives each variable that it assigns a whole value first, at its own level, so that it keeps no
-- old value on any path (IEEE 1800-2017, 9.2.2.2).
use Rattle.std.specs.Prelude.{◌≡◌, ℕ, nat_eq, Bool, true, false, not, ◌||◌}
use Rattle.scc_svtree.specs.declared.expr.SvLeft.{SvLeft}
use Rattle.scc_svtree.specs.declared.expr.SvLeft.TheVariants.{Whole, Bit, Range}
use Rattle.scc_svtree.specs.Code.{Code, End, Assign, If, Case}
use Rattle.scc_svtree.specs.Mentions.{reads, code_reads, arms_read, assigns, arms_assign}

-- whatever the first holds of is among the second
abbrev pub Among : (ℕ → Bool) → (ℕ → Bool) → Type 0
Among p q = (v : ℕ) → p v ≡ true → q v ≡ true

-- what has a value after an assignment: a whole one gives its variable one
abbrev pub ready_after : SvLeft → (ℕ → Bool) → ℕ → Bool
ready_after (Whole u) ready v = nat_eq u.0 v || ready v
ready_after (Bit u at) ready v = ready v
ready_after (Range u h l) ready v = ready v

-- what a left side needs: a part of a variable needs the rest of it
abbrev pub left_needs : SvLeft → ℕ → Bool
left_needs (Whole u) v = false
left_needs (Bit u at) v = nat_eq u.0 v
left_needs (Range u h l) v = nat_eq u.0 v

-- Each statement of the block's own level mentions only what is ready, but for the whole left side of an assignment.
abbrev pub StartsReady : (ℕ → Bool) → Code → Type 0
StartsReady ready End = Unit {0}
StartsReady ready (Assign l e rest) = Among (reads e) ready × Among (left_needs l) ready × StartsReady (ready_after l ready) rest
StartsReady ready (If c then_part else_part rest) =
    Among (reads c) ready × Among (code_reads then_part) ready × Among (assigns then_part) ready × Among (code_reads else_part) ready × Among (assigns else_part) ready × StartsReady ready rest
StartsReady ready (Case e arms rest) = Among (reads e) ready × Among (arms_read arms) ready × Among (arms_assign arms) ready × StartsReady ready rest

-- At its begin what the block doesn't assign is ready.
abbrev pub IsFresh : Code → Type 0
IsFresh c = StartsReady (λ v. not (assigns c v)) c
