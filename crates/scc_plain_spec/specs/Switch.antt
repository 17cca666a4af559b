-- `switch` (ISO C++ [stmt.switch]): a local variable holds the selector; blocks nest, one for each label round what stands before it. The innermost one begins with the
-- tests, each of which leaves the blocks inside that behind which its label's statements stand.
use Rattle.std.specs.Prelude.{ℕ, suc, ◌+◌, ◌-◌, Bool, true, false, List, [], ◌∷◌, find, Option, Some, None, option_map, if◌then◌else◌}
use Rattle.std.specs.Ordering.{int_eq}
use Rattle.scc_base.specs.declared.refusal.Place.{Place}
use Rattle.scc_base.specs.declared.code.Code.TheVariants as reason
use Rattle.scc_bits_kinds.specs.declared.kind.Kind.{Kind}
use Rattle.scc_bits_kinds.specs.declared.op.Op.TheVariants as op
use Rattle.scc_bits.specs.Value.{Number, exactly}
use Rattle.scc_templates_spec.specs.Walked.{Walked, pure, fault_beside, and_walk}
use Rattle.scc_elab_spec.specs.Term.{Term, Load, Local}
use Rattle.scc_elab_spec.specs.Program.{End, If, Block, Exit}
use Rattle.scc_templates_spec.specs.Statements.{Stmts, Declare, Items, NoItems, Case, Otherwise, Between}
use Rattle.scc_plain_spec.specs.Drafts.{drafted, literal, operate}
use Rattle.scc_plain_spec.specs.Room.{Writes, nothing, then_write, Known}
use Rattle.scc_tree.specs.declared.local.Hold.{Hold}
use Rattle.scc_tree.specs.declared.local.Hold.TheVariants as hold

-- what stands round a statement: the blocks that `break` and `continue` leave, counted outward, and whether a call is late
pub record Flow : Type 0 where
  pub leave : Option ℕ
  pub next : Option ℕ
  pub late : Bool

abbrev pub start : Flow
start = record { leave = None; next = None; late = false }

-- in the block of a loop's turn
abbrev pub in_turn : Flow → Flow
in_turn f = record { leave = Some 1; next = Some 0; late = f.late }

-- where so many labels are still to come
abbrev pub in_cases : ℕ → Flow → Flow
in_cases left f = record { leave = Some left; next = option_map (λ n. n + (left + 1)) f.next; late = f.late }

-- a label that was met: of a number, or `default`
pub record Label : Type 0 where
  pub value : Option Number
  pub place : Place

abbrev pub same_value : Option Number → Option Number → Bool
same_value None None = true
same_value (Some a) (Some b) = int_eq (exactly a) (exactly b)
same_value a b = false

-- how far the braces of a `switch` are walked
pub record Cases : Type 0 where
  -- what is known up to the next label, and behind it: pointers and references are known up to the next label alone
  pub known : List Known
  pub numbers : List Known
  -- the labels so far, latest first, and how many are still to come
  pub labels : List Label
  pub met : ℕ
  pub left : ℕ
  pub tests : Writes
  pub default : Option ℕ
  -- what stands in the blocks so far, behind what the innermost one begins with
  pub blocks : Writes → Writes

abbrev pub labels_in : Items → ℕ
labels_in NoItems = 0
labels_in (Case p e is) = suc (labels_in is)
labels_in (Otherwise p is) = suc (labels_in is)
labels_in (Between s is) = labels_in is

abbrev pub no_cases : List Known → Items → Cases
no_cases ks is = record { known = ks; numbers = ks; labels = []; met = 0; left = labels_in is; tests = nothing; default = None; blocks = λ head. head }

-- an equal label stands before it (E302)
abbrev pub unless_met : Cases → Label → Walked (Unit {0})
unless_met c l = by_first (find (λ m. same_value m.value l.value) c.labels)
  where
    by_first : Option Label → Walked (Unit {0})
    by_first None = pure tt
    by_first (Some m) = fault_beside reason.DuplicateName l.place m.place

-- the selector at a label of a number, which isn't converted
abbrev pub test : Place → ℕ → Kind → Place → Number → Walked Term
test p local k e n = and_walk (operate p p op.Eq (drafted p (Load p k (Local p local))) (literal e n)) (λ x. pure x.term)

abbrev pub leaving : Place → ℕ → Term → Writes
leaving p n t m c = If p t (Exit p n End) End c

-- behind a label: what stood before it is one block more
abbrev pub behind_label : Cases → Label → Writes → Option ℕ → Cases
behind_label c l tests default = record {
  known = c.numbers;
  numbers = c.numbers;
  labels = l ∷ c.labels;
  met = c.met + 1;
  left = c.left - 1;
  tests = then_write c.tests tests;
  default = default;
  blocks = λ head n k. Block l.place (c.blocks head n End) k;
}

abbrev pub at_case : Cases → Place → Number → Term → Cases
at_case c p v t = behind_label c (record { value = Some v; place = p }) (leaving p c.met t) c.default

abbrev pub at_default : Cases → Place → Cases
at_default c p = behind_label c (record { value = None; place = p }) nothing (Some c.met)

-- the names that a statement declares in the braces, its variables having numbers from one on
abbrev pub is_direct : Hold → Bool
is_direct hold.Direct = true
is_direct h = false

abbrev pub declared_from : ℕ → Stmts → List Known → List Known
declared_from n (Declare l r) ks = declared_from (suc n) r (record { name = l.name; local = n } ∷ ks)
declared_from n r ks = ks

abbrev pub numbers_from : ℕ → Stmts → List Known → List Known
numbers_from n (Declare l r) ks = numbers_from (suc n) r (if is_direct l.hold then record { name = l.name; local = n } ∷ ks else ks)
numbers_from n r ks = ks

abbrev pub behind_stmts : Cases → ℕ → Stmts → Writes → Cases
behind_stmts c n s x = record { known = declared_from n s c.known; numbers = numbers_from n s c.numbers; labels = c.labels; met = c.met; left = c.left; tests = c.tests; default = c.default; blocks = λ head. then_write (c.blocks head) x }

-- all blocks, in a block: behind the tests the one of `default` is left, or all are
abbrev pub exit_number : Cases → ℕ
exit_number c = by_default c.default
  where
    by_default : Option ℕ → ℕ
    by_default None = c.met
    by_default (Some n) = n

abbrev pub switched : Place → Cases → Writes
switched p c n k = Block p (c.blocks (then_write c.tests (λ m j. Exit p (exit_number c) j)) n End) k
