-- Statements of any function that hold no others (ISO C++ [stmt.dcl], [stmt.return]; IEEE 1666-2011, 5.2.18).
use Rattle.std.specs.Prelude.{ℕ, nat_eq, nat_lt, nat_le, Bool, true, false, not, ◌&&◌, List, ◌∷◌, Option, Some, None, if◌then◌else◌}
use Rattle.scc_base.specs.declared.refusal.Place.{Place}
use Rattle.scc_base.specs.declared.code.Code.TheVariants as reason
use Rattle.scc_bits_kinds.specs.declared.kind.Kind.{Kind}
use Rattle.scc_templates_spec.specs.Walked.{Walked, pure, fault, and_walk}
use Rattle.scc_bits_kinds.specs.declared.op.Op.{Op}
use Rattle.scc_templates_spec.specs.World.{World}
use Rattle.scc_elab_spec.specs.Term as term
use Rattle.scc_elab_spec.specs.Term.{Left, Whole}
use Rattle.scc_elab_spec.specs.Program.{Reach, Direct, Pointer, Reference, Assign, Point, Declare, Return, Wait}
use Rattle.scc_templates_spec.specs.Tree.{Tree, place_of}
use Rattle.scc_templates_spec.specs.Statements.{Local, Simple}
use Rattle.scc_templates_spec.specs.Statements as stmts
use Rattle.scc_plain_spec.specs.Numbers.{int, number, small}
use Rattle.scc_plain_spec.specs.Types.{Base, OfNumber}
use Rattle.scc_templates_spec.specs.Source.{Source}
use Rattle.scc_plain_spec.specs.Scope.{Answer}
use Rattle.scc_plain_spec.specs.Calls.{constant, target, is_zero}
use Rattle.scc_plain_spec.specs.Drafts.{literal, converted}
use Rattle.scc_plain_spec.specs.Forms.{Form, Shape, form_of, is_direct}
use Rattle.scc_plain_spec.specs.Room.{Around, Known, Writes, scope_in, Step, done, found, and_step, declare, written}
use Rattle.scc_plain_spec.specs.Shapes.{shape}
use Rattle.scc_plain_spec.specs.Expressions.{meant, value}
use Rattle.scc_plain_spec.specs.Simple.{assigned, left_kind, combined, store, assign, called, last_args}

-- a local variable is a number, a pointer or a reference, or an array of numbers or pointers
abbrev pub may_be_local : Form → Bool
may_be_local f = by_reach f.reach
  where
    by_base : Base → Bool
    by_base (OfNumber k) = not f.vector
    by_base b = false

    by_reach : Reach → Bool
    by_reach Direct = by_base f.base
    by_reach Pointer = true
    by_reach Reference = nat_eq f.dims 0

-- statements, and the name that is known behind them
pub record Declaring : Type 0 where
  pub writes : Writes
  pub known : Known

module _ (s : Source) (w : World Answer) (a : Around) where
  abbrev pub checked : Place → Shape → Walked Shape
  checked p h = if may_be_local (form_of h) then pure h else fault reason.Mismatch p

  -- a first value, of a variable that is no array (E304)
  abbrev pub unless_array : {A : Type 0} → Place → Form → A → Walked A
  unless_array p f x = if nat_eq f.dims 0 then pure x else fault reason.Mismatch p

  abbrev pub number_begun : List Known → Bool → Place → ℕ → Form → Kind → Tree → Step Writes
  number_begun ks late p n f k e = and_step (value s w a ks late e) (λ x. and_step (found (and_walk (unless_array p f x) (converted k))) (λ y. written (λ m c. Assign p (term.Local p n) Whole y.term c)))

  abbrev pub target_begun : List Known → Bool → Place → ℕ → Form → Tree → Step Writes
  target_begun ks late p n f e = and_step (meant s w a ks late e) (λ m. and_step (found (and_walk (target (place_of e) a.owner f (is_zero e) m) (unless_array p f))) (λ t. written (λ m c. Point p (term.Local p n) t c)))

  abbrev pub begun : List Known → Bool → Place → ℕ → Form → Option Tree → Step Writes
  begun ks late p n f None = written (λ m c. Declare p n c)
  begun ks late p n f (Some e) = if is_direct f then by_base f.base else target_begun ks late p n f e
    where
      by_base : Base → Step Writes
      by_base (OfNumber k) = number_begun ks late p n f k e
      by_base b = target_begun ks late p n f e

  -- a declared variable, which is known in its own value
  abbrev pub local : List Known → Bool → Local → Step Declaring
  local ks late l = and_step (found (and_walk (shape s w (scope_in a ks) l.type l.hold l.sizes) (checked l.place))) (λ h.
      and_step (declare (record { name = l.name; place = l.place; shape = h })) (λ n.
      and_step (begun (record { name = l.name; local = n } ∷ ks) late l.place n (form_of h) l.value) (λ x.
      done (record { writes = x; known = record { name = l.name; local = n } }))))

  module _ (ks : List Known) (late : Bool) where
    -- In `++`, `--` and `op=` no call stands on the left side.
    abbrev pub simple : Simple → Step Writes
    simple (stmts.Assign p l o at e) = and_step (and_step (meant s w a ks (has_op o) l) (λ m. found (assigned p m))) (assign s w a ks late p (place_of l) o at e)
      where
        has_op : Option Op → Bool
        has_op None = late
        has_op (Some o) = true
    simple (stmts.Step p e o at) = and_step (and_step (meant s w a ks true e) (λ m. found (assigned p m))) (λ l. and_step (found (left_kind p l)) (λ k.
        and_step (found (combined (place_of e) l (Some o) at (literal at (number int 1)))) (store p l k)))
    simple (stmts.Calls p e) = and_step (meant s w a ks late e) (called s w a ks late p (last_args e))

    -- `return`, with a value exactly where the function has a result (E304)
    abbrev pub give : Place → Option Tree → Option Kind → Step Writes
    give p None None = written (λ n c. Return p None c)
    give p (Some e) (Some k) = and_step (and_step (value s w a ks late e) (λ x. found (converted k x))) (λ x. written (λ n c. Return p (Some x.term) c))
    give p None (Some k) = found (fault reason.Mismatch p)
    give p (Some e) None = and_step (value s w a ks late e) (λ x. found (fault reason.Mismatch p))

    -- `wait`, for 1 to 65,535 edges (E306)
    abbrev pub waits : Place → Option ℕ → Walked ℕ
    waits p None = fault reason.ConstRange p
    waits p (Some n) = if nat_lt 0 n && nat_le n 65535 then pure n else fault reason.ConstRange p

    abbrev pub edges : Place → Option Tree → Walked ℕ
    edges p None = pure 1
    edges p (Some e) = and_walk (constant s w a ks late p e) (λ n. waits (place_of e) (small n))

    abbrev pub wait : Place → Option Tree → Step Writes
    wait p e = and_step (found (edges p e)) (λ n. written (λ m c. Wait p n c))
