-- Assignments, `++` and `--`, and calls as statements (ISO C++ [expr.ass], [expr.pre.incr], [expr.call]; IEEE 1666-2011, 4.2, 6.4, 6.8, 6.12).
use Rattle.std.specs.Prelude.{ℕ, nat_eq, Bool, true, false, not, ◌&&◌, ◌||◌, List, [], ◌∷◌, Option, Some, None, is_some, if◌then◌else◌}
use Rattle.scc_base.specs.declared.refusal.Place.{Place}
use Rattle.scc_base.specs.declared.code.Code.TheVariants as reason
use Rattle.scc_bits_kinds.specs.declared.kind.Kind.{Kind}
use Rattle.scc_bits_kinds.specs.declared.op.Op.{Op}
use Rattle.scc_templates_spec.specs.Walked.{Walked, pure, fault, and_walk}
use Rattle.scc_templates_spec.specs.World.{World}
use Rattle.scc_elab_spec.specs.Term.{Left}
use Rattle.scc_elab_spec.specs.Program.{Pointer, Bind, Make, Point, Write, Assign}
use Rattle.scc_templates_spec.specs.Tree.{Tree, Text, Call, Trees, Nil, Cons, place_of}
use Rattle.scc_templates_spec.specs.Tree as tree
use Rattle.scc_plain_spec.specs.Types.{Base, OfNumber, OutPort, OfSignal}
use Rattle.scc_templates_spec.specs.Source.{Source}
use Rattle.scc_plain_spec.specs.Scope.{Answer}
use Rattle.scc_plain_spec.specs.Drafts.{Draft, converted, operate}
use Rattle.scc_plain_spec.specs.Forms.{Form, is_pointer, is_port, Taken, AllOf, BitsOf, Loc, pick_in, value_at, Subject, OfDraft, OfLoc}
use Rattle.scc_plain_spec.specs.Meant.{Meant, Stands, Done, location, is_call}
use Rattle.scc_plain_spec.specs.Room.{Around, Known, Writes, nothing, base_number, Step, done, found, and_step, written}
use Rattle.scc_plain_spec.specs.Calls.{target, is_zero}
use Rattle.scc_plain_spec.specs.Expressions.{meant, any, value}
use Rattle.scc_plain_spec.specs.Making.{made}

-- what is assigned: one thing, or a pointer (E304)
abbrev pub assigned : Place → Meant → Walked Loc
assigned p (Stands l) = if nat_eq l.form.dims 0 && (not l.form.vector || is_pointer l.form) then pure l else fault reason.Mismatch p
assigned p m = fault reason.Mismatch p

abbrev pub taken_kind : Kind → Taken → Kind
taken_kind k AllOf = k
taken_kind k (BitsOf pick j) = j

-- the kind of what is assigned as a number; an input isn't written (E304)
abbrev pub left_kind : Place → Loc → Walked Kind
left_kind p l = if is_pointer l.form then fault reason.Mismatch p else by_base l.form.base
  where
    by_base : Base → Walked Kind
    by_base (OfNumber k) = pure (taken_kind k l.taken)
    by_base (OutPort k) = pure k
    by_base (OfSignal k) = pure k
    by_base b = fault reason.Mismatch p

-- a number is assigned, a port or signal is asked to take the value
abbrev pub stored : Place → Loc → Draft → Writes
stored p l x = by_base l.form.base
  where
    by_base : Base → Writes
    by_base (OfNumber k) n c = Assign p l.left (pick_in l.taken) x.term c
    by_base b n c = Write p l.left x.term c

abbrev pub store : Place → Loc → Kind → Draft → Step Writes
store p l k x = and_step (found (converted k x)) (λ y. written (stored p l y))

-- `left op x`, an expression at the left side
abbrev pub combined : Place → Loc → Option Op → Place → Draft → Walked Draft
combined left l None at x = pure x
combined left l (Some o) at x = and_walk (value_at left l) (λ old. operate left at o old x)

abbrev pub pointing : Form → Form
pointing f = record { base = f.base; reach = Pointer; vector = f.vector; dims = 0 }

-- the arguments of the call that an expression is
abbrev pub last_args : Tree → Trees
last_args (Call p of xs) = xs
last_args t = Nil

module _ (s : Source) (w : World Answer) (a : Around) (ks : List Known) (late : Bool) where
  abbrev pub right_side : Tree → Step Draft
  right_side (tree.Make p t xs) = and_step (any s w a ks late xs) (λ u. found (fault reason.Mismatch p))
  right_side e = value s w a ks late e

  -- a pointer is given what it leads to, or a new object
  abbrev pub point : Place → Loc → Tree → Step Writes
  point p l (tree.Make at t xs) = and_step (made s w a ks late xs at t (pointing l.form)) (λ as_given. written (λ n c. Make p l.left (base_number n l.form.base) as_given c))
  point p l e = and_step (meant s w a ks late e) (λ m. and_step (found (target (place_of e) a.owner (pointing l.form) (is_zero e) m)) (λ t. written (λ n c. Point p l.left t c)))

  abbrev pub number_assigned : Place → Place → Loc → Option Op → Place → Tree → Step Writes
  number_assigned p left l o at e = and_step (found (left_kind p l)) (λ k. and_step (right_side e) (λ x. and_step (found (combined left l o at x)) (store p l k)))

  abbrev pub assign : Place → Place → Option Op → Place → Tree → Loc → Step Writes
  assign p left o at e l = if is_pointer l.form && not (is_some o) then point p l e else number_assigned p left l o at e

  -- the values of arguments, none for a text or a `new`; and what they name
  abbrev pub is_plain : Tree → Bool
  is_plain (tree.Make p t xs) = false
  is_plain (Text p) = false
  is_plain t = true

  abbrev pub one_value : Tree → Step (Option Draft)
  one_value (tree.Make p t xs) = and_step (any s w a ks late xs) (λ u. done None)
  one_value t = if is_plain t then and_step (value s w a ks late t) (λ x. done (Some x)) else done None

  abbrev pub each_value : Trees → Step (List (Option Draft))
  each_value Nil = done []
  each_value (Cons t ts) = and_step (one_value t) (λ x. and_step (each_value ts) (λ xs. done (x ∷ xs)))

  abbrev pub only : List (Option Draft) → Option Draft
  only (x ∷ []) = x
  only xs = None

  abbrev pub written_to : Place → Loc → Option Draft → Walked Kind → Step Writes
  written_to p l x k = and_step (found k) (λ k. by_value k x)
    where
      by_value : Kind → Option Draft → Step Writes
      by_value k None = found (fault reason.Mismatch p)
      by_value k (Some x) = store p l k x

  -- `port.write(value)`
  abbrev pub write : Place → Trees → Loc → Step Writes
  write p xs l = and_step (each_value xs) (λ vs. written_to p l (only vs) (left_kind p l))

  abbrev pub one_location : Tree → Step (Option Left)
  one_location (tree.Make p t xs) = and_step (any s w a ks late xs) (λ u. done None)
  one_location t = and_step (meant s w a ks late t) (λ m. done (location m))

  -- where the last argument stands: what is bound has to be found at construction
  abbrev pub bound_to : Trees → Step (Option Left)
  bound_to Nil = done None
  bound_to (Cons t Nil) = one_location t
  bound_to (Cons t (Cons u ts)) = and_step (one_location t) (λ l. bound_to (Cons u ts))

  abbrev pub binds : Trees → Base → Bool
  binds xs (OfSignal k) = false
  binds (Cons (tree.Make p t ys) Nil) b = false
  binds (Cons t Nil) b = true
  binds xs b = false

  abbrev pub bind : Place → Trees → Loc → Step Writes
  bind p xs l = and_step (bound_to xs) (λ to. if binds xs l.form.base then written (λ n c. Bind p l.left to c) else found (fault reason.Mismatch p))

  abbrev pub refused : Place → Trees → Step Writes
  refused p xs = and_step (any s w a ks late xs) (λ u. found (fault reason.Mismatch p))

  -- write is 1, bind 2
  abbrev pub port_call : Place → Trees → ℕ → Loc → Step Writes
  port_call p xs x l = if nat_eq x 1 then write p xs l else (if nat_eq x 2 then bind p xs l else refused p xs)

  abbrev pub on_subject : Place → Trees → ℕ → Subject → Step Writes
  on_subject p xs x (OfDraft d) = refused p xs
  on_subject p xs x (OfLoc l) = if is_port l.form then port_call p xs x l else refused p xs

  abbrev pub called : Place → Trees → Meant → Step Writes
  called p xs (Done x of) = on_subject p xs x of
  called p xs m = if is_call m then written nothing else found (fault reason.Mismatch p)
