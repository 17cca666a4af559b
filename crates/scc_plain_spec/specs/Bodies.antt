-- The statements of a body without parameters, with the walk over them (ISO C++ [stmt.stmt]). The braces of a source give no block of their own.
use Rattle.std.specs.Prelude.{ℕ, Bool, true, false, List, [], ◌∷◌, length, Option, Some, None, if◌then◌else◌}
use Rattle.scc_base.specs.declared.refusal.Place.{Place}
use Rattle.scc_base.specs.declared.code.Code.TheVariants as reason
use Rattle.scc_bits_kinds.specs.Counts.{promoted}
use Rattle.scc_bits_kinds.specs.Groups.{group_of, is_small}
use Rattle.scc_templates_spec.specs.Walked.{pure, fault, and_walk}
use Rattle.scc_templates_spec.specs.World.{World}
use Rattle.scc_elab_spec.specs.Term as term
use Rattle.scc_elab_spec.specs.Term.{Whole}
use Rattle.scc_elab_spec.specs.Program.{Direct, Assign, Exit, Quiet, Sensitive}
use Rattle.scc_elab_spec.specs.Program as code
use Rattle.scc_templates_spec.specs.Tree.{Tree, place_of}
use Rattle.scc_templates_spec.specs.Statements.{Stmts, End, Brace, Declare, If, Switch, While, Do, For, Break, Continue, Return, Wait, Runs, Reset, Simply, Items, NoItems, Case, Otherwise, Between, Local, Simple, First, Nothing, Locals, Does}
use Rattle.scc_templates_spec.specs.Statements as stmts
use Rattle.scc_plain_spec.specs.Types.{OfNumber}
use Rattle.scc_templates_spec.specs.Source.{Source}
use Rattle.scc_plain_spec.specs.Scope.{Answer}
use Rattle.scc_plain_spec.specs.Calls.{constant}
use Rattle.scc_plain_spec.specs.Drafts.{Draft, kind_in, converted}
use Rattle.scc_plain_spec.specs.Room.{Around, Known, Writes, nothing, then_write, Step, done, found, and_step, in_room, declare, written}
use Rattle.scc_plain_spec.specs.Expressions.{value, condition}
use Rattle.scc_plain_spec.specs.Single.{local, simple, give, wait}
use Rattle.scc_plain_spec.specs.Processes.{process, senses, reset}
use Rattle.scc_plain_spec.specs.Loops.{loop_test, turn, looped, for_loop}
use Rattle.scc_plain_spec.specs.Switch.{Flow, in_turn, in_cases, Cases, no_cases, unless_met, test, at_case, at_default, behind_stmts, switched}

abbrev pub in_order : Step Writes → Step Writes → Step Writes
in_order f g = and_step f (λ x. and_step g (λ y. done (then_write x y)))

-- statements that are written, before others
abbrev pub before : Writes → Step Writes → Step Writes
before x g = and_step g (λ y. done (then_write x y))

abbrev pub leave : Place → Option ℕ → Step Writes
leave p None = found (fault reason.Mismatch p)
leave p (Some n) = written (λ m c. Exit p n c)

-- how many local variables there are so far
abbrev pub declared_so_far : Step ℕ
declared_so_far = in_room (λ r. pure (length r.locals))

-- the first part of a head, and what is known behind it
pub record Headed : Type 0 where
  pub writes : Writes
  pub known : List Known

abbrev pub one_name : First → Bool
one_name (Locals (l ∷ [])) = true
one_name f = false

-- the selector's local variable has the word `switch`, 13, as its name
abbrev pub selector_name : ℕ
selector_name = 13

pub record Selected : Type 0 where
  pub writes : Writes
  pub local : ℕ
  pub draft : Draft

module _ (s : Source) (w : World Answer) (a : Around) where
  abbrev pub head_locals : List Known → List Local → Step Headed
  head_locals ks [] = done (record { writes = nothing; known = ks })
  head_locals ks (l ∷ ls) = and_step (local s w a ks true l) (λ d. and_step (head_locals (d.known ∷ ks) ls) (λ h. done (record { writes = then_write d.writes h.writes; known = h.known })))

  -- in a head calls are late
  abbrev pub head : List Known → First → Step Headed
  head ks Nothing = done (record { writes = nothing; known = ks })
  head ks (Locals ls) = head_locals ks ls
  head ks (Does e) = and_step (simple s w a ks true e) (λ x. done (record { writes = x; known = ks }))

  abbrev pub tested : List Known → Tree → Step Writes
  tested ks t = and_step (condition s w a ks true t) (λ x. done (loop_test (place_of t) x.term))

  abbrev pub tested_if : List Known → Option Tree → Step Writes
  tested_if ks None = done nothing
  tested_if ks (Some t) = tested ks t

  abbrev pub changed : List Known → Option Simple → Step Writes
  changed ks None = done nothing
  changed ks (Some e) = simple s w a ks true e

  -- the selector, a small number, in a local variable of its own (E304)
  abbrev pub small_one : Place → Draft → Step Draft
  small_one p x = if is_small (group_of (kind_in x)) then done x else found (fault reason.Mismatch p)

  abbrev pub selected : List Known → Bool → Place → Tree → Step Selected
  selected ks late p e = and_step (and_step (value s w a ks late e) (small_one (place_of e))) (λ x. and_step (found (converted (promoted (kind_in x)) x)) (λ y.
      and_step (declare (record { name = selector_name; place = p; shape = record { base = OfNumber (promoted (kind_in x)); reach = Direct; vector = false; sizes = [] } })) (λ n.
      and_step (written (λ m c. Assign p (term.Local p n) Whole y.term c)) (λ ws. done (record { writes = ws; local = n; draft = y })))))

  -- at a label
  abbrev pub case : Cases → Selected → Place → Tree → Step Cases
  case c x p e = found (and_walk (constant s w a c.numbers false p e) (λ v. and_walk (test p x.local (kind_in x.draft) (place_of e) v) (λ t. and_walk (unless_met c (record { value = Some v; place = p })) (λ u. pure (at_case c p v t)))))

  abbrev pub otherwise : Cases → Place → Step Cases
  otherwise c p = found (and_walk (unless_met c (record { value = None; place = p })) (λ u. pure (at_default c p)))

  abbrev mutual
    pub body : Flow → List Known → Stmts → Step Writes
    body f ks End = done nothing
    body f ks (Brace b r) = in_order (body f ks b) (body f ks r)
    body f ks (Declare l r) = and_step (local s w a ks f.late l) (λ d. before d.writes (body f (d.known ∷ ks) r))
    body f ks (If p t b c r) = and_step (condition s w a ks f.late t) (λ x. and_step (written nothing) (λ calls. and_step (body f ks b) (λ y. and_step (body f ks c) (λ z.
        before (then_write calls (λ n k. code.If p x.term (y n code.End) (z n code.End) k)) (body f ks r)))))
    body f ks (Switch p e is r) = and_step (selected ks f.late p e) (λ x. and_step (items f x (no_cases ks is) is) (λ c. before (then_write x.writes (switched p c)) (body f ks r)))
    body f ks (While p t b r) = and_step (tested ks t) (λ x. and_step (body (in_turn f) ks b) (λ y. before (looped p None (then_write x (turn p y))) (body f ks r)))
    body f ks (Do p b t r) = and_step (body (in_turn f) ks b) (λ y. and_step (tested ks t) (λ x. before (looped p None (then_write (turn p y) x)) (body f ks r)))
    body f ks (For p h t e b r) = and_step declared_so_far (λ n. and_step (head ks h) (λ x. and_step (tested_if x.known t) (λ y. and_step (changed x.known e) (λ z. and_step (body (in_turn f) x.known b) (λ v.
        before (for_loop p (one_name h) n x.writes y (turn p v) z) (body f ks r))))))
    body f ks (Break p r) = in_order (leave p f.leave) (body f ks r)
    body f ks (Continue p r) = in_order (leave p f.next) (body f ks r)
    body f ks (Return p e r) = in_order (give s w a ks f.late p e a.result) (body f ks r)
    body f ks (Wait p e r) = in_order (wait s w a ks f.late p e) (body f ks r)
    body f ks (Runs p at x q r) = in_order (process s w a ks f.late p at x q) (body f ks r)
    body f ks (stmts.Sensitive p es r) = in_order (and_step (senses s w a ks f.late es) (λ xs. written (λ n c. Sensitive p xs c))) (body f ks r)
    body f ks (stmts.Quiet p r) = in_order (written (λ n c. Quiet p c)) (body f ks r)
    body f ks (Reset p e l asynchronous r) = in_order (reset s w a ks f.late p e l asynchronous) (body f ks r)
    body f ks (Simply e r) = in_order (simple s w a ks f.late e) (body f ks r)

    -- what stands in the braces of a `switch`, behind what was walked of it
    pub items : Flow → Selected → Cases → Items → Step Cases
    items f x c NoItems = done c
    items f x c (Case p e is) = and_step (case c x p e) (λ d. items f x d is)
    items f x c (Otherwise p is) = and_step (otherwise c p) (λ d. items f x d is)
    items f x c (Between b is) = and_step declared_so_far (λ n. and_step (body (in_cases c.left f) c.known b) (λ y. items f x (behind_stmts c n b y) is))
