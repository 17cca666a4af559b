-- The statements of a body have operators of the kinds that they say.
use Rattle.std.proofs.Common.{ℕ, Bool, true, false, List, [], ◌∷◌, length, Option, Some, None, refl, if◌then◌else◌}
use Rattle.scc_base.specs.declared.refusal.Place.{Place}
use Rattle.scc_bits_kinds.specs.declared.kind.Kind.{Kind}
use Rattle.scc_bits_kinds.specs.Counts.{promoted}
use Rattle.scc_bits_kinds.specs.Groups.{group_of, is_small}
use Rattle.scc_bits_kinds.specs.declared.op.Op.TheVariants as op
use Rattle.scc_bits.specs.Value.{Number}
use Rattle.scc_templates_spec.specs.Walked.{pure}
use Rattle.scc_templates_spec.specs.World.{World}
use Rattle.scc_templates_spec.specs.Tree.{Tree, place_of}
use Rattle.scc_templates_spec.specs.Statements.{Stmts, End, Brace, Declare, If, Switch, While, Do, For, Break, Continue, Return, Wait, Runs, Reset, Simply, Items, NoItems, Case, Otherwise, Between, Local, Simple, First, Nothing, Locals, Does}
use Rattle.scc_templates_spec.specs.Statements as stmts
use Rattle.scc_templates_spec.specs.Source.{Source}
use Rattle.scc_elab_spec.specs.Term.{Term, Load, Whole}
use Rattle.scc_elab_spec.specs.Term as term
use Rattle.scc_elab_spec.specs.Program.{Direct}
use Rattle.scc_elab_spec.specs.Program as code
use Rattle.scc_plain_spec.specs.Types.{OfNumber}
use Rattle.scc_plain_spec.specs.Scope.{Answer}
use Rattle.scc_plain_spec.specs.Calls.{constant}
use Rattle.scc_plain_spec.specs.Drafts.{Draft, kind_in, drafted, literal}
use Rattle.scc_plain_spec.specs.Room.{Around, Known, Numbering, Writes, nothing, then_write, Step}
use Rattle.scc_plain_spec.specs.Loops.{counted, loop_test, turn, looped, for_loop}
use Rattle.scc_plain_spec.specs.Switch.{Flow, in_turn, in_cases, Label, Cases, no_cases, unless_met, test, leaving, behind_label, at_case, at_default, behind_stmts, exit_number, switched}
use Rattle.scc_plain_spec.specs.Single.{local}
use Rattle.scc_plain_spec.specs.Bodies.{in_order, before, leave, declared_so_far, Headed, one_name, selector_name, Selected, head_locals, head, tested, tested_if, changed, small_one, selected, case, otherwise, body, items}
use Rattle.scc_plain_laws.proofs.Walks.{Finds, finds-pure, finds-any, finds-then, finds-behind, Gives, gives-done, gives-found, gives-none, gives-then, gives-in, gives-if}
use Rattle.scc_plain_laws.proofs.Calls.{IsTypedDraft, IsAny, converted-finds}
use Rattle.scc_plain_laws.proofs.Expressions.{operate-finds, value-gives, condition-gives}
use Rattle.scc_plain_kinds_laws.proofs.Kept.{any-known, Keeps, RoomKeeps, lifts, keeps-nothing, keeps-then, keeps-plain, keeps-assign, keeps-if, keeps-loop, keeps-block, written-gives}
use Rattle.scc_plain_laws.proofs.Values.{senses-give}
use Rattle.scc_plain_kinds_laws.proofs.Single.{declare-gives, local-gives, simple-gives, give-gives, wait-gives, process-gives, reset-gives}
use Rattle.scc_plain_laws.proofs.Named.{Names, any_local}

pub order-gives : {f g : Step Writes} → Gives RoomKeeps Keeps f → Gives RoomKeeps Keeps g → Gives RoomKeeps Keeps (in_order f g)
order-gives h k = gives-then h (λ x t. gives-then k (λ y u. gives-done (keeps-then t u)))

before-gives : (x : Writes) {g : Step Writes} → Keeps x → Gives RoomKeeps Keeps g → Gives RoomKeeps Keeps (before x g)
before-gives x t k = gives-then k (λ y u. gives-done (keeps-then t u))

leave-gives : (p : Place) (n : Option ℕ) → Gives RoomKeeps Keeps (leave p n)
leave-gives p None = gives-none (λ r. refl)
leave-gives p (Some n) = written-gives (keeps-plain (λ m c. refl))

keeps-exit : (p : Place) (n : ℕ) → Keeps (λ m c. code.Exit p n c)
keeps-exit p n = keeps-plain (λ m c. refl)

test-keeps : (p : Place) (t : Term) → Names any_local t → Keeps (loop_test p t)
test-keeps p t h = keeps-if p t nothing (λ m c. code.Exit p 0 c) h keeps-nothing (keeps-exit p 0)

turn-keeps : (p : Place) (x : Writes) → Keeps x → Keeps (turn p x)
turn-keeps p x k = keeps-block p x k

loop-keeps : (p : Place) (x : Writes) → Keeps x → Keeps (looped p None x)
loop-keeps p x k = keeps-block p (λ n c. code.Loop p None (x n code.End) c) (keeps-loop p (λ n. None) x k)

for-keeps : (p : Place) (one : Bool) (n : ℕ) (before test body step : Writes) → Keeps before → Keeps test → Keeps body → Keeps step → Keeps (for_loop p one n before test body step)
for-keeps p one n before test body step h i j k =
    let f : Numbering → Option code.Count = λ m. if one then counted n (before m code.End) (test m code.End) (step m code.End) else None in
    let x : Writes = then_write test (then_write body step) in
    keeps-block p (then_write before (λ m c. code.Loop p (f m) (x m code.End) c)) (keeps-then h (keeps-loop p f x (keeps-then i (keeps-then j k))))

abbrev HeadedKeeps : Headed → Type 0
HeadedKeeps h = Keeps h.writes

abbrev SelectedKeeps : Selected → Type 0
SelectedKeeps x = Keeps x.writes

-- the blocks so far keep what is asked, round what does
record CasesKeep (c : Cases) : Type 0 where
  tests : Keeps c.tests
  blocks : (head : Writes) → Keeps head → Keeps (c.blocks head)

leaving-keeps : (p : Place) (n : ℕ) (t : Term) → Names any_local t → Keeps (leaving p n t)
leaving-keeps p n t h = keeps-if p t (λ m c. code.Exit p n c) nothing h (keeps-exit p n) keeps-nothing

label-keeps : (c : Cases) (l : Label) (x : Writes) (n : Option ℕ) → CasesKeep c → Keeps x → CasesKeep (behind_label c l x n)
label-keeps c l x n k h = record { tests = keeps-then k.tests h; blocks = λ head u. keeps-block l.place (c.blocks head) (k.blocks head u) }

stmts-keep : (c : Cases) (n : ℕ) (s : Stmts) (x : Writes) → CasesKeep c → Keeps x → CasesKeep (behind_stmts c n s x)
stmts-keep c n s x k h = record { tests = k.tests; blocks = λ head u. keeps-then (k.blocks head u) h }

switched-keeps : (p : Place) (c : Cases) → CasesKeep c → Keeps (switched p c)
switched-keeps p c k = keeps-block p (c.blocks (then_write c.tests (λ m j. code.Exit p (exit_number c) j))) (k.blocks (then_write c.tests (λ m j. code.Exit p (exit_number c) j)) (keeps-then k.tests (keeps-exit p (exit_number c))))

test-finds : (p : Place) (n : ℕ) (k : Kind) (e : Place) (v : Number) → Finds (Names any_local) (test p n k e v)
test-finds p n k e v = finds-then (operate-finds any_local p p op.Eq (drafted p (Load p k (term.Local p n))) (literal e v) refl tt) (λ x t. finds-pure t)

module _ (s : Source) (w : World Answer) (a : Around) where
  locals-give : (ks : List Known) (ls : List Local) → Gives RoomKeeps HeadedKeeps (head_locals s w a ks ls)
  locals-give ks [] = gives-done keeps-nothing
  locals-give ks (l ∷ ls) = gives-then (local-gives s w a ks true l) (λ d t. gives-then (locals-give (d.known ∷ ks) ls) (λ h u. gives-done {x = record { writes = then_write d.writes h.writes; known = h.known }} (keeps-then t u)))

  head-gives : (ks : List Known) (f : First) → Gives RoomKeeps HeadedKeeps (head s w a ks f)
  head-gives ks Nothing = gives-done keeps-nothing
  head-gives ks (Locals ls) = locals-give ks ls
  head-gives ks (Does e) = gives-then (simple-gives s w a ks true e) (λ x t. gives-done {x = record { writes = x; known = ks }} t)

  tested-gives : (ks : List Known) (t : Tree) → Gives RoomKeeps Keeps (tested s w a ks t)
  tested-gives ks t = gives-then (condition-gives any_local lifts s w a ks (any-known ks) true t) (λ x h. gives-done (test-keeps (place_of t) x.term h))

  tested-if-gives : (ks : List Known) (t : Option Tree) → Gives RoomKeeps Keeps (tested_if s w a ks t)
  tested-if-gives ks None = gives-done keeps-nothing
  tested-if-gives ks (Some t) = tested-gives ks t

  changed-gives : (ks : List Known) (e : Option Simple) → Gives RoomKeeps Keeps (changed s w a ks e)
  changed-gives ks None = gives-done keeps-nothing
  changed-gives ks (Some e) = simple-gives s w a ks true e

  small-gives : (p : Place) (x : Draft) → Names any_local x.term → Gives RoomKeeps (IsTypedDraft any_local) (small_one s w a p x)
  small-gives p x t = gives-if (is_small (group_of (kind_in x))) (gives-done t) (gives-none (λ r. refl))

  selected-gives : (ks : List Known) (late : Bool) (p : Place) (e : Tree) → Gives RoomKeeps SelectedKeeps (selected s w a ks late p e)
  selected-gives ks late p e = gives-then (gives-then (value-gives any_local lifts s w a ks (any-known ks) late e) (λ x t. small-gives (place_of e) x t)) (λ x t. gives-then (gives-found (converted-finds any_local (promoted (kind_in x)) x t)) (λ y u.
      gives-then (declare-gives (record { name = selector_name; place = p; shape = record { base = OfNumber (promoted (kind_in x)); reach = Direct; vector = false; sizes = [] } })) (λ n v.
      gives-then (written-gives (keeps-assign p (term.Local p n) Whole y.term refl tt u)) (λ ws k. gives-done {x = record { writes = ws; local = n; draft = y }} k))))

  case-gives : (c : Cases) (x : Selected) (p : Place) (e : Tree) → CasesKeep c → Gives RoomKeeps CasesKeep (case s w a c x p e)
  case-gives c x p e k = gives-found (finds-behind (constant s w a c.numbers false p e) (λ v. finds-then (test-finds p x.local (kind_in x.draft) (place_of e) v) (λ t h.
      finds-behind (unless_met c (record { value = Some v; place = p })) (λ u. finds-pure {x = at_case c p v t} (label-keeps c (record { value = Some v; place = p }) (leaving p c.met t) c.default k (leaving-keeps p c.met t h))))))

  otherwise-gives : (c : Cases) (p : Place) → CasesKeep c → Gives RoomKeeps CasesKeep (otherwise s w a c p)
  otherwise-gives c p k = gives-found (finds-behind (unless_met c (record { value = None; place = p })) (λ u. finds-pure {x = at_default c p} (label-keeps c (record { value = None; place = p }) nothing (Some c.met) k keeps-nothing)))

  so-far-gives : Gives RoomKeeps IsAny declared_so_far
  so-far-gives = gives-in {f = λ r. pure (length r.locals)} (λ r k. finds-any)

  mutual
    pub body-gives : (f : Flow) (ks : List Known) (b : Stmts) → Gives RoomKeeps Keeps (body s w a f ks b)
    body-gives f ks End = gives-done keeps-nothing
    body-gives f ks (Brace b r) = order-gives (body-gives f ks b) (body-gives f ks r)
    body-gives f ks (Declare l r) = gives-then (local-gives s w a ks f.late l) (λ d t. before-gives d.writes t (body-gives f (d.known ∷ ks) r))
    body-gives f ks (If p t b c r) = gives-then (condition-gives any_local lifts s w a ks (any-known ks) f.late t) (λ x h. gives-then (written-gives keeps-nothing) (λ calls k. gives-then (body-gives f ks b) (λ y i. gives-then (body-gives f ks c) (λ z j.
        before-gives (then_write calls (λ n k. code.If p x.term (y n code.End) (z n code.End) k)) (keeps-then k (keeps-if p x.term y z h i j)) (body-gives f ks r)))))
    body-gives f ks (Switch p e is r) = gives-then (selected-gives ks f.late p e) (λ x k. gives-then (items-give f x (no_cases ks is) is (record { tests = keeps-nothing; blocks = λ head u. u })) (λ c h.
        before-gives (then_write x.writes (switched p c)) (keeps-then k (switched-keeps p c h)) (body-gives f ks r)))
    body-gives f ks (While p t b r) = gives-then (tested-gives ks t) (λ x h. gives-then (body-gives (in_turn f) ks b) (λ y i. before-gives (looped p None (then_write x (turn p y))) (loop-keeps p (then_write x (turn p y)) (keeps-then h (turn-keeps p y i))) (body-gives f ks r)))
    body-gives f ks (Do p b t r) = gives-then (body-gives (in_turn f) ks b) (λ y i. gives-then (tested-gives ks t) (λ x h. before-gives (looped p None (then_write (turn p y) x)) (loop-keeps p (then_write (turn p y) x) (keeps-then (turn-keeps p y i) h)) (body-gives f ks r)))
    body-gives f ks (For p h t e b r) = gives-then so-far-gives (λ n u. gives-then (head-gives ks h) (λ x i. gives-then (tested-if-gives x.known t) (λ y j. gives-then (changed-gives x.known e) (λ z k. gives-then (body-gives (in_turn f) x.known b) (λ v l.
        before-gives (for_loop p (one_name h) n x.writes y (turn p v) z) (for-keeps p (one_name h) n x.writes y (turn p v) z i j (turn-keeps p v l) k) (body-gives f ks r))))))
    body-gives f ks (Break p r) = order-gives (leave-gives p f.leave) (body-gives f ks r)
    body-gives f ks (Continue p r) = order-gives (leave-gives p f.next) (body-gives f ks r)
    body-gives f ks (Return p e r) = order-gives (give-gives s w a ks f.late p e a.result) (body-gives f ks r)
    body-gives f ks (Wait p e r) = order-gives (wait-gives s w a ks f.late p e) (body-gives f ks r)
    body-gives f ks (Runs p at x q r) = order-gives (process-gives s w a ks f.late p at x q) (body-gives f ks r)
    body-gives f ks (stmts.Sensitive p es r) = order-gives (gives-then (senses-give any_local lifts s w a ks (any-known ks) f.late es) (λ xs t. written-gives (keeps-plain (λ n c. refl)))) (body-gives f ks r)
    body-gives f ks (stmts.Quiet p r) = order-gives (written-gives {x = λ n c. code.Quiet p c} (keeps-plain (λ n c. refl))) (body-gives f ks r)
    body-gives f ks (Reset p e l asynchronous r) = order-gives (reset-gives s w a ks f.late p e l asynchronous) (body-gives f ks r)
    body-gives f ks (Simply e r) = order-gives (simple-gives s w a ks f.late e) (body-gives f ks r)

    items-give : (f : Flow) (x : Selected) (c : Cases) (is : Items) → CasesKeep c → Gives RoomKeeps CasesKeep (items s w a f x c is)
    items-give f x c NoItems k = gives-done k
    items-give f x c (Case p e is) k = gives-then (case-gives c x p e k) (λ d h. items-give f x d is h)
    items-give f x c (Otherwise p is) k = gives-then (otherwise-gives c p k) (λ d h. items-give f x d is h)
    items-give f x c (Between b is) k = gives-then so-far-gives (λ n u. gives-then (body-gives (in_cases c.left f) c.known b) (λ y h. items-give f x (behind_stmts c n b y) is (stmts-keep c n b y k h)))
