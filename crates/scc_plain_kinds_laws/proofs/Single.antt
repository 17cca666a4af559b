-- Statements that hold no others have operators of the kinds that they say, and so have those of constructors.
use Rattle.std.proofs.Common.{ℕ, Bool, true, nat_eq, List, ◌∷◌, Option, Some, None, refl, subst}
use Rattle.scc_base.specs.declared.refusal.Place.{Place}
use Rattle.scc_bits_kinds.specs.declared.kind.Kind.{Kind}
use Rattle.scc_templates_spec.specs.Walked.{and_walk}
use Rattle.scc_templates_spec.specs.World.{World}
use Rattle.scc_templates_spec.specs.Tree.{Tree, place_of}
use Rattle.scc_templates_spec.specs.Statements.{Local, Simple}
use Rattle.scc_templates_spec.specs.Statements as stmts
use Rattle.scc_templates_spec.specs.Source.{Source}
use Rattle.scc_elab_spec.specs.Term as term
use Rattle.scc_elab_spec.specs.Term.{Target, Whole}
use Rattle.scc_plain_spec.specs.Numbers.{int, number}
use Rattle.scc_plain_spec.specs.Types.{OfNumber, OfObject, InPort, OutPort, OfSignal, OfName}
use Rattle.scc_plain_spec.specs.Scope.{Answer}
use Rattle.scc_plain_spec.specs.Calls.{is_zero}
use Rattle.scc_plain_spec.specs.Drafts.{Draft, literal}
use Rattle.scc_plain_spec.specs.Forms.{Form, form_of, is_direct}
use Rattle.scc_plain_spec.specs.Room.{Around, Known, With, scope_in, Step, declare}
use Rattle.scc_plain_spec.specs.Room as room
use Rattle.scc_plain_spec.specs.Shapes.{shape}
use Rattle.scc_plain_spec.specs.Expressions.{value}
use Rattle.scc_plain_spec.specs.Simple.{left_kind, last_args}
use Rattle.scc_plain_spec.specs.Single.{Declaring, checked, unless_array, number_begun, target_begun, begun, local, simple, give, edges, wait}
use Rattle.scc_plain_spec.specs.Processes.{process_named, process, reset}
use Rattle.scc_plain_laws.proofs.Drafted.{some-is}
use Rattle.scc_plain_laws.proofs.Walks.{Finds, finds-pure, finds-none, finds-then, finds-if, by-base, Gives, gives-done, gives-found, gives-none, gives-then, gives-if}
use Rattle.scc_plain_laws.proofs.Calls.{IsTypedDraft, IsAny, converted-finds, target-finds}
use Rattle.scc_plain_laws.proofs.Expressions.{meant-gives, value-gives, condition-gives}
use Rattle.scc_plain_laws.proofs.Values.{any-found, edge-gives}
use Rattle.scc_plain_kinds_laws.proofs.Kept.{any-known, Keeps, RoomKeeps, lifts, keeps-plain, keeps-assign, keeps-point, written-gives, typed-return}
use Rattle.scc_plain_kinds_laws.proofs.Simple.{assigned-finds, store-gives, combined-finds, assign-gives, called-keeps}
use Rattle.scc_plain_laws.proofs.Named.{Names, NamesTarget, any_local}

pub declare-gives : (l : room.Local) → Gives RoomKeeps IsAny (declare l)
declare-gives l = record { holds = λ r k y e. subst (λ (y : With ℕ). Unit {0} × RoomKeeps y.room) (some-is e) (tt, k) }

abbrev pub DeclaringKeeps : Declaring → Type 0
DeclaringKeeps d = Keeps d.writes

module _ (s : Source) (w : World Answer) (a : Around) where
  module _ (ks : List Known) (late : Bool) (p : Place) (n : ℕ) (f : Form) where
    number-begins : (k : Kind) (e : Tree) → Gives RoomKeeps Keeps (number_begun s w a ks late p n f k e)
    number-begins k e = gives-then (value-gives any_local lifts s w a ks (any-known ks) late e) (λ x t. gives-then (gives-found (finds-then (unless-finds x t) (λ y u. converted-finds any_local k y u))) (λ y u. written-gives (keeps-assign p (term.Local p n) Whole y.term refl tt u)))
      where
        unless-finds : (x : Draft) → Names any_local x.term → Finds (IsTypedDraft any_local) (unless_array s w a p f x)
        unless-finds x t = finds-if (nat_eq f.dims 0) (finds-pure t) (finds-none refl)

    target-begins : (e : Tree) → Gives RoomKeeps Keeps (target_begun s w a ks late p n f e)
    target-begins e = gives-then (meant-gives any_local lifts s w a ks (any-known ks) late e) (λ m t. gives-then (gives-found (finds-then (target-finds any_local (place_of e) a.owner f (is_zero e) m t) (λ x u. unless-finds x u))) (λ x u. written-gives (keeps-point p (term.Local p n) x refl u)))
      where
        unless-finds : (x : Target) → NamesTarget any_local x → Finds (NamesTarget any_local) (unless_array s w a p f x)
        unless-finds x t = finds-if (nat_eq f.dims 0) (finds-pure t) (finds-none refl)

  begins : (ks : List Known) (late : Bool) (p : Place) (n : ℕ) (f : Form) (e : Option Tree) → Gives RoomKeeps Keeps (begun s w a ks late p n f e)
  begins ks late p n f None = written-gives (keeps-plain (λ m c. refl))
  begins ks late p n f (Some e) = gives-if (is_direct f) (by-base f.base (λ k g. rw g (number-begins ks late p n (record f { base = OfNumber k }) k e)) (λ c xs g. rw g (target-begins ks late p n (record f { base = OfObject c xs }) e)) (λ k g. rw g (target-begins ks late p n (record f { base = InPort k }) e)) (λ k g. rw g (target-begins ks late p n (record f { base = OutPort k }) e)) (λ k g. rw g (target-begins ks late p n (record f { base = OfSignal k }) e)) (λ g. rw g (target-begins ks late p n (record f { base = OfName }) e)))
      (target-begins ks late p n f e)

  pub local-gives : (ks : List Known) (late : Bool) (l : Local) → Gives RoomKeeps DeclaringKeeps (local s w a ks late l)
  local-gives ks late l = gives-then (any-found (and_walk (shape s w (scope_in a ks) l.type l.hold l.sizes) (checked s w a l.place))) (λ h t. gives-then (declare-gives (record { name = l.name; place = l.place; shape = h })) (λ n t.
      gives-then (begins (record { name = l.name; local = n } ∷ ks) late l.place n (form_of h) l.value) (λ x k. gives-done {x = record { writes = x; known = record { name = l.name; local = n } }} k)))

  module _ (ks : List Known) (late : Bool) where
    pub simple-gives : (e : Simple) → Gives RoomKeeps Keeps (simple s w a ks late e)
    simple-gives (stmts.Assign p l None at e) = gives-then (gives-then (meant-gives any_local lifts s w a ks (any-known ks) late l) (λ m t. gives-found (assigned-finds p m t))) (λ x h. assign-gives s w a ks late p (place_of l) None at e x h)
    simple-gives (stmts.Assign p l (Some o) at e) = gives-then (gives-then (meant-gives any_local lifts s w a ks (any-known ks) true l) (λ m t. gives-found (assigned-finds p m t))) (λ x h. assign-gives s w a ks late p (place_of l) (Some o) at e x h)
    simple-gives (stmts.Step p e o at) = gives-then (gives-then (meant-gives any_local lifts s w a ks (any-known ks) true e) (λ m t. gives-found (assigned-finds p m t))) (λ l h. gives-then (any-found (left_kind p l)) (λ k t.
        gives-then (gives-found (combined-finds (place_of e) l (Some o) at (literal at (number int 1)) h tt)) (λ x u. store-gives p l k x h u)))
    simple-gives (stmts.Calls p e) = gives-then (meant-gives any_local lifts s w a ks (any-known ks) late e) (λ m t. called-keeps s w a ks late p (last_args e) m t)

    pub give-gives : (p : Place) (e : Option Tree) (k : Option Kind) → Gives RoomKeeps Keeps (give s w a ks late p e k)
    give-gives p None None = written-gives (keeps-plain (λ n c. refl))
    give-gives p (Some e) (Some k) = gives-then (gives-then (value-gives any_local lifts s w a ks (any-known ks) late e) (λ x t. gives-found (converted-finds any_local k x t))) (λ x t. written-gives (typed-return p x.term t))
    give-gives p None (Some k) = gives-none (λ r. refl)
    give-gives p (Some e) None = gives-then (value-gives any_local lifts s w a ks (any-known ks) late e) (λ x t. gives-none (λ r. refl))

    pub wait-gives : (p : Place) (e : Option Tree) → Gives RoomKeeps Keeps (wait s w a ks late p e)
    wait-gives p e = gives-then (any-found (edges s w a ks late p e)) (λ n t. written-gives (keeps-plain (λ m c. refl)))

    pub process-gives : (p at : Place) (x : Option ℕ) (q : stmts.Process) → Gives RoomKeeps Keeps (process s w a ks late p at x q)
    process-gives p at x q = gives-then (any-found (process_named s w a ks late at x)) (λ f t. gives-then (edge-gives any_local lifts s w a ks (any-known ks) late q) (λ e t. written-gives (keeps-plain (λ n c. refl))))

    pub reset-gives : (p : Place) (e l : Tree) (asynchronous : Bool) → Gives RoomKeeps Keeps (reset s w a ks late p e l asynchronous)
    reset-gives p e l asynchronous = gives-then (meant-gives any_local lifts s w a ks (any-known ks) late e) (λ m t. gives-then (condition-gives any_local lifts s w a ks (any-known ks) late l) (λ x t. written-gives (keeps-plain (λ n c. refl))))
