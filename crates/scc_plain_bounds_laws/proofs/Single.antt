-- Statements that hold no others write what is bounded.
use Rattle.std.proofs.Common.{◌≡◌, ℕ, ◌+◌, ◌<◌, ◌≤◌, Bool, true, nat_eq, List, [], ◌∷◌, ◌++◌, length, Option, Some, None, is_some, refl, ap, arith}
use Rattle.std.specs.Prelude.{nat_lt}
use Rattle.scc_base.specs.declared.refusal.Place.{Place}
use Rattle.scc_bits_kinds.specs.declared.kind.Kind.{Kind}
use Rattle.scc_templates_spec.specs.World.{World}
use Rattle.scc_templates_spec.specs.Tree.{Tree, Trees, place_of}
use Rattle.scc_templates_spec.specs.Statements.{Local, Simple}
use Rattle.scc_templates_spec.specs.Statements as stmts
use Rattle.scc_templates_spec.specs.Source.{Source}
use Rattle.scc_elab_spec.specs.Term.{Target, Whole}
use Rattle.scc_elab_spec.specs.Term as term
use Rattle.scc_elab_spec.specs.Program as code
use Rattle.scc_elab_spec.specs.Program.{Reach}
use Rattle.scc_plain_spec.specs.Numbers.{int, number}
use Rattle.scc_plain_spec.specs.Types.{OfNumber, OfObject, InPort, OutPort, OfSignal, OfName}
use Rattle.scc_plain_spec.specs.Scope.{Answer}
use Rattle.scc_plain_spec.specs.Calls.{is_zero}
use Rattle.scc_plain_spec.specs.Drafts.{Draft, literal}
use Rattle.scc_plain_spec.specs.Forms.{Form, is_direct, form_of}
use Rattle.scc_plain_spec.specs.Room.{Around, Known, scope_in, Step, and_step, written, Writes}
use Rattle.scc_plain_spec.specs.Shapes.{shape}
use Rattle.scc_plain_spec.specs.Expressions.{value}
use Rattle.scc_plain_spec.specs.Simple.{left_kind, last_args}
use Rattle.scc_plain_spec.specs.Single.{Declaring, unless_array, number_begun, target_begun, begun, local, simple, give, edges, wait}
use Rattle.scc_plain_spec.specs.Processes.{process_named, process, reset, senses}
use Rattle.scc_plain_laws.proofs.Walks.{Finds, finds-none, finds-if, gives-found, gives-then, finds-pure, finds-then, by-base}
use Rattle.scc_plain_laws.proofs.Named.{Names, NamesTarget}
use Rattle.scc_plain_laws.proofs.Calls.{IsTypedDraft, converted-finds, target-finds}
use Rattle.scc_plain_laws.proofs.Expressions.{meant-gives, value-gives, condition-gives}
use Rattle.scc_plain_laws.proofs.Values.{any-found, senses-give, edge-gives}
use Rattle.scc_plain_bounds_laws.proofs.Before.{length-next, lt-true, next}
use Rattle.scc_plain_bounds_laws.proofs.Bounded.{Bounded, Mark}
use Rattle.scc_plain_bounds_laws.proofs.Shapes.{local-finds}
use Rattle.scc_plain_bounds_laws.proofs.Flushes.{lifts, Flushes, flush-done, flush-none, flush-keep, flush-then, flush-if, flush-declare, Wrote, written-flushes, plain-flushes, written-at}
use Rattle.scc_plain_bounds_laws.proofs.Within.{below, Knows, knows-more, knows-later, assign-plain, point-plain, declare-plain, return-plain}
use Rattle.scc_plain_bounds_laws.proofs.Simple.{assigned-finds, combined-finds, store-flushes, assign-flushes, called-flushes}

module _ (v : Bool) (D : ℕ → Type 0) (lo : Mark) (s : Source) (w : World Answer) (a : Around) where
  -- what begins a local, of which there are so many then
  abbrev Began : List Reach → Mark → Writes → Type 0
  Began m hi x = Bounded v D lo hi x × (hi.locals ≡ m)

  module _ (m : List Reach) (ks : List Known) (known : Knows m ks) (late : Bool) (p : Place) (n : ℕ) (f : Form) (there : nat_lt n (length m) ≡ true) where
    number-flushes : (k : Kind) (e : Tree) → Flushes v lo m (Began m) (number_begun s w a ks late p n f k e)
    number-flushes k e = flush-keep (value-gives (below m) (lifts v lo m) s w a ks known late e) (λ x t. flush-keep (gives-found (finds-then (unless-finds x t) (λ y u. converted-finds (below m) k y u))) (λ y u. written-at v D lo m (λ i. assign-plain v D i m p (term.Local p n) Whole y.term there tt u)))
      where
        unless-finds : (x : Draft) → Names (below m) x.term → Finds (IsTypedDraft (below m)) (unless_array s w a p f x)
        unless-finds x t = finds-if (nat_eq f.dims 0) (finds-pure t) (finds-none refl)

    target-flushes : (e : Tree) → Flushes v lo m (Began m) (target_begun s w a ks late p n f e)
    target-flushes e = flush-keep (meant-gives (below m) (lifts v lo m) s w a ks known late e) (λ i t. flush-keep (gives-found (finds-then (target-finds (below m) (place_of e) a.owner f (is_zero e) i t) (λ x u. unless-finds x u))) (λ x u. written-at v D lo m (λ i. point-plain v D i m p (term.Local p n) x there u)))
      where
        unless-finds : (x : Target) → NamesTarget (below m) x → Finds (NamesTarget (below m)) (unless_array s w a p f x)
        unless-finds x t = finds-if (nat_eq f.dims 0) (finds-pure t) (finds-none refl)

  begins : (m : List Reach) (ks : List Known) → Knows m ks → (late : Bool) (p : Place) (n : ℕ) (f : Form) → nat_lt n (length m) ≡ true → (e : Option Tree) → Flushes v lo m (Began m) (begun s w a ks late p n f e)
  begins m ks known late p n f there None = written-at v D lo m (λ i. declare-plain v D i m p n there)
  begins m ks known late p n f there (Some e) = flush-if (is_direct f) (by-base f.base (λ k g. rw g (number-flushes m ks known late p n (record f { base = OfNumber k }) there k e)) (λ c xs g. rw g (target-flushes m ks known late p n (record f { base = OfObject c xs }) there e))
      (λ k g. rw g (target-flushes m ks known late p n (record f { base = InPort k }) there e)) (λ k g. rw g (target-flushes m ks known late p n (record f { base = OutPort k }) there e)) (λ k g. rw g (target-flushes m ks known late p n (record f { base = OfSignal k }) there e)) (λ g. rw g (target-flushes m ks known late p n (record f { base = OfName }) there e)))
      (target-flushes m ks known late p n f there e)

  -- what is written of a declaration, and the local that is known behind it
  abbrev pub Declared : Mark → Declaring → Type 0
  Declared hi d = Bounded v D lo hi d.writes × (d.known.local < length hi.locals) × (length lo.locals + 1 ≤ length hi.locals)

  pub local-flushes : (ks : List Known) → Knows lo.locals ks → (late : Bool) (l : Local) → Flushes v lo lo.locals Declared (local s w a ks late l)
  local-flushes ks known late l = flush-keep (gives-found (local-finds s w a (scope_in a ks) l.type l.hold l.sizes l.place)) (λ h i. flush-declare v lo lo.locals (record { name = l.name; place = l.place; shape = h }) i (λ n same.
      let m = lo.locals ++ h.reach ∷ [] in
      let more : length m ≡ length lo.locals + 1 = length-next lo.locals h.reach in
      let there : n < length m = omega (arith, same, more) in
      flush-then (begins m (record { name = l.name; local = n } ∷ ks) (knows-more m (record { name = l.name; local = n }) ks there (knows-later lo.locals m ks (next lo.locals h.reach) known)) late l.place n (form_of h) (lt-true n (length m) there) l.value)
      (λ x hi k. flush-done {x = record { writes = x; known = record { name = l.name; local = n } }} (k.0, (let z = ap length k.1 in omega (arith, z, same, more)), (let z = ap length k.1 in omega (arith, z, more))))))

  module _ (ks : List Known) (known : Knows lo.locals ks) (late : Bool) where
    abbrev m : List Reach
    m = lo.locals

    pub simple-flushes : (e : Simple) → Flushes v lo m (Wrote v D lo m) (simple s w a ks late e)
    simple-flushes (stmts.Assign p l None at e) = flush-keep (gives-then (meant-gives (below m) (lifts v lo m) s w a ks known late l) (λ n t. gives-found (assigned-finds m p n t))) (λ x h. assign-flushes v D lo m s w a ks known late p (place_of l) None at e x h)
    simple-flushes (stmts.Assign p l (Some o) at e) = flush-keep (gives-then (meant-gives (below m) (lifts v lo m) s w a ks known true l) (λ n t. gives-found (assigned-finds m p n t))) (λ x h. assign-flushes v D lo m s w a ks known late p (place_of l) (Some o) at e x h)
    simple-flushes (stmts.Step p e o at) = flush-keep (gives-then (meant-gives (below m) (lifts v lo m) s w a ks known true e) (λ n t. gives-found (assigned-finds m p n t))) (λ l h. flush-keep (any-found (left_kind p l)) (λ k t.
        flush-keep (gives-found (combined-finds m (place_of e) l (Some o) at (literal at (number int 1)) h tt)) (λ x u. store-flushes v D lo m p l k x h u)))
    simple-flushes (stmts.Calls p e) = flush-keep (meant-gives (below m) (lifts v lo m) s w a ks known late e) (λ n t. called-flushes v D lo m s w a ks known late p (last_args e) n t)

    pub give-flushes : (p : Place) (e : Option Tree) (k : Option Kind) → is_some k ≡ v → Flushes v lo m (Wrote v D lo m) (give s w a ks late p e k)
    give-flushes p None None z = plain-flushes v D lo m (λ n c k. refl) (λ n c d h. h) (λ n c b h. h)
    give-flushes p (Some e) (Some k) z = flush-keep (gives-then (value-gives (below m) (lifts v lo m) s w a ks known late e) (λ x t. gives-found (converted-finds (below m) k x t))) (λ x t. written-flushes v D lo m (λ i. return-plain v D i m p x.term z t))
    give-flushes p None (Some k) z = flush-none (λ r. refl)
    give-flushes p (Some e) None z = flush-keep (value-gives (below m) (lifts v lo m) s w a ks known late e) (λ x t. flush-none (λ r. refl))

    pub wait-flushes : (p : Place) (e : Option Tree) → Flushes v lo m (Wrote v D lo m) (wait s w a ks late p e)
    wait-flushes p e = flush-keep (any-found (edges s w a ks late p e)) (λ n t. plain-flushes v D lo m (λ n c k. refl) (λ n c d h. h) (λ n c b h. h))

    pub process-flushes : (p at : Place) (x : Option ℕ) (q : stmts.Process) → Flushes v lo m (Wrote v D lo m) (process s w a ks late p at x q)
    process-flushes p at x q = flush-keep (any-found (process_named s w a ks late at x)) (λ f t. flush-keep (edge-gives (below m) (lifts v lo m) s w a ks known late q) (λ e t. plain-flushes v D lo m (λ n c k. refl) (λ n c d h. h) (λ n c b h. h)))

    pub reset-flushes : (p : Place) (e l : Tree) (asynchronous : Bool) → Flushes v lo m (Wrote v D lo m) (reset s w a ks late p e l asynchronous)
    reset-flushes p e l asynchronous = flush-keep (meant-gives (below m) (lifts v lo m) s w a ks known late e) (λ n t. flush-keep (condition-gives (below m) (lifts v lo m) s w a ks known late l) (λ x t. plain-flushes v D lo m (λ n c k. refl) (λ n c d h. h) (λ n c b h. h)))

    pub senses-flush : (p : Place) (es : Trees) → Flushes v lo m (Wrote v D lo m) (and_step (senses s w a ks late es) (λ xs. written (λ n c. code.Sensitive p xs c)))
    senses-flush p es = flush-keep (senses-give (below m) (lifts v lo m) s w a ks known late es) (λ xs t. plain-flushes v D lo m (λ n c k. refl) (λ n c d h. h) (λ n c b h. h))
