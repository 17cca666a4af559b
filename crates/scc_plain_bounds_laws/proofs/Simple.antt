-- Assignments and calls as statements write what is bounded.
use Rattle.std.proofs.Common.{ℕ, Bool, not, ◌&&◌, ◌||◌, nat_eq, List, Option, Some, None, is_some, refl}
use Rattle.scc_base.specs.declared.refusal.Place.{Place}
use Rattle.scc_bits_kinds.specs.declared.kind.Kind.{Kind}
use Rattle.scc_bits_kinds.specs.declared.op.Op.{Op}
use Rattle.scc_templates_spec.specs.Walked.{Walked}
use Rattle.scc_templates_spec.specs.World.{World}
use Rattle.scc_templates_spec.specs.Tree.{Tree, Trees, place_of}
use Rattle.scc_templates_spec.specs.Tree as tree
use Rattle.scc_templates_spec.specs.Source.{Source}
use Rattle.scc_elab_spec.specs.Program.{Reach}
use Rattle.scc_plain_spec.specs.Scope.{Answer}
use Rattle.scc_plain_spec.specs.Calls.{is_zero}
use Rattle.scc_plain_spec.specs.Drafts.{Draft}
use Rattle.scc_plain_spec.specs.Forms.{Taken, AllOf, BitsOf, pick_in, is_pointer, is_port, Loc, Subject, OfDraft, OfLoc}
use Rattle.scc_plain_spec.specs.Meant.{Meant, Stands, Done, Void, is_call}
use Rattle.scc_plain_spec.specs.Room.{Around, Known}
use Rattle.scc_plain_spec.specs.Simple.{assigned, left_kind, stored, store, combined, pointing, point, assign, only, written_to, binds, refused, port_call, on_subject, called}
use Rattle.scc_plain_laws.proofs.Meanings.{value-at-is}
use Rattle.scc_plain_laws.proofs.Walks.{Finds, finds-none, finds-if, gives-found, finds-pure, finds-then, by-base}
use Rattle.scc_plain_laws.proofs.Named.{Names, NamesLoc, NamesMeant, NamesPick, NamesSubject, NamesTaken}
use Rattle.scc_plain_laws.proofs.Calls.{IsTypedDraft, converted-finds, target-finds}
use Rattle.scc_plain_laws.proofs.Expressions.{operate-finds, meant-gives, any-gives}
use Rattle.scc_plain_laws.proofs.Values.{any-found, IsTypedValue, only-typed, right-gives, each-gives, bound-gives, made-gives}
use Rattle.scc_plain_bounds_laws.proofs.Bounded.{Bounded, Mark, none}
use Rattle.scc_plain_bounds_laws.proofs.Flushes.{lifts, Flushes, flush-none, flush-keep, flush-if, Wrote, written-flushes, plain-flushes}
use Rattle.scc_plain_bounds_laws.proofs.Within.{below, Knows, assign-plain, point-plain, write-plain}

pub assigned-finds : (m : List Reach) (p : Place) (n : Meant) → NamesMeant (below m) n → Finds (NamesLoc (below m)) (assigned p n)
assigned-finds m p (Stands l) t = finds-if (nat_eq l.form.dims 0 && (not l.form.vector || is_pointer l.form)) (finds-pure t) (finds-none refl)
assigned-finds m p n t = finds-none refl

pick-named : (m : List Reach) (t : Taken) → NamesTaken (below m) t → NamesPick (below m) (pick_in t)
pick-named m AllOf t = tt
pick-named m (BitsOf k j) t = t

pub combined-finds : (m : List Reach) (p : Place) (l : Loc) (o : Option Op) (at : Place) (x : Draft) → NamesLoc (below m) l → Names (below m) x.term → Finds (IsTypedDraft (below m)) (combined p l o at x)
combined-finds m p l None at x t u = finds-pure u
combined-finds m p l (Some o) at x t u = finds-then {P = IsTypedDraft (below m)} (record { holds = λ y e. value-at-is (below m) p l y t e }) (λ old h. operate-finds (below m) p at o old x h u)

module _ (v : Bool) (D : ℕ → Type 0) (lo : Mark) (m : List Reach) where
  stored-bounded : (k : ℕ) (p : Place) (l : Loc) (x : Draft) → NamesLoc (below m) l → Names (below m) x.term → Bounded v D (record { calls = k; locals = m }) (record { calls = k; locals = m }) (stored p l x)
  stored-bounded k p l x t u = by-base l.form.base (λ j g. rw g (assign-plain v D k m p l.left (pick_in l.taken) x.term t.0 (pick-named m l.taken t.1) u)) (λ c xs g. rw g (write-plain v D k m p l.left x.term t.0 u)) (λ j g. rw g (write-plain v D k m p l.left x.term t.0 u))
      (λ j g. rw g (write-plain v D k m p l.left x.term t.0 u)) (λ j g. rw g (write-plain v D k m p l.left x.term t.0 u)) (λ g. rw g (write-plain v D k m p l.left x.term t.0 u))

  pub store-flushes : (p : Place) (l : Loc) (k : Kind) (x : Draft) → NamesLoc (below m) l → Names (below m) x.term → Flushes v lo m (Wrote v D lo m) (store p l k x)
  store-flushes p l k x t u = flush-keep (gives-found (converted-finds (below m) k x u)) (λ y h. written-flushes v D lo m (λ i. stored-bounded i p l y t h))

  module _ (s : Source) (w : World Answer) (a : Around) (ks : List Known) (known : Knows m ks) (late : Bool) where
    point-flushes : (p : Place) (l : Loc) (e : Tree) → NamesLoc (below m) l → Flushes v lo m (Wrote v D lo m) (point s w a ks late p l e)
    point-flushes p l (tree.Make at t xs) h = flush-keep (made-gives (below m) (lifts v lo m) s w a ks known late xs at t (pointing l.form)) (λ args u. plain-flushes v D lo m (λ n c k. refl) (λ n c d h. h) (λ n c b h. h))
    point-flushes p l e h = flush-keep (meant-gives (below m) (lifts v lo m) s w a ks known late e) (λ n t. flush-keep (gives-found (target-finds (below m) (place_of e) a.owner (pointing l.form) (is_zero e) n t)) (λ y u. written-flushes v D lo m (λ k. point-plain v D k m p l.left y h.0 u)))

    pub assign-flushes : (p left : Place) (o : Option Op) (at : Place) (e : Tree) (l : Loc) → NamesLoc (below m) l → Flushes v lo m (Wrote v D lo m) (assign s w a ks late p left o at e l)
    assign-flushes p left o at e l h = flush-if (is_pointer l.form && not (is_some o)) (point-flushes p l e h)
        (flush-keep (any-found (left_kind p l)) (λ k t. flush-keep (right-gives (below m) (lifts v lo m) s w a ks known late e) (λ x u. flush-keep (gives-found (combined-finds m left l o at x h u)) (λ y i. store-flushes p l k y h i))))

    written-to-flushes : (p : Place) (l : Loc) (x : Option Draft) (k : Walked Kind) → NamesLoc (below m) l → IsTypedValue (below m) x → Flushes v lo m (Wrote v D lo m) (written_to s w a ks late p l x k)
    written-to-flushes p l None k h t = flush-keep (any-found k) (λ k u. flush-none (λ r. refl))
    written-to-flushes p l (Some x) k h t = flush-keep (any-found k) (λ k u. store-flushes p l k x h t)

    refused-flushes : (p : Place) (xs : Trees) → Flushes v lo m (Wrote v D lo m) (refused s w a ks late p xs)
    refused-flushes p xs = flush-keep (any-gives (below m) (lifts v lo m) s w a ks known late xs) (λ u t. flush-none (λ r. refl))

    port-flushes : (p : Place) (xs : Trees) (x : ℕ) (l : Loc) → NamesLoc (below m) l → Flushes v lo m (Wrote v D lo m) (port_call s w a ks late p xs x l)
    port-flushes p xs x l h = flush-if (nat_eq x 1) (flush-keep (each-gives (below m) (lifts v lo m) s w a ks known late xs) (λ vs t. written-to-flushes p l (only s w a ks late vs) (left_kind p l) h (only-typed (below m) (lifts v lo m) s w a ks known late vs t)))
        (flush-if (nat_eq x 2) (flush-keep (bound-gives (below m) (lifts v lo m) s w a ks known late xs) (λ to t. flush-if (binds s w a ks late xs l.form.base) (plain-flushes v D lo m (λ n c k. refl) (λ n c d h. h) (λ n c b h. h)) (flush-none (λ r. refl)))) (refused-flushes p xs))

    subject-flushes : (p : Place) (xs : Trees) (x : ℕ) (of : Subject) → NamesSubject (below m) of → Flushes v lo m (Wrote v D lo m) (on_subject s w a ks late p xs x of)
    subject-flushes p xs x (OfDraft d) t = refused-flushes p xs
    subject-flushes p xs x (OfLoc l) t = flush-if (is_port l.form) (port-flushes p xs x l t) (refused-flushes p xs)

    pub called-flushes : (p : Place) (xs : Trees) (n : Meant) → NamesMeant (below m) n → Flushes v lo m (Wrote v D lo m) (called s w a ks late p xs n)
    called-flushes p xs (Done x of) t = subject-flushes p xs x of t
    called-flushes p xs Void t = written-flushes v D lo m (λ k. none v D (record { calls = k; locals = m }))
    called-flushes p xs n t = flush-if (is_call n) (written-flushes v D lo m (λ k. none v D (record { calls = k; locals = m }))) (flush-none (λ r. refl))
