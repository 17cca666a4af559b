-- Assignments and calls as statements, and objects that are made, have operators of the kinds that they say.
use Rattle.std.proofs.Common.{ℕ, Bool, not, ◌&&◌, ◌||◌, nat_eq, List, Option, Some, None, is_some, refl}
use Rattle.scc_base.specs.declared.refusal.Place.{Place}
use Rattle.scc_bits_kinds.specs.declared.kind.Kind.{Kind}
use Rattle.scc_bits_kinds.specs.declared.op.Op.{Op}
use Rattle.scc_templates_spec.specs.Walked.{Walked}
use Rattle.scc_templates_spec.specs.World.{World}
use Rattle.scc_templates_spec.specs.Tree.{Tree, Trees, place_of}
use Rattle.scc_templates_spec.specs.Tree as tree
use Rattle.scc_templates_spec.specs.Source.{Source}
use Rattle.scc_elab_spec.specs.Program.{Make}
use Rattle.scc_plain_spec.specs.Scope.{Answer}
use Rattle.scc_plain_spec.specs.Drafts.{Draft}
use Rattle.scc_plain_spec.specs.Forms.{Form, is_pointer, is_port, Taken, AllOf, BitsOf, Loc, pick_in, value_at, Subject, OfDraft, OfLoc}
use Rattle.scc_plain_spec.specs.Meant.{Meant, Stands, Done, Void, is_call}
use Rattle.scc_plain_spec.specs.Room.{Around, Known, found, and_step}
use Rattle.scc_plain_spec.specs.Calls.{target, is_zero}
use Rattle.scc_plain_spec.specs.Expressions.{meant}
use Rattle.scc_plain_spec.specs.Simple.{assigned, left_kind, stored, store, combined, pointing, point, assign, only, written_to, binds, refused, port_call, on_subject, called}
use Rattle.scc_plain_laws.proofs.Meanings.{value-at-is}
use Rattle.scc_plain_laws.proofs.Walks.{Finds, finds-pure, finds-none, finds-then, finds-if, by-base, Gives, gives-found, gives-none, gives-then, gives-if}
use Rattle.scc_plain_laws.proofs.Calls.{IsTypedDraft, converted-finds, target-finds}
use Rattle.scc_plain_laws.proofs.Expressions.{operate-finds, meant-gives, any-gives}
use Rattle.scc_plain_laws.proofs.Values.{any-found, IsTypedValue, right-gives, each-gives, only-typed, bound-gives, made-gives}
use Rattle.scc_plain_kinds_laws.proofs.Kept.{any-known, Keeps, RoomKeeps, lifts, keeps-nothing, keeps-plain, keeps-assign, keeps-point, keeps-write, written-gives}
use Rattle.scc_plain_laws.proofs.Named.{Names, NamesLoc, NamesMeant, NamesPick, NamesSubject, NamesTaken, NamesTarget, any_local}

pub assigned-finds : (p : Place) (m : Meant) → NamesMeant any_local m → Finds (NamesLoc any_local) (assigned p m)
assigned-finds p (Stands l) t = finds-if (nat_eq l.form.dims 0 && (not l.form.vector || is_pointer l.form)) (finds-pure t) (finds-none refl)
assigned-finds p m t = finds-none refl

pick-typed : (t : Taken) → NamesTaken any_local t → NamesPick any_local (pick_in t)
pick-typed AllOf t = tt
pick-typed (BitsOf k j) t = t

stored-keeps : (p : Place) (l : Loc) (x : Draft) → NamesLoc any_local l → Names any_local x.term → Keeps (stored p l x)
stored-keeps p l x t u = by-base l.form.base (λ k g. rw g (keeps-assign p l.left (pick_in l.taken) x.term t.0 (pick-typed l.taken t.1) u)) (λ c xs g. rw g (keeps-write p l.left x.term t.0 u)) (λ k g. rw g (keeps-write p l.left x.term t.0 u))
    (λ k g. rw g (keeps-write p l.left x.term t.0 u)) (λ k g. rw g (keeps-write p l.left x.term t.0 u)) (λ g. rw g (keeps-write p l.left x.term t.0 u))

pub store-gives : (p : Place) (l : Loc) (k : Kind) (x : Draft) → NamesLoc any_local l → Names any_local x.term → Gives RoomKeeps Keeps (store p l k x)
store-gives p l k x t u = gives-then (gives-found (converted-finds any_local k x u)) (λ y v. written-gives (stored-keeps p l y t v))

value-at-finds : (p : Place) (l : Loc) → NamesLoc any_local l → Finds (IsTypedDraft any_local) (value_at p l)
value-at-finds p l t = record { holds = λ x e. value-at-is any_local p l x t e }

pub combined-finds : (p : Place) (l : Loc) (o : Option Op) (at : Place) (x : Draft) → NamesLoc any_local l → Names any_local x.term → Finds (IsTypedDraft any_local) (combined p l o at x)
combined-finds p l None at x t u = finds-pure u
combined-finds p l (Some o) at x t u = finds-then (value-at-finds p l t) (λ old h. operate-finds any_local p at o old x h u)

module _ (s : Source) (w : World Answer) (a : Around) (ks : List Known) (late : Bool) where
  pub target-gives : (f : Form) (e : Tree) → Gives RoomKeeps (NamesTarget any_local) (and_step (meant s w a ks late e) (λ m. found (target (place_of e) a.owner f (is_zero e) m)))
  target-gives f e = gives-then (meant-gives any_local lifts s w a ks (any-known ks) late e) (λ m t. gives-found (target-finds any_local (place_of e) a.owner f (is_zero e) m t))

  point-gives : (p : Place) (l : Loc) (e : Tree) → NamesLoc any_local l → Gives RoomKeeps Keeps (point s w a ks late p l e)
  point-gives p l (tree.Make at t xs) h = gives-then (made-gives any_local lifts s w a ks (any-known ks) late xs at t (pointing l.form)) (λ args u. written-gives (keeps-plain (λ n c. refl)))
  point-gives p l e h = gives-then (meant-gives any_local lifts s w a ks (any-known ks) late e) (λ m t. gives-then (gives-found (target-finds any_local (place_of e) a.owner (pointing l.form) (is_zero e) m t)) (λ x u. written-gives (keeps-point p l.left x h.0 u)))

  pub assign-gives : (p left : Place) (o : Option Op) (at : Place) (e : Tree) (l : Loc) → NamesLoc any_local l → Gives RoomKeeps Keeps (assign s w a ks late p left o at e l)
  assign-gives p left o at e l h = gives-if (is_pointer l.form && not (is_some o)) (point-gives p l e h)
      (gives-then (any-found (left_kind p l)) (λ k t. gives-then (right-gives any_local lifts s w a ks (any-known ks) late e) (λ x u. gives-then (gives-found (combined-finds left l o at x h u)) (λ y v. store-gives p l k y h v))))

  written-to-gives : (p : Place) (l : Loc) (x : Option Draft) (k : Walked Kind) → NamesLoc any_local l → IsTypedValue any_local x → Gives RoomKeeps Keeps (written_to s w a ks late p l x k)
  written-to-gives p l None k h t = gives-then (any-found (k)) (λ k u. gives-none (λ r. refl))
  written-to-gives p l (Some x) k h t = gives-then (any-found (k)) (λ k u. store-gives p l k x h t)

  refused-gives : (p : Place) (xs : Trees) → Gives RoomKeeps Keeps (refused s w a ks late p xs)
  refused-gives p xs = gives-then (any-gives any_local lifts s w a ks (any-known ks) late xs) (λ u t. gives-none (λ r. refl))

  port-gives : (p : Place) (xs : Trees) (x : ℕ) (l : Loc) → NamesLoc any_local l → Gives RoomKeeps Keeps (port_call s w a ks late p xs x l)
  port-gives p xs x l h = gives-if (nat_eq x 1) (gives-then (each-gives any_local lifts s w a ks (any-known ks) late xs) (λ vs t. written-to-gives p l (only s w a ks late vs) (left_kind p l) h (only-typed any_local lifts s w a ks (any-known ks) late vs t)))
      (gives-if (nat_eq x 2) (gives-then (bound-gives any_local lifts s w a ks (any-known ks) late xs) (λ to t. gives-if (binds s w a ks late xs l.form.base) (written-gives (keeps-plain (λ n c. refl))) (gives-none (λ r. refl)))) (refused-gives p xs))

  subject-gives : (p : Place) (xs : Trees) (x : ℕ) (of : Subject) → NamesSubject any_local of → Gives RoomKeeps Keeps (on_subject s w a ks late p xs x of)
  subject-gives p xs x (OfDraft d) t = refused-gives p xs
  subject-gives p xs x (OfLoc l) t = gives-if (is_port l.form) (port-gives p xs x l t) (refused-gives p xs)

  pub called-keeps : (p : Place) (xs : Trees) (m : Meant) → NamesMeant any_local m → Gives RoomKeeps Keeps (called s w a ks late p xs m)
  called-keeps p xs (Done x of) t = subject-gives p xs x of t
  called-keeps p xs Void t = written-gives keeps-nothing
  called-keeps p xs m t = gives-if (is_call m) (written-gives keeps-nothing) (gives-none (λ r. refl))
