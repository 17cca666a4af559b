-- Initialisers of constructors have operators of the kinds that they say.
use Rattle.std.proofs.Common.{ℕ, false, not, ◌&&◌, ◌||◌, nat_eq, List, Option, Some, None, refl}
use Rattle.std.specs.Prelude.{nat_le}
use Rattle.scc_base.specs.declared.refusal.Place.{Place}
use Rattle.scc_bits_kinds.specs.declared.kind.Kind.{Kind}
use Rattle.scc_templates_spec.specs.Walk.{Args, Uses}
use Rattle.scc_templates_spec.specs.Walked.{pure, meets, and_walk}
use Rattle.scc_templates_spec.specs.World.{Owner, File, In, World}
use Rattle.scc_templates_spec.specs.Tree.{Tree, Make as New, Trees, Nil, Cons, count}
use Rattle.scc_templates_spec.specs.Source.{Source}
use Rattle.scc_elab_spec.specs.Term.{Left, This, Target}
use Rattle.scc_elab_spec.specs.Term as term
use Rattle.scc_plain_spec.specs.Types.{Base, OfNumber}
use Rattle.scc_plain_spec.specs.Names.{Entry, IsField, meaning_in}
use Rattle.scc_plain_spec.specs.Scope.{Answer}
use Rattle.scc_plain_spec.specs.Drafts.{Draft}
use Rattle.scc_plain_spec.specs.Forms.{Form, is_pointer, is_direct}
use Rattle.scc_plain_spec.specs.Room.{Around, Known}
use Rattle.scc_plain_spec.specs.Shapes.{field_form}
use Rattle.scc_plain_spec.specs.Simple.{only}
use Rattle.scc_plain_spec.specs.Inits.{is_object, aimed, made_at, pointed, number_from, named_once, plain_begun, begun, member_begun, by_owner, init}
use Rattle.scc_plain_laws.proofs.Walks.{Gives, gives-done, gives-found, gives-none, gives-then, gives-if}
use Rattle.scc_plain_laws.proofs.Calls.{converted-finds}
use Rattle.scc_plain_kinds_laws.proofs.Kept.{any-known, Keeps, RoomKeeps, lifts, keeps-nothing, keeps-plain, keeps-assign, keeps-point, written-gives}
use Rattle.scc_plain_laws.proofs.Values.{any-found, IsTypedValue, IsTypedGoal, each-gives, only-typed, names-give, last-gives, make-gives, made-gives}
use Rattle.scc_plain_laws.proofs.Named.{NamesLeft, any_local}

module _ (s : Source) (w : World Answer) (a : Around) (ks : List Known) where
  aimed-gives : (p : Place) (f : Form) (l : Left) (t : Option Target) → NamesLeft any_local l → IsTypedGoal any_local t → Gives RoomKeeps Keeps (aimed s w a ks p f l t)
  aimed-gives p f l None h t = gives-none (λ r. refl)
  aimed-gives p f l (Some x) h t = gives-if (nat_eq f.dims 0) (written-gives (keeps-point p l x h t)) (gives-none (λ r. refl))

  made-at-gives : (p : Place) (f : Form) (l : Left) (t : Tree) (xs : Trees) → NamesLeft any_local l → Gives RoomKeeps Keeps (made_at s w a ks p f l t xs)
  made-at-gives p f l (New at t ys) xs h = gives-then (made-gives any_local lifts s w a ks (any-known ks) false ys at t f) (λ args u. written-gives (keeps-plain (λ n c. refl)))
  made-at-gives p f l t xs h = gives-then (last-gives any_local lifts s w a ks (any-known ks) f xs) (λ x u. aimed-gives p f l x h u)

  pointed-gives : (p : Place) (f : Form) (l : Left) (xs : Trees) → NamesLeft any_local l → Gives RoomKeeps Keeps (pointed s w a ks p f l xs)
  pointed-gives p f l Nil h = gives-if (is_pointer f) (gives-done keeps-nothing) (gives-none (λ r. refl))
  pointed-gives p f l (Cons t Nil) h = gives-if (is_pointer f && nat_eq f.dims 0) (made-at-gives p f l t (Cons t Nil) h) (gives-then (last-gives any_local lifts s w a ks (any-known ks) f (Cons t Nil)) (λ x u. aimed-gives p f l x h u))
  pointed-gives p f l (Cons t (Cons u ts)) h = gives-then (last-gives any_local lifts s w a ks (any-known ks) f (Cons t (Cons u ts))) (λ x u. aimed-gives p f l x h u)

  number-gives : (p : Place) (l : Left) (k : Kind) (f : Form) (x : Option Draft) → NamesLeft any_local l → IsTypedValue any_local x → Gives RoomKeeps Keeps (number_from s w a ks p l k f x)
  number-gives p l k f None h t = gives-none (λ r. refl)
  number-gives p l k f (Some x) h t = gives-if (nat_eq f.dims 0) (gives-then (gives-found (converted-finds any_local k x t)) (λ y u. written-gives (keeps-assign p l term.Whole y.term h tt u))) (gives-none (λ r. refl))

  once-gives : (p : Place) (xs : Trees) → Gives RoomKeeps Keeps (named_once s w a ks p xs)
  once-gives p xs = gives-then (names-give any_local lifts s w a ks (any-known ks) xs) (λ u t. gives-if (nat_le (count xs) 1) (written-gives keeps-nothing) (gives-none (λ r. refl)))

  plain-gives : (p : Place) (f : Form) (l : Left) (xs : Trees) (b : Base) → NamesLeft any_local l → Gives RoomKeeps Keeps (plain_begun s w a ks p f l xs b)
  plain-gives p f l xs (OfNumber k) h = gives-then (each-gives any_local lifts s w a ks (any-known ks) false xs) (λ vs t. gives-if (nat_eq (count xs) 0) (gives-done keeps-nothing) (number-gives p l k f (only s w a ks false vs) h (only-typed any_local lifts s w a ks (any-known ks) false vs t)))
  plain-gives p f l xs b h = once-gives p xs

  begun-gives : (p : Place) (f : Form) (l : Left) (xs : Trees) → NamesLeft any_local l → Gives RoomKeeps Keeps (begun s w a ks p f l xs)
  begun-gives p f l xs h = gives-if (not (is_direct f)) (pointed-gives p f l xs h)
      (gives-if (f.vector || is_object f.base) (gives-then (make-gives any_local lifts s w a ks (any-known ks) false xs p p f.base f.vector) (λ args u. written-gives (keeps-plain (λ n c. refl)))) (plain-gives p f l xs f.base h))

  member-gives : (c : ℕ) (as_given : Args) (p : Place) (xs : Trees) (e : Option Entry) → Gives RoomKeeps Keeps (member_begun s w a ks c as_given p xs e)
  member-gives c as_given p xs None = gives-none (λ r. refl)
  member-gives c as_given p xs (Some (IsField k)) = gives-then (any-found (and_walk (field_form s w c as_given k p) (λ f. and_walk (meets Uses) (λ u. pure f)))) (λ f t. begun-gives p f (term.Member (This p) k) xs (tt, refl))
  member-gives c as_given p xs (Some e) = gives-none (λ r. refl)

  owner-gives : (o : Owner) (p : Place) (x : ℕ) (xs : Trees) → Gives RoomKeeps Keeps (by_owner s w a ks o p x xs)
  owner-gives File p x xs = gives-none (λ r. refl)
  owner-gives (In c as_given) p x xs = member-gives c as_given p xs (meaning_in a.own x)

  pub init-gives : (p : Place) (x : Option ℕ) (xs : Trees) → Gives RoomKeeps Keeps (init s w a ks p x xs)
  init-gives p None xs = gives-then (names-give any_local lifts s w a ks (any-known ks) xs) (λ u t. gives-if (nat_eq (count xs) 1) (written-gives keeps-nothing) (gives-none (λ r. refl)))
  init-gives p (Some x) xs = owner-gives a.owner p x xs
