-- Initialisers write what is bounded.
use Rattle.std.proofs.Common.{ℕ, Bool, false, not, ◌&&◌, ◌||◌, nat_eq, List, Option, Some, None, refl}
use Rattle.std.specs.Prelude.{nat_le}
use Rattle.scc_base.specs.declared.refusal.Place.{Place}
use Rattle.scc_bits_kinds.specs.declared.kind.Kind.{Kind}
use Rattle.scc_templates_spec.specs.Walk.{Args, Uses}
use Rattle.scc_templates_spec.specs.Walked.{pure, meets, and_walk}
use Rattle.scc_templates_spec.specs.World.{Owner, File, In, World}
use Rattle.scc_templates_spec.specs.Tree.{Tree, Trees, Nil, Cons, count}
use Rattle.scc_templates_spec.specs.Tree as tree
use Rattle.scc_templates_spec.specs.Source.{Source}
use Rattle.scc_elab_spec.specs.Term.{Left, Target, Whole}
use Rattle.scc_elab_spec.specs.Term as term
use Rattle.scc_elab_spec.specs.Program.{Reach}
use Rattle.scc_plain_spec.specs.Types.{Base, OfNumber}
use Rattle.scc_plain_spec.specs.Names.{Entry, IsField, meaning_in}
use Rattle.scc_plain_spec.specs.Scope.{Answer}
use Rattle.scc_plain_spec.specs.Drafts.{Draft}
use Rattle.scc_plain_spec.specs.Forms.{Form, is_direct, is_pointer}
use Rattle.scc_plain_spec.specs.Room.{Around, Known, Writes, Step}
use Rattle.scc_plain_spec.specs.Shapes.{field_form}
use Rattle.scc_plain_spec.specs.Simple.{only}
use Rattle.scc_plain_spec.specs.Single.{begun}
use Rattle.scc_plain_laws.proofs.Walks.{gives-found}
use Rattle.scc_plain_laws.proofs.Named.{NamesLeft}
use Rattle.scc_plain_laws.proofs.Calls.{converted-finds}
use Rattle.scc_plain_laws.proofs.Values.{any-found, IsTypedValue, IsTypedGoal, only-typed, each-gives, made-gives, make-gives, names-give, last-gives}
use Rattle.scc_plain_bounds_laws.proofs.Bounded.{Mark, none}
use Rattle.scc_plain_bounds_laws.proofs.Flushes.{lifts, Flushes, flush-done, flush-none, flush-keep, flush-if, Wrote, written-flushes, plain-flushes}
use Rattle.scc_plain_bounds_laws.proofs.Within.{below, Knows, assign-plain, point-plain}
use Rattle.scc_plain_spec.specs.Inits.{is_object, aimed, made_at, pointed, number_from, named_once, plain_begun, member_begun, by_owner, init}
use Rattle.scc_plain_spec.specs.Inits as inits

module _ (v : Bool) (D : ℕ → Type 0) (lo : Mark) (s : Source) (w : World Answer) (a : Around) (ks : List Known) (known : Knows lo.locals ks) where
  abbrev m : List Reach
  m = lo.locals

  abbrev Flat : Step Writes → Type 0
  Flat f = Flushes v lo m (Wrote v D lo m) f

  aimed-flushes : (p : Place) (f : Form) (l : Left) (t : Option Target) → NamesLeft (below m) l → IsTypedGoal (below m) t → Flat (aimed s w a ks p f l t)
  aimed-flushes p f l None h t = flush-none (λ r. refl)
  aimed-flushes p f l (Some x) h t = flush-if (nat_eq f.dims 0) (written-flushes v D lo m (λ k. point-plain v D k m p l x h t)) (flush-none (λ r. refl))

  made-at-flushes : (p : Place) (f : Form) (l : Left) (t : Tree) (xs : Trees) → NamesLeft (below m) l → Flat (made_at s w a ks p f l t xs)
  made-at-flushes p f l (tree.Make at t ys) xs h = flush-keep (made-gives (below m) (lifts v lo m) s w a ks known false ys at t f) (λ args u. plain-flushes v D lo m (λ n c k. refl) (λ n c d h. h) (λ n c b h. h))
  made-at-flushes p f l t xs h = flush-keep (last-gives (below m) (lifts v lo m) s w a ks known f xs) (λ x u. aimed-flushes p f l x h u)

  pointed-flushes : (p : Place) (f : Form) (l : Left) (xs : Trees) → NamesLeft (below m) l → Flat (pointed s w a ks p f l xs)
  pointed-flushes p f l Nil h = flush-if (is_pointer f) (flush-done (none v D lo)) (flush-none (λ r. refl))
  pointed-flushes p f l (Cons t Nil) h = flush-if (is_pointer f && nat_eq f.dims 0) (made-at-flushes p f l t (Cons t Nil) h) (flush-keep (last-gives (below m) (lifts v lo m) s w a ks known f (Cons t Nil)) (λ x u. aimed-flushes p f l x h u))
  pointed-flushes p f l (Cons t (Cons u ts)) h = flush-keep (last-gives (below m) (lifts v lo m) s w a ks known f (Cons t (Cons u ts))) (λ x i. aimed-flushes p f l x h i)

  number-flushes : (p : Place) (l : Left) (k : Kind) (f : Form) (x : Option Draft) → NamesLeft (below m) l → IsTypedValue (below m) x → Flat (number_from s w a ks p l k f x)
  number-flushes p l k f None h t = flush-none (λ r. refl)
  number-flushes p l k f (Some x) h t = flush-if (nat_eq f.dims 0) (flush-keep (gives-found (converted-finds (below m) k x t)) (λ y u. written-flushes v D lo m (λ i. assign-plain v D i m p l Whole y.term h tt u))) (flush-none (λ r. refl))

  once-flushes : (p : Place) (xs : Trees) → Flat (named_once s w a ks p xs)
  once-flushes p xs = flush-keep (names-give (below m) (lifts v lo m) s w a ks known xs) (λ u t. flush-if (nat_le (count xs) 1) (written-flushes v D lo m (λ k. none v D (record { calls = k; locals = m }))) (flush-none (λ r. refl)))

  plain-flush : (p : Place) (f : Form) (l : Left) (xs : Trees) (b : Base) → NamesLeft (below m) l → Flat (plain_begun s w a ks p f l xs b)
  plain-flush p f l xs (OfNumber k) h = flush-keep (each-gives (below m) (lifts v lo m) s w a ks known false xs) (λ vs t. flush-if (nat_eq (count xs) 0) (flush-done (none v D lo)) (number-flushes p l k f (only s w a ks false vs) h (only-typed (below m) (lifts v lo m) s w a ks known false vs t)))
  plain-flush p f l xs b h = once-flushes p xs

  begun-flushes : (p : Place) (f : Form) (l : Left) (xs : Trees) → NamesLeft (below m) l → Flat (inits.begun s w a ks p f l xs)
  begun-flushes p f l xs h = flush-if (not (is_direct f)) (pointed-flushes p f l xs h)
      (flush-if (f.vector || is_object f.base) (flush-keep (make-gives (below m) (lifts v lo m) s w a ks known false xs p p f.base f.vector) (λ args u. plain-flushes v D lo m (λ n c k. refl) (λ n c d h. h) (λ n c b h. h))) (plain-flush p f l xs f.base h))

  member-flushes : (c : ℕ) (as_given : Args) (p : Place) (xs : Trees) (e : Option Entry) → Flat (member_begun s w a ks c as_given p xs e)
  member-flushes c as_given p xs None = flush-none (λ r. refl)
  member-flushes c as_given p xs (Some (IsField k)) = flush-keep (any-found (and_walk (field_form s w c as_given k p) (λ f. and_walk (meets Uses) (λ u. pure f)))) (λ f t. begun-flushes p f (term.Member (term.This p) k) xs (tt, refl))
  member-flushes c as_given p xs (Some e) = flush-none (λ r. refl)

  owner-flushes : (o : Owner) (p : Place) (x : ℕ) (xs : Trees) → Flat (by_owner s w a ks o p x xs)
  owner-flushes File p x xs = flush-none (λ r. refl)
  owner-flushes (In c as_given) p x xs = member-flushes c as_given p xs (meaning_in a.own x)

  pub init-flushes : (p : Place) (x : Option ℕ) (xs : Trees) → Flat (init s w a ks p x xs)
  init-flushes p None xs = flush-keep (names-give (below m) (lifts v lo m) s w a ks known xs) (λ u t. flush-if (nat_eq (count xs) 1) (written-flushes v D lo m (λ k. none v D (record { calls = k; locals = m }))) (flush-none (λ r. refl)))
  init-flushes p (Some x) xs = owner-flushes a.owner p x xs
