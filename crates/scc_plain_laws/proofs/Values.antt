-- Values, targets and entries of statements, and objects that are made, have operators of the kinds that they say, where the calls that stand before a statement keep what is
-- asked of a room.
use Rattle.scc_base.specs.declared.refusal.Place.{Place}
use Rattle.scc_bits_kinds.specs.declared.kind.Kind.TheVariants as kind
use Rattle.scc_elab_spec.specs.Term.{Target}
use Rattle.scc_plain_laws.proofs.Calls.{IsAny, IsTypedDraft, LiftsKeep, argument-finds, made-argument-gives, target-finds}
use Rattle.scc_plain_laws.proofs.Expressions.{AnyUnit, any-gives, arguments-give, meant-gives, value-gives}
use Rattle.scc_plain_laws.proofs.Walks.{Gives, by-option, finds-any, gives-done, gives-found, gives-if, gives-none, gives-then}
use Rattle.scc_plain_spec.specs.Calls.{is_zero}
use Rattle.scc_plain_spec.specs.Constants.{typed}
use Rattle.scc_plain_spec.specs.Drafts.{Draft}
use Rattle.scc_plain_spec.specs.Forms.{Form, direct, is_like}
use Rattle.scc_plain_spec.specs.Inits.{last_target, names, one_target}
use Rattle.scc_plain_spec.specs.Making.{Constructor, by_constructor, constructed, constructor_of, elements, fits, form_in, given, leading, made, make_args}
use Rattle.scc_plain_spec.specs.Meant.{Done, Meant, location}
use Rattle.scc_plain_spec.specs.Processes.{edge_of, edge_sense, sense, sense_meant, senses}
use Rattle.scc_plain_spec.specs.Room.{Around, Known, known_as, Room, done, found, scope_in}
use Rattle.scc_plain_spec.specs.Scope.{Answer}
use Rattle.scc_plain_spec.specs.Simple.{bound_to, each_value, is_plain, last_args, one_location, one_value, only, right_side}
use Rattle.scc_plain_spec.specs.Types.{Base, InPort, OfName, OfNumber, OfObject, OfSignal, OutPort}
use Rattle.scc_templates_spec.specs.Source.{Source}
use Rattle.scc_templates_spec.specs.Statements as stmts
use Rattle.scc_templates_spec.specs.Tree.{Cons, Nil, Text, Tree, Trees, Ty, count, place_at, place_of}
use Rattle.scc_templates_spec.specs.Tree as tree
use Rattle.scc_templates_spec.specs.Walked.{Walked}
use Rattle.scc_templates_spec.specs.World.{World}
use Rattle.std.proofs.Common.{◌≡◌, ℕ, Bool, true, false, not, ◌||◌, nat_eq, List, [], ◌∷◌, length, Option, Some, None, refl, if◌then◌else◌}
use Rattle.std.specs.Prelude.{nat_le}
use Rattle.scc_plain_laws.proofs.Named.{Namable, Names, NamesTarget}

pub any-found : {R : Room → Type 0} {A : Type 0} (w : Walked A) → Gives R IsAny (found w)
any-found w = gives-found finds-any

module _ (some : Namable) where
  abbrev pub AreTypedValues : List (Option Draft) → Type 0
  AreTypedValues [] = Unit {0}
  AreTypedValues (None ∷ xs) = AreTypedValues xs
  AreTypedValues (Some x ∷ xs) = Names some x.term × AreTypedValues xs

  abbrev pub IsTypedValue : Option Draft → Type 0
  IsTypedValue None = Unit {0}
  IsTypedValue (Some x) = Names some x.term

  value-more : (x : Option Draft) (xs : List (Option Draft)) → IsTypedValue x → AreTypedValues xs → AreTypedValues (x ∷ xs)
  value-more None xs t u = u
  value-more (Some x) xs t u = (t, u)

  abbrev pub IsTypedGoal : Option Target → Type 0
  IsTypedGoal None = Unit {0}
  IsTypedGoal (Some t) = NamesTarget some t

  module _ {R : Room → Type 0} (lifts : LiftsKeep some R) where
    gives-any : {A : Type 0} (w : Walked A) → Gives R IsAny (found w)
    gives-any w = gives-found finds-any

    module _ (s : Source) (w : World Answer) (a : Around) (ks : List Known) (known : (x n : ℕ) → known_as ks x ≡ Some n → some.local n ≡ true) (late : Bool) where
      -- objects that are made
      module _ (xs : Trees) where
        given-gives : (p : Place) (fs : List Form) → Gives R IsAny (given s w a ks late xs p fs)
        given-gives p fs = gives-then (arguments-give some lifts s w a ks known late fs xs) (λ args t. gives-if (nat_le (count xs) (length fs)) (gives-done tt) (gives-none (λ r. refl)))

        constructed-gives : (p : Place) (wanted fs : List Form) → Gives R IsAny (constructed s w a ks late xs p wanted fs)
        constructed-gives p wanted fs = gives-then (arguments-give some lifts s w a ks known late wanted xs) (λ args t. gives-if (fits s w a ks late xs wanted fs) (gives-done tt) (gives-none (λ r. refl)))

        constructor-gives : (p name : Place) (k : Constructor) → Gives R IsAny (by_constructor s w a ks late xs p name k)
        constructor-gives p name k = by-option k.signature (λ g. rw g (gives-if (k.declared || not (nat_eq (count xs) 0)) (gives-none (λ r. refl)) (gives-done tt)))
            (λ g e. rw e (constructed-gives p (leading s w a ks late xs k.is_module g.params) g.params))

        pub make-gives : (p name : Place) (b : Base) (vector : Bool) → Gives R IsAny (make_args s w a ks late xs p name b vector)
        make-gives p name b true = gives-then (given-gives p (direct OfName ∷ direct (OfNumber (kind.Native 64 false)) ∷ [])) (λ args t. gives-then (gives-any (elements s w p name b)) (λ u t. gives-done {x = args} tt))
        make-gives p name (OfObject c as_given) false = gives-then (gives-any (constructor_of s w c as_given name)) (λ k t. constructor-gives p name k)
        make-gives p name (OfNumber k) false = given-gives p (if nat_eq (count xs) 1 then direct (OfNumber k) ∷ [] else [])
        make-gives p name OfName false = gives-then (any-gives some lifts s w a ks known late xs) (λ u t. gives-none (λ r. refl))
        make-gives p name (InPort k) false = given-gives p (direct OfName ∷ [])
        make-gives p name (OutPort k) false = given-gives p (direct OfName ∷ [])
        make-gives p name (OfSignal k) false = given-gives p (direct OfName ∷ [])

        pub made-gives : (p : Place) (t : Ty) (f : Form) → Gives R IsAny (made s w a ks late xs p t f)
        made-gives p t f = gives-then (gives-any (typed s w (scope_in a ks) t)) (λ y u. gives-then (make-gives p (place_at t) y.base y.vector) (λ args u. gives-if (is_like (form_in s w a ks late xs y) f) (gives-done tt) (gives-none (λ r. refl))))

      pub right-gives : (e : Tree) → Gives R (IsTypedDraft some) (right_side s w a ks late e)
      right-gives (tree.Make p t xs) = gives-then (any-gives some lifts s w a ks known late xs) (λ u t. gives-none (λ r. refl))
      right-gives e = value-gives some lifts s w a ks known late e

      one-gives : (t : Tree) → Gives R IsTypedValue (one_value s w a ks late t)
      one-gives (tree.Make p t xs) = gives-then (any-gives some lifts s w a ks known late xs) (λ u t. gives-done {x = None} tt)
      one-gives t = gives-if (is_plain s w a ks late t) (gives-then (value-gives some lifts s w a ks known late t) (λ x h. gives-done {x = Some x} h)) (gives-done {x = None} tt)

      pub each-gives : (xs : Trees) → Gives R AreTypedValues (each_value s w a ks late xs)
      each-gives Nil = gives-done tt
      each-gives (Cons t ts) = gives-then (one-gives t) (λ x h. gives-then (each-gives ts) (λ xs u. gives-done (value-more x xs h u)))

      pub only-typed : (xs : List (Option Draft)) → AreTypedValues xs → IsTypedValue (only s w a ks late xs)
      only-typed [] t = tt
      only-typed (None ∷ []) t = tt
      only-typed (Some x ∷ []) t = t.0
      only-typed (x ∷ y ∷ xs) t = tt

      location-gives : (t : Tree) → Gives R IsAny (one_location s w a ks late t)
      location-gives (tree.Make p t xs) = gives-then (any-gives some lifts s w a ks known late xs) (λ u t. gives-done {x = None} tt)
      location-gives t = gives-then (meant-gives some lifts s w a ks known late t) (λ m h. gives-done {x = location m} tt)

      pub bound-gives : (xs : Trees) → Gives R IsAny (bound_to s w a ks late xs)
      bound-gives Nil = gives-done {x = None} tt
      bound-gives (Cons t Nil) = location-gives t
      bound-gives (Cons t (Cons u ts)) = gives-then (location-gives t) (λ l h. bound-gives (Cons u ts))

      sense-meant-gives : (p : Place) (xs : Trees) (m : Meant) → Gives R IsAny (sense_meant s w a ks late p xs m)
      sense-meant-gives p xs (Done x of) = gives-then (any-gives some lifts s w a ks known late xs) (λ u t. gives-any (edge_of s w a ks late p x of xs))
      sense-meant-gives p xs m = gives-done tt

      sense-gives : (e : Tree) → Gives R IsAny (sense s w a ks late e)
      sense-gives e = gives-then (meant-gives some lifts s w a ks known late e) (λ m t. sense-meant-gives (place_of e) (last_args e) m)

      pub senses-give : (xs : Trees) → Gives R IsAny (senses s w a ks late xs)
      senses-give Nil = gives-done tt
      senses-give (Cons t ts) = gives-then (sense-gives t) (λ x u. gives-then (senses-give ts) (λ xs u. gives-done {x = x ∷ xs} tt))

      pub edge-gives : (q : stmts.Process) → Gives R IsAny (edge_sense s w a ks late q)
      edge-gives (stmts.Clocked e) = gives-then (sense-gives e) (λ x t. gives-done {x = Some x} tt)
      edge-gives stmts.Method = gives-done {x = None} tt
      edge-gives stmts.Thread = gives-done {x = None} tt

    module _ (s : Source) (w : World Answer) (a : Around) (ks : List Known) (known : (x n : ℕ) → known_as ks x ≡ Some n → some.local n ≡ true) where
      pub names-give : (xs : Trees) → Gives R AnyUnit (names s w a ks xs)
      names-give Nil = gives-done tt
      names-give (Cons (tree.Make p t xs) ts) = gives-then (made-argument-gives some lifts p (direct OfName) (done tt) (gives-done tt)) (λ x h. names-give ts)
      names-give (Cons t ts) = gives-then (gives-then (meant-gives some lifts s w a ks known false t) (λ m h. gives-found (argument-finds some (place_of t) a.owner (direct OfName) false m h))) (λ x h. names-give ts)

      goal-gives : (f : Form) (t : Tree) → Gives R IsTypedGoal (one_target s w a ks f t)
      goal-gives f (tree.Make p t xs) = gives-then (any-gives some lifts s w a ks known false xs) (λ u t. gives-done {x = None} tt)
      goal-gives f (Text p) = gives-done tt
      goal-gives f t = gives-then (gives-then (meant-gives some lifts s w a ks known false t) (λ m h. gives-found (target-finds some (place_of t) a.owner f (is_zero t) m h))) (λ x h. gives-done {x = Some x} h)

      pub last-gives : (f : Form) (xs : Trees) → Gives R IsTypedGoal (last_target s w a ks f xs)
      last-gives f Nil = gives-done tt
      last-gives f (Cons t Nil) = goal-gives f t
      last-gives f (Cons t (Cons u ts)) = gives-then (goal-gives f t) (λ x h. gives-then (last-gives f (Cons u ts)) (λ y k. gives-done {x = None} tt))
