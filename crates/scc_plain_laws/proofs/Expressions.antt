-- What expressions of a body mean has operators of the kinds that they say.
use Rattle.std.proofs.Common.{◌≡◌, ℕ, Bool, true, ◌||◌, List, [], ◌∷◌, Some, refl}
use Rattle.scc_base.specs.declared.refusal.Place.{Place}
use Rattle.scc_bits_kinds.specs.declared.kind.Kind.{Kind}
use Rattle.scc_bits_kinds.specs.declared.kind.Kind.TheVariants as kind
use Rattle.scc_bits_kinds.specs.declared.op.Op.{Op}
use Rattle.scc_templates_spec.specs.Walked.{Walked}
use Rattle.scc_templates_spec.specs.World.{World}
use Rattle.scc_templates_spec.specs.Tree.{Tree, Given, This, Null, Text, Name, Scoped, Operate, Before, Choose, Cast, Index, Dot, Arrow, Call, Concat, Make, Trees, Nil, Cons, place_of}
use Rattle.scc_templates_spec.specs.Tree as tree
use Rattle.scc_templates_spec.specs.Source.{Source}
use Rattle.scc_plain_spec.specs.Types.{object_in, kind_in}
use Rattle.scc_plain_spec.specs.Scope.{Answer, look}
use Rattle.scc_plain_spec.specs.Constants.{typed}
use Rattle.scc_plain_spec.specs.Drafts.{Draft, operate, choose, cast, concat}
use Rattle.scc_plain_spec.specs.Forms.{Form}
use Rattle.scc_plain_spec.specs.Meant.{Meant, indexed}
use Rattle.scc_plain_spec.specs.Room.{Around, Known, Room, known_as, scope_in, Step}
use Rattle.scc_plain_spec.specs.Calls.{is_zero}
use Rattle.scc_plain_spec.specs.Expressions.{is_lazy, valued, a_value, meant, values, any, arguments, value, condition}
use Rattle.scc_plain_laws.proofs.Drafted.{operate-is, choose-is, cast-is, concat-is}
use Rattle.scc_plain_laws.proofs.Meanings.{indexed-is}
use Rattle.scc_plain_laws.proofs.Walks.{Finds, finds-pure, finds-none, finds-any, finds-then, finds-behind, by-option, Gives, gives-done, gives-found, gives-none, gives-then, gives-in}
use Rattle.scc_plain_laws.proofs.Things.{given-finds, this-finds, named-finds, scoped-finds, dot-finds, arrow-finds}
use Rattle.scc_plain_laws.proofs.Calls.{IsTypedDraft, AreTypedArguments, IsAny, LiftsKeep, taken-finds, converted-finds, unary-finds, argument-finds, made-argument-gives, behind-gives}
use Rattle.scc_plain_laws.proofs.Named.{Namable, AllNames, Names, NamesMeant}

abbrev pub AnyUnit : Unit {0} → Type 0
AnyUnit u = Unit {0}

module _ (some : Namable) where
  pub operate-finds : (p at : Place) (o : Op) (x y : Draft) → Names some x.term → Names some y.term → Finds (IsTypedDraft some) (operate p at o x y)
  operate-finds p at o x y t u = record { holds = λ z e. operate-is some p at o x y z t u e }

  choose-finds : (p : Place) (x y z : Draft) → Names some x.term → Names some y.term → Names some z.term → Finds (IsTypedDraft some) (choose p x y z)
  choose-finds p x y z t u v = record { holds = λ d e. choose-is some p x y z d t u v e }

  cast-finds : (p : Place) (k : Kind) (x : Draft) → Names some x.term → Finds (IsTypedDraft some) (cast p k x)
  cast-finds p k x t = record { holds = λ y e. cast-is some p k x y t e }

  concat-finds : (p : Place) (xs : List Draft) → AllNames some xs → Finds (IsTypedDraft some) (concat p xs)
  concat-finds p xs t = record { holds = λ x e. concat-is some p xs x t e }

  indexed-finds : (p : Place) (m : Meant) (i : Draft) → NamesMeant some m → Names some i.term → Finds (NamesMeant some) (indexed p m i)
  indexed-finds p m i t u = record { holds = λ n e. indexed-is some p m i n t u e }

  module _ {R : Room → Type 0} (lifts : LiftsKeep some R) where
    valued-gives : (p : Place) {m : Step Meant} → Gives R (NamesMeant some) m → Gives R (IsTypedDraft some) (valued p m)
    valued-gives p h = gives-then h (λ m t. gives-found (taken-finds some p m t))

    value-given : {x : Walked Draft} → Finds (IsTypedDraft some) x → Gives R (NamesMeant some) (a_value x)
    value-given h = gives-found (finds-then h (λ x t. finds-pure t))

    module _ (s : Source) (w : World Answer) (a : Around) (ks : List Known) (known : (x n : ℕ) → known_as ks x ≡ Some n → some.local n ≡ true) where
      mutual
        pub meant-gives : (late : Bool) (t : Tree) → Gives R (NamesMeant some) (meant s w a ks late t)
        meant-gives late (tree.Number p k v) = gives-done tt
        meant-gives late (Given p arg) = gives-found (given-finds some p arg)
        meant-gives late (This p) = gives-found (this-finds some p a.owner)
        meant-gives late (Null p) = gives-done tt
        meant-gives late (Text p) = gives-done tt
        meant-gives late (Name p x) = gives-in (λ r k. named-finds some s w a p x (known_as ks x) (known x) r (lifts.forms r k p) (look s (scope_in a ks) x))
        meant-gives late (Scoped p t x) = gives-found (finds-behind (typed s w (scope_in a ks) t) (λ y. scoped-finds some s w a p x (object_in y)))
        meant-gives late (Operate p at o l r) = gives-then (valued-gives (place_of l) (meant-gives late l)) (λ x t. gives-then (valued-gives (place_of r) (meant-gives (late || is_lazy o) r)) (λ y u. value-given (operate-finds p at o x y t u)))
        meant-gives late (Before p o of) = gives-then (meant-gives late of) (λ m t. gives-found (unary-finds some p of m t o a.owner))
        meant-gives late (Choose p t l r) = gives-then (gives-then (valued-gives (place_of t) (meant-gives late t)) (λ x h. gives-found (converted-finds some kind.Bool x h))) (λ x h. gives-then (valued-gives (place_of l) (meant-gives true l)) (λ y i.
            gives-then (valued-gives (place_of r) (meant-gives true r)) (λ z j. value-given (choose-finds p x y z h i j))))
        meant-gives late (Cast p t of) = gives-then (gives-found {P = IsAny} {w = typed s w (scope_in a ks) t} finds-any) (λ y u. gives-then (valued-gives (place_of of) (meant-gives late of))
            (λ x h. value-given (by-option (kind_in y) (λ g. rw g (finds-none refl)) (λ k g. rw g (cast-finds p k x h)))))
        meant-gives late (Index p of at) = gives-then (meant-gives late of) (λ m t. gives-then (valued-gives (place_of at) (meant-gives late at)) (λ i u. gives-found (indexed-finds p m i t u)))
        meant-gives late (Dot p own of x) = gives-then (meant-gives late of) (λ m t. gives-found (dot-finds some s w a p own x m t))
        meant-gives late (Arrow p own of x) = gives-then (meant-gives late of) (λ m t. gives-found (arrow-finds some s w a p own x m t))
        meant-gives late (Call p of xs) = gives-then (meant-gives late of) (λ m t. behind-gives some lifts s w a ks late p xs (λ fs. arguments s w a ks late fs xs) (any s w a ks late xs) (λ fs. arguments-give late fs xs) (any-gives late xs) m t)
        meant-gives late (Concat p xs) = gives-then (values-give late xs) (λ ds t. value-given (concat-finds p ds t))
        meant-gives late (Make p t xs) = gives-none (λ r. refl)

        pub values-give : (late : Bool) (xs : Trees) → Gives R (AllNames some) (values s w a ks late xs)
        values-give late Nil = gives-done tt
        values-give late (Cons t ts) = gives-then (valued-gives (place_of t) (meant-gives late t)) (λ x h. gives-then (values-give late ts) (λ xs u. gives-done (h, u)))

        pub any-gives : (late : Bool) (xs : Trees) → Gives R AnyUnit (any s w a ks late xs)
        any-gives late Nil = gives-done tt
        any-gives late (Cons (Make p t xs) ts) = gives-then (any-gives late xs) (λ u h. any-gives late ts)
        any-gives late (Cons t ts) = gives-then (meant-gives late t) (λ m h. any-gives late ts)

        pub arguments-give : (late : Bool) (fs : List Form) (xs : Trees) → Gives R (AreTypedArguments some) (arguments s w a ks late fs xs)
        arguments-give late fs Nil = gives-done tt
        arguments-give late [] (Cons (Make p t xs) ts) = gives-then (any-gives late xs) (λ u h. arguments-give late [] ts)
        arguments-give late [] (Cons t ts) = gives-then (meant-gives late t) (λ m h. arguments-give late [] ts)
        arguments-give late (f ∷ fs) (Cons (Make p t xs) ts) = gives-then (made-argument-gives some lifts p f (any s w a ks late xs) (any-gives late xs)) (λ x h. gives-then (arguments-give late fs ts) (λ xs u. gives-done (h, u)))
        arguments-give late (f ∷ fs) (Cons t ts) = gives-then (gives-then (meant-gives late t) (λ m h. gives-found (argument-finds some (place_of t) a.owner f (is_zero t) m h))) (λ x h. gives-then (arguments-give late fs ts) (λ xs u. gives-done (h, u)))

      pub value-gives : (late : Bool) (t : Tree) → Gives R (IsTypedDraft some) (value s w a ks late t)
      value-gives late t = valued-gives (place_of t) (meant-gives late t)

      pub condition-gives : (late : Bool) (t : Tree) → Gives R (IsTypedDraft some) (condition s w a ks late t)
      condition-gives late t = gives-then (value-gives late t) (λ x h. gives-found (converted-finds some kind.Bool x h))
