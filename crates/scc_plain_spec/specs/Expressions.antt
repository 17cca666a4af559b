-- Expressions of a body without parameters, with the walk over them: operands before their operator, left before right; the calls of functions in them stand before the
-- statement (ISO C++ [expr]; that calls come first is this project's own). A call that would not always run, or where none may stand, is late.
use Rattle.std.specs.Prelude.{Bool, true, false, ◌||◌, List, [], ◌∷◌, Option, Some, None}
use Rattle.scc_base.specs.declared.refusal.Place.{Place}
use Rattle.scc_base.specs.declared.code.Code.TheVariants as reason
use Rattle.scc_bits_kinds.specs.declared.kind.Kind.{Kind}
use Rattle.scc_bits_kinds.specs.declared.kind.Kind.TheVariants as kind
use Rattle.scc_bits_kinds.specs.declared.op.Op.{Op}
use Rattle.scc_bits_kinds.specs.declared.op.Op.TheVariants as op
use Rattle.scc_templates_spec.specs.Walked.{Walked, pure, fault, and_walk}
use Rattle.scc_templates_spec.specs.World.{World}
use Rattle.scc_elab_spec.specs.Term.{Argument}
use Rattle.scc_templates_spec.specs.Tree.{Tree, Given, This, Null, Text, Name, Scoped, Operate, Before, Choose, Cast, Index, Dot, Arrow, Call, Concat, Make, Trees, Nil, Cons, place_of, count}
use Rattle.scc_templates_spec.specs.Tree as tree
use Rattle.scc_plain_spec.specs.Numbers.{number}
use Rattle.scc_plain_spec.specs.Types.{object_in, kind_in}
use Rattle.scc_templates_spec.specs.Source.{Source}
use Rattle.scc_plain_spec.specs.Scope.{Answer}
use Rattle.scc_plain_spec.specs.Constants.{typed}
use Rattle.scc_plain_spec.specs.Drafts.{Draft, literal, converted, operate, choose, cast, concat}
use Rattle.scc_plain_spec.specs.Forms.{Form}
use Rattle.scc_plain_spec.specs.Meant.{Meant, Valued, Nothing, Words, taken, indexed}
use Rattle.scc_plain_spec.specs.Room.{Around, Known, scope_in, Step, done, found, and_step}
use Rattle.scc_plain_spec.specs.Things.{given, this, name, scoped, dot, arrow}
use Rattle.scc_plain_spec.specs.Calls.{unary, argument, made_argument, is_zero, behind_call}

abbrev pub is_lazy : Op → Bool
is_lazy op.LogAnd = true
is_lazy op.LogOr = true
is_lazy o = false

-- as a value, refused at a place where there is none
abbrev pub valued : Place → Step Meant → Step Draft
valued p m = and_step m (λ m. found (taken p m))

abbrev pub a_value : Walked Draft → Step Meant
a_value x = found (and_walk x (λ x. pure (Valued x)))

-- `ks` are the local variables that are known; a call is late where `late` is set
module _ (s : Source) (w : World Answer) (a : Around) (ks : List Known) where
  abbrev mutual
    pub meant : Bool → Tree → Step Meant
    meant late (tree.Number p k v) = done (Valued (literal p (number k v)))
    meant late (Given p arg) = found (given p arg)
    meant late (This p) = found (this p a.owner)
    meant late (Null p) = done Nothing
    meant late (Text p) = done Words
    meant late (Name p x) = name s w a ks p x
    meant late (Scoped p t x) = found (and_walk (typed s w (scope_in a ks) t) (λ y. scoped s w a p x (object_in y)))
    meant late (Operate p at o l r) = and_step (valued (place_of l) (meant late l)) (λ x. and_step (valued (place_of r) (meant (late || is_lazy o) r)) (λ y. a_value (operate p at o x y)))
    meant late (Before p o of) = and_step (meant late of) (λ m. found (unary p of o a.owner m))
    meant late (Choose p t l r) = and_step (and_step (valued (place_of t) (meant late t)) (λ x. found (converted kind.Bool x))) (λ x. and_step (valued (place_of l) (meant true l)) (λ y.
        and_step (valued (place_of r) (meant true r)) (λ z. a_value (choose p x y z))))
    meant late (Cast p t of) = and_step (found (typed s w (scope_in a ks) t)) (λ y. and_step (valued (place_of of) (meant late of)) (λ x. a_value (by_kind p (kind_in y) x)))
      where
        by_kind : Place → Option Kind → Draft → Walked Draft
        by_kind p None x = fault reason.Mismatch p
        by_kind p (Some k) x = cast p k x
    meant late (Index p of at) = and_step (meant late of) (λ m. and_step (valued (place_of at) (meant late at)) (λ i. found (indexed p m i)))
    meant late (Dot p own of x) = and_step (meant late of) (λ m. found (dot s w a p own x m))
    meant late (Arrow p own of x) = and_step (meant late of) (λ m. found (arrow s w a p own x m))
    meant late (Call p of xs) = and_step (meant late of) (behind_call s w a ks late p xs (λ fs. arguments late fs xs) (any late xs))
    meant late (Concat p xs) = and_step (values late xs) (λ ds. a_value (concat p ds))
    meant late (Make p t xs) = found (fault reason.Mismatch p)

    pub values : Bool → Trees → Step (List Draft)
    values late Nil = done []
    values late (Cons t ts) = and_step (valued (place_of t) (meant late t)) (λ x. and_step (values late ts) (λ xs. done (x ∷ xs)))

    -- arguments that nothing takes: of a `new` its own
    pub any : Bool → Trees → Step (Unit {0})
    any late Nil = done tt
    any late (Cons (Make p t xs) ts) = and_step (any late xs) (λ u. any late ts)
    any late (Cons t ts) = and_step (meant late t) (λ m. any late ts)

    -- each for a parameter of a form; what stands behind the last one is walked alone
    pub arguments : Bool → List Form → Trees → Step (List Argument)
    arguments late fs Nil = done []
    arguments late [] (Cons (Make p t xs) ts) = and_step (any late xs) (λ u. arguments late [] ts)
    arguments late [] (Cons t ts) = and_step (meant late t) (λ m. arguments late [] ts)
    arguments late (f ∷ fs) (Cons (Make p t xs) ts) = and_step (made_argument p f (any late xs)) (λ x. and_step (arguments late fs ts) (λ xs. done (x ∷ xs)))
    arguments late (f ∷ fs) (Cons t ts) = and_step (and_step (meant late t) (λ m. found (argument (place_of t) a.owner f (is_zero t) m))) (λ x. and_step (arguments late fs ts) (λ xs. done (x ∷ xs)))

abbrev pub value : (s : Source) (w : World Answer) (a : Around) (ks : List Known) → Bool → Tree → Step Draft
value s w a ks late t = valued (place_of t) (meant s w a ks late t)

-- a condition, a `bool`
abbrev pub condition : (s : Source) (w : World Answer) (a : Around) (ks : List Known) → Bool → Tree → Step Draft
condition s w a ks late t = and_step (value s w a ks late t) (λ x. found (converted kind.Bool x))
