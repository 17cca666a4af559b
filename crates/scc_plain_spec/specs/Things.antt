-- What names mean in a body (ISO C++ [expr.prim.id], [expr.ref], [class.member.lookup]): local variables, members of the object whose function it is or of a written one,
-- functions, and constants.
use Rattle.std.specs.Prelude.{ℕ, List, Option, Some, None, if◌then◌else◌}
use Rattle.scc_base.specs.declared.refusal.Place.{Place}
use Rattle.scc_base.specs.declared.code.Code.TheVariants as reason
use Rattle.scc_bits.specs.Value.{Number}
use Rattle.scc_templates_spec.specs.Walk.{Arg, Uses}
use Rattle.scc_templates_spec.specs.Walked.{Walked, pure, fault, meets, and_walk}
use Rattle.scc_templates_spec.specs.World.{Owner, File, In, World, same_owner}
use Rattle.scc_elab_spec.specs.Term.{Left, Member, This}
use Rattle.scc_elab_spec.specs.Term as term
use Rattle.scc_plain_spec.specs.Types.{Base, OfObject, Object}
use Rattle.scc_templates_spec.specs.Source.{Source}
use Rattle.scc_plain_spec.specs.Names.{Entry, IsFunction, IsField, meaning_in, names_of_members}
use Rattle.scc_plain_spec.specs.Scope.{Answer, Found, Local, Found_, Body, look, class_body}
use Rattle.scc_plain_spec.specs.Parts.{demanded, given_thing, is_call}
use Rattle.scc_plain_spec.specs.Uses.{entry_meant}
use Rattle.scc_plain_spec.specs.Drafts.{literal}
use Rattle.scc_plain_spec.specs.Forms.{Form, is_whole, located, Subject, OfDraft, OfLoc}
use Rattle.scc_plain_spec.specs.Meant.{Meant, Valued, Stands, Function, Built, Own, At, is_name, followed}
use Rattle.scc_plain_spec.specs.Room.{Around, Known, known_as, Room, local_form, scope_in, Step, in_room}
use Rattle.scc_plain_spec.specs.Shapes.{field_form}

abbrev pub a_number : Place → Walked Number → Walked Meant
a_number p n = and_walk n (λ n. pure (Valued (literal p n)))

-- what stands for a parameter: a number, or nothing that has a value (E304)
abbrev pub given : Place → Arg → Walked Meant
given p a = a_number p (demanded p (given_thing p a))

-- `this` stands in a body of a class alone
abbrev pub this : Place → Owner → Walked Meant
this p File = fault reason.Mismatch p
this p (In c as_given) = and_walk (meets Uses) (λ u. pure Own)

abbrev pub local_at : Place → ℕ → Option Form → Walked Meant
local_at p n None = fault reason.UnknownName p
local_at p n (Some f) = pure (Stands (located (term.Local p n) f))

module _ (s : Source) (w : World Answer) (a : Around) where
  -- the object whose member is named: the written one; else that of the function, whose class declares the member
  abbrev pub object_of : Place → Owner → Option Left → Walked Left
  object_of p o (Some l) = pure l
  object_of p o None = if same_owner o a.owner then and_walk (meets Uses) (λ u. pure (This p)) else fault reason.Mismatch p

  abbrev pub field : Place → Owner → ℕ → Option Left → Walked Meant
  field p File n object = fault reason.UnknownName p
  field p (In c as_given) n object = and_walk (field_form s w c as_given n p) (λ f. and_walk (object_of p (In c as_given) object) (λ l. pure (Stands (located (Member l n) f))))

  abbrev pub declared : Place → ℕ → Option Left → Owner → Entry → Walked Meant
  declared p x object o (IsField n) = field p o n object
  declared p x object o IsFunction = pure (Function o x object p)
  declared p x object o e = a_number p (demanded p (entry_meant s w p x o e))

  -- a name by itself
  abbrev pub named : Place → ℕ → Option ℕ → Room → Option Found → Walked Meant
  named p x (Some n) r f = local_at p n (local_form r n)
  named p x None r None = fault reason.UnknownName p
  named p x None r (Some Local) = fault reason.UnknownName p
  named p x None r (Some (Found_ o e)) = declared p x None o e

  abbrev pub name : List Known → Place → ℕ → Step Meant
  name ks p x = in_room (λ r. named p x (known_as ks x) r (look s (scope_in a ks) x))

  -- `X::name`
  abbrev pub scoped : Place → ℕ → Option Object → Walked Meant
  scoped p x None = fault reason.UnknownName p
  scoped p x (Some o) = and_walk (class_body s w o.class o.args p) (λ b. by_entry b (meaning_in (names_of_members b.class.members) x))
    where
      by_arg : Option Arg → Walked Meant
      by_arg None = fault reason.UnknownName p
      by_arg (Some g) = given p g

      by_entry : Body → Option Entry → Walked Meant
      by_entry b (Some e) = declared p x None (In o.class o.args) e
      by_entry b None = by_arg (b.bound x)

  -- a member of an object, at the place of its name (E301)
  abbrev pub member : Place → ℕ → Left → Base → Subject → Walked Meant
  member own x l (OfObject c as_given) s_ = and_walk (class_body s w c as_given own) (λ b. by_entry (meaning_in (names_of_members b.class.members) x))
    where
      by_entry : Option Entry → Walked Meant
      by_entry None = fault reason.UnknownName own
      by_entry (Some e) = declared own x (Some l) (In c as_given) e
  member own x l b s_ = if is_call x then pure (Built x s_) else fault reason.UnknownName own

  -- `m.name`: a member of an object, or a call of the language on a number, port or signal
  abbrev pub dot : Place → Place → ℕ → Meant → Walked Meant
  dot p own x (Valued d) = if is_call x then pure (Built x (OfDraft d)) else fault reason.UnknownName own
  dot p own x (Stands l) = if is_whole l.form then (if is_name l.form.base then fault reason.Mismatch p else member own x l.left l.form.base (OfLoc l)) else fault reason.Mismatch p
  dot p own x m = fault reason.Mismatch p

  -- `m->name`; an address that is written has no members so
  abbrev pub arrow : Place → Place → ℕ → Meant → Walked Meant
  arrow p own x (At l) = fault reason.Mismatch p
  arrow p own x m = and_walk (followed p a.owner m) (λ l. dot p own x (Stands l))
