-- Initialisers of constructors (ISO C++ [class.base.init]; IEEE 1666-2011, 5.3).
use Rattle.std.specs.Prelude.{ℕ, nat_eq, nat_le, Bool, true, false, not, ◌&&◌, ◌||◌, List, Option, Some, None, if◌then◌else◌}
use Rattle.scc_base.specs.declared.refusal.Place.{Place}
use Rattle.scc_base.specs.declared.code.Code.TheVariants as reason
use Rattle.scc_bits_kinds.specs.declared.kind.Kind.{Kind}
use Rattle.scc_templates_spec.specs.Walk.{Args, Uses}
use Rattle.scc_templates_spec.specs.Walked.{pure, fault, meets, and_walk}
use Rattle.scc_templates_spec.specs.World.{Owner, File, In, World}
use Rattle.scc_elab_spec.specs.Term.{Left, This, Target}
use Rattle.scc_elab_spec.specs.Term as term
use Rattle.scc_elab_spec.specs.Program.{Make, Point, Assign}
use Rattle.scc_templates_spec.specs.Tree.{Tree, Make as New, Text, Trees, Nil, Cons, place_of, count}
use Rattle.scc_plain_spec.specs.Types.{Base, OfNumber, OfObject, OfName}
use Rattle.scc_templates_spec.specs.Source.{Source}
use Rattle.scc_plain_spec.specs.Names.{Entry, IsField, meaning_in}
use Rattle.scc_plain_spec.specs.Scope.{Answer}
use Rattle.scc_plain_spec.specs.Calls.{target, is_zero, argument, made_argument}
use Rattle.scc_plain_spec.specs.Drafts.{Draft, converted}
use Rattle.scc_plain_spec.specs.Forms.{Form, direct, is_pointer, is_direct}
use Rattle.scc_plain_spec.specs.Room.{Around, Known, Writes, nothing, base_number, Step, done, found, and_step, written}
use Rattle.scc_plain_spec.specs.Shapes.{field_form}
use Rattle.scc_plain_spec.specs.Expressions.{meant, any}
use Rattle.scc_plain_spec.specs.Making.{make_args, made}
use Rattle.scc_plain_spec.specs.Simple.{each_value, only}

abbrev pub is_object : Base → Bool
is_object (OfObject c as_given) = true
is_object b = false

module _ (s : Source) (w : World Answer) (a : Around) (ks : List Known) where
  -- names of modules, which have no effect
  abbrev pub names : Trees → Step (Unit {0})
  names Nil = done tt
  names (Cons (New p t xs) ts) = and_step (made_argument p (direct OfName) (done tt)) (λ x. names ts)
  names (Cons t ts) = and_step (and_step (meant s w a ks false t) (λ m. found (argument (place_of t) a.owner (direct OfName) false m))) (λ x. names ts)

  -- where the last argument leads, none for a text or a `new`
  abbrev pub one_target : Form → Tree → Step (Option Target)
  one_target f (New p t xs) = and_step (any s w a ks false xs) (λ u. done None)
  one_target f (Text p) = done None
  one_target f t = and_step (and_step (meant s w a ks false t) (λ m. found (target (place_of t) a.owner f (is_zero t) m))) (λ x. done (Some x))

  abbrev pub last_target : Form → Trees → Step (Option Target)
  last_target f Nil = done None
  last_target f (Cons t Nil) = one_target f t
  last_target f (Cons t (Cons u ts)) = and_step (one_target f t) (λ x. and_step (last_target f (Cons u ts)) (λ y. done None))

  abbrev pub aimed : Place → Form → Left → Option Target → Step Writes
  aimed p f l None = found (fault reason.Mismatch p)
  aimed p f l (Some t) = if nat_eq f.dims 0 then written (λ n c. Point p l t c) else found (fault reason.Mismatch p)

  abbrev pub made_at : Place → Form → Left → Tree → Trees → Step Writes
  made_at p f l (New at t ys) xs = and_step (made s w a ks false ys at t f) (λ as_given. written (λ n c. Make p l (base_number n f.base) as_given c))
  made_at p f l e xs = and_step (last_target f xs) (aimed p f l)

  -- a pointer or reference begins with what it is given; a pointer with nothing is null
  abbrev pub pointed : Place → Form → Left → Trees → Step Writes
  pointed p f l Nil = if is_pointer f then done nothing else found (fault reason.Mismatch p)
  pointed p f l (Cons t Nil) = if is_pointer f && nat_eq f.dims 0 then made_at p f l t (Cons t Nil) else and_step (last_target f (Cons t Nil)) (aimed p f l)
  pointed p f l xs = and_step (last_target f xs) (aimed p f l)

  abbrev pub number_from : Place → Left → Kind → Form → Option Draft → Step Writes
  number_from p l k f None = found (fault reason.Mismatch p)
  number_from p l k f (Some x) = if nat_eq f.dims 0 then and_step (found (converted k x)) (λ y. written (λ n c. Assign p l term.Whole y.term c)) else found (fault reason.Mismatch p)

  -- a port, signal or name is named at most once, and nothing but the calls of its argument is written; a number begins with a value, or without one as it is made
  abbrev pub named_once : Place → Trees → Step Writes
  named_once p xs = and_step (names xs) (λ u. if nat_le (count xs) 1 then written nothing else found (fault reason.Mismatch p))

  abbrev pub plain_begun : Place → Form → Left → Trees → Base → Step Writes
  plain_begun p f l xs (OfNumber k) = and_step (each_value s w a ks false xs) (λ vs. if nat_eq (count xs) 0 then done nothing else number_from p l k f (only s w a ks false vs))
  plain_begun p f l xs b = named_once p xs

  abbrev pub begun : Place → Form → Left → Trees → Step Writes
  begun p f l xs = if not (is_direct f) then pointed p f l xs
      else (if f.vector || is_object f.base then and_step (make_args s w a ks false xs p p f.base f.vector) (λ as_given. written (λ n c. Make p l (base_number n f.base) as_given c))
      else plain_begun p f l xs f.base)

  -- a member of the class by its name (E301), which is a variable (E304)
  abbrev pub member_begun : ℕ → Args → Place → Trees → Option Entry → Step Writes
  member_begun c as_given p xs None = found (fault reason.UnknownName p)
  member_begun c as_given p xs (Some (IsField k)) = and_step (found (and_walk (field_form s w c as_given k p) (λ f. and_walk (meets Uses) (λ u. pure f)))) (λ f. begun p f (term.Member (This p) k) xs)
  member_begun c as_given p xs (Some e) = found (fault reason.Mismatch p)

  abbrev pub by_owner : Owner → Place → ℕ → Trees → Step Writes
  by_owner File p x xs = found (fault reason.UnknownName p)
  by_owner (In c as_given) p x xs = member_begun c as_given p xs (meaning_in a.own x)

  -- `sc_module(name)` has one name
  abbrev pub init : Place → Option ℕ → Trees → Step Writes
  init p None xs = and_step (names xs) (λ u. if nat_eq (count xs) 1 then written nothing else found (fault reason.Mismatch p))
  init p (Some x) xs = by_owner a.owner p x xs
