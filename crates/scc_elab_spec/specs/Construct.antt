-- Statements of a constructor, one after another (IEEE 1666-2011, 4.1.1, 4.1.2; ISO C++ [stmt.stmt], [class.ctor]). This project's own: what a constructor may hold. On the
-- statements that processes have too it does what their machine does.
use Rattle.std.specs.Prelude.{ℕ, zero, suc, Bool, true, false, not, nat_le, List, [], ◌∷◌, map, length, Option, Some, None, option_map, slice_get, unwrap_or, is_some, if◌then◌else◌}
use Rattle.scc_base.specs.declared.refusal.Place.{Place}
use Rattle.scc_base.specs.declared.refusal.Refusal.{Refusal}
use Rattle.scc_base.specs.declared.code.Code.TheVariants as reason
use Rattle.scc_semantics.specs.Location.{Location, Part, Element, Root, Top}
use Rattle.scc_core_spec.specs.First.{refused}
use Rattle.scc_core_spec.specs.Resolved.{Tried, Made, Stopped, and_made, made_map}
use Rattle.scc_elab_spec.specs.Term.{Left, Index, Argument}
use Rattle.scc_elab_spec.specs.Program.{Base, Code, End, Declare, Assign, Point, Write, Call, If, Loop, Block, Exit, Return, Wait, Make, Bind, Process, Sensitive, Quiet, Reset, Member}
use Rattle.scc_elab_spec.specs.Types.{declared_at, is_direct}
use Rattle.scc_elab_spec.specs.Bodies.{elements}
use Rattle.scc_elab_spec.specs.Grown.{Grown, local_of, pointer_at, with_word, with_target, with_made, with_turn, with_declared}
use Rattle.scc_elab_spec.specs.Worth.{Site, at_now, spot, worth, target, assigned, local_there, Given, given}
use Rattle.scc_elab_spec.specs.Binding.{bind, items_of, declare, channel, changed_at, with_items, with_reset}

-- What stands while a constructor runs: what is made, and the last process that it declared.
pub record Now : Type 0 where
  pub grown : Grown
  pub last : Option ℕ

pub data Ran : Type 0 where
  Fell : (now : Now) → Ran
  Left_out : (depth : ℕ) (now : Now) → Ran
  Halted : (refusal : Refusal) → Ran

abbrev pub then_run : Ran → (Now → Ran) → Ran
then_run (Fell n) f = f n
then_run (Left_out d n) f = Left_out d n
then_run (Halted r) f = Halted r

abbrev pub shut : Ran → (Now → Ran) → Ran
shut (Fell n) f = f n
shut (Left_out zero n) f = f n
shut (Left_out (suc d) n) f = Left_out d n
shut (Halted r) f = Halted r

abbrev pub from_tried : {A : Type 0} → Tried A → (A → Ran) → Ran
from_tried (Made a) f = f a
from_tried (Stopped r) f = Halted r

abbrev pub grow : Now → Tried Grown → (Now → Ran) → Ran
grow n t f = from_tried t (λ g. f (record { grown = g; last = n.last }))

-- How a thing of a base is made at a path, by arguments that are evaluated once the thing is there.
abbrev pub Making : Type 0
Making = Grown → List Part → Place → Base → (vector : Bool) → (Grown → Tried (List Given)) → Tried Grown

-- a declaration without initialiser: each element is 0, or null
abbrev pub declared_from : Site → ℕ → Option Member → List (List ℕ) → Grown → Grown
declared_from s n None all g = g
declared_from s n (Some m) [] g = g
declared_from s n (Some m) (i ∷ is) g = declared_from s n (Some m) is (if is_direct m.shape.reach then with_word g (local_of s.object n (map Element i)) 0 else with_target g (local_of s.object n (map Element i)) None)

abbrev pub sizes_of : Option Member → List ℕ
sizes_of m = unwrap_or (option_map (λ m. m.shape.sizes) m) []

abbrev pub is_local : Option Location → Bool
is_local (Some l) = by_root l.root
  where
    by_root : Root → Bool
    by_root Top = false
    by_root r = true
is_local None = false

-- a pointer takes a target; a member none that is a local (E404); where no pointer stands, nothing is written
abbrev pub pointed : Site → Place → Location → Root → Option Location → Tried Grown
pointed s p l Top t = if is_local t then Stopped (refused reason.Constructor p) else Made (if is_some (pointer_at s.now l) then with_target s.now l t else s.now)
pointed s p l r t = Made (if unwrap_or (option_map (λ m. not (is_direct m.shape.reach)) (local_there s l r)) false then with_target s.now l t else s.now)

abbrev pub point_at : Site → Place → Option Location → Option Location → Tried Grown
point_at s p None t = Made s.now
point_at s p (Some l) t = pointed s p l l.root t

-- `new`: for a pointer of an object, once (E404); what it makes has the pointer's path, and the pointer leads there
abbrev pub made_at : Making → Site → Place → Base → Bool → List Argument → Location → Root → Tried Grown
made_at make s p base vector args l Top = if not (is_some (pointer_at s.now l)) then Made s.now
    else (if s.now.made l.path then Stopped (refused reason.Constructor p)
    else made_map (λ g. with_target g l (Some l)) (make (with_made s.now l.path) l.path p base vector (λ g. given (at_now s g) args)))
made_at make s p base vector args l r = Stopped (refused reason.Constructor p)

abbrev pub make_at : Making → Site → Place → Base → Bool → List Argument → Option Location → Tried Grown
make_at make s p base vector args None = Made s.now
make_at make s p base vector args (Some l) = made_at make s p base vector args l l.root

-- whether a pointer is one to a vector, be it an element of an array
abbrev pub ends_in_vector : Site → Left → Bool
ends_in_vector s (Index l e) = ends_in_vector s l
ends_in_vector s l = unwrap_or (option_map (λ m. m.shape.vector) (declared_at s.plain s.function l)) false

-- `sensitive`, `dont_initialize` and a reset speak of the last process that this constructor declared (E406)
abbrev pub of_last : Place → Now → (ℕ → Ran) → Ran
of_last p n f = unwrap_or (option_map f n.last) (Halted (refused reason.Sensitivity p))

-- the greatest number of turns, one more than there may be
abbrev pub most_turns : ℕ
most_turns = 65537

abbrev pub is_true : ℕ → Bool
is_true zero = false
is_true (suc n) = true

-- A turn begins where the loop's own test lets it in; the 65,537th of the whole construction is refused (E412).
abbrev pub turned : Place → Now → (Now → Ran) → Ran
turned p n f = if nat_le 65536 n.grown.turns then Halted (refused reason.ConstructionTurns p) else f (record { grown = with_turn n.grown; last = n.last })

abbrev pub looped : ℕ → Place → (Now → Ran) → (Now → Ran) → Now → Ran
looped zero p test turn n = Halted (refused reason.ConstructionTurns p)
looped (suc left) p test turn n = then_run (test n) (λ n. turned p n (λ n. then_run (turn n) (looped left p test turn)))

-- one of two branches, by the word of the test
abbrev pub choose_of : ℕ → (Now → Ran) → (Now → Ran) → Now → Ran
choose_of zero a b n = b n
choose_of (suc x) a b n = a n

-- the statements of a constructor of an object, in a site but for what is made; a loop is refused that comes to so many turns
module _ (turns : ℕ) where
  abbrev pub ran_in : Making → Site → Code → Now → Ran
  ran_in make s End n = Fell n
  ran_in make s (Declare p k r) n = grow n (Made (declared_from s k (slice_get s.function.locals k) (elements (sizes_of (slice_get s.function.locals k))) n.grown)) (ran_in make s r)
  ran_in make s (Assign p l k e r) n = grow n (assigned (at_now s n.grown) l k e) (ran_in make s r)
  ran_in make s (Point p l t r) n = grow n (and_made (spot (at_now s n.grown) false false l) (λ o. and_made (target (at_now s n.grown) t) (point_at (at_now s n.grown) p o))) (ran_in make s r)
  ran_in make s (If p t a b r) n = from_tried (worth (at_now s n.grown) t) (λ x. then_run (choose_of x (ran_in make s a) (ran_in make s b) n) (ran_in make s r))
  ran_in make s (Block p b r) n = shut (ran_in make s b n) (ran_in make s r)
  ran_in make s (Loop p c (If q t a b turn) r) n = looped turns p (λ n. from_tried (worth (at_now s n.grown) t) (λ x. choose_of x (ran_in make s a) (ran_in make s b) n)) (ran_in make s turn) n
  ran_in make s (Loop p c turn r) n = looped turns p Fell (ran_in make s turn) n
  ran_in make s (Exit p d r) n = Left_out d n
  ran_in make s (Make p l base args r) n = grow n (and_made (spot (at_now s n.grown) false false l) (make_at make (at_now s n.grown) p base (ends_in_vector s l) args)) (ran_in make s r)
  ran_in make s (Bind p port to r) n = grow n (bind (at_now s n.grown) p port to) (ran_in make s r)
  ran_in make s (Process p thread f edge r) n = from_tried (declare (at_now s n.grown) p thread f edge) (λ g. ran_in make s r (record { grown = g; last = Some (length n.grown.declared) }))
  ran_in make s (Sensitive p items r) n = of_last p n (λ k. grow n (made_map (λ is. with_declared n.grown (changed_at k (with_items is) n.grown.declared)) (items_of (at_now s n.grown) items)) (ran_in make s r))
  ran_in make s (Quiet p r) n = of_last p n (λ k. ran_in make s r n)
  ran_in make s (Reset p signal level asynchronous r) n = of_last p n (λ k. grow n (and_made (channel (at_now s n.grown) signal) (λ c. made_map
      (λ w. with_declared n.grown (changed_at k (with_reset (record { place = p; signal = c; level = is_true w; asynchronous = asynchronous })) n.grown.declared)) (worth (at_now s n.grown) level))) (ran_in make s r))
  -- writes of signals, calls, `return` and waits
  ran_in make s (Write p l e r) n = Halted (refused reason.Constructor p)
  ran_in make s (Call p k f o args r) n = Halted (refused reason.Constructor p)
  ran_in make s (Return p v r) n = Halted (refused reason.Constructor p)
  ran_in make s (Wait p k r) n = Halted (refused reason.Constructor p)

abbrev pub ran : Making → Site → Code → Now → Ran
ran = ran_in most_turns
