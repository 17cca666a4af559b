-- Where constructors and processes agree: statements that both may have do in a constructor what the processes' machine does (ISO C++ [stmt]).
use Rattle.std.specs.Prelude.{◌≡◌, ℕ, Bool, true, false, ◌&&◌, ◌||◌, not, nat_le, List, [], ◌∷◌, Option, Some, None, option_map, option_and_then, slice_get, is_some, unwrap_or}
use Rattle.scc_semantics.specs.Location.{Location}
use Rattle.scc_semantics.specs.Places as thing
use Rattle.scc_semantics.specs.Places.{Thing, Places}
use Rattle.scc_semantics.specs.Scene.{Names, Scene}
use Rattle.scc_semantics.specs.Body as machine
use Rattle.scc_semantics.specs.Value.{Held, value}
use Rattle.scc_semantics.specs.Machine.{Go, Inner, Stop, Outcome, Ended, run}
use Rattle.scc_core_spec.specs.Resolved.{Made}
use Rattle.scc_elab_spec.specs.Term.{Term}
use Rattle.scc_elab_spec.specs.Program.{Function, Code, End, Declare, Assign, Point, Write, Call, If, Loop, Block, Exit, Return}
use Rattle.scc_elab_spec.specs.Program.{Wait, Make, Bind, Process, Sensitive, Quiet, Reset}
use Rattle.scc_elab_spec.specs.Types.{is_direct}
use Rattle.scc_elab_spec.specs.Design as design
use Rattle.scc_elab_spec.specs.Design.{Node}
use Rattle.scc_elab_spec.specs.Grown.{Grown, at_path, thing_at, pointer_at, node_of}
use Rattle.scc_elab_spec.specs.Worth.{Site, at_now, worth, local_there, kind_there}
use Rattle.scc_elab_spec.specs.Construct.{Making, Now, Fell, sizes_of, ran}
use Rattle.scc_elab_spec.specs.Typed.{IsTyped, IsTypedCode}
use Rattle.scc_elab_spec.specs.Spoken.{body_of, expr_of}

-- arrays have at most 65,536 elements
abbrev pub is_small : List ℕ → Bool
is_small [] = true
is_small (n ∷ ns) = nat_le n 65536 && is_small ns

-- statements that processes have, too, but for writes of signals, calls, `return` and waits
abbrev pub is_common : Function → Code → Bool
is_common f End = true
is_common f (Declare p n r) = is_small (sizes_of (slice_get f.locals n)) && is_common f r
is_common f (Assign p l k e r) = is_common f r
is_common f (Point p l t r) = is_common f r
is_common f (If p t a b r) = is_common f a && (is_common f b && is_common f r)
is_common f (Loop p n b r) = is_common f b && is_common f r
is_common f (Block p b r) = is_common f b && is_common f r
is_common f (Exit p d r) = is_common f r
is_common f (Write p l e r) = false
is_common f (Call p n g o args r) = false
is_common f (Return p v r) = false
is_common f (Wait p n r) = false
is_common f (Make p l b args r) = false
is_common f (Bind p l t r) = false
is_common f (Process p t g e r) = false
is_common f (Sensitive p items r) = false
is_common f (Quiet p r) = false
is_common f (Reset p s e a r) = false

-- what stands where by now: the objects that are made, and the constructor's locals
abbrev pub channel_of : Option Node → Option Thing
channel_of (Some (design.Signal k)) = Some (thing.Signal k)
channel_of (Some (design.Port k output root)) = Some (thing.Signal k)
channel_of n = None

abbrev pub thing_now : Site → Location → Option Thing
thing_now s l = or_channel (option_map thing.Number (kind_there s l)) (channel_of (option_and_then (node_of s.now) (thing_at s.now l)))
  where
    or_channel : Option Thing → Option Thing → Option Thing
    or_channel (Some t) other = Some t
    or_channel None other = other

abbrev pub pointer_now : Site → Location → Bool
pointer_now s l = is_some (pointer_at s.now l) || unwrap_or (option_map (λ m. not (is_direct m.shape.reach)) (local_there s l l.root)) false

abbrev pub places_now : Site → Places
places_now s = record { things = thing_now s; pointers = pointer_now s }

-- a constructor's names: its locals are those of the object that is made
abbrev pub names_of : Site → Names
names_of s = record { process = s.object; calls = []; object = Some (at_path s.path) }

abbrev pub held_in : Grown → Held
held_in g = record { store = g.store; requests = [] }

-- where no number stands, no word is held, and where no pointer stands, no target
pub record IsRegular (s : Site) : Type 0 where
  pub words : (l : Location) → kind_there s l ≡ None → s.now.store.words l ≡ 0
  pub targets : (l : Location) → pointer_now s l ≡ false → s.now.store.targets l ≡ None

-- what expressions meet in the machine; no constructor reads a signal
abbrev pub scene_now : Site → Scene
scene_now s = record { places = places_now s; signals = λ l. 0; names = names_of s; store = s.now.store }

-- the word that an expression has in a constructor it has in the machine
abbrev pub AgreesOnValues : Site → Type 0
AgreesOnValues s = (e : Term) (x : ℕ) → IsTyped e → worth s e ≡ Made x → value (scene_now s) (expr_of s.plain s.function e) ≡ Some x

-- how a constructor's statements run as a process's
abbrev pub machine_run : Site → Code → ℕ → Grown → Outcome
machine_run s c bound g = run (places_now (at_now s g)) (λ f. machine.End) (λ l. 0) bound (Go Inner (names_of s) (body_of s.plain s.function [] c) Stop) (held_in g)

-- What such statements make of the store the machine makes of it, with some number of steps; and no more is held than before where nothing stands. Of
-- requests nothing is said: where an assignment meets a signal, the constructor does nothing, and the machine makes a request.
abbrev pub Agrees : Making → Site → Code → Type 0
Agrees make s c = (n m : Now) → IsRegular (at_now s n.grown) → is_common s.function c ≡ true → IsTypedCode c → ran make s c n ≡ Fell m
    → (bound : ℕ) × (h : Held) × (machine_run s c bound n.grown ≡ Ended h) × (h.store ≡ m.grown.store) × IsRegular (at_now s m.grown)
