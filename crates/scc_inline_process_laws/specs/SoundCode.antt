-- What the proof asks of the statements of a plain function whose calls are copied. All of it is of programs that the stages make: exits stay inside
-- their function, calls go less deep than the copies, arguments fit parameters, and an object that is chosen stays the same while its function runs.
use Rattle.std.specs.Prelude.{◌≡◌, ℕ, zero, suc, ◌<◌, nat_lt, nat_eq, ◌&&◌, Bool, true, false, List, [], ◌∷◌, map, length, Option, Some, None, slice_get}
use Rattle.scc_base.specs.declared.refusal.Place.{Place}
use Rattle.scc_bits_kinds.specs.declared.kind.Kind.{Kind}
use Rattle.scc_bits_kinds.specs.declared.kind.Kind.TheVariants as kind
use Rattle.scc_semantics.specs.Location.{Location, Root, Element}
use Rattle.scc_semantics.specs.Location as location
use Rattle.scc_semantics.specs.Places.{Places, Number}
use Rattle.scc_semantics.specs.Store.{Store}
use Rattle.scc_semantics.specs.Scene.{Names, Scene, index_of}
use Rattle.scc_semantics.specs.Value.{locate, value}
use Rattle.scc_core_spec.specs.Term as core
use Rattle.scc_core_spec.specs.Static.{static}
use Rattle.scc_core_spec.specs.Source.{Home, expr_of, left_of}
use Rattle.scc_core_spec.specs.Counted.{own_at, is_it}
use Rattle.scc_elab_spec.specs.Term.{Term, Left, Pick, OneBit, Target, Null, Address, Copy, Argument, Value, Leads, ModuleName}
use Rattle.scc_elab_spec.specs.Program.{Code, End, Declare, Assign, Point, Write, Call, If, Loop, Block, Exit, Return, Wait, Make, Bind, Process, Sensitive, Quiet, Reset, Function, Member}
use Rattle.scc_elab_spec.specs.Types.{is_direct}
use Rattle.scc_elab_spec.specs.Copied as copied
use Rattle.scc_elab_spec.specs.Copied.{Here, local_root, local_name, answer_name}
use Rattle.scc_elab_spec.specs.Bodies.{cell_of, elements, inside, object_of, result_name}
use Rattle.scc_elab_spec.specs.Spoken as spoken
use Rattle.scc_core_unroll_laws.specs.Kinds.{IsKinded}
use Rattle.scc_inline_process_laws.specs.Sound.{names_of, IsHomed, IsSoundTerm, IsSoundLeft}

abbrev pub Targets : Type 0
Targets = Location → Option Location

-- a local pointer of process j in calls less deep than so many, or a pointer that is none's local
abbrev pub is_outside : ℕ → ℕ → Root → Bool
is_outside j k (location.Local p cs n) = nat_eq j p && nat_lt (length cs) k
is_outside j k (location.Answer p cs) = nat_eq j p
is_outside j k location.Top = true

-- the pointers outside lead where they led
abbrev pub SameOutside : ℕ → ℕ → Targets → Targets → Type 0
SameOutside j k t u = (l : Location) → is_outside j k l.root ≡ true → u l ≡ t l

-- what a pointer leads to is no deeper than the pointer
abbrev pub LeadsUp : ℕ → Targets → Type 0
LeadsUp j t = (k : ℕ) (l m : Location) → is_outside j k l.root ≡ true → t l ≡ Some m → is_outside j k m.root ≡ true

-- only pointers inside change, and still lead to nothing deeper
abbrev pub Moves : ℕ → ℕ → Targets → Targets → Type 0
Moves j k t u = SameOutside j k t u × LeadsUp j u

-- an object at most so deep
abbrev pub IsWithin : ℕ → ℕ → Option Location → Type 0
IsWithin j k o = (l : Location) → o ≡ Some l → is_outside j (suc k) l.root ≡ true

-- Locals of a process, by their numbers, that nothing assigns for a while.
abbrev pub Guard : Type 0
Guard = ℕ → Bool

abbrev pub IsIdle : Guard → Type 0
IsIdle g = (o : ℕ) → g o ≡ false

-- what the second one has, the first one has
abbrev pub IsWider : Guard → Guard → Type 0
IsWider g f = (o : ℕ) → f o ≡ true → g o ≡ true

abbrev pub whole_local : Home → ℕ → ℕ → Location
whole_local home j o = record { root = home j o; path = [] }

-- these locals hold the words that they held
abbrev pub SameWords : Home → ℕ → Guard → (before after : Location → ℕ) → Type 0
SameWords home j g w v = (o : ℕ) → g o ≡ true → v (whole_local home j o) ≡ w (whole_local home j o)

-- a location names none of them by itself
abbrev pub Spares : Here → Guard → core.Left → Type 0
Spares h g l = (o : ℕ) → g o ≡ true → is_it o (own_at h.cells l) ≡ false

module _ (home : Home) (places : Places) (signals : Location → ℕ) (own : Names) where
  abbrev pub core_scene : Store → Scene
  core_scene s = record { places = places; signals = signals; names = own; store = s }

  abbrev pub plain_scene : Here → Option Location → Store → Scene
  plain_scene h o s = record { places = places; signals = signals; names = names_of h o; store = s }

module _ (home : Home) (places : Places) (own : Names) where
  -- what is static holds, whatever the signals are
  abbrev pub Knows : Here → Store → Type 0
  Knows h s = (signals : Location → ℕ) (e : core.Term) (w : ℕ) → IsKinded e → static h.cells e ≡ Some w → value (core_scene home places signals own s) (expr_of home h.cells h.process e) ≡ Some w

  -- the copy's object is that of the function
  abbrev pub Stands : Here → Store → Option Location → Type 0
  Stands h s o = (signals : Location → ℕ) → locate (core_scene home places signals own s) (left_of home h.cells h.process h.this) ≡ Some o

  module _ (h : Here) where
    abbrev pub IsSoundPick : Pick → Type 0
    IsSoundPick (OneBit e) = IsSoundTerm home h e
    IsSoundPick _ = Unit {0}

    abbrev pub IsSoundTarget : Target → Type 0
    IsSoundTarget Null = Unit {0}
    IsSoundTarget (Address l) = IsSoundLeft home h l
    IsSoundTarget (Copy l) = IsSoundLeft home h l

    -- a number's location, and a pointer's
    abbrev pub IsNumberAt : Location → Type 0
    IsNumberAt l = (k : Kind) × (places.things l ≡ Some (Number k)) × (places.pointers l ≡ false)

    abbrev pub IsPointerAt : Location → Type 0
    IsPointerAt l = (places.things l ≡ None) × (places.pointers l ≡ true)

    abbrev pub element_of_local : ℕ → List ℕ → Location
    element_of_local n is = record { root = local_root h n; path = map Element is }

    abbrev pub AllSmall : List ℕ → Type 0
    AllSmall [] = Unit {0}
    AllSmall (i ∷ is) = (index_of (kind.Native 32 true) i ≡ i) × AllSmall is

    abbrev pub IsPlaced : Bool → Location → Type 0
    IsPlaced true l = IsNumberAt l
    IsPlaced false l = IsPointerAt l

    abbrev pub AllPlaced : Bool → ℕ → List (List ℕ) → Type 0
    AllPlaced direct n [] = Unit {0}
    AllPlaced direct n (is ∷ more) = IsPlaced direct (element_of_local n is) × AllSmall is × AllPlaced direct n more

    -- the object that a location names is there, and is the same wherever only pointers inside the call differ and these locals hold the same words
    abbrev pub IsFirm : Guard → Left → Type 0
    IsFirm g l = (o : Option Location) (s : Store) → Knows h s → LeadsUp h.process s.targets → IsWithin h.process (length h.calls) o → Stands h s o
        → (q : Option Location) × IsWithin h.process (suc (length h.calls)) q × ((signals : Location → ℕ) (u : Store) → Knows h u → SameOutside h.process (suc (length h.calls)) s.targets u.targets → SameWords home h.process g s.words u.words → Stands h u o
        → locate (plain_scene home places signals own h o u) (spoken.left_of h.plain h.function true l) ≡ Some q)

    abbrev pub IsSoundObject : Guard → Option Left → Type 0
    IsSoundObject g None = Unit {0}
    IsSoundObject g (Some l) = IsSoundLeft home h l × IsFirm g l

    -- arguments of a call inside, from the n-th on
    abbrev pub AreSoundArguments : Here → Guard → Place → ℕ → List Argument → Type 0
    AreSoundArguments to g p n [] = Unit {0}
    AreSoundArguments to g p n (Value e ∷ args) =
        IsSoundTerm home h e × IsHomed home to (local_root to n) × IsNumberAt (record { root = local_root to n; path = [] }) × Spares to g (cell_of to p false (local_name to n [])) × AreSoundArguments to g p (suc n) args
    AreSoundArguments to g p n (Leads t ∷ args) = IsSoundTarget t × IsHomed home to (local_root to n) × IsPointerAt (record { root = local_root to n; path = [] }) × AreSoundArguments to g p (suc n) args
    AreSoundArguments to g p n (ModuleName ∷ args) = AreSoundArguments to g p (suc n) args

    -- the elements of a declared number
    abbrev pub AllSpared : Guard → Place → Bool → ℕ → List (List ℕ) → Type 0
    AllSpared g p direct n [] = Unit {0}
    AllSpared g p direct n (is ∷ more) = (direct ≡ true → Spares h g (cell_of h p false (local_name h n is))) × AllSpared g p direct n more

  abbrev pub answer_root : Here → Root
  answer_root h = location.Answer h.process h.calls

  abbrev pub IsSoundAnswer : Here → Option Kind → Type 0
  IsSoundAnswer h None = Unit {0}
  IsSoundAnswer h (Some k) = IsHomed home h (answer_root h) × IsNumberAt h (record { root = answer_root h; path = [] })

  -- the result that a call begins with
  abbrev pub SparesAnswer : Here → Guard → Place → List ℕ → Function → Option Kind → Type 0
  SparesAnswer h g p cs f None = Unit {0}
  SparesAnswer h g p cs f (Some k) = Spares h g (cell_of h p false (answer_name h cs f))

  abbrev pub IsSoundReturn : Here → Guard → Place → Option Term → Type 0
  IsSoundReturn h g p None = Unit {0}
  IsSoundReturn h g p (Some e) = IsSoundTerm home h e × IsHomed home h (answer_root h) × IsNumberAt h (record { root = answer_root h; path = [] }) × Spares h g (cell_of h p false (answer_name h h.calls h.function))

  -- by the locals that no statement leads a pointer to
  module _ (rare : ℕ → Bool) where
    -- of a function in which these locals aren't assigned: for a call they may be more
    abbrev pub IsSoundCode : (Here → Guard → Type 0) → Here → Guard → ℕ → Code → Type 0
    IsSoundCode ok h w d End = Unit {0}
    IsSoundCode ok h w d (Declare p n r) = (m : Member) × (slice_get h.function.locals n ≡ Some m) × IsHomed home h (local_root h n) × AllPlaced h (is_direct m.shape.reach) n (elements m.shape.sizes)
        × AllSpared h w p (is_direct m.shape.reach) n (elements m.shape.sizes) × IsSoundCode ok h w d r
    IsSoundCode ok h w d (Assign p l k e r) = IsSoundLeft home h l × IsSoundPick h k × IsSoundTerm home h e × Spares h w (copied.left_of h (result_name h) true l) × IsSoundCode ok h w d r
    IsSoundCode ok h w d (Point p l t r) = IsSoundLeft home h l × IsSoundTarget h t × IsSoundCode ok h w d r
    IsSoundCode ok h w d (Write p l e r) = IsSoundLeft home h l × IsSoundTerm home h e × Spares h w (copied.left_of h (result_name h) true l) × IsSoundCode ok h w d r
    IsSoundCode ok h w d (Call p n f o args r) = (g : Function) × (slice_get h.plain.functions f ≡ Some g) × (inner : ℕ → Bool) × IsWider inner w × IsWider rare inner × IsSoundObject h inner o
        × IsSoundAnswer (inside h (n ∷ h.calls) g (object_of h (result_name h) o)) g.result × SparesAnswer h inner p (n ∷ h.calls) g g.result
        × AreSoundArguments h (inside h (n ∷ h.calls) g (object_of h (result_name h) o)) inner p 0 args × ok (inside h (n ∷ h.calls) g (object_of h (result_name h) o)) inner × IsSoundCode ok h w d r
    IsSoundCode ok h w d (If p t a b r) = IsSoundTerm home h t × IsSoundCode ok h w d a × IsSoundCode ok h w d b × IsSoundCode ok h w d r
    IsSoundCode ok h w d (Loop p c b r) = IsSoundCode ok h w d b × IsSoundCode ok h w d r
    IsSoundCode ok h w d (Block p b r) = IsSoundCode ok h w (suc d) b × IsSoundCode ok h w d r
    IsSoundCode ok h w d (Exit p n r) = (n < d) × IsSoundCode ok h w d r
    IsSoundCode ok h w d (Return p v r) = IsSoundReturn h w p v × IsSoundCode ok h w d r
    -- other words may be found behind a wait
    IsSoundCode ok h w d (Wait p n r) = IsIdle w × IsSoundCode ok h w d r
    IsSoundCode ok h w d (Make p l b args r) = IsSoundCode ok h w d r
    IsSoundCode ok h w d (Bind p l t r) = IsSoundCode ok h w d r
    IsSoundCode ok h w d (Process p t f e r) = IsSoundCode ok h w d r
    IsSoundCode ok h w d (Sensitive p items r) = IsSoundCode ok h w d r
    IsSoundCode ok h w d (Quiet p r) = IsSoundCode ok h w d r
    IsSoundCode ok h w d (Reset p s e a r) = IsSoundCode ok h w d r

    -- calls at most so deep in one another
    abbrev pub IsSoundCall : ℕ → Here → Guard → Type 0
    IsSoundCall zero h w = ⊥
    IsSoundCall (suc left) h w = IsSoundCode (IsSoundCall left) h w 0 h.function.body
