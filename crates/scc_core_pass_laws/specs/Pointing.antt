-- What is known of the pointers of a process where its statements are resolved. This project's own.
use Rattle.std.specs.Prelude.{◌≡◌, ℕ, Bool, true, false, List, [], ◌∷◌, ◌++◌, Option, Some, None, option_map, option_and_then, slice_get}
use Rattle.scc_semantics.specs.Location.{Location, Part, Member, Element, within}
use Rattle.scc_semantics.specs.Same.{is_own}
use Rattle.scc_semantics.specs.Value.{Held, locate}
use Rattle.scc_semantics.specs.Steady.{plain_left}
use Rattle.scc_core_spec.specs.Term.{Term, Left, CellName, Own, Pick, Whole, OneBit, Bits, kind_of}
use Rattle.scc_bits.specs.Values.{kind_of as operator_kind}
use Rattle.scc_core_spec.specs.Term as term
use Rattle.scc_core_spec.specs.Code.{Code, Declared, Assigned, End, Put, Aim, If, Block, Loop, Exit, Wait}
use Rattle.scc_core_spec.specs.Program.{Program, Process, Cell, Pointer, Port, is_root, is_pointer}
use Rattle.scc_core_spec.specs.Named.{Step, Named, At, steps_of, path_steps, cell_at}
use Rattle.scc_core_spec.specs.Static.{Cells}
use Rattle.scc_core_spec.specs.Resolved.{Leads}
use Rattle.scc_core_spec.specs.Source.{Home, at_top, location_of, cell_location, cell_there, left_of}
use Rattle.scc_core_unroll_laws.specs.Unrolling.{Around, scene_at, HoldsFixed}
use Rattle.scc_core_unroll_laws.specs.Kinds.{IsKinded}
use Rattle.scc_core_unroll_laws.specs.Named.{around_of}

-- a local of a name is one of the process
abbrev pub IsName : Process → CellName → Type 0
IsName q n = (o : Own) → n.own ≡ Some o → n.path ≡ q.name.path

-- the location that steps name in the body of a process
pub data Names (home : Home) (i : ℕ) (q : Process) : Location → List Step → Type 0 where
  base : (n : CellName) → IsName q n → Names home i q (location_of home i n) (steps_of n)
  member : {l : Location} {s : List Step} → (name : ℕ) → Names home i q l s → Names home i q (within l (Member name)) (s ++ Named name ∷ [])
  element : {l : Location} {s : List Step} → (at : ℕ) → Names home i q l s → Names home i q (within l (Element at)) (s ++ At at ∷ [])

-- cells are found by their locations as by their names; a port below the top stands for a root
pub record Apart (home : Home) (p : Program) (i : ℕ) (q : Process) : Type 0 where
  pub found : (b : Bool) (l : Location) (s : List Step) → Names home i q l s → cell_there home p b l ≡ option_and_then (slice_get p.cells) (cell_at b 0 s p.cells)
  pub whole : (b : Bool) (n : ℕ) (x : Cell) → slice_get p.cells n ≡ Some x → is_pointer x.sort ≡ b → cell_at b 0 (steps_of x.name) p.cells ≡ Some n
  pub pointers : (n m : ℕ) (x y : Cell) → slice_get p.cells n ≡ Some x → slice_get p.cells m ≡ Some y → is_pointer x.sort ≡ true → is_pointer y.sort ≡ true → cell_location home p x ≡ cell_location home p y → n ≡ m
  pub ports : (n : ℕ) (x : Cell) (path : List Part) → slice_get p.cells n ≡ Some x → x.sort ≡ Port path
      → (m : ℕ) × (y : Cell) × (cell_at false 0 (path_steps path) p.cells ≡ Some m) × (slice_get p.cells m ≡ Some y) × (is_root y.sort ≡ true)

module _ (q : Process) (cs : Cells) where
  abbrev pub IsCellName : Option Cell → Type 0
  IsCellName None = Unit {0}
  IsCellName (Some c) = IsName q c.name

  -- locals are the process's, and operators have the kinds that they say
  abbrev mutual
    pub OwnNames : Term → Type 0
    OwnNames (term.Literal p k w) = Unit {0}
    OwnNames (term.Load p k l) = OwnLeft l
    OwnNames (term.Read p k l) = OwnLeft l
    OwnNames (term.Convert p k e) = OwnNames e
    OwnNames (term.Unary p k o e) = (operator_kind o (kind_of e) (kind_of e) ≡ Some k) × OwnNames e
    OwnNames (term.Binary p k o e f) = (operator_kind o (kind_of e) (kind_of f) ≡ Some k) × OwnNames e × OwnNames f
    OwnNames (term.Choose p k t e f) = OwnNames t × OwnNames e × OwnNames f
    OwnNames (term.Bit p e i) = OwnNames e × OwnNames i
    OwnNames (term.Range p k e h l) = OwnNames e
    OwnNames (term.Join p k e f) = OwnNames e × OwnNames f

    pub OwnLeft : Left → Type 0
    OwnLeft (term.Cell p n) = IsCellName (slice_get cs n)
    OwnLeft (term.Prefix p name) = IsName q name
    OwnLeft (term.Null p) = Unit {0}
    OwnLeft (term.Follow p soft l) = OwnLeft l
    OwnLeft (term.Member l name) = OwnLeft l
    OwnLeft (term.Index l size e) = OwnLeft l × OwnNames e

  -- the same of where a location begins; the operators in its indices have the kinds that they say
  abbrev pub OwnBase : Left → Type 0
  OwnBase (term.Cell p n) = IsCellName (slice_get cs n)
  OwnBase (term.Prefix p name) = IsName q name
  OwnBase (term.Null p) = Unit {0}
  OwnBase (term.Follow p soft l) = OwnBase l
  OwnBase (term.Member l name) = OwnBase l
  OwnBase (term.Index l size e) = OwnBase l × IsKinded e

  abbrev pub OwnPick : Pick → Type 0
  OwnPick (OneBit e) = OwnNames e
  OwnPick _ = Unit {0}

  abbrev pub OwnCode : Code → Type 0
  OwnCode End = Unit {0}
  OwnCode (Put p l k e r) = OwnLeft l × OwnPick k × OwnNames e × OwnCode r
  OwnCode (Aim p (Declared n) t r) = IsCellName (slice_get cs n) × OwnLeft t × OwnCode r
  OwnCode (Aim p (Assigned l) t r) = OwnLeft l × OwnLeft t × OwnCode r
  OwnCode (If p t a b r) = OwnNames t × OwnCode a × OwnCode b × OwnCode r
  OwnCode (Block p b r) = OwnCode b × OwnCode r
  OwnCode (Loop p n b r) = OwnCode b × OwnCode r
  OwnCode (Exit p n r) = OwnCode r
  OwnCode (Wait p l n r) = OwnCode r

module _ (home : Home) (p : Program) (constant : Location → Option ℕ) (i : ℕ) (q : Process) where
  abbrev pub w_of : Around
  w_of = around_of home p constant i q

  -- a location that is the same in every store that holds the fixed words
  abbrev pub Stays : Left → Location → Type 0
  Stays t l = (signals : Location → ℕ) (a : Held) → HoldsFixed w_of a → locate (scene_at w_of signals a) (left_of home p.cells i t) ≡ Some (Some l)

  -- a pointer leads where it is said
  abbrev pub LeadsTo : Option Left → Option Location → Type 0
  LeadsTo None o = o ≡ None
  LeadsTo (Some t) o = (l : Location) × (o ≡ Some l) × Stays t l × OwnBase q p.cells t × (plain_left (left_of home p.cells i t) ≡ true)

  -- what is known of local pointers holds, which are the process's own, and those of the top lead where construction left them
  pub record Known (local : ℕ → Option (Option Left)) (targets : Location → Option Location) : Type 0 where
    pub here : (n : ℕ) (c : Cell) (t : Option Left) → slice_get p.cells n ≡ Some c → is_pointer c.sort ≡ true → local n ≡ Some t → LeadsTo t (targets (cell_location home p c))
    pub ours : (n : ℕ) (c : Cell) (t : Option Left) → slice_get p.cells n ≡ Some c → local n ≡ Some t → is_own i (cell_location home p c).root ≡ true
    pub top : (n : ℕ) (c : Cell) (t : Option (List Part)) → slice_get p.cells n ≡ Some c → c.name.own ≡ None → c.sort ≡ Pointer t → targets (cell_location home p c) ≡ option_map at_top t

  abbrev pub leads_of : (ℕ → Option (Option Left)) → Leads
  leads_of local = record { cells = p.cells; vectors = p.vectors; local = local }
