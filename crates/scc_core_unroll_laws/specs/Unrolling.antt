-- Frames of a process against those of its unrolled body: each list of statements has its unrolled one; a turn stands where the loop stands.
use Rattle.std.specs.Prelude.{◌≡◌, ℕ, zero, suc, ◌≤◌, Bool, true, false, nat_le, List, [], ◌∷◌, map, Option, Some, unwrap_or}
use Rattle.scc_base.specs.declared.refusal.Place.{Place}
use Rattle.scc_bits_kinds.specs.declared.kind.Kind.{Kind}
use Rattle.scc_semantics.specs.Location.{Location}
use Rattle.scc_semantics.specs.Places.{Places, Number}
use Rattle.scc_semantics.specs.Scene.{Names, Scene}
use Rattle.scc_semantics.specs.Body as machine
use Rattle.scc_semantics.specs.Body.{Body}
use Rattle.scc_semantics.specs.Same.{is_others}
use Rattle.scc_semantics.specs.Value.{Held, value}
use Rattle.scc_semantics.specs.Machine.{Frames, Stop, Go, Mark, Inner, BehindBlock, Outcome, Suspended, Ended, Stuck, Unfinished, run, after}
use Rattle.scc_core_spec.specs.Term.{Term, Literal, Cell, Whole, kind_of, place_of}
use Rattle.scc_core_spec.specs.Code.{Code, Count, End, Put, If, Block, Loop, Exit, holds_wait}
use Rattle.scc_core_spec.specs.Static.{static}
use Rattle.scc_core_spec.specs.Counted.{Counter, Setting, Turning, Turns, Turn, Stand, First, Elsewhere, counter, counting, uses, counter_number, enough_turns, turns_from}
use Rattle.scc_core_spec.specs.Unrolled.{unrolled, written_out}
use Rattle.scc_core_spec.specs.Source.{Home, at_top, expr_of, body_of}
use Rattle.scc_blocks_spec.specs.Passed.{IsHome}
use Rattle.scc_core_unroll_laws.specs.Kinds.{IsKinded, IsKindedCode}
use Rattle.scc_blocks_spec.specs.Comes.{next_points}

-- what stands around a process of a core
pub record Around : Type 0 where
  pub home : Home
  pub process : ℕ
  pub setting : Setting
  pub places : Places
  pub fixed : Location → Option ℕ

abbrev pub own : Around → Names
own w = record { process = w.process; calls = []; object = Some (at_top []) }

abbrev pub scene_at : Around → (Location → ℕ) → Held → Scene
scene_at w signals a = record { places = w.places; signals = signals; names = own w; store = a.store }

-- where a local stands
abbrev pub local_at : Around → ℕ → Location
local_at w o = record { root = w.home w.process o; path = [] }

-- locals have roots of the process, and counters are numbers
pub record Counters (w : Around) : Type 0 where
  pub home : IsHome w.home
  pub numbers : (n o : ℕ) → counter_number w.setting n ≡ Some o → (k : Kind) × (w.places.things (local_at w o) ≡ Some (Number k))

abbrev pub HoldsAll : Around → List Counter → Held → Type 0
HoldsAll w [] a = Unit {0}
HoldsAll w (c ∷ ns) a = ((o : ℕ) × (counter_number w.setting c.cell ≡ Some o) × (a.store.words (local_at w o) ≡ c.word)) × HoldsAll w ns a

-- Where pointers of the top and of the process lead: to no local of another process, and to no counter.
abbrev pub LeadsWell : Around → (Location → Option Location) → Type 0
LeadsWell w t = (l m : Location) → is_others w.process l.root ≡ false → t l ≡ Some m
    → (is_others w.process m.root ≡ false) × ((o : ℕ) → nat_le (uses w.setting.cells o w.setting.body) 2 ≡ true → m ≡ local_at w o → ⊥)

-- counters that are assigned by their loops alone
abbrev pub AllSeldom : Around → List Counter → Type 0
AllSeldom w [] = Unit {0}
AllSeldom w (c ∷ ns) = ((o : ℕ) → counter_number w.setting c.cell ≡ Some o → nat_le (uses w.setting.cells o w.setting.body) 2 ≡ true) × AllSeldom w ns

-- statements touch none of the counters around
abbrev pub Untouched : Around → List Counter → Code → Type 0
Untouched w [] c = Unit {0}
Untouched w (n ∷ ns) c = ((o : ℕ) → counter_number w.setting n.cell ≡ Some o → uses w.setting.cells o c ≡ 0) × Untouched w ns c

-- inside a turn nothing waits
abbrev pub Waitless : List Counter → Code → Type 0
Waitless [] c = Unit {0}
Waitless (n ∷ ns) c = holds_wait c ≡ false

-- statements of the process, with these counters around
pub record Sound (w : Around) (ns : List Counter) (c : Code) : Type 0 where
  pub seldom : AllSeldom w ns
  pub untouched : Untouched w ns c
  pub part : (o : ℕ) → uses w.setting.cells o c ≤ uses w.setting.cells o w.setting.body
  pub waits : Waitless ns c
  pub kinds : IsKindedCode c

-- how many counters stand around
abbrev pub depth : List Counter → ℕ
depth [] = 0
depth (c ∷ ns) = suc (depth ns)

-- three statements for each of n, and b more
abbrev pub thrice : ℕ → ℕ → ℕ
thrice zero b = b
thrice (suc n) b = suc (suc (suc (thrice n b)))

module _ (w : Around) where
  abbrev pub B : Code → Body
  B c = body_of w.home w.setting.cells w.process c

  abbrev pub stand : Bool → Stand
  stand true = First
  stand false = Elsewhere

  abbrev pub U : List Counter → Bool → Code → Code
  U ns first c = unrolled w.setting ns (stand first) c

  -- a counted loop: its places, its test, its turn and its step
  pub record Form : Type 0 where
    pub place : Place
    pub count : Option Count
    pub cell : ℕ
    pub test_place : Place
    pub test : Term
    pub exit_place : Place
    pub turn_place : Place
    pub turn : Code
    pub step_place : Place
    pub cell_place : Place
    pub step : Term

  abbrev pub step_code : Form → Code
  step_code g = Put g.step_place (Cell g.cell_place g.cell) Whole g.step End

  abbrev pub turn_code : Form → Code
  turn_code g = Block g.turn_place g.turn (step_code g)

  abbrev pub loop_body : Form → Code
  loop_body g = If g.test_place g.test End (Exit g.exit_place 0 End) (turn_code g)

  abbrev pub loop_code : Form → Code
  loop_code g = Loop g.place g.count (loop_body g) End

  abbrev pub turning : Form → Turning
  turning g = record { test = g.test; turn_place = g.turn_place; turn = g.turn; step_place = g.step_place; step_left = Cell g.cell_place g.cell; step = g.step }

  -- what the counter is behind a turn
  abbrev pub next_word : List Counter → Form → ℕ → Option ℕ
  next_word ns g x = static w.setting.cells (counting (counter g.cell x ∷ ns) g.step)

  abbrev pub turns : List Counter → Form → ℕ → Option ℕ → Turns
  turns ns g n x = turns_from w.setting.cells ns g.cell (turning g) n x

  abbrev pub written : List Counter → Form → List Turn → Code
  written ns g ts = written_out (Some (turning g)) (map (λ x. (x, U (counter g.cell x.now ∷ ns) false (loop_body g))) ts) End

  -- the step of a turn, and what is left of the loop
  abbrev pub stepped_code : List Counter → Form → ℕ → ℕ → Code
  stepped_code ns g n x = Put g.step_place (Cell g.cell_place g.cell) Whole (Literal (place_of g.step) (kind_of g.step) (unwrap_or (next_word ns g x) 0)) (written ns g (turns ns g n (next_word ns g x)).list)

  pub record IsForm (ns : List Counter) (g : Form) : Type 0 where
    pub number : ℕ
    pub numbered : counter_number w.setting g.cell ≡ Some number
    pub seldom : nat_le (uses w.setting.cells number w.setting.body) 2 ≡ true
    -- a turn, with the counter
    pub sound : (x : ℕ) → Sound w (counter g.cell x ∷ ns) g.turn
    pub step : Sound w ns (step_code g)
    pub tested : IsKinded g.test

  -- The frames behind a list of statements, which is a block's or not.
  pub data Below : List Counter → Bool → Frames → Frames → Type 0 where
    below_stop : Below [] false Stop Stop
    below_inner : {ns : List Counter} {b : Bool} {k k' : Frames} → (c : Code) → Sound w ns c → Below ns b k k'
        → Below ns false (Go Inner (own w) (B c) k) (Go Inner (own w) (B (U ns false c)) k')
    below_block : {ns : List Counter} {b : Bool} {k k' : Frames} → (c : Code) → Sound w ns c → Below ns b k k'
        → Below ns true (Go BehindBlock (own w) (B c) k) (Go BehindBlock (own w) (B (U ns false c)) k')
    below_turn : {ns : List Counter} {k k' : Frames} → (g : Form) (n x : ℕ) → IsForm ns g → (turns ns g n (next_word ns g x)).ends ≡ true → Below ns true k k'
        → Below (counter g.cell x ∷ ns) true (Go BehindBlock (own w) (B (step_code g)) (Go Inner (own w) (B (loop_code g)) k)) (Go BehindBlock (own w) (B (stepped_code ns g n x)) k')

  -- Frames before and after, with the statements that are saved up for the exits of the loops that are written out. No such loop stands where the process
  -- is, for it has been entered.
  pub data Alike : ℕ → List Counter → Frames → Frames → Type 0 where
    alike_stop : Alike 0 [] Stop Stop
    alike_on : {ns : List Counter} {b : Bool} {k k' : Frames} → (mark mark' : Mark) (c : Code) → Sound w ns c → Below ns b k k'
        → Alike (depth ns) ns (Go mark (own w) (B c) k) (Go mark' (own w) (B (U ns false c)) k')
    -- the assignment before a loop
    alike_begin : {ns : List Counter} {k k' : Frames} → (mark mark' : Mark) (g : Form) (p q : Place) (e : Term) → IsForm ns g → Sound w ns (Put p (Cell q g.cell) Whole e (loop_code g))
        → (turns ns g enough_turns (static w.setting.cells (counting ns e))).ends ≡ true → Below ns true k k'
        → Alike (suc (depth ns)) ns (Go mark (own w) (B (Put p (Cell q g.cell) Whole e (loop_code g))) k)
        (Go mark' (own w) (B (Put p (Cell q g.cell) Whole (counting ns e) (written ns g (turns ns g enough_turns (static w.setting.cells (counting ns e))).list))) k')
    alike_turn : {ns : List Counter} {k k' : Frames} → (mark mark' : Mark) (g : Form) (n x : ℕ) → IsForm ns g → (turns ns g n (next_word ns g x)).ends ≡ true → Below ns true k k'
        → Alike (suc (depth ns)) (counter g.cell x ∷ ns) (Go mark (own w) (B (turn_code g)) (Go Inner (own w) (B (loop_code g)) k))
        (Go mark' (own w) (B (Block g.turn_place (U (counter g.cell x ∷ ns) true g.turn) (stepped_code ns g n x))) k')
    alike_step : {ns : List Counter} {k k' : Frames} → (mark mark' : Mark) (g : Form) (n x : ℕ) → IsForm ns g → (turns ns g n (next_word ns g x)).ends ≡ true → Below ns true k k'
        → Alike (suc (depth ns)) (counter g.cell x ∷ ns) (Go mark (own w) (B (step_code g)) (Go Inner (own w) (B (loop_code g)) k)) (Go mark' (own w) (B (stepped_code ns g n x)) k')

  -- what is left of a run of the unrolled body, of one with as many statements, and of one with three times as many
  abbrev pub Tells : Outcome → Outcome → Outcome → Type 0
  Tells Unfinished y z = y ≡ Unfinished
  Tells (Suspended f' a') y (Suspended f a) = (a ≡ a') × Alike 0 [] f f' × LeadsWell w a'.store.targets
  Tells (Ended a') y (Ended a) = (a ≡ a') × LeadsWell w a'.store.targets
  Tells (Stuck a') y (Stuck a) = a ≡ a'
  Tells _ y z = ⊥

  abbrev pub HoldsFixed : Held → Type 0
  HoldsFixed a = (l : Location) (x : ℕ) → w.fixed l ≡ Some x → a.store.words l ≡ x

  -- what is taken for fixed is, and no pointer is assigned next
  abbrev pub IsKept : Outcome → Type 0
  IsKept (Suspended f a) = HoldsFixed a × (next_points f ≡ false)
  IsKept _ = Unit {0}

  -- a static value is what the machine finds
  abbrev pub Knows : Type 0
  Knows = (signals : Location → ℕ) (a : Held) → HoldsFixed a → (e : Term) (x : ℕ) → IsKinded e → static w.setting.cells e ≡ Some x → value (scene_at w signals a) (expr_of w.home w.setting.cells w.process e) ≡ Some x

  module _ (signals : Location → ℕ) where
    abbrev pub go : ℕ → Frames → Held → Outcome
    go = run w.places (λ f. machine.End) signals

    abbrev pub along : ℕ → Frames → Held → Outcome
    along = after w.places (λ f. machine.End) signals

    abbrev pub Keeps : Frames → Held → Type 0
    Keeps f a = (j : ℕ) → IsKept (along j f a)

    -- with so many statements of the unrolled body, three times as many are enough with those that are saved up, and no fewer
    abbrev pub Sim : ℕ → ℕ → Frames → Frames → Held → Type 0
    Sim n v f f' a = Tells (go n f' a) (go n f a) (go (thrice n v) f a)
