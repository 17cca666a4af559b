-- Outcomes of resumes.
use Rattle.std.specs.Prelude.{◌≡◌, true, Option, List, ◌++◌, map}
use Rattle.scc_semantics.specs.Location.{Location}
use Rattle.scc_semantics.specs.Store.{Request}
use Rattle.scc_semantics.specs.Value.{Held}
use Rattle.scc_semantics.specs.Body.{Body, End, Assign, Point, Clear, If, Block, Loop, Exit, Call, Begin, Pass, Return, Wait}
use Rattle.scc_semantics.specs.Design.{Process, Design}
use Rattle.scc_semantics.specs.Steady.{plain_body}
use Rattle.scc_semantics.specs.Machine.{Frames, Stop, Go, Outcome, Suspended, Ended, Stuck, Unfinished}

abbrev pub IsOver : Outcome → Type 0
IsOver (Suspended f h) = Unit {0}
IsOver (Ended h) = Unit {0}
IsOver (Stuck h) = Unit {0}
IsOver Unfinished = ⊥

abbrev pub behind : List Request → Held → Held
behind rs h = record { store = h.store; requests = rs ++ h.requests }

abbrev pub all_behind : List Request → Outcome → Outcome
all_behind rs (Suspended f h) = Suspended f (behind rs h)
all_behind rs (Ended h) = Ended (behind rs h)
all_behind rs (Stuck h) = Stuck (behind rs h)
all_behind rs Unfinished = Unfinished

-- with other targets
abbrev pub aimed : (Location → Option Location) → Held → Held
aimed t h = record { store = record { words = h.store.words; targets = t }; requests = h.requests }

abbrev pub all_aimed : (Location → Option Location) → Outcome → Outcome
all_aimed t (Suspended f h) = Suspended f (aimed t h)
all_aimed t (Ended h) = Ended (aimed t h)
all_aimed t (Stuck h) = Stuck (aimed t h)
all_aimed t Unfinished = Unfinished

-- frames without pointers
abbrev pub PlainFrames : Frames → Type 0
PlainFrames Stop = Unit {0}
PlainFrames (Go mark m b k) = (plain_body b ≡ true) × PlainFrames k

abbrev pub PlainLeft : Outcome → Type 0
PlainLeft (Suspended f h) = PlainFrames f
PlainLeft _ = Unit {0}

-- with every wait numbered 0
abbrev pub unnumbered : Body → Body
unnumbered End = End
unnumbered (Assign l p e r) = Assign l p e (unnumbered r)
unnumbered (Point declares l t r) = Point declares l t (unnumbered r)
unnumbered (Clear l r) = Clear l (unnumbered r)
unnumbered (If t a b r) = If t (unnumbered a) (unnumbered b) (unnumbered r)
unnumbered (Block b r) = Block (unnumbered b) (unnumbered r)
unnumbered (Loop b r) = Loop (unnumbered b) (unnumbered r)
unnumbered (Exit n r) = Exit n (unnumbered r)
unnumbered (Call number object enter function r) = Call number object (unnumbered enter) function (unnumbered r)
unnumbered (Begin r) = Begin (unnumbered r)
unnumbered (Pass d a r) = Pass d a (unnumbered r)
unnumbered (Return e r) = Return e (unnumbered r)
unnumbered (Wait number count r) = Wait 0 count (unnumbered r)

abbrev pub unnumbered_frames : Frames → Frames
unnumbered_frames Stop = Stop
unnumbered_frames (Go mark m b k) = Go mark m (unnumbered b) (unnumbered_frames k)

abbrev pub unnumbered_left : Outcome → Outcome
unnumbered_left (Suspended f h) = Suspended (unnumbered_frames f) h
unnumbered_left (Ended h) = Ended h
unnumbered_left (Stuck h) = Stuck h
unnumbered_left Unfinished = Unfinished

abbrev pub unnumbered_process : Process → Process
unnumbered_process p = record { object = p.object; sort = p.sort; body = unnumbered p.body }

abbrev pub unnumbered_design : Design → Design
unnumbered_design d = record { places = d.places; functions = λ f. unnumbered (d.functions f); ports = d.ports; fixed = d.fixed; constant = d.constant; targets = d.targets; processes = map unnumbered_process d.processes }
