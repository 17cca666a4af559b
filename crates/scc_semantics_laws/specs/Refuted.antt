-- The law on runs, by the old definition; and two designs of which it doesn't hold.
use Rattle.std.specs.Prelude.{◌≡◌, ℕ, ◌*◌, nat_eq, true, false, List, [], ◌∷◌, Some, None, if◌then◌else◌}
use Rattle.scc_bits_kinds.specs.declared.kind.Kind.TheVariants as kind
use Rattle.scc_semantics.specs.Location.{Location, Top, Member, same}
use Rattle.scc_semantics.specs.Places.{Number, Combinational}
use Rattle.scc_semantics.specs.Expressions.{Load, At, Follow, Whole, Address}
use Rattle.scc_semantics.specs.Body.{Body, End, Point, Assign, Exit}
use Rattle.scc_semantics.specs.Design.{Process, Design}
use Rattle.scc_semantics.specs.Process.{State, Well, first_frames}
use Rattle.scc_semantics.specs.Run.{Step, Shown, FitSteps, shown}
use Rattle.scc_semantics.specs.Start.{IsStart}
use Rattle.scc_semantics.specs.Steady.{IsSteady}
use Rattle.scc_semantics_laws.specs.Old.{SameDesign}

abbrev pub OldLaw : Type 0
OldLaw = (k : ℕ) (d e : Design) → SameDesign k d e → IsSteady e → (s t : State) → IsStart d s → IsStart e t → ((l : Location) → s.store.words l ≡ t.store.words l)
    → (xs : List Step) → FitSteps d xs → (b : ℕ → ℕ) (os : List Shown) → shown b e xs t ≡ Well os → shown (λ i. k * b i) d xs s ≡ Well os

abbrev pub member : ℕ → Location
member n = record { root = Top; path = Member n ∷ [] }

-- a method, of which the pointer 1 is to lead to 3; it led to 2
abbrev pub method : Body → Process
method b = record { object = member 0; sort = Combinational []; body = b }

abbrev pub aims : Process
aims = method (Point false (At (member 1)) (Address (At (member 3))) End)

abbrev pub rests : Process
rests = method (Exit 0 End)

-- what the pointer leads to is copied to 4; and what it led to first
abbrev pub copies : Process
copies = method (Assign (At (member 4)) Whole (Load kind.Bool (Follow (At (member 1)))) End)

abbrev pub direct : Process
direct = method (Assign (At (member 4)) Whole (Load kind.Bool (At (member 2))) End)

abbrev pub of_two : Process → Process → Design
of_two p q = record {
  places = record { things = λ l. Some (Number kind.Bool); pointers = λ l. true };
  functions = λ n. End;
  ports = [];
  fixed = λ l. None;
  constant = λ l. None;
  targets = λ l. Some (member 2);
  processes = p ∷ q ∷ [];
}

-- all hold 0 but for 3, which holds 1
abbrev pub start_of : Process → Process → State
start_of p q = record {
  store = record { words = λ l. if same l (member 3) then 1 else 0; targets = λ l. Some (member 2) };
  frames = λ i. if nat_eq i 0 then first_frames 0 p else first_frames 1 q;
}

-- one moves a pointer that the other follows; one follows a pointer that stays; and what these come to
abbrev pub moving : Design
moving = of_two aims copies

abbrev pub staying : Design
staying = of_two rests copies

abbrev pub resolved : Design
resolved = of_two rests direct
