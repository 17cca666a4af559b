-- Paths through a live body: what they read and write in turn, and how they go out (IEEE 1666-2011, 5.2: a process runs to its end or to a
-- wait; ISO C++ [stmt]).
use Rattle.std.specs.Prelude.{◌≡◌, ◌⊎◌, ℕ, zero, suc, Bool, true, false, ◌||◌, List, [], ◌∷◌, ◌++◌, map, Option}
use Rattle.scc_base.specs.declared.refusal.Place.{Place}
use Rattle.scc_core_spec.specs.Term.{Term, Left, Pick}
use Rattle.scc_core_spec.specs.Code.{Code, Count, Pointed, End, Put, Aim, If, Block, Loop, Exit, Wait}
use Rattle.scc_core_spec.specs.Static.{Cells}
use Rattle.scc_core_spec.specs.Uses.{Use, loads, inside, picked, cells_of, whole_writes, among}

pub data Event : Type 0 where
  -- a read at a place: of each cell that it may name
  Reads : (place : Place) (cells : List ℕ) → Event
  -- whole values for these cells
  Writes : (cells : List ℕ) → Event
  Pauses : Event

abbrev pub Trail : Type 0
Trail = List Event

abbrev pub reading : Cells → List Use → Trail
reading cs us = map (λ u. Reads u.place (cells_of cs u.left)) us

abbrev pub put_events : Cells → Left → Pick → Term → Trail
put_events cs l k e = reading cs (inside l ++ (picked k ++ loads e)) ++ Writes (whole_writes cs l k) ∷ []

pub data Way : Type 0 where
  Through : Way
  -- leaves the n-th block around
  Leaves : (depth : ℕ) → Way
  -- the path is looked at up to here
  Cut : Way

abbrev pub IsAway : Way → Type 0
IsAway Through = ⊥
IsAway (Leaves n) = Unit {0}
IsAway Cut = Unit {0}

-- a path through the code does this in turn, and goes out this way; at a wait it goes on
pub data Goes (cs : Cells) : Code → Trail → Way → Type 0 where
  ends : Goes cs End [] Through
  cut : (c : Code) → Goes cs c [] Cut
  puts : {r : Code} {t : Trail} {w : Way} → (p : Place) (l : Left) (k : Pick) (e : Term) → Goes cs r t w → Goes cs (Put p l k e r) (put_events cs l k e ++ t) w
  aims : {r : Code} {t : Trail} {w : Way} → (p : Place) (to : Pointed) (l : Left) → Goes cs r t w → Goes cs (Aim p to l r) (reading cs (inside l) ++ t) w
  waits : {r : Code} {t : Trail} {w : Way} → (p : Place) (n c : ℕ) → Goes cs r t w → Goes cs (Wait p n c r) (Pauses ∷ t) w
  yes : {a b r : Code} {t u : Trail} {w : Way} → (p : Place) (e : Term) → Goes cs a t Through → Goes cs r u w → Goes cs (If p e a b r) (reading cs (loads e) ++ (t ++ u)) w
  no : {a b r : Code} {t u : Trail} {w : Way} → (p : Place) (e : Term) → Goes cs b t Through → Goes cs r u w → Goes cs (If p e a b r) (reading cs (loads e) ++ (t ++ u)) w
  yes_away : {a b r : Code} {t : Trail} {w : Way} → (p : Place) (e : Term) → IsAway w → Goes cs a t w → Goes cs (If p e a b r) (reading cs (loads e) ++ t) w
  no_away : {a b r : Code} {t : Trail} {w : Way} → (p : Place) (e : Term) → IsAway w → Goes cs b t w → Goes cs (If p e a b r) (reading cs (loads e) ++ t) w
  passes : {b r : Code} {t u : Trail} {w : Way} → (p : Place) → Goes cs b t Through → Goes cs r u w → Goes cs (Block p b r) (t ++ u) w
  left : {b r : Code} {t u : Trail} {w : Way} → (p : Place) → Goes cs b t (Leaves zero) → Goes cs r u w → Goes cs (Block p b r) (t ++ u) w
  leaves_more : {b r : Code} {t : Trail} {n : ℕ} → (p : Place) → Goes cs b t (Leaves (suc n)) → Goes cs (Block p b r) t (Leaves n)
  cut_inside : {b r : Code} {t : Trail} → (p : Place) → Goes cs b t Cut → Goes cs (Block p b r) t Cut
  again : {b r : Code} {t u : Trail} {w : Way} → (p : Place) (n : Option Count) → Goes cs b t Through → Goes cs (Loop p n b r) u w → Goes cs (Loop p n b r) (t ++ u) w
  loop_left : {b r : Code} {t : Trail} {w : Way} → (p : Place) (n : Option Count) → IsAway w → Goes cs b t w → Goes cs (Loop p n b r) t w
  exits : (p : Place) (n : ℕ) (r : Code) → Goes cs (Exit p n r) [] (Leaves n)

abbrev pub wrote : ℕ → Trail → Bool
wrote x [] = false
wrote x (Reads p cells ∷ t) = wrote x t
wrote x (Writes cells ∷ t) = among x cells || wrote x t
wrote x (Pauses ∷ t) = wrote x t

abbrev pub paused : Trail → Bool
paused [] = false
paused (Pauses ∷ t) = true
paused (e ∷ t) = paused t

-- a path to the end doesn't write the cell
abbrev pub Misses : Cells → Code → ℕ → Type 0
Misses cs c x = (t : Trail) × Goes cs c t Through × (wrote x t ≡ false)

-- a path reads the cell at that place before it writes the cell whole
abbrev pub ReadsFirst : ℕ → Place → Trail → Type 0
ReadsFirst x at [] = ⊥
ReadsFirst x at (Reads p cells ∷ t) = ((p ≡ at) × (among x cells ≡ true)) ⊎ ReadsFirst x at t
ReadsFirst x at (Writes cells ∷ t) = (among x cells ≡ false) × ReadsFirst x at t
ReadsFirst x at (Pauses ∷ t) = ReadsFirst x at t

-- a path comes to a read of the cell there and hasn't written it whole before
abbrev pub Early : Cells → Code → ℕ → Place → Type 0
Early cs c x at = (t : Trail) × Goes cs c t Cut × ReadsFirst x at t

-- a path goes through a loop's body without a wait
abbrev pub MayNotWait : Cells → Code → Type 0
MayNotWait cs b = (t : Trail) × Goes cs b t Through × (paused t ≡ false)

-- a path comes to the end
abbrev pub ReachesEnd : Cells → Code → Type 0
ReachesEnd cs c = (t : Trail) × Goes cs c t Through
