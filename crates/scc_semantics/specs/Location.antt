-- Locations: what a design's names name. This project's own.
use Rattle.std.specs.Prelude.{ℕ, List, [], ◌∷◌, ◌++◌, Bool, true, false, ◌&&◌, nat_eq}

-- a step of a path: a member by the number of its name, or an element by its index
pub data Part : Type 0 where
  Member : (name : ℕ) → Part
  Element : (at : ℕ) → Part

-- Where a path begins: at the top, or at a local of a process. A local is told apart by the calls in which it stands,
-- the innermost first, each by its number in the calling function, and by the number of its declaration; the result of a call
-- is a local of its own.
pub data Root : Type 0 where
  Top : Root
  Local : (process : ℕ) (calls : List ℕ) (declaration : ℕ) → Root
  Answer : (process : ℕ) (calls : List ℕ) → Root

pub record Location : Type 0 where
  pub root : Root
  pub path : List Part

abbrev pub same_part : Part → Part → Bool
same_part (Member a) (Member b) = nat_eq a b
same_part (Element i) (Element j) = nat_eq i j
same_part _ _ = false

abbrev pub same_path : List Part → List Part → Bool
same_path [] [] = true
same_path (a ∷ p) (b ∷ q) = same_part a b && same_path p q
same_path _ _ = false

abbrev pub same_calls : List ℕ → List ℕ → Bool
same_calls [] [] = true
same_calls (a ∷ p) (b ∷ q) = nat_eq a b && same_calls p q
same_calls _ _ = false

abbrev pub same_root : Root → Root → Bool
same_root Top Top = true
same_root (Local p c d) (Local q e f) = nat_eq p q && same_calls c e && nat_eq d f
same_root (Answer p c) (Answer q e) = nat_eq p q && same_calls c e
same_root _ _ = false

abbrev pub same : Location → Location → Bool
same l m = same_root l.root m.root && same_path l.path m.path

-- a part of what stands at a location
abbrev pub within : Location → Part → Location
within l part = record { root = l.root; path = l.path ++ part ∷ [] }
