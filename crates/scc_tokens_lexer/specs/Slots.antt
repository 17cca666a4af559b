-- Lists of words in which each word has a slot of its own.
use Rattle.std.specs.Prelude.{ℕ, ◌+◌, ◌-◌, ◌*◌, ◌/◌, ◌%◌, List, [], ◌∷◌, length, Bool, true, ◌&&◌, ◌==◌, if◌then◌else◌, Option, Some, None, bytes_eq, slice_get, slice_index}

-- the slot of a text, by its length and its first, middle and last byte
abbrev pub slot_of : List ℕ → ℕ
slot_of text =
    (length text % 256 * 137 + slice_index text 0 * 231 + slice_index text (length text / 2) * 69 + slice_index text (length text - 1) * 81) % 288

-- the slots of the words have their numbers, from this one on
abbrev pub placed_from : {A : Type 0} → (A → List ℕ) → ℕ → List A → List ℕ → Bool
placed_from text i [] slots = true
placed_from text i (w ∷ ws) slots = (slice_index slots (slot_of (text w)) == i) && placed_from text (i + 1) ws slots

abbrev pub placed : {A : Type 0} → (A → List ℕ) → List A → List ℕ → Bool
placed text words slots = placed_from text 0 words slots

abbrev pub tried : {A : Type 0} → (A → List ℕ) → List ℕ → ℕ → Option A → Option ℕ
tried text t i None = None
tried text t i (Some w) = if bytes_eq (text w) t then Some i else None

-- the number in the slot of a text, where its word is the text
abbrev pub at_slot : {A : Type 0} → (A → List ℕ) → List A → List ℕ → List ℕ → Option ℕ
at_slot text words slots t = tried text t (slice_index slots (slot_of t)) (slice_get words (slice_index slots (slot_of t)))
