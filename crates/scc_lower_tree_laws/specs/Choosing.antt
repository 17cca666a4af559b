-- Indices that stand in variables, and the text that reads the element that they name. This project's own.
use Rattle.std.specs.Prelude.{◌≡◌, ℕ, ◌+◌, ◌-◌, ◌*◌, ◌<◌, ◌≤◌, ◌^◌, min, List, [], ◌∷◌, map, Option, Some, option_map, option_and_then, slice_get}
use Rattle.scc_svtree.specs.Term as emitted
use Rattle.scc_blocks_spec.specs.Shown.{Sight}
use Rattle.scc_lower_laws.specs.Lowers.{temporary}
use Rattle.scc_lower_laws.specs.Elements.{Dimension, Slot, ShowsElement, ShowsSpan, cell_in}
use Rattle.scc_bits_kinds.specs.Bits.{part}
use Rattle.scc_bits_kinds.specs.Kinds.{width_of}
use Rattle.scc_core.specs.declared.program.Cell.{Cell as Held}
use Rattle.scc_lower_spec.specs.Selected.{part_left}
use Rattle.scc_lower_tree_laws.specs.Sound.{IsReadCell}
use Rattle.scc_lower_tree_laws.specs.States.{Given, Sees, Seen, Constant, Plain, Next, Delayed}

-- a dimension of an array, and the variable of the index that chooses in it
pub record Opened : Type 0 where
  pub slot : Slot
  pub size : ℕ
  pub stride : ℕ

abbrev pub slots_of : List Opened → List Slot
slots_of os = map (λ (o : Opened). o.slot) os

-- bits h down to l of a cell of so many, as it is seen
abbrev pub cell_text : Seen → (width c h l : ℕ) → emitted.Term
cell_text (Constant w) width c h l = emitted.Literal (min (h - l + 1) 4294967295) (part h l w)
cell_text Plain width c h l = emitted.Part (part_left (record { 0 = c * 2 + 0 }) width h l)
cell_text Next width c h l = emitted.Part (part_left (record { 0 = c * 2 + 1 }) width h l)
cell_text Delayed width c h l = emitted.Part (part_left (record { 0 = c * 2 + 0 }) width h l)

abbrev pub cell_read : List Held → List Seen → (c h l : ℕ) → Option emitted.Term
cell_read cells views c h l = option_and_then (λ cell. option_map (λ v. cell_text v (width_of cell.kind) c h l) (slice_get views c)) (slice_get cells c)

-- indices in dimensions of these sizes
abbrev pub AreOpen : List Dimension → List Opened → Type 0
AreOpen [] [] = Unit {0}
AreOpen (d ∷ ds) (o ∷ os) = (d.size ≡ o.size) × (d.stride ≡ o.stride) × AreOpen ds os
AreOpen _ _ = ⊥

-- no later temporaries
abbrev pub AreBelow : Sight → ℕ → List Opened → Type 0
AreBelow s m [] = Unit {0}
AreBelow s m (o ∷ os) = (o.slot.variable < temporary s m) × AreBelow s m os

-- all elements are read by the process, and have so many bits
abbrev pub AreRead : Sight → (bits first : ℕ) → List Dimension → Type 0
AreRead s bits first ds = (is : List ℕ) (c : ℕ) → cell_in first ds is ≡ Some c → IsReadCell s bits c

-- the text shows bits h down to l of an element
abbrev pub ReadsElement : Given → List Seen → List Opened → (first h l : ℕ) → emitted.Term → Type 0
ReadsElement g views os first h l t = (s : Sight) (width : ℕ → ℕ) (m bits : ℕ) (ds : List Dimension) → Sees g.cells views s width → AreOpen ds os → AreBelow s m os → AreRead s bits first ds → bits ≤ 128 → l ≤ h → h < bits
    → ShowsElement s width m bits (slots_of os) ds first h l t

-- or of one from low on up to high, of the first dimension
abbrev pub ReadsSpan : Given → List Seen → Opened → List Opened → (first low high h l : ℕ) → emitted.Term → Type 0
ReadsSpan g views o os first low high h l t = (s : Sight) (width : ℕ → ℕ) (m bits : ℕ) (d : Dimension) (ds : List Dimension) → Sees g.cells views s width → AreOpen (d ∷ ds) (o ∷ os) → AreBelow s m (o ∷ os)
    → AreRead s bits first (d ∷ ds) → bits ≤ 128 → high ≤ min o.size (2 ^ o.slot.width) → l ≤ h → h < bits
    → ShowsSpan s width m bits o.slot (slots_of os) d ds first low high h l t
