-- When code does the same from two actings: they differ only in cells that are written whole before they are read. This project's own.
use Rattle.std.specs.Prelude.{◌≡◌, ℕ, false, List, ◌++◌}
use Rattle.std.specs.List.{list_any}
use Rattle.scc_core_spec.specs.Code.{Code, End, Put, Aim, If, Block, Loop, Exit, Wait}
use Rattle.scc_core_spec.specs.Static.{Cells}
use Rattle.scc_core_spec.specs.Uses.{Use, loads, inside, picked, cells_of, whole_writes, among}
use Rattle.scc_core_spec.specs.Flow.{CellSet, flow, either, without}
use Rattle.scc_blocks_spec.specs.Acting.{Acting}
use Rattle.scc_blocks_spec.specs.Effect.{Effect, Fell, Left_out, Lost, Ran, Waits, Ends, Fails}
use Rattle.scc_core_spec.specs.Segments.{Segment, Plain, Test, Halt, Finish}
use Rattle.scc_core_effect_laws.specs.Sound.{AllUses, FitWords, FixedWords, Each}

-- Two actings of which the same was asked, and that hold the same but in these cells; the words of both fit, and fixed ones hold what they have for good.
pub record Both (cs : Cells) (u : CellSet) (a b : Acting) : Type 0 where
  pub asked : (c : ℕ) → a.asked c ≡ b.asked c
  pub now : (c : ℕ) → u c ≡ false → a.now c ≡ b.now c
  pub fit : FitWords cs a
  pub fit_too : FitWords cs b
  pub fixed : FixedWords cs a
  pub fixed_too : FixedWords cs b

abbrev pub Alike : Cells → CellSet → (ℕ → CellSet) → Effect → Effect → Type 0
Alike cs fall out (Fell a) (Fell b) = Both cs fall a b
Alike cs fall out (Left_out n a) (Left_out m b) = (n ≡ m) × Both cs (out n) a b
Alike cs fall out Lost Lost = Unit {0}
Alike cs fall out _ _ = ⊥

abbrev pub AlikeRan : Cells → CellSet → Ran → Ran → Type 0
AlikeRan cs u (Waits a p) (Waits b q) = (p ≡ q) × Both cs u a b
AlikeRan cs u (Ends a) (Ends b) = Both cs u a b
AlikeRan cs u Fails Fails = Unit {0}
AlikeRan cs u _ _ = ⊥

-- none of the cells is read
abbrev pub Unseen : Cells → CellSet → List Use → Type 0
Unseen cs u us = AllUses (λ w. list_any u (cells_of cs w.left) ≡ false) us

-- no path reads one of the cells before it writes the cell whole
abbrev pub Late : Cells → CellSet → Code → Type 0
Late cs u End = Unit {0}
Late cs u (Put p l k e r) = Unseen cs u (inside l ++ (picked k ++ loads e)) × Late cs (without (whole_writes cs l k) u) r
Late cs u (Aim p to t r) = Late cs u r
Late cs u (If p e a b r) = Unseen cs u (loads e) × Late cs u a × Late cs u b × Late cs (either (flow cs a u).fall (flow cs b u).fall) r
Late cs u (Block p b r) = Late cs u b × Late cs (either (flow cs b u).fall ((flow cs b u).out 0)) r
Late cs u (Loop p n b r) = Late cs u b
Late cs u (Exit p n r) = Unit {0}
Late cs u (Wait p l n r) = Late cs u r

-- no statement reads the cell
abbrev pub UnreadUses : Cells → ℕ → List Use → Type 0
UnreadUses cs x us = AllUses (λ w. among x (cells_of cs w.left) ≡ false) us

abbrev pub Unread : Cells → ℕ → Code → Type 0
Unread cs x c = Each (λ l k e. UnreadUses cs x (inside l ++ (picked k ++ loads e))) (λ t. UnreadUses cs x (loads t)) c

-- each plain part of a segment is one statement
abbrev pub Single : Code → Type 0
Single (Put p l k e End) = Unit {0}
Single (Aim p to t End) = Unit {0}
Single (If p t a b End) = Unit {0}
Single (Block p b End) = Unit {0}
Single (Loop p n b End) = Unit {0}
Single _ = ⊥

abbrev pub Singles : Segment → Type 0
Singles (Plain c s) = Single c × Singles s
Singles (Test p t a b) = Singles a × Singles b
Singles (Halt p n c) = Unit {0}
Singles Finish = Unit {0}
