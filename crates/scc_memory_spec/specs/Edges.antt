-- Asynchronous resets and edges of a module with memories (IEEE 1800-2017, 9.2.2.4).
use Rattle.std.specs.Prelude.{ℕ, nat_eq, Bool, false, not, cond, ◌&&◌, ◌||◌, List, [], ◌∷◌, Option, Some, None, slice_get, unwrap_or}
use Rattle.std.specs.List.{list_any}
use Rattle.scc_blocks_spec.specs.Renamed.{ResetCode, Loaded}
use Rattle.scc_memory_spec.specs.Memory.{MemModule, MemBlock, Comb, Edge, Memory, Valuation, set_word}

abbrev pub is_active : Option ResetCode → (ℕ → ℕ) → Bool
is_active None x = false
is_active (Some r) x = cond r.rising (not (nat_eq (x r.signal) 0)) (nat_eq (x r.signal) 0)

abbrev pub loaded : List Loaded → ℕ → Option ℕ
loaded [] v = None
loaded (l ∷ ls) v = cond (nat_eq l.target v) (Some l.word) (loaded ls v)

abbrev pub loads : Option ResetCode → ℕ → Option ℕ
loads None v = None
loads (Some r) v = loaded r.values v

-- what active resets load, and what an edge gives
abbrev pub after_resets : List MemBlock → (ℕ → ℕ) → ℕ → ℕ
after_resets [] x v = x v
after_resets (Comb c ∷ bs) x v = after_resets bs x v
after_resets (Edge rising clock reset sets memories ∷ bs) x v = cond (is_active reset x) (unwrap_or (loads reset v) (after_resets bs x v)) (after_resets bs x v)

abbrev pub words_after : MemModule → Valuation → (ℕ → Bool) → List MemBlock → ℕ → ℕ
words_after m x clocks [] v = x.words v
words_after m x clocks (Comb c ∷ bs) v = words_after m x clocks bs v
words_after m x clocks (Edge rising clock reset sets memories ∷ bs) v = cond (clocks clock)
    (unwrap_or (cond (is_active reset x.words) (loads reset v) (set_word m x.elements sets x.words v)) (words_after m x clocks bs v)) (words_after m x clocks bs v)

-- an edge of its clock, without an active reset, writes the memories of a block
abbrev pub is_written : Valuation → (ℕ → Bool) → List MemBlock → ℕ → Bool
is_written x clocks [] k = false
is_written x clocks (Comb c ∷ bs) k = is_written x clocks bs k
is_written x clocks (Edge rising clock reset sets memories ∷ bs) k = (clocks clock && (not (is_active reset x.words) && list_any (nat_eq k) memories)) || is_written x clocks bs k

abbrev pub element_after : Valuation → Bool → Option Memory → ℕ → ℕ → ℕ
element_after x written None k i = x.elements k i
element_after x written (Some a) k i = cond (written && (not (nat_eq (x.words a.write) 0) && nat_eq (x.words a.address) i)) (x.words a.value) (x.elements k i)

abbrev pub after_edges : MemModule → (ℕ → Bool) → Valuation → Valuation
after_edges m clocks x = record { words = words_after m x clocks m.blocks; elements = λ k i. element_after x (is_written x clocks m.blocks k) (slice_get m.memories k) k i }
