-- Locals that nothing assigns: what is spared isn't met, and with them as literals values are the same.
use Rattle.std.proofs.Common.{◌≡◌, ℕ, Bool, true, false, List, [], ◌∷◌, Option, Some, None, refl, sym, ap, ◌∙◌}
use Rattle.std.specs.Prelude.{slice_get, option_map, option_and_then, unwrap_or, if◌then◌else◌}
use Rattle.scc_bits_kinds.specs.Kinds.{width_of, number_of, stored}
use Rattle.scc_bits_kinds.specs.Bits.{part, joined}
use Rattle.scc_bits.specs.Values.{applied}
use Rattle.scc_semantics.specs.Location.{Location, Member, Element, within, same}
use Rattle.scc_semantics.specs.Places.{Places}
use Rattle.scc_semantics.specs.Store.{Store, changed}
use Rattle.scc_semantics.specs.Scene.{Names, Scene, expr_kind, loaded, sensed, pointed, index_of, bit_at, with_two, chosen, followed}
use Rattle.scc_semantics.specs.Value.{Held, locate, value, behind}
use Rattle.scc_semantics_laws.proofs.Places.{same-is}
use Rattle.scc_core_spec.specs.Term.{Term, Literal, Load, Read, Convert, Unary, Binary, Choose, Bit, Range, Join, Left, Cell, Prefix, Null, Follow, Index}
use Rattle.scc_core_spec.specs.Term as term
use Rattle.scc_core_spec.specs.Program as prog
use Rattle.scc_core_spec.specs.Static.{Cells}
use Rattle.scc_core_spec.specs.Counted.{Counter, counting, own_at, is_it, number_of as counter_of}
use Rattle.scc_core_spec.specs.Source.{Home, cell_left, expr_of, left_of}
use Rattle.scc_core_unroll_laws.specs.Unrolling.{Counters, HoldsAll, LeadsWell}
use Rattle.scc_core_unroll_laws.specs.Unrolling as unrolling
use Rattle.scc_core_unroll_laws.proofs.Counters.{value-same}
use Rattle.scc_core_unroll_laws.proofs.Untouched.{misses}
use Rattle.scc_elab_spec.specs.Copied.{Here}
use Rattle.scc_inline_process_laws.specs.Chosen.{AreHeld, reworded}
use Rattle.scc_inline_process_laws.specs.SoundCode.{IsWider, SameWords, whole_local, core_scene}
use Rattle.scc_inline_process_laws.specs.Relation.{around, rare}

-- a core's names don't depend on a frame's
module _ (home : Home) (cs : Cells) (i : ℕ) (places : Places) (signals : Location → ℕ) (s : Store) (m n : Names) where
  abbrev at : Names → Scene
  at names = record { places = places; signals = signals; names = names; store = s }

  cell-any : (c : Option prog.Cell) → locate (at m) (cell_left home cs i c) ≡ locate (at n) (cell_left home cs i c)
  cell-any None = refl
  cell-any (Some c) = refl

  mutual
    pub value-any : (e : Term) → value (at m) (expr_of home cs i e) ≡ value (at n) (expr_of home cs i e)
    value-any (Literal p k w) = refl
    value-any (Load p k l) = ap (λ o. option_map (λ l. loaded (places.things l) (s.words l)) (followed o)) (left-any l)
    value-any (Read p k l) = ap (λ o. option_map (λ l. sensed (places.things l) signals l) (followed o)) (left-any l)
    value-any (Convert p k e) = ap (option_map (λ x. stored k (number_of (expr_kind (expr_of home cs i e)) x))) (value-any e)
    value-any (Unary p k o e) = ap (option_and_then (λ x. applied o (expr_kind (expr_of home cs i e)) x (expr_kind (expr_of home cs i e)) x)) (value-any e)
    value-any (Binary p k o e f) = λ z. with_two (value-any e z) (value-any f z) (λ x y. applied o (expr_kind (expr_of home cs i e)) x (expr_kind (expr_of home cs i f)) y)
    value-any (Choose p k t e f) =
        λ z. option_and_then (λ n. with_two (value-any e z) (value-any f z) (λ x y. Some (chosen n (stored k (number_of (expr_kind (expr_of home cs i e)) x)) (stored k (number_of (expr_kind (expr_of home cs i f)) y))))) (value-any t z)
    value-any (Bit p e f) = λ z. with_two (value-any e z) (value-any f z) (λ x j. Some (bit_at (width_of (expr_kind (expr_of home cs i e))) x (index_of (expr_kind (expr_of home cs i f)) j)))
    value-any (Range p k e hi lo) = ap (option_map (part hi lo)) (value-any e)
    value-any (Join p k e f) = λ z. with_two (value-any e z) (value-any f z) (λ x y. Some (joined (width_of (expr_kind (expr_of home cs i f))) x y))

    pub left-any : (l : Left) → locate (at m) (left_of home cs i l) ≡ locate (at n) (left_of home cs i l)
    left-any (Cell p c) = cell-any (slice_get cs c)
    left-any (Prefix p c) = refl
    left-any (Null p) = refl
    left-any (Follow p soft l) = ap (λ o. behind o (λ l. Some (pointed (places.pointers l) (s.targets l)))) (left-any l)
    left-any (term.Member l c) = ap (λ o. behind o (λ l. Some (Some (within l (Member c))))) (left-any l)
    left-any (Index l size e) = λ z. behind (left-any l z) (λ l. option_map (λ j. Some (within l (Element (index_of (expr_kind (expr_of home cs i e)) j)))) (value-any e z))

-- what a counter's cell holds
abbrev pub word_of : Home → Here → (Location → ℕ) → Option ℕ → ℕ
word_of home h words o = unwrap_or (option_map (λ o. words (whole_local home h.process o)) o) 0

abbrev pub words_at : Home → Here → (Location → ℕ) → ℕ → ℕ
words_at home h words n = word_of home h words (counter_of h.path (slice_get h.cells n))

module _ (home : Home) (places : Places) (own : Names) (h : Here) where
  -- wherever these locals hold what they held, the counters hold it
  pub held-all : (held : ℕ → Bool) (ns : List Counter) → AreHeld h held ns → (words : Location → ℕ) (u : Store) → SameWords home h.process held words u.words
      → HoldsAll (around home places own h) (reworded (words_at home h words) ns) (record { store = u; requests = [] })
  held-all held [] x words u v = tt
  held-all held (c ∷ ns) x words u v = ((x.0.0, x.0.1, v x.0.0 x.0.2 ∙ sym (ap (word_of home h words) x.0.1)), held-all held ns x.1 words u v)

  module _ (counters : Counters (around home places own h)) (signals : Location → ℕ) where
    pub counted-same : (u : Store) (ns : List Counter) (e : Term) → HoldsAll (around home places own h) ns (record { store = u; requests = [] })
        → value (core_scene home places signals own u) (expr_of home h.cells h.process e) ≡ value (core_scene home places signals own u) (expr_of home h.cells h.process (counting ns e))
    counted-same u ns e holds =
        let w = around home places own h in
        value-any home h.cells h.process places signals u own (unrolling.own w) e
        ∙ (sym (value-same w counters signals ns (record { store = u; requests = [] }) e holds)
        ∙ value-any home h.cells h.process places signals u (unrolling.own w) own (counting ns e))

    -- what is put elsewhere leaves the locals that are spared
    pub spared-words : (a : Held) → LeadsWell (around home places own h) a.store.targets → (held : ℕ → Bool) → IsWider (rare home places own h) held → (l : Left) → ((o : ℕ) → held o ≡ true → is_it o (own_at h.cells l) ≡ false)
        → (m : Location) → locate (core_scene home places signals own a.store) (left_of home h.cells h.process l) ≡ Some (Some m) → (o : ℕ) → held o ≡ true → whole_local home h.process o ≡ m → ⊥
    spared-words a leads held few l spares m at o e z =
        let w = around home places own h in
        misses w counters signals a leads o (few o e) l m (spares o e) (left-any home h.cells h.process places signals a.store (unrolling.own w) own l ∙ at) (sym z)

    pub spared-changed : (a : Held) → LeadsWell (around home places own h) a.store.targets → (held : ℕ → Bool) → IsWider (rare home places own h) held → (l : Left) → ((o : ℕ) → held o ≡ true → is_it o (own_at h.cells l) ≡ false)
        → (m : Location) → locate (core_scene home places signals own a.store) (left_of home h.cells h.process l) ≡ Some (Some m) → (x : ℕ) → SameWords home h.process held a.store.words (changed m x a.store.words)
    spared-changed a leads held few l spares m at x o e = by (same m (whole_local home h.process o)) refl
      where
        by : (c : Bool) → same m (whole_local home h.process o) ≡ c → (if c then x else a.store.words (whole_local home h.process o)) ≡ a.store.words (whole_local home h.process o)
        by true z = absurd (spared-words a leads held few l spares m at o e (sym (same-is m (whole_local home h.process o) z)))
        by false z = refl
