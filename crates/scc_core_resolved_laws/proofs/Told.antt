-- What a location names while registers hold what is fixed is among the cells that its statement tells.
use Rattle.std.proofs.Common.{◌≡◌, ℕ, Bool, true, false, List, [], ◌∷◌, ◌++◌, Option, Some, None, refl, sym, ap, subst, ◌∙◌, arith}
use Rattle.std.specs.Prelude.{slice_get, option_map, option_and_then, unwrap_or, if◌then◌else◌}
use Rattle.scc_bits_kinds.specs.Kinds.{width_of, number_of, stored}
use Rattle.scc_bits_kinds.specs.Bits.{part, joined}
use Rattle.scc_bits.specs.Values.{applied}
use Rattle.scc_semantics.specs.Scene.{index_of, chosen, bit_at, with_two}
use Rattle.scc_core_spec.specs.Term.{Term, Literal, Load, Read, Convert, Unary, Binary, Choose, Bit, Range, Join, Left, Cell, Prefix, Null, Follow, Member, Index, kind_of}
use Rattle.scc_core_spec.specs.Program.{Sort, Variable, Input, Output, Local, Pointer, Port}
use Rattle.scc_core_spec.specs.Program as program
use Rattle.scc_core_spec.specs.Named.{Step, Named, At, steps_of, is_open, cell_at}
use Rattle.scc_core_spec.specs.Static.{Cells, grown, static, pattern, first_of, found, held, held_at, fixed_word, index_step}
use Rattle.scc_core_spec.specs.Uses.{root_of, root_of_sort, cells_of, among}
use Rattle.scc_blocks_spec.specs.Acting.{Acting, word_in, steps_in, cell_named, word_or_zero}
use Rattle.scc_states_laws.proofs.Values.{some_same, map_is, then_is, two_is}
use Rattle.scc_states_laws.proofs.Statics.{find_cell, index_closed, open_front}
use Rattle.scc_core_resolved_laws.specs.Asked.{HoldsFixed}
use Rattle.scc_core_spec.specs.OpenNames.{agrees, is_sized}
use Rattle.scc_core_resolved_laws.proofs.Agreeing.{agrees-append, agrees-self, name-closed}
use Rattle.scc_core_resolved_laws.proofs.Cells.{found-at}
use Rattle.scc_core_resolved_laws.proofs.Writes.{named-among}

module _ (cs : Cells) (a : Acting) (fixed : HoldsFixed cs a) where
  loaded-is : (s : List Step) (u : Option program.Cell) (x : ℕ) → held (found cs s) u ≡ Some x → word_or_zero a (cell_named cs (Some s)) ≡ x
  loaded-is s u x e = by (cell_at false 0 s cs) refl (found cs s) (find_cell cs s) e
    where
      variable : (n : ℕ) (c : program.Cell) (z : Sort) → c.sort ≡ z → slice_get cs n ≡ Some c → fixed_word z ≡ Some x → a.now (root_of cs n) ≡ x
      variable n c (Variable w true) d g h =
          let root : root_of cs n ≡ n = ap (λ o. unwrap_or (option_map (λ s. root_of_sort cs s n) (option_map (λ c. c.sort) o)) n) g ∙ ap (λ z. root_of_sort cs z n) d in
          ap a.now root ∙ fixed n c x g (ap fixed_word d ∙ h)
      variable n c (Variable w false) d g h = absurd cc
      variable n c Input d g h = absurd cc
      variable n c Output d g h = absurd cc
      variable n c program.Signal d g h = absurd cc
      variable n c (Local i) d g h = absurd cc
      variable n c (Pointer t) d g h = absurd cc
      variable n c (Port t) d g h = absurd cc

      some-none : {A : Type 0} (c : program.Cell) → Some c ≡ None → A
      some-none c h = absurd cc

      none-held : (u : Option program.Cell) → held None u ≡ Some x → 0 ≡ x
      none-held None h = absurd cc
      none-held (Some c) h = (map_is (fixed_word c.sort) (λ w. 0) x h).2

      by : (o : Option ℕ) → cell_at false 0 s cs ≡ o → (f : Option program.Cell) → f ≡ option_and_then (slice_get cs) (cell_at false 0 s cs) → held f u ≡ Some x → word_or_zero a (option_map (root_of cs) o) ≡ x
      by None c None f h = none-held u h
      by None c (Some d) f h = some-none d (f ∙ ap (option_and_then (slice_get cs)) c)
      by (Some n) c (Some d) f h = variable n d d.sort refl (sym (f ∙ ap (option_and_then (slice_get cs)) c)) h
      by (Some n) c None f h =
          let r = found-at cs 0 n s c in
          let k : r.0 ≡ n = omega (arith, r.2) in
          some-none r.1 (sym r.3 ∙ (ap (slice_get cs) k ∙ sym (f ∙ ap (option_and_then (slice_get cs)) c)))

  mutual
    closed-steps : (l : Left) (t : List Step) → pattern cs l ≡ Some t → is_open t ≡ false → steps_in cs a l ≡ Some t
    closed-steps (Cell p n) t e c = e
    closed-steps (Prefix p name) t e c = e
    closed-steps (Null p) t e c = absurd cc
    closed-steps (Follow p soft l) t e c = absurd cc
    closed-steps (Member l name) t e c =
        let m = map_is (pattern cs l) (λ z. z ++ Named name ∷ []) t e in
        ap (λ o. grown o (Named name)) (closed-steps l m.0 m.1 (open_front m.0 (Named name) (ap is_open m.2 ∙ c))) ∙ ap Some m.2
    closed-steps (Index l size j) t e c =
        let m = map_is (pattern cs l) (λ z. z ++ index_step size (kind_of j) (static cs j) ∷ []) t e in
        let front = closed-steps l m.0 m.1 (open_front m.0 (index_step size (kind_of j) (static cs j)) (ap is_open m.2 ∙ c)) in
        let v = index_closed m.0 size (kind_of j) (static cs j) (ap is_open m.2 ∙ c) in
        ap (option_and_then (λ i. grown (steps_in cs a l) (At (index_of (kind_of j) i)))) (static-in j v.0 v.1)
        ∙ (ap (λ o. grown o (At (index_of (kind_of j) v.0))) front ∙ ap Some (ap (λ o. m.0 ++ index_step size (kind_of j) o ∷ []) (sym v.1) ∙ m.2))

    -- a static value is what the registers give
    pub static-in : (e : Term) (x : ℕ) → static cs e ≡ Some x → word_in cs a e ≡ Some x
    static-in (Literal p k w) x d = d
    static-in (Load p k l) x d =
        let m = then_is (pattern cs l) (λ s. option_and_then (λ f. held_at cs s f) (first_of cs l)) x d in
        let f = then_is (first_of cs l) (λ f. held_at cs m.0 f) x m.2 in
        let g = closed (is_open m.0) refl (held (found cs m.0) (found cs f.0)) f.2 in
        ap (option_map (λ s. word_or_zero a (cell_named cs (Some s)))) (closed-steps l m.0 m.1 g.0) ∙ ap Some (loaded-is m.0 (found cs f.0) x g.1)
      where
        closed : {b : Bool} (o : Bool) → b ≡ o → (y : Option ℕ) → (if o then None else y) ≡ Some x → (b ≡ false) × (y ≡ Some x)
        closed true e y z = absurd cc
        closed false e y z = (e, z)
    static-in (Read p k l) x d = absurd cc
    static-in (Convert p k e) x d =
        let m = map_is (static cs e) (λ x. stored k (number_of (kind_of e) x)) x d in
        rw (static-in e m.0 m.1) (ap Some m.2)
    static-in (Unary p k o e) x d =
        let m = then_is (static cs e) (λ x. applied o (kind_of e) x (kind_of e) x) x d in
        rw (static-in e m.0 m.1) m.2
    static-in (Binary p k o e f) x d =
        let m = two_is (static cs e) (static cs f) (λ x y. applied o (kind_of e) x (kind_of f) y) x d in
        rw (static-in e m.0 m.2) (rw (static-in f m.1 m.3) m.4)
    static-in (Choose p k n e f) x d =
        let m = then_is (static cs n) (λ n. with_two (static cs e) (static cs f) (λ x y. Some (chosen n (stored k (number_of (kind_of e) x)) (stored k (number_of (kind_of f) y))))) x d in
        let u = two_is (static cs e) (static cs f) (λ x y. Some (chosen m.0 (stored k (number_of (kind_of e) x)) (stored k (number_of (kind_of f) y)))) x m.2 in
        rw (static-in n m.0 m.1) (rw (static-in e u.0 u.2) (rw (static-in f u.1 u.3) u.4))
    static-in (Bit p e j) x d =
        let u = two_is (static cs e) (static cs j) (λ x n. Some (bit_at (width_of (kind_of e)) x (index_of (kind_of j) n))) x d in
        rw (static-in e u.0 u.2) (rw (static-in j u.1 u.3) u.4)
    static-in (Range p k e h l) x d =
        let m = map_is (static cs e) (part h l) x d in
        rw (static-in e m.0 m.1) (ap Some m.2)
    static-in (Join p k e f) x d =
        let u = two_is (static cs e) (static cs f) (λ x y. Some (joined (width_of (kind_of f)) x y)) x d in
        rw (static-in e u.0 u.2) (rw (static-in f u.1 u.3) u.4)

  -- the name that a location has completes its pattern
  patterns-agree : (l : Left) (s : List Step) → steps_in cs a l ≡ Some s → (t : List Step) × (pattern cs l ≡ Some t) × (agrees t s ≡ true)
  patterns-agree (Cell p n) s e = (s, e, named (slice_get cs n) e)
    where
      named : (c : Option program.Cell) → option_map (λ c. steps_of c.name) c ≡ Some s → agrees s s ≡ true
      named None h = absurd cc
      named (Some c) h = subst (λ z. agrees z z ≡ true) (some_same h) (agrees-self (steps_of c.name) (name-closed c.name))
  patterns-agree (Prefix p name) s e = (s, e, subst (λ z. agrees z z ≡ true) (some_same e) (agrees-self (steps_of name) (name-closed name)))
  patterns-agree (Null p) s e = absurd cc
  patterns-agree (Follow p soft l) s e = absurd cc
  patterns-agree (Member l name) s e =
      let m = map_is (steps_in cs a l) (λ z. z ++ Named name ∷ []) s e in
      let r = patterns-agree l m.0 m.1 in
      (r.0 ++ Named name ∷ [], ap (λ o. grown o (Named name)) r.1, subst (λ z. agrees (r.0 ++ Named name ∷ []) z ≡ true) m.2 (agrees-append r.0 m.0 (Named name) (Named name) r.2 (agrees-self (Named name ∷ []) refl)))
  patterns-agree (Index l size i) s e =
      let v = then_is (word_in cs a i) (λ w. grown (steps_in cs a l) (At (index_of (kind_of i) w))) s e in
      let m = map_is (steps_in cs a l) (λ z. z ++ At (index_of (kind_of i) v.0) ∷ []) s v.2 in
      let r = patterns-agree l m.0 m.1 in (
        r.0 ++ index_step size (kind_of i) (static cs i) ∷ [],
        ap (λ o. grown o (index_step size (kind_of i) (static cs i))) r.1,
        subst (λ z. agrees (r.0 ++ index_step size (kind_of i) (static cs i) ∷ []) z ≡ true) m.2
            (agrees-append r.0 m.0 (index_step size (kind_of i) (static cs i)) (At (index_of (kind_of i) v.0)) r.2 (last v.0 v.1 (static cs i) refl)),
      )
    where
      last : (x : ℕ) → word_in cs a i ≡ Some x → (o : Option ℕ) → static cs i ≡ o → agrees (index_step size (kind_of i) o ∷ []) (At (index_of (kind_of i) x) ∷ []) ≡ true
      last x ve None d = refl
      last x ve (Some y) d =
          let same : y ≡ x = some_same (sym (static-in i y d) ∙ ve) in
          subst (λ z. agrees (At (index_of (kind_of i) y) ∷ []) (At (index_of (kind_of i) z) ∷ []) ≡ true) same (agrees-self (At (index_of (kind_of i) y) ∷ []) refl)

  pub told : (l : Left) (s : List Step) (n : ℕ) → is_sized cs l ≡ true → steps_in cs a l ≡ Some s → cell_at false 0 s cs ≡ Some n → among (root_of cs n) (cells_of cs l) ≡ true
  told l s n sized e c =
      let r = patterns-agree l s e in
      let f = found-at cs 0 n s c in
      let k : f.0 ≡ n = omega (arith, f.2) in
      named-among cs l r.0 s n f.1 sized r.1 r.2 c (sym (ap (slice_get cs) k) ∙ f.3)
