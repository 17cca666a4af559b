-- Code that passes the tests fits.
use Rattle.std.proofs.Common.{◌≡◌, Bool, true, ◌&&◌, nat_eq, List, [], ◌∷◌, ◌++◌, Option, Some, None, refl, sym, ap, subst, ◌∙◌}
use Rattle.std.specs.Prelude.{◌+◌, ◌-◌, nat_le, nat_lt, slice_get, option_map}
use Rattle.scc_bits_kinds.specs.declared.kind.Kind.{Kind}
use Rattle.scc_bits_kinds.specs.Kinds.{width_of}
use Rattle.scc_bits.specs.Values.{kind_of as operator_kind}
use Rattle.scc_semantics_laws.proofs.Places.{same-is}
use Rattle.scc_semantics.specs.Scene.{index_of}
use Rattle.scc_semantics.specs.Location.{Part, Top, same_path}
use Rattle.scc_core_spec.specs.Term.{Term, Literal, Load, Read, Convert, Unary, Binary, Choose, Bit, Range, Join, Left, Cell, Prefix, Null, Follow, Member, Index, Pick, Whole, OneBit, Bits, CellName, Own, kind_of}
use Rattle.scc_core_spec.specs.Code.{Code, End, Put, Aim, If, Block, Loop, Exit, Wait}
use Rattle.scc_core_spec.specs.Program as program
use Rattle.scc_core_spec.specs.Program.{Process, Sort, is_pointer}
use Rattle.scc_core_spec.specs.Named.{Step, Named, At, Open, steps_of}
use Rattle.scc_core_spec.specs.Static.{Cells, grown}
use Rattle.scc_blocks_spec.specs.Acting.{Acting, steps_in, word_in}
use Rattle.scc_states_laws.specs.Alike.{IsName, IsFit, IsFitLeft, IsFitPick, IsFitCode, IsCellName, Sorts}
use Rattle.scc_core_spec.specs.Fit.{is_read}
use Rattle.scc_core_spec.specs.Program.{is_number}
use Rattle.scc_states_laws.proofs.Values.{map_is, then_is, some_same}
use Rattle.scc_core_spec.specs.OpenNames.{agrees, open_name, all_named, is_sized}
use Rattle.scc_core_spec.specs.Fit.{same_kind, is_kind, is_name, is_loaded, is_shown, takes, bits_of, is_cell, fit_term, fit_left, fit_pick, fit_put, fit_code}
use Rattle.scc_core_spec.specs.IsResolved.{cells_apart}
use Rattle.scc_core_resolved_laws.proofs.Bools.{and-first, and-second, is_kind-is, is_nil-is}
use Rattle.scc_core_resolved_laws.proofs.Agreeing.{agrees-append, agrees-self, name-closed}
use Rattle.scc_core_resolved_laws.proofs.Cells.{named-passes}

pub path-is : (a b : List Part) → same_path a b ≡ true → a ≡ b
path-is a b e = ap (λ l. l.path) (same-is (record { root = Top; path = a }) (record { root = Top; path = b }) e)

pub name-is : (q : Process) (n : CellName) → is_name q n ≡ true → IsName q n
name-is q n e = by n.own refl e
  where
    none : {A : Type 0} (o : Own) → None ≡ Some o → A
    none o h = absurd cc

    some : {A : Type 0} (o : Own) → Some o ≡ None → A
    some o h = absurd cc

    by : (o : Option Own) → n.own ≡ o → is_name q (record { path = n.path; own = o; indices = n.indices }) ≡ true → IsName q n
    by None h t = record { outer = λ z. is_nil-is n.indices t; inner = λ o z. none o (sym h ∙ z) }
    by (Some o) h t = record { outer = λ z. some o (sym h ∙ z); inner = λ u z. path-is n.path q.name.path t }

-- what an assignment that fits is
pub record PutParts (cs : Cells) (q : Process) (l : Left) (k : Pick) (e : Term) : Type 0 where
  pub left : fit_left cs q l ≡ true
  pub pick : fit_pick cs q k ≡ true
  pub term : fit_term cs q e ≡ true
  pub named : all_named cs (takes k (kind_of e)) l ≡ true
  pub sized : is_sized cs l ≡ true

module _ (cs : Cells) (q : Process) (apart : cells_apart cs ≡ true) where
  -- the name that a location has agrees with its name with open indices
  pub opens-agree : (a : Acting) (l : Left) (s : List Step) → steps_in cs a l ≡ Some s → (o : List Step) × (open_name cs l ≡ Some o) × (agrees o s ≡ true)
  opens-agree a (Cell p n) s e = (s, e, named (slice_get cs n) e)
    where
      named : (c : Option program.Cell) → option_map (λ c. steps_of c.name) c ≡ Some s → agrees s s ≡ true
      named None h = absurd cc
      named (Some c) h = subst (λ z. agrees z z ≡ true) (some_same h) (agrees-self (steps_of c.name) (name-closed c.name))
  opens-agree a (Prefix p name) s e = (s, e, subst (λ z. agrees z z ≡ true) (some_same e) (agrees-self (steps_of name) (name-closed name)))
  opens-agree a (Null p) s e = absurd cc
  opens-agree a (Follow p soft l) s e = absurd cc
  opens-agree a (Member l name) s e =
      let m = map_is (steps_in cs a l) (λ z. z ++ Named name ∷ []) s e in
      let r = opens-agree a l m.0 m.1 in
      (r.0 ++ Named name ∷ [], ap (λ o. grown o (Named name)) r.1, subst (λ z. agrees (r.0 ++ Named name ∷ []) z ≡ true) m.2 (agrees-append r.0 m.0 (Named name) (Named name) r.2 (agrees-self (Named name ∷ []) refl)))
  opens-agree a (Index l size i) s e =
      let v = then_is (word_in cs a i) (λ w. grown (steps_in cs a l) (At (index_of (kind_of i) w))) s e in
      let m = map_is (steps_in cs a l) (λ z. z ++ At (index_of (kind_of i) v.0) ∷ []) s v.2 in
      let r = opens-agree a l m.0 m.1 in
      (r.0 ++ Open size ∷ [], ap (λ o. grown o (Open size)) r.1, subst (λ z. agrees (r.0 ++ Open size ∷ []) z ≡ true) m.2 (agrees-append r.0 m.0 (Open size) (At (index_of (kind_of i) v.0)) r.2 refl))

  sorts-are : (test : Sort → Bool) (k : Kind) (l : Left) → all_named cs (λ c. test c.sort && same_kind k c.kind) l ≡ true → Sorts q cs test l
  sorts-are test k l h a s n x se ce g =
      let r = opens-agree a l s se in
      and-first (test x.sort) (same_kind k x.kind) (named-passes cs (λ c. test c.sort && same_kind k c.kind) l r.0 s n x apart h r.1 r.2 ce g)

  mutual
    pub term-fits : (e : Term) → fit_term cs q e ≡ true → IsFit q cs e
    term-fits (Literal p k w) h = tt
    term-fits (Load p k l) h =
        let more = and-second (fit_left cs q l) (all_named cs (is_loaded k) l && is_sized cs l) h in
        (left-fits l (and-first (fit_left cs q l) (all_named cs (is_loaded k) l && is_sized cs l) h), sorts-are is_number k l (and-first (all_named cs (is_loaded k) l) (is_sized cs l) more))
    term-fits (Read p k l) h =
        let more = and-second (fit_left cs q l) (all_named cs (is_shown k) l && is_sized cs l) h in
        (left-fits l (and-first (fit_left cs q l) (all_named cs (is_shown k) l && is_sized cs l) h), sorts-are is_read k l (and-first (all_named cs (is_shown k) l) (is_sized cs l) more))
    term-fits (Convert p k e) h = term-fits e h
    term-fits (Unary p k o e) h =
        let t = is_kind (operator_kind o (kind_of e) (kind_of e)) k in
        (is_kind-is (operator_kind o (kind_of e) (kind_of e)) k (and-first t (fit_term cs q e) h), term-fits e (and-second t (fit_term cs q e) h))
    term-fits (Binary p k o e f) h =
        let t = is_kind (operator_kind o (kind_of e) (kind_of f)) k in
        let more = and-second t (fit_term cs q e && fit_term cs q f) h in
        (is_kind-is (operator_kind o (kind_of e) (kind_of f)) k (and-first t (fit_term cs q e && fit_term cs q f) h), term-fits e (and-first (fit_term cs q e) (fit_term cs q f) more), term-fits f (and-second (fit_term cs q e) (fit_term cs q f) more))
    term-fits (Choose p k t e f) h =
        let more = and-second (fit_term cs q t) (fit_term cs q e && fit_term cs q f) h in
        (term-fits t (and-first (fit_term cs q t) (fit_term cs q e && fit_term cs q f) h), term-fits e (and-first (fit_term cs q e) (fit_term cs q f) more), term-fits f (and-second (fit_term cs q e) (fit_term cs q f) more))
    term-fits (Bit p e i) h = (term-fits e (and-first (fit_term cs q e) (fit_term cs q i) h), term-fits i (and-second (fit_term cs q e) (fit_term cs q i) h))
    term-fits (Range p k e hi lo) h = term-fits e (and-second (nat_eq (width_of k) (hi - lo + 1)) (fit_term cs q e) h)
    term-fits (Join p k e f) h =
        let more = and-second (nat_le (bits_of e + width_of (kind_of f)) (width_of k)) (fit_term cs q e && fit_term cs q f) h in
        (term-fits e (and-first (fit_term cs q e) (fit_term cs q f) more), term-fits f (and-second (fit_term cs q e) (fit_term cs q f) more))

    pub left-fits : (l : Left) → fit_left cs q l ≡ true → IsFitLeft q cs l
    left-fits (Cell p n) h = by (slice_get cs n) h
      where
        by : (c : Option program.Cell) → is_cell cs q c ≡ true → IsCellName q cs c
        by None t = absurd cc
        by (Some c) t = name-is q c.name t
    left-fits (Prefix p name) h = name-is q name h
    left-fits (Null p) h = absurd cc
    left-fits (Follow p soft l) h = absurd cc
    left-fits (Member l name) h = left-fits l h
    left-fits (Index l size i) h = (left-fits l (and-first (fit_left cs q l) (fit_term cs q i) h), term-fits i (and-second (fit_left cs q l) (fit_term cs q i) h))

  pub pick-fits : (k : Pick) → fit_pick cs q k ≡ true → IsFitPick q cs k
  pick-fits Whole h = tt
  pick-fits (OneBit e) h = term-fits e h
  pick-fits (Bits hi lo) h = tt

  pub put-parts : (l : Left) (k : Pick) (e : Term) → fit_put cs q l k e ≡ true → PutParts cs q l k e
  put-parts l k e h =
      let a = and-second (fit_left cs q l) (fit_pick cs q k && (fit_term cs q e && (all_named cs (takes k (kind_of e)) l && is_sized cs l))) h in
      let b = and-second (fit_pick cs q k) (fit_term cs q e && (all_named cs (takes k (kind_of e)) l && is_sized cs l)) a in
      let c = and-second (fit_term cs q e) (all_named cs (takes k (kind_of e)) l && is_sized cs l) b in
      record {
        left = and-first (fit_left cs q l) (fit_pick cs q k && (fit_term cs q e && (all_named cs (takes k (kind_of e)) l && is_sized cs l))) h;
        pick = and-first (fit_pick cs q k) (fit_term cs q e && (all_named cs (takes k (kind_of e)) l && is_sized cs l)) a;
        term = and-first (fit_term cs q e) (all_named cs (takes k (kind_of e)) l && is_sized cs l) b;
        named = and-first (all_named cs (takes k (kind_of e)) l) (is_sized cs l) c;
        sized = and-second (all_named cs (takes k (kind_of e)) l) (is_sized cs l) c;
      }

  pub code-fits : (c : Code) → fit_code cs q c ≡ true → IsFitCode q cs c
  code-fits End h = tt
  code-fits (Put p l k e r) h = let u = put-parts l k e (and-first (fit_put cs q l k e) (fit_code cs q r) h) in (left-fits l u.left, pick-fits k u.pick, term-fits e u.term, code-fits r (and-second (fit_put cs q l k e) (fit_code cs q r) h))
  code-fits (Aim p to t r) h = absurd cc
  code-fits (If p t a b r) h =
      let x = and-second (fit_term cs q t) (fit_code cs q a && (fit_code cs q b && fit_code cs q r)) h in
      let y = and-second (fit_code cs q a) (fit_code cs q b && fit_code cs q r) x in (
        term-fits t (and-first (fit_term cs q t) (fit_code cs q a && (fit_code cs q b && fit_code cs q r)) h),
        code-fits a (and-first (fit_code cs q a) (fit_code cs q b && fit_code cs q r) x),
        code-fits b (and-first (fit_code cs q b) (fit_code cs q r) y),
        code-fits r (and-second (fit_code cs q b) (fit_code cs q r) y),
      )
  code-fits (Block p b r) h = (code-fits b (and-first (fit_code cs q b) (fit_code cs q r) h), code-fits r (and-second (fit_code cs q b) (fit_code cs q r) h))
  code-fits (Loop p n b r) h = (code-fits b (and-first (fit_code cs q b) (fit_code cs q r) h), code-fits r (and-second (fit_code cs q b) (fit_code cs q r) h))
  code-fits (Exit p n r) h = code-fits r h
  code-fits (Wait p l n r) h = code-fits r (and-second (nat_lt 0 n) (fit_code cs q r) h)
