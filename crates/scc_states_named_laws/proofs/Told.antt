-- What a table of names tells of a location without indices.
use Rattle.std.proofs.Common.{◌≡◌, ◌<◌, ℕ, zero, suc, Bool, true, false, List, [], ◌∷◌, ◌++◌, length, map, slice_get, Option, Some, None, refl, sym, ap, subst, ◌∙◌, arith}
use Rattle.std.specs.Prelude.{not, ◌||◌, nat_eq, option_map, unwrap_or, is_some}
use Rattle.std.specs.List.{list_all}
use Rattle.scc_base.specs.declared.names.Name.{Name}
use Rattle.scc_core.specs.declared.expr.CoreExpr.{CoreExpr}
use Rattle.scc_core.specs.declared.expr.CoreExprNode.{CoreExprNode}
use Rattle.scc_core.specs.declared.expr.CoreLeft.{CoreLeft}
use Rattle.scc_core.specs.declared.expr.CoreBase.{CoreBase, out-CoreBase}
use Rattle.scc_core.specs.declared.expr.CorePart.{CorePart}
use Rattle.scc_core.specs.declared.expr.CorePick.{CorePick}
use Rattle.scc_core.specs.declared.expr.CoreBase.TheOpen.{CoreBase-F}
use Rattle.scc_core.specs.declared.expr.CoreBase.TheOpen as tree
use Rattle.scc_core.specs.declared.program.Cell.{Cell}
use Rattle.scc_core.specs.declared.program.CellName.{CellName}
use Rattle.scc_core.specs.declared.statics.Known.{Known}
use Rattle.scc_core.specs.Elements.{Part, Member, found, step_at}
use Rattle.scc_core.specs.Known.{facts_in}
use Rattle.scc_core.specs.Located.{alone, array_in, named_by, named_in, of_array, single}
use Rattle.scc_core.specs.Names.{sought}
use Rattle.scc_core.specs.Statics.{facts_of}
use Rattle.scc_core_spec.specs.Fit.{is_nil}
use Rattle.scc_core_spec.specs.IsResolved.{cells_apart, fit_cell}
use Rattle.scc_core_spec.specs.Named.{Step, cell_at, cells_at, is_open, steps_of}
use Rattle.scc_core_spec.specs.Program as program
use Rattle.scc_core_spec.specs.Program.{Process, is_pointer}
use Rattle.scc_core_spec.specs.Static.{Cells, pattern}
use Rattle.scc_core_spec.specs.Term as term
use Rattle.scc_core_spec.specs.Term.{Left}
use Rattle.scc_core_spec.specs.Uses.{among, cells_of, is_single, root_of}
use Rattle.scc_core_static_laws.specs.Held.{Knows}
use Rattle.scc_core_view.specs.Programs.{cell_of}
use Rattle.scc_core_view.specs.Terms.{name_of, own_of, taken_of}
use Rattle.scc_core_view.specs.Terms as to
use Rattle.scc_core_view.specs.Whole.{IsName}
use Rattle.scc_states_kept.specs.Owned.{is_number}
use Rattle.scc_states_kept.specs.Rows.{cells_by, cells_in}
use Rattle.scc_states_named_laws.specs.Plain.{is_front, is_plain}
use Rattle.scc_states_named_laws.proofs.Closed.{and_first, list_of, never, one_or_none, self_found, some_same}
use Rattle.scc_states_named_laws.proofs.Names.{closed_behind, closed_name, members_named, sought_is, sought_less}
use Rattle.scc_states_named_laws.proofs.Roots.{among_roots, fit_at, past_number}
use Rattle.scc_states_named_laws.proofs.Shapes.{AreMembers, base_by, behind_name, front_first, left_is, members, pattern_is, plain_front, steps_behind, term_base, term_part}

abbrev Layer : Type 0
Layer = CoreBase-F CoreBase CoreExprNode CorePart CorePick CoreExpr CoreLeft

-- One cell is named, or none; the definition names the same, as it stands for others. Or it is a cell past the end.
pub data Names (known : Known) (cells : List Cell) (l : CoreLeft) : Type 0 where
  one : (o : Option ℕ) → named_in known l ≡ single o → cells_of (map cell_of cells) (taken_of l).left ≡ map (root_of (map cell_of cells)) (list_of o) → is_single (map cell_of cells) (taken_of l).left ≡ true
      → ((m : ℕ) → o ≡ Some m → m < length cells) → Names known cells l
  past : (n : ℕ) → named_in known l ≡ single (Some n) → slice_get (map cell_of cells) n ≡ None → cells_of (map cell_of cells) (taken_of l).left ≡ [] → Names known cells l

within : (cells : List Cell) (n : ℕ) (c : program.Cell) → slice_get (map cell_of cells) n ≡ Some c → n < length cells
within [] n c h = absurd cc
within (d ∷ cells) zero c h = omega arith
within (d ∷ cells) (suc n) c h = let r : n < length cells = within cells n c h in omega (arith, r)

named_cells : (o : Option ℕ) → cells_by (single o) ≡ list_of o
named_cells None = refl
named_cells (Some n) = refl

front_name : (name : CellName) → (is_nil (name_of name).indices || is_some (name_of name).own) ≡ true → IsName name
front_name name h = by name.local name.indices h
  where
    by : (o : Option (ℕ × Name)) (is : List ℕ) → (is_nil is || is_some (own_of o)) ≡ true → o ≡ None → is ≡ []
    by None [] h e = refl
    by None (i ∷ is) h e = absurd cc
    by (Some l) is h e = absurd cc

module _ (known : Known) (cells : List Cell) (knows : Knows known cells []) (ps : List Process)
    (apart : cells_apart (map cell_of cells) ≡ true) (fit : list_all (fit_cell ps (map cell_of cells)) (map cell_of cells) ≡ true)
    (same : (first : Bool) (qs : List Part) (name : CellName) → IsName name → found (facts_in known) first qs name ≡ found (facts_of cells) first qs name) where
  abbrev cs : Cells
  cs = map cell_of cells

  -- by a pattern without open steps
  cells_are : (l : Left) (pat : List Step) (o : Option ℕ) → pattern cs l ≡ Some pat → is_open pat ≡ false → cell_at false 0 pat cs ≡ o → cells_of cs l ≡ map (root_of cs) (list_of o)
  cells_are l pat o h closed e =
      ap (λ p. unwrap_or (option_map (λ q. map (root_of cs) (cells_at 0 q cs)) p) []) h ∙ ap (map (root_of cs)) (one_or_none pat closed 0 cs apart ∙ ap list_of e)

  single_is : (l : Left) (pat : List Step) → pattern cs l ≡ Some pat → is_open pat ≡ false → is_single cs l ≡ true
  single_is l pat h closed = ap (λ p. unwrap_or (option_map (λ q. not (is_open q)) p) false) h ∙ ap not closed

  -- a front part of a name with members behind it
  by_front : (l : CoreLeft) (name : CellName) (q : List Name) → out-CoreBase l.base ≡ tree.Prefix name → AreMembers l.parts q → IsName name → Names known cells l
  unfolding named_in
  by_front l name q is parts named =
      let o = sought (map (step_at false) (map Member q)) name cells in
      let there = sought_is cells name q knows.count in
      let left = left_is l ∙ ap (λ b. to.extended (b l.place) (map term_part l.parts)) (base_by l.base (tree.Prefix name) is) ∙ ap (to.extended (term.Prefix l.place (name_of name))) parts.terms in
      let pat = pattern_is cs q (term.Prefix l.place (name_of name)) (steps_of (name_of name)) refl in
      let steps = steps_of (name_of name) ++ steps_behind q in
      let closed = closed_behind (name_of name) q in
      one o
      (ap (named_by known l.parts) is
      ∙ ap (λ ps. of_array (array_in known.places ps name) (found (facts_in known) false ps name) ps) (parts.values (facts_in known))
      ∙ members_named known.places (sought (map (step_at false) (map Member q)) name known.cells.now) name q
      ∙ ap single (same false (map Member q) name named))
      (ap (cells_of cs) left ∙ cells_are (to.extended (term.Prefix l.place (name_of name)) (map behind_name q)) steps o pat closed (sym there))
      (ap (is_single cs) left ∙ single_is (to.extended (term.Prefix l.place (name_of name)) (map behind_name q)) steps pat closed)
      (λ m e. sought_less (map (step_at false) (map Member q)) name cells knows.count m e)

  -- a cell by its number
  by_cell : (l : CoreLeft) (n : ℕ) → out-CoreBase l.base ≡ tree.Cell n → l.parts ≡ [] → Names known cells l
  unfolding named_in
  by_cell l n is parts = at (slice_get cs n) refl
    where
      named : named_in known l ≡ single (Some n)
      named = ap (named_by known l.parts) is ∙ ap (alone n) parts

      left : (taken_of l).left ≡ term.Cell l.place n
      left = left_is l ∙ ap (λ b. to.extended (b l.place) (map term_part l.parts)) (base_by l.base (tree.Cell n) is) ∙ ap (λ ps. to.extended (term.Cell l.place n) (map term_part ps)) parts

      at : (o : Option program.Cell) → slice_get cs n ≡ o → Names known cells l
      at None e = past n named e (ap (cells_of cs) left ∙ ap (λ z. unwrap_or (option_map (λ q. map (root_of cs) (cells_at 0 q cs)) (option_map (λ c. steps_of c.name) z)) []) e)
      at (Some c) e =
          let pat = ap (option_map (λ c. steps_of c.name)) e in
          let closed = closed_name c.name in
          one (Some n) named
          (ap (cells_of cs) left ∙ cells_are (term.Cell l.place n) (steps_of c.name) (Some n) pat closed
          (self_found (steps_of c.name) closed cs n c e refl (and_first (not (is_pointer c.sort)) _ (fit_at (fit_cell ps cs) cs n c fit e)) apart))
          (ap (is_single cs) left ∙ single_is (term.Cell l.place n) (steps_of c.name) pat closed)
          (λ m f. subst (λ z. z < length cells) (some_same n m f) (within cells n c e))

  pub names : (l : CoreLeft) → is_plain (taken_of l).left ≡ true → Names known cells l
  names l plain = by (out-CoreBase l.base) refl l.parts refl
    where
      seen : (y : Layer) → out-CoreBase l.base ≡ y → (ps : List CorePart) → l.parts ≡ ps → (f : to.Base) → term_base l.base ≡ f → is_plain (to.extended (f l.place) (map term_part ps)) ≡ true
      seen y e ps k f s =
          ap (λ z. is_plain (to.extended (z l.place) (map term_part ps))) (sym s) ∙ ap (λ z. is_plain (to.extended (term_base l.base l.place) (map term_part z))) (sym k) ∙ ap is_plain (sym (left_is l)) ∙ plain

      fronted : (x : CorePart) (ps : List CorePart) (y : Left) → is_plain (to.extended y (map term_part (x ∷ ps))) ≡ true → is_front (to.extended y (map term_part (x ∷ ps))) ≡ true
      fronted x ps y h = sym (plain_front ps x y) ∙ h

      begins : (ps : List CorePart) (y : Left) → is_front (to.extended y (map term_part ps)) ≡ true → is_front y ≡ true
      begins ps y h = front_first ps y h

      by : (y : Layer) → out-CoreBase l.base ≡ y → (ps : List CorePart) → l.parts ≡ ps → Names known cells l
      by (tree.Cell n) e [] k = by_cell l n e k
      by (tree.Cell n) e (x ∷ ps) k =
          let h = fronted x ps (term.Cell l.place n) (seen (tree.Cell n) e (x ∷ ps) k _ (base_by l.base (tree.Cell n) e)) in
          absurd (never false refl (begins (x ∷ ps) (term.Cell l.place n) h))
      by (tree.Prefix name) e [] k =
          let h = seen (tree.Prefix name) e [] k _ (base_by l.base (tree.Prefix name) e) in
          by_front l name [] e (subst (λ ps. AreMembers ps []) (sym k) (record { terms = refl; values = λ g. refl })) (front_name name h)
      by (tree.Prefix name) e (x ∷ ps) k =
          let h = fronted x ps (term.Prefix l.place (name_of name)) (seen (tree.Prefix name) e (x ∷ ps) k _ (base_by l.base (tree.Prefix name) e)) in
          let m = members (x ∷ ps) (term.Prefix l.place (name_of name)) h in
          by_front l name m.0 e (subst (λ ps. AreMembers ps m.0) (sym k) m.1) (front_name name (begins (x ∷ ps) (term.Prefix l.place (name_of name)) h))
      by (tree.Follow p s) e [] k = let h = seen (tree.Follow p s) e [] k _ (base_by l.base (tree.Follow p s) e) in absurd (never false refl h)
      by (tree.Follow p s) e (x ∷ ps) k =
          let h = fronted x ps (term.Follow l.place s (taken_of p).left) (seen (tree.Follow p s) e (x ∷ ps) k _ (base_by l.base (tree.Follow p s) e)) in
          absurd (never false refl (begins (x ∷ ps) (term.Follow l.place s (taken_of p).left) h))
      by tree.Null e [] k = let h = seen tree.Null e [] k _ (base_by l.base tree.Null e) in absurd (never false refl h)
      by tree.Null e (x ∷ ps) k =
          let h = fronted x ps (term.Null l.place) (seen tree.Null e (x ∷ ps) k _ (base_by l.base tree.Null e)) in
          absurd (never false refl (begins (x ∷ ps) (term.Null l.place) h))

  -- the cells that it names, of those that may be a thread's own
  module _ (i x : ℕ) (number : is_number cs i x ≡ true) where
    apart_past : (n : ℕ) → slice_get cs n ≡ None → nat_eq x n ≡ false
    apart_past n e = past_number cs i x n number e

    pub names_same : (l : CoreLeft) → Names known cells l → among x (cells_in known l) ≡ among x (cells_of cs (taken_of l).left)
    unfolding cells_in
    names_same l (one o named cells_is is_one below) = ap (λ z. among x (cells_by z)) named ∙ ap (among x) (named_cells o) ∙ sym (among_roots cs ps fit i x number (list_of o)) ∙ ap (among x) (sym cells_is)
    names_same l (past n named e cells_is) = ap (λ z. among x (cells_by z)) named ∙ ap (λ b. b || false) (apart_past n e) ∙ ap (among x) (sym cells_is)
