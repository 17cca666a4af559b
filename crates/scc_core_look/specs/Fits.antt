-- Trees that fit, as the definitions have it. This project's own.
use Rattle.std.specs.Prelude.{◌≡◌, ℕ, ◌+◌, ◌-◌, ◌≤◌, Bool, true, false, not, ◌&&◌, nat_eq, nat_lt, if◌then◌else◌, List, [], ◌∷◌, map, Option, Some, None, option_map, unwrap_or}
use Rattle.std.specs.List.{list_all, list_any}
use Rattle.scc_base.specs.declared.refusal.Place.{Place}
use Rattle.scc_bits_kinds.specs.declared.kind.Kind.{Kind}
use Rattle.scc_bits_kinds.specs.declared.kind.Kind.TheVariants as kind
use Rattle.scc_bits_kinds.specs.declared.op.Op.{Op}
use Rattle.scc_bits_kinds.specs.Kinds.{width_of}
use Rattle.scc_bits.specs.Values.{kind_of as operator_kind}
use Rattle.scc_core.specs.declared.expr.CoreBase.TheOpen as tree
use Rattle.scc_core.specs.declared.expr.CoreExpr.{CoreExpr}
use Rattle.scc_core.specs.declared.expr.CorePart.{CorePart, fold-CorePart, out-CorePart}
use Rattle.scc_core.specs.declared.expr.CorePick.{CorePick, fold-CorePick}
use Rattle.scc_core.specs.declared.program.CellName.{CellName}
use Rattle.scc_core.specs.declared.program.VectorSize2.{VectorSize2}
use Rattle.scc_core.specs.Tables.{IsTable}
use Rattle.scc_core_spec.specs.Code.{Code, End, Put, Aim, If, Block, Loop, Exit, Wait}
use Rattle.scc_core_spec.specs.Fit.{bits_of, fit_code, fit_left, fit_put, fit_term, is_kind, is_nil, same_kind}
use Rattle.scc_core_spec.specs.IsResolved.{cells_apart}
use Rattle.scc_core_spec.specs.OpenNames.{all_named, is_sized}
use Rattle.scc_core_spec.specs.Program.{Process, is_input}
use Rattle.scc_core_spec.specs.Static.{Cells}
use Rattle.scc_core_spec.specs.Term.{Left, Pick, Term, OneBit, Bits, Whole, kind_of}
use Rattle.scc_core_spec.specs.Uses.{cells_of, has_sort}
use Rattle.scc_core_view.specs.Programs.{cell_of, process_of}
use Rattle.scc_core_view.specs.Terms.{Base, Node, Picking, Taken, base_node, expr_node, joined_behind, part_node, pick_node, pick_of, picked, expr_step, left_step, term_of, taken_of}
use Rattle.scc_core_view.specs.Whole.{AreWholeCells}
use Rattle.scc_core_whole.specs.Parts.{HaveNames}
use Rattle.scc_core_look.specs.declared.seen.Test.{Test}
use Rattle.scc_core_look.specs.declared.seen.Test.TheVariants as test
use Rattle.scc_core_look.specs.declared.terms.Ground.{Ground}
use Rattle.scc_core_look.specs.Own.{is_unnamed}
use Rattle.scc_core_look.specs.Rows.{PartLayer, cell_covered, passes}
use Rattle.scc_core_look.specs.Seen.{asks, writes}

-- what a look at a process stands on: a table of the cells' names, which differ, and arrays that tell what each cell is
pub record IsGround (g : Ground) : Type 0 where
  pub vectors : List VectorSize2
  pub table : IsTable g.places.now g.cells.now vectors
  pub apart : cells_apart (map cell_of g.cells.now) ≡ true
  pub names : HaveNames g.cells.now
  pub whole : AreWholeCells g.cells.now
  pub covered : list_all (cell_covered g.rows.now g.cells.now) g.cells.now ≡ true

abbrev pub here : Ground → Cells
here g = map cell_of g.cells.now

abbrev pub mine : Ground → Process
mine g = process_of g.process.now

-- what stands for a part of a location, and for bits
abbrev pub part_term : CorePart → Left → Left
part_term = fold-CorePart Base Node (Left → Left) Picking Term Taken base_node expr_node part_node pick_node expr_step left_step

abbrev pub pick_term : CorePick → Picking
pick_term = fold-CorePick Base Node (Left → Left) Picking Term Taken base_node expr_node part_node pick_node expr_step left_step

abbrev pub some_pick : Option CorePick → Pick
some_pick o = pick_of (option_map pick_term o)

abbrev pub whole_kind : Kind → Option CorePick → Kind
whole_kind k o = unwrap_or (option_map (λ t. t.of) (option_map pick_term o)) k

abbrev pub is_open : PartLayer → Bool
is_open (tree.Member n) = false
is_open (tree.Index size at) = true

-- the first part is an index
abbrev pub begins_open : List CorePart → Bool
begins_open [] = false
begins_open (p ∷ ps) = is_open (out-CorePart p)

-- a name without parts that no cell has
abbrev pub names_none : Ground → CellName → List CorePart → Bool
names_none g n ps = is_nil ps && is_unnamed g.places.now n

-- each cell that a name and its parts may name passes: an array tells it of what has an index, and no other name has a cell
abbrev pub front_passes : Ground → CellName → List CorePart → Test → Bool
front_passes g n ps t = if begins_open ps then passes (here g) g.rows.now n ps t else names_none g n ps

-- no cell that a location names is an input of the top, nor stands for one
abbrev pub keeps : Cells → Left → Bool
keeps cs l = not (list_any (has_sort is_input cs) (cells_of cs l))

-- and so of each location that is assigned
abbrev pub is_dry : Cells → Code → Bool
is_dry cs End = true
is_dry cs (Put p l k e r) = keeps cs l && is_dry cs r
is_dry cs (Aim p to t r) = is_dry cs r
is_dry cs (If p t a b r) = is_dry cs a && (is_dry cs b && is_dry cs r)
is_dry cs (Block p b r) = is_dry cs b && is_dry cs r
is_dry cs (Loop p n b r) = is_dry cs b && is_dry cs r
is_dry cs (Exit p n r) = is_dry cs r
is_dry cs (Wait p l n r) = is_dry cs r

-- the body of a process fits and writes no input
abbrev pub body_fits : Cells → Process → Bool
body_fits cs q = fit_code cs q q.body && is_dry cs q.body

module _ (g : Ground) where
  -- a term that fits, of a kind
  pub record IsTerm (k : Kind) (t : Term) : Type 0 where
    pub fits : fit_term (here g) (mine g) t ≡ true
    pub kind : kind_of t ≡ k

  abbrev pub IsIn : CoreExpr → Type 0
  IsIn e = IsTerm e.kind (term_of e)

  abbrev pub IfIn : Option CoreExpr → Type 0
  IfIn None = Unit {0}
  IfIn (Some e) = IsIn e

  abbrev pub IsRight : Kind → Op → Kind → Option CoreExpr → Type 0
  IsRight k o j None = is_kind (operator_kind o j j) k ≡ true
  IsRight k o j (Some e) = (is_kind (operator_kind o j e.kind) k ≡ true) × IsIn e

  -- bits of what fits do, with a kind
  abbrev pub IsPick : Kind → Pick → Type 0
  IsPick k Whole = Unit {0}
  IsPick k (OneBit e) = (k ≡ kind.Bool) × (fit_term (here g) (mine g) e ≡ true)
  IsPick k (Bits h l) = nat_eq (width_of k) (h - l + 1) ≡ true

  abbrev pub keeps_left : Left → Bool
  keeps_left l = keeps (here g) l

  pub record IsLeft (t : Test) (l : Left) : Type 0 where
    pub fits : fit_left (here g) (mine g) l ≡ true
    pub named : all_named (here g) (asks t) l ≡ true
    pub sized : is_sized (here g) l ≡ true
    pub keeps : writes t ≡ true → keeps_left l ≡ true

  abbrev pub index_fits : PartLayer → Bool
  index_fits (tree.Member n) = true
  index_fits (tree.Index size at) = fit_term (here g) (mine g) (term_of at)

  abbrev pub part_fits : CorePart → Bool
  part_fits p = index_fits (out-CorePart p)

  -- further parts of a concatenation fit behind what does and has no more than so many bits, and with it they have no more than the whole
  abbrev pub AreLow : ℕ → ℕ → List CoreExpr → Type 0
  AreLow limit bits es = (p : Place) (k : Kind) (high : Term) → width_of k ≡ limit → fit_term (here g) (mine g) high ≡ true → bits_of high ≤ bits → fit_term (here g) (mine g) (joined_behind p k high (map term_of es)) ≡ true

  abbrev pub good_put : Left → Pick → Term → Bool
  good_put l k e = fit_put (here g) (mine g) l k e && keeps_left l

  abbrev pub good_test : Term → Bool
  good_test t = fit_term (here g) (mine g) t

  -- statements that fit and write no input
  abbrev pub good_code : Code → Bool
  good_code End = true
  good_code (Put p l k e r) = good_put l k e && good_code r
  good_code (Aim p to t r) = false
  good_code (If p t a b r) = good_test t && (good_code a && (good_code b && good_code r))
  good_code (Block p b r) = good_code b && good_code r
  good_code (Loop p n b r) = good_code b && good_code r
  good_code (Exit p n r) = good_code r
  good_code (Wait p l n r) = nat_lt 0 n && good_code r

-- a part that stands alone has the kind of the whole
abbrev pub alone : Kind → Kind → List CoreExpr → Bool
alone k j [] = same_kind j k
alone k j (e ∷ es) = true

-- what an assignment of a value of that kind asks
abbrev pub put_test : Kind → Pick → Test
put_test k Whole = test.Whole (width_of k)
put_test k (OneBit e) = test.One (width_of k)
put_test k (Bits h l) = test.Bits (width_of k) h l
