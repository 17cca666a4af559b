-- Elements that are written by one assignment.
use Rattle.std.proofs.Common.{◌≡◌, ℕ, ◌+◌, ◌*◌, List, [], ◌∷◌, ◌++◌, map, Option, Some, option_map, sym, ◌∙◌, ap, subst, slice_get}
use Rattle.std.proofs.lemmas.Option.{slice_get-map}
use Rattle.scc_bits_kinds.specs.Kinds.{width_of}
use Rattle.scc_core.specs.declared.program.Cell.{Cell}
use Rattle.scc_core_spec.specs.Term.{Pick, Term}
use Rattle.scc_svtree.specs.declared.expr.SvExpr.{SvExpr}
use Rattle.scc_svtree.specs.declared.expr.SvLeft.{SvLeft}
use Rattle.scc_svtree.specs.declared.stmt.SvStmt.{SvStmt}
use Rattle.scc_svtree.specs.declared.stmt.SvStmt.TheVariants as statement
use Rattle.scc_svtree.specs.Code.{Assign, Code, End, code_of}
use Rattle.scc_svtree.specs.Term as emitted
use Rattle.scc_svtree.specs.Term.{term_of}
use Rattle.scc_lower_spec.specs.Selected.{part_left}
use Rattle.scc_lower_laws.specs.Elements.{Slot}
use Rattle.scc_lower_laws.specs.Puts.{bit_code, bit_text}
use Rattle.scc_lower_laws.specs.Sequence.{then_code, whole}
use Rattle.scc_lower_tree_laws.specs.Assigning.{At, IsDelayed, Part, PutsElement, written_by}
use Rattle.scc_lower_tree_laws.specs.States.{Given, Seen}
use Rattle.scc_lower_tree_laws.proofs.Assigning.{puts-bit, puts-part}
use Rattle.scc_lower_expressions.specs.declared.lowering.View.{View}
use Rattle.scc_lower_expressions.specs.declared.lowering.View.TheVariants.{Constant, Plain, Next, Delayed}
use Rattle.scc_lower_expressions.specs.Becoming.{seen_of}
use Rattle.scc_lower_expressions.specs.Reads.{var_read}
use Rattle.scc_lower_expressions.specs.Writing.{IsWrittenTo}
use Rattle.scc_lower_expressions.proofs.Codes.{code-append, code-assign}
use Rattle.scc_lower.specs.Adding.{Adds, inside_code}

pub part-added : (g : Given) (views : List Seen) (c : ℕ) (cell : Cell) (var h l : ℕ) (k : Pick) (e : Term) (left : SvLeft) (value copy : SvExpr) (old new : List SvStmt) → IsWrittenTo views c var → slice_get g.cells c ≡ Some cell
    → left ≡ part_left (record { 0 = var }) (width_of cell.kind) h l → copy ≡ value → new ≡ old ++ statement.Assign left copy ∷ [] → Adds g views [] c (Part h l k e (term_of value)) old new
part-added g views c cell var h l k e left value copy old new to stands is same put =
    let made : Code = Assign left (term_of copy) End in
    let P : SvLeft → Type 0 = λ z. PutsElement g views [] c (Part h l k e (term_of value)) (Assign z (term_of value) End) in
    let Q : SvExpr → Type 0 = λ z. PutsElement g views [] c (Part h l k e (term_of value)) (Assign left (term_of z) End) in
    record {
      code = made;
      behind = ap code_of put ∙ code-append old (statement.Assign left copy ∷ []) ∙ ap (then_code (code_of old)) (code-assign left copy);
      puts = subst Q (sym same) (subst P (sym is) (puts-part g views c var cell to.view h l k e (term_of value) stands to.stands to.to));
    }

same-number : (m n : ℕ) → ◌≡◌ {A = Option ℕ} (Some m) (Some n) → m ≡ n
same-number m n e = cc

same-view : (v w : Seen) → ◌≡◌ {A = Option Seen} (Some v) (Some w) → v ≡ w
same-view v w e = cc

-- a cell that isn't delayed is read from the variable to which it is written
reads-back : (v : View) (c to : ℕ) → written_by (seen_of v) c ≡ Some to → (IsDelayed (seen_of v) → ⊥) → var_read v c ≡ to
reads-back (Constant w) c to e held = absurd (cc)
reads-back Plain c to e held = same-number (c * 2 + 0) to e
reads-back Next c to e held = same-number (c * 2 + 1) to e
reads-back Delayed c to e held = absurd (held tt)

pub bit-added : (g : Given) (views : List View) (c : ℕ) (cell : Cell) (from to : ℕ) (v : View) (all : ℕ) (i : Term) (u : Slot) (value : emitted.Term) (text : SvExpr) (s : SvStmt) (old new : List SvStmt) → slice_get views c ≡ Some v → from ≡ var_read v c
    → IsWrittenTo (map seen_of views) c to → slice_get g.cells c ≡ Some cell → all ≡ width_of cell.kind → term_of text ≡ bit_text all from u.variable value
    → code_of (s ∷ []) ≡ inside_code all u (code_of (statement.Assign (whole to) text ∷ [])) → new ≡ old ++ s ∷ [] → Adds g (map seen_of views) [] c (At i u value) old new
bit-added g views c cell from to v all i u value text s old new seen read w stands wide is made put =
    let code : Code = inside_code all u (Assign (whole to) (term_of text) End) in
    let view : w.view ≡ seen_of v = same-view w.view (seen_of v) (sym w.stands ∙ slice_get-map seen_of views c ∙ ap (option_map seen_of) seen) in
    let to-same : written_by (seen_of v) c ≡ Some to = ap (λ z. written_by z c) (sym view) ∙ w.to in
    let stands-v : slice_get (map seen_of views) c ≡ Some (seen_of v) = w.stands ∙ ap Some view in
    record {
      code = code;
      behind = ap code_of put ∙ code-append old (s ∷ []) ∙ ap (then_code (code_of old)) (made ∙ ap (inside_code all u) (code-assign (whole to) text));
      puts = puts-bit g (map seen_of views) c to cell (seen_of v) i u value code stands stands-v to-same
          (λ held. ap (λ t. inside_code all u (Assign (whole to) t End)) (is ∙ ap (λ n. bit_text all n u.variable value) (read ∙ reads-back v c to to-same held)) ∙ ap (λ n. bit_code n to u value) wide);
    }
