-- What the functions of lowering give is what the laws of lowering over trees speak of.
use Rattle.std.specs.Prelude.{◌≡◌, ℕ, ◌+◌, ◌<◌, List, [], ◌∷◌, ◌++◌, map, length, Option, Some, None, option_map, option_and_then, slice_get}
use Rattle.std.proofs.Common.{refl, sym, ◌∙◌, ap, subst, get_or, take}
use Rattle.std.proofs.lemmas.List.{take_more}
use Rattle.std.proofs.lemmas.Option.{slice_get-map}
use Rattle.scc_bits_kinds.specs.declared.kind.Kind.{Kind}
use Rattle.scc_bits_kinds.specs.declared.op.Op.{Op}
use Rattle.scc_bits_kinds.specs.Kinds.{width_of}
use Rattle.scc_core.specs.declared.expr.CoreBase.TheOpen as tree
use Rattle.scc_core.specs.declared.expr.CoreExpr.{CoreExpr}
use Rattle.scc_core.specs.declared.expr.CoreExprNode.{out-CoreExprNode}
use Rattle.scc_core.specs.declared.expr.CorePart.{CorePart}
use Rattle.scc_core.specs.declared.named.Dim.{Dim}
use Rattle.scc_core.specs.declared.program.Cell.{Cell}
use Rattle.scc_svtree.specs.declared.expr.SvExpr.{SvExpr}
use Rattle.scc_svtree.specs.Code.{Assign, End}
use Rattle.scc_svtree.specs.Term as emitted
use Rattle.scc_svtree.specs.Term.{term_of}
use Rattle.scc_lower_laws.specs.Elements.{Slot, index_kind}
use Rattle.scc_lower_laws.specs.Joins.{texts}
use Rattle.scc_lower_laws.specs.Outcome as outcome
use Rattle.scc_lower_laws.specs.Outcome.{Outcome}
use Rattle.scc_lower_laws.specs.Sequence.{then_code, whole}
use Rattle.scc_lower_tree_laws.specs.Becoming.{Becomes}
use Rattle.scc_lower_tree_laws.specs.Choosing.{Opened, ReadsElement, cell_read, cell_text}
use Rattle.scc_lower_tree_laws.specs.Finding.{Chosen, IsChosen, AreChosen, Indexing, Keeping, LoweringAll, Opening, stands, made}
use Rattle.scc_lower_tree_laws.specs.Sound.{Layer}
use Rattle.scc_lower_tree_laws.specs.States.{Given, State}
use Rattle.scc_lower_tree_laws.proofs.Expressions.{lowering-convert, lowering-alone, lowering-two, lowering-choice}
use Rattle.scc_lower_tree_laws.proofs.Opening.{keeping-index, lowering-more, opening-more}
use Rattle.scc_lower_tree_laws.proofs.Trees.{reads-cell}
use Rattle.scc_lower_expressions.specs.declared.convert.Lowered.{Lowered}
use Rattle.scc_lower_expressions.specs.declared.lowering.View.{View}
use Rattle.scc_lower_expressions.specs.declared.lowering.View.TheVariants.{Constant, Plain, Next, Delayed}
use Rattle.scc_lower_expressions.specs.declared.index.Open.{Open}
use Rattle.scc_lower_expressions.specs.declared.place.Chosen.{Chosen as Place}
use Rattle.scc_lower_expressions.specs.Becoming.{IsPath, chosen_of, first_in, first_of, opened_of, outcome_of, seen_of, slot_of}
use Rattle.scc_lower_expressions.specs.Lowered.{Converts, text_of}
use Rattle.scc_lower_expressions.specs.Operated.{Operated, OperatedAlone, Chosen as IsChoice}
use Rattle.scc_lower_expressions.specs.Reads.{read_term, read_text}
use Rattle.scc_lower_expressions.proofs.Outcomes.{operand, converts-is, operated-is, alone-is, chosen-is, text-same}

-- ---- first operands

pub path-more : (x z w : CoreExpr) (ys : List CoreExpr) → IsPath x ys z → first_of z ≡ Some w → IsPath x (ys ++ z ∷ []) w
path-more x z w [] h e = (sym h, (w, ap first_of h ∙ e, refl))
path-more x z w (y ∷ ys) h e = (h.0, (h.1.0, h.1.1, path-more h.1.0 z w ys h.1.2 e))

pub path-less : (x z w : CoreExpr) (ys : List CoreExpr) → IsPath x (ys ++ z ∷ []) w → IsPath x ys z × (first_of z ≡ Some w)
path-less x z w [] h = (sym h.0, ap first_of h.0 ∙ h.1.1 ∙ ap Some h.1.2)
path-less x z w (y ∷ ys) h = let r = path-less h.1.0 z w ys h.1.2 in ((h.0, (h.1.0, h.1.1, r.0)), r.1)

module _ {A B : Type 0} (f : A → B) where
  pub map-more : (xs : List A) (y : A) → map f (xs ++ y ∷ []) ≡ map f xs ++ f y ∷ []
  map-more [] y = refl
  map-more (x ∷ xs) y = ap (λ zs. f x ∷ zs) (map-more xs y)

-- so many items and the next one
module _ {A : Type 0} where
  pub take-next : (xs : List A) (i : ℕ) (x : A) → i < length xs → x ≡ get_or xs i x → take (i + 1) xs ≡ take i xs ++ x ∷ []
  take-next xs i x h is = take_more xs i x h ∙ ap (λ d. take i xs ++ d ∷ []) (sym is)

some-same : (x y : CoreExpr) → ◌≡◌ {A = Option CoreExpr} (Some x) (Some y) → x ≡ y
some-same x y e = cc

-- ---- an expression behind its first operand

module _ (g : Given) (e : CoreExpr) (a b : State) where
  same-first : (f u : CoreExpr) (x : Layer) → out-CoreExprNode e.node ≡ x → first_in x ≡ Some f → first_of e ≡ Some u → u ≡ f
  same-first f u x is p q = some-same u f (sym q ∙ ap first_in is ∙ p)

  pub over-convert : (f u : CoreExpr) (inner out : Lowered) → out-CoreExprNode e.node ≡ tree.Convert f → first_of e ≡ Some u → Becomes g u a (outcome_of inner) b → Converts f.kind e.kind inner out → Becomes g e a (outcome_of out) b
  over-convert f u inner out is p h c =
      let P : CoreExpr → Type 0 = λ x. Becomes g x a (outcome_of inner) b in
      let Q : Outcome → Type 0 = λ o. Becomes g e a o b in
      subst Q (sym (converts-is f.kind e.kind inner out c)) (lowering-convert g e f a b (outcome_of inner) is (subst P (same-first f u (tree.Convert f) is refl p) h))

  pub over-alone : (f u : CoreExpr) (op : Op) (inner out : Lowered) → out-CoreExprNode e.node ≡ tree.Operate op f None → first_of e ≡ Some u → Becomes g u a (outcome_of inner) b → OperatedAlone op (operand inner f.kind) out → Becomes g e a (outcome_of out) b
  over-alone f u op inner out is p h c =
      let P : CoreExpr → Type 0 = λ x. Becomes g x a (outcome_of inner) b in
      lowering-alone g e f op a b (outcome_of inner) (outcome_of out) is (alone-is op f.kind inner out c) (subst P (same-first f u (tree.Operate op f None) is refl p) h)

  pub over-two : (f u r : CoreExpr) (op : Op) (d : State) (inner right out : Lowered) (k : Kind) → out-CoreExprNode e.node ≡ tree.Operate op f (Some r) → first_of e ≡ Some u → Becomes g u a (outcome_of inner) b
      → Becomes g r b (outcome_of right) d → k ≡ r.kind → Operated op (operand inner f.kind) (operand right k) out → Becomes g e a (outcome_of out) d
  over-two f u r op d inner right out k is p h i s c =
      let P : CoreExpr → Type 0 = λ x. Becomes g x a (outcome_of inner) b in
      lowering-two g e f r op a b d (outcome_of inner) (outcome_of right) (outcome_of out) is
      (ap (λ j. outcome.operated op f.kind (outcome_of inner) j (outcome_of right)) (sym s) ∙ operated-is op f.kind k inner right out c)
      (subst P (same-first f u (tree.Operate op f (Some r)) is refl p) h) i

  pub over-choice : (t u f r : CoreExpr) (c d : State) (inner left right out : Lowered) (j k : Kind) → out-CoreExprNode e.node ≡ tree.Choose t f r → first_of e ≡ Some u → Becomes g u a (outcome_of inner) b
      → Becomes g f b (outcome_of left) c → j ≡ f.kind → Becomes g r c (outcome_of right) d → k ≡ r.kind → IsChoice (operand inner t.kind) (operand left j) (operand right k) e.kind out → Becomes g e a (outcome_of out) d
  over-choice t u f r c d inner left right out j k is p h i s l n m =
      let P : CoreExpr → Type 0 = λ x. Becomes g x a (outcome_of inner) b in
      let Q : Outcome → Type 0 = λ o. Becomes g e a o d in
      let same : outcome_of out ≡ outcome.chosen t.kind (outcome_of inner) f.kind (outcome_of left) r.kind (outcome_of right) e.kind =
      chosen-is t.kind j k e.kind inner left right out m ∙ (λ v. outcome.chosen t.kind (outcome_of inner) (s v) (outcome_of left) (n v) (outcome_of right) e.kind) in
      subst Q (sym same)
      (lowering-choice g e t f r a b c d (outcome_of inner) (outcome_of left) (outcome_of right) is (subst P (same-first t u (tree.Choose t f r) is refl p) h) i l)

-- ---- indices

-- what a variable holds for a text, it holds for an outcome with that text
keeping-for : (n : ℕ) (o : Outcome) (t : emitted.Term) (bits : ℕ) (old new : State) (v : Slot) → outcome.text_of o ≡ t → Keeping n (outcome.Made t) bits old v new → Keeping n o bits old v new
keeping-for n o t bits old new v e (stands p q r) = stands p (e ∙ q) r
keeping-for n o t bits old new v e (made p q r) =
    made p q (r ∙ ap (λ u. record { views = old.views; exit = old.exit; temporaries = old.temporaries ++ bits ∷ []; before = then_code old.before (Assign (whole v.variable) u End) }) (sym e))

-- the text of the converted outcome stands in a variable
pub indexing-of : (g : Given) (e : CoreExpr) (a b c : State) (inner out : Lowered) (t : emitted.Term) (v : Slot) → Becomes g e a (outcome_of inner) b → Converts e.kind (index_kind e.kind) inner out → t ≡ outcome.text_of (outcome_of out)
    → Keeping (length g.cells) (outcome.Made t) (width_of (index_kind e.kind)) b v c → Indexing g e a v c
indexing-of g e a b c inner out t v h i is k =
    keeping-index g e (outcome_of inner) a b c v h
    (keeping-for (length g.cells) (outcome.converted e.kind (index_kind e.kind) (outcome_of inner)) t (width_of (index_kind e.kind)) b c v
    (ap outcome.text_of (sym (converts-is e.kind (index_kind e.kind) inner out i)) ∙ sym is) k)

-- ---- elements

view-text : (v : View) (k : Kind) (c h l : ℕ) → cell_text (seen_of v) (width_of k) c h l ≡ read_term v k c h l
view-text (Constant w) k c h l = refl
view-text Plain k c h l = refl
view-text Next k c h l = refl
view-text Delayed k c h l = refl

cell-text : (cells : List Cell) (views : List View) (c h l : ℕ) → cell_read cells (map seen_of views) c h l ≡ read_text cells views c h l
cell-text cells views c h l = by (slice_get cells c)
  where
    there : (k : Kind) (o : Option View) → option_map (λ v. cell_text v (width_of k) c h l) (option_map seen_of o) ≡ option_map (λ v. read_term v k c h l) o
    there k None = refl
    there k (Some v) = ap Some (view-text v k c h l)

    by : (o : Option Cell) → option_and_then (λ cell. option_map (λ v. cell_text v (width_of cell.kind) c h l) (slice_get (map seen_of views) c)) o ≡ option_and_then (λ cell. option_map (λ v. read_term v cell.kind c h l) (slice_get views c)) o
    by None = refl
    by (Some cell) = ap (option_map (λ v. cell_text v (width_of cell.kind) c h l)) (slice_get-map seen_of views c) ∙ there cell.kind (slice_get views c)

pub cell-reads : (g : Given) (views : List View) (c h l : ℕ) (t : emitted.Term) → read_text g.cells views c h l ≡ Some t → ReadsElement g (map seen_of views) [] c h l t
cell-reads g views c h l t e = reads-cell g (map seen_of views) c h l t (cell-text g.cells views c h l ∙ e)

-- ---- dimensions

pub chosen-more : (parts : List CorePart) (ds : List Dim) (cs : List Chosen) (d : Dim) (c : Chosen) → AreChosen parts ds cs → IsChosen parts d c → AreChosen parts (ds ++ d ∷ []) (cs ++ c ∷ [])
chosen-more parts [] [] d c h i = (i, tt)
chosen-more parts [] (y ∷ cs) d c h i = absurd h
chosen-more parts (x ∷ ds) [] d c h i = absurd h
chosen-more parts (x ∷ ds) (y ∷ cs) d c h i = (h.0, chosen-more parts ds cs d c h.1 i)

-- ---- concatenations

pub texts-more : (os : List Outcome) (o : Outcome) → texts (os ++ o ∷ []) ≡ texts os ++ outcome.text_of o ∷ []
texts-more [] o = refl
texts-more (p ∷ os) o = ap (λ ts. outcome.text_of p ∷ ts) (texts-more os o)

-- ---- what becomes of locations and indices, item by item

pub located-more : (parts : List CorePart) (all : List Dim) (i : ℕ) (d : Dim) (old new : List Place) (x : Place) → i < length all → d ≡ get_or all i d → new ≡ old ++ x ∷ [] → AreChosen parts (take i all) (map chosen_of old) → IsChosen parts d (chosen_of x) → AreChosen parts (take (i + 1) all) (map chosen_of new)
located-more parts all i d old new x h is put a k =
    let P : List Dim → Type 0 = λ ds. AreChosen parts ds (map chosen_of new) in
    let Q : List Chosen → Type 0 = λ cs. AreChosen parts (take i all ++ d ∷ []) cs in
    subst P (sym (take-next all i d h is)) (subst Q (sym (ap (map chosen_of) put ∙ map-more chosen_of old x)) (chosen-more parts (take i all) (map chosen_of old) d (chosen_of x) a k))

pub opened-more : (g : Given) (all : List Place) (i : ℕ) (d : Place) (old new : List Open) (o : Open) (a b c : State) → i < length all → d ≡ get_or all i d → new ≡ old ++ o ∷ [] → Opening g (map chosen_of (take i all)) a (map opened_of old) b → d.size ≡ o.size → d.stride ≡ o.stride → Indexing g d.at.now b (slot_of o.at) c
    → Opening g (map chosen_of (take (i + 1) all)) a (map opened_of new) c
opened-more g all i d old new o a b c h is put op size stride ix =
    let P : List Chosen → Type 0 = λ cs. Opening g cs a (map opened_of new) c in
    let Q : List Opened → Type 0 = λ os. Opening g (map chosen_of (take i all) ++ chosen_of d ∷ []) a os c in
    subst P (sym (ap (map chosen_of) (take-next all i d h is) ∙ map-more chosen_of (take i all) d)) (subst Q (sym (ap (map opened_of) put ∙ map-more opened_of old o))
    (opening-more g (map chosen_of (take i all)) (chosen_of d) a b c (map opened_of old) (opened_of o) op size stride ix))

-- ---- concatenations

pub joined-more : (g : Given) (all : List CoreExpr) (i : ℕ) (e : CoreExpr) (old new : List SvExpr) (t : SvExpr) (o : Lowered) (a b c : State) → i < length all → e ≡ get_or all i e → new ≡ old ++ t ∷ [] → term_of t ≡ text_of o
    → (os : List Outcome) × (map term_of old ≡ texts os) × LoweringAll g (take i all) a os b → Becomes g e b (outcome_of o) c → (os : List Outcome) × (map term_of new ≡ texts os) × LoweringAll g (take (i + 1) all) a os c
joined-more g all i e old new t o a b c h is put text so k =
    let P : List CoreExpr → Type 0 = λ es. LoweringAll g es a (so.0 ++ outcome_of o ∷ []) c in
    let last : ◌≡◌ {A = List emitted.Term} (term_of t ∷ []) (outcome.text_of (outcome_of o) ∷ []) = ap (λ z. z ∷ []) (text ∙ sym (text-same o)) in (
      so.0 ++ outcome_of o ∷ [],
      ap (map term_of) put ∙ map-more term_of old t ∙ (λ j. so.1 j ++ last j) ∙ sym (texts-more so.0 (outcome_of o)),
      subst P (sym (take-next all i e h is)) (lowering-more g (take i all) e a b c so.0 (outcome_of o) so.2 k),
    )
