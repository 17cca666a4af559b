use Rattle.std.proofs.Common.{◌≡◌, List, [], ◌∷◌, ◌++◌, length, length-append, append_assoc, map, decimal, true, false, ap, sym, ◌∙◌, arith}
use Rattle.std.proofs.lemmas.List.{append-nil}
use Rattle.scc_svtree.specs.declared.expr.SvExpr.{SvExpr}
use Rattle.scc_svtext.specs.declared.fixed.Fixed.TheVariants as piece
use Rattle.scc_svtext.specs.declared.part.Part.{Part}
use Rattle.scc_svtext.specs.declared.part.Part.TheVariants as part
use Rattle.scc_svtext.specs.Fixed.{fixed_text}
use Rattle.scc_svtext.specs.Pieces.{literal_text, left_text}
use Rattle.scc_svtext.specs.ExprText.{expr_text, unary_text, binary_text, sign_text, joined}
use Rattle.scc_svtext.specs.Pending.{pending, part_text}
use Rattle.scc_svtext.proofs.FixedTexts.{some_text}
use Rattle.scc_svtext.proofs.Moved.{Moved, moved, pushed_twice, regrouped}
use Rattle.scc_svtext.proofs.Nodes.{expr_literal, expr_left, expr_unary, expr_binary, expr_cond, expr_concat, expr_cast, expr_sign}
use Rattle.scc_svtext.proofs.expr.expr.Goals as goal

at_In_ok_fixed_in_Fixed : (c : goal.In_ok-fixed-in-Fixed) → Moved c.args.names.now c.loop-part.parts.items (c.args.out.now ++ pending c.args.names.now c.push.new.self.items) c.fixed.new.out c.pop.new.self.items
at_In_ok_fixed_in_Fixed c =
    let names = c.args.names.now in
    let out = c.loop-part.out in
    let inv = c.loop-part.invariant in
    let top = c.in-Some.ensures.items in
    let p : fixed_text c.in-Fixed.piece ++ [] ≡ part_text names c.in-Some.part = append-nil (fixed_text c.in-Fixed.piece) ∙ sym (ap (part_text names) c.in-Fixed.is) in
    moved names out (fixed_text c.in-Fixed.piece) c.fixed.new.out _ c.loop-part.parts.items c.pop.new.self.items [] c.pop.new.self.items c.in-Some.part inv top c.in_ok-fixed-in-Fixed.ensures (sym (append-nil c.pop.new.self.items)) p (omega arith)

pub loop-part-preserved-in-Continue-branch-2 : goal.loop-part-preserved-in-Continue-branch-2
loop-part-preserved-in-Continue-branch-2 c = (at_In_ok_fixed_in_Fixed c).text

pub loop-part-smaller-in-Continue-branch-2 : goal.loop-part-smaller-in-Continue-branch-2
loop-part-smaller-in-Continue-branch-2 c = (at_In_ok_fixed_in_Fixed c).less

at_In_ok_push_bytes_in_Operator : (c : goal.In_ok-push_bytes-in-Operator) → Moved c.args.names.now c.loop-part.parts.items (c.args.out.now ++ pending c.args.names.now c.push.new.self.items) c.push_bytes.new.self c.pop.new.self.items
at_In_ok_push_bytes_in_Operator c =
    let names = c.args.names.now in
    let out = c.loop-part.out in
    let inv = c.loop-part.invariant in
    let top = c.in-Some.ensures.items in
    let p : binary_text c.in-Operator.op ++ [] ≡ part_text names c.in-Some.part = append-nil (binary_text c.in-Operator.op) ∙ sym (ap (part_text names) c.in-Operator.is) in
    moved names out (binary_text c.in-Operator.op) c.push_bytes.new.self _ c.loop-part.parts.items c.pop.new.self.items [] c.pop.new.self.items c.in-Some.part inv top (c.in_ok-push_bytes-in-Operator.ensures.ok ∙ ap (λ t. out ++ t) c.binary.ensures) (sym (append-nil c.pop.new.self.items)) p (omega arith)

pub loop-part-preserved-in-Continue-branch-3 : goal.loop-part-preserved-in-Continue-branch-3
loop-part-preserved-in-Continue-branch-3 c = (at_In_ok_push_bytes_in_Operator c).text

pub loop-part-smaller-in-Continue-branch-3 : goal.loop-part-smaller-in-Continue-branch-3
loop-part-smaller-in-Continue-branch-3 c = (at_In_ok_push_bytes_in_Operator c).less

at_In_ok_literal_in_Literal : (c : goal.In_ok-literal-in-Literal) → Moved c.args.names.now c.loop-part.parts.items (c.args.out.now ++ pending c.args.names.now c.push.new.self.items) c.literal.new.out c.pop.new.self.items
at_In_ok_literal_in_Literal c =
    let names = c.args.names.now in
    let out = c.loop-part.out in
    let inv = c.loop-part.invariant in
    let top = c.in-Some.ensures.items in
    let is = sym c.get.ensures.value ∙ c.in-Literal.is in
    let p : literal_text c.in-Literal.l.width c.in-Literal.l.value.bits ++ [] ≡ part_text names c.in-Some.part = append-nil (literal_text c.in-Literal.l.width c.in-Literal.l.value.bits) ∙ sym (expr_literal names c.in-Expr.e.now c.in-Literal.l is) ∙ sym (ap (part_text names) c.in-Expr.is) in
    moved names out (literal_text c.in-Literal.l.width c.in-Literal.l.value.bits) c.literal.new.out _ c.loop-part.parts.items c.pop.new.self.items [] c.pop.new.self.items c.in-Some.part inv top c.in_ok-literal-in-Literal.ensures (sym (append-nil c.pop.new.self.items)) p (omega arith)

pub loop-part-preserved-in-Continue-branch-4 : goal.loop-part-preserved-in-Continue-branch-4
loop-part-preserved-in-Continue-branch-4 c = (at_In_ok_literal_in_Literal c).text

pub loop-part-smaller-in-Continue-branch-4 : goal.loop-part-smaller-in-Continue-branch-4
loop-part-smaller-in-Continue-branch-4 c = (at_In_ok_literal_in_Literal c).less

at_In_ok_left_in_Left : (c : goal.In_ok-left-in-Left) → Moved c.args.names.now c.loop-part.parts.items (c.args.out.now ++ pending c.args.names.now c.push.new.self.items) c.left.new.out c.pop.new.self.items
at_In_ok_left_in_Left c =
    let names = c.args.names.now in
    let out = c.loop-part.out in
    let inv = c.loop-part.invariant in
    let top = c.in-Some.ensures.items in
    let is = sym c.get.ensures.value ∙ c.in-Left.is in
    let p : left_text names c.in-Left.l ++ [] ≡ part_text names c.in-Some.part = append-nil (left_text names c.in-Left.l) ∙ sym (expr_left names c.in-Expr.e.now c.in-Left.l is) ∙ sym (ap (part_text names) c.in-Expr.is) in
    moved names out (left_text names c.in-Left.l) c.left.new.out _ c.loop-part.parts.items c.pop.new.self.items [] c.pop.new.self.items c.in-Some.part inv top c.in_ok-left-in-Left.ensures (sym (append-nil c.pop.new.self.items)) p (omega arith)

pub loop-part-preserved-in-Continue-branch-5 : goal.loop-part-preserved-in-Continue-branch-5
loop-part-preserved-in-Continue-branch-5 c = (at_In_ok_left_in_Left c).text

pub loop-part-smaller-in-Continue-branch-5 : goal.loop-part-smaller-in-Continue-branch-5
loop-part-smaller-in-Continue-branch-5 c = (at_In_ok_left_in_Left c).less

at_In_ok_extend_from_slice_in_Unary : (c : goal.In_ok-extend_from_slice-in-Unary) → Moved c.args.names.now c.loop-part.parts.items (c.args.out.now ++ pending c.args.names.now c.push.new.self.items) c.push_bytes-in-Unary.new.self c.extend_from_slice.new.self.items
at_In_ok_extend_from_slice_in_Unary c =
    let names = c.args.names.now in
    let out = c.loop-part.out in
    let inv = c.loop-part.invariant in
    let top = c.in-Some.ensures.items in
    let is = sym c.get.ensures.value ∙ c.in-Unary.is in
    let op = c.in-Unary.op in
    let text = expr_unary names c.in-Expr.e.now op c.in-Unary.of is in
    let o : c.push_bytes-in-Unary.new.self ≡ out ++ (fixed_text piece.Open ++ unary_text op) =
    c.in_ok-push_bytes-in-Unary.ensures.ok ∙ ap (λ x. x ++ c.unary.result.now) c.in_ok-fixed-in-Unary.ensures ∙ append_assoc out (fixed_text piece.Open) c.unary.result.now ∙ ap (λ t. out ++ (fixed_text piece.Open ++ t)) c.unary.ensures in
    let e = c.in_ok-extend_from_slice-in-Unary.ensures.items in
    let a = some_text piece.Open in
    let b = length-append (fixed_text piece.Open) (unary_text op) in
    moved names out (fixed_text piece.Open ++ unary_text op) c.push_bytes-in-Unary.new.self _ c.loop-part.parts.items c.pop.new.self.items _ c.extend_from_slice.new.self.items c.in-Some.part inv top o e
    (sym (append_assoc (fixed_text piece.Open ++ unary_text op) (expr_text names c.in-Unary.of) (fixed_text piece.Close)) ∙ sym text ∙ sym (ap (part_text names) c.in-Expr.is)) (omega (arith, a, b))

pub loop-part-preserved-in-Continue-branch-8 : goal.loop-part-preserved-in-Continue-branch-8
loop-part-preserved-in-Continue-branch-8 c = (at_In_ok_extend_from_slice_in_Unary c).text

pub loop-part-smaller-in-Continue-branch-8 : goal.loop-part-smaller-in-Continue-branch-8
loop-part-smaller-in-Continue-branch-8 c = (at_In_ok_extend_from_slice_in_Unary c).less

at_In_ok_extend_from_slice_in_Binary : (c : goal.In_ok-extend_from_slice-in-Binary) → Moved c.args.names.now c.loop-part.parts.items (c.args.out.now ++ pending c.args.names.now c.push.new.self.items) c.fixed-in-Binary.new.out c.extend_from_slice-in-Binary.new.self.items
at_In_ok_extend_from_slice_in_Binary c =
    let names = c.args.names.now in
    let out = c.loop-part.out in
    let inv = c.loop-part.invariant in
    let top = c.in-Some.ensures.items in
    let is = sym c.get.ensures.value ∙ c.in-Binary.is in
    let text = expr_binary names c.in-Expr.e.now c.in-Binary.op c.in-Binary.left c.in-Binary.right is in
    moved names out (fixed_text piece.Open) c.fixed-in-Binary.new.out _ c.loop-part.parts.items c.pop.new.self.items _ c.extend_from_slice-in-Binary.new.self.items c.in-Some.part inv top c.in_ok-fixed-in-Binary.ensures c.in_ok-extend_from_slice-in-Binary.ensures.items
    (regrouped (fixed_text piece.Open) (expr_text names c.in-Binary.left) (fixed_text piece.Space) (binary_text c.in-Binary.op) (fixed_text piece.Space) (expr_text names c.in-Binary.right) (fixed_text piece.Close) ∙ sym text ∙ sym (ap (part_text names) c.in-Expr.is)) (omega (arith, some_text piece.Open))

pub loop-part-preserved-in-Continue-branch-10 : goal.loop-part-preserved-in-Continue-branch-10
loop-part-preserved-in-Continue-branch-10 c = (at_In_ok_extend_from_slice_in_Binary c).text

pub loop-part-smaller-in-Continue-branch-10 : goal.loop-part-smaller-in-Continue-branch-10
loop-part-smaller-in-Continue-branch-10 c = (at_In_ok_extend_from_slice_in_Binary c).less

at_In_ok_extend_from_slice_in_Cond : (c : goal.In_ok-extend_from_slice-in-Cond) → Moved c.args.names.now c.loop-part.parts.items (c.args.out.now ++ pending c.args.names.now c.push.new.self.items) c.fixed-in-Cond.new.out c.extend_from_slice-in-Cond.new.self.items
at_In_ok_extend_from_slice_in_Cond c =
    let names = c.args.names.now in
    let out = c.loop-part.out in
    let inv = c.loop-part.invariant in
    let top = c.in-Some.ensures.items in
    let is = sym c.get.ensures.value ∙ c.in-Cond.is in
    let text = expr_cond names c.in-Expr.e.now c.in-Cond.test c.in-Cond.yes c.in-Cond.no is in
    moved names out (fixed_text piece.Open) c.fixed-in-Cond.new.out _ c.loop-part.parts.items c.pop.new.self.items _ c.extend_from_slice-in-Cond.new.self.items c.in-Some.part inv top c.in_ok-fixed-in-Cond.ensures c.in_ok-extend_from_slice-in-Cond.ensures.items
    (regrouped (fixed_text piece.Open) (expr_text names c.in-Cond.test) (fixed_text piece.Question) (expr_text names c.in-Cond.yes) (fixed_text piece.Colon) (expr_text names c.in-Cond.no) (fixed_text piece.Close) ∙ sym text ∙ sym (ap (part_text names) c.in-Expr.is)) (omega (arith, some_text piece.Open))

pub loop-part-preserved-in-Continue-branch-12 : goal.loop-part-preserved-in-Continue-branch-12
loop-part-preserved-in-Continue-branch-12 c = (at_In_ok_extend_from_slice_in_Cond c).text

pub loop-part-smaller-in-Continue-branch-12 : goal.loop-part-smaller-in-Continue-branch-12
loop-part-smaller-in-Continue-branch-12 c = (at_In_ok_extend_from_slice_in_Cond c).less

at_In_ok_extend_from_slice_in_Cast : (c : goal.In_ok-extend_from_slice-in-Cast) → Moved c.args.names.now c.loop-part.parts.items (c.args.out.now ++ pending c.args.names.now c.push.new.self.items) c.fixed-in-Cast.new.out c.extend_from_slice-in-Cast.new.self.items
at_In_ok_extend_from_slice_in_Cast c =
    let names = c.args.names.now in
    let out = c.loop-part.out in
    let inv = c.loop-part.invariant in
    let top = c.in-Some.ensures.items in
    let is = sym c.get.ensures.value ∙ c.in-Cast.is in
    let w = c.in-Cast.width in
    let text = expr_cast names c.in-Expr.e.now w c.in-Cast.of is in
    let o : c.fixed-in-Cast.new.out ≡ out ++ (decimal w ++ fixed_text piece.CastOpen) =
    c.in_ok-fixed-in-Cast.ensures ∙ ap (λ x. x ++ fixed_text piece.CastOpen) c.in_ok-number-in-Cast.ensures ∙ append_assoc out (decimal w) (fixed_text piece.CastOpen) in
    let b = length-append (decimal w) (fixed_text piece.CastOpen) in
    moved names out (decimal w ++ fixed_text piece.CastOpen) c.fixed-in-Cast.new.out _ c.loop-part.parts.items c.pop.new.self.items _ c.extend_from_slice-in-Cast.new.self.items c.in-Some.part inv top o c.in_ok-extend_from_slice-in-Cast.ensures.items
    (sym (append_assoc (decimal w ++ fixed_text piece.CastOpen) (expr_text names c.in-Cast.of) (fixed_text piece.Close)) ∙ sym text ∙ sym (ap (part_text names) c.in-Expr.is)) (omega (arith, some_text piece.CastOpen, b))

pub loop-part-preserved-in-Continue-branch-18 : goal.loop-part-preserved-in-Continue-branch-18
loop-part-preserved-in-Continue-branch-18 c = (at_In_ok_extend_from_slice_in_Cast c).text

pub loop-part-smaller-in-Continue-branch-18 : goal.loop-part-smaller-in-Continue-branch-18
loop-part-smaller-in-Continue-branch-18 c = (at_In_ok_extend_from_slice_in_Cast c).less

at_In_ok_extend_from_slice_in_Sign : (c : goal.In_ok-extend_from_slice-in-Sign) → Moved c.args.names.now c.loop-part.parts.items (c.args.out.now ++ pending c.args.names.now c.push.new.self.items) c.fixed-in-Sign.new.out c.extend_from_slice-in-Sign.new.self.items
at_In_ok_extend_from_slice_in_Sign c =
    let names = c.args.names.now in
    let out = c.loop-part.out in
    let inv = c.loop-part.invariant in
    let top = c.in-Some.ensures.items in
    let is = sym c.get.ensures.value ∙ c.in-Sign.is in
    let s = c.in-Sign.signed in
    let text = expr_sign names c.in-Expr.e.now s c.in-Sign.of is in
    let o : c.fixed-in-Sign.new.out ≡ out ++ sign_text s = c.in_ok-fixed-in-Sign.ensures ∙ ap (λ t. out ++ t) c.sign.ensures in
    let b = ap length c.sign.ensures in
    moved names out (sign_text s) c.fixed-in-Sign.new.out _ c.loop-part.parts.items c.pop.new.self.items _ c.extend_from_slice-in-Sign.new.self.items c.in-Some.part inv top o c.in_ok-extend_from_slice-in-Sign.ensures.items
    (sym (append_assoc (sign_text s) (expr_text names c.in-Sign.of) (fixed_text piece.Close)) ∙ sym text ∙ sym (ap (part_text names) c.in-Expr.is)) (omega (arith, some_text c.sign.result, b))

pub loop-part-preserved-in-Continue-branch-20 : goal.loop-part-preserved-in-Continue-branch-20
loop-part-preserved-in-Continue-branch-20 c = (at_In_ok_extend_from_slice_in_Sign c).text

pub loop-part-smaller-in-Continue-branch-20 : goal.loop-part-smaller-in-Continue-branch-20
loop-part-smaller-in-Continue-branch-20 c = (at_In_ok_extend_from_slice_in_Sign c).less

at_In_ok_extend_from_slice_in_Concat : (c : goal.In_ok-extend_from_slice-in-Concat) → Moved c.args.names.now c.loop-part.parts.items (c.args.out.now ++ pending c.args.names.now c.push.new.self.items) c.fixed-in-Concat.new.out c.extend_from_slice-in-Some-split.new.self.items
at_In_ok_extend_from_slice_in_Concat c =
    let names = c.args.names.now in
    let out = c.loop-part.out in
    let inv = c.loop-part.invariant in
    let top = c.in-Some.ensures.items in
    let is = sym c.get.ensures.value ∙ c.in-Concat.is in
    let text = expr_concat names c.in-Expr.e.now c.in-Concat.list is in
    let f : SvExpr = c.in-Some-split.first.now in
    let m : List SvExpr = c.in-Some-split.more.now in
    let k : List Part = part.Fixed piece.BraceClose ∷ [] in
    let q : List Part = part.More c.in-Some-split.more ∷ part.Expr c.in-Some-split.first ∷ [] in
    let l : f ∷ m ≡ c.in-Concat.list = sym c.in-Some-split.ensures ∙ c.as_slice.ensures.elements in
    let t : fixed_text piece.BraceOpen ++ ((expr_text names f ++ joined false (map (expr_text names) m)) ++ fixed_text piece.BraceClose) ≡ expr_text names c.in-Expr.e.now =
    sym (append_assoc (fixed_text piece.BraceOpen) (expr_text names f ++ joined false (map (expr_text names) m)) (fixed_text piece.BraceClose))
    ∙ ap (λ ps. fixed_text piece.BraceOpen ++ joined true (map (expr_text names) ps) ++ fixed_text piece.BraceClose) l ∙ sym text in
    moved names out (fixed_text piece.BraceOpen) c.fixed-in-Concat.new.out _ c.loop-part.parts.items c.pop.new.self.items (k ++ q) c.extend_from_slice-in-Some-split.new.self.items c.in-Some.part inv top c.in_ok-fixed-in-Concat.ensures
    (pushed_twice c.extend_from_slice-in-Some-split.new.self.items c.push-in-Concat.new.self.items c.pop.new.self.items k q c.in_ok-extend_from_slice-in-Concat.ensures.items c.in_ok-push-in-Concat.ensures.items)
    (t ∙ sym (ap (part_text names) c.in-Expr.is)) (omega (arith, some_text piece.BraceOpen))

pub loop-part-preserved-in-Continue-branch-15 : goal.loop-part-preserved-in-Continue-branch-15
loop-part-preserved-in-Continue-branch-15 c = (at_In_ok_extend_from_slice_in_Concat c).text

pub loop-part-smaller-in-Continue-branch-15 : goal.loop-part-smaller-in-Continue-branch-15
loop-part-smaller-in-Continue-branch-15 c = (at_In_ok_extend_from_slice_in_Concat c).less

at_In_default_split : (c : goal.In_default-split) → Moved c.args.names.now c.loop-part.parts.items (c.args.out.now ++ pending c.args.names.now c.push.new.self.items) c.fixed-in-Concat.new.out c.push-in-Concat.new.self.items
at_In_default_split c =
    let names = c.args.names.now in
    let out = c.loop-part.out in
    let inv = c.loop-part.invariant in
    let top = c.in-Some.ensures.items in
    let is = sym c.get.ensures.value ∙ c.in-Concat.is in
    let text = expr_concat names c.in-Expr.e.now c.in-Concat.list is in
    let l : [] ≡ c.in-Concat.list = sym c.in_default-split.ensures ∙ c.as_slice.ensures.elements in
    let t : fixed_text piece.BraceOpen ++ fixed_text piece.BraceClose ≡ expr_text names c.in-Expr.e.now =
    ap (λ b. b ++ fixed_text piece.BraceClose) (sym (append-nil (fixed_text piece.BraceOpen)))
    ∙ ap (λ ps. fixed_text piece.BraceOpen ++ joined true (map (expr_text names) ps) ++ fixed_text piece.BraceClose) l ∙ sym text in
    moved names out (fixed_text piece.BraceOpen) c.fixed-in-Concat.new.out _ c.loop-part.parts.items c.pop.new.self.items _ c.push-in-Concat.new.self.items c.in-Some.part inv top c.in_ok-fixed-in-Concat.ensures c.in_ok-push-in-Concat.ensures.items
    (t ∙ sym (ap (part_text names) c.in-Expr.is)) (omega (arith, some_text piece.BraceOpen))

pub loop-part-preserved-in_default-split : goal.loop-part-preserved-in_default-split
loop-part-preserved-in_default-split c = (at_In_default_split c).text

pub loop-part-smaller-in_default-split : goal.loop-part-smaller-in_default-split
loop-part-smaller-in_default-split c = (at_In_default_split c).less

at_In_ok_extend_from_slice_in_More : (c : goal.In_ok-extend_from_slice-in-More) → Moved c.args.names.now c.loop-part.parts.items (c.args.out.now ++ pending c.args.names.now c.push.new.self.items) c.fixed-in-Some-split-2.new.out c.extend_from_slice-in-Some-split-2.new.self.items
at_In_ok_extend_from_slice_in_More c =
    let names = c.args.names.now in
    let out = c.loop-part.out in
    let inv = c.loop-part.invariant in
    let top = c.in-Some.ensures.items in
    let f : SvExpr = c.in-Some-split-2.first.now in
    let m : List SvExpr = c.in-Some-split-2.more.now in
    let l : f ∷ m ≡ c.in-More.list.now = sym c.in-Some-split-2.ensures in
    let t : fixed_text piece.Comma ++ (expr_text names f ++ joined false (map (expr_text names) m)) ≡ joined false (map (expr_text names) c.in-More.list.now) =
    sym (append_assoc (fixed_text piece.Comma) (expr_text names f) (joined false (map (expr_text names) m))) ∙ ap (λ ps. joined false (map (expr_text names) ps)) l in
    moved names out (fixed_text piece.Comma) c.fixed-in-Some-split-2.new.out _ c.loop-part.parts.items c.pop.new.self.items _ c.extend_from_slice-in-Some-split-2.new.self.items c.in-Some.part inv top c.in_ok-fixed-in-More.ensures c.in_ok-extend_from_slice-in-More.ensures.items
    (t ∙ sym (ap (part_text names) c.in-More.is)) (omega (arith, some_text piece.Comma))

pub loop-part-preserved-in-Continue-branch-22 : goal.loop-part-preserved-in-Continue-branch-22
loop-part-preserved-in-Continue-branch-22 c = (at_In_ok_extend_from_slice_in_More c).text

pub loop-part-smaller-in-Continue-branch-22 : goal.loop-part-smaller-in-Continue-branch-22
loop-part-smaller-in-Continue-branch-22 c = (at_In_ok_extend_from_slice_in_More c).less

at_In_default_split_2 : (c : goal.In_default-split-2) → Moved c.args.names.now c.loop-part.parts.items (c.args.out.now ++ pending c.args.names.now c.push.new.self.items) c.loop-part.out c.pop.new.self.items
at_In_default_split_2 c =
    let names = c.args.names.now in
    let out = c.loop-part.out in
    let inv = c.loop-part.invariant in
    let top = c.in-Some.ensures.items in
    let l : [] ≡ c.in-More.list.now = sym c.in_default-split-2.ensures in
    let t : [] ++ [] ≡ joined false (map (expr_text names) c.in-More.list.now) = ap (λ ps. joined false (map (expr_text names) ps)) l in
    moved names out [] out _ c.loop-part.parts.items c.pop.new.self.items [] c.pop.new.self.items c.in-Some.part inv top (sym (append-nil out)) (sym (append-nil c.pop.new.self.items))
    (t ∙ sym (ap (part_text names) c.in-More.is)) (omega arith)

pub loop-part-preserved : goal.loop-part-preserved
loop-part-preserved c = (at_In_default_split_2 c).text

pub loop-part-smaller : goal.loop-part-smaller
loop-part-smaller c = (at_In_default_split_2 c).less
