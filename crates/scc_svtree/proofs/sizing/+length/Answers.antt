use Rattle.std.proofs.Common.{rules, ◌≡◌, ◌≤◌, map, ap, sym, subst, ◌∙◌}
use Rattle.scc_svtree.specs.Sized.{AllSized, IsSized, total_length}
use Rattle.scc_svtree.specs.Sizes.{length_of}
use Rattle.scc_svtree.specs.Term.{Term, joined, term_of}
use Rattle.scc_svtree.specs.Variables.{width_at}
use Rattle.scc_svtree.proofs.Joined.{joined_parts, joined_short, joined_long}
use Rattle.scc_svtree.proofs.Trees.{term_concat}
use Rattle.scc_svtree.specs.declared.expr.SvExprNode.TheViews.{the_lemmas}
use Rattle.scc_svtree.proofs.sizing.+length.Goals as goal

pub length-lengths-requires : goal.length-lengths-requires
length-lengths-requires t c =
    let width = width_at c.args.m.now.vars in
    let is : term_of c.args.e.now ≡ joined (map term_of c.as_slice.result.now) =
    term_concat c.args.e.now c.in-Concat.parts (sym c.get.ensures.value ∙ c.in-Concat.is) ∙ ap (λ p. joined (map term_of p)) (sym c.as_slice.ensures.elements) in
    let h : IsSized width (joined (map term_of c.as_slice.result.now)) = let P : Term → Type 0 = λ x. IsSized width x in subst P is c.requires.sized in
    let a : AllSized width (map term_of c.as_slice.result.now) = joined_parts width (map term_of c.as_slice.result.now) h in
    let b : total_length width (map term_of c.as_slice.result.now) ≤ 128 = joined_short width (map term_of c.as_slice.result.now) h in
    (search (rules, the_lemmas), (a, b))

pub length-returns-in-Concat : goal.length-returns-in-Concat
length-returns-in-Concat t c =
    let width = width_at c.args.m.now.vars in
    let is : term_of c.args.e.now ≡ joined (map term_of c.as_slice.result.now) =
    term_concat c.args.e.now c.in-Concat.parts (sym c.get.ensures.value ∙ c.in-Concat.is) ∙ ap (λ p. joined (map term_of p)) (sym c.as_slice.ensures.elements) in
    record { length = c.lengths.ensures.length ∙ sym (joined_long width (map term_of c.as_slice.result.now)) ∙ ap (λ x. length_of width x) (sym is) }
