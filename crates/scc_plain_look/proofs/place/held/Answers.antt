use Rattle.std.proofs.Common.{rules, ◌≡◌, ◌∙◌, ◌++◌, ◌∷◌, [], Option, map, option_and_then, ap, sym, Bor}
use Rattle.scc_plain_tree.specs.declared.expr.PlainLeft.{PlainLeft, the_lemmas}
use Rattle.scc_plain_look.specs.declared.held.Held.{Held}
use Rattle.scc_plain_look.specs.Held.{Around, around, followed}
use Rattle.scc_plain_look.specs.Seen as seen
use Rattle.scc_plain_look.proofs.Chains.{behind_all, behind_all_push}
use Rattle.scc_plain_look.proofs.place.held.Goals as goal

pub loop-here-preserved : goal.loop-here-preserved
loop-here-preserved c =
    let a : Around = around c.args.s.now.plain.now c.args.s.now.function.now c.args.s.now.calls.now in
    let g : Bor PlainLeft → seen.SeenLeft = λ x. seen.left x.now in
    let h : Option Held = (seen.left c.get-here.result.now).held a in
    let p : c.push.new.items.items ≡ c.loop-here.spine.items ++ c.loop-here.here ∷ [] = search rules in
    let q : (seen.left c.loop-here.here.now).held a ≡ (seen.left c.loop-here.here.now).behind a (option_and_then followed h) = search (rules, the_lemmas) in
    ap (λ xs. behind_all a (map g xs) h) p ∙ behind_all_push g a c.loop-here.spine.items c.loop-here.here h ∙ ap (behind_all a (map g c.loop-here.spine.items)) (sym q) ∙ c.loop-here.invariant
