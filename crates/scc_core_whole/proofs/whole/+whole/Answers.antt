use Rattle.std.proofs.Common.{◌≡◌, ◌∙◌, ◌&&◌, sym, true}
use Rattle.scc_core_whole.proofs.Nodes.{choose_whole, convert_whole, each-ok, first, lit_whole, load_whole, operate_whole, read_whole, second}
use Rattle.scc_core_whole.proofs.whole.+whole.Goals as goal

pub beside_whole-returns-in-Lit : goal.beside_whole-returns-in-Lit
beside_whole-returns-in-Lit t c = λ names e f. lit_whole c.args.cells.now c.args.e.now c.in-Lit.word (sym c.get.ensures.value ∙ c.in-Lit.is) (c.is_word.ensures e)

pub beside_whole-returns-in-Load : goal.beside_whole-returns-in-Load
beside_whole-returns-in-Load t c = λ names e f. load_whole c.args.cells.now c.args.e.now c.in-Load.left (sym c.get.ensures.value ∙ c.in-Load.is) (c.is_loaded.ensures e names)

pub beside_whole-returns-in-Read : goal.beside_whole-returns-in-Read
beside_whole-returns-in-Read t c = λ names e f. read_whole c.args.cells.now c.args.e.now c.in-Read.field-0 (sym c.get.ensures.value ∙ c.in-Read.is)

pub beside_whole-returns-in-Convert : goal.beside_whole-returns-in-Convert
beside_whole-returns-in-Convert t c = λ names e f. convert_whole c.args.cells.now c.args.e.now c.in-Convert.field-0 (sym c.get.ensures.value ∙ c.in-Convert.is) (c.is_kind.ensures e) f

pub beside_whole-returns-in-Operate : goal.beside_whole-returns-in-Operate
beside_whole-returns-in-Operate t c = λ names. each-ok _ _ c.is_operated.result (c.is_operated.ensures names) (λ b h e f. operate_whole c.args.cells.now c.args.e.now c.in-Operate.left c.in-Operate.op c.in-Operate.right (sym c.get.ensures.value ∙ c.in-Operate.is) (h e) f)

pub beside_whole-returns-in_ok-is_whole-in-Choose-2 : goal.beside_whole-returns-in_ok-is_whole-in-Choose-2
beside_whole-returns-in_ok-is_whole-in-Choose-2 t c = λ names e f.
    let w : (c.is_kind-in-Choose.result && c.both.result) ≡ true = sym c.both-in-Choose.ensures ∙ e in
    let v : (c.in_ok-is_whole-in-Choose.field-0 && c.in_ok-is_whole-in-Choose-2.field-0) ≡ true = sym c.both.ensures ∙ second c.is_kind-in-Choose.result c.both.result w in
    choose_whole c.args.cells.now c.args.e.now c.in-Choose.test c.in-Choose.yes c.in-Choose.no (sym c.get.ensures.value ∙ c.in-Choose.is) (c.is_kind-in-Choose.ensures (first c.is_kind-in-Choose.result c.both.result w))
    (c.in_ok-is_whole-in-Choose.ensures names (first c.in_ok-is_whole-in-Choose.field-0 c.in_ok-is_whole-in-Choose-2.field-0 v)) (c.in_ok-is_whole-in-Choose-2.ensures names (second c.in_ok-is_whole-in-Choose.field-0 c.in_ok-is_whole-in-Choose-2.field-0 v)) f
