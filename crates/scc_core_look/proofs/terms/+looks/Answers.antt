use Rattle.std.proofs.Common.{◌≡◌, ◌<◌, ◌≤◌, ◌&&◌, ◌∙◌, ap, sym, subst, arith, length, min, ◌+◌, map, nat_eq, refl, List, [], ◌∷◌, true, false}
use Rattle.std.specs.List.{list_all}
use Rattle.scc_core_spec.specs.Term.{Prefix}
use Rattle.scc_core_view.specs.Terms.{extended, name_of}
use Rattle.scc_core_look.specs.Fits.{IsLeft, part_fits, part_term}
use Rattle.scc_core_look.proofs.Alike.{all-one, each-ok, taken-whole}
use Rattle.scc_core_look.proofs.Apart.{first, second}
use Rattle.scc_core_look.proofs.Lefts.{cell_is, front_is, front_told}
use Rattle.scc_core_look.proofs.Trees.{begin_low, joined_in, loaded_in, low_on, operated_in, picked_in, shown_in, some_told}
use Rattle.scc_core_look.proofs.terms.+looks.Goals as goal

pub beside_fits-returns-in-Load : goal.beside_fits-returns-in-Load
beside_fits-returns-in-Load t c = each-ok _ _ c.load_fits.result c.load_fits.ensures (λ b h e ground f. let w = h e ground in loaded_in c.args.g.now c.args.e.now c.in-Load.left (sym c.get.ensures.value ∙ c.in-Load.is) w.0 w.1)

pub beside_fits-returns-in-Read : goal.beside_fits-returns-in-Read
beside_fits-returns-in-Read t c = each-ok _ _ c.read_fits.result c.read_fits.ensures (λ b h e ground f. let w = h e ground in shown_in c.args.g.now c.args.e.now c.in-Read.left (sym c.get.ensures.value ∙ c.in-Read.is) w.0 w.1)

pub beside_fits-returns-in-Operate : goal.beside_fits-returns-in-Operate
beside_fits-returns-in-Operate t c = each-ok _ _ c.operand_fits.result c.operand_fits.ensures (λ b h e ground f. operated_in c.args.g.now c.args.e.now c.in-Operate.left c.in-Operate.op c.in-Operate.right (sym c.get.ensures.value ∙ c.in-Operate.is) (h e ground) f)

pub beside_fits-returns-in-Pick : goal.beside_fits-returns-in-Pick
beside_fits-returns-in-Pick t c = each-ok _ _ c.bits_fit.result c.bits_fit.ensures (λ b h e ground f. picked_in c.args.g.now c.args.e.now c.in-Pick.of c.in-Pick.pick (sym c.get.ensures.value ∙ c.in-Pick.is) (h e ground) f)

pub beside_fits-returns-in-Join : goal.beside_fits-returns-in-Join
beside_fits-returns-in-Join t c = each-ok _ _ c.join_fits.result c.join_fits.ensures (λ b h e ground f. joined_in c.args.g.now c.args.e.now c.in-Join.parts c.as_slice.result.now (sym c.get.ensures.value ∙ c.in-Join.is) c.as_slice.ensures.elements (h e ground c.args.e.now.place))

nothing : {A : Type 0} (xs : List A) → nat_eq (length xs) 0 ≡ true → xs ≡ []
nothing [] e = refl
nothing (x ∷ xs) e = absurd (let z : nat_eq (length (x ∷ xs)) 0 ≡ false = grind arith in let y : true ≡ false = sym e ∙ z in cc)

pub left_fits-returns-in-Cell : goal.left_fits-returns-in-Cell
left_fits-returns-in-Cell t c = λ e ground.
    let w : (c.is_empty.result && c.cell_passes.result) ≡ true = sym c.both.ensures ∙ e in
    let none = sym c.is_empty.ensures.empty ∙ first c.is_empty.result c.cell_passes.result w in
    subst (λ l. IsLeft c.args.g.now c.args.test l) (sym (cell_is c.args.left.now c.in-Cell.number c.in-Cell.is (nothing c.args.left.now.parts none)))
    (c.cell_passes.ensures (second c.is_empty.result c.cell_passes.result w) ground c.args.left.now.place)

pub left_fits-returns-in-Prefix : goal.left_fits-returns-in-Prefix
left_fits-returns-in-Prefix t c = each-ok _ _ c.front_fits.result c.front_fits.ensures (λ b h e ground.
    subst (λ l. IsLeft c.args.g.now c.args.test l)
    (ap (λ ps. extended (Prefix c.args.left.now.place (name_of c.in-Prefix.name)) (map part_term ps)) c.as_slice.ensures.elements ∙ sym (front_is c.args.left.now c.in-Prefix.name c.in-Prefix.is))
    (h e ground c.args.left.now.place))

pub front_fits-returns : goal.front_fits-returns
front_fits-returns t c = λ e ground p.
    front_told c.args.g.now ground c.args.test p c.args.name.now c.args.parts.now c.name_fits.result c.in_ok-front_passes.field-0 c.both-named.result c.in_ok-fit.fit c.both.result
    c.name_fits.ensures (λ f. c.in_ok-front_passes.ensures f ground) c.both-named.ensures (λ f. c.in_ok-fit.ensures f ground) c.both.ensures e

pub some_fit-returns : goal.some_fit-returns
some_fit-returns t c = λ e ground p.
    some_told c.args.g.now c.args.kind c.args.one.now c.args.more.now p c.width.result c.wide.result c.alone_fits.result c.in_ok-first.first c.in_ok-rest.rest c.both.result c.both-2.result
    c.width.ensures c.wide.ensures c.alone_fits.ensures (λ f. c.in_ok-first.ensures f ground) (λ f. c.in_ok-rest.ensures f ground) c.both.ensures c.both-2.ensures e

pub low_parts_fit-loop-part-init : goal.low_parts_fit-loop-part-init
low_parts_fit-loop-part-init t c = λ e ground. begin_low c.args.g.now c.args.limit c.args.bits

pub low_parts_fit-loop-part-preserved : goal.low_parts_fit-loop-part-preserved
low_parts_fit-loop-part-preserved t c = λ e ground.
    let h : c.loop-part.part-index < length c.args.parts.now = omega arith in
    low_on c.args.g.now c.args.limit c.args.bits c.loop-part.bits c.more_bits-bits.result c.args.parts.now c.loop-part.part-index c.part-item.result h c.part-item.is (c.more_bits-bits.ensures ∙ ap (λ w. min (c.loop-part.bits + w) 18446744073709551615) c.width.ensures) (omega arith)
    c.loop-part.fit c.in_ok-expression_fits.field-0 c.is_narrow.result c.both-fit.result (λ f. c.loop-part.invariant f ground) (λ f. c.in_ok-expression_fits.ensures f ground) c.is_narrow.ensures c.both-fit.ensures e

pub parts_fit-loop-part-preserved : goal.parts_fit-loop-part-preserved
parts_fit-loop-part-preserved t c = λ e ground.
    let h : c.loop-part.part-index < length c.args.parts.now = omega arith in
    all-one (part_fits c.args.g.now) c.args.parts.now c.loop-part.part-index c.part-item.result h c.part-item.is c.loop-part.fit c.in_ok-part_fits.field-0 c.both-fit.result
    (λ f. c.loop-part.invariant f ground) (λ f. c.in_ok-part_fits.ensures f ground) c.both-fit.ensures e

pub parts_fit-returns : goal.parts_fit-returns
parts_fit-returns t c = λ e ground.
    let h : length c.args.parts.now ≤ c.loop-part.part-index = omega arith in
    ap (λ xs. list_all (part_fits c.args.g.now) xs) (sym (taken-whole c.args.parts.now c.loop-part.part-index h)) ∙ c.loop-part.invariant e ground
