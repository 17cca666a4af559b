use Rattle.std.proofs.Common.{◌≡◌, ◌<◌, length, get_or, arith}
use Rattle.scc_base.specs.declared.path.PathPart.{PathPart}
use Rattle.scc_base.specs.declared.path.PathPart.TheVariants.{Member}
use Rattle.scc_core_look.proofs.Alike.{inside, path_on}
use Rattle.scc_core_look.proofs.locals.same_path.Goals as goal

-- what is read past an end
abbrev past : PathPart
past = Member (record { 0 = 0 })

pub loop-i-preserved : goal.loop-i-preserved
loop-i-preserved c =
    let a = c.args.a.now in let b = c.args.b.now in let i = c.loop-i.i in
    let e = c.loop-i.invariant.1 in
    let g : i < length a = omega arith in
    let h : i < length b = omega (arith, e) in
    let x = get_or a i past in let y = get_or b i past in
    (path_on a b i x y g h (inside a i past x g) (inside b i past y h) c.loop-i.same c.same_part.result c.both-same.result c.loop-i.invariant.0 c.same_part.ensures c.both-same.ensures, e)
