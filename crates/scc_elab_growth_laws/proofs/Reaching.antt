-- Constructors begin at sites that construction reaches, and their statements stay there.
use Rattle.std.proofs.Common.{◌≡◌, ℕ, ◌+◌, ◌-◌, ◌≤◌, List, length, Some, slice_get, refl, sym, subst, arith}
use Rattle.scc_base.specs.declared.refusal.Place.{Place}
use Rattle.scc_semantics.specs.Location.{Part}
use Rattle.scc_core_spec.specs.Resolved.{Made}
use Rattle.scc_elab_spec.specs.Program.{Plain, Class, Code}
use Rattle.scc_elab_spec.specs.Design.{Module}
use Rattle.scc_elab_spec.specs.Grown.{Grown, nothing, added}
use Rattle.scc_elab_spec.specs.Worth.{Site, at_now}
use Rattle.scc_elab_spec.specs.Construct.{Now, Fell, ran, most_turns}
use Rattle.scc_elab_spec.specs.Made.{making, function_of, site_of, built}
use Rattle.scc_elab_growth_laws.specs.Changes.{Add, Grows, with_object}
use Rattle.scc_elab_growth_laws.specs.Reached.{IsReached}
use Rattle.scc_elab_growth_laws.proofs.Sites.{of-kept}
use Rattle.scc_elab_growth_laws.proofs.Growth.{grows-then, grows-one, IsIn, in-kept}
use Rattle.scc_elab_growth_laws.proofs.Keeping.{RanCalm}
use Rattle.scc_elab_growth_laws.proofs.Parts.{added-is}
use Rattle.scc_elab_growth_laws.proofs.Running.{ran-same}
use Rattle.scc_elab_growth_laws.proofs.Building.{slice_get-last, making-same}
use Rattle.scc_elab_growth_laws.proofs.Objects.{built-same}

pub begins : (p : Plain) (c : Class) (k : ℕ) (g h : Grown) (path : List Part) (q : Place) → Grows p nothing g → slice_get p.classes k ≡ Some c → added g path q (Module k) ≡ Made h → IsReached (site_of p (function_of p c) (length h.objects - 1) path h)
begins p c k g h path q grows known e = let a = added-is p g path q (Module k) (c, known) h e in let m : Grown = with_object g path q (Module k) in
    subst (λ (z : Grown). IsReached (site_of p (function_of p c) (length z.objects - 1) path z)) (sym a.0) (record {
      grows = grows-then grows (grows-one (Add path q (Module k)) a.1);
      ours = record { object = record { path = path; place = q; node = Module k }; number = k; class = c; there = slice_get-last g.objects (record { path = path; place = q; node = Module k }); node = refl; known = known; function = refl };
    })

least : (n : ℕ) → 0 ≤ n
least n = omega arith

itself : (n : ℕ) → n ≤ n
itself n = omega arith

pub stays : (s : Site) (levels : ℕ) (c : Code) (n m : Now) → 65537 ≤ levels + length n.grown.objects → IsReached (at_now s n.grown) → ran (making (built s.plain levels)) s c n ≡ Fell m → IsReached (at_now s m.grown)
stays s levels c n m enough reached e =
    let p : Plain = s.plain in
    let start : IsIn 0 0 nothing = record { low = omega arith; high = omega arith; least = omega arith; most = omega arith } in
    let within : IsIn 0 0 n.grown = in-kept 0 0 reached.grows start in
    let low : ℕ = length n.grown.objects in
    let here : IsIn low 0 n.grown = record { low = itself low; high = within.high; least = least n.grown.turns; most = within.most } in
    let same = making-same p low (built p levels) (built p levels) (λ g path q k args i. built-same p levels levels low enough enough g path q k args i) in
    let r = ran-same s low most_turns most_turns (omega arith) (omega arith) (making (built p levels)) (making (built p levels)) same c n (reached.ours, here) in
    let grows = (subst (RanCalm p n.grown) e r.1).0 in
    record { grows = grows-then reached.grows grows; ours = of-kept grows s.function s.object reached.ours }
