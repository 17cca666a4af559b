-- Where no number stands only 0 is held, and where no pointer stands only null.
use Rattle.std.proofs.Common.{◌≡◌, false, ◌||◌, None, is_some, ap, refl, sym, ◌∙◌}
use Rattle.scc_semantics.specs.Location.{Location}
use Rattle.scc_elab_spec.specs.Program.{Plain}
use Rattle.scc_elab_spec.specs.Grown.{Grown, pointer_at}
use Rattle.scc_elab_spec.specs.Worth.{Site}
use Rattle.scc_elab_spec.specs.Common.{IsRegular}
use Rattle.scc_elab_spec.proofs.Regular.{changed-at}
use Rattle.scc_elab_growth_laws.specs.Sites.{kind_in, points, points_in}
use Rattle.scc_elab_growth_laws.specs.Changes.{Change, Word, Aim, New, Vector, Turn, Bind, Process, Items, Reset, Add, changed_by, IsAllowed, Grows}
use Rattle.scc_elab_growth_laws.specs.Reached.{IsReached}
use Rattle.scc_elab_growth_laws.proofs.Growth.{kept, grows-one}
use Rattle.scc_elab_growth_laws.proofs.Sites.{no-kind, no-points, local-ours, kind-ours}

record Holds (p : Plain) (g : Grown) : Type 0 where
  words : (l : Location) → kind_in p g l ≡ None → g.store.words l ≡ 0
  targets : (l : Location) → points_in p g l ≡ false → g.store.targets l ≡ None

holds-step : (p : Plain) (h : Grown) (c : Change) → IsAllowed p h c → Holds p h → Holds p (changed_by c h)
holds-step p h (Word l w) a i = record { words = λ m e. changed-at l w h.store.words m 0 (λ same. a (ap (kind_in p h) same ∙ e)) (i.words m e); targets = i.targets }
holds-step p h (Aim l t) a i = record { words = i.words; targets = λ m e. changed-at l t h.store.targets m None (λ same. a.1 (ap (points_in p h) same ∙ e)) (i.targets m e) }
holds-step p h (Add path place node) a i =
    let grows : Grows p h (changed_by (Add path place node) h) = grows-one (Add path place node) a in
    record { words = λ m e. i.words m (no-kind grows m e); targets = λ m e. i.targets m (no-points grows m e) }
holds-step p h (New path) a i = record { words = i.words; targets = i.targets }
holds-step p h (Vector path n) a i = record { words = i.words; targets = i.targets }
holds-step p h Turn a i = record { words = i.words; targets = i.targets }
holds-step p h (Bind b) a i = record { words = i.words; targets = i.targets }
holds-step p h (Process d) a i = record { words = i.words; targets = i.targets }
holds-step p h (Items k is) a i = record { words = i.words; targets = i.targets }
holds-step p h (Reset k r) a i = record { words = i.words; targets = i.targets }

pub regular : (s : Site) → IsReached s → IsRegular s
regular s i = record {
  words = λ l e. holds.words l (sym (kind-ours s i.ours l) ∙ e);
  targets = λ l e. holds.targets l (ap (λ m. is_some (pointer_at s.now l) || points m) (sym (local-ours s i.ours l l.root)) ∙ e);
}
  where
    holds : Holds s.plain s.now
    holds = kept (Holds s.plain) (holds-step s.plain) i.grows (record { words = λ l e. refl; targets = λ l e. refl })
