-- A design and its copy have the same things, pointers, targets and fixed words.
use Rattle.std.proofs.Common.{◌≡◌, ℕ, List, Option, Some, None, is_some, slice_get, ap}
use Rattle.scc_semantics.specs.Location.{Location, Root, Part, same_root, same_path, same_part}
use Rattle.scc_semantics.specs.Location as location
use Rattle.scc_core_spec.specs.Source.{target_there}
use Rattle.scc_elab_spec.specs.Program.{Plain}
use Rattle.scc_elab_spec.specs.Design as design
use Rattle.scc_elab_spec.specs.Design.{Design, Object, Node, Module, Port, Signal, Variable, Pointer}
use Rattle.scc_elab_spec.specs.Meant.{thing_at, pointer_at, target_at, fixed_at}
use Rattle.scc_inline_spec.specs.Inlined.{too_large}
use Rattle.scc_inline_laws.specs.OrderlyDesign.{IsOrderly}
use Rattle.scc_inline_process_laws.specs.Whole.{spoken_design, copied_design}
use Rattle.scc_inline_laws.proofs.Found.{home, core}
use Rattle.scc_inline_laws.proofs.ObjectsSame.{top-thing, top-fixed, top-pointer, top-target}
use Rattle.scc_inline_laws.proofs.LocalsSame.{local-thing, local-fixed, local-pointer, local-target}
use Rattle.scc_inline_laws.proofs.ResultsSame.{answer-thing, answer-fixed, no-pointer}

module _ (p : Plain) (d : Design) (constant : Location → Option ℕ) (ord : IsOrderly p d) (small : (i : ℕ) (q : design.Process) → slice_get d.processes i ≡ Some q → too_large p d i q ≡ None) where
  thing-same : (r : Root) (path : List Part) → (copied_design p d constant).places.things (record { root = r; path = path }) ≡ thing_at p d r path
  thing-same location.Top path = top-thing p d constant ord small path
  thing-same (location.Local i cs n) path = local-thing p d constant ord small i cs n path
  thing-same (location.Answer i cs) path = answer-thing p d constant ord small i cs path

  pointer-same : (r : Root) (path : List Part) → (copied_design p d constant).places.pointers (record { root = r; path = path }) ≡ pointer_at p d r path
  pointer-same location.Top path = top-pointer p d constant ord small path
  pointer-same (location.Local i cs n) path = local-pointer p d constant ord small i cs n path
  pointer-same (location.Answer i cs) path = ap is_some (no-pointer p d constant ord small i cs path)

  target-same : (r : Root) (path : List Part) → (copied_design p d constant).targets (record { root = r; path = path }) ≡ target_at p d r path
  target-same location.Top path = top-target p d constant ord small path
  target-same (location.Local i cs n) path = local-target p d constant ord small i cs n path
  target-same (location.Answer i cs) path = ap (target_there (home p d) (core p d)) (no-pointer p d constant ord small i cs path)

  pub fixed-same : (r : Root) (path : List Part) → (copied_design p d constant).fixed (record { root = r; path = path }) ≡ fixed_at p d r path
  fixed-same location.Top path = top-fixed p d constant ord small path
  fixed-same (location.Local i cs n) path = local-fixed p d constant ord small i cs n path
  fixed-same (location.Answer i cs) path = answer-fixed p d constant ord small i cs path

  -- the same in both
  pub places-same : (copied_design p d constant).places ≡ (spoken_design p d constant).places
  places-same = λ z. record { things = λ l. thing-same l.root l.path z; pointers = λ l. pointer-same l.root l.path z }

  pub targets-same : (copied_design p d constant).targets ≡ (spoken_design p d constant).targets
  targets-same = λ z l. target-same l.root l.path z
