-- What the law of copied bodies asks of a program and its design, as a test. This project's own.
use Rattle.std.specs.Prelude.{ℕ, suc, Bool, true, false, not, ◌&&◌, ◌||◌, nat_eq, List, [], ◌∷◌, Option, Some, None, is_some, find, option_map, slice_get, unwrap_or}
use Rattle.std.specs.List.{list_all, list_any}
use Rattle.scc_semantics.specs.Location.{same_path}
use Rattle.scc_elab_spec.specs.Program.{Function, Plain}
use Rattle.scc_elab_spec.specs.Design as design
use Rattle.scc_elab_spec.specs.Design.{Design, Object, Node, Pointer, Edge, Reset, is_module}
use Rattle.scc_elab_spec.specs.Meant.{is_pointer}
use Rattle.scc_inline_spec.specs.Inlined.{process_path}
use Rattle.scc_inline_counter_laws.specs.Even.{are_even}
use Rattle.scc_inline_orderly_laws.specs.Test.{is_orderly_function}
use Rattle.scc_inline_orderly_laws.specs.Reached.{among, reached, is_closed}

-- of no two of them this is true
abbrev pub differ : {A : Type 0} → (A → A → Bool) → List A → Bool
differ clash [] = true
differ clash (x ∷ xs) = not (list_any (λ y. clash x y || clash y x) xs) && differ clash xs

module _ (p : Plain) (d : Design) where
  -- a signal or port by its number
  abbrev pub is_thing : ℕ → Bool
  is_thing n = unwrap_or (option_map (λ o. not (is_module o.node)) (slice_get d.objects n)) false

  abbrev pub is_edge : Option Edge → Bool
  is_edge None = true
  is_edge (Some e) = is_thing e.root

  abbrev pub is_reset : Option Reset → Bool
  is_reset None = true
  is_reset (Some r) = is_thing r.root

  abbrev pub is_none : {A : Type 0} → Option A → Bool
  is_none None = true
  is_none (Some x) = false

  -- a process gives no result
  abbrev pub is_silent : Option Function → Bool
  is_silent None = false
  is_silent (Some f) = is_none f.result

  abbrev pub is_orderly_at : ℕ → Bool
  is_orderly_at f = unwrap_or (option_map (is_orderly_function p) (slice_get p.functions f)) true

  -- the functions that a process's calls lead to
  abbrev pub are_orderly : ℕ → List ℕ → Bool
  are_orderly f fs = among f fs && (is_closed p fs && list_all is_orderly_at fs)

  abbrev pub is_orderly_process : design.Process → Bool
  is_orderly_process q = is_silent (slice_get p.functions q.function)
      && (are_orderly q.function (reached p q.function) && (list_all is_thing q.senses && (is_edge q.edge && is_reset q.reset)))

  abbrev pub same_process : design.Process → design.Process → Bool
  same_process q r = same_path (process_path p d q) (process_path p d r)

  abbrev pub same_pointer : Object → Object → Bool
  same_pointer o u = is_pointer p d o.node && (is_pointer p d u.node && same_path o.path u.path)

  -- a pointer that isn't null has its target
  abbrev pub has_target : ℕ → Node → Bool
  has_target n (Pointer (Some r)) = is_some (find (λ t. nat_eq t.object n) d.targets)
  has_target n v = true

  abbrev pub have_targets : ℕ → List Object → Bool
  have_targets n [] = true
  have_targets n (o ∷ os) = has_target n o.node && have_targets (suc n) os

  abbrev pub is_orderly : Bool
  is_orderly = list_all is_orderly_process d.processes && (differ same_process d.processes && (differ same_pointer d.objects && (are_even p d 0 d.processes && have_targets 0 d.objects)))
