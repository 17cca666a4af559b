-- Designs of which ports and processes meet signals and ports of the top, and in which no two objects stand at one path but a pointer and what `new` made for it
-- (IEEE 1666-2011, 4.1, 5.2, 6.12).
use Rattle.std.specs.Prelude.{◌≡◌, ℕ, ◌<◌, ◌^◌, Bool, true, false, List, [], ◌∷◌, Option, Some, None, option_and_then, is_some, slice_get}
use Rattle.scc_bits_kinds.specs.declared.kind.Kind.{Kind}
use Rattle.scc_bits_kinds.specs.Kinds.{width_of}
use Rattle.scc_semantics.specs.Location.{Part}
use Rattle.scc_elab_spec.specs.Design.{Design, Object, Process, Node, Port, Signal, Variable, Edge, Reset}
use Rattle.scc_elab_spec.specs.Cells.{is_top, parent}
use Rattle.scc_elab_growth_laws.specs.Apart.{StandApart}

module _ (d : Design) where
  -- a signal, or a port of the top
  abbrev pub is_root_node : List Part → Node → Bool
  is_root_node path (Signal k) = true
  is_root_node path (Port k output r) = is_top (parent d path)
  is_root_node path n = false

  abbrev pub is_root_object : Option Object → Bool
  is_root_object None = false
  is_root_object (Some o) = is_root_node o.path o.node

  abbrev pub IsRootAt : ℕ → Type 0
  IsRootAt n = is_root_object (slice_get d.objects n) ≡ true

  abbrev pub AllRootsAt : List ℕ → Type 0
  AllRootsAt [] = Unit {0}
  AllRootsAt (n ∷ ns) = IsRootAt n × AllRootsAt ns

  -- the kind that an object's node says
  abbrev pub kind_of_node : Node → Option Kind
  kind_of_node (Port k output r) = Some k
  kind_of_node (Signal k) = Some k
  kind_of_node (Variable k w) = Some k
  kind_of_node n = None

  abbrev pub kind_at : ℕ → Option Kind
  kind_at n = option_and_then (λ (o : Object). kind_of_node o.node) (slice_get d.objects n)

  pub record IsLaidOut : Type 0 where
    pub apart : StandApart d
    -- a port's root is of its kind
    pub ports : (n : ℕ) (o : Object) (k : Kind) (output : Bool) (r : ℕ) → slice_get d.objects n ≡ Some o → o.node ≡ Port k output r → IsRootAt r × (kind_at r ≡ Some k)
    -- a variable holds a word of its kind
    pub words : (n : ℕ) (o : Object) (k : Kind) (w : ℕ) → slice_get d.objects n ≡ Some o → o.node ≡ Variable k w → w < 2 ^ width_of k
    pub senses : (i : ℕ) (q : Process) → slice_get d.processes i ≡ Some q → AllRootsAt q.senses
    pub edges : (i : ℕ) (q : Process) (e : Edge) → slice_get d.processes i ≡ Some q → q.edge ≡ Some e → IsRootAt e.root
    -- a reset is one of a thread, which has a clock
    pub resets : (i : ℕ) (q : Process) (r : Reset) → slice_get d.processes i ≡ Some q → q.reset ≡ Some r → IsRootAt r.root × (q.is_thread ≡ true)
    pub threads : (i : ℕ) (q : Process) → slice_get d.processes i ≡ Some q → q.is_thread ≡ true → is_some q.edge ≡ true
