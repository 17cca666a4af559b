-- A plain program with its design as a design that runs (IEEE 1666-2011, 4.1, 4.2, 5.2; ISO C++ [expr.call], [dcl.ref]): its
-- objects and locals as things at locations.
use Rattle.std.specs.Prelude.{ℕ, Bool, true, false, not, ◌&&◌, List, [], map, filter_map, Option, Some, None, option_map, option_and_then, slice_get, unwrap_or, find, is_some, if◌then◌else◌}
use Rattle.scc_semantics.specs.Location.{Location, Part, Element, Root, Top, Answer, same_path}
use Rattle.scc_semantics.specs.Location as location
use Rattle.scc_semantics.specs.Places as thing
use Rattle.scc_semantics.specs.Places.{Thing}
use Rattle.scc_semantics.specs.Design as running
use Rattle.scc_elab_spec.specs.Program.{Base, Number, Function, Plain, Member}
use Rattle.scc_elab_spec.specs.Design as design
use Rattle.scc_elab_spec.specs.Design.{Design, Object, Node}
use Rattle.scc_elab_spec.specs.Types.{is_direct}
use Rattle.scc_elab_spec.specs.Cells.{parent, is_top, is_fixed, path_of}
use Rattle.scc_elab_spec.specs.Numbering.{function_at}
use Rattle.scc_elab_spec.specs.Worth.{is_inside}
use Rattle.scc_elab_spec.specs.Spoken.{function_body}

module _ (p : Plain) (d : Design) where
  abbrev pub at_path : List Part → Location
  at_path path = record { root = Top; path = path }

  abbrev pub is_number : Node → Bool
  is_number (design.Module c) = false
  is_number (design.Pointer t) = false
  is_number n = true

  abbrev pub is_pointer : Node → Bool
  is_pointer (design.Pointer t) = true
  is_pointer n = false

  abbrev pub object_there : (Node → Bool) → List Part → Option Object
  object_there test path = find (λ o. test o.node && same_path o.path path) d.objects

  abbrev pub thing_of : Object → Node → Option Thing
  thing_of o (design.Port k output root) = Some (if is_top (parent d o.path) then thing.Signal k else thing.Port k (at_path (path_of d root)))
  thing_of o (design.Signal k) = Some (thing.Signal k)
  thing_of o (design.Variable k w) = Some (thing.Number k)
  thing_of o n = None

  -- the function of a local or result of process i
  abbrev pub function_of : ℕ → List ℕ → Option Function
  function_of i cs = option_and_then (λ q. option_and_then (slice_get p.functions) (function_at p q.function cs)) (slice_get d.processes i)

  abbrev pub local_of : ℕ → List ℕ → ℕ → List Part → Option Member
  local_of i cs n path = option_and_then (λ m. if is_inside m.shape.sizes path then Some m else None) (option_and_then (λ f. slice_get f.locals n) (function_of i cs))

  abbrev pub number_there : Member → Base → Option Thing
  number_there m (Number k) = if is_direct m.shape.reach then Some (thing.Number k) else None
  number_there m b = None

  abbrev pub thing_at : Root → List Part → Option Thing
  thing_at Top path = option_and_then (λ o. thing_of o o.node) (object_there is_number path)
  thing_at (location.Local i cs n) path = option_and_then (λ m. number_there m m.shape.base) (local_of i cs n path)
  thing_at (Answer i cs) [] = option_map thing.Number (option_and_then (λ f. f.result) (function_of i cs))
  thing_at (Answer i cs) path = None

  abbrev pub pointer_at : Root → List Part → Bool
  pointer_at Top path = is_some (object_there is_pointer path)
  pointer_at (location.Local i cs n) path = unwrap_or (option_map (λ m. not (is_direct m.shape.reach)) (local_of i cs n path)) false
  pointer_at (Answer i cs) path = false

  abbrev pub word_of : Object → Node → Option ℕ
  word_of o (design.Variable k w) = if is_fixed p d o.path then Some w else None
  word_of o n = None

  abbrev pub fixed_at : Root → List Part → Option ℕ
  fixed_at Top path = option_and_then (λ o. word_of o o.node) (object_there is_number path)
  fixed_at r path = None

  abbrev pub is_pointer_number : ℕ → Bool
  is_pointer_number n = unwrap_or (option_map (λ o. is_pointer o.node) (slice_get d.objects n)) false

  abbrev pub target_at : Root → List Part → Option Location
  target_at Top path = option_map (λ t. at_path t.path) (find (λ t. same_path (path_of d t.object) path && is_pointer_number t.object) d.targets)
  target_at r path = None

  abbrev pub port_of : Object → Node → Option running.TopPort
  port_of o (design.Port k output root) = if is_top (parent d o.path) then Some (record { location = at_path o.path; direction = if output then running.Output else running.Input }) else None
  port_of o n = None

  abbrev pub sort_of : design.Process → Bool → Option design.Edge → thing.Sort
  sort_of q true (Some e) = thing.Thread (record { clock = at_path (path_of d e.root); rising = e.rising })
      (option_map (λ r. record { root = at_path (path_of d r.root); level = r.level; asynchronous = r.asynchronous }) q.reset)
  sort_of q false (Some e) = thing.Clocked (record { clock = at_path (path_of d e.root); rising = e.rising })
  sort_of q b None = thing.Combinational (map (λ n. at_path (path_of d n)) q.senses)

  -- what no process writes is said of the design, as it is read off the resolved core
  abbrev pub design_of : (Location → Option ℕ) → running.Design
  design_of constant = record {
    places = record { things = λ l. thing_at l.root l.path; pointers = λ l. pointer_at l.root l.path };
    functions = function_body p;
    ports = filter_map (λ o. port_of o o.node) d.objects;
    fixed = λ l. fixed_at l.root l.path;
    constant = constant;
    targets = λ l. target_at l.root l.path;
    processes = map (λ q. record { object = at_path (path_of d q.object); sort = sort_of q q.is_thread q.edge; body = function_body p q.function }) d.processes;
  }
