-- The design that a tree denotes.
use Rattle.std.specs.Prelude.{ℕ, ◌+◌, List, [], ◌∷◌, ◌++◌, map, flat_map, length, Option, Some, None, if◌then◌else◌, nat_le, nat_eq, Bool, true, false, not, ◌&&◌, ◌||◌, position, bytes_eq, slice_get}
use Rattle.std.specs.List.{list_all, list_any}
use Rattle.scc_thin.specs.declared.thin.tree.Group.{Group}
use Rattle.scc_thin.specs.declared.thin.tree.Read.{Read}
use Rattle.scc_thin.specs.declared.thin.tree.Write.{Write}
use Rattle.scc_thin.specs.declared.thin.tree.Tree.{Tree}
use Rattle.scc_thin.specs.declared.design.Design.{Design}
use Rattle.scc_thin.specs.declared.design.Port.{Port}
use Rattle.scc_thin.specs.declared.design.Put.{Put}
use Rattle.scc_thin.specs.declared.design.Second.{Second}
use Rattle.scc_thin.specs.Gives.{◌>>=◌, each}
use Rattle.scc_thin.specs.Reserved.{is_reserved}

abbrev pub port_of : Bool → ℕ → List ℕ → Port
port_of output width name = record { name = name; output = output; width = width }

abbrev pub group_ports : Group → List Port
group_ports g = map (port_of g.output g.width) g.names

abbrev pub ports_of : List Group → List Port
ports_of groups = flat_map group_ports groups

abbrev pub names_of : List Port → List (List ℕ)
names_of ports = map (λ p. p.name) ports

-- each name is none of those before it
abbrev pub are_new_names : List (List ℕ) → List (List ℕ) → Bool
are_new_names before [] = true
are_new_names before (n ∷ ns) = not (list_any (bytes_eq n) before) && are_new_names (before ++ n ∷ []) ns

abbrev pub are_new_numbers : List ℕ → List ℕ → Bool
are_new_numbers before [] = true
are_new_numbers before (n ∷ ns) = not (list_any (nat_eq n) before) && are_new_numbers (before ++ n ∷ []) ns

abbrev pub is_free : List ℕ → Bool
is_free name = not (is_reserved name)

abbrev pub are_free : List ℕ → List ℕ → List Port → Bool
are_free top function ports = is_free top && is_free function && list_all (λ p. is_free p.name) ports

-- the top and the function have other names than the ports and than each other
abbrev pub are_others : List (List ℕ) → List ℕ → List ℕ → Bool
are_others names top function = not (list_any (bytes_eq top) names) && not (list_any (bytes_eq function) names) && not (bytes_eq top function)

-- the ports' names, where all names differ and none is reserved
unfoldable pub named_of : List ℕ → List ℕ → List Port → Option (List (List ℕ))
named_of top function ports =
    if are_new_names [] (names_of ports) then (if are_others (names_of ports) top function then (if are_free top function ports then Some (names_of ports) else None) else None) else None

abbrev pub output_of : Option Port → Bool
output_of None = false
output_of (Some p) = p.output

abbrev pub is_output_at : List Port → ℕ → Bool
is_output_at ports i = output_of (slice_get ports i)

-- the number of the input, or of the output, of a name
unfoldable pub input_named : List Port → List ℕ → Option ℕ
input_named ports name = position (bytes_eq name) (names_of ports) >>= (λ i. if is_output_at ports i then None else Some i)

unfoldable pub output_named : List Port → List ℕ → Option ℕ
output_named ports name = position (bytes_eq name) (names_of ports) >>= (λ i. if is_output_at ports i then Some i else None)

abbrev pub second_of : List Port → Option Read → Option (Option Second)
second_of ports None = Some None
second_of ports (Some r) = input_named ports r.port >>= (λ i. Some (Some (record { op = r.op; port = i })))

unfoldable pub put_of : List Port → Write → Option Put
put_of ports w = output_named ports w.target >>= (λ t. input_named ports w.first >>= (λ f. second_of ports w.second >>= (λ s. Some (record { target = t; first = f; second = s }))))

-- what is read stands in the sensitivity
abbrev pub second_is_sensed : List ℕ → Option Second → Bool
second_is_sensed senses None = true
second_is_sensed senses (Some s) = list_any (nat_eq s.port) senses

abbrev pub is_sensed : List ℕ → Put → Bool
is_sensed senses p = list_any (nat_eq p.first) senses && second_is_sensed senses p.second

-- each output, numbered from here on, is among the targets
abbrev pub are_written : List ℕ → ℕ → List Port → Bool
are_written targets i [] = true
are_written targets i (p ∷ ps) = (not p.output || list_any (nat_eq i) targets) && are_written targets (i + 1) ps

abbrev pub targets_of : List Put → List ℕ
targets_of puts = map (λ p. p.target) puts

-- the sensitivity names each port once, and all that are read, and each output is written exactly once
unfoldable pub is_complete : List Port → List ℕ → List Put → Bool
is_complete ports senses puts =
    are_new_numbers [] senses && list_all (is_sensed senses) puts && are_new_numbers [] (targets_of puts) && are_written (targets_of puts) 0 ports

-- the names agree: the class is the top in both places, the process is the function
abbrev pub agrees : List ℕ → Tree → Bool
agrees top t = bytes_eq t.head.top top && bytes_eq t.constructor.class top && bytes_eq t.constructor.method t.body.function

unfoldable pub design_of : List ℕ → Tree → Option Design
design_of top t =
    if nat_le (length (ports_of t.head.groups)) 1000 && agrees top t
    then (named_of top t.body.function (ports_of t.head.groups) >>= (λ names.
    each (input_named (ports_of t.head.groups)) t.constructor.senses >>= (λ senses.
    each (put_of (ports_of t.head.groups)) t.body.writes >>= (λ puts.
    if is_complete (ports_of t.head.groups) senses puts then Some (record { top = top; ports = ports_of t.head.groups; senses = senses; puts = puts }) else None))))
    else None
