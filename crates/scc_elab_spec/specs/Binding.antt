-- Bindings, processes and sensitivities in a constructor (IEEE 1666-2011, 4.1.3, 5.2.9, 5.2.13: resets, 5.2.14: `sensitive`, 5.2.15: `dont_initialize`, 5.12: ports).
use Rattle.std.specs.Prelude.{ℕ, zero, suc, Bool, true, false, not, ◌&&◌, ◌||◌, nat_eq, List, [], ◌∷◌, ◌++◌, Option, Some, None, option_map, option_and_then, slice_get, unwrap_or, is_some, if◌then◌else◌}
use Rattle.std.specs.List.{list_any}
use Rattle.scc_base.specs.declared.refusal.Place.{Place}
use Rattle.scc_base.specs.declared.code.Code.TheVariants as reason
use Rattle.scc_bits_kinds.specs.declared.kind.Kind.{Kind}
use Rattle.scc_bits_kinds.specs.declared.kind.Kind.TheVariants as kind
use Rattle.scc_semantics.specs.Location.{Part, same_path}
use Rattle.scc_core_spec.specs.First.{refused, refused_beside}
use Rattle.scc_core_spec.specs.Resolved.{Tried, Made, Stopped, and_made, made_map}
use Rattle.scc_elab_spec.specs.Term.{Left}
use Rattle.scc_elab_spec.specs.Program.{Sense, Function}
use Rattle.scc_elab_spec.specs.Design.{Node, Port, Signal}
use Rattle.scc_elab_spec.specs.Cells.{parent_among}
use Rattle.scc_elab_spec.specs.Grown.{Grown, Bound, Item, ResetItem, Declared, thing_at, node_of, with_bound, with_declared}
use Rattle.scc_elab_spec.specs.Worth.{Site, spot}

-- the path of the module object around a path, None for the top's own
abbrev pub home : Grown → List Part → Option (List Part)
home g path = option_map (λ o. o.path) (parent_among path None g.objects)

abbrev pub same_home : Option (List Part) → Option (List Part) → Bool
same_home (Some p) (Some q) = same_path p q
same_home None None = true
same_home p q = false

abbrev pub is_top : Option (List Part) → Bool
is_top (Some []) = true
is_top p = false

abbrev pub path_of : Grown → ℕ → List Part
path_of g n = unwrap_or (option_map (λ o. o.path) (slice_get g.objects n)) []

-- the same kind of number
abbrev pub same_kind : Kind → Kind → Bool
same_kind kind.Bool kind.Bool = true
same_kind (kind.Native w s) (kind.Native v t) = nat_eq w v && same_sign s t
  where
    same_sign : Bool → Bool → Bool
    same_sign true b = b
    same_sign false b = not b
same_kind (kind.Int w) (kind.Int v) = nat_eq w v
same_kind (kind.Uint w) (kind.Uint v) = nat_eq w v
same_kind (kind.Big w) (kind.Big v) = nat_eq w v
same_kind (kind.BigInt w) (kind.BigInt v) = nat_eq w v
same_kind (kind.Bv w) (kind.Bv v) = nat_eq w v
same_kind j k = false

-- A port takes a signal, or a port of the module around its module; an output no input.
abbrev pub may_bind : Grown → (port_home : Option (List Part)) → Kind → (output : Bool) → ℕ → Option Node → Bool
may_bind g at k output n (Some (Signal j)) = same_kind k j
may_bind g at k output n (Some (Port j out root)) = same_kind k j && (same_home (home g (path_of g n)) (option_and_then (home g) at) && (not output || out))
may_bind g at k output n _ = false

abbrev pub bound_of : Grown → ℕ → Option Bound
bound_of g n = g.bound n

-- what is bound again names the first binding (E402); else what may not be bound (E403)
abbrev pub binding : Grown → Place → ℕ → Option ℕ → Option Node → Option Bound → Tried Grown
binding g p n to (Some (Port k output root)) (Some b) = Stopped (refused_beside reason.BoundTwice p b.place)
binding g p n (Some m) (Some (Port k output root)) None = let at = home g (path_of g n) in
    if not (is_top at) && may_bind g at k output m (node_of g m) then Made (with_bound g (record { port = n; to = m; place = p })) else Stopped (refused reason.BindKind p)
binding g p n to _ b = Stopped (refused reason.BindKind p)

-- what a port is bound to
abbrev pub bound_thing : Site → Option Left → Tried (Option ℕ)
bound_thing s None = Made None
bound_thing s (Some l) = made_map (λ o. option_and_then (thing_at s.now) o) (spot s false true l)

-- binding what names no object does nothing
abbrev pub bind_at : Grown → Place → Option ℕ → Option ℕ → Tried Grown
bind_at g p None m = Made g
bind_at g p (Some n) m = binding g p n m (node_of g n) (bound_of g n)

abbrev pub bind : Site → Place → Left → Option Left → Tried Grown
bind s p port to = and_made (spot s false true port) (λ o. and_made (bound_thing s to) (bind_at s.now p (option_and_then (thing_at s.now) o)))

-- the port or signal that a location names, None where it names another thing or none
abbrev pub is_channel : Option Node → Bool
is_channel (Some (Signal k)) = true
is_channel (Some (Port k o r)) = true
is_channel n = false

abbrev pub channel_if : Grown → Option ℕ → Option ℕ
channel_if g None = None
channel_if g (Some n) = if is_channel (node_of g n) then Some n else None

abbrev pub channel : Site → Option Left → Tried (Option ℕ)
channel s None = Made None
channel s (Some l) = made_map (λ o. channel_if s.now (option_and_then (thing_at s.now) o)) (spot s false true l)

abbrev pub item_of : Site → Sense → Tried Item
item_of s i = made_map (λ n. record { place = i.place; signal = n; rising = i.rising }) (channel s i.signal)

abbrev pub items_of : Site → List Sense → Tried (List Item)
items_of s [] = Made []
items_of s (i ∷ is) = and_made (item_of s i) (λ x. made_map (λ xs. x ∷ xs) (items_of s is))

abbrev pub edge_items : Site → Option Sense → Tried (List Item)
edge_items s None = Made []
edge_items s (Some i) = made_map (λ x. x ∷ []) (item_of s i)

-- the process of that number with another entry
abbrev pub changed_at : ℕ → (Declared → Declared) → List Declared → List Declared
changed_at n f [] = []
changed_at zero f (d ∷ ds) = f d ∷ ds
changed_at (suc n) f (d ∷ ds) = d ∷ changed_at n f ds

abbrev pub with_items : List Item → Declared → Declared
with_items is d = record { object = d.object; function = d.function; place = d.place; is_thread = d.is_thread; items = d.items ++ is; resets = d.resets }

abbrev pub with_reset : ResetItem → Declared → Declared
with_reset r d = record { object = d.object; function = d.function; place = d.place; is_thread = d.is_thread; items = d.items; resets = d.resets ++ r ∷ [] }

-- a process runs a function without parameters and result, once for an object (E404)
abbrev pub may_run : Option Function → Bool
may_run None = false
may_run (Some f) = nat_eq f.params 0 && not (is_some f.result)

abbrev pub runs_already : Grown → ℕ → ℕ → Bool
runs_already g object function = list_any (λ d. nat_eq d.object object && nat_eq d.function function) g.declared

abbrev pub declare : Site → Place → Bool → ℕ → Option Sense → Tried Grown
declare s p thread function edge = if not (may_run (slice_get s.plain.functions function)) || runs_already s.now s.object function then Stopped (refused reason.Constructor p)
    else made_map (λ items. with_declared s.now (s.now.declared ++ record { object = s.object; function = function; place = p; is_thread = thread; items = items; resets = [] } ∷ [])) (edge_items s edge)
