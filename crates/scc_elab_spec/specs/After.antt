-- What is looked for after the run of the top's constructor: construction in other functions (E404), ports without a binding (E401), then process by
-- process its sensitivity and resets (E406), its clock (E407, E413) and a missing reset (E409). IEEE 1666-2011, 5.2.9 to 5.2.14, and
-- 6.9 for the edges of `sc_in<bool>`; this project's own choice of what is allowed.
use Rattle.std.specs.Prelude.{ℕ, zero, suc, Bool, true, false, not, ◌&&◌, ◌||◌, nat_eq, nat_le, List, [], ◌∷◌, ◌++◌, filter, length, Option, Some, None, option_map, option_and_then, unwrap_or, find, is_some, if◌then◌else◌}
use Rattle.std.specs.List.{list_any}
use Rattle.scc_base.specs.declared.refusal.Place.{Place}
use Rattle.scc_base.specs.declared.refusal.Refusal.{Refusal}
use Rattle.scc_base.specs.declared.code.Code.TheVariants as reason
use Rattle.scc_bits_kinds.specs.Kinds.{is_bool}
use Rattle.scc_core_spec.specs.First.{or_else, first_of, first_numbered, first_some, when, refused, refused_beside}
use Rattle.scc_elab_spec.specs.Program.{Code, End, Declare, Assign, Point, Write, Call, If, Loop, Block, Exit, Return, Wait, Make, Bind, Process, Sensitive, Quiet, Reset, Plain}
use Rattle.scc_elab_spec.specs.Design.{Node, Port, Signal}
use Rattle.scc_elab_spec.specs.Types.{is_constructor}
use Rattle.scc_elab_spec.specs.Grown.{Grown, Declared, Item, ResetItem, node_of}
use Rattle.scc_elab_spec.specs.Binding.{home, is_top, path_of, bound_of}

-- the first statement of construction
abbrev pub constructing : Code → Option Place
constructing End = None
constructing (Declare p n r) = constructing r
constructing (Assign p l k e r) = constructing r
constructing (Point p l t r) = constructing r
constructing (Write p l e r) = constructing r
constructing (Call p n f o args r) = constructing r
constructing (If p t a b r) = first_some (constructing a ∷ constructing b ∷ constructing r ∷ [])
constructing (Loop p c b r) = or_else (constructing b) (constructing r)
constructing (Block p b r) = or_else (constructing b) (constructing r)
constructing (Exit p d r) = constructing r
constructing (Return p v r) = constructing r
constructing (Wait p n r) = constructing r
constructing (Make p l base args r) = Some p
constructing (Bind p port to r) = Some p
constructing (Process p t f e r) = Some p
constructing (Sensitive p items r) = Some p
constructing (Quiet p r) = Some p
constructing (Reset p s e a r) = Some p

abbrev pub misplaced : Plain → Option Refusal
misplaced p = first_numbered (λ n f. if is_constructor p f n then None else option_map (refused reason.Constructor) (constructing f.body)) 0 p.functions

abbrev pub is_port : Node → Bool
is_port (Port k o r) = true
is_port n = false

abbrev pub unbound : Grown → Option Refusal
unbound g = first_numbered (λ n o. when (is_port o.node && (not (is_top (home g o.path)) && not (is_some (bound_of g n)))) (refused reason.Unbound o.place)) 0 g.objects

-- The root of a port is the end of its chain of bindings; each step leads out of a module, so a chain has no more ports than the first one's path has parts.
abbrev pub root_from : Grown → ℕ → ℕ → ℕ
root_from g zero n = n
root_from g (suc left) n = unwrap_or (option_map (λ b. root_from g left b.to) (bound_of g n)) n

abbrev pub root : Grown → ℕ → ℕ
root g n = root_from g (length (path_of g n)) n

-- an input of the top of kind `bool`
abbrev pub is_clock_node : Option Node → Bool
is_clock_node (Some (Port k false r)) = is_bool k
is_clock_node n = false

abbrev pub is_top_input : Grown → ℕ → Bool
is_top_input g n = is_clock_node (node_of g n) && is_top (home g (path_of g n))

abbrev pub edges : Declared → List Item
edges d = filter (λ i. is_some i.rising) d.items

abbrev pub levels : Declared → List Item
levels d = filter (λ i. not (is_some i.rising)) d.items

-- a thread has one edge and nothing else; a method has something, and an edge alone
abbrev pub is_sensitive : Declared → Bool
is_sensitive d = if d.is_thread then nat_eq (length (edges d)) 1 && nat_eq (length (levels d)) 0
    else not (nat_eq (length d.items) 0) && (nat_eq (length (edges d)) 0 || nat_eq (length d.items) 1)

abbrev pub is_bool_node : Option Node → Bool
is_bool_node (Some (Port k o r)) = is_bool k
is_bool_node (Some (Signal k)) = is_bool k
is_bool_node n = false

-- a reset is one of a thread, the first one, and a `bool`
abbrev pub bad_reset : Grown → Declared → ℕ → ResetItem → Option Refusal
bad_reset g d k r = when (not d.is_thread || (not (nat_eq k 0) || not (is_bool_node (option_and_then (node_of g) r.signal)))) (refused reason.Sensitivity r.place)

abbrev pub insensitive : Grown → Declared → Option Refusal
insensitive g d = first_some (when (not (is_sensitive d)) (refused reason.Sensitivity d.place)
    ∷ first_of (λ i. when (not (is_some i.signal)) (refused reason.Sensitivity i.place)) d.items
    ∷ first_numbered (bad_reset g d) 0 d.resets ∷ [])

-- the clock of a process: its root, direction, and where the process is declared
pub record Clock : Type 0 where
  pub root : ℕ
  pub rising : Bool
  pub place : Place

abbrev pub clock_by : Grown → Declared → List Item → Option Clock
clock_by g d [] = None
clock_by g d (i ∷ is) = option_map (λ n. record { root = root g n; rising = unwrap_or i.rising true; place = d.place }) i.signal

abbrev pub clock_of : Grown → Declared → Option Clock
clock_of g d = clock_by g d (edges d)

abbrev pub same_way : Bool → Bool → Bool
same_way true b = b
same_way false b = not b

-- with one clock every process has the first one's clock and edge; with several at most 128, each with one edge
abbrev pub first_clock : List Clock → Option Clock
first_clock [] = None
first_clock (c ∷ cs) = Some c

abbrev pub roots_once : List ℕ → List Clock → List ℕ
roots_once seen [] = seen
roots_once seen (c ∷ cs) = if list_any (nat_eq c.root) seen then roots_once seen cs else roots_once (c.root ∷ seen) cs

abbrev pub bad_clock : (many : Bool) → Grown → List Clock → Clock → Option Refusal
bad_clock many g before c = if not (is_top_input g c.root) then Some (refused reason.ClockPort c.place)
    else (if many then unwrap_or (option_map (λ b. when (not (same_way b.rising c.rising)) (refused_beside reason.ClockPort c.place b.place)) (find (λ b. nat_eq b.root c.root) before))
    (when (nat_le 128 (length (roots_once [] before))) (refused reason.TooManyClocks c.place))
    else unwrap_or (option_map (λ b. when (not (nat_eq b.root c.root && same_way b.rising c.rising)) (refused_beside reason.ClockPort c.place b.place)) (first_clock before)) None)

abbrev pub first_reset : List ResetItem → Option ResetItem
first_reset [] = None
first_reset (r ∷ rs) = Some r

-- an asynchronous reset is such an input, too
abbrev pub bad_asynchronous : Grown → Declared → Option Refusal
bad_asynchronous g d = unwrap_or (option_map (λ r. when (r.asynchronous && not (unwrap_or (option_map (λ n. is_top_input g (root g n)) r.signal) true)) (refused reason.ClockPort d.place)) (first_reset d.resets)) None

abbrev pub no_reset : Declared → Option Refusal
no_reset d = when (d.is_thread && not (is_some (first_reset d.resets))) (refused reason.NoReset d.place)

abbrev pub clocks_if : Option Clock → List Clock → List Clock
clocks_if None cs = cs
clocks_if (Some c) cs = cs ++ c ∷ []

-- process by process, with the clocks of those before
abbrev pub bad_process : Bool → Grown → List Clock → List Declared → Option Refusal
bad_process many g before [] = None
bad_process many g before (d ∷ ds) = or_else
    (first_some (insensitive g d ∷ option_and_then (bad_clock many g before) (clock_of g d) ∷ bad_asynchronous g d ∷ no_reset d ∷ []))
    (bad_process many g (clocks_if (clock_of g d) before) ds)

abbrev pub refused_after : Bool → Plain → Grown → Option Refusal
refused_after many p g = first_some (misplaced p ∷ unbound g ∷ bad_process many g [] g.declared ∷ [])
