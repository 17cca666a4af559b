-- Whether statements are whole. They are gone through in their order, with the functions that are called so far, and with the number of
-- blocks that stand round them. This project's own.
use Rattle.std.specs.Prelude.{ℕ, ◌+◌, Bool, true, false, ◌&&◌, nat_eq, nat_le, nat_lt, List, [], ◌∷◌, ◌++◌, length, Option, Some, None, option_and_then, slice_get, map}
use Rattle.scc_plain_tree.specs.declared.expr.PlainExpr.{PlainExpr}
use Rattle.scc_plain_tree.specs.declared.expr.PlainLeft.{PlainLeft}
use Rattle.scc_plain_tree.specs.declared.program.Plain.{Plain}
use Rattle.scc_plain_tree.specs.declared.program.PlainFunction.{PlainFunction}
use Rattle.scc_plain_tree.specs.declared.stmt.PlainArg.{PlainArg}
use Rattle.scc_plain_tree.specs.declared.stmt.PlainArg.TheVariants as argument
use Rattle.scc_plain_tree.specs.declared.stmt.PlainTarget.{PlainTarget}
use Rattle.scc_plain_tree.specs.declared.stmt.PlainTarget.TheVariants as target
use Rattle.scc_plain_tree.specs.declared.stmt.PlainSense.{PlainSense}
use Rattle.scc_plain_tree.specs.declared.stmt.PlainCount.{PlainCount}
use Rattle.scc_plain_tree.specs.declared.stmt.PlainStmt.{PlainStmt, fold-PlainStmt}
use Rattle.scc_plain_tree.specs.declared.stmt.PlainNode.{PlainNode, fold-PlainNode}
use Rattle.scc_plain_tree.specs.declared.stmt.PlainNode.TheOpen.{PlainNode-F}
use Rattle.scc_plain_tree.specs.declared.stmt.PlainNode.TheOpen as node
use Rattle.scc_plain_look.specs.declared.held.Held.{Held}
use Rattle.scc_plain_look.specs.Held.{Around, around, is_number, is_port, is_leading}
use Rattle.scc_plain_look.specs.Heads.{is_whole_base}
use Rattle.scc_plain_look.specs.Seen.{expr, left, holds}

abbrev pub is_any : Held → Bool
is_any h = true

-- a location that holds what is wanted
abbrev pub is_place : (Held → Bool) → Around → PlainLeft → Bool
is_place wanted a l = (left l).whole a && holds wanted ((left l).held a)

abbrev pub is_place_if : (Held → Bool) → Around → Option PlainLeft → Bool
is_place_if wanted a None = true
is_place_if wanted a (Some l) = is_place wanted a l

abbrev pub is_value : Around → PlainExpr → Bool
is_value a e = (expr e).whole a

abbrev pub is_value_if : Around → Option PlainExpr → Bool
is_value_if a None = true
is_value_if a (Some e) = is_value a e

abbrev pub is_target : Around → PlainTarget → Bool
is_target a target.Null = true
is_target a (target.Address l) = is_place is_any a l
is_target a (target.Copy l) = is_place is_any a l

abbrev pub is_argument : Around → PlainArg → Bool
is_argument a (argument.Value e) = is_value a e
is_argument a (argument.Target t) = is_target a t
is_argument a argument.ModuleName = true

abbrev pub are_arguments : Around → List PlainArg → Bool
are_arguments a [] = true
are_arguments a (x ∷ xs) = is_argument a x && are_arguments a xs

abbrev pub is_sense : Around → PlainSense → Bool
is_sense a s = is_place_if is_any a s.signal

abbrev pub is_sense_if : Around → Option PlainSense → Bool
is_sense_if a None = true
is_sense_if a (Some s) = is_sense a s

abbrev pub are_senses : Around → List PlainSense → Bool
are_senses a [] = true
are_senses a (s ∷ ss) = is_sense a s && are_senses a ss

-- a counted loop names its counter
abbrev pub is_count : Around → PlainCount → Bool
is_count a c = nat_lt c.counter (length a.function.locals) && (is_value a c.start && (is_value a c.bound && is_value a c.step))

abbrev pub is_count_if : Around → Option PlainCount → Bool
is_count_if a None = true
is_count_if a (Some c) = is_count a c

-- a function with so many parameters
abbrev pub takes : ℕ → Option PlainFunction → Bool
takes n None = false
takes n (Some f) = nat_eq f.params n

-- Statements from the functions that are called before them to those that are called behind them; None where they aren't whole.
abbrev pub Walk : Type 0
Walk = ℕ → List ℕ → Option (List ℕ)

abbrev pub stay : Walk
stay depth calls = Some calls

abbrev pub in_turn : Walk → Walk → Walk
in_turn first second depth calls = option_and_then (second depth) (first depth calls)

abbrev pub inside : Walk → Walk
inside w depth calls = w (depth + 1) calls

-- these calls, where something holds
abbrev pub guard : Bool → List ℕ → Option (List ℕ)
guard true calls = Some calls
guard false calls = None

-- a statement by itself, the function that it calls, and the statements in it
pub record SeenStmt : Type 0 where
  pub asked : ℕ → Around → Bool
  pub called : Option ℕ
  pub inner : Walk

abbrev pub with_call : Option ℕ → List ℕ → List ℕ
with_call None calls = calls
with_call (Some function) calls = calls ++ function ∷ []

abbrev pub here : Plain → PlainFunction → SeenStmt → Walk
here p f s depth calls = guard (s.asked depth (around p f calls)) (with_call s.called calls)

abbrev pub each : Plain → PlainFunction → List SeenStmt → Walk
each p f [] = stay
each p f (s ∷ ss) = in_turn (in_turn (here p f s) s.inner) (each p f ss)

-- of a function with so many arguments; the calls of a function have numbers from 0
abbrev pub is_call : ℕ → ℕ → Option PlainLeft → List PlainArg → Around → Bool
is_call number function object args a = nat_eq number (length a.calls) && (takes (length args) (slice_get a.plain.functions function) && (is_place_if is_any a object && are_arguments a args))

abbrev pub single : (Around → Bool) → SeenStmt
single holds = record { asked = λ depth. holds; called = None; inner = stay }

abbrev pub seen_node : Plain → PlainFunction → PlainNode-F SeenStmt SeenStmt → SeenStmt
seen_node p f (node.Declare n) = single (λ a. nat_lt n (length a.function.locals))
seen_node p f (node.Assign l e) = single (λ a. is_place is_number a l && is_value a e)
seen_node p f (node.Point l t) = single (λ a. is_place is_leading a l && is_target a t)
seen_node p f (node.Write l e) = single (λ a. is_place is_port a l && is_value a e)
seen_node p f (node.Call number function object args) = record { asked = λ depth. is_call number function object args; called = Some function; inner = stay }
seen_node p f (node.If test x y) = record { asked = λ depth a. is_value a test; called = None; inner = in_turn (each p f x) (each p f y) }
seen_node p f (node.Loop count body) = record { asked = λ depth a. is_count_if a count; called = None; inner = in_turn (each p f body) stay }
seen_node p f (node.Block body) = record { asked = λ depth a. true; called = None; inner = in_turn (inside (each p f body)) stay }
seen_node p f (node.Exit n) = record { asked = λ depth a. nat_lt n depth; called = None; inner = stay }
seen_node p f (node.Return e) = single (λ a. is_value_if a e)
seen_node p f (node.Wait n) = single (λ a. nat_le 1 n && nat_le n 65535)
seen_node p f (node.Make l base args) = single (λ a. is_place is_any a l && (is_whole_base (length a.plain.classes) base && are_arguments a args))
seen_node p f (node.Bind port to) = single (λ a. is_place is_port a port && is_place_if is_any a to)
seen_node p f (node.Process thread function edge) = single (λ a. nat_lt function (length a.plain.functions) && is_sense_if a edge)
seen_node p f (node.Sense senses) = single (λ a. are_senses a senses)
seen_node p f node.Quiet = single (λ a. true)
seen_node p f (node.Reset signal level asynchronous) = single (λ a. is_place_if is_any a signal && is_value a level)

abbrev pub seen : Plain → PlainFunction → PlainStmt → SeenStmt
seen p f = fold-PlainStmt SeenStmt SeenStmt (seen_node p f) (λ s. s.node)

abbrev pub node_seen : Plain → PlainFunction → PlainNode → SeenStmt
node_seen p f = fold-PlainNode SeenStmt SeenStmt (seen_node p f) (λ s. s.node)

abbrev pub seen_each : Plain → PlainFunction → List PlainStmt → Walk
seen_each p f list = each p f (map (seen p f) list)
