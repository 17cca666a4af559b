-- How far statements reach, as a test: exits leave blocks of their own function, values are returned where there is a result, calls have different numbers, and locals that are named are
-- there, and members and calls are those of objects (ISO C++ [stmt.jump], [basic.scope.block], [expr.ref]); and what is declared directly is a number, or a module's name (ISO C++ [dcl.dcl]; IEEE 1666-2011, 5.3).
use Rattle.std.specs.Prelude.{ℕ, suc, ◌+◌, Bool, true, false, ◌&&◌, nat_eq, nat_lt, nat_le, List, map, Option, Some, None, is_some}
use Rattle.std.specs.List.{list_all}
use Rattle.scc_core_spec.specs.Counted.{is_it}
use Rattle.scc_elab_spec.specs.Program.{Base, Number, Named, Reach, Direct, Code, End, Declare, Assign, Point, Write, Call, If, Loop, Block, Exit, Return, Wait, Make, Bind, Process, Sensitive, Quiet, Reset, Function, Plain, Member}
use Rattle.scc_elab_spec.specs.Numbering.{callee}
use Rattle.scc_plain_bounds_laws.specs.Within.{within_code}

-- inside so many blocks, in a function with a result or without
abbrev pub leaves : Bool → ℕ → Code → Bool
leaves v d End = true
leaves v d (Declare p n r) = leaves v d r
leaves v d (Assign p l k e r) = leaves v d r
leaves v d (Point p l t r) = leaves v d r
leaves v d (Write p l e r) = leaves v d r
leaves v d (Call p n f o args r) = leaves v d r
leaves v d (If p t a b r) = leaves v d a && (leaves v d b && leaves v d r)
leaves v d (Loop p c b r) = leaves v d b && leaves v d r
leaves v d (Block p b r) = leaves v (suc d) b && leaves v d r
leaves v d (Exit p n r) = nat_lt n d && leaves v d r
leaves v d (Return p None r) = leaves v d r
leaves v d (Return p (Some e) r) = v && leaves v d r
leaves v d (Wait p n r) = leaves v d r
leaves v d (Make p l b args r) = leaves v d r
leaves v d (Bind p l t r) = leaves v d r
leaves v d (Process p t f e r) = leaves v d r
leaves v d (Sensitive p items r) = leaves v d r
leaves v d (Quiet p r) = leaves v d r
leaves v d (Reset p s e a r) = leaves v d r

abbrev pub one : Bool → ℕ
one true = 1
one false = 0

-- how many calls have that number
abbrev pub times : ℕ → Code → ℕ
times k End = 0
times k (Declare p n r) = times k r
times k (Assign p l j e r) = times k r
times k (Point p l t r) = times k r
times k (Write p l e r) = times k r
times k (Call p n f o args r) = one (nat_eq k n) + times k r
times k (If p t a b r) = times k a + (times k b + times k r)
times k (Loop p c b r) = times k b + times k r
times k (Block p b r) = times k b + times k r
times k (Exit p n r) = times k r
times k (Return p v r) = times k r
times k (Wait p n r) = times k r
times k (Make p l b args r) = times k r
times k (Bind p l t r) = times k r
times k (Process p t f e r) = times k r
times k (Sensitive p items r) = times k r
times k (Quiet p r) = times k r
times k (Reset p s e a r) = times k r

-- each call is found by its number
abbrev pub finds : (ℕ → Option ℕ) → Code → Bool
finds look End = true
finds look (Declare p n r) = finds look r
finds look (Assign p l k e r) = finds look r
finds look (Point p l t r) = finds look r
finds look (Write p l e r) = finds look r
finds look (Call p n f o args r) = is_it f (look n) && finds look r
finds look (If p t a b r) = finds look a && (finds look b && finds look r)
finds look (Loop p c b r) = finds look b && finds look r
finds look (Block p b r) = finds look b && finds look r
finds look (Exit p n r) = finds look r
finds look (Return p v r) = finds look r
finds look (Wait p n r) = finds look r
finds look (Make p l b args r) = finds look r
finds look (Bind p l t r) = finds look r
finds look (Process p t f e r) = finds look r
finds look (Sensitive p items r) = finds look r
finds look (Quiet p r) = finds look r
finds look (Reset p s e a r) = finds look r

abbrev pub may_stand : Reach → Base → Bool
may_stand Direct (Number k) = true
may_stand Direct Named = true
may_stand Direct b = false
may_stand r b = true

abbrev pub are_sizes : List ℕ → Bool
are_sizes ns = list_all (λ n. nat_le n 65536) ns

abbrev pub is_bounded_local : Member → Bool
is_bounded_local m = may_stand m.shape.reach m.shape.base && are_sizes m.shape.sizes

abbrev pub is_bounded_function : Function → Bool
is_bounded_function g = leaves (is_some g.result) 0 g.body && (finds (callee g.body) g.body && (within_code (map (λ m. m.shape.reach) g.locals) g.body && list_all is_bounded_local g.locals))

abbrev pub is_bounded : Plain → Bool
is_bounded p = list_all is_bounded_function p.functions
