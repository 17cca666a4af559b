-- The statements of copied bodies (ISO C++ [stmt], [expr.call]); that calls are copied is this project's own.
use Rattle.std.specs.Prelude.{ℕ, suc, Bool, true, false, not, ◌&&◌, nat_eq, nat_le, List, [], ◌∷◌, ◌++◌, map, flat_map, Option, Some, None, option_map, option_and_then, slice_get, unwrap_or, if◌then◌else◌}
use Rattle.std.specs.List.{list_any, range_with_len}
use Rattle.scc_base.specs.declared.refusal.Place.{Place}
use Rattle.scc_bits_kinds.specs.declared.kind.Kind.{Kind}
use Rattle.scc_bits_kinds.specs.declared.kind.Kind.TheVariants as kind
use Rattle.scc_core_spec.specs.Term as core
use Rattle.scc_core_spec.specs.Term.{CellName}
use Rattle.scc_core_spec.specs.Code as stmt
use Rattle.scc_core_spec.specs.Fold.{named}
use Rattle.scc_elab_spec.specs.Term.{Left, Local, Argument, Value, Leads, ModuleName}
use Rattle.scc_elab_spec.specs.Program.{Base, Number, Code, End, Declare, Assign, Point, Write, Call, If, Loop, Block, Exit, Return, Wait, Make, Bind, Process, Sensitive, Quiet, Reset, Function, Member}
use Rattle.scc_elab_spec.specs.Types.{is_direct}
use Rattle.scc_elab_spec.specs.Copied.{Here, local_name, answer_name, copied, left_of, target_of}
use Rattle.scc_elab_spec.specs.Numbering.{callee}

-- the indices of all elements of an array, the last running fastest
abbrev pub elements : List ℕ → List (List ℕ)
elements [] = [] ∷ []
elements (n ∷ ns) = flat_map (λ i. map (λ is. i ∷ is) (elements ns)) (range_with_len 0 n)

abbrev pub number_kind : Base → Kind
number_kind (Number k) = k
number_kind b = kind.Bool

abbrev pub cell_of : Here → Place → Bool → CellName → core.Left
cell_of h p pointer n = named h.cells h.vectors pointer (core.Prefix p n)

abbrev pub pointed : Bool → core.Left → stmt.Pointed
pointed true (core.Cell p n) = stmt.Declared n
pointed declares l = stmt.Assigned l

-- a declaration: each element takes 0, or is a pointer that leads nowhere yet
abbrev pub cleared : Here → Place → ℕ → Option Member → List (List ℕ) → stmt.Code → stmt.Code
cleared h p n None all rest = rest
cleared h p n (Some m) [] rest = rest
cleared h p n (Some m) (i ∷ is) rest = if is_direct m.shape.reach
    then stmt.Put p (cell_of h p false (local_name h n i)) core.Whole (core.Literal p (number_kind m.shape.base) 0) (cleared h p n (Some m) is rest)
    else stmt.Aim p (pointed true (cell_of h p true (local_name h n i))) (core.Null p) (cleared h p n (Some m) is rest)

abbrev pub sizes_of : Option Member → List ℕ
sizes_of m = unwrap_or (option_map (λ m. m.shape.sizes) m) []

-- the locals that a function declares without initialiser, and those that statements give a target, as wholes
abbrev pub plain_declared : Code → List ℕ
plain_declared End = []
plain_declared (Declare p n r) = n ∷ plain_declared r
plain_declared (If p t a b r) = plain_declared a ++ (plain_declared b ++ plain_declared r)
plain_declared (Loop p c b r) = plain_declared b ++ plain_declared r
plain_declared (Block p b r) = plain_declared b ++ plain_declared r
plain_declared (Assign p l k e r) = plain_declared r
plain_declared (Point p l t r) = plain_declared r
plain_declared (Write p l e r) = plain_declared r
plain_declared (Call p n f o args r) = plain_declared r
plain_declared (Exit p d r) = plain_declared r
plain_declared (Return p v r) = plain_declared r
plain_declared (Wait p n r) = plain_declared r
plain_declared (Make p l b args r) = plain_declared r
plain_declared (Bind p l t r) = plain_declared r
plain_declared (Process p t f e r) = plain_declared r
plain_declared (Sensitive p items r) = plain_declared r
plain_declared (Quiet p r) = plain_declared r
plain_declared (Reset p s e a r) = plain_declared r

abbrev pub local_as_whole : Left → List ℕ
local_as_whole (Local p n) = n ∷ []
local_as_whole l = []

abbrev pub aimed : Code → List ℕ
aimed End = []
aimed (Point p l t r) = local_as_whole l ++ aimed r
aimed (If p t a b r) = aimed a ++ (aimed b ++ aimed r)
aimed (Loop p c b r) = aimed b ++ aimed r
aimed (Block p b r) = aimed b ++ aimed r
aimed (Declare p n r) = aimed r
aimed (Assign p l k e r) = aimed r
aimed (Write p l e r) = aimed r
aimed (Call p n f o args r) = aimed r
aimed (Exit p d r) = aimed r
aimed (Return p v r) = aimed r
aimed (Wait p n r) = aimed r
aimed (Make p l b args r) = aimed r
aimed (Bind p l t r) = aimed r
aimed (Process p t f e r) = aimed r
aimed (Sensitive p items r) = aimed r
aimed (Quiet p r) = aimed r
aimed (Reset p s e a r) = aimed r

abbrev pub among : ℕ → List ℕ → Bool
among n ns = list_any (nat_eq n) ns

-- The first statement that gives a local pointer or reference a target is its declaration's initialiser, unless it is a parameter or was declared
-- without one.
abbrev pub is_first : Here → List ℕ → Left → Bool
is_first h before (Local p n) = nat_le h.function.params n && (not (among n (plain_declared h.function.body)) && not (among n before))
is_first h before l = false

-- the object of a call: what lies behind null is null, and null is met where it is used
abbrev pub soften : core.Left → core.Left
soften (core.Follow p s l) = core.Follow p true l
soften (core.Member l n) = core.Member (soften l) n
soften (core.Index l size e) = core.Index (soften l) size e
soften l = l

-- what a call of a function by its number in the program is, with its calls and its object
abbrev pub Calling : Type 0
Calling = List ℕ → ℕ → core.Left → stmt.Code

-- the function of a call of the function at hand, by the call's number
abbrev pub callee_of : Here → ℕ → Option Function
callee_of h n = option_and_then (λ f. slice_get h.plain.functions f) (callee h.function.body n)

abbrev pub result_name : Here → ℕ → CellName
result_name h n = unwrap_or (option_map (answer_name h (n ∷ h.calls)) (callee_of h n)) (record { path = []; own = None; indices = [] })

abbrev pub inside : Here → List ℕ → Function → core.Left → Here
inside h cs f this = record { plain = h.plain; cells = h.cells; vectors = h.vectors; process = h.process; path = h.path; order = h.order; calls = cs; function = f; this = this }

abbrev pub zeroed : Here → Place → List ℕ → Function → Option Kind → stmt.Code → stmt.Code
zeroed h p cs f None rest = rest
zeroed h p cs f (Some k) rest = stmt.Put p (cell_of h p false (answer_name h cs f)) core.Whole (core.Literal p k 0) rest

-- a parameter takes its argument, which the caller evaluates
abbrev pub passed : Here → (ℕ → CellName) → Here → Place → ℕ → List Argument → stmt.Code → stmt.Code
passed h results to p n [] rest = rest
passed h results to p n (Value e ∷ args) rest = stmt.Put p (cell_of to p false (local_name to n [])) core.Whole (copied h results e) (passed h results to p (suc n) args rest)
passed h results to p n (Leads t ∷ args) rest = stmt.Aim p (pointed true (cell_of to p true (local_name to n []))) (target_of h results p t) (passed h results to p (suc n) args rest)
passed h results to p n (ModuleName ∷ args) rest = passed h results to p (suc n) args rest

abbrev pub object_of : Here → (ℕ → CellName) → Option Left → core.Left
object_of h results None = h.this
object_of h results (Some l) = soften (left_of h results true l)
