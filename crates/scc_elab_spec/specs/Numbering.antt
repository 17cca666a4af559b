-- The locals of a process, numbered as its body with calls copied declares them: for a call first its result, then its parameters, then its body;
-- a local that is declared without initialiser, or assigned or pointed as a whole for the first time, there; what no statement declares, at the
-- end of its function. This project's own.
use Rattle.std.specs.Prelude.{ℕ, zero, suc, nat_eq, List, [], ◌∷◌, ◌++◌, map, length, Option, Some, None, option_map, option_and_then, slice_get, unwrap_or, position, if◌then◌else◌}
use Rattle.std.specs.List.{list_any, range_with_len}
use Rattle.scc_bits_kinds.specs.declared.kind.Kind.{Kind}
use Rattle.scc_semantics.specs.Location.{Part, Member, Root, same_root}
use Rattle.scc_semantics.specs.Location as location
use Rattle.scc_elab_spec.specs.Term.{Left, Local}
use Rattle.scc_elab_spec.specs.Program.{Code, End, Declare, Assign, Point, Write, Call, If, Loop, Block, Exit, Return, Wait, Make, Bind, Process, Sensitive, Quiet, Reset, Function, Plain}

-- the local of process i that a location is as a whole, in the function that these calls lead to
abbrev pub whole_local : ℕ → List ℕ → Left → List Root
whole_local i cs (Local p n) = location.Local i cs n ∷ []
whole_local i cs l = []

-- all locals of a function, of which the first so many are its parameters
abbrev pub first_locals : ℕ → List ℕ → ℕ → List Root
first_locals i cs n = map (location.Local i cs) (range_with_len 0 n)

abbrev pub result_root : ℕ → List ℕ → Option Kind → List Root
result_root i cs None = []
result_root i cs (Some k) = location.Answer i cs ∷ []

-- what a call of a function declares, by the calls that lead to it and the function
abbrev pub Calling : Type 0
Calling = List ℕ → ℕ → List Root

abbrev pub declares : Calling → ℕ → List ℕ → Code → List Root
declares call i cs End = []
declares call i cs (Declare p n r) = location.Local i cs n ∷ declares call i cs r
declares call i cs (Assign p l k e r) = whole_local i cs l ++ declares call i cs r
declares call i cs (Point p l t r) = whole_local i cs l ++ declares call i cs r
declares call i cs (Write p l e r) = declares call i cs r
declares call i cs (Call p n f o args r) = call (n ∷ cs) f ++ declares call i cs r
declares call i cs (If p t a b r) = declares call i cs a ++ (declares call i cs b ++ declares call i cs r)
declares call i cs (Loop p n b r) = declares call i cs b ++ declares call i cs r
declares call i cs (Block p b r) = declares call i cs b ++ declares call i cs r
declares call i cs (Exit p n r) = declares call i cs r
declares call i cs (Return p v r) = declares call i cs r
declares call i cs (Wait p n r) = declares call i cs r
declares call i cs (Make p l b args r) = declares call i cs r
declares call i cs (Bind p l t r) = declares call i cs r
declares call i cs (Process p t f e r) = declares call i cs r
declares call i cs (Sensitive p items r) = declares call i cs r
declares call i cs (Quiet p r) = declares call i cs r
declares call i cs (Reset p s e a r) = declares call i cs r

-- a function's body, and then all its locals
abbrev pub body_declares : Calling → ℕ → List ℕ → Function → List Root
body_declares call i cs f = declares call i cs f.body ++ first_locals i cs (length f.locals)

-- calls at most so deep in one another
abbrev pub call_declares : Plain → ℕ → ℕ → Calling
call_declares p i zero cs n = []
call_declares p i (suc levels) cs n = unwrap_or (option_map (λ f. result_root i cs f.result ++ (first_locals i cs f.params ++ body_declares (call_declares p i levels) i cs f)) (slice_get p.functions n)) []

-- A body of the limits nests at most 1,024 deep, and a call is one level at least.
abbrev pub levels : ℕ
levels = 1025

abbrev pub once : List Root → List Root → List Root
once seen [] = []
once seen (r ∷ rs) = if list_any (same_root r) seen then once seen rs else r ∷ once (r ∷ seen) rs

-- the locals of the process of that number, whose function is f, as they are numbered from 0
abbrev pub numbered : Plain → ℕ → ℕ → List Root
numbered p i f = once [] (unwrap_or (option_map (body_declares (call_declares p i levels) i []) (slice_get p.functions f)) [])

abbrev pub number_of : List Root → Root → ℕ
number_of order r = unwrap_or (position (same_root r) order) 0

-- the function that a process's calls lead to: a call's number is its place among those of its function
abbrev pub callee : Code → ℕ → Option ℕ
callee End n = None
callee (Declare p m r) n = callee r n
callee (Assign p l k e r) n = callee r n
callee (Point p l t r) n = callee r n
callee (Write p l e r) n = callee r n
callee (Call p m f o args r) n = if nat_eq m n then Some f else callee r n
callee (If p t a b r) n = either (callee a n) (either (callee b n) (callee r n))
  where
    either : Option ℕ → Option ℕ → Option ℕ
    either (Some f) g = Some f
    either None g = g
callee (Loop p c b r) n = first (callee b n) (callee r n)
  where
    first : Option ℕ → Option ℕ → Option ℕ
    first (Some f) g = Some f
    first None g = g
callee (Block p b r) n = first (callee b n) (callee r n)
  where
    first : Option ℕ → Option ℕ → Option ℕ
    first (Some f) g = Some f
    first None g = g
callee (Exit p d r) n = callee r n
callee (Return p v r) n = callee r n
callee (Wait p c r) n = callee r n
callee (Make p l b args r) n = callee r n
callee (Bind p l t r) n = callee r n
callee (Process p t f e r) n = callee r n
callee (Sensitive p items r) n = callee r n
callee (Quiet p r) n = callee r n
callee (Reset p s e a r) n = callee r n

-- the function in which a local or result stands: calls are listed from the innermost
abbrev pub function_at : Plain → ℕ → List ℕ → Option ℕ
function_at p f [] = Some f
function_at p f (n ∷ cs) = option_and_then (λ g. option_and_then (λ h. callee h.body n) (slice_get p.functions g)) (function_at p f cs)
