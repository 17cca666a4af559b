-- Initialisers: which of them belong to which member (ISO C++ [class.base.init]).
use Rattle.std.specs.Prelude.{ℕ, Bool, true, false, nat_eq, List, Option, Some, None}
use Rattle.scc_elab_spec.specs.Term.{Left, This, Index, Argument}
use Rattle.scc_elab_spec.specs.Term as term
use Rattle.scc_elab_spec.specs.Program.{Code, End, Declare, Assign, Point, Write, Call, If, Loop, Block, Exit, Return, Wait, Make, Bind, Process, Sensitive, Quiet, Reset}

-- the member of the object at hand that a location begins with
abbrev pub first_member : Left → Option ℕ
first_member (term.Member (This p) m) = Some m
first_member (term.Member l m) = first_member l
first_member (Index l e) = first_member l
first_member l = None

abbrev pub belongs : Option ℕ → Option ℕ → Bool
belongs (Some m) (Some n) = nat_eq m n
belongs None None = true
belongs m n = false

abbrev pub either : Option ℕ → Option ℕ → Option ℕ
either (Some m) n = Some m
either None n = n

-- the member that a list of initialisers begins with: what belongs to none goes with what follows it
abbrev pub owner : Code → Option ℕ
owner End = None
owner (Declare p n r) = owner r
owner (Assign p l k e r) = either (first_member l) (owner r)
owner (Point p l t r) = either (first_member l) (owner r)
owner (Write p l e r) = owner r
owner (Call p n f o args r) = owner r
owner (If p t a b r) = owner r
owner (Loop p c b r) = owner r
owner (Block p b r) = owner r
owner (Exit p d r) = owner r
owner (Return p v r) = owner r
owner (Wait p n r) = owner r
owner (Make p l base args r) = either (first_member l) (owner r)
owner (Bind p port to r) = either (first_member port) (owner r)
owner (Process p t f e r) = owner r
owner (Sensitive p items r) = owner r
owner (Quiet p r) = owner r
owner (Reset p s e a r) = owner r

abbrev pub kept_if : Bool → (Code → Code) → Code → Code
kept_if true s rest = s rest
kept_if false s rest = rest

-- the initialisers of a member, or those of none; of one that makes an object in place the first counts, where it is made
abbrev pub inits_of : Option ℕ → Code → Code
inits_of m End = End
inits_of m (Declare p n r) = kept_if (belongs m (owner r)) (Declare p n) (inits_of m r)
inits_of m (Assign p l k e r) = kept_if (belongs m (owner (Assign p l k e r))) (Assign p l k e) (inits_of m r)
inits_of m (Point p l t r) = kept_if (belongs m (owner (Point p l t r))) (Point p l t) (inits_of m r)
inits_of m (Write p l e r) = kept_if (belongs m (owner r)) (Write p l e) (inits_of m r)
inits_of m (Call p n f o args r) = kept_if (belongs m (owner r)) (Call p n f o args) (inits_of m r)
inits_of m (If p t a b r) = kept_if (belongs m (owner r)) (If p t a b) (inits_of m r)
inits_of m (Loop p c b r) = kept_if (belongs m (owner r)) (Loop p c b) (inits_of m r)
inits_of m (Block p b r) = kept_if (belongs m (owner r)) (Block p b) (inits_of m r)
inits_of m (Exit p d r) = kept_if (belongs m (owner r)) (Exit p d) (inits_of m r)
inits_of m (Return p v r) = kept_if (belongs m (owner r)) (Return p v) (inits_of m r)
inits_of m (Wait p n r) = kept_if (belongs m (owner r)) (Wait p n) (inits_of m r)
inits_of m (Make p l base args r) = kept_if (belongs m (owner (Make p l base args r))) (Make p l base args) (inits_of m r)
inits_of m (Bind p port to r) = kept_if (belongs m (owner (Bind p port to r))) (Bind p port to) (inits_of m r)
inits_of m (Process p t f e r) = kept_if (belongs m (owner r)) (Process p t f e) (inits_of m r)
inits_of m (Sensitive p items r) = kept_if (belongs m (owner r)) (Sensitive p items) (inits_of m r)
inits_of m (Quiet p r) = kept_if (belongs m (owner r)) (Quiet p) (inits_of m r)
inits_of m (Reset p s e a r) = kept_if (belongs m (owner r)) (Reset p s e a) (inits_of m r)

-- the arguments of the first `Make` among some initialisers, and the initialisers without any; neither looks into blocks and branches
abbrev pub first_make : Code → Option (List Argument)
first_make End = None
first_make (Make p l base args r) = Some args
first_make (Declare p n r) = first_make r
first_make (Assign p l k e r) = first_make r
first_make (Point p l t r) = first_make r
first_make (Write p l e r) = first_make r
first_make (Call p n f o args r) = first_make r
first_make (If p t a b r) = first_make r
first_make (Loop p c b r) = first_make r
first_make (Block p b r) = first_make r
first_make (Exit p d r) = first_make r
first_make (Return p v r) = first_make r
first_make (Wait p n r) = first_make r
first_make (Bind p port to r) = first_make r
first_make (Process p t f e r) = first_make r
first_make (Sensitive p items r) = first_make r
first_make (Quiet p r) = first_make r
first_make (Reset p s e a r) = first_make r

abbrev pub without_make : Code → Code
without_make End = End
without_make (Make p l base args r) = without_make r
without_make (Declare p n r) = Declare p n (without_make r)
without_make (Assign p l k e r) = Assign p l k e (without_make r)
without_make (Point p l t r) = Point p l t (without_make r)
without_make (Write p l e r) = Write p l e (without_make r)
without_make (Call p n f o args r) = Call p n f o args (without_make r)
without_make (If p t a b r) = If p t a b (without_make r)
without_make (Loop p c b r) = Loop p c b (without_make r)
without_make (Block p b r) = Block p b (without_make r)
without_make (Exit p d r) = Exit p d (without_make r)
without_make (Return p v r) = Return p v (without_make r)
without_make (Wait p n r) = Wait p n (without_make r)
without_make (Bind p port to r) = Bind p port to (without_make r)
without_make (Process p t f e r) = Process p t f e (without_make r)
without_make (Sensitive p items r) = Sensitive p items (without_make r)
without_make (Quiet p r) = Quiet p (without_make r)
without_make (Reset p s e a r) = Reset p s e a (without_make r)
