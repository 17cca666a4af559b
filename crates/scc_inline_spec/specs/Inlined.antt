-- Copied processes and the core of a design; and what is refused: a body that is too large, a reference or an object that an index which isn't static
-- chooses. This project's own.
use Rattle.std.specs.Prelude.{ℕ, zero, suc, true, false, ◌||◌, nat_lt, List, [], ◌∷◌, ◌++◌, map, Option, Some, None, option_map, option_and_then, slice_get, unwrap_or, if◌then◌else◌}
use Rattle.scc_base.specs.declared.refusal.Refusal.{Refusal}
use Rattle.scc_base.specs.declared.code.Code.TheVariants as reason
use Rattle.scc_bits_kinds.specs.declared.kind.Kind.{Kind}
use Rattle.scc_semantics.specs.Location.{Part, Root}
use Rattle.scc_semantics.specs.Location as location
use Rattle.scc_core_spec.specs.Term as core
use Rattle.scc_core_spec.specs.Code as stmt
use Rattle.scc_core_spec.specs.Program as prog
use Rattle.scc_core_spec.specs.First.{when, refused}
use Rattle.scc_elab_spec.specs.Program.{Base, Code, End, Declare, Assign, Point, Write, Call, If, Loop, Block, Exit, Return, Wait, Make, Bind, Process, Sensitive, Quiet, Reset, Function, Plain, Member}
use Rattle.scc_elab_spec.specs.Program as plain
use Rattle.scc_elab_spec.specs.Design as design
use Rattle.scc_elab_spec.specs.Design.{Design}
use Rattle.scc_elab_spec.specs.Types.{is_direct}
use Rattle.scc_elab_spec.specs.Cells.{object_cells, cell_number, path_of}
use Rattle.scc_elab_spec.specs.Numbering.{numbered, function_at, levels}
use Rattle.scc_elab_spec.specs.Copied.{Here, copied, left_of, pick_of, target_of, count_of, answer_name}
use Rattle.scc_elab_spec.specs.Bodies.{Calling, elements, number_kind, cleared, sizes_of, aimed, is_first, pointed, cell_of, result_name, inside, zeroed, passed, object_of, local_as_whole}

-- the copies of statements, inside so many open blocks of the function; `before` has the locals that were given a target
abbrev pub body_of : Calling → Here → ℕ → List ℕ → Code → stmt.Code
body_of call h d before End = stmt.End
body_of call h d before (Declare p n r) = cleared h p n (slice_get h.function.locals n) (elements (sizes_of (slice_get h.function.locals n))) (body_of call h d before r)
body_of call h d before (Assign p l k e r) = stmt.Put p (left_of h (result_name h) true l) (pick_of h (result_name h) k) (copied h (result_name h) e) (body_of call h d before r)
body_of call h d before (Point p l t r) = stmt.Aim p (pointed (is_first h before l) (left_of h (result_name h) false l)) (target_of h (result_name h) p t) (body_of call h d (local_as_whole l ++ before) r)
body_of call h d before (Write p l e r) = stmt.Put p (left_of h (result_name h) true l) core.Whole (copied h (result_name h) e) (body_of call h d before r)
body_of call h d before (Call p n f o args r) = unwrap_or (option_map (λ g. let this = object_of h (result_name h) o in let cs = n ∷ h.calls in
    stmt.Block p (zeroed h p cs g g.result (passed h (result_name h) (inside h cs g this) p 0 args (call cs f this))) (body_of call h d before r)) (slice_get h.plain.functions f)) (body_of call h d before r)
body_of call h d before (If p t a b r) = stmt.If p (copied h (result_name h) t) (body_of call h d before a) (body_of call h d (aimed a ++ before) b) (body_of call h d (aimed a ++ (aimed b ++ before)) r)
body_of call h d before (Loop p c b r) = stmt.Loop p (option_and_then (count_of h (result_name h)) c) (body_of call h d before b) (body_of call h d (aimed b ++ before) r)
body_of call h d before (Block p b r) = stmt.Block p (body_of call h (suc d) before b) (body_of call h d (aimed b ++ before) r)
body_of call h d before (Exit p n r) = stmt.Exit p n (body_of call h d before r)
body_of call h d before (Return p None r) = stmt.Exit p d (body_of call h d before r)
body_of call h d before (Return p (Some e) r) = stmt.Put p (cell_of h p false (answer_name h h.calls h.function)) core.Whole (copied h (result_name h) e) (stmt.Exit p d (body_of call h d before r))
body_of call h d before (Wait p n r) = stmt.Wait p 0 n (body_of call h d before r)
body_of call h d before (Make p l b args r) = body_of call h d before r
body_of call h d before (Bind p l t r) = body_of call h d before r
body_of call h d before (Process p t f e r) = body_of call h d before r
body_of call h d before (Sensitive p items r) = body_of call h d before r
body_of call h d before (Quiet p r) = body_of call h d before r
body_of call h d before (Reset p s e a r) = body_of call h d before r

-- calls at most so deep in one another
abbrev pub call_of : Here → ℕ → Calling
call_of h zero cs n this = stmt.End
call_of h (suc left) cs n this = unwrap_or (option_map (λ f. body_of (call_of h left) (inside h cs f this) 0 [] f.body) (slice_get h.plain.functions n)) stmt.End

-- the name of a process: the path of its object, and its function's name
abbrev pub process_path : Plain → Design → design.Process → List Part
process_path p d q = path_of d q.object ++ location.Member (unwrap_or (option_map (λ f. f.name) (slice_get p.functions q.function)) 0) ∷ []

-- the declaration of a local or result: its identifier, and what it holds
abbrev pub answer_member : Function → Kind → Member
answer_member f k = record { name = f.name; place = f.place; shape = record { base = plain.Number k; reach = plain.Direct; vector = false; sizes = [] } }

abbrev pub member_of_root : Plain → ℕ → Root → Option Member
member_of_root p f location.Top = None
member_of_root p f (location.Local i cs n) = option_and_then (λ g. option_and_then (λ h. slice_get h.locals n) (slice_get p.functions g)) (function_at p f cs)
member_of_root p f (location.Answer i cs) = option_and_then (λ g. option_and_then (λ h. option_map (answer_member h) h.result) (slice_get p.functions g)) (function_at p f cs)

abbrev pub own_cell : List Part → ℕ → ℕ → Member → List ℕ → prog.Cell
own_cell path i number m indices = record {
  name = record { path = path; own = Some (record { number = number; identifier = m.name }); indices = indices };
  kind = number_kind m.shape.base;
  sort = if is_direct m.shape.reach then prog.Local i else prog.Pointer None;
  place = m.place;
}

-- the cells of a process's locals, each element of each
abbrev pub own_cells : Plain → ℕ → ℕ → List Part → ℕ → List Root → List prog.Cell
own_cells p i f path n [] = []
own_cells p i f path n (r ∷ rs) = unwrap_or (option_map (λ m. map (own_cell path i n m) (elements m.shape.sizes)) (member_of_root p f r)) [] ++ own_cells p i f path (suc n) rs

abbrev pub all_cells : Plain → Design → ℕ → List design.Process → List prog.Cell
all_cells p d i [] = []
all_cells p d i (q ∷ qs) = own_cells p i q.function (process_path p d q) 0 (numbered p i q.function) ++ all_cells p d (suc i) qs

abbrev pub core_cells : Plain → Design → List prog.Cell
core_cells p d = object_cells p d ++ all_cells p d 0 d.processes

abbrev pub core_vectors : Design → List prog.Vector
core_vectors d = map (λ v. record { path = v.path; size = v.size }) d.vectors

abbrev pub here_of : Plain → Design → ℕ → design.Process → Function → Here
here_of p d i q f = record {
  plain = p;
  cells = core_cells p d;
  vectors = core_vectors d;
  process = i;
  path = process_path p d q;
  order = numbered p i q.function;
  calls = [];
  function = f;
  this = core.Prefix q.place (record { path = path_of d q.object; own = None; indices = [] });
}

-- the copied body of a process is one block
abbrev pub copied_body : Plain → Design → ℕ → design.Process → stmt.Code
copied_body p d i q = unwrap_or (option_map (λ f. let h = here_of p d i q f in stmt.Block q.place (body_of (call_of h levels) h 0 [] f.body) stmt.End) (slice_get p.functions q.function)) stmt.End

abbrev pub copied_process : Plain → Design → ℕ → design.Process → prog.Process
copied_process p d i q = record {
  is_thread = q.is_thread;
  name = record { path = process_path p d q; own = None; indices = [] };
  place = q.place;
  senses = map (cell_number d) q.senses;
  edge = option_map (λ e. record { cell = cell_number d e.root; rising = e.rising }) q.edge;
  reset = option_map (λ r. record { cell = cell_number d r.root; level = r.level; asynchronous = r.asynchronous }) q.reset;
  body = copied_body p d i q;
}

abbrev pub copied_from : Plain → Design → ℕ → List design.Process → List prog.Process
copied_from p d i [] = []
copied_from p d i (q ∷ qs) = copied_process p d i q ∷ copied_from p d (suc i) qs

-- the core of a design
abbrev pub copied_program : Plain → Design → prog.Program
copied_program p d = record { top = unwrap_or (option_map (λ c. c.name) (slice_get p.classes p.top)) 0; cells = core_cells p d; vectors = core_vectors d; processes = copied_from p d 0 d.processes }

-- the location that stands for a process's local of that number
abbrev pub home_of : Plain → Design → ℕ → ℕ → Root
home_of p d i n = unwrap_or (option_and_then (λ q. slice_get (numbered p i q.function) n) (slice_get d.processes i)) (location.Local i [] n)

-- E601: the process with its calls copied has more than 65,536 statements or nests deeper than 1,024
abbrev pub too_large : Plain → Design → ℕ → design.Process → Option Refusal
too_large p d i q = let body = copied_body p d i q in when (nat_lt 65536 (stmt.size body) || nat_lt 1024 (stmt.height body)) (refused reason.TooLarge q.place)
