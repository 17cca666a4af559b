-- What is refused where calls are copied, process by process: a body that is too large, then the first reference argument or object of a call that an
-- index which isn't static chooses, the counters of the counted loops around it taken as literals. This project's own.
use Rattle.std.specs.Prelude.{ℕ, zero, suc, Bool, true, not, ◌&&◌, List, [], ◌∷◌, ◌++◌, Option, Some, None, option_map, option_and_then, slice_get, unwrap_or, is_some, if◌then◌else◌}
use Rattle.scc_base.specs.declared.refusal.Refusal.{Refusal}
use Rattle.scc_base.specs.declared.refusal.Place.{Place}
use Rattle.scc_base.specs.declared.code.Code.TheVariants as reason
use Rattle.scc_core_spec.specs.Term as core
use Rattle.scc_core_spec.specs.Program as prog
use Rattle.scc_core_spec.specs.Static.{Cells, static}
use Rattle.scc_core_spec.specs.Counted.{Counter, Setting, Start, Stand, First, Elsewhere, behind, counting, counted_by, around}
use Rattle.scc_core_spec.specs.First.{or_else, first_of, first_numbered, when, refused}
use Rattle.scc_core_spec.specs.Resolved.{Tried, Made, Stopped}
use Rattle.scc_elab_spec.specs.Term.{Term, Left, Pick, Argument, Leads}
use Rattle.scc_elab_spec.specs.Program.{Code, End, Declare, Assign, Point, Write, Call, If, Loop, Block, Exit, Return, Wait, Make, Bind, Process, Sensitive, Quiet, Reset, Plain, Member}
use Rattle.scc_elab_spec.specs.Design as design
use Rattle.scc_elab_spec.specs.Design.{Design}
use Rattle.scc_elab_spec.specs.Types.{is_reference}
use Rattle.scc_elab_spec.specs.Numbering.{levels}
use Rattle.scc_elab_spec.specs.Copied.{Here, copied, left_of, pick_of, target_of, count_of}
use Rattle.scc_elab_spec.specs.Bodies.{Calling, result_name, inside, object_of}
use Rattle.scc_inline_spec.specs.Inlined.{body_of, call_of, here_of, core_cells, process_path, copied_body, too_large, copied_program}

-- a location that has to be static, with the counters around it
pub record Chosen : Type 0 where
  pub left : core.Left
  pub counters : List Counter

abbrev pub is_static : Cells → List Counter → core.Left → Bool
is_static cs ns (core.Cell p n) = true
is_static cs ns (core.Prefix p n) = true
is_static cs ns (core.Null p) = true
is_static cs ns (core.Follow p s l) = is_static cs ns l
is_static cs ns (core.Member l n) = is_static cs ns l
is_static cs ns (core.Index l size e) = is_some (static cs (counting ns e)) && is_static cs ns l

abbrev pub by_object : Here → List Counter → Option Left → List Chosen
by_object h ns None = []
by_object h ns (Some l) = record { left = left_of h (result_name h) true l; counters = ns } ∷ []

-- the arguments that references take
abbrev pub by_arguments : Here → List Counter → Place → List Member → List Argument → List Chosen
by_arguments h ns p [] args = []
by_arguments h ns p (m ∷ ms) [] = []
by_arguments h ns p (m ∷ ms) (Leads t ∷ args) = (if is_reference m.shape.reach then record { left = target_of h (result_name h) p t; counters = ns } ∷ [] else []) ++ by_arguments h ns p ms args
by_arguments h ns p (m ∷ ms) (a ∷ args) = by_arguments h ns p ms args

-- what a call of a function has to choose statically
abbrev pub Choosing : Type 0
Choosing = List ℕ → ℕ → core.Left → List Counter → List Chosen

-- an assignment of the function at hand as its copy has it
abbrev pub begun : Here → Left → Pick → Term → Start
begun h l k e = record { left = left_of h (result_name h) true l; pick = pick_of h (result_name h) k; value = copied h (result_name h) e }

-- Inside so many open blocks of the function, where a statement stands: which loops are counted is what their copies tell.
abbrev pub chosen_in : Choosing → Calling → Setting → Here → List Counter → ℕ → Stand → Code → List Chosen
chosen_in choose call s h ns d w End = []
chosen_in choose call s h ns d w (Declare p n r) = chosen_in choose call s h ns d Elsewhere r
chosen_in choose call s h ns d w (Assign p l k e r) = chosen_in choose call s h ns d (behind w (begun h l k e)) r
chosen_in choose call s h ns d w (Point p l t r) = chosen_in choose call s h ns d Elsewhere r
chosen_in choose call s h ns d w (Write p l e r) = chosen_in choose call s h ns d Elsewhere r
chosen_in choose call s h ns d w (Call p n f o args r) = by_object h ns o ++ (unwrap_or (option_map (λ g. by_arguments h ns p g.locals args) (slice_get h.plain.functions f)) []
    ++ (choose (n ∷ h.calls) f (object_of h (result_name h) o) ns ++ chosen_in choose call s h ns d Elsewhere r))
chosen_in choose call s h ns d w (If p t a b r) = chosen_in choose call s h ns d Elsewhere a ++ (chosen_in choose call s h ns d Elsewhere b ++ chosen_in choose call s h ns d Elsewhere r)
chosen_in choose call s h ns d w (Loop p c b r) =
    chosen_in choose call s h (around ns (counted_by s ns w (option_and_then (count_of h (result_name h)) c) (body_of call h d [] b) (body_of call h d [] r))) d Elsewhere b
    ++ chosen_in choose call s h ns d Elsewhere r
chosen_in choose call s h ns d w (Block p b r) = chosen_in choose call s h ns (suc d) First b ++ chosen_in choose call s h ns d Elsewhere r
chosen_in choose call s h ns d w (Exit p n r) = chosen_in choose call s h ns d Elsewhere r
chosen_in choose call s h ns d w (Return p v r) = chosen_in choose call s h ns d Elsewhere r
chosen_in choose call s h ns d w (Wait p n r) = chosen_in choose call s h ns d Elsewhere r
chosen_in choose call s h ns d w (Make p l b args r) = chosen_in choose call s h ns d Elsewhere r
chosen_in choose call s h ns d w (Bind p l t r) = chosen_in choose call s h ns d Elsewhere r
chosen_in choose call s h ns d w (Process p t f e r) = chosen_in choose call s h ns d Elsewhere r
chosen_in choose call s h ns d w (Sensitive p items r) = chosen_in choose call s h ns d Elsewhere r
chosen_in choose call s h ns d w (Quiet p r) = chosen_in choose call s h ns d Elsewhere r
chosen_in choose call s h ns d w (Reset p x e a r) = chosen_in choose call s h ns d Elsewhere r

abbrev pub chosen_by : Setting → Here → ℕ → Choosing
chosen_by s h zero cs f this ns = []
chosen_by s h (suc left) cs f this ns =
    unwrap_or (option_map (λ g. chosen_in (chosen_by s h left) (call_of h left) s (inside h cs g this) ns 0 Elsewhere g.body) (slice_get h.plain.functions f)) []

abbrev pub not_static : Here → Chosen → Option Refusal
not_static h c = when (not (is_static h.cells c.counters c.left)) (refused reason.StaticIndex (core.place_at c.left))

-- around the statements of a process: the cells, its name and its copied body
abbrev pub setting_in : Plain → Design → ℕ → design.Process → Setting
setting_in p d i q = record { cells = core_cells p d; path = process_path p d q; body = copied_body p d i q }

abbrev pub first_copied : Plain → Design → ℕ → design.Process → Option Refusal
first_copied p d i q = or_else (too_large p d i q)
    (option_and_then (λ f. let h = here_of p d i q f in let s = setting_in p d i q in
    first_of (not_static h) (chosen_in (chosen_by s h levels) (call_of h levels) s h [] 0 First f.body)) (slice_get p.functions q.function))

-- the core of a design, or what is refused first
abbrev pub inlined : Plain → Design → Tried prog.Program
inlined p d = by_refusal (first_numbered (first_copied p d) 0 d.processes)
  where
    by_refusal : Option Refusal → Tried prog.Program
    by_refusal (Some r) = Stopped r
    by_refusal None = Made (copied_program p d)
