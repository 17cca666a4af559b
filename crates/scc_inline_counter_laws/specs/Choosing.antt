-- What the objects of calls are chosen by, which the refusal of indices that aren't static leaves: by counters of loops whose turns touch them nowhere.
use Rattle.std.specs.Prelude.{◌≡◌, ℕ, zero, suc, Bool, true, false, ◌||◌, nat_le, List, [], ◌∷◌, Option, Some, None, slice_get}
use Rattle.scc_base.specs.declared.refusal.Place.{Place}
use Rattle.scc_core_spec.specs.Code as stmt
use Rattle.scc_core_spec.specs.Code.{holds_wait}
use Rattle.scc_core_spec.specs.Counted.{Counter, Setting, counter_number, is_it, uses}
use Rattle.scc_elab_spec.specs.Term.{Left, Argument}
use Rattle.scc_elab_spec.specs.Program.{Code, End, Declare, Assign, Point, Write, Call, If, Loop, Block, Exit, Return, Wait, Make, Bind, Process, Sensitive, Quiet, Reset, Function}
use Rattle.scc_elab_spec.specs.Copied.{Here}
use Rattle.scc_elab_spec.specs.Copied.{left_of as left_here}
use Rattle.scc_elab_spec.specs.Bodies.{Calling, inside, object_of, passed, result_name, zeroed}
use Rattle.scc_inline_spec.specs.Inlined.{call_of}
use Rattle.scc_inline_spec.specs.Static.{is_static}
use Rattle.scc_inline_process_laws.specs.Chosen.{reworded}
use Rattle.scc_inline_process_laws.specs.SoundCode.{IsWider}

-- a call's result, parameters and body, which are one block of the copy
abbrev pub call_block : Calling → Here → Place → ℕ → ℕ → Option Left → List Argument → Function → stmt.Code
call_block call h p n f o args g = zeroed h p (n ∷ h.calls) g g.result (passed h (result_name h) (inside h (n ∷ h.calls) g (object_of h (result_name h) o)) p 0 args (call (n ∷ h.calls) f (object_of h (result_name h) o)))

module _ (s : Setting) where
  -- locals that nothing but what begins and steps their loops assigns
  abbrev pub AreCounters : List Counter → Type 0
  AreCounters [] = Unit {0}
  AreCounters (c ∷ ns) = ((o : ℕ) × (counter_number s c.cell ≡ Some o) × (nat_le (uses s.cells o s.body) 2 ≡ true)) × AreCounters ns

  -- whether a local is one of these
  abbrev pub guards : List Counter → ℕ → Bool
  guards [] o = false
  guards (c ∷ ns) o = is_it o (counter_number s c.cell) || guards ns o

  -- statements that neither assign nor lead a pointer to these, nor wait
  abbrev pub IsStill : (ℕ → Bool) → stmt.Code → Type 0
  IsStill held c = (o : ℕ) → held o ≡ true → (uses s.cells o c ≡ 0) × (holds_wait c ≡ false)

  abbrev pub IsChosenObject : Here → List Counter → Option Left → Type 0
  IsChosenObject h ns None = Unit {0}
  IsChosenObject h ns (Some l) = (f : ℕ → ℕ) → is_static h.cells (reworded f ns) (left_here h (result_name h) true l) ≡ true

  module _ (call : Calling) where
    -- by the counters around a function, those around each of its calls, in which nothing touches them
    abbrev pub ChoosesCode : (Here → List Counter → Type 0) → Here → List Counter → Code → Type 0
    ChoosesCode ok h ns End = Unit {0}
    ChoosesCode ok h ns (Declare p n r) = ChoosesCode ok h ns r
    ChoosesCode ok h ns (Assign p l k e r) = ChoosesCode ok h ns r
    ChoosesCode ok h ns (Point p l t r) = ChoosesCode ok h ns r
    ChoosesCode ok h ns (Write p l e r) = ChoosesCode ok h ns r
    ChoosesCode ok h ns (Call p n f o args r) = ((g : Function) → slice_get h.plain.functions f ≡ Some g → (ms : List Counter) × AreCounters ms × IsWider (guards ms) (guards ns) × IsChosenObject h ms o
        × IsStill (guards ms) (call_block call h p n f o args g) × ok (inside h (n ∷ h.calls) g (object_of h (result_name h) o)) ms) × ChoosesCode ok h ns r
    ChoosesCode ok h ns (If p t a b r) = ChoosesCode ok h ns a × ChoosesCode ok h ns b × ChoosesCode ok h ns r
    ChoosesCode ok h ns (Loop p c b r) = ChoosesCode ok h ns b × ChoosesCode ok h ns r
    ChoosesCode ok h ns (Block p b r) = ChoosesCode ok h ns b × ChoosesCode ok h ns r
    ChoosesCode ok h ns (Exit p n r) = ChoosesCode ok h ns r
    ChoosesCode ok h ns (Return p v r) = ChoosesCode ok h ns r
    ChoosesCode ok h ns (Wait p n r) = ChoosesCode ok h ns r
    ChoosesCode ok h ns (Make p l b args r) = ChoosesCode ok h ns r
    ChoosesCode ok h ns (Bind p l t r) = ChoosesCode ok h ns r
    ChoosesCode ok h ns (Process p t f e r) = ChoosesCode ok h ns r
    ChoosesCode ok h ns (Sensitive p items r) = ChoosesCode ok h ns r
    ChoosesCode ok h ns (Quiet p r) = ChoosesCode ok h ns r
    ChoosesCode ok h ns (Reset p u e a r) = ChoosesCode ok h ns r

  -- calls at most so deep in one another; h is the process's own function
  abbrev pub ChoosesCall : Here → ℕ → Here → List Counter → Type 0
  ChoosesCall h zero to ns = Unit {0}
  ChoosesCall h (suc left) to ns = ChoosesCode (call_of h left) (ChoosesCall h left) to ns to.function.body
