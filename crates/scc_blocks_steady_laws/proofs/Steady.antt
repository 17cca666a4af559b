-- A resolved core whose rules aren't broken is steady.
use Rattle.std.proofs.Common.{◌≡◌, ℕ, None, Some, slice_get}
use Rattle.scc_core_spec.specs.IsResolved.{IsResolved}
use Rattle.scc_core_spec.specs.Program.{Program, Process}
use Rattle.scc_core_spec.specs.Rules.{first_rule}
use Rattle.scc_core_spec.specs.Segments.{Segment, Plain, Test, Halt, Finish, all_segments, counts}
use Rattle.scc_core_spec.specs.Sizes.{live_body}
use Rattle.scc_blocks_spec.specs.Shown.{sight_of}
use Rattle.scc_blocks_spec.specs.Tied.{Registers}
use Rattle.scc_blocks_spec.specs.Turns.{segment_at}
use Rattle.scc_core_resolved_laws.specs.Every.{EverySegment}
use Rattle.scc_core_resolved_laws.proofs.Acting.{every}
use Rattle.scc_core_resolved_laws.proofs.Parts.{code-fit}
use Rattle.scc_core_resolved_laws.proofs.Pieces.{fit_all, fit_at}
use Rattle.scc_blocks_run_laws.specs.Follows.{IsSteady, KeepsSegment}
use Rattle.scc_blocks_steady_laws.proofs.Effects.{P, T, code-keeps, live-keeps}
use Rattle.scc_blocks_steady_laws.proofs.Goes.{goes, waits}
use Rattle.scc_blocks_steady_laws.proofs.Halts.{HaltsIn, segment-waits}
use Rattle.scc_blocks_steady_laws.proofs.Stays.{constants, named, stays, asks}

module _ (p : Program) (core : IsResolved p) (none : first_rule p ≡ None) (r : Registers) where
  keeps-segment : (i : ℕ) (q : Process) (s : Segment) → EverySegment (P p core i q) (T p core i q) s → HaltsIn (counts (live_body p.cells q.body)) s → KeepsSegment (sight_of p i q) q s
  keeps-segment i q (Plain c s) h k = (code-keeps p core i q c h.0, keeps-segment i q s h.1 k)
  keeps-segment i q (Test o t s u) h k = (keeps-segment i q s h.1 k.0, keeps-segment i q u h.2 k.1)
  keeps-segment i q (Halt o n count) h k = k
  keeps-segment i q Finish h k = tt

  thread-keeps : (i n : ℕ) (q : Process) (s : Segment) → slice_get p.processes i ≡ Some q → segment_at p.cells q n ≡ Some s → KeepsSegment (sight_of p i q) q s
  thread-keeps i n q s g e =
      keeps-segment i q s (fit_at (P p core i q) (T p core i q) p.cells (all_segments (live_body p.cells q.body)) n s (fit_all (P p core i q) (T p core i q) p.cells q.body (every p core q q.body (code-fit p core i q g))) e)
      (segment-waits p.cells q n s (code-fit p core i q g) e)

  pub steady : IsSteady p r
  steady = record {
    constants = constants p core none;
    named = λ i c q g h. named p core none i c q g h;
    methods = λ i q g t. live-keeps p core i q g;
    threads = λ i n q s g t e. thread-keeps i n q s g e;
    goes = λ i q regs pr g. goes p core none i q g r regs pr;
    waits = λ i q regs l pr g e t. waits p core none i q g r regs pr l e t;
    asks = λ i c q regs l pr g e v. asks p core none i q g r regs pr c l e v;
    stays = λ i c q regs l pr g e w. stays p core none i q g r regs pr c l e w;
  }
