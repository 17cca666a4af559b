-- A text in which nothing is wrong is that of a module without faults, and in the text of such a module nothing is wrong.
use Rattle.std.proofs.Common.{◌≡◌, ◌<◌, inl, inr, ℕ, Bool, List, refl, sym, ap, subst, ◌∙◌, arith}
use Rattle.std.specs.Prelude.{Option, Some, None, Result, Ok, Err, IfOk, IfErr}
use Rattle.scc_base.specs.declared.refusal.Stop.{Stop}
use Rattle.scc_base.specs.declared.refusal.Stop.TheVariants as stop
use Rattle.scc_svtree.specs.declared.module.SvModule.{SvModule}
use Rattle.scc_svtree.specs.Code.{Code}
use Rattle.scc_svtree.specs.Settled.{combs_of, Order}
use Rattle.scc_svtree.specs.Sound.{IsSound}
use Rattle.scc_svtext.specs.Emitted.{SvReads}
use Rattle.scc_svread_grammar.specs.declared.halt.Halt.{Halt}
use Rattle.scc_svread_grammar.specs.declared.halt.Halt.TheVariants as halt
use Rattle.scc_svread_grammar.specs.declared.raw.RawModule.{RawModule}
use Rattle.scc_svread_grammar.specs.Lexical.{Bytes}
use Rattle.scc_svread_grammar.specs.Grammar.{Reads}
use Rattle.scc_svread_grammar.specs.Levels.{deep}
use Rattle.scc_svread_grammar.specs.Claim.{Judged}
use Rattle.scc_svread_grammar.proofs.Whole as raw_whole
use Rattle.scc_svread_check.specs.declared.wrong.Wrong.{Wrong}
use Rattle.scc_svread_check.specs.Walking.{start}
use Rattle.scc_svread_check.specs.First.{module_walk, first_in, wrong_of}
use Rattle.scc_svread_check.specs.Drivers.{names_of, misplaced}
use Rattle.scc_svtree_order.specs.Cycles.{one, more, Reaches, FirstCycle}
use Rattle.scc_svread_written.specs.Written.{raw_of}
use Rattle.scc_svread_written.specs.Resolved.{module_of}
use Rattle.scc_svread.specs.Read.{stop_at, IsRight, IsFaulty, ReadAs, Answered, ReadBack}
use Rattle.scc_svread_written.proofs.Clear.{IsClear}
use Rattle.scc_svread_written.proofs.Formed.{formed_of, driven_of, sound_of}
use Rattle.scc_svread_sizes.proofs.Noted.{no_size, levels_right}
use Rattle.scc_svread_written.proofs.Modules.{reads_formed, back_module}
use Rattle.scc_svread_sizes.proofs.RightModule.{module_quiet}
use Rattle.scc_svread_sizes.proofs.MeantModule.{module_meant}
use Rattle.scc_svread_drivers.proofs.DrivenModule.{driven_asks}

-- ---- nothing is wrong

none_of : (size name driver : Option ℕ) → first_in size name driver ≡ None → (size ≡ None) × (name ≡ None) × (driver ≡ None)
none_of (Some at) name driver e = absurd (cc)
none_of None (Some at) driver e = absurd (cc)
none_of None None (Some at) e = absurd (cc)
none_of None None None e = (refl, refl, refl)

module _ (many : Bool) where
  -- what is wrong first is nothing, exactly where neither walk notes anything
  pub nothing_wrong : (m : SvModule) → IsSound many m → wrong_of many (raw_of m) ≡ None
  nothing_wrong m s =
      let f = formed_of s in
      let c = module_quiet m f in
      let d = (driven_asks many m f).kept start (refl, refl) (driven_of s) in
      ap (λ o. first_in o (module_walk (raw_of m) start).name (misplaced many (raw_of m))) c.0
      ∙ ap (λ o. first_in None o (misplaced many (raw_of m))) c.1
      ∙ ap (λ o. first_in None None o) d.1

  -- the module that is said so is without faults, and the bytes are its text
  pub sound_text : {bytes : Bytes} {raw : RawModule} → Reads bytes raw → wrong_of many raw ≡ None → Order (combs_of (module_of raw).blocks) → SvReads many bytes (module_of raw)
  sound_text {bytes} {raw} d e o =
      let n = none_of (module_walk raw start).size (module_walk raw start).name (misplaced many raw) e in
      let k = module_meant d (n.0, n.1) (levels_right d many n.2) in
      let same : raw ≡ raw_of (module_of raw) = raw_whole.one_module bytes raw (raw_of (module_of raw)) d (subst (λ ts. Reads ts (raw_of (module_of raw))) (sym k.text) (reads_formed (module_of raw) k.formed)) in
      let driven = ((driven_asks many (module_of raw) k.formed).told start (subst (λ r. IsClear (names_of many r start)) same (no_size d many, n.2))).1 in
      record { sound = sound_of k.formed driven o; text = k.text }

  -- ---- what reading answers

  shallow : (bytes : Bytes) (raw m : RawModule) → ((m : RawModule) (d : Reads bytes m) → Judged (deep 8192 d) m (Ok raw)) → (d : Reads bytes m) → deep 8192 d ≡ None
  shallow bytes raw m only d = go (deep 8192 d) (only m d)
    where
      go : (at : Option Bytes) → Judged at m (Ok raw) → at ≡ None
      go None j = refl
      go (Some at) j = absurd j

  read_as : (bytes : Bytes) (raw : RawModule) (m : SvModule) → Reads bytes raw → ((m : RawModule) (d : Reads bytes m) → Judged (deep 8192 d) m (Ok raw)) → IsRight many raw m → ReadAs many bytes m
  read_as bytes raw m d only r =
      let o : Order (combs_of (module_of raw).blocks) = subst (λ n. Order (combs_of n.blocks)) r.said r.order in
      record { text = subst (SvReads many bytes) (sym r.said) (sound_text d r.right o); within = shallow bytes raw (raw_of m) only }

  answered_module : (bytes : Bytes) (raw : RawModule) (found m : SvModule) → IsSound many m → (at : Option Bytes) → Judged at (raw_of m) (Ok raw) → found ≡ module_of raw → Answered at bytes m (Ok found)
  answered_module bytes raw found m s None j e = e ∙ ap module_of j ∙ back_module many m s
  answered_module bytes raw found m s (Some at) j e = j

  pub answered_halt : (bytes : Bytes) (m : SvModule) (at : Option Bytes) (h : Halt) → Judged at (raw_of m) (Err h) → Answered at bytes m (Err (stop_at bytes h))
  answered_halt bytes m None halt.NoMemory j = tt
  answered_halt bytes m (Some at) halt.NoMemory j = tt
  answered_halt bytes m None (halt.Unexpected left) j = j
  answered_halt bytes m (Some at) (halt.Unexpected left) j = absurd j
  answered_halt bytes m None (halt.TooDeep left) j = j
  answered_halt bytes m (Some at) (halt.TooDeep left) j = ap (λ n. stop_at bytes (halt.TooDeep n)) j

  -- an order of blocks and a cycle exclude each other
  rises : (cs : List Code) (o : Order cs) (j k : ℕ) → Reaches cs j k → o.rank j < o.rank k
  rises cs o j k (one _ _ f) = o.ordered j k f.variable f.first f.second f.assigned f.read f.other
  rises cs o i k (more _ j _ f p) = let a = o.ordered i j f.variable f.first f.second f.assigned f.read f.other in let b = rises cs o j k p in omega (arith, a, b)

  no_cycle : (cs : List Code) (k : ℕ) → Order cs → FirstCycle cs k → ⊥
  no_cycle cs k o f = let a = rises cs o k k f.cycle in absurd (omega (arith, a))

  some_none : (w : Wrong) → Some w ≡ None → ⊥
  some_none w e = cc

  no_memory : (at : Option Bytes) (bytes : Bytes) (m : SvModule) → Answered at bytes m (Err stop.NoMemory)
  no_memory None bytes m = tt
  no_memory (Some at) bytes m = tt

  answered_fault : (bytes : Bytes) (raw : RawModule) (m : SvModule) (e : Stop) → IsSound many m → (at : Option Bytes) → Judged at (raw_of m) (Ok raw) → IsFaulty many raw e → Answered at bytes m (Err e)
  answered_fault bytes raw m e s (Some at) j f = absurd j
  answered_fault bytes raw m e s None j f = elim f [
    | inl p ↦ subst (λ (x : Stop). Answered None bytes m (Err x)) (sym p) (no_memory None bytes m)
    | inr g ↦ elim g [
      | inl w ↦ absurd (some_none w.first (sym w.found ∙ ap (wrong_of many) j ∙ nothing_wrong m s))
      | inr l ↦ absurd (no_cycle (combs_of (module_of raw).blocks) l.loops.block (subst (λ (n : SvModule). Order (combs_of n.blocks)) (sym (ap module_of j ∙ back_module many m s)) s.order) l.loops.cycle)
    ]
  ]

  module _ (bytes : Bytes) (raw : RawModule) (only : (m : RawModule) (d : Reads bytes m) → Judged (deep 8192 d) m (Ok raw)) where
    pub judged_read : Reads bytes raw → (result : Result SvModule Stop) → IfOk result (λ m. IsRight many raw m) → IfOk result (λ m. ReadAs many bytes m)
    judged_read d (Ok m) r = read_as bytes raw m d only r
    judged_read d (Err e) r = tt

    pub judged_back : (result : Result SvModule Stop) → IfOk result (λ m. IsRight many raw m) → IfErr result (λ e. IsFaulty many raw e) → ReadBack many bytes result
    judged_back (Ok found) r f m s d = answered_module bytes raw found m s.sound (deep 8192 d) (only (raw_of m) d) r.said
    judged_back (Err e) r f m s d = answered_fault bytes raw m e s.sound (deep 8192 d) (only (raw_of m) d) f
