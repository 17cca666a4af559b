-- A refusal of an emitted text, or of a stimulus, has one place, in its one file.
use Rattle.std.proofs.Common.{◌≡◌, ◌⊎◌, inl, inr, ℕ, Bool, true, false, List, [], ◌∷◌, Option, Some, None, Result, Ok, Err, refl, sym, subst}
use Rattle.std.specs.Prelude.{bytes_eq, if◌then◌else◌}
use Rattle.scc_base.specs.declared.code.Code.TheVariants.{StimText, StimPort as WrongPorts}
use Rattle.scc_bits_kinds.specs.declared.kind.Word.{Word}
use Rattle.scc_base.specs.declared.refusal.Refusal.{Refusal}
use Rattle.scc_base.specs.declared.refusal.Stop.{Stop}
use Rattle.scc_base.specs.declared.refusal.Stop.TheVariants as stop
use Rattle.scc_svread.specs.Read.{RefusedAs, IsStopped, IsFaulty, Taken, refusal, stop_at, stop_of}
use Rattle.scc_svread_grammar.specs.declared.halt.Halt.{Halt}
use Rattle.scc_svread_grammar.specs.declared.halt.Halt.TheVariants as halt
use Rattle.scc_svread_grammar.specs.declared.raw.RawModule.{RawModule}
use Rattle.scc_svread_check.specs.declared.wrong.Wrong.{Wrong}
use Rattle.scc_svread_check.specs.declared.wrong.Wrong.TheVariants.{Size, Name, Driver}
use Rattle.scc_trace.specs.declared.stim.StimPort.{StimPort}
use Rattle.scc_trace.specs.declared.stim.StimStep.{StimStep}
use Rattle.scc_trace.specs.declared.stim.Version.{Version}
use Rattle.scc_trace.specs.declared.found.Found.{Found}
use Rattle.scc_trace.specs.Cut.{Bytes, Piece, lines, words, first}
use Rattle.scc_trace.specs.Head.{Outcome, ◌>>=◌, refused, next_line, version_at, version_of, some_version, line_at}
use Rattle.scc_trace.specs.Stimulus.{stim_of, step_of, step_in, formed_step, fitting_step, edge_of, found_of, each_line}

-- a refusal in this file, without a second place
abbrev pub IsIn : ℕ → Refusal → Type 0
IsIn file r = (r.place.file ≡ file) × (r.other ≡ None)

-- ---- texts

abbrev MayBe : Stop → Type 0
MayBe stop.NoMemory = Unit {0}
MayBe (stop.Refused r) = IsIn 0 r

may_stop : (bytes : Bytes) (h : Halt) → MayBe (stop_at bytes h)
may_stop bytes halt.NoMemory = tt
may_stop bytes (halt.Unexpected left) = (refl, refl)
may_stop bytes (halt.TooDeep left) = (refl, refl)

may_wrong : (w : Wrong) → MayBe (stop_of w)
may_wrong (Size at) = (refl, refl)
may_wrong (Name at) = (refl, refl)
may_wrong (Driver at) = (refl, refl)

may_be : (e e' : Stop) → e ≡ e' → MayBe e' → MayBe e
may_be e e' same m = subst MayBe (sym same) m

may_fault : (many : Bool) (raw : RawModule) (e : Stop) → IsFaulty many raw e → MayBe e
may_fault many raw e (inl p) = may_be e stop.NoMemory p tt
may_fault many raw e (inr (inl p)) = may_be e (stop_of p.first) p.said (may_wrong p.first)
may_fault many raw e (inr (inr p)) = may_be e _ p.loops.said (refl, refl)

pub text_refusal : (many : Bool) (bytes : Bytes) (r : Refusal) → RefusedAs many bytes (stop.Refused r) → IsIn 0 r
text_refusal many bytes r (inl s) = may_be (stop.Refused r) (stop_at bytes s.fault) s.said (may_stop bytes s.fault)
text_refusal many bytes r (inr t) = may_fault many t.raw (stop.Refused r) t.holds

-- ---- stimuli

abbrev AllIn : {A : Type 0} → ℕ → Outcome A → Type 0
AllIn file (Ok x) = Unit {0}
AllIn file (Err r) = IsIn file r

module _ (file : ℕ) where
  then_in : {A B : Type 0} (x : Outcome A) (f : A → Outcome B) → AllIn file x → ((a : A) → AllIn file (f a)) → AllIn file (x >>= f)
  then_in (Ok a) f p h = h a
  then_in (Err r) f p h = p

  next_in : (end : ℕ) (ls : List Piece) → AllIn file (next_line file end ls)
  unfolding next_line
  next_in end [] = (refl, refl)
  next_in end (l ∷ ls) = tt

  some_in : (at : ℕ) (v : Option Version) → AllIn file (some_version file at v)
  some_in at None = (refl, refl)
  some_in at (Some v) = tt

  version_in : (l : Piece) → AllIn file (version_at file l)
  unfolding version_at
  version_in l = some_in l.at (version_of l.bytes)

  abbrev line_outcome : (at : ℕ) (a b : Bool) → Outcome (Unit {0})
  line_outcome at a b = if a then (if b then Ok tt else refused file WrongPorts at) else refused file StimText at

  line_by : (at : ℕ) (a b : Bool) → AllIn file (line_outcome at a b)
  line_by at false b = (refl, refl)
  line_by at true true = tt
  line_by at true false = (refl, refl)

  line_in : (w wanted : Bytes) (l : Piece) → AllIn file (line_at file w wanted l)
  unfolding line_at
  line_in w wanted l = line_by l.at (bytes_eq (first 32 l.bytes) w) (bytes_eq l.bytes wanted)

  fitting_in : (e : Bool) (ws : List Word) (wide : Option ℕ) → AllIn file (fitting_step file e ws wide)
  fitting_in e ws None = tt
  fitting_in e ws (Some at) = (refl, refl)

  formed_in : (at : ℕ) (e : Option Bool) (f : Option Found) → AllIn file (formed_step file at e f)
  formed_in at None f = (refl, refl)
  formed_in at (Some e) None = (refl, refl)
  formed_in at (Some e) (Some f) = fitting_in e f.words f.wide

  pieces_in : (v : Version) (widths : List ℕ) (at : ℕ) (ps : List Piece) → AllIn file (step_in file v widths at ps)
  pieces_in v widths at [] = (refl, refl)
  pieces_in v widths at (w ∷ ws) = formed_in at (edge_of v w.bytes) (found_of widths ws)

  one_step_in : (v : Version) (widths : List ℕ) (l : Piece) → AllIn file (step_of file v widths l)
  unfolding step_of
  one_step_in v widths l = pieces_in v widths l.at (words l.at l.bytes)

  each_in : {A : Type 0} (f : Piece → Outcome A) → ((l : Piece) → AllIn file (f l)) → (ls : List Piece) → AllIn file (each_line f ls)
  unfolding each_line
  each_in f h [] = tt
  each_in f h (l ∷ ls) = then_in (f l) _ (h l) (λ a. then_in (each_line f ls) _ (each_in f h ls) (λ more. tt))

  all_steps_in : (ports : List StimPort) (text : Bytes) → AllIn file (stim_of file ports text)
  unfolding stim_of
  all_steps_in ports text =
      then_in _ _ (next_in _ (lines 0 text)) (λ a.
      then_in _ _ (version_in a.0) (λ v.
      then_in _ _ (next_in _ a.1) (λ b.
      then_in _ _ (line_in _ _ b.0) (λ _.
      each_in (step_of file v _) (one_step_in v _) b.1))))

  pub stimulus_refusal : (ports : List StimPort) (text : Bytes) (r : Refusal) → stim_of file ports text ≡ Err r → IsIn file r
  stimulus_refusal ports text r e = subst (AllIn file) e (all_steps_in ports text)
