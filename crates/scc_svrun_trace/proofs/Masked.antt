-- The words of a stimulus for several clocks fit the inputs that they are for.
use Rattle.std.proofs.Common.{◌≡◌, ◌+◌, ◌<◌, ℕ, true, false, Bool, List, [], ◌∷◌, length, refl, ap, ◌∙◌, subst, arith}
use Rattle.std.specs.Prelude.{Option, Some, None, Ok, Err, codes, bytes_eq, if◌then◌else◌}
use Rattle.scc_bits_kinds.specs.declared.kind.Word.{Word}
use Rattle.scc_svtree.specs.declared.expr.VarId.{VarId}
use Rattle.scc_svtree.specs.declared.module.SvModule.{SvModule}
use Rattle.scc_svtree.specs.Variables.{width_at, IsWidth}
use Rattle.scc_svtree.specs.Sound.{Each, IsSound}
use Rattle.scc_svtree.specs.Steps.{is_clock}
use Rattle.scc_svrun.specs.Edged.{AreHanded}
use Rattle.scc_svrun.specs.Runs.{inputs_of}
use Rattle.scc_svrun.proofs.Soundly.{width_of}
use Rattle.scc_trace.specs.declared.stim.ClockStep.{ClockStep}
use Rattle.scc_trace.specs.declared.found.Found.{Found}
use Rattle.scc_trace.specs.declared.clock_steps.Masked.{Masked}
use Rattle.scc_trace.specs.Clocks.{with_mask, masked_of, fitting_step, formed_step, step_in, clock_step_of, clocked_at, clock_stim_of}
use Rattle.scc_trace.specs.Cut.{Bytes, Piece, lines, words}
use Rattle.scc_trace.specs.Head.{Outcome, ◌>>=◌, next_line, line_at, names_line, refused}
use Rattle.scc_trace.specs.Stimulus.{found_of, hex_of, first_wide, word, widths_of, names_of, each_line}
use Rattle.scc_base.specs.declared.code.Code.TheVariants.{StimText}
use Rattle.scc_svrun_trace.specs.Ports.{in_ports}
use Rattle.scc_svrun_trace.specs.Clocked.{IsHanded, AreAllHanded}
use Rattle.scc_svrun_trace.proofs.Handed.{some_same, ok_same, bind_ok, narrow, Fits, found_fits, inputs_wide}

module _ (m : SvModule) where
  abbrev MaskFits : Masked → Type 0
  MaskFits y = y.found.wide ≡ None → AreHanded (width_at m.vars) (inputs_of m) y.found.words

  mask_words : (clocks at : ℕ) (ps : List Piece) → Fits m (inputs_of m) ps → (h : Option ℕ) (r : Option Found) → found_of (widths_of (in_ports m)) ps ≡ r
      → (y : Masked) → with_mask clocks at h r ≡ Some y → MaskFits y
  mask_words clocks at ps k None r q y e = absurd (cc)
  mask_words clocks at ps k (Some n) None q y e = absurd (cc)
  mask_words clocks at ps k (Some n) (Some f) q y e =
      let s = some_same (record { mask = word n; found = record { words = f.words; wide = first_wide clocks at n f.wide } }) y e in
      subst MaskFits s (λ w. k f q (narrow clocks at n f.wide w).none)

  masked_words : (clocks : ℕ) (ps : List Piece) → Each (λ v. IsWidth (width_at m.vars v.0)) (inputs_of m) → (y : Masked) → masked_of clocks (widths_of (in_ports m)) ps ≡ Some y → MaskFits y
  unfolding masked_of
  masked_words clocks [] w y e = absurd (cc)
  masked_words clocks (p ∷ ps) w y e = mask_words clocks p.at ps (found_fits m (inputs_of m) ps w) (hex_of p.bytes) (found_of (widths_of (in_ports m)) ps) refl y e

  fitting_words : (file : ℕ) (y : Masked) (s : ClockStep) → MaskFits y → (o : Option ℕ) → y.found.wide ≡ o → fitting_step file y.mask y.found.words o ≡ Ok s → IsHanded m s
  fitting_words file y s h None n e = let P : ClockStep → Type 0 = λ a. IsHanded m a in subst P (ok_same _ s e) (h n)
  fitting_words file y s h (Some at) n e = absurd (cc)

  formed_words : (file at : ℕ) (s : ClockStep) (r : Option Masked) → ((y : Masked) → r ≡ Some y → MaskFits y) → formed_step file at r ≡ Ok s → IsHanded m s
  formed_words file at s None h e = absurd (cc)
  formed_words file at s (Some y) h e = fitting_words file y s (h y refl) y.found.wide refl e

  step_words : (file clocks : ℕ) (line : Piece) (s : ClockStep) → Each (λ v. IsWidth (width_at m.vars v.0)) (inputs_of m) → clock_step_of file clocks (widths_of (in_ports m)) line ≡ Ok s → IsHanded m s
  unfolding clock_step_of
  step_words file clocks line s w e = go (words line.at line.bytes) e
    where
      named : (b : Bool) (ps : List Piece) → (if b then formed_step file line.at (masked_of clocks (widths_of (in_ports m)) ps) else refused file StimText line.at) ≡ Ok s → IsHanded m s
      named true ps e = formed_words file line.at s (masked_of clocks (widths_of (in_ports m)) ps) (masked_words clocks ps w) e
      named false ps e = absurd (cc)

      go : (ps : List Piece) → step_in file clocks (widths_of (in_ports m)) line.at ps ≡ Ok s → IsHanded m s
      go [] e = absurd (cc)
      go (p ∷ ps) e = named (bytes_eq p.bytes (codes "step")) ps e

  all_words : (f : Piece → Outcome ClockStep) → ((l : Piece) (s : ClockStep) → f l ≡ Ok s → IsHanded m s) → (ls : List Piece) (ss : List ClockStep) → each_line f ls ≡ Ok ss → AreAllHanded m ss
  unfolding each_line
  all_words f h [] ss e = let P : List ClockStep → Type 0 = λ y. AreAllHanded m y in subst P (ok_same [] ss e) tt
  all_words f h (l ∷ ls) ss e =
      let a = bind_ok (f l) (λ a. each_line f ls >>= λ more. Ok (a ∷ more)) ss e in
      let b = bind_ok (each_line f ls) (λ more. Ok (a.value ∷ more)) ss a.rest in
      let P : List ClockStep → Type 0 = λ y. AreAllHanded m y in
      subst P (ok_same (a.value ∷ b.value) ss b.rest) (h l a.value a.is, all_words f h ls b.value b.is)

  stim_words : (file : ℕ) (clocks : List Bytes) (text : Bytes) (ss : List ClockStep) → Each (λ v. IsWidth (width_at m.vars v.0)) (inputs_of m) → clock_stim_of file clocks (in_ports m) text ≡ Ok ss → AreAllHanded m ss
  unfolding clock_stim_of
  stim_words file clocks text ss w e =
      let a = bind_ok (next_line file (length text) (lines 0 text)) _ ss e in
      let b = bind_ok (clocked_at file a.value.0) _ ss a.rest in
      let c = bind_ok (next_line file (length text) a.value.1) _ ss b.rest in
      let d = bind_ok (line_at file (codes "clocks") (names_line (codes "clocks") clocks) c.value.0) _ ss c.rest in
      let f = bind_ok (next_line file (length text) c.value.1) _ ss d.rest in
      let g = bind_ok (line_at file (codes "ports") (names_line (codes "ports") (names_of (in_ports m))) f.value.0) _ ss f.rest in
      all_words (clock_step_of file (length clocks) (widths_of (in_ports m))) (λ l s q. step_words file (length clocks) l s w q) f.value.1 ss g.rest

-- each step of a stimulus has a fitting word for each input of a module without faults
pub clocked_fits : (many : Bool) (m : SvModule) (file : ℕ) (clocks : List Bytes) (text : Bytes) (ss : List ClockStep) → IsSound many m → clock_stim_of file clocks (in_ports m) text ≡ Ok ss → AreAllHanded m ss
clocked_fits many m file clocks text ss s e =
    stim_words m file clocks text ss (inputs_wide (width_at m.vars) (is_clock m.blocks) m.vars 0 (λ v l. width_of m.vars s.widths v (omega (arith, l)))) e
