-- The words of a stimulus fit the inputs that they are for.
use Rattle.std.proofs.Common.{◌≡◌, ◌<◌, ◌+◌, ◌^◌, ℕ, nat_lt, Bool, true, false, not, ◌&&◌, cond, List, [], ◌∷◌, length, map, refl, sym, ap, ◌∙◌, subst, arith}
use Rattle.std.specs.Prelude.{Option, Some, None, Ok, Err, codes, if◌then◌else◌}
use Rattle.std.proofs.lemmas.Bool.{ltb-true}
use Rattle.scc_svtree.specs.declared.expr.VarId.{VarId}
use Rattle.scc_svtree.specs.declared.module.SvModule.{SvModule}
use Rattle.scc_svtree.specs.declared.module.SvVar.{SvVar}
use Rattle.scc_svtree.specs.Variables.{width_at, IsWidth}
use Rattle.scc_svtree.specs.Sound.{Each, IsSound}
use Rattle.scc_svtree.specs.Steps.{is_input, is_clock}
use Rattle.scc_svrun.specs.Edged.{AreHanded}
use Rattle.scc_svrun.specs.Runs.{inputs_from, inputs_of}
use Rattle.scc_svrun.proofs.Soundly.{width_of}
use Rattle.scc_trace.specs.declared.stim.StimStep.{StimStep}
use Rattle.scc_trace.specs.declared.stim.Version.{Version}
use Rattle.scc_trace.specs.declared.found.Found.{Found}
use Rattle.scc_trace.specs.Cut.{Bytes, Piece, lines, words}
use Rattle.scc_trace.specs.Head.{Outcome, ◌>>=◌, next_line, version_at, line_at, names_line}
use Rattle.scc_trace.specs.Stimulus.{found_of, step_in, hex_of, with_value, first_wide, word, widths_of, names_of, edge_of, formed_step, fitting_step, step_of, each_line, steps_of, stim_of}
use Rattle.scc_svrun_trace.specs.Ports.{port_of, in_ports}
use Rattle.scc_svrun_trace.specs.Trace.{IsHanded, AreAllHanded}

pub some_same : {A : Type 0} (a b : A) → Some a ≡ Some b → a ≡ b
some_same {A} a b e = ap from e
  where
    from : Option A → A
    from None = a
    from (Some x) = x

abbrev pub good : {A : Type 0} → A → Outcome A
good a = Ok a

pub ok_same : {A : Type 0} (a b : A) → good a ≡ good b → a ≡ b
ok_same {A} a b e = ap from e
  where
    from : Outcome A → A
    from (Err r) = a
    from (Ok x) = x

-- what stands before the rest of a chain
pub record Before {A B : Type 0} (o : Outcome A) (f : A → Outcome B) (y : B) : Type 0 where
  pub value : A
  pub is : o ≡ Ok value
  pub rest : f value ≡ Ok y

pub bind_ok : {A B : Type 0} (o : Outcome A) (f : A → Outcome B) (y : B) → (o >>= f) ≡ Ok y → Before o f y
bind_ok (Ok x) f y e = record { value = x; is = refl; rest = e }
bind_ok (Err r) f y e = absurd (cc)

-- a value that is not too wide, and none behind it is
pub record Narrow (width n : ℕ) (behind : Option ℕ) : Type 0 where
  pub fits : n < 2 ^ width
  pub none : behind ≡ None

pub narrow : (width at n : ℕ) (behind : Option ℕ) → first_wide width at n behind ≡ None → Narrow width n behind
narrow width at n behind e = go (nat_lt n (2 ^ width)) refl e
  where
    go : (b : Bool) → nat_lt n (2 ^ width) ≡ b → (if b then behind else Some at) ≡ None → Narrow width n behind
    go true f e = record { fits = ltb-true n (2 ^ width) f; none = e }
    go false f e = absurd (cc)

module _ (m : SvModule) where
  abbrev pub Fits : List VarId → List Piece → Type 0
  Fits vs ps = (f : Found) → found_of (widths_of (map (port_of m) vs)) ps ≡ Some f → f.wide ≡ None → AreHanded (width_at m.vars) vs f.words

  fits_more : (v : VarId) (vs : List VarId) (p : Piece) (ps : List Piece) → IsWidth (width_at m.vars v.0) → Fits vs ps
      → (h : Option ℕ) (r : Option Found) → found_of (widths_of (map (port_of m) vs)) ps ≡ r
      → (f : Found) → with_value (width_at m.vars v.0) p.at h r ≡ Some f → f.wide ≡ None → AreHanded (width_at m.vars) (v ∷ vs) f.words
  fits_more v vs p ps w k None r q f e n = absurd (cc)
  fits_more v vs p ps w k (Some x) None q f e n = absurd (cc)
  fits_more v vs p ps w k (Some x) (Some g) q f e n =
      let s = some_same (record { words = word x ∷ g.words; wide = first_wide (width_at m.vars v.0) p.at x g.wide }) f e in
      let a = narrow (width_at m.vars v.0) p.at x g.wide (ap (λ y. y.wide) s ∙ n) in
      let P : Found → Type 0 = λ y. AreHanded (width_at m.vars) (v ∷ vs) y.words in
      subst P s (w, a.fits, k g q a.none)

  pub found_fits : (vs : List VarId) (ps : List Piece) → Each (λ v. IsWidth (width_at m.vars v.0)) vs → Fits vs ps
  unfolding found_of
  found_fits [] [] w f e n = let P : Found → Type 0 = λ y. AreHanded (width_at m.vars) [] y.words in subst P (some_same _ f e) tt
  found_fits [] (p ∷ ps) w f e n = absurd (cc)
  found_fits (v ∷ vs) [] w f e n = absurd (cc)
  found_fits (v ∷ vs) (p ∷ ps) w f e n = fits_more v vs p ps w.0 (found_fits vs ps w.1) (hex_of p.bytes) (found_of (widths_of (map (port_of m) vs)) ps) refl f e n

  -- the words of a step
  fitting_words : (file : ℕ) (edge : Bool) (f : Found) (s : StimStep) → (f.wide ≡ None → IsHanded m (record { edge = edge; words = f.words })) → (o : Option ℕ) → f.wide ≡ o → fitting_step file edge f.words o ≡ Ok s → IsHanded m s
  fitting_words file edge f s h None n e = let P : StimStep → Type 0 = λ y. IsHanded m y in subst P (ok_same _ s e) (h n)
  fitting_words file edge f s h (Some at) n e = absurd (cc)

  formed_words : (file at : ℕ) (edge : Option Bool) (ps : List Piece) (s : StimStep) → Fits (inputs_of m) ps → (r : Option Found) → found_of (widths_of (in_ports m)) ps ≡ r → formed_step file at edge r ≡ Ok s → IsHanded m s
  formed_words file at None ps s h r q e = absurd (cc)
  formed_words file at (Some edge) ps s h None q e = absurd (cc)
  formed_words file at (Some edge) ps s h (Some f) q e = fitting_words file edge f s (λ n. h f q n) f.wide refl e

  step_words : (file : ℕ) (v : Version) (line : Piece) (s : StimStep) → Each (λ v. IsWidth (width_at m.vars v.0)) (inputs_of m) → step_of file v (widths_of (in_ports m)) line ≡ Ok s → IsHanded m s
  unfolding step_of
  step_words file v line s w e = go (words line.at line.bytes) e
    where
      go : (ps : List Piece) → step_in file v (widths_of (in_ports m)) line.at ps ≡ Ok s → IsHanded m s
      go [] e = absurd (cc)
      go (p ∷ ps) e = formed_words file line.at (edge_of v p.bytes) ps s (found_fits (inputs_of m) ps w) (found_of (widths_of (in_ports m)) ps) refl e

  all_words : (f : Piece → Outcome StimStep) → ((l : Piece) (s : StimStep) → f l ≡ Ok s → IsHanded m s) → (ls : List Piece) (ss : List StimStep) → each_line f ls ≡ Ok ss → AreAllHanded m ss
  unfolding each_line
  all_words f h [] ss e = let P : List StimStep → Type 0 = λ y. AreAllHanded m y in subst P (ok_same [] ss e) tt
  all_words f h (l ∷ ls) ss e =
      let a = bind_ok (f l) (λ a. each_line f ls >>= λ more. Ok (a ∷ more)) ss e in
      let b = bind_ok (each_line f ls) (λ more. Ok (a.value ∷ more)) ss a.rest in
      let P : List StimStep → Type 0 = λ y. AreAllHanded m y in
      subst P (ok_same (a.value ∷ b.value) ss b.rest) (h l a.value a.is, all_words f h ls b.value b.is)

  stim_words : (file : ℕ) (text : Bytes) (ss : List StimStep) → Each (λ v. IsWidth (width_at m.vars v.0)) (inputs_of m) → stim_of file (in_ports m) text ≡ Ok ss → AreAllHanded m ss
  unfolding stim_of
  stim_words file text ss w e =
      let a = bind_ok (next_line file (length text) (lines 0 text)) _ ss e in
      let b = bind_ok (version_at file a.value.0) _ ss a.rest in
      let c = bind_ok (next_line file (length text) a.value.1) _ ss b.rest in
      let d = bind_ok (line_at file (codes "ports") (names_line (codes "ports") (names_of (in_ports m))) c.value.0) _ ss c.rest in
      all_words (step_of file b.value (widths_of (in_ports m))) (λ l s q. step_words file b.value l s w q) c.value.1 ss d.rest

pub inputs_wide : (width : ℕ → ℕ) (clocks : ℕ → Bool) (vs : List SvVar) (n : ℕ) → ((v : ℕ) → v < n + length vs → IsWidth (width v)) → Each (λ v. IsWidth (width v.0)) (inputs_from n clocks vs)
inputs_wide width clocks [] n h = tt
inputs_wide width clocks (x ∷ xs) n h = go (is_input x.dir && not (clocks n)) (inputs_wide width clocks xs (n + 1) (λ v l. h v (omega (arith, l))))
  where
    go : (b : Bool) → Each (λ v. IsWidth (width v.0)) (inputs_from (n + 1) clocks xs) → Each (λ v. IsWidth (width v.0)) (cond b (record { 0 = n } ∷ inputs_from (n + 1) clocks xs) (inputs_from (n + 1) clocks xs))
    go true r = (h n (omega arith), r)
    go false r = r

-- each step of a stimulus has a fitting word for each input of a module without faults
pub stimulus_fits : (many : Bool) (m : SvModule) (file : ℕ) (text : Bytes) (ss : List StimStep) → IsSound many m → stim_of file (in_ports m) text ≡ Ok ss → AreAllHanded m ss
stimulus_fits many m file text ss s e =
    stim_words m file text ss (inputs_wide (width_at m.vars) (is_clock m.blocks) m.vars 0 (λ v l. width_of m.vars s.widths v (omega (arith, l)))) e
