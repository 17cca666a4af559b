-- Labels of a choice: of the selector's length, and each once.
use Rattle.std.proofs.Common.{◌≡◌, ◌<◌, ◌+◌, ◌/◌, ◌^◌, ℕ, false, cond, List, [], ◌∷◌, ◌++◌, decimal, refl, sym, subst, ap, ◌∙◌}
use Rattle.std.specs.Prelude.{codes, bytes_eq, Some}
use Rattle.std.specs.List.{list_any}
use Rattle.std.proofs.lemmas.Bool.{or_from}
use Rattle.std.proofs.lemmas.List.{append_cancel_left}
use Rattle.std.proofs.lemmas.List.Folds.{list_any-append}
use Rattle.scc_svtree.specs.Variables.{IsWidth}
use Rattle.scc_svtree.specs.Sound.{Each, IsAbsent, Distinct}
use Rattle.scc_svtext.specs.Pieces.{hex_text}
use Rattle.scc_svread_grammar.specs.Lexical.{Bytes}
use Rattle.scc_svread_check.specs.Numbers.{word_number}
use Rattle.scc_svread_check.specs.Walking.{deeper}
use Rattle.scc_svread_check.specs.Parts.{literal_bytes}
use Rattle.scc_svread_check.specs.Lines.{Choice, label_text, is_wrong_label, choice_line, with_label, choices}
use Rattle.scc_svread_written.specs.Written.{raw_literal}
use Rattle.scc_svread_written.proofs.Digits.{number_hex}
use Rattle.scc_svread_written.proofs.Leaves.{other_bytes}
use Rattle.scc_svread_sizes.proofs.RightWalks.{Quiet, quiet_pass, quiet_size, quiet_then, quiet_here, QuietLine, quiet_lines}
use Rattle.scc_svread_sizes.proofs.RightLeaves.{right_literal, right_length}

-- an arm with this label of n bits
pub record RightChoice (n v : ℕ) (c : Choice) : Type 0 where
  pub label : c.label ≡ raw_literal n v
  pub fits : v < 2 ^ n
  pub body : Each QuietLine c.body

abbrev pub RightChoices : ℕ → List ℕ → List Choice → Type 0
RightChoices n [] [] = Unit {0}
RightChoices n (v ∷ vs) (c ∷ cs) = RightChoice n v c × RightChoices n vs cs
RightChoices n _ _ = ⊥

module _ (n : ℕ) (h : IsWidth n) where
  abbrev text : ℕ → Bytes
  text v = label_text (raw_literal n v)

  -- it is none of the labels before
  abbrev IsNew : List Bytes → ℕ → Type 0
  IsNew before v = list_any (bytes_eq (text v)) before ≡ false

  abbrev Fitting : List ℕ → Type 0
  Fitting vs = Each (λ v. v < 2 ^ n) vs

  -- labels that are written alike are the same
  same_label : (u v : ℕ) → u < 2 ^ n → v < 2 ^ n → text u ≡ text v → u ≡ v
  same_label u v a b e =
      let digits : hex_text ((n + 3) / 4) u ≡ hex_text ((n + 3) / 4) v = append_cancel_left (decimal n ++ codes "'") _ _ e in
      sym (number_hex n u h.1 a) ∙ ap word_number digits ∙ number_hex n v h.1 b

  -- a further label is none of those behind it
  still_new : (before : List Bytes) (u : ℕ) (vs : List ℕ) → u < 2 ^ n → Fitting vs → IsAbsent u vs → Each (IsNew before) vs → Each (IsNew (before ++ text u ∷ [])) vs
  still_new before u [] a fits absent new = tt
  still_new before u (v ∷ vs) a fits absent new = (
    list_any-append (bytes_eq (text v)) before (text u ∷ [])
        ∙ or_from _ _ new.0 (or_from _ _ (other_bytes (text v) (text u) (λ e. absent.0 (sym (same_label v u fits.0 a e)))) refl),
    still_new before u vs a fits.1 absent.1 new.1,
  )

  all_fit : (vs : List ℕ) (cs : List Choice) → RightChoices n vs cs → Fitting vs
  all_fit [] [] r = tt
  all_fit (v ∷ vs) (c ∷ cs) r = (r.0.fits, all_fit vs cs r.1)
  all_fit _ _ r = elim r [ ]

  right_label : (before : List Bytes) (v : ℕ) → v < 2 ^ n → IsNew before v → is_wrong_label (Some n) before (raw_literal n v) ≡ false
  right_label before v fits new = or_from _ _ (or_from _ _ (right_literal n v h fits) (right_length n v n h.1 refl)) new

  quiet_choice : (before : List Bytes) (v : ℕ) (c : Choice) → IsNew before v → RightChoice n v c → QuietLine (choice_line (Some n) before c)
  quiet_choice before v c new r m =
      quiet_then (quiet_then (quiet_then (quiet_then (quiet_pass m)
      (quiet_size (is_wrong_label (Some n) before c.label) (ap (is_wrong_label (Some n) before) r.label ∙ right_label before v r.fits new)))
      (quiet_pass (literal_bytes c.label + 8))) (quiet_lines c.body r.body (deeper m))) (quiet_pass (m + 4))

  quiet_from : (before : List Bytes) (vs : List ℕ) (cs : List Choice) → RightChoices n vs cs → Distinct vs → Each (IsNew before) vs → QuietLine (choices (Some n) before cs)
  quiet_from before [] [] r d new m = quiet_here
  quiet_from before (v ∷ vs) (c ∷ cs) r d new m =
      let first : Quiet (choice_line (Some n) before c m) = quiet_choice before v c new.0 r.0 m in
      let more : Quiet (choices (Some n) (before ++ text v ∷ []) cs m) =
      quiet_from (before ++ text v ∷ []) vs cs r.1 d.1 (still_new before v vs r.0.fits (all_fit vs cs r.1) d.0 new.1) m in
      let same : with_label before c.label ≡ before ++ text v ∷ [] = ap (with_label before) r.0.label ∙ ap (λ t. cond t before (before ++ text v ∷ [])) new.0 in
      quiet_then first (subst (λ b. Quiet (choices (Some n) b cs m)) (sym same) more)
  quiet_from before _ _ r d new m = elim r [ ]

  all_new : (vs : List ℕ) → Each (IsNew []) vs
  all_new [] = tt
  all_new (v ∷ vs) = (refl, all_new vs)

  pub quiet_choices : (vs : List ℕ) (cs : List Choice) → RightChoices n vs cs → Distinct vs → QuietLine (choices (Some n) [] cs)
  quiet_choices vs cs r d = quiet_from [] vs cs r d (all_new vs)
