-- E601 at the first process that is too large.
use Rattle.std.proofs.Common.{Result, Ok, Err, ◌≡◌, refl, sym, ap, subst, ◌∙◌, arith, ℕ, suc, ◌+◌, List, [], ◌∷◌, map, drop, length, Option, Some, None, slice_get}
use Rattle.std.specs.Prelude.{IfErr}
use Rattle.scc_base.specs.declared.code.Code.TheVariants as reason
use Rattle.scc_base.specs.declared.refusal.Refusal.{Refusal}
use Rattle.scc_base.specs.declared.refusal.Stop.{Stop}
use Rattle.scc_base.specs.declared.refusal.Stop.TheVariants as stop
use Rattle.scc_core_spec.specs.First.{first_numbered, or_else, refused, when}
use Rattle.scc_elab_design.specs.declared.Process.{Process as Running}
use Rattle.scc_elab_spec.specs.Design.{Design}
use Rattle.scc_elab_spec.specs.Program.{Plain}
use Rattle.scc_inline_facts.specs.declared.facts.Facts.{Facts}
use Rattle.scc_inline_facts.specs.Known.{AreFacts, size_of, height_of}
use Rattle.scc_inline_size_laws.specs.Counts.{passes}
use Rattle.scc_inline_size_laws.proofs.Standing.{standing_too_large}
use Rattle.scc_inline_spec.specs.Inlined.{too_large}
use Rattle.scc_plain_view.specs.Designs.{process_of}
use Rattle.scc_inline.specs.Refusals.{IsSized, JudgedStop, Judges, MayChoose, SizedStop}
use Rattle.scc_inline.proofs.Titled.{drop_at}

judged_same : {A : Type 0} (o q : Option Refusal) (r : Result A Stop) → o ≡ q → Judges o r → Judges q r
judged_same o q r e h = subst (λ z. Judges z r) e h

pub judged_is : {A : Type 0} (p : Plain) (known : List (Option Facts)) (q : Running) (x : Facts) (r : Result A Stop) → slice_get known q.function ≡ Some (Some x) → Judges (when (passes x.extent.size x.extent.height) (refused reason.TooLarge q.place)) r
    → AreFacts p known → (d : Design) (i : ℕ) → Judges (too_large p d i (process_of q)) r
judged_is p known q x r there h facts d i =
    judged_same (when (passes x.extent.size x.extent.height) (refused reason.TooLarge q.place)) (too_large p d i (process_of q)) r
    (sym (standing_too_large p (λ n. height_of (slice_get known n)) (λ n. size_of (slice_get known n)) facts d i (process_of q) ∙ ap (λ o. when (passes (size_of o) (height_of o)) (refused reason.TooLarge q.place)) there)) h

other_code : reason.StaticIndex ≡ reason.TooLarge → ⊥
other_code e = absurd cc

pub sized_fits : {A : Type 0} (o : Option Refusal) (r : Result A Stop) → o ≡ None → IfErr r MayChoose → IsSized o r
sized_fits o (Ok a) e h = e
sized_fits o (Err (stop.Refused x)) e h = λ t. absurd (other_code (sym h ∙ t))
sized_fits o (Err stop.NoMemory) e h = tt

pub sized_judged : (o : Option Refusal) (e : Stop) → JudgedStop o e → SizedStop o e
sized_judged o (stop.Refused x) h = λ t. h
sized_judged o stop.NoMemory h = tt

module _ (p : Plain) (d : Design) where
  abbrev pub sized_from : ℕ → List Running → Option Refusal
  sized_from n ps = first_numbered (too_large p d) n (map process_of ps)

  pub sized_next : (ps : List Running) (n : ℕ) (x : Running) (total : Option Refusal) → slice_get ps n ≡ Some x → too_large p d n (process_of x) ≡ None → sized_from n (drop n ps) ≡ total → sized_from (n + 1) (drop (n + 1) ps) ≡ total
  sized_next ps n x total there none inv =
      let k : n + 1 ≡ suc n = omega arith in
      ap (λ i. sized_from i (drop i ps)) k ∙ sym (ap (sized_from n) (drop_at ps n x there) ∙ ap (λ o. or_else o (sized_from (suc n) (drop (suc n) ps))) none) ∙ inv

  pub sized_stops : (ps : List Running) (n : ℕ) (x : Running) (total : Option Refusal) (e : Stop) → slice_get ps n ≡ Some x → SizedStop (too_large p d n (process_of x)) e → sized_from n (drop n ps) ≡ total → SizedStop total e
  sized_stops ps n x total (stop.Refused r) there h inv = λ t. sym inv ∙ ap (sized_from n) (drop_at ps n x there) ∙ ap (λ o. or_else o (sized_from (suc n) (drop (suc n) ps))) (h t)
  sized_stops ps n x total stop.NoMemory there h inv = tt

  pub sized_end : (ps : List Running) (total : Option Refusal) → sized_from (length ps) (drop (length ps) ps) ≡ total → total ≡ None
  sized_end ps total inv = sym inv ∙ ap (sized_from (length ps)) (whole ps)
    where
      whole : {A : Type 0} (xs : List A) → drop (length xs) xs ≡ []
      whole [] = refl
      whole (x ∷ xs) = whole xs
