-- What compiling joined files answers, by what they come to.
use Rattle.std.proofs.Common.{◌≡◌, ℕ, List, Option, Some, None, Result, Ok, Err, ap, sym, subst}
use Rattle.std.specs.Prelude.{IfErr, IfOk, false}
use Rattle.scc_svtext.specs.ModuleText.{module_text}
use Rattle.scc_grammar.specs.Claim.{IsReadFile}
use Rattle.scc_drive_forms.specs.declared.form.TextForm.{TextForm}
use Rattle.scc_drive_forms.specs.Formed.{IsFormed, has_clocks}
use Rattle.scc_drive_stages.specs.Emitted.{IsEmitted}
use Rattle.scc_thin.specs.declared.design.Design.{Design}
use Rattle.scc_thin.specs.Thin.{thin_of}
use Rattle.scc_thin_module.specs.Emitted.{module_of}
use Rattle.scc_thin_module.specs.Identifiers.{AreIdentifiers}
use Rattle.scc_thin_module.proofs.Matching.{matches}
use Rattle.scc_thin_module.proofs.Shown.{thin_shown, thin_faultless}
use Rattle.scc_drive.specs.declared.joining.Read.{Read}
use Rattle.scc_drive_errors.specs.declared.stopped.Stopped.{Stopped}
use Rattle.scc_drive_errors.specs.declared.stopped.Stopped.TheVariants as stopped
use Rattle.scc_drive.specs.CommandOutcome.{reads, outcome_of_design}
use Rattle.scc_drive.specs.Outcome.{compiling, forming, listing, compiles}
use Rattle.scc_drive.specs.Stages.{Gives, ReadOutcome}
use Rattle.scc_drive.specs.Stops.{IsLater}
use Rattle.scc_drive.proofs.Wider.{wider_stops, wider_writes}

module _ (top : List ℕ) (read : Read) (file : IsReadFile read.joined read.tree) where
  comes_by : (o : Option Design) → thin_of read.names top read.joined.tokens ≡ o → ReadOutcome compiling top read (outcome_of_design read.sources o)
  comes_by o e = subst (ReadOutcome compiling top read) (ap (outcome_of_design read.sources) e) (reads read.tree file)

  -- the answers of a thin text
  pub thin_gives : (d : Design) (r : Result (List ℕ) Stopped) → AreIdentifiers read.names → thin_of read.names top read.joined.tokens ≡ Some d
      → IfOk r (λ text. text ≡ module_text (module_of d)) → IfErr r (λ s. s ≡ stopped.NoMemory) → Gives (ReadOutcome compiling top read) top r
  thin_gives d (Ok text) h e p q = (
    compiles d,
    comes_by (Some d) e,
    record {
      emitted = module_of d;
      reads = record { sound = thin_faultless read.names top read.joined.tokens d h e; text = p };
      matches = matches d;
      shows = thin_shown read.names top read.joined.tokens d e;
    },
  )
  thin_gives d (Err s) h e p q = subst (λ s. Gives (ReadOutcome compiling top read) top (Err s)) (sym q) tt

  -- the answers of another
  pub later_gives : (r : Result (List ℕ) Stopped) → thin_of read.names top read.joined.tokens ≡ None → IfOk r (λ text. IsEmitted false top text) → IfErr r (IsLater false read.sources)
      → Gives (ReadOutcome compiling top read) top r
  later_gives (Ok text) e p q = wider_writes (ReadOutcome compiling top read) top compiling read.sources (comes_by None e) text p
  later_gives (Err s) e p q = wider_stops (ReadOutcome compiling top read) top compiling read.sources (comes_by None e) false s (λ code spot other x. x) q

  pub forming_stops : (form : TextForm) (s : Stopped) → IsLater (has_clocks form) read.sources s → Gives (ReadOutcome (forming form) top read) top (Err s)
  forming_stops form s q = wider_stops (ReadOutcome (forming form) top read) top (forming form) read.sources (reads read.tree file) (has_clocks form) s (λ code spot other x. x) q

  pub forming_writes : (form : TextForm) (text : List ℕ) → IsFormed form top text → Gives (ReadOutcome (forming form) top read) top (Ok text)
  forming_writes form text w = wider_writes (ReadOutcome (forming form) top read) top (forming form) read.sources (reads read.tree file) text w

  pub listing_stops : (s : Stopped) → IsLater false read.sources s → Gives (ReadOutcome listing top read) top (Err s)
  listing_stops s q = wider_stops (ReadOutcome listing top read) top listing read.sources (reads read.tree file) false s (λ code spot other x. x) q

  pub listing_writes : (text : List ℕ) → Gives (ReadOutcome listing top read) top (Ok text)
  listing_writes text = wider_writes (ReadOutcome listing top read) top listing read.sources (reads read.tree file) text tt
