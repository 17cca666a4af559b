-- What the text of a form is.
use Rattle.std.specs.Prelude.{ℕ, List, Bool, true, false}
use Rattle.scc_drive_forms.specs.declared.form.TextForm.{TextForm}
use Rattle.scc_drive_forms.specs.declared.form.TextForm.TheVariants as form
use Rattle.scc_drive_stages.specs.Emitted.{IsEmitted}

-- whether a design in this form may have several clocks
abbrev pub has_clocks : TextForm → Bool
has_clocks form.Hier = false
has_clocks form.Clocks = true
has_clocks form.Memory = false

-- the text of a design whose top has this name; nothing is claimed of modules with instances and of memories
abbrev pub IsFormed : TextForm → List ℕ → List ℕ → Type 0
IsFormed form.Hier top text = Unit {0}
IsFormed form.Clocks top text = IsEmitted true top text
IsFormed form.Memory top text = Unit {0}
