-- First parts of what is said, one after another.
use Rattle.std.proofs.Common.{◌≡◌, ℕ, List, [], ◌∷◌, length, Option, refl, sym, subst}
use Rattle.std.proofs.Math.Seq.{take-length}
use Rattle.std.proofs.KnownBytes.{Appends-nil}
use Rattle.std.specs.Prelude.{take}
use Rattle.std.specs.Io.KnownBytes.{Appends}
use Rattle.scc_base.specs.Outside.{AppendsPart}
use Rattle.scc_drive.specs.Said.{SaysFaults, SaysPart}
use Rattle.scc_drive_errors.specs.Texts.{memory_text, output_text}

pub whole : (old new : Option (List ℕ)) (text : List ℕ) → Appends old new text → AppendsPart old new text
whole old new text p = (length text, subst (Appends old new) (sym (take-length text)) p)

no_bytes : (text : List ℕ) → take 0 text ≡ []
no_bytes [] = refl
no_bytes (b ∷ bs) = refl

nothing : (old : Option (List ℕ)) (text : List ℕ) → AppendsPart old old text
nothing old text = (0, subst (Appends old old) (sym (no_bytes text)) (Appends-nil old))

pub no_faults : (old : Option (List ℕ)) → SaysFaults old old
no_faults old = (old, nothing old memory_text, nothing old output_text)

pub output_alone : (old new : Option (List ℕ)) → AppendsPart old new output_text → SaysFaults old new
output_alone old new p = (old, nothing old memory_text, p)

pub memory_whole : (old new : Option (List ℕ)) → Appends old new memory_text → SaysFaults old new
memory_whole old new p = (new, whole old new memory_text p, nothing new output_text)

pub memory_part : (old new : Option (List ℕ)) → AppendsPart old new memory_text → SaysFaults old new
memory_part old new p = (new, p, nothing new output_text)

pub memory_more : (text : List ℕ) (old middle new : Option (List ℕ)) → text ≡ memory_text → AppendsPart old middle text → AppendsPart middle new output_text → SaysFaults old new
memory_more text old middle new e p q = (middle, subst (AppendsPart old middle) e p, q)

pub part_whole : (text : List ℕ) (old new : Option (List ℕ)) → Appends old new text → SaysPart text old new
part_whole text old new p = (new, whole old new text p, no_faults new)

pub part_faults : (text : List ℕ) (old middle new : Option (List ℕ)) → AppendsPart old middle text → SaysFaults middle new → SaysPart text old new
part_faults text old middle new p q = (middle, p, q)

pub part_output : (text : List ℕ) (old middle new : Option (List ℕ)) → AppendsPart old middle text → AppendsPart middle new output_text → SaysPart text old new
part_output text old middle new p q = (middle, p, output_alone middle new q)

pub faults_alone : (text : List ℕ) (old new : Option (List ℕ)) → SaysFaults old new → SaysPart text old new
faults_alone text old new p = (old, nothing old text, p)
