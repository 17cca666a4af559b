-- The whole theorem: all that is promised of a run of the program, where it is told what the names of files hold. This project's own.
use Rattle.std.specs.Prelude.{◌≡◌, ◌⊎◌, ℕ, Bool, true, false, List, Option, Some, None, String, bytes_eq, if◌then◌else◌, option_map}
use Rattle.std.specs.declared.alloc.Global.{Global}
use Rattle.std.specs.Io.KnownBytes.{Appends}
use Rattle.scc_base.specs.Outside.{Shelf, Rose, AppendsPart}
use Rattle.scc_base.specs.declared.refusal.Refusal.{Refusal}
use Rattle.scc_tokens_directives.specs.declared.file.Source.{Source}
use Rattle.scc_drive_errors.specs.Spots.{spot_of}
use Rattle.scc_drive_errors.specs.Texts.{refusal_text, words_text, missing_text, failed_text}
use Rattle.scc_drive_spec.specs.Words.{word_at}
use Rattle.scc_drive_spec.specs.Comes.{Accepted}
use Rattle.scc_drive_spec.specs.Timely.{IsTimely}
use Rattle.scc_drive_spec.specs.Output.{Output, compiles, simulates, lists, traces, generates, says, IsOutput}
use Rattle.scc_drive_spec.specs.Answer.{Answer, bad, refused, absent, writes, CommandComes}

-- the accepted source of an output
abbrev pub source_in : Output → Option Accepted
source_in (compiles f a) = Some a
source_in (simulates way a) = Some a
source_in (lists a) = Some a
source_in (traces f m stimulus) = None
source_in (generates n a) = Some a
source_in (says t) = None

-- A text is the output to which the words come, so that the source is accepted, where there is one; and what holds of each accepted source holds of it.
pub record IsAnswered (shelf : Shelf) (words : List (String Global)) (text : List ℕ) : Type 0 where
  pub output : Output
  pub comes : CommandComes shelf words (writes output)
  pub is : IsOutput (word_at words 1) output text
  pub timely : (a : Accepted) → source_in output ≡ Some a → IsTimely a

-- 0: such a text was written
pub record IsDone (shelf : Shelf) (words : List (String Global)) (out out' : Option (List ℕ)) : Type 0 where
  pub text : List ℕ
  pub answered : IsAnswered shelf words text
  pub written : Appends out out' text

-- what is said of a refusal, with its places
abbrev pub text_of_refusal : List Source → Refusal → List ℕ
text_of_refusal sources r = refusal_text r.code (spot_of sources r.place) (option_map (spot_of sources) r.other)

-- 1: the words come to this refusal, and it was said
pub record IsRefused (shelf : Shelf) (words : List (String Global)) (err err' : Option (List ℕ)) : Type 0 where
  pub sources : List Source
  pub refusal : Refusal
  pub comes : CommandComes shelf words (refused sources refusal)
  pub said : Appends err err' (text_of_refusal sources refusal)

-- what these names hold, but nothing at this one
abbrev pub without : List ℕ → Shelf → Shelf
without name shelf n = if bytes_eq n name then None else shelf n

-- 3: the words stop for want of this file, and it was said
pub record IsMissing (shelf : Shelf) (words : List (String Global)) (misses misses' : ℕ) (err err' : Option (List ℕ)) : Type 0 where
  pub name : List ℕ
  pub rose : Rose misses misses'
  pub comes : CommandComes shelf words (absent name)
  pub said : Appends err err' (missing_text name)

-- 3: the file of this name failed, for which the words ask: they would stop for want of it, were it not there; or they do so now
pub record HasFailed (shelf : Shelf) (words : List (String Global)) (faults faults' : ℕ) (err err' : Option (List ℕ)) : Type 0 where
  pub name : List ℕ
  pub rose : Rose faults faults'
  pub asks : CommandComes (without name shelf) words (absent name) ⊎ CommandComes shelf words (absent name)
  pub said : Appends err err' (failed_text name)

-- 4 and 5: nothing was written, or a first part of a text that meets what status 0 says
abbrev pub IsPart : Shelf → List (String Global) → (out out' : Option (List ℕ)) → Type 0
IsPart shelf words out out' = (out' ≡ out) ⊎ ((text : List ℕ) × IsAnswered shelf words text × AppendsPart out out' text)

-- whether files are asked for
abbrev pub asks : Output → Bool
asks (compiles f a) = true
asks (simulates way a) = true
asks (lists a) = true
asks (traces f m stimulus) = true
asks (generates n a) = false
asks (says t) = false

-- The status, by what the words come to. Memory may run out, and an output may fail; and where files are asked for, one may fail.
abbrev pub EndsBy : Answer → (faults faults' status : ℕ) → Type 0
EndsBy bad f f' status = (status ≡ 2) ⊎ (status ≡ 4) ⊎ (status ≡ 5)
EndsBy (refused sources r) f f' status = (status ≡ 1) ⊎ (status ≡ 4) ⊎ (status ≡ 5) ⊎ ((status ≡ 3) × Rose f f')
EndsBy (absent name) f f' status = (status ≡ 3) ⊎ (status ≡ 4) ⊎ (status ≡ 5)
EndsBy (writes o) f f' status = (status ≡ 0) ⊎ (status ≡ 4) ⊎ (status ≡ 5) ⊎ ((status ≡ 3) × (asks o ≡ true) × Rose f f')

-- The whole theorem of one run: by its status, what it wrote and said; and its status, by what the words come to.
pub record WholeTheorem (shelf : Shelf) (words : List (String Global)) (status misses misses' faults faults' : ℕ) (out out' err err' : Option (List ℕ)) : Type 0 where
  pub done : status ≡ 0 → IsDone shelf words out out'
  pub refuses : status ≡ 1 → IsRefused shelf words err err'
  pub bad_words : status ≡ 2 → CommandComes shelf words bad × Appends err err' words_text
  pub missing : status ≡ 3 → IsMissing shelf words misses misses' err err' ⊎ HasFailed shelf words faults faults' err err'
  -- with these three nothing was written
  pub kept : (status ≡ 1) ⊎ (status ≡ 2) ⊎ (status ≡ 3) → out' ≡ out
  pub part : (status ≡ 4) ⊎ (status ≡ 5) → IsPart shelf words out out'
  -- so a good source is compiled, and a refused one is refused, but for want of memory and faults of the outside
  pub ends : (x : Answer) → CommandComes shelf words x → EndsBy x faults faults' status
