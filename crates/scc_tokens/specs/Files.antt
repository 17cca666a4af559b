-- Files that are read: each is asked for once, numbered in the order in which it is first asked for, and cut into tokens whole.
use Rattle.std.specs.Prelude.{◌≡◌, ℕ, ◌+◌, ◌-◌, ◌*◌, ◌^◌, ◌<◌, ◌≤◌, List, [], ◌∷◌, ◌++◌, map, max, take, length, nat_lt, if◌then◌else◌, Option, Some, None, option_map, position, Result, Ok, Err, bytes_eq}
use Rattle.std.specs.List.{position_or_len}
use Rattle.scc_base.specs.Names.{Keeps}
use Rattle.scc_base.specs.Outside.{Shelf, Told, Rose}
use Rattle.scc_base.specs.declared.code.Code.{Code}
use Rattle.scc_base.specs.declared.code.Code.TheVariants as code
use Rattle.scc_base.specs.declared.refusal.Place.{Place}
use Rattle.scc_tokens_directives.specs.declared.directive.Words.{Words}
use Rattle.scc_tokens_directives.specs.declared.file.File.{File}
use Rattle.scc_tokens_directives.specs.declared.file.Source.{Source}
use Rattle.scc_tokens_directives.specs.declared.halt.Halt.{Halt}
use Rattle.scc_tokens_directives.specs.declared.halt.Halt.TheVariants as halt
use Rattle.scc_tokens_lexer.specs.declared.piece.Form.{Form}
use Rattle.scc_tokens_lexer.specs.declared.piece.Form.TheVariants as form
use Rattle.scc_tokens_lexer.specs.declared.token.Token.{Token}
use Rattle.scc_tokens_lexer.specs.declared.token.TokenKind.{TokenKind}
use Rattle.scc_tokens_lexer.specs.declared.token.TokenKind.TheVariants as kind
use Rattle.scc_tokens_directives.specs.File.{first_unclosed}
use Rattle.scc_tokens_lexer.specs.Numbering.{names_after}
use Rattle.scc_tokens_lexer.specs.Scan.{Scanned, scan}
use Rattle.scc_tokens_lexer.specs.Spelled.{Spelled}
use Rattle.scc_tokens_directives.specs.Steps.{Stopped, Refuses, Absent}

-- the files that were read are what their names hold
abbrev pub HoldsAll : Shelf → List Source → Type 0
HoldsAll shelf [] = Unit {0}
HoldsAll shelf (s ∷ ss) = (shelf s.name ≡ Some s.bytes) × HoldsAll shelf ss

abbrev pub number_in : List (List ℕ) → List ℕ → ℕ
number_in names text = position_or_len (bytes_eq text) names

abbrev pub kind_in : List (List ℕ) → List ℕ → Form → TokenKind
kind_in names text form.Ident = kind.Ident (record { 0 = number_in names text })
kind_in names text form.Outside = kind.Outside (record { 0 = number_in names text })
kind_in names text (form.Word i) = kind.Word i
kind_in names text (form.Mark i) = kind.Mark i
kind_in names text (form.Number k w) = kind.Number k w
kind_in names text form.BadNumber = kind.BadNumber
kind_in names text form.Text = kind.Text
kind_in names text form.Character = kind.Character
kind_in names text form.LineHash = kind.LineHash
kind_in names text form.LineEnd = kind.LineEnd

-- a token with the number of its name
abbrev pub token_in : List (List ℕ) → Spelled → Token
token_in names s = record { kind = kind_in names s.text s.form; place = s.place; len = s.len }

abbrev pub file_with : Words → List Token → File
file_with w ts = record { tokens = ts; unclosed = first_unclosed w ts }

abbrev pub file_by : List (List ℕ) → Words → Scanned → Result File (Code × Place)
file_by names w (Ok done) = Ok (file_with w (map (token_in names) done))
file_by names w (Err e) = Err e

-- the tokens of a file, or its first fault; a file of more than 1,048,576 bytes is too long
abbrev pub file_of : List (List ℕ) → Words → ℕ → List ℕ → Result File (Code × Place)
file_of names w number bytes =
    if nat_lt 1048576 (length bytes) then Err (code.FileTooLong, record { file = number; at = 0 })
    else file_by names w (scan number bytes)

-- the names after a file, of which none is read where it is too long
abbrev pub names_read : List (List ℕ) → List ℕ → List (List ℕ)
names_read names bytes = if nat_lt 1048576 (length bytes) then names else names_after names bytes

-- the files that were asked for, the tokens of those that have no fault, and the names so far
pub record Asked : Type 0 where
  pub known : List File
  pub sources : List Source
  pub names : List (List ℕ)

abbrev pub number_of : List Source → List ℕ → Option ℕ
number_of sources name = position (λ s. bytes_eq s.name name) sources

abbrev pub lexed_by : Asked → ℕ → Result File (Code × Place) → Asked × Result ℕ Stopped
lexed_by a n (Err e) = (a, Err (Refuses e.0 e.1))
lexed_by a n (Ok f) = (record a { known = a.known ++ f ∷ [] }, Ok n)

abbrev pub read_by : Shelf → Words → List ℕ → Asked → Option (List ℕ) → Asked × Result ℕ Stopped
read_by shelf w name a None = (a, Err (Absent name))
read_by shelf w name a (Some bytes) =
    lexed_by (record { known = a.known; sources = a.sources ++ record { name = name; bytes = bytes } ∷ []; names = names_read a.names bytes }) (length a.sources)
    (file_of (names_read a.names bytes) w (length a.sources) bytes)

abbrev pub asked_by : Shelf → Words → List ℕ → Asked → Option ℕ → Asked × Result ℕ Stopped
asked_by shelf w name a (Some n) = (a, Ok n)
asked_by shelf w name a None = read_by shelf w name a (shelf name)

-- the number of the file of a name, which is read where it wasn't asked for before
abbrev pub asked : Shelf → Words → List ℕ → Asked → Asked × Result ℕ Stopped
asked shelf w name a = asked_by shelf w name a (number_of a.sources name)

-- The answer says what the step does where the names of files hold this. A name that was missing, or whose reading failed, counts as not held.
abbrev pub AnswersIn : {S A B : Type 0} → (A → B) → Shelf → S → Result A Halt → S × Result B Stopped → Type 0
AnswersIn view shelf s (Ok x) step = step ≡ (s, Ok (view x))
AnswersIn view shelf s (Err (halt.Refused c p)) step = step ≡ (s, Err (Refuses c p))
AnswersIn view shelf s (Err (halt.Missing n)) step = shelf n ≡ None → step ≡ (s, Err (Absent n))
AnswersIn view shelf s (Err (halt.Failed n)) step = shelf n ≡ None → step ≡ (s, Err (Absent n))
AnswersIn view shelf s (Err halt.NoMemory) step = Unit {0}

-- the most bytes that are asked for
abbrev pub first_part : Shelf → Shelf
first_part shelf name = option_map (take 1048577) (shelf name)

-- the files that were read are the first parts of what the names hold, where that is told
abbrev pub ToldAll : Option Shelf → List Source → Type 0
ToldAll held sources = Told held (λ shelf. HoldsAll (first_part shelf) sources)

-- the file is cut so
abbrev pub FileIs : Result File Halt → Result File (Code × Place) → Type 0
FileIs (Ok f) r = r ≡ Ok f
FileIs (Err (halt.Refused c p)) r = r ≡ Err (c, p)
FileIs (Err (halt.Missing m)) r = ⊥
FileIs (Err (halt.Failed m)) r = ⊥
FileIs (Err halt.NoMemory) r = Unit {0}

-- these are the names, unless memory ran out
abbrev pub NamesStay : {A : Type 0} → Result A Halt → List (List ℕ) → List (List ℕ) → Type 0
NamesStay (Ok x) names n = names ≡ n
NamesStay (Err (halt.Refused c p)) names n = names ≡ n
NamesStay (Err (halt.Missing m)) names n = ⊥
NamesStay (Err (halt.Failed m)) names n = ⊥
NamesStay (Err halt.NoMemory) names n = Unit {0}

-- the file of this name is missing or failed, or memory ran out
abbrev pub IsReadFault : List ℕ → Halt → Type 0
IsReadFault name (halt.Refused c p) = ⊥
IsReadFault name (halt.Missing n) = n ≡ name
IsReadFault name (halt.Failed n) = n ≡ name
IsReadFault name halt.NoMemory = Unit {0}

-- what the files that are handed in say, over some calls: they hold what they held, no count falls, and each fault has its cause
pub record FilesSay (o o' : Option Shelf) (m m' f f' : ℕ) (e : Option Halt) : Type 0 where
  pub kept : o' ≡ o
  pub misses : m ≤ m'
  pub faults : f ≤ f'
  pub missing : (n : List ℕ) → e ≡ Some (halt.Missing n) → Rose m m'
  pub absent : (n : List ℕ) → e ≡ Some (halt.Missing n) → Told o (λ shelf. shelf n ≡ None)
  pub failed : (n : List ℕ) → e ≡ Some (halt.Failed n) → Rose f f'

abbrev pub err_of : {A : Type 0} → Result A Halt → Option Halt
err_of (Ok x) = None
err_of (Err e) = Some e

-- no file that was read has more bytes than are asked for
abbrev pub AllShort : List Source → Type 0
AllShort [] = Unit {0}
AllShort (s ∷ ss) = (length s.bytes ≤ 1048577) × AllShort ss

-- there is room for the names of 130 files, and each file that was read is known
pub record HasRoom (names : List (List ℕ)) (sources : List Source) (known : List File) : Type 0 where
  pub names_fit : length names + 1048577 * (130 - length sources) < 2 ^ 32
  pub few : length sources ≤ 130
  pub even : length known ≡ length sources
  pub short : AllShort sources

abbrev pub Gains : List File → List File → Type 0
Gains old new = (more : List File) × (new ≡ old ++ more)

-- what the files that were read hold
abbrev pub shelf_of : List Source → Shelf
shelf_of [] name = None
shelf_of (s ∷ ss) name = if bytes_eq s.name name then Some s.bytes else shelf_of ss name

-- what reading more files keeps: each is new, and short
pub record Reads (old new : List Source) : Type 0 where
  pub earlier : (shelf : Shelf) → HoldsAll shelf new → HoldsAll shelf old
  pub differ : HoldsAll (shelf_of old) old → HoldsAll (shelf_of new) new
  pub short : AllShort old → AllShort new

-- a file that is missing, or whose reading failed, is none of those that were read
abbrev pub Unread : List Source → Option Halt → Type 0
Unread sources None = Unit {0}
Unread sources (Some (halt.Refused c p)) = Unit {0}
Unread sources (Some (halt.Missing n)) = number_of sources n ≡ None
Unread sources (Some (halt.Failed n)) = number_of sources n ≡ None
Unread sources (Some halt.NoMemory) = Unit {0}

-- what calls that read files do to the files, the names and what was read, whatever they answer
pub record Moves (o o' : Option Shelf) (m m' f f' : ℕ) (names names' : List (List ℕ)) (src src' : List Source) (known known' : List File) (e : Option Halt) : Type 0 where
  pub keeps : Keeps names names'
  pub reads : Reads src src'
  pub grows : Gains known known'
  pub more : length src' ≤ max 64 (length src)
  pub told : ToldAll o src → ToldAll o' src'
  pub says : FilesSay o o' m m' f f' e
  pub unread : Unread src' e
