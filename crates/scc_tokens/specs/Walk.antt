-- The walk over the tokens and directives of files, in order (C++, "Preprocessing directives").
use Rattle.std.specs.Prelude.{ℕ, zero, suc, ◌+◌, ◌-◌, List, [], ◌∷◌, take, length, Bool, true, false, not, ◌&&◌, ◌||◌, ◌==◌, nat_lt, if◌then◌else◌, is_none, Option, Some, None, Result, Ok, Err, slice_get}
use Rattle.std.specs.List.{list_any}
use Rattle.std.specs.Str.{is_utf8}
use Rattle.scc_base.specs.Outside.{Shelf}
use Rattle.scc_base.specs.declared.code.Code.TheVariants as code
use Rattle.scc_base.specs.declared.refusal.Place.{Place}
use Rattle.scc_tokens_directives.specs.declared.directive.Words.{Words}
use Rattle.scc_tokens_directives.specs.declared.directive.Directive.{Directive}
use Rattle.scc_tokens_directives.specs.declared.directive.Directive.TheVariants as directive
use Rattle.scc_tokens_directives.specs.declared.file.File.{File}
use Rattle.scc_tokens_directives.specs.declared.file.Source.{Source}
use Rattle.scc_tokens_directives.specs.declared.included.Operand.{Operand}
use Rattle.scc_tokens_directives.specs.declared.included.Operand.TheVariants as operand
use Rattle.scc_tokens_directives.specs.declared.sides.Side.{Side}
use Rattle.scc_tokens_lexer.specs.declared.token.Token.{Token}
use Rattle.scc_tokens.specs.declared.walk.Joining.{Joining}
use Rattle.scc_tokens_directives.specs.Active.{token_taken}
use Rattle.scc_tokens_directives.specs.Define.{defined, undefined, with_once}
use Rattle.scc_tokens_directives.specs.Directive.{directive_of, is_line_end, line_len}
use Rattle.scc_tokens_directives.specs.File.{is_hash}
use Rattle.scc_tokens.specs.Files.{Asked, asked, number_of}
use Rattle.scc_tokens_directives.specs.Included.{operand_of, quoted, is_own, included_name}
use Rattle.scc_tokens_directives.specs.Lines.{side_opened, side_turned, side_closed}
use Rattle.scc_tokens_directives.specs.Sides.{is_live, opened}
use Rattle.scc_tokens_directives.specs.Steps.{Stopped, Refuses, Step, goes}

-- the directive of a line, with what stands behind its word
abbrev pub split_line : Words → List Token → Directive × List Token
split_line w [] = (directive.Unknown, [])
split_line w (t ∷ ts) = (directive_of w t.kind, ts)

-- a line in text that is left out, where only the nesting of conditionals counts
abbrev pub idle_line : Directive → Token → List Token → List Side → Step (List Side)
idle_line directive.Ifdef hash rest ss = goes (opened false ss)
idle_line directive.Ifndef hash rest ss = goes (opened false ss)
idle_line directive.Else hash rest ss = side_turned hash rest ss
idle_line directive.Endif hash rest ss = side_closed hash rest ss
idle_line _ hash rest ss = goes ss

-- what directives change, and the conditionals that are open
pub record Lines : Type 0 where
  pub state : Joining
  pub sides : List Side

abbrev pub answer : Option Stopped → Bool → Result Bool Stopped
answer None b = Ok b
answer (Some h) b = Err h

abbrev pub on_sides : Lines → Step (List Side) → Lines × Result Bool Stopped
on_sides l s = (record l { sides = s.0 }, answer s.1 false)

-- an active line; true where it includes a file
abbrev pub active_line : Words → ℕ → Option ℕ → Directive → Token → List Token → Lines → Lines × Result Bool Stopped
active_line w file unclosed directive.Ifdef hash rest l = on_sides l (side_opened l.state.macros unclosed true hash rest l.sides)
active_line w file unclosed directive.Ifndef hash rest l = on_sides l (side_opened l.state.macros unclosed false hash rest l.sides)
active_line w file unclosed directive.Else hash rest l = on_sides l (side_turned hash rest l.sides)
active_line w file unclosed directive.Endif hash rest l = on_sides l (side_closed hash rest l.sides)
active_line w file unclosed directive.Define hash rest l =
    let s = defined hash rest l.state.macros in (record l { state = record l.state { macros = s.0 } }, answer s.1 false)
active_line w file unclosed directive.Undef hash rest l =
    let s = undefined hash rest l.state.macros in (record l { state = record l.state { macros = s.0 } }, answer s.1 false)
active_line w file unclosed directive.Pragma hash rest l =
    let s = with_once w file hash rest l.state.once in (record l { state = record l.state { once = s.0 } }, answer s.1 false)
active_line w file unclosed directive.Include hash rest l = (l, Ok true)
active_line w file unclosed directive.Unknown hash rest l = (l, Err (Refuses code.Directive hash.place))

abbrev pub bad_line : {A : Type 0} → Token → Result A Stopped
bad_line hash = Err (Refuses code.Directive hash.place)

abbrev pub quoted_name : Source → Token → Option (List ℕ) → Result (Option (List ℕ)) Stopped
quoted_name source hash None = bad_line hash
quoted_name source hash (Some text) = if is_own text then Ok None else Ok (Some (included_name source.name text))

abbrev pub operand_name : Source → Token → Operand → Result (Option (List ℕ)) Stopped
operand_name source hash operand.Own = Ok None
operand_name source hash (operand.Quoted t) = quoted_name source hash (quoted source.bytes t)
operand_name source hash operand.Other = bad_line hash

-- the name of the file that an inclusion asks for, none for a header of SystemC's own
abbrev pub wanted_name : Words → Source → Token → List Token → Result (Option (List ℕ)) Stopped
wanted_name w source hash rest = operand_name source hash (operand_of w rest)

abbrev pub is_once : List ℕ → Option ℕ → Bool
is_once once None = false
is_once once (Some n) = list_any (λ m. m == n) once

abbrev pub admitted_by : Option ℕ → ℕ → ℕ → Place → Joining → Joining × Result Bool Stopped
admitted_by number files below hash s =
    if not (is_once s.once number) && below == 0 then (s, Err (Refuses code.IncludeDepth hash))
    else if not (nat_lt s.includes 4096) || (is_none number && not (nat_lt files 64)) then (s, Err (Refuses code.TooManyFiles hash))
    else (record s { includes = s.includes + 1 }, Ok (not (is_once s.once number)))

-- counts an inclusion where so many levels may be below; false where the file is included once and was asked for
abbrev pub admitted : List Source → ℕ → Place → List ℕ → Joining → Joining × Result Bool Stopped
admitted sources below hash name s = admitted_by (number_of sources name) (length sources) below hash s

-- bytes as text, none where they are no UTF-8
abbrev pub text_if : List ℕ → Option (List ℕ)
text_if bytes = if is_utf8 bytes then Some bytes else None

-- what joining knows, and the files that were asked for
pub record Full : Type 0 where
  pub state : Joining
  pub asked : Asked

abbrev pub number_asked : Full → Asked × Result ℕ Stopped → Full × Result (Option ℕ) Stopped
number_asked f (a, Ok n) = (record f { asked = a }, Ok (Some n))
number_asked f (a, Err h) = (record f { asked = a }, Err h)

abbrev pub text_asked : Shelf → Words → Place → Full → Option (List ℕ) → Full × Result (Option ℕ) Stopped
text_asked shelf w hash f None = (f, Err (Refuses code.Directive hash))
text_asked shelf w hash f (Some name) = number_asked f (asked shelf w name f.asked)

abbrev pub admitted_asked : Shelf → Words → Place → List ℕ → Full → Result Bool Stopped → Full × Result (Option ℕ) Stopped
admitted_asked shelf w hash name f (Err h) = (f, Err h)
admitted_asked shelf w hash name f (Ok false) = (f, Ok None)
admitted_asked shelf w hash name f (Ok true) = text_asked shelf w hash f (text_if name)

-- the number of the file that an inclusion names, none where it isn't included again
abbrev pub file_included : Shelf → Words → ℕ → Place → List ℕ → Full → Full × Result (Option ℕ) Stopped
file_included shelf w below hash name f =
    let a = admitted f.asked.sources below hash name f.state in
    admitted_asked shelf w hash name (record f { state = a.0 }) a.1

-- what a step gives, and a step with it where the first doesn't stop
abbrev pub then_by : {S A B : Type 0} → Result A Stopped → S → (A → S → S × Result B Stopped) → S × Result B Stopped
then_by (Ok x) s f = f x s
then_by (Err h) s f = (s, Err h)

-- how many tokens were taken, and the name of the file that they include
abbrev pub Taken : Type 0
Taken = ℕ × Option (List ℕ)

abbrev pub taken_with : ℕ → Option Stopped → Result Taken Stopped
taken_with n None = Ok (n, None)
taken_with n (Some h) = Err h

abbrev pub named_with : ℕ → Result (Option (List ℕ)) Stopped → Result Taken Stopped
named_with n (Ok o) = Ok (n, o)
named_with n (Err h) = Err h

abbrev pub live_taken : Words → Source → ℕ → Option ℕ → Token → ℕ → Directive × List Token → Lines → Lines × Result Taken Stopped
live_taken w source number unclosed hash n x l =
    let a = active_line w number unclosed x.0 hash x.1 l in
    then_by a.1 a.0 (λ includes m. if includes then (m, named_with n (wanted_name w source hash x.1)) else (m, Ok (n, None)))

abbrev pub idle_taken : Token → ℕ → Directive × List Token → Lines → Lines × Result Taken Stopped
idle_taken hash n x l = let s = idle_line x.0 hash x.1 l.sides in (record l { sides = s.0 }, taken_with n s.1)

-- a line of a directive behind its `#`, up to its end
abbrev pub line_taken : Words → Source → ℕ → Option ℕ → Token → List Token → Lines → Lines × Result Taken Stopped
line_taken w source number unclosed hash ts l =
    let n = line_len ts in
    if is_live l.sides then live_taken w source number unclosed hash (n + 1) (split_line w (take n ts)) l
    else idle_taken hash (n + 1) (split_line w (take n ts)) l

abbrev pub token_step : Token → Lines → Lines × Result Taken Stopped
token_step t l =
    if is_live l.sides && not (is_line_end t.kind) then (let s = token_taken l.state.macros t l.state.out in (record l { state = record l.state { out = s.0 } }, taken_with 1 s.1))
    else (l, Ok (1, None))

-- What the tokens at the front do: a token is joined where it is active, or a line is taken, whose end then stands at the front.
abbrev pub front_taken : Words → Source → ℕ → Option ℕ → List Token → Lines → Lines × Result Taken Stopped
front_taken w source number unclosed [] l = (l, Ok (1, None))
front_taken w source number unclosed (t ∷ ts) l = if is_hash t.kind then line_taken w source number unclosed t ts l else token_step t l

-- where the first token stands
abbrev pub first_place : List Token → Place
first_place [] = record { file = 0; at = 0 }
first_place (t ∷ ts) = t.place

-- what joining knows within a file
pub record Inside : Type 0 where
  pub state : Joining
  pub asked : Asked
  pub sides : List Side

abbrev pub tokens_at : Option File → List Token
tokens_at None = []
tokens_at (Some f) = f.tokens

abbrev pub tokens_of : List File → ℕ → List Token
tokens_of known number = tokens_at (slice_get known number)

-- how many tokens were taken, and the file that they include
abbrev pub Stepped : Type 0
Stepped = ℕ × Option ℕ

abbrev pub stepped_with : ℕ → List Side → Full × Result (Option ℕ) Stopped → Inside × Result Stepped Stopped
stepped_with n sides (f, Ok o) = (record { state = f.state; asked = f.asked; sides = sides }, Ok (n, o))
stepped_with n sides (f, Err h) = (record { state = f.state; asked = f.asked; sides = sides }, Err h)

abbrev pub name_stepped : Shelf → Words → ℕ → Place → Asked → Lines → Result Taken Stopped → Inside × Result Stepped Stopped
name_stepped shelf w below hash asked l (Err h) = (record { state = l.state; asked = asked; sides = l.sides }, Err h)
name_stepped shelf w below hash asked l (Ok (n, None)) = (record { state = l.state; asked = asked; sides = l.sides }, Ok (n, None))
name_stepped shelf w below hash asked l (Ok (n, Some name)) = stepped_with n l.sides (file_included shelf w below hash name (record { state = l.state; asked = asked }))

abbrev pub found_stepped : Shelf → Words → ℕ → ℕ → List Token → Inside → Option File → Option Source → Inside × Result Stepped Stopped
found_stepped shelf w number below ts x (Some file) (Some source) =
    let t = front_taken w source number file.unclosed ts (record { state = x.state; sides = x.sides }) in
    name_stepped shelf w below (first_place ts) x.asked t.0 t.1
found_stepped shelf w number below ts x f s = (x, Ok (1, None))

-- one step over the tokens of a file
abbrev pub step_taken : Shelf → Words → ℕ → ℕ → List Token → Inside → Inside × Result Stepped Stopped
step_taken shelf w number below ts x = found_stepped shelf w number below ts x (slice_get x.asked.known number) (slice_get x.asked.sources number)

abbrev pub in_file : List Side → Full → Inside
in_file sides f = record { state = f.state; asked = f.asked; sides = sides }

abbrev pub at_file : Inside → Full
at_file x = record { state = x.state; asked = x.asked }

-- a file that is included, and then what follows
abbrev pub entered : (ℕ → Full → Full × Result (Unit {0}) Stopped) → Inside → Option ℕ → (Inside → Full × Result (Unit {0}) Stopped) → Full × Result (Unit {0}) Stopped
entered inner x None rest = rest x
entered inner x (Some m) rest = then_by (inner m (at_file x)).1 (inner m (at_file x)).0 (λ u f. rest (in_file x.sides f))

abbrev pub walk_on : (ℕ → Full → Full × Result (Unit {0}) Stopped) → Inside × Result Stepped Stopped → (ℕ → Inside → Full × Result (Unit {0}) Stopped) → Full × Result (Unit {0}) Stopped
walk_on inner (x, Err h) rest = (at_file x, Err h)
walk_on inner (x, Ok (n, o)) rest = entered inner x o (λ y. rest (n - 1) y)

-- The walk over tokens of a file behind so many of them, where `inner` walks the files that it includes.
unfoldable pub walk_behind : (ℕ → Full → Full × Result (Unit {0}) Stopped) → Shelf → Words → ℕ → ℕ → ℕ → List Token → Inside → Full × Result (Unit {0}) Stopped
walk_behind inner shelf w number below n [] x = (at_file x, Ok tt)
walk_behind inner shelf w number below (suc n) (t ∷ ts) x = walk_behind inner shelf w number below n ts x
walk_behind inner shelf w number below zero (t ∷ ts) x = walk_on inner (step_taken shelf w number below (t ∷ ts) x) (λ n y. walk_behind inner shelf w number below n ts y)

-- The walk over a file: its tokens and directives are taken in order, and an included file's in the place of its directive. So many
-- levels of files there may be, this one counted.
unfoldable pub file_walked : Shelf → Words → ℕ → ℕ → Full → Full × Result (Unit {0}) Stopped
file_walked shelf w zero number f = (f, Ok tt)
file_walked shelf w (suc below) number f =
    walk_behind (file_walked shelf w below) shelf w number below 0 (tokens_of f.asked.known number) (in_file [] f)
