-- Joined files: the tokens of the roots in order, with macros carrying on from root to root.
use Rattle.std.specs.Prelude.{◌≡◌, ℕ, List, [], ◌∷◌, length, nat_lt, if◌then◌else◌, Option, Some, None, Result, Ok, Err, slice_get}
use Rattle.scc_base.specs.Outside.{Shelf}
use Rattle.scc_base.specs.declared.code.Code.{Code}
use Rattle.scc_base.specs.declared.code.Code.TheVariants as code
use Rattle.scc_base.specs.declared.refusal.Place.{Place}
use Rattle.scc_base.specs.declared.refusal.Stop.TheVariants as stop
use Rattle.scc_tokens_directives.specs.declared.directive.Words.{Words}
use Rattle.scc_tokens_directives.specs.declared.file.Source.{Source}
use Rattle.scc_tokens_directives.specs.declared.halt.Halt.{Halt}
use Rattle.scc_tokens_directives.specs.declared.halt.Halt.TheVariants as halt
use Rattle.scc_tokens.specs.declared.joining.Joined.{Joined}
use Rattle.scc_tokens.specs.declared.joining.JoinFault.{JoinFault}
use Rattle.scc_tokens.specs.declared.joining.JoinFault.TheVariants as fault
use Rattle.scc_tokens_directives.specs.declared.out.Out.{Out}
use Rattle.scc_tokens_lexer.specs.declared.token.Token.{Token}
use Rattle.scc_tokens.specs.declared.walk.Joining.{Joining}
use Rattle.scc_tokens.specs.Files.{Asked, HoldsAll, asked, first_part}
use Rattle.scc_tokens_directives.specs.Directive.{words_in, with_names, word_texts}
use Rattle.scc_tokens_directives.specs.Out.{flushed}
use Rattle.scc_tokens_directives.specs.Steps.{Stopped, Refuses, Absent}
use Rattle.scc_tokens.specs.Walk.{Full, file_walked, then_by}

-- what joining knows at the start: the macro `SCC_SYNTHESIS`, which has no tokens
abbrev pub starts : Words → Joining
starts w = record { once = []; macros = (w.synthesis.0, Some []) ∷ []; out = record { tokens = []; scope = None; uses = 0 }; includes = 0 }

-- A refusal stands after that of a word which waits for a `::` and has no room.
abbrev pub settled_at : Out → Option Token → Halt → Halt
settled_at o None h = h
settled_at o (Some t) h = if nat_lt (length o.tokens) 262144 then h else halt.Refused code.TooManyTokens t.place

abbrev pub settled : Out → Halt → Halt
settled o halt.NoMemory = halt.NoMemory
settled o (halt.Refused c p) = settled_at o o.scope (halt.Refused c p)
settled o (halt.Missing n) = halt.Missing n
settled o (halt.Failed n) = halt.Failed n

abbrev pub fault_err : Halt → JoinFault
fault_err (halt.Refused c p) = fault.Stop (stop.Refused (record { code = c; place = p; other = None }))
fault_err (halt.Missing n) = fault.Missing n
fault_err (halt.Failed n) = fault.Failed n
fault_err halt.NoMemory = fault.Stop stop.NoMemory

abbrev pub number_after : ℕ → Full × Result (Unit {0}) Stopped → Full × Result ℕ Stopped
number_after n (f, Ok u) = (f, Ok n)
number_after n (f, Err h) = (f, Err h)

abbrev pub asked_walked : Shelf → Words → Full → Asked × Result ℕ Stopped → Full × Result ℕ Stopped
asked_walked shelf w f (a, Err h) = (record f { asked = a }, Err h)
asked_walked shelf w f (a, Ok n) = number_after n (file_walked shelf w 16 n (record f { asked = a }))

-- one root: its file is asked for and walked; its number
abbrev pub root_joined : Shelf → Words → List ℕ → Full → Full × Result ℕ Stopped
root_joined shelf w name f = asked_walked shelf w f (asked shelf w name f.asked)

-- the roots in order; the number of the last
abbrev pub roots_joined : Shelf → Words → List (List ℕ) → ℕ → Full → Full × Result ℕ Stopped
roots_joined shelf w [] last f = (f, Ok last)
roots_joined shelf w (r ∷ rs) last f = then_by (root_joined shelf w r f).1 (root_joined shelf w r f).0 (λ n g. roots_joined shelf w rs n g)

abbrev pub length_at : Option Source → ℕ
length_at None = 0
length_at (Some s) = length s.bytes

abbrev pub joined_with : List Source → ℕ → Out → Option Stopped → Result Joined Stopped
joined_with sources last o None = Ok (record { tokens = o.tokens; end = record { file = last; at = length_at (slice_get sources last) } })
joined_with sources last o (Some h) = Err h

-- the joined tokens, and the end of the last root
abbrev pub finished : List Source → ℕ → Out → Result Joined Stopped
finished sources last o = joined_with sources last (flushed o).0 (flushed o).1

abbrev pub stopped_at : Out → Option Token → Code → Place → Stopped
stopped_at o None c p = Refuses c p
stopped_at o (Some t) c p = if nat_lt (length o.tokens) 262144 then Refuses c p else Refuses code.TooManyTokens t.place

abbrev pub stop_settled : Out → Stopped → Stopped
stop_settled o (Refuses c p) = stopped_at o o.scope c p
stop_settled o (Absent n) = Absent n

-- the names after it, the files that were read, and what is joined, or where and why joining stops
abbrev pub Ended : Type 0
Ended = List (List ℕ) × List Source × Result Joined Stopped

abbrev pub roots_finished : Full × Result ℕ Stopped → Ended
roots_finished (f, Ok last) = (f.asked.names, f.asked.sources, finished f.asked.sources last f.state.out)
roots_finished (f, Err h) = (f.asked.names, f.asked.sources, Err (stop_settled f.state.out h))

abbrev pub joined_from : Shelf → List (List ℕ) → List (List ℕ) → Ended
joined_from shelf names roots =
    roots_finished (roots_joined shelf (words_in names) roots 0 (record { state = starts (words_in names); asked = record { known = []; sources = []; names = names } }))

-- What the roots join to where the names of files hold this and the table has these names, to which those of the directives and of the
-- files are added in the order in which they are met.
unfoldable pub join_of : Shelf → List (List ℕ) → List (List ℕ) → Ended
join_of shelf names roots = joined_from shelf (with_names names word_texts) roots

-- What an answer says: the joined tokens; a refusal, of which only the place is given; a file that isn't held, where that is so. A file
-- whose reading failed stops joining as one that isn't held does. Want of memory says nothing.
abbrev pub JoinSays : Shelf → List (List ℕ) → List Source → Result Joined JoinFault → Ended → Type 0
JoinSays shelf names sources (Ok j) r = r ≡ (names, sources, Ok j)
JoinSays shelf names sources (Err (fault.Stop (stop.Refused x))) r = (r ≡ (names, sources, Err (Refuses x.code x.place))) × (x.other ≡ None)
JoinSays shelf names sources (Err (fault.Stop stop.NoMemory)) r = Unit {0}
JoinSays shelf names sources (Err (fault.Missing n)) r = shelf n ≡ None → r ≡ (names, sources, Err (Absent n))
JoinSays shelf names sources (Err (fault.Failed n)) r = shelf n ≡ None → r ≡ (names, sources, Err (Absent n))

-- what a shelf that holds the files that were read may lack
abbrev pub LacksFault : Shelf → Result Joined JoinFault → Type 0
LacksFault shelf (Ok j) = Unit {0}
LacksFault shelf (Err (fault.Stop s)) = Unit {0}
LacksFault shelf (Err (fault.Missing n)) = shelf n ≡ None
LacksFault shelf (Err (fault.Failed n)) = shelf n ≡ None

-- Some files hold what was read, and none of them is one that is missing or whose reading failed.
abbrev pub Somewhere : List Source → Result Joined JoinFault → Type 0
Somewhere sources result = (shelf : Shelf) × HoldsAll (first_part shelf) sources × LacksFault shelf result

abbrev pub fault_halt : Result Joined JoinFault → Option Halt
fault_halt (Ok j) = None
fault_halt (Err (fault.Stop s)) = None
fault_halt (Err (fault.Missing n)) = Some (halt.Missing n)
fault_halt (Err (fault.Failed n)) = Some (halt.Failed n)
