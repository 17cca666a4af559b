-- The words of a command.
use Rattle.std.specs.Prelude.{ℕ, List, [], map, take, drop, slice_get, option_map, unwrap_or, Option, Bool, is_some, string_bytes, String}
use Rattle.std.specs.declared.alloc.Global.{Global}
use Rattle.scc_drive_words.specs.declared.command.Command.{Command}
use Rattle.scc_drive_words.specs.Commands.{command_of}

-- the command that the words make
abbrev pub command_by : List (String Global) → Option Command
command_by words = command_of (map string_bytes words)

-- the words keep the rules on words
unfoldable pub are_words : List (String Global) → Bool
are_words words = is_some (command_by words)

-- the bytes of a word, none where there is none
abbrev pub word_at : List (String Global) → ℕ → List ℕ
word_at ws i = unwrap_or (option_map string_bytes (slice_get ws i)) []

-- the names of the files that are joined: so many words from word 2 on
abbrev pub roots_of : List (String Global) → ℕ → List (List ℕ)
roots_of words count = map string_bytes (take count (drop 2 words))
