-- The options and flags of a command, read word by word.
use Rattle.std.specs.Prelude.{ℕ, List, [], ◌∷◌, ◌-◌, length, Option, Some, None, true, false, if◌then◌else◌, bytes_eq, codes, is_some}
use Rattle.scc_drive_words.specs.declared.options.Options.{Options}
use Rattle.scc_drive_words.specs.declared.options.Awaiting.{Awaiting}
use Rattle.scc_drive_words.specs.declared.options.Awaiting.TheVariants as awaiting
use Rattle.scc_drive_words.specs.Classes.{is_plain, count_of}

infixl 10 ◌>>=◌
abbrev pub ◌>>=◌ : {A B : Type 0} → Option A → (A → Option B) → Option B
None >>= f = None
(Some x) >>= f = f x

-- none yet
abbrev pub no_options : Options
no_options = record { awaiting = awaiting.Nothing; stim = None; order = None; source = false; migrate = false; hier = false; clocks = false; memory = false }

-- what a word that is an option or flag says; None for another word, and for one that stood before
abbrev pub flagged : Options → List ℕ → Option Options
flagged o w =
    if bytes_eq w (codes "--stim") then (if is_some o.stim then None else Some (record o { awaiting = awaiting.Stim }))
    else if bytes_eq w (codes "--order") then (if is_some o.order then None else Some (record o { awaiting = awaiting.Order }))
    else if bytes_eq w (codes "--source") then (if o.source then None else Some (record o { source = true }))
    else if bytes_eq w (codes "--migrate") then (if o.migrate then None else Some (record o { migrate = true }))
    else if bytes_eq w (codes "--hier") then (if o.hier then None else Some (record o { hier = true }))
    else if bytes_eq w (codes "--clocks") then (if o.clocks then None else Some (record o { clocks = true }))
    else if bytes_eq w (codes "--memory") then (if o.memory then None else Some (record o { memory = true }))
    else None

-- the value of an option is the next word, which doesn't begin with `-`; at is the number of the word
abbrev pub noted_by : Awaiting → ℕ → Options → List ℕ → Option Options
noted_by awaiting.Nothing at o w = flagged o w
noted_by awaiting.Stim at o w = if is_plain w then Some (record o { awaiting = awaiting.Nothing; stim = Some at }) else None
noted_by awaiting.Order at o w = if is_plain w then (count_of w >>= λ n. Some (record o { awaiting = awaiting.Nothing; order = Some n })) else None

abbrev pub noted : ℕ → Options → List ℕ → Option Options
noted at o w = noted_by o.awaiting at o w

-- of so many words the last ones
unfoldable pub options_of : ℕ → Options → List (List ℕ) → Option Options
options_of words o [] = Some o
options_of words o (w ∷ ws) = noted (words - length (w ∷ ws)) o w >>= λ p. options_of words p ws
