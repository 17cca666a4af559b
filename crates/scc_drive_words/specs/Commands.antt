-- Commands by their words.
use Rattle.std.specs.Prelude.{ℕ, List, [], ◌∷◌, ◌-◌, ◌+◌, Option, Some, None, Bool, true, false, not, ◌&&◌, ◌||◌, nat_le, nat_eq, if◌then◌else◌, bytes_eq, codes, is_some, drop, length}
use Rattle.std.specs.List.{prefix_len}
use Rattle.scc_drive_words.specs.declared.command.Command.{Command}
use Rattle.scc_drive_words.specs.declared.command.Command.TheVariants as command
use Rattle.scc_drive_words.specs.declared.command.Form.{Form}
use Rattle.scc_drive_words.specs.declared.command.Form.TheVariants as form
use Rattle.scc_drive_words.specs.declared.command.SvForm.{SvForm}
use Rattle.scc_drive_words.specs.declared.command.SvForm.TheVariants as sv_form
use Rattle.scc_drive_words.specs.declared.command.SimWay.{SimWay}
use Rattle.scc_drive_words.specs.declared.command.SimWay.TheVariants as sim_way
use Rattle.scc_drive_words.specs.declared.options.Options.{Options}
use Rattle.scc_drive_words.specs.declared.options.Awaiting.{Awaiting}
use Rattle.scc_drive_words.specs.declared.options.Awaiting.TheVariants as awaiting
use Rattle.scc_drive_words.specs.Classes.{is_top, is_plain, count_of}
use Rattle.scc_drive_words.specs.Options.{no_options, options_of, ◌>>=◌}

-- `compile`: one of its three flags at most
abbrev pub form_of : Options → Option Form
form_of o =
    if is_some o.stim || is_some o.order || o.source || o.migrate then None
    else if o.hier then (if o.clocks || o.memory then None else Some form.Hier)
    else if o.clocks then (if o.memory then None else Some form.Clocks)
    else if o.memory then Some form.Memory
    else Some form.Whole

abbrev pub way_by : Option ℕ → SimWay
way_by (Some n) = sim_way.Order n
way_by None = sim_way.Whole

-- `sim`: one of `--order`, `--migrate` and `--clocks` at most
abbrev pub way_of : Options → Option SimWay
way_of o =
    if o.source || o.hier || o.memory then None
    else if o.migrate then (if o.clocks || is_some o.order then None else Some sim_way.Migrate)
    else if o.clocks then (if is_some o.order then None else Some sim_way.Clocks)
    else Some (way_by o.order)

-- `svsim`: one of `--hier` and `--clocks` at most
abbrev pub sv_form_of : Options → Option SvForm
sv_form_of o =
    if is_some o.order || o.source || o.migrate || o.memory then None
    else if o.hier then (if o.clocks then None else Some sv_form.Hier)
    else if o.clocks then Some sv_form.Clocks
    else Some sv_form.Whole

abbrev pub has_flag : Options → Bool
has_flag o = o.migrate || o.hier || o.clocks || o.memory

abbrev pub has_option : Options → Bool
has_option o = is_some o.stim || is_some o.order

-- a module's name, and 1 to 64 files
abbrev pub names_module : List ℕ → ℕ → Bool
names_module top n = is_top top && nat_le 3 n && nat_le n 66

abbrev pub compile_by : List ℕ → ℕ → Options → Option Command
compile_by top n o = if names_module top n then (form_of o >>= λ f. Some (command.Compile (n - 2) f)) else None

abbrev pub sim_by : List ℕ → ℕ → Options → Option Command
sim_by top n o = if names_module top n then (o.stim >>= λ s. way_of o >>= λ w. Some (command.Sim (n - 2) s w)) else None

abbrev pub svsim_by : List ℕ → ℕ → Options → Option Command
svsim_by top n o = if is_top top && nat_eq n 3 then (o.stim >>= λ s. sv_form_of o >>= λ f. Some (command.Svsim s f)) else None

abbrev pub list_by : List ℕ → ℕ → Options → Option Command
list_by top n o = if names_module top n && not (has_option o || has_flag o || o.source) then Some (command.List (n - 2)) else None

abbrev pub gen_by : List ℕ → ℕ → Options → Option Command
gen_by top n o = if nat_eq n 2 && not (has_option o || has_flag o) then (count_of top >>= λ k. Some (command.Gen k o.source)) else None

abbrev pub command_by : List ℕ → List ℕ → ℕ → Options → Option Command
command_by action top n o =
    if bytes_eq action (codes "compile") then compile_by top n o
    else if bytes_eq action (codes "sim") then sim_by top n o
    else if bytes_eq action (codes "svsim") then svsim_by top n o
    else if bytes_eq action (codes "list") then list_by top n o
    else if bytes_eq action (codes "gen") then gen_by top n o
    else None

abbrev pub is_nothing : Awaiting → Bool
is_nothing awaiting.Nothing = true
is_nothing _ = false

abbrev pub finished : List ℕ → List ℕ → ℕ → Options → Option Command
finished action top n o = if is_nothing o.awaiting then command_by action top n o else None

-- the options that stand behind the plain ones of some words, the last of n words
abbrev pub options_behind : ℕ → List (List ℕ) → Option Options
options_behind n ws = options_of n no_options (drop (prefix_len is_plain ws) ws)

abbrev pub commanded : ℕ → List ℕ → List ℕ → List (List ℕ) → Option Command
commanded n action top ws =
    if is_plain action && is_plain top
    then (options_behind n ws >>= λ o. finished action top (2 + prefix_len is_plain ws) o)
    else None

-- The words that are no options come first; then come options and flags in any order, each at most once.
unfoldable pub command_of : List (List ℕ) → Option Command
command_of [] = None
command_of (action ∷ []) = None
command_of (action ∷ top ∷ ws) = commanded (length (action ∷ top ∷ ws)) action top ws
