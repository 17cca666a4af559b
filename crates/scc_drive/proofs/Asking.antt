-- Files that are asked for.
use Rattle.std.proofs.Common.{◌≡◌, ◌≤◌, ℕ, List, length, Option, Some, Result, Ok, Err, ap, sym, subst, ◌∙◌}
use Rattle.std.specs.Prelude.{option_map, take}
use Rattle.scc_base.specs.Outside.{Shelf, Told, HoldsFirst}
use Rattle.scc_tokens_directives.specs.declared.file.Source.{Source}
use Rattle.scc_tokens.specs.Files.{first_part}
use Rattle.scc_drive_errors.specs.declared.stopped.Stopped.{Stopped}
use Rattle.scc_drive_errors.specs.declared.stopped.Stopped.TheVariants as stopped
use Rattle.scc_drive.specs.Stages.{Asked, IsFound, IsHeld}

first_held : (shelf : Shelf) (name bytes : List ℕ) → HoldsFirst shelf name 1048577 bytes → first_part shelf name ≡ Some bytes
first_held shelf name bytes h = ap (option_map (take 1048577)) h.1 ∙ ap Some (sym h.2)

pub is_held : (held : Option Shelf) (name bytes : List ℕ) → Told held (λ shelf. HoldsFirst shelf name 1048577 bytes) → IsHeld held name bytes
is_held held name bytes told shelf e = first_held shelf name bytes (told shelf e)

pub asked_found : (name bytes : List ℕ) (held : Option Shelf) (m m' f f' : ℕ) (r : Result Source Stopped) → IsHeld held name bytes → IsFound name bytes r → Asked name held m m' f f' r
asked_found name bytes held m m' f f' (Ok s) told h =
    let b : bytes ≡ s.bytes = sym (ap (λ (s : Source). s.bytes) h.0) in
    (ap (λ (s : Source). s.name) h.0, subst (λ b. length b ≤ 1048576) b h.1, subst (IsHeld held name) b told)
asked_found name bytes held m m' f f' (Err (stopped.Refused code spot other)) told h = (h.0, h.1, h.2, (bytes, h.3, told))
asked_found name bytes held m m' f f' (Err stopped.NoMemory) told h = tt
asked_found name bytes held m m' f f' (Err stopped.BadWords) told h = absurd h
asked_found name bytes held m m' f f' (Err (stopped.Missing n)) told h = absurd h
asked_found name bytes held m m' f f' (Err (stopped.Failed n)) told h = absurd h
