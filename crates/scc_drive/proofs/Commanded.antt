-- What a command comes to, by its words.
use Rattle.std.proofs.Common.{◌≡◌, ℕ, true, false, List, Option, Some, None, Result, Ok, Err, String, ap, sym, subst, inl, inr}
use Rattle.std.specs.Prelude.{is_some}
use Rattle.std.specs.declared.alloc.Global.{Global}
use Rattle.scc_base.specs.Outside.{Shelf}
use Rattle.scc_drive_words.specs.declared.command.Command.{Command}
use Rattle.scc_drive_errors.specs.declared.stopped.Stopped.{Stopped}
use Rattle.scc_drive_errors.specs.declared.stopped.Stopped.TheVariants as stopped
use Rattle.scc_drive.specs.Answer.{AnswersBy, Answers, Asks, ComesFor, without}
use Rattle.scc_drive.specs.CommandOutcome.{CommandOutcome, WordsOutcome, CommandOutcomeBy}
use Rattle.scc_drive.specs.Outcome.{Outcome}
use Rattle.scc_drive.specs.Stages.{Gives}
use Rattle.scc_drive_spec.specs.Words.{command_by, are_words, word_at}

asks_wider : (C D : Shelf → Outcome → Type 0) (name : List ℕ) (shelf : Shelf) → ((shelf : Shelf) (o : Outcome) → C shelf o → D shelf o) → Asks C name shelf → Asks D name shelf
asks_wider C D name shelf i (inl x) = inl (x.0, i (without name shelf) x.0 x.1, x.2)
asks_wider C D name shelf i (inr x) = inr (x.0, i shelf x.0 x.1, x.2)

-- what is answered of something is answered of what it is a part of
answers_wider : (C D : Shelf → Outcome → Type 0) (top : List ℕ) (held : Option Shelf) (m m' f f' : ℕ) (r : Result (List ℕ) Stopped) → ((shelf : Shelf) (o : Outcome) → C shelf o → D shelf o)
    → AnswersBy C top held m m' f f' r → AnswersBy D top held m m' f f' r
answers_wider C D top held m m' f f' (Ok text) i a =
    ((a.0.0, (a.0.1.0, i a.0.0 a.0.1.0 a.0.1.1, a.0.1.2)), λ shelf e. let x = a.1 shelf e in (x.0, i shelf x.0 x.1, x.2))
answers_wider C D top held m m' f f' (Err (stopped.Refused code spot other)) i a =
    ((a.0.0, (a.0.1.0, i a.0.0 a.0.1.0 a.0.1.1, a.0.1.2)), λ shelf e. let x = a.1 shelf e in (x.0, i shelf x.0 x.1, x.2))
answers_wider C D top held m m' f f' (Err stopped.NoMemory) i a = tt
answers_wider C D top held m m' f f' (Err stopped.BadWords) i a = absurd a
answers_wider C D top held m m' f f' (Err (stopped.Missing n)) i a =
    (a.0, (a.1.0, (a.1.1.0, i a.1.0 a.1.1.0 a.1.1.1, a.1.1.2)), (λ shelf e. let x = a.2 shelf e in (x.0, i shelf x.0 x.1, x.2)), a.3)
answers_wider C D top held m m' f f' (Err (stopped.Failed n)) i a =
    (a.0, (a.1.0, (a.1.1.0, i a.1.0 a.1.1.0 a.1.1.1, a.1.1.2)), λ shelf e. asks_wider C D n shelf i (a.2 shelf e))

module _ (words : List (String Global)) where
  comes_as : (c : Command) → Some c ≡ command_by words → (shelf : Shelf) (o : Outcome) → CommandOutcomeBy c words shelf o → ComesFor words shelf o
  unfolding CommandOutcome
  comes_as c e shelf o x = subst (λ d. WordsOutcome d words shelf o) e x

  good : (c : Command) → Some c ≡ command_by words → are_words words ≡ true
  unfolding are_words
  good c e = sym (ap is_some e)

  pub bad_words : None ≡ command_by words → are_words words ≡ false
  unfolding are_words
  bad_words e = sym (ap is_some e)

  pub command_answers : (c : Command) (held : Option Shelf) (m m' f f' : ℕ) (r : Result (List ℕ) Stopped) → Some c ≡ command_by words
      → AnswersBy (CommandOutcomeBy c words) (word_at words 1) held m m' f f' r → Answers words held m m' f f' r
  command_answers c held m m' f f' r e a = inr (inl (good c e, answers_wider (CommandOutcomeBy c words) (ComesFor words) (word_at words 1) held m m' f f' r (comes_as c e) a))

pub gives_answers : (C : Outcome → Type 0) (top : List ℕ) (held : Option Shelf) (m m' f f' : ℕ) (r : Result (List ℕ) Stopped) → Gives C top r → AnswersBy (λ shelf o. C o) top held m m' f f' r
gives_answers C top held m m' f f' (Ok text) g = (((λ name. None), g), λ shelf e. g)
gives_answers C top held m m' f f' (Err (stopped.Refused code spot other)) g = (((λ name. None), g), λ shelf e. g)
gives_answers C top held m m' f f' (Err stopped.NoMemory) g = tt
gives_answers C top held m m' f f' (Err stopped.BadWords) g = absurd g
gives_answers C top held m m' f f' (Err (stopped.Missing n)) g = absurd g
gives_answers C top held m m' f f' (Err (stopped.Failed n)) g = absurd g
