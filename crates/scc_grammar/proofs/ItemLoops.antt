-- The loops of the code that reads members and files.
use Rattle.std.specs.Prelude.{◌≡◌, ℕ, Bool, true, false, not, [], ◌∷◌, length, ◌<◌, Ok, refl}
use Rattle.scc_grammar_terminals.specs.Marks as m
use Rattle.scc_grammar_spec.specs.ParseFile as p
use Rattle.scc_grammar_spec.specs.ParseFile.{is_member, is_part}
use Rattle.scc_grammar_terminals.specs.Answer.{Fails}
use Rattle.scc_grammar_terminals.specs.declared.halt.Halt.{Halt}
use Rattle.scc_grammar_terminals.specs.declared.terminal.Seen.{Seen}
use Rattle.scc_grammar_terminals.specs.declared.terminal.Terminal.{Terminal}
use Rattle.scc_grammar_terminals.specs.declared.terminal.Terminal.TheVariants as t
use Rattle.scc_grammar_spec.specs.Bodies.{Body}
use Rattle.scc_grammar_terminals.specs.Text.{Text, Parser, Outcome, next_is}
use Rattle.scc_reading.specs.Reading.{is_next, repeat_on}
use Rattle.scc_reading.proofs.Loop.{TurnsOn, turns_on_of}
use Rattle.scc_grammar_sound.proofs.Loops.{fails_through}
use Rattle.scc_grammar_sound.proofs.SoundFile.{RMember, sound_member, RPart, sound_part}

-- a loop that keeps the parts in its state
pub record LoopOn {S : Type 0} (test : S → Seen → Bool) (q : S → Parser S) : Type 0 where
  pub turn : (s : S) (ts : Text) (u : S) (r : Text) (whole : Outcome S) → is_next (test s) ts ≡ true → q s ts ≡ Ok (u, r) → repeat_on test q s ts ≡ whole → repeat_on test q u r ≡ whole
  pub fails : (h : Halt) (s : S) (ts : Text) (whole : Outcome S) → is_next (test s) ts ≡ true → Fails h (q s ts) → repeat_on test q s ts ≡ whole → Fails h whole
  pub stops : (s : S) (ts : Text) (whole : Outcome S) → is_next (test s) ts ≡ false → repeat_on test q s ts ≡ whole → whole ≡ Ok (s, ts)
  pub shorter : (s : S) (ts : Text) (u : S) (r : Text) → q s ts ≡ Ok (u, r) → length r < length ts

loop_on_of : {S : Type 0} {test : S → Seen → Bool} {q : S → Parser S} → TurnsOn test q → LoopOn test q
loop_on_of {S} {test} {q} t = record {
  turn = t.turn;
  fails = λ h s ts whole k f so_far. fails_through h (q s ts) whole (λ g l. t.fails s ts g whole k l so_far) f;
  stops = t.stops;
  shorter = t.shorter;
}

pub loop_members : (n : ℕ) → LoopOn is_member (p.member n)
loop_members n = loop_on_of (turns_on_of is_member 0 (RMember n) (p.member n) (sound_member n))

pub loop_file : (n : ℕ) → LoopOn is_part (p.part n)
loop_file n = loop_on_of (turns_on_of is_part 0 (RPart n) (p.part n) (sound_part n))

not_close : (w : Terminal) → not (m.brace_close w) ≡ m.not_brace_close w
not_close t.BraceClose = refl
not_close _ = refl

pub member_next : (b : Body) (ts : Text) → is_next (is_member b) ts ≡ is_next (next_is m.not_brace_close) ts
member_next b [] = refl
member_next b (s ∷ us) = not_close s.terminal
