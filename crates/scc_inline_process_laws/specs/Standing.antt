-- Where a process and its copy stand between resumes, and what is asked of the copy's runs.
use Rattle.std.specs.Prelude.{◌≡◌, ℕ, List, [], ◌∷◌, Option, if◌then◌else◌}
use Rattle.scc_semantics.specs.Location.{Location}
use Rattle.scc_semantics.specs.Places.{Places}
use Rattle.scc_semantics.specs.Scene.{Names}
use Rattle.scc_semantics.specs.Body as machine
use Rattle.scc_semantics.specs.Body.{Body}
use Rattle.scc_semantics.specs.Design.{Design, Process}
use Rattle.scc_semantics.specs.Machine.{Frames, Stop, Go, Inner}
use Rattle.scc_semantics.specs.Process.{first_frames}
use Rattle.scc_semantics.specs.Same.{Turn, Middle, leading, left_in, resumed, AllProper}
use Rattle.scc_core_spec.specs.Term as core
use Rattle.scc_core_spec.specs.Source.{Home}
use Rattle.scc_elab_spec.specs.Program.{Function}
use Rattle.scc_elab_spec.specs.Copied.{Here}
use Rattle.scc_inline_process_laws.specs.Sound.{names_of}
use Rattle.scc_inline_process_laws.specs.SoundCode.{Targets, LeadsUp}
use Rattle.scc_inline_process_laws.specs.Relation.{here, spoken_body, copied_body, Alike, KeepsFrom}

module _ (home : Home) (places : Places) (own : Names) (h : Here) where
  -- the function of the process, its object, and how many calls deep it is copied
  module _ (g : Function) (this : core.Left) (o : Option Location) (left : ℕ) where
    abbrev pub first_spoken : Frames
    first_spoken = Go Inner (names_of (here home places own h [] g this) o) (spoken_body home places own h g [] g.body) Stop

    abbrev pub first_copied : Frames
    first_copied = Go Inner own (machine.Block (copied_body home places own h left (here home places own h [] g this) 0 [] g.body) machine.End) Stop

    -- before the first statement, or in the middle
    pub data Standing : Targets → Frames → Frames → Type 0 where
      standing_first : {t : Targets} → Standing t first_spoken first_copied
      standing_on : {t : Targets} {f f' : Frames} → ((words : Location → ℕ) → Alike home places own h (record { words = words; targets = t }) f f') → Standing t f f'

    pub record StandsAlike (m n : Middle) : Type 0 where
      pub targets : n.targets ≡ m.targets
      pub up : LeadsUp h.process m.targets
      pub frames : Standing m.targets m.frames n.frames

  -- over these resumes what is static holds in every state of the copy, and no pointer is assigned
  abbrev pub KeepsOver : Design → ℕ → Process → Middle → List ℕ → List Turn → Type 0
  KeepsOver d i q m (n ∷ ns) (t ∷ ts) =
      KeepsFrom home places own h t.signals (if t.restarts then first_frames i q else m.frames) (record { store = record { words = t.words; targets = leading i t m }; requests = [] })
      × KeepsOver d i q (left_in (resumed d i q n t m) m) ns ts
  KeepsOver d i q m _ _ = Unit {0}

  abbrev pub KeepsAlways : Design → Design → ℕ → Process → Middle → Type 0
  KeepsAlways d e i q m = (ns : List ℕ) (ts : List Turn) → AllProper d ts → KeepsOver e i q m ns ts
