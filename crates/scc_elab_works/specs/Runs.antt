-- Statements of a constructor that runs, as the definitions have them. This project's own.
use Rattle.std.specs.Prelude.{◌≡◌, ℕ, Option, Some, None, Result, Ok, Err, option_map}
use Rattle.scc_base.specs.declared.refusal.Stop.{Stop}
use Rattle.scc_base.specs.declared.refusal.Stop.TheVariants as stop
use Rattle.scc_elab_spec.specs.Grown.{nothing}
use Rattle.scc_elab_spec.specs.Worth.{Site}
use Rattle.scc_elab_spec.specs.Construct.{Making, Now, Ran, Fell, Halted}
use Rattle.scc_elab_spec.specs.Made.{built, making}
use Rattle.scc_elab_grown.specs.Grown.{grown_of}
use Rattle.scc_plain_view.specs.Plains.{plain_of}
use Rattle.scc_elab_statements.specs.declared.frame.Frame.{Frame}
use Rattle.scc_elab_statements.specs.Frames.{site_in}
use Rattle.scc_elab_works.specs.declared.moment.Moment.{Moment}

abbrev pub now_of : Moment → Now
now_of m = record { grown = grown_of m.grown; last = m.last }

-- where a constructor's statements stand, whatever is made
abbrev pub site_there : Frame → Site
site_there f = site_in f nothing

-- how its `new` makes objects, with constructors at most so deep in one another
abbrev pub making_there : Frame → ℕ → Making
making_there f levels = making (built (plain_of f.plain.now) levels)

-- it went on, or is refused, or memory is wanted
abbrev pub Ends : {A : Type 0} → Result A Stop → Now → Ran → Type 0
Ends (Ok a) n r = r ≡ Fell n
Ends (Err (stop.Refused z)) n r = r ≡ Halted z
Ends (Err stop.NoMemory) n r = Unit {0}
