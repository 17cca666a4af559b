-- What is still to be looked at. This project's own.
use Rattle.std.specs.Prelude.{◌≡◌, ℕ, ◌+◌, max, List, [], ◌∷◌}
use Rattle.scc_elab_spec.specs.Program.{Function, Plain}
use Rattle.scc_plain_view.specs.Codes.{code_of}
use Rattle.scc_inline_size_laws.specs.Counts.{deep, height_in, many, size_in}
use Rattle.scc_inline_facts.specs.declared.extent.Extent.{Extent}
use Rattle.scc_inline_facts.specs.declared.facts.Task.{Task}
use Rattle.scc_inline_facts.specs.declared.facts.Task.TheVariants as task
use Rattle.scc_inline_facts.specs.Extents.{reaching}

abbrev pub task_size : (ℕ → ℕ) → Plain → Function → Task → ℕ
task_size sizes p f (task.Statements ss d) = size_in sizes p f (code_of ss.now)
task_size sizes p f task.LoopEnd = 0

abbrev pub task_height : (ℕ → ℕ) → Plain → Function → Task → ℕ
task_height heights p f (task.Statements ss d) = reaching d (height_in heights p f (code_of ss.now))
task_height heights p f task.LoopEnd = 0

abbrev pub waiting_size : (ℕ → ℕ) → Plain → Function → List Task → ℕ
waiting_size sizes p f [] = 0
waiting_size sizes p f (t ∷ ts) = task_size sizes p f t + waiting_size sizes p f ts

abbrev pub waiting_height : (ℕ → ℕ) → Plain → Function → List Task → ℕ
waiting_height heights p f [] = 0
waiting_height heights p f (t ∷ ts) = max (task_height heights p f t) (waiting_height heights p f ts)

-- what is counted so far, and what waits, come to this
pub record Comes_to (sizes heights : ℕ → ℕ) (p : Plain) (f : Function) (e : Extent) (ts : List Task) (n h : ℕ) : Type 0 where
  pub size : many (e.size + waiting_size sizes p f ts) ≡ many n
  pub height : deep (max e.height (waiting_height heights p f ts)) ≡ deep h
