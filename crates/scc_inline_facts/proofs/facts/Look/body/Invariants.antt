use Rattle.std.proofs.Common.{ℕ, ◌+◌, max}
use Rattle.scc_inline_size_laws.specs.Counts.{height_in, size_in}
use Rattle.scc_plain_view.specs.Codes.{code_of}
use Rattle.scc_plain_view.specs.Plains.{plain_of, function_of}
use Rattle.scc_inline_facts.specs.Known.{Agrees}
use Rattle.scc_inline_facts.specs.Walked.{Comes_to}
use Rattle.scc_inline_facts.proofs.facts.Look.body.Given as goal

abbrev pub invariant-loop : goal.invariant-loop
invariant-loop l = (sizes heights : ℕ → ℕ) → Agrees l.s.known.now sizes heights → Comes_to sizes heights (plain_of l.s.plain.now) (function_of l.s.function.now) l.self.extent l.tasks
    (l.initial.self.extent.size + size_in sizes (plain_of l.s.plain.now) (function_of l.s.function.now) (code_of l.body)) (max l.initial.self.extent.height (height_in heights (plain_of l.s.plain.now) (function_of l.s.function.now) (code_of l.body)))
