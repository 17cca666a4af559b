use Rattle.std.proofs.Common.{◌≡◌, ◌++◌, map, drop}
use Rattle.scc_core_spec.specs.First.{first_numbered}
use Rattle.scc_inline_cells.specs.Listed.{counted}
use Rattle.scc_inline_facts.specs.Known.{AreFacts}
use Rattle.scc_plain_view.specs.Designs.{design_of, process_of}
use Rattle.scc_plain_view.specs.Plains.{plain_of}
use Rattle.scc_inline_spec.specs.Inlined.{copied_from, too_large}
use Rattle.scc_inline.specs.Headings.{without_body}
use Rattle.scc_inline.specs.Begun.{Keeps, are_headings, copied_headings}
use Rattle.scc_inline.proofs.scope.Growing.processes.Given as goal

abbrev pub invariant-loop-number : goal.invariant-loop-number
invariant-loop-number l = Keeps l.initial.self l.self
    × (l.cells ≡ counted 0 (design_of l.d).objects → are_headings l.made ++ map without_body (copied_from (plain_of l.source.plain.now) (design_of l.d) l.number (map process_of (drop l.number l.d.processes))) ≡ copied_headings (plain_of l.source.plain.now) (design_of l.d))
    × (AreFacts (plain_of l.source.plain.now) l.source.facts.now → first_numbered (too_large (plain_of l.source.plain.now) (design_of l.d)) l.number (map process_of (drop l.number l.d.processes)) ≡ first_numbered (too_large (plain_of l.source.plain.now) (design_of l.d)) 0 (design_of l.d).processes)
