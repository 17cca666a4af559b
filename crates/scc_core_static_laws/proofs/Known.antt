-- What is known by a table of names agrees with what is known by the names.
use Rattle.std.proofs.Common.{◌≡◌, refl, ap, ◌∙◌, ℕ, List, map, Option, Some, None}
use denote.Ref.{Bor}
use Rattle.scc_core.specs.declared.copy.Counter.{Counter}
use Rattle.scc_core.specs.declared.places.NameStep.{NameStep}
use Rattle.scc_core.specs.declared.places.Places.{Places}
use Rattle.scc_core.specs.declared.program.Cell.{Cell}
use Rattle.scc_core.specs.declared.program.CellName.{CellName}
use Rattle.scc_core.specs.declared.statics.Known.{Known}
use Rattle.scc_core.specs.Counters.{number_of}
use Rattle.scc_core.specs.Elements.{fixed, step_at}
use Rattle.scc_core.specs.Known.{facts_in, first_number, placed_or}
use Rattle.scc_core.specs.Names.{placed, sought}
use Rattle.scc_core_static_laws.specs.Held.{HasTable, Knows, facts_with}
use Rattle.scc_core_static_laws.proofs.Placed.{parts_placed}
use Rattle.scc_core_static_laws.proofs.Values.{Agree}

module _ (known : Known) (cells : List Cell) (ns : List Counter) (k : Knows known cells ns) where
  pub facts_agree : Agree (facts_in known) (facts_with cells ns)
  facts_agree = record {
    held = λ n. ap (λ o. first_number o (fixed known.cells.now n)) (k.counters n) ∙ ap (λ cs. first_number (number_of ns n) (fixed cs n)) k.cells_are;
    fixed_at = λ n. ap (λ cs. fixed cs n) k.cells_are;
    place = λ first ps name n. by (map (step_at first) ps) name known.places (λ p e. let t = k.places p e in parts_placed p.now cells t.vectors t.table k.count name n first ps);
  }
    where
      by : (ss : List (Option NameStep)) (name : CellName) (o : Option (Bor Places)) → ((p : Bor Places) → o ≡ Some p → placed p.now ss name ≡ sought ss name cells)
          → placed_or o (sought ss name known.cells.now) ss name ≡ sought ss name cells
      by ss name None f = ap (sought ss name) k.cells_are
      by ss name (Some p) f = f p refl
