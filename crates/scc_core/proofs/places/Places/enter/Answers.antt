use Rattle.std.proofs.Common.{◌≡◌, sym, ap, ◌∙◌, Some, option_and_then, None, ◌<◌, length}
use Rattle.scc_core.specs.Names.{leads}
use Rattle.scc_core.specs.Tables.{known}
use Rattle.scc_core.proofs.Trees.{extends_own, grown_extends, grown_reaches, reached_within, walk_snoc}
use Rattle.scc_core.specs.Tables as table
use Rattle.scc_core.proofs.places.Places.enter.Goals as goal

pub returns-in-Some : goal.returns-in-Some
returns-in-Some c = λ ss t r. record {
  extends = extends_own c.args.self.now t;
  reaches = walk_snoc c.args.self.now table.top ss c.args.step ∙ ap (option_and_then (λ to. leads c.args.self.now to c.args.step)) r ∙ sym c.step.ensures ∙ c.in-Some.is;
}

pub returns : goal.returns
returns c = λ ss t r.
    let w = reached_within c.args.self.now t ss (record { 0 = c.args.from }) r in
    let none = sym c.step.ensures ∙ c.in_default.is in
    let g = c.in_ok-number.ensures.grows none in record {
      extends = grown_extends c.args.self.now _ c.args.from c.args.step t w none g;
      reaches = grown_reaches c.args.self.now _ c.args.from c.args.step t w none g ss r ∙ ap (λ k. Some (record { 0 = k })) (sym c.in_ok-number.ensures.number);
    }
