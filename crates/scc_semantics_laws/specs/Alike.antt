-- Phases alike.
use Rattle.std.specs.Prelude.{◌≡◌}
use Rattle.scc_semantics.specs.Design.{Design}
use Rattle.scc_semantics.specs.Process.{Phase}
use Rattle.scc_semantics.specs.Start.{IsProper}
use Rattle.scc_semantics.specs.Steady.{AllProperRequests}

-- the same words and requests, and proper ones
pub record SameHeld (d : Design) (s t : Phase) : Type 0 where
  pub words : s.held.store.words ≡ t.held.store.words
  pub requests : s.held.requests ≡ t.held.requests
  pub proper : IsProper d s.held.store.words
  pub asks : AllProperRequests d s.held.requests
