use Rattle.scc_lower_laws.specs.Puts.{IsPutBit}
use Rattle.scc_lower_laws.proofs.Bits.{put-bit}
use Rattle.scc_lower_laws.proofs.Spread.{put-case, put-no-bit, assigns-bit}
use Rattle.scc_lower_laws.proofs.laws.bits_at_unknown_indices_are_written.Goals as goal

pub returns : goal.returns
returns c = record {
  cells = λ s width m w f index u t number r root few kind. put-bit s width m w f index u t number r root few kind;
  arms = λ s width m w i u t v vs d ds first cs many p. put-case s width m (IsPutBit s width w i u t) v vs d ds first cs (λ a b x h. put-no-bit s width w i u t a b x h) many p;
  assignments = λ s width n m w l i e f d o u first ds vs number some one found indices index value put. assigns-bit s width n m w l i e f d o u first ds vs number some one found indices index value put;
}
