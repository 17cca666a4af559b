use Rattle.scc_lower_tree_laws.proofs.Picks.{reading-whole, reading-range, reading-known, reading-open, reading-nowhere}
use Rattle.scc_lower_tree_laws.proofs.laws.locations_are_read_where_they_are_found.Goals as goal

pub returns : goal.returns
returns c = record {
  wholes = λ g l k f os a b hi lo t cell h op get high low read. reading-whole g l k f os a b hi lo t cell h op get high low read;
  ranges = λ g l k f os a b q j hi lo t is h op read. reading-range g l k f os a b q j hi lo t is h op read;
  known_bits = λ g l k f os a b q j i v hi t cell is e h op get high read. reading-known g l k f os a b q j i v hi t cell is e h op get high read;
  open_bits = λ g l k f os a b c q j i hi lo t r cell is h op get high low read x. reading-open g l k f os a b c q j i hi lo t r cell is h op get high low read x;
  nowhere = λ g l k q a t e is. reading-nowhere g l k q a t e is;
}
