use Rattle.scc_svread_grammar.proofs.Whole.{found_read, found_only, found_fault}
use Rattle.scc_svread_raw.proofs.module.read_raw.Goals as goal

pub returns : goal.returns
returns c = record {
  read = found_read 8192 c.args.bytes.now c.reading.result c.reading.ensures;
  only = found_only 8192 c.args.bytes.now c.reading.result c.reading.ensures;
  fault = found_fault 8192 c.args.bytes.now c.reading.result c.reading.ensures;
}
