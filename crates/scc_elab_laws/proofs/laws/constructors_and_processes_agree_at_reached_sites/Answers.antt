use Rattle.scc_elab_spec.proofs.Valued.{valued, located}
use Rattle.scc_elab_spec.specs.Worth.{at_now}
use Rattle.scc_elab_spec.proofs.Agreed.{agrees}
use Rattle.scc_elab_laws.proofs.Holding.{regular}
use Rattle.scc_elab_laws.proofs.laws.constructors_and_processes_agree_at_reached_sites.Goals as goal

pub returns : goal.returns
returns c = record {
  values = λ s reached e x typed d. valued s (regular s reached) e x typed d;
  locations = λ s reached soft follow l o typed e. located s (regular s reached) soft follow l o typed e;
  statements = λ make s c n m reached common typed e. let z = agrees make s c n m (regular (at_now s n.grown) reached) common typed e in (z.0, z.1, z.2, z.3);
}
