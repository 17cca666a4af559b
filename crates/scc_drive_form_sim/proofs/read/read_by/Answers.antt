use Rattle.scc_drive_form_sim.proofs.Running.{sound_read, sound_flat}
use Rattle.scc_drive_form_sim.proofs.read.read_by.Goals as goal

pub returns-then-many : goal.returns-then-many
returns-then-many c = sound_read c.args.bytes.now c.read_many.result c.read_many.ensures.read

pub returns-else-many : goal.returns-else-many
returns-else-many c = sound_flat c.read_flattened.result c.read_flattened.ensures.sound
