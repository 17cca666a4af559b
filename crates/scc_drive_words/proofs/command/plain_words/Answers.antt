use Rattle.std.proofs.Common.{◌∙◌, string_bytes}
use Rattle.scc_drive_words.specs.Classes.{is_plain}
use Rattle.scc_drive_words.proofs.Mapped.{prefix_len_map}
use Rattle.scc_drive_words.proofs.command.plain_words.Goals as goal

pub returns-clause-is : goal.returns-clause-is
returns-clause-is c = c.count_plain.ensures.is ∙ prefix_len_map is_plain (λ w. string_bytes w) c.args.words.now
