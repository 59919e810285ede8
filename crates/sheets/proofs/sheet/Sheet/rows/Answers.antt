use Rattle.std.proofs.Common.{rules}
use Rattle.sheets.proofs.Soundness.{sound_from_test}
use Rattle.sheets.proofs.sheet.Sheet.rows.Goals as goal

pub returns-clause-sound : goal.returns-clause-sound
returns-clause-sound c = sound_from_test _ (search rules)
