use Rattle.std.proofs.Common.{◌<◌, ◌≡◌, length, Err, rules}
use Rattle.periods.specs.Multiples.{most_tasks}
use Rattle.sheets.specs.declared.fault.SheetFault.TheVariants.{WrongCount}
use Rattle.sheets.proofs.Soundness.{sound_from_none, none_from_sound, many_said}
use Rattle.sheets.proofs.sheet.Sheet.form.Goals as goal

pub returns-in_err-try_from : goal.returns-in_err-try_from
returns-in_err-try_from c =
    let many : most_tasks < length c.args.rows.now = search rules in
    let exit : c.from_residual.result ≡ Err WrongCount = search rules in
    record { value = rw exit (many_said _ many); sound = (sound_from_none _, none_from_sound _) }

pub returns-clause-sound : goal.returns-clause-sound
returns-clause-sound c = (sound_from_none _, none_from_sound _)
