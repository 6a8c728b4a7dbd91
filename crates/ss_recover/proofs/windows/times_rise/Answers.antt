use Rattle.ss_recover.proofs.WindowLaws.{rise-times, windows_at}
use Rattle.ss_recover.proofs.windows.times_rise.Goals as goal

pub loop-one-init : goal.loop-one-init
loop-one-init c = rise-times (windows_at c.args.id c.args.found.now)
