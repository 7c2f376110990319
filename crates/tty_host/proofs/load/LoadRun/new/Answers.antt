use Rattle.tty_host.proofs.LoadLemmas.{is_standard}
use Rattle.tty_host.proofs.load.LoadRun.new.Goals as goal

pub boot_trail-requires : goal.boot_trail-requires
boot_trail-requires c = rw c.standard_boot.ensures is_standard
