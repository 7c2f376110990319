use Rattle.std.proofs.Common.{◌∙◌, ap, sym}
use Rattle.user_db.specs.Boot.{boot_of}
use Rattle.tty_host.proofs.BootTextLemmas.{enough-says}
use Rattle.tty_host.proofs.boot.take_boot.Goals as goal

pub returns-in-Ok-clause-reads : goal.returns-in-Ok-clause-reads
returns-in-Ok-clause-reads g c =
    λ text left. enough-says _ _ (c.in_ok-text.ensures.enough text left) ∙ ap boot_of (sym c.as_slice.ensures.value) ∙ c.in-Ok.ensures.reads

pub returns-in-Err-Line-clause-reads : goal.returns-in-Err-Line-clause-reads
returns-in-Err-Line-clause-reads g c = λ text left.
    let says = c.in-Err-Line.ensures.reads in
    enough-says _ _ (c.in_ok-text.ensures.enough text left) ∙ ap boot_of (sym c.as_slice.ensures.value) ∙ rw c.in-Err-Line.field-0-is at says
