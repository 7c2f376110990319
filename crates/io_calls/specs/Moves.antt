-- The parts of the rows of read(2) and write(2): the checks that are the same whatever an open file is of, and what is done where no check holds.
use Rattle.std.specs.Prelude.{ℕ, not, ◌==◌, List, [], ◌∷◌, length, Option}
use Rattle.sys_types.specs.declared.rules.Rule.TheVariants.{FdMode, Dead, LabelRead, LabelWrite}
use Rattle.proc_table.specs.Processes.{Process}
use Rattle.system_model.specs.Parts.{Path}
use Rattle.system_model.specs.State.{OpenFile, View}
use Rattle.system_model.specs.IoCalls.{may_not_read, may_not_write}
use Rattle.system_model.specs.Rows.{Check, Row, deny, answer_if, number, bytes}

-- the checks of a read of an open file that come before those of what it is of
abbrev pub read_checks : View → Process Path → ℕ → OpenFile → List (Option Check)
read_checks v who max f =
    deny (not f.file.readable) FdMode
    ∷ answer_if f.dead (bytes [])
    ∷ deny (may_not_read v who f.file.target) LabelRead
    ∷ answer_if (max == 0) (bytes [])
    ∷ []

-- and those of a write
abbrev pub write_checks : View → Process Path → List ℕ → OpenFile → List (Option Check)
write_checks v who bs f =
    deny (not f.file.writable) FdMode
    ∷ deny f.dead Dead
    ∷ deny (may_not_write v who f.file.target) LabelWrite
    ∷ answer_if (length bs == 0) (number 0)
    ∷ []

-- a row without its checks
abbrev pub without_checks : Row → Row
without_checks row = record row { checks = [] }
