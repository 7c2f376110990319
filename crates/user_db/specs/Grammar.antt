-- The lines of a boot text, and what each says.
use Rattle.std.specs.Prelude.{ℕ, true, false, List, length, nat_le, if◌then◌else◌, codes, Option, Some, None}
use Rattle.std.specs.Str.{bytes_eq}
use Rattle.user_db.specs.declared.line.TheConstants.{BOOT_LINE_BYTES}
use Rattle.user_db.specs.declared.line.BootLine.{BootLine}
use Rattle.user_db.specs.declared.line.BootLine.TheVariants.{Recheck}

-- `recheck on` or `recheck off`
abbrev pub recheck_of : List ℕ → Option BootLine
recheck_of line =
    if bytes_eq line (codes "recheck on") then Some (Recheck true)
    else if bytes_eq line (codes "recheck off") then Some (Recheck false)
    else None

-- a line of at most 4,096 bytes of one of the kinds; any other is bad
unfoldable pub boot_line_of : List ℕ → Option BootLine
boot_line_of line = if nat_le (length line) BOOT_LINE_BYTES then recheck_of line else None
