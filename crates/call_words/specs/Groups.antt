-- The word that is printed of the supplementary groups of a credential.
use Rattle.std.specs.Prelude.{ℕ, ◌==◌, List, length, map, codes, if◌then◌else◌}
use Rattle.std.specs.List.{join_with_byte}
use Rattle.std.specs.Fmt.{decimal}
use Rattle.std.specs.Str.{byte}

-- a dash for no groups, or their numbers joined by plus signs
unfoldable pub groups_word : List ℕ → List ℕ
groups_word groups = if length groups == 0 then codes "-" else join_with_byte (byte "+") (map decimal groups)
