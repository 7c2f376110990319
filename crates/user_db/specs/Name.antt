-- Names of users.
use Rattle.std.specs.Prelude.{ℕ, ◌≤◌, Bool, not, ◌&&◌, ◌==◌, List, length, nat_le}
use Rattle.user_db.specs.declared.name.TheConstants.{NAME_BYTES}

-- whether the bytes are a name: 1 to 32 of them
abbrev pub is_name : List ℕ → Bool
is_name bytes = not (length bytes == 0) && nat_le (length bytes) NAME_BYTES

-- what every name is
pub record IsName (bytes : List ℕ) : Type 0 where
  pub some : 1 ≤ length bytes
  pub most : length bytes ≤ NAME_BYTES
