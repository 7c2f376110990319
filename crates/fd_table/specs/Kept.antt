-- What holds of every table of open files.
use Rattle.std.specs.Prelude.{◌≡◌, ℕ, ◌<◌, List, true, None, length, is_some, replicate, slice_index, All}
use Rattle.sys_types.specs.declared.limits.TheConstants.{SLOTS, DESCRIPTORS, OPEN_FILES}
use Rattle.fd_table.specs.Shared.{Shared, Table, references, entry_at}

-- every slot has all its numbers
pub record IsWhole (table : Table) : Type 0 where
  pub slots : length table ≡ SLOTS
  pub numbers : All (λ row. length row ≡ DESCRIPTORS) table

-- every slot has all its numbers, and an entry has a file exactly where some number refers to it
pub record IsKept {F : Type 0} (t : Shared F) : Type 0 where
  pub slots : length t.table ≡ SLOTS
  pub numbers : All (λ row. length row ≡ DESCRIPTORS) t.table
  pub entries : length t.files ≡ OPEN_FILES
  pub used : (entry : ℕ) → 0 < references entry t.table → is_some (entry_at t.files entry) ≡ true
  pub free : (entry : ℕ) → references entry t.table ≡ 0 → entry_at t.files entry ≡ None

-- for each entry, how many numbers refer to it
pub record IsCounted (table : Table) (counts : List ℕ) : Type 0 where
  pub size : length counts ≡ OPEN_FILES
  pub each : (entry : ℕ) → slice_index counts entry ≡ references entry table

-- no number of any slot is open
abbrev pub nothing_open : {F : Type 0} → Shared F
nothing_open = record { table = replicate SLOTS (replicate DESCRIPTORS None); files = replicate OPEN_FILES None }
