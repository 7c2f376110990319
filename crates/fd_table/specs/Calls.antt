-- The calls on descriptors: what each makes of the table, and what it answers. After open(2), pipe(2), dup(2) and close(2); the order
-- of the rules is this project's own.
use Rattle.std.specs.Prelude.{ℕ, Bool, false, ◌==◌, nat_le, nat_lt, Option, Some, None, Result, Ok, Err, is_none, if◌then◌else◌}
use Rattle.sys_types.specs.declared.limits.TheConstants.{DESCRIPTORS}
use Rattle.sys_types.specs.declared.rules.Rule.{Rule}
use Rattle.sys_types.specs.declared.rules.Rule.TheVariants as rule
use Rattle.fd_table.specs.Shared.{Shared, file_at, free_numbers, free_entries, lowest_number, lowest_open, lowest_on_exec, make, copy, drop_number, last_file}

-- the first rule by which a slot may not open so many files
abbrev pub room_rule : {F : Type 0} → Shared F → ℕ → ℕ → Option Rule
room_rule t slot files =
    if nat_lt (free_numbers t.table slot) files then Some rule.FdRoom
    else (if nat_lt (free_entries t.files) files then Some rule.OpenRoom
    else None)

-- a file is opened at the lowest free number
abbrev pub open_lowest : {F : Type 0} → Shared F → ℕ → F → Bool → Shared F × ℕ
open_lowest t slot file on_exec = (make t slot (lowest_number t.table slot) file on_exec, lowest_number t.table slot)

-- a call that a rule refuses changes nothing
abbrev pub refuse_or : {F A : Type 0} → Option Rule → Shared F → Shared F × A → Shared F × Result A Rule
refuse_or (Some rule) t outcome = (t, Err rule)
refuse_or None t outcome = (outcome.0, Ok outcome.1)

abbrev pub open_new : {F : Type 0} → Shared F → ℕ → F → Bool → Shared F × Result ℕ Rule
open_new t slot file on_exec = refuse_or (room_rule t slot 1) t (open_lowest t slot file on_exec)

-- two files are opened at the two lowest free numbers
abbrev pub open_both : {F : Type 0} → Shared F → ℕ → F → F → Shared F × (ℕ × ℕ)
open_both t slot a b =
    let first = open_lowest t slot a false in
    let second = open_lowest first.0 slot b false in
    (second.0, (first.1, second.1))

-- both are opened, or none
abbrev pub open_pair : {F : Type 0} → Shared F → ℕ → F → F → Shared F × Result (ℕ × ℕ) Rule
open_pair t slot a b = refuse_or (room_rule t slot 2) t (open_both t slot a b)

-- the lowest free number refers to the file of a number
abbrev pub dup : {F : Type 0} → Shared F → ℕ → ℕ → Shared F × Result ℕ Rule
dup t slot number =
    if is_none (file_at t slot number) then (t, Err rule.BadFd)
    else (if free_numbers t.table slot == 0 then (t, Err rule.FdRoom)
    else (copy t slot number (lowest_number t.table slot), Ok (lowest_number t.table slot)))

-- a number is closed, and its file with it where it was the last
abbrev pub close : {F : Type 0} → Shared F → ℕ → ℕ → Shared F × Result (Option F) Rule
close t slot number =
    if is_none (file_at t slot number) then (t, Err rule.BadFd)
    else (drop_number t slot number, Ok (last_file t slot number))

-- a number refers to the file of another, after its own was closed; onto itself nothing changes
abbrev pub dup2 : {F : Type 0} → Shared F → ℕ → ℕ → ℕ → Shared F × Result (Option F) Rule
dup2 t slot number into =
    if is_none (file_at t slot number) then (t, Err rule.BadFd)
    else (if nat_le DESCRIPTORS into then (t, Err rule.BadFd)
    else (if number == into then (t, Ok None)
    else (copy (drop_number t slot into) slot number into, Ok (last_file t slot into))))

-- the same of a number that was looked for; none where there is no such number
abbrev pub drop_found : {F : Type 0} → Shared F → ℕ → Option ℕ → Shared F × Option (Option F)
drop_found t slot None = (t, None)
drop_found t slot (Some number) = (drop_number t slot number, Some (last_file t slot number))

-- the lowest open number is closed
abbrev pub drop_first : {F : Type 0} → Shared F → ℕ → Shared F × Option (Option F)
drop_first t slot = drop_found t slot (lowest_open t.table slot)

-- the lowest number that is closed on exec is closed
abbrev pub close_exec_first : {F : Type 0} → Shared F → ℕ → Shared F × Option (Option F)
close_exec_first t slot = drop_found t slot (lowest_on_exec t.table slot)
