-- Permissions, and the octal digits that stand for them.
use Rattle.std.specs.Prelude.{ℕ, ◌+◌, ◌/◌, ◌%◌, Bool, not, ◌&&◌, ◌||◌, if◌then◌else◌, ◌==◌}
use Rattle.acl_core.specs.declared.perm.Perm.{Perm}

-- the octal digit of a permission: read is 4, write is 2 and execute is 1
abbrev pub digit_of : Perm → ℕ
digit_of p = (if p.read then 4 else 0) + (if p.write then 2 else 0) + (if p.exec then 1 else 0)

-- the permission of an octal digit
abbrev pub perm_of : ℕ → Perm
perm_of n = record { read = n / 4 % 2 == 1; write = n / 2 % 2 == 1; exec = n % 2 == 1 }

-- p has all bits of want
abbrev pub has_all : Perm → Perm → Bool
has_all p want = (p.read || not want.read) && (p.write || not want.write) && (p.exec || not want.exec)

-- the bits that both have
abbrev pub common : Perm → Perm → Perm
common p q = record { read = p.read && q.read; write = p.write && q.write; exec = p.exec && q.exec }
