-- What has been done at a line, as far as it tells which files of it are live.
use Rattle.std.specs.Prelude.{◌≡◌, ℕ, ◌+◌, ◌-◌, ◌==◌, ◌||◌, Bool, true, false, List, [], ◌∷◌, nat_lt, if◌then◌else◌}
use Rattle.std.specs.List.{list_any}

-- a file is opened; a file that was opened at this generation is closed; the line is revoked (revoke(2))
pub data Use : Type 0 where
  opens : Use
  closes : ℕ → Use
  revokes : Use

-- how often a line was revoked, and how many of its files are live
pub record Counts : Type 0 where
  pub generation : ℕ
  pub live : ℕ

-- a line before its first open
abbrev pub at_first : Counts
at_first = record { generation = 0; live = 0 }

abbrev pub after_use : Counts → Use → Counts
after_use c opens = record c { live = c.live + 1 }
after_use c (closes opened) = if nat_lt opened c.generation then c else record c { live = c.live - 1 }
after_use c revokes = record { generation = c.generation + 1; live = 0 }

-- the counts after all of these
abbrev pub after : Counts → List Use → Counts
after c [] = c
after c (done ∷ uses) = after (after_use c done) uses

-- whether the line is revoked among these
abbrev pub is_revoked_in : List Use → Bool
is_revoked_in [] = false
is_revoked_in (revokes ∷ uses) = true
is_revoked_in (opens ∷ uses) = is_revoked_in uses
is_revoked_in (closes opened ∷ uses) = is_revoked_in uses

-- the files that were neither closed nor revoked, by the generation at which each was opened, the last one first: a close
-- takes one that was opened at its generation away, and a revoke takes all
abbrev pub without_one : ℕ → List ℕ → List ℕ
without_one opened [] = []
without_one opened (file ∷ files) = if file == opened then files else file ∷ without_one opened files

abbrev pub files_after_use : ℕ → List ℕ → Use → List ℕ
files_after_use generation files opens = generation ∷ files
files_after_use generation files (closes opened) = without_one opened files
files_after_use generation files revokes = []

-- what is done at a line is in order where each close is of a file that is dead, or of one that was neither closed nor
-- revoked
abbrev pub may_close : Counts → List ℕ → Use → Bool
may_close c files opens = true
may_close c files revokes = true
may_close c files (closes opened) = nat_lt opened c.generation || list_any (λ file. file == opened) files

-- a history that is in order, with the files that are left
pub data Leads : List Use → Counts → List ℕ → Type 0 where
  nothing : Leads [] at_first []
  one_more : (uses : List Use) (c : Counts) (files : List ℕ) (done : Use) → Leads uses c files → may_close c files done ≡ true
      → Leads (done ∷ uses) (after_use c done) (files_after_use c.generation files done)
