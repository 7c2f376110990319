-- What contracts see of a lock and of its passes, and the one history that these fit.
use Rattle.std.specs.Prelude.{◌≡◌, ℕ, List, [], map, All, Option, Some}
use Rattle.std.specs.List.{range_with_len}
use mathlib.Core.List.{IsPrefix}
use Rattle.trail_core.specs.Trail.{Trail}
use Rattle.atomic_table.specs.Seated.{TableId}
use Rattle.turn_lock.specs.declared.rule.Entry.{Entry}
use Rattle.turn_lock.specs.Histories.{events_of, events_by, AreBelow}

-- of a lock: which one it is, how many passes it has, and the root and the limit of its machine
pub record LockView (Root : Type 0) : Type 0 where
  pub table : TableId
  pub passes : ℕ
  pub root : Root
  pub most : ℕ

-- of a pass: its lock, its number, the history that it has seen, and the events that its number entered
pub record PassView (Root E : Type 0) : Type 0 where
  pub lock : Option (LockView Root)
  pub number : ℕ
  pub seen : List (Entry E)
  pub mine : List E

module _ {Root E : Type 0} where
  -- the machine of a lock that took the events of a history
  abbrev pub machine_at : LockView Root → List (Entry E) → Trail Root E
  machine_at lock history = record { root = lock.root; most = lock.most; events = events_of history }

  -- a pass that has seen and entered nothing
  abbrev pub fresh_pass : LockView Root → ℕ → PassView Root E
  fresh_pass lock number = record { lock = Some lock; number = number; seen = []; mine = [] }

  -- the passes of a new lock, in the order of their numbers
  abbrev pub fresh_passes : LockView Root → List (PassView Root E)
  fresh_passes lock = map (fresh_pass lock) (range_with_len 0 lock.passes)

  -- of what its number entered, a pass has seen all
  abbrev pub HasSeenMine : PassView Root E → Type 0
  HasSeenMine pass = events_by pass.number pass.seen ≡ pass.mine

  -- these are all passes of a lock, in the order of their numbers
  pub record AreAllPasses (lock : LockView Root) (passes : List (PassView Root E)) : Type 0 where
    pub of_lock : All (λ p. p.lock ≡ Some lock) passes
    pub numbers : map (λ p. p.number) passes ≡ range_with_len 0 lock.passes

  -- a pass fits a history: it has seen a prefix of it, and its number's events there are those that it entered
  pub record Fits (history : List (Entry E)) (pass : PassView Root E) : Type 0 where
    pub seen : IsPrefix pass.seen history
    pub mine : events_by pass.number history ≡ pass.mine

  -- the machine of a closed lock took the events of one history, which each pass fits, and whose entries have no other numbers
  pub record IsHistory (lock : LockView Root) (machine : Trail Root E) (passes : List (PassView Root E)) : Type 0 where
    pub history : List (Entry E)
    pub machine_is : machine ≡ machine_at lock history
    pub fit : All (Fits history) passes
    pub numbers : AreBelow lock.passes history
