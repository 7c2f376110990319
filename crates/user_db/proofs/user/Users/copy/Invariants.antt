use Rattle.std.proofs.Common.{◌≡◌, take}
use Rattle.user_db.proofs.user.Users.copy.Given as goal

-- the users so far are copied
abbrev pub invariant-loop-user : goal.invariant-loop-user
invariant-loop-user l = l.users ≡ take l.user-index l.user-items
