-- What `load` writes: a summary of the run of a generated load over the boot that an empty boot text says.
use Rattle.std.specs.Prelude.{ℕ, ◌+◌, Bool, true, false, List, [], ◌∷◌, ◌++◌, length, sum_by, count_by, codes, replicate}
use Rattle.std.specs.Fmt.{decimal}
use Rattle.sha2.specs.Sha256.{sha256}
use Rattle.hex.specs.Hex.{encode_lower}
use Rattle.sys_types.specs.declared.limits.TheConstants.{LINES}
use Rattle.call_words.specs.declared.event.Event.{Event}
use Rattle.call_words.specs.declared.event.Decision.{Decision}
use Rattle.call_words.specs.declared.event.Decision.TheVariants.{Answer, Sleep, Taken, Noted}
use Rattle.call_words.specs.declared.event.Reply.{Reply}
use Rattle.call_words.specs.declared.event.Reply.TheVariants.{Num, Pair, Child, Image, Bytes, Text, Denied, Gone}
use Rattle.event_load.specs.Load.{load_events}
use Rattle.system_model.specs.Run.{decisions}
use Rattle.script_model.specs.Script.{answers}
use Rattle.user_db.specs.declared.boot.Boot.{Boot}

-- how many events a load draws at most: a trail has 262,144, of which four open the load
abbrev pub LOAD_EVENTS : ℕ
LOAD_EVENTS = 262140

-- the boot that an empty boot text says: no users, no recheck, and nobody may log in on a line
abbrev pub standard_boot : Boot
standard_boot = record { recheck = false; users = []; on = replicate LINES false }

abbrev pub is_denial : Reply → Bool
is_denial (Num n) = false
is_denial (Pair read write) = false
is_denial (Child pid how) = false
is_denial (Image image args) = false
is_denial (Bytes bs) = false
is_denial (Text text) = false
is_denial (Denied rule) = true
is_denial Gone = false

abbrev pub is_denied : Decision → Bool
is_denied (Answer reply) = is_denial reply
is_denied (Sleep reason) = false
is_denied (Taken bs) = false
is_denied Noted = false

abbrev pub is_sleep : Decision → Bool
is_sleep (Answer reply) = false
is_sleep (Sleep reason) = true
is_sleep (Taken bs) = false
is_sleep Noted = false

abbrev pub bytes_read : Reply → ℕ
bytes_read (Num n) = 0
bytes_read (Pair read write) = 0
bytes_read (Child pid how) = 0
bytes_read (Image image args) = 0
bytes_read (Bytes bs) = length bs
bytes_read (Text text) = 0
bytes_read (Denied rule) = 0
bytes_read Gone = 0

-- how many bytes a read or a taking gave
abbrev pub bytes_moved : Decision → ℕ
bytes_moved (Answer reply) = bytes_read reply
bytes_moved (Sleep reason) = 0
bytes_moved (Taken bs) = length bs
bytes_moved Noted = 0

-- a line of the summary: a name, and what it says
abbrev pub summary_line : List ℕ → List ℕ → List ℕ
summary_line name value = name ++ codes " " ++ value ++ codes "\n"

-- how many events there were, were denied and slept, how many bytes reads and takes gave, and the digest of the answer lines
abbrev pub summary : Boot → List Event → List ℕ
summary says es =
    summary_line (codes "events") (decimal (length es))
    ++ summary_line (codes "denied") (decimal (count_by is_denied (decisions says es)))
    ++ summary_line (codes "slept") (decimal (count_by is_sleep (decisions says es)))
    ++ summary_line (codes "moved") (decimal (sum_by bytes_moved (decisions says es)))
    ++ summary_line (codes "digest") (encode_lower (sha256 (answers says es)))

-- the summary of the load of n drawn events from a state of the generator
abbrev pub load_out : ℕ → ℕ → List ℕ
load_out n start = summary standard_boot (load_events n start)
