-- Rows of the files of a line and of what contracts see of it, worked out by hand.
use Rattle.std.proofs.Common.{◌≡◌, ℕ, true, false, List, [], ◌∷◌, refl, Some, None}
use Rattle.termios_core.specs.Termios.{cooked, raw}
use Rattle.block_pool.specs.Pool.{PoolState}
use Rattle.block_pool.specs.Chain.{ChainState}
use Rattle.line_disc.specs.Device.{closed_device, open_file}
use Rattle.tty_dev.specs.Table.{devices, lines_held, counts_of, boots_of, count_at, use_line, is_dead_at, is_last_at}
use Rattle.tty_dev.specs.Line.{LineState, boot_termios, termios_of, device_of, held_by, is_dead, is_last, live_after}
use Rattle.tty_dev.specs.History.{Use, opens, closes, revokes, at_first, after, is_revoked_in, files_after_use, may_close, Leads, nothing, one_more}

-- Which files are dead.

one_open : after at_first (opens ∷ []) ≡ record { generation = 0; live = 1 }
one_open = refl

two_opens_one_close : after at_first (opens ∷ opens ∷ closes 0 ∷ []) ≡ record { generation = 0; live = 1 }
two_opens_one_close = refl

revoke_counts : after at_first (opens ∷ opens ∷ revokes ∷ opens ∷ []) ≡ record { generation = 1; live = 1 }
revoke_counts = refl

dead_close : after at_first (opens ∷ revokes ∷ opens ∷ closes 0 ∷ []) ≡ record { generation = 1; live = 1 }
dead_close = refl

live_close : after at_first (opens ∷ revokes ∷ opens ∷ closes 1 ∷ []) ≡ record { generation = 1; live = 0 }
live_close = refl

not_revoked : is_revoked_in (opens ∷ closes 0 ∷ opens ∷ []) ≡ false
not_revoked = refl

is_revoked : is_revoked_in (closes 0 ∷ opens ∷ revokes ∷ opens ∷ []) ≡ true
is_revoked = refl

-- What contracts see of a line.

cooked_boot : boot_termios true ≡ cooked
cooked_boot = refl

raw_boot : boot_termios false ≡ raw
raw_boot = refl

-- a line that was revoked twice and has this many live files
abbrev with_live : ℕ → LineState
with_live live = record {
  carrier = true;
  zombie = false;
  ended = false;
  session = None;
  foreground = 0;
  disc = None;
  generation = 2;
  live = live;
  is_cooked = true;
}

-- a file is dead where it was opened before the last revoke
opened_before : is_dead (with_live 1) 1 ≡ true
opened_before = refl

opened_since : is_dead (with_live 1) 2 ≡ false
opened_since = refl

-- the close of the one live file is the last, and that of a dead file is not
last_of_one : is_last (with_live 1) 2 ≡ true
last_of_one = refl

last_of_two : is_last (with_live 2) 2 ≡ false
last_of_two = refl

last_of_dead : is_last (with_live 1) 1 ≡ false
last_of_dead = refl

-- it leaves one file fewer, and that of a dead file leaves all
one_fewer : live_after (with_live 2) 2 ≡ 1
one_fewer = refl

all_live : live_after (with_live 2) 1 ≡ 2
all_live = refl

-- a line without a live file holds no block
no_blocks : held_by (with_live 0) ≡ []
no_blocks = refl

-- Files by the generation at which each was opened.

file_opened : files_after_use 3 (3 ∷ []) opens ≡ 3 ∷ 3 ∷ []
file_opened = refl

file_closed : files_after_use 3 (3 ∷ 3 ∷ []) (closes 3) ≡ 3 ∷ []
file_closed = refl

dead_file_closed : files_after_use 3 (3 ∷ []) (closes 2) ≡ 3 ∷ []
dead_file_closed = refl

files_revoked : files_after_use 3 (3 ∷ 3 ∷ []) revokes ≡ []
files_revoked = refl

-- a close is of a dead file or of one that is live

may_close_live : may_close (record { generation = 3; live = 1 }) (3 ∷ []) (closes 3) ≡ true
may_close_live = refl

may_close_dead : may_close (record { generation = 3; live = 0 }) [] (closes 2) ≡ true
may_close_dead = refl

may_not_close : may_close (record { generation = 3; live = 0 }) [] (closes 3) ≡ false
may_not_close = refl

-- an open and a revoke may come at any time

may_open : may_close (record { generation = 3; live = 0 }) [] opens ≡ true
may_open = refl

may_revoke : may_close (record { generation = 3; live = 0 }) [] revokes ≡ true
may_revoke = refl

-- a line is opened, revoked and opened, and both files are closed: the last thing done is written first

abbrev opened_revoked_opened : List Use
opened_revoked_opened = opens ∷ revokes ∷ opens ∷ []

one_file_left : Leads opened_revoked_opened (record { generation = 1; live = 1 }) (1 ∷ [])
one_file_left =
    one_more (revokes ∷ opens ∷ []) (record { generation = 1; live = 0 }) [] opens
    (one_more (opens ∷ []) (record { generation = 0; live = 1 }) (0 ∷ []) revokes (one_more [] at_first [] opens nothing refl) refl) refl

no_file_left : Leads (closes 1 ∷ closes 0 ∷ opened_revoked_opened) (record { generation = 1; live = 0 }) []
no_file_left =
    one_more (closes 0 ∷ opened_revoked_opened) (record { generation = 1; live = 1 }) (1 ∷ []) (closes 1)
    (one_more opened_revoked_opened (record { generation = 1; live = 1 }) (1 ∷ []) (closes 0) one_file_left refl) refl

-- Lines by their numbers: the first has two live files and is cooked, the second has none and is raw.

abbrev two_lines : List LineState
two_lines = with_live 2 ∷ record (with_live 0) { is_cooked = false } ∷ []

counts_of_two : counts_of two_lines ≡ record { generation = 2; live = 2 } ∷ record { generation = 2; live = 0 } ∷ []
unfolding counts_of
counts_of_two = refl

boots_of_two : boots_of two_lines ≡ true ∷ false ∷ []
unfolding boots_of
boots_of_two = refl

devices_of_two : (pool : PoolState) → devices pool two_lines ≡ device_of pool (with_live 2) ∷ device_of pool (with_live 0) ∷ []
unfolding devices
devices_of_two pool = refl

-- a number past the last has no file
past_the_last : count_at (counts_of two_lines) 2 ≡ at_first
unfolding counts_of
past_the_last = refl

-- a use is of one line
second_opened : use_line opens (counts_of two_lines) 1 ≡ record { generation = 2; live = 2 } ∷ record { generation = 2; live = 1 } ∷ []
unfolding counts_of
second_opened = refl

first_revoked : use_line revokes (counts_of two_lines) 0 ≡ record { generation = 3; live = 0 } ∷ record { generation = 2; live = 0 } ∷ []
unfolding counts_of
first_revoked = refl

dead_at_first : is_dead_at (counts_of two_lines) 0 1 ≡ true
unfolding counts_of
dead_at_first = refl

not_dead_at_first : is_dead_at (counts_of two_lines) 0 2 ≡ false
unfolding counts_of
not_dead_at_first = refl

-- of two live files the second close is the last
one_of_two_at : is_last_at (counts_of two_lines) 0 2 ≡ false
unfolding counts_of
one_of_two_at = refl

last_of_two_at : is_last_at (use_line (closes 2) (counts_of two_lines) 0) 0 2 ≡ true
unfolding counts_of
last_of_two_at = refl

-- that of a dead file is not
dead_at_second : is_last_at (counts_of two_lines) 1 1 ≡ false
unfolding counts_of
dead_at_second = refl

-- the blocks of all lines, by number: those of a line's input, then those of its output
abbrev chain_over : List ℕ → ChainState
chain_over blocks = record { blocks = blocks; first = 0; count = 0 }

abbrev over : List ℕ → List ℕ → LineState
over input output = record (with_live 1) {
  disc = Some (record { termios = raw; input = record { chain = chain_over input; kinds = [] }; output = chain_over output; stopped = false });
}

blocks_of_three : lines_held (over (3 ∷ []) (4 ∷ 5 ∷ []) ∷ with_live 0 ∷ over (8 ∷ []) (9 ∷ []) ∷ []) ≡ 3 ∷ 4 ∷ 5 ∷ 8 ∷ 9 ∷ []
unfolding lines_held
blocks_of_three = refl

-- the settings of a line: those of its boot while no file of it is live

settings_of_boot : termios_of true (closed_device {C = ℕ}) ≡ cooked
settings_of_boot = refl

raw_settings_of_boot : termios_of false (closed_device {C = ℕ}) ≡ raw
raw_settings_of_boot = refl

settings_of_open : termios_of true (open_file raw (closed_device {C = ℕ})) ≡ raw
settings_of_open = refl
