-- Rows of a terminal line as a device, worked out by hand.
use Rattle.std.proofs.Common.{◌≡◌, ℕ, true, false, List, [], ◌∷◌, refl, Option, Some, None}
use Rattle.sys_types.specs.declared.sig.Sig.{Sig}
use Rattle.sys_types.specs.declared.sig.Sig.TheVariants.{INT}
use Rattle.termios_core.specs.declared.termios.Termios.{Termios}
use Rattle.termios_core.specs.Termios.{cooked, raw}
use Rattle.line_disc.specs.Discipline.{Discipline, bytes, fresh}
use Rattle.line_disc.specs.Cook.{cook, interrupt, erase, drop_line, end_file, end_line, add_byte}
use Rattle.line_disc.specs.Transfers as transfers
use Rattle.line_disc.specs.Device.{Device, closed_device, open_file, close_last, receive, output_of, take_output, set_carrier, hangs_up, end_for_good, revoke}
use Rattle.line_disc.specs.Device.{is_live, settings, retune, flush, put, put_count, waits, read, after_read, is_takeable, is_drained, set_session}
use Rattle.line_disc.specs.Device.{set_foreground}

-- a line with a terminal, opened with these settings
abbrev up : Termios → Device ℕ
up t = open_file t (set_carrier closed_device true)

-- after bytes have come in
abbrev type_in : Device ℕ → List ℕ → Device ℕ
type_in line [] = line
type_in line (b ∷ bs) = type_in ((receive bytes line b).0) bs

-- what is to go out, and what was type_in and not ended
abbrev output_in : Option (Discipline ℕ) → List ℕ
output_in None = []
output_in (Some d) = d.output

abbrev current_of : Option (Discipline ℕ) → List ℕ
current_of None = []
current_of (Some d) = d.input.current

-- a byte comes in where a file is live and the terminal is there
with_carrier : (current_of (type_in (up cooked) (97 ∷ [])).discipline) ≡ 97 ∷ []
unfolding cook add_byte
with_carrier = refl

-- and is dropped before the first open
before_open : type_in (set_carrier closed_device true) (97 ∷ []) ≡ set_carrier {C = ℕ} closed_device true
before_open = refl

-- and without carrier
no_carrier : type_in (open_file cooked closed_device) (97 ∷ []) ≡ open_file {C = ℕ} cooked closed_device
no_carrier = refl

-- unless clocal is on
no_carrier_clocal : (current_of (type_in (open_file raw closed_device) (97 ∷ [])).discipline) ≡ 97 ∷ []
unfolding cook add_byte
no_carrier_clocal = refl

-- a signal character is answered
signal_comes : (receive bytes (up cooked) 3).1 ≡ Some INT
unfolding cook interrupt
signal_comes = refl

-- but not where the byte is dropped
no_signal : (receive bytes (open_file cooked closed_device) 3).1 ≡ (let none : Option Sig = None in none)
no_signal = refl

-- row hang-up: the carrier goes, both queues are emptied, and the line is a zombie
carrier_lost : set_carrier (type_in (up cooked) (97 ∷ [])) false ≡ record (open_file cooked closed_device) { zombie = true }
unfolding cook add_byte
carrier_lost = refl

carrier_lost_told : hangs_up (type_in (up cooked) (97 ∷ [])) false ≡ true
unfolding cook add_byte
carrier_lost_told = refl

-- a zombie drops bytes also after the carrier is back
zombie_drops : output_in (type_in (set_carrier (set_carrier (up cooked) false) true) (97 ∷ [])).discipline ≡ []
zombie_drops = refl

-- it is told again where the carrier goes again
lost_again : hangs_up (set_carrier (up cooked) false) false ≡ true
lost_again = refl

-- not where a carrier comes
carrier_comes : hangs_up (up cooked) true ≡ false
carrier_comes = refl

-- with clocal the queues stay, and nobody is told
clocal_stays : current_of (set_carrier (type_in (up raw) (97 ∷ [])) false).discipline ≡ 97 ∷ []
unfolding cook add_byte
clocal_stays = refl

clocal_told : hangs_up (up raw) false ≡ false
clocal_told = refl

-- nor where no file is live
closed_told : hangs_up {C = ℕ} (set_carrier closed_device true) false ≡ false
closed_told = refl

-- the last close takes the zombie mark away
zombie_closed : close_last (set_carrier (up cooked) false) ≡ closed_device
zombie_closed = refl

-- and the session stays
session_stays : (close_last (record (up cooked) { session = Some 4; foreground = 5 })).session ≡ Some 4
session_stays = refl

foreground_stays : (close_last (record (up cooked) { session = Some 4; foreground = 5 })).foreground ≡ 5
foreground_stays = refl

-- a second open leaves what is output_in
second_open : open_file cooked (type_in (up cooked) (97 ∷ [])) ≡ type_in (up cooked) (97 ∷ [])
unfolding cook add_byte
second_open = refl

-- a first open finds the settings of the boot
first_open : (open_file raw (close_last (type_in (up cooked) (97 ∷ [])))).discipline ≡ Some (fresh raw)
first_open = refl

-- a line that has ended drops bytes
ended_drops : current_of (type_in (end_for_good (up raw)) (97 ∷ [])).discipline ≡ []
ended_drops = refl

-- and has no carrier again
ended_carrier : set_carrier (end_for_good (up raw)) true ≡ end_for_good (up raw)
ended_carrier = refl

ended_is_lost : (end_for_good (up cooked)).zombie ≡ true
ended_is_lost = refl

ended_told : hangs_up (end_for_good (up cooked)) false ≡ false
ended_told = refl

ended_twice : end_for_good (end_for_good (up cooked)) ≡ end_for_good (up cooked)
ended_twice = refl

-- its output is still taken where clocal is on
ended_takes : output_of 9 (record (up raw) { discipline = Some (record (fresh raw) { output = 97 ∷ [] }); ended = true }).discipline ≡ 97 ∷ []
ended_takes = refl

-- nothing is taken where no file is live
closed_takes : output_of {C = ℕ} 9 (set_carrier closed_device true).discipline ≡ []
closed_takes = refl

-- row first run: a revoke leaves a line that nobody has opened, without a session
revoked_line : revoke (record (type_in (up cooked) (97 ∷ 10 ∷ [])) { session = Some 4; foreground = 5 }) ≡ set_carrier closed_device true
unfolding cook add_byte end_line
revoked_line = refl

revoked_zombie : revoke (set_carrier (up cooked) false) ≡ closed_device
revoked_zombie = refl

revoked_stopped : revoke (type_in (up cooked) (19 ∷ [])) ≡ set_carrier closed_device true
unfolding cook
revoked_stopped = refl

revoked_ended : (revoke (end_for_good (up cooked))).ended ≡ true
revoked_ended = refl

revoked_closed : revoke {C = ℕ} closed_device ≡ closed_device
revoked_closed = refl

-- Calls on a line of which a file is live, and of which none is.
live : is_live (up cooked) ≡ true
live = refl

not_live : is_live {C = ℕ} closed_device ≡ false
not_live = refl

not_live_after_revoke : is_live (revoke (up cooked)) ≡ false
not_live_after_revoke = refl

settings_of_open : settings (up raw) ≡ Some raw
settings_of_open = refl

settings_of_closed : settings {C = ℕ} closed_device ≡ None
settings_of_closed = refl

-- the second open finds the settings that were made
settings_stay : settings (open_file cooked (retune (up cooked) raw)) ≡ Some raw
unfolding cook interrupt erase drop_line end_file end_line add_byte transfers.put transfers.retune
settings_stay = refl

-- and the first open after a last close those of the boot
settings_of_boot : settings (open_file cooked (close_last (retune (up cooked) raw))) ≡ Some cooked
unfolding cook interrupt erase drop_line end_file end_line add_byte transfers.put transfers.retune
settings_of_boot = refl

-- settings that are given where no file is live are lost
retune_closed : retune (set_carrier {C = ℕ} closed_device true) raw ≡ set_carrier closed_device true
retune_closed = refl

-- a write puts what goes out for its bytes
put_open : output_in (put bytes (up cooked) (97 ∷ 10 ∷ [])).discipline ≡ 97 ∷ 13 ∷ 10 ∷ []
unfolding cook interrupt erase drop_line end_file end_line add_byte transfers.put transfers.retune
put_open = refl

put_count_open : put_count (up cooked) (97 ∷ 10 ∷ []) ≡ 2
unfolding cook interrupt erase drop_line end_file end_line add_byte transfers.put transfers.retune
put_count_open = refl

-- and nothing where no file is live
put_closed : put bytes (set_carrier {C = ℕ} closed_device true) (97 ∷ []) ≡ set_carrier closed_device true
put_closed = refl

put_count_closed : put_count (set_carrier {C = ℕ} closed_device true) (97 ∷ []) ≡ 0
put_count_closed = refl

-- a write is put on a line that has ended
put_ended : output_in (put bytes (end_for_good (up raw)) (97 ∷ [])).discipline ≡ 97 ∷ []
unfolding cook interrupt erase drop_line end_file end_line add_byte transfers.put transfers.retune
put_ended = refl

-- a read gives a ready line
read_open : read (type_in (up cooked) (97 ∷ 10 ∷ 98 ∷ [])) 9 ≡ Some (97 ∷ 10 ∷ [])
unfolding cook interrupt erase drop_line end_file end_line add_byte transfers.put transfers.retune
read_open = refl

-- which is gone then
after_read_open : current_of (after_read (type_in (up cooked) (97 ∷ 10 ∷ 98 ∷ [])) 9).discipline ≡ 98 ∷ []
unfolding cook interrupt erase drop_line end_file end_line add_byte transfers.put transfers.retune
after_read_open = refl

after_read_waits : waits (after_read (type_in (up cooked) (97 ∷ 10 ∷ 98 ∷ [])) 9) 9 ≡ true
unfolding cook interrupt erase drop_line end_file end_line add_byte transfers.put transfers.retune
after_read_waits = refl

-- and a read does not wait before
read_does_not_wait : waits (type_in (up cooked) (97 ∷ 10 ∷ 98 ∷ [])) 9 ≡ false
unfolding cook interrupt erase drop_line end_file end_line add_byte transfers.put transfers.retune
read_does_not_wait = refl

waits_open : waits (up cooked) 9 ≡ true
unfolding cook interrupt erase drop_line end_file end_line add_byte transfers.put transfers.retune
waits_open = refl

waits_closed : waits (set_carrier {C = ℕ} closed_device true) 9 ≡ false
waits_closed = refl

read_closed : read (set_carrier {C = ℕ} closed_device true) 9 ≡ None
read_closed = refl

after_read_closed : after_read (set_carrier {C = ℕ} closed_device true) 9 ≡ set_carrier closed_device true
after_read_closed = refl

-- the input is emptied alone
flush_open_input : current_of (flush (type_in (up cooked) (97 ∷ 10 ∷ 98 ∷ [])) true false).discipline ≡ []
unfolding cook interrupt erase drop_line end_file end_line add_byte transfers.put transfers.retune
flush_open_input = refl

flush_open_output : output_in (flush (type_in (up cooked) (97 ∷ 10 ∷ 98 ∷ [])) true false).discipline ≡ 97 ∷ 13 ∷ 10 ∷ 98 ∷ []
unfolding cook interrupt erase drop_line end_file end_line add_byte transfers.put transfers.retune
flush_open_output = refl

-- and the output alone
flush_open_other : output_in (flush (type_in (up cooked) (97 ∷ 10 ∷ 98 ∷ [])) false true).discipline ≡ []
unfolding cook interrupt erase drop_line end_file end_line add_byte transfers.put transfers.retune
flush_open_other = refl

flush_open_other_input : current_of (flush (type_in (up cooked) (97 ∷ 10 ∷ 98 ∷ [])) false true).discipline ≡ 98 ∷ []
unfolding cook interrupt erase drop_line end_file end_line add_byte transfers.put transfers.retune
flush_open_other_input = refl

flush_closed : flush (set_carrier {C = ℕ} closed_device true) true true ≡ set_carrier closed_device true
flush_closed = refl

-- output is to be taken, and is drained when it is
takeable_open : is_takeable (type_in (up cooked) (97 ∷ 10 ∷ 98 ∷ [])) ≡ true
unfolding cook interrupt erase drop_line end_file end_line add_byte transfers.put transfers.retune
takeable_open = refl

takeable_empty : is_takeable (up cooked) ≡ false
takeable_empty = refl

takeable_closed : is_takeable (set_carrier {C = ℕ} closed_device true) ≡ false
takeable_closed = refl

drained_open : is_drained (type_in (up cooked) (97 ∷ 10 ∷ 98 ∷ [])) ≡ false
unfolding cook interrupt erase drop_line end_file end_line add_byte transfers.put transfers.retune
drained_open = refl

drained_when_taken : is_drained (take_output (type_in (up cooked) (97 ∷ 10 ∷ 98 ∷ [])) 9) ≡ true
unfolding cook interrupt erase drop_line end_file end_line add_byte transfers.put transfers.retune
drained_when_taken = refl

drained_closed : is_drained (set_carrier {C = ℕ} closed_device true) ≡ true
drained_closed = refl

-- a taking leaves what it does not give
take_leaves : output_in (take_output (type_in (up cooked) (97 ∷ 10 ∷ 98 ∷ [])) 3).discipline ≡ 98 ∷ []
unfolding cook interrupt erase drop_line end_file end_line add_byte transfers.put transfers.retune
take_leaves = refl

-- and gives the front
take_gives : output_of 3 (type_in (up cooked) (97 ∷ 10 ∷ 98 ∷ [])).discipline ≡ 97 ∷ 13 ∷ 10 ∷ []
unfolding cook interrupt erase drop_line end_file end_line add_byte transfers.put transfers.retune
take_gives = refl

-- a line becomes the controlling terminal of a session
session_set : set_session (up cooked) 4 5 ≡ record (up cooked) { session = Some 4; foreground = 5 }
session_set = refl

-- and another group comes to its foreground
foreground_set : set_foreground (set_session (up cooked) 4 5) 6 ≡ record (up cooked) { session = Some 4; foreground = 6 }
foreground_set = refl

-- an open leaves carrier, session and mark
open_leaves : open_file raw (set_session (set_carrier (up cooked) false) 4 5) ≡ set_session (set_carrier (up cooked) false) 4 5
open_leaves = refl

-- a carrier that comes to a zombie leaves it one
zombie_carrier : (set_carrier (set_carrier (up cooked) false) true).zombie ≡ true
zombie_carrier = refl

-- and is there
zombie_carrier_up : (set_carrier (set_carrier (up cooked) false) true).carrier ≡ true
zombie_carrier_up = refl

-- a line that ends without a file is no zombie
end_closed : end_for_good (set_carrier {C = ℕ} closed_device true) ≡ record closed_device { ended = true }
end_closed = refl

-- and with clocal too, but has no carrier
end_clocal : end_for_good (up raw) ≡ record (open_file raw closed_device) { ended = true }
end_clocal = refl

-- a line with clocal that has ended is not told again
end_clocal_told : hangs_up (end_for_good (up raw)) false ≡ false
end_clocal_told = refl
