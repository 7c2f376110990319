-- What changes of lines is the same in a state and in what calls see of it.
use Rattle.std.proofs.Common.{◌≡◌, ℕ, ◌<◌, Bool, true, false, List, [], ◌∷◌, map, refl, ap, ◌∙◌, arith}
use Rattle.std.specs.Prelude.{◌==◌, ◌||◌, nat_lt, Option, Some, None, option_map}
use Rattle.line_disc.specs.Device as device
use Rattle.line_disc.specs.Device.{Device, map_device}
use Rattle.line_disc.proofs.DeviceMapLemmas as lemmas
use Rattle.system_model.specs.Parts.{Target, node, read_end, write_end, tty, Parts}
use Rattle.system_model.specs.State.{Revokes, NamedFile, Tagged, last_revoke, is_revoked, seen_file, byte_of}
use Rattle.line_disc.specs.Lines.{change_line}
use Rattle.system_model.specs.Keeping.{tagging, seeing, is_tty, mark_dead}
use Rattle.system_model.specs.LineEffects.{LineEffect, open_line, receive_byte, read_line, write_line, take_output, set_carrier, end_line, revoke_line}
use Rattle.system_model.specs.LineEffects.{flush_line, retune_line, set_session, set_foreground, change_lines, revokes_after}
use Rattle.system_laws.specs.Stands.{IsEarlier, AreEarlier}
use Rattle.system_laws.proofs.FileSteps.{seen, change_line-map}

-- a line is changed in the same way, and the rest is left
changes : (revokes : Revokes) (m : Parts NamedFile Tagged) (n : ℕ) (how : Device Tagged → Device Tagged) (also : Device ℕ → Device ℕ)
    → ((line : Device Tagged) → map_device byte_of (how line) ≡ also (map_device byte_of line))
    → seen revokes (record m { lines = change_line how m.lines n }) ≡ record (seen revokes m) { lines = change_line also (seen revokes m).lines n }
changes revokes m n how also same = ap (λ lines. record (seen revokes m) { lines = lines }) (change_line-map how also same m.lines n)

-- ---- a revoke

revoked-tty : (p : ℕ) (revokes : Revokes) (n made other : ℕ) → made < p
    → nat_lt made (last_revoke ((n, p) ∷ revokes) other) ≡ (nat_lt made (last_revoke revokes other) || (other == n))
revoked-tty p revokes n made other earlier = grind arith

revoked-target : (p : ℕ) (revokes : Revokes) (n made : ℕ) (target : Target) → made < p
    → is_revoked ((n, p) ∷ revokes) made target ≡ (is_revoked revokes made target || is_tty n target)
revoked-target p revokes n made (node path) earlier = refl
revoked-target p revokes n made (read_end k) earlier = refl
revoked-target p revokes n made (write_end k) earlier = refl
revoked-target p revokes n made (tty other) earlier = revoked-tty p revokes n made other earlier

-- an open file is dead after the revoke of its line, and as before otherwise
revoked-file : (p : ℕ) (revokes : Revokes) (n : ℕ) (f : NamedFile) → IsEarlier p (Some f)
    → seen_file ((n, p) ∷ revokes) f ≡ mark_dead n (seen_file revokes f)
revoked-file p revokes n f earlier = ap (λ dead. record { file = f.file; dead = dead }) (revoked-target p revokes n f.name.made f.file.target earlier)

revoked-files : (p : ℕ) (revokes : Revokes) (n : ℕ) (fs : List (Option NamedFile)) → AreEarlier p fs
    → map (option_map (seen_file ((n, p) ∷ revokes))) fs ≡ map (option_map (mark_dead n)) (map (option_map (seen_file revokes)) fs)
revoked-files p revokes n [] earlier = refl
revoked-files p revokes n (None ∷ fs) earlier = ap (λ gs. None ∷ gs) (revoked-files p revokes n fs earlier.1)
revoked-files p revokes n (Some f ∷ fs) earlier = rw (revoked-file p revokes n f earlier.0, revoked-files p revokes n fs earlier.1) refl

-- ---- all changes of lines

-- all but a revoke
abbrev pub is_calm_line : LineEffect → Bool
is_calm_line (open_line n t) = true
is_calm_line (receive_byte n b) = true
is_calm_line (read_line n max) = true
is_calm_line (write_line n bytes) = true
is_calm_line (take_output n max) = true
is_calm_line (set_carrier n up) = true
is_calm_line (end_line n) = true
is_calm_line (revoke_line n) = false
is_calm_line (flush_line n input output) = true
is_calm_line (retune_line n t) = true
is_calm_line (set_session n session group) = true
is_calm_line (set_foreground n group) = true

pub lines_step : (p : ℕ) (revokes : Revokes) (m : Parts NamedFile Tagged) (e : LineEffect) → (is_calm_line e ≡ false → AreEarlier p m.descriptors.files)
    → seen (revokes_after revokes p e) (change_lines (tagging p revokes) m e) ≡ change_lines seeing (seen revokes m) e
unfolding change_lines revokes_after
lines_step p revokes m (open_line n t) earlier =
    changes revokes m n (device.open_file t) (device.open_file t) (lemmas.open_file-map byte_of t)
lines_step p revokes m (receive_byte n b) earlier =
    changes revokes m n (λ line. (device.receive (tagging p revokes).cells line b).0) (λ line. (device.receive seeing.cells line b).0)
    (λ line. lemmas.receive-map (tagging p revokes).cells seeing.cells byte_of (λ c. refl) (λ b. refl) line b)
lines_step p revokes m (read_line n max) earlier =
    changes revokes m n (λ line. device.after_read line max) (λ line. device.after_read line max) (λ line. lemmas.after_read-map byte_of line max)
lines_step p revokes m (write_line n bytes) earlier =
    changes revokes m n (λ line. device.put (tagging p revokes).cells line bytes) (λ line. device.put seeing.cells line bytes)
    (λ line. lemmas.put-map (tagging p revokes).cells seeing.cells byte_of (λ c. refl) (λ b. refl) line bytes)
lines_step p revokes m (take_output n max) earlier =
    changes revokes m n (λ line. device.take_output line max) (λ line. device.take_output line max) (λ line. lemmas.take_output-map byte_of line max)
lines_step p revokes m (set_carrier n up) earlier =
    changes revokes m n (λ line. device.set_carrier line up) (λ line. device.set_carrier line up) (λ line. lemmas.set_carrier-map byte_of line up)
lines_step p revokes m (end_line n) earlier =
    changes revokes m n device.end_for_good device.end_for_good (lemmas.end_for_good-map byte_of)
lines_step p revokes m (revoke_line n) earlier =
    changes ((n, p) ∷ revokes) m n device.revoke device.revoke (lemmas.revoke-map byte_of)
    ∙ ap (λ files. record (record (seen revokes m) { lines = change_line device.revoke (seen revokes m).lines n }) {
      descriptors = record { table = m.descriptors.table; files = files };
    })
    (revoked-files p revokes n m.descriptors.files (earlier refl))
lines_step p revokes m (flush_line n input output) earlier =
    changes revokes m n (λ line. device.flush line input output) (λ line. device.flush line input output)
    (λ line. lemmas.flush-map byte_of line input output)
lines_step p revokes m (retune_line n t) earlier =
    changes revokes m n (λ line. device.retune line t) (λ line. device.retune line t) (λ line. lemmas.retune-map byte_of line t)
lines_step p revokes m (set_session n session group) earlier =
    changes revokes m n (λ line. device.set_session line session group) (λ line. device.set_session line session group) (λ line. refl)
lines_step p revokes m (set_foreground n group) earlier =
    changes revokes m n (λ line. device.set_foreground line group) (λ line. device.set_foreground line group) (λ line. refl)
